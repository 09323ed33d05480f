-- Rows of parameters that name others by one byte.
use Rattle.std.specs.Prelude.{ℕ, ◌%◌, nat_lt, Bool, true}
use Rattle.vk_code_format.specs.declared.rows.ParamKind.{ParamKind}
use Rattle.vk_code_format.specs.declared.rows.ParamKind.TheVariants.{Vector, Uniform, By, Along}
use Rattle.vk_code_format.specs.declared.rows.ParamRow.{ParamRow}

-- the low byte of the number of a parameter
abbrev pub cut_value : ParamKind → ℕ → ℕ
cut_value Vector value = value
cut_value Uniform value = value
cut_value By value = value
cut_value Along value = value % 256

abbrev pub cut_row : ParamRow → ParamRow
cut_row p = record { kind = p.kind; value = cut_value p.kind p.value; align = p.align }

-- one that it names has a number of one byte
abbrev pub is_near_at : ParamKind → ℕ → Bool
is_near_at Vector value = true
is_near_at Uniform value = true
is_near_at By value = true
is_near_at Along value = nat_lt value 256

abbrev pub is_near : ParamRow → Bool
is_near p = is_near_at p.kind p.value
