-- The parameters of a directive or an entry.
use Rattle.std.specs.Prelude.{ℕ, ◌-◌, ◌^◌, ◌==◌, nat_lt, Bool, true, not, ◌&&◌, if◌then◌else◌, ℤ, pos, negsuc, List, [], ◌∷◌, Option, Some, None}
use Rattle.vk_kinds.specs.declared.heads.CType.{CType}
use Rattle.vk_kinds.specs.declared.kinds.Kind.{Kind}
use Rattle.vk_kinds.specs.declared.kinds.Kind.TheVariants as kind
use Rattle.vk_kinds.specs.declared.kinds.Step.{Step}
use Rattle.vk_kinds.specs.declared.kinds.Step.TheVariants as step
use Rattle.vk_kinds.specs.declared.kinds.Param.{Param}
use Rattle.vk_kinds.specs.Types.{ctype_number}
use Rattle.vk_code.specs.Valid.{is_written}
use Rattle.vk_object.specs.Parameters.{is_aligned, is_aligned_at, is_step, is_whole}
use Rattle.vk_format.specs.declared.rules.ObjectRule.TheVariants.{O7}
use Rattle.vk_format.specs.Codec.{Codec, number, field, judged, given}
use Rattle.vk_code_format.specs.declared.rows.ParamKind.{ParamKind}
use Rattle.vk_code_format.specs.declared.rows.ParamKind.TheVariants.{Vector, Uniform, By, Along}
use Rattle.vk_code_format.specs.declared.rows.ParamRow.{ParamRow}
use Rattle.vk_code_format.specs.Fields.{coded, optional}

-- ---- numbers

-- 32 bits in two's complement
abbrev pub signed : ℕ → ℤ
signed n = if nat_lt n (2 ^ 31) then pos n else negsuc (2 ^ 32 - 1 - n)

abbrev pub signed_bits : ℤ → ℕ
signed_bits (pos n) = n
signed_bits (negsuc n) = 2 ^ 32 - 1 - n

-- a constant step
abbrev pub step_by : ℤ → Step
step_by (pos n) = if n == 1 then step.One else step.By (pos n)
step_by (negsuc n) = step.By (negsuc n)

-- ---- one parameter; its type is known in a directive, and judged with the codes in an entry

-- the test holds of what is known
abbrev pub where_known : {A : Type 0} → (A → Bool) → Option A → Bool
where_known test None = true
where_known test (Some a) = test a

abbrev pub param_kinds : List ParamKind
param_kinds = Vector ∷ Uniform ∷ By ∷ Along ∷ []

abbrev pub kind_number : ParamKind → ℕ
kind_number Vector = 0
kind_number Uniform = 1
kind_number By = 2
kind_number Along = 3

-- a written pointer is not uniform
abbrev pub kind_fits : Option CType → ParamKind → Bool
kind_fits t Vector = true
kind_fits t Uniform = where_known (λ u. not (is_written (ctype_number u))) t
kind_fits t By = true
kind_fits t Along = true

-- a constant step is not 0, of magnitude at most 2147483647, and counts whole elements of a pointer
abbrev pub value_fits : Option CType → ParamKind → ℕ → Bool
value_fits t Vector value = value == 0
value_fits t Uniform value = value == 0
value_fits t By value = is_step [] (step_by (signed value)) && where_known (λ u. is_whole (ctype_number u) (signed value)) t
value_fits t Along value = true

-- a power of two from 1 to 65536, of a pointer
abbrev pub align_fits : Option CType → Option ℕ → Bool
align_fits t align = is_aligned align && where_known (λ u. is_aligned_at (ctype_number u) align) t

abbrev pub param : {R : Type 0} → Option CType → Codec R ParamRow
param t =
    field (λ p. p.kind) (judged O7 (kind_fits t) (coded O7 param_kinds kind_number)) λ kind.
    field (λ p. p.value) (judged O7 (value_fits t kind) (number 4)) λ value.
    field (λ p. p.align) (judged O7 (align_fits t) (optional 4 0)) λ align.
    given (record { kind = kind; value = value; align = align })

-- ---- what they stand for

abbrev pub kind_of : ParamKind → ℕ → Kind
kind_of Vector value = kind.Vector
kind_of Uniform value = kind.Uniform
kind_of By value = kind.Linear (step_by (signed value))
kind_of Along value = kind.Linear (step.Arg value)

abbrev pub param_of : ParamRow → Param
param_of p = record { kind = kind_of p.kind p.value; align = p.align }

abbrev pub step_row : Step → Option ℕ → ParamRow
step_row step.One align = record { kind = By; value = 1; align = align }
step_row (step.By n) align = record { kind = By; value = signed_bits n; align = align }
step_row (step.Arg q) align = record { kind = Along; value = q; align = align }

-- references have no row of their own
abbrev pub kind_row : Kind → Option ℕ → ParamRow
kind_row kind.Vector align = record { kind = Vector; value = 0; align = align }
kind_row kind.Uniform align = record { kind = Uniform; value = 0; align = align }
kind_row (kind.Linear s) align = step_row s align
kind_row (kind.Ref s) align = step_row s align
kind_row (kind.Val s) align = step_row s align
kind_row (kind.Uval s) align = step_row s align

abbrev pub param_row : Param → ParamRow
param_row p = kind_row p.kind p.align
