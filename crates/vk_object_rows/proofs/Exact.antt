-- Rows whose numbers have one byte are cut to themselves.
use Rattle.std.proofs.Common.{◌≡◌, ℕ, ◌%◌, ◌<◌, true, refl, ap, arith}
use Rattle.std.proofs.lemmas.Bool.{ltb-true}
use Rattle.vk_code_format.specs.declared.rows.ParamKind.{ParamKind}
use Rattle.vk_code_format.specs.declared.rows.ParamKind.TheVariants.{Vector, Uniform, By, Along}
use Rattle.vk_code_format.specs.declared.rows.ParamRow.{ParamRow}
use Rattle.vk_code_format.specs.Parameters.{param_of}
use Rattle.vk_object_fields.specs.Cut.{cut_row, cut_value, is_near, is_near_at}

near_value : (k : ParamKind) (v : ℕ) → is_near_at k v ≡ true → cut_value k v ≡ v
near_value Vector v h = refl
near_value Uniform v h = refl
near_value By v h = refl
near_value Along v h = let lt : v < 256 = ltb-true _ _ h in omega (arith, lt)

pub near_row : (r : ParamRow) → is_near r ≡ true → param_of (cut_row r) ≡ param_of r
near_row r h = ap (λ v. param_of (record { kind = r.kind; value = v; align = r.align })) (near_value r.kind r.value h)
