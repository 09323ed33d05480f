-- Faults of codes, by the first bad part of each.
use Rattle.std.proofs.Common.{◌≡◌, ℕ, ◌+◌, Option, Some, None, refl, ap, ◌∙◌}
use Rattle.std.specs.List.{sum_by}
use Rattle.std.specs.Option.{option_map}
use Rattle.vk_format.specs.declared.rules.ObjectFault.{ObjectFault}
use Rattle.vk_format.specs.declared.rules.ObjectRule.TheVariants.{O9}
use Rattle.vk_format.specs.Format.{fault}
use Rattle.vk_code_format.specs.declared.rows.CodeRow.{CodeRow}
use Rattle.vk_code_format.specs.Codes.{in_object}
use Rattle.vk_code_format.specs.Fields.{first_along}
use Rattle.vk_code_format.specs.Places.{part_at}
use Rattle.vk_object_format.specs.declared.rows.RawFunction.{RawFunction}
use Rattle.vk_object_format.specs.declared.rows.RawObject.{RawObject}
use Rattle.vk_object_format.specs.Object.{bad_part_of, codes_in, front_length, function_fault, function_length, functions_at}
use Rattle.vk_object_format.specs.Values.{function_of, object_of}
use Rattle.vk_object_faults.specs.Inner.Told.{code_size, fault_in_code, fault_in_function, faults_along, function_size}

module _ (o : RawObject) (f : RawFunction) (n p : ℕ) where
  part_fault : (c : CodeRow) → fault_in_code o f n p c ≡ option_map (λ part. fault (p + part_at (in_object 0 0) c part) O9) (bad_part_of (object_of o) (function_of f) c)
  unfolding fault_in_code
  part_fault c = refl

  pub none_code : (c : CodeRow) → bad_part_of (object_of o) (function_of f) c ≡ None → fault_in_code o f n p c ≡ None
  none_code c h = part_fault c ∙ ap (option_map (λ part. fault (p + part_at (in_object 0 0) c part) O9)) h

  pub some_code : (c : CodeRow) (part : ℕ) → bad_part_of (object_of o) (function_of f) c ≡ Some part → fault_in_code o f n p c ≡ Some (fault (p + part_at (in_object 0 0) c part) O9)
  some_code c part h = part_fault c ∙ ap (option_map (λ k. fault (p + part_at (in_object 0 0) c k) O9)) h

  pub function_is : fault_in_function o n p f ≡ faults_along o f 0 (p + front_length f) (codes_in f.codes)
  unfolding fault_in_function
  function_is = refl

pub size_is : (f : RawFunction) → function_size f ≡ front_length f + sum_by code_size (codes_in f.codes)
unfolding function_size
size_is f = refl

pub functions_are : (o : RawObject) → first_along function_size (fault_in_function o) 0 (functions_at o) o.functions ≡ first_along (function_length o) (function_fault o) 0 (functions_at o) o.functions
unfolding function_size fault_in_function code_size fault_in_code
functions_are o = refl
