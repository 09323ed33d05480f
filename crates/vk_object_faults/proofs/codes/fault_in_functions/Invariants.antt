use Rattle.std.proofs.Common.{◌≡◌, ℕ, ◌+◌, ◌<◌, ◌==◌, count_by, get_or, length, map, take}
use Rattle.std.specs.List.{sum_by}
use Rattle.vk_code_rows.specs.Sums.{capped}
use Rattle.vk_code.specs.Valid.{environment_of}
use Rattle.vk_object.specs.Objects.{names_of}
use Rattle.vk_object_format.specs.declared.rows.RawObject.{RawObject}
use Rattle.vk_object_format.specs.Values.{object_of}
use Rattle.vk_object_faults.specs.Inner.Told.{fault_in_function, function_size}
use Rattle.vk_object_faults.proofs.Along.{Going}
use Rattle.vk_object_faults.proofs.codes.fault_in_functions.Given as goal

abbrev pub invariant-loop-i : goal.invariant-loop-i
invariant-loop-i l = (o : RawObject) → environment_of l.env ≡ names_of (object_of o) → (n p : ℕ) → l.fn.at ≡ capped p → Going function_size (fault_in_function o) l.functions n p l.i l.place
