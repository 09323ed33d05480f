-- Faults by their places alone, which stay at the greatest number of 64 bits once they would pass it.
use Rattle.std.specs.Prelude.{ℕ, ◌+◌, ◌==◌, List, Option, count_by, slice_index}
use Rattle.std.specs.List.{sum_by}
use Rattle.std.specs.Option.{option_map}
use Rattle.vk_format.specs.declared.rules.ObjectFault.{ObjectFault}
use Rattle.vk_format.specs.declared.rules.ObjectRule.TheVariants.{O6}
use Rattle.vk_format.specs.Format.{fault}
use Rattle.vk_code_format.specs.declared.rows.CodeRow.{CodeRow}
use Rattle.vk_code_format.specs.Codes.{in_object}
use Rattle.vk_code_format.specs.Fields.{first_along, unless}
use Rattle.vk_code_format.specs.Places.{code_length}
use Rattle.vk_code_rows.specs.Sums.{capped}
use Rattle.vk_object_format.specs.declared.rows.RawFunction.{RawFunction}
use Rattle.vk_object_format.specs.declared.rows.RawObject.{RawObject}
use Rattle.vk_object_format.specs.Object.{code_fault, codes_in, front_length}

abbrev pub capped_fault : ObjectFault → ObjectFault
capped_fault f = record { at = capped f.at; rule = f.rule }

-- the place of a fault
abbrev pub place_told : Option ObjectFault → Option ℕ
place_told o = option_map (λ f. capped f.at) o

-- ---- symbols

-- how many records use the symbol with this number
abbrev pub uses_of : RawObject → ℕ → ℕ
uses_of o n = count_by (λ d. d.symbol == n) o.objects + count_by (λ f. f.symbol == n) o.functions

-- the first symbol that is not used once, by the numbers of uses
abbrev pub unused : List ℕ → ℕ → ℕ → List ℕ → Option ObjectFault
unused uses n at t = unless (slice_index uses n == 1) (fault at O6)

-- ---- codes, opaque in the loops over them

unfoldable pub code_size : CodeRow → ℕ
code_size c = code_length (in_object 0 0) c

unfoldable pub fault_in_code : RawObject → RawFunction → ℕ → ℕ → CodeRow → Option ObjectFault
fault_in_code o f n at c = code_fault o f n at c

-- the first fault of codes from a place on; the number of a code tells nothing
abbrev pub faults_along : RawObject → RawFunction → ℕ → ℕ → List CodeRow → Option ObjectFault
faults_along o f n at cs = first_along code_size (fault_in_code o f) n at cs

unfoldable pub function_size : RawFunction → ℕ
function_size f = front_length f + sum_by code_size (codes_in f.codes)

unfoldable pub fault_in_function : RawObject → ℕ → ℕ → RawFunction → Option ObjectFault
fault_in_function o n at f = faults_along o f 0 (at + front_length f) (codes_in f.codes)
