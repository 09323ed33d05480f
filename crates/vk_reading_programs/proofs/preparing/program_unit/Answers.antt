use Rattle.std.proofs.Common.{◌∙◌, ℕ, List, Option, ap, length, subst, sym, unwrap_or}
use Rattle.std.specs.Option.{option_and_then}
use Rattle.vk_ast.specs.declared.items.Item.{Item}
use Rattle.vk_meaning.specs.Programs.{array_number, arrays_of}
use Rattle.vk_rules_names.specs.Seen.{AreFirst}
use Rattle.vk_reading_rows.specs.declared.functions.FunctionPlace.{FunctionPlace}
use Rattle.vk_reading_rows.specs.Functions.{place_of}
use Rattle.vk_reading_programs.proofs.Naming.{row_is}
use Rattle.vk_reading_programs.proofs.preparing.program_unit.Goals as goal

pub returns-clause-right : goal.returns-clause-right
returns-clause-right c program numbering places = record {
  first = subst (λ (items : List Item). AreFirst items c.in_ok-first.first.items (length items)) (c.deref.ensures.value ∙ sym c.deref-2.ensures.value) c.in_ok-first.ensures.numbers;
  numbers = λ id. ap (λ (o : Option ℕ). unwrap_or o 0) (row_is (array_number (arrays_of program)) c.in_ok-numbers.numbers.items _ id (c.in_ok-numbers.ensures (arrays_of program) numbering));
  functions = λ id. ap (λ (o : Option (Option FunctionPlace)). option_and_then (λ p. p) o) (row_is (place_of program) c.in_ok-functions.functions.items _ id (c.in_ok-functions.ensures program places));
}
