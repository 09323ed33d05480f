-- The units of a program, its arrays and the definitions of its functions, as the reader holds them.
use Rattle.std.specs.Prelude.{ℕ, ◌≤◌, List, [], map, length, unwrap_or}
use Rattle.vk_types.specs.Numbers.{wrap_number, word_of}
use Rattle.vk_ast.specs.Units.{object_of}
use Rattle.vk_rules_book.specs.Items.{length_of}
use Rattle.vk_rules_book.specs.Rules.{Subject}
use Rattle.vk_rules.specs.declared.accepted.Source.{Source}
use Rattle.vk_rules.specs.Verdicts.{judged}
use Rattle.vk_meaning.specs.World.{Array, array_at}
use Rattle.vk_meaning.specs.Programs.{initial_number}
use Rattle.vk_reading_rows.specs.declared.objects.Placed.{Placed}

-- the units as they are judged
abbrev pub subjects_of : List Source → List Subject
subjects_of units = map judged units

-- the array that an object is
abbrev pub array_seen : Placed → Array
array_seen p = record {
  text = p.text.now;
  ty = p.object.now.ty;
  fixed = p.object.now.fixed;
  length = unwrap_or (length_of (object_of p.object.now)) 1;
  given = map (λ e. word_of (wrap_number p.object.now.ty (initial_number e))) (unwrap_or (object_of p.object.now).init []);
}

-- no array is given more elements than it has
abbrev pub AreGivenWithin : List Array → Type 0
AreGivenWithin arrays = (a : ℕ) → length (array_at arrays a).given ≤ (array_at arrays a).length
