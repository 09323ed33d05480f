use Rattle.std.proofs.Common.{◌≡◌, [], true, false, take}
use Rattle.vk_ast.specs.Directives.{directive_of}
use Rattle.vk_ast.specs.Units.{function_of}
use Rattle.vk_rules_book.specs.Noting.{found}
use Rattle.vk_rules_book.specs.Visits.{entry_visits}
use Rattle.vk_rules_book.specs.Directives.{all_entry_faults, is_empty, is_listed}
use Rattle.vk_rules_names.specs.Seen.{unit_of}
use Rattle.vk_rules_directives.specs.Inner.Tables.{Holds}
use Rattle.vk_rules_directives.proofs.entries.judge_entries.Given as goal

abbrev pub invariant-loop-e : goal.invariant-loop-e
invariant-loop-e l = record {
  noted : l.note.first ≡ found (unit_of l.at.place.now) l.fn.note.first (entry_visits (function_of l.at.f.now) (directive_of l.at.d.now) [] (take l.e-index l.entries));
  sound : l.sound ≡ is_empty (all_entry_faults (function_of l.at.f.now) (directive_of l.at.d.now) [] (take l.e-index l.entries));
  shaped : Holds l.shaped (is_listed false (take l.e-index l.entries));
  aligned : Holds l.aligned (is_listed true (take l.e-index l.entries));
}
