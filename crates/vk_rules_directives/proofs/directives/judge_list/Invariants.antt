use Rattle.std.proofs.Common.{◌≡◌, [], map, is_some, take}
use Rattle.std.specs.List.{list_all}
use Rattle.vk_ast.specs.Directives.{directive_of}
use Rattle.vk_ast.specs.Units.{function_of}
use Rattle.vk_rules_book.specs.Noting.{found}
use Rattle.vk_rules_book.specs.Visits.{directive_visits}
use Rattle.vk_rules_names.specs.Seen.{unit_of}
use Rattle.vk_rules_directives.specs.Inner.Marks.{AreEmpty}
use Rattle.vk_rules_directives.specs.Inner.Signed.{seen, signed}
use Rattle.vk_rules_directives.proofs.directives.judge_list.Given as goal

abbrev pub invariant-loop-d : goal.invariant-loop-d
invariant-loop-d l = record {
  noted : l.note.first ≡ found (unit_of l.place) l.fn.note.first (directive_visits (function_of l.f) [] (map directive_of (take l.d-index l.f.directives.items)));
  list : map seen l.list.items ≡ map (signed (function_of l.f)) (map directive_of (take l.d-index l.f.directives.items));
  all : l.all ≡ list_all is_some (map (signed (function_of l.f)) (map directive_of (take l.d-index l.f.directives.items)));
  marks : AreEmpty l.marks;
}
