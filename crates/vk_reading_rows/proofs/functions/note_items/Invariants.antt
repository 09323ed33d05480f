use Rattle.std.proofs.Common.{◌≡◌, ℕ, List, Some, map, take}
use Rattle.std.specs.Option.{option_map, option_or}
use Rattle.vk_ast.specs.Units.{item_of}
use Rattle.vk_rules.specs.Verdicts.{judged}
use Rattle.vk_reading_rows.specs.Inner.Noted.{noted}
use Rattle.vk_reading_rows.specs.Functions.{place_among}
use Rattle.vk_reading_rows.proofs.functions.note_items.Given as goal

abbrev pub invariant-loop-number : goal.invariant-loop-number
invariant-loop-number l = (t : List ℕ) → noted l.table t ≡ option_or (noted l.fn.table t) (option_map Some (place_among l.unit (judged l.checked).texts (map item_of (take l.number l.items)) t))
