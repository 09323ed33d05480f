use Rattle.std.proofs.Common.{◌≡◌, map, take}
use Rattle.vk_object.specs.Objects.{symbol_text}
use Rattle.vk_object_rows.proofs.object.symbols_of.Given as goal

abbrev pub invariant-loop-text : goal.invariant-loop-text
invariant-loop-text l = map symbol_text l.symbols.items ≡ take l.text-index l.texts
