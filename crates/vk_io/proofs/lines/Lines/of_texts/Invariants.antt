use Rattle.std.proofs.Common.{◌≡◌, map, string_bytes, take}
use Rattle.vk_io.proofs.lines.Lines.of_texts.Given as goal

abbrev pub invariant-loop-text : goal.invariant-loop-text
invariant-loop-text l = l.lines ≡ map string_bytes (take l.text-index l.texts)
