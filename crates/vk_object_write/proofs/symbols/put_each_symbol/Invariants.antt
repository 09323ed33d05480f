use Rattle.std.proofs.Common.{◌≡◌, ◌++◌, take}
use Rattle.std.specs.List.{flat_map}
use Rattle.vk_object.specs.Objects.{symbol_text}
use Rattle.vk_code_write.specs.Inner.Bytes.{text_bytes}
use Rattle.vk_object_write.proofs.symbols.put_each_symbol.Given as goal

abbrev pub invariant-loop-symbol : goal.invariant-loop-symbol
invariant-loop-symbol l = l.out.items ≡ l.fn.out.items ++ flat_map (λ s. text_bytes (symbol_text s)) (take l.symbol-index l.symbols)
