use Rattle.vk_object.specs.Objects.{symbol_text}
use Rattle.vk_code_write.specs.Inner.Bytes.{text_bytes}
use Rattle.vk_code_write.proofs.Members.{counted}
use Rattle.vk_object_write.proofs.symbols.put_symbols.Goals as goal

pub returns : goal.returns
returns c = record { written = counted 4 c.put_each_symbol.result _ _ _ text_bytes symbol_text c.args.symbols.now c.in_ok-put_count_u32.ensures.written c.put_each_symbol.ensures.written }
