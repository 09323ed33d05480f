use Rattle.std.proofs.Common.{arith}
use Rattle.vk_parse_directives.proofs.Lists.{no_name}
use Rattle.vk_parse_directives.proofs.words.named_word.Goals as goal

pub returns-else-id-len : goal.returns-else-id-len
returns-else-id-len c = no_name c.args.names.now c.args.id.0 (omega (arith, c.if-id-len.false, c.len.ensures.length))
