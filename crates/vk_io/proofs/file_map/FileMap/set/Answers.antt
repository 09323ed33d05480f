use Rattle.std.proofs.Common.{arith}
use Rattle.std.proofs.lemmas.Map.Text.{text_keys}
use Rattle.vk_io.proofs.file_map.FileMap.set.Goals as goal

pub returns-clause-others : goal.returns-clause-others
returns-clause-others c = λ q ne. grind (arith, text_keys)
