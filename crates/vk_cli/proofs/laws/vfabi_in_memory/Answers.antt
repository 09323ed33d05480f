use Rattle.std.proofs.Common.{refl}
use Rattle.vk_cli.proofs.InMemory.{command_complete}
use Rattle.vk_cli.proofs.laws.vfabi_in_memory.Goals as goal

pub returns : goal.returns
returns c = record {
  complete = λ k is there text stop p. command_complete k _ _ _ _ c.vfabi.result (c.vfabi.ensures.command k is) refl refl there refl refl text stop p;
}
