use Rattle.std.proofs.Common.{◌≡◌, ◌++◌, take}
use Rattle.vk_variants.proofs.Lists.{texts_of}
use Rattle.vk_variants.proofs.list.NameList.add.Given as goal

abbrev pub invariant-loop-front : goal.invariant-loop-front
invariant-loop-front l = l.self ≡ l.fn.self ++ texts_of l.scalar l.s.params.items (take l.front-index l.fronts)
