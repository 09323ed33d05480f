use Rattle.vk_construct_memory.proofs.Nodes.{tree_deref, tree_index}
use Rattle.vk_construct_memory.proofs.laws.loads_follow_pointers.Goals as goal

pub returns-clause-index : goal.returns-clause-index
returns-clause-index c = λ a b c' d g scope tb l p base e i i' types types' to s r r' rd re m f it lm ty lr x y z em lmd is target tr tr' z' em' lmg is' typed free above trg.
    tree_index a b c' d g scope tb l p base e i i' types types' to s r r' rd re m f it lm ty lr x y z em lmd is target tr tr' z' em' lmg is' (record { typed = typed; free = free; above = above }) trg

pub returns-clause-deref : goal.returns-clause-deref
returns-clause-deref c = λ a b c' scope tb l p operand i types to written r d m f it lm ty x z em lmc is typed free above tr.
    tree_deref a b c' scope tb l p operand i types to written r d m f it lm ty x z em lmc is (record { typed = typed; free = free; above = above }) tr
