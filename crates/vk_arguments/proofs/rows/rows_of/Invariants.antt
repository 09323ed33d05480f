-- The texts before the index have their rows.
use Rattle.std.proofs.Common.{map}
use Rattle.vk_arguments.specs.Inner.Rows.{AreRows}
use Rattle.vk_arguments.proofs.rows.rows_of.Given as goal

abbrev pub invariant-loop-parameter : goal.invariant-loop-parameter
invariant-loop-parameter g l =
    AreRows (g.V.Values.meaning l.fn.values) (g.V.Values.arrays l.fn.values) l.lanes l.parameter l.fn.types (map (λ s. s.now) l.fn.texts) l.words.items
