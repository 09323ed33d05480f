use Rattle.std.proofs.Common.{◌≡◌, ℕ, ◌+◌, ◌-◌, ◌≤◌, ◌++◌, List, length, None}
use Rattle.vk_pieces.specs.Standing.{fed, onward}
use Rattle.vk_pieces.proofs.pieces.Pieces.goes.Given as goal

abbrev pub invariant-loop-self : goal.invariant-loop-self
invariant-loop-self g l =
    (l.self.failed ≡ None)
    × ((more : List ℕ) → onward (g.F.Fields.left l.fn.fields l.fn.self.at) l.fn.self (l.piece ++ more) ≡ onward (g.F.Fields.left l.fields l.self.at) l.self (l.rest ++ more))
    × (fed l.self + length l.rest ≡ fed l.fn.self + length l.piece)
    × (length l.self.pending.items ≤ g.F.Fields.width l.fields - 1)

abbrev pub decreases-loop-self : goal.decreases-loop-self
decreases-loop-self g l = length l.rest + length l.self.pending.items
