use Rattle.std.proofs.Common.{◌+◌, ◌-◌, ◌<◌, vec_len}
use Rattle.vk_io.proofs.Sofar.{HasRead}
use Rattle.vk_io.proofs.whole.read_whole.Given as goal

abbrev pub invariant-loop-all : goal.invariant-loop-all
invariant-loop-all g l =
    (0 < vec_len l.piece) × HasRead l.name (g.S.Store.state l.initial.store) (g.S.Store.state l.store) l.all.items

abbrev pub decreases-loop-all : goal.decreases-loop-all
decreases-loop-all g l = l.limit + 1 - vec_len l.all
