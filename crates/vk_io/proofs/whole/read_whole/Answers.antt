use Rattle.std.proofs.Common.{rules, arith, ◌≡◌, ◌<◌, length, vec_len}
use Rattle.vk_io.proofs.Counting.{Reads-then}
use Rattle.vk_io.proofs.Fronts.{IsTooLong-front}
use Rattle.vk_io.proofs.Sofar.{HasRead-none, HasRead-more, HasRead-whole}
use Rattle.vk_io.proofs.whole.read_whole.Goals as goal

pub loop-all-init : goal.loop-all-init
loop-all-init g c =
    let room : 0 < vec_len c.in_ok-piece.piece = grind arith in
    (room, rw c.new-all.ensures.items (HasRead-none _ _))

pub returns-then-len-limit-clause-size : goal.returns-then-len-limit-clause-size
returns-then-len-limit-clause-size g c = λ told _.
    let all : c.len.result ≡ length c.loop-all.all.items = search rules in
    IsTooLong-front _ _ _ (c.loop-all.invariant.1.read told) (rw (← all) c.if-len-limit.true)

pub returns-in_err-read_more-clause-stays : goal.returns-in_err-read_more-clause-stays
returns-in_err-read_more-clause-stays g c = Reads-then _ _ _ _ c.loop-all.invariant.1.stays c.read_more.ensures.stays

pub returns-then-branch-eq0-clause-found : goal.returns-then-branch-eq0-clause-found
returns-then-branch-eq0-clause-found g c =
    HasRead-whole _ _ _ _ _ c.loop-all.invariant.1 (λ told front. c.in_ok-read_more.ensures.end told front c.if-branch-eq0.true)

pub returns-then-branch-eq0-clause-stays : goal.returns-then-branch-eq0-clause-stays
returns-then-branch-eq0-clause-stays g c = Reads-then _ _ _ _ c.loop-all.invariant.1.stays c.read_more.ensures.stays

pub loop-all-preserved : goal.loop-all-preserved
loop-all-preserved g c = (
  c.loop-all.invariant.0,
  HasRead-more _ _ _ _ _ _ c.loop-all.invariant.1 c.read_more.ensures.stays c.in_ok-read_more.ensures.front,
)
