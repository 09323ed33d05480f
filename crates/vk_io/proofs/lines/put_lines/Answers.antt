use Rattle.std.proofs.Common.{◌≡◌, ◌<◌, ◌+◌, ◌∷◌, ◌++◌, ℕ, List, length, IsTrue, rules, drop, get_or, add-one, suc, subst, sym, ap, ◌∙◌}
use Rattle.std.proofs.Math.Seq.{drop-cons}
use Rattle.std.specs.Prelude.{Err, OnErr, Result, Ok}
use Rattle.vk_io.specs.Inner.Lines.{pieces}
use Rattle.vk_io.specs.Lines.{StopsAt}
use Rattle.vk_io.specs.Sink.{SinkState}
use Rattle.vk_io.proofs.Grown.{GrowsWithin-put, Puts-stopped}
use Rattle.vk_io.proofs.Sofar.{HasPut, HasPut-more, HasPut-stops, StopsAt-front}
use Rattle.vk_io.proofs.lines.put_lines.Goals as goal

-- the next length stands at the front of those that are left
next : (a b : SinkState) (ns bytes rest : List ℕ) (i : ℕ) → i < length ns → HasPut a b ns bytes (drop i ns) rest → HasPut a b ns bytes (get_or ns i 0 ∷ drop (i + 1) ns) rest
next a b ns bytes rest i inside h = subst (λ left. HasPut a b ns bytes left rest) (drop-cons ns i 0 inside ∙ ap (λ k. get_or ns i 0 ∷ drop k ns) (sym (add-one i))) h

on_err : {T E : Type 0} (r : Result T E) (P : Type 0) → P → OnErr r P
on_err (Ok _) P p = tt
on_err (Err _) P p = p

-- the texts of the buffer are the lines
lines_are : (ns items bytes kept : List ℕ) (lines : List (List ℕ)) (a c : SinkState) → ns ≡ items → bytes ≡ kept → pieces items kept ≡ lines → StopsAt (pieces ns bytes) a c → StopsAt lines a c
lines_are ns items bytes kept lines a c n b view s = subst (λ (ls : List (List ℕ)). StopsAt ls a c) (ap (λ l. pieces l bytes) n ∙ ap (pieces items) b ∙ view) s

pub returns-in_err-put-clause-stopped : goal.returns-in_err-put-clause-stopped
returns-in_err-put-clause-stopped g c = on_err _ _
    (lines_are _ _ _ _ _ _ _ c.deref-length-items.ensures.value c.as_slice-rest.ensures.value c.lines.view_is
    (HasPut-stops _ _ _ _ _ _ _ _ _ (next _ _ _ _ _ _ c.loop-length-test.true c.loop-length.invariant) c.split_at.ensures.front c.put.ensures.calls
    (λ told. GrowsWithin-put _ _ _ _ (c.put.ensures.put told))))

pub returns-in_err-put-clause-put : goal.returns-in_err-put-clause-put
returns-in_err-put-clause-put g c = λ told. Puts-stopped _ _ _ _ (search rules) (StopsAt-front _ (g.O.Sink.state c.args.out.now) (g.O.Sink.state c.put.new.self)
    (lines_are _ _ _ _ _ _ _ c.deref-length-items.ensures.value c.as_slice-rest.ensures.value c.lines.view_is
    (HasPut-stops _ _ _ _ _ _ _ _ _ (next _ _ _ _ _ _ c.loop-length-test.true c.loop-length.invariant) c.split_at.ensures.front c.put.ensures.calls
    (λ told. GrowsWithin-put _ _ _ _ (c.put.ensures.put told)))) told)

pub loop-length-preserved : goal.loop-length-preserved
loop-length-preserved g c =
    HasPut-more _ _ _ _ _ _ _ _ _ (next _ _ _ _ _ _ c.loop-length-test.true c.loop-length.invariant) c.split_at.ensures.back c.put.ensures.calls
    (λ told. c.in_ok-put.ensures.put told ∙ ap (λ t. (g.O.Sink.state c.loop-length.out).bytes ++ t) c.split_at.ensures.front) c.put.ensures.stays
