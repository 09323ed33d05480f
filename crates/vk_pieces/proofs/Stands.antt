-- What pieces stand for.
use Rattle.std.proofs.Common.{◌≡◌, ℕ, ◌+◌, ◌<◌, List, [], ◌++◌, length, Option, Some, None, Result, Ok, Err, append_assoc, append-nil, refl, sym, ap, ◌∙◌, subst}
use Rattle.std.specs.Prelude.{OnOk, IfErr}
use Rattle.std.proofs.lemmas.Bool.{lt-ltb}
use Rattle.vk_format.specs.declared.rules.ObjectFail.{ObjectFail}
use Rattle.vk_format.specs.declared.rules.ObjectFail.TheVariants as fails
use Rattle.vk_format.specs.declared.rules.ObjectFault.{ObjectFault}
use Rattle.vk_format.specs.declared.rules.ObjectRule.TheVariants.{O4}
use Rattle.vk_format.specs.Format.{Format, Field, Whole, fault, judge, advance, told, ended, more}
use Rattle.vk_format.proofs.Pieces.{advance_more, judge_advance, told_stays_at}
use Rattle.vk_code_read.specs.Inner.Left.{taken}
use Rattle.vk_pieces.specs.Fields.{IsField}
use Rattle.vk_pieces.specs.declared.pieces.Pieces.{Pieces}
use Rattle.vk_pieces.specs.Standing.{IsEnded, IsTold, Stands, TellsFail, left_now, onward, stands_by}
use Rattle.vk_pieces.proofs.Taken.{keeps}

module _ {R : Type 0} (f : Format R) where
  judge_told : (bytes : List ℕ) (e : ObjectFault) → told (advance f 0 bytes) ≡ Some e → judge f 0 bytes ≡ Err e
  unfolding ended
  judge_told bytes e h =
      let l = advance f 0 bytes in
      judge_advance f 0 bytes ∙ ap (judge l.format l.at) (sym (append-nil l.pending)) ∙ told_stays_at l.format l.at l.pending e h []

  at_end : (bytes : List ℕ) (e : ObjectFault) → ((more : List ℕ) → told (advance f 0 (bytes ++ more)) ≡ Some e) → told (advance f 0 bytes) ≡ Some e
  at_end bytes e h = subst (λ (x : List ℕ). told (advance f 0 x) ≡ Some e) (append-nil bytes) (h [])

  failed_read : (T : Type 0) (rows : R) (e : ObjectFail) (now : Format R) (p : Pieces) (bytes : List ℕ) → stands_by (Some e) f now p bytes → IsEnded {T = T} (Err e) f rows bytes
  failed_read T rows (fails.Fault e) now p bytes h = judge_told bytes e (at_end bytes e h)
  failed_read T rows fails.Memory now p bytes h = tt

  failed_told : (T : Type 0) (e : ObjectFail) (now : Format R) (p : Pieces) (bytes : List ℕ) → stands_by (Some e) f now p bytes → IsTold {T = T} (Err e) (advance f 0 bytes)
  failed_told T (fails.Fault e) now p bytes h = at_end bytes e h
  failed_told T fails.Memory now p bytes h = tt

  failed_on : (e : ObjectFail) (now : Format R) (p : Pieces) (bytes piece : List ℕ) → stands_by (Some e) f now p bytes → stands_by (Some e) f now p (bytes ++ piece)
  failed_on (fails.Fault e) now p bytes piece h = λ more. rw (append_assoc bytes piece more) (h (piece ++ more))
  failed_on fails.Memory now p bytes piece h = tt

  stands_as : (o : Option ObjectFail) (now : Format R) (p : Pieces) (bytes : List ℕ) → p.failed ≡ o → Stands f now p bytes → stands_by o f now p bytes
  unfolding Stands
  stands_as o now p bytes e h = subst (λ x. stands_by x f now p bytes) e h

  as_stands : (o : Option ObjectFail) (now : Format R) (p : Pieces) (bytes : List ℕ) → p.failed ≡ o → stands_by o f now p bytes → Stands f now p bytes
  unfolding Stands
  as_stands o now p bytes e h = subst (λ x. stands_by x f now p bytes) (sym e) h

  -- where no byte has come all is wanted
  pub fresh : (width : ℕ) (p : Pieces) → 0 < width → IsField f width → p.failed ≡ None → p.at ≡ 0 → p.pending.items ≡ [] → Stands f f p []
  fresh width p wide is none at empty = as_stands None f p [] none (rw (at, empty) (keeps f width 0 [] is wide))

  -- ---- the end

  pub ends_failed : (T : Type 0) (rows : R) (e : ObjectFail) (now : Format R) (p : Pieces) (bytes : List ℕ) → p.failed ≡ Some e → Stands f now p bytes
      → IsEnded {T = T} (Err e) f rows bytes
  ends_failed T rows e now p bytes is h = failed_read T rows e now p bytes (stands_as (Some e) now p bytes is h)

  judge_left : (now : Format R) (p : Pieces) (bytes : List ℕ) → p.failed ≡ None → Stands f now p bytes → judge f 0 bytes ≡ judge now p.at p.pending.items
  unfolding ended
  judge_left now p bytes is h = judge_advance f 0 bytes ∙ ap ended (stands_as None now p bytes is h)

  judge_whole : (rows : R) (at : ℕ) → judge (Whole rows) at [] ≡ Ok rows
  unfolding judge
  judge_whole rows at = refl

  pub ends_whole : (rows : R) (now : Format R) (p : Pieces) (bytes : List ℕ) → p.failed ≡ None → p.pending.items ≡ [] → now ≡ Whole rows → Stands f now p bytes
      → judge f 0 bytes ≡ Ok rows
  ends_whole rows now p bytes is empty whole h = judge_left now p bytes is h ∙ rw (empty, whole) (judge_whole rows p.at)

  judge_short : (width : ℕ) (next : List ℕ → Format R) (at : ℕ) (bytes : List ℕ) → length bytes < width → judge (Field width next) at bytes ≡ Err (fault (at + length bytes) O4)
  unfolding judge
  judge_short width next at bytes lt = rw (lt-ltb _ _ lt) refl

  pub ends_short : (width : ℕ) (now : Format R) (p : Pieces) (bytes : List ℕ) → p.failed ≡ None → IsField now width → length p.pending.items < width → Stands f now p bytes
      → judge f 0 bytes ≡ Err (fault (p.at + length p.pending.items) O4)
  ends_short width now p bytes is field lt h =
      judge_left now p bytes is h
      ∙ ap (λ g. judge g p.at p.pending.items) field
      ∙ judge_short width (taken now) p.at p.pending.items lt

  -- ---- a piece more

  goes_on : (now : Format R) (p : Pieces) (bytes piece : List ℕ) → p.failed ≡ None → Stands f now p bytes → advance f 0 (bytes ++ piece) ≡ onward now p piece
  unfolding more
  goes_on now p bytes piece is h = advance_more f 0 bytes piece ∙ ap (λ l. more l piece) (stands_as None now p bytes is h)

  pub feeds : {T : Type 0} (r : Result T ObjectFail) (now new : Format R) (p q : Pieces) (bytes piece : List ℕ) → p.failed ≡ None
      → OnOk r (onward now p piece ≡ left_now new q) → OnOk r (q.failed ≡ None) → IfErr r (λ e. q.failed ≡ Some e)
      → IfErr r (λ e. (m : List ℕ) → TellsFail e (onward now p (piece ++ m))) → Stands f now p bytes → Stands f new q (bytes ++ piece)
  feeds (Ok u) now new p q bytes piece is ok none failed err h = as_stands None new q (bytes ++ piece) none (goes_on now p bytes piece is h ∙ ok)
  feeds (Err (fails.Fault e)) now new p q bytes piece is ok none failed err h =
      as_stands (Some (fails.Fault e)) new q (bytes ++ piece) failed (λ m. rw (append_assoc bytes piece m, goes_on now p bytes (piece ++ m) is h) (err m))
  feeds (Err fails.Memory) now new p q bytes piece is ok none failed err h = as_stands (Some fails.Memory) new q (bytes ++ piece) failed tt

  pub tells : {T : Type 0} (r : Result T ObjectFail) (new : Format R) (q : Pieces) (bytes : List ℕ) → OnOk r (told (left_now new q) ≡ None) → OnOk r (q.failed ≡ None)
      → IfErr r (λ e. q.failed ≡ Some e) → Stands f new q bytes → IsTold r (advance f 0 bytes)
  tells (Ok u) new q bytes quiet none failed h = ap told (stands_as None new q bytes none h) ∙ quiet
  tells {T = T} (Err e) new q bytes quiet none failed h = failed_told T e new q bytes (stands_as (Some e) new q bytes failed h)

  -- a fault stays
  pub feeds_failed : (e : ObjectFail) (now : Format R) (p : Pieces) (bytes piece : List ℕ) → p.failed ≡ Some e → Stands f now p bytes → Stands f now p (bytes ++ piece)
  feeds_failed e now p bytes piece is h = as_stands (Some e) now p (bytes ++ piece) is (failed_on e now p bytes piece (stands_as (Some e) now p bytes is h))

  pub tells_failed : (T : Type 0) (e : ObjectFail) (now : Format R) (p : Pieces) (bytes : List ℕ) → p.failed ≡ Some e → Stands f now p bytes → IsTold {T = T} (Err e) (advance f 0 bytes)
  tells_failed T e now p bytes is h = failed_told T e now p bytes (stands_as (Some e) now p bytes is h)

  -- want of memory stands for any bytes
  pub stands_memory : (now : Format R) (p : Pieces) (bytes : List ℕ) → p.failed ≡ Some fails.Memory → Stands f now p bytes
  stands_memory now p bytes is = as_stands (Some fails.Memory) now p bytes is tt

-- what goes on with more goes on with nothing more
pub at_last : {R : Type 0} (now new : Format R) (p q : Pieces) (piece rest : List ℕ) → ((m : List ℕ) → onward now p (piece ++ m) ≡ onward new q (rest ++ m)) → onward now p piece ≡ onward new q rest
at_last now new p q piece rest h = ap (onward now p) (sym (append-nil piece)) ∙ h [] ∙ ap (onward new q) (append-nil rest)
