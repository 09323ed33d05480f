-- What has come, and what a feed answers at its end.
use Rattle.std.proofs.Common.{◌≡◌, ℕ, zero, suc, ◌<◌, append-nil, Bool, true, false, List, [], ◌∷◌, ◌++◌, Option, Some, Result, Ok, Err, refl, sym, ap, ◌∙◌, subst, arith}
use Rattle.std.specs.Prelude.{IfOk, slice_index}
use Rattle.std.proofs.lemmas.Bool.{false≢true}
use Rattle.vk_format.specs.Bytes.{IsBytes}
use Rattle.vk_format.specs.declared.rules.ObjectFault.{ObjectFault}
use Rattle.vk_format.specs.declared.rules.ObjectFail.{ObjectFail}
use Rattle.vk_format.specs.declared.rules.ObjectFail.TheVariants as fails
use Rattle.vk_format.specs.Format.{Format, Refused, advance, ended, judge, told}
use Rattle.vk_format.proofs.Pieces.{judge_advance, told_stays_at}
use Rattle.vk_format.specs.Codec.{last}
use Rattle.vk_format.proofs.Inverse.{whole_takes}
use Rattle.vk_pieces.specs.Fields.{IsField}
use Rattle.vk_pieces.specs.declared.pieces.Pieces.{Pieces}
use Rattle.vk_pieces.specs.Standing.{IsEnded, IsTold, Stands as StandFor, fed}
use Rattle.vk_image_format.specs.declared.rows.RawImage.{RawImage}
use Rattle.vk_image_format.specs.Image.{image_bytes, image_faults, image_table}
use Rattle.vk_image_format.proofs.Inverse.{image_law}
use Rattle.vk_object.specs.declared.image.Image.{Image}
use Rattle.vk_image_write.specs.Lists.{image_lists}
use Rattle.vk_image_laws.proofs.Again.{bytes_again}
use Rattle.vk_image_laws.proofs.Ends.{tables_image}
use Rattle.vk_image_read.specs.declared.image.ImageFields.{ImageFields}
use Rattle.vk_image_codec.specs.Images.{StandsFor, are_valid}
use Rattle.vk_image_codec.specs.Reading.{IsRead}
use Rattle.vk_image_codec.specs.Rows.{rows_format, rows_left}
use Rattle.vk_image_codec.specs.Inner.Came.{Came}

-- ---- bytes that came

both_at : (xs ys : List ℕ) → IsBytes xs → IsBytes ys → (i : ℕ) → slice_index (xs ++ ys) i < 256
both_at [] ys h k i = k i
both_at (x ∷ xs) ys h k zero = h zero
both_at (x ∷ xs) ys h k (suc i) = both_at xs ys (λ j. h (suc j)) k i

no_bytes : IsBytes []
no_bytes i = omega arith

pub came_first : (now : Format RawImage) (p : Pieces) → StandFor rows_format now p [] → Came now p
came_first now p h = λ none. none [] no_bytes h

pub came_more : (now new : Format RawImage) (p q : Pieces) (piece : List ℕ) → IsBytes piece
    → ((bytes : List ℕ) → StandFor rows_format now p bytes → StandFor rows_format new q (bytes ++ piece)) → Came now p → Came new q
came_more now new p q piece are goes came = λ none. came (λ before past h. none (before ++ piece) (both_at before piece past are) (goes before h))

-- ---- the first field

pub first_field : IsField rows_format 8
unfolding rows_format
first_field = refl

pub fresh : (s : ImageFields) (p : Pieces) → rows_left s 0 ≡ rows_format → fed p ≡ 0 → StandFor rows_format rows_format p [] → StandFor rows_format (rows_left s p.at) p []
fresh s p start none h =
    let at : p.at ≡ 0 = omega (arith, none) in
    subst (λ (f : Format RawImage). StandFor rows_format f p []) (sym (ap (rows_left s) at ∙ start)) h

-- ---- the last field

pub last_refused : (o : Option ObjectFault) (e : ObjectFault) (tables : RawImage) → o ≡ Some e → last o tables ≡ Refused e.at e.rule
last_refused o e tables h = ap (λ x. last x tables) h

-- ---- the end

pub refused : (e : ObjectFail) (tables : RawImage) (bytes : List ℕ) → IsEnded {T = Unit {0}} (Err e) rows_format tables bytes → IsRead (Err e) bytes
refused (fails.Fault e) tables bytes h = h
refused fails.Memory tables bytes h = tt

valid_tables : (o : RawImage) (bytes : List ℕ) → IsBytes bytes → judge rows_format 0 bytes ≡ Ok o → are_valid o ≡ true
unfolding rows_format are_valid
valid_tables o bytes are h = tables_image o (whole_takes image_faults image_table image_law bytes o are h).0

true_where : (b : Bool) → ((b ≡ true → ⊥) → ⊥) → b ≡ true
true_where true h = refl
true_where false h = absurd (h (λ e. false≢true e))

-- tables that are whole stand for an image
pub tables_valid : (o : RawImage) (now : Format RawImage) (p : Pieces) → ((bytes : List ℕ) → StandFor rows_format now p bytes → judge rows_format 0 bytes ≡ Ok o) → Came now p → are_valid o ≡ true
tables_valid o now p whole came = true_where (are_valid o) (λ not. came (λ bytes are h. not (valid_tables o bytes are (whole bytes h))))

-- a fault that is told before the end is the bytes'
judge_told : (bytes : List ℕ) (e : ObjectFault) → told (advance rows_format 0 bytes) ≡ Some e → judge rows_format 0 bytes ≡ Err e
unfolding ended
judge_told bytes e h =
    let l = advance rows_format 0 bytes in
    judge_advance rows_format 0 bytes ∙ ap (judge l.format l.at) (sym (append-nil l.pending)) ∙ told_stays_at l.format l.at l.pending e h []

pub read_told : (e : ObjectFail) (bytes : List ℕ) → IsTold {T = Unit {0}} (Err e) (advance rows_format 0 bytes) → IsRead (Err e) bytes
read_told (fails.Fault e) bytes h = judge_told bytes e h
read_told fails.Memory bytes h = tt

-- ---- what is read is written again

spelled_by : (tables : RawImage) (image : Image) (bytes : List ℕ) → IsBytes bytes → judge rows_format 0 bytes ≡ Ok tables → StandsFor tables image → bytes ≡ image_bytes (image_lists image)
unfolding StandsFor rows_format
spelled_by tables image bytes are e same = bytes_again bytes tables are e ∙ ap image_bytes same

pub spelled : (r : Result Image ObjectFail) (bytes : List ℕ) → IsBytes bytes → IsRead r bytes → IfOk r (λ image. bytes ≡ image_bytes (image_lists image))
spelled (Ok image) bytes are h = spelled_by h.0 image bytes are h.1 h.2
spelled (Err e) bytes are h = tt
