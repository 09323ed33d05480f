-- What is used of the validity of an image.
use Rattle.std.proofs.Common.{◌≡◌, ◌<◌, ◌≤◌, ℕ, zero, suc, ◌+◌, ◌==◌, nat_le, ◌&&◌, Bool, true, false, List, [], ◌∷◌, length, slice_get, Option, Some, None, refl, subst, sym, ap, arith, ◌∙◌}
use Rattle.std.specs.List.{list_all, range_with_len}
use Rattle.std.proofs.lemmas.Bool.Decides.{Decides-eqb}
use Rattle.vk_code.specs.Listing.{CallSite, Listing}
use Rattle.vk_code.specs.Tests.{holds, pairs}
use Rattle.vk_object.specs.declared.tables.EntryKind.{EntryKind}
use Rattle.vk_object.specs.declared.tables.EntryKind.TheVariants.{Ordinary, Scalar, N, M, Chunk, Rest}
use Rattle.vk_object.specs.Images.{array_before, cells_of, code_of, entry_before, entry_numbers, has_lanes, has_slot_types, is_array, is_call, is_code, is_entry, is_entry_byte, is_image, is_letter, is_linked, is_main, is_number_of, is_ordinary, is_row, is_some_entry, is_vl, is_within, may_call, result_of}
use Rattle.vk_object.specs.Tables.{EntryLists, Tables}
use Rattle.vk_object.specs.Texts.{ascend, between}
use Rattle.vk_runs.proofs.Reached.{all_at, image_parts, row_lanes, slots_linked}
use Rattle.vk_agree.specs.Agree.{IsEntry}
use Rattle.vk_joins_laws.proofs.Lists.{both_first, both_second}

-- ---- the whole image

record Parts (arrays main within : Bool) : Type 0 where
  arrays_good : arrays ≡ true
  main_good : main ≡ true
  within_good : within ≡ true

parts : (a b c d e f g h i j k l : Bool) → (a && b && c && d && e && f && g && h && i && j && k && l) ≡ true → Parts d j k
parts a b c d e f g h i j k l t =
    let eleven = both_first (a && b && c && d && e && f && g && h && i && j && k) l t in
    let ten = both_first (a && b && c && d && e && f && g && h && i && j) k eleven in
    let six = both_first (a && b && c && d && e && f) g (both_first (a && b && c && d && e && f && g) h (both_first (a && b && c && d && e && f && g && h) i (both_first (a && b && c && d && e && f && g && h && i) j ten))) in
    let four = both_first (a && b && c && d) e (both_first (a && b && c && d && e) f six) in
    record {
      arrays_good = both_second (a && b && c) d four;
      main_good = both_second (a && b && c && d && e && f && g && h && i) j ten;
      within_good = both_second (a && b && c && d && e && f && g && h && i && j) k eleven;
    }

parts_of : (image : Tables) → is_image image ≡ true → Parts (ascend array_before image.arrays) (is_main image image.main) (list_all (is_within image 64) (entry_numbers image))
parts_of image h =
    parts (is_letter image.target image.isa) (is_vl image.isa image.vl) (list_all is_array image.arrays) (ascend array_before image.arrays) (list_all (is_row image) image.entries) (ascend entry_before image.entries)
    (is_some_entry image image.main) (list_all (is_code image) image.codes) (list_all (is_entry image) image.entries) (is_main image image.main) (list_all (is_within image 64) (entry_numbers image)) (nat_le (cells_of image) 33554432) h

pub arrays_ascend : (image : Tables) → is_image image ≡ true → ascend array_before image.arrays ≡ true
arrays_ascend image h = (parts_of image h).arrays_good

-- ---- main

pub record IsMainEntry (image : Tables) (e : ℕ) : Type 0 where
  pub x : EntryLists
  pub is : IsEntry image e x
  pub kind : x.kind ≡ Ordinary

ordinary_is : (k : EntryKind) → is_ordinary k ≡ true → k ≡ Ordinary
ordinary_is Ordinary h = refl
ordinary_is Scalar h = cc
ordinary_is N h = cc
ordinary_is M h = cc
ordinary_is Chunk h = cc
ordinary_is Rest h = cc

pub main_is : (image : Tables) → is_image image ≡ true → (e : ℕ) → image.main ≡ Some e → IsMainEntry image e
main_is image h e m = at (slice_get image.entries e) refl (ap (is_main image) (sym m) ∙ (parts_of image h).main_good)
  where
    at : (o : Option EntryLists) → slice_get image.entries e ≡ o → holds (λ (x : EntryLists). is_ordinary x.kind && holds (λ (c : Listing). (c.routine.params == 0) && (result_of c == 2)) (code_of image x)) o ≡ true → IsMainEntry image e
    at None is k = cc
    at (Some x) is k = record { x = x; is = is; kind = ordinary_is x.kind (both_first (is_ordinary x.kind) (holds (λ (c : Listing). (c.routine.params == 0) && (result_of c == 2)) (code_of image x)) k) }

-- ---- entries

number_in : (k n i : ℕ) → i < n → slice_get (range_with_len k n) i ≡ Some (k + i)
number_in k zero i h = absurd (omega (arith, h))
number_in k (suc n) zero h = ap Some (omega arith)
number_in k (suc n) (suc i) h = number_in (k + 1) n i (omega (arith, h)) ∙ ap Some (next k i)
  where
    next : (k i : ℕ) → k + 1 + i ≡ k + suc i
    next k i = omega arith

below : (xs : List EntryLists) (n : ℕ) (x : EntryLists) → slice_get xs n ≡ Some x → n < length xs
below [] zero x e = cc
below [] (suc n) x e = cc
below (y ∷ xs) zero x e = omega arith
below (y ∷ xs) (suc n) x e = omega (arith, below xs n x e)

pub entry_within : (image : Tables) → is_image image ≡ true → (n : ℕ) (x : EntryLists) → IsEntry image n x → is_within image 64 n ≡ true
entry_within image h n x e =
    all_at (is_within image 64) (entry_numbers image) (parts_of image h).within_good n n (number_in 0 (length image.entries) n (below image.entries n x e) ∙ ap Some (from n))
  where
    from : (n : ℕ) → 0 + n ≡ n
    from n = omega arith

-- one lane, or several, by the kind
abbrev pub HasLanesOf : EntryKind → ℕ → Type 0
HasLanesOf Ordinary n = n ≡ 1
HasLanesOf Scalar n = n ≡ 1
HasLanesOf N n = 2 ≤ n
HasLanesOf M n = 2 ≤ n
HasLanesOf Chunk n = 2 ≤ n
HasLanesOf Rest n = n ≡ 1

lanes_by : (k : EntryKind) (n : ℕ) → has_lanes k n ≡ true → HasLanesOf k n
lanes_by Ordinary n h = (Decides-eqb n 1).0 h
lanes_by Scalar n h = (Decides-eqb n 1).0 h
lanes_by N n h = grind (arith, both_first (nat_le 2 n) (nat_le n 256) h)
lanes_by M n h = grind (arith, both_first (nat_le 2 n) (nat_le n 256) h)
lanes_by Chunk n h = grind (arith, both_first (nat_le 2 n) (nat_le n 256) h)
lanes_by Rest n h = (Decides-eqb n 1).0 h

pub entry_lanes : (image : Tables) → is_image image ≡ true → (n : ℕ) (x : EntryLists) → IsEntry image n x → HasLanesOf x.kind x.lanes
entry_lanes image h n x e =
    lanes_by x.kind x.lanes (row_lanes image x (between 1 4096 (length x.text)) (list_all is_entry_byte x.text) (has_lanes x.kind x.lanes) (is_number_of image.codes x.code) _ _ _
    (all_at (is_row image) image.entries (image_parts image h).rows_good n x e))

-- the code of an entry
pub record HasCode (image : Tables) (x : EntryLists) : Type 0 where
  pub code : Listing
  pub is : code_of image x ≡ Some code

pub entry_code : (image : Tables) → is_image image ≡ true → (n : ℕ) (x : EntryLists) → IsEntry image n x → HasCode image x
entry_code image h n x e = at (code_of image x) refl (all_at (is_entry image) image.entries (image_parts image h).links_good n x e)
  where
    at : (o : Option Listing) → code_of image x ≡ o → holds (is_linked image x) o ≡ true → HasCode image x
    at None f k = cc
    at (Some c) f k = record { code = c; is = f }

-- the entry that a slot calls
pub record HasTarget (image : Tables) (x : EntryLists) (k : ℕ) : Type 0 where
  pub number : ℕ
  pub target : slice_get x.targets k ≡ Some number
  pub entry : EntryLists
  pub is : IsEntry image number entry
  pub may : may_call x entry ≡ true

same_some : {A : Type 0} (x y : A) → Some x ≡ Some y → x ≡ y
same_some x y e = cc

targets_there : {A B : Type 0} (p : A → B → Bool) (xs : List A) (ys : List B) → pairs p xs ys ≡ true → (k : ℕ) (x : A) → slice_get xs k ≡ Some x → (y : B) × (slice_get ys k ≡ Some y) × (p x y ≡ true)
targets_there p [] ys h zero x e = cc
targets_there p [] ys h (suc k) x e = cc
targets_there p (a ∷ xs) [] h k x e = cc
targets_there p (a ∷ xs) (b ∷ ys) h zero x e = (b, refl, ap (λ z. p z b) (sym (same_some a x e)) ∙ both_first (p a b) (pairs p xs ys) h)
targets_there p (a ∷ xs) (b ∷ ys) h (suc k) x e = targets_there p xs ys (both_second (p a b) (pairs p xs ys) h) k x e

pub slot_target : (image : Tables) → is_image image ≡ true → (n : ℕ) (x : EntryLists) (c : Listing) → IsEntry image n x → code_of image x ≡ Some c →
    (k : ℕ) (s : CallSite) → slice_get c.routine.slots k ≡ Some s → HasTarget image x k
slot_target image h n x c e f k s is =
    let t = targets_there (is_call image x c) c.routine.slots x.targets (slots_linked image h n x c e f) k s is in
    at t.0 t.1 (slice_get image.entries t.0) refl t.2
  where
    at : (number : ℕ) → slice_get x.targets k ≡ Some number → (o : Option EntryLists) → slice_get image.entries number ≡ o → holds (λ (y : EntryLists). may_call x y && holds (has_slot_types c s) (code_of image y)) o ≡ true → HasTarget image x k
    at number target None g q = cc
    at number target (Some y) g q = record { number = number; target = target; entry = y; is = g; may = both_first (may_call x y) (holds (has_slot_types c s) (code_of image y)) q }

-- only an ordinary entry calls ordinary ones
pub ordinary_calls : (x y : EntryLists) → may_call x y ≡ true → y.kind ≡ Ordinary → x.kind ≡ Ordinary
ordinary_calls x y h e = ordinary_is x.kind (subst (λ (k : EntryKind). (elim k as (λ _. Bool) [
  | Ordinary ↦ is_ordinary x.kind
  | Scalar ↦ true
  | N ↦ y.lanes == x.lanes
  | M ↦ y.lanes == x.lanes
  | Chunk ↦ false
  | Rest ↦ false
]) ≡ true) e h)
