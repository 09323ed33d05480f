-- Where an entry of an image runs that is called from outside.
use Rattle.std.proofs.Common.{◌≡◌, ℕ, zero, suc, ◌+◌, ◌<◌, nat_le, Bool, true, ◌&&◌, length, Option, Some, None, ap, ◌∙◌, arith}
use Rattle.std.specs.Prelude.{slice_get}
use Rattle.std.specs.List.{list_all, range_with_len}
use Rattle.vk_code.specs.Listing.{Listing}
use Rattle.vk_code.proofs.Faults.{and_left, and_right}
use Rattle.vk_object.specs.Images.{array_before, cells_of, chain_cells, code_of, entry_before, entry_numbers, frame_cells, is_array, is_code, is_entry, is_image, is_letter, is_main, is_row, is_some_entry, is_vl, is_within}
use Rattle.vk_object.specs.Tables.{EntryLists, Tables}
use Rattle.vk_object.specs.Texts.{ascend}
use Rattle.vk_runs.proofs.Reached.{all_at}
use Rattle.vk_steps.specs.Places.{called_cells}

-- ---- chains from each entry on

pub number_in : (k n i : ℕ) → i < n → slice_get (range_with_len k n) i ≡ Some (k + i)
number_in k zero i h = absurd (omega (arith, h))
number_in k (suc n) zero h = ap Some (omega arith)
number_in k (suc n) (suc i) h = number_in (k + 1) n i (omega (arith, h)) ∙ ap Some (next k i)
  where
    next : (k i : ℕ) → k + 1 + i ≡ k + suc i
    next k i = omega arith

chains_short : (image : Tables) → is_image image ≡ true → list_all (is_within image 64) (entry_numbers image) ≡ true
chains_short image h =
    eleventh (is_letter image.target image.isa) (is_vl image.isa image.vl) (list_all is_array image.arrays) (ascend array_before image.arrays) (list_all (is_row image) image.entries) (ascend entry_before image.entries)
    (is_some_entry image image.main) (list_all (is_code image) image.codes) (list_all (is_entry image) image.entries) (is_main image image.main) (list_all (is_within image 64) (entry_numbers image)) (nat_le (cells_of image) 33554432) h
  where
    eleventh : (a b c d e f g h i j k l : Bool) → (a && b && c && d && e && f && g && h && i && j && k && l) ≡ true → k ≡ true
    eleventh a b c d e f g h i j k l t = and_right (a && b && c && d && e && f && g && h && i && j) k (and_left (a && b && c && d && e && f && g && h && i && j && k) l t)

pub chain_short : (image : Tables) → is_image image ≡ true → (n : ℕ) → n < length image.entries → is_within image 64 n ≡ true
chain_short image h n l = all_at (is_within image 64) (entry_numbers image) (chains_short image h) n n (number_in 0 (length image.entries) n l ∙ ap Some (from n))
  where
    from : (n : ℕ) → 0 + n ≡ n
    from n = omega arith

-- ---- cells

pub chain_is : (image : Tables) (n : ℕ) (x : EntryLists) (c : Listing) → slice_get image.entries n ≡ Some x → code_of image x ≡ Some c → chain_cells image 64 n ≡ frame_cells x (Some c) + called_cells image 63 x
chain_is image n x c e f =
    ap (λ (o : Option EntryLists). elim o as (λ _. ℕ) [ None ↦ 0 | Some y ↦ frame_cells y (code_of image y) + called_cells image 63 y ]) e ∙ ap (λ o. frame_cells x o + called_cells image 63 x) f
