-- What an image says of its program, and of the cells of its calls.
use Rattle.std.proofs.Common.{◌≡◌, ℕ, zero, suc, ◌+◌, ◌^◌, ◌<◌, ◌≤◌, ◌==◌, max, nat_le, Bool, true, ◌&&◌, cond, List, [], ◌∷◌, length, map, take, replicate, Option, Some, None, refl, ap, sym, subst, ◌∙◌, arith}
use Rattle.std.specs.Prelude.{slice_get, slice_index}
use Rattle.std.specs.List.{length_refill, list_all}
use Rattle.std.specs.Vec.{with_items}
use Rattle.std.specs.declared.alloc.Global.{Global}
use Rattle.std.specs.declared.vec.Vec.{Vec}
use Rattle.std.specs.Option.{option_map}
use Rattle.std.proofs.Math.Nat.{le-max_left, le-max_right}
use Rattle.std.proofs.lemmas.Bool.{eqb-true, false≢true, le-leb, lt-ltb}
use Rattle.std.proofs.lemmas.Option.{none-some, same_Some, slice_get-map, slice_get_within}
use Rattle.vk_types.specs.declared.types.Word.{Word}
use Rattle.vk_code.specs.Listing.{Listing}
use Rattle.vk_code.specs.Tests.{holds}
use Rattle.vk_code.proofs.Faults.{and_left, and_right}
use Rattle.vk_object.specs.declared.image.Image.{Image}
use Rattle.vk_object.specs.declared.tables.EntryKind.{EntryKind}
use Rattle.vk_object.specs.declared.tables.EntryKind.TheVariants.{Ordinary, Scalar, N, M, Chunk, Rest}
use Rattle.vk_object.specs.Images.{are_entries, array_before, cells_of, chain_cells, code_of, entry_before, entry_numbers, frame_cells, greatest, has_lanes, is_array, is_code, is_entry, is_entry_byte, is_image, is_letter, is_main, is_number_of, is_ordinary, is_row, is_some_entry, is_variant, is_vl, is_within, result_of}
use Rattle.vk_object.specs.Parameters.{are_kinds}
use Rattle.vk_object.specs.Machine.{extent_of}
use Rattle.vk_object.specs.Tables.{ArrayLists, EntryLists, Tables}
use Rattle.vk_object.specs.Texts.{ascend, between}
use Rattle.vk_runs.proofs.Reached.{all_at, image_parts, row_lanes}
use Rattle.vk_steps.specs.declared.place.Place.{Place}
use Rattle.vk_steps.specs.Places.{called_cells, entry, image_tables, listing, tables}
use Rattle.vk_access.specs.declared.store.Store.{Store}
use Rattle.vk_access.specs.Cells.{length_in}
use Rattle.vk_access.specs.Outer.{told}
use Rattle.vk_access.specs.Stores.{FitsStore}
use Rattle.vk_calls.proofs.Callees.{holds_some}
use Rattle.vk_fresh.specs.Room.{longest_chain}
use Rattle.vk_direct.specs.Places.{IsOutermost}
use Rattle.vk_direct.specs.Taking.{are_words_of, takes_call, takes_words}
use Rattle.vk_direct.proofs.Outermost.{number_in}
use Rattle.vk_machine.specs.Machines.{array_length}

-- ---- room

at_most : (f : ℕ → ℕ) (xs : List ℕ) (k n : ℕ) → slice_get xs k ≡ Some n → f n ≤ greatest (map f xs)
at_most f [] k n e = absurd (none-some n e)
at_most f (x ∷ xs) zero n e = subst (λ m. f m ≤ max (f x) (greatest (map f xs))) (same_Some x n e) (le-max_left (f x) (greatest (map f xs)))
at_most f (x ∷ xs) (suc k) n e = let l = at_most f xs k n e in let m = le-max_right (f x) (greatest (map f xs)) in omega (arith, l, m)

pub chain_within : (image : Tables) (n : ℕ) → n < length image.entries → chain_cells image 64 n ≤ longest_chain image
unfolding longest_chain
chain_within image n l = at_most (chain_cells image 64) (entry_numbers image) n n (number_in 0 (length image.entries) n l ∙ ap Some (from n))
  where
    from : (n : ℕ) → 0 + n ≡ n
    from n = omega arith

-- cells for an entry's frame and its calls
pub call_room : (p : Place) (image : Image) (n : ℕ) → IsOutermost p → p.image.now ≡ image → n ≡ longest_chain (image_tables image) → frame_cells (entry p) (Some (listing p)) + called_cells (tables p) p.depth (entry p) ≤ n
call_room p image n s h e =
    subst (λ k. frame_cells (entry p) (Some (listing p)) + called_cells (tables p) p.depth (entry p) ≤ k) (ap (λ (i : Image). longest_chain (image_tables i)) h ∙ sym e)
    (subst (λ k. k ≤ longest_chain (tables p)) s.cells (chain_within (tables p) p.number (slice_get_within (tables p).entries p.number (entry p) s.sound.placed)))

-- ---- main

main_good : (image : Tables) → is_image image ≡ true → is_main image image.main ≡ true
main_good image h =
    tenth (is_letter image.target image.isa) (is_vl image.isa image.vl) (list_all is_array image.arrays) (ascend array_before image.arrays) (list_all (is_row image) image.entries) (ascend entry_before image.entries)
    (is_some_entry image image.main) (list_all (is_code image) image.codes) (list_all (is_entry image) image.entries) (is_main image image.main) (list_all (is_within image 64) (entry_numbers image)) (nat_le (cells_of image) 33554432) h
  where
    tenth : (a b c d e f g h i j k l : Bool) → (a && b && c && d && e && f && g && h && i && j && k && l) ≡ true → j ≡ true
    tenth a b c d e f g h i j k l t = and_right (a && b && c && d && e && f && g && h && i) j (and_left (a && b && c && d && e && f && g && h && i && j) k (and_left (a && b && c && d && e && f && g && h && i && j && k) l t))

one_lane : (kind : EntryKind) (n : ℕ) → is_ordinary kind ≡ true → has_lanes kind n ≡ true → n ≡ 1
one_lane Ordinary n o h = eqb-true n 1 h
one_lane Scalar n o h = absurd (false≢true o)
one_lane N n o h = absurd (false≢true o)
one_lane M n o h = absurd (false≢true o)
one_lane Chunk n o h = absurd (false≢true o)
one_lane Rest n o h = absurd (false≢true o)

no_words : (c : Listing) → c.routine.params ≡ 0 → takes_words 1 [] c ≡ true
no_words c e = ap (λ n. nat_le n (length c.routine.regs) && are_words_of 1 (take n c.routine.regs) []) e ∙ ap (λ b. b && true) (le-leb 0 (length c.routine.regs) (omega arith))

abbrev is_main_code : Listing → Bool
is_main_code c = (c.routine.params == 0) && (result_of c == 2)

abbrev is_main_entry : Tables → EntryLists → Bool
is_main_entry image x = is_ordinary x.kind && holds is_main_code (code_of image x)

-- main may be called in one lane, on no words
pub main_takes : (image : Tables) → is_image image ≡ true → (n : ℕ) → image.main ≡ Some n → n < 2 ^ 32 → takes_call image n 1 [] ≡ true
main_takes image h n m small =
    let good : holds (is_main_entry image) (slice_get image.entries n) ≡ true = subst (λ o. is_main image o ≡ true) m (main_good image h) in
    let x = holds_some (is_main_entry image) (slice_get image.entries n) good in
    let ordinary = and_left (is_ordinary x.0.kind) (holds is_main_code (code_of image x.0)) x.2 in
    let c = holds_some is_main_code (code_of image x.0) (and_right (is_ordinary x.0.kind) (holds is_main_code (code_of image x.0)) x.2) in
    let none : c.0.routine.params ≡ 0 = eqb-true c.0.routine.params 0 (and_left (c.0.routine.params == 0) (result_of c.0 == 2) c.2) in
    let lanes : x.0.lanes ≡ 1 = one_lane x.0.kind x.0.lanes ordinary
    (row_lanes image x.0 (between 1 4096 (length x.0.text)) (list_all is_entry_byte x.0.text) (has_lanes x.0.kind x.0.lanes) (is_number_of image.codes x.0.code) (cond (is_variant x.0.kind) (are_kinds x.0.params) (length x.0.params == 0)) (list_all (is_number_of image.entries) x.0.targets) (list_all (are_entries image) x.0.loops) (all_at (is_row image) image.entries (image_parts image h).rows_good n x.0 x.1)) in
    ap (λ b. b && holds (λ (y : EntryLists). (1 == y.lanes) && holds (takes_words 1 []) (code_of image y)) (slice_get image.entries n)) (lt-ltb n (2 ^ 32) small)
    ∙ (ap (holds (λ (y : EntryLists). (1 == y.lanes) && holds (takes_words 1 []) (code_of image y))) x.1
    ∙ (ap (λ k. (1 == k) && holds (takes_words 1 []) (code_of image x.0)) lanes
    ∙ (ap (holds (takes_words 1 [])) c.1 ∙ no_words c.0 none)))

-- ---- counts that are 0

pub no_count : (n e : ℕ) → slice_index (replicate n 0) e ≡ 0
no_count zero e = refl
no_count (suc n) zero = refl
no_count (suc n) (suc e) = no_count n e

pub none_told : (counts : List ℕ) (n : ℕ) → counts ≡ replicate n 0 → (e : ℕ) → told (slice_index counts e) ≡ 0
none_told counts n h e = ap (λ l. told (slice_index l e)) h ∙ (ap told (no_count n e) ∙ least)
  where
    least : told 0 ≡ 0
    least = omega arith

-- ---- elements

-- an element of an array of the image is one of the machine's
pub element_inside : (image : Image) (store : Store) (a i : ℕ) → FitsStore image store → i < array_length (image_tables image) a → i < length_in store.cells.items a
element_inside image store a i h l = by (slice_get (image_tables image).arrays a) refl l
  where
    by : (o : Option ArrayLists) → slice_get (image_tables image).arrays a ≡ o → i < elim o as (λ _. ℕ) [ None ↦ 0 | Some x ↦ x.length ] → i < length_in store.cells.items a
    by None e l = absurd (omega (arith, l))
    by (Some x) e l = subst (λ n. i < n) (sym (h.lengths a (extent_of x) (slice_get-map extent_of (image_tables image).arrays a ∙ ap (option_map extent_of) e))) l

-- ---- room that is written

pub frames_kept : (v : Vec Word Global) (ws : List Word) (n : ℕ) → length v.items ≡ n → length (with_items v ws).items ≡ n
frames_kept v ws n h = sym (length_refill v.len v.items ws v.ok.0) ∙ (v.ok.0 ∙ h)
