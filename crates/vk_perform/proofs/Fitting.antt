-- A frame fits its place after a call, and after a block that was out of turns.
use Rattle.std.proofs.Common.{◌≡◌, refl, ℕ, zero, ◌<◌, ◌==◌, nat_le, Bool, true, false, cond, nat_lt, not, List, length, Option, Some, None, ap, arith, sym, subst, ◌∙◌, ◌||◌}
use Rattle.std.specs.List.{list_all}
use Rattle.std.proofs.lemmas.Bool.{eqb-true, leb-true, ltb-true}
use Rattle.std.specs.declared.alloc.Global.{Global}
use Rattle.std.specs.declared.vec.Vec.{Vec}
use Rattle.vk_types.specs.declared.types.Word.{Word}
use Rattle.vk_types.specs.declared.types.Stop.{Stop}
use Rattle.vk_types.specs.declared.types.Stop.TheVariants.{Turns}
use Rattle.vk_kinds.specs.declared.heads.CType.{CType}
use Rattle.vk_code.specs.Listing.{CallSite, Listing}
use Rattle.vk_code.specs.Tests.{pairs}
use Rattle.vk_code.specs.declared.instruction.Instr.{Instr}
use Rattle.vk_code.specs.declared.instruction.Operation.TheVariants.{SimdLoop}
use Rattle.vk_code.specs.Valid.{is_canonical, result_type}
use Rattle.vk_code.proofs.Faults.{and_left, and_right}
use Rattle.vk_object.specs.declared.image.Image.{Image}
use Rattle.vk_object.specs.declared.tables.EntryKind.{EntryKind}
use Rattle.vk_object.specs.Images.{arg_types, are_entries, has_lanes, has_slot_types, is_chunk, is_entry_byte, is_equal, is_number_of, is_row, is_variant, param_types, result_of}
use Rattle.vk_object.specs.Parameters.{are_kinds}
use Rattle.vk_object.specs.Texts.{between}
use Rattle.vk_object.specs.Lane.{LaneState, is_live, out_of_turns, with_stop}
use Rattle.vk_object.specs.Machine.{put, takes, word_in}
use Rattle.vk_frames.specs.declared.frame.Frame.{Frame}
use Rattle.vk_frames.specs.Each.{each}
use Rattle.vk_frames.specs.Frames.{FitsAs, lanes_of}
use Rattle.vk_frames.proofs.Live.{past}
use Rattle.vk_frames.proofs.Writes.{same_lanes}
use Rattle.vk_runs.specs.Words.{HasWords, IsWordOf}
use Rattle.vk_runs.proofs.Reached.{all_at, code_good, image_parts, row_lanes}
use Rattle.vk_runs.proofs.Words.{put_word, zero_word}
use Rattle.vk_steps.specs.declared.place.Place.{Place}
use Rattle.vk_steps.specs.Places.{FitsPlace, IsSound, entry, listing, regs, tables}
use Rattle.vk_steps.proofs.Fitting.{fits_as, fits_put}
use Rattle.vk_access.specs.declared.store.Store.{Store}
use Rattle.vk_access.specs.Cells.{cells_in, length_in}
use Rattle.vk_access.specs.Stores.{FitsStore}
use Rattle.vk_calls.specs.declared.fetch.Fetched.{Fetched}
use Rattle.vk_calls.specs.declared.fetch.Fetched.TheVariants.{Simd}
use Rattle.vk_calls.specs.Fetched.{IsFetched, IsPart, IsPlain}
use Rattle.vk_passing.specs.Taken.{taken, taken_live}

either_words : (types : List CType) (a b : LaneState) (t : Bool) → HasWords types a → HasWords types b → HasWords types (cond t a b)
either_words types a b true h k = h
either_words types a b false h k = k

-- ---- after a call

result_word : (types : List CType) (o : Option ℕ) (l : LaneState) → HasWords types l → IsWordOf (result_type types o) (word_in o l)
result_word types None l h = zero_word 255
result_word types (Some r) l h = h r

takes_words : (types : List CType) (result : Option ℕ) (l : LaneState) (w : ℕ) (o : Option Stop) → HasWords types l → IsWordOf (result_type types result) w → HasWords types (takes result l w o)
takes_words types result l w (Some x) h k = h
takes_words types None l w None h k = h
takes_words types (Some r) l w None h k = put_word types l r w h k

same_result : (c : Listing) (slot : CallSite) (callee : Listing) → has_slot_types c slot callee ≡ true → result_of callee ≡ result_type c.routine.regs slot.result
same_result c slot callee h = sym (eqb-true (result_type c.routine.regs slot.result) (result_of callee) (and_right (pairs is_equal (arg_types c slot) (param_types callee)) (result_type c.routine.regs slot.result == result_of callee) h))

taken_words : (p q : Place) (slot : CallSite) (k : ℕ → LaneState) (i : ℕ) (l : LaneState) → has_slot_types (listing p) slot (listing q) ≡ true → HasWords (regs q) (k i) → HasWords (regs p) l → HasWords (regs p) (taken slot.result (listing q).routine.result k i l)
taken_words p q slot k i l types h j =
    let w : ℕ = word_in (listing q).routine.result (k i) in
    takes_words (regs p) slot.result l w (k i).stop j (subst (λ n. IsWordOf n w) (same_result (listing p) slot (listing q) types) (result_word (regs q) (listing q).routine.result (k i) h))

-- a lane took what a lane of the call's frame gives
pub fits_taken : (p q : Place) (a b c : Frame) (slot : CallSite) (i j : ℕ) → FitsPlace p a → FitsPlace q c → has_slot_types (listing p) slot (listing q) ≡ true → FitsAs a b →
    lanes_of b ≡ put (lanes_of a) j (taken slot.result (listing q).routine.result (lanes_of c) i (lanes_of a j)) → FitsPlace p b
fits_taken p q a b c slot i j h k types fits e =
    fits_put p a b j (taken slot.result (listing q).routine.result (lanes_of c) i (lanes_of a j)) h fits (taken_words p q slot (lanes_of c) i (lanes_of a j) types (k.words i) (h.words j)) e

-- each lane that is live took what its own lane of the call's frame gives
pub fits_all_taken : (p q : Place) (a b c : Frame) (slot : CallSite) (m : ℕ) → FitsPlace p a → FitsPlace q c → has_slot_types (listing p) slot (listing q) ≡ true → FitsAs a b →
    lanes_of b ≡ each a.lanes (taken_live m slot.result (listing q).routine.result (lanes_of c)) (lanes_of a) → FitsPlace p b
fits_all_taken p q a b c slot m h k types fits e = record {
  shape = fits_as (length (regs p)) (listing p).routine.masks (entry p).lanes a b h.shape fits;
  words = subst (λ (f : ℕ → LaneState). (j : ℕ) → HasWords (regs p) (f j)) (sym e) (λ j.
      either_words (regs p) (taken_live m slot.result (listing q).routine.result (lanes_of c) j (lanes_of a j)) (lanes_of a j) (nat_lt j a.lanes)
      (either_words (regs p) (taken slot.result (listing q).routine.result (lanes_of c) j (lanes_of a j)) (lanes_of a j) (is_live m (lanes_of a j)) (taken_words p q slot (lanes_of c) j (lanes_of a j) types (k.words j) (h.words j)) (h.words j))
      (h.words j));
}

-- past the lanes no lane is live: what each lane took is a function of the lane
pub all_taken : (a : Frame) (m : ℕ) (slot result : Option ℕ) (k : ℕ → LaneState) → each a.lanes (taken_live m slot result k) (lanes_of a) ≡ λ j. taken_live m slot result k j (lanes_of a j)
all_taken a m slot result k = same_lanes (each a.lanes (taken_live m slot result k) (lanes_of a)) (λ j. taken_live m slot result k j (lanes_of a j)) (λ j. at j (nat_lt j a.lanes) refl)
  where
    at : (j : ℕ) (b : Bool) → nat_lt j a.lanes ≡ b → each a.lanes (taken_live m slot result k) (lanes_of a) j ≡ taken_live m slot result k j (lanes_of a j)
    at j true h = ap (λ b. cond b (taken_live m slot result k j (lanes_of a j)) (lanes_of a j)) h
    at j false h = ap (λ b. cond b (taken_live m slot result k j (lanes_of a j)) (lanes_of a j)) h ∙ sym (ap (λ b. cond b (taken slot result k j (lanes_of a j)) (lanes_of a j)) (past a.lanes a.registers a.words.now a.stops j m h))

-- ---- after a block

pub fits_out : (p : Place) (a b : Frame) (m : ℕ) → FitsPlace p a → FitsAs a b → lanes_of b ≡ (λ j. out_of_turns m (lanes_of a j)) → FitsPlace p b
fits_out p a b m h fits e = record {
  shape = fits_as (length (regs p)) (listing p).routine.masks (entry p).lanes a b h.shape fits;
  words = subst (λ (f : ℕ → LaneState). (j : ℕ) → HasWords (regs p) (f j)) (sym e) (λ j. either_words (regs p) (with_stop (lanes_of a j) Turns) (lanes_of a j) (is_live m (lanes_of a j)) (h.words j) (h.words j));
}

-- ---- what an image says of an entry

-- all of its code is good
pub whole : (p : Place) → IsSound p → IsPart p zero (length (listing p).routine.instrs)
whole p s = record { inside = omega arith; room = 64; good = code_good (tables p) s.valid (entry p).code (listing p) s.coded }

-- it has a lane at least
some_lanes : (kind : EntryKind) (n : ℕ) → has_lanes kind n ≡ true → 0 < n
some_lanes kind n h = either (is_variant kind || is_chunk kind) h
  where
    either : (b : Bool) → cond b (between 2 256 n) (n == 1) ≡ true → 0 < n
    either true e = let l = leb-true 2 n (and_left (nat_le 2 n) (nat_le n 256) e) in omega (arith, l)
    either false e = let l = eqb-true n 1 e in omega (arith, l)

pub has_a_lane : (p : Place) → IsSound p → 0 < (entry p).lanes
has_a_lane p s =
    let x = entry p in
    some_lanes x.kind x.lanes (row_lanes (tables p) x (between 1 4096 (length x.text)) (list_all is_entry_byte x.text) (has_lanes x.kind x.lanes) (is_number_of (tables p).codes x.code)
    (cond (is_variant x.kind) (are_kinds x.params) (length x.params == 0)) (list_all (is_number_of (tables p).entries) x.targets) (list_all (are_entries (tables p)) x.loops)
    (all_at (is_row (tables p)) (tables p).entries (image_parts (tables p) s.valid).rows_good p.number x s.placed))

-- a simd loop at a place
loop_at : (p : Place) (at left : ℕ) (f : Fetched) (i : Instr) (number : ℕ) → f ≡ Simd i number → IsFetched p at left f → IsPlain p at left i (SimdLoop number)
loop_at p at left f i number e h = subst (λ f. IsFetched p at left f) e h

pub loop_mask : (p : Place) (at left : ℕ) (f : Fetched) (i : Instr) (number : ℕ) → f ≡ Simd i number → IsFetched p at left f → i.m < (listing p).routine.masks
loop_mask p at left f i number e h = (loop_at p at left f i number e h).good.mask

pub loop_there : (p : Place) (at left : ℕ) (f : Fetched) (i : Instr) (number : ℕ) → f ≡ Simd i number → IsFetched p at left f → number < (listing p).routine.loops
loop_there p at left f i number e h =
    let c = (listing p).routine in
    ltb-true number c.loops (and_right (not c.lane_code) (nat_lt number c.loops) (loop_at p at left f i number e h).good.typed)

-- ---- the memory

-- a call is counted
pub fits_counted : (image : Image) (a b : Store) → FitsStore image a → b.cells ≡ a.cells → length b.counts.items ≡ length a.counts.items → FitsStore image b
fits_counted image a b h e l = record {
  counts = l ∙ h.counts;
  lengths = λ n x found. ap (λ (v : Vec (Vec Word Global) Global). length_in v.items n) e ∙ h.lengths n x found;
  words = λ n i x found. subst (λ (v : Vec (Vec Word Global) Global). is_canonical x.ty (cells_in v.items n i) ≡ true) (sym e) (h.words n i x found);
}
