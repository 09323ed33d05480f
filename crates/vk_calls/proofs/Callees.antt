-- The entries that an entry of an image calls.
use Rattle.std.proofs.Common.{◌≡◌, ℕ, zero, suc, ◌-◌, ◌^◌, ◌<◌, ◌==◌, nat_le, Bool, true, ◌&&◌, cond, List, [], ◌∷◌, length, map, Option, Some, None, refl, ap, ap₂, sym, subst, ◌∙◌, arith}
use Rattle.std.specs.Prelude.{slice_get}
use Rattle.std.specs.List.{list_all}
use Rattle.std.specs.Option.{option_and_then, option_map}
use Rattle.std.proofs.lemmas.Bool.{eqb-true, false≢true, leb-true, ltb-true}
use Rattle.std.proofs.lemmas.Option.{none-some, same_Some, slice_get-map}
use Rattle.vk_code.specs.Listing.{CallSite, Listing, SimdSite, numbered_code}
use Rattle.vk_code.specs.Tests.{all_good, holds, pairs}
use Rattle.vk_code.specs.Valid.{has_good_counts, has_good_registers, is_good_head, verdicts}
use Rattle.vk_code.proofs.Faults.{and_left, and_right}
use Rattle.vk_object.specs.declared.tables.EntryKind.{EntryKind}
use Rattle.vk_object.specs.declared.tables.EntryKind.TheVariants.{Ordinary, Scalar, N, M, Chunk, Rest}
use Rattle.vk_object.specs.declared.tables.LoopTargets.{LoopTargets}
use Rattle.vk_object.specs.Images.{are_entries, calls_within, code_of, has_body, has_lanes, has_loop_types, has_slot_types, is_body_entry, is_call, is_chunk, is_equal, is_code, is_entry, is_entry_byte, is_image, is_variant, is_linked, is_loop, is_number_of, is_rest, is_row, is_within, names_of, suits}
use Rattle.vk_object.specs.Parameters.{are_kinds}
use Rattle.vk_object.specs.Texts.{between}
use Rattle.vk_object.specs.Tables.{EntryLists, Tables}
use Rattle.vk_object.specs.Machine.{Simd, Target, enters, simd_of, enters_some, entry_at, site_at, target_of}
use Rattle.vk_steps.specs.declared.place.Place.{Place}
use Rattle.vk_steps.specs.Places.{IsSound, entry, image_tables, listing, site, tables}
use Rattle.vk_calls.specs.Found.{IsCallee}
use Rattle.vk_runs.proofs.Reached.{all_at, holds_at, image_parts, pairs_at, slots_linked, target_types}

-- there is an element at each place in a list
pub element : {A : Type 0} (xs : List A) (n : ℕ) → n < length xs → (x : A) × (slice_get xs n ≡ Some x)
element [] n h = absurd (omega (arith, h))
element (x ∷ xs) zero h = (x, refl)
element (x ∷ xs) (suc n) h = element xs n (omega (arith, h))

pub inside : {A : Type 0} (xs : List A) (n : ℕ) (x : A) → slice_get xs n ≡ Some x → n < length xs
inside [] n x h = absurd (none-some x h)
inside (y ∷ xs) zero x h = omega arith
inside (y ∷ xs) (suc n) x h = let l : n < length xs = inside xs n x h in omega (arith, l)

pub pairs_length : {A B : Type 0} (p : A → B → Bool) (xs : List A) (ys : List B) → pairs p xs ys ≡ true → length xs ≡ length ys
pairs_length p [] [] h = refl
pairs_length p [] (y ∷ ys) h = absurd (false≢true h)
pairs_length p (x ∷ xs) [] h = absurd (false≢true h)
pairs_length p (x ∷ xs) (y ∷ ys) h = ap suc (pairs_length p xs ys (and_right (p x y) (pairs p xs ys) h))

pub holds_some : {A : Type 0} (p : A → Bool) (o : Option A) → holds p o ≡ true → (x : A) × (o ≡ Some x) × (p x ≡ true)
holds_some p None h = absurd (false≢true h)
holds_some p (Some x) h = (x, refl, h)

-- ---- an entry's code

row_code : (a b c d e f g : Bool) → (a && b && c && d && e && f && g) ≡ true → d ≡ true
row_code a b c d e f g h = and_right (a && b && c) d (and_left (a && b && c && d) e (and_left (a && b && c && d && e) f (and_left (a && b && c && d && e && f) g h)))

pub code_there : (image : Tables) → is_image image ≡ true → (n : ℕ) (x : EntryLists) → slice_get image.entries n ≡ Some x → x.code < length image.codes
code_there image h n x e = ltb-true x.code (length image.codes) (row_code (between 1 4096 (length x.text)) (list_all is_entry_byte x.text) (has_lanes x.kind x.lanes) (is_number_of image.codes x.code) (cond (is_variant x.kind) (are_kinds x.params) (length x.params == 0)) (list_all (is_number_of image.entries) x.targets) (list_all (are_entries image) x.loops) (all_at (is_row image) image.entries (image_parts image h).rows_good n x e))

pub head_good : (image : Tables) → is_image image ≡ true → (n : ℕ) (c : Listing) → slice_get image.codes n ≡ Some c → is_good_head c.routine ≡ true
head_good image h n c e = and_left (is_good_head c.routine) _ (and_right (list_all (has_body image) c.loops) (all_good (verdicts (names_of image) c)) (all_at (is_code image) image.codes (image_parts image h).codes_good n c e))

pub instrs_short : (image : Tables) → is_image image ≡ true → (n : ℕ) (c : Listing) → slice_get image.codes n ≡ Some c → length c.routine.instrs < 2 ^ 32
instrs_short image h n c e =
    let counts = and_right (has_good_registers c.routine) (has_good_counts c.routine) (and_left (has_good_registers c.routine && has_good_counts c.routine) _ (head_good image h n c e)) in
    let l = leb-true (length c.routine.instrs) 4294967295 (and_right (nat_le (length c.routine.slots) 65535 && nat_le c.routine.loops 65535) (nat_le (length c.routine.instrs) 4294967295) counts) in
    omega (arith, l)

-- ---- chains

pub within_some : (image : Tables) (depth n : ℕ) (x : EntryLists) → is_within image depth n ≡ true → slice_get image.entries n ≡ Some x → (0 < depth) × (calls_within (is_within image (depth - 1)) x ≡ true)
within_some image zero n x h e = absurd (false≢true h)
within_some image (suc depth) n x h e = (omega arith, subst (λ d. calls_within (is_within image d) x ≡ true) (one depth) (holds_at (calls_within (is_within image depth)) (slice_get image.entries n) x h e))
  where
    one : (d : ℕ) → d ≡ suc d - 1
    one d = omega arith

pub called_within : (p : ℕ → Bool) (x : EntryLists) (k n : ℕ) → calls_within p x ≡ true → slice_get x.targets k ≡ Some n → p n ≡ true
called_within p x k n h e = all_at p x.targets (and_left (list_all p x.targets) (list_all (λ (t : LoopTargets). p t.chunk && p t.rest) x.loops) h) k n e

pub loops_within : (p : ℕ → Bool) (x : EntryLists) (k : ℕ) (t : LoopTargets) → calls_within p x ≡ true → slice_get x.loops k ≡ Some t → (p t.chunk ≡ true) × (p t.rest ≡ true)
loops_within p x k t h e =
    let both = all_at (λ (t : LoopTargets). p t.chunk && p t.rest) x.loops (and_right (list_all p x.targets) (list_all (λ (t : LoopTargets). p t.chunk && p t.rest) x.loops) h) k t e in
    (and_left (p t.chunk) (p t.rest) both, and_right (p t.chunk) (p t.rest) both)

-- an entry that is there does what its code does
pub does_enter : (image : Tables) (turns depth n : ℕ) (x : EntryLists) (c : Listing) → 0 < depth → slice_get image.entries n ≡ Some x → code_of image x ≡ Some c →
    entry_at image turns depth n ≡ enters n (site_at image turns (entry_at image turns (depth - 1)) x c)
does_enter image turns zero n x c some e f = absurd (omega (arith, some))
does_enter image turns (suc depth) n x c some e f =
    ap (λ (o : Option EntryLists). enters_some n (option_and_then (λ (y : EntryLists). option_map (site_at image turns (entry_at image turns depth) y) (code_of image y)) o)) e
    ∙ (ap (λ (o : Option Listing). enters_some n (option_map (site_at image turns (entry_at image turns depth) x) o)) f
    ∙ ap (λ d. enters n (site_at image turns (entry_at image turns d) x c)) (one depth))
  where
    one : (d : ℕ) → d ≡ suc d - 1
    one d = omega arith

-- ---- simd loops

pub loops_linked : (image : Tables) → is_image image ≡ true → (n : ℕ) (x : EntryLists) (c : Listing) → slice_get image.entries n ≡ Some x → code_of image x ≡ Some c → pairs (is_loop image c) c.loops x.loops ≡ true
loops_linked image h n x c e f =
    let linked : is_linked image x c ≡ true = holds_at (is_linked image x) (code_of image x) c (all_at (is_entry image) image.entries (image_parts image h).links_good n x e) f in
    and_right (suits x c && pairs (is_call image x c) c.routine.slots x.targets) (pairs (is_loop image c) c.loops x.loops) linked

pub within_there : (image : Tables) (depth n : ℕ) → is_within image depth n ≡ true → n < length image.entries
within_there image zero n h = absurd (false≢true h)
within_there image (suc depth) n h = let e = holds_some (calls_within (is_within image depth)) (slice_get image.entries n) h in inside image.entries n e.0 e.1

-- ---- how many lanes a body's entries have

chunk_lanes : (kind : EntryKind) (n : ℕ) → is_chunk kind ≡ true → has_lanes kind n ≡ true → 0 < n
chunk_lanes Ordinary n h k = absurd (false≢true h)
chunk_lanes Scalar n h k = absurd (false≢true h)
chunk_lanes N n h k = absurd (false≢true h)
chunk_lanes M n h k = absurd (false≢true h)
chunk_lanes Chunk n h k = let l = leb-true 2 n (and_left (nat_le 2 n) (nat_le n 256) k) in omega (arith, l)
chunk_lanes Rest n h k = absurd (false≢true h)

rest_lanes : (kind : EntryKind) (n : ℕ) → is_rest kind ≡ true → has_lanes kind n ≡ true → n ≡ 1
rest_lanes Ordinary n h k = absurd (false≢true h)
rest_lanes Scalar n h k = absurd (false≢true h)
rest_lanes N n h k = absurd (false≢true h)
rest_lanes M n h k = absurd (false≢true h)
rest_lanes Chunk n h k = absurd (false≢true h)
rest_lanes Rest n h k = eqb-true n 1 k

row_has_lanes : (image : Tables) → is_image image ≡ true → (n : ℕ) (x : EntryLists) → slice_get image.entries n ≡ Some x → has_lanes x.kind x.lanes ≡ true
row_has_lanes image h n x e = third (between 1 4096 (length x.text)) (list_all is_entry_byte x.text) (has_lanes x.kind x.lanes) (is_number_of image.codes x.code) (cond (is_variant x.kind) (are_kinds x.params) (length x.params == 0)) (list_all (is_number_of image.entries) x.targets) (list_all (are_entries image) x.loops) (all_at (is_row image) image.entries (image_parts image h).rows_good n x e)
  where
    third : (a b c d e f g : Bool) → (a && b && c && d && e && f && g) ≡ true → c ≡ true
    third a b c d e f g h = and_right (a && b) c (and_left (a && b && c) d (and_left (a && b && c && d) e (and_left (a && b && c && d && e) f (and_left (a && b && c && d && e && f) g h))))

-- what an entry of a body has
pub record BodyEntry (image : Tables) (c : Listing) (l : SimdSite) (kind : EntryKind → Bool) (x : EntryLists) : Type 0 where
  pub kind_is : kind x.kind ≡ true
  pub types : holds (has_loop_types c l) (code_of image x) ≡ true

body_entry : (image : Tables) (c : Listing) (l : SimdSite) (kind : EntryKind → Bool) (n : ℕ) (x : EntryLists) → is_body_entry image c l kind n ≡ true → slice_get image.entries n ≡ Some x → BodyEntry image c l kind x
body_entry image c l kind n x h e =
    let all = holds_at (λ (t : EntryLists). kind t.kind && holds (is_equal t.code) (numbered_code l.body) && holds (has_loop_types c l) (code_of image t)) (slice_get image.entries n) x h e in
    record {
      kind_is = and_left (kind x.kind) (holds (is_equal x.code) (numbered_code l.body)) (and_left (kind x.kind && holds (is_equal x.code) (numbered_code l.body)) (holds (has_loop_types c l) (code_of image x)) all);
      types = and_right (kind x.kind && holds (is_equal x.code) (numbered_code l.body)) (holds (has_loop_types c l) (code_of image x)) all;
    }

-- ---- places

pub tables_same : (p q : Place) → IsCallee p q → tables q ≡ tables p
tables_same p q h = ap image_tables h.image

pub mapped : {A B : Type 0} (f : A → B) (xs : List A) (n : ℕ) (x : A) → slice_get xs n ≡ Some x → slice_get (map f xs) n ≡ Some (f x)
mapped f xs n x h = slice_get-map f xs n ∙ ap (option_map f) h

-- the entry that a place calls is one of the caller's image
pub callee_at : (p q : Place) (n : ℕ) → IsCallee p q → q.number ≡ n → slice_get (tables p).entries n ≡ Some (entry q)
callee_at p q n h e = subst (λ k. slice_get (tables p).entries k ≡ Some (entry q)) e (subst (λ t. slice_get t.entries q.number ≡ Some (entry q)) (tables_same p q h) h.sound.placed)

callee_code : (p q : Place) → IsCallee p q → code_of (tables p) (entry q) ≡ Some (listing q)
callee_code p q h = subst (λ t. code_of t (entry q) ≡ Some (listing q)) (tables_same p q h) h.sound.coded

abbrev some_target : Target → Option Target
some_target t = Some t

abbrev some_simd : Simd → Option Simd
some_simd l = Some l

pub target_at : (p q : Place) (k n : ℕ) (slot : CallSite) → IsCallee p q → q.number ≡ n → slice_get (listing p).routine.slots k ≡ Some slot → slice_get (entry p).targets k ≡ Some n →
    target_of (site p) k ≡ Some (record { slot = slot; number = q.number; entry = entry q })
target_at p q k n slot h e f g =
    ap (option_and_then (λ (s : CallSite). option_and_then (λ m. option_map (λ x. record { slot = s; number = m; entry = x }) (slice_get (tables p).entries m)) (slice_get (entry p).targets k))) f
    ∙ (ap (option_and_then (λ m. option_map (λ x. record { slot = slot; number = m; entry = x }) (slice_get (tables p).entries m))) g
    ∙ (ap (option_map (λ x. record { slot = slot; number = n; entry = x })) (callee_at p q n h e)
    ∙ ap (λ m. some_target (record { slot = slot; number = m; entry = entry q })) (sym e)))

pub target_types_at : (p q : Place) (k n : ℕ) (slot : CallSite) → IsSound p → IsCallee p q → q.number ≡ n → slice_get (listing p).routine.slots k ≡ Some slot → slice_get (entry p).targets k ≡ Some n → has_slot_types (listing p) slot (listing q) ≡ true
target_types_at p q k n slot s h e f g =
    let call = pairs_at (is_call (tables p) (entry p) (listing p)) (listing p).routine.slots (entry p).targets (slots_linked (tables p) s.valid p.number (entry p) (listing p) s.placed s.coded) k slot n f g in
    let t = target_types (tables p) (entry p) (listing p) slot n (entry q) call (callee_at p q n h e) in
    subst (λ c. has_slot_types (listing p) slot c ≡ true) (same_Some t.code (listing q) (sym t.found ∙ callee_code p q h)) t.types

-- ---- the entries of a simd loop

pub record LoopAt (p q r : Place) (k : ℕ) (l : SimdSite) : Type 0 where
  pub simd : simd_of (site p) k ≡ Some (record { site = l; chunk = q.number; rest = r.number; lanes = (entry q).lanes })
  pub chunk : has_loop_types (listing p) l (listing q) ≡ true
  pub rest : has_loop_types (listing p) l (listing r) ≡ true
  pub many : 0 < (entry q).lanes
  pub one : (entry r).lanes ≡ 1

pub loop_at : (p q r : Place) (k : ℕ) (l : SimdSite) (t : LoopTargets) → IsSound p → IsCallee p q → IsCallee p r → q.number ≡ t.chunk → r.number ≡ t.rest → slice_get (listing p).loops k ≡ Some l → slice_get (entry p).loops k ≡ Some t → LoopAt p q r k l
loop_at p q r k l t s h i e f g j =
    let image : Tables = tables p in
    let all = pairs_at (is_loop image (listing p)) (listing p).loops (entry p).loops (loops_linked image s.valid p.number (entry p) (listing p) s.placed s.coded) k l t g j in
    let chunk = body_entry image (listing p) l is_chunk t.chunk (entry q) (and_left (is_body_entry image (listing p) l is_chunk t.chunk) (is_body_entry image (listing p) l is_rest t.rest) all) (callee_at p q t.chunk h e) in
    let rest = body_entry image (listing p) l is_rest t.rest (entry r) (and_right (is_body_entry image (listing p) l is_chunk t.chunk) (is_body_entry image (listing p) l is_rest t.rest) all) (callee_at p r t.rest i f) in
    record {
      simd =
          ap (option_and_then (λ (x : SimdSite). option_and_then (λ (y : LoopTargets). option_map (λ (z : EntryLists). record { site = x; chunk = y.chunk; rest = y.rest; lanes = z.lanes }) (slice_get image.entries y.chunk)) (slice_get (entry p).loops k))) g
          ∙ (ap (option_and_then (λ (y : LoopTargets). option_map (λ (z : EntryLists). record { site = l; chunk = y.chunk; rest = y.rest; lanes = z.lanes }) (slice_get image.entries y.chunk))) j
          ∙ (ap (option_map (λ (z : EntryLists). record { site = l; chunk = t.chunk; rest = t.rest; lanes = z.lanes })) (callee_at p q t.chunk h e)
          ∙ ap₂ (λ a b. some_simd (record { site = l; chunk = a; rest = b; lanes = (entry q).lanes })) (sym e) (sym f)));
      chunk = subst (λ o. holds (has_loop_types (listing p) l) o ≡ true) (callee_code p q h) chunk.types;
      rest = subst (λ o. holds (has_loop_types (listing p) l) o ≡ true) (callee_code p r i) rest.types;
      many = chunk_lanes (entry q).kind (entry q).lanes chunk.kind_is (row_has_lanes image s.valid t.chunk (entry q) (callee_at p q t.chunk h e));
      one = rest_lanes (entry r).kind (entry r).lanes rest.kind_is (row_has_lanes image s.valid t.rest (entry r) (callee_at p r t.rest i f));
    }
