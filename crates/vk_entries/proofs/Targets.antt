-- What an image says of the entries that a place calls.
use Rattle.std.proofs.Common.{◌≡◌, ℕ, zero, suc, ◌+◌, ◌<◌, ◌≤◌, ◌==◌, max, Bool, true, false, ◌&&◌, cond, List, [], ◌∷◌, ◌++◌, length, map, Option, Some, None, IfSome, ◌⊎◌, inl, inr, refl, ap, sym, subst, ◌∙◌, arith}
use Rattle.std.specs.Prelude.{slice_get}
use Rattle.std.specs.List.{list_all}
use Rattle.std.specs.Option.{option_and_then, option_map}
use Rattle.std.proofs.lemmas.Bool.{eqb-true, false≢true}
use Rattle.std.proofs.lemmas.List.Folds.{list_all-append}
use Rattle.std.proofs.lemmas.Option.{none-some, same_Some}
use Rattle.std.proofs.Math.Nat.{le-max_left, le-max_right}
use Rattle.vk_code.specs.Listing.{CallSite, Listing, SimdSite}
use Rattle.vk_code.specs.Tests.{all_good, holds}
use Rattle.vk_code.specs.Valid.{body_verdicts, has_callee, has_good_args, is_good_head, is_good_loop, is_good_slot, is_result, verdicts}
use Rattle.vk_code.proofs.Faults.{and_left, and_right}
use Rattle.vk_object.specs.declared.tables.EntryKind.{EntryKind}
use Rattle.vk_object.specs.declared.tables.EntryKind.TheVariants.{Ordinary, Scalar, N, M, Chunk, Rest}
use Rattle.vk_object.specs.declared.tables.LoopTargets.{LoopTargets}
use Rattle.vk_object.specs.Images.{are_entries, chain_cells, code_of, frame_cells, greatest, has_body, has_lanes, has_slot_types, is_call, is_code, is_entry_byte, is_image, is_number_of, is_row, is_variant, may_call, names_of}
use Rattle.vk_object.specs.Machine.{Simd, Target, simd_of, target_of}
use Rattle.vk_object.specs.Parameters.{are_kinds}
use Rattle.vk_object.specs.Tables.{EntryLists, Tables}
use Rattle.vk_object.specs.Texts.{between}
use Rattle.vk_runs.proofs.Reached.{all_at, holds_at, image_parts, pairs_at, row_lanes, slots_linked}
use Rattle.vk_steps.specs.declared.place.Place.{Place}
use Rattle.vk_steps.specs.Places.{IsSound, called_cells, entry, listing, regs, site, tables}
use Rattle.vk_calls.specs.Found.{IsCallee}
use Rattle.vk_calls.proofs.Callees.{callee_at, tables_same}
use Rattle.vk_entries.specs.Callees.{HasRoom}
use Rattle.vk_entries.proofs.Results.{result_there}

-- ---- a code's slots and loops are good

parts_good : (image : Tables) → is_image image ≡ true → (n : ℕ) (c : Listing) → slice_get image.codes n ≡ Some c →
    all_good (map (is_good_slot (names_of image) c.routine) c.routine.slots ++ (map (is_good_loop (names_of image) c.routine) c.loops ++ body_verdicts (names_of image) c.routine)) ≡ true
parts_good image h n c e =
    and_right (is_good_head c.routine) _ (and_right (list_all (has_body image) c.loops) (all_good (verdicts (names_of image) c)) (all_at (is_code image) image.codes (image_parts image h).codes_good n c e))

slots_good : (image : Tables) → is_image image ≡ true → (n : ℕ) (c : Listing) → slice_get image.codes n ≡ Some c → all_good (map (is_good_slot (names_of image) c.routine) c.routine.slots) ≡ true
slots_good image h n c e =
    let slots : List Bool = map (is_good_slot (names_of image) c.routine) c.routine.slots in
    let rest : List Bool = map (is_good_loop (names_of image) c.routine) c.loops ++ body_verdicts (names_of image) c.routine in
    and_left (all_good slots) (all_good rest) (sym (list_all-append (λ b. b) slots rest) ∙ parts_good image h n c e)

loops_good : (image : Tables) → is_image image ≡ true → (n : ℕ) (c : Listing) → slice_get image.codes n ≡ Some c → all_good (map (is_good_loop (names_of image) c.routine) c.loops) ≡ true
loops_good image h n c e =
    let slots : List Bool = map (is_good_slot (names_of image) c.routine) c.routine.slots in
    let loops : List Bool = map (is_good_loop (names_of image) c.routine) c.loops in
    let instrs : List Bool = body_verdicts (names_of image) c.routine in
    let rest : all_good (loops ++ instrs) ≡ true = and_right (all_good slots) (all_good (loops ++ instrs)) (sym (list_all-append (λ b. b) slots (loops ++ instrs)) ∙ parts_good image h n c e) in
    and_left (all_good loops) (all_good instrs) (sym (list_all-append (λ b. b) loops instrs) ∙ rest)

good_at : {A : Type 0} (p : A → Bool) (xs : List A) → all_good (map p xs) ≡ true → (k : ℕ) (x : A) → slice_get xs k ≡ Some x → p x ≡ true
good_at p [] h k x e = absurd (none-some x e)
good_at p (y ∷ xs) h zero x e = subst (λ z. p z ≡ true) (same_Some y x e) (and_left (p y) (all_good (map p xs)) h)
good_at p (y ∷ xs) h (suc k) x e = good_at p xs (and_right (p y) (all_good (map p xs)) h) k x e

pub slot_register : (p : Place) → IsSound p → (k : ℕ) (slot : CallSite) → slice_get (listing p).routine.slots k ≡ Some slot → IfSome slot.result (λ r. r < length (regs p))
slot_register p s k slot e =
    let c = (listing p).routine in
    let good : is_good_slot (names_of (tables p)) c slot ≡ true = good_at (is_good_slot (names_of (tables p)) c) c.slots (slots_good (tables p) s.valid (entry p).code (listing p) s.coded) k slot e in
    result_there (length c.regs) slot.result (and_right (has_good_args c slot) (is_result (length c.regs) slot.result) (and_left (has_good_args c slot && is_result (length c.regs) slot.result) (has_callee (names_of (tables p)) c slot) good))

pub loop_good : (p : Place) → IsSound p → (k : ℕ) (l : SimdSite) → slice_get (listing p).loops k ≡ Some l → is_good_loop (names_of (tables p)) (listing p).routine l ≡ true
loop_good p s k l e = good_at (is_good_loop (names_of (tables p)) (listing p).routine) (listing p).loops (loops_good (tables p) s.valid (entry p).code (listing p) s.coded) k l e

-- ---- how many lanes a callee has

callee_lanes : (e t : EntryLists) → may_call e t ≡ true → has_lanes t.kind t.lanes ≡ true → (t.lanes ≡ 1 → ⊥) → t.lanes ≡ e.lanes
callee_lanes e t h k d = by t.kind h k
  where
    by : (kind : EntryKind) → elim kind as (λ _. Bool) [ Ordinary ↦ Rattle.vk_object.specs.Images.is_ordinary e.kind | Scalar ↦ true | N ↦ t.lanes == e.lanes | M ↦ t.lanes == e.lanes | Chunk ↦ false | Rest ↦ false ] ≡ true → has_lanes kind t.lanes ≡ true → t.lanes ≡ e.lanes
    by Ordinary h k = absurd (d (eqb-true t.lanes 1 k))
    by Scalar h k = absurd (d (eqb-true t.lanes 1 k))
    by N h k = eqb-true t.lanes e.lanes h
    by M h k = eqb-true t.lanes e.lanes h
    by Chunk h k = absurd (false≢true h)
    by Rest h k = absurd (false≢true h)

pub slot_lanes : (p q : Place) (k n : ℕ) (slot : CallSite) → IsSound p → IsCallee p q → q.number ≡ n → slice_get (listing p).routine.slots k ≡ Some slot → slice_get (entry p).targets k ≡ Some n → ((entry q).lanes ≡ 1 → ⊥) → (entry q).lanes ≡ (entry p).lanes
slot_lanes p q k n slot s h e f g d =
    let image : Tables = tables p in
    let x : EntryLists = entry q in
    let there = callee_at p q n h e in
    let call = pairs_at (is_call image (entry p) (listing p)) (listing p).routine.slots (entry p).targets (slots_linked image s.valid p.number (entry p) (listing p) s.placed s.coded) k slot n f g in
    let both = holds_at (λ (t : EntryLists). may_call (entry p) t && holds (has_slot_types (listing p) slot) (code_of image t)) (slice_get image.entries n) x call there in
    callee_lanes (entry p) x (and_left (may_call (entry p) x) (holds (has_slot_types (listing p) slot) (code_of image x)) both)
    (row_lanes image x (between 1 4096 (length x.text)) (list_all is_entry_byte x.text) (has_lanes x.kind x.lanes) (is_number_of image.codes x.code) (cond (is_variant x.kind) (are_kinds x.params) (length x.params == 0)) (list_all (is_number_of image.entries) x.targets) (list_all (are_entries image) x.loops) (all_at (is_row image) image.entries (image_parts image s.valid).rows_good n x there)) d

-- ---- room

at_most_greatest : {A : Type 0} (f : A → ℕ) (xs : List A) (k : ℕ) (x : A) → slice_get xs k ≡ Some x → f x ≤ greatest (map f xs)
at_most_greatest f [] k x e = absurd (none-some x e)
at_most_greatest f (y ∷ xs) zero x e = subst (λ z. f z ≤ max (f y) (greatest (map f xs))) (same_Some y x e) (le-max_left (f y) (greatest (map f xs)))
at_most_greatest f (y ∷ xs) (suc k) x e = let l = at_most_greatest f xs k x e in let m = le-max_right (f y) (greatest (map f xs)) in omega (arith, l, m)

chain_is : (image : Tables) (depth n : ℕ) (x : EntryLists) (c : Listing) → slice_get image.entries n ≡ Some x → code_of image x ≡ Some c → chain_cells image (suc depth) n ≡ frame_cells x (Some c) + called_cells image depth x
chain_is image depth n x c e f =
    ap (λ o. elim o as (λ _. ℕ) [ None ↦ 0 | Some y ↦ frame_cells y (code_of image y) + called_cells image depth y ]) e ∙ ap (λ o. frame_cells x o + called_cells image depth x) f

callee_cells : (p q : Place) → IsCallee p q → chain_cells (tables p) p.depth q.number ≡ frame_cells (entry q) (Some (listing q)) + called_cells (tables q) q.depth (entry q)
callee_cells p q h =
    ap (λ d. chain_cells (tables p) d q.number) (h.deeper ∙ next q.depth)
    ∙ (ap (λ t. chain_cells t (suc q.depth) q.number) (sym (tables_same p q h)) ∙ chain_is (tables q) q.depth q.number (entry q) (listing q) h.sound.placed h.sound.coded)
  where
    next : (n : ℕ) → n + 1 ≡ suc n
    next n = omega arith

pub slot_room : (p q : Place) (k n : ℕ) → IsCallee p q → q.number ≡ n → slice_get (entry p).targets k ≡ Some n → HasRoom p q
slot_room p q k n h e f =
    let cells : ℕ → ℕ = chain_cells (tables p) p.depth in
    let l = at_most_greatest cells (entry p).targets k q.number (f ∙ ap Some (sym e)) in
    let m = le-max_left (greatest (map cells (entry p).targets)) (greatest (map (λ (t : LoopTargets). max (cells t.chunk) (cells t.rest)) (entry p).loops)) in
    let c = callee_cells p q h in
    omega (arith, l, m, c)

pub loop_room : (p q : Place) (k n : ℕ) (t : LoopTargets) → IsCallee p q → q.number ≡ n → slice_get (entry p).loops k ≡ Some t → (t.chunk ≡ n) ⊎ (t.rest ≡ n) → HasRoom p q
loop_room p q k n t h e f o =
    let cells : ℕ → ℕ = chain_cells (tables p) p.depth in
    let l = at_most_greatest (λ (t : LoopTargets). max (cells t.chunk) (cells t.rest)) (entry p).loops k t f in
    let m = le-max_right (greatest (map cells (entry p).targets)) (greatest (map (λ (t : LoopTargets). max (cells t.chunk) (cells t.rest)) (entry p).loops)) in
    let c = callee_cells p q h in
    let i : cells n ≤ max (cells t.chunk) (cells t.rest) = elim o as (λ _. cells n ≤ max (cells t.chunk) (cells t.rest)) [ inl s ↦ subst (λ j. cells j ≤ max (cells t.chunk) (cells t.rest)) s (le-max_left (cells t.chunk) (cells t.rest)) | inr s ↦ subst (λ j. cells j ≤ max (cells t.chunk) (cells t.rest)) s (le-max_right (cells t.chunk) (cells t.rest)) ] in
    let j : cells q.number ≡ cells n = ap cells e in
    omega (arith, l, m, c, i, j)

-- ---- what was found

pub record Slotted (p : Place) (k : ℕ) (t : Target) : Type 0 where
  pub slot : slice_get (listing p).routine.slots k ≡ Some t.slot
  pub target : slice_get (entry p).targets k ≡ Some t.number

pub target_parts : (p : Place) (k : ℕ) (t : Target) → target_of (site p) k ≡ Some t → Slotted p k t
target_parts p k t h = by (slice_get (listing p).routine.slots k) refl h
  where
    by : (o : Option CallSite) → slice_get (listing p).routine.slots k ≡ o → option_and_then (λ slot. option_and_then (λ n. option_map (λ e. record { slot = slot; number = n; entry = e }) (slice_get (tables p).entries n)) (slice_get (entry p).targets k)) o ≡ Some t → Slotted p k t
    by None e h = absurd (none-some t h)
    by (Some slot) e h = by2 (slice_get (entry p).targets k) refl h
      where
        by2 : (o : Option ℕ) → slice_get (entry p).targets k ≡ o → option_and_then (λ n. option_map (λ e. record { slot = slot; number = n; entry = e }) (slice_get (tables p).entries n)) o ≡ Some t → Slotted p k t
        by2 None f h = absurd (none-some t h)
        by2 (Some n) f h = by3 (slice_get (tables p).entries n) h
          where
            by3 : (o : Option EntryLists) → option_map (λ e. record { slot = slot; number = n; entry = e }) o ≡ Some t → Slotted p k t
            by3 None h = absurd (none-some t h)
            by3 (Some x) h = record { slot = e ∙ ap (λ (u : Target). Some u.slot) (same_Some _ t h); target = f ∙ ap (λ (u : Target). Some u.number) (same_Some _ t h) }

pub record Looped (p : Place) (k : ℕ) (l : Simd) : Type 0 where
  pub site_is : slice_get (listing p).loops k ≡ Some l.site
  pub targets : LoopTargets
  pub targets_are : slice_get (entry p).loops k ≡ Some targets
  pub chunk : targets.chunk ≡ l.chunk
  pub rest : targets.rest ≡ l.rest

pub simd_parts : (p : Place) (k : ℕ) (l : Simd) → simd_of (site p) k ≡ Some l → Looped p k l
simd_parts p k l h = by (slice_get (listing p).loops k) refl h
  where
    by : (o : Option SimdSite) → slice_get (listing p).loops k ≡ o → option_and_then (λ (l : SimdSite). option_and_then (λ (t : LoopTargets). option_map (λ (e : EntryLists). record { site = l; chunk = t.chunk; rest = t.rest; lanes = e.lanes }) (slice_get (tables p).entries t.chunk)) (slice_get (entry p).loops k)) o ≡ Some l → Looped p k l
    by None e h = absurd (none-some l h)
    by (Some m) e h = by2 (slice_get (entry p).loops k) refl h
      where
        by2 : (o : Option LoopTargets) → slice_get (entry p).loops k ≡ o → option_and_then (λ (t : LoopTargets). option_map (λ (e : EntryLists). record { site = m; chunk = t.chunk; rest = t.rest; lanes = e.lanes }) (slice_get (tables p).entries t.chunk)) o ≡ Some l → Looped p k l
        by2 None f h = absurd (none-some l h)
        by2 (Some t) f h = by3 (slice_get (tables p).entries t.chunk) h
          where
            by3 : (o : Option EntryLists) → option_map (λ (e : EntryLists). record { site = m; chunk = t.chunk; rest = t.rest; lanes = e.lanes }) o ≡ Some l → Looped p k l
            by3 None h = absurd (none-some l h)
            by3 (Some x) h = record { site_is = e ∙ ap (λ (u : Simd). Some u.site) (same_Some _ l h); targets = t; targets_are = f; chunk = ap (λ (u : Simd). u.chunk) (same_Some _ l h); rest = ap (λ (u : Simd). u.rest) (same_Some _ l h) }
