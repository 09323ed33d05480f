-- Targets one after the other: those of calls and those of loops.
use Rattle.std.proofs.Common.{◌≡◌, ℕ, suc, ◌+◌, ◌*◌, ◌<◌, ◌≤◌, min, Bool, true, false, List, [], ◌∷◌, length, map, drop, get_or, Option, Some, None, ◌⊎◌, inl, inr, refl, ap, ap₂, sym, ◌∙◌, arith, add-one}
use Rattle.std.proofs.Math.Seq.{drop-cons}
use Rattle.std.proofs.lemmas.Bool.{cases_lt}
use Rattle.std.proofs.lemmas.List.{drop_all}
use Rattle.vk_code.specs.Listing.{CallSite, Listing, SimdSite}
use Rattle.vk_format.specs.declared.rules.ObjectFault.{ObjectFault}
use Rattle.vk_format.specs.declared.rules.ObjectRule.TheVariants.{O7}
use Rattle.vk_format.specs.Format.{fault}
use Rattle.vk_code_format.specs.declared.rows.LoopRow.{LoopRow}
use Rattle.vk_code_format.specs.declared.rows.SlotRow.{SlotRow}
use Rattle.vk_code_format.specs.Fields.{or_else, unless}
use Rattle.vk_code_format.specs.Values.{call_of, site_of}
use Rattle.vk_code_rows.specs.Sums.{capped}
use Rattle.vk_image_format.specs.declared.rows.RawEntry.{RawEntry}
use Rattle.vk_image_format.specs.Image.{loop_faults, target_faults}
use Rattle.vk_image_format.specs.Values.{entry_of}
use Rattle.vk_object.specs.declared.tables.LoopTargets.{LoopTargets}
use Rattle.vk_object.specs.Images.{is_body_entry, is_call, is_chunk, is_rest}
use Rattle.vk_object.specs.Tables.{Tables}
use Rattle.vk_object_faults.specs.Inner.Told.{place_told}

good_none : (b : Bool) (f : ObjectFault) (o : Option ObjectFault) → b ≡ true → or_else (unless b f) o ≡ o
good_none b f o h = ap (λ x. or_else (unless x f) o) h

bad_some : (b : Bool) (f : ObjectFault) (o : Option ObjectFault) → b ≡ false → or_else (unless b f) o ≡ Some f
bad_some b f o h = ap (λ x. or_else (unless x f) o) h

-- a list is at its end, or the other is
pub at_end : (m n k : ℕ) → min m n ≤ k → (m ≤ k) ⊎ (n ≤ k)
at_end m n k h = elim (cases_lt k m) [
  | inl l ↦ inr (omega (arith, h, l))
  | inr l ↦ inl l
]

-- ---- calls

module _ (image : Tables) (e : RawEntry) (c : Listing) (slots : List SlotRow) (targets : List ℕ) (p : ℕ) where
  -- the faults of the targets from number k on
  abbrev pub targets_from : ℕ → Option ObjectFault
  targets_from k = target_faults image e c (p + 4 * k) (map call_of (drop k slots)) (drop k targets)

  -- the first k targets have no fault, and the next one begins here
  pub record Calling (k place : ℕ) : Type 0 where
    pub here : place ≡ capped (p + 4 * k)
    pub onward : target_faults image e c p (map call_of slots) targets ≡ targets_from k

  pub calling_starts : (place : ℕ) → place ≡ capped p → Calling 0 place
  calling_starts place h =
      let same : p ≡ p + 4 * 0 = omega arith in
      record { here = h ∙ ap capped same; onward = ap (λ k. target_faults image e c k (map call_of slots) targets) same }

  one_target : (k : ℕ) (s sd : SlotRow) (t td : ℕ) → k < length slots → k < length targets → s ≡ get_or slots k sd → t ≡ get_or targets k td
      → targets_from k ≡ or_else (unless (is_call image (entry_of e) c (call_of s) t) (fault (p + 4 * k) O7)) (target_faults image e c (p + 4 * k + 4) (map call_of (drop (suc k) slots)) (drop (suc k) targets))
  one_target k s sd t td hs ht es et =
      ap₂ (λ (ss : List SlotRow) (ts : List ℕ). target_faults image e c (p + 4 * k) (map call_of ss) ts)
      (drop-cons slots k sd hs ∙ ap (λ x. x ∷ drop (suc k) slots) (sym es)) (drop-cons targets k td ht ∙ ap (λ x. x ∷ drop (suc k) targets) (sym et))

  pub calling_goes : (k place : ℕ) (s sd : SlotRow) (t td : ℕ) → k < length slots → k < length targets → s ≡ get_or slots k sd → t ≡ get_or targets k td
      → Calling k place → is_call image (entry_of e) c (call_of s) t ≡ true → (next : ℕ) → next ≡ min (place + 4) 18446744073709551615 → Calling (k + 1) next
  calling_goes k place s sd t td hs ht es et g good next h =
      let later : p + 4 * k + 4 ≡ p + 4 * (k + 1) = omega arith in
      let here = g.here in
      record {
        here = omega (arith, here, h);
        onward =
            g.onward ∙ one_target k s sd t td hs ht es et
            ∙ good_none (is_call image (entry_of e) c (call_of s) t) (fault (p + 4 * k) O7) (target_faults image e c (p + 4 * k + 4) (map call_of (drop (suc k) slots)) (drop (suc k) targets)) good
            ∙ ap₂ (λ (q j : ℕ). target_faults image e c q (map call_of (drop j slots)) (drop j targets)) later (sym (add-one k));
      }

  pub calling_stops : (k place : ℕ) (s sd : SlotRow) (t td : ℕ) → k < length slots → k < length targets → s ≡ get_or slots k sd → t ≡ get_or targets k td
      → Calling k place → is_call image (entry_of e) c (call_of s) t ≡ false → Some place ≡ place_told (target_faults image e c p (map call_of slots) targets)
  calling_stops k place s sd t td hs ht es et g bad =
      ap (λ x. Some x) g.here
      ∙ ap place_told (sym (g.onward ∙ one_target k s sd t td hs ht es et
      ∙ bad_some (is_call image (entry_of e) c (call_of s) t) (fault (p + 4 * k) O7) (target_faults image e c (p + 4 * k + 4) (map call_of (drop (suc k) slots)) (drop (suc k) targets)) bad))

  pub calling_ends : (k place : ℕ) → (length slots ≤ k) ⊎ (length targets ≤ k) → Calling k place → None ≡ place_told (target_faults image e c p (map call_of slots) targets)
  calling_ends k place (inl all) g = ap place_told (sym (g.onward ∙ ap (λ ss. target_faults image e c (p + 4 * k) (map call_of ss) (drop k targets)) (drop_all k slots all)))
  calling_ends k place (inr all) g =
      ap place_told (sym (g.onward ∙ ap (λ ts. target_faults image e c (p + 4 * k) (map call_of (drop k slots)) ts) (drop_all k targets all) ∙ no_target (p + 4 * k) (map call_of (drop k slots))))
    where
      no_target : (q : ℕ) (ss : List CallSite) → target_faults image e c q ss [] ≡ None
      no_target q [] = refl
      no_target q (s ∷ ss) = refl

-- ---- loops

module _ (image : Tables) (c : Listing) (sites : List LoopRow) (targets : List LoopTargets) (p : ℕ) where
  abbrev pub loops_from : ℕ → Option ObjectFault
  loops_from k = loop_faults image c (p + 8 * k) (map site_of (drop k sites)) (drop k targets)

  -- the first k loops have no fault, and the targets of the next one begin here
  pub record Looping (k place : ℕ) : Type 0 where
    pub here : place ≡ capped (p + 8 * k)
    pub onward : loop_faults image c p (map site_of sites) targets ≡ loops_from k

  pub looping_starts : (place : ℕ) → place ≡ capped p → Looping 0 place
  looping_starts place h =
      let same : p ≡ p + 8 * 0 = omega arith in
      record { here = h ∙ ap capped same; onward = ap (λ k. loop_faults image c k (map site_of sites) targets) same }

  abbrev behind : ℕ → Option ObjectFault
  behind k = loop_faults image c (p + 8 * k + 8) (map site_of (drop (suc k) sites)) (drop (suc k) targets)

  abbrev rest_behind : ℕ → LoopRow → LoopTargets → Option ObjectFault
  rest_behind k s t = or_else (unless (is_body_entry image c (site_of s) is_rest t.rest) (fault (p + 8 * k + 4) O7)) (behind k)

  one_loop : (k : ℕ) (s sd : LoopRow) (t td : LoopTargets) → k < length sites → k < length targets → s ≡ get_or sites k sd → t ≡ get_or targets k td
      → loops_from k ≡ or_else (unless (is_body_entry image c (site_of s) is_chunk t.chunk) (fault (p + 8 * k) O7)) (rest_behind k s t)
  one_loop k s sd t td hs ht es et =
      ap₂ (λ (ss : List LoopRow) (ts : List LoopTargets). loop_faults image c (p + 8 * k) (map site_of ss) ts)
      (drop-cons sites k sd hs ∙ ap (λ x. x ∷ drop (suc k) sites) (sym es)) (drop-cons targets k td ht ∙ ap (λ x. x ∷ drop (suc k) targets) (sym et))

  pub looping_goes : (k place : ℕ) (s sd : LoopRow) (t td : LoopTargets) → k < length sites → k < length targets → s ≡ get_or sites k sd → t ≡ get_or targets k td
      → Looping k place → is_body_entry image c (site_of s) is_chunk t.chunk ≡ true → is_body_entry image c (site_of s) is_rest t.rest ≡ true
      → (next : ℕ) → next ≡ min (place + 8) 18446744073709551615 → Looping (k + 1) next
  looping_goes k place s sd t td hs ht es et g chunk rest next h =
      let later : p + 8 * k + 8 ≡ p + 8 * (k + 1) = omega arith in
      let here = g.here in
      record {
        here = omega (arith, here, h);
        onward =
            g.onward ∙ one_loop k s sd t td hs ht es et
            ∙ good_none (is_body_entry image c (site_of s) is_chunk t.chunk) (fault (p + 8 * k) O7) (rest_behind k s t) chunk
            ∙ good_none (is_body_entry image c (site_of s) is_rest t.rest) (fault (p + 8 * k + 4) O7) (behind k) rest
            ∙ ap₂ (λ (q j : ℕ). loop_faults image c q (map site_of (drop j sites)) (drop j targets)) later (sym (add-one k));
      }

  pub chunk_stops : (k place : ℕ) (s sd : LoopRow) (t td : LoopTargets) → k < length sites → k < length targets → s ≡ get_or sites k sd → t ≡ get_or targets k td
      → Looping k place → is_body_entry image c (site_of s) is_chunk t.chunk ≡ false → Some place ≡ place_told (loop_faults image c p (map site_of sites) targets)
  chunk_stops k place s sd t td hs ht es et g bad =
      ap (λ x. Some x) g.here
      ∙ ap place_told (sym (g.onward ∙ one_loop k s sd t td hs ht es et ∙ bad_some (is_body_entry image c (site_of s) is_chunk t.chunk) (fault (p + 8 * k) O7) (rest_behind k s t) bad))

  pub rest_stops : (k place : ℕ) (s sd : LoopRow) (t td : LoopTargets) → k < length sites → k < length targets → s ≡ get_or sites k sd → t ≡ get_or targets k td
      → Looping k place → is_body_entry image c (site_of s) is_chunk t.chunk ≡ true → is_body_entry image c (site_of s) is_rest t.rest ≡ false
      → (at : ℕ) → at ≡ min (place + 4) 18446744073709551615 → Some at ≡ place_told (loop_faults image c p (map site_of sites) targets)
  rest_stops k place s sd t td hs ht es et g chunk bad at h =
      let here = g.here in
      let place_is : at ≡ capped (p + 8 * k + 4) = omega (arith, here, h) in
      ap (λ x. Some x) place_is
      ∙ ap place_told (sym (g.onward ∙ one_loop k s sd t td hs ht es et
      ∙ good_none (is_body_entry image c (site_of s) is_chunk t.chunk) (fault (p + 8 * k) O7) (rest_behind k s t) chunk
      ∙ bad_some (is_body_entry image c (site_of s) is_rest t.rest) (fault (p + 8 * k + 4) O7) (behind k) bad))

  pub looping_ends : (k place : ℕ) → (length sites ≤ k) ⊎ (length targets ≤ k) → Looping k place → None ≡ place_told (loop_faults image c p (map site_of sites) targets)
  looping_ends k place (inl all) g = ap place_told (sym (g.onward ∙ ap (λ ss. loop_faults image c (p + 8 * k) (map site_of ss) (drop k targets)) (drop_all k sites all)))
  looping_ends k place (inr all) g =
      ap place_told (sym (g.onward ∙ ap (λ ts. loop_faults image c (p + 8 * k) (map site_of (drop k sites)) ts) (drop_all k targets all) ∙ no_target (p + 8 * k) (map site_of (drop k sites))))
    where
      no_target : (q : ℕ) (ss : List SimdSite) → loop_faults image c q ss [] ≡ None
      no_target q [] = refl
      no_target q (s ∷ ss) = refl
