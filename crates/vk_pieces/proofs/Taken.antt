-- Fields that are whole are taken.
use Rattle.std.proofs.Common.{◌≡◌, ℕ, ◌+◌, ◌-◌, ◌<◌, ◌≤◌, false, ltb, List, [], ◌∷◌, ◌++◌, length, Some, None, refl, sym, ap, ◌∙◌, subst, arith}
use Rattle.std.proofs.lemmas.Bool.{le-ltb, lt-ltb}
use Rattle.std.proofs.lemmas.List.{take_at, drop_at, length-append, nil_from_length}
use Rattle.vk_format.specs.declared.rules.ObjectFail.{ObjectFail}
use Rattle.vk_format.specs.declared.rules.ObjectFail.TheVariants as fails
use Rattle.vk_format.specs.declared.rules.ObjectFault.{ObjectFault}
use Rattle.vk_format.specs.declared.rules.ObjectRule.TheVariants.{O5}
use Rattle.vk_format.specs.Format.{Format, Field, Refused, Whole, left, fault, advance, told}
use Rattle.vk_format.proofs.Pieces.{field_taken, field_short}
use Rattle.vk_code_read.specs.Inner.Left.{Fails, taken}
use Rattle.vk_pieces.specs.Fields.{IsField}
use Rattle.vk_pieces.specs.Standing.{TellsFail}

-- a field that is whole is taken
pub takes_field : {R : Type 0} (f : Format R) (width at : ℕ) (bytes more : List ℕ) → IsField f width → length bytes ≡ width
    → advance f at (bytes ++ more) ≡ advance (taken f bytes) (at + width) more
takes_field f width at bytes more e len =
    let long : ltb (length (bytes ++ more)) width ≡ false = le-ltb _ _ (omega (arith, len, length-append bytes more)) in
    ap (λ g. advance g at (bytes ++ more)) e
    ∙ field_taken width (taken f) at (bytes ++ more) long
    ∙ rw (take_at bytes more width len, drop_at bytes more width len) refl

tells_refused : (R : Type 0) (at : ℕ) (more : List ℕ) (e : ObjectFault) → told (advance {A = R} (Refused e.at e.rule) at more) ≡ Some e
unfolding advance told
tells_refused R at more e = refl

-- what is refused is told
pub tells_fail : {R : Type 0} (e : ObjectFail) (f : Format R) (at : ℕ) (more : List ℕ) → Fails e f → TellsFail e (advance f at more)
tells_fail {R = R} (fails.Fault e) f at more h = subst (λ (g : Format R). told (advance g at more) ≡ Some e) (sym h) (tells_refused R at more e)
tells_fail fails.Memory f at more h = tt

-- ---- a field that is not whole

pub keeps : {R : Type 0} (f : Format R) (width at : ℕ) (bytes : List ℕ) → IsField f width → length bytes < width → advance f at bytes ≡ left f at bytes
keeps f width at bytes e lt =
    ap (λ g. advance g at bytes) e ∙ field_short width (taken f) at bytes (lt-ltb _ _ lt) ∙ ap (λ g. left g at bytes) (sym e)

quiet_field : {R : Type 0} (width at : ℕ) (next : List ℕ → Format R) (bytes : List ℕ) → told (left (Field width next) at bytes) ≡ None
unfolding told
quiet_field width at next bytes = refl

pub quiet : {R : Type 0} (f : Format R) (width at : ℕ) (bytes : List ℕ) → IsField f width → told (left f at bytes) ≡ None
quiet f width at bytes e = ap (λ g. told (left g at bytes)) e ∙ quiet_field width at (taken f) bytes

-- ---- no field is left

pub over_none : {R : Type 0} (f : Format R) (rows : R) (at : ℕ) (bytes : List ℕ) → f ≡ Whole rows → length bytes ≡ 0 → advance f at bytes ≡ left f at []
unfolding advance
over_none f rows at bytes is len = rw (nil_from_length bytes len, is) refl

pub over_quiet : {R : Type 0} (f : Format R) (rows : R) (at : ℕ) → f ≡ Whole rows → told (left f at []) ≡ None
unfolding told
over_quiet f rows at is = rw is refl

over_some : {R : Type 0} (f : Format R) (rows : R) (at b : ℕ) (bytes : List ℕ) → f ≡ Whole rows → told (advance f at (b ∷ bytes)) ≡ Some (fault at O5)
unfolding advance told
over_some f rows at b bytes is = rw is refl

pub over_tells : {R : Type 0} (f : Format R) (rows : R) (at : ℕ) (bytes more : List ℕ) → f ≡ Whole rows → (length bytes ≡ 0 → ⊥)
    → told (advance f at (bytes ++ more)) ≡ Some (fault at O5)
over_tells f rows at [] more is some = absurd (some refl)
over_tells f rows at (b ∷ bytes) more is some = over_some f rows at b (bytes ++ more) is

-- a field that is not wanted has no bytes
pub none_pending : (pending : List ℕ) (width : ℕ) → length pending ≤ width - 1 → width ≡ 0 → pending ≡ []
none_pending pending width fits none = nil_from_length pending (omega (arith, fits, none))
