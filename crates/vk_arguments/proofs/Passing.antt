-- Words that are equal at all parameters and lanes.
use Rattle.std.proofs.Common.{◌≡◌, ℕ, zero, suc, ◌+◌, ◌<◌, ◌≤◌, Bool, true, List, [], ◌∷◌, length, get_or, Option, unwrap_or, Err, IsErrOf, ℤ, pos, ◌-ℤ◌, ◌*ℤ◌, ap, sym, subst, refl, arith, inl, inr, ◌∙◌}
use Rattle.std.proofs.lemmas.Bool.{cases_lt}
use Rattle.vk_types.specs.declared.types.Word.{Word}
use Rattle.vk_kinds.specs.declared.heads.CType.{CType}
use Rattle.vk_kinds.specs.declared.heads.CType.TheVariants.{Void}
use Rattle.vk_kinds.specs.declared.kinds.Kind.{Kind}
use Rattle.vk_kinds.specs.declared.kinds.Kind.TheVariants.{Vector, Uniform, Linear, Ref, Val, Uval}
use Rattle.vk_meaning.specs.World.{Array}
use Rattle.vk_meaning.specs.Data.{nothing}
use Rattle.vk_meaning.specs.Types.{type_at}
use Rattle.vk_meaning.specs.Lanes.{AreFitting, AreTyped, FitsFrom, IsMoved, IsPointed, Words, argument, data_from, datum_of, number_as, step_of}
use Rattle.vk_ends.specs.declared.ends.CallFault.{CallFault}
use Rattle.vk_ends.specs.declared.ends.CallRule.TheVariants.{A2}
use Rattle.vk_arguments.specs.declared.arguments.NoArguments.{NoArguments}
use Rattle.vk_arguments.specs.declared.arguments.NoArguments.TheVariants.{Refused}
use Rattle.vk_arguments.specs.Arguments.{AreTaken, Called, Given, IsLeastPair, IsMisfitAt, IsRefused, IsWrongAt, passed, words_in}
use Rattle.vk_arguments.specs.Texts.{Meaning, is_taken_mask, mask_of}
use Rattle.vk_arguments.specs.Inner.Rows.{AreRows}

-- the type of a parameter that is not there
no_type : (ts : List CType) (q : ℕ) → length ts ≤ q → type_at ts q ≡ Void
no_type [] q h = refl
no_type (t ∷ ts) zero h = absurd (omega arith)
no_type (t ∷ ts) (suc q) h = no_type ts q (omega arith)

-- words that are the same at all parameters and lanes
abbrev pub AreSame : (ts : List CType) (n : ℕ) (words others : Words) → Type 0
AreSame ts n words others = (p j : ℕ) → p < length ts → j < n → words p j ≡ others p j

number_same : (ts : List CType) (n : ℕ) (words others : Words) (k : ℕ) → AreSame ts n words others → k < n → (q : ℕ) →
    number_as (type_at ts q) (words q k) ≡ number_as (type_at ts q) (others q k)
number_same ts n words others k same inside q = elim (cases_lt q (length ts)) [
  | inl lt ↦ ap (number_as (type_at ts q)) (same q k lt inside)
  | inr ge ↦ subst (λ t. number_as t (words q k) ≡ number_as t (others q k)) (sym (no_type ts q ge)) refl
]

-- what fits by the ones fits by the others
pub fits_same : (kind : Kind) (t : CType) (ts : List CType) (n : ℕ) (words others : Words) (p k j : ℕ) → AreSame ts n words others → p < length ts → k < n → j < n →
    FitsFrom kind t ts words p k j → FitsFrom kind t ts others p k j
fits_same Vector t ts n words others p k j same here first lane fits = tt
fits_same Uniform t ts n words others p k j same here first lane fits = sym (same p j here lane) ∙ fits ∙ same p k here first
fits_same (Linear step) t ts n words others p k j same here first lane fits =
    let numbers : (λ q. number_as (type_at ts q) (words q k)) ≡ (λ q. number_as (type_at ts q) (others q k)) = λ i q. number_same ts n words others k same first q i in
    subst (λ (f : ℕ → ℤ). IsMoved t ((pos j -ℤ pos k) *ℤ step_of t step f) (others p k) (others p j)) numbers
    (subst (λ w. IsMoved t ((pos j -ℤ pos k) *ℤ step_of t step (λ q. number_as (type_at ts q) (words q k))) w (others p j)) (same p k here first)
    (subst (IsMoved t ((pos j -ℤ pos k) *ℤ step_of t step (λ q. number_as (type_at ts q) (words q k))) (words p k)) (same p j here lane) fits))
fits_same (Ref step) t ts n words others p k j same here first lane fits = tt
fits_same (Val step) t ts n words others p k j same here first lane fits = tt
fits_same (Uval step) t ts n words others p k j same here first lane fits = tt

pub fitting_same : (ts : List CType) (kinds : List Kind) (n : ℕ) (words others : Words) (mask : ℕ → Bool) → AreSame ts n words others → AreFitting ts kinds n words mask →
    AreFitting ts kinds n others mask
fitting_same ts kinds n words others mask same fitting k first p j here lane on =
    fits_same (get_or kinds p Vector) (type_at ts p) ts n words others p k j same here first.below lane (fitting k first p j here lane on)

back : (ts : List CType) (n : ℕ) (words others : Words) → AreSame ts n words others → AreSame ts n others words
back ts n words others same p j here lane = sym (same p j here lane)

pub misfit_same : (ts : List CType) (kinds : List Kind) (n : ℕ) (words others : Words) (mask : ℕ → Bool) (p j : ℕ) → AreSame ts n words others →
    IsMisfitAt ts kinds n words mask p j → IsMisfitAt ts kinds n others mask p j
misfit_same ts kinds n words others mask p j same m = record {
  parameter_is = m.parameter_is;
  lane_is = m.lane_is;
  active = m.active;
  first = m.first;
  first_is = m.first_is;
  differs = λ fits. m.differs (fits_same (get_or kinds p Vector) (type_at ts p) ts n others words p m.first j (back ts n words others same) m.parameter_is m.first_is.below m.lane_is fits);
}

pub least_same : (ts : List CType) (kinds : List Kind) (n : ℕ) (words others : Words) (mask : ℕ → Bool) (p j : ℕ) → AreSame ts n words others →
    IsLeastPair (IsMisfitAt ts kinds n words mask) p j → IsLeastPair (IsMisfitAt ts kinds n others mask) p j
least_same ts kinds n words others mask p j same m = record {
  is = misfit_same ts kinds n words others mask p j same m.is;
  least = λ q l other. m.least q l (misfit_same ts kinds n others words mask q l (back ts n words others same) other);
}

-- ---- typed words

datum_at : (q : ℕ) (ts : List CType) (words : Words) (p j : ℕ) → p < length ts → get_or (data_from q ts words j) p nothing ≡ datum_of (type_at ts p) (words (q + p) j)
datum_at q [] words p j here = absurd (omega arith)
datum_at q (t ∷ ts) words zero j here = let same : q ≡ q + 0 = omega arith in ap (λ r. datum_of t (words r j)) same
datum_at q (t ∷ ts) words (suc p) j here =
    let same : (q + 1) + p ≡ q + suc p = omega arith in
    datum_at (q + 1) ts words p j (omega arith) ∙ ap (λ r. datum_of (type_at ts p) (words r j)) same

pub typed_rows : (word : Meaning) (arrays : List Array) (n : ℕ) (ts : List CType) (texts : List (List ℕ)) (rows : List Word) (mask : ℕ → Bool) →
    AreRows word arrays n (length ts) ts texts rows → AreTyped ts arrays n (passed n rows) mask
typed_rows word arrays n ts texts rows mask are = record {
  canonical = λ p j here lane. (are.typed p j here lane).word;
  pointed = λ p j here lane on.
      let same : 0 + p ≡ p = omega arith in
      let datum : argument ts (passed n rows) p j ≡ datum_of (type_at ts p) (passed n rows p j) =
      datum_at 0 ts (passed n rows) p j here ∙ ap (λ r. datum_of (type_at ts p) (passed n rows r j)) same in
      subst (IsPointed arrays (type_at ts p)) (sym datum) (are.typed p j here lane).pointed;
}

-- ---- the answers of a call

passed_same : (word : Meaning) (arrays : List Array) (n : ℕ) (ts : List CType) (texts : List (List ℕ)) (rows : List Word) → AreRows word arrays n (length ts) ts texts rows →
    AreSame ts n (passed n rows) (words_in word ts texts)
passed_same word arrays n ts texts rows are p j here lane = sym (ap (λ (o : Option Word). (unwrap_or o (record { 0 = 0 })).0) (are.words p j here lane))

pub unfit : (word : Meaning) (arrays : List Array) (c : Called) (g : Given) (items seen : List Word) (mask : ℕ → Bool) (p l : ℕ) → is_taken_mask c.lanes c.takes_mask g.bits ≡ true →
    ((q j : ℕ) → IsWrongAt word c.lanes c.types g.texts q j → ⊥) → AreRows word arrays c.lanes (length c.types) c.types g.texts items → seen ≡ items → mask ≡ mask_of c.lanes g.bits →
    IsLeastPair (IsMisfitAt c.types c.kinds c.lanes (passed c.lanes seen) mask) p l → IsRefused word c g A2 p l
unfit word arrays c g items seen mask p l is right are same on least = (
  is,
  right,
  least_same c.types c.kinds c.lanes (passed c.lanes items) (words_in word c.types g.texts) (mask_of c.lanes g.bits) p l (passed_same word arrays c.lanes c.types g.texts items are)
      (subst (λ m. IsLeastPair (IsMisfitAt c.types c.kinds c.lanes (passed c.lanes items) m) p l) on
      (subst (λ ws. IsLeastPair (IsMisfitAt c.types c.kinds c.lanes (passed c.lanes ws) mask) p l) same least)),
)

pub taken : (word : Meaning) (arrays : List Array) (c : Called) (g : Given) (items seen : List Word) (mask : ℕ → Bool) → is_taken_mask c.lanes c.takes_mask g.bits ≡ true →
    ((q j : ℕ) → IsWrongAt word c.lanes c.types g.texts q j → ⊥) → AreRows word arrays c.lanes (length c.types) c.types g.texts items → seen ≡ items → mask ≡ mask_of c.lanes g.bits →
    AreFitting c.types c.kinds c.lanes (passed c.lanes seen) mask → AreTaken word c g
taken word arrays c g items seen mask is right are same on fitting = record {
  mask = is;
  values = right;
  fitting = fitting_same c.types c.kinds c.lanes (passed c.lanes items) (words_in word c.types g.texts) (mask_of c.lanes g.bits) (passed_same word arrays c.lanes c.types g.texts items are)
      (subst (λ m. AreFitting c.types c.kinds c.lanes (passed c.lanes items) m) on (subst (λ ws. AreFitting c.types c.kinds c.lanes (passed c.lanes ws) mask) same fitting));
}

-- what holds of the refusal that is given holds of what it was given as
pub given_refused : {T : Type 0} (P : CallFault → Type 0) (x : NoArguments) (f h : CallFault) → IsErrOf {T = T} {E = NoArguments} (Err x) (Refused h) → x ≡ Refused f → P f → P h
given_refused P x f h e made p = let same : f ≡ h = cc in subst P same p
