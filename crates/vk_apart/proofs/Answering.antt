-- Lanes are apart exactly where no two meet; answers are one.
use Rattle.std.proofs.Common.{◌≡◌, ◌≢◌, ℕ, ◌+◌, ◌<◌, ◌≤◌, Bool, true, List, [], ◌∷◌, length, Err, IsErrOf, refl, sym, ap, subst, ◌∙◌, arith, inl, inr, ◌⊎◌}
use Rattle.std.proofs.lemmas.Bool.{cases_lt}
use Rattle.vk_kinds.specs.declared.heads.CType.{CType}
use Rattle.vk_ends.specs.declared.ends.CallRule.{CallRule}
use Rattle.vk_ends.specs.declared.ends.CallRule.TheVariants.{A1, A2, A3, A4, A5}
use Rattle.vk_meaning.specs.World.{Array}
use Rattle.vk_meaning.specs.Data.{Datum}
use Rattle.vk_meaning.specs.Lanes.{AreApart, NamesCell, ReadsArray, Words, arguments_of, data_from, datum_of}
use Rattle.vk_ends.specs.declared.ends.CallFault.{CallFault}
use Rattle.vk_arguments.specs.declared.arguments.NoArguments.{NoArguments}
use Rattle.vk_arguments.specs.declared.arguments.NoArguments.TheVariants.{Refused}
use Rattle.vk_arguments.specs.Arguments.{Called, Given, IsLeastPair}
use Rattle.vk_arguments.specs.Texts.{Meaning}
use Rattle.vk_arguments.proofs.Unique.{one_rule, taken_apart}
use Rattle.vk_apart.specs.Apart.{AreMeeting, AreTakenApart, IsCallRefused, Meets}

module _ (ts : List CType) (arrays : List Array) (n : ℕ) (words : Words) (mask : ℕ → Bool) where
  abbrev Pair : ℕ → ℕ → Type 0
  Pair i j = AreMeeting ts arrays n words mask i j

  pair : (i j : ℕ) → i < j → j < n → mask i ≡ true → mask j ≡ true → Meets ts arrays words i j ⊎ Meets ts arrays words j i → AreMeeting ts arrays n words mask i j
  pair i j lt below on too m = record { ordered = lt; inside = below; first_on = on; second_on = too; meets = m }

  other_way : (i j : ℕ) → Meets ts arrays words i j → Meets ts arrays words j i ⊎ Meets ts arrays words i j
  other_way i j m = inr m

  -- any two different lanes of which one meets the other
  no_meets : ((i j : ℕ) → AreMeeting ts arrays n words mask i j → ⊥) → (i j : ℕ) → i < n → j < n → mask i ≡ true → mask j ≡ true → i ≢ j → Meets ts arrays words i j → ⊥
  no_meets none i j first second on too different m = elim (cases_lt i j) [
    | inl lt ↦ none i j (pair i j lt second on too (inl m))
    | inr ge ↦ elim (cases_lt j i) [
      | inl gt ↦ none j i (pair j i gt first too on (inr m))
      | inr le ↦ different (omega arith)
    ]
  ]

  pub apart : ((i j : ℕ) → AreMeeting ts arrays n words mask i j → ⊥) → AreApart ts arrays n words mask
  apart none = record {
    cells = λ i j first second on too different a c one other. no_meets none i j first second on too different (record { array = a; index = c; named = one; met = inl other });
    arrays_read = λ i j first second on too different a c one other. no_meets none i j first second on too different (record { array = a; index = c; named = one; met = inr other });
  }

  by_met : AreApart ts arrays n words mask → (i j : ℕ) → i < n → j < n → mask i ≡ true → mask j ≡ true → i ≢ j → Meets ts arrays words i j → ⊥
  by_met are i j first second on too different m = elim m.met [
    | inl cell ↦ are.cells i j first second on too different m.array m.index m.named cell
    | inr array ↦ are.arrays_read i j first second on too different m.array m.index m.named array
  ]

  pub not_meeting : AreApart ts arrays n words mask → (i j : ℕ) → AreMeeting ts arrays n words mask i j → ⊥
  not_meeting are i j m =
      let lt = m.ordered in
      let below = m.inside in
      elim m.meets [
        | inl one ↦ by_met are i j (omega arith) below m.first_on m.second_on (λ e. omega arith) one
        | inr other ↦ by_met are j i below (omega arith) m.second_on m.first_on (λ e. omega arith) other
      ]

-- ---- one answer

same_pair : (P : ℕ → ℕ → Type 0) (a b x y : ℕ) → IsLeastPair P a b → IsLeastPair P x y → (a ≡ x) × (b ≡ y)
same_pair P a b x y p q = elim (p.least x y q.is) [
  | inl lt ↦ elim (q.least a b p.is) [ inl gt ↦ absurd (omega arith) | inr same ↦ absurd (omega (arith, same.0)) ]
  | inr same ↦ elim (q.least a b p.is) [ inl gt ↦ absurd (omega (arith, same.0)) | inr other ↦ (same.0, omega (arith, same.1, other.1)) ]
]

module _ (word : Meaning) (arrays : List Array) (c : Called) (g : Given) where
  pub one_call_rule : (rule other : CallRule) (a b x y : ℕ) → IsCallRefused word arrays c g rule a b → IsCallRefused word arrays c g other x y → (rule ≡ other) × (a ≡ x) × (b ≡ y)
  one_call_rule A3 A3 a b x y p q = let same = same_pair _ a b x y p.1 q.1 in (refl, same.0, same.1)
  one_call_rule A3 A1 a b x y p q = absurd q
  one_call_rule A3 A2 a b x y p q = absurd (taken_apart word c g A2 x y p.0 q)
  one_call_rule A3 A4 a b x y p q = absurd (taken_apart word c g A4 x y p.0 q)
  one_call_rule A3 A5 a b x y p q = absurd (taken_apart word c g A5 x y p.0 q)
  one_call_rule A1 other a b x y p q = absurd p
  one_call_rule A2 A3 a b x y p q = absurd (taken_apart word c g A2 a b q.0 p)
  one_call_rule A4 A3 a b x y p q = absurd (taken_apart word c g A4 a b q.0 p)
  one_call_rule A5 A3 a b x y p q = absurd (taken_apart word c g A5 a b q.0 p)
  one_call_rule A2 A1 a b x y p q = absurd q
  one_call_rule A4 A1 a b x y p q = absurd q
  one_call_rule A5 A1 a b x y p q = absurd q
  one_call_rule A2 A2 a b x y p q = one_rule word c g A2 A2 a b x y p q
  one_call_rule A2 A4 a b x y p q = one_rule word c g A2 A4 a b x y p q
  one_call_rule A2 A5 a b x y p q = one_rule word c g A2 A5 a b x y p q
  one_call_rule A4 A2 a b x y p q = one_rule word c g A4 A2 a b x y p q
  one_call_rule A4 A4 a b x y p q = one_rule word c g A4 A4 a b x y p q
  one_call_rule A4 A5 a b x y p q = one_rule word c g A4 A5 a b x y p q
  one_call_rule A5 A2 a b x y p q = one_rule word c g A5 A2 a b x y p q
  one_call_rule A5 A4 a b x y p q = one_rule word c g A5 A4 a b x y p q
  one_call_rule A5 A5 a b x y p q = one_rule word c g A5 A5 a b x y p q

  pub taken_or_refused : (rule : CallRule) (a b : ℕ) → AreTakenApart word arrays c g → IsCallRefused word arrays c g rule a b → ⊥
  taken_or_refused A3 a b t q = not_meeting c.types arrays c.lanes _ _ t.apart a b q.1.is
  taken_or_refused A1 a b t q = q
  taken_or_refused A2 a b t q = taken_apart word c g A2 a b t.taken q
  taken_or_refused A4 a b t q = taken_apart word c g A4 a b t.taken q
  taken_or_refused A5 a b t q = taken_apart word c g A5 a b t.taken q

-- ---- words that are equal

pub data_same : (ts : List CType) (v w : Words) (p lane : ℕ) → ((q : ℕ) → p ≤ q → q < p + length ts → v q lane ≡ w q lane) → data_from p ts v lane ≡ data_from p ts w lane
data_same [] v w p lane h = refl
data_same (t ∷ ts) v w p lane h =
    ap (λ (n : ℕ). datum_of t n ∷ data_from (p + 1) ts v lane) (h p (omega arith) (omega arith))
    ∙ ap (λ (ds : List Datum). datum_of t (w p lane) ∷ ds) (data_same ts v w (p + 1) lane (λ q from to. h q (omega arith) (omega arith)))

module _ (ts : List CType) (arrays : List Array) (n : ℕ) (v w : Words) (mask : ℕ → Bool) (same : (p lane : ℕ) → p < length ts → lane < n → v p lane ≡ w p lane) where
  arguments_same : (lane : ℕ) → lane < n → arguments_of ts v lane ≡ arguments_of ts w lane
  arguments_same lane below = data_same ts v w 0 lane (λ q from to. same q lane (omega arith) below)

  meets_same : (i j : ℕ) → i < n → j < n → Meets ts arrays v i j → Meets ts arrays w i j
  meets_same i j first second m = record {
    array = m.array;
    index = m.index;
    named = subst (λ ds. NamesCell ts arrays ds m.array m.index) (arguments_same i first) m.named;
    met = elim m.met [
      | inl cell ↦ inl (subst (λ ds. NamesCell ts arrays ds m.array m.index) (arguments_same j second) cell)
      | inr array ↦ inr (subst (λ ds. ReadsArray ts ds m.array) (arguments_same j second) array)
    ];
  }

  pub meeting_same : (i j : ℕ) → AreMeeting ts arrays n v mask i j → AreMeeting ts arrays n w mask i j
  meeting_same i j m =
      let lt = m.ordered in
      let below = m.inside in record {
        ordered = m.ordered;
        inside = m.inside;
        first_on = m.first_on;
        second_on = m.second_on;
        meets = elim m.meets [
          | inl one ↦ inl (meets_same i j (omega arith) below one)
          | inr other ↦ inr (meets_same j i below (omega arith) other)
        ];
      }

-- the same pairs meet
module _ (ts : List CType) (arrays : List Array) (n : ℕ) (v w : Words) (mask on : ℕ → Bool) (same : (p lane : ℕ) → p < length ts → lane < n → v p lane ≡ w p lane) (masks : mask ≡ on) where
  to_w : (i j : ℕ) → AreMeeting ts arrays n v mask i j → AreMeeting ts arrays n w on i j
  to_w i j m = subst (λ (f : ℕ → Bool). AreMeeting ts arrays n w f i j) masks (meeting_same ts arrays n v w mask same i j m)

  to_v : (i j : ℕ) → AreMeeting ts arrays n w on i j → AreMeeting ts arrays n v mask i j
  to_v i j m = meeting_same ts arrays n w v mask (λ q k here below. sym (same q k here below)) i j (subst (λ (f : ℕ → Bool). AreMeeting ts arrays n w f i j) (sym masks) m)

  pub least_same : (i j : ℕ) → IsLeastPair (AreMeeting ts arrays n v mask) i j → IsLeastPair (AreMeeting ts arrays n w on) i j
  least_same i j h = record {
    is = to_w i j h.is;
    least = λ p l m. h.least p l (to_v p l m);
  }

  pub apart_same : ((i j : ℕ) → AreMeeting ts arrays n v mask i j → ⊥) → AreApart ts arrays n w on
  apart_same none = apart ts arrays n w on (λ i j m. none i j (to_v i j m))

-- what holds of the refusal that is given holds of what it was given as
pub given_refused : {T : Type 0} (P : CallFault → Type 0) (f h : CallFault) → IsErrOf {T = T} {E = NoArguments} (Err (Refused f)) (Refused h) → P f → P h
given_refused P f h e p = let same : f ≡ h = cc in subst P same p
