-- Arguments have one answer.
use Rattle.std.proofs.Common.{◌≡◌, ℕ, arith, inl, inr, refl, sym, ◌∙◌}
use Rattle.vk_ends.specs.declared.ends.CallRule.{CallRule}
use Rattle.vk_ends.specs.declared.ends.CallRule.TheVariants.{A1, A2, A3, A4, A5}
use Rattle.vk_arguments.specs.Arguments.{AreTaken, Called, Given, IsLeastPair, IsRefused}
use Rattle.vk_arguments.specs.Texts.{Meaning}

same_pair : (P : ℕ → ℕ → Type 0) (a b x y : ℕ) → IsLeastPair P a b → IsLeastPair P x y → (a ≡ x) × (b ≡ y)
same_pair P a b x y p q = elim (p.least x y q.is) [
  | inl lt ↦ elim (q.least a b p.is) [ inl gt ↦ absurd (omega arith) | inr same ↦ absurd (omega (arith, same.0)) ]
  | inr same ↦ elim (q.least a b p.is) [ inl gt ↦ absurd (omega (arith, same.0)) | inr other ↦ (same.0, omega (arith, same.1, other.1)) ]
]

pub one_rule : (word : Meaning) (c : Called) (g : Given) (rule other : CallRule) (a b x y : ℕ) → IsRefused word c g rule a b → IsRefused word c g other x y →
    (rule ≡ other) × (a ≡ x) × (b ≡ y)
one_rule word c g A1 other a b x y p q = absurd p
one_rule word c g A3 other a b x y p q = absurd p
one_rule word c g A2 A1 a b x y p q = absurd q
one_rule word c g A2 A3 a b x y p q = absurd q
one_rule word c g A4 A1 a b x y p q = absurd q
one_rule word c g A4 A3 a b x y p q = absurd q
one_rule word c g A5 A1 a b x y p q = absurd q
one_rule word c g A5 A3 a b x y p q = absurd q
one_rule word c g A5 A5 a b x y p q = (refl, p.1 ∙ sym q.1, p.2 ∙ sym q.2)
one_rule word c g A5 A4 a b x y p q = let no = p.0 in let yes = q.0 in absurd (cc)
one_rule word c g A5 A2 a b x y p q = let no = p.0 in let yes = q.0 in absurd (cc)
one_rule word c g A4 A5 a b x y p q = let yes = p.0 in let no = q.0 in absurd (cc)
one_rule word c g A2 A5 a b x y p q = let yes = p.0 in let no = q.0 in absurd (cc)
one_rule word c g A4 A4 a b x y p q = let same = same_pair _ a b x y p.1 q.1 in (refl, same.0, same.1)
one_rule word c g A4 A2 a b x y p q = absurd (q.1 a b p.1.is)
one_rule word c g A2 A4 a b x y p q = absurd (p.1 x y q.1.is)
one_rule word c g A2 A2 a b x y p q = let same = same_pair _ a b x y p.2 q.2 in (refl, same.0, same.1)

pub taken_apart : (word : Meaning) (c : Called) (g : Given) (rule : CallRule) (a b : ℕ) → AreTaken word c g → IsRefused word c g rule a b → ⊥
taken_apart word c g A1 a b t q = q
taken_apart word c g A3 a b t q = q
taken_apart word c g A5 a b t q = let yes = t.mask in let no = q.0 in cc
taken_apart word c g A4 a b t q = t.values a b q.1.is
taken_apart word c g A2 a b t q = let m = q.2.is in m.differs (t.fitting m.first m.first_is a b m.parameter_is m.lane_is m.active)
