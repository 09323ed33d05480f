-- The fault that is noted is the first.
use Rattle.std.proofs.Common.{◌≡◌, ℕ, zero, suc, ◌==◌, Bool, true, false, cond, ◌&&◌, ◌||◌, nat_lt, List, [], ◌∷◌, Contains, Some, None, refl, sym, subst, ap, ◌∙◌, inl, inr, ◌⊎◌, arith}
use Rattle.std.proofs.lemmas.Bool.{cases_Bool}
use Rattle.std.proofs.lemmas.Bool.Decides.{nat_tests}
use Rattle.vk_rules_book.specs.declared.faults.Fault.{Fault}
use Rattle.vk_rules_book.specs.Faults.{first_among, is_before, rank_of}
use Rattle.vk_rules_book.specs.Rules.{Subject, IsFirst, faults_of}

abbrev before : ℕ → ℕ → ℕ → ℕ → Bool
before p r q s = nat_lt p q || ((p == q) && nat_lt r s)

not_before : (p r q s u v : ℕ) → before p r q s ≡ false → before q s u v ≡ false → before p r u v ≡ false
not_before p r q s u v a b = grind (arith, nat_tests)

asymmetric : (p r q s : ℕ) → before p r q s ≡ true → before q s p r ≡ false
asymmetric p r q s a = grind (arith, nat_tests)

never : (p r : ℕ) → before p r p r ≡ false
never p r = grind (arith, nat_tests)

abbrev pub IsIn : Fault → List Fault → Type 0
IsIn f [] = ⊥
IsIn f (x ∷ xs) = (f ≡ x) ⊎ IsIn f xs

pub in_list : (xs : List Fault) (f : Fault) → IsIn f xs → Contains xs f
in_list [] f h = absurd h
in_list (x ∷ xs) f (inl e) = (0, omega arith, sym e)
in_list (x ∷ xs) f (inr i) = let r = in_list xs f i in (suc r.0, omega (arith, r.1), r.2)

pub of_list : (xs : List Fault) (f : Fault) → Contains xs f → IsIn f xs
of_list [] f (k, below, at) = absurd (omega (arith, below))
of_list (x ∷ xs) f (zero, below, at) = inl (sym at)
of_list (x ∷ xs) f (suc k, below, at) = inr (of_list xs f (k, omega (arith, below), at))

-- f is the one found before or one of these, and none of them is before it
record IsLeast (old : Fault) (xs : List Fault) (f : Fault) : Type 0 where
  is_in : (f ≡ old) ⊎ IsIn f xs
  old_not : is_before old f ≡ false
  none : (g : Fault) → IsIn g xs → is_before g f ≡ false

none_first : (old : Fault) → first_among (Some old) [] ≡ Some old
unfolding first_among
none_first old = refl

one_first : (old x : Fault) (xs : List Fault) (b : Bool) → is_before x old ≡ b → first_among (Some old) (x ∷ xs) ≡ first_among (Some (cond b x old)) xs
unfolding first_among
one_first old x xs b e = ap (λ c. first_among (Some (cond c x old)) xs) e

first_is : (old : Fault) (xs : List Fault) → (f : Fault) × (first_among (Some old) xs ≡ Some f) × IsLeast old xs f
first_is old [] = (old, none_first old, record { is_in = inl refl; old_not = never old.place (rank_of old.rule); none = λ g h. absurd h })
first_is old (x ∷ xs) = elim (cases_Bool (is_before x old)) [
  | inl t ↦
      let r = first_is x xs in (
        r.0,
        one_first old x xs true t ∙ r.1,
        record {
          is_in = inr (r.2.is_in);
          old_not = not_before old.place (rank_of old.rule) x.place (rank_of x.rule) r.0.place (rank_of r.0.rule) (asymmetric x.place (rank_of x.rule) old.place (rank_of old.rule) t) r.2.old_not;
          none = λ g h. elim h [
            | inl e ↦ ap (λ (y : Fault). is_before y r.0) e ∙ r.2.old_not
            | inr i ↦ r.2.none g i
          ];
        },
      )
  | inr t ↦
      let r = first_is old xs in (
        r.0,
        one_first old x xs false t ∙ r.1,
        record {
          is_in = elim r.2.is_in [ inl e ↦ inl e | inr i ↦ inr (inr i) ];
          old_not = r.2.old_not;
          none = λ g h. elim h [
            | inl e ↦ ap (λ (y : Fault). is_before y r.0) e ∙ not_before x.place (rank_of x.rule) old.place (rank_of old.rule) r.0.place (rank_of r.0.rule) t r.2.old_not
            | inr i ↦ r.2.none g i
          ];
        },
      )
]

first_in : (x : Fault) (xs : List Fault) → first_among None (x ∷ xs) ≡ first_among (Some x) xs
unfolding first_among
first_in x xs = refl

nothing_in : first_among None [] ≡ None
unfolding first_among
nothing_in = refl

pub first_list : (xs : List Fault) (f : Fault) → first_among None xs ≡ Some f → Contains xs f × ((g : Fault) → Contains xs g → is_before g f ≡ false)
first_list [] f e = let p = nothing_in in absurd cc
first_list (x ∷ xs) f e =
    let r = first_is x xs in
    let found : Some r.0 ≡ Some f = sym r.1 ∙ sym (first_in x xs) ∙ e in
    let same : r.0 ≡ f = cc in
    let least : IsLeast x xs f = subst (IsLeast x xs) same r.2 in (
      in_list (x ∷ xs) f least.is_in,
      λ g h. elim (of_list (x ∷ xs) g h) [
        | inl is ↦ ap (λ (y : Fault). is_before y f) is ∙ least.old_not
        | inr i ↦ least.none g i
      ],
    )

pub none_list : (xs : List Fault) → first_among None xs ≡ None → xs ≡ []
none_list [] e = refl
none_list (x ∷ xs) e =
    let r = first_is x xs in
    let found : Some r.0 ≡ None = sym r.1 ∙ sym (first_in x xs) ∙ e in
    absurd cc

pub first_fault : (unit : Subject) (f : Fault) → first_among None (faults_of unit) ≡ Some f → IsFirst unit f
first_fault unit f e = let r = first_list (faults_of unit) f e in record { broken = r.0; first = r.1 }
