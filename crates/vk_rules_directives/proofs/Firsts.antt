-- The first of some faults and of more is the first of the first ones.
use Rattle.std.proofs.Common.{◌≡◌, ℕ, ◌==◌, Bool, true, false, cond, ◌&&◌, ◌||◌, nat_lt, List, [], ◌∷◌, Option, Some, None, is_none, refl, sym, ap, ◌∙◌, arith}
use Rattle.std.proofs.lemmas.Bool.Decides.{nat_tests}
use Rattle.vk_rules_book.specs.declared.faults.Fault.{Fault}
use Rattle.vk_rules_book.specs.Faults.{first_among, first_of, is_before, rank_of}
use Rattle.vk_rules_book.specs.Directives.{is_empty}
use Rattle.vk_rules_book.specs.Visits.{Visit}
use Rattle.vk_rules_book.specs.Rules.{Subject, faults_at}
use Rattle.vk_rules_book.specs.Noting.{found}
use Rattle.vk_rules_book.proofs.Noting.{found_first, found_none}
use Rattle.vk_rules_directives.specs.Inner.Joins.{joined}

abbrev before : ℕ → ℕ → ℕ → ℕ → Bool
before p r q s = nat_lt p q || ((p == q) && nat_lt r s)

not_before : (p r q s u v : ℕ) → before p r q s ≡ false → before q s u v ≡ false → before p r u v ≡ false
not_before p r q s u v a b = grind (arith, nat_tests)

is_so : (p r q s u v : ℕ) → before p r q s ≡ true → before q s u v ≡ true → before p r u v ≡ true
is_so p r q s u v a b = grind (arith, nat_tests)

three : (o x y : Fault) (a b c : Bool) → is_before x o ≡ a → is_before y x ≡ b → is_before y o ≡ c
    → cond (is_before y (cond a x o)) y (cond a x o) ≡ cond (is_before (cond b y x) o) (cond b y x) o
three o x y true true c ea eb ec = ap (λ t. cond t y x) eb ∙ sym (ap (λ t. cond t y o) (is_so y.place (rank_of y.rule) x.place (rank_of x.rule) o.place (rank_of o.rule) eb ea))
three o x y true false c ea eb ec = ap (λ t. cond t y x) eb ∙ sym (ap (λ t. cond t x o) ea)
three o x y false true c ea eb ec = refl
three o x y false false c ea eb ec = ap (λ t. cond t y o) (not_before y.place (rank_of y.rule) x.place (rank_of x.rule) o.place (rank_of o.rule) eb ea) ∙ sym (ap (λ t. cond t x o) ea)

assoc : (old : Option Fault) (x : Fault) (m : Option Fault) → joined (first_of old x) m ≡ joined old (joined (Some x) m)
assoc None x None = refl
assoc None x (Some y) = refl
assoc (Some o) x None = refl
assoc (Some o) x (Some y) = ap (λ (f : Fault). Some f) (three o x y (is_before x o) (is_before y x) (is_before y o) refl refl refl)

pub among_joined : (old : Option Fault) (xs : List Fault) → first_among old xs ≡ joined old (first_among None xs)
unfolding first_among
among_joined old [] = refl
among_joined old (x ∷ xs) = among_joined (first_of old x) xs ∙ assoc old x (first_among None xs) ∙ sym (ap (joined old) (among_joined (Some x) xs))

joined_twice : (old m : Option Fault) (xs : List Fault) → joined old (first_among m xs) ≡ first_among (joined old m) xs
joined_twice old None xs = sym (among_joined old xs)
joined_twice old (Some x) xs = ap (joined old) (among_joined (Some x) xs) ∙ sym (assoc old x (first_among None xs)) ∙ sym (among_joined (first_of old x) xs)

joined_found : (unit : Subject) (old m : Option Fault) (vs : List Visit) → joined old (found unit m vs) ≡ found unit (joined old m) vs
joined_found unit old m [] = ap (joined old) (found_none unit m) ∙ sym (found_none unit _)
joined_found unit old m (v ∷ vs) =
    ap (joined old) (found_first unit m v vs) ∙ joined_found unit old (first_among m (faults_at unit v)) vs ∙ ap (λ o. found unit o vs) (joined_twice old m (faults_at unit v)) ∙ sym (found_first unit _ v vs)

-- what is found at these visits behind old faults is the first of those and of the first at the visits
pub found_joined : (unit : Subject) (old : Option Fault) (vs : List Visit) → joined old (found unit None vs) ≡ found unit old vs
found_joined unit old vs = joined_found unit old None vs

some_left : (x : Fault) (xs : List Fault) → is_none (first_among (Some x) xs) ≡ false
unfolding first_among
some_left x [] = refl
some_left x (y ∷ xs) = some_left (cond (is_before y x) y x) xs

-- none is left exactly of none
pub none_among : (xs : List Fault) → is_none (first_among None xs) ≡ is_empty xs
unfolding first_among
none_among [] = refl
none_among (x ∷ xs) = some_left x xs
