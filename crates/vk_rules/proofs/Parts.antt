-- The three parts of a unit's visits have the faults of the unit.
use Rattle.std.proofs.Common.{◌≡◌, ◌++◌, ℕ, List, [], ◌∷◌, Option, Some, None, refl, sym, subst, ap, ap₂, ◌∙◌, inl, inr, ◌⊎◌}
use Rattle.std.specs.List.{flat_map}
use Rattle.std.proofs.lemmas.List.{append_assoc}
use Rattle.std.proofs.lemmas.List.Concat.{flat_map-append}
use Rattle.vk_ast.specs.Units.{ItemTree}
use Rattle.vk_rules_book.specs.declared.faults.Fault.{Fault}
use Rattle.vk_rules_book.specs.Faults.{first_among}
use Rattle.vk_rules_book.specs.Noting.{found}
use Rattle.vk_rules_book.specs.Visits.{Visit, along, item_part, directives_part, function_part, item_visits}
use Rattle.vk_rules_book.specs.Rules.{Subject, faults_at, faults_of}
use Rattle.vk_rules_book.proofs.Noting.{found_append, found_first, found_none, among_append, among_none}
use Rattle.vk_rules.specs.Verdicts.{IsVerdict}
use Rattle.vk_rules.proofs.Firsts.{IsIn, first_list, in_list, none_list, of_list}

-- ---- what is in one of two lists

in_left : (g : Fault) (xs ys : List Fault) → IsIn g xs → IsIn g (xs ++ ys)
in_left g [] ys h = absurd h
in_left g (x ∷ xs) ys (inl e) = inl e
in_left g (x ∷ xs) ys (inr i) = inr (in_left g xs ys i)

in_right : (g : Fault) (xs ys : List Fault) → IsIn g ys → IsIn g (xs ++ ys)
in_right g [] ys h = h
in_right g (x ∷ xs) ys h = inr (in_right g xs ys h)

in_either : (g : Fault) (xs ys : List Fault) → IsIn g (xs ++ ys) → IsIn g xs ⊎ IsIn g ys
in_either g [] ys h = inr h
in_either g (x ∷ xs) ys (inl e) = inl (inl e)
in_either g (x ∷ xs) ys (inr i) = elim (in_either g xs ys i) [ inl a ↦ inl (inr a) | inr b ↦ inr b ]

-- lists that have the same
record Same (xs ys : List Fault) : Type 0 where
  there : (g : Fault) → IsIn g xs → IsIn g ys
  back : (g : Fault) → IsIn g ys → IsIn g xs

-- the three lists ((a, b, c) and (x, y, z)), piece by piece
shuffle : (a b c x y z : List Fault) → Same ((a ++ (b ++ c)) ++ (x ++ (y ++ z))) ((a ++ x) ++ ((b ++ y) ++ (c ++ z)))
shuffle a b c x y z = record {
  there = λ g h. elim (in_either g (a ++ (b ++ c)) (x ++ (y ++ z)) h) [
    | inl abc ↦ elim (in_either g a (b ++ c) abc) [
      | inl i ↦ in_left g (a ++ x) _ (in_left g a x i)
      | inr bc ↦ elim (in_either g b c bc) [
        | inl i ↦ in_right g (a ++ x) _ (in_left g (b ++ y) _ (in_left g b y i))
        | inr i ↦ in_right g (a ++ x) _ (in_right g (b ++ y) _ (in_left g c z i))
      ]
    ]
    | inr xyz ↦ elim (in_either g x (y ++ z) xyz) [
      | inl i ↦ in_left g (a ++ x) _ (in_right g a x i)
      | inr yz ↦ elim (in_either g y z yz) [
        | inl i ↦ in_right g (a ++ x) _ (in_left g (b ++ y) _ (in_right g b y i))
        | inr i ↦ in_right g (a ++ x) _ (in_right g (b ++ y) _ (in_right g c z i))
      ]
    ]
  ];
  back = λ g h. elim (in_either g (a ++ x) ((b ++ y) ++ (c ++ z)) h) [
    | inl ax ↦ elim (in_either g a x ax) [
      | inl i ↦ in_left g (a ++ (b ++ c)) _ (in_left g a _ i)
      | inr i ↦ in_right g (a ++ (b ++ c)) _ (in_left g x _ i)
    ]
    | inr rest ↦ elim (in_either g (b ++ y) (c ++ z) rest) [
      | inl by ↦ elim (in_either g b y by) [
        | inl i ↦ in_left g (a ++ (b ++ c)) _ (in_right g a _ (in_left g b c i))
        | inr i ↦ in_right g (a ++ (b ++ c)) _ (in_right g x _ (in_left g y z i))
      ]
      | inr cz ↦ elim (in_either g c z cz) [
        | inl i ↦ in_left g (a ++ (b ++ c)) _ (in_right g a _ (in_right g b c i))
        | inr i ↦ in_right g (a ++ (b ++ c)) _ (in_right g x _ (in_right g y z i))
      ]
    ]
  ];
}

then_same : (xs ys zs : List Fault) → Same xs ys → Same ys zs → Same xs zs
then_same xs ys zs p q = record { there = λ g h. q.there g (p.there g h); back = λ g h. p.back g (q.back g h) }

append_same : (a xs ys : List Fault) → Same xs ys → Same (a ++ xs) (a ++ ys)
append_same a xs ys p = record {
  there = λ g h. elim (in_either g a xs h) [ inl i ↦ in_left g a ys i | inr i ↦ in_right g a ys (p.there g i) ];
  back = λ g h. elim (in_either g a ys h) [ inl i ↦ in_left g a xs i | inr i ↦ in_right g a xs (p.back g i) ];
}

same_by : (xs ys us vs : List Fault) → xs ≡ us → ys ≡ vs → Same us vs → Same xs ys
same_by xs ys us vs p q h = subst (λ zs. Same zs ys) (sym p) (subst (λ zs. Same us zs) (sym q) h)

-- ---- faults of visits

module _ (unit : Subject) where
  abbrev pub faults : List Visit → List Fault
  faults vs = flat_map (faults_at unit) vs

  pub faults_append : (vs ws : List Visit) → faults (vs ++ ws) ≡ faults vs ++ faults ws
  faults_append vs ws = flat_map-append (faults_at unit) vs ws

  -- what is found at visits is the first among their faults
  pub found_among : (old : Option Fault) (vs : List Visit) → found unit old vs ≡ first_among old (faults vs)
  found_among old [] = found_none unit old ∙ sym (among_none old)
  found_among old (v ∷ vs) =
      found_first unit old v vs ∙ found_among (first_among old (faults_at unit v)) vs ∙ sym (among_append old (faults_at unit v) (faults vs))

  abbrev part_faults : (List ItemTree → ItemTree → List Visit) → (before rest : List ItemTree) → List Fault
  part_faults part before rest = faults (along part before rest)

  part_faults-cons : (part : List ItemTree → ItemTree → List Visit) (before : List ItemTree) (i : ItemTree) (is : List ItemTree)
      → part_faults part before (i ∷ is) ≡ faults (part before i) ++ part_faults part (before ++ i ∷ []) is
  part_faults-cons part before i is = faults_append (part before i) (along part (before ++ i ∷ []) is)

  -- the parts, one after another over all items
  abbrev three : (texts : List (List ℕ)) → (before rest : List ItemTree) → List Fault
  three texts before rest =
      part_faults (item_part texts) before rest ++ (part_faults directives_part before rest ++ part_faults (function_part texts) before rest)

  one_item : (texts : List (List ℕ)) (before : List ItemTree) (i : ItemTree)
      → faults (item_visits texts before i) ≡ faults (item_part texts before i) ++ (faults (directives_part before i) ++ faults (function_part texts before i))
  one_item texts before i =
      faults_append (item_part texts before i) (directives_part before i ++ function_part texts before i)
      ∙ ap (λ fs. faults (item_part texts before i) ++ fs) (faults_append (directives_part before i) (function_part texts before i))

  same_faults : (texts : List (List ℕ)) (before rest : List ItemTree) → Same (part_faults (item_visits texts) before rest) (three texts before rest)
  same_faults texts before [] = record { there = λ g h. h; back = λ g h. h }
  same_faults texts before (i ∷ is) =
      let a = faults (item_part texts before i) in
      let b = faults (directives_part before i) in
      let c = faults (function_part texts before i) in
      let x = part_faults (item_part texts) (before ++ i ∷ []) is in
      let y = part_faults directives_part (before ++ i ∷ []) is in
      let z = part_faults (function_part texts) (before ++ i ∷ []) is in
      let whole = part_faults (item_visits texts) (before ++ i ∷ []) is in
      same_by (part_faults (item_visits texts) before (i ∷ is)) (three texts before (i ∷ is)) ((a ++ (b ++ c)) ++ whole) ((a ++ x) ++ ((b ++ y) ++ (c ++ z)))
      (part_faults-cons (item_visits texts) before i is ∙ ap (λ fs. fs ++ whole) (one_item texts before i))
      (ap₂ (λ (p q : List Fault). p ++ q) (part_faults-cons (item_part texts) before i is)
      (ap₂ (λ (p q : List Fault). p ++ q) (part_faults-cons directives_part before i is) (part_faults-cons (function_part texts) before i is)))
      (then_same ((a ++ (b ++ c)) ++ whole) ((a ++ (b ++ c)) ++ (x ++ (y ++ z))) ((a ++ x) ++ ((b ++ y) ++ (c ++ z)))
      (append_same (a ++ (b ++ c)) whole (x ++ (y ++ z)) (same_faults texts (before ++ i ∷ []) is))
      (shuffle a b c x y z))

-- ---- the verdict

pub all_faults : (unit : Subject) → faults_of unit ≡ faults unit (along (item_visits unit.texts) [] unit.items)
unfolding faults_of
all_faults unit = refl

none_same : (xs ys : List Fault) → Same xs ys → ys ≡ [] → xs ≡ []
none_same [] ys h e = refl
none_same (x ∷ xs) ys h e = absurd (subst (λ zs. IsIn x zs) e (h.there x (inl refl)))

module _ (unit : Subject) where
  same_unit : Same (faults_of unit) (three unit unit.texts [] unit.items)
  same_unit = subst (λ xs. Same xs (three unit unit.texts [] unit.items)) (sym (all_faults unit)) (same_faults unit unit.texts [] unit.items)

  verdict_of : (f : Option Fault) → first_among None (three unit unit.texts [] unit.items) ≡ f → IsVerdict unit f
  verdict_of None e = none_same (faults_of unit) (three unit unit.texts [] unit.items) same_unit (none_list (three unit unit.texts [] unit.items) e)
  verdict_of (Some f) e =
      let r = first_list (three unit unit.texts [] unit.items) f e in record {
        broken = in_list (faults_of unit) f (same_unit.back f (of_list (three unit unit.texts [] unit.items) f r.0));
        first = λ g h. r.1 g (in_list (three unit unit.texts [] unit.items) g (same_unit.there g (of_list (faults_of unit) g h)));
      }

  -- what three passes leave, one part each
  pub verdict : (a b c : Option Fault) → a ≡ found unit None (along (item_part unit.texts) [] unit.items) → b ≡ found unit a (along directives_part [] unit.items)
      → c ≡ found unit b (along (function_part unit.texts) [] unit.items) → IsVerdict unit c
  verdict a b c first second third =
      let i = along (item_part unit.texts) [] unit.items in
      let d = along directives_part [] unit.items in
      let f = along (function_part unit.texts) [] unit.items in
      verdict_of c (sym (
      third
      ∙ ap (λ o. found unit o f) (second ∙ ap (λ o. found unit o d) first)
      ∙ sym (ap (λ o. found unit o f) (found_append unit None i d)) ∙ sym (found_append unit None (i ++ d) f)
      ∙ found_among unit None ((i ++ d) ++ f)
      ∙ ap (first_among None) (faults_append unit (i ++ d) f ∙ ap (λ xs. xs ++ faults unit f) (faults_append unit i d) ∙ append_assoc (faults unit i) (faults unit d) (faults unit f))))
