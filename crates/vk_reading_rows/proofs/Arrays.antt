-- Arrays in ascending order of names, whatever they are made of.
use Rattle.std.proofs.Common.{◌≡◌, ℕ, Bool, true, false, cond, not, List, [], ◌∷◌, map, refl, sym, ap, ◌∙◌, Ordering, Less, Equal, Greater, is_lt, is_le, nat_cmp}
use Rattle.std.specs.List.Sorted.{IsSortedBy, IsStableBy}
use Rattle.std.specs.Cmp.Lexicographic.{slice_cmp}
use Rattle.std.specs.Ordering.{ordering_reverse}
use Rattle.std.proofs.lemmas.Cmp.{nat_list_cmp_total}
use Rattle.std.proofs.lemmas.List.MinMax.{ranks_by}
use Rattle.vk_meaning.specs.World.{Array}
use Rattle.vk_meaning.specs.Programs.{put_in, in_order}
use Rattle.vk_reading_rows.proofs.Order.{sorted_is}

reversed : (o : Ordering) → is_le (ordering_reverse o) ≡ not (is_lt o)
reversed Less = refl
reversed Equal = refl
reversed Greater = refl

not_below : (x y : List ℕ) → is_le (slice_cmp nat_cmp x y) ≡ not (is_lt (slice_cmp nat_cmp y x))
not_below x y = ap is_le (nat_list_cmp_total.antisymm x y) ∙ reversed (slice_cmp nat_cmp y x)

module _ {P : Type 0} (seen : P → Array) where
  abbrev is_below : P → P → Bool
  is_below p q = is_lt (slice_cmp nat_cmp (seen p).text (seen q).text)

  abbrev put_item : P → List P → List P
  put_item p [] = p ∷ []
  put_item p (q ∷ qs) = cond (is_below q p) (q ∷ put_item p qs) (p ∷ q ∷ qs)

  abbrev items_in_order : List P → List P
  items_in_order [] = []
  items_in_order (p ∷ ps) = put_item p (items_in_order ps)

  put_by : (t : Bool) (p q : P) (qs rest : List P) (xs : List Array) → map seen rest ≡ xs →
      map seen (cond t (q ∷ rest) (p ∷ q ∷ qs)) ≡ cond (not t) (seen p ∷ seen q ∷ map seen qs) (seen q ∷ xs)
  put_by true p q qs rest xs e = ap (λ (l : List Array). seen q ∷ l) e
  put_by false p q qs rest xs e = refl

  put_seen : (p : P) (qs : List P) → map seen (put_item p qs) ≡ put_in (seen p) (map seen qs)
  put_seen p [] = refl
  put_seen p (q ∷ qs) = put_by (is_below q p) p q qs (put_item p qs) (put_in (seen p) (map seen qs)) (put_seen p qs)
      ∙ ap (λ (b : Bool). cond b (seen p ∷ seen q ∷ map seen qs) (seen q ∷ put_in (seen p) (map seen qs))) (sym (not_below (seen p).text (seen q).text))

  order_seen : (ps : List P) → map seen (items_in_order ps) ≡ in_order (map seen ps)
  order_seen [] = refl
  order_seen (p ∷ ps) = put_seen p (items_in_order ps) ∙ ap (put_in (seen p)) (order_seen ps)

  -- what was sorted stably by names is in their order
  pub arrays_sorted : (ps qs : List P) → IsSortedBy is_below qs → IsStableBy is_below ps qs → map seen qs ≡ in_order (map seen ps)
  arrays_sorted ps qs up same =
      ap (map seen) (sorted_is is_below (ranks_by nat_list_cmp_total (λ p. (seen p).text)) put_item (λ a. refl) (λ a b bs. refl) items_in_order refl (λ a bs. refl) ps qs up same) ∙ order_seen ps
