-- The first places of functions, one item or unit after another.
use Rattle.std.proofs.Common.{◌≡◌, ℕ, suc, ◌+◌, Bool, true, false, cond, ◌<◌, List, [], ◌∷◌, ◌++◌, length, take, get_or, map, Option, Some, None, position, refl, sym, ap, ◌∙◌, arith}
use Rattle.std.proofs.lemmas.List.{take_more, map-append, length-map, length-take-le}
use Rattle.std.specs.Option.{option_or, option_map}
use Rattle.vk_ast.specs.Units.{ItemTree}
use Rattle.vk_rules_book.specs.Rules.{Subject}
use Rattle.vk_reading_rows.specs.declared.functions.FunctionPlace.{FunctionPlace}
use Rattle.vk_reading_rows.specs.Functions.{place_among, first_place}
use Rattle.vk_reading_rows.proofs.Positions.{position_more}

pub or_none : {T : Type 0} (o : Option T) → option_or o None ≡ o
or_none None = refl
or_none (Some x) = refl

or_assoc : {T : Type 0} (a b c : Option T) → option_or (option_or a b) c ≡ option_or a (option_or b c)
or_assoc None b c = refl
or_assoc (Some x) b c = refl

map_or : {S T : Type 0} (f : S → T) (a b : Option S) → option_map f (option_or a b) ≡ option_or (option_map f a) (option_map f b)
map_or f None b = refl
map_or f (Some x) b = refl

map_found : {S T : Type 0} (f : S → T) (b : Bool) (x : S) → option_map f (cond b (Some x) None) ≡ cond b (Some (f x)) None
map_found f true x = refl
map_found f false x = refl

module _ {X Y : Type 0} (v : X → Y) (xs : List X) (i : ℕ) (x : X) (below : i < length xs) (is : x ≡ get_or xs i x) where
  seen_more : map v (take (i + 1) xs) ≡ map v (take i xs) ++ v x ∷ []
  seen_more = ap (map v) (take_more xs i x below ∙ ap (λ y. take i xs ++ y ∷ []) (sym is)) ∙ map-append v (take i xs) (x ∷ [])

  seen_count : length (map v (take i xs)) ≡ i
  seen_count = length-map (take i xs) v ∙ length-take-le i xs (omega (arith, below))

-- one item more
pub one_item_placed : {X : Type 0} (v : X → ItemTree) (p : ItemTree → Bool) (f : ℕ → FunctionPlace) (xs : List X) (i : ℕ) (x : X) → i < length xs → x ≡ get_or xs i x →
    (start old new : Option (Option FunctionPlace)) → old ≡ option_or start (option_map Some (option_map f (position p (map v (take i xs))))) →
    new ≡ option_or old (cond (p (v x)) (Some (Some (f i))) None) → new ≡ option_or start (option_map Some (option_map f (position p (map v (take (i + 1) xs)))))
one_item_placed v p f xs i x below is start old new e n =
    let so_far = position p (map v (take i xs)) in
    let here = cond (p (v x)) (Some i) None in
    let whole : position p (map v (take (i + 1) xs)) ≡ option_or so_far here =
    ap (position p) (seen_more v xs i x below is) ∙ position_more p (map v (take i xs)) (v x) ∙ ap (λ (k : ℕ). option_or so_far (cond (p (v x)) (Some k) None)) (seen_count v xs i x below is) in
    n ∙ ap (λ (o : Option (Option FunctionPlace)). option_or o (cond (p (v x)) (Some (Some (f i))) None)) e
    ∙ or_assoc start (option_map Some (option_map f so_far)) (cond (p (v x)) (Some (Some (f i))) None)
    ∙ ap (option_or start) (sym (ap (λ (o : Option ℕ). option_map Some (option_map f o)) whole ∙ ap (option_map Some) (map_or f so_far here) ∙ map_or Some (option_map f so_far) (option_map f here)
    ∙ ap (λ (o : Option FunctionPlace). option_or (option_map Some (option_map f so_far)) (option_map Some o)) (map_found f (p (v x)) i)
    ∙ ap (option_or (option_map Some (option_map f so_far))) (map_found Some (p (v x)) (f i))))

first_more : (k : ℕ) (us : List Subject) (u : Subject) (t : List ℕ) → first_place k (us ++ u ∷ []) t ≡ option_or (first_place k us t) (place_among (k + length us) u.texts u.items t)
first_more k [] u t =
    let same : k ≡ k + 0 = omega arith in
    or_none (place_among k u.texts u.items t) ∙ ap (λ (n : ℕ). place_among n u.texts u.items t) same
first_more k (x ∷ us) u t =
    let here = place_among k x.texts x.items t in
    let same : suc k + length us ≡ k + suc (length us) = omega arith in
    ap (option_or here) (first_more (suc k) us u t ∙ ap (λ (n : ℕ). option_or (first_place (suc k) us t) (place_among n u.texts u.items t)) same)
    ∙ sym (or_assoc here (first_place (suc k) us t) (place_among (k + suc (length us)) u.texts u.items t))

-- one unit more
pub one_unit_placed : {X : Type 0} (v : X → Subject) (t : List ℕ) (xs : List X) (i : ℕ) (x : X) → i < length xs → x ≡ get_or xs i x →
    (old new : Option (Option FunctionPlace)) → old ≡ option_map Some (first_place 0 (map v (take i xs)) t) →
    new ≡ option_or old (option_map Some (place_among i (v x).texts (v x).items t)) → new ≡ option_map Some (first_place 0 (map v (take (i + 1) xs)) t)
one_unit_placed v t xs i x below is old new e n =
    let so_far = first_place 0 (map v (take i xs)) t in
    let count = seen_count v xs i x below is in
    let number : 0 + length (map v (take i xs)) ≡ i = omega (arith, count) in
    n ∙ ap (λ (o : Option (Option FunctionPlace)). option_or o (option_map Some (place_among i (v x).texts (v x).items t))) e
    ∙ sym (ap (λ (us : List Subject). option_map Some (first_place 0 us t)) (seen_more v xs i x below is)
    ∙ ap (option_map Some) (first_more 0 (map v (take i xs)) (v x) t ∙ ap (λ (k : ℕ). option_or so_far (place_among k (v x).texts (v x).items t)) number)
    ∙ map_or Some so_far (place_among i (v x).texts (v x).items t))
