-- The sizes are 1, 2, 4 or 8, and the least and the greatest of the lane sizes.
use Rattle.std.proofs.Common.{◌≡◌, ℕ, ◌≤◌, true, min, max, List, [], ◌∷◌, ◌++◌, refl, ap, sym, ◌∙◌, subst, arith, ◌⊎◌}
use Rattle.std.specs.List.{All, AllByRecursion}
use Rattle.std.proofs.lemmas.List.Elements.{All-from_recursion}
use Rattle.vk_types.specs.declared.types.Ty.{Ty}
use Rattle.vk_types.specs.declared.types.Ty.TheVariants.{I8, I16, I32, I64, U8, U16, U32, U64}
use Rattle.vk_kinds.specs.declared.heads.CType.{CType}
use Rattle.vk_kinds.specs.declared.heads.CType.TheVariants.{Void, Int, Ptr}
use Rattle.vk_kinds.specs.declared.kinds.Kind.{Kind}
use Rattle.vk_kinds.specs.declared.kinds.Kind.TheVariants.{Vector, Uniform, Linear, Ref, Val, Uval}
use Rattle.vk_kinds.specs.declared.kinds.Param.{Param}
use Rattle.vk_kinds.specs.Sizes.{HeadTypes, SignatureTree, bytes_of, size_of, is_size, characteristic, cdt, lane_size, lane_sizes, result_sizes, all_sizes, least_of, greatest_of, nds, wds}

pub bytes_is_size : (t : Ty) → is_size (bytes_of t) ≡ true
bytes_is_size I8 = refl
bytes_is_size I16 = refl
bytes_is_size I32 = refl
bytes_is_size I64 = refl
bytes_is_size U8 = refl
bytes_is_size U16 = refl
bytes_is_size U32 = refl
bytes_is_size U64 = refl

size_is_size : (t : CType) → is_size (size_of t) ≡ true
size_is_size Void = refl
size_is_size (Int t) = bytes_is_size t
size_is_size (Ptr to written) = refl

pub cdt_is_size : (h : HeadTypes) (s : SignatureTree) → is_size (cdt h s) ≡ true
unfolding cdt
cdt_is_size h s = size_is_size (characteristic h.result h.params s.params)

lane_is_size : (t : CType) (kind : Kind) → is_size (lane_size t kind) ≡ true
lane_is_size Void kind = refl
lane_is_size (Int t) kind = bytes_is_size t
lane_is_size (Ptr to written) Vector = refl
lane_is_size (Ptr to written) Uniform = bytes_is_size to
lane_is_size (Ptr to written) (Linear step) = bytes_is_size to
lane_is_size (Ptr to written) (Ref step) = bytes_is_size to
lane_is_size (Ptr to written) (Val step) = bytes_is_size to
lane_is_size (Ptr to written) (Uval step) = bytes_is_size to

result_are_sizes : (t : CType) → AllByRecursion (λ n. is_size n ≡ true) (result_sizes t)
result_are_sizes Void = tt
result_are_sizes (Int t) = (bytes_is_size t, tt)
result_are_sizes (Ptr to written) = (refl, tt)

all_are_sizes : (t : CType) (ts : List CType) (ps : List Param) → AllByRecursion (λ n. is_size n ≡ true) (lane_sizes ts ps ++ result_sizes t)
all_are_sizes t [] ps = result_are_sizes t
all_are_sizes t (u ∷ ts) [] = result_are_sizes t
all_are_sizes t (u ∷ ts) (p ∷ ps) = (lane_is_size u p.kind, all_are_sizes t ts ps)

min_is_size : (n m : ℕ) → is_size n ≡ true → is_size m ≡ true → is_size (min n m) ≡ true
min_is_size n m p q = grind arith

max_is_size : (n m : ℕ) → is_size n ≡ true → is_size m ≡ true → is_size (max n m) ≡ true
max_is_size n m p q = grind arith

least_is_size : (ns : List ℕ) → AllByRecursion (λ n. is_size n ≡ true) ns → is_size (least_of ns) ≡ true
least_is_size [] all = refl
least_is_size (n ∷ []) all = all.0
least_is_size (n ∷ m ∷ ns) all = min_is_size n (least_of (m ∷ ns)) all.0 (least_is_size (m ∷ ns) all.1)

greatest_is_size : (ns : List ℕ) → AllByRecursion (λ n. is_size n ≡ true) ns → is_size (greatest_of ns) ≡ true
greatest_is_size [] all = refl
greatest_is_size (n ∷ []) all = all.0
greatest_is_size (n ∷ m ∷ ns) all = max_is_size n (greatest_of (m ∷ ns)) all.0 (greatest_is_size (m ∷ ns) all.1)

pub nds_is_size : (h : HeadTypes) (s : SignatureTree) → is_size (nds h s) ≡ true
unfolding nds
nds_is_size h s = least_is_size (all_sizes h s) (all_are_sizes h.result h.params s.params)

pub wds_is_size : (h : HeadTypes) (s : SignatureTree) → is_size (wds h s) ≡ true
unfolding wds
wds_is_size h s = greatest_is_size (all_sizes h s) (all_are_sizes h.result h.params s.params)

pub size_cases : (n : ℕ) → is_size n ≡ true → (n ≡ 1) ⊎ ((n ≡ 2) ⊎ ((n ≡ 4) ⊎ (n ≡ 8)))
size_cases n p = grind arith

-- each size is at least the least one
least_below : (ns : List ℕ) → AllByRecursion (λ n. least_of ns ≤ n) ns
least_below [] = tt
least_below (n ∷ []) = (omega arith, tt)
least_below (n ∷ m ∷ ns) = (omega arith, lower (min n (least_of (m ∷ ns))) (least_of (m ∷ ns)) (m ∷ ns) (omega arith) (least_below (m ∷ ns)))
  where
    lower : (a b : ℕ) (xs : List ℕ) → a ≤ b → AllByRecursion (λ n. b ≤ n) xs → AllByRecursion (λ n. a ≤ n) xs
    lower a b [] le all = tt
    lower a b (x ∷ xs) le all = (omega (arith, le, all.0), lower a b xs le all.1)

greatest_above : (ns : List ℕ) → AllByRecursion (λ n. n ≤ greatest_of ns) ns
greatest_above [] = tt
greatest_above (n ∷ []) = (omega arith, tt)
greatest_above (n ∷ m ∷ ns) = (omega arith, raise (max n (greatest_of (m ∷ ns))) (greatest_of (m ∷ ns)) (m ∷ ns) (omega arith) (greatest_above (m ∷ ns)))
  where
    raise : (a b : ℕ) (xs : List ℕ) → b ≤ a → AllByRecursion (λ n. n ≤ b) xs → AllByRecursion (λ n. n ≤ a) xs
    raise a b [] le all = tt
    raise a b (x ∷ xs) le all = (omega (arith, le, all.0), raise a b xs le all.1)

pub narrowest : (h : HeadTypes) (s : SignatureTree) → All (λ n. nds h s ≤ n) (all_sizes h s)
unfolding nds
narrowest h s = All-from_recursion (λ n. least_of (all_sizes h s) ≤ n) (all_sizes h s) (least_below (all_sizes h s))

pub widest : (h : HeadTypes) (s : SignatureTree) → All (λ n. n ≤ wds h s) (all_sizes h s)
unfolding wds
widest h s = All-from_recursion (λ n. n ≤ greatest_of (all_sizes h s)) (all_sizes h s) (greatest_above (all_sizes h s))

-- the same of a result that is told by its list
pub least_result : (h : HeadTypes) (s : SignatureTree) (ns : List ℕ) (n : ℕ) → ns ≡ all_sizes h s → n ≡ least_of ns → is_size n ≡ true
unfolding nds
least_result h s ns n list value = subst (λ k. is_size k ≡ true) (sym (value ∙ ap least_of list)) (nds_is_size h s)

pub greatest_result : (h : HeadTypes) (s : SignatureTree) (ns : List ℕ) (n : ℕ) → ns ≡ all_sizes h s → n ≡ greatest_of ns → is_size n ≡ true
unfolding wds
greatest_result h s ns n list value = subst (λ k. is_size k ≡ true) (sym (value ∙ ap greatest_of list)) (wds_is_size h s)
