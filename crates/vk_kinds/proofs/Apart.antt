-- The variants that a directive gives differ from each other.
use Rattle.std.proofs.Common.{◌≡◌, ◌≢◌, ℕ, List, [], ◌∷◌, ◌++◌, Option, Some, None, sym, subst, rules, ◌⊎◌, inl, inr}
use Rattle.std.specs.List.{AllByRecursion, AllPairs, flat_map}
use Rattle.std.proofs.lemmas.List.Kept.{AllPairs-cons}
use Rattle.std.proofs.lemmas.List.Elements.{All-from_recursion}
use Rattle.vk_kinds.proofs.Facts.{size_cases, nds_is_size}
use Rattle.vk_kinds.specs.declared.kinds.Target.{Target}
use Rattle.vk_kinds.specs.declared.kinds.Target.TheVariants.{X86, Arm}
use Rattle.vk_kinds.specs.declared.kinds.Isa.TheVariants.{B, C, D, E, N, S}
use Rattle.vk_kinds.specs.declared.kinds.Branch.{Branch}
use Rattle.vk_kinds.specs.declared.kinds.Branch.TheVariants.{Both, Inside, Outside}
use Rattle.vk_kinds.specs.declared.kinds.Len.{Len}
use Rattle.vk_kinds.specs.declared.kinds.Len.TheVariants.{Scalable}
use Rattle.vk_kinds.specs.declared.kinds.Length.{Length}
use Rattle.vk_kinds.specs.Sizes.{HeadTypes, SignatureTree, nds}
use Rattle.vk_kinds.specs.Lengths.{lengths, lens_with, variants_with, lanes_by}

-- each differs from all later ones
abbrev pub AreDifferent : {X : Type 0} → List X → Type 0
AreDifferent [] = Unit {0}
AreDifferent (x ∷ xs) = AllByRecursion (λ y. x ≢ y) xs × AreDifferent xs

x86_different : (branch : Branch) (simdlen : Option ℕ) (b c d e : Len)
    → AreDifferent (flat_map (variants_with B branch) (lens_with simdlen (b ∷ [])) ++ (flat_map (variants_with C branch) (lens_with simdlen (c ∷ []))
    ++ (flat_map (variants_with D branch) (lens_with simdlen (d ∷ [])) ++ (flat_map (variants_with E branch) (lens_with simdlen (e ∷ [])) ++ []))))
x86_different Both None b c d e = search rules
x86_different Inside None b c d e = search rules
x86_different Outside None b c d e = search rules
x86_different Both (Some n) b c d e = search rules
x86_different Inside (Some n) b c d e = search rules
x86_different Outside (Some n) b c d e = search rules

-- the variants for AArch64 with a narrowest data size
abbrev arm_variants : Branch → Option ℕ → ℕ → List Length
arm_variants branch simdlen n = flat_map (variants_with N branch) (lens_with simdlen (lanes_by n)) ++ (flat_map (variants_with S branch) (lens_with simdlen (Scalable ∷ [])) ++ [])

arm_at_1 : (branch : Branch) → AreDifferent (arm_variants branch None 1)
arm_at_1 Both = search rules
arm_at_1 Inside = search rules
arm_at_1 Outside = search rules

arm_at_2 : (branch : Branch) → AreDifferent (arm_variants branch None 2)
arm_at_2 Both = search rules
arm_at_2 Inside = search rules
arm_at_2 Outside = search rules

arm_at_4 : (branch : Branch) → AreDifferent (arm_variants branch None 4)
arm_at_4 Both = search rules
arm_at_4 Inside = search rules
arm_at_4 Outside = search rules

arm_at_8 : (branch : Branch) → AreDifferent (arm_variants branch None 8)
arm_at_8 Both = search rules
arm_at_8 Inside = search rules
arm_at_8 Outside = search rules

arm_different : (branch : Branch) (simdlen : Option ℕ) (n : ℕ) → (n ≡ 1) ⊎ ((n ≡ 2) ⊎ ((n ≡ 4) ⊎ (n ≡ 8))) → AreDifferent (arm_variants branch simdlen n)
arm_different branch None n (inl e) = subst (λ k. AreDifferent (arm_variants branch None k)) (sym e) (arm_at_1 branch)
arm_different branch None n (inr (inl e)) = subst (λ k. AreDifferent (arm_variants branch None k)) (sym e) (arm_at_2 branch)
arm_different branch None n (inr (inr (inl e))) = subst (λ k. AreDifferent (arm_variants branch None k)) (sym e) (arm_at_4 branch)
arm_different branch None n (inr (inr (inr e))) = subst (λ k. AreDifferent (arm_variants branch None k)) (sym e) (arm_at_8 branch)
arm_different Both (Some lanes) n which = search rules
arm_different Inside (Some lanes) n which = search rules
arm_different Outside (Some lanes) n which = search rules

pub variants_are_different : (target : Target) (h : HeadTypes) (s : SignatureTree) → AreDifferent (lengths target h s)
unfolding lengths
variants_are_different X86 h s = x86_different s.branch s.simdlen _ _ _ _
variants_are_different Arm h s = arm_different s.branch s.simdlen (nds h s) (size_cases (nds h s) (nds_is_size h s))

-- so the values at two places differ
pub pairs_differ : {X : Type 0} → (xs : List X) → AreDifferent xs → AllPairs (λ x y. x ≢ y) xs
pairs_differ [] all = search rules
pairs_differ (x ∷ xs) all = AllPairs-cons (λ x y. x ≢ y) x xs (All-from_recursion (λ y. x ≢ y) xs all.0) (pairs_differ xs all.1)
