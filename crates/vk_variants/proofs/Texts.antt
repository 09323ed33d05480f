-- The texts of the names that a directive gives: each spells its name, and no two are the same.
use Rattle.std.proofs.Common.{◌≡◌, ◌≢◌, ℕ, List, [], ◌∷◌, ◌++◌, map, refl, ap, sym, subst}
use Rattle.std.specs.List.{AllByRecursion, All, AllPairs}
use Rattle.std.proofs.lemmas.List.{append-nil}
use Rattle.std.proofs.lemmas.List.Elements.{All-from_recursion}
use Rattle.vk_kinds.specs.declared.kinds.Target.{Target}
use Rattle.vk_kinds.specs.declared.kinds.Length.{Length}
use Rattle.vk_kinds.specs.declared.kinds.Param.{Param}
use Rattle.vk_kinds.specs.Sizes.{HeadTypes, SignatureTree}
use Rattle.vk_kinds.specs.Lengths.{lengths}
use Rattle.vk_kinds.proofs.Apart.{AreDifferent, pairs_differ, variants_are_different}
use Rattle.vk_names.specs.Spelling.{Name, IsName, IsScalar, Spells, name_text}
use Rattle.vk_names.proofs.Exact.{one_name, written_is_spelled}
use Rattle.vk_variants.specs.Directives.{IsNamed, directive_names, names_given, name_with}
use Rattle.vk_variants.proofs.Given.{given_fit}

spells_itself : (n : Name) → IsName n → Spells n (name_text n)
spells_itself n fits = subst (λ bytes. Spells n bytes) (append-nil (name_text n)) (written_is_spelled n [] fits tt)

same_front : (scalar : List ℕ) (params : List Param) (f g : Length) → IsName (name_with scalar params f) → IsName (name_with scalar params g)
    → name_text (name_with scalar params f) ≡ name_text (name_with scalar params g) → f ≡ g
same_front scalar params f g p q e = ap (λ n. n.front) (one_name (name_text (name_with scalar params g)) (name_with scalar params f) (name_with scalar params g)
    (subst (λ bytes. Spells (name_with scalar params f) bytes) e (spells_itself (name_with scalar params f) p)) (spells_itself (name_with scalar params g) q))

differs_from : (scalar : List ℕ) (params : List Param) (f : Length) (gs : List Length) → IsName (name_with scalar params f)
    → AllByRecursion (λ g. IsName (name_with scalar params g)) gs → AllByRecursion (λ g. f ≢ g) gs
    → AllByRecursion (λ text. name_text (name_with scalar params f) ≢ text) (map name_text (map (name_with scalar params) gs))
differs_from scalar params f [] fits all apart = tt
differs_from scalar params f (g ∷ gs) fits all apart = ((λ e. apart.0 (same_front scalar params f g fits all.0 e)), differs_from scalar params f gs fits all.1 apart.1)

all_differ : (scalar : List ℕ) (params : List Param) (fs : List Length) → AllByRecursion (λ f. IsName (name_with scalar params f)) fs → AreDifferent fs
    → AreDifferent (map name_text (map (name_with scalar params) fs))
all_differ scalar params [] fits apart = tt
all_differ scalar params (f ∷ fs) fits apart = (differs_from scalar params f fs fits.0 fits.1 apart.0, all_differ scalar params fs fits.1 apart.1)

pub names_differ : (t : Target) (scalar : List ℕ) (h : HeadTypes) (s : SignatureTree) → IsScalar scalar → IsNamed s → AllPairs (λ x y. x ≢ y) (directive_names t scalar h s)
unfolding directive_names
names_differ t scalar h s spelled named = pairs_differ (directive_names t scalar h s) (all_differ scalar s.params (lengths t h s) (given_fit t scalar h s spelled named) (variants_are_different t h s))

each_spells : (scalar : List ℕ) (params : List Param) (fs : List Length) → AllByRecursion (λ f. IsName (name_with scalar params f)) fs
    → AllByRecursion (λ name. Spells name (name_text name)) (map (name_with scalar params) fs)
each_spells scalar params [] fits = tt
each_spells scalar params (f ∷ fs) fits = (spells_itself (name_with scalar params f) fits.0, each_spells scalar params fs fits.1)

pub names_spell : (t : Target) (scalar : List ℕ) (h : HeadTypes) (s : SignatureTree) → IsScalar scalar → IsNamed s → All (λ name. Spells name (name_text name)) (names_given t scalar h s)
names_spell t scalar h s spelled named = All-from_recursion (λ name. Spells name (name_text name)) (names_given t scalar h s) (each_spells scalar s.params (lengths t h s) (given_fit t scalar h s spelled named))
