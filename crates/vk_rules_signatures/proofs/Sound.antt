-- What a directive that has a signature owes to its clauses.
use Rattle.std.proofs.Common.{◌≡◌, ℕ, ◌≤◌, Bool, true, false, ◌&&◌, ◌||◌, not, nat_le, List, [], ◌∷◌, ◌++◌, length, refl, sym, subst, ap, ap₂, ◌∙◌, ℤ, unsigned_abs, arith}
use Rattle.std.proofs.lemmas.Bool.{false≢true}
use Rattle.std.specs.List.{list_any}
use Rattle.std.proofs.lemmas.Bool.Decides.{nat_tests}
use Rattle.vk_ast.specs.declared.names.NameId.{NameId}
use Rattle.vk_ast.specs.declared.items.ParamDecl.{ParamDecl}
use Rattle.vk_ast.specs.declared.directives.PlacedName.{PlacedName}
use Rattle.vk_ast.specs.Directives.{ClauseTree, DirectiveTree}
use Rattle.vk_ast.specs.Units.{FunctionTree}
use Rattle.vk_rules_book.specs.declared.faults.Fault.{Fault}
use Rattle.vk_rules_book.specs.Faults.{when}
use Rattle.vk_rules_book.specs.Scopes.{same_name}
use Rattle.vk_rules_book.specs.Signatures.{constant, lists, pointee_of, scaled}
use Rattle.vk_rules_book.specs.Directives.{all_said_faults, has_signature, has_wrong_step, is_branch, is_empty, is_other, is_simdlen, is_too_great, is_wrong_step, said_faults}

-- ---- tests

pub and_left : (a b : Bool) → (a && b) ≡ true → a ≡ true
and_left true b e = refl
and_left false b e = e

pub and_right : (a b : Bool) → (a && b) ≡ true → b ≡ true
and_right true b e = e
and_right false true e = refl
and_right false false e = e

or_left : (a b : Bool) → (a || b) ≡ false → a ≡ false
or_left true b e = e
or_left false b e = refl

or_right : (a b : Bool) → (a || b) ≡ false → b ≡ false
or_right true true e = e
or_right true false e = refl
or_right false b e = e

-- ---- no fault

pub empty_append : (xs ys : List Fault) → is_empty (xs ++ ys) ≡ (is_empty xs && is_empty ys)
empty_append [] ys = refl
empty_append (x ∷ xs) ys = refl

pub empty_when : (b : Bool) (x : Fault) → is_empty (when b x) ≡ not b
empty_when true x = refl
empty_when false x = refl

fourth : (a b c t u : Bool) → (a && (b && (c && (t && u)))) ≡ true → t ≡ true
fourth true true true true u e = refl
fourth true true true false u e = e
fourth true true false t u e = absurd (false≢true e)
fourth true false c t u e = absurd (false≢true e)
fourth false b c t u e = absurd (false≢true e)

not_true : (b : Bool) → not b ≡ true → b ≡ false
not_true true e = sym e
not_true false e = refl

no_wrong_step : (f : FunctionTree) (d : DirectiveTree) (earlier : List ClauseTree) (c : ClauseTree) → is_empty (said_faults f d earlier c) ≡ true
    → has_wrong_step f d c.says ≡ false
unfolding said_faults
no_wrong_step f d earlier c e =
    let tests = simp (empty_append, empty_when) at e in
    not_true (has_wrong_step f d c.says) (fourth (not (is_other c.says)) (not (is_simdlen c.says && list_any (λ e. is_simdlen e.says) earlier))
    (not (is_branch c.says && list_any (λ e. is_branch e.says) earlier)) (not (has_wrong_step f d c.says)) _ tests)

no_wrong_steps : (f : FunctionTree) (d : DirectiveTree) (earlier cs : List ClauseTree) → is_empty (all_said_faults f d earlier cs) ≡ true
    → list_any (λ c. has_wrong_step f d c.says) cs ≡ false
no_wrong_steps f d earlier [] e = refl
no_wrong_steps f d earlier (c ∷ cs) e =
    let both : (is_empty (said_faults f d earlier c) && is_empty (all_said_faults f d (earlier ++ c ∷ []) cs)) ≡ true = sym (empty_append (said_faults f d earlier c) _) ∙ e in
    ap₂ (λ (a b : Bool). a || b) (no_wrong_step f d earlier c (and_left _ _ both)) (no_wrong_steps f d (earlier ++ c ∷ []) cs (and_right _ _ both))

-- no step is wrong, and there are at most 64 parameters
pub sound : (f : FunctionTree) (d : DirectiveTree) → has_signature f d ≡ true → list_any (λ c. has_wrong_step f d c.says) d.clauses ≡ false
unfolding has_signature
sound f d e = no_wrong_steps f d [] d.clauses (and_left _ _ (and_right _ _ e))

pub few : (f : FunctionTree) (d : DirectiveTree) → has_signature f d ≡ true → length f.params ≤ 64
unfolding has_signature
few f d e = let le : nat_le (length f.params) 64 ≡ true = and_left _ _ e in grind (arith, nat_tests)

-- ---- steps of the parameters that a clause names

same_is : (a b : NameId) → same_name a b ≡ true → a ≡ b
same_is a b e = let same : a.0 ≡ b.0 = grind (arith, nat_tests) in ap (λ (n : ℕ). record { 0 = n }) same

here : (b later t : Bool) → (b || later) ≡ true → (b ≡ true → t ≡ false) → (later ≡ true → t ≡ false) → t ≡ false
here true later t e now rest = now refl
here false later t e now rest = rest e

of_listed : (test : NameId → Bool) (id : NameId) (names : List PlacedName) → lists id names ≡ true → list_any (λ n. test n.name) names ≡ false → test id ≡ false
of_listed test id [] listed none = absurd (false≢true listed)
of_listed test id (n ∷ ns) listed none =
    here (same_name n.name id) (lists id ns) (test id) listed
    (λ same. subst (λ (i : NameId). test i ≡ false) (same_is n.name id same) (or_left _ _ none))
    (λ later. of_listed test id ns later (or_right _ _ none))

not_too_great : (z : ℤ) → is_too_great z ≡ false → unsigned_abs z ≤ 2147483647
not_too_great z e = grind (arith, nat_tests)

pub in_elements : (params : List ParamDecl) (names : List PlacedName) (z : ℤ) → is_wrong_step params names (constant z) ≡ false → unsigned_abs z ≤ 2147483647
in_elements params names z right = not_too_great z (or_left _ _ (or_right _ _ right))

pub in_bytes : (params : List ParamDecl) (names : List PlacedName) (z : ℤ) (id : NameId) → lists id names ≡ true → is_wrong_step params names (constant z) ≡ false
    → unsigned_abs (scaled (pointee_of params id) z) ≤ 2147483647
in_bytes params names z id listed right =
    not_too_great (scaled (pointee_of params id) z) (of_listed (λ i. is_too_great (scaled (pointee_of params i) z)) id names listed (or_right _ _ (or_right _ _ right)))
