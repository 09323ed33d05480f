-- Whole directives by their signatures.
use Rattle.std.proofs.Common.{◌≡◌, suc, ◌≤◌, Bool, true, false, cond, ◌&&◌, ◌||◌, List, [], ◌∷◌, ◌++◌, map, length, Option, Some, None, refl, sym, ap, ap₂, ◌∙◌}
use Rattle.std.specs.List.{list_any}
use Rattle.std.proofs.lemmas.Bool.{false≢true}
use Rattle.vk_kinds.specs.declared.kinds.Param.{Param}
use Rattle.vk_kinds.specs.declared.kinds.Target.{Target}
use Rattle.vk_kinds.specs.Sizes.{SignatureTree}
use Rattle.vk_ast.specs.declared.items.ParamDecl.{ParamDecl}
use Rattle.vk_ast.specs.Directives.{DirectiveTree}
use Rattle.vk_ast.specs.Units.{FunctionTree}
use Rattle.vk_unit_rules.specs.declared.rules.UnitRule.TheVariants.{D18, D19}
use Rattle.vk_rules_book.specs.Faults.{directive_fault, when}
use Rattle.vk_rules_book.specs.Scopes.{types_of}
use Rattle.vk_rules_book.specs.Signatures.{head_of, same_params, share_a_name, signature_of}
use Rattle.vk_rules_book.specs.Directives.{directive_faults, has_signature, is_no_width, repeats_a_name}
use Rattle.vk_rules_signatures.proofs.Sound.{and_right, few}
use Rattle.vk_rules_directives.specs.Inner.Signed.{gives_too, signed, whole_faults_by}

pub equal_lengths : (ps qs : List Param) → same_params ps qs ≡ true → length ps ≡ length qs
unfolding same_params
equal_lengths [] [] e = refl
equal_lengths [] (q ∷ qs) e = absurd (false≢true e)
equal_lengths (p ∷ ps) [] e = absurd (false≢true e)
equal_lengths (p ∷ ps) (q ∷ qs) e = ap suc (equal_lengths ps qs (and_right _ (same_params ps qs) e))

chosen : (b : Bool) (s t : SignatureTree) → Some s ≡ cond b (Some t) None → (b ≡ true) × (s ≡ t)
chosen true s t e = (refl, cc)
chosen false s t e = cc

typed : (ps : List ParamDecl) (f : ParamDecl → Param) → length (types_of ps) ≡ length (map f ps)
typed [] f = refl
typed (p ∷ ps) f = ap suc (typed ps f)

has_params : (f : FunctionTree) (d : DirectiveTree) → length (types_of f.params) ≡ length (signature_of f d).params
unfolding signature_of
has_params f d = typed f.params _

-- a directive that has a signature: its function has at most 64 parameters, and it says something of each
pub of_signed : (f : FunctionTree) (d : DirectiveTree) (s : SignatureTree) → Some s ≡ signed f d → (length f.params ≤ 64) × (length (types_of f.params) ≡ length s.params)
of_signed f d s e =
    let is = chosen (has_signature f d) s (signature_of f d) e in
    (few f d is.0, has_params f d ∙ ap (λ (t : SignatureTree). length t.params) (sym is.1))

given_one : (target : Target) (f : FunctionTree) (t : SignatureTree) (b : Bool) (s : SignatureTree)
    → (b && share_a_name target (head_of f) s t) ≡ gives_too target (head_of f) t (cond b (Some s) None)
given_one target f t true s = refl
given_one target f t false s = refl

given : (target : Target) (f : FunctionTree) (t : SignatureTree) (earlier : List DirectiveTree)
    → list_any (λ e. has_signature f e && share_a_name target (head_of f) (signature_of f e) t) earlier ≡ list_any (gives_too target (head_of f) t) (map (signed f) earlier)
given target f t [] = refl
given target f t (e ∷ es) = ap₂ (λ (a b : Bool). a || b) (given_one target f t (has_signature f e) (signature_of f e)) (given target f t es)

repeated : (target : Target) (f : FunctionTree) (earlier : List DirectiveTree) (d : DirectiveTree)
    → repeats_a_name target f earlier d ≡ list_any (gives_too target (head_of f) (signature_of f d)) (map (signed f) earlier)
unfolding repeats_a_name
repeated target f earlier d = given target f (signature_of f d) earlier

by_sign : (target : Target) (f : FunctionTree) (earlier : List (Option SignatureTree)) (d : DirectiveTree) (b : Bool) (s : SignatureTree)
    → when (b && is_no_width target (head_of f) s) (directive_fault d d.token D18) ++ when (b && list_any (gives_too target (head_of f) s) earlier) (directive_fault d d.token D19)
    ≡ whole_faults_by target (head_of f) earlier (cond b (Some s) None) d
by_sign target f earlier d true s = refl
by_sign target f earlier d false s = refl

pub whole_by : (target : Target) (f : FunctionTree) (earlier : List DirectiveTree) (d : DirectiveTree)
    → directive_faults target f earlier d ≡ whole_faults_by target (head_of f) (map (signed f) earlier) (signed f d) d
unfolding directive_faults
whole_by target f earlier d =
    ap (λ b. when (has_signature f d && is_no_width target (head_of f) (signature_of f d)) (directive_fault d d.token D18) ++ when (has_signature f d && b) (directive_fault d d.token D19)) (repeated target f earlier d)
    ∙ by_sign target f (map (signed f) earlier) d (has_signature f d) (signature_of f d)
