-- Parameters one after another.
use Rattle.std.proofs.Common.{◌≡◌, ℕ, ◌+◌, ◌<◌, List, [], ◌∷◌, ◌++◌, length, take, slice_index_or, Option, Some, None, refl, sym, ap, ap₂, ◌∙◌, arith}
use Rattle.std.proofs.lemmas.List.{append-nil, length-take-le, take_more}
use Rattle.vk_ast.specs.declared.names.NameId.{NameId}
use Rattle.vk_ast.specs.declared.items.ParamDecl.{ParamDecl}
use Rattle.vk_rules_book.specs.declared.contexts.Binding.{Binding}
use Rattle.vk_rules_book.specs.declared.faults.Fault.{Fault}
use Rattle.vk_rules_book.specs.Faults.{first_among}
use Rattle.vk_rules_book.specs.Scopes.{Scope, with_param, with_params}
use Rattle.vk_rules_book.specs.Statements.{parameter_faults}
use Rattle.vk_rules_book.specs.Visits.{parameter, parameter_visits}
use Rattle.vk_rules_book.specs.Rules.{Subject}
use Rattle.vk_rules_book.specs.Noting.{found}
use Rattle.vk_rules_book.proofs.Noting.{found_append, found_one}
use Rattle.vk_rules_names.specs.declared.known.Place.{Place}
use Rattle.vk_rules_names.specs.Seen.{scope_at, unit_of}
use Rattle.vk_rules_functions.specs.Named.{bindings_of, named}

pub params_none : (s : Scope) → s ≡ with_params s []
unfolding with_params
params_none s = refl

params_push : (s : Scope) (ps : List ParamDecl) (p : ParamDecl) → with_params s (ps ++ p ∷ []) ≡ with_param (with_params s ps) p.name p
unfolding with_params
params_push s [] p = refl
params_push s (q ∷ ps) p = params_push (with_param s q.name q) ps p

visits_params : (s : Scope) (n : ℕ) (q : ParamDecl) (ps : List ParamDecl) → with_params s (q ∷ ps) ≡ with_params (with_param s q.name q) ps
unfolding with_params
visits_params s n q ps = refl

visits_push : (s : Scope) (n : ℕ) (ps : List ParamDecl) (p : ParamDecl)
    → parameter_visits s n (ps ++ p ∷ []) ≡ parameter_visits s n ps ++ parameter (with_params s ps) (n + length ps) p ∷ []
visits_push s n [] p = ap₂ (λ (u : Scope) (k : ℕ). parameter u k p ∷ []) (params_none s) (omega arith)
visits_push s n (q ∷ ps) p =
    ap (λ vs. parameter s n q ∷ vs) (visits_push (with_param s q.name q) (n + 1) ps p
    ∙ ap₂ (λ (u : Scope) (k : ℕ). parameter_visits (with_param s q.name q) (n + 1) ps ++ parameter u k p ∷ []) (sym (visits_params s n q ps)) (omega arith))

bound : (place : Place) (bs : List Binding) (name : Option NameId) (p : ParamDecl) → scope_at place (bs ++ named name p) 0 ≡ with_param (scope_at place bs 0) name p
bound place bs None p = ap (λ (xs : List Binding). scope_at place xs 0) (append-nil bs)
bound place bs (Some id) p = refl

grown : (ps : List ParamDecl) (i : ℕ) (d : ParamDecl) (x : ParamDecl) → i < length ps → x ≡ slice_index_or ps i d → take (i + 1) ps ≡ take i ps ++ x ∷ []
grown ps i d x below is = take_more ps i d below ∙ ap (λ y. take i ps ++ y ∷ []) (sym is)

step_scope : (place : Place) (s : Scope) (ps : List ParamDecl) (i : ℕ) (d x : ParamDecl) (bs cs : List Binding) → i < length ps → x ≡ slice_index_or ps i d
    → scope_at place bs 0 ≡ with_params s (take i ps) → cs ≡ bs ++ bindings_of x → scope_at place cs 0 ≡ with_params s (take (i + 1) ps)
step_scope place s ps i d x bs cs below is before more =
    ap (λ (xs : List Binding). scope_at place xs 0) more ∙ bound place bs x.name x ∙ ap (λ u. with_param u x.name x) before
    ∙ sym (ap (with_params s) (grown ps i d x below is) ∙ params_push s (take i ps) x)

step_noted : (unit : Subject) (s now : Scope) (ps : List ParamDecl) (i : ℕ) (d x : ParamDecl) (old before next : Option Fault) → i < length ps → x ≡ slice_index_or ps i d
    → now ≡ with_params s (take i ps) → before ≡ found unit old (parameter_visits s 0 (take i ps)) → next ≡ first_among before (parameter_faults unit.texts now i x)
    → next ≡ found unit old (parameter_visits s 0 (take (i + 1) ps))
step_noted unit s now ps i d x old before next below is scope told noted =
    let len : length (take i ps) ≡ i = length-take-le i ps (omega (arith, below)) in
    let number : 0 + length (take i ps) ≡ i = omega (arith, len) in
    noted
    ∙ ap₂ (λ (o : Option Fault) (u : Scope). first_among o (parameter_faults unit.texts u i x)) told scope
    ∙ sym (ap (λ xs. found unit old (parameter_visits s 0 xs)) (grown ps i d x below is)
    ∙ ap (found unit old) (visits_push s 0 (take i ps) x)
    ∙ found_append unit old (parameter_visits s 0 (take i ps)) _
    ∙ found_one unit _ (parameter (with_params s (take i ps)) (0 + length (take i ps)) x)
    ∙ ap (λ k. first_among (found unit old (parameter_visits s 0 (take i ps))) (parameter_faults unit.texts (with_params s (take i ps)) k x)) number)

-- what is visible and what is noted behind one parameter more
pub one_more : (place : Place) (s : Scope) (ps : List ParamDecl) (i : ℕ) (d : ParamDecl) (bs cs : List Binding) (old before next : Option Fault) → i < length ps
    → next ≡ first_among before (parameter_faults (unit_of place).texts (scope_at place bs 0) i (slice_index_or ps i d))
    → scope_at place bs 0 ≡ with_params s (take i ps) → before ≡ found (unit_of place) old (parameter_visits s 0 (take i ps))
    → cs ≡ bs ++ bindings_of (slice_index_or ps i d)
    → (scope_at place cs 0 ≡ with_params s (take (i + 1) ps)) × (next ≡ found (unit_of place) old (parameter_visits s 0 (take (i + 1) ps)))
one_more place s ps i d bs cs old before next below noted scope told more = (
  step_scope place s ps i d (slice_index_or ps i d) bs cs below refl scope more,
  step_noted (unit_of place) s (scope_at place bs 0) ps i d (slice_index_or ps i d) old before next below refl scope told noted,
)
