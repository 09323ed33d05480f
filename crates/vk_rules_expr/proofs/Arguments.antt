-- Arguments of a list that grows at its end.
use Rattle.std.proofs.Common.{◌≡◌, suc, Bool, true, false, ◌&&◌, List, [], ◌∷◌, ◌++◌, length, slice_get, Some, None, refl, sym, ap, ◌∙◌}
use Rattle.std.proofs.lemmas.List.{append_assoc, append-nil}
use Rattle.vk_kinds.specs.declared.heads.CType.{CType}
use Rattle.vk_ast.specs.declared.expressions.Expr.{Expr}
use Rattle.vk_ast.specs.Tree.{expr_of, exprs_of}
use Rattle.vk_rules_book.specs.declared.contexts.Around.{Around}
use Rattle.vk_rules_book.specs.declared.typings.Typing.{Typing}
use Rattle.vk_rules_book.specs.declared.contexts.Role.TheVariants as role
use Rattle.vk_rules_book.specs.Scopes.{Scope}
use Rattle.vk_rules_book.specs.Typings.{are_arguments, is_argument, is_typed, typing_of, typings_of}
use Rattle.vk_rules_book.specs.Visits.{argument_visits, parts_of, with_role}

and_assoc : (a b c : Bool) → (a && (b && c)) ≡ ((a && b) && c)
and_assoc true b c = refl
and_assoc false b c = refl

and_true : (a : Bool) → (a && true) ≡ a
and_true true = refl
and_true false = refl

pub fits_push : (ws : List CType) (ts : List Typing) (t : Typing)
    → are_arguments ws (ts ++ t ∷ []) ≡ (are_arguments ws ts && (is_typed t && is_argument (slice_get ws (length ts)) t))
unfolding are_arguments
fits_push [] [] t = ap (λ b. is_typed t && b) (and_true (is_argument None t))
fits_push (w ∷ ws) [] t = ap (λ b. is_typed t && b) (and_true (is_argument (Some w) t))
fits_push [] (x ∷ ts) t = ap (λ b. is_typed x && (is_argument None x && b)) (fits_push [] ts t)
    ∙ ap (λ b. is_typed x && b) (and_assoc (is_argument None x) _ _) ∙ and_assoc (is_typed x) _ _
fits_push (w ∷ ws) (x ∷ ts) t = ap (λ b. is_typed x && (is_argument (Some w) x && b)) (fits_push ws ts t)
    ∙ ap (λ b. is_typed x && b) (and_assoc (is_argument (Some w) x) _ _) ∙ and_assoc (is_typed x) _ _

pub typings_push : (scope : Scope) (es : List Expr) (e : Expr)
    → typings_of scope (exprs_of (es ++ e ∷ [])) ≡ typings_of scope (exprs_of es) ++ typing_of scope (expr_of e) ∷ []
typings_push scope [] e = refl
typings_push scope (x ∷ es) e = ap (λ ts. typing_of scope (expr_of x) ∷ ts) (typings_push scope es e)

pub length_typings : (scope : Scope) (es : List Expr) → length (typings_of scope (exprs_of es)) ≡ length es
length_typings scope [] = refl
length_typings scope (x ∷ es) = ap suc (length_typings scope es)

pub visits_push : (around : Around) (scope : Scope) (ws : List CType) (es : List Expr) (e : Expr)
    → argument_visits around scope ws (exprs_of (es ++ e ∷ []))
    ≡ argument_visits around scope ws (exprs_of es)
    ++ with_role around scope (role.Argument (slice_get ws (length es))) (expr_of e) (parts_of around scope false (expr_of e))
visits_push around scope [] [] e = append-nil _
visits_push around scope (w ∷ ws) [] e = append-nil _
visits_push around scope [] (x ∷ es) e = ap (λ vs. with_role around scope (role.Argument None) (expr_of x) (parts_of around scope false (expr_of x)) ++ vs) (visits_push around scope [] es e) ∙ sym (append_assoc (with_role around scope (role.Argument None) (expr_of x) (parts_of around scope false (expr_of x))) _ _)
visits_push around scope (w ∷ ws) (x ∷ es) e = ap (λ vs. with_role around scope (role.Argument (Some w)) (expr_of x) (parts_of around scope false (expr_of x)) ++ vs) (visits_push around scope ws es e) ∙ sym (append_assoc (with_role around scope (role.Argument (Some w)) (expr_of x) (parts_of around scope false (expr_of x))) _ _)
