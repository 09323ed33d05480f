-- The expressions of an initialiser one after another.
use Rattle.std.proofs.Common.{◌≡◌, ℕ, ◌+◌, Bool, ◌||◌, is_none, ap₂, ◌<◌, ◌≤◌, List, [], ◌∷◌, ◌++◌, length, map, take, get_or, Option, refl, sym, ap, ◌∙◌, arith}
use Rattle.std.proofs.lemmas.List.{append-nil, append_assoc, length-take-le, length-map, map-append, take_more, take_all}
use Rattle.vk_ast.specs.declared.expressions.Expr.{Expr}
use Rattle.vk_ast.specs.declared.expressions.ExprKind.{ExprKind, Int, Name, Index', Deref', Addr', Unary', Binary', Cond', Cast', Call'}
use Rattle.vk_ast.specs.Tree.{Tree, expr_of, kind_of}
use Rattle.vk_ast.specs.Units.{ObjectTree}
use Rattle.vk_rules_book.specs.declared.contexts.Role.TheVariants as role
use Rattle.vk_rules_book.specs.declared.faults.Fault.{Fault}
use Rattle.vk_rules_book.specs.Faults.{fault_at, first_among, when}
use Rattle.vk_rules_book.specs.Places.{line_of, token_of}
use Rattle.vk_numbers.specs.Constants.{constant_of}
use Rattle.vk_unit_rules.specs.declared.rules.UnitRule.TheVariants.{C11}
use Rattle.vk_rules_book.specs.Items.{initial_faults, is_past, length_of}
use Rattle.vk_rules_book.specs.Noting.{found}
use Rattle.vk_rules_book.specs.Rules.{Subject}
use Rattle.vk_rules_book.specs.Scopes.{Scope}
use Rattle.vk_rules_book.specs.Visits.{at_file_scope, initial, initial_visits, visits_of}
use Rattle.vk_rules_book.proofs.Noting.{found_append, found_first}

visits_push : (s : Scope) (o : ObjectTree) (n : ℕ) (es : List Tree) (e : Tree)
    → initial_visits s o n (es ++ e ∷ []) ≡ initial_visits s o n es ++ (initial o (n + length es) e ∷ visits_of at_file_scope s role.Value e)
visits_push s o n [] e =
    let none : n ≡ n + 0 = omega arith in
    ap (λ vs. initial o n e ∷ vs) (append-nil (visits_of at_file_scope s role.Value e)) ∙ ap (λ k. initial o k e ∷ visits_of at_file_scope s role.Value e) none
visits_push s o n (x ∷ es) e =
    let on : n + 1 + length es ≡ n + length (x ∷ es) = omega arith in
    ap (λ vs. initial o n x ∷ (visits_of at_file_scope s role.Value x ++ vs))
    (visits_push s o (n + 1) es e ∙ ap (λ k. initial_visits s o (n + 1) es ++ (initial o k e ∷ visits_of at_file_scope s role.Value e)) on)
    ∙ ap (λ vs. initial o n x ∷ vs) (sym (append_assoc (visits_of at_file_scope s role.Value x) (initial_visits s o (n + 1) es) _))

-- what is noted behind one expression more
pub next_initial : (unit : Subject) (s : Scope) (o : ObjectTree) (es : List Expr) (k : ℕ) (e : Expr) (old before constant next : Option Fault) → k < length es → e ≡ get_or es k e
    → before ≡ found unit old (initial_visits s o 0 (map expr_of (take k es))) → constant ≡ first_among before (initial_faults o k (expr_of e))
    → next ≡ found unit constant (visits_of at_file_scope s role.Value (expr_of e))
    → next ≡ found unit old (initial_visits s o 0 (map expr_of (take (k + 1) es)))
next_initial unit s o es k e old before constant next lt is told judged noted =
    let len : 0 + length (map expr_of (take k es)) ≡ k = omega (arith, length-map (take k es) expr_of, length-take-le k es (omega (arith, lt))) in
    let more : map expr_of (take (k + 1) es) ≡ map expr_of (take k es) ++ expr_of e ∷ [] =
    ap (map expr_of) (take_more es k e lt ∙ ap (λ x. take k es ++ x ∷ []) (sym is)) ∙ map-append expr_of (take k es) (e ∷ []) in
    noted ∙ ap (λ o'. found unit o' (visits_of at_file_scope s role.Value (expr_of e))) (judged ∙ ap (λ b. first_among b (initial_faults o k (expr_of e))) told)
    ∙ sym (ap (λ xs. found unit old (initial_visits s o 0 xs)) more
    ∙ ap (found unit old) (visits_push s o 0 (map expr_of (take k es)) (expr_of e) ∙ ap (λ n. initial_visits s o 0 (map expr_of (take k es)) ++ (initial o n (expr_of e) ∷ visits_of at_file_scope s role.Value (expr_of e))) len)
    ∙ found_append unit old (initial_visits s o 0 (map expr_of (take k es))) _
    ∙ found_first unit (found unit old (initial_visits s o 0 (map expr_of (take k es)))) (initial o k (expr_of e)) (visits_of at_file_scope s role.Value (expr_of e)))

pub all_initials : (unit : Subject) (s : Scope) (o : ObjectTree) (es : List Expr) (k : ℕ) (old now : Option Fault) → length es ≤ k
    → now ≡ found unit old (initial_visits s o 0 (map expr_of (take k es))) → now ≡ found unit old (initial_visits s o 0 (map expr_of es))
all_initials unit s o es k old now past told = told ∙ ap (λ xs. found unit old (initial_visits s o 0 (map expr_of xs))) (take_all k es past)

-- ---- one expression

kind_line : (kind : ExprKind) (l k : ℕ) → line_of (kind_of kind l k) ≡ l
kind_line (Int a b) l k = refl
kind_line (Name a) l k = refl
kind_line (Index' a b c d e f g h) l k = refl
kind_line (Deref' a b c d) l k = refl
kind_line (Addr' a b c d) l k = refl
kind_line (Unary' a b c d e) l k = refl
kind_line (Binary' a b c d e f g h i) l k = refl
kind_line (Cond' a b c d e f g h i j m n) l k = refl
kind_line (Cast' a b c d e) l k = refl
kind_line (Call' id shape row) l k = refl

kind_token : (kind : ExprKind) (l k : ℕ) → token_of (kind_of kind l k) ≡ k
kind_token (Int a b) l k = refl
kind_token (Name a) l k = refl
kind_token (Index' a b c d e f g h) l k = refl
kind_token (Deref' a b c d) l k = refl
kind_token (Addr' a b c d) l k = refl
kind_token (Unary' a b c d e) l k = refl
kind_token (Binary' a b c d e f g h i) l k = refl
kind_token (Cond' a b c d e f g h i j m n) l k = refl
kind_token (Cast' a b c d e) l k = refl
kind_token (Call' id shape row) l k = refl

pub judged_initial : (o : ObjectTree) (n : ℕ) (e : Expr) (len : Option ℕ) (wrong : Bool) (fault : Fault) (old new : Option Fault) → len ≡ length_of o
    → wrong ≡ (is_none (constant_of (expr_of e)) || is_past n len) → fault ≡ fault_at e.line e.token C11 → new ≡ first_among old (when wrong fault)
    → new ≡ first_among old (initial_faults o n (expr_of e))
unfolding initial_faults
judged_initial o n e len wrong fault old new known told at noted =
    noted
    ∙ ap₂ (λ (b : Bool) (f : Fault). first_among old (when b f)) (told ∙ ap (λ (m : Option ℕ). is_none (constant_of (expr_of e)) || is_past n m) known)
    (at ∙ ap₂ (λ (l k : ℕ). fault_at l k C11) (sym (kind_line e.kind e.line e.token)) (sym (kind_token e.kind e.line e.token)))
