-- A call: its arguments one after another, and the call as the tree has it.
use Rattle.std.proofs.Common.{◌≡◌, ℕ, ◌+◌, ◌<◌, Bool, true, false, ◌&&◌, List, [], ◌∷◌, ◌++◌, length, take, get_or, slice_get, Option, refl, sym, ap, ◌∙◌, arith}
use Rattle.std.specs.Global.{Vec}
use Rattle.std.proofs.lemmas.List.{take_more, length-take-le}
use Rattle.vk_kinds.specs.declared.heads.CType.{CType}
use Rattle.vk_ast.specs.declared.names.NameId.{NameId}
use Rattle.vk_ast.specs.declared.expressions.Expr.{Expr}
use Rattle.vk_ast.specs.declared.expressions.ExprKind.TheVariants.{Call}
use Rattle.vk_ast.specs.Tree.{expr_of, exprs_of, kind_of}
use Rattle.vk_ast.proofs.Rows.{call_seen}
use Rattle.vk_rules_book.specs.declared.faults.Fault.{Fault}
use Rattle.vk_rules_book.specs.declared.contexts.Around.{Around}
use Rattle.vk_rules_book.specs.declared.typings.Typing.{Typing}
use Rattle.vk_rules_book.specs.declared.contexts.Role.TheVariants as role
use Rattle.vk_rules_book.specs.Faults.{first_among}
use Rattle.vk_rules_book.specs.Scopes.{Scope, Meaning, meaning_of}
use Rattle.vk_rules_book.specs.Typings.{are_arguments, is_argument, is_typed, typing_of, typings_of, call_typing, wanted_types}
use Rattle.vk_rules_book.specs.Visits.{argument_visits, parts_of, with_role, called}
use Rattle.vk_rules_book.specs.Expressions.{called_faults}
use Rattle.vk_rules_book.specs.Rules.{Subject}
use Rattle.vk_rules_book.specs.Noting.{found}
use Rattle.vk_rules_book.proofs.Noting.{found_append, found_one}
use Rattle.vk_rules_expr.proofs.Arguments.{fits_push, typings_push, length_typings, visits_push}

pub no_arguments : (ws : List CType) → true ≡ are_arguments ws []
unfolding are_arguments
no_arguments [] = refl
no_arguments (w ∷ ws) = refl

module _ (scope : Scope) where
  grown : (es : List Expr) (i : ℕ) (x : Expr) → i < length es → x ≡ get_or es i x → take (i + 1) es ≡ take i es ++ x ∷ []
  grown es i x below is = take_more es i x below ∙ ap (λ y. take i es ++ y ∷ []) (sym is)

  -- whether one argument more fits
  pub next_fits : (ws : List CType) (es : List Expr) (i : ℕ) (x : Expr) (fits next : Bool) (w : Option CType) (t : Typing) → i < length es → x ≡ get_or es i x
      → fits ≡ are_arguments ws (typings_of scope (exprs_of (take i es))) → w ≡ slice_get ws i → t ≡ typing_of scope (expr_of x)
      → next ≡ (fits && (is_typed t && is_argument w t))
      → next ≡ are_arguments ws (typings_of scope (exprs_of (take (i + 1) es)))
  next_fits ws es i x fits next w t below is before wanted typed now =
      now ∙ ap (λ b. b && (is_typed t && is_argument w t)) before
      ∙ ap (λ o. are_arguments ws (typings_of scope (exprs_of (take i es))) && (is_typed t && is_argument o t)) (wanted ∙ ap (slice_get ws) (sym (length_typings scope (take i es) ∙ length-take-le i es (omega (arith, below)))))
      ∙ ap (λ u. are_arguments ws (typings_of scope (exprs_of (take i es))) && (is_typed u && is_argument (slice_get ws (length (typings_of scope (exprs_of (take i es))))) u)) typed
      ∙ sym (ap (λ xs. are_arguments ws (typings_of scope (exprs_of xs))) (grown es i x below is)
      ∙ ap (are_arguments ws) (typings_push scope (take i es) x)
      ∙ fits_push ws (typings_of scope (exprs_of (take i es))) (typing_of scope (expr_of x)))

  module _ (unit : Subject) (around : Around) where
    -- what is noted behind one argument more
    pub next_noted : (ws : List CType) (es : List Expr) (i : ℕ) (x : Expr) (old now next : Option Fault) (w : Option CType) → i < length es → x ≡ get_or es i x
        → now ≡ found unit old (argument_visits around scope ws (exprs_of (take i es))) → w ≡ slice_get ws i
        → next ≡ found unit now (with_role around scope (role.Argument w) (expr_of x) (parts_of around scope false (expr_of x)))
        → next ≡ found unit old (argument_visits around scope ws (exprs_of (take (i + 1) es)))
    next_noted ws es i x old now next w below is before wanted noted =
        noted
        ∙ ap (λ n. found unit n (with_role around scope (role.Argument w) (expr_of x) (parts_of around scope false (expr_of x)))) before
        ∙ ap (λ o. found unit (found unit old (argument_visits around scope ws (exprs_of (take i es)))) (with_role around scope (role.Argument o) (expr_of x) (parts_of around scope false (expr_of x))))
        (wanted ∙ ap (slice_get ws) (sym (length-take-le i es (omega (arith, below)))))
        ∙ sym (ap (λ xs. found unit old (argument_visits around scope ws (exprs_of xs))) (grown es i x below is)
        ∙ ap (found unit old) (visits_push around scope ws (take i es) x)
        ∙ found_append unit old (argument_visits around scope ws (exprs_of (take i es))) _)

    -- what is noted behind a call
    pub call_noted : (addressed : Bool) (id : NameId) (line token : ℕ) (es : Vec Expr) (xs ys : List Expr) (m : Option Meaning) (old now next : Option Fault) → xs ≡ es.items → ys ≡ es.items
        → m ≡ meaning_of scope id → now ≡ found unit old (argument_visits around scope (wanted_types m) (exprs_of xs))
        → next ≡ first_among now (called_faults unit.texts around scope line token id (exprs_of ys))
        → next ≡ found unit old (parts_of around scope addressed (kind_of (Call id es) line token))
    call_noted addressed id line token es xs ys m old now next a b means before noted =
        noted
        ∙ ap (λ zs. first_among now (called_faults unit.texts around scope line token id (exprs_of zs))) b
        ∙ ap (λ n. first_among n (called_faults unit.texts around scope line token id (exprs_of es.items))) (before
        ∙ ap (λ zs. found unit old (argument_visits around scope (wanted_types m) (exprs_of zs))) a
        ∙ ap (λ o. found unit old (argument_visits around scope (wanted_types o) (exprs_of es.items))) means)
        ∙ sym (ap (λ e. found unit old (parts_of around scope addressed e)) (call_seen id line token es)
        ∙ found_append unit old (argument_visits around scope (wanted_types (meaning_of scope id)) (exprs_of es.items)) _
        ∙ found_one unit _ (called around scope line token id (exprs_of es.items)))

  -- the type of a call
  pub call_typed : (id : NameId) (line token : ℕ) (es : Vec Expr) (xs : List Expr) (m : Option Meaning) (t : Typing) → xs ≡ es.items
      → m ≡ meaning_of scope id → t ≡ call_typing m (typings_of scope (exprs_of xs))
      → t ≡ typing_of scope (kind_of (Call id es) line token)
  call_typed id line token es xs m t a means typed =
      typed ∙ ap (λ o. call_typing o (typings_of scope (exprs_of xs))) means
      ∙ ap (λ zs. call_typing (meaning_of scope id) (typings_of scope (exprs_of zs))) a
      ∙ sym (ap (typing_of scope) (call_seen id line token es))
