-- A block as the tree has it.
use Rattle.std.proofs.Common.{◌≡◌, ℕ, ◌+◌, ◌<◌, Bool, true, false, List, Option, length, take, get_or, sym, ap, ◌∙◌}
use Rattle.std.specs.Global.{Vec}
use Rattle.vk_ast.specs.declared.statements.Stmt.{Stmt}
use Rattle.vk_ast.specs.declared.statements.StmtKind.{StmtKind}
use Rattle.vk_ast.specs.declared.statements.StmtKind.TheVariants.{Block}
use Rattle.vk_ast.specs.Statements.{block, stmt_kind_of, stmt_of, list_stmts}
use Rattle.vk_ast.proofs.Rows.{block_seen}
use Rattle.vk_rules_book.specs.declared.faults.Fault.{Fault}
use Rattle.vk_rules_book.specs.declared.contexts.Around.{Around}
use Rattle.vk_rules_book.specs.Faults.{first_among}
use Rattle.vk_rules_book.specs.Scopes.{Scope}
use Rattle.vk_rules_book.specs.Statements.{statement_faults}
use Rattle.vk_rules_book.specs.Visits.{statement, after, after_all, all_visits, block_scope, stmt_visits}
use Rattle.vk_rules_book.specs.Rules.{Subject}
use Rattle.vk_rules_book.specs.Noting.{found}
use Rattle.vk_rules_book.proofs.Noting.{found_first, found_append}
use Rattle.vk_rules_stmt.proofs.Scopes.{next_visits}

seen : (kind : StmtKind) (l k : ℕ) (ss : Vec Stmt) → kind ≡ Block ss → stmt_kind_of kind l k ≡ block l k (list_stmts ss.items)
seen kind l k ss is = ap (λ (K : StmtKind). stmt_kind_of K l k) is ∙ block_seen l k ss

pub block_after : (shares : Bool) (s t : Scope) (kind : StmtKind) (l k : ℕ) (ss : Vec Stmt) (xs : List Stmt) → kind ≡ Block ss → xs ≡ ss.items → shares ≡ true
    → t ≡ after_all s (list_stmts xs) → t ≡ after shares s (stmt_kind_of kind l k)
block_after shares s t kind l k ss xs is a shared went =
    went ∙ ap (λ zs. after_all s (list_stmts zs)) a ∙ sym (ap (λ b. after b s (stmt_kind_of kind l k)) shared ∙ ap (after true s) (seen kind l k ss is))

module _ (unit : Subject) where
  pub block_noted : (a : Around) (shares b : Bool) (s : Scope) (kind : StmtKind) (l k : ℕ) (ss : Vec Stmt) (xs : List Stmt) (old now next : Option Fault) → kind ≡ Block ss → xs ≡ ss.items → shares ≡ b
      → now ≡ first_among old (statement_faults unit.texts a s (stmt_kind_of kind l k))
      → next ≡ found unit now (all_visits a (block_scope b s) (list_stmts xs))
      → next ≡ found unit old (stmt_visits a s shares (stmt_kind_of kind l k))
  block_noted a shares b s kind l k ss xs old now next is e which before noted =
      noted
      ∙ ap (λ n. found unit n (all_visits a (block_scope b s) (list_stmts xs))) (before ∙ ap (λ t. first_among old (statement_faults unit.texts a s t)) (seen kind l k ss is))
      ∙ ap (λ zs. found unit (first_among old (statement_faults unit.texts a s (block l k (list_stmts ss.items)))) (all_visits a (block_scope b s) (list_stmts zs))) e
      ∙ sym (ap (λ c. found unit old (stmt_visits a s c (stmt_kind_of kind l k))) which
      ∙ ap (λ t. found unit old (stmt_visits a s b t)) (seen kind l k ss is)
      ∙ found_first unit old (statement a s (block l k (list_stmts ss.items))) (all_visits a (block_scope b s) (list_stmts ss.items)))

  -- what is noted behind one statement more
  pub next_noted : (a : Around) (s now : Scope) (ss : List Stmt) (i : ℕ) (x : Stmt) (old before next : Option Fault) → i < length ss → x ≡ get_or ss i x
      → now ≡ after_all s (list_stmts (take i ss)) → before ≡ found unit old (all_visits a s (list_stmts (take i ss)))
      → next ≡ found unit before (stmt_visits a now false (stmt_of x))
      → next ≡ found unit old (all_visits a s (list_stmts (take (i + 1) ss)))
  next_noted a s now ss i x old before next below is went told noted =
      noted ∙ ap (λ n. found unit n (stmt_visits a now false (stmt_of x))) told
      ∙ sym (found_append unit old (all_visits a s (list_stmts (take i ss))) (stmt_visits a now false (stmt_of x)))
      ∙ ap (found unit old) (next_visits a s now ss i x below is went)
