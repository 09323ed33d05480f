-- The `return` statements of accepted units are right.
use Rattle.std.proofs.Common.{◌≡◌, ℕ, zero, suc, Bool, true, false, List, [], ◌∷◌, ◌++◌, Contains, Option, Some, None, refl, sym, subst, arith}
use Rattle.std.specs.List.{AllByRecursion}
use Rattle.vk_kinds.specs.declared.heads.CType.{CType}
use Rattle.vk_kinds.specs.declared.heads.CType.TheVariants.{Void, Int, Ptr}
use Rattle.vk_ast.specs.Tree.{Tree}
use Rattle.vk_ast.specs.Statements.{StmtTree, StmtTrees, empty, block, local, assign, value, if_only, if_else, while_loop, do_loop, for_loop, break_loop, continue_loop, return_value, simd, lost, no_stmts, more_stmts}
use Rattle.vk_ast.specs.Units.{FunctionTree, ItemTree, function}
use Rattle.vk_unit_rules.specs.declared.rules.UnitRule.TheVariants.{C15}
use Rattle.vk_rules_book.specs.declared.contexts.Around.{Around}
use Rattle.vk_rules_book.specs.declared.contexts.Role.TheVariants as role
use Rattle.vk_rules_book.specs.Faults.{fault_at}
use Rattle.vk_rules_book.specs.Rules.{Subject}
use Rattle.vk_rules_book.specs.Scopes.{Scope, file_scope, inside, with_params}
use Rattle.vk_rules_book.specs.Statements.{is_wrong_return, statement_faults}
use Rattle.vk_rules_book.specs.Visits.{Visit, after, all_visits, around_body, block_scope, in_loop, optional_visits, stmt_visits, visits_of}
use Rattle.vk_rules.proofs.Quiet.{when_not}
use Rattle.vk_rules_laws.specs.Grammatical.{is_pointer_type as returns_pointer}
use Rattle.vk_rules_laws.proofs.Each.{IsQuiet, back, front}
use Rattle.vk_meaning.specs.Types.{is_pointer_type}
use Rattle.vk_meaning_accepted.specs.Linked.{AreAccepted}
use Rattle.vk_meaning_accepted.proofs.Definitions.{definition_is}
use Rattle.vk_meaning_accepted.proofs.Programs.{body_quiet}
use Rattle.vk_local_calls.specs.Returns.{AllHaveRightReturns, HasRightReturns, HaveRightReturns, IsRightReturn}

right_of : (result : CType) (e : Option Tree) → is_wrong_return result e ≡ false → IsRightReturn result e
right_of result (Some e) h = tt
right_of Void None h = refl
right_of (Int t) None h = cc
right_of (Ptr to written) None h = cc

module _ (unit : Subject) where
  abbrev AreQuiet : List Visit → Type 0
  AreQuiet vs = AllByRecursion (IsQuiet unit) vs

  not_wrong : (a : Around) (s : Scope) (l k : ℕ) (e : Option Tree) → statement_faults unit.texts a s (return_value l k e) ≡ [] → is_wrong_return a.result e ≡ false
  unfolding statement_faults
  not_wrong a s l k e h = when_not (is_wrong_return a.result e) (fault_at l k C15) h

  mutual
    pub stmt_returns : (a : Around) (s : Scope) (shares : Bool) (t : StmtTree) → AreQuiet (stmt_visits a s shares t) → HasRightReturns a.result t
    stmt_returns a s shares (empty l k) q = tt
    stmt_returns a s shares (block l k ss) q = all_returns a (block_scope shares s) ss q.1
    stmt_returns a s shares (local l k t fixed id init) q = tt
    stmt_returns a s shares (assign l k op place operand) q = tt
    stmt_returns a s shares (value l k e) q = tt
    stmt_returns a s shares (if_only l k c first) q =
        stmt_returns a (inside s) false first (back (IsQuiet unit) (visits_of a s role.Value c) (stmt_visits a (inside s) false first) q.1)
    stmt_returns a s shares (if_else l k c first second) q =
        let v = visits_of a s role.Value c in
        let w = stmt_visits a (inside s) false first in
        let x = stmt_visits a (inside s) false second in
        let rest = back (IsQuiet unit) v (w ++ x) q.1 in
        (stmt_returns a (inside s) false first (front (IsQuiet unit) w x rest), stmt_returns a (inside s) false second (back (IsQuiet unit) w x rest))
    stmt_returns a s shares (while_loop l k c body) q =
        stmt_returns (in_loop a) (inside s) false body (back (IsQuiet unit) (visits_of a s role.Value c) (stmt_visits (in_loop a) (inside s) false body) q.1)
    stmt_returns a s shares (do_loop l k body c) q =
        stmt_returns (in_loop a) (inside s) false body (front (IsQuiet unit) (stmt_visits (in_loop a) (inside s) false body) (visits_of a s role.Value c) q.1)
    stmt_returns a s shares (for_loop l k first c third body) q =
        let head = after true (inside s) first in
        let v1 = stmt_visits a (inside s) true first in
        let v2 = optional_visits a head c in
        let v3 = stmt_visits a head false third in
        let v4 = stmt_visits (in_loop a) (inside head) false body in
        let q2 = back (IsQuiet unit) v1 (v2 ++ (v3 ++ v4)) q.1 in
        let q3 = back (IsQuiet unit) v2 (v3 ++ v4) q2 in (
          stmt_returns a (inside s) true first (front (IsQuiet unit) v1 (v2 ++ (v3 ++ v4)) q.1),
          stmt_returns a head false third (front (IsQuiet unit) v3 v4 q3),
          stmt_returns (in_loop a) (inside head) false body (back (IsQuiet unit) v3 v4 q3),
        )
    stmt_returns a s shares (break_loop l k) q = tt
    stmt_returns a s shares (continue_loop l k) q = tt
    stmt_returns a s shares (return_value l k e) q = right_of a.result e (not_wrong a s l k e q.0)
    stmt_returns a s shares (simd l k d body) q = tt
    stmt_returns a s shares (lost l k d) q = tt

    all_returns : (a : Around) (s : Scope) (ts : StmtTrees) → AreQuiet (all_visits a s ts) → AllHaveRightReturns a.result ts
    all_returns a s no_stmts q = tt
    all_returns a s (more_stmts t ts) q =
        let v = stmt_visits a s false t in
        let w = all_visits a (after false s t) ts in
        (stmt_returns a s false t (front (IsQuiet unit) v w q), all_returns a (after false s t) ts (back (IsQuiet unit) v w q))

-- ---- programs

in_middle : (before : List ItemTree) (f : FunctionTree) (behind : List ItemTree) → Contains (before ++ function f ∷ behind) (function f)
in_middle [] f behind = (zero, omega arith, refl)
in_middle (i ∷ before) f behind = let k = in_middle before f behind in (suc k.0, omega (arith, k.1), k.2)

same_test : (t : CType) → returns_pointer t ≡ false → is_pointer_type t ≡ false
same_test Void e = refl
same_test (Int t) e = refl
same_test (Ptr to written) e = cc

pub right_returns : (units : List Subject) (lane : List ℕ → Bool) → AreAccepted units → HaveRightReturns units lane
right_returns units lane accepted = record {
  no_pointer = λ text d l.
      let at = definition_is units text d l.definition in
      same_test d.function.result ((accepted.grammatical d.unit at.unit_in).types.results d.function
      (subst (λ (items : List ItemTree). Contains items (function d.function)) (sym at.found.split) (in_middle at.found.before d.function at.found.behind)));
  body = λ text d l.
      let at = definition_is units text d l.definition in
      let items = at.found.before ++ function d.function ∷ [] in
      stmt_returns d.unit (around_body items d.function) (with_params (file_scope d.unit.texts items) d.function.params) true d.body
      (body_quiet d.unit (accepted.sound d.unit at.unit_in) at.found.before d.function at.found.behind at.found.split d.body at.found.body_is);
}
