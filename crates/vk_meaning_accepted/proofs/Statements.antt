-- Statements in the body of a function with directives are tame.
use Rattle.std.proofs.Common.{◌≡◌, ℕ, ◌+◌, Bool, true, false, List, [], ◌++◌, refl}
use Rattle.std.specs.List.{AllByRecursion}
use Rattle.vk_kinds.specs.declared.heads.CType.TheVariants.{Int}
use Rattle.vk_ast.specs.declared.names.NameId.{NameId}
use Rattle.vk_ast.specs.Directives.{DirectiveTree}
use Rattle.vk_ast.specs.Statements.{StmtTree, StmtTrees, empty, block, local, assign, value, if_only, if_else, while_loop, do_loop, for_loop, break_loop, continue_loop, return_value, simd, lost, no_stmts, more_stmts}
use Rattle.vk_unit_rules.specs.declared.rules.UnitRule.TheVariants.{D15}
use Rattle.vk_rules_book.specs.declared.contexts.Around.{Around}
use Rattle.vk_rules_book.specs.declared.contexts.Role.TheVariants as role
use Rattle.vk_rules_book.specs.Expressions.{is_simd}
use Rattle.vk_rules_book.specs.Faults.{fault_with}
use Rattle.vk_rules_book.specs.Rules.{Subject}
use Rattle.vk_rules_book.specs.Scopes.{Scope, inside, with_binding}
use Rattle.vk_rules_book.specs.Statements.{statement_faults}
use Rattle.vk_rules_book.specs.Visits.{Visit, after, all_visits, block_scope, in_loop, optional_visits, stmt_visits, visits_of}
use Rattle.vk_rules.proofs.Quiet.{when_not}
use Rattle.vk_rules_laws.proofs.Each.{IsQuiet, back, front}
use Rattle.vk_meaning.specs.Points.{Point, behind, branch_point, head_point, loops_in, past}
use Rattle.vk_meaning_laws.specs.Tame.{AreTameStmts, IsTameStmt}
use Rattle.vk_meaning_accepted.proofs.LaneScopes.{IsLaneScope, after_lane, block_lane, inside_lane, more_lane}
use Rattle.vk_meaning_accepted.proofs.Expressions.{optional_tame, target_tame, visits_tame}
use Rattle.vk_meaning_accepted.proofs.Tame.{not_both}

module _ (unit : Subject) (lane : NameId → Bool) where
  abbrev AreQuiet : List Visit → Type 0
  AreQuiet vs = AllByRecursion (IsQuiet unit) vs

  no_simd : (a : Around) (s : Scope) (l k : ℕ) (d : DirectiveTree) (body : StmtTree) → statement_faults unit.texts a s (simd l k d body) ≡ [] → is_simd a ≡ false
  unfolding statement_faults
  no_simd a s l k d body e = when_not (is_simd a) (fault_with d.line d.token D15 a.directive) e

  mutual
    pub stmt_tame : (a : Around) → is_simd a ≡ true → (p : Point) (t : StmtTree) → IsLaneScope lane p.scope → AreQuiet (stmt_visits a p.scope p.shares t) → IsTameStmt lane p t
    stmt_tame a h p (empty l k) f q = tt
    stmt_tame a h p (block l k ss) f q = all_tame a h (block_scope p.shares p.scope) p.loops ss (block_lane lane p.shares p.scope f) q.1
    stmt_tame a h p (local l k t fixed id init) f q = optional_tame unit a h lane (with_binding p.scope id (Int t) fixed) (more_lane lane p.scope id t fixed f) init q.1
    stmt_tame a h p (assign l k op place operand) f q =
        let v = visits_of a p.scope role.Place place in
        let w = visits_of a p.scope role.Value operand in
        (target_tame unit a h lane p.scope f place (front (IsQuiet unit) v w q.1), visits_tame unit a h lane p.scope f role.Value operand refl (back (IsQuiet unit) v w q.1))
    stmt_tame a h p (value l k e) f q = visits_tame unit a h lane p.scope f role.Whole e refl q.1
    stmt_tame a h p (if_only l k c first) f q =
        let v = visits_of a p.scope role.Value c in
        let w = stmt_visits a (inside p.scope) false first in (
          visits_tame unit a h lane p.scope f role.Value c refl (front (IsQuiet unit) v w q.1),
          stmt_tame a h (branch_point p) first (inside_lane lane p.scope f) (back (IsQuiet unit) v w q.1),
        )
    stmt_tame a h p (if_else l k c first second) f q =
        let v = visits_of a p.scope role.Value c in
        let w = stmt_visits a (inside p.scope) false first in
        let x = stmt_visits a (inside p.scope) false second in
        let rest = back (IsQuiet unit) v (w ++ x) q.1 in (
          visits_tame unit a h lane p.scope f role.Value c refl (front (IsQuiet unit) v (w ++ x) q.1),
          stmt_tame a h (branch_point p) first (inside_lane lane p.scope f) (front (IsQuiet unit) w x rest),
          stmt_tame a h (branch_point (past (loops_in first) p)) second (inside_lane lane p.scope f) (back (IsQuiet unit) w x rest),
        )
    stmt_tame a h p (while_loop l k c body) f q =
        let v = visits_of a p.scope role.Value c in
        let w = stmt_visits (in_loop a) (inside p.scope) false body in (
          visits_tame unit a h lane p.scope f role.Value c refl (front (IsQuiet unit) v w q.1),
          stmt_tame (in_loop a) h (branch_point p) body (inside_lane lane p.scope f) (back (IsQuiet unit) v w q.1),
        )
    stmt_tame a h p (do_loop l k body c) f q =
        let v = visits_of a p.scope role.Value c in
        let w = stmt_visits (in_loop a) (inside p.scope) false body in (
          stmt_tame (in_loop a) h (branch_point p) body (inside_lane lane p.scope f) (front (IsQuiet unit) w v q.1),
          visits_tame unit a h lane p.scope f role.Value c refl (back (IsQuiet unit) w v q.1),
        )
    stmt_tame a h p (for_loop l k first c third body) f q =
        let head = after true (inside p.scope) first in
        let fh = after_lane lane true (inside p.scope) first (inside_lane lane p.scope f) in
        let v1 = stmt_visits a (inside p.scope) true first in
        let v2 = optional_visits a head c in
        let v3 = stmt_visits a head false third in
        let v4 = stmt_visits (in_loop a) (inside head) false body in
        let q2 = back (IsQuiet unit) v1 (v2 ++ (v3 ++ v4)) q.1 in
        let q3 = back (IsQuiet unit) v2 (v3 ++ v4) q2 in (
          stmt_tame a h (head_point p) first (inside_lane lane p.scope f) (front (IsQuiet unit) v1 (v2 ++ (v3 ++ v4)) q.1),
          optional_tame unit a h lane head fh c (front (IsQuiet unit) v2 (v3 ++ v4) q2),
          stmt_tame a h (behind (head_point p) first) third fh (front (IsQuiet unit) v3 v4 q3),
          stmt_tame (in_loop a) h (branch_point (behind (head_point p) first)) body (inside_lane lane head fh) (back (IsQuiet unit) v3 v4 q3),
        )
    stmt_tame a h p (break_loop l k) f q = tt
    stmt_tame a h p (continue_loop l k) f q = tt
    stmt_tame a h p (return_value l k e) f q = optional_tame unit a h lane p.scope f e q.1
    stmt_tame a h p (simd l k d body) f q = not_both (is_simd a) (no_simd a p.scope l k d body q.0) h
    stmt_tame a h p (lost l k d) f q = tt

    -- statements of a block, before which stand so many simd loops
    pub all_tame : (a : Around) → is_simd a ≡ true → (s : Scope) (loops : ℕ) (ts : StmtTrees) → IsLaneScope lane s → AreQuiet (all_visits a s ts)
        → AreTameStmts lane (record { scope = s; shares = false; loops = loops }) ts
    all_tame a h s loops no_stmts f q = tt
    all_tame a h s loops (more_stmts t ts) f q =
        let v = stmt_visits a s false t in
        let w = all_visits a (after false s t) ts in (
          stmt_tame a h (record { scope = s; shares = false; loops = loops }) t f (front (IsQuiet unit) v w q),
          all_tame a h (after false s t) (loops + loops_in t) ts (after_lane lane false s t f) (back (IsQuiet unit) v w q),
        )
