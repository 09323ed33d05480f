-- Clauses by what stands before them.
use Rattle.std.proofs.Common.{◌≡◌, ℕ, ◌+◌, ◌<◌, Bool, ◌&&◌, ◌||◌, map, List, [], ◌++◌, length, take, get_or, Option, refl, sym, ap, ap₂, ◌∙◌}
use Rattle.vk_ast.specs.declared.directives.PlacedName.{PlacedName}
use Rattle.vk_unit_rules.specs.declared.rules.UnitRule.TheVariants.{C16}
use Rattle.vk_rules_book.specs.declared.faults.Fault.{Fault}
use Rattle.vk_rules_book.specs.Faults.{fault_at, first_among, when}
use Rattle.vk_rules_book.specs.Scopes.{is_long}
use Rattle.std.specs.List.{list_any}
use Rattle.vk_ast.specs.declared.directives.Clause.{Clause}
use Rattle.vk_ast.specs.Directives.{ClauseTree, DirectiveTree, Says, clause_of, says_of}
use Rattle.vk_ast.specs.Units.{FunctionTree}
use Rattle.vk_rules_book.specs.Directives.{all_said_faults, clause_faults, has_wrong_step, is_branch, is_empty, is_simdlen, long_name_faults, names_in, said_faults}
use Rattle.vk_rules_book.specs.Noting.{found}
use Rattle.vk_rules_book.specs.Rules.{Subject}
use Rattle.vk_rules_book.specs.Visits.{clause, clause_visits}
use Rattle.vk_rules_signatures.proofs.Sound.{empty_append}
use Rattle.vk_rules_directives.specs.Inner.Tests.{said_faults_by}
use Rattle.vk_rules_book.proofs.Noting.{among_append, found_append, found_one}
use Rattle.vk_rules_directives.proofs.Pushes.{any_push, clause_push, flat_push, grown, said_push, taken}

-- one name more
pub long_step : (texts : List (List ℕ)) (names : List PlacedName) (k : ℕ) (d : PlacedName) (old before next : Option Fault) → k < length names
    → before ≡ first_among old (long_name_faults texts (take k names))
    → next ≡ first_among before (when (is_long texts (get_or names k d).name) (fault_at (get_or names k d).line (get_or names k d).token C16))
    → next ≡ first_among old (long_name_faults texts (take (k + 1) names))
long_step texts names k d old before next lt told noted =
    let n = get_or names k d in
    let own = when (is_long texts n.name) (fault_at n.line n.token C16) in
    noted ∙ ap (λ o. first_among o own) told
    ∙ sym (ap (λ ns. first_among old (long_name_faults texts ns)) (taken names k d n lt refl)
    ∙ ap (first_among old) (flat_push (λ (n : PlacedName). when (is_long texts n.name) (fault_at n.line n.token C16)) (take k names) n)
    ∙ among_append old (long_name_faults texts (take k names)) own)

-- ---- what a clause breaks

pub said_by : (f : FunctionTree) (d : DirectiveTree) (earlier : List ClauseTree) (c : ClauseTree) (has_simdlen has_branch : Bool)
    → has_simdlen ≡ list_any (λ (e : ClauseTree). is_simdlen e.says) earlier → has_branch ≡ list_any (λ (e : ClauseTree). is_branch e.says) earlier
    → said_faults f d earlier c ≡ said_faults_by has_simdlen has_branch (has_wrong_step f d c.says) d c
unfolding said_faults
said_by f d earlier c has_simdlen has_branch by_simdlen by_branch = ap₂ (λ (s b : Bool). said_faults_by s b (has_wrong_step f d c.says) d c) (sym by_simdlen) (sym by_branch)

with_names : (texts : List (List ℕ)) (f : FunctionTree) (d : DirectiveTree) (earlier : List ClauseTree) (c : ClauseTree)
    → clause_faults texts f d earlier c ≡ said_faults f d earlier c ++ long_name_faults texts (names_in c)
unfolding clause_faults
with_names texts f d earlier c = refl

pub seen_more : (test : Says → Bool) (clauses : List Clause) (k : ℕ) (c : Clause) (old new : Bool) → k < length clauses → c ≡ get_or clauses k c
    → old ≡ list_any (λ (e : ClauseTree). test e.says) (map clause_of (take k clauses)) → new ≡ (old || test (says_of c.kind))
    → new ≡ list_any (λ (e : ClauseTree). test e.says) (map clause_of (take (k + 1) clauses))
seen_more test clauses k c old new lt is so_far more =
    more ∙ ap (λ b. b || test (says_of c.kind)) so_far
    ∙ sym (ap (list_any (λ (e : ClauseTree). test e.says)) (grown clause_of clauses k c lt is) ∙ any_push (λ (e : ClauseTree). test e.says) (map clause_of (take k clauses)) (clause_of c))

pub clauses_noted : (unit : Subject) (f : FunctionTree) (d : DirectiveTree) (clauses : List Clause) (k : ℕ) (c : Clause) (faults : List Fault) (old before next : Option Fault)
    → k < length clauses → c ≡ get_or clauses k c → said_faults f d (map clause_of (take k clauses)) (clause_of c) ≡ faults
    → before ≡ found unit old (clause_visits f d [] (map clause_of (take k clauses)))
    → next ≡ first_among before (faults ++ long_name_faults unit.texts (names_in (clause_of c)))
    → next ≡ found unit old (clause_visits f d [] (map clause_of (take (k + 1) clauses)))
clauses_noted unit f d clauses k c faults old before next lt is are told noted =
    let earlier = map clause_of (take k clauses) in
    noted ∙ ap₂ (λ (o : Option Fault) (xs : List Fault). first_among o (xs ++ long_name_faults unit.texts (names_in (clause_of c)))) told (sym are)
    ∙ ap (first_among (found unit old (clause_visits f d [] earlier))) (sym (with_names unit.texts f d earlier (clause_of c)))
    ∙ sym (ap (λ cs. found unit old (clause_visits f d [] cs)) (grown clause_of clauses k c lt is)
    ∙ ap (found unit old) (clause_push f d [] earlier (clause_of c))
    ∙ found_append unit old (clause_visits f d [] earlier) _
    ∙ found_one unit _ (clause f d earlier (clause_of c)))

pub clauses_sound : (f : FunctionTree) (d : DirectiveTree) (clauses : List Clause) (k : ℕ) (c : Clause) (faults : List Fault) (before : Bool)
    → k < length clauses → c ≡ get_or clauses k c → said_faults f d (map clause_of (take k clauses)) (clause_of c) ≡ faults
    → before ≡ is_empty (all_said_faults f d [] (map clause_of (take k clauses)))
    → (before && is_empty faults) ≡ is_empty (all_said_faults f d [] (map clause_of (take (k + 1) clauses)))
clauses_sound f d clauses k c faults before lt is are told =
    let earlier = map clause_of (take k clauses) in
    ap₂ (λ (b : Bool) (xs : List Fault). b && is_empty xs) told (sym are)
    ∙ sym (ap (λ cs. is_empty (all_said_faults f d [] cs)) (grown clause_of clauses k c lt is)
    ∙ ap is_empty (said_push f d [] earlier (clause_of c))
    ∙ empty_append (all_said_faults f d [] earlier) _)
