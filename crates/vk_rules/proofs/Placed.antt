-- A step that is a parameter's names a uniform one: no name is listed twice by `uniform` and `linear`.
use Rattle.std.proofs.Common.{◌≡◌, ℕ, suc, ◌+◌, ◌≤◌, Bool, true, false, cond, ◌&&◌, ◌||◌, not, nat_le, length, map, List, [], ◌∷◌, ◌++◌, Option, Some, None, is_none, is_some, slice_get, unwrap_or, ℤ, pos, refl, sym, ap, subst, ◌∙◌, arith}
use Rattle.std.specs.Ordering.{int_eq}
use Rattle.std.specs.List.{AllByRecursion, list_all, list_any}
use Rattle.std.specs.Option.{option_map}
use Rattle.std.proofs.lemmas.List.{append-nil, append_assoc, length-map}
use Rattle.std.proofs.lemmas.List.Folds.{list_any-append}
use Rattle.std.proofs.lemmas.Option.{slice_get-map}
use Rattle.vk_types.specs.declared.types.Ty.{Ty}
use Rattle.vk_kinds.specs.declared.kinds.Kind.{Kind}
use Rattle.vk_kinds.specs.declared.kinds.Kind.TheVariants.{Uniform, Linear}
use Rattle.vk_kinds.specs.declared.kinds.Param.{Param}
use Rattle.vk_kinds.specs.declared.kinds.Step.TheVariants.{One, By}
use Rattle.vk_names.specs.Spelling.{IsWritten, in_decimal, is_placed, is_uniform_param, step_is_placed, step_of as step_in}
use Rattle.vk_variants.specs.Directives.{IsNamed}
use Rattle.vk_unit_rules.specs.declared.rules.UnitRule.{UnitRule}
use Rattle.vk_unit_rules.specs.declared.rules.UnitRule.TheVariants.{D2, D3, D8, D13, D14}
use Rattle.vk_ast.specs.declared.directives.PlacedName.{PlacedName}
use Rattle.vk_ast.specs.declared.items.ParamDecl.{ParamDecl}
use Rattle.vk_ast.specs.declared.names.NameId.{NameId}
use Rattle.vk_ast.specs.Tree.{Tree}
use Rattle.vk_ast.specs.Directives.{ClauseTree, DirectiveTree, Says, simdlen, uniform, aligned, linear, inside, outside, other}
use Rattle.vk_ast.specs.Units.{FunctionTree}
use Rattle.vk_numbers.specs.Constants.{constant_of}
use Rattle.vk_rules_book.specs.declared.faults.Fault.{Fault}
use Rattle.vk_rules_book.specs.declared.lists.Entry.{Entry}
use Rattle.vk_rules_book.specs.Faults.{directive_fault, when}
use Rattle.vk_rules_book.specs.Scopes.{same_name}
use Rattle.vk_rules_book.specs.Directives.{all_entry_faults, all_said_faults, entry_faults, has_signature, is_aligned, is_empty, is_listed, is_pointer_param, is_uniform_list, is_written_param}
use Rattle.vk_rules_book.specs.Signatures.{StepTree, constant, by_parameter, no_step, constant_step, is_in_uniform, is_integer, is_named, is_uniform, kind_in, kind_said, lists, named_step, number_of, param_of, param_signature, pointee_of, scaled, signature_of, step_of, written_step}
use Rattle.vk_rules_book.specs.Visits.{entries_of, entries_said}
use Rattle.vk_rules.proofs.Quiet.{quiet_left, quiet_right, when_not}
use Rattle.vk_rules.proofs.Ranges.{AreRight, align_fits, all_right, integer_there, kind_fits, lanes_fit, never_both, or_other, or_some, same_id}
use Rattle.vk_rules.proofs.Tests.{both_left, both_right}

-- ---- names are listed once

-- `uniform` or `linear` lists the name
abbrev lists_value : NameId → Entry → Bool
lists_value id e = same_name e.name id && not (is_aligned e.listed)

once : (f : FunctionTree) (d : DirectiveTree) (earlier : List Entry) (e : Entry) → entry_faults f d earlier e ≡ [] → (not (is_aligned e.listed) && is_listed false earlier e.name) ≡ false
unfolding entry_faults
once f d earlier e quiet =
    let told : UnitRule → Fault = directive_fault d e.token in
    let unknown : List Fault = when (is_none (param_of f.params e.name)) (told D2) in
    let second : List Fault = when (not (is_aligned e.listed) && is_listed false earlier e.name) (told D3) in
    let rest : List Fault =
    when (is_aligned e.listed && (is_some (param_of f.params e.name) && not (is_pointer_param (param_of f.params e.name)))) (told D8)
    ++ (when (is_aligned e.listed && is_listed true earlier e.name) (told D13)
    ++ when (is_uniform_list e.listed && is_written_param (param_of f.params e.name)) (told D14)) in
    when_not (not (is_aligned e.listed) && is_listed false earlier e.name) (told D3) (quiet_left second rest (quiet_right unknown (second ++ rest) quiet))

not_again : (a b c : Bool) → a ≡ true → (a && b) ≡ false → b ≡ true → ⊥
not_again true b c t e h = never_both b h e
not_again false b c t e h = cc

listed_here : (id : NameId) (earlier : List Entry) (e : Entry) → (not (is_aligned e.listed) && is_listed false earlier e.name) ≡ false → is_listed false earlier id ≡ true → lists_value id e ≡ true → ⊥
listed_here id earlier e quiet there here =
    not_again (not (is_aligned e.listed)) (is_listed false earlier e.name) false (both_right (same_name e.name id) (not (is_aligned e.listed)) here) quiet
    (ap (is_listed false earlier) (same_id e.name id (both_left (same_name e.name id) (not (is_aligned e.listed)) here)) ∙ there)

false_of : (b : Bool) → (b ≡ true → ⊥) → b ≡ false
false_of true h = absurd (h refl)
false_of false h = refl

neither : (a b : Bool) → a ≡ false → b ≡ false → (a || b) ≡ false
neither true b p q = p
neither false b p q = q

none_again : (f : FunctionTree) (d : DirectiveTree) (id : NameId) (earlier es : List Entry) → all_entry_faults f d earlier es ≡ [] → is_listed false earlier id ≡ true → list_any (lists_value id) es ≡ false
none_again f d id earlier [] quiet there = refl
none_again f d id earlier (e ∷ es) quiet there =
    neither (lists_value id e) (list_any (lists_value id) es)
    (false_of (lists_value id e) (listed_here id earlier e (once f d earlier e (quiet_left (entry_faults f d earlier e) _ quiet)) there))
    (none_again f d id (earlier ++ e ∷ []) es (quiet_right (entry_faults f d earlier e) _ quiet)
    (list_any-append _ earlier (e ∷ []) ∙ or_some (is_listed false earlier id) _ there))

behind_quiet : (f : FunctionTree) (d : DirectiveTree) (earlier xs ys : List Entry) → all_entry_faults f d earlier (xs ++ ys) ≡ [] → all_entry_faults f d (earlier ++ xs) ys ≡ []
behind_quiet f d earlier [] ys quiet = ap (λ (es : List Entry). all_entry_faults f d es ys) (append-nil earlier) ∙ quiet
behind_quiet f d earlier (x ∷ xs) ys quiet =
    ap (λ (es : List Entry). all_entry_faults f d es ys) (sym (append_assoc earlier (x ∷ []) xs))
    ∙ behind_quiet f d (earlier ++ x ∷ []) xs ys (quiet_right (entry_faults f d earlier x) _ quiet)

-- ---- what a clause lists

with_true : (a b : Bool) → a ≡ true → b ≡ true → (a && b) ≡ true
with_true true b p q = q
with_true false b p q = p

either_as : (a b c e : Bool) → (a ≡ true → c ≡ true) → (b ≡ true → e ≡ true) → (a || b) ≡ true → (c || e) ≡ true
either_as true b c e p q h = or_some c e (p refl)
either_as false b c e p q h = or_other c e (q h)

uniform_lists : (id : NameId) (names : List PlacedName) → lists id names ≡ true → list_any (lists_value id) (entries_said (uniform names)) ≡ true
uniform_lists id [] h = h
uniform_lists id (n ∷ names) h =
    either_as (same_name n.name id) (lists id names) (same_name n.name id && true) _ (λ e. with_true (same_name n.name id) true e refl) (λ e. uniform_lists id names e) h

linear_lists : (id : NameId) (names : List PlacedName) → lists id names ≡ true → list_any (lists_value id) (entries_said (linear names None None)) ≡ true
linear_lists id [] h = h
linear_lists id (n ∷ names) h =
    either_as (same_name n.name id) (lists id names) (same_name n.name id && true) _ (λ e. with_true (same_name n.name id) true e refl) (λ e. linear_lists id names e) h

in_uniform : (id : NameId) (says : Says) → is_in_uniform id says ≡ true → list_any (lists_value id) (entries_said says) ≡ true
in_uniform id (simdlen e) h = cc
in_uniform id (uniform names) h = uniform_lists id names h
in_uniform id (aligned names e) h = cc
in_uniform id (linear names m e) h = cc
in_uniform id inside h = cc
in_uniform id outside h = cc
in_uniform id other h = cc

among_entries : (id : NameId) (cs : List ClauseTree) → list_any (λ (c : ClauseTree). is_in_uniform id c.says) cs ≡ true → list_any (lists_value id) (entries_of cs) ≡ true
among_entries id [] h = h
among_entries id (c ∷ cs) h =
    list_any-append (lists_value id) (entries_said c.says) (entries_of cs)
    ∙ either_as (is_in_uniform id c.says) _ (list_any (lists_value id) (entries_said c.says)) (list_any (lists_value id) (entries_of cs)) (λ e. in_uniform id c.says e) (λ e. among_entries id cs e) h

-- ---- a uniform parameter is uniform

chosen_uniform : (b : Bool) (rest : Kind) (behind : Bool) → (behind ≡ true → rest ≡ Uniform) → (b || behind) ≡ true → unwrap_or (cond b (Some Uniform) None) rest ≡ Uniform
chosen_uniform true rest behind h e = refl
chosen_uniform false rest behind h e = h e

never_linear : (b : Bool) (k rest : Kind) (behind : Bool) → (behind ≡ true → rest ≡ Uniform) → (b ≡ true → behind ≡ true → ⊥) → behind ≡ true → unwrap_or (cond b (Some k) None) rest ≡ Uniform
never_linear true k rest behind h apart e = absurd (apart refl e)
never_linear false k rest behind h apart e = h e

clause_uniform : (f : FunctionTree) (d : DirectiveTree) (id : NameId) (says : Says) (rest : Kind) (behind : Bool) → (behind ≡ true → rest ≡ Uniform)
    → (list_any (lists_value id) (entries_said says) ≡ true → behind ≡ true → ⊥) → (is_in_uniform id says || behind) ≡ true → unwrap_or (kind_said f d id says) rest ≡ Uniform
clause_uniform f d id (simdlen e) rest behind h apart u = h u
clause_uniform f d id (uniform names) rest behind h apart u = chosen_uniform (lists id names) rest behind h u
clause_uniform f d id (aligned names e) rest behind h apart u = h u
clause_uniform f d id (linear names m e) rest behind h apart u =
    never_linear (lists id names) (Linear (written_step (pointee_of f.params id) (step_of f d e))) rest behind h (λ b t. apart (linear_lists id names b) t) u
clause_uniform f d id inside rest behind h apart u = h u
clause_uniform f d id outside rest behind h apart u = h u
clause_uniform f d id other rest behind h apart u = h u

stays_uniform : (f : FunctionTree) (d : DirectiveTree) (id : NameId) (earlier : List Entry) (cs : List ClauseTree) → all_entry_faults f d earlier (entries_of cs) ≡ []
    → list_any (λ (c : ClauseTree). is_in_uniform id c.says) cs ≡ true → kind_in f d id cs ≡ Uniform
unfolding kind_in
stays_uniform f d id earlier [] quiet u = cc
stays_uniform f d id earlier (c ∷ cs) quiet u =
    let behind = behind_quiet f d earlier (entries_said c.says) (entries_of cs) quiet in
    clause_uniform f d id c.says (kind_in f d id cs) (list_any (λ (x : ClauseTree). is_in_uniform id x.says) cs)
    (λ h. stays_uniform f d id (earlier ++ entries_said c.says) cs behind h)
    (λ here there. never_both (list_any (lists_value id) (entries_of cs)) (among_entries id cs there)
    (none_again f d id (earlier ++ entries_said c.says) (entries_of cs) behind (list_any-append _ earlier (entries_said c.says) ∙ or_other (is_listed false earlier id) _ here)))
    u

uniform_is : (f : FunctionTree) (d : DirectiveTree) (id : NameId) → all_entry_faults f d [] (entries_of d.clauses) ≡ [] → is_uniform d id ≡ true → kind_in f d id d.clauses ≡ Uniform
unfolding is_uniform
uniform_is f d id quiet u = stays_uniform f d id [] d.clauses quiet u

-- ---- the parameter with a number

named_is : (id : NameId) (p : ParamDecl) → is_named id p ≡ true → p.name ≡ Some id
named_is id p = elim p.name as (λ (o : Option NameId). is_named id (record p { name = o }) ≡ true → o ≡ Some id) [
  | None ↦ λ h. cc
  | Some own ↦ λ h. ap (λ (i : NameId). Some i) (same_id own id h)
]

found_at : (b : Bool) (id : NameId) (p : ParamDecl) (ps : List ParamDecl) (n : ℕ) (o : Option ParamDecl) → is_named id p ≡ b
    → (is_some o ≡ true → (q : ParamDecl) × (slice_get ps n ≡ Some q) × (q.name ≡ Some id)) → is_some (cond b (Some p) o) ≡ true
    → (q : ParamDecl) × (slice_get (p ∷ ps) (cond b 0 (suc n)) ≡ Some q) × (q.name ≡ Some id)
found_at true id p ps n o same rest e = (p, refl, named_is id p same)
found_at false id p ps n o same rest e = rest e

param_at : (ps : List ParamDecl) (id : NameId) → is_some (param_of ps id) ≡ true → (q : ParamDecl) × (slice_get ps (number_of ps id) ≡ Some q) × (q.name ≡ Some id)
unfolding param_of number_of
param_at [] id e = cc
param_at (p ∷ ps) id e =
    let next : 1 + number_of ps id ≡ suc (number_of ps id) = omega arith in
    subst (λ (n : ℕ). (q : ParamDecl) × (slice_get (p ∷ ps) (cond (is_named id p) 0 n) ≡ Some q) × (q.name ≡ Some id)) (sym next)
    (found_at (is_named id p) id p ps (number_of ps id) (param_of ps id) refl (λ h. param_at ps id h) e)

abbrev signed : FunctionTree → DirectiveTree → List Param
signed f d = map (λ (p : ParamDecl). param_signature f d p.name) f.params

uniform_at : (f : FunctionTree) (d : DirectiveTree) (id : NameId) → all_entry_faults f d [] (entries_of d.clauses) ≡ [] → is_integer (param_of f.params id) ≡ true → is_uniform d id ≡ true
    → is_uniform_param (slice_get (signed f d) (number_of f.params id)) ≡ true
uniform_at f d id quiet whole u =
    let there = param_at f.params id (integer_there (param_of f.params id) whole) in
    ap is_uniform_param (slice_get-map (λ (p : ParamDecl). param_signature f d p.name) f.params (number_of f.params id) ∙ ap (option_map (λ (p : ParamDecl). param_signature f d p.name)) there.1)
    ∙ ap (λ (name : Option NameId). is_uniform_param (Some (param_signature f d name))) there.2
    ∙ ap (λ (k : Kind). let q : Param = record { kind = k; align = (param_signature f d (Some id)).align } in is_uniform_param (Some q)) (uniform_is f d id quiet u)

-- ---- steps

abbrev IsPlacedStep : List Param → StepTree → Type 0
IsPlacedStep params (constant z) = Unit {0}
IsPlacedStep params (by_parameter n) = is_uniform_param (slice_get params n) ≡ true
IsPlacedStep params no_step = Unit {0}

named_placed : (f : FunctionTree) (d : DirectiveTree) (id : NameId) (b : Bool) → all_entry_faults f d [] (entries_of d.clauses) ≡ [] → (is_integer (param_of f.params id) && is_uniform d id) ≡ b
    → IsPlacedStep (signed f d) (cond b (by_parameter (number_of f.params id)) no_step)
named_placed f d id true quiet e =
    uniform_at f d id quiet (both_left (is_integer (param_of f.params id)) (is_uniform d id) e) (both_right (is_integer (param_of f.params id)) (is_uniform d id) e)
named_placed f d id false quiet e = tt

tree_placed : (f : FunctionTree) (d : DirectiveTree) (e : Tree) → all_entry_faults f d [] (entries_of d.clauses) ≡ [] → IsPlacedStep (signed f d) (named_step f d e)
tree_placed f d (Tree.int l k t n) quiet = tt
tree_placed f d (Tree.name l k id) quiet = named_placed f d id (is_integer (param_of f.params id) && is_uniform d id) quiet refl
tree_placed f d (Tree.index l k b s) quiet = tt
tree_placed f d (Tree.deref l k e) quiet = tt
tree_placed f d (Tree.addr l k e) quiet = tt
tree_placed f d (Tree.unary l k op e) quiet = tt
tree_placed f d (Tree.binary l k op a b) quiet = tt
tree_placed f d (Tree.choice l k c a b) quiet = tt
tree_placed f d (Tree.cast l k t e) quiet = tt
tree_placed f d (Tree.call l k id es) quiet = tt

constant_placed : (params : List Param) (o : Option ℤ) (s : StepTree) → IsPlacedStep params s → IsPlacedStep params (constant_step o s)
constant_placed params None s h = h
constant_placed params (Some z) s h = tt

step_placed : (f : FunctionTree) (d : DirectiveTree) (e : Option Tree) → all_entry_faults f d [] (entries_of d.clauses) ≡ [] → IsPlacedStep (signed f d) (step_of f d e)
unfolding step_of
step_placed f d None quiet = tt
step_placed f d (Some e) quiet = constant_placed (signed f d) (constant_of e) (named_step f d e) (tree_placed f d e quiet)

by_placed : (params : List Param) (b : Bool) (z : ℤ) → step_is_placed params (Some (cond b One (By z))) ≡ true
by_placed params true z = refl
by_placed params false z = refl

written_placed : (params : List Param) (to : Option Ty) (s : StepTree) → IsPlacedStep params s → step_is_placed params (Some (written_step to s)) ≡ true
written_placed params to (constant z) h = by_placed params (int_eq (scaled to z) (pos 1)) (scaled to z)
written_placed params to (by_parameter n) h = h
written_placed params to no_step h = refl

-- ---- kinds

cond_placed : (params : List Param) (b : Bool) (k rest : Kind) → step_is_placed params (step_in k) ≡ true → step_is_placed params (step_in rest) ≡ true
    → step_is_placed params (step_in (unwrap_or (cond b (Some k) None) rest)) ≡ true
cond_placed params true k rest h r = h
cond_placed params false k rest h r = r

clause_placed : (f : FunctionTree) (d : DirectiveTree) (id : NameId) (says : Says) (rest : Kind) → all_entry_faults f d [] (entries_of d.clauses) ≡ [] → step_is_placed (signed f d) (step_in rest) ≡ true
    → step_is_placed (signed f d) (step_in (unwrap_or (kind_said f d id says) rest)) ≡ true
clause_placed f d id (simdlen e) rest quiet h = h
clause_placed f d id (uniform names) rest quiet h = cond_placed (signed f d) (lists id names) Uniform rest refl h
clause_placed f d id (aligned names e) rest quiet h = h
clause_placed f d id (linear names m e) rest quiet h =
    cond_placed (signed f d) (lists id names) (Linear (written_step (pointee_of f.params id) (step_of f d e))) rest (written_placed (signed f d) (pointee_of f.params id) (step_of f d e) (step_placed f d e quiet)) h
clause_placed f d id inside rest quiet h = h
clause_placed f d id outside rest quiet h = h
clause_placed f d id other rest quiet h = h

kind_placed : (f : FunctionTree) (d : DirectiveTree) (id : NameId) (cs : List ClauseTree) → all_entry_faults f d [] (entries_of d.clauses) ≡ [] → step_is_placed (signed f d) (step_in (kind_in f d id cs)) ≡ true
unfolding kind_in
kind_placed f d id [] quiet = refl
kind_placed f d id (c ∷ cs) quiet = clause_placed f d id c.says (kind_in f d id cs) quiet (kind_placed f d id cs quiet)

param_placed : (f : FunctionTree) (d : DirectiveTree) (name : Option NameId) → all_entry_faults f d [] (entries_of d.clauses) ≡ [] → is_placed (signed f d) (param_signature f d name) ≡ true
param_placed f d None quiet = refl
param_placed f d (Some id) quiet = kind_placed f d id d.clauses quiet

all_placed : (f : FunctionTree) (d : DirectiveTree) (ps : List ParamDecl) → all_entry_faults f d [] (entries_of d.clauses) ≡ []
    → list_all (is_placed (signed f d)) (map (λ (p : ParamDecl). param_signature f d p.name) ps) ≡ true
all_placed f d [] quiet = refl
all_placed f d (p ∷ ps) quiet = with_true (is_placed (signed f d) (param_signature f d p.name)) _ (param_placed f d p.name quiet) (all_placed f d ps quiet)

param_written : (f : FunctionTree) (d : DirectiveTree) (name : Option NameId) → length f.params ≤ 64 → AreRight f d d.clauses → IsWritten (in_decimal (param_signature f d name))
param_written f d None few right = record { step = tt; align = tt }
param_written f d (Some id) few right = record { step = kind_fits f d id d.clauses few right; align = align_fits f d id d.clauses right }

all_written : (f : FunctionTree) (d : DirectiveTree) (ps : List ParamDecl) → length f.params ≤ 64 → AreRight f d d.clauses
    → AllByRecursion IsWritten (map in_decimal (map (λ (p : ParamDecl). param_signature f d p.name) ps))
all_written f d [] few right = tt
all_written f d (p ∷ ps) few right = (param_written f d p.name few right, all_written f d ps few right)

-- ---- signatures

empty_is : (xs : List Fault) → is_empty xs ≡ true → xs ≡ []
empty_is [] e = refl
empty_is (x ∷ xs) e = cc

-- what a directive says that breaks no rule is within the ranges of names
pub signature_named : (f : FunctionTree) (d : DirectiveTree) → length f.params ≤ 64 → has_signature f d ≡ true → IsNamed (signature_of f d)
unfolding has_signature signature_of
signature_named f d few h =
    let both = both_right (nat_le (length f.params) 64) (is_empty (all_said_faults f d [] d.clauses) && is_empty (all_entry_faults f d [] (entries_of d.clauses))) h in
    let said = empty_is (all_said_faults f d [] d.clauses) (both_left (is_empty (all_said_faults f d [] d.clauses)) (is_empty (all_entry_faults f d [] (entries_of d.clauses))) both) in
    let quiet = empty_is (all_entry_faults f d [] (entries_of d.clauses)) (both_right (is_empty (all_said_faults f d [] d.clauses)) (is_empty (all_entry_faults f d [] (entries_of d.clauses))) both) in
    let right = all_right f d [] d.clauses said in
    let count = length-map f.params (λ (p : ParamDecl). param_signature f d p.name) in record {
      params = all_written f d f.params few right;
      count = omega (arith, few, count);
      placed = all_placed f d f.params quiet;
      lanes = lanes_fit f d d.clauses right;
    }

pub signature_count : (f : FunctionTree) (d : DirectiveTree) → length (signature_of f d).params ≡ length f.params
unfolding signature_of
signature_count f d = length-map f.params (λ (p : ParamDecl). param_signature f d p.name)
