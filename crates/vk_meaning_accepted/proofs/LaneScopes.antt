-- What names mean in the body of a function with directives.
use Rattle.std.proofs.Common.{◌≡◌, ℕ, ◌+◌, Bool, true, false, cond, List, [], ◌∷◌, Option, Some, None, refl}
use Rattle.std.specs.Option.{option_or}
use Rattle.vk_types.specs.declared.types.Ty.{Ty}
use Rattle.vk_kinds.specs.declared.heads.CType.TheVariants.{Int}
use Rattle.vk_ast.specs.declared.names.NameId.{NameId}
use Rattle.vk_ast.specs.Statements.{StmtTree, StmtTrees, empty, block, local, assign, value, if_only, if_else, while_loop, do_loop, for_loop, break_loop, continue_loop, return_value, simd, lost, no_stmts, more_stmts}
use Rattle.vk_rules_book.specs.declared.contexts.Binding.{Binding}
use Rattle.vk_rules_book.specs.Scopes.{Scope, Meaning, a_variable, a_function, same_name, inner_or, last_binding, meaning_of, with_binding, inside}
use Rattle.vk_rules_book.specs.Visits.{after, after_all, block_scope}
use Rattle.vk_rules_laws.proofs.Fitting.{AreFitting, inside_fits, more_fits}
use Rattle.vk_meaning.specs.Points.{Variable, variable_among, variable_named}

-- What a name means at file scope: no variable; and a function with directives is a function of which `lane` holds.
abbrev pub IsFileMeaning : (lane : Bool) → Option Meaning → Type 0
IsFileMeaning lane (Some (a_variable t fixed)) = ⊥
IsFileMeaning lane (Some (a_function result params true)) = lane ≡ true
IsFileMeaning lane _ = Unit {0}

-- a scope of this kind, in which no variable is void and no function returns a pointer
pub record IsLaneScope (lane : NameId → Bool) (scope : Scope) : Type 0 where
  pub fits : AreFitting scope
  pub file : (id : NameId) → IsFileMeaning (lane id) (scope.file id)

-- ---- scopes

module _ (lane : NameId → Bool) where
  pub more_lane : (scope : Scope) (id : NameId) (t : Ty) (fixed : Bool) → IsLaneScope lane scope → IsLaneScope lane (with_binding scope id (Int t) fixed)
  more_lane scope id t fixed l = record { fits = more_fits scope id (Int t) fixed l.fits refl; file = l.file }

  pub inside_lane : (scope : Scope) → IsLaneScope lane scope → IsLaneScope lane (inside scope)
  inside_lane scope l = record { fits = inside_fits scope l.fits; file = l.file }

  pub block_lane : (shares : Bool) (scope : Scope) → IsLaneScope lane scope → IsLaneScope lane (block_scope shares scope)
  block_lane true scope l = l
  block_lane false scope l = inside_lane scope l

  mutual
    pub after_lane : (shares : Bool) (scope : Scope) (s : StmtTree) → IsLaneScope lane scope → IsLaneScope lane (after shares scope s)
    after_lane shares scope (local l k t fixed id init) h = more_lane scope id t fixed h
    after_lane true scope (block l k ss) h = after_all_lane scope ss h
    after_lane false scope (block l k ss) h = h
    after_lane shares scope (empty l k) h = h
    after_lane shares scope (assign l k op place operand) h = h
    after_lane shares scope (value l k e) h = h
    after_lane shares scope (if_only l k c first) h = h
    after_lane shares scope (if_else l k c first second) h = h
    after_lane shares scope (while_loop l k c body) h = h
    after_lane shares scope (do_loop l k body c) h = h
    after_lane shares scope (for_loop l k first c third body) h = h
    after_lane shares scope (break_loop l k) h = h
    after_lane shares scope (continue_loop l k) h = h
    after_lane shares scope (return_value l k e) h = h
    after_lane shares scope (simd l k d body) h = h
    after_lane shares scope (lost l k d) h = h

    pub after_all_lane : (scope : Scope) (ss : StmtTrees) → IsLaneScope lane scope → IsLaneScope lane (after_all scope ss)
    after_all_lane scope no_stmts h = h
    after_all_lane scope (more_stmts s ss) h = after_all_lane (after false scope s) ss (after_lane false scope s h)

-- ---- names

-- the variable that a name means is the last one of its name
abbrev IsVariableOf : Option Variable → Option Binding → Type 0
IsVariableOf None None = Unit {0}
IsVariableOf (Some v) (Some b) = v.ctype ≡ b.ctype
IsVariableOf _ _ = ⊥

or_same : (v : Option Variable) (b : Option Binding) (test : Bool) (n : ℕ) (x : Binding) → IsVariableOf v b
    → IsVariableOf (option_or v (cond test (Some (record { number = n; ctype = x.ctype })) None)) (option_or b (cond test (Some x) None))
or_same (Some v) (Some b) test n x h = h
or_same (Some v) None test n x h = absurd h
or_same None (Some b) test n x h = absurd h
or_same None None true n x h = refl
or_same None None false n x h = tt

same_variable : (first : ℕ) (bs : List Binding) (id : NameId) → IsVariableOf (variable_among first bs id) (last_binding bs id)
unfolding last_binding
same_variable first [] id = tt
same_variable first (b ∷ bs) id = or_same (variable_among (first + 1) bs id) (last_binding bs id) (same_name b.name id) first b (same_variable (first + 1) bs id)

-- what a name means, as a variable and in the scope
abbrev pub IsSeen : (lane : Bool) → Option Variable → Option Meaning → Type 0
IsSeen lane (Some v) (Some (a_variable t fixed)) = v.ctype ≡ t
IsSeen lane (Some v) _ = ⊥
IsSeen lane None meaning = IsFileMeaning lane meaning

seen_or : (lane : Bool) (v : Option Variable) (b : Option Binding) (outer : Option Meaning) → IsVariableOf v b → IsFileMeaning lane outer → IsSeen lane v (inner_or b outer)
seen_or lane None None outer h k = k
seen_or lane (Some v) (Some b) outer h k = h
seen_or lane (Some v) None outer h k = absurd h
seen_or lane None (Some b) outer h k = absurd h

pub seen : (lane : NameId → Bool) (scope : Scope) (id : NameId) → IsLaneScope lane scope → IsSeen (lane id) (variable_named scope id) (meaning_of scope id)
unfolding meaning_of
seen lane scope id l = seen_or (lane id) (variable_named scope id) (last_binding scope.inner id) (scope.file id) (same_variable 0 scope.inner id) (l.file id)
