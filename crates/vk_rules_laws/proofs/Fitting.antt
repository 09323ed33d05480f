-- Scopes in which no variable is void and no function returns a pointer.
use Rattle.std.proofs.Common.{◌≡◌, ℕ, Bool, true, false, cond, List, [], ◌∷◌, Option, Some, None, Contains, refl, subst}
use Rattle.std.specs.List.{AllByRecursion}
use Rattle.std.specs.Option.{option_or}
use Rattle.vk_kinds.specs.declared.heads.CType.{CType}
use Rattle.vk_kinds.specs.declared.heads.CType.TheVariants.{Int}
use Rattle.vk_ast.specs.declared.names.NameId.{NameId}
use Rattle.vk_ast.specs.declared.items.ParamDecl.{ParamDecl}
use Rattle.vk_ast.specs.Statements.{StmtTree, StmtTrees, empty, block, local, assign, value, if_only, if_else, while_loop, do_loop, for_loop, break_loop, continue_loop, return_value, simd, lost, no_stmts, more_stmts}
use Rattle.vk_ast.specs.Units.{ItemTree, function, object, lost_line}
use Rattle.vk_rules_book.specs.declared.contexts.Binding.{Binding}
use Rattle.vk_rules_book.specs.Scopes.{Scope, Meaning, a_variable, an_object, a_function, printer, is_print, same_name, declares, declared_meaning, first_declaration, file_scope, inner_or, last_binding, meaning_of, with_binding, with_param, with_params, inside}
use Rattle.vk_rules_book.specs.Statements.{is_void}
use Rattle.vk_rules_book.specs.Visits.{after, after_all, block_scope}
use Rattle.vk_rules_laws.specs.Grammatical.{HasGrammarTypes, is_pointer_type}
use Rattle.vk_rules_laws.proofs.Each.{at_all, both}

-- no void variable, no function that returns a pointer
abbrev pub IsFitting : Option Meaning → Type 0
IsFitting None = Unit {0}
IsFitting (Some (a_variable t fixed)) = is_void t ≡ false
IsFitting (Some (an_object t is_array fixed)) = Unit {0}
IsFitting (Some (a_function result params is_simd)) = is_pointer_type result ≡ false

abbrev pub IsFittingBinding : Binding → Type 0
IsFittingBinding b = is_void b.ctype ≡ false

pub record AreFitting (scope : Scope) : Type 0 where
  pub file : (id : NameId) → IsFitting (scope.file id)
  pub inner : AllByRecursion IsFittingBinding scope.inner

-- ---- names

inner_fits : (b : Option Binding) (outer : Option Meaning) → ((x : Binding) → b ≡ Some x → IsFittingBinding x) → IsFitting outer → IsFitting (inner_or b outer)
inner_fits None outer h k = k
inner_fits (Some x) outer h k = h x refl

some_is : (b x : Binding) → Some b ≡ Some x → b ≡ x
some_is b x e = cc

chosen : (bs : Option Binding) (test : Bool) (b x : Binding) → option_or bs (cond test (Some b) None) ≡ Some x → IsFittingBinding b
    → ((y : Binding) → bs ≡ Some y → IsFittingBinding y) → IsFittingBinding x
chosen (Some y) test b x e h k = k x e
chosen None true b x e h k = subst IsFittingBinding (some_is b x e) h
chosen None false b x e h k = cc

last_fits : (bs : List Binding) (id : NameId) (x : Binding) → AllByRecursion IsFittingBinding bs → last_binding bs id ≡ Some x → IsFittingBinding x
unfolding last_binding
last_fits [] id x h e = cc
last_fits (b ∷ bs) id x h e = chosen (last_binding bs id) (same_name b.name id) b x e h.0 (λ y. last_fits bs id y h.1)

pub meaning_fits : (scope : Scope) (id : NameId) → AreFitting scope → IsFitting (meaning_of scope id)
unfolding meaning_of
meaning_fits scope id fits = inner_fits (last_binding scope.inner id) (scope.file id) (λ x. last_fits scope.inner id x fits.inner) (fits.file id)

-- ---- scopes

pub more_fits : (scope : Scope) (id : NameId) (t : CType) (fixed : Bool) → AreFitting scope → is_void t ≡ false → AreFitting (with_binding scope id t fixed)
more_fits scope id t fixed fits h =
    record { file = fits.file; inner = both IsFittingBinding scope.inner (record { name = id; ctype = t; fixed = fixed } ∷ []) fits.inner (h, tt) }

pub inside_fits : (scope : Scope) → AreFitting scope → AreFitting (inside scope)
inside_fits scope fits = record { file = fits.file; inner = fits.inner }

pub block_fits : (shares : Bool) (scope : Scope) → AreFitting scope → AreFitting (block_scope shares scope)
block_fits true scope fits = fits
block_fits false scope fits = inside_fits scope fits

mutual
  pub after_fits : (shares : Bool) (scope : Scope) (s : StmtTree) → AreFitting scope → AreFitting (after shares scope s)
  after_fits shares scope (local l k t fixed id init) fits = more_fits scope id (Int t) fixed fits refl
  after_fits true scope (block l k ss) fits = after_all_fits scope ss fits
  after_fits false scope (block l k ss) fits = fits
  after_fits shares scope (empty l k) fits = fits
  after_fits shares scope (assign l k op place operand) fits = fits
  after_fits shares scope (value l k e) fits = fits
  after_fits shares scope (if_only l k c first) fits = fits
  after_fits shares scope (if_else l k c first second) fits = fits
  after_fits shares scope (while_loop l k c body) fits = fits
  after_fits shares scope (do_loop l k body c) fits = fits
  after_fits shares scope (for_loop l k first c third body) fits = fits
  after_fits shares scope (break_loop l k) fits = fits
  after_fits shares scope (continue_loop l k) fits = fits
  after_fits shares scope (return_value l k e) fits = fits
  after_fits shares scope (simd l k d body) fits = fits
  after_fits shares scope (lost l k d) fits = fits

  pub after_all_fits : (scope : Scope) (ss : StmtTrees) → AreFitting scope → AreFitting (after_all scope ss)
  after_all_fits scope no_stmts fits = fits
  after_all_fits scope (more_stmts s ss) fits = after_all_fits (after false scope s) ss (after_fits false scope s fits)

-- ---- parameters

abbrev pub IsFittingParam : ParamDecl → Type 0
IsFittingParam p = is_void p.ctype ≡ false

param_fits : (scope : Scope) (name : Option NameId) (p : ParamDecl) → AreFitting scope → IsFittingParam p → AreFitting (with_param scope name p)
param_fits scope None p fits h = fits
param_fits scope (Some id) p fits h = more_fits scope id p.ctype p.fixed fits h

pub params_fit : (scope : Scope) (ps : List ParamDecl) → AreFitting scope → AllByRecursion IsFittingParam ps → AreFitting (with_params scope ps)
unfolding with_params
params_fit scope [] fits h = fits
params_fit scope (p ∷ ps) fits h = params_fit (with_param scope p.name p) ps (param_fits scope p.name p fits h.0) h.1

-- ---- file scope

abbrev pub IsFittingItem : ItemTree → Type 0
IsFittingItem (function f) = AllByRecursion IsFittingParam f.params × (is_pointer_type f.result ≡ false)
IsFittingItem (object o) = Unit {0}
IsFittingItem (lost_line d) = Unit {0}

item_fits : (items : List ItemTree) → HasGrammarTypes items → (i : ItemTree) → Contains items i → IsFittingItem i
item_fits items types (function f) is_in = (at_all IsFittingParam f.params (types.params f is_in), types.results f is_in)
item_fits items types (object o) is_in = tt
item_fits items types (lost_line d) is_in = tt

pub items_fit : (items : List ItemTree) → HasGrammarTypes items → AllByRecursion IsFittingItem items
items_fit items types = at_all IsFittingItem items (item_fits items types)

declared_fits : (i : ItemTree) → IsFittingItem i → IsFitting (declared_meaning (Some i))
declared_fits (function f) h = h.1
declared_fits (object o) h = tt
declared_fits (lost_line d) h = tt

first_of_two : (test : Bool) (i : ItemTree) (rest : Option ItemTree) → IsFitting (declared_meaning (Some i)) → IsFitting (declared_meaning rest)
    → IsFitting (declared_meaning (cond test (Some i) rest))
first_of_two true i rest h k = h
first_of_two false i rest h k = k

first_fits : (items : List ItemTree) (id : NameId) → AllByRecursion IsFittingItem items → IsFitting (declared_meaning (first_declaration items id))
unfolding first_declaration
first_fits [] id h = tt
first_fits (i ∷ items) id h = first_of_two (declares id i) i (first_declaration items id) (declared_fits i h.0) (first_fits items id h.1)

print_or : (test : Bool) (m : Option Meaning) → IsFitting m → IsFitting (cond test (Some printer) m)
print_or true m h = refl
print_or false m h = h

pub file_fits : (texts : List (List ℕ)) (items : List ItemTree) → AllByRecursion IsFittingItem items → AreFitting (file_scope texts items)
file_fits texts items h = record {
  file = λ id. print_or (is_print texts id) (declared_meaning (first_declaration items id)) (first_fits items id h);
  inner = tt;
}
