-- A called name that means a function means one that is declared before.
use Rattle.std.proofs.Common.{◌≡◌, zero, suc, true, false, cond, List, [], ◌∷◌, Contains, Option, Some, None, refl, sym, ap, subst, ◌∙◌, arith}
use Rattle.vk_ast.specs.declared.names.NameId.{NameId}
use Rattle.vk_ast.specs.declared.items.ParamDecl.{ParamDecl}
use Rattle.vk_ast.specs.Units.{FunctionTree, ItemTree, function, object, lost_line}
use Rattle.vk_rules_book.specs.declared.contexts.Binding.{Binding}
use Rattle.vk_rules_book.specs.Scopes.{Scope, declared_meaning, file_meaning, file_scope, first_declaration, inner_or, is_print, last_binding, meaning_of, printer, types_of, with_param, with_params}
use Rattle.vk_rules_book.specs.Typings.{wanted_types}
use Rattle.vk_meaning.specs.Programs.{Definition, first_point}
use Rattle.vk_meaning_laws.specs.Tame.{is_function}
use Rattle.vk_sites.specs.Calls.{CallText}
use Rattle.vk_joins.specs.Links.{body_calls}
use Rattle.vk_compose.proofs.Chains.{Every}
use Rattle.vk_promises.specs.Settings.{types_called}
use Rattle.vk_settings.proofs.Files.{HasFile, in_stmt}

-- a function that is declared before the end of a definition, and takes what the call passes
pub record IsCallOf (d : Definition) (c : CallText) : Type 0 where
  pub declaration : FunctionTree
  pub first : first_declaration d.items c.callee ≡ Some (function declaration)
  pub types : types_called c ≡ types_of declaration.params

pub every_in : {X : Type 0} (P : X → Type 0) (xs : List X) (x : X) → Every P xs → Contains xs x → P x
every_in P [] x h (k, lt, at) = absurd (omega (arith, lt))
every_in P (y ∷ xs) x h (zero, lt, at) = subst P at h.0
every_in P (y ∷ xs) x h (suc k, lt, at) = every_in P xs x h.1 (k, omega (arith, lt), at)

-- ---- file scope

param_file : (scope : Scope) (o : Option NameId) (p : ParamDecl) → (with_param scope o p).file ≡ scope.file
param_file scope None p = refl
param_file scope (Some id) p = refl

params_file : (scope : Scope) (ps : List ParamDecl) → (with_params scope ps).file ≡ scope.file
unfolding with_params
params_file scope [] = refl
params_file scope (p ∷ ps) = params_file (with_param scope p.name p) ps ∙ param_file scope p.name p

file_is : (d : Definition) → (first_point d).scope.file ≡ file_meaning d.unit.texts d.items
file_is d = params_file (file_scope d.unit.texts d.items) d.function.params

pub call_file : (d : Definition) (c : CallText) → Contains (body_calls d) c → c.scope.file ≡ file_meaning d.unit.texts d.items
call_file d c h = every_in (HasFile (file_meaning d.unit.texts d.items)) (body_calls d) c (in_stmt (file_meaning d.unit.texts d.items) (first_point d) (file_is d) true d.body) h

-- ---- what the name means

-- it is none of the variables
outer_meaning : (scope : Scope) (id : NameId) → is_function (meaning_of scope id) ≡ true → meaning_of scope id ≡ scope.file id
unfolding meaning_of
outer_meaning scope id h = at (last_binding scope.inner id) h
  where
    at : (b : Option Binding) → is_function (inner_or b (scope.file id)) ≡ true → inner_or b (scope.file id) ≡ scope.file id
    at None k = refl
    at (Some b) k = cc

declared_by : (d : Definition) (c : CallText) (o : Option ItemTree) → first_declaration d.items c.callee ≡ o → is_function (declared_meaning o) ≡ true → types_called c ≡ wanted_types (declared_meaning o) → IsCallOf d c
declared_by d c None e h t = cc
declared_by d c (Some (function g)) e h t = record { declaration = g; first = e; types = t }
declared_by d c (Some (object o)) e h t = cc
declared_by d c (Some (lost_line l)) e h t = cc

pub call_of : (d : Definition) (c : CallText) → Contains (body_calls d) c → is_print d.unit.texts c.callee ≡ false → is_function (meaning_of c.scope c.callee) ≡ true → IsCallOf d c
call_of d c among own h = declared_by d c (first_declaration d.items c.callee) refl (ap is_function (sym means) ∙ h) (ap wanted_types means)
  where
    means : meaning_of c.scope c.callee ≡ declared_meaning (first_declaration d.items c.callee)
    means = outer_meaning c.scope c.callee h ∙ (λ i. call_file d c among i c.callee) ∙ (λ i. cond (own i) (Some printer) (declared_meaning (first_declaration d.items c.callee)))
