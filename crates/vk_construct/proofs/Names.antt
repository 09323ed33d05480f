-- The variables of a scope, and names that mean them.
use Rattle.std.proofs.Common.{arith, sym, ◌≡◌, ℕ, zero, suc, ◌+◌, ◌<◌, Bool, true, false, cond, List, [], ◌∷◌, ◌++◌, map, length, get_or, Option, Some, None, is_some, refl, subst, ap, ◌∙◌, append_assoc, append-nil, true≢false}
use Rattle.std.proofs.lemmas.List.{length-map}
use Rattle.std.specs.Prelude.{slice_get, unwrap_or}
use Rattle.std.specs.Option.{option_map, option_or}
use Rattle.vk_types.specs.declared.types.Ty.{Ty}
use Rattle.vk_kinds.specs.declared.heads.CType.{CType}
use Rattle.vk_kinds.specs.declared.heads.CType.TheVariants.{Void, Int}
use Rattle.vk_ast.specs.declared.names.NameId.{NameId}
use Rattle.vk_ast.specs.declared.items.ParamDecl.{ParamDecl}
use Rattle.vk_ast.specs.Tree.{name}
use Rattle.vk_rules_book.specs.declared.contexts.Binding.{Binding}
use Rattle.vk_rules_book.specs.Scopes.{Scope, a_variable, inner_or, last_binding, meaning_of, same_name, types_of, with_param, with_params}
use Rattle.vk_rules_book.specs.Typings.{name_typing, number_type}
use Rattle.vk_meaning.specs.Points.{Variable, variable_among, variable_named}
use Rattle.vk_construct.specs.Adds.{IsTableOf, Written}
use Rattle.vk_construct.specs.Trees.{AreVariables, HasNumber, param_table, table_of, types_in}

-- ---- the type of a name

abbrev ctype_of : Variable → CType
ctype_of x = x.ctype

abbrev type_bound : Binding → CType
type_bound b = b.ctype

-- the variable that a name means has the type of the declaration that it means
types_agree : (k : ℕ) (bs : List Binding) (id : NameId) → option_map ctype_of (variable_among k bs id) ≡ option_map type_bound (last_binding bs id)
unfolding last_binding
types_agree k [] id = refl
types_agree k (b ∷ bs) id = go (variable_among (k + 1) bs id) (last_binding bs id) (same_name b.name id) (types_agree (k + 1) bs id)
  where
    go : (x : Option Variable) (y : Option Binding) (same : Bool) → option_map ctype_of x ≡ option_map type_bound y →
        option_map ctype_of (option_or x (cond same (Some (record { number = k; ctype = b.ctype })) None)) ≡ option_map type_bound (option_or y (cond same (Some b) None))
    go None None true e = refl
    go None None false e = refl
    go (Some x) None same e = cc
    go None (Some y) same e = cc
    go (Some x) (Some y) same e = e

variable_meaning : (scope : Scope) (id : NameId) (x : Variable) → variable_named scope id ≡ Some x → (fixed : Bool) × (meaning_of scope id ≡ Some (a_variable x.ctype fixed))
unfolding meaning_of
variable_meaning scope id x e = go (last_binding scope.inner id) (sym (types_agree 0 scope.inner id) ∙ ap (option_map ctype_of) e)
  where
    go : (y : Option Binding) → option_map type_bound y ≡ Some x.ctype → (fixed : Bool) × (inner_or y (scope.file id) ≡ Some (a_variable x.ctype fixed))
    go None f = cc
    go (Some y) f = (y.fixed, ap (λ (t : Option CType). Some (a_variable (unwrap_or t Void) y.fixed)) f)

pub number_name : (scope : Scope) (l k : ℕ) (id : NameId) (x : Variable) (t : Ty) → variable_named scope id ≡ Some x → x.ctype ≡ Int t → HasNumber scope (name l k id) t
number_name scope l k id x t is ty =
    let m : (fixed : Bool) × (meaning_of scope id ≡ Some (a_variable x.ctype fixed)) = variable_meaning scope id x is in
    ap (λ o. number_type (name_typing o)) (m.1 ∙ ap (λ c. Some (a_variable c m.0)) ty)

-- ---- the table of a scope

record Among (k : ℕ) (bs : List Binding) (x : Variable) : Type 0 where
  at : ℕ
  number : x.number ≡ k + at
  below : at < length bs
  ctype : get_or (map type_bound bs) at Void ≡ x.ctype

abbrev number_in : Option Variable → ℕ
number_in None = 0
number_in (Some x) = x.number

abbrev ctype_in : Option Variable → CType
ctype_in None = Void
ctype_in (Some x) = x.ctype

among : (k : ℕ) (bs : List Binding) (id : NameId) (x : Variable) → variable_among k bs id ≡ Some x → Among k bs x
among k [] id x e = cc
among k (b ∷ bs) id x e = go (variable_among (k + 1) bs id) (same_name b.name id) (among (k + 1) bs id x) e
  where
    go : (o : Option Variable) (same : Bool) → (o ≡ Some x → Among (k + 1) bs x) → option_or o (cond same (Some (record { number = k; ctype = b.ctype })) None) ≡ Some x → Among k (b ∷ bs) x
    go (Some y) same next f =
        let a : Among (k + 1) bs x = next f in
        record { at = suc a.at; number = a.number ∙ omega arith; below = omega (arith, a.below); ctype = a.ctype }
    go None true next f = record { at = 0; number = sym (ap number_in f) ∙ omega arith; below = omega arith; ctype = ap ctype_in f }
    go None false next f = cc

pub variables_of : (register : ℕ → ℕ) (scope : Scope) → AreVariables scope (table_of register scope)
variables_of register scope = record { there = λ id v e. there v (among 0 scope.inner id v e); typed = λ id v e. typed v (among 0 scope.inner id v e) }
  where
    there : (v : Variable) → Among 0 scope.inner v → v.number < length scope.inner
    there v a = let n : a.at ≡ v.number = omega (arith, a.number) in subst (λ i. i < length scope.inner) n a.below

    typed : (v : Variable) → Among 0 scope.inner v → get_or (types_in scope) v.number Void ≡ v.ctype
    typed v a = let n : a.at ≡ v.number = omega (arith, a.number) in ap (λ i. get_or (types_in scope) i Void) (sym n) ∙ a.ctype

-- ---- parameters

got_from : (ts : List CType) (v : ℕ) → v < length ts → slice_get ts v ≡ Some (get_or ts v Void)
got_from [] v l = absurd (omega (arith, l))
got_from (t ∷ ts) zero l = refl
got_from (t ∷ ts) (suc v) l = got_from ts v (omega (arith, l))

-- where the registers are the parameters, each has its own
pub params_table : (w : Written) (scope : Scope) → w.regs ≡ types_in scope → IsTableOf w (param_table scope) (length w.regs)
params_table w scope e = record {
  typed = λ v l. subst (λ r. slice_get r v ≡ Some (get_or (types_in scope) v Void)) (sym e) (got_from (types_in scope) v (subst (λ n. v < n) (sym (length-map scope.inner type_bound)) l));
  below = λ v l. subst (λ n. v < n) (sym (ap length e ∙ length-map scope.inner type_bound)) l;
  apart = λ u v l k ne. ne;
}

-- every parameter has a name
abbrev pub AreNamed : List ParamDecl → Type 0
AreNamed [] = Unit {0}
AreNamed (p ∷ ps) = (is_some p.name ≡ true) × AreNamed ps

pub types_of_params : (scope : Scope) (ps : List ParamDecl) → AreNamed ps → types_in (with_params scope ps) ≡ types_in scope ++ types_of ps
unfolding with_params
types_of_params scope [] h = sym (append-nil (types_in scope))
types_of_params scope (p ∷ ps) h = types_of_params (with_param scope p.name p) ps h.1 ∙ (ap (λ l. l ++ types_of ps) (one_more p.name h.0) ∙ append_assoc (types_in scope) (p.ctype ∷ []) (types_of ps))
  where
    more : (bs : List Binding) (b : Binding) → map type_bound (bs ++ b ∷ []) ≡ map type_bound bs ++ b.ctype ∷ []
    more [] b = refl
    more (x ∷ bs) b = ap (λ l. x.ctype ∷ l) (more bs b)

    one_more : (o : Option NameId) → is_some o ≡ true → types_in (with_param scope o p) ≡ types_in scope ++ p.ctype ∷ []
    one_more None e = absurd (true≢false (sym e))
    one_more (Some id) e = more scope.inner _
