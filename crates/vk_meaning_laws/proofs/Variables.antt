-- Variables of a function: what is known of them goes by the function's parameters alone.
use Rattle.std.proofs.Common.{◌≡◌, ◌≤◌, ◌<◌, ◌&&◌, ◌==◌, ℕ, zero, suc, ◌+◌, Bool, true, false, cond, List, [], ◌∷◌, ◌++◌, length, map, get_or, Option, Some, None, is_some, refl, subst, sym, ap, arith, rules, ◌∙◌, append_assoc, append-nil}
use Rattle.std.specs.Option.{option_or}
use Rattle.vk_kinds.specs.declared.heads.CType.{CType}
use Rattle.vk_kinds.specs.declared.heads.CType.TheVariants.{Void, Int}
use Rattle.vk_types.specs.declared.types.Ty.{Ty}
use Rattle.vk_ast.specs.declared.names.NameId.{NameId}
use Rattle.vk_ast.specs.declared.items.ParamDecl.{ParamDecl}
use Rattle.vk_ast.specs.Statements.{StmtTree, StmtTrees, block, local, no_stmts, more_stmts}
use Rattle.vk_rules_book.specs.declared.contexts.Binding.{Binding}
use Rattle.vk_rules_book.specs.Scopes.{Scope, Meaning, same_name, types_of, with_binding, with_param, with_params, inside}
use Rattle.vk_rules_book.specs.Visits.{after, after_all}
use Rattle.vk_meaning.specs.World.{Array}
use Rattle.vk_meaning.specs.Data.{Datum, nothing}
use Rattle.vk_meaning.specs.Points.{Variable, variable_among, variable_named}
use Rattle.vk_meaning.specs.Expressions.{Variables, with_datum}
use Rattle.vk_meaning.specs.Types.{is_written_type}
use Rattle.vk_meaning.specs.Meaning.{first_variables}
use Rattle.vk_meaning_laws.specs.Tame.{are_named}
use Rattle.vk_meaning_laws.proofs.Sights.{Sight, IsReadable, IsKnown, IsFine}
use Rattle.vk_meaning_laws.proofs.Expressions.{HaveFine, AreFine}

abbrev pub type_number : List CType → ℕ → CType
type_number ts k = get_or ts k Void

abbrev pub binding_type : Binding → CType
binding_type b = b.ctype

abbrev pub types : List Binding → List CType
types bs = map binding_type bs

abbrev here : ℕ → Binding → Variable
here k b = record { number = k; ctype = b.ctype }

abbrev number_of : Option Variable → ℕ
number_of None = 0
number_of (Some x) = x.number

abbrev ctype_of : Option Variable → CType
ctype_of None = Void
ctype_of (Some x) = x.ctype

-- ---- look-ups

-- where a variable stands among some
record Among (k : ℕ) (bs : List Binding) (x : Variable) : Type 0 where
  at : ℕ
  number : x.number ≡ k + at
  below : at < length bs
  ctype : x.ctype ≡ get_or (types bs) at Void

among : (k : ℕ) (bs : List Binding) (id : NameId) (x : Variable) → variable_among k bs id ≡ Some x → Among k bs x
among k [] id x e = cc
among k (b ∷ bs) id x e = go (variable_among (k + 1) bs id) (same_name b.name id) (among (k + 1) bs id x) e
  where
    go : (o : Option Variable) (same : Bool) → (o ≡ Some x → Among (k + 1) bs x) → option_or o (cond same (Some (here k b)) None) ≡ Some x → Among k (b ∷ bs) x
    go (Some y) same next f =
        let a : Among (k + 1) bs x = next f in
        record { at = suc a.at; number = a.number ∙ omega arith; below = omega (arith, a.below); ctype = a.ctype }
    go None true next f = record { at = 0; number = sym (ap number_of f) ∙ omega arith; below = omega arith; ctype = sym (ap ctype_of f) }
    go None false next f = cc

option_or_assoc : (a b c : Option Variable) → option_or (option_or a b) c ≡ option_or a (option_or b c)
option_or_assoc None b c = refl
option_or_assoc (Some x) b c = refl

or_none : (a : Option Variable) → option_or a None ≡ a
or_none None = refl
or_none (Some x) = refl

abbrev this : ℕ → Binding → NameId → Option Variable
this k b id = cond (same_name b.name id) (Some (here k b)) None

-- a variable that is declared last hides those before it
among_last : (k : ℕ) (bs : List Binding) (b : Binding) (id : NameId) → variable_among k (bs ++ b ∷ []) id ≡ option_or (this (k + length bs) b id) (variable_among k bs id)
among_last k [] b id = subst (λ (n : ℕ). option_or None (this k b id) ≡ option_or (this n b id) None) (zero_more k) (sym (or_none (this k b id)))
  where
    zero_more : (n : ℕ) → n ≡ n + length {A = Binding} []
    zero_more n = omega arith
among_last k (x ∷ bs) b id =
    ap (λ (o : Option Variable). option_or o (this k x id)) (among_last (k + 1) bs b id)
    ∙ (option_or_assoc (this (k + 1 + length bs) b id) (variable_among (k + 1) bs id) (this k x id)
    ∙ ap (λ (n : ℕ). option_or (this n b id) (option_or (variable_among (k + 1) bs id) (this k x id))) (one_more k (length bs)))
  where
    one_more : (n m : ℕ) → n + 1 + m ≡ n + suc m
    one_more n m = omega arith

-- ---- scopes of a function with parameters of these types

pub record InScope (ts : List CType) (file : NameId → Option Meaning) (scope : Scope) : Type 0 where
  pub same : scope.file ≡ file
  pub long : length ts ≤ length scope.inner
  -- a variable may be written through only where the parameter with its number may
  pub flagged : (id : NameId) (x : Variable) → variable_named scope id ≡ Some x → is_written_type x.ctype ≡ is_written_type (type_number ts x.number)

get_or-past : (ts : List CType) (k : ℕ) → length ts ≤ k → get_or ts k Void ≡ Void
get_or-past [] k h = search rules
get_or-past (t ∷ ts) zero h = absurd (omega arith)
get_or-past (t ∷ ts) (suc k) h = get_or-past ts k (omega arith)

length-last : (bs : List Binding) (b : Binding) → length (bs ++ b ∷ []) ≡ suc (length bs)
length-last [] b = refl
length-last (x ∷ bs) b = ap suc (length-last bs b)

pub in_binding : (ts : List CType) (file : NameId → Option Meaning) (scope : Scope) (id : NameId) (t : Ty) (fixed : Bool) → InScope ts file scope → InScope ts file (with_binding scope id (Int t) fixed)
in_binding ts file scope id t fixed i = record { same = i.same; long = long; flagged = flagged }
  where
    long : length ts ≤ length (scope.inner ++ record { name = id; ctype = Int t; fixed = fixed } ∷ [])
    long = let e : length (scope.inner ++ record { name = id; ctype = Int t; fixed = fixed } ∷ []) ≡ suc (length scope.inner) = length-last scope.inner (record { name = id; ctype = Int t; fixed = fixed }) in
        subst (λ (n : ℕ). length ts ≤ n) (sym e) (omega (arith, i.long))

    flagged : (other : NameId) (x : Variable) → variable_named (with_binding scope id (Int t) fixed) other ≡ Some x → is_written_type x.ctype ≡ is_written_type (type_number ts x.number)
    flagged other x e = go (same_name id other) (sym (among_last 0 scope.inner (record { name = id; ctype = Int t; fixed = fixed }) other) ∙ e)
      where
        go : (same : Bool) → option_or (cond same (Some (here (0 + length scope.inner) (record { name = id; ctype = Int t; fixed = fixed }))) None) (variable_named scope other) ≡ Some x →
            is_written_type x.ctype ≡ is_written_type (type_number ts x.number)
        go true f =
            let at : 0 + length scope.inner ≡ x.number = ap number_of f in
            let is : Int t ≡ x.ctype = ap ctype_of f in
            sym (ap is_written_type is) ∙ sym (ap is_written_type (get_or-past ts x.number (subst (λ (n : ℕ). length ts ≤ n) at (omega (arith, i.long)))))
        go false f = i.flagged other x f

pub in_inside : (ts : List CType) (file : NameId → Option Meaning) (scope : Scope) → InScope ts file scope → InScope ts file (inside scope)
in_inside ts file scope i = record { same = i.same; long = i.long; flagged = i.flagged }

mutual
  pub in_after : (ts : List CType) (file : NameId → Option Meaning) (s : StmtTree) (shares : Bool) (scope : Scope) → InScope ts file scope → InScope ts file (after shares scope s)
  in_after ts file (local l k t fixed id init) shares scope i = in_binding ts file scope id t fixed i
  in_after ts file (block l k ss) true scope i = in_after_all ts file ss scope i
  in_after ts file (block l k ss) false scope i = i
  in_after ts file s shares scope i = i

  in_after_all : (ts : List CType) (file : NameId → Option Meaning) (ss : StmtTrees) (scope : Scope) → InScope ts file scope → InScope ts file (after_all scope ss)
  in_after_all ts file no_stmts scope i = i
  in_after_all ts file (more_stmts s ss) scope i = in_after_all ts file ss (after false scope s) (in_after ts file s false scope i)

-- ---- parameters

abbrev param_types : List ParamDecl → List CType
param_types ps = types_of ps

with_param_types : (scope : Scope) (n : Option NameId) (p : ParamDecl) → is_some n ≡ true → types (with_param scope n p).inner ≡ types scope.inner ++ p.ctype ∷ []
with_param_types scope None p e = cc
with_param_types scope (Some id) p e = map-last scope.inner (record { name = id; ctype = p.ctype; fixed = p.fixed })
  where
    map-last : (bs : List Binding) (b : Binding) → types (bs ++ b ∷ []) ≡ types bs ++ b.ctype ∷ []
    map-last [] b = refl
    map-last (x ∷ bs) b = ap (◌∷◌ x.ctype) (map-last bs b)

with_param_file : (scope : Scope) (n : Option NameId) (p : ParamDecl) → (with_param scope n p).file ≡ scope.file
with_param_file scope None p = refl
with_param_file scope (Some id) p = refl

both_true : (a b : Bool) → (a && b) ≡ true → (a ≡ true) × (b ≡ true)
both_true true true e = (refl, refl)
both_true true false e = cc
both_true false b e = cc

params_types : (ps : List ParamDecl) (scope : Scope) → are_named ps ≡ true → types (with_params scope ps).inner ≡ types scope.inner ++ types_of ps
unfolding with_params are_named
params_types [] scope e = sym (append-nil (types scope.inner))
params_types (p ∷ ps) scope e =
    let n : (is_some p.name ≡ true) × (are_named ps ≡ true) = both_true (is_some p.name) (are_named ps) e in
    params_types ps (with_param scope p.name p) n.1
    ∙ (ap (λ (ts : List CType). ts ++ types_of ps) (with_param_types scope p.name p n.0)
    ∙ append_assoc (types scope.inner) (p.ctype ∷ []) (types_of ps))

params_file : (ps : List ParamDecl) (scope : Scope) → (with_params scope ps).file ≡ scope.file
unfolding with_params
params_file [] scope = refl
params_file (p ∷ ps) scope = params_file ps (with_param scope p.name p) ∙ with_param_file scope p.name p

length-types : (bs : List Binding) → length (types bs) ≡ length bs
length-types [] = refl
length-types (b ∷ bs) = ap suc (length-types bs)

-- a scope, by its own variables
pub in_itself : (scope : Scope) → InScope (types scope.inner) scope.file scope
in_itself scope = record { same = refl; long = long; flagged = flagged }
  where
    long : length (types scope.inner) ≤ length scope.inner
    long = let e : length (types scope.inner) ≡ length scope.inner = length-types scope.inner in omega (arith, e)

    flagged : (id : NameId) (x : Variable) → variable_named scope id ≡ Some x → is_written_type x.ctype ≡ is_written_type (type_number (types scope.inner) x.number)
    flagged id x e =
        let a : Among 0 scope.inner x = among 0 scope.inner id x e in
        let at : a.at ≡ x.number = omega (arith, a.number) in
        ap is_written_type a.ctype ∙ ap (λ (n : ℕ). is_written_type (type_number (types scope.inner) n)) at

-- the scope of a function's body, whose parameters have names
pub in_params : (ps : List ParamDecl) (scope : Scope) → scope.inner ≡ [] → are_named ps ≡ true → InScope (types_of ps) scope.file (with_params scope ps)
in_params ps scope none named =
    subst (λ (ts : List CType). InScope ts scope.file (with_params scope ps)) (params_types ps scope named ∙ ap (λ (bs : List Binding). types bs ++ types_of ps) none)
    (subst (λ (f : NameId → Option Meaning). InScope (types (with_params scope ps).inner) f (with_params scope ps)) (params_file ps scope) (in_itself (with_params scope ps)))

-- ---- what variables have

-- the variables with parameters' numbers are fine for these, and all others may be read
abbrev pub AllFine : Sight → List Array → List CType → Variables → Type 0
AllFine v arrays ts vs = (k : ℕ) → IsFine v arrays (type_number ts k) (vs k)

pub fine_in : (v : Sight) (arrays : List Array) (ts : List CType) (file : NameId → Option Meaning) (scope : Scope) (vs : Variables) → InScope ts file scope → AllFine v arrays ts vs → HaveFine v arrays scope vs
fine_in v arrays ts file scope vs i f id x e = subst (λ (b : Bool). IsKnown v arrays b (vs x.number)) (sym (i.flagged id x e)) (f x.number)

same_number : (a b : ℕ) → (a == b) ≡ true → a ≡ b
same_number a b e = grind arith

fine_with : (v : Sight) (arrays : List Array) (ts : List CType) (vs : Variables) (k : ℕ) (d : Datum) → is_written_type (type_number ts k) ≡ false → IsReadable v d → AllFine v arrays ts vs → AllFine v arrays ts (with_datum vs k d)
fine_with v arrays ts vs k d e r f n = go (n == k) refl
  where
    go : (b : Bool) → (n == k) ≡ b → IsFine v arrays (type_number ts n) (cond b d (vs n))
    go true same = subst (λ (b : Bool). IsKnown v arrays b d) (sym (ap (λ (m : ℕ). is_written_type (type_number ts m)) (same_number n k same) ∙ e)) r
    go false same = f n

-- a variable that may not be written through may change
pub fine_assigned : (v : Sight) (arrays : List Array) (ts : List CType) (file : NameId → Option Meaning) (scope : Scope) (vs : Variables) (id : NameId) (x : Variable) (d : Datum) → InScope ts file scope →
    variable_named scope id ≡ Some x → is_written_type x.ctype ≡ false → IsReadable v d → AllFine v arrays ts vs → AllFine v arrays ts (with_datum vs x.number d)
fine_assigned v arrays ts file scope vs id x d i e n r f = fine_with v arrays ts vs x.number d (sym (i.flagged id x e) ∙ n) r f

-- a new variable may have anything
pub fine_declared : (v : Sight) (arrays : List Array) (ts : List CType) (file : NameId → Option Meaning) (scope : Scope) (vs : Variables) (d : Datum) → InScope ts file scope →
    IsReadable v d → AllFine v arrays ts vs → AllFine v arrays ts (with_datum vs (length scope.inner) d)
fine_declared v arrays ts file scope vs d i r f = fine_with v arrays ts vs (length scope.inner) d (ap is_written_type (get_or-past ts (length scope.inner) i.long)) r f

fine_nothing : (v : Sight) (arrays : List Array) (written : Bool) → IsKnown v arrays written nothing
fine_nothing v arrays true = λ i e. cc
fine_nothing v arrays false = tt

-- a function's first variables
pub fine_first : (v : Sight) (arrays : List Array) (ts : List CType) (ds : List Datum) → AreFine v arrays ts ds → AllFine v arrays ts (first_variables ds)
fine_first v arrays ts [] h k = fine_nothing v arrays (is_written_type (type_number ts k))
fine_first v arrays [] (d ∷ ds) h zero = h.0
fine_first v arrays [] (d ∷ ds) h (suc k) = fine_first v arrays [] ds h.1 k
fine_first v arrays (t ∷ ts) (d ∷ ds) h zero = h.0
fine_first v arrays (t ∷ ts) (d ∷ ds) h (suc k) = fine_first v arrays ts ds h.1 k
