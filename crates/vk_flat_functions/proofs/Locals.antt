-- Parameters as locals.
use Rattle.std.proofs.Common.{arith, rules, sym, ◌≡◌, ℕ, ◌+◌, ◌<◌, Bool, true, false, ◌&&◌, ◌||◌, cond, List, [], ◌∷◌, ◌++◌, length, get_or, take, Option, Some, None, is_some, refl, subst, ap, ◌∙◌, append_assoc, append-nil}
use Rattle.std.specs.Prelude.{slice_get}
use Rattle.std.specs.List.{list_all}
use Rattle.std.specs.Option.{option_or}
use Rattle.std.proofs.lemmas.List.{length-take-le, take_more}
use Rattle.std.proofs.lemmas.Option.{none-some}
use Rattle.vk_types.specs.declared.types.Ty.{Ty}
use Rattle.vk_kinds.specs.declared.heads.CType.{CType}
use Rattle.vk_kinds.specs.declared.heads.CType.TheVariants.{Int, Ptr, Void}
use Rattle.vk_kinds.specs.Types.{integer_of}
use Rattle.vk_ast.specs.declared.names.NameId.{NameId}
use Rattle.vk_ast.specs.declared.items.ParamDecl.{ParamDecl}
use Rattle.vk_ast.specs.Tree.{Tree, binary, call, cast, choice, int, name, unary, index, deref, addr}
use Rattle.vk_rules_book.specs.declared.contexts.Binding.{Binding}
use Rattle.vk_rules_book.specs.Scopes.{Scope, same_name, types_of, with_param, with_params}
use Rattle.vk_meaning.specs.Points.{Variable, variable_among, variable_named}
use Rattle.vk_construct.specs.Adds.{Written}
use Rattle.vk_construct.specs.Trees.{param_table}
use Rattle.vk_construct.proofs.Names.{AreNamed, variables_of}
use Rattle.vk_one_return.specs.Form.{is_integer, is_name, is_param, is_plain}
use Rattle.vk_flat.specs.declared.locals.Local.{Local}
use Rattle.vk_flat.specs.Locals.{AreLocals, ArePlaces, IsVariable, is_numeric, local_named}
use Rattle.vk_flat.specs.Values.{is_value}
use Rattle.vk_flat_functions.specs.Params.{AreParams, IsParam}

-- ---- one parameter more

pub params_more : (k : ℕ) (ps : List ParamDecl) (xs : List Local) (p : ParamDecl) (x : Local) → AreParams k ps xs → IsParam (k + length ps) p x → AreParams k (ps ++ p ∷ []) (xs ++ x ∷ [])
params_more k [] [] p x h i = (subst (λ n. IsParam n p x) (omega arith) i, tt)
params_more k [] (y ∷ xs) p x h i = absurd h
params_more k (q ∷ ps) [] p x h i = absurd h
params_more k (q ∷ ps) (y ∷ xs) p x h i = (h.0, params_more (k + 1) ps xs p x h.1 (subst (λ n. IsParam n p x) (omega arith) i))

pub params_next : (ps : List ParamDecl) (xs ys : List Local) (i : ℕ) (d : ParamDecl) (x : Local) → i < length ps → ys ≡ xs ++ x ∷ [] → AreParams 0 (take i ps) xs → IsParam i (get_or ps i d) x →
    AreParams 0 (take (i + 1) ps) ys
params_next ps xs ys i d x below is h one = subst (λ l. AreParams 0 l ys) (sym (take_more ps i d below)) (subst (λ l. AreParams 0 (take i ps ++ get_or ps i d ∷ []) l) (sym is)
    (params_more 0 (take i ps) xs (get_or ps i d) x h (subst (λ n. IsParam n (get_or ps i d) x) (count (length (take i ps)) (length-take-le i ps (omega (arith, below)))) one)))
  where
    count : (n : ℕ) → n ≡ i → i ≡ 0 + n
    count n e = omega (arith, e)

-- the same lists
pub handed : (ps qs : List ParamDecl) (xs ys : List Local) → ps ≡ qs → ys ≡ xs → AreParams 0 ps xs → AreParams 0 qs ys
handed ps qs xs ys e f h = subst (λ l. AreParams 0 qs l) (sym f) (subst (λ l. AreParams 0 l xs) e h)

-- ---- names

pub named : (k : ℕ) (ps : List ParamDecl) (xs : List Local) → AreParams k ps xs → AreNamed ps
named k [] xs h = tt
named k (p ∷ ps) [] h = absurd h
named k (p ∷ ps) (x ∷ xs) h = (ap is_some h.0.name, named (k + 1) ps xs h.1)

seen : (k : ℕ) (ps : List ParamDecl) (xs : List Local) (id : NameId) → AreParams k ps xs → is_param ps id ≡ true → is_some (local_named xs id) ≡ true
seen k [] xs id h e = cc
seen k (p ∷ ps) [] id h e = absurd h
seen k (p ∷ ps) (x ∷ xs) id h e = go (local_named xs id) (same_name x.name id) (is_param ps id) (seen (k + 1) ps xs id h.1) (ap (λ n. is_name n id || is_param ps id) (sym h.0.name) ∙ e)
  where
    go : (o : Option Local) (same rest : Bool) → (rest ≡ true → is_some o ≡ true) → (same || rest) ≡ true → is_some (option_or o (cond same (Some x) None)) ≡ true
    go (Some y) same rest next f = refl
    go None true rest next f = refl
    go None false rest next f = next f

first : (a b : Bool) → (a && b) ≡ true → a ≡ true
first true b h = refl
first false b h = h

second : (a b : Bool) → (a && b) ≡ true → b ≡ true
second true b h = h
second false b h = cc

both : (a b : Bool) → a ≡ true → b ≡ true → (a && b) ≡ true
both true b h i = i
both false b h i = h

pub numeric : (k : ℕ) (ps : List ParamDecl) (xs : List Local) → AreParams k ps xs → (e : Tree) → is_plain ps e ≡ true → is_numeric xs e ≡ true
numeric k ps xs h (int l p t n) e = refl
numeric k ps xs h (name l p id) e = seen k ps xs id h e
numeric k ps xs h (cast l p t a) e = numeric k ps xs h a e
numeric k ps xs h (unary l p op a) e = numeric k ps xs h a e
numeric k ps xs h (binary l p op a b) e = both _ _ (numeric k ps xs h a (first _ _ e)) (numeric k ps xs h b (second _ _ e))
numeric k ps xs h (choice l p c a b) e = let
    tests : (is_plain ps c && is_plain ps a) ≡ true = first (is_plain ps c && is_plain ps a) (is_plain ps b) e in
    both (is_numeric xs c && is_numeric xs a) (is_numeric xs b)
    (both (is_numeric xs c) (is_numeric xs a) (numeric k ps xs h c (first (is_plain ps c) (is_plain ps a) tests)) (numeric k ps xs h a (second (is_plain ps c) (is_plain ps a) tests)))
    (numeric k ps xs h b (second (is_plain ps c && is_plain ps a) (is_plain ps b) e))
numeric k ps xs h (index l p a b) e = e
numeric k ps xs h (deref l p a) e = e
numeric k ps xs h (addr l p a) e = e
numeric k ps xs h (call l p id es) e = e

-- ---- registers

at_length : {A : Type 0} → (before : List A) (x : A) (rest : List A) → slice_get (before ++ x ∷ rest) (length before) ≡ Some x
at_length [] x rest = refl
at_length (y ∷ ys) x rest = at_length ys x rest

some_same : (a b : Local) → Some a ≡ Some b → a ≡ b
some_same a b f = cc

longer : (b : List CType) (t : CType) → length (b ++ t ∷ []) ≡ length b + 1
longer [] t = refl
longer (u ∷ us) t = omega (arith, longer us t)

place_at : (k : ℕ) (before : List CType) (ps : List ParamDecl) (xs : List Local) (id : NameId) (x : Local) → k ≡ length before → AreParams k ps xs → local_named xs id ≡ Some x →
    slice_get (before ++ types_of ps) x.place.register ≡ Some (Int x.place.ty)
place_at k before [] [] id x e h is = absurd (none-some x is)
place_at k before [] (y ∷ xs) id x e h is = absurd h
place_at k before (p ∷ ps) [] id x e h is = absurd h
place_at k before (p ∷ ps) (y ∷ xs) id x e h is = go (local_named xs id) (same_name y.name id) (λ f. place_at (k + 1) (before ++ p.ctype ∷ []) ps xs id x (omega (arith, e, longer before p.ctype)) h.1 f) refl is
  where
    here : slice_get (before ++ p.ctype ∷ types_of ps) y.place.register ≡ Some (Int y.place.ty)
    here = subst (λ r. slice_get (before ++ p.ctype ∷ types_of ps) r ≡ Some (Int y.place.ty)) (sym (h.0.place ∙ e)) (at_length before p.ctype (types_of ps) ∙ ap Some h.0.ctype)

    go : (o : Option Local) (same : Bool) → (local_named xs id ≡ Some x → slice_get ((before ++ p.ctype ∷ []) ++ types_of ps) x.place.register ≡ Some (Int x.place.ty)) → local_named xs id ≡ o →
        option_or o (cond same (Some y) None) ≡ Some x → slice_get (before ++ p.ctype ∷ types_of ps) x.place.register ≡ Some (Int x.place.ty)
    go (Some z) same next f g = ap (λ l. slice_get l x.place.register) (sym (append_assoc before (p.ctype ∷ []) (types_of ps))) ∙ next (f ∙ g)
    go None true next f g = subst (λ z. slice_get (before ++ p.ctype ∷ types_of ps) z.place.register ≡ Some (Int z.place.ty)) (some_same y x g) here
    go None false next f g = absurd (none-some x g)

pub places : (w : Written) (ps : List ParamDecl) (xs : List Local) → w.regs ≡ types_of ps → AreParams 0 ps xs → ArePlaces w xs
places w ps xs e h id x is = ap (λ l. slice_get l x.place.register) e ∙ place_at 0 [] ps xs id x refl h is

-- ---- variables

abbrev bindings_of : List Local → List ParamDecl → List Binding
bindings_of [] ps = []
bindings_of (x ∷ xs) [] = []
bindings_of (x ∷ xs) (p ∷ ps) = record { name = x.name; ctype = p.ctype; fixed = p.fixed } ∷ bindings_of xs ps

inner_is : (scope : Scope) (k : ℕ) (ps : List ParamDecl) (xs : List Local) → AreParams k ps xs → (with_params scope ps).inner ≡ scope.inner ++ bindings_of xs ps
unfolding with_params
inner_is scope k [] [] h = sym (append-nil scope.inner)
inner_is scope k [] (x ∷ xs) h = absurd h
inner_is scope k (p ∷ ps) [] h = absurd h
inner_is scope k (p ∷ ps) (x ∷ xs) h =
    ap (λ o. (with_params (with_param scope o p) ps).inner) h.0.name
    ∙ (inner_is (with_param scope (Some x.name) p) (k + 1) ps xs h.1 ∙ append_assoc scope.inner (record { name = x.name; ctype = p.ctype; fixed = p.fixed } ∷ []) (bindings_of xs ps))

-- a local and a variable are of one parameter, or there is neither
data Alike : Option Local → Option Variable → Type 0 where
  neither : Alike None None
  alike : (x : Local) (v : Variable) → v.ctype ≡ Int x.place.ty → v.number ≡ x.place.register → Alike (Some x) (Some v)

found_alike : (k : ℕ) (ps : List ParamDecl) (xs : List Local) (id : NameId) → AreParams k ps xs → Alike (local_named xs id) (variable_among k (bindings_of xs ps) id)
found_alike k [] [] id h = neither
found_alike k [] (x ∷ xs) id h = absurd h
found_alike k (p ∷ ps) [] id h = absurd h
found_alike k (p ∷ ps) (x ∷ xs) id h = go (local_named xs id) (variable_among (k + 1) (bindings_of xs ps) id) (same_name x.name id) (found_alike (k + 1) ps xs id h.1)
  where
    go : (o : Option Local) (v : Option Variable) (same : Bool) → Alike o v → Alike (option_or o (cond same (Some x) None)) (option_or v (cond same (Some (record { number = k; ctype = p.ctype })) None))
    go (Some y) (Some v) same (alike _ _ t r) = alike y v t r
    go None None true neither = alike x (record { number = k; ctype = p.ctype }) h.0.ctype (sym h.0.place)
    go None None false neither = neither
    go None (Some v) same a = elim a [ ]
    go (Some y) None same a = elim a [ ]

-- what the local says of its name
says : (scope : Scope) (id : NameId) (x : Local) (o : Option Local) (v : Option Variable) → o ≡ Some x → variable_named scope id ≡ v → Alike o v → IsVariable scope (param_table scope) id x.place
says scope id x None None is e neither = absurd (none-some x is)
says scope id x None (Some v) is e a = elim a [ ]
says scope id x (Some y) None is e a = elim a [ ]
says scope id x (Some y) (Some v) is e (alike _ _ t r) = let
    same : y ≡ x = some_same y x is in
    subst (λ z. IsVariable scope (param_table scope) id z.place) same (record { variable = v; named = e; ctype = t; register = r })

pub locals : (scope : Scope) (ps : List ParamDecl) (xs : List Local) → scope.inner ≡ [] → AreParams 0 ps xs → AreLocals xs (with_params scope ps) (param_table (with_params scope ps))
locals scope ps xs none h = record {
  each = λ id x is. says (with_params scope ps) id x (local_named xs id) (variable_among 0 (bindings_of xs ps) id) is
      (ap (λ bs. variable_among 0 bs id) (inner_is scope 0 ps xs h ∙ ap (λ l. l ++ bindings_of xs ps) none)) (found_alike 0 ps xs id h);
  variables = variables_of (λ v. v) (with_params scope ps);
}

-- ---- types

int_value : (t : Ty) → is_value (Int t) ≡ true
int_value t = search rules

integer_value : (t : CType) → is_some (integer_of t) ≡ true → is_value t ≡ true
integer_value Void h = cc
integer_value (Int t) h = int_value t
integer_value (Ptr to written) h = cc

pub integer_values : (ps : List ParamDecl) → list_all is_integer ps ≡ true → list_all is_value (types_of ps) ≡ true
integer_values [] h = refl
integer_values (p ∷ ps) h = both (is_value p.ctype) (list_all is_value (types_of ps))
    (integer_value p.ctype (second (is_some p.name) (is_some (integer_of p.ctype)) (first (is_integer p) (list_all is_integer ps) h)))
    (integer_values ps (second (is_integer p) (list_all is_integer ps) h))
