-- What the reader of a clause tells, against the relation.
use Rattle.std.proofs.Common.{◌≡◌, suc, ◌-◌, Bool, true, false, ◌&&◌, cond, List, [], ◌∷◌, ◌++◌, length, take, Option, Some, None, refl, sym, ap, ◌∙◌, subst, arith, length-append}
use Rattle.std.proofs.lemmas.Bool.{false≢true}
use Rattle.std.proofs.Math.Seq.{take-append_seam}
use Rattle.vk_ast.specs.declared.names.NameId.{NameId}
use Rattle.vk_ast.specs.declared.directives.PlacedName.{PlacedName}
use Rattle.vk_tokens.specs.declared.tokens.Mark.TheVariants as mark
use Rattle.vk_grammar_expr.specs.declared.symbols.Sym.{Sym}
use Rattle.vk_grammar_expr.specs.declared.symbols.SymKind.{SymKind}
use Rattle.vk_grammar_expr.specs.declared.symbols.SymKind.TheVariants as kind
use Rattle.vk_grammar_expr.specs.Symbols.{Is, IsSign}
use Rattle.vk_grammar_expr.proofs.Signs.{sign_kind, sign_is}
use Rattle.vk_parse_directives.specs.Cuts.{is_open, is_close, is_comma}
use Rattle.vk_parse_directives.specs.Clauses.{Wraps, in_parens, placed, AreIds, one_id, more_ids}
use Rattle.vk_parse_directives.specs.Inner.Reading.{◌>>=◌, named_by, name_in, ids_step, ids_in, without_last, last_closes, inside}

pub some_is : {A : Type 0} {a b : A} → Some a ≡ Some b → a ≡ b
some_is e = cc

-- a step that gave something followed one that did
pub record Gave {A B : Type 0} (o : Option A) (f : A → Option B) (b : B) : Type 0 where
  pub value : A
  pub is : o ≡ Some value
  pub then_is : f value ≡ Some b

pub gave : {A B : Type 0} (o : Option A) (f : A → Option B) {b : B} → (o >>= f) ≡ Some b → Gave o f b
gave (Some a) f e = record { value = a; is = refl; then_is = e }
gave None f e = absurd (cc)

-- a choice that gave something
pub chose : {A : Type 0} (b : Bool) (o : Option A) {a : A} → cond b o None ≡ Some a → (b ≡ true) × (o ≡ Some a)
chose true o e = (refl, e)
chose false o e = absurd (cc)

-- ---- names

-- the token is an identifier, and this is its name
pub record IsName (t : Sym) (n : PlacedName) : Type 0 where
  pub id : NameId
  pub name : Is (kind.Name id) t
  pub stands : placed t id ≡ n

name_by : (t : Sym) (k : SymKind) {n : PlacedName} → t.kind ≡ k → named_by t k ≡ Some n → IsName t n
name_by t (kind.Name id) is e = record { id = id; name = record { is = is }; stands = some_is e }
name_by t (kind.Int ty n) is e = absurd (cc)
name_by t (kind.Sign m) is e = absurd (cc)
name_by t (kind.Keyword k) is e = absurd (cc)
name_by t (kind.TypeWord w) is e = absurd (cc)
name_by t kind.LeftOut is e = absurd (cc)
name_by t (kind.Simd n) is e = absurd (cc)
name_by t (kind.Simdfn n) is e = absurd (cc)

pub a_name : {t : Sym} {n : PlacedName} → name_in t ≡ Some n → IsName t n
a_name {t = t} e = name_by t t.kind refl e

pub name_of : {t : Sym} {id : NameId} → Is (kind.Name id) t → name_in t ≡ Some (placed t id)
name_of {t = t} i = ap (named_by t) i.is

pub comma_of : {t : Sym} → is_comma t ≡ true → IsSign mark.Comma t
comma_of {t = t} e = record { is = sign_kind mark.Comma t.kind e }

pub open_of : {t : Sym} → is_open t ≡ true → IsSign mark.OpenParen t
open_of {t = t} e = record { is = sign_kind mark.OpenParen t.kind e }

pub close_of : {t : Sym} → is_close t ≡ true → IsSign mark.CloseParen t
close_of {t = t} e = record { is = sign_kind mark.CloseParen t.kind e }

pub ids_found : (x : List Sym) {ids : List PlacedName} → ids_in x ≡ Some ids → AreIds ids x
ids_found [] e = absurd (cc)
ids_found (t ∷ []) e =
    let g = gave (name_in t) (λ id. (Some []) >>= (λ later. Some (id ∷ later))) e in
    let n = a_name g.is in
    subst (λ (l : List PlacedName). AreIds l (t ∷ [])) (ap (λ (n : PlacedName). n ∷ []) n.stands ∙ some_is g.then_is) (one_id n.name)
ids_found (t ∷ u ∷ rest) e =
    let c = chose (is_comma u) (ids_step (ids_in rest) (name_in t)) e in
    let g = gave (name_in t) (λ id. ids_in rest >>= (λ later. Some (id ∷ later))) c.1 in
    let h = gave (ids_in rest) (λ later. Some (g.value ∷ later)) g.then_is in
    let n = a_name g.is in
    subst (λ (l : List PlacedName). AreIds l (t ∷ u ∷ rest)) (ap (λ (n : PlacedName). n ∷ h.value) n.stands ∙ some_is h.then_is) (more_ids n.name (comma_of c.0) (ids_found rest h.is))

pub ids_only : {ids : List PlacedName} {x : List Sym} → AreIds ids x → ids_in x ≡ Some ids
ids_only (one_id i) = rw (name_of i) refl
ids_only (more_ids i c later) = rw (sign_is c, name_of i, ids_only later) refl

-- ---- parentheses

last_open : (x : List Sym) (c : Sym) → last_closes (x ++ c ∷ []) ≡ is_close c
last_open [] c = refl
last_open (t ∷ []) c = refl
last_open (t ∷ u ∷ x) c = last_open (u ∷ x) c

front_of : (x : List Sym) (c : Sym) → without_last (x ++ c ∷ []) ≡ x
front_of x c = let n : length (x ++ c ∷ []) - 1 ≡ length x = omega (arith, length-append x (c ∷ [])) in ap (λ k. take k (x ++ c ∷ [])) n ∙ take-append_seam x (c ∷ [])

pub inside_of : {x w : List Sym} → Wraps x w → inside w ≡ Some x
inside_of (in_parens {x = x} {c = c} o close) = rw (sign_is o, last_open x c, sign_is close, front_of x c) refl

ends : (w : List Sym) → last_closes w ≡ true → (c : Sym) × (IsSign mark.CloseParen c) × (w ≡ without_last w ++ c ∷ [])
ends [] e = absurd (false≢true e)
ends (t ∷ []) e = (t, close_of e, refl)
ends (t ∷ u ∷ w) e =
    let rest = ends (u ∷ w) e in
    let one : length (t ∷ u ∷ w) - 1 ≡ suc (length (u ∷ w) - 1) = omega arith in
    (rest.0, rest.1, ap (λ (l : List Sym). t ∷ l) rest.2 ∙ ap (λ n. take n (t ∷ u ∷ w) ++ rest.0 ∷ []) (sym one))

pub wraps : (w : List Sym) {x : List Sym} → inside w ≡ Some x → Wraps x w
wraps [] e = absurd (cc)
wraps (o ∷ rest) e =
    let c = chose (is_open o && last_closes rest) (Some (without_last rest)) e in
    let both = both_true (is_open o) (last_closes rest) c.0 in
    let end = ends rest both.1 in
    subst (λ (y : List Sym). Wraps y (o ∷ rest)) (some_is c.1)
    (subst (λ (r : List Sym). Wraps (without_last rest) (o ∷ r)) (sym end.2) (in_parens (open_of both.0) end.1))
  where
    both_true : (a b : Bool) → a && b ≡ true → (a ≡ true) × (b ≡ true)
    both_true true b h = (refl, h)
    both_true false b h = absurd (false≢true h)
