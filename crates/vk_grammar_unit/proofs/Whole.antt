-- Each text of a unit within the limits is read as its items.
use Rattle.std.proofs.Common.{◌≡◌, ◌≤◌, ◌<◌, ◌+◌, ℕ, zero, suc, Bool, true, false, List, [], ◌∷◌, ◌++◌, length, Option, Some, None, Ok, refl, sym, ap, ◌∙◌, subst, append_assoc, append-nil, length-append, arith, true≢false}
use Rattle.vk_types.specs.declared.types.Ty.{Ty}
use Rattle.vk_kinds.specs.declared.heads.CType.{CType}
use Rattle.vk_kinds.specs.declared.heads.CType.TheVariants as ctype
use Rattle.vk_ast.specs.declared.items.ParamDecl.{ParamDecl}
use Rattle.vk_ast.specs.Tree.{Tree}
use Rattle.vk_ast.specs.Statements.{StmtTree}
use Rattle.vk_ast.specs.Directives.{DirectiveTree}
use Rattle.vk_ast.specs.Units.{ItemTree}
use Rattle.vk_tokens.specs.declared.tokens.Mark.{Mark}
use Rattle.vk_tokens.specs.declared.tokens.Mark.TheVariants as mark
use Rattle.vk_grammar_expr.specs.declared.symbols.Sym.{Sym}
use Rattle.vk_grammar_expr.specs.declared.symbols.SymKind.{SymKind}
use Rattle.vk_grammar_expr.specs.declared.symbols.SymKind.TheVariants as kind
use Rattle.vk_grammar_expr.specs.declared.symbols.Keyword.{Keyword}
use Rattle.vk_grammar_expr.specs.declared.symbols.Keyword.TheVariants as keyword
use Rattle.vk_grammar_expr.specs.Symbols.{head, line_at, number_at, Is, IsSign, is_sign, same_mark, operator_of, is_type_part, is_start}
use Rattle.vk_grammar_expr.specs.Types.{IsType, type_in}
use Rattle.vk_grammar_expr.specs.Grammar.{Tall}
use Rattle.vk_grammar_expr.specs.Inner.Parser.{take, many}
use Rattle.vk_grammar_expr.specs.Inner.Reading.{type_words}
use Rattle.vk_grammar_expr.proofs.Signs.{sign_is}
use Rattle.vk_grammar_expr.proofs.Starts.{spelled_starts}
use Rattle.vk_grammar_expr.proofs.Stops.{StopsAll, sign_stops, comma_stops}
use Rattle.vk_grammar_expr.proofs.Equations
use Rattle.vk_grammar_stmt.specs.Words.{IsKeyword, is_keyword, same_keyword, name_at, has_const}
use Rattle.vk_grammar_stmt.specs.Trees.{Clauses, directive_at}
use Rattle.vk_grammar_stmt.specs.Grammar.{IsBlock, in_braces}
use Rattle.vk_grammar_stmt.specs.Inner.Reading.{cond, optional, body}
use Rattle.vk_grammar_stmt.proofs.Signs.{Parted, keyword_kind, keyword_is}
use Rattle.vk_grammar_stmt.proofs.Forms.{type_parted, starts_parted}
use Rattle.vk_grammar_stmt.proofs.Parts.{semicolon_ends, bracket_ends, cond_reads, optional_reads, starts_no_sign, parted_line, parted_number}
use Rattle.vk_grammar_stmt.proofs.Whole.{body_reads}
use Rattle.vk_grammar_unit.specs.Items
use Rattle.vk_grammar_unit.specs.Items.{Named, is_qualifier, is_line, is_end, pointer_to, with_name, without_name, all_named, function_tree, ObjectType, Initial, no_initial, object_tree, lost_lines, body_levels, item_levels, unit_levels}
use Rattle.vk_grammar_unit.specs.Grammar
use Rattle.vk_grammar_unit.specs.Grammar.{IsName, IsExtern, no_extern, an_extern, AreLines, no_lines, a_line, AreQualifiers, no_qualifiers, a_qualifier, IsParamRest, value_unnamed, value_named, pointer_unnamed, pointer_named, an_array, IsParam, a_param, AreMoreParams, AreParams, no_params, void_params, some_params, IsBody, declared, defined, IsFunction, a_function, IsLength, no_array, a_length, AreMoreValues, last_value, last_comma, next_value, AreValues, no_values, some_values, IsInitial, not_initial, a_scalar, a_list, IsObject, an_object, AreMoreObjects, AreObjects, IsItem, void_function, int_function, some_objects, AreItems, last_lines, next_item}
use Rattle.vk_grammar_unit.specs.Inner.Reading as read
use Rattle.vk_grammar_unit.specs.Inner.Reading.{named_by}
use Rattle.vk_grammar_unit.proofs.Forms

-- what a test tells of a token of a known kind
at_kind : {A : Type 0} {k : SymKind} {t : Sym} (f : Option SymKind → A) → Is k t → f (Some t.kind) ≡ f (Some k)
at_kind f i = ap (λ z. f (Some z)) i.is

-- ---- names and lines

name_reads : {n : Named} {x : List Sym} (r : List Sym) → IsName n x → read.name (x ++ r) ≡ Ok (n, r)
unfolding read.name name_at
name_reads r (Grammar.a_name i) = rw i.is refl

extern_reads : {outside : Bool} {o : List Sym} (r : List Sym) → IsExtern outside o → is_keyword keyword.Extern (head r) ≡ false → read.extern_word (o ++ r) ≡ Ok (outside, r)
unfolding read.extern_word
extern_reads r no_extern n = rw n refl
extern_reads r (an_extern i) n = rw (keyword_is i) refl

line_reads : (clauses : Clauses) {n : ℕ} {t : Sym} (r : List Sym) → Is (kind.Simdfn n) t → read.line clauses (t ∷ r) ≡ Ok (directive_at clauses t n, r)
unfolding read.line Items.line_at
line_reads clauses r i = rw i.is refl

abbrev at_line : Option SymKind → Bool
at_line k = is_line (Items.line_at k)

lines_read : (clauses : Clauses) {ls : List DirectiveTree} {x : List Sym} (n : ℕ) (r : List Sym) → AreLines clauses ls x → length x < n → at_line (head r) ≡ false → many n at_line (read.line clauses) (x ++ r) ≡ Ok (ls, r)
unfolding Items.line_at
lines_read clauses zero r d l e = absurd (omega (arith, l))
lines_read clauses (suc n) r no_lines l e = Equations.many_end at_line (read.line clauses) n r e
lines_read clauses (suc n) r (a_line {t = t} {x = x} i d) l e = Equations.many_more at_line (read.line clauses) n (t ∷ (x ++ r)) (x ++ r) r (at_kind at_line i) (line_reads clauses (x ++ r) i) (lines_read clauses n r d (omega (arith, l)) e)

-- ---- what ends parts of a declaration

-- behind a parameter stands a `,` or a `)`
record Closes (k : Option SymKind) : Type 0 where
  no_name : name_at k ≡ None
  no_star : is_sign mark.Star k ≡ false
  no_bracket : is_sign mark.OpenBracket k ≡ false
  no_qualifier : is_qualifier k ≡ false
  no_type : is_type_part k ≡ false

comma_closes : {t : Sym} → IsSign mark.Comma t → Closes (Some t.kind)
unfolding name_at is_sign same_mark is_qualifier is_type_part
comma_closes i = record { no_name = at_kind name_at i; no_star = at_kind (is_sign mark.Star) i; no_bracket = at_kind (is_sign mark.OpenBracket) i; no_qualifier = at_kind is_qualifier i; no_type = at_kind is_type_part i }

paren_closes : {t : Sym} → IsSign mark.CloseParen t → Closes (Some t.kind)
unfolding name_at is_sign same_mark is_qualifier is_type_part
paren_closes i = record { no_name = at_kind name_at i; no_star = at_kind (is_sign mark.Star) i; no_bracket = at_kind (is_sign mark.OpenBracket) i; no_qualifier = at_kind is_qualifier i; no_type = at_kind is_type_part i }

paren_no_comma : {t : Sym} → IsSign mark.CloseParen t → is_sign mark.Comma (Some t.kind) ≡ false
unfolding is_sign same_mark
paren_no_comma i = at_kind (is_sign mark.Comma) i

-- behind an object stands a `,` or a `;`
record ObjectEnds (k : Option SymKind) : Type 0 where
  stops : StopsAll k
  no_bracket : is_sign mark.OpenBracket k ≡ false
  no_assign : is_sign mark.Assign k ≡ false
  no_paren : is_sign mark.OpenParen k ≡ false

comma_ends_object : {t : Sym} → IsSign mark.Comma t → ObjectEnds (Some t.kind)
unfolding is_sign same_mark
comma_ends_object i = record { stops = comma_stops i; no_bracket = at_kind (is_sign mark.OpenBracket) i; no_assign = at_kind (is_sign mark.Assign) i; no_paren = at_kind (is_sign mark.OpenParen) i }

semicolon_ends_object : {t : Sym} → IsSign mark.Semicolon t → ObjectEnds (Some t.kind)
unfolding is_sign same_mark
semicolon_ends_object i = record { stops = semicolon_ends.stops i; no_bracket = at_kind (is_sign mark.OpenBracket) i; no_assign = at_kind (is_sign mark.Assign) i; no_paren = at_kind (is_sign mark.OpenParen) i }

semicolon_no_comma : {t : Sym} → IsSign mark.Semicolon t → is_sign mark.Comma (Some t.kind) ≡ false
unfolding is_sign same_mark
semicolon_no_comma i = at_kind (is_sign mark.Comma) i

-- behind a value in braces stands a `,` or a `}`
brace_stops : {t : Sym} → IsSign mark.CloseBrace t → StopsAll (Some t.kind)
unfolding operator_of same_mark
brace_stops i = sign_stops i refl refl refl refl

brace_no_comma : {t : Sym} → IsSign mark.CloseBrace t → is_sign mark.Comma (Some t.kind) ≡ false
unfolding is_sign same_mark
brace_no_comma i = at_kind (is_sign mark.Comma) i

close_brace_no_start : is_start (Some (kind.Sign mark.CloseBrace)) ≡ false
unfolding is_start
close_brace_no_start = refl

open_brace_no_start : is_start (Some (kind.Sign mark.OpenBrace)) ≡ false
unfolding is_start
open_brace_no_start = refl

-- a word of a type is no sign and no other keyword
type_no_sign : (m : Mark) (k : SymKind) → is_type_part (Some k) ≡ true → is_sign m (Some k) ≡ false
unfolding is_type_part is_sign
type_no_sign m (kind.Sign s) e = absurd (true≢false (sym e))
type_no_sign m _ e = refl

type_no_void : (k : SymKind) → is_type_part (Some k) ≡ true → is_keyword keyword.Void (Some k) ≡ false
unfolding is_type_part is_keyword same_keyword
type_no_void (kind.Keyword keyword.Void) e = absurd (true≢false (sym e))
type_no_void (kind.Keyword w) e = go w e
  where
    go : (w : Keyword) → is_type_part (Some (kind.Keyword w)) ≡ true → is_keyword keyword.Void (Some (kind.Keyword w)) ≡ false
    go keyword.Const e = refl
    go keyword.Void e = absurd (true≢false (sym e))
    go _ e = absurd (true≢false (sym e))
type_no_void _ e = refl

type_no_extern : (k : SymKind) → is_type_part (Some k) ≡ true → is_keyword keyword.Extern (Some k) ≡ false
unfolding is_type_part
type_no_extern k e = go (is_keyword keyword.Extern (Some k)) refl
  where
    go : (b : Bool) → is_keyword keyword.Extern (Some k) ≡ b → is_keyword keyword.Extern (Some k) ≡ false
    go false j = j
    go true j = absurd (true≢false (sym e ∙ ap (λ z. is_type_part (Some z)) (keyword_kind keyword.Extern k j)))

-- ---- parameters

module _ (e turns l k : ℕ) (ty : Ty) (fixed : Bool) where
  array_reads : {n : Named} {u : Sym} {c : Option Tree} (w r : List Sym) → IsSign mark.OpenBracket u → optional e turns mark.CloseBracket w ≡ Ok (c, r)
      → read.array_param e turns ty fixed n (u ∷ w) ≡ Ok (with_name n (pointer_to ty fixed) false, r)
  unfolding read.array_param
  array_reads w r i o = rw (sign_is i, o) refl

  no_array_reads : {n : Named} (r : List Sym) → is_sign mark.OpenBracket (head r) ≡ false → read.array_param e turns ty fixed n r ≡ Ok (with_name n (ctype.Int ty) fixed, r)
  unfolding read.array_param
  no_array_reads r i = rw i refl

  value_reads : {n : Named} {x : List Sym} {p : ParamDecl} (w r : List Sym) → IsName n x → read.array_param e turns ty fixed n w ≡ Ok (p, r) → read.param_rest e turns l k ty fixed (x ++ w) ≡ Ok (p, r)
  unfolding read.param_rest read.value_param name_at is_sign
  value_reads w r (Grammar.a_name i) a = rw (i.is, a) refl

  no_value_reads : (r : List Sym) → Closes (head r) → read.param_rest e turns l k ty fixed r ≡ Ok (without_name l k (ctype.Int ty) fixed, r)
  unfolding read.param_rest read.value_param
  no_value_reads r c = rw (c.no_star, c.no_name) refl

  pointer_reads : {u : Sym} {q : List Sym} {p : ParamDecl} (w w2 r : List Sym) → IsSign mark.Star u → many turns is_qualifier take w ≡ Ok (q, w2)
      → read.pointer_name e turns l k (pointer_to ty fixed) (has_const q) w2 ≡ Ok (p, r) → read.param_rest e turns l k ty fixed (u ∷ w) ≡ Ok (p, r)
  unfolding read.param_rest read.pointer_param
  pointer_reads w w2 r i m a = rw (sign_is i, m, a) refl

  pointer_named_reads : {c : CType} {f : Bool} {n : Named} {x : List Sym} (r : List Sym) → IsName n x → read.pointer_name e turns l k c f (x ++ r) ≡ Ok (with_name n c f, r)
  unfolding read.pointer_name name_at
  pointer_named_reads r (Grammar.a_name i) = rw i.is refl

  pointer_unnamed_reads : {c : CType} {f : Bool} (r : List Sym) → name_at (head r) ≡ None → read.pointer_name e turns l k c f r ≡ Ok (without_name l k c f, r)
  unfolding read.pointer_name
  pointer_unnamed_reads r i = rw i refl

  qualifiers_read : {q : List Sym} (n : ℕ) (r : List Sym) → AreQualifiers q → length q < n → is_qualifier (head r) ≡ false → many n is_qualifier take (q ++ r) ≡ Ok (q, r)
  qualifiers_read zero r d len i = absurd (omega (arith, len))
  qualifiers_read (suc n) r no_qualifiers len i = Equations.many_end is_qualifier take n r i
  qualifiers_read (suc n) r (a_qualifier {t = t} {q = q} p d) len i = Equations.many_more is_qualifier take n (t ∷ (q ++ r)) (q ++ r) r p refl (qualifiers_read n r d (omega (arith, len)) i)

  name_no_qualifier : {n : Named} {x : List Sym} (r : List Sym) → IsName n x → is_qualifier (head (x ++ r)) ≡ false
  unfolding is_qualifier
  name_no_qualifier r (Grammar.a_name i) = at_kind is_qualifier i

  name_no_type : {n : Named} {x : List Sym} (r : List Sym) → IsName n x → is_type_part (head (x ++ r)) ≡ false
  unfolding is_type_part
  name_no_type r (Grammar.a_name i) = at_kind is_type_part i

  star_no_type : {u : Sym} → IsSign mark.Star u → is_type_part (Some u.kind) ≡ false
  unfolding is_type_part
  star_no_type i = at_kind is_type_part i

  rest_reads : {p : ParamDecl} {h : ℕ} {x : List Sym} (r : List Sym) → IsParamRest l k ty fixed p h x → h ≤ suc e → length x < turns → Closes (head r)
      → read.param_rest e turns l k ty fixed (x ++ r) ≡ Ok (p, r)
  rest_reads r value_unnamed hi len c = no_value_reads r c
  rest_reads r (value_named name) hi len c = value_reads r r name (no_array_reads r c.no_bracket)
  rest_reads r (pointer_unnamed {q = q} i are) hi len c = pointer_reads (q ++ r) r r i (qualifiers_read turns r are (omega (arith, len)) c.no_qualifier) (pointer_unnamed_reads r c.no_name)
  rest_reads r (pointer_named {u = u} {q = q} {x = x} i are name) hi len c = ap (λ z. read.param_rest e turns l k ty fixed (u ∷ z)) (append_assoc q x r)
      ∙ pointer_reads (q ++ (x ++ r)) (x ++ r) r i (qualifiers_read turns (x ++ r) are (omega (arith, len, length-append q x)) (name_no_qualifier r name)) (pointer_named_reads r name)
  rest_reads r (an_array {x = x} {u = u} {y = y} name i o) hi len c = ap (λ z. read.param_rest e turns l k ty fixed z) (append_assoc x (u ∷ y) r)
      ∙ value_reads (u ∷ (y ++ r)) r name (array_reads (y ++ r) r i (optional_reads e turns r bracket_ends o hi (omega (arith, len, length-append x (u ∷ y)))))

  rest_no_type : {p : ParamDecl} {h : ℕ} {x : List Sym} (r : List Sym) → IsParamRest l k ty fixed p h x → Closes (head r) → is_type_part (head (x ++ r)) ≡ false
  rest_no_type r value_unnamed c = c.no_type
  rest_no_type r (value_named name) c = name_no_type r name
  rest_no_type r (pointer_unnamed i are) c = star_no_type i
  rest_no_type r (pointer_named i are name) c = star_no_type i
  rest_no_type r (an_array {x = x} {u = u} {y = y} name i o) c = ap (λ z. is_type_part (head z)) (append_assoc x (u ∷ y) r) ∙ name_no_type (u ∷ (y ++ r)) name

module _ (e turns : ℕ) where
  type_then_rest : {c : List Sym} {p : ParamDecl} (w r : List Sym) → type_words turns (c ++ w) ≡ Ok (c, w) → read.param_rest e turns (line_at (c ++ w)) (number_at (c ++ w)) (type_in c) (has_const c) w ≡ Ok (p, r)
      → read.param e turns (c ++ w) ≡ Ok (p, r)
  unfolding read.param
  type_then_rest w r t p = rw t p

  param_reads : {p : ParamDecl} {h : ℕ} {x : List Sym} (r : List Sym) → IsParam p h x → h ≤ suc e → length x < turns → Closes (head r) → read.param e turns (x ++ r) ≡ Ok (p, r)
  param_reads r (a_param {c = c} {p = p} {x = x} t d) hi l closes = ap (read.param e turns) (append_assoc c x r)
      ∙ type_then_rest (x ++ r) r (Equations.words_read turns (x ++ r) t (omega (arith, l, length-append c x)) (rest_no_type e turns (line_at c) (number_at c) (type_in c) (has_const c) r d closes))
      (subst (λ z. read.param_rest e turns z (number_at (c ++ (x ++ r))) (type_in c) (has_const c) (x ++ r) ≡ Ok (p, r)) (sym (first_line c (x ++ r) t))
      (subst (λ z. read.param_rest e turns (line_at c) z (type_in c) (has_const c) (x ++ r) ≡ Ok (p, r)) (sym (first_number c (x ++ r) t)) (rest_reads e turns (line_at c) (number_at c) (type_in c) (has_const c) r d hi (omega (arith, l, length-append c x)) closes)))
    where
      of_type : (c : List Sym) → IsType c → Parted c
      of_type c t = subst Parted (append-nil c) (type_parted [] t)

      first_line : (c w : List Sym) → IsType c → line_at (c ++ w) ≡ line_at c
      first_line c w t = parted_line w (of_type c t)

      first_number : (c w : List Sym) → IsType c → number_at (c ++ w) ≡ number_at c
      first_number c w t = parted_number w (of_type c t)

  param_type : {p : ParamDecl} {h : ℕ} {x : List Sym} (r : List Sym) → IsParam p h x → is_type_part (head (x ++ r)) ≡ true
  param_type r (a_param {c = c} {x = x} t d) = ap (λ z. is_type_part (head z)) (append_assoc c x r) ∙ Equations.type_begins (x ++ r) t

  later_reads : {t : Sym} {p : ParamDecl} (w r : List Sym) → IsSign mark.Comma t → read.param e turns w ≡ Ok (p, r) → read.later_param e turns (t ∷ w) ≡ Ok (p, r)
  unfolding read.later_param
  later_reads w r i a = a

  more_close : {list : List ParamDecl} {h : ℕ} {y : List Sym} (r : List Sym) → AreMoreParams list h y → Closes (head r) → Closes (head (y ++ r))
  more_close r Grammar.AreMoreParams.none_more c = c
  more_close r (Grammar.AreMoreParams.one_more i d b) c = comma_closes i

  more_params_read : {list : List ParamDecl} {h : ℕ} {y : List Sym} (n : ℕ) (r : List Sym) → AreMoreParams list h y → h ≤ suc e → length y < turns → length y < n → Closes (head r) → is_sign mark.Comma (head r) ≡ false
      → many n (is_sign mark.Comma) (read.later_param e turns) (y ++ r) ≡ Ok (list, r)
  more_params_read zero r d hi l i c s = absurd (omega (arith, i))
  more_params_read (suc n) r Grammar.AreMoreParams.none_more hi l i c s = Equations.many_end (is_sign mark.Comma) (read.later_param e turns) n r s
  more_params_read (suc n) r (Grammar.AreMoreParams.one_more {t = t} {p = p} {h = h} {list = list} {k = k} {x = x} {y = y} i d b) hi l j c s =
      ap (λ z. many (suc n) (is_sign mark.Comma) (read.later_param e turns) (t ∷ z)) (append_assoc x y r)
      ∙ Equations.many_more (is_sign mark.Comma) (read.later_param e turns) n (t ∷ (x ++ (y ++ r))) (y ++ r) r (sign_is i)
      (later_reads (x ++ (y ++ r)) (y ++ r) i (param_reads (y ++ r) d (omega (arith, hi)) (omega (arith, l, length-append x y)) (more_close r b c)))
      (more_params_read {list = list} {h = k} {y = y} n r b (omega (arith, hi)) (omega (arith, l, length-append x y)) (omega (arith, j, length-append x y)) c s)

  some_read : {p : ParamDecl} {list : List ParamDecl} (w w2 r : List Sym) → is_type_part (head w) ≡ true → read.param e turns w ≡ Ok (p, w2) → many turns (is_sign mark.Comma) (read.later_param e turns) w2 ≡ Ok (list, r)
      → read.params e turns w ≡ Ok (p ∷ list, r)
  unfolding read.params read.some_params is_type_part
  some_read [] w2 r t a b = absurd (true≢false (sym t))
  some_read (u ∷ w) w2 r t a b = rw (type_no_sign mark.CloseParen u.kind t, type_no_void u.kind t, a, b) refl

  no_params_read : {v : Sym} (r : List Sym) → IsSign mark.CloseParen v → read.params e turns (v ∷ r) ≡ Ok ([], v ∷ r)
  unfolding read.params
  no_params_read r i = rw (sign_is i) refl

  void_no_paren : {t : Sym} → IsKeyword keyword.Void t → is_sign mark.CloseParen (Some t.kind) ≡ false
  unfolding is_sign
  void_no_paren i = at_kind (is_sign mark.CloseParen) i

  void_params_read : {t : Sym} (r : List Sym) → IsKeyword keyword.Void t → read.params e turns (t ∷ r) ≡ Ok ([], r)
  unfolding read.params
  void_params_read r i = rw (void_no_paren i, keyword_is i) refl

  params_read : {list : List ParamDecl} {h : ℕ} {x : List Sym} {v : Sym} (r : List Sym) → AreParams list h x → h ≤ suc e → length x < turns → IsSign mark.CloseParen v → read.params e turns (x ++ (v ∷ r)) ≡ Ok (list, v ∷ r)
  params_read r no_params hi l i = no_params_read r i
  params_read {v = v} r (void_params j) hi l i = void_params_read (v ∷ r) j
  params_read {v = v} r (some_params {x = x} {y = y} d b) hi l i = ap (read.params e turns) (append_assoc x y (v ∷ r))
      ∙ some_read (x ++ (y ++ (v ∷ r))) (y ++ (v ∷ r)) (v ∷ r) (param_type (y ++ (v ∷ r)) d) (param_reads (y ++ (v ∷ r)) d (omega (arith, hi)) (omega (arith, l, length-append x y)) (more_close (v ∷ r) b (paren_closes i)))
      (more_params_read turns (v ∷ r) b (omega (arith, hi)) (omega (arith, l, length-append x y)) (omega (arith, l, length-append x y)) (paren_closes i) (paren_no_comma i))

  -- ---- objects

  no_length_reads : (r : List Sym) → is_sign mark.OpenBracket (head r) ≡ false → read.array_length e turns r ≡ Ok (None, r)
  unfolding read.array_length
  no_length_reads r i = rw i refl

  length_reads : {u : Sym} {c : Option Tree} (w r : List Sym) → IsSign mark.OpenBracket u → optional e turns mark.CloseBracket w ≡ Ok (c, r) → read.array_length e turns (u ∷ w) ≡ Ok (Some c, r)
  unfolding read.array_length
  length_reads w r i o = rw (sign_is i, o) refl

  array_length_reads : {a : Option (Option Tree)} {h : ℕ} {x : List Sym} (r : List Sym) → IsLength a h x → h ≤ suc e → length x < turns → is_sign mark.OpenBracket (head r) ≡ false → read.array_length e turns (x ++ r) ≡ Ok (a, r)
  array_length_reads r no_array hi l n = no_length_reads r n
  array_length_reads r (a_length {x = x} i o) hi l n = length_reads (x ++ r) r i (optional_reads e turns r bracket_ends o hi (omega (arith, l)))

  last_value_reads : (n : ℕ) (r : List Sym) → is_sign mark.Comma (head r) ≡ false → read.more_values e turns (suc n) r ≡ Ok ([], r)
  unfolding read.more_values
  last_value_reads n r i = rw i refl

  last_comma_reads : (n : ℕ) {t v : Sym} (r : List Sym) → IsSign mark.Comma t → IsSign mark.CloseBrace v → read.more_values e turns (suc n) (t ∷ (v ∷ r)) ≡ Ok ([], v ∷ r)
  unfolding read.more_values read.value_behind
  last_comma_reads n r i j = rw (sign_is i, sign_is j) refl

  next_value_reads : (n : ℕ) {t : Sym} {a : Tall} {list : List Tree} (w w2 r : List Sym) → IsSign mark.Comma t → is_sign mark.CloseBrace (head w) ≡ false → cond e turns w ≡ Ok (a, w2) → read.more_values e turns n w2 ≡ Ok (list, r)
      → read.more_values e turns (suc n) (t ∷ w) ≡ Ok (a.tree ∷ list, r)
  unfolding read.more_values read.value_behind
  next_value_reads n w w2 r i j a b = rw (sign_is i, j, a, b) refl

  values_stop : {list : List Tree} {h : ℕ} {y : List Sym} {v : Sym} (r : List Sym) → AreMoreValues list h y → IsSign mark.CloseBrace v → StopsAll (head (y ++ (v ∷ r)))
  values_stop r last_value j = brace_stops j
  values_stop r (last_comma i) j = comma_stops i
  values_stop r (next_value i d b) j = comma_stops i

  more_values_read : {list : List Tree} {h : ℕ} {y : List Sym} {v : Sym} (n : ℕ) (r : List Sym) → AreMoreValues list h y → h ≤ suc e → length y < turns → length y < n → IsSign mark.CloseBrace v
      → read.more_values e turns n (y ++ (v ∷ r)) ≡ Ok (list, v ∷ r)
  more_values_read zero r d hi l i j = absurd (omega (arith, i))
  more_values_read {v = v} (suc n) r last_value hi l i j = last_value_reads n (v ∷ r) (brace_no_comma j)
  more_values_read {v = v} (suc n) r (last_comma c) hi l i j = last_comma_reads n r c j
  more_values_read {v = v} (suc n) r (next_value {t = t} {e = a} {h = h} {list = list} {k = k} {x = x} {y = y} c d b) hi l i j = ap (λ z. read.more_values e turns (suc n) (t ∷ z)) (append_assoc x y (v ∷ r))
      ∙ next_value_reads n (x ++ (y ++ (v ∷ r))) (y ++ (v ∷ r)) (v ∷ r) c (starts_no_sign mark.CloseBrace (y ++ (v ∷ r)) close_brace_no_start (spelled_starts d))
      (cond_reads e turns (y ++ (v ∷ r)) d (omega (arith, hi)) (omega (arith, l, length-append x y)) (values_stop r b j))
      (more_values_read {list = list} {h = k} {y = y} n r b (omega (arith, hi)) (omega (arith, l, length-append x y)) (omega (arith, i, length-append x y)) j)

  no_values_read : {v : Sym} (r : List Sym) → IsSign mark.CloseBrace v → read.values e turns (v ∷ r) ≡ Ok ([], v ∷ r)
  unfolding read.values
  no_values_read r i = rw (sign_is i) refl

  some_values_read : {a : Tall} {list : List Tree} (w w2 r : List Sym) → is_sign mark.CloseBrace (head w) ≡ false → cond e turns w ≡ Ok (a, w2) → read.more_values e turns turns w2 ≡ Ok (list, r) → read.values e turns w ≡ Ok (a.tree ∷ list, r)
  unfolding read.values
  some_values_read w w2 r i a b = rw (i, a, b) refl

  values_read : {list : List Tree} {h : ℕ} {x : List Sym} {v : Sym} (r : List Sym) → AreValues list h x → h ≤ suc e → length x < turns → IsSign mark.CloseBrace v → read.values e turns (x ++ (v ∷ r)) ≡ Ok (list, v ∷ r)
  values_read r no_values hi l j = no_values_read r j
  values_read {v = v} r (some_values {x = x} {y = y} d b) hi l j = ap (read.values e turns) (append_assoc x y (v ∷ r))
      ∙ some_values_read (x ++ (y ++ (v ∷ r))) (y ++ (v ∷ r)) (v ∷ r) (starts_no_sign mark.CloseBrace (y ++ (v ∷ r)) close_brace_no_start (spelled_starts d))
      (cond_reads e turns (y ++ (v ∷ r)) d (omega (arith, hi)) (omega (arith, l, length-append x y)) (values_stop r b j))
      (more_values_read turns r b (omega (arith, hi)) (omega (arith, l, length-append x y)) (omega (arith, l, length-append x y)) j)

  no_initial_reads : (r : List Sym) → is_sign mark.Assign (head r) ≡ false → read.initial e turns r ≡ Ok (no_initial, r)
  unfolding read.initial
  no_initial_reads r i = rw i refl

  scalar_reads : {t : Sym} {a : Tall} (w r : List Sym) → IsSign mark.Assign t → is_sign mark.OpenBrace (head w) ≡ false → cond e turns w ≡ Ok (a, r)
      → read.initial e turns (t ∷ w) ≡ Ok (record { items = Some (a.tree ∷ []); braced = false; line = line_at w; token = number_at w }, r)
  unfolding read.initial read.scalar_initial
  scalar_reads w r i j a = rw (sign_is i, j, a) refl

  braced_reads : {t u : Sym} {list : List Tree} {v : Sym} (w r : List Sym) → IsSign mark.Assign t → IsSign mark.OpenBrace u → read.values e turns w ≡ Ok (list, v ∷ r) → IsSign mark.CloseBrace v
      → read.initial e turns (t ∷ (u ∷ w)) ≡ Ok (record { items = Some list; braced = true; line = u.line; token = u.at }, r)
  unfolding read.initial read.braced_initial
  braced_reads w r i j a shuts = rw (sign_is i, sign_is j, a, sign_is shuts) refl

  initial_reads : {i : Initial} {h : ℕ} {x : List Sym} (r : List Sym) → IsInitial i h x → h ≤ suc e → length x < turns → ObjectEnds (head r) → read.initial e turns (x ++ r) ≡ Ok (i, r)
  initial_reads r not_initial hi l o = no_initial_reads r o.no_assign
  initial_reads r (a_scalar {e = a} {x = x} i d) hi l o = scalar_reads (x ++ r) r i (starts_no_sign mark.OpenBrace r open_brace_no_start (spelled_starts d)) (cond_reads e turns r d hi (omega (arith, l)) o.stops)
      ∙ ap (λ z. Ok (record { items = Some (a ∷ []); braced = false; line = z; token = number_at (x ++ r) }, r)) (parted_line r (starts_parted (spelled_starts d)))
      ∙ ap (λ z. Ok (record { items = Some (a ∷ []); braced = false; line = line_at x; token = z }, r)) (parted_number r (starts_parted (spelled_starts d)))
  initial_reads r (a_list {t = t} {u = u} {x = x} {v = v} i j d shuts) hi l o = ap (λ z. read.initial e turns (t ∷ (u ∷ z))) (append_assoc x (v ∷ []) r)
      ∙ braced_reads (x ++ (v ∷ r)) r i j (values_read r d hi (omega (arith, l, length-append x (v ∷ []))) shuts) shuts

  initial_no_bracket : {i : Initial} {h : ℕ} {x : List Sym} (r : List Sym) → IsInitial i h x → ObjectEnds (head r) → is_sign mark.OpenBracket (head (x ++ r)) ≡ false
  unfolding is_sign same_mark
  initial_no_bracket r not_initial o = o.no_bracket
  initial_no_bracket r (a_scalar i d) o = at_kind (is_sign mark.OpenBracket) i
  initial_no_bracket r (a_list i j d shuts) o = at_kind (is_sign mark.OpenBracket) i

  length_then_initial : {of : ObjectType} {n : Named} {a : Option (Option Tree)} {i : Initial} (w w2 r : List Sym) → read.array_length e turns w ≡ Ok (a, w2) → read.initial e turns w2 ≡ Ok (i, r)
      → read.object e turns of n w ≡ Ok (object_tree of n a i, r)
  unfolding read.object
  length_then_initial w w2 r a i = rw (a, i) refl

  object_reads : {of : ObjectType} {n : Named} {o : ItemTree} {h : ℕ} {x : List Sym} (r : List Sym) → IsObject of n o h x → h ≤ suc e → length x < turns → ObjectEnds (head r) → read.object e turns of n (x ++ r) ≡ Ok (o, r)
  object_reads {of} {n} r (an_object {x = x} {y = y} a i) hi l o = ap (read.object e turns of n) (append_assoc x y r)
      ∙ length_then_initial (x ++ (y ++ r)) (y ++ r) r (array_length_reads (y ++ r) a (omega (arith, hi)) (omega (arith, l, length-append x y)) (initial_no_bracket r i o))
      (initial_reads r i (omega (arith, hi)) (omega (arith, l, length-append x y)) o)

  later_object_reads : (of : ObjectType) {t : Sym} {n : Named} {o : ItemTree} (w w2 r : List Sym) → IsSign mark.Comma t → read.name w ≡ Ok (n, w2) → read.object e turns of n w2 ≡ Ok (o, r) → read.later_object e turns of (t ∷ w) ≡ Ok (o, r)
  unfolding read.later_object
  later_object_reads of w w2 r i n a = rw n a

  more_objects_end : {of : ObjectType} {list : List ItemTree} {h : ℕ} {y : List Sym} (r : List Sym) → AreMoreObjects of list h y → ObjectEnds (head r) → ObjectEnds (head (y ++ r))
  more_objects_end r Grammar.AreMoreObjects.none_more o = o
  more_objects_end r (Grammar.AreMoreObjects.one_more i n d b) o = comma_ends_object i

  more_objects_read : {of : ObjectType} {list : List ItemTree} {h : ℕ} {y : List Sym} (n : ℕ) (r : List Sym) → AreMoreObjects of list h y → h ≤ suc e → length y < turns → length y < n → ObjectEnds (head r) → is_sign mark.Comma (head r) ≡ false
      → many n (is_sign mark.Comma) (read.later_object e turns of) (y ++ r) ≡ Ok (list, r)
  more_objects_read zero r d hi l i o s = absurd (omega (arith, i))
  more_objects_read {of} (suc n) r Grammar.AreMoreObjects.none_more hi l i o s = Equations.many_end (is_sign mark.Comma) (read.later_object e turns of) n r s
  more_objects_read {of = of} (suc n) r (Grammar.AreMoreObjects.one_more {t = t} {n = name} {x = x} {i = i} {h = h} {y = y} {list = list} {k = k} {z = z} c m d b) hi l j o s =
      ap (λ q. many (suc n) (is_sign mark.Comma) (read.later_object e turns of) (t ∷ q)) (append_assoc (x ++ y) z r ∙ append_assoc x y (z ++ r))
      ∙ Equations.many_more (is_sign mark.Comma) (read.later_object e turns of) n (t ∷ (x ++ (y ++ (z ++ r)))) (z ++ r) r (sign_is c)
      (later_object_reads of (x ++ (y ++ (z ++ r))) (y ++ (z ++ r)) (z ++ r) c (name_reads (y ++ (z ++ r)) m)
      (object_reads (z ++ r) d (omega (arith, hi)) (omega (arith, l, length-append (x ++ y) z, length-append x y)) (more_objects_end r b o)))
      (more_objects_read {of = of} {list = list} {h = k} {y = z} n r b (omega (arith, hi)) (omega (arith, l, length-append (x ++ y) z)) (omega (arith, j, length-append (x ++ y) z)) o s)

  objects_by : (of : ObjectType) (n : Named) {o : ItemTree} {list : List ItemTree} {v : Sym} (w w2 r : List Sym) → read.object e turns of n w ≡ Ok (o, w2) → many turns (is_sign mark.Comma) (read.later_object e turns of) w2 ≡ Ok (list, v ∷ r)
      → IsSign mark.Semicolon v → read.objects e turns of n w ≡ Ok (o ∷ list, r)
  unfolding read.objects
  objects_by of n w w2 r a b i = rw (a, b, sign_is i) refl

  objects_read : {of : ObjectType} {n : Named} {list : List ItemTree} {h : ℕ} {x : List Sym} (r : List Sym) → AreObjects of n list h x → h ≤ suc e → length x < turns → read.objects e turns of n (x ++ r) ≡ Ok (list, r)
  objects_read {of} {n} r (Grammar.AreObjects.objects {x = x} {y = y} {v = v} d b i) hi l = ap (read.objects e turns of n) (append_assoc x (y ++ (v ∷ [])) r ∙ ap (λ z. x ++ z) (append_assoc y (v ∷ []) r))
      ∙ objects_by of n (x ++ (y ++ (v ∷ r))) (y ++ (v ∷ r)) r (object_reads (y ++ (v ∷ r)) d (omega (arith, hi)) (omega (arith, l, length-append x (y ++ (v ∷ [])))) (more_objects_end (v ∷ r) b (semicolon_ends_object i)))
      (more_objects_read turns (v ∷ r) b (omega (arith, hi)) (omega (arith, l, length-append x (y ++ (v ∷ [])), length-append y (v ∷ []))) (omega (arith, l, length-append x (y ++ (v ∷ [])), length-append y (v ∷ [])))
      (semicolon_ends_object i) (semicolon_no_comma i)) i

-- ---- functions

block_no_semicolon : {clauses : Clauses} {s : StmtTree} {h : ℕ} {x : List Sym} (r : List Sym) → IsBlock clauses s h x → is_sign mark.Semicolon (head (x ++ r)) ≡ false
unfolding is_sign same_mark
block_no_semicolon r (in_braces i d j) = at_kind (is_sign mark.Semicolon) i

extern_no_void : {t : Sym} → IsKeyword keyword.Void t → is_keyword keyword.Extern (Some t.kind) ≡ false
unfolding is_keyword same_keyword
extern_no_void i = at_kind (is_keyword keyword.Extern) i

type_head : (test : Option SymKind → Bool) → ((k : SymKind) → is_type_part (Some k) ≡ true → test (Some k) ≡ false) → {c : List Sym} (w : List Sym) → IsType c → test (head (c ++ w)) ≡ false
type_head test never {c} w t = let p : Parted (c ++ w) = type_parted w t in
    ap (λ z. test (head z)) p.parts ∙ never p.first.kind (sym (ap (λ z. is_type_part (head z)) p.parts) ∙ Equations.type_begins w t)

type_no_line : (k : SymKind) → is_type_part (Some k) ≡ true → at_line (Some k) ≡ false
unfolding is_type_part Items.line_at
type_no_line (kind.Simdfn n) e = absurd (true≢false (sym e))
type_no_line _ e = refl

word_no_line : {w : Keyword} {t : Sym} → IsKeyword w t → at_line (Some t.kind) ≡ false
unfolding Items.line_at
word_no_line i = at_kind at_line i

object_no_paren : {of : ObjectType} {n : Named} {o : ItemTree} {h : ℕ} {x : List Sym} (r : List Sym) → IsObject of n o h x → is_sign mark.OpenParen (head r) ≡ false → is_sign mark.OpenParen (head (x ++ r)) ≡ false
unfolding is_sign same_mark
object_no_paren r (an_object no_array not_initial) e = e
object_no_paren r (an_object no_array (a_scalar i d)) e = at_kind (is_sign mark.OpenParen) i
object_no_paren r (an_object no_array (a_list i j d k)) e = at_kind (is_sign mark.OpenParen) i
object_no_paren r (an_object (a_length i o) b) e = at_kind (is_sign mark.OpenParen) i

objects_no_paren : {of : ObjectType} {n : Named} {list : List ItemTree} {h : ℕ} {x : List Sym} (r : List Sym) → AreObjects of n list h x → is_sign mark.OpenParen (head (x ++ r)) ≡ false
objects_no_paren r (Grammar.AreObjects.objects {x = x} {y = y} {v = v} d b i) = ap (λ z. is_sign mark.OpenParen (head z)) (append_assoc x (y ++ (v ∷ [])) r ∙ ap (λ z. x ++ z) (append_assoc y (v ∷ []) r))
    ∙ object_no_paren (y ++ (v ∷ r)) d (more_objects_end 0 0 (v ∷ r) b (semicolon_ends_object i)).no_paren

module _ (clauses : Clauses) (e d turns : ℕ) where
  declared_reads : (ps : List ParamDecl) {t : Sym} (r : List Sym) → IsSign mark.Semicolon t → read.function_end clauses e d turns ps (t ∷ r) ≡ Ok (None, r)
  unfolding read.function_end
  declared_reads ps r i = rw (sign_is i) refl

  defined_reads : (ps : List ParamDecl) {s : StmtTree} (w r : List Sym) → is_sign mark.Semicolon (head w) ≡ false → all_named ps ≡ true → body clauses e turns d w ≡ Ok (s, r) → read.function_end clauses e d turns ps w ≡ Ok (Some s, r)
  unfolding read.function_end read.definition
  defined_reads ps w r i n b = rw (i, n, b) refl

  end_reads : {ps : List ParamDecl} {b : Option StmtTree} {h : ℕ} {x : List Sym} (r : List Sym) → IsBody clauses ps b h x → h ≤ suc e → length x < turns → body_levels b ≤ d → read.function_end clauses e d turns ps (x ++ r) ≡ Ok (b, r)
  end_reads {ps} r (declared i) hi l lv = declared_reads ps r i
  end_reads {ps} r (defined {x = x} n b) hi l lv = defined_reads ps (x ++ r) r (block_no_semicolon r b) n (body_reads e turns d r b hi l lv)

  function_by : (ls : List DirectiveTree) (result : CType) (n : Named) {u : Sym} {ps : List ParamDecl} {v : Sym} {b : Option StmtTree} (w w2 r : List Sym) → IsSign mark.OpenParen u → read.params e turns w ≡ Ok (ps, v ∷ w2) → IsSign mark.CloseParen v
      → read.function_end clauses e d turns ps w2 ≡ Ok (b, r) → read.function clauses e d turns ls result n (u ∷ w) ≡ Ok (function_tree n ls result ps b, r)
  unfolding read.function
  function_by ls result n w w2 r i p j b = rw (sign_is i, p, sign_is j, b) refl

  function_reads : {ls : List DirectiveTree} {result : CType} {n : Named} {f : ItemTree} {h : ℕ} {x : List Sym} (r : List Sym) → IsFunction clauses ls result n f h x → h ≤ suc e → length x < turns → item_levels f ≤ d
      → read.function clauses e d turns ls result n (x ++ r) ≡ Ok (f, r)
  function_reads {ls} {result} {n} r (a_function {u = u} {x = x} {v = v} {y = y} i p j b) hi l lv = ap (λ z. read.function clauses e d turns ls result n (u ∷ z)) (append_assoc x (v ∷ y) r)
      ∙ function_by ls result n (x ++ (v ∷ (y ++ r))) (y ++ r) r i (params_read e turns (y ++ r) p (omega (arith, hi)) (omega (arith, l, length-append x (v ∷ y))) j) j
      (end_reads r b (omega (arith, hi)) (omega (arith, l, length-append x (v ∷ y))) lv)

  one_function_reads : (ls : List DirectiveTree) (result : CType) (n : Named) {f : ItemTree} (w r : List Sym) → read.function clauses e d turns ls result n w ≡ Ok (f, r) → read.one_function clauses e d turns ls result n w ≡ Ok (f ∷ [], r)
  unfolding read.one_function
  one_function_reads ls result n w r f = rw f refl

  function_paren : {ls : List DirectiveTree} {result : CType} {n : Named} {f : ItemTree} {h : ℕ} {x : List Sym} (r : List Sym) → IsFunction clauses ls result n f h x → is_sign mark.OpenParen (head (x ++ r)) ≡ true
  function_paren r (a_function i p j b) = sign_is i

  -- ---- items

  void_by : (ls : List DirectiveTree) {outside : Bool} {t : Sym} {n : Named} {list : List ItemTree} (w w2 w3 r : List Sym) → read.extern_word w ≡ Ok (outside, t ∷ w2) → IsKeyword keyword.Void t → read.name w2 ≡ Ok (n, w3)
      → read.one_function clauses e d turns ls ctype.Void n w3 ≡ Ok (list, r) → read.item clauses e d turns ls w ≡ Ok (list, r)
  unfolding read.item read.void_function
  void_by ls w w2 w3 r x i n f = rw (x, keyword_is i, n) f

  typed_by : (ls : List DirectiveTree) {outside : Bool} {c : List Sym} {n : Named} {list : List ItemTree} (w w2 w3 w4 r : List Sym) → read.extern_word w ≡ Ok (outside, w2) → is_keyword keyword.Void (head w2) ≡ false
      → type_words turns w2 ≡ Ok (c, w3) → read.name w3 ≡ Ok (n, w4) → read.typed_item clauses e d turns ls (Forms.type_of_objects c outside) n w4 ≡ Ok (list, r) → read.item clauses e d turns ls w ≡ Ok (list, r)
  unfolding read.item read.typed
  typed_by ls w w2 w3 w4 r x v t n f = rw (x, v, t, n) f

  function_item : (ls : List DirectiveTree) (of : ObjectType) (n : Named) {list : List ItemTree} (w r : List Sym) → is_sign mark.OpenParen (head w) ≡ true → read.one_function clauses e d turns ls (ctype.Int of.ty) n w ≡ Ok (list, r)
      → read.typed_item clauses e d turns ls of n w ≡ Ok (list, r)
  unfolding read.typed_item
  function_item ls of n w r i f = rw i f

  objects_item : (ls : List DirectiveTree) (of : ObjectType) (n : Named) {list : List ItemTree} (w r : List Sym) → is_sign mark.OpenParen (head w) ≡ false → read.objects e turns of n w ≡ Ok (list, r)
      → read.typed_item clauses e d turns ls of n w ≡ Ok (lost_lines ls ++ list, r)
  unfolding read.typed_item read.lost_objects
  objects_item ls of n w r i f = rw (i, f) refl

  -- the first token of an item is no line of a directive
  item_no_line : {ls : List DirectiveTree} {list : List ItemTree} {h : ℕ} {x : List Sym} (r : List Sym) → IsItem clauses ls list h x → at_line (head (x ++ r)) ≡ false
  item_no_line r (void_function no_extern i n f) = word_no_line i
  item_no_line r (void_function (an_extern j) i n f) = word_no_line j
  item_no_line r (int_function {c = c} {x = x} {y = y} no_extern t n f) = ap (λ z. at_line (head z)) (append_assoc c (x ++ y) r) ∙ type_head at_line type_no_line ((x ++ y) ++ r) t
  item_no_line r (int_function (an_extern j) t n f) = word_no_line j
  item_no_line r (some_objects {c = c} {x = x} {y = y} no_extern t n f) = ap (λ z. at_line (head z)) (append_assoc c (x ++ y) r) ∙ type_head at_line type_no_line ((x ++ y) ++ r) t
  item_no_line r (some_objects (an_extern j) t n f) = word_no_line j

  levels_apart : (a b : List ItemTree) → unit_levels (a ++ b) ≤ d → (unit_levels a ≤ d) × (unit_levels b ≤ d)
  levels_apart [] b i = (omega arith, i)
  levels_apart (s ∷ a) b i = let rest = levels_apart a b (omega (arith, i)) in (omega (arith, i, rest.0), rest.1)

  item_reads : {ls : List DirectiveTree} {list : List ItemTree} {h : ℕ} {x : List Sym} (r : List Sym) → IsItem clauses ls list h x → h ≤ suc e → length x < turns → unit_levels list ≤ d
      → read.item clauses e d turns ls (x ++ r) ≡ Ok (list, r)
  item_reads {ls} r (void_function {o = o} {t = t} {n = n} {x = x} {y = y} x_ i name f) hi l lv =
      let size : length y < turns = omega (arith, l, length-append o (t ∷ (x ++ y)), length-append x y) in
      ap (read.item clauses e d turns ls) (append_assoc o (t ∷ (x ++ y)) r ∙ ap (λ z. o ++ (t ∷ z)) (append_assoc x y r))
      ∙ void_by ls (o ++ (t ∷ (x ++ (y ++ r)))) (x ++ (y ++ r)) (y ++ r) r (extern_reads (t ∷ (x ++ (y ++ r))) x_ (extern_no_void i)) i (name_reads (y ++ r) name)
      (one_function_reads ls ctype.Void n (y ++ r) r (function_reads r f hi size (omega (arith, lv))))
  item_reads {ls} r (int_function {outside = outside} {o = o} {c = c} {n = n} {x = x} {y = y} x_ t name f) hi l lv =
      let size : length y + (length c + length x) < turns = omega (arith, l, length-append o (c ++ (x ++ y)), length-append c (x ++ y), length-append x y) in
      let w : List Sym = x ++ (y ++ r) in
      ap (read.item clauses e d turns ls) (append_assoc o (c ++ (x ++ y)) r ∙ ap (λ z. o ++ z) (append_assoc c (x ++ y) r ∙ ap (λ z. c ++ z) (append_assoc x y r)))
      ∙ typed_by ls (o ++ (c ++ w)) (c ++ w) w (y ++ r) r (extern_reads (c ++ w) x_ (type_head (is_keyword keyword.Extern) type_no_extern w t)) (type_head (is_keyword keyword.Void) type_no_void w t)
      (Equations.words_read turns w t (omega (arith, size)) (name_no_type 0 0 0 0 (type_in c) false (y ++ r) name)) (name_reads (y ++ r) name)
      (function_item ls (Forms.type_of_objects c outside) n (y ++ r) r (function_paren r f) (one_function_reads ls (ctype.Int (type_in c)) n (y ++ r) r (function_reads r f hi (omega (arith, size)) (omega (arith, lv)))))
  item_reads {ls} r (some_objects {outside = outside} {o = o} {c = c} {n = n} {x = x} {y = y} x_ t name f) hi l lv =
      let size : length y + (length c + length x) < turns = omega (arith, l, length-append o (c ++ (x ++ y)), length-append c (x ++ y), length-append x y) in
      let w : List Sym = x ++ (y ++ r) in
      ap (read.item clauses e d turns ls) (append_assoc o (c ++ (x ++ y)) r ∙ ap (λ z. o ++ z) (append_assoc c (x ++ y) r ∙ ap (λ z. c ++ z) (append_assoc x y r)))
      ∙ typed_by ls (o ++ (c ++ w)) (c ++ w) w (y ++ r) r (extern_reads (c ++ w) x_ (type_head (is_keyword keyword.Extern) type_no_extern w t)) (type_head (is_keyword keyword.Void) type_no_void w t)
      (Equations.words_read turns w t (omega (arith, size)) (name_no_type 0 0 0 0 (type_in c) false (y ++ r) name)) (name_reads (y ++ r) name)
      (objects_item ls (Forms.type_of_objects c outside) n (y ++ r) r (objects_no_paren r f) (objects_read e turns r f hi (omega (arith, size))))

  last_by : {ls : List DirectiveTree} (n : ℕ) (w : List Sym) → read.lines clauses turns w ≡ Ok (ls, []) → read.items clauses e d turns (suc n) w ≡ Ok (lost_lines ls, [])
  unfolding read.items read.items_step
  last_by n w a = rw a refl

  next_by : {ls : List DirectiveTree} {list rest : List ItemTree} (n : ℕ) (w w2 w3 r : List Sym) → read.lines clauses turns w ≡ Ok (ls, w2) → is_end (head w2) ≡ false → read.item clauses e d turns ls w2 ≡ Ok (list, w3)
      → read.items clauses e d turns n w3 ≡ Ok (rest, r) → read.items clauses e d turns (suc n) w ≡ Ok (list ++ rest, r)
  unfolding read.items read.items_step
  next_by n w w2 w3 r a i b c = rw (a, i, b, c) refl

  all_lines_read : {ls : List DirectiveTree} {x : List Sym} (r : List Sym) → AreLines clauses ls x → length x < turns → at_line (head r) ≡ false → read.lines clauses turns (x ++ r) ≡ Ok (ls, r)
  unfolding read.lines
  all_lines_read r a l i = lines_read clauses turns r a l i

  end_no_line : at_line (head []) ≡ false
  unfolding Items.line_at
  end_no_line = refl

  part_no_end : {x : List Sym} (r : List Sym) → Parted x → is_end (head (x ++ r)) ≡ false
  part_no_end r p = ap (λ z. is_end (head (z ++ r))) p.parts

  items_read : {list : List ItemTree} {h : ℕ} {u : List Sym} (n : ℕ) → AreItems clauses list h u → h ≤ suc e → length u < turns → length u < n → unit_levels list ≤ d → read.items clauses e d turns n u ≡ Ok (list, [])
  items_read zero a hi l i lv = absurd (omega (arith, i))
  items_read (suc n) (last_lines {x = x} a) hi l i lv = ap (read.items clauses e d turns (suc n)) (sym (append-nil x)) ∙ last_by n (x ++ []) (all_lines_read [] a l end_no_line)
  items_read (suc n) (next_item {x = x} {list = list} {h = h} {y = y} {rest = rest} {k = k} {z = z} a b c) hi l i lv =
      let p = Forms.item_parted b in
      let sizes : length z + length x < length (x ++ (y ++ z)) = omega (arith, length-append x (y ++ z), length-append y z, ap length p.parts) in
      let all : length (x ++ (y ++ z)) ≡ length x + (length y + length z) = omega (arith, length-append x (y ++ z), length-append y z) in
      let parts = levels_apart list rest lv in
      next_by n (x ++ (y ++ z)) (y ++ z) z [] (all_lines_read (y ++ z) a (omega (arith, l, all)) (item_no_line z b)) (part_no_end z p)
      (item_reads z b (omega (arith, hi)) (omega (arith, l, all)) parts.0) (items_read {list = rest} {h = k} {u = z} n c (omega (arith, hi)) (omega (arith, l, sizes)) (omega (arith, i, sizes)) parts.1)

pub unit_reads : {clauses : Clauses} {list : List ItemTree} {h : ℕ} {u : List Sym} (e d turns : ℕ) → AreItems clauses list h u → h ≤ suc e → unit_levels list ≤ d → length u < turns → read.items clauses e d turns turns u ≡ Ok (list, [])
unit_reads {clauses} e d turns a hi lv l = items_read clauses e d turns turns a hi l l lv
