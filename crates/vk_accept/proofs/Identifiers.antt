-- The functions of a unit have identifiers as names: each is a token.
use Rattle.std.proofs.Common.{◌≡◌, ℕ, suc, ◌<◌, Bool, true, false, cond, ◌&&◌, not, length, map, get_or, List, [], ◌∷◌, ◌++◌, Option, Some, None, slice_get, slice_index, unwrap_or, refl, sym, ap, subst, arith}
use Rattle.std.specs.List.{All, AllByRecursion, filter}
use Rattle.std.proofs.lemmas.Option.{slice_get-get_or}
use Rattle.vk_kinds.specs.declared.heads.CType.{CType}
use Rattle.vk_kinds.specs.declared.kinds.Target.{Target}
use Rattle.vk_ast.specs.declared.names.NameId.{NameId}
use Rattle.vk_ast.specs.Directives.{DirectiveTree}
use Rattle.vk_ast.specs.Units.{FunctionTree, ItemTree, function, object, lost_line}
use Rattle.vk_tokens.specs.Names.{IsNamed}
use Rattle.vk_tokens.specs.declared.tokens.Token.{Token}
use Rattle.vk_tokens.specs.declared.tokens.TokenKind.{TokenKind}
use Rattle.vk_tokens.specs.declared.tokens.TokenKind.TheVariants as token
use Rattle.vk_lex.specs.Tokens.{AreIdentifiers, IsIdentifier as IsWord}
use Rattle.vk_lex.specs.Characters.{is_word_start}
use Rattle.vk_grammar_expr.specs.declared.symbols.Sym.{Sym}
use Rattle.vk_grammar_expr.specs.declared.symbols.SymKind.TheVariants as kind
use Rattle.vk_grammar_expr.specs.declared.symbols.Keyword.{Keyword}
use Rattle.vk_grammar_expr.specs.declared.symbols.TypeWord.{TypeWord}
use Rattle.vk_grammar_stmt.specs.Trees.{Clauses}
use Rattle.vk_grammar_unit.specs.Items.{Named, ObjectType, lost_lines}
use Rattle.vk_grammar_unit.specs.Grammar.{IsName, a_name, IsFunction, a_function, IsObject, an_object, AreMoreObjects, none_more, one_more, AreObjects, objects, IsItem, void_function, int_function, some_objects, AreItems, last_lines, next_item}
use Rattle.vk_parse_words.specs.Words.{is_left_out, keyword_of, kind_for, other_kind, rarer_kind, type_word_of}
use Rattle.vk_parse_words.specs.Lines.{Placed, outside, placed, stands_outside, sym_kind, sym_of}
use Rattle.vk_rules_book.specs.Rules.{Subject}
use Rattle.vk_rules_book.specs.Scopes.{text_of}
use Rattle.vk_rules.specs.UnitNames.{HaveIdentifiers, IsIdentifier}
use Rattle.vk_rules.proofs.Naming.{declared_as}
use Rattle.vk_accept.specs.Units.{IsUnit}

-- ---- along the grammar, for any fact of names

module _ (P : NameId → Type 0) where
  -- the fact holds of the token's name, where it is a name
  abbrev OfSym : Sym → Type 0
  OfSym t = (id : NameId) → t.kind ≡ kind.Name id → P id

  abbrev OfSyms : List Sym → Type 0
  OfSyms w = AllByRecursion OfSym w

  abbrev OfItem : ItemTree → Type 0
  OfItem (function f) = P f.name
  OfItem (object o) = Unit {0}
  OfItem (lost_line d) = Unit {0}

  abbrev OfItems : List ItemTree → Type 0
  OfItems items = AllByRecursion OfItem items

  front : (x y : List Sym) → OfSyms (x ++ y) → OfSyms x
  front [] y h = tt
  front (t ∷ x) y h = (h.0, front x y h.1)

  back : (x y : List Sym) → OfSyms (x ++ y) → OfSyms y
  back [] y h = h
  back (t ∷ x) y h = back x y h.1

  both : (a b : List ItemTree) → OfItems a → OfItems b → OfItems (a ++ b)
  both [] b h k = k
  both (i ∷ a) b h k = (h.0, both a b h.1 k)

  lines_named : (lines : List DirectiveTree) → OfItems (lost_lines lines)
  lines_named [] = tt
  lines_named (d ∷ ds) = (tt, lines_named ds)

  name_named : {n : Named} {x : List Sym} → IsName n x → OfSyms x → P n.name
  name_named (a_name {id = id} is) h = h.0 id is.is

  function_named : {clauses : Clauses} {lines : List DirectiveTree} {result : CType} {n : Named} {i : ItemTree} {h : ℕ} {w : List Sym} → IsFunction clauses lines result n i h w → P n.name → OfItem i
  function_named (a_function p q r s) named = named

  object_named : {of : ObjectType} {n : Named} {i : ItemTree} {h : ℕ} {w : List Sym} → IsObject of n i h w → OfItem i
  object_named (an_object p q) = tt

  more_named : {of : ObjectType} {list : List ItemTree} {h : ℕ} {w : List Sym} → AreMoreObjects of list h w → OfItems list
  more_named none_more = tt
  more_named (one_more comma n o rest) = (object_named o, more_named rest)

  objects_named : {of : ObjectType} {n : Named} {list : List ItemTree} {h : ℕ} {w : List Sym} → AreObjects of n list h w → OfItems list
  objects_named (objects o rest end) = (object_named o, more_named rest)

  item_named : {clauses : Clauses} {lines : List DirectiveTree} {list : List ItemTree} {h : ℕ} {w : List Sym} → IsItem clauses lines list h w → OfSyms w → OfItems list
  item_named (void_function {o = o} {t = t} {x = x} {y = y} e v n f) s = (function_named f (name_named n (front x y (back o (t ∷ (x ++ y)) s).1)), tt)
  item_named (int_function {o = o} {c = c} {x = x} {y = y} e ty n f) s = (function_named f (name_named n (front x y (back c (x ++ y) (back o (c ++ (x ++ y)) s)))), tt)
  item_named {lines = lines} (some_objects {list = list} e ty n os) s = both (lost_lines lines) list (lines_named lines) (objects_named os)

  items_named : {clauses : Clauses} {items : List ItemTree} {h : ℕ} {w : List Sym} → AreItems clauses items h w → OfSyms w → OfItems items
  items_named (last_lines {lines = lines} ls) s = lines_named lines
  items_named (next_item {x = x} {list = list} {y = y} {rest = rest} {z = z} ls i more) s =
      both list rest (item_named i (front y z (back x (y ++ z) s))) (items_named more (back y z (back x (y ++ z) s)))

  of_declared : (before : List ItemTree) (f : FunctionTree) (behind : List ItemTree) → OfItems (before ++ function f ∷ behind) → P f.name
  of_declared [] f behind h = h.0
  of_declared (i ∷ before) f behind h = of_declared before f behind h.1

-- ---- tokens

same_name : (a b : NameId) → kind.Name a ≡ kind.Name b → a ≡ b
same_name a b e = cc

rarer_is : (left : Bool) (id own : NameId) → rarer_kind left own ≡ kind.Name id → own ≡ id
rarer_is true id own e = cc
rarer_is false id own e = same_name own id e

other_is : (w : Option TypeWord) (text : List ℕ) (id own : NameId) → other_kind w text own ≡ kind.Name id → own ≡ id
other_is (Some w) text id own e = cc
other_is None text id own e = rarer_is (is_left_out text) id own e

kind_is : (k : Option Keyword) (text : List ℕ) (id own : NameId) → kind_for k text own ≡ kind.Name id → own ≡ id
kind_is (Some k) text id own e = cc
kind_is None text id own e = other_is (type_word_of text) text id own e

module _ (names : List (List ℕ)) where
  abbrev InTable : NameId → Type 0
  InTable id = id.0 < length names

  token_named : (n : ℕ) (k : TokenKind) → IsNamed names k → (id : NameId) → sym_kind names n k ≡ kind.Name id → InTable id
  token_named n (token.Name own) named id e = subst InTable (kind_is (keyword_of (unwrap_or (slice_get names own.0) [])) (unwrap_or (slice_get names own.0) []) id own e) named
  token_named n (token.Int t v) named id e = cc
  token_named n (token.Sign m) named id e = cc
  token_named n token.Simdfn named id e = cc
  token_named n token.Simd named id e = cc
  token_named n token.LineEnd named id e = cc

  kept : (p : Placed) (b : Bool) (ps : List Placed) → (OfSym InTable (sym_of names p)) → OfSyms InTable (map (sym_of names) ps) → OfSyms InTable (map (sym_of names) (cond b (p ∷ ps) ps))
  kept p true ps h rest = (h, rest)
  kept p false ps h rest = rest

  abbrev AreNamed : List Token → Type 0
  AreNamed ts = AllByRecursion (λ (t : Token). IsNamed names t.kind) ts

  placed_named : (before ts : List Token) → AreNamed ts → OfSyms InTable (map (sym_of names) (filter stands_outside (placed before ts)))
  placed_named before [] h = tt
  placed_named before (t ∷ ts) h =
      kept (record { before = before; token = t }) (stands_outside (record { before = before; token = t })) (filter stands_outside (placed (before ++ t ∷ []) ts))
      (token_named _ t.kind h.0) (placed_named (before ++ t ∷ []) ts h.1)

  outside_named : (ts : List Token) → AreNamed ts → OfSyms InTable (outside names ts)
  unfolding outside
  outside_named ts h = placed_named [] ts h

  are_named : (ts : List Token) → All (λ t. IsNamed names t.kind) ts → AreNamed ts
  are_named [] h = tt
  are_named (t ∷ ts) h = (h 0 t (omega arith), are_named ts (λ k d lt. h (suc k) d (omega (arith, lt))))

-- ---- texts

word_begins : (text : List ℕ) → is_word_start (slice_index text 0) ≡ true → 0 < length text
word_begins [] h = cc
word_begins (b ∷ text) h = omega arith

no_digit : (a b : Bool) → (a && not b) ≡ true → b ≡ false
no_digit true true h = cc
no_digit true false h = refl
no_digit false b h = cc

identifier_of : (text : List ℕ) → IsWord text → IsIdentifier text
identifier_of text w = record { nonempty = word_begins text w.first; first = no_digit _ _ w.first; bytes = w.bytes }

named_text : (names : List (List ℕ)) (id : NameId) → AreIdentifiers names → id.0 < length names → IsIdentifier (text_of names id)
named_text names id all lt =
    let there = slice_get-get_or names id.0 [] lt in
    subst IsIdentifier (sym (ap (λ (o : Option (List ℕ)). unwrap_or o []) there)) (identifier_of (get_or names id.0 []) (all id.0 (get_or names id.0 []) there))

pub unit_identifiers : (bytes : List ℕ) (tokens : List Token) (names : List (List ℕ)) (items : List ItemTree) (target : Target) → IsUnit bytes tokens names items → AreIdentifiers names
    → HaveIdentifiers (record { items = items; texts = names; target = target })
unit_identifiers bytes tokens names items target u words f there =
    let unit : Subject = record { items = items; texts = names; target = target } in
    let d = declared_as unit f there in
    let all = items_named (InTable names) u.parses.items_are (outside_named names tokens (are_named names tokens u.are.named)) in
    named_text names f.name words (of_declared (InTable names) d.before f d.behind (subst (OfItems (InTable names)) d.there all))
