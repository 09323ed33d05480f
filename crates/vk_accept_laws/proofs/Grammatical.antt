-- The functions of a unit are as the grammar gives them.
use Rattle.std.proofs.Common.{◌≡◌, ◌≢◌, ℕ, ◌+◌, ◌<◌, Bool, true, false, cond, ◌&&◌, map, List, [], ◌∷◌, ◌++◌, Contains, Option, Some, None, is_some, slice_get, unwrap_or, refl, arith}
use Rattle.std.specs.List.{AllByRecursion, filter, fold}
use Rattle.vk_types.specs.declared.types.Ty.{Ty}
use Rattle.vk_kinds.specs.declared.heads.CType.{CType}
use Rattle.vk_ast.specs.declared.names.NameId.{NameId}
use Rattle.vk_ast.specs.declared.items.ParamDecl.{ParamDecl}
use Rattle.vk_ast.specs.Directives.{DirectiveTree}
use Rattle.vk_ast.specs.Statements.{StmtTree}
use Rattle.vk_ast.specs.Units.{FunctionTree, ItemTree, function, object, lost_line}
use Rattle.vk_tokens.specs.declared.tokens.Token.{Token}
use Rattle.vk_tokens.specs.declared.tokens.TokenKind.{TokenKind}
use Rattle.vk_tokens.specs.declared.tokens.TokenKind.TheVariants as token
use Rattle.vk_grammar_expr.specs.declared.symbols.Sym.{Sym}
use Rattle.vk_grammar_expr.specs.declared.symbols.SymKind.TheVariants as kind
use Rattle.vk_grammar_expr.specs.declared.symbols.Keyword.{Keyword}
use Rattle.vk_grammar_expr.specs.declared.symbols.TypeWord.{TypeWord}
use Rattle.vk_grammar_stmt.specs.Trees.{Clauses}
use Rattle.vk_grammar_unit.specs.Items.{Named, ObjectType, all_named, has_name, lost_lines}
use Rattle.vk_grammar_unit.specs.Grammar.{AreLines, no_lines, a_line, IsParamRest, value_unnamed, value_named, pointer_unnamed, pointer_named, an_array, IsParam, a_param, AreMoreParams, AreParams, no_params, void_params, some_params, IsBody, declared, defined, IsFunction, a_function, IsObject, an_object, AreMoreObjects, AreObjects, objects, IsItem, void_function, int_function, some_objects, AreItems, last_lines, next_item}
use Rattle.vk_parse_words.specs.Words.{is_left_out, keyword_of, kind_for, other_kind, rarer_kind, type_word_of}
use Rattle.vk_parse_words.specs.Lines.{Placed, begun, is_heading, outside, placed, stands_outside, sym_kind, sym_of}
use Rattle.vk_rules_book.specs.Statements.{is_void}
use Rattle.vk_rules_laws.specs.Grammatical.{AreGrammatical, is_pointer_type}
use Rattle.vk_rules_laws.proofs.Each.{at_one, back, both, front}
use Rattle.vk_accept.specs.Units.{IsUnit}

-- ---- parameters

abbrev IsNumber : ParamDecl → Type 0
IsNumber p = is_void p.ctype ≡ false

rest_typed : {l k : ℕ} {ty : Ty} {fixed : Bool} {p : ParamDecl} {h : ℕ} {w : List Sym} → IsParamRest l k ty fixed p h w → IsNumber p
rest_typed value_unnamed = refl
rest_typed (value_named n) = refl
rest_typed (pointer_unnamed u q) = refl
rest_typed (pointer_named u q n) = refl
rest_typed (an_array n u c) = refl

param_typed : {p : ParamDecl} {h : ℕ} {w : List Sym} → IsParam p h w → IsNumber p
param_typed (a_param c rest) = rest_typed rest

more_typed : {ps : List ParamDecl} {h : ℕ} {w : List Sym} → AreMoreParams ps h w → AllByRecursion IsNumber ps
more_typed AreMoreParams.none_more = tt
more_typed (AreMoreParams.one_more comma p rest) = (param_typed p, more_typed rest)

params_typed : {ps : List ParamDecl} {h : ℕ} {w : List Sym} → AreParams ps h w → AllByRecursion IsNumber ps
params_typed no_params = tt
params_typed (void_params t) = tt
params_typed (some_params p rest) = (param_typed p, more_typed rest)

body_named : {clauses : Clauses} {ps : List ParamDecl} {body : Option StmtTree} {h : ℕ} {w : List Sym} → IsBody clauses ps body h w → is_some body ≡ true → all_named ps ≡ true
body_named (declared t) there = cc
body_named (defined named b) there = named

-- ---- items, in tokens in which lines are numbered from 1

abbrev IsNumbered : Sym → Type 0
IsNumbered t = (n : ℕ) → t.kind ≡ kind.Simdfn n → n ≢ 0

abbrev AreNumbered : List Sym → Type 0
AreNumbered w = AllByRecursion IsNumbered w

abbrev HasNumber : DirectiveTree → Type 0
HasNumber d = d.number ≢ 0

record OfFunction (f : FunctionTree) : Type 0 where
  params : AllByRecursion IsNumber f.params
  result : is_pointer_type f.result ≡ false
  named : is_some f.body ≡ true → all_named f.params ≡ true
  numbered : AllByRecursion HasNumber f.directives

abbrev OfItem : ItemTree → Type 0
OfItem (function f) = OfFunction f
OfItem (object o) = Unit {0}
OfItem (lost_line d) = Unit {0}

abbrev OfItems : List ItemTree → Type 0
OfItems items = AllByRecursion OfItem items

lines_numbered : {clauses : Clauses} {lines : List DirectiveTree} {w : List Sym} → AreLines clauses lines w → AreNumbered w → AllByRecursion HasNumber lines
lines_numbered no_lines s = tt
lines_numbered (a_line {n = n} is rest) s = (s.0 n is.is, lines_numbered rest s.1)

function_item : {clauses : Clauses} {lines : List DirectiveTree} {result : CType} {n : Named} {i : ItemTree} {h : ℕ} {w : List Sym} → IsFunction clauses lines result n i h w
    → AllByRecursion HasNumber lines → is_pointer_type result ≡ false → OfItem i
function_item (a_function u ps v b) lines plain = record { params = params_typed ps; result = plain; named = body_named b; numbered = lines }

object_item : {of : ObjectType} {n : Named} {i : ItemTree} {h : ℕ} {w : List Sym} → IsObject of n i h w → OfItem i
object_item (an_object p q) = tt

more_items : {of : ObjectType} {list : List ItemTree} {h : ℕ} {w : List Sym} → AreMoreObjects of list h w → OfItems list
more_items AreMoreObjects.none_more = tt
more_items (AreMoreObjects.one_more comma n o rest) = (object_item o, more_items rest)

object_items : {of : ObjectType} {n : Named} {list : List ItemTree} {h : ℕ} {w : List Sym} → AreObjects of n list h w → OfItems list
object_items (objects o rest end) = (object_item o, more_items rest)

lost_items : (lines : List DirectiveTree) → OfItems (lost_lines lines)
lost_items [] = tt
lost_items (d ∷ ds) = (tt, lost_items ds)

item_list : {clauses : Clauses} {lines : List DirectiveTree} {list : List ItemTree} {h : ℕ} {w : List Sym} → IsItem clauses lines list h w → AllByRecursion HasNumber lines → OfItems list
item_list (void_function e v n f) s = (function_item f s refl, tt)
item_list (int_function e ty n f) s = (function_item f s refl, tt)
item_list {lines = lines} (some_objects {list = list} e ty n os) s = both OfItem (lost_lines lines) list (lost_items lines) (object_items os)

all_items : {clauses : Clauses} {items : List ItemTree} {h : ℕ} {w : List Sym} → AreItems clauses items h w → AreNumbered w → OfItems items
all_items (last_lines {lines = lines} ls) s = lost_items lines
all_items (next_item {x = x} {list = list} {y = y} {rest = rest} {z = z} ls i more) s =
    both OfItem list rest (item_list i (lines_numbered ls (front IsNumbered x (y ++ z) s))) (all_items more (back IsNumbered y z (back IsNumbered x (y ++ z) s)))

-- ---- tokens

rarer_none : (left : Bool) (own : NameId) (n : ℕ) → rarer_kind left own ≡ kind.Simdfn n → n ≢ 0
rarer_none true own n e = cc
rarer_none false own n e = cc

other_none : (w : Option TypeWord) (text : List ℕ) (own : NameId) (n : ℕ) → other_kind w text own ≡ kind.Simdfn n → n ≢ 0
other_none (Some w) text own n e = cc
other_none None text own n e = rarer_none (is_left_out text) own n e

kind_none : (k : Option Keyword) (text : List ℕ) (own : NameId) (n : ℕ) → kind_for k text own ≡ kind.Simdfn n → n ≢ 0
kind_none (Some k) text own n e = cc
kind_none None text own n e = other_none (type_word_of text) text own n e

one_more : (n : ℕ) (b : Bool) → b ≡ true → 0 < n + cond b 1 0
one_more n true h = omega arith
one_more n false h = cc

begins_from : (n : ℕ) (before : List Token) (t : Token) → is_heading t.kind ≡ true
    → 0 < fold (λ (k : ℕ) (x : Token). k + cond (is_heading x.kind) 1 0) n (before ++ t ∷ [])
begins_from n [] t h = one_more n (is_heading t.kind) h
begins_from n (x ∷ before) t h = begins_from (n + cond (is_heading x.kind) 1 0) before t h

begins : (before : List Token) (t : Token) → is_heading t.kind ≡ true → 0 < begun (before ++ t ∷ [])
begins before t h = begins_from 0 before t h

same_line : (m n : ℕ) → kind.Simdfn m ≡ kind.Simdfn n → m ≡ n
same_line m n e = cc

module _ (names : List (List ℕ)) where
  line_number : (m : ℕ) (k : TokenKind) → (is_heading k ≡ true → 0 < m) → (n : ℕ) → sym_kind names m k ≡ kind.Simdfn n → n ≢ 0
  line_number m (token.Name own) lt n e = let text = unwrap_or (slice_get names own.0) [] in kind_none (keyword_of text) text own n e
  line_number m (token.Int t v) lt n e = cc
  line_number m (token.Sign s) lt n e = cc
  line_number m token.Simdfn lt n e = let here = lt refl in let same = same_line m n e in omega (arith, here, same)
  line_number m token.Simd lt n e = cc
  line_number m token.LineEnd lt n e = cc

  kept : (p : Placed) (b : Bool) (ps : List Placed) → IsNumbered (sym_of names p) → AreNumbered (map (sym_of names) ps) → AreNumbered (map (sym_of names) (cond b (p ∷ ps) ps))
  kept p true ps h rest = (h, rest)
  kept p false ps h rest = rest

  placed_numbered : (before ts : List Token) → AreNumbered (map (sym_of names) (filter stands_outside (placed before ts)))
  placed_numbered before [] = tt
  placed_numbered before (t ∷ ts) =
      kept (record { before = before; token = t }) (stands_outside (record { before = before; token = t })) (filter stands_outside (placed (before ++ t ∷ []) ts))
      (line_number (begun (before ++ t ∷ [])) t.kind (begins before t)) (placed_numbered (before ++ t ∷ []) ts)

  outside_numbered : (ts : List Token) → AreNumbered (outside names ts)
  unfolding outside
  outside_numbered ts = placed_numbered [] ts

-- ---- units

each_named : (ps : List ParamDecl) → all_named ps ≡ true → AllByRecursion (λ p. is_some p.name ≡ true) ps
each_named [] h = tt
each_named (p ∷ ps) h = (name_there p.name (first_true (has_name p.name) (all_named ps) h), each_named ps (rest_true (has_name p.name) (all_named ps) h))
  where
    name_there : (id : Option NameId) → has_name id ≡ true → is_some id ≡ true
    name_there None h = h
    name_there (Some id) h = refl

    first_true : (a b : Bool) → (a && b) ≡ true → a ≡ true
    first_true true b e = refl
    first_true false b e = e

    rest_true : (a b : Bool) → (a && b) ≡ true → b ≡ true
    rest_true true b e = e
    rest_true false b e = cc

pub grammatical : (bytes : List ℕ) (tokens : List Token) (names : List (List ℕ)) (items : List ItemTree) → IsUnit bytes tokens names items → AreGrammatical items
grammatical bytes tokens names items u =
    let all = all_items u.parses.items_are (outside_numbered names tokens) in
    let of = λ (f : FunctionTree) (is_in : Contains items (function f)). at_one OfItem items (function f) all is_in in
    record {
      types = record { params = λ f is_in p listed. at_one IsNumber f.params p (of f is_in).params listed; results = λ f is_in. (of f is_in).result };
      names = λ f is_in there p listed. at_one (λ p. is_some p.name ≡ true) f.params p (each_named f.params ((of f is_in).named there)) listed;
      numbers = λ f is_in d listed. at_one HasNumber f.directives d (of f is_in).numbered listed;
    }
