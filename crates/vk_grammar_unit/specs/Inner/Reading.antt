-- The reader of units, by recursive descent. Each expression may have `e` levels below its root; a function's block has at
-- most `d` levels of statements. For the rule C6 `e` is 63 and `d` is 65: an expression has at most 64 levels, and a
-- statement stands inside at most 64 others. `turns` bounds the loops; one more than there are tokens is enough.
use Rattle.std.specs.Prelude.{ℕ, zero, suc, Bool, true, false, List, [], ◌∷◌, ◌++◌, Option, Some, None}
use Rattle.vk_types.specs.declared.types.Ty.{Ty}
use Rattle.vk_kinds.specs.declared.heads.CType.{CType}
use Rattle.vk_kinds.specs.declared.heads.CType.TheVariants as ctype
use Rattle.vk_ast.specs.declared.names.NameId.{NameId}
use Rattle.vk_ast.specs.declared.items.ParamDecl.{ParamDecl}
use Rattle.vk_ast.specs.Tree.{Tree}
use Rattle.vk_ast.specs.Statements.{StmtTree}
use Rattle.vk_ast.specs.Directives.{DirectiveTree}
use Rattle.vk_ast.specs.Units.{ItemTree}
use Rattle.vk_tokens.specs.declared.tokens.Mark.TheVariants as mark
use Rattle.vk_grammar_expr.specs.declared.symbols.Sym.{Sym}
use Rattle.vk_grammar_expr.specs.declared.symbols.Keyword.TheVariants as keyword
use Rattle.vk_grammar_expr.specs.Symbols.{is_sign}
use Rattle.vk_grammar_expr.specs.Types.{type_in}
use Rattle.vk_grammar_expr.specs.Inner.Parser.{Parser, pure, refuse, spent, ◌>>=◌, take, look, here, pick, pick_some, expect, many, whole}
use Rattle.vk_grammar_expr.specs.Inner.Reading.{type_words}
use Rattle.vk_grammar_stmt.specs.Words.{is_keyword, name_at, has_const}
use Rattle.vk_grammar_stmt.specs.Trees.{Clauses, directive_at}
use Rattle.vk_grammar_stmt.specs.Inner.Reading.{cond, optional, body}
use Rattle.vk_grammar_unit.specs.Items.{Named, is_qualifier, line_at, is_line, is_end, pointer_to, with_name, without_name, all_named, function_tree, ObjectType, Initial, no_initial, object_tree, lost_lines}

abbrev pub named_by : Sym → NameId → Named
named_by t id = record { line = t.line; token = t.at; name = id }

-- an identifier
unfoldable pub name : Parser Named
name = look (λ k. pick_some (name_at k) (λ id. take >>= (λ t. pure (named_by t id))) refuse)

unfoldable pub extern_word : Parser Bool
extern_word = look (λ k. pick (is_keyword keyword.Extern k) (take >>= (λ _. pure true)) (pure false))

-- a line of `declare simd`
unfoldable pub line : Clauses → Parser DirectiveTree
line clauses = look (λ k. pick_some (line_at k) (λ n. take >>= (λ t. pure (directive_at clauses t n))) refuse)

unfoldable pub lines : Clauses → (turns : ℕ) → Parser (List DirectiveTree)
lines clauses turns = many turns (λ k. is_line (line_at k)) (line clauses)

module _ (e turns : ℕ) where
  -- ---- parameters; the type of one begins at line `l` and token `k`

  -- behind the name of a parameter that is no pointer
  unfoldable pub array_param : Ty → (fixed : Bool) → Named → Parser ParamDecl
  array_param ty fixed n = look (λ s. pick (is_sign mark.OpenBracket s) (take >>= (λ _. optional e turns mark.CloseBracket >>= (λ _. pure (with_name n (pointer_to ty fixed) false))))
      (pure (with_name n (ctype.Int ty) fixed)))

  unfoldable pub value_param : (l k : ℕ) → Ty → (fixed : Bool) → Parser ParamDecl
  value_param l k ty fixed = look (λ s. pick_some (name_at s) (λ id. take >>= (λ t. array_param ty fixed (named_by t id))) (pure (without_name l k (ctype.Int ty) fixed)))

  -- behind the qualifiers of a pointer
  unfoldable pub pointer_name : (l k : ℕ) → CType → (fixed : Bool) → Parser ParamDecl
  pointer_name l k c fixed = look (λ s. pick_some (name_at s) (λ id. take >>= (λ t. pure (with_name (named_by t id) c fixed))) (pure (without_name l k c fixed)))

  unfoldable pub pointer_param : (l k : ℕ) → Ty → (fixed : Bool) → Parser ParamDecl
  pointer_param l k ty fixed = take >>= (λ _. many turns is_qualifier take >>= (λ q. pointer_name l k (pointer_to ty fixed) (has_const q)))

  unfoldable pub param_rest : (l k : ℕ) → Ty → (fixed : Bool) → Parser ParamDecl
  param_rest l k ty fixed = look (λ s. pick (is_sign mark.Star s) (pointer_param l k ty fixed) (value_param l k ty fixed))

  unfoldable pub param : Parser ParamDecl
  param = here (λ l k. type_words turns >>= (λ c. param_rest l k (type_in c) (has_const c)))

  unfoldable pub later_param : Parser ParamDecl
  later_param = take >>= (λ _. param)

  unfoldable pub some_params : Parser (List ParamDecl)
  some_params = param >>= (λ first. many turns (is_sign mark.Comma) later_param >>= (λ rest. pure (first ∷ rest)))

  -- the parameters before a `)`
  unfoldable pub params : Parser (List ParamDecl)
  params = look (λ s. pick (is_sign mark.CloseParen s) (pure []) (pick (is_keyword keyword.Void s) (take >>= (λ _. pure [])) some_params))

  -- ---- objects

  -- `[ "[" [cond] "]" ]`
  unfoldable pub array_length : Parser (Option (Option Tree))
  array_length = look (λ s. pick (is_sign mark.OpenBracket s) (take >>= (λ _. optional e turns mark.CloseBracket >>= (λ c. pure (Some c)))) (pure None))

  -- the values of a list in braces, behind a first one: at a comma, and behind it
  unfoldable pub value_behind : (next : Parser (List Tree)) → Parser (List Tree)
  value_behind next = look (λ s. pick (is_sign mark.CloseBrace s) (pure []) (cond e turns >>= (λ a. next >>= (λ rest. pure (a.tree ∷ rest)))))

  unfoldable pub more_values : ℕ → Parser (List Tree)
  more_values zero = spent
  more_values (suc n) = look (λ s. pick (is_sign mark.Comma s) (take >>= (λ _. value_behind (more_values n))) (pure []))

  unfoldable pub values : Parser (List Tree)
  values = look (λ s. pick (is_sign mark.CloseBrace s) (pure []) (cond e turns >>= (λ a. more_values turns >>= (λ rest. pure (a.tree ∷ rest)))))

  -- behind the `=`
  unfoldable pub braced_initial : Parser Initial
  braced_initial = take >>= (λ u. values >>= (λ list. expect mark.CloseBrace >>= (λ _. pure (record { items = Some list; braced = true; line = u.line; token = u.at }))))

  unfoldable pub scalar_initial : Parser Initial
  scalar_initial = here (λ l k. cond e turns >>= (λ a. pure (record { items = Some (a.tree ∷ []); braced = false; line = l; token = k })))

  unfoldable pub initial : Parser Initial
  initial = look (λ s. pick (is_sign mark.Assign s) (take >>= (λ _. look (λ s. pick (is_sign mark.OpenBrace s) braced_initial scalar_initial))) (pure no_initial))

  -- behind the name of an object
  unfoldable pub object : ObjectType → Named → Parser ItemTree
  object of n = array_length >>= (λ array. initial >>= (λ init. pure (object_tree of n array init)))

  unfoldable pub later_object : ObjectType → Parser ItemTree
  later_object of = take >>= (λ _. name >>= object of)

  unfoldable pub objects : ObjectType → Named → Parser (List ItemTree)
  objects of n = object of n >>= (λ first. many turns (is_sign mark.Comma) (later_object of) >>= (λ rest. expect mark.Semicolon >>= (λ _. pure (first ∷ rest))))

module _ (clauses : Clauses) (e d turns : ℕ) where
  -- `";" | block`
  unfoldable pub definition : List ParamDecl → Parser (Option StmtTree)
  definition params = pick (all_named params) (body clauses e turns d >>= (λ s. pure (Some s))) refuse

  unfoldable pub function_end : List ParamDecl → Parser (Option StmtTree)
  function_end params = look (λ s. pick (is_sign mark.Semicolon s) (take >>= (λ _. pure None)) (definition params))

  -- behind the name of a function
  unfoldable pub function : List DirectiveTree → CType → Named → Parser ItemTree
  function ls result n = expect mark.OpenParen >>= (λ _. params e turns >>= (λ ps. expect mark.CloseParen >>= (λ _. function_end ps >>= (λ b. pure (function_tree n ls result ps b)))))

  unfoldable pub one_function : List DirectiveTree → CType → Named → Parser (List ItemTree)
  one_function ls result n = function ls result n >>= (λ f. pure (f ∷ []))

  unfoldable pub void_function : List DirectiveTree → Parser (List ItemTree)
  void_function ls = take >>= (λ _. name >>= one_function ls ctype.Void)

  -- behind the lines of directives that stand before objects
  unfoldable pub lost_objects : List DirectiveTree → ObjectType → Named → Parser (List ItemTree)
  lost_objects ls of n = objects e turns of n >>= (λ list. pure (lost_lines ls ++ list))

  -- behind the type and the first name
  unfoldable pub typed_item : List DirectiveTree → ObjectType → Named → Parser (List ItemTree)
  typed_item ls of n = look (λ s. pick (is_sign mark.OpenParen s) (one_function ls (ctype.Int of.ty) n) (lost_objects ls of n))

  unfoldable pub typed : List DirectiveTree → (outside : Bool) → Parser (List ItemTree)
  typed ls outside = type_words turns >>= (λ c. name >>= typed_item ls (record { ty = type_in c; fixed = has_const c; outside = outside }))

  -- behind the lines of directives
  unfoldable pub item : List DirectiveTree → Parser (List ItemTree)
  item ls = extern_word >>= (λ outside. look (λ s. pick (is_keyword keyword.Void s) (void_function ls) (typed ls outside)))

  unfoldable pub items_step : (next : Parser (List ItemTree)) → Parser (List ItemTree)
  items_step next = lines clauses turns >>= (λ ls. look (λ s. pick (is_end s) (pure (lost_lines ls)) (item ls >>= (λ list. next >>= (λ rest. pure (list ++ rest))))))

  unfoldable pub items : ℕ → Parser (List ItemTree)
  items zero = spent
  items (suc n) = items_step (items n)

-- a whole unit and nothing else
abbrev pub whole_unit : Clauses → (e d turns : ℕ) → Parser (List ItemTree)
whole_unit clauses e d turns = whole (items clauses e d turns turns)
