-- The grammar of units (C17 6.7, 6.9), as a relation between lists of items, the greatest height of an expression in them,
-- and their texts:
--
--   unit    = { item } { SIMDFN }
--   item    = { SIMDFN } ( func | objects )
--   func    = [extern] ( void | ctype ) ID "(" [ void | par { "," par } ] ")" ( ";" | block )
--   par     = ctype [ID] | ctype "*" { const | restrict } [ID] | ctype ID "[" [cond] "]"
--   objects = [extern] ctype obj { "," obj } ";"
--   obj     = ID [ "[" [cond] "]" ] [ "=" ( cond | "{" [ cond { "," cond } [","] ] "}" ) ]
--
-- Each name that is declared is an item of its own. A parameter without a name is for declarations only. Functions, objects
-- and named parameters have the line and the number of their name, other parameters those of their first token. A line
-- `declare simd` is of the function behind it, else an item by itself.
use Rattle.std.specs.Prelude.{◌≡◌, ◌≤◌, ℕ, max, Bool, true, false, List, [], ◌∷◌, ◌++◌, Option, Some, None}
use Rattle.vk_types.specs.declared.types.Ty.{Ty}
use Rattle.vk_kinds.specs.declared.heads.CType.{CType}
use Rattle.vk_kinds.specs.declared.heads.CType.TheVariants as ctype
use Rattle.vk_ast.specs.declared.names.NameId.{NameId}
use Rattle.vk_ast.specs.declared.items.ParamDecl.{ParamDecl}
use Rattle.vk_ast.specs.Tree.{Tree}
use Rattle.vk_ast.specs.Statements.{StmtTree}
use Rattle.vk_ast.specs.Directives.{DirectiveTree}
use Rattle.vk_ast.specs.Units.{ItemTree}
use Rattle.vk_tokens.specs.declared.tokens.Mark.TheVariants as mark
use Rattle.vk_grammar_expr.specs.declared.symbols.Sym.{Sym}
use Rattle.vk_grammar_expr.specs.declared.symbols.SymKind.TheVariants as kind
use Rattle.vk_grammar_expr.specs.declared.symbols.Keyword.TheVariants as keyword
use Rattle.vk_grammar_expr.specs.Symbols.{line_at, number_at, Is, IsSign}
use Rattle.vk_grammar_expr.specs.Types.{IsType, type_in}
use Rattle.vk_grammar_expr.specs.Grammar.{full, Spells}
use Rattle.vk_grammar_stmt.specs.Words.{IsKeyword, has_const}
use Rattle.vk_grammar_stmt.specs.Trees.{Clauses, directive_at}
use Rattle.vk_grammar_stmt.specs.Grammar.{IsOptional, IsBlock}
use Rattle.vk_grammar_unit.specs.Items.{Named, is_qualifier, pointer_to, with_name, without_name, all_named, function_tree, ObjectType, Initial, no_initial, object_tree, lost_lines, unit_levels}

-- an identifier
pub data IsName : Named → List Sym → Type 0 where
  a_name : {id : NameId} {t : Sym} → Is (kind.Name id) t → IsName (record { line = t.line; token = t.at; name = id }) (t ∷ [])

-- `[extern]`
pub data IsExtern : Bool → List Sym → Type 0 where
  no_extern : IsExtern false []
  an_extern : {t : Sym} → IsKeyword keyword.Extern t → IsExtern true (t ∷ [])

-- `{ SIMDFN }`
pub data AreLines (clauses : Clauses) : List DirectiveTree → List Sym → Type 0 where
  no_lines : AreLines clauses [] []
  a_line : {n : ℕ} {t : Sym} {lines : List DirectiveTree} {x : List Sym} → Is (kind.Simdfn n) t → AreLines clauses lines x
      → AreLines clauses (directive_at clauses t n ∷ lines) (t ∷ x)

-- ---- parameters (6.7.6.3)

-- `{ const | restrict }`
pub data AreQualifiers : List Sym → Type 0 where
  no_qualifiers : AreQualifiers []
  a_qualifier : {t : Sym} {q : List Sym} → is_qualifier (Some t.kind) ≡ true → AreQualifiers q → AreQualifiers (t ∷ q)

-- what stands behind the type of a parameter, which begins at line `l` and token `k`
pub data IsParamRest (l k : ℕ) (ty : Ty) (fixed : Bool) : ParamDecl → (height : ℕ) → List Sym → Type 0 where
  value_unnamed : IsParamRest l k ty fixed (without_name l k (ctype.Int ty) fixed) 0 []
  value_named : {n : Named} {x : List Sym} → IsName n x → IsParamRest l k ty fixed (with_name n (ctype.Int ty) fixed) 0 x
  pointer_unnamed : {u : Sym} {q : List Sym} → IsSign mark.Star u → AreQualifiers q → IsParamRest l k ty fixed (without_name l k (pointer_to ty fixed) (has_const q)) 0 (u ∷ q)
  pointer_named : {u : Sym} {q : List Sym} {n : Named} {x : List Sym} → IsSign mark.Star u → AreQualifiers q → IsName n x
      → IsParamRest l k ty fixed (with_name n (pointer_to ty fixed) (has_const q)) 0 (u ∷ (q ++ x))
  -- an array is a pointer, and its length is not used
  an_array : {n : Named} {x : List Sym} {u : Sym} {c : Option Tree} {h : ℕ} {y : List Sym} → IsName n x → IsSign mark.OpenBracket u → IsOptional mark.CloseBracket c h y
      → IsParamRest l k ty fixed (with_name n (pointer_to ty fixed) false) h (x ++ (u ∷ y))

pub data IsParam : ParamDecl → (height : ℕ) → List Sym → Type 0 where
  a_param : {c : List Sym} {p : ParamDecl} {h : ℕ} {x : List Sym} → IsType c → IsParamRest (line_at c) (number_at c) (type_in c) (has_const c) p h x → IsParam p h (c ++ x)

pub data AreMoreParams : List ParamDecl → (height : ℕ) → List Sym → Type 0 where
  none_more : AreMoreParams [] 0 []
  one_more : {t : Sym} {p : ParamDecl} {h : ℕ} {list : List ParamDecl} {k : ℕ} {x y : List Sym} → IsSign mark.Comma t → IsParam p h x → AreMoreParams list k y
      → AreMoreParams (p ∷ list) (max h k) ((t ∷ x) ++ y)

-- `[ void | par { "," par } ]`
pub data AreParams : List ParamDecl → (height : ℕ) → List Sym → Type 0 where
  no_params : AreParams [] 0 []
  void_params : {t : Sym} → IsKeyword keyword.Void t → AreParams [] 0 (t ∷ [])
  some_params : {p : ParamDecl} {h : ℕ} {list : List ParamDecl} {k : ℕ} {x y : List Sym} → IsParam p h x → AreMoreParams list k y → AreParams (p ∷ list) (max h k) (x ++ y)

-- ---- functions (6.7.6.3, 6.9.1)

-- `";" | block`: a block only where each parameter has a name
pub data IsBody (clauses : Clauses) (params : List ParamDecl) : Option StmtTree → (height : ℕ) → List Sym → Type 0 where
  declared : {t : Sym} → IsSign mark.Semicolon t → IsBody clauses params None 0 (t ∷ [])
  defined : {s : StmtTree} {h : ℕ} {x : List Sym} → all_named params ≡ true → IsBlock clauses s h x → IsBody clauses params (Some s) h x

-- what stands behind the name of a function
pub data IsFunction (clauses : Clauses) (lines : List DirectiveTree) (result : CType) (n : Named) : ItemTree → (height : ℕ) → List Sym → Type 0 where
  a_function : {u : Sym} {params : List ParamDecl} {h : ℕ} {x : List Sym} {v : Sym} {body : Option StmtTree} {k : ℕ} {y : List Sym} → IsSign mark.OpenParen u → AreParams params h x
      → IsSign mark.CloseParen v → IsBody clauses params body k y → IsFunction clauses lines result n (function_tree n lines result params body) (max h k) (u ∷ (x ++ (v ∷ y)))

-- ---- objects (6.7.6.2, 6.7.9)

-- `[ "[" [cond] "]" ]`
pub data IsLength : Option (Option Tree) → (height : ℕ) → List Sym → Type 0 where
  no_array : IsLength None 0 []
  a_length : {u : Sym} {c : Option Tree} {h : ℕ} {x : List Sym} → IsSign mark.OpenBracket u → IsOptional mark.CloseBracket c h x → IsLength (Some c) h (u ∷ x)

-- the values behind a first one, and a comma at the end
pub data AreMoreValues : List Tree → (height : ℕ) → List Sym → Type 0 where
  last_value : AreMoreValues [] 0 []
  last_comma : {t : Sym} → IsSign mark.Comma t → AreMoreValues [] 0 (t ∷ [])
  next_value : {t : Sym} {e : Tree} {h : ℕ} {list : List Tree} {k : ℕ} {x y : List Sym} → IsSign mark.Comma t → Spells full e h x → AreMoreValues list k y
      → AreMoreValues (e ∷ list) (max h k) (t ∷ (x ++ y))

pub data AreValues : List Tree → (height : ℕ) → List Sym → Type 0 where
  no_values : AreValues [] 0 []
  some_values : {e : Tree} {h : ℕ} {list : List Tree} {k : ℕ} {x y : List Sym} → Spells full e h x → AreMoreValues list k y → AreValues (e ∷ list) (max h k) (x ++ y)

-- `[ "=" ( cond | "{" [ cond { "," cond } [","] ] "}" ) ]`
pub data IsInitial : Initial → (height : ℕ) → List Sym → Type 0 where
  not_initial : IsInitial no_initial 0 []
  a_scalar : {t : Sym} {e : Tree} {h : ℕ} {x : List Sym} → IsSign mark.Assign t → Spells full e h x
      → IsInitial (record { items = Some (e ∷ []); braced = false; line = line_at x; token = number_at x }) h (t ∷ x)
  a_list : {t u : Sym} {list : List Tree} {h : ℕ} {x : List Sym} {v : Sym} → IsSign mark.Assign t → IsSign mark.OpenBrace u → AreValues list h x → IsSign mark.CloseBrace v
      → IsInitial (record { items = Some list; braced = true; line = u.line; token = u.at }) h (t ∷ (u ∷ (x ++ (v ∷ []))))

-- what stands behind the name of an object
pub data IsObject (of : ObjectType) (n : Named) : ItemTree → (height : ℕ) → List Sym → Type 0 where
  an_object : {array : Option (Option Tree)} {h : ℕ} {x : List Sym} {init : Initial} {k : ℕ} {y : List Sym} → IsLength array h x → IsInitial init k y
      → IsObject of n (object_tree of n array init) (max h k) (x ++ y)

pub data AreMoreObjects (of : ObjectType) : List ItemTree → (height : ℕ) → List Sym → Type 0 where
  none_more : AreMoreObjects of [] 0 []
  one_more : {t : Sym} {n : Named} {x : List Sym} {i : ItemTree} {h : ℕ} {y : List Sym} {list : List ItemTree} {k : ℕ} {z : List Sym} → IsSign mark.Comma t → IsName n x → IsObject of n i h y
      → AreMoreObjects of list k z → AreMoreObjects of (i ∷ list) (max h k) ((t ∷ (x ++ y)) ++ z)

-- what stands behind the first name of a declaration of objects
pub data AreObjects (of : ObjectType) (n : Named) : List ItemTree → (height : ℕ) → List Sym → Type 0 where
  objects : {i : ItemTree} {h : ℕ} {x : List Sym} {list : List ItemTree} {k : ℕ} {y : List Sym} {v : Sym} → IsObject of n i h x → AreMoreObjects of list k y → IsSign mark.Semicolon v
      → AreObjects of n (i ∷ list) (max h k) (x ++ (y ++ (v ∷ [])))

-- ---- items

-- `func | objects`, behind the lines of directives
pub data IsItem (clauses : Clauses) (lines : List DirectiveTree) : List ItemTree → (height : ℕ) → List Sym → Type 0 where
  void_function : {outside : Bool} {o : List Sym} {t : Sym} {n : Named} {x : List Sym} {i : ItemTree} {h : ℕ} {y : List Sym} → IsExtern outside o → IsKeyword keyword.Void t → IsName n x
      → IsFunction clauses lines ctype.Void n i h y → IsItem clauses lines (i ∷ []) h (o ++ (t ∷ (x ++ y)))
  int_function : {outside : Bool} {o c : List Sym} {n : Named} {x : List Sym} {i : ItemTree} {h : ℕ} {y : List Sym} → IsExtern outside o → IsType c → IsName n x
      → IsFunction clauses lines (ctype.Int (type_in c)) n i h y → IsItem clauses lines (i ∷ []) h (o ++ (c ++ (x ++ y)))
  some_objects : {outside : Bool} {o c : List Sym} {n : Named} {x : List Sym} {list : List ItemTree} {h : ℕ} {y : List Sym} → IsExtern outside o → IsType c → IsName n x
      → AreObjects (record { ty = type_in c; fixed = has_const c; outside = outside }) n list h y → IsItem clauses lines (lost_lines lines ++ list) h (o ++ (c ++ (x ++ y)))

pub data AreItems (clauses : Clauses) : List ItemTree → (height : ℕ) → List Sym → Type 0 where
  last_lines : {lines : List DirectiveTree} {x : List Sym} → AreLines clauses lines x → AreItems clauses (lost_lines lines) 0 x
  next_item : {lines : List DirectiveTree} {x : List Sym} {list : List ItemTree} {h : ℕ} {y : List Sym} {rest : List ItemTree} {k : ℕ} {z : List Sym} → AreLines clauses lines x
      → IsItem clauses lines list h y → AreItems clauses rest k z → AreItems clauses (list ++ rest) (max h k) (x ++ (y ++ z))

-- The texts of units; and those with expressions of a height of at most `e` and at most `d` levels of statements in each
-- function. A unit keeps the rule C6 where these are 64 and 65: the innermost statement stands inside 64 others.
abbrev pub IsText : Clauses → List Sym → Type 0
IsText clauses u = (items : List ItemTree) × ((h : ℕ) × AreItems clauses items h u)

abbrev pub IsTextWithin : Clauses → (e d : ℕ) → List Sym → Type 0
IsTextWithin clauses e d u = (items : List ItemTree) × ((h : ℕ) × (AreItems clauses items h u × ((h ≤ e) × (unit_levels items ≤ d))))
