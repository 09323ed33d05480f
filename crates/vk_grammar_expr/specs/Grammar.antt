-- The grammar of expressions (C17 6.5), as a relation between trees, their heights and their texts:
--
--   cond   = binary [ "?" cond ":" cond ]
--   binary = ten levels over unary, left associative, from the weakest: ||  &&  |  ^  &  == !=  < > <= >=  << >>  + -  * / %
--   unary  = ( "+" | "-" | "~" | "!" | "*" | "&" ) unary | "(" ctype ")" unary | post
--   post   = INT | ID | ID "(" [ cond { "," cond } ] ")" | "(" cond ")" | post "[" cond "]"
--   ctype  = { const } word { word | const }
--
-- A node has the line and the number of the first token of its own text. Parentheses make no node, but one level of height.
use Rattle.std.specs.Prelude.{◌≤◌, ℕ, suc, max, List, [], ◌∷◌, ◌++◌}
use Rattle.vk_types.specs.declared.types.Ty.{Ty}
use Rattle.vk_ast.specs.declared.names.NameId.{NameId}
use Rattle.vk_ast.specs.declared.expressions.BinOp.{BinOp}
use Rattle.vk_ast.specs.Tree.{Tree, Trees}
use Rattle.vk_tokens.specs.declared.tokens.Mark.TheVariants as mark
use Rattle.vk_grammar_expr.specs.declared.symbols.Sym.{Sym}
use Rattle.vk_grammar_expr.specs.declared.symbols.SymKind.TheVariants as kind
use Rattle.vk_grammar_expr.specs.declared.symbols.Prefix.{Prefix}
use Rattle.vk_grammar_expr.specs.declared.symbols.Prefix.TheVariants as prefix
use Rattle.vk_grammar_expr.specs.Symbols.{line_at, number_at, Is, IsSign, IsPrefix, IsOperator}
use Rattle.vk_grammar_expr.specs.Types.{IsType, type_in}

-- a tree and its height
pub record Tall : Type 0 where
  pub tree : Tree
  pub height : ℕ

abbrev pub tall : Tree → ℕ → Tall
tall e h = record { tree = e; height = h }

-- the trees of a list, and the greatest of their heights
abbrev pub trees_in : List Tall → Trees
trees_in [] = Trees.no_trees
trees_in (e ∷ rest) = Trees.more_trees e.tree (trees_in rest)

abbrev pub greatest : List Tall → ℕ
greatest [] = 0
greatest (e ∷ rest) = max e.height (greatest rest)

-- the node of a sign before an operand
abbrev pub prefixed : Prefix → (line token : ℕ) → Tree → Tree
prefixed prefix.Deref l k e = Tree.deref l k e
prefixed prefix.Addr l k e = Tree.addr l k e
prefixed (prefix.Unary o) l k e = Tree.unary l k o e

-- what an expression is asked to be: `unary` (level 0) or of a binary level, 1 for `* / %` to 10 for `||`, or a whole `cond`
pub data Sort : Type 0 where
  level : ℕ → Sort
  full : Sort

mutual
  pub data Spells : Sort → Tree → (height : ℕ) → List Sym → Type 0 where
    -- signs before an operand (6.5.3)
    a_prefix : {p : Prefix} {t : Sym} {e : Tree} {h : ℕ} {x : List Sym} → IsPrefix p t → Spells (level 0) e h x
        → Spells (level 0) (prefixed p t.line t.at e) (suc h) (t ∷ x)
    -- casts (6.5.4)
    a_cast : {u : Sym} {c : List Sym} {v : Sym} {e : Tree} {h : ℕ} {x : List Sym} → IsSign mark.OpenParen u → IsType c → IsSign mark.CloseParen v
        → Spells (level 0) e h x → Spells (level 0) (Tree.cast u.line u.at (type_in c) e) (suc h) (u ∷ (c ++ (v ∷ x)))
    a_post : {e : Tree} {h : ℕ} {x : List Sym} → IsPost e h x → Spells (level 0) e h x
    -- binary operators (6.5.5 to 6.5.14)
    lower : {n : ℕ} {e : Tree} {h : ℕ} {x : List Sym} → Spells (level n) e h x → Spells (level (suc n)) e h x
    a_binary : {n : ℕ} {o : BinOp} {a b : Tree} {h k : ℕ} {x : List Sym} {t : Sym} {y : List Sym}
        → Spells (level (suc n)) a h x → IsOperator (suc n) o t → Spells (level n) b k y
        → Spells (level (suc n)) (Tree.binary (line_at x) (number_at x) o a b) (suc (max h k)) (x ++ (t ∷ y))
    -- the conditional operator (6.5.15)
    plain : {e : Tree} {h : ℕ} {x : List Sym} → Spells (level 10) e h x → Spells full e h x
    a_choice : {c a b : Tree} {h k m : ℕ} {x : List Sym} {u : Sym} {y : List Sym} {v : Sym} {z : List Sym}
        → Spells (level 10) c h x → IsSign mark.Question u → Spells full a k y → IsSign mark.Colon v → Spells full b m z
        → Spells full (Tree.choice (line_at x) (number_at x) c a b) (suc (max h (max k m))) (x ++ (u ∷ (y ++ (v ∷ z))))

  -- primary and postfix expressions (6.5.1, 6.5.2)
  pub data IsPost : Tree → (height : ℕ) → List Sym → Type 0 where
    an_int : {t : Sym} {ty : Ty} {n : ℕ} → Is (kind.Int ty n) t → IsPost (Tree.int t.line t.at ty n) 1 (t ∷ [])
    a_name : {t : Sym} {id : NameId} → Is (kind.Name id) t → IsPost (Tree.name t.line t.at id) 1 (t ∷ [])
    a_call : {t : Sym} {id : NameId} {u : Sym} {list : List Tall} {x : List Sym} {v : Sym} → Is (kind.Name id) t → IsSign mark.OpenParen u → AreArgs list x
        → IsSign mark.CloseParen v → IsPost (Tree.call t.line t.at id (trees_in list)) (suc (greatest list)) (t ∷ (u ∷ (x ++ (v ∷ []))))
    a_group : {u : Sym} {e : Tree} {h : ℕ} {x : List Sym} {v : Sym} → IsSign mark.OpenParen u → Spells full e h x → IsSign mark.CloseParen v
        → IsPost e (suc h) (u ∷ (x ++ (v ∷ [])))
    an_index : {b i : Tree} {h k : ℕ} {x : List Sym} {u : Sym} {y : List Sym} {v : Sym} → IsPost b h x → IsSign mark.OpenBracket u → Spells full i k y
        → IsSign mark.CloseBracket v → IsPost (Tree.index (line_at x) (number_at x) b i) (suc (max h k)) (x ++ (u ∷ (y ++ (v ∷ []))))

  -- arguments, and those behind a first one
  pub data AreArgs : List Tall → List Sym → Type 0 where
    no_args : AreArgs [] []
    some_args : {e : Tree} {h : ℕ} {list : List Tall} {x y : List Sym} → Spells full e h x → AreMore list y → AreArgs (tall e h ∷ list) (x ++ y)

  pub data AreMore : List Tall → List Sym → Type 0 where
    none_more : AreMore [] []
    one_more : {t : Sym} {e : Tree} {h : ℕ} {list : List Tall} {x y : List Sym} → IsSign mark.Comma t → Spells full e h x → AreMore list y
        → AreMore (tall e h ∷ list) ((t ∷ x) ++ y)

-- the texts of whole expressions, and those of a height of at most `d`
abbrev pub IsExpression : List Sym → Type 0
IsExpression u = (e : Tree) × ((h : ℕ) × Spells full e h u)

abbrev pub IsExpressionWithin : ℕ → List Sym → Type 0
IsExpressionWithin d u = (e : Tree) × ((h : ℕ) × (Spells full e h u × (h ≤ d)))
