-- The reader of expressions, by recursive descent. `d` is how many levels a tree may have below its root: it is the limit
-- of the rule C6 and what the recursion goes down on. `turns` bounds the loops; one more than there are tokens is enough.
use Rattle.std.specs.Prelude.{ℕ, zero, suc, max, nat_lt, nat_le, List, [], ◌∷◌, Option, Some}
use Rattle.vk_ast.specs.declared.names.NameId.{NameId}
use Rattle.vk_ast.specs.declared.expressions.BinOp.{BinOp}
use Rattle.vk_ast.specs.Tree.{Tree}
use Rattle.vk_tokens.specs.declared.tokens.Mark.TheVariants as mark
use Rattle.vk_grammar_expr.specs.declared.symbols.Sym.{Sym}
use Rattle.vk_grammar_expr.specs.declared.symbols.SymKind.{SymKind}
use Rattle.vk_grammar_expr.specs.declared.symbols.SymKind.TheVariants as kind
use Rattle.vk_grammar_expr.specs.declared.symbols.Prefix.{Prefix}
use Rattle.vk_grammar_expr.specs.Symbols.{is_sign, operator_at, prefix_at, is_type_part, is_start}
use Rattle.vk_grammar_expr.specs.Types.{words_of, has_words, type_in}
use Rattle.vk_grammar_expr.specs.Grammar.{Tall, tall, trees_in, greatest, prefixed, Sort, level, full}
use Rattle.vk_grammar_expr.specs.Inner.Parser.{Parser, pure, refuse, too_deep, spent, ◌>>=◌, take, look, here, pick, pick_some, expect, many, whole}

-- `ctype`: the words and the `const` that stand here, with at least one word
abbrev pub with_words : List Sym → Parser (List Sym)
with_words c = pick (has_words (words_of c)) (pure c) refuse

unfoldable pub type_words : (turns : ℕ) → Parser (List Sym)
type_words turns = many turns is_type_part take >>= with_words

-- where no level may stand: too deep where an expression begins
unfoldable pub nothing : Parser Tall
nothing = look (λ k. pick (is_start k) too_deep refuse)

-- `sub` reads what stands a level below
module _ (d turns : ℕ) (sub : Sort → Parser Tall) where
  -- an argument behind a comma
  unfoldable pub later_argument : Parser Tall
  later_argument = take >>= (λ _. sub full)

  unfoldable pub some_arguments : Parser (List Tall)
  some_arguments = sub full >>= (λ first. many turns (is_sign mark.Comma) later_argument >>= (λ rest. pure (first ∷ rest)))

  -- the arguments before a `)`
  unfoldable pub arguments : Parser (List Tall)
  arguments = look (λ k. pick (is_sign mark.CloseParen k) (pure []) some_arguments)

  -- behind a name, at the `(`
  unfoldable pub call_of : (line token : ℕ) → NameId → Parser Tall
  call_of l k id = take >>= (λ _. arguments >>= (λ list. expect mark.CloseParen >>= (λ _. pure (tall (Tree.call l k id (trees_in list)) (suc (greatest list))))))

  -- behind a name
  unfoldable pub named : NameId → Sym → Parser Tall
  named id t = look (λ k. pick (is_sign mark.OpenParen k) (call_of t.line t.at id) (pure (tall (Tree.name t.line t.at id) 1)))

  -- a literal, a name or a call
  abbrev pub atom_at : Option SymKind → Parser Tall
  atom_at (Some (kind.Int ty n)) = take >>= (λ t. pure (tall (Tree.int t.line t.at ty n) 1))
  atom_at (Some (kind.Name id)) = take >>= named id
  atom_at _ = refuse

  unfoldable pub atom : Parser Tall
  atom = look atom_at

  -- the subscripts behind an operand that begins at line `l` and token `k`
  unfoldable pub subscript : (next : Tall → Parser Tall) (l k : ℕ) → Tall → Parser Tall
  subscript next l k a = take >>= (λ _. sub full >>= (λ i. expect mark.CloseBracket >>= (λ _.
      next (tall (Tree.index l k a.tree i.tree) (suc (max a.height i.height))))))

  unfoldable pub subscript_step : (next : Tall → Parser Tall) (l k : ℕ) → Tall → Parser Tall
  subscript_step next l k a = look (λ s. pick (is_sign mark.OpenBracket s) (pick (nat_le a.height d) (subscript next l k a) too_deep) (pure a))

  unfoldable pub subscripts : ℕ → (l k : ℕ) → Tall → Parser Tall
  subscripts zero l k a = spent
  subscripts (suc m) l k a = subscript_step (subscripts m l k) l k a

  unfoldable pub post : Parser Tall
  post = here (λ l k. atom >>= subscripts (suc d) l k)

  -- an expression in parentheses, behind the `(`
  unfoldable pub group : Parser Tall
  group = sub full >>= (λ e. expect mark.CloseParen >>= (λ _. pure (tall e.tree (suc e.height))))

  -- a cast, behind its `(`, which stands at line `l` and token `k`
  unfoldable pub cast_of : (l k : ℕ) → Parser Tall
  cast_of l k = type_words turns >>= (λ c. expect mark.CloseParen >>= (λ _. sub (level 0) >>= (λ e. pure (tall (Tree.cast l k (type_in c) e.tree) (suc e.height)))))

  unfoldable pub behind_paren : Sym → Parser Tall
  behind_paren t = look (λ k. pick (is_type_part k) (cast_of t.line t.at) (group >>= subscripts (suc d) t.line t.at))

  -- at a `(`
  unfoldable pub paren : Parser Tall
  paren = pick (nat_lt 0 d) (take >>= behind_paren) too_deep

  -- at a sign before an operand
  unfoldable pub prefix_operand : Prefix → Sym → Parser Tall
  prefix_operand p t = sub (level 0) >>= (λ e. pure (tall (prefixed p t.line t.at e.tree) (suc e.height)))

  unfoldable pub prefix_sign : Prefix → Parser Tall
  prefix_sign p = pick (nat_lt 0 d) (take >>= prefix_operand p) too_deep

  unfoldable pub unaries : Parser Tall
  unaries = look (λ k. pick_some (prefix_at k) prefix_sign (pick (is_sign mark.OpenParen k) paren post))

  -- the operators of level `suc n` behind an operand that begins at line `l` and token `k`, each with its right operand
  unfoldable pub right_operand : (next : Tall → Parser Tall) (n l k : ℕ) → Tall → BinOp → Parser Tall
  right_operand next n l k a o = take >>= (λ _. sub (level n) >>= (λ b. next (tall (Tree.binary l k o a.tree b.tree) (suc (max a.height b.height)))))

  unfoldable pub operator_step : (next : Tall → Parser Tall) (n l k : ℕ) → Tall → Parser Tall
  operator_step next n l k a = look (λ s. pick_some (operator_at (suc n) s) (λ o. pick (nat_le a.height d) (right_operand next n l k a o) too_deep) (pure a))

  unfoldable pub operators : ℕ → (n l k : ℕ) → Tall → Parser Tall
  operators zero n l k a = spent
  operators (suc m) n l k a = operator_step (operators m n l k) n l k a

  unfoldable pub levels : ℕ → Parser Tall
  levels zero = unaries
  levels (suc n) = here (λ l k. levels n >>= operators (suc d) n l k)

  -- behind a condition that begins at line `l` and token `k`
  unfoldable pub branches : (l k : ℕ) → Tall → Parser Tall
  branches l k c = take >>= (λ _. sub full >>= (λ a. expect mark.Colon >>= (λ _. sub full >>= (λ b.
      pure (tall (Tree.choice l k c.tree a.tree b.tree) (suc (max c.height (max a.height b.height))))))))

  unfoldable pub choices : (l k : ℕ) → Tall → Parser Tall
  choices l k c = look (λ s. pick (is_sign mark.Question s) (pick (nat_le c.height d) (branches l k c) too_deep) (pure c))

  unfoldable pub conditional : Parser Tall
  conditional = here (λ l k. levels 10 >>= choices l k)

  -- What goes on behind an operand of level 0 that was read: the operators of the levels 1 to `n`, and all of a `cond`. So
  -- what begins with such an operand and may be no expression is read by it first.
  unfoldable pub climb : (n l k : ℕ) → Tall → Parser Tall
  climb zero l k a = pure a
  climb (suc n) l k a = climb n l k a >>= operators (suc d) n l k

  unfoldable pub onwards : (l k : ℕ) → Tall → Parser Tall
  onwards l k a = climb 10 l k a >>= choices l k

  abbrev pub sorted : Sort → Parser Tall
  sorted (level n) = levels n
  sorted full = conditional

-- an expression of a height of at most `d`
unfoldable pub expression : (turns d : ℕ) → Sort → Parser Tall
expression turns zero s = nothing
expression turns (suc d) s = sorted d turns (expression turns d) s

-- a whole `cond` and nothing else
abbrev pub whole_expression : (turns d : ℕ) → Parser Tall
whole_expression turns d = whole (expression turns d full)
