-- What the grammar asks of a token: which sign it is, which operator, and whether it may stand in a type.
-- The tests speak of the kind of a first token, and of none where no token is left.
use Rattle.std.specs.Prelude.{◌≡◌, ℕ, ◌==◌, Bool, true, false, cond, List, [], ◌∷◌, Option, Some, None}
use denote.Enum.Bare.{sameb}
use Rattle.vk_tokens.specs.contracts.tokens.Mark.{the_type}
use Rattle.vk_tokens.specs.declared.tokens.Mark.{Mark}
use Rattle.vk_tokens.specs.declared.tokens.Mark.TheVariants as mark
use Rattle.vk_ast.specs.declared.expressions.BinOp.{BinOp}
use Rattle.vk_ast.specs.declared.expressions.BinOp.TheVariants as op
use Rattle.vk_ast.specs.declared.expressions.UnOp.TheVariants as sign
use Rattle.vk_grammar_expr.specs.declared.symbols.Sym.{Sym}
use Rattle.vk_grammar_expr.specs.declared.symbols.SymKind.{SymKind}
use Rattle.vk_grammar_expr.specs.declared.symbols.SymKind.TheVariants as kind
use Rattle.vk_grammar_expr.specs.declared.symbols.Keyword.TheVariants as keyword
use Rattle.vk_grammar_expr.specs.declared.symbols.Prefix.{Prefix}
use Rattle.vk_grammar_expr.specs.declared.symbols.Prefix.TheVariants as prefix
use Rattle.vk_grammar_expr.specs.declared.symbols.Operator.{Operator}

-- the kind, the line and the number of the first token
abbrev pub head : List Sym → Option SymKind
head [] = None
head (t ∷ rest) = Some t.kind

abbrev pub line_at : List Sym → ℕ
line_at [] = 0
line_at (t ∷ rest) = t.line

abbrev pub number_at : List Sym → ℕ
number_at [] = 0
number_at (t ∷ rest) = t.at

-- the token is this one; a record, so that the token's kind is known from it
pub record Is (k : SymKind) (t : Sym) : Type 0 where
  pub is : t.kind ≡ k

abbrev pub IsSign : Mark → Sym → Type 0
IsSign m t = Is (kind.Sign m) t

unfoldable pub same_mark : Mark → Mark → Bool
same_mark = sameb the_type

unfoldable pub is_sign : Mark → Option SymKind → Bool
is_sign m (Some (kind.Sign found)) = same_mark found m
is_sign m _ = false

-- ---- operators

-- The binary operators (C17 6.5.5 to 6.5.14).
unfoldable pub operator_of : Mark → Option Operator
operator_of mark.Star = Some (record { level = 1; op = op.Mul })
operator_of mark.Slash = Some (record { level = 1; op = op.Div })
operator_of mark.Percent = Some (record { level = 1; op = op.Rem })
operator_of mark.Plus = Some (record { level = 2; op = op.Add })
operator_of mark.Minus = Some (record { level = 2; op = op.Sub })
operator_of mark.ShiftLeft = Some (record { level = 3; op = op.Shl })
operator_of mark.ShiftRight = Some (record { level = 3; op = op.Shr })
operator_of mark.Less = Some (record { level = 4; op = op.Lt })
operator_of mark.Greater = Some (record { level = 4; op = op.Gt })
operator_of mark.LessEqual = Some (record { level = 4; op = op.Le })
operator_of mark.GreaterEqual = Some (record { level = 4; op = op.Ge })
operator_of mark.EqualEqual = Some (record { level = 5; op = op.Eq })
operator_of mark.NotEqual = Some (record { level = 5; op = op.Ne })
operator_of mark.Ampersand = Some (record { level = 6; op = op.And })
operator_of mark.Caret = Some (record { level = 7; op = op.Xor })
operator_of mark.Bar = Some (record { level = 8; op = op.Or })
operator_of mark.AndAnd = Some (record { level = 9; op = op.LogAnd })
operator_of mark.OrOr = Some (record { level = 10; op = op.LogOr })
operator_of _ = None

abbrev pub if_level : ℕ → Option Operator → Option BinOp
if_level n (Some o) = cond (o.level == n) (Some o.op) None
if_level n None = None

-- the operator of this level whose sign stands here
unfoldable pub operator_at : ℕ → Option SymKind → Option BinOp
operator_at n (Some (kind.Sign m)) = if_level n (operator_of m)
operator_at n _ = None

pub record IsOperator (n : ℕ) (o : BinOp) (t : Sym) : Type 0 where
  pub is : operator_at n (Some t.kind) ≡ Some o

-- The signs before an operand (C17 6.5.3).
unfoldable pub prefix_of : Mark → Option Prefix
prefix_of mark.Star = Some prefix.Deref
prefix_of mark.Ampersand = Some prefix.Addr
prefix_of mark.Plus = Some (prefix.Unary sign.Plus)
prefix_of mark.Minus = Some (prefix.Unary sign.Neg)
prefix_of mark.Tilde = Some (prefix.Unary sign.Not)
prefix_of mark.Bang = Some (prefix.Unary sign.LogNot)
prefix_of _ = None

unfoldable pub prefix_at : Option SymKind → Option Prefix
prefix_at (Some (kind.Sign m)) = prefix_of m
prefix_at _ = None

pub record IsPrefix (p : Prefix) (t : Sym) : Type 0 where
  pub is : prefix_at (Some t.kind) ≡ Some p

-- ---- types and expressions

-- a word of an integer type, or `const`
unfoldable pub is_type_part : Option SymKind → Bool
is_type_part (Some (kind.TypeWord w)) = true
is_type_part (Some (kind.Keyword keyword.Const)) = true
is_type_part _ = false

-- whether an expression may begin so: with a literal, a name, a `(` or a sign before an operand
unfoldable pub is_start : Option SymKind → Bool
is_start (Some (kind.Int ty n)) = true
is_start (Some (kind.Name id)) = true
is_start (Some (kind.Sign mark.OpenParen)) = true
is_start (Some (kind.Sign mark.Star)) = true
is_start (Some (kind.Sign mark.Ampersand)) = true
is_start (Some (kind.Sign mark.Plus)) = true
is_start (Some (kind.Sign mark.Minus)) = true
is_start (Some (kind.Sign mark.Tilde)) = true
is_start (Some (kind.Sign mark.Bang)) = true
is_start _ = false
