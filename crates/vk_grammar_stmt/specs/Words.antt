-- What the grammar of statements asks of a token.
use Rattle.std.specs.Prelude.{◌≡◌, Bool, true, false, ◌||◌, List, [], ◌∷◌, Option, Some, None}
use denote.Enum.Bare.{sameb}
use Rattle.vk_ast.specs.declared.names.NameId.{NameId}
use Rattle.vk_ast.specs.declared.expressions.BinOp.{BinOp}
use Rattle.vk_ast.specs.declared.expressions.BinOp.TheVariants as op
use Rattle.vk_tokens.specs.declared.tokens.Mark.{Mark}
use Rattle.vk_tokens.specs.declared.tokens.Mark.TheVariants as mark
use Rattle.vk_grammar_expr.specs.contracts.symbols.Keyword.{the_type}
use Rattle.vk_grammar_expr.specs.declared.symbols.Keyword.{Keyword}
use Rattle.vk_grammar_expr.specs.declared.symbols.Keyword.TheVariants as keyword
use Rattle.vk_grammar_expr.specs.declared.symbols.Sym.{Sym}
use Rattle.vk_grammar_expr.specs.declared.symbols.SymKind.{SymKind}
use Rattle.vk_grammar_expr.specs.declared.symbols.SymKind.TheVariants as kind
use Rattle.vk_grammar_expr.specs.Symbols.{Is, is_type_part, is_start}

abbrev pub IsKeyword : Keyword → Sym → Type 0
IsKeyword w t = Is (kind.Keyword w) t

unfoldable pub same_keyword : Keyword → Keyword → Bool
same_keyword = sameb the_type

unfoldable pub is_keyword : Keyword → Option SymKind → Bool
is_keyword w (Some (kind.Keyword found)) = same_keyword found w
is_keyword w _ = false

-- the name that stands here
unfoldable pub name_at : Option SymKind → Option NameId
name_at (Some (kind.Name id)) = Some id
name_at _ = None

-- whether `const` is among the tokens
unfoldable pub has_const : List Sym → Bool
has_const [] = false
has_const (t ∷ rest) = is_keyword keyword.Const (Some t.kind) || has_const rest

-- ---- signs of assignments

-- The signs of assignments (C17 6.5.16), each with the operator that it applies to the place first.
unfoldable pub assign_of : Mark → Option (Option BinOp)
assign_of mark.Assign = Some None
assign_of mark.AddAssign = Some (Some op.Add)
assign_of mark.SubAssign = Some (Some op.Sub)
assign_of mark.MulAssign = Some (Some op.Mul)
assign_of mark.DivAssign = Some (Some op.Div)
assign_of mark.RemAssign = Some (Some op.Rem)
assign_of mark.AndAssign = Some (Some op.And)
assign_of mark.OrAssign = Some (Some op.Or)
assign_of mark.XorAssign = Some (Some op.Xor)
assign_of mark.ShlAssign = Some (Some op.Shl)
assign_of mark.ShrAssign = Some (Some op.Shr)
assign_of _ = None

unfoldable pub assign_at : Option SymKind → Option (Option BinOp)
assign_at (Some (kind.Sign m)) = assign_of m
assign_at _ = None

pub record IsAssign (o : Option BinOp) (t : Sym) : Type 0 where
  pub is : assign_at (Some t.kind) ≡ Some o

-- `++` and `--` (C17 6.5.2.4, 6.5.3.1)
unfoldable pub step_of : Mark → Option BinOp
step_of mark.Increment = Some op.Add
step_of mark.Decrement = Some op.Sub
step_of _ = None

unfoldable pub step_at : Option SymKind → Option BinOp
step_at (Some (kind.Sign m)) = step_of m
step_at _ = None

pub record IsStep (o : BinOp) (t : Sym) : Type 0 where
  pub is : step_at (Some t.kind) ≡ Some o

-- ---- beginnings

-- whether a statement may begin so
unfoldable pub begins_here : SymKind → Bool
begins_here (kind.Sign mark.OpenBrace) = true
begins_here (kind.Sign mark.Semicolon) = true
begins_here (kind.Sign mark.Increment) = true
begins_here (kind.Sign mark.Decrement) = true
begins_here (kind.Keyword keyword.If) = true
begins_here (kind.Keyword keyword.While) = true
begins_here (kind.Keyword keyword.Do) = true
begins_here (kind.Keyword keyword.For) = true
begins_here (kind.Keyword keyword.Break) = true
begins_here (kind.Keyword keyword.Continue) = true
begins_here (kind.Keyword keyword.Return) = true
begins_here (kind.Simd n) = true
begins_here (kind.Simdfn n) = true
begins_here k = is_type_part (Some k) || is_start (Some k)

unfoldable pub is_stmt_start : Option SymKind → Bool
is_stmt_start (Some k) = begins_here k
is_stmt_start None = false
