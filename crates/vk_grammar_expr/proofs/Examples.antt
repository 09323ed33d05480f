-- Texts and the trees that are read of them.
use Rattle.std.proofs.Common.{◌≡◌, ℕ, List, [], ◌∷◌, Some, None, Result, Ok, Err, refl}
use Rattle.vk_types.specs.declared.types.Ty.TheVariants.{I8, I16, I32, U32, U64}
use Rattle.vk_ast.specs.declared.names.NameId.{NameId}
use Rattle.vk_ast.specs.declared.expressions.BinOp.TheVariants as op
use Rattle.vk_ast.specs.declared.expressions.UnOp.TheVariants as sign
use Rattle.vk_ast.specs.Tree.{Tree, Trees}
use Rattle.vk_tokens.specs.declared.tokens.Mark.{Mark}
use Rattle.vk_tokens.specs.declared.tokens.Mark.TheVariants as mark
use Rattle.vk_grammar_expr.specs.declared.symbols.Sym.{Sym}
use Rattle.vk_grammar_expr.specs.declared.symbols.SymKind.{SymKind}
use Rattle.vk_grammar_expr.specs.declared.symbols.SymKind.TheVariants as kind
use Rattle.vk_grammar_expr.specs.declared.symbols.Keyword.TheVariants as keyword
use Rattle.vk_grammar_expr.specs.declared.symbols.TypeWord.TheVariants as word
use Rattle.vk_grammar_expr.specs.Symbols.{same_mark, is_sign, operator_of, operator_at, prefix_of, prefix_at, is_type_part, is_start}
use Rattle.vk_grammar_expr.specs.Types.{words_of, type_table, type_of, type_in}
use Rattle.vk_grammar_expr.specs.Grammar.{Tall, tall}
use Rattle.vk_grammar_expr.specs.Inner.Parser.{Fault, Syntax, Deep, many}
use Rattle.vk_grammar_expr.specs.Inner.Reading.{type_words, nothing, later_argument, some_arguments, arguments, call_of, named, atom, subscript, subscript_step, subscripts, post, group, cast_of, behind_paren, paren, prefix_operand, prefix_sign, unaries, right_operand, operator_step, operators, levels, branches, choices, conditional, expression, whole_expression}

abbrev sym : ℕ → SymKind → Sym
sym at kind = record { line = 1; at = at; kind = kind }

abbrev is_mark : ℕ → Mark → Sym
is_mark at m = sym at (kind.Sign m)

abbrev is_name : ℕ → NameId → Sym
is_name at id = sym at (kind.Name id)

-- the result for a limit of `d` levels
reads : ℕ → List Sym → Result (Tall × List Sym) Fault
unfolding same_mark is_sign operator_of operator_at prefix_of prefix_at is_type_part is_start words_of type_table type_of type_in many type_words nothing later_argument some_arguments arguments call_of named atom subscript subscript_step subscripts post group cast_of behind_paren paren prefix_operand prefix_sign unaries right_operand operator_step operators levels branches choices conditional expression
reads d w = whole_expression 20 d w

-- a - b - c
from_the_left : (a b c : NameId) → reads 64 (is_name 0 a ∷ is_mark 1 mark.Minus ∷ is_name 2 b ∷ is_mark 3 mark.Minus ∷ is_name 4 c ∷ [])
    ≡ Ok (tall (Tree.binary 1 0 op.Sub (Tree.binary 1 0 op.Sub (Tree.name 1 0 a) (Tree.name 1 2 b)) (Tree.name 1 4 c)) 3, [])
unfolding reads
from_the_left a b c = refl

-- a < b * c
by_level : (a b c : NameId) → reads 64 (is_name 0 a ∷ is_mark 1 mark.Less ∷ is_name 2 b ∷ is_mark 3 mark.Star ∷ is_name 4 c ∷ [])
    ≡ Ok (tall (Tree.binary 1 0 op.Lt (Tree.name 1 0 a) (Tree.binary 1 2 op.Mul (Tree.name 1 2 b) (Tree.name 1 4 c))) 3, [])
unfolding reads
by_level a b c = refl

-- (a) + b: the whole begins at the parenthesis, its left operand at the name
in_parentheses : (a b : NameId) → reads 64 (is_mark 0 mark.OpenParen ∷ is_name 1 a ∷ is_mark 2 mark.CloseParen ∷ is_mark 3 mark.Plus ∷ is_name 4 b ∷ [])
    ≡ Ok (tall (Tree.binary 1 0 op.Add (Tree.name 1 1 a) (Tree.name 1 4 b)) 3, [])
unfolding reads
in_parentheses a b = refl

-- (int const unsigned) -a[b]
a_cast : (a b : NameId) → reads 64 (is_mark 0 mark.OpenParen ∷ sym 1 (kind.TypeWord word.Int) ∷ sym 2 (kind.Keyword keyword.Const) ∷ sym 3 (kind.TypeWord word.Unsigned)
    ∷ is_mark 4 mark.CloseParen ∷ is_mark 5 mark.Minus ∷ is_name 6 a ∷ is_mark 7 mark.OpenBracket ∷ is_name 8 b ∷ is_mark 9 mark.CloseBracket ∷ [])
    ≡ Ok (tall (Tree.cast 1 0 U32 (Tree.unary 1 5 sign.Neg (Tree.index 1 6 (Tree.name 1 6 a) (Tree.name 1 8 b)))) 4, [])
unfolding reads
a_cast a b = refl

-- f(a, 2) ? *a : f()
a_choice : (f a : NameId) → reads 64 (is_name 0 f ∷ is_mark 1 mark.OpenParen ∷ is_name 2 a ∷ is_mark 3 mark.Comma ∷ sym 4 (kind.Int I32 2) ∷ is_mark 5 mark.CloseParen
    ∷ is_mark 6 mark.Question ∷ is_mark 7 mark.Star ∷ is_name 8 a ∷ is_mark 9 mark.Colon ∷ is_name 10 f ∷ is_mark 11 mark.OpenParen ∷ is_mark 12 mark.CloseParen ∷ [])
    ≡ Ok (
      tall (Tree.choice 1 0 (Tree.call 1 0 f (Trees.more_trees (Tree.name 1 2 a) (Trees.more_trees (Tree.int 1 4 I32 2) Trees.no_trees)))
          (Tree.deref 1 7 (Tree.name 1 8 a)) (Tree.call 1 10 f Trees.no_trees)) 3,
      [],
    )
unfolding reads
a_choice f a = refl

-- ((a)) has three levels
three_levels : (a : NameId) → reads 3 (is_mark 0 mark.OpenParen ∷ is_mark 1 mark.OpenParen ∷ is_name 2 a ∷ is_mark 3 mark.CloseParen ∷ is_mark 4 mark.CloseParen ∷ [])
    ≡ Ok (tall (Tree.name 1 2 a) 3, [])
unfolding reads
three_levels a = refl

not_two : (a : NameId) → reads 2 (is_mark 0 mark.OpenParen ∷ is_mark 1 mark.OpenParen ∷ is_name 2 a ∷ is_mark 3 mark.CloseParen ∷ is_mark 4 mark.CloseParen ∷ []) ≡ Err (Deep 4)
unfolding reads
not_two a = refl

-- (const) a: a word of a type is wanted at the `)`
const_alone : (a : NameId) → reads 64 (is_mark 0 mark.OpenParen ∷ sym 1 (kind.Keyword keyword.Const) ∷ is_mark 2 mark.CloseParen ∷ is_name 3 a ∷ []) ≡ Err (Syntax 2)
unfolding reads
const_alone a = refl

-- a b, and a +
two_names : (a b : NameId) → reads 64 (is_name 0 a ∷ is_name 1 b ∷ []) ≡ Err (Syntax 1)
unfolding reads
two_names a b = refl

cut_short : (a : NameId) → reads 64 (is_name 0 a ∷ is_mark 1 mark.Plus ∷ []) ≡ Err (Syntax 0)
unfolding reads
cut_short a = refl

-- ---- words of types

long_long : type_of (word.Long ∷ word.Unsigned ∷ word.Int ∷ word.Long ∷ []) ≡ Some U64
unfolding type_of type_table
long_long = refl

signed_char : type_of (word.Char ∷ word.Signed ∷ []) ≡ Some I8
unfolding type_of type_table
signed_char = refl

plain_char : type_of (word.Char ∷ []) ≡ None
unfolding type_of type_table
plain_char = refl

both_signs : type_of (word.Signed ∷ word.Unsigned ∷ word.Int ∷ []) ≡ None
unfolding type_of type_table
both_signs = refl

three_longs : type_of (word.Long ∷ word.Long ∷ word.Long ∷ []) ≡ None
unfolding type_of type_table
three_longs = refl

fixed_width : type_of (word.Int16 ∷ []) ≡ Some I16
unfolding type_of type_table
fixed_width = refl

no_int_of_it : type_of (word.Int16 ∷ word.Int ∷ []) ≡ None
unfolding type_of type_table
no_int_of_it = refl
