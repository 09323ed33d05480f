-- Texts and the trees that are read of them.
use Rattle.std.proofs.Common.{◌≡◌, ℕ, true, false, List, [], ◌∷◌, Some, None, Result, Ok, Err, refl}
use Rattle.vk_types.specs.declared.types.Ty.TheVariants.{I32}
use Rattle.vk_ast.specs.declared.names.NameId.{NameId}
use Rattle.vk_ast.specs.declared.expressions.BinOp.TheVariants as op
use Rattle.vk_ast.specs.Tree.{Tree}
use Rattle.vk_ast.specs.Statements.{StmtTree, no_stmts, more_stmts}
use Rattle.vk_tokens.specs.declared.tokens.Mark.{Mark}
use Rattle.vk_tokens.specs.declared.tokens.Mark.TheVariants as mark
use Rattle.vk_grammar_expr.specs.declared.symbols.Sym.{Sym}
use Rattle.vk_grammar_expr.specs.declared.symbols.SymKind.{SymKind}
use Rattle.vk_grammar_expr.specs.declared.symbols.SymKind.TheVariants as kind
use Rattle.vk_grammar_expr.specs.declared.symbols.Keyword.{Keyword}
use Rattle.vk_grammar_expr.specs.declared.symbols.Keyword.TheVariants as keyword
use Rattle.vk_grammar_expr.specs.declared.symbols.TypeWord.TheVariants as word
use Rattle.vk_grammar_expr.specs.Symbols.{same_mark, is_sign, operator_of, operator_at, prefix_of, prefix_at, is_type_part, is_start}
use Rattle.vk_grammar_expr.specs.Types.{words_of, type_table, type_of, type_in}
use Rattle.vk_grammar_expr.specs.Inner.Parser.{Fault, Syntax, Deep, many}
use Rattle.vk_grammar_expr.specs.Inner.Reading.{type_words, nothing, later_argument, some_arguments, arguments, call_of, named, atom, subscript, subscript_step, subscripts, post, group, cast_of, behind_paren, paren, prefix_operand, prefix_sign, unaries, right_operand, operator_step, operators, levels, branches, choices, conditional, climb, onwards, expression}
use Rattle.vk_grammar_stmt.specs.Words.{same_keyword, is_keyword, name_at, has_const, assign_of, assign_at, step_of, step_at, begins_here, is_stmt_start}
use Rattle.vk_grammar_stmt.specs.Trees.{Clauses, directive_at}
use Rattle.vk_grammar_stmt.specs.Inner.Reading.{no_level, cond, unary, condition, optional, step_before, assigned, stepped, valued, behind_operand, act, part, initial, named_local, local, later_local, local_list, locals, one_locals, jump, returned, block, else_part, choice, while_loop, do_loop, first_part, for_rest, for_loop, simd_line, lost_line, plain, one_statement, one_entry, statement, whole_statement}

abbrev sym : ℕ → SymKind → Sym
sym at kind = record { line = 1; at = at; kind = kind }

abbrev is_mark : ℕ → Mark → Sym
is_mark at m = sym at (kind.Sign m)

abbrev is_name : ℕ → NameId → Sym
is_name at id = sym at (kind.Name id)

abbrev is_word : ℕ → Keyword → Sym
is_word at w = sym at (kind.Keyword w)

-- no directive has clauses
abbrev bare_lines : Clauses
bare_lines n = []

-- the result for a limit of `d` levels of statements
reads : ℕ → List Sym → Result (StmtTree × List Sym) Fault
unfolding same_mark is_sign operator_of operator_at prefix_of prefix_at is_type_part is_start words_of type_table type_of type_in many type_words nothing later_argument some_arguments arguments call_of named atom subscript subscript_step subscripts post group cast_of behind_paren paren prefix_operand prefix_sign unaries right_operand operator_step operators levels branches choices conditional climb onwards expression
    same_keyword is_keyword name_at has_const assign_of assign_at step_of step_at begins_here is_stmt_start
    no_level cond unary condition optional step_before assigned stepped valued behind_operand act part initial named_local local later_local local_list locals one_locals jump returned block else_part choice while_loop do_loop first_part for_rest for_loop simd_line lost_line plain one_statement one_entry statement
reads d w = whole_statement bare_lines 3 30 d w

-- x ++;
step_behind : (x : NameId) → reads 65 (is_name 0 x ∷ is_mark 1 mark.Increment ∷ is_mark 2 mark.Semicolon ∷ [])
    ≡ Ok (StmtTree.assign 1 0 (Some op.Add) (Tree.name 1 0 x) (Tree.int 1 1 I32 1), [])
unfolding reads
step_behind x = refl

-- a = a - a;
plain_assignment : (a : NameId) → reads 65 (is_name 0 a ∷ is_mark 1 mark.Assign ∷ is_name 2 a ∷ is_mark 3 mark.Minus ∷ is_name 4 a ∷ is_mark 5 mark.Semicolon ∷ [])
    ≡ Ok (StmtTree.assign 1 0 None (Tree.name 1 0 a) (Tree.binary 1 2 op.Sub (Tree.name 1 2 a) (Tree.name 1 4 a)), [])
unfolding reads
plain_assignment a = refl

-- a + a = a; what is assigned to is no sum
no_place : (a : NameId) → reads 65 (is_name 0 a ∷ is_mark 1 mark.Plus ∷ is_name 2 a ∷ is_mark 3 mark.Assign ∷ is_name 4 a ∷ is_mark 5 mark.Semicolon ∷ []) ≡ Err (Syntax 3)
unfolding reads
no_place a = refl

-- if (a) if (b) ; else ;
nearest_if : (a b : NameId) → reads 65 (is_word 0 keyword.If ∷ is_mark 1 mark.OpenParen ∷ is_name 2 a ∷ is_mark 3 mark.CloseParen ∷ is_word 4 keyword.If ∷ is_mark 5 mark.OpenParen ∷ is_name 6 b
    ∷ is_mark 7 mark.CloseParen ∷ is_mark 8 mark.Semicolon ∷ is_word 9 keyword.Else ∷ is_mark 10 mark.Semicolon ∷ [])
    ≡ Ok (StmtTree.if_only 1 0 (Tree.name 1 2 a) (StmtTree.if_else 1 4 (Tree.name 1 6 b) (StmtTree.empty 1 8) (StmtTree.empty 1 10)), [])
unfolding reads
nearest_if a b = refl

-- { const int a = b, c; }
in_a_block : (a b c : NameId) → reads 65 (is_mark 0 mark.OpenBrace ∷ is_word 1 keyword.Const ∷ sym 2 (kind.TypeWord word.Int) ∷ is_name 3 a ∷ is_mark 4 mark.Assign ∷ is_name 5 b ∷ is_mark 6 mark.Comma ∷ is_name 7 c
    ∷ is_mark 8 mark.Semicolon ∷ is_mark 9 mark.CloseBrace ∷ [])
    ≡ Ok (StmtTree.block 1 0 (more_stmts (StmtTree.local 1 3 I32 true a (Some (Tree.name 1 5 b))) (more_stmts (StmtTree.local 1 7 I32 true c None) no_stmts)), [])
unfolding reads
in_a_block a b c = refl

-- if (a) int b, c;
where_one_is_wanted : (a b c : NameId) → reads 65 (is_word 0 keyword.If ∷ is_mark 1 mark.OpenParen ∷ is_name 2 a ∷ is_mark 3 mark.CloseParen ∷ sym 4 (kind.TypeWord word.Int) ∷ is_name 5 b ∷ is_mark 6 mark.Comma ∷ is_name 7 c
    ∷ is_mark 8 mark.Semicolon ∷ [])
    ≡ Ok (StmtTree.if_only 1 0 (Tree.name 1 2 a) (StmtTree.block 1 4 (more_stmts (StmtTree.local 1 5 I32 false b None) (more_stmts (StmtTree.local 1 7 I32 false c None) no_stmts))), [])
unfolding reads
where_one_is_wanted a b c = refl

-- the same with two levels: the block of the two names is the second
a_block_too_many : (a b c : NameId) → reads 2 (is_word 0 keyword.If ∷ is_mark 1 mark.OpenParen ∷ is_name 2 a ∷ is_mark 3 mark.CloseParen ∷ sym 4 (kind.TypeWord word.Int) ∷ is_name 5 b ∷ is_mark 6 mark.Comma ∷ is_name 7 c
    ∷ is_mark 8 mark.Semicolon ∷ []) ≡ Err (Deep 3)
unfolding reads
a_block_too_many a b c = refl

-- for (int i = a, j; ; ) ;
head_of_for : (a i j : NameId) → reads 65 (is_word 0 keyword.For ∷ is_mark 1 mark.OpenParen ∷ sym 2 (kind.TypeWord word.Int) ∷ is_name 3 i ∷ is_mark 4 mark.Assign ∷ is_name 5 a ∷ is_mark 6 mark.Comma ∷ is_name 7 j
    ∷ is_mark 8 mark.Semicolon ∷ is_mark 9 mark.Semicolon ∷ is_mark 10 mark.CloseParen ∷ is_mark 11 mark.Semicolon ∷ [])
    ≡ Ok (
      StmtTree.for_loop 1 0 (StmtTree.block 1 2 (more_stmts (StmtTree.local 1 3 I32 false i (Some (Tree.name 1 5 a))) (more_stmts (StmtTree.local 1 7 I32 false j None) no_stmts))) None
          (StmtTree.empty 1 10) (StmtTree.empty 1 11),
      [],
    )
unfolding reads
head_of_for a i j = refl

-- a line of a directive that is lost in a block, and one before a loop
lines_of_directives : (a : NameId) → reads 65 (is_mark 0 mark.OpenBrace ∷ sym 1 (kind.Simdfn 1) ∷ sym 2 (kind.Simd 2) ∷ is_word 3 keyword.While ∷ is_mark 4 mark.OpenParen ∷ is_name 5 a ∷ is_mark 6 mark.CloseParen
    ∷ is_word 7 keyword.Break ∷ is_mark 8 mark.Semicolon ∷ is_mark 9 mark.CloseBrace ∷ [])
    ≡ Ok (
      StmtTree.block 1 0 (more_stmts (StmtTree.lost 1 1 (directive_at bare_lines (sym 1 (kind.Simdfn 1)) 1))
          (more_stmts (StmtTree.simd 1 2 (directive_at bare_lines (sym 2 (kind.Simd 2)) 2) (StmtTree.while_loop 1 3 (Tree.name 1 5 a) (StmtTree.break_loop 1 7))) no_stmts)),
      [],
    )
unfolding reads
lines_of_directives a = refl

-- { ; } with one level
block_alone : reads 1 (is_mark 0 mark.OpenBrace ∷ is_mark 1 mark.Semicolon ∷ is_mark 2 mark.CloseBrace ∷ []) ≡ Err (Deep 2)
unfolding reads
block_alone = refl

-- if (a) while (b) if (c) ; else ;
through_a_loop : (a b c : NameId) → reads 65 (is_word 0 keyword.If ∷ is_mark 1 mark.OpenParen ∷ is_name 2 a ∷ is_mark 3 mark.CloseParen ∷ is_word 4 keyword.While ∷ is_mark 5 mark.OpenParen ∷ is_name 6 b ∷ is_mark 7 mark.CloseParen
    ∷ is_word 8 keyword.If ∷ is_mark 9 mark.OpenParen ∷ is_name 10 c ∷ is_mark 11 mark.CloseParen ∷ is_mark 12 mark.Semicolon ∷ is_word 13 keyword.Else ∷ is_mark 14 mark.Semicolon ∷ [])
    ≡ Ok (StmtTree.if_only 1 0 (Tree.name 1 2 a) (StmtTree.while_loop 1 4 (Tree.name 1 6 b) (StmtTree.if_else 1 8 (Tree.name 1 10 c) (StmtTree.empty 1 12) (StmtTree.empty 1 14))), [])
unfolding reads
through_a_loop a b c = refl

-- do -- a; while (b);
before_in_do : (a b : NameId) → reads 65 (is_word 0 keyword.Do ∷ is_mark 1 mark.Decrement ∷ is_name 2 a ∷ is_mark 3 mark.Semicolon ∷ is_word 4 keyword.While ∷ is_mark 5 mark.OpenParen ∷ is_name 6 b ∷ is_mark 7 mark.CloseParen
    ∷ is_mark 8 mark.Semicolon ∷ []) ≡ Ok (StmtTree.do_loop 1 0 (StmtTree.assign 1 1 (Some op.Sub) (Tree.name 1 2 a) (Tree.int 1 1 I32 1)) (Tree.name 1 6 b), [])
unfolding reads
before_in_do a b = refl

-- for (; a ; * a <<= a) return;
parts_of_for : (a : NameId) → reads 65 (is_word 0 keyword.For ∷ is_mark 1 mark.OpenParen ∷ is_mark 2 mark.Semicolon ∷ is_name 3 a ∷ is_mark 4 mark.Semicolon ∷ is_mark 5 mark.Star ∷ is_name 6 a ∷ is_mark 7 mark.ShlAssign ∷ is_name 8 a
    ∷ is_mark 9 mark.CloseParen ∷ is_word 10 keyword.Return ∷ is_mark 11 mark.Semicolon ∷ [])
    ≡ Ok (StmtTree.for_loop 1 0 (StmtTree.empty 1 2) (Some (Tree.name 1 3 a)) (StmtTree.assign 1 5 (Some op.Shl) (Tree.deref 1 5 (Tree.name 1 6 a)) (Tree.name 1 8 a)) (StmtTree.return_value 1 10 None), [])
unfolding reads
parts_of_for a = refl

-- else ;
else_alone : reads 65 (is_word 0 keyword.Else ∷ is_mark 1 mark.Semicolon ∷ []) ≡ Err (Syntax 2)
unfolding reads
else_alone = refl
