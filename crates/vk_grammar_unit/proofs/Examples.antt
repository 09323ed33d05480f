-- Texts and the items that are read of them.
use Rattle.std.proofs.Common.{◌≡◌, ℕ, true, false, List, [], ◌∷◌, Some, None, Result, Ok, Err, refl}
use Rattle.vk_types.specs.declared.types.Ty.TheVariants.{I32}
use Rattle.vk_kinds.specs.declared.heads.CType.TheVariants as ctype
use Rattle.vk_ast.specs.declared.names.NameId.{NameId}
use Rattle.vk_ast.specs.Tree.{Tree}
use Rattle.vk_ast.specs.Statements.{StmtTree, no_stmts}
use Rattle.vk_ast.specs.Units.{ItemTree}
use Rattle.vk_tokens.specs.declared.tokens.Mark.{Mark}
use Rattle.vk_tokens.specs.declared.tokens.Mark.TheVariants as mark
use Rattle.vk_grammar_expr.specs.declared.symbols.Sym.{Sym}
use Rattle.vk_grammar_expr.specs.declared.symbols.SymKind.{SymKind}
use Rattle.vk_grammar_expr.specs.declared.symbols.SymKind.TheVariants as kind
use Rattle.vk_grammar_expr.specs.declared.symbols.Keyword.{Keyword}
use Rattle.vk_grammar_expr.specs.declared.symbols.Keyword.TheVariants as keyword
use Rattle.vk_grammar_expr.specs.declared.symbols.TypeWord.TheVariants as word
use Rattle.vk_grammar_expr.specs.Symbols.{same_mark, is_sign, operator_of, operator_at, prefix_of, prefix_at, is_type_part, is_start}
use Rattle.vk_grammar_expr.specs.Types.{words_of, type_table, type_of, type_in}
use Rattle.vk_grammar_expr.specs.Inner.Parser.{Fault, Syntax, many}
use Rattle.vk_grammar_expr.specs.Inner.Reading.{type_words, nothing, later_argument, some_arguments, arguments, call_of, named, atom, subscript, subscript_step, subscripts, post, group, cast_of, behind_paren, paren, prefix_operand, prefix_sign, unaries, right_operand, operator_step, operators, levels, branches, choices, conditional, climb, onwards, expression}
use Rattle.vk_grammar_stmt.specs.Words.{same_keyword, is_keyword, name_at, has_const, assign_of, assign_at, step_of, step_at, begins_here, is_stmt_start}
use Rattle.vk_grammar_stmt.specs.Trees.{Clauses, directive_at}
use Rattle.vk_grammar_stmt.specs.Inner.Reading.{no_level, cond, unary, condition, optional, step_before, assigned, stepped, valued, behind_operand, act, part, named_local, local, later_local, local_list, locals, one_locals, jump, returned, block, else_part, choice, while_loop, do_loop, first_part, for_rest, for_loop, simd_line, lost_line, plain, one_statement, one_entry, statement, entry}
use Rattle.vk_grammar_stmt.specs.Inner.Reading as statements
use Rattle.vk_grammar_unit.specs.Items.{Named, is_qualifier, line_at, function_tree, object_tree, with_name, without_name, no_initial}
use Rattle.vk_grammar_unit.specs.Inner.Reading.{name, extern_word, line, lines, array_param, value_param, pointer_name, pointer_param, param_rest, param, later_param, some_params, params, array_length, value_behind, more_values, values, braced_initial, scalar_initial, initial, object, later_object, objects, definition, function_end, function, one_function, void_function, lost_objects, typed_item, typed, item, items_step, items, whole_unit}

abbrev sym : ℕ → SymKind → Sym
sym at kind = record { line = 1; at = at; kind = kind }

abbrev is_mark : ℕ → Mark → Sym
is_mark at m = sym at (kind.Sign m)

abbrev is_name : ℕ → NameId → Sym
is_name at id = sym at (kind.Name id)

abbrev is_word : ℕ → Keyword → Sym
is_word at w = sym at (kind.Keyword w)

abbrev int : ℕ → Sym
int at = sym at (kind.TypeWord word.Int)

abbrev at_name : ℕ → NameId → Named
at_name at id = record { line = 1; token = at; name = id }

-- no directive has clauses
abbrev bare_lines : Clauses
bare_lines n = []

reads : List Sym → Result (List ItemTree × List Sym) Fault
unfolding same_mark is_sign operator_of operator_at prefix_of prefix_at is_type_part is_start words_of type_table type_of type_in many type_words nothing later_argument some_arguments arguments call_of named atom subscript subscript_step subscripts post group cast_of behind_paren paren prefix_operand prefix_sign unaries right_operand operator_step operators levels branches choices conditional climb onwards expression
    same_keyword is_keyword name_at has_const assign_of assign_at step_of step_at begins_here is_stmt_start
    no_level cond unary condition optional step_before assigned stepped valued behind_operand act part statements.initial named_local local later_local local_list locals one_locals jump returned block else_part choice while_loop do_loop first_part for_rest for_loop simd_line lost_line plain one_statement one_entry statement
    is_qualifier line_at name extern_word line lines array_param value_param pointer_name pointer_param param_rest param later_param some_params params array_length value_behind more_values values braced_initial scalar_initial initial object later_object objects definition function_end function one_function void_function lost_objects typed_item typed item items_step items
reads w = whole_unit bare_lines 3 65 30 w

-- extern int const a, b[];
object_list : (a b : NameId) → reads (is_word 0 keyword.Extern ∷ int 1 ∷ is_word 2 keyword.Const ∷ is_name 3 a ∷ is_mark 4 mark.Comma ∷ is_name 5 b ∷ is_mark 6 mark.OpenBracket ∷ is_mark 7 mark.CloseBracket
    ∷ is_mark 8 mark.Semicolon ∷ [])
    ≡ Ok (object_tree (record { ty = I32; fixed = true; outside = true }) (at_name 3 a) None no_initial ∷ object_tree (record { ty = I32; fixed = true; outside = true }) (at_name 5 b) (Some None) no_initial ∷ [], [])
unfolding reads
object_list a b = refl

-- int a = 7, b[2] = { 7, };
initialisers : (a b : NameId) → reads (int 0 ∷ is_name 1 a ∷ is_mark 2 mark.Assign ∷ sym 3 (kind.Int I32 7) ∷ is_mark 4 mark.Comma ∷ is_name 5 b ∷ is_mark 6 mark.OpenBracket ∷ sym 7 (kind.Int I32 2) ∷ is_mark 8 mark.CloseBracket
    ∷ is_mark 9 mark.Assign ∷ is_mark 10 mark.OpenBrace ∷ sym 11 (kind.Int I32 7) ∷ is_mark 12 mark.Comma ∷ is_mark 13 mark.CloseBrace ∷ is_mark 14 mark.Semicolon ∷ [])
    ≡ Ok (
      object_tree (record { ty = I32; fixed = false; outside = false }) (at_name 1 a) None (record { items = Some (Tree.int 1 3 I32 7 ∷ []); braced = false; line = 1; token = 3 })
          ∷ object_tree (record { ty = I32; fixed = false; outside = false }) (at_name 5 b) (Some (Some (Tree.int 1 7 I32 2))) (record { items = Some (Tree.int 1 11 I32 7 ∷ []); braced = true; line = 1; token = 10 }) ∷ [],
      [],
    )
unfolding reads
initialisers a b = refl

-- SIMDFN int f(const int *restrict p, int n[n], int); the line is the function's
a_declaration : (f p n : NameId) → reads (sym 0 (kind.Simdfn 1) ∷ int 1 ∷ is_name 2 f ∷ is_mark 3 mark.OpenParen ∷ is_word 4 keyword.Const ∷ int 5 ∷ is_mark 6 mark.Star ∷ is_word 7 keyword.Restrict ∷ is_name 8 p
    ∷ is_mark 9 mark.Comma ∷ int 10 ∷ is_name 11 n ∷ is_mark 12 mark.OpenBracket ∷ is_name 13 n ∷ is_mark 14 mark.CloseBracket ∷ is_mark 15 mark.Comma ∷ int 16 ∷ is_mark 17 mark.CloseParen ∷ is_mark 18 mark.Semicolon ∷ [])
    ≡ Ok (
      function_tree (at_name 2 f) (directive_at bare_lines (sym 0 (kind.Simdfn 1)) 1 ∷ []) (ctype.Int I32)
          (with_name (at_name 8 p) (ctype.Ptr I32 false) false ∷ with_name (at_name 11 n) (ctype.Ptr I32 true) false ∷ without_name 1 16 (ctype.Int I32) false ∷ []) None ∷ [],
      [],
    )
unfolding reads
a_declaration f p n = refl

-- void f(int) { }: a parameter without a name is refused at the brace
unnamed : (f : NameId) → reads (is_word 0 keyword.Void ∷ is_name 1 f ∷ is_mark 2 mark.OpenParen ∷ int 3 ∷ is_mark 4 mark.CloseParen ∷ is_mark 5 mark.OpenBrace ∷ is_mark 6 mark.CloseBrace ∷ []) ≡ Err (Syntax 2)
unfolding reads
unnamed f = refl

-- void f(void) { } SIMDFN: the line at the end is lost
a_definition : (f : NameId) → reads (is_word 0 keyword.Void ∷ is_name 1 f ∷ is_mark 2 mark.OpenParen ∷ is_word 3 keyword.Void ∷ is_mark 4 mark.CloseParen ∷ is_mark 5 mark.OpenBrace ∷ is_mark 6 mark.CloseBrace ∷ sym 7 (kind.Simdfn 1) ∷ [])
    ≡ Ok (function_tree (at_name 1 f) [] ctype.Void [] (Some (StmtTree.block 1 5 no_stmts)) ∷ ItemTree.lost_line (directive_at bare_lines (sym 7 (kind.Simdfn 1)) 1) ∷ [], [])
unfolding reads
a_definition f = refl

-- SIMDFN int a; the line is lost too
before_an_object : (a : NameId) → reads (sym 0 (kind.Simdfn 1) ∷ int 1 ∷ is_name 2 a ∷ is_mark 3 mark.Semicolon ∷ [])
    ≡ Ok (ItemTree.lost_line (directive_at bare_lines (sym 0 (kind.Simdfn 1)) 1) ∷ object_tree (record { ty = I32; fixed = false; outside = false }) (at_name 2 a) None no_initial ∷ [], [])
unfolding reads
before_an_object a = refl

-- void a; a function is wanted at the end
void_object : (a : NameId) → reads (is_word 0 keyword.Void ∷ is_name 1 a ∷ is_mark 2 mark.Semicolon ∷ []) ≡ Err (Syntax 1)
unfolding reads
void_object a = refl

-- extern int const f(int * const, int const a); `extern` and the `const` of the result add nothing
outside_function : (f a : NameId) → reads (is_word 0 keyword.Extern ∷ int 1 ∷ is_word 2 keyword.Const ∷ is_name 3 f ∷ is_mark 4 mark.OpenParen ∷ int 5 ∷ is_mark 6 mark.Star ∷ is_word 7 keyword.Const ∷ is_mark 8 mark.Comma
    ∷ int 9 ∷ is_word 10 keyword.Const ∷ is_name 11 a ∷ is_mark 12 mark.CloseParen ∷ is_mark 13 mark.Semicolon ∷ [])
    ≡ Ok (function_tree (at_name 3 f) [] (ctype.Int I32) (without_name 1 5 (ctype.Ptr I32 true) true ∷ with_name (at_name 11 a) (ctype.Int I32) true ∷ []) None ∷ [], [])
unfolding reads
outside_function f a = refl

-- int a, f();
function_in_a_list : (a f : NameId) → reads (int 0 ∷ is_name 1 a ∷ is_mark 2 mark.Comma ∷ is_name 3 f ∷ is_mark 4 mark.OpenParen ∷ is_mark 5 mark.CloseParen ∷ is_mark 6 mark.Semicolon ∷ []) ≡ Err (Syntax 3)
unfolding reads
function_in_a_list a f = refl

-- int a[] = {}; and then nothing
empty_braces : (a : NameId) → reads (int 0 ∷ is_name 1 a ∷ is_mark 2 mark.OpenBracket ∷ is_mark 3 mark.CloseBracket ∷ is_mark 4 mark.Assign ∷ is_mark 5 mark.OpenBrace ∷ is_mark 6 mark.CloseBrace ∷ is_mark 7 mark.Semicolon ∷ [])
    ≡ Ok (object_tree (record { ty = I32; fixed = false; outside = false }) (at_name 1 a) (Some None) (record { items = Some []; braced = true; line = 1; token = 5 }) ∷ [], [])
unfolding reads
empty_braces a = refl

-- a unit of nothing
nothing_at_all : reads [] ≡ Ok ([], [])
unfolding reads
nothing_at_all = refl
