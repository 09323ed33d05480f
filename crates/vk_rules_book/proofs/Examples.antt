-- Small units and the first fault of each, computed by the definitions alone. The C text of a unit stands over it.
use Rattle.std.specs.Prelude.{◌≡◌, ℕ, Bool, true, false, List, [], ◌∷◌, map, codes, Option, Some, None}
use Rattle.std.proofs.Common.{refl}
use Rattle.std.specs.Option.{option_map}
use Rattle.std.specs.Int.{int_wrap}
use Rattle.vk_types.specs.declared.types.Ty.{Ty}
use Rattle.vk_types.specs.declared.types.Ty.TheVariants.{I32}
use Rattle.vk_kinds.specs.declared.heads.CType.{CType}
use Rattle.vk_kinds.specs.declared.heads.CType.TheVariants.{Void, Int, Ptr}
use Rattle.vk_kinds.specs.declared.kinds.Target.TheVariants.{X86, Arm}
use Rattle.vk_kinds.specs.Sizes.{cdt, nds, wds}
use Rattle.vk_kinds.specs.Lengths.{lengths}
use Rattle.vk_ast.specs.declared.names.NameId.{NameId}
use Rattle.vk_ast.specs.declared.items.ParamDecl.{ParamDecl}
use Rattle.vk_ast.specs.declared.expressions.BinOp.TheVariants as b
use Rattle.vk_ast.specs.declared.directives.Modifier.TheVariants as m
use Rattle.vk_ast.specs.declared.directives.PlacedName.{PlacedName}
use Rattle.vk_ast.specs.Tree as t
use Rattle.vk_ast.specs.Tree.{Tree}
use Rattle.vk_ast.specs.Statements as s
use Rattle.vk_ast.specs.Statements.{StmtTree}
use Rattle.vk_ast.specs.Directives as c
use Rattle.vk_ast.specs.Directives.{ClauseTree, DirectiveTree, Says}
use Rattle.vk_ast.specs.Units as i
use Rattle.vk_ast.specs.Units.{ItemTree}
use Rattle.vk_unit_rules.specs.declared.rules.UnitRule.{UnitRule}
use Rattle.vk_unit_rules.specs.declared.rules.UnitRule.TheVariants as r
use Rattle.vk_rules_book.specs.declared.faults.Fault.{Fault}
use Rattle.vk_numbers.specs.Constants.{constant_of}
use Rattle.vk_rules_book.specs.Faults.{first_among}
use Rattle.vk_rules_book.specs.Scopes.{first_declaration, last_binding, meaning_of, is_taken, with_params}
use Rattle.vk_rules_book.specs.Typings.{are_arguments, choice_typing}
use Rattle.vk_rules_book.specs.Expressions.{expression_faults, call_faults, called_faults}
use Rattle.vk_rules_book.specs.Statements.{statement_faults, parameter_faults}
use Rattle.vk_rules_book.specs.Signatures.{param_of, number_of, is_uniform, step_of, kind_in, align_in, branch_in, simdlen_in, signature_of, same_params, same_signatures, share_a_name}
use Rattle.vk_rules_book.specs.Directives.{powers, said_faults, clause_faults, entry_faults, has_signature, repeats_a_name, directive_faults, redeclaration_faults}
use Rattle.vk_rules_book.specs.Items.{same_ctypes, length_of, initial_faults, definition_in, costs, item_faults}
use Rattle.vk_rules_book.specs.Rules.{Subject, faults_of}

abbrev id : ℕ → NameId
id n = record { 0 = n }

-- what is told of a fault
record Told : Type 0 where
  rule : UnitRule
  line : ℕ
  directive : ℕ

abbrev told : UnitRule → ℕ → ℕ → Told
told rule line directive = record { rule = rule; line = line; directive = directive }

abbrev placed : ℕ → NameId → PlacedName
placed token name = record { line = 1; token = token; name = name }

abbrev a_clause : ℕ → Says → ClauseTree
a_clause token says = record { line = 1; token = token; says = says; names = [] }

abbrev a_directive : ℕ → ℕ → ℕ → List ClauseTree → DirectiveTree
a_directive line token number clauses = record { line = line; token = token; number = number; clauses = clauses }

abbrev a_param : ℕ → ℕ → Option NameId → CType → Bool → ParamDecl
a_param line token name ctype fixed = record { line = line; token = token; name = name; ctype = ctype; fixed = fixed }

abbrev a_function : ℕ → ℕ → NameId → List DirectiveTree → CType → List ParamDecl → Option StmtTree → ItemTree
a_function line token name directives result params body =
    i.function record { line = line; token = token; name = name; directives = directives; result = result; params = params; body = body }

abbrev an_object : ℕ → ℕ → NameId → Ty → Bool → Bool → Option (Option Tree) → Option (List Tree) → Bool → ℕ → ℕ → ItemTree
an_object line token name ty fixed outside array init braced init_line init_token = i.object record {
  line = line;
  token = token;
  name = name;
  ty = ty;
  fixed = fixed;
  outside = outside;
  array = array;
  init = init;
  braced = braced;
  init_line = init_line;
  init_token = init_token;
}

abbrev told_of : Option Fault → Option Told
told_of f = option_map (λ x. told x.rule x.line x.directive) f

abbrev first_told : Subject → Option Told
first_told unit = told_of (first_among None (faults_of unit))

-- extern const int gain[8]; int y[4], x[10];
-- const int c = 8;
-- #pragma omp declare simd
-- int scale(int v, int k) { return v * gain[k & 7] + c; }
-- #pragma omp declare simd linear(p) simdlen(4)
-- void put(int *p, int v) { *p = v + 1; p[0] += 2; }
-- #pragma omp declare simd uniform(k), linear(k2:k)
-- int two(int *p, const int *q, int k, int k2) { put(p, q[k]); return *p; }
-- int main(void) { for (int i = 0, j = 1; i < 4; i++) { int i = j; y[i] = scale(i, 1); put(y + i, x[i]); put(&x[i], 3); } print(y[0]); return 0; }
abbrev unit_1 : Subject
unit_1 = record {
  items = (an_object 1 3 (id 0) I32 true true (Some (Some (t.int 1 5 I32 8))) None false 0 0) ∷ (an_object 1 9 (id 1) I32 false false (Some (Some (t.int 1 11 I32 4))) None false 0 0) ∷ (an_object 1 14 (id 2) I32 false false (Some (Some (t.int 1 16 I32 10))) None false 0 0) ∷ (an_object 2 21 (id 3) I32 true false None (Some ((t.int 2 23 I32 8) ∷ [])) false 2 23) ∷ (a_function 4 28 (id 4) ((a_directive 3 25 1 ([])) ∷ []) (Int I32) ((a_param 4 31 (Some (id 5)) (Int I32) false) ∷ (a_param 4 34 (Some (id 6)) (Int I32) false) ∷ []) (Some (s.block 4 36 (s.more_stmts (s.return_value 4 37 (Some (t.binary 4 38 b.Add (t.binary 4 38 b.Mul (t.name 4 38 (id 5)) (t.index 4 40 (t.name 4 40 (id 0)) (t.binary 4 42 b.And (t.name 4 42 (id 6)) (t.int 4 44 I32 7)))) (t.name 4 47 (id 3))))) s.no_stmts)))) ∷ (a_function 6 61 (id 7) ((a_directive 5 50 2 ((a_clause 51 (c.linear ((placed 53 (id 8)) ∷ []) None None)) ∷ (a_clause 55 (c.simdlen (t.int 5 57 I32 4))) ∷ [])) ∷ []) Void ((a_param 6 65 (Some (id 8)) (Ptr I32 true) false) ∷ (a_param 6 68 (Some (id 5)) (Int I32) false) ∷ []) (Some (s.block 6 70 (s.more_stmts (s.assign 6 71 None (t.deref 6 71 (t.name 6 72 (id 8))) (t.binary 6 74 b.Add (t.name 6 74 (id 5)) (t.int 6 76 I32 1))) (s.more_stmts (s.assign 6 78 (Some b.Add) (t.index 6 78 (t.name 6 78 (id 8)) (t.int 6 80 I32 0)) (t.int 6 83 I32 2)) s.no_stmts))))) ∷ (a_function 8 100 (id 9) ((a_directive 7 86 3 ((a_clause 87 (c.uniform ((placed 89 (id 6)) ∷ []))) ∷ (a_clause 92 (c.linear ((placed 94 (id 10)) ∷ []) None (Some (t.name 7 96 (id 6))))) ∷ [])) ∷ []) (Int I32) ((a_param 8 104 (Some (id 8)) (Ptr I32 true) false) ∷ (a_param 8 109 (Some (id 11)) (Ptr I32 false) false) ∷ (a_param 8 112 (Some (id 6)) (Int I32) false) ∷ (a_param 8 115 (Some (id 10)) (Int I32) false) ∷ []) (Some (s.block 8 117 (s.more_stmts (s.value 8 118 (t.call 8 118 (id 7) (t.more_trees (t.name 8 120 (id 8)) (t.more_trees (t.index 8 122 (t.name 8 122 (id 11)) (t.name 8 124 (id 6))) t.no_trees)))) (s.more_stmts (s.return_value 8 128 (Some (t.deref 8 129 (t.name 8 130 (id 8))))) s.no_stmts))))) ∷ (a_function 9 134 (id 12) ([]) (Int I32) ([]) (Some (s.block 9 138 (s.more_stmts (s.for_loop 9 139 (s.block 9 141 (s.more_stmts (s.local 9 142 I32 false (id 15) (Some (t.int 9 144 I32 0))) (s.more_stmts (s.local 9 146 I32 false (id 14) (Some (t.int 9 148 I32 1))) s.no_stmts))) (Some (t.binary 9 150 b.Lt (t.name 9 150 (id 15)) (t.int 9 152 I32 4))) (s.assign 9 154 (Some b.Add) (t.name 9 154 (id 15)) (t.int 9 155 I32 1)) (s.block 9 157 (s.more_stmts (s.local 9 159 I32 false (id 15) (Some (t.name 9 161 (id 14)))) (s.more_stmts (s.assign 9 163 None (t.index 9 163 (t.name 9 163 (id 1)) (t.name 9 165 (id 15))) (t.call 9 168 (id 4) (t.more_trees (t.name 9 170 (id 15)) (t.more_trees (t.int 9 172 I32 1) t.no_trees)))) (s.more_stmts (s.value 9 175 (t.call 9 175 (id 7) (t.more_trees (t.binary 9 177 b.Add (t.name 9 177 (id 1)) (t.name 9 179 (id 15))) (t.more_trees (t.index 9 181 (t.name 9 181 (id 2)) (t.name 9 183 (id 15))) t.no_trees)))) (s.more_stmts (s.value 9 187 (t.call 9 187 (id 7) (t.more_trees (t.addr 9 189 (t.index 9 190 (t.name 9 190 (id 2)) (t.name 9 192 (id 15)))) (t.more_trees (t.int 9 195 I32 3) t.no_trees)))) s.no_stmts)))))) (s.more_stmts (s.value 9 199 (t.call 9 199 (id 13) (t.more_trees (t.index 9 201 (t.name 9 201 (id 1)) (t.int 9 203 I32 0)) t.no_trees))) (s.more_stmts (s.return_value 9 207 (Some (t.int 9 208 I32 0))) s.no_stmts)))))) ∷ [];
  texts = codes "gain" ∷ codes "y" ∷ codes "x" ∷ codes "c" ∷ codes "scale" ∷ codes "v" ∷ codes "k" ∷ codes "put" ∷ codes "p" ∷ codes "two" ∷ codes "k2" ∷ codes "q" ∷ codes "main" ∷ codes "print" ∷ codes "j" ∷ codes "i" ∷ [];
  target = X86;
}

-- int f(int a) { int b = a + z; return b; }
abbrev unit_2 : Subject
unit_2 = record {
  items = (a_function 1 1 (id 0) ([]) (Int I32) ((a_param 1 4 (Some (id 1)) (Int I32) false) ∷ []) (Some (s.block 1 6 (s.more_stmts (s.local 1 8 I32 false (id 2) (Some (t.binary 1 10 b.Add (t.name 1 10 (id 1)) (t.name 1 12 (id 3))))) (s.more_stmts (s.return_value 1 14 (Some (t.name 1 15 (id 2)))) s.no_stmts))))) ∷ [];
  texts = codes "f" ∷ codes "a" ∷ codes "b" ∷ codes "z" ∷ [];
  target = X86;
}

-- int f(int a) { int a = 1; return a; }
abbrev unit_3 : Subject
unit_3 = record {
  items = (a_function 1 1 (id 0) ([]) (Int I32) ((a_param 1 4 (Some (id 1)) (Int I32) false) ∷ []) (Some (s.block 1 6 (s.more_stmts (s.local 1 8 I32 false (id 1) (Some (t.int 1 10 I32 1))) (s.more_stmts (s.return_value 1 12 (Some (t.name 1 13 (id 1)))) s.no_stmts))))) ∷ [];
  texts = codes "f" ∷ codes "a" ∷ [];
  target = X86;
}

-- int f(int a) { { int a = a; } for (int a = 0; a < 3; a++) { int a; a = 1; } return
--  b; }
abbrev unit_4 : Subject
unit_4 = record {
  items = (a_function 1 1 (id 0) ([]) (Int I32) ((a_param 1 4 (Some (id 1)) (Int I32) false) ∷ []) (Some (s.block 1 6 (s.more_stmts (s.block 1 7 (s.more_stmts (s.local 1 9 I32 false (id 1) (Some (t.name 1 11 (id 1)))) s.no_stmts)) (s.more_stmts (s.for_loop 1 14 (s.local 1 17 I32 false (id 1) (Some (t.int 1 19 I32 0))) (Some (t.binary 1 21 b.Lt (t.name 1 21 (id 1)) (t.int 1 23 I32 3))) (s.assign 1 25 (Some b.Add) (t.name 1 25 (id 1)) (t.int 1 26 I32 1)) (s.block 1 28 (s.more_stmts (s.local 1 30 I32 false (id 1) None) (s.more_stmts (s.assign 1 32 None (t.name 1 32 (id 1)) (t.int 1 34 I32 1)) s.no_stmts)))) (s.more_stmts (s.return_value 1 37 (Some (t.name 2 38 (id 2)))) s.no_stmts)))))) ∷ [];
  texts = codes "f" ∷ codes "a" ∷ codes "b" ∷ [];
  target = X86;
}

-- int f(int *p) { if (p) return 1; return 0; }
abbrev unit_5 : Subject
unit_5 = record {
  items = (a_function 1 1 (id 0) ([]) (Int I32) ((a_param 1 5 (Some (id 1)) (Ptr I32 true) false) ∷ []) (Some (s.block 1 7 (s.more_stmts (s.if_only 1 8 (t.name 1 10 (id 1)) (s.return_value 1 12 (Some (t.int 1 13 I32 1)))) (s.more_stmts (s.return_value 1 15 (Some (t.int 1 16 I32 0))) s.no_stmts))))) ∷ [];
  texts = codes "f" ∷ codes "p" ∷ [];
  target = X86;
}

-- int g(int a); int f(int *p, int a) { return g(a,
--  1) + p[g(1)]; }
abbrev unit_6 : Subject
unit_6 = record {
  items = (a_function 1 1 (id 0) ([]) (Int I32) ((a_param 1 4 (Some (id 1)) (Int I32) false) ∷ []) None) ∷ (a_function 1 8 (id 2) ([]) (Int I32) ((a_param 1 12 (Some (id 3)) (Ptr I32 true) false) ∷ (a_param 1 15 (Some (id 1)) (Int I32) false) ∷ []) (Some (s.block 1 17 (s.more_stmts (s.return_value 1 18 (Some (t.binary 1 19 b.Add (t.call 1 19 (id 0) (t.more_trees (t.name 1 21 (id 1)) (t.more_trees (t.int 2 23 I32 1) t.no_trees))) (t.index 2 26 (t.name 2 26 (id 3)) (t.call 2 28 (id 0) (t.more_trees (t.int 2 30 I32 1) t.no_trees)))))) s.no_stmts)))) ∷ [];
  texts = codes "g" ∷ codes "a" ∷ codes "f" ∷ codes "p" ∷ [];
  target = X86;
}

-- int g(int a); int f(int *p, int a) { return g(q) +
--  g(p); }
abbrev unit_7 : Subject
unit_7 = record {
  items = (a_function 1 1 (id 0) ([]) (Int I32) ((a_param 1 4 (Some (id 1)) (Int I32) false) ∷ []) None) ∷ (a_function 1 8 (id 2) ([]) (Int I32) ((a_param 1 12 (Some (id 3)) (Ptr I32 true) false) ∷ (a_param 1 15 (Some (id 1)) (Int I32) false) ∷ []) (Some (s.block 1 17 (s.more_stmts (s.return_value 1 18 (Some (t.binary 1 19 b.Add (t.call 1 19 (id 0) (t.more_trees (t.name 1 21 (id 4)) t.no_trees)) (t.call 2 24 (id 0) (t.more_trees (t.name 2 26 (id 3)) t.no_trees))))) s.no_stmts)))) ∷ [];
  texts = codes "g" ∷ codes "a" ∷ codes "f" ∷ codes "p" ∷ codes "q" ∷ [];
  target = X86;
}

-- void g(const int *p, int *q); const int t[3]; int o; void f(int *p) { g(t, p); g(p + 1, &o); g(p,
--  t); }
abbrev unit_8 : Subject
unit_8 = record {
  items = (a_function 1 1 (id 0) ([]) Void ((a_param 1 6 (Some (id 1)) (Ptr I32 false) false) ∷ (a_param 1 10 (Some (id 2)) (Ptr I32 true) false) ∷ []) None) ∷ (an_object 1 15 (id 3) I32 true false (Some (Some (t.int 1 17 I32 3))) None false 0 0) ∷ (an_object 1 21 (id 4) I32 false false None None false 0 0) ∷ (a_function 1 24 (id 5) ([]) Void ((a_param 1 28 (Some (id 1)) (Ptr I32 true) false) ∷ []) (Some (s.block 1 30 (s.more_stmts (s.value 1 31 (t.call 1 31 (id 0) (t.more_trees (t.name 1 33 (id 3)) (t.more_trees (t.name 1 35 (id 1)) t.no_trees)))) (s.more_stmts (s.value 1 38 (t.call 1 38 (id 0) (t.more_trees (t.binary 1 40 b.Add (t.name 1 40 (id 1)) (t.int 1 42 I32 1)) (t.more_trees (t.addr 1 44 (t.name 1 45 (id 4))) t.no_trees)))) (s.more_stmts (s.value 1 48 (t.call 1 48 (id 0) (t.more_trees (t.name 1 50 (id 1)) (t.more_trees (t.name 2 52 (id 3)) t.no_trees)))) s.no_stmts)))))) ∷ [];
  texts = codes "g" ∷ codes "p" ∷ codes "q" ∷ codes "t" ∷ codes "o" ∷ codes "f" ∷ [];
  target = X86;
}

-- int f(const int a, const int *p) { int b = 1; b = 2; *p = 1; return b; }
abbrev unit_9 : Subject
unit_9 = record {
  items = (a_function 1 1 (id 0) ([]) (Int I32) ((a_param 1 5 (Some (id 1)) (Int I32) true) ∷ (a_param 1 10 (Some (id 2)) (Ptr I32 false) false) ∷ []) (Some (s.block 1 12 (s.more_stmts (s.local 1 14 I32 false (id 3) (Some (t.int 1 16 I32 1))) (s.more_stmts (s.assign 1 18 None (t.name 1 18 (id 3)) (t.int 1 20 I32 2)) (s.more_stmts (s.assign 1 22 None (t.deref 1 22 (t.name 1 23 (id 2))) (t.int 1 25 I32 1)) (s.more_stmts (s.return_value 1 27 (Some (t.name 1 28 (id 3)))) s.no_stmts))))))) ∷ [];
  texts = codes "f" ∷ codes "a" ∷ codes "p" ∷ codes "b" ∷ [];
  target = X86;
}

-- void h(int *p); int f(int a) {
--  h(&a); return a; }
abbrev unit_10 : Subject
unit_10 = record {
  items = (a_function 1 1 (id 0) ([]) Void ((a_param 1 5 (Some (id 1)) (Ptr I32 true) false) ∷ []) None) ∷ (a_function 1 9 (id 2) ([]) (Int I32) ((a_param 1 12 (Some (id 3)) (Int I32) false) ∷ []) (Some (s.block 1 14 (s.more_stmts (s.value 2 15 (t.call 2 15 (id 0) (t.more_trees (t.addr 2 17 (t.name 2 18 (id 3))) t.no_trees))) (s.more_stmts (s.return_value 2 21 (Some (t.name 2 22 (id 3)))) s.no_stmts))))) ∷ [];
  texts = codes "h" ∷ codes "p" ∷ codes "f" ∷ codes "a" ∷ [];
  target = X86;
}

-- int t[2] = {1, 2,
--  3}; int u = t;
abbrev unit_11 : Subject
unit_11 = record {
  items = (an_object 1 1 (id 0) I32 false false (Some (Some (t.int 1 3 I32 2))) (Some ((t.int 1 7 I32 1) ∷ (t.int 1 9 I32 2) ∷ (t.int 2 11 I32 3) ∷ [])) true 1 6) ∷ (an_object 2 15 (id 1) I32 false false None (Some ((t.name 2 17 (id 0)) ∷ [])) false 2 17) ∷ [];
  texts = codes "t" ∷ codes "u" ∷ [];
  target = X86;
}

-- extern int a[3]; int a[] = 1; int b[] = {};
abbrev unit_12 : Subject
unit_12 = record {
  items = (an_object 1 2 (id 0) I32 false true (Some (Some (t.int 1 4 I32 3))) None false 0 0) ∷ (an_object 1 8 (id 0) I32 false false (Some None) (Some ((t.int 1 12 I32 1) ∷ [])) false 1 12) ∷ (an_object 1 15 (id 1) I32 false false (Some None) (Some ([])) true 1 19) ∷ [];
  texts = codes "a" ∷ codes "b" ∷ [];
  target = X86;
}

-- int a[3]; int b; extern int a[3]; extern int a[4];
abbrev unit_13 : Subject
unit_13 = record {
  items = (an_object 1 1 (id 0) I32 false false (Some (Some (t.int 1 3 I32 3))) None false 0 0) ∷ (an_object 1 7 (id 1) I32 false false None None false 0 0) ∷ (an_object 1 11 (id 0) I32 false true (Some (Some (t.int 1 13 I32 3))) None false 0 0) ∷ (an_object 1 18 (id 0) I32 false true (Some (Some (t.int 1 20 I32 4))) None false 0 0) ∷ [];
  texts = codes "a" ∷ codes "b" ∷ [];
  target = X86;
}

-- int f(int a); int f(int b) { return b; } int f(int c) { return c; }
abbrev unit_14 : Subject
unit_14 = record {
  items = (a_function 1 1 (id 0) ([]) (Int I32) ((a_param 1 4 (Some (id 1)) (Int I32) false) ∷ []) None) ∷ (a_function 1 8 (id 0) ([]) (Int I32) ((a_param 1 11 (Some (id 2)) (Int I32) false) ∷ []) (Some (s.block 1 13 (s.more_stmts (s.return_value 1 14 (Some (t.name 1 15 (id 2)))) s.no_stmts)))) ∷ (a_function 1 19 (id 0) ([]) (Int I32) ((a_param 1 22 (Some (id 3)) (Int I32) false) ∷ []) (Some (s.block 1 24 (s.more_stmts (s.return_value 1 25 (Some (t.name 1 26 (id 3)))) s.no_stmts)))) ∷ [];
  texts = codes "f" ∷ codes "a" ∷ codes "b" ∷ codes "c" ∷ [];
  target = X86;
}

-- int f(int a) { while (a) { break; } do continue; while (a); if (a)
--  break; return a; }
abbrev unit_15 : Subject
unit_15 = record {
  items = (a_function 1 1 (id 0) ([]) (Int I32) ((a_param 1 4 (Some (id 1)) (Int I32) false) ∷ []) (Some (s.block 1 6 (s.more_stmts (s.while_loop 1 7 (t.name 1 9 (id 1)) (s.block 1 11 (s.more_stmts (s.break_loop 1 12) s.no_stmts))) (s.more_stmts (s.do_loop 1 15 (s.continue_loop 1 16) (t.name 1 20 (id 1))) (s.more_stmts (s.if_only 1 23 (t.name 1 25 (id 1)) (s.break_loop 2 27)) (s.more_stmts (s.return_value 2 29 (Some (t.name 2 30 (id 1)))) s.no_stmts))))))) ∷ [];
  texts = codes "f" ∷ codes "a" ∷ [];
  target = X86;
}

-- void f(int a) { if (a) return; return
--  1; }
abbrev unit_16 : Subject
unit_16 = record {
  items = (a_function 1 1 (id 0) ([]) Void ((a_param 1 4 (Some (id 1)) (Int I32) false) ∷ []) (Some (s.block 1 6 (s.more_stmts (s.if_only 1 7 (t.name 1 9 (id 1)) (s.return_value 1 11 None)) (s.more_stmts (s.return_value 1 13 (Some (t.int 2 14 I32 1))) s.no_stmts))))) ∷ [];
  texts = codes "f" ∷ codes "a" ∷ [];
  target = X86;
}

-- #pragma omp declare simd uniform(a, b) linear(c, a)
-- int f(int a, int b, int c);
abbrev unit_17 : Subject
unit_17 = record {
  items = (a_function 2 15 (id 0) ((a_directive 1 0 1 ((a_clause 1 (c.uniform ((placed 3 (id 1)) ∷ (placed 5 (id 2)) ∷ []))) ∷ (a_clause 7 (c.linear ((placed 9 (id 3)) ∷ (placed 11 (id 1)) ∷ []) None None)) ∷ [])) ∷ []) (Int I32) ((a_param 2 18 (Some (id 1)) (Int I32) false) ∷ (a_param 2 21 (Some (id 2)) (Int I32) false) ∷ (a_param 2 24 (Some (id 3)) (Int I32) false) ∷ []) None) ∷ [];
  texts = codes "f" ∷ codes "a" ∷ codes "b" ∷ codes "c" ∷ [];
  target = X86;
}

-- #pragma omp declare simd linear(p:536870912) linear(a:1/0)
-- int f(int a, int *p, int c);
abbrev unit_18 : Subject
unit_18 = record {
  items = (a_function 2 17 (id 0) ((a_directive 1 0 1 ((a_clause 1 (c.linear ((placed 3 (id 1)) ∷ []) None (Some (t.int 1 5 I32 536870912)))) ∷ (a_clause 7 (c.linear ((placed 9 (id 2)) ∷ []) None (Some (t.binary 1 11 b.Div (t.int 1 11 I32 1) (t.int 1 13 I32 0))))) ∷ [])) ∷ []) (Int I32) ((a_param 2 20 (Some (id 2)) (Int I32) false) ∷ (a_param 2 24 (Some (id 1)) (Ptr I32 true) false) ∷ (a_param 2 27 (Some (id 3)) (Int I32) false) ∷ []) None) ∷ [];
  texts = codes "f" ∷ codes "p" ∷ codes "a" ∷ codes "c" ∷ [];
  target = X86;
}

-- #pragma omp declare simd linear(a:n) uniform(n)
-- #pragma omp declare simd linear(a:n)
-- int f(int a, int n);
abbrev unit_19 : Subject
unit_19 = record {
  items = (a_function 3 21 (id 0) ((a_directive 1 0 1 ((a_clause 1 (c.linear ((placed 3 (id 1)) ∷ []) None (Some (t.name 1 5 (id 2))))) ∷ (a_clause 7 (c.uniform ((placed 9 (id 2)) ∷ []))) ∷ [])) ∷ (a_directive 2 12 2 ((a_clause 13 (c.linear ((placed 15 (id 1)) ∷ []) None (Some (t.name 2 17 (id 2))))) ∷ [])) ∷ []) (Int I32) ((a_param 3 24 (Some (id 1)) (Int I32) false) ∷ (a_param 3 27 (Some (id 2)) (Int I32) false) ∷ []) None) ∷ [];
  texts = codes "f" ∷ codes "a" ∷ codes "n" ∷ [];
  target = X86;
}

-- #pragma omp declare simd simdlen(2 * 4) inbranch
-- #pragma omp declare simd simdlen(6)
-- int f(int a, int n);
abbrev unit_20 : Subject
unit_20 = record {
  items = (a_function 3 16 (id 0) ((a_directive 1 0 1 ((a_clause 1 (c.simdlen (t.binary 1 3 b.Mul (t.int 1 3 I32 2) (t.int 1 5 I32 4)))) ∷ (a_clause 7 c.inside) ∷ [])) ∷ (a_directive 2 9 2 ((a_clause 10 (c.simdlen (t.int 2 12 I32 6))) ∷ [])) ∷ []) (Int I32) ((a_param 3 19 (Some (id 1)) (Int I32) false) ∷ (a_param 3 22 (Some (id 2)) (Int I32) false) ∷ []) None) ∷ [];
  texts = codes "f" ∷ codes "a" ∷ codes "n" ∷ [];
  target = X86;
}

-- #pragma omp declare simd aligned(p, q:8) aligned(a)
-- int f(int a, int *p, const int *q);
abbrev unit_21 : Subject
unit_21 = record {
  items = (a_function 2 15 (id 0) ((a_directive 1 0 1 ((a_clause 1 (c.aligned ((placed 3 (id 1)) ∷ (placed 5 (id 2)) ∷ []) (Some (t.int 1 7 I32 8)))) ∷ (a_clause 9 (c.aligned ((placed 11 (id 3)) ∷ []) None)) ∷ [])) ∷ []) (Int I32) ((a_param 2 18 (Some (id 3)) (Int I32) false) ∷ (a_param 2 22 (Some (id 1)) (Ptr I32 true) false) ∷ (a_param 2 27 (Some (id 2)) (Ptr I32 false) false) ∷ []) None) ∷ [];
  texts = codes "f" ∷ codes "p" ∷ codes "q" ∷ codes "a" ∷ [];
  target = X86;
}

-- #pragma omp declare simd uniform(q, p)
-- int f(int a, int *p, const int *q);
abbrev unit_22 : Subject
unit_22 = record {
  items = (a_function 2 9 (id 0) ((a_directive 1 0 1 ((a_clause 1 (c.uniform ((placed 3 (id 1)) ∷ (placed 5 (id 2)) ∷ []))) ∷ [])) ∷ []) (Int I32) ((a_param 2 12 (Some (id 3)) (Int I32) false) ∷ (a_param 2 16 (Some (id 2)) (Ptr I32 true) false) ∷ (a_param 2 21 (Some (id 1)) (Ptr I32 false) false) ∷ []) None) ∷ [];
  texts = codes "f" ∷ codes "q" ∷ codes "p" ∷ codes "a" ∷ [];
  target = X86;
}

-- #pragma omp declare simd linear(val(a):2) foo(3)
-- int f(int a);
abbrev unit_23 : Subject
unit_23 = record {
  items = (a_function 2 16 (id 0) ((a_directive 1 0 1 ((a_clause 1 (c.linear ((placed 3 (id 1)) ∷ []) (Some m.Val) (Some (t.int 1 8 I32 2)))) ∷ (a_clause 10 c.other) ∷ [])) ∷ []) (Int I32) ((a_param 2 19 (Some (id 1)) (Int I32) false) ∷ []) None) ∷ [];
  texts = codes "f" ∷ codes "a" ∷ [];
  target = X86;
}

-- #pragma omp declare simd linear(a:ref) linear(b:val, step(2), step(3))
-- int f(int a, int b);
abbrev unit_24 : Subject
unit_24 = record {
  items = (a_function 2 25 (id 0) ((a_directive 1 0 1 ((a_clause 1 (c.linear ((placed 3 (id 1)) ∷ []) (Some m.Ref) None)) ∷ (a_clause 7 (c.linear ((placed 9 (id 2)) ∷ []) (Some m.Other) (Some (t.int 1 15 I32 2)))) ∷ [])) ∷ []) (Int I32) ((a_param 2 28 (Some (id 1)) (Int I32) false) ∷ (a_param 2 31 (Some (id 2)) (Int I32) false) ∷ []) None) ∷ [];
  texts = codes "f" ∷ codes "a" ∷ codes "b" ∷ [];
  target = X86;
}

-- int o; int g(int a);
-- #pragma omp declare simd
-- int f(int a, int *p) { p[0] = *p; return
--  g(a) + o; }
abbrev unit_25 : Subject
unit_25 = record {
  items = (an_object 1 1 (id 0) I32 false false None None false 0 0) ∷ (a_function 1 4 (id 1) ([]) (Int I32) ((a_param 1 7 (Some (id 2)) (Int I32) false) ∷ []) None) ∷ (a_function 3 13 (id 3) ((a_directive 2 10 1 ([])) ∷ []) (Int I32) ((a_param 3 16 (Some (id 2)) (Int I32) false) ∷ (a_param 3 20 (Some (id 4)) (Ptr I32 true) false) ∷ []) (Some (s.block 3 22 (s.more_stmts (s.assign 3 23 None (t.index 3 23 (t.name 3 23 (id 4)) (t.int 3 25 I32 0)) (t.deref 3 28 (t.name 3 29 (id 4)))) (s.more_stmts (s.return_value 3 31 (Some (t.binary 4 32 b.Add (t.call 4 32 (id 1) (t.more_trees (t.name 4 34 (id 2)) t.no_trees)) (t.name 4 37 (id 0))))) s.no_stmts))))) ∷ [];
  texts = codes "o" ∷ codes "g" ∷ codes "a" ∷ codes "f" ∷ codes "p" ∷ [];
  target = X86;
}

-- #pragma omp declare simd
-- void h(int *p);
-- #pragma omp declare simd
-- int f(int a, int *p) { h(p); h(
--  p + 1); return *&*p; }
abbrev unit_26 : Subject
unit_26 = record {
  items = (a_function 2 3 (id 0) ((a_directive 1 0 1 ([])) ∷ []) Void ((a_param 2 7 (Some (id 1)) (Ptr I32 true) false) ∷ []) None) ∷ (a_function 4 13 (id 2) ((a_directive 3 10 2 ([])) ∷ []) (Int I32) ((a_param 4 16 (Some (id 3)) (Int I32) false) ∷ (a_param 4 20 (Some (id 1)) (Ptr I32 true) false) ∷ []) (Some (s.block 4 22 (s.more_stmts (s.value 4 23 (t.call 4 23 (id 0) (t.more_trees (t.name 4 25 (id 1)) t.no_trees))) (s.more_stmts (s.value 4 28 (t.call 4 28 (id 0) (t.more_trees (t.binary 5 30 b.Add (t.name 5 30 (id 1)) (t.int 5 32 I32 1)) t.no_trees))) (s.more_stmts (s.return_value 5 35 (Some (t.deref 5 36 (t.addr 5 37 (t.deref 5 38 (t.name 5 39 (id 1))))))) s.no_stmts)))))) ∷ [];
  texts = codes "h" ∷ codes "p" ∷ codes "f" ∷ codes "a" ∷ [];
  target = X86;
}

-- #pragma omp declare simd
-- int f(int a);
-- #pragma omp declare simd linear(a:1)
-- int f(int a) { return a; }
abbrev unit_27 : Subject
unit_27 = record {
  items = (a_function 2 3 (id 0) ((a_directive 1 0 1 ([])) ∷ []) (Int I32) ((a_param 2 6 (Some (id 1)) (Int I32) false) ∷ []) None) ∷ (a_function 4 18 (id 0) ((a_directive 3 9 2 ((a_clause 10 (c.linear ((placed 12 (id 1)) ∷ []) None (Some (t.int 3 14 I32 1)))) ∷ [])) ∷ []) (Int I32) ((a_param 4 21 (Some (id 1)) (Int I32) false) ∷ []) (Some (s.block 4 23 (s.more_stmts (s.return_value 4 24 (Some (t.name 4 25 (id 1)))) s.no_stmts)))) ∷ [];
  texts = codes "f" ∷ codes "a" ∷ [];
  target = X86;
}

-- #pragma omp declare simd linear(a)
-- int f(int a);
-- #pragma omp declare simd linear(a:1)
-- int f(int a) { return a; }
abbrev unit_28 : Subject
unit_28 = record {
  items = (a_function 2 7 (id 0) ((a_directive 1 0 1 ((a_clause 1 (c.linear ((placed 3 (id 1)) ∷ []) None None)) ∷ [])) ∷ []) (Int I32) ((a_param 2 10 (Some (id 1)) (Int I32) false) ∷ []) None) ∷ (a_function 4 22 (id 0) ((a_directive 3 13 2 ((a_clause 14 (c.linear ((placed 16 (id 1)) ∷ []) None (Some (t.int 3 18 I32 1)))) ∷ [])) ∷ []) (Int I32) ((a_param 4 25 (Some (id 1)) (Int I32) false) ∷ []) (Some (s.block 4 27 (s.more_stmts (s.return_value 4 28 (Some (t.name 4 29 (id 1)))) s.no_stmts)))) ∷ [];
  texts = codes "f" ∷ codes "a" ∷ [];
  target = X86;
}

-- #pragma omp declare simd simdlen(8)
-- int f(int a);
-- #pragma omp declare simd simdlen(2)
-- int f(int a);
abbrev unit_29 : Subject
unit_29 = record {
  items = (a_function 2 7 (id 0) ((a_directive 1 0 1 ((a_clause 1 (c.simdlen (t.int 1 3 I32 8))) ∷ [])) ∷ []) (Int I32) ((a_param 2 10 (Some (id 1)) (Int I32) false) ∷ []) None) ∷ (a_function 4 20 (id 0) ((a_directive 3 13 2 ((a_clause 14 (c.simdlen (t.int 3 16 I32 2))) ∷ [])) ∷ []) (Int I32) ((a_param 4 23 (Some (id 1)) (Int I32) false) ∷ []) None) ∷ [];
  texts = codes "f" ∷ codes "a" ∷ [];
  target = Arm;
}

-- #pragma omp declare simd inbranch
-- #pragma omp declare simd notinbranch
-- int f(int a);
abbrev unit_30 : Subject
unit_30 = record {
  items = (a_function 3 7 (id 0) ((a_directive 1 0 1 ((a_clause 1 c.inside) ∷ [])) ∷ (a_directive 2 3 2 ((a_clause 4 c.outside) ∷ [])) ∷ []) (Int I32) ((a_param 3 10 (Some (id 1)) (Int I32) false) ∷ []) None) ∷ [];
  texts = codes "f" ∷ codes "a" ∷ [];
  target = Arm;
}

-- #pragma omp declare simd inbranch
-- #pragma omp declare simd notinbranch
-- int f(int a);
abbrev unit_31 : Subject
unit_31 = record {
  items = (a_function 3 7 (id 0) ((a_directive 1 0 1 ((a_clause 1 c.inside) ∷ [])) ∷ (a_directive 2 3 2 ((a_clause 4 c.outside) ∷ [])) ∷ []) (Int I32) ((a_param 3 10 (Some (id 1)) (Int I32) false) ∷ []) None) ∷ [];
  texts = codes "f" ∷ codes "a" ∷ [];
  target = X86;
}

-- int main(int a) { return 0; } void print(int a);
abbrev unit_32 : Subject
unit_32 = record {
  items = (a_function 1 1 (id 0) ([]) (Int I32) ((a_param 1 4 (Some (id 1)) (Int I32) false) ∷ []) (Some (s.block 1 6 (s.more_stmts (s.return_value 1 7 (Some (t.int 1 8 I32 0))) s.no_stmts)))) ∷ (a_function 1 12 (id 2) ([]) Void ((a_param 1 15 (Some (id 1)) (Int I32) false) ∷ []) None) ∷ [];
  texts = codes "main" ∷ codes "a" ∷ codes "print" ∷ [];
  target = X86;
}

-- #pragma omp declare simd
-- int x;
abbrev unit_33 : Subject
unit_33 = record {
  items = (i.lost_line (a_directive 1 0 1 ([]))) ∷ (an_object 2 3 (id 0) I32 false false None None false 0 0) ∷ [];
  texts = codes "x" ∷ [];
  target = X86;
}

-- the first faults of all of them
first_faults :
    map first_told (unit_1 ∷ unit_2 ∷ unit_3 ∷ unit_4 ∷ unit_5 ∷ unit_6 ∷ unit_7 ∷ unit_8 ∷ unit_9 ∷ unit_10 ∷ unit_11 ∷ unit_12 ∷ unit_13 ∷ unit_14 ∷ unit_15 ∷ unit_16 ∷ unit_17 ∷ unit_18 ∷ unit_19 ∷ unit_20 ∷ unit_21 ∷ unit_22 ∷ unit_23 ∷ unit_24 ∷ unit_25 ∷ unit_26 ∷ unit_27 ∷ unit_28 ∷ unit_29 ∷ unit_30 ∷ unit_31 ∷ unit_32 ∷ unit_33 ∷ [])
    ≡ None
    ∷ Some (told r.C8 1 0)
    ∷ Some (told r.C8 1 0)
    ∷ Some (told r.C8 2 0)
    ∷ Some (told r.C9 1 0)
    ∷ Some (told r.C9 1 0)
    ∷ Some (told r.C8 1 0)
    ∷ Some (told r.C9 2 0)
    ∷ Some (told r.C10 1 0)
    ∷ Some (told r.C10 2 0)
    ∷ Some (told r.C11 2 0)
    ∷ Some (told r.C11 1 0)
    ∷ Some (told r.C13 1 0)
    ∷ Some (told r.C13 1 0)
    ∷ Some (told r.C14 2 0)
    ∷ Some (told r.C15 1 0)
    ∷ Some (told r.D3 1 1)
    ∷ Some (told r.D6 1 1)
    ∷ Some (told r.D6 2 2)
    ∷ Some (told r.D9 2 2)
    ∷ Some (told r.D8 1 1)
    ∷ Some (told r.D14 1 1)
    ∷ Some (told r.D1 1 1)
    ∷ Some (told r.D11 1 1)
    ∷ Some (told r.D15 4 1)
    ∷ Some (told r.D16 5 2)
    ∷ Some (told r.D17 3 2)
    ∷ None
    ∷ Some (told r.D18 3 2)
    ∷ Some (told r.D19 2 2)
    ∷ None
    ∷ Some (told r.C8 1 0)
    ∷ Some (told r.D12 1 1)
    ∷ []
unfolding int_wrap faults_of first_among constant_of first_declaration last_binding meaning_of is_taken with_params are_arguments choice_typing expression_faults call_faults called_faults statement_faults parameter_faults param_of number_of is_uniform step_of kind_in align_in branch_in simdlen_in signature_of same_params same_signatures share_a_name powers said_faults clause_faults entry_faults has_signature repeats_a_name directive_faults redeclaration_faults same_ctypes length_of initial_faults definition_in costs item_faults lengths cdt nds wds
first_faults = refl
