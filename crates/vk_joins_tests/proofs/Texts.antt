-- Simd loops: calls in their bodies, and arguments of all shapes. The C text of each unit stands over it; `[simd]` is a line
-- `#pragma omp simd`.
use Rattle.std.specs.Prelude.{◌≡◌, true, false, [], ◌∷◌, codes, Some, None, refl, pos}
use Rattle.std.specs.Int.{int_wrap}
use Rattle.vk_types.specs.Operators.{from_bits}
use Rattle.vk_types.specs.declared.types.Ty.TheVariants as types
use Rattle.vk_kinds.specs.declared.heads.CType.TheVariants as ctypes
use Rattle.vk_kinds.specs.declared.kinds.Target.TheVariants.{X86}
use Rattle.vk_ast.specs.declared.expressions.UnOp.TheVariants as ones
use Rattle.vk_ast.specs.declared.expressions.BinOp.TheVariants as twos
use Rattle.vk_ast.specs.Tree.{int, name, index, deref, addr, unary, binary, choice, cast, call, no_trees, more_trees}
use Rattle.vk_ast.specs.Statements.{block, local, assign, value, if_only, for_loop, return_value, simd, no_stmts, more_stmts}
use Rattle.vk_ast.specs.Units.{function, object}
use Rattle.vk_numbers.specs.Constants.{constant_of}
use Rattle.vk_rules_book.specs.Items.{length_of}
use Rattle.vk_rules_book.specs.Rules.{Subject}
use Rattle.vk_rules_book.specs.Scopes.{first_declaration, last_binding, meaning_of, with_params}
use Rattle.vk_rules_book.specs.Signatures.{simdlen_in}
use Rattle.vk_rules_book.specs.Typings.{are_arguments, choice_typing}
use Rattle.vk_code.specs.declared.code.Shape.TheVariants.{Vector, Uniform, By, Literal}
use Rattle.vk_joins_tests.proofs.Forms.{counts, id, line, loop_calls, loop_captures, plain_calls}

-- int scale(int v, int k);
-- int clamp(int v, int lim);
-- int x[1000];
-- int y[1000];
-- int main(void) { for (int i = 0; i < 1000; i += 1) x[i] = i - 500; [simd] for (int i = 0; i < 1000; i += 1) { int v = x[i];
--     if (v & 1) v = scale(v, i); y[i] = clamp(v, 1000); } long s = 0; for (int i = 0; i < 1000; i += 1) s += y[i]; print(s);
--     return clamp(scale(1, 2), 3); }
abbrev scaled : Subject
scaled = record {
  items =
      function (record { line = 0; token = 0; name = (id 0); directives = []; result = (ctypes.Int types.I32); params = record { line = 0; token = 0; name = Some (id 1); ctype = (ctypes.Int types.I32); fixed = false } ∷ record { line = 0; token = 0; name = Some (id 2); ctype = (ctypes.Int types.I32); fixed = false } ∷ []; body = None }) ∷
      function (record { line = 0; token = 0; name = (id 3); directives = []; result = (ctypes.Int types.I32); params = record { line = 0; token = 0; name = Some (id 1); ctype = (ctypes.Int types.I32); fixed = false } ∷ record { line = 0; token = 0; name = Some (id 4); ctype = (ctypes.Int types.I32); fixed = false } ∷ []; body = None }) ∷
      object (record { line = 0; token = 0; name = (id 5); ty = types.I32; fixed = false; outside = false; array = (Some (Some (int 0 0 types.I32 1000))); init = None; braced = false; init_line = 0; init_token = 0 }) ∷
      object (record { line = 0; token = 0; name = (id 6); ty = types.I32; fixed = false; outside = false; array = (Some (Some (int 0 0 types.I32 1000))); init = None; braced = false; init_line = 0; init_token = 0 }) ∷
      function (record { line = 0; token = 0; name = (id 7); directives = []; result = (ctypes.Int types.I32); params = []; body = Some (block 0 0 (more_stmts (for_loop 0 0 (local 0 0 types.I32 false (id 8) (Some (int 0 0 types.I32 0))) (Some (binary 0 0 twos.Lt (name 0 0 (id 8)) (int 0 0 types.I32 1000))) (assign 0 0 (Some twos.Add) (name 0 0 (id 8)) (int 0 0 types.I32 1)) (assign 0 0 None (index 0 0 (name 0 0 (id 5)) (name 0 0 (id 8))) (binary 0 0 twos.Sub (name 0 0 (id 8)) (int 0 0 types.I32 500)))) (more_stmts (simd 0 0 line (for_loop 0 0 (local 0 0 types.I32 false (id 8) (Some (int 0 0 types.I32 0))) (Some (binary 0 0 twos.Lt (name 0 0 (id 8)) (int 0 0 types.I32 1000))) (assign 0 0 (Some twos.Add) (name 0 0 (id 8)) (int 0 0 types.I32 1)) (block 0 0 (more_stmts (local 0 0 types.I32 false (id 1) (Some (index 0 0 (name 0 0 (id 5)) (name 0 0 (id 8))))) (more_stmts (if_only 0 0 (binary 0 0 twos.And (name 0 0 (id 1)) (int 0 0 types.I32 1)) (assign 0 0 None (name 0 0 (id 1)) (call 0 0 (id 0) (more_trees (name 0 0 (id 1)) (more_trees (name 0 0 (id 8)) no_trees))))) (more_stmts (assign 0 0 None (index 0 0 (name 0 0 (id 6)) (name 0 0 (id 8))) (call 0 0 (id 3) (more_trees (name 0 0 (id 1)) (more_trees (int 0 0 types.I32 1000) no_trees)))) no_stmts)))))) (more_stmts (local 0 0 types.I64 false (id 9) (Some (int 0 0 types.I32 0))) (more_stmts (for_loop 0 0 (local 0 0 types.I32 false (id 8) (Some (int 0 0 types.I32 0))) (Some (binary 0 0 twos.Lt (name 0 0 (id 8)) (int 0 0 types.I32 1000))) (assign 0 0 (Some twos.Add) (name 0 0 (id 8)) (int 0 0 types.I32 1)) (assign 0 0 (Some twos.Add) (name 0 0 (id 9)) (index 0 0 (name 0 0 (id 6)) (name 0 0 (id 8))))) (more_stmts (value 0 0 (call 0 0 (id 10) (more_trees (name 0 0 (id 9)) no_trees))) (more_stmts (return_value 0 0 (Some (call 0 0 (id 3) (more_trees (call 0 0 (id 0) (more_trees (int 0 0 types.I32 1) (more_trees (int 0 0 types.I32 2) no_trees))) (more_trees (int 0 0 types.I32 3) no_trees))))) no_stmts))))))) }) ∷ [];
  texts = codes "scale" ∷ codes "v" ∷ codes "k" ∷ codes "clamp" ∷ codes "lim" ∷ codes "x" ∷ codes "y" ∷ codes "main" ∷ codes "i" ∷ codes "s" ∷ codes "print" ∷ [];
  target = X86;
}

scaled_main_plain : plain_calls scaled (codes "main") ≡ record { callee = codes "clamp"; always = false; shapes = (Vector) ∷ (Vector) ∷ [] } ∷ record { callee = codes "scale"; always = false; shapes = (Vector) ∷ (Vector) ∷ [] } ∷ []
unfolding int_wrap from_bits first_declaration last_binding meaning_of with_params are_arguments choice_typing length_of constant_of simdlen_in
scaled_main_plain = refl

scaled_main_loops : loop_calls scaled (codes "main") ≡ (record { callee = codes "scale"; always = false; shapes = (Vector) ∷ (By (pos 1)) ∷ [] } ∷ record { callee = codes "clamp"; always = true; shapes = (Vector) ∷ (Literal (pos 1000)) ∷ [] } ∷ []) ∷ []
unfolding int_wrap from_bits first_declaration last_binding meaning_of with_params are_arguments choice_typing length_of constant_of simdlen_in
scaled_main_loops = refl

scaled_main_captures : loop_captures scaled (codes "main") ≡ ([]) ∷ []
unfolding int_wrap from_bits first_declaration last_binding meaning_of with_params are_arguments choice_typing length_of constant_of simdlen_in
scaled_main_captures = refl

scaled_main_counts : counts scaled (codes "main") ≡ 2 ∷ 56 ∷ 78 ∷ 2 ∷ 22 ∷ []
unfolding int_wrap from_bits first_declaration last_binding meaning_of with_params are_arguments choice_typing length_of constant_of simdlen_in
scaled_main_counts = refl

-- int f(int a, long b, short c, unsigned int d);
-- int g(int *p, const long *q, int n);
-- int h(const int *r, const long *w);
-- int a[99];
-- long b[99];
-- const int t[4] = { 1, 2, 3, 4 };
-- const int one = 1;
-- int two;
-- void run(int *s, const long *q, int n, short k) { [simd] for (int i = 0; i < n; i += 1) { int u = (f(i, i, i, i) +
--     f((long)i, (int)((long)i), k, -1u)) + f(i + 1, i + 1, i + 1L, ((long)i) + 1); u += f(one, two, t[0], -2147483648L) +
--     f(3000000000L, -3000000000L, 70000, -1); s[i] = (f(1 + n, n - i, i - n, 2 * n) + f(n ? 1 : 2, n && 1, !n, ~n)) +
--     g(&s[i], q + i, n); a[i] = (((((h(t + i, q) + h(&t[i], b + ((long)i))) + h(t + 1, b + n)) + h(&t[i + 1], b - n)) +
--     h(&(*t), &b[0])) + h(&one, i + b)) + f(+i, -i, i + k, k + i); } }
abbrev casts : Subject
casts = record {
  items =
      function (record { line = 0; token = 0; name = (id 0); directives = []; result = (ctypes.Int types.I32); params = record { line = 0; token = 0; name = Some (id 1); ctype = (ctypes.Int types.I32); fixed = false } ∷ record { line = 0; token = 0; name = Some (id 2); ctype = (ctypes.Int types.I64); fixed = false } ∷ record { line = 0; token = 0; name = Some (id 3); ctype = (ctypes.Int types.I16); fixed = false } ∷ record { line = 0; token = 0; name = Some (id 4); ctype = (ctypes.Int types.U32); fixed = false } ∷ []; body = None }) ∷
      function (record { line = 0; token = 0; name = (id 5); directives = []; result = (ctypes.Int types.I32); params = record { line = 0; token = 0; name = Some (id 6); ctype = (ctypes.Ptr types.I32 true); fixed = false } ∷ record { line = 0; token = 0; name = Some (id 7); ctype = (ctypes.Ptr types.I64 false); fixed = false } ∷ record { line = 0; token = 0; name = Some (id 8); ctype = (ctypes.Int types.I32); fixed = false } ∷ []; body = None }) ∷
      function (record { line = 0; token = 0; name = (id 9); directives = []; result = (ctypes.Int types.I32); params = record { line = 0; token = 0; name = Some (id 10); ctype = (ctypes.Ptr types.I32 false); fixed = false } ∷ record { line = 0; token = 0; name = Some (id 11); ctype = (ctypes.Ptr types.I64 false); fixed = false } ∷ []; body = None }) ∷
      object (record { line = 0; token = 0; name = (id 1); ty = types.I32; fixed = false; outside = false; array = (Some (Some (int 0 0 types.I32 99))); init = None; braced = false; init_line = 0; init_token = 0 }) ∷
      object (record { line = 0; token = 0; name = (id 2); ty = types.I64; fixed = false; outside = false; array = (Some (Some (int 0 0 types.I32 99))); init = None; braced = false; init_line = 0; init_token = 0 }) ∷
      object (record { line = 0; token = 0; name = (id 12); ty = types.I32; fixed = true; outside = false; array = (Some (Some (int 0 0 types.I32 4))); init = (Some ((int 0 0 types.I32 1) ∷ (int 0 0 types.I32 2) ∷ (int 0 0 types.I32 3) ∷ (int 0 0 types.I32 4) ∷ [])); braced = true; init_line = 0; init_token = 0 }) ∷
      object (record { line = 0; token = 0; name = (id 13); ty = types.I32; fixed = true; outside = false; array = None; init = (Some ((int 0 0 types.I32 1) ∷ [])); braced = false; init_line = 0; init_token = 0 }) ∷
      object (record { line = 0; token = 0; name = (id 14); ty = types.I32; fixed = false; outside = false; array = None; init = None; braced = false; init_line = 0; init_token = 0 }) ∷
      function (record { line = 0; token = 0; name = (id 15); directives = []; result = ctypes.Void; params = record { line = 0; token = 0; name = Some (id 16); ctype = (ctypes.Ptr types.I32 true); fixed = false } ∷ record { line = 0; token = 0; name = Some (id 7); ctype = (ctypes.Ptr types.I64 false); fixed = false } ∷ record { line = 0; token = 0; name = Some (id 8); ctype = (ctypes.Int types.I32); fixed = false } ∷ record { line = 0; token = 0; name = Some (id 17); ctype = (ctypes.Int types.I16); fixed = false } ∷ []; body = Some (block 0 0 (more_stmts (simd 0 0 line (for_loop 0 0 (local 0 0 types.I32 false (id 18) (Some (int 0 0 types.I32 0))) (Some (binary 0 0 twos.Lt (name 0 0 (id 18)) (name 0 0 (id 8)))) (assign 0 0 (Some twos.Add) (name 0 0 (id 18)) (int 0 0 types.I32 1)) (block 0 0 (more_stmts (local 0 0 types.I32 false (id 19) (Some (binary 0 0 twos.Add (binary 0 0 twos.Add (call 0 0 (id 0) (more_trees (name 0 0 (id 18)) (more_trees (name 0 0 (id 18)) (more_trees (name 0 0 (id 18)) (more_trees (name 0 0 (id 18)) no_trees))))) (call 0 0 (id 0) (more_trees (cast 0 0 types.I64 (name 0 0 (id 18))) (more_trees (cast 0 0 types.I32 (cast 0 0 types.I64 (name 0 0 (id 18)))) (more_trees (name 0 0 (id 17)) (more_trees (unary 0 0 ones.Neg (int 0 0 types.U32 1)) no_trees)))))) (call 0 0 (id 0) (more_trees (binary 0 0 twos.Add (name 0 0 (id 18)) (int 0 0 types.I32 1)) (more_trees (binary 0 0 twos.Add (name 0 0 (id 18)) (int 0 0 types.I32 1)) (more_trees (binary 0 0 twos.Add (name 0 0 (id 18)) (int 0 0 types.I64 1)) (more_trees (binary 0 0 twos.Add (cast 0 0 types.I64 (name 0 0 (id 18))) (int 0 0 types.I32 1)) no_trees)))))))) (more_stmts (assign 0 0 (Some twos.Add) (name 0 0 (id 19)) (binary 0 0 twos.Add (call 0 0 (id 0) (more_trees (name 0 0 (id 13)) (more_trees (name 0 0 (id 14)) (more_trees (index 0 0 (name 0 0 (id 12)) (int 0 0 types.I32 0)) (more_trees (unary 0 0 ones.Neg (int 0 0 types.I64 2147483648)) no_trees))))) (call 0 0 (id 0) (more_trees (int 0 0 types.I64 3000000000) (more_trees (unary 0 0 ones.Neg (int 0 0 types.I64 3000000000)) (more_trees (int 0 0 types.I32 70000) (more_trees (unary 0 0 ones.Neg (int 0 0 types.I32 1)) no_trees))))))) (more_stmts (assign 0 0 None (index 0 0 (name 0 0 (id 16)) (name 0 0 (id 18))) (binary 0 0 twos.Add (binary 0 0 twos.Add (call 0 0 (id 0) (more_trees (binary 0 0 twos.Add (int 0 0 types.I32 1) (name 0 0 (id 8))) (more_trees (binary 0 0 twos.Sub (name 0 0 (id 8)) (name 0 0 (id 18))) (more_trees (binary 0 0 twos.Sub (name 0 0 (id 18)) (name 0 0 (id 8))) (more_trees (binary 0 0 twos.Mul (int 0 0 types.I32 2) (name 0 0 (id 8))) no_trees))))) (call 0 0 (id 0) (more_trees (choice 0 0 (name 0 0 (id 8)) (int 0 0 types.I32 1) (int 0 0 types.I32 2)) (more_trees (binary 0 0 twos.LogAnd (name 0 0 (id 8)) (int 0 0 types.I32 1)) (more_trees (unary 0 0 ones.LogNot (name 0 0 (id 8))) (more_trees (unary 0 0 ones.Not (name 0 0 (id 8))) no_trees)))))) (call 0 0 (id 5) (more_trees (addr 0 0 (index 0 0 (name 0 0 (id 16)) (name 0 0 (id 18)))) (more_trees (binary 0 0 twos.Add (name 0 0 (id 7)) (name 0 0 (id 18))) (more_trees (name 0 0 (id 8)) no_trees)))))) (more_stmts (assign 0 0 None (index 0 0 (name 0 0 (id 1)) (name 0 0 (id 18))) (binary 0 0 twos.Add (binary 0 0 twos.Add (binary 0 0 twos.Add (binary 0 0 twos.Add (binary 0 0 twos.Add (binary 0 0 twos.Add (call 0 0 (id 9) (more_trees (binary 0 0 twos.Add (name 0 0 (id 12)) (name 0 0 (id 18))) (more_trees (name 0 0 (id 7)) no_trees))) (call 0 0 (id 9) (more_trees (addr 0 0 (index 0 0 (name 0 0 (id 12)) (name 0 0 (id 18)))) (more_trees (binary 0 0 twos.Add (name 0 0 (id 2)) (cast 0 0 types.I64 (name 0 0 (id 18)))) no_trees)))) (call 0 0 (id 9) (more_trees (binary 0 0 twos.Add (name 0 0 (id 12)) (int 0 0 types.I32 1)) (more_trees (binary 0 0 twos.Add (name 0 0 (id 2)) (name 0 0 (id 8))) no_trees)))) (call 0 0 (id 9) (more_trees (addr 0 0 (index 0 0 (name 0 0 (id 12)) (binary 0 0 twos.Add (name 0 0 (id 18)) (int 0 0 types.I32 1)))) (more_trees (binary 0 0 twos.Sub (name 0 0 (id 2)) (name 0 0 (id 8))) no_trees)))) (call 0 0 (id 9) (more_trees (addr 0 0 (deref 0 0 (name 0 0 (id 12)))) (more_trees (addr 0 0 (index 0 0 (name 0 0 (id 2)) (int 0 0 types.I32 0))) no_trees)))) (call 0 0 (id 9) (more_trees (addr 0 0 (name 0 0 (id 13))) (more_trees (binary 0 0 twos.Add (name 0 0 (id 18)) (name 0 0 (id 2))) no_trees)))) (call 0 0 (id 0) (more_trees (unary 0 0 ones.Plus (name 0 0 (id 18))) (more_trees (unary 0 0 ones.Neg (name 0 0 (id 18))) (more_trees (binary 0 0 twos.Add (name 0 0 (id 18)) (name 0 0 (id 17))) (more_trees (binary 0 0 twos.Add (name 0 0 (id 17)) (name 0 0 (id 18))) no_trees))))))) no_stmts))))))) no_stmts)) }) ∷ [];
  texts = codes "f" ∷ codes "a" ∷ codes "b" ∷ codes "c" ∷ codes "d" ∷ codes "g" ∷ codes "p" ∷ codes "q" ∷ codes "n" ∷ codes "h" ∷ codes "r" ∷ codes "w" ∷ codes "t" ∷ codes "one" ∷ codes "two" ∷ codes "run" ∷ codes "s" ∷ codes "k" ∷ codes "i" ∷ codes "u" ∷ [];
  target = X86;
}

casts_run_plain : plain_calls casts (codes "run") ≡ []
unfolding int_wrap from_bits first_declaration last_binding meaning_of with_params are_arguments choice_typing length_of constant_of simdlen_in
casts_run_plain = refl

casts_run_loops : loop_calls casts (codes "run") ≡ (record { callee = codes "f"; always = true; shapes = (By (pos 1)) ∷ (By (pos 1)) ∷ (By (pos 1)) ∷ (By (pos 1)) ∷ [] } ∷ record { callee = codes "f"; always = true; shapes = (By (pos 1)) ∷ (Vector) ∷ (Uniform) ∷ (Uniform) ∷ [] } ∷ record { callee = codes "f"; always = true; shapes = (By (pos 1)) ∷ (Vector) ∷ (Vector) ∷ (By (pos 1)) ∷ [] } ∷ record { callee = codes "f"; always = true; shapes = (Uniform) ∷ (Vector) ∷ (Vector) ∷ (Uniform) ∷ [] } ∷ record { callee = codes "f"; always = true; shapes = (Vector) ∷ (Vector) ∷ (Uniform) ∷ (Uniform) ∷ [] } ∷ record { callee = codes "f"; always = true; shapes = (Uniform) ∷ (Vector) ∷ (By (pos 1)) ∷ (Uniform) ∷ [] } ∷ record { callee = codes "f"; always = true; shapes = (Uniform) ∷ (Uniform) ∷ (Uniform) ∷ (Uniform) ∷ [] } ∷ record { callee = codes "g"; always = true; shapes = (By (pos 1)) ∷ (By (pos 1)) ∷ (Uniform) ∷ [] } ∷ record { callee = codes "h"; always = true; shapes = (By (pos 1)) ∷ (Uniform) ∷ [] } ∷ record { callee = codes "h"; always = true; shapes = (By (pos 1)) ∷ (Vector) ∷ [] } ∷ record { callee = codes "h"; always = true; shapes = (Uniform) ∷ (Uniform) ∷ [] } ∷ record { callee = codes "h"; always = true; shapes = (Vector) ∷ (Uniform) ∷ [] } ∷ record { callee = codes "h"; always = true; shapes = (Vector) ∷ (Uniform) ∷ [] } ∷ record { callee = codes "h"; always = true; shapes = (Uniform) ∷ (By (pos 1)) ∷ [] } ∷ record { callee = codes "f"; always = true; shapes = (Vector) ∷ (Vector) ∷ (By (pos 1)) ∷ (By (pos 1)) ∷ [] } ∷ []) ∷ []
unfolding int_wrap from_bits first_declaration last_binding meaning_of with_params are_arguments choice_typing length_of constant_of simdlen_in
casts_run_loops = refl

casts_run_captures : loop_captures casts (codes "run") ≡ (3 ∷ 0 ∷ 2 ∷ 1 ∷ []) ∷ []
unfolding int_wrap from_bits first_declaration last_binding meaning_of with_params are_arguments choice_typing length_of constant_of simdlen_in
casts_run_captures = refl

casts_run_counts : counts casts (codes "run") ≡ 0 ∷ 16 ∷ 173 ∷ 7 ∷ 157 ∷ []
unfolding int_wrap from_bits first_declaration last_binding meaning_of with_params are_arguments choice_typing length_of constant_of simdlen_in
casts_run_counts = refl
