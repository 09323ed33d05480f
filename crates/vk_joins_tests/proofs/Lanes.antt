-- Functions with directives: which calls are always made, and the shapes of parameters. The C text of each unit stands over it; `[simd]` is a line
-- `#pragma omp simd`.
use Rattle.std.specs.Prelude.{◌≡◌, true, false, [], ◌∷◌, codes, Some, None, refl, pos}
use Rattle.std.specs.Int.{int_wrap}
use Rattle.vk_types.specs.Operators.{from_bits}
use Rattle.vk_types.specs.declared.types.Ty.TheVariants as types
use Rattle.vk_kinds.specs.declared.heads.CType.TheVariants as ctypes
use Rattle.vk_kinds.specs.declared.kinds.Kind.TheVariants as kinds
use Rattle.vk_kinds.specs.declared.kinds.Step.TheVariants as steps
use Rattle.vk_kinds.specs.declared.kinds.Target.TheVariants.{X86}
use Rattle.vk_ast.specs.declared.expressions.BinOp.TheVariants as twos
use Rattle.vk_ast.specs.Tree.{int, name, index, binary, choice, cast, call, no_trees, more_trees}
use Rattle.vk_ast.specs.Statements.{block, local, assign, value, if_only, while_loop, do_loop, for_loop, continue_loop, return_value, simd, no_stmts, more_stmts}
use Rattle.vk_ast.specs.Units.{function, object}
use Rattle.vk_numbers.specs.Constants.{constant_of}
use Rattle.vk_rules_book.specs.Items.{length_of}
use Rattle.vk_rules_book.specs.Rules.{Subject}
use Rattle.vk_rules_book.specs.Scopes.{first_declaration, last_binding, meaning_of, with_params}
use Rattle.vk_rules_book.specs.Signatures.{simdlen_in}
use Rattle.vk_rules_book.specs.Typings.{are_arguments, choice_typing}
use Rattle.vk_code.specs.declared.code.Shape.TheVariants.{Vector, Uniform, By, Along, Literal, Same}
use Rattle.vk_joins_tests.proofs.Forms.{counts, id, lane_calls, line, loop_calls, loop_captures, param, plain_calls}

-- int f(int v, int w, long z, int l) { return v; }
-- int g(int v, int w, long z, int l) { int a = f(v, w, z, l); if (f(v + 1, w, w, l + w)) a = f(v, w, z, 1); a = f(1, 2, 3, 4)
--     && f(v - 2, w, z, l); a = a || f(f(w, z, v, l), w, z, l); a = f(a, w, z, l) ? f(v, w, z, l) : 1; while (f(v, 1, 2, 3)) {
--     a += 1; continue; } w = f(v, w, z, l); { if (a) return f(v, w, z, l); a = f(v, w, z, l); } return f((short)v, (unsigned
--     int)w, (int)z, (long)l); }
-- int y[9];
-- void m(int n) { [simd] for (long i = n; i < (n + 9); i += 1) { y[i] = f(i, n, n, 1); for (int j = 0; j < 2; j += 1) { y[i] =
--     f(j, n, n, 1); if (j) continue; } if (f(i, 1, i, n)) continue; y[i] = f(i, n, n, 1); } for (int q = f(1, 2, 3, 4); f(1,
--     2, 3, 4) < 2; q += f(1, 2, 3, 4)) { do { if (q) f(1, 2, 3, 4); } while (q > 1); } }
abbrev flags : Subject
flags = record {
  items =
      function (record { line = 0; token = 0; name = (id 0); directives = []; result = (ctypes.Int types.I32); params = record { line = 0; token = 0; name = Some (id 1); ctype = (ctypes.Int types.I32); fixed = false } ∷ record { line = 0; token = 0; name = Some (id 2); ctype = (ctypes.Int types.I32); fixed = false } ∷ record { line = 0; token = 0; name = Some (id 3); ctype = (ctypes.Int types.I64); fixed = false } ∷ record { line = 0; token = 0; name = Some (id 4); ctype = (ctypes.Int types.I32); fixed = false } ∷ []; body = Some (block 0 0 (more_stmts (return_value 0 0 (Some (name 0 0 (id 1)))) no_stmts)) }) ∷
      function (record { line = 0; token = 0; name = (id 5); directives = []; result = (ctypes.Int types.I32); params = record { line = 0; token = 0; name = Some (id 1); ctype = (ctypes.Int types.I32); fixed = false } ∷ record { line = 0; token = 0; name = Some (id 2); ctype = (ctypes.Int types.I32); fixed = false } ∷ record { line = 0; token = 0; name = Some (id 3); ctype = (ctypes.Int types.I64); fixed = false } ∷ record { line = 0; token = 0; name = Some (id 4); ctype = (ctypes.Int types.I32); fixed = false } ∷ []; body = Some (block 0 0 (more_stmts (local 0 0 types.I32 false (id 6) (Some (call 0 0 (id 0) (more_trees (name 0 0 (id 1)) (more_trees (name 0 0 (id 2)) (more_trees (name 0 0 (id 3)) (more_trees (name 0 0 (id 4)) no_trees))))))) (more_stmts (if_only 0 0 (call 0 0 (id 0) (more_trees (binary 0 0 twos.Add (name 0 0 (id 1)) (int 0 0 types.I32 1)) (more_trees (name 0 0 (id 2)) (more_trees (name 0 0 (id 2)) (more_trees (binary 0 0 twos.Add (name 0 0 (id 4)) (name 0 0 (id 2))) no_trees))))) (assign 0 0 None (name 0 0 (id 6)) (call 0 0 (id 0) (more_trees (name 0 0 (id 1)) (more_trees (name 0 0 (id 2)) (more_trees (name 0 0 (id 3)) (more_trees (int 0 0 types.I32 1) no_trees))))))) (more_stmts (assign 0 0 None (name 0 0 (id 6)) (binary 0 0 twos.LogAnd (call 0 0 (id 0) (more_trees (int 0 0 types.I32 1) (more_trees (int 0 0 types.I32 2) (more_trees (int 0 0 types.I32 3) (more_trees (int 0 0 types.I32 4) no_trees))))) (call 0 0 (id 0) (more_trees (binary 0 0 twos.Sub (name 0 0 (id 1)) (int 0 0 types.I32 2)) (more_trees (name 0 0 (id 2)) (more_trees (name 0 0 (id 3)) (more_trees (name 0 0 (id 4)) no_trees))))))) (more_stmts (assign 0 0 None (name 0 0 (id 6)) (binary 0 0 twos.LogOr (name 0 0 (id 6)) (call 0 0 (id 0) (more_trees (call 0 0 (id 0) (more_trees (name 0 0 (id 2)) (more_trees (name 0 0 (id 3)) (more_trees (name 0 0 (id 1)) (more_trees (name 0 0 (id 4)) no_trees))))) (more_trees (name 0 0 (id 2)) (more_trees (name 0 0 (id 3)) (more_trees (name 0 0 (id 4)) no_trees))))))) (more_stmts (assign 0 0 None (name 0 0 (id 6)) (choice 0 0 (call 0 0 (id 0) (more_trees (name 0 0 (id 6)) (more_trees (name 0 0 (id 2)) (more_trees (name 0 0 (id 3)) (more_trees (name 0 0 (id 4)) no_trees))))) (call 0 0 (id 0) (more_trees (name 0 0 (id 1)) (more_trees (name 0 0 (id 2)) (more_trees (name 0 0 (id 3)) (more_trees (name 0 0 (id 4)) no_trees))))) (int 0 0 types.I32 1))) (more_stmts (while_loop 0 0 (call 0 0 (id 0) (more_trees (name 0 0 (id 1)) (more_trees (int 0 0 types.I32 1) (more_trees (int 0 0 types.I32 2) (more_trees (int 0 0 types.I32 3) no_trees))))) (block 0 0 (more_stmts (assign 0 0 (Some twos.Add) (name 0 0 (id 6)) (int 0 0 types.I32 1)) (more_stmts (continue_loop 0 0) no_stmts)))) (more_stmts (assign 0 0 None (name 0 0 (id 2)) (call 0 0 (id 0) (more_trees (name 0 0 (id 1)) (more_trees (name 0 0 (id 2)) (more_trees (name 0 0 (id 3)) (more_trees (name 0 0 (id 4)) no_trees)))))) (more_stmts (block 0 0 (more_stmts (if_only 0 0 (name 0 0 (id 6)) (return_value 0 0 (Some (call 0 0 (id 0) (more_trees (name 0 0 (id 1)) (more_trees (name 0 0 (id 2)) (more_trees (name 0 0 (id 3)) (more_trees (name 0 0 (id 4)) no_trees)))))))) (more_stmts (assign 0 0 None (name 0 0 (id 6)) (call 0 0 (id 0) (more_trees (name 0 0 (id 1)) (more_trees (name 0 0 (id 2)) (more_trees (name 0 0 (id 3)) (more_trees (name 0 0 (id 4)) no_trees)))))) no_stmts))) (more_stmts (return_value 0 0 (Some (call 0 0 (id 0) (more_trees (cast 0 0 types.I16 (name 0 0 (id 1))) (more_trees (cast 0 0 types.U32 (name 0 0 (id 2))) (more_trees (cast 0 0 types.I32 (name 0 0 (id 3))) (more_trees (cast 0 0 types.I64 (name 0 0 (id 4))) no_trees))))))) no_stmts)))))))))) }) ∷
      object (record { line = 0; token = 0; name = (id 7); ty = types.I32; fixed = false; outside = false; array = (Some (Some (int 0 0 types.I32 9))); init = None; braced = false; init_line = 0; init_token = 0 }) ∷
      function (record { line = 0; token = 0; name = (id 8); directives = []; result = ctypes.Void; params = record { line = 0; token = 0; name = Some (id 9); ctype = (ctypes.Int types.I32); fixed = false } ∷ []; body = Some (block 0 0 (more_stmts (simd 0 0 line (for_loop 0 0 (local 0 0 types.I64 false (id 10) (Some (name 0 0 (id 9)))) (Some (binary 0 0 twos.Lt (name 0 0 (id 10)) (binary 0 0 twos.Add (name 0 0 (id 9)) (int 0 0 types.I32 9)))) (assign 0 0 (Some twos.Add) (name 0 0 (id 10)) (int 0 0 types.I32 1)) (block 0 0 (more_stmts (assign 0 0 None (index 0 0 (name 0 0 (id 7)) (name 0 0 (id 10))) (call 0 0 (id 0) (more_trees (name 0 0 (id 10)) (more_trees (name 0 0 (id 9)) (more_trees (name 0 0 (id 9)) (more_trees (int 0 0 types.I32 1) no_trees)))))) (more_stmts (for_loop 0 0 (local 0 0 types.I32 false (id 11) (Some (int 0 0 types.I32 0))) (Some (binary 0 0 twos.Lt (name 0 0 (id 11)) (int 0 0 types.I32 2))) (assign 0 0 (Some twos.Add) (name 0 0 (id 11)) (int 0 0 types.I32 1)) (block 0 0 (more_stmts (assign 0 0 None (index 0 0 (name 0 0 (id 7)) (name 0 0 (id 10))) (call 0 0 (id 0) (more_trees (name 0 0 (id 11)) (more_trees (name 0 0 (id 9)) (more_trees (name 0 0 (id 9)) (more_trees (int 0 0 types.I32 1) no_trees)))))) (more_stmts (if_only 0 0 (name 0 0 (id 11)) (continue_loop 0 0)) no_stmts)))) (more_stmts (if_only 0 0 (call 0 0 (id 0) (more_trees (name 0 0 (id 10)) (more_trees (int 0 0 types.I32 1) (more_trees (name 0 0 (id 10)) (more_trees (name 0 0 (id 9)) no_trees))))) (continue_loop 0 0)) (more_stmts (assign 0 0 None (index 0 0 (name 0 0 (id 7)) (name 0 0 (id 10))) (call 0 0 (id 0) (more_trees (name 0 0 (id 10)) (more_trees (name 0 0 (id 9)) (more_trees (name 0 0 (id 9)) (more_trees (int 0 0 types.I32 1) no_trees)))))) no_stmts))))))) (more_stmts (for_loop 0 0 (local 0 0 types.I32 false (id 12) (Some (call 0 0 (id 0) (more_trees (int 0 0 types.I32 1) (more_trees (int 0 0 types.I32 2) (more_trees (int 0 0 types.I32 3) (more_trees (int 0 0 types.I32 4) no_trees))))))) (Some (binary 0 0 twos.Lt (call 0 0 (id 0) (more_trees (int 0 0 types.I32 1) (more_trees (int 0 0 types.I32 2) (more_trees (int 0 0 types.I32 3) (more_trees (int 0 0 types.I32 4) no_trees))))) (int 0 0 types.I32 2))) (assign 0 0 (Some twos.Add) (name 0 0 (id 12)) (call 0 0 (id 0) (more_trees (int 0 0 types.I32 1) (more_trees (int 0 0 types.I32 2) (more_trees (int 0 0 types.I32 3) (more_trees (int 0 0 types.I32 4) no_trees)))))) (block 0 0 (more_stmts (do_loop 0 0 (block 0 0 (more_stmts (if_only 0 0 (name 0 0 (id 12)) (value 0 0 (call 0 0 (id 0) (more_trees (int 0 0 types.I32 1) (more_trees (int 0 0 types.I32 2) (more_trees (int 0 0 types.I32 3) (more_trees (int 0 0 types.I32 4) no_trees))))))) no_stmts)) (binary 0 0 twos.Gt (name 0 0 (id 12)) (int 0 0 types.I32 1))) no_stmts))) no_stmts))) }) ∷ [];
  texts = codes "f" ∷ codes "v" ∷ codes "w" ∷ codes "z" ∷ codes "l" ∷ codes "g" ∷ codes "a" ∷ codes "y" ∷ codes "m" ∷ codes "n" ∷ codes "i" ∷ codes "j" ∷ codes "q" ∷ [];
  target = X86;
}

flags_f_plain : plain_calls flags (codes "f") ≡ []
unfolding int_wrap from_bits first_declaration last_binding meaning_of with_params are_arguments choice_typing length_of constant_of simdlen_in
flags_f_plain = refl

flags_f_lanes : lane_calls flags (codes "f") (param (kinds.Linear (steps.By (pos 3))) ∷ param kinds.Uniform ∷ param kinds.Uniform ∷ param (kinds.Linear (steps.Arg 1)) ∷ []) ≡ []
unfolding int_wrap from_bits first_declaration last_binding meaning_of with_params are_arguments choice_typing length_of constant_of simdlen_in
flags_f_lanes = refl

flags_f_loops : loop_calls flags (codes "f") ≡ []
unfolding int_wrap from_bits first_declaration last_binding meaning_of with_params are_arguments choice_typing length_of constant_of simdlen_in
flags_f_loops = refl

flags_f_counts : counts flags (codes "f") ≡ 0 ∷ 7 ∷ 7 ∷ 0 ∷ []
unfolding int_wrap from_bits first_declaration last_binding meaning_of with_params are_arguments choice_typing length_of constant_of simdlen_in
flags_f_counts = refl

flags_g_plain : plain_calls flags (codes "g") ≡ record { callee = codes "f"; always = false; shapes = (Vector) ∷ (Vector) ∷ (Vector) ∷ (Vector) ∷ [] } ∷ record { callee = codes "f"; always = false; shapes = (Vector) ∷ (Vector) ∷ (Vector) ∷ (Vector) ∷ [] } ∷ record { callee = codes "f"; always = false; shapes = (Vector) ∷ (Vector) ∷ (Vector) ∷ (Vector) ∷ [] } ∷ record { callee = codes "f"; always = false; shapes = (Vector) ∷ (Vector) ∷ (Vector) ∷ (Vector) ∷ [] } ∷ record { callee = codes "f"; always = false; shapes = (Vector) ∷ (Vector) ∷ (Vector) ∷ (Vector) ∷ [] } ∷ record { callee = codes "f"; always = false; shapes = (Vector) ∷ (Vector) ∷ (Vector) ∷ (Vector) ∷ [] } ∷ record { callee = codes "f"; always = false; shapes = (Vector) ∷ (Vector) ∷ (Vector) ∷ (Vector) ∷ [] } ∷ record { callee = codes "f"; always = false; shapes = (Vector) ∷ (Vector) ∷ (Vector) ∷ (Vector) ∷ [] } ∷ record { callee = codes "f"; always = false; shapes = (Vector) ∷ (Vector) ∷ (Vector) ∷ (Vector) ∷ [] } ∷ record { callee = codes "f"; always = false; shapes = (Vector) ∷ (Vector) ∷ (Vector) ∷ (Vector) ∷ [] } ∷ record { callee = codes "f"; always = false; shapes = (Vector) ∷ (Vector) ∷ (Vector) ∷ (Vector) ∷ [] } ∷ record { callee = codes "f"; always = false; shapes = (Vector) ∷ (Vector) ∷ (Vector) ∷ (Vector) ∷ [] } ∷ record { callee = codes "f"; always = false; shapes = (Vector) ∷ (Vector) ∷ (Vector) ∷ (Vector) ∷ [] } ∷ record { callee = codes "f"; always = false; shapes = (Vector) ∷ (Vector) ∷ (Vector) ∷ (Vector) ∷ [] } ∷ []
unfolding int_wrap from_bits first_declaration last_binding meaning_of with_params are_arguments choice_typing length_of constant_of simdlen_in
flags_g_plain = refl

flags_g_lanes : lane_calls flags (codes "g") (param (kinds.Linear (steps.By (pos 3))) ∷ param kinds.Uniform ∷ param kinds.Uniform ∷ param (kinds.Linear (steps.Arg 1)) ∷ []) ≡ record { callee = codes "f"; always = true; shapes = (By (pos 3)) ∷ (Vector) ∷ (Same 2) ∷ (Along 1) ∷ [] } ∷ record { callee = codes "f"; always = true; shapes = (By (pos 3)) ∷ (Vector) ∷ (Vector) ∷ (Vector) ∷ [] } ∷ record { callee = codes "f"; always = false; shapes = (By (pos 3)) ∷ (Vector) ∷ (Same 2) ∷ (Literal (pos 1)) ∷ [] } ∷ record { callee = codes "f"; always = true; shapes = (Literal (pos 1)) ∷ (Literal (pos 2)) ∷ (Literal (pos 3)) ∷ (Literal (pos 4)) ∷ [] } ∷ record { callee = codes "f"; always = false; shapes = (By (pos 3)) ∷ (Vector) ∷ (Same 2) ∷ (Along 1) ∷ [] } ∷ record { callee = codes "f"; always = false; shapes = (Vector) ∷ (Vector) ∷ (Same 2) ∷ (Along 1) ∷ [] } ∷ record { callee = codes "f"; always = false; shapes = (Vector) ∷ (Uniform) ∷ (Vector) ∷ (Along 1) ∷ [] } ∷ record { callee = codes "f"; always = true; shapes = (Vector) ∷ (Vector) ∷ (Same 2) ∷ (Along 1) ∷ [] } ∷ record { callee = codes "f"; always = false; shapes = (By (pos 3)) ∷ (Vector) ∷ (Same 2) ∷ (Along 1) ∷ [] } ∷ record { callee = codes "f"; always = false; shapes = (By (pos 3)) ∷ (Literal (pos 1)) ∷ (Literal (pos 2)) ∷ (Literal (pos 3)) ∷ [] } ∷ record { callee = codes "f"; always = true; shapes = (By (pos 3)) ∷ (Vector) ∷ (Same 2) ∷ (Along 1) ∷ [] } ∷ record { callee = codes "f"; always = false; shapes = (By (pos 3)) ∷ (Vector) ∷ (Same 2) ∷ (Along 1) ∷ [] } ∷ record { callee = codes "f"; always = false; shapes = (By (pos 3)) ∷ (Vector) ∷ (Same 2) ∷ (Along 1) ∷ [] } ∷ record { callee = codes "f"; always = false; shapes = (Vector) ∷ (Vector) ∷ (Uniform) ∷ (Vector) ∷ [] } ∷ []
unfolding int_wrap from_bits first_declaration last_binding meaning_of with_params are_arguments choice_typing length_of constant_of simdlen_in
flags_g_lanes = refl

flags_g_lanes_again : lane_calls flags (codes "g") (param kinds.Uniform ∷ param kinds.Vector ∷ param kinds.Uniform ∷ param kinds.Vector ∷ []) ≡ record { callee = codes "f"; always = true; shapes = (Same 0) ∷ (Vector) ∷ (Same 2) ∷ (Vector) ∷ [] } ∷ record { callee = codes "f"; always = true; shapes = (Uniform) ∷ (Vector) ∷ (Vector) ∷ (Vector) ∷ [] } ∷ record { callee = codes "f"; always = false; shapes = (Same 0) ∷ (Vector) ∷ (Same 2) ∷ (Literal (pos 1)) ∷ [] } ∷ record { callee = codes "f"; always = true; shapes = (Literal (pos 1)) ∷ (Literal (pos 2)) ∷ (Literal (pos 3)) ∷ (Literal (pos 4)) ∷ [] } ∷ record { callee = codes "f"; always = false; shapes = (Uniform) ∷ (Vector) ∷ (Same 2) ∷ (Vector) ∷ [] } ∷ record { callee = codes "f"; always = false; shapes = (Vector) ∷ (Vector) ∷ (Same 2) ∷ (Vector) ∷ [] } ∷ record { callee = codes "f"; always = false; shapes = (Vector) ∷ (Uniform) ∷ (Uniform) ∷ (Vector) ∷ [] } ∷ record { callee = codes "f"; always = true; shapes = (Vector) ∷ (Vector) ∷ (Same 2) ∷ (Vector) ∷ [] } ∷ record { callee = codes "f"; always = false; shapes = (Same 0) ∷ (Vector) ∷ (Same 2) ∷ (Vector) ∷ [] } ∷ record { callee = codes "f"; always = false; shapes = (Same 0) ∷ (Literal (pos 1)) ∷ (Literal (pos 2)) ∷ (Literal (pos 3)) ∷ [] } ∷ record { callee = codes "f"; always = true; shapes = (Same 0) ∷ (Vector) ∷ (Same 2) ∷ (Vector) ∷ [] } ∷ record { callee = codes "f"; always = false; shapes = (Same 0) ∷ (Vector) ∷ (Same 2) ∷ (Vector) ∷ [] } ∷ record { callee = codes "f"; always = false; shapes = (Same 0) ∷ (Vector) ∷ (Same 2) ∷ (Vector) ∷ [] } ∷ record { callee = codes "f"; always = false; shapes = (Uniform) ∷ (Vector) ∷ (Uniform) ∷ (Vector) ∷ [] } ∷ []
unfolding int_wrap from_bits first_declaration last_binding meaning_of with_params are_arguments choice_typing length_of constant_of simdlen_in
flags_g_lanes_again = refl

flags_g_loops : loop_calls flags (codes "g") ≡ []
unfolding int_wrap from_bits first_declaration last_binding meaning_of with_params are_arguments choice_typing length_of constant_of simdlen_in
flags_g_loops = refl

flags_g_counts : counts flags (codes "g") ≡ 1 ∷ 115 ∷ 115 ∷ 0 ∷ []
unfolding int_wrap from_bits first_declaration last_binding meaning_of with_params are_arguments choice_typing length_of constant_of simdlen_in
flags_g_counts = refl

flags_m_plain : plain_calls flags (codes "m") ≡ record { callee = codes "f"; always = false; shapes = (Vector) ∷ (Vector) ∷ (Vector) ∷ (Vector) ∷ [] } ∷ record { callee = codes "f"; always = false; shapes = (Vector) ∷ (Vector) ∷ (Vector) ∷ (Vector) ∷ [] } ∷ record { callee = codes "f"; always = false; shapes = (Vector) ∷ (Vector) ∷ (Vector) ∷ (Vector) ∷ [] } ∷ record { callee = codes "f"; always = false; shapes = (Vector) ∷ (Vector) ∷ (Vector) ∷ (Vector) ∷ [] } ∷ []
unfolding int_wrap from_bits first_declaration last_binding meaning_of with_params are_arguments choice_typing length_of constant_of simdlen_in
flags_m_plain = refl

flags_m_loops : loop_calls flags (codes "m") ≡ (record { callee = codes "f"; always = true; shapes = (By (pos 1)) ∷ (Uniform) ∷ (Uniform) ∷ (Literal (pos 1)) ∷ [] } ∷ record { callee = codes "f"; always = false; shapes = (Vector) ∷ (Uniform) ∷ (Uniform) ∷ (Literal (pos 1)) ∷ [] } ∷ record { callee = codes "f"; always = true; shapes = (By (pos 1)) ∷ (Literal (pos 1)) ∷ (By (pos 1)) ∷ (Uniform) ∷ [] } ∷ record { callee = codes "f"; always = false; shapes = (By (pos 1)) ∷ (Uniform) ∷ (Uniform) ∷ (Literal (pos 1)) ∷ [] } ∷ []) ∷ []
unfolding int_wrap from_bits first_declaration last_binding meaning_of with_params are_arguments choice_typing length_of constant_of simdlen_in
flags_m_loops = refl

flags_m_captures : loop_captures flags (codes "m") ≡ (0 ∷ []) ∷ []
unfolding int_wrap from_bits first_declaration last_binding meaning_of with_params are_arguments choice_typing length_of constant_of simdlen_in
flags_m_captures = refl

flags_m_counts : counts flags (codes "m") ≡ 2 ∷ 51 ∷ 100 ∷ 1 ∷ 49 ∷ []
unfolding int_wrap from_bits first_declaration last_binding meaning_of with_params are_arguments choice_typing length_of constant_of simdlen_in
flags_m_counts = refl
