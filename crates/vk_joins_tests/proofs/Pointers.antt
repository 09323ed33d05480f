-- Shapes of pointers. The C text of each unit stands over it; `[simd]` is a line
-- `#pragma omp simd`.
use Rattle.std.specs.Prelude.{◌≡◌, true, false, [], ◌∷◌, codes, Some, refl, pos}
use Rattle.std.specs.Int.{int_wrap}
use Rattle.vk_types.specs.Operators.{from_bits}
use Rattle.vk_types.specs.declared.types.Ty.TheVariants as types
use Rattle.vk_kinds.specs.declared.heads.CType.TheVariants as ctypes
use Rattle.vk_kinds.specs.declared.kinds.Kind.TheVariants as kinds
use Rattle.vk_kinds.specs.declared.kinds.Step.TheVariants as steps
use Rattle.vk_kinds.specs.declared.kinds.Target.TheVariants.{X86}
use Rattle.vk_ast.specs.declared.expressions.BinOp.TheVariants as twos
use Rattle.vk_ast.specs.Tree.{int, name, index, deref, addr, binary, call, no_trees, more_trees}
use Rattle.vk_ast.specs.Statements.{block, return_value, no_stmts, more_stmts}
use Rattle.vk_ast.specs.Units.{function}
use Rattle.vk_numbers.specs.Constants.{constant_of}
use Rattle.vk_rules_book.specs.Items.{length_of}
use Rattle.vk_rules_book.specs.Rules.{Subject}
use Rattle.vk_rules_book.specs.Scopes.{first_declaration, last_binding, meaning_of, with_params}
use Rattle.vk_rules_book.specs.Signatures.{simdlen_in}
use Rattle.vk_rules_book.specs.Typings.{are_arguments, choice_typing}
use Rattle.vk_code.specs.declared.code.Shape.TheVariants.{Vector, Uniform, By, Along, Literal, Same}
use Rattle.vk_joins_tests.proofs.Forms.{counts, id, lane_calls, loop_calls, param, plain_calls}

-- int f(const int *t, int *p, const int *r, int n, const int *o) { return *p; }
-- int g(const int *t, int *p, const int *r, int n, const int *o) { return ((f(t + n, p, r + n, n, o) + f(t, p, r - 1, n + 0,
--     &o[n])) + f(&t[2], p, n + r, 5, o - n)) + f(r, p, t, n, t); }
abbrev ptr : Subject
ptr = record {
  items =
      function (record { line = 0; token = 0; name = (id 0); directives = []; result = (ctypes.Int types.I32); params = record { line = 0; token = 0; name = Some (id 1); ctype = (ctypes.Ptr types.I32 false); fixed = false } ∷ record { line = 0; token = 0; name = Some (id 2); ctype = (ctypes.Ptr types.I32 true); fixed = false } ∷ record { line = 0; token = 0; name = Some (id 3); ctype = (ctypes.Ptr types.I32 false); fixed = false } ∷ record { line = 0; token = 0; name = Some (id 4); ctype = (ctypes.Int types.I32); fixed = false } ∷ record { line = 0; token = 0; name = Some (id 5); ctype = (ctypes.Ptr types.I32 false); fixed = false } ∷ []; body = Some (block 0 0 (more_stmts (return_value 0 0 (Some (deref 0 0 (name 0 0 (id 2))))) no_stmts)) }) ∷
      function (record { line = 0; token = 0; name = (id 6); directives = []; result = (ctypes.Int types.I32); params = record { line = 0; token = 0; name = Some (id 1); ctype = (ctypes.Ptr types.I32 false); fixed = false } ∷ record { line = 0; token = 0; name = Some (id 2); ctype = (ctypes.Ptr types.I32 true); fixed = false } ∷ record { line = 0; token = 0; name = Some (id 3); ctype = (ctypes.Ptr types.I32 false); fixed = false } ∷ record { line = 0; token = 0; name = Some (id 4); ctype = (ctypes.Int types.I32); fixed = false } ∷ record { line = 0; token = 0; name = Some (id 5); ctype = (ctypes.Ptr types.I32 false); fixed = false } ∷ []; body = Some (block 0 0 (more_stmts (return_value 0 0 (Some (binary 0 0 twos.Add (binary 0 0 twos.Add (binary 0 0 twos.Add (call 0 0 (id 0) (more_trees (binary 0 0 twos.Add (name 0 0 (id 1)) (name 0 0 (id 4))) (more_trees (name 0 0 (id 2)) (more_trees (binary 0 0 twos.Add (name 0 0 (id 3)) (name 0 0 (id 4))) (more_trees (name 0 0 (id 4)) (more_trees (name 0 0 (id 5)) no_trees)))))) (call 0 0 (id 0) (more_trees (name 0 0 (id 1)) (more_trees (name 0 0 (id 2)) (more_trees (binary 0 0 twos.Sub (name 0 0 (id 3)) (int 0 0 types.I32 1)) (more_trees (binary 0 0 twos.Add (name 0 0 (id 4)) (int 0 0 types.I32 0)) (more_trees (addr 0 0 (index 0 0 (name 0 0 (id 5)) (name 0 0 (id 4)))) no_trees))))))) (call 0 0 (id 0) (more_trees (addr 0 0 (index 0 0 (name 0 0 (id 1)) (int 0 0 types.I32 2))) (more_trees (name 0 0 (id 2)) (more_trees (binary 0 0 twos.Add (name 0 0 (id 4)) (name 0 0 (id 3))) (more_trees (int 0 0 types.I32 5) (more_trees (binary 0 0 twos.Sub (name 0 0 (id 5)) (name 0 0 (id 4))) no_trees))))))) (call 0 0 (id 0) (more_trees (name 0 0 (id 3)) (more_trees (name 0 0 (id 2)) (more_trees (name 0 0 (id 1)) (more_trees (name 0 0 (id 4)) (more_trees (name 0 0 (id 1)) no_trees))))))))) no_stmts)) }) ∷ [];
  texts = codes "f" ∷ codes "t" ∷ codes "p" ∷ codes "r" ∷ codes "n" ∷ codes "o" ∷ codes "g" ∷ [];
  target = X86;
}

ptr_f_plain : plain_calls ptr (codes "f") ≡ []
unfolding int_wrap from_bits first_declaration last_binding meaning_of with_params are_arguments choice_typing length_of constant_of simdlen_in
ptr_f_plain = refl

ptr_f_lanes : lane_calls ptr (codes "f") (param kinds.Uniform ∷ param (kinds.Linear (steps.By (pos 4))) ∷ param (kinds.Linear (steps.By (pos 48))) ∷ param kinds.Uniform ∷ param (kinds.Linear (steps.Arg 3)) ∷ []) ≡ []
unfolding int_wrap from_bits first_declaration last_binding meaning_of with_params are_arguments choice_typing length_of constant_of simdlen_in
ptr_f_lanes = refl

ptr_f_loops : loop_calls ptr (codes "f") ≡ []
unfolding int_wrap from_bits first_declaration last_binding meaning_of with_params are_arguments choice_typing length_of constant_of simdlen_in
ptr_f_loops = refl

ptr_f_counts : counts ptr (codes "f") ≡ 0 ∷ 9 ∷ 9 ∷ 0 ∷ []
unfolding int_wrap from_bits first_declaration last_binding meaning_of with_params are_arguments choice_typing length_of constant_of simdlen_in
ptr_f_counts = refl

ptr_g_plain : plain_calls ptr (codes "g") ≡ record { callee = codes "f"; always = false; shapes = (Vector) ∷ (Vector) ∷ (Vector) ∷ (Vector) ∷ (Vector) ∷ [] } ∷ record { callee = codes "f"; always = false; shapes = (Vector) ∷ (Vector) ∷ (Vector) ∷ (Vector) ∷ (Vector) ∷ [] } ∷ record { callee = codes "f"; always = false; shapes = (Vector) ∷ (Vector) ∷ (Vector) ∷ (Vector) ∷ (Vector) ∷ [] } ∷ record { callee = codes "f"; always = false; shapes = (Vector) ∷ (Vector) ∷ (Vector) ∷ (Vector) ∷ (Vector) ∷ [] } ∷ []
unfolding int_wrap from_bits first_declaration last_binding meaning_of with_params are_arguments choice_typing length_of constant_of simdlen_in
ptr_g_plain = refl

ptr_g_lanes : lane_calls ptr (codes "g") (param kinds.Uniform ∷ param (kinds.Linear (steps.By (pos 4))) ∷ param (kinds.Linear (steps.By (pos 48))) ∷ param kinds.Uniform ∷ param (kinds.Linear (steps.Arg 3)) ∷ []) ≡ record { callee = codes "f"; always = true; shapes = (Uniform) ∷ (By (pos 1)) ∷ (By (pos 12)) ∷ (Same 3) ∷ (Along 3) ∷ [] } ∷ record { callee = codes "f"; always = true; shapes = (Same 0) ∷ (By (pos 1)) ∷ (By (pos 12)) ∷ (Uniform) ∷ (Along 3) ∷ [] } ∷ record { callee = codes "f"; always = true; shapes = (Uniform) ∷ (By (pos 1)) ∷ (By (pos 12)) ∷ (Literal (pos 5)) ∷ (Along 3) ∷ [] } ∷ record { callee = codes "f"; always = true; shapes = (By (pos 12)) ∷ (By (pos 1)) ∷ (Same 0) ∷ (Same 3) ∷ (Same 0) ∷ [] } ∷ []
unfolding int_wrap from_bits first_declaration last_binding meaning_of with_params are_arguments choice_typing length_of constant_of simdlen_in
ptr_g_lanes = refl

ptr_g_loops : loop_calls ptr (codes "g") ≡ []
unfolding int_wrap from_bits first_declaration last_binding meaning_of with_params are_arguments choice_typing length_of constant_of simdlen_in
ptr_g_loops = refl

ptr_g_counts : counts ptr (codes "g") ≡ 0 ∷ 52 ∷ 52 ∷ 0 ∷ []
unfolding int_wrap from_bits first_declaration last_binding meaning_of with_params are_arguments choice_typing length_of constant_of simdlen_in
ptr_g_counts = refl
