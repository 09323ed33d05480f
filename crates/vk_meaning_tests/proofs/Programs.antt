-- Programs and what they print: units that are joined, simd loops and their guards.
use Rattle.std.specs.Prelude.{◌≡◌, true, false, [], ◌∷◌, codes, Some, None, pos, negsuc}
use Rattle.std.proofs.Common.{refl}
use Rattle.std.specs.Int.{int_wrap}
use Rattle.vk_types.specs.declared.types.Ty.TheVariants.{I32, I64, U8, U32, U64}
use Rattle.vk_types.specs.declared.types.Stop.TheVariants.{Turns}
use Rattle.vk_types.specs.Operators.{from_bits}
use Rattle.vk_kinds.specs.declared.heads.CType.TheVariants.{Void, Int, Ptr}
use Rattle.vk_ast.specs.declared.expressions.UnOp.TheVariants as u
use Rattle.vk_ast.specs.declared.expressions.BinOp.TheVariants as b
use Rattle.vk_numbers.specs.Constants.{constant_of}
use Rattle.vk_rules_book.specs.Rules.{Subject}
use Rattle.vk_rules_book.specs.Scopes.{first_declaration, last_binding, meaning_of, with_params}
use Rattle.vk_rules_book.specs.Typings.{are_arguments, choice_typing}
use Rattle.vk_rules_book.specs.Items.{length_of}
use Rattle.vk_meaning.specs.Meaning.{reading}
use Rattle.vk_meaning_tests.proofs.Forms.{id, lit, var, index, one, two, call, empty, block, local, assign, value, if_only, while_loop, for_loop, return_value, simd, param, function_of, object_of, unit_of, told, tells, loop}

-- #pragma omp declare simd notinbranch
-- int sq(int a) { return a * a; }
abbrev squares : Subject
squares = unit_of (codes "sq" ∷ codes "a" ∷ [])
    (function_of (id 0) true (Int I32) ((param (Some (id 1)) (Int I32)) ∷ []) (Some (block ((return_value (Some (two b.Mul (var (id 1)) (var (id 1))))) ∷ [])))
    ∷ [])

-- #pragma omp declare simd notinbranch
-- int sq(int a);
-- int x[10]; int y[10];
-- int main(void) {
-- for (int i = 0; i < 10; i++) x[i] = i - 3;
-- #pragma omp simd
-- for (int i = 0; i < 10; i++) y[i] = sq(x[i]);
-- for (int i = 0; i < 10; i++) print(y[i]);
-- return 0; }
abbrev main_of_squares : Subject
main_of_squares = unit_of (codes "sq" ∷ codes "a" ∷ codes "x" ∷ codes "y" ∷ codes "main" ∷ codes "i" ∷ codes "print" ∷ [])
    (function_of (id 0) true (Int I32) ((param (Some (id 1)) (Int I32)) ∷ []) None
    ∷ object_of (id 2) I32 false false (Some (Some (lit I32 10))) None false
    ∷ object_of (id 3) I32 false false (Some (Some (lit I32 10))) None false
    ∷ function_of (id 4) false (Int I32) ([]) (Some (block ((for_loop (local I32 (id 5) (Some (lit I32 0))) (Some (two b.Lt (var (id 5)) (lit I32 10))) (assign (Some b.Add) (var (id 5)) (lit I32 1)) (assign None (index (var (id 2)) (var (id 5))) (two b.Sub (var (id 5)) (lit I32 3)))) ∷ (simd (for_loop (local I32 (id 5) (Some (lit I32 0))) (Some (two b.Lt (var (id 5)) (lit I32 10))) (assign (Some b.Add) (var (id 5)) (lit I32 1)) (assign None (index (var (id 3)) (var (id 5))) (call (id 0) ((index (var (id 2)) (var (id 5))) ∷ []))))) ∷ (for_loop (local I32 (id 5) (Some (lit I32 0))) (Some (two b.Lt (var (id 5)) (lit I32 10))) (assign (Some b.Add) (var (id 5)) (lit I32 1)) (value (call (id 6) ((index (var (id 3)) (var (id 5))) ∷ [])))) ∷ (return_value (Some (lit I32 0))) ∷ [])))
    ∷ [])

ten_squares : told (reading (squares ∷ main_of_squares ∷ []) 20) ≡ tells ((pos 9) ∷ (pos 4) ∷ (pos 1) ∷ (pos 0) ∷ (pos 1) ∷ (pos 4) ∷ (pos 9) ∷ (pos 16) ∷ (pos 25) ∷ (pos 36) ∷ []) (loop 1 10 true ∷ []) None
unfolding int_wrap from_bits first_declaration last_binding meaning_of with_params are_arguments choice_typing length_of constant_of
ten_squares = refl

-- #pragma omp declare simd notinbranch
-- int sq(int a);
-- int x[10]; int y[10];
-- int main(void) {
-- for (int i = 0; i < 10; i++) x[i] = i - 3;
-- #pragma omp simd
-- for (int i = 0; i < 0; i++) y[i] = sq(x[i]);
-- for (int i = 0; i < 10; i++) print(y[i]);
-- return 0; }
abbrev main_of_none : Subject
main_of_none = unit_of (codes "sq" ∷ codes "a" ∷ codes "x" ∷ codes "y" ∷ codes "main" ∷ codes "i" ∷ codes "print" ∷ [])
    (function_of (id 0) true (Int I32) ((param (Some (id 1)) (Int I32)) ∷ []) None
    ∷ object_of (id 2) I32 false false (Some (Some (lit I32 10))) None false
    ∷ object_of (id 3) I32 false false (Some (Some (lit I32 10))) None false
    ∷ function_of (id 4) false (Int I32) ([]) (Some (block ((for_loop (local I32 (id 5) (Some (lit I32 0))) (Some (two b.Lt (var (id 5)) (lit I32 10))) (assign (Some b.Add) (var (id 5)) (lit I32 1)) (assign None (index (var (id 2)) (var (id 5))) (two b.Sub (var (id 5)) (lit I32 3)))) ∷ (simd (for_loop (local I32 (id 5) (Some (lit I32 0))) (Some (two b.Lt (var (id 5)) (lit I32 0))) (assign (Some b.Add) (var (id 5)) (lit I32 1)) (assign None (index (var (id 3)) (var (id 5))) (call (id 0) ((index (var (id 2)) (var (id 5))) ∷ []))))) ∷ (for_loop (local I32 (id 5) (Some (lit I32 0))) (Some (two b.Lt (var (id 5)) (lit I32 10))) (assign (Some b.Add) (var (id 5)) (lit I32 1)) (value (call (id 6) ((index (var (id 3)) (var (id 5))) ∷ [])))) ∷ (return_value (Some (lit I32 0))) ∷ [])))
    ∷ [])

no_squares : told (reading (main_of_none ∷ squares ∷ []) 20) ≡ tells ((pos 0) ∷ (pos 0) ∷ (pos 0) ∷ (pos 0) ∷ (pos 0) ∷ (pos 0) ∷ (pos 0) ∷ (pos 0) ∷ (pos 0) ∷ (pos 0) ∷ []) (loop 1 0 true ∷ []) None
unfolding int_wrap from_bits first_declaration last_binding meaning_of with_params are_arguments choice_typing length_of constant_of
no_squares = refl

-- #pragma omp declare simd notinbranch
-- int sq(int a);
-- int x[10]; int y[10];
-- int main(void) {
-- for (int i = 0; i < 10; i++) x[i] = i - 3;
-- #pragma omp simd
-- for (int i = 0; i < 3; i++) y[i] = sq(x[i]);
-- for (int i = 0; i < 10; i++) print(y[i]);
-- return 0; }
abbrev main_of_three : Subject
main_of_three = unit_of (codes "sq" ∷ codes "a" ∷ codes "x" ∷ codes "y" ∷ codes "main" ∷ codes "i" ∷ codes "print" ∷ [])
    (function_of (id 0) true (Int I32) ((param (Some (id 1)) (Int I32)) ∷ []) None
    ∷ object_of (id 2) I32 false false (Some (Some (lit I32 10))) None false
    ∷ object_of (id 3) I32 false false (Some (Some (lit I32 10))) None false
    ∷ function_of (id 4) false (Int I32) ([]) (Some (block ((for_loop (local I32 (id 5) (Some (lit I32 0))) (Some (two b.Lt (var (id 5)) (lit I32 10))) (assign (Some b.Add) (var (id 5)) (lit I32 1)) (assign None (index (var (id 2)) (var (id 5))) (two b.Sub (var (id 5)) (lit I32 3)))) ∷ (simd (for_loop (local I32 (id 5) (Some (lit I32 0))) (Some (two b.Lt (var (id 5)) (lit I32 3))) (assign (Some b.Add) (var (id 5)) (lit I32 1)) (assign None (index (var (id 3)) (var (id 5))) (call (id 0) ((index (var (id 2)) (var (id 5))) ∷ []))))) ∷ (for_loop (local I32 (id 5) (Some (lit I32 0))) (Some (two b.Lt (var (id 5)) (lit I32 10))) (assign (Some b.Add) (var (id 5)) (lit I32 1)) (value (call (id 6) ((index (var (id 3)) (var (id 5))) ∷ [])))) ∷ (return_value (Some (lit I32 0))) ∷ [])))
    ∷ [])

three_squares : told (reading (main_of_three ∷ squares ∷ []) 20) ≡ tells ((pos 9) ∷ (pos 4) ∷ (pos 1) ∷ (pos 0) ∷ (pos 0) ∷ (pos 0) ∷ (pos 0) ∷ (pos 0) ∷ (pos 0) ∷ (pos 0) ∷ []) (loop 1 3 true ∷ []) None
unfolding int_wrap from_bits first_declaration last_binding meaning_of with_params are_arguments choice_typing length_of constant_of
three_squares = refl

-- #pragma omp declare simd
-- int g(int a) { while (a == 0) ; return 10 / (a - 1); }
-- int v[4]; int w[4];
-- int main(void) { print(7); for (int i = 0; i < 4; i++) v[i] = i;
-- #pragma omp simd
-- for (int i = 0; i < 4; i++) w[i] = g(v[i]);
-- print(8); return 0; }
abbrev stops_inside : Subject
stops_inside = unit_of (codes "g" ∷ codes "a" ∷ codes "v" ∷ codes "w" ∷ codes "main" ∷ codes "print" ∷ codes "i" ∷ [])
    (function_of (id 0) true (Int I32) ((param (Some (id 1)) (Int I32)) ∷ []) (Some (block ((while_loop (two b.Eq (var (id 1)) (lit I32 0)) empty) ∷ (return_value (Some (two b.Div (lit I32 10) (two b.Sub (var (id 1)) (lit I32 1))))) ∷ [])))
    ∷ object_of (id 2) I32 false false (Some (Some (lit I32 4))) None false
    ∷ object_of (id 3) I32 false false (Some (Some (lit I32 4))) None false
    ∷ function_of (id 4) false (Int I32) ([]) (Some (block ((value (call (id 5) ((lit I32 7) ∷ []))) ∷ (for_loop (local I32 (id 6) (Some (lit I32 0))) (Some (two b.Lt (var (id 6)) (lit I32 4))) (assign (Some b.Add) (var (id 6)) (lit I32 1)) (assign None (index (var (id 2)) (var (id 6))) (var (id 6)))) ∷ (simd (for_loop (local I32 (id 6) (Some (lit I32 0))) (Some (two b.Lt (var (id 6)) (lit I32 4))) (assign (Some b.Add) (var (id 6)) (lit I32 1)) (assign None (index (var (id 3)) (var (id 6))) (call (id 0) ((index (var (id 2)) (var (id 6))) ∷ []))))) ∷ (value (call (id 5) ((lit I32 8) ∷ []))) ∷ (return_value (Some (lit I32 0))) ∷ [])))
    ∷ [])

stops_in_a_loop : told (reading (stops_inside ∷ []) 20) ≡ tells ((pos 7) ∷ []) (loop 1 4 true ∷ []) (Some Turns)
unfolding int_wrap from_bits first_declaration last_binding meaning_of with_params are_arguments choice_typing length_of constant_of
stops_in_a_loop = refl

-- #pragma omp declare simd
-- int inc(int a) { return a + 1; }
-- void step(const int *x, int *y, int n) {
-- #pragma omp simd
-- for (int i = 0; i < n; i++) y[i] = inc(x[i]); }
-- int a[9];
-- int main(void) { for (int i = 0; i < 9; i++) a[i] = 5; step(a, a + 1, 8); for (int i = 0; i < 9; i++) print(a[i]); }
abbrev overlaps : Subject
overlaps = unit_of (codes "inc" ∷ codes "a" ∷ codes "step" ∷ codes "x" ∷ codes "y" ∷ codes "n" ∷ codes "i" ∷ codes "main" ∷ codes "print" ∷ [])
    (function_of (id 0) true (Int I32) ((param (Some (id 1)) (Int I32)) ∷ []) (Some (block ((return_value (Some (two b.Add (var (id 1)) (lit I32 1)))) ∷ [])))
    ∷ function_of (id 2) false Void ((param (Some (id 3)) (Ptr I32 false)) ∷ (param (Some (id 4)) (Ptr I32 true)) ∷ (param (Some (id 5)) (Int I32)) ∷ []) (Some (block ((simd (for_loop (local I32 (id 6) (Some (lit I32 0))) (Some (two b.Lt (var (id 6)) (var (id 5)))) (assign (Some b.Add) (var (id 6)) (lit I32 1)) (assign None (index (var (id 4)) (var (id 6))) (call (id 0) ((index (var (id 3)) (var (id 6))) ∷ []))))) ∷ [])))
    ∷ object_of (id 1) I32 false false (Some (Some (lit I32 9))) None false
    ∷ function_of (id 7) false (Int I32) ([]) (Some (block ((for_loop (local I32 (id 6) (Some (lit I32 0))) (Some (two b.Lt (var (id 6)) (lit I32 9))) (assign (Some b.Add) (var (id 6)) (lit I32 1)) (assign None (index (var (id 1)) (var (id 6))) (lit I32 5))) ∷ (value (call (id 2) ((var (id 1)) ∷ (two b.Add (var (id 1)) (lit I32 1)) ∷ (lit I32 8) ∷ []))) ∷ (for_loop (local I32 (id 6) (Some (lit I32 0))) (Some (two b.Lt (var (id 6)) (lit I32 9))) (assign (Some b.Add) (var (id 6)) (lit I32 1)) (value (call (id 8) ((index (var (id 1)) (var (id 6))) ∷ [])))) ∷ [])))
    ∷ [])

one_array_twice : told (reading (overlaps ∷ []) 20) ≡ tells ((pos 5) ∷ (pos 6) ∷ (pos 7) ∷ (pos 8) ∷ (pos 9) ∷ (pos 10) ∷ (pos 11) ∷ (pos 12) ∷ (pos 13) ∷ []) (loop 1 8 false ∷ []) None
unfolding int_wrap from_bits first_declaration last_binding meaning_of with_params are_arguments choice_typing length_of constant_of
one_array_twice = refl

-- int main(void) { print((-2147483647 - 1) / -1); print((-2147483647 - 1) % -1); print(1 << 33); print(-7 / 2); print(-7 >> 1); print(-1 < 1u); print(18446744073709551615u);
-- unsigned char c = 250; c += 10; print(c); return 0; }
abbrev numbers : Subject
numbers = unit_of (codes "main" ∷ codes "print" ∷ codes "c" ∷ [])
    (function_of (id 0) false (Int I32) ([]) (Some (block ((value (call (id 1) ((two b.Div (two b.Sub (one u.Neg (lit I32 2147483647)) (lit I32 1)) (one u.Neg (lit I32 1))) ∷ []))) ∷ (value (call (id 1) ((two b.Rem (two b.Sub (one u.Neg (lit I32 2147483647)) (lit I32 1)) (one u.Neg (lit I32 1))) ∷ []))) ∷ (value (call (id 1) ((two b.Shl (lit I32 1) (lit I32 33)) ∷ []))) ∷ (value (call (id 1) ((two b.Div (one u.Neg (lit I32 7)) (lit I32 2)) ∷ []))) ∷ (value (call (id 1) ((two b.Shr (one u.Neg (lit I32 7)) (lit I32 1)) ∷ []))) ∷ (value (call (id 1) ((two b.Lt (one u.Neg (lit I32 1)) (lit U32 1)) ∷ []))) ∷ (value (call (id 1) ((lit U64 18446744073709551615) ∷ []))) ∷ (local U8 (id 2) (Some (lit I32 250))) ∷ (assign (Some b.Add) (var (id 2)) (lit I32 10)) ∷ (value (call (id 1) ((var (id 2)) ∷ []))) ∷ (return_value (Some (lit I32 0))) ∷ [])))
    ∷ [])

printed_numbers_wrap : told (reading (numbers ∷ []) 20) ≡ tells ((negsuc 2147483647) ∷ (pos 0) ∷ (pos 2) ∷ (negsuc 2) ∷ (negsuc 3) ∷ (pos 0) ∷ (negsuc 0) ∷ (pos 4) ∷ []) ([]) None
unfolding int_wrap from_bits first_declaration last_binding meaning_of with_params are_arguments choice_typing length_of constant_of
printed_numbers_wrap = refl

-- #include <stdint.h>
-- const int32_t gain[] = {1, 2, 3, 4, 5, 6, 7, 8};
abbrev table : Subject
table = unit_of (codes "gain" ∷ [])
    (object_of (id 0) I32 true false (Some None) (Some ((lit I32 1) ∷ (lit I32 2) ∷ (lit I32 3) ∷ (lit I32 4) ∷ (lit I32 5) ∷ (lit I32 6) ∷ (lit I32 7) ∷ (lit I32 8) ∷ [])) true
    ∷ [])

-- extern const int32_t gain[8];
-- #pragma omp declare simd
-- int32_t scale(int32_t v, int32_t k) { return v * gain[k & 7]; }
-- #pragma omp declare simd uniform(lim)
-- int32_t clamp(int32_t v, int32_t lim) { if (v < -lim) return -lim; if (v > lim) return lim; return v; }
abbrev dsp : Subject
dsp = unit_of (codes "gain" ∷ codes "scale" ∷ codes "v" ∷ codes "k" ∷ codes "clamp" ∷ codes "lim" ∷ [])
    (object_of (id 0) I32 true true (Some (Some (lit I32 8))) None false
    ∷ function_of (id 1) true (Int I32) ((param (Some (id 2)) (Int I32)) ∷ (param (Some (id 3)) (Int I32)) ∷ []) (Some (block ((return_value (Some (two b.Mul (var (id 2)) (index (var (id 0)) (two b.And (var (id 3)) (lit I32 7)))))) ∷ [])))
    ∷ function_of (id 4) true (Int I32) ((param (Some (id 2)) (Int I32)) ∷ (param (Some (id 5)) (Int I32)) ∷ []) (Some (block ((if_only (two b.Lt (var (id 2)) (one u.Neg (var (id 5)))) (return_value (Some (one u.Neg (var (id 5)))))) ∷ (if_only (two b.Gt (var (id 2)) (var (id 5))) (return_value (Some (var (id 5))))) ∷ (return_value (Some (var (id 2)))) ∷ [])))
    ∷ [])

-- #pragma omp declare simd
-- int32_t scale(int32_t v, int32_t k);
-- #pragma omp declare simd uniform(lim)
-- int32_t clamp(int32_t v, int32_t lim);
-- int32_t x[12], y[12];
-- int main(void) { for (int i = 0; i < 12; i++) x[i] = i - 6;
-- #pragma omp simd
-- for (int i = 0; i < 12; i++) { int32_t v = x[i]; if (v & 1) v = scale(v, i); y[i] = clamp(v, 10); }
-- long sum = 0; for (int i = 0; i < 12; i++) sum += y[i];
-- print(sum); print(y[0]); print(y[1]); print(y[11]); return 0; }
abbrev main_of_dsp : Subject
main_of_dsp = unit_of (codes "scale" ∷ codes "v" ∷ codes "k" ∷ codes "clamp" ∷ codes "lim" ∷ codes "x" ∷ codes "y" ∷ codes "main" ∷ codes "i" ∷ codes "sum" ∷ codes "print" ∷ [])
    (function_of (id 0) true (Int I32) ((param (Some (id 1)) (Int I32)) ∷ (param (Some (id 2)) (Int I32)) ∷ []) None
    ∷ function_of (id 3) true (Int I32) ((param (Some (id 1)) (Int I32)) ∷ (param (Some (id 4)) (Int I32)) ∷ []) None
    ∷ object_of (id 5) I32 false false (Some (Some (lit I32 12))) None false
    ∷ object_of (id 6) I32 false false (Some (Some (lit I32 12))) None false
    ∷ function_of (id 7) false (Int I32) ([]) (Some (block ((for_loop (local I32 (id 8) (Some (lit I32 0))) (Some (two b.Lt (var (id 8)) (lit I32 12))) (assign (Some b.Add) (var (id 8)) (lit I32 1)) (assign None (index (var (id 5)) (var (id 8))) (two b.Sub (var (id 8)) (lit I32 6)))) ∷ (simd (for_loop (local I32 (id 8) (Some (lit I32 0))) (Some (two b.Lt (var (id 8)) (lit I32 12))) (assign (Some b.Add) (var (id 8)) (lit I32 1)) (block ((local I32 (id 1) (Some (index (var (id 5)) (var (id 8))))) ∷ (if_only (two b.And (var (id 1)) (lit I32 1)) (assign None (var (id 1)) (call (id 0) ((var (id 1)) ∷ (var (id 8)) ∷ [])))) ∷ (assign None (index (var (id 6)) (var (id 8))) (call (id 3) ((var (id 1)) ∷ (lit I32 10) ∷ []))) ∷ [])))) ∷ (local I64 (id 9) (Some (lit I32 0))) ∷ (for_loop (local I32 (id 8) (Some (lit I32 0))) (Some (two b.Lt (var (id 8)) (lit I32 12))) (assign (Some b.Add) (var (id 8)) (lit I32 1)) (assign (Some b.Add) (var (id 9)) (index (var (id 6)) (var (id 8))))) ∷ (value (call (id 10) ((var (id 9)) ∷ []))) ∷ (value (call (id 10) ((index (var (id 6)) (lit I32 0)) ∷ []))) ∷ (value (call (id 10) ((index (var (id 6)) (lit I32 1)) ∷ []))) ∷ (value (call (id 10) ((index (var (id 6)) (lit I32 11)) ∷ []))) ∷ (return_value (Some (lit I32 0))) ∷ [])))
    ∷ [])

scaled_and_clamped : told (reading (main_of_dsp ∷ dsp ∷ table ∷ []) 20) ≡ tells ((negsuc 7) ∷ (negsuc 5) ∷ (negsuc 9) ∷ (pos 10) ∷ []) (loop 1 12 true ∷ []) None
unfolding int_wrap from_bits first_declaration last_binding meaning_of with_params are_arguments choice_typing length_of constant_of
scaled_and_clamped = refl
