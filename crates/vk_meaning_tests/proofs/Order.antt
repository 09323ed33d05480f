-- The order of evaluation, scopes, and stops in every place.
use Rattle.std.specs.Prelude.{◌≡◌, false, [], ◌∷◌, codes, Some, None, pos, negsuc}
use Rattle.std.proofs.Common.{refl}
use Rattle.std.specs.Int.{int_wrap}
use Rattle.vk_types.specs.declared.types.Ty.TheVariants.{I32}
use Rattle.vk_types.specs.declared.types.Stop.TheVariants.{Divide, Bounds, Turns}
use Rattle.vk_types.specs.Operators.{from_bits}
use Rattle.vk_kinds.specs.declared.heads.CType.TheVariants.{Int}
use Rattle.vk_ast.specs.declared.expressions.BinOp.TheVariants as b
use Rattle.vk_numbers.specs.Constants.{constant_of}
use Rattle.vk_rules_book.specs.Rules.{Subject}
use Rattle.vk_rules_book.specs.Scopes.{first_declaration, last_binding, meaning_of, with_params}
use Rattle.vk_rules_book.specs.Typings.{are_arguments, choice_typing}
use Rattle.vk_rules_book.specs.Items.{length_of}
use Rattle.vk_meaning.specs.Meaning.{reading}
use Rattle.vk_meaning_tests.proofs.Forms.{addr, id, lit, var, index, deref, two, choice, call, block, local, assign, value, if_only, if_else, while_loop, do_loop, for_loop, return_value, param, function_of, object_of, unit_of, told, tells}

-- int t(int a) { print(a); return a; }
-- int a[4];
-- int main(void) {
-- a[t(0)] = t(1); a[t(2)] += t(3); print(t(4) - t(5)); 0 && t(6); 1 || t(7); t(8) ? t(9) : t(10); (t(1) + a)[t(2)];
-- *(t(3) + a) = t(4);
-- return 0; }
abbrev order : Subject
order = unit_of (codes "t" ∷ codes "a" ∷ codes "print" ∷ codes "main" ∷ [])
    (function_of (id 0) false (Int I32) ((param (Some (id 1)) (Int I32)) ∷ []) (Some (block ((value (call (id 2) ((var (id 1)) ∷ []))) ∷ (return_value (Some (var (id 1)))) ∷ [])))
    ∷ object_of (id 1) I32 false false (Some (Some (lit I32 4))) None false
    ∷ function_of (id 3) false (Int I32) ([]) (Some (block ((assign None (index (var (id 1)) (call (id 0) ((lit I32 0) ∷ []))) (call (id 0) ((lit I32 1) ∷ []))) ∷ (assign (Some b.Add) (index (var (id 1)) (call (id 0) ((lit I32 2) ∷ []))) (call (id 0) ((lit I32 3) ∷ []))) ∷ (value (call (id 2) ((two b.Sub (call (id 0) ((lit I32 4) ∷ [])) (call (id 0) ((lit I32 5) ∷ []))) ∷ []))) ∷ (value (two b.LogAnd (lit I32 0) (call (id 0) ((lit I32 6) ∷ [])))) ∷ (value (two b.LogOr (lit I32 1) (call (id 0) ((lit I32 7) ∷ [])))) ∷ (value (choice (call (id 0) ((lit I32 8) ∷ [])) (call (id 0) ((lit I32 9) ∷ [])) (call (id 0) ((lit I32 10) ∷ [])))) ∷ (value (index (two b.Add (call (id 0) ((lit I32 1) ∷ [])) (var (id 1))) (call (id 0) ((lit I32 2) ∷ [])))) ∷ (assign None (deref (two b.Add (call (id 0) ((lit I32 3) ∷ [])) (var (id 1)))) (call (id 0) ((lit I32 4) ∷ []))) ∷ (return_value (Some (lit I32 0))) ∷ [])))
    ∷ [])

left_first : told (reading (order ∷ []) 20) ≡ tells ((pos 0) ∷ (pos 1) ∷ (pos 2) ∷ (pos 3) ∷ (pos 4) ∷ (pos 5) ∷ (negsuc 0) ∷ (pos 8) ∷ (pos 9) ∷ (pos 1) ∷ (pos 2) ∷ (pos 3) ∷ (pos 4) ∷ []) ([]) None
unfolding int_wrap from_bits first_declaration last_binding meaning_of with_params are_arguments choice_typing length_of constant_of
left_first = refl

-- int x;
-- int main(void) { int y = y + 1; print(y); { int y = 5; print(y); int x = y; x = 7; } print(y); print(x); x = 2;
-- for (int x = 0, k = 3; x < 2; x++) { int k = k + x; print(k); } print(x);
-- if (x) { int x = 9; print(x); } while (x < 3) { int q; print(q); q = 4; x += 1; } print(x); return 0; }
abbrev scopes : Subject
scopes = unit_of (codes "x" ∷ codes "main" ∷ codes "y" ∷ codes "print" ∷ codes "k" ∷ codes "q" ∷ [])
    (object_of (id 0) I32 false false None None false
    ∷ function_of (id 1) false (Int I32) ([]) (Some (block ((local I32 (id 2) (Some (two b.Add (var (id 2)) (lit I32 1)))) ∷ (value (call (id 3) ((var (id 2)) ∷ []))) ∷ (block ((local I32 (id 2) (Some (lit I32 5))) ∷ (value (call (id 3) ((var (id 2)) ∷ []))) ∷ (local I32 (id 0) (Some (var (id 2)))) ∷ (assign None (var (id 0)) (lit I32 7)) ∷ [])) ∷ (value (call (id 3) ((var (id 2)) ∷ []))) ∷ (value (call (id 3) ((var (id 0)) ∷ []))) ∷ (assign None (var (id 0)) (lit I32 2)) ∷ (for_loop (block ((local I32 (id 0) (Some (lit I32 0))) ∷ (local I32 (id 4) (Some (lit I32 3))) ∷ [])) (Some (two b.Lt (var (id 0)) (lit I32 2))) (assign (Some b.Add) (var (id 0)) (lit I32 1)) (block ((local I32 (id 4) (Some (two b.Add (var (id 4)) (var (id 0))))) ∷ (value (call (id 3) ((var (id 4)) ∷ []))) ∷ []))) ∷ (value (call (id 3) ((var (id 0)) ∷ []))) ∷ (if_only (var (id 0)) (block ((local I32 (id 0) (Some (lit I32 9))) ∷ (value (call (id 3) ((var (id 0)) ∷ []))) ∷ []))) ∷ (while_loop (two b.Lt (var (id 0)) (lit I32 3)) (block ((local I32 (id 5) None) ∷ (value (call (id 3) ((var (id 5)) ∷ []))) ∷ (assign None (var (id 5)) (lit I32 4)) ∷ (assign (Some b.Add) (var (id 0)) (lit I32 1)) ∷ []))) ∷ (value (call (id 3) ((var (id 0)) ∷ []))) ∷ (return_value (Some (lit I32 0))) ∷ [])))
    ∷ [])

inner_names_hide : told (reading (scopes ∷ []) 20) ≡ tells ((pos 1) ∷ (pos 5) ∷ (pos 1) ∷ (pos 0) ∷ (pos 0) ∷ (pos 1) ∷ (pos 2) ∷ (pos 9) ∷ (pos 0) ∷ (pos 3) ∷ []) ([]) None
unfolding int_wrap from_bits first_declaration last_binding meaning_of with_params are_arguments choice_typing length_of constant_of
inner_names_hide = refl

-- int a[4]; int z;
-- int t(int k) { print(k); return k; }
-- int f(int x, int y, int w) { return 0; }
-- int down(int n) { if (n) return n / z; return 1; }
-- int main(void) { a[1 / z] = t(1); }
abbrev in_an_index : Subject
in_an_index = unit_of (codes "a" ∷ codes "z" ∷ codes "t" ∷ codes "k" ∷ codes "print" ∷ codes "f" ∷ codes "x" ∷ codes "y" ∷ codes "w" ∷ codes "down" ∷ codes "n" ∷ codes "main" ∷ [])
    (object_of (id 0) I32 false false (Some (Some (lit I32 4))) None false
    ∷ object_of (id 1) I32 false false None None false
    ∷ function_of (id 2) false (Int I32) ((param (Some (id 3)) (Int I32)) ∷ []) (Some (block ((value (call (id 4) ((var (id 3)) ∷ []))) ∷ (return_value (Some (var (id 3)))) ∷ [])))
    ∷ function_of (id 5) false (Int I32) ((param (Some (id 6)) (Int I32)) ∷ (param (Some (id 7)) (Int I32)) ∷ (param (Some (id 8)) (Int I32)) ∷ []) (Some (block ((return_value (Some (lit I32 0))) ∷ [])))
    ∷ function_of (id 9) false (Int I32) ((param (Some (id 10)) (Int I32)) ∷ []) (Some (block ((if_only (var (id 10)) (return_value (Some (two b.Div (var (id 10)) (var (id 1)))))) ∷ (return_value (Some (lit I32 1))) ∷ [])))
    ∷ function_of (id 11) false (Int I32) ([]) (Some (block ((assign None (index (var (id 0)) (two b.Div (lit I32 1) (var (id 1)))) (call (id 2) ((lit I32 1) ∷ []))) ∷ [])))
    ∷ [])

stops_in_an_index : told (reading (in_an_index ∷ []) 4) ≡ tells ([]) ([]) (Some Divide)
unfolding int_wrap from_bits first_declaration last_binding meaning_of with_params are_arguments choice_typing length_of constant_of
stops_in_an_index = refl

-- int a[4]; int z;
-- int t(int k) { print(k); return k; }
-- int f(int x, int y, int w) { return 0; }
-- int down(int n) { if (n) return n / z; return 1; }
-- int main(void) { a[4] = t(1); }
abbrev before_a_store : Subject
before_a_store = unit_of (codes "a" ∷ codes "z" ∷ codes "t" ∷ codes "k" ∷ codes "print" ∷ codes "f" ∷ codes "x" ∷ codes "y" ∷ codes "w" ∷ codes "down" ∷ codes "n" ∷ codes "main" ∷ [])
    (object_of (id 0) I32 false false (Some (Some (lit I32 4))) None false
    ∷ object_of (id 1) I32 false false None None false
    ∷ function_of (id 2) false (Int I32) ((param (Some (id 3)) (Int I32)) ∷ []) (Some (block ((value (call (id 4) ((var (id 3)) ∷ []))) ∷ (return_value (Some (var (id 3)))) ∷ [])))
    ∷ function_of (id 5) false (Int I32) ((param (Some (id 6)) (Int I32)) ∷ (param (Some (id 7)) (Int I32)) ∷ (param (Some (id 8)) (Int I32)) ∷ []) (Some (block ((return_value (Some (lit I32 0))) ∷ [])))
    ∷ function_of (id 9) false (Int I32) ((param (Some (id 10)) (Int I32)) ∷ []) (Some (block ((if_only (var (id 10)) (return_value (Some (two b.Div (var (id 10)) (var (id 1)))))) ∷ (return_value (Some (lit I32 1))) ∷ [])))
    ∷ function_of (id 11) false (Int I32) ([]) (Some (block ((assign None (index (var (id 0)) (lit I32 4)) (call (id 2) ((lit I32 1) ∷ []))) ∷ [])))
    ∷ [])

stops_before_a_store : told (reading (before_a_store ∷ []) 4) ≡ tells ((pos 1) ∷ []) ([]) (Some Bounds)
unfolding int_wrap from_bits first_declaration last_binding meaning_of with_params are_arguments choice_typing length_of constant_of
stops_before_a_store = refl

-- int a[4]; int z;
-- int t(int k) { print(k); return k; }
-- int f(int x, int y, int w) { return 0; }
-- int down(int n) { if (n) return n / z; return 1; }
-- int main(void) { a[4] += t(1); }
abbrev at_a_load : Subject
at_a_load = unit_of (codes "a" ∷ codes "z" ∷ codes "t" ∷ codes "k" ∷ codes "print" ∷ codes "f" ∷ codes "x" ∷ codes "y" ∷ codes "w" ∷ codes "down" ∷ codes "n" ∷ codes "main" ∷ [])
    (object_of (id 0) I32 false false (Some (Some (lit I32 4))) None false
    ∷ object_of (id 1) I32 false false None None false
    ∷ function_of (id 2) false (Int I32) ((param (Some (id 3)) (Int I32)) ∷ []) (Some (block ((value (call (id 4) ((var (id 3)) ∷ []))) ∷ (return_value (Some (var (id 3)))) ∷ [])))
    ∷ function_of (id 5) false (Int I32) ((param (Some (id 6)) (Int I32)) ∷ (param (Some (id 7)) (Int I32)) ∷ (param (Some (id 8)) (Int I32)) ∷ []) (Some (block ((return_value (Some (lit I32 0))) ∷ [])))
    ∷ function_of (id 9) false (Int I32) ((param (Some (id 10)) (Int I32)) ∷ []) (Some (block ((if_only (var (id 10)) (return_value (Some (two b.Div (var (id 10)) (var (id 1)))))) ∷ (return_value (Some (lit I32 1))) ∷ [])))
    ∷ function_of (id 11) false (Int I32) ([]) (Some (block ((assign (Some b.Add) (index (var (id 0)) (lit I32 4)) (call (id 2) ((lit I32 1) ∷ []))) ∷ [])))
    ∷ [])

stops_at_a_load : told (reading (at_a_load ∷ []) 4) ≡ tells ([]) ([]) (Some Bounds)
unfolding int_wrap from_bits first_declaration last_binding meaning_of with_params are_arguments choice_typing length_of constant_of
stops_at_a_load = refl

-- int a[4]; int z;
-- int t(int k) { print(k); return k; }
-- int f(int x, int y, int w) { return 0; }
-- int down(int n) { if (n) return n / z; return 1; }
-- int main(void) { *(a + 2147483647 + t(1)) = t(2); }
abbrev in_a_pointer : Subject
in_a_pointer = unit_of (codes "a" ∷ codes "z" ∷ codes "t" ∷ codes "k" ∷ codes "print" ∷ codes "f" ∷ codes "x" ∷ codes "y" ∷ codes "w" ∷ codes "down" ∷ codes "n" ∷ codes "main" ∷ [])
    (object_of (id 0) I32 false false (Some (Some (lit I32 4))) None false
    ∷ object_of (id 1) I32 false false None None false
    ∷ function_of (id 2) false (Int I32) ((param (Some (id 3)) (Int I32)) ∷ []) (Some (block ((value (call (id 4) ((var (id 3)) ∷ []))) ∷ (return_value (Some (var (id 3)))) ∷ [])))
    ∷ function_of (id 5) false (Int I32) ((param (Some (id 6)) (Int I32)) ∷ (param (Some (id 7)) (Int I32)) ∷ (param (Some (id 8)) (Int I32)) ∷ []) (Some (block ((return_value (Some (lit I32 0))) ∷ [])))
    ∷ function_of (id 9) false (Int I32) ((param (Some (id 10)) (Int I32)) ∷ []) (Some (block ((if_only (var (id 10)) (return_value (Some (two b.Div (var (id 10)) (var (id 1)))))) ∷ (return_value (Some (lit I32 1))) ∷ [])))
    ∷ function_of (id 11) false (Int I32) ([]) (Some (block ((assign None (deref (two b.Add (two b.Add (var (id 0)) (lit I32 2147483647)) (call (id 2) ((lit I32 1) ∷ [])))) (call (id 2) ((lit I32 2) ∷ []))) ∷ [])))
    ∷ [])

stops_in_a_pointer : told (reading (in_a_pointer ∷ []) 4) ≡ tells ((pos 1) ∷ []) ([]) (Some Bounds)
unfolding int_wrap from_bits first_declaration last_binding meaning_of with_params are_arguments choice_typing length_of constant_of
stops_in_a_pointer = refl

-- int a[4]; int z;
-- int t(int k) { print(k); return k; }
-- int f(int x, int y, int w) { return 0; }
-- int down(int n) { if (n) return n / z; return 1; }
-- int main(void) { print(a[t(0) - 1]); }
abbrev below_an_array : Subject
below_an_array = unit_of (codes "a" ∷ codes "z" ∷ codes "t" ∷ codes "k" ∷ codes "print" ∷ codes "f" ∷ codes "x" ∷ codes "y" ∷ codes "w" ∷ codes "down" ∷ codes "n" ∷ codes "main" ∷ [])
    (object_of (id 0) I32 false false (Some (Some (lit I32 4))) None false
    ∷ object_of (id 1) I32 false false None None false
    ∷ function_of (id 2) false (Int I32) ((param (Some (id 3)) (Int I32)) ∷ []) (Some (block ((value (call (id 4) ((var (id 3)) ∷ []))) ∷ (return_value (Some (var (id 3)))) ∷ [])))
    ∷ function_of (id 5) false (Int I32) ((param (Some (id 6)) (Int I32)) ∷ (param (Some (id 7)) (Int I32)) ∷ (param (Some (id 8)) (Int I32)) ∷ []) (Some (block ((return_value (Some (lit I32 0))) ∷ [])))
    ∷ function_of (id 9) false (Int I32) ((param (Some (id 10)) (Int I32)) ∷ []) (Some (block ((if_only (var (id 10)) (return_value (Some (two b.Div (var (id 10)) (var (id 1)))))) ∷ (return_value (Some (lit I32 1))) ∷ [])))
    ∷ function_of (id 11) false (Int I32) ([]) (Some (block ((value (call (id 4) ((index (var (id 0)) (two b.Sub (call (id 2) ((lit I32 0) ∷ [])) (lit I32 1))) ∷ []))) ∷ [])))
    ∷ [])

stops_below_an_array : told (reading (below_an_array ∷ []) 4) ≡ tells ((pos 0) ∷ []) ([]) (Some Bounds)
unfolding int_wrap from_bits first_declaration last_binding meaning_of with_params are_arguments choice_typing length_of constant_of
stops_below_an_array = refl

-- int a[4]; int z;
-- int t(int k) { print(k); return k; }
-- int f(int x, int y, int w) { return 0; }
-- int down(int n) { if (n) return n / z; return 1; }
-- int main(void) { print(t(1) + 1 / z + t(2)); }
abbrev in_an_operand : Subject
in_an_operand = unit_of (codes "a" ∷ codes "z" ∷ codes "t" ∷ codes "k" ∷ codes "print" ∷ codes "f" ∷ codes "x" ∷ codes "y" ∷ codes "w" ∷ codes "down" ∷ codes "n" ∷ codes "main" ∷ [])
    (object_of (id 0) I32 false false (Some (Some (lit I32 4))) None false
    ∷ object_of (id 1) I32 false false None None false
    ∷ function_of (id 2) false (Int I32) ((param (Some (id 3)) (Int I32)) ∷ []) (Some (block ((value (call (id 4) ((var (id 3)) ∷ []))) ∷ (return_value (Some (var (id 3)))) ∷ [])))
    ∷ function_of (id 5) false (Int I32) ((param (Some (id 6)) (Int I32)) ∷ (param (Some (id 7)) (Int I32)) ∷ (param (Some (id 8)) (Int I32)) ∷ []) (Some (block ((return_value (Some (lit I32 0))) ∷ [])))
    ∷ function_of (id 9) false (Int I32) ((param (Some (id 10)) (Int I32)) ∷ []) (Some (block ((if_only (var (id 10)) (return_value (Some (two b.Div (var (id 10)) (var (id 1)))))) ∷ (return_value (Some (lit I32 1))) ∷ [])))
    ∷ function_of (id 11) false (Int I32) ([]) (Some (block ((value (call (id 4) ((two b.Add (two b.Add (call (id 2) ((lit I32 1) ∷ [])) (two b.Div (lit I32 1) (var (id 1)))) (call (id 2) ((lit I32 2) ∷ []))) ∷ []))) ∷ [])))
    ∷ [])

stops_in_an_operand : told (reading (in_an_operand ∷ []) 4) ≡ tells ((pos 1) ∷ []) ([]) (Some Divide)
unfolding int_wrap from_bits first_declaration last_binding meaning_of with_params are_arguments choice_typing length_of constant_of
stops_in_an_operand = refl

-- int a[4]; int z;
-- int t(int k) { print(k); return k; }
-- int f(int x, int y, int w) { return 0; }
-- int down(int n) { if (n) return n / z; return 1; }
-- int main(void) { f(t(1), 1 / z, t(2)); }
abbrev in_an_argument : Subject
in_an_argument = unit_of (codes "a" ∷ codes "z" ∷ codes "t" ∷ codes "k" ∷ codes "print" ∷ codes "f" ∷ codes "x" ∷ codes "y" ∷ codes "w" ∷ codes "down" ∷ codes "n" ∷ codes "main" ∷ [])
    (object_of (id 0) I32 false false (Some (Some (lit I32 4))) None false
    ∷ object_of (id 1) I32 false false None None false
    ∷ function_of (id 2) false (Int I32) ((param (Some (id 3)) (Int I32)) ∷ []) (Some (block ((value (call (id 4) ((var (id 3)) ∷ []))) ∷ (return_value (Some (var (id 3)))) ∷ [])))
    ∷ function_of (id 5) false (Int I32) ((param (Some (id 6)) (Int I32)) ∷ (param (Some (id 7)) (Int I32)) ∷ (param (Some (id 8)) (Int I32)) ∷ []) (Some (block ((return_value (Some (lit I32 0))) ∷ [])))
    ∷ function_of (id 9) false (Int I32) ((param (Some (id 10)) (Int I32)) ∷ []) (Some (block ((if_only (var (id 10)) (return_value (Some (two b.Div (var (id 10)) (var (id 1)))))) ∷ (return_value (Some (lit I32 1))) ∷ [])))
    ∷ function_of (id 11) false (Int I32) ([]) (Some (block ((value (call (id 5) ((call (id 2) ((lit I32 1) ∷ [])) ∷ (two b.Div (lit I32 1) (var (id 1))) ∷ (call (id 2) ((lit I32 2) ∷ [])) ∷ []))) ∷ [])))
    ∷ [])

stops_in_an_argument : told (reading (in_an_argument ∷ []) 4) ≡ tells ((pos 1) ∷ []) ([]) (Some Divide)
unfolding int_wrap from_bits first_declaration last_binding meaning_of with_params are_arguments choice_typing length_of constant_of
stops_in_an_argument = refl

-- int a[4]; int z;
-- int t(int k) { print(k); return k; }
-- int f(int x, int y, int w) { return 0; }
-- int down(int n) { if (n) return n / z; return 1; }
-- int main(void) { if (1 / z) t(1); else t(2); }
abbrev in_a_condition : Subject
in_a_condition = unit_of (codes "a" ∷ codes "z" ∷ codes "t" ∷ codes "k" ∷ codes "print" ∷ codes "f" ∷ codes "x" ∷ codes "y" ∷ codes "w" ∷ codes "down" ∷ codes "n" ∷ codes "main" ∷ [])
    (object_of (id 0) I32 false false (Some (Some (lit I32 4))) None false
    ∷ object_of (id 1) I32 false false None None false
    ∷ function_of (id 2) false (Int I32) ((param (Some (id 3)) (Int I32)) ∷ []) (Some (block ((value (call (id 4) ((var (id 3)) ∷ []))) ∷ (return_value (Some (var (id 3)))) ∷ [])))
    ∷ function_of (id 5) false (Int I32) ((param (Some (id 6)) (Int I32)) ∷ (param (Some (id 7)) (Int I32)) ∷ (param (Some (id 8)) (Int I32)) ∷ []) (Some (block ((return_value (Some (lit I32 0))) ∷ [])))
    ∷ function_of (id 9) false (Int I32) ((param (Some (id 10)) (Int I32)) ∷ []) (Some (block ((if_only (var (id 10)) (return_value (Some (two b.Div (var (id 10)) (var (id 1)))))) ∷ (return_value (Some (lit I32 1))) ∷ [])))
    ∷ function_of (id 11) false (Int I32) ([]) (Some (block ((if_else (two b.Div (lit I32 1) (var (id 1))) (value (call (id 2) ((lit I32 1) ∷ []))) (value (call (id 2) ((lit I32 2) ∷ [])))) ∷ [])))
    ∷ [])

stops_in_a_condition : told (reading (in_a_condition ∷ []) 4) ≡ tells ([]) ([]) (Some Divide)
unfolding int_wrap from_bits first_declaration last_binding meaning_of with_params are_arguments choice_typing length_of constant_of
stops_in_a_condition = refl

-- int a[4]; int z;
-- int t(int k) { print(k); return k; }
-- int f(int x, int y, int w) { return 0; }
-- int down(int n) { if (n) return n / z; return 1; }
-- int main(void) { for (int i = 0; i < 3 / (1 - i); i++) t(i); }
abbrev in_a_loop_test : Subject
in_a_loop_test = unit_of (codes "a" ∷ codes "z" ∷ codes "t" ∷ codes "k" ∷ codes "print" ∷ codes "f" ∷ codes "x" ∷ codes "y" ∷ codes "w" ∷ codes "down" ∷ codes "n" ∷ codes "main" ∷ codes "i" ∷ [])
    (object_of (id 0) I32 false false (Some (Some (lit I32 4))) None false
    ∷ object_of (id 1) I32 false false None None false
    ∷ function_of (id 2) false (Int I32) ((param (Some (id 3)) (Int I32)) ∷ []) (Some (block ((value (call (id 4) ((var (id 3)) ∷ []))) ∷ (return_value (Some (var (id 3)))) ∷ [])))
    ∷ function_of (id 5) false (Int I32) ((param (Some (id 6)) (Int I32)) ∷ (param (Some (id 7)) (Int I32)) ∷ (param (Some (id 8)) (Int I32)) ∷ []) (Some (block ((return_value (Some (lit I32 0))) ∷ [])))
    ∷ function_of (id 9) false (Int I32) ((param (Some (id 10)) (Int I32)) ∷ []) (Some (block ((if_only (var (id 10)) (return_value (Some (two b.Div (var (id 10)) (var (id 1)))))) ∷ (return_value (Some (lit I32 1))) ∷ [])))
    ∷ function_of (id 11) false (Int I32) ([]) (Some (block ((for_loop (local I32 (id 12) (Some (lit I32 0))) (Some (two b.Lt (var (id 12)) (two b.Div (lit I32 3) (two b.Sub (lit I32 1) (var (id 12)))))) (assign (Some b.Add) (var (id 12)) (lit I32 1)) (value (call (id 2) ((var (id 12)) ∷ [])))) ∷ [])))
    ∷ [])

stops_in_a_loop_test : told (reading (in_a_loop_test ∷ []) 4) ≡ tells ((pos 0) ∷ []) ([]) (Some Divide)
unfolding int_wrap from_bits first_declaration last_binding meaning_of with_params are_arguments choice_typing length_of constant_of
stops_in_a_loop_test = refl

-- int a[4]; int z;
-- int t(int k) { print(k); return k; }
-- int f(int x, int y, int w) { return 0; }
-- int down(int n) { if (n) return n / z; return 1; }
-- int main(void) { for (int i = 0; i < 3; i += 1 / z) t(i); }
abbrev in_a_third_part : Subject
in_a_third_part = unit_of (codes "a" ∷ codes "z" ∷ codes "t" ∷ codes "k" ∷ codes "print" ∷ codes "f" ∷ codes "x" ∷ codes "y" ∷ codes "w" ∷ codes "down" ∷ codes "n" ∷ codes "main" ∷ codes "i" ∷ [])
    (object_of (id 0) I32 false false (Some (Some (lit I32 4))) None false
    ∷ object_of (id 1) I32 false false None None false
    ∷ function_of (id 2) false (Int I32) ((param (Some (id 3)) (Int I32)) ∷ []) (Some (block ((value (call (id 4) ((var (id 3)) ∷ []))) ∷ (return_value (Some (var (id 3)))) ∷ [])))
    ∷ function_of (id 5) false (Int I32) ((param (Some (id 6)) (Int I32)) ∷ (param (Some (id 7)) (Int I32)) ∷ (param (Some (id 8)) (Int I32)) ∷ []) (Some (block ((return_value (Some (lit I32 0))) ∷ [])))
    ∷ function_of (id 9) false (Int I32) ((param (Some (id 10)) (Int I32)) ∷ []) (Some (block ((if_only (var (id 10)) (return_value (Some (two b.Div (var (id 10)) (var (id 1)))))) ∷ (return_value (Some (lit I32 1))) ∷ [])))
    ∷ function_of (id 11) false (Int I32) ([]) (Some (block ((for_loop (local I32 (id 12) (Some (lit I32 0))) (Some (two b.Lt (var (id 12)) (lit I32 3))) (assign (Some b.Add) (var (id 12)) (two b.Div (lit I32 1) (var (id 1)))) (value (call (id 2) ((var (id 12)) ∷ [])))) ∷ [])))
    ∷ [])

stops_in_a_third_part : told (reading (in_a_third_part ∷ []) 4) ≡ tells ((pos 0) ∷ []) ([]) (Some Divide)
unfolding int_wrap from_bits first_declaration last_binding meaning_of with_params are_arguments choice_typing length_of constant_of
stops_in_a_third_part = refl

-- int a[4]; int z;
-- int t(int k) { print(k); return k; }
-- int f(int x, int y, int w) { return 0; }
-- int down(int n) { if (n) return n / z; return 1; }
-- int main(void) { for (int i = 0; i < 3; i++) t(2 / (1 - i)); }
abbrev in_a_body : Subject
in_a_body = unit_of (codes "a" ∷ codes "z" ∷ codes "t" ∷ codes "k" ∷ codes "print" ∷ codes "f" ∷ codes "x" ∷ codes "y" ∷ codes "w" ∷ codes "down" ∷ codes "n" ∷ codes "main" ∷ codes "i" ∷ [])
    (object_of (id 0) I32 false false (Some (Some (lit I32 4))) None false
    ∷ object_of (id 1) I32 false false None None false
    ∷ function_of (id 2) false (Int I32) ((param (Some (id 3)) (Int I32)) ∷ []) (Some (block ((value (call (id 4) ((var (id 3)) ∷ []))) ∷ (return_value (Some (var (id 3)))) ∷ [])))
    ∷ function_of (id 5) false (Int I32) ((param (Some (id 6)) (Int I32)) ∷ (param (Some (id 7)) (Int I32)) ∷ (param (Some (id 8)) (Int I32)) ∷ []) (Some (block ((return_value (Some (lit I32 0))) ∷ [])))
    ∷ function_of (id 9) false (Int I32) ((param (Some (id 10)) (Int I32)) ∷ []) (Some (block ((if_only (var (id 10)) (return_value (Some (two b.Div (var (id 10)) (var (id 1)))))) ∷ (return_value (Some (lit I32 1))) ∷ [])))
    ∷ function_of (id 11) false (Int I32) ([]) (Some (block ((for_loop (local I32 (id 12) (Some (lit I32 0))) (Some (two b.Lt (var (id 12)) (lit I32 3))) (assign (Some b.Add) (var (id 12)) (lit I32 1)) (value (call (id 2) ((two b.Div (lit I32 2) (two b.Sub (lit I32 1) (var (id 12)))) ∷ [])))) ∷ [])))
    ∷ [])

stops_in_a_body : told (reading (in_a_body ∷ []) 4) ≡ tells ((pos 2) ∷ []) ([]) (Some Divide)
unfolding int_wrap from_bits first_declaration last_binding meaning_of with_params are_arguments choice_typing length_of constant_of
stops_in_a_body = refl

-- int a[4]; int z;
-- int t(int k) { print(k); return k; }
-- int f(int x, int y, int w) { return 0; }
-- int down(int n) { if (n) return n / z; return 1; }
-- int main(void) { t(1); down(1); t(2); }
abbrev in_a_call : Subject
in_a_call = unit_of (codes "a" ∷ codes "z" ∷ codes "t" ∷ codes "k" ∷ codes "print" ∷ codes "f" ∷ codes "x" ∷ codes "y" ∷ codes "w" ∷ codes "down" ∷ codes "n" ∷ codes "main" ∷ [])
    (object_of (id 0) I32 false false (Some (Some (lit I32 4))) None false
    ∷ object_of (id 1) I32 false false None None false
    ∷ function_of (id 2) false (Int I32) ((param (Some (id 3)) (Int I32)) ∷ []) (Some (block ((value (call (id 4) ((var (id 3)) ∷ []))) ∷ (return_value (Some (var (id 3)))) ∷ [])))
    ∷ function_of (id 5) false (Int I32) ((param (Some (id 6)) (Int I32)) ∷ (param (Some (id 7)) (Int I32)) ∷ (param (Some (id 8)) (Int I32)) ∷ []) (Some (block ((return_value (Some (lit I32 0))) ∷ [])))
    ∷ function_of (id 9) false (Int I32) ((param (Some (id 10)) (Int I32)) ∷ []) (Some (block ((if_only (var (id 10)) (return_value (Some (two b.Div (var (id 10)) (var (id 1)))))) ∷ (return_value (Some (lit I32 1))) ∷ [])))
    ∷ function_of (id 11) false (Int I32) ([]) (Some (block ((value (call (id 2) ((lit I32 1) ∷ []))) ∷ (value (call (id 9) ((lit I32 1) ∷ []))) ∷ (value (call (id 2) ((lit I32 2) ∷ []))) ∷ [])))
    ∷ [])

stops_in_a_call : told (reading (in_a_call ∷ []) 4) ≡ tells ((pos 1) ∷ []) ([]) (Some Divide)
unfolding int_wrap from_bits first_declaration last_binding meaning_of with_params are_arguments choice_typing length_of constant_of
stops_in_a_call = refl

-- int a[4]; int z;
-- int t(int k) { print(k); return k; }
-- int f(int x, int y, int w) { return 0; }
-- int down(int n) { if (n) return n / z; return 1; }
-- int main(void) { do t(1); while (1); }
abbrev in_turns : Subject
in_turns = unit_of (codes "a" ∷ codes "z" ∷ codes "t" ∷ codes "k" ∷ codes "print" ∷ codes "f" ∷ codes "x" ∷ codes "y" ∷ codes "w" ∷ codes "down" ∷ codes "n" ∷ codes "main" ∷ [])
    (object_of (id 0) I32 false false (Some (Some (lit I32 4))) None false
    ∷ object_of (id 1) I32 false false None None false
    ∷ function_of (id 2) false (Int I32) ((param (Some (id 3)) (Int I32)) ∷ []) (Some (block ((value (call (id 4) ((var (id 3)) ∷ []))) ∷ (return_value (Some (var (id 3)))) ∷ [])))
    ∷ function_of (id 5) false (Int I32) ((param (Some (id 6)) (Int I32)) ∷ (param (Some (id 7)) (Int I32)) ∷ (param (Some (id 8)) (Int I32)) ∷ []) (Some (block ((return_value (Some (lit I32 0))) ∷ [])))
    ∷ function_of (id 9) false (Int I32) ((param (Some (id 10)) (Int I32)) ∷ []) (Some (block ((if_only (var (id 10)) (return_value (Some (two b.Div (var (id 10)) (var (id 1)))))) ∷ (return_value (Some (lit I32 1))) ∷ [])))
    ∷ function_of (id 11) false (Int I32) ([]) (Some (block ((do_loop (value (call (id 2) ((lit I32 1) ∷ []))) (lit I32 1)) ∷ [])))
    ∷ [])

stops_in_turns : told (reading (in_turns ∷ []) 4) ≡ tells ((pos 1) ∷ (pos 1) ∷ (pos 1) ∷ (pos 1) ∷ []) ([]) (Some Turns)
unfolding int_wrap from_bits first_declaration last_binding meaning_of with_params are_arguments choice_typing length_of constant_of
stops_in_turns = refl

-- int a[4]; int z;
-- int t(int k) { print(k); return k; }
-- int f(int x, int y, int w) { return 0; }
-- int down(int n) { if (n) return n / z; return 1; }
-- int main(void) { if (down(0)) t(3); return 5 / z; }
abbrev in_a_return : Subject
in_a_return = unit_of (codes "a" ∷ codes "z" ∷ codes "t" ∷ codes "k" ∷ codes "print" ∷ codes "f" ∷ codes "x" ∷ codes "y" ∷ codes "w" ∷ codes "down" ∷ codes "n" ∷ codes "main" ∷ [])
    (object_of (id 0) I32 false false (Some (Some (lit I32 4))) None false
    ∷ object_of (id 1) I32 false false None None false
    ∷ function_of (id 2) false (Int I32) ((param (Some (id 3)) (Int I32)) ∷ []) (Some (block ((value (call (id 4) ((var (id 3)) ∷ []))) ∷ (return_value (Some (var (id 3)))) ∷ [])))
    ∷ function_of (id 5) false (Int I32) ((param (Some (id 6)) (Int I32)) ∷ (param (Some (id 7)) (Int I32)) ∷ (param (Some (id 8)) (Int I32)) ∷ []) (Some (block ((return_value (Some (lit I32 0))) ∷ [])))
    ∷ function_of (id 9) false (Int I32) ((param (Some (id 10)) (Int I32)) ∷ []) (Some (block ((if_only (var (id 10)) (return_value (Some (two b.Div (var (id 10)) (var (id 1)))))) ∷ (return_value (Some (lit I32 1))) ∷ [])))
    ∷ function_of (id 11) false (Int I32) ([]) (Some (block ((if_only (call (id 9) ((lit I32 0) ∷ [])) (value (call (id 2) ((lit I32 3) ∷ [])))) ∷ (return_value (Some (two b.Div (lit I32 5) (var (id 1))))) ∷ [])))
    ∷ [])

stops_in_a_return : told (reading (in_a_return ∷ []) 4) ≡ tells ((pos 3) ∷ []) ([]) (Some Divide)
unfolding int_wrap from_bits first_declaration last_binding meaning_of with_params are_arguments choice_typing length_of constant_of
stops_in_a_return = refl

-- int a[4]; int z;
-- int t(int k) { print(k); return k; }
-- int f(int x, int y, int w) { return 0; }
-- int down(int n) { if (n) return n / z; return 1; }
-- int main(void) { int k = 1 / z; t(k); }
abbrev in_an_initialiser : Subject
in_an_initialiser = unit_of (codes "a" ∷ codes "z" ∷ codes "t" ∷ codes "k" ∷ codes "print" ∷ codes "f" ∷ codes "x" ∷ codes "y" ∷ codes "w" ∷ codes "down" ∷ codes "n" ∷ codes "main" ∷ [])
    (object_of (id 0) I32 false false (Some (Some (lit I32 4))) None false
    ∷ object_of (id 1) I32 false false None None false
    ∷ function_of (id 2) false (Int I32) ((param (Some (id 3)) (Int I32)) ∷ []) (Some (block ((value (call (id 4) ((var (id 3)) ∷ []))) ∷ (return_value (Some (var (id 3)))) ∷ [])))
    ∷ function_of (id 5) false (Int I32) ((param (Some (id 6)) (Int I32)) ∷ (param (Some (id 7)) (Int I32)) ∷ (param (Some (id 8)) (Int I32)) ∷ []) (Some (block ((return_value (Some (lit I32 0))) ∷ [])))
    ∷ function_of (id 9) false (Int I32) ((param (Some (id 10)) (Int I32)) ∷ []) (Some (block ((if_only (var (id 10)) (return_value (Some (two b.Div (var (id 10)) (var (id 1)))))) ∷ (return_value (Some (lit I32 1))) ∷ [])))
    ∷ function_of (id 11) false (Int I32) ([]) (Some (block ((local I32 (id 3) (Some (two b.Div (lit I32 1) (var (id 1))))) ∷ (value (call (id 2) ((var (id 3)) ∷ []))) ∷ [])))
    ∷ [])

stops_in_an_initialiser : told (reading (in_an_initialiser ∷ []) 4) ≡ tells ([]) ([]) (Some Divide)
unfolding int_wrap from_bits first_declaration last_binding meaning_of with_params are_arguments choice_typing length_of constant_of
stops_in_an_initialiser = refl

-- int t(int a) { print(a); return a; }
-- int a[4];
-- int main(void) { *(t(1) + &a[t(2)]) = t(3); print(a[3]); return 0; }
abbrev pointer_first : Subject
pointer_first = unit_of (codes "t" ∷ codes "a" ∷ codes "print" ∷ codes "main" ∷ [])
    (function_of (id 0) false (Int I32) ((param (Some (id 1)) (Int I32)) ∷ []) (Some (block ((value (call (id 2) ((var (id 1)) ∷ []))) ∷ (return_value (Some (var (id 1)))) ∷ [])))
    ∷ object_of (id 1) I32 false false (Some (Some (lit I32 4))) None false
    ∷ function_of (id 3) false (Int I32) ([]) (Some (block ((assign None (deref (two b.Add (call (id 0) ((lit I32 1) ∷ [])) (addr (index (var (id 1)) (call (id 0) ((lit I32 2) ∷ [])))))) (call (id 0) ((lit I32 3) ∷ []))) ∷ (value (call (id 2) ((index (var (id 1)) (lit I32 3)) ∷ []))) ∷ (return_value (Some (lit I32 0))) ∷ [])))
    ∷ [])

the_pointer_of_a_sum_first : told (reading (pointer_first ∷ []) 20) ≡ tells ((pos 2) ∷ (pos 1) ∷ (pos 3) ∷ (pos 3) ∷ []) [] None
unfolding int_wrap from_bits first_declaration last_binding meaning_of with_params are_arguments choice_typing length_of constant_of
the_pointer_of_a_sum_first = refl
