-- Functions on numbers: branches, loops, early returns, stops.
use Rattle.std.specs.Prelude.{◌≡◌, false, [], ◌∷◌, map, codes, Some, None, pos, negsuc, Ok, Err}
use Rattle.std.proofs.Common.{refl}
use Rattle.std.specs.Int.{int_wrap}
use Rattle.vk_types.specs.declared.types.Ty.TheVariants.{I32}
use Rattle.vk_types.specs.declared.types.Stop.TheVariants.{Divide, Turns}
use Rattle.vk_types.specs.Operators.{from_bits}
use Rattle.vk_kinds.specs.declared.heads.CType.TheVariants.{Void, Int}
use Rattle.vk_ast.specs.declared.expressions.UnOp.TheVariants as u
use Rattle.vk_ast.specs.declared.expressions.BinOp.TheVariants as b
use Rattle.vk_numbers.specs.Constants.{constant_of}
use Rattle.vk_rules_book.specs.Rules.{Subject}
use Rattle.vk_rules_book.specs.Scopes.{first_declaration, last_binding, meaning_of, with_params}
use Rattle.vk_rules_book.specs.Typings.{are_arguments, choice_typing}
use Rattle.vk_rules_book.specs.Items.{length_of}
use Rattle.vk_meaning.specs.Data.{number, nothing}
use Rattle.vk_meaning.specs.Meaning.{means}
use Rattle.vk_meaning_tests.proofs.Forms.{id, lit, var, one, two, call, empty, block, local, assign, if_only, if_else, while_loop, do_loop, for_loop, break_loop, continue_loop, return_value, param, function_of, unit_of, end_of, zeros}

-- int q(int a, int b) { if (b) return a / b; return -1; }
abbrev quotient : Subject
quotient = unit_of (codes "q" ∷ codes "a" ∷ codes "b" ∷ [])
    (function_of (id 0) false (Int I32) ((param (Some (id 1)) (Int I32)) ∷ (param (Some (id 2)) (Int I32)) ∷ []) (Some (block ((if_only (var (id 2)) (return_value (Some (two b.Div (var (id 1)) (var (id 2)))))) ∷ (return_value (Some (one u.Neg (lit I32 1)))) ∷ [])))
    ∷ [])

quotients : map (λ ds. end_of (means (quotient ∷ []) 20 (codes "q") ds zeros))
    ((number (pos 7) ∷ number (pos 2) ∷ []) ∷ (number (pos 8) ∷ number (pos 0) ∷ []) ∷ (number (pos 9) ∷ number (pos 3) ∷ []) ∷ (number (pos 10) ∷ number (pos 0) ∷ []) ∷ [])
    ≡ Ok (number (pos 3)) ∷ Ok (number (negsuc 0)) ∷ Ok (number (pos 3)) ∷ Ok (number (negsuc 0)) ∷ []
unfolding int_wrap from_bits first_declaration last_binding meaning_of with_params are_arguments choice_typing length_of constant_of
quotients = refl

-- int q(int a, int b) { return a / b; }
abbrev division : Subject
division = unit_of (codes "q" ∷ codes "a" ∷ codes "b" ∷ [])
    (function_of (id 0) false (Int I32) ((param (Some (id 1)) (Int I32)) ∷ (param (Some (id 2)) (Int I32)) ∷ []) (Some (block ((return_value (Some (two b.Div (var (id 1)) (var (id 2))))) ∷ [])))
    ∷ [])

divisions : map (λ ds. end_of (means (division ∷ []) 20 (codes "q") ds zeros))
    ((number (pos 7) ∷ number (pos 2) ∷ []) ∷ (number (pos 8) ∷ number (pos 0) ∷ []) ∷ (number (pos 9) ∷ number (pos 3) ∷ []) ∷ (number (pos 10) ∷ number (pos 5) ∷ []) ∷ [])
    ≡ Ok (number (pos 3)) ∷ Err Divide ∷ Ok (number (pos 3)) ∷ Ok (number (pos 2)) ∷ []
unfolding int_wrap from_bits first_declaration last_binding meaning_of with_params are_arguments choice_typing length_of constant_of
divisions = refl

-- int steps(int n) { int k = 0; while (n != 1) { if (n % 2) n = 3 * n + 1; else n = n / 2; k++; } return k; }
abbrev collatz : Subject
collatz = unit_of (codes "steps" ∷ codes "n" ∷ codes "k" ∷ [])
    (function_of (id 0) false (Int I32) ((param (Some (id 1)) (Int I32)) ∷ []) (Some (block ((local I32 (id 2) (Some (lit I32 0))) ∷ (while_loop (two b.Ne (var (id 1)) (lit I32 1)) (block ((if_else (two b.Rem (var (id 1)) (lit I32 2)) (assign None (var (id 1)) (two b.Add (two b.Mul (lit I32 3) (var (id 1))) (lit I32 1))) (assign None (var (id 1)) (two b.Div (var (id 1)) (lit I32 2)))) ∷ (assign (Some b.Add) (var (id 2)) (lit I32 1)) ∷ []))) ∷ (return_value (Some (var (id 2)))) ∷ [])))
    ∷ [])

collatz_steps : map (λ ds. end_of (means (collatz ∷ []) 20 (codes "steps") ds zeros))
    ((number (pos 1) ∷ []) ∷ (number (pos 2) ∷ []) ∷ (number (pos 3) ∷ []) ∷ (number (pos 6) ∷ []) ∷ [])
    ≡ Ok (number (pos 0)) ∷ Ok (number (pos 1)) ∷ Ok (number (pos 7)) ∷ Ok (number (pos 8)) ∷ []
unfolding int_wrap from_bits first_declaration last_binding meaning_of with_params are_arguments choice_typing length_of constant_of
collatz_steps = refl

-- int g(int a) { while (a == 0) ; return 10 / (a - 1); }
abbrev endless : Subject
endless = unit_of (codes "g" ∷ codes "a" ∷ [])
    (function_of (id 0) false (Int I32) ((param (Some (id 1)) (Int I32)) ∷ []) (Some (block ((while_loop (two b.Eq (var (id 1)) (lit I32 0)) empty) ∷ (return_value (Some (two b.Div (lit I32 10) (two b.Sub (var (id 1)) (lit I32 1))))) ∷ [])))
    ∷ [])

endless_stops : map (λ ds. end_of (means (endless ∷ []) 20 (codes "g") ds zeros))
    ((number (pos 0) ∷ []) ∷ (number (pos 1) ∷ []) ∷ (number (pos 2) ∷ []) ∷ (number (pos 3) ∷ []) ∷ [])
    ≡ Err Turns ∷ Err Divide ∷ Ok (number (pos 10)) ∷ Ok (number (pos 5)) ∷ []
unfolding int_wrap from_bits first_declaration last_binding meaning_of with_params are_arguments choice_typing length_of constant_of
endless_stops = refl

-- int odds(int n, int m) { int s = 0; for (int i = 0; i < n; i++) { if (i == m) break; if (i % 2 == 0) continue; s += i; } return s; }
abbrev odd_sum : Subject
odd_sum = unit_of (codes "odds" ∷ codes "n" ∷ codes "m" ∷ codes "s" ∷ codes "i" ∷ [])
    (function_of (id 0) false (Int I32) ((param (Some (id 1)) (Int I32)) ∷ (param (Some (id 2)) (Int I32)) ∷ []) (Some (block ((local I32 (id 3) (Some (lit I32 0))) ∷ (for_loop (local I32 (id 4) (Some (lit I32 0))) (Some (two b.Lt (var (id 4)) (var (id 1)))) (assign (Some b.Add) (var (id 4)) (lit I32 1)) (block ((if_only (two b.Eq (var (id 4)) (var (id 2))) break_loop) ∷ (if_only (two b.Eq (two b.Rem (var (id 4)) (lit I32 2)) (lit I32 0)) continue_loop) ∷ (assign (Some b.Add) (var (id 3)) (var (id 4))) ∷ []))) ∷ (return_value (Some (var (id 3)))) ∷ [])))
    ∷ [])

odd_sums : map (λ ds. end_of (means (odd_sum ∷ []) 20 (codes "odds") ds zeros))
    ((number (pos 0) ∷ number (pos 8) ∷ []) ∷ (number (pos 4) ∷ number (pos 8) ∷ []) ∷ (number (pos 7) ∷ number (pos 8) ∷ []) ∷ (number (pos 10) ∷ number (pos 8) ∷ []) ∷ [])
    ≡ Ok (number (pos 0)) ∷ Ok (number (pos 4)) ∷ Ok (number (pos 9)) ∷ Ok (number (pos 16)) ∷ []
unfolding int_wrap from_bits first_declaration last_binding meaning_of with_params are_arguments choice_typing length_of constant_of
odd_sums = refl

-- int cnt(int n) { int k = 0; while (k < n) k++; return k; }
abbrev count : Subject
count = unit_of (codes "cnt" ∷ codes "n" ∷ codes "k" ∷ [])
    (function_of (id 0) false (Int I32) ((param (Some (id 1)) (Int I32)) ∷ []) (Some (block ((local I32 (id 2) (Some (lit I32 0))) ∷ (while_loop (two b.Lt (var (id 2)) (var (id 1))) (assign (Some b.Add) (var (id 2)) (lit I32 1))) ∷ (return_value (Some (var (id 2)))) ∷ [])))
    ∷ [])

counts : map (λ ds. end_of (means (count ∷ []) 3 (codes "cnt") ds zeros))
    ((number (pos 0) ∷ []) ∷ (number (pos 3) ∷ []) ∷ (number (pos 4) ∷ []) ∷ (number (pos 2) ∷ []) ∷ [])
    ≡ Ok (number (pos 0)) ∷ Ok (number (pos 3)) ∷ Err Turns ∷ Ok (number (pos 2)) ∷ []
unfolding int_wrap from_bits first_declaration last_binding meaning_of with_params are_arguments choice_typing length_of constant_of
counts = refl

-- int half(int a) { if (a % 2) return -1; return a / 2; }
-- int two_halves(int a) { int h = half(a); if (h < 0) return a; return half(h); }
abbrev halves : Subject
halves = unit_of (codes "half" ∷ codes "a" ∷ codes "two_halves" ∷ codes "h" ∷ [])
    (function_of (id 0) false (Int I32) ((param (Some (id 1)) (Int I32)) ∷ []) (Some (block ((if_only (two b.Rem (var (id 1)) (lit I32 2)) (return_value (Some (one u.Neg (lit I32 1))))) ∷ (return_value (Some (two b.Div (var (id 1)) (lit I32 2)))) ∷ [])))
    ∷ function_of (id 2) false (Int I32) ((param (Some (id 1)) (Int I32)) ∷ []) (Some (block ((local I32 (id 3) (Some (call (id 0) ((var (id 1)) ∷ [])))) ∷ (if_only (two b.Lt (var (id 3)) (lit I32 0)) (return_value (Some (var (id 1))))) ∷ (return_value (Some (call (id 0) ((var (id 3)) ∷ [])))) ∷ [])))
    ∷ [])

quarters : map (λ ds. end_of (means (halves ∷ []) 20 (codes "two_halves") ds zeros))
    ((number (pos 8) ∷ []) ∷ (number (pos 7) ∷ []) ∷ (number (pos 6) ∷ []) ∷ (number (pos 4) ∷ []) ∷ [])
    ≡ Ok (number (pos 2)) ∷ Ok (number (pos 7)) ∷ Ok (number (negsuc 0)) ∷ Ok (number (pos 1)) ∷ []
unfolding int_wrap from_bits first_declaration last_binding meaning_of with_params are_arguments choice_typing length_of constant_of
quarters = refl

-- int falls(int a) { if (a) a = 1; }
-- void nothing_said(int a) { if (a == 2) return; a = 1 / a; }
-- int once(int a) { do { a += 1; if (a == 3) continue; if (a > 4) break; } while (a < 5); return a; }
-- int escapes(int a) { while (1) { while (1) { if (a > 2) return a; a++; } } }
abbrev ends : Subject
ends = unit_of (codes "falls" ∷ codes "a" ∷ codes "nothing_said" ∷ codes "once" ∷ codes "escapes" ∷ [])
    (function_of (id 0) false (Int I32) ((param (Some (id 1)) (Int I32)) ∷ []) (Some (block ((if_only (var (id 1)) (assign None (var (id 1)) (lit I32 1))) ∷ [])))
    ∷ function_of (id 2) false Void ((param (Some (id 1)) (Int I32)) ∷ []) (Some (block ((if_only (two b.Eq (var (id 1)) (lit I32 2)) (return_value None)) ∷ (assign None (var (id 1)) (two b.Div (lit I32 1) (var (id 1)))) ∷ [])))
    ∷ function_of (id 3) false (Int I32) ((param (Some (id 1)) (Int I32)) ∷ []) (Some (block ((do_loop (block ((assign (Some b.Add) (var (id 1)) (lit I32 1)) ∷ (if_only (two b.Eq (var (id 1)) (lit I32 3)) continue_loop) ∷ (if_only (two b.Gt (var (id 1)) (lit I32 4)) break_loop) ∷ [])) (two b.Lt (var (id 1)) (lit I32 5))) ∷ (return_value (Some (var (id 1)))) ∷ [])))
    ∷ function_of (id 4) false (Int I32) ((param (Some (id 1)) (Int I32)) ∷ []) (Some (block ((while_loop (lit I32 1) (block ((while_loop (lit I32 1) (block ((if_only (two b.Gt (var (id 1)) (lit I32 2)) (return_value (Some (var (id 1))))) ∷ (assign (Some b.Add) (var (id 1)) (lit I32 1)) ∷ []))) ∷ []))) ∷ [])))
    ∷ [])

falls_off : map (λ ds. end_of (means (ends ∷ []) 20 (codes "falls") ds zeros))
    ((number (pos 5) ∷ []) ∷ (number (pos 0) ∷ []) ∷ [])
    ≡ Ok (number (pos 0)) ∷ Ok (number (pos 0)) ∷ []
unfolding int_wrap from_bits first_declaration last_binding meaning_of with_params are_arguments choice_typing length_of constant_of
falls_off = refl

void_ends : map (λ ds. end_of (means (ends ∷ []) 20 (codes "nothing_said") ds zeros))
    ((number (pos 2) ∷ []) ∷ (number (pos 1) ∷ []) ∷ (number (pos 0) ∷ []) ∷ [])
    ≡ Ok nothing ∷ Ok nothing ∷ Err Divide ∷ []
unfolding int_wrap from_bits first_declaration last_binding meaning_of with_params are_arguments choice_typing length_of constant_of
void_ends = refl

do_ends : map (λ ds. end_of (means (ends ∷ []) 20 (codes "once") ds zeros))
    ((number (pos 9) ∷ []) ∷ (number (pos 0) ∷ []) ∷ (number (pos 4) ∷ []) ∷ [])
    ≡ Ok (number (pos 10)) ∷ Ok (number (pos 5)) ∷ Ok (number (pos 5)) ∷ []
unfolding int_wrap from_bits first_declaration last_binding meaning_of with_params are_arguments choice_typing length_of constant_of
do_ends = refl

returns_from_loops : map (λ ds. end_of (means (ends ∷ []) 20 (codes "escapes") ds zeros))
    ((number (pos 0) ∷ []) ∷ (number (pos 7) ∷ []) ∷ [])
    ≡ Ok (number (pos 3)) ∷ Ok (number (pos 7)) ∷ []
unfolding int_wrap from_bits first_declaration last_binding meaning_of with_params are_arguments choice_typing length_of constant_of
returns_from_loops = refl
