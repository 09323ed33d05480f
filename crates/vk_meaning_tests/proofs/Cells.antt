-- Cells that a call reads and writes: stores through pointers, elements that are not there.
use Rattle.std.specs.Prelude.{◌≡◌, true, false, [], ◌∷◌, map, codes, Some, None, pos, negsuc, Ok, Err}
use Rattle.std.proofs.Common.{refl}
use Rattle.std.specs.Int.{int_wrap}
use Rattle.vk_types.specs.declared.types.Ty.TheVariants.{I32}
use Rattle.vk_types.specs.declared.types.Stop.TheVariants.{Bounds}
use Rattle.vk_types.specs.Operators.{from_bits}
use Rattle.vk_kinds.specs.declared.heads.CType.TheVariants.{Void, Int, Ptr}
use Rattle.vk_ast.specs.declared.expressions.BinOp.TheVariants as b
use Rattle.vk_numbers.specs.Constants.{constant_of}
use Rattle.vk_rules_book.specs.Rules.{Subject}
use Rattle.vk_rules_book.specs.Scopes.{first_declaration, last_binding, meaning_of, with_params}
use Rattle.vk_rules_book.specs.Typings.{are_arguments, choice_typing}
use Rattle.vk_rules_book.specs.Items.{length_of}
use Rattle.vk_meaning.specs.Data.{number, pointer}
use Rattle.vk_meaning.specs.World.{first_memory}
use Rattle.vk_meaning.specs.Meaning.{means, memory_of}
use Rattle.vk_meaning.specs.Programs.{arrays_of}
use Rattle.vk_meaning_tests.proofs.Forms.{id, lit, var, index, deref, two, block, assign, return_value, param, function_of, object_of, unit_of, end_of, zeros}

-- int y[4];
-- #pragma omp declare simd linear(p)
-- void put(int *p, int v) { *p = v + 1; }
-- #pragma omp declare simd linear(p) linear(q)
-- int add(int *p, const int *q) { p[0] += *q; return p[0] + q[1]; }
-- int x[2] = {5, 6};
abbrev put : Subject
put = unit_of (codes "y" ∷ codes "put" ∷ codes "p" ∷ codes "v" ∷ codes "add" ∷ codes "q" ∷ codes "x" ∷ [])
    (object_of (id 0) I32 false false (Some (Some (lit I32 4))) None false
    ∷ function_of (id 1) true Void ((param (Some (id 2)) (Ptr I32 true)) ∷ (param (Some (id 3)) (Int I32)) ∷ []) (Some (block ((assign None (deref (var (id 2))) (two b.Add (var (id 3)) (lit I32 1))) ∷ [])))
    ∷ function_of (id 4) true (Int I32) ((param (Some (id 2)) (Ptr I32 true)) ∷ (param (Some (id 5)) (Ptr I32 false)) ∷ []) (Some (block ((assign (Some b.Add) (index (var (id 2)) (lit I32 0)) (deref (var (id 5)))) ∷ (return_value (Some (two b.Add (index (var (id 2)) (lit I32 0)) (index (var (id 5)) (lit I32 1))))) ∷ [])))
    ∷ object_of (id 6) I32 false false (Some (Some (lit I32 2))) (Some ((lit I32 5) ∷ (lit I32 6) ∷ [])) true
    ∷ [])

-- the arrays in their order: x, y
a_store : memory_of (means (put ∷ []) 20 (codes "put") (pointer 1 (pos 2) ∷ number (pos 30) ∷ []) zeros) 1 2 ≡ 31
unfolding int_wrap from_bits first_declaration last_binding meaning_of with_params are_arguments choice_typing length_of constant_of
a_store = refl

other_cells_stay : memory_of (means (put ∷ []) 20 (codes "put") (pointer 1 (pos 2) ∷ number (pos 30) ∷ []) zeros) 1 3 ≡ 0
unfolding int_wrap from_bits first_declaration last_binding meaning_of with_params are_arguments choice_typing length_of constant_of
other_cells_stay = refl

a_store_past_the_end : end_of (means (put ∷ []) 20 (codes "put") (pointer 1 (pos 4) ∷ number (pos 1) ∷ []) zeros) ≡ Err Bounds
unfolding int_wrap from_bits first_declaration last_binding meaning_of with_params are_arguments choice_typing length_of constant_of
a_store_past_the_end = refl

a_store_before_the_first : end_of (means (put ∷ []) 20 (codes "put") (pointer 1 (negsuc 0) ∷ number (pos 1) ∷ []) zeros) ≡ Err Bounds
unfolding int_wrap from_bits first_declaration last_binding meaning_of with_params are_arguments choice_typing length_of constant_of
a_store_before_the_first = refl

first_cells : map (first_memory (arrays_of (put ∷ [])) 0) (0 ∷ 1 ∷ 2 ∷ []) ≡ 5 ∷ 6 ∷ 0 ∷ []
unfolding int_wrap from_bits first_declaration last_binding meaning_of with_params are_arguments choice_typing length_of constant_of
first_cells = refl

loads_and_stores : end_of (means (put ∷ []) 20 (codes "add") (pointer 1 (pos 0) ∷ pointer 0 (pos 0) ∷ []) (first_memory (arrays_of (put ∷ [])))) ≡ Ok (number (pos 11))
unfolding int_wrap from_bits first_declaration last_binding meaning_of with_params are_arguments choice_typing length_of constant_of
loads_and_stores = refl

a_load_past_the_end : end_of (means (put ∷ []) 20 (codes "add") (pointer 1 (pos 0) ∷ pointer 0 (pos 1) ∷ []) (first_memory (arrays_of (put ∷ [])))) ≡ Err Bounds
unfolding int_wrap from_bits first_declaration last_binding meaning_of with_params are_arguments choice_typing length_of constant_of
a_load_past_the_end = refl

a_stop_keeps_what_was_stored : memory_of (means (put ∷ []) 20 (codes "add") (pointer 1 (pos 0) ∷ pointer 0 (pos 1) ∷ []) (first_memory (arrays_of (put ∷ [])))) 1 0 ≡ 6
unfolding int_wrap from_bits first_declaration last_binding meaning_of with_params are_arguments choice_typing length_of constant_of
a_stop_keeps_what_was_stored = refl
