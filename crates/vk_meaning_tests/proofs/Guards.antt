-- The guard of a simd loop: which pairs of bases are compared, and how many may be.
use Rattle.std.specs.Prelude.{◌≡◌, true, false, [], ◌∷◌, codes, Some, None, pos}
use Rattle.std.proofs.Common.{refl}
use Rattle.std.specs.Int.{int_wrap}
use Rattle.vk_types.specs.declared.types.Ty.TheVariants.{I32}
use Rattle.vk_types.specs.Operators.{from_bits}
use Rattle.vk_kinds.specs.declared.heads.CType.TheVariants.{Void, Int, Ptr}
use Rattle.vk_ast.specs.declared.expressions.BinOp.TheVariants as b
use Rattle.vk_numbers.specs.Constants.{constant_of}
use Rattle.vk_rules_book.specs.Rules.{Subject}
use Rattle.vk_rules_book.specs.Scopes.{first_declaration, last_binding, meaning_of, with_params}
use Rattle.vk_rules_book.specs.Typings.{are_arguments, choice_typing}
use Rattle.vk_rules_book.specs.Items.{length_of}
use Rattle.vk_meaning.specs.Data.{number, pointer}
use Rattle.vk_meaning.specs.Meaning.{means}
use Rattle.vk_meaning_tests.proofs.Forms.{id, lit, var, index, deref, two, call, block, local, assign, value, for_loop, simd, param, function_of, object_of, unit_of, told, tells, loop, zeros}

-- int s[1]; const int c0[1] = {0}; const int c1[1] = {0}; const int c2[1] = {0}; const int c3[1] = {0}; const int c4[1] = {0}; const int c5[1] = {0}; const int c6[1] = {0}; const int c7[1] = {0}; const int c8[1] = {0}; const int c9[1] = {0}; const int c10[1] = {0}; const int c11[1] = {0}; const int c12[1] = {0}; const int c13[1] = {0}; const int c14[1] = {0}; const int c15[1] = {0};
-- void f(int *p0, int *p1, int *p2, int *p3, int *p4, int *p5, int *p6, int *p7, int *p8, int *p9, int *p10, int *p11, int *p12, int *p13, int *p14, int *p15, int *p16, int *p17, int *p18, int *p19, int *p20, int *p21, int *p22, int *p23, int *p24, int *p25, int *p26, int *p27, int *p28, int *p29, int *p30, const int *q0, int n) {
-- #pragma omp simd
-- for (int i = 0; i < n; i++) { p0[i] = 0; p1[i] = 0; p2[i] = 0; p3[i] = 0; p4[i] = 0; p5[i] = 0; p6[i] = 0; p7[i] = 0; p8[i] = 0; p9[i] = 0; p10[i] = 0; p11[i] = 0; p12[i] = 0; p13[i] = 0; p14[i] = 0; p15[i] = 0; p16[i] = 0; p17[i] = 0; p18[i] = 0; p19[i] = 0; p20[i] = 0; p21[i] = 0; p22[i] = 0; p23[i] = 0; p24[i] = 0; p25[i] = 0; p26[i] = 0; p27[i] = 0; p28[i] = 0; p29[i] = 0; p30[i] = 0; s[i] = q0[i] + c0[i] + c1[i] + c2[i] + c3[i] + c4[i] + c5[i] + c6[i] + c7[i] + c8[i] + c9[i] + c10[i] + c11[i] + c12[i] + c13[i] + c14[i] + c15[i]; } }
abbrev pairs_1024 : Subject
pairs_1024 = unit_of (codes "s" ∷ codes "c0" ∷ codes "c1" ∷ codes "c2" ∷ codes "c3" ∷ codes "c4" ∷ codes "c5" ∷ codes "c6" ∷ codes "c7" ∷ codes "c8" ∷ codes "c9" ∷ codes "c10" ∷ codes "c11" ∷ codes "c12" ∷ codes "c13" ∷ codes "c14" ∷ codes "c15" ∷ codes "f" ∷ codes "p0" ∷ codes "p1" ∷ codes "p2" ∷ codes "p3" ∷ codes "p4" ∷ codes "p5" ∷ codes "p6" ∷ codes "p7" ∷ codes "p8" ∷ codes "p9" ∷ codes "p10" ∷ codes "p11" ∷ codes "p12" ∷ codes "p13" ∷ codes "p14" ∷ codes "p15" ∷ codes "p16" ∷ codes "p17" ∷ codes "p18" ∷ codes "p19" ∷ codes "p20" ∷ codes "p21" ∷ codes "p22" ∷ codes "p23" ∷ codes "p24" ∷ codes "p25" ∷ codes "p26" ∷ codes "p27" ∷ codes "p28" ∷ codes "p29" ∷ codes "p30" ∷ codes "q0" ∷ codes "n" ∷ codes "i" ∷ [])
    (object_of (id 0) I32 false false (Some (Some (lit I32 1))) None false
    ∷ object_of (id 1) I32 true false (Some (Some (lit I32 1))) (Some ((lit I32 0) ∷ [])) true
    ∷ object_of (id 2) I32 true false (Some (Some (lit I32 1))) (Some ((lit I32 0) ∷ [])) true
    ∷ object_of (id 3) I32 true false (Some (Some (lit I32 1))) (Some ((lit I32 0) ∷ [])) true
    ∷ object_of (id 4) I32 true false (Some (Some (lit I32 1))) (Some ((lit I32 0) ∷ [])) true
    ∷ object_of (id 5) I32 true false (Some (Some (lit I32 1))) (Some ((lit I32 0) ∷ [])) true
    ∷ object_of (id 6) I32 true false (Some (Some (lit I32 1))) (Some ((lit I32 0) ∷ [])) true
    ∷ object_of (id 7) I32 true false (Some (Some (lit I32 1))) (Some ((lit I32 0) ∷ [])) true
    ∷ object_of (id 8) I32 true false (Some (Some (lit I32 1))) (Some ((lit I32 0) ∷ [])) true
    ∷ object_of (id 9) I32 true false (Some (Some (lit I32 1))) (Some ((lit I32 0) ∷ [])) true
    ∷ object_of (id 10) I32 true false (Some (Some (lit I32 1))) (Some ((lit I32 0) ∷ [])) true
    ∷ object_of (id 11) I32 true false (Some (Some (lit I32 1))) (Some ((lit I32 0) ∷ [])) true
    ∷ object_of (id 12) I32 true false (Some (Some (lit I32 1))) (Some ((lit I32 0) ∷ [])) true
    ∷ object_of (id 13) I32 true false (Some (Some (lit I32 1))) (Some ((lit I32 0) ∷ [])) true
    ∷ object_of (id 14) I32 true false (Some (Some (lit I32 1))) (Some ((lit I32 0) ∷ [])) true
    ∷ object_of (id 15) I32 true false (Some (Some (lit I32 1))) (Some ((lit I32 0) ∷ [])) true
    ∷ object_of (id 16) I32 true false (Some (Some (lit I32 1))) (Some ((lit I32 0) ∷ [])) true
    ∷ function_of (id 17) false Void ((param (Some (id 18)) (Ptr I32 true)) ∷ (param (Some (id 19)) (Ptr I32 true)) ∷ (param (Some (id 20)) (Ptr I32 true)) ∷ (param (Some (id 21)) (Ptr I32 true)) ∷ (param (Some (id 22)) (Ptr I32 true)) ∷ (param (Some (id 23)) (Ptr I32 true)) ∷ (param (Some (id 24)) (Ptr I32 true)) ∷ (param (Some (id 25)) (Ptr I32 true)) ∷ (param (Some (id 26)) (Ptr I32 true)) ∷ (param (Some (id 27)) (Ptr I32 true)) ∷ (param (Some (id 28)) (Ptr I32 true)) ∷ (param (Some (id 29)) (Ptr I32 true)) ∷ (param (Some (id 30)) (Ptr I32 true)) ∷ (param (Some (id 31)) (Ptr I32 true)) ∷ (param (Some (id 32)) (Ptr I32 true)) ∷ (param (Some (id 33)) (Ptr I32 true)) ∷ (param (Some (id 34)) (Ptr I32 true)) ∷ (param (Some (id 35)) (Ptr I32 true)) ∷ (param (Some (id 36)) (Ptr I32 true)) ∷ (param (Some (id 37)) (Ptr I32 true)) ∷ (param (Some (id 38)) (Ptr I32 true)) ∷ (param (Some (id 39)) (Ptr I32 true)) ∷ (param (Some (id 40)) (Ptr I32 true)) ∷ (param (Some (id 41)) (Ptr I32 true)) ∷ (param (Some (id 42)) (Ptr I32 true)) ∷ (param (Some (id 43)) (Ptr I32 true)) ∷ (param (Some (id 44)) (Ptr I32 true)) ∷ (param (Some (id 45)) (Ptr I32 true)) ∷ (param (Some (id 46)) (Ptr I32 true)) ∷ (param (Some (id 47)) (Ptr I32 true)) ∷ (param (Some (id 48)) (Ptr I32 true)) ∷ (param (Some (id 49)) (Ptr I32 false)) ∷ (param (Some (id 50)) (Int I32)) ∷ []) (Some (block ((simd (for_loop (local I32 (id 51) (Some (lit I32 0))) (Some (two b.Lt (var (id 51)) (var (id 50)))) (assign (Some b.Add) (var (id 51)) (lit I32 1)) (block ((assign None (index (var (id 18)) (var (id 51))) (lit I32 0)) ∷ (assign None (index (var (id 19)) (var (id 51))) (lit I32 0)) ∷ (assign None (index (var (id 20)) (var (id 51))) (lit I32 0)) ∷ (assign None (index (var (id 21)) (var (id 51))) (lit I32 0)) ∷ (assign None (index (var (id 22)) (var (id 51))) (lit I32 0)) ∷ (assign None (index (var (id 23)) (var (id 51))) (lit I32 0)) ∷ (assign None (index (var (id 24)) (var (id 51))) (lit I32 0)) ∷ (assign None (index (var (id 25)) (var (id 51))) (lit I32 0)) ∷ (assign None (index (var (id 26)) (var (id 51))) (lit I32 0)) ∷ (assign None (index (var (id 27)) (var (id 51))) (lit I32 0)) ∷ (assign None (index (var (id 28)) (var (id 51))) (lit I32 0)) ∷ (assign None (index (var (id 29)) (var (id 51))) (lit I32 0)) ∷ (assign None (index (var (id 30)) (var (id 51))) (lit I32 0)) ∷ (assign None (index (var (id 31)) (var (id 51))) (lit I32 0)) ∷ (assign None (index (var (id 32)) (var (id 51))) (lit I32 0)) ∷ (assign None (index (var (id 33)) (var (id 51))) (lit I32 0)) ∷ (assign None (index (var (id 34)) (var (id 51))) (lit I32 0)) ∷ (assign None (index (var (id 35)) (var (id 51))) (lit I32 0)) ∷ (assign None (index (var (id 36)) (var (id 51))) (lit I32 0)) ∷ (assign None (index (var (id 37)) (var (id 51))) (lit I32 0)) ∷ (assign None (index (var (id 38)) (var (id 51))) (lit I32 0)) ∷ (assign None (index (var (id 39)) (var (id 51))) (lit I32 0)) ∷ (assign None (index (var (id 40)) (var (id 51))) (lit I32 0)) ∷ (assign None (index (var (id 41)) (var (id 51))) (lit I32 0)) ∷ (assign None (index (var (id 42)) (var (id 51))) (lit I32 0)) ∷ (assign None (index (var (id 43)) (var (id 51))) (lit I32 0)) ∷ (assign None (index (var (id 44)) (var (id 51))) (lit I32 0)) ∷ (assign None (index (var (id 45)) (var (id 51))) (lit I32 0)) ∷ (assign None (index (var (id 46)) (var (id 51))) (lit I32 0)) ∷ (assign None (index (var (id 47)) (var (id 51))) (lit I32 0)) ∷ (assign None (index (var (id 48)) (var (id 51))) (lit I32 0)) ∷ (assign None (index (var (id 0)) (var (id 51))) (two b.Add (two b.Add (two b.Add (two b.Add (two b.Add (two b.Add (two b.Add (two b.Add (two b.Add (two b.Add (two b.Add (two b.Add (two b.Add (two b.Add (two b.Add (two b.Add (index (var (id 49)) (var (id 51))) (index (var (id 1)) (var (id 51)))) (index (var (id 2)) (var (id 51)))) (index (var (id 3)) (var (id 51)))) (index (var (id 4)) (var (id 51)))) (index (var (id 5)) (var (id 51)))) (index (var (id 6)) (var (id 51)))) (index (var (id 7)) (var (id 51)))) (index (var (id 8)) (var (id 51)))) (index (var (id 9)) (var (id 51)))) (index (var (id 10)) (var (id 51)))) (index (var (id 11)) (var (id 51)))) (index (var (id 12)) (var (id 51)))) (index (var (id 13)) (var (id 51)))) (index (var (id 14)) (var (id 51)))) (index (var (id 15)) (var (id 51)))) (index (var (id 16)) (var (id 51))))) ∷ [])))) ∷ [])))
    ∷ [])

guard_of_pairs_1024 : told (means (pairs_1024 ∷ []) 20 (codes "f")
    (pointer 100 (pos 0) ∷ pointer 101 (pos 0) ∷ pointer 102 (pos 0) ∷ pointer 103 (pos 0) ∷ pointer 104 (pos 0) ∷ pointer 105 (pos 0) ∷ pointer 106 (pos 0) ∷ pointer 107 (pos 0) ∷ pointer 108 (pos 0) ∷ pointer 109 (pos 0) ∷ pointer 110 (pos 0) ∷ pointer 111 (pos 0) ∷ pointer 112 (pos 0) ∷ pointer 113 (pos 0) ∷ pointer 114 (pos 0) ∷ pointer 115 (pos 0) ∷ pointer 116 (pos 0) ∷ pointer 117 (pos 0) ∷ pointer 118 (pos 0) ∷ pointer 119 (pos 0) ∷ pointer 120 (pos 0) ∷ pointer 121 (pos 0) ∷ pointer 122 (pos 0) ∷ pointer 123 (pos 0) ∷ pointer 124 (pos 0) ∷ pointer 125 (pos 0) ∷ pointer 126 (pos 0) ∷ pointer 127 (pos 0) ∷ pointer 128 (pos 0) ∷ pointer 129 (pos 0) ∷ pointer 130 (pos 0) ∷ pointer 131 (pos 0) ∷ number (pos 0) ∷ []) zeros)
    ≡ tells [] (loop 1 0 true ∷ []) None
unfolding int_wrap from_bits first_declaration last_binding meaning_of with_params are_arguments choice_typing length_of constant_of
guard_of_pairs_1024 = refl

-- int s[1]; const int c0[1] = {0}; const int c1[1] = {0}; const int c2[1] = {0}; const int c3[1] = {0}; const int c4[1] = {0}; const int c5[1] = {0}; const int c6[1] = {0}; const int c7[1] = {0}; const int c8[1] = {0}; const int c9[1] = {0}; const int c10[1] = {0}; const int c11[1] = {0}; const int c12[1] = {0}; const int c13[1] = {0}; const int c14[1] = {0};
-- void f(int *p0, int *p1, int *p2, int *p3, int *p4, int *p5, int *p6, int *p7, int *p8, int *p9, int *p10, int *p11, int *p12, int *p13, int *p14, int *p15, int *p16, int *p17, int *p18, int *p19, int *p20, int *p21, int *p22, int *p23, int *p24, int *p25, int *p26, int *p27, int *p28, int *p29, int *p30, const int *q0, const int *q1, int n) {
-- #pragma omp simd
-- for (int i = 0; i < n; i++) { p0[i] = 0; p1[i] = 0; p2[i] = 0; p3[i] = 0; p4[i] = 0; p5[i] = 0; p6[i] = 0; p7[i] = 0; p8[i] = 0; p9[i] = 0; p10[i] = 0; p11[i] = 0; p12[i] = 0; p13[i] = 0; p14[i] = 0; p15[i] = 0; p16[i] = 0; p17[i] = 0; p18[i] = 0; p19[i] = 0; p20[i] = 0; p21[i] = 0; p22[i] = 0; p23[i] = 0; p24[i] = 0; p25[i] = 0; p26[i] = 0; p27[i] = 0; p28[i] = 0; p29[i] = 0; p30[i] = 0; s[i] = q0[i] + q1[i] + c0[i] + c1[i] + c2[i] + c3[i] + c4[i] + c5[i] + c6[i] + c7[i] + c8[i] + c9[i] + c10[i] + c11[i] + c12[i] + c13[i] + c14[i]; } }
abbrev pairs_1025 : Subject
pairs_1025 = unit_of (codes "s" ∷ codes "c0" ∷ codes "c1" ∷ codes "c2" ∷ codes "c3" ∷ codes "c4" ∷ codes "c5" ∷ codes "c6" ∷ codes "c7" ∷ codes "c8" ∷ codes "c9" ∷ codes "c10" ∷ codes "c11" ∷ codes "c12" ∷ codes "c13" ∷ codes "c14" ∷ codes "f" ∷ codes "p0" ∷ codes "p1" ∷ codes "p2" ∷ codes "p3" ∷ codes "p4" ∷ codes "p5" ∷ codes "p6" ∷ codes "p7" ∷ codes "p8" ∷ codes "p9" ∷ codes "p10" ∷ codes "p11" ∷ codes "p12" ∷ codes "p13" ∷ codes "p14" ∷ codes "p15" ∷ codes "p16" ∷ codes "p17" ∷ codes "p18" ∷ codes "p19" ∷ codes "p20" ∷ codes "p21" ∷ codes "p22" ∷ codes "p23" ∷ codes "p24" ∷ codes "p25" ∷ codes "p26" ∷ codes "p27" ∷ codes "p28" ∷ codes "p29" ∷ codes "p30" ∷ codes "q0" ∷ codes "q1" ∷ codes "n" ∷ codes "i" ∷ [])
    (object_of (id 0) I32 false false (Some (Some (lit I32 1))) None false
    ∷ object_of (id 1) I32 true false (Some (Some (lit I32 1))) (Some ((lit I32 0) ∷ [])) true
    ∷ object_of (id 2) I32 true false (Some (Some (lit I32 1))) (Some ((lit I32 0) ∷ [])) true
    ∷ object_of (id 3) I32 true false (Some (Some (lit I32 1))) (Some ((lit I32 0) ∷ [])) true
    ∷ object_of (id 4) I32 true false (Some (Some (lit I32 1))) (Some ((lit I32 0) ∷ [])) true
    ∷ object_of (id 5) I32 true false (Some (Some (lit I32 1))) (Some ((lit I32 0) ∷ [])) true
    ∷ object_of (id 6) I32 true false (Some (Some (lit I32 1))) (Some ((lit I32 0) ∷ [])) true
    ∷ object_of (id 7) I32 true false (Some (Some (lit I32 1))) (Some ((lit I32 0) ∷ [])) true
    ∷ object_of (id 8) I32 true false (Some (Some (lit I32 1))) (Some ((lit I32 0) ∷ [])) true
    ∷ object_of (id 9) I32 true false (Some (Some (lit I32 1))) (Some ((lit I32 0) ∷ [])) true
    ∷ object_of (id 10) I32 true false (Some (Some (lit I32 1))) (Some ((lit I32 0) ∷ [])) true
    ∷ object_of (id 11) I32 true false (Some (Some (lit I32 1))) (Some ((lit I32 0) ∷ [])) true
    ∷ object_of (id 12) I32 true false (Some (Some (lit I32 1))) (Some ((lit I32 0) ∷ [])) true
    ∷ object_of (id 13) I32 true false (Some (Some (lit I32 1))) (Some ((lit I32 0) ∷ [])) true
    ∷ object_of (id 14) I32 true false (Some (Some (lit I32 1))) (Some ((lit I32 0) ∷ [])) true
    ∷ object_of (id 15) I32 true false (Some (Some (lit I32 1))) (Some ((lit I32 0) ∷ [])) true
    ∷ function_of (id 16) false Void ((param (Some (id 17)) (Ptr I32 true)) ∷ (param (Some (id 18)) (Ptr I32 true)) ∷ (param (Some (id 19)) (Ptr I32 true)) ∷ (param (Some (id 20)) (Ptr I32 true)) ∷ (param (Some (id 21)) (Ptr I32 true)) ∷ (param (Some (id 22)) (Ptr I32 true)) ∷ (param (Some (id 23)) (Ptr I32 true)) ∷ (param (Some (id 24)) (Ptr I32 true)) ∷ (param (Some (id 25)) (Ptr I32 true)) ∷ (param (Some (id 26)) (Ptr I32 true)) ∷ (param (Some (id 27)) (Ptr I32 true)) ∷ (param (Some (id 28)) (Ptr I32 true)) ∷ (param (Some (id 29)) (Ptr I32 true)) ∷ (param (Some (id 30)) (Ptr I32 true)) ∷ (param (Some (id 31)) (Ptr I32 true)) ∷ (param (Some (id 32)) (Ptr I32 true)) ∷ (param (Some (id 33)) (Ptr I32 true)) ∷ (param (Some (id 34)) (Ptr I32 true)) ∷ (param (Some (id 35)) (Ptr I32 true)) ∷ (param (Some (id 36)) (Ptr I32 true)) ∷ (param (Some (id 37)) (Ptr I32 true)) ∷ (param (Some (id 38)) (Ptr I32 true)) ∷ (param (Some (id 39)) (Ptr I32 true)) ∷ (param (Some (id 40)) (Ptr I32 true)) ∷ (param (Some (id 41)) (Ptr I32 true)) ∷ (param (Some (id 42)) (Ptr I32 true)) ∷ (param (Some (id 43)) (Ptr I32 true)) ∷ (param (Some (id 44)) (Ptr I32 true)) ∷ (param (Some (id 45)) (Ptr I32 true)) ∷ (param (Some (id 46)) (Ptr I32 true)) ∷ (param (Some (id 47)) (Ptr I32 true)) ∷ (param (Some (id 48)) (Ptr I32 false)) ∷ (param (Some (id 49)) (Ptr I32 false)) ∷ (param (Some (id 50)) (Int I32)) ∷ []) (Some (block ((simd (for_loop (local I32 (id 51) (Some (lit I32 0))) (Some (two b.Lt (var (id 51)) (var (id 50)))) (assign (Some b.Add) (var (id 51)) (lit I32 1)) (block ((assign None (index (var (id 17)) (var (id 51))) (lit I32 0)) ∷ (assign None (index (var (id 18)) (var (id 51))) (lit I32 0)) ∷ (assign None (index (var (id 19)) (var (id 51))) (lit I32 0)) ∷ (assign None (index (var (id 20)) (var (id 51))) (lit I32 0)) ∷ (assign None (index (var (id 21)) (var (id 51))) (lit I32 0)) ∷ (assign None (index (var (id 22)) (var (id 51))) (lit I32 0)) ∷ (assign None (index (var (id 23)) (var (id 51))) (lit I32 0)) ∷ (assign None (index (var (id 24)) (var (id 51))) (lit I32 0)) ∷ (assign None (index (var (id 25)) (var (id 51))) (lit I32 0)) ∷ (assign None (index (var (id 26)) (var (id 51))) (lit I32 0)) ∷ (assign None (index (var (id 27)) (var (id 51))) (lit I32 0)) ∷ (assign None (index (var (id 28)) (var (id 51))) (lit I32 0)) ∷ (assign None (index (var (id 29)) (var (id 51))) (lit I32 0)) ∷ (assign None (index (var (id 30)) (var (id 51))) (lit I32 0)) ∷ (assign None (index (var (id 31)) (var (id 51))) (lit I32 0)) ∷ (assign None (index (var (id 32)) (var (id 51))) (lit I32 0)) ∷ (assign None (index (var (id 33)) (var (id 51))) (lit I32 0)) ∷ (assign None (index (var (id 34)) (var (id 51))) (lit I32 0)) ∷ (assign None (index (var (id 35)) (var (id 51))) (lit I32 0)) ∷ (assign None (index (var (id 36)) (var (id 51))) (lit I32 0)) ∷ (assign None (index (var (id 37)) (var (id 51))) (lit I32 0)) ∷ (assign None (index (var (id 38)) (var (id 51))) (lit I32 0)) ∷ (assign None (index (var (id 39)) (var (id 51))) (lit I32 0)) ∷ (assign None (index (var (id 40)) (var (id 51))) (lit I32 0)) ∷ (assign None (index (var (id 41)) (var (id 51))) (lit I32 0)) ∷ (assign None (index (var (id 42)) (var (id 51))) (lit I32 0)) ∷ (assign None (index (var (id 43)) (var (id 51))) (lit I32 0)) ∷ (assign None (index (var (id 44)) (var (id 51))) (lit I32 0)) ∷ (assign None (index (var (id 45)) (var (id 51))) (lit I32 0)) ∷ (assign None (index (var (id 46)) (var (id 51))) (lit I32 0)) ∷ (assign None (index (var (id 47)) (var (id 51))) (lit I32 0)) ∷ (assign None (index (var (id 0)) (var (id 51))) (two b.Add (two b.Add (two b.Add (two b.Add (two b.Add (two b.Add (two b.Add (two b.Add (two b.Add (two b.Add (two b.Add (two b.Add (two b.Add (two b.Add (two b.Add (two b.Add (index (var (id 48)) (var (id 51))) (index (var (id 49)) (var (id 51)))) (index (var (id 1)) (var (id 51)))) (index (var (id 2)) (var (id 51)))) (index (var (id 3)) (var (id 51)))) (index (var (id 4)) (var (id 51)))) (index (var (id 5)) (var (id 51)))) (index (var (id 6)) (var (id 51)))) (index (var (id 7)) (var (id 51)))) (index (var (id 8)) (var (id 51)))) (index (var (id 9)) (var (id 51)))) (index (var (id 10)) (var (id 51)))) (index (var (id 11)) (var (id 51)))) (index (var (id 12)) (var (id 51)))) (index (var (id 13)) (var (id 51)))) (index (var (id 14)) (var (id 51)))) (index (var (id 15)) (var (id 51))))) ∷ [])))) ∷ [])))
    ∷ [])

guard_of_pairs_1025 : told (means (pairs_1025 ∷ []) 20 (codes "f")
    (pointer 100 (pos 0) ∷ pointer 101 (pos 0) ∷ pointer 102 (pos 0) ∷ pointer 103 (pos 0) ∷ pointer 104 (pos 0) ∷ pointer 105 (pos 0) ∷ pointer 106 (pos 0) ∷ pointer 107 (pos 0) ∷ pointer 108 (pos 0) ∷ pointer 109 (pos 0) ∷ pointer 110 (pos 0) ∷ pointer 111 (pos 0) ∷ pointer 112 (pos 0) ∷ pointer 113 (pos 0) ∷ pointer 114 (pos 0) ∷ pointer 115 (pos 0) ∷ pointer 116 (pos 0) ∷ pointer 117 (pos 0) ∷ pointer 118 (pos 0) ∷ pointer 119 (pos 0) ∷ pointer 120 (pos 0) ∷ pointer 121 (pos 0) ∷ pointer 122 (pos 0) ∷ pointer 123 (pos 0) ∷ pointer 124 (pos 0) ∷ pointer 125 (pos 0) ∷ pointer 126 (pos 0) ∷ pointer 127 (pos 0) ∷ pointer 128 (pos 0) ∷ pointer 129 (pos 0) ∷ pointer 130 (pos 0) ∷ pointer 131 (pos 0) ∷ pointer 132 (pos 0) ∷ number (pos 0) ∷ []) zeros)
    ≡ tells [] (loop 1 0 false ∷ []) None
unfolding int_wrap from_bits first_declaration last_binding meaning_of with_params are_arguments choice_typing length_of constant_of
guard_of_pairs_1025 = refl

-- int y[4]; int x[4]; int s; const int c[4] = {1, 2, 3, 4};
-- void put(int *p, int v) { *p = v; }
-- void stores(int *p, const int *q, const int *r, int n) {
-- #pragma omp simd
-- for (int i = 0; i < n; i++) p[i] = q[i] + r[i];
-- #pragma omp simd
-- for (int i = 0; i < n; i++) put(p + i, c[i]);
-- #pragma omp simd
-- for (int i = 0; i < n; i++) { int t = q[i] + r[i] + s; x[i] = y[i] + t; } }
abbrev bases : Subject
bases = unit_of (codes "y" ∷ codes "x" ∷ codes "s" ∷ codes "c" ∷ codes "put" ∷ codes "p" ∷ codes "v" ∷ codes "stores" ∷ codes "q" ∷ codes "r" ∷ codes "n" ∷ codes "i" ∷ codes "t" ∷ [])
    (object_of (id 0) I32 false false (Some (Some (lit I32 4))) None false
    ∷ object_of (id 1) I32 false false (Some (Some (lit I32 4))) None false
    ∷ object_of (id 2) I32 false false None None false
    ∷ object_of (id 3) I32 true false (Some (Some (lit I32 4))) (Some ((lit I32 1) ∷ (lit I32 2) ∷ (lit I32 3) ∷ (lit I32 4) ∷ [])) true
    ∷ function_of (id 4) false Void ((param (Some (id 5)) (Ptr I32 true)) ∷ (param (Some (id 6)) (Int I32)) ∷ []) (Some (block ((assign None (deref (var (id 5))) (var (id 6))) ∷ [])))
    ∷ function_of (id 7) false Void ((param (Some (id 5)) (Ptr I32 true)) ∷ (param (Some (id 8)) (Ptr I32 false)) ∷ (param (Some (id 9)) (Ptr I32 false)) ∷ (param (Some (id 10)) (Int I32)) ∷ []) (Some (block ((simd (for_loop (local I32 (id 11) (Some (lit I32 0))) (Some (two b.Lt (var (id 11)) (var (id 10)))) (assign (Some b.Add) (var (id 11)) (lit I32 1)) (assign None (index (var (id 5)) (var (id 11))) (two b.Add (index (var (id 8)) (var (id 11))) (index (var (id 9)) (var (id 11))))))) ∷ (simd (for_loop (local I32 (id 11) (Some (lit I32 0))) (Some (two b.Lt (var (id 11)) (var (id 10)))) (assign (Some b.Add) (var (id 11)) (lit I32 1)) (value (call (id 4) ((two b.Add (var (id 5)) (var (id 11))) ∷ (index (var (id 3)) (var (id 11))) ∷ []))))) ∷ (simd (for_loop (local I32 (id 11) (Some (lit I32 0))) (Some (two b.Lt (var (id 11)) (var (id 10)))) (assign (Some b.Add) (var (id 11)) (lit I32 1)) (block ((local I32 (id 12) (Some (two b.Add (two b.Add (index (var (id 8)) (var (id 11))) (index (var (id 9)) (var (id 11)))) (var (id 2))))) ∷ (assign None (index (var (id 1)) (var (id 11))) (two b.Add (index (var (id 0)) (var (id 11))) (var (id 12)))) ∷ [])))) ∷ [])))
    ∷ [])

-- the arrays in their order: c, s, x, y
guard_fails_in_last_loop : told (means (bases ∷ []) 20 (codes "stores") (pointer 3 (pos 0) ∷ pointer 2 (pos 0) ∷ pointer 0 (pos 0) ∷ number (pos 1) ∷ []) zeros)
    ≡ tells [] (loop 1 1 true ∷ loop 2 1 true ∷ loop 3 1 false ∷ []) None
unfolding int_wrap from_bits first_declaration last_binding meaning_of with_params are_arguments choice_typing length_of constant_of
guard_fails_in_last_loop = refl

guard_fails_in_no_loop : told (means (bases ∷ []) 20 (codes "stores") (pointer 3 (pos 0) ∷ pointer 1 (pos 0) ∷ pointer 1 (pos 0) ∷ number (pos 1) ∷ []) zeros)
    ≡ tells [] (loop 1 1 true ∷ loop 2 1 true ∷ loop 3 1 true ∷ []) None
unfolding int_wrap from_bits first_declaration last_binding meaning_of with_params are_arguments choice_typing length_of constant_of
guard_fails_in_no_loop = refl

guard_fails_in_first_loop : told (means (bases ∷ []) 20 (codes "stores") (pointer 1 (pos 0) ∷ pointer 0 (pos 0) ∷ pointer 1 (pos 0) ∷ number (pos 1) ∷ []) zeros)
    ≡ tells [] (loop 1 1 false ∷ loop 2 1 true ∷ loop 3 1 true ∷ []) None
unfolding int_wrap from_bits first_declaration last_binding meaning_of with_params are_arguments choice_typing length_of constant_of
guard_fails_in_first_loop = refl

guard_fails_in_second_loop : told (means (bases ∷ []) 20 (codes "stores") (pointer 0 (pos 0) ∷ pointer 3 (pos 0) ∷ pointer 3 (pos 0) ∷ number (pos 1) ∷ []) zeros)
    ≡ tells [] (loop 1 1 true ∷ loop 2 1 false ∷ loop 3 1 true ∷ []) None
unfolding int_wrap from_bits first_declaration last_binding meaning_of with_params are_arguments choice_typing length_of constant_of
guard_fails_in_second_loop = refl
