-- Candidates and choices of functions with one or more directives, at letters, vector lengths and argument shapes of all kinds.
use Rattle.std.specs.Prelude.{◌≡◌, ℕ, ◌+◌, ◌++◌, ◌||◌, filter_map, Bool, true, false, not, ◌&&◌, List, [], ◌∷◌, map, filter, find, Option, Some, None, refl, pos, negsuc}
use Rattle.std.specs.List.{list_all}
use Rattle.std.specs.Option.{option_map}
use Rattle.vk_types.specs.declared.types.Ty.TheVariants as types
use Rattle.vk_kinds.specs.declared.heads.CType.{CType}
use Rattle.vk_kinds.specs.declared.heads.CType.TheVariants as ctypes
use Rattle.vk_kinds.specs.declared.kinds.Branch.{Branch}
use Rattle.vk_kinds.specs.declared.kinds.Branch.TheVariants.{Both, Inside, Outside}
use Rattle.vk_kinds.specs.declared.kinds.Isa.{Isa}
use Rattle.vk_kinds.specs.declared.kinds.Isa.TheVariants.{B, C, D, E, N, S}
use Rattle.vk_kinds.specs.declared.kinds.Kind.{Kind}
use Rattle.vk_kinds.specs.declared.kinds.Kind.TheVariants as kinds
use Rattle.vk_kinds.specs.declared.kinds.Step.TheVariants as steps
use Rattle.vk_kinds.specs.declared.kinds.Target.{Target}
use Rattle.vk_kinds.specs.declared.kinds.Target.TheVariants.{X86, Arm}
use Rattle.vk_kinds.specs.Lengths.{lengths}
use Rattle.vk_kinds.specs.Sizes.{SignatureTree, cdt, nds, wds}
use Rattle.vk_code.specs.declared.code.Shape.{Shape}
use Rattle.vk_code.specs.declared.code.Shape.TheVariants.{Vector, Uniform, By, Along, Literal, Same}
use Rattle.vk_object.specs.Objects.{FunctionLists}
use Rattle.vk_joins.specs.Choice.{Goal, Candidate, usable, all_match, precedes, at_lanes}
use Rattle.vk_joins_tests.proofs.Forms.{param}

abbrev sig : List Kind → Branch → Option ℕ → SignatureTree
sig ks b n = record { params = map param ks; branch = b; simdlen = n }

-- directive, letter, mask, lanes
pub record Seen : Type 0 where
  pub directive : ℕ
  pub isa : Isa
  pub masked : Bool
  pub lanes : ℕ

abbrev seen : Candidate → Seen
seen c = record { directive = c.directive; isa = c.length.isa; masked = c.length.masked; lanes = c.lanes }

abbrev variants : Goal → Target → FunctionLists → ℕ → List SignatureTree → List Candidate
variants goal t r d [] = []
variants goal t r d (s ∷ ss) = filter_map (usable goal r d s) (lengths t r.head s) ++ variants goal t r (d + 1) ss

abbrev those : Goal → Target → FunctionLists → List SignatureTree → (free : Bool) → List Shape → List Candidate
those goal t r ss free shapes = filter (λ (c : Candidate). (c.length.masked || free) && all_match shapes r.head.params c.signature.params shapes) (variants goal t r 0 ss)

-- the one that no other precedes
abbrev first : List Candidate → Option Seen
first cs = option_map seen (find (λ (c : Candidate). list_all (λ (o : Candidate). not (precedes o c)) cs) cs)

abbrev row : CType → List CType → FunctionLists
row result ts = record { symbol = 0; head = record { result = result; params = ts }; directives = []; codes = None }

case0 : map seen (those (record { isa = C; vl = 0 }) X86 (row (ctypes.Int types.I8) ((ctypes.Int types.U8) ∷ (ctypes.Int types.U16) ∷ (ctypes.Ptr types.I64 false) ∷ (ctypes.Ptr types.I32 false) ∷ [])) (sig ((kinds.Linear steps.One) ∷ kinds.Uniform ∷ (kinds.Linear (steps.Arg 1)) ∷ kinds.Vector ∷ []) Outside None ∷ sig (kinds.Vector ∷ kinds.Vector ∷ kinds.Vector ∷ (kinds.Linear (steps.By (pos 8))) ∷ []) Both None ∷ []) false (Vector ∷ Uniform ∷ (By (pos 3)) ∷ (By (pos 2)) ∷ [])) ≡ record { directive = 1; isa = B; masked = true; lanes = 16 } ∷ record { directive = 1; isa = C; masked = true; lanes = 16 } ∷ []
unfolding lengths cdt nds wds
case0 = refl

choice0_16 : first (at_lanes 16 (those (record { isa = C; vl = 0 }) X86 (row (ctypes.Int types.I8) ((ctypes.Int types.U8) ∷ (ctypes.Int types.U16) ∷ (ctypes.Ptr types.I64 false) ∷ (ctypes.Ptr types.I32 false) ∷ [])) (sig ((kinds.Linear steps.One) ∷ kinds.Uniform ∷ (kinds.Linear (steps.Arg 1)) ∷ kinds.Vector ∷ []) Outside None ∷ sig (kinds.Vector ∷ kinds.Vector ∷ kinds.Vector ∷ (kinds.Linear (steps.By (pos 8))) ∷ []) Both None ∷ []) false (Vector ∷ Uniform ∷ (By (pos 3)) ∷ (By (pos 2)) ∷ []))) ≡ Some (record { directive = 1; isa = C; masked = true; lanes = 16 })
unfolding lengths cdt nds wds
choice0_16 = refl

case1 : map seen (those (record { isa = B; vl = 0 }) X86 (row (ctypes.Int types.I64) ((ctypes.Int types.I32) ∷ [])) (sig (kinds.Vector ∷ []) Inside (Some 8) ∷ sig (kinds.Vector ∷ []) Both (Some 4) ∷ []) false ((By (pos 2)) ∷ [])) ≡ record { directive = 0; isa = B; masked = true; lanes = 8 } ∷ record { directive = 1; isa = B; masked = true; lanes = 4 } ∷ []
unfolding lengths cdt nds wds
case1 = refl

choice1_4 : first (at_lanes 4 (those (record { isa = B; vl = 0 }) X86 (row (ctypes.Int types.I64) ((ctypes.Int types.I32) ∷ [])) (sig (kinds.Vector ∷ []) Inside (Some 8) ∷ sig (kinds.Vector ∷ []) Both (Some 4) ∷ []) false ((By (pos 2)) ∷ []))) ≡ Some (record { directive = 1; isa = B; masked = true; lanes = 4 })
unfolding lengths cdt nds wds
choice1_4 = refl

choice1_8 : first (at_lanes 8 (those (record { isa = B; vl = 0 }) X86 (row (ctypes.Int types.I64) ((ctypes.Int types.I32) ∷ [])) (sig (kinds.Vector ∷ []) Inside (Some 8) ∷ sig (kinds.Vector ∷ []) Both (Some 4) ∷ []) false ((By (pos 2)) ∷ []))) ≡ Some (record { directive = 0; isa = B; masked = true; lanes = 8 })
unfolding lengths cdt nds wds
choice1_8 = refl

case2 : map seen (those (record { isa = S; vl = 128 }) Arm (row (ctypes.Int types.U16) ((ctypes.Ptr types.I64 false) ∷ (ctypes.Int types.U16) ∷ (ctypes.Int types.I16) ∷ (ctypes.Int types.U8) ∷ [])) (sig (kinds.Uniform ∷ kinds.Vector ∷ kinds.Uniform ∷ (kinds.Linear (steps.Arg 2)) ∷ []) Outside (Some 4) ∷ sig ((kinds.Linear (steps.By (pos 8))) ∷ kinds.Uniform ∷ kinds.Uniform ∷ kinds.Vector ∷ []) Inside None ∷ []) true (Uniform ∷ (Literal (pos 3)) ∷ Vector ∷ Vector ∷ [])) ≡ []
unfolding lengths cdt nds wds
case2 = refl

case3 : map seen (those (record { isa = D; vl = 0 }) X86 (row (ctypes.Int types.I64) ([])) (sig ([]) Outside (Some 2) ∷ sig ([]) Inside None ∷ []) true ([])) ≡ record { directive = 0; isa = B; masked = false; lanes = 2 } ∷ record { directive = 0; isa = C; masked = false; lanes = 2 } ∷ record { directive = 0; isa = D; masked = false; lanes = 2 } ∷ record { directive = 1; isa = B; masked = true; lanes = 2 } ∷ record { directive = 1; isa = C; masked = true; lanes = 2 } ∷ record { directive = 1; isa = D; masked = true; lanes = 4 } ∷ []
unfolding lengths cdt nds wds
case3 = refl

choice3_2 : first (at_lanes 2 (those (record { isa = D; vl = 0 }) X86 (row (ctypes.Int types.I64) ([])) (sig ([]) Outside (Some 2) ∷ sig ([]) Inside None ∷ []) true ([]))) ≡ Some (record { directive = 0; isa = D; masked = false; lanes = 2 })
unfolding lengths cdt nds wds
choice3_2 = refl

choice3_4 : first (at_lanes 4 (those (record { isa = D; vl = 0 }) X86 (row (ctypes.Int types.I64) ([])) (sig ([]) Outside (Some 2) ∷ sig ([]) Inside None ∷ []) true ([]))) ≡ Some (record { directive = 1; isa = D; masked = true; lanes = 4 })
unfolding lengths cdt nds wds
choice3_4 = refl

case4 : map seen (those (record { isa = N; vl = 0 }) Arm (row (ctypes.Int types.U8) ((ctypes.Int types.I16) ∷ (ctypes.Int types.U8) ∷ (ctypes.Ptr types.I64 false) ∷ (ctypes.Int types.U16) ∷ [])) (sig ((kinds.Linear (steps.By (negsuc 2))) ∷ kinds.Vector ∷ (kinds.Linear (steps.By (pos 16))) ∷ kinds.Vector ∷ []) Both None ∷ []) false ((By (negsuc 2)) ∷ (Literal (pos 3)) ∷ (By (pos 2)) ∷ Uniform ∷ [])) ≡ record { directive = 0; isa = N; masked = true; lanes = 8 } ∷ record { directive = 0; isa = N; masked = true; lanes = 16 } ∷ []
unfolding lengths cdt nds wds
case4 = refl

choice4_8 : first (at_lanes 8 (those (record { isa = N; vl = 0 }) Arm (row (ctypes.Int types.U8) ((ctypes.Int types.I16) ∷ (ctypes.Int types.U8) ∷ (ctypes.Ptr types.I64 false) ∷ (ctypes.Int types.U16) ∷ [])) (sig ((kinds.Linear (steps.By (negsuc 2))) ∷ kinds.Vector ∷ (kinds.Linear (steps.By (pos 16))) ∷ kinds.Vector ∷ []) Both None ∷ []) false ((By (negsuc 2)) ∷ (Literal (pos 3)) ∷ (By (pos 2)) ∷ Uniform ∷ []))) ≡ Some (record { directive = 0; isa = N; masked = true; lanes = 8 })
unfolding lengths cdt nds wds
choice4_8 = refl

choice4_16 : first (at_lanes 16 (those (record { isa = N; vl = 0 }) Arm (row (ctypes.Int types.U8) ((ctypes.Int types.I16) ∷ (ctypes.Int types.U8) ∷ (ctypes.Ptr types.I64 false) ∷ (ctypes.Int types.U16) ∷ [])) (sig ((kinds.Linear (steps.By (negsuc 2))) ∷ kinds.Vector ∷ (kinds.Linear (steps.By (pos 16))) ∷ kinds.Vector ∷ []) Both None ∷ []) false ((By (negsuc 2)) ∷ (Literal (pos 3)) ∷ (By (pos 2)) ∷ Uniform ∷ []))) ≡ Some (record { directive = 0; isa = N; masked = true; lanes = 16 })
unfolding lengths cdt nds wds
choice4_16 = refl

case5 : map seen (those (record { isa = C; vl = 0 }) X86 (row (ctypes.Int types.I32) ((ctypes.Ptr types.I16 true) ∷ [])) (sig ((kinds.Linear (steps.By (pos 4))) ∷ []) Both None ∷ sig ((kinds.Linear (steps.By (pos 2))) ∷ []) Both (Some 8) ∷ sig (kinds.Vector ∷ []) Inside (Some 2) ∷ []) false ((Literal (pos 3)) ∷ [])) ≡ record { directive = 2; isa = B; masked = true; lanes = 2 } ∷ record { directive = 2; isa = C; masked = true; lanes = 2 } ∷ []
unfolding lengths cdt nds wds
case5 = refl

choice5_2 : first (at_lanes 2 (those (record { isa = C; vl = 0 }) X86 (row (ctypes.Int types.I32) ((ctypes.Ptr types.I16 true) ∷ [])) (sig ((kinds.Linear (steps.By (pos 4))) ∷ []) Both None ∷ sig ((kinds.Linear (steps.By (pos 2))) ∷ []) Both (Some 8) ∷ sig (kinds.Vector ∷ []) Inside (Some 2) ∷ []) false ((Literal (pos 3)) ∷ []))) ≡ Some (record { directive = 2; isa = C; masked = true; lanes = 2 })
unfolding lengths cdt nds wds
choice5_2 = refl

case6 : map seen (those (record { isa = E; vl = 0 }) X86 (row (ctypes.Int types.U8) ((ctypes.Int types.U64) ∷ (ctypes.Int types.U8) ∷ [])) (sig (kinds.Uniform ∷ kinds.Vector ∷ []) Inside (Some 2) ∷ sig ((kinds.Linear (steps.By (negsuc 2))) ∷ (kinds.Linear (steps.By (pos 2))) ∷ []) Both None ∷ []) false ((By (negsuc 2)) ∷ (By (pos 2)) ∷ [])) ≡ record { directive = 1; isa = B; masked = true; lanes = 16 } ∷ record { directive = 1; isa = C; masked = true; lanes = 16 } ∷ record { directive = 1; isa = D; masked = true; lanes = 32 } ∷ record { directive = 1; isa = E; masked = true; lanes = 64 } ∷ []
unfolding lengths cdt nds wds
case6 = refl

choice6_16 : first (at_lanes 16 (those (record { isa = E; vl = 0 }) X86 (row (ctypes.Int types.U8) ((ctypes.Int types.U64) ∷ (ctypes.Int types.U8) ∷ [])) (sig (kinds.Uniform ∷ kinds.Vector ∷ []) Inside (Some 2) ∷ sig ((kinds.Linear (steps.By (negsuc 2))) ∷ (kinds.Linear (steps.By (pos 2))) ∷ []) Both None ∷ []) false ((By (negsuc 2)) ∷ (By (pos 2)) ∷ []))) ≡ Some (record { directive = 1; isa = C; masked = true; lanes = 16 })
unfolding lengths cdt nds wds
choice6_16 = refl

choice6_32 : first (at_lanes 32 (those (record { isa = E; vl = 0 }) X86 (row (ctypes.Int types.U8) ((ctypes.Int types.U64) ∷ (ctypes.Int types.U8) ∷ [])) (sig (kinds.Uniform ∷ kinds.Vector ∷ []) Inside (Some 2) ∷ sig ((kinds.Linear (steps.By (negsuc 2))) ∷ (kinds.Linear (steps.By (pos 2))) ∷ []) Both None ∷ []) false ((By (negsuc 2)) ∷ (By (pos 2)) ∷ []))) ≡ Some (record { directive = 1; isa = D; masked = true; lanes = 32 })
unfolding lengths cdt nds wds
choice6_32 = refl

choice6_64 : first (at_lanes 64 (those (record { isa = E; vl = 0 }) X86 (row (ctypes.Int types.U8) ((ctypes.Int types.U64) ∷ (ctypes.Int types.U8) ∷ [])) (sig (kinds.Uniform ∷ kinds.Vector ∷ []) Inside (Some 2) ∷ sig ((kinds.Linear (steps.By (negsuc 2))) ∷ (kinds.Linear (steps.By (pos 2))) ∷ []) Both None ∷ []) false ((By (negsuc 2)) ∷ (By (pos 2)) ∷ []))) ≡ Some (record { directive = 1; isa = E; masked = true; lanes = 64 })
unfolding lengths cdt nds wds
choice6_64 = refl

case7 : map seen (those (record { isa = N; vl = 0 }) Arm (row (ctypes.Int types.I8) ((ctypes.Ptr types.I16 true) ∷ (ctypes.Ptr types.I64 false) ∷ [])) (sig (kinds.Vector ∷ (kinds.Linear (steps.By (pos 16))) ∷ []) Inside (Some 4) ∷ sig ((kinds.Linear (steps.By (negsuc 5))) ∷ (kinds.Linear (steps.By (pos 16))) ∷ []) Outside None ∷ []) true (Uniform ∷ (By (pos 2)) ∷ [])) ≡ record { directive = 0; isa = N; masked = true; lanes = 4 } ∷ []
unfolding lengths cdt nds wds
case7 = refl

choice7_4 : first (at_lanes 4 (those (record { isa = N; vl = 0 }) Arm (row (ctypes.Int types.I8) ((ctypes.Ptr types.I16 true) ∷ (ctypes.Ptr types.I64 false) ∷ [])) (sig (kinds.Vector ∷ (kinds.Linear (steps.By (pos 16))) ∷ []) Inside (Some 4) ∷ sig ((kinds.Linear (steps.By (negsuc 5))) ∷ (kinds.Linear (steps.By (pos 16))) ∷ []) Outside None ∷ []) true (Uniform ∷ (By (pos 2)) ∷ []))) ≡ Some (record { directive = 0; isa = N; masked = true; lanes = 4 })
unfolding lengths cdt nds wds
choice7_4 = refl

case8 : map seen (those (record { isa = S; vl = 256 }) Arm (row (ctypes.Int types.U8) ((ctypes.Ptr types.I64 false) ∷ (ctypes.Ptr types.I64 false) ∷ (ctypes.Int types.U16) ∷ (ctypes.Int types.U16) ∷ [])) (sig (kinds.Vector ∷ (kinds.Linear (steps.By (pos 16))) ∷ kinds.Vector ∷ (kinds.Linear (steps.By (negsuc 2))) ∷ []) Inside (Some 4) ∷ sig ((kinds.Linear (steps.By (negsuc 23))) ∷ kinds.Vector ∷ (kinds.Linear steps.One) ∷ (kinds.Linear (steps.By (pos 2))) ∷ []) Inside None ∷ sig ((kinds.Linear (steps.By (negsuc 23))) ∷ kinds.Uniform ∷ kinds.Uniform ∷ (kinds.Linear (steps.By (negsuc 2))) ∷ []) Outside (Some 2) ∷ []) false ((By (pos 1)) ∷ (By (pos 2)) ∷ (By (pos 1)) ∷ (By (negsuc 2)) ∷ [])) ≡ record { directive = 0; isa = N; masked = true; lanes = 4 } ∷ record { directive = 0; isa = S; masked = true; lanes = 4 } ∷ []
unfolding lengths cdt nds wds
case8 = refl

choice8_4 : first (at_lanes 4 (those (record { isa = S; vl = 256 }) Arm (row (ctypes.Int types.U8) ((ctypes.Ptr types.I64 false) ∷ (ctypes.Ptr types.I64 false) ∷ (ctypes.Int types.U16) ∷ (ctypes.Int types.U16) ∷ [])) (sig (kinds.Vector ∷ (kinds.Linear (steps.By (pos 16))) ∷ kinds.Vector ∷ (kinds.Linear (steps.By (negsuc 2))) ∷ []) Inside (Some 4) ∷ sig ((kinds.Linear (steps.By (negsuc 23))) ∷ kinds.Vector ∷ (kinds.Linear steps.One) ∷ (kinds.Linear (steps.By (pos 2))) ∷ []) Inside None ∷ sig ((kinds.Linear (steps.By (negsuc 23))) ∷ kinds.Uniform ∷ kinds.Uniform ∷ (kinds.Linear (steps.By (negsuc 2))) ∷ []) Outside (Some 2) ∷ []) false ((By (pos 1)) ∷ (By (pos 2)) ∷ (By (pos 1)) ∷ (By (negsuc 2)) ∷ []))) ≡ Some (record { directive = 0; isa = S; masked = true; lanes = 4 })
unfolding lengths cdt nds wds
choice8_4 = refl

case9 : map seen (those (record { isa = E; vl = 0 }) X86 (row (ctypes.Int types.I32) ((ctypes.Int types.I64) ∷ (ctypes.Int types.I32) ∷ (ctypes.Int types.I8) ∷ [])) (sig (kinds.Vector ∷ kinds.Vector ∷ kinds.Vector ∷ []) Both (Some 8) ∷ []) false ((By (pos 2)) ∷ (By (pos 1)) ∷ (Literal (pos 3)) ∷ [])) ≡ record { directive = 0; isa = B; masked = true; lanes = 8 } ∷ record { directive = 0; isa = C; masked = true; lanes = 8 } ∷ record { directive = 0; isa = D; masked = true; lanes = 8 } ∷ record { directive = 0; isa = E; masked = true; lanes = 8 } ∷ []
unfolding lengths cdt nds wds
case9 = refl

choice9_8 : first (at_lanes 8 (those (record { isa = E; vl = 0 }) X86 (row (ctypes.Int types.I32) ((ctypes.Int types.I64) ∷ (ctypes.Int types.I32) ∷ (ctypes.Int types.I8) ∷ [])) (sig (kinds.Vector ∷ kinds.Vector ∷ kinds.Vector ∷ []) Both (Some 8) ∷ []) false ((By (pos 2)) ∷ (By (pos 1)) ∷ (Literal (pos 3)) ∷ []))) ≡ Some (record { directive = 0; isa = E; masked = true; lanes = 8 })
unfolding lengths cdt nds wds
choice9_8 = refl

case10 : map seen (those (record { isa = N; vl = 0 }) Arm (row (ctypes.Int types.I8) ((ctypes.Int types.I16) ∷ (ctypes.Ptr types.I32 false) ∷ (ctypes.Int types.U16) ∷ [])) (sig (kinds.Uniform ∷ kinds.Vector ∷ kinds.Uniform ∷ []) Inside (Some 2) ∷ sig (kinds.Vector ∷ kinds.Vector ∷ kinds.Vector ∷ []) Inside (Some 2) ∷ sig (kinds.Uniform ∷ kinds.Vector ∷ kinds.Vector ∷ []) Outside (Some 8) ∷ []) false ((By (pos 1)) ∷ Vector ∷ (By (pos 2)) ∷ [])) ≡ record { directive = 1; isa = N; masked = true; lanes = 2 } ∷ []
unfolding lengths cdt nds wds
case10 = refl

choice10_2 : first (at_lanes 2 (those (record { isa = N; vl = 0 }) Arm (row (ctypes.Int types.I8) ((ctypes.Int types.I16) ∷ (ctypes.Ptr types.I32 false) ∷ (ctypes.Int types.U16) ∷ [])) (sig (kinds.Uniform ∷ kinds.Vector ∷ kinds.Uniform ∷ []) Inside (Some 2) ∷ sig (kinds.Vector ∷ kinds.Vector ∷ kinds.Vector ∷ []) Inside (Some 2) ∷ sig (kinds.Uniform ∷ kinds.Vector ∷ kinds.Vector ∷ []) Outside (Some 8) ∷ []) false ((By (pos 1)) ∷ Vector ∷ (By (pos 2)) ∷ []))) ≡ Some (record { directive = 1; isa = N; masked = true; lanes = 2 })
unfolding lengths cdt nds wds
choice10_2 = refl

case11 : map seen (those (record { isa = D; vl = 0 }) X86 (row (ctypes.Int types.U32) ((ctypes.Int types.I32) ∷ (ctypes.Int types.U16) ∷ (ctypes.Ptr types.I64 false) ∷ (ctypes.Ptr types.I16 true) ∷ [])) (sig (kinds.Uniform ∷ kinds.Vector ∷ kinds.Vector ∷ (kinds.Linear (steps.Arg 0)) ∷ []) Outside (Some 2) ∷ sig (kinds.Vector ∷ (kinds.Linear (steps.By (pos 2))) ∷ kinds.Vector ∷ kinds.Vector ∷ []) Inside (Some 8) ∷ []) true (Uniform ∷ (By (pos 2)) ∷ (Literal (pos 3)) ∷ (By (pos 3)) ∷ [])) ≡ record { directive = 1; isa = B; masked = true; lanes = 8 } ∷ record { directive = 1; isa = C; masked = true; lanes = 8 } ∷ record { directive = 1; isa = D; masked = true; lanes = 8 } ∷ []
unfolding lengths cdt nds wds
case11 = refl

choice11_8 : first (at_lanes 8 (those (record { isa = D; vl = 0 }) X86 (row (ctypes.Int types.U32) ((ctypes.Int types.I32) ∷ (ctypes.Int types.U16) ∷ (ctypes.Ptr types.I64 false) ∷ (ctypes.Ptr types.I16 true) ∷ [])) (sig (kinds.Uniform ∷ kinds.Vector ∷ kinds.Vector ∷ (kinds.Linear (steps.Arg 0)) ∷ []) Outside (Some 2) ∷ sig (kinds.Vector ∷ (kinds.Linear (steps.By (pos 2))) ∷ kinds.Vector ∷ kinds.Vector ∷ []) Inside (Some 8) ∷ []) true (Uniform ∷ (By (pos 2)) ∷ (Literal (pos 3)) ∷ (By (pos 3)) ∷ []))) ≡ Some (record { directive = 1; isa = D; masked = true; lanes = 8 })
unfolding lengths cdt nds wds
choice11_8 = refl

case12 : map seen (those (record { isa = S; vl = 128 }) Arm (row (ctypes.Int types.U8) ((ctypes.Int types.I8) ∷ (ctypes.Int types.I64) ∷ (ctypes.Int types.U64) ∷ [])) (sig ((kinds.Linear (steps.By (pos 2))) ∷ kinds.Vector ∷ kinds.Uniform ∷ []) Outside (Some 2) ∷ []) true ((By (pos 3)) ∷ Uniform ∷ Vector ∷ [])) ≡ []
unfolding lengths cdt nds wds
case12 = refl

case13 : map seen (those (record { isa = C; vl = 0 }) X86 (row (ctypes.Int types.I32) ((ctypes.Ptr types.I64 false) ∷ (ctypes.Ptr types.I16 true) ∷ [])) (sig (kinds.Vector ∷ (kinds.Linear (steps.By (negsuc 5))) ∷ []) Both (Some 2) ∷ []) true ((Literal (pos 3)) ∷ (By (pos 3)) ∷ [])) ≡ []
unfolding lengths cdt nds wds
case13 = refl

case14 : map seen (those (record { isa = N; vl = 0 }) Arm (row (ctypes.Int types.U64) ((ctypes.Int types.U8) ∷ [])) (sig (kinds.Vector ∷ []) Both (Some 8) ∷ []) false ((Literal (pos 3)) ∷ [])) ≡ record { directive = 0; isa = N; masked = true; lanes = 8 } ∷ []
unfolding lengths cdt nds wds
case14 = refl

choice14_8 : first (at_lanes 8 (those (record { isa = N; vl = 0 }) Arm (row (ctypes.Int types.U64) ((ctypes.Int types.U8) ∷ [])) (sig (kinds.Vector ∷ []) Both (Some 8) ∷ []) false ((Literal (pos 3)) ∷ []))) ≡ Some (record { directive = 0; isa = N; masked = true; lanes = 8 })
unfolding lengths cdt nds wds
choice14_8 = refl

case15 : map seen (those (record { isa = S; vl = 128 }) Arm (row (ctypes.Int types.U64) ((ctypes.Int types.I32) ∷ [])) (sig (kinds.Uniform ∷ []) Inside (Some 4) ∷ sig (kinds.Uniform ∷ []) Inside (Some 2) ∷ sig (kinds.Uniform ∷ []) Both None ∷ []) false (Vector ∷ [])) ≡ []
unfolding lengths cdt nds wds
case15 = refl

case16 : map seen (those (record { isa = B; vl = 0 }) X86 (row (ctypes.Int types.U16) ([])) (sig ([]) Inside None ∷ sig ([]) Inside (Some 8) ∷ sig ([]) Both None ∷ []) true ([])) ≡ record { directive = 0; isa = B; masked = true; lanes = 8 } ∷ record { directive = 1; isa = B; masked = true; lanes = 8 } ∷ record { directive = 2; isa = B; masked = false; lanes = 8 } ∷ record { directive = 2; isa = B; masked = true; lanes = 8 } ∷ []
unfolding lengths cdt nds wds
case16 = refl

choice16_8 : first (at_lanes 8 (those (record { isa = B; vl = 0 }) X86 (row (ctypes.Int types.U16) ([])) (sig ([]) Inside None ∷ sig ([]) Inside (Some 8) ∷ sig ([]) Both None ∷ []) true ([]))) ≡ Some (record { directive = 2; isa = B; masked = false; lanes = 8 })
unfolding lengths cdt nds wds
choice16_8 = refl

case17 : map seen (those (record { isa = N; vl = 0 }) Arm (row (ctypes.Int types.I32) ([])) (sig ([]) Outside (Some 8) ∷ sig ([]) Both None ∷ []) true ([])) ≡ record { directive = 0; isa = N; masked = false; lanes = 8 } ∷ record { directive = 1; isa = N; masked = false; lanes = 2 } ∷ record { directive = 1; isa = N; masked = true; lanes = 2 } ∷ record { directive = 1; isa = N; masked = false; lanes = 4 } ∷ record { directive = 1; isa = N; masked = true; lanes = 4 } ∷ []
unfolding lengths cdt nds wds
case17 = refl

choice17_2 : first (at_lanes 2 (those (record { isa = N; vl = 0 }) Arm (row (ctypes.Int types.I32) ([])) (sig ([]) Outside (Some 8) ∷ sig ([]) Both None ∷ []) true ([]))) ≡ Some (record { directive = 1; isa = N; masked = false; lanes = 2 })
unfolding lengths cdt nds wds
choice17_2 = refl

choice17_4 : first (at_lanes 4 (those (record { isa = N; vl = 0 }) Arm (row (ctypes.Int types.I32) ([])) (sig ([]) Outside (Some 8) ∷ sig ([]) Both None ∷ []) true ([]))) ≡ Some (record { directive = 1; isa = N; masked = false; lanes = 4 })
unfolding lengths cdt nds wds
choice17_4 = refl

choice17_8 : first (at_lanes 8 (those (record { isa = N; vl = 0 }) Arm (row (ctypes.Int types.I32) ([])) (sig ([]) Outside (Some 8) ∷ sig ([]) Both None ∷ []) true ([]))) ≡ Some (record { directive = 0; isa = N; masked = false; lanes = 8 })
unfolding lengths cdt nds wds
choice17_8 = refl

case18 : map seen (those (record { isa = S; vl = 128 }) Arm (row (ctypes.Int types.I64) ((ctypes.Int types.I16) ∷ [])) (sig (kinds.Uniform ∷ []) Outside (Some 8) ∷ []) true ((Same 1) ∷ [])) ≡ record { directive = 0; isa = N; masked = false; lanes = 8 } ∷ []
unfolding lengths cdt nds wds
case18 = refl

choice18_8 : first (at_lanes 8 (those (record { isa = S; vl = 128 }) Arm (row (ctypes.Int types.I64) ((ctypes.Int types.I16) ∷ [])) (sig (kinds.Uniform ∷ []) Outside (Some 8) ∷ []) true ((Same 1) ∷ []))) ≡ Some (record { directive = 0; isa = N; masked = false; lanes = 8 })
unfolding lengths cdt nds wds
choice18_8 = refl

case19 : map seen (those (record { isa = B; vl = 0 }) X86 (row (ctypes.Int types.U32) ((ctypes.Ptr types.I16 true) ∷ (ctypes.Int types.I32) ∷ (ctypes.Int types.I8) ∷ [])) (sig (kinds.Vector ∷ kinds.Uniform ∷ kinds.Uniform ∷ []) Outside (Some 4) ∷ []) true ((By (pos 1)) ∷ (By (pos 2)) ∷ (Same 1) ∷ [])) ≡ []
unfolding lengths cdt nds wds
case19 = refl

case20 : map seen (those (record { isa = E; vl = 0 }) X86 (row (ctypes.Int types.I64) ((ctypes.Ptr types.I32 false) ∷ (ctypes.Int types.I32) ∷ [])) (sig (kinds.Uniform ∷ kinds.Vector ∷ []) Both None ∷ sig ((kinds.Linear (steps.Arg 1)) ∷ kinds.Uniform ∷ []) Outside (Some 2) ∷ []) false ((Literal (pos 3)) ∷ Vector ∷ [])) ≡ record { directive = 0; isa = B; masked = true; lanes = 2 } ∷ record { directive = 0; isa = C; masked = true; lanes = 2 } ∷ record { directive = 0; isa = D; masked = true; lanes = 4 } ∷ record { directive = 0; isa = E; masked = true; lanes = 8 } ∷ []
unfolding lengths cdt nds wds
case20 = refl

choice20_2 : first (at_lanes 2 (those (record { isa = E; vl = 0 }) X86 (row (ctypes.Int types.I64) ((ctypes.Ptr types.I32 false) ∷ (ctypes.Int types.I32) ∷ [])) (sig (kinds.Uniform ∷ kinds.Vector ∷ []) Both None ∷ sig ((kinds.Linear (steps.Arg 1)) ∷ kinds.Uniform ∷ []) Outside (Some 2) ∷ []) false ((Literal (pos 3)) ∷ Vector ∷ []))) ≡ Some (record { directive = 0; isa = C; masked = true; lanes = 2 })
unfolding lengths cdt nds wds
choice20_2 = refl

choice20_4 : first (at_lanes 4 (those (record { isa = E; vl = 0 }) X86 (row (ctypes.Int types.I64) ((ctypes.Ptr types.I32 false) ∷ (ctypes.Int types.I32) ∷ [])) (sig (kinds.Uniform ∷ kinds.Vector ∷ []) Both None ∷ sig ((kinds.Linear (steps.Arg 1)) ∷ kinds.Uniform ∷ []) Outside (Some 2) ∷ []) false ((Literal (pos 3)) ∷ Vector ∷ []))) ≡ Some (record { directive = 0; isa = D; masked = true; lanes = 4 })
unfolding lengths cdt nds wds
choice20_4 = refl

choice20_8 : first (at_lanes 8 (those (record { isa = E; vl = 0 }) X86 (row (ctypes.Int types.I64) ((ctypes.Ptr types.I32 false) ∷ (ctypes.Int types.I32) ∷ [])) (sig (kinds.Uniform ∷ kinds.Vector ∷ []) Both None ∷ sig ((kinds.Linear (steps.Arg 1)) ∷ kinds.Uniform ∷ []) Outside (Some 2) ∷ []) false ((Literal (pos 3)) ∷ Vector ∷ []))) ≡ Some (record { directive = 0; isa = E; masked = true; lanes = 8 })
unfolding lengths cdt nds wds
choice20_8 = refl

case21 : map seen (those (record { isa = S; vl = 128 }) Arm (row ctypes.Void ([])) (sig ([]) Inside None ∷ sig ([]) Both (Some 8) ∷ sig ([]) Outside None ∷ []) true ([])) ≡ record { directive = 0; isa = N; masked = true; lanes = 2 } ∷ record { directive = 0; isa = N; masked = true; lanes = 4 } ∷ record { directive = 0; isa = S; masked = true; lanes = 4 } ∷ record { directive = 1; isa = N; masked = false; lanes = 8 } ∷ record { directive = 1; isa = N; masked = true; lanes = 8 } ∷ record { directive = 2; isa = N; masked = false; lanes = 2 } ∷ record { directive = 2; isa = N; masked = false; lanes = 4 } ∷ record { directive = 2; isa = S; masked = true; lanes = 4 } ∷ []
unfolding lengths cdt nds wds
case21 = refl

choice21_2 : first (at_lanes 2 (those (record { isa = S; vl = 128 }) Arm (row ctypes.Void ([])) (sig ([]) Inside None ∷ sig ([]) Both (Some 8) ∷ sig ([]) Outside None ∷ []) true ([]))) ≡ Some (record { directive = 2; isa = N; masked = false; lanes = 2 })
unfolding lengths cdt nds wds
choice21_2 = refl

choice21_4 : first (at_lanes 4 (those (record { isa = S; vl = 128 }) Arm (row ctypes.Void ([])) (sig ([]) Inside None ∷ sig ([]) Both (Some 8) ∷ sig ([]) Outside None ∷ []) true ([]))) ≡ Some (record { directive = 2; isa = N; masked = false; lanes = 4 })
unfolding lengths cdt nds wds
choice21_4 = refl

choice21_8 : first (at_lanes 8 (those (record { isa = S; vl = 128 }) Arm (row ctypes.Void ([])) (sig ([]) Inside None ∷ sig ([]) Both (Some 8) ∷ sig ([]) Outside None ∷ []) true ([]))) ≡ Some (record { directive = 1; isa = N; masked = false; lanes = 8 })
unfolding lengths cdt nds wds
choice21_8 = refl

case22 : map seen (those (record { isa = D; vl = 0 }) X86 (row (ctypes.Int types.U32) ((ctypes.Int types.I64) ∷ (ctypes.Int types.I32) ∷ (ctypes.Ptr types.I16 true) ∷ [])) (sig ((kinds.Linear (steps.By (pos 2))) ∷ kinds.Vector ∷ (kinds.Linear (steps.By (pos 4))) ∷ []) Inside (Some 8) ∷ sig (kinds.Vector ∷ (kinds.Linear (steps.By (negsuc 2))) ∷ kinds.Vector ∷ []) Outside (Some 8) ∷ []) true ((By (pos 2)) ∷ (Literal (pos 3)) ∷ (By (pos 2)) ∷ [])) ≡ record { directive = 0; isa = B; masked = true; lanes = 8 } ∷ record { directive = 0; isa = C; masked = true; lanes = 8 } ∷ record { directive = 0; isa = D; masked = true; lanes = 8 } ∷ []
unfolding lengths cdt nds wds
case22 = refl

choice22_8 : first (at_lanes 8 (those (record { isa = D; vl = 0 }) X86 (row (ctypes.Int types.U32) ((ctypes.Int types.I64) ∷ (ctypes.Int types.I32) ∷ (ctypes.Ptr types.I16 true) ∷ [])) (sig ((kinds.Linear (steps.By (pos 2))) ∷ kinds.Vector ∷ (kinds.Linear (steps.By (pos 4))) ∷ []) Inside (Some 8) ∷ sig (kinds.Vector ∷ (kinds.Linear (steps.By (negsuc 2))) ∷ kinds.Vector ∷ []) Outside (Some 8) ∷ []) true ((By (pos 2)) ∷ (Literal (pos 3)) ∷ (By (pos 2)) ∷ []))) ≡ Some (record { directive = 0; isa = D; masked = true; lanes = 8 })
unfolding lengths cdt nds wds
choice22_8 = refl

case23 : map seen (those (record { isa = N; vl = 0 }) Arm (row (ctypes.Int types.I8) ((ctypes.Int types.I64) ∷ [])) (sig ((kinds.Linear (steps.By (pos 2))) ∷ []) Outside (Some 4) ∷ sig (kinds.Vector ∷ []) Inside (Some 4) ∷ []) true ((Literal (pos 3)) ∷ [])) ≡ record { directive = 1; isa = N; masked = true; lanes = 4 } ∷ []
unfolding lengths cdt nds wds
case23 = refl

choice23_4 : first (at_lanes 4 (those (record { isa = N; vl = 0 }) Arm (row (ctypes.Int types.I8) ((ctypes.Int types.I64) ∷ [])) (sig ((kinds.Linear (steps.By (pos 2))) ∷ []) Outside (Some 4) ∷ sig (kinds.Vector ∷ []) Inside (Some 4) ∷ []) true ((Literal (pos 3)) ∷ []))) ≡ Some (record { directive = 1; isa = N; masked = true; lanes = 4 })
unfolding lengths cdt nds wds
choice23_4 = refl

case24 : map seen (those (record { isa = C; vl = 0 }) X86 (row (ctypes.Int types.I32) ((ctypes.Ptr types.I64 false) ∷ [])) (sig (kinds.Vector ∷ []) Inside (Some 8) ∷ []) false ((By (pos 1)) ∷ [])) ≡ record { directive = 0; isa = B; masked = true; lanes = 8 } ∷ record { directive = 0; isa = C; masked = true; lanes = 8 } ∷ []
unfolding lengths cdt nds wds
case24 = refl

choice24_8 : first (at_lanes 8 (those (record { isa = C; vl = 0 }) X86 (row (ctypes.Int types.I32) ((ctypes.Ptr types.I64 false) ∷ [])) (sig (kinds.Vector ∷ []) Inside (Some 8) ∷ []) false ((By (pos 1)) ∷ []))) ≡ Some (record { directive = 0; isa = C; masked = true; lanes = 8 })
unfolding lengths cdt nds wds
choice24_8 = refl

case25 : map seen (those (record { isa = B; vl = 0 }) X86 (row (ctypes.Int types.U64) ((ctypes.Int types.I8) ∷ [])) (sig (kinds.Vector ∷ []) Inside (Some 4) ∷ []) false ((Literal (pos 3)) ∷ [])) ≡ record { directive = 0; isa = B; masked = true; lanes = 4 } ∷ []
unfolding lengths cdt nds wds
case25 = refl

choice25_4 : first (at_lanes 4 (those (record { isa = B; vl = 0 }) X86 (row (ctypes.Int types.U64) ((ctypes.Int types.I8) ∷ [])) (sig (kinds.Vector ∷ []) Inside (Some 4) ∷ []) false ((Literal (pos 3)) ∷ []))) ≡ Some (record { directive = 0; isa = B; masked = true; lanes = 4 })
unfolding lengths cdt nds wds
choice25_4 = refl

case26 : map seen (those (record { isa = N; vl = 0 }) Arm (row (ctypes.Int types.U16) ((ctypes.Int types.I16) ∷ [])) (sig (kinds.Uniform ∷ []) Both None ∷ sig (kinds.Vector ∷ []) Outside None ∷ []) true ((By (pos 2)) ∷ [])) ≡ record { directive = 1; isa = N; masked = false; lanes = 4 } ∷ record { directive = 1; isa = N; masked = false; lanes = 8 } ∷ []
unfolding lengths cdt nds wds
case26 = refl

choice26_4 : first (at_lanes 4 (those (record { isa = N; vl = 0 }) Arm (row (ctypes.Int types.U16) ((ctypes.Int types.I16) ∷ [])) (sig (kinds.Uniform ∷ []) Both None ∷ sig (kinds.Vector ∷ []) Outside None ∷ []) true ((By (pos 2)) ∷ []))) ≡ Some (record { directive = 1; isa = N; masked = false; lanes = 4 })
unfolding lengths cdt nds wds
choice26_4 = refl

choice26_8 : first (at_lanes 8 (those (record { isa = N; vl = 0 }) Arm (row (ctypes.Int types.U16) ((ctypes.Int types.I16) ∷ [])) (sig (kinds.Uniform ∷ []) Both None ∷ sig (kinds.Vector ∷ []) Outside None ∷ []) true ((By (pos 2)) ∷ []))) ≡ Some (record { directive = 1; isa = N; masked = false; lanes = 8 })
unfolding lengths cdt nds wds
choice26_8 = refl

case27 : map seen (those (record { isa = B; vl = 0 }) X86 (row (ctypes.Int types.I32) ((ctypes.Ptr types.I64 false) ∷ (ctypes.Int types.U8) ∷ [])) (sig (kinds.Vector ∷ kinds.Vector ∷ []) Outside (Some 8) ∷ sig (kinds.Vector ∷ kinds.Vector ∷ []) Outside None ∷ []) false (Uniform ∷ (Literal (pos 3)) ∷ [])) ≡ []
unfolding lengths cdt nds wds
case27 = refl

case28 : map seen (those (record { isa = C; vl = 0 }) X86 (row ctypes.Void ((ctypes.Int types.I32) ∷ (ctypes.Int types.I8) ∷ (ctypes.Int types.I8) ∷ [])) (sig (kinds.Uniform ∷ (kinds.Linear (steps.By (negsuc 2))) ∷ kinds.Vector ∷ []) Inside None ∷ sig ((kinds.Linear steps.One) ∷ (kinds.Linear (steps.By (negsuc 2))) ∷ kinds.Vector ∷ []) Inside None ∷ sig (kinds.Vector ∷ (kinds.Linear (steps.By (pos 2))) ∷ kinds.Vector ∷ []) Both None ∷ []) true ((Literal (pos 3)) ∷ (By (negsuc 2)) ∷ Vector ∷ [])) ≡ record { directive = 0; isa = B; masked = true; lanes = 16 } ∷ record { directive = 0; isa = C; masked = true; lanes = 16 } ∷ []
unfolding lengths cdt nds wds
case28 = refl

choice28_16 : first (at_lanes 16 (those (record { isa = C; vl = 0 }) X86 (row ctypes.Void ((ctypes.Int types.I32) ∷ (ctypes.Int types.I8) ∷ (ctypes.Int types.I8) ∷ [])) (sig (kinds.Uniform ∷ (kinds.Linear (steps.By (negsuc 2))) ∷ kinds.Vector ∷ []) Inside None ∷ sig ((kinds.Linear steps.One) ∷ (kinds.Linear (steps.By (negsuc 2))) ∷ kinds.Vector ∷ []) Inside None ∷ sig (kinds.Vector ∷ (kinds.Linear (steps.By (pos 2))) ∷ kinds.Vector ∷ []) Both None ∷ []) true ((Literal (pos 3)) ∷ (By (negsuc 2)) ∷ Vector ∷ []))) ≡ Some (record { directive = 0; isa = C; masked = true; lanes = 16 })
unfolding lengths cdt nds wds
choice28_16 = refl

case29 : map seen (those (record { isa = S; vl = 128 }) Arm (row (ctypes.Int types.I16) ((ctypes.Ptr types.I16 true) ∷ [])) (sig (kinds.Vector ∷ []) Both (Some 8) ∷ sig ((kinds.Linear (steps.By (pos 4))) ∷ []) Inside (Some 2) ∷ sig ((kinds.Linear (steps.By (negsuc 5))) ∷ []) Outside None ∷ []) false ((By (pos 2)) ∷ [])) ≡ record { directive = 0; isa = N; masked = true; lanes = 8 } ∷ record { directive = 1; isa = N; masked = true; lanes = 2 } ∷ []
unfolding lengths cdt nds wds
case29 = refl

choice29_2 : first (at_lanes 2 (those (record { isa = S; vl = 128 }) Arm (row (ctypes.Int types.I16) ((ctypes.Ptr types.I16 true) ∷ [])) (sig (kinds.Vector ∷ []) Both (Some 8) ∷ sig ((kinds.Linear (steps.By (pos 4))) ∷ []) Inside (Some 2) ∷ sig ((kinds.Linear (steps.By (negsuc 5))) ∷ []) Outside None ∷ []) false ((By (pos 2)) ∷ []))) ≡ Some (record { directive = 1; isa = N; masked = true; lanes = 2 })
unfolding lengths cdt nds wds
choice29_2 = refl

choice29_8 : first (at_lanes 8 (those (record { isa = S; vl = 128 }) Arm (row (ctypes.Int types.I16) ((ctypes.Ptr types.I16 true) ∷ [])) (sig (kinds.Vector ∷ []) Both (Some 8) ∷ sig ((kinds.Linear (steps.By (pos 4))) ∷ []) Inside (Some 2) ∷ sig ((kinds.Linear (steps.By (negsuc 5))) ∷ []) Outside None ∷ []) false ((By (pos 2)) ∷ []))) ≡ Some (record { directive = 0; isa = N; masked = true; lanes = 8 })
unfolding lengths cdt nds wds
choice29_8 = refl

case30 : map seen (those (record { isa = E; vl = 0 }) X86 (row (ctypes.Int types.I16) ((ctypes.Ptr types.I32 false) ∷ [])) (sig (kinds.Vector ∷ []) Both (Some 4) ∷ []) true ((By (pos 2)) ∷ [])) ≡ record { directive = 0; isa = B; masked = false; lanes = 4 } ∷ record { directive = 0; isa = B; masked = true; lanes = 4 } ∷ record { directive = 0; isa = C; masked = false; lanes = 4 } ∷ record { directive = 0; isa = C; masked = true; lanes = 4 } ∷ record { directive = 0; isa = D; masked = false; lanes = 4 } ∷ record { directive = 0; isa = D; masked = true; lanes = 4 } ∷ record { directive = 0; isa = E; masked = false; lanes = 4 } ∷ record { directive = 0; isa = E; masked = true; lanes = 4 } ∷ []
unfolding lengths cdt nds wds
case30 = refl

choice30_4 : first (at_lanes 4 (those (record { isa = E; vl = 0 }) X86 (row (ctypes.Int types.I16) ((ctypes.Ptr types.I32 false) ∷ [])) (sig (kinds.Vector ∷ []) Both (Some 4) ∷ []) true ((By (pos 2)) ∷ []))) ≡ Some (record { directive = 0; isa = E; masked = false; lanes = 4 })
unfolding lengths cdt nds wds
choice30_4 = refl

case31 : map seen (those (record { isa = E; vl = 0 }) X86 (row (ctypes.Int types.U32) ((ctypes.Int types.I16) ∷ [])) (sig ((kinds.Linear (steps.By (pos 2))) ∷ []) Both (Some 8) ∷ sig ((kinds.Linear steps.One) ∷ []) Outside None ∷ sig ((kinds.Linear (steps.By (pos 2))) ∷ []) Both None ∷ []) false ((By (pos 1)) ∷ [])) ≡ []
unfolding lengths cdt nds wds
case31 = refl

case32 : map seen (those (record { isa = S; vl = 128 }) Arm (row (ctypes.Int types.U8) ([])) (sig ([]) Both (Some 2) ∷ sig ([]) Both (Some 8) ∷ sig ([]) Both None ∷ []) false ([])) ≡ record { directive = 0; isa = N; masked = true; lanes = 2 } ∷ record { directive = 1; isa = N; masked = true; lanes = 8 } ∷ record { directive = 2; isa = N; masked = true; lanes = 8 } ∷ record { directive = 2; isa = N; masked = true; lanes = 16 } ∷ record { directive = 2; isa = S; masked = true; lanes = 16 } ∷ []
unfolding lengths cdt nds wds
case32 = refl

choice32_2 : first (at_lanes 2 (those (record { isa = S; vl = 128 }) Arm (row (ctypes.Int types.U8) ([])) (sig ([]) Both (Some 2) ∷ sig ([]) Both (Some 8) ∷ sig ([]) Both None ∷ []) false ([]))) ≡ Some (record { directive = 0; isa = N; masked = true; lanes = 2 })
unfolding lengths cdt nds wds
choice32_2 = refl

choice32_8 : first (at_lanes 8 (those (record { isa = S; vl = 128 }) Arm (row (ctypes.Int types.U8) ([])) (sig ([]) Both (Some 2) ∷ sig ([]) Both (Some 8) ∷ sig ([]) Both None ∷ []) false ([]))) ≡ Some (record { directive = 1; isa = N; masked = true; lanes = 8 })
unfolding lengths cdt nds wds
choice32_8 = refl

choice32_16 : first (at_lanes 16 (those (record { isa = S; vl = 128 }) Arm (row (ctypes.Int types.U8) ([])) (sig ([]) Both (Some 2) ∷ sig ([]) Both (Some 8) ∷ sig ([]) Both None ∷ []) false ([]))) ≡ Some (record { directive = 2; isa = S; masked = true; lanes = 16 })
unfolding lengths cdt nds wds
choice32_16 = refl

case33 : map seen (those (record { isa = E; vl = 0 }) X86 (row ctypes.Void ((ctypes.Int types.I16) ∷ (ctypes.Int types.U32) ∷ [])) (sig (kinds.Vector ∷ kinds.Vector ∷ []) Both (Some 4) ∷ []) false (Vector ∷ Vector ∷ [])) ≡ record { directive = 0; isa = B; masked = true; lanes = 4 } ∷ record { directive = 0; isa = C; masked = true; lanes = 4 } ∷ record { directive = 0; isa = D; masked = true; lanes = 4 } ∷ record { directive = 0; isa = E; masked = true; lanes = 4 } ∷ []
unfolding lengths cdt nds wds
case33 = refl

choice33_4 : first (at_lanes 4 (those (record { isa = E; vl = 0 }) X86 (row ctypes.Void ((ctypes.Int types.I16) ∷ (ctypes.Int types.U32) ∷ [])) (sig (kinds.Vector ∷ kinds.Vector ∷ []) Both (Some 4) ∷ []) false (Vector ∷ Vector ∷ []))) ≡ Some (record { directive = 0; isa = E; masked = true; lanes = 4 })
unfolding lengths cdt nds wds
choice33_4 = refl

case34 : map seen (those (record { isa = D; vl = 0 }) X86 (row (ctypes.Int types.I8) ((ctypes.Int types.U32) ∷ (ctypes.Int types.U8) ∷ [])) (sig (kinds.Uniform ∷ kinds.Vector ∷ []) Both (Some 4) ∷ []) true ((Same 1) ∷ Vector ∷ [])) ≡ record { directive = 0; isa = B; masked = false; lanes = 4 } ∷ record { directive = 0; isa = B; masked = true; lanes = 4 } ∷ record { directive = 0; isa = C; masked = false; lanes = 4 } ∷ record { directive = 0; isa = C; masked = true; lanes = 4 } ∷ record { directive = 0; isa = D; masked = false; lanes = 4 } ∷ record { directive = 0; isa = D; masked = true; lanes = 4 } ∷ []
unfolding lengths cdt nds wds
case34 = refl

choice34_4 : first (at_lanes 4 (those (record { isa = D; vl = 0 }) X86 (row (ctypes.Int types.I8) ((ctypes.Int types.U32) ∷ (ctypes.Int types.U8) ∷ [])) (sig (kinds.Uniform ∷ kinds.Vector ∷ []) Both (Some 4) ∷ []) true ((Same 1) ∷ Vector ∷ []))) ≡ Some (record { directive = 0; isa = D; masked = false; lanes = 4 })
unfolding lengths cdt nds wds
choice34_4 = refl

case35 : map seen (those (record { isa = C; vl = 0 }) X86 (row (ctypes.Int types.U32) ((ctypes.Int types.I32) ∷ (ctypes.Ptr types.I64 false) ∷ (ctypes.Int types.I32) ∷ (ctypes.Int types.U64) ∷ [])) (sig (kinds.Vector ∷ kinds.Vector ∷ (kinds.Linear (steps.Arg 3)) ∷ kinds.Uniform ∷ []) Outside None ∷ sig (kinds.Uniform ∷ (kinds.Linear (steps.By (negsuc 23))) ∷ kinds.Vector ∷ kinds.Vector ∷ []) Outside None ∷ []) false ((By (pos 2)) ∷ Uniform ∷ (By (pos 1)) ∷ Uniform ∷ [])) ≡ []
unfolding lengths cdt nds wds
case35 = refl

case36 : map seen (those (record { isa = E; vl = 0 }) X86 (row (ctypes.Int types.U16) ((ctypes.Int types.I64) ∷ (ctypes.Int types.U16) ∷ [])) (sig ((kinds.Linear (steps.By (negsuc 2))) ∷ (kinds.Linear steps.One) ∷ []) Outside (Some 8) ∷ []) true ((By (negsuc 2)) ∷ (By (pos 1)) ∷ [])) ≡ record { directive = 0; isa = B; masked = false; lanes = 8 } ∷ record { directive = 0; isa = C; masked = false; lanes = 8 } ∷ record { directive = 0; isa = D; masked = false; lanes = 8 } ∷ record { directive = 0; isa = E; masked = false; lanes = 8 } ∷ []
unfolding lengths cdt nds wds
case36 = refl

choice36_8 : first (at_lanes 8 (those (record { isa = E; vl = 0 }) X86 (row (ctypes.Int types.U16) ((ctypes.Int types.I64) ∷ (ctypes.Int types.U16) ∷ [])) (sig ((kinds.Linear (steps.By (negsuc 2))) ∷ (kinds.Linear steps.One) ∷ []) Outside (Some 8) ∷ []) true ((By (negsuc 2)) ∷ (By (pos 1)) ∷ []))) ≡ Some (record { directive = 0; isa = E; masked = false; lanes = 8 })
unfolding lengths cdt nds wds
choice36_8 = refl

case37 : map seen (those (record { isa = S; vl = 128 }) Arm (row (ctypes.Int types.I16) ((ctypes.Int types.U32) ∷ [])) (sig (kinds.Vector ∷ []) Both (Some 4) ∷ sig (kinds.Uniform ∷ []) Inside (Some 2) ∷ sig (kinds.Uniform ∷ []) Both (Some 8) ∷ []) false ((By (pos 2)) ∷ [])) ≡ record { directive = 0; isa = N; masked = true; lanes = 4 } ∷ record { directive = 0; isa = S; masked = true; lanes = 4 } ∷ []
unfolding lengths cdt nds wds
case37 = refl

choice37_4 : first (at_lanes 4 (those (record { isa = S; vl = 128 }) Arm (row (ctypes.Int types.I16) ((ctypes.Int types.U32) ∷ [])) (sig (kinds.Vector ∷ []) Both (Some 4) ∷ sig (kinds.Uniform ∷ []) Inside (Some 2) ∷ sig (kinds.Uniform ∷ []) Both (Some 8) ∷ []) false ((By (pos 2)) ∷ []))) ≡ Some (record { directive = 0; isa = S; masked = true; lanes = 4 })
unfolding lengths cdt nds wds
choice37_4 = refl

case38 : map seen (those (record { isa = B; vl = 0 }) X86 (row (ctypes.Int types.I8) ((ctypes.Int types.I8) ∷ (ctypes.Int types.U16) ∷ (ctypes.Ptr types.I64 false) ∷ [])) (sig (kinds.Vector ∷ kinds.Vector ∷ kinds.Uniform ∷ []) Outside (Some 8) ∷ sig (kinds.Uniform ∷ (kinds.Linear (steps.By (negsuc 2))) ∷ (kinds.Linear (steps.Arg 0)) ∷ []) Inside (Some 4) ∷ sig ((kinds.Linear steps.One) ∷ (kinds.Linear (steps.By (negsuc 2))) ∷ kinds.Vector ∷ []) Inside None ∷ []) true ((By (pos 2)) ∷ (By (pos 3)) ∷ Vector ∷ [])) ≡ []
unfolding lengths cdt nds wds
case38 = refl

case39 : map seen (those (record { isa = N; vl = 0 }) Arm (row (ctypes.Int types.I8) ((ctypes.Int types.I16) ∷ [])) (sig ((kinds.Linear (steps.By (pos 2))) ∷ []) Inside (Some 2) ∷ []) true ((By (pos 2)) ∷ [])) ≡ record { directive = 0; isa = N; masked = true; lanes = 2 } ∷ []
unfolding lengths cdt nds wds
case39 = refl

choice39_2 : first (at_lanes 2 (those (record { isa = N; vl = 0 }) Arm (row (ctypes.Int types.I8) ((ctypes.Int types.I16) ∷ [])) (sig ((kinds.Linear (steps.By (pos 2))) ∷ []) Inside (Some 2) ∷ []) true ((By (pos 2)) ∷ []))) ≡ Some (record { directive = 0; isa = N; masked = true; lanes = 2 })
unfolding lengths cdt nds wds
choice39_2 = refl

case40 : map seen (those (record { isa = S; vl = 256 }) Arm (row (ctypes.Int types.I64) ([])) (sig ([]) Outside (Some 8) ∷ sig ([]) Inside None ∷ []) true ([])) ≡ record { directive = 0; isa = N; masked = false; lanes = 8 } ∷ record { directive = 1; isa = N; masked = true; lanes = 2 } ∷ record { directive = 1; isa = S; masked = true; lanes = 4 } ∷ []
unfolding lengths cdt nds wds
case40 = refl

choice40_2 : first (at_lanes 2 (those (record { isa = S; vl = 256 }) Arm (row (ctypes.Int types.I64) ([])) (sig ([]) Outside (Some 8) ∷ sig ([]) Inside None ∷ []) true ([]))) ≡ Some (record { directive = 1; isa = N; masked = true; lanes = 2 })
unfolding lengths cdt nds wds
choice40_2 = refl

choice40_4 : first (at_lanes 4 (those (record { isa = S; vl = 256 }) Arm (row (ctypes.Int types.I64) ([])) (sig ([]) Outside (Some 8) ∷ sig ([]) Inside None ∷ []) true ([]))) ≡ Some (record { directive = 1; isa = S; masked = true; lanes = 4 })
unfolding lengths cdt nds wds
choice40_4 = refl

choice40_8 : first (at_lanes 8 (those (record { isa = S; vl = 256 }) Arm (row (ctypes.Int types.I64) ([])) (sig ([]) Outside (Some 8) ∷ sig ([]) Inside None ∷ []) true ([]))) ≡ Some (record { directive = 0; isa = N; masked = false; lanes = 8 })
unfolding lengths cdt nds wds
choice40_8 = refl

case41 : map seen (those (record { isa = C; vl = 0 }) X86 (row (ctypes.Int types.U32) ((ctypes.Int types.I64) ∷ (ctypes.Ptr types.I64 false) ∷ (ctypes.Ptr types.I16 true) ∷ (ctypes.Int types.U16) ∷ [])) (sig (kinds.Vector ∷ (kinds.Linear (steps.By (negsuc 23))) ∷ (kinds.Linear (steps.By (pos 4))) ∷ kinds.Vector ∷ []) Both None ∷ sig (kinds.Vector ∷ (kinds.Linear (steps.By (negsuc 23))) ∷ kinds.Vector ∷ (kinds.Linear steps.One) ∷ []) Outside (Some 8) ∷ []) true ((By (pos 2)) ∷ (By (negsuc 2)) ∷ (By (pos 2)) ∷ Uniform ∷ [])) ≡ record { directive = 0; isa = B; masked = false; lanes = 4 } ∷ record { directive = 0; isa = B; masked = true; lanes = 4 } ∷ record { directive = 0; isa = C; masked = false; lanes = 4 } ∷ record { directive = 0; isa = C; masked = true; lanes = 4 } ∷ []
unfolding lengths cdt nds wds
case41 = refl

choice41_4 : first (at_lanes 4 (those (record { isa = C; vl = 0 }) X86 (row (ctypes.Int types.U32) ((ctypes.Int types.I64) ∷ (ctypes.Ptr types.I64 false) ∷ (ctypes.Ptr types.I16 true) ∷ (ctypes.Int types.U16) ∷ [])) (sig (kinds.Vector ∷ (kinds.Linear (steps.By (negsuc 23))) ∷ (kinds.Linear (steps.By (pos 4))) ∷ kinds.Vector ∷ []) Both None ∷ sig (kinds.Vector ∷ (kinds.Linear (steps.By (negsuc 23))) ∷ kinds.Vector ∷ (kinds.Linear steps.One) ∷ []) Outside (Some 8) ∷ []) true ((By (pos 2)) ∷ (By (negsuc 2)) ∷ (By (pos 2)) ∷ Uniform ∷ []))) ≡ Some (record { directive = 0; isa = C; masked = false; lanes = 4 })
unfolding lengths cdt nds wds
choice41_4 = refl

case42 : map seen (those (record { isa = C; vl = 0 }) X86 (row (ctypes.Int types.I8) ((ctypes.Int types.I32) ∷ (ctypes.Int types.U32) ∷ [])) (sig (kinds.Vector ∷ kinds.Uniform ∷ []) Outside (Some 2) ∷ []) false ((By (pos 2)) ∷ Uniform ∷ [])) ≡ []
unfolding lengths cdt nds wds
case42 = refl

case43 : map seen (those (record { isa = D; vl = 0 }) X86 (row (ctypes.Int types.U64) ([])) (sig ([]) Outside None ∷ []) true ([])) ≡ record { directive = 0; isa = B; masked = false; lanes = 2 } ∷ record { directive = 0; isa = C; masked = false; lanes = 2 } ∷ record { directive = 0; isa = D; masked = false; lanes = 4 } ∷ []
unfolding lengths cdt nds wds
case43 = refl

choice43_2 : first (at_lanes 2 (those (record { isa = D; vl = 0 }) X86 (row (ctypes.Int types.U64) ([])) (sig ([]) Outside None ∷ []) true ([]))) ≡ Some (record { directive = 0; isa = C; masked = false; lanes = 2 })
unfolding lengths cdt nds wds
choice43_2 = refl

choice43_4 : first (at_lanes 4 (those (record { isa = D; vl = 0 }) X86 (row (ctypes.Int types.U64) ([])) (sig ([]) Outside None ∷ []) true ([]))) ≡ Some (record { directive = 0; isa = D; masked = false; lanes = 4 })
unfolding lengths cdt nds wds
choice43_4 = refl

case44 : map seen (those (record { isa = N; vl = 0 }) Arm (row (ctypes.Int types.U64) ((ctypes.Ptr types.I64 false) ∷ (ctypes.Int types.U32) ∷ (ctypes.Int types.I64) ∷ [])) (sig (kinds.Vector ∷ (kinds.Linear steps.One) ∷ kinds.Vector ∷ []) Both (Some 4) ∷ []) true ((Literal (pos 3)) ∷ (Along 1) ∷ Vector ∷ [])) ≡ []
unfolding lengths cdt nds wds
case44 = refl

case45 : map seen (those (record { isa = S; vl = 128 }) Arm (row (ctypes.Int types.U64) ((ctypes.Int types.U16) ∷ (ctypes.Int types.I32) ∷ [])) (sig ((kinds.Linear steps.One) ∷ kinds.Vector ∷ []) Outside (Some 8) ∷ sig (kinds.Vector ∷ kinds.Vector ∷ []) Outside (Some 4) ∷ sig (kinds.Vector ∷ kinds.Vector ∷ []) Inside (Some 4) ∷ []) false (Uniform ∷ (Literal (pos 3)) ∷ [])) ≡ record { directive = 2; isa = N; masked = true; lanes = 4 } ∷ []
unfolding lengths cdt nds wds
case45 = refl

choice45_4 : first (at_lanes 4 (those (record { isa = S; vl = 128 }) Arm (row (ctypes.Int types.U64) ((ctypes.Int types.U16) ∷ (ctypes.Int types.I32) ∷ [])) (sig ((kinds.Linear steps.One) ∷ kinds.Vector ∷ []) Outside (Some 8) ∷ sig (kinds.Vector ∷ kinds.Vector ∷ []) Outside (Some 4) ∷ sig (kinds.Vector ∷ kinds.Vector ∷ []) Inside (Some 4) ∷ []) false (Uniform ∷ (Literal (pos 3)) ∷ []))) ≡ Some (record { directive = 2; isa = N; masked = true; lanes = 4 })
unfolding lengths cdt nds wds
choice45_4 = refl

case46 : map seen (those (record { isa = N; vl = 0 }) Arm (row (ctypes.Int types.U32) ((ctypes.Int types.U16) ∷ [])) (sig (kinds.Vector ∷ []) Inside None ∷ []) false (Uniform ∷ [])) ≡ record { directive = 0; isa = N; masked = true; lanes = 4 } ∷ record { directive = 0; isa = N; masked = true; lanes = 8 } ∷ []
unfolding lengths cdt nds wds
case46 = refl

choice46_4 : first (at_lanes 4 (those (record { isa = N; vl = 0 }) Arm (row (ctypes.Int types.U32) ((ctypes.Int types.U16) ∷ [])) (sig (kinds.Vector ∷ []) Inside None ∷ []) false (Uniform ∷ []))) ≡ Some (record { directive = 0; isa = N; masked = true; lanes = 4 })
unfolding lengths cdt nds wds
choice46_4 = refl

choice46_8 : first (at_lanes 8 (those (record { isa = N; vl = 0 }) Arm (row (ctypes.Int types.U32) ((ctypes.Int types.U16) ∷ [])) (sig (kinds.Vector ∷ []) Inside None ∷ []) false (Uniform ∷ []))) ≡ Some (record { directive = 0; isa = N; masked = true; lanes = 8 })
unfolding lengths cdt nds wds
choice46_8 = refl

case47 : map seen (those (record { isa = D; vl = 0 }) X86 (row ctypes.Void ([])) (sig ([]) Both None ∷ sig ([]) Inside None ∷ []) false ([])) ≡ record { directive = 0; isa = B; masked = true; lanes = 4 } ∷ record { directive = 0; isa = C; masked = true; lanes = 4 } ∷ record { directive = 0; isa = D; masked = true; lanes = 8 } ∷ record { directive = 1; isa = B; masked = true; lanes = 4 } ∷ record { directive = 1; isa = C; masked = true; lanes = 4 } ∷ record { directive = 1; isa = D; masked = true; lanes = 8 } ∷ []
unfolding lengths cdt nds wds
case47 = refl

choice47_4 : first (at_lanes 4 (those (record { isa = D; vl = 0 }) X86 (row ctypes.Void ([])) (sig ([]) Both None ∷ sig ([]) Inside None ∷ []) false ([]))) ≡ Some (record { directive = 0; isa = C; masked = true; lanes = 4 })
unfolding lengths cdt nds wds
choice47_4 = refl

choice47_8 : first (at_lanes 8 (those (record { isa = D; vl = 0 }) X86 (row ctypes.Void ([])) (sig ([]) Both None ∷ sig ([]) Inside None ∷ []) false ([]))) ≡ Some (record { directive = 0; isa = D; masked = true; lanes = 8 })
unfolding lengths cdt nds wds
choice47_8 = refl

case48 : map seen (those (record { isa = C; vl = 0 }) X86 (row (ctypes.Int types.I32) ([])) (sig ([]) Both (Some 2) ∷ sig ([]) Inside (Some 8) ∷ []) false ([])) ≡ record { directive = 0; isa = B; masked = true; lanes = 2 } ∷ record { directive = 0; isa = C; masked = true; lanes = 2 } ∷ record { directive = 1; isa = B; masked = true; lanes = 8 } ∷ record { directive = 1; isa = C; masked = true; lanes = 8 } ∷ []
unfolding lengths cdt nds wds
case48 = refl

choice48_2 : first (at_lanes 2 (those (record { isa = C; vl = 0 }) X86 (row (ctypes.Int types.I32) ([])) (sig ([]) Both (Some 2) ∷ sig ([]) Inside (Some 8) ∷ []) false ([]))) ≡ Some (record { directive = 0; isa = C; masked = true; lanes = 2 })
unfolding lengths cdt nds wds
choice48_2 = refl

choice48_8 : first (at_lanes 8 (those (record { isa = C; vl = 0 }) X86 (row (ctypes.Int types.I32) ([])) (sig ([]) Both (Some 2) ∷ sig ([]) Inside (Some 8) ∷ []) false ([]))) ≡ Some (record { directive = 1; isa = C; masked = true; lanes = 8 })
unfolding lengths cdt nds wds
choice48_8 = refl

case49 : map seen (those (record { isa = D; vl = 0 }) X86 (row (ctypes.Int types.U16) ((ctypes.Int types.I64) ∷ (ctypes.Int types.I16) ∷ (ctypes.Int types.U64) ∷ [])) (sig ((kinds.Linear steps.One) ∷ (kinds.Linear steps.One) ∷ kinds.Vector ∷ []) Both None ∷ []) true ((By (pos 2)) ∷ (By (pos 1)) ∷ (Literal (pos 3)) ∷ [])) ≡ []
unfolding lengths cdt nds wds
case49 = refl

case50 : map seen (those (record { isa = B; vl = 0 }) X86 (row (ctypes.Int types.U64) ((ctypes.Int types.I16) ∷ (ctypes.Int types.U8) ∷ (ctypes.Ptr types.I16 true) ∷ (ctypes.Ptr types.I64 false) ∷ [])) (sig (kinds.Vector ∷ kinds.Vector ∷ (kinds.Linear (steps.By (negsuc 5))) ∷ kinds.Uniform ∷ []) Outside (Some 2) ∷ sig (kinds.Uniform ∷ kinds.Vector ∷ kinds.Vector ∷ (kinds.Linear (steps.By (pos 16))) ∷ []) Inside (Some 8) ∷ sig (kinds.Vector ∷ (kinds.Linear steps.One) ∷ (kinds.Linear (steps.By (pos 2))) ∷ kinds.Vector ∷ []) Both (Some 8) ∷ []) true ((Literal (pos 3)) ∷ (Literal (pos 3)) ∷ Vector ∷ Vector ∷ [])) ≡ []
unfolding lengths cdt nds wds
case50 = refl

case51 : map seen (those (record { isa = S; vl = 512 }) Arm (row (ctypes.Int types.I64) ((ctypes.Int types.I8) ∷ (ctypes.Int types.U32) ∷ (ctypes.Int types.I32) ∷ [])) (sig (kinds.Vector ∷ (kinds.Linear (steps.Arg 2)) ∷ kinds.Uniform ∷ []) Both (Some 4) ∷ sig ((kinds.Linear steps.One) ∷ kinds.Vector ∷ (kinds.Linear steps.One) ∷ []) Inside None ∷ sig ((kinds.Linear (steps.By (pos 2))) ∷ kinds.Vector ∷ kinds.Vector ∷ []) Inside (Some 2) ∷ []) false (Vector ∷ Uniform ∷ (By (pos 2)) ∷ [])) ≡ []
unfolding lengths cdt nds wds
case51 = refl

case52 : map seen (those (record { isa = B; vl = 0 }) X86 (row (ctypes.Int types.I32) ((ctypes.Ptr types.I16 true) ∷ [])) (sig (kinds.Vector ∷ []) Both (Some 8) ∷ sig (kinds.Vector ∷ []) Inside None ∷ []) true ((Literal (pos 3)) ∷ [])) ≡ record { directive = 0; isa = B; masked = false; lanes = 8 } ∷ record { directive = 0; isa = B; masked = true; lanes = 8 } ∷ record { directive = 1; isa = B; masked = true; lanes = 4 } ∷ []
unfolding lengths cdt nds wds
case52 = refl

choice52_4 : first (at_lanes 4 (those (record { isa = B; vl = 0 }) X86 (row (ctypes.Int types.I32) ((ctypes.Ptr types.I16 true) ∷ [])) (sig (kinds.Vector ∷ []) Both (Some 8) ∷ sig (kinds.Vector ∷ []) Inside None ∷ []) true ((Literal (pos 3)) ∷ []))) ≡ Some (record { directive = 1; isa = B; masked = true; lanes = 4 })
unfolding lengths cdt nds wds
choice52_4 = refl

choice52_8 : first (at_lanes 8 (those (record { isa = B; vl = 0 }) X86 (row (ctypes.Int types.I32) ((ctypes.Ptr types.I16 true) ∷ [])) (sig (kinds.Vector ∷ []) Both (Some 8) ∷ sig (kinds.Vector ∷ []) Inside None ∷ []) true ((Literal (pos 3)) ∷ []))) ≡ Some (record { directive = 0; isa = B; masked = false; lanes = 8 })
unfolding lengths cdt nds wds
choice52_8 = refl

case53 : map seen (those (record { isa = D; vl = 0 }) X86 (row (ctypes.Int types.I64) ((ctypes.Int types.I64) ∷ (ctypes.Int types.U8) ∷ (ctypes.Int types.I8) ∷ (ctypes.Ptr types.I32 false) ∷ [])) (sig ((kinds.Linear (steps.By (pos 2))) ∷ (kinds.Linear (steps.By (negsuc 2))) ∷ kinds.Vector ∷ kinds.Uniform ∷ []) Outside None ∷ []) false ((By (pos 3)) ∷ (By (negsuc 2)) ∷ Vector ∷ Uniform ∷ [])) ≡ []
unfolding lengths cdt nds wds
case53 = refl

case54 : map seen (those (record { isa = B; vl = 0 }) X86 (row ctypes.Void ((ctypes.Int types.I16) ∷ (ctypes.Ptr types.I32 false) ∷ (ctypes.Int types.U8) ∷ [])) (sig ((kinds.Linear steps.One) ∷ kinds.Uniform ∷ kinds.Vector ∷ []) Both (Some 2) ∷ sig (kinds.Uniform ∷ kinds.Uniform ∷ kinds.Vector ∷ []) Outside None ∷ []) true (Uniform ∷ (Literal (pos 3)) ∷ Vector ∷ [])) ≡ record { directive = 1; isa = B; masked = false; lanes = 16 } ∷ []
unfolding lengths cdt nds wds
case54 = refl

choice54_16 : first (at_lanes 16 (those (record { isa = B; vl = 0 }) X86 (row ctypes.Void ((ctypes.Int types.I16) ∷ (ctypes.Ptr types.I32 false) ∷ (ctypes.Int types.U8) ∷ [])) (sig ((kinds.Linear steps.One) ∷ kinds.Uniform ∷ kinds.Vector ∷ []) Both (Some 2) ∷ sig (kinds.Uniform ∷ kinds.Uniform ∷ kinds.Vector ∷ []) Outside None ∷ []) true (Uniform ∷ (Literal (pos 3)) ∷ Vector ∷ []))) ≡ Some (record { directive = 1; isa = B; masked = false; lanes = 16 })
unfolding lengths cdt nds wds
choice54_16 = refl

case55 : map seen (those (record { isa = N; vl = 0 }) Arm (row (ctypes.Int types.U8) ([])) (sig ([]) Both None ∷ sig ([]) Outside (Some 4) ∷ []) false ([])) ≡ record { directive = 0; isa = N; masked = true; lanes = 8 } ∷ record { directive = 0; isa = N; masked = true; lanes = 16 } ∷ []
unfolding lengths cdt nds wds
case55 = refl

choice55_8 : first (at_lanes 8 (those (record { isa = N; vl = 0 }) Arm (row (ctypes.Int types.U8) ([])) (sig ([]) Both None ∷ sig ([]) Outside (Some 4) ∷ []) false ([]))) ≡ Some (record { directive = 0; isa = N; masked = true; lanes = 8 })
unfolding lengths cdt nds wds
choice55_8 = refl

choice55_16 : first (at_lanes 16 (those (record { isa = N; vl = 0 }) Arm (row (ctypes.Int types.U8) ([])) (sig ([]) Both None ∷ sig ([]) Outside (Some 4) ∷ []) false ([]))) ≡ Some (record { directive = 0; isa = N; masked = true; lanes = 16 })
unfolding lengths cdt nds wds
choice55_16 = refl

case56 : map seen (those (record { isa = S; vl = 512 }) Arm (row (ctypes.Int types.I8) ((ctypes.Int types.I32) ∷ (ctypes.Ptr types.I16 true) ∷ (ctypes.Int types.I32) ∷ [])) (sig (kinds.Vector ∷ kinds.Vector ∷ kinds.Uniform ∷ []) Outside (Some 2) ∷ sig (kinds.Uniform ∷ (kinds.Linear (steps.By (pos 2))) ∷ kinds.Vector ∷ []) Inside (Some 2) ∷ sig (kinds.Uniform ∷ (kinds.Linear (steps.By (pos 2))) ∷ kinds.Uniform ∷ []) Outside None ∷ []) false (Uniform ∷ (By (pos 1)) ∷ (By (pos 2)) ∷ [])) ≡ record { directive = 1; isa = N; masked = true; lanes = 2 } ∷ []
unfolding lengths cdt nds wds
case56 = refl

choice56_2 : first (at_lanes 2 (those (record { isa = S; vl = 512 }) Arm (row (ctypes.Int types.I8) ((ctypes.Int types.I32) ∷ (ctypes.Ptr types.I16 true) ∷ (ctypes.Int types.I32) ∷ [])) (sig (kinds.Vector ∷ kinds.Vector ∷ kinds.Uniform ∷ []) Outside (Some 2) ∷ sig (kinds.Uniform ∷ (kinds.Linear (steps.By (pos 2))) ∷ kinds.Vector ∷ []) Inside (Some 2) ∷ sig (kinds.Uniform ∷ (kinds.Linear (steps.By (pos 2))) ∷ kinds.Uniform ∷ []) Outside None ∷ []) false (Uniform ∷ (By (pos 1)) ∷ (By (pos 2)) ∷ []))) ≡ Some (record { directive = 1; isa = N; masked = true; lanes = 2 })
unfolding lengths cdt nds wds
choice56_2 = refl

case57 : map seen (those (record { isa = D; vl = 0 }) X86 (row (ctypes.Int types.U8) ([])) (sig ([]) Inside (Some 4) ∷ []) true ([])) ≡ record { directive = 0; isa = B; masked = true; lanes = 4 } ∷ record { directive = 0; isa = C; masked = true; lanes = 4 } ∷ record { directive = 0; isa = D; masked = true; lanes = 4 } ∷ []
unfolding lengths cdt nds wds
case57 = refl

choice57_4 : first (at_lanes 4 (those (record { isa = D; vl = 0 }) X86 (row (ctypes.Int types.U8) ([])) (sig ([]) Inside (Some 4) ∷ []) true ([]))) ≡ Some (record { directive = 0; isa = D; masked = true; lanes = 4 })
unfolding lengths cdt nds wds
choice57_4 = refl

case58 : map seen (those (record { isa = N; vl = 0 }) Arm (row ctypes.Void ((ctypes.Int types.I8) ∷ (ctypes.Int types.U16) ∷ [])) (sig ((kinds.Linear (steps.By (pos 2))) ∷ kinds.Vector ∷ []) Outside None ∷ sig ((kinds.Linear (steps.By (pos 2))) ∷ (kinds.Linear steps.One) ∷ []) Inside None ∷ sig (kinds.Vector ∷ (kinds.Linear (steps.By (negsuc 2))) ∷ []) Inside (Some 8) ∷ []) true ((By (pos 1)) ∷ (Literal (pos 3)) ∷ [])) ≡ []
unfolding lengths cdt nds wds
case58 = refl

case59 : map seen (those (record { isa = E; vl = 0 }) X86 (row (ctypes.Int types.I32) ((ctypes.Int types.U64) ∷ (ctypes.Ptr types.I16 true) ∷ (ctypes.Int types.U16) ∷ (ctypes.Int types.I8) ∷ [])) (sig (kinds.Vector ∷ (kinds.Linear (steps.By (negsuc 5))) ∷ (kinds.Linear steps.One) ∷ kinds.Uniform ∷ []) Inside (Some 4) ∷ sig (kinds.Vector ∷ kinds.Vector ∷ kinds.Vector ∷ kinds.Vector ∷ []) Outside (Some 4) ∷ []) true (Vector ∷ (By (negsuc 2)) ∷ (By (pos 3)) ∷ (Same 1) ∷ [])) ≡ record { directive = 1; isa = B; masked = false; lanes = 4 } ∷ record { directive = 1; isa = C; masked = false; lanes = 4 } ∷ record { directive = 1; isa = D; masked = false; lanes = 4 } ∷ record { directive = 1; isa = E; masked = false; lanes = 4 } ∷ []
unfolding lengths cdt nds wds
case59 = refl

choice59_4 : first (at_lanes 4 (those (record { isa = E; vl = 0 }) X86 (row (ctypes.Int types.I32) ((ctypes.Int types.U64) ∷ (ctypes.Ptr types.I16 true) ∷ (ctypes.Int types.U16) ∷ (ctypes.Int types.I8) ∷ [])) (sig (kinds.Vector ∷ (kinds.Linear (steps.By (negsuc 5))) ∷ (kinds.Linear steps.One) ∷ kinds.Uniform ∷ []) Inside (Some 4) ∷ sig (kinds.Vector ∷ kinds.Vector ∷ kinds.Vector ∷ kinds.Vector ∷ []) Outside (Some 4) ∷ []) true (Vector ∷ (By (negsuc 2)) ∷ (By (pos 3)) ∷ (Same 1) ∷ []))) ≡ Some (record { directive = 1; isa = E; masked = false; lanes = 4 })
unfolding lengths cdt nds wds
choice59_4 = refl
