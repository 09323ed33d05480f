-- Arm by arm: what the arm's vector has in each lane is what its operator gives there.
use Rattle.std.proofs.Common.{◌≡◌, ℕ, ◌*◌, ◌%◌, ◌^◌, List, length, map, cond, bit_and, bit_or, bit_xor, nat_lt, nat_le, ap, ap₂, ◌∙◌, w64}
use Rattle.std.specs.Int.{bit_not}
use Rattle.std.specs.Simd.Lanes.{zip2}
use Rattle.vk_types.specs.declared.types.Ty.{Ty}
use Rattle.vk_lanes.specs.Inner.Patterns.{biased, count_of, extended, wrap_add, wrap_sub}
use Rattle.vk_lanes.proofs.Vectors.{counts_fit, from_constant, map-map_eight, map-zip2, of_op, zip2-map_right, zip2-maps, zip2_first, zip2_left}
use Rattle.vk_lanes.proofs.patterns.computed8.Goals.{in-Add, in-Sub, in-Mul, in-And, in-Or, in-Xor, in-Shl, in-Shr, in-Eq, in-Ne, in-Lt, in-Le, in-Neg, in-Not, in-Extend, in-Copy}
use Rattle.vk_lanes.proofs.patterns.computed8.Goals as goal

pub overflow_shl-x : goal.overflow_shl-x
overflow_shl-x c = counts_fit c.args.x c.counts8.result c.counts8.ensures.below

pub returns : goal.returns
returns c =
    let t : Ty = c.args.t in
    let x : List ℕ = c.args.x in
    let y : List ℕ = c.args.y in
    let m : length x ≡ 8 = c.requires.left in
    let n : length y ≡ 8 = c.requires.right in
    elim c.match-op.branch [
      | in-Add w ↦ w.result-is ∙ of_op _ _ t x y _ w.in-Add.is (w.extend8.ensures ∙ map-zip2 (extended t) wrap_add x y)
      | in-Sub w ↦ w.result-is ∙ of_op _ _ t x y _ w.in-Sub.is (w.extend8-in-Sub.ensures ∙ map-zip2 (extended t) wrap_sub x y)
      | in-Mul w ↦ w.result-is ∙ of_op _ _ t x y _ w.in-Mul.is (w.extend8-in-Mul.ensures ∙ map-zip2 (extended t) (λ x y. x * y % 2 ^ 64) x y)
      | in-And w ↦ w.result-is ∙ of_op _ _ t x y _ w.in-And.is (w.extend8-in-And.ensures ∙ map-zip2 (extended t) bit_and x y)
      | in-Or w ↦ w.result-is ∙ of_op _ _ t x y _ w.in-Or.is (w.extend8-in-Or.ensures ∙ map-zip2 (extended t) bit_or x y)
      | in-Xor w ↦ w.result-is ∙ of_op _ _ t x y _ w.in-Xor.is (w.extend8-in-Xor.ensures ∙ map-zip2 (extended t) bit_xor x y)
      | in-Shl w ↦ w.result-is ∙ of_op _ _ t x y _ w.in-Shl.is (w.extend8-in-Shl.ensures ∙ map-zip2 (extended t) (λ x n. x * 2 ^ n % 2 ^ 64) x w.counts8.result
          ∙ ap (zip2 (λ x n. extended t (x * 2 ^ n % 2 ^ 64)) x) w.counts8.ensures.value ∙ zip2-map_right (λ x n. extended t (x * 2 ^ n % 2 ^ 64)) (count_of t) x y)
      | in-Shr w ↦ w.result-is ∙ of_op _ _ t x y _ w.in-Shr.is (w.shifted_right8.ensures)
      | in-Eq w ↦ w.result-is ∙ of_op _ _ t x y _ w.in-Eq.is (w.equal8.ensures)
      | in-Ne w ↦ w.result-is ∙ of_op _ _ t x y _ w.in-Ne.is (w.unequal8.ensures)
      | in-Lt w ↦ w.result-is ∙ of_op _ _ t x y _ w.in-Lt.is (w.less8.ensures ∙ ap₂ (zip2 (λ x y. cond (nat_lt x y) 1 0)) w.biased8.ensures w.biased8-in-Lt.ensures ∙ zip2-maps (λ x y. cond (nat_lt x y) 1 0) (biased t) (biased t) x y)
      | in-Le w ↦ w.result-is ∙ of_op _ _ t x y _ w.in-Le.is (w.at_most8.ensures ∙ ap₂ (zip2 (λ x y. cond (nat_le x y) 1 0)) w.biased8-in-Le.ensures w.biased8-in-Le-2.ensures ∙ zip2-maps (λ x y. cond (nat_le x y) 1 0) (biased t) (biased t) x y)
      | in-Neg w ↦ w.result-is ∙ of_op _ _ t x y _ w.in-Neg.is (w.extend8-in-Neg.ensures ∙ ap (map (extended t)) (from_constant wrap_sub 0 x m) ∙ map-map_eight (wrap_sub 0) (extended t) x ∙ zip2_first (λ x. extended t (wrap_sub 0 x)) x y m n)
      | in-Not w ↦ w.result-is ∙ of_op _ _ t x y _ w.in-Not.is (w.extend8-in-Not.ensures ∙ map-map_eight (bit_not w64) (extended t) x ∙ zip2_first (λ x. extended t (bit_not w64 x)) x y m n)
      | in-Extend w ↦ w.result-is ∙ of_op _ _ t x y _ w.in-Extend.is (w.extend8-in-Extend.ensures ∙ zip2_first (extended t) x y m n)
      | in-Copy w ↦ w.result-is ∙ of_op _ _ t x y _ w.in-Copy.is (zip2_left x y m n)
    ]
