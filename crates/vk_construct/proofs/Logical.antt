-- Code of `&&`, `||` and `?:`, whose operands run under masks of their own: f for the lanes where the condition holds, f + 1 for the
-- others, and f + 2 on is free for the operands.
use Rattle.std.proofs.Common.{arith, sym, ℕ, ◌+◌, ◌*◌, ◌<◌, ◌≤◌, cond, length, subst, ap₂, pos, Ok}
use Rattle.vk_types.specs.declared.types.Ty.{Ty}
use Rattle.vk_types.specs.declared.types.Ty.TheVariants.{I32}
use Rattle.vk_types.specs.Numbers.{wrap_number}
use Rattle.vk_types.specs.Conversions.{common_type}
use Rattle.vk_kinds.specs.declared.heads.CType.TheVariants.{Int}
use Rattle.vk_ast.specs.declared.expressions.BinOp.TheVariants.{LogAnd, LogOr}
use Rattle.vk_ast.specs.Tree.{Tree, binary, choice, nodes_of}
use Rattle.vk_numbers.specs.Operators.{is_on}
use Rattle.vk_rules_book.specs.Scopes.{Scope}
use Rattle.vk_rules_book.specs.Typings.{typing_of}
use Rattle.vk_meaning.specs.Data.{given, number}
use Rattle.vk_meaning.specs.Expressions.{chosen, converted, truth_of, value_of}
use Rattle.vk_construct.specs.Computes.{Table}
use Rattle.vk_construct.specs.Adds.{Adds, AddsNumber, AddsValue, HasType, IsTableOf, Splits, Written}
use Rattle.vk_construct.specs.Applies.{one}
use Rattle.vk_construct.specs.Trees.{AddsTree, HasNumber}
use Rattle.vk_construct.proofs.Adding.{no_fewer, table_kept}
use Rattle.vk_construct.proofs.Evaluating.{emits_choice, emits_chosen, emits_less, emits_number, emits_one, emits_same, emits_truth}
use Rattle.vk_construct.proofs.Trees.{integer_is, numbers_value}

-- ---- operands

-- registers that were there when the whole began are kept by an operand
outer : (a b : Written) (scope : Scope) (tb : Table) (e : Tree) (t : Ty) (r m f k : ℕ) → k ≤ length a.regs → AddsTree a b scope tb e t r m f → AddsValue a b tb (λ c vs. value_of c scope vs e) (Int t) r m k f (8 * nodes_of e)
outer a b scope tb e t r m f k le p = emits_less a b tb _ (Int t) r m k f (length a.regs) f (8 * nodes_of e) (8 * nodes_of e) le (omega arith) (omega arith) p

-- an operand of `&&` or `||`, as 0 or 1
truth_tree : (a b c : Written) (scope : Scope) (tb : Table) (e : Tree) (s : Ty) (r d m f k : ℕ) → IsTableOf a tb k → m < f → k ≤ length a.regs → AddsTree a b scope tb e s r m f →
    AddsNumber b c (one (λ z. Ok (cond (is_on z) (pos 1) (pos 0))) s r) I32 d m k f 3 → AddsValue a c tb (λ x vs. truth_of (value_of x scope vs e)) (Int I32) d m k f (8 * nodes_of e + 3)
truth_tree a b c scope tb e s r d m f k it lm le p q = emits_truth a b c tb _ s r d m k k f (8 * nodes_of e) 3 it lm (omega arith) (outer a b scope tb e s r m f k le p) q

-- an operand of `?:`, converted
converted_tree : (a b c : Written) (scope : Scope) (tb : Table) (e : Tree) (s t : Ty) (r d m f k : ℕ) → IsTableOf a tb k → m < f → k ≤ length a.regs → AddsTree a b scope tb e s r m f →
    AddsNumber b c (one (λ z. Ok (wrap_number t z)) s r) t d m k f 1 → AddsValue a c tb (λ x vs. converted t (value_of x scope vs e)) (Int t) d m k f (8 * nodes_of e + 1)
converted_tree a b c scope tb e s t r d m f k it lm le p q = emits_one a b c tb _ (λ z. Ok (wrap_number t z)) s t r d m k k f (8 * nodes_of e) 1 it lm (omega arith) (outer a b scope tb e s r m f k le p) q

-- ---- the nodes

-- From the code before the node: the left operand, its two masks, and the code of each case; the result comes into register d.
module _ (c0 c1 c3 c4 c5 : Written) (scope : Scope) (tb : Table) (l p : ℕ) (s t : Ty) (left right : Tree) (r r' d m f : ℕ) (it : IsTableOf c0 tb (length c0.regs)) (lm : m < f)
    (hl : HasNumber scope left s) (hr : HasNumber scope right t) (tr : HasType c1 r s) (p1 : AddsTree c0 c1 scope tb left s r m f) (p2 : Adds c1 c3 (Splits m f r) 2 0) where
  table_three : IsTableOf c3 tb (length c0.regs)
  table_three = table_kept c1 c3 _ 2 0 tb _ p2 (table_kept c0 c1 _ (8 * nodes_of left) 0 tb _ p1 it)

  more_three : length c0.regs ≤ length c3.regs
  more_three = let x = no_fewer c0 c1 _ (8 * nodes_of left) 0 p1 in let y = no_fewer c1 c3 _ 2 0 p2 in omega (arith, x, y)

  -- the right operand under mask f, as 0 or 1; else 0
  pub tree_and : (e : Written) → AddsTree c3 e scope tb right t r' f (f + 2) → AddsNumber e c4 (one (λ z. Ok (cond (is_on z) (pos 1) (pos 0))) t r') I32 d f (length c0.regs) (f + 2) 3 → AddsNumber c4 c5 (λ h. Ok (pos 0)) I32 d (f + 1) (length c0.regs) (f + 2) 1 →
      AddsTree c0 c5 scope tb (binary l p LogAnd left right) I32 d m f
  tree_and e p4 p5 p6 = emits_less c0 c5 tb _ (Int I32) d m (length c0.regs) f (length c0.regs) f (8 * nodes_of left + (8 * nodes_of right + 3) + 1 + 2) (8 * (1 + nodes_of left + nodes_of right)) (omega arith) (omega arith) (omega arith)
      (emits_same c0 c5 tb _ _ (Int I32) d m (length c0.regs) f _ (λ x vs w. numbers_value x scope vs l p LogAnd s t left right w hl hr)
      (emits_chosen c0 c1 c3 c4 c5 tb _ _ (λ x vs. given (number (pos 0))) s (Int I32) r d m (length c0.regs) f (8 * nodes_of left) (8 * nodes_of right + 3) 1 it lm tr p1 p2
      (truth_tree c3 e c4 scope tb right t r' d f (f + 2) (length c0.regs) table_three (omega arith) more_three p4 p5) (emits_number c4 c5 tb (pos 0) I32 d (f + 1) (length c0.regs) (f + 2) 1 p6)))

  -- 1, or else the right operand under mask f + 1, as 0 or 1
  pub tree_or : (e : Written) → AddsNumber c3 c4 (λ h. Ok (pos 1)) I32 d f (length c0.regs) (f + 2) 1 → AddsTree c4 e scope tb right t r' (f + 1) (f + 2) → AddsNumber e c5 (one (λ z. Ok (cond (is_on z) (pos 1) (pos 0))) t r') I32 d (f + 1) (length c0.regs) (f + 2) 3 →
      AddsTree c0 c5 scope tb (binary l p LogOr left right) I32 d m f
  tree_or e p4 p5 p6 = emits_less c0 c5 tb _ (Int I32) d m (length c0.regs) f (length c0.regs) f (8 * nodes_of left + 1 + (8 * nodes_of right + 3) + 2) (8 * (1 + nodes_of left + nodes_of right)) (omega arith) (omega arith) (omega arith)
      (emits_same c0 c5 tb _ _ (Int I32) d m (length c0.regs) f _ (λ x vs w. numbers_value x scope vs l p LogOr s t left right w hl hr)
      (emits_chosen c0 c1 c3 c4 c5 tb _ (λ x vs. given (number (pos 1))) _ s (Int I32) r d m (length c0.regs) f (8 * nodes_of left) 1 (8 * nodes_of right + 3) it lm tr p1 p2
      (emits_number c3 c4 tb (pos 1) I32 d f (length c0.regs) (f + 2) 1 p4)
      (truth_tree c4 e c5 scope tb right t r' d (f + 1) (f + 2) (length c0.regs) (table_kept c3 c4 _ 1 0 tb _ p4 table_three) (omega arith) (more_four c4 p4) p5 p6)))
    where
      more_four : (c : Written) → AddsNumber c3 c (λ h. Ok (pos 1)) I32 d f (length c0.regs) (f + 2) 1 → length c0.regs ≤ length c.regs
      more_four c q = let x = no_fewer c3 c _ 1 0 q in let y = more_three in omega (arith, x, y)

-- `test ? first : second`
pub tree_choice : (c0 c1 c3 x4 c4 x5 c5 : Written) (scope : Scope) (tb : Table) (l p : ℕ) (c s t : Ty) (test first second : Tree) (r r1 r2 d m f : ℕ) → IsTableOf c0 tb (length c0.regs) → m < f →
    HasNumber scope first s → HasNumber scope second t → HasType c1 r c → AddsTree c0 c1 scope tb test c r m f → Adds c1 c3 (Splits m f r) 2 0 →
    AddsTree c3 x4 scope tb first s r1 f (f + 2) → AddsNumber x4 c4 (one (λ z. Ok (wrap_number (common_type s t) z)) s r1) (common_type s t) d f (length c0.regs) (f + 2) 1 →
    AddsTree c4 x5 scope tb second t r2 (f + 1) (f + 2) → AddsNumber x5 c5 (one (λ z. Ok (wrap_number (common_type s t) z)) t r2) (common_type s t) d (f + 1) (length c0.regs) (f + 2) 1 →
    AddsTree c0 c5 scope tb (choice l p test first second) (common_type s t) d m f
tree_choice c0 c1 c3 x4 c4 x5 c5 scope tb l p c s t test first second r r1 r2 d m f it lm hf hs tr p1 p2 p4 p5 p6 p7 =
    emits_less c0 c5 tb _ (Int u) d m (length c0.regs) f (length c0.regs) f (8 * nodes_of test + (8 * nodes_of first + 1) + (8 * nodes_of second + 1) + 2) (8 * (1 + nodes_of test + nodes_of first + nodes_of second)) (omega arith) (omega arith) (omega arith)
    (subst (λ v. AddsValue c0 c5 tb (λ x vs. converted v (chosen (value_of x scope vs test) (value_of x scope vs first) (value_of x scope vs second))) (Int u) d m (length c0.regs) f (8 * nodes_of test + (8 * nodes_of first + 1) + (8 * nodes_of second + 1) + 2))
    (ap₂ common_type (sym (integer_is (typing_of scope first) s hf)) (sym (integer_is (typing_of scope second) t hs)))
    (emits_choice c0 c1 c3 c4 c5 tb _ _ _ c u r d m (length c0.regs) f (8 * nodes_of test) (8 * nodes_of first + 1) (8 * nodes_of second + 1) it lm tr p1 p2
    (converted_tree c3 x4 c4 scope tb first s u r1 d f (f + 2) (length c0.regs) three (omega arith) more p4 p5)
    (converted_tree c4 x5 c5 scope tb second t u r2 d (f + 1) (f + 2) (length c0.regs) (table_kept x4 c4 _ 1 0 tb _ p5 (table_kept c3 x4 _ (8 * nodes_of first) 0 tb _ p4 three)) (omega arith) more_still p6 p7)))
  where
    u : Ty
    u = common_type s t

    three : IsTableOf c3 tb (length c0.regs)
    three = table_kept c1 c3 _ 2 0 tb _ p2 (table_kept c0 c1 _ (8 * nodes_of test) 0 tb _ p1 it)

    more : length c0.regs ≤ length c3.regs
    more = let x = no_fewer c0 c1 _ (8 * nodes_of test) 0 p1 in let y = no_fewer c1 c3 _ 2 0 p2 in omega (arith, x, y)

    more_still : length c0.regs ≤ length c4.regs
    more_still = let x = more in let y = no_fewer c3 x4 _ (8 * nodes_of first) 0 p4 in let z = no_fewer x4 c4 _ 1 0 p5 in omega (arith, x, y, z)
