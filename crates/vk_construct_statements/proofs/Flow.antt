-- Statements, put together.
use Rattle.std.proofs.Common.{arith, sym, ◌≡◌, ◌≢◌, ℕ, zero, suc, ◌+◌, ◌-◌, ◌<◌, ◌≤◌, nat_le, nat_lt, Bool, true, false, ◌&&◌, List, [], ◌∷◌, ◌++◌, length, drop, Option, Some, None, refl, subst, ap, ◌∙◌, pos, Ok, true≢false}
use Rattle.std.proofs.Math.Seq.{drop-append_seam}
use Rattle.vk_types.specs.declared.types.Ty.{Ty}
use Rattle.vk_types.specs.Numbers.{number_of, word_of, wrap_number}
use Rattle.vk_kinds.specs.declared.heads.CType.{CType}
use Rattle.vk_kinds.specs.declared.heads.CType.TheVariants.{Int}
use Rattle.vk_numbers.proofs.Numbers.{number_of-word, wrap_in_range}
use Rattle.vk_meaning.specs.Data.{Datum, as_type, number, number_in}
use Rattle.vk_meaning.specs.Expressions.{Context}
use Rattle.vk_meaning.specs.Statements.{Effect, assign_variable, branch, broke, continued, evaluate, fell, on_value, returned, then_do, with_variable}
use Rattle.vk_meaning.specs.Lanes.{datum_of}
use Rattle.vk_code.specs.declared.instruction.Instr.{Instr}
use Rattle.vk_code.specs.declared.instruction.Operation.TheVariants.{Loop}
use Rattle.vk_code.specs.Instruction.{block_in, block_of, operation_of}
use Rattle.vk_code.specs.Listing.{Routine}
use Rattle.vk_code.specs.Tests.{all_good, holds}
use Rattle.vk_code.specs.Valid.{Environment, instr_verdicts, is_good_instr, is_typed}
use Rattle.vk_lane.specs.Writes.{Writes}
use Rattle.vk_lane.specs.Entries.{place_of}
use Rattle.vk_construct.specs.Computes.{Computes, Table}
use Rattle.vk_construct.specs.Adds.{Adds, AddsValue, HasType, HasWritten, IsGoodPiece, IsTableOf, LeavesOut, Splits, Written}
use Rattle.vk_construct.specs.Applies.{number_at}
use Rattle.vk_construct.proofs.Adding.{adds_nil, adds_then, adds_weaken, has_written_less, table_there, type_there}
use Rattle.vk_construct.proofs.Choices.{number_zero}
use Rattle.vk_construct.proofs.Evaluating.{Expression}
use Rattle.vk_construct.proofs.Good.{below, both_good}
use Rattle.vk_construct_statements.specs.Follows.{AreApart, Follows, Guards, IsFront, ReturnPlace, first_branch, pushed, second_branch}
use Rattle.vk_construct_statements.specs.Statements.{AddsStatement, Unites}
use Rattle.vk_construct_statements.proofs.Straight.{follows_assign, follows_block, follows_declared, follows_nothing, follows_then, follows_value}
use Rattle.vk_construct_statements.proofs.Branches.{follows_branch, follows_break, follows_continue, follows_return}

-- a statement, by the program that it stands in
abbrev pub Statement : Type 0
Statement = Context → Effect

-- ---- in order

pub flow_nothing : (a : Written) (v : ReturnPlace) (tb : Table) (m : Guards) → AreApart m → AddsStatement a a v tb tb (λ c. fell) m 0 0
flow_nothing a v tb m ap_ = adds_weaken a a _ _ 0 0 0 (adds_nil a) (omega arith) (λ q hw j h h' s s' e. subst (Follows (place_of q) v tb tb fell m j h) (sym e) (follows_nothing (place_of q) v tb m j h ap_))

-- an expression alone
pub flow_value : (a b : Written) (v : ReturnPlace) (tb : Table) (e : Expression) (t : CType) (r k n : ℕ) (m : Guards) → AreApart m → IsTableOf a tb k → AddsValue a b tb e t r m.running k m.free n → AddsStatement a b v tb tb (λ c. evaluate (e c)) m n 0
flow_value a b v tb e t r k n m ap_ it p = adds_weaken a b _ _ n n 0 p (omega arith) (λ q hw j h h' s s' x. follows_value (place_of q) v tb (e q.context) t r k m j h h' ap_ (table_there q a tb k (has_written_less a b _ n 0 q p hw) it) x)

pub flow_then : (a b c : Written) (v : ReturnPlace) (tb tb' tb'' : Table) (first second : Statement) (m : Guards) (n1 n2 depth : ℕ) → AreApart m → IsFront tb tb' → AddsStatement a b v tb tb' first m n1 depth → AddsStatement b c v tb' tb'' second m n2 depth →
    AddsStatement a c v tb tb'' (λ c. then_do (first c) (second c)) m (n1 + n2) depth
flow_then a b c v tb tb' tb'' first second m n1 n2 depth ap_ front p p' = adds_weaken a c _ _ (n1 + n2) (n1 + n2) depth (adds_then a b c _ _ n1 n2 depth p p') (omega arith)
    (λ q hw j h h' s s' x. follows_then (place_of q) v tb tb' tb'' (first q.context) (second q.context) m j h x.0 h' ap_ front x.1 x.2)

-- what a block declares is not seen behind it
pub flow_block : (a b : Written) (v : ReturnPlace) (tb tb' : Table) (effect : Statement) (m : Guards) (n depth : ℕ) → IsFront tb tb' → AddsStatement a b v tb tb' effect m n depth → AddsStatement a b v tb tb effect m n depth
flow_block a b v tb tb' effect m n depth front p = adds_weaken a b _ _ n n depth p (omega arith) (λ q hw j h h' s s' x. follows_block (place_of q) v tb tb' (effect q.context) m j h h' front x)

-- ---- variables

-- the register of a variable gets the value, as one of the variable's type
pub flow_assign : (a b c : Written) (v : ReturnPlace) (tb : Table) (e : Expression) (s t : Ty) (r x k n : ℕ) (m : Guards) → AreApart m → IsTableOf a tb k → x < tb.count → tb.ty x ≡ Int t →
    AddsValue a b tb e (Int s) r m.running k m.free n → Adds b c (λ q. Writes m.running (tb.reg x) (λ j h. Ok (word_of (wrap_number t (number_at s r h))))) 1 0 → AddsStatement a c v tb tb (λ c. assign_variable (record { number = x; ctype = tb.ty x }) (e c)) m (n + 1) 0
flow_assign a b c v tb e s t r x k n m ap_ it lx ty p p' = adds_weaken a c _ _ (n + 1) (n + 1) 0 (adds_then a b c _ _ n 1 0 p p') (omega arith)
    (λ q hw j h h' s1 s2 y. follows_assign (place_of q) v tb (e q.context) (Int s) r k x (λ i g. Ok (word_of (wrap_number t (number_at s r g)))) m j h y.0 h' ap_
    (table_there q a tb k (has_written_less a b _ n 0 q p (has_written_less b c _ 1 0 q p' hw)) it) lx y.1 y.2
    (λ dt has. (word_of (wrap_number t (number_at s r y.0)), refl, word dt (y.0).lane.reg has.is)))
  where
    word : (dt : Datum) (reg : ℕ → ℕ) → dt ≡ number (number_of s (reg r)) → as_type (tb.ty x) dt ≡ datum_of (tb.ty x) (word_of (wrap_number t (number_of s (reg r))))
    word dt reg e' = subst (λ u. as_type u dt ≡ datum_of u (word_of (wrap_number t (number_of s (reg r))))) (sym ty)
        (ap (λ d. number (wrap_number t (number_in d))) e' ∙ ap number (sym (number_of-word t _ (wrap_in_range t (number_of s (reg r))))))

-- a variable is 0 where it is declared; its register is none of another variable
pub flow_declared : (a b : Written) (v : ReturnPlace) (tb : Table) (t : Ty) (r : ℕ) (m : Guards) → AreApart m → ((x : ℕ) → x < tb.count → tb.reg x ≢ r) → Adds a b (λ q. Writes m.running r (λ j h. Ok 0)) 1 0 →
    AddsStatement a b v tb (pushed tb r (Int t)) (λ c s. fell (with_variable s tb.count (number (pos 0)))) m 1 0
flow_declared a b v tb t r m ap_ fresh p = adds_weaken a b _ _ 1 1 0 p (omega arith)
    (λ q hw j h h' s s' x. follows_declared (place_of q) v tb 0 r 0 (Int t) (number (pos 0)) m j h h' ap_ fresh x (ap number (sym (number_zero t))))

-- ---- branches and jumps

-- the condition, its two masks, a branch under each, and the running mask joined again
pub flow_branch : (c0 c1 c2 c3 c4 c5 : Written) (v : ReturnPlace) (tb : Table) (e : Expression) (first second : Statement) (t : Ty) (r k : ℕ) (m : Guards) (n n1 n2 depth : ℕ) → AreApart m → IsTableOf c0 tb k → HasType c1 r t →
    Adds c0 c1 (λ q. Computes (place_of q) tb (e q.context) (Int t) r m.running k m.free) n depth → Adds c1 c2 (Splits m.running m.free r) 2 depth →
    AddsStatement c2 c3 v tb tb first (first_branch m) n1 depth → AddsStatement c3 c4 v tb tb second (second_branch m) n2 depth → Adds c4 c5 (Unites m.running m.free (m.free + 1)) 1 depth →
    AddsStatement c0 c5 v tb tb (λ c. branch (e c) (first c) (second c)) m (n + n1 + n2 + 3) depth
flow_branch c0 c1 c2 c3 c4 c5 v tb e first second t r k m n n1 n2 depth ap_ it tr p1 p2 p3 p4 p5 =
    adds_weaken c0 c5 _ _ (n + 2 + n1 + n2 + 1) (n + n1 + n2 + 3) depth
    (adds_then c0 c4 c5 _ _ (n + 2 + n1 + n2) 1 depth (adds_then c0 c3 c4 _ _ (n + 2 + n1) n2 depth (adds_then c0 c2 c3 _ _ (n + 2) n1 depth (adds_then c0 c1 c2 _ _ n 2 depth p1 p2) p3) p4) p5) (omega arith)
    (λ q hw j h h' s s' x.
    let y4 = x.1 in let y3 = y4.1 in let y2 = y3.1 in let split = y2.2 in
    let there : HasWritten q c1 = has_written_less c1 c2 _ 2 depth q p2 (has_written_less c2 c3 _ n1 depth q p3 (has_written_less c3 c4 _ n2 depth q p4 (has_written_less c4 c5 _ 1 depth q p5 hw))) in
    follows_branch (place_of q) v tb (e q.context) (first q.context) (second q.context) t r k m j h y2.0 split.0 y3.0 y4.0 x.0 h' ap_
    (table_there q c0 tb k (has_written_less c0 c1 _ n depth q p1 there) it) (type_there q c1 r (Int t) there tr) y2.3 y2.1 split.1 split.2 y3.2 y4.2 x.2)

-- the lanes that run leave the loop's mask and their own
pub flow_break : (a b c : Written) (v : ReturnPlace) (tb : Table) (m : Guards) → AreApart m → Adds a b (LeavesOut m.looping m.looping m.running) 1 0 → Adds b c (LeavesOut m.running m.running m.running) 1 0 → AddsStatement a c v tb tb (λ c. broke) m 2 0
flow_break a b c v tb m ap_ p p' = adds_weaken a c _ _ 2 2 0 (adds_then a b c _ _ 1 1 0 p p') (omega arith) (λ q hw j h h' s s' x. follows_break (place_of q) v tb m j h x.0 h' ap_ x.1 x.2)

pub flow_continue : (a b : Written) (v : ReturnPlace) (tb : Table) (m : Guards) → AreApart m → Adds a b (LeavesOut m.running m.running m.running) 1 0 → AddsStatement a b v tb tb (λ c. continued) m 1 0
flow_continue a b v tb m ap_ p = adds_weaken a b _ _ 1 1 0 p (omega arith) (λ q hw j h h' s s' x. follows_continue (place_of q) v tb m j h h' ap_ x)

-- the value comes into the result's register; the lanes that run have returned
pub flow_return : (a b c d : Written) (v : ReturnPlace) (tb : Table) (e : Expression) (k n : ℕ) (m : Guards) → AreApart m → AddsValue a b tb e v.ty v.reg m.running k m.free n → Adds b c (LeavesOut m.staying m.staying m.running) 1 0 →
    Adds c d (LeavesOut m.running m.running m.running) 1 0 → AddsStatement a d v tb tb (λ c s. on_value (e c s.variables s.world) returned) m (n + 2) 0
flow_return a b c d v tb e k n m ap_ p1 p2 p3 = adds_weaken a d _ _ (n + 1 + 1) (n + 2) 0 (adds_then a c d _ _ (n + 1) 1 0 (adds_then a b c _ _ n 1 0 p1 p2) p3) (omega arith)
    (λ q hw j h h' s s' x. let y = x.1 in follows_return (place_of q) v tb (e q.context) v.ty k m j h y.0 x.0 h' ap_ y.1 y.2 x.2)

-- ---- loops

no_verdicts : (e : Environment) (c : Routine) (room : ℕ) (is : List Instr) → instr_verdicts e c room is zero zero ≡ []
no_verdicts e c room [] = refl
no_verdicts e c room (i ∷ is) = refl

verdicts_behind : (e : Environment) (c : Routine) (room : ℕ) (is : List Instr) (k n : ℕ) → instr_verdicts e c room is k n ≡ instr_verdicts e c room (drop k is) zero n
verdicts_behind e c room [] zero n = refl
verdicts_behind e c room [] (suc k) n = refl
verdicts_behind e c room (i ∷ is) zero n = refl
verdicts_behind e c room (i ∷ is) (suc k) n = verdicts_behind e c room is k n

good_both : (xs ys : List Bool) → all_good xs ≡ true → all_good ys ≡ true → all_good (xs ++ ys) ≡ true
good_both [] ys e f = f
good_both (x ∷ xs) ys e f = both_good x (all_good (xs ++ ys)) (first x (all_good xs) e) (good_both xs ys (second x (all_good xs) e) f)
  where
    first : (p q : Bool) → (p && q) ≡ true → p ≡ true
    first true q e = refl
    first false q e = e

    second : (p q : Bool) → (p && q) ≡ true → q ≡ true
    second true q e = e
    second false q e = absurd (true≢false (sym e))

at_most : (a b : ℕ) → a ≤ b → nat_le a b ≡ true
at_most a b l = grind (arith, l)

-- a loop, whose block stands behind it
pub good_loop : (e : Environment) (c : Routine) (i : Instr) (b : List Instr) (depth : ℕ) → operation_of i ≡ Some (Loop (length b)) → i.m < c.masks → IsGoodPiece e c depth b → IsGoodPiece e c (depth + 1) (i ∷ b)
good_loop e c i b depth is lm g rest n k room ek le rg =
    let one_more : k ≡ suc (length b + n) = ek ∙ omega arith in
    subst (λ x. all_good (instr_verdicts e c room (i ∷ (b ++ rest)) zero x) ≡ true) (sym one_more) (by (block_of i) (ap block_in is))
  where
    here : is_good_instr e c i ≡ true
    here = both_good (nat_lt i.m c.masks) (holds (is_typed e c) (operation_of i)) (below i.m c.masks lm) (ap (holds (is_typed e c)) is)

    inside : all_good (instr_verdicts e c (room - 1) (b ++ rest) zero (length b)) ≡ true
    inside = g rest 0 (length b) (room - 1) (omega arith) (omega (arith, le)) (ap all_good (no_verdicts e c (room - 1) rest))

    behind : all_good (instr_verdicts e c room (b ++ rest) (length b) (length b + n - length b)) ≡ true
    behind = ap all_good (verdicts_behind e c room (b ++ rest) (length b) (length b + n - length b)
        ∙ (ap (λ l. instr_verdicts e c room l zero (length b + n - length b)) (drop-append_seam b rest)
        ∙ ap (λ x. instr_verdicts e c room rest zero x) (omega arith))) ∙ rg

    by : (o : Option ℕ) → o ≡ Some (length b) → all_good (elim o as (λ _. List Bool) [
      | None ↦ is_good_instr e c i ∷ instr_verdicts e c room (b ++ rest) zero (length b + n)
      | Some x ↦ (is_good_instr e c i && nat_le x (length b + n) && nat_lt 0 room) ∷ (instr_verdicts e c (room - 1) (b ++ rest) zero x ++ instr_verdicts e c room (b ++ rest) x (length b + n - x))
    ]) ≡ true
    by None h = cc
    by (Some x) h = subst (λ y. all_good ((is_good_instr e c i && nat_le y (length b + n) && nat_lt 0 room) ∷ (instr_verdicts e c (room - 1) (b ++ rest) zero y ++ instr_verdicts e c room (b ++ rest) y (length b + n - y))) ≡ true) (sym (same x h))
        (both_good _ _ (both_good _ _ (both_good _ _ here (at_most (length b) (length b + n) (omega arith))) (below 0 room (omega (arith, le)))) (good_both (instr_verdicts e c (room - 1) (b ++ rest) zero (length b)) (instr_verdicts e c room (b ++ rest) (length b) (length b + n - length b)) inside behind))
      where
        same : (y : ℕ) → Some y ≡ Some (length b) → y ≡ length b
        same y e' = cc
