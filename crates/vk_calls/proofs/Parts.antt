-- The instructions after an instruction.
use Rattle.std.proofs.Common.{◌≡◌, ℕ, zero, suc, ◌+◌, ◌-◌, ◌<◌, ◌≤◌, nat_le, nat_lt, Bool, true, ◌&&◌, List, [], ◌∷◌, ◌++◌, length, drop, Option, Some, None, refl, ap, sym, subst, ◌∙◌, arith}
use Rattle.std.specs.Prelude.{slice_get}
use Rattle.std.proofs.lemmas.Bool.{false≢true, leb-true, ltb-true}
use Rattle.std.proofs.lemmas.List.Folds.{list_all-append}
use Rattle.std.proofs.lemmas.Option.{none-some}
use Rattle.vk_code.specs.declared.instruction.Instr.{Instr}
use Rattle.vk_code.specs.declared.instruction.Operation.{Operation}
use Rattle.vk_code.specs.declared.instruction.Operation.TheVariants.{Const, Copy, Convert, Binary, Compare, Unary, Lane, Load, Store, PtrAdd, Addr, MaskOf, MaskAnd, MaskOr, MaskBut, Loop, Call, Print, SimdLoop}
use Rattle.vk_code.specs.Instruction.{block_in, block_of, operation_of}
use Rattle.vk_code.specs.Listing.{Routine}
use Rattle.vk_code.specs.Tests.{all_good, holds}
use Rattle.vk_code.specs.Valid.{Environment, instr_verdicts, is_good_instr, is_typed}
use Rattle.vk_code.proofs.Faults.{and_left, and_right}
use Rattle.vk_code.proofs.Nesting.{verdicts_skipped}
use Rattle.vk_object.specs.Images.{names_of}
use Rattle.vk_steps.specs.declared.place.Place.{Place}
use Rattle.vk_steps.specs.Places.{listing, tables}
use Rattle.vk_calls.specs.Fetched.{IsFetched, IsPart, IsPlain, sorted}

same_instr : (x i : Instr) → Some x ≡ Some i → x ≡ i
same_instr x i e = ap (λ (o : Option Instr). elim o as (λ _. Instr) [ None ↦ x | Some y ↦ y ]) e

later : (at : ℕ) → suc (at + 1) ≡ suc at + 1
later at = omega arith

pub drop-at : (is : List Instr) (at : ℕ) (i : Instr) → slice_get is at ≡ Some i → drop at is ≡ i ∷ drop (at + 1) is
drop-at [] at i h = absurd (none-some i h)
drop-at (x ∷ is) zero i h = ap (λ o. elim o as (λ _. List Instr) [ None ↦ x ∷ is | Some y ↦ y ∷ is ]) h
drop-at (x ∷ is) (suc at) i h = drop-at is at i h ∙ ap (λ n. i ∷ drop n (x ∷ is)) (later at)

drop_nil : (n : ℕ) → drop {A = Instr} n [] ≡ []
drop_nil zero = refl
drop_nil (suc n) = refl

pub drop-drop : (is : List Instr) (a b : ℕ) → drop a (drop b is) ≡ drop (b + a) is
drop-drop is a zero = ap (λ n. drop n is) (omega arith)
drop-drop [] a (suc b) = drop_nil a ∙ sym (drop_nil (suc b + a))
drop-drop (x ∷ is) a (suc b) = drop-drop is a b ∙ ap (λ n. drop n (x ∷ is)) (more b a)
  where
    more : (b a : ℕ) → suc (b + a) ≡ suc b + a
    more b a = omega arith

-- what a good part says of its first instruction
abbrev pub Verdicts : Environment → Routine → ℕ → Instr → List Instr → ℕ → Option ℕ → List Bool
Verdicts e c room i is n None = is_good_instr e c i ∷ instr_verdicts e c room is zero n
Verdicts e c room i is n (Some x) = (is_good_instr e c i && nat_le x n && nat_lt 0 room) ∷ (instr_verdicts e c (room - 1) is zero x ++ instr_verdicts e c room is x (n - x))

by_block : (e : Environment) (c : Routine) (room : ℕ) (i : Instr) (is : List Instr) (n : ℕ) (o : Option ℕ) → block_of i ≡ o → instr_verdicts e c room (i ∷ is) zero (suc n) ≡ Verdicts e c room i is n o
by_block e c room i is n o h = as_verdicts (block_of i) ∙ ap (Verdicts e c room i is n) h
  where
    as_verdicts : (o : Option ℕ) → (elim o as (λ _. List Bool) [
      | None ↦ is_good_instr e c i ∷ instr_verdicts e c room is zero n
      | Some x ↦ (is_good_instr e c i && nat_le x n && nat_lt 0 room) ∷ (instr_verdicts e c (room - 1) is zero x ++ instr_verdicts e c room is x (n - x))
    ]) ≡ Verdicts e c room i is n o
    as_verdicts None = refl
    as_verdicts (Some x) = refl

pub record PlainNext (p : Place) (at left : ℕ) (i : Instr) : Type 0 where
  pub good : is_good_instr (names_of (tables p)) (listing p).routine i ≡ true
  pub rest : IsPart p (at + 1) (left - 1)

pub record BlockNext (p : Place) (at left : ℕ) (i : Instr) (x : ℕ) : Type 0 where
  pub good : is_good_instr (names_of (tables p)) (listing p).routine i ≡ true
  pub short : x + 1 ≤ left
  pub inner : IsPart p (at + 1) x
  pub rest : IsPart p (at + 1 + x) (left - 1 - x)

abbrev pub Next : Place → ℕ → ℕ → Instr → Option ℕ → Type 0
Next p at left i None = PlainNext p at left i
Next p at left i (Some x) = BlockNext p at left i x

pub split : (p : Place) (at left : ℕ) (i : Instr) → IsPart p at left → 0 < left → slice_get (listing p).routine.instrs at ≡ Some i → (o : Option ℕ) → block_of i ≡ o → Next p at left i o
split p at left i part some got o h = by o left some part.inside (λ n same. subst (λ l. all_good l ≡ true) (by_block env c room i (drop (at + 1) is) n o h) (subst (λ l. all_good (instr_verdicts env c room l zero (suc n)) ≡ true) (drop-at is at i got) (subst (λ k. all_good (instr_verdicts env c room (drop at is) zero k) ≡ true) same part.good)))
  where
    env : Environment
    env = names_of (tables p)

    c : Routine
    c = (listing p).routine

    is : List Instr
    is = (listing p).routine.instrs

    room : ℕ
    room = part.room

    by : (o : Option ℕ) (left : ℕ) → 0 < left → at + left ≤ length (listing p).routine.instrs → ((n : ℕ) → left ≡ suc n → all_good (Verdicts (names_of (tables p)) (listing p).routine part.room i (drop (at + 1) (listing p).routine.instrs) n o) ≡ true) → Next p at left i o
    by None zero some inside good = absurd (omega (arith, some))
    by None (suc n) some inside good =
        let all = good n refl in
        let here : Bool = is_good_instr (names_of (tables p)) (listing p).routine i in
        let rest : List Bool = instr_verdicts (names_of (tables p)) (listing p).routine part.room (drop (at + 1) (listing p).routine.instrs) zero n in
        record {
          good = and_left here (all_good rest) all;
          rest = record { inside = omega (arith, inside); room = part.room; good = subst (λ k. all_good (instr_verdicts (names_of (tables p)) (listing p).routine part.room (drop (at + 1) (listing p).routine.instrs) zero k) ≡ true) (one n) (and_right here (all_good rest) all) };
        }
      where
        one : (n : ℕ) → n ≡ suc n - 1
        one n = omega arith
    by (Some x) zero some inside good = absurd (omega (arith, some))
    by (Some x) (suc n) some inside good =
        let all = good n refl in
        let env : Environment = names_of (tables p) in
        let c : Routine = (listing p).routine in
        let behind : List Instr = drop (at + 1) (listing p).routine.instrs in
        let here : Bool = is_good_instr env c i in
        let inner : List Bool = instr_verdicts env c (part.room - 1) behind zero x in
        let outer : List Bool = instr_verdicts env c part.room behind x (n - x) in
        let head = and_left (here && nat_le x n && nat_lt 0 part.room) (all_good (inner ++ outer)) all in
        let both = sym (list_all-append (λ b. b) inner outer) ∙ and_right (here && nat_le x n && nat_lt 0 part.room) (all_good (inner ++ outer)) all in
        let two = and_left (here && nat_le x n) (nat_lt 0 part.room) head in
        let short : x ≤ n = leb-true x n (and_right here (nat_le x n) two) in
        record {
          good = and_left here (nat_le x n) two;
          short = omega (arith, short);
          inner = record { inside = omega (arith, inside, short); room = part.room - 1; good = and_left (all_good inner) (all_good outer) both };
          rest = record {
            inside = omega (arith, inside, short);
            room = part.room;
            good = subst (λ k. all_good (instr_verdicts env c part.room (drop (at + 1 + x) (listing p).routine.instrs) zero k) ≡ true) (minus n x)
                (subst (λ l. all_good (instr_verdicts env c part.room l zero (n - x)) ≡ true) (drop-drop (listing p).routine.instrs x (at + 1))
                (subst (λ l. all_good l ≡ true) (verdicts_skipped env c part.room behind x (n - x)) (and_right (all_good inner) (all_good outer) both)));
          };
        }
      where
        minus : (n x : ℕ) → n - x ≡ suc n - 1 - x
        minus n x = omega arith

plain : (p : Place) (at left : ℕ) (i : Instr) (o : Operation) → IsPart p at left → 0 < left → slice_get (listing p).routine.instrs at ≡ Some i → operation_of i ≡ Some o → block_of i ≡ None → IsPlain p at left i o
plain p at left i o part some got is none =
    let n = split p at left i part some got None none in
    let e : Environment = names_of (tables p) in
    let c : Routine = (listing p).routine in
    record {
      got = got;
      plain = none;
      good = record {
        is = is;
        mask = ltb-true i.m c.masks (and_left (nat_lt i.m c.masks) (holds (is_typed e c) (operation_of i)) n.good);
        typed = subst (λ o. holds (is_typed e c) o ≡ true) is (and_right (nat_lt i.m c.masks) (holds (is_typed e c) (operation_of i)) n.good);
      };
      rest = n.rest;
    }

pub sorted_is : (p : Place) (at left : ℕ) (i : Instr) (o : Operation) → IsPart p at left → 0 < left → slice_get (listing p).routine.instrs at ≡ Some i → operation_of i ≡ Some o → IsFetched p at left (sorted i o)
sorted_is p at left i (Const t d value) part some got is = (plain p at left i (Const t d value) part some got is (ap block_in is), refl)
sorted_is p at left i (Copy d a) part some got is = (plain p at left i (Copy d a) part some got is (ap block_in is), refl)
sorted_is p at left i (Convert d a) part some got is = (plain p at left i (Convert d a) part some got is (ap block_in is), refl)
sorted_is p at left i (Binary op t d a b) part some got is = (plain p at left i (Binary op t d a b) part some got is (ap block_in is), refl)
sorted_is p at left i (Compare op t d a b) part some got is = (plain p at left i (Compare op t d a b) part some got is (ap block_in is), refl)
sorted_is p at left i (Unary op t d a) part some got is = (plain p at left i (Unary op t d a) part some got is (ap block_in is), refl)
sorted_is p at left i (Lane d) part some got is = (plain p at left i (Lane d) part some got is (ap block_in is), refl)
sorted_is p at left i (Load d a) part some got is = (plain p at left i (Load d a) part some got is (ap block_in is), refl)
sorted_is p at left i (Store a b) part some got is = (plain p at left i (Store a b) part some got is (ap block_in is), refl)
sorted_is p at left i (PtrAdd d a b) part some got is = (plain p at left i (PtrAdd d a b) part some got is (ap block_in is), refl)
sorted_is p at left i (Addr d object) part some got is = (plain p at left i (Addr d object) part some got is (ap block_in is), refl)
sorted_is p at left i (MaskOf d a) part some got is = (plain p at left i (MaskOf d a) part some got is (ap block_in is), refl)
sorted_is p at left i (MaskAnd d a b) part some got is = (plain p at left i (MaskAnd d a b) part some got is (ap block_in is), refl)
sorted_is p at left i (MaskOr d a b) part some got is = (plain p at left i (MaskOr d a b) part some got is (ap block_in is), refl)
sorted_is p at left i (MaskBut d a b) part some got is = (plain p at left i (MaskBut d a b) part some got is (ap block_in is), refl)
sorted_is p at left i (Loop count) part some got is = let n = split p at left i part some got (Some count) (ap block_in is) in
    record { instr = i; got = got; block = ap block_in is; mask_is = refl; mask = ltb-true i.m (listing p).routine.masks (and_left (nat_lt i.m (listing p).routine.masks) (holds (is_typed (names_of (tables p)) (listing p).routine) (operation_of i)) n.good); short = n.short; inner = n.inner; rest = n.rest }
sorted_is p at left i (Call slot) part some got is = plain p at left i (Call slot) part some got is (ap block_in is)
sorted_is p at left i (Print a) part some got is = (plain p at left i (Print a) part some got is (ap block_in is), refl)
sorted_is p at left i (SimdLoop number) part some got is = plain p at left i (SimdLoop number) part some got is (ap block_in is)

pub some_operation : (p : Place) (at left : ℕ) (i : Instr) → IsPart p at left → 0 < left → slice_get (listing p).routine.instrs at ≡ Some i → operation_of i ≡ None → ⊥
some_operation p at left i part some got none =
    let n = split p at left i part some got None (ap block_in none) in
    let e : Environment = names_of (tables p) in
    let c : Routine = (listing p).routine in
    false≢true (subst (λ o. holds (is_typed e c) o ≡ true) none (and_right (nat_lt i.m c.masks) (holds (is_typed e c) (operation_of i)) n.good))
