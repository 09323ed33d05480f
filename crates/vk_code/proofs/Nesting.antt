-- Verdicts of instructions from a place on.
use Rattle.std.proofs.Common.{◌≡◌, ℕ, zero, suc, ◌+◌, ◌-◌, ◌<◌, ◌≤◌, Bool, true, ◌&&◌, List, [], ◌∷◌, ◌++◌, length, drop, nat_le, nat_lt, Option, Some, None, refl, ap, ap₂, sym, ◌∙◌, arith, length-append, length-drop}
use Rattle.std.proofs.lemmas.Bool.{leb-true}
use Rattle.std.proofs.lemmas.List.{drop-drop}
use Rattle.std.proofs.lemmas.List.Folds.{list_all-append}
use Rattle.std.specs.Option.{option_map}
use Rattle.vk_code.specs.declared.instruction.Instr.{Instr}
use Rattle.vk_code.specs.Inner.Blocks.{bad_among}
use Rattle.vk_code.specs.Instruction.{block_of}
use Rattle.vk_code.specs.Listing.{Routine}
use Rattle.vk_code.specs.Tests.{all_good, first_bad}
use Rattle.vk_code.specs.Valid.{Environment, instr_verdicts, is_good_instr}
use Rattle.std.proofs.lemmas.Option.{none-some}
use Rattle.vk_code.proofs.Faults.{and_left, and_right, bad_before, bad_behind, everywhere, map_later, map_map, none_of_map}

pub verdicts_skipped : (e : Environment) (c : Routine) (room : ℕ) (is : List Instr) (k n : ℕ) → instr_verdicts e c room is k n ≡ instr_verdicts e c room (drop k is) zero n
verdicts_skipped e c room [] zero n = refl
verdicts_skipped e c room [] (suc k) n = refl
verdicts_skipped e c room (i ∷ is) zero n = refl
verdicts_skipped e c room (i ∷ is) (suc k) n = verdicts_skipped e c room is k n

pub verdicts_none : (e : Environment) (c : Routine) (room : ℕ) (is : List Instr) → instr_verdicts e c room is zero zero ≡ []
verdicts_none e c room [] = refl
verdicts_none e c room (i ∷ is) = refl

-- ---- as many as the instructions, where all are good

-- of an instruction that is this good and has this block, and those behind
abbrev verdicts_by : Environment → Routine → ℕ → List Instr → ℕ → Bool → Option ℕ → List Bool
verdicts_by e c room is n good None = good ∷ instr_verdicts e c room is zero n
verdicts_by e c room is n good (Some x) = (good && nat_le x n && nat_lt 0 room) ∷ (instr_verdicts e c (room - 1) is zero x ++ instr_verdicts e c room is x (n - x))

as_by : (e : Environment) (c : Routine) (room : ℕ) (i : Instr) (is : List Instr) (n : ℕ) (o : Option ℕ) → (elim o as (λ _. List Bool) [
  | None ↦ is_good_instr e c i ∷ instr_verdicts e c room is zero n
  | Some x ↦ (is_good_instr e c i && nat_le x n && nat_lt 0 room) ∷ (instr_verdicts e c (room - 1) is zero x ++ instr_verdicts e c room is x (n - x))
]) ≡ verdicts_by e c room is n (is_good_instr e c i) o
as_by e c room i is n None = refl
as_by e c room i is n (Some x) = refl

sum_up : (x n : ℕ) → x ≤ n → suc (x + (n - x)) ≡ suc n
sum_up x n p = omega (arith, p)

count_by : (e : Environment) (c : Routine) (room : ℕ) (is : List Instr) (n : ℕ) (good : Bool) (o : Option ℕ) →
    ((free k m : ℕ) → k + m ≤ length is → all_good (instr_verdicts e c free is k m) ≡ true → length (instr_verdicts e c free is k m) ≡ m) →
    n ≤ length is → all_good (verdicts_by e c room is n good o) ≡ true → length (verdicts_by e c room is n good o) ≡ suc n
count_by e c room is n good None count p h = ap suc (count room 0 n (omega (arith, p)) (and_right good (all_good (instr_verdicts e c room is zero n)) h))
count_by e c room is n good (Some x) count p h =
    let first : List Bool = instr_verdicts e c (room - 1) is zero x in
    let rest : List Bool = instr_verdicts e c room is x (n - x) in
    let head : (good && nat_le x n && nat_lt 0 room) ≡ true = and_left (good && nat_le x n && nat_lt 0 room) (all_good (first ++ rest)) h in
    let fits : x ≤ n = leb-true x n (and_right good (nat_le x n) (and_left (good && nat_le x n) (nat_lt 0 room) head)) in
    let both : (all_good first && all_good rest) ≡ true = sym (list_all-append (λ b. b) first rest) ∙ and_right (good && nat_le x n && nat_lt 0 room) (all_good (first ++ rest)) h in
    ap suc (length-append first rest)
    ∙ (ap (λ k. suc (k + length rest)) (count (room - 1) 0 x (omega (arith, p, fits)) (and_left (all_good first) (all_good rest) both))
    ∙ (ap (λ k. suc (x + k)) (count room x (n - x) (omega (arith, p, fits)) (and_right (all_good first) (all_good rest) both))
    ∙ sum_up x n fits))

pub count_good : (e : Environment) (c : Routine) (is : List Instr) (room k n : ℕ) → k + n ≤ length is → all_good (instr_verdicts e c room is k n) ≡ true → length (instr_verdicts e c room is k n) ≡ n
count_good e c [] room k n p h = omega (arith, p)
count_good e c (i ∷ is) room (suc k) n p h = count_good e c is room k n (omega (arith, p)) h
count_good e c (i ∷ is) room zero zero p h = refl
count_good e c (i ∷ is) room zero (suc n) p h =
    ap length (as_by e c room i is n (block_of i))
    ∙ count_by e c room is n (is_good_instr e c i) (block_of i) (λ free k m. count_good e c is free k m) (omega (arith, p)) (sym (ap all_good (as_by e c room i is n (block_of i))) ∙ h)

-- ---- one step

-- the first of `count` is passed
pub passes_next : (e : Environment) (c : Routine) (room : ℕ) (is : List Instr) (at count : ℕ) →
    bad_among e c room (drop at is) count ≡ option_map (λ n. n + 1) (bad_among e c room (drop 1 (drop at is)) (count - 1)) →
    option_map (λ n. at + n) (bad_among e c room (drop at is) count) ≡ option_map (λ n. at + 1 + n) (bad_among e c room (drop (at + 1) is) (count - 1))
passes_next e c room is at count h =
    ap (option_map (λ n. at + n)) h
    ∙ (map_later at (bad_among e c room (drop 1 (drop at is)) (count - 1))
    ∙ ap (λ l. option_map (λ n. at + 1 + n) (bad_among e c room l (count - 1))) (drop-drop 1 at is))

-- the first of `count` begins a block in which one is bad
pub stops_within : (e : Environment) (c : Routine) (room : ℕ) (is : List Instr) (at count size bad : ℕ) →
    bad_among e c room (drop at is) count ≡ option_map (λ n. n + 1) (first_bad (instr_verdicts e c (room - 1) (drop 1 (drop at is)) zero size ++ instr_verdicts e c room (drop 1 (drop at is)) size (count - 1 - size))) →
    Some bad ≡ option_map (λ n. at + 1 + n) (bad_among e c (room - 1) (drop (at + 1) is) size) →
    Some bad ≡ option_map (λ n. at + n) (bad_among e c room (drop at is) count)
stops_within e c room is at count size bad h b = within (bad_among e c (room - 1) (drop (at + 1) is) size) refl b
  where
    within : (o : Option ℕ) → o ≡ bad_among e c (room - 1) (drop (at + 1) is) size → Some bad ≡ option_map (λ n. at + 1 + n) o → Some bad ≡ option_map (λ n. at + n) (bad_among e c room (drop at is) count)
    within None w q = absurd (none-some _ (sym q))
    within (Some k) w q =
        q ∙ sym (ap (option_map (λ n. at + n)) (h ∙ ap (option_map (λ n. n + 1))
        (bad_before (instr_verdicts e c (room - 1) (drop 1 (drop at is)) zero size) (instr_verdicts e c room (drop 1 (drop at is)) size (count - 1 - size)) k
        (ap (λ l. first_bad (instr_verdicts e c (room - 1) l zero size)) (drop-drop 1 at is) ∙ sym w)))
        ∙ map_later at (Some k))

-- the first of `count` begins a block in which all are good
pub passes_block : (e : Environment) (c : Routine) (room : ℕ) (is : List Instr) (at count size : ℕ) → at + count ≤ length is → size < count →
    bad_among e c room (drop at is) count ≡ option_map (λ n. n + 1) (first_bad (instr_verdicts e c (room - 1) (drop 1 (drop at is)) zero size ++ instr_verdicts e c room (drop 1 (drop at is)) size (count - 1 - size))) →
    None ≡ option_map (λ n. at + 1 + n) (bad_among e c (room - 1) (drop (at + 1) is) size) →
    option_map (λ n. at + n) (bad_among e c room (drop at is) count) ≡ option_map (λ n. at + (1 + size) + n) (bad_among e c room (drop (at + (1 + size)) is) (count - (1 + size)))
passes_block e c room is at count size p q h b =
    let later : List Instr = drop (at + 1) is in
    let first : List Bool = instr_verdicts e c (room - 1) later zero size in
    let rest : List Bool = instr_verdicts e c room later size (count - 1 - size) in
    let good : all_good first ≡ true = everywhere first (none_of_map (at + 1) (first_bad first) (sym b)) in
    let long : length first ≡ size = count_good e c later (room - 1) 0 size (omega (arith, length-drop (at + 1) is, p, q)) good in
    ap (option_map (λ n. at + n)) (h ∙ ap (λ l. option_map (λ n. n + 1) (first_bad (instr_verdicts e c (room - 1) l zero size ++ instr_verdicts e c room l size (count - 1 - size)))) (drop-drop 1 at is))
    ∙ (map_later at (first_bad (first ++ rest))
    ∙ (ap (option_map (λ n. at + 1 + n)) (bad_behind first rest good)
    ∙ (map_map (at + 1) (length first) (first_bad rest)
    ∙ (ap (λ k. option_map (λ n. k + n) (first_bad rest)) (moved (length first) long)
    ∙ (ap (λ l. option_map (λ n. at + (1 + size) + n) (first_bad l)) (verdicts_skipped e c room later size (count - 1 - size))
    ∙ (ap (λ l. option_map (λ n. at + (1 + size) + n) (first_bad (instr_verdicts e c room l zero (count - 1 - size)))) (drop-drop size (at + 1) is)
    ∙ ap₂ (λ j k. option_map (λ n. at + (1 + size) + n) (first_bad (instr_verdicts e c room (drop j is) zero k))) (omega arith) (omega arith)))))))
  where
    moved : (k : ℕ) → k ≡ size → at + 1 + k ≡ at + (1 + size)
    moved k w = omega (arith, w)
