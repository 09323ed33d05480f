use Rattle.std.proofs.Common.{◌≡◌, ℕ, ◌+◌, Bool, List, length, map, Some, None, refl, ap, sym, ◌∙◌, arith}
use Rattle.std.specs.Option.{option_map}
use Rattle.std.proofs.lemmas.List.{length-map}
use Rattle.vk_code.specs.Tests.{first_bad}
use Rattle.vk_code.proofs.Sections.{bad_first, behind_first}
use Rattle.vk_code_rows.specs.Made.{has_few_params, is_near_call, is_near_loop}
use Rattle.vk_code_rows.proofs.faults.far_part.Goals as goal

pub returns-in-Some : goal.returns-in-Some
returns-in-Some c =
    let r = c.args.row.now in
    let slots : List Bool = map is_near_call r.routine.front.slots in
    let loops : List Bool = map is_near_loop r.loops in
    let found : first_bad slots ≡ Some c.in-Some.at = ap (λ xs. first_bad (map is_near_call xs)) (sym c.as_slice-slots.ensures.items) ∙ sym c.in-Some.ensures.first in
    ap (λ (n : ℕ). Some n) (omega arith) ∙ sym (bad_first (has_few_params r.routine) slots loops c.in-Some.at (sym c.has_few_params.ensures ∙ c.if-not-has_few_params.false) found)

pub returns-in-Some-far_loop : goal.returns-in-Some-far_loop
returns-in-Some-far_loop c =
    let r = c.args.row.now in
    let slots : List Bool = map is_near_call r.routine.front.slots in
    let loops : List Bool = map is_near_loop r.loops in
    let none : first_bad slots ≡ None = ap (λ xs. first_bad (map is_near_call xs)) (sym c.as_slice-slots.ensures.items) ∙ sym c.in-None.ensures.first in
    let found : first_bad loops ≡ Some c.in-Some-far_loop.at = ap (λ xs. first_bad (map is_near_loop xs)) (sym c.as_slice-loops.ensures.items) ∙ sym c.in-Some-far_loop.ensures.first in
    let count : length c.as_slice-slots.result.now ≡ length slots = ap length c.as_slice-slots.ensures.items ∙ sym (length-map r.routine.front.slots is_near_call) in
    ap (λ (n : ℕ). Some n) (omega (arith, count))
    ∙ sym (behind_first (has_few_params r.routine) slots loops (length slots) (sym c.has_few_params.ensures ∙ c.if-not-has_few_params.false) none refl
    ∙ ap (option_map (λ n. 1 + length slots + n)) found)

pub returns-in-None-far_loop : goal.returns-in-None-far_loop
returns-in-None-far_loop c =
    let r = c.args.row.now in
    let slots : List Bool = map is_near_call r.routine.front.slots in
    let loops : List Bool = map is_near_loop r.loops in
    let none : first_bad slots ≡ None = ap (λ xs. first_bad (map is_near_call xs)) (sym c.as_slice-slots.ensures.items) ∙ sym c.in-None.ensures.first in
    let last : first_bad loops ≡ None = ap (λ xs. first_bad (map is_near_loop xs)) (sym c.as_slice-loops.ensures.items) ∙ sym c.in-None-far_loop.ensures.first in
    sym (behind_first (has_few_params r.routine) slots loops (length slots) (sym c.has_few_params.ensures ∙ c.if-not-has_few_params.false) none refl
    ∙ ap (option_map (λ n. 1 + length slots + n)) last)
