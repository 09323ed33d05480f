use Rattle.std.proofs.Common.{◌≡◌, ◌∙◌, ◌+◌, ◌++◌, List, Bool, Some, None, Err, length, map, ap, sym, rules}
use Rattle.std.specs.Option.{option_map}
use Rattle.std.proofs.lemmas.List.{length-map}
use Rattle.vk_code.specs.declared.code.Code.{out-Code}
use Rattle.vk_code.specs.Inner.Blocks.{bad_among}
use Rattle.vk_code.specs.Listing.{call_site_of, routine_of, simd_site_of}
use Rattle.vk_code.specs.Tests.{first_bad}
use Rattle.vk_code.specs.Valid.{answer_of, body_verdicts, environment_of, fault_numbered, is_good_head, is_good_loop, is_good_slot}
use Rattle.vk_code.proofs.Faults.{bad_before, map_zero}
use Rattle.vk_code.proofs.Sections.{bad_first, behind_both, behind_first}
use Rattle.vk_code.proofs.validity.first_fault.Goals as goal

pub returns-in-Some : goal.returns-in-Some
returns-in-Some c =
    let e = environment_of c.args.env.now in
    let r = routine_of c.args.code.now in
    let k = out-Code c.args.code.now in
    let slots : List Bool = map (is_good_slot e r) (map call_site_of k.slots.items) in
    let behind : List Bool = map (is_good_loop e r) (map simd_site_of k.loops.items) ++ body_verdicts e r in
    let found : first_bad slots ≡ Some c.in-Some.at = ap (λ xs. first_bad (map (is_good_slot e r) (map call_site_of xs))) (sym c.deref.ensures.value) ∙ sym c.in-Some.ensures in
    ap Err c.fault_at.ensures ∙ ap answer_of (sym (bad_first (is_good_head r) slots behind c.in-Some.at (sym c.is_good_head.ensures ∙ c.if-not-is_good_head.false) found))

pub returns-in-Some-bad_loop : goal.returns-in-Some-bad_loop
returns-in-Some-bad_loop c =
    let e = environment_of c.args.env.now in
    let r = routine_of c.args.code.now in
    let k = out-Code c.args.code.now in
    let slots : List Bool = map (is_good_slot e r) (map call_site_of k.slots.items) in
    let loops : List Bool = map (is_good_loop e r) (map simd_site_of k.loops.items) in
    let none : first_bad slots ≡ None = ap (λ xs. first_bad (map (is_good_slot e r) (map call_site_of xs))) (sym c.deref.ensures.value) ∙ sym c.in-None.ensures in
    let found : first_bad loops ≡ Some c.in-Some-bad_loop.at = ap (λ xs. first_bad (map (is_good_loop e r) (map simd_site_of xs))) (sym c.deref-2.ensures.value) ∙ sym c.in-Some-bad_loop.ensures in
    let count : c.len.result ≡ length k.slots.items = search rules in
    ap Err c.fault_at-in-Some-bad_loop.ensures
    ∙ (ap (λ n. Err (fault_numbered (1 + n + c.in-Some-bad_loop.at))) count
    ∙ ap answer_of (sym (behind_first (is_good_head r) slots (loops ++ body_verdicts e r) (length k.slots.items) (sym c.is_good_head.ensures ∙ c.if-not-is_good_head.false) none
    (length-map (map call_site_of k.slots.items) (is_good_slot e r) ∙ length-map k.slots.items call_site_of)
    ∙ ap (option_map (λ n. 1 + length k.slots.items + n)) (bad_before loops (body_verdicts e r) c.in-Some-bad_loop.at found))))

pub returns-in-Some-bad_instruction : goal.returns-in-Some-bad_instruction
returns-in-Some-bad_instruction c =
    let e = environment_of c.args.env.now in
    let r = routine_of c.args.code.now in
    let k = out-Code c.args.code.now in
    let slots : List Bool = map (is_good_slot e r) (map call_site_of k.slots.items) in
    let loops : List Bool = map (is_good_loop e r) (map simd_site_of k.loops.items) in
    let no_slot : first_bad slots ≡ None = ap (λ xs. first_bad (map (is_good_slot e r) (map call_site_of xs))) (sym c.deref.ensures.value) ∙ sym c.in-None.ensures in
    let no_loop : first_bad loops ≡ None = ap (λ xs. first_bad (map (is_good_loop e r) (map simd_site_of xs))) (sym c.deref-2.ensures.value) ∙ sym c.in-None-bad_loop.ensures in
    let instrs : c.len-2.result ≡ length k.instrs.items = search rules in
    let found : first_bad (body_verdicts e r) ≡ Some c.in-Some-bad_instruction.at =
    sym (c.in-Some-bad_instruction.ensures ∙ (map_zero (bad_among e r 64 k.instrs.items c.len-2.result) ∙ ap (bad_among e r 64 k.instrs.items) instrs)) in
    let slot_count : c.len-in-Some-bad_instruction.result ≡ length k.slots.items = search rules in
    let loop_count : c.len-in-Some-bad_instruction-2.result ≡ length k.loops.items = search rules in
    ap Err c.fault_at-in-Some-bad_instruction.ensures
    ∙ (ap (λ n. Err (fault_numbered (1 + n + c.len-in-Some-bad_instruction-2.result + c.in-Some-bad_instruction.at))) slot_count
    ∙ (ap (λ n. Err (fault_numbered (1 + length k.slots.items + n + c.in-Some-bad_instruction.at))) loop_count
    ∙ ap answer_of (sym (behind_both (is_good_head r) slots loops (body_verdicts e r) (length k.slots.items) (length k.loops.items) (sym c.is_good_head.ensures ∙ c.if-not-is_good_head.false) no_slot no_loop
    (length-map (map call_site_of k.slots.items) (is_good_slot e r) ∙ length-map k.slots.items call_site_of)
    (length-map (map simd_site_of k.loops.items) (is_good_loop e r) ∙ length-map k.loops.items simd_site_of)
    ∙ ap (option_map (λ n. 1 + length k.slots.items + length k.loops.items + n)) found))))

pub returns-in-None-bad_instruction : goal.returns-in-None-bad_instruction
returns-in-None-bad_instruction c =
    let e = environment_of c.args.env.now in
    let r = routine_of c.args.code.now in
    let k = out-Code c.args.code.now in
    let slots : List Bool = map (is_good_slot e r) (map call_site_of k.slots.items) in
    let loops : List Bool = map (is_good_loop e r) (map simd_site_of k.loops.items) in
    let no_slot : first_bad slots ≡ None = ap (λ xs. first_bad (map (is_good_slot e r) (map call_site_of xs))) (sym c.deref.ensures.value) ∙ sym c.in-None.ensures in
    let no_loop : first_bad loops ≡ None = ap (λ xs. first_bad (map (is_good_loop e r) (map simd_site_of xs))) (sym c.deref-2.ensures.value) ∙ sym c.in-None-bad_loop.ensures in
    let instrs : c.len-2.result ≡ length k.instrs.items = search rules in
    let found : first_bad (body_verdicts e r) ≡ None =
    sym (c.in-None-bad_instruction.ensures ∙ (map_zero (bad_among e r 64 k.instrs.items c.len-2.result) ∙ ap (bad_among e r 64 k.instrs.items) instrs)) in
    ap answer_of (sym (behind_both (is_good_head r) slots loops (body_verdicts e r) (length k.slots.items) (length k.loops.items) (sym c.is_good_head.ensures ∙ c.if-not-is_good_head.false) no_slot no_loop
    (length-map (map call_site_of k.slots.items) (is_good_slot e r) ∙ length-map k.slots.items call_site_of)
    (length-map (map simd_site_of k.loops.items) (is_good_loop e r) ∙ length-map k.loops.items simd_site_of)
    ∙ ap (option_map (λ n. 1 + length k.slots.items + length k.loops.items + n)) found))
