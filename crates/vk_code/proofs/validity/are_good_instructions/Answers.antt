use Rattle.std.proofs.Common.{◌≡◌, ◌∙◌, is_none, length, ap, rules}
use Rattle.vk_code.specs.declared.code.Code.{out-Code}
use Rattle.vk_code.specs.Inner.Blocks.{bad_among}
use Rattle.vk_code.specs.Listing.{routine_of}
use Rattle.vk_code.specs.Valid.{body_verdicts, environment_of}
use Rattle.vk_code.proofs.Faults.{map_zero, none_bad}
use Rattle.vk_code.proofs.validity.are_good_instructions.Goals as goal

pub returns-in-Some : goal.returns-in-Some
returns-in-Some c =
    let e = environment_of c.args.env.now in
    let r = routine_of c.args.code.now in
    let k = out-Code c.args.code.now in
    let instrs : c.len.result ≡ length k.instrs.items = search rules in
    ap is_none (c.in-Some.ensures ∙ (map_zero (bad_among e r 64 k.instrs.items c.len.result) ∙ ap (bad_among e r 64 k.instrs.items) instrs))
    ∙ none_bad (body_verdicts e r)

pub returns-in-None : goal.returns-in-None
returns-in-None c =
    let e = environment_of c.args.env.now in
    let r = routine_of c.args.code.now in
    let k = out-Code c.args.code.now in
    let instrs : c.len.result ≡ length k.instrs.items = search rules in
    ap is_none (c.in-None.ensures ∙ (map_zero (bad_among e r 64 k.instrs.items c.len.result) ∙ ap (bad_among e r 64 k.instrs.items) instrs))
    ∙ none_bad (body_verdicts e r)
