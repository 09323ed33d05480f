use Rattle.std.proofs.Common.{◌∙◌, is_none, map, ap}
use Rattle.vk_code.specs.declared.code.Code.{out-Code}
use Rattle.vk_code.specs.Listing.{call_site_of, routine_of}
use Rattle.vk_code.specs.Tests.{first_bad}
use Rattle.vk_code.specs.Valid.{environment_of, is_good_slot}
use Rattle.vk_code.proofs.Faults.{none_bad}
use Rattle.vk_code.proofs.validity.are_good_slots.Goals as goal

pub returns-in-Some : goal.returns-in-Some
returns-in-Some c =
    let f = is_good_slot (environment_of c.args.env.now) (routine_of c.args.code.now) in
    ap is_none (c.in-Some.ensures ∙ ap (λ xs. first_bad (map f (map call_site_of xs))) c.deref.ensures.value)
    ∙ none_bad (map f (map call_site_of (out-Code c.args.code.now).slots.items))

pub returns-in-None : goal.returns-in-None
returns-in-None c =
    let f = is_good_slot (environment_of c.args.env.now) (routine_of c.args.code.now) in
    ap is_none (c.in-None.ensures ∙ ap (λ xs. first_bad (map f (map call_site_of xs))) c.deref.ensures.value)
    ∙ none_bad (map f (map call_site_of (out-Code c.args.code.now).slots.items))
