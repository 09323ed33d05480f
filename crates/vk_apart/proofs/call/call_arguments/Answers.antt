-- The words and the mask are those of the texts.
use Rattle.std.proofs.Common.{ap}
use Rattle.vk_ends.specs.declared.ends.CallFault.{CallFault}
use Rattle.vk_ends.specs.declared.ends.CallRule.TheVariants.{A3}
use Rattle.vk_lanes.specs.Masks.{is_on}
use Rattle.vk_arguments.specs.Arguments.{Given, called, given}
use Rattle.vk_pointer_texts.specs.Heads.{arrays_of}
use Rattle.vk_pointer_texts.specs.Values.{pointer_value}
use Rattle.vk_apart.specs.Apart.{IsCallRefused}
use Rattle.vk_apart.proofs.Answering.{given_refused}
use Rattle.vk_apart.proofs.Calling.{are_taken, refused_apart}
use Rattle.vk_apart.proofs.call.call_arguments.Goals as goal

pub returns-in-Some-clause-refused : goal.returns-in-Some-clause-refused
returns-in-Some-clause-refused c fault is =
    let arrays = arrays_of c.args.pointers.now.heads.now in
    let gave : Given = given c.args.bits c.args.texts.now in
    let f : CallFault = record { rule = A3; first = c.in-Some.first; second = c.in-Some.second } in
    given_refused (λ h. IsCallRefused (pointer_value arrays) arrays (called c.args.callee.now) gave h.rule h.first h.second) f fault is
    (refused_apart (pointer_value arrays) arrays (arrays_of c.heads.result.now) (called c.args.callee.now) gave c.in-Ok.arguments.words.items c.deref.result.now (is_on c.in-Ok.arguments.mask)
    c.in-Ok.ensures.taken c.in-Ok.ensures.words c.in-Ok.ensures.mask c.deref.ensures.value (ap arrays_of c.heads.ensures) c.in-Some.first c.in-Some.second c.in-Some.ensures)

pub returns-in-None-clause-taken : goal.returns-in-None-clause-taken
returns-in-None-clause-taken c =
    let arrays = arrays_of c.args.pointers.now.heads.now in
    are_taken (pointer_value arrays) arrays (arrays_of c.heads.result.now) (called c.args.callee.now) (given c.args.bits c.args.texts.now) c.in-Ok.arguments.words.items c.deref.result.now
    (is_on c.in-Ok.arguments.mask) c.in-Ok.ensures.taken c.in-Ok.ensures.words c.in-Ok.ensures.mask c.deref.ensures.value (ap arrays_of c.heads.ensures) c.in-None.ensures
