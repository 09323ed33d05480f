-- The words and the mask are those of the texts.
use Rattle.std.proofs.Common.{◌≡◌, refl}
use Rattle.vk_ends.specs.declared.ends.CallFault.{CallFault}
use Rattle.vk_ends.specs.declared.ends.CallRule.TheVariants.{A2}
use Rattle.vk_lanes.specs.Masks.{is_on}
use Rattle.vk_arguments.specs.Arguments.{Given, IsRefused, called, given}
use Rattle.vk_arguments.specs.Texts.{mask_of}
use Rattle.vk_arguments.proofs.Passing.{given_refused, taken, typed_rows, unfit}
use Rattle.vk_arguments.proofs.arguments.arguments_of.Goals as goal

pub returns-in-Some-first_misfit-clause-refused : goal.returns-in-Some-first_misfit-clause-refused
returns-in-Some-first_misfit-clause-refused g c fault is =
    let word = g.V.Values.meaning c.args.values.now in
    let gave : Given = given c.args.bits c.args.texts.now in
    let on : is_on c.in-Some.mask ≡ mask_of c.args.callee.now.lanes gave.bits = λ i lane. c.in-Some.ensures.lanes lane i in
    let least = c.in-Some-first_misfit.ensures.misfit in
    let f : CallFault = record { rule = A2; first = c.in-Some-first_misfit.parameter; second = c.in-Some-first_misfit.lane } in
    given_refused (λ h. IsRefused word (called c.args.callee.now) gave h.rule h.first h.second) c.refused-in-Some-first_misfit.result f fault is c.refused-in-Some-first_misfit.ensures
    (unfit word (g.V.Values.arrays c.args.values.now) (called c.args.callee.now) gave c.in-Ok.words.items c.deref.result.now (is_on c.in-Some.mask) c.in-Some-first_misfit.parameter
    c.in-Some-first_misfit.lane c.in-Some.ensures.taken c.in-Ok.ensures.right c.in-Ok.ensures.rows c.deref.ensures.value on least)

pub returns-in-None-clause-taken : goal.returns-in-None-clause-taken
returns-in-None-clause-taken g c =
    let gave : Given = given c.args.bits c.args.texts.now in
    let on : is_on c.in-Some.mask ≡ mask_of c.args.callee.now.lanes gave.bits = λ i lane. c.in-Some.ensures.lanes lane i in
    taken (g.V.Values.meaning c.args.values.now) (g.V.Values.arrays c.args.values.now) (called c.args.callee.now) gave c.in-Ok.words.items c.deref.result.now (is_on c.in-Some.mask)
    c.in-Some.ensures.taken c.in-Ok.ensures.right c.in-Ok.ensures.rows c.deref.ensures.value on (c.in-None.ensures.fitting refl)

pub returns-in-None-clause-typed : goal.returns-in-None-clause-typed
returns-in-None-clause-typed g c =
    typed_rows (g.V.Values.meaning c.args.values.now) (g.V.Values.arrays c.args.values.now) c.args.callee.now.lanes c.args.callee.now.types.now (given c.args.bits c.args.texts.now).texts
    c.in-Ok.words.items (is_on c.in-Some.mask) c.in-Ok.ensures.rows
