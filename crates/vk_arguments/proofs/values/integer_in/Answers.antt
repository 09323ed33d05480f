-- The sign in front, and the digits.
use Rattle.std.proofs.Common.{arith, ◌∙◌, ◌≢◌, ap, rules, get_or}
use Rattle.std.proofs.lemmas.Bool.Decides.{not_from_Decides}
use Rattle.std.proofs.lemmas.Int.{to_z-of_z}
use Rattle.std.proofs.lemmas.Str.Pattern.{starts_char}
use mir.Syntax.{w128}
use mir.Val.{SFits}
use Rattle.vk_arguments.specs.Integers.{if_in_range}
use Rattle.vk_arguments.proofs.Numerals.{number_read}
use Rattle.vk_arguments.proofs.values.integer_in.Goals as goal

pub returns-in-Ok : goal.returns-in-Ok
returns-in-Ok c =
    let plain : get_or c.args.text.now 0 0 ≢ 43 =
    not_from_Decides c.starts_with.result (starts_char 43 c.args.text.now c.starts_with.result c.starts_with.ensures.cases (omega arith) (omega arith)) c.if-starts_with.false in
    let fits : SFits w128 c.in-Ok.value = search rules in
    c.if_of.ensures ∙ ap (if_in_range c.args.ty) (to_z-of_z w128 c.in-Ok.value fits)
    ∙ (rw c.in-Ok.is at (number_read c.args.ty c.args.text.now c.parse.result c.parse.ensures.value.0 plain))

pub returns-in-Err : goal.returns-in-Err
returns-in-Err c =
    let plain : get_or c.args.text.now 0 0 ≢ 43 =
    not_from_Decides c.starts_with.result (starts_char 43 c.args.text.now c.starts_with.result c.starts_with.ensures.cases (omega arith) (omega arith)) c.if-starts_with.false in
    rw c.in-Err.is at (number_read c.args.ty c.args.text.now c.parse.result c.parse.ensures.value.0 plain)
