-- The digits have no sign in front.
use Rattle.std.proofs.Common.{arith, ◌∙◌, ◌≢◌, get_or}
use Rattle.std.proofs.lemmas.Bool.Decides.{not_from_Decides}
use Rattle.std.proofs.lemmas.Str.Pattern.{starts_char}
use Rattle.vk_pointer_texts.proofs.Steps.{steps_read}
use Rattle.vk_pointer_texts.proofs.texts.steps_of.Goals as goal

pub returns-clause-steps : goal.returns-clause-steps
returns-clause-steps c =
    let plus : get_or c.args.digits.now 0 0 ≢ 43 =
    not_from_Decides c.starts_with.result (starts_char 43 c.args.digits.now c.starts_with.result c.starts_with.ensures.cases (omega arith) (omega arith)) c.if-starts_with.false in
    let minus : get_or c.args.digits.now 0 0 ≢ 45 =
    not_from_Decides c.starts_with-2.result (starts_char 45 c.args.digits.now c.starts_with-2.result c.starts_with-2.ensures.cases (omega arith) (omega arith)) c.if-starts_with-2.false in
    c.ok.ensures.value ∙ steps_read c.args.digits.now c.parse.result c.parse.ensures.value.0 plus minus
