use Rattle.vk_names.proofs.ManyBytes.{step_digits_are}
use Rattle.vk_names.proofs.shortcuts.step_digits.Goals as goal

pub returns : goal.returns
returns c front params =
    let got = c.digits_of-at.result in
    step_digits_are front c.args.kind c.args.form params c.args.at c.args.run c.args.bytes.now (got.0, got.1, got.2.now) c.digits_of-at.ensures
