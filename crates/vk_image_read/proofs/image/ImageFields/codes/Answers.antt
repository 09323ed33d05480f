use Rattle.std.proofs.Common.{◌≡◌, ℕ, ◌-◌, suc, ap, ◌∙◌, arith}
use Rattle.vk_format.specs.Codec.{read_after}
use Rattle.vk_code_format.specs.Codes.{code, in_image}
use Rattle.vk_image_read.specs.Inner.LeftImage.{after_code, after_codes}
use Rattle.vk_image_read.proofs.image.ImageFields.codes.Goals as goal

pub returns : goal.returns
returns g c = λ at next.
    let s = c.args.self.now in
    let more : suc (c.args.left - 1) ≡ c.args.left = omega (arith, c.if-left-eq0.false) in
    c.no_code.ensures at (after_code s.image s.count (c.args.left - 1) next)
    ∙ ap (λ (k : ℕ). read_after (λ before. code (in_image s.count)) k s.image.codes at (after_codes s.image next)) more
