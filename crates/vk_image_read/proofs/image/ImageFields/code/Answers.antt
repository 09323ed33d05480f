use Rattle.std.proofs.Common.{◌≡◌, ◌+◌, List, [], ◌∷◌, ◌++◌, ap, sym, ◌∙◌}
use Rattle.vk_format.specs.Codec.{read_after}
use Rattle.vk_code_format.specs.declared.rows.CodeRow.{CodeRow}
use Rattle.vk_code_format.specs.Codes.{code, in_image}
use Rattle.vk_code_read.specs.declared.code.CodeFeed.{CodeFeed}
use Rattle.vk_code_read.specs.Inner.LeftCode.{code_row, code_width}
use Rattle.vk_image_read.specs.Inner.LeftImage.{after_code, after_codes}
use Rattle.vk_image_read.proofs.Steps.{code_done}
use Rattle.vk_image_read.proofs.image.ImageFields.code.Goals as goal

pub returns-in_ok-push : goal.returns-in_ok-push
returns-in_ok-push g c = λ next.
    let s = c.args.self.now in
    let i = s.image in
    let fed = c.step.new.self in
    let end = c.args.at + code_width s.code in
    let row : c.row_of.result ≡ code_row fed.front.front fed.loops fed.instrs =
    c.row_of.ensures ∙ ap (λ (d : CodeFeed). code_row d.front.front d.loops d.instrs) c.replace-whole.ensures.value in
    let pushed = ap (λ (r : CodeRow). i.codes ++ r ∷ []) (sym row) ∙ sym c.in_ok-push.ensures.ok in
    code_done s c.args.left c.args.at c.args.field.now next fed end _ c.requires.stage
    (c.in-Ok.ensures (after_code i s.count c.args.left next)) c.in-Done.is
    (ap (λ (cs : List CodeRow). read_after (λ before. code (in_image s.count)) c.args.left cs end (after_codes i next)) pushed
    ∙ sym (c.codes.ensures end next))
