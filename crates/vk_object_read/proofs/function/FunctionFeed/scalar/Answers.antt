use Rattle.std.proofs.Common.{◌≡◌, ◌+◌, ap, sym, ◌∙◌}
use Rattle.vk_code_read.specs.declared.code.CodeFeed.{CodeFeed}
use Rattle.vk_code_read.specs.Inner.LeftCode.{code_row, code_width}
use Rattle.vk_object_read.specs.Inner.LeftFunction.{after_scalar}
use Rattle.vk_object_read.proofs.Steps.{lanes_begin, scalar_done}
use Rattle.vk_object_read.proofs.function.FunctionFeed.scalar.Goals as goal

pub returns-in-Done : goal.returns-in-Done
returns-in-Done g c = λ next.
    let s = c.args.self.now in
    let code = c.step.new.self in
    let whole = code_row code.front.front code.loops code.instrs in
    let end = c.args.at + code_width s.code in
    let row : c.row_of.result ≡ whole = c.row_of.ensures ∙ ap (λ (d : CodeFeed). code_row d.front.front d.loops d.instrs) c.replace-code.ensures.value in
    scalar_done s c.args.at c.args.field.now next code end _ c.requires.stage
    (c.in-Ok.ensures (after_scalar s.functions s.function next)) c.in-Done.is
    (lanes_begin s.functions s.function whole c.row_of.result c.len-left.result c.new.result end next c.len-left.ensures.length c.new.ensures.empty row
    ∙ sym (c.lanes.ensures end next))
