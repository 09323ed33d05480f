-- Each active lane ended as its scalar call does.
use Rattle.vk_ast.specs.Units.{function_of}
use Rattle.vk_lanes.specs.Masks.{is_on, lane_count}
use Rattle.vk_lanes.specs.Words.{word_in}
use Rattle.vk_arguments.specs.Arguments.{passed}
use Rattle.vk_lane_lines.specs.Lines.{stops_in}
use Rattle.vk_cmd_lanes.proofs.Lines.{ended_so, lines_told}
use Rattle.vk_cmd_lanes.proofs.unit_call.lines_of.Goals as goal

pub returns : goal.returns
returns c unit is =
    let f = function_of c.args.form.now.function.now in
    let n = lane_count c.args.arguments.now.mask in
    lines_told unit f c.args.form.now.result c.args.turns n (is_on c.args.arguments.now.mask) (passed n c.args.arguments.now.words.items)
    (word_in c.deref-2.result.now) (stops_in c.deref-3.result.now) c.lane_lines.result (λ lane low on. ended_so unit f c.args.form.now.result c.args.turns lane (passed n c.args.arguments.now.words.items)
    c.deref-2.result.now c.in_ok-results.results.words.items c.deref-3.result.now c.in_ok-results.results.stops.items c.deref-2.ensures.value c.deref-3.ensures.value (rw c.deref.ensures.value at c.in_ok-results.ensures.results unit is lane low on)) c.lane_lines.ensures
