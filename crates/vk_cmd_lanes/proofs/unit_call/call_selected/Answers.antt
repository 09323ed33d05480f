-- The callee by what is selected, its arguments, and the lines of its lanes.
use Rattle.std.proofs.Common.{◌∙◌, ℕ, ◌<◌, List, Err, length, ap, sym, subst}
use Rattle.vk_ast.specs.Units.{function_of}
use Rattle.vk_rules.specs.Verdicts.{judged}
use Rattle.vk_selection.specs.Selection.{IsSelected}
use Rattle.vk_arguments.specs.Arguments.{called}
use Rattle.vk_arguments.specs.declared.arguments.NoArguments.TheVariants.{Refused}
use Rattle.vk_lanes.specs.Masks.{is_on, lane_count}
use Rattle.vk_cmd_lanes.specs.Lanes.{asked_of}
use Rattle.vk_cmd_lanes.proofs.Calls.{fault_is, few_parameters, prints_call, refuses_call, typed_call, words_fit}
use Rattle.vk_cmd_lanes.proofs.Selected.{lanes_few, lanes_some, selected_at}
use Rattle.vk_cmd_lanes.proofs.unit_call.call_selected.Goals as goal

pub arguments_of-requires-clause-parameters : goal.arguments_of-requires-clause-parameters
arguments_of-requires-clause-parameters c =
    let f = function_of c.args.form.now.function.now in
    let selects = c.in-Some.ensures.found in
    let is = c.callee_of-callee.ensures f (selected_at (judged c.args.unit.now) f c.args.call.isa 0 c.as_bytes.result.now c.in-Some.selected c.requires.form.items selects) in
    few_parameters f c.in-Some.selected (called c.callee_of-callee.result) c.requires.small.params is

pub arguments_of-requires-clause-lanes : goal.arguments_of-requires-clause-lanes
arguments_of-requires-clause-lanes c =
    let f = function_of c.args.form.now.function.now in
    let selects = c.in-Some.ensures.found in
    let is = c.callee_of-callee.ensures f (selected_at (judged c.args.unit.now) f c.args.call.isa 0 c.as_bytes.result.now c.in-Some.selected c.requires.form.items selects) in
    lanes_few (judged c.args.unit.now) f c.args.call.isa c.as_bytes.result.now c.in-Some.selected (called c.callee_of-callee.result) c.requires.letter selects is

pub lines_of-requires-clause-lanes : goal.lines_of-requires-clause-lanes
lines_of-requires-clause-lanes c =
    let f = function_of c.args.form.now.function.now in
    let selects = c.in-Some.ensures.found in
    let is = c.callee_of-callee.ensures f (selected_at (judged c.args.unit.now) f c.args.call.isa 0 c.as_bytes.result.now c.in-Some.selected c.requires.form.items selects) in
    subst (λ (n : ℕ). 0 < n) (sym c.in-Ok.ensures.len)
    (lanes_some (judged c.args.unit.now) f c.args.call.isa c.as_bytes.result.now c.in-Some.selected (called c.callee_of-callee.result) c.requires.letter selects is)

pub lines_of-requires-clause-words : goal.lines_of-requires-clause-words
lines_of-requires-clause-words c =
    let f = function_of c.args.form.now.function.now in
    let selects = c.in-Some.ensures.found in
    let is = c.callee_of-callee.ensures f (selected_at (judged c.args.unit.now) f c.args.call.isa 0 c.as_bytes.result.now c.in-Some.selected c.requires.form.items selects) in
    words_fit f c.in-Some.selected (called c.callee_of-callee.result) (length c.in-Ok.arguments.words.items) (lane_count c.in-Ok.arguments.mask) is c.in-Ok.ensures.len c.in-Ok.ensures.size

pub lines_of-requires-clause-typed : goal.lines_of-requires-clause-typed
lines_of-requires-clause-typed c =
    let f = function_of c.args.form.now.function.now in
    let selects = c.in-Some.ensures.found in
    let is = c.callee_of-callee.ensures f (selected_at (judged c.args.unit.now) f c.args.call.isa 0 c.as_bytes.result.now c.in-Some.selected c.requires.form.items selects) in
    typed_call f c.in-Some.selected (called c.callee_of-callee.result) (lane_count c.in-Ok.arguments.mask) c.in-Ok.arguments.words.items (is_on c.in-Ok.arguments.mask) is c.in-Ok.ensures.len c.in-Ok.ensures.typed

pub returns-in-Ok-lines_of-clause-lines : goal.returns-in-Ok-lines_of-clause-lines
returns-in-Ok-lines_of-clause-lines c =
    let f = function_of c.args.form.now.function.now in
    let unit = judged c.args.unit.now in
    let r = asked_of c.args.call in
    let named : IsSelected unit r.isa 0 r.name c.in-Some.selected =
    subst (λ (text : List ℕ). IsSelected unit r.isa 0 text c.in-Some.selected) c.as_bytes.ensures.value c.in-Some.ensures.found in
    let is = c.callee_of-callee.ensures f (selected_at unit f c.args.call.isa 0 c.as_bytes.result.now c.in-Some.selected c.requires.form.items c.in-Some.ensures.found) in
    prints_call unit f r c.in-Some.selected (called c.callee_of-callee.result) (lane_count c.in-Ok.arguments.mask) (is_on c.in-Ok.arguments.mask) c.in-Ok.arguments.words.items c.in-Ok-lines_of.lines
    named is c.in-Ok.ensures.taken c.in-Ok.ensures.len c.in-Ok.ensures.mask c.in-Ok.ensures.words (c.in-Ok-lines_of.ensures unit c.requires.form)

pub returns-clause-refused : goal.returns-clause-refused
returns-clause-refused c fault told =
    let f = function_of c.args.form.now.function.now in
    let unit = judged c.args.unit.now in
    let r = asked_of c.args.call in
    let named : IsSelected unit r.isa 0 r.name c.in-Some.selected =
    subst (λ (text : List ℕ). IsSelected unit r.isa 0 text c.in-Some.selected) c.as_bytes.ensures.value c.in-Some.ensures.found in
    let is = c.callee_of-callee.ensures f (selected_at unit f c.args.call.isa 0 c.as_bytes.result.now c.in-Some.selected c.requires.form.items c.in-Some.ensures.found) in
    refuses_call unit f r c.in-Some.selected (called c.callee_of-callee.result) fault.rule fault.first fault.second named is (c.arguments_of.ensures.refused fault (c.in-Err.is ∙ ap Err (fault_is c.in-Err.fail (Refused fault) told)))
