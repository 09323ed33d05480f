use Rattle.std.proofs.Common.{◌∙◌, ◌<◌, arith, subst, sym, IfSome}
use Rattle.vk_lanes.specs.Masks.{is_on}
use Rattle.vk_frames.specs.Frames.{lanes_of}
use Rattle.vk_access.specs.Cells.{cells_in}
use Rattle.vk_access.specs.Outer.{outer_of}
use Rattle.vk_steps.specs.Places.{listing}
use Rattle.vk_entries.proofs.Results.{result_inside}
use Rattle.vk_direct.specs.Calls.{entered}
use Rattle.vk_direct.proofs.Given.{results_given}
use Rattle.vk_machine.proofs.Gives.{entry_calls, entry_in}
use Rattle.vk_machine.proofs.entering.call_entry.Goals as goal

pub split_at_mut-words-requires : goal.split_at_mut-words-requires
split_at_mut-words-requires g c = let r = c.requires.room in let f = c.frame_size.ensures in omega (arith, r, f)

pub take_results-requires-clause-register : goal.take_results-requires-clause-register
take_results-requires-clause-register g c =
    let p = c.args.call.now.place in
    subst (λ n. IfSome (listing p).routine.result (λ r. r < n)) (sym c.enter-ran.ensures.keeps.fits.shape.registers_are) (result_inside p c.requires.entry.place.sound)

pub returns-clause-calls : goal.returns-clause-calls
returns-clause-calls g c =
    entry_calls c.args.call.now c.requires.entry (lanes_of c.open-frame.result) c.open-frame.ensures.lanes c.enter-ran.result (lanes_of c.enter-ran.new.frame)
    (outer_of c.args.memory.now (g.O.Sink.state c.args.out.now)) (outer_of c.enter-ran.new.memory (g.O.Sink.state c.enter-ran.new.out)) c.enter-ran.ensures.runs

pub returns-clause-results : goal.returns-clause-results
returns-clause-results g c = λ ok.
    let call = c.args.call.now in
    results_given (is_on call.mask.now) (entered call (cells_in c.args.memory.now.cells.items)) (listing call.place).routine.result (lanes_of c.enter-ran.new.frame) c.args.results.now c.take_results.new.results
    (entry_in call c.requires.entry (lanes_of c.open-frame.result) c.open-frame.ensures.lanes c.enter-ran.result (lanes_of c.enter-ran.new.frame)
    (outer_of c.args.memory.now (g.O.Sink.state c.args.out.now)) (outer_of c.enter-ran.new.memory (g.O.Sink.state c.enter-ran.new.out)) c.enter-ran.ensures.runs ok)
    c.take_results.ensures

pub returns-clause-stops : goal.returns-clause-stops
returns-clause-stops g c = λ ok j l.
    let call = c.args.call.now in
    let given = entry_in call c.requires.entry (lanes_of c.open-frame.result) c.open-frame.ensures.lanes c.enter-ran.result (lanes_of c.enter-ran.new.frame)
    (outer_of c.args.memory.now (g.O.Sink.state c.args.out.now)) (outer_of c.enter-ran.new.memory (g.O.Sink.state c.enter-ran.new.out)) c.enter-ran.ensures.runs ok in
    let inside : j < c.enter-ran.new.frame.lanes = (let e = c.requires.entry.lanes in let f = c.enter-ran.ensures.keeps.fits.shape.lanes_are in omega (arith, l, e, f)) in
    c.take_stops.ensures j inside ∙ sym (given.stops j)
