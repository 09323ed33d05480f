use Rattle.std.proofs.Common.{refl}
use Rattle.vk_access.specs.Cells.{cells_in}
use Rattle.vk_access.specs.Outer.{Outer, outer_of}
use Rattle.vk_direct.specs.Calls.{entered}
use Rattle.vk_direct.specs.Discard.{state_of}
use Rattle.vk_machine.proofs.Gives.{leaves_ok, never_fails}
use Rattle.vk_machine.proofs.entering.call_silently.Goals as goal

pub is_done-requires : goal.is_done-requires
is_done-requires c =
    never_fails c.call_entry-ran.result (entered c.args.call.now (cells_in c.args.memory.now.cells.items)) (outer_of c.args.memory.now (state_of c.new-out.result)) (outer_of c.call_entry-ran.new.memory (state_of c.call_entry-ran.new.out)) c.call_entry-ran.ensures.calls refl refl refl

pub returns-clause-cells : goal.returns-clause-cells
returns-clause-cells c =
    let g = entered c.args.call.now (cells_in c.args.memory.now.cells.items) in
    let a : Outer = outer_of c.args.memory.now (state_of c.new-out.result) in
    let b : Outer = outer_of c.call_entry-ran.new.memory (state_of c.call_entry-ran.new.out) in
    (leaves_ok c.call_entry-ran.result g a b c.call_entry-ran.ensures.calls (never_fails c.call_entry-ran.result g a b c.call_entry-ran.ensures.calls refl refl refl)).cells

pub returns-clause-counts : goal.returns-clause-counts
returns-clause-counts c =
    let g = entered c.args.call.now (cells_in c.args.memory.now.cells.items) in
    let a : Outer = outer_of c.args.memory.now (state_of c.new-out.result) in
    let b : Outer = outer_of c.call_entry-ran.new.memory (state_of c.call_entry-ran.new.out) in
    (leaves_ok c.call_entry-ran.result g a b c.call_entry-ran.ensures.calls (never_fails c.call_entry-ran.result g a b c.call_entry-ran.ensures.calls refl refl refl)).counts

pub returns-clause-results : goal.returns-clause-results
returns-clause-results c =
    let g = entered c.args.call.now (cells_in c.args.memory.now.cells.items) in
    let a : Outer = outer_of c.args.memory.now (state_of c.new-out.result) in
    let b : Outer = outer_of c.call_entry-ran.new.memory (state_of c.call_entry-ran.new.out) in
    c.call_entry-ran.ensures.results (never_fails c.call_entry-ran.result g a b c.call_entry-ran.ensures.calls refl refl refl)

pub returns-clause-stops : goal.returns-clause-stops
returns-clause-stops c =
    let g = entered c.args.call.now (cells_in c.args.memory.now.cells.items) in
    let a : Outer = outer_of c.args.memory.now (state_of c.new-out.result) in
    let b : Outer = outer_of c.call_entry-ran.new.memory (state_of c.call_entry-ran.new.out) in
    c.call_entry-ran.ensures.stops (never_fails c.call_entry-ran.result g a b c.call_entry-ran.ensures.calls refl refl refl)
