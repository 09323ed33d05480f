use Rattle.std.proofs.Common.{◌≡◌, ℕ, ◌==◌, ap, ap₂, cond, refl, slice_index, subst, sym, true, ◌∙◌}
use Rattle.vk_types.specs.declared.types.Ty.TheVariants.{I64}
use Rattle.vk_types.specs.Numbers.{number_of}
use Rattle.vk_object.specs.Lane.{acts, is_live}
use Rattle.vk_object.specs.Memory.{Memory, cell_of}
use Rattle.vk_frames.specs.Frames.{lanes_of}
use Rattle.vk_steps.specs.Locals.{live_as}
use Rattle.vk_steps.specs.Places.{regs}
use Rattle.vk_access.specs.Accesses.{storing}
use Rattle.vk_access.specs.Cells.{cells_in}
use Rattle.vk_access.specs.Outer.{memory_of, outer_of, told}
use Rattle.vk_access.specs.Stores.{extents}
use Rattle.vk_access.proofs.Laned.{acts_load, acts_print, acts_store, fits_acted, lane_goes, lane_prints, seen}
use Rattle.vk_access.proofs.Leading.{told_twice}
use Rattle.vk_access.proofs.accesses.access_in.Goals as goal

pub returns-in-Load-clause-fits : goal.returns-in-Load-clause-fits
returns-in-Load-clause-fits g c =
    let p = c.args.place.now in
    let f = lanes_of c.args.frame.now in
    let mem : Memory = record { cells = cells_in c.args.memory.now.cells.items; log = Rattle.std.proofs.Common.[] } in
    fits_acted p c.args.frame.now c.load_in.new.frame c.args.instr c.args.operation (extents p.image.now) c.args.lane _ mem mem c.requires.fits c.load_in.ensures.fits c.requires.good c.requires.lane c.requires.sound.few
    (ap (λ o. acts (extents p.image.now) (regs p) c.args.instr.m c.args.lane o (seen (f c.args.lane) mem)) c.in-Load.is ∙ acts_load (extents p.image.now) (regs p) c.args.instr.m c.args.lane c.in-Load.d c.in-Load.a (f c.args.lane) mem)
    c.load_in.ensures.lanes

pub returns-in-Load-clause-runs : goal.returns-in-Load-clause-runs
returns-in-Load-clause-runs g c =
    let p = c.args.place.now in
    let f = lanes_of c.args.frame.now in
    let o = outer_of c.args.memory.now (g.O.Sink.state c.args.out.now) in
    lane_goes (λ j v. acts (extents p.image.now) (regs p) c.args.instr.m j c.args.operation v) c.args.lane f (lanes_of c.load_in.new.frame) _ o o (λ e. told_twice _) (λ e. refl) refl c.load_in.ensures.lanes
    (λ log. ap (λ o. acts (extents p.image.now) (regs p) c.args.instr.m c.args.lane o (seen (f c.args.lane) (memory_of (outer_of c.args.memory.now (g.O.Sink.state c.args.out.now)) log))) c.in-Load.is
    ∙ acts_load (extents p.image.now) (regs p) c.args.instr.m c.args.lane c.in-Load.d c.in-Load.a (f c.args.lane) (memory_of o log))

pub returns-in-Store-clause-fits : goal.returns-in-Store-clause-fits
returns-in-Store-clause-fits g c =
    let p = c.args.place.now in
    let f = lanes_of c.args.frame.now in
    let mem : Memory = record { cells = cells_in c.args.memory.now.cells.items; log = Rattle.std.proofs.Common.[] } in
    fits_acted p c.args.frame.now c.store_in.new.frame c.args.instr c.args.operation (extents p.image.now) c.args.lane _ mem _ c.requires.fits c.store_in.ensures.fits c.requires.good c.requires.lane c.requires.sound.few
    (ap (λ o. acts (extents p.image.now) (regs p) c.args.instr.m c.args.lane o (seen (f c.args.lane) mem)) c.in-Store.is ∙ acts_store (extents p.image.now) (regs p) c.args.instr.m c.args.lane c.in-Store.a c.in-Store.b (f c.args.lane) mem)
    c.store_in.ensures.lanes

pub returns-in-Store-clause-runs : goal.returns-in-Store-clause-runs
returns-in-Store-clause-runs g c =
    let p = c.args.place.now in
    let f = lanes_of c.args.frame.now in
    let s = g.O.Sink.state c.args.out.now in
    lane_goes (λ j v. acts (extents p.image.now) (regs p) c.args.instr.m j c.args.operation v) c.args.lane f (lanes_of c.store_in.new.frame) _ (outer_of c.args.memory.now s) (outer_of c.store_in.new.memory s)
    (λ e. told_twice _) (λ e. ap (λ v. told (slice_index v.items e)) c.store_in.ensures.counts) refl c.store_in.ensures.lanes
    (λ log. ap (λ o. acts (extents p.image.now) (regs p) c.args.instr.m c.args.lane o (seen (f c.args.lane) (memory_of (outer_of c.args.memory.now s) log))) c.in-Store.is
    ∙ (acts_store (extents p.image.now) (regs p) c.args.instr.m c.args.lane c.in-Store.a c.in-Store.b (f c.args.lane) (memory_of (outer_of c.args.memory.now s) log)
    ∙ ap (λ (cells : ℕ → ℕ → ℕ). seen (live_as c.args.instr.m (f c.args.lane) (storing (f c.args.lane) (cell_of (extents p.image.now) ((f c.args.lane).reg c.in-Store.a)))) (record { cells = cells; log = log })) (sym c.store_in.ensures.cells)))

pub returns-in-Print-clause-runs : goal.returns-in-Print-clause-runs
returns-in-Print-clause-runs g c =
    let p = c.args.place.now in
    let f = lanes_of c.args.frame.now in
    let l = f c.args.lane in
    lane_prints (λ j v. acts (extents p.image.now) (regs p) c.args.instr.m j c.args.operation v) c.args.lane f (is_live c.args.instr.m l) (number_of I64 (l.reg c.in-Print.a))
    (outer_of c.args.memory.now (g.O.Sink.state c.args.out.now)) (outer_of c.args.memory.now (g.O.Sink.state c.print_in.new.out)) c.print_in.result
    (λ e. told_twice _) refl (λ e. refl) c.print_in.ensures.stays c.print_in.ensures.put c.print_in.ensures.failed c.print_in.ensures.memory
    (λ mem. ap (λ o. acts (extents p.image.now) (regs p) c.args.instr.m c.args.lane o (seen l mem)) c.in-Print.is ∙ acts_print (extents p.image.now) (regs p) c.args.instr.m c.args.lane c.in-Print.a l mem)
