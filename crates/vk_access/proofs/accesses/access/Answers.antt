use Rattle.std.proofs.Common.{◌≡◌, ℕ, ap, arith, refl, sym}
use Rattle.vk_object.specs.Lane.{View, acts}
use Rattle.vk_object.specs.Machine.{World, in_lane, sweep}
use Rattle.vk_frames.specs.Frames.{lanes_of}
use Rattle.vk_steps.specs.Places.{entry, regs}
use Rattle.vk_access.specs.Outer.{world}
use Rattle.vk_access.specs.Stores.{extents}
use Rattle.vk_access.proofs.Leading.{broken, is_err, leads_as, leads_map, leads_same, leads_then, told_twice}
use Rattle.vk_access.proofs.Sweeping.{sweep_breaks, sweep_next}
use Rattle.vk_access.proofs.accesses.access.Goals as goal

pub loop-lane-init : goal.loop-lane-init
loop-lane-init g c = record { fits = c.requires.fits; store = c.requires.store; goes = leads_same World _ _ _ (λ e. told_twice _) (λ m. refl) }

pub access_in-requires-clause-fits : goal.access_in-requires-clause-fits
access_in-requires-clause-fits g c = c.loop-lane.invariant.fits

pub access_in-requires-clause-store : goal.access_in-requires-clause-store
access_in-requires-clause-store g c = c.loop-lane.invariant.store

pub loop-lane-preserved : goal.loop-lane-preserved
loop-lane-preserved g c =
    let p = c.args.place.now in
    let step : ℕ → View → View = λ j v. acts (extents p.image.now) (regs p) c.args.instr.m j c.args.operation v in
    record {
      fits = c.access_in.ensures.fits;
      store = c.access_in.ensures.store;
      goes = leads_then World _ _ _ _ (λ m. in_lane step c.loop-lane.lane (world (lanes_of c.loop-lane.frame) m)) _
          (leads_as World _ _ _ _ _ _ (λ m. sym (sweep_next step c.loop-lane.lane (world (lanes_of c.args.frame.now) m))) (λ m. refl) (leads_map World World _ _ _ _ (in_lane step c.loop-lane.lane) c.loop-lane.invariant.goes))
          c.in_ok-access_in.ensures.runs;
    }

pub returns-in_err-access_in-clause-runs : goal.returns-in_err-access_in-clause-runs
returns-in_err-access_in-clause-runs g c =
    let p = c.args.place.now in
    let step : ℕ → View → View = λ j v. acts (extents p.image.now) (regs p) c.args.instr.m j c.args.operation v in
    broken c.from_residual.result c.in_err-access_in.field-0.0 _ _ _ _ _ (is_err c.from_residual.result c.in_err-access_in.field-0.0 c.from_residual.ensures.1)
    (sweep_breaks (extents p.image.now) (regs p) c.args.instr.m c.args.operation c.loop-lane.lane (entry p).lanes (lanes_of c.args.frame.now) (lanes_of c.loop-lane.frame) _ _ _ c.in_err-access_in.field-0.0
    (omega (arith, c.loop-lane-test.true, c.requires.fits.shape.lanes_are)) c.loop-lane.invariant.goes c.in_err-access_in.ensures.runs)

pub returns-clause-runs : goal.returns-clause-runs
returns-clause-runs g c =
    let p = c.args.place.now in
    let step : ℕ → View → View = λ j v. acts (extents p.image.now) (regs p) c.args.instr.m j c.args.operation v in
    let end : c.loop-lane.lane ≡ (entry p).lanes = omega (arith, c.loop-lane-test.false, c.requires.fits.shape.lanes_are) in
    leads_as World _ _ _ _ _ _ (λ m. ap (λ n. sweep n step (world (lanes_of c.args.frame.now) m)) (sym end)) (λ m. refl) c.loop-lane.invariant.goes
