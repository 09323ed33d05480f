use Rattle.std.proofs.Common.{◌≡◌, arith, rules, refl, sym, subst, ◌∙◌, ap, ◌+◌, ◌-◌, ◌*◌, ◌/◌, ◌%◌, ap₂, ◌<◌, ◌≤◌, drop, zero, length, ℕ, true, false, Bool, Option}
use Rattle.std.specs.Prelude.{min}
use Rattle.vk_types.specs.declared.types.Stop.{Stop}
use Rattle.vk_code.specs.declared.code.LoopSite.{LoopSite}
use Rattle.vk_code.specs.Listing.{call_site_of, simd_site_of}
use Rattle.vk_object.specs.Lane.{LaneState, View, is_live, number_at}
use Rattle.vk_object.specs.Memory.{Calls, logged}
use Rattle.vk_object.specs.Machine.{Called, Ran, Target, World, again, any_live, body_args, call_one, calls_in_turn, enters, first_lane, first_live, guard_holds, in_lane, iterations, lane_args, run, runs_entry, Simd, simd_of, sweep}
use Rattle.vk_frames.specs.Frames.{lanes_of}
use Rattle.vk_steps.specs.Places.{entry, listing, regs, site}
use Rattle.std.specs.declared.alloc.Global.{Global}
use Rattle.std.specs.declared.vec.Vec.{Vec}
use Rattle.vk_types.specs.declared.types.Word.{Word}
use Rattle.vk_code.specs.declared.code.Code.{out-Code}
use Rattle.vk_access.specs.Cells.{cells_in}
use Rattle.vk_access.specs.Outer.{outer_of, world}
use Rattle.vk_access.proofs.Sweeping.{sweep_next}
use Rattle.vk_access.proofs.Leading.{breaks_after, breaks_more, broken, is_err, leads_map, leads_then, goes_on, leads_as, leads_same, runs_as, told_twice}
use Rattle.vk_runs.specs.Logs.{Grows}
use Rattle.vk_runs.proofs.Logs.{grows_same}
use Rattle.vk_calls.specs.Fetched.{IsPart}
use Rattle.vk_calls.specs.declared.fetch.Fetched.{Fetched}
use Rattle.vk_perform.specs.Performed.{performed}
use Rattle.vk_perform.proofs.Calling.{a_stop, alive, call_breaks, call_goes, call_none, call_one_breaks, call_one_goes, call_one_none, first_below, lowest_at, no_stop, target_all, target_each, turn_breaks, turn_goes}
use Rattle.vk_perform.proofs.Fitting.{all_taken, fits_all_taken, fits_counted, fits_out, fits_taken, has_a_lane, loop_mask, loop_there, whole}
use Rattle.vk_perform.proofs.Growing.{GrowsLogs, again_grows, call_one_grows, calls_grow, run_grows, sweep_grows}
use Rattle.vk_perform.proofs.Looping.{calls_as, calls_broken, chunk_asked, chunk_breaks, chunk_stops, loop_breaks, loop_goes, loop_none, rest_asked, rest_runs, slow_asked, slow_calls}
use Rattle.vk_perform.proofs.Running.{again_done, again_more, again_out, less_0, none_left, part_left, run_fetched, run_zero, runs_counted}
use Rattle.vk_perform.proofs.run.+run.Goals as goal

pub repeat_block-loop-init : goal.repeat_block-loop-init
repeat_block-loop-init g n c = record {
  ready = c.requires.ready;
  leads = leads_same World _ _ _ (λ e. told_twice _) (λ m. ap (λ k. again (entry c.args.place.now).lanes c.args.m (λ v. run (site c.args.place.now) (drop c.args.from (listing c.args.place.now).routine.instrs) zero c.args.count v) k (world (lanes_of c.args.frame.now) m)) (less_0 c.args.place.now.turns));
}

pub repeat_block-returns-then-not-any_live-clause-runs : goal.repeat_block-returns-then-not-any_live-clause-runs
repeat_block-returns-then-not-any_live-clause-runs g n c =
    let block : World → World = λ v. run (site c.args.place.now) (drop c.args.from (listing c.args.place.now).routine.instrs) zero c.args.count v in
    let lanes = (entry c.args.place.now).lanes in
    leads_as World _ _ _ _ _ _ (λ m. refl) (λ m. again_done lanes c.args.m block (c.args.place.now.turns - c.loop.counter) (world (lanes_of c.loop.frame) m) (alive lanes c.loop.frame.lanes c.args.m (lanes_of c.loop.frame) c.any_live.result false c.loop.invariant.ready.fits.shape.lanes_are c.any_live.ensures c.if-not-any_live.true)) c.loop.invariant.leads

pub repeat_block-loop-preserved : goal.repeat_block-loop-preserved
repeat_block-loop-preserved g n c =
    let block : World → World = λ v. run (site c.args.place.now) (drop c.args.from (listing c.args.place.now).routine.instrs) zero c.args.count v in
    let lanes = (entry c.args.place.now).lanes in
    record {
      ready = record { sound = c.loop.invariant.ready.sound; fits = c.run_block.ensures.keeps.fits; store = c.run_block.ensures.keeps.store; room = search rules };
      leads = goes_on _ _ _ (lanes_of c.loop.frame) (lanes_of c.run_block.new.frame) _ (λ w. again lanes c.args.m block (c.args.place.now.turns - c.loop.counter) w) (λ w. again lanes c.args.m block (c.args.place.now.turns - (c.loop.counter + 1)) w) block
          c.loop.invariant.leads c.in_ok-run_block.ensures.runs
          (λ m. again_more lanes c.args.m block (c.args.place.now.turns - c.loop.counter) (c.args.place.now.turns - (c.loop.counter + 1)) (world (lanes_of c.loop.frame) m) (omega (arith, c.loop-test.true)) (omega arith) (alive lanes c.loop.frame.lanes c.args.m (lanes_of c.loop.frame) c.any_live.result true c.loop.invariant.ready.fits.shape.lanes_are c.any_live.ensures c.if-not-any_live.false));
    }

pub repeat_block-returns-then-any_live-clause-runs : goal.repeat_block-returns-then-any_live-clause-runs
repeat_block-returns-then-any_live-clause-runs g n c =
    let block : World → World = λ v. run (site c.args.place.now) (drop c.args.from (listing c.args.place.now).routine.instrs) zero c.args.count v in
    let lanes = (entry c.args.place.now).lanes in
    leads_as World _ _ _ _ _ _ (λ m. refl) (λ m. again_out lanes c.args.m block (c.args.place.now.turns - c.loop.counter) (world (lanes_of c.loop.frame) m) (omega (arith, c.loop-test.false)) (alive lanes c.loop.frame.lanes c.args.m (lanes_of c.loop.frame) c.any_live-2.result true c.loop.invariant.ready.fits.shape.lanes_are c.any_live-2.ensures c.if-any_live.true)
    ∙ ap (λ (f : ℕ → LaneState). world f m) (sym c.stop_turns.ensures.lanes)) c.loop.invariant.leads

pub run_block-loop-left-init : goal.run_block-loop-left-init
run_block-loop-left-init g n c = record {
  ready = c.requires.ready;
  part = c.requires.part;
  past = omega arith;
  leads = leads_same World _ _ _ (λ e. told_twice _) (λ m. refl);
}

pub run_block-returns-clause-runs : goal.run_block-returns-clause-runs
run_block-returns-clause-runs g n c =
    let s = site c.args.place.now in
    let is = (listing c.args.place.now).routine.instrs in
    let z : c.loop-left.left ≡ 0 = omega (arith, c.loop-left-test.false) in
    leads_as World _ _ _ _ _ _ (λ m. refl) (λ m. ap (λ k. run s (drop c.loop-left.at is) zero k (world (lanes_of c.loop-left.frame) m)) z ∙ run_zero s (drop c.loop-left.at is) (world (lanes_of c.loop-left.frame) m)) c.loop-left.invariant.leads

pub repeat_block-returns-in_err-run_block-clause-runs : goal.repeat_block-returns-in_err-run_block-clause-runs
repeat_block-returns-in_err-run_block-clause-runs g n c =
    let p = c.args.place.now in
    let block : World → World = λ v. run (site p) (drop c.args.from (listing p).routine.instrs) zero c.args.count v in
    let lanes = (entry p).lanes in
    let fault = c.in_err-run_block.field-0.0 in
    broken c.from_residual.result fault _ _ _ _ _ (is_err c.from_residual.result fault c.from_residual.ensures.1)
    (breaks_after World (λ w. w.mem) _ _ _ fault _ (λ m. again lanes c.args.m block (c.args.place.now.turns - c.loop.counter) (world (lanes_of c.loop.frame) m)) (λ m. (block (world (lanes_of c.loop.frame) m)).mem)
    c.loop.invariant.leads c.in_err-run_block.ensures.runs
    (λ m. subst (λ (w : World). Grows (block (world (lanes_of c.loop.frame) m)).mem w.mem)
    (sym (again_more lanes c.args.m block (c.args.place.now.turns - c.loop.counter) (c.args.place.now.turns - (c.loop.counter + 1)) (world (lanes_of c.loop.frame) m) (omega (arith, c.loop-test.true)) (omega arith) (alive lanes c.loop.frame.lanes c.args.m (lanes_of c.loop.frame) c.any_live.result true c.loop.invariant.ready.fits.shape.lanes_are c.any_live.ensures c.if-not-any_live.false)))
    (again_grows p lanes c.args.m block (λ w. run_grows p (drop c.args.from (listing p).routine.instrs) zero c.args.count w) (c.args.place.now.turns - (c.loop.counter + 1)) (block (world (lanes_of c.loop.frame) m)))))

pub call_slot-returns-then-found-eq1-clause-runs : goal.call_slot-returns-then-found-eq1-clause-runs
call_slot-returns-then-found-eq1-clause-runs g n c =
    let p = c.args.place.now in
    let found = c.find_call-found.result in
    let is = c.find_call-found.ensures.is in
    let t : Target = record { slot = call_site_of found.slot.now; number = found.place.number; entry = entry found.place } in
    runs_as c.call_each.result _ _ _ _ _ _ (λ m. target_each (site p) c.args.m c.args.slot (world (lanes_of c.args.frame.now) m) t (enters found.place.number (site found.place)) is.target is.callee.does (search rules)) c.call_each.ensures.runs

pub call_slot-returns-else-found-eq1-clause-runs : goal.call_slot-returns-else-found-eq1-clause-runs
call_slot-returns-else-found-eq1-clause-runs g n c =
    let p = c.args.place.now in
    let found = c.find_call-found.result in
    let is = c.find_call-found.ensures.is in
    let t : Target = record { slot = call_site_of found.slot.now; number = found.place.number; entry = entry found.place } in
    runs_as c.call.result _ _ _ _ _ _ (λ m. target_all (site p) c.args.m c.args.slot (world (lanes_of c.args.frame.now) m) t (enters found.place.number (site found.place)) is.target is.callee.does (λ e. c.if-found-eq1.false e)) c.call.ensures.runs

pub call_each-loop-lane-init : goal.call_each-loop-lane-init
call_each-loop-lane-init g n c = record { ready = c.requires.ready; goes = leads_same World _ _ _ (λ e. told_twice _) (λ m. refl) }

pub call_each-loop-lane-preserved : goal.call_each-loop-lane-preserved
call_each-loop-lane-preserved g n c =
    let found = c.args.found.now in
    let step : ℕ → View → View = call_one c.args.m (call_site_of found.slot.now) (enters found.place.number (site found.place)) in
    record {
      ready = record { sound = c.loop-lane.invariant.ready.sound; fits = c.call_one.ensures.keeps.fits; store = c.call_one.ensures.keeps.store; room = search rules };
      goes = leads_then World _ _ _ _ (λ m. in_lane step c.loop-lane.lane (world (lanes_of c.loop-lane.frame) m)) _
          (leads_as World _ _ _ _ _ _ (λ m. sym (sweep_next step c.loop-lane.lane (world (lanes_of c.args.frame.now) m))) (λ m. refl) (leads_map World World _ _ _ _ (in_lane step c.loop-lane.lane) c.loop-lane.invariant.goes))
          c.in_ok-call_one.ensures.runs;
    }

pub call_each-returns-in_err-call_one-clause-runs : goal.call_each-returns-in_err-call_one-clause-runs
call_each-returns-in_err-call_one-clause-runs g n c =
    let p = c.args.place.now in
    let found = c.args.found.now in
    let slot = call_site_of found.slot.now in
    let called : Called = enters found.place.number (site found.place) in
    let step : ℕ → View → View = call_one c.args.m slot called in
    let fault = c.in_err-call_one.field-0.0 in
    broken c.from_residual.result fault _ _ _ _ _ (is_err c.from_residual.result fault c.from_residual.ensures.1)
    (breaks_more _ _ fault (λ m. (in_lane step c.loop-lane.lane (sweep c.loop-lane.lane step (world (lanes_of c.args.frame.now) m))).mem) (λ m. (sweep (entry p).lanes step (world (lanes_of c.args.frame.now) m)).mem)
    (breaks_after World (λ w. (in_lane step c.loop-lane.lane w).mem) _ _ _ fault (λ m. sweep c.loop-lane.lane step (world (lanes_of c.args.frame.now) m)) (λ m. world (lanes_of c.loop-lane.frame) m) (λ m. (in_lane step c.loop-lane.lane (world (lanes_of c.loop-lane.frame) m)).mem) c.loop-lane.invariant.goes c.in_err-call_one.ensures.runs (λ m. grows_same _))
    (λ m. sweep_grows step (λ j v. call_one_grows c.args.m slot called (subst (λ (f : Called). GrowsLogs f) c.requires.found.is.callee.does (calls_grow p found.place.number)) j v) c.loop-lane.lane (entry p).lanes (world (lanes_of c.args.frame.now) m) (omega (arith, c.loop-lane-test.true, c.requires.ready.fits.shape.lanes_are))))

pub call-returns-then-not-any_live-clause-runs : goal.call-returns-then-not-any_live-clause-runs
call-returns-then-not-any_live-clause-runs g n c =
    let p = c.args.place.now in
    let found = c.args.found.now in
    let lanes = (entry p).lanes in
    leads_same World _ _ _ (λ e. told_twice _) (λ m. call_none (site p) c.args.m (call_site_of found.slot.now) (entry found.place) (enters found.place.number (site found.place)) (world (lanes_of c.args.frame.now) m) (alive lanes c.args.frame.now.lanes c.args.m (lanes_of c.args.frame.now) c.any_live.result false c.requires.ready.fits.shape.lanes_are c.any_live.ensures c.if-not-any_live.true))

pub call-split_at_mut-words-requires : goal.call-split_at_mut-words-requires
call-split_at_mut-words-requires g n c = let r = c.requires.found.room in let s = c.requires.ready.room in let e = c.frame_size.ensures in omega (arith, r, s, e)

pub call_one-returns-then-not-is_live-clause-runs : goal.call_one-returns-then-not-is_live-clause-runs
call_one-returns-then-not-is_live-clause-runs g n c =
    let found = c.args.found.now in
    leads_same World _ _ _ (λ e. told_twice _) (λ m. call_one_none c.args.m (call_site_of found.slot.now) (enters found.place.number (site found.place)) c.args.lane (world (lanes_of c.args.frame.now) m) (sym c.is_live.ensures ∙ c.if-not-is_live.true))

pub call_one-split_at_mut-words-requires : goal.call_one-split_at_mut-words-requires
call_one-split_at_mut-words-requires g n c = let r = c.requires.found.room in let s = c.requires.ready.room in let e = c.frame_size.ensures in omega (arith, r, s, e)

pub call_in_turn-split_at_mut-words-requires : goal.call_in_turn-split_at_mut-words-requires
call_in_turn-split_at_mut-words-requires g n c = let r = c.requires.body.room in let s = c.loop-turn.invariant.ready.room in let e = c.frame_size.ensures in omega (arith, r, s, e)

pub call_in_turn-returns-in_err-enter-clause-runs : goal.call_in_turn-returns-in_err-enter-clause-runs
call_in_turn-returns-in_err-enter-clause-runs g n c =
    let p = c.args.place.now in
    let body = c.args.body.now in
    let lanes : ℕ = (entry body.place).lanes in
    let words : ℕ → ℕ → ℕ → ℕ = body_args (site p) (simd_site_of body.site.now) (lanes_of c.args.frame.now 0) lanes c.args.base in
    let called : Called = enters body.place.number (site body.place) in
    let turn : ℕ = c.loop-turn.turn in
    let left : ℕ = c.args.count - turn in
    let fault = c.in_err-enter.field-0.0 in
    calls_broken c.from_residual.result fault _ _ _ (is_err c.from_residual.result fault c.from_residual.ensures.1)
    (turn_breaks p words lanes turn left body.place.number (site body.place) (lanes_of c.pass_body.new.callee) _ _ _ fault _
    (subst (λ (f : Called). GrowsLogs f) c.requires.body.callee.does (calls_grow p body.place.number))
    (omega (arith, c.loop-turn-test.true)) c.pass_body.ensures.lanes c.loop-turn.invariant.leads c.in_err-enter.ensures.runs)

pub call_in_turn-returns-in-Some-clause-runs : goal.call_in_turn-returns-in-Some-clause-runs
call_in_turn-returns-in-Some-clause-runs g n c =
    let p = c.args.place.now in
    let body = c.args.body.now in
    let lanes : ℕ = (entry body.place).lanes in
    let words : ℕ → ℕ → ℕ → ℕ = body_args (site p) (simd_site_of body.site.now) (lanes_of c.args.frame.now 0) lanes c.args.base in
    let called : Called = enters body.place.number (site body.place) in
    let turn : ℕ = c.loop-turn.turn in
    let left : ℕ = c.args.count - turn in
    let low : Option Stop = c.lowest_stop.result in
    leads_as Ran _ _ _ _ _ _ (λ m. refl) (λ m. a_stop called words lanes (left - 1) (turn + 1) low _ m c.in-Some.is)
    (turn_goes words lanes turn left body.place.number (site body.place) (lanes_of c.pass_body.new.callee) (lanes_of c.enter.new.frame) _ _ _ _ low
    (omega (arith, c.loop-turn-test.true)) refl (lowest_at _ _ _ low c.enter.ensures.keeps.fits.shape.lanes_are c.lowest_stop.ensures) c.pass_body.ensures.lanes c.loop-turn.invariant.leads c.in_ok-enter.ensures.runs)

pub call_in_turn-loop-turn-preserved : goal.call_in_turn-loop-turn-preserved
call_in_turn-loop-turn-preserved g n c =
    let p = c.args.place.now in
    let body = c.args.body.now in
    let lanes : ℕ = (entry body.place).lanes in
    let words : ℕ → ℕ → ℕ → ℕ = body_args (site p) (simd_site_of body.site.now) (lanes_of c.args.frame.now 0) lanes c.args.base in
    let called : Called = enters body.place.number (site body.place) in
    let turn : ℕ = c.loop-turn.turn in
    let left : ℕ = c.args.count - turn in
    let low : Option Stop = c.lowest_stop.result in
    record {
      ready = record { sound = c.requires.ready.sound; fits = c.requires.ready.fits; store = c.hand_back.ensures; room = search rules };
      leads = leads_as Ran _ _ _ _ _ _ (λ m. refl) (λ m. no_stop called words lanes (left - 1) (c.args.count - (turn + 1)) (turn + 1) low m c.in_default.is (omega arith))
          (turn_goes words lanes turn left body.place.number (site body.place) (lanes_of c.pass_body.new.callee) (lanes_of c.enter.new.frame) _ _ _ _ low
          (omega (arith, c.loop-turn-test.true)) refl (lowest_at _ _ _ low c.enter.ensures.keeps.fits.shape.lanes_are c.lowest_stop.ensures) c.pass_body.ensures.lanes c.loop-turn.invariant.leads c.in_ok-enter.ensures.runs);
    }

pub call-returns-in_err-enter-clause-runs : goal.call-returns-in_err-enter-clause-runs
call-returns-in_err-enter-clause-runs g n c =
    let p = c.args.place.now in
    let found = c.args.found.now in
    let q = found.place in
    let slot = call_site_of found.slot.now in
    let old : ℕ → LaneState = lanes_of c.args.frame.now in
    let live : any_live (entry p).lanes c.args.m old ≡ true = alive (entry p).lanes c.args.frame.now.lanes c.args.m old c.any_live.result true c.requires.ready.fits.shape.lanes_are c.any_live.ensures c.if-not-any_live.false in
    let first : c.first_live-first.result ≡ first_live (entry p).lanes c.args.m old = c.first_live-first.ensures ∙ ap (λ n. first_live n c.args.m old) c.requires.ready.fits.shape.lanes_are in
    let start = c.pass_all.ensures.lanes ∙ ap (λ k. first_lane (entry q).lanes (listing q).routine.params (lane_args (site p) slot (entry q) old k) (λ j. is_live c.args.m (old j))) first in
    let fault = c.in_err-enter.field-0.0 in
    broken c.from_residual.result fault _ _ _ _ _ (is_err c.from_residual.result fault c.from_residual.ensures.1)
    (call_breaks (site p) c.args.m slot (entry q) q.number (site q) old (lanes_of c.pass_all.new.callee) _ _ fault live start c.in_err-enter.ensures.runs)

pub call-returns-clause-runs : goal.call-returns-clause-runs
call-returns-clause-runs g n c =
    let p = c.args.place.now in
    let found = c.args.found.now in
    let q = found.place in
    let slot = call_site_of found.slot.now in
    let old : ℕ → LaneState = lanes_of c.args.frame.now in
    let live : any_live (entry p).lanes c.args.m old ≡ true = alive (entry p).lanes c.args.frame.now.lanes c.args.m old c.any_live.result true c.requires.ready.fits.shape.lanes_are c.any_live.ensures c.if-not-any_live.false in
    let first : c.first_live-first.result ≡ first_live (entry p).lanes c.args.m old = c.first_live-first.ensures ∙ ap (λ n. first_live n c.args.m old) c.requires.ready.fits.shape.lanes_are in
    let start = c.pass_all.ensures.lanes ∙ ap (λ k. first_lane (entry q).lanes (listing q).routine.params (lane_args (site p) slot (entry q) old k) (λ j. is_live c.args.m (old j))) first in
    let now : ℕ → LaneState = lanes_of c.enter.new.frame in
    call_goes (site p) c.args.m slot (entry q) q.number (site q) old (lanes_of c.pass_all.new.callee) now (lanes_of c.take_all.new.frame) _ _ live start c.in_ok-enter.ensures.runs
    (c.take_all.ensures.lanes ∙ all_taken c.args.frame.now c.args.m slot.result (listing q).routine.result now)

pub call-returns-clause-keeps : goal.call-returns-clause-keeps
call-returns-clause-keeps g n c =
    let p = c.args.place.now in
    let found = c.args.found.now in
    let q = found.place in
    let slot = call_site_of found.slot.now in
    let old : ℕ → LaneState = lanes_of c.args.frame.now in
    record {
      fits = fits_all_taken p q c.args.frame.now c.take_all.new.frame c.enter.new.frame slot c.args.m c.requires.ready.fits c.enter.ensures.keeps.fits c.requires.found.is.types c.take_all.ensures.fits c.take_all.ensures.lanes;
      store = c.hand_back.ensures;
    }

pub call_one-returns-in_err-enter-clause-runs : goal.call_one-returns-in_err-enter-clause-runs
call_one-returns-in_err-enter-clause-runs g n c =
    let p = c.args.place.now in
    let found = c.args.found.now in
    let q = found.place in
    let slot = call_site_of found.slot.now in
    let old : ℕ → LaneState = lanes_of c.args.frame.now in
    let live : is_live c.args.m (old c.args.lane) ≡ true = sym c.is_live.ensures ∙ c.if-not-is_live.false in
    let fault = c.in_err-enter.field-0.0 in
    broken c.from_residual.result fault _ _ _ _ _ (is_err c.from_residual.result fault c.from_residual.ensures.1)
    (call_one_breaks c.args.m slot q.number (site q) c.args.lane old (lanes_of c.pass_one.new.callee) _ _ fault live c.pass_one.ensures.lanes c.in_err-enter.ensures.runs)

pub call_one-returns-clause-runs : goal.call_one-returns-clause-runs
call_one-returns-clause-runs g n c =
    let p = c.args.place.now in
    let found = c.args.found.now in
    let q = found.place in
    let slot = call_site_of found.slot.now in
    let old : ℕ → LaneState = lanes_of c.args.frame.now in
    let live : is_live c.args.m (old c.args.lane) ≡ true = sym c.is_live.ensures ∙ c.if-not-is_live.false in
    call_one_goes c.args.m slot q.number (site q) c.args.lane old (lanes_of c.pass_one.new.callee) (lanes_of c.enter.new.frame) (lanes_of c.take.new.frame) _ _ live c.pass_one.ensures.lanes c.in_ok-enter.ensures.runs c.take.ensures.lanes

pub call_one-returns-clause-keeps : goal.call_one-returns-clause-keeps
call_one-returns-clause-keeps g n c =
    let p = c.args.place.now in
    let found = c.args.found.now in
    let q = found.place in
    let slot = call_site_of found.slot.now in
    let old : ℕ → LaneState = lanes_of c.args.frame.now in
    record {
      fits = fits_taken p q c.args.frame.now c.take.new.frame c.enter.new.frame slot 0 c.args.lane c.requires.ready.fits c.enter.ensures.keeps.fits c.requires.found.is.types c.take.ensures.fits c.take.ensures.lanes;
      store = c.hand_back.ensures;
    }

pub enter-returns-clause-runs : goal.enter-returns-clause-runs
enter-returns-clause-runs g n c =
    let p = c.args.place.now in
    let code = out-Code p.code.now in
    let count : c.len.result ≡ length code.instrs.items = search rules in
    let old : ℕ → LaneState = lanes_of c.args.frame.now in
    runs_as c.run_block.result _ _ _ _ (λ w. run (site p) (listing p).routine.instrs zero c.len.result (record { lane = w.lane; mem = logged (Calls p.number) w.mem })) (runs_entry p.number (site p))
    (λ m. ap (λ k. run (site p) (listing p).routine.instrs zero k (world old (logged (Calls p.number) m))) (sym count))
    (runs_counted c.run_block.result p.number old _ (outer_of c.args.memory.now (g.O.Sink.state c.args.out.now)) (outer_of c.count.new.store (g.O.Sink.state c.args.out.now)) _ (λ w. run (site p) (listing p).routine.instrs zero c.len.result w)
    (ap (λ (v : Vec (Vec Word Global) Global). cells_in v.items) (sym c.count.ensures.cells)) refl c.count.ensures.counts c.run_block.ensures.runs)

pub enter-run_block-requires : goal.enter-run_block-requires
enter-run_block-requires g n c =
    let p = c.args.place.now in
    let code = out-Code p.code.now in
    let count : c.len.result ≡ length code.instrs.items = search rules in
    let r = c.requires.ready in
    λ κs within. (
      search rules,
      (
        search rules,
        (
          record { sound = r.sound; fits = r.fits; store = fits_counted p.image.now c.args.memory.now c.count.new.store r.store c.count.ensures.cells c.count.ensures.length; room = r.room },
          subst (λ k. IsPart p 0 k) (sym count) (whole p r.sound),
        ),
      ),
    )

pub repeat_block-returns-then-any_live-clause-keeps : goal.repeat_block-returns-then-any_live-clause-keeps
repeat_block-returns-then-any_live-clause-keeps g n c = record {
  fits = fits_out c.args.place.now c.loop.frame c.stop_turns.new.frame c.args.m c.loop.invariant.ready.fits c.stop_turns.ensures.fits c.stop_turns.ensures.lanes;
  store = c.loop.invariant.ready.store;
}

pub call-pass_all-requires-clause-first : goal.call-pass_all-requires-clause-first
call-pass_all-requires-clause-first g n c =
    let p = c.args.place.now in
    let found = c.args.found.now in
    let q = found.place in
    let slot = call_site_of found.slot.now in
    let old : ℕ → LaneState = lanes_of c.args.frame.now in
    let live : any_live (entry p).lanes c.args.m old ≡ true = alive (entry p).lanes c.args.frame.now.lanes c.args.m old c.any_live.result true c.requires.ready.fits.shape.lanes_are c.any_live.ensures c.if-not-any_live.false in
    let first : c.first_live-first.result ≡ first_live (entry p).lanes c.args.m old = c.first_live-first.ensures ∙ ap (λ n. first_live n c.args.m old) c.requires.ready.fits.shape.lanes_are in
    subst (λ k. k < (entry p).lanes) (sym first) (first_below (entry p).lanes c.args.m old live)

pub call_all_turns-call_in_turn-requires : goal.call_all_turns-call_in_turn-requires
call_all_turns-call_in_turn-requires g n c =
    let p = c.args.place.now in
    let found = c.args.found.now in
    let lane : LaneState = lanes_of c.args.frame.now 0 in
    let asked_of : LoopSite → ℕ = λ l. iterations (number_at (regs p) lane (simd_site_of l).low) (number_at (regs p) lane (simd_site_of l).high) in
    let same : c.args.asked ≡ asked_of found.rest.site.now = c.requires.asked ∙ ap asked_of (sym c.requires.found.is.same) in
    λ κs within. (
      search rules,
      (
        search rules,
        (
          c.requires.ready,
          (
            c.requires.found.rest,
            (
              c.requires.some,
              slow_asked (entry found.rest.place).lanes c.args.asked (asked_of found.rest.site.now) c.least-most.result p.turns c.requires.found.is.one c.least-most.ensures same,
            ),
          ),
        ),
      ),
    )

pub call_all_turns-returns-then-not-guard_holds-clause-runs : goal.call_all_turns-returns-then-not-guard_holds-clause-runs
call_all_turns-returns-then-not-guard_holds-clause-runs g n c =
    let p = c.args.place.now in
    let found = c.args.found.now in
    let is = c.requires.found.is in
    let lane : LaneState = lanes_of c.args.frame.now 0 in
    let chunk : Called = enters found.chunk.place.number (site found.chunk.place) in
    let rest : Called = enters found.rest.place.number (site found.rest.place) in
    let words : ℕ → ℕ → ℕ → ℕ → ℕ → ℕ = body_args (site p) (simd_site_of found.chunk.site.now) lane in
    let lanes : ℕ = (entry found.chunk.place).lanes in
    let one : ℕ = (entry found.rest.place).lanes in
    let most : ℕ = min c.args.asked p.turns in
    let fast : Bool = guard_holds lane (simd_site_of found.chunk.site.now).guards in
    calls_as c.call_in_turn.result _ _ _ _ (λ m. slow_calls chunk rest words _ lanes one most c.least-most.result fast m (sym c.guard_holds.ensures ∙ c.if-not-guard_holds.true) is.one c.least-most.ensures (ap (λ (l : LoopSite). body_args (site p) (simd_site_of l) lane one 0) is.same)) c.call_in_turn.ensures.runs

pub call_all_turns-call_in_turn-requires-2 : goal.call_all_turns-call_in_turn-requires-2
call_all_turns-call_in_turn-requires-2 g n c =
    let p = c.args.place.now in
    let found = c.args.found.now in
    λ κs within. (
      search rules,
      (
        search rules,
        (
          c.requires.ready,
          (
            c.requires.found.chunk,
            (
              c.requires.some,
              subst (λ k. 0 + c.least-most.result / c.from-lanes.result * (entry found.chunk.place).lanes ≤ k) c.requires.asked
                  (chunk_asked (entry found.chunk.place).lanes c.from-lanes.result c.args.asked c.least-most.result p.turns c.from-lanes.ensures c.least-most.ensures),
            ),
          ),
        ),
      ),
    )

pub call_all_turns-returns-in_err-stop-clause-runs : goal.call_all_turns-returns-in_err-stop-clause-runs
call_all_turns-returns-in_err-stop-clause-runs g n c =
    let p = c.args.place.now in
    let found = c.args.found.now in
    let is = c.requires.found.is in
    let lane : LaneState = lanes_of c.args.frame.now 0 in
    let chunk : Called = enters found.chunk.place.number (site found.chunk.place) in
    let rest : Called = enters found.rest.place.number (site found.rest.place) in
    let words : ℕ → ℕ → ℕ → ℕ → ℕ → ℕ = body_args (site p) (simd_site_of found.chunk.site.now) lane in
    let lanes : ℕ = (entry found.chunk.place).lanes in
    let one : ℕ = (entry found.rest.place).lanes in
    let most : ℕ = min c.args.asked p.turns in
    let fast : Bool = guard_holds lane (simd_site_of found.chunk.site.now).guards in
    let count : c.least-most.result / c.from-lanes.result ≡ most / lanes = ap₂ (λ a b. a / b) c.least-most.ensures c.from-lanes.ensures in
    let fault = c.in_err-stop.field-0.0 in
    calls_broken c.from_residual.result fault _ _ _ (is_err c.from_residual.result fault c.from_residual.ensures.1)
    (chunk_breaks p chunk rest words lanes most (c.least-most.result / c.from-lanes.result) fast _ _ fault (sym c.guard_holds.ensures ∙ c.if-not-guard_holds.false) count
    (subst (λ (f : Called). GrowsLogs f) is.rest.callee.does (calls_grow p found.rest.place.number)) c.in_err-stop.ensures.runs)

pub call_all_turns-returns-then-is_some-clause-runs : goal.call_all_turns-returns-then-is_some-clause-runs
call_all_turns-returns-then-is_some-clause-runs g n c =
    let p = c.args.place.now in
    let found = c.args.found.now in
    let is = c.requires.found.is in
    let lane : LaneState = lanes_of c.args.frame.now 0 in
    let chunk : Called = enters found.chunk.place.number (site found.chunk.place) in
    let rest : Called = enters found.rest.place.number (site found.rest.place) in
    let words : ℕ → ℕ → ℕ → ℕ → ℕ → ℕ = body_args (site p) (simd_site_of found.chunk.site.now) lane in
    let lanes : ℕ = (entry found.chunk.place).lanes in
    let one : ℕ = (entry found.rest.place).lanes in
    let most : ℕ = min c.args.asked p.turns in
    let fast : Bool = guard_holds lane (simd_site_of found.chunk.site.now).guards in
    let count : c.least-most.result / c.from-lanes.result ≡ most / lanes = ap₂ (λ a b. a / b) c.least-most.ensures c.from-lanes.ensures in
    chunk_stops chunk rest words lanes most (c.least-most.result / c.from-lanes.result) fast _ _ _ (sym c.guard_holds.ensures ∙ c.if-not-guard_holds.false) count (sym c.is_some.ensures ∙ c.if-is_some.true) c.in_ok-stop.ensures.runs

pub call_all_turns-call_in_turn-requires-3 : goal.call_all_turns-call_in_turn-requires-3
call_all_turns-call_in_turn-requires-3 g n c =
    let p = c.args.place.now in
    let found = c.args.found.now in
    let lane : LaneState = lanes_of c.args.frame.now 0 in
    let asked_of : LoopSite → ℕ = λ l. iterations (number_at (regs p) lane (simd_site_of l).low) (number_at (regs p) lane (simd_site_of l).high) in
    let same : c.args.asked ≡ asked_of found.rest.site.now = c.requires.asked ∙ ap asked_of (sym c.requires.found.is.same) in
    let r = c.requires.ready in
    λ κs within. (
      search rules,
      (
        search rules,
        (
          record { sound = r.sound; fits = r.fits; store = c.in_ok-stop.ensures.store; room = search rules },
          (
            c.requires.found.rest,
            (
              c.requires.some,
              rest_asked c.from-lanes.result (entry found.rest.place).lanes c.args.asked (asked_of found.rest.site.now) c.least-most.result p.turns c.requires.found.is.one c.least-most.ensures same,
            ),
          ),
        ),
      ),
    )

pub call_all_turns-returns-clause-runs : goal.call_all_turns-returns-clause-runs
call_all_turns-returns-clause-runs g n c =
    let p = c.args.place.now in
    let found = c.args.found.now in
    let is = c.requires.found.is in
    let lane : LaneState = lanes_of c.args.frame.now 0 in
    let chunk : Called = enters found.chunk.place.number (site found.chunk.place) in
    let rest : Called = enters found.rest.place.number (site found.rest.place) in
    let words : ℕ → ℕ → ℕ → ℕ → ℕ → ℕ = body_args (site p) (simd_site_of found.chunk.site.now) lane in
    let lanes : ℕ = (entry found.chunk.place).lanes in
    let one : ℕ = (entry found.rest.place).lanes in
    let most : ℕ = min c.args.asked p.turns in
    let fast : Bool = guard_holds lane (simd_site_of found.chunk.site.now).guards in
    let count : c.least-most.result / c.from-lanes.result ≡ most / lanes = ap₂ (λ a b. a / b) c.least-most.ensures c.from-lanes.ensures in
    let left : c.least-most.result % c.from-lanes.result ≡ most % lanes = ap₂ (λ a b. a % b) c.least-most.ensures c.from-lanes.ensures in
    let base : c.least-most.result / c.from-lanes.result * c.from-lanes.result ≡ most / lanes * lanes = ap₂ (λ a b. a / b * b) c.least-most.ensures c.from-lanes.ensures in
    rest_runs c.call_in_turn-3.result chunk rest words (body_args (site p) (simd_site_of found.rest.site.now) lane one (c.least-most.result / c.from-lanes.result * c.from-lanes.result)) lanes one most (c.least-most.result / c.from-lanes.result) (c.least-most.result % c.from-lanes.result) fast _ _ _ _
    (sym c.guard_holds.ensures ∙ c.if-not-guard_holds.false) count left is.one
    (ap (λ (l : LoopSite). body_args (site p) (simd_site_of l) lane one (c.least-most.result / c.from-lanes.result * c.from-lanes.result)) is.same ∙ ap (words one) base)
    (sym c.is_some.ensures ∙ c.if-is_some.false) c.in_ok-stop.ensures.runs c.call_in_turn-3.ensures.runs

pub call_each-call_one-requires : goal.call_each-call_one-requires
call_each-call_one-requires g n c =
    let inside : c.loop-lane.lane < (entry c.args.place.now).lanes = omega (arith, c.loop-lane-test.true, c.requires.ready.fits.shape.lanes_are) in
    search (rules, inside)

pub call_in_turn-loop-turn-init : goal.call_in_turn-loop-turn-init
call_in_turn-loop-turn-init g n c =
    let p = c.args.place.now in
    let body = c.args.body.now in
    let lanes : ℕ = (entry body.place).lanes in
    let words : ℕ → ℕ → ℕ → ℕ = body_args (site p) (simd_site_of body.site.now) (lanes_of c.args.frame.now 0) lanes c.args.base in
    let called : Called = enters body.place.number (site body.place) in
    record {
      ready = c.requires.ready;
      leads = leads_same Ran _ _ _ (λ e. told_twice _) (λ m. ap (λ k. calls_in_turn called words lanes k 0 m) (less_0 c.args.count));
    }

pub call_in_turn-returns-clause-runs : goal.call_in_turn-returns-clause-runs
call_in_turn-returns-clause-runs g n c =
    let p = c.args.place.now in
    let body = c.args.body.now in
    let lanes : ℕ = (entry body.place).lanes in
    let words : ℕ → ℕ → ℕ → ℕ = body_args (site p) (simd_site_of body.site.now) (lanes_of c.args.frame.now 0) lanes c.args.base in
    let called : Called = enters body.place.number (site body.place) in
    let turn : ℕ = c.loop-turn.turn in
    let left : ℕ = c.args.count - turn in
    leads_as Ran _ _ _ _ _ _ (λ m. refl) (λ m. ap (λ k. calls_in_turn called words lanes k turn m) (none_left left (omega (arith, c.loop-turn-test.false)))) c.loop-turn.invariant.leads

pub perform-run_simd-requires : goal.perform-run_simd-requires
perform-run_simd-requires g n c =
    let p = c.args.place.now in
    λ κs within. (
      search rules,
      (
        search rules,
        (
          c.requires.ready,
          (
            loop_mask p c.args.at c.args.left c.args.fetched c.in-Simd.instr c.in-Simd.number c.in-Simd.is c.requires.fetched,
            (
              loop_there p c.args.at c.args.left c.args.fetched c.in-Simd.instr c.in-Simd.number c.in-Simd.is c.requires.fetched,
              has_a_lane p c.requires.ready.sound,
            ),
          ),
        ),
      ),
    )

pub perform-returns-in-Block-clause-runs : goal.perform-returns-in-Block-clause-runs
perform-returns-in-Block-clause-runs g n c =
    let p = c.args.place.now in
    runs_as c.repeat_block.result _ _ _ _ _ (performed p c.args.at c.args.fetched) (λ m. ap (λ f. performed p c.args.at f (world (lanes_of c.args.frame.now) m)) c.in-Block.is) c.repeat_block.ensures.runs

pub perform-returns-in-Calls-clause-runs : goal.perform-returns-in-Calls-clause-runs
perform-returns-in-Calls-clause-runs g n c =
    let p = c.args.place.now in
    runs_as c.call_slot.result _ _ _ _ _ (performed p c.args.at c.args.fetched) (λ m. ap (λ f. performed p c.args.at f (world (lanes_of c.args.frame.now) m)) c.in-Calls.is) c.call_slot.ensures.runs

pub perform-returns-in-Simd-clause-runs : goal.perform-returns-in-Simd-clause-runs
perform-returns-in-Simd-clause-runs g n c =
    let p = c.args.place.now in
    runs_as c.run_simd.result _ _ _ _ _ (performed p c.args.at c.args.fetched) (λ m. ap (λ f. performed p c.args.at f (world (lanes_of c.args.frame.now) m)) c.in-Simd.is) c.run_simd.ensures.runs

pub perform-returns-in-Accesses-clause-runs : goal.perform-returns-in-Accesses-clause-runs
perform-returns-in-Accesses-clause-runs g n c =
    let p = c.args.place.now in
    runs_as c.access.result _ _ _ _ _ (performed p c.args.at c.args.fetched) (λ m. ap (λ f. performed p c.args.at f (world (lanes_of c.args.frame.now) m)) c.in-Accesses.is) c.access.ensures.runs

pub run_block-returns-in_err-perform-clause-runs : goal.run_block-returns-in_err-perform-clause-runs
run_block-returns-in_err-perform-clause-runs g n c =
    let p = c.args.place.now in
    let s = site p in
    let is = (listing p).routine.instrs in
    let at : ℕ = c.loop-left.at in
    let left : ℕ = c.loop-left.left in
    let fetched : Fetched = c.fetch-fetched.result in
    let len : ℕ = c.length_of-length.result in
    let some : 0 < left = omega (arith, c.loop-left-test.true) in
    let fault = c.in_err-perform.field-0.0 in
    broken c.from_residual.result fault _ _ _ _ _ (is_err c.from_residual.result fault c.from_residual.ensures.1)
    (breaks_after World (λ w. w.mem) _ _ _ fault _ (λ m. run s (drop at is) zero left (world (lanes_of c.loop-left.frame) m)) (λ m. (performed p at fetched (world (lanes_of c.loop-left.frame) m)).mem)
    c.loop-left.invariant.leads c.in_err-perform.ensures.runs
    (λ m. subst (λ (w : World). Grows (performed p at fetched (world (lanes_of c.loop-left.frame) m)).mem w.mem)
    (sym (run_fetched p at left len fetched (world (lanes_of c.loop-left.frame) m) c.length_of-length.ensures some c.fetch-fetched.ensures))
    (run_grows p (drop (at + len) is) zero (left - len) (performed p at fetched (world (lanes_of c.loop-left.frame) m)))))

pub run_block-loop-left-preserved : goal.run_block-loop-left-preserved
run_block-loop-left-preserved g n c =
    let p = c.args.place.now in
    let s = site p in
    let is = (listing p).routine.instrs in
    let at : ℕ = c.loop-left.at in
    let left : ℕ = c.loop-left.left in
    let fetched : Fetched = c.fetch-fetched.result in
    let len : ℕ = c.length_of-length.result in
    let some : 0 < left = omega (arith, c.loop-left-test.true) in
    record {
      ready = record { sound = c.requires.ready.sound; fits = c.perform.ensures.keeps.fits; store = c.perform.ensures.keeps.store; room = search rules };
      part = part_left p at left len fetched c.length_of-length.ensures c.fetch-fetched.ensures;
      past = let h = c.loop-left.invariant.past in omega (arith, h);
      leads = goes_on _ _ _ (lanes_of c.loop-left.frame) (lanes_of c.perform.new.frame) _ (λ w. run s (drop at is) zero left w) (λ w. run s (drop (at + len) is) zero (left - len) w) (performed p at fetched)
          c.loop-left.invariant.leads c.in_ok-perform.ensures.runs
          (λ m. run_fetched p at left len fetched (world (lanes_of c.loop-left.frame) m) c.length_of-length.ensures some c.fetch-fetched.ensures);
    }

pub run_simd-returns-then-not-is_live-clause-runs : goal.run_simd-returns-then-not-is_live-clause-runs
run_simd-returns-then-not-is_live-clause-runs g n c =
    leads_same World _ _ _ (λ e. told_twice _) (λ m. loop_none (site c.args.place.now) c.args.m (simd_of (site c.args.place.now) c.args.number) (world (lanes_of c.args.frame.now) m) (sym c.is_live.ensures ∙ c.if-not-is_live.true))

pub run_simd-returns-in_err-stop-clause-runs : goal.run_simd-returns-in_err-stop-clause-runs
run_simd-returns-in_err-stop-clause-runs g n c =
    let p = c.args.place.now in
    let found = c.find_loop-found.result in
    let is = c.find_loop-found.ensures.is in
    let old : ℕ → LaneState = lanes_of c.args.frame.now in
    let chunk : Called = enters found.chunk.place.number (site found.chunk.place) in
    let rest : Called = enters found.rest.place.number (site found.rest.place) in
    let o : Simd = record { site = simd_site_of found.chunk.site.now; chunk = found.chunk.place.number; rest = found.rest.place.number; lanes = (entry found.chunk.place).lanes } in
    let live : is_live c.args.m (old 0) ≡ true = sym c.is_live.ensures ∙ c.if-not-is_live.false in
    let fault = c.in_err-stop.field-0.0 in
    broken c.from_residual.result fault _ _ _ _ _ (is_err c.from_residual.result fault c.from_residual.ensures.1)
    (loop_breaks (site p) c.args.m c.args.number o chunk rest c.iterations-asked.result old live is.simd is.chunk.callee.does is.rest.callee.does c.iterations-asked.ensures _ _ fault c.in_err-stop.ensures.runs)

pub run_simd-returns-clause-runs : goal.run_simd-returns-clause-runs
run_simd-returns-clause-runs g n c =
    let p = c.args.place.now in
    let found = c.find_loop-found.result in
    let is = c.find_loop-found.ensures.is in
    let old : ℕ → LaneState = lanes_of c.args.frame.now in
    let chunk : Called = enters found.chunk.place.number (site found.chunk.place) in
    let rest : Called = enters found.rest.place.number (site found.rest.place) in
    let o : Simd = record { site = simd_site_of found.chunk.site.now; chunk = found.chunk.place.number; rest = found.rest.place.number; lanes = (entry found.chunk.place).lanes } in
    let live : is_live c.args.m (old 0) ≡ true = sym c.is_live.ensures ∙ c.if-not-is_live.false in
    loop_goes (site p) c.args.m c.args.number o chunk rest c.iterations-asked.result old live is.simd is.chunk.callee.does is.rest.callee.does c.iterations-asked.ensures (lanes_of c.settle.new.frame) _ _ _ c.in_ok-stop.ensures.runs c.settle.ensures.lanes
