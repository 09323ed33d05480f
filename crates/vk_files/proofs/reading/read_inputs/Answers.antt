-- The next name is that of the input's number.
use Rattle.vk_files.proofs.Readings.{HasRead-more, is_inside, is_name, reads_then}
use Rattle.vk_files.proofs.reading.read_inputs.Goals as goal

pub returns-in_err-bytes-clause-reads : goal.returns-in_err-bytes-clause-reads
returns-in_err-bytes-clause-reads g c =
    reads_then _ _ _ _ _ _ _ _ c.loop-input.invariant (is_inside (λ file. file.now) c.args.files.now c.loop-input.input c.loop-input-test.true)
    (is_name (λ file. file.now) c.args.files.now c.loop-input.input _ c.loop-input-test.true) c.read_input.ensures.reads

pub returns-in_err-push-clause-reads : goal.returns-in_err-push-clause-reads
returns-in_err-push-clause-reads g c =
    reads_then _ _ _ _ _ _ _ _ c.loop-input.invariant (is_inside (λ file. file.now) c.args.files.now c.loop-input.input c.loop-input-test.true)
    (is_name (λ file. file.now) c.args.files.now c.loop-input.input _ c.loop-input-test.true) c.read_input.ensures.reads

pub loop-input-preserved : goal.loop-input-preserved
loop-input-preserved g c =
    HasRead-more _ _ _ _ _ _ _ _ _ _ c.loop-input.invariant (is_inside (λ file. file.now) c.args.files.now c.loop-input.input c.loop-input-test.true)
    (is_name (λ file. file.now) c.args.files.now c.loop-input.input _ c.loop-input-test.true)
    c.in_ok-bytes.ensures.found c.in_ok-bytes.ensures.fits c.read_input.ensures.reads c.in_ok-push.ensures.ok
