-- Each lane has what the scalar call gives.
use Rattle.vk_ast.specs.Tree.{expr_of}
use Rattle.vk_ast.specs.Units.{function_of}
use Rattle.vk_lanes.specs.Masks.{is_on, lane_count}
use Rattle.vk_code.specs.Listing.{listing_of}
use Rattle.vk_arguments.specs.Arguments.{passed}
use Rattle.vk_flat.proofs.Grown.{if_ok_both}
use Rattle.vk_unit_call.proofs.Lanes.{lane_fits, lane_told}
use Rattle.vk_unit_call.proofs.Ran.{front_words}
use Rattle.vk_unit_call.proofs.calling.call.Goals as goal

pub run-requires-clause-words : goal.run-requires-clause-words
run-requires-clause-words c = front_words c.args.form.now.function.now.params.items (lane_count c.args.mask.now) c.args.words.now (listing_of c.in_ok-code.code) c.in_ok-code.ensures.params c.requires.returns.params c.requires.words c.requires.typed.canonical

pub returns-clause-results : goal.returns-clause-results
returns-clause-results c = if_ok_both c.run.result
    (λ r w s. λ unit form lane below on. lane_told unit (function_of c.args.form.now.function.now) (expr_of c.args.form.now.value.now) c.args.form.now.result (listing_of c.in_ok-code.code) form.items c.requires.returns c.in_ok-code.ensures.returns
    c.args.turns (lane_count c.args.mask.now) (is_on c.args.mask.now) (passed (lane_count c.args.mask.now) c.args.words.now) c.requires.lanes c.requires.typed lane below on _ _ (w lane) (s lane below))
    c.run.ensures.words c.run.ensures.stops

pub returns-clause-typed : goal.returns-clause-typed
returns-clause-typed c = if_ok_both c.run.result
    (λ r w s. λ lane below. lane_fits (function_of c.args.form.now.function.now) (expr_of c.args.form.now.value.now) c.args.form.now.result (listing_of c.in_ok-code.code) c.requires.returns c.in_ok-code.ensures.returns
    c.args.turns (lane_count c.args.mask.now) (is_on c.args.mask.now) (passed (lane_count c.args.mask.now) c.args.words.now) c.requires.lanes c.requires.typed lane below _ _ (w lane) (s lane below))
    c.run.ensures.words c.run.ensures.stops
