-- The code is that of the function.
use Rattle.std.proofs.Common.{ap, subst, ◌∙◌, ◌+◌, length}
use Rattle.vk_ast.specs.Tree.{cast, expr_of, nodes_of}
use Rattle.vk_ast.specs.Units.{function_of}
use Rattle.vk_rules_book.specs.Scopes.{types_of}
use Rattle.vk_code.specs.Listing.{listing_of}
use Rattle.vk_construct.specs.Adds.{Written}
use Rattle.vk_construct_whole.specs.Wholes.{started}
use Rattle.vk_flat.specs.Emitters.{written_of}
use Rattle.vk_flat.specs.Locals.{Emits}
use Rattle.vk_flat_functions.proofs.Locals.{handed, numeric, places}
use Rattle.vk_flat_functions.proofs.Returning.{count_from, has_params, in_call, lane_code, returns_code, short_code}
use Rattle.vk_flat_functions.proofs.code.compile.Goals as goal

pub emit_returned-requires-clause-numeric : goal.emit_returned-requires-clause-numeric
emit_returned-requires-clause-numeric c = numeric 0 c.args.form.now.function.now.params.items c.deref.result.now
    (handed _ _ _ _ c.as_slice-params.ensures.value c.deref.ensures.value c.in_ok-locals.ensures) (expr_of c.args.form.now.value.now) c.requires.returns.plain

pub emit_returned-requires-clause-places : goal.emit_returned-requires-clause-places
emit_returned-requires-clause-places c = places (written_of c.in_ok-emitter.emitter) c.args.form.now.function.now.params.items c.deref.result.now
    (ap (λ (w : Written). w.regs) c.in_ok-emitter.ensures ∙ ap types_of c.as_slice-params.ensures.value)
    (handed _ _ _ _ c.as_slice-params.ensures.value c.deref.ensures.value c.in_ok-locals.ensures)

pub returns-clause-returns : goal.returns-clause-returns
returns-clause-returns c =
    let ps = c.args.form.now.function.now.params.items in
    let w = written_of c.emit_returned.new.emitter in
    returns_code (function_of c.args.form.now.function.now) (expr_of c.args.form.now.value.now) c.args.form.now.result c.deref.result.now w c.in_ok-place.place (listing_of c.finished.result) c.finished.ensures
    (handed _ _ _ _ c.as_slice-params.ensures.value c.deref.ensures.value c.in_ok-locals.ensures) c.in_ok-place.ensures.ty
    (subst (λ (a : Written). Emits a w c.deref.result.now (cast 0 0 c.args.form.now.result (expr_of c.args.form.now.value.now)) c.in_ok-place.place in_call) (c.in_ok-emitter.ensures ∙ ap (λ l. started (types_of l)) c.as_slice-params.ensures.value) c.in_ok-place.ensures.code)

pub returns-clause-lanes : goal.returns-clause-lanes
returns-clause-lanes c =
    let w = written_of c.emit_returned.new.emitter in
    let first = c.in_ok-emitter.ensures ∙ ap (λ l. started (types_of l)) c.as_slice-params.ensures.value in
    lane_code (function_of c.args.form.now.function.now) (expr_of c.args.form.now.value.now) c.args.form.now.result c.deref.result.now w c.in_ok-place.place (listing_of c.finished.result) c.finished.ensures
    (handed _ _ _ _ c.as_slice-params.ensures.value c.deref.ensures.value c.in_ok-locals.ensures) c.in_ok-place.ensures.ty
    (subst (λ (a : Written). Emits a w c.deref.result.now (cast 0 0 c.args.form.now.result (expr_of c.args.form.now.value.now)) c.in_ok-place.place in_call) first c.in_ok-place.ensures.code)
    (c.in_ok-place.ensures.slots ∙ ap (λ (a : Written). a.slots) first) c.emit_returned.new.emitter.values

pub returns-clause-params : goal.returns-clause-params
returns-clause-params c =
    let w = written_of c.emit_returned.new.emitter in
    let first = c.in_ok-emitter.ensures ∙ ap (λ l. started (types_of l)) c.as_slice-params.ensures.value in
    has_params (function_of c.args.form.now.function.now) (expr_of c.args.form.now.value.now) c.args.form.now.result c.deref.result.now w c.in_ok-place.place (listing_of c.finished.result) c.finished.ensures
    (handed _ _ _ _ c.as_slice-params.ensures.value c.deref.ensures.value c.in_ok-locals.ensures) c.in_ok-place.ensures.ty
    (subst (λ (a : Written). Emits a w c.deref.result.now (cast 0 0 c.args.form.now.result (expr_of c.args.form.now.value.now)) c.in_ok-place.place in_call) first c.in_ok-place.ensures.code)

pub returns-clause-short : goal.returns-clause-short
returns-clause-short c =
    let w = written_of c.emit_returned.new.emitter in
    let ps = c.args.form.now.function.now.params.items in
    let first = c.in_ok-emitter.ensures ∙ ap (λ l. started (types_of l)) c.as_slice-params.ensures.value in
    short_code (function_of c.args.form.now.function.now) (expr_of c.args.form.now.value.now) c.args.form.now.result c.deref.result.now w c.in_ok-place.place (listing_of c.finished.result) c.finished.ensures
    (handed _ _ _ _ c.as_slice-params.ensures.value c.deref.ensures.value c.in_ok-locals.ensures) c.in_ok-place.ensures.ty
    (subst (λ (a : Written). Emits a w c.deref.result.now (cast 0 0 c.args.form.now.result (expr_of c.args.form.now.value.now)) c.in_ok-place.place in_call) first c.in_ok-place.ensures.code)
    c.requires.small.params (count_from (written_of c.in_ok-emitter.emitter) (types_of ps) (length w.regs + w.masks) (nodes_of (expr_of c.args.form.now.value.now)) first c.in_ok-place.ensures.count)
