use Rattle.std.proofs.Common.{◌≡◌, ℕ, ◌+◌, ◌<◌, ◌==◌, cond, length, get_or, ap, arith}
use Rattle.std.proofs.lemmas.List.Sums.{sum_by_more}
use Rattle.vk_object_format.specs.declared.rows.RawFunction.{RawFunction}
use Rattle.vk_object_faults.proofs.symbols.use_in_functions.Goals as goal

pub loop-at-init : goal.loop-at-init
loop-at-init c = λ n h. let word = c.requires.words n h in omega (arith, word)

pub loop-at-preserved : goal.loop-at-preserved
loop-at-preserved c = λ n h.
    let inside : n < length c.loop-at.uses = omega (arith, h) in
    let step = c.use_symbol.ensures n inside in
    let before = c.loop-at.invariant n inside in
    let more = sum_by_more (λ (f : RawFunction). cond (f.symbol == n) 1 0) c.args.functions.now c.loop-at.at c.index-functions-at.result (omega arith) in
    let item = ap {B = ℕ} (λ (f : RawFunction). cond (f.symbol == n) 1 0) c.index-functions-at.is in
    omega (arith, step, before, more, item)
