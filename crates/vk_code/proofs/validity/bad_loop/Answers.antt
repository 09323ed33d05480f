use Rattle.std.proofs.Common.{◌∙◌, ap, sym, arith}
use Rattle.std.proofs.lemmas.List.{take_all}
use Rattle.std.specs.List.{list_all}
use Rattle.vk_code.specs.Listing.{simd_site_of, routine_of}
use Rattle.vk_code.specs.Valid.{environment_of, is_good_loop}
use Rattle.vk_code.proofs.Faults.{bad_at, bad_nowhere}
use Rattle.vk_code.proofs.validity.bad_loop.Goals as goal

pub returns-then-not-is_good_loop : goal.returns-then-not-is_good_loop
returns-then-not-is_good_loop c =
    let f = is_good_loop (environment_of c.args.env.now) (routine_of c.args.code.now) in
    sym (bad_at f simd_site_of c.args.loops.now c.loop-at.at c.index-loops-at.result (omega arith) c.loop-at.invariant
    (ap (λ s. f (simd_site_of s)) (sym c.index-loops-at.is) ∙ (sym c.is_good_loop.ensures ∙ c.if-not-is_good_loop.true)))

pub returns : goal.returns
returns c =
    let f = is_good_loop (environment_of c.args.env.now) (routine_of c.args.code.now) in
    sym (bad_nowhere f simd_site_of c.args.loops.now
    (ap (list_all (λ s. f (simd_site_of s))) (sym (take_all c.loop-at.at c.args.loops.now (omega arith))) ∙ c.loop-at.invariant))
