use Rattle.std.proofs.Common.{◌-◌, Some, length, refl, sym, ap, ◌∙◌, arith}
use Rattle.vk_parse_words.specs.Faults.{ends_in_words, run_of, IsC7}
use Rattle.vk_grammar_expr.specs.Types.{words_of}
use Rattle.vk_parse_words.proofs.Runs.{tested, next_run, next_clear, a_place, one_place}
use Rattle.vk_parse_words.proofs.faults.first_word_fault.Goals as goal

pub loop-at-init : goal.loop-at-init
unfolding ends_in_words run_of words_of
loop-at-init c = (refl, λ k below. absurd (omega arith))

pub loop-at-preserved : goal.loop-at-preserved
loop-at-preserved c =
    let w = c.args.syms.now in
    let here = tested w c.loop-at.at c.loop-at.in_words c.is_front_fault.result c.loop-at.invariant.0 c.is_front_fault.ensures in (
      c.goes_on-in_words.ensures ∙ next_run w c.loop-at.at _ c.loop-at.in_words c.loop-at-test.true c.loop-at.invariant.0,
      next_clear w c.loop-at.at (sym here ∙ c.if-is_front_fault.false) c.loop-at.invariant.1,
    )

place_here : (c : goal.Then-is_front_fault) → IsC7 c.args.syms.now (length c.args.syms.now - c.loop-at.at)
place_here c =
    let w = c.args.syms.now in
    let here = tested w c.loop-at.at c.loop-at.in_words c.is_front_fault.result c.loop-at.invariant.0 c.is_front_fault.ensures in
    a_place w c.loop-at.at c.loop-at-test.true (sym here ∙ c.if-is_front_fault.true) c.loop-at.invariant.1

pub returns-then-is_front_fault-clause-found : goal.returns-then-is_front_fault-clause-found
returns-then-is_front_fault-clause-found c = place_here c

pub returns-then-is_front_fault-clause-only : goal.returns-then-is_front_fault-clause-only
returns-then-is_front_fault-clause-only c = λ n place. ap (λ k. Some k) (one_place (place_here c) place)
