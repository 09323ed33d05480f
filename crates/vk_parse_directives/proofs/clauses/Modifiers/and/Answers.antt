use Rattle.std.proofs.Common.{sym, ap, ap₂, ◌∙◌, Some}
use Rattle.vk_ast.specs.Tree.{expr_of}
use Rattle.vk_parse_directives.specs.Inner.Parts.{next_word, word_after, step_after}
use Rattle.vk_parse_directives.proofs.Sums.{with_word, step_by_word, with_step, step_by_step}
use Rattle.vk_parse_directives.proofs.clauses.Modifiers.and.Goals as goal

pub returns-in-Worded : goal.returns-in-Worded
returns-in-Worded c = λ parts sum. rw c.in-Worded.is (record {
  word = ap (λ m. Some m) (c.next_word-word.ensures ∙ ap (λ o. next_word o c.in-Worded.word) sum.word) ∙ sym (with_word parts c.in-Worded.word);
  step_is = sum.step_is ∙ sym (step_by_word parts c.in-Worded.word);
})

pub returns-in-Step : goal.returns-in-Step
returns-in-Step c = λ parts sum. rw c.in-Step.is (record {
  word = c.and_step.ensures.word ∙ ap₂ (λ s o. word_after s o) sum.step_is sum.word ∙ sym (with_step parts (expr_of c.in-Step.step));
  step_is = c.and_step.ensures.step ∙ ap (λ s. step_after s (expr_of c.in-Step.step)) sum.step_is ∙ sym (step_by_step parts (expr_of c.in-Step.step));
})
