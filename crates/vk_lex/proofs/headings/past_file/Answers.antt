use Rattle.std.proofs.Common.{refl}
use Rattle.vk_lex.proofs.Gaps.{no_file, unclear_file}
use Rattle.vk_lex.proofs.headings.past_file.Goals as goal

pub returns-else-is_clear-clause-none : goal.returns-else-is_clear-clause-none
returns-else-is_clear-clause-none c = λ _ rest file.
    unclear_file c.args.text.now c.past_gap.result.now c.in-Some.rest.now rest c.past_gap.ensures.gap c.in-Some.ensures.front (c.if-is_clear.ensures.other refl) file

pub returns-in-None-clause-none : goal.returns-in-None-clause-none
returns-in-None-clause-none c = λ _ rest file. no_file c.args.text.now c.past_gap.result.now rest c.past_gap.ensures.gap (c.in-None.ensures.none refl) file
