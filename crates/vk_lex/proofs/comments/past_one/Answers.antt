use Rattle.std.proofs.Common.{List, ℕ, sym, subst}
use Rattle.vk_lex.specs.Comments.{Gap}
use Rattle.vk_lex.proofs.Gaps.{blank_gap, comment_gap, no_more}
use Rattle.vk_lex.proofs.comments.past_one.Goals as goal

pub returns-then-begins_blank-clause-one : goal.returns-then-begins_blank-clause-one
returns-then-begins_blank-clause-one c =
    λ rest g. blank_gap c.args.text.now rest (sym c.if-begins_blank.ensures.blank) (subst (λ (t : List ℕ). Gap t rest) c.split_at.ensures.back g)

pub returns-else-begins_blank-clause-one : goal.returns-else-begins_blank-clause-one
returns-else-begins_blank-clause-one c = comment_gap c.args.text.now c.after_comment.result c.after_comment.ensures.value

pub returns-else-begins_blank-clause-none : goal.returns-else-begins_blank-clause-none
returns-else-begins_blank-clause-none c = no_more c.args.text.now c.after_comment.result c.after_comment.ensures.value c.if-begins_blank.ensures.blank
