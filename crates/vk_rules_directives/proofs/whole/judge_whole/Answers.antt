use Rattle.std.proofs.Common.{length, sym, ap, ◌∙◌}
use Rattle.vk_kinds.specs.Sizes.{HeadTypes}
use Rattle.vk_ast.specs.Directives.{directive_of}
use Rattle.vk_ast.specs.Units.{function_of}
use Rattle.vk_rules_directives.specs.Inner.Signed.{seen}
use Rattle.vk_rules_directives.proofs.Givens.{of_signed}
use Rattle.vk_rules_directives.proofs.whole.judge_whole.Goals as goal

pub head_of-h-requires : goal.head_of-h-requires
head_of-h-requires c = (of_signed (function_of c.args.f.now) (directive_of c.args.d.now) _ (sym (ap seen c.in-Some.is) ∙ c.requires)).0

pub judge_signature-requires : goal.judge_signature-requires
judge_signature-requires c =
    ap (λ (h : HeadTypes). length h.params) c.head_of-h.ensures
    ∙ (of_signed (function_of c.args.f.now) (directive_of c.args.d.now) _ (sym (ap seen c.in-Some.is) ∙ c.requires)).1
