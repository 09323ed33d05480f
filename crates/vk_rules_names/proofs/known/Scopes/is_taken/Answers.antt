use Rattle.std.proofs.Common.{ap, ◌∙◌, rules}
use Rattle.std.proofs.lemmas.Iterator.{YieldsList-from_slice}
use Rattle.std.proofs.lemmas.Iterator.Adapters.{YieldsList-from_skip}
use Rattle.std.proofs.lemmas.Iterator.Search.{any_from_yields_List}
use Rattle.vk_rules_book.specs.declared.contexts.Binding.{Binding}
use Rattle.vk_rules_book.specs.Scopes.{is_taken, same_name}
use Rattle.vk_rules_names.proofs.known.Scopes.is_taken.Goals as goal

pub returns : goal.returns
unfolding is_taken
returns c =
    any_from_yields_List (λ (b : Binding). same_name b.name c.args.id) _ _ c.any.result c.any.ensures.ran
    (YieldsList-from_skip c.args.self.now.outer (YieldsList-from_slice c.args.self.now.inner.now (ap (λ i. i.rest.now) c.skip.ensures.source ∙ c.iter.ensures.rest)) c.skip.ensures.count) (λ x b q k. search rules)
