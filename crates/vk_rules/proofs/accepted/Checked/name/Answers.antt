use Rattle.std.proofs.Common.{ap, ◌∙◌}
use Rattle.vk_rules_book.specs.Scopes.{text_of}
use Rattle.vk_rules.specs.declared.accepted.Source.{Source}
use Rattle.vk_rules.proofs.Told.{name_told}
use Rattle.vk_rules.proofs.accepted.Checked.name.Goals as goal

pub returns : goal.returns
returns c = name_told _ _ _ _ (c.text.ensures ∙ ap (λ (s : Source). text_of s.unit.names c.entry.result.now.name) c.self.view_is) c.entry.ensures
