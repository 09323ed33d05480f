use Rattle.std.proofs.Common.{ℕ, List, [], Option, ap, ◌∙◌}
use Rattle.vk_rules_book.specs.Scopes.{Scope}
use Rattle.vk_rules_names.specs.Seen.{file_seen}
use Rattle.vk_rules_items.proofs.Declared.{scope_seen}
use Rattle.vk_rules_items.proofs.seen.Seen.scope.Goals as goal

pub returns-clause-scope : goal.returns-clause-scope
returns-clause-scope c =
    let at : List (Option ℕ) → Scope = λ first. record { file = file_seen c.args.survey.now.names.now c.args.survey.now.items.now first; inner = []; outer = 0 } in
    c.with.ensures.scope ∙ ap at c.deref.ensures.value ∙ scope_seen c.args.survey.now c.args.self.now c.args.survey.now.names.now c.requires
