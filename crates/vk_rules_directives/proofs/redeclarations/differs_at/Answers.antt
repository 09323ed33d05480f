use Rattle.std.proofs.Common.{sym, ap, ◌∙◌}
use Rattle.std.specs.Option.{option_map}
use Rattle.std.proofs.lemmas.Option.{slice_get_past}
use Rattle.vk_ast.specs.Units.{function_of, item_of}
use Rattle.vk_rules_book.specs.Directives.{has_other_directives}
use Rattle.vk_rules_directives.proofs.Lists.{item_is, own_is}
use Rattle.vk_rules_directives.proofs.redeclarations.differs_at.Goals as goal

pub differs_from-requires-clause-first : goal.differs_from-requires-clause-first
differs_from-requires-clause-first c =
    c.requires.first c.args.number _ _ (own_is c.args.signed.now c.args.number _ c.requires.within c.index-signed-number.is) (item_is c.args.items.now c.args.number _ c.if-number-items.true c.index-items-number.is)

pub returns-then-number-items : goal.returns-then-number-items
returns-then-number-items c =
    c.differs_from.ensures ∙ sym (ap (λ i. has_other_directives (option_map item_of i) (function_of c.args.f.now)) (item_is c.args.items.now c.args.number _ c.if-number-items.true c.index-items-number.is))

pub returns-else-number-items : goal.returns-else-number-items
returns-else-number-items c = sym (ap (λ i. has_other_directives (option_map item_of i) (function_of c.args.f.now)) (slice_get_past c.args.items.now c.args.number c.if-number-items.false))
