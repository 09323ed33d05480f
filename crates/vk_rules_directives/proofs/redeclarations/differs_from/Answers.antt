use Rattle.std.proofs.Common.{Some, sym, ap, ◌∙◌}
use Rattle.vk_ast.specs.Units.{function_of, item_of}
use Rattle.vk_rules_book.specs.Directives.{has_other_directives}
use Rattle.vk_rules_directives.proofs.Redeclared.{alone, others_by}
use Rattle.vk_rules_directives.proofs.redeclarations.differs_from.Goals as goal

pub returns-in-Function : goal.returns-in-Function
returns-in-Function c =
    c.differs.ensures ∙ others_by _ (function_of c.args.f.now) c.args.first.now c.args.own.now (c.requires.first _ c.in-Function.is) c.requires.own
    ∙ sym (ap (λ i. has_other_directives (Some (item_of i)) (function_of c.args.f.now)) c.in-Function.is)

pub differs-requires-clause-first : goal.differs-requires-clause-first
differs-requires-clause-first c = alone _ _ (c.requires.first _ c.in-Function.is)

pub differs-requires-clause-own : goal.differs-requires-clause-own
differs-requires-clause-own c = alone _ _ c.requires.own
