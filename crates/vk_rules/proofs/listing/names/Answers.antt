use Rattle.std.proofs.Common.{subst, sym}
use Rattle.vk_rules.specs.declared.accepted.Source.{Source}
use Rattle.vk_rules.specs.Entries.{AreEntries}
use Rattle.vk_rules.specs.Functions.{functions_of}
use Rattle.vk_rules.specs.UnitNames.{HaveIdentifiers}
use Rattle.vk_rules.specs.Verdicts.{judged}
use Rattle.vk_rules.proofs.Naming.{all_counted, all_named, all_names, entry_of_loop, names_again, names_more, scalar_of}
use Rattle.vk_rules.proofs.listing.names.Goals as goal

pub add_function-requires-clause-count : goal.add_function-requires-clause-count
add_function-requires-clause-count c =
    let at = entry_of_loop _ _ _ _ _ c.deref-entry-items.ensures.value c.unit.invariant.1 c.loop-entry-test.true c.entry-item.is in all_counted at.0 _ at.2

pub add_function-requires-clause-in_range : goal.add_function-requires-clause-in_range
add_function-requires-clause-in_range c =
    let at = entry_of_loop _ _ _ _ _ c.deref-entry-items.ensures.value c.unit.invariant.1 c.loop-entry-test.true c.entry-item.is in all_named at.0 _ at.2

pub add_function-requires-clause-scalar : goal.add_function-requires-clause-scalar
add_function-requires-clause-scalar c =
    let unit = judged c.unit.inside.source in
    let at = entry_of_loop _ _ _ _ _ c.deref-entry-items.ensures.value c.unit.invariant.1 c.loop-entry-test.true c.entry-item.is in
    scalar_of unit _ at.0 _ _ c.unit.invariant.0 (subst (λ (s : Source). HaveIdentifiers (judged s)) (sym c.unit.view_is) c.requires) at.1 at.2 c.text.ensures

pub loop-entry-preserved : goal.loop-entry-preserved
loop-entry-preserved c =
    let unit = judged c.unit.inside.source in
    let at = entry_of_loop _ _ _ _ _ c.deref-entry-items.ensures.value c.unit.invariant.1 c.loop-entry-test.true c.entry-item.is in
    names_again _ _ _ _ c.unit.view_is
    (names_more unit _ at.0 _ _ _ _ at.1 at.2 c.text.ensures (names_again _ _ _ _ (sym c.unit.view_is) c.loop-entry.invariant) c.in_ok-add_function.ensures)

pub returns : goal.returns
returns c = all_names (judged c.args.unit.now) _ _ _ _ c.deref-entry-items.ensures.value
    (subst (λ (s : Source). AreEntries (functions_of (judged s)) c.unit.inside.entries.items) c.unit.view_is c.unit.invariant.1) c.loop-entry-test.false c.loop-entry.invariant
