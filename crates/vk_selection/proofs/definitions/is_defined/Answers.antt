use Rattle.std.proofs.Common.{◌≡◌, ◌∙◌, Some, arith, ap, sym, slice_get}
use Rattle.vk_ast.specs.Units.{item_of, items_of}
use Rattle.vk_selection.specs.Selection.{is_definition}
use Rattle.vk_selection.proofs.Lists.{any_here, any_more, at_mapped}
use Rattle.vk_selection.proofs.definitions.is_defined.Goals as goal

pub returns-then-is_definition : goal.returns-then-is_definition
returns-then-is_definition c =
    let at : slice_get (items_of c.args.unit.now) c.loop-number.number ≡ Some (item_of c.index.result.now) =
    at_mapped item_of c.args.unit.now.items.items c.loop-number.number _ (omega arith) ∙ ap (λ i. Some (item_of i)) (sym c.index.ensures) in
    sym (any_here (is_definition c.args.unit.now.names c.args.name.now) (items_of c.args.unit.now) c.loop-number.number (item_of c.index.result.now) at (sym c.is_definition.ensures ∙ c.if-is_definition.true))

pub loop-number-preserved : goal.loop-number-preserved
loop-number-preserved c =
    let at : slice_get (items_of c.args.unit.now) c.loop-number.number ≡ Some (item_of c.index.result.now) =
    at_mapped item_of c.args.unit.now.items.items c.loop-number.number _ (omega arith) ∙ ap (λ i. Some (item_of i)) (sym c.index.ensures) in
    any_more (is_definition c.args.unit.now.names c.args.name.now) (items_of c.args.unit.now) c.loop-number.number (item_of c.index.result.now) at c.loop-number.invariant
    (sym c.is_definition.ensures ∙ c.if-is_definition.false)
