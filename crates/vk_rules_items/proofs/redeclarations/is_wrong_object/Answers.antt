use Rattle.vk_ast.specs.Units.{object, object_of}
use Rattle.vk_rules_items.proofs.Declared.{object_defines, wrong_again}
use Rattle.vk_rules_items.proofs.redeclarations.is_wrong_object.Goals as goal

pub returns : goal.returns
returns c =
    wrong_again c.args.survey.now c.args.seen.now c.args.o.now.name (object (object_of c.args.o.now)) _ _ _ _ _ _ c.requires.seen c.number_of.ensures c.number_of-2.ensures c.is_wrong.ensures
    c.disagrees_object-disagrees.ensures (object_defines (object_of c.args.o.now)) c.is_some-defined.ensures
