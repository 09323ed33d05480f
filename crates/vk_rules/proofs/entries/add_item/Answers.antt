use Rattle.std.proofs.Common.{ap, refl}
use Rattle.vk_ast.specs.Units.{item_of}
use Rattle.vk_rules.proofs.Listed.{nothing_added}
use Rattle.vk_rules.proofs.entries.add_item.Goals as goal

pub returns-in-Object : goal.returns-in-Object
returns-in-Object c = λ before knows fs are. nothing_added _ before _ _ fs _ (ap item_of c.in-Object.is) refl are

pub returns-in-Lost : goal.returns-in-Lost
returns-in-Lost c = λ before knows fs are. nothing_added _ before _ _ fs _ (ap item_of c.in-Lost.is) refl are
