use Rattle.std.proofs.Common.{refl}
use Rattle.vk_kinds.specs.Sizes.{head_types}
use Rattle.vk_object_directives.proofs.Ready.{unready_directive}
use Rattle.vk_object_directives.proofs.directives.is_directive_after.Goals as goal

pub returns-in-None : goal.returns-in-None
returns-in-None c =
    rw (unready_directive c.args.target (head_types c.args.head.now) c.args.directive.now c.in-None.ensures.1 c.in-None.ensures.0) refl
