use Rattle.std.proofs.Common.{sym}
use Rattle.vk_kinds.specs.Sizes.{head_types}
use Rattle.vk_object_directives.proofs.Ready.{unready_share}
use Rattle.vk_object_directives.proofs.directives.shares.Goals as goal

pub returns-in-None : goal.returns-in-None
returns-in-None c =
    sym (unready_share c.args.target (head_types c.args.head.now) c.args.earlier.now c.args.directive.now c.requires.ready c.in-None.ensures.0)
