use Rattle.vk_rules_directives.proofs.Types.{set_type}
use Rattle.vk_rules_directives.proofs.names.set_type.Goals as goal

pub returns : goal.returns
returns c = set_type c.args.types.now.items _ c.args.id c.args.ctype c.in_ok-reach.ensures.room c.in_ok-reach.ensures.same
