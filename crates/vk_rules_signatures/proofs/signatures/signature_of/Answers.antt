use Rattle.vk_rules_signatures.proofs.Sound.{few, sound}
use Rattle.vk_rules_signatures.proofs.signatures.signature_of.Goals as goal

pub params_of-requires-clause-few : goal.params_of-requires-clause-few
params_of-requires-clause-few c = few _ _ c.requires

pub params_of-requires-clause-right : goal.params_of-requires-clause-right
params_of-requires-clause-right c = sound _ _ c.requires
