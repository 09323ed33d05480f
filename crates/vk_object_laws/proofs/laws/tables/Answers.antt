use Rattle.vk_object_laws.proofs.Again.{tables_again}
use Rattle.vk_object_laws.proofs.Ends.{tables_object}
use Rattle.vk_object_laws.proofs.laws.tables.Goals as goal

pub returns : goal.returns
returns c = record { object = tables_object; again = λ o h. tables_again o h.0 }
