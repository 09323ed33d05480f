use Rattle.vk_format.proofs.Bytes.{bytes_again, number_again}
use Rattle.vk_format.proofs.laws.fixed_fields.Goals as goal

pub returns-clause-bytes : goal.returns-clause-bytes
returns-clause-bytes c = bytes_again

pub returns-clause-number : goal.returns-clause-number
returns-clause-number c = number_again
