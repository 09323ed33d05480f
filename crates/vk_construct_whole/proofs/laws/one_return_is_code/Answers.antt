use Rattle.std.proofs.Common.{arith, Some}
use Rattle.vk_construct_whole.specs.Wholes.{param_types}
use Rattle.vk_construct_whole.proofs.Definitions.{body_good, return_alone, return_on_lanes}
use Rattle.vk_construct_whole.proofs.laws.one_return_is_code.Goals as goal

pub returns-clause-on_lanes : goal.returns-clause-on_lanes
returns-clause-on_lanes c = return_on_lanes

pub returns-clause-alone : goal.returns-clause-alone
returns-clause-alone c = return_alone

pub returns-clause-good : goal.returns-clause-good
returns-clause-good c = λ d e t w r size environment routine a f. body_good (param_types d) w _ size 0 environment routine (Some r) a (omega arith) f
