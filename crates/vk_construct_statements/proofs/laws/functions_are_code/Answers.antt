use Rattle.vk_construct_whole.specs.Wholes.{param_types}
use Rattle.vk_construct_whole.proofs.Definitions.{body_good}
use Rattle.vk_construct_statements.proofs.Functions.{definition_alone, definition_on_lanes}
use Rattle.vk_construct_statements.proofs.laws.functions_are_code.Goals as goal

pub returns-clause-on_lanes : goal.returns-clause-on_lanes
returns-clause-on_lanes c = definition_on_lanes

pub returns-clause-alone : goal.returns-clause-alone
returns-clause-alone c = definition_alone

pub returns-clause-good : goal.returns-clause-good
returns-clause-good c = λ d result w size depth environment routine a le f. body_good (param_types d) w _ size depth environment routine result a le f
