use Rattle.vk_joins.specs.Carries.{units_of}
use Rattle.vk_joins_laws.proofs.Arrays.{arrays_are}
use Rattle.vk_linked_objects.proofs.Few.{arrays_few}
use Rattle.vk_linked_objects.proofs.Linked.{objects_are}
use Rattle.vk_linked_objects.proofs.laws.definitions_run_alone.Goals as goal

pub returns : goal.returns
returns c ps image program p among text d defined no_loops turns limit x code is = record {
  limit = limit;
  code_is = is;
  no_loops = no_loops;
  objects = objects_are ps program.accepted program.links p among text d defined image turns x code;
  few = arrays_few image (units_of ps) program.valid (arrays_are image ps program.valid program.accepted program.tables program.joins);
}
