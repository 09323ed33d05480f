use Rattle.vk_format.proofs.Inverse.{whole_takes, whole_reads}
use Rattle.vk_object_format.specs.Object.{object_faults, object_table}
use Rattle.vk_object_format.proofs.Inverse.{object_law}
use Rattle.vk_object_format.proofs.laws.spelling.Goals as goal

pub returns-clause-sound : goal.returns-clause-sound
returns-clause-sound c bytes o are h = (whole_takes object_faults object_table object_law bytes o are h).0

pub returns-clause-spelled : goal.returns-clause-spelled
returns-clause-spelled c bytes o are h = (whole_takes object_faults object_table object_law bytes o are h).1

pub returns-clause-read : goal.returns-clause-read
returns-clause-read c o sound = whole_reads object_faults object_table object_law o sound
