use Rattle.vk_format.proofs.Inverse.{whole_takes, whole_reads}
use Rattle.vk_image_format.specs.Image.{image_faults, image_table}
use Rattle.vk_image_format.proofs.Inverse.{image_law}
use Rattle.vk_image_format.proofs.laws.spelling.Goals as goal

pub returns-clause-sound : goal.returns-clause-sound
returns-clause-sound c bytes o are h = (whole_takes image_faults image_table image_law bytes o are h).0

pub returns-clause-spelled : goal.returns-clause-spelled
returns-clause-spelled c bytes o are h = (whole_takes image_faults image_table image_law bytes o are h).1

pub returns-clause-read : goal.returns-clause-read
returns-clause-read c o sound = whole_reads image_faults image_table image_law o sound
