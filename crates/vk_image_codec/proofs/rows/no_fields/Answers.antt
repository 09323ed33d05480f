use Rattle.vk_image_faults.specs.Ends.{faults_at}
use Rattle.vk_image_codec.specs.Rows.{judged, rows_format, rows_left}
use Rattle.vk_image_codec.proofs.rows.no_fields.Goals as goal

pub returns : goal.returns
unfolding judged rows_format rows_left faults_at
returns c = record { start = c.new.ensures 0 judged }
