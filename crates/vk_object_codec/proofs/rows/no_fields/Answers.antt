use Rattle.vk_object_codec.specs.Rows.{judged, rows_format, rows_left}
use Rattle.vk_object_codec.proofs.rows.no_fields.Goals as goal

pub returns : goal.returns
unfolding judged rows_format rows_left
returns c = record { start = c.new.ensures 0 judged }
