use Rattle.vk_reading_rows.proofs.Canonical.{given_within}
use Rattle.vk_reading_rows.proofs.cells.rows_of.Goals as goal

pub row_of-requires : goal.row_of-requires
row_of-requires c = given_within c.args.objects.now c.loop-placed.placed-index c.placed-item.result c.loop-placed-test.true c.placed-item.is c.requires
