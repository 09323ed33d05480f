use Rattle.std.proofs.Common.{map}
use Rattle.vk_reading_rows.specs.Objects.{array_seen}
use Rattle.vk_reading_rows.proofs.Canonical.{arrays_canonical}
use Rattle.vk_reading_rows.proofs.Rows.{rows_are, memory_is, words_are}
use Rattle.vk_reading_rows.proofs.cells.first_cells.Goals as goal

pub returns-clause-rows : goal.returns-clause-rows
returns-clause-rows c = rows_are c.in_ok-rows.rows.items (map array_seen c.args.objects.now) c.requires c.in_ok-rows.ensures

pub returns-clause-memory : goal.returns-clause-memory
returns-clause-memory c = memory_is c.in_ok-rows.rows.items (map array_seen c.args.objects.now) c.in_ok-rows.ensures

pub returns-clause-words : goal.returns-clause-words
returns-clause-words c = words_are c.in_ok-rows.rows.items (map array_seen c.args.objects.now) c.in_ok-rows.ensures (arrays_canonical c.args.objects.now)
