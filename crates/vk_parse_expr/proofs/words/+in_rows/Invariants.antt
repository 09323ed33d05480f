use Rattle.std.proofs.Common.{length}
use Rattle.vk_parse_expr.proofs.words.+in_rows.Given as goal

abbrev pub decreases-in_rows : goal.decreases-in_rows
decreases-in_rows l = length l.rows.now
