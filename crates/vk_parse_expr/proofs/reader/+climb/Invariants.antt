use Rattle.vk_parse_expr.proofs.reader.+climb.Given as goal

abbrev pub decreases-climb : goal.decreases-climb
decreases-climb l = l.n
