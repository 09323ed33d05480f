use Rattle.vk_grammar_unit.proofs.Theorem.{found, only, refused, deep, ends}
use Rattle.vk_grammar_unit.proofs.laws.whole_units.Goals as goal

pub returns : goal.returns
returns c = record { found = found; only = only; refused = refused; deep = deep; ends = ends }
