use Rattle.std.proofs.Common.{subst, sym}
use Rattle.vk_parse.specs.Inner.Answers.{IsAnswer}
use Rattle.vk_parse.proofs.Facts.{answered}
use Rattle.vk_parse.proofs.unit.items.Goals as goal

pub returns : goal.returns
returns g c = λ names ts e same. subst (IsAnswer names ts) (sym c.judged.ensures)
    (answered names ts (g.D.Directives.clauses c.args.directives.now) same c.args.syms.now e c.read_unit.result c.first_word_fault.result
    c.read_unit.ensures.found c.read_unit.ensures.within c.read_unit.ensures.syntax c.read_unit.ensures.deep
    c.first_word_fault.ensures.found c.first_word_fault.ensures.only)
