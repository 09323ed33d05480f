use Rattle.std.proofs.Common.{◌∙◌, sym, ap}
use Rattle.vk_words.specs.Reading.{is_true_text}
use Rattle.vk_words.proofs.getters.has_flag.Goals as goal

pub returns-in-Some : goal.returns-in-Some
returns-in-Some c = c.eq.ensures ∙ ap is_true_text (sym c.in-Some.ensures)

pub returns-in-None : goal.returns-in-None
returns-in-None c = ap is_true_text (sym c.in-None.ensures)
