use Rattle.std.proofs.Common.{subst, sym}
use Rattle.vk_lex.specs.Tokens.{found_kind, Grows}
use Rattle.vk_lex.specs.declared.pieces.Found.{Found}
use Rattle.vk_lex.proofs.Firsts.{grown}
use Rattle.vk_lex.proofs.reader.token_kind.Goals as goal

pub returns-in_ok-add-in-Word-clause-grows : goal.returns-in_ok-add-in-Word-clause-grows
returns-in_ok-add-in-Word-clause-grows c =
    subst (λ (f : Found). Grows c.args.names.now c.add.new.self (found_kind f)) (sym c.in-Word.is) (grown c.in_ok-add-in-Word.ensures.added)
