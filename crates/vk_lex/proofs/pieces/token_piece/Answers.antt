use Rattle.vk_lex.specs.Tokens.{found_kind}
use Rattle.vk_lex.proofs.Fronts.{token_piece, token_fault}
use Rattle.vk_lex.proofs.pieces.token_piece.Goals as goal

pub returns-in-Ok-clause-piece : goal.returns-in-Ok-clause-piece
returns-in-Ok-clause-piece c =
    token_piece c.args.mode c.going.result c.args.text.now c.in-Ok.rest.now (found_kind c.in-Ok.found) c.requires.mode c.going.ensures c.in-Ok.ensures.token

pub returns-in-Err-clause-fault : goal.returns-in-Err-clause-fault
returns-in-Err-clause-fault c = token_fault c.args.mode c.args.text.now c.in-Err.rule c.requires.mode c.in-Err.ensures.fault
