use Rattle.std.proofs.Common.{sym}
use Rattle.vk_lex.specs.Lexing.{a_comment, open_comment}
use Rattle.vk_lex.proofs.pieces.first_piece.Goals as goal

pub returns-then-is_open_comment-clause-fault : goal.returns-then-is_open_comment-clause-fault
returns-then-is_open_comment-clause-fault c = open_comment (sym c.if-is_open_comment.ensures)

pub returns-in-Some-clause-piece : goal.returns-in-Some-clause-piece
returns-in-Some-clause-piece c = a_comment (sym c.in-Some.ensures.value)
