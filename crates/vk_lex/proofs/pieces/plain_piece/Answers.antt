use Rattle.std.proofs.Common.{refl}
use Rattle.std.specs.Option.{option_map}
use Rattle.vk_lex.specs.Tokens.{found_kind}
use Rattle.vk_lex.proofs.Fronts.{newline_piece, blank_piece, idle_piece}
use Rattle.vk_lex.proofs.pieces.plain_piece.Goals as goal

pub returns-then-begins_with-clause-piece : goal.returns-then-begins_with-clause-piece
returns-then-begins_with-clause-piece c =
    newline_piece c.args.mode c.args.text.now c.split_at.result.1.now (option_map found_kind c.ended.result) c.if-begins_with.ensures c.ended.ensures c.split_at.ensures.back

pub returns-then-begins_blank-clause-piece : goal.returns-then-begins_blank-clause-piece
returns-then-begins_blank-clause-piece c = blank_piece c.args.mode c.args.text.now c.split_at.result.1.now c.if-begins_blank.ensures.blank c.split_at.ensures.back

pub returns-then-is_idle-clause-piece : goal.returns-then-is_idle-clause-piece
returns-then-is_idle-clause-piece c =
    idle_piece c.args.mode c.args.text.now c.split_at.result.1.now c.requires.some (c.if-is_idle.ensures.idle refl) c.if-begins_with.ensures c.requires.plain c.split_at.ensures.back
