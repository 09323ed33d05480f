use Rattle.std.proofs.Common.{refl}
use Rattle.std.specs.Option.{option_map}
use Rattle.vk_lex.specs.Tokens.{found_kind}
use Rattle.vk_lex.proofs.Fronts.{late, heads, headless}
use Rattle.vk_lex.proofs.pieces.hash.Goals as goal

pub returns-then-not-is_start-clause-fault : goal.returns-then-not-is_start-clause-fault
returns-then-not-is_start-clause-fault c = late c.args.mode c.args.rest.now (c.if-not-is_start.ensures.other refl) c.requires

pub returns-in-Some-clause-piece : goal.returns-in-Some-clause-piece
returns-in-Some-clause-piece c =
    heads c.args.mode c.args.rest.now c.in-Some.line.rest.now (option_map found_kind c.in-Some.line.found) c.in-Some.line.mode (c.if-not-is_start.ensures.start refl) c.in-Some.ensures.heading

pub returns-in-None-clause-fault : goal.returns-in-None-clause-fault
returns-in-None-clause-fault c = headless c.args.mode c.args.rest.now (c.if-not-is_start.ensures.start refl) (c.in-None.ensures.none refl)
