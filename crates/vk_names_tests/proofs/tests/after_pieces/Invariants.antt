use Rattle.std.proofs.Common.{take}
use Rattle.std.specs.List.{flat_map}
use Rattle.vk_names.specs.Inner.Feeds.{Stands}
use Rattle.vk_names_tests.proofs.tests.after_pieces.Given as goal

abbrev pub invariant-loop-piece : goal.invariant-loop-piece
invariant-loop-piece l = Stands l.feed (flat_map (λ piece. piece.now) (take l.piece-index l.pieces))
