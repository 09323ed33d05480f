use Rattle.std.proofs.Common.{◌≡◌, map, take}
use Rattle.vk_ast.specs.Tree.{expr_of}
use Rattle.vk_reading_rows.specs.Inner.Rows.{given_words}
use Rattle.vk_reading_rows.proofs.cells.initial_words.Given as goal

abbrev pub invariant-loop-e : goal.invariant-loop-e
invariant-loop-e l = map (λ w. w.0) l.words.items ≡ given_words l.ty (map expr_of (take l.e-index l.es))
