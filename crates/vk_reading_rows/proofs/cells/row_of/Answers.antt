use Rattle.std.proofs.Common.{◌≡◌, ℕ, List, [], length, ap, unwrap_or, rules}
use Rattle.vk_ast.specs.Units.{object_of}
use Rattle.vk_reading_rows.specs.Objects.{array_seen}
use Rattle.vk_reading_rows.specs.Inner.Rows.{given_words}
use Rattle.vk_reading_rows.proofs.Canonical.{zero_word}
use Rattle.vk_reading_rows.proofs.Rows.{words_made}
use Rattle.vk_reading_rows.proofs.cells.row_of.Goals as goal

pub returns : goal.returns
returns c =
    let o = c.args.placed.now.object.now in
    let count : c.in_ok-words.words.len ≡ length c.in_ok-words.words.items = search rules in
    ap (λ (ws : List ℕ). record { ty = c.args.placed.now.object.now.ty; words = ws })
    (words_made c.in_ok-words.words.items c.resize.new.self.items c.wrap.result c.length_of.result c.in_ok-words.words.len (given_words o.ty (unwrap_or (object_of o).init []))
    (array_seen c.args.placed.now).length c.in_ok-words.ensures c.requires c.length_of.ensures
    (zero_word o.ty c.wrap.result.0 c.wrap.ensures.number c.wrap.ensures.canonical) count c.in_ok-resize.ensures.items)
