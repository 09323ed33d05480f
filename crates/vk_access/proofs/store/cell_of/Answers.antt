use Rattle.std.proofs.Common.{ℕ, ◌<◌, ◌%◌, ◌/◌, ◌^◌, length, nat_lt, ◌&&◌, true, false, ap₂, refl, rules, ◌∙◌}
use Rattle.std.proofs.lemmas.Bool.{and_left, and_right, le-ltb, lt-ltb}
use Rattle.std.proofs.lemmas.Option.{slice_get_read}
use Rattle.vk_object.specs.declared.tables.ArrayRow.{ArrayRow}
use Rattle.vk_access.proofs.Found.{cell_found, picked}
use Rattle.vk_access.proofs.store.cell_of.Goals as goal
use Rattle.vk_access.proofs.store.cell_of.Goals.{else-index-via-then-index+else-index-row, else-index-via-else-index}

pub returns-then-index-row : goal.returns-then-index-row
returns-then-index-row c =
    let p : ℕ = c.args.pointer.0 in
    let row : ArrayRow = c.index-row.result.now in
    let inside : p / 2 ^ 32 < length c.args.image.now.arrays.items = search rules in
    let got = slice_get_read c.args.image.now.arrays.items (length c.args.image.now.arrays.items) (p / 2 ^ 32) row refl inside (search rules) in
    cell_found c.args.image.now.arrays.items p row got
    ∙ picked p row true (ap₂ (λ a b. a && b) (lt-ltb (p % 2 ^ 32) (2 ^ 31) c.if-index.true) (lt-ltb (p % 2 ^ 32) row.length c.if-index-row.true))

pub returns : goal.returns
returns c =
    let p : ℕ = c.args.pointer.0 in
    let row : ArrayRow = c.index-row.result.now in
    let inside : p / 2 ^ 32 < length c.args.image.now.arrays.items = search rules in
    let got = slice_get_read c.args.image.now.arrays.items (length c.args.image.now.arrays.items) (p / 2 ^ 32) row refl inside (search rules) in
    cell_found c.args.image.now.arrays.items p row got ∙ picked p row false (elim c.else-index.branch [
      | else-index-via-then-index+else-index-row w ↦ and_right (nat_lt (p % 2 ^ 32) (2 ^ 31)) (nat_lt (p % 2 ^ 32) row.length) (le-ltb (p % 2 ^ 32) row.length w.if-index-row.false)
      | else-index-via-else-index w ↦ and_left (nat_lt (p % 2 ^ 32) (2 ^ 31)) (nat_lt (p % 2 ^ 32) row.length) (le-ltb (p % 2 ^ 32) (2 ^ 31) w.if-index.false)
    ])
