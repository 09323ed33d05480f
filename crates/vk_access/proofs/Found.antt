-- Elements that pointers name.
use Rattle.std.proofs.Common.{◌≡◌, ℕ, ◌/◌, ◌%◌, ◌^◌, ◌<◌, nat_lt, ◌&&◌, Bool, true, false, cond, List, map, Option, Some, None, ap, refl, subst, ◌∙◌}
use Rattle.std.proofs.lemmas.Bool.{ltb-true}
use Rattle.std.specs.Option.{option_map}
use Rattle.std.specs.Prelude.{slice_get}
use Rattle.std.proofs.lemmas.Option.{none-some, same_Some, slice_get-map}
use Rattle.vk_object.specs.declared.tables.ArrayRow.{ArrayRow}
use Rattle.vk_object.specs.Machine.{extent_of}
use Rattle.vk_object.specs.Memory.{Cell, Extent, cell_in, cell_of}
use Rattle.vk_object.specs.Tables.{array_list_of}

extent_at : (rows : List ArrayRow) (n : ℕ) (o : Option ArrayRow) → slice_get rows n ≡ o → slice_get (map extent_of (map array_list_of rows)) n ≡ option_map extent_of (option_map array_list_of o)
extent_at rows n o h = slice_get-map extent_of (map array_list_of rows) n ∙ ap (option_map extent_of) (slice_get-map array_list_of rows n ∙ ap (option_map array_list_of) h)

pub cell_found : (rows : List ArrayRow) (p : ℕ) (row : ArrayRow) → slice_get rows (p / 2 ^ 32) ≡ Some row →
    cell_of (map extent_of (map array_list_of rows)) p ≡ cond (nat_lt (p % 2 ^ 32) (2 ^ 31) && nat_lt (p % 2 ^ 32) row.length) (Some (record { array = p / 2 ^ 32; index = p % 2 ^ 32; ty = row.ty })) None
cell_found rows p row h = ap (cell_in p) (extent_at rows (p / 2 ^ 32) (Some row) h)

pub cell_absent : (rows : List ArrayRow) (p : ℕ) → slice_get rows (p / 2 ^ 32) ≡ None → cell_of (map extent_of (map array_list_of rows)) p ≡ None
cell_absent rows p h = ap (cell_in p) (extent_at rows (p / 2 ^ 32) None h)

pub picked : (p : ℕ) (row : ArrayRow) (b : Bool) → (nat_lt (p % 2 ^ 32) (2 ^ 31) && nat_lt (p % 2 ^ 32) row.length) ≡ b →
    cond {A = Option Cell} (nat_lt (p % 2 ^ 32) (2 ^ 31) && nat_lt (p % 2 ^ 32) row.length) (Some (record { array = p / 2 ^ 32; index = p % 2 ^ 32; ty = row.ty })) None ≡ cond b (Some (record { array = p / 2 ^ 32; index = p % 2 ^ 32; ty = row.ty })) None
picked p row b h = ap (λ t. cond {A = Option Cell} t (Some (record { array = p / 2 ^ 32; index = p % 2 ^ 32; ty = row.ty })) None) h

-- a cell is inside its array
pub record Inside (arrays : List Extent) (c : Cell) : Type 0 where
  pub extent : Extent
  pub found : slice_get arrays c.array ≡ Some extent
  pub index : c.index < extent.length
  pub type : c.ty ≡ extent.ty

pub cell_inside : (arrays : List Extent) (p : ℕ) (c : Cell) → cell_of arrays p ≡ Some c → Inside arrays c
cell_inside arrays p c e = by (slice_get arrays (p / 2 ^ 32)) refl e
  where
    inside : (x : Extent) → slice_get arrays (p / 2 ^ 32) ≡ Some x → (a b : Bool) → (b ≡ true → p % 2 ^ 32 < x.length) → cond {A = Option Cell} (a && b) (Some (record { array = p / 2 ^ 32; index = p % 2 ^ 32; ty = x.ty })) None ≡ Some c → Inside arrays c
    inside x found true true l f = subst (Inside arrays) (same_Some (record { array = p / 2 ^ 32; index = p % 2 ^ 32; ty = x.ty }) c f) (record { extent = x; found = found; index = l refl; type = refl })
    inside x found true false l f = absurd (none-some c f)
    inside x found false b l f = absurd (none-some c f)

    by : (o : Option Extent) → slice_get arrays (p / 2 ^ 32) ≡ o → cell_in p o ≡ Some c → Inside arrays c
    by None found f = absurd (none-some c f)
    by (Some x) found f = inside x found (nat_lt (p % 2 ^ 32) (2 ^ 31)) (nat_lt (p % 2 ^ 32) x.length) (ltb-true (p % 2 ^ 32) x.length) f
