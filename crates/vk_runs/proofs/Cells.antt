-- Cells keep words of their arrays' types.
use Rattle.std.proofs.Common.{◌≡◌, ℕ, ◌^◌, ◌%◌, ◌==◌, nat_lt, ◌&&◌, Bool, true, false, cond, ℤ, List, map, Option, Some, None, refl, ap, sym, subst, ◌∙◌}
use Rattle.std.proofs.lemmas.Bool.{eqb-true}
use Rattle.std.proofs.lemmas.Option.{none-some, same_Some}
use Rattle.std.specs.Prelude.{slice_get}
use Rattle.vk_types.specs.Numbers.{word_of, wrap_number}
use Rattle.vk_code.specs.Valid.{is_canonical}
use Rattle.vk_code.proofs.Faults.{and_left}
use Rattle.vk_object.specs.Machine.{extent_of, runs}
use Rattle.vk_object.specs.Memory.{Cell, Extent, Memory, array_of, cell_in, cell_of, logged, with_cell}
use Rattle.vk_object.specs.Tables.{Tables}
use Rattle.vk_runs.specs.Words.{HaveCells}
use Rattle.vk_runs.proofs.Memories.{entry_keeps}
use Rattle.vk_runs.proofs.Words.{canonical_wrap}

-- a cell is one of an array, with its type
record IsOf (arrays : List Extent) (c : Cell) : Type 0 where
  extent : Extent
  found : slice_get arrays c.array ≡ Some extent
  type : c.ty ≡ extent.ty

cell_there : (arrays : List Extent) (p : ℕ) (c : Cell) → cell_of arrays p ≡ Some c → IsOf arrays c
cell_there arrays p c e = by (slice_get arrays (array_of p)) refl e
  where
    inside : (x : Extent) → slice_get arrays (array_of p) ≡ Some x → (b : Bool) → cond b (Some (record { array = array_of p; index = p % 2 ^ 32; ty = x.ty })) None ≡ Some c → IsOf arrays c
    inside x found true f =
        let same : record { array = array_of p; index = p % 2 ^ 32; ty = x.ty } ≡ c = same_Some (record { array = array_of p; index = p % 2 ^ 32; ty = x.ty }) c f in
        subst (IsOf arrays) same (record { extent = x; found = found; type = refl })
    inside x found false f = absurd (none-some c f)

    by : (o : Option Extent) → slice_get arrays (array_of p) ≡ o → cell_in p o ≡ Some c → IsOf arrays c
    by None found f = absurd (none-some c f)
    by (Some x) found f = inside x found (nat_lt (p % 2 ^ 32) (2 ^ 31) && nat_lt (p % 2 ^ 32) x.length) f

pub stored : (arrays : List Extent) (m : Memory) (p : ℕ) (z : ℤ) (c : Cell) → cell_of arrays p ≡ Some c → HaveCells arrays m → HaveCells arrays (with_cell m c.array c.index (word_of (wrap_number c.ty z)))
stored arrays m p z c e h a i x found = by ((a == c.array) && (i == c.index)) (λ t. eqb-true a c.array (and_left (a == c.array) (i == c.index) t))
  where
    there : IsOf arrays c
    there = cell_there arrays p c e

    by : (b : Bool) → (b ≡ true → a ≡ c.array) → is_canonical x.ty (cond b (word_of (wrap_number c.ty z)) (m.cells a i)) ≡ true
    by true same =
        let one : x ≡ there.extent = same_Some x there.extent (sym found ∙ (ap (slice_get arrays) (same refl) ∙ there.found)) in
        subst (λ t. is_canonical t (word_of (wrap_number c.ty z)) ≡ true) (there.type ∙ ap (λ (y : Extent). y.ty) (sym one)) (canonical_wrap c.ty z)
    by false same = h a i x found

-- a run leaves words of the arrays' types in the cells, where they were there before
pub cells_kept : (image : Tables) (turns e : ℕ) (on : ℕ → Bool) (args : ℕ → ℕ → ℕ) (mem : Memory) → HaveCells (map extent_of image.arrays) mem → HaveCells (map extent_of image.arrays) (runs image turns e on args mem).mem
cells_kept image turns e on args mem =
    entry_keeps (map extent_of image.arrays) (λ m n. HaveCells (map extent_of image.arrays) m → HaveCells (map extent_of image.arrays) n) (λ m h. h) (λ a b c g h k. h (g k)) (λ event m h. h)
    (λ m p z c found h. stored (map extent_of image.arrays) m p z c found h) image refl turns 64 e on args mem
