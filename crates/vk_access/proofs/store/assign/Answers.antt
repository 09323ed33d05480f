use Rattle.std.proofs.Common.{◌≡◌, ℕ, ap, length, subst, sym, true, ◌∙◌}
use Rattle.vk_code.specs.Valid.{is_canonical}
use Rattle.vk_access.specs.Cells.{cells_in}
use Rattle.vk_access.specs.Stores.{extents}
use Rattle.vk_access.proofs.Found.{cell_inside}
use Rattle.vk_access.proofs.Words.{is_so, put_words}
use Rattle.vk_access.proofs.store.assign.Goals as goal

pub returns-in-Some-clause-store : goal.returns-in-Some-clause-store
returns-in-Some-clause-store c =
    let arrays = extents c.args.image.now in
    let cell = c.in-Some.cell in
    let old = c.args.store.now in
    let i = cell_inside arrays c.args.pointer.0 (record { array = cell.array; index = cell.index; ty = cell.ty }) c.in-Some.ensures in
    record {
      counts = ap (λ v. length v.items) c.write.ensures.counts ∙ c.requires.store.counts;
      lengths = λ a x f. c.write.ensures.lengths a ∙ c.requires.store.lengths a x f;
      words = λ a n x f. subst (λ (cells : ℕ → ℕ → ℕ). is_canonical x.ty (cells a n) ≡ true) (sym c.write.ensures.cells)
          (put_words arrays (cells_in old.cells.items) cell.array cell.index c.convert.result.0 i.extent i.found
          (subst (λ t. is_canonical t c.convert.result.0 ≡ true) i.type (is_so cell.ty c.convert.result.0 c.convert.ensures.canonical)) c.requires.store.words a n x f);
    }
