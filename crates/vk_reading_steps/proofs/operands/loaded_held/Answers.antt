use Rattle.std.proofs.Common.{ap, ◌∙◌, sym, ◌≡◌, ℤ, rules}
use Rattle.std.proofs.lemmas.Int.{to_z-of_z}
use mir.Val.{to_z, of_z}
use mir.Syntax.{w32}
use Rattle.vk_meaning.specs.Data.{loaded, pointer}
use Rattle.vk_reading.specs.Cells.{memory_in}
use Rattle.vk_reading.specs.Held.{datum_of}
use Rattle.vk_reading.specs.declared.held.Held.{Held}
use Rattle.vk_reading_steps.proofs.operands.loaded_held.Goals as goal

pub returns-in-Pointer-clause-value : goal.returns-in-Pointer-clause-value
returns-in-Pointer-clause-value c arrays events rows =
    let e : to_z w32 (of_z w32 c.in-Pointer.offset) ≡ c.in-Pointer.offset = to_z-of_z w32 c.in-Pointer.offset (search rules) in
    c.load.ensures.value arrays events rows
    ∙ ap (λ (o : ℤ). loaded arrays c.args.to (pointer c.in-Pointer.array o) (record { memory = memory_in c.args.cells.now.rows.items; events = events })) e
    ∙ sym (ap (λ (p : Held). loaded arrays c.args.to (datum_of p) (record { memory = memory_in c.args.cells.now.rows.items; events = events })) c.in-Pointer.is)
