use Rattle.std.proofs.Common.{◌≡◌, ℤ, sym, ap, ◌∙◌, rules}
use Rattle.std.proofs.lemmas.Int.{to_z-of_z}
use mir.Val.{to_z, of_z}
use mir.Syntax.{w32}
use Rattle.vk_types.specs.Numbers.{number_of, wrap_number}
use Rattle.vk_meaning.specs.Data.{number_in, pointer, stored}
use Rattle.vk_reading.specs.Cells.{memory_in}
use Rattle.vk_reading.specs.Held.{datum_of}
use Rattle.vk_reading.specs.declared.held.Held.{Held}
use Rattle.vk_reading_statements.proofs.Storing.{store_done, store_stopped}
use Rattle.vk_reading_statements.proofs.assigning.store_at.Goals as goal

pub returns-in-Ok-clause-does : goal.returns-in-Ok-clause-does
returns-in-Ok-clause-does c arrays out =
    let offset : to_z w32 (of_z w32 c.in-Pointer.offset) ≡ c.in-Pointer.offset = to_z-of_z w32 c.in-Pointer.offset (search rules) in
    let number : number_of c.number_in-number.result.ty c.number_in-number.result.word.0 ≡ wrap_number c.args.ty (number_in (datum_of c.args.n)) = c.number_in-number.ensures.number ∙ ap number_in c.as_type.ensures.datum in
    store_done c.args.cells.now.rows.items c.store.new.self.rows.items out (stored arrays (datum_of c.args.p) (wrap_number c.args.ty (number_in (datum_of c.args.n)))) c.store.result
    (λ events rows. c.store.ensures.value arrays events rows
    ∙ ap (λ (o : ℤ). stored arrays (pointer c.in-Pointer.array o) (number_of c.number_in-number.result.ty c.number_in-number.result.word.0) (record { memory = memory_in c.args.cells.now.rows.items; events = events })) offset
    ∙ ap (λ (z : ℤ). stored arrays (pointer c.in-Pointer.array c.in-Pointer.offset) z (record { memory = memory_in c.args.cells.now.rows.items; events = events })) number
    ∙ sym (ap (λ (p : Held). stored arrays (datum_of p) (wrap_number c.args.ty (number_in (datum_of c.args.n))) (record { memory = memory_in c.args.cells.now.rows.items; events = events })) c.in-Pointer.is))
    (c.store.ensures.rows arrays) c.in-Ok.field-0 c.in-Ok.is

pub returns-in-Err-clause-does : goal.returns-in-Err-clause-does
returns-in-Err-clause-does c arrays out =
    let offset : to_z w32 (of_z w32 c.in-Pointer.offset) ≡ c.in-Pointer.offset = to_z-of_z w32 c.in-Pointer.offset (search rules) in
    let number : number_of c.number_in-number.result.ty c.number_in-number.result.word.0 ≡ wrap_number c.args.ty (number_in (datum_of c.args.n)) = c.number_in-number.ensures.number ∙ ap number_in c.as_type.ensures.datum in
    store_stopped c.args.cells.now.rows.items c.store.new.self.rows.items out (stored arrays (datum_of c.args.p) (wrap_number c.args.ty (number_in (datum_of c.args.n)))) c.store.result
    (λ events rows. c.store.ensures.value arrays events rows
    ∙ ap (λ (o : ℤ). stored arrays (pointer c.in-Pointer.array o) (number_of c.number_in-number.result.ty c.number_in-number.result.word.0) (record { memory = memory_in c.args.cells.now.rows.items; events = events })) offset
    ∙ ap (λ (z : ℤ). stored arrays (pointer c.in-Pointer.array c.in-Pointer.offset) z (record { memory = memory_in c.args.cells.now.rows.items; events = events })) number
    ∙ sym (ap (λ (p : Held). stored arrays (datum_of p) (wrap_number c.args.ty (number_in (datum_of c.args.n))) (record { memory = memory_in c.args.cells.now.rows.items; events = events })) c.in-Pointer.is))
    (c.store.ensures.rows arrays) c.in-Err.stop c.in-Err.is
