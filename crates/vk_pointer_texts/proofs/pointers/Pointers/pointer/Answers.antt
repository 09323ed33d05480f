-- The array is there, and the offset has 32 bits.
use Rattle.std.proofs.Common.{◌≡◌, ◌<◌, ◌^◌, ◌∙◌, length, rules, subst, sym, IfSome, Option, Some, arith}
use Rattle.std.proofs.lemmas.Grind.{common_steps}
use mir.Syntax.{w32}
use mir.Val.{SFits}
use Rattle.vk_types.specs.declared.types.Word.{Word}
use Rattle.vk_kinds.specs.declared.heads.CType.TheVariants.{Ptr}
use Rattle.vk_arguments.specs.Typed.{IsValue}
use Rattle.vk_pointer_texts.specs.Heads.{arrays_of}
use Rattle.vk_pointer_texts.specs.Texts.{place_of}
use Rattle.vk_pointer_texts.specs.Values.{number_of_array, pointer_value}
use Rattle.vk_pointer_texts.proofs.Pointing.{pointer_typed}
use Rattle.vk_pointer_texts.proofs.pointers.Pointers.pointer.Goals as goal

pub returns-clause-typed : goal.returns-clause-typed
returns-clause-typed c =
    let arrays = arrays_of c.args.self.now.heads.now in
    let number = c.in-Some-number_of.number in
    let inside : number < length arrays = search rules in
    let small : number < 2 ^ 32 = search rules in
    let fits : SFits w32 c.in-Some.offset = search rules in
    let there : number_of_array arrays (place_of c.args.text.now).name ≡ Some number = search rules in
    let offset : (place_of c.args.text.now).offset ≡ Some c.in-Some.offset = sym c.place_of-place.ensures.offset ∙ c.in-Some.is in
    let word : c.word_to.result ≡ pointer_value arrays (Ptr c.args.to c.args.written) c.args.text.now = grind (arith, common_steps) in
    subst (λ (o : Option Word). IfSome o (IsValue arrays (Ptr c.args.to c.args.written))) (sym word)
    (pointer_typed arrays c.args.to c.args.written (number_of_array arrays (place_of c.args.text.now).name) (place_of c.args.text.now).offset number c.in-Some.offset there offset inside small fits)
