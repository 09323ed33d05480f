-- The number is one of the type, and its word the one with that number.
use Rattle.std.proofs.Common.{◌≡◌, ◌∙◌, Some, ap, rules, sym}
use Rattle.std.specs.Option.{option_map}
use Rattle.std.proofs.lemmas.Int.{to_z-of_z}
use mir.Syntax.{w128}
use Rattle.vk_types.specs.Numbers.{IsInRange, number_of, word_of, wrap_number}
use Rattle.vk_numbers.proofs.Numbers.{word_of-number, wrap_keeps}
use Rattle.vk_arguments.specs.Integers.{integer_of_text, number_in, word_of_number}
use Rattle.vk_arguments.proofs.Numerals.{number_in_range}
use Rattle.vk_arguments.proofs.values.word_in.Goals as goal

pub returns-in-Some-clause-word : goal.returns-in-Some-clause-word
returns-in-Some-clause-word c =
    let got : number_in c.args.ty c.args.text.now ≡ Some c.in-Some.value = sym c.integer_in.ensures ∙ c.in-Some.is in
    let range : IsInRange c.args.ty c.in-Some.value = number_in_range c.args.ty (integer_of_text c.args.text.now) c.in-Some.value got in
    let number : number_of c.args.ty c.wrap.result.0 ≡ c.in-Some.value =
    c.wrap.ensures.number ∙ ap (wrap_number c.args.ty) (to_z-of_z w128 c.in-Some.value (search rules)) ∙ wrap_keeps c.args.ty c.in-Some.value range in
    let word : c.wrap.result ≡ word_of_number c.in-Some.value =
    ap (λ n. record { 0 = n }) (sym (word_of-number c.args.ty c.wrap.result.0 c.wrap.ensures.canonical) ∙ ap word_of number) in
    ap Some word ∙ sym (ap (option_map word_of_number) got)
