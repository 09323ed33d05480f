use Rattle.std.proofs.Common.{◌≡◌, ◌∙◌, ◌≤◌, ℕ, List, true, arith, ap, rules, sym, subst, drop, take, length}
use Rattle.std.proofs.lemmas.List.{take_all}
use Rattle.vk_kinds.specs.declared.kinds.Length.{Length}
use Rattle.vk_names.specs.Spelling.{Name, Spells, is_name_byte, text_of as word_of}
use Rattle.vk_rules.specs.Verdicts.{judged}
use Rattle.vk_selection.specs.Inner.{IsFound}
use Rattle.vk_selection.specs.Letters.{uses}
use Rattle.vk_selection.proofs.Lists.{whole_front}
use Rattle.vk_selection.proofs.Vectors.{parts, scalable_front, vector_found}
use Rattle.vk_selection.proofs.selection.vector_in.Goals as goal

pub variant_of-requires-clause-scalable : goal.variant_of-requires-clause-scalable
variant_of-requires-clause-scalable c = λ e. scalable_front _ c.in-Ok.ensures.spelled.fits.front e

pub returns : goal.returns
returns c =
    let unit = judged c.args.unit.now in
    let bytes : List ℕ = c.args.name.now in
    let params = c.in-Ok.read.head.params.items in
    let front : Length = record { isa = c.in-Ok.read.head.isa; masked = c.in-Ok.read.head.masked; len = c.in-Ok.read.head.len } in
    let long : length bytes ≤ length (word_of bytes) = omega (arith, c.in-Ok.ensures.used, c.if-read-name.false) in
    let whole : word_of bytes ≡ bytes = whole_front is_name_byte bytes long in
    let all : take c.in-Ok.read.used bytes ≡ bytes = take_all c.in-Ok.read.used bytes (omega (arith, c.in-Ok.ensures.used, long)) in
    let scalar : c.split_at.result.1.now ≡ drop c.in-Ok.read.scalar_at (take c.in-Ok.read.used bytes) = c.split_at.ensures.back ∙ ap (drop c.in-Ok.read.scalar_at) (sym all) in
    let spells : Spells (parts c.split_at.result.1.now params front) bytes = subst (λ s. Spells (parts s params front) bytes) (sym scalar) c.in-Ok.ensures.spelled in
    let used : uses c.args.isa front.isa ≡ true = search rules in
    vector_found unit c.args.isa c.args.vl bytes c.split_at.result.1.now params front c.variant_of.result spells whole used
    (λ (n : Name) is. ap (λ s. parts s params front) scalar ∙ c.in-Ok.ensures.every_name n is)
    (subst (λ ps. IsFound unit c.split_at.result.1.now ps front c.args.vl c.variant_of.result) c.as_slice.ensures.value c.variant_of.ensures)
