use Rattle.std.proofs.Common.{◌≡◌, ◌++◌, ◌∷◌, [], map, unwrap_or, ◌∙◌}
use Rattle.std.proofs.lemmas.Result.{IfOk-weaker}
use Rattle.vk_meaning.specs.Programs.{array_number}
use Rattle.vk_reading_rows.specs.Inner.Noted.{noted}
use Rattle.vk_reading_rows.proofs.Numbering.{numbers_are}
use Rattle.vk_reading_rows.proofs.numbers.ArrayNumbers.of_names.Goals as goal

pub returns : goal.returns
returns c arrays is =
    let names = c.args.names.now ++ [] ∷ [] in
    IfOk-weaker c.each_name.result (λ list. list.items ≡ map (λ t. unwrap_or (noted c.args.self.now.by_text t) c.args.self.now.count) names) (λ list. list.items ≡ map (array_number arrays) names)
    (λ list e. e ∙ numbers_are arrays c.args.self.now is names) c.each_name.ensures
