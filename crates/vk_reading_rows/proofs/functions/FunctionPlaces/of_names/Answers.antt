use Rattle.std.proofs.Common.{◌≡◌, ◌++◌, ◌∷◌, [], None, map, unwrap_or, ◌∙◌}
use Rattle.std.proofs.lemmas.Result.{IfOk-weaker}
use Rattle.vk_reading_rows.specs.Functions.{place_of}
use Rattle.vk_reading_rows.specs.Inner.Noted.{noted}
use Rattle.vk_reading_rows.proofs.Defining.{places_are}
use Rattle.vk_reading_rows.proofs.functions.FunctionPlaces.of_names.Goals as goal

pub returns : goal.returns
returns c units is =
    let names = c.args.names.now ++ [] ∷ [] in
    IfOk-weaker c.each_name.result (λ list. list.items ≡ map (λ t. unwrap_or (noted c.args.self.now.by_text t) None) names) (λ list. list.items ≡ map (place_of units) names)
    (λ list e. e ∙ places_are units (λ t. unwrap_or (noted c.args.self.now.by_text t) None) is names) c.each_name.ensures
