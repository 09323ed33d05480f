use Rattle.std.proofs.Common.{ap, ◌∙◌, unwrap_or, None, Option}
use Rattle.vk_reading_rows.specs.Objects.{subjects_of}
use Rattle.vk_reading_rows.specs.declared.functions.FunctionPlace.{FunctionPlace}
use Rattle.vk_reading_rows.specs.Functions.{place_of}
use Rattle.vk_reading_rows.proofs.Defining.{place_back}
use Rattle.vk_reading_rows.proofs.functions.function_places.Goals as goal

pub returns : goal.returns
returns c = λ text.
    ap (λ (o : Option (Option FunctionPlace)). unwrap_or o None) (c.in_ok-by_text.ensures text) ∙ place_back (place_of (subjects_of c.args.units.now) text)
