use Rattle.std.proofs.Common.{◌<◌, length, arith, refl, rules, sym, ◌∙◌, subst}
use Rattle.std.proofs.lemmas.Option.{slice_get_read}
use Rattle.vk_steps.specs.Places.{listing}
use Rattle.vk_calls.specs.Fetched.{IsFetched}
use Rattle.vk_calls.proofs.Parts.{sorted_is}
use Rattle.vk_calls.proofs.fetch.fetch.Goals as goal

pub returns : goal.returns
returns c =
    let is = (listing c.args.place.now).routine.instrs in
    let inside : c.args.at < length is = omega (arith, c.requires.part.inside, c.requires.some) in
    let got = slice_get_read is (length is) c.args.at c.index.result.now refl inside (search rules) in
    subst (IsFetched c.args.place.now c.args.at c.args.left) (sym c.sort.ensures)
    (sorted_is c.args.place.now c.args.at c.args.left c.index.result.now c.in-Some.operation c.requires.part c.requires.some got (sym c.operation.ensures ∙ c.in-Some.is))
