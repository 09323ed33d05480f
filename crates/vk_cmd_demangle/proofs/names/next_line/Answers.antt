-- Where the first newline stands.
use Rattle.std.proofs.Common.{◌≡◌, ◌+◌, ◌<◌, arith, rules, tests, sym, ◌∙◌, length, drop, eqb}
use Rattle.std.specs.List.{position}
use Rattle.std.proofs.lemmas.Bool.Decides.{nat_tests}
use Rattle.std.proofs.Math.ListN.{length-drop}
use Rattle.std.proofs.lemmas.Iterator.{YieldsList-from_slice}
use Rattle.std.proofs.lemmas.Iterator.Search.{position_from_yields_List}
use Rattle.std.proofs.lemmas.List.{take_all}
use Rattle.vk_cmd_demangle.proofs.NameLines.{lines_cut, lines_last}
use Rattle.vk_cmd_demangle.proofs.names.next_line.Goals as goal

pub returns-in-Some-clause-line : goal.returns-in-Some-clause-line
returns-in-Some-clause-line c =
    let found : c.position.result ≡ position (λ b. eqb b 10) c.args.rest.now =
    position_from_yields_List (λ b. eqb b 10) _ _ c.position.result c.position.ensures.ran (YieldsList-from_slice c.args.rest.now c.iter.ensures.rest) (λ x b q k. search (rules, tests)) in
    lines_cut c.args.rest.now c.without_return.result.now _ c.in-Some.at (sym found ∙ c.in-Some.is) c.without_return.ensures
    (take_all _ (drop (c.in-Some.at + 1) c.args.rest.now) (omega (arith, length-drop (c.in-Some.at + 1) c.args.rest.now)))

pub returns-in-None-clause-line : goal.returns-in-None-clause-line
returns-in-None-clause-line c =
    let found : c.position.result ≡ position (λ b. eqb b 10) c.args.rest.now =
    position_from_yields_List (λ b. eqb b 10) _ _ c.position.result c.position.ensures.ran (YieldsList-from_slice c.args.rest.now c.iter.ensures.rest) (λ x b q k. search (rules, tests)) in
    let inside : 0 < length c.args.rest.now = grind (arith, nat_tests) in
    lines_last c.args.rest.now (sym found ∙ c.in-None.is) inside
