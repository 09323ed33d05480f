use Rattle.std.proofs.Common.{◌∙◌, ◌≡◌, sym, ap, List, Option, [], map, rules, ℕ, ◌++◌}
use Rattle.std.specs.Prelude.{unwrap_or}
use Rattle.clap.specs.Words.{Text, found_of}
use Rattle.clap.proofs.WalkLemmas.{raw_values-rows}
use Rattle.vk_words.proofs.getters.listed.Goals as goal

pub returns-in_ok-extend_from_slice-in-Some : goal.returns-in_ok-extend_from_slice-in-Some
returns-in_ok-extend_from_slice-in-Some c =
    let given = ap (λ (o : Option (List Text)). unwrap_or o []) (sym (raw_values-rows (found_of c.args.matches.now) c.args.id.now) ∙ sym c.in-Some.ensures) in
    given ∙ ap (map (λ s. s.now)) (sym ((c.in_ok-extend_from_slice-in-Some).ensures.items ∙ ap (λ l. l ++ c.in-Some.texts.now) c.new-all.ensures.items))

pub returns-in-None : goal.returns-in-None
returns-in-None c =
    let given = ap (λ (o : Option (List Text)). unwrap_or o []) (sym (raw_values-rows (found_of c.args.matches.now) c.args.id.now) ∙ sym c.in-None.ensures) in
    given ∙ search rules
