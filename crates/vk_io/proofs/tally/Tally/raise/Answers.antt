use Rattle.std.proofs.Common.{◌≡◌, List, ℕ, arith, inl}
use Rattle.std.proofs.lemmas.Map.Text.{text_keys}
use Rattle.vk_io.proofs.tally.Tally.raise.Goals as goal

pub returns-in-Some-clause-counts : goal.returns-in-Some-clause-counts
returns-in-Some-clause-counts c = record {
  later = λ q. grind (arith, text_keys);
  others = λ q none. let ne = λ (e : q ≡ c.args.name.now). none (inl e) in grind (arith, text_keys);
}

pub returns-in-Some-clause-others : goal.returns-in-Some-clause-others
returns-in-Some-clause-others c = λ q ne. grind (arith, text_keys)
