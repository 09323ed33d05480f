use Rattle.std.proofs.Common.{List, map, subst, sym}
use Rattle.vk_meaning.specs.World.{Array}
use Rattle.vk_rules.specs.Verdicts.{judged}
use Rattle.vk_rules_book.specs.Rules.{Subject}
use Rattle.vk_reading_rows.specs.Numbers.{IsNumbering}
use Rattle.vk_reading_calls.specs.Right.{AreRightIn}
use Rattle.vk_reading_programs.proofs.preparing.name_units.Goals as goal

pub returns : goal.returns
returns c =
    let program = map judged c.args.units.now in
    let numbering = subst (λ (arrays : List Array). IsNumbering arrays c.in_ok-numbers.numbers) c.requires c.in_ok-numbers.ensures in
    record {
      units = c.in_ok-named.ensures.units;
      right = subst (λ (us : List Subject). AreRightIn us c.in_ok-named.named.items) (sym c.in_ok-named.ensures.units) (c.in_ok-named.ensures.right program numbering c.in_ok-places.ensures);
      main = c.of.ensures program c.in_ok-places.ensures;
    }
