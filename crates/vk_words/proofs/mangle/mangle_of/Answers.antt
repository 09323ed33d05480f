use Rattle.std.proofs.Common.{refl, Option}
use Rattle.std.specs.Prelude.{codes}
use Rattle.clap.specs.Words.{Text}
use Rattle.vk_words.specs.Tables.{mangle_table}
use Rattle.vk_words.proofs.Known.{as_table, found_at, held_at, holds_at, is_there}
use Rattle.vk_words.specs.Asked.{IsTarget}
use Rattle.vk_words.proofs.mangle.mangle_of.Goals as goal

pub needed-requires : goal.needed-requires
needed-requires c = is_there (as_table _ mangle_table _ _ c.in_ok-mangle_command.ensures c.in_ok-matches.ensures.ok) 0 (codes "target") refl

pub needed-requires-2 : goal.needed-requires-2
needed-requires-2 c = is_there (as_table _ mangle_table _ _ c.in_ok-mangle_command.ensures c.in_ok-matches.ensures.ok) 1 (codes "UNIT") refl

pub returns-in_default-clause-unstated : goal.returns-in_default-clause-unstated
returns-in_default-clause-unstated c = λ _.
    let r = as_table _ mangle_table _ _ c.in_ok-mangle_command.ensures c.in_ok-matches.ensures.ok in
    record {
      taken = r.taken;
      target = λ target e. c.in_default.ensures.none refl target (held_at r (codes "target") _ (λ (o : Option Text). IsTarget o target) c.needed.ensures e);
    }

pub returns-clause-found : goal.returns-clause-found
returns-clause-found c =
    let r = as_table _ mangle_table _ _ c.in_ok-mangle_command.ensures c.in_ok-matches.ensures.ok in
    record {
      taken = r.taken;
      target = holds_at r (codes "target") _ (λ (o : Option Text). IsTarget o c.in-Some.target) c.needed.ensures c.in-Some.ensures.found;
      unit = found_at r (codes "UNIT") _ c.needed-2.ensures;
    }
