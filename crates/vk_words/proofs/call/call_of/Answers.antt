use Rattle.std.proofs.Common.{◌≡◌, refl, Option}
use Rattle.std.specs.Prelude.{codes}
use Rattle.clap.specs.Words.{Text}
use Rattle.vk_words.specs.Tables.{call_table}
use Rattle.vk_words.specs.Asked.{IsTurns}
use Rattle.vk_words.proofs.Known.{as_table, found_at, holds_at, is_there, listed_at}
use Rattle.vk_words.proofs.call.call_of.Goals as goal

pub needed-requires : goal.needed-requires
needed-requires c = is_there (as_table _ call_table _ _ c.in_ok-call_command.ensures c.in_ok-matches.ensures.ok) 2 (codes "IMG") refl

pub needed-requires-2 : goal.needed-requires-2
needed-requires-2 c = is_there (as_table _ call_table _ _ c.in_ok-call_command.ensures c.in_ok-matches.ensures.ok) 3 (codes "NAME") refl

pub returns-clause-found : goal.returns-clause-found
returns-clause-found c =
    let r = as_table _ call_table _ _ c.in_ok-call_command.ensures c.in_ok-matches.ensures.ok in
    record {
      taken = r.taken;
      image = found_at r (codes "IMG") _ c.needed.ensures;
      name = found_at r (codes "NAME") _ c.needed-2.ensures;
      arguments = listed_at r (codes "ARG") _ c.in_ok-arguments.ensures;
      mask = found_at r (codes "mask") _ c.optional-2.ensures;
      turns = holds_at r (codes "turns") _ (λ (o : Option Text). IsTurns o c.in-Some.turns) c.optional.ensures c.in-Some.ensures.found;
    }
