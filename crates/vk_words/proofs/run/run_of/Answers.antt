use Rattle.std.proofs.Common.{◌≡◌, refl, Option}
use Rattle.std.specs.Prelude.{codes}
use Rattle.clap.specs.Words.{Text}
use Rattle.vk_words.specs.Tables.{run_table}
use Rattle.vk_words.specs.Asked.{IsTurns}
use Rattle.vk_words.proofs.Known.{as_table, found_at, holds_at, is_there, used_at}
use Rattle.vk_words.proofs.run.run_of.Goals as goal

pub needed-requires : goal.needed-requires
needed-requires c = is_there (as_table _ run_table _ _ c.in_ok-run_command.ensures c.in_ok-matches.ensures.ok) 2 (codes "IMG") refl

pub returns-clause-found : goal.returns-clause-found
returns-clause-found c =
    let r = as_table _ run_table _ _ c.in_ok-run_command.ensures c.in_ok-matches.ensures.ok in
    record {
      taken = r.taken;
      image = found_at r (codes "IMG") _ c.needed.ensures;
      turns = holds_at r (codes "turns") _ (λ (o : Option Text). IsTurns o c.in-Some.turns) c.optional.ensures c.in-Some.ensures.found;
      stats = used_at r (codes "stats") _ c.has_flag.ensures;
    }
