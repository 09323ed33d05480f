use Rattle.std.proofs.Common.{◌≡◌, refl, inl, inr, Option}
use Rattle.std.specs.Prelude.{codes}
use Rattle.clap.specs.Words.{Text}
use Rattle.vk_words.specs.Asked.{IsIsa, IsTurns}
use Rattle.vk_words.proofs.Known.{as_table, found_at, held_at, holds_at, is_there, listed_at}
use Rattle.vk_words_units.specs.Lanes.{lanes_table}
use Rattle.vk_words_units.proofs.lanes.lanes_of.Goals as goal

pub needed-requires : goal.needed-requires
needed-requires c = is_there (as_table _ lanes_table _ _ c.in_ok-lanes_command.ensures c.in_ok-matches.ensures.ok) 0 (codes "isa") refl

pub needed-requires-2 : goal.needed-requires-2
needed-requires-2 c = is_there (as_table _ lanes_table _ _ c.in_ok-lanes_command.ensures c.in_ok-matches.ensures.ok) 1 (codes "UNIT") refl

pub needed-requires-3 : goal.needed-requires-3
needed-requires-3 c = is_there (as_table _ lanes_table _ _ c.in_ok-lanes_command.ensures c.in_ok-matches.ensures.ok) 2 (codes "NAME") refl

pub returns-in_default-clause-unstated : goal.returns-in_default-clause-unstated
returns-in_default-clause-unstated c = λ _.
    let r = as_table _ lanes_table _ _ c.in_ok-lanes_command.ensures c.in_ok-matches.ensures.ok in
    record {
      taken = r.taken;
      value = inl (λ isa e. c.in_default.ensures.none refl isa (held_at r (codes "isa") _ (λ (o : Option Text). IsIsa o isa) c.needed.ensures e));
    }

pub returns-in_default-turns_of-clause-unstated : goal.returns-in_default-turns_of-clause-unstated
returns-in_default-turns_of-clause-unstated c = λ _.
    let r = as_table _ lanes_table _ _ c.in_ok-lanes_command.ensures c.in_ok-matches.ensures.ok in
    record {
      taken = r.taken;
      value = inr (λ n e. c.in_default-turns_of.ensures.none refl n (held_at r (codes "turns") _ (λ (o : Option Text). IsTurns o n) c.optional.ensures e));
    }

pub returns-clause-found : goal.returns-clause-found
returns-clause-found c =
    let r = as_table _ lanes_table _ _ c.in_ok-lanes_command.ensures c.in_ok-matches.ensures.ok in
    record {
      taken = r.taken;
      isa = holds_at r (codes "isa") _ (λ (o : Option Text). IsIsa o c.in-Some.isa) c.needed.ensures c.in-Some.ensures.found.0;
      fixed = c.in-Some.ensures.found.1;
      unit = found_at r (codes "UNIT") _ c.needed-2.ensures;
      name = found_at r (codes "NAME") _ c.needed-3.ensures;
      arguments = listed_at r (codes "ARG") _ c.in_ok-arguments.ensures;
      mask = found_at r (codes "mask") _ c.optional-2.ensures;
      turns = holds_at r (codes "turns") _ (λ (o : Option Text). IsTurns o c.in-Some-turns_of.turns) c.optional.ensures c.in-Some-turns_of.ensures.found;
    }
