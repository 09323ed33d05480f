use Rattle.std.proofs.Common.{refl, inl, inr, Option}
use Rattle.std.specs.Prelude.{codes}
use Rattle.clap.specs.Words.{Text}
use Rattle.vk_words.specs.Tables.{gen_table}
use Rattle.vk_words.specs.Asked.{IsIsa, IsVl}
use Rattle.vk_words.proofs.Known.{as_table, held_at, holds_at, is_there}
use Rattle.vk_words_units.specs.Asked.{IsFunctions}
use Rattle.vk_words_units.proofs.generator.gen_of.Goals as goal

pub needed-requires : goal.needed-requires
needed-requires c = is_there (as_table _ gen_table _ _ c.in_ok-gen_command.ensures c.in_ok-matches.ensures.ok) 0 (codes "isa") refl

pub needed-requires-2 : goal.needed-requires-2
needed-requires-2 c = is_there (as_table _ gen_table _ _ c.in_ok-gen_command.ensures c.in_ok-matches.ensures.ok) 2 (codes "N") refl

pub returns-in_default-vl_of-clause-unstated : goal.returns-in_default-vl_of-clause-unstated
returns-in_default-vl_of-clause-unstated c = λ _.
    let r = as_table _ gen_table _ _ c.in_ok-gen_command.ensures c.in_ok-matches.ensures.ok in
    record {
      taken = r.taken;
      value = inr (inl (λ vl e. c.in_default-vl_of.ensures.none refl vl (held_at r (codes "vl") _ (λ (o : Option Text). IsVl o vl) c.optional.ensures e)));
    }

pub returns-in_default-functions_of-clause-unstated : goal.returns-in_default-functions_of-clause-unstated
returns-in_default-functions_of-clause-unstated c = λ _.
    let r = as_table _ gen_table _ _ c.in_ok-gen_command.ensures c.in_ok-matches.ensures.ok in
    record {
      taken = r.taken;
      value = inr (inr (λ n e. c.in_default-functions_of.ensures.none refl n (held_at r (codes "N") _ (λ (o : Option Text). IsFunctions o n) c.needed-2.ensures e)));
    }

pub returns-clause-found : goal.returns-clause-found
returns-clause-found c =
    let r = as_table _ gen_table _ _ c.in_ok-gen_command.ensures c.in_ok-matches.ensures.ok in
    record {
      taken = r.taken;
      isa = holds_at r (codes "isa") _ (λ (o : Option Text). IsIsa o c.in-Some.isa) c.needed.ensures c.in-Some.ensures.found;
      vl = holds_at r (codes "vl") _ (λ (o : Option Text). IsVl o c.in-Some-vl_of.vl) c.optional.ensures c.in-Some-vl_of.ensures.found;
      functions = holds_at r (codes "N") _ (λ (o : Option Text). IsFunctions o c.in-Some-functions_of.functions) c.needed-2.ensures c.in-Some-functions_of.ensures.found;
    }
