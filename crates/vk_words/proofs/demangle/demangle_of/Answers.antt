use Rattle.std.proofs.Common.{refl}
use Rattle.std.specs.Prelude.{codes}
use Rattle.vk_words.specs.Tables.{demangle_table}
use Rattle.vk_words.proofs.Known.{as_table, found_at, is_there}
use Rattle.vk_words.proofs.demangle.demangle_of.Goals as goal

pub needed-requires : goal.needed-requires
needed-requires c = is_there (as_table _ demangle_table _ _ c.in_ok-demangle_command.ensures c.in_ok-matches.ensures.ok) 0 (codes "FILE") refl

pub returns-clause-found : goal.returns-clause-found
returns-clause-found c =
    let r = as_table _ demangle_table _ _ c.in_ok-demangle_command.ensures c.in_ok-matches.ensures.ok in
    record { taken = r.taken; file = found_at r (codes "FILE") _ c.needed.ensures }
