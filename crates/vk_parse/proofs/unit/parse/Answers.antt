use Rattle.std.proofs.Common.{◌≡◌, subst, sym, ◌∙◌}
use Rattle.vk_unit_rules.specs.declared.rules.UnitFail.TheVariants.{Fault}
use Rattle.vk_parse.specs.Inner.Answers.{IsAnswer}
use Rattle.vk_parse.proofs.Facts.{known_are, every_in, fault_in, left_in, never_in}
use Rattle.vk_parse.proofs.unit.parse.Goals as goal

pub returns-in-Ok-clause-found : goal.returns-in-Ok-clause-found
returns-in-Ok-clause-found c =
    let names = c.args.tokens.now.names in
    let ts = c.args.tokens.now.list.items in
    let told = c.items.ensures names ts (c.deref.ensures.value ∙ c.in_ok-syms.ensures.outside) (known_are names ts c.in_ok-syms.syms c.in_ok-syms.ensures.count c.in_ok-syms.ensures.clauses) in
    subst (IsAnswer names ts) c.in-Ok.is told

pub returns-in-Ok-clause-every : goal.returns-in-Ok-clause-every
returns-in-Ok-clause-every c =
    let names = c.args.tokens.now.names in
    let ts = c.args.tokens.now.list.items in
    let told = c.items.ensures names ts (c.deref.ensures.value ∙ c.in_ok-syms.ensures.outside) (known_are names ts c.in_ok-syms.syms c.in_ok-syms.ensures.count c.in_ok-syms.ensures.clauses) in
    λ items h p within words. every_in names ts c.in-Ok.items (subst (IsAnswer names ts) c.in-Ok.is told) items h p

pub told-requires : goal.told-requires
told-requires c =
    let names = c.args.tokens.now.names in
    let ts = c.args.tokens.now.list.items in
    let told = c.items.ensures names ts (c.deref.ensures.value ∙ c.in_ok-syms.ensures.outside) (known_are names ts c.in_ok-syms.syms c.in_ok-syms.ensures.count c.in_ok-syms.ensures.clauses) in
    left_in names ts c.deref-in-Err.result.now (c.deref-in-Err.ensures.value ∙ c.in_ok-syms.ensures.outside) c.in-Err.miss (subst (IsAnswer names ts) c.in-Err.is told)

pub returns-clause-every : goal.returns-clause-every
returns-clause-every c =
    let names = c.args.tokens.now.names in
    let ts = c.args.tokens.now.list.items in
    let told = c.items.ensures names ts (c.deref.ensures.value ∙ c.in_ok-syms.ensures.outside) (known_are names ts c.in_ok-syms.syms c.in_ok-syms.ensures.count c.in_ok-syms.ensures.clauses) in
    λ items h p within words. c.told.ensures ∙ never_in names ts c.args.tokens.now.last c.deref-in-Err.result.now c.in-Err.miss (subst (IsAnswer names ts) c.in-Err.is told) items h p within words

pub returns-clause-fault : goal.returns-clause-fault
returns-clause-fault c =
    let names = c.args.tokens.now.names in
    let ts = c.args.tokens.now.list.items in
    let told = c.items.ensures names ts (c.deref.ensures.value ∙ c.in_ok-syms.ensures.outside) (known_are names ts c.in_ok-syms.syms c.in_ok-syms.ensures.count c.in_ok-syms.ensures.clauses) in
    λ line rule e.
    let same : c.told.result ≡ Fault line rule = cc in
    fault_in names ts c.args.tokens.now.last c.deref-in-Err.result.now (c.deref-in-Err.ensures.value ∙ c.in_ok-syms.ensures.outside) c.in-Err.miss (subst (IsAnswer names ts) c.in-Err.is told) line rule (sym c.told.ensures ∙ same)
