use Rattle.std.proofs.Common.{◌≡◌, ◌<◌, ◌^◌, rules, subst, sym, true}
use Rattle.vk_types.specs.Numbers.{IsCanonical}
use Rattle.vk_code.specs.Valid.{is_canonical}
use Rattle.vk_access.proofs.Words.{canonical_from}
use Rattle.vk_access.proofs.store.read_typed.Goals as goal

pub returns-clause-canonical : goal.returns-clause-canonical
returns-clause-canonical c =
    let i = c.requires.inside in
    let small : c.read.result.0 < 2 ^ 64 = search rules in
    subst (λ t. IsCanonical t c.read.result.0) (sym i.type)
    (canonical_from i.extent.ty c.read.result.0 small (subst (λ w. is_canonical i.extent.ty w ≡ true) (sym c.read.ensures) (c.requires.store.words c.args.cell.array c.args.cell.index i.extent i.found)))
