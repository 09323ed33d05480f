use Rattle.std.proofs.Common.{sym, ◌∙◌}
use Rattle.vk_code_format.specs.Fields.{or_else}
use Rattle.vk_image_faults.specs.declared.entries.EntryCheck.TheVariants as checks
use Rattle.vk_image_faults.specs.Inner.Told.{among, link_faults}
use Rattle.vk_image_faults.proofs.Rules.{goes_on, stops_first}
use Rattle.vk_image_faults.proofs.ends.entries_fault.Goals as goal

pub returns-then-is_some : goal.returns-then-is_some
returns-then-is_some c =
    let i = c.args.image.now in
    let end = c.args.end in
    stops_first c.in_ok-kinds.kinds (among checks.Kind i) (or_else (among checks.Params i) (link_faults i end)) c.in_ok-kinds.ensures (sym c.is_some.ensures ∙ c.if-is_some.true)

pub returns-then-is_some-2 : goal.returns-then-is_some-2
returns-then-is_some-2 c =
    let i = c.args.image.now in
    let end = c.args.end in
    stops_first c.in_ok-params.params (among checks.Params i) (link_faults i end) c.in_ok-params.ensures (sym c.is_some-2.ensures ∙ c.if-is_some-2.true)
    ∙ goes_on c.in_ok-kinds.kinds (among checks.Kind i) (or_else (among checks.Params i) (link_faults i end)) c.in_ok-kinds.ensures (sym c.is_some.ensures ∙ c.if-is_some.false)
