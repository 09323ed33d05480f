use Rattle.std.proofs.Common.{◌≡◌, ◌+◌, ◌<◌, false, true, length, ap, sym, ◌∙◌, arith}
use Rattle.std.specs.Prelude.{is_some}
use Rattle.vk_code_rows.specs.Sums.{capped}
use Rattle.vk_object_faults.proofs.Along.{goes, none_by, place_of_member, same_item, stops, sum_told}
use Rattle.vk_image_faults.specs.Inner.Told.{entry_size, fault_in_entry}
use Rattle.vk_image_faults.proofs.entries.fault_in_entries.Goals as goal

pub loop-k-preserved : goal.loop-k-preserved
loop-k-preserved c = λ p at.
    let xs = c.args.entries.now in
    let k = c.loop-k.k in
    let faults = fault_in_entry c.args.check c.args.image.now in
    let g = c.loop-k.invariant p at in
    let x = c.index-entries-k.result in
    let inside : k < length xs = omega (arith, c.loop-k-test.true) in
    let place = place_of_member entry_size faults xs 0 p k in
    let none : is_some c.in_ok-told.told ≡ false = sym c.is_some.ensures ∙ c.if-is_some.false in
    let same = same_item xs k c.index-entries-k-in-loop-k.result x inside c.index-entries-k-in-loop-k.is c.index-entries-k.is in
    let length_told : c.entry_size.result ≡ capped (entry_size x) = c.entry_size.ensures ∙ ap (λ y. capped (entry_size y)) same in
    goes entry_size faults xs 0 p k c.loop-k.place x x inside c.index-entries-k.is g
    (none_by (faults (0 + k) place x) c.in_ok-told.told (c.in_ok-told.ensures (0 + k) place g.here) none)
    c.saturating_add-place.result (sum_told c.loop-k.place c.entry_size.result c.saturating_add-place.result place (entry_size x) g.here length_told c.saturating_add-place.ensures)

pub returns-then-is_some : goal.returns-then-is_some
returns-then-is_some c = λ p at.
    let xs = c.args.entries.now in
    let k = c.loop-k.k in
    let faults = fault_in_entry c.args.check c.args.image.now in
    let g = c.loop-k.invariant p at in
    let x = c.index-entries-k.result in
    let inside : k < length xs = omega (arith, c.loop-k-test.true) in
    let some : is_some c.in_ok-told.told ≡ true = sym c.is_some.ensures ∙ c.if-is_some.true in
    stops entry_size faults xs 0 p k c.loop-k.place x x c.in_ok-told.told inside c.index-entries-k.is g (c.in_ok-told.ensures (0 + k) (place_of_member entry_size faults xs 0 p k) g.here) some
