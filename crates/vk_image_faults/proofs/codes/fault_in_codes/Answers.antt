use Rattle.std.proofs.Common.{◌≡◌, ◌+◌, ◌<◌, false, length, ap, sym, ◌∙◌, arith}
use Rattle.std.specs.Prelude.{is_some}
use Rattle.std.specs.List.{list_any}
use Rattle.vk_code_read.specs.Inner.Left.{place_of}
use Rattle.vk_code_rows.specs.Sums.{capped}
use Rattle.vk_image_format.specs.Image.{asks_for}
use Rattle.vk_image_format.specs.Values.{tables_of}
use Rattle.vk_object_faults.proofs.Along.{goes, none_by, place_of_member, same_item, sum_told}
use Rattle.vk_image_faults.specs.Inner.Told.{code_size, fault_in_code}
use Rattle.vk_image_faults.proofs.codes.fault_in_codes.Goals as goal

pub loop-k-preserved : goal.loop-k-preserved
loop-k-preserved c = λ i p knows asked at.
    let xs = c.args.rows.now in
    let k = c.loop-k.k in
    let here = place_of c.args.place in
    let g = c.loop-k.invariant i p knows asked at in
    let x = c.index-rows-k.result in
    let inside : k < length xs = omega (arith, c.loop-k-test.true) in
    let place = place_of_member (code_size here) (fault_in_code i here) xs 0 p k in
    let number : 0 + k ≡ k = omega arith in
    let is_asked : c.is_asked.result ≡ list_any (asks_for (tables_of i) (0 + k)) (tables_of i).entries =
    c.is_asked.ensures ∙ asked k inside ∙ ap (λ n. list_any (asks_for (tables_of i) n) (tables_of i).entries) (sym number) in
    let none : is_some c.in_ok-told.told ≡ false = sym c.is_some.ensures ∙ c.if-is_some.false in
    let same = same_item xs k c.index-rows-k-in-loop-k.result x inside c.index-rows-k-in-loop-k.is c.index-rows-k.is in
    let length_told : c.code_size.result ≡ capped (code_size here x) = c.code_size.ensures ∙ ap (λ y. capped (code_size here y)) same in
    goes (code_size here) (fault_in_code i here) xs 0 p k c.loop-k.here x x inside c.index-rows-k.is g
    (none_by (fault_in_code i here (0 + k) place x) c.in_ok-told.told (c.in_ok-told.ensures i (0 + k) place knows is_asked g.here) none)
    c.saturating_add-here.result (sum_told c.loop-k.here c.code_size.result c.saturating_add-here.result place (code_size here x) g.here length_told c.saturating_add-here.ensures)
