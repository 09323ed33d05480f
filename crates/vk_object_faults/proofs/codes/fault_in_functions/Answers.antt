use Rattle.std.proofs.Common.{◌≡◌, ◌+◌, ◌<◌, false, length, ap, sym, ◌∙◌, arith}
use Rattle.std.specs.Prelude.{is_some}
use Rattle.vk_code_rows.specs.Sums.{capped}
use Rattle.vk_object_faults.specs.Inner.Told.{fault_in_function, function_size}
use Rattle.vk_object_faults.proofs.Along.{goes, none_by, place_of_member, same_item, sum_told}
use Rattle.vk_object_faults.proofs.codes.fault_in_functions.Goals as goal

pub loop-i-preserved : goal.loop-i-preserved
loop-i-preserved c = λ o e n p at.
    let xs = c.args.functions.now in
    let i = c.loop-i.i in
    let g = c.loop-i.invariant o e n p at in
    let x = c.index-functions-i.result in
    let inside : i < length xs = omega (arith, c.loop-i-test.true) in
    let place = place_of_member function_size (fault_in_function o) xs n p i in
    let none : is_some c.in_ok-told.told ≡ false = sym c.is_some.ensures ∙ c.if-is_some.false in
    let same = same_item xs i c.index-functions-i-in-loop-i.result x inside c.index-functions-i-in-loop-i.is c.index-functions-i.is in
    let length_told : c.function_size.result ≡ capped (function_size x) = c.function_size.ensures ∙ ap (λ y. capped (function_size y)) same in
    goes function_size (fault_in_function o) xs n p i c.loop-i.place x x inside c.index-functions-i.is g
    (none_by (fault_in_function o (n + i) place x) c.in_ok-told.told (c.in_ok-told.ensures o e (n + i) place g.here) none)
    c.saturating_add-place.result (sum_told c.loop-i.place c.function_size.result c.saturating_add-place.result place (function_size x) g.here length_told c.saturating_add-place.ensures)
