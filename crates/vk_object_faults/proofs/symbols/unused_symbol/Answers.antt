use Rattle.std.proofs.Common.{◌≡◌, ◌==◌, ◌<◌, ◌+◌, ℕ, false, List, [], length, get_or, Some, refl, ap, sym, ◌∙◌, arith}
use Rattle.std.specs.Prelude.{slice_index}
use Rattle.vk_object_format.specs.Object.{symbol_length, symbols_at}
use Rattle.vk_object_faults.specs.Inner.Told.{place_told, unused}
use Rattle.vk_object_faults.proofs.Along.{place_of_member, stops}
use Rattle.vk_object_faults.proofs.Uses.{unused_some}
use Rattle.vk_object_faults.proofs.symbols.unused_symbol.Goals as goal

pub returns-then-not-is_once : goal.returns-then-not-is_once
returns-then-not-is_once c =
    let xs = c.args.symbols.now in
    let uses = c.args.uses.now in
    let i = c.loop-at.at in
    let x : List ℕ = get_or xs i [] in
    let inside : i < length xs = omega (arith, c.loop-at-test.true) in
    let place = place_of_member symbol_length (unused uses) xs 0 symbols_at i in
    let other : (slice_index uses i == 1) ≡ false = sym c.is_once.ensures ∙ c.if-not-is_once.true in
    stops symbol_length (unused uses) xs 0 symbols_at i c.loop-at.place x [] (Some c.loop-at.place) inside refl c.loop-at.invariant
    (ap (λ k. Some k) c.loop-at.invariant.here ∙ ap place_told (sym (unused_some uses i place x other))) refl
