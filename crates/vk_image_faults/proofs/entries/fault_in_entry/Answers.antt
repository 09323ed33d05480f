use Rattle.std.proofs.Common.{◌≡◌, ℕ, ◌<◌, List, Some, None, length, ap, sym, ◌∙◌, slice_get, arith}
use Rattle.std.proofs.lemmas.Result.{IfOk-weaker}
use Rattle.vk_code_format.specs.declared.rows.CodeRow.{CodeRow}
use Rattle.vk_code_format.specs.Values.{listing_of}
use Rattle.vk_code_rows.specs.Sums.{capped}
use Rattle.vk_image_format.specs.Values.{tables_of}
use Rattle.vk_object_faults.specs.Inner.Told.{place_told}
use Rattle.vk_image_faults.specs.Inner.Told.{broken, fault_in_entry}
use Rattle.vk_image_faults.proofs.Rules.{by_its_code, found, not_found, without_code}
use Rattle.vk_image_faults.proofs.entries.fault_in_entry.Goals as goal

pub returns-then-number-codes : goal.returns-then-number-codes
returns-then-number-codes c =
    let i = c.args.image.now in
    let e = c.args.entry.now in
    let count = ap length c.as_slice-codes.ensures.items in
    let is : slice_get i.codes e.front.code ≡ None = not_found i.codes e.front.code (omega (arith, count, c.if-number-codes.true)) in
    λ n p at. ap place_told (sym (without_code c.args.check i n p e is))

pub returns : goal.returns
returns c =
    let i = c.args.image.now in
    let e = c.args.entry.now in
    let code = c.index-codes-number.result in
    let inside : e.front.code < length c.as_slice-codes.result.now = omega (arith, c.if-number-codes.false) in
    let is : slice_get i.codes e.front.code ≡ Some code =
    ap (λ (cs : List CodeRow). slice_get cs e.front.code) (sym c.as_slice-codes.ensures.items) ∙ found c.as_slice-codes.result.now e.front.code code inside c.index-codes-number.is in
    IfOk-weaker c.broken.result
    (λ told. (p : ℕ) → c.args.at ≡ capped p → told ≡ place_told (broken c.args.check (tables_of i) (listing_of code) p e))
    (λ told. (n p : ℕ) → c.args.at ≡ capped p → told ≡ place_told (fault_in_entry c.args.check i n p e))
    (λ told h n p at. h p at ∙ ap place_told (sym (by_its_code c.args.check i n p e code is))) c.broken.ensures
