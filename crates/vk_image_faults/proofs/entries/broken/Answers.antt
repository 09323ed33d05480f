use Rattle.std.proofs.Common.{◌≡◌, ℕ, ap, sym, ◌∙◌}
use Rattle.std.proofs.lemmas.Result.{IfOk-weaker}
use Rattle.vk_code_format.specs.Values.{listing_of}
use Rattle.vk_code_rows.specs.Sums.{capped}
use Rattle.vk_image_format.specs.declared.rows.RawImage.{RawImage}
use Rattle.vk_image_format.specs.Values.{tables_of}
use Rattle.vk_object_faults.specs.Inner.Told.{place_told}
use Rattle.vk_image_faults.specs.declared.entries.EntryCheck.{EntryCheck}
use Rattle.vk_image_faults.specs.declared.entries.EntryCheck.TheVariants as checks
use Rattle.vk_image_faults.specs.Inner.Told.{broken}
use Rattle.vk_image_faults.proofs.entries.broken.Goals as goal

pub returns-in-Kind : goal.returns-in-Kind
returns-in-Kind c = λ p at.
    c.kind_fault.ensures c.args.image.now p at ∙ ap (λ (k : EntryCheck). place_told (broken k (tables_of c.args.image.now) (listing_of c.args.code.now) p c.args.entry.now)) (sym c.in-Kind.is)

pub returns-in-Params : goal.returns-in-Params
returns-in-Params c =
    IfOk-weaker c.params_fault.result
    (λ told. (i : RawImage) (p : ℕ) → c.args.at ≡ capped p → told ≡ place_told (broken checks.Params (tables_of i) (listing_of c.args.code.now) p c.args.entry.now))
    (λ told. (p : ℕ) → c.args.at ≡ capped p → told ≡ place_told (broken c.args.check (tables_of c.args.image.now) (listing_of c.args.code.now) p c.args.entry.now))
    (λ told h p at. h c.args.image.now p at ∙ ap (λ (k : EntryCheck). place_told (broken k (tables_of c.args.image.now) (listing_of c.args.code.now) p c.args.entry.now)) (sym c.in-Params.is)) c.params_fault.ensures
