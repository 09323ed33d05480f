use Rattle.std.proofs.Common.{◌≡◌, None, sym, ◌∙◌}
use Rattle.std.proofs.lemmas.Result.{IfOk-weaker}
use Rattle.vk_code.specs.Listing.{listing_of as code_listing}
use Rattle.vk_code.specs.Tests.{first_bad}
use Rattle.vk_code_format.specs.Values.{listing_of}
use Rattle.vk_code_rows.specs.Made.{made_listing, near_verdicts}
use Rattle.vk_code_rows.proofs.SameFault.{near_listing}
use Rattle.vk_code_rows.proofs.faults.exact_code_of.Goals as goal

pub returns-in-None : goal.returns-in-None
returns-in-None c =
    let row = c.args.row.now in
    let none : first_bad (near_verdicts row) ≡ None = sym c.in-None.ensures in
    IfOk-weaker c.code_of.result (λ code. code_listing code ≡ made_listing row) (λ code. code_listing code ≡ listing_of row) (λ code e. e ∙ near_listing row none) c.code_of.ensures
