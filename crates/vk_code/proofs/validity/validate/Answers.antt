use Rattle.vk_code.specs.Listing.{listing_of}
use Rattle.vk_code.specs.Valid.{environment_of, verdicts}
use Rattle.vk_code.proofs.Sections.{is_ok_where}
use Rattle.vk_code.proofs.validity.validate.Goals as goal

pub returns-clause-valid : goal.returns-clause-valid
returns-clause-valid c = is_ok_where (verdicts (environment_of c.args.env.now) (listing_of c.args.code.now)) c.first_fault.result c.first_fault.ensures
