-- The tables are those of an image.
use Rattle.std.proofs.Common.{ap, ◌∙◌, ◌++◌, ◌∷◌, []}
use Rattle.vk_code.specs.Listing.{listing_of}
use Rattle.vk_one_image.proofs.Valid.{made, made_valid}
use Rattle.vk_one_image.proofs.image.one_image.Goals as goal

pub invariant_of-result : goal.invariant_of-result
invariant_of-result c = record {
  valid = made_valid _ c.args.lanes (listing_of c.args.code)
      (made c.new.result.items c.push-2.new.self.items c.push.new.self.items c.args.lanes c.args.code c.in_ok-entry.entry c.new.ensures.items
      (c.in_ok-push-2.ensures.items ∙ ap (λ l. l ++ c.args.code ∷ []) c.new-codes.ensures.items)
      (c.in_ok-push.ensures.items ∙ ap (λ l. l ++ c.in_ok-entry.entry ∷ []) c.new-entries.ensures.items)
      c.in_ok-entry.ensures)
      c.requires.code c.requires.params c.requires.registers c.requires.instrs c.requires.least c.requires.most;
}
