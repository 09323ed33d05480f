use Rattle.std.proofs.Common.{◌∙◌, sym}
use Rattle.std.proofs.lemmas.List.{length-map}
use Rattle.vk_object.specs.Tables.{entry_list_of}
use Rattle.vk_steps.specs.Places.{image_tables}
use Rattle.vk_fresh.proofs.Rounds.{row_greatest}
use Rattle.vk_fresh.proofs.room.longest.Goals as goal

pub returns : goal.returns
returns c =
    c.greatest.ensures
    ∙ row_greatest (image_tables c.args.image.now) c.args.row.now c.args.image.now.valid c.requires.round (c.requires.length ∙ sym (length-map c.args.image.now.entries.items entry_list_of))
