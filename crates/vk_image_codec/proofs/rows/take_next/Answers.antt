use Rattle.vk_image_codec.specs.Rows.{judged, rows_left, rows_width}
use Rattle.vk_image_codec.proofs.rows.take_next.Goals as goal

pub step-requires-clause-width : goal.step-requires-clause-width
unfolding rows_width
step-requires-clause-width c = c.requires.width

pub step-requires-clause-wanted : goal.step-requires-clause-wanted
unfolding rows_width
step-requires-clause-wanted c = c.requires.wanted

pub step-requires-clause-place : goal.step-requires-clause-place
unfolding rows_width
step-requires-clause-place c = c.requires.place

pub returns : goal.returns
unfolding rows_left rows_width
returns c = c.step.ensures judged
