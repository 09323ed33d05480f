-- The values so far, and those of the text that is left.
use Rattle.std.proofs.Common.{◌≡◌, ◌++◌, length}
use denote.Text.{Utf8}
use denote.Shadow.{shadow}
use Rattle.vk_arguments.specs.Texts.{values_of}
use Rattle.vk_arguments.specs.Inner.Rows.{AreValues}
use Rattle.vk_arguments.proofs.rows.values_of_text.Given as goal

abbrev pub invariant-loop-part : goal.invariant-loop-part
invariant-loop-part g l = record {
  text : shadow (Utf8 l.rest);
  values : l.found.items ++ values_of (g.V.Values.meaning l.fn.values) l.ty l.rest ≡ values_of (g.V.Values.meaning l.fn.values) l.ty l.text;
  typed : AreValues (g.V.Values.arrays l.fn.values) l.ty l.found.items;
}

abbrev pub decreases-loop-part : goal.decreases-loop-part
decreases-loop-part g l = length l.rest
