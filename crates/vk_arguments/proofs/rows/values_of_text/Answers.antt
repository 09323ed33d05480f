-- One more value, and the last one.
use Rattle.std.proofs.Common.{arith}
use Rattle.std.proofs.lemmas.Str.Pattern.{split_parts}
use Rattle.vk_arguments.proofs.Parts.{text_after, values_cut, values_more, values_one}
use Rattle.vk_arguments.proofs.rows.values_of_text.Goals as goal

pub loop-part-preserved : goal.loop-part-preserved
loop-part-preserved g c =
    let whole = split_parts 44 c.loop-part.rest.now c.split_once.result c.split_once.ensures.cases (omega arith) in
    let cut = rw c.in-Some.is at whole in record {
      text = text_after c.loop-part.rest.now c.in-Some.part.now c.in-Some.after.now c.loop-part.invariant.text cut.0;
      values = rw (c.in_ok-push.ensures.items, c.word.ensures.word)
          (values_cut (g.V.Values.meaning c.args.values.now) c.args.ty c.loop-part.found.items c.args.text.now c.loop-part.rest.now c.in-Some.part.now c.in-Some.after.now c.loop-part.invariant.values cut.0 cut.1);
      typed = rw c.in_ok-push.ensures.items (values_more (g.V.Values.arrays c.args.values.now) c.args.ty c.loop-part.found.items c.word.result c.loop-part.invariant.typed c.word.ensures.typed);
    }

pub returns-clause-values : goal.returns-clause-values
returns-clause-values g c =
    let whole = split_parts 44 c.loop-part.rest.now c.split_once.result c.split_once.ensures.cases (omega arith) in
    let alone = rw c.in_default.is at whole in
    rw (c.in_ok-push-2.ensures.items, c.word-2.ensures.word)
    (values_one (g.V.Values.meaning c.args.values.now) c.args.ty c.loop-part.found.items c.args.text.now c.loop-part.rest.now c.loop-part.invariant.values alone)
