-- One more lane, and the first lane with no value.
use Rattle.std.proofs.Common.{◌≡◌, Some, ◌∙◌, sym, ap, length, subst, List, ◌∷◌, [], ◌+◌}
use Rattle.std.proofs.Math.ListN.{length-append}
use Rattle.vk_types.specs.declared.types.Word.{Word}
use Rattle.vk_arguments.specs.Texts.{value_of_lane}
use Rattle.vk_arguments.specs.Inner.Rows.{word_at}
use Rattle.vk_arguments.proofs.Appended.{words_more}
use Rattle.vk_arguments.proofs.rows.row_of.Goals as goal

pub loop-lane-preserved : goal.loop-lane-preserved
loop-lane-preserved c =
    let here : value_of_lane c.args.values.now c.loop-lane.lane ≡ Some c.in-Some.word = sym c.value_in_lane.ensures ∙ c.in-Some.is in
    let items = c.in_ok-push-in-Some.ensures.items in
    record {
      size = ap length items ∙ length-append c.loop-lane.row.items (c.in-Some.word ∷ []) ∙ ap (λ n. n + 1) c.loop-lane.invariant.size;
      words = λ j h. subst (λ (ws : List Word). value_of_lane c.args.values.now j ≡ Some (word_at ws j)) (sym items)
          (words_more (λ k w. value_of_lane c.args.values.now k ≡ Some w) c.loop-lane.row.items c.loop-lane.lane c.in-Some.word c.loop-lane.invariant.size
          c.loop-lane.invariant.words here j h);
    }
