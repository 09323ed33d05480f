use Rattle.std.proofs.Common.{ap, ◌∙◌, rules}
use Rattle.std.proofs.lemmas.List.Sorted.{answers_always}
use Rattle.vk_meaning.specs.Programs.{in_order}
use Rattle.vk_reading_rows.specs.Objects.{array_seen}
use Rattle.vk_reading_rows.proofs.Arrays.{arrays_sorted}
use Rattle.vk_reading_rows.proofs.objects.objects_in_order.Goals as goal

pub returns : goal.returns
returns c =
    arrays_sorted array_seen c.in_ok-list.list.items c.sort_by_key.new.self.items
    (c.in_ok-sort_by_key.ensures.sorted (λ p. p.text) (answers_always _ _ _ (λ f a r g h. search rules)))
    (c.sort_by_key.ensures.stable (λ p. p.text) (answers_always _ _ _ (λ f a r g h. search rules)))
    ∙ ap in_order c.in_ok-list.ensures
