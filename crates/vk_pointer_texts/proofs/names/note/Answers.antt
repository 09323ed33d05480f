use Rattle.std.proofs.Common.{◌≡◌, List, ℕ, bytes_eq, is_some, false, sym, subst, ◌∙◌}
use Rattle.std.specs.Cmp.Lexicographic.{same_text}
use Rattle.std.proofs.lemmas.Map.Text.{hash_map_updates_str}
use Rattle.vk_pointer_texts.specs.Inner.Noted.{noted}
use Rattle.vk_pointer_texts.proofs.Noting.{noting, nothing_there}
use Rattle.vk_pointer_texts.proofs.names.note.Goals as goal

pub returns : goal.returns
returns c = λ t.
    hash_map_updates_str c.args.head.now.text.now c.args.table.now c.insert.new.self _ c.in_ok-insert.ensures.updates t
    ∙ noting (bytes_eq c.args.head.now.text.now t) (noted c.args.table.now t) c.args.number
    (λ e. nothing_there (noted c.args.table.now t) (subst (λ (x : List ℕ). is_some (noted c.args.table.now x) ≡ false) (same_text c.args.head.now.text.now t (sym e)) (sym c.contains_key.ensures ∙ c.if-contains_key.false)))
