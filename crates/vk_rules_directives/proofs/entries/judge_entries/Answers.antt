use Rattle.std.proofs.Common.{true, false, take, refl, sym, ap, ◌&&◌, ◌∙◌}
use Rattle.vk_ast.specs.Directives.{directive_of}
use Rattle.vk_ast.specs.Units.{function_of}
use Rattle.vk_rules_names.specs.Seen.{unit_of}
use Rattle.vk_rules_book.proofs.Noting.{found_none}
use Rattle.vk_rules_directives.proofs.Listed.{entries_noted, entries_sound, entry_by, listed_more}
use Rattle.vk_rules_directives.proofs.entries.judge_entries.Goals as goal

pub loop-e-init : goal.loop-e-init
loop-e-init c = record { noted = sym (found_none _ _); sound = refl; shaped = c.requires.shaped; aligned = c.requires.aligned }

pub loop-e-preserved : goal.loop-e-preserved
loop-e-preserved c =
    let are = entry_by (function_of c.args.at.now.f.now) (directive_of c.args.at.now.d.now) (take c.loop-e.e-index c.args.entries.now) _ c.args.at.now.types.now c.loop-e.shaped c.loop-e.aligned
    c.requires.types c.loop-e.invariant.shaped c.loop-e.invariant.aligned in
    record {
      noted = entries_noted (unit_of c.args.at.now.place.now) _ _ _ _ _ _ _ _ _ c.loop-e-test.true are c.loop-e.invariant.noted c.judge_entry-right.ensures.noted;
      sound = c.both-sound.ensures ∙ ap (λ b. c.loop-e.sound && b) c.judge_entry-right.ensures.sound ∙ entries_sound _ _ _ _ _ _ _ c.loop-e-test.true are c.loop-e.invariant.sound;
      shaped = listed_more false _ _ _ c.loop-e.shaped c.list.new.shaped c.loop-e-test.true c.loop-e.invariant.shaped c.in_ok-list.ensures.shaped;
      aligned = listed_more true _ _ _ c.loop-e.aligned c.list.new.aligned c.loop-e-test.true c.loop-e.invariant.aligned c.in_ok-list.ensures.aligned;
    }
