use Rattle.std.proofs.Common.{◌&&◌, ◌||◌, map, take, refl, sym, ap, ◌∙◌}
use Rattle.vk_ast.specs.Directives.{clause_of, directive_of}
use Rattle.vk_ast.specs.Units.{function_of}
use Rattle.vk_rules_names.specs.Seen.{unit_of}
use Rattle.vk_rules_book.specs.Directives.{is_branch, is_simdlen}
use Rattle.vk_rules_book.proofs.Noting.{found_none}
use Rattle.vk_rules_directives.proofs.Said.{clauses_noted, clauses_sound, said_by, seen_more}
use Rattle.vk_rules_directives.proofs.clauses.judge_clauses.Goals as goal

pub loop-c-init : goal.loop-c-init
loop-c-init c = record { noted = sym (found_none _ _); sound = refl; simdlen = refl; branch = refl }

pub loop-c-preserved : goal.loop-c-preserved
loop-c-preserved c =
    let are = said_by (function_of c.args.at.now.f.now) (directive_of c.args.at.now.d.now) (map clause_of (take c.loop-c.c-index c.args.clauses.now)) _ c.loop-c.has_simdlen c.loop-c.has_branch
    c.loop-c.invariant.simdlen c.loop-c.invariant.branch in
    record {
      noted = clauses_noted (unit_of c.args.at.now.place.now) _ _ _ _ _ _ _ _ _ c.loop-c-test.true c.c-item.is are c.loop-c.invariant.noted c.judge_clause-right.ensures.noted;
      sound = c.both-sound.ensures ∙ ap (λ b. c.loop-c.sound && b) c.judge_clause-right.ensures.sound ∙ clauses_sound _ _ _ _ _ _ _ c.loop-c-test.true c.c-item.is are c.loop-c.invariant.sound;
      simdlen = seen_more is_simdlen _ _ _ _ _ c.loop-c-test.true c.c-item.is c.loop-c.invariant.simdlen (c.either-has_simdlen.ensures ∙ ap (λ b. c.loop-c.has_simdlen || b) c.is_simdlen.ensures);
      branch = seen_more is_branch _ _ _ _ _ c.loop-c-test.true c.c-item.is c.loop-c.invariant.branch (c.either-has_branch.ensures ∙ ap (λ b. c.loop-c.has_branch || b) c.is_branch.ensures);
    }
