use Rattle.std.proofs.Common.{rules, ◌≡◌, ◌&&◌, Bool, true, false, Err, IfErr, IfOk, map, string_bytes, ◌∙◌, refl, List, [], ◌∷◌, length, ◌==◌, ℕ, arith, is_some}
use Rattle.std.specs.List.{list_all}
use Rattle.clap.specs.Words.{App, Rule, Text, app_of, built, fault_of, found_of, is_simple, kind_of, matches_of, rows_of, takes, HasMatchesOf}
use Rattle.clap.specs.Walk.{is_empty, nothing_held}
use Rattle.clap.specs.Simple.{Shape, argument_words, is_buildable}
use Rattle.clap.specs.Takes.{built_takes, default_passes}
use Rattle.clap.specs.Faults.{has_free_rules, is_free_app, is_simple_and_free}
use Rattle.clap.specs.declared.parser.matches.ArgMatches.{ArgMatches}
use Rattle.vk_words.specs.Reading.{IsRead, is_table}
use Rattle.vk_words.proofs.Taken.{and_true, leaf_taken}
use Rattle.clap.proofs.WalkLemmas.{both, first_value-rows}
use Rattle.clap.specs.declared.builder.command.Command.{Command}
use Rattle.clap.specs.Words.{IsParsedFrom, first_of}
use Rattle.vk_words.proofs.Needed.{needed_given}
use Rattle.std.proofs.Common.{ap, sym}
use Rattle.clap.proofs.SimpleLemmas.{is_nil}
use Rattle.vk_words.proofs.matching.read.Goals as goal

taken : (a : App) (words : List Text) → is_table a ≡ true → fault_of a words ≡ [] → takes a words ≡ true
taken a words t e =
    let simple_and_free = both (is_simple_and_free a) _ t in
    let simple = both (is_simple a) _ simple_and_free.0 in
    let rest = both (is_empty (built a).subs) _ simple_and_free.1 in
    let defaults = both (list_all default_passes (built a).top.rules) _ rest.1 in
    let free = both (has_free_rules (built a).top) _ simple.1 in
    and_true _ _ simple.0 (leaf_taken (built a) nothing_held (argument_words a words) (is_nil (built a).subs rest.0) free.0 defaults.0 e)

is_read : (c : Command) (words : List Text) (m : ArgMatches) → is_table (app_of c) ≡ true → fault_of (app_of c) words ≡ [] → HasMatchesOf (app_of c) words m
    → IsParsedFrom c m → IsRead (app_of c) words m
is_read c words m t e h parsed =
    let rows = (h (both (is_simple (app_of c)) _ (both (is_simple_and_free (app_of c)) _ t).0).0).0 in
    record {
      taken = taken (app_of c) words t e;
      rows = rows;
      needed = λ k id n. ap is_some (ap (first_of id) (sym rows) ∙ sym (first_value-rows (found_of m) id)) ∙ needed_given c m t parsed k id n;
    }

pub returns-in-Ok-clause-ok : goal.returns-in-Ok-clause-ok
returns-in-Ok-clause-ok c = is_read _ _ _ c.requires (c.in-Ok.ensures.kinds (both (is_simple_and_free (app_of c.args.command)) _ c.requires).0) c.in-Ok.ensures.matches c.in-Ok.ensures.parsed

not_true : (t : Bool) → (t ≡ true → ⊥) → t ≡ false
not_true true h = absurd (h refl)
not_true false h = refl

pub returns : goal.returns
returns c = record {
  ok = tt;
  stated = λ e. cc;
  refused = λ _. not_true _ (λ t. c.in_default.not-OutOfMemory (c.kind.ensures ∙ c.in-Err.ensures.passes t));
}
