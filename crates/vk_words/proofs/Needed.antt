-- An argument that is required and takes one value has it.
use Rattle.std.proofs.Common.{◌≡◌, ◌∙◌, ◌<◌, ◌≤◌, ◌&&◌, ◌||◌, ◌⊎◌, not, inl, inr, is_some, map, ℕ, true, false, true≢false, zero, suc, refl, sym, ap, subst, arith, List, [], ◌∷◌, Bool, length, nat_le, nat_lt, Option, Some, None, get_or}
use Rattle.std.proofs.lemmas.List.{length-map}
use Rattle.std.specs.Prelude.{codes}
use Rattle.std.specs.List.{All, list_all, list_any, slice_index_or}
use Rattle.std.specs.Str.{bytes_eq}
use Rattle.std.proofs.lemmas.Slice.Eq.{bytes_eq-Decides}
use Rattle.std.proofs.lemmas.List.{get_or-map}
use Rattle.clap.specs.Words.{App, Rule, Text, IsParsedFrom, IsPlainArg, IsPlain, app_of, args_of, groups_of, built, first_value, found_of, new_rule, rule_of}
use Rattle.clap.specs.Facts.{least_values, unwrap_or_range}
use Rattle.clap.specs.Walk.{is_empty, is_free_arg, is_simple_arg}
use Rattle.clap.specs.Simple.{App, has_plain_fields, is_buildable, is_simple, has_simple_rules}
use Rattle.clap.specs.Takes.{default_passes}
use Rattle.clap.specs.Faults.{is_simple_and_free}
use Rattle.clap.specs.declared.builder.action.ArgAction.{ArgAction}
use Rattle.clap.specs.declared.builder.action.ArgAction.TheVariants.{Set, Append, SetTrue, SetFalse, Count, Help, HelpShort, HelpLong, Version}
use Rattle.clap.specs.declared.builder.arg.Arg.{Arg}
use Rattle.clap.specs.declared.builder.command.Command.{Command}
use Rattle.clap.specs.declared.builder.command.Command.TheViews.{out-Command}
use Rattle.clap.specs.declared.parser.matches.ArgMatches.{ArgMatches}
use Rattle.clap.proofs.WalkLemmas.{both}
use Rattle.clap.proofs.SimpleLemmas.{is_false, is_nil}
use Rattle.clap.proofs.TakesLemmas.{each_rule}
use Rattle.clap.proofs.CallerLemmas.{required_has_value}
use Rattle.vk_words.specs.Reading.{is_distinct, is_needed, is_needed_rule, is_set, is_table}

is_none : {X : Type 0} (o : Option X) → not (is_some o) ≡ true → o ≡ None
is_none None e = refl
is_none (Some x) e = absurd (true≢false (sym e))

set_is : (x : Option ArgAction) → is_set x ≡ true → x ≡ Some Set
set_is (Some Set) e = refl
set_is (Some Append) e = absurd (true≢false (sym e))
set_is (Some SetTrue) e = absurd (true≢false (sym e))
set_is (Some SetFalse) e = absurd (true≢false (sym e))
set_is (Some Count) e = absurd (true≢false (sym e))
set_is (Some Help) e = absurd (true≢false (sym e))
set_is (Some HelpShort) e = absurd (true≢false (sym e))
set_is (Some HelpLong) e = absurd (true≢false (sym e))
set_is (Some Version) e = absurd (true≢false (sym e))
set_is None e = absurd (true≢false (sym e))

-- from tests of the rules to the arguments
plain_arg : (a : Arg) → is_simple_arg a ≡ true → is_free_arg a ≡ true → IsPlainArg a
plain_arg a s f =
    let p = both (is_empty a.overrides.items) _ s in
    let q = both (is_empty a.default_vals_ifs.items) _ p.1 in
    let r = both (is_empty a.groups.items) _ q.1 in
    let x = both (not a.exclusive) _ f in
    let y = both (is_empty a.conflicts.items) _ x.1 in
    (is_false _ x.0, is_nil _ y.0, is_nil _ p.0, is_nil _ r.0)

no_delimiter : (a : Arg) → is_simple_arg a ≡ true → a.val_delim ≡ None
no_delimiter a s =
    let p = both (is_empty a.overrides.items) _ s in
    let q = both (is_empty a.default_vals_ifs.items) _ p.1 in
    let r = both (is_empty a.groups.items) _ q.1 in
    let x = both (not (is_some a.val_delim)) _ r.1 in
    is_none _ x.0

any_at : (p : Rule → Bool) (xs : List Arg) (k : ℕ) (d : Arg) → k < length xs → p (rule_of (slice_index_or xs k d)) ≡ true → list_any p (map rule_of xs) ≡ true
any_at p [] k d lt e = absurd (omega arith)
any_at p (x ∷ xs) zero d lt e = rw e refl
any_at p (x ∷ xs) (suc k) d lt e = let rest = any_at p xs k d (omega arith) e in or_right (p (rule_of x)) _ rest
  where
    or_right : (a b : Bool) → b ≡ true → (a || b) ≡ true
    or_right true b e = refl
    or_right false b e = e

or_left : (a b : Bool) → a ≡ true → (a || b) ≡ true
or_left a b e = rw e refl

or_second : (a b : Bool) → b ≡ true → (a || b) ≡ true
or_second true b e = refl
or_second false b e = e

distinct_at : (xs : List Arg) → is_distinct (map rule_of xs) ≡ true → (j k : ℕ) (e d : Arg) → j < length xs → k < length xs
    → bytes_eq (slice_index_or xs j e).id.now (slice_index_or xs k d).id.now ≡ true → j ≡ k
distinct_at [] t j k e d lj lk same = absurd (omega arith)
distinct_at (x ∷ xs) t zero zero e d lj lk same = refl
distinct_at (x ∷ xs) t zero (suc k) e d lj lk same =
    let hit = any_at (λ y. bytes_eq x.id.now y.id || bytes_eq y.id x.id.now) xs k d (omega arith) (or_left _ _ same) in
    let none = is_false _ (both _ _ t).0 in
    absurd (true≢false (sym hit ∙ none))
distinct_at (x ∷ xs) t (suc j) zero e d lj lk same =
    let hit = any_at (λ y. bytes_eq x.id.now y.id || bytes_eq y.id x.id.now) xs j e (omega arith) (or_second _ _ same) in
    let none = is_false _ (both _ _ t).0 in
    absurd (true≢false (sym hit ∙ none))
distinct_at (x ∷ xs) t (suc j) (suc k) e d lj lk same = ap suc (distinct_at xs (both _ _ t).1 j k e d (omega arith) (omega arith) same)

-- an argument of the command, by its place among the rules
rule_at : (xs : List Arg) (k : ℕ) (d : Arg) (e : Rule) → k < length xs → slice_index_or (map rule_of xs) k e ≡ rule_of (slice_index_or xs k d)
rule_at [] k d e lt = absurd (omega arith)
rule_at (x ∷ xs) zero d e lt = refl
rule_at (x ∷ xs) (suc k) d e lt = rule_at xs k d e (omega arith)

some_arg : (xs : List Arg) (k : ℕ) → k < length xs → Arg
some_arg [] k lt = absurd (omega arith)
some_arg (x ∷ xs) k lt = x

needed_here : (c : Command) (m : ArgMatches) → is_table (app_of c) ≡ true → IsParsedFrom c m → (k : ℕ) (d : Arg) → k < length (args_of c)
    → is_needed_rule (rule_of (slice_index_or (args_of c) k d)) ≡ true → is_some (first_value (found_of m) (slice_index_or (args_of c) k d).id.now) ≡ true
needed_here c m t parsed k d lt needed =
    let a = slice_index_or (args_of c) k d in
    let t1 = both (is_simple_and_free (app_of c)) _ t in
    let t2 = both (is_empty (built (app_of c)).subs) _ t1.1 in
    let t3 = both (list_all default_passes (built (app_of c)).top.rules) _ t2.1 in
    let t4 = both (list_all (λ r. r.is_free) (app_of c).top.rules) _ t3.1 in
    let t5 = both (not (app_of c).top.subcommand_negates_reqs) _ t4.1 in
    let simple = both (is_buildable (app_of c)) _ (both (is_simple (app_of c)) _ t1.0).0 in
    let ready = both (has_simple_rules (app_of c).top) _ simple.0 in
    let rules = both (has_plain_fields (out-Command c)) _ ready.0 in
    let fields = both (is_empty (groups_of c)) _ rules.0 in
    let external = both (not (out-Command c).allow_external_subcommands) _ fields.1 in
    let globals = both (not (out-Command c).has_globals) _ external.1 in
    let all_simple = each_rule (λ r. r.is_simple) (args_of c) rules.1 in
    let all_free = each_rule (λ r. r.is_free) (args_of c) t4.0 in
    let plain : IsPlain c = ((λ i e low. plain_arg (slice_index_or (args_of c) i e) (all_simple i e low) (all_free i e low)), is_nil _ fields.0) in
    let n1 = both a.required _ needed in
    let n2 = both (is_set a.action) _ n1.1 in
    let n3 = both (nat_le 1 (unwrap_or_range a.num_vals).start_inclusive) _ n2.1 in
    let n4 = both (not (is_empty a.id.now)) _ n3.1 in
    let n5 = both (not (bytes_eq a.id.now (codes "help"))) _ n4.1 in
    let least = n3.0 in
    required_has_value c m parsed plain (is_false _ globals.0) (is_false _ t5.0) k d lt n1.0 (set_is _ n2.0) (no_delimiter a (all_simple k d lt)) (grind arith)
    (λ j e low same. distinct_at (args_of c) t5.1 j k e d low lt same)
    (λ empty. true≢false (sym n4.0 ∙ ap (λ (x : Text). not (is_empty x)) empty))
    (λ auto. elim auto [
      | inl h ↦ true≢false (sym (own_id a.id.now (codes "help") h) ∙ is_false _ n5.0)
      | inr h ↦ true≢false (sym (own_id a.id.now (codes "version") h) ∙ is_false _ n5.1)
    ])
  where
    own_id : (x y : Text) → x ≡ y → bytes_eq x y ≡ true
    own_id x y e = (bytes_eq-Decides x y).1 e

pub needed_given : (c : Command) (m : ArgMatches) → is_table (app_of c) ≡ true → IsParsedFrom c m → (k : ℕ) (id : Text) → is_needed (app_of c) k id ≡ true
    → is_some (first_value (found_of m) id) ≡ true
needed_given c m t parsed k id needed =
    let n1 = both (nat_lt k (length (app_of c).top.rules)) _ needed in
    let n2 = both (is_needed_rule (slice_index_or (app_of c).top.rules k (new_rule []))) _ n1.1 in
    let len : length (map rule_of (args_of c)) ≡ length (args_of c) = length-map (args_of c) rule_of in
    let low = n1.0 in
    let lt : k < length (args_of c) = grind arith in
    let d = some_arg (args_of c) k lt in
    let at = rule_at (args_of c) k d (new_rule []) lt in
    let is_id : (slice_index_or (args_of c) k d).id.now ≡ id = ap (λ (r : Rule). r.id) (sym at) ∙ (bytes_eq-Decides _ id).0 n2.1 in
    subst (λ (x : Text). is_some (first_value (found_of m) x) ≡ true) is_id
    (needed_here c m t parsed k d lt (ap is_needed_rule (sym at) ∙ n2.0))
