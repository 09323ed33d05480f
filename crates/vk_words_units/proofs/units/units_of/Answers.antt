use Rattle.std.proofs.Common.{◌≡◌, ◌∙◌, ◌≤◌, ◌<◌, ◌∷◌, refl, sym, ap, rules, arith, inl, inr, length, map, List, ℕ, Option, Bor}
use Rattle.std.proofs.lemmas.List.{length-map}
use Rattle.std.specs.Prelude.{codes}
use Rattle.clap.specs.Words.{Text}
use Rattle.vk_words.specs.Tables.{units_table}
use Rattle.vk_words.specs.Asked.{IsIsa, IsTurns, IsVl}
use Rattle.vk_words.proofs.Known.{as_table, found_at, held_at, holds_at, is_there, listed_at}
use Rattle.vk_words_units.proofs.units.units_of.Goals as goal

pub needed-requires : goal.needed-requires
needed-requires c = is_there (as_table _ (units_table c.args.name.now) _ _ c.in_ok-units_command.ensures c.in_ok-matches.ensures.ok) 0 (codes "isa") refl

pub needed-requires-2 : goal.needed-requires-2
needed-requires-2 c = is_there (as_table _ (units_table c.args.name.now) _ _ c.in_ok-units_command.ensures c.in_ok-matches.ensures.ok) 3 (codes "UNIT") refl

pub returns-in_default-vl_of-clause-unstated : goal.returns-in_default-vl_of-clause-unstated
returns-in_default-vl_of-clause-unstated c = λ _.
    let r = as_table _ (units_table c.args.name.now) _ _ c.in_ok-units_command.ensures c.in_ok-matches.ensures.ok in
    record {
      taken = r.taken;
      value = inr (inl (λ vl e. c.in_default-vl_of.ensures.none refl vl (held_at r (codes "vl") _ (λ (o : Option Text). IsVl o vl) c.optional.ensures e)));
    }

pub returns-in_default-turns_of-clause-unstated : goal.returns-in_default-turns_of-clause-unstated
returns-in_default-turns_of-clause-unstated c = λ _.
    let r = as_table _ (units_table c.args.name.now) _ _ c.in_ok-units_command.ensures c.in_ok-matches.ensures.ok in
    record {
      taken = r.taken;
      value = inr (inr (inl (λ n e. c.in_default-turns_of.ensures.none refl n (held_at r (codes "turns") _ (λ (o : Option Text). IsTurns o n) c.optional-2.ensures e))));
    }

at_least : (xs : List Text) (items : List (Bor Text)) (n : ℕ) → xs ≡ map (λ s. s.now) items → n ≡ length items → 64 ≤ n → 64 ≤ length xs
at_least xs items n e len lt = let same : length xs ≡ length items = ap length e ∙ length-map items (λ s. s.now) in omega arith

at_most : (xs : List Text) (first : Text) (items : List (Bor Text)) (n : ℕ) → xs ≡ first ∷ map (λ s. s.now) items → n ≡ length items → n < 64 → length xs ≤ 64
at_most xs first items n e len lt =
    let same : length xs ≡ length (first ∷ map (λ s. s.now) items) = ap length e in
    let more : length (map (λ (s : Bor Text). s.now) items) ≡ length items = length-map items (λ s. s.now) in omega arith

pub returns-then-len-ge-MAX_UNITS-clause-unstated : goal.returns-then-len-ge-MAX_UNITS-clause-unstated
returns-then-len-ge-MAX_UNITS-clause-unstated c = λ _.
    let r = as_table _ (units_table c.args.name.now) _ _ c.in_ok-units_command.ensures c.in_ok-matches.ensures.ok in
    let len : c.len.result ≡ length c.in_ok-more.more.items = search rules in
    record {
      taken = r.taken;
      value = inr (inr (inr (at_least _ c.in_ok-more.more.items _ (listed_at r (codes "MORE") _ c.in_ok-more.ensures) len c.if-len-ge-MAX_UNITS.true)));
    }

pub returns-clause-found : goal.returns-clause-found
returns-clause-found c =
    let r = as_table _ (units_table c.args.name.now) _ _ c.in_ok-units_command.ensures c.in_ok-matches.ensures.ok in
    let len : c.len.result ≡ length c.in_ok-more.more.items = search rules in
    let list = c.in_ok-units.ensures in
    record {
      taken = r.taken;
      isa = holds_at r (codes "isa") _ (λ (o : Option Text). IsIsa o c.in-Some.isa) c.needed.ensures c.in-Some.ensures.found;
      vl = holds_at r (codes "vl") _ (λ (o : Option Text). IsVl o c.in-Some-vl_of.vl) c.optional.ensures c.in-Some-vl_of.ensures.found;
      turns = holds_at r (codes "turns") _ (λ (o : Option Text). IsTurns o c.in-Some-turns_of.turns) c.optional-2.ensures c.in-Some-turns_of.ensures.found;
      first = c.needed-2.result.now;
      at_first = found_at r (codes "UNIT") _ c.needed-2.ensures;
      units = list ∙ ap (λ (l : List Text). c.needed-2.result.now ∷ l) (sym (listed_at r (codes "MORE") _ c.in_ok-more.ensures));
      most = at_most _ c.needed-2.result.now c.in_ok-more.more.items _ list len c.if-len-ge-MAX_UNITS.false;
    }
