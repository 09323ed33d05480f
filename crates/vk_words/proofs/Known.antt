-- What a command that read its words knows of its values.
use Rattle.std.proofs.Common.{◌≡◌, ◌∙◌, ℕ, List, [], Option, true, is_some, ap, sym, subst}
use Rattle.std.specs.Prelude.{unwrap_or}
use Rattle.clap.specs.Words.{App, Row, Text, all_of, app_of, first_of, found_of, rows_of}
use Rattle.clap.specs.declared.builder.command.Command.{Command}
use Rattle.clap.specs.declared.parser.matches.ArgMatches.{ArgMatches}
use Rattle.vk_words.specs.Reading.{IsRead, flag_at, is_needed, is_true_text, value_at, values_at}

pub as_table : (c : Command) (t : App) (words : List Text) (m : ArgMatches) → app_of c ≡ t → IsRead (app_of c) words m → IsRead t words m
as_table c t words m e r = subst (λ (a : App). IsRead a words m) e r

module _ {t : App} {words : List Text} {m : ArgMatches} (r : IsRead t words m) where
  pub is_there : (k : ℕ) (id : Text) → is_needed t k id ≡ true → is_some (first_of id (rows_of (found_of m))) ≡ true
  is_there k id n = ap (λ (rows : List Row). is_some (first_of id rows)) r.rows ∙ r.needed k id n

  pub found_at : (id : Text) (v : Option Text) → first_of id (rows_of (found_of m)) ≡ v → value_at t id words ≡ v
  found_at id v e = ap (first_of id) (sym r.rows) ∙ e

  pub listed_at : (id : Text) (vs : List Text) → unwrap_or (all_of id (rows_of (found_of m))) [] ≡ vs → values_at t id words ≡ vs
  listed_at id vs e = ap (λ (rows : List Row). unwrap_or (all_of id rows) []) (sym r.rows) ∙ e

  pub used_at : (id : Text) (b : _) → b ≡ is_true_text (first_of id (rows_of (found_of m))) → flag_at t id words ≡ b
  used_at id b e = ap (λ (rows : List Row). is_true_text (first_of id rows)) (sym r.rows) ∙ sym e

  pub holds_at : (id : Text) (v : Option Text) (P : Option Text → Type 0) → first_of id (rows_of (found_of m)) ≡ v → P v → P (value_at t id words)
  holds_at id v P e p = subst P (sym (found_at id v e)) p

  pub held_at : (id : Text) (v : Option Text) (P : Option Text → Type 0) → first_of id (rows_of (found_of m)) ≡ v → P (value_at t id words) → P v
  held_at id v P e p = subst P (found_at id v e) p
