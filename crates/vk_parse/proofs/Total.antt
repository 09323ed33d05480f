-- All tokens are a unit, or have a fault: the reader on lists is a total function, and the places of C7 are looked through.
use Rattle.std.proofs.Common.{◌≡◌, ℕ, zero, suc, ◌+◌, ◌-◌, ◌<◌, Bool, true, false, nat_lt, List, length, Option, Some, None, Result, Ok, Err, ◌⊎◌, inl, inr, refl, sym, ap, ◌∙◌, arith}
use Rattle.std.proofs.lemmas.Bool.{cases_Bool, cases_order, false≢true}
use Rattle.vk_ast.specs.Units.{ItemTree}
use Rattle.vk_tokens.specs.declared.tokens.Token.{Token}
use Rattle.vk_unit_rules.specs.declared.rules.UnitRule.{UnitRule}
use Rattle.vk_unit_rules.specs.declared.rules.UnitRule.TheVariants.{C5, C6, C7}
use Rattle.vk_grammar_expr.specs.declared.symbols.Sym.{Sym}
use Rattle.vk_grammar_expr.specs.Inner.Parser.{Fault, Syntax, Deep, Spent}
use Rattle.vk_grammar_expr.proofs.Places.{place_no_text}
use Rattle.vk_grammar_stmt.specs.Trees.{Clauses}
use Rattle.vk_grammar_unit.specs.Inner.Reading.{whole_unit}
use Rattle.vk_grammar_unit.proofs.Theorem.{found, refused, deep, ends}
use Rattle.vk_parse_words.specs.Lines.{outside}
use Rattle.vk_parse_words.specs.Faults.{is_fault, IsC7}
use Rattle.vk_parse_directives.specs.Directives.{unit_clauses}
use Rattle.vk_parse.specs.Parsing.{IsFaultAt, line_of_place}
use Rattle.vk_parse.specs.Readings.{HasUnit, HasFault}
use Rattle.vk_parse.specs.Inner.Answers.{first_of, IsAnswer}
use Rattle.vk_parse.proofs.Facts.{Words, syntax_is, deep_is}

-- ---- the place of C7

module _ (w : List Sym) where
  next_clear : (at : ℕ) → is_fault w at ≡ false → ((k : ℕ) → k < at → is_fault w k ≡ false) → (k : ℕ) → k < at + 1 → is_fault w k ≡ false
  next_clear at here before k below = elim (cases_order k at) [
    | inl same ↦ ap (is_fault w) same ∙ here
    | inr apart ↦ elim apart [ inl less ↦ before k less | inr more ↦ absurd (omega arith) ]
  ]

  from_on : (left at : ℕ) → at + left ≡ length w → ((k : ℕ) → k < at → is_fault w k ≡ false) → ((n : ℕ) × IsC7 w n) ⊎ ((n : ℕ) → IsC7 w n → ⊥)
  from_on zero at e before = inr (λ n c. false≢true (sym (before c.at (let within = c.within in omega arith)) ∙ c.fault))
  from_on (suc left) at e before =
      elim (cases_Bool (is_fault w at)) [
        | inl t ↦ inl (length w - at, record { at = at; within = omega arith; left = refl; fault = t; first = before })
        | inr f ↦ from_on left (at + 1) (omega arith) (next_clear at f before)
      ]

  word_place : ((n : ℕ) × IsC7 w n) ⊎ ((n : ℕ) → IsC7 w n → ⊥)
  word_place = from_on (length w) 0 (omega arith) (λ k below. absurd (omega arith))

  one_place : {n m : ℕ} → IsC7 w n → IsC7 w m → n ≡ m
  one_place a b = elim (cases_order a.at b.at) [
    | inl same ↦ a.left ∙ ap (λ k. length w - k) same ∙ sym b.left
    | inr apart ↦ elim apart [
      | inl below ↦ absurd (false≢true (sym (b.first a.at below) ∙ a.fault))
      | inr above ↦ absurd (false≢true (sym (a.first b.at above) ∙ b.fault))
    ]
  ]

-- ---- units

module _ (names : List (List ℕ)) (ts : List Token) where
  abbrev SomeFault : Type 0
  SomeFault = (rule : UnitRule) × (n : ℕ) × IsFaultAt names ts rule n

  -- the fault that is told of two places
  of_both : (rule : UnitRule) (n k : ℕ) (b : Bool) → nat_lt k n ≡ b → IsAnswer names ts (Err (first_of rule n (Some k))) → SomeFault
  of_both rule n k true e a = (rule, n, (rw e at a).0)
  of_both rule n k false e a = (C7, k, (rw e at a).0)

  told : (rule : UnitRule) (n : ℕ) (words : Option ℕ) → IsAnswer names ts (Err (first_of rule n words)) → SomeFault
  told rule n None a = (rule, n, a.0)
  told rule n (Some k) a = of_both rule n k (nat_lt k n) refl a

  abbrev all : Clauses
  all = unit_clauses names ts

  words : (words : Option ℕ) × Words names ts words
  words = elim (word_place (outside names ts)) [
    | inl c ↦ (Some c.0, (c.1, λ n d. ap Some (one_place (outside names ts) c.1 d)))
    | inr none ↦ (None, (tt, λ n d. absurd (none n d)))
  ]

  abbrev Unit_or_fault : Type 0
  Unit_or_fault = HasUnit names ts ⊎ SomeFault

  turns : ℕ
  turns = suc (length (outside names ts))

  read_is : (list : List ItemTree) (rest : List Sym) → whole_unit all 63 65 turns (outside names ts) ≡ Ok (list, rest) → Unit_or_fault
  read_is list rest e =
      let f = found all 63 65 turns (outside names ts) list rest e in
      elim (word_place (outside names ts)) [
        | inl c ↦ inr (C7, c.0, (c.1, λ m at. absurd (place_no_text at (list, (f.0, f.1.0)))))
        | inr none ↦ inl (
          list,
          f.0,
          record { items_are = f.1.0 },
          record { expressions = f.1.1.0; statements = f.1.1.1 },
          none,
        )
      ]

  by : (read : Result (List ItemTree × List Sym) Fault) → whole_unit all 63 65 turns (outside names ts) ≡ read → Unit_or_fault
  unfolding turns
  by (Ok r) e = read_is r.0 r.1 e
  by (Err (Syntax n)) e = inr (told C5 n words.0 (syntax_is names ts n words.0 (refused all 63 65 turns (outside names ts) n e) words.1))
  by (Err (Deep n)) e = inr (told C6 n words.0 (deep_is names ts n words.0 (deep all 63 65 turns (outside names ts) n e) words.1))
  by (Err Spent) e = absurd (ends all 63 65 turns (outside names ts) (omega arith) e)

  with_line : (last : ℕ) → Unit_or_fault → HasUnit names ts ⊎ HasFault names ts last
  with_line last (inl u) = inl u
  with_line last (inr f) = inr (line_of_place names ts last f.1, f.0, record { left = f.1; at = f.2; line_is = refl })

  pub some_answer : (last : ℕ) → HasUnit names ts ⊎ HasFault names ts last
  some_answer last = with_line last (by (whole_unit all 63 65 turns (outside names ts)) refl)
