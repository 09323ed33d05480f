-- What is told of whole units, in the words of the grammar.
use Rattle.std.specs.Global.{Vec}
use Rattle.std.proofs.Common.{◌≡◌, ℕ, suc, ◌≤◌, ◌<◌, List, [], length, map, Result, Ok, Err, MatchResult, IfOk, refl, sym, ap, ◌∙◌, subst, arith}
use Rattle.vk_ast.specs.declared.items.Item.{Item}
use Rattle.vk_ast.specs.Units.{ItemTree, item_of}
use Rattle.vk_grammar_expr.specs.declared.symbols.Sym.{Sym}
use Rattle.vk_grammar_expr.specs.Texts.{IsPlace, IsDeepPlace}
use Rattle.vk_grammar_stmt.specs.Trees.{Clauses}
use Rattle.vk_parse_expr.specs.declared.fail.ReadFail.{ReadFail}
use Rattle.vk_parse_expr.specs.declared.fail.ReadFail.TheVariants as fails
use Rattle.vk_parse_expr.specs.Inner.Answers.{Gives}
use Rattle.vk_grammar_unit.specs.Items.{unit_levels}
use Rattle.vk_grammar_unit.specs.Grammar.{AreItems, IsText, IsTextWithin}
use Rattle.vk_grammar_unit.specs.Inner.Reading.{whole_unit}
use Rattle.vk_grammar_unit.proofs.Theorem as theorem

module _ (clauses : Clauses) (ts : List Sym) (result : Result (Vec Item) ReadFail) where
  abbrev ReadAt : ℕ → Type 0
  ReadAt turns = Gives (λ list. (map item_of list.items, [])) result (whole_unit clauses 63 65 turns ts)

  abbrev pub Whole : Type 0
  Whole = (turns : ℕ) → length ts < turns → ReadAt turns

  at_turns : Whole → ReadAt (suc (length ts))
  at_turns is = is (suc (length ts)) (omega arith)

module _ (clauses : Clauses) (ts : List Sym) where
  pub found : (result : Result (Vec Item) ReadFail) → Whole clauses ts result → IfOk result (λ list. (h : ℕ) × (AreItems clauses (map item_of list.items) h ts × (h ≤ 64)))
  found (Ok list) is = let k = theorem.found clauses 63 65 (suc (length ts)) ts (map item_of list.items) [] (at_turns clauses ts (Ok list) is) in (k.0, (k.1.0, k.1.1.0))
  found (Err fail) is = tt

  pub within : (result : Result (Vec Item) ReadFail) → Whole clauses ts result → IfOk result (λ list. unit_levels (map item_of list.items) ≤ 65)
  within (Ok list) is = let k = theorem.found clauses 63 65 (suc (length ts)) ts (map item_of list.items) [] (at_turns clauses ts (Ok list) is) in k.1.1.1
  within (Err fail) is = tt

  read_so : (list : List ItemTree) (h : ℕ) → AreItems clauses list h ts → h ≤ 64 → unit_levels list ≤ 65 → whole_unit clauses 63 65 (suc (length ts)) ts ≡ Ok (list, [])
  read_so list h s low few = theorem.only clauses 63 65 (suc (length ts)) ts list h s low few (omega arith)

  pub only : (result : Result (Vec Item) ReadFail) → Whole clauses ts result → (list : List ItemTree) (h : ℕ) → AreItems clauses list h ts → h ≤ 64 → unit_levels list ≤ 65
      → MatchResult result (λ found. map item_of found.items ≡ list) (λ fail. fail ≡ fails.Memory)
  only (Ok found) is list h s low few =
      let same = sym (at_turns clauses ts (Ok found) is) ∙ read_so list h s low few in
      let pairs : Path (List ItemTree × List Sym) (map item_of found.items, []) (list, []) = cc in
      ap (λ (z : List ItemTree × List Sym). z.0) pairs
  only (Err (fails.Syntax n)) is list h s low few = let same = sym (at_turns clauses ts (Err (fails.Syntax n)) is) ∙ read_so list h s low few in absurd (cc)
  only (Err (fails.Deep n)) is list h s low few = let same = sym (at_turns clauses ts (Err (fails.Deep n)) is) ∙ read_so list h s low few in absurd (cc)
  only (Err fails.Memory) is list h s low few = refl

  pub syntax_at : (result : Result (Vec Item) ReadFail) → Whole clauses ts result → (n : ℕ) → result ≡ Err (fails.Syntax n) → IsPlace (IsText clauses) ts n
  syntax_at result is n e = theorem.refused clauses 63 65 (suc (length ts)) ts n (subst (λ r. ReadAt clauses ts r (suc (length ts))) e (at_turns clauses ts result is))

  pub deep_at : (result : Result (Vec Item) ReadFail) → Whole clauses ts result → (n : ℕ) → result ≡ Err (fails.Deep n) → IsDeepPlace (IsText clauses) (IsTextWithin clauses 64 65) ts n
  deep_at result is n e = theorem.deep clauses 63 65 (suc (length ts)) ts n (subst (λ r. ReadAt clauses ts r (suc (length ts))) e (at_turns clauses ts result is))
