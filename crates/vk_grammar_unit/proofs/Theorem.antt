-- Whole units: what is read is the grammar's and within the limits, what is so is read, and faults are at their places.
use Rattle.std.proofs.Common.{◌≡◌, ◌+◌, ◌≤◌, ◌<◌, ℕ, suc, true, false, List, [], length, Ok, Err, ap, arith}
use Rattle.vk_ast.specs.Units.{ItemTree}
use Rattle.vk_grammar_expr.specs.declared.symbols.Sym.{Sym}
use Rattle.vk_grammar_expr.specs.Inner.Parser.{Syntax, Deep, Spent}
use Rattle.vk_grammar_expr.specs.Texts.{IsPlace, IsDeepPlace}
use Rattle.vk_grammar_stmt.specs.Trees.{Clauses}
use Rattle.vk_grammar_stmt.proofs.Signs.{Has, has}
use Rattle.vk_grammar_stmt.proofs.Limits.{Fits}
use Rattle.vk_grammar_stmt.proofs.Readers
use Rattle.vk_grammar_stmt.proofs.Readers.{Above, IsReader}
use Rattle.vk_grammar_stmt.proofs.Theorem.{same_room, more_room}
use Rattle.vk_grammar_unit.specs.Items.{unit_levels}
use Rattle.vk_grammar_unit.specs.Grammar.{AreItems, IsText, IsTextWithin}
use Rattle.vk_grammar_unit.specs.Inner.Reading.{items, whole_unit}
use Rattle.vk_grammar_unit.proofs.Sound.{items_follow}
use Rattle.vk_grammar_unit.proofs.Grown.{items_grow}
use Rattle.vk_grammar_unit.proofs.Limits.{UnitAt, unit_takes}
use Rattle.vk_grammar_unit.proofs.Whole.{unit_reads}

module _ (clauses : Clauses) where
  above : (e d : ℕ) (list : List ItemTree) (h : ℕ) (u : List Sym) → AreItems clauses list h u → Above (Has (AreItems clauses)) (λ turns. items clauses e d turns turns) list u
  above e d list h u is = record {
    reader = λ turns. items clauses (e + h) (d + unit_levels list) turns turns;
    follows = λ turns w. items_follow clauses (e + h) (d + unit_levels list) turns turns w;
    grows = λ turns more_turns i. items_grow clauses true e (e + h) turns more_turns (more_room e h) i d (d + unit_levels list) (more_room d (unit_levels list)) turns more_turns i;
    reads = λ turns l. unit_reads (e + h) (d + unit_levels list) turns is (omega arith) (omega arith) l;
  }

  is_reader : (e d : ℕ) → IsReader (Has (AreItems clauses)) (Fits (AreItems clauses) (UnitAt d) (suc e)) (λ turns. items clauses e d turns turns)
  is_reader e d = record {
    follows = λ turns w. items_follow clauses e d turns turns w;
    takes = λ turns w. unit_takes clauses e d turns w;
    grows = λ turns more_turns i. items_grow clauses false e e turns more_turns same_room i d d same_room turns more_turns i;
    reads = λ turns list u k l. unit_reads e d turns k.is k.most k.fits l;
    larger = λ list u r. above e d list r.height u r.is;
  }

  pub found : (e d turns : ℕ) (ts : List Sym) (list : List ItemTree) (r : List Sym) → whole_unit clauses e d turns ts ≡ Ok (list, r)
      → (h : ℕ) × (AreItems clauses list h ts × ((h ≤ suc e) × (unit_levels list ≤ d)))
  found e d turns ts list r is = let k = Readers.found (is_reader e d) turns ts list r is in (k.height, (k.is, (k.most, k.fits)))

  pub only : (e d turns : ℕ) (ts : List Sym) (list : List ItemTree) (h : ℕ) → AreItems clauses list h ts → h ≤ suc e → unit_levels list ≤ d → length ts < turns → whole_unit clauses e d turns ts ≡ Ok (list, [])
  only e d turns ts list h is hi lv l = Readers.only (is_reader e d) turns ts list (record { height = h; is = is; most = hi; fits = lv }) l

  pub refused : (e d turns : ℕ) (ts : List Sym) (n : ℕ) → whole_unit clauses e d turns ts ≡ Err (Syntax n) → IsPlace (IsText clauses) ts n
  refused e d turns ts n is = Readers.refused (is_reader e d) (λ list u r. (list, (r.height, r.is))) (λ u t. (t.0, has t.1.0 t.1.1)) turns ts n is

  pub deep : (e d turns : ℕ) (ts : List Sym) (n : ℕ) → whole_unit clauses e d turns ts ≡ Err (Deep n) → IsDeepPlace (IsText clauses) (IsTextWithin clauses (suc e) d) ts n
  deep e d turns ts n is = Readers.deep (is_reader e d) (λ list u r. (list, (r.height, r.is))) (λ u t. (t.0, record { height = t.1.0; is = t.1.1.0; most = t.1.1.1.0; fits = t.1.1.1.1 })) turns ts n is

  pub ends : (e d turns : ℕ) (ts : List Sym) → length ts < turns → whole_unit clauses e d turns ts ≡ Err Spent → ⊥
  ends e d turns ts l = Readers.ends (is_reader e d) turns ts l

  -- a list of tokens is the text of one unit at most
  pub one_list : (ts : List Sym) (a b : List ItemTree) (h k : ℕ) → AreItems clauses a h ts → AreItems clauses b k ts → a ≡ b
  one_list ts a b h k p q =
      let first = only (h + k) (unit_levels a + unit_levels b) (suc (length ts)) ts a h p (omega arith) (omega arith) (omega arith) in
      let second = only (h + k) (unit_levels a + unit_levels b) (suc (length ts)) ts b k q (omega arith) (omega arith) (omega arith) in
      let pairs : Path (List ItemTree × List Sym) (a, []) (b, []) = cc in
      ap (λ (z : List ItemTree × List Sym). z.0) pairs
