-- Whole statements: what is read is the grammar's and within the limits, what is so is read, and faults are at their places.
use Rattle.std.proofs.Common.{◌≡◌, ◌+◌, ◌≤◌, ◌<◌, ℕ, suc, Bool, true, false, List, [], length, Ok, Err, refl, sym, ap, ◌∙◌, append-nil, arith, true≢false}
use Rattle.vk_ast.specs.Statements.{StmtTree}
use Rattle.vk_grammar_expr.specs.declared.symbols.Sym.{Sym}
use Rattle.vk_grammar_expr.specs.declared.symbols.Keyword.TheVariants as keyword
use Rattle.vk_grammar_expr.specs.Inner.Parser.{Syntax, Deep, Spent}
use Rattle.vk_grammar_expr.specs.Symbols.{head}
use Rattle.vk_grammar_expr.specs.Texts.{IsPlace, IsDeepPlace}
use Rattle.vk_grammar_expr.proofs.Grown.{Room}
use Rattle.vk_grammar_stmt.specs.Words.{is_keyword}
use Rattle.vk_grammar_stmt.specs.Trees.{Clauses, levels_of}
use Rattle.vk_grammar_stmt.specs.Grammar.{IsStmt, IsStatement, IsStatementWithin}
use Rattle.vk_grammar_stmt.specs.Inner.Reading.{statement, whole_statement}
use Rattle.vk_grammar_stmt.proofs.Signs.{Has, has}
use Rattle.vk_grammar_stmt.proofs.Sound.{statement_follows}
use Rattle.vk_grammar_stmt.proofs.Grown.{statement_grows}
use Rattle.vk_grammar_stmt.proofs.Limits.{Fits, At, statement_takes}
use Rattle.vk_grammar_stmt.proofs.Whole.{stmt_reads}
use Rattle.vk_grammar_stmt.proofs.Readers
use Rattle.vk_grammar_stmt.proofs.Readers.{Above, IsReader}

pub same_room : {d : ℕ} {deep : Bool} → Room deep d d
same_room = record { above = omega arith; same = λ f. refl }

pub more_room : (d k : ℕ) → Room true d (d + k)
more_room d k = record { above = omega arith; same = λ f. absurd (true≢false f) }

no_else : is_keyword keyword.Else (head []) ≡ false
unfolding is_keyword
no_else = refl

module _ (clauses : Clauses) where
  reads : (e d turns : ℕ) (s : StmtTree) (h : ℕ) (u : List Sym) → IsStmt clauses s h u → h ≤ suc e → levels_of s ≤ d → length u < turns → statement clauses e turns d u ≡ Ok (s, [])
  reads e d turns s h u is hi lv l = ap (statement clauses e turns d) (sym (append-nil u)) ∙ (stmt_reads is).reads e turns d [] hi l lv (λ _. no_else)

  above : (e d : ℕ) (s : StmtTree) (h : ℕ) (u : List Sym) → IsStmt clauses s h u → Above (Has (IsStmt clauses)) (λ turns. statement clauses e turns d) s u
  above e d s h u is = record {
    reader = λ turns. statement clauses (e + h) turns (d + levels_of s);
    follows = λ turns w. statement_follows clauses (e + h) turns (d + levels_of s) w;
    grows = λ turns more_turns i. statement_grows clauses true e (e + h) turns more_turns (more_room e h) i d (d + levels_of s) (more_room d (levels_of s));
    reads = λ turns l. reads (e + h) (d + levels_of s) turns s h u is (omega arith) (omega arith) l;
  }

  pub is_reader : (e d : ℕ) → IsReader (Has (IsStmt clauses)) (Fits (IsStmt clauses) (At d) (suc e)) (λ turns. statement clauses e turns d)
  is_reader e d = record {
    follows = λ turns w. statement_follows clauses e turns d w;
    takes = λ turns w. statement_takes clauses e turns d w;
    grows = λ turns more_turns i. statement_grows clauses false e e turns more_turns same_room i d d same_room;
    reads = λ turns s u k l. reads e d turns s k.height u k.is k.most k.fits l;
    larger = λ s u r. above e d s r.height u r.is;
  }

  pub found : (e turns d : ℕ) (ts : List Sym) (s : StmtTree) (r : List Sym) → whole_statement clauses e turns d ts ≡ Ok (s, r) → (h : ℕ) × (IsStmt clauses s h ts × ((h ≤ suc e) × (levels_of s ≤ d)))
  found e turns d ts s r is = let k = Readers.found (is_reader e d) turns ts s r is in (k.height, (k.is, (k.most, k.fits)))

  pub only : (e turns d : ℕ) (ts : List Sym) (s : StmtTree) (h : ℕ) → IsStmt clauses s h ts → h ≤ suc e → levels_of s ≤ d → length ts < turns → whole_statement clauses e turns d ts ≡ Ok (s, [])
  only e turns d ts s h is hi lv l = Readers.only (is_reader e d) turns ts s (record { height = h; is = is; most = hi; fits = lv }) l

  pub refused : (e turns d : ℕ) (ts : List Sym) (n : ℕ) → whole_statement clauses e turns d ts ≡ Err (Syntax n) → IsPlace (IsStatement clauses) ts n
  refused e turns d ts n is = Readers.refused (is_reader e d) (λ s u r. (s, (r.height, r.is))) (λ u t. (t.0, has t.1.0 t.1.1)) turns ts n is

  pub deep : (e turns d : ℕ) (ts : List Sym) (n : ℕ) → whole_statement clauses e turns d ts ≡ Err (Deep n) → IsDeepPlace (IsStatement clauses) (IsStatementWithin clauses (suc e) d) ts n
  deep e turns d ts n is = Readers.deep (is_reader e d) (λ s u r. (s, (r.height, r.is))) (λ u t. (t.0, record { height = t.1.0; is = t.1.1.0; most = t.1.1.1.0; fits = t.1.1.1.1 })) turns ts n is

  pub ends : (e turns d : ℕ) (ts : List Sym) → length ts < turns → whole_statement clauses e turns d ts ≡ Err Spent → ⊥
  ends e turns d ts l = Readers.ends (is_reader e d) turns ts l

  -- a list of tokens is the text of one statement at most
  pub one_tree : (ts : List Sym) (a b : StmtTree) (h k : ℕ) → IsStmt clauses a h ts → IsStmt clauses b k ts → a ≡ b
  one_tree ts a b h k p q =
      let first = only (h + k) (suc (length ts)) (levels_of a + levels_of b) ts a h p (omega arith) (omega arith) (omega arith) in
      let second = only (h + k) (suc (length ts)) (levels_of a + levels_of b) ts b k q (omega arith) (omega arith) (omega arith) in
      let pairs : Path (StmtTree × List Sym) (a, []) (b, []) = cc in
      ap (λ (z : StmtTree × List Sym). z.0) pairs
