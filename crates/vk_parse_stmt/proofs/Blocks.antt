-- Lists of statements in blocks, as the grammar and the trees see them.
use Rattle.std.proofs.Common.{◌≡◌, ℕ, ◌+◌, ◌<◌, ◌≤◌, true, false, List, [], ◌∷◌, ◌++◌, length, map, Result, Ok, refl, sym, ap, ◌∙◌, arith, length-append}
use Rattle.std.proofs.lemmas.List.{append-nil, append_assoc, map-append}
use Rattle.vk_ast.specs.declared.statements.Stmt.{Stmt}
use Rattle.vk_ast.specs.Statements.{StmtTree, block, more_stmts, stmt_of, list_stmts}
use Rattle.vk_tokens.specs.declared.tokens.Mark.TheVariants as mark
use Rattle.vk_grammar_expr.specs.declared.symbols.Sym.{Sym}
use Rattle.vk_grammar_expr.specs.Symbols.{head}
use Rattle.vk_grammar_expr.specs.Inner.Parser.{Fault, pure, then_do, many}
use Rattle.vk_grammar_stmt.specs.Trees.{Clauses, stmts_in, joined, single}
use Rattle.vk_grammar_stmt.specs.Inner.Reading.{entry, is_not}
use Rattle.vk_parse_expr.specs.declared.fail.ReadFail.{ReadFail}
use Rattle.vk_parse_expr.specs.declared.fail.ReadFail.TheVariants as fails
use Rattle.vk_parse_expr.specs.Inner.Answers.{Fails}
use Rattle.vk_parse_stmt.specs.Inner.Answers.{entries}
use Rattle.vk_parse_stmt.proofs.Loops.{Going, begun, turned, stopped, done}

pub list_in : (ss : List Stmt) → list_stmts ss ≡ stmts_in (map stmt_of ss)
list_in [] = refl
list_in (s ∷ ss) = ap (more_stmts (stmt_of s)) (list_in ss)

-- one statement alone, and several or none
pub single_of_one : (l k : ℕ) (list front : List Stmt) (s : Stmt) → length list ≡ 1 → list ≡ front ++ s ∷ [] → single l k (map stmt_of list) ≡ stmt_of s
single_of_one l k list [] s one is = rw is refl
single_of_one l k list (x ∷ front) s one is = absurd (omega (arith, one, ap length is, length-append front (s ∷ [])))

pub single_of_several : (l k : ℕ) (list : List Stmt) → (length list ≡ 1 → ⊥) → single l k (map stmt_of list) ≡ block l k (stmts_in (map stmt_of list))
single_of_several l k [] more = refl
single_of_several l k (s ∷ []) more = absurd (more refl)
single_of_several l k (s ∷ (next ∷ rest)) more = refl

joined_push : (lists : List (List StmtTree)) (list : List StmtTree) → joined (lists ++ list ∷ []) ≡ joined lists ++ list
joined_push [] list = append-nil list
joined_push (x ∷ lists) list = ap (λ z. x ++ z) (joined_push lists list) ∙ sym (append_assoc x (joined lists) list)

-- what the readings of entries make
abbrev pub all_of : Result (List (List StmtTree) × List Sym) Fault → Result (List StmtTree × List Sym) Fault
all_of read = then_do read (λ lists. pure (joined lists))

-- Behind entries that made the statements `list`, `w` is left of all that `total` tells.
pub record Entering (clauses : Clauses) (d turns : ℕ) (list : List Stmt) (w : List Sym) (total : Result (List StmtTree × List Sym) Fault) : Type 0 where
  pub lists : List (List StmtTree)
  pub are : joined lists ≡ map stmt_of list
  pub read : Result (List (List StmtTree) × List Sym) Fault
  pub going : Going (is_not mark.CloseBrace) (entry clauses 63 turns d) lists w read
  pub told : all_of read ≡ total

module _ (clauses : Clauses) (d turns : ℕ) where
  pub at_first : (w : List Sym) → length w < turns → Entering clauses d turns [] w (entries clauses d turns w)
  at_first w l = record {
    lists = [];
    are = refl;
    read = many turns (is_not mark.CloseBrace) (entry clauses 63 turns d) w;
    going = begun (is_not mark.CloseBrace) (entry clauses 63 turns d) turns w l;
    told = refl;
  }

  pub next_entry : (list more : List Stmt) (w r : List Sym) (total : Result (List StmtTree × List Sym) Fault) → is_not mark.CloseBrace (head w) ≡ true
      → entry clauses 63 turns d w ≡ Ok (map stmt_of more, r) → length r + 1 ≤ length w → Entering clauses d turns list w total → Entering clauses d turns (list ++ more) r total
  next_entry list more w r total on is shorter e = record {
    lists = e.lists ++ map stmt_of more ∷ [];
    are = joined_push e.lists (map stmt_of more) ∙ ap (λ z. z ++ map stmt_of more) e.are ∙ sym (map-append stmt_of list more);
    read = e.read;
    going = turned (is_not mark.CloseBrace) (entry clauses 63 turns d) e.lists (map stmt_of more) w r e.read on is shorter e.going;
    told = e.told;
  }

  fault_of : (fail : ReadFail) (read : Result (List (List StmtTree) × List Sym) Fault) (total : Result (List StmtTree × List Sym) Fault) → Fails fail read → all_of read ≡ total → Fails fail total
  fault_of (fails.Syntax n) read total f told = sym told ∙ ap all_of f
  fault_of (fails.Deep n) read total f told = sym told ∙ ap all_of f
  fault_of fails.Memory read total f told = tt

  pub no_entry : (list : List Stmt) (fail : ReadFail) (w : List Sym) (total : Result (List StmtTree × List Sym) Fault) → is_not mark.CloseBrace (head w) ≡ true
      → Fails fail (entry clauses 63 turns d w) → Entering clauses d turns list w total → Fails fail total
  no_entry list fail w total on is e = fault_of fail e.read total (stopped (is_not mark.CloseBrace) (entry clauses 63 turns d) e.lists fail w e.read on is e.going) e.told

  pub at_last : (list : List Stmt) (w : List Sym) (total : Result (List StmtTree × List Sym) Fault) → is_not mark.CloseBrace (head w) ≡ false → Entering clauses d turns list w total
      → total ≡ Ok (map stmt_of list, w)
  at_last list w total on e =
      sym e.told ∙ ap all_of (done (is_not mark.CloseBrace) (entry clauses 63 turns d) e.lists w e.read on e.going) ∙ ap (λ z. Ok (z, w)) e.are
