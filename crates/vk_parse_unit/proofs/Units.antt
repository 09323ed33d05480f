-- Items of a unit, read one after the other as a loop does.
use Rattle.std.proofs.Common.{◌≡◌, ℕ, zero, suc, ◌+◌, ◌<◌, ◌≤◌, List, [], ◌∷◌, ◌++◌, length, Result, Ok, Err, refl, sym, ap, ◌∙◌, arith}
use Rattle.std.proofs.lemmas.List.{append-nil}
use Rattle.vk_ast.specs.Directives.{DirectiveTree}
use Rattle.vk_ast.specs.Units.{ItemTree}
use Rattle.vk_grammar_expr.specs.declared.symbols.Sym.{Sym}
use Rattle.vk_grammar_expr.specs.Inner.Parser.{Fault, Syntax, Deep, Parser, pure, then_do, look, pick, at_end, many, ◌>>=◌}
use Rattle.vk_grammar_stmt.specs.Trees.{Clauses}
use Rattle.vk_parse_expr.specs.declared.fail.ReadFail.{ReadFail}
use Rattle.vk_parse_expr.specs.declared.fail.ReadFail.TheVariants as fails
use Rattle.vk_parse_expr.specs.Inner.Answers.{Fails}
use Rattle.vk_grammar_unit.specs.Items.{is_end, line_at, lost_lines}
use Rattle.vk_grammar_unit.specs.Inner.Reading.{lines, item, items, items_step}
use Rattle.vk_parse_stmt.proofs.Loops.{behind, behind_none, behind_all}
use Rattle.vk_parse_unit.specs.Inner.Answers.{next_item}

items_none : (clauses : Clauses) (m n : ℕ) → items clauses 63 65 (suc m) (suc n) [] ≡ Ok ([], [])
unfolding items items_step lines many line_at
items_none clauses m n = refl

module _ (clauses : Clauses) (turns : ℕ) where
  -- behind the items `list`, `w` is left of all that `total` tells
  pub record Taken (list : List ItemTree) (w : List Sym) (total : Result (List ItemTree × List Sym) Fault) : Type 0 where
    pub left : ℕ
    pub enough : length w < left
    pub some : 0 < turns
    pub rest : behind list (items clauses 63 65 turns left w) ≡ total

  pub items_begun : (w : List Sym) → length w < turns → Taken [] w (items clauses 63 65 turns turns w)
  items_begun w l = record { left = turns; enough = l; some = omega arith; rest = behind_none (items clauses 63 65 turns turns w) }

  items_end : (n : ℕ) → 0 < turns → items clauses 63 65 turns (suc n) [] ≡ Ok ([], [])
  items_end n some = go turns some
    where
      go : (m : ℕ) → 0 < m → items clauses 63 65 m (suc n) [] ≡ Ok ([], [])
      go zero l = absurd (omega arith)
      go (suc m) l = items_none clauses m n

  -- what stands behind the lines of directives, by the reader of all items and by that of the next one
  abbrev all_behind : ℕ → List DirectiveTree → Parser (List ItemTree)
  all_behind n ls = look (λ s. pick (is_end s) (pure (lost_lines ls)) (item clauses 63 65 turns ls >>= (λ list. items clauses 63 65 turns n >>= (λ rest. pure (list ++ rest)))))

  abbrev next_behind : List DirectiveTree → Parser (List ItemTree)
  next_behind ls = look (λ s. pick (is_end s) (pure (lost_lines ls)) (item clauses 63 65 turns ls))

  behind_read : (n : ℕ) (read : Result (List DirectiveTree × List Sym) Fault) (list : List ItemTree) (r : List Sym) → 0 < turns → then_do read next_behind ≡ Ok (list, r)
      → then_do read (all_behind (suc n)) ≡ behind list (items clauses 63 65 turns (suc n) r)
  behind_read n (Err f) list r some e = absurd (cc)
  behind_read n (Ok (ls, [])) list r some e =
      let pairs : Path (List ItemTree × List Sym) (lost_lines ls, []) (list, r) = cc in
      let first : lost_lines ls ≡ list = ap (λ (z : List ItemTree × List Sym). z.0) pairs in
      let rest : r ≡ [] = sym (ap (λ (z : List ItemTree × List Sym). z.1) pairs) in
      rw (rest, items_end n some) (ap (λ z. Ok (z, [])) (first ∙ sym (append-nil list)))
  behind_read n (Ok (ls, t ∷ w)) list r some e = ap (λ read. then_do read (λ list. items clauses 63 65 turns (suc n) >>= (λ rest. pure (list ++ rest)))) e

  behind_fault : (n : ℕ) (read : Result (List DirectiveTree × List Sym) Fault) (f : Fault) → then_do read next_behind ≡ Err f → then_do read (all_behind n) ≡ Err f
  behind_fault n (Err f) g e = cc
  behind_fault n (Ok (ls, [])) g e = absurd (cc)
  behind_fault n (Ok (ls, t ∷ w)) g e = ap (λ read. then_do read (λ list. items clauses 63 65 turns n >>= (λ rest. pure (list ++ rest)))) e

  items_step_is : (n : ℕ) (w : List Sym) → items clauses 63 65 turns (suc n) w ≡ then_do (lines clauses turns w) (all_behind n)
  unfolding items items_step
  items_step_is n w = refl

  pub items_turned : (list more : List ItemTree) (w r : List Sym) (total : Result (List ItemTree × List Sym) Fault) → next_item clauses turns w ≡ Ok (more, r) → length r + 1 ≤ length w
      → Taken list w total → Taken (list ++ more) r total
  items_turned list more w r total is shorter g = go g.left g.enough g.some g.rest
    where
      go : (n : ℕ) → length w < n → 0 < turns → behind list (items clauses 63 65 turns n w) ≡ total → Taken (list ++ more) r total
      go zero l some rest = absurd (omega arith)
      go (suc zero) l some rest = absurd (omega arith)
      go (suc (suc n)) l some rest = record {
        left = suc n;
        enough = omega arith;
        some = some;
        rest = sym (behind_all list more (items clauses 63 65 turns (suc n) r)) ∙ sym (ap (behind list) (items_step_is (suc n) w ∙ behind_read n (lines clauses turns w) more r some is)) ∙ rest;
      }

  fault_in : (list : List ItemTree) (f : Fault) (w : List Sym) (total : Result (List ItemTree × List Sym) Fault) → next_item clauses turns w ≡ Err f → Taken list w total → total ≡ Err f
  fault_in list f w total is g = go g.left g.enough g.rest
    where
      go : (n : ℕ) → length w < n → behind list (items clauses 63 65 turns n w) ≡ total → total ≡ Err f
      go zero l rest = absurd (omega arith)
      go (suc n) l rest = sym rest ∙ ap (behind list) (items_step_is n w ∙ behind_fault n (lines clauses turns w) f is)

  pub items_stopped : (list : List ItemTree) (fail : ReadFail) (w : List Sym) (total : Result (List ItemTree × List Sym) Fault) → Fails fail (next_item clauses turns w) → Taken list w total
      → Fails fail (then_do total at_end)
  items_stopped list (fails.Syntax n) w total is g = ap (λ r. then_do r at_end) (fault_in list (Syntax n) w total is g)
  items_stopped list (fails.Deep n) w total is g = ap (λ r. then_do r at_end) (fault_in list (Deep n) w total is g)
  items_stopped list fails.Memory w total is g = tt

  pub items_done : (list : List ItemTree) (w : List Sym) (total : Result (List ItemTree × List Sym) Fault) → length w ≡ 0 → Taken list w total → then_do total at_end ≡ Ok (list, [])
  items_done list (t ∷ w) total ends g = absurd (omega arith)
  items_done list [] total ends g = go g.left g.enough g.some g.rest
    where
      go : (n : ℕ) → 0 < n → 0 < turns → behind list (items clauses 63 65 turns n []) ≡ total → then_do total at_end ≡ Ok (list, [])
      go zero l some rest = absurd (omega arith)
      go (suc n) l some rest = ap (λ r. then_do r at_end) (sym rest ∙ ap (behind list) (items_end n some)) ∙ ap (λ z. Ok (z, [])) (append-nil list)
