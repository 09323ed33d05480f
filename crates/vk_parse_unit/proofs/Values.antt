-- Values in braces, read one after the other as a loop does.
use Rattle.std.proofs.Common.{◌≡◌, ℕ, zero, suc, ◌+◌, ◌<◌, ◌≤◌, Bool, true, false, cond, List, [], ◌∷◌, ◌++◌, length, Option, Some, None, Result, Ok, Err, refl, sym, ap, ◌∙◌, arith}
use Rattle.std.proofs.lemmas.List.{append-nil}
use Rattle.vk_ast.specs.Tree.{Tree}
use Rattle.vk_tokens.specs.declared.tokens.Mark.TheVariants as mark
use Rattle.vk_grammar_expr.specs.declared.symbols.Sym.{Sym}
use Rattle.vk_grammar_expr.specs.Symbols.{head, is_sign}
use Rattle.vk_grammar_expr.specs.Grammar.{Tall, full}
use Rattle.vk_grammar_expr.specs.Inner.Parser.{Fault, Syntax, Deep, Parser, pure, then_do, pick, take, ◌>>=◌}
use Rattle.vk_grammar_expr.specs.Inner.Reading.{expression}
use Rattle.vk_grammar_stmt.specs.Inner.Reading.{cond as expression_here}
use Rattle.vk_parse_expr.specs.declared.fail.ReadFail.{ReadFail}
use Rattle.vk_parse_expr.specs.declared.fail.ReadFail.TheVariants as fails
use Rattle.vk_parse_expr.specs.Inner.Answers.{Fails}
use Rattle.vk_grammar_unit.specs.Inner.Reading.{value_behind, more_values, values}
use Rattle.vk_parse_stmt.proofs.Loops.{behind, behind_none, behind_both}
use Rattle.vk_parse_unit.specs.Inner.Answers.{behind_comma}

some_is : (r v : List Sym) → Path (Option (List Sym)) (Some r) (Some v) → r ≡ v
some_is r v e = cc

pub comma_shorter : (r v : List Sym) → behind_comma r ≡ Some v → length v + 1 ≤ length r
comma_shorter [] v e = absurd (cc)
comma_shorter (t ∷ r) v e = by_test (is_sign mark.Comma (Some t.kind)) e
  where
    by_test : (b : Bool) → cond b (Some r) None ≡ Some v → length v + 1 ≤ length (t ∷ r)
    by_test true e = let same : length r ≡ length v = ap length (some_is r v e) in omega (arith, same)
    by_test false e = absurd (cc)

-- Behind the values `list`, `w` is left of all that `total` tells.
pub record Valued (turns : ℕ) (list : List Tree) (w : List Sym) (total : Result (List Tree × List Sym) Fault) : Type 0 where
  pub left : ℕ
  pub enough : length w < left
  pub rest : behind list (value_behind 63 turns (more_values 63 turns left) w) ≡ total

module _ (turns : ℕ) where
  pub values_begun : (w : List Sym) → length w < turns → Valued turns [] w (values 63 turns w)
  unfolding values value_behind
  values_begun w l = record { left = turns; enough = l; rest = behind_none (values 63 turns w) }

  value_read : (next : Parser (List Tree)) (w r : List Sym) (a : Tall) → is_sign mark.CloseBrace (head w) ≡ false → expression turns 64 full w ≡ Ok (a, r)
      → value_behind 63 turns next w ≡ then_do (next r) (λ rest. pure (a.tree ∷ rest))
  unfolding value_behind expression_here
  value_read next w r a brace is = rw (brace, is) refl

  value_fault : (next : Parser (List Tree)) (w : List Sym) (f : Fault) → is_sign mark.CloseBrace (head w) ≡ false → expression turns 64 full w ≡ Err f → value_behind 63 turns next w ≡ Err f
  unfolding value_behind expression_here
  value_fault next w f brace is = rw (brace, is) refl

  value_none : (next : Parser (List Tree)) (w : List Sym) → is_sign mark.CloseBrace (head w) ≡ true → value_behind 63 turns next w ≡ Ok ([], w)
  unfolding value_behind
  value_none next w brace = rw brace refl

  comma_read : (n : ℕ) (r v : List Sym) → behind_comma r ≡ Some v → more_values 63 turns (suc n) r ≡ value_behind 63 turns (more_values 63 turns n) v
  unfolding more_values
  comma_read n [] v e = absurd (cc)
  comma_read n (t ∷ r) v e = by_test (is_sign mark.Comma (Some t.kind)) e
    where
      by_test : (b : Bool) → cond b (Some r) None ≡ Some v
          → pick b (take >>= (λ _. value_behind 63 turns (more_values 63 turns n))) (pure []) (t ∷ r) ≡ value_behind 63 turns (more_values 63 turns n) v
      by_test true e = let same : r ≡ v = cc in ap (value_behind 63 turns (more_values 63 turns n)) same
      by_test false e = absurd (cc)

  comma_none : (n : ℕ) (r : List Sym) → behind_comma r ≡ None → more_values 63 turns (suc n) r ≡ Ok ([], r)
  unfolding more_values is_sign
  comma_none n [] e = refl
  comma_none n (t ∷ r) e = by_test (is_sign mark.Comma (Some t.kind)) e
    where
      by_test : (b : Bool) → Path (Option (List Sym)) (cond b (Some r) None) None
          → pick b (take >>= (λ _. value_behind 63 turns (more_values 63 turns n))) (pure []) (t ∷ r) ≡ Ok ([], t ∷ r)
      by_test true e = absurd (cc)
      by_test false e = refl

  pub value_turned : (list : List Tree) (a : Tall) (w r v : List Sym) (total : Result (List Tree × List Sym) Fault) → is_sign mark.CloseBrace (head w) ≡ false
      → expression turns 64 full w ≡ Ok (a, r) → behind_comma r ≡ Some v → length v + 1 ≤ length w → Valued turns list w total → Valued turns (list ++ a.tree ∷ []) v total
  value_turned list a w r v total brace is comma shorter g = go g.left g.enough g.rest
    where
      go : (n : ℕ) → length w < n → behind list (value_behind 63 turns (more_values 63 turns n) w) ≡ total → Valued turns (list ++ a.tree ∷ []) v total
      go zero l rest = absurd (omega arith)
      go (suc n) l rest = record {
        left = n;
        enough = omega arith;
        rest = sym (behind_both list a.tree (value_behind 63 turns (more_values 63 turns n) v))
            ∙ sym (ap (λ read. behind list (then_do read (λ rest. pure (a.tree ∷ rest)))) (comma_read n r v comma))
            ∙ sym (ap (behind list) (value_read (more_values 63 turns (suc n)) w r a brace is)) ∙ rest;
      }

  pub value_last : (list : List Tree) (a : Tall) (w r : List Sym) (total : Result (List Tree × List Sym) Fault) → is_sign mark.CloseBrace (head w) ≡ false
      → expression turns 64 full w ≡ Ok (a, r) → behind_comma r ≡ None → Valued turns list w total → total ≡ Ok (list ++ a.tree ∷ [], r)
  value_last list a w r total brace is comma g = go g.left g.enough g.rest
    where
      go : (n : ℕ) → length w < n → behind list (value_behind 63 turns (more_values 63 turns n) w) ≡ total → total ≡ Ok (list ++ a.tree ∷ [], r)
      go zero l rest = absurd (omega arith)
      go (suc n) l rest = sym rest ∙ ap (behind list) (value_read (more_values 63 turns (suc n)) w r a brace is)
          ∙ ap (λ read. behind list (then_do read (λ rest. pure (a.tree ∷ rest)))) (comma_none n r comma)

  fault_in : (list : List Tree) (f : Fault) (w : List Sym) (total : Result (List Tree × List Sym) Fault) → is_sign mark.CloseBrace (head w) ≡ false → expression turns 64 full w ≡ Err f
      → Valued turns list w total → total ≡ Err f
  fault_in list f w total brace is g = sym g.rest ∙ ap (behind list) (value_fault (more_values 63 turns g.left) w f brace is)

  pub value_stopped : (list : List Tree) (fail : ReadFail) (w : List Sym) (total : Result (List Tree × List Sym) Fault) → is_sign mark.CloseBrace (head w) ≡ false
      → Fails fail (expression turns 64 full w) → Valued turns list w total → Fails fail total
  value_stopped list (fails.Syntax n) w total brace is g = fault_in list (Syntax n) w total brace is g
  value_stopped list (fails.Deep n) w total brace is g = fault_in list (Deep n) w total brace is g
  value_stopped list fails.Memory w total brace is g = tt

  pub values_done : (list : List Tree) (w : List Sym) (total : Result (List Tree × List Sym) Fault) → is_sign mark.CloseBrace (head w) ≡ true → Valued turns list w total → total ≡ Ok (list, w)
  values_done list w total brace g =
      sym g.rest ∙ ap (behind list) (value_none (more_values 63 turns g.left) w brace) ∙ ap (λ z. Ok (z, w)) (append-nil list)
