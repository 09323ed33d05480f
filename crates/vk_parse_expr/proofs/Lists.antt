-- Lists of arguments, read one after the other as a loop does.
use Rattle.std.proofs.Common.{◌≡◌, ℕ, zero, suc, ◌+◌, ◌<◌, ◌≤◌, max, true, false, List, [], ◌∷◌, ◌++◌, length, Result, Ok, Err, refl, sym, ap, ◌∙◌, arith}
use Rattle.vk_ast.specs.declared.expressions.Expr.{Expr}
use Rattle.vk_ast.specs.Tree.{Trees, no_trees, more_trees, expr_of, exprs_of}
use Rattle.vk_tokens.specs.declared.tokens.Mark.TheVariants as mark
use Rattle.vk_grammar_expr.specs.declared.symbols.Sym.{Sym}
use Rattle.vk_grammar_expr.specs.Symbols.{head, is_sign}
use Rattle.vk_grammar_expr.specs.Grammar.{Tall, tall, trees_in, greatest, full}
use Rattle.vk_grammar_expr.specs.Inner.Parser.{Fault, Syntax, Deep, Parser, pure, then_do, many}
use Rattle.vk_grammar_expr.specs.Inner.Reading.{later_argument, some_arguments, expression}
use Rattle.vk_parse_expr.specs.declared.fail.ReadFail.{ReadFail}
use Rattle.vk_parse_expr.specs.declared.fail.ReadFail.TheVariants as fails
use Rattle.vk_parse_expr.specs.Inner.Answers.{Fails, summed}

-- trees behind those of a list
abbrev pub trees_behind : List Expr → Trees → Trees
trees_behind [] t = t
trees_behind (e ∷ es) t = more_trees (expr_of e) (trees_behind es t)

behind_push : (es : List Expr) (e : Expr) (t : Trees) → trees_behind (es ++ e ∷ []) t ≡ trees_behind es (more_trees (expr_of e) t)
behind_push [] e t = refl
behind_push (x ∷ es) e t = ap (more_trees (expr_of x)) (behind_push es e t)

behind_end : (es : List Expr) → trees_behind es no_trees ≡ exprs_of es
behind_end [] = refl
behind_end (x ∷ es) = ap (more_trees (expr_of x)) (behind_end es)

-- what is still read, behind arguments whose greatest height is `h`
abbrev pub joined : List Expr → ℕ → Result (List Tall × List Sym) Fault → Result ((Trees × ℕ) × List Sym) Fault
joined es h read = then_do read (λ list. pure (trees_behind es (trees_in list), max h (greatest list)))

first_joined : (e : Expr) (h : ℕ) (read : Result (List Tall × List Sym) Fault)
    → then_do (then_do read (λ rest. pure (tall (expr_of e) h ∷ rest))) (λ list. pure (trees_in list, greatest list)) ≡ joined (e ∷ []) h read
first_joined e h (Ok x) = refl
first_joined e h (Err f) = refl

next_joined : (es : List Expr) (h : ℕ) (e : Expr) (k : ℕ) (read : Result (List Tall × List Sym) Fault)
    → joined es h (then_do read (λ list. pure (tall (expr_of e) k ∷ list))) ≡ joined (es ++ e ∷ []) (max h k) read
next_joined es h e k (Ok x) =
    let heights : max (max h k) (greatest x.0) ≡ max h (max k (greatest x.0)) = omega arith in
    rw (behind_push es e (trees_in x.0), heights) refl
next_joined es h e k (Err f) = refl

abbrev pub later : (below turns n : ℕ) → Parser (List Tall)
later below turns n = many n (is_sign mark.Comma) (later_argument below turns (expression turns below))

-- Behind the arguments `es`, `w` is left of all that `total` is told of.
pub record Going (below turns : ℕ) (es : List Expr) (h : ℕ) (w : List Sym) (total : Result ((Trees × ℕ) × List Sym) Fault) : Type 0 where
  pub left : ℕ
  pub enough : length w < left
  pub so_far : joined es h (later below turns left w) ≡ total

pub first_turn : (below turns : ℕ) (e : Expr) (h : ℕ) (w r : List Sym) → length w < turns → length r + 1 ≤ length w → expression turns below full w ≡ Ok (tall (expr_of e) h, r)
    → Going below turns (e ∷ []) h r (summed (some_arguments below turns (expression turns below)) w)
unfolding some_arguments
first_turn below turns e h w r l i is = record {
  left = turns;
  enough = omega arith;
  so_far = rw is (sym (first_joined e h (later below turns turns r)));
}

turned : (below turns n : ℕ) (es : List Expr) (h : ℕ) (e : Expr) (k : ℕ) (w r : List Sym) → is_sign mark.Comma (head w) ≡ true
    → later_argument below turns (expression turns below) w ≡ Ok (tall (expr_of e) k, r)
    → joined es h (later below turns (suc n) w) ≡ joined (es ++ e ∷ []) (max h k) (later below turns n r)
unfolding many
turned below turns n es h e k w r comma is = rw (comma, is) (next_joined es h e k (later below turns n r))

pub one_turn : (below turns : ℕ) (es : List Expr) (h : ℕ) (e : Expr) (k : ℕ) (w r : List Sym) (total : Result ((Trees × ℕ) × List Sym) Fault) → is_sign mark.Comma (head w) ≡ true
    → later_argument below turns (expression turns below) w ≡ Ok (tall (expr_of e) k, r) → length r + 1 ≤ length w
    → Going below turns es h w total → Going below turns (es ++ e ∷ []) (max h k) r total
one_turn below turns es h e k w r total comma is shorter g = go g.left g.enough g.so_far
  where
    go : (n : ℕ) → length w < n → joined es h (later below turns n w) ≡ total → Going below turns (es ++ e ∷ []) (max h k) r total
    go zero l so_far = absurd (omega arith)
    go (suc n) l so_far = record { left = n; enough = omega arith; so_far = sym (turned below turns n es h e k w r comma is) ∙ so_far }

stopped : (below turns n : ℕ) (es : List Expr) (h : ℕ) (f : Fault) (w : List Sym) → is_sign mark.Comma (head w) ≡ true
    → later_argument below turns (expression turns below) w ≡ Err f → joined es h (later below turns (suc n) w) ≡ Err f
unfolding many
stopped below turns n es h f w comma is = rw (comma, is) refl

fault_turn : (below turns : ℕ) (es : List Expr) (h : ℕ) (f : Fault) (w : List Sym) (total : Result ((Trees × ℕ) × List Sym) Fault) → is_sign mark.Comma (head w) ≡ true
    → later_argument below turns (expression turns below) w ≡ Err f → Going below turns es h w total → total ≡ Err f
fault_turn below turns es h f w total comma is g = go g.left g.enough g.so_far
  where
    go : (n : ℕ) → length w < n → joined es h (later below turns n w) ≡ total → total ≡ Err f
    go zero l so_far = absurd (omega arith)
    go (suc n) l so_far = sym so_far ∙ stopped below turns n es h f w comma is

pub last_turn : (below turns : ℕ) (es : List Expr) (h : ℕ) (fail : ReadFail) (w : List Sym) (total : Result ((Trees × ℕ) × List Sym) Fault) → is_sign mark.Comma (head w) ≡ true
    → Fails fail (later_argument below turns (expression turns below) w) → Going below turns es h w total → Fails fail total
last_turn below turns es h (fails.Syntax n) w total comma is g = fault_turn below turns es h (Syntax n) w total comma is g
last_turn below turns es h (fails.Deep n) w total comma is g = fault_turn below turns es h (Deep n) w total comma is g
last_turn below turns es h fails.Memory w total comma is g = tt

done : (below turns n : ℕ) (es : List Expr) (h : ℕ) (w : List Sym) → is_sign mark.Comma (head w) ≡ false → joined es h (later below turns (suc n) w) ≡ Ok ((exprs_of es, h), w)
unfolding many
done below turns n es h w comma = let heights : max h 0 ≡ h = omega arith in rw (comma, behind_end es, heights) refl

pub no_turn : (below turns : ℕ) (es : List Expr) (h : ℕ) (w : List Sym) (total : Result ((Trees × ℕ) × List Sym) Fault) → is_sign mark.Comma (head w) ≡ false → Going below turns es h w total
    → total ≡ Ok ((exprs_of es, h), w)
no_turn below turns es h w total comma g = go g.left g.enough g.so_far
  where
    go : (n : ℕ) → length w < n → joined es h (later below turns n w) ≡ total → total ≡ Ok ((exprs_of es, h), w)
    go zero l so_far = absurd (omega arith)
    go (suc n) l so_far = sym so_far ∙ done below turns n es h w comma
