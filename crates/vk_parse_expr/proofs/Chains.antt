-- One turn of the loops behind an operand: an operator and its right operand, or a subscript.
use Rattle.std.proofs.Common.{◌≡◌, ℕ, zero, suc, max, ◌+◌, ◌<◌, ◌≤◌, true, List, Some, Result, Ok, refl, sym, ap, ◌∙◌, subst, arith, le-leb}
use Rattle.vk_ast.specs.declared.expressions.BinOp.{BinOp}
use Rattle.vk_ast.specs.Tree.{binary, index}
use Rattle.vk_tokens.specs.declared.tokens.Mark.TheVariants as mark
use Rattle.vk_grammar_expr.specs.declared.symbols.Sym.{Sym}
use Rattle.vk_grammar_expr.specs.Symbols.{head, is_sign, operator_at}
use Rattle.vk_grammar_expr.specs.Grammar.{Tall, tall, level, full}
use Rattle.vk_grammar_expr.specs.Inner.Parser.{Fault, take, expect}
use Rattle.vk_grammar_expr.specs.Inner.Reading.{expression, operators, operator_step, right_operand, subscripts, subscript_step, subscript}

module _ (below turns l k : ℕ) (w r s : List Sym) (t : Sym) (a b : Tall) where
  operator_turn : (m n : ℕ) (o : BinOp) → operator_at (n + 1) (head w) ≡ Some o → a.height ≤ below → take w ≡ Ok (t, r) → expression turns below (level n) r ≡ Ok (b, s)
      → operators below turns (expression turns below) (suc m) n l k a w
      ≡ operators below turns (expression turns below) m n l k (tall (binary l k o a.tree b.tree) (max a.height b.height + 1)) s
  unfolding operators operator_step right_operand
  operator_turn m n o here low first right =
      let next : suc n ≡ n + 1 = omega arith in
      let high : suc (max a.height b.height) ≡ max a.height b.height + 1 = omega arith in
      rw (next, here, le-leb a.height below low, first, right, high) refl

  -- the turns that are left are enough, since the height of the tree has grown
  pub operator_read : (R : Result (Tall × List Sym) Fault → Type 0) (n : ℕ) (o : BinOp) (c : Tall) → operator_at (n + 1) (head w) ≡ Some o → a.height ≤ below → take w ≡ Ok (t, r)
      → expression turns below (level n) r ≡ Ok (b, s) → c ≡ tall (binary l k o a.tree b.tree) (max a.height b.height + 1)
      → ((j : ℕ) → below < j + c.height → R (operators below turns (expression turns below) (suc j) n l k c s))
      → (m : ℕ) → below < m + a.height → R (operators below turns (expression turns below) (suc m) n l k a w)
  operator_read R n o c here low first right is rest zero i = absurd (omega arith)
  operator_read R n o c here low first right is rest (suc m) i =
      let grown : c.height ≡ max a.height b.height + 1 = ap (λ (z : Tall). z.height) is in
      let turn = operator_turn (suc m) n o here low first right ∙ ap (λ z. operators below turns (expression turns below) (suc m) n l k z s) (sym is) in
      subst R (sym turn) (rest m (omega arith))

module _ (below turns l k : ℕ) (w r s z : List Sym) (t v : Sym) (a b : Tall) where
  subscript_turn : (m : ℕ) → is_sign mark.OpenBracket (head w) ≡ true → a.height ≤ below → take w ≡ Ok (t, r) → expression turns below full r ≡ Ok (b, s)
      → expect mark.CloseBracket s ≡ Ok (v, z)
      → subscripts below turns (expression turns below) (suc m) l k a w
      ≡ subscripts below turns (expression turns below) m l k (tall (index l k a.tree b.tree) (max a.height b.height + 1)) z
  unfolding subscripts subscript_step subscript
  subscript_turn m here low first inner last =
      let high : suc (max a.height b.height) ≡ max a.height b.height + 1 = omega arith in
      rw (here, le-leb a.height below low, first, inner, last, high) refl

  pub subscript_read : (R : Result (Tall × List Sym) Fault → Type 0) (c : Tall) → is_sign mark.OpenBracket (head w) ≡ true → a.height ≤ below → take w ≡ Ok (t, r)
      → expression turns below full r ≡ Ok (b, s) → expect mark.CloseBracket s ≡ Ok (v, z) → c ≡ tall (index l k a.tree b.tree) (max a.height b.height + 1)
      → ((j : ℕ) → below < j + c.height → R (subscripts below turns (expression turns below) (suc j) l k c z))
      → (m : ℕ) → below < m + a.height → R (subscripts below turns (expression turns below) (suc m) l k a w)
  subscript_read R c here low first inner last is rest zero i = absurd (omega arith)
  subscript_read R c here low first inner last is rest (suc m) i =
      let grown : c.height ≡ max a.height b.height + 1 = ap (λ (z : Tall). z.height) is in
      let turn = subscript_turn (suc m) here low first inner last ∙ ap (λ x. subscripts below turns (expression turns below) (suc m) l k x z) (sym is) in
      subst R (sym turn) (rest m (omega arith))
