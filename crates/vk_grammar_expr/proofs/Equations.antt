-- What each reader of expressions tells of a text, given what is told of its parts.
use Rattle.std.proofs.Common.{◌≡◌, ℕ, zero, suc, max, ◌≤◌, ◌<◌, Bool, true, false, List, [], ◌∷◌, ◌++◌, length, Option, None, Ok, refl, sym, arith, true≢false, le-leb}
use Rattle.vk_types.specs.declared.types.Ty.{Ty}
use Rattle.vk_ast.specs.declared.names.NameId.{NameId}
use Rattle.vk_ast.specs.declared.expressions.BinOp.{BinOp}
use Rattle.vk_ast.specs.Tree.{Tree}
use Rattle.vk_tokens.specs.declared.tokens.Mark.{Mark}
use Rattle.vk_tokens.specs.declared.tokens.Mark.TheVariants as mark
use Rattle.vk_grammar_expr.specs.declared.symbols.Sym.{Sym}
use Rattle.vk_grammar_expr.specs.declared.symbols.SymKind.{SymKind}
use Rattle.vk_grammar_expr.specs.declared.symbols.SymKind.TheVariants as kind
use Rattle.vk_grammar_expr.specs.declared.symbols.Prefix.{Prefix}
use Rattle.vk_grammar_expr.specs.Symbols.{head, Is, IsSign, is_sign, same_mark, IsPrefix, prefix_at, prefix_of, IsOperator, operator_at, is_type_part}
use Rattle.vk_grammar_expr.specs.Types.{type_in, AreTypeParts, no_parts, a_part, IsType, words_of, has_words}
use Rattle.vk_grammar_expr.specs.Grammar.{Tall, tall, trees_in, greatest, prefixed, Sort, level, full}
use Rattle.vk_grammar_expr.specs.Inner.Parser.{Parser, take, expect, many}
use Rattle.vk_grammar_expr.specs.Inner.Reading.{type_words, later_argument, some_arguments, arguments, call_of, named, atom, subscript, subscript_step, subscripts, post, group, cast_of, behind_paren, paren, prefix_operand, prefix_sign, unaries, right_operand, operator_step, operators, branches, choices}
use Rattle.vk_grammar_expr.proofs.Signs.{sign_is}

pub expect_reads : {m : Mark} {t : Sym} {r : List Sym} → IsSign m t → expect m (t ∷ r) ≡ Ok (t, r)
expect_reads {m} {t} {r} i = rw (sign_is i)

-- ---- lists of items

pub many_end : {A : Type 0} (test : Option SymKind → Bool) (item : Parser A) (n : ℕ) (r : List Sym) → test (head r) ≡ false → many (suc n) test item r ≡ Ok ([], r)
unfolding many
many_end test item n r e = rw e

pub many_more : {A : Type 0} {a : A} {list : List A} (test : Option SymKind → Bool) (item : Parser A) (n : ℕ) (w y r : List Sym) → test (head w) ≡ true → item w ≡ Ok (a, y)
    → many n test item y ≡ Ok (list, r) → many (suc n) test item w ≡ Ok (a ∷ list, r)
unfolding many
many_more test item n w y r e i f = rw (e, i, f)

-- ---- one function after the other

module _ (d turns : ℕ) (sub : Sort → Parser Tall) where
  pub int_reads : {t : Sym} {ty : Ty} {n : ℕ} (r : List Sym) → Is (kind.Int ty n) t
      → unaries d turns sub (t ∷ r) ≡ subscripts d turns sub (suc d) t.line t.at (tall (Tree.int t.line t.at ty n) 1) r
  unfolding unaries post atom prefix_at is_sign
  int_reads r i = rw i.is

  pub name_reads : {t : Sym} {id : NameId} (r : List Sym) → Is (kind.Name id) t → is_sign mark.OpenParen (head r) ≡ false
      → unaries d turns sub (t ∷ r) ≡ subscripts d turns sub (suc d) t.line t.at (tall (Tree.name t.line t.at id) 1) r
  unfolding unaries post atom named prefix_at is_sign
  name_reads r i e = rw (i.is, e)

  pub subscript_reads : (m l k : ℕ) (a : Tall) {i : Tall} {u v : Sym} (y r : List Sym) → IsSign mark.OpenBracket u → a.height ≤ d → sub full (y ++ (v ∷ r)) ≡ Ok (i, v ∷ r)
      → IsSign mark.CloseBracket v
      → subscripts d turns sub (suc m) l k a (u ∷ (y ++ (v ∷ r))) ≡ subscripts d turns sub m l k (tall (Tree.index l k a.tree i.tree) (suc (max a.height i.height))) r
  unfolding subscripts subscript_step subscript
  subscript_reads m l k a y r opens h e shuts = rw (sign_is opens, le-leb a.height d h, e, sign_is shuts)

  pub subscripts_end : (m l k : ℕ) (a : Tall) (r : List Sym) → is_sign mark.OpenBracket (head r) ≡ false → subscripts d turns sub (suc m) l k a r ≡ Ok (a, r)
  unfolding subscripts subscript_step
  subscripts_end m l k a r e = rw e

  pub call_reads : {t u v : Sym} {id : NameId} {list : List Tall} (x r : List Sym) → Is (kind.Name id) t → IsSign mark.OpenParen u → arguments d turns sub (x ++ (v ∷ r)) ≡ Ok (list, v ∷ r)
      → IsSign mark.CloseParen v
      → unaries d turns sub (t ∷ (u ∷ (x ++ (v ∷ r)))) ≡ subscripts d turns sub (suc d) t.line t.at (tall (Tree.call t.line t.at id (trees_in list)) (suc (greatest list))) r
  unfolding unaries post atom named call_of prefix_at is_sign
  call_reads x r i opens e shuts = rw (i.is, sign_is opens, e, sign_is shuts)

  pub paren_reads : {u : Sym} (w : List Sym) → IsSign mark.OpenParen u → 0 < d → unaries d turns sub (u ∷ w) ≡ behind_paren d turns sub u w
  unfolding unaries paren prefix_at prefix_of is_sign same_mark
  paren_reads w opens h = rw (opens.is, le-leb 1 d h)

  pub group_reads : (u : Sym) {v : Sym} {e : Tall} (x r : List Sym) → is_type_part (head (x ++ (v ∷ r))) ≡ false → sub full (x ++ (v ∷ r)) ≡ Ok (e, v ∷ r) → IsSign mark.CloseParen v
      → behind_paren d turns sub u (x ++ (v ∷ r)) ≡ subscripts d turns sub (suc d) u.line u.at (tall e.tree (suc e.height)) r
  unfolding behind_paren group
  group_reads u x r no_type e shuts = rw (no_type, e, sign_is shuts)

  pub cast_reads : (u : Sym) {v : Sym} {c : List Sym} {e : Tall} (w x r : List Sym) → is_type_part (head w) ≡ true → type_words turns w ≡ Ok (c, v ∷ (x ++ r)) → IsSign mark.CloseParen v
      → sub (level 0) (x ++ r) ≡ Ok (e, r)
      → behind_paren d turns sub u w ≡ Ok (tall (Tree.cast u.line u.at (type_in c) e.tree) (suc e.height), r)
  unfolding behind_paren cast_of
  cast_reads u w x r type c shuts e = rw (type, c, sign_is shuts, e)

  pub prefix_reads : {p : Prefix} {t : Sym} {e : Tall} (x r : List Sym) → IsPrefix p t → 0 < d → sub (level 0) (x ++ r) ≡ Ok (e, r)
      → unaries d turns sub (t ∷ (x ++ r)) ≡ Ok (tall (prefixed p t.line t.at e.tree) (suc e.height), r)
  unfolding unaries prefix_sign prefix_operand
  prefix_reads x r i h e = rw (i.is, le-leb 1 d h, e)

  pub operator_reads : (m n l k : ℕ) (a : Tall) {b : Tall} {o : BinOp} {t : Sym} (y r : List Sym) → IsOperator (suc n) o t → a.height ≤ d → sub (level n) (y ++ r) ≡ Ok (b, r)
      → operators d turns sub (suc m) n l k a (t ∷ (y ++ r)) ≡ operators d turns sub m n l k (tall (Tree.binary l k o a.tree b.tree) (suc (max a.height b.height))) r
  unfolding operators operator_step right_operand
  operator_reads m n l k a y r i h e = rw (i.is, le-leb a.height d h, e)

  pub operators_end : (m n l k : ℕ) (a : Tall) (r : List Sym) → operator_at (suc n) (head r) ≡ None → operators d turns sub (suc m) n l k a r ≡ Ok (a, r)
  unfolding operators operator_step
  operators_end m n l k a r e = rw e

  pub choice_reads : (l k : ℕ) (c : Tall) {a b : Tall} {u v : Sym} (y z r : List Sym) → IsSign mark.Question u → c.height ≤ d → sub full (y ++ (v ∷ (z ++ r))) ≡ Ok (a, v ∷ (z ++ r))
      → IsSign mark.Colon v → sub full (z ++ r) ≡ Ok (b, r)
      → choices d turns sub l k c (u ∷ (y ++ (v ∷ (z ++ r)))) ≡ Ok (tall (Tree.choice l k c.tree a.tree b.tree) (suc (max c.height (max a.height b.height))), r)
  unfolding choices branches
  choice_reads l k c y z r i h e j f = rw (sign_is i, le-leb c.height d h, e, sign_is j, f)

  pub choice_end : (l k : ℕ) (c : Tall) (r : List Sym) → is_sign mark.Question (head r) ≡ false → choices d turns sub l k c r ≡ Ok (c, r)
  unfolding choices
  choice_end l k c r e = rw e

  -- ---- arguments

  pub no_arguments : {v : Sym} (r : List Sym) → IsSign mark.CloseParen v → arguments d turns sub (v ∷ r) ≡ Ok ([], v ∷ r)
  unfolding arguments
  no_arguments r i = rw (sign_is i)

  pub arguments_read : {e : Tall} {list : List Tall} (w y r : List Sym) → is_sign mark.CloseParen (head w) ≡ false → sub full w ≡ Ok (e, y)
      → many turns (is_sign mark.Comma) (later_argument d turns sub) y ≡ Ok (list, r) → arguments d turns sub w ≡ Ok (e ∷ list, r)
  unfolding arguments some_arguments
  arguments_read w y r i e f = rw (i, e, f)

  pub later_reads : {t : Sym} {e : Tall} (w y : List Sym) → IsSign mark.Comma t → sub full w ≡ Ok (e, y) → later_argument d turns sub (t ∷ w) ≡ Ok (e, y)
  unfolding later_argument
  later_reads w y i e = e

-- ---- types

pub parts_read : {c : List Sym} (n : ℕ) (r : List Sym) → AreTypeParts c → length c < n → is_type_part (head r) ≡ false → many n is_type_part take (c ++ r) ≡ Ok (c, r)
parts_read zero r d i e = absurd (omega arith)
parts_read (suc n) r no_parts i e = many_end is_type_part take n r e
parts_read (suc n) r (a_part {t = t} {rest = rest} p d) i e = many_more is_type_part take n (t ∷ (rest ++ r)) (rest ++ r) r p refl (parts_read n r d (omega arith) e)

pub words_read : {c : List Sym} (turns : ℕ) (r : List Sym) → IsType c → length c < turns → is_type_part (head r) ≡ false → type_words turns (c ++ r) ≡ Ok (c, r)
unfolding type_words
words_read turns r t i e = rw (parts_read turns r t.parts i e, t.has)

pub type_begins : {c : List Sym} (r : List Sym) → IsType c → is_type_part (head (c ++ r)) ≡ true
unfolding words_of
type_begins r t = go t.parts t.has
  where
    go : {c : List Sym} → AreTypeParts c → has_words (words_of c) ≡ true → is_type_part (head (c ++ r)) ≡ true
    go no_parts h = absurd (true≢false (sym h))
    go (a_part p d) h = p
