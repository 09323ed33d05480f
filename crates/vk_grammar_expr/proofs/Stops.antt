-- Tokens that end an expression, and tokens that begin one.
use Rattle.std.proofs.Common.{◌≡◌, ℕ, suc, ◌<◌, ◌==◌, Bool, true, false, cond, Option, Some, None, refl, sym, ap, ◌∙◌, subst, arith, true≢false, eqb-true}
use Rattle.vk_tokens.specs.declared.tokens.Mark.{Mark}
use Rattle.vk_tokens.specs.declared.tokens.Mark.TheVariants as mark
use Rattle.vk_ast.specs.declared.expressions.BinOp.{BinOp}
use Rattle.vk_grammar_expr.specs.declared.symbols.Sym.{Sym}
use Rattle.vk_grammar_expr.specs.declared.symbols.SymKind.{SymKind}
use Rattle.vk_grammar_expr.specs.declared.symbols.SymKind.TheVariants as kind
use Rattle.vk_grammar_expr.specs.declared.symbols.Operator.{Operator}
use Rattle.vk_grammar_expr.specs.Symbols.{IsSign, is_sign, same_mark, operator_of, operator_at, if_level, IsOperator, is_start, is_type_part}
use Rattle.vk_grammar_expr.specs.Grammar.{Sort, level, full}
use Rattle.vk_grammar_expr.proofs.Signs.{sign_kind}

-- a token, or the end, that goes on with no expression of this level
pub record StopsAt (n : ℕ) (k : Option SymKind) : Type 0 where
  pub paren : is_sign mark.OpenParen k ≡ false
  pub bracket : is_sign mark.OpenBracket k ≡ false
  pub operators : (m : ℕ) → m < n → operator_at (suc m) k ≡ None

-- nor with a whole one
pub record StopsAll (k : Option SymKind) : Type 0 where
  pub levels : StopsAt 10 k
  pub question : is_sign mark.Question k ≡ false

abbrev pub Stops : Sort → Option SymKind → Type 0
Stops (level n) k = StopsAt n k
Stops full k = StopsAll k

pub lower_stops : (n : ℕ) {k : Option SymKind} → StopsAt (suc n) k → StopsAt n k
lower_stops n s = record { paren = s.paren; bracket = s.bracket; operators = λ m i. s.operators m (omega arith) }

-- ---- the end, and signs that are no operators

pub end_stops : StopsAll None
unfolding is_sign operator_at
end_stops = record { levels = record { paren = refl; bracket = refl; operators = λ m i. refl }; question = refl }

mark_stops : (m : Mark) (n : ℕ) → operator_of m ≡ None → same_mark m mark.OpenParen ≡ false → same_mark m mark.OpenBracket ≡ false → StopsAt n (Some (kind.Sign m))
unfolding is_sign operator_at
mark_stops m n o p b = record { paren = p; bracket = b; operators = λ k i. ap (if_level (suc k)) o }

pub sign_stops : {m : Mark} {t : Sym} → IsSign m t → operator_of m ≡ None → same_mark m mark.OpenParen ≡ false → same_mark m mark.OpenBracket ≡ false → same_mark m mark.Question ≡ false
    → StopsAll (Some t.kind)
unfolding is_sign
sign_stops {m} {t} i o p b q = subst (λ k. StopsAll (Some k)) (sym i.is) (record { levels = mark_stops m 10 o p b; question = q })

pub close_paren_stops : {t : Sym} → IsSign mark.CloseParen t → StopsAll (Some t.kind)
unfolding same_mark operator_of
close_paren_stops i = sign_stops i refl refl refl refl

pub close_bracket_stops : {t : Sym} → IsSign mark.CloseBracket t → StopsAll (Some t.kind)
unfolding same_mark operator_of
close_bracket_stops i = sign_stops i refl refl refl refl

pub comma_stops : {t : Sym} → IsSign mark.Comma t → StopsAll (Some t.kind)
unfolding same_mark operator_of
comma_stops i = sign_stops i refl refl refl refl

pub colon_stops : {t : Sym} → IsSign mark.Colon t → StopsAll (Some t.kind)
unfolding same_mark operator_of
colon_stops i = sign_stops i refl refl refl refl

pub question_stops : {t : Sym} → IsSign mark.Question t → StopsAt 10 (Some t.kind)
unfolding same_mark operator_of
question_stops i = subst (λ k. StopsAt 10 (Some k)) (sym i.is) (mark_stops mark.Question 10 refl refl refl)

pub no_open_paren : {t : Sym} → IsSign mark.OpenBracket t → is_sign mark.OpenParen (Some t.kind) ≡ false
unfolding is_sign same_mark
no_open_paren i = subst (λ k. is_sign mark.OpenParen (Some k) ≡ false) (sym i.is) refl

-- ---- operators

differ : (l n m : ℕ) (p b : BinOp) (x y : Bool) → (l == suc n) ≡ x → (l == suc m) ≡ y → cond x (Some p) None ≡ Some b → m < n → cond y (Some p) None ≡ None
differ l n m p b x false e1 e2 e i = refl
differ l n m p b false true e1 e2 e i = absurd (cc)
differ l n m p b true true e1 e2 e i = absurd (omega (arith, eqb-true l (suc n) e1, eqb-true l (suc m) e2))

other_level : (o : Option Operator) (b : BinOp) (n m : ℕ) → if_level (suc n) o ≡ Some b → m < n → if_level (suc m) o ≡ None
other_level None b n m e i = refl
other_level (Some o) b n m e i = differ o.level n m o.op b (o.level == suc n) (o.level == suc m) refl refl e i

no_sign_of : (m : Mark) (n : ℕ) (o : BinOp) (k : Option SymKind) → operator_of m ≡ None → operator_at n k ≡ Some o → is_sign m k ≡ false
unfolding is_sign operator_at
no_sign_of m n o None e i = refl
no_sign_of m n o (Some k) e i = go (is_sign m (Some k)) refl
  where
    go : (b : Bool) → is_sign m (Some k) ≡ b → is_sign m (Some k) ≡ false
    go false j = j
    go true j = let r : operator_at n (Some k) ≡ None = ap (λ z. operator_at n (Some z)) (sign_kind m k j) ∙ ap (if_level n) e in cc

other_operator : (n : ℕ) (o : BinOp) (k : SymKind) (m : ℕ) → operator_at (suc n) (Some k) ≡ Some o → m < n → operator_at (suc m) (Some k) ≡ None
unfolding operator_at
other_operator n o (kind.Sign s) m e i = other_level (operator_of s) o n m e i
other_operator n o _ m e i = refl

-- an operator ends the expressions of the stronger levels
pub operator_stops : {n : ℕ} {o : BinOp} {t : Sym} → IsOperator (suc n) o t → StopsAt n (Some t.kind)
unfolding operator_of
operator_stops {n} {o} {t} i = record {
  paren = no_sign_of mark.OpenParen (suc n) o (Some t.kind) refl i.is;
  bracket = no_sign_of mark.OpenBracket (suc n) o (Some t.kind) refl i.is;
  operators = λ m j. other_operator n o t.kind m i.is j;
}

-- ---- beginnings

pub start_no_sign : (m : Mark) (k : SymKind) → is_start (Some (kind.Sign m)) ≡ false → is_start (Some k) ≡ true → is_sign m (Some k) ≡ false
start_no_sign m k n e = go (is_sign m (Some k)) refl
  where
    go : (b : Bool) → is_sign m (Some k) ≡ b → is_sign m (Some k) ≡ false
    go false j = j
    go true j = absurd (true≢false (sym e ∙ ap (λ z. is_start (Some z)) (sign_kind m k j) ∙ n))

pub start_no_type : (k : SymKind) → is_start (Some k) ≡ true → is_type_part (Some k) ≡ false
unfolding is_start is_type_part
start_no_type (kind.TypeWord w) e = absurd (true≢false (sym e))
start_no_type (kind.Keyword w) e = absurd (true≢false (sym e))
start_no_type _ e = refl
