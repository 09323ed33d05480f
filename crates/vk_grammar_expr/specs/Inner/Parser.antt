-- Readers of lists of tokens, each with one token of lookahead.
use Rattle.std.specs.Prelude.{ℕ, zero, suc, Bool, true, false, List, [], ◌∷◌, length, Option, Some, None, Result, Ok, Err}
use Rattle.vk_tokens.specs.declared.tokens.Mark.{Mark}
use Rattle.vk_grammar_expr.specs.declared.symbols.Sym.{Sym}
use Rattle.vk_grammar_expr.specs.declared.symbols.SymKind.{SymKind}
use Rattle.vk_grammar_expr.specs.Symbols.{head, line_at, number_at, is_sign}

-- Why nothing was read, with the number of tokens that are left from the place on: no text has the token there, or each
-- text that has it is too deep. The turns of a loop may be spent too, where they were given too few.
pub data Fault : Type 0 where
  Syntax : ℕ → Fault
  Deep : ℕ → Fault
  Spent : Fault

-- what was read, and the tokens left
abbrev pub Parser : Type 0 → Type 0
Parser A = List Sym → Result (A × List Sym) Fault

abbrev pub pure : {A : Type 0} → A → Parser A
pure a w = Ok (a, w)

abbrev pub refuse : {A : Type 0} → Parser A
refuse w = Err (Syntax (length w))

abbrev pub too_deep : {A : Type 0} → Parser A
too_deep w = Err (Deep (length w))

abbrev pub spent : {A : Type 0} → Parser A
spent w = Err Spent

abbrev pub then_do : {A B : Type 0} → Result (A × List Sym) Fault → (A → Parser B) → Result (B × List Sym) Fault
then_do (Ok read) f = f read.0 read.1
then_do (Err fault) f = Err fault

-- one after the other
infixl 55 ◌>>=◌
abbrev pub ◌>>=◌ : {A B : Type 0} → Parser A → (A → Parser B) → Parser B
◌>>=◌ p f w = then_do (p w) f

-- one token
abbrev pub take : Parser Sym
take [] = Err (Syntax 0)
take (t ∷ rest) = Ok (t, rest)

-- by the kind of the first token
abbrev pub look : {A : Type 0} → (Option SymKind → Parser A) → Parser A
look f w = f (head w) w

-- with the line and the number of the first token
abbrev pub here : {A : Type 0} → (ℕ → ℕ → Parser A) → Parser A
here f w = f (line_at w) (number_at w) w

abbrev pub pick : {A : Type 0} → Bool → Parser A → Parser A → Parser A
pick true p q w = p w
pick false p q w = q w

abbrev pub pick_some : {A B : Type 0} → Option A → (A → Parser B) → Parser B → Parser B
pick_some (Some a) f q w = f a w
pick_some None f q w = q w

-- this sign
abbrev pub expect : Mark → Parser Sym
expect m = look (λ k. pick (is_sign m k) take refuse)

-- Items for as long as the first token says so, in at most `n` turns.
abbrev pub many_step : {A : Type 0} → Parser (List A) → (Option SymKind → Bool) → Parser A → Parser (List A)
many_step next goes_on item = look (λ k. pick (goes_on k) (item >>= (λ a. next >>= (λ list. pure (a ∷ list)))) (pure []))

unfoldable pub many : {A : Type 0} → ℕ → (Option SymKind → Bool) → Parser A → Parser (List A)
many zero goes_on item = spent
many (suc n) goes_on item = many_step (many n goes_on item) goes_on item

-- the whole of the tokens
abbrev pub at_end : {A : Type 0} → A → Parser A
at_end a [] = Ok (a, [])
at_end a (t ∷ rest) = Err (Syntax (length (t ∷ rest)))

abbrev pub whole : {A : Type 0} → Parser A → Parser A
whole p = p >>= at_end
