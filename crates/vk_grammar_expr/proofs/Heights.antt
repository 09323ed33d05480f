-- A tree that was read is within the limit, its tokens are gone, and no loop runs out of turns.
use Rattle.std.proofs.Common.{◌≡◌, ℕ, zero, suc, max, ◌+◌, ◌≤◌, ◌<◌, Bool, true, false, nat_lt, nat_le, List, [], ◌∷◌, length, Option, Some, None, Result, Ok, Err, refl, arith, leb-true}
use Rattle.vk_ast.specs.declared.names.NameId.{NameId}
use Rattle.vk_ast.specs.Tree.{Tree}
use Rattle.vk_tokens.specs.declared.tokens.Mark.{Mark}
use Rattle.vk_tokens.specs.declared.tokens.Mark.TheVariants as mark
use Rattle.vk_grammar_expr.specs.declared.symbols.Sym.{Sym}
use Rattle.vk_grammar_expr.specs.declared.symbols.SymKind.{SymKind}
use Rattle.vk_grammar_expr.specs.declared.symbols.SymKind.TheVariants as kind
use Rattle.vk_grammar_expr.specs.declared.symbols.Prefix.{Prefix}
use Rattle.vk_grammar_expr.specs.Symbols.{head, line_at, number_at, is_sign, prefix_at, operator_at, is_type_part, is_start}
use Rattle.vk_grammar_expr.specs.Grammar.{Tall, tall, greatest, Sort, level, full}
use Rattle.vk_grammar_expr.specs.Types.{words_of, has_words, type_in}
use Rattle.vk_grammar_expr.specs.Inner.Parser.{Fault, Syntax, Deep, Spent, Parser, pure, refuse, too_deep, then_do, ◌>>=◌, take, look, here, pick, pick_some, expect, many}
use Rattle.vk_grammar_expr.specs.Inner.Reading.{type_words, nothing, later_argument, some_arguments, arguments, call_of, named, atom_at, atom, subscript, subscript_step, subscripts, post, group, cast_of, behind_paren, paren, prefix_operand, prefix_sign, unaries, right_operand, operator_step, operators, levels, branches, choices, conditional, sorted, expression}

-- Of an answer on `n` tokens: what was read is of `P`, and at least `g` tokens are gone. No loop has run out of turns.
abbrev pub OnRead : {A : Type 0} → (A → Type 0) → (g n : ℕ) → Result (A × List Sym) Fault → Type 0
OnRead P g n (Ok read) = P read.0 × (length read.1 + g ≤ n)
OnRead P g n (Err (Syntax k)) = Unit {0}
OnRead P g n (Err (Deep k)) = Unit {0}
OnRead P g n (Err Spent) = ⊥

-- on all lists of fewer than `turns` tokens
pub record Keeps (turns g : ℕ) {A : Type 0} (P : A → Type 0) (p : Parser A) : Type 0 where
  pub keeps : (w : List Sym) → length w < turns → OnRead P g (length w) (p w)

-- ---- the ways of joining readers

pub pure_keeps : {turns : ℕ} {A : Type 0} {P : A → Type 0} {a : A} → P a → Keeps turns 0 P (pure a)
pure_keeps h = record { keeps = λ w l. (h, omega arith) }

pub refuse_keeps : {turns g : ℕ} {A : Type 0} {P : A → Type 0} → Keeps turns g P refuse
refuse_keeps = record { keeps = λ w l. tt }

pub deep_keeps : {turns g : ℕ} {A : Type 0} {P : A → Type 0} → Keeps turns g P too_deep
deep_keeps = record { keeps = λ w l. tt }

abbrev pub Any : {A : Type 0} → A → Type 0
Any a = Unit {0}

pub take_keeps : {turns : ℕ} → Keeps turns 1 Any take
take_keeps = record { keeps = at }
  where
    at : {turns : ℕ} (w : List Sym) → length w < turns → OnRead Any 1 (length w) (take w)
    at [] l = tt
    at (t ∷ r) l = (tt, omega arith)

module _ (turns g : ℕ) {A B : Type 0} (P : A → Type 0) (Q : B → Type 0) (f : A → Parser B) (next : (a : A) → P a → Keeps turns 0 Q (f a)) where
  more_gone : (k n : ℕ) → k + g ≤ n → (o : Result (B × List Sym) Fault) → OnRead Q 0 k o → OnRead Q g n o
  more_gone k n i (Ok read) h = (h.0, omega arith)
  more_gone k n i (Err (Syntax m)) h = tt
  more_gone k n i (Err (Deep m)) h = tt
  more_gone k n i (Err Spent) h = h

  then_keeps : (n : ℕ) → n < turns → (o : Result (A × List Sym) Fault) → OnRead P g n o → OnRead Q g n (then_do o f)
  then_keeps n l (Ok read) h = more_gone (length read.1) n h.1 (f read.0 read.1) ((next read.0 h.0).keeps read.1 (omega arith))
  then_keeps n l (Err (Syntax m)) h = tt
  then_keeps n l (Err (Deep m)) h = tt
  then_keeps n l (Err Spent) h = h

pub bind_keeps : {turns g : ℕ} {A B : Type 0} {P : A → Type 0} {Q : B → Type 0} {p : Parser A} {f : A → Parser B} → Keeps turns g P p → ((a : A) → P a → Keeps turns 0 Q (f a))
    → Keeps turns g Q (p >>= f)
bind_keeps {turns} {g} {P = P} {Q} {p} {f} h next = record { keeps = λ w l. then_keeps turns g P Q f next (length w) l (p w) (h.keeps w l) }

-- fewer tokens gone
weaker : {A : Type 0} (P : A → Type 0) (g n : ℕ) (o : Result (A × List Sym) Fault) → OnRead P g n o → OnRead P 0 n o
weaker P g n (Ok read) h = (h.0, omega arith)
weaker P g n (Err (Syntax m)) h = tt
weaker P g n (Err (Deep m)) h = tt
weaker P g n (Err Spent) h = h

pub weaken : {turns g : ℕ} {A : Type 0} {P : A → Type 0} {p : Parser A} → Keeps turns g P p → Keeps turns 0 P p
weaken {turns} {g} {P = P} {p = p} h = record { keeps = λ w l. weaker P g (length w) (p w) (h.keeps w l) }

pub look_keeps : {turns g : ℕ} {A : Type 0} {P : A → Type 0} {f : Option SymKind → Parser A} → ((k : Option SymKind) → Keeps turns g P (f k)) → Keeps turns g P (look f)
look_keeps h = record { keeps = λ w. (h (head w)).keeps w }

pub here_keeps : {turns g : ℕ} {A : Type 0} {P : A → Type 0} {f : ℕ → ℕ → Parser A} → ((l k : ℕ) → Keeps turns g P (f l k)) → Keeps turns g P (here f)
here_keeps h = record { keeps = λ w. (h (line_at w) (number_at w)).keeps w }

pub pick_keeps : {turns g : ℕ} {A : Type 0} {P : A → Type 0} {p q : Parser A} (b : Bool) → Keeps turns g P p → Keeps turns g P q → Keeps turns g P (pick b p q)
pick_keeps true h i = h
pick_keeps false h i = i

pub limit_keeps : {turns g : ℕ} {A : Type 0} {P : A → Type 0} {p : Parser A} (b : Bool) → (b ≡ true → Keeps turns g P p) → Keeps turns g P (pick b p too_deep)
limit_keeps true h = h refl
limit_keeps false h = deep_keeps

pub choose_keeps : {turns g : ℕ} {A : Type 0} {P : A → Type 0} {p q : Parser A} (test : Option SymKind → Bool) → Keeps turns g P p → Keeps turns g P q
    → Keeps turns g P (look (λ k. pick (test k) p q))
choose_keeps test h i = record { keeps = λ w. (pick_keeps (test (head w)) h i).keeps w }

pub pick_some_keeps : {turns g : ℕ} {A B : Type 0} {P : B → Type 0} {f : A → Parser B} {q : Parser B} (o : Option A) → ((a : A) → Keeps turns g P (f a)) → Keeps turns g P q
    → Keeps turns g P (pick_some o f q)
pick_some_keeps (Some a) h i = h a
pick_some_keeps None h i = i

pub choose_some_keeps : {turns g : ℕ} {A B : Type 0} {P : B → Type 0} {f : A → Parser B} {q : Parser B} (of : Option SymKind → Option A) → ((a : A) → Keeps turns g P (f a))
    → Keeps turns g P q → Keeps turns g P (look (λ k. pick_some (of k) f q))
choose_some_keeps of h i = record { keeps = λ w. (pick_some_keeps (of (head w)) h i).keeps w }

pub expect_keeps : {turns : ℕ} (m : Mark) → Keeps turns 1 Any (expect m)
expect_keeps m = choose_keeps (is_sign m) take_keeps refuse_keeps

-- items of at least one token each: there are turns enough
module _ (turns : ℕ) {A : Type 0} (P : A → Type 0) (Q : List A → Type 0) (test : Option SymKind → Bool) (item : Parser A) (items : Keeps turns 1 P item) (none_ : Q [])
    (more_ : (a : A) (list : List A) → P a → Q list → Q (a ∷ list)) where
  one_turn : (next : Parser (List A)) (n : ℕ) → ((w : List Sym) → length w < n → length w < turns → OnRead Q 0 (length w) (next w)) → (w : List Sym) → length w < suc n → length w < turns
      → (o : Result (A × List Sym) Fault) → OnRead P 1 (length w) o → OnRead Q 0 (length w) (then_do o (λ a. next >>= (λ list. pure (a ∷ list))))
  one_turn next n rest w i l (Ok read) h = last_step (next read.1) (rest read.1 (omega arith) (omega arith))
    where
      last_step : (o : Result (List A × List Sym) Fault) → OnRead Q 0 (length read.1) o → OnRead Q 0 (length w) (then_do o (λ list. pure (read.0 ∷ list)))
      last_step (Ok r) k = (more_ read.0 r.0 h.0 k.0, omega arith)
      last_step (Err (Syntax m)) k = tt
      last_step (Err (Deep m)) k = tt
      last_step (Err Spent) k = k
  one_turn next n rest w i l (Err (Syntax m)) h = tt
  one_turn next n rest w i l (Err (Deep m)) h = tt
  one_turn next n rest w i l (Err Spent) h = h

  many_keep : (n : ℕ) (w : List Sym) → length w < n → length w < turns → OnRead Q 0 (length w) (many n test item w)
  unfolding many
  many_keep zero w i l = absurd (omega arith)
  many_keep (suc n) w i l = at (test (head w)) (one_turn (many n test item) n (many_keep n) w i l (item w) (items.keeps w l))
    where
      at : (b : Bool) → OnRead Q 0 (length w) ((item >>= (λ a. many n test item >>= (λ list. pure (a ∷ list)))) w)
          → OnRead Q 0 (length w) (pick b (item >>= (λ a. many n test item >>= (λ list. pure (a ∷ list)))) (pure []) w)
      at true h = h
      at false h = (none_, omega arith)

pub many_keeps : {turns : ℕ} {A : Type 0} {P : A → Type 0} {Q : List A → Type 0} {item : Parser A} (test : Option SymKind → Bool) → Keeps turns 1 P item → Q []
    → ((a : A) (list : List A) → P a → Q list → Q (a ∷ list)) → Keeps turns 0 Q (many turns test item)
many_keeps {turns} {P = P} {Q} {item} test h none_ more_ = record { keeps = λ w l. many_keep turns P Q test item h none_ more_ turns w l l }

-- ---- one function after the other

pub record Within (d : ℕ) (e : Tall) : Type 0 where
  pub some_ : 0 < e.height
  pub most : e.height ≤ d

nothing_keeps : (turns d : ℕ) → Keeps turns 1 (Within d) nothing
unfolding nothing
nothing_keeps turns d = choose_keeps is_start deep_keeps refuse_keeps

pub type_words_keep : (turns : ℕ) → Keeps turns 0 Any (type_words turns)
unfolding type_words
type_words_keep turns = bind_keeps {P = Any} (many_keeps {P = Any} {Q = Any} is_type_part take_keeps tt (λ t list _ _. tt)) (λ c _. pick_keeps (has_words (words_of c)) (pure_keeps tt) refuse_keeps)

module _ (d turns : ℕ) (sub : Sort → Parser Tall) (subs : (s : Sort) → Keeps turns 1 (Within d) (sub s)) where
  later_keeps : Keeps turns 1 (Within d) (later_argument d turns sub)
  unfolding later_argument
  later_keeps = bind_keeps take_keeps (λ t _. weaken (subs full))

  arguments_keep : Keeps turns 0 (λ list. greatest list ≤ d) (arguments d turns sub)
  unfolding arguments some_arguments
  arguments_keep = choose_keeps (is_sign mark.CloseParen) (pure_keeps (omega arith))
      (bind_keeps {P = Within d} (weaken (subs full)) (λ first i. bind_keeps {P = λ list. greatest list ≤ d}
      (many_keeps {P = Within d} (is_sign mark.Comma) later_keeps (omega arith) (λ a list i j. omega arith)) (λ rest j. pure_keeps (omega arith))))

  call_keeps : (l k : ℕ) (id : NameId) → Keeps turns 0 (Within (suc d)) (call_of d turns sub l k id)
  unfolding call_of
  call_keeps l k id = weaken (bind_keeps take_keeps (λ t _. bind_keeps {P = λ list. greatest list ≤ d} arguments_keep (λ list i. weaken (bind_keeps (expect_keeps mark.CloseParen)
      (λ v _. pure_keeps (record { some_ = omega arith; most = omega arith }))))))

  named_keeps : (id : NameId) (t : Sym) → Keeps turns 0 (Within (suc d)) (named d turns sub id t)
  unfolding named
  named_keeps id t = choose_keeps (is_sign mark.OpenParen) (call_keeps t.line t.at id) (pure_keeps (record { some_ = omega arith; most = omega arith }))

  atom_at_keeps : (k : Option SymKind) → Keeps turns 1 (Within (suc d)) (atom_at d turns sub k)
  atom_at_keeps (Some (kind.Int ty n)) = bind_keeps take_keeps (λ t _. pure_keeps (record { some_ = omega arith; most = omega arith }))
  atom_at_keeps (Some (kind.Name id)) = bind_keeps take_keeps (λ t _. named_keeps id t)
  atom_at_keeps _ = refuse_keeps

  -- with turns enough for what the height leaves
  subscripts_keep : (m l k : ℕ) (a : Tall) → Within (suc d) a → suc d < m + a.height → Keeps turns 0 (Within (suc d)) (subscripts d turns sub m l k a)
  unfolding subscripts subscript_step subscript
  subscripts_keep zero l k a i room = absurd (omega arith)
  subscripts_keep (suc m) l k a i room = choose_keeps (is_sign mark.OpenBracket)
      (limit_keeps (nat_le a.height d) (λ e. weaken (bind_keeps take_keeps (λ _ _. bind_keeps {P = Within d} (weaken (subs full)) (λ j h. weaken (bind_keeps (expect_keeps mark.CloseBracket) (λ _ _.
      subscripts_keep m l k (tall (Tree.index l k a.tree j.tree) (suc (max a.height j.height)))
      (record { some_ = omega arith; most = omega (arith, leb-true a.height d e) }) (omega arith))))))))
      (pure_keeps i)

  post_keeps : Keeps turns 1 (Within (suc d)) (post d turns sub)
  unfolding post atom
  post_keeps = here_keeps (λ l k. bind_keeps {P = Within (suc d)} (look_keeps atom_at_keeps) (λ a i. subscripts_keep (suc d) l k a i (omega arith)))

  group_keeps : Keeps turns 1 (Within (suc d)) (group d turns sub)
  unfolding group
  group_keeps = bind_keeps {P = Within d} (subs full) (λ a i. weaken (bind_keeps (expect_keeps mark.CloseParen) (λ _ _. pure_keeps (record { some_ = omega arith; most = omega arith }))))

  cast_keeps : (l k : ℕ) → Keeps turns 0 (Within (suc d)) (cast_of d turns sub l k)
  unfolding cast_of
  cast_keeps l k = bind_keeps {P = Any} (type_words_keep turns) (λ c _. weaken (bind_keeps {P = Any} (expect_keeps mark.CloseParen) (λ _ _. bind_keeps {P = Within d} (weaken (subs (level 0)))
      (λ a i. pure_keeps {a = tall (Tree.cast l k (type_in c) a.tree) (suc a.height)} (record { some_ = omega arith; most = omega arith })))))

  behind_paren_keeps : (t : Sym) → Keeps turns 0 (Within (suc d)) (behind_paren d turns sub t)
  unfolding behind_paren
  behind_paren_keeps t = choose_keeps is_type_part (cast_keeps t.line t.at)
      (bind_keeps {P = Within (suc d)} (weaken group_keeps) (λ a i. subscripts_keep (suc d) t.line t.at a i (omega arith)))

  paren_keeps : Keeps turns 1 (Within (suc d)) (paren d turns sub)
  unfolding paren
  paren_keeps = limit_keeps (nat_lt 0 d) (λ e. bind_keeps take_keeps (λ t _. behind_paren_keeps t))

  prefix_sign_keeps : (p : Prefix) → Keeps turns 1 (Within (suc d)) (prefix_sign d turns sub p)
  unfolding prefix_sign prefix_operand
  prefix_sign_keeps p = limit_keeps (nat_lt 0 d) (λ e. bind_keeps take_keeps (λ t _. bind_keeps {P = Within d} (weaken (subs (level 0)))
      (λ a i. pure_keeps (record { some_ = omega arith; most = omega arith }))))

  pub unaries_keep : Keeps turns 1 (Within (suc d)) (unaries d turns sub)
  unfolding unaries
  unaries_keep = look_keeps (λ k. pick_some_keeps (prefix_at k) prefix_sign_keeps (pick_keeps (is_sign mark.OpenParen k) paren_keeps post_keeps))

  pub operators_keep : (m n l k : ℕ) (a : Tall) → Within (suc d) a → suc d < m + a.height → Keeps turns 0 (Within (suc d)) (operators d turns sub m n l k a)
  unfolding operators operator_step right_operand
  operators_keep zero n l k a i room = absurd (omega arith)
  operators_keep (suc m) n l k a i room = choose_some_keeps (operator_at (suc n))
      (λ o. limit_keeps (nat_le a.height d) (λ e. weaken (bind_keeps take_keeps (λ _ _. bind_keeps {P = Within d} (weaken (subs (level n))) (λ b h.
      operators_keep m n l k (tall (Tree.binary l k o a.tree b.tree) (suc (max a.height b.height)))
      (record { some_ = omega arith; most = omega (arith, leb-true a.height d e) }) (omega arith))))))
      (pure_keeps i)

  levels_keep : (n : ℕ) → Keeps turns 1 (Within (suc d)) (levels d turns sub n)
  unfolding levels
  levels_keep zero = unaries_keep
  levels_keep (suc n) = here_keeps (λ l k. bind_keeps {P = Within (suc d)} (levels_keep n) (λ a i. operators_keep (suc d) n l k a i (omega arith)))

  branches_keep : (l k : ℕ) (c : Tall) → 0 < c.height → c.height ≤ d → Keeps turns 0 (Within (suc d)) (branches d turns sub l k c)
  unfolding branches
  branches_keep l k c pos i = weaken (bind_keeps take_keeps (λ _ _. bind_keeps {P = Within d} (weaken (subs full)) (λ a h. weaken (bind_keeps (expect_keeps mark.Colon)
      (λ _ _. bind_keeps {P = Within d} (weaken (subs full)) (λ b j. pure_keeps (record { some_ = omega arith; most = omega arith })))))))

  pub choices_keep : (l k : ℕ) (c : Tall) → Within (suc d) c → Keeps turns 0 (Within (suc d)) (choices d turns sub l k c)
  unfolding choices
  choices_keep l k c i = choose_keeps (is_sign mark.Question) (limit_keeps (nat_le c.height d) (λ e. branches_keep l k c i.some_ (leb-true c.height d e))) (pure_keeps i)

  sorted_keeps : (s : Sort) → Keeps turns 1 (Within (suc d)) (sorted d turns sub s)
  unfolding conditional
  sorted_keeps (level n) = levels_keep n
  sorted_keeps full = here_keeps (λ l k. bind_keeps {P = Within (suc d)} (levels_keep 10) (λ c i. choices_keep l k c i))

pub expression_keeps : (turns d : ℕ) (s : Sort) → Keeps turns 1 (Within d) (expression turns d s)
unfolding expression
expression_keeps turns zero s = nothing_keeps turns zero
expression_keeps turns (suc d) s = sorted_keeps d turns (expression turns d) (expression_keeps turns d) s
