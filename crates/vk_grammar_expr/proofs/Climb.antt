-- What begins with an operand of level 0 and may go on otherwise than as an expression: the operand is read first, and then
-- the rest, as `climb` and `onwards` do. Both ways to read an expression are one.
use Rattle.std.proofs.Common.{◌≡◌, ℕ, zero, suc, ◌≤◌, Bool, List, [], ◌∷◌, ◌++◌, Result, Ok, Err, refl, ap, ◌∙◌, arith, suc-le-suc}
use Rattle.vk_grammar_expr.specs.declared.symbols.Sym.{Sym}
use Rattle.vk_grammar_expr.specs.Symbols.{head, line_at, number_at}
use Rattle.vk_grammar_expr.specs.Grammar.{Tall, Sort, level, full, Spells, lower, plain}
use Rattle.vk_grammar_expr.specs.Inner.Parser.{Fault, Parser, pure, then_do, ◌>>=◌}
use Rattle.vk_grammar_expr.specs.Inner.Reading.{unaries, operators, levels, choices, conditional, climb, onwards}
use Rattle.vk_grammar_expr.proofs.Steps.{Follows, finished, pure_follows, seq_follows}
use Rattle.vk_grammar_expr.proofs.Starts.{Spelled}
use Rattle.vk_grammar_expr.proofs.Stops.{StopsAt, StopsAll, lower_stops}
use Rattle.vk_grammar_expr.proofs.Sound.{operators_follows, choices_follows}
use Rattle.vk_grammar_expr.proofs.Grown.{Grows, Room, same_grows, bind_grows, operators_grow, choices_grow}
use Rattle.vk_grammar_expr.proofs.Heights.{Keeps, Within, pure_keeps, bind_keeps, operators_keep, choices_keep}
use Rattle.vk_grammar_expr.proofs.Equations

-- ---- one way or the other

then_pure : {A : Type 0} (o : Result (A × List Sym) Fault) → o ≡ then_do o pure
then_pure (Ok read) = refl
then_pure (Err fault) = refl

then_then : {A B C : Type 0} (f : A → Parser B) (g : B → Parser C) (o : Result (A × List Sym) Fault) → then_do (then_do o f) g ≡ then_do o (λ a. f a >>= g)
then_then f g (Ok read) = refl
then_then f g (Err fault) = refl

module _ (d turns : ℕ) (sub : Sort → Parser Tall) where
  pub levels_climb : (n : ℕ) (w : List Sym) → levels d turns sub n w ≡ then_do (unaries d turns sub w) (climb d turns sub n (line_at w) (number_at w))
  unfolding levels climb
  levels_climb zero w = then_pure (unaries d turns sub w)
  levels_climb (suc n) w = ap (λ o. then_do o (operators d turns sub (suc d) n (line_at w) (number_at w))) (levels_climb n w)
      ∙ then_then (climb d turns sub n (line_at w) (number_at w)) (operators d turns sub (suc d) n (line_at w) (number_at w)) (unaries d turns sub w)

  pub conditional_onwards : (w : List Sym) → conditional d turns sub w ≡ then_do (unaries d turns sub w) (onwards d turns sub (line_at w) (number_at w))
  unfolding conditional onwards
  conditional_onwards w = ap (λ o. then_do o (choices d turns sub (line_at w) (number_at w))) (levels_climb 10 w)
      ∙ then_then (climb d turns sub 10 (line_at w) (number_at w)) (choices d turns sub (line_at w) (number_at w)) (unaries d turns sub w)

  -- nothing goes on where the next token stops
  climb_end : (n l k : ℕ) (a : Tall) (r : List Sym) → StopsAt n (head r) → climb d turns sub n l k a r ≡ Ok (a, r)
  unfolding climb
  climb_end zero l k a r s = refl
  climb_end (suc n) l k a r s = ap (λ o. then_do o (operators d turns sub (suc d) n l k)) (climb_end n l k a r (lower_stops n s))
      ∙ Equations.operators_end d turns sub d n l k a r (s.operators n (omega arith))

  pub onwards_end : (l k : ℕ) (a : Tall) (r : List Sym) → StopsAll (head r) → onwards d turns sub l k a r ≡ Ok (a, r)
  unfolding onwards
  onwards_end l k a r s = ap (λ o. then_do o (choices d turns sub l k)) (climb_end 10 l k a r s.levels) ∙ Equations.choice_end d turns sub l k a r s.question

-- ---- the laws

module _ (d turns : ℕ) (sub : Sort → Parser Tall) (subs : (s : Sort) (w : List Sym) → Follows (Spelled s) [] (sub s) w) where
  climb_follows : (n : ℕ) (t : Sym) (x : List Sym) (a : Tall) (w : List Sym) → Spells (level 0) a.tree a.height (t ∷ x)
      → Follows (Spelled (level n)) (t ∷ x) (climb d turns sub n t.line t.at a) w
  unfolding climb
  climb_follows zero t x a w s = pure_follows s
  climb_follows (suc n) t x a w s = seq_follows {S = Spelled (level n)} (climb_follows n t x a w s)
      (λ b v r parts z. operators_follows d turns sub subs (suc d) n t (x ++ v) b r (lower z)) (λ b y z. finished b (lower z))

  pub onwards_follows : (t : Sym) (x : List Sym) (a : Tall) (w : List Sym) → Spells (level 0) a.tree a.height (t ∷ x) → Follows (Spelled full) (t ∷ x) (onwards d turns sub t.line t.at a) w
  unfolding onwards
  onwards_follows t x a w s = seq_follows {S = Spelled (level 10)} (climb_follows 10 t x a w s)
      (λ b v r parts z. choices_follows d turns sub subs t (x ++ v) b r z) (λ b y z. finished b (plain z))

module _ (deep : Bool) (d e turns more_turns : ℕ) (room : Room deep d e) (turns_le : turns ≤ more_turns) (sub sup : Sort → Parser Tall) (subs : (s : Sort) → Grows deep (sub s) (sup s)) where
  climb_grows : (n l k : ℕ) (a : Tall) → Grows deep (climb d turns sub n l k a) (climb e more_turns sup n l k a)
  unfolding climb
  climb_grows zero l k a = same_grows
  climb_grows (suc n) l k a = bind_grows (climb_grows n l k a) (λ b. operators_grow deep d e turns more_turns room turns_le sub sup subs (suc d) (suc e) n l k b (suc-le-suc room.above))

  pub onwards_grow : (l k : ℕ) (a : Tall) → Grows deep (onwards d turns sub l k a) (onwards e more_turns sup l k a)
  unfolding onwards
  onwards_grow l k a = bind_grows (climb_grows 10 l k a) (choices_grow deep d e turns more_turns room turns_le sub sup subs l k)

module _ (d turns : ℕ) (sub : Sort → Parser Tall) (subs : (s : Sort) → Keeps turns 1 (Within d) (sub s)) where
  climb_keeps : (n l k : ℕ) (a : Tall) → Within (suc d) a → Keeps turns 0 (Within (suc d)) (climb d turns sub n l k a)
  unfolding climb
  climb_keeps zero l k a i = pure_keeps i
  climb_keeps (suc n) l k a i = bind_keeps {P = Within (suc d)} (climb_keeps n l k a i) (λ b j. operators_keep d turns sub subs (suc d) n l k b j (omega arith))

  pub onwards_keep : (l k : ℕ) (a : Tall) → Within (suc d) a → Keeps turns 0 (Within (suc d)) (onwards d turns sub l k a)
  unfolding onwards
  onwards_keep l k a i = bind_keeps {P = Within (suc d)} (climb_keeps 10 l k a i) (choices_keep d turns sub subs l k)
