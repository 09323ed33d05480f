-- Whole expressions: what is read is the grammar's, what is the grammar's is read, and faults are at their places.
use Rattle.std.proofs.Common.{◌≡◌, ℕ, suc, ◌+◌, ◌≤◌, ◌<◌, Bool, true, false, List, [], ◌∷◌, length, Result, Ok, Err, refl, sym, ap, ◌∙◌, subst, append-nil, arith, ◌⊎◌, inl, inr, true≢false}
use Rattle.vk_ast.specs.Tree.{Tree}
use Rattle.vk_grammar_expr.specs.declared.symbols.Sym.{Sym}
use Rattle.vk_grammar_expr.specs.Grammar.{Tall, tall, full, Spells, IsExpression, IsExpressionWithin}
use Rattle.vk_grammar_expr.specs.Inner.Parser.{Fault, Syntax, Deep, Spent, Parser, then_do, at_end}
use Rattle.vk_grammar_expr.specs.Inner.Reading.{expression, whole_expression}
use Rattle.vk_grammar_expr.specs.Texts.{IsPlace, IsDeepPlace}
use Rattle.vk_grammar_expr.proofs.Steps.{Follows}
use Rattle.vk_grammar_expr.proofs.Starts.{Spelled}
use Rattle.vk_grammar_expr.proofs.Stops.{end_stops}
use Rattle.vk_grammar_expr.proofs.Sound.{expression_follows}
use Rattle.vk_grammar_expr.proofs.Grown.{IsCut, Grows, Room, same_grows, bind_grows, expression_grows}
use Rattle.vk_grammar_expr.proofs.Heights.{OnRead, Within, expression_keeps}
use Rattle.vk_grammar_expr.proofs.Whole.{reads_whole}
use Rattle.vk_grammar_expr.proofs.Places.{whole_follows, reading_of, Larger, is_place, is_deep_place}

whole_expression_follows : (turns d : ℕ) (w : List Sym) → Follows (Spelled full) [] (whole_expression turns d) w
whole_expression_follows turns d w = whole_follows (expression_follows turns d full w)

-- Each text within the limit is read as its tree.
pub only : (turns d : ℕ) (ts : List Sym) (e : Tree) (h : ℕ) → Spells full e h ts → h ≤ d → length ts < turns → whole_expression turns d ts ≡ Ok (tall e h, [])
only turns d ts e h s i l = ap (λ z. then_do (expression turns d full z) at_end) (sym (append-nil ts)) ∙ ap (λ o. then_do o at_end) ((reads_whole s).reads turns d [] i l end_stops)

-- so it has one tree
pub one_tree : (ts : List Sym) (e f : Tree) (h k : ℕ) → Spells full e h ts → Spells full f k ts → tall e h ≡ tall f k
one_tree ts e f h k s t =
    let first = only (suc (length ts)) (h + k) ts e h s (omega arith) (omega arith) in
    let second = only (suc (length ts)) (h + k) ts f k t (omega arith) (omega arith) in
    let pairs : Path (Tall × List Sym) (tall e h, []) (tall f k, []) = cc in
    ap (λ (z : Tall × List Sym). z.0) pairs

grown : (deep : Bool) (turns more_turns d e : ℕ) → turns ≤ more_turns → Room deep d e → Grows deep (whole_expression turns d) (whole_expression more_turns e)
grown deep turns more_turns d e i room = bind_grows (expression_grows deep turns more_turns i d e room full) (λ a. same_grows)

uncut : {deep : Bool} {p q : Parser Tall} → Grows deep p q → (w : List Sym) {o : Result (Tall × List Sym) Fault} → p w ≡ o → (IsCut deep o → ⊥) → q w ≡ o
uncut {deep} {p} {q} g w {o} e whole_ = go (g.grows w)
  where
    go : IsCut deep (p w) ⊎ (q w ≡ p w) → q w ≡ o
    go (inl c) = absurd (whole_ (subst (IsCut deep) e c))
    go (inr k) = k ∙ e

ended_at : (e : Tall) (r : List Sym) (a : Tall) (s : List Sym) → at_end a s ≡ Ok (e, r) → Path (Result (Tall × List Sym) Fault) (Ok (a, s)) (Ok (e, []))
ended_at e r a [] i = let pairs : Path (Tall × List Sym) (a, []) (e, r) = cc in ap (λ (z : Tall × List Sym). Ok (z.0, [])) pairs
ended_at e r a (t ∷ s) i = absurd (cc)

ended : (e : Tall) (r : List Sym) (o : Result (Tall × List Sym) Fault) → then_do o at_end ≡ Ok (e, r) → o ≡ Ok (e, [])
ended e r (Ok read) i = ended_at e r read.0 read.1 i
ended e r (Err fault) i = absurd (cc)

-- What is read is the grammar's, and within the limit.
pub found : (turns d : ℕ) (ts : List Sym) (e : Tall) (r : List Sym) → whole_expression turns d ts ≡ Ok (e, r) → Spells full e.tree e.height ts
found turns d ts e r is =
    let g = reading_of (expression_follows turns d full ts) (ended e r (expression turns d full ts) is) in
    subst (Spells full e.tree e.height) (sym (g.parts ∙ append-nil g.read)) g.is

-- more turns change nothing
more_turns : (turns more d : ℕ) (ts : List Sym) (e : Tall) (r : List Sym) → turns ≤ more → whole_expression turns d ts ≡ Ok (e, r) → whole_expression more d ts ≡ Ok (e, r)
more_turns turns more d ts e r i is = uncut (grown false turns more d d i (record { above = omega arith; same = λ f. refl })) ts is (λ c. c)

pub within : (turns d : ℕ) (ts : List Sym) (e : Tall) (r : List Sym) → whole_expression turns d ts ≡ Ok (e, r) → e.height ≤ d
within turns d ts e r is =
    let more : ℕ = turns + suc (length ts) in
    let at : expression more d full ts ≡ Ok (e, []) = ended e r (expression more d full ts) (more_turns turns more d ts e r (omega arith) is) in
    (subst (OnRead (Within d) 1 (length ts)) at ((expression_keeps more d full).keeps ts (omega arith))).0.most

-- The turns are never spent where they are more than the tokens.
pub never_spent : (turns d : ℕ) (ts : List Sym) → length ts < turns → whole_expression turns d ts ≡ Err Spent → ⊥
never_spent turns d ts l = on (expression turns d full ts) ((expression_keeps turns d full).keeps ts l)
  where
    on_end : (a : Tall) (s : List Sym) → at_end a s ≡ Err Spent → ⊥
    on_end a [] e = cc
    on_end a (t ∷ s) e = cc

    on : (o : Result (Tall × List Sym) Fault) → OnRead (Within d) 1 (length ts) o → then_do o at_end ≡ Err Spent → ⊥
    on (Ok read) h e = on_end read.0 read.1 e
    on (Err (Syntax n)) h e = cc
    on (Err (Deep n)) h e = cc
    on (Err Spent) h e = h

-- A refusal is at the first token that no text of the grammar has there.
pub refused : (turns d : ℕ) (ts : List Sym) (n : ℕ) → whole_expression turns d ts ≡ Err (Syntax n) → IsPlace IsExpression ts n
refused turns d ts n e = is_place (whole_expression_follows turns d ts) e (λ a u s. (a.tree, (a.height, s))) larger
  where
    larger : (u : List Sym) → IsExpression u → Larger (Spelled full) ts (Syntax n) u
    larger u t = let more_turns : ℕ = turns + suc (length u) in
        record {
          reader = whole_expression more_turns (d + t.1.0);
          follows = whole_expression_follows more_turns (d + t.1.0) ts;
          same = uncut (grown true turns more_turns d (d + t.1.0) (omega arith) (record { above = omega arith; same = λ f. absurd (true≢false f) })) ts e (λ c. c);
          value = tall t.0 t.1.0;
          reads = only more_turns (d + t.1.0) u t.0 t.1.0 t.1.1 (omega arith) (omega arith);
        }

-- A place that is too deep: some text has the tokens up to it, and none of those texts is within the limit.
pub too_deep_at : (turns d : ℕ) (ts : List Sym) (n : ℕ) → whole_expression turns d ts ≡ Err (Deep n) → IsDeepPlace IsExpression (IsExpressionWithin d) ts n
too_deep_at turns d ts n e = is_deep_place (whole_expression_follows turns d ts) e (λ a u s. (a.tree, (a.height, s))) larger
  where
    larger : (u : List Sym) → IsExpressionWithin d u → Larger (Spelled full) ts (Deep n) u
    larger u t = let more_turns : ℕ = turns + suc (length u) in
        record {
          reader = whole_expression more_turns d;
          follows = whole_expression_follows more_turns d ts;
          same = uncut (grown false turns more_turns d d (omega arith) (record { above = omega arith; same = λ f. refl })) ts e (λ c. true≢false (sym c));
          value = tall t.0 t.1.0;
          reads = only more_turns d u t.0 t.1.0 t.1.1.0 t.1.1.1 (omega arith);
        }
