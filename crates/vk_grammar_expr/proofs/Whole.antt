-- Each text of an expression within the limit is read as its tree.
use Rattle.std.proofs.Common.{◌≡◌, ℕ, zero, suc, max, ◌+◌, ◌≤◌, ◌<◌, false, List, [], ◌∷◌, ◌++◌, length, Some, None, Result, Ok, refl, sym, ap, ◌∙◌, subst, append_assoc, arith, length-append}
use Rattle.vk_types.specs.declared.types.Ty.{Ty}
use Rattle.vk_ast.specs.declared.names.NameId.{NameId}
use Rattle.vk_ast.specs.declared.expressions.BinOp.{BinOp}
use Rattle.vk_ast.specs.Tree.{Tree}
use Rattle.vk_tokens.specs.declared.tokens.Mark.{Mark}
use Rattle.vk_tokens.specs.declared.tokens.Mark.TheVariants as mark
use Rattle.vk_grammar_expr.specs.declared.symbols.Sym.{Sym}
use Rattle.vk_grammar_expr.specs.declared.symbols.SymKind.TheVariants as kind
use Rattle.vk_grammar_expr.specs.declared.symbols.Prefix.{Prefix}
use Rattle.vk_grammar_expr.specs.Symbols.{head, line_at, number_at, Is, IsSign, is_sign, same_mark, IsPrefix, IsOperator, operator_at, is_type_part, is_start}
use Rattle.vk_grammar_expr.specs.Types.{IsType, type_in}
use Rattle.vk_grammar_expr.specs.Grammar.{Tall, tall, trees_in, greatest, Sort, level, full, Spells, IsPost, AreArgs, AreMore, prefixed, a_prefix, a_cast, a_post, lower, a_binary, plain, a_choice, an_int, a_name, a_call, a_group, an_index, no_args, some_args, none_more, one_more}
use Rattle.vk_grammar_expr.specs.Inner.Parser.{Fault, then_do, many}
use Rattle.vk_grammar_expr.specs.Inner.Reading.{later_argument, arguments, subscripts, unaries, operators, levels, choices, conditional, expression}
use Rattle.vk_grammar_expr.proofs.Signs.{sign_is}
use Rattle.vk_grammar_expr.proofs.Starts.{Starts, spelled_starts, post_starts}
use Rattle.vk_grammar_expr.proofs.Stops.{StopsAt, StopsAll, Stops, lower_stops, close_paren_stops, close_bracket_stops, comma_stops, colon_stops, question_stops, no_open_paren, operator_stops, start_no_sign, start_no_type}
use Rattle.vk_grammar_expr.proofs.Equations

-- ---- heights and first tokens

mutual
  pub positive : {s : Sort} {e : Tree} {h : ℕ} {u : List Sym} → Spells s e h u → 0 < h
  positive (a_prefix i d) = omega arith
  positive (a_cast i c v d) = omega arith
  positive (a_post d) = positive_post d
  positive (lower d) = positive d
  positive (a_binary d i e) = omega arith
  positive (plain d) = positive d
  positive (a_choice d i e j f) = omega arith

  positive_post : {e : Tree} {h : ℕ} {u : List Sym} → IsPost e h u → 0 < h
  positive_post (an_int i) = omega arith
  positive_post (a_name i) = omega arith
  positive_post (a_call i u args v) = omega arith
  positive_post (a_group u d v) = omega arith
  positive_post (an_index d u e v) = omega arith

same_line : {x : List Sym} (y : List Sym) → Starts x → line_at (x ++ y) ≡ line_at x
same_line y s = ap (λ z. line_at (z ++ y)) s.parts ∙ sym (ap line_at s.parts)

same_number : {x : List Sym} (y : List Sym) → Starts x → number_at (x ++ y) ≡ number_at x
same_number y s = ap (λ z. number_at (z ++ y)) s.parts ∙ sym (ap number_at s.parts)

begins_no_sign : (m : Mark) {x : List Sym} (r : List Sym) → is_start (Some (kind.Sign m)) ≡ false → Starts x → is_sign m (head (x ++ r)) ≡ false
begins_no_sign m r n s = subst (λ z. is_sign m (head (z ++ r)) ≡ false) (sym s.parts) (start_no_sign m s.first.kind n s.begins)

begins_no_type : {x : List Sym} (r : List Sym) → Starts x → is_type_part (head (x ++ r)) ≡ false
begins_no_type r s = subst (λ z. is_type_part (head (z ++ r)) ≡ false) (sym s.parts) (start_no_type s.first.kind s.begins)

close_begins_none : is_start (Some (kind.Sign mark.CloseParen)) ≡ false
unfolding is_start
close_begins_none = refl

-- ---- what is to be shown

-- read whole, where the next token stops
pub record ReadsAs (s : Sort) (e : Tree) (h : ℕ) (u : List Sym) : Type 0 where
  pub reads : (turns d : ℕ) (r : List Sym) → h ≤ d → length u < turns → Stops s (head r) → expression turns d s (u ++ r) ≡ Ok (tall e h, r)

-- `o` has come to a loop behind the text `x`, with enough turns left
pub record Comes (limit h : ℕ) (x : List Sym) (o : Result (Tall × List Sym) Fault) (loop : (m l k : ℕ) → Result (Tall × List Sym) Fault) : Type 0 where
  pub left : ℕ
  pub room : limit < left + h
  pub is : o ≡ loop left (line_at x) (number_at x)

from_there : {limit h : ℕ} {x : List Sym} {o q : Result (Tall × List Sym) Fault} {loop : (m l k : ℕ) → Result (Tall × List Sym) Fault}
    → q ≡ o → Comes limit h x o loop → Comes limit h x q loop
from_there e c = record { left = c.left; room = c.room; is = e ∙ c.is }

-- a longer text begins with the same token
along : {limit h : ℕ} {x : List Sym} {o : Result (Tall × List Sym) Fault} {loop : (m l k : ℕ) → Result (Tall × List Sym) Fault} (y : List Sym)
    → Starts x → Comes limit h x o loop → Comes limit h (x ++ y) o loop
along {x = x} {loop = loop} y s c = record {
  left = c.left;
  room = c.room;
  is = c.is ∙ ap (λ l. loop c.left l (number_at x)) (sym (same_line y s)) ∙ ap (λ k. loop c.left (line_at (x ++ y)) k) (sym (same_number y s));
}

-- A text that goes on to the left: read as far as here, the loop stands at the next token.
pub record OpensAs (n : ℕ) (e : Tree) (h : ℕ) (u : List Sym) : Type 0 where
  pub opens : (turns d : ℕ) (r : List Sym) → h ≤ suc d → length u < turns → StopsAt n (head r)
      → Comes (suc d) h u (levels d turns (expression turns d) (suc n) (u ++ r)) (λ m l k. operators d turns (expression turns d) m n l k (tall e h) r)

pub record PostAs (e : Tree) (h : ℕ) (u : List Sym) : Type 0 where
  pub opens : (turns d : ℕ) (r : List Sym) → h ≤ suc d → length u < turns → is_sign mark.OpenParen (head r) ≡ false
      → Comes (suc d) h u (unaries d turns (expression turns d) (u ++ r)) (λ m l k. subscripts d turns (expression turns d) m l k (tall e h) r)

pub record ArgsAs (list : List Tall) (u : List Sym) : Type 0 where
  pub reads : (turns d : ℕ) (v : Sym) (r : List Sym) → greatest list ≤ d → length u < turns → IsSign mark.CloseParen v
      → arguments d turns (expression turns d) (u ++ (v ∷ r)) ≡ Ok (list, v ∷ r)

pub record MoreAs (list : List Tall) (u : List Sym) : Type 0 where
  pub reads : (turns d n : ℕ) (r : List Sym) → greatest list ≤ d → length u < turns → length u < n → StopsAll (head r) → is_sign mark.Comma (head r) ≡ false
      → many n (is_sign mark.Comma) (later_argument d turns (expression turns d)) (u ++ r) ≡ Ok (list, r)

abbrev Claim : Sort → Tree → ℕ → List Sym → Type 0
Claim full e h u = ReadsAs full e h u
Claim (level zero) e h u = ReadsAs (level zero) e h u
Claim (level (suc n)) e h u = OpensAs n e h u

-- ---- where a loop ends

module _ (turns d : ℕ) where
  operators_close : {e : Tree} {h : ℕ} (n l k m : ℕ) (r : List Sym) → h ≤ suc d → suc d < m + h → operator_at (suc n) (head r) ≡ None
      → operators d turns (expression turns d) m n l k (tall e h) r ≡ Ok (tall e h, r)
  operators_close n l k zero r i room e = absurd (omega arith)
  operators_close {e = e} {h = h} n l k (suc m) r i room stop = Equations.operators_end d turns (expression turns d) m n l k (tall e h) r stop

  subscripts_close : {e : Tree} {h : ℕ} (l k m : ℕ) (r : List Sym) → h ≤ suc d → suc d < m + h → is_sign mark.OpenBracket (head r) ≡ false
      → subscripts d turns (expression turns d) m l k (tall e h) r ≡ Ok (tall e h, r)
  subscripts_close l k zero r i room e = absurd (omega arith)
  subscripts_close {e = e} {h = h} l k (suc m) r i room stop = Equations.subscripts_end d turns (expression turns d) m l k (tall e h) r stop

level_closes : {n : ℕ} {e : Tree} {h : ℕ} {u : List Sym} → 0 < h → OpensAs n e h u → ReadsAs (level (suc n)) e h u
unfolding expression
level_closes {n} {e} {h} {u} p o = record { reads = at }
  where
    at : (turns d : ℕ) (r : List Sym) → h ≤ d → length u < turns → StopsAt (suc n) (head r) → expression turns d (level (suc n)) (u ++ r) ≡ Ok (tall e h, r)
    at turns zero r i len stops = absurd (omega arith)
    at turns (suc d) r i len stops = let c = o.opens turns d r i len (lower_stops n stops) in
        c.is ∙ operators_close turns d n (line_at u) (number_at u) c.left r i c.room (stops.operators n (omega arith))

closed : (s : Sort) {e : Tree} {h : ℕ} {u : List Sym} → 0 < h → Claim s e h u → ReadsAs s e h u
closed full p c = c
closed (level zero) p c = c
closed (level (suc n)) p c = level_closes p c

-- ---- operators between operands

lower_opens : {n : ℕ} {e : Tree} {h : ℕ} {u : List Sym} → 0 < h → Starts u → ReadsAs (level n) e h u → OpensAs n e h u
unfolding expression levels
lower_opens {n} {e} {h} {u} p s read = record { opens = at }
  where
    at : (turns d : ℕ) (r : List Sym) → h ≤ suc d → length u < turns → StopsAt n (head r)
        → Comes (suc d) h u (levels d turns (expression turns d) (suc n) (u ++ r)) (λ m l k. operators d turns (expression turns d) m n l k (tall e h) r)
    at turns d r i len stops = record {
      left = suc d;
      room = omega arith;
      is = ap (λ o. then_do o (operators d turns (expression turns d) (suc d) n (line_at (u ++ r)) (number_at (u ++ r)))) (read.reads turns (suc d) r i len stops)
          ∙ ap (λ l. operators d turns (expression turns d) (suc d) n l (number_at (u ++ r)) (tall e h) r) (same_line r s)
          ∙ ap (λ k. operators d turns (expression turns d) (suc d) n (line_at u) k (tall e h) r) (same_number r s);
    }

binary_opens : {n : ℕ} {o : BinOp} {a b : Tree} {h g : ℕ} {x : List Sym} {t : Sym} {y : List Sym} → Starts x → 0 < h → OpensAs n a h x → IsOperator (suc n) o t → ReadsAs (level n) b g y
    → OpensAs n (Tree.binary (line_at x) (number_at x) o a b) (suc (max h g)) (x ++ (t ∷ y))
binary_opens {n} {o} {a} {b} {h} {g} {x} {t} {y} s p first i second = record { opens = at }
  where
    node : Tall
    node = tall (Tree.binary (line_at x) (number_at x) o a b) (suc (max h g))

    step : (turns d m : ℕ) (r : List Sym) → h ≤ d → g ≤ d → length y < turns → StopsAt n (head r) → suc d < m + h
        → Comes (suc d) (suc (max h g)) x (operators d turns (expression turns d) m n (line_at x) (number_at x) (tall a h) (t ∷ (y ++ r)))
        (λ m l k. operators d turns (expression turns d) m n l k node r)
    step turns d zero r ih ig len stops room = absurd (omega arith)
    step turns d (suc m) r ih ig len stops room = record {
      left = m;
      room = omega arith;
      is = Equations.operator_reads d turns (expression turns d) m n (line_at x) (number_at x) (tall a h) y r i ih (second.reads turns d r ig len stops);
    }

    at : (turns d : ℕ) (r : List Sym) → suc (max h g) ≤ suc d → length (x ++ (t ∷ y)) < turns → StopsAt n (head r)
        → Comes (suc d) (suc (max h g)) (x ++ (t ∷ y)) (levels d turns (expression turns d) (suc n) ((x ++ (t ∷ y)) ++ r))
        (λ m l k. operators d turns (expression turns d) m n l k node r)
    at turns d r ih len stops =
        let c = first.opens turns d (t ∷ (y ++ r)) (omega arith) (omega (arith, length-append x (t ∷ y))) (operator_stops i) in
        along (t ∷ y) s (from_there (ap (levels d turns (expression turns d) (suc n)) (append_assoc x (t ∷ y) r) ∙ c.is)
        (step turns d c.left r (omega arith) (omega arith) (omega (arith, length-append x (t ∷ y))) stops c.room))

-- ---- primary and postfix expressions

int_opens : {t : Sym} {ty : Ty} {n : ℕ} → Is (kind.Int ty n) t → PostAs (Tree.int t.line t.at ty n) 1 (t ∷ [])
int_opens i = record { opens = λ turns d r ih len stop. record { left = suc d; room = omega arith; is = Equations.int_reads d turns (expression turns d) r i } }

name_opens : {t : Sym} {id : NameId} → Is (kind.Name id) t → PostAs (Tree.name t.line t.at id) 1 (t ∷ [])
name_opens i = record { opens = λ turns d r ih len stop. record { left = suc d; room = omega arith; is = Equations.name_reads d turns (expression turns d) r i stop } }

call_opens : {t : Sym} {id : NameId} {u : Sym} {list : List Tall} {x : List Sym} {v : Sym} → Is (kind.Name id) t → IsSign mark.OpenParen u → ArgsAs list x → IsSign mark.CloseParen v
    → PostAs (Tree.call t.line t.at id (trees_in list)) (suc (greatest list)) (t ∷ (u ∷ (x ++ (v ∷ []))))
call_opens {t} {id} {u} {list} {x} {v} i opens args shuts = record {
  opens = λ turns d r ih len stop. record {
    left = suc d;
    room = omega arith;
    is = ap (λ z. unaries d turns (expression turns d) (t ∷ (u ∷ z))) (append_assoc x (v ∷ []) r)
        ∙ Equations.call_reads d turns (expression turns d) x r i opens (args.reads turns d v r (omega arith) (omega (arith, length-append x (v ∷ []))) shuts) shuts;
  };
}

group_opens : {u : Sym} {e : Tree} {h : ℕ} {x : List Sym} {v : Sym} → 0 < h → Starts x → IsSign mark.OpenParen u → ReadsAs full e h x → IsSign mark.CloseParen v → PostAs e (suc h) (u ∷ (x ++ (v ∷ [])))
group_opens {u} {e} {h} {x} {v} p s opens read shuts = record {
  opens = λ turns d r ih len stop. record {
    left = suc d;
    room = omega arith;
    is = ap (λ z. unaries d turns (expression turns d) (u ∷ z)) (append_assoc x (v ∷ []) r)
        ∙ Equations.paren_reads d turns (expression turns d) (x ++ (v ∷ r)) opens (omega arith)
        ∙ Equations.group_reads d turns (expression turns d) u x r (begins_no_type (v ∷ r) s)
        (read.reads turns d (v ∷ r) (omega arith) (omega (arith, length-append x (v ∷ []))) (close_paren_stops shuts)) shuts;
  };
}

index_opens : {b i : Tree} {h g : ℕ} {x : List Sym} {u : Sym} {y : List Sym} {v : Sym} → Starts x → PostAs b h x → IsSign mark.OpenBracket u → ReadsAs full i g y → IsSign mark.CloseBracket v
    → PostAs (Tree.index (line_at x) (number_at x) b i) (suc (max h g)) (x ++ (u ∷ (y ++ (v ∷ []))))
index_opens {b} {i} {h} {g} {x} {u} {y} {v} s first opens second shuts = record { opens = at }
  where
    node : Tall
    node = tall (Tree.index (line_at x) (number_at x) b i) (suc (max h g))

    more_ : List Sym
    more_ = u ∷ (y ++ (v ∷ []))

    step : (turns d m : ℕ) (r : List Sym) → h ≤ d → g ≤ d → length y < turns → suc d < m + h
        → Comes (suc d) (suc (max h g)) x (subscripts d turns (expression turns d) m (line_at x) (number_at x) (tall b h) (u ∷ (y ++ (v ∷ r))))
        (λ m l k. subscripts d turns (expression turns d) m l k node r)
    step turns d zero r ih ig len room = absurd (omega arith)
    step turns d (suc m) r ih ig len room = record {
      left = m;
      room = omega arith;
      is = Equations.subscript_reads d turns (expression turns d) m (line_at x) (number_at x) (tall b h) y r opens ih (second.reads turns d (v ∷ r) ig len (close_bracket_stops shuts)) shuts;
    }

    at : (turns d : ℕ) (r : List Sym) → suc (max h g) ≤ suc d → length (x ++ more_) < turns → is_sign mark.OpenParen (head r) ≡ false
        → Comes (suc d) (suc (max h g)) (x ++ more_) (unaries d turns (expression turns d) ((x ++ more_) ++ r)) (λ m l k. subscripts d turns (expression turns d) m l k node r)
    at turns d r ih len stop =
        let c = first.opens turns d (u ∷ (y ++ (v ∷ r))) (omega arith) (omega (arith, length-append x more_)) (no_open_paren opens) in
        along more_ s (from_there (ap (unaries d turns (expression turns d)) (append_assoc x more_ r ∙ ap (λ z. x ++ (u ∷ z)) (append_assoc y (v ∷ []) r)) ∙ c.is)
        (step turns d c.left r (omega arith) (omega arith) (omega (arith, length-append x more_, length-append y (v ∷ []))) c.room))

-- ---- arguments

no_args_read : ArgsAs [] []
no_args_read = record { reads = λ turns d v r ih len shuts. Equations.no_arguments d turns (expression turns d) r shuts }

more_stops : {list : List Tall} {y : List Sym} (r : List Sym) → AreMore list y → StopsAll (head r) → StopsAll (head (y ++ r))
more_stops r none_more s = s
more_stops r (one_more i d e) s = comma_stops i

more_stops_at : {list : List Tall} {y : List Sym} {v : Sym} (r : List Sym) → AreMore list y → IsSign mark.CloseParen v → StopsAll (head (y ++ (v ∷ r)))
more_stops_at {v = v} r d shuts = more_stops (v ∷ r) d (close_paren_stops shuts)

no_comma : {v : Sym} → IsSign mark.CloseParen v → is_sign mark.Comma (Some v.kind) ≡ false
unfolding is_sign same_mark
no_comma i = subst (λ k. is_sign mark.Comma (Some k) ≡ false) (sym i.is) refl

some_args_read : {e : Tree} {h : ℕ} {list : List Tall} {x y : List Sym} → Starts x → ReadsAs full e h x → AreMore list y → MoreAs list y → ArgsAs (tall e h ∷ list) (x ++ y)
some_args_read {e} {h} {list} {x} {y} s read d more_ = record {
  reads = λ turns d' v r ih len shuts.
      ap (arguments d' turns (expression turns d')) (append_assoc x y (v ∷ r))
      ∙ Equations.arguments_read d' turns (expression turns d') (x ++ (y ++ (v ∷ r))) (y ++ (v ∷ r)) (v ∷ r) (no_close (y ++ (v ∷ r)))
      (read.reads turns d' (y ++ (v ∷ r)) (omega arith) (omega (arith, length-append x y)) (more_stops_at r d shuts))
      (more_.reads turns d' turns (v ∷ r) (omega arith) (omega (arith, length-append x y)) (omega (arith, length-append x y)) (close_paren_stops shuts) (no_comma shuts));
}
  where
    no_close : (r : List Sym) → is_sign mark.CloseParen (head (x ++ r)) ≡ false
    no_close r = begins_no_sign mark.CloseParen r close_begins_none s

none_more_read : MoreAs [] []
none_more_read = record { reads = at }
  where
    at : (turns d n : ℕ) (r : List Sym) → 0 ≤ d → 0 < turns → 0 < n → StopsAll (head r) → is_sign mark.Comma (head r) ≡ false
        → many n (is_sign mark.Comma) (later_argument d turns (expression turns d)) r ≡ Ok ([], r)
    at turns d zero r ih len less stops stop = absurd (omega arith)
    at turns d (suc n) r ih len less stops stop = Equations.many_end (is_sign mark.Comma) (later_argument d turns (expression turns d)) n r stop

one_more_read : {t : Sym} {e : Tree} {h : ℕ} {list : List Tall} {x y : List Sym} → IsSign mark.Comma t → ReadsAs full e h x → AreMore list y → MoreAs list y → MoreAs (tall e h ∷ list) ((t ∷ x) ++ y)
one_more_read {t} {e} {h} {list} {x} {y} i read d more_ = record { reads = at }
  where
    at : (turns d' n : ℕ) (r : List Sym) → max h (greatest list) ≤ d' → length ((t ∷ x) ++ y) < turns → length ((t ∷ x) ++ y) < n → StopsAll (head r) → is_sign mark.Comma (head r) ≡ false
        → many n (is_sign mark.Comma) (later_argument d' turns (expression turns d')) (((t ∷ x) ++ y) ++ r) ≡ Ok (tall e h ∷ list, r)
    at turns d' zero r ih len less stops stop = absurd (omega arith)
    at turns d' (suc n) r ih len less stops stop =
        Equations.many_more (is_sign mark.Comma) (later_argument d' turns (expression turns d')) n (t ∷ ((x ++ y) ++ r)) (y ++ r) r (sign_is i)
        (Equations.later_reads d' turns (expression turns d') ((x ++ y) ++ r) (y ++ r) i (ap (expression turns d' full) (append_assoc x y r)
        ∙ read.reads turns d' (y ++ r) (omega arith) (omega (arith, length-append x y)) (more_stops r d stops)))
        (more_.reads turns d' n r (omega arith) (omega (arith, length-append x y)) (omega (arith, length-append x y)) stops stop)

-- ---- unary operators and casts

post_closes : {e : Tree} {h : ℕ} {u : List Sym} → 0 < h → PostAs e h u → ReadsAs (level 0) e h u
unfolding expression levels
post_closes {e} {h} {u} p o = record { reads = at }
  where
    at : (turns d : ℕ) (r : List Sym) → h ≤ d → length u < turns → StopsAt 0 (head r) → expression turns d (level 0) (u ++ r) ≡ Ok (tall e h, r)
    at turns zero r i len stops = absurd (omega arith)
    at turns (suc d) r i len stops = let c = o.opens turns d r i len stops.paren in
        c.is ∙ subscripts_close turns d (line_at u) (number_at u) c.left r i c.room stops.bracket

prefix_read : {p : Prefix} {t : Sym} {e : Tree} {h : ℕ} {x : List Sym} → 0 < h → IsPrefix p t → ReadsAs (level 0) e h x → ReadsAs (level 0) (prefixed p t.line t.at e) (suc h) (t ∷ x)
unfolding expression levels
prefix_read {p} {t} {e} {h} {x} pos i read = record { reads = at }
  where
    at : (turns d : ℕ) (r : List Sym) → suc h ≤ d → length (t ∷ x) < turns → StopsAt 0 (head r) → expression turns d (level 0) (t ∷ (x ++ r)) ≡ Ok (tall (prefixed p t.line t.at e) (suc h), r)
    at turns zero r ih len stops = absurd (omega arith)
    at turns (suc d) r ih len stops = Equations.prefix_reads d turns (expression turns d) x r i (omega arith) (read.reads turns d r (omega arith) (omega arith) stops)

no_type_part : {v : Sym} → IsSign mark.CloseParen v → is_type_part (Some v.kind) ≡ false
unfolding is_type_part
no_type_part i = subst (λ k. is_type_part (Some k) ≡ false) (sym i.is) refl

cast_read : {u : Sym} {c : List Sym} {v : Sym} {e : Tree} {h : ℕ} {x : List Sym} → 0 < h → IsSign mark.OpenParen u → IsType c → IsSign mark.CloseParen v → ReadsAs (level 0) e h x
    → ReadsAs (level 0) (Tree.cast u.line u.at (type_in c) e) (suc h) (u ∷ (c ++ (v ∷ x)))
unfolding expression levels
cast_read {u} {c} {v} {e} {h} {x} pos opens type shuts read = record { reads = at }
  where
    at : (turns d : ℕ) (r : List Sym) → suc h ≤ d → length (u ∷ (c ++ (v ∷ x))) < turns → StopsAt 0 (head r)
        → expression turns d (level 0) (u ∷ ((c ++ (v ∷ x)) ++ r)) ≡ Ok (tall (Tree.cast u.line u.at (type_in c) e) (suc h), r)
    at turns zero r ih len stops = absurd (omega arith)
    at turns (suc d) r ih len stops = ap (λ z. unaries d turns (expression turns d) (u ∷ z)) (append_assoc c (v ∷ x) r)
        ∙ Equations.paren_reads d turns (expression turns d) (c ++ (v ∷ (x ++ r))) opens (omega arith)
        ∙ Equations.cast_reads d turns (expression turns d) u (c ++ (v ∷ (x ++ r))) x r (Equations.type_begins (v ∷ (x ++ r)) type)
        (Equations.words_read turns (v ∷ (x ++ r)) type (omega (arith, length-append c (v ∷ x))) (no_type_part shuts)) shuts
        (read.reads turns d r (omega arith) (omega (arith, length-append c (v ∷ x))) stops)

-- ---- the conditional operator

plain_read : {e : Tree} {h : ℕ} {x : List Sym} → 0 < h → ReadsAs (level 10) e h x → ReadsAs full e h x
unfolding expression conditional
plain_read {e} {h} {x} pos read = record { reads = at }
  where
    at : (turns d : ℕ) (r : List Sym) → h ≤ d → length x < turns → StopsAll (head r) → expression turns d full (x ++ r) ≡ Ok (tall e h, r)
    at turns zero r ih len stops = absurd (omega arith)
    at turns (suc d) r ih len stops = ap (λ o. then_do o (choices d turns (expression turns d) (line_at (x ++ r)) (number_at (x ++ r)))) (read.reads turns (suc d) r ih len stops.levels)
        ∙ Equations.choice_end d turns (expression turns d) (line_at (x ++ r)) (number_at (x ++ r)) (tall e h) r stops.question

choice_read : {c a b : Tree} {h k m : ℕ} {x : List Sym} {u : Sym} {y : List Sym} {v : Sym} {z : List Sym} → 0 < h → Starts x → ReadsAs (level 10) c h x → IsSign mark.Question u
    → ReadsAs full a k y → IsSign mark.Colon v → ReadsAs full b m z
    → ReadsAs full (Tree.choice (line_at x) (number_at x) c a b) (suc (max h (max k m))) (x ++ (u ∷ (y ++ (v ∷ z))))
unfolding expression conditional
choice_read {c} {a} {b} {h} {k} {m} {x} {u} {y} {v} {z} pos s first i second j third = record { reads = at }
  where
    at : (turns d : ℕ) (r : List Sym) → suc (max h (max k m)) ≤ d → length (x ++ (u ∷ (y ++ (v ∷ z)))) < turns → StopsAll (head r)
        → expression turns d full ((x ++ (u ∷ (y ++ (v ∷ z)))) ++ r) ≡ Ok (tall (Tree.choice (line_at x) (number_at x) c a b) (suc (max h (max k m))), r)
    at turns zero r ih len stops = absurd (omega arith)
    at turns (suc d) r ih len stops =
        let rest : List Sym = u ∷ (y ++ (v ∷ (z ++ r))) in
        let lx : length x < turns = omega (arith, length-append x (u ∷ (y ++ (v ∷ z)))) in
        let ly : length y < turns = omega (arith, length-append x (u ∷ (y ++ (v ∷ z))), length-append y (v ∷ z)) in
        let lz : length z < turns = omega (arith, length-append x (u ∷ (y ++ (v ∷ z))), length-append y (v ∷ z)) in
        ap (expression turns (suc d) full) (append_assoc x (u ∷ (y ++ (v ∷ z))) r ∙ ap (λ q. x ++ (u ∷ q)) (append_assoc y (v ∷ z) r))
        ∙ ap (λ o. then_do o (choices d turns (expression turns d) (line_at (x ++ rest)) (number_at (x ++ rest)))) (first.reads turns (suc d) rest (omega arith) lx (question_stops i))
        ∙ ap (λ l. choices d turns (expression turns d) l (number_at (x ++ rest)) (tall c h) rest) (same_line rest s)
        ∙ ap (λ q. choices d turns (expression turns d) (line_at x) q (tall c h) rest) (same_number rest s)
        ∙ Equations.choice_reads d turns (expression turns d) (line_at x) (number_at x) (tall c h) y z r i (omega arith)
        (second.reads turns d (v ∷ (z ++ r)) (omega arith) ly (colon_stops j)) j (third.reads turns d r (omega arith) lz stops)

-- ---- every text

mutual
  whole : {s : Sort} {e : Tree} {h : ℕ} {u : List Sym} → Spells s e h u → Claim s e h u
  whole (a_prefix i d) = prefix_read (positive d) i (closed (level 0) (positive d) (whole d))
  whole (a_cast i c v d) = cast_read (positive d) i c v (closed (level 0) (positive d) (whole d))
  whole (a_post d) = post_closes (positive_post d) (whole_post d)
  whole (lower {n = n} d) = lower_opens (positive d) (spelled_starts d) (closed (level n) (positive d) (whole d))
  whole (a_binary {n = n} d i e) = binary_opens (spelled_starts d) (positive d) (whole d) i (closed (level n) (positive e) (whole e))
  whole (plain d) = plain_read (positive d) (closed (level 10) (positive d) (whole d))
  whole (a_choice d i e j f) = choice_read (positive d) (spelled_starts d) (closed (level 10) (positive d) (whole d)) i (whole e) j (whole f)

  whole_post : {e : Tree} {h : ℕ} {u : List Sym} → IsPost e h u → PostAs e h u
  whole_post (an_int i) = int_opens i
  whole_post (a_name i) = name_opens i
  whole_post (a_call i u args v) = call_opens i u (whole_args args) v
  whole_post (a_group u d v) = group_opens (positive d) (spelled_starts d) u (whole d) v
  whole_post (an_index d u e v) = index_opens (post_starts d) (whole_post d) u (whole e) v

  whole_args : {list : List Tall} {u : List Sym} → AreArgs list u → ArgsAs list u
  whole_args no_args = no_args_read
  whole_args (some_args d e) = some_args_read (spelled_starts d) (whole d) e (whole_more e)

  whole_more : {list : List Tall} {u : List Sym} → AreMore list u → MoreAs list u
  whole_more none_more = none_more_read
  whole_more (one_more i d e) = one_more_read i (whole d) e (whole_more e)

-- Whatever the next token is, as long as it goes on with no expression of this sort.
pub reads_whole : {s : Sort} {e : Tree} {h : ℕ} {u : List Sym} → Spells s e h u → ReadsAs s e h u
reads_whole {s} d = closed s (positive d) (whole d)
