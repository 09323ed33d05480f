-- More turns, and more levels, change no answer but one that was cut short: `q` tells what `p` tells, unless `p` ran into its
-- limits. Where `deep` is true, a place that is too deep counts as cut short; where it is false, `q` has the levels of `p`.
use Rattle.std.proofs.Common.{◌≡◌, ℕ, zero, suc, pred, max, ◌≤◌, Bool, true, false, nat_le, ◌⊎◌, inl, inr, List, length, Option, Some, None, Result, Ok, Err, refl, sym, ap, ◌∙◌, arith, true≢false, le_trans, le-leb, leb-true, suc-le-suc, le_of_suc-le-suc, suc-ne-zero}
use Rattle.vk_ast.specs.declared.names.NameId.{NameId}
use Rattle.vk_ast.specs.Tree.{Tree}
use Rattle.vk_tokens.specs.declared.tokens.Mark.TheVariants as mark
use Rattle.vk_grammar_expr.specs.declared.symbols.Sym.{Sym}
use Rattle.vk_grammar_expr.specs.declared.symbols.SymKind.{SymKind}
use Rattle.vk_grammar_expr.specs.declared.symbols.SymKind.TheVariants as kind
use Rattle.vk_grammar_expr.specs.declared.symbols.Prefix.{Prefix}
use Rattle.vk_grammar_expr.specs.Symbols.{head, line_at, number_at, is_sign, prefix_at, operator_at, is_type_part, is_start}
use Rattle.vk_grammar_expr.specs.Grammar.{Tall, tall, Sort, level, full}
use Rattle.vk_grammar_expr.specs.Inner.Parser.{Fault, Syntax, Deep, Spent, Parser, too_deep, spent, then_do, ◌>>=◌, look, here, pick, pick_some, many}
use Rattle.vk_grammar_expr.proofs.Signs.{sign_kind}
use Rattle.vk_grammar_expr.proofs.Starts.{prefix_begins}
use Rattle.vk_grammar_expr.specs.Inner.Reading.{type_words, nothing, later_argument, some_arguments, arguments, call_of, named, atom_at, atom, subscript, subscript_step, subscripts, post, group, cast_of, behind_paren, paren, prefix_operand, prefix_sign, unaries, right_operand, operator_step, operators, levels, branches, choices, conditional, sorted, expression}

abbrev pub IsCut : Bool → {A : Type 0} → Result (A × List Sym) Fault → Type 0
IsCut deep (Ok read) = ⊥
IsCut deep (Err (Syntax n)) = ⊥
IsCut deep (Err (Deep n)) = deep ≡ true
IsCut deep (Err Spent) = Unit {0}

pub record Grows (deep : Bool) {A : Type 0} (p q : Parser A) : Type 0 where
  pub grows : (w : List Sym) → IsCut deep (p w) ⊎ (q w ≡ p w)

-- `e` levels are as many as `d`, or more where a place that is too deep counts as cut short
pub record Room (deep : Bool) (d e : ℕ) : Type 0 where
  pub above : d ≤ e
  pub same : deep ≡ false → d ≡ e

-- ---- the ways of joining readers

pub same_grows : {deep : Bool} {A : Type 0} {p : Parser A} → Grows deep p p
same_grows = record { grows = λ w. inr refl }

pub spent_grows : {deep : Bool} {A : Type 0} {q : Parser A} → Grows deep spent q
spent_grows = record { grows = λ w. inl tt }

module _ (deep : Bool) {A B : Type 0} (f g : A → Parser B) (next : (a : A) → Grows deep (f a) (g a)) where
  cut_first : (o : Result (A × List Sym) Fault) → IsCut deep o → IsCut deep (then_do o f)
  cut_first (Ok read) c = absurd c
  cut_first (Err (Syntax n)) c = absurd c
  cut_first (Err (Deep n)) c = c
  cut_first (Err Spent) c = tt

  then_grows : (o : Result (A × List Sym) Fault) → IsCut deep (then_do o f) ⊎ (then_do o g ≡ then_do o f)
  then_grows (Ok read) = (next read.0).grows read.1
  then_grows (Err fault) = inr refl

  first_grows : (o q : Result (A × List Sym) Fault) → IsCut deep o ⊎ (q ≡ o) → IsCut deep (then_do o f) ⊎ (then_do q g ≡ then_do o f)
  first_grows o q (inl c) = inl (cut_first o c)
  first_grows o q (inr e) = on_then (then_grows o)
    where
      on_then : IsCut deep (then_do o f) ⊎ (then_do o g ≡ then_do o f) → IsCut deep (then_do o f) ⊎ (then_do q g ≡ then_do o f)
      on_then (inl c) = inl c
      on_then (inr k) = inr (ap (λ z. then_do z g) e ∙ k)

pub bind_grows : {deep : Bool} {A B : Type 0} {p q : Parser A} {f g : A → Parser B} → Grows deep p q → ((a : A) → Grows deep (f a) (g a)) → Grows deep (p >>= f) (q >>= g)
bind_grows {deep} {p} {q} {f} {g} h next = record { grows = λ w. first_grows deep f g next (p w) (q w) (h.grows w) }

pub look_grows : {deep : Bool} {A : Type 0} {f g : Option SymKind → Parser A} → ((k : Option SymKind) → Grows deep (f k) (g k)) → Grows deep (look f) (look g)
look_grows h = record { grows = λ w. (h (head w)).grows w }

pub here_grows : {deep : Bool} {A : Type 0} {f g : ℕ → ℕ → Parser A} → ((l k : ℕ) → Grows deep (f l k) (g l k)) → Grows deep (here f) (here g)
here_grows h = record { grows = λ w. (h (line_at w) (number_at w)).grows w }

pub pick_grows : {deep : Bool} {A : Type 0} {p q r s : Parser A} (b : Bool) → Grows deep p q → Grows deep r s → Grows deep (pick b p r) (pick b q s)
pick_grows true h i = h
pick_grows false h i = i

-- a test of the limit
pub limit_grows : {deep : Bool} {A : Type 0} {p q : Parser A} (b c : Bool) → (b ≡ true → c ≡ true) → (deep ≡ false → b ≡ c) → Grows deep p q
    → Grows deep (pick b p too_deep) (pick c q too_deep)
limit_grows true true e f h = h
limit_grows true false e f h = absurd (true≢false (sym (e refl)))
limit_grows {deep = true} false c e f h = record { grows = λ w. inl refl }
limit_grows {deep = false} false true e f h = absurd (true≢false (sym (f refl)))
limit_grows {deep = false} false false e f h = same_grows

pub pick_some_grows : {deep : Bool} {A B : Type 0} {f g : A → Parser B} {p q : Parser B} (o : Option A) → ((a : A) → Grows deep (f a) (g a)) → Grows deep p q → Grows deep (pick_some o f p) (pick_some o g q)
pick_some_grows (Some a) h i = h a
pick_some_grows None h i = i

pub choose_grows : {deep : Bool} {A : Type 0} {p q r s : Parser A} (test : Option SymKind → Bool) → Grows deep p q → Grows deep r s → Grows deep (look (λ k. pick (test k) p r)) (look (λ k. pick (test k) q s))
choose_grows test h i = record { grows = λ w. (pick_grows (test (head w)) h i).grows w }

pub choose_some_grows : {deep : Bool} {A B : Type 0} {f g : A → Parser B} {p q : Parser B} (of : Option SymKind → Option A) → ((a : A) → Grows deep (f a) (g a)) → Grows deep p q
    → Grows deep (look (λ k. pick_some (of k) f p)) (look (λ k. pick_some (of k) g q))
choose_some_grows of h i = record { grows = λ w. (pick_some_grows (of (head w)) h i).grows w }

pub many_grows : {deep : Bool} {A : Type 0} {p q : Parser A} (test : Option SymKind → Bool) → Grows deep p q → (n m : ℕ) → n ≤ m → Grows deep (many n test p) (many m test q)
unfolding many
many_grows test h zero m e = spent_grows
many_grows test h (suc n) zero e = absurd (omega arith)
many_grows test h (suc n) (suc m) e = choose_grows test (bind_grows h (λ a. bind_grows (many_grows test h n m (omega arith)) (λ list. same_grows))) same_grows

pub height_grows : {deep : Bool} {A : Type 0} {p q : Parser A} {d e : ℕ} (h : ℕ) → Room deep d e → Grows deep p q → Grows deep (pick (nat_le h d) p too_deep) (pick (nat_le h e) q too_deep)
height_grows {d} {e} h room g = limit_grows (nat_le h d) (nat_le h e) (λ t. le-leb h e (le_trans (leb-true h d t) room.above)) (λ f. ap (nat_le h) (room.same f)) g

-- ---- a token that begins no expression is refused under any limit

none_there : (k : Option SymKind) → is_start k ≡ false → prefix_at k ≡ None
unfolding prefix_at
none_there None e = refl
none_there (Some k) e = go (prefix_at (Some k)) refl
  where
    go : (o : Option Prefix) → prefix_at (Some k) ≡ o → prefix_at (Some k) ≡ None
    go None i = i
    go (Some p) i = absurd (true≢false (sym (prefix_begins k p i) ∙ e))

no_paren : (k : Option SymKind) → is_start k ≡ false → is_sign mark.OpenParen k ≡ false
unfolding is_sign is_start
no_paren None e = refl
no_paren (Some k) e = go (is_sign mark.OpenParen (Some k)) refl
  where
    go : (b : Bool) → is_sign mark.OpenParen (Some k) ≡ b → is_sign mark.OpenParen (Some k) ≡ false
    go false i = i
    go true i = absurd (true≢false (ap (λ z. is_start (Some z)) (sym (sign_kind mark.OpenParen k i)) ∙ e))

module _ (d turns : ℕ) (sub : Sort → Parser Tall) where
  refused_atom : (k : Option SymKind) (w : List Sym) → is_start k ≡ false → atom_at d turns sub k w ≡ Err (Syntax (length w))
  unfolding is_start
  refused_atom (Some (kind.Int ty n)) w e = absurd (true≢false e)
  refused_atom (Some (kind.Name id)) w e = absurd (true≢false e)
  refused_atom _ w e = refl

  refused_level : (n : ℕ) (w : List Sym) → is_start (head w) ≡ false → levels d turns sub n w ≡ Err (Syntax (length w))
  unfolding levels unaries post atom
  refused_level zero w e = rw (none_there (head w) e, no_paren (head w) e) (ap (λ o. then_do o (subscripts d turns sub (suc d) (line_at w) (number_at w))) (refused_atom (head w) w e))
  refused_level (suc n) w e = ap (λ o. then_do o (operators d turns sub (suc d) n (line_at w) (number_at w))) (refused_level n w e)

pub refused : (turns d : ℕ) (s : Sort) (w : List Sym) → is_start (head w) ≡ false → expression turns d s w ≡ Err (Syntax (length w))
unfolding expression nothing conditional
refused turns zero s w e = rw e
refused turns (suc d) (level n) w e = refused_level d turns (expression turns d) n w e
refused turns (suc d) full w e = ap (λ o. then_do o (choices d turns (expression turns d) (line_at w) (number_at w))) (refused_level d turns (expression turns d) 10 w e)

nothing_grows : (deep : Bool) (turns more_turns d : ℕ) (s : Sort) → Room deep zero d → Grows deep (expression turns zero s) (expression more_turns d s)
unfolding expression nothing
nothing_grows false turns more_turns zero s room = same_grows
nothing_grows false turns more_turns (suc d) s room = absurd (suc-ne-zero d (sym (room.same refl)))
nothing_grows true turns more_turns d s room = record { grows = λ w. at_first w (is_start (head w)) refl }
  where
    at_first : (w : List Sym) (b : Bool) → is_start (head w) ≡ b → IsCut true (nothing w) ⊎ (expression more_turns d s w ≡ nothing w)
    at_first w true e = inl (rw e refl)
    at_first w false e = inr (refused more_turns d s w e ∙ rw e)

-- ---- one function after the other

module _ (deep : Bool) (d e turns more_turns : ℕ) (room : Room deep d e) (turns_le : turns ≤ more_turns) (sub sup : Sort → Parser Tall) (subs : (s : Sort) → Grows deep (sub s) (sup s)) where
  arguments_grow : Grows deep (arguments d turns sub) (arguments e more_turns sup)
  unfolding arguments some_arguments later_argument
  arguments_grow = choose_grows (is_sign mark.CloseParen) same_grows
      (bind_grows (subs full) (λ first. bind_grows (many_grows (is_sign mark.Comma) (bind_grows same_grows (λ t. subs full)) turns more_turns turns_le) (λ rest. same_grows)))

  named_grows : (id : NameId) (t : Sym) → Grows deep (named d turns sub id t) (named e more_turns sup id t)
  unfolding named call_of
  named_grows id t = choose_grows (is_sign mark.OpenParen) (bind_grows same_grows (λ u. bind_grows arguments_grow (λ list. same_grows))) same_grows

  atom_at_grows : (k : Option SymKind) → Grows deep (atom_at d turns sub k) (atom_at e more_turns sup k)
  atom_at_grows (Some (kind.Name id)) = bind_grows same_grows (named_grows id)
  atom_at_grows _ = same_grows

  subscripts_grow : (n m l k : ℕ) (a : Tall) → n ≤ m → Grows deep (subscripts d turns sub n l k a) (subscripts e more_turns sup m l k a)
  unfolding subscripts subscript_step subscript
  subscripts_grow zero m l k a i = spent_grows
  subscripts_grow (suc n) zero l k a i = absurd (omega arith)
  subscripts_grow (suc n) (suc m) l k a i = choose_grows (is_sign mark.OpenBracket)
      (height_grows a.height room (bind_grows same_grows (λ t. bind_grows (subs full) (λ j. bind_grows same_grows (λ v. subscripts_grow n m l k (tall (Tree.index l k a.tree j.tree) (suc (max a.height j.height))) (omega arith))))))
      same_grows

  post_grows : Grows deep (post d turns sub) (post e more_turns sup)
  unfolding post atom
  post_grows = here_grows (λ l k. bind_grows (look_grows atom_at_grows) (λ a. subscripts_grow (suc d) (suc e) l k a (suc-le-suc room.above)))

  behind_paren_grows : (t : Sym) → Grows deep (behind_paren d turns sub t) (behind_paren e more_turns sup t)
  unfolding behind_paren cast_of group type_words
  behind_paren_grows t = choose_grows is_type_part
      (bind_grows (bind_grows (many_grows is_type_part same_grows turns more_turns turns_le) (λ c. same_grows)) (λ c. bind_grows same_grows (λ v. bind_grows (subs (level 0)) (λ a. same_grows))))
      (bind_grows (bind_grows (subs full) (λ a. same_grows)) (λ a. subscripts_grow (suc d) (suc e) t.line t.at a (suc-le-suc room.above)))

  prefix_sign_grows : (p : Prefix) → Grows deep (prefix_sign d turns sub p) (prefix_sign e more_turns sup p)
  unfolding prefix_sign prefix_operand
  prefix_sign_grows p = height_grows 1 room (bind_grows same_grows (λ t. bind_grows (subs (level 0)) (λ a. same_grows)))

  paren_grows : Grows deep (paren d turns sub) (paren e more_turns sup)
  unfolding paren
  paren_grows = height_grows 1 room (bind_grows same_grows behind_paren_grows)

  pub unaries_grow : Grows deep (unaries d turns sub) (unaries e more_turns sup)
  unfolding unaries
  unaries_grow = look_grows (λ k. pick_some_grows (prefix_at k) prefix_sign_grows (pick_grows (is_sign mark.OpenParen k) paren_grows post_grows))

  pub operators_grow : (n m r l k : ℕ) (a : Tall) → n ≤ m → Grows deep (operators d turns sub n r l k a) (operators e more_turns sup m r l k a)
  unfolding operators operator_step right_operand
  operators_grow zero m r l k a i = spent_grows
  operators_grow (suc n) zero r l k a i = absurd (omega arith)
  operators_grow (suc n) (suc m) r l k a i = choose_some_grows (operator_at (suc r))
      (λ o. height_grows a.height room (bind_grows same_grows (λ t. bind_grows (subs (level r)) (λ b. operators_grow n m r l k (tall (Tree.binary l k o a.tree b.tree) (suc (max a.height b.height))) (omega arith)))))
      same_grows

  levels_grow : (n : ℕ) → Grows deep (levels d turns sub n) (levels e more_turns sup n)
  unfolding levels
  levels_grow zero = unaries_grow
  levels_grow (suc n) = here_grows (λ l k. bind_grows (levels_grow n) (λ a. operators_grow (suc d) (suc e) n l k a (suc-le-suc room.above)))

  pub choices_grow : (l k : ℕ) (c : Tall) → Grows deep (choices d turns sub l k c) (choices e more_turns sup l k c)
  unfolding choices branches
  choices_grow l k c = choose_grows (is_sign mark.Question)
      (height_grows c.height room (bind_grows same_grows (λ t. bind_grows (subs full) (λ a. bind_grows same_grows (λ v. bind_grows (subs full) (λ b. same_grows))))))
      same_grows

  sorted_grows : (s : Sort) → Grows deep (sorted d turns sub s) (sorted e more_turns sup s)
  unfolding conditional
  sorted_grows (level n) = levels_grow n
  sorted_grows full = here_grows (λ l k. bind_grows (levels_grow 10) (choices_grow l k))

pub lower_room : {deep : Bool} {d e : ℕ} → Room deep (suc d) (suc e) → Room deep d e
lower_room r = record { above = le_of_suc-le-suc r.above; same = λ f. suc_injective (r.same f) }
  where
    suc_injective : {a b : ℕ} → suc a ≡ suc b → a ≡ b
    suc_injective {a} {b} e = ap pred e

pub expression_grows : (deep : Bool) (turns more_turns : ℕ) → turns ≤ more_turns → (d e : ℕ) → Room deep d e → (s : Sort) → Grows deep (expression turns d s) (expression more_turns e s)
unfolding expression
expression_grows deep turns more_turns i zero e room s = nothing_grows deep turns more_turns e s room
expression_grows deep turns more_turns i (suc d) zero room s = absurd (omega (arith, room.above))
expression_grows deep turns more_turns i (suc d) (suc e) room s = sorted_grows deep d e turns more_turns (lower_room room) i (expression turns d) (expression more_turns e)
    (expression_grows deep turns more_turns i d e (lower_room room)) s
