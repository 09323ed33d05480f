-- What the reader of statements takes is within its limits, and its loops have turns enough.
use Rattle.std.proofs.Common.{◌≡◌, ◌≤◌, ◌<◌, ℕ, zero, suc, Bool, true, false, nat_lt, List, [], ◌∷◌, ◌++◌, Some, refl, sym, ◌∙◌, subst, arith, true≢false, leb-true}
use Rattle.vk_types.specs.declared.types.Ty.{Ty}
use Rattle.vk_ast.specs.Tree.{Tree}
use Rattle.vk_ast.specs.Statements.{StmtTree}
use Rattle.vk_tokens.specs.declared.tokens.Mark.{Mark}
use Rattle.vk_tokens.specs.declared.tokens.Mark.TheVariants as mark
use Rattle.vk_grammar_expr.specs.declared.symbols.Sym.{Sym}
use Rattle.vk_grammar_expr.specs.declared.symbols.SymKind.{SymKind}
use Rattle.vk_grammar_expr.specs.declared.symbols.SymKind.TheVariants as kind
use Rattle.vk_grammar_expr.specs.declared.symbols.Keyword.TheVariants as keyword
use Rattle.vk_grammar_expr.specs.Symbols.{head, line_at, number_at, Is, IsSign, is_sign, is_type_part}
use Rattle.vk_grammar_expr.specs.Types.{type_in}
use Rattle.vk_grammar_expr.specs.Grammar.{Tall, Sort, level, full, Spells}
use Rattle.vk_grammar_expr.specs.Inner.Parser.{Parser, pure, pick_some, many}
use Rattle.vk_grammar_expr.specs.Inner.Reading.{type_words, expression}
use Rattle.vk_grammar_expr.proofs.Starts.{Starts, Spelled, spelled_starts}
use Rattle.vk_grammar_expr.proofs.Sound.{IsTypeText, type_words_follows, expression_follows}
use Rattle.vk_grammar_expr.proofs.Signs.{sign_kind}
use Rattle.vk_grammar_stmt.proofs.Sound.{brace_no_type}
use Rattle.vk_grammar_expr.proofs.Heights.{Within, Any, expression_keeps, type_words_keep}
use Rattle.vk_grammar_expr.proofs.Climb.{onwards_follows, onwards_keep}
use Rattle.vk_grammar_stmt.specs.Words.{IsKeyword, is_keyword, name_at, has_const, assign_at, step_at, is_stmt_start}
use Rattle.vk_grammar_stmt.specs.Trees.{Clauses, stmts_in, joined, single, is_open, levels_of, all_levels}
use Rattle.vk_grammar_stmt.specs.Grammar.{InParens, in_parens, IsOptional, left_out, given, IsAct, a_step_before, a_step_behind, a_value, IsPart, no_act, an_act, IsNamed, AreNamed, none_named, AreLocals, IsFirst, first_act, IsBlock, in_braces, IsPlain, a_block, a_part, an_if, a_while, a_break, a_continue, a_return, a_simd, a_lost_line, IsStmt, a_plain, IsEntry, plain_entry, locals_entry, AreEntries, no_entries, more_entries}
use Rattle.vk_grammar_stmt.specs.Inner.Reading.{is_not, no_level, cond, unary, condition, optional, step_before, assigned, stepped, valued, behind_operand, act, part, initial, named_local, local, later_local, local_list, locals, one_locals, jump, returned, block, else_part, choice, while_loop, do_loop, first_part, for_rest, for_loop, simd_line, lost_line, deeper, plain_at, plain, one_statement, one_entry, statement, entry, body}
use Rattle.vk_grammar_stmt.proofs.Signs.{Parted, not_true}
use Rattle.vk_grammar_stmt.proofs.Forms.{an_assign, IsInitial, not_initial, an_initial, initialised, IsLater, later, later_joined, AreNames, names, declared, locals_parted, AreOne, one_of, locals_stmt, locals_first, an_else, do_as, for_as, starts_parted, entry_parted}
use Rattle.vk_grammar_stmt.proofs.Closed.{OnOk, Gives, Shut, statement_shuts}
use Rattle.vk_grammar_stmt.proofs.Taken.{Takes, pure_takes, refuse_takes, deep_takes, pick_takes, pick_some_takes, look_takes, choose_takes, choose_some_takes, into_takes, tail_takes, bind_takes, bind_is_takes, seq_takes, take_takes, take_sign_takes, take_word_takes, take_name_takes, take_assign_takes, take_step_takes, expect_takes, expect_word_takes, then_expect_takes, here_then_takes, many_takes, both_take}

-- of some height of at most `e`, and such that `P`
pub record Fits {A : Type 0} (R : A → ℕ → List Sym → Type 0) (P : A → Type 0) (e : ℕ) (a : A) (u : List Sym) : Type 0 where
  pub height : ℕ
  pub is : R a height u
  pub most : height ≤ e
  pub fits : P a

abbrev pub fit : {A : Type 0} {R : A → ℕ → List Sym → Type 0} {P : A → Type 0} {e : ℕ} {a : A} {u : List Sym} (h : ℕ) → R a h u → h ≤ e → P a → Fits R P e a u
fit h d m p = record { height = h; is = d; most = m; fits = p }

-- an expression within the limit
pub record Short (s : Sort) (e : ℕ) (a : Tall) (u : List Sym) : Type 0 where
  pub is : Spells s a.tree a.height u
  pub inside : Within e a

-- a statement of at most `d` levels, and a list of such
abbrev pub At : ℕ → StmtTree → Type 0
At d s = levels_of s ≤ d

abbrev pub AllAt : ℕ → List StmtTree → Type 0
AllAt d list = all_levels (stmts_in list) ≤ d

-- the statements of a declaration: several names make a level more
record Few (room : Bool) (list : List StmtTree) : Type 0 where
  low : AllAt 1 list
  two : (l k : ℕ) → levels_of (single l k list) ≤ 2
  alone : room ≡ false → (l k : ℕ) → levels_of (single l k list) ≤ 1

-- those behind the first
record Later (room : Bool) (list : List StmtTree) : Type 0 where
  low : AllAt 1 list
  none_ : room ≡ false → list ≡ []

record InRoom (room : Bool) (s : StmtTree) : Type 0 where
  two : levels_of s ≤ 2
  alone : room ≡ false → levels_of s ≤ 1

few_two : (s : StmtTree) (rest : List StmtTree) → levels_of s ≤ 1 → AllAt 1 rest → (l k : ℕ) → levels_of (single l k (s ∷ rest)) ≤ 2
few_two s [] i j l k = omega (arith, i)
few_two s (next ∷ rest) i j l k = omega (arith, i, j)

few_alone : (s : StmtTree) (rest : List StmtTree) → levels_of s ≤ 1 → rest ≡ [] → (l k : ℕ) → levels_of (single l k (s ∷ rest)) ≤ 1
few_alone s rest i e l k = subst (λ z. levels_of (single l k (s ∷ z)) ≤ 1) (sym e) i

few : (room : Bool) (s : StmtTree) (rest : List StmtTree) → levels_of s ≤ 1 → Later room rest → Few room (s ∷ rest)
few room s rest i j = record { low = omega (arith, i, j.low); two = few_two s rest i j.low; alone = λ f. few_alone s rest i (j.none_ f) }

all_joined : (d : ℕ) (a b : List StmtTree) → AllAt d a → AllAt d b → AllAt d (a ++ b)
all_joined d [] b i j = j
all_joined d (s ∷ a) b i j = omega (arith, i, all_joined d a b (omega (arith, i)) j)

module _ (e turns : ℕ) where
  short_takes : (s : Sort) (w : List Sym) → Takes turns (Short s (suc e)) [] (expression turns (suc e) s) w
  short_takes s w = into_takes {S = λ a u. Spells s a.tree a.height u × Within (suc e) a} (λ a u i. record { is = i.0; inside = i.1 })
      (both_take {R = Spelled s} {P = Within (suc e)} (expression_follows turns (suc e) s w) (expression_keeps turns (suc e) s))

  pub cond_takes : (w : List Sym) → Takes turns (Short full (suc e)) [] (cond e turns) w
  unfolding cond
  cond_takes w = short_takes full w

  unary_takes : (w : List Sym) → Takes turns (Short (level 0) (suc e)) [] (unary e turns) w
  unfolding unary
  unary_takes w = short_takes (level 0) w

  condition_takes : (w : List Sym) → Takes turns (Fits InParens Any (suc e)) [] (condition e turns) w
  unfolding condition
  condition_takes w = expect_takes (λ u r opens. then_expect_takes {S = Short full (suc e)} (cond_takes r) (λ c v z r2 s shuts. pure_takes (fit _ (in_parens opens s.is shuts) s.inside.most tt)))

  pub optional_takes : (m : Mark) (w : List Sym) → Takes turns (Fits (IsOptional m) Any (suc e)) [] (optional e turns m) w
  unfolding optional
  optional_takes m w = choose_takes (is_sign m) (λ i. take_sign_takes i (λ t r is. pure_takes (fit _ (left_out is) (omega arith) tt)))
      (λ i. then_expect_takes {S = Short full (suc e)} (cond_takes w) (λ c v z r s is. pure_takes (fit _ (given s.is is) s.inside.most tt)))

  -- ---- assignments and expressions

  behind_takes : (t : Sym) (x : List Sym) (p : Tall) (w : List Sym) → Spells (level 0) p.tree p.height (t ∷ x) → Within (suc e) p
      → Takes turns (Fits IsAct (At 1) (suc e)) (t ∷ x) (behind_operand e turns t.line t.at p) w
  unfolding behind_operand assigned stepped valued
  behind_takes t x p w s inside = look_takes (λ k. pick_some (assign_at k) (assigned e turns t.line t.at p) (pick_some (step_at k) (stepped e turns t.line t.at p) (valued e turns t.line t.at p)))
      (pick_some_takes (assign_at (head w))
      (λ o i. take_assign_takes i (λ u r is. bind_takes {S = Short full (suc e)} (cond_takes r) (λ a y r2 parts s2. pure_takes (fit _ (an_assign s is s2.is) (omega (arith, inside.most, s2.inside.most)) (omega arith)))))
      (λ _. pick_some_takes (step_at (head w))
      (λ o i. take_step_takes i (λ u r is. pure_takes (fit _ (a_step_behind s is) inside.most (omega arith))))
      (λ _. seq_takes {S = λ a u. Spells full a.tree a.height u × Within (suc e) a}
      (both_take {R = Spelled full} {P = Within (suc e)} (onwards_follows e turns (expression turns e) (λ s. expression_follows turns e s) t x p w s)
      (onwards_keep e turns (expression turns e) (λ s. expression_keeps turns e s) t.line t.at p inside))
      (λ a v r parts s2. pure_takes (fit _ (a_value s2.0) s2.1.most (omega arith))))))

  act_takes : (w : List Sym) → Takes turns (Fits IsAct (At 1) (suc e)) [] (act e turns) w
  unfolding act step_before
  act_takes w = choose_some_takes step_at
      (λ o i. take_step_takes i (λ t r is. bind_takes {S = Short (level 0) (suc e)} (unary_takes r) (λ p x r2 parts s. pure_takes (fit _ (a_step_before is s.is) s.inside.most (omega arith)))))
      (λ i. here_then_takes {S = Short (level 0) (suc e)} (behind_operand e turns) (unary_takes w) (λ a v s. starts_parted (spelled_starts s.is)) (λ a v r s. behind a v r s (spelled_starts s.is)))
    where
      behind : (a : Tall) (v r : List Sym) → Short (level 0) (suc e) a v → Starts v → Takes turns (Fits IsAct (At 1) (suc e)) v (behind_operand e turns (line_at v) (number_at v) a) r
      behind a v r s b = subst (λ z. Takes turns (Fits IsAct (At 1) (suc e)) z (behind_operand e turns (line_at z) (number_at z) a) r) (sym b.parts)
          (behind_takes b.first b.others a r (subst (Spells (level 0) a.tree a.height) b.parts s.is) s.inside)

  part_takes : (m : Mark) (w : List Sym) → Takes turns (Fits (IsPart m) (At 1) (suc e)) [] (part e turns m) w
  unfolding part
  part_takes m w = choose_takes (is_sign m) (λ i. take_sign_takes i (λ t r is. pure_takes (fit _ (no_act is) (omega arith) (omega arith))))
      (λ i. then_expect_takes {S = Fits IsAct (At 1) (suc e)} (act_takes w) (λ s v z r a is. pure_takes (fit _ (an_act a.is is) a.most a.fits)))

  -- ---- declarations

  initial_takes : (w : List Sym) → Takes turns (Fits IsInitial Any (suc e)) [] (initial e turns) w
  unfolding initial
  initial_takes w = choose_takes (is_sign mark.Assign)
      (λ i. take_sign_takes i (λ t r is. bind_takes {S = Short full (suc e)} (cond_takes r) (λ a x r2 parts s. pure_takes (fit _ (an_initial is s.is) s.inside.most tt))))
      (λ i. pure_takes (fit _ not_initial (omega arith) tt))

  local_takes : (ty : Ty) (fixed : Bool) (w : List Sym) → Takes turns (Fits (IsNamed ty fixed) (At 1) (suc e)) [] (local e turns ty fixed) w
  unfolding local named_local
  local_takes ty fixed w = choose_some_takes name_at
      (λ id i. take_name_takes i (λ t r is. bind_takes {S = Fits IsInitial Any (suc e)} (initial_takes r) (λ c x r2 parts a. pure_takes (fit _ (initialised is a.is) a.most (omega arith)))))
      (λ i. refuse_takes)

  abbrev Behind : Bool → StmtTree → Type 0
  Behind room s = (levels_of s ≤ 1) × (room ≡ true)

  later_takes : (room : Bool) (ty : Ty) (fixed : Bool) (w : List Sym) → is_sign mark.Comma (head w) ≡ true → Takes turns (Fits (IsLater ty fixed) (Behind room) (suc e)) [] (later_local e turns room ty fixed) w
  unfolding later_local
  later_takes room ty fixed w i = pick_takes room
      (λ j. take_sign_takes i (λ t r is. tail_takes {S = Fits (IsNamed ty fixed) (At 1) (suc e)} (local_takes ty fixed r) (λ s v d. fit _ (later is d.is) d.most (d.fits, j))))
      (λ j. deep_takes)

  later_list_takes : (room : Bool) (ty : Ty) (fixed : Bool) (w : List Sym) → Takes turns (Fits (AreNamed ty fixed) (Later room) (suc e)) [] (many turns (is_sign mark.Comma) (later_local e turns room ty fixed)) w
  later_list_takes room ty fixed w = record {
    takes = λ l. (many_takes {S = Fits (IsLater ty fixed) (Behind room) (suc e)} {L = Fits (AreNamed ty fixed) (Later room) (suc e)} (is_sign mark.Comma) (later_local e turns room ty fixed)
        (fit 0 none_named (omega arith) (record { low = omega arith; none_ = λ f. refl }))
        (λ s list x y a b. fit _ (later_joined a.is b.is) (omega (arith, a.most, b.most)) (record { low = omega (arith, a.fits.0, b.fits.low); none_ = λ f. absurd (true≢false (sym a.fits.1 ∙ f)) }))
        (λ s x a. later_parted a.is) (later_takes room ty fixed) turns w l).takes l;
  }
    where
      later_parted : {ty : Ty} {fixed : Bool} {s : StmtTree} {h : ℕ} {x : List Sym} → IsLater ty fixed s h x → Parted x
      later_parted (later {t = t} {x = x} i d) = record { first = t; others = x; parts = refl }

  local_list_takes : (room : Bool) (ty : Ty) (fixed : Bool) (w : List Sym) → Takes turns (Fits (AreNames ty fixed) (Few room) (suc e)) [] (local_list e turns room ty fixed) w
  unfolding local_list
  local_list_takes room ty fixed w = bind_takes {S = Fits (IsNamed ty fixed) (At 1) (suc e)} (local_takes ty fixed w)
      (λ s x r parts d. bind_takes {S = Fits (AreNamed ty fixed) (Later room) (suc e)} (later_list_takes room ty fixed r)
      (λ list y r2 parts2 b. pure_takes (fit _ (names d.is b.is) (omega (arith, d.most, b.most)) (few room s list d.fits b.fits))))

  pub type_words_take : (w : List Sym) → Takes turns (λ c v. IsTypeText c v × Any c) [] (type_words turns) w
  type_words_take w = both_take {R = IsTypeText} {P = Any} (type_words_follows turns w) (type_words_keep turns)

  locals_takes : (room : Bool) (w : List Sym) → Takes turns (Fits AreLocals (Few room) (suc e)) [] (locals e turns room) w
  unfolding locals
  locals_takes room w = bind_takes {S = λ c v. IsTypeText c v × Any c} (type_words_take w)
      (λ c v r parts text. then_expect_takes {S = Fits (AreNames (type_in c) (has_const c)) (Few room) (suc e)} (local_list_takes room (type_in c) (has_const c) r)
      (λ list x z r2 a shuts. pure_takes (fit _ (declared text.0 a.is shuts) a.most a.fits)))

  one_locals_takes : (room : Bool) (w : List Sym) → Takes turns (Fits AreOne (InRoom room) (suc e)) [] (one_locals e turns room) w
  unfolding one_locals
  one_locals_takes room w = here_then_takes {S = Fits AreLocals (Few room) (suc e)} (λ l k list. pure (single l k list)) (locals_takes room w) (λ list v d. locals_parted d.is)
      (λ list v r d. pure_takes (fit _ (one_of d.is) d.most (record { two = d.fits.two (line_at v) (number_at v); alone = λ f. d.fits.alone f (line_at v) (number_at v) })))

-- one declaration below a level, and at one
one_below : (d : ℕ) (s : StmtTree) → 0 < d → InRoom (nat_lt 1 d) s → levels_of s ≤ d
one_below d s pos i = go (nat_lt 1 d) refl i
  where
    go : (b : Bool) → nat_lt 1 d ≡ b → InRoom b s → levels_of s ≤ d
    go true e i = omega (arith, i.two, leb-true 2 d e)
    go false e i = omega (arith, i.alone refl, pos)

one_inside : (d : ℕ) (s : StmtTree) → InRoom (nat_lt 0 d) s → levels_of s ≤ suc d
one_inside d s i = go (nat_lt 0 d) refl i
  where
    go : (b : Bool) → nat_lt 0 d ≡ b → InRoom b s → levels_of s ≤ suc d
    go true e i = omega (arith, i.two, leb-true 1 d e)
    go false e i = omega (arith, i.alone refl)

module _ (clauses : Clauses) (e d turns : ℕ) (sub : Parser StmtTree) (sub_entry : Parser (List StmtTree)) (subs : (w : List Sym) → Takes turns (Fits (IsStmt clauses) (At d) (suc e)) [] sub w)
    (entries : (w : List Sym) → Takes turns (Fits (IsEntry clauses) (AllAt d) (suc e)) [] sub_entry w) (shuts : Gives Shut sub) where
  abbrev Sub : StmtTree → List Sym → Type 0
  Sub = Fits (IsStmt clauses) (At d) (suc e)

  abbrev Plain : StmtTree → List Sym → Type 0
  Plain = Fits (IsPlain clauses) (At (suc d)) (suc e)

  abbrev Entries : List (List StmtTree) → List Sym → Type 0
  Entries lists = Fits (AreEntries clauses) (AllAt d) (suc e) (joined lists)

  entries_take : (w : List Sym) → Takes turns Entries [] (many turns (is_not mark.CloseBrace) sub_entry) w
  entries_take w = record {
    takes = λ l. (many_takes {S = Fits (IsEntry clauses) (AllAt d) (suc e)} {L = Entries} (is_not mark.CloseBrace) sub_entry (fit 0 no_entries (omega arith) (omega arith))
        (λ list lists x y a b. fit _ (more_entries a.is b.is) (omega (arith, a.most, b.most)) (all_joined d list (joined lists) a.fits b.fits)) (λ list x a. entry_parted a.is) (λ w i. entries w) turns w l).takes l;
  }

  block_takes : (t : Sym) (r : List Sym) → IsSign mark.OpenBrace t → Takes turns (Fits (IsBlock clauses) (At (suc d)) (suc e)) [] (block clauses e d turns sub sub_entry) (t ∷ r)
  unfolding block
  block_takes t r opens = take_takes (then_expect_takes {S = Entries} (entries_take r) (λ lists x v r2 a shuts. pure_takes (fit _ (in_braces opens a.is shuts) a.most (omega (arith, a.fits)))))

  else_takes : (t : Sym) (c : Tree) (h : ℕ) (x : List Sym) (s : StmtTree) (k : ℕ) (y w : List Sym) → IsKeyword keyword.If t → InParens c h x → h ≤ suc e → IsStmt clauses s k y → k ≤ suc e → levels_of s ≤ d
      → (is_open s ≡ true → is_keyword keyword.Else (head w) ≡ false) → Takes turns Plain (t ∷ (x ++ y)) (else_part clauses e d turns sub sub_entry t c s) w
  unfolding else_part
  else_takes t c h x s k y w i p hm a km lv shut = choose_takes (is_keyword keyword.Else)
      (λ j. let closed : is_open s ≡ false = not_true (is_open s) (λ o. true≢false (sym j ∙ shut o)) in
      take_word_takes j (λ u r is. bind_takes {S = Sub} (subs r) (λ other z r2 parts b. pure_takes (fit _ (an_else i p a closed is b.is) (omega (arith, hm, km, b.most)) (omega (arith, lv, b.fits))))))
      (λ j. pure_takes (fit _ (an_if i p a) (omega (arith, hm, km)) (omega (arith, lv))))

  choice_takes : (t : Sym) (r : List Sym) → IsKeyword keyword.If t → Takes turns Plain [] (choice clauses e d turns sub sub_entry) (t ∷ r)
  unfolding choice
  choice_takes t r i = take_takes (bind_takes {S = Fits InParens Any (suc e)} (condition_takes e turns r)
      (λ c x r2 parts p. bind_is_takes {S = Sub} (subs r2) (λ s y r3 parts2 is a. else_takes t c p.height x s a.height y r3 i p.is p.most a.is a.most a.fits (subst (OnOk Shut) is (shuts.gives r2)))))

  while_takes : (t : Sym) (r : List Sym) → IsKeyword keyword.While t → Takes turns Plain [] (while_loop clauses e d turns sub sub_entry) (t ∷ r)
  unfolding while_loop
  while_takes t r i = take_takes (bind_takes {S = Fits InParens Any (suc e)} (condition_takes e turns r)
      (λ c x r2 parts p. bind_takes {S = Sub} (subs r2) (λ s y r3 parts2 a. pure_takes (fit _ (a_while i p.is a.is) (omega (arith, p.most, a.most)) (omega (arith, a.fits))))))

  do_takes : (t : Sym) (r : List Sym) → IsKeyword keyword.Do t → Takes turns Plain [] (do_loop clauses e d turns sub sub_entry) (t ∷ r)
  unfolding do_loop
  do_takes t r i = take_takes (bind_takes {S = Sub} (subs r) (λ s x r2 parts a. expect_word_takes (λ u r3 j. then_expect_takes {S = Fits InParens Any (suc e)} (condition_takes e turns r3)
      (λ c y v r4 p shuts. pure_takes (fit _ (do_as i a.is j p.is shuts) (omega (arith, p.most, a.most)) (omega (arith, a.fits)))))))

  first_takes : 0 < d → (w : List Sym) → Takes turns (Fits IsFirst (At d) (suc e)) [] (first_part clauses e d turns sub sub_entry) w
  unfolding first_part
  first_takes pos w = choose_takes is_type_part
      (λ i. into_takes {S = Fits AreOne (InRoom (nat_lt 1 d)) (suc e)} (λ s u a. fit _ (locals_first a.is) a.most (one_below d s pos a.fits)) (one_locals_takes e turns (nat_lt 1 d) w))
      (λ i. into_takes {S = Fits (IsPart mark.Semicolon) (At 1) (suc e)} (λ s u a. fit _ (first_act a.is) a.most (omega (arith, a.fits, pos))) (part_takes e turns mark.Semicolon w))

  for_rest_takes : (t u : Sym) (x : List Sym) (a : StmtTree) (h : ℕ) (w : List Sym) → 0 < d → IsKeyword keyword.For t → IsSign mark.OpenParen u → IsFirst a h x → h ≤ suc e → levels_of a ≤ d
      → Takes turns Plain (t ∷ (u ∷ x)) (for_rest clauses e d turns sub sub_entry t a) w
  unfolding for_rest
  for_rest_takes t u x a h w pos i opens f hm lv = bind_takes {S = Fits (IsOptional mark.Semicolon) Any (suc e)} (optional_takes e turns mark.Semicolon w)
      (λ c y r parts o. bind_takes {S = Fits (IsPart mark.CloseParen) (At 1) (suc e)} (part_takes e turns mark.CloseParen r)
      (λ b z r2 parts2 p. bind_takes {S = Sub} (subs r2) (λ s q r3 parts3 body. pure_takes (fit _ (for_as i opens f o.is p.is body.is) (omega (arith, hm, o.most, p.most, body.most)) (omega (arith, lv, p.fits, body.fits, pos))))))

  for_takes : (t : Sym) (r : List Sym) → 0 < d → IsKeyword keyword.For t → Takes turns Plain [] (for_loop clauses e d turns sub sub_entry) (t ∷ r)
  unfolding for_loop
  for_takes t r pos i = take_takes (expect_takes (λ u r2 opens. bind_takes {S = Fits IsFirst (At d) (suc e)} (first_takes pos r2) (λ a x r3 parts f. for_rest_takes t u x a f.height r3 pos i opens f.is f.most f.fits)))

  jump_takes : (node : (line token : ℕ) → StmtTree) (t : Sym) (r : List Sym) → levels_of (node t.line t.at) ≤ 1 → ((v : Sym) → IsSign mark.Semicolon v → IsPlain clauses (node t.line t.at) 0 (t ∷ (v ∷ [])))
      → Takes turns Plain [] (jump e turns node) (t ∷ r)
  unfolding jump
  jump_takes node t r lv is = take_takes (expect_takes (λ v r2 shuts. pure_takes (fit _ (is v shuts) (omega arith) (omega (arith, lv)))))

  return_takes : (t : Sym) (r : List Sym) → IsKeyword keyword.Return t → Takes turns Plain [] (returned e turns) (t ∷ r)
  unfolding returned
  return_takes t r i = take_takes (bind_takes {S = Fits (IsOptional mark.Semicolon) Any (suc e)} (optional_takes e turns mark.Semicolon r) (λ c x r2 parts o. pure_takes (fit _ (a_return i o.is) o.most (omega arith))))

  simd_takes : (n : ℕ) (t : Sym) (r : List Sym) → Is (kind.Simd n) t → Takes turns Plain [] (simd_line clauses e d turns sub sub_entry n) (t ∷ r)
  unfolding simd_line
  simd_takes n t r i = take_takes (bind_takes {S = Sub} (subs r) (λ s x r2 parts a. pure_takes (fit _ (a_simd i a.is) a.most (omega (arith, a.fits)))))

  lost_takes : (n : ℕ) (t : Sym) (r : List Sym) → Is (kind.Simdfn n) t → Takes turns Plain [] (lost_line clauses e d turns sub sub_entry n) (t ∷ r)
  unfolding lost_line
  lost_takes n t r i = take_takes (pure_takes (fit _ (a_lost_line i) (omega arith) (omega arith)))

  deeper_takes : {p : Parser StmtTree} {w : List Sym} → (0 < d → Takes turns Plain [] p w) → Takes turns Plain [] (deeper clauses e d turns sub sub_entry p) w
  deeper_takes h = pick_takes (nat_lt 0 d) (λ i. h (leb-true 1 d i)) (λ _. deep_takes)

  plain_part_takes : (w : List Sym) → Takes turns Plain [] (part e turns mark.Semicolon) w
  plain_part_takes w = into_takes {S = Fits (IsPart mark.Semicolon) (At 1) (suc e)} (λ s u a. fit _ (a_part a.is) a.most (omega (arith, a.fits))) (part_takes e turns mark.Semicolon w)

  kind_takes : (t : Sym) (r : List Sym) (k : SymKind) → t.kind ≡ k → Takes turns Plain [] (plain_at clauses e d turns sub sub_entry (Some k)) (t ∷ r)
  kind_takes t r (kind.Sign mark.OpenBrace) i = into_takes {S = Fits (IsBlock clauses) (At (suc d)) (suc e)} (λ s u a. fit _ (a_block a.is) a.most a.fits) (block_takes t r (record { is = i }))
  kind_takes t r (kind.Keyword keyword.If) i = deeper_takes (λ _. choice_takes t r (record { is = i }))
  kind_takes t r (kind.Keyword keyword.While) i = deeper_takes (λ _. while_takes t r (record { is = i }))
  kind_takes t r (kind.Keyword keyword.Do) i = deeper_takes (λ _. do_takes t r (record { is = i }))
  kind_takes t r (kind.Keyword keyword.For) i = deeper_takes (λ pos. for_takes t r pos (record { is = i }))
  kind_takes t r (kind.Keyword keyword.Break) i = jump_takes StmtTree.break_loop t r (omega arith) (λ v shuts. a_break (record { is = i }) shuts)
  kind_takes t r (kind.Keyword keyword.Continue) i = jump_takes StmtTree.continue_loop t r (omega arith) (λ v shuts. a_continue (record { is = i }) shuts)
  kind_takes t r (kind.Keyword keyword.Return) i = return_takes t r (record { is = i })
  kind_takes t r (kind.Simd n) i = deeper_takes (λ _. simd_takes n t r (record { is = i }))
  kind_takes t r (kind.Simdfn n) i = lost_takes n t r (record { is = i })
  kind_takes t r _ i = plain_part_takes (t ∷ r)

  plain_takes : (w : List Sym) → Takes turns Plain [] (plain clauses e d turns sub sub_entry) w
  unfolding plain
  plain_takes [] = look_takes (plain_at clauses e d turns sub sub_entry) (plain_part_takes [])
  plain_takes (t ∷ r) = look_takes (plain_at clauses e d turns sub sub_entry) (kind_takes t r t.kind refl)

  block_here_takes : (t : Sym) (r : List Sym) → IsSign mark.OpenBrace t → Takes turns (Fits (IsBlock clauses) (At (suc d)) (suc e)) [] (one_statement clauses e d turns sub sub_entry) (t ∷ r)
  unfolding one_statement plain
  block_here_takes t r i = choose_takes is_type_part (λ j. absurd (true≢false (sym j ∙ brace_no_type i)))
      (λ _. look_takes (plain_at clauses e d turns sub sub_entry) (subst (λ k. Takes turns (Fits (IsBlock clauses) (At (suc d)) (suc e)) [] (plain_at clauses e d turns sub sub_entry (Some k)) (t ∷ r)) (sym i.is) (block_takes t r i)))

  one_statement_takes : (w : List Sym) → Takes turns (Fits (IsStmt clauses) (At (suc d)) (suc e)) [] (one_statement clauses e d turns sub sub_entry) w
  unfolding one_statement
  one_statement_takes w = choose_takes is_type_part
      (λ i. into_takes {S = Fits AreOne (InRoom (nat_lt 0 d)) (suc e)} (λ s u a. fit _ (locals_stmt a.is) a.most (one_inside d s a.fits)) (one_locals_takes e turns (nat_lt 0 d) w))
      (λ i. into_takes {S = Plain} (λ s u a. fit _ (a_plain a.is) a.most a.fits) (plain_takes w))

  one_entry_takes : (w : List Sym) → Takes turns (Fits (IsEntry clauses) (AllAt (suc d)) (suc e)) [] (one_entry clauses e d turns sub sub_entry) w
  unfolding one_entry
  one_entry_takes w = choose_takes is_type_part
      (λ i. into_takes {S = Fits AreLocals (Few true) (suc e)} (λ list u a. fit _ (locals_entry a.is) a.most (omega (arith, a.fits.low))) (locals_takes e turns true w))
      (λ i. bind_takes {S = Plain} (plain_takes w) (λ s v r parts a. pure_takes (fit _ (plain_entry a.is) a.most (omega (arith, a.fits)))))

no_level_takes : {turns : ℕ} {A : Type 0} {R : A → List Sym → Type 0} (w : List Sym) → Takes turns R [] no_level w
unfolding no_level
no_level_takes w = choose_takes is_stmt_start (λ i. deep_takes) (λ i. refuse_takes)

mutual
  unfolding statement

  pub statement_takes : (clauses : Clauses) (e turns d : ℕ) (w : List Sym) → Takes turns (Fits (IsStmt clauses) (At d) (suc e)) [] (statement clauses e turns d) w
  statement_takes clauses e turns zero w = no_level_takes w
  statement_takes clauses e turns (suc d) w = one_statement_takes clauses e d turns (statement clauses e turns d) (entry clauses e turns d) (statement_takes clauses e turns d) (entry_takes clauses e turns d)
      (statement_shuts clauses e turns d) w

  pub entry_takes : (clauses : Clauses) (e turns d : ℕ) (w : List Sym) → Takes turns (Fits (IsEntry clauses) (AllAt d) (suc e)) [] (entry clauses e turns d) w
  entry_takes clauses e turns zero w = no_level_takes w
  entry_takes clauses e turns (suc d) w = one_entry_takes clauses e d turns (statement clauses e turns d) (entry clauses e turns d) (statement_takes clauses e turns d) (entry_takes clauses e turns d)
      (statement_shuts clauses e turns d) w

-- ---- the block of a function

braces_take : (clauses : Clauses) (e turns d : ℕ) (t : Sym) (r : List Sym) → IsSign mark.OpenBrace t → Takes turns (Fits (IsBlock clauses) (At d) (suc e)) [] (statement clauses e turns d) (t ∷ r)
unfolding statement
braces_take clauses e turns zero t r i = no_level_takes (t ∷ r)
braces_take clauses e turns (suc d) t r i = block_here_takes clauses e d turns (statement clauses e turns d) (entry clauses e turns d) (statement_takes clauses e turns d) (entry_takes clauses e turns d)
    (statement_shuts clauses e turns d) t r i

pub body_takes : (clauses : Clauses) (e turns d : ℕ) (w : List Sym) → Takes turns (Fits (IsBlock clauses) (At d) (suc e)) [] (body clauses e turns d) w
unfolding is_sign
body_takes clauses e turns d [] = choose_takes (is_sign mark.OpenBrace) (λ i. absurd (true≢false (sym i))) (λ _. refuse_takes)
body_takes clauses e turns d (t ∷ r) = choose_takes (is_sign mark.OpenBrace) (λ i. braces_take clauses e turns d t r (record { is = sign_kind mark.OpenBrace t.kind i })) (λ _. refuse_takes)
