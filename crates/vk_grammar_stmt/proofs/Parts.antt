-- Each text without statements in it is read as its tree: conditions, assignments, declarations.
use Rattle.std.proofs.Common.{◌≡◌, ◌≤◌, ◌<◌, ℕ, zero, suc, Bool, true, false, List, [], ◌∷◌, ◌++◌, length, Option, Some, None, Result, Ok, Err, refl, sym, ap, ◌∙◌, subst, append_assoc, length-append, arith, true≢false}
use Rattle.vk_types.specs.declared.types.Ty.{Ty}
use Rattle.vk_ast.specs.declared.names.NameId.{NameId}
use Rattle.vk_ast.specs.declared.expressions.BinOp.{BinOp}
use Rattle.vk_ast.specs.Tree.{Tree}
use Rattle.vk_ast.specs.Statements.{StmtTree}
use Rattle.vk_tokens.specs.declared.tokens.Mark.{Mark}
use Rattle.vk_tokens.specs.declared.tokens.Mark.TheVariants as mark
use Rattle.vk_grammar_expr.specs.declared.symbols.Sym.{Sym}
use Rattle.vk_grammar_expr.specs.declared.symbols.SymKind.{SymKind}
use Rattle.vk_grammar_expr.specs.declared.symbols.SymKind.TheVariants as kind
use Rattle.vk_grammar_expr.specs.Symbols.{head, line_at, number_at, Is, IsSign, is_sign, same_mark, operator_of, is_type_part, is_start}
use Rattle.vk_grammar_expr.specs.Types.{type_in}
use Rattle.vk_grammar_expr.specs.Grammar.{Tall, tall, level, full, Spells}
use Rattle.vk_grammar_expr.specs.Inner.Parser.{Fault, then_do, many}
use Rattle.vk_grammar_expr.specs.Inner.Reading.{type_words, unaries, levels, onwards, expression}
use Rattle.vk_grammar_expr.proofs.Signs.{sign_kind, sign_is}
use Rattle.vk_grammar_expr.proofs.Starts.{Starts, spelled_starts}
use Rattle.vk_grammar_expr.proofs.Stops.{StopsAt, StopsAll, sign_stops, close_paren_stops, comma_stops, start_no_sign}
use Rattle.vk_grammar_expr.proofs.Equations
use Rattle.vk_grammar_expr.proofs.Climb.{conditional_onwards, onwards_end}
use Rattle.vk_grammar_expr.proofs.Whole.{reads_whole}
use Rattle.vk_grammar_stmt.specs.Words.{name_at, has_const, assign_of, assign_at, step_of, step_at, IsStep}
use Rattle.vk_grammar_stmt.specs.Trees.{stmts_in, single, unit_at, levels_of, all_levels}
use Rattle.vk_grammar_stmt.specs.Grammar
use Rattle.vk_grammar_stmt.specs.Grammar.{InParens, in_parens, IsOptional, left_out, given, IsAct, an_assignment, a_step_before, a_step_behind, a_value, IsPart, no_act, an_act, IsNamed, bare, with_value, AreNamed, none_named, more_named, AreLocals, IsFirst, first_act, first_locals}
use Rattle.vk_grammar_stmt.specs.Inner.Reading.{cond, unary, condition, optional, step_before, assigned, stepped, valued, behind_operand, act, part, initial, named_local, local, later_local, local_list, locals, one_locals}
use Rattle.vk_grammar_stmt.proofs.Signs.{Parted}
use Rattle.vk_grammar_stmt.proofs.Forms.{starts_parted, locals_parted}

-- ---- first tokens

pub parted_line : {x : List Sym} (r : List Sym) → Parted x → line_at (x ++ r) ≡ line_at x
parted_line r p = ap (λ z. line_at (z ++ r)) p.parts ∙ sym (ap line_at p.parts)

pub parted_number : {x : List Sym} (r : List Sym) → Parted x → number_at (x ++ r) ≡ number_at x
parted_number r p = ap (λ z. number_at (z ++ r)) p.parts ∙ sym (ap number_at p.parts)

-- a sign that ends expressions and begins none
pub record Ends (m : Mark) : Type 0 where
  pub stops : {t : Sym} → IsSign m t → StopsAll (Some t.kind)
  pub no_start : is_start (Some (kind.Sign m)) ≡ false
  pub no_assign : assign_of m ≡ None
  pub no_step : step_of m ≡ None

ends_by : (m : Mark) → operator_of m ≡ None → same_mark m mark.OpenParen ≡ false → same_mark m mark.OpenBracket ≡ false → same_mark m mark.Question ≡ false
    → is_start (Some (kind.Sign m)) ≡ false → assign_of m ≡ None → step_of m ≡ None → Ends m
ends_by m o p b q s a t = record { stops = λ i. sign_stops i o p b q; no_start = s; no_assign = a; no_step = t }

pub semicolon_ends : Ends mark.Semicolon
unfolding operator_of same_mark is_start assign_of step_of
semicolon_ends = ends_by mark.Semicolon refl refl refl refl refl refl refl

pub paren_ends : Ends mark.CloseParen
unfolding operator_of same_mark is_start assign_of step_of
paren_ends = ends_by mark.CloseParen refl refl refl refl refl refl refl

pub bracket_ends : Ends mark.CloseBracket
unfolding operator_of same_mark is_start assign_of step_of
bracket_ends = ends_by mark.CloseBracket refl refl refl refl refl refl refl

pub starts_no_sign : (m : Mark) {x : List Sym} (r : List Sym) → is_start (Some (kind.Sign m)) ≡ false → Starts x → is_sign m (head (x ++ r)) ≡ false
starts_no_sign m r n s = subst (λ z. is_sign m (head (z ++ r)) ≡ false) (sym s.parts) (start_no_sign m s.first.kind n s.begins)

-- what begins an expression is no `++` or `--`
start_no_step : (k : SymKind) → is_start (Some k) ≡ true → step_at (Some k) ≡ None
unfolding is_start step_at step_of
start_no_step (kind.Sign mark.Increment) e = absurd (true≢false (sym e))
start_no_step (kind.Sign mark.Decrement) e = absurd (true≢false (sym e))
start_no_step _ e = refl

starts_no_step : {x : List Sym} (r : List Sym) → Starts x → step_at (head (x ++ r)) ≡ None
starts_no_step r s = subst (λ z. step_at (head (z ++ r)) ≡ None) (sym s.parts) (start_no_step s.first.kind s.begins)

-- signs of assignments end operands
assign_stops_kind : (k : SymKind) (o : Option BinOp) → assign_at (Some k) ≡ Some o → StopsAll (Some k)
unfolding assign_at assign_of operator_of same_mark
assign_stops_kind (kind.Sign mark.Assign) o e = sign_stops {m = mark.Assign} {t = record { line = 0; at = 0; kind = kind.Sign mark.Assign }} (record { is = refl }) refl refl refl refl
assign_stops_kind (kind.Sign mark.AddAssign) o e = sign_stops {m = mark.AddAssign} {t = record { line = 0; at = 0; kind = kind.Sign mark.AddAssign }} (record { is = refl }) refl refl refl refl
assign_stops_kind (kind.Sign mark.SubAssign) o e = sign_stops {m = mark.SubAssign} {t = record { line = 0; at = 0; kind = kind.Sign mark.SubAssign }} (record { is = refl }) refl refl refl refl
assign_stops_kind (kind.Sign mark.MulAssign) o e = sign_stops {m = mark.MulAssign} {t = record { line = 0; at = 0; kind = kind.Sign mark.MulAssign }} (record { is = refl }) refl refl refl refl
assign_stops_kind (kind.Sign mark.DivAssign) o e = sign_stops {m = mark.DivAssign} {t = record { line = 0; at = 0; kind = kind.Sign mark.DivAssign }} (record { is = refl }) refl refl refl refl
assign_stops_kind (kind.Sign mark.RemAssign) o e = sign_stops {m = mark.RemAssign} {t = record { line = 0; at = 0; kind = kind.Sign mark.RemAssign }} (record { is = refl }) refl refl refl refl
assign_stops_kind (kind.Sign mark.AndAssign) o e = sign_stops {m = mark.AndAssign} {t = record { line = 0; at = 0; kind = kind.Sign mark.AndAssign }} (record { is = refl }) refl refl refl refl
assign_stops_kind (kind.Sign mark.OrAssign) o e = sign_stops {m = mark.OrAssign} {t = record { line = 0; at = 0; kind = kind.Sign mark.OrAssign }} (record { is = refl }) refl refl refl refl
assign_stops_kind (kind.Sign mark.XorAssign) o e = sign_stops {m = mark.XorAssign} {t = record { line = 0; at = 0; kind = kind.Sign mark.XorAssign }} (record { is = refl }) refl refl refl refl
assign_stops_kind (kind.Sign mark.ShlAssign) o e = sign_stops {m = mark.ShlAssign} {t = record { line = 0; at = 0; kind = kind.Sign mark.ShlAssign }} (record { is = refl }) refl refl refl refl
assign_stops_kind (kind.Sign mark.ShrAssign) o e = sign_stops {m = mark.ShrAssign} {t = record { line = 0; at = 0; kind = kind.Sign mark.ShrAssign }} (record { is = refl }) refl refl refl refl
assign_stops_kind _ o e = absurd (cc)

assign_stops : (k : Option SymKind) (o : Option BinOp) → assign_at k ≡ Some o → StopsAll k
unfolding assign_at
assign_stops (Some k) o e = assign_stops_kind k o e
assign_stops None o e = absurd (cc)

step_stops_kind : (k : SymKind) (o : BinOp) → step_at (Some k) ≡ Some o → StopsAll (Some k)
unfolding step_at step_of operator_of same_mark
step_stops_kind (kind.Sign mark.Increment) o e = sign_stops {m = mark.Increment} {t = record { line = 0; at = 0; kind = kind.Sign mark.Increment }} (record { is = refl }) refl refl refl refl
step_stops_kind (kind.Sign mark.Decrement) o e = sign_stops {m = mark.Decrement} {t = record { line = 0; at = 0; kind = kind.Sign mark.Decrement }} (record { is = refl }) refl refl refl refl
step_stops_kind _ o e = absurd (cc)

step_stops : (k : Option SymKind) (o : BinOp) → step_at k ≡ Some o → StopsAll k
unfolding step_at
step_stops (Some k) o e = step_stops_kind k o e
step_stops None o e = absurd (cc)

step_no_assign : (k : SymKind) (o : BinOp) → step_at (Some k) ≡ Some o → assign_at (Some k) ≡ None
unfolding step_at step_of assign_at assign_of
step_no_assign (kind.Sign mark.Increment) o e = refl
step_no_assign (kind.Sign mark.Decrement) o e = refl
step_no_assign _ o e = absurd (cc)

assign_none : {m : Mark} {t : Sym} → IsSign m t → assign_of m ≡ None → assign_at (Some t.kind) ≡ None
unfolding assign_at
assign_none i n = subst (λ k. assign_at (Some k) ≡ None) (sym i.is) n

step_none : {m : Mark} {t : Sym} → IsSign m t → step_of m ≡ None → step_at (Some t.kind) ≡ None
unfolding step_at
step_none i n = subst (λ k. step_at (Some k) ≡ None) (sym i.is) n

-- ---- expressions

module _ (e turns : ℕ) where
  pub cond_reads : {c : Tree} {h : ℕ} {x : List Sym} (r : List Sym) → Spells full c h x → h ≤ suc e → length x < turns → StopsAll (head r) → cond e turns (x ++ r) ≡ Ok (tall c h, r)
  unfolding cond
  cond_reads r d i l s = (reads_whole d).reads turns (suc e) r i l s

  unary_reads : {c : Tree} {h : ℕ} {x : List Sym} (r : List Sym) → Spells (level 0) c h x → h ≤ suc e → length x < turns → StopsAt 0 (head r) → unary e turns (x ++ r) ≡ Ok (tall c h, r)
  unfolding unary
  unary_reads r d i l s = (reads_whole d).reads turns (suc e) r i l s

  zero_stops : {k : Option SymKind} → StopsAll k → StopsAt 0 k
  zero_stops s = record { paren = s.levels.paren; bracket = s.levels.bracket; operators = λ m i. s.levels.operators m (omega (arith, i)) }

  pub condition_reads : {c : Tree} {h : ℕ} {x : List Sym} (r : List Sym) → InParens c h x → h ≤ suc e → length x < turns → condition e turns (x ++ r) ≡ Ok (c, r)
  unfolding condition
  condition_reads r (in_parens {u = u} {c = c} {h = h} {x = x} {v = v} opens d shuts) i l =
      ap (λ z. condition e turns (u ∷ z)) (append_assoc x (v ∷ []) r)
      ∙ rw (sign_is opens, cond_reads (v ∷ r) d i (omega (arith, l, length-append x (v ∷ []))) (close_paren_stops shuts), sign_is shuts) refl

  pub optional_reads : {m : Mark} {c : Option Tree} {h : ℕ} {x : List Sym} (r : List Sym) → Ends m → IsOptional m c h x → h ≤ suc e → length x < turns → optional e turns m (x ++ r) ≡ Ok (c, r)
  unfolding optional
  optional_reads r ends (left_out i) hi l = rw (sign_is i) refl
  optional_reads {m} r ends (given {x = x} {v = v} d i) hi l =
      ap (optional e turns m) (append_assoc x (v ∷ []) r)
      ∙ rw (starts_no_sign m (v ∷ r) ends.no_start (spelled_starts d), cond_reads (v ∷ r) d hi (omega (arith, l, length-append x (v ∷ []))) (ends.stops i), sign_is i) refl

  -- ---- assignments and expressions

  record Clear (k : Option SymKind) : Type 0 where
    stops : StopsAll k
    no_assign : assign_at k ≡ None
    no_step : step_at k ≡ None

  no_sign_at : {A : Type 0} (l k : ℕ) (p a : Tall) (r1 r : List Sym) (of : Option SymKind → Option A) → ((x : A) → of (head r1) ≡ Some x → StopsAll (head r1)) → of (head r) ≡ None
      → onwards e turns (expression turns e) l k p r1 ≡ Ok (a, r) → of (head r1) ≡ None
  no_sign_at {A} l k p a r1 r of stops n is = go (of (head r1)) refl
    where
      go : (o : Option A) → of (head r1) ≡ o → of (head r1) ≡ None
      go None i = i
      go (Some x) i = let ended : onwards e turns (expression turns e) l k p r1 ≡ Ok (p, r1) = onwards_end e turns (expression turns e) l k p r1 (stops x i) in
          let pairs : Path (Tall × List Sym) (p, r1) (a, r) = cc in
          ap (λ (z : Tall × List Sym). of (head z.1)) pairs ∙ n

  -- an expression is read by its first operand, and what is behind it
  value_by : (l k : ℕ) (a : Tall) (r : List Sym) (o : Result (Tall × List Sym) Fault) → Clear (head r) → then_do o (onwards e turns (expression turns e) l k) ≡ Ok (a, r)
      → then_do o (behind_operand e turns l k) ≡ Ok (StmtTree.value l k a.tree, r)
  unfolding behind_operand valued
  value_by l k a r (Err fault) clear is = absurd (cc)
  value_by l k a r (Ok read) clear is = rw (no_sign_at l k read.0 a read.1 r assign_at (λ x i. assign_stops (head read.1) x i) clear.no_assign is, no_sign_at l k read.0 a read.1 r step_at (λ x i. step_stops (head read.1) x i) clear.no_step is, is) refl

  at_start : {x : List Sym} (r : List Sym) → Starts x → act e turns (x ++ r) ≡ then_do (unary e turns (x ++ r)) (behind_operand e turns (line_at x) (number_at x))
  unfolding act
  at_start {x} r s = rw (starts_no_step r s)
      (ap (λ l. then_do (unary e turns (x ++ r)) (behind_operand e turns l (number_at (x ++ r)))) (parted_line r (starts_parted s))
      ∙ ap (λ k. then_do (unary e turns (x ++ r)) (behind_operand e turns (line_at x) k)) (parted_number r (starts_parted s)))

  value_reads : {c : Tree} {h : ℕ} {x : List Sym} (r : List Sym) → Spells full c h x → h ≤ suc e → length x < turns → Clear (head r)
      → then_do (unary e turns (x ++ r)) (behind_operand e turns (line_at x) (number_at x)) ≡ Ok (StmtTree.value (line_at x) (number_at x) c, r)
  unfolding cond unary expression levels
  value_reads {c} {h} {x} r d i l clear =
      let whole : cond e turns (x ++ r) ≡ Ok (tall c h, r) = cond_reads r d i l clear.stops in
      let p : Parted x = starts_parted (spelled_starts d) in
      value_by (line_at x) (number_at x) (tall c h) r (unaries e turns (expression turns e) (x ++ r)) clear
      (sym (ap (λ l. then_do (unaries e turns (expression turns e) (x ++ r)) (onwards e turns (expression turns e) l (number_at (x ++ r)))) (parted_line r p)
      ∙ ap (λ k. then_do (unaries e turns (expression turns e) (x ++ r)) (onwards e turns (expression turns e) (line_at x) k)) (parted_number r p))
      ∙ sym (conditional_onwards e turns (expression turns e) (x ++ r)) ∙ whole)

  before_reads : {o : BinOp} {t : Sym} {p : Tree} {h : ℕ} {x : List Sym} (r : List Sym) → IsStep o t → Spells (level 0) p h x → h ≤ suc e → length x < turns → StopsAt 0 (head r)
      → act e turns (t ∷ (x ++ r)) ≡ Ok (StmtTree.assign t.line t.at (Some o) p (unit_at t), r)
  unfolding act step_before
  before_reads r i d hi l s = rw (i.is, unary_reads r d hi l s) refl

  pub act_reads : {s : StmtTree} {h : ℕ} {x : List Sym} {m : Mark} {v : Sym} (r : List Sym) → IsAct s h x → h ≤ suc e → length x < turns → Ends m → IsSign m v → act e turns (x ++ (v ∷ r)) ≡ Ok (s, v ∷ r)
  unfolding behind_operand assigned stepped
  act_reads {v = v} r (an_assignment {p = p} {h = h} {x = x} {t = t} {y = y} d i d2) hi l ends j =
      ap (act e turns) (append_assoc x (t ∷ y) (v ∷ r)) ∙ at_start (t ∷ (y ++ (v ∷ r))) (spelled_starts d)
      ∙ ap (λ o. then_do o (behind_operand e turns (line_at x) (number_at x))) (unary_reads (t ∷ (y ++ (v ∷ r))) d (omega (arith, hi)) (omega (arith, l, length-append x (t ∷ y))) (zero_stops (assign_stops (Some t.kind) _ i.is)))
      ∙ rw (i.is, cond_reads (v ∷ r) d2 (omega (arith, hi)) (omega (arith, l, length-append x (t ∷ y))) (ends.stops j)) refl
  act_reads {v = v} r (a_step_before {t = t} {x = x} i d) hi l ends j = before_reads (v ∷ r) i d hi (omega (arith, l)) (zero_stops (ends.stops j))
  act_reads {v = v} r (a_step_behind {p = p} {h = h} {x = x} {t = t} d i) hi l ends j =
      ap (act e turns) (append_assoc x (t ∷ []) (v ∷ r)) ∙ at_start (t ∷ (v ∷ r)) (spelled_starts d)
      ∙ ap (λ o. then_do o (behind_operand e turns (line_at x) (number_at x))) (unary_reads (t ∷ (v ∷ r)) d hi (omega (arith, l, length-append x (t ∷ []))) (zero_stops (step_stops (Some t.kind) _ i.is)))
      ∙ rw (step_no_assign t.kind _ i.is, i.is) refl
  act_reads {v = v} r (a_value d) hi l ends j = at_start (v ∷ r) (spelled_starts d) ∙ value_reads (v ∷ r) d hi l (record { stops = ends.stops j; no_assign = assign_none j ends.no_assign; no_step = step_none j ends.no_step })

  part_no_act : {m : Mark} {v : Sym} (r : List Sym) → IsSign m v → part e turns m (v ∷ r) ≡ Ok (StmtTree.empty v.line v.at, r)
  unfolding part
  part_no_act r i = rw (sign_is i) refl

  -- an assignment or an expression begins with no sign that ends one
  step_no_sign : (m : Mark) (k : SymKind) (o : BinOp) → step_of m ≡ None → step_at (Some k) ≡ Some o → is_sign m (Some k) ≡ false
  unfolding step_at
  step_no_sign m k o n i = go (is_sign m (Some k)) refl
    where
      go : (b : Bool) → is_sign m (Some k) ≡ b → is_sign m (Some k) ≡ false
      go false j = j
      go true j = let r : step_at (Some k) ≡ None = ap (λ z. step_at (Some z)) (sign_kind m k j) ∙ n in absurd (cc)

  act_no_sign : {s : StmtTree} {h : ℕ} {x : List Sym} (m : Mark) (r : List Sym) → Ends m → IsAct s h x → is_sign m (head (x ++ r)) ≡ false
  act_no_sign m r ends (an_assignment {x = x} {t = t} {y = y} d i d2) = ap (λ z. is_sign m (head z)) (append_assoc x (t ∷ y) r) ∙ starts_no_sign m (t ∷ (y ++ r)) ends.no_start (spelled_starts d)
  act_no_sign m r ends (a_step_before {t = t} i d) = step_no_sign m t.kind _ ends.no_step i.is
  act_no_sign m r ends (a_step_behind {x = x} {t = t} d i) = ap (λ z. is_sign m (head z)) (append_assoc x (t ∷ []) r) ∙ starts_no_sign m (t ∷ r) ends.no_start (spelled_starts d)
  act_no_sign m r ends (a_value d) = starts_no_sign m r ends.no_start (spelled_starts d)

  pub part_reads : {m : Mark} {s : StmtTree} {h : ℕ} {x : List Sym} (r : List Sym) → Ends m → IsPart m s h x → h ≤ suc e → length x < turns → part e turns m (x ++ r) ≡ Ok (s, r)
  unfolding part
  part_reads r ends (no_act i) hi l = part_no_act r i
  part_reads {m} r ends (an_act {x = x} {v = v} a i) hi l =
      ap (part e turns m) (append_assoc x (v ∷ []) r)
      ∙ rw (act_no_sign m (v ∷ r) ends a, act_reads r a hi (omega (arith, l, length-append x (v ∷ []))) ends i, sign_is i) refl

  -- ---- declarations

  bare_reads : {ty : Ty} {fixed : Bool} {id : NameId} {t : Sym} (r : List Sym) → Is (kind.Name id) t → is_sign mark.Assign (head r) ≡ false
      → local e turns ty fixed (t ∷ r) ≡ Ok (StmtTree.local t.line t.at ty fixed id None, r)
  unfolding local named_local initial name_at
  bare_reads r i n = rw (i.is, n) refl

  value_local_reads : {ty : Ty} {fixed : Bool} {id : NameId} {t u : Sym} {c : Tree} {h : ℕ} {x : List Sym} (r : List Sym) → Is (kind.Name id) t → IsSign mark.Assign u → Spells full c h x → h ≤ suc e → length x < turns
      → StopsAll (head r) → local e turns ty fixed (t ∷ (u ∷ (x ++ r))) ≡ Ok (StmtTree.local t.line t.at ty fixed id (Some c), r)
  unfolding local named_local initial name_at
  value_local_reads r i j d hi l s = rw (i.is, sign_is j, cond_reads r d hi l s) refl

  -- what may stand behind a name
  pub record Behind (k : Option SymKind) : Type 0 where
    pub stops : StopsAll k
    pub no_assign : is_sign mark.Assign k ≡ false

  pub local_reads : {ty : Ty} {fixed : Bool} {s : StmtTree} {h : ℕ} {x : List Sym} (r : List Sym) → IsNamed ty fixed s h x → h ≤ suc e → length x < turns → Behind (head r)
      → local e turns ty fixed (x ++ r) ≡ Ok (s, r)
  local_reads r (bare i) hi l b = bare_reads r i b.no_assign
  local_reads r (with_value i j d) hi l b = value_local_reads r i j d hi (omega (arith, l)) b.stops

  comma_behind : {t : Sym} → IsSign mark.Comma t → Behind (Some t.kind)
  unfolding is_sign same_mark
  comma_behind i = record { stops = comma_stops i; no_assign = subst (λ k. is_sign mark.Assign (Some k) ≡ false) (sym i.is) refl }

  semicolon_behind : {t : Sym} → IsSign mark.Semicolon t → Behind (Some t.kind)
  unfolding is_sign same_mark
  semicolon_behind i = record { stops = semicolon_ends.stops i; no_assign = subst (λ k. is_sign mark.Assign (Some k) ≡ false) (sym i.is) refl }

  named_behind : {ty : Ty} {fixed : Bool} {list : List StmtTree} {h : ℕ} {y : List Sym} (r : List Sym) → AreNamed ty fixed list h y → Behind (head r) → Behind (head (y ++ r))
  named_behind r none_named b = b
  named_behind r (more_named i d rest) b = comma_behind i

  later_reads : {ty : Ty} {fixed : Bool} {s : StmtTree} {h : ℕ} {x : List Sym} (t : Sym) (r : List Sym) → IsNamed ty fixed s h x → h ≤ suc e → length x < turns → Behind (head r)
      → later_local e turns true ty fixed (t ∷ (x ++ r)) ≡ Ok (s, r)
  unfolding later_local
  later_reads t r d hi l b = local_reads r d hi l b

  named_read : {ty : Ty} {fixed : Bool} {list : List StmtTree} {h : ℕ} {y : List Sym} (room : Bool) (n : ℕ) (r : List Sym) → AreNamed ty fixed list h y → (room ≡ false → list ≡ []) → h ≤ suc e → length y < turns → length y < n
      → Behind (head r) → is_sign mark.Comma (head r) ≡ false → many n (is_sign mark.Comma) (later_local e turns room ty fixed) (y ++ r) ≡ Ok (list, r)
  named_read room zero r d alone hi l i b c = absurd (omega (arith, i))
  named_read {ty} {fixed} room (suc n) r none_named alone hi l i b c = Equations.many_end (is_sign mark.Comma) (later_local e turns room ty fixed) n r c
  named_read false (suc n) r (more_named i d rest) alone hi l j b c = let e_ = alone refl in absurd (cc)
  named_read {ty = ty} {fixed = fixed} true (suc n) r (more_named {t = t} {s = s} {h = h} {list = list} {k = k} {x = x} {y = y} i d rest) alone hi l j b c =
      ap (λ z. many (suc n) (is_sign mark.Comma) (later_local e turns true ty fixed) (t ∷ z)) (append_assoc x y r)
      ∙ Equations.many_more (is_sign mark.Comma) (later_local e turns true ty fixed) n (t ∷ (x ++ (y ++ r))) (y ++ r) r (sign_is i)
      (later_reads t (y ++ r) d (omega (arith, hi)) (omega (arith, l, length-append x y)) (named_behind r rest b))
      (named_read {list = list} {h = k} {y = y} true n r rest (λ f. absurd (true≢false f)) (omega (arith, hi)) (omega (arith, l, length-append x y)) (omega (arith, j, length-append x y)) b c)

  no_comma : {v : Sym} → IsSign mark.Semicolon v → is_sign mark.Comma (Some v.kind) ≡ false
  unfolding is_sign same_mark
  no_comma i = subst (λ k. is_sign mark.Comma (Some k) ≡ false) (sym i.is) refl

  list_reads : {ty : Ty} {fixed : Bool} {s : StmtTree} {h : ℕ} {list : List StmtTree} {k : ℕ} {x y : List Sym} {v : Sym} (room : Bool) (r : List Sym) → IsNamed ty fixed s h x → AreNamed ty fixed list k y → (room ≡ false → list ≡ [])
      → h ≤ suc e → k ≤ suc e → length x < turns → length y < turns → IsSign mark.Semicolon v → local_list e turns room ty fixed (x ++ (y ++ (v ∷ r))) ≡ Ok (s ∷ list, v ∷ r)
  unfolding local_list
  list_reads {y = y} {v = v} room r d rest alone hi ki lx ly shuts = rw (
    local_reads (y ++ (v ∷ r)) d hi lx (named_behind (v ∷ r) rest (semicolon_behind shuts)),
    named_read room turns (v ∷ r) rest alone ki ly ly (semicolon_behind shuts) (no_comma shuts),
  ) refl

  name_no_type : {ty : Ty} {fixed : Bool} {s : StmtTree} {h : ℕ} {x : List Sym} (r : List Sym) → IsNamed ty fixed s h x → is_type_part (head (x ++ r)) ≡ false
  unfolding is_type_part
  name_no_type r (bare i) = subst (λ k. is_type_part (Some k) ≡ false) (sym i.is) refl
  name_no_type r (with_value i j d) = subst (λ k. is_type_part (Some k) ≡ false) (sym i.is) refl

  -- whether there is one name, where there is room for no more
  abbrev pub Alone : Bool → List StmtTree → Type 0
  Alone room [] = ⊥
  Alone room (s ∷ rest) = room ≡ false → rest ≡ []

  type_then : {c : List Sym} {list : List StmtTree} (w r : List Sym) (room : Bool) {v : Sym} → type_words turns (c ++ w) ≡ Ok (c, w) → local_list e turns room (type_in c) (has_const c) w ≡ Ok (list, v ∷ r) → IsSign mark.Semicolon v
      → locals e turns room (c ++ w) ≡ Ok (list, r)
  unfolding locals
  type_then w r room p q shuts = rw (p, q, sign_is shuts) refl

  pub locals_read : {list : List StmtTree} {h : ℕ} {x : List Sym} (room : Bool) (r : List Sym) → AreLocals list h x → Alone room list → h ≤ suc e → length x < turns → locals e turns room (x ++ r) ≡ Ok (list, r)
  locals_read room r (Grammar.locals {c = c} {x = x} {y = y} {v = v} type d rest shuts) alone hi l =
      let size : length (c ++ (x ++ (y ++ (v ∷ [])))) < turns = l in
      ap (locals e turns room) (append_assoc c (x ++ (y ++ (v ∷ []))) r ∙ ap (λ z. c ++ z) (append_assoc x (y ++ (v ∷ [])) r ∙ ap (λ z. x ++ z) (append_assoc y (v ∷ []) r)))
      ∙ type_then (x ++ (y ++ (v ∷ r))) r room
      (Equations.words_read turns (x ++ (y ++ (v ∷ r))) type (omega (arith, size, length-append c (x ++ (y ++ (v ∷ []))))) (name_no_type (y ++ (v ∷ r)) d))
      (list_reads room r d rest alone (omega (arith, hi)) (omega (arith, hi)) (omega (arith, size, length-append c (x ++ (y ++ (v ∷ []))), length-append x (y ++ (v ∷ []))))
      (omega (arith, size, length-append c (x ++ (y ++ (v ∷ []))), length-append x (y ++ (v ∷ [])), length-append y (v ∷ []))) shuts) shuts

  pub one_locals_read : {list : List StmtTree} {h : ℕ} {x : List Sym} (room : Bool) (r : List Sym) → AreLocals list h x → Alone room list → h ≤ suc e → length x < turns
      → one_locals e turns room (x ++ r) ≡ Ok (single (line_at x) (number_at x) list, r)
  unfolding one_locals
  one_locals_read {list} {x = x} room r d alone hi l = rw (locals_read room r d alone hi l)
      (ap (λ z. Ok (single z (number_at (x ++ r)) list, r)) (parted_line r (locals_parted d)) ∙ ap (λ z. Ok (single (line_at x) z list, r)) (parted_number r (locals_parted d)))

named_level : {ty : Ty} {fixed : Bool} {s : StmtTree} {h : ℕ} {x : List Sym} → IsNamed ty fixed s h x → 1 ≤ levels_of s
named_level (bare i) = omega arith
named_level (with_value i j d) = omega arith

-- a declaration of one level has one name
pub alone_by : (room : Bool) {list : List StmtTree} {h : ℕ} {x : List Sym} (l k : ℕ) → AreLocals list h x → (room ≡ false → levels_of (single l k list) ≤ 1) → Alone 0 0 room list
alone_by room l k (Grammar.locals type n none_named shuts) i = λ f. refl
alone_by room l k (Grammar.locals type n (more_named j m rest) shuts) i = λ f. absurd (omega (arith, i f, named_level n))

pub locals_levels : {list : List StmtTree} {h : ℕ} {x : List Sym} → AreLocals list h x → 1 ≤ all_levels (stmts_in list)
locals_levels (Grammar.locals type n rest shuts) = omega (arith, named_level n)

-- where there is room there may be several
pub room_alone : {list : List StmtTree} {h : ℕ} {x : List Sym} → AreLocals list h x → Alone 0 0 true list
room_alone (Grammar.locals type n rest shuts) = λ f. absurd (true≢false f)
