-- More turns, more levels of statements and more levels of expressions change no answer but one that was cut short.
use Rattle.std.proofs.Common.{◌≡◌, ℕ, zero, suc, ◌≤◌, Bool, true, false, ◌||◌, nat_lt, nat_le, ◌⊎◌, inl, inr, List, [], ◌∷◌, length, Option, Some, None, Err, refl, sym, ap, ◌∙◌, subst, arith, true≢false, le_trans, le-leb, leb-true, suc-le-suc}
use Rattle.vk_types.specs.declared.types.Ty.{Ty}
use Rattle.vk_ast.specs.declared.expressions.BinOp.{BinOp}
use Rattle.vk_ast.specs.Tree.{Tree}
use Rattle.vk_ast.specs.Statements.{StmtTree}
use Rattle.vk_tokens.specs.declared.tokens.Mark.{Mark}
use Rattle.vk_tokens.specs.declared.tokens.Mark.TheVariants as mark
use Rattle.vk_grammar_expr.specs.declared.symbols.Sym.{Sym}
use Rattle.vk_grammar_expr.specs.declared.symbols.SymKind.{SymKind}
use Rattle.vk_grammar_expr.specs.declared.symbols.SymKind.TheVariants as kind
use Rattle.vk_grammar_expr.specs.declared.symbols.Keyword.TheVariants as keyword
use Rattle.vk_grammar_expr.specs.Symbols.{head, is_sign, same_mark, is_type_part, is_start}
use Rattle.vk_grammar_expr.specs.Types.{type_in}
use Rattle.vk_grammar_expr.specs.Grammar.{Tall, level, full}
use Rattle.vk_grammar_expr.specs.Inner.Parser.{Syntax, Parser, pure, then_do, take, expect}
use Rattle.vk_grammar_expr.specs.Inner.Reading.{type_words, expression}
use Rattle.vk_grammar_expr.proofs.Grown.{IsCut, Grows, Room, same_grows, bind_grows, look_grows, here_grows, limit_grows, pick_some_grows, choose_grows, choose_some_grows, many_grows, height_grows, expression_grows, refused, lower_room}
use Rattle.vk_grammar_expr.proofs.Climb.{onwards_grow}
use Rattle.vk_grammar_stmt.specs.Words.{is_keyword, name_at, has_const, assign_at, step_at, step_of, begins_here, is_stmt_start}
use Rattle.vk_grammar_stmt.specs.Trees.{Clauses, single}
use Rattle.vk_grammar_stmt.specs.Inner.Reading.{is_not, no_level, cond, unary, condition, optional, step_before, assigned, stepped, valued, behind_operand, act, part, initial, named_local, local, later_local, local_list, locals, one_locals, jump, returned, block, else_part, choice, while_loop, do_loop, first_part, for_rest, for_loop, simd_line, lost_line, plain_at, plain, one_statement, one_entry, statement, entry, body}

-- whether several names may stand
pub record Rooms (deep b c : Bool) : Type 0 where
  pub more_room : b ≡ true → c ≡ true
  pub same : deep ≡ false → b ≡ c

rooms_at : {deep : Bool} {d e : ℕ} (h : ℕ) → Room deep d e → Rooms deep (nat_le h d) (nat_le h e)
rooms_at {d = d} {e = e} h room = record { more_room = λ t. le-leb h e (le_trans (leb-true h d t) room.above); same = λ f. ap (nat_le h) (room.same f) }

same_rooms : {deep b : Bool} → Rooms deep b b
same_rooms = record { more_room = λ t. t; same = λ f. refl }

upper_room : {deep : Bool} {d e : ℕ} → Room deep d e → Room deep (suc d) (suc e)
upper_room room = record { above = suc-le-suc room.above; same = λ f. ap suc (room.same f) }

pub type_words_grow : {deep : Bool} (turns more_turns : ℕ) → turns ≤ more_turns → Grows deep (type_words turns) (type_words more_turns)
unfolding type_words
type_words_grow turns more_turns i = bind_grows (many_grows is_type_part same_grows turns more_turns i) (λ c. same_grows)

module _ (deep : Bool) (e f turns more_turns : ℕ) (heights : Room deep e f) (turns_le : turns ≤ more_turns) where
  pub cond_grows : Grows deep (cond e turns) (cond f more_turns)
  unfolding cond
  cond_grows = expression_grows deep turns more_turns turns_le (suc e) (suc f) (upper_room heights) full

  unary_grows : Grows deep (unary e turns) (unary f more_turns)
  unfolding unary
  unary_grows = expression_grows deep turns more_turns turns_le (suc e) (suc f) (upper_room heights) (level 0)

  condition_grows : Grows deep (condition e turns) (condition f more_turns)
  unfolding condition
  condition_grows = bind_grows same_grows (λ u. bind_grows cond_grows (λ c. same_grows))

  pub optional_grows : (m : Mark) → Grows deep (optional e turns m) (optional f more_turns m)
  unfolding optional
  optional_grows m = choose_grows (is_sign m) same_grows (bind_grows cond_grows (λ c. same_grows))

  assigned_grows : (l k : ℕ) (p : Tall) (o : Option BinOp) → Grows deep (assigned e turns l k p o) (assigned f more_turns l k p o)
  unfolding assigned
  assigned_grows l k p o = bind_grows same_grows (λ t. bind_grows cond_grows (λ a. same_grows))

  stepped_grows : (l k : ℕ) (p : Tall) (o : BinOp) → Grows deep (stepped e turns l k p o) (stepped f more_turns l k p o)
  unfolding stepped
  stepped_grows l k p o = same_grows

  valued_grows : (l k : ℕ) (p : Tall) → Grows deep (valued e turns l k p) (valued f more_turns l k p)
  unfolding valued
  valued_grows l k p = bind_grows (onwards_grow deep e f turns more_turns heights turns_le (expression turns e) (expression more_turns f) (λ s. expression_grows deep turns more_turns turns_le e f heights s) l k p) (λ a. same_grows)

  behind_grows : (l k : ℕ) (p : Tall) → Grows deep (behind_operand e turns l k p) (behind_operand f more_turns l k p)
  unfolding behind_operand
  behind_grows l k p = look_grows (λ s. pick_some_grows (assign_at s) (assigned_grows l k p) (pick_some_grows (step_at s) (stepped_grows l k p) (valued_grows l k p)))

  act_grows : Grows deep (act e turns) (act f more_turns)
  unfolding act step_before
  act_grows = choose_some_grows step_at (λ o. bind_grows same_grows (λ t. bind_grows unary_grows (λ p. same_grows))) (here_grows (λ l k. bind_grows unary_grows (behind_grows l k)))

  part_grows : (m : Mark) → Grows deep (part e turns m) (part f more_turns m)
  unfolding part
  part_grows m = choose_grows (is_sign m) same_grows (bind_grows act_grows (λ s. same_grows))

  local_grows : (ty : Ty) (fixed : Bool) → Grows deep (local e turns ty fixed) (local f more_turns ty fixed)
  unfolding local named_local initial
  local_grows ty fixed = choose_some_grows name_at (λ id. bind_grows same_grows (λ t. bind_grows (choose_grows (is_sign mark.Assign) (bind_grows same_grows (λ u. bind_grows cond_grows (λ a. same_grows))) same_grows) (λ a. same_grows)))
      same_grows

  later_grows : (b c : Bool) → Rooms deep b c → (ty : Ty) (fixed : Bool) → Grows deep (later_local e turns b ty fixed) (later_local f more_turns c ty fixed)
  unfolding later_local
  later_grows b c rooms ty fixed = limit_grows b c rooms.more_room rooms.same (bind_grows same_grows (λ t. local_grows ty fixed))

  pub locals_grow : (b c : Bool) → Rooms deep b c → Grows deep (locals e turns b) (locals f more_turns c)
  unfolding locals local_list
  locals_grow b c rooms = bind_grows (type_words_grow turns more_turns turns_le) (λ t. bind_grows (bind_grows (local_grows (type_in t) (has_const t))
      (λ s. bind_grows (many_grows (is_sign mark.Comma) (later_grows b c rooms (type_in t) (has_const t)) turns more_turns turns_le) (λ rest. same_grows))) (λ list. same_grows))

  one_locals_grow : (b c : Bool) → Rooms deep b c → Grows deep (one_locals e turns b) (one_locals f more_turns c)
  unfolding one_locals
  one_locals_grow b c rooms = here_grows (λ l k. bind_grows {f = λ list. pure (single l k list)} (locals_grow b c rooms) (λ list. same_grows))

  returned_grows : Grows deep (returned e turns) (returned f more_turns)
  unfolding returned
  returned_grows = bind_grows same_grows (λ t. bind_grows (optional_grows mark.Semicolon) (λ a. same_grows))

  jump_grows : (node : (line token : ℕ) → StmtTree) → Grows deep (jump e turns node) (jump f more_turns node)
  unfolding jump
  jump_grows node = same_grows

module _ (clauses : Clauses) (deep : Bool) (e f turns more_turns : ℕ) (heights : Room deep e f) (turns_le : turns ≤ more_turns) (d g : ℕ) (room : Room deep d g) (sub sup : Parser StmtTree)
    (sub_entry sup_entry : Parser (List StmtTree)) (subs : Grows deep sub sup) (entries : Grows deep sub_entry sup_entry) where
  else_grows : (t : Sym) (c : Tree) (s : StmtTree) → Grows deep (else_part clauses e d turns sub sub_entry t c s) (else_part clauses f g more_turns sup sup_entry t c s)
  unfolding else_part
  else_grows t c s = choose_grows (is_keyword keyword.Else) (bind_grows same_grows (λ u. bind_grows subs (λ other. same_grows))) same_grows

  for_rest_grows : (t : Sym) (a : StmtTree) → Grows deep (for_rest clauses e d turns sub sub_entry t a) (for_rest clauses f g more_turns sup sup_entry t a)
  unfolding for_rest
  for_rest_grows t a = bind_grows (optional_grows deep e f turns more_turns heights turns_le mark.Semicolon) (λ c. bind_grows (part_grows deep e f turns more_turns heights turns_le mark.CloseParen) (λ b. bind_grows subs (λ s. same_grows)))

  first_grows : Grows deep (first_part clauses e d turns sub sub_entry) (first_part clauses f g more_turns sup sup_entry)
  unfolding first_part
  first_grows = choose_grows is_type_part (one_locals_grow deep e f turns more_turns heights turns_le (nat_lt 1 d) (nat_lt 1 g) (rooms_at 2 room)) (part_grows deep e f turns more_turns heights turns_le mark.Semicolon)

  block_grows : Grows deep (block clauses e d turns sub sub_entry) (block clauses f g more_turns sup sup_entry)
  unfolding block
  block_grows = bind_grows same_grows (λ t. bind_grows (many_grows (is_not mark.CloseBrace) entries turns more_turns turns_le) (λ lists. same_grows))

  choice_grows : Grows deep (choice clauses e d turns sub sub_entry) (choice clauses f g more_turns sup sup_entry)
  unfolding choice
  choice_grows = bind_grows same_grows (λ t. bind_grows (condition_grows deep e f turns more_turns heights turns_le) (λ c. bind_grows subs (λ s. else_grows t c s)))

  while_grows : Grows deep (while_loop clauses e d turns sub sub_entry) (while_loop clauses f g more_turns sup sup_entry)
  unfolding while_loop
  while_grows = bind_grows same_grows (λ t. bind_grows (condition_grows deep e f turns more_turns heights turns_le) (λ c. bind_grows subs (λ s. same_grows)))

  do_grows : Grows deep (do_loop clauses e d turns sub sub_entry) (do_loop clauses f g more_turns sup sup_entry)
  unfolding do_loop
  do_grows = bind_grows same_grows (λ t. bind_grows subs (λ s. bind_grows same_grows (λ u. bind_grows (condition_grows deep e f turns more_turns heights turns_le) (λ c. same_grows))))

  for_grows : Grows deep (for_loop clauses e d turns sub sub_entry) (for_loop clauses f g more_turns sup sup_entry)
  unfolding for_loop
  for_grows = bind_grows {p = take} same_grows (λ t. bind_grows {p = expect mark.OpenParen} same_grows (λ u. bind_grows first_grows (for_rest_grows t)))

  simd_grows : (n : ℕ) → Grows deep (simd_line clauses e d turns sub sub_entry n) (simd_line clauses f g more_turns sup sup_entry n)
  unfolding simd_line
  simd_grows n = bind_grows same_grows (λ t. bind_grows subs (λ s. same_grows))

  lost_grows : (n : ℕ) → Grows deep (lost_line clauses e d turns sub sub_entry n) (lost_line clauses f g more_turns sup sup_entry n)
  unfolding lost_line
  lost_grows n = same_grows

  plain_at_grows : (k : Option SymKind) → Grows deep (plain_at clauses e d turns sub sub_entry k) (plain_at clauses f g more_turns sup sup_entry k)
  plain_at_grows (Some (kind.Sign mark.OpenBrace)) = block_grows
  plain_at_grows (Some (kind.Keyword keyword.If)) = height_grows 1 room choice_grows
  plain_at_grows (Some (kind.Keyword keyword.While)) = height_grows 1 room while_grows
  plain_at_grows (Some (kind.Keyword keyword.Do)) = height_grows 1 room do_grows
  plain_at_grows (Some (kind.Keyword keyword.For)) = height_grows 1 room for_grows
  plain_at_grows (Some (kind.Keyword keyword.Break)) = jump_grows deep e f turns more_turns heights turns_le StmtTree.break_loop
  plain_at_grows (Some (kind.Keyword keyword.Continue)) = jump_grows deep e f turns more_turns heights turns_le StmtTree.continue_loop
  plain_at_grows (Some (kind.Keyword keyword.Return)) = returned_grows deep e f turns more_turns heights turns_le
  plain_at_grows (Some (kind.Simd n)) = height_grows 1 room (simd_grows n)
  plain_at_grows (Some (kind.Simdfn n)) = lost_grows n
  plain_at_grows _ = part_grows deep e f turns more_turns heights turns_le mark.Semicolon

  plain_grows : Grows deep (plain clauses e d turns sub sub_entry) (plain clauses f g more_turns sup sup_entry)
  unfolding plain
  plain_grows = look_grows plain_at_grows

  one_statement_grows : Grows deep (one_statement clauses e d turns sub sub_entry) (one_statement clauses f g more_turns sup sup_entry)
  unfolding one_statement
  one_statement_grows = choose_grows is_type_part (one_locals_grow deep e f turns more_turns heights turns_le (nat_lt 0 d) (nat_lt 0 g) (rooms_at 1 room)) plain_grows

  one_entry_grows : Grows deep (one_entry clauses e d turns sub sub_entry) (one_entry clauses f g more_turns sup sup_entry)
  unfolding one_entry
  one_entry_grows = choose_grows is_type_part (locals_grow deep e f turns more_turns heights turns_le true true same_rooms) (bind_grows plain_grows (λ s. same_grows))

-- ---- a token that begins no statement is refused under any limit

or_false : (a b : Bool) → (a || b) ≡ false → (a ≡ false) × (b ≡ false)
or_false false false e = (refl, refl)
or_false true b e = absurd (true≢false e)
or_false false true e = absurd (true≢false e)

part_refused : (e turns : ℕ) (w : List Sym) → is_sign mark.Semicolon (head w) ≡ false → step_at (head w) ≡ None → is_start (head w) ≡ false → part e turns mark.Semicolon w ≡ Err (Syntax (length w))
unfolding part act unary
part_refused e turns w i j k = rw (i, j, refused turns (suc e) (level 0) w k) refl

begins_no_type : (k : SymKind) → begins_here k ≡ false → is_type_part (Some k) ≡ false
unfolding begins_here is_type_part
begins_no_type (kind.Sign m) h = refl
begins_no_type (kind.Keyword keyword.Const) h = absurd (true≢false h)
begins_no_type (kind.Keyword w) h = refl
begins_no_type (kind.TypeWord w) h = absurd (true≢false h)
begins_no_type _ h = refl

module _ (clauses : Clauses) (e d turns : ℕ) (sub : Parser StmtTree) (sub_entry : Parser (List StmtTree)) where
  kind_refused : (w : List Sym) (k : SymKind) → head w ≡ Some k → begins_here k ≡ false → plain_at clauses e d turns sub sub_entry (Some k) w ≡ Err (Syntax (length w))
  unfolding begins_here is_sign same_mark step_at step_of
  kind_refused w (kind.Sign mark.OpenBrace) i h = absurd (true≢false h)
  kind_refused w (kind.Sign mark.Semicolon) i h = absurd (true≢false h)
  kind_refused w (kind.Sign mark.Increment) i h = absurd (true≢false h)
  kind_refused w (kind.Sign mark.Decrement) i h = absurd (true≢false h)
  kind_refused w (kind.Keyword keyword.If) i h = absurd (true≢false h)
  kind_refused w (kind.Keyword keyword.While) i h = absurd (true≢false h)
  kind_refused w (kind.Keyword keyword.Do) i h = absurd (true≢false h)
  kind_refused w (kind.Keyword keyword.For) i h = absurd (true≢false h)
  kind_refused w (kind.Keyword keyword.Break) i h = absurd (true≢false h)
  kind_refused w (kind.Keyword keyword.Continue) i h = absurd (true≢false h)
  kind_refused w (kind.Keyword keyword.Return) i h = absurd (true≢false h)
  kind_refused w (kind.Simd n) i h = absurd (true≢false h)
  kind_refused w (kind.Simdfn n) i h = absurd (true≢false h)
  kind_refused w k i h = part_refused e turns w (ap (is_sign mark.Semicolon) i) (ap step_at i) (ap is_start i ∙ (or_false (is_type_part (Some k)) (is_start (Some k)) h).1)

  plain_refused : (w : List Sym) → is_stmt_start (head w) ≡ false → plain clauses e d turns sub sub_entry w ≡ Err (Syntax (length w))
  unfolding plain is_stmt_start is_sign step_at is_start
  plain_refused [] h = part_refused e turns [] refl refl refl
  plain_refused (t ∷ r) h = kind_refused (t ∷ r) t.kind refl h

  no_type : (w : List Sym) → is_stmt_start (head w) ≡ false → is_type_part (head w) ≡ false
  unfolding is_stmt_start is_type_part
  no_type [] h = refl
  no_type (t ∷ r) h = begins_no_type t.kind h

  one_refused : (w : List Sym) → is_stmt_start (head w) ≡ false → one_statement clauses e d turns sub sub_entry w ≡ Err (Syntax (length w))
  unfolding one_statement
  one_refused w h = rw (no_type w h) (plain_refused w h)

  entry_refused : (w : List Sym) → is_stmt_start (head w) ≡ false → one_entry clauses e d turns sub sub_entry w ≡ Err (Syntax (length w))
  unfolding one_entry
  entry_refused w h = rw (no_type w h) (ap (λ o. then_do o (λ s. pure (s ∷ []))) (plain_refused w h))

stmt_refused : (clauses : Clauses) (e turns d : ℕ) (w : List Sym) → is_stmt_start (head w) ≡ false → statement clauses e turns d w ≡ Err (Syntax (length w))
unfolding statement no_level
stmt_refused clauses e turns zero w h = rw h refl
stmt_refused clauses e turns (suc d) w h = one_refused clauses e d turns (statement clauses e turns d) (entry clauses e turns d) w h

entries_refused : (clauses : Clauses) (e turns d : ℕ) (w : List Sym) → is_stmt_start (head w) ≡ false → entry clauses e turns d w ≡ Err (Syntax (length w))
unfolding statement no_level
entries_refused clauses e turns zero w h = rw h refl
entries_refused clauses e turns (suc d) w h = entry_refused clauses e d turns (statement clauses e turns d) (entry clauses e turns d) w h

no_level_grows : {A : Type 0} {q : Parser A} (deep : Bool) → (deep ≡ false → Grows deep no_level q) → ((w : List Sym) → is_stmt_start (head w) ≡ false → q w ≡ Err (Syntax (length w))) → Grows deep no_level q
unfolding no_level
no_level_grows false same h = same refl
no_level_grows {A} {q} true same h = record { grows = λ w. at_first w (is_stmt_start (head w)) refl }
  where
    at_first : (w : List Sym) (b : Bool) → is_stmt_start (head w) ≡ b → IsCut true (no_level {A = A} w) ⊎ (q w ≡ no_level w)
    at_first w true i = inl (rw i refl)
    at_first w false i = inr (h w i ∙ sym (rw i refl))

mutual
  unfolding statement

  pub statement_grows : (clauses : Clauses) (deep : Bool) (e f turns more_turns : ℕ) → Room deep e f → turns ≤ more_turns → (d g : ℕ) → Room deep d g → Grows deep (statement clauses e turns d) (statement clauses f more_turns g)
  statement_grows clauses deep e f turns more_turns heights i zero g room = no_level_grows deep (λ z. subst (λ n. Grows deep no_level (statement clauses f more_turns n)) (room.same z) same_grows) (stmt_refused clauses f more_turns g)
  statement_grows clauses deep e f turns more_turns heights i (suc d) zero room = absurd (omega (arith, room.above))
  statement_grows clauses deep e f turns more_turns heights i (suc d) (suc g) room = one_statement_grows clauses deep e f turns more_turns heights i d g (lower_room room)
      (statement clauses e turns d) (statement clauses f more_turns g) (entry clauses e turns d) (entry clauses f more_turns g)
      (statement_grows clauses deep e f turns more_turns heights i d g (lower_room room)) (entry_grows clauses deep e f turns more_turns heights i d g (lower_room room))

  pub entry_grows : (clauses : Clauses) (deep : Bool) (e f turns more_turns : ℕ) → Room deep e f → turns ≤ more_turns → (d g : ℕ) → Room deep d g → Grows deep (entry clauses e turns d) (entry clauses f more_turns g)
  entry_grows clauses deep e f turns more_turns heights i zero g room = no_level_grows deep (λ z. subst (λ n. Grows deep no_level (entry clauses f more_turns n)) (room.same z) same_grows) (entries_refused clauses f more_turns g)
  entry_grows clauses deep e f turns more_turns heights i (suc d) zero room = absurd (omega (arith, room.above))
  entry_grows clauses deep e f turns more_turns heights i (suc d) (suc g) room = one_entry_grows clauses deep e f turns more_turns heights i d g (lower_room room)
      (statement clauses e turns d) (statement clauses f more_turns g) (entry clauses e turns d) (entry clauses f more_turns g)
      (statement_grows clauses deep e f turns more_turns heights i d g (lower_room room)) (entry_grows clauses deep e f turns more_turns heights i d g (lower_room room))

pub body_grows : (clauses : Clauses) (deep : Bool) (e f turns more_turns : ℕ) → Room deep e f → turns ≤ more_turns → (d g : ℕ) → Room deep d g → Grows deep (body clauses e turns d) (body clauses f more_turns g)
body_grows clauses deep e f turns more_turns heights i d g room = choose_grows (is_sign mark.OpenBrace) (statement_grows clauses deep e f turns more_turns heights i d g room) same_grows
