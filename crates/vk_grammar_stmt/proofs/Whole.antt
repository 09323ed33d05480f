-- Each text of a statement within the limits is read as its tree.
use Rattle.std.proofs.Common.{◌≡◌, ◌≤◌, ◌<◌, ℕ, zero, suc, max, ◌+◌, Bool, true, false, nat_lt, List, [], ◌∷◌, ◌++◌, length, Option, Some, Result, Ok, refl, sym, ap, ◌∙◌, subst, append_assoc, append-nil, length-append, arith, true≢false, le-leb}
use Rattle.vk_ast.specs.declared.expressions.BinOp.{BinOp}
use Rattle.vk_ast.specs.Tree.{Tree}
use Rattle.vk_ast.specs.Statements.{StmtTree}
use Rattle.vk_tokens.specs.declared.tokens.Mark.TheVariants as mark
use Rattle.vk_grammar_expr.specs.declared.symbols.Sym.{Sym}
use Rattle.vk_grammar_expr.specs.declared.symbols.SymKind.{SymKind}
use Rattle.vk_grammar_expr.specs.declared.symbols.SymKind.TheVariants as kind
use Rattle.vk_grammar_expr.specs.declared.symbols.Keyword.TheVariants as keyword
use Rattle.vk_grammar_expr.specs.Symbols.{head, line_at, number_at, Is, IsSign, is_sign, is_type_part, is_start}
use Rattle.vk_grammar_expr.specs.Inner.Parser.{Fault, Parser, many}
use Rattle.vk_grammar_expr.proofs.Signs.{sign_kind, sign_is}
use Rattle.vk_grammar_expr.proofs.Starts.{Starts, spelled_starts}
use Rattle.vk_grammar_expr.proofs.Stops.{start_no_type}
use Rattle.vk_grammar_expr.proofs.Equations
use Rattle.vk_grammar_stmt.specs.Words.{IsKeyword, is_keyword, same_keyword, step_of, step_at, IsStep, begins_here}
use Rattle.vk_grammar_stmt.specs.Trees.{Clauses, directive_at, stmts_in, joined, single, is_open, levels_of}
use Rattle.vk_grammar_stmt.specs.Grammar
use Rattle.vk_grammar_stmt.specs.Grammar.{InParens, IsOptional, IsAct, an_assignment, a_step_before, a_step_behind, a_value, IsPart, no_act, an_act, AreLocals, IsFirst, first_act, first_locals, IsBlock, in_braces, IsPlain, a_block, a_part, an_if, an_if_else, a_while, a_do, a_for, a_break, a_continue, a_return, a_simd, a_lost_line, IsStmt, a_plain, some_locals, IsEntry, plain_entry, locals_entry, AreEntries, no_entries, more_entries}
use Rattle.vk_grammar_stmt.specs.Inner.Reading.{is_not, condition, optional, part, locals, one_locals, jump, returned, block, else_part, choice, while_loop, do_loop, first_part, for_rest, for_loop, simd_line, lost_line, plain_at, plain, one_statement, one_entry, statement, entry, body}
use Rattle.vk_grammar_stmt.proofs.Signs.{Parted, keyword_kind, keyword_is}
use Rattle.vk_grammar_stmt.proofs.Forms.{entry_parted}
use Rattle.vk_grammar_stmt.proofs.Limits.{AllAt}
use Rattle.vk_grammar_stmt.proofs.Parts.{locals_levels, semicolon_ends, paren_ends, condition_reads, optional_reads, part_reads, locals_read, one_locals_read, alone_by, room_alone}

-- ---- first tokens

-- the first token begins a statement that is no declaration
record Begun (x : List Sym) : Type 0 where
  first : Sym
  others : List Sym
  parts : x ≡ first ∷ others
  begins : begins_here first.kind ≡ true
  no_type : is_type_part (Some first.kind) ≡ false

begun_with : {k : SymKind} {t : Sym} (rest : List Sym) → Is k t → begins_here k ≡ true → is_type_part (Some k) ≡ false → Begun (t ∷ rest)
begun_with {t = t} rest i b n = record { first = t; others = rest; parts = refl; begins = subst (λ z. begins_here z ≡ true) (sym i.is) b; no_type = subst (λ z. is_type_part (Some z) ≡ false) (sym i.is) n }

start_begins : (k : SymKind) → is_start (Some k) ≡ true → begins_here k ≡ true
unfolding begins_here is_type_part is_start
start_begins (kind.TypeWord w) e = refl
start_begins (kind.Keyword w) e = absurd (true≢false (sym e))
start_begins (kind.Sign mark.OpenBrace) e = refl
start_begins (kind.Sign mark.Semicolon) e = refl
start_begins (kind.Sign mark.Increment) e = refl
start_begins (kind.Sign mark.Decrement) e = refl
start_begins (kind.Simd n) e = refl
start_begins (kind.Simdfn n) e = refl
start_begins _ e = e

starts_begun : {x : List Sym} → Starts x → Begun x
starts_begun s = record { first = s.first; others = s.others; parts = s.parts; begins = start_begins s.first.kind s.begins; no_type = start_no_type s.first.kind s.begins }

step_begins : (k : SymKind) (o : BinOp) → step_at (Some k) ≡ Some o → (begins_here k ≡ true) × (is_type_part (Some k) ≡ false)
unfolding step_at step_of begins_here is_type_part
step_begins (kind.Sign mark.Increment) o e = (refl, refl)
step_begins (kind.Sign mark.Decrement) o e = (refl, refl)
step_begins _ o e = absurd (cc)

more_begun : {x : List Sym} (y : List Sym) → Begun x → Begun (x ++ y)
more_begun y b = record { first = b.first; others = b.others ++ y; parts = ap (λ z. z ++ y) b.parts; begins = b.begins; no_type = b.no_type }

act_begun : {s : StmtTree} {h : ℕ} {x : List Sym} → IsAct s h x → Begun x
act_begun (an_assignment {t = t} {y = y} d i e) = more_begun (t ∷ y) (starts_begun (spelled_starts d))
act_begun (a_step_before {o = o} {t = t} {x = x} i d) = let b = step_begins t.kind o i.is in record { first = t; others = x; parts = refl; begins = b.0; no_type = b.1 }
act_begun (a_step_behind {t = t} d i) = more_begun (t ∷ []) (starts_begun (spelled_starts d))
act_begun (a_value d) = starts_begun (spelled_starts d)

part_begun : {s : StmtTree} {h : ℕ} {x : List Sym} → IsPart mark.Semicolon s h x → Begun x
unfolding begins_here is_type_part
part_begun (no_act i) = begun_with [] i refl refl
part_begun (an_act {v = v} a i) = more_begun (v ∷ []) (act_begun a)

plain_begun : {clauses : Clauses} {s : StmtTree} {h : ℕ} {x : List Sym} → IsPlain clauses s h x → Begun x
unfolding begins_here is_type_part
plain_begun (a_block (in_braces i d j)) = begun_with _ i refl refl
plain_begun (a_part d) = part_begun d
plain_begun (an_if i p d) = begun_with _ i refl refl
plain_begun (an_if_else i p d shut j b) = begun_with _ i refl refl
plain_begun (a_while i p d) = begun_with _ i refl refl
plain_begun (a_do i d j p k) = begun_with _ i refl refl
plain_begun (a_for i j f c p d) = begun_with _ i refl refl
plain_begun (a_break i j) = begun_with _ i refl refl
plain_begun (a_continue i j) = begun_with _ i refl refl
plain_begun (a_return i d) = begun_with _ i refl refl
plain_begun (a_simd i d) = begun_with _ i refl refl
plain_begun (a_lost_line i) = begun_with _ i refl refl

begins_no_else : (k : SymKind) → begins_here k ≡ true → is_keyword keyword.Else (Some k) ≡ false
unfolding begins_here is_type_part is_start
begins_no_else k e = go (is_keyword keyword.Else (Some k)) refl
  where
    go : (b : Bool) → is_keyword keyword.Else (Some k) ≡ b → is_keyword keyword.Else (Some k) ≡ false
    go false j = j
    go true j = absurd (true≢false (sym e ∙ ap begins_here (keyword_kind keyword.Else k j)))

begins_no_brace : (k : SymKind) → begins_here k ≡ true → is_sign mark.CloseBrace (Some k) ≡ false
unfolding begins_here is_type_part is_start
begins_no_brace k e = go (is_sign mark.CloseBrace (Some k)) refl
  where
    go : (b : Bool) → is_sign mark.CloseBrace (Some k) ≡ b → is_sign mark.CloseBrace (Some k) ≡ false
    go false j = j
    go true j = absurd (true≢false (sym e ∙ ap begins_here (sign_kind mark.CloseBrace k j)))

type_begins_here : (k : SymKind) → is_type_part (Some k) ≡ true → begins_here k ≡ true
unfolding is_type_part begins_here
type_begins_here (kind.TypeWord w) e = refl
type_begins_here (kind.Keyword keyword.Const) e = refl
type_begins_here (kind.Keyword w) e = absurd (true≢false (sym e))
type_begins_here (kind.Sign m) e = absurd (true≢false (sym e))
type_begins_here _ e = absurd (true≢false (sym e))

locals_type : {list : List StmtTree} {h : ℕ} {x : List Sym} (r : List Sym) → AreLocals list h x → is_type_part (head (x ++ r)) ≡ true
locals_type r (Grammar.locals {c = c} {x = x} {y = y} {v = v} type d rest shuts) = ap (λ z. is_type_part (head z)) (append_assoc c (x ++ (y ++ (v ∷ []))) r) ∙ Equations.type_begins ((x ++ (y ++ (v ∷ []))) ++ r) type

entry_begins : {clauses : Clauses} {list : List StmtTree} {h : ℕ} {x : List Sym} → (p : Parted x) → IsEntry clauses list h x → begins_here p.first.kind ≡ true
entry_begins p (plain_entry d) = let b = plain_begun d in let q : b.first ∷ b.others ≡ p.first ∷ p.others = sym b.parts ∙ p.parts in
    let same : b.first ≡ p.first = cc in subst (λ z. begins_here z.kind ≡ true) same b.begins
entry_begins {x = x} p (locals_entry d) = type_begins_here p.first.kind (subst (λ z. is_type_part (head z) ≡ true) (append-nil x ∙ p.parts) (locals_type [] d))

entry_no_else : {clauses : Clauses} {list : List StmtTree} {h : ℕ} {x : List Sym} (r : List Sym) → IsEntry clauses list h x → is_keyword keyword.Else (head (x ++ r)) ≡ false
entry_no_else r d = let p = entry_parted d in subst (λ z. is_keyword keyword.Else (head (z ++ r)) ≡ false) (sym p.parts) (begins_no_else p.first.kind (entry_begins p d))

entry_no_brace : {clauses : Clauses} {list : List StmtTree} {h : ℕ} {x : List Sym} (r : List Sym) → IsEntry clauses list h x → is_not mark.CloseBrace (head (x ++ r)) ≡ true
entry_no_brace r d = let p = entry_parted d in subst (λ z. is_not mark.CloseBrace (head (z ++ r)) ≡ true) (sym p.parts) (rw (begins_no_brace p.first.kind (entry_begins p d)) refl)

brace_no_else : {v : Sym} → IsSign mark.CloseBrace v → is_keyword keyword.Else (Some v.kind) ≡ false
unfolding is_keyword
brace_no_else i = subst (λ k. is_keyword keyword.Else (Some k) ≡ false) (sym i.is) refl

entries_no_else : {clauses : Clauses} {list : List StmtTree} {h : ℕ} {x : List Sym} {v : Sym} (r : List Sym) → AreEntries clauses list h x → IsSign mark.CloseBrace v → is_keyword keyword.Else (head (x ++ (v ∷ r))) ≡ false
entries_no_else r no_entries i = brace_no_else i
entries_no_else {v = v} r (more_entries {x = x} {y = y} d rest) i = ap (λ z. is_keyword keyword.Else (head z)) (append_assoc x y (v ∷ r)) ∙ entry_no_else (y ++ (v ∷ r)) d

while_no_else : {u : Sym} → IsKeyword keyword.While u → is_keyword keyword.Else (Some u.kind) ≡ false
unfolding is_keyword same_keyword
while_no_else i = subst (λ k. is_keyword keyword.Else (Some k) ≡ false) (sym i.is) refl

-- ---- what each reader tells, given what is told of its parts

module _ (clauses : Clauses) (e d turns : ℕ) (sub : Parser StmtTree) (sub_entry : Parser (List StmtTree)) where
  semicolon_part : {t : Sym} (r : List Sym) → IsSign mark.Semicolon t → plain clauses e d turns sub sub_entry (t ∷ r) ≡ part e turns mark.Semicolon (t ∷ r)
  unfolding plain
  semicolon_part r i = rw i.is refl

  start_part : (k : SymKind) (w : List Sym) → is_start (Some k) ≡ true → plain_at clauses e d turns sub sub_entry (Some k) w ≡ part e turns mark.Semicolon w
  unfolding is_start
  start_part (kind.Sign mark.OpenBrace) w i = absurd (true≢false (sym i))
  start_part (kind.Keyword keyword.If) w i = absurd (true≢false (sym i))
  start_part (kind.Keyword keyword.While) w i = absurd (true≢false (sym i))
  start_part (kind.Keyword keyword.Do) w i = absurd (true≢false (sym i))
  start_part (kind.Keyword keyword.For) w i = absurd (true≢false (sym i))
  start_part (kind.Keyword keyword.Break) w i = absurd (true≢false (sym i))
  start_part (kind.Keyword keyword.Continue) w i = absurd (true≢false (sym i))
  start_part (kind.Keyword keyword.Return) w i = absurd (true≢false (sym i))
  start_part (kind.Simd n) w i = absurd (true≢false (sym i))
  start_part (kind.Simdfn n) w i = absurd (true≢false (sym i))
  start_part _ w i = refl

  step_part : (k : SymKind) (o : BinOp) (w : List Sym) → step_at (Some k) ≡ Some o → plain_at clauses e d turns sub sub_entry (Some k) w ≡ part e turns mark.Semicolon w
  unfolding step_at step_of
  step_part (kind.Sign mark.Increment) o w i = refl
  step_part (kind.Sign mark.Decrement) o w i = refl
  step_part _ o w i = absurd (cc)

  starts_part : {x : List Sym} (r : List Sym) → Starts x → plain clauses e d turns sub sub_entry (x ++ r) ≡ part e turns mark.Semicolon (x ++ r)
  unfolding plain
  starts_part r s = subst (λ z. plain_at clauses e d turns sub sub_entry (head (z ++ r)) (z ++ r) ≡ part e turns mark.Semicolon (z ++ r)) (sym s.parts) (start_part s.first.kind (s.first ∷ (s.others ++ r)) s.begins)

  stepped_part : {o : BinOp} {t : Sym} (r : List Sym) → IsStep o t → plain clauses e d turns sub sub_entry (t ∷ r) ≡ part e turns mark.Semicolon (t ∷ r)
  unfolding plain
  stepped_part {o} {t} r i = step_part t.kind o (t ∷ r) i.is

  act_part : {s : StmtTree} {h : ℕ} {x : List Sym} (r : List Sym) → IsAct s h x → plain clauses e d turns sub sub_entry (x ++ r) ≡ part e turns mark.Semicolon (x ++ r)
  act_part r (an_assignment {x = x} {t = t} {y = y} d i b) = ap (plain clauses e _ turns sub sub_entry) (append_assoc x (t ∷ y) r) ∙ starts_part (t ∷ (y ++ r)) (spelled_starts d) ∙ sym (ap (part e turns mark.Semicolon) (append_assoc x (t ∷ y) r))
  act_part r (a_step_before {x = x} i d) = stepped_part (x ++ r) i
  act_part r (a_step_behind {x = x} {t = t} d i) = ap (plain clauses e _ turns sub sub_entry) (append_assoc x (t ∷ []) r) ∙ starts_part (t ∷ r) (spelled_starts d) ∙ sym (ap (part e turns mark.Semicolon) (append_assoc x (t ∷ []) r))
  act_part r (a_value d) = starts_part r (spelled_starts d)

  part_part : {s : StmtTree} {h : ℕ} {x : List Sym} (r : List Sym) → IsPart mark.Semicolon s h x → plain clauses e d turns sub sub_entry (x ++ r) ≡ part e turns mark.Semicolon (x ++ r)
  part_part r (no_act i) = semicolon_part r i
  part_part r (an_act {x = x} {v = v} a i) = ap (plain clauses e d turns sub sub_entry) (append_assoc x (v ∷ []) r) ∙ act_part (v ∷ r) a ∙ sym (ap (part e turns mark.Semicolon) (append_assoc x (v ∷ []) r))

  block_reads : {u : Sym} {lists : List (List StmtTree)} {v : Sym} (w r : List Sym) → IsSign mark.OpenBrace u → many turns (is_not mark.CloseBrace) sub_entry w ≡ Ok (lists, v ∷ r) → IsSign mark.CloseBrace v
      → plain clauses e d turns sub sub_entry (u ∷ w) ≡ Ok (StmtTree.block u.line u.at (stmts_in (joined lists)), r)
  unfolding plain block
  block_reads w r i m j = rw (i.is, m, sign_is j) refl

  if_reads : {t : Sym} {c : Tree} {s : StmtTree} (w w2 r : List Sym) → IsKeyword keyword.If t → 0 < d → condition e turns w ≡ Ok (c, w2) → sub w2 ≡ Ok (s, r) → is_keyword keyword.Else (head r) ≡ false
      → plain clauses e d turns sub sub_entry (t ∷ w) ≡ Ok (StmtTree.if_only t.line t.at c s, r)
  unfolding plain choice else_part
  if_reads w w2 r i pos p a n = rw (i.is, le-leb 1 d pos, p, a, n) refl

  else_reads : {t : Sym} {c : Tree} {s : StmtTree} {u : Sym} {other : StmtTree} (w w2 w3 r : List Sym) → IsKeyword keyword.If t → 0 < d → condition e turns w ≡ Ok (c, w2) → sub w2 ≡ Ok (s, u ∷ w3) → IsKeyword keyword.Else u
      → sub w3 ≡ Ok (other, r) → plain clauses e d turns sub sub_entry (t ∷ w) ≡ Ok (StmtTree.if_else t.line t.at c s other, r)
  unfolding plain choice else_part
  else_reads w w2 w3 r i pos p a j b = rw (i.is, le-leb 1 d pos, p, a, keyword_is j, b) refl

  while_reads : {t : Sym} {c : Tree} {s : StmtTree} (w w2 r : List Sym) → IsKeyword keyword.While t → 0 < d → condition e turns w ≡ Ok (c, w2) → sub w2 ≡ Ok (s, r)
      → plain clauses e d turns sub sub_entry (t ∷ w) ≡ Ok (StmtTree.while_loop t.line t.at c s, r)
  unfolding plain while_loop
  while_reads w w2 r i pos p a = rw (i.is, le-leb 1 d pos, p, a) refl

  do_reads : {t : Sym} {s : StmtTree} {u : Sym} {c : Tree} {v : Sym} (w w2 r : List Sym) → IsKeyword keyword.Do t → 0 < d → sub w ≡ Ok (s, u ∷ w2) → IsKeyword keyword.While u → condition e turns w2 ≡ Ok (c, v ∷ r)
      → IsSign mark.Semicolon v → plain clauses e d turns sub sub_entry (t ∷ w) ≡ Ok (StmtTree.do_loop t.line t.at s c, r)
  unfolding plain do_loop
  do_reads w w2 r i pos a j p shuts = rw (i.is, le-leb 1 d pos, a, keyword_is j, p, sign_is shuts) refl

  for_reads : {t u : Sym} {a : StmtTree} {c : Option Tree} {b s : StmtTree} (w w2 w3 w4 r : List Sym) → IsKeyword keyword.For t → 0 < d → IsSign mark.OpenParen u → first_part clauses e d turns sub sub_entry w ≡ Ok (a, w2)
      → optional e turns mark.Semicolon w2 ≡ Ok (c, w3) → part e turns mark.CloseParen w3 ≡ Ok (b, w4) → sub w4 ≡ Ok (s, r)
      → plain clauses e d turns sub sub_entry (t ∷ (u ∷ w)) ≡ Ok (StmtTree.for_loop t.line t.at a c b s, r)
  unfolding plain for_loop for_rest
  for_reads w w2 w3 w4 r i pos j f o p a = rw (i.is, le-leb 1 d pos, sign_is j, f, o, p, a) refl

  break_reads : {t v : Sym} (r : List Sym) → IsKeyword keyword.Break t → IsSign mark.Semicolon v → plain clauses e d turns sub sub_entry (t ∷ (v ∷ r)) ≡ Ok (StmtTree.break_loop t.line t.at, r)
  unfolding plain jump
  break_reads r i j = rw (i.is, sign_is j) refl

  continue_reads : {t v : Sym} (r : List Sym) → IsKeyword keyword.Continue t → IsSign mark.Semicolon v → plain clauses e d turns sub sub_entry (t ∷ (v ∷ r)) ≡ Ok (StmtTree.continue_loop t.line t.at, r)
  unfolding plain jump
  continue_reads r i j = rw (i.is, sign_is j) refl

  return_reads : {t : Sym} {c : Option Tree} (w r : List Sym) → IsKeyword keyword.Return t → optional e turns mark.Semicolon w ≡ Ok (c, r) → plain clauses e d turns sub sub_entry (t ∷ w) ≡ Ok (StmtTree.return_value t.line t.at c, r)
  unfolding plain returned
  return_reads w r i o = rw (i.is, o) refl

  simd_reads : {n : ℕ} {t : Sym} {s : StmtTree} (w r : List Sym) → Is (kind.Simd n) t → 0 < d → sub w ≡ Ok (s, r) → plain clauses e d turns sub sub_entry (t ∷ w) ≡ Ok (StmtTree.simd t.line t.at (directive_at clauses t n) s, r)
  unfolding plain simd_line
  simd_reads w r i pos a = rw (i.is, le-leb 1 d pos, a) refl

  lost_reads : {n : ℕ} {t : Sym} (r : List Sym) → Is (kind.Simdfn n) t → plain clauses e d turns sub sub_entry (t ∷ r) ≡ Ok (StmtTree.lost t.line t.at (directive_at clauses t n), r)
  unfolding plain lost_line
  lost_reads r i = rw i.is refl

  plain_one : {s : StmtTree} (w r : List Sym) → is_type_part (head w) ≡ false → plain clauses e d turns sub sub_entry w ≡ Ok (s, r) → one_statement clauses e d turns sub sub_entry w ≡ Ok (s, r)
  unfolding one_statement
  plain_one w r n p = rw n p

  locals_one : {s : StmtTree} (w r : List Sym) → is_type_part (head w) ≡ true → one_locals e turns (nat_lt 0 d) w ≡ Ok (s, r) → one_statement clauses e d turns sub sub_entry w ≡ Ok (s, r)
  unfolding one_statement
  locals_one w r n p = rw n p

  plain_entry_reads : {s : StmtTree} (w r : List Sym) → is_type_part (head w) ≡ false → plain clauses e d turns sub sub_entry w ≡ Ok (s, r) → one_entry clauses e d turns sub sub_entry w ≡ Ok (s ∷ [], r)
  unfolding one_entry
  plain_entry_reads w r n p = rw (n, p) refl

  locals_entry_reads : {list : List StmtTree} (w r : List Sym) → is_type_part (head w) ≡ true → locals e turns true w ≡ Ok (list, r) → one_entry clauses e d turns sub sub_entry w ≡ Ok (list, r)
  unfolding one_entry
  locals_entry_reads w r n p = rw n p

  first_act_reads : {s : StmtTree} (w r : List Sym) → is_type_part (head w) ≡ false → part e turns mark.Semicolon w ≡ Ok (s, r) → first_part clauses e d turns sub sub_entry w ≡ Ok (s, r)
  unfolding first_part
  first_act_reads w r n p = rw n p

  first_locals_read : {s : StmtTree} (w r : List Sym) → is_type_part (head w) ≡ true → one_locals e turns (nat_lt 1 d) w ≡ Ok (s, r) → first_part clauses e d turns sub sub_entry w ≡ Ok (s, r)
  unfolding first_part
  first_locals_read w r n p = rw n p

-- ---- what is to be shown

-- behind an open statement no `else` is left
abbrev pub Shuts : StmtTree → List Sym → Type 0
Shuts s r = is_open s ≡ true → is_keyword keyword.Else (head r) ≡ false

module _ (clauses : Clauses) where
  record PlainAs (s : StmtTree) (h : ℕ) (u : List Sym) : Type 0 where
    reads : (e turns d : ℕ) (r : List Sym) → h ≤ suc e → length u < turns → levels_of s ≤ suc d → Shuts s r
        → plain clauses e d turns (statement clauses e turns d) (entry clauses e turns d) (u ++ r) ≡ Ok (s, r)

  pub record StmtAs (s : StmtTree) (h : ℕ) (u : List Sym) : Type 0 where
    pub reads : (e turns d : ℕ) (r : List Sym) → h ≤ suc e → length u < turns → levels_of s ≤ d → Shuts s r → statement clauses e turns d (u ++ r) ≡ Ok (s, r)

  record EntryAs (list : List StmtTree) (h : ℕ) (u : List Sym) : Type 0 where
    reads : (e turns d : ℕ) (r : List Sym) → h ≤ suc e → length u < turns → AllAt d list → is_keyword keyword.Else (head r) ≡ false → entry clauses e turns d (u ++ r) ≡ Ok (list, r)

  -- lists of statements that are this one, one after the other
  pub record Lists (list : List StmtTree) (r : List Sym) (o : Result (List (List StmtTree) × List Sym) Fault) : Type 0 where
    pub lists : List (List StmtTree)
    pub same : joined lists ≡ list
    pub is : o ≡ Ok (lists, r)

  pub record EntriesAs (list : List StmtTree) (h : ℕ) (u : List Sym) : Type 0 where
    pub reads : (e turns d n : ℕ) (v : Sym) (r : List Sym) → h ≤ suc e → length u < turns → length u < n → AllAt d list → IsSign mark.CloseBrace v
        → Lists list (v ∷ r) (many n (is_not mark.CloseBrace) (entry clauses e turns d) (u ++ (v ∷ r)))

  -- ---- statements

  stmt_levels : (s : StmtTree) → 0 < levels_of s
  stmt_levels (StmtTree.empty l k) = omega arith
  stmt_levels (StmtTree.block l k list) = omega arith
  stmt_levels (StmtTree.local l k t f id a) = omega arith
  stmt_levels (StmtTree.assign l k o p a) = omega arith
  stmt_levels (StmtTree.value l k a) = omega arith
  stmt_levels (StmtTree.if_only l k c a) = omega arith
  stmt_levels (StmtTree.if_else l k c a b) = omega arith
  stmt_levels (StmtTree.while_loop l k c a) = omega arith
  stmt_levels (StmtTree.do_loop l k a c) = omega arith
  stmt_levels (StmtTree.for_loop l k a c b s) = omega arith
  stmt_levels (StmtTree.break_loop l k) = omega arith
  stmt_levels (StmtTree.continue_loop l k) = omega arith
  stmt_levels (StmtTree.return_value l k a) = omega arith
  stmt_levels (StmtTree.simd l k d a) = omega arith
  stmt_levels (StmtTree.lost l k d) = omega arith

  begun_no_type : {x : List Sym} (r : List Sym) → Begun x → is_type_part (head (x ++ r)) ≡ false
  begun_no_type r b = subst (λ z. is_type_part (head (z ++ r)) ≡ false) (sym b.parts) b.no_type

  plain_stmt : {s : StmtTree} {h : ℕ} {x : List Sym} → Begun x → PlainAs s h x → StmtAs s h x
  unfolding statement
  plain_stmt {s} {h} {x} b p = record { reads = at }
    where
      at : (e turns d : ℕ) (r : List Sym) → h ≤ suc e → length x < turns → levels_of s ≤ d → Shuts s r → statement clauses e turns d (x ++ r) ≡ Ok (s, r)
      at e turns zero r hi l lv shut = absurd (omega (arith, lv, stmt_levels s))
      at e turns (suc d) r hi l lv shut = plain_one clauses e d turns (statement clauses e turns d) (entry clauses e turns d) (x ++ r) r (begun_no_type r b) (p.reads e turns d r hi l lv shut)

  plain_is_entry : {s : StmtTree} {h : ℕ} {x : List Sym} → Begun x → PlainAs s h x → EntryAs (s ∷ []) h x
  unfolding statement
  plain_is_entry {s} {h} {x} b p = record { reads = at }
    where
      at : (e turns d : ℕ) (r : List Sym) → h ≤ suc e → length x < turns → AllAt d (s ∷ []) → is_keyword keyword.Else (head r) ≡ false → entry clauses e turns d (x ++ r) ≡ Ok (s ∷ [], r)
      at e turns zero r hi l lv n = absurd (omega (arith, lv, stmt_levels s))
      at e turns (suc d) r hi l lv n = plain_entry_reads clauses e d turns (statement clauses e turns d) (entry clauses e turns d) (x ++ r) r (begun_no_type r b) (p.reads e turns d r hi l (omega (arith, lv)) (λ i. n))

  -- where there is no room for a second level
  no_room : (d : ℕ) (s : StmtTree) → levels_of s ≤ suc d → nat_lt 0 d ≡ false → levels_of s ≤ 1
  no_room zero s i e = i
  no_room (suc d) s i e = absurd (true≢false (sym (le-leb 1 (suc d) (omega arith)) ∙ e))

  no_room_below : (d : ℕ) (s : StmtTree) → levels_of s ≤ d → nat_lt 1 d ≡ false → levels_of s ≤ 1
  no_room_below zero s i e = omega (arith, i)
  no_room_below (suc zero) s i e = i
  no_room_below (suc (suc d)) s i e = absurd (true≢false (sym (le-leb 2 (suc (suc d)) (omega arith)) ∙ e))

  locals_stmt_reads : {list : List StmtTree} {h : ℕ} {x : List Sym} → AreLocals list h x → StmtAs (single (line_at x) (number_at x) list) h x
  unfolding statement
  locals_stmt_reads {list} {h} {x} a = record { reads = at }
    where
      at : (e turns d : ℕ) (r : List Sym) → h ≤ suc e → length x < turns → levels_of (single (line_at x) (number_at x) list) ≤ d → Shuts (single (line_at x) (number_at x) list) r
          → statement clauses e turns d (x ++ r) ≡ Ok (single (line_at x) (number_at x) list, r)
      at e turns zero r hi l lv shut = absurd (omega (arith, lv, stmt_levels (single (line_at x) (number_at x) list)))
      at e turns (suc d) r hi l lv shut = locals_one clauses e d turns (statement clauses e turns d) (entry clauses e turns d) (x ++ r) r (locals_type r a)
          (one_locals_read e turns (nat_lt 0 d) r a (alone_by (nat_lt 0 d) (line_at x) (number_at x) a (no_room d (single (line_at x) (number_at x) list) lv)) hi l)

  locals_entry_read : {list : List StmtTree} {h : ℕ} {x : List Sym} → AreLocals list h x → EntryAs list h x
  unfolding statement
  locals_entry_read {list} {h} {x} a = record { reads = at }
    where
      at : (e turns d : ℕ) (r : List Sym) → h ≤ suc e → length x < turns → AllAt d list → is_keyword keyword.Else (head r) ≡ false → entry clauses e turns d (x ++ r) ≡ Ok (list, r)
      at e turns zero r hi l lv n = absurd (omega (arith, lv, locals_levels a))
      at e turns (suc d) r hi l lv n = locals_entry_reads clauses e d turns (statement clauses e turns d) (entry clauses e turns d) (x ++ r) r (locals_type r a) (locals_read e turns true r a (room_alone a) hi l)

  first_reads : {a : StmtTree} {h : ℕ} {x : List Sym} (e turns d : ℕ) (sub : Parser StmtTree) (sub_entry : Parser (List StmtTree)) (r : List Sym) → IsFirst a h x → h ≤ suc e → length x < turns → levels_of a ≤ d
      → first_part clauses e d turns sub sub_entry (x ++ r) ≡ Ok (a, r)
  first_reads e turns d sub sub_entry r (first_act {x = x} p) hi l lv = first_act_reads clauses e d turns sub sub_entry (x ++ r) r (begun_no_type r (part_begun p)) (part_reads e turns r semicolon_ends p hi l)
  first_reads e turns d sub sub_entry r (first_locals {list = list} {x = x} a) hi l lv = first_locals_read clauses e d turns sub sub_entry (x ++ r) r (locals_type r a)
      (one_locals_read e turns (nat_lt 1 d) r a (alone_by (nat_lt 1 d) (line_at x) (number_at x) a (no_room_below d (single (line_at x) (number_at x) list) lv)) hi l)

  -- ---- one statement in another

  part_as : {s : StmtTree} {h : ℕ} {x : List Sym} → IsPart mark.Semicolon s h x → PlainAs s h x
  part_as p = record { reads = λ e turns d r hi l lv shut. part_part clauses e d turns (statement clauses e turns d) (entry clauses e turns d) r p ∙ part_reads e turns r semicolon_ends p hi l }

  block_as : {u : Sym} {list : List StmtTree} {h : ℕ} {x : List Sym} {v : Sym} → IsSign mark.OpenBrace u → EntriesAs list h x → IsSign mark.CloseBrace v → PlainAs (StmtTree.block u.line u.at (stmts_in list)) h (u ∷ (x ++ (v ∷ [])))
  block_as {u} {list} {h} {x} {v} i d j = record { reads = at }
    where
      at : (e turns n : ℕ) (r : List Sym) → h ≤ suc e → length (u ∷ (x ++ (v ∷ []))) < turns → levels_of (StmtTree.block u.line u.at (stmts_in list)) ≤ suc n → Shuts (StmtTree.block u.line u.at (stmts_in list)) r
          → plain clauses e n turns (statement clauses e turns n) (entry clauses e turns n) (u ∷ ((x ++ (v ∷ [])) ++ r)) ≡ Ok (StmtTree.block u.line u.at (stmts_in list), r)
      at e turns n r hi l lv shut = let lx : length x < turns = omega (arith, l, length-append x (v ∷ [])) in
          let m = d.reads e turns n turns v r hi lx lx (omega (arith, lv)) j in
          ap (λ z. plain clauses e n turns (statement clauses e turns n) (entry clauses e turns n) (u ∷ z)) (append_assoc x (v ∷ []) r)
          ∙ block_reads clauses e n turns (statement clauses e turns n) (entry clauses e turns n) (x ++ (v ∷ r)) r i m.is j
          ∙ ap (λ z. Ok (StmtTree.block u.line u.at (stmts_in z), r)) m.same

  if_as : {t : Sym} {c : Tree} {h : ℕ} {x : List Sym} {s : StmtTree} {k : ℕ} {y : List Sym} → IsKeyword keyword.If t → InParens c h x → StmtAs s k y → PlainAs (StmtTree.if_only t.line t.at c s) (max h k) (t ∷ (x ++ y))
  if_as {t} {c} {h} {x} {s} {k} {y} i p a = record { reads = at }
    where
      at : (e turns d : ℕ) (r : List Sym) → max h k ≤ suc e → length (t ∷ (x ++ y)) < turns → suc (levels_of s) ≤ suc d → Shuts (StmtTree.if_only t.line t.at c s) r
          → plain clauses e d turns (statement clauses e turns d) (entry clauses e turns d) (t ∷ ((x ++ y) ++ r)) ≡ Ok (StmtTree.if_only t.line t.at c s, r)
      at e turns d r hi l lv shut = ap (λ z. plain clauses e d turns (statement clauses e turns d) (entry clauses e turns d) (t ∷ z)) (append_assoc x y r)
          ∙ if_reads clauses e d turns (statement clauses e turns d) (entry clauses e turns d) (x ++ (y ++ r)) (y ++ r) r i (omega (arith, lv, stmt_levels s))
          (condition_reads e turns (y ++ r) p (omega (arith, hi)) (omega (arith, l, length-append x y))) (a.reads e turns d r (omega (arith, hi)) (omega (arith, l, length-append x y)) (omega (arith, lv)) (λ _. shut refl)) (shut refl)

  while_as : {t : Sym} {c : Tree} {h : ℕ} {x : List Sym} {s : StmtTree} {k : ℕ} {y : List Sym} → IsKeyword keyword.While t → InParens c h x → StmtAs s k y → PlainAs (StmtTree.while_loop t.line t.at c s) (max h k) (t ∷ (x ++ y))
  while_as {t} {c} {h} {x} {s} {k} {y} i p a = record { reads = at }
    where
      at : (e turns d : ℕ) (r : List Sym) → max h k ≤ suc e → length (t ∷ (x ++ y)) < turns → suc (levels_of s) ≤ suc d → Shuts s r
          → plain clauses e d turns (statement clauses e turns d) (entry clauses e turns d) (t ∷ ((x ++ y) ++ r)) ≡ Ok (StmtTree.while_loop t.line t.at c s, r)
      at e turns d r hi l lv shut = ap (λ z. plain clauses e d turns (statement clauses e turns d) (entry clauses e turns d) (t ∷ z)) (append_assoc x y r)
          ∙ while_reads clauses e d turns (statement clauses e turns d) (entry clauses e turns d) (x ++ (y ++ r)) (y ++ r) r i (omega (arith, lv, stmt_levels s))
          (condition_reads e turns (y ++ r) p (omega (arith, hi)) (omega (arith, l, length-append x y))) (a.reads e turns d r (omega (arith, hi)) (omega (arith, l, length-append x y)) (omega (arith, lv)) shut)

  else_as : {t : Sym} {c : Tree} {h : ℕ} {x : List Sym} {s : StmtTree} {k : ℕ} {y : List Sym} {u : Sym} {other : StmtTree} {m : ℕ} {z : List Sym} → IsKeyword keyword.If t → InParens c h x → StmtAs s k y → is_open s ≡ false
      → IsKeyword keyword.Else u → StmtAs other m z → PlainAs (StmtTree.if_else t.line t.at c s other) (max h (max k m)) (t ∷ (x ++ (y ++ (u ∷ z))))
  else_as {t} {c} {h} {x} {s} {k} {y} {u} {other} {m} {z} i p a closed j b = record { reads = at }
    where
      at : (e turns d : ℕ) (r : List Sym) → max h (max k m) ≤ suc e → length (t ∷ (x ++ (y ++ (u ∷ z)))) < turns → suc (max (levels_of s) (levels_of other)) ≤ suc d → Shuts other r
          → plain clauses e d turns (statement clauses e turns d) (entry clauses e turns d) (t ∷ ((x ++ (y ++ (u ∷ z))) ++ r)) ≡ Ok (StmtTree.if_else t.line t.at c s other, r)
      at e turns d r hi l lv shut = let size : length y + suc (length z) < turns = omega (arith, l, length-append x (y ++ (u ∷ z)), length-append y (u ∷ z)) in
          ap (λ q. plain clauses e d turns (statement clauses e turns d) (entry clauses e turns d) (t ∷ q)) (append_assoc x (y ++ (u ∷ z)) r ∙ ap (λ q. x ++ q) (append_assoc y (u ∷ z) r))
          ∙ else_reads clauses e d turns (statement clauses e turns d) (entry clauses e turns d) (x ++ (y ++ (u ∷ (z ++ r)))) (y ++ (u ∷ (z ++ r))) (z ++ r) r i (omega (arith, lv, stmt_levels s))
          (condition_reads e turns (y ++ (u ∷ (z ++ r))) p (omega (arith, hi)) (omega (arith, l, length-append x (y ++ (u ∷ z)))))
          (a.reads e turns d (u ∷ (z ++ r)) (omega (arith, hi)) (omega (arith, size)) (omega (arith, lv)) (λ o. absurd (true≢false (sym o ∙ closed)))) j
          (b.reads e turns d r (omega (arith, hi)) (omega (arith, size)) (omega (arith, lv)) shut)

  do_stmt_as : {t : Sym} {s : StmtTree} {h : ℕ} {x : List Sym} {u : Sym} {c : Tree} {k : ℕ} {y : List Sym} {v : Sym} → IsKeyword keyword.Do t → StmtAs s h x → IsKeyword keyword.While u → InParens c k y → IsSign mark.Semicolon v
      → PlainAs (StmtTree.do_loop t.line t.at s c) (max h k) (t ∷ (x ++ (u ∷ (y ++ (v ∷ [])))))
  do_stmt_as {t} {s} {h} {x} {u} {c} {k} {y} {v} i a j p shuts = record { reads = at }
    where
      at : (e turns d : ℕ) (r : List Sym) → max h k ≤ suc e → length (t ∷ (x ++ (u ∷ (y ++ (v ∷ []))))) < turns → suc (levels_of s) ≤ suc d → Shuts (StmtTree.do_loop t.line t.at s c) r
          → plain clauses e d turns (statement clauses e turns d) (entry clauses e turns d) (t ∷ ((x ++ (u ∷ (y ++ (v ∷ [])))) ++ r)) ≡ Ok (StmtTree.do_loop t.line t.at s c, r)
      at e turns d r hi l lv shut = let size : length x + suc (length y) < turns = omega (arith, l, length-append x (u ∷ (y ++ (v ∷ []))), length-append y (v ∷ [])) in
          ap (λ q. plain clauses e d turns (statement clauses e turns d) (entry clauses e turns d) (t ∷ q)) (append_assoc x (u ∷ (y ++ (v ∷ []))) r ∙ ap (λ q. x ++ (u ∷ q)) (append_assoc y (v ∷ []) r))
          ∙ do_reads clauses e d turns (statement clauses e turns d) (entry clauses e turns d) (x ++ (u ∷ (y ++ (v ∷ r)))) (y ++ (v ∷ r)) r i (omega (arith, lv, stmt_levels s))
          (a.reads e turns d (u ∷ (y ++ (v ∷ r))) (omega (arith, hi)) (omega (arith, size)) (omega (arith, lv)) (λ _. while_no_else j)) j
          (condition_reads e turns (v ∷ r) p (omega (arith, hi)) (omega (arith, size))) shuts

  for_stmt_as : {t u : Sym} {a : StmtTree} {h : ℕ} {x : List Sym} {c : Option Tree} {k : ℕ} {y : List Sym} {b : StmtTree} {m : ℕ} {z : List Sym} {s : StmtTree} {n : ℕ} {q : List Sym} → IsKeyword keyword.For t → IsSign mark.OpenParen u
      → IsFirst a h x → IsOptional mark.Semicolon c k y → IsPart mark.CloseParen b m z → StmtAs s n q → PlainAs (StmtTree.for_loop t.line t.at a c b s) (max h (max k (max m n))) (t ∷ (u ∷ (x ++ (y ++ (z ++ q)))))
  for_stmt_as {t} {u} {a} {h} {x} {c} {k} {y} {b} {m} {z} {s} {n} {q} i j f o p body = record { reads = at }
    where
      at : (e turns d : ℕ) (r : List Sym) → max h (max k (max m n)) ≤ suc e → length (t ∷ (u ∷ (x ++ (y ++ (z ++ q))))) < turns → suc (max (levels_of a) (max (levels_of b) (levels_of s))) ≤ suc d → Shuts s r
          → plain clauses e d turns (statement clauses e turns d) (entry clauses e turns d) (t ∷ (u ∷ ((x ++ (y ++ (z ++ q))) ++ r))) ≡ Ok (StmtTree.for_loop t.line t.at a c b s, r)
      at e turns d r hi l lv shut = let size : length x + (length y + (length z + length q)) < turns = omega (arith, l, length-append x (y ++ (z ++ q)), length-append y (z ++ q), length-append z q) in
          ap (λ w. plain clauses e d turns (statement clauses e turns d) (entry clauses e turns d) (t ∷ (u ∷ w))) (append_assoc x (y ++ (z ++ q)) r ∙ ap (λ w. x ++ w) (append_assoc y (z ++ q) r ∙ ap (λ w. y ++ w) (append_assoc z q r)))
          ∙ for_reads clauses e d turns (statement clauses e turns d) (entry clauses e turns d) (x ++ (y ++ (z ++ (q ++ r)))) (y ++ (z ++ (q ++ r))) (z ++ (q ++ r)) (q ++ r) r i (omega (arith, lv, stmt_levels s)) j
          (first_reads e turns d (statement clauses e turns d) (entry clauses e turns d) (y ++ (z ++ (q ++ r))) f (omega (arith, hi)) (omega (arith, size)) (omega (arith, lv)))
          (optional_reads e turns (z ++ (q ++ r)) semicolon_ends o (omega (arith, hi)) (omega (arith, size)))
          (part_reads e turns (q ++ r) paren_ends p (omega (arith, hi)) (omega (arith, size))) (body.reads e turns d r (omega (arith, hi)) (omega (arith, size)) (omega (arith, lv)) shut)

  simd_as : {n : ℕ} {t : Sym} {s : StmtTree} {h : ℕ} {x : List Sym} → Is (kind.Simd n) t → StmtAs s h x → PlainAs (StmtTree.simd t.line t.at (directive_at clauses t n) s) h (t ∷ x)
  simd_as {n} {t} {s} {h} {x} i a = record {
    reads = λ e turns d r hi l lv shut. simd_reads clauses e d turns (statement clauses e turns d) (entry clauses e turns d) (x ++ r) r i (omega (arith, lv, stmt_levels s))
        (a.reads e turns d r hi (omega (arith, l)) (omega (arith, lv)) shut);
  }

  return_as : {t : Sym} {c : Option Tree} {h : ℕ} {x : List Sym} → IsKeyword keyword.Return t → IsOptional mark.Semicolon c h x → PlainAs (StmtTree.return_value t.line t.at c) h (t ∷ x)
  return_as {x = x} i o = record { reads = λ e turns d r hi l lv shut. return_reads clauses e d turns (statement clauses e turns d) (entry clauses e turns d) (x ++ r) r i (optional_reads e turns r semicolon_ends o hi (omega (arith, l))) }

  no_entries_read : EntriesAs [] 0 []
  no_entries_read = record { reads = at }
    where
      at : (e turns d n : ℕ) (v : Sym) (r : List Sym) → 0 ≤ suc e → 0 < turns → 0 < n → AllAt d [] → IsSign mark.CloseBrace v → Lists [] (v ∷ r) (many n (is_not mark.CloseBrace) (entry clauses e turns d) (v ∷ r))
      at e turns d zero v r hi l i lv j = absurd (omega (arith, i))
      at e turns d (suc n) v r hi l i lv j = record { lists = []; same = refl; is = Equations.many_end (is_not mark.CloseBrace) (entry clauses e turns d) n (v ∷ r) (rw (sign_is j) refl) }

  all_apart : (d : ℕ) (a b : List StmtTree) → AllAt d (a ++ b) → AllAt d a × AllAt d b
  all_apart d [] b i = (omega arith, i)
  all_apart d (s ∷ a) b i = let rest = all_apart d a b (omega (arith, i)) in (omega (arith, i, rest.0), rest.1)

  more_entries_read : {list : List StmtTree} {h : ℕ} {rest : List StmtTree} {k : ℕ} {x y : List Sym} → IsEntry clauses list h x → EntryAs list h x → AreEntries clauses rest k y → EntriesAs rest k y
      → EntriesAs (list ++ rest) (max h k) (x ++ y)
  more_entries_read {list} {h} {rest} {k} {x} {y} d first others more_ = record { reads = at }
    where
      step : (e turns n m : ℕ) (v : Sym) (r : List Sym) → entry clauses e turns n (x ++ (y ++ (v ∷ r))) ≡ Ok (list, y ++ (v ∷ r)) → Lists rest (v ∷ r) (many m (is_not mark.CloseBrace) (entry clauses e turns n) (y ++ (v ∷ r)))
          → Lists (list ++ rest) (v ∷ r) (many (suc m) (is_not mark.CloseBrace) (entry clauses e turns n) ((x ++ y) ++ (v ∷ r)))
      step e turns n m v r a g = record {
        lists = list ∷ g.lists;
        same = ap (λ z. list ++ z) g.same;
        is = ap (many (suc m) (is_not mark.CloseBrace) (entry clauses e turns n)) (append_assoc x y (v ∷ r))
            ∙ Equations.many_more (is_not mark.CloseBrace) (entry clauses e turns n) m (x ++ (y ++ (v ∷ r))) (y ++ (v ∷ r)) (v ∷ r) (entry_no_brace (y ++ (v ∷ r)) d) a g.is;
      }

      at : (e turns n m : ℕ) (v : Sym) (r : List Sym) → max h k ≤ suc e → length (x ++ y) < turns → length (x ++ y) < m → AllAt n (list ++ rest) → IsSign mark.CloseBrace v
          → Lists (list ++ rest) (v ∷ r) (many m (is_not mark.CloseBrace) (entry clauses e turns n) ((x ++ y) ++ (v ∷ r)))
      at e turns n zero v r hi l i lv j = absurd (omega (arith, i))
      at e turns n (suc m) v r hi l i lv j =
          let p = entry_parted d in
          let sizes : length y < length (x ++ y) = omega (arith, length-append x y, ap length p.parts) in
          let parts = all_apart n list rest lv in
          let g = more_.reads e turns n m v r (omega (arith, hi)) (omega (arith, l, sizes)) (omega (arith, i, sizes)) parts.1 j in
          step e turns n m v r (first.reads e turns n (y ++ (v ∷ r)) (omega (arith, hi)) (omega (arith, l, length-append x y)) parts.0 (entries_no_else r others j)) g

  -- ---- every text

  mutual
    whole_block : {s : StmtTree} {h : ℕ} {u : List Sym} → IsBlock clauses s h u → PlainAs s h u
    whole_block (in_braces i d j) = block_as i (whole_entries d) j

    whole_plain : {s : StmtTree} {h : ℕ} {u : List Sym} → IsPlain clauses s h u → PlainAs s h u
    whole_plain (a_block d) = whole_block d
    whole_plain (a_part p) = part_as p
    whole_plain (an_if i p a) = if_as i p (whole_stmt a)
    whole_plain (an_if_else i p a closed j b) = else_as i p (whole_stmt a) closed j (whole_stmt b)
    whole_plain (a_while i p a) = while_as i p (whole_stmt a)
    whole_plain (a_do i a j p shuts) = do_stmt_as i (whole_stmt a) j p shuts
    whole_plain (a_for i j f o p a) = for_stmt_as i j f o p (whole_stmt a)
    whole_plain (a_break i j) = record { reads = λ e turns d r hi l lv shut. break_reads clauses e d turns (statement clauses e turns d) (entry clauses e turns d) r i j }
    whole_plain (a_continue i j) = record { reads = λ e turns d r hi l lv shut. continue_reads clauses e d turns (statement clauses e turns d) (entry clauses e turns d) r i j }
    whole_plain (a_return i o) = return_as i o
    whole_plain (a_simd i a) = simd_as i (whole_stmt a)
    whole_plain (a_lost_line i) = record { reads = λ e turns d r hi l lv shut. lost_reads clauses e d turns (statement clauses e turns d) (entry clauses e turns d) r i }

    whole_stmt : {s : StmtTree} {h : ℕ} {u : List Sym} → IsStmt clauses s h u → StmtAs s h u
    whole_stmt (a_plain d) = plain_stmt (plain_begun d) (whole_plain d)
    whole_stmt (some_locals a) = locals_stmt_reads a

    whole_entry : {list : List StmtTree} {h : ℕ} {u : List Sym} → IsEntry clauses list h u → EntryAs list h u
    whole_entry (plain_entry d) = plain_is_entry (plain_begun d) (whole_plain d)
    whole_entry (locals_entry a) = locals_entry_read a

    whole_entries : {list : List StmtTree} {h : ℕ} {u : List Sym} → AreEntries clauses list h u → EntriesAs list h u
    whole_entries no_entries = no_entries_read
    whole_entries (more_entries d rest) = more_entries_read d (whole_entry d) rest (whole_entries rest)

-- Whatever the next token is, as long as it is no `else` that belongs to the statement.
pub stmt_reads : {clauses : Clauses} {s : StmtTree} {h : ℕ} {u : List Sym} → IsStmt clauses s h u → StmtAs clauses s h u
stmt_reads {clauses} d = whole_stmt clauses d

-- the block of a function
pub body_reads : {clauses : Clauses} {s : StmtTree} {h : ℕ} {u : List Sym} (e turns d : ℕ) (r : List Sym) → IsBlock clauses s h u → h ≤ suc e → length u < turns → levels_of s ≤ d → body clauses e turns d (u ++ r) ≡ Ok (s, r)
body_reads {clauses} e turns d r (in_braces {u = u} {list = list} {x = x} {v = v} i b j) hi l lv = rw (sign_is i)
    ((stmt_reads (a_plain (a_block (in_braces i b j)))).reads e turns d r hi l lv (λ o. absurd (true≢false (sym o))))
