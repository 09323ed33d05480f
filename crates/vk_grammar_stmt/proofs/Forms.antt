-- The forms of statements with their texts grouped to the left, as they are read.
use Rattle.std.proofs.Common.{◌≡◌, ℕ, max, Bool, true, false, List, [], ◌∷◌, ◌++◌, Option, Some, None, refl, sym, ap, ◌∙◌, subst, append_assoc, true≢false}
use Rattle.vk_types.specs.declared.types.Ty.{Ty}
use Rattle.vk_ast.specs.declared.names.NameId.{NameId}
use Rattle.vk_ast.specs.declared.expressions.BinOp.{BinOp}
use Rattle.vk_ast.specs.Tree.{Tree}
use Rattle.vk_ast.specs.Statements.{StmtTree}
use Rattle.vk_tokens.specs.declared.tokens.Mark.{Mark}
use Rattle.vk_tokens.specs.declared.tokens.Mark.TheVariants as mark
use Rattle.vk_grammar_expr.specs.declared.symbols.Sym.{Sym}
use Rattle.vk_grammar_expr.specs.declared.symbols.SymKind.TheVariants as kind
use Rattle.vk_grammar_expr.specs.declared.symbols.Keyword.TheVariants as keyword
use Rattle.vk_grammar_expr.specs.Symbols.{line_at, number_at, Is, IsSign}
use Rattle.vk_grammar_expr.specs.Types.{IsType, type_in, AreTypeParts, no_parts, a_part, words_of, has_words}
use Rattle.vk_grammar_expr.specs.Grammar.{level, full, Spells}
use Rattle.vk_grammar_expr.proofs.Starts.{Starts, spelled_starts}
use Rattle.vk_grammar_expr.proofs.Sound.{IsTypeText}
use Rattle.vk_grammar_stmt.specs.Words.{IsKeyword, has_const, IsAssign}
use Rattle.vk_grammar_stmt.specs.Trees.{Clauses, single, is_open}
use Rattle.vk_grammar_stmt.specs.Grammar
use Rattle.vk_grammar_stmt.specs.Grammar.{InParens, IsOptional, IsAct, an_assignment, a_step_before, a_step_behind, a_value, IsPart, no_act, an_act, IsNamed, bare, with_value, AreNamed, more_named, AreLocals, IsFirst, first_locals, IsBlock, in_braces, IsPlain, a_block, a_part, an_if, an_if_else, a_while, a_do, a_for, a_break, a_continue, a_return, a_simd, a_lost_line, IsStmt, a_plain, some_locals, IsEntry, plain_entry, locals_entry}
use Rattle.vk_grammar_stmt.proofs.Signs.{as_text, Parted}

pub an_assign : {t : Sym} {x : List Sym} {p a : Tree} {h k : ℕ} {o : Option BinOp} {u : Sym} {y : List Sym} → Spells (level 0) p h (t ∷ x) → IsAssign o u → Spells full a k y
    → IsAct (StmtTree.assign t.line t.at o p a) (max h k) (((t ∷ x) ++ (u ∷ [])) ++ y)
an_assign {t} {x} {u = u} {y = y} s i s2 = as_text IsAct (sym (append_assoc (t ∷ x) (u ∷ []) y)) (an_assignment s i s2)

-- ---- declarations

-- what may stand behind a name
pub data IsInitial : Option Tree → ℕ → List Sym → Type 0 where
  not_initial : IsInitial None 0 []
  an_initial : {t : Sym} {c : Tree} {h : ℕ} {x : List Sym} → IsSign mark.Assign t → Spells full c h x → IsInitial (Some c) h (t ∷ x)

pub initialised : {ty : Ty} {fixed : Bool} {id : NameId} {t : Sym} {c : Option Tree} {h : ℕ} {x : List Sym} → Is (kind.Name id) t → IsInitial c h x
    → IsNamed ty fixed (StmtTree.local t.line t.at ty fixed id c) h (t ∷ x)
initialised i not_initial = bare i
initialised i (an_initial is s) = with_value i is s

-- a name behind a comma
pub data IsLater (ty : Ty) (fixed : Bool) : StmtTree → ℕ → List Sym → Type 0 where
  later : {t : Sym} {s : StmtTree} {h : ℕ} {x : List Sym} → IsSign mark.Comma t → IsNamed ty fixed s h x → IsLater ty fixed s h (t ∷ x)

pub later_joined : {ty : Ty} {fixed : Bool} {s : StmtTree} {h : ℕ} {list : List StmtTree} {k : ℕ} {x y : List Sym} → IsLater ty fixed s h x → AreNamed ty fixed list k y → AreNamed ty fixed (s ∷ list) (max h k) (x ++ y)
later_joined (later is d) b = more_named is d b

pub data AreNames (ty : Ty) (fixed : Bool) : List StmtTree → ℕ → List Sym → Type 0 where
  names : {s : StmtTree} {h : ℕ} {list : List StmtTree} {k : ℕ} {x y : List Sym} → IsNamed ty fixed s h x → AreNamed ty fixed list k y → AreNames ty fixed (s ∷ list) (max h k) (x ++ y)

pub declared : {c v : List Sym} {list : List StmtTree} {h : ℕ} {x : List Sym} {z : Sym} → IsTypeText c v → AreNames (type_in c) (has_const c) list h x → IsSign mark.Semicolon z
    → AreLocals list h ((v ++ x) ++ (z ∷ []))
declared {c} {v} {list} {h} {x} {z} text d shuts = go (subst (λ q. AreNames (type_in q) (has_const q) list h x) text.same d)
  where
    go : {h : ℕ} {list : List StmtTree} {x : List Sym} → AreNames (type_in v) (has_const v) list h x → AreLocals list h ((v ++ x) ++ (z ∷ []))
    go (names {x = x} {y = y} n l) = as_text AreLocals (ap (λ q. v ++ q) (sym (append_assoc x y (z ∷ []))) ∙ sym (append_assoc v (x ++ y) (z ∷ []))) (Grammar.locals text.type n l shuts)

pub type_parted : {c : List Sym} (y : List Sym) → IsType c → Parted (c ++ y)
unfolding words_of
type_parted y t = go t.parts t.has
  where
    go : {c : List Sym} → AreTypeParts c → has_words (words_of c) ≡ true → Parted (c ++ y)
    go no_parts h = absurd (true≢false (sym h))
    go (a_part {t = t} {rest = rest} p d) h = record { first = t; others = rest ++ y; parts = refl }

pub locals_parted : {list : List StmtTree} {h : ℕ} {x : List Sym} → AreLocals list h x → Parted x
locals_parted (Grammar.locals {x = x} {y = y} {v = v} type n l shuts) = type_parted (x ++ (y ++ (v ∷ []))) type

-- a declaration where one statement is wanted
pub data AreOne : StmtTree → ℕ → List Sym → Type 0 where
  one_of : {list : List StmtTree} {h : ℕ} {x : List Sym} → AreLocals list h x → AreOne (single (line_at x) (number_at x) list) h x

pub locals_stmt : {clauses : Clauses} {s : StmtTree} {h : ℕ} {x : List Sym} → AreOne s h x → IsStmt clauses s h x
locals_stmt (one_of d) = some_locals d

pub locals_first : {s : StmtTree} {h : ℕ} {x : List Sym} → AreOne s h x → IsFirst s h x
locals_first (one_of d) = first_locals d

-- ---- statements with others in them

module _ {clauses : Clauses} where
  pub an_else : {t : Sym} {c : Tree} {h : ℕ} {x : List Sym} {s : StmtTree} {k : ℕ} {y : List Sym} {u : Sym} {other : StmtTree} {m : ℕ} {z : List Sym}
      → IsKeyword keyword.If t → InParens c h x → IsStmt clauses s k y → is_open s ≡ false → IsKeyword keyword.Else u → IsStmt clauses other m z
      → IsPlain clauses (StmtTree.if_else t.line t.at c s other) (max h (max k m)) (t ∷ (((x ++ y) ++ (u ∷ [])) ++ z))
  an_else {t} {x = x} {y = y} {u = u} {z = z} i p a shut j b =
      as_text (IsPlain clauses) (ap (λ q. t ∷ q) (sym (append_assoc (x ++ y) (u ∷ []) z ∙ append_assoc x y (u ∷ z)))) (an_if_else i p a shut j b)

  pub do_as : {t : Sym} {s : StmtTree} {h : ℕ} {x : List Sym} {u : Sym} {c : Tree} {k : ℕ} {y : List Sym} {v : Sym} → IsKeyword keyword.Do t → IsStmt clauses s h x
      → IsKeyword keyword.While u → InParens c k y → IsSign mark.Semicolon v
      → IsPlain clauses (StmtTree.do_loop t.line t.at s c) (max h k) (t ∷ (((x ++ (u ∷ [])) ++ y) ++ (v ∷ [])))
  do_as {t} {x = x} {u = u} {y = y} {v = v} i a j p shuts =
      as_text (IsPlain clauses) (ap (λ q. t ∷ q) (sym (append_assoc (x ++ (u ∷ [])) y (v ∷ []) ∙ append_assoc x (u ∷ []) (y ++ (v ∷ []))))) (a_do i a j p shuts)

  pub for_as : {t u : Sym} {a : StmtTree} {h : ℕ} {x : List Sym} {c : Option Tree} {k : ℕ} {y : List Sym} {b : StmtTree} {m : ℕ} {z : List Sym} {s : StmtTree} {n : ℕ} {q : List Sym}
      → IsKeyword keyword.For t → IsSign mark.OpenParen u → IsFirst a h x → IsOptional mark.Semicolon c k y → IsPart mark.CloseParen b m z → IsStmt clauses s n q
      → IsPlain clauses (StmtTree.for_loop t.line t.at a c b s) (max h (max k (max m n))) (t ∷ (u ∷ (((x ++ y) ++ z) ++ q)))
  for_as {t} {u} {x = x} {y = y} {z = z} {q = q} i opens f o p body =
      as_text (IsPlain clauses) (ap (λ v. t ∷ (u ∷ v)) (sym (append_assoc (x ++ y) z q ∙ append_assoc x y (z ++ q)))) (a_for i opens f o p body)

-- ---- no text is empty

pub starts_parted : {x : List Sym} → Starts x → Parted x
starts_parted s = record { first = s.first; others = s.others; parts = s.parts }

pub more_parted : {x : List Sym} (y : List Sym) → Parted x → Parted (x ++ y)
more_parted y p = record { first = p.first; others = p.others ++ y; parts = ap (λ z. z ++ y) p.parts }

pub act_parted : {s : StmtTree} {h : ℕ} {x : List Sym} → IsAct s h x → Parted x
act_parted (an_assignment {t = t} {y = y} d i e) = more_parted (t ∷ y) (starts_parted (spelled_starts d))
act_parted (a_step_before {t = t} {x = x} i d) = record { first = t; others = x; parts = refl }
act_parted (a_step_behind {t = t} d i) = more_parted (t ∷ []) (starts_parted (spelled_starts d))
act_parted (a_value d) = starts_parted (spelled_starts d)

pub part_parted : {m : Mark} {s : StmtTree} {h : ℕ} {x : List Sym} → IsPart m s h x → Parted x
part_parted (no_act {v = v} i) = record { first = v; others = []; parts = refl }
part_parted (an_act {v = v} a i) = more_parted (v ∷ []) (act_parted a)

abbrev begins_with : (t : Sym) (x : List Sym) → Parted (t ∷ x)
begins_with t x = record { first = t; others = x; parts = refl }

pub plain_parted : {clauses : Clauses} {s : StmtTree} {h : ℕ} {x : List Sym} → IsPlain clauses s h x → Parted x
plain_parted (a_block (in_braces {u = u} i d j)) = begins_with u _
plain_parted (a_part d) = part_parted d
plain_parted (an_if {t = t} i p d) = begins_with t _
plain_parted (an_if_else {t = t} i p d shut j b) = begins_with t _
plain_parted (a_while {t = t} i p d) = begins_with t _
plain_parted (a_do {t = t} i d j p k) = begins_with t _
plain_parted (a_for {t = t} i j f c p d) = begins_with t _
plain_parted (a_break {t = t} i j) = begins_with t _
plain_parted (a_continue {t = t} i j) = begins_with t _
plain_parted (a_return {t = t} i d) = begins_with t _
plain_parted (a_simd {t = t} i d) = begins_with t _
plain_parted (a_lost_line {t = t} i) = begins_with t _

pub entry_parted : {clauses : Clauses} {list : List StmtTree} {h : ℕ} {x : List Sym} → IsEntry clauses list h x → Parted x
entry_parted (plain_entry d) = plain_parted d
entry_parted (locals_entry d) = locals_parted d

pub stmt_parted : {clauses : Clauses} {s : StmtTree} {h : ℕ} {x : List Sym} → IsStmt clauses s h x → Parted x
stmt_parted (a_plain d) = plain_parted d
stmt_parted (some_locals d) = locals_parted d
