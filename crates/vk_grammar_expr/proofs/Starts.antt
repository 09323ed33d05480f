-- How texts of expressions begin, and the shortest of them.
use Rattle.std.proofs.Common.{◌≡◌, ℕ, zero, suc, true, List, [], ◌∷◌, ◌++◌, Some, refl, sym, ap, subst, true≢false}
use Rattle.vk_types.specs.declared.types.Ty.TheVariants.{I32}
use Rattle.vk_ast.specs.Tree.{Tree}
use Rattle.vk_tokens.specs.declared.tokens.Mark.{Mark}
use Rattle.vk_tokens.specs.declared.tokens.Mark.TheVariants as mark
use Rattle.vk_grammar_expr.specs.declared.symbols.Sym.{Sym}
use Rattle.vk_grammar_expr.specs.declared.symbols.SymKind.{SymKind}
use Rattle.vk_grammar_expr.specs.declared.symbols.SymKind.TheVariants as kind
use Rattle.vk_grammar_expr.specs.declared.symbols.Prefix.{Prefix}
use Rattle.vk_grammar_expr.specs.declared.symbols.Prefix.TheVariants as prefix
use Rattle.vk_ast.specs.declared.expressions.UnOp.TheVariants as sign
use Rattle.vk_grammar_expr.specs.Symbols.{Is, IsSign, prefix_at, prefix_of, IsPrefix, is_start}
use Rattle.vk_grammar_expr.specs.Grammar.{Tall, tall, Sort, level, full, Spells, IsPost, prefixed, a_prefix, a_cast, a_post, lower, a_binary, plain, a_choice, an_int, a_name, a_call, a_group, an_index}
use Rattle.vk_grammar_expr.proofs.Signs.{sign_of, sign_of_is}
use Rattle.vk_grammar_expr.proofs.Steps.{Goes, goes}

-- ---- first tokens

pub record Starts (x : List Sym) : Type 0 where
  pub first : Sym
  pub others : List Sym
  pub parts : x ≡ first ∷ others
  pub begins : is_start (Some first.kind) ≡ true

sign_begins : (m : Mark) (p : Prefix) → prefix_of m ≡ Some p → is_start (Some (kind.Sign m)) ≡ true
unfolding prefix_of is_start
sign_begins mark.Star p e = refl
sign_begins mark.Ampersand p e = refl
sign_begins mark.Plus p e = refl
sign_begins mark.Minus p e = refl
sign_begins mark.Tilde p e = refl
sign_begins mark.Bang p e = refl
sign_begins _ p e = cc

pub prefix_begins : (k : SymKind) (p : Prefix) → prefix_at (Some k) ≡ Some p → is_start (Some k) ≡ true
unfolding prefix_at
prefix_begins (kind.Sign m) p e = sign_begins m p e
prefix_begins _ p e = cc

starts_with : {k : SymKind} {t : Sym} (rest : List Sym) → Is k t → is_start (Some k) ≡ true → Starts (t ∷ rest)
starts_with {t} rest i b = record { first = t; others = rest; parts = refl; begins = subst (λ z. is_start (Some z) ≡ true) (sym i.is) b }

more_starts : {x : List Sym} (y : List Sym) → Starts x → Starts (x ++ y)
more_starts y s = record { first = s.first; others = s.others ++ y; parts = ap (λ z. z ++ y) s.parts; begins = s.begins }

mutual
  unfolding is_start

  pub spelled_starts : {s : Sort} {e : Tree} {h : ℕ} {x : List Sym} → Spells s e h x → Starts x
  spelled_starts (a_prefix {p = p} {t = t} {x = x} i d) = record { first = t; others = x; parts = refl; begins = prefix_begins t.kind p i.is }
  spelled_starts (a_cast i c v d) = starts_with _ i refl
  spelled_starts (a_post d) = post_starts d
  spelled_starts (lower d) = spelled_starts d
  spelled_starts (a_binary {t = t} {y = y} d o b) = more_starts (t ∷ y) (spelled_starts d)
  spelled_starts (plain d) = spelled_starts d
  spelled_starts (a_choice {u = u} {y = y} {v = v} {z = z} d i a j b) = more_starts (u ∷ (y ++ (v ∷ z))) (spelled_starts d)

  pub post_starts : {e : Tree} {h : ℕ} {x : List Sym} → IsPost e h x → Starts x
  post_starts (an_int i) = starts_with [] i refl
  post_starts (a_name i) = starts_with [] i refl
  post_starts (a_call i u args v) = starts_with _ i refl
  post_starts (a_group u d v) = starts_with _ u refl
  post_starts (an_index {u = u} {y = y} {v = v} d i s j) = more_starts (u ∷ (y ++ (v ∷ []))) (post_starts d)

-- ---- the text `0`

abbrev pub zero_sym : Sym
zero_sym = record { line = 0; at = 0; kind = kind.Int I32 0 }

abbrev pub zero_tree : Tree
zero_tree = Tree.int 0 0 I32 0

abbrev pub zero_tall : Tall
zero_tall = tall zero_tree 1

pub zero_post : IsPost zero_tree 1 (zero_sym ∷ [])
zero_post = an_int (record { is = refl })

pub at_level : (n : ℕ) {e : Tree} {h : ℕ} {x : List Sym} → Spells (level 0) e h x → Spells (level n) e h x
at_level zero d = d
at_level (suc n) d = lower (at_level n d)

pub in_sort : (s : Sort) {e : Tree} {h : ℕ} {x : List Sym} → Spells (level 0) e h x → Spells s e h x
in_sort (level n) d = at_level n d
in_sort full d = plain (at_level 10 d)

pub zero_spelled : (s : Sort) → Spells s zero_tree 1 (zero_sym ∷ [])
zero_spelled s = in_sort s (a_post zero_post)

-- ---- each first token begins an expression

-- a tree and its height spelled so
abbrev pub Spelled : Sort → Tall → List Sym → Type 0
Spelled s e u = Spells s e.tree e.height u

abbrev pub Posted : Tall → List Sym → Type 0
Posted e u = IsPost e.tree e.height u

pub prefix_goes : (t : Sym) (p : Prefix) → IsPrefix p t → Goes (Spelled (level 0)) (t ∷ [])
prefix_goes t p i = goes (zero_sym ∷ []) (tall (prefixed p t.line t.at zero_tree) 2) (a_prefix i (zero_spelled (level 0)))

mark_goes : (t : Sym) (m : Mark) (p : Prefix) → prefix_of m ≡ Some p → t.kind ≡ kind.Sign m → Goes (Spelled (level 0)) (t ∷ [])
unfolding prefix_at
mark_goes t m p e i = prefix_goes t p (record { is = subst (λ k. prefix_at (Some k) ≡ Some p) (sym i) e })

pub paren_goes : (t : Sym) → IsSign mark.OpenParen t → Goes (Spelled (level 0)) (t ∷ [])
paren_goes t i = goes (zero_sym ∷ (sign_of mark.CloseParen ∷ [])) (tall zero_tree 2) (a_post (a_group i (zero_spelled full) sign_of_is))

sign_goes : (t : Sym) (m : Mark) → t.kind ≡ kind.Sign m → is_start (Some (kind.Sign m)) ≡ true → Goes (Spelled (level 0)) (t ∷ [])
unfolding is_start prefix_of
sign_goes t mark.OpenParen i e = paren_goes t (record { is = i })
sign_goes t mark.Star i e = mark_goes t mark.Star prefix.Deref refl i
sign_goes t mark.Ampersand i e = mark_goes t mark.Ampersand prefix.Addr refl i
sign_goes t mark.Plus i e = mark_goes t mark.Plus (prefix.Unary sign.Plus) refl i
sign_goes t mark.Minus i e = mark_goes t mark.Minus (prefix.Unary sign.Neg) refl i
sign_goes t mark.Tilde i e = mark_goes t mark.Tilde (prefix.Unary sign.Not) refl i
sign_goes t mark.Bang i e = mark_goes t mark.Bang (prefix.Unary sign.LogNot) refl i
sign_goes t _ i e = absurd (true≢false (sym e))

kind_goes : (t : Sym) (k : SymKind) → t.kind ≡ k → is_start (Some k) ≡ true → Goes (Spelled (level 0)) (t ∷ [])
unfolding is_start
kind_goes t (kind.Int ty n) i e = goes [] (tall (Tree.int t.line t.at ty n) 1) (a_post (an_int (record { is = i })))
kind_goes t (kind.Name id) i e = goes [] (tall (Tree.name t.line t.at id) 1) (a_post (a_name (record { is = i })))
kind_goes t (kind.Sign m) i e = sign_goes t m i e
kind_goes t _ i e = absurd (true≢false (sym e))

pub start_goes : (s : Sort) (t : Sym) → is_start (Some t.kind) ≡ true → Goes (Spelled s) (t ∷ [])
start_goes s t e = let g : Goes (Spelled (level 0)) (t ∷ []) = kind_goes t t.kind refl e in goes g.after g.value (in_sort s g.is)
