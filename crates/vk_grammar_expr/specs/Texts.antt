-- Places in a list of tokens that no text of a grammar has. `Text` says which lists are texts.
use Rattle.std.specs.Prelude.{◌≡◌, ℕ, suc, List, [], ◌∷◌, ◌++◌, length}
use Rattle.vk_grammar_expr.specs.declared.symbols.Sym.{Sym}

-- some text begins with these tokens
abbrev pub Begins : (List Sym → Type 0) → List Sym → Type 0
Begins Text v = (x : List Sym) × Text (v ++ x)

-- no text has the first of `s` behind the tokens `v`; the end counts as a last token
abbrev pub IsDead : (List Sym → Type 0) → (v s : List Sym) → Type 0
IsDead Text v [] = Text v → ⊥
IsDead Text v (t ∷ s) = (x : List Sym) → Text (v ++ (t ∷ x)) → ⊥

-- The place of C5, of which `n` tokens are left, it included: the tokens before it begin some text, and with it none.
pub record IsPlace (Text : List Sym → Type 0) (w : List Sym) (n : ℕ) : Type 0 where
  pub before : List Sym
  pub rest : List Sym
  pub parts : w ≡ before ++ rest
  pub left : n ≡ length rest
  pub alive : Begins Text before
  pub dead : IsDead Text before rest

-- A place of C6: the tokens up to it, it included, begin some text, and none of those texts is within the limits.
pub record IsDeepPlace (Text Kept : List Sym → Type 0) (w : List Sym) (n : ℕ) : Type 0 where
  pub before : List Sym
  pub at : Sym
  pub rest : List Sym
  pub parts : w ≡ before ++ (at ∷ rest)
  pub left : n ≡ suc (length rest)
  pub alive : Begins Text (before ++ (at ∷ []))
  pub deep : (x : List Sym) → Kept (before ++ (at ∷ x)) → ⊥
