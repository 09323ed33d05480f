-- The bytes of a unit have one list of tokens and one table of names at most, or one first fault.
use Rattle.std.proofs.Common.{◌≡◌, ℕ, zero, suc, Bool, true, false, ◌||◌, ◌⊎◌, List, [], ◌∷◌, map, slice_get, get_or, Some, inl, inr, refl, sym, ap, ap₂, subst, ◌∙◌, arith, if◌then◌else◌}
use Rattle.std.proofs.lemmas.Bool.{cases_Bool}
use Rattle.std.proofs.lemmas.Option.{none-some, slice_get-get_or, slice_get_within}
use Rattle.std.specs.Cmp.Lexicographic.{pointwise, same_text, bytes_decides}
use Rattle.std.specs.List.{All, list_any}
use Rattle.std.specs.Option.{unwrap_or}
use Rattle.std.specs.Prelude.{nat_eq}
use Rattle.vk_ast.specs.Names.{AreDistinct}
use Rattle.vk_tokens.specs.Names.{IsNamed}
use Rattle.vk_unit_rules.specs.declared.rules.UnitRule.{UnitRule}
use Rattle.vk_tokens.specs.declared.tokens.Token.{Token}
use Rattle.vk_tokens.specs.declared.tokens.TokenKind.{TokenKind}
use Rattle.vk_tokens.specs.declared.tokens.TokenKind.TheVariants.{Name, Int, Sign, Simdfn, Simd, LineEnd}
use Rattle.vk_lex.specs.Lexing.{Lexes, Refuses, HasFault}
use Rattle.vk_lex.specs.Tables.{AreTokens, HasTokens, names_of, words_of}
use Rattle.vk_lex.specs.Tokens.{Kind, word, integer, sign, simdfn, simd, line_end, Tok, kind_of, tok_of}
use Rattle.vk_lex.proofs.Firsts.{place_of, among_firsts, firsts_distinct}
use Rattle.vk_lex.proofs.Total.{some_answer}
use Rattle.vk_lex.proofs.Loop.{lexes_only, lexes_or_refuses, refuses_only}

-- ---- the token is known by what it is, in a table of different texts

-- the place of a text
place : List ℕ → List (List ℕ) → ℕ
place text [] = 0
place text (x ∷ texts) = if pointwise nat_eq text x then 0 else suc (place text texts)

placed : (texts : List (List ℕ)) (k : ℕ) (text : List ℕ) → slice_get texts k ≡ Some text → slice_get texts (place text texts) ≡ Some text
unfolding place
placed [] k text e = absurd (none-some text e)
placed (x ∷ texts) zero text e =
    ap (λ b. slice_get (x ∷ texts) (if b then 0 else suc (place text texts))) ((bytes_decides text x).1 (sym (ap (λ o. unwrap_or o text) e))) ∙ e
placed (x ∷ texts) (suc k) text e =
    elim (cases_Bool (pointwise nat_eq text x)) [
      | inl t ↦ ap (λ b. slice_get (x ∷ texts) (if b then 0 else suc (place text texts))) t ∙ ap Some (sym (same_text text x (sym t)))
      | inr f ↦ ap (λ b. slice_get (x ∷ texts) (if b then 0 else suc (place text texts))) f ∙ placed texts k text e
    ]

-- the token's kind again
back : List (List ℕ) → Kind → TokenKind
back names (word text) = Name (record { 0 = place text names })
back names (integer t n) = Int t n
back names (sign m) = Sign m
back names simdfn = Simdfn
back names simd = Simd
back names line_end = LineEnd

token_again : List (List ℕ) → Tok → Token
token_again names t = record { line = t.line; kind = back names t.kind }

module _ (names : List (List ℕ)) (distinct : AreDistinct names) where
  kind_again : (k : TokenKind) → IsNamed names k → back names (kind_of names k) ≡ k
  unfolding back
  kind_again (Name id) below =
      let text = unwrap_or (slice_get names id.0) [] in
      let was : slice_get names id.0 ≡ Some (get_or names id.0 []) = slice_get-get_or names id.0 [] below in
      let at : slice_get names id.0 ≡ Some text = was ∙ ap (λ o. Some (unwrap_or o [])) (sym was) in
      ap (λ (n : ℕ). Name (record { 0 = n })) (distinct (place text names) id.0 text (placed names id.0 text at) at)
  kind_again (Int t n) below = refl
  kind_again (Sign m) below = refl
  kind_again Simdfn below = refl
  kind_again Simd below = refl
  kind_again LineEnd below = refl

  list_again : (ts : List Token) → All (λ t. IsNamed names t.kind) ts → map (token_again names) (map (tok_of names) ts) ≡ ts
  unfolding token_again
  list_again [] all = refl
  list_again (t ∷ ts) all =
      ap₂ (λ (k : TokenKind) (xs : List Token). record { line = t.line; kind = k } ∷ xs) (kind_again t.kind (all 0 t (omega arith)))
      (list_again ts (λ k d below. all (suc k) d (omega arith)))

  same_list : (a b : List Token) → All (λ t. IsNamed names t.kind) a → All (λ t. IsNamed names t.kind) b → map (tok_of names) a ≡ map (tok_of names) b → a ≡ b
  same_list a b p q e = sym (list_again a p) ∙ ap (map (token_again names)) e ∙ list_again b q

-- ---- tokens by their texts have a table of names

same_self : (w : List ℕ) → pointwise nat_eq w w ≡ true
same_self w = (bytes_decides w w).1 refl

-- the table has each name of the tokens
abbrev Knows : List (List ℕ) → List Tok → Type 0
Knows names ts = (w : List ℕ) → list_any (pointwise nat_eq w) (words_of ts) ≡ true → list_any (pointwise nat_eq w) names ≡ true

module _ (line : ℕ) (ts : List Tok) where
  words_more : (k : Kind) (w : List ℕ) → list_any (pointwise nat_eq w) (words_of ts) ≡ true
      → list_any (pointwise nat_eq w) (words_of (record { line = line; kind = k } ∷ ts)) ≡ true
  words_more (word v) w e = ap (λ b. pointwise nat_eq w v || b) e ∙ or_true (pointwise nat_eq w v)
    where
      or_true : (b : Bool) → (b || true) ≡ true
      or_true true = refl
      or_true false = refl
  words_more (integer t n) w e = e
  words_more (sign m) w e = e
  words_more simdfn w e = e
  words_more simd w e = e
  words_more line_end w e = e

  word_first : (v : List ℕ) → list_any (pointwise nat_eq v) (words_of (record { line = line; kind = word v } ∷ ts)) ≡ true
  word_first v = ap (λ b. b || list_any (pointwise nat_eq v) (words_of ts)) (same_self v)

module _ (names : List (List ℕ)) where
  -- the number of a name
  named_at : (line : ℕ) (ts : List Tok) (v : List ℕ) → Knows names (record { line = line; kind = word v } ∷ ts) → slice_get names (place v names) ≡ Some v
  named_at line ts v knows = let p = place_of names v (knows v (word_first line ts v)) in placed names p.0 v p.1

  kind_forth : (line : ℕ) (ts : List Tok) (k : Kind) → Knows names (record { line = line; kind = k } ∷ ts) → kind_of names (back names k) ≡ k
  unfolding back
  kind_forth line ts (word v) knows = ap (λ o. word (unwrap_or o [])) (named_at line ts v knows)
  kind_forth line ts (integer t n) knows = refl
  kind_forth line ts (sign m) knows = refl
  kind_forth line ts simdfn knows = refl
  kind_forth line ts simd knows = refl
  kind_forth line ts line_end knows = refl

  named_back : (line : ℕ) (ts : List Tok) (k : Kind) → Knows names (record { line = line; kind = k } ∷ ts) → IsNamed names (back names k)
  unfolding back
  named_back line ts (word v) knows = slice_get_within names (place v names) v (named_at line ts v knows)
  named_back line ts (integer t n) knows = tt
  named_back line ts (sign m) knows = tt
  named_back line ts simdfn knows = tt
  named_back line ts simd knows = tt
  named_back line ts line_end knows = tt

  forth : (ts : List Tok) → Knows names ts → map (tok_of names) (map (token_again names) ts) ≡ ts
  unfolding token_again
  forth [] knows = refl
  forth (t ∷ ts) knows =
      ap₂ (λ (k : Kind) (xs : List Tok). record { line = t.line; kind = k } ∷ xs) (kind_forth t.line ts t.kind knows)
      (forth ts (λ w e. knows w (words_more t.line ts t.kind w e)))

  all_back : (ts : List Tok) → Knows names ts → All (λ t. IsNamed names t.kind) (map (token_again names) ts)
  unfolding token_again
  all_back [] knows k d below = absurd (omega arith)
  all_back (t ∷ ts) knows zero d below = named_back t.line ts t.kind knows
  all_back (t ∷ ts) knows (suc k) d below = all_back ts (λ w e. knows w (words_more t.line ts t.kind w e)) k d (omega arith)

table_of : (bytes : List ℕ) (ts : List Tok) → Lexes bytes ts → HasTokens bytes
table_of bytes ts lexes =
    let names = names_of ts in
    let knows : Knows names ts = λ w. among_firsts (words_of ts) w in
    let again = forth names ts knows in (
      names,
      map (token_again names) ts,
      record {
        lexes = subst (Lexes bytes) (sym again) lexes;
        named = all_back names ts knows;
        distinct = firsts_distinct (words_of ts);
        order = ap names_of (sym again);
      },
    )

-- ---- answers

pub some_tokens : (bytes : List ℕ) → HasTokens bytes ⊎ HasFault bytes
some_tokens bytes = elim (some_answer bytes) [ inl t ↦ inl (table_of bytes t.0 t.1) | inr f ↦ inr f ]

pub one_table_of_names : (bytes : List ℕ) (m n : List (List ℕ)) (a b : List Token) → AreTokens bytes m a → AreTokens bytes n b → m ≡ n
one_table_of_names bytes m n a b p q = p.order ∙ ap names_of (lexes_only bytes (map (tok_of m) a) (map (tok_of n) b) p.lexes q.lexes) ∙ sym q.order

pub one_list_of_tokens : (bytes : List ℕ) (m n : List (List ℕ)) (a b : List Token) → AreTokens bytes m a → AreTokens bytes n b → a ≡ b
one_list_of_tokens bytes m n a b p q =
    let r = subst (λ (ns : List (List ℕ)). AreTokens bytes ns b) (sym (one_table_of_names bytes m n a b p q)) q in
    same_list m p.distinct a b p.named r.named (lexes_only bytes (map (tok_of m) a) (map (tok_of m) b) p.lexes r.lexes)

-- no bytes have tokens and a first fault
pub tokens_or_fault : (bytes : List ℕ) (names : List (List ℕ)) (ts : List Token) (line : ℕ) (rule : UnitRule) → AreTokens bytes names ts → Refuses bytes line rule → ⊥
tokens_or_fault bytes names ts line rule p f = lexes_or_refuses bytes (map (tok_of names) ts) line rule p.lexes f

pub one_first_fault : (bytes : List ℕ) (line other : ℕ) (rule another : UnitRule) → Refuses bytes line rule → Refuses bytes other another
    → (line ≡ other) × (rule ≡ another)
one_first_fault = refuses_only
