-- Reading the tokens of a text, piece by piece.
use Rattle.std.proofs.Common.{◌≡◌, ℕ, zero, suc, ◌+◌, ◌<◌, ◌≤◌, Bool, true, false, ◌&&◌, ◌==◌, List, [], ◌∷◌, ◌++◌, map, drop, length, slice_get, get_or, Option, Some, None, refl, sym, ap, ap₂, subst, ◌∙◌, append_assoc, arith, if◌then◌else◌}
use Rattle.std.proofs.lemmas.List.{append-nil, length-append, map-append, length-map, length-drop}
use Rattle.std.proofs.lemmas.Option.{none-some, slice_get-get_or, slice_get_within}
use Rattle.std.specs.List.{All}
use Rattle.std.specs.Option.{unwrap_or}
use Rattle.vk_tokens.specs.declared.tokens.Token.{Token}
use Rattle.vk_tokens.specs.declared.tokens.TokenKind.{TokenKind}
use Rattle.vk_tokens.specs.declared.tokens.TokenKind.TheVariants.{Name, Int, Sign, Simdfn, Simd, LineEnd}
use Rattle.vk_unit_rules.specs.declared.rules.UnitRule.{UnitRule}
use Rattle.vk_lex.specs.Characters.{Char, numbered, joined, characters, text_of, line_of, begins, begins_two}
use Rattle.vk_tokens.specs.Names.{IsNamed}
use Rattle.vk_lex.specs.Tokens.{Kind, word, Tok, tok_of, kind_of, TellsOne, Tells, with_name}
use Rattle.vk_lex.specs.Tables.{names_of}
use Rattle.vk_lex.specs.declared.pieces.Mode.{Mode}
use Rattle.vk_lex.specs.declared.pieces.Mode.TheVariants.{Start, Inside, Directive, Idle}
use Rattle.vk_lex.specs.Lexing.{ended, IsPiece, IsFault, with_kind, Reads, at_end, a_piece, Fails, here, later, Lexes, Refuses}
use Rattle.vk_lex.proofs.Firsts.{names_more}
use Rattle.vk_lex.proofs.Lengths.{owed, piece_length, piece_owed}
use Rattle.vk_lex.proofs.Steps.{one_piece, piece_or_fault, one_fault}

-- ---- a text has one list of tokens or one first fault

module _ (line : ℕ → ℕ) where
  no_piece : {X : Type 0} {m n : Mode} {text rest : List ℕ} {k : Option Kind} → IsPiece m text k n rest → text ≡ [] → X
  no_piece {rest = rest} p e = let below = piece_length p in absurd (omega (arith, ap (λ (t : List ℕ). length t) e))

  reads_only : {m : Mode} {text : List ℕ} {a b : List Tok} → Reads line m text a → Reads line m text b → a ≡ b
  reads_only at_end at_end = refl
  reads_only at_end (a_piece p r) = no_piece p refl
  reads_only (a_piece p r) at_end = no_piece p refl
  reads_only (a_piece {n = n} {text = text} p r) (a_piece {n = o} {rest = rest} {ts = us} q s) =
      let same = one_piece p q in
      ap₂ (λ (o : Option Kind) (xs : List Tok). with_kind line o (length text) xs) same.0
      (reads_only r (subst (λ (t : List ℕ). Reads line n t us) (sym same.2) (subst (λ (m : Mode). Reads line m rest us) (sym same.1) s)))

  reads_or_fails : {m : Mode} {text : List ℕ} {a : List Tok} {l : ℕ} {x : UnitRule} → Reads line m text a → Fails line m text l x → ⊥
  reads_or_fails (a_piece p r) (here f) = piece_or_fault p f
  reads_or_fails at_end (later p f) = no_piece p refl
  reads_or_fails (a_piece {n = n} p r) (later {rest = rest} {l = l} {r = x} q f) =
      let same = one_piece p q in
      reads_or_fails r (subst (λ (t : List ℕ). Fails line n t l x) (sym same.2) (subst (λ (m : Mode). Fails line m rest l x) (sym same.1) f))

  fails_only : {m : Mode} {text : List ℕ} {l k : ℕ} {x y : UnitRule} → Fails line m text l x → Fails line m text k y → (l ≡ k) × (x ≡ y)
  fails_only (here f) (here g) = (refl, one_fault f g)
  fails_only (here f) (later p g) = absurd (piece_or_fault p f)
  fails_only (later p f) (here g) = absurd (piece_or_fault p g)
  fails_only (later {n = n} p f) (later {rest = rest} {l = l} {r = x} q g) =
      let same = one_piece p q in
      fails_only f (subst (λ (t : List ℕ). Fails line n t l x) (sym same.2) (subst (λ (m : Mode). Fails line m rest l x) (sym same.1) g))

-- ---- the tokens so far, the table of names, and what is left

pub record Lexing (bytes : List ℕ) (names : List (List ℕ)) (list : List Token) (mode : Mode) (rest : List ℕ) : Type 0 where
  pub goes : (ts : List Tok) → Reads (line_of bytes) mode rest ts → Lexes bytes (map (tok_of names) list ++ ts)
  pub fails : (l : ℕ) (r : UnitRule) → Fails (line_of bytes) mode rest l r → Refuses bytes l r
  pub named : All (λ t. IsNamed names t.kind) list
  pub order : names ≡ names_of (map (tok_of names) list)
  pub count : owed mode + length list + length rest ≤ length (text_of bytes)
  pub few : length names ≤ length list

pub lexing_start : (bytes text : List ℕ) → text ≡ text_of bytes → Lexing bytes [] [] Start text
lexing_start bytes text e = record {
  goes = λ ts r. subst (λ (t : List ℕ). Reads (line_of bytes) Start t ts) e r;
  fails = λ l r f. subst (λ (t : List ℕ). Fails (line_of bytes) Start t l r) e f;
  named = λ k d below. absurd (omega arith);
  order = refl;
  count = omega (arith, ap (λ (t : List ℕ). length t) e);
  few = omega arith;
}

-- ---- a table that grows

module _ (names now : List (List ℕ)) (keeps : (k : ℕ) (text : List ℕ) → slice_get names k ≡ Some text → slice_get now k ≡ Some text) where
  same_kind : (k : TokenKind) → IsNamed names k → kind_of now k ≡ kind_of names k
  same_kind (Name id) below =
      let was : slice_get names id.0 ≡ Some (get_or names id.0 []) = slice_get-get_or names id.0 [] below in
      ap (λ o. word (unwrap_or o [])) (keeps id.0 (get_or names id.0 []) was ∙ sym was)
  same_kind (Int t n) below = refl
  same_kind (Sign m) below = refl
  same_kind Simdfn below = refl
  same_kind Simd below = refl
  same_kind LineEnd below = refl

  still_named : (k : TokenKind) → IsNamed names k → IsNamed now k
  still_named (Name id) below =
      slice_get_within now id.0 (get_or names id.0 []) (keeps id.0 (get_or names id.0 []) (slice_get-get_or names id.0 [] below))
  still_named (Int t n) below = tt
  still_named (Sign m) below = tt
  still_named Simdfn below = tt
  still_named Simd below = tt
  still_named LineEnd below = tt

  same_toks : (list : List Token) → All (λ t. IsNamed names t.kind) list → map (tok_of now) list ≡ map (tok_of names) list
  same_toks [] all = refl
  same_toks (t ∷ ts) all =
      ap₂ (λ (k : Kind) (xs : List Tok). record { line = t.line; kind = k } ∷ xs) (same_kind t.kind (all 0 t (omega arith)))
      (same_toks ts (λ k d below. all (suc k) d (omega arith)))

all_named : (names now : List (List ℕ)) (list : List Token) (token : Token) → (((k : ℕ) (text : List ℕ) → slice_get names k ≡ Some text → slice_get now k ≡ Some text))
    → All (λ t. IsNamed names t.kind) list → IsNamed now token.kind → All (λ t. IsNamed now t.kind) (list ++ token ∷ [])
all_named names now [] token keeps all last zero d below = last
all_named names now [] token keeps all last (suc k) d below = absurd (omega arith)
all_named names now (t ∷ ts) token keeps all last zero d below = still_named names now keeps t.kind (all 0 d (omega arith))
all_named names now (t ∷ ts) token keeps all last (suc k) d below = all_named names now ts token keeps (λ j e under. all (suc j) e (omega arith)) last k d (omega arith)

module _ {line : ℕ} {k : Kind} {list new : List Token} {names now : List (List ℕ)} (one : TellsOne line k list new names now) where
  told_map : All (λ t. IsNamed names t.kind) list → (ts : List Tok) → map (tok_of now) new ++ ts ≡ map (tok_of names) list ++ (record { line = line; kind = k } ∷ ts)
  told_map all ts =
      ap (λ (l : List Token). map (tok_of now) l ++ ts) one.list
      ∙ ap (λ (l : List Tok). l ++ ts) (map-append (tok_of now) list (one.token ∷ []))
      ∙ append_assoc (map (tok_of now) list) (tok_of now one.token ∷ []) ts
      ∙ ap₂ (λ (l : List Tok) (t : Tok). l ++ (t ∷ ts)) (same_toks names now one.grows.keeps list all) one.is

  told_named : All (λ t. IsNamed names t.kind) list → All (λ t. IsNamed now t.kind) new
  told_named all = subst (λ (l : List Token). All (λ t. IsNamed now t.kind) l) (sym one.list) (all_named names now list one.token one.grows.keeps all one.named)

  told_order : All (λ t. IsNamed names t.kind) list → names ≡ names_of (map (tok_of names) list) → now ≡ names_of (map (tok_of now) new)
  told_order all order =
      one.grows.exact
      ∙ ap (λ (ns : List (List ℕ)). with_name ns k) order
      ∙ sym (names_more (map (tok_of names) list) line k)
      ∙ ap names_of (sym (told_map all []) ∙ append-nil (map (tok_of now) new))

  told_count : length new ≡ length list + 1
  told_count = ap (λ (l : List Token). length l) one.list ∙ length-append list (one.token ∷ [])

-- the line's beginning is known; one piece more
module _ (bytes : List ℕ) (names : List (List ℕ)) (list : List Token) (m : Mode) (text : List ℕ) (old : Lexing bytes names list m text) where
  module _ (n : Mode) (rest : List ℕ) (new : List Token) (now : List (List ℕ)) where
    turn_none : IsPiece m text None n rest → new ≡ list → now ≡ names → Lexing bytes now new n rest
    turn_none p e f =
        subst (λ (ns : List (List ℕ)). Lexing bytes ns new n rest) (sym f)
        (subst (λ (l : List Token). Lexing bytes names l n rest) (sym e) (record {
          goes = λ ts r. old.goes ts (a_piece p r);
          fails = λ l x r. old.fails l x (later p r);
          named = old.named;
          order = old.order;
          count = let shorter = piece_owed p in omega (arith, old.count);
          few = old.few;
        }))

    turn_some : (k : Kind) → IsPiece m text (Some k) n rest → TellsOne (line_of bytes (length text)) k list new names now → Lexing bytes now new n rest
    turn_some k p one = record {
      goes = λ ts r. subst (Lexes bytes) (sym (told_map one old.named ts)) (old.goes _ (a_piece p r));
      fails = λ l x r. old.fails l x (later p r);
      named = told_named one old.named;
      order = told_order one old.named old.order;
      count = let shorter = piece_owed p in omega (arith, old.count, told_count one);
      few = omega (arith, one.grows.most, old.few, told_count one);
    }

    pub turn : (k : Option Kind) → IsPiece m text k n rest → Tells k (line_of bytes (length text)) list new names now → Lexing bytes now new n rest
    turn None p t = turn_none p t.0 t.1
    turn (Some k) p t = turn_some k p t

-- ---- the end

ended_owes : (m : Mode) (k : Kind) → ended m ≡ Some k → owed m ≡ 1
ended_owes Start k e = absurd (none-some k e)
ended_owes Inside k e = absurd (none-some k e)
ended_owes Directive k e = refl
ended_owes Idle k e = absurd (none-some k e)

joined_length : (cs : List Char) → length (joined cs) ≤ length cs
joined_length [] = omega arith
joined_length (c ∷ cs) = by ((c.code == 92) && begins 10 cs) ((c.code == 92) && begins_two 13 10 cs) (joined_length cs)
  where
    by : (p q : Bool) → length (joined cs) ≤ length cs → length (if p then drop 1 (joined cs) else if q then drop 2 (joined cs) else c ∷ joined cs) ≤ suc (length cs)
    by true q below = omega (arith, length-drop 1 (joined cs))
    by false true below = omega (arith, length-drop 2 (joined cs))
    by false false below = omega arith

numbered_length : (line : ℕ) (bs : List ℕ) → length (numbered line bs) ≡ length bs
numbered_length line [] = refl
numbered_length line (b ∷ bs) = ap suc (numbered_length (if b == 10 then line + 1 else line) bs)

pub text_length : (bytes : List ℕ) → length (text_of bytes) ≤ length bytes
text_length bytes = omega (arith, length-map (characters bytes) (λ (c : Char). c.code), joined_length (numbered 1 bytes), numbered_length 1 bytes)

pub record Lexed (bytes : List ℕ) (names : List (List ℕ)) (list : List Token) : Type 0 where
  pub lexes : Lexes bytes (map (tok_of names) list)
  pub named : All (λ t. IsNamed names t.kind) list
  pub order : names ≡ names_of (map (tok_of names) list)
  pub count : length list ≤ length bytes
  pub few : length names ≤ length list

module _ (bytes : List ℕ) (names : List (List ℕ)) (list : List Token) (m : Mode) (old : Lexing bytes names list m []) (new : List Token) (now : List (List ℕ)) where
  ended_none : ended m ≡ None → new ≡ list → now ≡ names → Lexed bytes now new
  ended_none e f g =
      subst (λ (ns : List (List ℕ)). Lexed bytes ns new) (sym g)
      (subst (λ (l : List Token). Lexed bytes names l) (sym f) (record {
        lexes = subst (Lexes bytes) (append-nil (map (tok_of names) list))
            (old.goes [] (subst (λ (ts : List Tok). Reads (line_of bytes) m [] ts) (ap (λ (o : Option Kind). with_kind (line_of bytes) o 0 []) e) at_end));
        named = old.named;
        order = old.order;
        count = omega (arith, old.count, text_length bytes);
        few = old.few;
      }))

  ended_some : (k : Kind) → ended m ≡ Some k → TellsOne (line_of bytes 0) k list new names now → Lexed bytes now new
  ended_some k e one = record {
    lexes = subst (Lexes bytes) (sym (sym (append-nil (map (tok_of now) new)) ∙ told_map one old.named []))
        (old.goes _ (subst (λ (ts : List Tok). Reads (line_of bytes) m [] ts) (ap (λ (o : Option Kind). with_kind (line_of bytes) o 0 []) e) at_end));
    named = told_named one old.named;
    order = told_order one old.named old.order;
    count = omega (arith, old.count, text_length bytes, told_count one, ended_owes m k e);
    few = omega (arith, one.grows.most, old.few, told_count one);
  }

  pub lexed : (k : Option Kind) → ended m ≡ k → Tells k (line_of bytes 0) list new names now → Lexed bytes now new
  lexed None e t = ended_none e t.0 t.1
  lexed (Some k) e t = ended_some k e t

-- ---- answers

pub lexes_only : (bytes : List ℕ) (a b : List Tok) → Lexes bytes a → Lexes bytes b → a ≡ b
lexes_only bytes a b p q = reads_only (line_of bytes) p q

pub lexes_or_refuses : (bytes : List ℕ) (a : List Tok) (l : ℕ) (r : UnitRule) → Lexes bytes a → Refuses bytes l r → ⊥
lexes_or_refuses bytes a l r p q = reads_or_fails (line_of bytes) p q

pub refuses_only : (bytes : List ℕ) (l k : ℕ) (r s : UnitRule) → Refuses bytes l r → Refuses bytes k s → (l ≡ k) × (r ≡ s)
refuses_only bytes l k r s p q = fails_only (line_of bytes) p q

-- a fault at the front of what is left
pub refused : (bytes : List ℕ) (names : List (List ℕ)) (list : List Token) (m : Mode) (text : List ℕ) (l : ℕ) (r : UnitRule) → Lexing bytes names list m text → 0 < length text
    → l ≡ line_of bytes (length text) → IsFault m text r → Refuses bytes l r
refused bytes names list m [] l r old some e f = absurd (omega arith)
refused bytes names list m (c ∷ cs) l r old some e f = old.fails l r (subst (λ (n : ℕ). Fails (line_of bytes) m (c ∷ cs) n r) (sym e) (here f))

pub no_length : (text : List ℕ) → length text ≡ 0 → text ≡ []
no_length [] e = refl
no_length (c ∷ cs) e = absurd (omega (arith, e))
