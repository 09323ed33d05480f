-- Tokens that are known by a test of the first one, and the least texts that complete one that was begun.
use Rattle.std.proofs.Common.{◌≡◌, ℕ, Bool, true, false, List, [], ◌∷◌, ◌++◌, Option, Some, refl, sym, ap, ◌∙◌, subst, true≢false}
use denote.Enum.Bare.{same_true, true_same}
use Rattle.vk_ast.specs.declared.names.NameId.{NameId}
use Rattle.vk_ast.specs.declared.expressions.BinOp.{BinOp}
use Rattle.vk_grammar_expr.specs.contracts.symbols.Keyword.{the_type}
use Rattle.vk_grammar_expr.specs.declared.symbols.Keyword.{Keyword}
use Rattle.vk_grammar_expr.specs.declared.symbols.Sym.{Sym}
use Rattle.vk_grammar_expr.specs.declared.symbols.SymKind.{SymKind}
use Rattle.vk_grammar_expr.specs.declared.symbols.SymKind.TheVariants as kind
use Rattle.vk_grammar_expr.specs.Symbols.{head, line_at, number_at, Is}
use Rattle.vk_grammar_expr.specs.Inner.Parser.{Parser, ◌>>=◌, take, here}
use Rattle.vk_grammar_expr.proofs.Steps.{Follows, Goes, goes, take_follows, token_follows, refuse_follows, choose_follows, bind_follows, here_follows}
use Rattle.vk_grammar_stmt.specs.Words.{IsKeyword, same_keyword, is_keyword, name_at, assign_at, IsAssign, step_at, IsStep}
use Rattle.vk_grammar_stmt.specs.Inner.Reading.{expect_word}

-- ---- a relation for some height

pub record Has {A : Type 0} (R : A → ℕ → List Sym → Type 0) (a : A) (u : List Sym) : Type 0 where
  pub height : ℕ
  pub is : R a height u

abbrev pub has : {A : Type 0} {R : A → ℕ → List Sym → Type 0} {a : A} {u : List Sym} (h : ℕ) → R a h u → Has R a u
has h d = record { height = h; is = d }

-- the same text, written otherwise
pub as_text : {A : Type 0} {a : A} {h : ℕ} {u v : List Sym} (R : A → ℕ → List Sym → Type 0) → u ≡ v → R a h u → R a h v
as_text {a = a} {h = h} R e d = subst (R a h) e d

-- ---- keywords and names

pub keyword_kind : (w : Keyword) (k : SymKind) → is_keyword w (Some k) ≡ true → k ≡ kind.Keyword w
unfolding is_keyword same_keyword
keyword_kind w (kind.Keyword found) e = ap kind.Keyword (same_true the_type tt found w e)
keyword_kind w _ e = absurd (true≢false (sym e))

pub keyword_is : {w : Keyword} {t : Sym} → IsKeyword w t → is_keyword w (Some t.kind) ≡ true
unfolding is_keyword same_keyword
keyword_is {w} {t} i = subst (λ k. is_keyword w (Some k) ≡ true) (sym i.is) (true_same the_type w w refl)

pub take_word_follows : {B : Type 0} {R : B → List Sym → Type 0} {c : List Sym} {f : Sym → Parser B} {m : Keyword} {w : List Sym}
    → is_keyword m (head w) ≡ true → ((t : Sym) (r : List Sym) → IsKeyword m t → Follows R (c ++ (t ∷ [])) (f t) r) → Follows R c (take >>= f) w
unfolding is_keyword
take_word_follows {w = []} e next = absurd (true≢false (sym e))
take_word_follows {m = m} {w = t ∷ r} e next = take_follows (next t r (record { is = keyword_kind m t.kind e }))

abbrev pub word_of : Keyword → Sym
word_of w = record { line = 0; at = 0; kind = kind.Keyword w }

pub word_of_is : {w : Keyword} → IsKeyword w (word_of w)
word_of_is = record { is = refl }

record OneWord (m : Keyword) (t : Sym) (u : List Sym) : Type 0 where
  same : u ≡ t ∷ []
  word : IsKeyword m t

one_word : (m : Keyword) (w : List Sym) → is_keyword m (head w) ≡ true → Follows (OneWord m) [] take w
unfolding is_keyword
one_word m [] e = absurd (true≢false (sym e))
one_word m (t ∷ r) e = token_follows (record { same = refl; word = record { is = keyword_kind m t.kind e } })

expect_one : (m : Keyword) (w : List Sym) → Follows (OneWord m) [] (expect_word m) w
expect_one m w = choose_follows (is_keyword m) (one_word m w) (λ e. refuse_follows (goes (word_of m ∷ []) (word_of m) (record { same = refl; word = word_of_is })))

pub expect_word_follows : {B : Type 0} {R : B → List Sym → Type 0} {c : List Sym} {f : Sym → Parser B} {m : Keyword} {w : List Sym}
    → ((t : Sym) (r : List Sym) → IsKeyword m t → Follows R (c ++ (t ∷ [])) (f t) r) → ((t : Sym) → IsKeyword m t → Goes R (c ++ (t ∷ []))) → Follows R c (expect_word m >>= f) w
expect_word_follows {R} {c} {f} {m} {w} next ends = bind_follows {S = OneWord m} (expect_one m w)
    (λ t v r parts one. subst (λ z. Follows R (c ++ z) (f t) r) (sym one.same) (next t r one.word))
    (λ t v one. subst (λ z. Goes R (c ++ z)) (sym one.same) (ends t one.word))

pub name_kind : (k : SymKind) (id : NameId) → name_at (Some k) ≡ Some id → k ≡ kind.Name id
unfolding name_at
name_kind (kind.Name found) id e = let same : found ≡ id = cc in ap kind.Name same
name_kind _ id e = absurd (cc)

pub take_name_follows : {B : Type 0} {R : B → List Sym → Type 0} {c : List Sym} {f : Sym → Parser B} {id : NameId} {w : List Sym}
    → name_at (head w) ≡ Some id → ((t : Sym) (r : List Sym) → Is (kind.Name id) t → Follows R (c ++ (t ∷ [])) (f t) r) → Follows R c (take >>= f) w
unfolding name_at
take_name_follows {w = []} e next = absurd (cc)
take_name_follows {id = id} {w = t ∷ r} e next = take_follows (next t r (record { is = name_kind t.kind id e }))

-- ---- signs of assignments

pub take_assign_follows : {B : Type 0} {R : B → List Sym → Type 0} {c : List Sym} {f : Sym → Parser B} {o : Option BinOp} {w : List Sym}
    → assign_at (head w) ≡ Some o → ((t : Sym) (r : List Sym) → IsAssign o t → Follows R (c ++ (t ∷ [])) (f t) r) → Follows R c (take >>= f) w
unfolding assign_at
take_assign_follows {w = []} e next = absurd (cc)
take_assign_follows {w = t ∷ r} e next = take_follows (next t r (record { is = e }))

pub take_step_follows : {B : Type 0} {R : B → List Sym → Type 0} {c : List Sym} {f : Sym → Parser B} {o : BinOp} {w : List Sym}
    → step_at (head w) ≡ Some o → ((t : Sym) (r : List Sym) → IsStep o t → Follows R (c ++ (t ∷ [])) (f t) r) → Follows R c (take >>= f) w
unfolding step_at
take_step_follows {w = []} e next = absurd (cc)
take_step_follows {w = t ∷ r} e next = take_follows (next t r (record { is = e }))

-- ---- a text that is not empty, and its first token

pub record Parted (x : List Sym) : Type 0 where
  pub first : Sym
  pub others : List Sym
  pub parts : x ≡ first ∷ others

-- `p` reads such a text, and `f` goes on with its line and number
pub here_then_follows : {A B : Type 0} {S : A → List Sym → Type 0} {R : B → List Sym → Type 0} {p : Parser A} {w : List Sym} (f : ℕ → ℕ → A → Parser B)
    → Follows S [] p w → ((a : A) (v : List Sym) → S a v → Parted v) → ((a : A) (v r : List Sym) → S a v → Follows R v (f (line_at v) (number_at v) a) r)
    → ((a : A) (v : List Sym) → S a v → Goes R v) → Follows R [] (here (λ l k. p >>= f l k)) w
here_then_follows {A} {B} {S} {R} {p} {w} f h begins next ends = here_follows (λ l k. p >>= f l k) (bind_follows {S = S} h
    (λ a v r parts s. at_first a v r parts s (begins a v s)) ends)
  where
    at_first : (a : A) (v r : List Sym) → w ≡ v ++ r → S a v → Parted v → Follows R v (f (line_at w) (number_at w) a) r
    at_first a v r parts s b =
        let same : w ≡ b.first ∷ (b.others ++ r) = parts ∙ ap (λ z. z ++ r) b.parts in
        subst (λ l. Follows R v (f l (number_at w) a) r) (ap line_at b.parts ∙ sym (ap line_at same))
        (subst (λ k. Follows R v (f (line_at v) k a) r) (ap number_at b.parts ∙ sym (ap number_at same))
        (next a v r s))

-- ---- tests

pub not_true : (b : Bool) → (b ≡ true → ⊥) → b ≡ false
not_true true h = absurd (h refl)
not_true false h = refl
