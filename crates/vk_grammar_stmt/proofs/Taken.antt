-- What a reader takes, law by law for each way of joining readers: where it answers, the tokens that it took, behind those of
-- `c`, are a text of its relation, which may have limits. On fewer tokens than `turns` no loop has run out of turns.
use Rattle.std.proofs.Common.{◌≡◌, ◌<◌, ℕ, zero, suc, Bool, true, false, ◌⊎◌, inl, inr, List, [], ◌∷◌, ◌++◌, length, Option, Some, None, Result, Ok, Err, refl, sym, ap, ◌∙◌, subst, append_assoc, append-nil, length-append, arith, true≢false}
use Rattle.vk_tokens.specs.declared.tokens.Mark.{Mark}
use Rattle.vk_ast.specs.declared.names.NameId.{NameId}
use Rattle.vk_ast.specs.declared.expressions.BinOp.{BinOp}
use Rattle.vk_grammar_expr.specs.declared.symbols.Keyword.{Keyword}
use Rattle.vk_grammar_expr.specs.declared.symbols.Sym.{Sym}
use Rattle.vk_grammar_expr.specs.declared.symbols.SymKind.{SymKind}
use Rattle.vk_grammar_expr.specs.declared.symbols.SymKind.TheVariants as kind
use Rattle.vk_grammar_expr.specs.Symbols.{head, line_at, number_at, Is, IsSign, is_sign}
use Rattle.vk_grammar_expr.specs.Inner.Parser.{Fault, Syntax, Deep, Spent, Parser, pure, refuse, too_deep, then_do, ◌>>=◌, take, look, here, pick, pick_some, expect, many}
use Rattle.vk_grammar_expr.proofs.Steps.{Answer, Read, Refused, TooDeep, given, Meant, Told, Follows}
use Rattle.vk_grammar_expr.proofs.Signs.{sign_kind}
use Rattle.vk_grammar_expr.proofs.Heights.{OnRead, Keeps}
use Rattle.vk_grammar_stmt.specs.Words.{IsKeyword, is_keyword, name_at, assign_at, IsAssign, step_at, IsStep}
use Rattle.vk_grammar_stmt.specs.Inner.Reading.{expect_word}
use Rattle.vk_grammar_stmt.proofs.Signs.{keyword_kind, name_kind, Parted}

-- the tokens that are gone of `w`, where `r` are left
pub record Part {A : Type 0} (R : A → List Sym → Type 0) (c w : List Sym) (a : A) (r : List Sym) : Type 0 where
  pub gone : List Sym
  pub parts : w ≡ gone ++ r
  pub is : R a (c ++ gone)

abbrev pub Taken : {A : Type 0} → (A → List Sym → Type 0) → (c w : List Sym) → Result (A × List Sym) Fault → Type 0
Taken R c w (Ok read) = Part R c w read.0 read.1
Taken R c w (Err (Syntax n)) = Unit {0}
Taken R c w (Err (Deep n)) = Unit {0}
Taken R c w (Err Spent) = ⊥

pub record Takes (turns : ℕ) {A : Type 0} (R : A → List Sym → Type 0) (c : List Sym) (p : Parser A) (w : List Sym) : Type 0 where
  pub takes : length w < turns → Taken R c w (p w)

-- ---- readers of nothing

pub pure_takes : {turns : ℕ} {A : Type 0} {R : A → List Sym → Type 0} {c : List Sym} {a : A} {w : List Sym} → R a c → Takes turns R c (pure a) w
pure_takes {R = R} {c} {a} r = record { takes = λ l. record { gone = []; parts = refl; is = subst (R a) (sym (append-nil c)) r } }

pub refuse_takes : {turns : ℕ} {A : Type 0} {R : A → List Sym → Type 0} {c w : List Sym} → Takes turns R c refuse w
refuse_takes = record { takes = λ l. tt }

pub deep_takes : {turns : ℕ} {A : Type 0} {R : A → List Sym → Type 0} {c w : List Sym} → Takes turns R c too_deep w
deep_takes = record { takes = λ l. tt }

-- ---- choices

pub pick_takes : {turns : ℕ} {A : Type 0} {R : A → List Sym → Type 0} {c : List Sym} {p q : Parser A} {w : List Sym} (b : Bool)
    → (b ≡ true → Takes turns R c p w) → (b ≡ false → Takes turns R c q w) → Takes turns R c (pick b p q) w
pick_takes true yes_ no_ = yes_ refl
pick_takes false yes_ no_ = no_ refl

pub pick_some_takes : {turns : ℕ} {A B : Type 0} {R : B → List Sym → Type 0} {c : List Sym} {f : A → Parser B} {q : Parser B} {w : List Sym} (o : Option A)
    → ((a : A) → o ≡ Some a → Takes turns R c (f a) w) → (o ≡ None → Takes turns R c q w) → Takes turns R c (pick_some o f q) w
pick_some_takes (Some a) some_ none_ = some_ a refl
pick_some_takes None some_ none_ = none_ refl

pub look_takes : {turns : ℕ} {A : Type 0} {R : A → List Sym → Type 0} {c : List Sym} {w : List Sym} (f : Option SymKind → Parser A)
    → Takes turns R c (f (head w)) w → Takes turns R c (look f) w
look_takes f h = record { takes = h.takes }

pub choose_takes : {turns : ℕ} {A : Type 0} {R : A → List Sym → Type 0} {c : List Sym} {p q : Parser A} {w : List Sym} (test : Option SymKind → Bool)
    → (test (head w) ≡ true → Takes turns R c p w) → (test (head w) ≡ false → Takes turns R c q w) → Takes turns R c (look (λ k. pick (test k) p q)) w
choose_takes {p = p} {q} {w} test yes_ no_ = look_takes (λ k. pick (test k) p q) (pick_takes (test (head w)) yes_ no_)

pub choose_some_takes : {turns : ℕ} {A B : Type 0} {R : B → List Sym → Type 0} {c : List Sym} {f : A → Parser B} {q : Parser B} {w : List Sym} (of : Option SymKind → Option A)
    → ((a : A) → of (head w) ≡ Some a → Takes turns R c (f a) w) → (of (head w) ≡ None → Takes turns R c q w) → Takes turns R c (look (λ k. pick_some (of k) f q)) w
choose_some_takes {f = f} {q} {w} of some_ none_ = look_takes (λ k. pick_some (of k) f q) (pick_some_takes (of (head w)) some_ none_)

pub here_takes : {turns : ℕ} {A : Type 0} {R : A → List Sym → Type 0} {c : List Sym} {w : List Sym} (f : ℕ → ℕ → Parser A)
    → Takes turns R c (f (line_at w) (number_at w)) w → Takes turns R c (here f) w
here_takes f h = record { takes = h.takes }

module _ {A : Type 0} (S R : A → List Sym → Type 0) (c d w : List Sym) (into : (a : A) (v : List Sym) → S a (d ++ v) → R a (c ++ v)) where
  into_taken : (o : Result (A × List Sym) Fault) → Taken S d w o → Taken R c w o
  into_taken (Ok read) t = record { gone = t.gone; parts = t.parts; is = into read.0 t.gone t.is }
  into_taken (Err (Syntax n)) t = tt
  into_taken (Err (Deep n)) t = tt
  into_taken (Err Spent) t = t

pub into_takes : {turns : ℕ} {A : Type 0} {S R : A → List Sym → Type 0} {c : List Sym} {p : Parser A} {w : List Sym}
    → ((a : A) (u : List Sym) → S a u → R a u) → Takes turns S c p w → Takes turns R c p w
into_takes {S = S} {R} {c} {p} {w} into h = record { takes = λ l. into_taken S R c c w (λ a v s. into a (c ++ v) s) (p w) (h.takes l) }

pub tail_takes : {turns : ℕ} {A : Type 0} {S R : A → List Sym → Type 0} {c : List Sym} {p : Parser A} {w : List Sym}
    → Takes turns S [] p w → ((a : A) (v : List Sym) → S a v → R a (c ++ v)) → Takes turns R c p w
tail_takes {S = S} {R} {c} {p} {w} h into = record { takes = λ l. into_taken S R c [] w into (p w) (h.takes l) }

-- ---- one after the other

module _ {B : Type 0} (R : B → List Sym → Type 0) (c w v r : List Sym) (parts : w ≡ v ++ r) where
  on_second : (o : Result (B × List Sym) Fault) → Taken R (c ++ v) r o → Taken R c w o
  on_second (Ok read) t = record { gone = v ++ t.gone; parts = parts ∙ ap (λ z. v ++ z) t.parts ∙ sym (append_assoc v t.gone read.1); is = subst (R read.0) (append_assoc c v t.gone) t.is }
  on_second (Err (Syntax n)) t = tt
  on_second (Err (Deep n)) t = tt
  on_second (Err Spent) t = t

module _ (turns : ℕ) {A B : Type 0} (S : A → List Sym → Type 0) (R : B → List Sym → Type 0) (i c : List Sym) (p : Parser A) (f : A → Parser B) (w : List Sym)
    (next : (a : A) (v r : List Sym) → w ≡ v ++ r → p w ≡ Ok (a, r) → S a (i ++ v) → Takes turns R (c ++ v) (f a) r) (l : length w < turns) where
  on_first : (o : Result (A × List Sym) Fault) → p w ≡ o → Taken S i w o → Taken R c w (then_do o f)
  on_first (Ok read) e t = on_second R c w t.gone read.1 t.parts (f read.0 read.1)
      ((next read.0 t.gone read.1 t.parts e t.is).takes (omega (arith, l, ap length t.parts, length-append t.gone read.1)))
  on_first (Err (Syntax n)) e t = tt
  on_first (Err (Deep n)) e t = tt
  on_first (Err Spent) e t = t

pub bind_takes : {turns : ℕ} {A B : Type 0} {S : A → List Sym → Type 0} {R : B → List Sym → Type 0} {c : List Sym} {p : Parser A} {f : A → Parser B} {w : List Sym}
    → Takes turns S [] p w → ((a : A) (v r : List Sym) → w ≡ v ++ r → S a v → Takes turns R (c ++ v) (f a) r) → Takes turns R c (p >>= f) w
bind_takes {turns} {S = S} {R} {c} {p} {f} {w} h next = record { takes = λ l. on_first turns S R [] c p f w (λ a v r parts e. next a v r parts) l (p w) refl (h.takes l) }

-- the same where the first reader too stands behind `c`
pub seq_takes : {turns : ℕ} {A B : Type 0} {S : A → List Sym → Type 0} {R : B → List Sym → Type 0} {c : List Sym} {p : Parser A} {f : A → Parser B} {w : List Sym}
    → Takes turns S c p w → ((a : A) (v r : List Sym) → w ≡ v ++ r → S a (c ++ v) → Takes turns R (c ++ v) (f a) r) → Takes turns R c (p >>= f) w
seq_takes {turns} {S = S} {R} {c} {p} {f} {w} h next = record { takes = λ l. on_first turns S R c c p f w (λ a v r parts e. next a v r parts) l (p w) refl (h.takes l) }

-- as `bind_takes`, where how it goes on rests on what the first reader leaves
pub bind_is_takes : {turns : ℕ} {A B : Type 0} {S : A → List Sym → Type 0} {R : B → List Sym → Type 0} {c : List Sym} {p : Parser A} {f : A → Parser B} {w : List Sym}
    → Takes turns S [] p w → ((a : A) (v r : List Sym) → w ≡ v ++ r → p w ≡ Ok (a, r) → S a v → Takes turns R (c ++ v) (f a) r) → Takes turns R c (p >>= f) w
bind_is_takes {turns} {S = S} {R} {c} {p} {f} {w} h next = record { takes = λ l. on_first turns S R [] c p f w next l (p w) refl (h.takes l) }

pub take_takes : {turns : ℕ} {B : Type 0} {R : B → List Sym → Type 0} {c : List Sym} {f : Sym → Parser B} {t : Sym} {r : List Sym}
    → Takes turns R (c ++ (t ∷ [])) (f t) r → Takes turns R c (take >>= f) (t ∷ r)
take_takes {turns} {R = R} {c} {f} {t} {r} h = record { takes = λ l. at (f t r) (h.takes (omega (arith, l))) }
  where
    at : (o : Result (_ × List Sym) Fault) → Taken R (c ++ (t ∷ [])) r o → Taken R c (t ∷ r) o
    at (Ok read) k = record { gone = t ∷ k.gone; parts = ap (λ z. t ∷ z) k.parts; is = subst (R read.0) (append_assoc c (t ∷ []) k.gone) k.is }
    at (Err (Syntax n)) k = tt
    at (Err (Deep n)) k = tt
    at (Err Spent) k = k

pub token_takes : {turns : ℕ} {S : Sym → List Sym → Type 0} {t : Sym} {r : List Sym} → S t (t ∷ []) → Takes turns S [] take (t ∷ r)
token_takes {t = t} s = record { takes = λ l. record { gone = t ∷ []; parts = refl; is = s } }

-- ---- tokens that are known by a test

module _ {turns : ℕ} {B : Type 0} {R : B → List Sym → Type 0} {c : List Sym} {f : Sym → Parser B} where
  pub take_sign_takes : {m : Mark} {w : List Sym} → is_sign m (head w) ≡ true → ((t : Sym) (r : List Sym) → IsSign m t → Takes turns R (c ++ (t ∷ [])) (f t) r) → Takes turns R c (take >>= f) w
  unfolding is_sign
  take_sign_takes {w = []} e next = absurd (true≢false (sym e))
  take_sign_takes {m = m} {w = t ∷ r} e next = take_takes (next t r (record { is = sign_kind m t.kind e }))

  pub take_word_takes : {m : Keyword} {w : List Sym} → is_keyword m (head w) ≡ true → ((t : Sym) (r : List Sym) → IsKeyword m t → Takes turns R (c ++ (t ∷ [])) (f t) r) → Takes turns R c (take >>= f) w
  unfolding is_keyword
  take_word_takes {w = []} e next = absurd (true≢false (sym e))
  take_word_takes {m = m} {w = t ∷ r} e next = take_takes (next t r (record { is = keyword_kind m t.kind e }))

  pub take_name_takes : {id : NameId} {w : List Sym} → name_at (head w) ≡ Some id → ((t : Sym) (r : List Sym) → Is (kind.Name id) t → Takes turns R (c ++ (t ∷ [])) (f t) r) → Takes turns R c (take >>= f) w
  unfolding name_at
  take_name_takes {w = []} e next = absurd (cc)
  take_name_takes {id = id} {w = t ∷ r} e next = take_takes (next t r (record { is = name_kind t.kind id e }))

  pub take_assign_takes : {o : Option BinOp} {w : List Sym} → assign_at (head w) ≡ Some o → ((t : Sym) (r : List Sym) → IsAssign o t → Takes turns R (c ++ (t ∷ [])) (f t) r) → Takes turns R c (take >>= f) w
  unfolding assign_at
  take_assign_takes {w = []} e next = absurd (cc)
  take_assign_takes {w = t ∷ r} e next = take_takes (next t r (record { is = e }))

  pub take_step_takes : {o : BinOp} {w : List Sym} → step_at (head w) ≡ Some o → ((t : Sym) (r : List Sym) → IsStep o t → Takes turns R (c ++ (t ∷ [])) (f t) r) → Takes turns R c (take >>= f) w
  unfolding step_at
  take_step_takes {w = []} e next = absurd (cc)
  take_step_takes {w = t ∷ r} e next = take_takes (next t r (record { is = e }))

  pub expect_takes : {m : Mark} {w : List Sym} → ((t : Sym) (r : List Sym) → IsSign m t → Takes turns R (c ++ (t ∷ [])) (f t) r) → Takes turns R c (expect m >>= f) w
  unfolding is_sign
  expect_takes {w = []} next = record { takes = λ l. tt }
  expect_takes {m = m} {w = t ∷ r} next = at (is_sign m (Some t.kind)) refl
    where
      at : (b : Bool) → is_sign m (Some t.kind) ≡ b → Takes turns R c (expect m >>= f) (t ∷ r)
      at true e = record { takes = λ l. rw e ((take_takes {f = f} (next t r (record { is = sign_kind m t.kind e }))).takes l) }
      at false e = record { takes = λ l. rw e tt }

  pub expect_word_takes : {m : Keyword} {w : List Sym} → ((t : Sym) (r : List Sym) → IsKeyword m t → Takes turns R (c ++ (t ∷ [])) (f t) r) → Takes turns R c (expect_word m >>= f) w
  unfolding is_keyword
  expect_word_takes {w = []} next = record { takes = λ l. tt }
  expect_word_takes {m = m} {w = t ∷ r} next = at (is_keyword m (Some t.kind)) refl
    where
      at : (b : Bool) → is_keyword m (Some t.kind) ≡ b → Takes turns R c (expect_word m >>= f) (t ∷ r)
      at true e = record { takes = λ l. rw e ((take_takes {f = f} (next t r (record { is = keyword_kind m t.kind e }))).takes l) }
      at false e = record { takes = λ l. rw e tt }

pub then_expect_takes : {turns : ℕ} {A B : Type 0} {S : A → List Sym → Type 0} {R : B → List Sym → Type 0} {c : List Sym} {p : Parser A} {f : A → Sym → Parser B} {m : Mark} {w : List Sym}
    → Takes turns S [] p w → ((a : A) (v : List Sym) (t : Sym) (r : List Sym) → S a v → IsSign m t → Takes turns R ((c ++ v) ++ (t ∷ [])) (f a t) r)
    → Takes turns R c (p >>= (λ a. expect m >>= f a)) w
then_expect_takes {c = c} h next = bind_takes h (λ a v r parts s. expect_takes {c = c ++ v} (λ t r2 is. next a v t r2 s is))

-- `p` reads a text that is not empty, and `f` goes on with its line and number
pub here_then_takes : {turns : ℕ} {A B : Type 0} {S : A → List Sym → Type 0} {R : B → List Sym → Type 0} {p : Parser A} {w : List Sym} (f : ℕ → ℕ → A → Parser B)
    → Takes turns S [] p w → ((a : A) (v : List Sym) → S a v → Parted v) → ((a : A) (v r : List Sym) → S a v → Takes turns R v (f (line_at v) (number_at v) a) r)
    → Takes turns R [] (here (λ l k. p >>= f l k)) w
here_then_takes {turns} {A} {B} {S} {R} {p} {w} f h begins next = here_takes (λ l k. p >>= f l k) (bind_takes {S = S} h (λ a v r parts s. at_first a v r parts s (begins a v s)))
  where
    at_first : (a : A) (v r : List Sym) → w ≡ v ++ r → S a v → Parted v → Takes turns R v (f (line_at w) (number_at w) a) r
    at_first a v r parts s b =
        let same : w ≡ b.first ∷ (b.others ++ r) = parts ∙ ap (λ z. z ++ r) b.parts in
        subst (λ l. Takes turns R v (f l (number_at w) a) r) (ap line_at b.parts ∙ sym (ap line_at same))
        (subst (λ k. Takes turns R v (f (line_at v) k a) r) (ap number_at b.parts ∙ sym (ap number_at same))
        (next a v r s))

-- ---- lists

-- the first of a list is gone
shorter : (w v r : List Sym) → w ≡ v ++ r → Parted v → length r < length w
shorter w v r e p = omega (arith, ap length e, length-append v r, ap length p.parts)

pub many_takes : {turns : ℕ} {A : Type 0} {S : A → List Sym → Type 0} {L : List A → List Sym → Type 0} (test : Option SymKind → Bool) (item : Parser A)
    → L [] [] → ((a : A) (list : List A) (x y : List Sym) → S a x → L list y → L (a ∷ list) (x ++ y)) → ((a : A) (x : List Sym) → S a x → Parted x)
    → ((w : List Sym) → test (head w) ≡ true → Takes turns S [] item w) → (n : ℕ) (w : List Sym) → length w < n → Takes turns L [] (many n test item) w
unfolding many
many_takes test item none_ more_ begins items zero w i = absurd (omega (arith, i))
many_takes {S = S} {L = L} test item none_ more_ begins items (suc n) w i = choose_takes test
    (λ e. bind_takes {S = S} (items w e)
    (λ a v r parts s. bind_takes {S = L} (many_takes test item none_ more_ begins items n r (omega (arith, i, shorter w v r parts (begins a v s))))
    (λ list y r2 parts2 l. pure_takes (more_ a list v y s l))))
    (λ e. pure_takes none_)

-- ---- from what is told, and what is kept

module _ {A : Type 0} (R : A → List Sym → Type 0) (P : A → Type 0) (turns g : ℕ) (c : List Sym) (p : Parser A) (w : List Sym) where
  on_answer : (answer : Answer A) (read rest text : List Sym) → w ≡ read ++ rest → text ≡ c ++ read → Meant R text answer rest → OnRead P g (length w) (given answer rest)
      → Taken (λ a u. R a u × P a) c w (given answer rest)
  on_answer (Read a) read rest text parts joined meant kept = record { gone = read; parts = parts; is = (subst (R a) joined meant, kept.0) }
  on_answer Refused read rest text parts joined meant kept = tt
  on_answer TooDeep read rest text parts joined meant kept = tt

  on_told : (p w ≡ Err Spent) ⊎ Told R c p w → OnRead P g (length w) (p w) → Taken (λ a u. R a u × P a) c w (p w)
  on_told (inl e) kept = absurd (subst (OnRead P g (length w)) e kept)
  on_told (inr t) kept = let is : p w ≡ given t.answer t.rest = ap p t.parts ∙ t.stable t.rest refl in
      subst (Taken (λ a u. R a u × P a) c w) (sym is) (on_answer t.answer t.read t.rest t.text t.parts t.joined t.meant (subst (OnRead P g (length w)) is kept))

pub both_take : {turns g : ℕ} {A : Type 0} {R : A → List Sym → Type 0} {P : A → Type 0} {c : List Sym} {p : Parser A} {w : List Sym} → Follows R c p w → Keeps turns g P p → Takes turns (λ a u. R a u × P a) c p w
both_take {turns} {g} {R = R} {P} {c} {p} {w} h k = record { takes = λ l. on_told R P turns g c p w h.told (k.keeps w l) }
