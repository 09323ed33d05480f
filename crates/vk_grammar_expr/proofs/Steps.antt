-- What a reader tells of a list of tokens, law by law for each way of joining readers.
--
-- `Follows R c p w`: behind the tokens `c`, on the tokens `w`, either a loop has spent its turns, or what `p` tells is so.
-- Tokens are read from the front of `w`. What is told goes by the tokens read and the first one left alone (`stable`).
-- Where something was read, its text, with `c` in front, is one of `R`. Where a token is refused, the tokens before it begin
-- a text of `R`; where a place is too deep, the tokens up to it, it included, begin one (`meant`).
use Rattle.std.proofs.Common.{◌≡◌, ℕ, zero, suc, Bool, true, false, ◌⊎◌, inl, inr, List, [], ◌∷◌, ◌++◌, length, Option, Some, None, Ok, Err, refl, sym, ap, ◌∙◌, subst, append_assoc, append-nil}
use Rattle.vk_grammar_expr.specs.declared.symbols.Sym.{Sym}
use Rattle.vk_grammar_expr.specs.declared.symbols.SymKind.{SymKind}
use Rattle.vk_grammar_expr.specs.Symbols.{head, line_at, number_at}
use Rattle.vk_grammar_expr.specs.Inner.Parser.{Syntax, Deep, Spent, Parser, pure, refuse, too_deep, then_do, ◌>>=◌, take, look, here, pick, pick_some, many}

-- ---- first tokens

abbrev pub front : List Sym → Option Sym
front [] = None
front (t ∷ rest) = Some t

pub same_front : (v s r : List Sym) → front s ≡ front r → front (v ++ s) ≡ front (v ++ r)
same_front [] s r e = e
same_front (t ∷ v) s r e = refl

kind_in : Option Sym → Option SymKind
kind_in None = None
kind_in (Some t) = Some t.kind

head_front : (w : List Sym) → head w ≡ kind_in (front w)
unfolding kind_in
head_front [] = refl
head_front (t ∷ w) = refl

line_in : Option Sym → ℕ
line_in None = 0
line_in (Some t) = t.line

line_front : (w : List Sym) → line_at w ≡ line_in (front w)
unfolding line_in
line_front [] = refl
line_front (t ∷ w) = refl

number_in : Option Sym → ℕ
number_in None = 0
number_in (Some t) = t.at

number_front : (w : List Sym) → number_at w ≡ number_in (front w)
unfolding number_in
number_front [] = refl
number_front (t ∷ w) = refl

pub same_head : (s r : List Sym) → front s ≡ front r → head s ≡ head r
same_head s r e = head_front s ∙ ap kind_in e ∙ sym (head_front r)

same_line : (s r : List Sym) → front s ≡ front r → line_at s ≡ line_at r
same_line s r e = line_front s ∙ ap line_in e ∙ sym (line_front r)

same_number : (s r : List Sym) → front s ≡ front r → number_at s ≡ number_at r
same_number s r e = number_front s ∙ ap number_in e ∙ sym (number_front r)

-- ---- what is told

pub data Answer (A : Type 0) : Type 0 where
  Read : A → Answer A
  Refused : Answer A
  TooDeep : Answer A

abbrev pub given : {A : Type 0} → Answer A → Parser A
given (Read a) s = Ok (a, s)
given Refused s = Err (Syntax (length s))
given TooDeep s = Err (Deep (length s))

-- some text of `R` begins with `u`
pub record Goes {A : Type 0} (R : A → List Sym → Type 0) (u : List Sym) : Type 0 where
  pub after : List Sym
  pub value : A
  pub is : R value (u ++ after)

abbrev pub goes : {A : Type 0} {R : A → List Sym → Type 0} {u : List Sym} (x : List Sym) (a : A) → R a (u ++ x) → Goes R u
goes x a is = record { after = x; value = a; is = is }

abbrev pub Meant : {A : Type 0} → (A → List Sym → Type 0) → List Sym → Answer A → List Sym → Type 0
Meant R u (Read a) rest = R a u
Meant R u Refused rest = Goes R u
Meant R u TooDeep [] = ⊥
Meant R u TooDeep (t ∷ rest) = Goes R (u ++ (t ∷ []))

pub record Told {A : Type 0} (R : A → List Sym → Type 0) (c : List Sym) (p : Parser A) (w : List Sym) : Type 0 where
  pub answer : Answer A
  pub read : List Sym
  pub rest : List Sym
  pub text : List Sym
  pub parts : w ≡ read ++ rest
  pub joined : text ≡ c ++ read
  pub stable : (s : List Sym) → front s ≡ front rest → p (read ++ s) ≡ given answer s
  pub meant : Meant R text answer rest

pub record Follows {A : Type 0} (R : A → List Sym → Type 0) (c : List Sym) (p : Parser A) (w : List Sym) : Type 0 where
  pub told : (p w ≡ Err Spent) ⊎ Told R c p w

-- ---- readers of nothing

pub finished : {A : Type 0} {R : A → List Sym → Type 0} {u : List Sym} (a : A) → R a u → Goes R u
finished {R} {u} a r = goes [] a (subst (R a) (sym (append-nil u)) r)

pub pure_follows : {A : Type 0} {R : A → List Sym → Type 0} {c : List Sym} {a : A} {w : List Sym} → R a c → Follows R c (pure a) w
pure_follows {c} {a} {w} r = record { told = inr (record { answer = Read a; read = []; rest = w; text = c; parts = refl; joined = sym (append-nil c); stable = λ s e. refl; meant = r }) }

pub refuse_follows : {A : Type 0} {R : A → List Sym → Type 0} {c w : List Sym} → Goes R c → Follows R c refuse w
refuse_follows {c} {w} g = record { told = inr (record { answer = Refused; read = []; rest = w; text = c; parts = refl; joined = sym (append-nil c); stable = λ s e. refl; meant = g }) }

pub deep_follows : {A : Type 0} {R : A → List Sym → Type 0} {c : List Sym} {t : Sym} {r : List Sym} → Goes R (c ++ (t ∷ [])) → Follows R c too_deep (t ∷ r)
deep_follows {c} {t} {r} g = record { told = inr (record { answer = TooDeep; read = []; rest = t ∷ r; text = c; parts = refl; joined = sym (append-nil c); stable = λ s e. refl; meant = g }) }

-- ---- choices

pub pick_follows : {A : Type 0} {R : A → List Sym → Type 0} {c : List Sym} {p q : Parser A} {w : List Sym} (b : Bool)
    → (b ≡ true → Follows R c p w) → (b ≡ false → Follows R c q w) → Follows R c (pick b p q) w
pick_follows true yes_ no_ = yes_ refl
pick_follows false yes_ no_ = no_ refl

pub pick_some_follows : {A B : Type 0} {R : B → List Sym → Type 0} {c : List Sym} {f : A → Parser B} {q : Parser B} {w : List Sym} (o : Option A)
    → ((a : A) → o ≡ Some a → Follows R c (f a) w) → (o ≡ None → Follows R c q w) → Follows R c (pick_some o f q) w
pick_some_follows (Some a) some_ none_ = some_ a refl
pick_some_follows None some_ none_ = none_ refl

pub look_follows : {A : Type 0} {R : A → List Sym → Type 0} {c : List Sym} {w : List Sym} (f : Option SymKind → Parser A)
    → Follows R c (f (head w)) w → Follows R c (look f) w
look_follows {A} {R} {c} {w} f h = record { told = go h.told }
  where
    go : (f (head w) w ≡ Err Spent) ⊎ Told R c (f (head w)) w → (look f w ≡ Err Spent) ⊎ Told R c (look f) w
    go (inl e) = inl e
    go (inr t) = inr (record {
      answer = t.answer;
      read = t.read;
      rest = t.rest;
      text = t.text;
      parts = t.parts;
      joined = t.joined;
      stable = λ s e. ap (λ k. f k (t.read ++ s)) (same_head _ _ (same_front t.read s t.rest e ∙ ap front (sym t.parts))) ∙ t.stable s e;
      meant = t.meant;
    })

-- by a test of the first token
pub choose_follows : {A : Type 0} {R : A → List Sym → Type 0} {c : List Sym} {p q : Parser A} {w : List Sym} (test : Option SymKind → Bool)
    → (test (head w) ≡ true → Follows R c p w) → (test (head w) ≡ false → Follows R c q w) → Follows R c (look (λ k. pick (test k) p q)) w
choose_follows {p} {q} {w} test yes_ no_ = look_follows (λ k. pick (test k) p q) (pick_follows (test (head w)) yes_ no_)

pub choose_some_follows : {A B : Type 0} {R : B → List Sym → Type 0} {c : List Sym} {f : A → Parser B} {q : Parser B} {w : List Sym} (of : Option SymKind → Option A)
    → ((a : A) → of (head w) ≡ Some a → Follows R c (f a) w) → (of (head w) ≡ None → Follows R c q w) → Follows R c (look (λ k. pick_some (of k) f q)) w
choose_some_follows {f} {q} {w} of some_ none_ = look_follows (λ k. pick_some (of k) f q) (pick_some_follows (of (head w)) some_ none_)

pub here_follows : {A : Type 0} {R : A → List Sym → Type 0} {c : List Sym} {w : List Sym} (f : ℕ → ℕ → Parser A)
    → Follows R c (f (line_at w) (number_at w)) w → Follows R c (here f) w
here_follows {A} {R} {c} {w} f h = record { told = go h.told }
  where
    go : (f (line_at w) (number_at w) w ≡ Err Spent) ⊎ Told R c (f (line_at w) (number_at w)) w → (here f w ≡ Err Spent) ⊎ Told R c (here f) w
    go (inl e) = inl e
    go (inr t) = inr (record {
      answer = t.answer;
      read = t.read;
      rest = t.rest;
      text = t.text;
      parts = t.parts;
      joined = t.joined;
      stable = λ s e. let same : front (t.read ++ s) ≡ front w = same_front t.read s t.rest e ∙ ap front (sym t.parts) in
          ap (λ l. f l (number_at (t.read ++ s)) (t.read ++ s)) (same_line (t.read ++ s) w same) ∙ ap (λ k. f (line_at w) k (t.read ++ s)) (same_number (t.read ++ s) w same) ∙ t.stable s e;
      meant = t.meant;
    })

-- what is read is of another relation too
pub into_follows : {A : Type 0} {S R : A → List Sym → Type 0} {c : List Sym} {p : Parser A} {w : List Sym}
    → ((a : A) (u : List Sym) → S a u → R a u) → Follows S c p w → Follows R c p w
into_follows {A} {S} {R} {c} {p} {w} into h = record { told = go h.told }
  where
    goes_too : (u : List Sym) → Goes S u → Goes R u
    goes_too u g = goes g.after g.value (into g.value (u ++ g.after) g.is)

    means : (answer : Answer A) (u rest : List Sym) → Meant S u answer rest → Meant R u answer rest
    means (Read a) u rest m = into a u m
    means Refused u rest m = goes_too u m
    means TooDeep u [] m = m
    means TooDeep u (t ∷ rest) m = goes_too (u ++ (t ∷ [])) m

    go : (p w ≡ Err Spent) ⊎ Told S c p w → (p w ≡ Err Spent) ⊎ Told R c p w
    go (inl e) = inl e
    go (inr t) = inr (record { answer = t.answer; read = t.read; rest = t.rest; text = t.text; parts = t.parts; joined = t.joined; stable = t.stable; meant = means t.answer t.text t.rest t.meant })

-- ---- one after the other

-- `p` reads behind `i`, which stands behind `k`; the whole stands behind `c`
module _ {A B : Type 0} (S : A → List Sym → Type 0) (R : B → List Sym → Type 0) (k i c : List Sym) (where_ : c ≡ k ++ i) (p : Parser A) (f : A → Parser B) (w : List Sym)
    (next : (a : A) (v r : List Sym) → w ≡ v ++ r → p w ≡ Ok (a, r) → S a (i ++ v) → Follows R (c ++ v) (f a) r) (ends : (a : A) (y : List Sym) → S a y → Goes R (k ++ y)) where
  goes_on : (u : List Sym) → Goes S u → Goes R (k ++ u)
  goes_on u g = let h : Goes R (k ++ (u ++ g.after)) = ends g.value (u ++ g.after) g.is in
      goes (g.after ++ h.after) h.value (subst (R h.value) (ap (λ z. z ++ h.after) (sym (append_assoc k u g.after)) ∙ append_assoc (k ++ u) g.after h.after) h.is)

  place : (read text : List Sym) → text ≡ i ++ read → k ++ text ≡ c ++ read
  place read text e = ap (λ z. k ++ z) e ∙ sym (append_assoc k i read) ∙ ap (λ z. z ++ read) (sym where_)

  on_read : (a : A) (read rest : List Sym) → w ≡ read ++ rest → ((s : List Sym) → front s ≡ front rest → p (read ++ s) ≡ Ok (a, s))
      → (f a rest ≡ Err Spent) ⊎ Told R (c ++ read) (f a) rest → Follows R c (p >>= f) w
  on_read a read rest parts stable (inl e) = record { told = inl (ap (λ z. then_do (p z) f) parts ∙ ap (λ o. then_do o f) (stable rest refl) ∙ e) }
  on_read a read rest parts stable (inr t) = record {
    told = inr (record {
      answer = t.answer;
      read = read ++ t.read;
      rest = t.rest;
      text = t.text;
      parts = parts ∙ ap (λ z. read ++ z) t.parts ∙ sym (append_assoc read t.read t.rest);
      joined = t.joined ∙ append_assoc c read t.read;
      stable = λ s e. ap (λ z. then_do (p z) f) (append_assoc read t.read s)
          ∙ ap (λ o. then_do o f) (stable (t.read ++ s) (same_front t.read s t.rest e ∙ ap front (sym t.parts))) ∙ t.stable s e;
      meant = t.meant;
    });
  }

  on_told : (answer : Answer A) (read rest text : List Sym) → w ≡ read ++ rest → text ≡ i ++ read
      → ((s : List Sym) → front s ≡ front rest → p (read ++ s) ≡ given answer s) → Meant S text answer rest → Follows R c (p >>= f) w
  unfolding on_read goes_on
  on_told (Read a) read rest text parts joined stable meant = on_read a read rest parts stable (next a read rest parts (ap p parts ∙ stable rest refl) (subst (S a) joined meant)).told
  on_told Refused read rest text parts joined stable meant = record {
    told = inr (record {
      answer = Refused;
      read = read;
      rest = rest;
      text = k ++ text;
      parts = parts;
      joined = place read text joined;
      stable = λ s e. ap (λ o. then_do o f) (stable s e);
      meant = goes_on text meant;
    });
  }
  on_told TooDeep read [] text parts joined stable meant = absurd meant
  on_told TooDeep read (t ∷ rest) text parts joined stable meant = record {
    told = inr (record {
      answer = TooDeep;
      read = read;
      rest = t ∷ rest;
      text = k ++ text;
      parts = parts;
      joined = place read text joined;
      stable = λ s e. ap (λ o. then_do o f) (stable s e);
      meant = subst (Goes R) (sym (append_assoc k text (t ∷ []))) (goes_on (text ++ (t ∷ [])) meant);
    });
  }

  on_step : (p w ≡ Err Spent) ⊎ Told S i p w → Follows R c (p >>= f) w
  on_step (inl e) = record { told = inl (ap (λ o. then_do o f) e) }
  on_step (inr t) = on_told t.answer t.read t.rest t.text t.parts t.joined t.stable t.meant

-- The first reader has a relation of its own, and stands behind nothing. `next`: how it goes on; `ends`: how a text of the
-- first one, behind `c`, is completed.
pub bind_follows : {A B : Type 0} {S : A → List Sym → Type 0} {R : B → List Sym → Type 0} {c : List Sym} {p : Parser A} {f : A → Parser B} {w : List Sym}
    → Follows S [] p w → ((a : A) (v r : List Sym) → w ≡ v ++ r → S a v → Follows R (c ++ v) (f a) r) → ((a : A) (v : List Sym) → S a v → Goes R (c ++ v))
    → Follows R c (p >>= f) w
bind_follows {S} {R} {c} {p} {f} {w} h next ends = on_step S R c [] c (sym (append-nil c)) p f w (λ a v r parts is. next a v r parts) ends h.told

-- the same where the first reader too stands behind `c`
pub seq_follows : {A B : Type 0} {S : A → List Sym → Type 0} {R : B → List Sym → Type 0} {c : List Sym} {p : Parser A} {f : A → Parser B} {w : List Sym}
    → Follows S c p w → ((a : A) (v r : List Sym) → w ≡ v ++ r → S a (c ++ v) → Follows R (c ++ v) (f a) r) → ((a : A) (y : List Sym) → S a y → Goes R y)
    → Follows R c (p >>= f) w
seq_follows {S} {R} {c} {p} {f} {w} h next ends = on_step S R [] c c refl p f w (λ a v r parts is. next a v r parts) ends h.told

-- as `bind_follows`, where how it goes on rests on what the first reader leaves
pub bind_is_follows : {A B : Type 0} {S : A → List Sym → Type 0} {R : B → List Sym → Type 0} {c : List Sym} {p : Parser A} {f : A → Parser B} {w : List Sym}
    → Follows S [] p w → ((a : A) (v r : List Sym) → w ≡ v ++ r → p w ≡ Ok (a, r) → S a v → Follows R (c ++ v) (f a) r) → ((a : A) (v : List Sym) → S a v → Goes R (c ++ v))
    → Follows R c (p >>= f) w
bind_is_follows {S} {R} {c} {p} {f} {w} h next ends = on_step S R c [] c (sym (append-nil c)) p f w next ends h.told

-- a token that is there
pub take_follows : {B : Type 0} {R : B → List Sym → Type 0} {c : List Sym} {f : Sym → Parser B} {t : Sym} {r : List Sym}
    → Follows R (c ++ (t ∷ [])) (f t) r → Follows R c (take >>= f) (t ∷ r)
take_follows {B} {R} {c} {f} {t} {r} h = record { told = go h.told }
  where
    go : (f t r ≡ Err Spent) ⊎ Told R (c ++ (t ∷ [])) (f t) r → ((take >>= f) (t ∷ r) ≡ Err Spent) ⊎ Told R c (take >>= f) (t ∷ r)
    go (inl e) = inl e
    go (inr h) = inr (record {
      answer = h.answer;
      read = t ∷ h.read;
      rest = h.rest;
      text = h.text;
      parts = ap (λ z. t ∷ z) h.parts;
      joined = h.joined ∙ append_assoc c (t ∷ []) h.read;
      stable = h.stable;
      meant = h.meant;
    })

-- items, each of `S`, that make a list of `L`
pub many_follows : {A : Type 0} {S : A → List Sym → Type 0} {L : List A → List Sym → Type 0} (test : Option SymKind → Bool) (item : Parser A)
    → L [] [] → ((a : A) (list : List A) (x y : List Sym) → S a x → L list y → L (a ∷ list) (x ++ y))
    → ((w : List Sym) → test (head w) ≡ true → Follows S [] item w) → (n : ℕ) (w : List Sym) → Follows L [] (many n test item) w
unfolding many
many_follows test item none_ more_ items zero w = record { told = inl refl }
many_follows {A} {S} {L} test item none_ more_ items (suc n) w = choose_follows test
    (λ e. bind_follows {S = S} (items w e)
    (λ a v r parts s. bind_follows {S = L} (many_follows test item none_ more_ items n r) (λ list y r2 parts2 l. pure_follows (more_ a list v y s l)) (λ list y l. finished (a ∷ list) (more_ a list v y s l)))
    (λ a v s. goes [] (a ∷ []) (more_ a [] v [] s none_)))
    (λ e. pure_follows none_)

-- the last reader, with a relation of its own
pub tail_follows : {A : Type 0} {S R : A → List Sym → Type 0} {c : List Sym} {p : Parser A} {w : List Sym}
    → Follows S [] p w → ((a : A) (v : List Sym) → S a v → R a (c ++ v)) → Follows R c p w
tail_follows {A} {S} {R} {c} {p} {w} h into = record { told = go h.told }
  where
    goes_too : (u : List Sym) → Goes S u → Goes R (c ++ u)
    goes_too u g = goes g.after g.value (subst (R g.value) (sym (append_assoc c u g.after)) (into g.value (u ++ g.after) g.is))

    means : (answer : Answer A) (u rest : List Sym) → Meant S u answer rest → Meant R (c ++ u) answer rest
    means (Read a) u rest m = into a u m
    means Refused u rest m = goes_too u m
    means TooDeep u [] m = m
    means TooDeep u (t ∷ rest) m = subst (Goes R) (sym (append_assoc c u (t ∷ []))) (goes_too (u ++ (t ∷ [])) m)

    go : (p w ≡ Err Spent) ⊎ Told S [] p w → (p w ≡ Err Spent) ⊎ Told R c p w
    go (inl e) = inl e
    go (inr t) = inr (record { answer = t.answer; read = t.read; rest = t.rest; text = c ++ t.text; parts = t.parts; joined = ap (λ z. c ++ z) t.joined; stable = t.stable; meant = means t.answer t.text t.rest t.meant })

-- one token, which is there
pub token_follows : {S : Sym → List Sym → Type 0} {t : Sym} {r : List Sym} → S t (t ∷ []) → Follows S [] take (t ∷ r)
token_follows {t} {r} s = record { told = inr (record { answer = Read t; read = t ∷ []; rest = r; text = t ∷ []; parts = refl; joined = refl; stable = λ z e. refl; meant = s }) }
