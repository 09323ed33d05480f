-- The places of faults: what a reader tells at its end, against all texts of a grammar.
use Rattle.std.proofs.Common.{◌≡◌, ◌<◌, ℕ, suc, ◌⊎◌, inl, inr, List, [], ◌∷◌, ◌++◌, length, Some, None, Ok, Err, refl, sym, ap, ◌∙◌, subst, append_assoc, append-nil, length-append, arith}
use Rattle.std.proofs.lemmas.Bool.{cases_order}
use Rattle.vk_grammar_expr.specs.declared.symbols.Sym.{Sym}
use Rattle.vk_grammar_expr.specs.Inner.Parser.{Fault, Syntax, Deep, Spent, Parser, at_end, whole}
use Rattle.vk_grammar_expr.specs.Texts.{IsDead, IsPlace, IsDeepPlace}
use Rattle.vk_grammar_expr.proofs.Steps.{front, Answer, Read, Refused, TooDeep, given, Goes, finished, Meant, Told, Follows, seq_follows}

-- ---- the end

at_end_follows : {A : Type 0} {R : A → List Sym → Type 0} {c : List Sym} {a : A} (w : List Sym) → R a c → Follows R c (at_end a) w
at_end_follows {c = c} {a = a} [] r = record { told = inr (record { answer = Read a; read = []; rest = []; text = c; parts = refl; joined = sym (append-nil c); stable = at; meant = r }) }
  where
    at : (s : List Sym) → front s ≡ None → at_end a s ≡ Ok (a, s)
    at [] e = refl
    at (t ∷ s) e = absurd (cc)
at_end_follows {c = c} {a = a} (t ∷ w) r = record { told = inr (record { answer = Refused; read = []; rest = t ∷ w; text = c; parts = refl; joined = sym (append-nil c); stable = at; meant = finished a r }) }
  where
    at : (s : List Sym) → front s ≡ Some t → at_end a s ≡ Err (Syntax (length s))
    at [] e = absurd (cc)
    at (u ∷ s) e = refl

pub whole_follows : {A : Type 0} {R : A → List Sym → Type 0} {p : Parser A} {w : List Sym} → Follows R [] p w → Follows R [] (whole p) w
whole_follows {R} h = seq_follows {S = R} h (λ a v r parts s. at_end_follows r s) (λ a y s. finished a s)

-- ---- what was told, by the outcome

pub record IsReading {A : Type 0} (R : A → List Sym → Type 0) (w : List Sym) (a : A) (r : List Sym) : Type 0 where
  pub read : List Sym
  pub parts : w ≡ read ++ r
  pub is : R a read

pub record Refusal {A : Type 0} (R : A → List Sym → Type 0) (p : Parser A) (w : List Sym) (n : ℕ) : Type 0 where
  pub before : List Sym
  pub rest : List Sym
  pub parts : w ≡ before ++ rest
  pub left : n ≡ length rest
  pub alive : Goes R before
  pub stable : (s : List Sym) → front s ≡ front rest → p (before ++ s) ≡ Err (Syntax (length s))

pub record DeepRefusal {A : Type 0} (R : A → List Sym → Type 0) (p : Parser A) (w : List Sym) (n : ℕ) : Type 0 where
  pub before : List Sym
  pub at : Sym
  pub rest : List Sym
  pub parts : w ≡ before ++ (at ∷ rest)
  pub left : n ≡ suc (length rest)
  pub alive : Goes R (before ++ (at ∷ []))
  pub stable : (x : List Sym) → p (before ++ (at ∷ x)) ≡ Err (Deep (length (at ∷ x)))

module _ {A : Type 0} (R : A → List Sym → Type 0) (p : Parser A) (w : List Sym) where
  told_here : (t : Told R [] p w) → p w ≡ given t.answer t.rest
  told_here t = ap p t.parts ∙ t.stable t.rest refl

  on_reading : (a : A) (r : List Sym) (answer : Answer A) (read rest text : List Sym) → given answer rest ≡ Ok (a, r) → w ≡ read ++ rest → text ≡ read → Meant R text answer rest → IsReading R w a r
  on_reading a r (Read b) read rest text e parts joined meant =
      let pairs : Path (A × List Sym) (b, rest) (a, r) = cc in
      record { read = read; parts = parts ∙ ap (λ (z : A × List Sym). read ++ z.1) pairs; is = subst (λ (z : A × List Sym). R z.0 read) pairs (subst (R b) joined meant) }
  on_reading a r Refused read rest text e parts joined meant = absurd (cc)
  on_reading a r TooDeep read rest text e parts joined meant = absurd (cc)

  on_refusal : (n : ℕ) (answer : Answer A) (read rest text : List Sym) → given answer rest ≡ Err (Syntax n) → w ≡ read ++ rest → text ≡ read → Meant R text answer rest
      → ((s : List Sym) → front s ≡ front rest → p (read ++ s) ≡ given answer s) → Refusal R p w n
  on_refusal n (Read b) read rest text e parts joined meant stable = absurd (cc)
  on_refusal n Refused read rest text e parts joined meant stable = record { before = read; rest = rest; parts = parts; left = cc; alive = subst (Goes R) joined meant; stable = stable }
  on_refusal n TooDeep read rest text e parts joined meant stable = absurd (cc)

  on_deep : (n : ℕ) (answer : Answer A) (read rest text : List Sym) → given answer rest ≡ Err (Deep n) → w ≡ read ++ rest → text ≡ read → Meant R text answer rest
      → ((s : List Sym) → front s ≡ front rest → p (read ++ s) ≡ given answer s) → DeepRefusal R p w n
  on_deep n (Read b) read rest text e parts joined meant stable = absurd (cc)
  on_deep n Refused read rest text e parts joined meant stable = absurd (cc)
  on_deep n TooDeep read [] text e parts joined meant stable = absurd meant
  on_deep n TooDeep read (t ∷ rest) text e parts joined meant stable = record {
    before = read;
    at = t;
    rest = rest;
    parts = parts;
    left = cc;
    alive = subst (λ z. Goes R (z ++ (t ∷ []))) joined meant;
    stable = λ x. stable (t ∷ x) refl;
  }

pub reading_of : {A : Type 0} {R : A → List Sym → Type 0} {p : Parser A} {w : List Sym} {a : A} {r : List Sym} → Follows R [] p w → p w ≡ Ok (a, r) → IsReading R w a r
reading_of {A} {R} {p} {w} {a} {r} h e = go h.told
  where
    go : (p w ≡ Err Spent) ⊎ Told R [] p w → IsReading R w a r
    go (inl s) = absurd (cc)
    go (inr t) = on_reading R p w a r t.answer t.read t.rest t.text (sym (told_here R p w t) ∙ e) t.parts t.joined t.meant

pub refusal_of : {A : Type 0} {R : A → List Sym → Type 0} {p : Parser A} {w : List Sym} {n : ℕ} → Follows R [] p w → p w ≡ Err (Syntax n) → Refusal R p w n
refusal_of {A} {R} {p} {w} {n} h e = go h.told
  where
    go : (p w ≡ Err Spent) ⊎ Told R [] p w → Refusal R p w n
    go (inl s) = absurd (cc)
    go (inr t) = on_refusal R p w n t.answer t.read t.rest t.text (sym (told_here R p w t) ∙ e) t.parts t.joined t.meant t.stable

pub deep_refusal_of : {A : Type 0} {R : A → List Sym → Type 0} {p : Parser A} {w : List Sym} {n : ℕ} → Follows R [] p w → p w ≡ Err (Deep n) → DeepRefusal R p w n
deep_refusal_of {A} {R} {p} {w} {n} h e = go h.told
  where
    go : (p w ≡ Err Spent) ⊎ Told R [] p w → DeepRefusal R p w n
    go (inl s) = absurd (cc)
    go (inr t) = on_deep R p w n t.answer t.read t.rest t.text (sym (told_here R p w t) ∙ e) t.parts t.joined t.meant t.stable

-- ---- two ways to part a list

record SameParts (a b c d : List Sym) : Type 0 where
  fronts : a ≡ c
  rests : b ≡ d

same_parts : (a b c d : List Sym) → a ++ b ≡ c ++ d → length b ≡ length d → SameParts a b c d
same_parts [] b [] d e l = record { fronts = refl; rests = e }
same_parts [] b (y ∷ c) d e l = absurd (omega (arith, ap length e, length-append c d))
same_parts (x ∷ a) b [] d e l = absurd (omega (arith, ap length e, length-append a b))
same_parts (x ∷ a) b (y ∷ c) d e l =
    let tails : a ++ b ≡ c ++ d = cc in
    let g = same_parts a b c d tails l in
    let heads : x ≡ y = cc in
    record { fronts = ap (λ z. x ∷ z) g.fronts ∙ ap (λ z. z ∷ c) heads; rests = g.rests }

-- ---- against all texts

-- A reader, with larger limits it may be, that tells the same fault of `w` and reads the text `u` to its end.
pub record Larger {A : Type 0} (R : A → List Sym → Type 0) (w : List Sym) (fault : Fault) (u : List Sym) : Type 0 where
  pub reader : Parser A
  pub follows : Follows R [] reader w
  pub same : reader w ≡ Err fault
  pub value : A
  pub reads : reader u ≡ Ok (value, [])

-- Each text is read by a larger reader: then a refusal is at the place that no text has.
pub is_place : {A : Type 0} {R : A → List Sym → Type 0} {Text : List Sym → Type 0} {p : Parser A} {w : List Sym} {n : ℕ}
    → Follows R [] p w → p w ≡ Err (Syntax n) → ((a : A) (u : List Sym) → R a u → Text u) → ((u : List Sym) → Text u → Larger R w (Syntax n) u) → IsPlace Text w n
is_place {A} {R} {Text} {p} {w} {n} h e text larger = go (refusal_of h e)
  where
    against : (v s : List Sym) → w ≡ v ++ s → n ≡ length s → (z : List Sym) → front z ≡ front s → Text (v ++ z) → ⊥
    against v s parts left z f t =
        let l = larger (v ++ z) t in
        let q : Refusal R l.reader w n = refusal_of l.follows l.same in
        let g = same_parts q.before q.rest v s (sym q.parts ∙ parts) (sym q.left ∙ left) in
        let k : l.reader (v ++ z) ≡ Err (Syntax (length z)) = subst (λ b. l.reader (b ++ z) ≡ Err (Syntax (length z))) g.fronts (q.stable z (f ∙ ap front (sym g.rests))) in
        let r = l.reads in
        absurd (cc)

    dead : (v s : List Sym) → w ≡ v ++ s → n ≡ length s → IsDead Text v s
    dead v [] parts left = λ t. against v [] parts left [] refl (subst Text (sym (append-nil v)) t)
    dead v (t ∷ s) parts left = λ x. against v (t ∷ s) parts left (t ∷ x) refl

    go : Refusal R p w n → IsPlace Text w n
    go q = record { before = q.before; rest = q.rest; parts = q.parts; left = q.left; alive = (q.alive.after, text q.alive.value (q.before ++ q.alive.after) q.alive.is); dead = dead q.before q.rest q.parts q.left }

-- The same for a place that is too deep, against the texts within the limits.
pub is_deep_place : {A : Type 0} {R : A → List Sym → Type 0} {Text Kept : List Sym → Type 0} {p : Parser A} {w : List Sym} {n : ℕ}
    → Follows R [] p w → p w ≡ Err (Deep n) → ((a : A) (u : List Sym) → R a u → Text u) → ((u : List Sym) → Kept u → Larger R w (Deep n) u) → IsDeepPlace Text Kept w n
is_deep_place {A} {R} {Text} {Kept} {p} {w} {n} h e text larger = go (deep_refusal_of h e)
  where
    against : (v s : List Sym) (t : Sym) → w ≡ v ++ (t ∷ s) → n ≡ suc (length s) → (x : List Sym) → Kept (v ++ (t ∷ x)) → ⊥
    against v s t parts left x kept =
        let l = larger (v ++ (t ∷ x)) kept in
        let q : DeepRefusal R l.reader w n = deep_refusal_of l.follows l.same in
        let g = same_parts q.before (q.at ∷ q.rest) v (t ∷ s) (sym q.parts ∙ parts) (sym q.left ∙ left) in
        let same : q.at ≡ t = let rests = g.rests in cc in
        let k : l.reader (v ++ (t ∷ x)) ≡ Err (Deep (suc (length x))) = subst (λ b. l.reader (b ++ (t ∷ x)) ≡ Err (Deep (suc (length x)))) g.fronts
        (subst (λ b. l.reader (q.before ++ (b ∷ x)) ≡ Err (Deep (suc (length x)))) same (q.stable x)) in
        let r = l.reads in
        absurd (cc)

    go : DeepRefusal R p w n → IsDeepPlace Text Kept w n
    go q = record {
      before = q.before;
      at = q.at;
      rest = q.rest;
      parts = q.parts;
      left = q.left;
      alive = (q.alive.after, text q.alive.value ((q.before ++ (q.at ∷ [])) ++ q.alive.after) q.alive.is);
      deep = against q.before q.rest q.at q.parts q.left;
    }

-- ---- a place is one, and where there is one there is no text

pub place_no_text : {Text : List Sym → Type 0} {w : List Sym} {n : ℕ} → IsPlace Text w n → Text w → ⊥
place_no_text {Text} {w} p t = go p.before p.rest p.parts p.dead
  where
    go : (v s : List Sym) → w ≡ v ++ s → IsDead Text v s → ⊥
    go v [] parts dead = dead (subst Text (parts ∙ append-nil v) t)
    go v (u ∷ s) parts dead = dead s (subst Text parts t)

-- the second way to part a list leaves more
record Between (a b c d : List Sym) : Type 0 where
  first : Sym
  others : List Sym
  longer : a ≡ c ++ (first ∷ others)
  rests : d ≡ first ∷ (others ++ b)

between : (a b c d : List Sym) → a ++ b ≡ c ++ d → length b < length d → Between a b c d
between [] b [] d e l = absurd (omega (arith, ap length e))
between [] b (y ∷ c) d e l = absurd (omega (arith, ap length e, length-append c d))
between (x ∷ a) b [] d e l = record { first = x; others = a; longer = refl; rests = sym e }
between (x ∷ a) b (y ∷ c) d e l =
    let tails : a ++ b ≡ c ++ d = cc in
    let heads : x ≡ y = cc in
    let g = between a b c d tails l in
    record { first = g.first; others = g.others; longer = ap (λ z. x ∷ z) g.longer ∙ ap (λ z. z ∷ (c ++ (g.first ∷ g.others))) heads; rests = g.rests }

no_later_place : {Text : List Sym → Type 0} {w : List Sym} {n m : ℕ} → IsPlace Text w n → IsPlace Text w m → n < m → ⊥
no_later_place {Text} {w} {n} {m} p q l = go q.before q.rest q.dead (between p.before p.rest q.before q.rest (sym p.parts ∙ q.parts) (omega (arith, p.left, q.left)))
  where
    go : (v s : List Sym) → IsDead Text v s → Between p.before p.rest v s → ⊥
    go v [] dead b = let rests = b.rests in absurd (cc)
    go v (t ∷ s) dead b =
        let same : b.first ≡ t = let rests = b.rests in cc in
        dead (b.others ++ p.alive.0) (subst Text (ap (λ z. z ++ p.alive.0) (b.longer ∙ ap (λ z. v ++ (z ∷ b.others)) same) ∙ append_assoc v (t ∷ b.others) p.alive.0) p.alive.1)

pub one_place : {Text : List Sym → Type 0} {w : List Sym} {n m : ℕ} → IsPlace Text w n → IsPlace Text w m → n ≡ m
one_place {n = n} {m = m} p q = go (cases_order n m)
  where
    go : (n ≡ m) ⊎ ((n < m) ⊎ (m < n)) → n ≡ m
    go (inl e) = e
    go (inr (inl l)) = absurd (no_later_place p q l)
    go (inr (inr l)) = absurd (no_later_place q p l)
