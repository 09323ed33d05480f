-- A reader of whole texts that has the laws: what it tells, against all texts of its grammar. It is given by how many turns
-- its loops have; `R` is its relation, and `Kept` the relation within its limits.
use Rattle.std.proofs.Common.{◌≡◌, ◌+◌, ◌≤◌, ◌<◌, ℕ, suc, Bool, true, false, ◌⊎◌, inl, inr, List, [], ◌∷◌, length, Result, Ok, Err, sym, ap, ◌∙◌, subst, append-nil, arith, true≢false}
use Rattle.vk_grammar_expr.specs.declared.symbols.Sym.{Sym}
use Rattle.vk_grammar_expr.specs.Inner.Parser.{Fault, Syntax, Deep, Spent, Parser, then_do, at_end, whole}
use Rattle.vk_grammar_expr.specs.Texts.{IsPlace, IsDeepPlace}
use Rattle.vk_grammar_expr.proofs.Steps.{Follows}
use Rattle.vk_grammar_expr.proofs.Grown.{IsCut, Grows, same_grows, bind_grows}
use Rattle.vk_grammar_expr.proofs.Places.{whole_follows, Larger, is_place, is_deep_place}
use Rattle.vk_grammar_stmt.proofs.Taken.{Taken, Takes}

-- a reader with larger limits, that reads `u`
pub record Above {A : Type 0} (R : A → List Sym → Type 0) (p : ℕ → Parser A) (a : A) (u : List Sym) : Type 0 where
  pub reader : ℕ → Parser A
  pub follows : (turns : ℕ) (w : List Sym) → Follows R [] (reader turns) w
  pub grows : (turns more_turns : ℕ) → turns ≤ more_turns → Grows true (p turns) (reader more_turns)
  pub reads : (turns : ℕ) → length u < turns → reader turns u ≡ Ok (a, [])

pub record IsReader {A : Type 0} (R Kept : A → List Sym → Type 0) (p : ℕ → Parser A) : Type 0 where
  pub follows : (turns : ℕ) (w : List Sym) → Follows R [] (p turns) w
  pub takes : (turns : ℕ) (w : List Sym) → Takes turns Kept [] (p turns) w
  pub grows : (turns more_turns : ℕ) → turns ≤ more_turns → Grows false (p turns) (p more_turns)
  pub reads : (turns : ℕ) (a : A) (u : List Sym) → Kept a u → length u < turns → p turns u ≡ Ok (a, [])
  pub larger : (a : A) (u : List Sym) → R a u → Above R p a u

-- ---- the end

module _ {A : Type 0} where
  ended_at : (a : A) (r : List Sym) (b : A) (s : List Sym) → at_end b s ≡ Ok (a, r) → Path (Result (A × List Sym) Fault) (Ok (b, s)) (Ok (a, []))
  ended_at a r b [] i = let pairs : Path (A × List Sym) (b, []) (a, r) = cc in ap (λ (z : A × List Sym). Ok (z.0, [])) pairs
  ended_at a r b (t ∷ s) i = absurd (cc)

  ended : (a : A) (r : List Sym) (o : Result (A × List Sym) Fault) → then_do o at_end ≡ Ok (a, r) → o ≡ Ok (a, [])
  ended a r (Ok read) i = ended_at a r read.0 read.1 i
  ended a r (Err fault) i = absurd (cc)

  whole_grows : {deep : Bool} {p q : Parser A} → Grows deep p q → Grows deep (whole p) (whole q)
  whole_grows g = bind_grows g (λ a. same_grows)

  uncut : {deep : Bool} {p q : Parser A} → Grows deep p q → (w : List Sym) {o : Result (A × List Sym) Fault} → p w ≡ o → (IsCut deep o → ⊥) → q w ≡ o
  uncut {deep} {p} {q} g w {o} e whole_ = go (g.grows w)
    where
      go : IsCut deep (p w) ⊎ (q w ≡ p w) → q w ≡ o
      go (inl c) = absurd (whole_ (subst (IsCut deep) e c))
      go (inr k) = k ∙ e

  whole_reads : {a : A} (p : Parser A) (u : List Sym) → p u ≡ Ok (a, []) → whole p u ≡ Ok (a, [])
  whole_reads p u e = ap (λ o. then_do o at_end) e

-- ---- what is told

module _ {A : Type 0} {R Kept : A → List Sym → Type 0} {p : ℕ → Parser A} (reader : IsReader R Kept p) where
  pub only : (turns : ℕ) (ts : List Sym) (a : A) → Kept a ts → length ts < turns → whole (p turns) ts ≡ Ok (a, [])
  only turns ts a k l = whole_reads (p turns) ts (reader.reads turns a ts k l)

  part_kept : (ts : List Sym) (a : A) (o : Result (A × List Sym) Fault) → o ≡ Ok (a, []) → Taken Kept [] ts o → Kept a ts
  part_kept ts a o e t = go (subst (Taken Kept [] ts) e t)
    where
      go : Taken Kept [] ts (Ok (a, [])) → Kept a ts
      go t = subst (Kept a) (sym (t.parts ∙ append-nil t.gone)) t.is

  pub found : (turns : ℕ) (ts : List Sym) (a : A) (r : List Sym) → whole (p turns) ts ≡ Ok (a, r) → Kept a ts
  found turns ts a r is =
      let more : ℕ = turns + suc (length ts) in
      let at : p more ts ≡ Ok (a, []) = ended a r (p more ts) (uncut (whole_grows (reader.grows turns more (omega arith))) ts is (λ c. c)) in
      part_kept ts a (p more ts) at ((reader.takes more ts).takes (omega arith))

  pub ends : (turns : ℕ) (ts : List Sym) → length ts < turns → whole (p turns) ts ≡ Err Spent → ⊥
  ends turns ts l = on (p turns ts) ((reader.takes turns ts).takes l)
    where
      on_end : (a : A) (s : List Sym) → at_end a s ≡ Err Spent → ⊥
      on_end a [] e = cc
      on_end a (t ∷ s) e = cc

      on : (o : Result (A × List Sym) Fault) → Taken Kept [] ts o → then_do o at_end ≡ Err Spent → ⊥
      on (Ok read) h e = on_end read.0 read.1 e
      on (Err (Syntax n)) h e = cc
      on (Err (Deep n)) h e = cc
      on (Err Spent) h e = h

  pub refused : {Text : List Sym → Type 0} → ((a : A) (u : List Sym) → R a u → Text u) → ((u : List Sym) → Text u → (a : A) × R a u)
      → (turns : ℕ) (ts : List Sym) (n : ℕ) → whole (p turns) ts ≡ Err (Syntax n) → IsPlace Text ts n
  refused {Text} text untext turns ts n e = is_place (whole_follows (reader.follows turns ts)) e text larger
    where
      larger : (u : List Sym) → Text u → Larger R ts (Syntax n) u
      larger u t = let r = untext u t in let above = reader.larger r.0 u r.1 in let more : ℕ = turns + suc (length u) in
          record {
            reader = whole (above.reader more);
            follows = whole_follows (above.follows more ts);
            same = uncut (whole_grows (above.grows turns more (omega arith))) ts e (λ c. c);
            value = r.0;
            reads = whole_reads (above.reader more) u (above.reads more (omega arith));
          }

  pub deep : {Text Short : List Sym → Type 0} → ((a : A) (u : List Sym) → R a u → Text u) → ((u : List Sym) → Short u → (a : A) × Kept a u)
      → (turns : ℕ) (ts : List Sym) (n : ℕ) → whole (p turns) ts ≡ Err (Deep n) → IsDeepPlace Text Short ts n
  deep {Text} {Short} text untext turns ts n e = is_deep_place (whole_follows (reader.follows turns ts)) e text larger
    where
      larger : (u : List Sym) → Short u → Larger R ts (Deep n) u
      larger u t = let r = untext u t in let more : ℕ = turns + suc (length u) in
          record {
            reader = whole (p more);
            follows = whole_follows (reader.follows more ts);
            same = uncut (whole_grows (reader.grows turns more (omega arith))) ts e (λ c. true≢false (sym c));
            value = r.0;
            reads = whole_reads (p more) u (reader.reads more r.0 u r.1 (omega arith));
          }
