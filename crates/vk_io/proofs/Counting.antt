-- Laws of counts, for callers that make one call behind another.
use Rattle.std.proofs.Common.{ℕ, ◌≤◌, Bool, IsTrue, List, [], ◌∷◌, refl, sym, subst, inl, inr, ◌∙◌, arith}
use Rattle.vk_io.specs.Counts.{CountsOf, IsOneOf}
use Rattle.vk_io.specs.Store.{Reads, StoreState}

-- two changes of these names' counts are one
pub CountsOf-then : (names : List (List ℕ)) (a b c : List ℕ → ℕ) → CountsOf names a b → CountsOf names b c → CountsOf names a c
CountsOf-then names a b c x y = record {
  later = λ q. let first : a q ≤ b q = x.later q in let second : b q ≤ c q = y.later q in omega arith;
  others = λ q ne. y.others q ne ∙ x.others q ne;
}

-- reading twice is reading
pub Reads-then : (names : List (List ℕ)) (a b c : StoreState) → Reads names a b → Reads names b c → Reads names a c
Reads-then names a b c x y = record {
  tells = y.tells ∙ x.tells;
  is_sound = y.is_sound ∙ x.is_sound;
  file = λ q. y.file q ∙ x.file q;
  reads = CountsOf-then names a.reads b.reads c.reads x.reads y.reads;
  present = λ sound q there.
      let Sound : Bool → Type 0 = λ b. IsTrue b in
      y.present (subst Sound (sym x.is_sound) sound) q (λ none. there (sym (x.file q) ∙ none)) ∙ x.present sound q there;
  writes = λ q. y.writes q ∙ x.writes q;
}

-- nothing was read
pub Reads-none : (names : List (List ℕ)) (a : StoreState) → Reads names a a
Reads-none names a = record {
  tells = refl;
  is_sound = refl;
  file = λ q. refl;
  reads = record { later = λ q. omega arith; others = λ q _. refl };
  present = λ sound q there. refl;
  writes = λ q. refl;
}

-- what was read of more names
pub Reads-more : (names more : List (List ℕ)) (a b : StoreState) → ((q : List ℕ) → IsOneOf names q → IsOneOf more q) → Reads names a b → Reads more a b
Reads-more names more a b inside x = record {
  tells = x.tells;
  is_sound = x.is_sound;
  file = x.file;
  reads = record { later = x.reads.later; others = λ q ne. x.reads.others q (λ one. ne (inside q one)) };
  present = x.present;
  writes = x.writes;
}
