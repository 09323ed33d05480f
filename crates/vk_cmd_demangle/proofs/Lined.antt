-- A file has one text or one refusal.
use Rattle.std.proofs.Common.{◌≡◌, ℕ, zero, suc, ◌+◌, ◌-◌, ◌<◌, ◌⊎◌, inl, inr, List, [], ◌∷◌, ◌≤◌, length, Option, None, Some, ap, ap₂, sym, ◌∙◌, subst, refl, arith}
use Rattle.std.specs.Prelude.{slice_index_or}
use Rattle.std.proofs.lemmas.Bool.{cases_eq, cases_lt}
use Rattle.std.specs.Str.Lines.{lines}
use Rattle.vk_names.specs.declared.rules.NameRule.{NameRule}
use Rattle.vk_names.specs.Spelling.{Name}
use Rattle.vk_types.specs.declared.types.Stop.{Stop}
use Rattle.vk_names.proofs.Exact.{one_name, one_refusal, spelled_or_refused}
use Rattle.vk_ends.specs.Holds.{Agrees}
use Rattle.vk_ends.specs.declared.ends.Refusal.{Refusal}
use Rattle.vk_ends.specs.declared.ends.Refusal.TheVariants.{Size, Name as Unnamed, Unit as Unfit, NotYet, Call}
use Rattle.vk_cmd_demangle.specs.Demangle.{PrintsNames, RefusesNames}
use Rattle.vk_cmd_demangle.specs.Lines.{AreNames, IsFirstRefused, IsLineRefused, IsNameLine, name_lines}

-- a line that is a name is not refused
named_not_refused : (line : List ℕ) (n : Name) (at : ℕ) (rule : NameRule) → IsNameLine n line → IsLineRefused line at rule → ⊥
named_not_refused line n at rule named refused = elim refused [
  | inl r ↦ spelled_or_refused line n at rule named.spells r
  | inr more ↦ absurd (omega (arith, more.2, ap length named.whole))
]

-- a line is refused at one place by one rule
one_line_refusal : (line : List ℕ) (a b : ℕ) (r s : NameRule) → IsLineRefused line a r → IsLineRefused line b s → (a ≡ b) × (r ≡ s)
one_line_refusal line a b r s first second = elim first [
  | inl p ↦ elim second [ inl q ↦ one_refusal line a b r s p q | inr more ↦ absurd (spelled_or_refused line more.0 a r more.1 p) ]
  | inr p ↦ elim second [
    | inl q ↦ absurd (spelled_or_refused line p.0 b s p.1 q)
    | inr q ↦ (p.3 ∙ sym q.3, p.4 ∙ sym q.4)
  ]
]

-- the first refused line is one
pub one_first : (ls : List (List ℕ)) (i j a b : ℕ) (r s : NameRule) → IsFirstRefused ls i a r → IsFirstRefused ls j b s → (i ≡ j) × (a ≡ b) × (r ≡ s)
one_first ls i j a b r s first second = elim (cases_eq i j) [
  | inl same ↦
      let moved : IsLineRefused (slice_index_or ls i []) b s = subst (λ k. IsLineRefused (slice_index_or ls k []) b s) (sym same) second.refused in
      let one = one_line_refusal (slice_index_or ls i []) a b r s first.refused moved in (same, one.0, one.1)
  | inr other ↦ elim (cases_lt i j) [
    | inl less ↦ let name = second.before i less in absurd (named_not_refused (slice_index_or ls i []) name.0 a r name.1 first.refused)
    | inr past ↦ let name = first.before j (omega arith) in absurd (named_not_refused (slice_index_or ls j []) name.0 b s name.1 second.refused)
  ]
]

-- the name of a line
name_at : (ns : List Name) (ls : List (List ℕ)) (i : ℕ) → AreNames ns ls → i < length ls → (n : Name) × IsNameLine n (slice_index_or ls i [])
name_at [] [] i named h = absurd (omega arith)
name_at [] (l ∷ ls) i named h = absurd named
name_at (n ∷ ns) [] i named h = absurd named
name_at (n ∷ ns) (l ∷ ls) zero named h = (n, named.0)
name_at (n ∷ ns) (l ∷ ls) (suc i) named h = name_at ns ls i named.1 (omega arith)

-- lines that are names have no refused one
pub names_not_refused : (ns : List Name) (ls : List (List ℕ)) (i a : ℕ) (r : NameRule) → AreNames ns ls → IsFirstRefused ls i a r → ⊥
names_not_refused ns ls i a r named first = let name = name_at ns ls i named first.inside in named_not_refused (slice_index_or ls i []) name.0 a r name.1 first.refused

-- lines have one list of names
names_one : (ns ms : List Name) (ls : List (List ℕ)) → AreNames ns ls → AreNames ms ls → ns ≡ ms
names_one [] [] ls a b = refl
names_one [] (m ∷ ms) [] a b = absurd b
names_one [] (m ∷ ms) (l ∷ ls) a b = absurd a
names_one (n ∷ ns) [] [] a b = absurd a
names_one (n ∷ ns) [] (l ∷ ls) a b = absurd b
names_one (n ∷ ns) (m ∷ ms) [] a b = absurd a
names_one (n ∷ ns) (m ∷ ms) (l ∷ ls) a b = ap₂ (λ x xs. x ∷ xs) (one_name l n m a.0.spells b.0.spells) (names_one ns ms ls a.1 b.1)

printed_one : (bytes : List ℕ) (t u : List ℕ) (p q : Option Stop) → PrintsNames (Some bytes) t p → PrintsNames (Some bytes) u q → (t ≡ u) × (p ≡ q)
printed_one bytes t u p q a b = (a.4 ∙ (ap name_lines (names_one a.2 b.2 (lines bytes) a.3 b.3) ∙ sym b.4), a.1 ∙ sym b.1)

printed_apart : (bytes : List ℕ) (t : List ℕ) (p : Option Stop) (refusal : Refusal) → PrintsNames (Some bytes) t p → RefusesNames (Some bytes) refusal → ⊥
printed_apart bytes t p (Size input) a b = let fits = a.0 in let large = b.1 in omega arith
printed_apart bytes t p (Unnamed line at rule) a b = names_not_refused a.2 (lines bytes) (line - 1) at rule a.3 b.2
printed_apart bytes t p (Unfit input line directive rule) a b = b
printed_apart bytes t p (NotYet input) a b = b
printed_apart bytes t p (Call fault) a b = b

pub one_text : (contents : Option (List ℕ)) → Agrees (PrintsNames contents) (RefusesNames contents)
one_text None = record { one = λ t u p q a b. absurd a; apart = λ t p refusal a b. a }
one_text (Some bytes) = record { one = printed_one bytes; apart = printed_apart bytes }

refused_one : (bytes : List ℕ) (a b : Refusal) → RefusesNames (Some bytes) a → RefusesNames (Some bytes) b → a ≡ b
refused_one bytes (Size i) (Size j) a b = ap Size (a.0 ∙ sym b.0)
refused_one bytes (Size i) (Unnamed line at rule) a b = let large = a.1 in let fits = b.0 in absurd (omega arith)
refused_one bytes (Size i) (Unfit input line directive rule) a b = absurd b
refused_one bytes (Size i) (NotYet input) a b = absurd b
refused_one bytes (Size i) (Call fault) a b = absurd b
refused_one bytes (Unnamed line at rule) (Size j) a b = let large = b.1 in let fits = a.0 in absurd (omega arith)
refused_one bytes (Unnamed line at rule) (Unnamed other place second) a b =
    let same = one_first (lines bytes) (line - 1) (other - 1) at place rule second a.2 b.2 in
    let first = a.1 in let last = b.1 in
    let number : line ≡ other = omega (arith, same.0) in
    λ k. Unnamed (number k) (same.1 k) (same.2 k)
refused_one bytes (Unnamed line at rule) (Unfit input l directive r) a b = absurd b
refused_one bytes (Unnamed line at rule) (NotYet input) a b = absurd b
refused_one bytes (Unnamed line at rule) (Call fault) a b = absurd b
refused_one bytes (Unfit input line directive rule) b h k = absurd h
refused_one bytes (NotYet input) b h k = absurd h
refused_one bytes (Call fault) b h k = absurd h

pub one_refusal_told : (contents : Option (List ℕ)) (a b : Refusal) → RefusesNames contents a → RefusesNames contents b → a ≡ b
one_refusal_told None a b h k = absurd h
one_refusal_told (Some bytes) a b h k = refused_one bytes a b h k
