-- Functions and directives one after another.
use Rattle.std.proofs.Common.{◌≡◌, ℕ, ◌+◌, ◌<◌, ◌≤◌, List, length, Option, Some, slice_get, ap, sym, subst, arith, ◌∙◌, inl, inr}
use Rattle.std.proofs.lemmas.Bool.{cases_lt}
use Rattle.std.specs.Option.{option_map_or}
use Rattle.std.proofs.lemmas.List.{length-map}
use Rattle.std.proofs.lemmas.Option.{slice_get_within}
use Rattle.vk_kinds.specs.declared.kinds.Length.{Length}
use Rattle.vk_kinds.specs.declared.kinds.Param.{Param}
use Rattle.vk_kinds.specs.Sizes.{SignatureTree}
use Rattle.vk_ast.specs.Units.{FunctionTree}
use Rattle.vk_rules_book.specs.Directives.{signatures}
use Rattle.vk_rules_book.specs.Signatures.{signature_of}
use Rattle.vk_rules_book.specs.Rules.{Subject}
use Rattle.vk_rules.specs.Functions.{directives_at, functions_of}
use Rattle.vk_selection.specs.Inner.{IsGiven, IsPart, IsWith}
use Rattle.vk_selection.specs.Selection.{IsScalar}
use Rattle.vk_selection.specs.declared.selection.Variant.{Variant}

-- a number below one more is below, or it is that one
below_or : (P : ℕ → Type 0) (k n : ℕ) → n < k + 1 → (n < k → P n) → P k → P n
below_or P k n h before here = elim (cases_lt n k) [ inl lt ↦ before lt | inr ge ↦ let same : k ≡ n = omega arith in subst P same here ]

-- ---- directives

pub directive_more : (unit : Subject) (g : FunctionTree) (scalar : List ℕ) (params : List Param) (front : Length) (vl k : ℕ) →
    ((d l : ℕ) → d < k → IsGiven unit g scalar params front vl d l → ⊥) →
    ((s : SignatureTree) → slice_get (signatures g) k ≡ Some s → (l : ℕ) → IsWith unit.target g s params front vl l → ⊥) →
    (d l : ℕ) → d < k + 1 → IsGiven unit g scalar params front vl d l → ⊥
directive_more unit g scalar params front vl k before here d l h given =
    below_or (λ n. IsGiven unit g scalar params front vl n l → ⊥) k d h (λ lt. before d l lt) (λ other. here other.signature other.directive_is l other.gives) given

-- how many there are
pub directives_count : (unit : Subject) (f : ℕ) (g : FunctionTree) → slice_get (functions_of unit) f ≡ Some g → directives_at unit f ≡ length (signatures g)
directives_count unit f g at =
    ap (λ (o : Option FunctionTree). option_map_or (λ (h : FunctionTree). length h.directives) o 0) at ∙ sym (length-map g.directives (signature_of g))

pub directive_none : (unit : Subject) (f k : ℕ) (g : FunctionTree) (scalar : List ℕ) (params : List Param) (front : Length) (vl : ℕ) → slice_get (functions_of unit) f ≡ Some g →
    directives_at unit f ≤ k → ((d l : ℕ) → d < k → IsGiven unit g scalar params front vl d l → ⊥) → (d l : ℕ) → IsGiven unit g scalar params front vl d l → ⊥
directive_none unit f k g scalar params front vl at all before d l given =
    let less = slice_get_within (signatures g) d given.signature given.directive_is in
    before d l (omega (arith, directives_count unit f g at, less)) given

-- ---- functions

pub function_more : (unit : Subject) (scalar : List ℕ) (params : List Param) (front : Length) (vl k : ℕ) →
    ((v : Variant) (l : ℕ) → v.function < k → IsPart unit scalar params front vl v l → ⊥) →
    ((g : FunctionTree) → slice_get (functions_of unit) k ≡ Some g → (d l : ℕ) → IsGiven unit g scalar params front vl d l → ⊥) →
    (v : Variant) (l : ℕ) → v.function < k + 1 → IsPart unit scalar params front vl v l → ⊥
function_more unit scalar params front vl k before here v l h part = elim (cases_lt v.function k) [
  | inl lt ↦ before v l lt part
  | inr ge ↦ let same : v.function ≡ k = omega arith in
      here part.tree (subst (λ n. slice_get (functions_of unit) n ≡ Some part.tree) same part.function_is) v.directive l part.given
]

pub function_none : (unit : Subject) (scalar : List ℕ) (params : List Param) (front : Length) (vl k : ℕ) → length (functions_of unit) ≤ k →
    ((v : Variant) (l : ℕ) → v.function < k → IsPart unit scalar params front vl v l → ⊥) → (v : Variant) (l : ℕ) → IsPart unit scalar params front vl v l → ⊥
function_none unit scalar params front vl k all before v l part =
    let less = slice_get_within (functions_of unit) v.function part.tree part.function_is in before v l (omega (arith, less)) part

-- ---- scalar code

pub scalar_more : (unit : Subject) (text : List ℕ) (k : ℕ) → ((n : ℕ) → n < k → IsScalar unit text n → ⊥) → (IsScalar unit text k → ⊥) → (n : ℕ) → n < k + 1 → IsScalar unit text n → ⊥
scalar_more unit text k before here n h = below_or (λ m. IsScalar unit text m → ⊥) k n h (before n) here

pub scalar_none : (unit : Subject) (text : List ℕ) (k : ℕ) → length (functions_of unit) ≤ k → ((n : ℕ) → n < k → IsScalar unit text n → ⊥) → (n : ℕ) → IsScalar unit text n → ⊥
scalar_none unit text k all before n is = let less = slice_get_within (functions_of unit) n is.tree is.function_is in before n (omega (arith, less)) is
