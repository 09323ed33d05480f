-- The rows of words of the arguments.
use Rattle.std.proofs.Common.{◌≡◌, ℕ, ◌+◌, ◌*◌, ◌<◌, ◌≤◌, ◌⊎◌, zero, suc, List, [], ◌∷◌, ◌++◌, length, map, get_or, Bor, Err, IsErrOf, Option, Some, ap, sym, subst, refl, arith, below_more, inl, inr, ◌∙◌}
use Rattle.std.proofs.Math.ListN.{length-append}
use Rattle.std.proofs.Math.Seq.{get_or-append_seam}
use Rattle.std.proofs.lemmas.Bool.{cases_lt, cases_order}
use Rattle.std.proofs.lemmas.List.{get_or-append-add, get_or_append_left}
use Rattle.std.proofs.lemmas.Nat.{mul-add-lt}
use Rattle.vk_types.specs.declared.types.Word.{Word}
use Rattle.vk_kinds.specs.declared.heads.CType.{CType}
use Rattle.vk_meaning.specs.Types.{type_at}
use Rattle.vk_meaning.specs.World.{Array}
use Rattle.vk_arguments.specs.Arguments.{IsLeastPair, IsWrongAt}
use Rattle.vk_arguments.specs.Texts.{IsFaultOfValues, Meaning, value_of_lane, values_at}
use Rattle.vk_arguments.specs.Typed.{IsValue}
use Rattle.vk_arguments.specs.Inner.Rows.{AreRows, AreValues, IsRow, IsWrongIn, word_at}
use Rattle.vk_arguments.specs.declared.rows.NoWords.{NoWords}
use Rattle.vk_arguments.specs.declared.rows.NoWords.TheVariants.{Wrong}
use Rattle.vk_arguments.proofs.Parts.{lane_value}

-- ---- a row

-- a fact about each word of a row, and about one more
pub words_more : (P : ℕ → Word → Type 0) (row : List Word) (n : ℕ) (w : Word) → length row ≡ n → ((j : ℕ) → j < n → P j (word_at row j)) → P n w →
    (j : ℕ) → j < n + 1 → P j (word_at (row ++ w ∷ []) j)
words_more P row n w size below here =
    below_more (λ j. P j (word_at (row ++ w ∷ []) j)) n
    (λ j under. subst (P j) (sym (get_or_append_left row (w ∷ []) (record { 0 = 0 }) j (omega arith))) (below j under))
    (subst (λ k. P n (word_at (row ++ w ∷ []) k)) size (subst (P n) (sym (get_or-append_seam row w [] (record { 0 = 0 }))) here))

-- no lane before the first one without a value is wrong
pub missing_first : (n : ℕ) (values : List (Option Word)) (lane : ℕ) (word : ℕ → Word) → lane ≤ n → ((j : ℕ) → j < lane → value_of_lane values j ≡ Some (word j)) →
    (other : ℕ) → IsFaultOfValues n values other → lane ≤ other
missing_first n values lane word within some other fault = elim (cases_lt other lane) [
  | inr le ↦ le
  | inl lt ↦ elim fault [
    | inl missing ↦ let there = some other lt in let none = missing.1 in absurd (cc)
    | inr extra ↦ absurd (omega arith)
  ]
]

-- where each lane has a value and none is too many
none_wrong : (n : ℕ) (values : List (Option Word)) (word : ℕ → Word) → length values ≤ n → ((j : ℕ) → j < n → value_of_lane values j ≡ Some (word j)) →
    (lane : ℕ) → IsFaultOfValues n values lane → ⊥
none_wrong n values word few some lane fault = elim fault [
  | inl missing ↦ let there = some lane missing.0 in let none = missing.1 in cc
  | inr extra ↦ omega (arith, extra.1)
]

pub whole_row : (arrays : List Array) (n : ℕ) (t : CType) (values : List (Option Word)) (row : List Word) → AreValues arrays t values → length values ≤ n → length row ≡ n →
    ((j : ℕ) → j < n → value_of_lane values j ≡ Some (word_at row j)) → IsRow arrays n t values row
whole_row arrays n t values row typed few size words = record {
  size = size;
  right = none_wrong n values (word_at row) few words;
  words = words;
  typed = λ lane h. lane_value arrays t values lane (word_at row lane) typed (words lane h);
}

-- ---- rows

-- no rows
pub rows_none : (word : Meaning) (arrays : List Array) (n : ℕ) (types : List CType) (texts : List (List ℕ)) → AreRows word arrays n 0 types texts []
rows_none word arrays n types texts = record {
  size = omega arith;
  right = λ p lane h. absurd (omega arith);
  words = λ p lane h. absurd (omega arith);
  typed = λ p lane h. absurd (omega arith);
}

-- the word of a row before the last one, and of the last one
word_before : (n count : ℕ) (words row : List Word) (p lane : ℕ) → length words ≡ count * n → p < count → lane < n → word_at (words ++ row) (p * n + lane) ≡ word_at words (p * n + lane)
word_before n count words row p lane size before inside =
    let under : p * n + lane < n * count = mul-add-lt p n lane count before inside in
    get_or_append_left words row (record { 0 = 0 }) (p * n + lane) (omega (arith, size))

word_last : (n count : ℕ) (words row : List Word) (lane : ℕ) → length words ≡ count * n → word_at (words ++ row) (count * n + lane) ≡ word_at row lane
word_last n count words row lane size =
    ap (λ k. word_at (words ++ row) (k + lane)) (sym size) ∙ get_or-append-add words row lane (record { 0 = 0 })

-- one more row
pub rows_more : (word : Meaning) (arrays : List Array) (n count : ℕ) (types : List CType) (texts : List (List ℕ)) (words row : List Word) →
    AreRows word arrays n count types texts words → IsRow arrays n (type_at types count) (values_at word types texts count) row →
    AreRows word arrays n (count + 1) types texts (words ++ row)
rows_more word arrays n count types texts words row are is = record {
  size = length-append words row ∙ (omega (arith, are.size, is.size));
  right = λ p lane h. below_more (λ q. IsFaultOfValues n (values_at word types texts q) lane → ⊥) count (λ q under. are.right q lane under) (is.right lane) p h;
  words = λ p lane h inside. below_more (λ q. value_of_lane (values_at word types texts q) lane ≡ Some (word_at (words ++ row) (q * n + lane))) count
      (λ q under. are.words q lane under inside ∙ ap Some (sym (word_before n count words row q lane are.size under inside)))
      (is.words lane inside ∙ ap Some (sym (word_last n count words row lane are.size))) p h;
  typed = λ p lane h inside. below_more (λ q. IsValue arrays (type_at types q) (word_at (words ++ row) (q * n + lane))) count
      (λ q under. subst (IsValue arrays (type_at types q)) (sym (word_before n count words row q lane are.size under inside)) (are.typed q lane under inside))
      (subst (IsValue arrays (type_at types count)) (sym (word_last n count words row lane are.size)) (is.typed lane inside)) p h;
}

-- ---- the least fault

-- the first wrong ARG behind those with rows
pub least_wrong : (word : Meaning) (arrays : List Array) (n count : ℕ) (types : List CType) (texts : List (List ℕ)) (words : List Word) (p lane : ℕ) → p < count →
    AreRows word arrays n p types texts words → IsFaultOfValues n (values_at word types texts p) lane →
    ((other : ℕ) → IsFaultOfValues n (values_at word types texts p) other → lane ≤ other) → IsLeastPair (IsWrongIn word n count types texts) p lane
least_wrong word arrays n count types texts words p lane inside are wrong least = record {
  is = record { inside = inside; wrong = wrong };
  least = λ q other fault. elim (cases_order p q) [
    | inl same ↦ inr (same, least other (subst (λ k. IsFaultOfValues n (values_at word types texts k) other) (sym same) fault.wrong))
    | inr rest ↦ elim rest [
      | inl before ↦ inl before
      | inr after ↦ absurd (are.right q other after fault.wrong)
    ]
  ];
}

-- the least wrong ARG of the first ones is the least fault of all
pub least_of_first : (word : Meaning) (n both : ℕ) (types : List CType) (texts : List (List ℕ)) (p lane : ℕ) → both ≤ length texts → both ≤ length types →
    IsLeastPair (IsWrongIn word n both types texts) p lane → IsLeastPair (IsWrongAt word n types texts) p lane
least_of_first word n both types texts p lane few less part =
    let under : p < both = part.is.inside in
    record {
      is = inl (omega arith, omega arith, part.is.wrong);
      least = λ q other fault. elim (cases_lt q both) [
        | inr late ↦ inl (omega arith)
        | inl lt ↦ elim fault [
          | inl here ↦ part.least q other (record { inside = lt; wrong = here.2 })
          | inr rest ↦ elim rest [ inl missing ↦ absurd (omega arith) | inr extra ↦ absurd (omega arith) ]
        ]
      ];
    }

-- where the first ones have rows, and one is missing or extra
pub least_at_end : (word : Meaning) (arrays : List Array) (n both : ℕ) (types : List CType) (texts : List (List ℕ)) (words : List Word) → both ≤ length texts → both ≤ length types →
    (length texts ≡ both) ⊎ (length types ≡ both) → (length texts ≡ length types → ⊥) → AreRows word arrays n both types texts words →
    IsLeastPair (IsWrongAt word n types texts) both 0
least_at_end word arrays n both types texts words few less one other are = record {
  is = elim one [ inl short ↦ inr (inl (omega arith, omega arith, refl)) | inr long ↦ inr (inr (omega arith, omega arith, refl)) ];
  least = λ q lane fault. elim (cases_order both q) [
    | inl same ↦ inr (same, omega arith)
    | inr rest ↦ elim rest [
      | inl lt ↦ inl lt
      | inr before ↦ elim fault [
        | inl here ↦ absurd (are.right q lane before here.2)
        | inr ends ↦ elim ends [ inl missing ↦ absurd (omega arith) | inr extra ↦ absurd (omega arith) ]
      ]
    ]
  ];
}

-- where all have rows
pub none_is_wrong : (word : Meaning) (arrays : List Array) (n : ℕ) (types : List CType) (texts : List (List ℕ)) (words : List Word) → length texts ≡ length types →
    AreRows word arrays n (length types) types texts words → (p lane : ℕ) → IsWrongAt word n types texts p lane → ⊥
none_is_wrong word arrays n types texts words same are p lane fault = elim fault [
  | inl wrong ↦ are.right p lane wrong.0 wrong.2
  | inr rest ↦ elim rest [ inl missing ↦ omega arith | inr extra ↦ omega arith ]
]

-- ---- what was read and told

-- the type and the text that were read at an index
pub type_read : (ts : List CType) (k : ℕ) (d : CType) → k < length ts → get_or ts k d ≡ type_at ts k
type_read [] k d h = absurd (omega arith)
type_read (t ∷ ts) zero d h = refl
type_read (t ∷ ts) (suc k) d h = type_read ts k d (omega arith)

pub text_read : (texts : List (Bor (List ℕ))) (k : ℕ) (d : Bor (List ℕ)) → k < length texts → (get_or texts k d).now ≡ get_or (map (λ (s : Bor (List ℕ)). s.now) texts) k []
text_read [] k d h = absurd (omega arith)
text_read (t ∷ ts) zero d h = refl
text_read (t ∷ ts) (suc k) d h = text_read ts k d (omega arith)

-- what holds of the fault that is given holds of what it was given as
pub given_wrong : {T : Type 0} (P : ℕ → ℕ → Type 0) (a b p lane : ℕ) → IsErrOf {T = T} {E = NoWords} (Err (Wrong a b)) (Wrong p lane) → P a b → P p lane
given_wrong P a b p lane e h = let first : a ≡ p = cc in let second : b ≡ lane = cc in subst (λ k. P k lane) first (subst (λ k. P a k) second h)
