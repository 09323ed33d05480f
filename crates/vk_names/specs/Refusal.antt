-- Where and by which rule bytes are refused as a vector variant's name.
--
-- The text is judged from left to right. A number is the longest run of digits and is judged where the run ends.
-- Positions are judged, in order, at the `_` that ends the parameters.
use Rattle.std.specs.Prelude.{◌≡◌, ◌≢◌, ℕ, ◌+◌, ◌<◌, ◌≤◌, ◌==◌, Bool, true, false, ◌||◌, List, [], ◌∷◌, ◌++◌, length, take, slice_get, map, Option, Some, None, decimal}
use Rattle.std.specs.Char.{is_ascii_digit}
use Rattle.std.specs.List.{take_while, list_all, AllByRecursion}
use Rattle.vk_kinds.specs.declared.kinds.Isa.{Isa}
use Rattle.vk_kinds.specs.declared.kinds.Isa.TheVariants.{S}
use Rattle.vk_kinds.specs.declared.kinds.Len.{Len}
use Rattle.vk_kinds.specs.declared.kinds.Len.TheVariants.{Fixed, Scalable}
use Rattle.vk_kinds.specs.declared.kinds.Step.{Step}
use Rattle.vk_kinds.specs.declared.kinds.Step.TheVariants.{One, By, Arg}
use Rattle.vk_kinds.specs.declared.kinds.Kind.{Kind}
use Rattle.vk_kinds.specs.declared.kinds.Length.{Length}
use Rattle.vk_kinds.specs.declared.kinds.Param.{Param}
use Rattle.vk_names.specs.declared.rules.NameRule.{NameRule}
use Rattle.vk_names.specs.declared.rules.NameRule.TheVariants.{N1, N2, N3, N4, N5, N6, N7, N8, N9, N10, N11, N12}
use Rattle.vk_names.specs.Spelling.{Written, mark, isa_letter, mask_letter, front_text, kind_text, params_text, step_of, IsFront, IsPosition, IsOptionalStep, IsAlign, IsWritten, is_placed, text_of}

-- the longest run of digits at the front
abbrev pub digit_run : List ℕ → List ℕ
digit_run bytes = take_while is_ascii_digit bytes

-- the byte is the first
abbrev pub BeginsWith : ℕ → List ℕ → Type 0
BeginsWith b bytes = (more : List ℕ) × (bytes ≡ b ∷ more)

-- the run of digits at the front is the text of no such number
abbrev pub NoNumber : (ℕ → Type 0) → List ℕ → Type 0
NoNumber P bytes = (n : ℕ) → P n → digit_run bytes ≢ decimal n

-- ---- which bytes go on with what stands before them

abbrev pub len_goes_on : Len → ℕ → Bool
len_goes_on (Fixed n) b = is_ascii_digit b
len_goes_on Scalable b = false

abbrev pub step_goes_on : Option Step → ℕ → Bool
step_goes_on None b = false
step_goes_on (Some One) b = is_ascii_digit b || ((b == 110) || (b == 115))
step_goes_on (Some (By z)) b = is_ascii_digit b
step_goes_on (Some (Arg at)) b = is_ascii_digit b

abbrev pub align_goes_on : Option ℕ → Option Step → ℕ → Bool
align_goes_on (Some align) step b = is_ascii_digit b
align_goes_on None step b = (b == 97) || step_goes_on step b

-- a digit goes on with a number, `a` with a parameter that has no alignment, and a digit, `n` or `s` with an empty step
abbrev pub param_goes_on : Param → ℕ → Bool
param_goes_on p b = align_goes_on p.align (step_of p.kind) b

-- the byte goes on with the last parameter, or with the length where there is none
abbrev pub goes_on : Len → List Written → ℕ → Bool
goes_on len [] b = len_goes_on len b
goes_on len (w ∷ []) b = param_goes_on w.param b
goes_on len (w ∷ v ∷ ws) b = goes_on len (v ∷ ws) b

-- what follows is the end, or begins with a byte that does not go on
abbrev pub Ends : (ℕ → Bool) → List ℕ → Type 0
Ends goes [] = Unit {0}
Ends goes (b ∷ more) = goes b ≡ false

-- one of `l R L U`
abbrev pub has_step : ℕ → Bool
has_step b = (b == 108) || ((b == 82) || ((b == 76) || (b == 85)))

-- one of `v u l R L U`
abbrev pub is_kind_letter : ℕ → Bool
is_kind_letter b = (b == 118) || ((b == 117) || has_step b)

-- the text begins with the front and these whole parameters, each in its own range, and rest follows
pub record Begins (text : List ℕ) (front : Length) (before : List Written) (rest : List ℕ) : Type 0 where
  pub front_fits : IsFront front
  pub before_fit : AllByRecursion IsWritten before
  pub count : length before ≤ 64
  pub whole : Ends (goes_on front.len before) rest
  pub parts : text ≡ front_text front ++ (params_text before ++ rest)

abbrev pub all_params : List Written → List Param
all_params ws = map (λ w. w.param) ws

abbrev pub AllPlaced : List Written → List Written → Type 0
AllPlaced all ws = list_all (is_placed (all_params all)) (all_params ws) ≡ true

-- rest is the end of the text from the place at on
abbrev pub StandsAt : List ℕ → ℕ → List ℕ → Type 0
StandsAt text at rest = at + length rest ≡ length text

-- The text is refused at a place by a rule.
pub data Refused (text : List ℕ) : ℕ → NameRule → Type 0 where
  -- N1: a byte of `_ZGV` differs or is missing
  wrong_mark : (at : ℕ) → at < 4 → take at text ≡ take at mark → slice_get text at ≢ slice_get mark at → Refused text at N1
  -- N2: no letter of an instruction set
  wrong_isa : (rest : List ℕ) → text ≡ mark ++ rest → ((isa : Isa) → ¬ (BeginsWith (isa_letter isa) rest)) → Refused text 4 N2
  -- N3: no mask letter
  wrong_mask : (isa : Isa) (rest : List ℕ) → text ≡ mark ++ (isa_letter isa ∷ rest)
      → ((masked : Bool) → ¬ (BeginsWith (mask_letter masked) rest)) → Refused text 5 N3
  -- N4: no `x`, and no number from 1 to 65535 without a leading 0
  wrong_len : (isa : Isa) (masked : Bool) (rest : List ℕ) → text ≡ mark ++ (isa_letter isa ∷ mask_letter masked ∷ rest)
      → ¬ (BeginsWith 120 rest) → NoNumber (λ n. (1 ≤ n) × (n ≤ 65535)) rest → Refused text 6 N4
  -- N11: `x` not after `sM`
  wrong_x : (isa : Isa) (masked : Bool) (rest : List ℕ) → text ≡ mark ++ (isa_letter isa ∷ mask_letter masked ∷ 120 ∷ rest)
      → ¬ ((isa ≡ S) × (masked ≡ true)) → Refused text 6 N11
  -- N5: a byte that neither goes on, nor begins a parameter, nor is the `_`
  stray : (front : Length) (before : List Written) (b : ℕ) (rest : List ℕ) (at : ℕ) → Begins text front before (b ∷ rest)
      → is_kind_letter b ≡ false → b ≢ 95 → StandsAt text at (b ∷ rest) → Refused text at N5
  -- N12: a 65th parameter
  one_more : (front : Length) (before : List Written) (b : ℕ) (rest : List ℕ) (at : ℕ) → Begins text front before (b ∷ rest)
      → is_kind_letter b ≡ true → length before ≡ 64 → StandsAt text at (b ∷ rest) → Refused text at N12
  -- N9: the text ends where a parameter or the `_` is wanted
  cut_off : (front : Length) (before : List Written) → Begins text front before [] → Refused text (length text) N9
  -- N6: a plain step that is no number from 2 to 2147483647 without a leading 0
  wrong_step : (front : Length) (before : List Written) (b : ℕ) (rest : List ℕ) (at : ℕ) → Begins text front before (b ∷ rest)
      → length before < 64 → has_step b ≡ true → digit_run rest ≢ [] → NoNumber (λ n. (2 ≤ n) × (n ≤ 2147483647)) rest
      → StandsAt text at rest → Refused text at N6
  -- N6: no number from 1 to 2147483647 without a leading 0 after `n`
  wrong_negative : (front : Length) (before : List Written) (b : ℕ) (rest : List ℕ) (at : ℕ) → Begins text front before (b ∷ 110 ∷ rest)
      → length before < 64 → has_step b ≡ true → NoNumber (λ n. (1 ≤ n) × (n ≤ 2147483647)) rest
      → StandsAt text at rest → Refused text at N6
  -- N6: no number without a leading 0 after `s`
  wrong_position : (front : Length) (before : List Written) (b : ℕ) (rest : List ℕ) (at : ℕ) → Begins text front before (b ∷ 115 ∷ rest)
      → length before < 64 → has_step b ≡ true → ¬ (IsPosition (digit_run rest)) → StandsAt text at rest → Refused text at N6
  -- N8: no power of two from 1 to 65536 without a leading 0 after `a`
  wrong_align : (front : Length) (before : List Written) (kind : Kind) (digits rest : List ℕ) (at : ℕ)
      → Begins text front before (kind_text kind digits ++ (97 ∷ rest)) → length before < 64 → IsOptionalStep (step_of kind) digits
      → NoNumber IsAlign rest → StandsAt text at rest → Refused text at N8
  -- N7: the first position, two bytes into its parameter, that names no uniform parameter
  misplaced : (front : Length) (before : List Written) (w : Written) (after : List Written) (rest : List ℕ)
      → Begins text front (before ++ (w ∷ after)) (95 ∷ rest) → AllPlaced (before ++ (w ∷ after)) before
      → is_placed (all_params (before ++ (w ∷ after))) w.param ≡ false
      → Refused text (length (front_text front ++ params_text before) + 2) N7
  -- N10: the scalar name is empty or begins with a digit
  wrong_scalar : (front : Length) (before : List Written) (scalar : List ℕ) (at : ℕ) → Begins text front before (95 ∷ scalar)
      → AllPlaced before before → ((b : ℕ) → BeginsWith b scalar → is_ascii_digit b ≡ true) → StandsAt text at scalar → Refused text at N10
  -- N10: a 1025th byte of the scalar name
  long_scalar : (front : Length) (before : List Written) (b : ℕ) (scalar : List ℕ) (at : ℕ) → Begins text front before (95 ∷ b ∷ scalar)
      → AllPlaced before before → is_ascii_digit b ≡ false → 1024 < length (b ∷ scalar)
      → at + length (b ∷ scalar) ≡ length text + 1024 → Refused text at N10

-- The text of the bytes is refused there, by that rule.
abbrev pub NameRefused : List ℕ → ℕ → NameRule → Type 0
NameRefused bytes at rule = Refused (text_of bytes) at rule
