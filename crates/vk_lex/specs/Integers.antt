-- Integer literals in the standard's words (C17 6.4.4.1): a prefix, digits of a base and a suffix.
use Rattle.std.specs.Prelude.{◌≡◌, ◌⊎◌, ℕ, ◌+◌, ◌*◌, ◌^◌, Bool, true, false, List, [], ◌∷◌, ◌++◌, length, codes}
use Rattle.std.specs.Char.{is_ascii_digit, is_ascii_hexdigit}
use Rattle.std.specs.List.{list_all}
use Rattle.vk_lex.specs.declared.literals.Base.{Base}
use Rattle.vk_lex.specs.declared.literals.Base.TheVariants.{Decimal, Octal, Hexadecimal}
use Rattle.vk_lex.specs.declared.literals.Suffix.{Suffix}
use Rattle.vk_lex.specs.Comments.{begins_with}
use Rattle.vk_lex.specs.Literals.{is_nil, is_octal_digit, digit_value, radix}

-- The digits of a base behind their prefix: decimal ones do not begin with 0, octal ones do, hexadecimal ones stand behind
-- `0x` or `0X`.
pub data IsNumber : Base → (prefix digits : List ℕ) → Type 0 where
  decimal : {digits : List ℕ} → is_nil digits ≡ false → begins_with 48 digits ≡ false → list_all is_ascii_digit digits ≡ true → IsNumber Decimal [] digits
  octal : {digits : List ℕ} → begins_with 48 digits ≡ true → list_all is_octal_digit digits ≡ true → IsNumber Octal [] digits
  hexadecimal : {prefix digits : List ℕ} → (prefix ≡ codes "0x") ⊎ (prefix ≡ codes "0X") → is_nil digits ≡ false → list_all is_ascii_hexdigit digits ≡ true
      → IsNumber Hexadecimal prefix digits

-- the number that digits write: each digit times its power of the radix
abbrev pub digits_value : Base → List ℕ → ℕ
digits_value b [] = 0
digits_value b (c ∷ cs) = digit_value c * radix b ^ length cs + digits_value b cs

-- `u` or `U`
pub data IsUnsigned : ℕ → Type 0 where
  small_u : IsUnsigned 117
  capital_u : IsUnsigned 85

-- `l`, `L`, `ll` or `LL`, or nothing
pub data IsLong : List ℕ → Bool → Type 0 where
  no_long : IsLong [] false
  small_l : IsLong (108 ∷ []) true
  capital_l : IsLong (76 ∷ []) true
  small_ll : IsLong (108 ∷ 108 ∷ []) true
  capital_ll : IsLong (76 ∷ 76 ∷ []) true

-- a suffix, or nothing: at most one `u`, before or behind at most one long part
pub data IsSuffix : List ℕ → Suffix → Type 0 where
  signed : {l : List ℕ} {b : Bool} → IsLong l b → IsSuffix l (record { unsigned = false; long = b })
  unsigned_first : {u : ℕ} {l : List ℕ} {b : Bool} → IsUnsigned u → IsLong l b → IsSuffix (u ∷ l) (record { unsigned = true; long = b })
  unsigned_last : {u : ℕ} {l : List ℕ} {b : Bool} → IsLong l b → IsUnsigned u → IsSuffix (l ++ (u ∷ [])) (record { unsigned = true; long = b })

-- the text is a literal of this base and suffix, with this value
pub record IsWritten (text : List ℕ) (b : Base) (s : Suffix) (n : ℕ) : Type 0 where
  pub prefix : List ℕ
  pub digits : List ℕ
  pub behind : List ℕ
  pub parts : text ≡ prefix ++ (digits ++ behind)
  pub number : IsNumber b prefix digits
  pub suffix : IsSuffix behind s
  pub value : n ≡ digits_value b digits
