-- Numbers: integer literals with their types (C17 6.4.4.1), and where a floating literal begins (C17 6.4.4.2).
use Rattle.std.specs.Prelude.{ℕ, ◌+◌, ◌-◌, ◌*◌, ◌^◌, ◌==◌, nat_lt, Bool, true, false, ◌&&◌, ◌||◌, List, [], ◌∷◌, drop, Option, Some, None, Result, Ok, Err, if◌then◌else◌}
use Rattle.std.specs.Char.{is_ascii_digit, is_ascii_hexdigit}
use Rattle.std.specs.Int.{is_in_range}
use Rattle.vk_types.specs.declared.types.Ty.{Ty}
use Rattle.vk_types.specs.declared.types.Ty.TheVariants.{I8, I16, I32, I64, U8, U16, U32, U64}
use Rattle.vk_unit_rules.specs.declared.rules.UnitRule.{UnitRule}
use Rattle.vk_unit_rules.specs.declared.rules.UnitRule.TheVariants.{C1, C3}
use Rattle.vk_lex.specs.declared.literals.Base.{Base}
use Rattle.vk_lex.specs.declared.literals.Base.TheVariants.{Decimal, Octal, Hexadecimal}
use Rattle.vk_lex.specs.declared.literals.Suffix.{Suffix}
use Rattle.vk_lex.specs.Characters.{run, after}
use Rattle.vk_lex.specs.Comments.{begins_with}

-- ---- floating literals

abbrev pub is_nil : List ℕ → Bool
is_nil [] = true
is_nil (c ∷ cs) = false

abbrev pub begins_digit : List ℕ → Bool
begins_digit [] = false
begins_digit (c ∷ cs) = is_ascii_digit c

-- a point before a digit, with which all other floating literals begin
abbrev pub begins_fraction : List ℕ → Bool
begins_fraction text = begins_with 46 text && begins_digit (drop 1 text)

-- what follows a sign, where there is one
abbrev pub after_sign : List ℕ → List ℕ
after_sign [] = []
after_sign (c ∷ cs) = if (c == 43) || (c == 45) then cs else c ∷ cs

-- an exponent: its letter, upper or lower case, perhaps a sign, and a digit
abbrev pub begins_exponent : (upper lower : ℕ) → List ℕ → Bool
begins_exponent upper lower [] = false
begins_exponent upper lower (c ∷ cs) = ((c == upper) || (c == lower)) && begins_digit (after_sign cs)

-- `0x` or `0X`
abbrev pub begins_hex : List ℕ → Bool
begins_hex [] = false
begins_hex (c ∷ []) = false
begins_hex (c ∷ d ∷ cs) = (c == 48) && ((d == 120) || (d == 88))

-- digits, and a point or an exponent behind them
abbrev pub begins_decimal_floating : List ℕ → Bool
begins_decimal_floating text = begins_with 46 (after is_ascii_digit text) || begins_exponent 69 101 (after is_ascii_digit text)

-- what follows hexadecimal digits with at most one point among them, of which there is at least one digit
abbrev pub after_hex_digits : List ℕ → Option (List ℕ)
after_hex_digits text =
    if begins_with 46 (after is_ascii_hexdigit text)
    then (if is_nil (run is_ascii_hexdigit text) && is_nil (run is_ascii_hexdigit (drop 1 (after is_ascii_hexdigit text))) then None
    else Some (after is_ascii_hexdigit (drop 1 (after is_ascii_hexdigit text))))
    else (if is_nil (run is_ascii_hexdigit text) then None else Some (after is_ascii_hexdigit text))

abbrev pub some_exponent : Option (List ℕ) → Bool
some_exponent None = false
some_exponent (Some rest) = begins_exponent 80 112 rest

-- `0x`, such digits, and an exponent
abbrev pub begins_hex_floating : List ℕ → Bool
begins_hex_floating text = begins_hex text && some_exponent (after_hex_digits (drop 2 text))

-- Each floating literal that begins with a digit begins with one of these, and each of them is one.
unfoldable pub begins_floating : List ℕ → Bool
begins_floating text = begins_decimal_floating text || begins_hex_floating text

-- ---- integer literals

-- ten, eight or sixteen
abbrev pub radix : Base → ℕ
radix Decimal = 10
radix Octal = 8
radix Hexadecimal = 16

abbrev pub is_octal_digit : ℕ → Bool
is_octal_digit c = is_ascii_digit c && nat_lt c 56

abbrev pub is_digit_of : Base → ℕ → Bool
is_digit_of Decimal c = is_ascii_digit c
is_digit_of Octal c = is_octal_digit c
is_digit_of Hexadecimal c = is_ascii_hexdigit c

-- the number of a digit
abbrev pub digit_value : ℕ → ℕ
digit_value c = if is_ascii_digit c then c - 48 else if is_in_range 65 70 c then c - 55 else if is_in_range 97 102 c then c - 87 else 0

-- the number that is written by the digits of n and these behind them
abbrev pub value_after : ℕ → Base → List ℕ → ℕ
value_after n b [] = n
value_after n b (c ∷ cs) = value_after (n * radix b + digit_value c) b cs

-- the text begins with `u` or `U`
abbrev pub begins_unsigned : List ℕ → Bool
begins_unsigned [] = false
begins_unsigned (c ∷ cs) = (c == 117) || (c == 85)

abbrev pub is_long_letter : ℕ → Bool
is_long_letter c = (c == 108) || (c == 76)

-- how many bytes the `l`, `L`, `ll` or `LL` has with which the text begins; 0 where there is none
abbrev pub long_len : List ℕ → ℕ
long_len [] = 0
long_len (c ∷ []) = if is_long_letter c then 1 else 0
long_len (c ∷ d ∷ cs) = if is_long_letter c then (if c == d then 2 else 1) else 0

abbrev pub ended : List ℕ → Suffix → Option Suffix
ended [] s = Some s
ended (c ∷ cs) s = None

abbrev pub suffix : (unsigned : Bool) → List ℕ → Option Suffix
suffix u text = ended (drop (long_len text) text) (record { unsigned = u; long = nat_lt 0 (long_len text) })

-- at most one `u`, before or behind at most one long part
abbrev pub suffix_of : List ℕ → Option Suffix
suffix_of text =
    if begins_unsigned text then suffix true (drop 1 text)
    else if begins_unsigned (drop (long_len text) text) then ended (drop 1 (drop (long_len text) text)) (record { unsigned = true; long = nat_lt 0 (long_len text) })
    else suffix false text

-- the types of the list for a form, first ones first; `long long` is `long`
abbrev pub signed_types : Base → (long : Bool) → List Ty
signed_types Decimal l = if l then I64 ∷ [] else I32 ∷ I64 ∷ []
signed_types Octal l = if l then I64 ∷ U64 ∷ [] else I32 ∷ U32 ∷ I64 ∷ U64 ∷ []
signed_types Hexadecimal l = if l then I64 ∷ U64 ∷ [] else I32 ∷ U32 ∷ I64 ∷ U64 ∷ []

abbrev pub types_for : Base → Suffix → List Ty
types_for b s = if s.unsigned then (if s.long then U64 ∷ [] else U32 ∷ U64 ∷ []) else signed_types b s.long

-- one more than the greatest number of the type
abbrev pub limit : Ty → ℕ
limit I8 = 2 ^ 7
limit I16 = 2 ^ 15
limit I32 = 2 ^ 31
limit I64 = 2 ^ 63
limit U8 = 2 ^ 8
limit U16 = 2 ^ 16
limit U32 = 2 ^ 32
limit U64 = 2 ^ 64

-- the first of the types that holds the number
abbrev pub first_type : List Ty → ℕ → Option Ty
first_type [] n = None
first_type (t ∷ ts) n = if nat_lt n (limit t) then Some t else first_type ts n

abbrev pub begins_digit_of : Base → List ℕ → Bool
begins_digit_of b [] = false
begins_digit_of b (c ∷ cs) = is_digit_of b c

-- `0x` before a hexadecimal digit, else a `0` of octal, else decimal
abbrev pub base_of : List ℕ → Base
base_of text = if begins_hex text && begins_digit_of Hexadecimal (drop 2 text) then Hexadecimal else if begins_with 48 text then Octal else Decimal

-- the text without the `0x`
abbrev pub body_of : Base → List ℕ → List ℕ
body_of Decimal text = text
body_of Octal text = text
body_of Hexadecimal text = drop 2 text

abbrev pub value_in : Base → List ℕ → ℕ
value_in b text = value_after 0 b (run (is_digit_of b) text)

abbrev pub typed : Option Ty → ℕ → Result (Ty × ℕ) UnitRule
typed None n = Err C3
typed (Some t) n = Ok (t, n)

abbrev pub suffixed : Base → List ℕ → Option Suffix → Result (Ty × ℕ) UnitRule
suffixed b body None = Err C1
suffixed b body (Some s) = typed (first_type (types_for b s) (value_in b body)) (value_in b body)

abbrev pub literal_in : Base → List ℕ → Result (Ty × ℕ) UnitRule
literal_in b body = suffixed b body (suffix_of (after (is_digit_of b) body))

-- The literal that is all of the text: its type and value; C1 where it is none, C3 where no type of the list holds it.
unfoldable pub literal : List ℕ → Result (Ty × ℕ) UnitRule
literal text = literal_in (base_of text) (body_of (base_of text) text)
