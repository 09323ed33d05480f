-- The names of vector variants: their values, their ranges and the one text of each.
--
-- The grammar is that of the vector function ABIs of x86-64 and of AArch64, in this project's profile:
--   name   = "_ZGV" isa mask length { param } "_" scalar
--   isa    = "b" | "c" | "d" | "e" | "n" | "s"          mask = "N" | "M"          length = NUM | "x"
--   param  = kind [ "a" NUM ]          kind = "v" | "u" | ( "l" | "R" | "L" | "U" ) step
--   step   = "" | NUM | "n" NUM | "s" POS
--   scalar = [A-Za-z_] { [A-Za-z0-9_] }          NUM = [1-9] { [0-9] }          POS = "0" | NUM
use Rattle.std.specs.Prelude.{◌≡◌, ℕ, suc, ◌<◌, ◌≤◌, ◌==◌, Bool, true, false, ◌||◌, List, [], ◌∷◌, ◌++◌, length, take, drop, slice_get, slice_index, map, Option, Some, None, pos, negsuc, decimal}
use Rattle.std.specs.Char.{is_ascii_digit, is_ascii_alphanumeric}
use Rattle.std.specs.Int.{is_power_of_two}
use Rattle.std.specs.List.{take_while, list_all, flat_map, AllByRecursion}
use Rattle.std.specs.Str.Parse.{AllDigits, digits_value}
use Rattle.vk_kinds.specs.declared.kinds.Isa.{Isa}
use Rattle.vk_kinds.specs.declared.kinds.Isa.TheVariants.{B, C, D, E, N, S}
use Rattle.vk_kinds.specs.declared.kinds.Len.{Len}
use Rattle.vk_kinds.specs.declared.kinds.Len.TheVariants.{Fixed, Scalable}
use Rattle.vk_kinds.specs.declared.kinds.Step.{Step}
use Rattle.vk_kinds.specs.declared.kinds.Step.TheVariants.{One, By, Arg}
use Rattle.vk_kinds.specs.declared.kinds.Kind.{Kind}
use Rattle.vk_kinds.specs.declared.kinds.Kind.TheVariants.{Vector, Uniform, Linear, Ref, Val, Uval}
use Rattle.vk_kinds.specs.declared.kinds.Length.{Length}
use Rattle.vk_kinds.specs.declared.kinds.Param.{Param}
use Rattle.vk_names.specs.declared.names.NameHead.{NameHead}

-- ---- values

-- what stands before the parameters (a letter, whether there is a mask, a length), the parameters, and the scalar name
pub record Name : Type 0 where
  pub front : Length
  pub params : List Param
  pub scalar : List ℕ

-- A parameter as it is written: where its step is an argument's, the digits of that argument's position.
pub record Written : Type 0 where
  pub param : Param
  pub digits : List ℕ

-- ---- texts

-- `_ZGV`
abbrev pub mark : List ℕ
mark = 95 ∷ 90 ∷ 71 ∷ 86 ∷ []

abbrev pub isa_letter : Isa → ℕ
isa_letter B = 98
isa_letter C = 99
isa_letter D = 100
isa_letter E = 101
isa_letter N = 110
isa_letter S = 115

-- `M`, and `N` where there is no mask
abbrev pub mask_letter : Bool → ℕ
mask_letter true = 77
mask_letter false = 78

-- a number, or `x`
abbrev pub len_text : Len → List ℕ
len_text (Fixed n) = decimal n
len_text Scalable = 120 ∷ []

unfoldable pub front_text : Length → List ℕ
front_text f = mark ++ (isa_letter f.isa ∷ mask_letter f.masked ∷ len_text f.len)

-- nothing for 1, a number, `n` and a number for a negative one, or `s` and the digits of a position
abbrev pub step_text : Step → List ℕ → List ℕ
step_text One digits = []
step_text (By (pos n)) digits = decimal n
step_text (By (negsuc n)) digits = 110 ∷ decimal (suc n)
step_text (Arg at) digits = 115 ∷ digits

abbrev pub kind_letter : Kind → ℕ
kind_letter Vector = 118
kind_letter Uniform = 117
kind_letter (Linear step) = 108
kind_letter (Ref step) = 82
kind_letter (Val step) = 76
kind_letter (Uval step) = 85

abbrev pub step_of : Kind → Option Step
step_of Vector = None
step_of Uniform = None
step_of (Linear step) = Some step
step_of (Ref step) = Some step
step_of (Val step) = Some step
step_of (Uval step) = Some step

abbrev pub optional_step_text : Option Step → List ℕ → List ℕ
optional_step_text None digits = []
optional_step_text (Some step) digits = step_text step digits

abbrev pub kind_text : Kind → List ℕ → List ℕ
kind_text kind digits = kind_letter kind ∷ optional_step_text (step_of kind) digits

-- `a` and a number, or nothing
abbrev pub align_text : Option ℕ → List ℕ
align_text None = []
align_text (Some align) = 97 ∷ decimal align

unfoldable pub written_text : Written → List ℕ
written_text w = kind_text w.param.kind w.digits ++ align_text w.param.align

abbrev pub position_in : Option Step → ℕ
position_in (Some (Arg at)) = at
position_in (Some One) = 0
position_in (Some (By z)) = 0
position_in None = 0

-- the parameter with its position in decimal
abbrev pub in_decimal : Param → Written
in_decimal p = record { param = p; digits = decimal (position_in (step_of p.kind)) }

abbrev pub params_text : List Written → List ℕ
params_text ws = flat_map written_text ws

unfoldable pub name_text : Name → List ℕ
name_text n = front_text n.front ++ (params_text (map in_decimal n.params) ++ (95 ∷ n.scalar))

-- the name of a head and a scalar name
abbrev pub name_of : NameHead → List ℕ → Name
name_of head scalar = record { front = record { isa = head.isa; masked = head.masked; len = head.len }; params = head.params.items; scalar = scalar }

-- the name of a head and of the scalar name that stands in the bytes between two places
abbrev pub name_in : NameHead → ℕ → ℕ → List ℕ → Name
name_in head scalar_at used bytes = name_of head (drop scalar_at (take used bytes))

-- ---- ranges

-- a length from 1 to 65535, or `x` after `sM`
abbrev pub IsLen : Isa → Bool → Len → Type 0
IsLen isa masked (Fixed n) = (1 ≤ n) × (n ≤ 65535)
IsLen isa masked Scalable = (isa ≡ S) × (masked ≡ true)

unfoldable pub IsFront : Length → Type 0
IsFront f = IsLen f.isa f.masked f.len

-- the digits of a number of any size: `0`, or digits that do not begin with 0
pub record IsPosition (digits : List ℕ) : Type 0 where
  pub all : AllDigits 10 digits
  pub nonempty : 0 < length digits
  pub plain : slice_index digits 0 ≡ 48 → length digits ≡ 1

-- a plain step is at least 2, a negative one at most -1, and no magnitude is above 2147483647
abbrev pub IsStep : Step → List ℕ → Type 0
IsStep One digits = Unit {0}
IsStep (By (pos n)) digits = (2 ≤ n) × (n ≤ 2147483647)
IsStep (By (negsuc n)) digits = suc n ≤ 2147483647
IsStep (Arg at) digits = IsPosition digits × (digits_value 10 digits ≡ at)

abbrev pub IsOptionalStep : Option Step → List ℕ → Type 0
IsOptionalStep None digits = Unit {0}
IsOptionalStep (Some step) digits = IsStep step digits

-- a power of two from 1 to 65536
pub record IsAlign (align : ℕ) : Type 0 where
  pub power : is_power_of_two align ≡ true
  pub low : 1 ≤ align
  pub high : align ≤ 65536

abbrev pub IsOptionalAlign : Option ℕ → Type 0
IsOptionalAlign None = Unit {0}
IsOptionalAlign (Some align) = IsAlign align

-- each number of the parameter is in its own range; whether its position names a parameter is said by `is_placed`
pub record IsWritten (w : Written) : Type 0 where
  pub step : IsOptionalStep (step_of w.param.kind) w.digits
  pub align : IsOptionalAlign w.param.align

-- whether there is a parameter and it is uniform
abbrev pub is_uniform : Kind → Bool
is_uniform Vector = false
is_uniform Uniform = true
is_uniform (Linear step) = false
is_uniform (Ref step) = false
is_uniform (Val step) = false
is_uniform (Uval step) = false

abbrev pub is_uniform_param : Option Param → Bool
is_uniform_param None = false
is_uniform_param (Some p) = is_uniform p.kind

abbrev pub step_is_placed : List Param → Option Step → Bool
step_is_placed params (Some (Arg at)) = is_uniform_param (slice_get params at)
step_is_placed params (Some One) = true
step_is_placed params (Some (By z)) = true
step_is_placed params None = true

-- whether the parameter's step, if it is an argument's, names a uniform one among the parameters, by its place from 0
abbrev pub is_placed : List Param → Param → Bool
is_placed params p = step_is_placed params (step_of p.kind)

-- a letter, digit or underscore
abbrev pub is_name_byte : ℕ → Bool
is_name_byte b = is_ascii_alphanumeric b || (b == 95)

-- at least one and at most 1024 letters, digits and underscores, of which the first is no digit
pub record IsScalar (scalar : List ℕ) : Type 0 where
  pub nonempty : 0 < length scalar
  pub first : is_ascii_digit (slice_index scalar 0) ≡ false
  pub bytes : list_all is_name_byte scalar ≡ true
  pub short : length scalar ≤ 1024

-- a name within its ranges
pub record IsName (n : Name) : Type 0 where
  pub front : IsFront n.front
  pub params : AllByRecursion IsWritten (map in_decimal n.params)
  pub count : length n.params ≤ 64
  pub placed : list_all (is_placed n.params) n.params ≡ true
  pub scalar : IsScalar n.scalar

-- ---- what bytes spell

-- the longest front of letters, digits and underscores
abbrev pub text_of : List ℕ → List ℕ
text_of bytes = take_while is_name_byte bytes

-- the bytes spell the name: it is within its ranges, and their text is its text
pub record Spells (n : Name) (bytes : List ℕ) : Type 0 where
  pub fits : IsName n
  pub text : text_of bytes ≡ name_text n
