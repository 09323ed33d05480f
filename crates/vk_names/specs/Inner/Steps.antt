-- No public contract's meaning rests on this: it copies the states of the code that reads a name byte by byte. What a byte makes
-- of the state, and what the end makes of it: the functions of `steps.rt` and `states.rt` give just this.
use Rattle.std.specs.Prelude.{ℕ, ◌+◌, ◌*◌, ◌-◌, ◌==◌, nat_lt, min, Bool, true, false, ◌&&◌, ◌||◌, List, [], ◌∷◌, ◌++◌, length, take, map, Option, Some, None, Result, Ok, Err, pos, negsuc, if◌then◌else◌}
use Rattle.std.specs.Char.{is_ascii_digit}
use Rattle.std.specs.Int.{is_power_of_two}
use Rattle.std.specs.List.{prefix_len}
use Rattle.vk_kinds.specs.declared.kinds.Isa.{Isa}
use Rattle.vk_kinds.specs.declared.kinds.Isa.TheVariants.{B, C, D, E, N, S}
use Rattle.vk_kinds.specs.declared.kinds.Len.TheVariants.{Fixed, Scalable}
use Rattle.vk_kinds.specs.declared.kinds.Step.{Step}
use Rattle.vk_kinds.specs.declared.kinds.Step.TheVariants.{One, By, Arg}
use Rattle.vk_kinds.specs.declared.kinds.Kind.{Kind}
use Rattle.vk_kinds.specs.declared.kinds.Kind.TheVariants.{Vector, Uniform, Linear, Ref, Val, Uval}
use Rattle.vk_kinds.specs.declared.kinds.Length.{Length}
use Rattle.vk_kinds.specs.declared.kinds.Param.{Param}
use Rattle.vk_names.specs.declared.rules.NameRule.{NameRule}
use Rattle.vk_names.specs.declared.rules.NameRule.TheVariants.{N1, N2, N3, N4, N5, N6, N7, N8, N9, N10, N11, N12}
use Rattle.vk_names.specs.declared.rules.NameFault.{NameFault}
use Rattle.vk_names.specs.declared.steps.Run.{Run}
use Rattle.vk_names.specs.declared.steps.Form.{Form}
use Rattle.vk_names.specs.declared.steps.Form.TheVariants.{Plain, Negative, Position}
use Rattle.vk_names.specs.declared.steps.Item.{Item}
use Rattle.vk_names.specs.declared.steps.Item.TheVariants.{Bare, Digits, Whole, Align}
use Rattle.vk_names.specs.declared.states.Found.{Found}
use Rattle.vk_names.specs.declared.states.State.{State}
use Rattle.vk_names.specs.declared.states.State.TheVariants.{Mark, AtIsa, AtMask, AtLen, LenDigits, Next, Inside, Scalar, Done, Fault}
use Rattle.vk_names.specs.Spelling.{front_text, params_text, in_decimal, is_placed, is_name_byte}
use Rattle.vk_names.specs.Pieces.{told_at}

abbrev pub is_s : Isa → Bool
is_s B = false
is_s C = false
is_s D = false
is_s E = false
is_s N = false
is_s S = true

abbrev pub on_ok : {A B : Type 0} → Result A NameFault → (A → Result B NameFault) → Result B NameFault
on_ok (Ok x) f = f x
on_ok (Err e) f = Err e

abbrev pub fault_at : {A : Type 0} → ℕ → NameRule → Result A NameFault
fault_at at rule = Err (record { at = at; rule = rule })

-- ---- runs of digits

-- the number goes on with a digit, and stays at 4294967295 once it is there
abbrev pub with_digit : ℕ → ℕ → ℕ
with_digit n b = min (n * 10 + (b - 48)) 4294967295

abbrev pub run_from : ℕ → Run
run_from at = record { at = at; len = 0; zero = false; value = 0 }

abbrev pub with_byte : Run → ℕ → Run
with_byte run b = record { at = run.at; len = told_at (run.len + 1); zero = if run.len == 0 then b == 48 else run.zero; value = with_digit run.value b }

abbrev pub number_of : ℕ → ℕ → NameRule → Run → Result ℕ NameFault
number_of low high rule run = if run.zero || (nat_lt run.value low || nat_lt high run.value) then fault_at run.at rule else Ok run.value

abbrev pub position_of : Run → Result ℕ NameFault
position_of run = if (run.len == 0) || (run.zero && nat_lt 1 run.len) then fault_at run.at N6 else Ok (min run.value 255)

abbrev pub align_of : Run → Result ℕ NameFault
align_of run = on_ok (number_of 1 65536 N8 run) (λ n. if is_power_of_two n then Ok n else fault_at run.at N8)

abbrev pub step_of_run : Form → Run → Result Step NameFault
step_of_run Plain run = on_ok (number_of 2 2147483647 N6 run) (λ n. Ok (By (pos n)))
step_of_run Negative run = on_ok (number_of 1 2147483647 N6 run) (λ n. Ok (By (negsuc (n - 1))))
step_of_run Position run = on_ok (position_of run) (λ n. Ok (Arg n))

-- ---- parameters

abbrev pub with_step : Kind → Step → Kind
with_step Vector step = Vector
with_step Uniform step = Uniform
with_step (Linear old) step = Linear step
with_step (Ref old) step = Ref step
with_step (Val old) step = Val step
with_step (Uval old) step = Uval step

abbrev pub item_of : ℕ → Option Item
item_of b = if b == 118 then Some (Whole Vector) else (if b == 117 then Some (Whole Uniform) else (if b == 108 then Some (Bare (Linear One)) else (if b == 82 then Some (Bare (Ref One)) else (if b == 76 then Some (Bare (Val One)) else (if b == 85 then Some (Bare (Uval One)) else None)))))

abbrev pub item_with : Item → ℕ → ℕ → Option Item
item_with (Bare kind) at b = if b == 110 then Some (Digits kind Negative (run_from (told_at (at + 1)))) else (if b == 115 then Some (Digits kind Position (run_from (told_at (at + 1)))) else (if is_ascii_digit b then Some (Digits kind Plain (with_byte (run_from at) b)) else None))
item_with (Digits kind form run) at b = if is_ascii_digit b then Some (Digits kind form (with_byte run b)) else None
item_with (Whole kind) at b = None
item_with (Align kind run) at b = if is_ascii_digit b then Some (Align kind (with_byte run b)) else None

abbrev pub param_of : Item → Result Param NameFault
param_of (Bare kind) = Ok (record { kind = kind; align = None })
param_of (Digits kind form run) = on_ok (step_of_run form run) (λ step. Ok (record { kind = with_step kind step; align = None }))
param_of (Whole kind) = Ok (record { kind = kind; align = None })
param_of (Align kind run) = on_ok (align_of run) (λ align. Ok (record { kind = kind; align = Some align }))

abbrev pub has_align : Option ℕ → Bool
has_align None = false
has_align (Some align) = true

abbrev pub opens_align : Param → ℕ → Bool
opens_align p b = if has_align p.align then false else b == 97

-- ---- states

abbrev pub refused : ℕ → NameRule → State
refused at rule = Fault (record { at = at; rule = rule })

-- the length of the text of what stands before a place, if its numbers are in decimal
abbrev pub head_len : Length → List Param → ℕ
head_len front params = length (front_text front) + length (params_text (map in_decimal params))

abbrev pub mark_on : ℕ → ℕ → State
mark_on n b = if (n == 0) && (b == 95) then Mark 1 else (if (n == 1) && (b == 90) then Mark 2 else (if (n == 2) && (b == 71) then Mark 3 else (if (n == 3) && (b == 86) then AtIsa else refused n N1)))

abbrev pub isa_on : ℕ → State
isa_on b = if b == 98 then AtMask B else (if b == 99 then AtMask C else (if b == 100 then AtMask D else (if b == 101 then AtMask E else (if b == 110 then AtMask N else (if b == 115 then AtMask S else refused 4 N2)))))

abbrev pub mask_on : Isa → ℕ → State
mask_on isa b = if b == 77 then AtLen isa true else (if b == 78 then AtLen isa false else refused 5 N3)

abbrev pub len_on : Isa → Bool → ℕ → State
len_on isa masked b = if b == 120 then (if is_s isa && masked then Next (record { isa = isa; masked = masked; len = Scalable }) 7 else refused 6 N11) else (if is_ascii_digit b then LenDigits isa masked (with_byte (run_from 6) b) else refused 6 N4)

-- at the `_` the positions are judged
abbrev pub underscore_on : Length → List Param → ℕ → State
underscore_on front params at = if prefix_len (is_placed params) params == length params then Scalar (record { front = front; scalar_at = told_at (at + 1); used = told_at (at + 1) }) else refused (head_len front (take (prefix_len (is_placed params) params) params) + 2) N7

abbrev pub item_on : Length → List Param → ℕ → Option Item → State
item_on front params at None = refused at N5
item_on front params at (Some item) = if length params == 64 then refused at N12 else Inside front (told_at (at + 1)) item

abbrev pub next_on : Length → List Param → ℕ → ℕ → State
next_on front params at b = if b == 95 then underscore_on front params at else item_on front params at (item_of b)

abbrev pub size_on : Isa → Bool → Run → List Param → ℕ → Result ℕ NameFault → State
size_on isa masked run params b (Ok n) = next_on (record { isa = isa; masked = masked; len = Fixed n }) params (told_at (run.len + 6)) b
size_on isa masked run params b (Err fault) = Fault fault

abbrev pub digits_on : Isa → Bool → Run → List Param → ℕ → State
digits_on isa masked run params b = if is_ascii_digit b then LenDigits isa masked (with_byte run b) else size_on isa masked run params b (number_of 1 65535 N4 run)

abbrev pub scalar_on : Found → ℕ → State
scalar_on found b = if (found.used == found.scalar_at) && is_ascii_digit b then refused found.scalar_at N10 else (if found.used == found.scalar_at + 1024 then refused found.used N10 else Scalar (record { front = found.front; scalar_at = found.scalar_at; used = told_at (found.used + 1) }))

abbrev pub pushed : List Param → Param → List Param
pushed params p = if length params == 64 then params else params ++ (p ∷ [])

abbrev pub param_on : Length → List Param → ℕ → ℕ → Result Param NameFault → State × List Param
param_on front params at b (Err fault) = (Fault fault, params)
param_on front params at b (Ok p) = if opens_align p b then (Inside front (told_at (at + 1)) (Align p.kind (run_from (told_at (at + 1)))), params) else (next_on front (pushed params p) at b, pushed params p)

abbrev pub inside_on : Length → List Param → ℕ → Item → ℕ → Option Item → State × List Param
inside_on front params at item b (Some longer) = (Inside front (told_at (at + 1)) longer, params)
inside_on front params at item b None = param_on front params at b (param_of item)

-- a letter, digit or underscore
unfoldable pub byte_on : State → List Param → ℕ → State × List Param
byte_on (Mark n) params b = (mark_on n b, params)
byte_on AtIsa params b = (isa_on b, params)
byte_on (AtMask isa) params b = (mask_on isa b, params)
byte_on (AtLen isa masked) params b = (len_on isa masked b, params)
byte_on (LenDigits isa masked run) params b = (digits_on isa masked run params b, params)
byte_on (Next front at) params b = (next_on front params at b, params)
byte_on (Inside front at item) params b = inside_on front params at item b (item_with item at b)
byte_on (Scalar found) params b = (scalar_on found b, params)
byte_on (Done found) params b = (Done found, params)
byte_on (Fault fault) params b = (Fault fault, params)

-- ---- the end

abbrev pub cut_off_at : {A : Type 0} → ℕ → Result A NameFault → Result Found NameFault
cut_off_at at (Ok x) = fault_at at N9
cut_off_at at (Err fault) = Err fault

unfoldable pub end_on : State → Result Found NameFault
end_on (Mark n) = fault_at n N1
end_on AtIsa = fault_at 4 N2
end_on (AtMask isa) = fault_at 5 N3
end_on (AtLen isa masked) = fault_at 6 N4
end_on (LenDigits isa masked run) = cut_off_at (told_at (run.len + 6)) (number_of 1 65535 N4 run)
end_on (Next front at) = fault_at at N9
end_on (Inside front at item) = cut_off_at at (param_of item)
end_on (Scalar found) = if found.used == found.scalar_at then fault_at found.scalar_at N10 else Ok found
end_on (Done found) = Ok found
end_on (Fault fault) = Err fault

abbrev pub answered : Result Found NameFault → State
answered (Ok found) = Done found
answered (Err fault) = Fault fault

-- any byte
abbrev pub state_on : State → List Param → ℕ → State × List Param
state_on state params b = if is_name_byte b then byte_on state params b else (answered (end_on state), params)
