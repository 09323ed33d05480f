-- Bytes that come in pieces: when it is due to answer, though more bytes may come.
use Rattle.std.specs.Prelude.{◌≡◌, ℕ, nat_lt, min, Bool, true, false, not, ◌&&◌, ◌||◌, List, length, drop}
use Rattle.vk_names.specs.declared.names.ReadName.{ReadName}
use Rattle.vk_names.specs.declared.rules.NameFault.{NameFault}
use Rattle.vk_names.specs.declared.rules.NameRule.{NameRule}
use Rattle.vk_names.specs.declared.rules.NameRule.TheVariants.{N1, N2, N3, N4, N5, N6, N7, N8, N9, N10, N11, N12, N13}
use Rattle.vk_names.specs.declared.feed.Progress.{Progress}
use Rattle.vk_names.specs.declared.feed.Progress.TheVariants.{More, Done, Fault}
use Rattle.vk_names.specs.Spelling.{text_of}
use Rattle.vk_names.specs.Refusal.{digit_run, NameRefused}

-- a byte that ends the text, no letter, digit or underscore, is among the bytes
abbrev pub is_ended : List ℕ → Bool
is_ended bytes = nat_lt (length (text_of bytes)) (length bytes)

-- the rule judges a run of digits, where it ends
abbrev pub judges_run : NameRule → Bool
judges_run N1 = false
judges_run N2 = false
judges_run N3 = false
judges_run N4 = true
judges_run N5 = false
judges_run N6 = true
judges_run N7 = false
judges_run N8 = true
judges_run N9 = false
judges_run N10 = false
judges_run N11 = false
judges_run N12 = false
judges_run N13 = false

-- the run of digits at the front ends before the bytes do
abbrev pub run_ends : List ℕ → Bool
run_ends bytes = nat_lt (length (digit_run bytes)) (length bytes)

-- A refusal is told of bytes that may go on where its place is below their number. One by N4, N6 or N8 is told only
-- where, moreover, the run of digits from that place ends before the bytes do.
abbrev pub is_told : List ℕ → ℕ → NameRule → Bool
is_told bytes at rule = nat_lt at (length bytes) && (not (judges_run rule) || run_ends (drop at bytes))

-- the refusal is due: the text has ended, or the refusal is told before that
abbrev pub is_due : List ℕ → ℕ → NameRule → Bool
is_due bytes at rule = is_ended bytes || is_told bytes at rule

-- a place as it is told: one past 4294967295 as that
abbrev pub told_at : ℕ → ℕ
told_at at = min at 4294967295

-- the fault says that the bytes are refused, with the place as it is told
abbrev pub SaysRefused : List ℕ → NameFault → Type 0
SaysRefused bytes fault = (at : ℕ) × (fault.at ≡ told_at at) × NameRefused bytes at fault.rule

-- ---- answers

abbrev pub IfMore : Progress → Type 0 → Type 0
IfMore More P = P
IfMore (Done name) P = Unit {0}
IfMore (Fault fault) P = Unit {0}

abbrev pub IfDone : Progress → (ReadName → Type 0) → Type 0
IfDone More P = Unit {0}
IfDone (Done name) P = P name
IfDone (Fault fault) P = Unit {0}

abbrev pub IfFault : Progress → (NameFault → Type 0) → Type 0
IfFault More P = Unit {0}
IfFault (Done name) P = Unit {0}
IfFault (Fault fault) P = P fault

abbrev pub IsDoneAnd : Progress → (ReadName → Type 0) → Type 0
IsDoneAnd More P = ⊥
IsDoneAnd (Done name) P = P name
IsDoneAnd (Fault fault) P = ⊥

abbrev pub IsFaultAnd : Progress → (NameFault → Type 0) → Type 0
IsFaultAnd More P = ⊥
IsFaultAnd (Done name) P = ⊥
IsFaultAnd (Fault fault) P = P fault
