-- What many bytes make of a state.
use Rattle.std.proofs.Common.{◌≡◌, ℕ, ◌+◌, ◌-◌, ◌≤◌, ◌==◌, Bool, true, false, ◌&&◌, not, List, [], ◌∷◌, length, take, drop, get_or, Option, Some, None, Result, Ok, Err, refl, sym, ap, ◌∙◌, arith}
use Rattle.std.specs.Result.{result_ok}
use Rattle.std.proofs.lemmas.List.{take_all}
use Rattle.std.specs.Char.{is_ascii_digit}
use Rattle.std.specs.List.{fold}
use Rattle.std.proofs.lemmas.Bool.{cases_Bool, and_parts, eqb-true, false≢true, not-true}
use Rattle.vk_kinds.specs.declared.kinds.Isa.{Isa}
use Rattle.vk_kinds.specs.declared.kinds.Len.TheVariants.{Fixed}
use Rattle.vk_kinds.specs.declared.kinds.Kind.{Kind}
use Rattle.vk_kinds.specs.declared.kinds.Length.{Length}
use Rattle.vk_kinds.specs.declared.kinds.Param.{Param}
use Rattle.vk_names.specs.declared.rules.NameRule.TheVariants.{N4}
use Rattle.vk_names.specs.declared.rules.NameFault.{NameFault}
use Rattle.vk_names.specs.declared.steps.Run.{Run}
use Rattle.vk_names.specs.declared.steps.Form.{Form}
use Rattle.vk_names.specs.declared.steps.Form.TheVariants.{Plain, Negative, Position}
use Rattle.vk_names.specs.declared.steps.Item.{Item}
use Rattle.vk_names.specs.declared.steps.Item.TheVariants.{Bare, Digits, Align}
use Rattle.vk_names.specs.declared.states.Found.{Found}
use Rattle.vk_names.specs.declared.states.State.{State}
use Rattle.vk_names.specs.declared.states.State.TheVariants.{Mark, AtIsa, AtMask, AtLen, LenDigits, Next, Inside, Scalar, Done, Fault}
use Rattle.vk_names.specs.Spelling.{is_name_byte}
use Rattle.vk_names.specs.Pieces.{told_at}
use Rattle.vk_names.specs.Inner.Steps.{on_ok, run_from, with_byte, number_of, align_of, item_of, opens_align, isa_on, mask_on, len_on, underscore_on, pushed, byte_on, end_on, state_on}
use Rattle.vk_names.specs.Inner.Many.{from, is_settled, scalar_goes_on, digits_of, IsBefore}
use Rattle.vk_names.proofs.Numbers.{left_or}

-- ---- the first byte

-- what follows so many bytes
abbrev pub behind : ℕ → List ℕ → List ℕ
behind n bytes = take (length bytes - n) (drop n bytes)

opened : (bytes : List ℕ) → 1 ≤ length bytes → bytes ≡ get_or bytes 0 0 ∷ behind 1 bytes
opened [] some = absurd (omega (arith, some))
opened (b ∷ bs) some = ap (λ (t : List ℕ). b ∷ t) (sym (take_all (length (b ∷ bs) - 1) bs (omega arith)))

pub from_nil : (state : State) (params : List Param) (bytes : List ℕ) → length bytes ≡ 0 → from state params bytes ≡ (state, params)
unfolding from
from_nil state params [] none = refl
from_nil state params (b ∷ bs) none = absurd (omega (arith, none))

from_step : (state next : State) (params after : List Param) (b : ℕ) (bs : List ℕ) → state_on state params b ≡ (next, after) → from state params (b ∷ bs) ≡ from next after bs
unfolding from
from_step state next params after b bs e = ap (λ (s : State × List Param). fold (λ so_far b. state_on so_far.0 so_far.1 b) s bs) e

pub from_next : (state next : State) (params after : List Param) (bytes : List ℕ) → 1 ≤ length bytes → state_on state params (get_or bytes 0 0) ≡ (next, after)
    → from state params bytes ≡ from next after (behind 1 bytes)
from_next state next params after bytes some e = ap (λ (t : List ℕ). from state params t) (opened bytes some) ∙ from_step state next params after (get_or bytes 0 0) (behind 1 bytes) e

-- two states that a byte makes the same
on_same : (state other : State) (params after : List Param) (b : ℕ) (bs : List ℕ) → state_on state params b ≡ state_on other after b → from state params (b ∷ bs) ≡ from other after (b ∷ bs)
unfolding from
on_same state other params after b bs e = ap (λ (s : State × List Param). fold (λ so_far b. state_on so_far.0 so_far.1 b) s bs) e

pub from_same : (state other : State) (params after : List Param) (bytes : List ℕ) → 1 ≤ length bytes → state_on state params (get_or bytes 0 0) ≡ state_on other after (get_or bytes 0 0)
    → from state params bytes ≡ from other after bytes
from_same state other params after bytes some e =
    ap (λ (t : List ℕ). from state params t) (opened bytes some)
    ∙ on_same state other params after (get_or bytes 0 0) (behind 1 bytes) e
    ∙ ap (λ (t : List ℕ). from other after t) (sym (opened bytes some))

on_name : (state : State) (params : List Param) (b : ℕ) (next : State × List Param) → is_name_byte b ≡ true → byte_on state params b ≡ next → state_on state params b ≡ next
on_name state params b next named e = rw named e

pub digit_is_named : (b : ℕ) → is_ascii_digit b ≡ true → is_name_byte b ≡ true
digit_is_named b h = rw h refl

-- ---- states that stay

settled_on : (state : State) (params : List Param) (b : ℕ) → is_settled state ≡ true → state_on state params b ≡ (state, params)
unfolding byte_on end_on
settled_on (Mark n) params b is = absurd (false≢true is)
settled_on AtIsa params b is = absurd (false≢true is)
settled_on (AtMask isa) params b is = absurd (false≢true is)
settled_on (AtLen isa masked) params b is = absurd (false≢true is)
settled_on (LenDigits isa masked run) params b is = absurd (false≢true is)
settled_on (Next front at) params b is = absurd (false≢true is)
settled_on (Inside front at item) params b is = absurd (false≢true is)
settled_on (Scalar found) params b is = absurd (false≢true is)
settled_on (Done found) params b is = left_or (cases_Bool (is_name_byte b)) (λ yes. rw yes refl) (λ other. rw other refl)
settled_on (Fault fault) params b is = left_or (cases_Bool (is_name_byte b)) (λ yes. rw yes refl) (λ other. rw other refl)

pub settled_stays : (state : State) (params : List Param) (bytes : List ℕ) → is_settled state ≡ true → from state params bytes ≡ (state, params)
settled_stays state params [] is = from_nil state params [] refl
settled_stays state params (b ∷ bs) is = from_step state state params params b bs (settled_on state params b is) ∙ settled_stays state params bs is

-- ---- the scalar name

pub scalar_on_name : (found : Found) (params : List Param) (b used : ℕ) → scalar_goes_on found b ≡ true → used ≡ told_at (found.used + 1)
    → state_on (Scalar found) params b ≡ (Scalar (record { front = found.front; scalar_at = found.scalar_at; used = used }), params)
unfolding byte_on
scalar_on_name found params b used goes is =
    let p = and_parts (is_name_byte b) (not ((found.used == found.scalar_at) && is_ascii_digit b) && not (found.used == found.scalar_at + 1024)) goes in
    let q = and_parts (not ((found.used == found.scalar_at) && is_ascii_digit b)) (not (found.used == found.scalar_at + 1024)) p.1 in
    let first = not-true ((found.used == found.scalar_at) && is_ascii_digit b) q.0 in
    let room = not-true (found.used == found.scalar_at + 1024) q.1 in
    rw (p.0, first, room, is) refl

-- ---- digits

digits_taken : (make : ℕ → Run → State) (params : List Param) → ((at : ℕ) (run : Run) (b : ℕ) → is_ascii_digit b ≡ true → state_on (make at run) params b ≡ (make (told_at (at + 1)) (with_byte run b), params))
    → (at : ℕ) (run : Run) (bytes : List ℕ) → from (make at run) params bytes ≡ from (make (digits_of at run bytes).0 (digits_of at run bytes).1) params (digits_of at run bytes).2
digits_taken make params one at run [] = refl
digits_taken make params one at run (b ∷ bs) =
    left_or (cases_Bool (is_ascii_digit b))
    (λ yes. rw yes (from_step (make at run) (make (told_at (at + 1)) (with_byte run b)) params params b bs (one at run b yes) ∙ digits_taken make params one (told_at (at + 1)) (with_byte run b) bs))
    (λ other. rw other refl)

digits_are : (make : ℕ → Run → State) (params : List Param) → ((at : ℕ) (run : Run) (b : ℕ) → is_ascii_digit b ≡ true → state_on (make at run) params b ≡ (make (told_at (at + 1)) (with_byte run b), params))
    → (at : ℕ) (run : Run) (bytes : List ℕ) (got : ℕ × Run × List ℕ) → got ≡ digits_of at run bytes → from (make at run) params bytes ≡ from (make got.0 got.1) params got.2
digits_are make params one at run bytes got is = digits_taken make params one at run bytes ∙ ap (λ (d : ℕ × Run × List ℕ). from (make d.0 d.1) params d.2) (sym is)

pub step_digits_are : (front : Length) (kind : Kind) (form : Form) (params : List Param) (at : ℕ) (run : Run) (bytes : List ℕ) (got : ℕ × Run × List ℕ) → got ≡ digits_of at run bytes
    → from (Inside front at (Digits kind form run)) params bytes ≡ from (Inside front got.0 (Digits kind form got.1)) params got.2
unfolding byte_on
step_digits_are front kind form params at run bytes got is = digits_are (λ n r. Inside front n (Digits kind form r)) params (λ n r b digit. rw (digit_is_named b digit, digit) refl) at run bytes got is

pub align_digits_are : (front : Length) (kind : Kind) (params : List Param) (at : ℕ) (run : Run) (bytes : List ℕ) (got : ℕ × Run × List ℕ) → got ≡ digits_of at run bytes
    → from (Inside front at (Align kind run)) params bytes ≡ from (Inside front got.0 (Align kind got.1)) params got.2
unfolding byte_on
align_digits_are front kind params at run bytes got is = digits_are (λ n r. Inside front n (Align kind r)) params (λ n r b digit. rw (digit_is_named b digit, digit) refl) at run bytes got is

pub len_digits_are : (isa : Isa) (masked : Bool) (params : List Param) (at : ℕ) (run : Run) (bytes : List ℕ) (got : ℕ × Run × List ℕ) → got ≡ digits_of at run bytes
    → from (LenDigits isa masked run) params bytes ≡ from (LenDigits isa masked got.1) params got.2
unfolding byte_on
len_digits_are isa masked params at run bytes got is = digits_are (λ n r. LenDigits isa masked r) params (λ n r b digit. rw (digit_is_named b digit, digit) refl) at run bytes got is

-- ---- parameters

pub negative_begins : (front : Length) (at next : ℕ) (kind : Kind) (run : Run) (params : List Param) (b : ℕ) → b ≡ 110 → next ≡ told_at (at + 1) → run ≡ run_from next
    → state_on (Inside front at (Bare kind)) params b ≡ (Inside front next (Digits kind Negative run), params)
unfolding byte_on
negative_begins front at next kind run params b letter place is = rw (letter, is, place) refl

pub position_begins : (front : Length) (at next : ℕ) (kind : Kind) (run : Run) (params : List Param) (b : ℕ) → b ≡ 115 → next ≡ told_at (at + 1) → run ≡ run_from next
    → state_on (Inside front at (Bare kind)) params b ≡ (Inside front next (Digits kind Position run), params)
unfolding byte_on
position_begins front at next kind run params b letter place is = rw (letter, is, place) refl

differs : (b c : ℕ) → is_ascii_digit b ≡ true → is_ascii_digit c ≡ false → (b == c) ≡ false
differs b c digit other = left_or (cases_Bool (b == c)) (λ yes. absurd (false≢true (sym other ∙ ap is_ascii_digit (sym (eqb-true b c yes)) ∙ digit))) (λ no. no)

pub plain_begins : (front : Length) (at next : ℕ) (kind : Kind) (run : Run) (params : List Param) (b : ℕ) → is_ascii_digit b ≡ true → next ≡ told_at (at + 1) → run ≡ with_byte (run_from at) b
    → state_on (Inside front at (Bare kind)) params b ≡ (Inside front next (Digits kind Plain run), params)
unfolding byte_on
plain_begins front at next kind run params b digit place is = rw (is, place, digit_is_named b digit, differs b 110 digit refl, differs b 115 digit refl, digit) refl

pub param_ends : (front : Length) (at : ℕ) (item : Item) (params : List Param) (b : ℕ) (p : Param) → IsBefore item at b p → opens_align p b ≡ false
    → state_on (Inside front at item) params b ≡ state_on (Next front at) (pushed params p) b
unfolding byte_on
param_ends front at item params b p is shut = rw (is.in_name, is.ends, is.param_is, shut) refl

pub align_begins : (front : Length) (at next : ℕ) (item : Item) (params : List Param) (b : ℕ) (p : Param) → IsBefore item at b p → opens_align p b ≡ true → next ≡ told_at (at + 1)
    → state_on (Inside front at item) params b ≡ (Inside front next (Align p.kind (run_from next)), params)
unfolding byte_on
align_begins front at next item params b p is opens place = rw (is.in_name, is.ends, is.param_is, opens, place) refl

ok_is : (x : Result Param NameFault) (p q : Param) → x ≡ Ok p → x ≡ Ok q → p ≡ q
ok_is x p q e f = cc

no_param : (f : NameFault) (p : Param) (x : Result Param NameFault) → x ≡ Err f → x ≡ Ok p → ⊥
no_param f p x e g = cc

aligned_shut : (kind : Kind) (r : Result ℕ NameFault) (p : Param) (b : ℕ) → on_ok r (λ align. Ok (record { kind = kind; align = Some align })) ≡ Ok p → opens_align p b ≡ false
aligned_shut kind (Ok n) p b e = ap (λ (q : Param). opens_align q b) (sym (ok_is (Ok (record { kind = kind; align = Some n })) (record { kind = kind; align = Some n }) p refl e))
aligned_shut kind (Err f) p b e = absurd (no_param f p (Err f) refl e)

pub align_ends : (front : Length) (at : ℕ) (kind : Kind) (run : Run) (params : List Param) (b : ℕ) (p : Param) → IsBefore (Align kind run) at b p
    → state_on (Inside front at (Align kind run)) params b ≡ state_on (Next front at) (pushed params p) b
align_ends front at kind run params b p is = param_ends front at (Align kind run) params b p is (aligned_shut kind (align_of run) p b is.param_is)

pub param_begins : (front : Length) (at next : ℕ) (params : List Param) (b : ℕ) (item : Item) → is_name_byte b ≡ true → (b == 95) ≡ false → item_of b ≡ Some item → (length params == 64) ≡ false → next ≡ told_at (at + 1)
    → state_on (Next front at) params b ≡ (Inside front next item, params)
unfolding byte_on
param_begins front at next params b item named other is room place = rw (named, other, is, room, place) refl

pub params_end : (front : Length) (at : ℕ) (params : List Param) (b : ℕ) (found : Found) → b ≡ 95 → underscore_on front params at ≡ Scalar found → state_on (Next front at) params b ≡ (Scalar found, params)
unfolding byte_on
params_end front at params b found letter is = rw letter (ap (λ (s : State). (s, params)) is)

-- ---- the front

-- the bytes begin with these six
six : (bytes : List ℕ) → 6 ≤ length bytes → bytes ≡ get_or bytes 0 0 ∷ get_or bytes 1 0 ∷ get_or bytes 2 0 ∷ get_or bytes 3 0 ∷ get_or bytes 4 0 ∷ get_or bytes 5 0 ∷ behind 6 bytes
six [] some = absurd (omega (arith, some))
six (a ∷ []) some = absurd (omega (arith, some))
six (a ∷ b ∷ []) some = absurd (omega (arith, some))
six (a ∷ b ∷ c ∷ []) some = absurd (omega (arith, some))
six (a ∷ b ∷ c ∷ d ∷ []) some = absurd (omega (arith, some))
six (a ∷ b ∷ c ∷ d ∷ e ∷ []) some = absurd (omega (arith, some))
six (a ∷ b ∷ c ∷ d ∷ e ∷ f ∷ rest) some = ap (λ (t : List ℕ). a ∷ b ∷ c ∷ d ∷ e ∷ f ∷ t) (sym (take_all (length (a ∷ b ∷ c ∷ d ∷ e ∷ f ∷ rest) - 6) rest (omega arith)))

letters_read : (params : List Param) (i m : ℕ) (bs : List ℕ) (isa read : Isa) (masked : Bool) → is_name_byte i ≡ true → is_name_byte m ≡ true → isa_on i ≡ AtMask isa → mask_on isa m ≡ AtLen read masked
    → from (Mark 0) params (95 ∷ 90 ∷ 71 ∷ 86 ∷ i ∷ m ∷ bs) ≡ from (AtLen read masked) params bs
unfolding byte_on
letters_read params i m bs isa read masked named also is_isa is_mask =
    from_step (Mark 0) (Mark 1) params params 95 (90 ∷ 71 ∷ 86 ∷ i ∷ m ∷ bs) refl
    ∙ from_step (Mark 1) (Mark 2) params params 90 (71 ∷ 86 ∷ i ∷ m ∷ bs) refl
    ∙ from_step (Mark 2) (Mark 3) params params 71 (86 ∷ i ∷ m ∷ bs) refl
    ∙ from_step (Mark 3) AtIsa params params 86 (i ∷ m ∷ bs) refl
    ∙ from_step AtIsa (AtMask isa) params params i (m ∷ bs) (on_name AtIsa params i (AtMask isa, params) named (ap (λ (s : State). (s, params)) is_isa))
    ∙ from_step (AtMask isa) (AtLen read masked) params params m bs (on_name (AtMask isa) params m (AtLen read masked, params) also (ap (λ (s : State). (s, params)) is_mask))

-- the bytes begin with `_ZGV`
pub record IsMarked (bytes : List ℕ) : Type 0 where
  pub first : get_or bytes 0 0 ≡ 95
  pub second : get_or bytes 1 0 ≡ 90
  pub third : get_or bytes 2 0 ≡ 71
  pub fourth : get_or bytes 3 0 ≡ 86

pub letters_are : (params : List Param) (bytes : List ℕ) (isa read : Isa) (masked : Bool) → 6 ≤ length bytes → IsMarked bytes → is_name_byte (get_or bytes 4 0) ≡ true → is_name_byte (get_or bytes 5 0) ≡ true
    → isa_on (get_or bytes 4 0) ≡ AtMask isa → mask_on isa (get_or bytes 5 0) ≡ AtLen read masked → from (Mark 0) params bytes ≡ from (AtLen read masked) params (behind 6 bytes)
letters_are params bytes isa read masked some mark named also is_isa is_mask =
    let i = get_or bytes 4 0 in
    let m = get_or bytes 5 0 in
    ap (λ (t : List ℕ). from (Mark 0) params t)
    (six bytes some
    ∙ ap (λ (b : ℕ). b ∷ get_or bytes 1 0 ∷ get_or bytes 2 0 ∷ get_or bytes 3 0 ∷ i ∷ m ∷ behind 6 bytes) mark.first
    ∙ ap (λ (b : ℕ). 95 ∷ b ∷ get_or bytes 2 0 ∷ get_or bytes 3 0 ∷ i ∷ m ∷ behind 6 bytes) mark.second
    ∙ ap (λ (b : ℕ). 95 ∷ 90 ∷ b ∷ get_or bytes 3 0 ∷ i ∷ m ∷ behind 6 bytes) mark.third
    ∙ ap (λ (b : ℕ). 95 ∷ 90 ∷ 71 ∷ b ∷ i ∷ m ∷ behind 6 bytes) mark.fourth)
    ∙ letters_read params i m (behind 6 bytes) isa read masked named also is_isa is_mask

pub len_read : (params : List Param) (isa : Isa) (masked : Bool) (b : ℕ) (next : State) → is_name_byte b ≡ true → len_on isa masked b ≡ next → state_on (AtLen isa masked) params b ≡ (next, params)
unfolding byte_on
len_read params isa masked b next named is = on_name (AtLen isa masked) params b (next, params) named (ap (λ (s : State). (s, params)) is)

some_is : (x y : ℕ) → Some x ≡ Some y → x ≡ y
some_is x y e = cc

no_number : (y : ℕ) (x : Option ℕ) → x ≡ None → x ≡ Some y → ⊥
no_number y x e g = cc

ok_of : (r : Result ℕ NameFault) (x : ℕ) → result_ok r ≡ Some x → r ≡ Ok x
ok_of (Ok y) x e = ap Ok (some_is y x e)
ok_of (Err f) x e = absurd (no_number x None refl e)

pub len_ends : (params : List Param) (isa : Isa) (masked : Bool) (run : Run) (b n place : ℕ) (r : Result ℕ NameFault) → is_name_byte b ≡ true → is_ascii_digit b ≡ false
    → r ≡ number_of 1 65535 N4 run → result_ok r ≡ Some n → place ≡ told_at (run.len + 6)
    → state_on (LenDigits isa masked run) params b ≡ state_on (Next (record { isa = isa; masked = masked; len = Fixed n }) place) params b
unfolding byte_on
len_ends params isa masked run b n place r named other is some at = rw (named, other, sym is ∙ ok_of r n some, at) refl
