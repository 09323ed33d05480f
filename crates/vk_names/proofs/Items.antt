-- Parameters that come byte by byte.
use Rattle.std.proofs.Common.{◌≡◌, ℕ, ◌+◌, true, false, cond, eqb, List, [], ◌∷◌, ◌++◌, length, Option, Some, None, Result, Ok, Err, refl, sym, ap, subst, ◌∙◌, arith, length-append, append_assoc}
use Rattle.std.specs.Char.{is_ascii_digit}
use Rattle.std.specs.List.{list_all}
use Rattle.std.proofs.lemmas.Bool.{eqb-true}
use Rattle.std.proofs.lemmas.List.{append-nil}
use Rattle.vk_kinds.specs.declared.kinds.Step.{Step}
use Rattle.vk_kinds.specs.declared.kinds.Step.TheVariants.{One}
use Rattle.vk_kinds.specs.declared.kinds.Kind.{Kind}
use Rattle.vk_kinds.specs.declared.kinds.Kind.TheVariants.{Vector, Uniform, Linear, Ref, Val, Uval}
use Rattle.vk_kinds.specs.declared.kinds.Param.{Param}
use Rattle.vk_names.specs.declared.rules.NameRule.{NameRule}
use Rattle.vk_names.specs.declared.rules.NameRule.TheVariants.{N6, N8}
use Rattle.vk_names.specs.declared.rules.NameFault.{NameFault}
use Rattle.vk_names.proofs.Reading.{Stop}
use Rattle.vk_names.specs.declared.steps.Run.{Run}
use Rattle.vk_names.specs.declared.steps.Form.{Form}
use Rattle.vk_names.specs.declared.steps.Form.TheVariants.{Plain, Negative, Position}
use Rattle.vk_names.specs.declared.steps.Item.{Item}
use Rattle.vk_names.specs.declared.steps.Item.TheVariants.{Bare, Digits, Whole, Align}
use Rattle.vk_names.specs.Refusal.{Ends, is_kind_letter}
use Rattle.vk_names.specs.Pieces.{told_at, judges_run}
use Rattle.vk_names.proofs.Reading.{◌>>=◌, step_at, kind_at, align_at, param_at}
use Rattle.vk_names.specs.Inner.Steps.{on_ok, run_from, with_byte, align_of, step_of_run, with_step, item_of, item_with, param_of}
use Rattle.vk_names.proofs.Standing.{form_at, EndsWith, ItemIs}
use Rattle.vk_names.proofs.Numbers.{chosen, left_or}
use Rattle.vk_names.proofs.Runs.{passes, fails, Steps, Aligns, run_begins, run_more, step_judged, align_judged}

some_is : {A : Type 0} (x y : A) → Some x ≡ Some y → x ≡ y
some_is x y e = cc

some_not : {A : Type 0} (x : A) → Some x ≡ None → ⊥
some_not x e = cc

-- ---- where an item ends

-- no byte goes on with the item
abbrev pub Closed : Item → ℕ → List ℕ → Type 0
Closed item at [] = Unit {0}
Closed item at (b ∷ more) = item_with item at b ≡ None

-- the parameter is read up to the rest, or up to its alignment, or its run of digits is refused
pub data ItemJudged (place : ℕ) (bytes rest : List ℕ) : Result Param NameFault → Type 0 where
  bare : (kind : Kind) → kind_at (bytes ++ rest) ≡ Ok (kind, rest) → ItemJudged place bytes rest (Ok (record { kind = kind; align = None }))
  aligned : (kind : Kind) (align : ℕ) → param_at (bytes ++ rest) ≡ Ok (record { kind = kind; align = Some align }, rest) → ItemJudged place bytes rest (Ok (record { kind = kind; align = Some align }))
  refused : (told at : ℕ) (ds : List ℕ) (rule : NameRule) → told ≡ told_at at → at + length ds ≡ place → list_all is_ascii_digit ds ≡ true → EndsWith ds bytes → judges_run rule ≡ true → Ends is_ascii_digit rest
      → param_at (bytes ++ rest) ≡ Err (record { left = length (ds ++ rest); rule = rule }) → ItemJudged place bytes rest (Err (record { at = told; rule = rule }))

no_digit : (b : ℕ) (longer : Item) → cond (is_ascii_digit b) (Some longer) None ≡ None → is_ascii_digit b ≡ false
no_digit b longer e = left_or (chosen (is_ascii_digit b) (Some longer) None None e) (λ y. absurd (some_not longer y.1)) (λ n. n.0)

digits_end : (kind : Kind) (form : Form) (run : Run) (at : ℕ) (rest : List ℕ) → Closed (Digits kind form run) at rest → Ends is_ascii_digit rest
digits_end kind form run at [] closed = tt
digits_end kind form run at (b ∷ bs) closed = no_digit b (Digits kind form (with_byte run b)) closed

align_ends : (kind : Kind) (run : Run) (at : ℕ) (rest : List ℕ) → Closed (Align kind run) at rest → Ends is_ascii_digit rest
align_ends kind run at [] closed = tt
align_ends kind run at (b ∷ bs) closed = no_digit b (Align kind (with_byte run b)) closed

no_step : (kind : Kind) (at : ℕ) (rest : List ℕ) → Closed (Bare kind) at rest → step_at rest ≡ Ok (One, rest)
unfolding step_at
no_step kind at [] closed = refl
no_step kind at (b ∷ bs) closed =
    left_or (chosen (eqb b 110) _ _ None closed) (λ y. absurd (some_not (Digits kind Negative (run_from (told_at (at + 1)))) y.1))
    (λ n. left_or (chosen (eqb b 115) _ _ None n.1) (λ y. absurd (some_not (Digits kind Position (run_from (told_at (at + 1)))) y.1))
    (λ m. rw (n.0, m.0, no_digit b (Digits kind Plain (with_byte (run_from at) b)) m.1) refl))

from_steps : (kind : Kind) (told at place : ℕ) (ds bytes rest : List ℕ) (x : Result Step NameFault) (y : Result (Step × List ℕ) Stop) → told ≡ told_at at → at + length ds ≡ place
    → list_all is_ascii_digit ds ≡ true → EndsWith ds bytes → Ends is_ascii_digit rest → Steps told (ds ++ rest) rest x y → kind_at (bytes ++ rest) ≡ (y >>= λ step. Ok (with_step kind step.0, step.1))
    → ItemJudged place bytes rest (on_ok x (λ step. Ok (record { kind = with_step kind step; align = None })))
unfolding param_at
from_steps kind told at place ds bytes rest x y is sum all last stops (passes step) reads = bare (with_step kind step) reads
from_steps kind told at place ds bytes rest x y is sum all last stops fails reads = refused told at ds N6 is sum all last refl stops (rw reads refl)

from_align : (kind : Kind) (told at place : ℕ) (ds bytes rest : List ℕ) (x : Result ℕ NameFault) (y : Result (Option ℕ × List ℕ) Stop) → told ≡ told_at at → at + length ds ≡ place
    → list_all is_ascii_digit ds ≡ true → EndsWith ds bytes → Ends is_ascii_digit rest → Aligns told (ds ++ rest) rest x y → param_at (bytes ++ rest) ≡ (y >>= λ align. Ok (record { kind = kind; align = align.0 }, align.1))
    → ItemJudged place bytes rest (on_ok x (λ align. Ok (record { kind = kind; align = Some align })))
from_align kind told at place ds bytes rest x y is sum all last stops (passes align) reads = aligned kind align reads
from_align kind told at place ds bytes rest x y is sum all last stops fails reads = refused told at ds N8 is sum all last refl stops reads

pub item_judged : (item : Item) (at place : ℕ) (bytes rest : List ℕ) → ItemIs item place bytes → Closed item at rest → ItemJudged place bytes rest (param_of item)
unfolding param_at align_at
item_judged (Bare kind) at place bytes rest is closed =
    bare kind (is.1 rest ∙ rw (no_step kind at rest closed) (ap (λ (k : Kind). Ok (k, rest)) is.0))
item_judged (Digits kind form run) at place bytes rest is closed =
    let stops = digits_end kind form run at rest closed in
    from_steps kind run.at is.0 place is.1 bytes rest (step_of_run form run) (form_at form (is.1 ++ rest)) is.3.place is.2 is.3.digits is.4 stops (step_judged form run is.0 is.1 rest is.3 stops) (is.5 rest)
item_judged (Whole kind) at place bytes rest is closed = bare kind (is rest)
item_judged (Align kind run) at place bytes rest is closed =
    let stops = align_ends kind run at rest closed in
    from_align kind run.at is.0 place is.1 bytes rest (align_of run) _ is.3.place is.2 is.3.digits is.4 stops (align_judged run is.0 is.1 rest is.3 stops) (rw (is.5 rest) refl)

-- ---- where an item goes on

after_place : (at place next : ℕ) → at ≡ told_at place → next ≡ place + 1 → told_at (at + 1) ≡ told_at next
after_place at place next is n = omega (arith, is, n)

digit_on : (item longer : Item) (b : ℕ) → cond (is_ascii_digit b) (Some item) None ≡ Some longer → (is_ascii_digit b ≡ true) × (item ≡ longer)
digit_on item longer b e =
    left_or (chosen (is_ascii_digit b) (Some item) None (Some longer) e) (λ y. (y.0, some_is item longer y.1)) (λ n. absurd (some_not longer (sym n.1)))

ends_empty : (bytes : List ℕ) → EndsWith [] bytes
ends_empty bytes = (bytes, sym (append-nil bytes))

ends_more : (ds bytes : List ℕ) (b : ℕ) → EndsWith ds bytes → EndsWith (ds ++ (b ∷ [])) (bytes ++ (b ∷ []))
ends_more ds bytes b last = (last.0, ap (λ (t : List ℕ). t ++ (b ∷ [])) last.1 ∙ append_assoc last.0 ds (b ∷ []))

grown : (at place next : ℕ) (ds : List ℕ) (b : ℕ) → at + length ds ≡ place → next ≡ place + 1 → at + length (ds ++ (b ∷ [])) ≡ next
grown at place next ds b sum n = omega (arith, sum, n, length-append ds (b ∷ []))

pub item_more : (item longer : Item) (at place next b : ℕ) (bytes : List ℕ) → ItemIs item place bytes → at ≡ told_at place → next ≡ place + 1 → item_with item at b ≡ Some longer
    → ItemIs longer next (bytes ++ (b ∷ []))
unfolding step_at
item_more (Bare kind) longer at place next b bytes is told n e =
    let on : (rest : List ℕ) → kind_at ((bytes ++ (b ∷ [])) ++ rest) ≡ (step_at (b ∷ rest) >>= λ step. Ok (with_step kind step.0, step.1)) = λ rest. ap kind_at (append_assoc bytes (b ∷ []) rest) ∙ is.1 (b ∷ rest) in
    left_or (chosen (eqb b 110) _ _ (Some longer) e)
    (λ y. subst (λ (i : Item). ItemIs i next (bytes ++ (b ∷ []))) (some_is (Digits kind Negative (run_from (told_at (at + 1)))) longer y.1)
    (next, [], omega arith, run_begins (told_at (at + 1)) next (after_place at place next told n), ends_empty (bytes ++ (b ∷ [])), λ rest. on rest ∙ rw (y.0) refl))
    (λ x. left_or (chosen (eqb b 115) _ _ (Some longer) x.1)
    (λ y. subst (λ (i : Item). ItemIs i next (bytes ++ (b ∷ []))) (some_is (Digits kind Position (run_from (told_at (at + 1)))) longer y.1)
    (next, [], omega arith, run_begins (told_at (at + 1)) next (after_place at place next told n), ends_empty (bytes ++ (b ∷ [])), λ rest. on rest ∙ rw (x.0, y.0) refl))
    (λ z.
    let d = digit_on (Digits kind Plain (with_byte (run_from at) b)) longer b z.1 in
    subst (λ (i : Item). ItemIs i next (bytes ++ (b ∷ []))) d.1
    (place, b ∷ [], omega (arith, n), run_more (run_from at) place [] b (run_begins at place told) d.0, (bytes, refl), λ rest. on rest ∙ rw (x.0, z.0, d.0) refl)))
item_more (Digits kind form run) longer at place next b bytes is told n e =
    let d = digit_on (Digits kind form (with_byte run b)) longer b e in
    let sum = is.2 in
    subst (λ (i : Item). ItemIs i next (bytes ++ (b ∷ []))) d.1 (
      is.0,
      is.1 ++ (b ∷ []),
      grown is.0 place next is.1 b sum n,
      run_more run is.0 is.1 b is.3 d.0,
      ends_more is.1 bytes b is.4,
      λ rest. ap kind_at (append_assoc bytes (b ∷ []) rest) ∙ is.5 (b ∷ rest) ∙ ap (λ (t : List ℕ). form_at form t >>= λ step. Ok (with_step kind step.0, step.1)) (sym (append_assoc is.1 (b ∷ []) rest)),
    )
item_more (Whole kind) longer at place next b bytes is told n e = absurd (some_not longer (sym e))
item_more (Align kind run) longer at place next b bytes is told n e =
    let d = digit_on (Align kind (with_byte run b)) longer b e in
    let sum = is.2 in
    subst (λ (i : Item). ItemIs i next (bytes ++ (b ∷ []))) d.1 (
      is.0,
      is.1 ++ (b ∷ []),
      grown is.0 place next is.1 b sum n,
      run_more run is.0 is.1 b is.3 d.0,
      ends_more is.1 bytes b is.4,
      λ rest. ap kind_at (append_assoc bytes (b ∷ []) rest) ∙ is.5 (b ∷ rest) ∙ ap (λ (t : List ℕ). Ok (kind, 97 ∷ t)) (sym (append_assoc is.1 (b ∷ []) rest)),
    )

-- at the `a` of an alignment
pub align_begins : (kind : Kind) (at place next : ℕ) (bytes : List ℕ) → at ≡ told_at place → next ≡ place + 1 → ((rest : List ℕ) → kind_at (bytes ++ (97 ∷ rest)) ≡ Ok (kind, 97 ∷ rest))
    → ItemIs (Align kind (run_from (told_at (at + 1)))) next (bytes ++ (97 ∷ []))
align_begins kind at place next bytes told n reads =
    (next, [], omega arith, run_begins (told_at (at + 1)) next (after_place at place next told n), ends_empty (bytes ++ (97 ∷ [])), λ rest. ap kind_at (append_assoc bytes (97 ∷ []) rest) ∙ reads rest)

-- ---- where an item begins

letter_with : (b wanted : ℕ) (item found : Item) (place : ℕ) → is_kind_letter wanted ≡ true → eqb b wanted ≡ true → Some item ≡ Some found → ItemIs item place (wanted ∷ [])
    → (is_kind_letter b ≡ true) × ItemIs found place (b ∷ [])
letter_with b wanted item found place letter test e is =
    let same = eqb-true b wanted test in
    (ap is_kind_letter same ∙ letter, subst (λ (i : Item). ItemIs i place (b ∷ [])) (some_is item found e) (subst (λ (c : ℕ). ItemIs item place (c ∷ [])) (sym same) is))

pub item_begins : (b : ℕ) (item : Item) (place : ℕ) → item_of b ≡ Some item → (is_kind_letter b ≡ true) × ItemIs item place (b ∷ [])
unfolding kind_at
item_begins b item place e =
    left_or (chosen (eqb b 118) _ _ _ e) (λ y. letter_with b 118 (Whole Vector) item place refl y.0 y.1 (λ rest. refl))
    (λ n. left_or (chosen (eqb b 117) _ _ _ n.1) (λ y. letter_with b 117 (Whole Uniform) item place refl y.0 y.1 (λ rest. refl))
    (λ n. left_or (chosen (eqb b 108) _ _ _ n.1) (λ y. letter_with b 108 (Bare (Linear One)) item place refl y.0 y.1 (refl, λ rest. refl))
    (λ n. left_or (chosen (eqb b 82) _ _ _ n.1) (λ y. letter_with b 82 (Bare (Ref One)) item place refl y.0 y.1 (refl, λ rest. refl))
    (λ n. left_or (chosen (eqb b 76) _ _ _ n.1) (λ y. letter_with b 76 (Bare (Val One)) item place refl y.0 y.1 (refl, λ rest. refl))
    (λ n. left_or (chosen (eqb b 85) _ _ _ n.1) (λ y. letter_with b 85 (Bare (Uval One)) item place refl y.0 y.1 (refl, λ rest. refl))
    (λ n. absurd (some_not item (sym n.1))))))))

pub no_item : (b : ℕ) → item_of b ≡ None → is_kind_letter b ≡ false
no_item b e =
    left_or (chosen (eqb b 118) _ _ _ e) (λ y. absurd (some_not (Whole Vector) y.1))
    (λ n1. left_or (chosen (eqb b 117) _ _ _ n1.1) (λ y. absurd (some_not (Whole Uniform) y.1))
    (λ n2. left_or (chosen (eqb b 108) _ _ _ n2.1) (λ y. absurd (some_not (Bare (Linear One)) y.1))
    (λ n3. left_or (chosen (eqb b 82) _ _ _ n3.1) (λ y. absurd (some_not (Bare (Ref One)) y.1))
    (λ n4. left_or (chosen (eqb b 76) _ _ _ n4.1) (λ y. absurd (some_not (Bare (Val One)) y.1))
    (λ n5. left_or (chosen (eqb b 85) _ _ _ n5.1) (λ y. absurd (some_not (Bare (Uval One)) y.1))
    (λ n6. rw (n1.0, n2.0, n3.0, n4.0, n5.0, n6.0) refl))))))
