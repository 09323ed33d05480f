-- One more byte among the parameters.
use Rattle.std.proofs.Common.{◌≡◌, ◌≢◌, ℕ, ◌+◌, ◌-◌, ◌≤◌, Bool, true, false, cond, eqb, List, [], ◌∷◌, ◌++◌, length, take, Option, Some, None, Result, Ok, Err, refl, sym, ap, subst, ◌∙◌, arith, length-append, append_assoc}
use Rattle.std.specs.List.{list_all, prefix_len}
use Rattle.std.proofs.lemmas.Bool.{cases_Bool, eqb-true, eqb-false, ne_eqb, false≢true}
use Rattle.std.proofs.lemmas.List.{append-nil}
use Rattle.vk_kinds.specs.declared.kinds.Kind.{Kind}
use Rattle.vk_kinds.specs.declared.kinds.Length.{Length}
use Rattle.vk_kinds.specs.declared.kinds.Param.{Param}
use Rattle.vk_names.specs.declared.rules.NameRule.{NameRule}
use Rattle.vk_names.specs.declared.rules.NameRule.TheVariants.{N5, N7, N12}
use Rattle.vk_names.specs.declared.rules.NameFault.{NameFault}
use Rattle.vk_names.proofs.Reading.{Stop}
use Rattle.vk_names.specs.declared.steps.Item.{Item}
use Rattle.vk_names.specs.declared.steps.Item.TheVariants.{Align}
use Rattle.vk_names.specs.declared.states.State.{State}
use Rattle.vk_names.specs.declared.states.State.TheVariants.{Inside, Scalar, Fault}
use Rattle.vk_names.specs.Spelling.{is_placed, is_name_byte}
use Rattle.vk_names.proofs.Reading.{kind_at, align_at, param_at, end_at, params_at, front_at}
use Rattle.vk_names.specs.Pieces.{told_at, judges_run}
use Rattle.vk_names.specs.Inner.Steps.{run_from, item_of, item_with, param_of, has_align, opens_align, head_len, underscore_on, item_on, next_on, pushed, param_on, inside_on}
use Rattle.vk_names.proofs.Standing.{EndsWith, ItemIs, FrontIs, IsInside, IsFault, StateIs, reading, fault}
use Rattle.vk_names.proofs.Numbers.{left_or}
use Rattle.vk_names.proofs.Fronts.{stop_at}
use Rattle.vk_names.proofs.Sequence.{letter_is}
use Rattle.vk_names.proofs.Whole.{at_underscore}
use Rattle.vk_names.proofs.Exact.{end_strays}
use Rattle.vk_names.proofs.Loop.{stops, is_full, fails, goes_on}
use Rattle.vk_names.proofs.Items.{ItemJudged, bare, aligned, refused, item_judged, item_more, item_begins, no_item, align_begins}
use Rattle.vk_names.proofs.Heads.{at_underscore_is}
use Rattle.vk_names.proofs.Due.{name_stops, placed_fault, stopped_fault, run_fault}

-- ---- what was read, of these bytes alone

pub front_whole : (front : Length) (after fed : List ℕ) → FrontIs front after fed → front_at fed ≡ Ok (front, after)
front_whole front after fed is = ap front_at (sym (append-nil fed)) ∙ is [] ∙ ap (λ (t : List ℕ). Ok (front, t)) (append-nil after)

pub front_more : (front : Length) (after fed : List ℕ) (b : ℕ) → FrontIs front after fed → FrontIs front (after ++ (b ∷ [])) (fed ++ (b ∷ []))
front_more front after fed b is rest =
    ap front_at (append_assoc fed (b ∷ []) rest) ∙ is (b ∷ rest) ∙ ap (λ (t : List ℕ). Ok (front, t)) (sym (append_assoc after (b ∷ []) rest))

-- the parameters so far, where a byte comes after them
abbrev pub Wants : List Param → ℕ → List ℕ → Type 0
Wants params b after = (rest : List ℕ) → params_at 64 [] (after ++ (b ∷ rest)) ≡ params_at (64 - length params) params (b ∷ rest)

at_byte : (params : List Param) (b : ℕ) (after : List ℕ) → Wants params b after → (rest : List ℕ) → params_at 64 [] ((after ++ (b ∷ [])) ++ rest) ≡ params_at (64 - length params) params (b ∷ rest)
at_byte params b after wants rest = ap (λ (t : List ℕ). params_at 64 [] t) (append_assoc after (b ∷ []) rest) ∙ wants rest

told_more : (at : ℕ) (fed : List ℕ) (b : ℕ) → at ≡ told_at (length fed) → told_at (at + 1) ≡ told_at (length (fed ++ (b ∷ [])))
told_more at fed b is = omega (arith, is, length-append fed (b ∷ []))

-- a refusal at the byte
at_the_byte : (front : Length) (at b : ℕ) (rule : NameRule) (fed after : List ℕ) → list_all is_name_byte (fed ++ (b ∷ [])) ≡ true → at ≡ told_at (length fed)
    → FrontIs front (after ++ (b ∷ [])) (fed ++ (b ∷ [])) → params_at 64 [] (after ++ (b ∷ [])) ≡ Err (stop_at rule (b ∷ [])) → judges_run rule ≡ false
    → IsFault (record { at = at; rule = rule }) (fed ++ (b ∷ []))
at_the_byte front at b rule fed after all is front_is h plain =
    let lens = length-append fed (b ∷ []) in
    stopped_fault (fed ++ (b ∷ [])) at 1 rule all (name_stops (fed ++ (b ∷ [])) (after ++ (b ∷ [])) front (stop_at rule (b ∷ [])) (front_whole front (after ++ (b ∷ [])) (fed ++ (b ∷ [])) front_is) h)
    (omega arith) (omega (arith, lens)) (omega (arith, is, lens)) plain

-- ---- at the `_`

underscore_is : (front : Length) (params : List Param) (at : ℕ) (fed after : List ℕ) → at ≡ told_at (length fed) → list_all is_name_byte (fed ++ (95 ∷ [])) ≡ true → FrontIs front (after ++ (95 ∷ [])) (fed ++ (95 ∷ []))
    → Wants params 95 after → StateIs params (fed ++ (95 ∷ [])) (underscore_on front params at)
underscore_is front params at fed after is all front_is wants =
    let text : List ℕ = fed ++ (95 ∷ []) in
    let reads : (rest : List ℕ) → params_at 64 [] ((after ++ (95 ∷ [])) ++ rest) ≡ Ok (params, rest) =
    λ rest. at_byte params 95 after wants rest ∙ at_underscore (64 - length params) params rest in
    let h : params_at 64 [] (after ++ (95 ∷ [])) ≡ Ok (params, []) = ap (λ (t : List ℕ). params_at 64 [] t) (sym (append-nil (after ++ (95 ∷ [])))) ∙ reads [] in
    let u = at_underscore_is text front (after ++ (95 ∷ [])) params [] (front_whole front (after ++ (95 ∷ [])) text front_is) h in
    let low = u.low in
    let lens = length-append fed (95 ∷ []) in
    left_or (cases_Bool (eqb (prefix_len (is_placed params) params) (length params)))
    (λ yes.
    let whole = eqb-true _ _ yes in
    let place = u.place whole in
    subst (λ (s : State). StateIs params text s) (sym (ap (λ (t : Bool). cond t (Scalar (record { front = front; scalar_at = told_at (at + 1); used = told_at (at + 1) })) (Fault (record { at = head_len front (take (prefix_len (is_placed params) params) params) + 2; rule = N7 }))) yes))
    (reading (Scalar (record { front = front; scalar_at = told_at (at + 1); used = told_at (at + 1) })) all (record {
      after = after ++ (95 ∷ []);
      scalar = [];
      front_is = front_is;
      params_are = reads;
      placed = u.placed whole;
      used = omega (arith, is, low, place, lens);
      place = omega (arith, is, low, place, lens);
      low = omega (arith, is, low, place, lens);
      short = omega arith;
      first = refl;
    })))
    (λ other.
    let m = u.misplaced (eqb-false _ _ other) in
    let small = m.low in
    subst (λ (s : State). StateIs params text s) (sym (ap (λ (t : Bool). cond t (Scalar (record { front = front; scalar_at = told_at (at + 1); used = told_at (at + 1) })) (Fault (record { at = head_len front (take (prefix_len (is_placed params) params) params) + 2; rule = N7 }))) other))
    (fault (record { at = head_len front (take (prefix_len (is_placed params) params) params) + 2; rule = N7 })
    (placed_fault text (head_len front (take (prefix_len (is_placed params) params) params) + 2) (head_len front (take (prefix_len (is_placed params) params) params) + 2) N7 all m.refused (omega (arith, small)) m.below refl)))

-- ---- where a parameter or the `_` is wanted

begun_is : (front : Length) (params : List Param) (at b : ℕ) (item : Item) (fed after : List ℕ) → list_all is_name_byte (fed ++ (b ∷ [])) ≡ true → at ≡ told_at (length fed)
    → FrontIs front (after ++ (b ∷ [])) (fed ++ (b ∷ [])) → Wants params b after → length params ≤ 64 → b ≢ 95 → item_of b ≡ Some item
    → StateIs params (fed ++ (b ∷ [])) (item_on front params at (Some item))
begun_is front params at b item fed after all is front_is wants few other begins =
    let i = item_begins b item (length (fed ++ (b ∷ []))) begins in
    left_or (cases_Bool (eqb (length params) 64))
    (λ full.
    let count = eqb-true _ _ full in
    subst (λ (s : State). StateIs params (fed ++ (b ∷ [])) s) (sym (ap (λ (t : Bool). cond t (Fault (record { at = at; rule = N12 })) (Inside front (told_at (at + 1)) item)) full))
    (fault (record { at = at; rule = N12 })
    (at_the_byte front at b N12 fed after all is front_is
    (is_full (64 - length params) params (b ∷ []) (params_at 64 [] (after ++ (b ∷ []))) (letter_is b [] i.0 other) (omega (arith, count)) (sym (wants []))) refl)))
    (λ room.
    let count = eqb-false _ _ room in
    subst (λ (s : State). StateIs params (fed ++ (b ∷ [])) s) (sym (ap (λ (t : Bool). cond t (Fault (record { at = at; rule = N12 })) (Inside front (told_at (at + 1)) item)) room))
    (reading (Inside front (told_at (at + 1)) item) all (record {
      after = after ++ (b ∷ []);
      last = b ∷ [];
      place = told_more at fed b is;
      front_is = front_is;
      params_are = at_byte params b after wants;
      few = omega (arith, count, few);
      last_is = (fed, refl);
      begins = λ rest. letter_is b rest i.0 other;
      item_is = i.1;
    })))

item_is : (front : Length) (params : List Param) (at b : ℕ) (fed after : List ℕ) (found : Option Item) → list_all is_name_byte (fed ++ (b ∷ [])) ≡ true → at ≡ told_at (length fed)
    → FrontIs front (after ++ (b ∷ [])) (fed ++ (b ∷ [])) → Wants params b after → length params ≤ 64 → b ≢ 95 → item_of b ≡ found
    → StateIs params (fed ++ (b ∷ [])) (item_on front params at found)
item_is front params at b fed after (Some item) all is front_is wants few other begins = begun_is front params at b item fed after all is front_is wants few other begins
item_is front params at b fed after None all is front_is wants few other begins =
    fault (record { at = at; rule = N5 })
    (at_the_byte front at b N5 fed after all is front_is
    (stops (64 - length params) params (b ∷ []) (stop_at N5 (b ∷ [])) (params_at 64 [] (after ++ (b ∷ []))) (end_strays b [] (no_item b begins) other) (sym (wants []))) refl)

pub next_is : (front : Length) (params : List Param) (at b : ℕ) (fed after : List ℕ) → list_all is_name_byte (fed ++ (b ∷ [])) ≡ true → at ≡ told_at (length fed)
    → FrontIs front (after ++ (b ∷ [])) (fed ++ (b ∷ [])) → Wants params b after → length params ≤ 64
    → StateIs params (fed ++ (b ∷ [])) (next_on front params at b)
next_is front params at b fed after all is front_is wants few =
    left_or (cases_Bool (eqb b 95))
    (λ yes.
    let same : 95 ≡ b = sym (eqb-true b 95 yes) in
    subst (λ (s : State). StateIs params (fed ++ (b ∷ [])) s) (sym (ap (λ (t : Bool). cond t (underscore_on front params at) (item_on front params at (item_of b))) yes))
    (subst (λ (c : ℕ). list_all is_name_byte (fed ++ (c ∷ [])) ≡ true → FrontIs front (after ++ (c ∷ [])) (fed ++ (c ∷ [])) → Wants params c after → StateIs params (fed ++ (c ∷ [])) (underscore_on front params at)) same
    (underscore_is front params at fed after is) all front_is wants))
    (λ other.
    subst (λ (s : State). StateIs params (fed ++ (b ∷ [])) s) (sym (ap (λ (t : Bool). cond t (underscore_on front params at) (item_on front params at (item_of b))) other))
    (item_is front params at b fed after (item_of b) all is front_is wants few (eqb-false b 95 other) refl))

-- ---- where a parameter ends

abbrev param_ok : Param → Result Param NameFault
param_ok p = Ok p

ok_param : (p q : Param) → param_ok p ≡ Ok q → p ≡ q
ok_param p q e = cc

-- a parameter that ended before the rest is read to it, unless its alignment follows
unfoldable pub NoAlign : Param → List ℕ → Type 0
NoAlign p [] = Unit {0}
NoAlign p (b ∷ more) = opens_align p b ≡ false

ends_plain : (kind : Kind) (rest : List ℕ) → NoAlign (record { kind = kind; align = None }) rest → align_at rest ≡ Ok (None, rest)
unfolding NoAlign align_at
ends_plain kind [] h = refl
ends_plain kind (b ∷ bs) h = rw h refl

pub judged_param : (place : ℕ) (bytes rest : List ℕ) (r : Result Param NameFault) (p : Param) → ItemJudged place bytes rest r → r ≡ Ok p → NoAlign p rest → param_at (bytes ++ rest) ≡ Ok (p, rest)
unfolding param_at
judged_param place bytes rest r p (bare kind h) is none =
    let same : record { kind = kind; align = None } ≡ p = ok_param (record { kind = kind; align = None }) p is in
    rw h (rw (ends_plain kind rest (subst (λ (q : Param). NoAlign q rest) (sym same) none)) (ap (λ (q : Param). Ok (q, rest)) same))
judged_param place bytes rest r p (aligned kind align h) is none = h ∙ ap (λ (q : Param). Ok (q, rest)) (ok_param (record { kind = kind; align = Some align }) p is)
judged_param place bytes rest r p (refused told at ds rule a b c d e f g) is none = absurd cc

-- and its kind to an alignment that follows
opens : (p : Param) (b : ℕ) → opens_align p b ≡ true → (p ≡ record { kind = p.kind; align = None }) × (b ≡ 97)
opens p b h = by_align p.align refl h
  where
    by_align : (a : Option ℕ) → p.align ≡ a → cond (has_align a) false (eqb b 97) ≡ true → (p ≡ record { kind = p.kind; align = None }) × (b ≡ 97)
    by_align None is h = (ap (λ (a : Option ℕ). record { kind = p.kind; align = a }) is, eqb-true b 97 h)
    by_align (Some n) is h = absurd (false≢true h)

judged_kind : (place : ℕ) (bytes rest : List ℕ) (r : Result Param NameFault) (kind : Kind) → ItemJudged place bytes rest r → r ≡ Ok (record { kind = kind; align = None }) → kind_at (bytes ++ rest) ≡ Ok (kind, rest)
judged_kind place bytes rest r kind (bare k h) is = h ∙ ap (λ (p : Param). Ok (p.kind, rest)) (ok_param (record { kind = k; align = None }) (record { kind = kind; align = None }) is)
judged_kind place bytes rest r kind (aligned k align h) is = absurd (some_none align (ap (λ (p : Param). p.align) (ok_param (record { kind = k; align = Some align }) (record { kind = kind; align = None }) is)))
  where
    some_none : (n : ℕ) → Some n ≡ None → ⊥
    some_none n e = cc
judged_kind place bytes rest r kind (refused told at ds rule a b c d e f g) is = absurd cc

pub ends_in : (ds last fed : List ℕ) → EndsWith ds last → EndsWith last fed → EndsWith ds fed
ends_in ds last fed d l = (l.0 ++ d.0, l.1 ∙ ap (λ (t : List ℕ). l.0 ++ t) d.1 ∙ sym (append_assoc l.0 d.0 ds))

abbrev pub param_err : NameFault → Result Param NameFault
param_err f = Err f

pub fault_is : (d e : NameFault) → param_err d ≡ Err e → d ≡ e
fault_is d e h = cc

-- a run of digits that is refused at the byte
run_refused : (front : Length) (at : ℕ) (item : Item) (params : List Param) (fed : List ℕ) (b : ℕ) (f : NameFault) → list_all is_name_byte (fed ++ (b ∷ [])) ≡ true → (i : IsInside front at item params fed)
    → (r : Result Param NameFault) → ItemJudged (length fed) i.last (b ∷ []) r → r ≡ Err f → IsFault f (fed ++ (b ∷ []))
run_refused front at item params fed b f all i r (bare kind h) is = absurd cc
run_refused front at item params fed b f all i r (aligned kind align h) is = absurd cc
run_refused front at item params fed b f all i r (refused told place ds rule told_is sum digits last judges stop h) is =
    let few = i.few in
    let stop_is : Stop = record { left = length (ds ++ (b ∷ [])); rule = rule } in
    let reads : params_at 64 [] (i.after ++ (b ∷ [])) ≡ Err stop_is =
    fails (64 - length params) params (i.last ++ (b ∷ [])) stop_is (params_at 64 [] (i.after ++ (b ∷ []))) (i.begins (b ∷ [])) (omega (arith, few)) h (sym (i.params_are (b ∷ []))) in
    subst (λ (g : NameFault). IsFault g (fed ++ (b ∷ []))) (fault_is (record { at = told; rule = rule }) f is)
    (run_fault fed ds b told place rule all digits (ends_in ds i.last fed last i.last_is) stop sum told_is
    (name_stops (fed ++ (b ∷ [])) (i.after ++ (b ∷ [])) front stop_is (i.front_is (b ∷ [])) reads))

-- the parameter is one of those so far, and the byte comes after it
param_is : (front : Length) (at : ℕ) (item : Item) (params : List Param) (fed : List ℕ) (b : ℕ) (p : Param) → list_all is_name_byte (fed ++ (b ∷ [])) ≡ true → (i : IsInside front at item params fed)
    → ((rest : List ℕ) → param_at (i.last ++ (b ∷ rest)) ≡ Ok (p, b ∷ rest)) → StateIs (pushed params p) (fed ++ (b ∷ [])) (next_on front (pushed params p) at b)
param_is front at item params fed b p all i reads =
    let few = i.few in
    let lens = length-append params (p ∷ []) in
    let push : params ++ (p ∷ []) ≡ pushed params p = sym (ap (λ (t : Bool). cond t params (params ++ (p ∷ []))) (ne_eqb (length params) 64 (λ e. omega (arith, few, e)))) in
    subst (λ (ps : List Param). StateIs ps (fed ++ (b ∷ [])) (next_on front ps at b)) push
    (next_is front (params ++ (p ∷ [])) at b fed i.after all i.place (front_more front i.after fed b i.front_is)
    (λ rest. sym (goes_on (64 - length params) (64 - length (params ++ (p ∷ []))) params (i.last ++ (b ∷ rest)) p (b ∷ rest) (params_at 64 [] (i.after ++ (b ∷ rest))) (i.begins (b ∷ rest)) (omega (arith, few, lens)) (reads rest) (sym (i.params_are (b ∷ rest)))))
    (omega (arith, few, lens)))

longer_is : (front : Length) (at : ℕ) (item longer : Item) (params : List Param) (fed : List ℕ) (b : ℕ) → list_all is_name_byte (fed ++ (b ∷ [])) ≡ true → (i : IsInside front at item params fed)
    → ItemIs longer (length (fed ++ (b ∷ []))) (i.last ++ (b ∷ [])) → StateIs params (fed ++ (b ∷ [])) (Inside front (told_at (at + 1)) longer)
longer_is front at item longer params fed b all i is =
    reading (Inside front (told_at (at + 1)) longer) all (record {
      after = i.after ++ (b ∷ []);
      last = i.last ++ (b ∷ []);
      place = told_more at fed b i.place;
      front_is = front_more front i.after fed b i.front_is;
      params_are = λ rest. ap (λ (t : List ℕ). params_at 64 [] t) (append_assoc i.after (b ∷ []) rest) ∙ i.params_are (b ∷ rest)
          ∙ ap (λ (t : List ℕ). params_at (64 - length params) params t) (sym (append_assoc i.last (b ∷ []) rest));
      few = i.few;
      last_is = (i.last_is.0, ap (λ (t : List ℕ). t ++ (b ∷ [])) i.last_is.1 ∙ append_assoc i.last_is.0 i.last (b ∷ []));
      begins = λ rest. ap end_at (append_assoc i.last (b ∷ []) rest) ∙ i.begins (b ∷ rest);
      item_is = is;
    })

one_longer : (fed : List ℕ) (b : ℕ) → length (fed ++ (b ∷ [])) ≡ length fed + 1
one_longer fed b = length-append fed (b ∷ [])

-- what was read of the parameter
ended_is : (front : Length) (at : ℕ) (item : Item) (params : List Param) (fed : List ℕ) (b : ℕ) (r : Result Param NameFault) → list_all is_name_byte (fed ++ (b ∷ [])) ≡ true → (i : IsInside front at item params fed)
    → ((rest : List ℕ) → ItemJudged (length fed) i.last (b ∷ rest) r) → StateIs (param_on front params at b r).1 (fed ++ (b ∷ [])) (param_on front params at b r).0
unfolding NoAlign
ended_is front at item params fed b (Err f) all i judged = fault f (run_refused front at item params fed b f all i (Err f) (judged []) refl)
ended_is front at item params fed b (Ok p) all i judged =
    left_or (cases_Bool (opens_align p b))
    (λ yes.
    let o = opens p b yes in
    let kind : (rest : List ℕ) → kind_at (i.last ++ (97 ∷ rest)) ≡ Ok (p.kind, 97 ∷ rest) = λ rest.
    subst (λ (c : ℕ). kind_at (i.last ++ (c ∷ rest)) ≡ Ok (p.kind, c ∷ rest)) o.1 (judged_kind (length fed) i.last (b ∷ rest) (Ok p) p.kind (judged rest) (ap (λ (q : Param). Ok q) o.0)) in
    let is = align_begins p.kind at (length fed) (length (fed ++ (b ∷ []))) i.last i.place (one_longer fed b) kind in
    rw yes (longer_is front at item (Align p.kind (run_from (told_at (at + 1)))) params fed b all i
    (subst (λ (c : ℕ). ItemIs (Align p.kind (run_from (told_at (at + 1)))) (length (fed ++ (b ∷ []))) (i.last ++ (c ∷ []))) (sym o.1) is)))
    (λ other. rw other (param_is front at item params fed b p all i (λ rest. judged_param (length fed) i.last (b ∷ rest) (Ok p) p (judged rest) refl other)))

pub inside_is : (front : Length) (at : ℕ) (item : Item) (params : List Param) (fed : List ℕ) (b : ℕ) → list_all is_name_byte (fed ++ (b ∷ [])) ≡ true → IsInside front at item params fed
    → StateIs (inside_on front params at item b (item_with item at b)).1 (fed ++ (b ∷ [])) (inside_on front params at item b (item_with item at b)).0
inside_is front at item params fed b all i = by_item (item_with item at b) refl
  where
    by_item : (o : Option Item) → item_with item at b ≡ o → StateIs (inside_on front params at item b o).1 (fed ++ (b ∷ [])) (inside_on front params at item b o).0
    by_item (Some longer) is = longer_is front at item longer params fed b all i (item_more item longer at (length fed) (length (fed ++ (b ∷ []))) b i.last i.item_is i.place (one_longer fed b) is)
    by_item None is = ended_is front at item params fed b (param_of item) all i (λ rest. item_judged item at (length fed) i.last (b ∷ rest) i.item_is is)
