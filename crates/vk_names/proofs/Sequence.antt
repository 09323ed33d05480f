-- The parameters in a row, to the `_` that ends them.
use Rattle.std.proofs.Common.{◌≡◌, ◌≢◌, ℕ, zero, suc, ◌+◌, ◌-◌, ◌<◌, ◌≤◌, true, false, ◌||◌, eqb, List, [], ◌∷◌, ◌++◌, length, Option, Some, None, Result, Ok, Err, refl, sym, ap, subst, ◌∙◌, arith, inl, inr, ◌⊎◌, length-append, append_assoc}
use Rattle.std.specs.Char.{is_ascii_digit}
use Rattle.std.specs.List.{AllByRecursion}
use Rattle.std.proofs.lemmas.Bool.{eqb-true, eqb-false, ne_eqb, or_from}
use Rattle.std.proofs.lemmas.List.{append-nil}
use Rattle.std.proofs.lemmas.List.Concat.{flat_map-append}
use Rattle.vk_kinds.specs.declared.kinds.Len.{Len}
use Rattle.vk_kinds.specs.declared.kinds.Len.TheVariants.{Fixed, Scalable}
use Rattle.vk_kinds.specs.declared.kinds.Step.{Step}
use Rattle.vk_kinds.specs.declared.kinds.Step.TheVariants.{One, By, Arg}
use Rattle.vk_kinds.specs.declared.kinds.Kind.{Kind}
use Rattle.vk_kinds.specs.declared.kinds.Kind.TheVariants.{Vector, Uniform, Linear, Ref, Val, Uval}
use Rattle.vk_kinds.specs.declared.kinds.Length.{Length}
use Rattle.vk_kinds.specs.declared.kinds.Param.{Param}
use Rattle.vk_names.specs.declared.rules.NameRule.{NameRule}
use Rattle.vk_names.specs.declared.rules.NameRule.TheVariants.{N5, N6, N8, N9, N12}
use Rattle.vk_names.proofs.Reading.{Stop}
use Rattle.vk_names.specs.Spelling.{Written, step_of, kind_letter, kind_text, written_text, params_text, front_text, IsWritten}
use Rattle.vk_names.specs.Refusal.{Ends, len_goes_on, step_goes_on, align_goes_on, param_goes_on, goes_on, has_step, is_kind_letter, Begins, StandsAt, Refused, stray, one_more, cut_off, wrong_step, wrong_negative, wrong_position, wrong_align}
use Rattle.vk_names.proofs.Reading.{◌>>=◌, refuse, ended, end_at, param_at, params_at, front_at}
use Rattle.vk_names.proofs.Numbers.{done, ok_is, bind_ok, bind_err, chosen, left_or}
use Rattle.vk_names.proofs.Parameters.{capped_param, param_again, TakesParam, param_takes, StepRefused, plain, negative, position, ParamRefused, a_step, an_align, param_refused}
use Rattle.vk_names.proofs.Fronts.{stop_at, refuse_is, refuse_not, done_not, front_again}

-- the parameters as a reader keeps them
abbrev pub kept : List Written → List Param
kept [] = []
kept (w ∷ ws) = capped_param w.param ∷ kept ws

pub kept_more : (ws : List Written) (w : Written) → kept (ws ++ (w ∷ [])) ≡ kept ws ++ (capped_param w.param ∷ [])
kept_more [] w = refl
kept_more (v ∷ vs) w = ap (λ (ps : List Param). capped_param v.param ∷ ps) (kept_more vs w)

pub kept_len : (ws : List Written) → length (kept ws) ≡ length ws
kept_len [] = refl
kept_len (w ∷ ws) = ap suc (kept_len ws)

-- ---- a letter that begins a parameter ends what stands before it

no_digit : (k : Kind) → is_ascii_digit (kind_letter k) ≡ false
no_digit Vector = refl
no_digit Uniform = refl
no_digit (Linear s) = refl
no_digit (Ref s) = refl
no_digit (Val s) = refl
no_digit (Uval s) = refl

no_a_letter : (k : Kind) → eqb (kind_letter k) 97 ≡ false
no_a_letter Vector = refl
no_a_letter Uniform = refl
no_a_letter (Linear s) = refl
no_a_letter (Ref s) = refl
no_a_letter (Val s) = refl
no_a_letter (Uval s) = refl

no_sign : (k : Kind) → (eqb (kind_letter k) 110 || eqb (kind_letter k) 115) ≡ false
no_sign Vector = refl
no_sign Uniform = refl
no_sign (Linear s) = refl
no_sign (Ref s) = refl
no_sign (Val s) = refl
no_sign (Uval s) = refl

ends_step : (s : Option Step) (k : Kind) → step_goes_on s (kind_letter k) ≡ false
ends_step None k = refl
ends_step (Some One) k = or_from (is_ascii_digit (kind_letter k)) (eqb (kind_letter k) 110 || eqb (kind_letter k) 115) (no_digit k) (no_sign k)
ends_step (Some (By z)) k = no_digit k
ends_step (Some (Arg at)) k = no_digit k

ends_align : (a : Option ℕ) (s : Option Step) (k : Kind) → align_goes_on a s (kind_letter k) ≡ false
ends_align (Some n) s k = no_digit k
ends_align None s k = or_from (eqb (kind_letter k) 97) (step_goes_on s (kind_letter k)) (no_a_letter k) (ends_step s k)

ends_len : (len : Len) (k : Kind) → len_goes_on len (kind_letter k) ≡ false
ends_len (Fixed n) k = no_digit k
ends_len Scalable k = refl

text_of_more : (w : Written) (ws : List Written) (rest : List ℕ) → params_text (w ∷ ws) ++ rest ≡ written_text w ++ (params_text ws ++ rest)
text_of_more w ws rest = append_assoc (written_text w) (params_text ws) rest

-- what follows a parameter does not go on with it
pub param_ends : (len : Len) (w : Written) (ws : List Written) (rest : List ℕ) → Ends (goes_on len (w ∷ ws)) rest → Ends (param_goes_on w.param) (params_text ws ++ rest)
unfolding written_text
param_ends len w [] rest whole = ends rest whole
  where
    ends : (rest : List ℕ) → Ends (goes_on len (w ∷ [])) rest → Ends (param_goes_on w.param) rest
    ends [] h = tt
    ends (b ∷ bs) h = h
param_ends len w (v ∷ vs) rest whole = ends_align w.param.align (step_of w.param.kind) v.param.kind

pub rest_ends : (len : Len) (w v : Written) (ws : List Written) (rest : List ℕ) → Ends (goes_on len (w ∷ v ∷ ws)) rest → Ends (goes_on len (v ∷ ws)) rest
rest_ends len w v ws [] h = tt
rest_ends len w v ws (b ∷ bs) h = h

pub front_ends : (len : Len) (ws : List Written) (rest : List ℕ) → Ends (goes_on len ws) rest → Ends (len_goes_on len) (params_text ws ++ rest)
unfolding written_text
front_ends len [] rest whole = ends rest whole
  where
    ends : (rest : List ℕ) → Ends (goes_on len []) rest → Ends (len_goes_on len) rest
    ends [] h = tt
    ends (b ∷ bs) h = h
front_ends len (w ∷ ws) rest whole = ends_len len w.param.kind

after_one : (len : Len) (ws : List Written) (w : Written) (b : ℕ) → goes_on len (ws ++ (w ∷ [])) b ≡ param_goes_on w.param b
after_one len [] w b = refl
after_one len (v ∷ []) w b = refl
after_one len (v ∷ u ∷ us) w b = after_one len (u ∷ us) w b

pub one_ends : (len : Len) (ws : List Written) (w : Written) (rest : List ℕ) → Ends (param_goes_on w.param) rest → Ends (goes_on len (ws ++ (w ∷ []))) rest
one_ends len ws w [] h = tt
one_ends len ws w (b ∷ bs) h = after_one len ws w b ∙ h

-- ---- reading on

letter_not_end : (k : Kind) → (eqb (kind_letter k) 95 ≡ false) × (is_kind_letter (kind_letter k) ≡ true)
letter_not_end Vector = (refl, refl)
letter_not_end Uniform = (refl, refl)
letter_not_end (Linear s) = (refl, refl)
letter_not_end (Ref s) = (refl, refl)
letter_not_end (Val s) = (refl, refl)
letter_not_end (Uval s) = (refl, refl)

letter_goes_on : (k : Kind) (bs : List ℕ) → end_at (kind_letter k ∷ bs) ≡ Ok None
unfolding end_at
letter_goes_on k bs = let l = letter_not_end k in rw (l.0, l.1) refl

written_goes_on : (w : Written) (rest : List ℕ) → end_at (written_text w ++ rest) ≡ Ok None
unfolding written_text
written_goes_on w rest = letter_goes_on w.param.kind _

pub letter_is : (b : ℕ) (bs : List ℕ) → is_kind_letter b ≡ true → b ≢ 95 → end_at (b ∷ bs) ≡ Ok None
unfolding end_at
letter_is b bs letter other = rw (ne_eqb b 95 other, letter) refl

-- none of the parameters goes on in what follows it
abbrev pub AreWhole : List Written → List ℕ → Type 0
AreWhole [] rest = Unit {0}
AreWhole (w ∷ ws) rest = Ends (param_goes_on w.param) (params_text ws ++ rest) × AreWhole ws rest

pub all_whole : (len : Len) (ws : List Written) (rest : List ℕ) → Ends (goes_on len ws) rest → AreWhole ws rest
all_whole len [] rest h = tt
all_whole len (w ∷ []) rest h = (param_ends len w [] rest h, tt)
all_whole len (w ∷ v ∷ vs) rest h = (param_ends len w (v ∷ vs) rest h, all_whole len (v ∷ vs) rest (rest_ends len w v vs rest h))

one_again : (w : Written) (room : ℕ) (before : List Param) (tail : List ℕ) → IsWritten w → Ends (param_goes_on w.param) tail
    → params_at (suc room) before (written_text w ++ tail) ≡ params_at room (before ++ (capped_param w.param ∷ [])) tail
unfolding params_at
one_again w room before tail fits ends = rw (written_goes_on w tail, param_again w tail fits ends) refl

-- parameters are read, and reading goes on behind them
pub params_again : (ws : List Written) (room : ℕ) (before : List Param) (rest : List ℕ) → AllByRecursion IsWritten ws → AreWhole ws rest
    → params_at (length ws + room) before (params_text ws ++ rest) ≡ params_at room (before ++ kept ws) rest
params_again [] room before rest fits whole = ap (λ (k : ℕ). params_at k before rest) (omega arith) ∙ ap (λ (ps : List Param). params_at room ps rest) (sym (append-nil before))
params_again (w ∷ ws) room before rest fits whole =
    let more : length (w ∷ ws) + room ≡ suc (length ws + room) = omega arith in
    ap (λ (t : List ℕ). params_at (length (w ∷ ws) + room) before t) (text_of_more w ws rest)
    ∙ ap (λ (k : ℕ). params_at k before (written_text w ++ (params_text ws ++ rest))) more
    ∙ one_again w (length ws + room) before (params_text ws ++ rest) fits.0 whole.0
    ∙ params_again ws room (before ++ (capped_param w.param ∷ [])) rest fits.1 whole.1
    ∙ ap (λ (ps : List Param). params_at room ps rest) (append_assoc before (capped_param w.param ∷ []) (kept ws))

pub begins_front : (text : List ℕ) (front : Length) (ws : List Written) (rest : List ℕ) → Begins text front ws rest → front_at text ≡ Ok (front, params_text ws ++ rest)
begins_front text front ws rest b =
    ap front_at b.parts ∙ front_again front (params_text ws ++ rest) b.front_fits (front_ends front.len ws rest b.whole)

-- ---- what was read

all_more : (ws : List Written) (w : Written) → AllByRecursion IsWritten ws → IsWritten w → AllByRecursion IsWritten (ws ++ (w ∷ []))
all_more [] w all one = (one, tt)
all_more (v ∷ vs) w all one = (all.0, all_more vs w all.1 one)

pub begins_more : (text : List ℕ) (front : Length) (ws : List Written) (bytes rest : List ℕ) (p : Param) → Begins text front ws bytes → length ws < 64 → (t : TakesParam bytes p rest)
    → Begins text front (ws ++ (t.written ∷ [])) rest
begins_more text front ws bytes rest p b room t = record {
  front_fits = b.front_fits;
  before_fit = all_more ws t.written b.before_fit t.fits;
  count = omega (arith, length-append ws (t.written ∷ []));
  whole = one_ends front.len ws t.written rest t.stops;
  parts = b.parts ∙ ap (λ (x : List ℕ). front_text front ++ x) (ap (λ (x : List ℕ). params_text ws ++ x) t.parts ∙ sym (append_assoc (params_text ws) (written_text t.written) rest)
      ∙ ap (λ (x : List ℕ). x ++ rest) (ap (λ (x : List ℕ). params_text ws ++ x) (sym (append-nil (written_text t.written))) ∙ sym (flat_map-append written_text ws (t.written ∷ []))));
}

pub begins_params : (text : List ℕ) (front : Length) (ws : List Written) (rest : List ℕ) (room : ℕ) → Begins text front ws rest → length ws + room ≡ 64
    → params_at 64 [] (params_text ws ++ rest) ≡ params_at room (kept ws) rest
begins_params text front ws rest room b count =
    ap (λ (k : ℕ). params_at k [] (params_text ws ++ rest)) (sym count) ∙ params_again ws room [] rest b.before_fit (all_whole front.len ws rest b.whole)

-- the parameters that were read, and the text so far
pub record TakesAll (text : List ℕ) (front : Length) (ps : List Param) (rest : List ℕ) : Type 0 where
  pub all : List Written
  pub kept_are : kept all ≡ ps
  pub begins : Begins text front all (95 ∷ rest)

end_takes : (bytes after : List ℕ) → end_at bytes ≡ Ok (Some after) → bytes ≡ 95 ∷ after
unfolding end_at
end_takes [] after e = absurd (refuse_not N9 [] (Some after) e)
end_takes (b ∷ bs) after e =
    left_or (chosen (eqb b 95) _ _ _ e)
    (λ y. ap (λ (c : ℕ). c ∷ bs) (eqb-true b 95 y.0) ∙ ap (λ (t : List ℕ). 95 ∷ t) (some_is bs after (ok_is (Some bs) (Some after) y.1)))
    (λ n. left_or (chosen (is_kind_letter b) _ _ _ n.1)
    (λ y. absurd (none_some after (ok_is None (Some after) y.1)))
    (λ n. absurd (refuse_not N5 (b ∷ bs) (Some after) n.1)))
  where
    some_is : (a b : List ℕ) → Some a ≡ Some b → a ≡ b
    some_is a b e = cc

    none_some : (a : List ℕ) → None ≡ Some a → ⊥
    none_some a e = cc

-- a parameter begins there
letter_begins : (bytes : List ℕ) → end_at bytes ≡ Ok None → (b : ℕ) × (bs : List ℕ) × (bytes ≡ b ∷ bs) × (is_kind_letter b ≡ true)
unfolding end_at
letter_begins [] e = absurd (refuse_not N9 [] None e)
letter_begins (b ∷ bs) e =
    left_or (chosen (eqb b 95) _ _ _ e)
    (λ y. absurd (some_none bs (ok_is (Some bs) None y.1)))
    (λ n. left_or (chosen (is_kind_letter b) _ _ _ n.1)
    (λ y. (b, bs, refl, y.0))
    (λ n. absurd (refuse_not N5 (b ∷ bs) None n.1)))
  where
    some_none : (a : List ℕ) → Some a ≡ None → ⊥
    some_none a e = cc

option_cases : {A : Type 0} (o : Option A) → (o ≡ None) ⊎ ((x : A) × (o ≡ Some x))
option_cases None = inl refl
option_cases (Some x) = inr (x, refl)

took : (text : List ℕ) (front : Length) (ws : List Written) (bytes after : List ℕ) (ps : List Param) (rest : List ℕ) → Begins text front ws bytes → end_at bytes ≡ Ok (Some after)
    → done {A = List Param × List ℕ} (kept ws, after) ≡ Ok (ps, rest) → TakesAll text front ps rest
took text front ws bytes after ps rest b is e =
    subst (λ (x : List Param × List ℕ). TakesAll text front x.0 x.1) (ok_is (kept ws, after) (ps, rest) e)
    (record { all = ws; kept_are = refl; begins = subst (λ (t : List ℕ). Begins text front ws t) (end_takes bytes after is) b })

pub params_take : (room : ℕ) (text : List ℕ) (front : Length) (ws : List Written) (bytes : List ℕ) (ps : List Param) (rest : List ℕ) → Begins text front ws bytes → length ws + room ≡ 64
    → params_at room (kept ws) bytes ≡ Ok (ps, rest) → TakesAll text front ps rest
unfolding params_at
params_take zero text front ws bytes ps rest b count e =
    let end = bind_ok (end_at bytes) (λ end. ended (kept ws) (refuse N12 bytes) end) (ps, rest) e in
    left_or (option_cases end.0)
    (λ none. absurd (refuse_not N12 bytes (ps, rest) (sym (ap (λ (o : Option (List ℕ)). ended (kept ws) (refuse N12 bytes) o) none) ∙ end.2)))
    (λ some. took text front ws bytes some.0 ps rest b (end.1 ∙ ap (λ (o : Option (List ℕ)). Ok o) some.1)
    (sym (ap (λ (o : Option (List ℕ)). ended (kept ws) (refuse N12 bytes) o) some.1) ∙ end.2))
params_take (suc room) text front ws bytes ps rest b count e =
    let next : Result (List Param × List ℕ) Stop = param_at bytes >>= λ p. params_at room (kept ws ++ (p.0 ∷ [])) p.1 in
    let end = bind_ok (end_at bytes) (λ end. ended (kept ws) next end) (ps, rest) e in
    left_or (option_cases end.0)
    (λ none.
    let p = bind_ok (param_at bytes) (λ p. params_at room (kept ws ++ (p.0 ∷ [])) p.1) (ps, rest) (sym (ap (λ (o : Option (List ℕ)). ended (kept ws) next o) none) ∙ end.2) in
    let t = param_takes bytes p.0.0 p.0.1 p.1 in
    let small : length ws < 64 = omega (arith, count) in
    let same : kept (ws ++ (t.written ∷ [])) ≡ kept ws ++ (p.0.0 ∷ []) = kept_more ws t.written ∙ ap (λ (q : Param). kept ws ++ (q ∷ [])) t.kept in
    params_take room text front (ws ++ (t.written ∷ [])) p.0.1 ps rest (begins_more text front ws bytes p.0.1 p.0.0 b small t) (omega (arith, count, length-append ws (t.written ∷ [])))
    (ap (λ (qs : List Param). params_at room qs p.0.1) same ∙ p.2))
    (λ some. took text front ws bytes some.0 ps rest b (end.1 ∙ ap (λ (o : Option (List ℕ)). Ok o) some.1)
    (sym (ap (λ (o : Option (List ℕ)). ended (kept ws) next o) some.1) ∙ end.2))

-- ---- what was refused

pub told : (text : List ℕ) (rule : NameRule) (rest : List ℕ) (e : Stop) → e ≡ stop_at rule rest → length rest ≤ length text → ((at : ℕ) → StandsAt text at rest → Refused text at rule)
    → Refused text (length text - e.left) e.rule
told text rule rest e is fits refused =
    subst (λ (s : Stop). Refused text (length text - s.left) s.rule) (sym is) (refused (length text - length rest) (omega (arith, fits)))

pub fits_in : (text front params rest : List ℕ) → text ≡ front ++ (params ++ rest) → length rest ≤ length text
fits_in text front params rest is =
    omega (arith, ap (λ (t : List ℕ). length t) is, length-append front (params ++ rest), length-append params rest)

end_refused : (text : List ℕ) (front : Length) (ws : List Written) (bytes : List ℕ) (e : Stop) → Begins text front ws bytes → end_at bytes ≡ Err e → Refused text (length text - e.left) e.rule
unfolding end_at
end_refused text front ws [] e b h =
    told text N9 [] e (refuse_is N9 [] e h) (omega arith) (λ at place. subst (λ (k : ℕ). Refused text k N9) (omega (arith, place)) (cut_off front ws b))
end_refused text front ws (c ∷ cs) e b h =
    left_or (chosen (eqb c 95) _ _ _ h) (λ y. absurd (done_not (Some cs) e y.1))
    (λ n. left_or (chosen (is_kind_letter c) _ _ _ n.1) (λ y. absurd (done_not None e y.1))
    (λ m. told text N5 (c ∷ cs) e (refuse_is N5 (c ∷ cs) e m.1) (fits_in text (front_text front) (params_text ws) (c ∷ cs) b.parts)
    (λ at place. stray front ws c cs at b m.0 (eqb-false c 95 n.0) place)))

one_shorter : (b : ℕ) (bs : List ℕ) (n : ℕ) → length (b ∷ bs) ≤ n → length bs ≤ n
one_shorter b bs n h = omega arith

step_told : (text : List ℕ) (front : Length) (ws : List Written) (c : ℕ) (more : List ℕ) (e : Stop) → Begins text front ws (c ∷ more) → length ws < 64 → has_step c ≡ true → StepRefused more e
    → Refused text (length text - e.left) e.rule
step_told text front ws c more e b room letter (plain bs digit none) =
    told text N6 bs (stop_at N6 bs) refl (one_shorter c bs (length text) (fits_in text (front_text front) (params_text ws) (c ∷ bs) b.parts))
    (λ at place. wrong_step front ws c bs at b room letter digit none place)
step_told text front ws c more e b room letter (negative bs none) =
    told text N6 bs (stop_at N6 bs) refl (one_shorter 110 bs (length text) (one_shorter c (110 ∷ bs) (length text) (fits_in text (front_text front) (params_text ws) (c ∷ 110 ∷ bs) b.parts)))
    (λ at place. wrong_negative front ws c bs at b room letter none place)
step_told text front ws c more e b room letter (position bs none) =
    told text N6 bs (stop_at N6 bs) refl (one_shorter 115 bs (length text) (one_shorter c (115 ∷ bs) (length text) (fits_in text (front_text front) (params_text ws) (c ∷ 115 ∷ bs) b.parts)))
    (λ at place. wrong_position front ws c bs at b room letter none place)

param_told : (text : List ℕ) (front : Length) (ws : List Written) (bytes : List ℕ) (e : Stop) → Begins text front ws bytes → length ws < 64 → ParamRefused bytes e
    → Refused text (length text - e.left) e.rule
param_told text front ws bytes e b room (a_step c more is letter refused) =
    step_told text front ws c more e (subst (λ (t : List ℕ). Begins text front ws t) is b) room letter refused
param_told text front ws bytes e b room (an_align kind digits more is fits none stop) =
    let here : Begins text front ws (kind_text kind digits ++ (97 ∷ more)) = subst (λ (t : List ℕ). Begins text front ws t) is b in
    let inside = fits_in text (front_text front) (params_text ws) (kind_text kind digits ++ (97 ∷ more)) here.parts in
    told text N8 more e stop (omega (arith, inside, length-append (kind_text kind digits) (97 ∷ more)))
    (λ at place. wrong_align front ws kind digits more at here room fits none place)

pub params_refused : (room : ℕ) (text : List ℕ) (front : Length) (ws : List Written) (bytes : List ℕ) (e : Stop) → Begins text front ws bytes → length ws + room ≡ 64
    → params_at room (kept ws) bytes ≡ Err e → Refused text (length text - e.left) e.rule
unfolding params_at
params_refused zero text front ws bytes e b count h =
    left_or (bind_err (end_at bytes) (λ end. ended (kept ws) (refuse N12 bytes) end) e h)
    (λ stops. end_refused text front ws bytes e b stops)
    (λ end. left_or (option_cases end.0)
    (λ none.
    let l = letter_begins bytes (end.1 ∙ ap (λ (o : Option (List ℕ)). Ok o) none) in
    let here : Begins text front ws (l.0 ∷ l.1) = subst (λ (t : List ℕ). Begins text front ws t) l.2 b in
    let is : e ≡ stop_at N12 bytes = refuse_is N12 bytes e (sym (ap (λ (o : Option (List ℕ)). ended (kept ws) (refuse N12 bytes) o) none) ∙ end.2) in
    told text N12 (l.0 ∷ l.1) e (is ∙ ap (λ (t : List ℕ). stop_at N12 t) l.2) (fits_in text (front_text front) (params_text ws) (l.0 ∷ l.1) here.parts)
    (λ at place. one_more front ws l.0 l.1 at here l.3 (omega (arith, count)) place))
    (λ some. absurd (done_not (kept ws, some.0) e (sym (ap (λ (o : Option (List ℕ)). ended (kept ws) (refuse N12 bytes) o) some.1) ∙ end.2))))
params_refused (suc room) text front ws bytes e b count h =
    let next : Result (List Param × List ℕ) Stop = param_at bytes >>= λ p. params_at room (kept ws ++ (p.0 ∷ [])) p.1 in
    let small : length ws < 64 = omega (arith, count) in
    left_or (bind_err (end_at bytes) (λ end. ended (kept ws) next end) e h)
    (λ stops. end_refused text front ws bytes e b stops)
    (λ end. left_or (option_cases end.0)
    (λ none.
    let l = letter_begins bytes (end.1 ∙ ap (λ (o : Option (List ℕ)). Ok o) none) in
    left_or (bind_err (param_at bytes) (λ p. params_at room (kept ws ++ (p.0 ∷ [])) p.1) e (sym (ap (λ (o : Option (List ℕ)). ended (kept ws) next o) none) ∙ end.2))
    (λ stops. param_told text front ws (l.0 ∷ l.1) e (subst (λ (t : List ℕ). Begins text front ws t) l.2 b) small (param_refused l.0 l.1 e l.3 (ap param_at (sym l.2) ∙ stops)))
    (λ p.
    let t = param_takes bytes p.0.0 p.0.1 p.1 in
    let same : kept (ws ++ (t.written ∷ [])) ≡ kept ws ++ (p.0.0 ∷ []) = kept_more ws t.written ∙ ap (λ (q : Param). kept ws ++ (q ∷ [])) t.kept in
    params_refused room text front (ws ++ (t.written ∷ [])) p.0.1 e (begins_more text front ws bytes p.0.1 p.0.0 b small t) (omega (arith, count, length-append ws (t.written ∷ [])))
    (ap (λ (qs : List Param). params_at room qs p.0.1) same ∙ p.2)))
    (λ some. absurd (done_not (kept ws, some.0) e (sym (ap (λ (o : Option (List ℕ)). ended (kept ws) next o) some.1) ∙ end.2))))
