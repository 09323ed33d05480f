-- One parameter: what is read is spelled so, and what is spelled so is read.
use Rattle.std.proofs.Common.{◌≡◌, ◌≢◌, ℕ, suc, ◌-◌, ◌^◌, ◌<◌, ◌≤◌, min, true, false, ◌||◌, cond, eqb, List, [], ◌∷◌, ◌++◌, length, Option, Some, None, Result, Ok, Err, refl, sym, ap, subst, ◌∙◌, arith, inl, inr, ◌⊎◌, append_assoc, pos, negsuc}
use Rattle.std.specs.Char.{is_ascii_digit}
use Rattle.std.specs.Fmt.{decimal}
use Rattle.std.specs.Int.{is_power_of_two}
use Rattle.std.specs.Str.Parse.{AllDigits, digits_value}
use Rattle.std.proofs.lemmas.Bool.{cases_Bool, eqb-true, ne_eqb, or_parts, or_from, or_left, or_right, false≢true}
use Rattle.std.proofs.lemmas.List.Sums.{take_while-cons}
use Rattle.std.proofs.lemmas.Str.Parse.{digit_from_value}
use Rattle.std.proofs.lemmas.Fmt.{digits_decimal, decimal_nonempty, decimal_injective}
use Rattle.vk_kinds.specs.declared.kinds.Step.{Step}
use Rattle.vk_kinds.specs.declared.kinds.Step.TheVariants.{One, By, Arg}
use Rattle.vk_kinds.specs.declared.kinds.Kind.{Kind}
use Rattle.vk_kinds.specs.declared.kinds.Kind.TheVariants.{Vector, Uniform, Linear, Ref, Val, Uval}
use Rattle.vk_kinds.specs.declared.kinds.Param.{Param}
use Rattle.vk_names.specs.declared.rules.NameRule.TheVariants.{N5, N6, N8}
use Rattle.vk_names.proofs.Reading.{Stop}
use Rattle.vk_names.specs.Spelling.{Written, step_text, step_of, kind_letter, kind_text, align_text, written_text, IsPosition, IsStep, IsOptionalStep, IsAlign, IsOptionalAlign, IsWritten}
use Rattle.vk_names.specs.Refusal.{digit_run, NoNumber, Ends, step_goes_on, align_goes_on, param_goes_on, has_step, is_kind_letter}
use Rattle.vk_names.proofs.Reading.{◌>>=◌, refuse, number_at, position_at, negative_at, plain_at, argument_at, step_at, stepped_at, kind_at, power_at, align_at, param_at}
use Rattle.vk_names.proofs.Numbers.{cases_result, not_both, err_is, ok_is, done, bind_ok, bind_err, chosen, left_or, digit_byte, is_digit, run_is, decimal_run, own, number_again, number_takes, number_refused, number_refuses, position_again, position_takes, position_refused, position_refuses}

-- ---- positions as they are kept

-- a position above 255 is kept as 255, which names no parameter either
abbrev pub capped : Step → Step
capped One = One
capped (By z) = By z
capped (Arg at) = Arg (min at 255)

abbrev pub capped_kind : Kind → Kind
capped_kind Vector = Vector
capped_kind Uniform = Uniform
capped_kind (Linear s) = Linear (capped s)
capped_kind (Ref s) = Ref (capped s)
capped_kind (Val s) = Val (capped s)
capped_kind (Uval s) = Uval (capped s)

abbrev pub capped_param : Param → Param
capped_param p = record { kind = capped_kind p.kind; align = p.align }

-- ---- steps

-- the text of a number begins with a digit
pub record Begun (n : ℕ) : Type 0 where
  pub first : ℕ
  pub others : List ℕ
  pub is : decimal n ≡ first ∷ others
  pub digit : is_ascii_digit first ≡ true

begun_from : (n : ℕ) (ds : List ℕ) → decimal n ≡ ds → AllDigits 10 ds → 0 < length ds → Begun n
begun_from n [] e all long = absurd (omega arith)
begun_from n (d ∷ ds) e all long = record { first = d; others = ds; is = e; digit = digit_is d ds all }
  where
    digit_is : (d : ℕ) (ds : List ℕ) → AllDigits 10 (d ∷ ds) → is_ascii_digit d ≡ true
    digit_is d ds all = let r = digit_from_value d all.0 in is_digit d (omega (arith, r)) (omega (arith, r))

pub begun : (n : ℕ) → n < 2 ^ 64 → Begun n
begun n small = begun_from n (decimal n) refl (digits_decimal own n small) (decimal_nonempty n small)

no_n : (b : ℕ) → is_ascii_digit b ≡ true → eqb b 110 ≡ false
no_n b h = let r = digit_byte b h in ne_eqb b 110 (λ e. omega (arith, r))

no_s : (b : ℕ) → is_ascii_digit b ≡ true → eqb b 115 ≡ false
no_s b h = let r = digit_byte b h in ne_eqb b 115 (λ e. omega (arith, r))

-- at a digit a plain step is read
at_digit : (b : ℕ) (bs : List ℕ) → is_ascii_digit b ≡ true → step_at (b ∷ bs) ≡ plain_at (b ∷ bs)
unfolding step_at
at_digit b bs h = rw (no_n b h, no_s b h, h) refl

at_number : (n : ℕ) (rest : List ℕ) → n < 2 ^ 64 → step_at (decimal n ++ rest) ≡ plain_at (decimal n ++ rest)
at_number n rest small =
    let b = begun n small in
    let e : decimal n ++ rest ≡ b.first ∷ (b.others ++ rest) = ap (λ (t : List ℕ). t ++ rest) b.is in
    ap step_at e ∙ at_digit b.first (b.others ++ rest) b.digit ∙ ap plain_at (sym e)

pub step_again : (s : Step) (digits rest : List ℕ) → IsStep s digits → Ends (step_goes_on (Some s)) rest → step_at (step_text s digits ++ rest) ≡ Ok (capped s, rest)
unfolding step_at
step_again One digits [] fits stops = refl
step_again One digits (b ∷ rest) fits stops =
    let p = or_parts (is_ascii_digit b) (eqb b 110 || eqb b 115) stops in
    let q = or_parts (eqb b 110) (eqb b 115) p.1 in
    rw (q.0, q.1, p.0) refl
step_again (By (pos n)) digits rest fits stops =
    let small : n < 2 ^ 64 = omega arith in
    at_number n rest small
    ∙ rw (number_again 2 2147483647 n N6 (decimal n ++ rest) rest (omega arith) (omega arith) fits.0 fits.1 (decimal_run n rest small stops)) refl
step_again (By (negsuc n)) digits rest fits stops =
    let small : suc n < 2 ^ 64 = omega arith in
    rw (number_again 1 2147483647 (suc n) N6 (decimal (suc n) ++ rest) rest (omega arith) (omega arith) (omega arith) fits (decimal_run (suc n) rest small stops))
    (ap (λ (k : ℕ). Ok (By (negsuc k), rest)) (omega arith))
step_again (Arg at) digits rest fits stops =
    rw (position_again (digits ++ rest) digits rest (record { parts = refl; all = fits.0.all; stops = stops }) fits.0)
    (ap (λ (k : ℕ). Ok (Arg (min k 255), rest)) fits.1)

pub record TakesStep (bytes : List ℕ) (t : Step) (rest : List ℕ) : Type 0 where
  pub step : Step
  pub digits : List ℕ
  pub kept : capped step ≡ t
  pub fits : IsStep step digits
  pub parts : bytes ≡ step_text step digits ++ rest
  pub stops : Ends (step_goes_on (Some step)) rest

plain_takes : (bytes : List ℕ) (t : Step) (rest : List ℕ) → plain_at bytes ≡ Ok (t, rest) → TakesStep bytes t rest
plain_takes bytes t rest e =
    let b = bind_ok (number_at 2 2147483647 N6 bytes) (λ n. Ok (By (pos n.0), n.1)) (t, rest) e in
    let n = number_takes 2 2147483647 b.0.0 N6 bytes b.0.1 (omega arith) (omega arith) b.1 in
    subst (λ (x : Step × List ℕ). TakesStep bytes x.0 x.1) (ok_is (By (pos b.0.0), b.0.1) (t, rest) b.2)
    (record { step = By (pos b.0.0); digits = []; kept = refl; fits = (n.1, n.2); parts = n.0.parts; stops = n.0.stops })

negative_takes : (bytes : List ℕ) (t : Step) (rest : List ℕ) → negative_at bytes ≡ Ok (t, rest) → TakesStep (110 ∷ bytes) t rest
negative_takes bytes t rest e =
    let b = bind_ok (number_at 1 2147483647 N6 bytes) (λ n. Ok (By (negsuc (n.0 - 1)), n.1)) (t, rest) e in
    let n = number_takes 1 2147483647 b.0.0 N6 bytes b.0.1 (omega arith) (omega arith) b.1 in
    let low = n.1 in
    let same : b.0.0 ≡ suc (b.0.0 - 1) = omega (arith, low) in
    let high = n.2 in
    subst (λ (x : Step × List ℕ). TakesStep (110 ∷ bytes) x.0 x.1) (ok_is (By (negsuc (b.0.0 - 1)), b.0.1) (t, rest) b.2)
    (record { step = By (negsuc (b.0.0 - 1)); digits = []; kept = refl; fits = omega (arith, low, high); parts = ap (λ (t : List ℕ). 110 ∷ t) n.0.parts ∙ ap (λ (k : ℕ). 110 ∷ (decimal k ++ b.0.1)) same; stops = n.0.stops })

argument_takes : (bytes : List ℕ) (t : Step) (rest : List ℕ) → argument_at bytes ≡ Ok (t, rest) → TakesStep (115 ∷ bytes) t rest
argument_takes bytes t rest e =
    let b = bind_ok (position_at bytes) (λ n. Ok (Arg n.0, n.1)) (t, rest) e in
    let n = position_takes bytes b.0.0 b.0.1 b.1 in
    subst (λ (x : Step × List ℕ). TakesStep (115 ∷ bytes) x.0 x.1) (ok_is (Arg b.0.0, b.0.1) (t, rest) b.2)
    (record { step = Arg (digits_value 10 n.0); digits = n.0; kept = ap (λ (k : ℕ). Arg k) (sym n.3); fits = (n.2, refl); parts = ap (λ (t : List ℕ). 115 ∷ t) n.1.parts; stops = n.1.stops })

pub step_takes : (bytes : List ℕ) (t : Step) (rest : List ℕ) → step_at bytes ≡ Ok (t, rest) → TakesStep bytes t rest
unfolding step_at
step_takes [] t rest e =
    subst (λ (x : Step × List ℕ). TakesStep [] x.0 x.1) (ok_is (One, []) (t, rest) e)
    (record { step = One; digits = []; kept = refl; fits = tt; parts = refl; stops = tt })
step_takes (b ∷ bs) t rest e =
    left_or (chosen (eqb b 110) _ _ _ e)
    (λ n. subst (λ (c : ℕ). TakesStep (c ∷ bs) t rest) (sym (eqb-true b 110 n.0)) (negative_takes bs t rest n.1))
    (λ not_n. left_or (chosen (eqb b 115) _ _ _ not_n.1)
    (λ s. subst (λ (c : ℕ). TakesStep (c ∷ bs) t rest) (sym (eqb-true b 115 s.0)) (argument_takes bs t rest s.1))
    (λ not_s. left_or (chosen (is_ascii_digit b) _ _ _ not_s.1)
    (λ d. plain_takes (b ∷ bs) t rest d.1)
    (λ other. subst (λ (x : Step × List ℕ). TakesStep (b ∷ bs) x.0 x.1) (ok_is (One, b ∷ bs) (t, rest) other.1)
    (record { step = One; digits = []; kept = refl; fits = tt; parts = refl; stops = or_from (is_ascii_digit b) (eqb b 110 || eqb b 115) other.0 (or_from (eqb b 110) (eqb b 115) not_n.0 not_s.0) }))))

-- why a step is refused, and where
pub data StepRefused : List ℕ → Stop → Type 0 where
  plain : (bytes : List ℕ) → digit_run bytes ≢ [] → NoNumber (λ n. (2 ≤ n) × (n ≤ 2147483647)) bytes → StepRefused bytes (record { left = length bytes; rule = N6 })
  negative : (bytes : List ℕ) → NoNumber (λ n. (1 ≤ n) × (n ≤ 2147483647)) bytes → StepRefused (110 ∷ bytes) (record { left = length bytes; rule = N6 })
  position : (bytes : List ℕ) → (IsPosition (digit_run bytes) → ⊥) → StepRefused (115 ∷ bytes) (record { left = length bytes; rule = N6 })

pub bound_err : {A B : Type 0} (r : Result A Stop) (f : A → B) (e : Stop) → (r >>= λ x. Ok (f x)) ≡ Err e → r ≡ Err e
bound_err (Ok x) f e h = absurd cc
bound_err (Err d) f e h = cc

run_nonempty : (b : ℕ) (bs : List ℕ) → is_ascii_digit b ≡ true → digit_run (b ∷ bs) ≢ []
run_nonempty b bs h e = cons_nil (digit_run bs) (sym (take_while-cons is_ascii_digit b bs ∙ rw h refl) ∙ e)
  where
    cons_nil : (ds : List ℕ) → b ∷ ds ≡ [] → ⊥
    cons_nil ds e = cc

run_begins : (bytes : List ℕ) → digit_run bytes ≢ [] → (b : ℕ) × (bs : List ℕ) × (bytes ≡ b ∷ bs) × (is_ascii_digit b ≡ true)
run_begins [] h = absurd (h refl)
run_begins (b ∷ bs) h =
    left_or (cases_Bool (is_ascii_digit b)) (λ yes. (b, bs, refl, yes)) (λ no. absurd (h (take_while-cons is_ascii_digit b bs ∙ rw no refl)))

pub step_refused : (bytes : List ℕ) (e : Stop) → step_at bytes ≡ Err e → StepRefused bytes e
unfolding step_at
step_refused [] e h = absurd cc
step_refused (b ∷ bs) e h =
    left_or (chosen (eqb b 110) _ _ _ h)
    (λ n.
    let r = number_refused 1 2147483647 N6 bs e (omega arith) (omega arith) (bound_err (number_at 1 2147483647 N6 bs) (λ n. (By (negsuc (n.0 - 1)), n.1)) e n.1) in
    subst (λ (c : ℕ). StepRefused (c ∷ bs) e) (sym (eqb-true b 110 n.0)) (subst (λ (s : Stop). StepRefused (110 ∷ bs) s) (sym r.0) (negative bs r.1)))
    (λ not_n. left_or (chosen (eqb b 115) _ _ _ not_n.1)
    (λ s.
    let r = position_refused bs e (bound_err (position_at bs) (λ n. (Arg n.0, n.1)) e s.1) in
    subst (λ (c : ℕ). StepRefused (c ∷ bs) e) (sym (eqb-true b 115 s.0)) (subst (λ (s : Stop). StepRefused (115 ∷ bs) s) (sym r.0) (position bs r.1)))
    (λ not_s. left_or (chosen (is_ascii_digit b) _ _ _ not_s.1)
    (λ d.
    let r = number_refused 2 2147483647 N6 (b ∷ bs) e (omega arith) (omega arith) (bound_err (number_at 2 2147483647 N6 (b ∷ bs)) (λ n. (By (pos n.0), n.1)) e d.1) in
    subst (λ (s : Stop). StepRefused (b ∷ bs) s) (sym r.0) (plain (b ∷ bs) (run_nonempty b bs d.0) r.1))
    (λ other. absurd (not_both (Ok (One, b ∷ bs)) (One, b ∷ bs) e refl other.1))))

pub step_refuses : (bytes : List ℕ) (e : Stop) → StepRefused bytes e → step_at bytes ≡ Err e
unfolding step_at
step_refuses bytes e (plain bs digit none) =
    let r = run_begins bs digit in
    ap step_at r.2 ∙ at_digit r.0 r.1 r.3 ∙ ap plain_at (sym r.2) ∙ rw (number_refuses 2 2147483647 N6 bs (omega arith) (omega arith) none) refl
step_refuses bytes e (negative bs none) = rw (number_refuses 1 2147483647 N6 bs (omega arith) (omega arith) none) refl
step_refuses bytes e (position bs none) = rw (position_refuses bs none) refl

-- ---- kinds

pub kind_again : (k : Kind) (digits rest : List ℕ) → IsOptionalStep (step_of k) digits → Ends (step_goes_on (step_of k)) rest
    → kind_at (kind_text k digits ++ rest) ≡ Ok (capped_kind k, rest)
unfolding kind_at
kind_again Vector digits rest fits stops = refl
kind_again Uniform digits rest fits stops = refl
kind_again (Linear s) digits rest fits stops = rw (step_again s digits rest fits stops) refl
kind_again (Ref s) digits rest fits stops = rw (step_again s digits rest fits stops) refl
kind_again (Val s) digits rest fits stops = rw (step_again s digits rest fits stops) refl
kind_again (Uval s) digits rest fits stops = rw (step_again s digits rest fits stops) refl

pub record TakesKind (bytes : List ℕ) (t : Kind) (rest : List ℕ) : Type 0 where
  pub kind : Kind
  pub digits : List ℕ
  pub kept : capped_kind kind ≡ t
  pub fits : IsOptionalStep (step_of kind) digits
  pub parts : bytes ≡ kind_text kind digits ++ rest
  pub stops : Ends (step_goes_on (step_of kind)) rest

-- no step
bare_stops : (rest : List ℕ) → Ends (step_goes_on None) rest
bare_stops [] = tt
bare_stops (b ∷ bs) = refl

pub kind_takes : (bytes : List ℕ) (t : Kind) (rest : List ℕ) → kind_at bytes ≡ Ok (t, rest) → TakesKind bytes t rest
unfolding kind_at
kind_takes [] t rest e = absurd cc
kind_takes (b ∷ bs) t rest e =
    let vector : (b ≡ 118) → done (Vector, bs) ≡ Ok (t, rest) → TakesKind (b ∷ bs) t rest = λ is e.
    subst (λ (x : Kind × List ℕ). TakesKind (b ∷ bs) x.0 x.1) (ok_is (Vector, bs) (t, rest) e)
    (record { kind = Vector; digits = []; kept = refl; fits = tt; parts = ap (λ (c : ℕ). c ∷ bs) is; stops = bare_stops bs }) in
    let uniform : (b ≡ 117) → done (Uniform, bs) ≡ Ok (t, rest) → TakesKind (b ∷ bs) t rest = λ is e.
    subst (λ (x : Kind × List ℕ). TakesKind (b ∷ bs) x.0 x.1) (ok_is (Uniform, bs) (t, rest) e)
    (record { kind = Uniform; digits = []; kept = refl; fits = tt; parts = ap (λ (c : ℕ). c ∷ bs) is; stops = bare_stops bs }) in
    left_or (chosen (eqb b 118) _ _ _ e) (λ y. vector (eqb-true b 118 y.0) y.1)
    (λ n. left_or (chosen (eqb b 117) _ _ _ n.1) (λ y. uniform (eqb-true b 117 y.0) y.1)
    (λ n. left_or (chosen (eqb b 108) _ _ _ n.1) (λ y. linear b bs t rest (eqb-true b 108 y.0) y.1)
    (λ n. left_or (chosen (eqb b 82) _ _ _ n.1) (λ y. ref b bs t rest (eqb-true b 82 y.0) y.1)
    (λ n. left_or (chosen (eqb b 76) _ _ _ n.1) (λ y. val b bs t rest (eqb-true b 76 y.0) y.1)
    (λ n. left_or (chosen (eqb b 85) _ _ _ n.1) (λ y. uval b bs t rest (eqb-true b 85 y.0) y.1)
    (λ n. absurd (not_both (refuse N5 (b ∷ bs)) (t, rest) (record { left = length (b ∷ bs); rule = N5 }) n.1 refl)))))))
  where
    linear : (b : ℕ) (bs : List ℕ) (t : Kind) (rest : List ℕ) → b ≡ 108 → stepped_at (λ s. Linear s) bs ≡ Ok (t, rest) → TakesKind (b ∷ bs) t rest
    linear b bs t rest is e =
        let p = bind_ok (step_at bs) (λ s. Ok (Linear s.0, s.1)) (t, rest) e in
        let s = step_takes bs p.0.0 p.0.1 p.1 in
        subst (λ (x : Kind × List ℕ). TakesKind (b ∷ bs) x.0 x.1) (ok_is (Linear p.0.0, p.0.1) (t, rest) p.2)
        (record { kind = Linear s.step; digits = s.digits; kept = ap (λ (z : Step). Linear z) s.kept; fits = s.fits; parts = ap (λ (c : ℕ). c ∷ bs) is ∙ ap (λ (z : List ℕ). 108 ∷ z) s.parts; stops = s.stops })

    ref : (b : ℕ) (bs : List ℕ) (t : Kind) (rest : List ℕ) → b ≡ 82 → stepped_at (λ s. Ref s) bs ≡ Ok (t, rest) → TakesKind (b ∷ bs) t rest
    ref b bs t rest is e =
        let p = bind_ok (step_at bs) (λ s. Ok (Ref s.0, s.1)) (t, rest) e in
        let s = step_takes bs p.0.0 p.0.1 p.1 in
        subst (λ (x : Kind × List ℕ). TakesKind (b ∷ bs) x.0 x.1) (ok_is (Ref p.0.0, p.0.1) (t, rest) p.2)
        (record { kind = Ref s.step; digits = s.digits; kept = ap (λ (z : Step). Ref z) s.kept; fits = s.fits; parts = ap (λ (c : ℕ). c ∷ bs) is ∙ ap (λ (z : List ℕ). 82 ∷ z) s.parts; stops = s.stops })

    val : (b : ℕ) (bs : List ℕ) (t : Kind) (rest : List ℕ) → b ≡ 76 → stepped_at (λ s. Val s) bs ≡ Ok (t, rest) → TakesKind (b ∷ bs) t rest
    val b bs t rest is e =
        let p = bind_ok (step_at bs) (λ s. Ok (Val s.0, s.1)) (t, rest) e in
        let s = step_takes bs p.0.0 p.0.1 p.1 in
        subst (λ (x : Kind × List ℕ). TakesKind (b ∷ bs) x.0 x.1) (ok_is (Val p.0.0, p.0.1) (t, rest) p.2)
        (record { kind = Val s.step; digits = s.digits; kept = ap (λ (z : Step). Val z) s.kept; fits = s.fits; parts = ap (λ (c : ℕ). c ∷ bs) is ∙ ap (λ (z : List ℕ). 76 ∷ z) s.parts; stops = s.stops })

    uval : (b : ℕ) (bs : List ℕ) (t : Kind) (rest : List ℕ) → b ≡ 85 → stepped_at (λ s. Uval s) bs ≡ Ok (t, rest) → TakesKind (b ∷ bs) t rest
    uval b bs t rest is e =
        let p = bind_ok (step_at bs) (λ s. Ok (Uval s.0, s.1)) (t, rest) e in
        let s = step_takes bs p.0.0 p.0.1 p.1 in
        subst (λ (x : Kind × List ℕ). TakesKind (b ∷ bs) x.0 x.1) (ok_is (Uval p.0.0, p.0.1) (t, rest) p.2)
        (record { kind = Uval s.step; digits = s.digits; kept = ap (λ (z : Step). Uval z) s.kept; fits = s.fits; parts = ap (λ (c : ℕ). c ∷ bs) is ∙ ap (λ (z : List ℕ). 85 ∷ z) s.parts; stops = s.stops })

-- a kind is refused where its step is
has_step_at : (b : ℕ) → has_step b ≡ true → (b ≡ 108) ⊎ ((b ≡ 82) ⊎ ((b ≡ 76) ⊎ (b ≡ 85)))
has_step_at b h =
    left_or (cases_Bool (eqb b 108)) (λ y. inl (eqb-true b 108 y))
    (λ l. left_or (cases_Bool (eqb b 82)) (λ y. inr (inl (eqb-true b 82 y)))
    (λ r. left_or (cases_Bool (eqb b 76)) (λ y. inr (inr (inl (eqb-true b 76 y))))
    (λ v. left_or (cases_Bool (eqb b 85)) (λ y. inr (inr (inr (eqb-true b 85 y))))
    (λ u. absurd (false≢true (sym (or_from (eqb b 108) _ l (or_from (eqb b 82) _ r (or_from (eqb b 76) _ v u))) ∙ h))))))

pub kind_refuses : (b : ℕ) (bs : List ℕ) (e : Stop) → has_step b ≡ true → step_at bs ≡ Err e → kind_at (b ∷ bs) ≡ Err e
unfolding kind_at
kind_refuses b bs e h s =
    left_or (has_step_at b h) (λ is. ap (λ (c : ℕ). kind_at (c ∷ bs)) is ∙ rw s refl)
    (λ n. left_or n (λ is. ap (λ (c : ℕ). kind_at (c ∷ bs)) is ∙ rw s refl)
    (λ n. left_or n (λ is. ap (λ (c : ℕ). kind_at (c ∷ bs)) is ∙ rw s refl)
    (λ is. ap (λ (c : ℕ). kind_at (c ∷ bs)) is ∙ rw s refl)))

pub kind_refused : (b : ℕ) (bs : List ℕ) (e : Stop) → is_kind_letter b ≡ true → kind_at (b ∷ bs) ≡ Err e → (has_step b ≡ true) × (step_at bs ≡ Err e)
unfolding kind_at
kind_refused b bs e letter h =
    left_or (chosen (eqb b 118) _ _ _ h) (λ y. absurd (not_both (done (Vector, bs)) (Vector, bs) e refl y.1))
    (λ v. left_or (chosen (eqb b 117) _ _ _ v.1) (λ y. absurd (not_both (done (Uniform, bs)) (Uniform, bs) e refl y.1))
    (λ u. left_or (chosen (eqb b 108) _ _ _ u.1) (λ y. (or_left (eqb b 108) _ y.0, bound_err (step_at bs) (λ s. (Linear s.0, s.1)) e y.1))
    (λ l. left_or (chosen (eqb b 82) _ _ _ l.1) (λ y. (or_right (eqb b 108) _ (or_left (eqb b 82) _ y.0), bound_err (step_at bs) (λ s. (Ref s.0, s.1)) e y.1))
    (λ r. left_or (chosen (eqb b 76) _ _ _ r.1) (λ y. (or_right (eqb b 108) _ (or_right (eqb b 82) _ (or_left (eqb b 76) _ y.0)), bound_err (step_at bs) (λ s. (Val s.0, s.1)) e y.1))
    (λ n. left_or (chosen (eqb b 85) _ _ _ n.1) (λ y. (or_right (eqb b 108) _ (or_right (eqb b 82) _ (or_right (eqb b 76) _ y.0)), bound_err (step_at bs) (λ s. (Uval s.0, s.1)) e y.1))
    (λ o. absurd (false≢true (sym (or_from (eqb b 118) _ v.0 (or_from (eqb b 117) _ u.0 (or_from (eqb b 108) _ l.0 (or_from (eqb b 82) _ r.0 (or_from (eqb b 76) _ n.0 o.0))))) ∙ letter))))))))

-- ---- alignments

pub align_again : (a : Option ℕ) (rest : List ℕ) → IsOptionalAlign a → Ends (align_goes_on a None) rest → align_at (align_text a ++ rest) ≡ Ok (a, rest)
unfolding align_at
align_again None [] fits stops = refl
align_again None (b ∷ rest) fits stops = let p = or_parts (eqb b 97) false stops in rw p.0 refl
align_again (Some n) rest fits stops =
    let low = fits.low in
    let high = fits.high in
    let small : n < 2 ^ 64 = omega (arith, high) in
    rw (number_again 1 65536 n N8 (decimal n ++ rest) rest (omega arith) (omega arith) low high (decimal_run n rest small stops), fits.power) refl

pub record TakesAlign (bytes : List ℕ) (a : Option ℕ) (rest : List ℕ) : Type 0 where
  pub fits : IsOptionalAlign a
  pub parts : bytes ≡ align_text a ++ rest
  pub stops : Ends (align_goes_on a None) rest

none_stops : (b : ℕ) → eqb b 97 ≡ false → align_goes_on None None b ≡ false
none_stops b h = or_from (eqb b 97) false h refl

power_takes : (bytes : List ℕ) (a : Option ℕ) (rest : List ℕ) → power_at bytes ≡ Ok (a, rest) → TakesAlign (97 ∷ bytes) a rest
power_takes bytes a rest e =
    let p = bind_ok (number_at 1 65536 N8 bytes) (λ n. cond (is_power_of_two n.0) (Ok (Some n.0, n.1)) (refuse N8 bytes)) (a, rest) e in
    let n = number_takes 1 65536 p.0.0 N8 bytes p.0.1 (omega arith) (omega arith) p.1 in
    left_or (chosen (is_power_of_two p.0.0) (Ok (Some p.0.0, p.0.1)) (refuse N8 bytes) (Ok (a, rest)) p.2)
    (λ y. subst (λ (x : Option ℕ × List ℕ). TakesAlign (97 ∷ bytes) x.0 x.1) (ok_is (Some p.0.0, p.0.1) (a, rest) y.1)
    (record { fits = record { power = y.0; low = n.1; high = n.2 }; parts = ap (λ (t : List ℕ). 97 ∷ t) n.0.parts; stops = n.0.stops }))
    (λ no. absurd (not_both (refuse N8 bytes) (a, rest) (record { left = length bytes; rule = N8 }) no.1 refl))

pub align_takes : (bytes : List ℕ) (a : Option ℕ) (rest : List ℕ) → align_at bytes ≡ Ok (a, rest) → TakesAlign bytes a rest
unfolding align_at
align_takes [] a rest e =
    subst (λ (x : Option ℕ × List ℕ). TakesAlign [] x.0 x.1) (ok_is (None, []) (a, rest) e) (record { fits = tt; parts = refl; stops = tt })
align_takes (b ∷ bs) a rest e =
    left_or (chosen (eqb b 97) _ _ _ e)
    (λ y. subst (λ (c : ℕ). TakesAlign (c ∷ bs) a rest) (sym (eqb-true b 97 y.0)) (power_takes bs a rest y.1))
    (λ no. subst (λ (x : Option ℕ × List ℕ). TakesAlign (b ∷ bs) x.0 x.1) (ok_is (None, b ∷ bs) (a, rest) no.1)
    (record { fits = tt; parts = refl; stops = none_stops b no.0 }))

-- refused at the number after the `a`
pub record AlignRefused (bytes : List ℕ) (e : Stop) : Type 0 where
  pub more : List ℕ
  pub parts : bytes ≡ 97 ∷ more
  pub none : NoNumber IsAlign more
  pub stop : e ≡ record { left = length more; rule = N8 }

power_refused : (bytes : List ℕ) (e : Stop) → power_at bytes ≡ Err e → AlignRefused (97 ∷ bytes) e
power_refused bytes e h =
    left_or (bind_err (number_at 1 65536 N8 bytes) (λ n. cond (is_power_of_two n.0) (Ok (Some n.0, n.1)) (refuse N8 bytes)) e h)
    (λ no.
    let r = number_refused 1 65536 N8 bytes e (omega arith) (omega arith) no in
    record { more = bytes; parts = refl; none = λ n fits. r.1 n (fits.low, fits.high); stop = r.0 })
    (λ p.
    let n = number_takes 1 65536 p.0.0 N8 bytes p.0.1 (omega arith) (omega arith) p.1 in
    left_or (chosen (is_power_of_two p.0.0) (Ok (Some p.0.0, p.0.1)) (refuse N8 bytes) (Err e) p.2)
    (λ y. absurd (not_both (done (Some p.0.0, p.0.1)) (Some p.0.0, p.0.1) e refl y.1))
    (λ no. record {
      more = bytes;
      parts = refl;
      none = λ k fits is.
          let low = fits.low in
          let high = fits.high in
          let small : k < 2 ^ 64 = omega (arith, high) in
          let low_n = n.1 in
          let high_n = n.2 in
          let small_n : p.0.0 < 2 ^ 64 = omega (arith, high_n) in
          let same : p.0.0 ≡ k = decimal_injective p.0.0 k small_n small (sym (run_is bytes (decimal p.0.0) p.0.1 n.0) ∙ is) in
          false≢true (sym no.0 ∙ ap is_power_of_two same ∙ fits.power);
      stop = err_is e (record { left = length bytes; rule = N8 }) (sym no.1);
    }))

pub align_refused : (bytes : List ℕ) (e : Stop) → align_at bytes ≡ Err e → AlignRefused bytes e
unfolding align_at
align_refused [] e h = absurd cc
align_refused (b ∷ bs) e h =
    left_or (chosen (eqb b 97) _ _ _ h)
    (λ y. subst (λ (c : ℕ). AlignRefused (c ∷ bs) e) (sym (eqb-true b 97 y.0)) (power_refused bs e y.1))
    (λ no. absurd (not_both (done (None, b ∷ bs)) (None, b ∷ bs) e refl no.1))

pub align_refuses : (more : List ℕ) → NoNumber IsAlign more → align_at (97 ∷ more) ≡ refuse N8 more
unfolding align_at
align_refuses more none =
    left_or (cases_result (power_at more))
    (λ y.
    let t = power_takes more y.0.0 y.0.1 y.1 in
    absurd (no_align y.0.0 y.0.1 t))
    (λ no. no.1 ∙ ap (λ (s : Stop). Err s) (same_stop no.0 (power_refused more no.0 no.1)))
  where
    tails : (xs ys : List ℕ) → 97 ∷ xs ≡ 97 ∷ ys → xs ≡ ys
    tails xs ys e = cc

    no_align : (a : Option ℕ) (rest : List ℕ) → TakesAlign (97 ∷ more) a rest → ⊥
    no_align None rest t = false≢true (sym (subst (λ (r : List ℕ). Ends (align_goes_on None None) r) (sym t.parts) t.stops))
    no_align (Some n) rest t =
        let high = t.fits.high in
        let small : n < 2 ^ 64 = omega (arith, high) in
        none n t.fits (run_is more (decimal n) rest (record { parts = tails more (decimal n ++ rest) t.parts; all = digits_decimal own n small; stops = t.stops }))

    same_stop : (e : Stop) → AlignRefused (97 ∷ more) e → e ≡ record { left = length more; rule = N8 }
    same_stop e r = r.stop ∙ ap (λ (t : List ℕ). record { left = length t; rule = N8 }) (sym (tails more r.more r.parts))

-- ---- parameters

-- an `a` does not go on with a step
no_a : (s : Option Step) → step_goes_on s 97 ≡ false
no_a None = refl
no_a (Some One) = refl
no_a (Some (By z)) = refl
no_a (Some (Arg at)) = refl

kind_stops : (a : Option ℕ) (s : Option Step) (rest : List ℕ) → Ends (align_goes_on a s) rest → Ends (step_goes_on s) (align_text a ++ rest)
kind_stops (Some n) s rest stops = no_a s
kind_stops None s [] stops = tt
kind_stops None s (b ∷ bs) stops = (or_parts (eqb b 97) (step_goes_on s b) stops).1

align_ends : (a : Option ℕ) (s : Option Step) (rest : List ℕ) → Ends (align_goes_on a s) rest → Ends (align_goes_on a None) rest
align_ends a s [] stops = tt
align_ends (Some n) s (b ∷ bs) stops = stops
align_ends None s (b ∷ bs) stops = or_from (eqb b 97) false (or_parts (eqb b 97) (step_goes_on s b) stops).0 refl

both_end : (a : Option ℕ) (s : Option Step) (rest : List ℕ) → Ends (step_goes_on s) (align_text a ++ rest) → Ends (align_goes_on a None) rest → Ends (align_goes_on a s) rest
both_end a s [] step align = tt
both_end (Some n) s (b ∷ bs) step align = align
both_end None s (b ∷ bs) step align = or_from (eqb b 97) (step_goes_on s b) (or_parts (eqb b 97) false align).0 step

pub param_again : (w : Written) (rest : List ℕ) → IsWritten w → Ends (param_goes_on w.param) rest → param_at (written_text w ++ rest) ≡ Ok (capped_param w.param, rest)
unfolding param_at written_text
param_again w rest fits stops =
    ap param_at (append_assoc (kind_text w.param.kind w.digits) (align_text w.param.align) rest)
    ∙ rw (
      kind_again w.param.kind w.digits (align_text w.param.align ++ rest) fits.step (kind_stops w.param.align (step_of w.param.kind) rest stops),
      align_again w.param.align rest fits.align (align_ends w.param.align (step_of w.param.kind) rest stops),
    ) refl

pub record TakesParam (bytes : List ℕ) (q : Param) (rest : List ℕ) : Type 0 where
  pub written : Written
  pub kept : capped_param written.param ≡ q
  pub fits : IsWritten written
  pub parts : bytes ≡ written_text written ++ rest
  pub stops : Ends (param_goes_on written.param) rest

pub param_takes : (bytes : List ℕ) (q : Param) (rest : List ℕ) → param_at bytes ≡ Ok (q, rest) → TakesParam bytes q rest
unfolding param_at written_text
param_takes bytes q rest e =
    let a = bind_ok (kind_at bytes) (λ kind. align_at kind.1 >>= λ align. Ok (record { kind = kind.0; align = align.0 }, align.1)) (q, rest) e in
    let b = bind_ok (align_at a.0.1) (λ align. Ok (record { kind = a.0.0; align = align.0 }, align.1)) (q, rest) a.2 in
    let k = kind_takes bytes a.0.0 a.0.1 a.1 in
    let l = align_takes a.0.1 b.0.0 b.0.1 b.1 in
    subst (λ (x : Param × List ℕ). TakesParam bytes x.0 x.1) (ok_is (record { kind = a.0.0; align = b.0.0 }, b.0.1) (q, rest) b.2)
    (record {
      written = record { param = record { kind = k.kind; align = b.0.0 }; digits = k.digits };
      kept = ap (λ (z : Kind). record { kind = z; align = b.0.0 }) k.kept;
      fits = record { step = k.fits; align = l.fits };
      parts = k.parts ∙ ap (λ (t : List ℕ). kind_text k.kind k.digits ++ t) l.parts ∙ sym (append_assoc (kind_text k.kind k.digits) (align_text b.0.0) b.0.1);
      stops = both_end b.0.0 (step_of k.kind) b.0.1 (subst (λ (t : List ℕ). Ends (step_goes_on (step_of k.kind)) t) l.parts k.stops) l.stops;
    })

-- why a parameter is refused, and where
pub data ParamRefused (bytes : List ℕ) (e : Stop) : Type 0 where
  a_step : (b : ℕ) (more : List ℕ) → bytes ≡ b ∷ more → has_step b ≡ true → StepRefused more e → ParamRefused bytes e
  an_align : (kind : Kind) (digits more : List ℕ) → bytes ≡ kind_text kind digits ++ (97 ∷ more) → IsOptionalStep (step_of kind) digits
      → NoNumber IsAlign more → e ≡ record { left = length more; rule = N8 } → ParamRefused bytes e

pub param_refused : (b : ℕ) (bs : List ℕ) (e : Stop) → is_kind_letter b ≡ true → param_at (b ∷ bs) ≡ Err e → ParamRefused (b ∷ bs) e
unfolding param_at
param_refused b bs e letter h =
    left_or (bind_err (kind_at (b ∷ bs)) (λ kind. align_at kind.1 >>= λ align. Ok (record { kind = kind.0; align = align.0 }, align.1)) e h)
    (λ no. let k = kind_refused b bs e letter no in a_step b bs refl k.0 (step_refused bs e k.1))
    (λ p.
    let k = kind_takes (b ∷ bs) p.0.0 p.0.1 p.1 in
    let a = align_refused p.0.1 e (bound_err (align_at p.0.1) (λ align. (record { kind = p.0.0; align = align.0 }, align.1)) e p.2) in
    an_align k.kind k.digits a.more (k.parts ∙ ap (λ (t : List ℕ). kind_text k.kind k.digits ++ t) a.parts) k.fits a.none a.stop)

pub param_refuses : (bytes : List ℕ) (e : Stop) → ParamRefused bytes e → param_at bytes ≡ Err e
unfolding param_at
param_refuses bytes e (a_step b more is letter refused) =
    ap param_at is ∙ rw (kind_refuses b more e letter (step_refuses more e refused)) refl
param_refuses bytes e (an_align kind digits more is fits none stop) =
    ap param_at is ∙ rw (kind_again kind digits (97 ∷ more) fits (no_a (step_of kind)), align_refuses more none) (ap (λ (s : Stop). Err s) (sym stop))

-- a parameter's text begins with a letter of its own
pub kind_letter_is : (k : Kind) → is_kind_letter (kind_letter k) ≡ true
kind_letter_is Vector = refl
kind_letter_is Uniform = refl
kind_letter_is (Linear s) = refl
kind_letter_is (Ref s) = refl
kind_letter_is (Val s) = refl
kind_letter_is (Uval s) = refl
