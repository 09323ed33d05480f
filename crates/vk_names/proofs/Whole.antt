-- The whole text: each text spells one name or is refused at one place by one rule.
use Rattle.std.proofs.Common.{◌≡◌, ℕ, zero, suc, ◌-◌, ◌<◌, ◌≤◌, true, false, List, [], ◌∷◌, ◌++◌, length, map, Option, Some, None, Result, Ok, Err, refl, sym, ap, subst, ◌∙◌, arith, pos, negsuc}
use Rattle.std.specs.Prelude.{slice_get}
use Rattle.std.specs.Fmt.{decimal}
use Rattle.std.specs.List.{AllByRecursion, list_all}
use Rattle.std.specs.Str.Parse.{digits_value}
use Rattle.std.proofs.lemmas.Bool.{cases_lt, and_parts, false≢true}
use Rattle.std.proofs.lemmas.Fmt.{decimal-digits_value}
use Rattle.vk_kinds.specs.declared.kinds.Len.{Len}
use Rattle.vk_kinds.specs.declared.kinds.Len.TheVariants.{Fixed, Scalable}
use Rattle.vk_kinds.specs.declared.kinds.Step.{Step}
use Rattle.vk_kinds.specs.declared.kinds.Step.TheVariants.{One, By, Arg}
use Rattle.vk_kinds.specs.declared.kinds.Kind.{Kind}
use Rattle.vk_kinds.specs.declared.kinds.Kind.TheVariants.{Vector, Uniform, Linear, Ref, Val, Uval}
use Rattle.vk_kinds.specs.declared.kinds.Length.{Length}
use Rattle.vk_kinds.specs.declared.kinds.Param.{Param}
use Rattle.vk_names.proofs.Reading.{Stop}
use Rattle.vk_names.specs.Spelling.{Name, Written, front_text, step_text, step_of, align_text, written_text, position_in, in_decimal, params_text, name_text, IsPosition, IsStep, IsOptionalStep, IsOptionalAlign, IsWritten, IsName, is_uniform_param, step_is_placed, is_placed, is_name_byte}
use Rattle.vk_names.specs.Refusal.{Ends, len_goes_on, step_goes_on, align_goes_on, param_goes_on, goes_on, Begins, all_params, AllPlaced}
use Rattle.vk_names.proofs.Reading.{◌>>=◌, end_at, params_at, front_at, positions_at, misplaced_at, scalar_at, name_at}
use Rattle.vk_names.proofs.Numbers.{own, done, ok_is, bind_ok, chosen, left_or}
use Rattle.vk_names.proofs.Parameters.{capped, capped_param}
use Rattle.vk_names.proofs.Fronts.{TakesFront, front_takes}
use Rattle.vk_names.proofs.Sequence.{kept, kept_len, begins_front, begins_params, params_take}
use Rattle.vk_names.proofs.Placement.{all_len, none_past, all_placed_kept, TakesScalar, scalar_takes, scalar_again}

-- ---- parameters whose positions are in range

pub record InDecimal (w : Written) : Type 0 where
  pub kept_is : capped_param w.param ≡ w.param
  pub text : written_text (in_decimal w.param) ≡ written_text w
  pub fits : IsWritten (in_decimal w.param)

pub record StepInDecimal (s : Step) (digits : List ℕ) : Type 0 where
  pub kept_is : capped s ≡ s
  pub text : step_text s (decimal (position_in (Some s))) ≡ step_text s digits
  pub fits : IsStep s (decimal (position_in (Some s)))

uniform_below : (ws : List Written) (at : ℕ) → length ws ≤ 64 → is_uniform_param (slice_get (all_params ws) at) ≡ true → at < 64
uniform_below ws at few h =
    left_or (cases_lt at 64) (λ lt. lt)
    (λ le. absurd (false≢true (sym (ap is_uniform_param (none_past (all_params ws) at (omega (arith, all_len ws)))) ∙ h)))

step_in_decimal : (all : List Written) (s : Step) (digits : List ℕ) → length all ≤ 64 → IsStep s digits → step_is_placed (all_params all) (Some s) ≡ true → StepInDecimal s digits
step_in_decimal all One digits few fits placed = record { kept_is = refl; text = refl; fits = tt }
step_in_decimal all (By (pos n)) digits few fits placed = record { kept_is = refl; text = refl; fits = fits }
step_in_decimal all (By (negsuc n)) digits few fits placed = record { kept_is = refl; text = refl; fits = fits }
step_in_decimal all (Arg at) digits few fits placed =
    let below = uniform_below all at few placed in
    let value = fits.1 in
    let same : decimal at ≡ digits = ap decimal (sym value) ∙ decimal-digits_value own digits fits.0.all fits.0.nonempty fits.0.plain (omega (arith, value, below)) in
    record {
      kept_is = ap (λ (k : ℕ). Arg k) (omega (arith, below));
      text = ap (λ (t : List ℕ). 115 ∷ t) same;
      fits = subst (λ (t : List ℕ). IsPosition t × (digits_value 10 t ≡ at)) (sym same) fits;
    }

decimal_of : (all : List Written) (k : Kind) (a : Option ℕ) (digits : List ℕ) → length all ≤ 64 → IsOptionalStep (step_of k) digits → IsOptionalAlign a
    → step_is_placed (all_params all) (step_of k) ≡ true → InDecimal (record { param = record { kind = k; align = a }; digits = digits })
unfolding written_text
decimal_of all Vector a digits few fits align placed = record { kept_is = refl; text = refl; fits = record { step = tt; align = align } }
decimal_of all Uniform a digits few fits align placed = record { kept_is = refl; text = refl; fits = record { step = tt; align = align } }
decimal_of all (Linear s) a digits few fits align placed =
    let d = step_in_decimal all s digits few fits placed in
    record { kept_is = ap (λ (t : Step). record { kind = Linear t; align = a }) d.kept_is; text = ap (λ (t : List ℕ). (108 ∷ t) ++ align_text a) d.text; fits = record { step = d.fits; align = align } }
decimal_of all (Ref s) a digits few fits align placed =
    let d = step_in_decimal all s digits few fits placed in
    record { kept_is = ap (λ (t : Step). record { kind = Ref t; align = a }) d.kept_is; text = ap (λ (t : List ℕ). (82 ∷ t) ++ align_text a) d.text; fits = record { step = d.fits; align = align } }
decimal_of all (Val s) a digits few fits align placed =
    let d = step_in_decimal all s digits few fits placed in
    record { kept_is = ap (λ (t : Step). record { kind = Val t; align = a }) d.kept_is; text = ap (λ (t : List ℕ). (76 ∷ t) ++ align_text a) d.text; fits = record { step = d.fits; align = align } }
decimal_of all (Uval s) a digits few fits align placed =
    let d = step_in_decimal all s digits few fits placed in
    record { kept_is = ap (λ (t : Step). record { kind = Uval t; align = a }) d.kept_is; text = ap (λ (t : List ℕ). (85 ∷ t) ++ align_text a) d.text; fits = record { step = d.fits; align = align } }

pub record AllInDecimal (ws : List Written) : Type 0 where
  pub kept_are : kept ws ≡ all_params ws
  pub text : params_text (map in_decimal (all_params ws)) ≡ params_text ws
  pub fit : AllByRecursion IsWritten (map in_decimal (all_params ws))

pub all_in_decimal : (all ws : List Written) → length all ≤ 64 → AllByRecursion IsWritten ws → list_all (is_placed (all_params all)) (all_params ws) ≡ true → AllInDecimal ws
all_in_decimal all [] few fit placed = record { kept_are = refl; text = refl; fit = tt }
all_in_decimal all (w ∷ ws) few fit placed =
    let p = and_parts (is_placed (all_params all) w.param) (list_all (is_placed (all_params all)) (all_params ws)) placed in
    let one = decimal_of all w.param.kind w.param.align w.digits few fit.0.step fit.0.align p.0 in
    let more = all_in_decimal all ws few fit.1 p.1 in
    record {
      kept_are = ap (λ (q : Param). q ∷ kept ws) one.kept_is ∙ ap (λ (ps : List Param). w.param ∷ ps) more.kept_are;
      text = ap (λ (t : List ℕ). t ++ params_text (map in_decimal (all_params ws))) one.text ∙ ap (λ (t : List ℕ). written_text w ++ t) more.text;
      fit = (one.fits, more.fit);
    }

params_of_decimal : (ps : List Param) → all_params (map in_decimal ps) ≡ ps
params_of_decimal [] = refl
params_of_decimal (p ∷ ps) = ap (λ (qs : List Param). p ∷ qs) (params_of_decimal ps)

len_in_decimal : (ps : List Param) → length (map in_decimal ps) ≡ length ps
len_in_decimal [] = refl
len_in_decimal (p ∷ ps) = ap suc (len_in_decimal ps)

-- ---- reading to a place

pub name_from_front : (text : List ℕ) (e : Stop) → front_at text ≡ Err e → name_at text ≡ Err e
unfolding name_at
name_from_front text e h = rw h refl

pub reads_to : (text : List ℕ) (front : Length) (ws : List Written) (rest : List ℕ) (e : Stop) → Begins text front ws rest
    → params_at (64 - length ws) (kept ws) rest ≡ Err e → name_at text ≡ Err e
unfolding name_at
reads_to text front ws rest e b h =
    let few = b.count in
    let all : params_at 64 [] (params_text ws ++ rest) ≡ Err e = begins_params text front ws rest (64 - length ws) b (omega (arith, few)) ∙ h in
    rw (begins_front text front ws rest b, all) refl

pub at_underscore : (room : ℕ) (before : List Param) (scalar : List ℕ) → params_at room before (95 ∷ scalar) ≡ Ok (before, scalar)
unfolding params_at end_at
at_underscore zero before scalar = refl
at_underscore (suc room) before scalar = refl

pub reads_params : (text : List ℕ) (front : Length) (ws : List Written) (scalar : List ℕ) → Begins text front ws (95 ∷ scalar)
    → name_at text ≡ (positions_at (kept ws) (params_text ws ++ (95 ∷ scalar)) >>= λ placed. scalar_at scalar >>= λ s. Ok (record { front = front; params = kept ws; scalar = s }))
unfolding name_at
reads_params text front ws scalar b =
    let few = b.count in
    let all : params_at 64 [] (params_text ws ++ (95 ∷ scalar)) ≡ Ok (kept ws, scalar) = begins_params text front ws (95 ∷ scalar) (64 - length ws) b (omega (arith, few)) ∙ at_underscore (64 - length ws) (kept ws) scalar in
    rw (begins_front text front ws (95 ∷ scalar) b, all) refl

positions_pass : (text : List ℕ) (front : Length) (ws : List Written) (rest : List ℕ) → Begins text front ws rest → AllPlaced ws ws → (bytes : List ℕ) → positions_at (kept ws) bytes ≡ Ok tt
positions_pass text front ws rest b placed bytes = rw (all_placed_kept ws ws b.count ∙ placed) refl

pub reads_scalar : (text : List ℕ) (front : Length) (ws : List Written) (scalar : List ℕ) → Begins text front ws (95 ∷ scalar) → AllPlaced ws ws
    → name_at text ≡ (scalar_at scalar >>= λ s. Ok (record { front = front; params = kept ws; scalar = s }))
reads_scalar text front ws scalar b placed =
    reads_params text front ws scalar b
    ∙ ap (λ (r : Result (Unit {0}) Stop). r >>= λ p. scalar_at scalar >>= λ s. Ok (record { front = front; params = kept ws; scalar = s })) (positions_pass text front ws (95 ∷ scalar) b placed (params_text ws ++ (95 ∷ scalar)))

-- ---- what was read

pub begins_none : (text : List ℕ) (f : Length) (rest : List ℕ) → TakesFront text f rest → Begins text f [] rest
begins_none text f rest t = record { front_fits = t.fits; before_fit = tt; count = omega arith; whole = ends_none rest t.stops; parts = t.parts }
  where
    ends_none : (rest : List ℕ) → Ends (len_goes_on f.len) rest → Ends (goes_on f.len []) rest
    ends_none [] h = tt
    ends_none (b ∷ bs) h = h

list_all_back : (xs ys : List ℕ) → list_all is_name_byte (xs ++ ys) ≡ true → list_all is_name_byte ys ≡ true
list_all_back [] ys h = h
list_all_back (x ∷ xs) ys h = list_all_back xs ys (and_parts (is_name_byte x) (list_all is_name_byte (xs ++ ys)) h).1

pub record TakesName (text : List ℕ) (n : Name) : Type 0 where
  pub fits : IsName n
  pub is : text ≡ name_text n

named : (text : List ℕ) (front : Length) (all : List Written) (scalar : List ℕ) → list_all is_name_byte text ≡ true → Begins text front all (95 ∷ scalar)
    → AllPlaced all all → TakesScalar scalar scalar → TakesName text (record { front = front; params = kept all; scalar = scalar })
unfolding name_text
named text front all scalar bytes b placed s =
    let d = all_in_decimal all all b.count b.before_fit placed in
    let is : text ≡ front_text front ++ (params_text (map in_decimal (kept all)) ++ (95 ∷ scalar)) =
    b.parts ∙ ap (λ (t : List ℕ). front_text front ++ (t ++ (95 ∷ scalar))) (sym d.text ∙ ap (λ (ps : List Param). params_text (map in_decimal ps)) (sym d.kept_are)) in
    let tail : list_all is_name_byte (95 ∷ scalar) ≡ true =
    list_all_back (params_text all) (95 ∷ scalar) (list_all_back (front_text front) (params_text all ++ (95 ∷ scalar)) (ap (λ (t : List ℕ). list_all is_name_byte t) (sym b.parts) ∙ bytes)) in
    let few = b.count in
    record {
      fits = record {
        front = b.front_fits;
        params = subst (λ (ps : List Param). AllByRecursion IsWritten (map in_decimal ps)) (sym d.kept_are) d.fit;
        count = omega (arith, few, kept_len all);
        placed = subst (λ (ps : List Param). list_all (is_placed ps) ps ≡ true) (sym d.kept_are) placed;
        scalar = record { nonempty = s.nonempty; first = s.first; bytes = (and_parts (is_name_byte 95) (list_all is_name_byte scalar) tail).1; short = s.short };
      };
      is = is;
    }

pub all_passed : (ps : List Param) (bytes : List ℕ) → positions_at ps bytes ≡ Ok tt → list_all (is_placed ps) ps ≡ true
all_passed ps bytes h =
    left_or (chosen (list_all (is_placed ps) ps) (Ok tt) (Err (misplaced_at ps ps bytes)) (Ok tt) h) (λ y. y.0) (λ n. absurd (err_ok (misplaced_at ps ps bytes) tt n.1))
  where
    err_ok : (e : Stop) (x : Unit {0}) → Err e ≡ done x → ⊥
    err_ok e x h = cc

pub unit_is : (x : Unit {0}) (r : Result (Unit {0}) Stop) → r ≡ Ok x → r ≡ Ok tt
unit_is x r h = h

pub name_takes : (text : List ℕ) (n : Name) → list_all is_name_byte text ≡ true → name_at text ≡ Ok n → TakesName text n
unfolding name_at
name_takes text n bytes e =
    let a = bind_ok (front_at text) (λ front. params_at 64 [] front.1 >>= λ params. positions_at params.0 front.1 >>= λ placed. scalar_at params.1 >>= λ scalar. Ok (record { front = front.0; params = params.0; scalar = scalar })) n e in
    let b = bind_ok (params_at 64 [] a.0.1) (λ params. positions_at params.0 a.0.1 >>= λ placed. scalar_at params.1 >>= λ scalar. Ok (record { front = a.0.0; params = params.0; scalar = scalar })) n a.2 in
    let c = bind_ok (positions_at b.0.0 a.0.1) (λ placed. scalar_at b.0.1 >>= λ scalar. Ok (record { front = a.0.0; params = b.0.0; scalar = scalar })) n b.2 in
    let d = bind_ok (scalar_at b.0.1) (λ scalar. Ok (record { front = a.0.0; params = b.0.0; scalar = scalar })) n c.2 in
    let f = front_takes text a.0.0 a.0.1 a.1 in
    let p = params_take 64 text a.0.0 [] a.0.1 b.0.0 b.0.1 (begins_none text a.0.0 a.0.1 f) refl b.1 in
    let passed = all_passed b.0.0 a.0.1 (unit_is c.0 (positions_at b.0.0 a.0.1) c.1) in
    let s = scalar_takes b.0.1 d.0 d.1 in
    let placed : AllPlaced p.all p.all = sym (all_placed_kept p.all p.all p.begins.count) ∙ ap (λ (ps : List Param). list_all (is_placed ps) ps) p.kept_are ∙ passed in
    let here : Begins text a.0.0 p.all (95 ∷ d.0) = subst (λ (t : List ℕ). Begins text a.0.0 p.all (95 ∷ t)) s.same p.begins in
    let taken = named text a.0.0 p.all d.0 bytes here placed (record { same = refl; nonempty = s.nonempty; first = s.first; short = s.short }) in
    subst (λ (m : Name). TakesName text m) (ap (λ (ps : List Param). record { front = a.0.0; params = ps; scalar = d.0 }) p.kept_are ∙ ok_is (record { front = a.0.0; params = b.0.0; scalar = d.0 }) n d.2) taken

-- ---- what is spelled is read

ends_param : (p : Param) → param_goes_on p 95 ≡ false
ends_param p = ends_align p.align (step_of p.kind)
  where
    ends_step : (s : Option Step) → step_goes_on s 95 ≡ false
    ends_step None = refl
    ends_step (Some One) = refl
    ends_step (Some (By z)) = refl
    ends_step (Some (Arg at)) = refl

    ends_align : (a : Option ℕ) (s : Option Step) → align_goes_on a s 95 ≡ false
    ends_align (Some n) s = refl
    ends_align None s = ends_step s

underscore_ends : (len : Len) (ws : List Written) → goes_on len ws 95 ≡ false
underscore_ends (Fixed n) [] = refl
underscore_ends Scalable [] = refl
underscore_ends len (w ∷ []) = ends_param w.param
underscore_ends len (w ∷ v ∷ vs) = underscore_ends len (v ∷ vs)

begins_name : (n : Name) → IsName n → Begins (name_text n) n.front (map in_decimal n.params) (95 ∷ n.scalar)
unfolding name_text
begins_name n fits =
    let few = fits.count in
    record { front_fits = fits.front; before_fit = fits.params; count = omega (arith, few, len_in_decimal n.params); whole = underscore_ends n.front.len (map in_decimal n.params); parts = refl }

pub name_again : (n : Name) → IsName n → name_at (name_text n) ≡ Ok n
name_again n fits =
    let ws = map in_decimal n.params in
    let b = begins_name n fits in
    let same = params_of_decimal n.params in
    let placed : AllPlaced ws ws = subst (λ (ps : List Param). list_all (is_placed ps) ps ≡ true) (sym same) fits.placed in
    let d = all_in_decimal ws ws b.count b.before_fit placed in
    reads_scalar (name_text n) n.front ws n.scalar b placed
    ∙ ap (λ (r : Result (List ℕ) Stop). r >>= λ s. Ok (record { front = n.front; params = kept ws; scalar = s })) (scalar_again n.scalar fits.scalar.nonempty fits.scalar.first fits.scalar.short)
    ∙ ap (λ (ps : List Param). Ok (record { front = n.front; params = ps; scalar = n.scalar })) (d.kept_are ∙ same)
