-- Positions, judged at the end of the parameters, and the scalar name.
use Rattle.std.proofs.Common.{◌≡◌, ℕ, zero, suc, ◌+◌, ◌-◌, ◌<◌, ◌≤◌, min, Bool, true, false, ◌&&◌, cond, ltb, List, [], ◌∷◌, ◌++◌, length, get_or, Some, None, Ok, Err, refl, sym, ap, subst, ◌∙◌, arith, length-append, append_assoc}
use Rattle.std.specs.Prelude.{slice_get}
use Rattle.std.specs.Char.{is_ascii_digit}
use Rattle.std.specs.List.{AllByRecursion, list_all}
use Rattle.std.proofs.lemmas.Bool.{cases_Bool, cases_lt, and_parts, and_from, ltb-false, ltb-true, lt-ltb, le-ltb, false≢true}
use Rattle.std.proofs.lemmas.List.Concat.{flat_map-append}
use Rattle.vk_kinds.specs.declared.kinds.Step.{Step}
use Rattle.vk_kinds.specs.declared.kinds.Step.TheVariants.{One, By, Arg}
use Rattle.vk_kinds.specs.declared.kinds.Kind.{Kind}
use Rattle.vk_kinds.specs.declared.kinds.Kind.TheVariants.{Vector, Uniform, Linear, Ref, Val, Uval}
use Rattle.vk_kinds.specs.declared.kinds.Length.{Length}
use Rattle.vk_kinds.specs.declared.kinds.Param.{Param}
use Rattle.vk_names.specs.declared.rules.NameRule.TheVariants.{N7, N10}
use Rattle.vk_names.proofs.Reading.{Stop}
use Rattle.vk_names.specs.Spelling.{Written, step_of, kind_letter, written_text, params_text, front_text, IsWritten, is_uniform, is_uniform_param, step_is_placed, is_placed}
use Rattle.vk_names.specs.Refusal.{BeginsWith, Begins, all_params, AllPlaced, Refused, misplaced}
use Rattle.vk_names.proofs.Reading.{refuse, misplaced_at, positions_at, scalar_at}
use Rattle.vk_names.proofs.Numbers.{err_is, ok_is, chosen, left_or}
use Rattle.vk_names.proofs.Parameters.{capped, capped_kind, capped_param, param_again}
use Rattle.vk_names.proofs.Fronts.{stop_at, refuse_is, refuse_not, done_not}
use Rattle.vk_names.proofs.Sequence.{kept, kept_len, AreWhole, all_whole}

-- ---- a position that is kept as 255 names no parameter

uniform_kept : (k : Kind) → is_uniform (capped_kind k) ≡ is_uniform k
uniform_kept Vector = refl
uniform_kept Uniform = refl
uniform_kept (Linear s) = refl
uniform_kept (Ref s) = refl
uniform_kept (Val s) = refl
uniform_kept (Uval s) = refl

get_kept : (ws : List Written) (at : ℕ) → is_uniform_param (slice_get (kept ws) at) ≡ is_uniform_param (slice_get (all_params ws) at)
get_kept [] at = refl
get_kept (w ∷ ws) zero = uniform_kept w.param.kind
get_kept (w ∷ ws) (suc at) = get_kept ws at

pub none_past : (ps : List Param) (at : ℕ) → length ps ≤ at → slice_get ps at ≡ None
none_past [] at h = refl
none_past (p ∷ ps) zero h = absurd (omega arith)
none_past (p ∷ ps) (suc at) h = none_past ps at (omega arith)

pub all_len : (ws : List Written) → length (all_params ws) ≡ length ws
all_len [] = refl
all_len (w ∷ ws) = ap suc (all_len ws)

at_capped : (ws : List Written) (at : ℕ) → length ws ≤ 64 → is_uniform_param (slice_get (kept ws) (min at 255)) ≡ is_uniform_param (slice_get (all_params ws) at)
at_capped ws at few =
    left_or (cases_lt at 256)
    (λ lt. ap (λ (k : ℕ). is_uniform_param (slice_get (kept ws) k)) (omega arith) ∙ get_kept ws at)
    (λ le. ap is_uniform_param (none_past (kept ws) (min at 255) (omega (arith, kept_len ws))) ∙ sym (ap is_uniform_param (none_past (all_params ws) at (omega (arith, all_len ws)))))

step_kept : (ws : List Written) (s : Step) → length ws ≤ 64 → step_is_placed (kept ws) (Some (capped s)) ≡ step_is_placed (all_params ws) (Some s)
step_kept ws One few = refl
step_kept ws (By z) few = refl
step_kept ws (Arg at) few = at_capped ws at few

kind_kept : (ws : List Written) (k : Kind) → length ws ≤ 64 → step_is_placed (kept ws) (step_of (capped_kind k)) ≡ step_is_placed (all_params ws) (step_of k)
kind_kept ws Vector few = refl
kind_kept ws Uniform few = refl
kind_kept ws (Linear s) few = step_kept ws s few
kind_kept ws (Ref s) few = step_kept ws s few
kind_kept ws (Val s) few = step_kept ws s few
kind_kept ws (Uval s) few = step_kept ws s few

pub placed_kept : (all : List Written) (w : Written) → length all ≤ 64 → is_placed (kept all) (capped_param w.param) ≡ is_placed (all_params all) w.param
placed_kept all w few = kind_kept all w.param.kind few

pub all_placed_kept : (all ws : List Written) → length all ≤ 64 → list_all (is_placed (kept all)) (kept ws) ≡ list_all (is_placed (all_params all)) (all_params ws)
all_placed_kept all [] few = refl
all_placed_kept all (w ∷ ws) few =
    ap (λ (b : Bool). b && list_all (is_placed (kept all)) (kept ws)) (placed_kept all w few)
    ∙ ap (λ (b : Bool). is_placed (all_params all) w.param && b) (all_placed_kept all ws few)

-- ---- the first position that names no uniform parameter

misplaced_reads : (all : List Param) (before : List Written) (w : Written) (after : List Written) (rest : List ℕ) → AllByRecursion IsWritten (before ++ (w ∷ after))
    → AreWhole (before ++ (w ∷ after)) rest → list_all (is_placed all) (kept before) ≡ true → is_placed all (capped_param w.param) ≡ false
    → misplaced_at all (kept (before ++ (w ∷ after))) (params_text (before ++ (w ∷ after)) ++ rest) ≡ record { left = length (params_text (w ∷ after) ++ rest) - 2; rule = N7 }
unfolding misplaced_at
misplaced_reads all [] w after rest fits whole placed wrong = rw wrong refl
misplaced_reads all (v ∷ vs) w after rest fits whole placed wrong =
    let p = and_parts (is_placed all (capped_param v.param)) (list_all (is_placed all) (kept vs)) placed in
    let further = vs ++ (w ∷ after) in
    ap (λ (t : List ℕ). misplaced_at all (kept (v ∷ further)) t) (append_assoc (written_text v) (params_text further) rest)
    ∙ rw (p.0, param_again v (params_text further ++ rest) fits.0 whole.0) (misplaced_reads all vs w after rest fits.1 whole.1 p.1 wrong)

pub record FirstFalse (p : Param → Bool) (ws : List Written) : Type 0 where
  pub before : List Written
  pub here : Written
  pub after : List Written
  pub parts : ws ≡ before ++ (here ∷ after)
  pub passed : list_all p (all_params before) ≡ true
  pub wrong : p here.param ≡ false

pub first_false : (p : Param → Bool) (ws : List Written) → list_all p (all_params ws) ≡ false → FirstFalse p ws
first_false p [] h = absurd (false≢true (sym h))
first_false p (w ∷ ws) h =
    left_or (cases_Bool (p w.param))
    (λ yes.
    let f = first_false p ws (ap (λ (b : Bool). b && list_all p (all_params ws)) (sym yes) ∙ h) in
    record { before = w ∷ f.before; here = f.here; after = f.after; parts = ap (λ (vs : List Written). w ∷ vs) f.parts; passed = and_from (p w.param) (list_all p (all_params f.before)) yes f.passed; wrong = f.wrong })
    (λ wrong. record { before = []; here = w; after = ws; parts = refl; passed = refl; wrong = wrong })

not_all : (p : Param → Bool) (before : List Written) (w : Written) (after : List Written) → p w.param ≡ false → list_all p (all_params (before ++ (w ∷ after))) ≡ false
not_all p [] w after wrong = rw wrong refl
not_all p (v ∷ vs) w after wrong =
    left_or (cases_Bool (p v.param)) (λ yes. rw yes (not_all p vs w after wrong)) (λ no_. rw no_ refl)

pub record Place (text : List ℕ) (front : Length) (before : List Written) (w : Written) (after : List Written) (rest : List ℕ) : Type 0 where
  pub at : length text - (length (params_text (w ∷ after) ++ (95 ∷ rest)) - 2) ≡ length (front_text front ++ params_text before) + 2

pub place_of : (text : List ℕ) (front : Length) (before : List Written) (w : Written) (after : List Written) (rest : List ℕ)
    → text ≡ front_text front ++ (params_text (before ++ (w ∷ after)) ++ (95 ∷ rest)) → Place text front before w after rest
unfolding written_text
place_of text front before w after rest is =
    let letter = kind_letter w.param.kind in
    let own_text : 1 ≤ length (params_text (w ∷ after)) = omega arith in
    record {
      at = omega (
        arith,
        own_text,
        ap (λ (t : List ℕ). length t) is,
        length-append (front_text front) (params_text (before ++ (w ∷ after)) ++ (95 ∷ rest)),
        length-append (params_text (before ++ (w ∷ after))) (95 ∷ rest),
        ap (λ (t : List ℕ). length t) (flat_map-append written_text before (w ∷ after)),
        length-append (params_text before) (params_text (w ∷ after)),
        length-append (params_text (w ∷ after)) (95 ∷ rest),
        length-append (front_text front) (params_text before),
      );
    }

-- the reader stops at such a position
pub positions_refuse : (text : List ℕ) (front : Length) (before : List Written) (w : Written) (after : List Written) (rest : List ℕ)
    → Begins text front (before ++ (w ∷ after)) (95 ∷ rest) → AllPlaced (before ++ (w ∷ after)) before → is_placed (all_params (before ++ (w ∷ after))) w.param ≡ false
    → positions_at (kept (before ++ (w ∷ after))) (params_text (before ++ (w ∷ after)) ++ (95 ∷ rest)) ≡ Err (record { left = length (params_text (w ∷ after) ++ (95 ∷ rest)) - 2; rule = N7 })
positions_refuse text front before w after rest b placed wrong =
    let all = before ++ (w ∷ after) in
    let some : list_all (is_placed (kept all)) (kept all) ≡ false = all_placed_kept all all b.count ∙ not_all (is_placed (all_params all)) before w after wrong in
    let reads = misplaced_reads (kept all) before w after (95 ∷ rest) b.before_fit (all_whole front.len all (95 ∷ rest) b.whole)
    (all_placed_kept all before b.count ∙ placed) (placed_kept all w b.count ∙ wrong) in
    rw some (ap (λ (s : Stop). Err s) reads)

pub positions_refused : (text : List ℕ) (front : Length) (all : List Written) (rest : List ℕ) (e : Stop) → Begins text front all (95 ∷ rest)
    → positions_at (kept all) (params_text all ++ (95 ∷ rest)) ≡ Err e → Refused text (length text - e.left) e.rule
positions_refused text front all rest e b h =
    left_or (cases_Bool (list_all (is_placed (kept all)) (kept all)))
    (λ yes. absurd (done_not tt e (sym (ap (λ (t : Bool). cond t (Ok tt) (Err (misplaced_at (kept all) (kept all) (params_text all ++ (95 ∷ rest))))) yes) ∙ h)))
    (λ wrong.
    let f = first_false (is_placed (all_params all)) all (sym (all_placed_kept all all b.count) ∙ wrong) in
    from_first f.before f.here f.after f.parts f.passed f.wrong)
  where
    from_first : (before : List Written) (w : Written) (after : List Written) → all ≡ before ++ (w ∷ after) → list_all (is_placed (all_params all)) (all_params before) ≡ true
        → is_placed (all_params all) w.param ≡ false → Refused text (length text - e.left) e.rule
    from_first before w after is passed wrong =
        let begins : Begins text front (before ++ (w ∷ after)) (95 ∷ rest) = subst (λ (ws : List Written). Begins text front ws (95 ∷ rest)) is b in
        let placed : AllPlaced (before ++ (w ∷ after)) before = subst (λ (ws : List Written). AllPlaced ws before) is passed in
        let misses : is_placed (all_params (before ++ (w ∷ after))) w.param ≡ false = subst (λ (ws : List Written). is_placed (all_params ws) w.param ≡ false) is wrong in
        let stops = positions_refuse text front before w after rest begins placed misses in
        let here : positions_at (kept (before ++ (w ∷ after))) (params_text (before ++ (w ∷ after)) ++ (95 ∷ rest)) ≡ Err e
        = subst (λ (ws : List Written). positions_at (kept ws) (params_text ws ++ (95 ∷ rest)) ≡ Err e) is h in
        let stop : record { left = length (params_text (w ∷ after) ++ (95 ∷ rest)) - 2; rule = N7 } ≡ e = err_is (record { left = length (params_text (w ∷ after) ++ (95 ∷ rest)) - 2; rule = N7 }) e (sym stops ∙ here) in
        subst (λ (s : Stop). Refused text (length text - s.left) s.rule) stop
        (subst (λ (k : ℕ). Refused text k N7) (sym (place_of text front before w after rest begins.parts).at) (misplaced front before w after rest begins placed misses))

-- ---- the scalar name

pub record TakesScalar (bytes scalar : List ℕ) : Type 0 where
  pub same : bytes ≡ scalar
  pub nonempty : 0 < length scalar
  pub first : is_ascii_digit (get_or scalar 0 0) ≡ false
  pub short : length scalar ≤ 1024

pub scalar_takes : (bytes scalar : List ℕ) → scalar_at bytes ≡ Ok scalar → TakesScalar bytes scalar
unfolding scalar_at
scalar_takes [] scalar e = absurd (refuse_not N10 [] scalar e)
scalar_takes (b ∷ bs) scalar e =
    left_or (chosen (is_ascii_digit b) _ _ _ e) (λ y. absurd (refuse_not N10 (b ∷ bs) scalar y.1))
    (λ n. left_or (chosen (ltb 1024 (length (b ∷ bs))) _ _ _ n.1)
    (λ y. absurd (err_ok (record { left = length (b ∷ bs) - 1024; rule = N10 }) scalar y.1))
    (λ m. subst (λ (s : List ℕ). TakesScalar (b ∷ bs) s) (ok_is (b ∷ bs) scalar m.1)
    (record { same = refl; nonempty = omega arith; first = n.0; short = ltb-false 1024 (length (b ∷ bs)) m.0 })))
  where
    err_ok : (e : Stop) (x : List ℕ) → Err e ≡ Ok x → ⊥
    err_ok e x h = cc

pub scalar_again : (scalar : List ℕ) → 0 < length scalar → is_ascii_digit (get_or scalar 0 0) ≡ false → length scalar ≤ 1024 → scalar_at scalar ≡ Ok scalar
unfolding scalar_at
scalar_again [] long first short = absurd (omega arith)
scalar_again (b ∷ bs) long first short = rw (first, le-ltb 1024 (length (b ∷ bs)) short) refl

-- why a scalar name is refused, and where
pub data ScalarRefused (bytes : List ℕ) (e : Stop) : Type 0 where
  a_start : ((b : ℕ) → BeginsWith b bytes → is_ascii_digit b ≡ true) → e ≡ stop_at N10 bytes → ScalarRefused bytes e
  an_end : (b : ℕ) (bs : List ℕ) → bytes ≡ b ∷ bs → is_ascii_digit b ≡ false → 1024 < length (b ∷ bs) → e ≡ record { left = length (b ∷ bs) - 1024; rule = N10 } → ScalarRefused bytes e

same_head : (a b : ℕ) (x y : List ℕ) → a ∷ x ≡ b ∷ y → a ≡ b
same_head a b x y e = cc

pub scalar_refused : (bytes : List ℕ) (e : Stop) → scalar_at bytes ≡ Err e → ScalarRefused bytes e
unfolding scalar_at
scalar_refused [] e h = a_start (λ b begins. absurd (nothing b begins.0 begins.1)) (refuse_is N10 [] e h)
  where
    nothing : (b : ℕ) (more : List ℕ) → [] ≡ b ∷ more → ⊥
    nothing b more is = cc
scalar_refused (b ∷ bs) e h =
    left_or (chosen (is_ascii_digit b) _ _ _ h)
    (λ y. a_start (λ c begins. ap is_ascii_digit (sym (same_head b c bs begins.0 begins.1)) ∙ y.0) (refuse_is N10 (b ∷ bs) e y.1))
    (λ n. left_or (chosen (ltb 1024 (length (b ∷ bs))) _ _ _ n.1)
    (λ y. an_end b bs refl n.0 (ltb-true 1024 (length (b ∷ bs)) y.0) (sym (err_is (record { left = length (b ∷ bs) - 1024; rule = N10 }) e y.1)))
    (λ m. absurd (done_not (b ∷ bs) e m.1)))

pub start_refuses : (bytes : List ℕ) → ((b : ℕ) → BeginsWith b bytes → is_ascii_digit b ≡ true) → scalar_at bytes ≡ refuse N10 bytes
unfolding scalar_at
start_refuses [] h = refl
start_refuses (b ∷ bs) h = rw (h b (bs, refl)) refl

pub end_refuses : (b : ℕ) (bs : List ℕ) → is_ascii_digit b ≡ false → 1024 < length (b ∷ bs) → scalar_at (b ∷ bs) ≡ Err (record { left = length (b ∷ bs) - 1024; rule = N10 })
unfolding scalar_at
end_refuses b bs first long = rw (first, lt-ltb 1024 (length (b ∷ bs)) long) refl
