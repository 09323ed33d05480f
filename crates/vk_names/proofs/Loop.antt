-- Reading parameters one after the other, as a loop does.
use Rattle.std.proofs.Common.{◌≡◌, ℕ, zero, suc, ◌<◌, List, [], ◌∷◌, ◌++◌, Some, None, Result, Ok, Err, refl, sym, ap, ◌∙◌, arith}
use Rattle.vk_kinds.specs.declared.kinds.Param.{Param}
use Rattle.vk_names.specs.declared.rules.NameRule.TheVariants.{N12}
use Rattle.vk_names.proofs.Reading.{Stop}
use Rattle.vk_names.proofs.Reading.{refuse, end_at, param_at, params_at}

-- at the `_`
pub ends : (room : ℕ) (before : List Param) (rest after : List ℕ) (whole : Result (List Param × List ℕ) Stop) → end_at rest ≡ Ok (Some after)
    → params_at room before rest ≡ whole → whole ≡ Ok (before, after)
unfolding params_at
ends zero before rest after whole e h = sym h ∙ rw e refl
ends (suc room) before rest after whole e h = sym h ∙ rw e refl

-- at a byte that neither ends nor begins a parameter
pub stops : (room : ℕ) (before : List Param) (rest : List ℕ) (stop : Stop) (whole : Result (List Param × List ℕ) Stop) → end_at rest ≡ Err stop
    → params_at room before rest ≡ whole → whole ≡ Err stop
unfolding params_at
stops zero before rest stop whole e h = sym h ∙ rw e refl
stops (suc room) before rest stop whole e h = sym h ∙ rw e refl

-- at one parameter too many
pub is_full : (room : ℕ) (before : List Param) (rest : List ℕ) (whole : Result (List Param × List ℕ) Stop) → end_at rest ≡ Ok None → room ≡ 0
    → params_at room before rest ≡ whole → whole ≡ refuse N12 rest
unfolding params_at
is_full zero before rest whole e z h = sym h ∙ rw e refl
is_full (suc room) before rest whole e z h = absurd (omega arith)

-- at a parameter that is refused
pub fails : (room : ℕ) (before : List Param) (rest : List ℕ) (stop : Stop) (whole : Result (List Param × List ℕ) Stop) → end_at rest ≡ Ok None → 0 < room
    → param_at rest ≡ Err stop → params_at room before rest ≡ whole → whole ≡ Err stop
unfolding params_at
fails zero before rest stop whole e z p h = absurd (omega arith)
fails (suc room) before rest stop whole e z p h = sym h ∙ rw (e, p) refl

-- at a parameter that is read
pub goes_on : (room next : ℕ) (before : List Param) (rest : List ℕ) (p : Param) (after : List ℕ) (whole : Result (List Param × List ℕ) Stop) → end_at rest ≡ Ok None
    → room ≡ suc next → param_at rest ≡ Ok (p, after) → params_at room before rest ≡ whole → params_at next (before ++ (p ∷ [])) after ≡ whole
unfolding params_at
goes_on zero next before rest p after whole e z r h = absurd (omega arith)
goes_on (suc room) next before rest p after whole e z r h =
    let same : room ≡ next = omega arith in
    ap (λ (k : ℕ). params_at k (before ++ (p ∷ [])) after) (sym same) ∙ sym (rw (e, r) refl) ∙ h
