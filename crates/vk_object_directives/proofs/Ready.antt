-- Directives that are no signatures are none that a function may have, and share no name.
use Rattle.std.proofs.Common.{◌≡◌, ℕ, zero, suc, ◌≤◌, ◌<◌, ◌==◌, Bool, true, false, not, ◌&&◌, ◌||◌, List, [], ◌∷◌, length, map, Option, Some, None, ℤ, pos, negsuc, refl, sym, ap, ap₂, ◌∙◌, arith}
use Rattle.std.specs.Prelude.{if◌then◌else◌, slice_get}
use Rattle.std.specs.List.{list_all}
use Rattle.std.proofs.lemmas.Bool.{eq-eqb, eqb-true, false≢true, lt-ltb, ltb-true}
use Rattle.vk_kinds.specs.declared.kinds.Param.{Param}
use Rattle.vk_kinds.specs.declared.kinds.Step.TheVariants as step
use Rattle.vk_kinds.specs.declared.kinds.Target.{Target}
use Rattle.vk_kinds.specs.Sizes.{HeadTypes, wds}
use Rattle.vk_code.specs.Tests.{holds, pairs}
use Rattle.vk_code.proofs.Faults.{and_left, and_right}
use Rattle.vk_kinds.specs.Lengths.{has_sve_width}
use Rattle.vk_code.specs.Valid.{is_good_simdlen}
use Rattle.vk_object.specs.Objects.{is_arm, is_directive, same_param, same_step, share_name, types_of}
use Rattle.vk_object.specs.Parameters.{are_kinds, are_typed, is_param, is_uniform}
use Rattle.vk_code_format.specs.declared.rows.ParamKind.{ParamKind}
use Rattle.vk_code_format.specs.declared.rows.ParamKind.TheVariants.{Vector, Uniform, By, Along}
use Rattle.vk_code_format.specs.declared.rows.ParamRow.{ParamRow}
use Rattle.vk_code_format.specs.Parameters.{kind_of, param_of, signed, step_by}
use Rattle.vk_object_format.specs.declared.rows.RawDirective.{RawDirective}
use Rattle.vk_object_format.specs.Values.{signature_of}
use Rattle.vk_object_fields.specs.Cut.{cut_row, cut_value, is_near, is_near_at}
use Rattle.vk_object_directives.specs.Signed.{is_ready}

pub pairs_length : {A B : Type 0} (p : A → B → Bool) (xs : List A) (ys : List B) → pairs p xs ys ≡ true → length xs ≡ length ys
pairs_length p [] [] h = refl
pairs_length p [] (y ∷ ys) h = absurd (false≢true h)
pairs_length p (x ∷ xs) [] h = absurd (false≢true h)
pairs_length p (x ∷ xs) (y ∷ ys) h = ap suc (pairs_length p xs ys (and_right (p x y) (pairs p xs ys) h))

map_length : {A B : Type 0} (f : A → B) (xs : List A) → length (map f xs) ≡ length xs
map_length f [] = refl
map_length f (x ∷ xs) = ap suc (map_length f xs)

-- ---- rows whose numbers have one byte are cut to themselves

near_value : (k : ParamKind) (v : ℕ) → is_near_at k v ≡ true → cut_value k v ≡ v
near_value Vector v h = refl
near_value Uniform v h = refl
near_value By v h = refl
near_value Along v h = let lt : v < 256 = ltb-true _ _ h in omega (arith, lt)

near_row : (r : ParamRow) → is_near r ≡ true → param_of (cut_row r) ≡ param_of r
near_row r h = ap (λ v. param_of (record { kind = r.kind; value = v; align = r.align })) (near_value r.kind r.value h)

pub near_params : (rows : List ParamRow) → list_all is_near rows ≡ true → map (λ r. param_of (cut_row r)) rows ≡ map param_of rows
near_params [] h = refl
near_params (r ∷ rows) h = ap₂ (λ p ps. p ∷ ps) (near_row r (and_left _ _ h)) (near_params rows (and_right (is_near r) _ h))

-- ---- parameters in range

holds_inside : {A : Type 0} (p : A → Bool) (xs : List A) (n : ℕ) → holds p (slice_get xs n) ≡ true → n < length xs
holds_inside p [] n h = absurd (false≢true h)
holds_inside p (x ∷ xs) zero h = omega arith
holds_inside p (x ∷ xs) (suc n) h = let lt : n < length xs = holds_inside p xs n h in omega (arith, lt)

param_near : (ps : List Param) (k : ParamKind) (v : ℕ) (a : Option ℕ) → length ps ≤ 64
    → is_param ps (param_of (record { kind = k; value = v; align = a })) ≡ true → is_near_at k v ≡ true
param_near ps Vector v a few h = refl
param_near ps Uniform v a few h = refl
param_near ps By v a few h = refl
param_near ps Along v a few h =
    let lt : v < length ps = holds_inside (λ (p : Param). is_uniform p.kind) ps v (and_left _ _ h) in
    lt-ltb _ _ (omega (arith, lt, few))

params_near : (ps : List Param) (rows : List ParamRow) → length ps ≤ 64 → list_all (is_param ps) (map param_of rows) ≡ true → list_all is_near rows ≡ true
params_near ps [] few h = refl
params_near ps (r ∷ rows) few h =
    ap₂ (λ x y. x && y) (param_near ps r.kind r.value r.align few (and_left _ _ h)) (params_near ps rows few (and_right (is_param ps (param_of r)) _ h))

ready_directive : (t : Target) (h : HeadTypes) (d : RawDirective) → length h.params ≤ 64 → is_directive t h (signature_of d) ≡ true → is_ready h d ≡ true
ready_directive t h d few e =
    let ps = map param_of d.params in
    let first = and_left (are_kinds ps && are_typed (types_of h) ps) (is_good_simdlen d.simdlen) (and_left _ (not (is_arm t) || has_sve_width d.simdlen (wds h (signature_of d))) e) in
    let kinds : are_kinds ps ≡ true = and_left _ (are_typed (types_of h) ps) first in
    let typed : are_typed (types_of h) ps ≡ true = and_right (are_kinds ps) _ first in
    let same : length h.params ≡ length d.params =
    sym (map_length _ h.params) ∙ pairs_length _ (types_of h) (map param_of d.params) typed ∙ map_length param_of d.params in
    let short : length (map param_of d.params) ≤ 64 = omega (arith, few, same, map_length param_of d.params) in
    ap₂ (λ x y. x && y) (eq-eqb _ _ same) (params_near (map param_of d.params) d.params short kinds)

not_true : (b : Bool) (c : Bool) → (c ≡ true → b ≡ true) → b ≡ false → c ≡ false
not_true b true h e = sym (h refl) ∙ e
not_true b false h e = refl

-- what is no signature is no directive
pub unready_directive : (t : Target) (h : HeadTypes) (d : RawDirective) → length h.params ≤ 64 → is_ready h d ≡ false → is_directive t h (signature_of d) ≡ false
unready_directive t h d few e = not_true (is_ready h d) _ (ready_directive t h d few) e

-- ---- names

step_apart_at : (b : Bool) (v n : ℕ) → same_step (step.Arg v) (if b then step.One else step.By (pos n)) ≡ false
step_apart_at true v n = refl
step_apart_at false v n = refl

step_apart : (v : ℕ) (z : ℤ) → same_step (step.Arg v) (step_by z) ≡ false
step_apart v (pos n) = step_apart_at (n == 1) v n
step_apart v (negsuc n) = refl

near_by : (k l : ParamKind) (v w : ℕ) (a b : Option ℕ) → is_near_at l w ≡ true
    → same_param (param_of (record { kind = k; value = v; align = a })) (param_of (record { kind = l; value = w; align = b })) ≡ true → is_near_at k v ≡ true
near_by Vector l v w a b near h = refl
near_by Uniform l v w a b near h = refl
near_by By l v w a b near h = refl
near_by Along Vector v w a b near h = absurd (false≢true h)
near_by Along Uniform v w a b near h = absurd (false≢true h)
near_by Along By v w a b near h = absurd (false≢true (sym (step_apart v (signed w)) ∙ and_left _ _ h))
near_by Along Along v w a b near h =
    let same : v ≡ w = eqb-true _ _ (and_left _ _ h) in
    let lt : w < 256 = ltb-true _ _ near in
    lt-ltb _ _ (omega (arith, same, lt))

rows_near : (es ds : List ParamRow) → list_all is_near ds ≡ true → pairs same_param (map param_of es) (map param_of ds) ≡ true → list_all is_near es ≡ true
rows_near [] ds near h = refl
rows_near (e ∷ es) [] near h = absurd (false≢true h)
rows_near (e ∷ es) (d ∷ ds) near h =
    ap₂ (λ x y. x && y)
    (near_by e.kind d.kind e.value d.value e.align d.align (and_left _ _ near) (and_left _ _ h))
    (rows_near es ds (and_right (is_near d) _ near) (and_right (same_param (param_of e) (param_of d)) _ h))

ready_share : (t : Target) (h : HeadTypes) (e d : RawDirective) → is_ready h d ≡ true → share_name t h (signature_of e) (signature_of d) ≡ true → is_ready h e ≡ true
ready_share t h e d ready shared =
    let same : pairs same_param (map param_of e.params) (map param_of d.params) ≡ true = and_left _ _ shared in
    let count : length h.params ≡ length d.params = eqb-true _ _ (and_left _ _ ready) in
    let counts : length e.params ≡ length d.params =
    sym (map_length param_of e.params) ∙ pairs_length _ (map param_of e.params) (map param_of d.params) same ∙ map_length param_of d.params in
    ap₂ (λ x y. x && y) (eq-eqb _ _ (count ∙ sym counts)) (rows_near e.params d.params (and_right (length h.params == length d.params) _ ready) same)

-- what is no signature shares no name
pub unready_share : (t : Target) (h : HeadTypes) (e d : RawDirective) → is_ready h d ≡ true → is_ready h e ≡ false → share_name t h (signature_of e) (signature_of d) ≡ false
unready_share t h e d ready unready = not_true (is_ready h e) _ (ready_share t h e d ready) unready

-- a signature has a parameter for each of the function
pub signed_count : (h : HeadTypes) (d : RawDirective) → is_ready h d ≡ true → length h.params ≡ length (signature_of d).params
signed_count h d ready = eqb-true _ _ (and_left _ _ ready) ∙ sym (map_length param_of d.params)
