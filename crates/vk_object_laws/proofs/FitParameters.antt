-- The rows of parameters and directives fit, and stand for what they were made of.
use Rattle.std.proofs.Common.{◌≡◌, ℕ, suc, ◌+◌, ◌-◌, ◌%◌, ◌^◌, ◌<◌, ◌≤◌, ◌==◌, Bool, true, false, not, ◌&&◌, ◌||◌, cond, eqb, List, [], ◌∷◌, ◌++◌, append_assoc, length, length-append, map, Option, Some, None, ℤ, pos, negsuc, refl, sym, ap, ap₂, ◌∙◌, subst, arith}
use Rattle.std.specs.Prelude.{nat_lt, nat_le, slice_get}
use Rattle.std.specs.List.{list_all, list_any}
use Rattle.std.proofs.lemmas.Bool.{false≢true, le-ltb, eqb-true}
use Rattle.std.proofs.lemmas.List.{length-map}
use Rattle.vk_kinds.specs.declared.heads.CType.{CType}
use Rattle.vk_kinds.specs.declared.kinds.Kind.{Kind}
use Rattle.vk_kinds.specs.declared.kinds.Kind.TheVariants as kind
use Rattle.vk_kinds.specs.declared.kinds.Param.{Param}
use Rattle.vk_kinds.specs.declared.kinds.Step.{Step}
use Rattle.vk_kinds.specs.declared.kinds.Step.TheVariants as step
use Rattle.vk_kinds.specs.declared.kinds.Target.{Target}
use Rattle.vk_kinds.specs.Lengths.{has_sve_width}
use Rattle.vk_kinds.specs.Sizes.{HeadTypes, SignatureTree, wds}
use Rattle.vk_kinds.specs.Types.{ctype_number}
use Rattle.vk_code.proofs.Faults.{and_left, and_right}
use Rattle.vk_code.specs.Tests.{pairs}
use Rattle.vk_code.specs.Valid.{is_good_simdlen}
use Rattle.vk_object.specs.Objects.{are_apart, is_arm, is_directive, share_name, types_of}
use Rattle.vk_object.specs.Parameters.{are_kinds, are_typed, is_aligned, is_aligned_at, is_kind, is_kind_at, is_param, is_param_at, is_step, is_whole}
use Rattle.vk_format.specs.declared.rules.ObjectRule.TheVariants.{O7}
use Rattle.vk_format.specs.Codec.{FitAfter, judged}
use Rattle.vk_code_format.specs.declared.rows.ParamKind.TheVariants as param_kind
use Rattle.vk_code_format.specs.declared.rows.ParamRow.{ParamRow}
use Rattle.vk_code_format.specs.Fields.{optional}
use Rattle.vk_code_format.specs.Parameters.{align_fits, kind_fits, kind_row, param, param_of, param_row, signed, signed_bits, step_by, step_row, value_fits}
use Rattle.vk_object_format.specs.declared.rows.RawDirective.{RawDirective}
use Rattle.vk_object_format.specs.declared.rows.RawObject.{RawObject}
use Rattle.vk_object_format.specs.Object.{directive, is_directive_after}
use Rattle.vk_object_format.specs.Values.{raw_directive, signature_of}
use Rattle.vk_object_laws.specs.Ranges.{directive_in_range, is_signed, kind_in_range, param_in_range}
use Rattle.vk_object_laws.proofs.Lists.{and_true, apart}
use Rattle.vk_object_laws.proofs.Fitting.{branch_fits, le_of, lt_of, passes, simdlen_fits, some_kept}

-- ---- numbers in two's complement

pub signed_again : (z : ℤ) → is_signed z ≡ true → signed (signed_bits z) ≡ z
signed_again (pos n) h = ap (λ b. cond b (pos n) (negsuc (2 ^ 32 - 1 - n))) h
signed_again (negsuc n) h =
    let lt : n < 2 ^ 31 = lt_of n (2 ^ 31) h in
    let m = 2 ^ 32 - 1 - n in
    ap (λ b. cond b (pos m) (negsuc (2 ^ 32 - 1 - m))) (le-ltb m (2 ^ 31) (omega (arith, lt))) ∙ ap negsuc (omega (arith, lt))

pub bits_fit : (z : ℤ) → is_signed z ≡ true → signed_bits z < 256 ^ 4
bits_fit (pos n) h = let lt : n < 2 ^ 31 = lt_of n (2 ^ 31) h in omega (arith, lt)
bits_fit (negsuc n) h = let lt : n < 2 ^ 31 = lt_of n (2 ^ 31) h in omega (arith, lt)

-- ---- steps

by_number : (n : ℕ) (b : Bool) → eqb n 1 ≡ b → is_step [] (step.By (pos n)) ≡ true → cond b step.One (step.By (pos n)) ≡ step.By (pos n)
by_number n true e h = absurd (false≢true (sym (ap (λ k. is_step [] (step.By (pos k))) (eqb-true n 1 e)) ∙ h))
by_number n false e h = refl

pub step_by_is : (z : ℤ) → is_step [] (step.By z) ≡ true → step_by z ≡ step.By z
step_by_is (pos n) h = by_number n (eqb n 1) refl h
step_by_is (negsuc n) h = refl

-- ---- one parameter

align_fit : (u : CType) (align : Option ℕ) → is_aligned align ≡ true → is_aligned_at (ctype_number u) align ≡ true
    → (judged {R = RawObject} O7 (align_fits (Some u)) (optional 4 0)).fits align
align_fit u None h k = ((omega arith, refl), refl)
align_fit u (Some n) h k =
    let positive : 0 < n = lt_of 0 n (and_left (nat_lt 0 n) (nat_le n 65536) (and_left (nat_lt 0 n && nat_le n 65536) (65536 % n == 0) h)) in
    let small : n ≤ 65536 = le_of n 65536 (and_right (nat_lt 0 n) (nat_le n 65536) (and_left (nat_lt 0 n && nat_le n 65536) (65536 % n == 0) h)) in
    ((omega (arith, small), some_kept 0 n (λ e. omega (arith, e, positive))), passes (align_fits (Some u)) (Some n) (and_true (is_aligned (Some n)) (is_aligned_at (ctype_number u) (Some n)) h k))

module _ (u : CType) (types : List ℕ) (all : List Param) (align : Option ℕ) (h : is_aligned align ≡ true) (k : is_aligned_at (ctype_number u) align ≡ true) where
  step_fit : (s : Step) → kind_in_range (kind.Linear s) ≡ true → is_kind all (kind.Linear s) ≡ true → is_kind_at types (ctype_number u) (kind.Linear s) ≡ true
      → (param {R = RawObject} (Some u)).fits (step_row s align)
  step_fit step.One r f t = (((omega arith, refl), refl), ((omega arith, passes (value_fits (Some u) param_kind.By) 1 t), (align_fit u align h k, refl)))
  step_fit (step.By z) r f t =
      let value : value_fits (Some u) param_kind.By (signed_bits z) ≡ true =
      ap (λ x. is_step [] (step_by x) && is_whole (ctype_number u) x) (signed_again z r)
      ∙ and_true (is_step [] (step_by z)) (is_whole (ctype_number u) z) (ap (is_step []) (step_by_is z f) ∙ f) t in
      (((omega arith, refl), refl), ((bits_fit z r, passes (value_fits (Some u) param_kind.By) (signed_bits z) value), (align_fit u align h k, refl)))
  step_fit (step.Arg q) r f t = let lt : q < 256 = lt_of q 256 r in (((omega arith, refl), refl), ((omega (arith, lt), refl), (align_fit u align h k, refl)))

  kind_fit : (l : Kind) → kind_in_range l ≡ true → is_kind all l ≡ true → is_kind_at types (ctype_number u) l ≡ true → (param {R = RawObject} (Some u)).fits (kind_row l align)
  kind_fit kind.Vector r f t = (((omega arith, refl), refl), ((omega arith, refl), (align_fit u align h k, refl)))
  kind_fit kind.Uniform r f t = (((omega arith, refl), passes (kind_fits (Some u)) param_kind.Uniform t), ((omega arith, refl), (align_fit u align h k, refl)))
  kind_fit (kind.Linear s) r f t = step_fit s r f t
  kind_fit (kind.Ref s) r f t = absurd (false≢true f)
  kind_fit (kind.Val s) r f t = absurd (false≢true f)
  kind_fit (kind.Uval s) r f t = absurd (false≢true f)

pub param_fit : (u : CType) (types : List ℕ) (all : List Param) (p : Param) → param_in_range p ≡ true → is_param all p ≡ true → is_param_at types (ctype_number u) p ≡ true
    → (param {R = RawObject} (Some u)).fits (param_row p)
param_fit u types all p r f t =
    kind_fit u types all p.align (and_right (is_kind all p.kind) (is_aligned p.align) f) (and_right (is_kind_at types (ctype_number u) p.kind) (is_aligned_at (ctype_number u) p.align) t)
    p.kind r (and_left (is_kind all p.kind) (is_aligned p.align) f) (and_left (is_kind_at types (ctype_number u) p.kind) (is_aligned_at (ctype_number u) p.align) t)

-- and it is had again
kind_same : (all : List Param) (l : Kind) (align : Option ℕ) → kind_in_range l ≡ true → is_kind all l ≡ true → param_of (kind_row l align) ≡ record { kind = l; align = align }
kind_same all kind.Vector align r f = refl
kind_same all kind.Uniform align r f = refl
kind_same all (kind.Linear step.One) align r f = refl
kind_same all (kind.Linear (step.By z)) align r f =
    ap (λ s. record { kind = kind.Linear s; align = align }) (ap step_by (signed_again z r) ∙ step_by_is z f)
kind_same all (kind.Linear (step.Arg q)) align r f = refl
kind_same all (kind.Ref s) align r f = absurd (false≢true f)
kind_same all (kind.Val s) align r f = absurd (false≢true f)
kind_same all (kind.Uval s) align r f = absurd (false≢true f)

params_same : (all ps : List Param) → list_all param_in_range ps ≡ true → list_all (is_param all) ps ≡ true → map param_of (map param_row ps) ≡ ps
params_same all [] r f = refl
params_same all (p ∷ ps) r f =
    ap₂ (λ q qs. q ∷ qs)
    (kind_same all p.kind p.align (and_left (param_in_range p) (list_all param_in_range ps) r) (and_left (is_kind all p.kind) (is_aligned p.align) (and_left (is_param all p) (list_all (is_param all) ps) f)))
    (params_same all ps (and_right (param_in_range p) (list_all param_in_range ps) r) (and_right (is_param all p) (list_all (is_param all) ps) f))

-- ---- the parameters of a directive

get_behind : {A : Type 0} (xs : List A) (y : A) (ys : List A) → slice_get (xs ++ y ∷ ys) (length xs) ≡ Some y
get_behind [] y ys = refl
get_behind (x ∷ xs) y ys = get_behind xs y ys

module _ (whole : List CType) (types : List ℕ) (all : List Param) where
  params_fit : (pre ts : List CType) (before : List ParamRow) (ps : List Param) → length before ≡ length pre → whole ≡ pre ++ ts → pairs (is_param_at types) (map ctype_number ts) ps ≡ true
      → list_all param_in_range ps ≡ true → list_all (is_param all) ps ≡ true → FitAfter (λ before. param {R = RawObject} (slice_get whole (length before))) before (map param_row ps)
  params_fit pre [] before [] len is t r f = tt
  params_fit pre [] before (p ∷ ps) len is t r f = absurd (false≢true t)
  params_fit pre (u ∷ ts) before [] len is t r f = tt
  params_fit pre (u ∷ ts) before (p ∷ ps) len is t r f =
      let at : slice_get whole (length before) ≡ Some u = ap₂ (λ (w : List CType) (n : ℕ). slice_get w n) is len ∙ get_behind pre u ts in
      let here = param_fit u types all p (and_left (param_in_range p) (list_all param_in_range ps) r) (and_left (is_param all p) (list_all (is_param all) ps) f)
      (and_left (is_param_at types (ctype_number u) p) (pairs (is_param_at types) (map ctype_number ts) ps) t) in (
        subst (λ (o : Option CType). (param {R = RawObject} o).fits (param_row p)) (sym at) here,
        params_fit (pre ++ u ∷ []) ts (before ++ param_row p ∷ []) ps
            (length-append before (param_row p ∷ []) ∙ ap (λ n. n + 1) len ∙ sym (length-append pre (u ∷ []))) (is ∙ sym (append_assoc pre (u ∷ []) ts))
            (and_right (is_param_at types (ctype_number u) p) (pairs (is_param_at types) (map ctype_number ts) ps) t)
            (and_right (param_in_range p) (list_all param_in_range ps) r) (and_right (is_param all p) (list_all (is_param all) ps) f),
      )

pub pairs_long : {A B : Type 0} (p : A → B → Bool) (xs : List A) (ys : List B) → pairs p xs ys ≡ true → length xs ≡ length ys
pairs_long p [] [] h = refl
pairs_long p [] (y ∷ ys) h = absurd (false≢true h)
pairs_long p (x ∷ xs) [] h = absurd (false≢true h)
pairs_long p (x ∷ xs) (y ∷ ys) h = ap suc (pairs_long p xs ys (and_right (p x y) (pairs p xs ys) h))

-- ---- directives

module _ (target : Target) (head : HeadTypes) where
  -- what a directive is, in parts
  kinds_of : (s : SignatureTree) → is_directive target head s ≡ true → are_kinds s.params ≡ true
  kinds_of s h = and_left _ (are_typed (types_of head) s.params) (and_left _ (is_good_simdlen s.simdlen) (and_left _ (not (is_arm target) || has_sve_width s.simdlen (wds head s)) h))

  types_fit : (s : SignatureTree) → is_directive target head s ≡ true → are_typed (types_of head) s.params ≡ true
  types_fit s h = and_right (are_kinds s.params) _ (and_left _ (is_good_simdlen s.simdlen) (and_left _ (not (is_arm target) || has_sve_width s.simdlen (wds head s)) h))

  lanes_of : (s : SignatureTree) → is_directive target head s ≡ true → is_good_simdlen s.simdlen ≡ true
  lanes_of s h = and_right (are_kinds s.params && are_typed (types_of head) s.params) _ (and_left _ (not (is_arm target) || has_sve_width s.simdlen (wds head s)) h)

  pub directive_same : (s : SignatureTree) → directive_in_range s ≡ true → is_directive target head s ≡ true → signature_of (raw_directive s) ≡ s
  directive_same s r h = ap (λ ps. record { params = ps; branch = s.branch; simdlen = s.simdlen }) (params_same s.params s.params r (kinds_of s h))

  pub directive_fit : (before : List RawDirective) (s : SignatureTree) → directive_in_range s ≡ true → is_directive target head s ≡ true
      → not (list_any (λ e. share_name target head (signature_of e) s) before) ≡ true → (directive {R = RawObject} target head before).fits (raw_directive s)
  directive_fit before s r h apart =
      let typed = types_fit s h in
      let long : length (map param_row s.params) ≡ length head.params =
      length-map s.params param_row ∙ sym (pairs_long (is_param_at (types_of head)) (types_of head) s.params typed) ∙ length-map head.params ctype_number in
      let test : is_directive_after target head before (raw_directive s) ≡ true =
      ap (λ t. is_directive target head t && not (list_any (λ e. share_name target head (signature_of e) t) before)) (directive_same s r h)
      ∙ and_true (is_directive target head s) (not (list_any (λ e. share_name target head (signature_of e) s) before)) h apart in (
        (branch_fits s.branch, (simdlen_fits s.simdlen (lanes_of s h), ((long, params_fit head.params (types_of head) s.params [] head.params [] s.params refl refl typed r (kinds_of s h)), refl))),
        passes (is_directive_after target head before) (raw_directive s) test,
      )

  pub directives_same : (ss : List SignatureTree) → list_all directive_in_range ss ≡ true → list_all (is_directive target head) ss ≡ true → map signature_of (map raw_directive ss) ≡ ss
  directives_same [] r h = refl
  directives_same (s ∷ ss) r h =
      ap₂ (λ t ts. t ∷ ts)
      (directive_same s (and_left (directive_in_range s) (list_all directive_in_range ss) r) (and_left (is_directive target head s) (list_all (is_directive target head) ss) h))
      (directives_same ss (and_right (directive_in_range s) (list_all directive_in_range ss) r) (and_right (is_directive target head s) (list_all (is_directive target head) ss) h))

  -- none of those before shares a name with one of these
  pub clear : List RawDirective → List SignatureTree → Bool
  clear before ss = list_all (λ s. not (list_any (λ e. share_name target head (signature_of e) s) before)) ss

  any_push : (s : SignatureTree) (before : List RawDirective) (d : RawDirective) → not (list_any (λ e. share_name target head (signature_of e) s) before) ≡ true
      → not (share_name target head (signature_of d) s) ≡ true → not (list_any (λ e. share_name target head (signature_of e) s) (before ++ d ∷ [])) ≡ true
  any_push s [] d h k = both (share_name target head (signature_of d) s) k
    where
      both : (b : Bool) → not b ≡ true → not (b || false) ≡ true
      both true k = k
      both false k = refl
  any_push s (e ∷ es) d h k =
      join (share_name target head (signature_of e) s) (list_any (λ e. share_name target head (signature_of e) s) es) (list_any (λ e. share_name target head (signature_of e) s) (es ++ d ∷ [])) h
      (λ rest. any_push s es d rest k)
    where
      join : (a b c : Bool) → not (a || b) ≡ true → (not b ≡ true → not c ≡ true) → not (a || c) ≡ true
      join true b c h f = h
      join false b c h f = f h

  clear_push : (before : List RawDirective) (d : RawDirective) (ss : List SignatureTree) → clear before ss ≡ true → not (list_any (share_name target head (signature_of d)) ss) ≡ true → clear (before ++ d ∷ []) ss ≡ true
  unfolding clear
  clear_push before d [] h k = refl
  clear_push before d (s ∷ ss) h k =
      and_true _ _
      (any_push s before d (and_left (not (list_any (λ e. share_name target head (signature_of e) s) before)) _ h) (first_not (share_name target head (signature_of d) s) _ k))
      (clear_push before d ss (and_right (not (list_any (λ e. share_name target head (signature_of e) s) before)) _ h) (second_not (share_name target head (signature_of d) s) _ k))
    where
      first_not : (a b : Bool) → not (a || b) ≡ true → not a ≡ true
      first_not true b h = h
      first_not false b h = refl

      second_not : (a b : Bool) → not (a || b) ≡ true → not b ≡ true
      second_not true b h = absurd (false≢true h)
      second_not false b h = h

  pub directives_fit : (before : List RawDirective) (ss : List SignatureTree) → list_all directive_in_range ss ≡ true → list_all (is_directive target head) ss ≡ true → are_apart target head ss ≡ true
      → clear before ss ≡ true → FitAfter (directive {R = RawObject} target head) before (map raw_directive ss)
  unfolding clear
  directives_fit before [] r h a c = tt
  directives_fit before (s ∷ ss) r h a c =
      let here = and_left (is_directive target head s) (list_all (is_directive target head) ss) h in
      let range = and_left (directive_in_range s) (list_all directive_in_range ss) r in
      let alone : not (list_any (share_name target head (signature_of (raw_directive s))) ss) ≡ true =
      ap (λ t. not (list_any (share_name target head t) ss)) (directive_same s range here) ∙ and_left (not (list_any (share_name target head s) ss)) (are_apart target head ss) a in (
        directive_fit before s range here (and_left (not (list_any (λ e. share_name target head (signature_of e) s) before)) (clear before ss) c),
        directives_fit (before ++ raw_directive s ∷ []) ss (and_right (directive_in_range s) (list_all directive_in_range ss) r) (and_right (is_directive target head s) (list_all (is_directive target head) ss) h)
            (and_right (not (list_any (share_name target head s) ss)) (are_apart target head ss) a)
            (clear_push before (raw_directive s) ss (and_right (not (list_any (λ e. share_name target head (signature_of e) s) before)) (clear before ss) c) alone),
      )

  pub clear_first : (ss : List SignatureTree) → clear [] ss ≡ true
  unfolding clear
  clear_first [] = refl
  clear_first (s ∷ ss) = clear_first ss
