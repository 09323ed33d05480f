-- When small fields and lists fit.
use Rattle.std.proofs.Common.{◌≡◌, ℕ, ◌^◌, ◌<◌, ◌≤◌, ◌==◌, Bool, true, false, ◌||◌, cond, List, [], ◌∷◌, ◌++◌, length, map, Option, Some, None, refl, sym, ap, subst, arith}
use Rattle.std.specs.Prelude.{nat_lt, nat_le}
use Rattle.std.specs.List.{list_all, flat_map}
use Rattle.std.specs.Option.{option_map}
use Rattle.std.proofs.lemmas.Bool.{false≢true, ltb-true, leb-true, eqb-true, ne_eqb}
use Rattle.vk_types.specs.declared.types.Ty.{Ty}
use Rattle.vk_types.specs.declared.types.Ty.TheVariants.{I8, I16, I32, I64, U8, U16, U32, U64}
use Rattle.vk_kinds.specs.declared.heads.CType.{CType}
use Rattle.vk_kinds.specs.declared.heads.CType.TheVariants.{Void, Int, Ptr}
use Rattle.vk_kinds.specs.declared.kinds.Branch.{Branch}
use Rattle.vk_kinds.specs.declared.kinds.Branch.TheVariants.{Both, Inside, Outside}
use Rattle.vk_kinds.specs.declared.kinds.Target.{Target}
use Rattle.vk_kinds.specs.declared.kinds.Target.TheVariants.{X86, Arm}
use Rattle.vk_kinds.specs.Types.{ctype_number}
use Rattle.vk_code.proofs.Faults.{and_left, and_right}
use Rattle.vk_code.specs.Valid.{is_good_simdlen, is_integer, is_result}
use Rattle.vk_object.specs.Texts.{ascend}
use Rattle.vk_format.specs.declared.rules.ObjectRule.TheVariants.{O7}
use Rattle.vk_format.specs.Codec.{Codec, FitAfter, passing, many, list, repeated, write_after}
use Rattle.vk_code_format.specs.Fields.{below, coded, comes_after, flag, int_type, last_of, none_at, register_or_none, result_type, simdlen, target, value_type}
use Rattle.vk_object_format.specs.declared.rows.RawObject.{RawObject}
use Rattle.vk_object_format.specs.Object.{branches, branch_number, flags}
use Rattle.vk_object_laws.proofs.Lists.{last_push}

-- ---- tests

pub passes : {A : Type 0} (test : A → Bool) (a : A) → test a ≡ true → passing test a ≡ Some a
passes test a h = ap (λ b. cond b (Some a) None) h

pub lt_of : (n k : ℕ) → nat_lt n k ≡ true → n < k
lt_of n k h = ltb-true n k h

pub le_of : (n k : ℕ) → nat_le n k ≡ true → n ≤ k
le_of n k h = leb-true n k h

pub either : (P : Type 0) (a b : Bool) → (a || b) ≡ true → (a ≡ true → P) → (b ≡ true → P) → P
either P true b h f g = f refl
either P false b h f g = g h

-- ---- small fields

pub flag_fits : (b : Bool) → (flag {R = RawObject}).fits b
flag_fits true = (omega arith, refl)
flag_fits false = (omega arith, refl)

pub flags_fit : (a b : Bool) → (flags {R = RawObject}).fits (a, b)
flags_fit true true = (omega arith, refl)
flags_fit true false = (omega arith, refl)
flags_fit false true = (omega arith, refl)
flags_fit false false = (omega arith, refl)

pub target_fits : (t : Target) → (target {R = RawObject}).fits t
target_fits X86 = (omega arith, refl)
target_fits Arm = (omega arith, refl)

pub branch_fits : (b : Branch) → (coded {R = RawObject} O7 branches branch_number).fits b
branch_fits Both = (omega arith, refl)
branch_fits Inside = (omega arith, refl)
branch_fits Outside = (omega arith, refl)

pub type_fits : (t : Ty) → (int_type {R = RawObject}).fits t
type_fits I8 = (omega arith, refl)
type_fits I16 = (omega arith, refl)
type_fits I32 = (omega arith, refl)
type_fits I64 = (omega arith, refl)
type_fits U8 = (omega arith, refl)
type_fits U16 = (omega arith, refl)
type_fits U32 = (omega arith, refl)
type_fits U64 = (omega arith, refl)

pub value_type_fits : (t : CType) → nat_lt (ctype_number t) 24 ≡ true → (value_type {R = RawObject}).fits t
value_type_fits Void h = absurd (false≢true h)
value_type_fits (Int I8) h = (omega arith, refl)
value_type_fits (Int I16) h = (omega arith, refl)
value_type_fits (Int I32) h = (omega arith, refl)
value_type_fits (Int I64) h = (omega arith, refl)
value_type_fits (Int U8) h = (omega arith, refl)
value_type_fits (Int U16) h = (omega arith, refl)
value_type_fits (Int U32) h = (omega arith, refl)
value_type_fits (Int U64) h = (omega arith, refl)
value_type_fits (Ptr I8 true) h = (omega arith, refl)
value_type_fits (Ptr I16 true) h = (omega arith, refl)
value_type_fits (Ptr I32 true) h = (omega arith, refl)
value_type_fits (Ptr I64 true) h = (omega arith, refl)
value_type_fits (Ptr U8 true) h = (omega arith, refl)
value_type_fits (Ptr U16 true) h = (omega arith, refl)
value_type_fits (Ptr U32 true) h = (omega arith, refl)
value_type_fits (Ptr U64 true) h = (omega arith, refl)
value_type_fits (Ptr I8 false) h = (omega arith, refl)
value_type_fits (Ptr I16 false) h = (omega arith, refl)
value_type_fits (Ptr I32 false) h = (omega arith, refl)
value_type_fits (Ptr I64 false) h = (omega arith, refl)
value_type_fits (Ptr U8 false) h = (omega arith, refl)
value_type_fits (Ptr U16 false) h = (omega arith, refl)
value_type_fits (Ptr U32 false) h = (omega arith, refl)
value_type_fits (Ptr U64 false) h = (omega arith, refl)

no_pointer : (t : Ty) (w : Bool) → (is_integer (ctype_number (Ptr t w)) || (ctype_number (Ptr t w) == 255)) ≡ true → ⊥
no_pointer I8 true h = false≢true h
no_pointer I16 true h = false≢true h
no_pointer I32 true h = false≢true h
no_pointer I64 true h = false≢true h
no_pointer U8 true h = false≢true h
no_pointer U16 true h = false≢true h
no_pointer U32 true h = false≢true h
no_pointer U64 true h = false≢true h
no_pointer I8 false h = false≢true h
no_pointer I16 false h = false≢true h
no_pointer I32 false h = false≢true h
no_pointer I64 false h = false≢true h
no_pointer U8 false h = false≢true h
no_pointer U16 false h = false≢true h
no_pointer U32 false h = false≢true h
no_pointer U64 false h = false≢true h

pub result_type_fits : (t : CType) → (is_integer (ctype_number t) || (ctype_number t == 255)) ≡ true → (result_type {R = RawObject}).fits t
result_type_fits Void h = (omega arith, refl)
result_type_fits (Int I8) h = (omega arith, refl)
result_type_fits (Int I16) h = (omega arith, refl)
result_type_fits (Int I32) h = (omega arith, refl)
result_type_fits (Int I64) h = (omega arith, refl)
result_type_fits (Int U8) h = (omega arith, refl)
result_type_fits (Int U16) h = (omega arith, refl)
result_type_fits (Int U32) h = (omega arith, refl)
result_type_fits (Int U64) h = (omega arith, refl)
result_type_fits (Ptr t w) h = absurd (no_pointer t w h)

pub some_kept : (none n : ℕ) → (n ≡ none → ⊥) → none_at none n ≡ Some n
some_kept none n ne = ap (λ b. cond b None (Some n)) (ne_eqb n none ne)

pub register_fits : (o : Option ℕ) (regs : ℕ) → is_result regs o ≡ true → regs ≤ 8192 → (register_or_none {R = RawObject}).fits o
register_fits None regs h few = (omega arith, refl)
register_fits (Some r) regs h few = let lt : r < regs = lt_of r regs h in (omega (arith, lt, few), some_kept 65535 r (λ e. omega (arith, e, lt, few)))

power : (n : ℕ) → is_good_simdlen (Some n) ≡ true → (0 < n) × (n < 65536)
power n h =
    either _ _ _ h (λ h. either _ _ _ h (λ h. either _ _ _ h (λ h. either _ _ _ h (λ h. either _ _ _ h (λ h. either _ _ _ h (λ h. either _ _ _ h
    (is 2 (omega arith, omega arith)) (is 4 (omega arith, omega arith))) (is 8 (omega arith, omega arith))) (is 16 (omega arith, omega arith)))
    (is 32 (omega arith, omega arith))) (is 64 (omega arith, omega arith))) (is 128 (omega arith, omega arith))) (is 256 (omega arith, omega arith))
  where
    is : (k : ℕ) → (0 < k) × (k < 65536) → (n == k) ≡ true → (0 < n) × (n < 65536)
    is k within e = let same : n ≡ k = eqb-true n k e in (omega (arith, within.0, same), omega (arith, within.1, same))

pub simdlen_fits : (o : Option ℕ) → is_good_simdlen o ≡ true → (simdlen {R = RawObject}).fits o
simdlen_fits None h = ((omega arith, refl), refl)
simdlen_fits (Some n) h = let within = power n h in ((within.1, some_kept 0 n (λ e. omega (arith, e, within.0))), passes is_good_simdlen (Some n) h)

pub below_fits : (limit n : ℕ) → n < 2 ^ 32 → nat_lt n limit ≡ true → (below {R = RawObject} limit).fits n
below_fits limit n few h = (few, passes (λ k. nat_lt k limit) n h)

-- ---- lists

flat_is : {A : Type 0} (c : Codec RawObject A) (before xs : List A) → flat_map c.write xs ≡ write_after (λ b. c) before xs
flat_is c before [] = refl
flat_is c before (x ∷ xs) = ap (λ ys. c.write x ++ ys) (flat_is c (before ++ x ∷ []) xs)

pub repeated_fits : {A : Type 0} (n : ℕ) (c : Codec RawObject A) (xs : List A) → length xs ≡ n → FitAfter (λ before. c) [] xs → (repeated n c).fits xs
repeated_fits n c xs count all = ((count, all), flat_is c [] xs)

pub list_fits : {A : Type 0} (count : Codec RawObject ℕ) (c : Codec RawObject A) (xs : List A) → count.fits (length xs) → FitAfter (λ before. c) [] xs → (list count c).fits xs
list_fits count c xs counted all = ((counted, repeated_fits (length xs) c xs refl all), refl)

pub many_fits : {A : Type 0} (count : Codec RawObject ℕ) (c : ℕ → List A → Codec RawObject A) (xs : List A) → count.fits (length xs) → FitAfter (c (length xs)) [] xs → (many count c).fits xs
many_fits count c xs counted all = ((counted, (refl, all)), refl)

-- members that fit each by itself
pub fit_each : {A B : Type 0} (c : List A → Codec RawObject A) (g : B → A) (p : B → Bool) → ((before : List A) (y : B) → p y ≡ true → (c before).fits (g y))
    → (before : List A) (ys : List B) → list_all p ys ≡ true → FitAfter c before (map g ys)
fit_each c g p each before [] h = tt
fit_each c g p each before (y ∷ ys) h = (each before y (and_left (p y) (list_all p ys) h), fit_each c g p each (before ++ g y ∷ []) ys (and_right (p y) (list_all p ys) h))

pub fit_here : {A : Type 0} (c : List A → Codec RawObject A) (p : A → Bool) → ((before : List A) (x : A) → p x ≡ true → (c before).fits x)
    → (before xs : List A) → list_all p xs ≡ true → FitAfter c before xs
fit_here c p each before [] h = tt
fit_here c p each before (x ∷ xs) h = (each before x (and_left (p x) (list_all p xs) h), fit_here c p each (before ++ x ∷ []) xs (and_right (p x) (list_all p xs) h))

-- members of which each comes behind the last, made of others
module _ {A B K : Type 0} (c : List A → Codec RawObject A) (g : B → A) (p : B → Bool) (key : A → K) (rel : K → K → Bool)
    (each : (before : List A) (y : B) → p y ≡ true → comes_after rel (option_map key (last_of before)) (key (g y)) ≡ true → (c before).fits (g y)) where
  made_first : List A → List B → Type 0
  made_first before [] = Unit {0}
  made_first before (y ∷ ys) = comes_after rel (option_map key (last_of before)) (key (g y)) ≡ true

  made_in_order : (before : List A) (ys : List B) → list_all p ys ≡ true → ascend (λ a b. rel (key (g a)) (key (g b))) ys ≡ true → made_first before ys → FitAfter c before (map g ys)
  unfolding made_first
  made_in_order before [] all asc first = tt
  made_in_order before (x ∷ []) all asc first = (each before x (and_left (p x) true all) first, tt)
  made_in_order before (x ∷ y ∷ ys) all asc first =
      let next : comes_after rel (option_map key (last_of (before ++ g x ∷ []))) (key (g y)) ≡ true =
      subst (λ o. comes_after rel (option_map key o) (key (g y)) ≡ true) (sym (last_push before (g x))) (and_left (rel (key (g x)) (key (g y))) (ascend (λ a b. rel (key (g a)) (key (g b))) (y ∷ ys)) asc) in (
        each before x (and_left (p x) (list_all p (y ∷ ys)) all) first,
        made_in_order (before ++ g x ∷ []) (y ∷ ys) (and_right (p x) (list_all p (y ∷ ys)) all) (and_right (rel (key (g x)) (key (g y))) (ascend (λ a b. rel (key (g a)) (key (g b))) (y ∷ ys)) asc) next,
      )

  pub fit_made : (ys : List B) → list_all p ys ≡ true → ascend (λ a b. rel (key (g a)) (key (g b))) ys ≡ true → FitAfter c [] (map g ys)
  unfolding made_first
  fit_made [] all asc = tt
  fit_made (y ∷ ys) all asc = made_in_order [] (y ∷ ys) all asc refl

map_same : {A : Type 0} (xs : List A) → map (λ x. x) xs ≡ xs
map_same [] = refl
map_same (x ∷ xs) = ap (λ ys. x ∷ ys) (map_same xs)

-- or as they are
pub fit_in_order : {A K : Type 0} (c : List A → Codec RawObject A) (p : A → Bool) (key : A → K) (rel : K → K → Bool)
    → ((before : List A) (x : A) → p x ≡ true → comes_after rel (option_map key (last_of before)) (key x) ≡ true → (c before).fits x)
    → (xs : List A) → list_all p xs ≡ true → ascend (λ a b. rel (key a) (key b)) xs ≡ true → FitAfter c [] xs
fit_in_order c p key rel each xs all asc = subst (FitAfter c []) (map_same xs) (fit_made c (λ x. x) p key rel each xs all asc)
