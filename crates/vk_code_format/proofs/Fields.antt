-- What is read of the small fields was written, and what is written is read.
use Rattle.std.proofs.Common.{◌≡◌, ℕ, zero, suc, ◌+◌, ◌-◌, ◌%◌, ◌^◌, ◌<◌, ◌≤◌, Bool, true, false, cond, eqb, ltb, List, [], ◌∷◌, Option, Some, None, refl, sym, arith, slice_get}
use Rattle.std.specs.Option.{option_map}
use Rattle.std.proofs.lemmas.Bool.{eqb-true, ltb-false}
use Rattle.vk_types.specs.declared.types.Ty.{Ty}
use Rattle.vk_types.specs.declared.types.Ty.TheVariants.{I8, I16, I32, I64, U8, U16, U32, U64}
use Rattle.vk_types.specs.Formats.{type_number}
use Rattle.vk_kinds.specs.declared.heads.CType.{CType}
use Rattle.vk_kinds.specs.declared.heads.CType.TheVariants.{Void, Int, Ptr}
use Rattle.vk_kinds.specs.declared.kinds.Target.TheVariants.{X86, Arm}
use Rattle.vk_kinds.specs.Sizes.{bytes_of}
use Rattle.vk_kinds.specs.Types.{ctype_number}
use Rattle.vk_code.specs.Instruction.{types}
use Rattle.vk_format.specs.declared.rules.ObjectRule.{ObjectRule}
use Rattle.vk_format.specs.declared.rules.ObjectRule.TheVariants.{O3, O7, O8}
use Rattle.vk_format.specs.Codec.{number, exactly_number}
use Rattle.vk_format.proofs.Inverse.{IsCodec, number_law, meaning_law, judged_law, seen_law}
use Rattle.vk_code_format.specs.Fields.{coded, flag, bit, below, none_at, or_none, optional, register_or_none, simdlen, target_number, target, int_type, value_type_of, value_type, result_type_of, result_type, extended, word_of, element}

-- each value of the list has its place
abbrev pub numbered : {T : Type 0} → (T → ℕ) → ℕ → List T → Type 0
numbered place k [] = Unit {0}
numbered place k (v ∷ vs) = (place v ≡ k) × numbered place (suc k) vs

placed : {T : Type 0} (place : T → ℕ) (k : ℕ) (values : List T) (i : ℕ) (v : T) → numbered place k values → slice_get values i ≡ Some v → place v ≡ k + i
placed place k [] i v h e = absurd cc
placed place k (x ∷ xs) zero v h e =
    let same : v ≡ x = cc in
    rw same (omega (arith, h.0))
placed place k (x ∷ xs) (suc i) v h e = let next = placed place (suc k) xs i v h.1 e in omega (arith, next)

placed_at : {T : Type 0} (place : T → ℕ) (values : List T) (i : ℕ) (v : T) → numbered place 0 values → slice_get values i ≡ Some v → place v ≡ i
placed_at place values i v h e = let p = placed place 0 values i v h e in omega (arith, p)

pub coded_law : {R T : Type 0} (rule : ObjectRule) (values : List T) (place : T → ℕ) → numbered place 0 values → IsCodec (coded {R = R} rule values place)
coded_law rule values place h = meaning_law rule (λ n. slice_get values n) place (number 1) (number_law 1) (λ a b fits e. placed_at place values a b h e)

pub flag_law : {R : Type 0} → IsCodec (flag {R = R})
flag_law = coded_law O7 (false ∷ true ∷ []) bit (refl, (refl, tt))

pub target_law : {R : Type 0} → IsCodec (target {R = R})
target_law = coded_law O3 (X86 ∷ Arm ∷ []) target_number (refl, (refl, tt))

pub below_law : {R : Type 0} (limit : ℕ) → IsCodec (below {R = R} limit)
below_law limit = judged_law O8 _ (number 4) (number_law 4)

none_back : (none n : ℕ) (b : Bool) → eqb n none ≡ b → or_none none (cond b None (Some n)) ≡ n
none_back none n true e = sym (eqb-true n none e)
none_back none n false e = refl

pub optional_law : {R : Type 0} (width none : ℕ) → IsCodec (optional {R = R} width none)
optional_law width none = seen_law (none_at none) (or_none none) (number width) (number_law width) (λ a fits. none_back none a (eqb a none) refl)

pub register_law : {R : Type 0} → IsCodec (register_or_none {R = R})
register_law = optional_law 2 65535

pub simdlen_law : {R : Type 0} → IsCodec (simdlen {R = R})
simdlen_law = judged_law O7 _ (optional 2 0) (optional_law 2 0)

exact_back : (n k : ℕ) (u : Unit {0}) (b : Bool) → eqb k n ≡ b → cond b (Some tt) None ≡ Some u → n ≡ k
exact_back n k u true p e = sym (eqb-true k n p)
exact_back n k u false p e = absurd cc

pub exactly_number_law : {R : Type 0} (rule : ObjectRule) (width n : ℕ) → IsCodec (exactly_number {R = R} rule width n)
exactly_number_law rule width n = meaning_law rule (λ k. cond (eqb k n) (Some tt) None) (λ u. n) (number width) (number_law width) (λ k u fits e. exact_back n k u (eqb k n) refl e)

-- ---- types

types_numbered : numbered type_number 0 types
types_numbered = (refl, (refl, (refl, (refl, (refl, (refl, (refl, (refl, tt))))))))

pub int_type_law : {R : Type 0} → IsCodec (int_type {R = R})
int_type_law = coded_law O7 types type_number types_numbered

mapped : (make : Ty → CType) (o : Option Ty) (t : CType) → option_map make o ≡ Some t → (u : Ty) × (o ≡ Some u) × (t ≡ make u)
mapped make None t e = absurd cc
mapped make (Some u) t e = (u, refl, cc)

int_back : (n : ℕ) (t : CType) → option_map (λ u. Int u) (slice_get types n) ≡ Some t → ctype_number t ≡ n
int_back n t e =
    let m = mapped (λ u. Int u) (slice_get types n) t e in
    rw m.2 (placed_at type_number types n m.0 types_numbered m.1)

written_back : (n k : ℕ) (t : CType) → k ≡ n - 8 → 8 ≤ n → option_map (λ u. Ptr u true) (slice_get types k) ≡ Some t → ctype_number t ≡ n
written_back n k t is wide e =
    let m = mapped (λ u. Ptr u true) (slice_get types k) t e in
    let p = placed_at type_number types k m.0 types_numbered m.1 in
    rw m.2 (omega (arith, p, is, wide))

read_back : (n k : ℕ) (t : CType) → k ≡ n - 16 → 16 ≤ n → option_map (λ u. Ptr u false) (slice_get types k) ≡ Some t → ctype_number t ≡ n
read_back n k t is wide e =
    let m = mapped (λ u. Ptr u false) (slice_get types k) t e in
    let p = placed_at type_number types k m.0 types_numbered m.1 in
    rw m.2 (omega (arith, p, is, wide))

value_back : (n : ℕ) (t : CType) (b c : Bool) → ltb n 8 ≡ b → ltb n 16 ≡ c
    → cond b (option_map (λ u. Int u) (slice_get types n)) (cond c (option_map (λ u. Ptr u true) (slice_get types (n - 8))) (option_map (λ u. Ptr u false) (slice_get types (n - 16)))) ≡ Some t
    → ctype_number t ≡ n
value_back n t true c p q e = int_back n t e
value_back n t false true p q e = written_back n (n - 8) t refl (ltb-false n 8 p) e
value_back n t false false p q e = read_back n (n - 16) t refl (ltb-false n 16 q) e

pub value_type_law : {R : Type 0} → IsCodec (value_type {R = R})
value_type_law = meaning_law O7 value_type_of ctype_number (number 1) (number_law 1) (λ n t fits e. value_back n t (ltb n 8) (ltb n 16) refl refl e)

result_back : (n : ℕ) (t : CType) (b : Bool) → eqb n 255 ≡ b → cond b (Some Void) (option_map (λ u. Int u) (slice_get types n)) ≡ Some t → ctype_number t ≡ n
result_back n t true p e = let same : t ≡ Void = cc in rw same (sym (eqb-true n 255 p))
result_back n t false p e = int_back n t e

pub result_type_law : {R : Type 0} → IsCodec (result_type {R = R})
result_type_law = meaning_law O7 result_type_of ctype_number (number 1) (number_law 1) (λ n t fits e. result_back n t (eqb n 255) refl e)

-- ---- elements

extended_8 : (n : ℕ) (b : Bool) → n < 2 ^ 8 → cond b n (n + (2 ^ 64 - 2 ^ 8)) % 2 ^ 8 ≡ n
extended_8 n true lt = omega arith
extended_8 n false lt = omega arith

extended_16 : (n : ℕ) (b : Bool) → n < 2 ^ 16 → cond b n (n + (2 ^ 64 - 2 ^ 16)) % 2 ^ 16 ≡ n
extended_16 n true lt = omega arith
extended_16 n false lt = omega arith

extended_32 : (n : ℕ) (b : Bool) → n < 2 ^ 32 → cond b n (n + (2 ^ 64 - 2 ^ 32)) % 2 ^ 32 ≡ n
extended_32 n true lt = omega arith
extended_32 n false lt = omega arith

element_back : (t : Ty) (n : ℕ) → n < 256 ^ bytes_of t → extended t n % 256 ^ bytes_of t ≡ n
element_back I8 n lt = extended_8 n (ltb n (2 ^ 7)) lt
element_back I16 n lt = extended_16 n (ltb n (2 ^ 15)) lt
element_back I32 n lt = extended_32 n (ltb n (2 ^ 31)) lt
element_back I64 n lt = omega arith
element_back U8 n lt = omega arith
element_back U16 n lt = omega arith
element_back U32 n lt = omega arith
element_back U64 n lt = omega arith

pub element_law : {R : Type 0} (t : Ty) → IsCodec (element {R = R} t)
element_law t = seen_law (word_of t) (λ w. w.0 % 256 ^ bytes_of t) (number (bytes_of t)) (number_law (bytes_of t)) (λ n fits. element_back t n fits)
