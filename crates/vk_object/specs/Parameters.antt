-- What a directive says of parameters, as an object and an image hold it.
use Rattle.std.specs.Prelude.{ℕ, ◌==◌, ◌%◌, nat_lt, nat_le, Bool, true, false, not, ◌&&◌, ◌||◌, cond, ℤ, pos, neg_ℤ, int_rem, List, Option, Some, None, slice_get}
use Rattle.std.specs.List.{list_all}
use Rattle.std.specs.Ordering.{int_eq}
use Rattle.vk_kinds.specs.declared.kinds.Kind.{Kind}
use Rattle.vk_kinds.specs.declared.kinds.Kind.TheVariants.{Vector, Uniform, Linear, Ref, Val, Uval}
use Rattle.vk_kinds.specs.declared.kinds.Step.{Step}
use Rattle.vk_kinds.specs.declared.kinds.Step.TheVariants.{One, By, Arg}
use Rattle.vk_kinds.specs.declared.kinds.Param.{Param}
use Rattle.vk_code.specs.Tests.{holds, pairs}
use Rattle.vk_code.specs.Valid.{is_integer, is_pointer, is_written}

-- ---- by themselves

-- a power of two from 1 to 65536
abbrev pub is_alignment : ℕ → Bool
is_alignment n = nat_lt 0 n && nat_le n 65536 && (65536 % n == 0)

abbrev pub is_aligned : Option ℕ → Bool
is_aligned None = true
is_aligned (Some n) = is_alignment n

abbrev pub is_uniform : Kind → Bool
is_uniform Vector = false
is_uniform Uniform = true
is_uniform (Linear step) = false
is_uniform (Ref step) = false
is_uniform (Val step) = false
is_uniform (Uval step) = false

-- a constant step is neither 0 nor 1, which is `One`, and its magnitude is at most 2147483647; a step argument is a uniform parameter
abbrev pub is_step : List Param → Step → Bool
is_step params One = true
is_step params (By n) = not (int_eq n (pos 0)) && not (int_eq n (pos 1)) && not (int_eq n (neg_ℤ (pos 2147483648)))
is_step params (Arg q) = holds (λ (p : Param). is_uniform p.kind) (slice_get params q)

-- parameters are vector, uniform or linear
abbrev pub is_kind : List Param → Kind → Bool
is_kind params Vector = true
is_kind params Uniform = true
is_kind params (Linear step) = is_step params step
is_kind params (Ref step) = false
is_kind params (Val step) = false
is_kind params (Uval step) = false

abbrev pub is_param : List Param → Param → Bool
is_param params p = is_kind params p.kind && is_aligned p.align

abbrev pub are_kinds : List Param → Bool
are_kinds params = list_all (is_param params) params

-- ---- at parameters of types, which are told by their numbers

-- the bytes of the element of a pointer
abbrev pub element_bytes : ℕ → ℕ
element_bytes t = cond (t % 4 == 0) 1 (cond (t % 4 == 1) 2 (cond (t % 4 == 2) 4 8))

-- a constant step of a pointer counts whole elements
abbrev pub is_whole : ℕ → ℤ → Bool
is_whole t n = is_integer t || int_eq (int_rem n (pos (element_bytes t))) (pos 0)

-- a step argument is an integer
abbrev pub is_step_at : List ℕ → ℕ → Step → Bool
is_step_at types t One = is_whole t (pos 1)
is_step_at types t (By n) = is_whole t n
is_step_at types t (Arg q) = holds is_integer (slice_get types q)

-- a written pointer is not uniform
abbrev pub is_kind_at : List ℕ → ℕ → Kind → Bool
is_kind_at types t Vector = true
is_kind_at types t Uniform = not (is_written t)
is_kind_at types t (Linear step) = is_step_at types t step
is_kind_at types t (Ref step) = false
is_kind_at types t (Val step) = false
is_kind_at types t (Uval step) = false

-- only a pointer is aligned
abbrev pub is_aligned_at : ℕ → Option ℕ → Bool
is_aligned_at t None = true
is_aligned_at t (Some n) = is_pointer t

abbrev pub is_param_at : List ℕ → ℕ → Param → Bool
is_param_at types t p = is_kind_at types t p.kind && is_aligned_at t p.align

-- one for each type, and fit for it
abbrev pub are_typed : List ℕ → List Param → Bool
are_typed types params = pairs (is_param_at types) types params
