-- The sizes by which the two vector function ABIs count lanes, in bytes.
--
-- x86-64: the vector function ABI's "Characteristic data type". AArch64: the vector function ABI's "Lane Size", "Narrowest Data
-- Size" and "Widest Data Size".
use Rattle.std.specs.Prelude.{ℕ, ◌/◌, ◌==◌, ◌||◌, Bool, true, false, min, max, List, [], ◌∷◌, ◌++◌, Option, if◌then◌else◌}
use Rattle.vk_types.specs.declared.types.Ty.{Ty}
use Rattle.vk_types.specs.declared.types.Ty.TheVariants.{I32}
use Rattle.vk_types.specs.Numbers.{width_of}
use Rattle.vk_kinds.specs.declared.heads.CType.{CType}
use Rattle.vk_kinds.specs.declared.heads.CType.TheVariants.{Void, Int, Ptr}
use Rattle.vk_kinds.specs.declared.heads.Head.{Head}
use Rattle.vk_kinds.specs.declared.kinds.Branch.{Branch}
use Rattle.vk_kinds.specs.declared.kinds.Kind.{Kind}
use Rattle.vk_kinds.specs.declared.kinds.Kind.TheVariants.{Vector, Uniform, Linear, Ref, Val, Uval}
use Rattle.vk_kinds.specs.declared.kinds.Param.{Param}
use Rattle.vk_kinds.specs.declared.kinds.Signature.{Signature}

-- the types of a function
pub record HeadTypes : Type 0 where
  pub result : CType
  pub params : List CType

-- what a directive says of it, for each of its parameters
pub record SignatureTree : Type 0 where
  pub params : List Param
  pub branch : Branch
  pub simdlen : Option ℕ

abbrev pub head_types : Head → HeadTypes
head_types h = record { result = h.result; params = h.params.items }

abbrev pub signature_tree : Signature → SignatureTree
signature_tree s = record { params = s.params.items; branch = s.branch; simdlen = s.simdlen }

-- the size of a pointer
abbrev pub pointer_size : ℕ
pointer_size = 8

abbrev pub bytes_of : Ty → ℕ
bytes_of t = width_of t / 8

-- the size of a type; no parameter is `Void`, and one that were would count as an int
abbrev pub size_of : CType → ℕ
size_of Void = bytes_of I32
size_of (Int t) = bytes_of t
size_of (Ptr to written) = pointer_size

-- it is 1, 2, 4 or 8
abbrev pub is_size : ℕ → Bool
is_size n = (n == 1) || ((n == 2) || ((n == 4) || (n == 8)))

-- the parameter is neither uniform nor linear: each lane has its own
abbrev pub is_vector : Kind → Bool
is_vector Vector = true
is_vector Uniform = false
is_vector (Linear step) = false
is_vector (Ref step) = false
is_vector (Val step) = false
is_vector (Uval step) = false

-- ---- x86-64

-- the type of the first parameter that is neither uniform nor linear, `int` where there is none
abbrev pub first_vector : List CType → List Param → CType
first_vector [] ps = Int I32
first_vector (t ∷ ts) [] = Int I32
first_vector (t ∷ ts) (p ∷ ps) = if is_vector p.kind then t else first_vector ts ps

-- the characteristic data type: the result's type; of a void function the type of that parameter
abbrev pub characteristic : CType → List CType → List Param → CType
characteristic Void ts ps = first_vector ts ps
characteristic (Int t) ts ps = Int t
characteristic (Ptr to written) ts ps = Ptr to written

-- its size
unfoldable pub cdt : HeadTypes → SignatureTree → ℕ
cdt h s = size_of (characteristic h.result h.params s.params)

-- ---- AArch64

-- the lane size of a parameter: the size of what a uniform or linear pointer points to, else its own size
abbrev pub lane_size : CType → Kind → ℕ
lane_size Void kind = size_of Void
lane_size (Int t) kind = bytes_of t
lane_size (Ptr to written) kind = if is_vector kind then pointer_size else bytes_of to

abbrev pub lane_sizes : List CType → List Param → List ℕ
lane_sizes [] ps = []
lane_sizes (t ∷ ts) [] = []
lane_sizes (t ∷ ts) (p ∷ ps) = lane_size t p.kind ∷ lane_sizes ts ps

-- the lane size of a result, none of a void function
abbrev pub result_sizes : CType → List ℕ
result_sizes Void = []
result_sizes (Int t) = bytes_of t ∷ []
result_sizes (Ptr to written) = pointer_size ∷ []

-- the lane sizes of all parameters and of the result
abbrev pub all_sizes : HeadTypes → SignatureTree → List ℕ
all_sizes h s = lane_sizes h.params s.params ++ result_sizes h.result

-- the least of them, an int's where there is none
abbrev pub least_of : List ℕ → ℕ
least_of [] = bytes_of I32
least_of (n ∷ []) = n
least_of (n ∷ m ∷ ns) = min n (least_of (m ∷ ns))

-- the greatest of them, an int's where there is none
abbrev pub greatest_of : List ℕ → ℕ
greatest_of [] = bytes_of I32
greatest_of (n ∷ []) = n
greatest_of (n ∷ m ∷ ns) = max n (greatest_of (m ∷ ns))

-- the narrowest data size
unfoldable pub nds : HeadTypes → SignatureTree → ℕ
nds h s = least_of (all_sizes h s)

-- the widest data size
unfoldable pub wds : HeadTypes → SignatureTree → ℕ
wds h s = greatest_of (all_sizes h s)
