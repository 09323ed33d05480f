-- Which variant a call is linked to, and at how many lanes a simd loop runs, by what the objects record.
use Rattle.std.specs.Prelude.{◌≡◌, ℕ, ◌+◌, ◌/◌, ◌==◌, nat_lt, max, Bool, true, false, cond, not, ◌&&◌, ◌||◌, List, [], ◌∷◌, ◌++◌, flat_map, filter, filter_map, get_or, slice_get, Option, Some, None, ℤ, pos, ◌*ℤ◌, Contains}
use Rattle.std.specs.Ordering.{int_eq}
use Rattle.vk_types.specs.Numbers.{width_of}
use Rattle.vk_kinds.specs.declared.heads.CType.{CType}
use Rattle.vk_kinds.specs.declared.heads.CType.TheVariants.{Ptr}
use Rattle.vk_kinds.specs.declared.kinds.Isa.{Isa}
use Rattle.vk_kinds.specs.declared.kinds.Isa.TheVariants.{B, C, D, E, N, S}
use Rattle.vk_kinds.specs.declared.kinds.Kind.{Kind}
use Rattle.vk_kinds.specs.declared.kinds.Kind.TheVariants as kinds
use Rattle.vk_kinds.specs.declared.kinds.Length.{Length}
use Rattle.vk_kinds.specs.declared.kinds.Param.{Param}
use Rattle.vk_kinds.specs.declared.kinds.Step.TheVariants as steps
use Rattle.vk_kinds.specs.Lengths.{lanes_at, lengths}
use Rattle.vk_kinds.specs.Sizes.{SignatureTree, is_vector, wds}
use Rattle.vk_code.specs.declared.code.Shape.{Shape}
use Rattle.vk_code.specs.declared.code.Shape.TheVariants.{Vector, By, Along, Literal, Same}
use Rattle.vk_code.specs.Listing.{CallSite}
use Rattle.vk_object.specs.Objects.{FunctionLists, ObjectLists}
use Rattle.vk_sites.specs.Shapes.{is_uniform}
use Rattle.vk_joins.specs.Codes.{slot_shapes}

-- ---- shapes and kinds

-- a step of elements, as a directive has it: in bytes for a pointer
abbrev pub in_bytes : CType → ℤ → ℤ
in_bytes (Ptr to written) z = z *ℤ pos (width_of to / 8)
in_bytes t z = z

abbrev pub is_same : Shape → (parameter : ℕ) → Bool
is_same (Same q) p = q == p
is_same _ p = false

abbrev pub is_literal : Shape → ℤ → Bool
is_literal (Literal z) c = int_eq z c
is_literal _ c = false

abbrev pub grows_by : CType → Shape → ℤ → Bool
grows_by t (By c) z = int_eq (in_bytes t c) z
grows_by t _ z = false

-- a shape grows by an argument of this other shape
abbrev pub grows_along : Shape → (step : Shape) → Bool
grows_along (Along p) q = is_same q p
grows_along (By c) q = is_literal q c
grows_along _ q = false

-- an argument's shape matches the kind of its parameter; `shapes` are those of all arguments
abbrev pub matches : (shapes : List Shape) → CType → Kind → Shape → Bool
matches shapes t kinds.Vector s = true
matches shapes t kinds.Uniform s = is_uniform s
matches shapes t (kinds.Linear steps.One) s = grows_by t s (pos 1)
matches shapes t (kinds.Linear (steps.By c)) s = grows_by t s c
matches shapes t (kinds.Linear (steps.Arg q)) s = grows_along s (get_or shapes q Vector)
matches shapes t (kinds.Ref step) s = false
matches shapes t (kinds.Val step) s = false
matches shapes t (kinds.Uval step) s = false

abbrev pub all_match : (shapes : List Shape) → List CType → List Param → (rest : List Shape) → Bool
all_match shapes ts ps [] = true
all_match shapes [] ps (s ∷ ss) = true
all_match shapes (t ∷ ts) [] (s ∷ ss) = true
all_match shapes (t ∷ ts) (p ∷ ps) (s ∷ ss) = matches shapes t p.kind s && all_match shapes ts ps ss

-- ---- candidates

-- a variant of a function: the number of its directive, and the lanes that it has in the image
pub record Candidate : Type 0 where
  pub directive : ℕ
  pub signature : SignatureTree
  pub length : Length
  pub lanes : ℕ

-- what an image is linked for: a letter, and with `s` a vector length in bits
pub record Goal : Type 0 where
  pub isa : Isa
  pub vl : ℕ

-- the letters of a target in their order: each has the registers of those before it, and wider or further ones
abbrev pub rank_of : Isa → ℕ
rank_of B = 0
rank_of C = 1
rank_of D = 2
rank_of E = 3
rank_of N = 0
rank_of S = 1

abbrev pub is_x86 : Isa → Bool
is_x86 B = true
is_x86 C = true
is_x86 D = true
is_x86 E = true
is_x86 N = false
is_x86 S = false

-- the variants that an image of this letter uses: those of its own letter, and of the earlier ones of its target
abbrev pub is_usable : (image letter : Isa) → Bool
is_usable i l = cond (is_x86 i) (is_x86 l) (not (is_x86 l)) && not (nat_lt (rank_of i) (rank_of l))

abbrev pub with_lanes : ℕ → SignatureTree → Length → Option ℕ → Option Candidate
with_lanes d s l None = None
with_lanes d s l (Some n) = Some (record { directive = d; signature = s; length = l; lanes = n })

-- a variant, where its letter is used and its number of lanes is defined
abbrev pub usable : Goal → FunctionLists → (directive : ℕ) → SignatureTree → Length → Option Candidate
usable goal r d s l = cond (is_usable goal.isa l.isa) (with_lanes d s l (lanes_at l.isa l.len (wds r.head s) goal.vl)) None

abbrev pub usable_from : Goal → ObjectLists → FunctionLists → (directive : ℕ) → List SignatureTree → List Candidate
usable_from goal o r d [] = []
usable_from goal o r d (s ∷ ss) = filter_map (usable goal r d s) (lengths o.target r.head s) ++ usable_from goal o r (d + 1) ss

-- the variants of a function in an image, by its directives
abbrev pub variants_of : Goal → ObjectLists → FunctionLists → List Candidate
variants_of goal o r = usable_from goal o r 0 r.directives

-- a variant without a mask is for a call that is always made, of all lanes
abbrev pub is_allowed : (whole : Bool) → CallSite → Candidate → Bool
is_allowed whole slot c = c.length.masked || (slot.always && whole)

abbrev pub is_fitting : FunctionLists → CallSite → Candidate → Bool
is_fitting r slot c = all_match (slot_shapes slot) r.head.params c.signature.params (slot_shapes slot)

abbrev pub candidates_of : Goal → ObjectLists → (whole : Bool) → CallSite → Option FunctionLists → List Candidate
candidates_of goal o whole slot None = []
candidates_of goal o whole slot (Some r) = filter (λ (c : Candidate). is_allowed whole slot c && is_fitting r slot c) (variants_of goal o r)

-- The candidates of a slot. The declaration in the caller's object tells the directives that the caller sees: all of the
-- definition's, or none. `whole`: the calling code is an unmasked variant, or the chunk of a simd loop.
abbrev pub candidates : Goal → ObjectLists → (whole : Bool) → CallSite → List Candidate
candidates goal o whole slot = candidates_of goal o whole slot (slice_get o.functions slot.function)

-- ---- the order

-- how many parameters are uniform or linear
abbrev pub fixed_params : List Param → ℕ
fixed_params [] = 0
fixed_params (p ∷ ps) = cond (is_vector p.kind) 0 1 + fixed_params ps

abbrev pub then_by : (less same next : Bool) → Bool
then_by less same next = less || (same && next)

-- first those with more uniform and linear parameters, then unmasked ones, then later letters, then earlier directives
abbrev pub precedes : Candidate → Candidate → Bool
precedes a b =
    let m : ℕ = fixed_params a.signature.params in
    let n : ℕ = fixed_params b.signature.params in
    then_by (nat_lt n m) (m == n)
    (then_by (b.length.masked && not a.length.masked) (not (a.length.masked && not b.length.masked))
    (then_by (nat_lt (rank_of b.length.isa) (rank_of a.length.isa)) (rank_of a.length.isa == rank_of b.length.isa)
    (nat_lt a.directive b.directive)))

-- those of the running number of lanes; at one lane there are none
abbrev pub at_lanes : ℕ → List Candidate → List Candidate
at_lanes n cs = filter (λ (c : Candidate). (c.lanes == n) && not (n == 1)) cs

-- no other candidate precedes it
pub record IsFirst (cs : List Candidate) (c : Candidate) : Type 0 where
  pub among : Contains cs c
  pub first : (other : Candidate) → Contains cs other → precedes other c ≡ false

-- the choice among candidates: none where there is none
abbrev pub IsChoice : List Candidate → Option Candidate → Type 0
IsChoice cs None = cs ≡ []
IsChoice cs (Some c) = IsFirst cs c

-- ---- simd loops

-- the bytes of a vector register
abbrev pub register_bytes : Isa → (vl : ℕ) → ℕ
register_bytes B vl = 16
register_bytes C vl = 16
register_bytes D vl = 32
register_bytes E vl = 64
register_bytes N vl = 16
register_bytes S vl = vl / 8

abbrev pub greatest_lanes : List Candidate → ℕ
greatest_lanes [] = 0
greatest_lanes (c ∷ cs) = max c.lanes (greatest_lanes cs)

-- as many lanes of an int as a register holds, where no candidate tells a number
abbrev pub or_of_ints : Goal → ℕ → ℕ
or_of_ints goal n = cond (n == 0) (register_bytes goal.isa goal.vl / 4) n

-- the number of lanes of a simd loop with these calls in its body: as its line asks, else the greatest of their candidates
abbrev pub loop_lanes : Goal → ObjectLists → (simdlen : Option ℕ) → List CallSite → ℕ
loop_lanes goal o (Some n) slots = n
loop_lanes goal o None slots = or_of_ints goal (greatest_lanes (flat_map (candidates goal o true) slots))
