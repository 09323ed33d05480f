-- The code of a function before and after its simd loops are closed: before, the body of each is still missing, and its guards are one
-- pair for each base.
use Rattle.std.specs.Prelude.{◌≡◌, ◌⊎◌, ℕ, nat_le, take, true, cond, List, [], ◌∷◌, map, filter, length, slice_get, Some, None}
use Rattle.vk_kinds.specs.declared.heads.CType.{CType}
use Rattle.vk_kinds.specs.Types.{ctype_number}
use Rattle.vk_meaning.specs.Guards.{Base, Pair as BasePair, guard_pairs, is_compared, named_bases, same_base}
use Rattle.vk_meaning.specs.Programs.{Definition}
use Rattle.vk_code.specs.declared.code.Guard.{Guard}
use Rattle.vk_code.specs.Listing.{Listing, Routine, SimdSite, own, reg_type}
use Rattle.vk_code.specs.Valid.{body_regs, is_good_body}
use Rattle.vk_sites.specs.Captures.{captures_of}
use Rattle.vk_sites.specs.Loops.{LoopText, variable_number}
use Rattle.vk_agree.specs.Units.{param_types}
use Rattle.vk_joins.specs.Codes.{Symbols}
use Rattle.vk_promises.specs.Loops.{type_of_binding}

-- the result register, where there is one, has the type of the function's result
abbrev pub HasResult : CType → Routine → Type 0
HasResult type c = (c.result ≡ None) ⊎ ((r : ℕ) × (c.result ≡ Some r) × (slice_get c.regs r ≡ Some type))

-- the first registers are the parameters
pub record HasTypesOf (d : Definition) (c : Routine) : Type 0 where
  pub params : c.params ≡ length (param_types d)
  pub regs : take c.params c.regs ≡ param_types d
  pub result : HasResult d.function.result c

-- the types of what the body of a loop is given: its number, and the captured variables
abbrev pub given_types : LoopText → List CType
given_types l =
    type_of_binding (slice_get l.inside.scope.inner (variable_number l)) ∷ map (λ k. type_of_binding (slice_get l.outside.scope.inner k)) (captures_of l)

-- An open loop has one guard for each base, in the order of first appearance, which is its register with itself.
pub record IsOpenSite (c : Routine) (l : LoopText) (s : SimdSite) : Type 0 where
  pub simdlen : s.simdlen ≡ l.simdlen
  pub types : map (reg_type c.regs) (body_regs s) ≡ map ctype_number (given_types l)
  pub bases : length s.guards ≡ length (named_bases l.inside l.body)
  pub paired : (k : ℕ) (g : Guard) → slice_get s.guards k ≡ Some g → g.first ≡ g.second

-- the register of a base
abbrev pub register_of : List Base → List Guard → Base → ℕ
register_of [] gs b = 0
register_of (x ∷ xs) [] b = 0
register_of (x ∷ xs) (g ∷ gs) b = cond (same_base x b) g.first (register_of xs gs b)

abbrev pub register_pair : List Base → List Guard → BasePair → Guard
register_pair bases gs p = record { first = register_of bases gs p.first; second = register_of bases gs p.second }

abbrev pub first_guard : List Guard → List Guard
first_guard [] = []
first_guard (g ∷ gs) = g ∷ []

-- the pairs that have to be compared
abbrev pub compared_pairs : LoopText → List BasePair
compared_pairs l = filter is_compared (guard_pairs l.inside l.body)

-- A closed loop has a guard for each pair of bases that has to be compared; with more than 1024 of them, one register is paired with
-- itself, which never holds.
abbrev pub closed_guards : LoopText → List Guard → List Guard
closed_guards l gs = cond (nat_le (length (compared_pairs l)) 1024) (map (register_pair (named_bases l.inside l.body) gs) (compared_pairs l)) (first_guard gs)

-- the site with its body and its guards in place, and all else as it was
pub record IsClosedSite (l : LoopText) (s t : SimdSite) (body : Routine) : Type 0 where
  pub simdlen : t.simdlen ≡ s.simdlen
  pub low : t.low ≡ s.low
  pub high : t.high ≡ s.high
  pub captures : t.captures ≡ s.captures
  pub guards : t.guards ≡ closed_guards l s.guards
  pub own_code : t.body ≡ own body

-- the open site of a closed one, and the body that was put in place
pub record HasOpenSite (c : Listing) (l : LoopText) (place : ℕ) (t : SimdSite) : Type 0 where
  pub site : SimdSite
  pub at : slice_get c.loops place ≡ Some site
  pub body : Routine
  pub closed : IsClosedSite l site t body

-- a code whose loops are closed, and all else as it was
pub record IsClosed (ls : List LoopText) (c t : Listing) : Type 0 where
  pub routine : t.routine ≡ c.routine
  pub count : length t.loops ≡ length c.loops
  pub loops : (place : ℕ) (l : LoopText) (u : SimdSite) → slice_get ls place ≡ Some l → slice_get t.loops place ≡ Some u → HasOpenSite c l place u

-- the bodies that were put in place are valid
abbrev pub AreGoodBodies : Symbols → List LoopText → Listing → Type 0
AreGoodBodies y ls t = (place : ℕ) (l : LoopText) (u : SimdSite) (body : Routine) → slice_get ls place ≡ Some l → slice_get t.loops place ≡ Some u →
    u.body ≡ own body → is_good_body y.around t.routine (body_regs u) body ≡ true
