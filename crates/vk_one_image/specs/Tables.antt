-- The tables of an image of one entry.
use Rattle.std.specs.Prelude.{ℕ, zero, suc, ◌==◌, cond, List, [], ◌∷◌, codes, None}
use Rattle.vk_kinds.specs.declared.kinds.Isa.TheVariants.{B}
use Rattle.vk_kinds.specs.declared.kinds.Kind.TheVariants.{Vector}
use Rattle.vk_kinds.specs.declared.kinds.Param.{Param}
use Rattle.vk_kinds.specs.declared.kinds.Target.TheVariants.{X86}
use Rattle.vk_code.specs.Listing.{Listing}
use Rattle.vk_object.specs.declared.tables.EntryKind.{EntryKind}
use Rattle.vk_object.specs.declared.tables.EntryKind.TheVariants.{M, Scalar}
use Rattle.vk_object.specs.Tables.{EntryLists, Tables}

-- scalar code in one lane, a variant under a mask in more
abbrev pub kind_of : (lanes : ℕ) → EntryKind
kind_of lanes = cond (lanes == 1) Scalar M

-- so many parameters with words of their own in each lane
abbrev pub vectors : ℕ → List Param
vectors zero = []
vectors (suc n) = record { kind = Vector; align = None } ∷ vectors n

-- only variants tell their parameters
abbrev pub params_of : (lanes count : ℕ) → List Param
params_of lanes count = cond (lanes == 1) [] (vectors count)

abbrev pub entry_of : (lanes params : ℕ) → EntryLists
entry_of lanes params = record { text = codes "f"; kind = kind_of lanes; lanes = lanes; code = 0; params = params_of lanes params; targets = []; loops = [] }

abbrev pub tables_of : (lanes : ℕ) → Listing → Tables
tables_of lanes c = record { target = X86; isa = B; vl = 0; main = None; arrays = []; codes = c ∷ []; entries = entry_of lanes c.routine.params ∷ [] }
