-- What fine arguments of a lane point to.
use Rattle.std.proofs.Common.{sym, ◌≡◌, ℕ, ◌<◌, true, false, List, length, subst, ap, ◌∙◌}
use Rattle.vk_types.specs.declared.types.Ty.{Ty}
use Rattle.vk_kinds.specs.declared.heads.CType.{CType}
use Rattle.vk_kinds.specs.declared.heads.CType.TheVariants.{Ptr}
use Rattle.vk_meaning.specs.Data.{array_of}
use Rattle.vk_meaning.specs.Types.{type_at}
use Rattle.vk_meaning.specs.Lanes.{NamesCell, ReadsArray, Words, argument, arguments_of}
use Rattle.vk_lane.specs.Places.{IsFine, IsVisible, Place}
use Rattle.vk_lane_runs.proofs.Arguments.{argument_is, reads_below, reads_type, written_type}

-- a lane's arguments are fine
abbrev pub AreFine : Place → List CType → Words → (lane : ℕ) → Type 0
AreFine x ts words j = (p : ℕ) → p < length ts → IsFine x j (type_at ts p) (argument ts words p j)

-- a cell that a written pointer names is the lane's own
pub named_own : (x : Place) (ts : List CType) (words : Words) (j a i : ℕ) → AreFine x ts words j → NamesCell ts x.context.arrays (arguments_of ts words j) a i → x.Own j a i
named_own x ts words j a i fine n =
    let t : (to : Ty) × (type_at ts n.parameter ≡ Ptr to true) = written_type (type_at ts n.parameter) n.written in
    subst (λ b. x.Own j b i) n.same_array (subst (λ u. IsFine x j u (argument ts words n.parameter j)) t.1 (fine n.parameter n.below) i n.element)

-- an array that another pointer points into is seen
pub reads_seen : (x : Place) (ts : List CType) (words : Words) (j a : ℕ) → AreFine x ts words j → ReadsArray ts (arguments_of ts words j) a → (i : ℕ) → IsVisible x j a i
reads_seen x ts words j a fine r i =
    let l : r.parameter < length ts = reads_below ts words j a r in
    let t : (to : Ty) × (type_at ts r.parameter ≡ Ptr to false) = reads_type (type_at ts r.parameter) (words r.parameter j) a r.offset r.read (sym (argument_is ts words r.parameter j l) ∙ r.points) in
    subst (λ b. IsVisible x j b i) (ap array_of r.points) (subst (λ u. IsFine x j u (argument ts words r.parameter j)) t.1 (fine r.parameter l) i)
