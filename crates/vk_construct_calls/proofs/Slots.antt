-- A slot's call as appended code.
use Rattle.std.proofs.Common.{sym, ◌≡◌, ℕ, ◌<◌, List, [], ◌∷◌, length, Option, Some, None, refl, subst, ap, ◌∙◌}
use Rattle.std.specs.Prelude.{slice_get, option_and_then, option_map}
use Rattle.vk_types.specs.declared.types.Ty.{Ty}
use Rattle.vk_kinds.specs.declared.heads.CType.{CType}
use Rattle.vk_kinds.specs.declared.heads.CType.TheVariants.{Void, Int}
use Rattle.vk_meaning.specs.World.{Memory as Cells}
use Rattle.vk_meaning.specs.Data.{Datum, Value}
use Rattle.vk_meaning.specs.Lanes.{IsPointed, IsWord, arguments_of, datum_of}
use Rattle.vk_meaning.specs.Types.{type_at}
use Rattle.vk_code.specs.declared.instruction.Instr.{Instr}
use Rattle.vk_code.specs.declared.instruction.Operation.TheVariants.{Call}
use Rattle.vk_code.specs.Instruction.{operation_of}
use Rattle.vk_code.specs.Listing.{CallSite}
use Rattle.vk_object.specs.Tables.{EntryLists}
use Rattle.vk_object.specs.Lane.{is_live}
use Rattle.vk_object.specs.Machine.{Site, Target, arg_reg, target_of}
use Rattle.vk_lane.specs.Places.{IsFine, Share, reg_type}
use Rattle.vk_lane.specs.Pieces.{Always, Does}
use Rattle.vk_lane.specs.Entries.{LaneCall, place_of}
use Rattle.vk_lane_calls.specs.Callees.{TakesIf, value_behind}
use Rattle.vk_lane_calls.specs.Callable.{HasArguments, IsResultRegister, own_words}
use Rattle.vk_lane.proofs.Rules.{does_weaken}
use Rattle.vk_lane_calls.proofs.Slots.{call_on_lanes}
use Rattle.vk_lane_calls.proofs.Passing.{passes_vectors}
use Rattle.vk_construct.specs.Adds.{HasWritten, Written}
use Rattle.vk_construct.proofs.Adding.{free_integer, type_there}
use Rattle.vk_construct_calls.specs.Called.{PassesIntegers, ReachesEntry}

abbrev slot_in : CallSite → Option Target → CallSite
slot_in s None = s
slot_in s (Some t) = t.slot

-- what a slot's call reaches is reached by that slot
target_slot : (s : Site) (k : ℕ) (slot : CallSite) → slice_get s.code.routine.slots k ≡ Some slot → slot_in slot (target_of s k) ≡ slot
target_slot s k slot e = ap (λ o. slot_in slot (option_and_then (λ (y : CallSite). option_and_then (λ n. option_map (λ z. record { slot = y; number = n; entry = z }) (slice_get s.entries n)) (slice_get s.entry.targets k)) o)) e ∙ go (slice_get s.entry.targets k)
  where
    last : (n : ℕ) (o : Option EntryLists) → slot_in slot (option_map (λ z. record { slot = slot; number = n; entry = z }) o) ≡ slot
    last n None = refl
    last n (Some z) = refl

    go : (o : Option ℕ) → slot_in slot (option_and_then (λ n. option_map (λ z. record { slot = slot; number = n; entry = z }) (slice_get s.entries n)) o) ≡ slot
    go None = refl
    go (Some n) = last n (slice_get s.entries n)

-- in a run where a slot reaches such an entry, its call gives each live lane what the function gives on the lane's own arguments
pub slot_does : (q : LaneCall) (b : Written) (i : Instr) (k : ℕ) (slot : CallSite) (ts : List CType) (t : Ty) (rd : ℕ) (scalar : List Datum → Cells → Value) → HasWritten q b → operation_of i ≡ Some (Call k) →
    slice_get b.slots k ≡ Some slot → PassesIntegers b slot ts t rd → ReachesEntry q k ts (Int t) scalar → Does (place_of q) Always (i ∷ []) (λ j h h'. TakesIf (is_live i.m h.lane) (Int t) (Some rd) h h' (value_behind h.world (scalar (arguments_of ts (own_words slot h) j) h.world.memory)))
slot_does q b i k slot ts t rd scalar hw calls named ps e =
    subst (λ (u : CallSite). Does (place_of q) Always (i ∷ []) (λ j h h'. TakesIf (is_live i.m h.lane) (Int t) (Some rd) h h' (value_behind h.world (scalar (arguments_of ts (own_words u h) j) h.world.memory)))) is
    (subst (λ (r : Option ℕ). Does (place_of q) Always (i ∷ []) (λ j h h'. TakesIf (is_live i.m h.lane) (Int t) r h h' (value_behind h.world (scalar (arguments_of ts (own_words e.target.slot h) j) h.world.memory)))) result_is
    (does_weaken (place_of q) _ Always _ _ (i ∷ [])
    (call_on_lanes (place_of q) q.bodies i k e.target ts e.kinds (Int t) scalar hw.place e.hushes e.owns e.local calls e.named e.several result e.runs
    (λ hs s. passes_vectors (place_of q) i.m e.target ts e.kinds hs e.vectors e.entry_vectors words s))
    (λ j h s u live. has j h) (λ j h h' s s' u f. f)))
  where
    no_void : Int t ≡ Void → ⊥
    no_void e = cc

    some : (x y : ℕ) → Some x ≡ Some y → x ≡ y
    some x y e = cc

    is : e.target.slot ≡ slot
    is = ap (slot_in slot) (sym e.named) ∙ target_slot q.site k slot (hw.code.slots k slot named)

    result_is : e.target.slot.result ≡ Some rd
    result_is = ap (λ (u : CallSite). u.result) is ∙ ps.result

    type_is : (p : ℕ) → p < length ts → reg_type (place_of q) (arg_reg e.target.slot p) ≡ type_at ts p
    type_is p l = ap (λ (u : CallSite). reg_type (place_of q) (arg_reg u p)) is ∙ type_there q b (arg_reg slot p) (type_at ts p) hw (ps.args p l)

    words : (p : ℕ) → p < length ts → (w : ℕ) → IsWord (reg_type (place_of q) (arg_reg e.target.slot p)) w → IsWord (type_at ts p) w
    words p l w x = subst (λ u. IsWord u w) (type_is p l) x

    result : (r : ℕ) → e.target.slot.result ≡ Some r → IsResultRegister (place_of q) (Int t) r
    result r er = subst (IsResultRegister (place_of q) (Int t)) (some rd r (sym result_is ∙ er)) (record { typed = type_there q b rd (Int t) hw ps.typed; free = free_integer q b rd t hw ps.typed; some = no_void })

    has : (j : ℕ) (h : Share) → HasArguments (place_of q) e.target.slot ts j h
    has j h = record {
      fine = λ p l. let s = ps.integers p l in subst (λ u. IsFine (place_of q) j u (datum_of u (h.lane.reg (arg_reg e.target.slot p)))) (sym s.1) tt;
      pointed = λ p l. let s = ps.integers p l in subst (λ u. IsPointed (place_of q).context.arrays u (datum_of u (h.lane.reg (arg_reg e.target.slot p)))) (sym s.1) tt;
    }
