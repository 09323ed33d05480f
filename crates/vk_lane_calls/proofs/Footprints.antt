-- A local call, in a lane whose pointers are fine.
use Rattle.std.proofs.Common.{arith, sym, ◌≡◌, ℕ, ◌<◌, false, List, length, ◌∙◌, ◌⊎◌, inl, inr, true≢false}
use Rattle.vk_kinds.specs.declared.heads.CType.{CType}
use Rattle.vk_meaning.specs.World.{array_at, Memory as Cells}
use Rattle.vk_meaning.specs.Data.{Datum, Value, got, halts}
use Rattle.vk_meaning.specs.Meaning.{memory_of}
use Rattle.vk_meaning.specs.Lanes.{Words, arguments_of, NamesCell}
use Rattle.vk_lane.specs.Places.{Place, IsPlace, IsVisible}
use Rattle.vk_lane_calls.specs.Callees.{IsLocal, SameEnding}
use Rattle.vk_lane_calls.specs.Callable.{Reaches, by_absent, by_array, by_const, by_name, IsLocalCall}
use Rattle.vk_lane_calls.proofs.Pointed.{AreFine, named_own, reads_seen}
use Rattle.vk_lane_calls.proofs.Passing.{names_or}

-- what is reached is seen
reached_seen : (x : Place) (ts : List CType) (words : Words) (j a i : ℕ) → IsPlace x → ((k b c : ℕ) → x.Own k b c → (array_at x.context.arrays b).fixed ≡ false) → ((k b c : ℕ) → x.Own k b c → b < length x.context.arrays) →
    AreFine x ts words j → Reaches ts x.context.arrays words j a i → IsVisible x j a i
reached_seen x ts words j a i ip consts there fine (by_name n) k l ne o = ip.apart k j a i ne o (named_own x ts words j a i fine n)
reached_seen x ts words j a i ip consts there fine (by_const e) k l ne o = true≢false (sym e ∙ consts k a i o)
reached_seen x ts words j a i ip consts there fine (by_array r) k l ne o = reads_seen x ts words j a fine r i k l ne o
reached_seen x ts words j a i ip consts there fine (by_absent past) k l ne o = let h : a < length x.context.arrays = there k a i o in absurd (omega (arith, past, h))

pub local_of : (x : Place) (ts : List CType) (rt : CType) (scalar : List Datum → Cells → Value) (words : Words) (j : ℕ) → IsPlace x → ((k b c : ℕ) → x.Own k b c → (array_at x.context.arrays b).fixed ≡ false) → ((k b c : ℕ) → x.Own k b c → b < length x.context.arrays) → IsLocalCall ts rt x.context.arrays scalar →
    AreFine x ts words j → IsLocal x j (NamesCell ts x.context.arrays (arguments_of ts words j)) (scalar (arguments_of ts words j))
local_of x ts rt scalar words j ip consts there lo fine = record {
  same = λ m n agree. same m n agree (scalar (arguments_of ts words j) m) (scalar (arguments_of ts words j) n) (lo.same words j m n (λ a i r. agree a i (reached_seen x ts words j a i ip consts there fine r))) (lo.keeps words j m) (lo.keeps words j n);
  keeps = lo.keeps words j;
  silent = lo.silent (arguments_of ts words j);
  own = λ a i. named_own x ts words j a i fine;
  decides = names_or ts x.context.arrays words j;
}
  where
    Agrees : Cells → Cells → Type 0
    Agrees m n = (a i : ℕ) → IsVisible x j a i → m a i ≡ n a i

    Kept : Cells → Value → Type 0
    Kept m v = (a i : ℕ) → (NamesCell ts x.context.arrays (arguments_of ts words j) a i → ⊥) → memory_of v a i ≡ m a i

    after : (m n : Cells) → Agrees m n → (u v : Value) → Kept m u → Kept n v → ((a i : ℕ) → Reaches ts x.context.arrays words j a i → memory_of u a i ≡ memory_of v a i) → Agrees (memory_of u) (memory_of v)
    after m n agree u v ku kv r a i seen = at (names_or ts x.context.arrays words j a i)
      where
        at : NamesCell ts x.context.arrays (arguments_of ts words j) a i ⊎ (NamesCell ts x.context.arrays (arguments_of ts words j) a i → ⊥) → memory_of u a i ≡ memory_of v a i
        at (inl q) = r a i (by_name q)
        at (inr q) = ku a i q ∙ (agree a i seen ∙ sym (kv a i q))

    same : (m n : Cells) → Agrees m n → (u v : Value) → SameEnding (Reaches ts x.context.arrays words j) u v → Kept m u → Kept n v → SameEnding (IsVisible x j) u v
    same m n agree (got d w) (got d' w') e ku kv = (e.0, after m n agree (got d w) (got d' w') ku kv e.1)
    same m n agree (got d w) (halts z w') e ku kv = e
    same m n agree (halts z w) (got d' w') e ku kv = e
    same m n agree (halts z w) (halts z' w') e ku kv = (e.0, after m n agree (halts z w) (halts z' w') ku kv e.1)
