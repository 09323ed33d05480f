-- Small objects, and what the checker computes of their bytes.
use Rattle.std.proofs.Common.{◌≡◌, ℕ, ◌+◌, drop, map, true, false, length, List, [], ◌∷◌, ◌++◌, take, Result, Ok, Err, Option, Some, None, refl}
use Rattle.std.specs.Prelude.{codes}
use Rattle.std.specs.List.{range_with_len}
use Rattle.vk_types.specs.declared.types.Ty.TheVariants.{I32}
use Rattle.vk_kinds.specs.declared.kinds.Target.TheVariants.{X86}
use Rattle.vk_object.specs.Objects.{ObjectLists}
use Rattle.vk_format.specs.declared.rules.ObjectFault.{ObjectFault}
use Rattle.vk_format.specs.declared.rules.ObjectRule.{ObjectRule}
use Rattle.vk_format.specs.declared.rules.ObjectRule.TheVariants.{O2, O3, O4, O5, O7}
use Rattle.vk_format.specs.Format.{fault, judge}
use Rattle.vk_object_format.specs.declared.rows.RawObject.{RawObject}
use Rattle.vk_object_format.specs.Object.{object_bytes, object_format}

-- the first fault of the bytes
abbrev refused : List ℕ → Option ObjectFault
refused bytes = fault_of (judge object_format 0 bytes)
  where
    fault_of : Result RawObject ObjectFault → Option ObjectFault
    fault_of (Ok o) = None
    fault_of (Err f) = Some f

abbrev at : ℕ → ObjectRule → Option ObjectFault
at place rule = Some (fault place rule)

abbrev zeros : ℕ → List ℕ
zeros n = take n (0 ∷ 0 ∷ 0 ∷ 0 ∷ 0 ∷ 0 ∷ 0 ∷ 0 ∷ 0 ∷ 0 ∷ 0 ∷ 0 ∷ 0 ∷ 0 ∷ 0 ∷ 0 ∷ [])

-- ---- the object of nothing

abbrev nothing : ObjectLists
nothing = record { target = X86; symbols = []; objects = []; functions = [] }

abbrev empty_bytes : List ℕ
empty_bytes = codes "VKOBJECT" ++ (1 ∷ 0 ∷ 0 ∷ 0 ∷ zeros 12)

written_24 : object_bytes nothing ≡ empty_bytes
written_24 = refl

read_24 : refused empty_bytes ≡ None
unfolding judge
read_24 = refl

-- each front is refused where it ends
all_cuts : map (λ k. refused (take k empty_bytes)) (range_with_len 0 24) ≡ map (λ k. at k O4) (range_with_len 0 24)
unfolding judge
all_cuts = refl

one_byte_more : refused (empty_bytes ++ 0 ∷ []) ≡ at 24 O5
unfolding judge
one_byte_more = refl

-- with another byte at a place
abbrev with_byte : ℕ → ℕ → List ℕ
with_byte place byte = take place empty_bytes ++ byte ∷ drop (place + 1) empty_bytes

version_3 : refused (with_byte 8 3) ≡ at 8 O2
unfolding judge
version_3 = refl

no_target : refused (with_byte 10 2) ≡ at 10 O3
unfolding judge
no_target = refl

no_zero : refused (with_byte 11 1) ≡ at 11 O7
unfolding judge
no_zero = refl

-- the symbol's text is empty, and whole with its length
empty_symbol : refused (with_byte 12 1) ≡ at 16 O7
unfolding judge
empty_symbol = refl

-- ---- `extern const int gain[8];`

abbrev gain : ObjectLists
gain = record {
  target = X86;
  symbols = codes "gain" ∷ [];
  objects = (record { symbol = 0; ty = I32; fixed = true; defined = false; length = 8; elements = [] }) ∷ [];
  functions = [];
}

gain_44 : length (object_bytes gain) ≡ 44
gain_44 = refl

gain_read : refused (object_bytes gain) ≡ None
unfolding judge
gain_read = refl
