-- How many lanes the variants of a function have, by the two vector function ABIs.
--
-- x86-64: the vector function ABI's "Vector Function Name Mangling", whose letters name registers of 16, 16, 32 and 64 bytes for
-- integers. AArch64: the vector function ABI's rules for the number of lanes of Advanced SIMD and of SVE, and for `simdlen`.
use Rattle.std.specs.Prelude.{ℕ, ◌*◌, ◌/◌, ◌==◌, ◌&&◌, ◌||◌, nat_le, Bool, true, false, List, [], ◌∷◌, map, Option, Some, None, if◌then◌else◌}
use Rattle.std.specs.List.{flat_map}
use Rattle.vk_kinds.specs.declared.kinds.Target.{Target}
use Rattle.vk_kinds.specs.declared.kinds.Target.TheVariants.{X86, Arm}
use Rattle.vk_kinds.specs.declared.kinds.Isa.{Isa}
use Rattle.vk_kinds.specs.declared.kinds.Isa.TheVariants.{B, C, D, E, N, S}
use Rattle.vk_kinds.specs.declared.kinds.Branch.{Branch}
use Rattle.vk_kinds.specs.declared.kinds.Branch.TheVariants.{Both, Inside, Outside}
use Rattle.vk_kinds.specs.declared.kinds.Len.{Len}
use Rattle.vk_kinds.specs.declared.kinds.Len.TheVariants.{Fixed, Scalable}
use Rattle.vk_kinds.specs.declared.kinds.Length.{Length}
use Rattle.vk_kinds.specs.Sizes.{HeadTypes, SignatureTree, cdt, nds, wds}

abbrev pub letters_of : Target → List Isa
letters_of X86 = B ∷ C ∷ D ∷ E ∷ []
letters_of Arm = N ∷ S ∷ []

-- x86-64: as many values of the characteristic data type as a register of so many bytes holds
abbrev pub lanes_in : (register : ℕ) → HeadTypes → SignatureTree → List Len
lanes_in register h s = Fixed (register / cdt h s) ∷ []

-- Advanced SIMD, by the narrowest data size: as many as a register of 8 bytes and one of 16 hold, never one lane alone
abbrev pub lanes_by : (nds : ℕ) → List Len
lanes_by nds = if nds == 8 then Fixed 2 ∷ [] else Fixed (8 / nds) ∷ Fixed (16 / nds) ∷ []

-- the lengths with a letter, ascending
abbrev pub lens_at : Isa → HeadTypes → SignatureTree → List Len
lens_at B h s = lanes_in 16 h s
lens_at C h s = lanes_in 16 h s
lens_at D h s = lanes_in 32 h s
lens_at E h s = lanes_in 64 h s
lens_at N h s = lanes_by (nds h s)
lens_at S h s = Scalable ∷ []

-- a `simdlen` stands for all of them
abbrev pub lens_with : Option ℕ → List Len → List Len
lens_with None lens = lens
lens_with (Some n) lens = Fixed n ∷ []

-- without a mask, then with one
abbrev pub masks_of : Branch → List Bool
masks_of Both = false ∷ true ∷ []
masks_of Inside = true ∷ []
masks_of Outside = false ∷ []

-- SVE has variants with a mask alone
abbrev pub masks_at : Isa → Branch → List Bool
masks_at B branch = masks_of branch
masks_at C branch = masks_of branch
masks_at D branch = masks_of branch
masks_at E branch = masks_of branch
masks_at N branch = masks_of branch
masks_at S branch = true ∷ []

-- the variants with a letter and a length
abbrev pub variants_with : Isa → Branch → Len → List Length
variants_with isa branch len = map (λ masked. record { isa = isa; masked = masked; len = len }) (masks_at isa branch)

-- the variants with a letter
abbrev pub variants_at : HeadTypes → SignatureTree → Isa → List Length
variants_at h s isa = flat_map (variants_with isa s.branch) (lens_with s.simdlen (lens_at isa h s))

-- the variants that a directive gives a function, in the order of their names: by letter, length and mask
unfoldable pub lengths : Target → HeadTypes → SignatureTree → List Length
lengths target h s = flat_map (variants_at h s) (letters_of target)

-- one of the vector lengths in bits that an SVE machine may have here
abbrev pub is_vector_length : ℕ → Bool
is_vector_length vl = (vl == 128) || ((vl == 256) || ((vl == 512) || ((vl == 1024) || (vl == 2048))))

-- the lanes of a fixed length; none of a scalable one, which is SVE's alone
abbrev pub fixed_lanes : Len → Option ℕ
fixed_lanes (Fixed n) = Some n
fixed_lanes Scalable = None

-- how many lanes a variant has where vectors have so many bits, none where it can't be used there: of SVE, with a fixed length,
-- where its lanes of the widest data size are not that vector
abbrev pub lanes_at : Isa → Len → (wds vl : ℕ) → Option ℕ
lanes_at S (Fixed n) wds vl = if n * wds * 8 == vl then Some n else None
lanes_at S Scalable wds vl = Some (vl / (8 * wds))
lanes_at B len wds vl = fixed_lanes len
lanes_at C len wds vl = fixed_lanes len
lanes_at D len wds vl = fixed_lanes len
lanes_at E len wds vl = fixed_lanes len
lanes_at N len wds vl = fixed_lanes len

-- a `simdlen` fits SVE: its lanes of the widest data size have 128 to 2048 bits
abbrev pub has_sve_width : Option ℕ → (wds : ℕ) → Bool
has_sve_width None wds = true
has_sve_width (Some n) wds = nat_le 128 (n * wds * 8) && nat_le (n * wds * 8) 2048
