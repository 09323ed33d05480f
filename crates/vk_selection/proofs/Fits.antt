-- How many lanes a variant has.
use Rattle.std.proofs.Common.{◌≡◌, ℕ, ◌<◌, ◌≤◌, Bool, List, true, Some, refl, arith}
use Rattle.vk_kinds.specs.declared.kinds.Isa.{Isa}
use Rattle.vk_kinds.specs.declared.kinds.Isa.TheVariants.{B, C, D, E, N, S}
use Rattle.vk_kinds.specs.declared.kinds.Len.{Len}
use Rattle.vk_kinds.specs.declared.kinds.Len.TheVariants.{Fixed, Scalable}
use Rattle.vk_kinds.specs.declared.kinds.Length.{Length}
use Rattle.vk_kinds.specs.Lengths.{fixed_lanes, lanes_at}
use Rattle.vk_names.specs.Spelling.{IsFront, IsLen}
use Rattle.vk_rules_book.specs.Signatures.{head_of}
use Rattle.vk_rules_book.specs.Rules.{Subject}
use Rattle.vk_selection.specs.Letters.{uses}
use Rattle.vk_selection.specs.Selection.{IsVector}
use Rattle.vk_selection.specs.declared.selection.Variant.{Variant}
use Rattle.vk_selection.proofs.Counts.{IsShort, front_short}

fixed_few : (len : Len) (n : ℕ) → IsShort len → fixed_lanes len ≡ Some n → n ≤ 256
fixed_few (Fixed m) n short e = let same : m ≡ n = cc in omega (arith, same, short)
fixed_few Scalable n short e = cc

lanes_few : (image isa : Isa) (len : Len) (n wds vl : ℕ) → uses image isa ≡ true → (image ≡ S → ⊥) → IsShort len → lanes_at isa len wds vl ≡ Some n → n ≤ 256
lanes_few image B len n wds vl used other short e = fixed_few len n short e
lanes_few image C len n wds vl used other short e = fixed_few len n short e
lanes_few image D len n wds vl used other short e = fixed_few len n short e
lanes_few image E len n wds vl used other short e = fixed_few len n short e
lanes_few image N len n wds vl used other short e = fixed_few len n short e
lanes_few B S len n wds vl used other short e = cc
lanes_few C S len n wds vl used other short e = cc
lanes_few D S len n wds vl used other short e = cc
lanes_few E S len n wds vl used other short e = cc
lanes_few N S len n wds vl used other short e = cc
lanes_few S S len n wds vl used other short e = absurd (other refl)

pub vector_few : (unit : Subject) (image : Isa) (vl : ℕ) (text : List ℕ) (v : Variant) (lanes : ℕ) → (image ≡ S → ⊥) → IsVector unit image vl text v lanes → lanes ≤ 256
vector_few unit image vl text v lanes other is =
    let n = is.named in
    lanes_few image v.front.isa v.front.len lanes _ vl is.used other (front_short unit.target (head_of n.tree) n.tree v.directive n.signature v.front n.directive_is n.given) is.lanes_are

fixed_some : (len : Len) (n : ℕ) (isa : Isa) (masked : Bool) → IsLen isa masked len → fixed_lanes len ≡ Some n → 0 < n
fixed_some (Fixed m) n isa masked is e = let same : m ≡ n = cc in let least = is.0 in omega (arith, same, least)
fixed_some Scalable n isa masked is e = cc

lanes_some : (image isa : Isa) (masked : Bool) (len : Len) (n wds vl : ℕ) → uses image isa ≡ true → (image ≡ S → ⊥) → IsLen isa masked len → lanes_at isa len wds vl ≡ Some n → 0 < n
lanes_some image B masked len n wds vl used other is e = fixed_some len n B masked is e
lanes_some image C masked len n wds vl used other is e = fixed_some len n C masked is e
lanes_some image D masked len n wds vl used other is e = fixed_some len n D masked is e
lanes_some image E masked len n wds vl used other is e = fixed_some len n E masked is e
lanes_some image N masked len n wds vl used other is e = fixed_some len n N masked is e
lanes_some B S masked len n wds vl used other is e = cc
lanes_some C S masked len n wds vl used other is e = cc
lanes_some D S masked len n wds vl used other is e = cc
lanes_some E S masked len n wds vl used other is e = cc
lanes_some N S masked len n wds vl used other is e = cc
lanes_some S S masked len n wds vl used other is e = absurd (other refl)

front_is : (f : Length) → IsFront f → IsLen f.isa f.masked f.len
unfolding IsFront
front_is f h = h

pub vector_some : (unit : Subject) (image : Isa) (vl : ℕ) (text : List ℕ) (v : Variant) (lanes : ℕ) → (image ≡ S → ⊥) → IsVector unit image vl text v lanes → 0 < lanes
vector_some unit image vl text v lanes other is =
    lanes_some image v.front.isa v.front.masked v.front.len lanes _ vl is.used other (front_is v.front is.named.spelled.fits.front) is.lanes_are
