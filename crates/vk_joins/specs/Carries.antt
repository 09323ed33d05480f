-- WHEN AN OBJECT CARRIES A UNIT, and when an image carries units.
use Rattle.std.specs.Prelude.{◌≡◌, ◌<◌, ℕ, Bool, true, List, map, length, is_some, Some, Contains}
use Rattle.vk_kinds.specs.declared.kinds.Isa.{Isa}
use Rattle.vk_rules_book.specs.Rules.{Subject}
use Rattle.vk_meaning.specs.Programs.{Definition, arrays_of, definition_of}
use Rattle.vk_object.specs.Images.{is_image}
use Rattle.vk_object.specs.Objects.{ObjectLists}
use Rattle.vk_object.specs.Tables.{Tables}
use Rattle.vk_object_format.specs.Object.{object_bytes}
use Rattle.vk_agree.specs.Agree.{AgreesIn}
use Rattle.vk_agree.specs.Units.{IsAccepted, definition_in}
use Rattle.vk_joins.specs.Codes.{HasCodes}
use Rattle.vk_joins.specs.Joins.{Joins, IsChosen, array_of_row}
use Rattle.vk_joins.specs.Links.{DoObjectsLink, DoUnitsLink, callees_of}
use Rattle.vk_joins.specs.Tables.{HasTables, trimmed_array}

-- an object and the unit that it was made of
pub record Pair : Type 0 where
  pub object : ObjectLists
  pub unit : Subject

abbrev pub objects_of : List Pair → List ObjectLists
objects_of ps = map (λ (p : Pair). p.object) ps

abbrev pub units_of : List Pair → List Subject
units_of ps = map (λ (p : Pair). p.unit) ps

-- each unit is accepted
abbrev pub AreAccepted : List Pair → Type 0
AreAccepted ps = (p : Pair) → Contains ps p → IsAccepted p.unit

-- the tables of each object are its unit's
abbrev pub HaveTables : List Pair → Type 0
HaveTables ps = (p : Pair) → Contains ps p → HasTables p.object p.unit

-- every function that this one calls agrees
abbrev pub CalleesAgree : (text : List ℕ) → Tables → List Subject → Type 0
CalleesAgree text image units = (g : List ℕ) → Contains (callees_of (definition_of units text)) g → AgreesIn g image units

-- What a unit promises of every image that joins its object with objects of other units, which it does not see: each of its functions
-- agrees where those agree that it calls.
abbrev pub KeepsAgreement : ObjectLists → Subject → Type 0
KeepsAgreement o u =
    (image : Tables) (ps : List Pair) → is_image image ≡ true → Contains ps (record { object = o; unit = u }) → AreAccepted ps → HaveTables ps →
    Joins image (objects_of ps) → DoUnitsLink (units_of ps) →
    (text : List ℕ) (d : Definition) → definition_in text u ≡ Some d → CalleesAgree text image (units_of ps) → AgreesIn text image (units_of ps)

pub record Carries (o : ObjectLists) (u : Subject) : Type 0 where
  pub tables : HasTables o u
  -- its codes are valid, call and name what the texts do, and are short
  pub codes : HasCodes o u
  pub small : length (object_bytes o) < 16777216
  pub keeps : KeepsAgreement o u

-- ---- an image

abbrev pub AllAgree : Tables → List Subject → Type 0
AllAgree image units = (text : List ℕ) → AgreesIn text image units

-- The arrays of the image are those of the units, in the same order, so a pointer names the same array on both sides. An image keeps
-- no zeros behind the last element that is not 0.
abbrev pub HasArraysOf : Tables → List Subject → Type 0
HasArraysOf image units = map array_of_row image.arrays ≡ map trimmed_array (arrays_of units)

-- the image joins objects that carry these units, has the chosen targets and numbers of lanes, and every function agrees
pub record ImageCarries (image : Tables) (units : List Subject) : Type 0 where
  pub pairs : List Pair
  pub units_are : units_of pairs ≡ units
  pub carried : (p : Pair) → Contains pairs p → Carries p.object p.unit
  pub valid : is_image image ≡ true
  pub joins : Joins image (objects_of pairs)
  pub chosen : IsChosen image (objects_of pairs)
  pub agree : AllAgree image units

-- ---- what a linker gives

-- each object carries its unit, which is accepted
abbrev pub AreCarried : List Pair → Type 0
AreCarried ps = (p : Pair) → Contains ps p → IsAccepted p.unit × Carries p.object p.unit

-- Of objects that break no rule: an image of this letter and vector length (0 without one), with a `main` where one is needed, that
-- joins the objects with the choices, and carries all accepted units that they carry.
pub record IsLinkOf (isa : Isa) (vl : ℕ) (need_main : Bool) (os : List ObjectLists) (image : Tables) : Type 0 where
  pub isa_is : image.isa ≡ isa
  pub vl_is : image.vl ≡ vl
  pub main : need_main ≡ true → is_some image.main ≡ true
  pub links : DoObjectsLink os
  pub joins : Joins image os
  pub chosen : IsChosen image os
  pub valid : is_image image ≡ true
  pub carries : (ps : List Pair) → objects_of ps ≡ os → AreCarried ps → ImageCarries image (units_of ps)
