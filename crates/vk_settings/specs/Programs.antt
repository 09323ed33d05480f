-- A program of objects and units, and a code of it that runs.
use Rattle.std.specs.Prelude.{◌≡◌, ◌≤◌, ◌^◌, Bool, length, ℕ, true, false, List, [], Some, Contains}
use Rattle.vk_types.specs.declared.types.Ty.{Ty}
use Rattle.vk_ast.specs.declared.names.NameId.{NameId}
use Rattle.vk_rules_book.specs.Scopes.{an_object}
use Rattle.vk_meaning.specs.Programs.{Definition, arrays_of, definition_of, first_point}
use Rattle.vk_code.specs.Listing.{CallSite, Listing}
use Rattle.vk_object.specs.Images.{code_of, is_image}
use Rattle.vk_object.specs.Machine.{entry_at, site_at}
use Rattle.vk_object.specs.Tables.{EntryLists, Tables}
use Rattle.vk_sites.specs.Bounds.{own_loops}
use Rattle.vk_sites.specs.Objects.{objects_of as objects_named}
use Rattle.vk_agree.specs.Agree.{IsTurnLimit, is_body}
use Rattle.vk_agree.specs.Units.{definition_in}
use Rattle.vk_joins.specs.Carries.{AreAccepted, CalleesAgree, HaveTables, Pair, objects_of, units_of}
use Rattle.vk_joins.specs.Codes.{IsCodeOf, Manner, symbols_of}
use Rattle.vk_joins.specs.Joins.{IsPlannedEntry, Joins, Planned, array_number}
use Rattle.vk_joins.specs.Links.{DoUnitsLink}
use Rattle.vk_promises.specs.Places.{TellsOf, setting_of}
use Rattle.vk_promises.specs.Settings.{IsArrayOf, Setting}

-- accepted units that link, objects that tell the same names, and a valid image that joins the objects
pub record IsProgram (ps : List Pair) (image : Tables) : Type 0 where
  pub accepted : AreAccepted ps
  pub tables : HaveTables ps
  pub links : DoUnitsLink (units_of ps)
  pub valid : is_image image ≡ true
  pub joins : Joins image (objects_of ps)

-- The entry e of the image runs a code of the function d, which the unit of the pair p defines under this name, and whose callees agree
-- with the image; it is no body of a simd loop.
pub record IsRunning (ps : List Pair) (image : Tables) (p : Pair) (text : List ℕ) (d : Definition) (manner : Manner) (e : ℕ) (x : EntryLists) (plan : Planned) : Type 0 where
  pub among : Contains ps p
  pub defined : definition_in text p.unit ≡ Some d
  pub whole : definition_of (units_of ps) text ≡ Some d
  pub callees : CalleesAgree text image (units_of ps)
  pub planned : IsPlannedEntry (objects_of ps) image e x plan
  pub object : plan.made.object ≡ p.object
  pub code : IsCodeOf (symbols_of p.object) d.unit manner (first_point d) d.body plan.made.code
  pub no_body : is_body (Some x) ≡ false

-- the definition of the function that a slot of the pair's object calls, and what the slot's row tells of it
pub record IsTold (ps : List Pair) (p : Pair) (slot : CallSite) (name : List ℕ) : Type 0 where
  pub definition : Definition
  pub is : definition_of (units_of ps) name ≡ Some definition
  pub tells : TellsOf p.object slot name definition

-- the setting of the running code
abbrev pub running_setting : List Pair → Tables → (turns : ℕ) → Definition → EntryLists → Listing → Setting
running_setting ps image turns d x code = setting_of (units_of ps) image turns d (site_at image turns (entry_at image turns 63) x code) (array_number image)

-- Of the objects of a definition that a text names, each is an array of the program, of the declared type.
abbrev pub ObjectsAreArrays : Definition → List NameId → Setting → Type 0
ObjectsAreArrays d ids t = (id : NameId) (ty : Ty) (is_array fixed : Bool) → Contains ids id → (first_point d).scope.file id ≡ Some (an_object ty is_array fixed) →
    IsArrayOf t (t.context.array id) ty is_array fixed

-- A function of the program without simd loops, with its running code. The objects that it names are arrays, which are few enough for
-- words of pointers.
pub record IsRunningAlone (ps : List Pair) (image : Tables) (turns : ℕ) (d : Definition) (x : EntryLists) (code : Listing) : Type 0 where
  pub limit : IsTurnLimit turns
  pub code_is : code_of image x ≡ Some code
  pub no_loops : own_loops d ≡ []
  pub objects : ObjectsAreArrays d (objects_named (first_point d) d.body) (running_setting ps image turns d x code)
  pub few : length (arrays_of (units_of ps)) ≤ 2 ^ 31
