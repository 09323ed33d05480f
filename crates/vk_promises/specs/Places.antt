-- The settings that an image gives to the codes of units, and its calls.
use Rattle.std.specs.Prelude.{◌≡◌, ℕ, false, true, List, slice_get, Some, Contains}
use Rattle.vk_kinds.specs.Sizes.{SignatureTree}
use Rattle.vk_rules_book.specs.Rules.{Subject}
use Rattle.vk_rules_book.specs.Scopes.{is_print, text_of}
use Rattle.vk_rules_book.specs.Signatures.{head_of}
use Rattle.vk_meaning.specs.Meaning.{call_of, context_of}
use Rattle.vk_meaning.specs.Programs.{Definition}
use Rattle.vk_code.specs.Listing.{CallSite}
use Rattle.vk_object.specs.declared.tables.EntryKind.TheVariants.{Ordinary, Scalar}
use Rattle.vk_object.specs.Images.{is_within}
use Rattle.vk_object.specs.Machine.{Site, entry_at}
use Rattle.vk_object.specs.Objects.{FunctionLists, ObjectLists}
use Rattle.vk_object.specs.Tables.{EntryLists, Tables}
use Rattle.vk_sites.specs.Calls.{CallText}
use Rattle.vk_agree.specs.Agree.{Agrees, IsEntry, IsTurnLimit, bodies_of}
use Rattle.vk_agree.specs.Units.{param_types, signatures_in}
use Rattle.vk_joins.specs.Joins.{IsTarget, Made, callee_of, goal_of}
use Rattle.vk_joins.specs.Linked.{IsLinkedSlot}
use Rattle.vk_promises.specs.Settings.{Setting, types_called}

-- the setting of a function of the units in an image: the scalar meaning of calls is that of the units
abbrev pub setting_of : List Subject → Tables → (turns : ℕ) → Definition → Site → (array : List ℕ → ℕ) → Setting
setting_of units image turns d s array = record { context = context_of units turns (call_of units turns) d; site = s; bodies = bodies_of image; array = array }

-- The caller's object tells of the callee what its definition says; of its directives it may tell none.
pub record TellsOf (o : ObjectLists) (slot : CallSite) (text : List ℕ) (f : Definition) : Type 0 where
  pub row : FunctionLists
  pub at : slice_get o.functions slot.function ≡ Some row
  pub target : o.target ≡ f.unit.target
  pub head : row.head ≡ head_of f.function
  pub signatures : (s : SignatureTree) → Contains row.directives s → Contains (signatures_in text f.unit) s

-- A call c of the text of d, the slot that its code has for it, as the object and the image have it, and the entry y with number n that
-- the image gives this slot where the code runs. The called function is f, which agrees with the image.
pub record IsLinkedCall (units : List Subject) (image : Tables) (turns : ℕ) (d : Definition) (s : Site) (c : CallText) (m : Made)
    (slot linked : CallSite) (n : ℕ) (y : EntryLists) (f : Definition) : Type 0 where
  pub limit : IsTurnLimit turns
  pub slots : IsLinkedSlot slot linked
  pub callee : callee_of m slot ≡ text_of d.unit.texts c.callee
  pub own : is_print d.unit.texts c.callee ≡ false
  pub tells : TellsOf m.object slot (text_of d.unit.texts c.callee) f
  pub types : types_called c ≡ param_types f
  pub agrees : Agrees units image (text_of d.unit.texts c.callee) f
  pub entry : IsEntry image n y
  pub within : is_within image 63 n ≡ true
  pub calls : s.calls ≡ entry_at image turns 63
  pub target : IsTarget (goal_of image) m s.entry slot y
  -- scalar code has one lane, and only an ordinary entry calls ordinary ones
  pub lanes : y.kind ≡ Ordinary → y.lanes ≡ 1
  pub lane : y.kind ≡ Scalar → y.lanes ≡ 1
  pub caller : y.kind ≡ Ordinary → s.entry.kind ≡ Ordinary
