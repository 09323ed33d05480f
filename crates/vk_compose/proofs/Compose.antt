-- Objects that carry units, linked, carry the units: every function agrees with the image, by the order of calls.
use Rattle.std.proofs.Common.{◌≡◌, ℕ, zero, suc, ◌≤◌, true, List, [], ◌∷◌, map, length, Option, Some, None, refl, subst, sym, ap, arith, ◌∙◌, Contains}
use Rattle.std.specs.Option.{option_or}
use Rattle.vk_meaning.specs.Programs.{Definition, definition_of}
use Rattle.vk_meaning_terms.specs.Depth.{IsShallow}
use Rattle.vk_object.specs.Images.{is_image}
use Rattle.vk_object.specs.Tables.{Tables}
use Rattle.vk_agree.specs.Agree.{AgreesIn, AgreesWhereDefined}
use Rattle.vk_agree.specs.Units.{definition_in, first_of}
use Rattle.vk_joins.specs.Carries.{Pair, objects_of, units_of, AreAccepted, AreCarried, HaveTables, CalleesAgree, AllAgree}
use Rattle.vk_joins.specs.Joins.{Joins}
use Rattle.vk_joins.specs.Links.{Table, CallsIn, IsChainFrom, table_of_unit, callees_of, DoUnitsLink}
use Rattle.vk_compose.proofs.Chains.{callees_by_name}
use Rattle.vk_joins_laws.proofs.Lists.{contains_map, Found, found}

-- ---- who defines a function

-- the pair whose unit has the definition that the units have of a name
pub record Definer (ps : List Pair) (text : List ℕ) (d : Definition) : Type 0 where
  pub pair : Pair
  pub among : Contains ps pair
  pub defines : definition_in text pair.unit ≡ Some d

look_up : (text : List ℕ) → Pair → Option Definition
look_up text p = definition_in text p.unit

look_up_is : (ps : List Pair) (text : List ℕ) → definition_of (units_of ps) text ≡ first_of (look_up text) ps
unfolding look_up
look_up_is [] text = refl
look_up_is (p ∷ ps) text = ap (option_or (definition_in text p.unit)) (look_up_is ps text)

definer_found : (ps : List Pair) (text : List ℕ) (d : Definition) → Found (look_up text) ps d → Definer ps text d
unfolding look_up
definer_found ps text d f = record { pair = f.of; among = f.among; defines = f.is }

pub definer : (ps : List Pair) (text : List ℕ) (d : Definition) → definition_of (units_of ps) text ≡ Some d → Definer ps text d
definer ps text d h = definer_found ps text d (found (look_up text) ps d (sym (look_up_is ps text) ∙ h))

-- ---- chains are short

-- the tables of the units
abbrev pub tables_of : List Pair → List Table
tables_of ps = map table_of_unit (units_of ps)

pub table_in : (ps : List Pair) (p : Pair) → Contains ps p → Contains (tables_of ps) (table_of_unit p.unit)
table_in ps p h = contains_map table_of_unit (units_of ps) p.unit (contains_map (λ (q : Pair). q.unit) ps p h)

abbrev AreShort : List Pair → ℕ → (f : List ℕ) → Type 0
AreShort ps n f = (gs : List (List ℕ)) → IsChainFrom (tables_of ps) f gs → length (f ∷ gs) ≤ n

shorter : (ps : List Pair) (n : ℕ) (f g : List ℕ) → AreShort ps (suc n) f → CallsIn (tables_of ps) f g → AreShort ps n g
shorter ps n f g h c gs k = omega (h (g ∷ gs) (c, k), arith)

-- a callee's name is called by the table of the unit that defines the caller
calls_of_definer : (ps : List Pair) (f g : List ℕ) (d : Definition) → Definer ps f d → Contains (callees_of (Some d)) g → CallsIn (tables_of ps) f g
calls_of_definer ps f g d x h =
    (table_of_unit x.pair.unit, table_in ps x.pair x.among, subst (λ (o : Option Definition). Contains (callees_of o) g) (sym x.defines) h)

called_by : (ps : List Pair) (f g : List ℕ) (o : Option Definition) → definition_of (units_of ps) f ≡ o → Contains (callees_of o) g → CallsIn (tables_of ps) f g
called_by ps f g None e k = absurd (omega (k.1, arith))
called_by ps f g (Some d) e k = calls_of_definer ps f g d (definer ps f d e) k

-- so no chain of scalar calls is longer
shallow_within : (ps : List Pair) (n : ℕ) (f : List ℕ) → AreShort ps n f → IsShallow n (units_of ps) f
shallow_within ps zero f h = absurd (omega (h [] tt, arith))
shallow_within ps (suc n) f h =
    callees_by_name (IsShallow n (units_of ps)) (definition_of (units_of ps) f)
    (λ g k. shallow_within ps n g (shorter ps n f g h (called_by ps f g (definition_of (units_of ps) f) refl k)))

-- where units link
pub shallow : (ps : List Pair) → DoUnitsLink (units_of ps) → (f : List ℕ) → IsShallow 32 (units_of ps) f
shallow ps links f = shallow_within ps 32 f (links.chains f)

-- ---- every function agrees

accepted_of : (ps : List Pair) → AreCarried ps → AreAccepted ps
accepted_of ps h p k = (h p k).0

tables_of_carried : (ps : List Pair) → AreCarried ps → HaveTables ps
tables_of_carried ps h p k = (h p k).1.tables

module _ (ps : List Pair) (image : Tables) (valid : is_image image ≡ true) (carried : AreCarried ps) (joins : Joins image (objects_of ps)) (links : DoUnitsLink (units_of ps)) where
  agrees_if : (text : List ℕ) (o : Option Definition) → definition_of (units_of ps) text ≡ o → CalleesAgree text image (units_of ps) → AgreesIn text image (units_of ps)
  agrees_if text None e h = subst (AgreesWhereDefined (units_of ps) image text) (sym e) tt
  agrees_if text (Some d) e h =
      let x = definer ps text d e in
      (carried x.pair x.among).1.keeps image ps valid x.among (accepted_of ps carried) (tables_of_carried ps carried) joins links text d x.defines h

  agrees_by_depth : (n : ℕ) (text : List ℕ) → AreShort ps n text → AgreesIn text image (units_of ps)
  agrees_by_depth zero text h = absurd (omega (h [] tt, arith))
  agrees_by_depth (suc n) text h =
      agrees_if text (definition_of (units_of ps) text) refl
      (λ g k. agrees_by_depth n g (shorter ps n text g h (called_by ps text g (definition_of (units_of ps) text) refl k)))

-- THE COMPOSITION: an image that joins objects which carry accepted units that link agrees with every function of the units
pub composes : (ps : List Pair) (image : Tables) → is_image image ≡ true → AreCarried ps → Joins image (objects_of ps) → DoUnitsLink (units_of ps) → AllAgree image (units_of ps)
composes ps image valid carried joins links text = agrees_by_depth ps image valid carried joins links 32 text (links.chains text)
