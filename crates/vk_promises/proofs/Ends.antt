-- The two ends: from a setting that an image gives to the agreement of a function, and from what units mean to a setting.
use Rattle.std.proofs.Common.{◌≡◌, ℕ, Bool, true, false, List, [], ◌∷◌, Some, refl, subst, sym, ap, ◌∙◌}
use Rattle.std.proofs.lemmas.List.{append-nil}
use Rattle.vk_kinds.specs.declared.kinds.Kind.{Kind}
use Rattle.vk_rules_book.specs.Rules.{Subject}
use Rattle.vk_rules_book.specs.Scopes.{is_print, text_of}
use Rattle.vk_meaning.specs.World.{Event, Memory as Cells, World}
use Rattle.vk_meaning.specs.Data.{Datum, Value, got, nothing}
use Rattle.vk_meaning.specs.Meaning.{call_by, call_of, called_where_defined, means, print_first}
use Rattle.vk_meaning.specs.Programs.{Definition, definition_of, arrays_of}
use Rattle.vk_meaning_laws.specs.Reach.{behind_events}
use Rattle.vk_object.specs.Machine.{Called, Site, enters, enters_some, entry_at, runs, site_of}
use Rattle.vk_object.specs.Tables.{Tables}
use Rattle.vk_lane.specs.Runs.{RunsAs, RunsOnLanes}
use Rattle.vk_agree.specs.Agree.{bodies_of}
use Rattle.vk_agree.specs.Units.{param_types}
use Rattle.vk_promises.specs.Places.{setting_of}
use Rattle.vk_promises.specs.Settings.{CallsAreUniform, body_value}

-- a call means a call of the definition, whose own calls are such calls again
abbrev pub Unfolds : List Subject → (turns : ℕ) → (text : List ℕ) → Type 0
Unfolds units turns text = call_of units turns text ≡ called_where_defined units turns (call_of units turns) (definition_of units text)

-- so the body's meaning in this setting is the function's
same_meaning : (units : List Subject) (image : Tables) (turns : ℕ) (text : List ℕ) (d : Definition) (s : Site) (array : List ℕ → ℕ) → Unfolds units turns text →
    definition_of units text ≡ Some d → body_value (setting_of units image turns d s array) d ≡ means units turns text
same_meaning units image turns text d s array h e =
    λ i ds m. (sym (h ∙ ap (called_where_defined units turns (call_of units turns)) e)) i ds (record { memory = m; events = [] })

same_entry : (image : Tables) (turns e : ℕ) (s : Site) → site_of image turns (entry_at image turns 63) e ≡ Some s → enters e s ≡ runs image turns e
same_entry image turns e s h = sym (ap (enters_some e) h)

-- FROM A SETTING: what the makers of a code promise is the agreement of its entry
pub agrees_from : (units : List Subject) (image : Tables) (turns e : ℕ) (text : List ℕ) (d : Definition) (s : Site) (array : List ℕ → ℕ) → Unfolds units turns text →
    definition_of units text ≡ Some d → site_of image turns (entry_at image turns 63) e ≡ Some s →
    (let t = setting_of units image turns d s array in RunsAs t.context.arrays t.bodies (param_types d) (body_value t d) (enters e t.site)) →
    RunsAs (arrays_of units) (bodies_of image) (param_types d) (means units turns text) (runs image turns e)
agrees_from units image turns e text d s array h k site r =
    subst (λ (f : List Datum → Cells → Value). RunsAs (arrays_of units) (bodies_of image) (param_types d) f (runs image turns e)) (same_meaning units image turns text d s array h k)
    (subst (λ (c : Called). RunsAs (arrays_of units) (bodies_of image) (param_types d) (body_value (setting_of units image turns d s array) d) c) (same_entry image turns e s site) r)

pub agrees_on_lanes_from : (units : List Subject) (image : Tables) (turns e lanes : ℕ) (kinds : List Kind) (text : List ℕ) (d : Definition) (s : Site) (array : List ℕ → ℕ) → Unfolds units turns text →
    definition_of units text ≡ Some d → site_of image turns (entry_at image turns 63) e ≡ Some s →
    (let t = setting_of units image turns d s array in RunsOnLanes t.context.arrays t.bodies (param_types d) kinds (body_value t d) lanes (enters e t.site)) →
    RunsOnLanes (arrays_of units) (bodies_of image) (param_types d) kinds (means units turns text) lanes (runs image turns e)
agrees_on_lanes_from units image turns e lanes kinds text d s array h k site r =
    subst (λ (f : List Datum → Cells → Value). RunsOnLanes (arrays_of units) (bodies_of image) (param_types d) kinds f lanes (runs image turns e)) (same_meaning units image turns text d s array h k)
    (subst (λ (c : Called). RunsOnLanes (arrays_of units) (bodies_of image) (param_types d) kinds (body_value (setting_of units image turns d s array) d) lanes c) (same_entry image turns e s site) r)

-- ---- calls stand in any run

-- a call in the midst of a run does what it does from its memory
abbrev pub StandsInAnyRun : List Subject → (turns : ℕ) → Type 0
StandsInAnyRun units turns = (text : List ℕ) (ds : List Datum) (w : World) → call_of units turns text ds w ≡ behind_events w.events (means units turns text ds w.memory)

print_uniform : (ds : List Datum) (w : World) → print_first ds w ≡ behind_events w.events (print_first ds (record { memory = w.memory; events = [] }))
print_uniform [] w = ap (λ (es : List Event). got nothing (record { memory = w.memory; events = es })) (sym (append-nil w.events))
print_uniform (d ∷ ds) w = refl

pub calls_uniform : (units : List Subject) (image : Tables) (turns : ℕ) (d : Definition) (s : Site) (array : List ℕ → ℕ) → StandsInAnyRun units turns → CallsAreUniform (setting_of units image turns d s array).context
calls_uniform units image turns d s array h id ds w = at (is_print d.unit.texts id)
  where
    at : (b : Bool) → call_by (call_of units turns) b (text_of d.unit.texts id) ds w ≡ behind_events w.events (call_by (call_of units turns) b (text_of d.unit.texts id) ds (record { memory = w.memory; events = [] }))
    at true = print_uniform ds w
    at false = h (text_of d.unit.texts id) ds w
