-- An image gives a setting of the makers' promises to each code without simd loops, so what they promise is agreement.
use Rattle.std.proofs.Common.{◌≡◌, ◌≤◌, ◌^◌, length, ◌<◌, ℕ, zero, suc, List, [], ◌∷◌, map, slice_get, Option, Some, None, refl, sym, ap, ◌∙◌, ℤ}
use Rattle.std.specs.Option.{option_and_then, option_map}
use Rattle.std.proofs.lemmas.Simd.{map-map}
use Rattle.vk_kinds.specs.Sizes.{SignatureTree}
use Rattle.vk_rules_book.specs.Rules.{Subject}
use Rattle.vk_rules_book.specs.Scopes.{text_of}
use Rattle.vk_meaning.specs.World.{printed}
use Rattle.vk_meaning.specs.Meaning.{means}
use Rattle.vk_meaning.specs.Programs.{Definition, arrays_of, first_point}
use Rattle.vk_code.specs.Listing.{Listing}
use Rattle.vk_object.specs.Images.{code_of}
use Rattle.vk_object.specs.Machine.{Site, entry_at, runs, site_at, site_of}
use Rattle.vk_object.specs.Tables.{EntryLists, Tables}
use Rattle.vk_lane.specs.Places.{extent_of}
use Rattle.vk_lane.specs.Runs.{RunsAs, RunsOnLanes}
use Rattle.vk_sites.specs.Bounds.{own_loops}
use Rattle.vk_sites.specs.Loops.{LoopText}
use Rattle.vk_sites.specs.Objects.{objects_of}
use Rattle.vk_agree.specs.Agree.{IsTurnLimit, bodies_of, calls_for, is_body}
use Rattle.vk_agree.specs.Units.{IsAccepted, kinds_of, param_types}
use Rattle.vk_joins.specs.Carries.{HasArraysOf, Pair, units_of}
use Rattle.vk_joins.specs.Codes.{Manner, symbols_of}
use Rattle.vk_joins.specs.Joins.{Planned, array_number, array_of_row}
use Rattle.vk_joins.specs.Tables.{trimmed_array}
use Rattle.vk_joins_laws.proofs.Arrays.{arrays_are}
use Rattle.vk_promises.specs.Codes.{IsClosed}
use Rattle.vk_promises.specs.Makers.{IsLaneCode, IsLocal, IsScalarCode, IsSetting}
use Rattle.vk_promises.specs.Places.{setting_of}
use Rattle.vk_promises.specs.Settings.{HasObjects, IsMachine, RunsCode, Setting}
use Rattle.vk_promises.proofs.Ends.{StandsInAnyRun, Unfolds, agrees_from, agrees_on_lanes_from, calls_uniform}
use Rattle.vk_settings.specs.Programs.{IsProgram, IsRunning, ObjectsAreArrays}
use Rattle.vk_settings.proofs.Numbers.{arrays_short, numbers_are}
use Rattle.vk_settings.proofs.Sound.{AreTyped}
use Rattle.vk_settings.proofs.Calls.{calls_are_right, linked}

-- no body is called for a printed number
none_printed : (image : Tables) (x : Option EntryLists) (z : ℤ) → calls_for image x (printed z) ≡ 0
none_printed image None z = refl
none_printed image (Some x) z = refl

no_loop : (ls : List LoopText) (k : ℕ) (l : LoopText) → ls ≡ [] → slice_get ls k ≡ Some l → ⊥
no_loop [] zero l e h = cc
no_loop [] (suc k) l e h = cc
no_loop (x ∷ xs) k l e h = cc

module _ (ps : List Pair) (image : Tables) (program : IsProgram ps image) (typed : (v : Subject) → IsAccepted v → AreTyped v) (p : Pair) (text : List ℕ) (d : Definition) (manner : Manner) (e : ℕ) (x : EntryLists) (plan : Planned)
    (running : IsRunning ps image p text d manner e x plan) (turns : ℕ) (limit : IsTurnLimit turns) (code : Listing) (code_is : code_of image x ≡ Some code) where
  abbrev site : Site
  site = site_at image turns (entry_at image turns 63) x code

  abbrev own_setting : Setting
  own_setting = setting_of (units_of ps) image turns d site (array_number image)

  machine : IsMachine own_setting
  machine = record {
    extents = sym (map-map extent_of array_of_row image.arrays) ∙
        (ap (map extent_of) (arrays_are image ps program.valid program.accepted program.tables program.joins) ∙ map-map extent_of trimmed_array (arrays_of (units_of ps)));
    turns = refl;
    limit = limit;
  }

  runs_code : RunsCode (symbols_of p.object) plan.made.code own_setting e
  runs_code = record {
    code = linked ps image program typed p text d manner e x plan running turns limit code code_is;
    no_body = ap is_body running.planned.entry ∙ running.no_body;
  }

  site_is : site_of image turns (entry_at image turns 63) e ≡ Some site
  site_is =
      ap (option_and_then (λ (y : EntryLists). option_map (site_at image turns (entry_at image turns 63) y) (code_of image y))) running.planned.entry ∙
      ap (option_map (site_at image turns (entry_at image turns 63) x)) code_is

  arrays : HasArraysOf image (units_of ps)
  arrays = arrays_are image ps program.valid program.accepted program.tables program.joins

  pub has_objects : ObjectsAreArrays d (objects_of (first_point d) d.body) own_setting → length (arrays_of (units_of ps)) ≤ 2 ^ 31 → HasObjects d (objects_of (first_point d) d.body) own_setting
  has_objects objects few = record {
    numbers = λ id. numbers_are image (units_of ps) arrays (text_of d.unit.texts id);
    objects = objects;
    few = few;
    short = arrays_short image (units_of ps) program.valid arrays;
  }

  module _ (no_loops : own_loops d ≡ []) (objects : HasObjects d (objects_of (first_point d) d.body) own_setting) (any_run : StandsInAnyRun (units_of ps) turns) where
    setting_is : IsSetting d (symbols_of p.object) plan.made.code own_setting e
    setting_is = record {
      machine = machine;
      objects = objects;
      text = refl;
      result = refl;
      uniform = calls_uniform (units_of ps) image turns d site (array_number image) any_run;
      runs = runs_code;
      calls = calls_are_right ps image program typed p text d manner e x plan running turns limit code code_is;
      loops = λ k l h. absurd (no_loop (own_loops d) k l no_loops h);
      prints = λ other z. none_printed image (slice_get image.entries other) z;
    }

    module _ (unfolds : Unfolds (units_of ps) turns text) where
      pub ordinary_agrees : (opened : Listing) → IsScalarCode (symbols_of p.object) d [] opened → IsClosed (own_loops d) opened plan.made.code → x.lanes ≡ 1 →
          RunsAs (arrays_of (units_of ps)) (bodies_of image) (param_types d) (means (units_of ps) turns text) (runs image turns e)
      ordinary_agrees opened made closed one =
          agrees_from (units_of ps) image turns e text d site (array_number image) unfolds running.whole site_is (made.runs refl plan.made.code closed own_setting e setting_is one)

      pub scalar_agrees : (s : SignatureTree) (ss : List SignatureTree) (opened : Listing) → IsScalarCode (symbols_of p.object) d (s ∷ ss) opened → IsClosed (own_loops d) opened plan.made.code → IsLocal d own_setting → x.lanes ≡ 1 →
          RunsOnLanes (arrays_of (units_of ps)) (bodies_of image) (param_types d) [] (means (units_of ps) turns text) 1 (runs image turns e)
      scalar_agrees s ss opened made closed local one =
          agrees_on_lanes_from (units_of ps) image turns e 1 [] text d site (array_number image) unfolds running.whole site_is (made.runs_on_lane some plan.made.code closed own_setting e setting_is local one)
        where
          some : (s ∷ ss) ≡ [] → ⊥
          some h = cc

      pub lanes_agree : (s : SignatureTree) → IsLaneCode (symbols_of p.object) d s plan.made.code → IsLocal d own_setting → 0 < x.lanes →
          RunsOnLanes (arrays_of (units_of ps)) (bodies_of image) (param_types d) (kinds_of s) (means (units_of ps) turns text) x.lanes (runs image turns e)
      lanes_agree s made local some =
          agrees_on_lanes_from (units_of ps) image turns e x.lanes (kinds_of s) text d site (array_number image) unfolds running.whole site_is (made.runs own_setting e setting_is local some)
