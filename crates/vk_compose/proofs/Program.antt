-- An image that carries units runs as the units read.
use Rattle.std.proofs.Common.{◌≡◌, ℕ, zero, suc, ◌==◌, ◌&&◌, true, false, cond, Bool, List, [], ◌∷◌, ◌++◌, get_or, slice_get, codes, unwrap_or, is_some, inl, Option, Some, None, ℤ, Contains, refl, subst, sym, ap, arith, ◌∙◌}
use Rattle.std.specs.Option.{option_map}
use Rattle.std.proofs.lemmas.Bool.Decides.{Decides-eqb}
use Rattle.std.proofs.lemmas.Option.{slice_get-map}
use Rattle.vk_types.specs.declared.types.Word.{Word}
use Rattle.vk_kinds.specs.declared.heads.CType.{CType}
use Rattle.vk_rules_book.specs.Rules.{Subject}
use Rattle.vk_meaning.specs.World.{Array, no_array, Memory as Cells, first_memory as first_cells}
use Rattle.vk_meaning.specs.Data.{Value, got, halts}
use Rattle.vk_meaning.specs.Lanes.{AreTyped}
use Rattle.vk_meaning.specs.Meaning.{means, printed_numbers, reading, stop_of}
use Rattle.vk_meaning.specs.Programs.{Definition, arrays_of, definition_of}
use Rattle.vk_object.specs.declared.tables.EntryKind.TheVariants.{Ordinary}
use Rattle.vk_object.specs.Machine.{Given, first_cell, first_memory, first_word, runs}
use Rattle.vk_object.specs.Memory.{Memory, printed as prints_of}
use Rattle.vk_object.specs.Tables.{ArrayLists, EntryLists, Tables}
use Rattle.vk_lane.specs.Runs.{Bodies, EndsAlike, IsSameRun, RunsAs, events_of, one_lane}
use Rattle.vk_agree.specs.Agree.{AgreesWhereDefined, Agrees, IsEntry, IsTurnLimit, RunsAsRead, bodies_of}
use Rattle.vk_agree.specs.Units.{IsAccepted, param_types}
use Rattle.vk_joins.specs.Carries.{AreAccepted, HasArraysOf, HaveTables, ImageCarries, Pair, objects_of, units_of}
use Rattle.vk_joins.specs.Joins.{IsMain, IsScalarEntry, Joins, array_of_row}
use Rattle.vk_joins.specs.Tables.{is_empty, trimmed, trimmed_array, words_of}
use Rattle.vk_joins_laws.proofs.Accepted.{main_has_no_parameters}
use Rattle.vk_joins_laws.proofs.Arrays.{arrays_are}
use Rattle.vk_compose.proofs.Compose.{definer}
use Rattle.vk_joins_laws.proofs.Images.{IsMainEntry, main_is}
use Rattle.vk_joins_laws.proofs.Lists.{contains_map}
use Rattle.vk_compose.proofs.Plans.{entry_for, made_defined, scalar_of}

-- ---- the first memory

-- zeros that are left out are read as 0
nothing_at : (ws : List ℕ) (i : ℕ) → is_empty ws ≡ true → get_or ws i 0 ≡ 0
nothing_at [] zero h = refl
nothing_at [] (suc i) h = refl
nothing_at (w ∷ ws) i h = cc

with_first_at : (w : ℕ) (ws : List ℕ) (i : ℕ) (b c : Bool) → (w == 0) ≡ b → is_empty ws ≡ c → get_or (cond (b && c) [] (w ∷ ws)) i 0 ≡ get_or (w ∷ ws) i 0
with_first_at w ws zero true true e h = sym ((Decides-eqb w 0).0 e)
with_first_at w ws (suc i) true true e h = sym (nothing_at ws i h)
with_first_at w ws i true false e h = refl
with_first_at w ws i false c e h = refl

same_tail : (w : ℕ) (vs ws : List ℕ) (i : ℕ) → ((k : ℕ) → get_or vs k 0 ≡ get_or ws k 0) → get_or (w ∷ vs) i 0 ≡ get_or (w ∷ ws) i 0
same_tail w vs ws zero h = refl
same_tail w vs ws (suc i) h = h i

trimmed_at : (ws : List ℕ) (i : ℕ) → get_or (trimmed ws) i 0 ≡ get_or ws i 0
trimmed_at [] i = refl
trimmed_at (w ∷ ws) i = with_first_at w (trimmed ws) i (w == 0) (is_empty (trimmed ws)) refl refl ∙ same_tail w (trimmed ws) ws i (λ k. trimmed_at ws k)

word_at : (ws : List Word) (i : ℕ) → first_word (slice_get ws i) ≡ get_or (words_of ws) i 0
word_at [] zero = refl
word_at [] (suc i) = refl
word_at (w ∷ ws) zero = refl
word_at (w ∷ ws) (suc i) = word_at ws i

-- what stands at a place of a list
get_by : {X : Type 0} (xs : List X) (i : ℕ) (d : X) → get_or xs i d ≡ unwrap_or (slice_get xs i) d
get_by [] zero d = refl
get_by [] (suc i) d = refl
get_by (x ∷ xs) zero d = refl
get_by (x ∷ xs) (suc i) d = get_by xs i d

-- the word of a cell of a row
row_cell : (r : Option ArrayLists) (a : Option Array) (i : ℕ) → option_map array_of_row r ≡ option_map trimmed_array a → first_cell r i ≡ get_or (unwrap_or a no_array).given i 0
row_cell None None zero e = refl
row_cell None None (suc i) e = refl
row_cell None (Some a) i e = cc
row_cell (Some r) None i e = cc
row_cell (Some r) (Some a) i e = word_at r.elements i ∙ (ap (λ (o : Option Array). get_or (unwrap_or o no_array).given i 0) e ∙ trimmed_at a.given i)

at_place : (image : Tables) (units : List Subject) → HasArraysOf image units → (a : ℕ) → option_map array_of_row (slice_get image.arrays a) ≡ option_map trimmed_array (slice_get (arrays_of units) a)
at_place image units h a =
    sym (slice_get-map array_of_row image.arrays a) ∙ (ap (λ (xs : List Array). slice_get xs a) h ∙ slice_get-map trimmed_array (arrays_of units) a)

first_cell_is : (image : Tables) (units : List Subject) → HasArraysOf image units → (a i : ℕ) → (first_memory image).cells a i ≡ first_cells (arrays_of units) a i
first_cell_is image units h a i =
    row_cell (slice_get image.arrays a) (slice_get (arrays_of units) a) i (at_place image units h a) ∙
    ap (λ (x : Array). get_or x.given i 0) (sym (get_by (arrays_of units) a no_array))

-- ---- the run of main

ends_as : (b : Bodies) (m : Memory) (v : Value) (g : Given) → EndsAlike b m v g → g.stop 0 ≡ stop_of v
ends_as b m (got d w) g h = h.going
ends_as b m (halts x w) g h = h

same_run : (b : Bodies) (m : Memory) (v : Value) (g : Given) → prints_of m.log ≡ [] → IsSameRun b m v g → RunsAsRead v g
same_run b m v g e h = record { prints = h.prints ∙ ap (λ (zs : List ℤ). zs ++ printed_numbers (events_of v)) e; ends = ends_as b m v g h.ends }

no_arguments : (arrays : List Array) (words : ℕ → ℕ → ℕ) → AreTyped [] arrays 1 words one_lane
no_arguments arrays words = record { canonical = λ p j h k. absurd (omega (h, arith)); pointed = λ p j h k e. absurd (omega (h, arith)) }

-- a main without parameters, from the units' first memory
from_first : (units : List Subject) (image : Tables) (turns e : ℕ) (ts : List CType) → ts ≡ [] → HasArraysOf image units →
    RunsAs (arrays_of units) (bodies_of image) ts (means units turns (codes "main")) (runs image turns e) → (words : ℕ → ℕ → ℕ) →
    RunsAsRead (reading units turns) (runs image turns e one_lane words (first_memory image))
from_first units image turns e ts none arrays h words =
    same_run (bodies_of image) (first_memory image) (reading units turns) (runs image turns e one_lane words (first_memory image)) refl
    (subst (λ (c : Cells). IsSameRun (bodies_of image) (first_memory image) (means units turns (codes "main") [] c) (runs image turns e one_lane words (first_memory image)))
    (λ i a k. first_cell_is image units arrays a k i)
    (subst (λ (us : List CType). RunsAs (arrays_of units) (bodies_of image) us (means units turns (codes "main")) (runs image turns e)) none h
    (first_memory image) words (no_arguments (arrays_of units) words)))

main_of : (units : List Subject) (image : Tables) (turns e : ℕ) (x : EntryLists) (o : Option Definition) → IsTurnLimit turns → IsEntry image e x → x.kind ≡ Ordinary → x.text ≡ codes "main" →
    AgreesWhereDefined units image (codes "main") o → (d : Definition) → o ≡ Some d → RunsAs (arrays_of units) (bodies_of image) (param_types d) (means units turns (codes "main")) (runs image turns e)
main_of units image turns e x None t is kind text h d k = cc
main_of units image turns e x (Some g) t is kind text h d k =
    (let a : Agrees units image (codes "main") d = subst (λ (o : Option Definition). AgreesWhereDefined units image (codes "main") o) k h in a.ordinary turns t e x is kind text)

-- ---- the units

abbrev pub AreAcceptedUnits : List Subject → Type 0
AreAcceptedUnits units = (u : Subject) → Contains units u → IsAccepted u

accepted_pairs : (ps : List Pair) → AreAcceptedUnits (units_of ps) → AreAccepted ps
accepted_pairs ps h p k = h p.unit (contains_map (λ (q : Pair). q.unit) ps p k)

carried_arrays : (image : Tables) (units : List Subject) → AreAcceptedUnits units → ImageCarries image units → HasArraysOf image units
carried_arrays image units accepted c =
    subst (HasArraysOf image) c.units_are
    (arrays_are image c.pairs c.valid (accepted_pairs c.pairs (subst AreAcceptedUnits (sym c.units_are) accepted)) (λ p k. (c.carried p k).tables) c.joins)

main_plain : (ps : List Pair) → AreAccepted ps → (d : Definition) → definition_of (units_of ps) (codes "main") ≡ Some d → param_types d ≡ []
main_plain ps accepted d e = let x = definer ps (codes "main") d e in main_has_no_parameters x.pair.unit (accepted x.pair x.among) d x.defines

carried_main : (image : Tables) (units : List Subject) → AreAcceptedUnits units → ImageCarries image units → (d : Definition) → definition_of units (codes "main") ≡ Some d → param_types d ≡ []
carried_main image units accepted c d e =
    main_plain c.pairs (accepted_pairs c.pairs (subst AreAcceptedUnits (sym c.units_are) accepted)) d
    (subst (λ (us : List Subject). definition_of us (codes "main") ≡ Some d) (sym c.units_are) e)

-- the function of the entry `main` is defined
main_defined : (image : Tables) (ps : List Pair) → AreAccepted ps → HaveTables ps → Joins image (objects_of ps) → (e : ℕ) (x : EntryLists) → IsEntry image e x → x.kind ≡ Ordinary → x.text ≡ codes "main" →
    is_some (definition_of (units_of ps) (codes "main")) ≡ true
main_defined image ps accepted tables joins e x is kind text =
    let f = entry_for image (objects_of ps) joins e x is in
    let p = scalar_of image (objects_of ps) e x f (inl kind) in
    subst (λ (t : List ℕ). is_some (definition_of (units_of ps) t) ≡ true) (sym p.text ∙ (sym f.planned.is.text ∙ text)) (made_defined ps accepted tables f.plan.made f.made)

-- THE PROGRAM: where an image carries accepted units, its main prints and ends as the units' reading
pub runs_as_read : (image : Tables) (units : List Subject) → AreAcceptedUnits units → ImageCarries image units → (e : ℕ) → image.main ≡ Some e → (turns : ℕ) → IsTurnLimit turns → (words : ℕ → ℕ → ℕ) →
    RunsAsRead (reading units turns) (runs image turns e one_lane words (first_memory image))
runs_as_read image units accepted c e main turns t words = at (definition_of units (codes "main")) refl there
  where
    m : IsMainEntry image e
    m = main_is image c.valid e main

    z : IsScalarEntry (codes "main") m.x
    z = (let y : IsMain image (Some e) = subst (IsMain image) main c.joins.main in y m.x m.is)

    there : is_some (definition_of units (codes "main")) ≡ true
    there = subst (λ (us : List Subject). is_some (definition_of us (codes "main")) ≡ true) c.units_are
        (main_defined image c.pairs (accepted_pairs c.pairs (subst AreAcceptedUnits (sym c.units_are) accepted)) (λ p k. (c.carried p k).tables) c.joins e m.x m.is m.kind z.named)

    at : (o : Option Definition) → definition_of units (codes "main") ≡ o → is_some o ≡ true → RunsAsRead (reading units turns) (runs image turns e one_lane words (first_memory image))
    at None is k = cc
    at (Some d) is k =
        from_first units image turns e (param_types d) (carried_main image units accepted c d is) (carried_arrays image units accepted c)
        (main_of units image turns e m.x (definition_of units (codes "main")) t m.is m.kind z.named (c.agree (codes "main")) d is) words
