-- The tables of an object whose numbers are in range keep all conditions of the format.
use Rattle.std.proofs.Common.{◌≡◌, ℕ, ◌+◌, ◌^◌, ◌<◌, Bool, true, false, not, ◌&&◌, ◌||◌, cond, List, [], ◌∷◌, ◌++◌, length, map, Option, Some, None, Ok, refl, sym, ap, ap₂, ◌∙◌, subst, arith}
use Rattle.std.specs.Prelude.{nat_lt}
use Rattle.std.specs.List.{list_all, range_with_len}
use Rattle.std.specs.Option.{option_map}
use Rattle.std.proofs.lemmas.List.{length-map}
use Rattle.vk_code.proofs.Faults.{and_left, and_right}
use Rattle.vk_code.specs.declared.code.Shape.{Shape}
use Rattle.vk_code.specs.declared.code.Shape.TheVariants as shape
use Rattle.vk_code.specs.Listing.{CallSite, Listing, LoopBody, own, numbered, SimdSite}
use Rattle.vk_code.specs.Tests.{all_good, first_bad}
use Rattle.vk_code.specs.Valid.{verdicts}
use Rattle.vk_object.specs.Objects.{CodeLists, DataLists, FunctionLists, ObjectLists, are_codes, data_before, function_before, has_good_codes, has_types, is_code_for, is_data, is_function, is_object, is_simd, is_symbol, is_used_once, names_of}
use Rattle.vk_object.specs.Texts.{ascend, is_before}
use Rattle.vk_format.specs.declared.rules.ObjectFault.{ObjectFault}
use Rattle.vk_format.specs.declared.rules.ObjectRule.TheVariants.{O6, O9}
use Rattle.vk_format.specs.Codec.{FitAfter, number}
use Rattle.vk_format.specs.Format.{fault, judge}
use Rattle.vk_format.proofs.Inverse.{whole_reads}
use Rattle.vk_code_format.specs.Fields.{first_along, or_else, unless}
use Rattle.vk_code_format.specs.Places.{code_length, part_at}
use Rattle.vk_code_format.specs.Values.{bad_part, body_has_places, code_row, earlier, has_place, has_places, listing_of, places_verdicts}
use Rattle.vk_object_format.specs.declared.rows.RawFunction.{RawFunction}
use Rattle.vk_object_format.specs.declared.rows.RawData.{RawData}
use Rattle.vk_object_format.specs.declared.rows.RawObject.{RawObject}
use Rattle.vk_object_format.specs.Object.{IsObject, bad_part_of, code_fault, codes_in, front_length, function, function_fault, function_length, functions_at, member, object_bytes, object_faults, object_format, object_table, place_in, symbol, symbol_fault, symbol_length, symbols_at, table_bytes}
use Rattle.vk_object_format.specs.Values.{data_of, function_of, object_of, raw_codes, raw_data, raw_function, raw_object}
use Rattle.vk_object_format.proofs.Inverse.{object_law}
use Rattle.vk_object_laws.specs.Ranges.{arg_in_range, body_in_range, call_in_range, code_in_range, codes_in_range, data_in_range, directive_in_range, function_in_range, instr_in_range, is_in_range, loop_in_range, routine_in_range, shape_in_range}
use Rattle.vk_object_laws.proofs.Lists.{and_true}
use Rattle.vk_object_laws.proofs.FitCodes.{again_each, all_both, code_same}
use Rattle.vk_object_laws.proofs.FitRows.{data_fit, function_fit, function_same, is_whole, symbol_fit}
use Rattle.vk_object_laws.proofs.Fitting.{fit_in_order, fit_made, lt_of, many_fits, target_fits}

-- ---- codes have no bad part

all_where : {A : Type 0} (p q : A → Bool) → ((x : A) → p x ≡ true → q x ≡ true) → (xs : List A) → list_all p xs ≡ true → list_all q xs ≡ true
all_where p q each [] h = refl
all_where p q each (x ∷ xs) h = and_true (q x) (list_all q xs) (each x (and_left (p x) (list_all p xs) h)) (all_where p q each xs (and_right (p x) (list_all p xs) h))

good_map : {A : Type 0} (p : A → Bool) (xs : List A) → list_all p xs ≡ true → all_good (map p xs) ≡ true
good_map p [] h = refl
good_map p (x ∷ xs) h = and_true _ _ (and_left (p x) (list_all p xs) h) (good_map p xs (and_right (p x) (list_all p xs) h))

good_both : (xs ys : List Bool) → all_good xs ≡ true → all_good ys ≡ true → all_good (xs ++ ys) ≡ true
good_both [] ys h k = k
good_both (x ∷ xs) ys h k = and_true _ _ (and_left x (all_good xs) h) (good_both xs ys (and_right x (all_good xs) h) k)

none_bad : (vs : List Bool) → all_good vs ≡ true → first_bad vs ≡ None
none_bad [] h = refl
none_bad (v ∷ vs) h =
    ap (λ b. cond b (option_map (λ n. n + 1) (first_bad vs)) (Some 0)) (and_left v (all_good vs) h) ∙ ap (option_map (λ n. n + 1)) (none_bad vs (and_right v (all_good vs) h))

shape_place : (reg : ℕ) (s : Shape) → shape_in_range s ≡ true → has_place (record { reg = reg; shape = s }) ≡ true
shape_place reg shape.Vector h = refl
shape_place reg shape.Uniform h = refl
shape_place reg (shape.By n) h = refl
shape_place reg (shape.Along p) h = h
shape_place reg (shape.Literal n) h = refl
shape_place reg (shape.Same p) h = h

call_places : (s : CallSite) → call_in_range s ≡ true → has_places s ≡ true
call_places s h = all_where arg_in_range has_place (λ a. shape_place a.reg a.shape) s.args h

body_places : (b : LoopBody) → body_in_range b ≡ true → body_has_places b ≡ true
body_places (own r) h = all_where call_in_range has_places call_places r.slots (and_left (list_all call_in_range r.slots) (list_all instr_in_range r.instrs) h)
body_places (numbered n) h = refl

code_places : (c : Listing) → code_in_range c ≡ true → all_good (places_verdicts c) ≡ true
code_places c h =
    let both = and_left (routine_in_range c.routine && list_all loop_in_range c.loops) _ h in
    let calls = and_left (list_all call_in_range c.routine.slots) (list_all instr_in_range c.routine.instrs) (and_left (routine_in_range c.routine) (list_all loop_in_range c.loops) both) in
    let loops = and_right (routine_in_range c.routine) (list_all loop_in_range c.loops) both in
    good_both (map has_places c.routine.slots) (map (λ (l : SimdSite). body_has_places l.body) c.loops)
    (good_map has_places c.routine.slots (all_where call_in_range has_places call_places c.routine.slots calls))
    (good_map (λ (l : SimdSite). body_has_places l.body) c.loops (all_where loop_in_range (λ l. body_has_places l.body) (λ l. body_places l.body) c.loops loops))

-- ---- no member has a fault

along_none : {A B : Type 0} (size : A → ℕ) (faults : ℕ → ℕ → A → Option ObjectFault) (g : B → A) (p : B → Bool) → ((n at : ℕ) (y : B) → p y ≡ true → faults n at (g y) ≡ None)
    → (n at : ℕ) (ys : List B) → list_all p ys ≡ true → first_along size faults n at (map g ys) ≡ None
along_none size faults g p each n at [] h = refl
along_none size faults g p each n at (y ∷ ys) h =
    ap₂ or_else (each n at y (and_left (p y) (list_all p ys) h)) (along_none size faults g p each (n + 1) (at + size (g y)) ys (and_right (p y) (list_all p ys) h))

used_none : (o : RawObject) (n at : ℕ) (ts : List (List ℕ)) → list_all (is_used_once (object_of o)) (range_with_len n (length ts)) ≡ true → first_along symbol_length (symbol_fault o) n at ts ≡ None
used_none o n at [] h = refl
used_none o n at (t ∷ ts) h =
    ap₂ or_else (ap (λ b. unless b (fault at O6)) (and_left (is_used_once (object_of o) n) (list_all (is_used_once (object_of o)) (range_with_len (n + 1) (length ts))) h))
    (used_none o (n + 1) (at + symbol_length t) ts (and_right (is_used_once (object_of o) n) (list_all (is_used_once (object_of o)) (range_with_len (n + 1) (length ts))) h))

module _ (o : ObjectLists) (good : is_object o ≡ true) (range : is_in_range o ≡ true) where
  -- ---- what an object has, in parts

  sorted : (list_all is_symbol o.symbols && ascend is_before o.symbols && list_all (is_data o) o.objects && ascend data_before o.objects && list_all (is_function o) o.functions && ascend function_before o.functions) ≡ true
  sorted = and_left _ (list_all (is_used_once o) (range_with_len 0 (length o.symbols))) (and_left _ (list_all (has_good_codes o) o.functions) good)

  used : list_all (is_used_once o) (range_with_len 0 (length o.symbols)) ≡ true
  used = and_right _ (list_all (is_used_once o) (range_with_len 0 (length o.symbols))) (and_left _ (list_all (has_good_codes o) o.functions) good)

  coded : list_all (has_good_codes o) o.functions ≡ true
  coded = and_right _ (list_all (has_good_codes o) o.functions) good

  to_functions : (list_all is_symbol o.symbols && ascend is_before o.symbols && list_all (is_data o) o.objects && ascend data_before o.objects && list_all (is_function o) o.functions) ≡ true
  to_functions = and_left _ (ascend function_before o.functions) sorted

  to_objects : (list_all is_symbol o.symbols && ascend is_before o.symbols && list_all (is_data o) o.objects) ≡ true
  to_objects = and_left _ (ascend data_before o.objects) (and_left _ (list_all (is_function o) o.functions) to_functions)

  to_symbols : (list_all is_symbol o.symbols && ascend is_before o.symbols) ≡ true
  to_symbols = and_left _ (list_all (is_data o) o.objects) to_objects

  data_ascend : ascend data_before o.objects ≡ true
  data_ascend = and_right _ (ascend data_before o.objects) (and_left _ (list_all (is_function o) o.functions) to_functions)

  counted : (nat_lt (length o.symbols) (2 ^ 32) && nat_lt (length o.objects) (2 ^ 32) && nat_lt (length o.functions) (2 ^ 32)) ≡ true
  counted = and_left _ (list_all data_in_range o.objects) (and_left _ (list_all function_in_range o.functions) range)

  symbols_few : length o.symbols < 2 ^ 32
  symbols_few = lt_of (length o.symbols) (2 ^ 32) (and_left (nat_lt (length o.symbols) (2 ^ 32)) (nat_lt (length o.objects) (2 ^ 32)) (and_left _ (nat_lt (length o.functions) (2 ^ 32)) counted))

  objects_few : length o.objects < 2 ^ 32
  objects_few = lt_of (length o.objects) (2 ^ 32) (and_right (nat_lt (length o.symbols) (2 ^ 32)) (nat_lt (length o.objects) (2 ^ 32)) (and_left _ (nat_lt (length o.functions) (2 ^ 32)) counted))

  functions_few : length o.functions < 2 ^ 32
  functions_few = lt_of (length o.functions) (2 ^ 32) (and_right _ (nat_lt (length o.functions) (2 ^ 32)) counted)

  all_data : list_all (λ d. data_in_range d && is_data o d) o.objects ≡ true
  all_data =
      all_both data_in_range (is_data o) o.objects (and_right _ (list_all data_in_range o.objects) (and_left _ (list_all function_in_range o.functions) range))
      (and_right _ (list_all (is_data o) o.objects) to_objects)

  all_whole : list_all (is_whole o symbols_few functions_few) o.functions ≡ true
  all_whole =
      all_both (λ f. function_in_range f && is_function o f) (has_good_codes o) o.functions
      (all_both function_in_range (is_function o) o.functions (and_right _ (list_all function_in_range o.functions) range) (and_right _ (list_all (is_function o) o.functions) to_functions))
      coded

  -- ---- the tables stand for the object

  pub object_same : object_of (raw_object o) ≡ o
  object_same =
      ap₂ (λ (ds : List DataLists) (fs : List FunctionLists). record { target = o.target; symbols = o.symbols; objects = ds; functions = fs })
      (again_each data_of raw_data (λ d. data_in_range d && is_data o d) (λ d h. refl) o.objects all_data)
      (again_each function_of raw_function (is_whole o symbols_few functions_few) (function_same o symbols_few functions_few) o.functions all_whole)

  -- ---- the fields fit

  functions_fit : FitAfter (function {R = RawObject} o.target (length o.symbols) (length o.functions)) [] (map raw_function o.functions)
  functions_fit =
      fit_made (function {R = RawObject} o.target (length o.symbols) (length o.functions)) raw_function (is_whole o symbols_few functions_few) (λ (x : RawFunction). x.symbol) nat_lt
      (λ before f h behind. function_fit o symbols_few functions_few f h before behind) o.functions all_whole (and_right _ (ascend function_before o.functions) sorted)

  tables_fit : (object_table {R = RawObject}).fits (raw_object o)
  tables_fit = (
    (
      tt,
      (
        (
          (omega arith, refl),
          (
            target_fits o.target,
            (
              (
                (omega arith, refl),
                (
                  many_fits (number 4) (λ n. symbol) o.symbols symbols_few
                      (fit_in_order (symbol {R = RawObject}) is_symbol (λ t. t) is_before symbol_fit o.symbols (and_left (list_all is_symbol o.symbols) (ascend is_before o.symbols) to_symbols) (and_right (list_all is_symbol o.symbols) (ascend is_before o.symbols) to_symbols)),
                  (
                    many_fits (number 4) (λ n. member (length o.symbols)) (map raw_data o.objects) (omega (arith, objects_few, length-map o.objects raw_data))
                        (fit_made (member {R = RawObject} (length o.symbols)) raw_data (λ d. data_in_range d && is_data o d) (λ (x : RawData). x.symbol) nat_lt (data_fit o symbols_few) o.objects all_data data_ascend),
                    (
                      many_fits (number 4) (λ n. function o.target (length o.symbols) n) (map raw_function o.functions) (omega (arith, functions_few, length-map o.functions raw_function))
                          (subst (λ n. FitAfter (function {R = RawObject} o.target (length o.symbols) n) [] (map raw_function o.functions)) (sym (length-map o.functions raw_function)) functions_fit),
                      refl,
                    ),
                  ),
                ),
              ),
              refl,
            ),
          ),
        ),
        refl,
      ),
    ),
    refl,
  )

  -- ---- no condition over the tables is broken

  module _ (f : FunctionLists) (h : is_whole o symbols_few functions_few f ≡ true) where
    codes_range : codes_in_range f.codes ≡ true
    codes_range = and_right (list_all directive_in_range f.directives) (codes_in_range f.codes) (and_left (function_in_range f) (is_function o f) (and_left (function_in_range f && is_function o f) (has_good_codes o f) h))

    codes_are : are_codes o f f.codes ≡ true
    codes_are = and_right (function_in_range f && is_function o f) (has_good_codes o f) h

    abbrev part_of : ObjectLists → FunctionLists → Listing → Bool → Option ℕ
    part_of p g c lane = cond (has_types g.head c && (not (is_simd g) || lane)) (bad_part (names_of p) c) (Some 0)

    lane_where : (simd asked lane : Bool) → (simd ≡ true → asked ≡ true) → (not asked || lane) ≡ true → (not simd || lane) ≡ true
    lane_where false asked lane to h = refl
    lane_where true asked lane to h = subst (λ b. (not b || lane) ≡ true) (to refl) h

    no_part : (asked : Bool) (c : Listing) → (is_simd f ≡ true → asked ≡ true) → code_in_range c ≡ true → is_code_for o f asked c ≡ true
        → bad_part_of (object_of (raw_object o)) (function_of (raw_function f)) (code_row c) ≡ None
    no_part asked c to within fine =
        let all = and_right (has_types f.head c && (not asked || c.routine.lane_code)) (all_good (verdicts (names_of o) c)) fine in
        let front = and_left (has_types f.head c && (not asked || c.routine.lane_code)) (all_good (verdicts (names_of o) c)) fine in
        let typed = and_left (has_types f.head c) (not asked || c.routine.lane_code) front in
        let lanes = lane_where (is_simd f) asked c.routine.lane_code to (and_right (has_types f.head c) (not asked || c.routine.lane_code) front) in
        ap (λ p. part_of p (function_of (raw_function f)) (listing_of (code_row c)) c.routine.lane_code) object_same
        ∙ ap₂ (λ g x. part_of o g x c.routine.lane_code) (function_same o symbols_few functions_few f h) (code_same o functions_few c all within)
        ∙ ap (λ b. cond b (bad_part (names_of o) c) (Some 0)) (and_true (has_types f.head c) (not (is_simd f) || c.routine.lane_code) typed lanes)
        ∙ ap₂ earlier (none_bad (places_verdicts c) (code_places c within)) (none_bad (verdicts (names_of o) c) all)

    no_fault : (asked : Bool) → (is_simd f ≡ true → asked ≡ true) → (n at : ℕ) (c : Listing) → (code_in_range c && is_code_for o f asked c) ≡ true → code_fault (raw_object o) (raw_function f) n at (code_row c) ≡ None
    no_fault asked to n at c fine =
        ap (option_map (λ part. fault (at + part_at (place_in (raw_object o) (raw_function f)) (code_row c) part) O9))
        (no_part asked c to (and_left (code_in_range c) (is_code_for o f asked c) fine) (and_right (code_in_range c) (is_code_for o f asked c) fine))

    codes_none : (cs : Option CodeLists) (at : ℕ) → codes_in_range cs ≡ true → are_codes o f cs ≡ true
        → first_along (code_length (place_in (raw_object o) (raw_function f))) (code_fault (raw_object o) (raw_function f)) 0 at (codes_in (option_map raw_codes cs)) ≡ None
    codes_none None at within fine = refl
    codes_none (Some cs) at within fine =
        ap₂ or_else
        (no_fault (is_simd f) (λ e. e) 0 at cs.scalar
        (and_true (code_in_range cs.scalar) (is_code_for o f (is_simd f) cs.scalar) (and_left (code_in_range cs.scalar) (list_all code_in_range cs.lanes) within) (and_left (is_code_for o f (is_simd f) cs.scalar) (list_all (is_code_for o f true) cs.lanes) fine)))
        (along_none (code_length (place_in (raw_object o) (raw_function f))) (code_fault (raw_object o) (raw_function f)) code_row (λ c. code_in_range c && is_code_for o f true c) (no_fault true (λ e. refl))
        1 (at + code_length (place_in (raw_object o) (raw_function f)) (code_row cs.scalar)) cs.lanes
        (all_both code_in_range (is_code_for o f true) cs.lanes (and_right (code_in_range cs.scalar) (list_all code_in_range cs.lanes) within) (and_right (is_code_for o f (is_simd f) cs.scalar) (list_all (is_code_for o f true) cs.lanes) fine)))

    function_none : (n at : ℕ) → function_fault (raw_object o) n at (raw_function f) ≡ None
    function_none n at = codes_none f.codes (at + front_length (raw_function f)) codes_range codes_are

  faults_none : (end : ℕ) → object_faults (raw_object o) end ≡ None
  faults_none end =
      ap₂ or_else
      (used_none (raw_object o) 0 symbols_at o.symbols (ap (λ p. list_all (is_used_once p) (range_with_len 0 (length o.symbols))) object_same ∙ used))
      (along_none (function_length (raw_object o)) (function_fault (raw_object o)) raw_function (is_whole o symbols_few functions_few) (λ n at f h. function_none f h n at) 0 (functions_at (raw_object o)) o.functions all_whole)

  pub object_tables : IsObject (raw_object o)
  object_tables = (tables_fit, faults_none (length (table_bytes (raw_object o))))

  -- and what is written is read
  pub object_read : judge object_format 0 (object_bytes o) ≡ Ok (raw_object o)
  object_read = whole_reads object_faults object_table object_law (raw_object o) object_tables
