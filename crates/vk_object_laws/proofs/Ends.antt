-- Tables of which no condition is broken have symbols that are used once, and codes that are valid.
use Rattle.std.proofs.Common.{◌≡◌, ℕ, ◌+◌, ◌<◌, Bool, true, false, not, ◌&&◌, ◌||◌, cond, List, [], ◌∷◌, length, map, Option, Some, None, refl, sym, subst, arith}
use Rattle.std.specs.List.{list_all, range_with_len}
use Rattle.std.specs.Option.{option_map}
use Rattle.std.proofs.lemmas.Bool.{eqb-true, lt-ltb}
use Rattle.vk_code.specs.Tests.{all_good, first_bad}
use Rattle.vk_code.specs.Valid.{fault_of, verdicts}
use Rattle.vk_code.proofs.Faults.{and_left, and_right, everywhere}
use Rattle.vk_object.specs.Objects.{are_codes, has_codes, has_good_codes, has_types, is_code_for, is_function, is_object, is_simd, is_used_once, function_before, names_of}
use Rattle.vk_object.specs.Texts.{ascend}
use Rattle.vk_format.specs.declared.rules.ObjectFault.{ObjectFault}
use Rattle.vk_code_format.specs.declared.rows.CodeRow.{CodeRow}
use Rattle.vk_code_format.specs.Fields.{first_along, or_else, unless}
use Rattle.vk_code_format.specs.Values.{bad_part, earlier, listing_of, places_verdicts}
use Rattle.vk_object_format.specs.declared.rows.RawCodes.{RawCodes}
use Rattle.vk_object_format.specs.declared.rows.RawFunction.{RawFunction}
use Rattle.vk_object_format.specs.declared.rows.RawObject.{RawObject}
use Rattle.vk_object_format.specs.Object.{IsObject, bad_part_of, code_fault, codes_in, front_length, function_fault, function_length, functions_at, object_faults, place_in, symbol_fault, symbol_length, symbols_at, table_bytes}
use Rattle.vk_object_format.specs.Values.{codes_of, function_of, head_of, object_of}
use Rattle.vk_code_format.specs.Places.{code_length}
use Rattle.vk_object_laws.proofs.Lists.{and_true}
use Rattle.vk_object_laws.proofs.Rows.{has_rows, rows_fit}

or_first : (a b : Option ObjectFault) → or_else a b ≡ None → a ≡ None
or_first None b h = refl
or_first (Some f) b h = absurd cc

or_second : (a b : Option ObjectFault) → or_else a b ≡ None → b ≡ None
or_second None b h = h
or_second (Some f) b h = absurd cc

unless_none : (b : Bool) (f : ObjectFault) → unless b f ≡ None → b ≡ true
unless_none true f h = refl
unless_none false f h = absurd cc

map_none : {A B : Type 0} (f : A → B) (o : Option A) → option_map f o ≡ None → o ≡ None
map_none f None h = refl
map_none f (Some a) h = absurd cc

-- ---- symbols

used : (o : RawObject) (ts : List (List ℕ)) (n at : ℕ) → first_along symbol_length (symbol_fault o) n at ts ≡ None → list_all (is_used_once (object_of o)) (range_with_len n (length ts)) ≡ true
used o [] n at h = refl
used o (t ∷ ts) n at h =
    and_true _ _ (unless_none (is_used_once (object_of o) n) _ (or_first (symbol_fault o n at t) (first_along symbol_length (symbol_fault o) (n + 1) (at + symbol_length t) ts) h))
    (used o ts (n + 1) (at + symbol_length t) (or_second (symbol_fault o n at t) (first_along symbol_length (symbol_fault o) (n + 1) (at + symbol_length t) ts) h))

-- ---- codes

both_none : (a b : Option ℕ) → earlier a b ≡ None → (a ≡ None) × (b ≡ None)
both_none None b h = (refl, h)
both_none (Some m) None h = absurd cc
both_none (Some m) (Some n) h = absurd cc

cond_none : (b : Bool) (o : Option ℕ) → cond b o (Some 0) ≡ None → (b ≡ true) × (o ≡ None)
cond_none true o h = (refl, h)
cond_none false o h = absurd cc

module _ (o : RawObject) (f : RawFunction) where
  -- code of which no part is bad
  good_code : (c : CodeRow) → bad_part_of (object_of o) (function_of f) c ≡ None
      → ((has_types (head_of f) (listing_of c) && (not (is_simd (function_of f)) || c.routine.front.lane_code)) ≡ true) × (all_good (verdicts (names_of (object_of o)) (listing_of c)) ≡ true)
  good_code c h =
      let split = cond_none (has_types (head_of f) (listing_of c) && (not (is_simd (function_of f)) || c.routine.front.lane_code)) (bad_part (names_of (object_of o)) (listing_of c)) h in
      (split.0, everywhere (verdicts (names_of (object_of o)) (listing_of c)) (both_none (first_bad (places_verdicts (listing_of c))) (fault_of (names_of (object_of o)) (listing_of c)) split.1).1)

  code_for : (lanes : Bool) (c : CodeRow) → lanes ≡ is_simd (function_of f) → bad_part_of (object_of o) (function_of f) c ≡ None → is_code_for (object_of o) (function_of f) lanes (listing_of c) ≡ true
  code_for lanes c e h = let good = good_code c h in and_true _ _ (subst (λ b. (has_types (head_of f) (listing_of c) && (not b || c.routine.front.lane_code)) ≡ true) (sym e) good.0) good.1

  codes_for : (simd : is_simd (function_of f) ≡ true) (cs : List CodeRow) (n at : ℕ) → first_along (code_length (place_in o f)) (code_fault o f) n at cs ≡ None
      → list_all (is_code_for (object_of o) (function_of f) true) (map listing_of cs) ≡ true
  codes_for simd [] n at h = refl
  codes_for simd (c ∷ cs) n at h =
      and_true _ _ (code_for true c (sym simd) (map_none _ (bad_part_of (object_of o) (function_of f) c) (or_first (code_fault o f n at c) (first_along (code_length (place_in o f)) (code_fault o f) (n + 1) (at + code_length (place_in o f) c) cs) h)))
      (codes_for simd cs (n + 1) (at + code_length (place_in o f) c) (or_second (code_fault o f n at c) (first_along (code_length (place_in o f)) (code_fault o f) (n + 1) (at + code_length (place_in o f) c) cs) h))

  -- a function with codes of lanes has directives
  lanes_for : (cs : List CodeRow) → length (map listing_of cs) ≡ length (function_of f).directives → (n at : ℕ) → first_along (code_length (place_in o f)) (code_fault o f) n at cs ≡ None
      → list_all (is_code_for (object_of o) (function_of f) true) (map listing_of cs) ≡ true
  lanes_for [] count n at h = refl
  lanes_for (c ∷ cs) count n at h = let some : 0 < length (function_of f).directives = omega (arith, count) in codes_for (lt-ltb _ _ some) (c ∷ cs) n at h

  good_codes : (c : Option RawCodes) → has_codes (function_of f) (option_map codes_of c) ≡ true → (at : ℕ) → first_along (code_length (place_in o f)) (code_fault o f) 0 at (codes_in c) ≡ None
      → are_codes (object_of o) (function_of f) (option_map codes_of c) ≡ true
  good_codes None has at h = refl
  good_codes (Some c) has at h =
      let later = first_along (code_length (place_in o f)) (code_fault o f) 1 (at + code_length (place_in o f) c.scalar) c.lanes in
      and_true _ _ (code_for (is_simd (function_of f)) c.scalar refl (map_none _ (bad_part_of (object_of o) (function_of f) c.scalar) (or_first (code_fault o f 0 at c.scalar) later h)))
      (lanes_for c.lanes (eqb-true _ _ has) 1 (at + code_length (place_in o f) c.scalar) (or_second (code_fault o f 0 at c.scalar) later h))

functions_good : (o : RawObject) (fs : List RawFunction) (n at : ℕ) → list_all (is_function (object_of o)) (map function_of fs) ≡ true → first_along (function_length o) (function_fault o) n at fs ≡ None
    → list_all (has_good_codes (object_of o)) (map function_of fs) ≡ true
functions_good o [] n at rows h = refl
functions_good o (f ∷ fs) n at rows h =
    let row = and_left (is_function (object_of o) (function_of f)) (list_all (is_function (object_of o)) (map function_of fs)) rows in
    let has : has_codes (function_of f) (option_map codes_of f.codes) ≡ true = and_right _ (has_codes (function_of f) (option_map codes_of f.codes)) row in
    and_true _ _ (good_codes o f f.codes has (at + front_length f) (or_first (function_fault o n at f) (first_along (function_length o) (function_fault o) (n + 1) (at + function_length o f) fs) h))
    (functions_good o fs (n + 1) (at + function_length o f) (and_right (is_function (object_of o) (function_of f)) _ rows) (or_second (function_fault o n at f) (first_along (function_length o) (function_fault o) (n + 1) (at + function_length o f) fs) h))

-- ---- the whole

pub tables_whole : (o : RawObject) (end : ℕ) → has_rows (object_of o) ≡ true → object_faults o end ≡ None → is_object (object_of o) ≡ true
tables_whole o end rows h =
    let symbols = first_along symbol_length (symbol_fault o) 0 symbols_at o.symbols in
    let functions = first_along (function_length o) (function_fault o) 0 (functions_at o) o.functions in
    let all_functions = and_right _ (list_all (is_function (object_of o)) (map function_of o.functions)) (and_left _ (ascend function_before (map function_of o.functions)) rows) in
    and_true _ _ (and_true _ _ rows (used o o.symbols 0 symbols_at (or_first symbols functions h)))
    (functions_good o o.functions 0 (functions_at o) all_functions (or_second symbols functions h))

pub tables_object : (o : RawObject) → IsObject o → is_object (object_of o) ≡ true
tables_object o h = tables_whole o (length (table_bytes o)) (rows_fit o h.0) h.1
