-- The tables of an object fit, and stand for it.
use Rattle.std.proofs.Common.{◌≡◌, ℕ, ◌^◌, ◌<◌, ◌≤◌, ◌==◌, Bool, true, false, not, ◌&&◌, ◌||◌, cond, List, [], ◌∷◌, codes, length, map, Option, Some, None, refl, sym, ap, ap₂, ◌∙◌, arith}
use Rattle.std.specs.Prelude.{is_some, nat_lt, nat_le}
use Rattle.std.specs.List.{AllByRecursion, list_all}
use Rattle.std.specs.Option.{option_map}
use Rattle.std.proofs.lemmas.Bool.{false≢true, eqb-true}
use Rattle.std.proofs.lemmas.List.{length-map}
use Rattle.vk_kinds.specs.declared.heads.CType.{CType}
use Rattle.vk_kinds.specs.Sizes.{SignatureTree}
use Rattle.vk_kinds.specs.Types.{ctype_number}
use Rattle.vk_code.proofs.Faults.{and_left, and_right}
use Rattle.vk_code.specs.Listing.{Listing}
use Rattle.vk_code.specs.Tests.{all_good, pairs}
use Rattle.vk_code.specs.Valid.{verdicts}
use Rattle.vk_object.specs.Objects.{CodeLists, DataLists, FunctionLists, ObjectLists, are_apart, are_codes, has_codes, has_good_codes, has_types, is_code_for, is_data, is_directive, is_equal, is_function, is_head, is_simd, is_symbol, names_of, types_of}
use Rattle.vk_object.specs.Texts.{are_given, ends_well, is_before, is_digit, is_identifier, is_word, is_word_of}
use Rattle.vk_format.specs.declared.rules.ObjectRule.TheVariants.{O7}
use Rattle.vk_format.specs.Codec.{judged, number, only_if}
use Rattle.vk_code_format.specs.Codes.{code, in_object}
use Rattle.vk_code_format.specs.Fields.{comes_after, element, last_of, value_type}
use Rattle.vk_code_format.specs.Values.{code_row, listing_of}
use Rattle.vk_object_format.specs.declared.rows.RawData.{RawData}
use Rattle.vk_object_format.specs.declared.rows.RawFunction.{RawFunction}
use Rattle.vk_object_format.specs.declared.rows.RawObject.{RawObject}
use Rattle.vk_object_format.specs.Object.{directive, function, function_codes, member, symbol, symbol_number}
use Rattle.vk_object_format.specs.Values.{codes_of, function_of, raw_codes, raw_data, raw_directive, raw_function}
use Rattle.vk_object_laws.specs.Ranges.{code_in_range, codes_in_range, data_in_range, directive_in_range, function_in_range, word_in_range}
use Rattle.vk_object_laws.proofs.FitCodes.{again_each, all_both, code_fit, code_same}
use Rattle.vk_object_laws.proofs.FitElements.{elements_fit}
use Rattle.vk_object_laws.proofs.FitParameters.{clear_first, directives_fit, directives_same}
use Rattle.vk_object_laws.proofs.Fitting.{below_fits, either, fit_each, fit_here, flag_fits, flags_fit, le_of, list_fits, lt_of, many_fits, passes, repeated_fits, result_type_fits, type_fits, value_type_fits}

-- ---- lists

all_unmap : {A B : Type 0} (p : B → Bool) (f : A → B) (xs : List A) → list_all p (map f xs) ≡ true → list_all (λ x. p (f x)) xs ≡ true
all_unmap p f [] h = refl
all_unmap p f (x ∷ xs) h = ap₂ (λ a b. a && b) (and_left (p (f x)) (list_all p (map f xs)) h) (all_unmap p f xs (and_right (p (f x)) (list_all p (map f xs)) h))

all_mapped : {A B : Type 0} (p : B → Bool) (f : A → B) (xs : List A) → list_all (λ x. p (f x)) xs ≡ true → list_all p (map f xs) ≡ true
all_mapped p f [] h = refl
all_mapped p f (x ∷ xs) h = ap₂ (λ a b. a && b) (and_left (p (f x)) (list_all (λ x. p (f x)) xs) h) (all_mapped p f xs (and_right (p (f x)) (list_all (λ x. p (f x)) xs) h))

-- ---- symbols

word_small : (b : ℕ) → is_word b ≡ true → b < 256
word_small b h =
    either (b < 256) _ (b == 95) h
    (λ h. either (b < 256) _ (is_digit b) h
    (λ h. either (b < 256) (nat_le 65 b && nat_le b 90) (nat_le 97 b && nat_le b 122) h (up 65 90 (omega arith)) (up 97 122 (omega arith)))
    (up 48 57 (omega arith)))
    (λ h. let same : b ≡ 95 = eqb-true b 95 h in omega (arith, same))
  where
    up : (low high : ℕ) → high < 256 → (nat_le low b && nat_le b high) ≡ true → b < 256
    up low high few h = let le : b ≤ high = le_of b high (and_right (nat_le low b) (nat_le b high) h) in omega (arith, le, few)

words_small : (bs : List ℕ) → list_all is_word bs ≡ true → AllByRecursion (λ b. b < 256) bs
words_small [] h = tt
words_small (b ∷ bs) h = (word_small b (and_left (is_word b) (list_all is_word bs) h), words_small bs (and_right (is_word b) (list_all is_word bs) h))

identifier_bytes : (t : List ℕ) → is_identifier t ≡ true → (length t < 65536) × AllByRecursion (λ b. b < 256) t
identifier_bytes [] h = absurd (false≢true h)
identifier_bytes (b ∷ bs) h =
    let front = and_left (is_word b && not (is_digit b) && list_all is_word bs) (nat_le (length bs) 1023) h in
    let few : length bs ≤ 1023 = le_of (length bs) 1023 (and_right (is_word b && not (is_digit b) && list_all is_word bs) (nat_le (length bs) 1023) h) in
    let first = and_left (is_word b) (not (is_digit b)) (and_left (is_word b && not (is_digit b)) (list_all is_word bs) front) in
    (omega (arith, few), (word_small b first, words_small bs (and_right (is_word b && not (is_digit b)) (list_all is_word bs) front)))

option_same : {A : Type 0} (o : Option A) → option_map (λ a. a) o ≡ o
option_same None = refl
option_same (Some a) = refl

pub symbol_fit : (before : List (List ℕ)) (t : List ℕ) → is_symbol t ≡ true → comes_after is_before (option_map (λ a. a) (last_of before)) t ≡ true → (symbol {R = RawObject} before).fits t
symbol_fit before t h behind =
    let bytes = identifier_bytes t (and_left (is_identifier t) (not (pairs is_equal t (codes "print"))) h) in
    (((((bytes.0, (refl, bytes.1)), refl)), passes is_symbol t h), passes (comes_after is_before (last_of before)) t (sym (ap (λ o. comes_after is_before o t) (option_same (last_of before))) ∙ behind))

-- ---- numbers of symbols

number_fit : (symbols n : ℕ) (last : Option ℕ) → symbols < 2 ^ 32 → nat_lt n symbols ≡ true → comes_after nat_lt last n ≡ true → (symbol_number {R = RawObject} symbols last).fits n
number_fit symbols n last few h behind =
    let lt : n < symbols = lt_of n symbols h in
    (below_fits symbols n (omega (arith, lt, few)) h, passes (comes_after nat_lt last) n behind)

-- ---- objects of file scope

module _ (o : ObjectLists) (few : length o.symbols < 2 ^ 32) where
  pub data_fit : (before : List RawData) (d : DataLists) → (data_in_range d && is_data o d) ≡ true
      → comes_after nat_lt (option_map (λ (x : RawData). x.symbol) (last_of before)) d.symbol ≡ true → (member {R = RawObject} (length o.symbols) before).fits (raw_data d)
  data_fit before d h behind =
      let range = and_left (data_in_range d) (is_data o d) h in
      let good = and_right (data_in_range d) (is_data o d) h in
      let long : d.length < 2 ^ 32 = lt_of d.length (2 ^ 32) (and_left (nat_lt d.length (2 ^ 32)) (list_all word_in_range d.elements) range) in
      let words = and_right (nat_lt d.length (2 ^ 32)) (list_all word_in_range d.elements) range in
      let named = and_left (nat_lt d.symbol (length o.symbols)) (are_given d.ty (cond d.defined d.length 0) d.elements) good in
      let given = and_right (nat_lt d.symbol (length o.symbols)) (are_given d.ty (cond d.defined d.length 0) d.elements) good in
      let counted = and_left (nat_le (length d.elements) (cond d.defined d.length 0)) (list_all (is_word_of d.ty) d.elements) (and_left _ (ends_well d.elements) given) in
      let typed = and_right (nat_le (length d.elements) (cond d.defined d.length 0)) (list_all (is_word_of d.ty) d.elements) (and_left _ (ends_well d.elements) given) in
      let at_most : length d.elements ≤ cond d.defined d.length 0 = le_of (length d.elements) (cond d.defined d.length 0) counted in (
        (
          number_fit (length o.symbols) d.symbol (option_map (λ (x : RawData). x.symbol) (last_of before)) few named behind,
          (
            type_fits d.ty,
            (
              flags_fit d.fixed d.defined,
              (
                long,
                (
                  list_fits (judged O7 (λ given. nat_le given (cond d.defined d.length 0)) (number 4)) (element d.ty) d.elements
                      (below d.defined d.length (length d.elements) long at_most, passes (λ n. nat_le n (cond d.defined d.length 0)) (length d.elements) counted) (elements_fit d.ty d.elements words typed),
                  refl,
                ),
              ),
            ),
          ),
        ),
        passes (λ (x : RawData). ends_well x.elements) (raw_data d) (and_right (nat_le (length d.elements) (cond d.defined d.length 0) && list_all (is_word_of d.ty) d.elements) (ends_well d.elements) given),
      )
    where
      below : (b : Bool) (l n : ℕ) → l < 2 ^ 32 → n ≤ cond b l 0 → n < 256 ^ 4
      below true l n lt le = omega (arith, lt, le)
      below false l n lt le = omega (arith, le)

  -- ---- functions

  module _ (count : length o.functions < 2 ^ 32) where
    codes_fit : (f : FunctionLists) (c : Option CodeLists) → codes_in_range c ≡ true → has_codes f c ≡ true → are_codes o f c ≡ true
        → (only_if {R = RawObject} (is_some (option_map raw_codes c)) (function_codes (in_object (length o.functions) (length f.head.params)) (length (map raw_directive f.directives)))).fits (option_map raw_codes c)
    codes_fit f None range has good = refl
    codes_fit f (Some c) range has good =
        let scalar = and_left (is_code_for o f (is_simd f) c.scalar) (list_all (is_code_for o f true) c.lanes) good in
        let lanes = and_right (is_code_for o f (is_simd f) c.scalar) (list_all (is_code_for o f true) c.lanes) good in
        let many : length (map code_row c.lanes) ≡ length (map raw_directive f.directives) =
        length-map c.lanes code_row ∙ eqb-true (length c.lanes) (length f.directives) has ∙ sym (length-map f.directives raw_directive) in (
          one (is_simd f) c.scalar (and_left (code_in_range c.scalar) (list_all code_in_range c.lanes) range) scalar,
          (
            repeated_fits (length (map raw_directive f.directives)) (code (in_object (length o.functions) (length f.head.params))) (map code_row c.lanes) many
                (fit_each (λ b. code {R = RawObject} (in_object (length o.functions) (length f.head.params))) code_row (λ l. code_in_range l && is_code_for o f true l)
                (λ b l h. one true l (and_left (code_in_range l) (is_code_for o f true l) h) (and_right (code_in_range l) (is_code_for o f true l) h))
                [] c.lanes (all_both code_in_range (is_code_for o f true) c.lanes (and_right (code_in_range c.scalar) (list_all code_in_range c.lanes) range) lanes)),
            refl,
          ),
        )
      where
        one : (simd : Bool) (l : Listing) → code_in_range l ≡ true → is_code_for o f simd l ≡ true → (code {R = RawObject} (in_object (length o.functions) (length f.head.params))).fits (code_row l)
        one simd l range h =
            let typed = and_left (has_types f.head l) (not simd || l.routine.lane_code) (and_left _ (all_good (verdicts (names_of o) l)) h) in
            let params : l.routine.params ≡ length f.head.params =
            eqb-true l.routine.params (length f.head.params) (and_left (l.routine.params == length f.head.params) _ (and_left _ _ typed)) in
            code_fit o count l (and_right _ (all_good (verdicts (names_of o) l)) h) range (length f.head.params) params

    codes_same : (f : FunctionLists) (c : Option CodeLists) → codes_in_range c ≡ true → are_codes o f c ≡ true → option_map codes_of (option_map raw_codes c) ≡ c
    codes_same f None range good = refl
    codes_same f (Some c) range good =
        let scalar = and_left (is_code_for o f (is_simd f) c.scalar) (list_all (is_code_for o f true) c.lanes) good in
        let lanes = and_right (is_code_for o f (is_simd f) c.scalar) (list_all (is_code_for o f true) c.lanes) good in
        ap Some (ap₂ (λ (s : Listing) (ls : List Listing). record { scalar = s; lanes = ls })
        (one (is_simd f) c.scalar (and_left (code_in_range c.scalar) (list_all code_in_range c.lanes) range) scalar)
        (again_each listing_of code_row (λ l. code_in_range l && is_code_for o f true l)
        (λ l h. one true l (and_left (code_in_range l) (is_code_for o f true l) h) (and_right (code_in_range l) (is_code_for o f true l) h))
        c.lanes (all_both code_in_range (is_code_for o f true) c.lanes (and_right (code_in_range c.scalar) (list_all code_in_range c.lanes) range) lanes)))
      where
        one : (simd : Bool) (l : Listing) → code_in_range l ≡ true → is_code_for o f simd l ≡ true → listing_of (code_row l) ≡ l
        one simd l range h = code_same o count l (and_right _ (all_good (verdicts (names_of o) l)) h) range

    -- what is asked of one function
    abbrev pub is_whole : FunctionLists → Bool
    is_whole f = function_in_range f && is_function o f && has_good_codes o f

    module _ (f : FunctionLists) (h : is_whole f ≡ true) where
      range : function_in_range f ≡ true
      range = and_left (function_in_range f) (is_function o f) (and_left (function_in_range f && is_function o f) (has_good_codes o f) h)

      good : is_function o f ≡ true
      good = and_right (function_in_range f) (is_function o f) (and_left (function_in_range f && is_function o f) (has_good_codes o f) h)

      coded : are_codes o f f.codes ≡ true
      coded = and_right (function_in_range f && is_function o f) (has_good_codes o f) h

      has : has_codes f f.codes ≡ true
      has = and_right _ (has_codes f f.codes) good

      apart : are_apart o.target f.head f.directives ≡ true
      apart = and_right _ (are_apart o.target f.head f.directives) (and_left _ (has_codes f f.codes) good)

      directed : list_all (is_directive o.target f.head) f.directives ≡ true
      directed = and_right _ (list_all (is_directive o.target f.head) f.directives) (and_left _ (are_apart o.target f.head f.directives) (and_left _ (has_codes f f.codes) good))

      named : (nat_lt f.symbol (length o.symbols) && is_head f.head && nat_le (length f.directives) 65535) ≡ true
      named = and_left _ (list_all (is_directive o.target f.head) f.directives) (and_left _ (are_apart o.target f.head f.directives) (and_left _ (has_codes f f.codes) good))

      headed : is_head f.head ≡ true
      headed = and_right (nat_lt f.symbol (length o.symbols)) (is_head f.head) (and_left _ (nat_le (length f.directives) 65535) named)

      in_range : list_all directive_in_range f.directives ≡ true
      in_range = and_left (list_all directive_in_range f.directives) (codes_in_range f.codes) range

      pub function_same : function_of (raw_function f) ≡ f
      function_same =
          ap₂ (λ (ds : List SignatureTree) (cs : Option CodeLists). record { symbol = f.symbol; head = f.head; directives = ds; codes = cs })
          (directives_same o.target f.head f.directives in_range directed)
          (codes_same f f.codes (and_right (list_all directive_in_range f.directives) (codes_in_range f.codes) range) coded)

      pub function_fit : (before : List RawFunction) → comes_after nat_lt (option_map (λ (x : RawFunction). x.symbol) (last_of before)) f.symbol ≡ true
          → (function {R = RawObject} o.target (length o.symbols) (length o.functions) before).fits (raw_function f)
      function_fit before behind =
          let many : length f.directives ≤ 65535 = le_of (length f.directives) 65535 (and_right _ (nat_le (length f.directives) 65535) named) in
          let few_params : nat_le (length f.head.params) 64 ≡ true = and_right _ (nat_le (length f.head.params) 64) (and_left _ (list_all (λ n. nat_lt n 24) (types_of f.head)) headed) in
          let few_is : length f.head.params ≤ 64 = le_of (length f.head.params) 64 few_params in (
            number_fit (length o.symbols) f.symbol (option_map (λ (x : RawFunction). x.symbol) (last_of before)) few
                (and_left (nat_lt f.symbol (length o.symbols)) (is_head f.head) (and_left _ (nat_le (length f.directives) 65535) named)) behind,
            (
              result_type_fits f.head.result (and_left _ (nat_le (length f.head.params) 64) (and_left _ (list_all (λ n. nat_lt n 24) (types_of f.head)) headed)),
              (
                list_fits (judged O7 (λ n. nat_le n 64) (number 1)) value_type f.head.params (omega (arith, few_is), passes (λ n. nat_le n 64) (length f.head.params) few_params)
                    (fit_here (λ (b : List CType). value_type {R = RawObject}) (λ t. nat_lt (ctype_number t) 24) (λ b t. value_type_fits t) [] f.head.params
                    (all_unmap (λ n. nat_lt n 24) ctype_number f.head.params (and_right _ (list_all (λ n. nat_lt n 24) (types_of f.head)) headed))),
                (
                  many_fits (number 2) (λ n. directive o.target f.head) (map raw_directive f.directives) (omega (arith, many, length-map f.directives raw_directive))
                      (directives_fit o.target f.head [] f.directives in_range directed apart (clear_first o.target f.head f.directives)),
                  (
                    flag_fits (is_some (option_map raw_codes f.codes)),
                    (
                      codes_fit f f.codes (and_right (list_all directive_in_range f.directives) (codes_in_range f.codes) range) has coded,
                      refl,
                    ),
                  ),
                ),
              ),
            ),
          )
