-- Rows that fit their fields have what the conditions on an object ask of each row and of its place among the others.
use Rattle.std.proofs.Common.{◌≡◌, ℕ, ◌<◌, ◌==◌, Bool, true, false, not, ◌&&◌, ◌||◌, cond, List, [], ◌∷◌, length, map, Option, Some, None, refl, sym, ap, ◌∙◌, subst, arith}
use Rattle.std.specs.Prelude.{nat_le, nat_lt, is_some}
use Rattle.std.specs.List.{list_all, list_any}
use Rattle.std.specs.Option.{option_map}
use Rattle.std.proofs.lemmas.Bool.{eq-eqb, le-leb}
use Rattle.std.proofs.lemmas.List.{length-map}
use Rattle.vk_types.specs.declared.types.Ty.{Ty}
use Rattle.vk_types.specs.declared.types.Ty.TheVariants.{I8, I16, I32, I64, U8, U16, U32, U64}
use Rattle.vk_kinds.specs.declared.heads.CType.{CType}
use Rattle.vk_kinds.specs.declared.heads.CType.TheVariants.{Void, Int, Ptr}
use Rattle.vk_kinds.specs.declared.kinds.Target.{Target}
use Rattle.vk_kinds.specs.Sizes.{HeadTypes, SignatureTree}
use Rattle.vk_kinds.specs.Types.{ctype_number}
use Rattle.vk_code.proofs.Faults.{and_left, and_right}
use Rattle.vk_code.specs.Valid.{is_integer}
use Rattle.vk_object.specs.Objects.{ObjectLists, are_apart, data_before, function_before, has_codes, is_data, is_directive, is_function, is_head, is_symbol, share_name, types_of}
use Rattle.vk_object.specs.Texts.{ascend, ends_well, is_before}
use Rattle.vk_format.specs.Codec.{only_if}
use Rattle.vk_code_format.specs.Codes.{in_object}
use Rattle.vk_code_format.specs.Values.{listing_of}
use Rattle.vk_code_format.specs.Fields.{comes_after, last_of, result_type, result_type_of, value_type}
use Rattle.vk_object_format.specs.declared.rows.RawCodes.{RawCodes}
use Rattle.vk_object_format.specs.declared.rows.RawData.{RawData}
use Rattle.vk_object_format.specs.declared.rows.RawDirective.{RawDirective}
use Rattle.vk_object_format.specs.declared.rows.RawFunction.{RawFunction}
use Rattle.vk_object_format.specs.declared.rows.RawObject.{RawObject}
use Rattle.vk_object_format.specs.Object.{directive, function, function_codes, is_directive_after, member, object_table, symbol}
use Rattle.vk_object_format.specs.Values.{codes_of, data_of, function_of, head_of, object_of, signature_of}
use Rattle.vk_object_laws.proofs.Elements.{elements_fit}
use Rattle.vk_object_laws.proofs.Lists.{all_apart, all_ascend, all_fit, all_fit_here, and_true, apart, ascend_map, comes_behind, passed}

-- ---- symbols

symbol_fits : (before : List (List ℕ)) (t : List ℕ) → (symbol {R = RawObject} before).fits t → is_symbol t ≡ true
symbol_fits before t h = passed is_symbol t t h.0.1

symbol_behind : (before : List (List ℕ)) (y t : List ℕ) → last_of before ≡ Some y → (symbol {R = RawObject} before).fits t → is_before y t ≡ true
symbol_behind before y t e h = subst (λ o. comes_after is_before o t ≡ true) e (passed (comes_after is_before (last_of before)) t t h.1)

-- ---- objects of file scope

member_fits : (o : RawObject) (before : List RawData) (d : RawData) → (member {R = RawObject} (length o.symbols) before).fits d → is_data (object_of o) (data_of d) ≡ true
member_fits o before d h =
    let f = h.0 in
    let elements = f.1.1.1.1.0 in
    and_true _ _ (passed (λ n. nat_lt n (length o.symbols)) d.symbol d.symbol f.0.0.1)
    (and_true _ _
    (and_true _ _ (passed (λ n. nat_le n (cond d.defined d.length 0)) (length d.elements) (length d.elements) elements.0.0.1)
    (elements_fit d.ty d.elements elements.0.1.0.1))
    (passed (λ (x : RawData). ends_well x.elements) d d h.1))

member_behind : (symbols : ℕ) (before : List RawData) (y d : RawData) → last_of before ≡ Some y → (member {R = RawObject} symbols before).fits d → nat_lt y.symbol d.symbol ≡ true
member_behind symbols before y d e h =
    comes_behind (λ (x : RawData). x.symbol) nat_lt before y d.symbol e (passed (comes_after nat_lt (option_map (λ (x : RawData). x.symbol) (last_of before))) d.symbol d.symbol h.0.0.1)

-- ---- heads of functions

integer_result : (t : Ty) → (is_integer (ctype_number (Int t)) || (ctype_number (Int t) == 255)) ≡ true
integer_result I8 = refl
integer_result I16 = refl
integer_result I32 = refl
integer_result I64 = refl
integer_result U8 = refl
integer_result U16 = refl
integer_result U32 = refl
integer_result U64 = refl

result_fits : (t : CType) → (result_type {R = RawObject}).fits t → (is_integer (ctype_number t) || (ctype_number t == 255)) ≡ true
result_fits Void h = refl
result_fits (Int t) h = integer_result t
result_fits (Ptr t w) h = no_pointer t w h.1
  where
    no_pointer : (t : Ty) (w : Bool) → result_type_of (ctype_number (Ptr t w)) ≡ Some (Ptr t w) → (is_integer (ctype_number (Ptr t w)) || (ctype_number (Ptr t w) == 255)) ≡ true
    no_pointer I8 true h = absurd cc
    no_pointer I16 true h = absurd cc
    no_pointer I32 true h = absurd cc
    no_pointer I64 true h = absurd cc
    no_pointer U8 true h = absurd cc
    no_pointer U16 true h = absurd cc
    no_pointer U32 true h = absurd cc
    no_pointer U64 true h = absurd cc
    no_pointer I8 false h = absurd cc
    no_pointer I16 false h = absurd cc
    no_pointer I32 false h = absurd cc
    no_pointer I64 false h = absurd cc
    no_pointer U8 false h = absurd cc
    no_pointer U16 false h = absurd cc
    no_pointer U32 false h = absurd cc
    no_pointer U64 false h = absurd cc

type_fits : (t : CType) → (value_type {R = RawObject}).fits t → nat_lt (ctype_number t) 24 ≡ true
type_fits Void h = absurd cc
type_fits (Int I8) h = refl
type_fits (Int I16) h = refl
type_fits (Int I32) h = refl
type_fits (Int I64) h = refl
type_fits (Int U8) h = refl
type_fits (Int U16) h = refl
type_fits (Int U32) h = refl
type_fits (Int U64) h = refl
type_fits (Ptr I8 true) h = refl
type_fits (Ptr I16 true) h = refl
type_fits (Ptr I32 true) h = refl
type_fits (Ptr I64 true) h = refl
type_fits (Ptr U8 true) h = refl
type_fits (Ptr U16 true) h = refl
type_fits (Ptr U32 true) h = refl
type_fits (Ptr U64 true) h = refl
type_fits (Ptr I8 false) h = refl
type_fits (Ptr I16 false) h = refl
type_fits (Ptr I32 false) h = refl
type_fits (Ptr I64 false) h = refl
type_fits (Ptr U8 false) h = refl
type_fits (Ptr U16 false) h = refl
type_fits (Ptr U32 false) h = refl
type_fits (Ptr U64 false) h = refl

-- ---- directives

directive_fits : (target : Target) (head : HeadTypes) (before : List RawDirective) (d : RawDirective) → (directive {R = RawObject} target head before).fits d → is_directive target head (signature_of d) ≡ true
directive_fits target head before d h = and_left _ _ (passed (is_directive_after target head before) d d h.1)

directive_apart : (target : Target) (head : HeadTypes) (before : List RawDirective) (d : RawDirective) → (directive {R = RawObject} target head before).fits d
    → not (list_any (λ e. share_name target head (signature_of e) (signature_of d)) before) ≡ true
directive_apart target head before d h = and_right (is_directive target head (signature_of d)) _ (passed (is_directive_after target head before) d d h.1)

apart_is : (target : Target) (head : HeadTypes) (ss : List SignatureTree) → apart signature_of (share_name target head) ss ≡ are_apart target head ss
apart_is target head [] = refl
apart_is target head (s ∷ ss) = ap (λ b. not (list_any (share_name target head s) ss) && b) (apart_is target head ss)

-- ---- functions

codes_fit : (o : RawObject) (f : RawFunction) (functions : ℕ) (c : Option RawCodes) → (only_if (is_some c) (function_codes {R = RawObject} (in_object functions (length f.params)) (length f.directives))).fits c
    → has_codes (function_of f) (option_map codes_of c) ≡ true
codes_fit o f functions None h = refl
codes_fit o f functions (Some c) h = eq-eqb _ _ (length-map c.lanes listing_of ∙ h.1.0.0.0 ∙ sym (length-map f.directives signature_of))

module _ (o : RawObject) (functions : ℕ) where
  function_fits : (before : List RawFunction) (f : RawFunction) → (function {R = RawObject} o.target (length o.symbols) functions before).fits f → is_function (object_of o) (function_of f) ≡ true
  function_fits before f h =
      let params = h.1.1.0 in
      let directives = h.1.1.1.0.0 in
      let count : length f.directives < 65536 = directives.0 in
      let many : nat_le (length (map signature_of f.directives)) 65535 ≡ true = le-leb _ _ (omega (arith, count, length-map f.directives signature_of)) in
      let named : nat_lt f.symbol (length o.symbols) ≡ true = passed (λ n. nat_lt n (length o.symbols)) f.symbol f.symbol h.0.0.1 in
      let few : nat_le (length f.params) 64 ≡ true = passed (λ n. nat_le n 64) (length f.params) (length f.params) params.0.0.1 in
      let typed : list_all (λ n. nat_lt n 24) (types_of (head_of f)) ≡ true =
      all_fit (λ (b : List CType). value_type {R = RawObject}) ctype_number (λ n. nat_lt n 24) (λ b t. type_fits t) [] f.params params.0.1.0.1 in
      let head : is_head (head_of f) ≡ true = and_true _ _ (and_true _ _ (result_fits f.result h.1.0) few) typed in
      let each : list_all (is_directive o.target (head_of f)) (map signature_of f.directives) ≡ true =
      all_fit (directive {R = RawObject} o.target (head_of f)) signature_of (is_directive o.target (head_of f)) (directive_fits o.target (head_of f)) [] f.directives directives.1.1 in
      let names : are_apart o.target (head_of f) (map signature_of f.directives) ≡ true =
      sym (apart_is o.target (head_of f) (map signature_of f.directives))
      ∙ (all_apart signature_of (share_name o.target (head_of f)) (directive {R = RawObject} o.target (head_of f)) (directive_apart o.target (head_of f)) [] f.directives directives.1.1).1 in
      let codes : has_codes (function_of f) (option_map codes_of f.codes) ≡ true = codes_fit o f functions f.codes h.1.1.1.1.1.0 in
      and_true _ _ (and_true _ _ (and_true _ _ (and_true _ _ (and_true _ _ named head) many) each) names) codes

  function_behind : (before : List RawFunction) (y f : RawFunction) → last_of before ≡ Some y → (function {R = RawObject} o.target (length o.symbols) functions before).fits f → nat_lt y.symbol f.symbol ≡ true
  function_behind before y f e h =
      comes_behind (λ (x : RawFunction). x.symbol) nat_lt before y f.symbol e (passed (comes_after nat_lt (option_map (λ (x : RawFunction). x.symbol) (last_of before))) f.symbol f.symbol h.0.1)

-- ---- the tables

-- what holds of the rows, before symbols that are used once and the codes
abbrev pub has_rows : ObjectLists → Bool
has_rows o =
    list_all is_symbol o.symbols && ascend is_before o.symbols
    && list_all (is_data o) o.objects && ascend data_before o.objects
    && list_all (is_function o) o.functions && ascend function_before o.functions

pub rows_fit : (o : RawObject) → (object_table {R = RawObject}).fits o → has_rows (object_of o) ≡ true
rows_fit o h =
    let tables = h.0.1.0.1.1.0.1 in
    let symbols = tables.0.0.1.1 in
    let objects = tables.1.0.0.1.1 in
    let functions = tables.1.1.0.0.1.1 in
    let count = length o.functions in
    and_true _ _ (and_true _ _ (and_true _ _ (and_true _ _ (and_true _ _
    (all_fit_here (symbol {R = RawObject}) is_symbol (symbol_fits) [] o.symbols symbols)
    (all_ascend (symbol {R = RawObject}) is_before (symbol_behind) o.symbols symbols))
    (all_fit (member {R = RawObject} (length o.symbols)) data_of (is_data (object_of o)) (member_fits o) [] o.objects objects))
    (ascend_map data_of data_before o.objects ∙ all_ascend (member {R = RawObject} (length o.symbols)) (λ a b. nat_lt a.symbol b.symbol) (member_behind (length o.symbols)) o.objects objects))
    (all_fit (function {R = RawObject} o.target (length o.symbols) count) function_of (is_function (object_of o)) (function_fits o count) [] o.functions functions))
    (ascend_map function_of function_before o.functions ∙ all_ascend (function {R = RawObject} o.target (length o.symbols) count) (λ a b. nat_lt a.symbol b.symbol) (function_behind o count) o.functions functions)
