-- What is read of an object was written, and what is written is read.
use Rattle.std.proofs.Common.{◌≡◌, ℕ, ◌*◌, ◌+◌, Bool, true, false, cond, nat_le, List, [], ◌∷◌, length, Option, Some, None, refl, ap, slice_get}
use Rattle.std.specs.Prelude.{codes, is_some}
use Rattle.std.specs.Option.{option_map}
use Rattle.vk_kinds.specs.declared.kinds.Target.{Target}
use Rattle.vk_kinds.specs.Sizes.{HeadTypes}
use Rattle.vk_format.specs.declared.rules.ObjectRule.TheVariants.{O1, O2, O6, O7}
use Rattle.vk_format.specs.Codec.{Codec, number, judged, items, many, repeated, list, text, only_if, exactly, exactly_number}
use Rattle.vk_format.proofs.Inverse.{IsCodec, number_law, field_law, judged_law, items_law, many_law, repeated_law, list_law, text_law, given_law, only_if_law, exactly_law, skip_law}
use Rattle.vk_code_format.specs.Codes.{Place, in_object, code}
use Rattle.vk_code_format.specs.Fields.{coded, flag, bit, below, simdlen, target, int_type, value_type, result_type, element, last_of}
use Rattle.vk_code_format.specs.Parameters.{param}
use Rattle.vk_code_format.proofs.Codes.{code_law}
use Rattle.vk_code_format.proofs.Fields.{coded_law, flag_law, below_law, simdlen_law, target_law, int_type_law, value_type_law, result_type_law, element_law, exactly_number_law}
use Rattle.vk_code_format.proofs.Parameters.{param_law}
use Rattle.vk_object_format.specs.declared.rows.RawCodes.{RawCodes}
use Rattle.vk_object_format.specs.declared.rows.RawData.{RawData}
use Rattle.vk_object_format.specs.declared.rows.RawDirective.{RawDirective}
use Rattle.vk_object_format.specs.declared.rows.RawFunction.{RawFunction}
use Rattle.vk_object_format.specs.Object.{symbol, symbol_number, flags, member, branches, branch_number, directive, function_codes, function, object_table}

symbol_law : {R : Type 0} (before : List (List ℕ)) → IsCodec (symbol {R = R} before)
symbol_law before = judged_law O6 _ _ (judged_law O7 _ text text_law)

symbol_number_law : {R : Type 0} (symbols : ℕ) (last : Option ℕ) → IsCodec (symbol_number {R = R} symbols last)
symbol_number_law symbols last = judged_law O6 _ (below symbols) (below_law symbols)

flags_law : {R : Type 0} → IsCodec (flags {R = R})
flags_law = coded_law O7 ((false, false) ∷ (true, false) ∷ (false, true) ∷ (true, true) ∷ []) (λ f. bit f.0 + 2 * bit f.1) (refl, (refl, (refl, (refl, tt))))

member_law : {R : Type 0} (symbols : ℕ) (before : List RawData) → IsCodec (member {R = R} symbols before)
member_law symbols before = judged_law O6 _ _ (
    field_law (λ d. d.symbol) (symbol_number symbols (option_map (λ d. d.symbol) (last_of before))) _ (symbol_number_law symbols _) (λ symbol.
    field_law (λ d. d.ty) int_type _ int_type_law (λ ty.
    field_law (λ d. (d.fixed, d.defined)) flags _ flags_law (λ flags.
    field_law (λ d. d.length) (number 4) _ (number_law 4) (λ count.
    field_law (λ d. d.elements) (list (judged O7 (λ given. nat_le given (cond flags.1 count 0)) (number 4)) (element ty)) _ (list_law _ (element ty) (judged_law O7 (λ given. nat_le given (cond flags.1 count 0)) (number 4) (number_law 4)) (element_law ty)) (λ elements.
    given_law (record { symbol = symbol; ty = ty; fixed = flags.0; defined = flags.1; length = count; elements = elements }))
    (λ elements d f. ap (λ x. x.elements) f)) (λ count d f. ap (λ x. x.length) f.1)) (λ flags d f. ap (λ x. (x.fixed, x.defined)) f.1.1)) (λ ty d f. ap (λ x. x.ty) f.1.1.1)) (λ symbol d f. ap (λ x. x.symbol) f.1.1.1.1))

directive_law : {R : Type 0} (target : Target) (head : HeadTypes) (before : List RawDirective) → IsCodec (directive {R = R} target head before)
directive_law machine head before = judged_law O7 _ _ (
    field_law (λ d. d.branch) (coded O7 branches branch_number) _ (coded_law O7 branches branch_number (refl, (refl, (refl, tt)))) (λ branch.
    field_law (λ d. d.simdlen) simdlen _ simdlen_law (λ simdlen.
    field_law (λ d. d.params) (items (length head.params) (λ params. param (slice_get head.params (length params)))) _ (items_law (length head.params) _ (λ params. param_law (slice_get head.params (length params)))) (λ params.
    given_law _) (λ params d f. ap (λ x. x.params) f)) (λ simdlen d f. ap (λ x. x.simdlen) f.1)) (λ branch d f. ap (λ x. x.branch) f.1.1))

function_codes_law : {R : Type 0} (place : Place) (directives : ℕ) → IsCodec (function_codes {R = R} place directives)
function_codes_law place directives =
    field_law (λ c. c.scalar) (code place) _ (code_law place) (λ scalar.
    field_law (λ c. c.lanes) (repeated directives (code place)) _ (repeated_law directives (code place) (code_law place)) (λ lanes.
    given_law _) (λ lanes c f. ap (λ x. x.lanes) f)) (λ scalar c f. ap (λ x. x.scalar) f.1)

-- the codes are there as the flag says
codes_there : {R : Type 0} (defined : Bool) (c : Codec R RawCodes) (o : Option RawCodes) → (only_if defined c).fits o → is_some o ≡ defined
codes_there true c (Some x) fits = refl
codes_there true c None fits = absurd fits
codes_there false c o fits = rw fits refl

function_law : {R : Type 0} (target : Target) (symbols functions : ℕ) (before : List RawFunction) → IsCodec (function {R = R} target symbols functions before)
function_law {R = R} machine symbols functions before =
    field_law (λ f. f.symbol) (symbol_number symbols (option_map (λ f. f.symbol) (last_of before))) _ (symbol_number_law symbols _) (λ symbol.
    field_law (λ f. f.result) result_type _ result_type_law (λ result.
    field_law (λ f. f.params) (list (judged O7 (λ n. nat_le n 64) (number 1)) value_type) _ (list_law _ value_type (judged_law O7 (λ n. nat_le n 64) (number 1) (number_law 1)) value_type_law) (λ params.
    field_law (λ f. f.directives) (many (number 2) (λ n. directive machine (record { result = result; params = params }))) _ (many_law (number 2) (λ n. directive machine (record { result = result; params = params })) (number_law 2) (λ n. directive_law machine (record { result = result; params = params }))) (λ directives.
    field_law (λ f. is_some f.codes) flag _ flag_law (λ defined.
    field_law (λ f. f.codes) (only_if defined (function_codes (in_object functions (length params)) (length directives))) _ (only_if_law defined _ (function_codes_law (in_object functions (length params)) (length directives))) (λ codes.
    given_law (record { symbol = symbol; result = result; params = params; directives = directives; codes = codes }))
    (λ codes f h. ap (λ x. x.codes) h)) (λ defined f h. codes_there {R = R} defined _ f.codes h.0)) (λ directives f h. ap (λ x. x.directives) h.1.1)) (λ params f h. ap (λ x. x.params) h.1.1.1)) (λ result f h. ap (λ x. x.result) h.1.1.1.1)) (λ symbol f h. ap (λ x. x.symbol) h.1.1.1.1.1)

pub object_law : {R : Type 0} → IsCodec (object_table {R = R})
object_law =
    skip_law (exactly O1 (codes "VKOBJECT")) _ (exactly_law O1 (codes "VKOBJECT")) (
    skip_law (exactly_number O2 2 1) _ (exactly_number_law O2 2 1) (
    field_law (λ o. o.target) target _ target_law (λ t.
    skip_law (exactly_number O7 1 0) _ (exactly_number_law O7 1 0) (
    field_law (λ o. o.symbols) (many (number 4) (λ n. symbol)) _ (many_law (number 4) (λ n. symbol) (number_law 4) (λ n. symbol_law)) (λ symbols.
    field_law (λ o. o.objects) (many (number 4) (λ n. member (length symbols))) _ (many_law (number 4) (λ n. member (length symbols)) (number_law 4) (λ n. member_law (length symbols))) (λ objects.
    field_law (λ o. o.functions) (many (number 4) (λ n. function t (length symbols) n)) _ (many_law (number 4) (λ n. function t (length symbols) n) (number_law 4) (λ n. function_law t (length symbols) n)) (λ functions.
    given_law (record { target = t; symbols = symbols; objects = objects; functions = functions })) (λ functions o f. ap (λ x. x.functions) f)) (λ objects o f. ap (λ x. x.objects) f.1)) (λ symbols o f. ap (λ x. x.symbols) f.1.1))) (λ t o f. ap (λ x. x.target) f.0.1.1.1.1)))
