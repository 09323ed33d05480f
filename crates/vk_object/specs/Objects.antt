-- When an object is one: what a unit gives to a program.
use Rattle.std.specs.Prelude.{ℕ, ◌+◌, ◌==◌, nat_lt, nat_le, Bool, true, false, not, ◌&&◌, ◌||◌, cond, codes, count_by, List, [], ◌∷◌, length, map, take, Option, Some, None}
use Rattle.std.specs.List.{list_all, list_any, range_with_len}
use Rattle.std.specs.Option.{option_map}
use Rattle.std.specs.Ordering.{int_eq}
use Rattle.vk_types.specs.declared.types.Ty.{Ty}
use Rattle.vk_types.specs.declared.types.Word.{Word}
use Rattle.vk_kinds.specs.declared.kinds.Isa.{Isa}
use Rattle.vk_kinds.specs.declared.kinds.Isa.TheVariants.{B, C, D, E, N, S}
use Rattle.vk_kinds.specs.declared.kinds.Kind.{Kind}
use Rattle.vk_kinds.specs.declared.kinds.Kind.TheVariants.{Vector, Uniform, Linear, Ref, Val, Uval}
use Rattle.vk_kinds.specs.declared.kinds.Len.{Len}
use Rattle.vk_kinds.specs.declared.kinds.Len.TheVariants.{Fixed, Scalable}
use Rattle.vk_kinds.specs.declared.kinds.Step.{Step}
use Rattle.vk_kinds.specs.declared.kinds.Step.TheVariants.{One, By, Arg}
use Rattle.vk_kinds.specs.declared.kinds.Length.{Length}
use Rattle.vk_kinds.specs.declared.kinds.Param.{Param}
use Rattle.vk_kinds.specs.declared.kinds.Target.{Target}
use Rattle.vk_kinds.specs.declared.kinds.Target.TheVariants.{X86, Arm}
use Rattle.vk_kinds.specs.Lengths.{has_sve_width, lengths}
use Rattle.vk_kinds.specs.Sizes.{HeadTypes, SignatureTree, head_types, signature_tree, wds}
use Rattle.vk_kinds.specs.Types.{ctype_number}
use Rattle.vk_code.specs.declared.env.ObjectHead.{ObjectHead}
use Rattle.vk_code.specs.Listing.{Listing, listing_of}
use Rattle.vk_code.specs.Tests.{all_good, pairs}
use Rattle.vk_code.specs.Valid.{Callee, Environment, is_good_simdlen, is_integer, result_type, verdicts}
use Rattle.vk_object.specs.declared.rows.Codes.{Codes}
use Rattle.vk_object.specs.declared.rows.DataRow.{DataRow}
use Rattle.vk_object.specs.declared.rows.FunctionRow.{FunctionRow}
use Rattle.vk_object.specs.declared.rows.Symbol.{Symbol}
use Rattle.vk_object.specs.Parameters.{are_kinds, are_typed}
use Rattle.vk_object.specs.Texts.{are_given, ascend, is_before, is_identifier}

-- ---- the lists of an object

pub record DataLists : Type 0 where
  pub symbol : ℕ
  pub ty : Ty
  pub fixed : Bool
  pub defined : Bool
  pub length : ℕ
  pub elements : List Word

pub record CodeLists : Type 0 where
  pub scalar : Listing
  pub lanes : List Listing

pub record FunctionLists : Type 0 where
  pub symbol : ℕ
  pub head : HeadTypes
  pub directives : List SignatureTree
  pub codes : Option CodeLists

pub record ObjectLists : Type 0 where
  pub target : Target
  pub symbols : List (List ℕ)
  pub objects : List DataLists
  pub functions : List FunctionLists

abbrev pub symbol_text : Symbol → List ℕ
symbol_text s = s.text.items

abbrev pub data_list_of : DataRow → DataLists
data_list_of d = record { symbol = d.symbol; ty = d.ty; fixed = d.fixed; defined = d.defined; length = d.length; elements = d.elements.items }

abbrev pub code_list_of : Codes → CodeLists
code_list_of c = record { scalar = listing_of c.scalar; lanes = map listing_of c.lanes.items }

abbrev pub function_list_of : FunctionRow → FunctionLists
function_list_of f = record { symbol = f.symbol; head = head_types f.head; directives = map signature_tree f.directives.items; codes = option_map code_list_of f.codes }

-- ---- symbols

abbrev pub is_equal : ℕ → ℕ → Bool
is_equal x y = x == y

-- an identifier other than `print`, which has no symbol
abbrev pub is_symbol : List ℕ → Bool
is_symbol text = is_identifier text && not (pairs is_equal text (codes "print"))

-- one record has the symbol with this number
abbrev pub is_used_once : ObjectLists → ℕ → Bool
is_used_once o n = (count_by (λ (d : DataLists). d.symbol == n) o.objects + count_by (λ (f : FunctionLists). f.symbol == n) o.functions) == 1

-- ---- objects

-- elements are given where it is defined
abbrev pub is_data : ObjectLists → DataLists → Bool
is_data o d = nat_lt d.symbol (length o.symbols) && are_given d.ty (cond d.defined d.length 0) d.elements

abbrev pub data_before : DataLists → DataLists → Bool
data_before a b = nat_lt a.symbol b.symbol

-- ---- directives

abbrev pub is_arm : Target → Bool
is_arm X86 = false
is_arm Arm = true

abbrev pub types_of : HeadTypes → List ℕ
types_of h = map ctype_number h.params

-- parameters in range and fit for the function's, a power of two from 2 to 256 as simdlen, and on AArch64 one that fits SVE
abbrev pub is_directive : Target → HeadTypes → SignatureTree → Bool
is_directive target h s =
    are_kinds s.params && are_typed (types_of h) s.params && is_good_simdlen s.simdlen
    && (not (is_arm target) || has_sve_width s.simdlen (wds h s))

abbrev pub same_step : Step → Step → Bool
same_step One One = true
same_step One (By n) = false
same_step One (Arg q) = false
same_step (By m) One = false
same_step (By m) (By n) = int_eq m n
same_step (By m) (Arg q) = false
same_step (Arg p) One = false
same_step (Arg p) (By n) = false
same_step (Arg p) (Arg q) = p == q

abbrev pub same_kind : Kind → Kind → Bool
same_kind Vector Vector = true
same_kind Uniform Uniform = true
same_kind (Linear s) (Linear t) = same_step s t
same_kind (Ref s) (Ref t) = same_step s t
same_kind (Val s) (Val t) = same_step s t
same_kind (Uval s) (Uval t) = same_step s t
same_kind k l = false

abbrev pub same_number : Option ℕ → Option ℕ → Bool
same_number None None = true
same_number None (Some n) = false
same_number (Some m) None = false
same_number (Some m) (Some n) = m == n

abbrev pub same_param : Param → Param → Bool
same_param p q = same_kind p.kind q.kind && same_number p.align q.align

abbrev pub letter_number : Isa → ℕ
letter_number B = 0
letter_number C = 1
letter_number D = 2
letter_number E = 3
letter_number N = 4
letter_number S = 5

-- the lanes of a length, none of a scalable one
abbrev pub lanes_of : Len → Option ℕ
lanes_of (Fixed n) = Some n
lanes_of Scalable = None

abbrev pub same_variant : Length → Length → Bool
same_variant v w = (letter_number v.isa == letter_number w.isa) && cond v.masked w.masked (not w.masked) && same_number (lanes_of v.len) (lanes_of w.len)

-- two directives of a function give one name: parameters, letter, mask and length are the same
abbrev pub share_name : Target → HeadTypes → SignatureTree → SignatureTree → Bool
share_name target h s t = pairs same_param s.params t.params && list_any (λ v. list_any (same_variant v) (lengths target h t)) (lengths target h s)

-- no directive gives a name of another
abbrev pub are_apart : Target → HeadTypes → List SignatureTree → Bool
are_apart target h [] = true
are_apart target h (s ∷ ss) = not (list_any (share_name target h s) ss) && are_apart target h ss

-- ---- functions

-- the result is an integer or none; at most 64 parameters, which have types
abbrev pub is_head : HeadTypes → Bool
is_head h = (is_integer (ctype_number h.result) || (ctype_number h.result == 255)) && nat_le (length h.params) 64 && list_all (λ n. nat_lt n 24) (types_of h)

-- where it is defined, one code for each directive
abbrev pub has_codes : FunctionLists → Option CodeLists → Bool
has_codes f None = true
has_codes f (Some c) = length c.lanes == length f.directives

abbrev pub is_function : ObjectLists → FunctionLists → Bool
is_function o f =
    nat_lt f.symbol (length o.symbols) && is_head f.head && nat_le (length f.directives) 65535
    && list_all (is_directive o.target f.head) f.directives && are_apart o.target f.head f.directives && has_codes f f.codes

abbrev pub function_before : FunctionLists → FunctionLists → Bool
function_before a b = nat_lt a.symbol b.symbol

-- ---- codes

abbrev pub is_simd : FunctionLists → Bool
is_simd f = nat_lt 0 (length f.directives)

abbrev pub callee_of : FunctionLists → Callee
callee_of f = record { params = f.head.params; result = f.head.result; simd = is_simd f }

abbrev pub object_of : DataLists → ObjectHead
object_of d = record { ty = d.ty; fixed = d.fixed }

-- what code of the object may name: its functions and objects
abbrev pub names_of : ObjectLists → Environment
names_of o = record { image = false; callees = map callee_of o.functions; objects = map object_of o.objects }

-- the parameters and the result of the code have the function's types
abbrev pub has_types : HeadTypes → Listing → Bool
has_types h c =
    (c.routine.params == length h.params) && pairs is_equal (map ctype_number (take c.routine.params c.routine.regs)) (types_of h)
    && (result_type c.routine.regs c.routine.result == ctype_number h.result)

-- the head and types of code, and whether it is lane code where it must be; and that it is valid
abbrev pub is_code_for : ObjectLists → FunctionLists → Bool → Listing → Bool
is_code_for o f lanes c = has_types f.head c && (not lanes || c.routine.lane_code) && all_good (verdicts (names_of o) c)

-- a function with directives has lane code alone
abbrev pub are_codes : ObjectLists → FunctionLists → Option CodeLists → Bool
are_codes o f None = true
are_codes o f (Some c) = is_code_for o f (is_simd f) c.scalar && list_all (is_code_for o f true) c.lanes

abbrev pub has_good_codes : ObjectLists → FunctionLists → Bool
has_good_codes o f = are_codes o f f.codes

-- ---- the object

-- the conditions on an object, in the order in which they are judged
abbrev pub is_object : ObjectLists → Bool
is_object o =
    list_all is_symbol o.symbols && ascend is_before o.symbols
    && list_all (is_data o) o.objects && ascend data_before o.objects
    && list_all (is_function o) o.functions && ascend function_before o.functions
    && list_all (is_used_once o) (range_with_len 0 (length o.symbols))
    && list_all (has_good_codes o) o.functions
