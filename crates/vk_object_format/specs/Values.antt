-- What the tables of an object stand for, and the tables of an object.
use Rattle.std.specs.Prelude.{map}
use Rattle.std.specs.Option.{option_map}
use Rattle.vk_kinds.specs.Sizes.{HeadTypes, SignatureTree}
use Rattle.vk_object.specs.Objects.{CodeLists, DataLists, FunctionLists, ObjectLists}
use Rattle.vk_code_format.specs.Parameters.{param_of, param_row}
use Rattle.vk_code_format.specs.Values.{code_row, listing_of}
use Rattle.vk_object_format.specs.declared.rows.RawCodes.{RawCodes}
use Rattle.vk_object_format.specs.declared.rows.RawData.{RawData}
use Rattle.vk_object_format.specs.declared.rows.RawDirective.{RawDirective}
use Rattle.vk_object_format.specs.declared.rows.RawFunction.{RawFunction}
use Rattle.vk_object_format.specs.declared.rows.RawObject.{RawObject}

-- ---- what they stand for

abbrev pub data_of : RawData → DataLists
data_of d = record { symbol = d.symbol; ty = d.ty; fixed = d.fixed; defined = d.defined; length = d.length; elements = d.elements }

abbrev pub signature_of : RawDirective → SignatureTree
signature_of d = record { params = map param_of d.params; branch = d.branch; simdlen = d.simdlen }

abbrev pub codes_of : RawCodes → CodeLists
codes_of c = record { scalar = listing_of c.scalar; lanes = map listing_of c.lanes }

abbrev pub head_of : RawFunction → HeadTypes
head_of f = record { result = f.result; params = f.params }

abbrev pub function_of : RawFunction → FunctionLists
function_of f = record { symbol = f.symbol; head = head_of f; directives = map signature_of f.directives; codes = option_map codes_of f.codes }

abbrev pub object_of : RawObject → ObjectLists
object_of o = record { target = o.target; symbols = o.symbols; objects = map data_of o.objects; functions = map function_of o.functions }

-- ---- the tables of an object

abbrev pub raw_data : DataLists → RawData
raw_data d = record { symbol = d.symbol; ty = d.ty; fixed = d.fixed; defined = d.defined; length = d.length; elements = d.elements }

abbrev pub raw_directive : SignatureTree → RawDirective
raw_directive s = record { branch = s.branch; simdlen = s.simdlen; params = map param_row s.params }

abbrev pub raw_codes : CodeLists → RawCodes
raw_codes c = record { scalar = code_row c.scalar; lanes = map code_row c.lanes }

abbrev pub raw_function : FunctionLists → RawFunction
raw_function f = record { symbol = f.symbol; result = f.head.result; params = f.head.params; directives = map raw_directive f.directives; codes = option_map raw_codes f.codes }

abbrev pub raw_object : ObjectLists → RawObject
raw_object o = record { target = o.target; symbols = o.symbols; objects = map raw_data o.objects; functions = map raw_function o.functions }
