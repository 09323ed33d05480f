-- The lists of an object.
use Rattle.std.specs.Prelude.{map}
use Rattle.vk_object.specs.declared.object.Object.{Object}
use Rattle.vk_object.specs.Objects.{ObjectLists, data_list_of, function_list_of, symbol_text}

abbrev pub object_lists : Object → ObjectLists
object_lists o = record { target = o.target; symbols = map symbol_text o.symbols.items; objects = map data_list_of o.objects.items; functions = map function_list_of o.functions.items }
