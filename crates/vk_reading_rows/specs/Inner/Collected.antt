-- The objects of a program, before they are in order.
use Rattle.std.specs.Prelude.{List, filter_map}
use Rattle.vk_rules_book.specs.Rules.{Subject}
use Rattle.vk_meaning.specs.World.{Array}
use Rattle.vk_meaning.specs.Programs.{array_defined}

abbrev pub objects_of_unit : Subject → List Array
objects_of_unit u = filter_map (array_defined u) u.items
