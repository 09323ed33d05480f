-- Words that are values of a type.
use Rattle.std.specs.Prelude.{List}
use Rattle.vk_types.specs.declared.types.Word.{Word}
use Rattle.vk_kinds.specs.declared.heads.CType.{CType}
use Rattle.vk_meaning.specs.World.{Array}
use Rattle.vk_meaning.specs.Lanes.{IsPointed, IsWord, datum_of}

-- a word of the type, which, where it is a pointer, points into an array that the type allows
pub record IsValue (arrays : List Array) (t : CType) (w : Word) : Type 0 where
  pub word : IsWord t w.0
  pub pointed : IsPointed arrays t (datum_of t w.0)
