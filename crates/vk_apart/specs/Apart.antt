-- The arguments of a call on lanes of a function with pointers: besides what holds of all arguments, the active lanes are apart.
use Rattle.std.specs.Prelude.{◌≡◌, ℕ, ◌<◌, ◌⊎◌, Bool, true, List}
use Rattle.vk_kinds.specs.declared.heads.CType.{CType}
use Rattle.vk_meaning.specs.World.{Array}
use Rattle.vk_meaning.specs.Lanes.{AreApart, NamesCell, ReadsArray, Words, arguments_of}
use Rattle.vk_ends.specs.declared.ends.CallRule.{CallRule}
use Rattle.vk_ends.specs.declared.ends.CallRule.TheVariants.{A3}
use Rattle.vk_arguments.specs.Arguments.{AreTaken, Called, Given, IsLeastPair, IsRefused, words_in}
use Rattle.vk_arguments.specs.Texts.{Meaning, mask_of}

-- A cell that a pointer of the one lane names, and may write, is named so by the other, or lies in an array that the other reads. A
-- pointer outside its array names no cell.
pub record Meets (ts : List CType) (arrays : List Array) (words : Words) (one other : ℕ) : Type 0 where
  pub array : ℕ
  pub index : ℕ
  pub named : NamesCell ts arrays (arguments_of ts words one) array index
  pub met : NamesCell ts arrays (arguments_of ts words other) array index ⊎ ReadsArray ts (arguments_of ts words other) array

-- two active lanes, the lesser first, that are not apart
pub record AreMeeting (ts : List CType) (arrays : List Array) (lanes : ℕ) (words : Words) (mask : ℕ → Bool) (first second : ℕ) : Type 0 where
  pub ordered : first < second
  pub inside : second < lanes
  pub first_on : mask first ≡ true
  pub second_on : mask second ≡ true
  pub meets : Meets ts arrays words first second ⊎ Meets ts arrays words second first

-- the arguments break no rule, and the lanes are apart
pub record AreTakenApart (word : Meaning) (arrays : List Array) (c : Called) (g : Given) : Type 0 where
  pub taken : AreTaken word c g
  pub apart : AreApart c.types arrays c.lanes (words_in word c.types g.texts) (mask_of c.lanes g.bits)

-- The rule that is broken, with its two numbers: A5, A4 or A2; else A3 with the least pair of lanes that are not apart.
abbrev pub IsCallRefused : Meaning → List Array → Called → Given → CallRule → (first second : ℕ) → Type 0
IsCallRefused word arrays c g A3 first second =
    AreTaken word c g × IsLeastPair (AreMeeting c.types arrays c.lanes (words_in word c.types g.texts) (mask_of c.lanes g.bits)) first second
IsCallRefused word arrays c g rule first second = IsRefused word c g rule first second
