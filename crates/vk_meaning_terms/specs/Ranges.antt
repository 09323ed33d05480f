-- Numbers that are in the range of their types, in values, variables and memory.
use Rattle.std.specs.Prelude.{◌≡◌, ◌<◌, ℕ, List, Option, Some}
use Rattle.vk_types.specs.declared.types.Ty.{Ty}
use Rattle.vk_types.specs.Numbers.{IsInRange, IsCanonical}
use Rattle.vk_kinds.specs.declared.heads.CType.{CType}
use Rattle.vk_kinds.specs.declared.heads.CType.TheVariants.{Void, Int, Ptr}
use Rattle.vk_ast.specs.declared.names.NameId.{NameId}
use Rattle.vk_rules_book.specs.declared.typings.Typing.{Typing}
use Rattle.vk_rules_book.specs.Scopes.{Scope, Meaning, a_function, meaning_of}
use Rattle.vk_rules_book.specs.Typings.{number_type}
use Rattle.vk_meaning.specs.World.{Array, array_at, Memory, World}
use Rattle.vk_meaning.specs.Data.{Datum, number_in, got}
use Rattle.vk_meaning.specs.Points.{Variable, variable_named}
use Rattle.vk_meaning.specs.Expressions.{Context, Variables}

-- where the type is an integer type, the number is one of it; a pointer and nothing count as 0
abbrev pub IsNumberOf : CType → Datum → Type 0
IsNumberOf Void d = Unit {0}
IsNumberOf (Int t) d = IsInRange t (number_in d)
IsNumberOf (Ptr to written) d = Unit {0}

-- where an expression of this type gives a number, it is one of the number's type
abbrev pub IsNumberOfTyping : Typing → Datum → Type 0
IsNumberOfTyping typing d = (t : Ty) → number_type typing ≡ Some t → IsInRange t (number_in d)

-- the visible variables have numbers of their types
abbrev pub AreRanged : Scope → Variables → Type 0
AreRanged scope vs = (id : NameId) (x : Variable) → variable_named scope id ≡ Some x → IsNumberOf x.ctype (vs x.number)

abbrev pub result_in : Option Meaning → CType
result_in (Some (a_function result params is_simd)) = result
result_in _ = Void

-- calls give numbers of the types that they are declared with
abbrev pub CallsAreRanged : Context → Scope → Type 0
CallsAreRanged c scope = (id : NameId) (ds : List Datum) (w w' : World) (d : Datum) → c.call id ds w ≡ got d w' → IsNumberOf (result_in (meaning_of scope id)) d

-- each element of an array has a word of its type
abbrev pub HasWords : List Array → Memory → Type 0
HasWords arrays m = (a i : ℕ) → i < (array_at arrays a).length → IsCanonical (array_at arrays a).ty (m a i)
