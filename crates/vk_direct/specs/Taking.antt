-- On which words an entry may be called from outside.
use Rattle.std.specs.Prelude.{ℕ, ◌^◌, ◌==◌, nat_le, nat_lt, Bool, true, false, ◌&&◌, List, [], ◌∷◌, length, take, drop, slice_get}
use Rattle.std.specs.List.{list_all}
use Rattle.vk_types.specs.declared.types.Word.{Word}
use Rattle.vk_kinds.specs.declared.heads.CType.{CType}
use Rattle.vk_kinds.specs.declared.heads.CType.TheVariants.{Void, Int, Ptr}
use Rattle.vk_code.specs.Listing.{Listing}
use Rattle.vk_code.specs.Tests.{holds}
use Rattle.vk_code.specs.Valid.{is_canonical}
use Rattle.vk_object.specs.Images.{code_of}
use Rattle.vk_object.specs.Tables.{EntryLists, Tables}

-- a word of the type; a pointer may have any pattern
abbrev pub is_word_of : CType → Word → Bool
is_word_of Void w = false
is_word_of (Int t) w = is_canonical t w.0
is_word_of (Ptr t written) w = true

-- for each type one word of it for each lane, and no more words
abbrev pub are_words_of : ℕ → List CType → List Word → Bool
are_words_of lanes [] words = length words == 0
are_words_of lanes (t ∷ ts) words = nat_le lanes (length words) && list_all (is_word_of t) (take lanes words) && are_words_of lanes ts (drop lanes words)

-- the code has parameters of the words' types
abbrev pub takes_words : ℕ → List Word → Listing → Bool
takes_words lanes words c = nat_le c.routine.params (length c.routine.regs) && are_words_of lanes (take c.routine.params c.routine.regs) words

-- entry e, a number of 32 bits, has so many lanes and such parameters
abbrev pub takes_call : Tables → ℕ → ℕ → List Word → Bool
takes_call image e lanes words =
    nat_lt e (2 ^ 32) && holds (λ (x : EntryLists). (lanes == x.lanes) && holds (takes_words lanes words) (code_of image x)) (slice_get image.entries e)
