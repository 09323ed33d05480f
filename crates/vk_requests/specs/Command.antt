-- What the words of a command line ask: one definition for all commands that are built.
use Rattle.std.specs.Prelude.{◌≡◌, List, [], ◌∷◌, Option, Some, None, codes, false}
use Rattle.clap.specs.Words.{App, Text, takes}
use Rattle.vk_words.specs.Tables.{demangle_table, mangle_table}
use Rattle.vk_words.specs.Asked.{IsDemangle, IsMangle, IsMangleUnstated, MangleAsked}
use Rattle.vk_words.specs.Views.{mangle_asked}
use Rattle.vk_words_units.specs.Lanes.{IsLanes, IsLanesUnstated, LanesAsked, lanes_asked, lanes_table}
use Rattle.vk_requests.specs.declared.request.Name.{Name}
use Rattle.vk_requests.specs.declared.request.Name.TheVariants.{Demangle as DemangleName, Lanes as LanesName, Mangle as MangleName}
use Rattle.vk_requests.specs.declared.request.Request.{Request}
use Rattle.vk_requests.specs.declared.request.Request.TheVariants.{Demangle, Lanes, Mangle}
use Rattle.vk_ends.specs.declared.ends.WordRule.{WordRule}
use Rattle.vk_ends.specs.declared.ends.WordRule.TheVariants.{P1, P2, P3, P4}

-- what the program is asked
pub data Command : Type 0 where
  demangle : (file : Text) → Command
  lanes : (r : LanesAsked) → Command
  mangle : (r : MangleAsked) → Command

abbrev pub command_of : Request → Command
command_of (Demangle file) = demangle file.now
command_of (Lanes r) = lanes (lanes_asked r)
command_of (Mangle r) = mangle (mangle_asked r)

-- the command's input files
abbrev pub files_of : Command → List Text
files_of (demangle file) = file ∷ []
files_of (lanes r) = r.unit ∷ []
files_of (mangle r) = r.unit ∷ []

-- the first word
abbrev pub first_word : List Text → Option Text
first_word [] = None
first_word (w ∷ ws) = Some w

abbrev pub name_text : Name → Text
name_text DemangleName = codes "demangle"
name_text LanesName = codes "lanes"
name_text MangleName = codes "mangle"

abbrev pub table_of : Name → App
table_of DemangleName = demangle_table
table_of LanesName = lanes_table
table_of MangleName = mangle_table

-- the first word picks the command
abbrev pub Picks : List Text → Name → Type 0
Picks words name = first_word words ≡ Some (name_text name)

-- the words ask this
abbrev pub IsCommand : List Text → Command → Type 0
IsCommand words (demangle file) = Picks words DemangleName × IsDemangle words file
IsCommand words (lanes r) = Picks words LanesName × IsLanes words r
IsCommand words (mangle r) = Picks words MangleName × IsMangle words r

-- the table takes the words, and a value of the command is not a stated one
abbrev pub IsUnstated : Name → List Text → Type 0
IsUnstated DemangleName words = ⊥
IsUnstated LanesName words = IsLanesUnstated words
IsUnstated MangleName words = IsMangleUnstated words

-- P1: no word; P2: the first is no command; P3: the command's table does not take them; P4: it does, and a value is not a stated one
abbrev pub IsWordFault : List Text → WordRule → Type 0
IsWordFault words P1 = words ≡ []
IsWordFault words P2 = (words ≡ [] → ⊥) × ((name : Name) → Picks words name → ⊥)
IsWordFault words P3 = (name : Name) × Picks words name × (takes (table_of name) words ≡ false)
IsWordFault words P4 = (name : Name) × Picks words name × IsUnstated name words
