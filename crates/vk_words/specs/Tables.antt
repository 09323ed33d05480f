-- The tables of options and values of the commands.
use Rattle.std.specs.Prelude.{ℕ, List, [], ◌∷◌, Some, codes, true}
use Rattle.clap.specs.Words.{App, Rule, Text, new_app, new_rule}
use Rattle.clap.specs.Simple.{on_top}
use Rattle.clap.specs.declared.builder.action.ArgAction.TheVariants.{Set, Append, SetTrue}

-- `--name VALUE`
abbrev pub option_rule : Text → Rule
option_rule name = record (new_rule name) { long = Some name; action = Some Set }

-- `-c VALUE`, under this name
abbrev pub letter_rule : Text → ℕ → Rule
letter_rule name c = record (new_rule name) { short = Some c; action = Some Set }

-- `--name`
abbrev pub flag_rule : Text → Rule
flag_rule name = record (new_rule name) { long = Some name; action = Some SetTrue }

-- one value by its place
abbrev pub place_rule : Text → Rule
place_rule name = record (new_rule name) { action = Some Set }

-- any number of values, the last
abbrev pub rest_rule : Text → Rule
rest_rule name = record (new_rule name) { action = Some Append }

abbrev pub required : Rule → Rule
required r = record r { required = true }

abbrev pub table : Text → List Rule → App
table name rules = on_top (λ s. record s { rules = rules }) (new_app name)

-- call [--mask BITS] [--turns N] IMG NAME ARG..
abbrev pub call_table : App
call_table = table (codes "call") (option_rule (codes "mask") ∷ option_rule (codes "turns")
    ∷ required (place_rule (codes "IMG")) ∷ required (place_rule (codes "NAME")) ∷ rest_rule (codes "ARG") ∷ [])

-- link --isa I [--vl V] -o IMG OBJ..
abbrev pub link_table : App
link_table = table (codes "link") (required (option_rule (codes "isa")) ∷ option_rule (codes "vl")
    ∷ required (letter_rule (codes "o") 111) ∷ required (place_rule (codes "OBJ")) ∷ rest_rule (codes "MORE") ∷ [])

-- run [--turns N] [--stats] IMG
abbrev pub run_table : App
run_table = table (codes "run") (option_rule (codes "turns") ∷ flag_rule (codes "stats")
    ∷ required (place_rule (codes "IMG")) ∷ [])

-- mangle --target T UNIT
abbrev pub mangle_table : App
mangle_table = table (codes "mangle") (required (option_rule (codes "target")) ∷ required (place_rule (codes "UNIT")) ∷ [])

-- demangle FILE
abbrev pub demangle_table : App
demangle_table = table (codes "demangle") (required (place_rule (codes "FILE")) ∷ [])

-- clone --target T -o OBJ UNIT
abbrev pub clone_table : App
clone_table = table (codes "clone") (required (option_rule (codes "target")) ∷ required (letter_rule (codes "o") 111)
    ∷ required (place_rule (codes "UNIT")) ∷ [])

-- lanes --isa b UNIT NAME ARG..
abbrev pub lanes_table : App
lanes_table = table (codes "lanes") (required (option_rule (codes "isa")) ∷ required (place_rule (codes "UNIT"))
    ∷ required (place_rule (codes "NAME")) ∷ rest_rule (codes "ARG") ∷ [])

-- gen --isa I [--vl V] N
abbrev pub gen_table : App
gen_table = table (codes "gen") (required (option_rule (codes "isa")) ∷ option_rule (codes "vl") ∷ required (place_rule (codes "N")) ∷ [])

-- read or all --isa I [--vl V] [--turns N] UNIT..
abbrev pub units_table : Text → App
units_table name = table name (required (option_rule (codes "isa")) ∷ option_rule (codes "vl") ∷ option_rule (codes "turns")
    ∷ required (place_rule (codes "UNIT")) ∷ rest_rule (codes "MORE") ∷ [])
