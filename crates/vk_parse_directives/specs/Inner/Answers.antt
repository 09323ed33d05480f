-- What the code answers, against the reader on lists of tokens.
use Rattle.std.specs.Prelude.{◌≡◌, Option, Some, None, Result, Ok, Err}
use Rattle.vk_parse_directives.specs.declared.miss.Miss.{Miss}
use Rattle.vk_parse_directives.specs.declared.miss.Miss.TheVariants as miss

-- what is missed is of no form, unless memory ran out
abbrev pub Misses : {A : Type 0} → Miss → Option A → Type 0
Misses miss.NoForm read = read ≡ None
Misses miss.Memory read = Unit {0}

-- what the code answers, seen by `view`, is what the reader gives, unless memory ran out
abbrev pub Gives : {A B : Type 0} → (A → B) → Result A Miss → Option B → Type 0
Gives view (Ok x) read = read ≡ Some (view x)
Gives view (Err m) read = Misses m read
