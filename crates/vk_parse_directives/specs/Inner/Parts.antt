-- The modifiers of `linear` as the code sums them up.
use Rattle.std.specs.Prelude.{◌≡◌, List, Option, Some, None, Result, Ok, Err}
use Rattle.std.specs.Option.{option_map}
use Rattle.vk_ast.specs.declared.directives.Modifier.{Modifier}
use Rattle.vk_ast.specs.declared.directives.Modifier.TheVariants as modifier
use Rattle.vk_ast.specs.Tree.{Tree, expr_of}
use Rattle.vk_parse_directives.specs.declared.miss.Miss.{Miss}
use Rattle.vk_parse_directives.specs.declared.clauses.Part.{Part as PartOf}
use Rattle.vk_parse_directives.specs.declared.clauses.Part.TheVariants.{Worded, Step}
use Rattle.vk_parse_directives.specs.declared.clauses.Modifiers.{Modifiers}
use Rattle.vk_parse_directives.specs.Clauses.{Part, worded, step, modifier_in, step_in}
use Rattle.vk_parse_directives.specs.Inner.Answers.{Misses}

abbrev pub part_of : PartOf → Part
part_of (Worded m) = worded m
part_of (Step e) = step (expr_of e)

-- the word and the step with one modifier more
abbrev pub next_word : Option Modifier → Modifier → Modifier
next_word None m = m
next_word (Some before) m = modifier.Other

abbrev pub word_after : Option Tree → Option Modifier → Option Modifier
word_after None word = word
word_after (Some first) word = Some modifier.Other

abbrev pub step_after : Option Tree → Tree → Option Tree
step_after None e = Some e
step_after (Some first) e = Some first

-- these modifiers say together what was summed up
pub record IsSum (m : Modifiers) (parts : List Part) : Type 0 where
  pub word : m.word ≡ modifier_in parts
  pub step_is : option_map expr_of m.step ≡ step_in parts

abbrev pub IsSumOf : Modifiers → Option (List Part) → Type 0
IsSumOf m (Some parts) = IsSum m parts
IsSumOf m None = ⊥

-- what the code sums up are the modifiers that the reader gives, unless memory ran out
abbrev pub Sums : Result Modifiers Miss → Option (List Part) → Type 0
Sums (Ok m) read = IsSumOf m read
Sums (Err m) read = Misses m read
