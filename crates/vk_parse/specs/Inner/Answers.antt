-- What the functions below `parse` tell of the tokens outside directive lines; its own contract is by `Parsing.antt` alone.
use Rattle.std.specs.Prelude.{ℕ, ◌≤◌, ◌-◌, ◌==◌, ◌||◌, cond, nat_lt, List, [], map, drop, length, Option, Some, None, Result, Ok, Err}
use Rattle.std.specs.Global.{Vec}
use Rattle.vk_ast.specs.declared.items.Item.{Item}
use Rattle.vk_ast.specs.Units.{item_of}
use Rattle.vk_tokens.specs.declared.tokens.Token.{Token}
use Rattle.vk_unit_rules.specs.declared.rules.UnitRule.{UnitRule}
use Rattle.vk_unit_rules.specs.declared.rules.UnitRule.TheVariants.{C5, C6, C7}
use Rattle.vk_unit_rules.specs.declared.rules.UnitFail.{UnitFail}
use Rattle.vk_unit_rules.specs.declared.rules.UnitFail.TheVariants.{Fault, Memory as MemoryFail}
use Rattle.vk_grammar_expr.specs.declared.symbols.Sym.{Sym}
use Rattle.vk_parse_words.specs.declared.lines.Syms.{Syms}
use Rattle.vk_parse_words.specs.Lines.{outside}
use Rattle.vk_parse_expr.specs.declared.fail.ReadFail.{ReadFail}
use Rattle.vk_parse_expr.specs.declared.fail.ReadFail.TheVariants as fails
use Rattle.vk_grammar_stmt.specs.Trees.{Clauses}
use Rattle.vk_parse_directives.specs.Directives.{line_clauses}
use Rattle.vk_parse.specs.declared.unit.Miss.{Miss}
use Rattle.vk_parse.specs.declared.unit.Miss.TheVariants.{At, Memory}
use Rattle.vk_parse.specs.Parsing.{Parses, IsWithin, KeepsWords, IsFaultAt, line_left}

-- the clauses of a line, and none where there is no such line
abbrev pub known_clauses : List (List ℕ) → Syms → Clauses
known_clauses names syms n = cond ((n == 0) || nat_lt (length syms.lines.items) n) [] (line_clauses names syms n)

-- of a place of C5 or C6 and one of C7 the first; C7 where both are one
abbrev pub first_of : UnitRule → ℕ → Option ℕ → Miss
first_of rule left None = At rule left
first_of rule left (Some n) = cond (nat_lt n left) (At rule left) (At C7 n)

-- items, where no words are at fault
abbrev pub in_words : Vec Item → Option ℕ → Result (Vec Item) Miss
in_words items None = Ok items
in_words items (Some n) = Err (At C7 n)

abbrev pub judged : Result (Vec Item) ReadFail → Option ℕ → Result (Vec Item) Miss
judged (Ok items) words = in_words items words
judged (Err (fails.Syntax n)) words = Err (first_of C5 n words)
judged (Err (fails.Deep n)) words = Err (first_of C6 n words)
judged (Err fails.Memory) words = Err Memory

-- a place among so many tokens
abbrev pub IsLeft : ℕ → Miss → Type 0
IsLeft count (At rule left) = left ≤ count
IsLeft count Memory = Unit {0}

abbrev pub told : (last : ℕ) → List Sym → Miss → UnitFail
told last syms (At rule left) = Fault (line_left last (drop (length syms - left) syms)) rule
told last syms Memory = MemoryFail

module _ (names : List (List ℕ)) (ts : List Token) where
  abbrev pub IsAnswer : Result (Vec Item) Miss → Type 0
  IsAnswer (Ok v) = (h : ℕ) × (Parses names ts (map item_of v.items) h × (IsWithin names ts (map item_of v.items) h × KeepsWords names ts))
  IsAnswer (Err (At rule left)) = IsFaultAt names ts rule left × (left ≤ length (outside names ts))
  IsAnswer (Err Memory) = Unit {0}
