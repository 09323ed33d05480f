-- The clauses of the directive lines of a unit, by the numbers of the lines.
use Rattle.std.specs.Prelude.{ℕ, List}
use Rattle.vk_ast.specs.Directives.{ClauseTree}
use Rattle.vk_tokens.specs.declared.tokens.Token.{Token}
use Rattle.vk_parse_words.specs.declared.lines.Syms.{Syms}
use Rattle.vk_parse_words.specs.Lines.{clauses}
use Rattle.vk_parse_words.specs.Inner.Syms.{line_of}
use Rattle.vk_parse_directives.specs.Inner.Reading.{clauses_of}

-- by the tokens of the unit
abbrev pub unit_clauses : (names : List (List ℕ)) → List Token → ℕ → List ClauseTree
unit_clauses names ts n = clauses_of names (clauses names ts n)

-- by the tokens as the grammar reads them
abbrev pub line_clauses : (names : List (List ℕ)) → Syms → ℕ → List ClauseTree
line_clauses names syms n = clauses_of names (line_of syms n)
