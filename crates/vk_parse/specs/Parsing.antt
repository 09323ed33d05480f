-- What the tokens of a unit spell, and its first fault of the rules C5 to C7.
use Rattle.std.specs.Prelude.{◌≡◌, ℕ, ◌-◌, ◌≤◌, ◌<◌, List, [], ◌∷◌, length, drop}
use Rattle.vk_ast.specs.Units.{ItemTree}
use Rattle.vk_tokens.specs.declared.tokens.Token.{Token}
use Rattle.vk_unit_rules.specs.declared.rules.UnitRule.{UnitRule}
use Rattle.vk_unit_rules.specs.declared.rules.UnitRule.TheVariants.{C5, C6, C7}
use Rattle.vk_grammar_expr.specs.declared.symbols.Sym.{Sym}
use Rattle.vk_grammar_expr.specs.Texts.{IsPlace, IsDeepPlace}
use Rattle.vk_grammar_unit.specs.Items.{unit_levels}
use Rattle.vk_grammar_unit.specs.Grammar.{AreItems, IsText, IsTextWithin}
use Rattle.vk_parse_words.specs.Lines.{outside}
use Rattle.vk_parse_words.specs.Faults.{IsC7}
use Rattle.vk_parse_directives.specs.Directives.{unit_clauses}

-- the line of what is left; the end stands on the last line
abbrev pub line_left : (last : ℕ) → List Sym → ℕ
line_left last [] = last
line_left last (t ∷ rest) = t.line

module _ (names : List (List ℕ)) (ts : List Token) where
  -- the tokens are those of a unit with these items, whose expressions have at most this height
  pub record Parses (items : List ItemTree) (height : ℕ) : Type 0 where
    pub items_are : AreItems (unit_clauses names ts) items height (outside names ts)

  -- C6 is kept: expressions are at most 64 deep, and statements stand inside at most 64 statements
  pub record IsWithin (items : List ItemTree) (height : ℕ) : Type 0 where
    pub expressions : height ≤ 64
    pub statements : unit_levels items ≤ 65

  -- C7 is kept
  abbrev pub KeepsWords : Type 0
  KeepsWords = (n : ℕ) → IsC7 (outside names ts) n → ⊥

  -- A place of C5, of C6 or of C7, told as the number of tokens left from it on, it included. C5 and C6 are told only where no
  -- C7 is at or before them, C7 only where no C5 is before it; a C6 is before each C5. So the fault told is the first by place,
  -- C7 where it is at the place of another; but where the first is a C6, a later C6, the C5 or the C7 may be told instead.
  abbrev pub IsFaultAt : UnitRule → ℕ → Type 0
  IsFaultAt C5 n = IsPlace (IsText (unit_clauses names ts)) (outside names ts) n × ((m : ℕ) → IsC7 (outside names ts) m → m < n)
  IsFaultAt C6 n = IsDeepPlace (IsText (unit_clauses names ts)) (IsTextWithin (unit_clauses names ts) 64 65) (outside names ts) n
      × ((m : ℕ) → IsC7 (outside names ts) m → m < n)
  IsFaultAt C7 n = IsC7 (outside names ts) n × ((m : ℕ) → IsPlace (IsText (unit_clauses names ts)) (outside names ts) m → m ≤ n)
  IsFaultAt rule n = ⊥

  -- the line of a place
  abbrev pub line_of_place : (last n : ℕ) → ℕ
  line_of_place last n = line_left last (drop (length (outside names ts) - n) (outside names ts))

  -- the fault with its line
  pub record IsFault (last line : ℕ) (rule : UnitRule) : Type 0 where
    pub left : ℕ
    pub at : IsFaultAt rule left
    pub line_is : line ≡ line_of_place last left
