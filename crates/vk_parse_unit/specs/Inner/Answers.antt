-- What the code answers, against the readers of units on lists of tokens.
use Rattle.std.specs.Borrow.{Bor}
use Rattle.std.specs.Prelude.{ℕ, cond, List, [], ◌∷◌, map, Option, Some, None, Result}
use Rattle.std.specs.List.{prefix_len}
use Rattle.std.specs.Option.{option_map}
use Rattle.vk_ast.specs.declared.items.Item.{Item}
use Rattle.vk_ast.specs.declared.items.ParamDecl.{ParamDecl}
use Rattle.vk_ast.specs.Tree.{expr_of}
use Rattle.vk_ast.specs.Units.{ItemTree, item_of}
use Rattle.vk_tokens.specs.declared.tokens.Mark.TheVariants as mark
use Rattle.vk_grammar_expr.specs.declared.symbols.Sym.{Sym}
use Rattle.vk_grammar_expr.specs.Inner.Parser.{Fault, Parser, pure, look, pick, many, ◌>>=◌}
use Rattle.vk_grammar_expr.specs.Symbols.{is_sign}
use Rattle.vk_grammar_stmt.specs.Trees.{Clauses}
use Rattle.vk_parse_expr.specs.declared.fail.ReadFail.{ReadFail}
use Rattle.vk_parse_expr.specs.Inner.Answers.{Gives}
use Rattle.vk_parse_unit.specs.declared.nodes.Named.{Named}
use Rattle.vk_parse_unit.specs.declared.nodes.ObjectType.{ObjectType}
use Rattle.vk_parse_unit.specs.declared.nodes.Initial.{Initial}
use Rattle.vk_grammar_unit.specs.Items as items
use Rattle.vk_grammar_unit.specs.Items.{is_qualifier, is_end, lost_lines}
use Rattle.vk_grammar_unit.specs.Inner.Reading.{lines, item, object, later_object}

-- names, types of objects and initialisers as the grammar has them
abbrev pub named_of : Named → items.Named
named_of n = record { line = n.line; token = n.token; name = n.id }

abbrev pub type_of : ObjectType → items.ObjectType
type_of t = record { ty = t.ty; fixed = t.fixed; outside = t.outside }

abbrev pub initial_of : Initial → items.Initial
initial_of i = record { items = option_map (map expr_of) i.items; braced = i.braced; line = i.line; token = i.token }

-- a parameter and the tokens that are left
abbrev pub ReadsParam : Result (ParamDecl × Bor (List Sym)) ReadFail → Result (ParamDecl × List Sym) Fault → Type 0
ReadsParam = Gives (λ x. (x.0, x.1.now))

-- an item, or items, and the tokens that are left
abbrev pub ReadsItem : Result (Item × Bor (List Sym)) ReadFail → Result (ItemTree × List Sym) Fault → Type 0
ReadsItem = Gives (λ x. (item_of x.0, x.1.now))

abbrev pub ReadsItems : Result (List Item × Bor (List Sym)) ReadFail → Result (List ItemTree × List Sym) Fault → Type 0
ReadsItems = Gives (λ x. (map item_of x.0, x.1.now))

-- how many of the first tokens are qualifiers
abbrev pub qualifier_count : List Sym → ℕ
qualifier_count w = prefix_len (λ t. is_qualifier (Some t.kind)) w

-- the lines of directives that stand here, and the item behind them or the end
abbrev pub next_item : Clauses → (turns : ℕ) → Parser (List ItemTree)
next_item clauses turns = lines clauses turns >>= (λ ls. look (λ s. pick (is_end s) (pure (lost_lines ls)) (item clauses 63 65 turns ls)))

-- the tokens behind a comma that stands here
abbrev pub behind_comma : List Sym → Option (List Sym)
behind_comma [] = None
behind_comma (t ∷ rest) = cond (is_sign mark.Comma (Some t.kind)) (Some rest) None

-- the objects of a declaration before the `;`, behind the name of the first
abbrev pub object_list : items.ObjectType → items.Named → (turns : ℕ) → Parser (List ItemTree)
object_list of n turns = object 63 turns of n >>= (λ first. many turns (is_sign mark.Comma) (later_object 63 turns of) >>= (λ rest. pure (first ∷ rest)))
