-- What the code answers, against the readers on lists of tokens.
use Rattle.std.specs.Borrow.{Bor}
use Rattle.std.specs.Prelude.{◌≡◌, ℕ, List, Result, Ok, Err}
use Rattle.vk_ast.specs.Tree.{Trees, expr_of}
use Rattle.vk_grammar_expr.specs.declared.symbols.Sym.{Sym}
use Rattle.vk_grammar_expr.specs.Grammar.{Tall, tall, trees_in, greatest}
use Rattle.vk_grammar_expr.specs.Inner.Parser.{Fault, Syntax, Deep, Parser, pure, ◌>>=◌}
use Rattle.vk_parse_expr.specs.declared.fail.ReadFail.{ReadFail}
use Rattle.vk_parse_expr.specs.declared.fail.ReadFail.TheVariants as fails
use Rattle.vk_parse_expr.specs.declared.nodes.High.{High}

-- an expression as a tree with its height
abbrev pub seen : High → Tall
seen x = tall (expr_of x.expr) x.height

-- a fault of the code is that of the reader, unless memory ran out
abbrev pub Fails : {A : Type 0} → ReadFail → Result A Fault → Type 0
Fails (fails.Syntax n) read = read ≡ Err (Syntax n)
Fails (fails.Deep n) read = read ≡ Err (Deep n)
Fails fails.Memory read = Unit {0}

-- what the code answers, seen by `view`, is what the reader gives, unless memory ran out
abbrev pub Gives : {A B : Type 0} → (A → B) → Result A ReadFail → Result B Fault → Type 0
Gives view (Ok x) read = read ≡ Ok (view x)
Gives view (Err fail) read = Fails fail read

-- this tree, unless memory ran out
abbrev pub Gets : Result High ReadFail → Tall → Type 0
Gets (Ok x) t = seen x ≡ t
Gets (Err fail) t = fail ≡ fails.Memory

-- an expression and the tokens that are left
abbrev pub Reads : Result (High × Bor (List Sym)) ReadFail → Result (Tall × List Sym) Fault → Type 0
Reads = Gives (λ x. (seen x.0, x.1.now))

-- a list of arguments by its trees and the greatest height
abbrev pub summed : Parser (List Tall) → Parser (Trees × ℕ)
summed p = p >>= (λ list. pure (trees_in list, greatest list))
