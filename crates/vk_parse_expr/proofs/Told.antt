-- What is told of whole expressions, in the words of the grammar.
use Rattle.std.proofs.Common.{◌≡◌, ℕ, suc, ◌≤◌, ◌<◌, List, [], length, Result, Ok, Err, MatchResult, IfOk, refl, sym, ap, ◌∙◌, subst, arith}
use Rattle.vk_ast.specs.Tree.{Tree, expr_of}
use Rattle.vk_grammar_expr.specs.declared.symbols.Sym.{Sym}
use Rattle.vk_grammar_expr.specs.Grammar.{Tall, tall, full, Spells, IsExpression, IsExpressionWithin}
use Rattle.vk_grammar_expr.specs.Inner.Reading.{whole_expression}
use Rattle.vk_grammar_expr.specs.Texts.{IsPlace, IsDeepPlace}
use Rattle.vk_grammar_expr.proofs.Theorem as theorem
use Rattle.vk_parse_expr.specs.declared.fail.ReadFail.{ReadFail}
use Rattle.vk_parse_expr.specs.declared.fail.ReadFail.TheVariants as fails
use Rattle.vk_parse_expr.specs.declared.nodes.High.{High}
use Rattle.vk_parse_expr.specs.Inner.Answers.{seen, Gives}

abbrev Whole : Result High ReadFail → List Sym → Type 0
Whole result ts = (turns : ℕ) → length ts < turns → Gives (λ x. (seen x, [])) result (whole_expression turns 64 ts)

at_turns : (ts : List Sym) (result : Result High ReadFail) → Whole result ts → Gives (λ x. (seen x, [])) result (whole_expression (suc (length ts)) 64 ts)
at_turns ts result is = is (suc (length ts)) (omega arith)

pub found : (ts : List Sym) (result : Result High ReadFail) → Whole result ts → IfOk result (λ x. Spells full (expr_of x.expr) x.height ts)
found ts (Ok x) is = theorem.found (suc (length ts)) 64 ts (seen x) [] (at_turns ts (Ok x) is)
found ts (Err fail) is = tt

pub within : (ts : List Sym) (result : Result High ReadFail) → Whole result ts → IfOk result (λ x. x.height ≤ 64)
within ts (Ok x) is = theorem.within (suc (length ts)) 64 ts (seen x) [] (at_turns ts (Ok x) is)
within ts (Err fail) is = tt

read_so : (ts : List Sym) (e : Tree) (h : ℕ) → Spells full e h ts → h ≤ 64 → whole_expression (suc (length ts)) 64 ts ≡ Ok (tall e h, [])
read_so ts e h s low = theorem.only (suc (length ts)) 64 ts e h s low (omega arith)

pub only : (ts : List Sym) (result : Result High ReadFail) → Whole result ts → (e : Tree) (h : ℕ) → Spells full e h ts → h ≤ 64
    → MatchResult result (λ x. seen x ≡ tall e h) (λ fail. fail ≡ fails.Memory)
only ts (Ok x) is e h s low =
    let same = sym (at_turns ts (Ok x) is) ∙ read_so ts e h s low in
    let pairs : Path (Tall × List Sym) (seen x, []) (tall e h, []) = cc in
    ap (λ (z : Tall × List Sym). z.0) pairs
only ts (Err (fails.Syntax n)) is e h s low = let same = sym (at_turns ts (Err (fails.Syntax n)) is) ∙ read_so ts e h s low in absurd (cc)
only ts (Err (fails.Deep n)) is e h s low = let same = sym (at_turns ts (Err (fails.Deep n)) is) ∙ read_so ts e h s low in absurd (cc)
only ts (Err fails.Memory) is e h s low = refl

pub syntax_at : (ts : List Sym) (result : Result High ReadFail) → Whole result ts → (n : ℕ) → result ≡ Err (fails.Syntax n) → IsPlace IsExpression ts n
syntax_at ts result is n e = theorem.refused (suc (length ts)) 64 ts n (subst (λ r. Gives (λ x. (seen x, [])) r (whole_expression (suc (length ts)) 64 ts)) e (at_turns ts result is))

pub deep_at : (ts : List Sym) (result : Result High ReadFail) → Whole result ts → (n : ℕ) → result ≡ Err (fails.Deep n) → IsDeepPlace IsExpression (IsExpressionWithin 64) ts n
deep_at ts result is n e = theorem.too_deep_at (suc (length ts)) 64 ts n (subst (λ r. Gives (λ x. (seen x, [])) r (whole_expression (suc (length ts)) 64 ts)) e (at_turns ts result is))
