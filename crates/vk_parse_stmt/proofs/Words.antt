-- `const` among tokens, as the code looks for it.
use Rattle.std.proofs.Common.{◌≡◌, ◌||◌, List, [], ◌∷◌, Some, refl, ap}
use Rattle.std.specs.List.{list_any}
use Rattle.vk_grammar_expr.specs.declared.symbols.Sym.{Sym}
use Rattle.vk_grammar_expr.specs.declared.symbols.Keyword.TheVariants as keyword
use Rattle.vk_grammar_stmt.specs.Words.{is_keyword, has_const}
use Rattle.vk_parse_stmt.specs.Inner.Answers.{is_const}

pub any_const : (w : List Sym) → list_any (λ (t : Sym). is_const t.kind) w ≡ has_const w
unfolding has_const
any_const [] = refl
any_const (t ∷ w) = ap (λ b. is_keyword keyword.Const (Some t.kind) || b) (any_const w)
