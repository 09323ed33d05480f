-- Parts of a unit's items, one item after another.
use Rattle.std.specs.Prelude.{◌≡◌, List, [], ◌∷◌, ◌++◌}
use Rattle.std.proofs.Common.{sym, ap, ◌∙◌}
use Rattle.std.proofs.lemmas.List.{append-nil, append_assoc}
use Rattle.vk_ast.specs.Units.{ItemTree}
use Rattle.vk_rules_book.specs.Visits.{Visit, along}

-- with one item more
pub along_push : (part : List ItemTree → ItemTree → List Visit) (before xs : List ItemTree) (x : ItemTree)
    → along part before (xs ++ x ∷ []) ≡ along part before xs ++ part (before ++ xs) x
along_push part before [] x = append-nil _ ∙ ap (λ ys. part ys x) (sym (append-nil before))
along_push part before (y ∷ xs) x =
    ap (λ vs. part before y ++ vs) (along_push part (before ++ y ∷ []) xs x ∙ ap (λ ys. along part (before ++ y ∷ []) xs ++ part ys x) (append_assoc before (y ∷ []) xs))
    ∙ sym (append_assoc (part before y) _ _)
