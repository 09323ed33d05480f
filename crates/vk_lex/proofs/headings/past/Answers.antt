use Rattle.std.proofs.Common.{List, ℕ, ◌++◌, take, length, sym, ◌∙◌, ap, ap₂}
use Rattle.std.specs.Cmp.Lexicographic.{same_text, other_text}
use Rattle.std.proofs.lemmas.List.{take-append-drop}
use Rattle.std.proofs.Math.Seq.{take-append_seam}
use Rattle.vk_lex.proofs.headings.past.Goals as goal

pub returns-in-Some-clause-front : goal.returns-in-Some-clause-front
returns-in-Some-clause-front c =
    sym (take-append-drop (length c.args.front.now) c.args.text.now)
    ∙ ap₂ (λ (x y : List ℕ). x ++ y) (same_text (take (length c.args.front.now) c.args.text.now) c.args.front.now (sym c.in-Some.ensures.cases.0)) (sym c.in-Some.ensures.cases.1)

pub returns-in-None-clause-none : goal.returns-in-None-clause-none
returns-in-None-clause-none c = λ _ rest e.
    other_text (take (length c.args.front.now) c.args.text.now) c.args.front.now (sym c.in-None.ensures.cases) (ap (take (length c.args.front.now)) e ∙ take-append_seam c.args.front.now rest)
