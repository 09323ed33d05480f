-- One more line, and the first that is no name.
use Rattle.std.proofs.Common.{◌≡◌, ℕ, ◌∷◌, [], List, Err, sym, subst, ap, ◌∙◌, string_bytes, ◌++◌}
use Rattle.std.specs.List.{concat}
use Rattle.std.proofs.lemmas.List.{append-nil}
use Rattle.std.proofs.lemmas.List.Folds.{concat-append}
use Rattle.std.proofs.lemmas.Result.{err_from_is_err_and}
use Rattle.std.specs.Str.Lines.{lines}
use Rattle.vk_cmd_demangle.specs.Lines.{IsFirstRefused}
use Rattle.vk_cmd_demangle.specs.declared.names.DemangleFail.TheVariants.{Name}
use Rattle.vk_cmd_demangle.proofs.NameLines.{HaveRead, line_number, read_more, read_refused, read_start}
use Rattle.vk_cmd_demangle.proofs.names.demangled.Goals as goal

pub loop-line-init : goal.loop-line-init
loop-line-init c = subst (λ (ls : List (List ℕ)). HaveRead c.args.bytes.now c.args.bytes.now (concat ls) 0) (sym c.new-texts.ensures) (read_start c.args.bytes.now)

pub loop-line-preserved : goal.loop-line-preserved
loop-line-preserved c =
    let text : List ℕ = string_bytes c.write_line.new.text in
    read_more c.args.bytes.now c.loop-line.rest.now c.in-Some.line.now c.in-Some.after.now (concat c.loop-line.texts) text _ c.loop-line.number
    c.loop-line.invariant c.in-Some.ensures.line c.in-Some.ensures.shorter.1 c.in_ok-write_line.ensures.name c.in_ok-write_line.ensures.text
    (ap concat (c.in_ok-push.ensures.ok ∙ ap (λ (t : List ℕ). c.loop-line.texts ++ (t ∷ [])) c.as_bytes.ensures.value)
    ∙ concat-append c.loop-line.texts (text ∷ []) ∙ ap (λ (bs : List ℕ). concat c.loop-line.texts ++ bs) (append-nil text))

pub returns-in_err-write_line-clause-refused : goal.returns-in_err-write_line-clause-refused
returns-in_err-write_line-clause-refused c line at rule is =
    let p = err_from_is_err_and c.from_residual.result c.from_residual.ensures.1 in
    let given : Err c.in_err-write_line.field-0.0 ≡ Err (Name line at rule) = ap Err (sym p.2) ∙ sym p.1 ∙ is in
    let same : c.in_err-write_line.field-0.0 ≡ Name line at rule = cc in
    let here = c.in_err-write_line.ensures.refused line at rule (ap Err same) in
    line_number (λ i. IsFirstRefused (lines c.args.bytes.now) i at rule) line c.loop-line.number here.0
    (read_refused c.args.bytes.now c.loop-line.rest.now c.in-Some.line.now c.in-Some.after.now (concat c.loop-line.texts) c.loop-line.number at rule
    c.loop-line.invariant c.in-Some.ensures.line here.1)
