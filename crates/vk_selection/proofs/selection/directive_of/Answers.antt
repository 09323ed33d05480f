use Rattle.std.proofs.Common.{◌≡◌, ◌∙◌, ◌<◌, true, arith, ap, rules, slice_get, sym, length}
use Rattle.std.specs.Str.{bytes_eq}
use Rattle.vk_ast.specs.Units.{FunctionTree}
use Rattle.vk_rules_book.specs.Directives.{signatures}
use Rattle.vk_rules_book.specs.Scopes.{text_of}
use Rattle.vk_rules.specs.Functions.{functions_of}
use Rattle.vk_rules.specs.Verdicts.{judged}
use Rattle.vk_selection.proofs.Lists.{there, told}
use Rattle.vk_selection.proofs.Parts.{directive_more, directive_none, directives_count}
use Rattle.vk_selection.proofs.selection.directive_of.Goals as goal

pub returns-in-Some : goal.returns-in-Some
returns-in-Some c g at =
    let unit = judged c.args.unit.now in
    let count = directives_count unit c.args.function g at in
    let inside : c.loop-directive.directive < length (signatures g) = omega (arith, count, c.directives-directive-end.ensures) in
    let s = there (signatures g) c.loop-directive.directive inside in
    let name : c.name.result.now ≡ text_of unit.texts g.name =
    told (λ (h : FunctionTree). c.name.result.now ≡ text_of unit.texts h.name) (slice_get (functions_of unit) c.args.function) g c.name.ensures at in
    let same : c.is_same.result ≡ true = search rules in
    record {
      name = ap (λ n. bytes_eq n c.args.scalar.now) (sym name) ∙ sym c.is_same.ensures ∙ same;
      signature = s.0;
      directive_is = s.1;
      gives = c.in-Some.ensures g s.0 at s.1;
    }

pub loop-directive-preserved : goal.loop-directive-preserved
loop-directive-preserved c g at =
    directive_more (judged c.args.unit.now) g c.args.scalar.now c.args.params.now c.args.front c.args.vl c.loop-directive.directive (c.loop-directive.invariant g at)
    (λ s is l gives. (rw c.in_default.is at (c.lanes_with.ensures g s at is)) l gives)

pub returns : goal.returns
returns c g at =
    directive_none (judged c.args.unit.now) c.args.function c.loop-directive.directive g c.args.scalar.now c.args.params.now c.args.front c.args.vl at
    (omega (arith, c.directives-directive-end.ensures)) (c.loop-directive.invariant g at)
