use Rattle.std.proofs.Common.{◌≡◌, true, false, ◌∷◌, [], map, Some, None, arith, rules}
use Rattle.std.proofs.lemmas.List.{map-append}
use Rattle.vk_ast.specs.Tree.{expr_of}
use Rattle.vk_tokens.specs.declared.tokens.Mark.TheVariants as mark
use Rattle.vk_grammar_expr.specs.Symbols.{head, is_sign}
use Rattle.vk_parse_expr.specs.Inner.Answers.{seen}
use Rattle.vk_grammar_unit.specs.Inner.Reading.{values}
use Rattle.vk_parse_unit.specs.Inner.Answers.{behind_comma}
use Rattle.vk_parse_unit.proofs.Values.{comma_shorter, values_begun, value_turned, value_last, value_stopped, values_done}
use Rattle.vk_parse_unit.proofs.objects.values.Goals as goal

pub values-init : goal.values-init
values-init c = record { so_far = λ turns l. rw c.new-list.ensures (values_begun turns c.args.syms.now l); shorter = omega arith }

pub returns-in-Err-clause-value : goal.returns-in-Err-clause-value
returns-in-Err-clause-value c = λ turns l.
    let inside : is_sign mark.CloseBrace (head c.values.rest.now) ≡ false = search rules in
    value_stopped turns (map expr_of c.values.list) c.in-Err.fail c.values.rest.now (values 63 turns c.args.syms.now) inside
    (c.in-Err.ensures.value turns (omega (arith, l, c.values.invariant.shorter))) (c.values.invariant.so_far turns l)

pub returns-in_default-clause-value : goal.returns-in_default-clause-value
returns-in_default-clause-value c = λ turns l.
    let inside : is_sign mark.CloseBrace (head c.values.rest.now) ≡ false = search rules in
    let alone : behind_comma c.in-Ok.read.1.now ≡ None = search rules in
    rw (c.in_ok-push.ensures, map-append expr_of c.values.list (c.in-Ok.read.0.expr ∷ []))
    (value_last turns (map expr_of c.values.list) (seen c.in-Ok.read.0) c.values.rest.now c.in-Ok.read.1.now (values 63 turns c.args.syms.now) inside
    (c.in-Ok.ensures.value turns (omega (arith, l, c.values.invariant.shorter))) alone (c.values.invariant.so_far turns l))

pub values-preserved : goal.values-preserved
values-preserved c =
    let comma : behind_comma c.in-Ok.read.1.now ≡ Some c.in-Some.next.now = cc in
    let less = comma_shorter c.in-Ok.read.1.now c.in-Some.next.now comma in
    record {
      so_far = λ turns l.
          let inside : is_sign mark.CloseBrace (head c.values.rest.now) ≡ false = search rules in
          rw (c.in_ok-push.ensures, map-append expr_of c.values.list (c.in-Ok.read.0.expr ∷ []))
          (value_turned turns (map expr_of c.values.list) (seen c.in-Ok.read.0) c.values.rest.now c.in-Ok.read.1.now c.in-Some.next.now (values 63 turns c.args.syms.now) inside
          (c.in-Ok.ensures.value turns (omega (arith, l, c.values.invariant.shorter))) comma (omega (arith, less, c.in-Ok.ensures.shorter)) (c.values.invariant.so_far turns l));
      shorter = omega (arith, less, c.in-Ok.ensures.shorter, c.values.invariant.shorter);
    }

pub returns-clause-value : goal.returns-clause-value
returns-clause-value c = λ turns l.
    let ends : is_sign mark.CloseBrace (head c.values.rest.now) ≡ true = search rules in
    values_done turns (map expr_of c.values.list) c.values.rest.now (values 63 turns c.args.syms.now) ends (c.values.invariant.so_far turns l)
