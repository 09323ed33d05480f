use Rattle.std.proofs.Common.{◌≡◌, ◌+◌, true, false, Some, arith, rules}
use Rattle.vk_tokens.specs.declared.tokens.Mark.TheVariants as mark
use Rattle.vk_grammar_expr.specs.Symbols.{head, operator_at, is_sign}
use Rattle.vk_parse_expr.specs.Inner.Answers.{seen, Reads}
use Rattle.vk_parse_expr.proofs.Lists.{first_turn, one_turn, last_turn, no_turn}
use Rattle.vk_parse_expr.proofs.Chains.{operator_read, subscript_read}
use Rattle.vk_parse_expr.proofs.reader.+reading.Goals as goal

pub some_arguments-arguments-init : goal.some_arguments-arguments-init
some_arguments-arguments-init t c = record {
  so_far = λ turns l. rw (c.in_ok-push.ensures, c.new-list.ensures)
      (first_turn c.args.below turns c.in_ok-first.first.expr c.in_ok-first.first.height c.args.syms.now c.in_ok-first.rest.now l c.in_ok-first.ensures.shorter (c.in_ok-first.ensures.value turns l));
  shorter = search rules;
  high = search rules;
}

pub some_arguments-returns-in-Err-clause-value : goal.some_arguments-returns-in-Err-clause-value
some_arguments-returns-in-Err-clause-value t c =
    λ turns l.
    let comma : is_sign mark.Comma (head c.arguments.rest.now) ≡ true = search rules in
    last_turn c.args.below turns c.arguments.list c.arguments.height c.in-Err.fail c.arguments.rest.now _ comma (c.in-Err.ensures.value turns (omega (arith, c.arguments.invariant.shorter))) (c.arguments.invariant.so_far turns l)

pub some_arguments-arguments-preserved : goal.some_arguments-arguments-preserved
some_arguments-arguments-preserved t c = record {
  so_far = λ turns l.
      let comma : is_sign mark.Comma (head c.arguments.rest.now) ≡ true = search rules in
      rw (c.in_ok-push-2.ensures, c.max-height.ensures)
      (one_turn c.args.below turns c.arguments.list c.arguments.height c.in-Ok.read.0.expr c.in-Ok.read.0.height c.arguments.rest.now c.in-Ok.read.1.now _ comma
      (c.in-Ok.ensures.value turns (omega (arith, c.arguments.invariant.shorter))) c.in-Ok.ensures.shorter (c.arguments.invariant.so_far turns l));
  shorter = search rules;
  high = search rules;
}

pub some_arguments-returns-clause-value : goal.some_arguments-returns-clause-value
some_arguments-returns-clause-value t c =
    λ turns l.
    let comma : is_sign mark.Comma (head c.arguments.rest.now) ≡ false = search rules in
    no_turn c.args.below turns c.arguments.list c.arguments.height c.arguments.rest.now _ comma (c.arguments.invariant.so_far turns l)

pub operators-returns-clause-value : goal.operators-returns-clause-value
operators-returns-clause-value t c =
    λ turns m l many.
    let here : operator_at (c.args.n + 1) (head c.args.syms.now) ≡ Some c.in-Some.op = search rules in
    operator_read c.args.below turns c.args.first.line c.args.first.token c.args.syms.now c.in_ok-rest.rest.now c.in_ok-right.rest.now c.in_ok-rest.field-0-0 (seen c.args.left) (seen c.in_ok-right.right)
    (Reads c.operators.result) c.args.n c.in-Some.op (seen c.in_ok-whole.whole) here c.if-left-below.false c.in_ok-rest.ensures.value
    (c.in_ok-right.ensures.value turns (omega (arith, c.in_ok-rest.ensures.shorter))) c.in_ok-whole.ensures
    (λ j i. c.operators.ensures.value turns j (omega (arith, c.in_ok-rest.ensures.shorter, c.in_ok-right.ensures.shorter)) i) m many

pub subscripts-returns-clause-value : goal.subscripts-returns-clause-value
subscripts-returns-clause-value t c =
    λ turns m l many.
    let here : is_sign mark.OpenBracket (head c.args.syms.now) ≡ true = search rules in
    subscript_read c.args.below turns c.args.first.line c.args.first.token c.args.syms.now c.in_ok-rest.rest.now c.in_ok-subscript.rest.now c.in_ok-rest-2.rest.now c.in_ok-rest.field-0-0 c.in_ok-rest-2.field-0-0
    (seen c.args.base) (seen c.in_ok-subscript.subscript)
    (Reads c.subscripts.result) (seen c.in_ok-whole.whole) here c.if-base-below.false c.in_ok-rest.ensures.value
    (c.in_ok-subscript.ensures.value turns (omega (arith, c.in_ok-rest.ensures.shorter))) c.in_ok-rest-2.ensures.value c.in_ok-whole.ensures
    (λ j i. c.subscripts.ensures.value turns j (omega (arith, c.in_ok-rest.ensures.shorter, c.in_ok-subscript.ensures.shorter, c.in_ok-rest-2.ensures.shorter)) i) m many
