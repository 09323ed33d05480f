use Rattle.std.proofs.Common.{◌≡◌, true, false, arith, rules}
use Rattle.vk_tokens.specs.declared.tokens.Mark.TheVariants as mark
use Rattle.vk_grammar_expr.specs.Symbols.{head, is_sign}
use Rattle.vk_grammar_unit.specs.Inner.Reading.{later_param, some_params}
use Rattle.vk_parse_stmt.proofs.Loops.{behind_first, turned, stopped, done}
use Rattle.vk_parse_unit.proofs.params.some_params.Goals as goal

pub params-init : goal.params-init
unfolding some_params
params-init c = record {
  so_far = λ turns l. rw (c.in_ok-push.ensures.items, c.new-list.ensures.items, c.in_ok-first.ensures.value turns l)
      (behind_first (is_sign mark.Comma) (later_param 63 turns) turns c.in_ok-first.first c.in_ok-first.rest.now (omega (arith, l, c.in_ok-first.ensures.shorter)));
  shorter = search rules;
}

pub returns-in-Err-clause-value : goal.returns-in-Err-clause-value
returns-in-Err-clause-value c = λ turns l.
    let comma : is_sign mark.Comma (head c.params.rest.now) ≡ true = search rules in
    stopped (is_sign mark.Comma) (later_param 63 turns) c.params.list.items c.in-Err.fail c.params.rest.now (some_params 63 turns c.args.syms.now) comma
    (c.in-Err.ensures.value turns (omega (arith, l, c.params.invariant.shorter))) (c.params.invariant.so_far turns l)

pub params-preserved : goal.params-preserved
params-preserved c = record {
  so_far = λ turns l.
      let comma : is_sign mark.Comma (head c.params.rest.now) ≡ true = search rules in
      rw c.in_ok-push-2.ensures.items
      (turned (is_sign mark.Comma) (later_param 63 turns) c.params.list.items c.in-Ok.read.0 c.params.rest.now c.in-Ok.read.1.now (some_params 63 turns c.args.syms.now) comma
      (c.in-Ok.ensures.value turns (omega (arith, l, c.params.invariant.shorter))) c.in-Ok.ensures.shorter (c.params.invariant.so_far turns l));
  shorter = omega (arith, c.in-Ok.ensures.shorter, c.params.invariant.shorter);
}

pub returns-clause-value : goal.returns-clause-value
returns-clause-value c = λ turns l.
    let comma : is_sign mark.Comma (head c.params.rest.now) ≡ false = search rules in
    done (is_sign mark.Comma) (later_param 63 turns) c.params.list.items c.params.rest.now (some_params 63 turns c.args.syms.now) comma (c.params.invariant.so_far turns l)
