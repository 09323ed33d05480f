use Rattle.std.proofs.Common.{◌≡◌, true, false, Err, arith, rules, lt-ltb}
use Rattle.vk_tokens.specs.declared.tokens.Mark.TheVariants as mark
use Rattle.vk_grammar_expr.specs.Symbols.{head}
use Rattle.vk_grammar_expr.specs.Inner.Parser.{expect}
use Rattle.vk_grammar_stmt.specs.Inner.Reading.{is_not, statement, do_loop, for_rest}
use Rattle.vk_parse_stmt.specs.Inner.Answers.{entries}
use Rattle.vk_parse_stmt.proofs.Blocks.{at_first, next_entry, no_entry, at_last}
use Rattle.vk_parse_stmt.proofs.Exits.{not_read, is_err}
use Rattle.vk_parse_stmt.proofs.reader.+reading.Goals as goal

pub do_loop-returns-in_err-rest-2-clause-value : goal.do_loop-returns-in_err-rest-2-clause-value
unfolding do_loop
do_loop-returns-in_err-rest-2-clause-value g t c = λ turns l.
    let same : c.from_residual-in_err-rest-2.result ≡ Err c.in_err-rest-2.field-0.0 = is_err c.from_residual-in_err-rest-2.result c.in_err-rest-2.field-0.0 c.from_residual-in_err-rest-2.ensures.1 in
    rw (
      lt-ltb 0 c.args.below (omega (arith, c.if-below-eq0.false)),
      c.in_ok-first.ensures.value,
      c.in_ok-body.ensures.value turns (omega (arith, l, c.in_ok-first.ensures.shorter)),
      c.in_ok-rest.ensures.value,
      c.in_ok-condition.ensures.value turns (omega (arith, l, c.in_ok-first.ensures.shorter, c.in_ok-body.ensures.shorter, c.in_ok-rest.ensures.shorter)),
    )
    (not_read c.from_residual-in_err-rest-2.result c.in_err-rest-2.field-0.0 (expect mark.Semicolon c.in_ok-condition.rest.now) _ same c.in_err-rest-2.ensures.value)

pub for_rest-returns-in_err-body-clause-value : goal.for_rest-returns-in_err-body-clause-value
unfolding for_rest
for_rest-returns-in_err-body-clause-value g t c = λ turns l.
    let same : c.from_residual-in_err-body.result ≡ Err c.in_err-body.field-0.0 = is_err c.from_residual-in_err-body.result c.in_err-body.field-0.0 c.from_residual-in_err-body.ensures.1 in
    rw (c.in_ok-condition.ensures.value turns l, c.in_ok-third.ensures.value turns (omega (arith, l, c.in_ok-condition.ensures.shorter)))
    (not_read c.from_residual-in_err-body.result c.in_err-body.field-0.0 (statement (g.D.Directives.clauses c.args.directives.now) 63 turns c.args.below c.in_ok-third.rest.now) _ same
    (c.in_err-body.ensures.value turns (omega (arith, l, c.in_ok-condition.ensures.shorter, c.in_ok-third.ensures.shorter))))

pub entries-entries-init : goal.entries-entries-init
entries-entries-init g t c = record {
  so_far = λ turns l. rw c.new-list.ensures (at_first (g.D.Directives.clauses c.args.directives.now) c.args.below turns c.args.syms.now l);
  shorter = omega arith;
}

pub entries-returns-in-Err-clause-value : goal.entries-returns-in-Err-clause-value
entries-returns-in-Err-clause-value g t c = λ turns l.
    let inside : is_not mark.CloseBrace (head c.entries.rest.now) ≡ true = search rules in
    no_entry (g.D.Directives.clauses c.args.directives.now) c.args.below turns c.entries.list c.in-Err.fail c.entries.rest.now
    (entries (g.D.Directives.clauses c.args.directives.now) c.args.below turns c.args.syms.now) inside
    (c.in-Err.ensures.value turns (omega (arith, l, c.entries.invariant.shorter))) (c.entries.invariant.so_far turns l)

pub entries-entries-preserved : goal.entries-entries-preserved
entries-entries-preserved g t c = record {
  so_far = λ turns l.
      let inside : is_not mark.CloseBrace (head c.entries.rest.now) ≡ true = search rules in
      rw c.in_ok-append.ensures
      (next_entry (g.D.Directives.clauses c.args.directives.now) c.args.below turns c.entries.list c.in-Ok.read.0 c.entries.rest.now c.in-Ok.read.1.now
      (entries (g.D.Directives.clauses c.args.directives.now) c.args.below turns c.args.syms.now) inside
      (c.in-Ok.ensures.value turns (omega (arith, l, c.entries.invariant.shorter))) c.in-Ok.ensures.shorter (c.entries.invariant.so_far turns l));
  shorter = omega (arith, c.in-Ok.ensures.shorter, c.entries.invariant.shorter);
}

pub entries-returns-clause-value : goal.entries-returns-clause-value
entries-returns-clause-value g t c = λ turns l.
    let inside : is_not mark.CloseBrace (head c.entries.rest.now) ≡ false = search rules in
    at_last (g.D.Directives.clauses c.args.directives.now) c.args.below turns c.entries.list c.entries.rest.now
    (entries (g.D.Directives.clauses c.args.directives.now) c.args.below turns c.args.syms.now) inside (c.entries.invariant.so_far turns l)

pub entries-returns-clause-shorter : goal.entries-returns-clause-shorter
entries-returns-clause-shorter g t c = c.entries.invariant.shorter
