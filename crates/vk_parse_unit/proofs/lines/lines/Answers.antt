use Rattle.std.proofs.Common.{◌≡◌, true, false, ◌∷◌, [], map, arith, rules}
use Rattle.std.proofs.lemmas.List.{map-append}
use Rattle.vk_ast.specs.Directives.{directive_of}
use Rattle.vk_grammar_expr.specs.Symbols.{head}
use Rattle.vk_grammar_unit.specs.Items.{is_line, line_at}
use Rattle.vk_grammar_unit.specs.Inner.Reading.{line, lines}
use Rattle.vk_parse_stmt.proofs.Loops.{begun, turned, stopped, done}
use Rattle.vk_parse_unit.proofs.lines.lines.Goals as goal

pub lines-init : goal.lines-init
unfolding lines
lines-init g c = record {
  so_far = λ turns l. rw c.new-list.ensures (begun (λ k. is_line (line_at k)) (line (g.D.Directives.clauses c.args.directives.now)) turns c.args.syms.now l);
  shorter = omega arith;
}

pub returns-in-Err-clause-value : goal.returns-in-Err-clause-value
returns-in-Err-clause-value g c = λ turns l.
    let goes_on : is_line (line_at (head c.lines.rest.now)) ≡ true = search rules in
    stopped (λ k. is_line (line_at k)) (line (g.D.Directives.clauses c.args.directives.now)) (map directive_of c.lines.list) c.in-Err.fail c.lines.rest.now
    (lines (g.D.Directives.clauses c.args.directives.now) turns c.args.syms.now) goes_on c.in-Err.ensures.value (c.lines.invariant.so_far turns l)

pub lines-preserved : goal.lines-preserved
lines-preserved g c = record {
  so_far = λ turns l.
      let goes_on : is_line (line_at (head c.lines.rest.now)) ≡ true = search rules in
      rw (c.in_ok-push.ensures, map-append directive_of c.lines.list (c.in-Ok.read.0 ∷ []))
      (turned (λ k. is_line (line_at k)) (line (g.D.Directives.clauses c.args.directives.now)) (map directive_of c.lines.list) (directive_of c.in-Ok.read.0) c.lines.rest.now c.in-Ok.read.1.now
      (lines (g.D.Directives.clauses c.args.directives.now) turns c.args.syms.now) goes_on c.in-Ok.ensures.value c.in-Ok.ensures.shorter (c.lines.invariant.so_far turns l));
  shorter = omega (arith, c.in-Ok.ensures.shorter, c.lines.invariant.shorter);
}

pub returns-clause-value : goal.returns-clause-value
returns-clause-value g c = λ turns l.
    let ends : is_line (line_at (head c.lines.rest.now)) ≡ false = search rules in
    done (λ k. is_line (line_at k)) (line (g.D.Directives.clauses c.args.directives.now)) (map directive_of c.lines.list) c.lines.rest.now
    (lines (g.D.Directives.clauses c.args.directives.now) turns c.args.syms.now) ends (c.lines.invariant.so_far turns l)
