use Rattle.std.proofs.Common.{◌≡◌, true, false, [], ◌∷◌, map, arith, rules}
use Rattle.std.proofs.lemmas.List.{map-append}
use Rattle.vk_ast.specs.Statements.{stmt_of}
use Rattle.vk_tokens.specs.declared.tokens.Mark.TheVariants as mark
use Rattle.vk_grammar_expr.specs.Symbols.{head, is_sign}
use Rattle.vk_grammar_stmt.specs.Inner.Reading.{later_local, local_list}
use Rattle.vk_parse_stmt.proofs.Loops.{behind_first, turned, stopped, done}
use Rattle.vk_parse_stmt.proofs.locals.local_list.Goals as goal

pub variables-init : goal.variables-init
unfolding local_list
variables-init c = record {
  so_far = λ turns l. rw (c.in_ok-push.ensures, c.new-list.ensures, c.in_ok-first.ensures.value turns l)
      (behind_first (is_sign mark.Comma) (later_local 63 turns c.args.room c.args.ty c.args.fixed) turns (stmt_of c.in_ok-first.first) c.in_ok-first.rest.now
      (omega (arith, l, c.in_ok-first.ensures.shorter)));
  shorter = search rules;
}

pub returns-in-Err-clause-value : goal.returns-in-Err-clause-value
returns-in-Err-clause-value c = λ turns l.
    let comma : is_sign mark.Comma (head c.variables.rest.now) ≡ true = search rules in
    stopped (is_sign mark.Comma) (later_local 63 turns c.args.room c.args.ty c.args.fixed) _ c.in-Err.fail c.variables.rest.now _ comma
    (c.in-Err.ensures.value turns (omega (arith, l, c.variables.invariant.shorter))) (c.variables.invariant.so_far turns l)

pub variables-preserved : goal.variables-preserved
variables-preserved c = record {
  so_far = λ turns l.
      let comma : is_sign mark.Comma (head c.variables.rest.now) ≡ true = search rules in
      rw (c.in_ok-push-2.ensures, map-append stmt_of c.variables.list (c.in-Ok.read.0 ∷ []))
      (turned (is_sign mark.Comma) (later_local 63 turns c.args.room c.args.ty c.args.fixed) (map stmt_of c.variables.list) (stmt_of c.in-Ok.read.0) c.variables.rest.now c.in-Ok.read.1.now _ comma
      (c.in-Ok.ensures.value turns (omega (arith, l, c.variables.invariant.shorter))) c.in-Ok.ensures.shorter (c.variables.invariant.so_far turns l));
  shorter = search rules;
}

pub returns-clause-value : goal.returns-clause-value
returns-clause-value c = λ turns l.
    let comma : is_sign mark.Comma (head c.variables.rest.now) ≡ false = search rules in
    done (is_sign mark.Comma) (later_local 63 turns c.args.room c.args.ty c.args.fixed) (map stmt_of c.variables.list) c.variables.rest.now _ comma (c.variables.invariant.so_far turns l)
