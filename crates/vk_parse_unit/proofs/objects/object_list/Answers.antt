use Rattle.std.proofs.Common.{◌≡◌, true, false, ◌∷◌, [], map, arith, rules}
use Rattle.std.proofs.lemmas.List.{map-append}
use Rattle.vk_ast.specs.Units.{item_of}
use Rattle.vk_tokens.specs.declared.tokens.Mark.TheVariants as mark
use Rattle.vk_grammar_expr.specs.Symbols.{head, is_sign}
use Rattle.vk_grammar_unit.specs.Inner.Reading.{later_object}
use Rattle.vk_parse_stmt.proofs.Loops.{behind_first, turned, stopped, done}
use Rattle.vk_parse_unit.specs.Inner.Answers.{type_of, named_of, object_list}
use Rattle.vk_parse_unit.proofs.objects.object_list.Goals as goal

pub objects-init : goal.objects-init
objects-init c = record {
  so_far = λ turns l. rw (c.in_ok-push.ensures, c.new-list.ensures, c.in_ok-first.ensures.value turns l)
      (behind_first (is_sign mark.Comma) (later_object 63 turns (type_of c.args.of)) turns (item_of c.in_ok-first.first) c.in_ok-first.rest.now (omega (arith, l, c.in_ok-first.ensures.shorter)));
  shorter = search rules;
}

pub returns-in-Err-clause-value : goal.returns-in-Err-clause-value
returns-in-Err-clause-value c = λ turns l.
    let comma : is_sign mark.Comma (head c.objects.rest.now) ≡ true = search rules in
    stopped (is_sign mark.Comma) (later_object 63 turns (type_of c.args.of)) (map item_of c.objects.list) c.in-Err.fail c.objects.rest.now
    (object_list (type_of c.args.of) (named_of c.args.name) turns c.args.syms.now) comma
    (c.in-Err.ensures.value turns (omega (arith, l, c.objects.invariant.shorter))) (c.objects.invariant.so_far turns l)

pub objects-preserved : goal.objects-preserved
objects-preserved c = record {
  so_far = λ turns l.
      let comma : is_sign mark.Comma (head c.objects.rest.now) ≡ true = search rules in
      rw (c.in_ok-push-2.ensures, map-append item_of c.objects.list (c.in-Ok.read.0 ∷ []))
      (turned (is_sign mark.Comma) (later_object 63 turns (type_of c.args.of)) (map item_of c.objects.list) (item_of c.in-Ok.read.0) c.objects.rest.now c.in-Ok.read.1.now
      (object_list (type_of c.args.of) (named_of c.args.name) turns c.args.syms.now) comma
      (c.in-Ok.ensures.value turns (omega (arith, l, c.objects.invariant.shorter))) c.in-Ok.ensures.shorter (c.objects.invariant.so_far turns l));
  shorter = omega (arith, c.in-Ok.ensures.shorter, c.objects.invariant.shorter);
}

pub returns-clause-value : goal.returns-clause-value
returns-clause-value c = λ turns l.
    let comma : is_sign mark.Comma (head c.objects.rest.now) ≡ false = search rules in
    done (is_sign mark.Comma) (later_object 63 turns (type_of c.args.of)) (map item_of c.objects.list) c.objects.rest.now
    (object_list (type_of c.args.of) (named_of c.args.name) turns c.args.syms.now) comma (c.objects.invariant.so_far turns l)
