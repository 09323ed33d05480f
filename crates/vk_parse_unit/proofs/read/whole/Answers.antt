use Rattle.std.proofs.Common.{◌≡◌, ◌<◌, length, map, arith, rules}
use Rattle.std.proofs.lemmas.List.{map-append}
use Rattle.vk_ast.specs.Units.{item_of}
use Rattle.vk_grammar_unit.specs.Inner.Reading.{items}
use Rattle.vk_parse_unit.proofs.Units.{items_begun, items_turned, items_stopped, items_done}
use Rattle.vk_parse_unit.proofs.read.whole.Goals as goal

pub items-init : goal.items-init
items-init g c = record {
  so_far = λ turns l. rw c.new-list.ensures (items_begun (g.D.Directives.clauses c.args.directives.now) turns c.args.syms.now l);
  shorter = omega arith;
}

pub returns-in-Err : goal.returns-in-Err
returns-in-Err g c = λ turns l.
    items_stopped (g.D.Directives.clauses c.args.directives.now) turns (map item_of c.items.list) c.in-Err.fail c.items.rest.now
    (items (g.D.Directives.clauses c.args.directives.now) 63 65 turns turns c.args.syms.now) (c.in-Err.ensures.value turns (omega (arith, l, c.items.invariant.shorter))) (c.items.invariant.so_far turns l)

pub items-preserved : goal.items-preserved
items-preserved g c =
    let some : 0 < length c.items.rest.now = search rules in
    let less = c.in-Ok.ensures.onwards some in
    record {
      so_far = λ turns l.
          rw (c.in_ok-append.ensures, map-append item_of c.items.list c.in-Ok.read.0)
          (items_turned (g.D.Directives.clauses c.args.directives.now) turns (map item_of c.items.list) (map item_of c.in-Ok.read.0) c.items.rest.now c.in-Ok.read.1.now
          (items (g.D.Directives.clauses c.args.directives.now) 63 65 turns turns c.args.syms.now) (c.in-Ok.ensures.value turns (omega (arith, l, c.items.invariant.shorter))) less
          (c.items.invariant.so_far turns l));
      shorter = omega (arith, less, c.items.invariant.shorter);
    }

pub returns : goal.returns
returns g c = λ turns l.
    let ends : length c.items.rest.now ≡ 0 = search rules in
    items_done (g.D.Directives.clauses c.args.directives.now) turns (map item_of c.items.list) c.items.rest.now
    (items (g.D.Directives.clauses c.args.directives.now) 63 65 turns turns c.args.syms.now) ends (c.items.invariant.so_far turns l)
