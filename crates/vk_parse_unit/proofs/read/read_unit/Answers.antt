use Rattle.vk_parse_unit.proofs.Told.{found, within, only, syntax_at, deep_at}
use Rattle.vk_parse_unit.proofs.read.read_unit.Goals as goal

pub returns : goal.returns
returns g c = record {
  found = found (g.D.Directives.clauses c.args.directives.now) c.args.syms.now c.whole_items.result c.whole_items.ensures;
  within = within (g.D.Directives.clauses c.args.directives.now) c.args.syms.now c.whole_items.result c.whole_items.ensures;
  only = only (g.D.Directives.clauses c.args.directives.now) c.args.syms.now c.whole_items.result c.whole_items.ensures;
  syntax = syntax_at (g.D.Directives.clauses c.args.directives.now) c.args.syms.now c.whole_items.result c.whole_items.ensures;
  deep = deep_at (g.D.Directives.clauses c.args.directives.now) c.args.syms.now c.whole_items.result c.whole_items.ensures;
}
