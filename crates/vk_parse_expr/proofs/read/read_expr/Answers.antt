use Rattle.vk_parse_expr.proofs.Told.{found, within, only, syntax_at, deep_at}
use Rattle.vk_parse_expr.proofs.read.read_expr.Goals as goal

pub returns : goal.returns
returns c = record {
  found = found c.args.syms.now c.whole.result c.whole.ensures;
  within = within c.args.syms.now c.whole.result c.whole.ensures;
  only = only c.args.syms.now c.whole.result c.whole.ensures;
  syntax = syntax_at c.args.syms.now c.whole.result c.whole.ensures;
  deep = deep_at c.args.syms.now c.whole.result c.whole.ensures;
}
