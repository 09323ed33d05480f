use Rattle.std.proofs.Common.{true, false}
use Rattle.vk_rules_book.specs.Directives.{is_listed}
use Rattle.vk_rules_directives.specs.Inner.Tables.{lists_uniform}
use Rattle.vk_rules_directives.proofs.Listed.{cleared, listed_named, uniform_named}
use Rattle.vk_rules_directives.proofs.directives.Marks.clear.Goals as goal

pub returns : goal.returns
returns c =
    let entries = c.args.entries.now in
    record {
      uniform = cleared c.forget.new.set c.args.self.now.uniform (lists_uniform entries) entries c.requires.uniform c.forget.ensures (uniform_named entries);
      shaped = cleared c.forget-2.new.set c.args.self.now.shaped (is_listed false entries) entries c.requires.shaped c.forget-2.ensures (listed_named false entries);
      aligned = cleared c.forget-3.new.set c.args.self.now.aligned (is_listed true entries) entries c.requires.aligned c.forget-3.ensures (listed_named true entries);
    }
