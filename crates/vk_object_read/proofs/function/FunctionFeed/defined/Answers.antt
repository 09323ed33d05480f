use Rattle.std.proofs.Common.{◌∙◌, refl}
use Rattle.vk_object_read.specs.Inner.LeftFunction.{after_scalar}
use Rattle.vk_object_read.proofs.function.FunctionFeed.defined.Goals as goal

pub returns-then-defined : goal.returns-then-defined
returns-then-defined g c = λ at next.
    let s = c.args.self.now in
    c.code_feed.ensures at (after_scalar s.functions s.function next) ∙ rw (c.if-defined.true) refl
