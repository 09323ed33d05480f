use Rattle.std.proofs.Common.{List, ℕ, subst}
use Rattle.vk_ast.specs.Names.{AreDistinct}
use Rattle.vk_ast.proofs.Adding.{distinct}
use Rattle.vk_ast.proofs.names.NameTable.len.Goals as goal

pub returns-clause-distinct : goal.returns-clause-distinct
returns-clause-distinct c = subst (λ (ts : List (List ℕ)). AreDistinct ts) c.self.view_is (distinct c.self.inside.texts.keys c.len.ensures.unique)
