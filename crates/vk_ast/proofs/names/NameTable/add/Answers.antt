use Rattle.std.proofs.Common.{◌≡◌, List, ℕ, sym, subst, ◌∙◌, rules}
use Rattle.vk_ast.specs.Names.{texts_of, IsAdded}
use Rattle.vk_ast.proofs.Adding.{there, added}
use Rattle.vk_ast.proofs.names.NameTable.add.Goals as goal

pub returns-in-Some-clause-added : goal.returns-in-Some-clause-added
returns-in-Some-clause-added c =
    subst (λ (ts : List (List ℕ)). IsAdded ts ts c.args.text.now c.in-Some.at) c.self.view_is
    (there c.args.text.now c.self.inside.texts.keys c.in-Some.at (sym c.get_index_of.ensures.index ∙ c.in-Some.is) c.len-count.ensures.unique)

pub returns-clause-added : goal.returns-clause-added
returns-clause-added c =
    let key = c.extend_from_slice.new.self in
    let is : key.items ≡ c.args.text.now = search rules in
    let new = texts_of c.insert_full.new.self in
    let done = added key c.self.inside.texts.keys c.insert_full.new.self.keys c.in_ok-at.at c.in_ok-at.ensures.keys c.in_ok-at.ensures.unique c.in_ok-at.ensures.stored in
    subst (λ (ts : List (List ℕ)). IsAdded ts new c.args.text.now c.in_ok-at.at) c.self.view_is
    (subst (λ (t : List ℕ). IsAdded (texts_of c.self.inside.texts) new t c.in_ok-at.at) is done)
