-- What is kept of each function of an accepted unit.
use Rattle.std.specs.Prelude.{◌≡◌, ⊤, ◌≤◌, length, true, List, [], ◌∷◌, map}
use Rattle.vk_kinds.specs.Sizes.{head_types, signature_tree}
use Rattle.vk_ast.specs.Units.{FunctionTree}
use Rattle.vk_rules_book.specs.Directives.{have_signatures, signatures}
use Rattle.vk_rules_book.specs.Signatures.{head_of}
use Rattle.vk_rules.specs.declared.entries.Entry.{Entry}

pub record IsEntry (f : FunctionTree) (e : Entry) : Type 0 where
  pub name : e.name ≡ f.name
  pub head : head_types e.head ≡ head_of f
  pub signatures_are : map signature_tree e.signatures.items ≡ signatures f
  -- its directives break no rule, and it has no parameter too many
  pub sound : have_signatures f ≡ true
  pub count : length f.params ≤ 64

-- one for each function, in their order
abbrev pub AreEntries : List FunctionTree → List Entry → Type 0
AreEntries [] [] = ⊤
AreEntries [] (e ∷ es) = ⊥
AreEntries (f ∷ fs) [] = ⊥
AreEntries (f ∷ fs) (e ∷ es) = IsEntry f e × AreEntries fs es
