-- The signatures of directives, and the tests on them.
use Rattle.std.specs.Prelude.{◌≡◌, ℕ, Bool, true, false, cond, ◌&&◌, not, List, [], ◌∷◌, ◌++◌, map, Option, Some, None, is_some, slice_get}
use Rattle.std.specs.List.{list_any, list_all}
use Rattle.std.specs.Option.{option_map}
use Rattle.vk_kinds.specs.declared.kinds.Length.{Length}
use Rattle.vk_kinds.specs.declared.kinds.Signature.{Signature}
use Rattle.vk_kinds.specs.declared.kinds.Target.{Target}
use Rattle.vk_kinds.specs.Sizes.{HeadTypes, SignatureTree, signature_tree}
use Rattle.vk_ast.specs.Directives.{DirectiveTree}
use Rattle.vk_ast.specs.declared.items.Function.{Function}
use Rattle.vk_ast.specs.declared.items.Item.{Item}
use Rattle.vk_ast.specs.declared.items.Item.TheVariants.{Function as AFunction}
use Rattle.vk_ast.specs.Units.{FunctionTree, ItemTree, function_of}
use Rattle.vk_unit_rules.specs.declared.rules.UnitRule.TheVariants.{D17, D18, D19}
use Rattle.vk_rules_book.specs.declared.faults.Fault.{Fault}
use Rattle.vk_rules_book.specs.Faults.{when, directive_fault}
use Rattle.vk_rules_book.specs.Signatures.{same_length, same_signature, share_a_name, signature_of}
use Rattle.vk_rules_book.specs.Directives.{at_first, has_other_directives, has_signature, is_no_width}
use Rattle.vk_rules_directives.specs.declared.signed.Signed.{Signed}

-- the signature of a directive, none where it breaks a rule
abbrev pub signed : FunctionTree → DirectiveTree → Option SignatureTree
signed f d = cond (has_signature f d) (Some (signature_of f d)) None

-- those of a function's directives
abbrev pub all_signed : FunctionTree → List (Option SignatureTree)
all_signed f = map (signed f) f.directives

abbrev pub seen : Option Signature → Option SignatureTree
seen s = option_map signature_tree s

-- two lists have a length in common
abbrev pub share_length : List Length → List Length → Bool
share_length xs ys = list_any (λ a. list_any (λ b. same_length a b) ys) xs

-- an earlier directive gives a name that this one gives
abbrev pub gives_too : Target → HeadTypes → SignatureTree → Option SignatureTree → Bool
gives_too target h t None = false
gives_too target h t (Some s) = share_a_name target h s t

-- what a directive breaks as a whole, by the signatures of the earlier ones and its own
abbrev pub whole_faults_by : Target → HeadTypes → (earlier : List (Option SignatureTree)) → Option SignatureTree → DirectiveTree → List Fault
whole_faults_by target h earlier None d = []
whole_faults_by target h earlier (Some s) d =
    when (is_no_width target h s) (directive_fault d d.token D18)
    ++ when (list_any (λ e. gives_too target h s e) earlier) (directive_fault d d.token D19)

-- ---- whole lists

-- the signatures of these directives, and whether each has one
abbrev pub list_seen : Signed → List (Option SignatureTree)
list_seen s = map seen s.list.items

pub record AreSigned (s : Signed) (f : FunctionTree) : Type 0 where
  pub list : list_seen s ≡ all_signed f
  pub all : s.all ≡ list_all is_some (all_signed f)

abbrev pub same_option : Option SignatureTree → Option SignatureTree → Bool
same_option (Some s) (Some t) = same_signature s t
same_option _ _ = false

abbrev pub same_lists : List (Option SignatureTree) → List (Option SignatureTree) → Bool
same_lists [] [] = true
same_lists (s ∷ ss) (t ∷ ts) = same_option s t && same_lists ss ts
same_lists _ _ = false

abbrev pub is_nil : List (Option SignatureTree) → Bool
is_nil [] = true
is_nil (s ∷ ss) = false

-- a list that is not empty is another than the first one, where all of both have signatures
abbrev pub differs : (first own : List (Option SignatureTree)) → Bool
differs first own = not (is_nil own) && ((list_all is_some first && list_all is_some own) && not (same_lists first own))

-- ---- the first declarations of functions

-- the signatures of an item that is a function
abbrev pub AreOwn : Signed → Item → Type 0
AreOwn s item = (f : Function) → item ≡ AFunction f → AreSigned s (function_of f)

-- of each item that is a function the list has the signatures
abbrev pub Agrees : List Signed → List Item → Type 0
Agrees signed items = (n : ℕ) (s : Signed) (item : Item) → slice_get signed n ≡ Some s → slice_get items n ≡ Some item → AreOwn s item

-- what a function's directives break behind a first declaration
abbrev pub others_at : Option ItemTree → FunctionTree → List Fault
others_at first f = cond (has_other_directives first f) (at_first D17 f.token f.directives) []
