-- The form of a unit as an option.
use Rattle.std.specs.Prelude.{Bool, ◌&&◌, cond, List, [], ◌∷◌, Option, Some, None}
use Rattle.std.specs.List.{list_all}
use Rattle.std.specs.Option.{option_and_then}
use Rattle.vk_types.specs.declared.types.Ty.{Ty}
use Rattle.vk_kinds.specs.Types.{integer_of}
use Rattle.vk_ast.specs.Tree.{Tree, expr_of}
use Rattle.vk_ast.specs.Units.{FunctionTree, ItemTree, function, function_of}
use Rattle.vk_rules_book.specs.Scopes.{has_directives}
use Rattle.vk_one_return.specs.declared.form.Form.{Form}
use Rattle.vk_one_return.specs.Form.{is_integer, is_plain, returned_in}

-- the function, the expression that it returns, and the type of its result
pub record FormTree : Type 0 where
  pub function : FunctionTree
  pub value : Tree
  pub result : Ty

abbrev pub form_tree : Form → FormTree
form_tree form = record { function = function_of form.function.now; value = expr_of form.value.now; result = form.result }

abbrev pub is_form : FunctionTree → Tree → Bool
is_form f e = has_directives f.directives && (list_all is_integer f.params && is_plain f.params e)

abbrev pub form_of_parts : FunctionTree → Ty → Tree → Option FormTree
form_of_parts f t e = cond (is_form f e) (Some (record { function = f; value = e; result = t })) None

abbrev pub form_of_function : FunctionTree → Option FormTree
form_of_function f = option_and_then (λ t. option_and_then (form_of_parts f t) (option_and_then returned_in f.body)) (integer_of f.result)

abbrev pub form_of_item : ItemTree → Option FormTree
form_of_item (function f) = form_of_function f
form_of_item i = None

abbrev pub form_of_items : List ItemTree → Option FormTree
form_of_items [] = None
form_of_items (i ∷ []) = form_of_item i
form_of_items (i ∷ j ∷ is) = None
