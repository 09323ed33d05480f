-- The form as an option is the form.
use Rattle.std.proofs.Common.{◌≡◌, ◌≤◌, ◌∷◌, [], Bool, true, false, ◌&&◌, cond, List, length, Option, Some, None, refl, sym, ◌∙◌, Contains, rules, IfSome, subst}
use Rattle.std.specs.List.{list_all}
use Rattle.std.specs.Option.{option_and_then, option_map}
use Rattle.std.proofs.lemmas.Option.{none-some}
use Rattle.vk_types.specs.declared.types.Ty.{Ty}
use Rattle.vk_kinds.specs.declared.heads.CType.{CType}
use Rattle.vk_kinds.specs.declared.heads.CType.TheVariants.{Void, Int, Ptr}
use Rattle.vk_kinds.specs.Types.{integer_of}
use Rattle.vk_ast.specs.Statements.{StmtTree}
use Rattle.vk_ast.specs.Tree.{Tree, expr_of}
use Rattle.vk_ast.specs.Units.{FunctionTree, ItemTree, function, function_nodes, function_of, lost_line, object}
use Rattle.vk_rules_book.specs.Scopes.{has_directives}
use Rattle.vk_rules_book.specs.Rules.{Subject}
use Rattle.vk_one_return.specs.declared.form.Form.{Form}
use Rattle.vk_one_return.specs.Form.{IsForm, IsSmall, is_integer, is_plain, returned_in}
use Rattle.vk_one_return.specs.Inner.Reading.{FormTree, form_of_function, form_of_items, form_of_parts, form_tree, is_form}

pub first : (a b : Bool) → (a && b) ≡ true → a ≡ true
first true b h = refl
first false b h = h

pub second : (a b : Bool) → (a && b) ≡ true → b ≡ true
second true b h = h
second false b h = cc

-- what the option tells of a function
record Says (f : FunctionTree) (form : FormTree) : Type 0 where
  is : form.function ≡ f
  result : f.result ≡ Int form.result
  body : option_and_then returned_in f.body ≡ Some form.value
  test : is_form f form.value ≡ true

by_parts : (f : FunctionTree) (t : Ty) (e : Tree) (test : Bool) (form : FormTree) → is_form f e ≡ test →
    cond test (Some (record { function = f; value = e; result = t })) None ≡ Some form → f.result ≡ Int t → option_and_then returned_in f.body ≡ Some e → Says f form
by_parts f t e false form is h r b = absurd (none-some form h)
by_parts f t e true form is h r b =
    let same : (record { function = f; value = e; result = t }) ≡ form = cc in
    subst (λ x. Says f x) same (record { is = refl; result = r; body = b; test = is })

by_value : (f : FunctionTree) (t : Ty) (value : Option Tree) (form : FormTree) → option_and_then returned_in f.body ≡ value → f.result ≡ Int t →
    option_and_then (form_of_parts f t) value ≡ Some form → Says f form
by_value f t None form is r h = absurd (none-some form h)
by_value f t (Some e) form is r h = by_parts f t e (is_form f e) form refl h r is

by_result : (f : FunctionTree) (t : CType) (form : FormTree) → f.result ≡ t →
    option_and_then (λ t. option_and_then (form_of_parts f t) (option_and_then returned_in f.body)) (integer_of t) ≡ Some form → Says f form
by_result f Void form r h = absurd (none-some form h)
by_result f (Int t) form r h = by_value f t (option_and_then returned_in f.body) form refl r h
by_result f (Ptr to written) form r h = absurd (none-some form h)

says : (f : FunctionTree) (form : FormTree) → form_of_function f ≡ Some form → Says f form
says f form h = by_result f f.result form refl h

is_of : (unit : Subject) (f : FunctionTree) (form : FormTree) → unit.items ≡ function f ∷ [] → Says f form → IsForm unit form.function form.value form.result
is_of unit f form items s =
    subst (λ g. IsForm unit g form.value form.result) (sym s.is) (record {
      items = items;
      directives = first (has_directives f.directives) _ s.test;
      returns = record {
        result = s.result;
        params = first (list_all is_integer f.params) _ rest;
        body = s.body;
        plain = second (list_all is_integer f.params) _ rest;
      };
    })
  where
    rest : (list_all is_integer f.params && is_plain f.params form.value) ≡ true
    rest = second (has_directives f.directives) _ s.test

pub found : (unit : Subject) (items : List ItemTree) (form : FormTree) → unit.items ≡ items → form_of_items items ≡ Some form → IsForm unit form.function form.value form.result
found unit [] form is h = absurd (none-some form h)
found unit (function f ∷ []) form is h = is_of unit f form is (says f form h)
found unit (object o ∷ []) form is h = absurd (none-some form h)
found unit (lost_line d ∷ []) form is h = absurd (none-some form h)
found unit (i ∷ j ∷ rest) form is h = absurd (none-some form h)

all_tests : (a b c : Bool) → a ≡ true → b ≡ true → c ≡ true → (a && (b && c)) ≡ true
all_tests true true true h i j = refl
all_tests false b c h i j = h
all_tests a false c h i j = cc
all_tests a b false h i j = cc

gives : (unit : Subject) (f : FunctionTree) (e : Tree) (t : Ty) → IsForm unit f e t → form_of_items unit.items ≡ Some (record { function = f; value = e; result = t })
gives unit f e t form = rw form.items (rw form.returns.result (rw form.returns.body (rw (all_tests (has_directives f.directives) (list_all is_integer f.params) (is_plain f.params e) form.directives form.returns.params form.returns.plain) refl)))

pub missing : (unit : Subject) (f : FunctionTree) (e : Tree) (t : Ty) → form_of_items unit.items ≡ None → IsForm unit f e t → ⊥
missing unit f e t h form = none-some _ (sym h ∙ gives unit f e t form)

-- a form's function is the unit's, which has a body
has_body : (body : Option StmtTree) (e : Tree) → option_and_then returned_in body ≡ Some e → (b : StmtTree) × (body ≡ Some b)
has_body None e h = absurd (none-some e h)
has_body (Some b) e h = (b, refl)

pub small : (unit : Subject) (f : FunctionTree) (e : Tree) (t : Ty) → IsForm unit f e t →
    (Contains unit.items (function f) → length f.params ≤ 64) →
    (Contains unit.items (function f) → (body : StmtTree) → f.body ≡ Some body → function_nodes f ≤ 2000) → IsSmall f
small unit f e t form params nodes =
    let there : Contains unit.items (function f) = rw form.items (search rules) in
    let body : (b : StmtTree) × (f.body ≡ Some b) = has_body f.body e form.returns.body in
    record { params = params there; nodes = nodes there body.0 body.1 }

pub found_form : (unit : Subject) (form : Option Form) → option_map form_tree form ≡ form_of_items unit.items → IfSome form (λ x. IsForm unit (function_of x.function.now) (expr_of x.value.now) x.result)
found_form unit None h = search rules
found_form unit (Some form) h = found unit unit.items (form_tree form) refl (sym h)

pub small_form : (unit : Subject) (form : Option Form) → option_map form_tree form ≡ form_of_items unit.items →
    ((f : FunctionTree) → Contains unit.items (function f) → length f.params ≤ 64) →
    ((f : FunctionTree) → Contains unit.items (function f) → (body : StmtTree) → f.body ≡ Some body → function_nodes f ≤ 2000) →
    IfSome form (λ x. IsSmall (function_of x.function.now))
small_form unit None h params nodes = search rules
small_form unit (Some form) h params nodes =
    let x : FormTree = form_tree form in
    small unit x.function x.value x.result (found unit unit.items x refl (sym h)) (params x.function) (nodes x.function)
