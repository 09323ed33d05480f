-- What the rules compute of a constant is its type and its value.
use Rattle.std.proofs.Common.{◌≡◌, ℤ, Option, Some, None, IfSome, refl, ap, subst, ◌∙◌}
use Rattle.std.proofs.lemmas.Option.{none-some}
use Rattle.std.specs.Option.{option_and_then, option_map}
use Rattle.vk_ast.specs.Tree.{Tree, int, name, index, deref, addr, unary, binary, choice, cast, call}
use Rattle.vk_numbers.specs.Values as computed
use Rattle.vk_numbers.specs.Constants.{Computed, computed_binary, computed_cast, computed_choice, computed_unary, constant_of, number_got}
use Rattle.vk_numbers.specs.Constants as constants
use Rattle.vk_rules_book.specs.Scopes.{Scope}
use Rattle.vk_rules_book.specs.Typings.{typing_of}
use Rattle.vk_meaning.specs.World.{World}
use Rattle.vk_meaning.specs.Data.{number, got}
use Rattle.vk_meaning.specs.Expressions.{Context, Variables, value_of}
use Rattle.vk_meaning_constants.specs.Standing.{stands_for}
use Rattle.vk_meaning_constants.proofs.Operators.{IsOf, unary_typed, binary_typed, choice_typed, cast_typed, unary_means, binary_means, choice_means, cast_means}

mapped : (P Q : Computed → Type 0) (f : Computed → Computed) (o : Option Computed) → ((x : Computed) → P x → Q (f x)) → IfSome o P → IfSome (option_map f o) Q
mapped P Q f None h p = tt
mapped P Q f (Some x) h p = h x p

mapped_two : (P P' Q : Computed → Type 0) (f : Computed → Computed → Computed) (o o' : Option Computed) →
    ((x y : Computed) → P x → P' y → Q (f x y)) → IfSome o P → IfSome o' P' → IfSome (option_and_then (λ x. option_map (f x) o') o) Q
mapped_two P P' Q f None o' h p p' = tt
mapped_two P P' Q f (Some x) o' h p p' = mapped P' Q (f x) o' (λ y. h x y p) p'

mapped_three : (P P' P'' Q : Computed → Type 0) (f : Computed → Computed → Computed → Computed) (o o' o'' : Option Computed) →
    ((x y z : Computed) → P x → P' y → P'' z → Q (f x y z)) → IfSome o P → IfSome o' P' → IfSome o'' P'' →
    IfSome (option_and_then (λ x. option_and_then (λ y. option_map (f x y) o'') o') o) Q
mapped_three P P' P'' Q f None o' o'' h p p' p'' = tt
mapped_three P P' P'' Q f (Some x) o' o'' h p p' p'' = mapped_two P' P'' Q (f x) o' o'' (λ y z. h x y z p) p' p''

module _ (c : Context) (scope : Scope) (vs : Variables) where
  -- this is the type of the expression, and its value
  record IsMeant (e : Tree) (k : Computed) : Type 0 where
    ty : IsOf (typing_of scope e) k.ty
    value : value_of c scope vs e ≡ stands_for k.value

  agrees : (e : Tree) → IfSome (constants.computed e) (IsMeant e)
  agrees (int l k t n) = record { ty = refl; value = refl }
  agrees (name l k id) = tt
  agrees (index l k base subscript) = tt
  agrees (deref l k operand) = tt
  agrees (addr l k operand) = tt
  agrees (unary l k op operand) =
      mapped (IsMeant operand) (IsMeant (unary l k op operand)) (computed_unary op) (constants.computed operand)
      (λ x p. record { ty = unary_typed op (typing_of scope operand) x.ty p.ty; value = unary_means op (typing_of scope operand) x.ty _ x.value p.ty p.value })
      (agrees operand)
  agrees (binary l k op left right) =
      mapped_two (IsMeant left) (IsMeant right) (IsMeant (binary l k op left right)) (computed_binary op) (constants.computed left) (constants.computed right)
      (λ x y p q. record {
        ty = binary_typed op (typing_of scope left) (typing_of scope right) x.ty y.ty p.ty q.ty;
        value = binary_means op (typing_of scope left) (typing_of scope right) x.ty y.ty _ _ x.value y.value p.ty q.ty p.value q.value;
      })
      (agrees left) (agrees right)
  agrees (choice l k condition first second) =
      mapped_three (IsMeant condition) (IsMeant first) (IsMeant second) (IsMeant (choice l k condition first second)) computed_choice
      (constants.computed condition) (constants.computed first) (constants.computed second)
      (λ x y z p q r. record {
        ty = choice_typed (typing_of scope condition) (typing_of scope first) (typing_of scope second) x.ty y.ty z.ty p.ty q.ty r.ty;
        value = choice_means (typing_of scope first) (typing_of scope second) y.ty z.ty _ _ _ x.value y.value z.value q.ty r.ty p.value q.value r.value;
      })
      (agrees condition) (agrees first) (agrees second)
  agrees (cast l k t operand) =
      mapped (IsMeant operand) (IsMeant (cast l k t operand)) (computed_cast t) (constants.computed operand)
      (λ x p. record { ty = cast_typed t (typing_of scope operand) x.ty p.ty; value = cast_means t _ x.value p.value })
      (agrees operand)
  agrees (call l k id arguments) = tt

  meant : (e : Tree) (k : Computed) → constants.computed e ≡ Some k → IsMeant e k
  meant e k is = subst (λ (o : Option Computed). IfSome o (IsMeant e)) is (agrees e)

  pub types_agree : (e : Tree) (k : Computed) → constants.computed e ≡ Some k → IsOf (typing_of scope e) k.ty
  types_agree e k is = (meant e k is).ty

  pub values_agree : (e : Tree) (k : Computed) (w : World) → constants.computed e ≡ Some k → value_of c scope vs e w ≡ stands_for k.value w
  values_agree e k w is i = (meant e k is).value i w

  is_got : (v : computed.Value) (z : ℤ) → number_got v ≡ Some z → v ≡ computed.got z
  is_got (computed.got x) z is = cc
  is_got (computed.halts stop) z is = absurd (none-some z is)

  numbers : (e : Tree) (o : Option Computed) (z : ℤ) (w : World) → IfSome o (IsMeant e) → option_and_then (λ k. number_got k.value) o ≡ Some z → value_of c scope vs e w ≡ got (number z) w
  numbers e None z w same is = absurd (none-some z is)
  numbers e (Some k) z w same is = (λ i. same.value i w) ∙ ap (λ (v : computed.Value). stands_for v w) (is_got k.value z is)

  pub numbers_agree : (e : Tree) (z : ℤ) (w : World) → constant_of e ≡ Some z → value_of c scope vs e w ≡ got (number z) w
  unfolding constant_of
  numbers_agree e z w is = numbers e (constants.computed e) z w (agrees e) is
