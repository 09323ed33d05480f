-- What `?:` gives where its condition has a number.
use Rattle.std.proofs.Common.{◌≡◌, ◌≢◌, true, cond, ℤ, pos, Option, Some, None, unwrap_or, ap, ◌∙◌, rules}
use Rattle.std.proofs.lemmas.Option.{none-some}
use Rattle.vk_types.specs.declared.types.Ty.{Ty}
use Rattle.vk_types.specs.declared.types.Ty.TheVariants.{I32}
use Rattle.vk_types.specs.Numbers.{IsInRange, wrap_number}
use Rattle.vk_types.specs.Conversions.{common_type}
use Rattle.vk_numbers.specs.Operators.{is_on}
use Rattle.vk_numbers.proofs.Numbers.{wrap_keeps}
use Rattle.vk_rules_book.specs.declared.typings.Typing.{Typing}
use Rattle.vk_rules_book.specs.declared.typings.Typing.TheVariants.{Number}
use Rattle.vk_rules_book.specs.Typings as typings
use Rattle.vk_rules_book.specs.Typings.{number_type, choice_typing}
use Rattle.vk_meaning.specs.World.{World}
use Rattle.vk_meaning.specs.Data.{Action, Value, number, got, with_value, given, number_in}
use Rattle.vk_meaning.specs.Expressions.{integer_type, chosen, converted}

-- the type of a `?:` is the one that its value is converted to
common_is : (b o o' : Option Ty) (t : Ty) →
    number_type (typings.then_number b (λ c. typings.then_number o (λ s. typings.then_number o' (λ s'. Number (common_type s s'))))) ≡ Some t →
    common_type (unwrap_or o I32) (unwrap_or o' I32) ≡ t
common_is None o o' t h = absurd (none-some t h)
common_is (Some c) None o' t h = absurd (none-some t h)
common_is (Some c) (Some s) None t h = absurd (none-some t h)
common_is (Some c) (Some s) (Some s') t h = ap (λ (o : Option Ty). unwrap_or o I32) h

type_common : (b s s' : Typing) (t : Ty) → number_type (choice_typing b s s') ≡ Some t → common_type (integer_type s) (integer_type s') ≡ t
unfolding choice_typing
type_common b s s' t h = common_is (number_type b) (number_type s) (number_type s') t h

-- what is chosen is converted, and stays where it is of the type
pub choice_is : (b s s' : Typing) (t : Ty) (z : ℤ) (e : Action) (w w' : World) → number_type (choice_typing b s s') ≡ Some t → IsInRange t z →
    e w ≡ got (number z) w' → converted (common_type (integer_type s) (integer_type s')) e w ≡ got (number z) w'
choice_is b s s' t z e w w' h r k =
    (λ i. with_value (k i) (λ d. given (number (wrap_number (type_common b s s' t h i) (number_in d)))))
    ∙ ap (λ (n : ℤ). got (number n) w') (wrap_keeps t z r)

is_on_where : (n : ℤ) → n ≢ pos 0 → is_on n ≡ true
is_on_where n h = search rules

-- a condition that holds takes the second operand, and another the third
pub takes_first : (c e e' : Action) (n : ℤ) (w w' : World) (v : Value) → c w ≡ got (number n) w' → n ≢ pos 0 → e w' ≡ v → chosen c e e' w ≡ v
takes_first c e e' n w w' v h on k =
    (λ i. with_value (h i) (λ d. cond (is_on (number_in d)) e e')) ∙ ((λ i. cond (is_on_where n on i) e e' w') ∙ k)

pub takes_second : (c e e' : Action) (w w' : World) (v : Value) → c w ≡ got (number (pos 0)) w' → e' w' ≡ v → chosen c e e' w ≡ v
takes_second c e e' w w' v h k = (λ i. with_value (h i) (λ d. cond (is_on (number_in d)) e e')) ∙ k
