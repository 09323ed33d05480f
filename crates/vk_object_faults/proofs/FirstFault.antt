-- The first fault of tables, by its place and its rule.
use Rattle.std.proofs.Common.{◌≡◌, ℕ, ◌+◌, ◌<◌, Bool, true, false, List, [], ◌∷◌, length, Option, Some, None, is_none, refl, ap, sym, ◌∙◌, subst, arith}
use Rattle.std.specs.Prelude.{slice_index}
use Rattle.std.specs.Option.{option_map}
use Rattle.std.proofs.lemmas.Bool.{false≢true}
use Rattle.vk_format.specs.declared.rules.ObjectFault.{ObjectFault}
use Rattle.vk_format.specs.declared.rules.ObjectRule.{ObjectRule}
use Rattle.vk_format.specs.declared.rules.ObjectRule.TheVariants.{O6, O9}
use Rattle.vk_format.specs.Format.{fault}
use Rattle.vk_code_format.specs.declared.rows.CodeRow.{CodeRow}
use Rattle.vk_code_format.specs.Fields.{first_along, or_else, unless}
use Rattle.vk_code_rows.specs.Sums.{capped}
use Rattle.vk_object_format.specs.declared.rows.RawFunction.{RawFunction}
use Rattle.vk_object_format.specs.declared.rows.RawObject.{RawObject}
use Rattle.vk_object_format.specs.Object.{bad_part_of, code_fault, codes_in, front_length, function_fault, function_length, functions_at, object_faults, place_in, symbol_fault, symbol_length, symbols_at}
use Rattle.vk_object_format.specs.Values.{function_of, object_of}
use Rattle.vk_object_faults.specs.Inner.Told.{capped_fault, fault_in_function, function_size, place_told, unused, uses_of}
use Rattle.vk_object_faults.proofs.CodeFaults.{functions_are}
use Rattle.vk_object_faults.proofs.Uses.{unused_is}

-- a fault, if there is one, is of this rule
abbrev HasRule : ObjectRule → Option ObjectFault → Type 0
HasRule rule x = option_map capped_fault x ≡ option_map (λ at. fault at rule) (place_told x)

either : (rule : ObjectRule) (x y : Option ObjectFault) → HasRule rule x → HasRule rule y → HasRule rule (or_else x y)
either rule None y h k = k
either rule (Some f) y h k = h

along : {A : Type 0} (rule : ObjectRule) (size : A → ℕ) (faults : ℕ → ℕ → A → Option ObjectFault) → ((n at : ℕ) (x : A) → HasRule rule (faults n at x))
    → (n at : ℕ) (xs : List A) → HasRule rule (first_along size faults n at xs)
along rule size faults each n at [] = refl
along rule size faults each n at (x ∷ xs) = either rule (faults n at x) (first_along size faults (n + 1) (at + size x) xs) (each n at x) (along rule size faults each (n + 1) (at + size x) xs)

by_test : (rule : ObjectRule) (b : Bool) (at : ℕ) → HasRule rule (unless b (fault at rule))
by_test rule true at = refl
by_test rule false at = refl

by_part : (rule : ObjectRule) (place : ℕ → ℕ) (o : Option ℕ) → HasRule rule (option_map (λ part. fault (place part) rule) o)
by_part rule place None = refl
by_part rule place (Some part) = refl

module _ (o : RawObject) where
  -- those of symbols, and those of functions
  abbrev symbols_fault : Option ObjectFault
  symbols_fault = first_along symbol_length (symbol_fault o) 0 symbols_at o.symbols

  abbrev functions_fault : Option ObjectFault
  functions_fault = first_along (function_length o) (function_fault o) 0 (functions_at o) o.functions

  symbols_rule : HasRule O6 symbols_fault
  symbols_rule = along O6 symbol_length (symbol_fault o) (λ n at t. by_test O6 _ at) 0 symbols_at o.symbols

  code_rule : (f : RawFunction) (n at : ℕ) (c : CodeRow) → HasRule O9 (code_fault o f n at c)
  code_rule f n at c = by_part O9 _ (bad_part_of (object_of o) (function_of f) c)

  functions_rule : HasRule O9 functions_fault
  functions_rule =
      along O9 (function_length o) (function_fault o) (λ n at f. along O9 _ (code_fault o f) (code_rule f) 0 (at + front_length f) (codes_in f.codes)) 0 (functions_at o) o.functions

  module _ (uses : List ℕ) (counted : (k : ℕ) → k < length o.symbols → slice_index uses k ≡ capped (uses_of o k)) where
    symbols_are : first_along symbol_length (unused uses) 0 symbols_at o.symbols ≡ symbols_fault
    symbols_are = unused_is o uses o.symbols 0 symbols_at (λ k lt. counted k (omega (arith, lt)))

    some_first : (x y : Option ObjectFault) (at : ℕ) → Some at ≡ place_told x → HasRule O6 x → Some (fault at O6) ≡ option_map capped_fault (or_else x y)
    some_first None y at h rule = absurd cc
    some_first (Some f) y at h rule = ap (option_map (λ a. fault a O6)) h ∙ sym rule

    pub symbol_told : (at : ℕ) → Some at ≡ place_told (first_along symbol_length (unused uses) 0 symbols_at o.symbols) → (end : ℕ) → Some (fault at O6) ≡ option_map capped_fault (object_faults o end)
    symbol_told at h = λ end. some_first symbols_fault functions_fault at (h ∙ ap place_told symbols_are) symbols_rule

    none_told : (x : Option ObjectFault) → None ≡ place_told x → x ≡ None
    none_told None h = refl
    none_told (Some f) h = absurd cc

    pub function_told : (told : Option ℕ) → None ≡ place_told (first_along symbol_length (unused uses) 0 symbols_at o.symbols)
        → told ≡ place_told (first_along function_size (fault_in_function o) 0 (functions_at o) o.functions)
        → (end : ℕ) → option_map (λ at. fault at O9) told ≡ option_map capped_fault (object_faults o end)
    function_told told none h = λ end.
        ap (option_map (λ at. fault at O9)) (h ∙ ap place_told (functions_are o))
        ∙ sym functions_rule
        ∙ ap (λ x. option_map capped_fault (or_else x functions_fault)) (sym (none_told symbols_fault (none ∙ ap place_told symbols_are)))

-- a place that is below the greatest one is told as it is
pub exact_none : (x : Option ObjectFault) → None ≡ option_map capped_fault x → None ≡ x
exact_none None h = refl
exact_none (Some f) h = absurd cc

pub exact_some : (x : Option ObjectFault) (f : ObjectFault) → Some f ≡ option_map capped_fault x → (f.at ≡ 18446744073709551615 → ⊥) → Some f ≡ x
exact_some None f h below = absurd cc
exact_some (Some g) f h below =
    let same : f ≡ capped_fault g = cc in
    let place : f.at ≡ capped g.at = ap (λ x. x.at) same in
    let exact : capped g.at ≡ g.at = omega (arith, place, below) in
    ap (λ x. Some x) (same ∙ ap (λ at. record { at = at; rule = g.rule }) exact)
