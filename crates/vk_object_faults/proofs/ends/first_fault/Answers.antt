use Rattle.std.proofs.Common.{◌≡◌, ℕ, List, Option, None, Some, ap, ap₂, sym, ◌∙◌}
use Rattle.std.specs.Option.{option_map}
use Rattle.vk_format.specs.declared.rules.ObjectRule.TheVariants.{O9}
use Rattle.vk_format.specs.Format.{fault}
use Rattle.vk_code_format.specs.Fields.{first_along}
use Rattle.vk_object_format.specs.Object.{functions_at, symbol_length, symbols_at}
use Rattle.vk_object_format.specs.declared.rows.RawFunction.{RawFunction}
use Rattle.vk_object_faults.specs.Inner.Told.{fault_in_function, function_size, place_told, unused}
use Rattle.vk_object_faults.proofs.FirstFault.{function_told, symbol_told}
use Rattle.vk_object_faults.proofs.ends.first_fault.Goals as goal

pub returns-in-Some : goal.returns-in-Some
returns-in-Some c =
    let o = c.args.object.now in
    symbol_told o c.in_ok-uses.uses.items c.in_ok-uses.ensures c.in-Some.at
    (c.in-Some.ensures ∙ ap₂ (λ (us : List ℕ) (ts : List (List ℕ)). place_told (first_along symbol_length (unused us) 0 symbols_at ts)) c.deref.ensures.value c.as_slice.ensures.items)

pub returns-in-Some-2 : goal.returns-in-Some-2
returns-in-Some-2 c =
    let o = c.args.object.now in
    let none : None ≡ place_told (first_along symbol_length (unused c.in_ok-uses.uses.items) 0 symbols_at o.symbols) =
    c.in-None.ensures ∙ ap₂ (λ (us : List ℕ) (ts : List (List ℕ)). place_told (first_along symbol_length (unused us) 0 symbols_at ts)) c.deref.ensures.value c.as_slice.ensures.items in
    let told : c.in_ok-at.field-0 ≡ place_told (first_along function_size (fault_in_function o) 0 (functions_at o) o.functions) =
    c.in_ok-at.ensures o c.in_ok-env.ensures 0 (functions_at o) c.functions_at.ensures
    ∙ ap (λ (fs : List RawFunction). place_told (first_along function_size (fault_in_function o) 0 (functions_at o) fs)) c.as_slice-2.ensures.items in
    λ end. ap (option_map (λ at. fault at O9)) (sym c.in-Some-2.is) ∙ function_told o c.in_ok-uses.uses.items c.in_ok-uses.ensures c.in_ok-at.field-0 none told end

pub returns : goal.returns
returns c =
    let o = c.args.object.now in
    let none : None ≡ place_told (first_along symbol_length (unused c.in_ok-uses.uses.items) 0 symbols_at o.symbols) =
    c.in-None.ensures ∙ ap₂ (λ (us : List ℕ) (ts : List (List ℕ)). place_told (first_along symbol_length (unused us) 0 symbols_at ts)) c.deref.ensures.value c.as_slice.ensures.items in
    let told : c.in_ok-at.field-0 ≡ place_told (first_along function_size (fault_in_function o) 0 (functions_at o) o.functions) =
    c.in_ok-at.ensures o c.in_ok-env.ensures 0 (functions_at o) c.functions_at.ensures
    ∙ ap (λ (fs : List RawFunction). place_told (first_along function_size (fault_in_function o) 0 (functions_at o) fs)) c.as_slice-2.ensures.items in
    λ end. ap (option_map (λ at. fault at O9)) (sym c.in-None-2.is) ∙ function_told o c.in_ok-uses.uses.items c.in_ok-uses.ensures c.in_ok-at.field-0 none told end
