-- Numbers of digits that stay at a bound.
use Rattle.std.proofs.Common.{◌≡◌, ℕ, ◌+◌, ◌*◌, ◌<◌, ◌^◌, nat_lt, min, List, [], ◌∷◌, drop, length, get_or, Some, None, Ok, Err, refl, sym, ap, ap₂, ◌∙◌, arith, if◌then◌else◌}
use Rattle.std.proofs.lemmas.Bool.Decides.{nat_tests}
use Rattle.std.proofs.lemmas.List.{drop_more}
use Rattle.vk_lex.specs.declared.literals.Base.{Base}
use Rattle.vk_lex.specs.declared.literals.Base.TheVariants.{Decimal, Octal, Hexadecimal}
use Rattle.vk_lex.specs.declared.literals.Suffix.{Suffix}
use Rattle.vk_types.specs.declared.types.Ty.{Ty}
use Rattle.vk_types.specs.declared.types.Ty.TheVariants.{I8, I16, I32, I64, U8, U16, U32, U64}
use Rattle.vk_unit_rules.specs.declared.rules.UnitRule.TheVariants.{C3}
use Rattle.vk_lex.specs.Characters.{after}
use Rattle.vk_lex.specs.Literals.{value_after, value_in, digit_value, radix, limit, first_type, types_for, typed, suffixed, suffix_of, is_digit_of, literal_in}

one_digit : (b : Base) (m d bound : ℕ) → min (min m bound * radix b + d) bound ≡ min (m * radix b + d) bound
one_digit Decimal m d bound = grind arith
one_digit Octal m d bound = grind arith
one_digit Hexadecimal m d bound = grind arith

capped : (b : Base) (bound : ℕ) (cs : List ℕ) (m : ℕ) → min (value_after (min m bound) b cs) bound ≡ min (value_after m b cs) bound
capped b bound [] m = grind arith
capped b bound (c ∷ cs) m =
    sym (capped b bound cs (min m bound * radix b + digit_value c)) ∙ ap (λ n. min (value_after n b cs) bound) (one_digit b m (digit_value c) bound)
    ∙ capped b bound cs (m * radix b + digit_value c)

-- one digit more of a list, where the value so far stays at the bound
pub next_digit : (b : Base) (bound : ℕ) (digits : List ℕ) (i m v : ℕ) → i < length digits → v ≡ min (m * radix b + digit_value (get_or digits i 0)) bound
    → min (value_after v b (drop (i + 1) digits)) bound ≡ min (value_after m b (drop i digits)) bound
next_digit b bound digits i m v below e =
    ap (λ n. min (value_after n b (drop (i + 1) digits)) bound) e
    ∙ capped b bound (drop (i + 1) digits) (m * radix b + digit_value (get_or digits i 0))
    ∙ sym (ap (λ cs. min (value_after m b cs) bound) (drop_more digits i 0 below))

-- ---- the type of a literal

one_limit : (t : Ty) (n : ℕ) → nat_lt (min n (2 ^ 64)) (limit t) ≡ nat_lt n (limit t)
one_limit I8 n = grind (arith, nat_tests)
one_limit I16 n = grind (arith, nat_tests)
one_limit I32 n = grind (arith, nat_tests)
one_limit I64 n = grind (arith, nat_tests)
one_limit U8 n = grind (arith, nat_tests)
one_limit U16 n = grind (arith, nat_tests)
one_limit U32 n = grind (arith, nat_tests)
one_limit U64 n = grind (arith, nat_tests)

first_capped : (ts : List Ty) (n : ℕ) → first_type ts (min n (2 ^ 64)) ≡ first_type ts n
first_capped [] n = refl
first_capped (t ∷ ts) n = ap₂ (λ c r. if c then Some t else r) (one_limit t n) (first_capped ts n)

module _ (b : Base) (body : List ℕ) (s : Suffix) (v : ℕ) (suffix : suffix_of (after (is_digit_of b) body) ≡ Some s) (is : v ≡ min (value_in b body) (2 ^ 64)) where
  in_suffix : literal_in b body ≡ typed (first_type (types_for b s) v) (value_in b body)
  in_suffix = ap (suffixed b body) suffix ∙ ap (λ t. typed t (value_in b body)) (sym (ap (first_type (types_for b s)) is ∙ first_capped (types_for b s) (value_in b body)))

  pub some_type : (t : Ty) → v < 2 ^ 64 → first_type (types_for b s) v ≡ Some t → Ok (t, v) ≡ literal_in b body
  some_type t below e =
      let same : v ≡ value_in b body = omega (arith, is) in
      ap (λ n. Ok (t, n)) same ∙ sym (in_suffix ∙ ap (λ o. typed o (value_in b body)) e)

  pub no_type : first_type (types_for b s) v ≡ None → Err C3 ≡ literal_in b body
  no_type e = sym (in_suffix ∙ ap (λ o. typed o (value_in b body)) e)
