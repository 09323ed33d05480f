-- What the literal of a text tells is so in the standard's words.
use Rattle.std.proofs.Common.{◌≡◌, ℕ, suc, ◌+◌, ◌*◌, ◌^◌, Bool, true, false, ◌&&◌, ◌||◌, ◌==◌, nat_lt, List, [], ◌∷◌, ◌++◌, codes, length, take, drop, Option, Some, None, Result, Ok, Err, ◌⊎◌, inl, inr, refl, sym, ap, ap₂, subst, ◌∙◌, arith, if◌then◌else◌}
use Rattle.std.proofs.Math.Nat.{add-mul, add_assoc, mul_assoc, pow-succ', pow-zero, zero-mul}
use Rattle.std.proofs.lemmas.Bool.{cases_Bool, false≢true, eqb-true}
use Rattle.std.proofs.lemmas.List.{take-append-drop}
use Rattle.std.proofs.lemmas.Option.{none-some}
use Rattle.std.specs.Char.{is_ascii_digit, is_ascii_hexdigit}
use Rattle.std.specs.List.{prefix_len}
use Rattle.std.specs.Option.{unwrap_or}
use Rattle.vk_types.specs.declared.types.Ty.{Ty}
use Rattle.vk_unit_rules.specs.declared.rules.UnitRule.{UnitRule}
use Rattle.vk_unit_rules.specs.declared.rules.UnitRule.TheVariants.{C3}
use Rattle.vk_lex.specs.declared.literals.Base.{Base}
use Rattle.vk_lex.specs.declared.literals.Base.TheVariants.{Decimal, Octal, Hexadecimal}
use Rattle.vk_lex.specs.declared.literals.Suffix.{Suffix}
use Rattle.vk_lex.specs.Characters.{run, after}
use Rattle.vk_lex.specs.Comments.{begins_with}
use Rattle.vk_lex.specs.Integers.{IsNumber, decimal, octal, hexadecimal, digits_value, IsUnsigned, small_u, capital_u, IsLong, no_long, small_l, capital_l, small_ll, capital_ll, IsSuffix, signed, unsigned_first, unsigned_last, IsWritten}
use Rattle.vk_lex.specs.Literals.{is_nil, begins_digit, begins_hex, is_digit_of, begins_digit_of, digit_value, radix, value_after, value_in, begins_unsigned, is_long_letter, long_len, ended, suffix, suffix_of, first_type, types_for, base_of, body_of, typed, suffixed, literal}
use Rattle.vk_lex.proofs.Identifiers.{run_more, run_all}

-- ---- values

value_is : (b : Base) (cs : List ℕ) (n : ℕ) → value_after n b cs ≡ n * radix b ^ length cs + digits_value b cs
value_is b [] n =
    let one : n * 1 + 0 ≡ n = omega arith in
    sym (ap (λ x. n * x + 0) (pow-zero (radix b)) ∙ one)
value_is b (c ∷ cs) n =
    let r = radix b in
    let x = radix b ^ length cs in
    let d = digit_value c in
    let rest = digits_value b cs in
    value_is b cs (n * r + d)
    ∙ ap (λ y. y + rest) (add-mul (n * r) d x ∙ ap (λ y. y + d * x) (mul_assoc n r x ∙ ap (λ y. n * y) (sym (pow-succ' r (length cs)))))
    ∙ add_assoc (n * r ^ suc (length cs)) (d * x) rest

value_of_digits : (b : Base) (cs : List ℕ) → value_after 0 b cs ≡ digits_value b cs
value_of_digits b cs =
    let none : 0 + digits_value b cs ≡ digits_value b cs = omega arith in
    value_is b cs 0 ∙ ap (λ y. y + digits_value b cs) (zero-mul (radix b ^ length cs)) ∙ none

-- ---- suffixes

both : (p q : Bool) → (p && q) ≡ true → (p ≡ true) × (q ≡ true)
both true q e = (refl, e)
both false q e = absurd (false≢true e)

either : (p q : Bool) → (p || q) ≡ true → (p ≡ true) ⊎ (q ≡ true)
either true q e = inl refl
either false q e = inr e

an_unsigned : (c : ℕ) → ((c == 117) || (c == 85)) ≡ true → IsUnsigned c
an_unsigned c e = elim (either (c == 117) (c == 85) e) [
  | inl t ↦ subst IsUnsigned (sym (eqb-true c 117 t)) small_u
  | inr t ↦ subst IsUnsigned (sym (eqb-true c 85 t)) capital_u
]

one_long : (c : ℕ) → is_long_letter c ≡ true → IsLong (c ∷ []) true
one_long c e = elim (either (c == 108) (c == 76) e) [
  | inl t ↦ subst (λ (x : ℕ). IsLong (x ∷ []) true) (sym (eqb-true c 108 t)) small_l
  | inr t ↦ subst (λ (x : ℕ). IsLong (x ∷ []) true) (sym (eqb-true c 76 t)) capital_l
]

two_long : (c d : ℕ) → is_long_letter c ≡ true → (c == d) ≡ true → IsLong (c ∷ d ∷ []) true
two_long c d e same = subst (λ (y : ℕ). IsLong (c ∷ y ∷ []) true) (eqb-true c d same) (elim (either (c == 108) (c == 76) e) [
  | inl t ↦ subst (λ (x : ℕ). IsLong (x ∷ x ∷ []) true) (sym (eqb-true c 108 t)) small_ll
  | inr t ↦ subst (λ (x : ℕ). IsLong (x ∷ x ∷ []) true) (sym (eqb-true c 76 t)) capital_ll
])

-- the long part with which a text begins
abbrev HasLong : List ℕ → ℕ → Type 0
HasLong text n = IsLong (take n text) (nat_lt 0 n)

long_front : (text : List ℕ) → HasLong text (long_len text)
long_front [] = no_long
long_front (c ∷ []) = elim (cases_Bool (is_long_letter c)) [
  | inl t ↦ subst (HasLong (c ∷ [])) (sym (ap (λ b. if b then 1 else 0) t)) (one_long c t)
  | inr f ↦ subst (HasLong (c ∷ [])) (sym (ap (λ b. if b then 1 else 0) f)) no_long
]
long_front (c ∷ d ∷ cs) = elim (cases_Bool (is_long_letter c)) [
  | inl t ↦ elim (cases_Bool (c == d)) [
    | inl s ↦ subst (HasLong (c ∷ d ∷ cs)) (sym (ap₂ (λ a b. if a then (if b then 2 else 1) else 0) t s)) (two_long c d t s)
    | inr g ↦ subst (HasLong (c ∷ d ∷ cs)) (sym (ap₂ (λ a b. if a then (if b then 2 else 1) else 0) t g)) (one_long c t)
  ]
  | inr f ↦ subst (HasLong (c ∷ d ∷ cs)) (sym (ap (λ a. if a then (if c == d then 2 else 1) else 0) f)) no_long
]

ended_is : (text : List ℕ) (s t : Suffix) → ended text s ≡ Some t → (text ≡ []) × (s ≡ t)
ended_is [] s t e = (refl, ap (λ o. unwrap_or o s) e)
ended_is (c ∷ cs) s t e = absurd (none-some t e)

-- a text of a long part alone
only_long : (text : List ℕ) → drop (long_len text) text ≡ [] → IsLong text (nat_lt 0 (long_len text))
only_long text e =
    subst (λ (t : List ℕ). IsLong t (nat_lt 0 (long_len text)))
    (sym (sym (take-append-drop (long_len text) text) ∙ ap (λ (t : List ℕ). take (long_len text) text ++ t) e ∙ append_none (take (long_len text) text)))
    (long_front text)
  where
    append_none : (t : List ℕ) → t ++ [] ≡ t
    append_none [] = refl
    append_none (c ∷ cs) = ap (λ (x : List ℕ). c ∷ x) (append_none cs)

first_suffix : (text : List ℕ) (s : Suffix) → begins_unsigned text ≡ true → suffix true (drop 1 text) ≡ Some s → IsSuffix text s
first_suffix [] s b e = absurd (false≢true b)
first_suffix (c ∷ cs) s b e =
    let is = ended_is (drop (long_len cs) cs) _ s e in
    subst (λ (x : Suffix). IsSuffix (c ∷ cs) x) is.1 (unsigned_first (an_unsigned c b) (only_long cs is.0))

last_suffix : (front rest : List ℕ) (b : Bool) (s : Suffix) → IsLong front b → begins_unsigned rest ≡ true
    → ended (drop 1 rest) (record { unsigned = true; long = b }) ≡ Some s → IsSuffix (front ++ rest) s
last_suffix front [] b s l u e = absurd (false≢true u)
last_suffix front (c ∷ cs) b s l u e =
    let is = ended_is cs (record { unsigned = true; long = b }) s e in
    subst (λ (t : List ℕ). IsSuffix (front ++ (c ∷ t)) s) (sym is.0) (subst (λ (x : Suffix). IsSuffix (front ++ (c ∷ [])) x) is.1 (unsigned_last l (an_unsigned c u)))

suffix_is : (text : List ℕ) (s : Suffix) → suffix_of text ≡ Some s → IsSuffix text s
suffix_is text s e =
    let n = long_len text in
    let rest = drop n text in
    let both_sides = ended (drop 1 rest) (record { unsigned = true; long = nat_lt 0 n }) in
    elim (cases_Bool (begins_unsigned text)) [
      | inl t ↦ first_suffix text s t (sym (ap (λ b. if b then suffix true (drop 1 text) else if begins_unsigned rest then both_sides else suffix false text) t) ∙ e)
      | inr f ↦
          let later : (if begins_unsigned rest then both_sides else suffix false text) ≡ Some s =
          sym (ap (λ b. if b then suffix true (drop 1 text) else if begins_unsigned rest then both_sides else suffix false text) f) ∙ e in
          elim (cases_Bool (begins_unsigned rest)) [
            | inl t ↦ subst (λ (x : List ℕ). IsSuffix x s) (take-append-drop n text)
                (last_suffix (take n text) rest (nat_lt 0 n) s (long_front text) t (sym (ap (λ b. if b then both_sides else suffix false text) t) ∙ later))
            | inr g ↦
                let is = ended_is rest (record { unsigned = false; long = nat_lt 0 n }) s (sym (ap (λ b. if b then both_sides else suffix false text) g) ∙ later) in
                subst (λ (x : Suffix). IsSuffix text x) is.1 (signed (only_long text is.0))
          ]
    ]

-- ---- digits

abbrev prefix_for : Base → List ℕ → List ℕ
prefix_for Decimal text = []
prefix_for Octal text = []
prefix_for Hexadecimal text = take 2 text

prefixed : (b : Base) (text : List ℕ) → text ≡ prefix_for b text ++ body_of b text
prefixed Decimal text = refl
prefixed Octal text = refl
prefixed Hexadecimal text = sym (take-append-drop 2 text)

abbrev Numbered : List ℕ → Base → Type 0
Numbered text b = IsNumber b (prefix_for b text) (run (is_digit_of b) (body_of b text))

hex_prefix : (c d : ℕ) (cs : List ℕ) → begins_hex (c ∷ d ∷ cs) ≡ true → ((c ∷ d ∷ []) ≡ codes "0x") ⊎ ((c ∷ d ∷ []) ≡ codes "0X")
hex_prefix c d cs e =
    let parts = both (c == 48) ((d == 120) || (d == 88)) e in
    let first = eqb-true c 48 parts.0 in
    elim (either (d == 120) (d == 88) parts.1) [
      | inl t ↦ inl (ap₂ (λ (x y : ℕ). x ∷ y ∷ []) first (eqb-true d 120 t))
      | inr t ↦ inr (ap₂ (λ (x y : ℕ). x ∷ y ∷ []) first (eqb-true d 88 t))
    ]

hex_number : (text : List ℕ) → begins_hex text ≡ true → begins_digit_of Hexadecimal (drop 2 text) ≡ true → Numbered text Hexadecimal
hex_number [] h d = absurd (false≢true h)
hex_number (c ∷ []) h d = absurd (false≢true h)
hex_number (c ∷ x ∷ []) h d = absurd (false≢true d)
hex_number (c ∷ x ∷ e ∷ cs) h d = hexadecimal (hex_prefix c x (e ∷ cs) h) (ap is_nil (run_more is_ascii_hexdigit e cs d)) (run_all is_ascii_hexdigit (e ∷ cs))

octal_number : (text : List ℕ) → begins_with 48 text ≡ true → Numbered text Octal
octal_number [] b = absurd (false≢true b)
octal_number (c ∷ cs) b =
    let digit : is_digit_of Octal c ≡ true = ap (is_digit_of Octal) (eqb-true c 48 b) in
    octal (ap (begins_with 48) (run_more (is_digit_of Octal) c cs digit) ∙ b) (run_all (is_digit_of Octal) (c ∷ cs))

decimal_number : (text : List ℕ) → begins_digit text ≡ true → begins_with 48 text ≡ false → Numbered text Decimal
decimal_number [] d b = absurd (false≢true d)
decimal_number (c ∷ cs) d b =
    let more = run_more is_ascii_digit c cs d in
    decimal (ap is_nil more) (ap (begins_with 48) more ∙ b) (run_all is_ascii_digit (c ∷ cs))

number_at : (text : List ℕ) → begins_digit text ≡ true → Numbered text (base_of text)
number_at text d =
    let hex = begins_hex text && begins_digit_of Hexadecimal (drop 2 text) in
    elim (cases_Bool hex) [
      | inl t ↦
          let parts = both (begins_hex text) (begins_digit_of Hexadecimal (drop 2 text)) t in
          subst (Numbered text) (sym (ap (λ b. if b then Hexadecimal else if begins_with 48 text then Octal else Decimal) t)) (hex_number text parts.0 parts.1)
      | inr f ↦ subst (Numbered text) (sym (ap (λ b. if b then Hexadecimal else if begins_with 48 text then Octal else Decimal) f)) (elim (cases_Bool (begins_with 48 text)) [
        | inl t ↦ subst (Numbered text) (sym (ap (λ b. if b then Octal else Decimal) t)) (octal_number text t)
        | inr g ↦ subst (Numbered text) (sym (ap (λ b. if b then Octal else Decimal) g)) (decimal_number text d g)
      ])
    ]

-- ---- literals

abbrev ok_part : Result (Ty × ℕ) UnitRule → Ty × ℕ → Ty × ℕ
ok_part (Ok p) d = p
ok_part (Err r) d = d

module _ (text : List ℕ) (d : begins_digit text ≡ true) where
  written : (s : Suffix) → suffix_of (after (is_digit_of (base_of text)) (body_of (base_of text) text)) ≡ Some s
      → IsWritten text (base_of text) s (value_in (base_of text) (body_of (base_of text) text))
  written s e =
      let b = base_of text in
      let body = body_of b text in
      record {
        prefix = prefix_for b text;
        digits = run (is_digit_of b) body;
        behind = after (is_digit_of b) body;
        parts = prefixed b text ∙ ap (λ (x : List ℕ). prefix_for b text ++ x) (sym (take-append-drop (prefix_len (is_digit_of b) body) body));
        number = number_at text d;
        suffix = suffix_is (after (is_digit_of b) body) s e;
        value = value_of_digits b (run (is_digit_of b) body);
      }

  -- what is said of a literal with this type, or with none
  abbrev Written : Option Ty → ℕ → Type 0
  Written t n = (b : Base) × (s : Suffix) × IsWritten text b s n × (first_type (types_for b s) n ≡ t)

  typed_is : (o : Option Ty) (m : ℕ) (t : Ty) (n : ℕ) → typed o m ≡ Ok (t, n) → (o ≡ Some t) × (m ≡ n)
  typed_is None m t n e = absurd (cc)
  typed_is (Some u) m t n e = (ap (λ r. Some (ok_part r (u, m)).0) e, ap (λ r. (ok_part r (u, m)).1) e)

  untyped_is : (o : Option Ty) (m : ℕ) → typed o m ≡ Err C3 → o ≡ None
  untyped_is None m e = refl
  untyped_is (Some u) m e = absurd (cc)

  some_suffix : (o : Option Suffix) (t : Ty) (n : ℕ) → suffix_of (after (is_digit_of (base_of text)) (body_of (base_of text) text)) ≡ o
      → suffixed (base_of text) (body_of (base_of text) text) o ≡ Ok (t, n) → Written (Some t) n
  some_suffix None t n o e = absurd (cc)
  some_suffix (Some s) t n o e =
      let b = base_of text in
      let m = value_in b (body_of b text) in
      let is = typed_is (first_type (types_for b s) m) m t n e in
      (b, s, subst (λ x. IsWritten text b s x) is.1 (written s o), ap (first_type (types_for b s)) (sym is.1) ∙ is.0)

  large_suffix : (o : Option Suffix) → suffix_of (after (is_digit_of (base_of text)) (body_of (base_of text) text)) ≡ o
      → suffixed (base_of text) (body_of (base_of text) text) o ≡ Err C3 → (n : ℕ) × Written None n
  large_suffix None o e = absurd (cc)
  large_suffix (Some s) o e =
      let b = base_of text in
      let m = value_in b (body_of b text) in
      (m, (b, s, written s o, untyped_is (first_type (types_for b s) m) m e))

  pub literal_written : (t : Ty) (n : ℕ) → literal text ≡ Ok (t, n) → Written (Some t) n
  unfolding literal
  literal_written t n e = some_suffix (suffix_of (after (is_digit_of (base_of text)) (body_of (base_of text) text))) t n refl e

  pub large_written : literal text ≡ Err C3 → (n : ℕ) × Written None n
  unfolding literal
  large_written e = large_suffix (suffix_of (after (is_digit_of (base_of text)) (body_of (base_of text) text))) refl e
