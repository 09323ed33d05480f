-- Numbers at the front of bytes: the longest run of digits, and what `decimal` writes.
use Rattle.std.proofs.Common.{◌≡◌, ◌≢◌, ℕ, ◌+◌, ◌-◌, ◌*◌, ◌^◌, ◌<◌, ◌≤◌, min, Bool, true, false, ◌||◌, ◌&&◌, cond, ltb, eqb, List, [], ◌∷◌, ◌++◌, length, get_or, Result, Ok, Err, refl, sym, ap, subst, ◌∙◌, arith, inl, inr, ◌⊎◌, length-append}
use Rattle.std.specs.Char.{is_ascii_digit, digit_value}
use Rattle.std.specs.Fmt.{decimal}
use Rattle.std.specs.Str.Parse.{AllDigits, digits_value, digits_value_after}
use Rattle.std.proofs.lemmas.Bool.{cases_Bool, ltb-false, le-ltb, lt-ltb, eqb-true, eqb-false, eq-eqb, ne_eqb, or_parts, and_cases}
use Rattle.std.proofs.lemmas.Bool.Decides.{nat_tests}
use Rattle.std.proofs.lemmas.List.Sums.{take_while-cons}
use Rattle.std.proofs.lemmas.Fmt.{digits_decimal, digits_value-decimal, decimal-digits_value, first_decimal}
use Rattle.std.proofs.lemmas.Str.Parse.{IsNumeralModel, numerals_by_value, tells_digits, digit_from_value}
use Rattle.vk_names.specs.declared.rules.NameRule.{NameRule}
use Rattle.vk_names.specs.declared.rules.NameRule.TheVariants.{N6}
use Rattle.vk_names.proofs.Reading.{Stop}
use Rattle.vk_names.specs.Spelling.{IsPosition}
use Rattle.vk_names.specs.Refusal.{digit_run, NoNumber, Ends}
use Rattle.vk_names.proofs.Reading.{◌>>=◌, refuse, digits_after, digits_at, has_zero, number_at, position_at}
use Rattle.vk_names.specs.Inner.Steps.{with_digit}

pub own : IsNumeralModel (AllDigits 10) (digits_value 10)
own = numerals_by_value _ tells_digits

-- ---- results

pub cases_result : {A : Type 0} (r : Result A Stop) → ((x : A) × (r ≡ Ok x)) ⊎ ((e : Stop) × (r ≡ Err e))
cases_result (Ok x) = inl (x, refl)
cases_result (Err e) = inr (e, refl)

pub not_both : {A : Type 0} (r : Result A Stop) (x : A) (e : Stop) → r ≡ Ok x → r ≡ Err e → ⊥
not_both r x e p q = cc

abbrev pub done : {A : Type 0} → A → Result A Stop
done x = Ok x

abbrev pub stopped : (A : Type 0) → Stop → Result A Stop
stopped A e = Err e

pub err_is : {A : Type 0} (d e : Stop) → stopped A d ≡ stopped A e → d ≡ e
err_is d e p = cc

pub ok_is : {A : Type 0} (x y : A) → done x ≡ done y → x ≡ y
ok_is x y p = cc

pub bind_ok : {A B : Type 0} (r : Result A Stop) (f : A → Result B Stop) (y : B) → (r >>= f) ≡ Ok y → (x : A) × (r ≡ Ok x) × (f x ≡ Ok y)
bind_ok (Ok x) f y e = (x, refl, e)
bind_ok (Err d) f y e = absurd cc

pub bind_err : {A B : Type 0} (r : Result A Stop) (f : A → Result B Stop) (e : Stop) → (r >>= f) ≡ Err e → (r ≡ Err e) ⊎ ((x : A) × (r ≡ Ok x) × (f x ≡ Err e))
bind_err (Ok x) f e h = inr (x, refl, h)
bind_err (Err d) f e h = inl (cc)

pub chosen : {A : Type 0} (b : Bool) (x y z : A) → cond b x y ≡ z → ((b ≡ true) × (x ≡ z)) ⊎ ((b ≡ false) × (y ≡ z))
chosen true x y z e = inl (refl, e)
chosen false x y z e = inr (refl, e)

pub left_or : {P Q R : Type 0} → P ⊎ Q → (P → R) → (Q → R) → R
left_or (inl p) f g = f p
left_or (inr q) f g = g q

-- ---- digits

pub digit_byte : (b : ℕ) → is_ascii_digit b ≡ true → (48 ≤ b) × (b ≤ 57)
digit_byte b h = (grind (arith, nat_tests), grind (arith, nat_tests))

pub is_digit : (b : ℕ) → 48 ≤ b → b ≤ 57 → is_ascii_digit b ≡ true
is_digit b low high = grind (arith, nat_tests)

value_of_digit : (b : ℕ) → is_ascii_digit b ≡ true → digit_value b ≡ b - 48
value_of_digit b h =
    let r = digit_byte b h in
    let low : ltb b 48 ≡ false = le-ltb b 48 r.0 in
    let high : ltb b 58 ≡ true = lt-ltb b 58 (omega arith) in
    rw (low, high) refl

small_digit : (b : ℕ) → is_ascii_digit b ≡ true → digit_value b < 10
small_digit b h = let r = digit_byte b h in rw (value_of_digit b h) (omega arith)

pub digit_of_value : (b : ℕ) → digit_value b < 10 → is_ascii_digit b ≡ true
digit_of_value b h = let r = digit_from_value b h in is_digit b (omega (arith, r)) (omega (arith, r))

-- the bytes are digits, and then rest, which does not begin with one
pub record Run (bytes ds rest : List ℕ) : Type 0 where
  pub parts : bytes ≡ ds ++ rest
  pub all : AllDigits 10 ds
  pub stops : Ends is_ascii_digit rest

pub after_run : List ℕ → List ℕ
after_run [] = []
after_run (b ∷ bs) = cond (is_ascii_digit b) (after_run bs) (b ∷ bs)

one_more : (b : ℕ) (bs ds rest : List ℕ) → is_ascii_digit b ≡ true → Run bs ds rest → Run (b ∷ bs) (b ∷ ds) rest
one_more b bs ds rest h r = record { parts = ap (λ (t : List ℕ). b ∷ t) r.parts; all = (small_digit b h, r.all); stops = r.stops }

run_at : (b : ℕ) (bs : List ℕ) (is : Bool) → is_ascii_digit b ≡ is → Run bs (digit_run bs) (after_run bs)
    → Run (b ∷ bs) (cond is (b ∷ digit_run bs) []) (cond is (after_run bs) (b ∷ bs))
run_at b bs true h r = one_more b bs (digit_run bs) (after_run bs) h r
run_at b bs false h r = record { parts = refl; all = tt; stops = h }

pub run_of : (bytes : List ℕ) → Run bytes (digit_run bytes) (after_run bytes)
unfolding after_run
run_of [] = record { parts = refl; all = tt; stops = tt }
run_of (b ∷ bs) = rw (take_while-cons is_ascii_digit b bs) (run_at b bs (is_ascii_digit b) refl (run_of bs))

front_is : (ds rest : List ℕ) → AllDigits 10 ds → Ends is_ascii_digit rest → digit_run (ds ++ rest) ≡ ds
front_is [] [] all stops = refl
front_is [] (c ∷ cs) all stops = take_while-cons is_ascii_digit c cs ∙ rw stops refl
front_is (d ∷ ds) rest all stops =
    take_while-cons is_ascii_digit d (ds ++ rest) ∙ rw (digit_of_value d all.0, front_is ds rest all.1 stops) refl

pub run_is : (bytes ds rest : List ℕ) → Run bytes ds rest → digit_run bytes ≡ ds
run_is bytes ds rest r = ap (λ (t : List ℕ). digit_run t) r.parts ∙ front_is ds rest r.all r.stops

-- ---- the number of a run

capped_value : ℕ → List ℕ → ℕ
capped_value n [] = n
capped_value n (d ∷ ds) = capped_value (with_digit n d) ds

capped_is : (n m : ℕ) (ds : List ℕ) → n ≡ min m 4294967295 → AllDigits 10 ds → capped_value n ds ≡ min (digits_value_after 10 m ds) 4294967295
unfolding capped_value
capped_is n m [] e all = e
capped_is n m (d ∷ ds) e all =
    let v = value_of_digit d (digit_of_value d all.0) in
    let small = all.0 in
    let next : with_digit n d ≡ min (m * 10 + digit_value d) 4294967295 = omega (arith, v, e) in
    capped_is (with_digit n d) (m * 10 + digit_value d) ds next all.1

after_is : (n : ℕ) (ds rest : List ℕ) → AllDigits 10 ds → Ends is_ascii_digit rest → digits_after n (ds ++ rest) ≡ (capped_value n ds, rest)
unfolding capped_value
after_is n [] [] all stops = refl
after_is n [] (c ∷ cs) all stops = rw stops refl
after_is n (d ∷ ds) rest all stops = rw (digit_of_value d all.0) (after_is (with_digit n d) ds rest all.1 stops)

pub digits_are : (bytes ds rest : List ℕ) → Run bytes ds rest → digits_at bytes ≡ (min (digits_value 10 ds) 4294967295, rest)
unfolding digits_at
digits_are bytes ds rest r =
    ap (λ (t : List ℕ). digits_after 0 t) r.parts ∙ after_is 0 ds rest r.all r.stops ∙ ap (λ (n : ℕ). (n, rest)) (capped_is 0 0 ds refl r.all)

-- ---- numbers in a range

zero_first : (ds rest : List ℕ) → 48 < get_or ds 0 0 → has_zero (ds ++ rest) ≡ false
zero_first [] rest h = absurd (omega arith)
zero_first (d ∷ ds) rest h = ne_eqb d 48 (λ e. omega arith)

not_zero_first : (ds rest : List ℕ) → has_zero (ds ++ rest) ≡ false → 0 < length ds → get_or ds 0 0 ≢ 48
not_zero_first [] rest h long = absurd (omega arith)
not_zero_first (d ∷ ds) rest h long = eqb-false d 48 h

pub decimal_run : (n : ℕ) (rest : List ℕ) → n < 2 ^ 64 → Ends is_ascii_digit rest → Run (decimal n ++ rest) (decimal n) rest
decimal_run n rest small stops = record { parts = refl; all = digits_decimal own n small; stops = stops }

value_of_decimal : (n : ℕ) → n < 2 ^ 64 → digits_value 10 (decimal n) ≡ n
value_of_decimal n small = digits_value-decimal own n small

pub number_again : (low high n : ℕ) (rule : NameRule) (bytes rest : List ℕ) → 1 ≤ low → high < 4294967295 → low ≤ n → n ≤ high → Run bytes (decimal n) rest
    → number_at low high rule bytes ≡ Ok (n, rest)
unfolding number_at
number_again low high n rule bytes rest one top above below run =
    let small : n < 2 ^ 64 = omega arith in
    let value = value_of_decimal n small in
    let is : digits_at bytes ≡ (n, rest) = digits_are bytes (decimal n) rest run ∙ ap (λ (k : ℕ). (k, rest)) (omega (arith, value)) in
    let zero : has_zero bytes ≡ false = ap has_zero run.parts ∙ zero_first (decimal n) rest (first_decimal n (omega arith) small) in
    let a : ltb n low ≡ false = le-ltb n low above in
    let b : ltb high n ≡ false = le-ltb high n below in
    rw (zero, is, a, b) refl

pub number_takes : (low high n : ℕ) (rule : NameRule) (bytes rest : List ℕ) → 1 ≤ low → high < 4294967295 → number_at low high rule bytes ≡ Ok (n, rest)
    → Run bytes (decimal n) rest × (low ≤ n) × (n ≤ high)
unfolding number_at
number_takes low high n rule bytes rest one top e =
    let ds = digit_run bytes in
    let r = run_of bytes in
    let is = digits_are bytes ds (after_run bytes) r in
    left_or (chosen (has_zero bytes || (ltb (digits_at bytes).0 low || ltb high (digits_at bytes).0)) (refuse rule bytes) (Ok (digits_at bytes)) (Ok (n, rest)) e)
    (λ no. absurd (not_both (refuse rule bytes) (n, rest) (record { left = length bytes; rule = rule }) no.1 refl))
    (λ yes.
    let found : digits_at bytes ≡ (n, rest) = ok_is (digits_at bytes) (n, rest) yes.1 in
    let tests = or_parts _ _ yes.0 in
    let ranges = or_parts _ _ tests.1 in
    let number : (digits_at bytes).0 ≡ n = ap (λ (p : ℕ × List ℕ). p.0) found in
    let after : (digits_at bytes).1 ≡ rest = ap (λ (p : ℕ × List ℕ). p.1) found in
    let capped : n ≡ min (digits_value 10 ds) 4294967295 = sym number ∙ ap (λ (p : ℕ × List ℕ). p.0) is in
    let rest-is : after_run bytes ≡ rest = sym (ap (λ (p : ℕ × List ℕ). p.1) is) ∙ after in
    let above : low ≤ (digits_at bytes).0 = ltb-false _ _ ranges.0 in
    let below : (digits_at bytes).0 ≤ high = ltb-false _ _ ranges.1 in
    let value : digits_value 10 ds ≡ n = omega (arith, number) in
    let long : 0 < length ds = long_value ds (omega (arith, number)) in
    let plain : get_or ds 0 0 ≢ 48 = not_zero_first ds (after_run bytes) (ap has_zero (sym r.parts) ∙ tests.0) long in
    let text : decimal n ≡ ds = ap decimal (sym value) ∙ decimal-digits_value own ds r.all long (λ z. absurd (plain z)) (omega arith) in
    (subst (λ (t : List ℕ). Run bytes (decimal n) t) rest-is (subst (λ (t : List ℕ). Run bytes t (after_run bytes)) (sym text) r), omega (arith, number), omega (arith, number)))
  where
    long_value : (ds : List ℕ) → 0 < digits_value 10 ds → 0 < length ds
    long_value [] h = absurd (omega arith)
    long_value (d ∷ ds) h = omega arith

pub number_refused : (low high : ℕ) (rule : NameRule) (bytes : List ℕ) (stop : Stop) → 1 ≤ low → high < 4294967295 → number_at low high rule bytes ≡ Err stop
    → (stop ≡ record { left = length bytes; rule = rule }) × NoNumber (λ n. (low ≤ n) × (n ≤ high)) bytes
unfolding number_at
number_refused low high rule bytes stop one top e = (
  left_or (chosen (has_zero bytes || (ltb (digits_at bytes).0 low || ltb high (digits_at bytes).0)) (refuse rule bytes) (Ok (digits_at bytes)) (Err stop) e)
      (λ no. err_is stop (record { left = length bytes; rule = rule }) (sym no.1))
      (λ yes. absurd (not_both (Ok (digits_at bytes)) (digits_at bytes) stop refl yes.1)),
  λ n range is. not_both (number_at low high rule bytes) (n, after_run bytes) stop
      (number_again low high n rule bytes (after_run bytes) one top range.0 range.1 (subst (λ (t : List ℕ). Run bytes t (after_run bytes)) is (run_of bytes))) e,
)

pub number_refuses : (low high : ℕ) (rule : NameRule) (bytes : List ℕ) → 1 ≤ low → high < 4294967295 → NoNumber (λ n. (low ≤ n) × (n ≤ high)) bytes
    → number_at low high rule bytes ≡ refuse rule bytes
number_refuses low high rule bytes one top none =
    left_or (cases_result (number_at low high rule bytes))
    (λ yes.
    let t = number_takes low high yes.0.0 rule bytes yes.0.1 one top yes.1 in
    absurd (none yes.0.0 (t.1, t.2) (run_is bytes (decimal yes.0.0) yes.0.1 t.0)))
    (λ no. no.1 ∙ ap (λ (s : Stop). Err s) (number_refused low high rule bytes no.0 one top no.1).0)

-- ---- positions

lengths : (bytes ds rest : List ℕ) → Run bytes ds rest → length bytes ≡ length ds + length rest
lengths bytes ds rest r = ap (λ (t : List ℕ). length t) r.parts ∙ length-append ds rest

first_byte : (ds rest : List ℕ) → 0 < length ds → has_zero (ds ++ rest) ≡ eqb (get_or ds 0 0) 48
first_byte [] rest h = absurd (omega arith)
first_byte (d ∷ ds) rest h = refl

pub position_again : (bytes ds rest : List ℕ) → Run bytes ds rest → IsPosition ds → position_at bytes ≡ Ok (min (digits_value 10 ds) 255, rest)
unfolding position_at
position_again bytes ds rest r p =
    let is = digits_are bytes ds rest r in
    let len = lengths bytes ds rest r in
    let after : (digits_at bytes).1 ≡ rest = ap (λ (q : ℕ × List ℕ). q.1) is in
    let nonempty = p.nonempty in
    let some : eqb (length rest) (length bytes) ≡ false = ne_eqb _ _ (λ e. omega (arith, len, nonempty)) in
    let first : has_zero bytes ≡ eqb (get_or ds 0 0) 48 = ap has_zero r.parts ∙ first_byte ds rest nonempty in
    let plain : (has_zero bytes && ltb (length rest + 1) (length bytes)) ≡ false =
    left_or (cases_Bool (has_zero bytes))
    (λ zero. let one = p.plain (eqb-true _ _ (sym first ∙ zero)) in rw (zero, le-ltb (length rest + 1) (length bytes) (omega (arith, len, one))) refl)
    (λ other. rw other refl) in
    let capped : min (min (digits_value 10 ds) 4294967295) 255 ≡ min (digits_value 10 ds) 255 = omega arith in
    rw (is, some, plain) (ap (λ (k : ℕ). Ok (k, rest)) capped)

pub position_takes : (bytes : List ℕ) (k : ℕ) (rest : List ℕ) → position_at bytes ≡ Ok (k, rest)
    → (ds : List ℕ) × Run bytes ds rest × IsPosition ds × (k ≡ min (digits_value 10 ds) 255)
unfolding position_at
position_takes bytes k rest e =
    let ds = digit_run bytes in
    let r = run_of bytes in
    let is = digits_are bytes ds (after_run bytes) r in
    let len = lengths bytes ds (after_run bytes) r in
    let after : (digits_at bytes).1 ≡ after_run bytes = ap (λ (q : ℕ × List ℕ). q.1) is in
    let number : (digits_at bytes).0 ≡ min (digits_value 10 ds) 4294967295 = ap (λ (q : ℕ × List ℕ). q.0) is in
    left_or (chosen (eqb (length (digits_at bytes).1) (length bytes) || (has_zero bytes && ltb (length (digits_at bytes).1 + 1) (length bytes))) (refuse N6 bytes) (Ok (min (digits_at bytes).0 255, (digits_at bytes).1)) (Ok (k, rest)) e)
    (λ no. absurd (not_both (refuse N6 bytes) (k, rest) (record { left = length bytes; rule = N6 }) no.1 refl))
    (λ yes.
    let found : (min (digits_at bytes).0 255, (digits_at bytes).1) ≡ (k, rest) = ok_is (min (digits_at bytes).0 255, (digits_at bytes).1) (k, rest) yes.1 in
    let tests = or_parts (eqb (length (digits_at bytes).1) (length bytes)) (has_zero bytes && ltb (length (digits_at bytes).1 + 1) (length bytes)) yes.0 in
    let lens : length (digits_at bytes).1 ≡ length (after_run bytes) = ap (λ (t : List ℕ). length t) after in
    let other = eqb-false (length (digits_at bytes).1) (length bytes) tests.0 in
    let nonempty : 0 < length ds = omega (arith, len, lens, other) in
    let first : has_zero bytes ≡ eqb (get_or ds 0 0) 48 = ap has_zero r.parts ∙ first_byte ds (after_run bytes) nonempty in
    let plain : get_or ds 0 0 ≡ 48 → length ds ≡ 1 = λ zero.
    left_or (and_cases (has_zero bytes) (ltb (length (digits_at bytes).1 + 1) (length bytes)) tests.1)
    (λ no. absurd (not_true (has_zero bytes) no (first ∙ eq-eqb _ _ zero)))
    (λ few. let le = ltb-false (length (digits_at bytes).1 + 1) (length bytes) few in omega (arith, len, lens, le, nonempty)) in
    let k-is : min (digits_at bytes).0 255 ≡ k = ap (λ (q : ℕ × List ℕ). q.0) found in
    let rest-is : after_run bytes ≡ rest = sym after ∙ ap (λ (q : ℕ × List ℕ). q.1) found in
    (ds, subst (λ (t : List ℕ). Run bytes ds t) rest-is r, record { all = r.all; nonempty = nonempty; plain = plain }, omega (arith, k-is, number)))
  where
    not_true : (b : Bool) → b ≡ false → b ≡ true → ⊥
    not_true b p q = cc

pub position_refused : (bytes : List ℕ) (stop : Stop) → position_at bytes ≡ Err stop → (stop ≡ record { left = length bytes; rule = N6 }) × (IsPosition (digit_run bytes) → ⊥)
unfolding position_at
position_refused bytes stop e = (
  left_or (chosen (eqb (length (digits_at bytes).1) (length bytes) || (has_zero bytes && ltb (length (digits_at bytes).1 + 1) (length bytes))) (refuse N6 bytes) (Ok (min (digits_at bytes).0 255, (digits_at bytes).1)) (Err stop) e)
      (λ no. err_is stop (record { left = length bytes; rule = N6 }) (sym no.1))
      (λ yes. absurd (not_both (Ok (min (digits_at bytes).0 255, (digits_at bytes).1)) (min (digits_at bytes).0 255, (digits_at bytes).1) stop refl yes.1)),
  λ p. not_both (position_at bytes) (min (digits_value 10 (digit_run bytes)) 255, after_run bytes) stop (position_again bytes (digit_run bytes) (after_run bytes) (run_of bytes) p) e,
)

pub position_refuses : (bytes : List ℕ) → (IsPosition (digit_run bytes) → ⊥) → position_at bytes ≡ refuse N6 bytes
position_refuses bytes none =
    left_or (cases_result (position_at bytes))
    (λ yes.
    let t = position_takes bytes yes.0.0 yes.0.1 yes.1 in
    absurd (none (subst (λ (ds : List ℕ). IsPosition ds) (sym (run_is bytes t.0 yes.0.1 t.1)) t.2)))
    (λ no. no.1 ∙ ap (λ (s : Stop). Err s) (position_refused bytes no.0 no.1).0)
