-- What stands before the parameters: what is read is spelled so, and what is spelled so is read.
use Rattle.std.proofs.Common.{◌≡◌, ◌≢◌, ℕ, zero, suc, ◌+◌, ◌-◌, ◌^◌, ◌<◌, ◌≤◌, Bool, true, false, ◌&&◌, eqb, List, [], ◌∷◌, ◌++◌, length, take, drop, Some, Result, Ok, Err, refl, sym, ap, subst, ◌∙◌, arith, length-append}
use Rattle.std.specs.Prelude.{slice_get}
use Rattle.std.specs.Fmt.{decimal}
use Rattle.std.proofs.lemmas.Bool.{cases_Bool, eqb-true, eqb-false, ne_eqb, false≢true, and_parts, and_from}
use Rattle.std.proofs.lemmas.List.{take-append-drop}
use Rattle.vk_kinds.specs.declared.kinds.Isa.{Isa}
use Rattle.vk_kinds.specs.declared.kinds.Isa.TheVariants.{B, C, D, E, N, S}
use Rattle.vk_kinds.specs.declared.kinds.Len.{Len}
use Rattle.vk_kinds.specs.declared.kinds.Len.TheVariants.{Fixed, Scalable}
use Rattle.vk_kinds.specs.declared.kinds.Length.{Length}
use Rattle.vk_names.specs.declared.rules.NameRule.{NameRule}
use Rattle.vk_names.specs.declared.rules.NameRule.TheVariants.{N1, N2, N3, N4, N11}
use Rattle.vk_names.proofs.Reading.{Stop}
use Rattle.vk_names.specs.Spelling.{mark, isa_letter, mask_letter, len_text, front_text, IsLen, IsFront}
use Rattle.vk_names.specs.Refusal.{NoNumber, BeginsWith, Ends, len_goes_on, Refused, wrong_mark, wrong_isa, wrong_mask, wrong_len, wrong_x}
use Rattle.vk_names.proofs.Reading.{◌>>=◌, refuse, number_at, byte_at, mark_at, isa_at, mask_at, fixed_at, len_at, front_at}
use Rattle.vk_names.specs.Inner.Steps.{is_s}
use Rattle.vk_names.proofs.Numbers.{cases_result, not_both, err_is, done, ok_is, bind_ok, bind_err, chosen, left_or, digit_byte, decimal_run, number_again, number_takes, number_refused, number_refuses}
use Rattle.vk_names.proofs.Parameters.{begun, bound_err}

-- what a refusal says: its place and its rule
pub record Says (text : List ℕ) (at : ℕ) (rule : NameRule) (e : Stop) : Type 0 where
  pub place : length text - e.left ≡ at
  pub rule_is : e.rule ≡ rule

abbrev pub stop_at : NameRule → List ℕ → Stop
stop_at rule bytes = record { left = length bytes; rule = rule }

abbrev pub refusal : (A : Type 0) → NameRule → List ℕ → Result A Stop
refusal A rule bytes = refuse rule bytes

pub refuse_is : {A : Type 0} (rule : NameRule) (bytes : List ℕ) (e : Stop) → refusal A rule bytes ≡ Err e → e ≡ stop_at rule bytes
refuse_is {A = A} rule bytes e h = sym (err_is {A = A} (stop_at rule bytes) e h)

pub refuse_not : {A : Type 0} (rule : NameRule) (bytes : List ℕ) (x : A) → refuse rule bytes ≡ Ok x → ⊥
refuse_not rule bytes x h = not_both (refuse rule bytes) x (stop_at rule bytes) h refl

pub done_not : {A : Type 0} (x : A) (e : Stop) → done x ≡ Err e → ⊥
done_not x e h = not_both (done x) x e refl h

-- ---- the mark

byte_takes : (wanted : ℕ) (bytes rest : List ℕ) → byte_at wanted bytes ≡ Ok rest → bytes ≡ wanted ∷ rest
unfolding byte_at
byte_takes wanted [] rest e = absurd cc
byte_takes wanted (b ∷ bs) rest e =
    left_or (chosen (eqb b wanted) _ _ _ e)
    (λ y. ap (λ (c : ℕ). c ∷ bs) (eqb-true b wanted y.0) ∙ ap (λ (t : List ℕ). wanted ∷ t) (ok_is bs rest y.1))
    (λ no. absurd (refuse_not N1 (b ∷ bs) rest no.1))

some_is : (a b : ℕ) → Some a ≡ Some b → a ≡ b
some_is a b e = cc

byte_refused : (wanted : ℕ) (bytes : List ℕ) (e : Stop) → byte_at wanted bytes ≡ Err e → (e ≡ stop_at N1 bytes) × (slice_get bytes 0 ≢ Some wanted)
unfolding byte_at
byte_refused wanted [] e h = (refuse_is N1 [] e h, λ is. cc)
byte_refused wanted (b ∷ bs) e h =
    left_or (chosen (eqb b wanted) _ _ _ h) (λ y. absurd (done_not bs e y.1))
    (λ no. (refuse_is N1 (b ∷ bs) e no.1, λ is. eqb-false b wanted no.0 (some_is b wanted is)))

byte_refuses : (wanted : ℕ) (bytes : List ℕ) → slice_get bytes 0 ≢ Some wanted → byte_at wanted bytes ≡ refuse N1 bytes
unfolding byte_at
byte_refuses wanted [] h = refl
byte_refuses wanted (b ∷ bs) h = rw (ne_eqb b wanted (λ is. h (ap (λ (c : ℕ). Some c) is))) refl

pub mark_takes : (text rest : List ℕ) → mark_at text ≡ Ok rest → text ≡ mark ++ rest
unfolding mark_at
mark_takes text rest e =
    let a = bind_ok (byte_at 95 text) (λ a. byte_at 90 a >>= λ b. byte_at 71 b >>= λ c. byte_at 86 c) rest e in
    let b = bind_ok (byte_at 90 a.0) (λ b. byte_at 71 b >>= λ c. byte_at 86 c) rest a.2 in
    let c = bind_ok (byte_at 71 b.0) (λ c. byte_at 86 c) rest b.2 in
    byte_takes 95 text a.0 a.1 ∙ ap (λ (t : List ℕ). 95 ∷ t) (byte_takes 90 a.0 b.0 b.1) ∙ ap (λ (t : List ℕ). 95 ∷ 90 ∷ t) (byte_takes 71 b.0 c.0 c.1)
    ∙ ap (λ (t : List ℕ). 95 ∷ 90 ∷ 71 ∷ t) (byte_takes 86 c.0 rest c.2)

-- refused after as many bytes of the mark
wrong_at : (at wanted : ℕ) (text rest : List ℕ) (e : Stop) → at < 4 → text ≡ take at mark ++ rest → slice_get mark at ≡ Some wanted
    → length (take at mark ++ rest) ≡ at + length rest → take at (take at mark ++ rest) ≡ take at mark → slice_get (take at mark ++ rest) at ≡ slice_get rest 0
    → (e ≡ stop_at N1 rest) × (slice_get rest 0 ≢ Some wanted) → Refused text (length text - e.left) e.rule
wrong_at at wanted text rest e small is want len front here r =
    let place : length text - length rest ≡ at = omega (arith, ap (λ (t : List ℕ). length t) is, len) in
    subst (λ (s : Stop). Refused text (length text - s.left) s.rule) (sym r.0)
    (subst (λ (k : ℕ). Refused text k N1) (sym place)
    (wrong_mark at small (ap (λ (t : List ℕ). take at t) is ∙ front)
    (λ same. r.1 (sym here ∙ ap (λ (t : List ℕ). slice_get t at) (sym is) ∙ same ∙ want))))

pub mark_refused : (text : List ℕ) (e : Stop) → mark_at text ≡ Err e → Refused text (length text - e.left) e.rule
unfolding mark_at
mark_refused text e h =
    left_or (bind_err (byte_at 95 text) (λ a. byte_at 90 a >>= λ b. byte_at 71 b >>= λ c. byte_at 86 c) e h)
    (λ no. wrong_at 0 95 text text e (omega arith) refl refl (omega arith) refl refl (byte_refused 95 text e no))
    (λ a. let one = byte_takes 95 text a.0 a.1 in
    left_or (bind_err (byte_at 90 a.0) (λ b. byte_at 71 b >>= λ c. byte_at 86 c) e a.2)
    (λ no. wrong_at 1 90 text a.0 e (omega arith) one refl (omega arith) refl refl (byte_refused 90 a.0 e no))
    (λ b. let two = one ∙ ap (λ (t : List ℕ). 95 ∷ t) (byte_takes 90 a.0 b.0 b.1) in
    left_or (bind_err (byte_at 71 b.0) (λ c. byte_at 86 c) e b.2)
    (λ no. wrong_at 2 71 text b.0 e (omega arith) two refl (omega arith) refl refl (byte_refused 71 b.0 e no))
    (λ c. let three = two ∙ ap (λ (t : List ℕ). 95 ∷ 90 ∷ t) (byte_takes 71 b.0 c.0 c.1) in
    wrong_at 3 86 text c.0 e (omega arith) three refl (omega arith) refl refl (byte_refused 86 c.0 e c.2))))

mark_stops : (at wanted : ℕ) (rest : List ℕ) → slice_get mark at ≡ Some wanted → mark_at (take at mark ++ rest) ≡ mark_at (take at mark ++ rest)
    → slice_get (take at mark ++ rest) at ≢ Some wanted → at < 4 → mark_at (take at mark ++ rest) ≡ refuse N1 rest
unfolding mark_at byte_at
mark_stops zero wanted rest want same h small = rw (byte_refuses 95 rest (λ e. h (e ∙ want))) refl
mark_stops (suc zero) wanted rest want same h small = rw (byte_refuses 90 rest (λ e. h (e ∙ want))) refl
mark_stops (suc (suc zero)) wanted rest want same h small = rw (byte_refuses 71 rest (λ e. h (e ∙ want))) refl
mark_stops (suc (suc (suc zero))) wanted rest want same h small = byte_refuses 86 rest (λ e. h (e ∙ want))
mark_stops (suc (suc (suc (suc n)))) wanted rest want same h small = absurd (omega arith)

mark_byte : (at : ℕ) → at < 4 → (wanted : ℕ) × (slice_get mark at ≡ Some wanted) × ((rest : List ℕ) → length (take at mark ++ rest) ≡ at + length rest)
mark_byte zero small = (95, refl, λ rest. omega arith)
mark_byte (suc zero) small = (90, refl, λ rest. omega arith)
mark_byte (suc (suc zero)) small = (71, refl, λ rest. omega arith)
mark_byte (suc (suc (suc zero))) small = (86, refl, λ rest. omega arith)
mark_byte (suc (suc (suc (suc n)))) small = absurd (omega arith)

pub mark_refuses : (text : List ℕ) (at : ℕ) → at < 4 → take at text ≡ take at mark → slice_get text at ≢ slice_get mark at
    → (e : Stop) × (mark_at text ≡ Err e) × Says text at N1 e
mark_refuses text at small front here =
    let b = mark_byte at small in
    let rest = drop at text in
    let is : text ≡ take at mark ++ rest = sym (take-append-drop at text) ∙ ap (λ (t : List ℕ). t ++ rest) front in
    let stops = mark_stops at b.0 rest b.1 refl (λ e. here (ap (λ (t : List ℕ). slice_get t at) is ∙ e ∙ sym b.1)) small in
    let lens = b.2 rest in
    (stop_at N1 rest, ap mark_at is ∙ stops, record { place = omega (arith, ap (λ (t : List ℕ). length t) is, lens); rule_is = refl })

-- ---- letters

pub isa_again : (i : Isa) (rest : List ℕ) → isa_at (isa_letter i ∷ rest) ≡ Ok (i, rest)
unfolding isa_at
isa_again B rest = refl
isa_again C rest = refl
isa_again D rest = refl
isa_again E rest = refl
isa_again N rest = refl
isa_again S rest = refl

isa_found : (b : ℕ) (bs : List ℕ) (wanted : ℕ) (i : Isa) (x : Isa × List ℕ) → isa_letter i ≡ wanted → eqb b wanted ≡ true → done (i, bs) ≡ Ok x → b ∷ bs ≡ isa_letter x.0 ∷ x.1
isa_found b bs wanted i x letter test e =
    subst (λ (y : Isa × List ℕ). b ∷ bs ≡ isa_letter y.0 ∷ y.1) (ok_is (i, bs) x e) (ap (λ (c : ℕ). c ∷ bs) (eqb-true b wanted test ∙ sym letter))

isa_takes : (bytes : List ℕ) (x : Isa × List ℕ) → isa_at bytes ≡ Ok x → bytes ≡ isa_letter x.0 ∷ x.1
unfolding isa_at
isa_takes [] x e = absurd (refuse_not N2 [] x e)
isa_takes (b ∷ bs) x e =
    left_or (chosen (eqb b 98) _ _ _ e) (λ y. isa_found b bs 98 B x refl y.0 y.1)
    (λ n. left_or (chosen (eqb b 99) _ _ _ n.1) (λ y. isa_found b bs 99 C x refl y.0 y.1)
    (λ n. left_or (chosen (eqb b 100) _ _ _ n.1) (λ y. isa_found b bs 100 D x refl y.0 y.1)
    (λ n. left_or (chosen (eqb b 101) _ _ _ n.1) (λ y. isa_found b bs 101 E x refl y.0 y.1)
    (λ n. left_or (chosen (eqb b 110) _ _ _ n.1) (λ y. isa_found b bs 110 N x refl y.0 y.1)
    (λ n. left_or (chosen (eqb b 115) _ _ _ n.1) (λ y. isa_found b bs 115 S x refl y.0 y.1)
    (λ n. absurd (refuse_not N2 (b ∷ bs) x n.1)))))))

isa_stop : (bytes : List ℕ) (e : Stop) → isa_at bytes ≡ Err e → e ≡ stop_at N2 bytes
unfolding isa_at
isa_stop [] e h = refuse_is N2 [] e h
isa_stop (b ∷ bs) e h =
    left_or (chosen (eqb b 98) _ _ _ h) (λ y. absurd (done_not (B, bs) e y.1))
    (λ n. left_or (chosen (eqb b 99) _ _ _ n.1) (λ y. absurd (done_not (C, bs) e y.1))
    (λ n. left_or (chosen (eqb b 100) _ _ _ n.1) (λ y. absurd (done_not (D, bs) e y.1))
    (λ n. left_or (chosen (eqb b 101) _ _ _ n.1) (λ y. absurd (done_not (E, bs) e y.1))
    (λ n. left_or (chosen (eqb b 110) _ _ _ n.1) (λ y. absurd (done_not (N, bs) e y.1))
    (λ n. left_or (chosen (eqb b 115) _ _ _ n.1) (λ y. absurd (done_not (S, bs) e y.1))
    (λ n. refuse_is N2 (b ∷ bs) e n.1))))))

isa_refused : (bytes : List ℕ) (e : Stop) → isa_at bytes ≡ Err e → (i : Isa) → BeginsWith (isa_letter i) bytes → ⊥
isa_refused bytes e h i begins = not_both (isa_at bytes) (i, begins.0) e (ap isa_at begins.1 ∙ isa_again i begins.0) h

isa_refuses : (bytes : List ℕ) → ((i : Isa) → BeginsWith (isa_letter i) bytes → ⊥) → isa_at bytes ≡ refuse N2 bytes
isa_refuses bytes none =
    left_or (cases_result (isa_at bytes)) (λ y. absurd (none y.0.0 (y.0.1, isa_takes bytes y.0 y.1)))
    (λ n. n.1 ∙ ap (λ (s : Stop). Err s) (isa_stop bytes n.0 n.1))

pub mask_again : (m : Bool) (rest : List ℕ) → mask_at (mask_letter m ∷ rest) ≡ Ok (m, rest)
unfolding mask_at
mask_again true rest = refl
mask_again false rest = refl

mask_found : (b : ℕ) (bs : List ℕ) (wanted : ℕ) (m : Bool) (x : Bool × List ℕ) → mask_letter m ≡ wanted → eqb b wanted ≡ true → done (m, bs) ≡ Ok x → b ∷ bs ≡ mask_letter x.0 ∷ x.1
mask_found b bs wanted m x letter test e =
    subst (λ (y : Bool × List ℕ). b ∷ bs ≡ mask_letter y.0 ∷ y.1) (ok_is (m, bs) x e) (ap (λ (c : ℕ). c ∷ bs) (eqb-true b wanted test ∙ sym letter))

mask_takes : (bytes : List ℕ) (x : Bool × List ℕ) → mask_at bytes ≡ Ok x → bytes ≡ mask_letter x.0 ∷ x.1
unfolding mask_at
mask_takes [] x e = absurd (refuse_not N3 [] x e)
mask_takes (b ∷ bs) x e =
    left_or (chosen (eqb b 77) _ _ _ e) (λ y. mask_found b bs 77 true x refl y.0 y.1)
    (λ n. left_or (chosen (eqb b 78) _ _ _ n.1) (λ y. mask_found b bs 78 false x refl y.0 y.1)
    (λ n. absurd (refuse_not N3 (b ∷ bs) x n.1)))

mask_stop : (bytes : List ℕ) (e : Stop) → mask_at bytes ≡ Err e → e ≡ stop_at N3 bytes
unfolding mask_at
mask_stop [] e h = refuse_is N3 [] e h
mask_stop (b ∷ bs) e h =
    left_or (chosen (eqb b 77) _ _ _ h) (λ y. absurd (done_not (true, bs) e y.1))
    (λ n. left_or (chosen (eqb b 78) _ _ _ n.1) (λ y. absurd (done_not (false, bs) e y.1))
    (λ n. refuse_is N3 (b ∷ bs) e n.1))

mask_refused : (bytes : List ℕ) (e : Stop) → mask_at bytes ≡ Err e → (m : Bool) → BeginsWith (mask_letter m) bytes → ⊥
mask_refused bytes e h m begins = not_both (mask_at bytes) (m, begins.0) e (ap mask_at begins.1 ∙ mask_again m begins.0) h

mask_refuses : (bytes : List ℕ) → ((m : Bool) → BeginsWith (mask_letter m) bytes → ⊥) → mask_at bytes ≡ refuse N3 bytes
mask_refuses bytes none =
    left_or (cases_result (mask_at bytes)) (λ y. absurd (none y.0.0 (y.0.1, mask_takes bytes y.0 y.1)))
    (λ n. n.1 ∙ ap (λ (s : Stop). Err s) (mask_stop bytes n.0 n.1))

-- ---- lengths

is_s_true : (i : Isa) → is_s i ≡ true → i ≡ S
is_s_true B h = absurd cc
is_s_true C h = absurd cc
is_s_true D h = absurd cc
is_s_true E h = absurd cc
is_s_true N h = absurd cc
is_s_true S h = refl

-- at another byte than `x` a number is read
pub at_number : (isa : Isa) (masked : Bool) (bytes : List ℕ) → (BeginsWith 120 bytes → ⊥) → len_at isa masked bytes ≡ fixed_at bytes
unfolding len_at
at_number isa masked [] h = refl
at_number isa masked (b ∷ bs) h = rw (ne_eqb b 120 (λ e. h (bs, ap (λ (c : ℕ). c ∷ bs) e))) refl

same_first : (a b : ℕ) (x y : List ℕ) → a ∷ x ≡ b ∷ y → a ≡ b
same_first a b x y e = cc

no_x : (n : ℕ) (rest : List ℕ) → n < 2 ^ 64 → BeginsWith 120 (decimal n ++ rest) → ⊥
no_x n rest small begins =
    let b = begun n small in
    let r = digit_byte b.first b.digit in
    let e : b.first ≡ 120 = same_first b.first 120 (b.others ++ rest) begins.0 (ap (λ (t : List ℕ). t ++ rest) (sym b.is) ∙ begins.1) in
    omega (arith, r, e)

pub len_again : (isa : Isa) (masked : Bool) (len : Len) (rest : List ℕ) → IsLen isa masked len → Ends (len_goes_on len) rest → len_at isa masked (len_text len ++ rest) ≡ Ok (len, rest)
len_again isa masked (Fixed n) rest fits stops =
    let high = fits.1 in
    let small : n < 2 ^ 64 = omega (arith, high) in
    at_number isa masked (decimal n ++ rest) (no_x n rest small)
    ∙ rw (number_again 1 65535 n N4 (decimal n ++ rest) rest (omega arith) (omega arith) fits.0 fits.1 (decimal_run n rest small stops)) refl
len_again isa masked Scalable rest fits stops = scalable isa masked fits.0 fits.1
  where
    scalable : (i : Isa) (m : Bool) → i ≡ S → m ≡ true → len_at i m (120 ∷ rest) ≡ Ok (Scalable, rest)
    scalable i m p q = ap (λ (j : Isa). len_at j m (120 ∷ rest)) p ∙ ap (λ (b : Bool). len_at S b (120 ∷ rest)) q ∙ unfold len_at in refl

pub record TakesLen (isa : Isa) (masked : Bool) (bytes : List ℕ) (len : Len) (rest : List ℕ) : Type 0 where
  pub parts : bytes ≡ len_text len ++ rest
  pub fits : IsLen isa masked len
  pub stops : Ends (len_goes_on len) rest

x_stops : (rest : List ℕ) → Ends (len_goes_on Scalable) rest
x_stops [] = tt
x_stops (b ∷ bs) = refl

fixed_takes : (isa : Isa) (masked : Bool) (bytes : List ℕ) (len : Len) (rest : List ℕ) → fixed_at bytes ≡ Ok (len, rest) → TakesLen isa masked bytes len rest
fixed_takes isa masked bytes len rest e =
    let b = bind_ok (number_at 1 65535 N4 bytes) (λ n. Ok (Fixed n.0, n.1)) (len, rest) e in
    let n = number_takes 1 65535 b.0.0 N4 bytes b.0.1 (omega arith) (omega arith) b.1 in
    subst (λ (x : Len × List ℕ). TakesLen isa masked bytes x.0 x.1) (ok_is (Fixed b.0.0, b.0.1) (len, rest) b.2)
    (record { parts = n.0.parts; fits = (n.1, n.2); stops = n.0.stops })

pub len_takes : (isa : Isa) (masked : Bool) (bytes : List ℕ) (len : Len) (rest : List ℕ) → len_at isa masked bytes ≡ Ok (len, rest) → TakesLen isa masked bytes len rest
unfolding len_at
len_takes isa masked [] len rest e = fixed_takes isa masked [] len rest e
len_takes isa masked (b ∷ bs) len rest e =
    left_or (chosen (eqb b 120) _ _ _ e)
    (λ y. left_or (chosen (is_s isa && masked) _ _ _ y.1)
    (λ z.
    let s = and_parts (is_s isa) masked z.0 in
    subst (λ (x : Len × List ℕ). TakesLen isa masked (b ∷ bs) x.0 x.1) (ok_is (Scalable, bs) (len, rest) z.1)
    (record { parts = ap (λ (c : ℕ). c ∷ bs) (eqb-true b 120 y.0); fits = (is_s_true isa s.0, s.1); stops = x_stops bs }))
    (λ z. absurd (refuse_not N11 (b ∷ bs) (len, rest) z.1)))
    (λ n. fixed_takes isa masked (b ∷ bs) len rest n.1)

pub data LenRefused (isa : Isa) (masked : Bool) (bytes : List ℕ) (e : Stop) : Type 0 where
  an_x : (more : List ℕ) → bytes ≡ 120 ∷ more → ((isa ≡ S) × (masked ≡ true) → ⊥) → e ≡ stop_at N11 bytes → LenRefused isa masked bytes e
  a_number : (BeginsWith 120 bytes → ⊥) → NoNumber (λ n. (1 ≤ n) × (n ≤ 65535)) bytes → e ≡ stop_at N4 bytes → LenRefused isa masked bytes e

fixed_refused : (isa : Isa) (masked : Bool) (bytes : List ℕ) (e : Stop) → (BeginsWith 120 bytes → ⊥) → fixed_at bytes ≡ Err e → LenRefused isa masked bytes e
fixed_refused isa masked bytes e none h =
    let r = number_refused 1 65535 N4 bytes e (omega arith) (omega arith) (bound_err (number_at 1 65535 N4 bytes) (λ n. (Fixed n.0, n.1)) e h) in
    a_number none r.1 r.0

pub len_refused : (isa : Isa) (masked : Bool) (bytes : List ℕ) (e : Stop) → len_at isa masked bytes ≡ Err e → LenRefused isa masked bytes e
unfolding len_at
len_refused isa masked [] e h = fixed_refused isa masked [] e (λ begins. nothing begins.0 begins.1) h
  where
    nothing : (more : List ℕ) → [] ≡ 120 ∷ more → ⊥
    nothing more is = cc
len_refused isa masked (b ∷ bs) e h =
    left_or (chosen (eqb b 120) _ _ _ h)
    (λ y. left_or (chosen (is_s isa && masked) _ _ _ y.1)
    (λ z. absurd (done_not (Scalable, bs) e z.1))
    (λ z. an_x bs (ap (λ (c : ℕ). c ∷ bs) (eqb-true b 120 y.0))
    (λ both. false≢true (sym z.0 ∙ and_from (is_s isa) masked (ap is_s both.0) both.1)) (refuse_is N11 (b ∷ bs) e z.1)))
    (λ n. fixed_refused isa masked (b ∷ bs) e (λ begins. eqb-false b 120 n.0 (same_first b 120 bs begins.0 begins.1)) n.1)

pub x_refuses : (isa : Isa) (masked : Bool) (more : List ℕ) → ((isa ≡ S) × (masked ≡ true) → ⊥) → len_at isa masked (120 ∷ more) ≡ refuse N11 (120 ∷ more)
unfolding len_at
x_refuses isa masked more h =
    left_or (cases_Bool (is_s isa && masked)) (λ y. let s = and_parts (is_s isa) masked y in absurd (h (is_s_true isa s.0, s.1))) (λ n. rw n refl)

pub fixed_refuses : (isa : Isa) (masked : Bool) (bytes : List ℕ) → (BeginsWith 120 bytes → ⊥) → NoNumber (λ n. (1 ≤ n) × (n ≤ 65535)) bytes
    → len_at isa masked bytes ≡ refuse N4 bytes
fixed_refuses isa masked bytes none unread =
    at_number isa masked bytes none ∙ rw (number_refuses 1 65535 N4 bytes (omega arith) (omega arith) unread) refl

-- ---- the whole front

pub record TakesFront (text : List ℕ) (f : Length) (rest : List ℕ) : Type 0 where
  pub parts : text ≡ front_text f ++ rest
  pub fits : IsFront f
  pub stops : Ends (len_goes_on f.len) rest

pub front_again : (f : Length) (rest : List ℕ) → IsFront f → Ends (len_goes_on f.len) rest → front_at (front_text f ++ rest) ≡ Ok (f, rest)
unfolding front_at front_text mark_at byte_at IsFront
front_again f rest fits stops =
    rw (isa_again f.isa (mask_letter f.masked ∷ (len_text f.len ++ rest)), mask_again f.masked (len_text f.len ++ rest), len_again f.isa f.masked f.len rest fits stops) refl

pub front_takes : (text : List ℕ) (f : Length) (rest : List ℕ) → front_at text ≡ Ok (f, rest) → TakesFront text f rest
unfolding front_at front_text IsFront
front_takes text f rest e =
    let a = bind_ok (mark_at text) (λ m. isa_at m >>= λ isa. mask_at isa.1 >>= λ masked. len_at isa.0 masked.0 masked.1 >>= λ len. Ok (record { isa = isa.0; masked = masked.0; len = len.0 }, len.1)) (f, rest) e in
    let b = bind_ok (isa_at a.0) (λ isa. mask_at isa.1 >>= λ masked. len_at isa.0 masked.0 masked.1 >>= λ len. Ok (record { isa = isa.0; masked = masked.0; len = len.0 }, len.1)) (f, rest) a.2 in
    let c = bind_ok (mask_at b.0.1) (λ masked. len_at b.0.0 masked.0 masked.1 >>= λ len. Ok (record { isa = b.0.0; masked = masked.0; len = len.0 }, len.1)) (f, rest) b.2 in
    let d = bind_ok (len_at b.0.0 c.0.0 c.0.1) (λ len. Ok (record { isa = b.0.0; masked = c.0.0; len = len.0 }, len.1)) (f, rest) c.2 in
    let l = len_takes b.0.0 c.0.0 c.0.1 d.0.0 d.0.1 d.1 in
    subst (λ (x : Length × List ℕ). TakesFront text x.0 x.1) (ok_is (record { isa = b.0.0; masked = c.0.0; len = d.0.0 }, d.0.1) (f, rest) d.2)
    (record {
      parts = mark_takes text a.0 a.1 ∙ ap (λ (t : List ℕ). mark ++ t) (isa_takes a.0 b.0 b.1) ∙ ap (λ (t : List ℕ). mark ++ (isa_letter b.0.0 ∷ t)) (mask_takes b.0.1 c.0 c.1)
          ∙ ap (λ (t : List ℕ). mark ++ (isa_letter b.0.0 ∷ mask_letter c.0.0 ∷ t)) l.parts;
      fits = l.fits;
      stops = l.stops;
    })

-- a refusal told as a stop
pub refused_at : (text : List ℕ) (at : ℕ) (rule : NameRule) (bytes : List ℕ) (e : Stop) → e ≡ stop_at rule bytes → at + length bytes ≡ length text → Refused text at rule
    → Refused text (length text - e.left) e.rule
refused_at text at rule bytes e is place r =
    subst (λ (s : Stop). Refused text (length text - s.left) s.rule) (sym is) (subst (λ (k : ℕ). Refused text k rule) (omega (arith, place)) r)

lens : (text front rest : List ℕ) (n : ℕ) → text ≡ front ++ rest → length front ≡ n → n + length rest ≡ length text
lens text front rest n is len = omega (arith, ap (λ (t : List ℕ). length t) is, length-append front rest, len)

pub front_refused : (text : List ℕ) (e : Stop) → front_at text ≡ Err e → Refused text (length text - e.left) e.rule
unfolding front_at
front_refused text e h =
    left_or (bind_err (mark_at text) (λ m. isa_at m >>= λ isa. mask_at isa.1 >>= λ masked. len_at isa.0 masked.0 masked.1 >>= λ len. Ok (record { isa = isa.0; masked = masked.0; len = len.0 }, len.1)) e h)
    (λ no. mark_refused text e no)
    (λ a.
    let one = mark_takes text a.0 a.1 in
    left_or (bind_err (isa_at a.0) (λ isa. mask_at isa.1 >>= λ masked. len_at isa.0 masked.0 masked.1 >>= λ len. Ok (record { isa = isa.0; masked = masked.0; len = len.0 }, len.1)) e a.2)
    (λ no. refused_at text 4 N2 a.0 e (isa_stop a.0 e no) (lens text mark a.0 4 one refl) (wrong_isa a.0 one (isa_refused a.0 e no)))
    (λ b.
    let two = one ∙ ap (λ (t : List ℕ). mark ++ t) (isa_takes a.0 b.0 b.1) in
    left_or (bind_err (mask_at b.0.1) (λ masked. len_at b.0.0 masked.0 masked.1 >>= λ len. Ok (record { isa = b.0.0; masked = masked.0; len = len.0 }, len.1)) e b.2)
    (λ no. refused_at text 5 N3 b.0.1 e (mask_stop b.0.1 e no) (lens text (mark ++ (isa_letter b.0.0 ∷ [])) b.0.1 5 two refl) (wrong_mask b.0.0 b.0.1 two (mask_refused b.0.1 e no)))
    (λ c.
    let three = two ∙ ap (λ (t : List ℕ). mark ++ (isa_letter b.0.0 ∷ t)) (mask_takes b.0.1 c.0 c.1) in
    let place = lens text (mark ++ (isa_letter b.0.0 ∷ mask_letter c.0.0 ∷ [])) c.0.1 6 three refl in
    from_len b.0.0 c.0.0 c.0.1 three place (len_refused b.0.0 c.0.0 c.0.1 e (bound_err (len_at b.0.0 c.0.0 c.0.1) (λ len. (record { isa = b.0.0; masked = c.0.0; len = len.0 }, len.1)) e c.2)))))
  where
    from_len : (isa : Isa) (masked : Bool) (rest : List ℕ) → text ≡ mark ++ (isa_letter isa ∷ mask_letter masked ∷ rest) → 6 + length rest ≡ length text → LenRefused isa masked rest e
        → Refused text (length text - e.left) e.rule
    from_len isa masked rest is place (an_x more begins none stop) =
        refused_at text 6 N11 rest e stop place (wrong_x isa masked more (is ∙ ap (λ (t : List ℕ). mark ++ (isa_letter isa ∷ mask_letter masked ∷ t)) begins) none)
    from_len isa masked rest is place (a_number none unread stop) = refused_at text 6 N4 rest e stop place (wrong_len isa masked rest is none unread)

-- the front is refused by each of its rules
pub isa_stops : (text rest : List ℕ) → text ≡ mark ++ rest → ((i : Isa) → BeginsWith (isa_letter i) rest → ⊥) → front_at text ≡ Err (stop_at N2 rest)
unfolding front_at mark_at byte_at
isa_stops text rest is none = ap front_at is ∙ rw (isa_refuses rest none) refl

pub mask_stops : (text : List ℕ) (isa : Isa) (rest : List ℕ) → text ≡ mark ++ (isa_letter isa ∷ rest) → ((m : Bool) → BeginsWith (mask_letter m) rest → ⊥)
    → front_at text ≡ Err (stop_at N3 rest)
unfolding front_at mark_at byte_at
mask_stops text isa rest is none = ap front_at is ∙ rw (isa_again isa rest, mask_refuses rest none) refl

pub len_stops : (text : List ℕ) (isa : Isa) (masked : Bool) (rest : List ℕ) (e : Stop) → text ≡ mark ++ (isa_letter isa ∷ mask_letter masked ∷ rest) → len_at isa masked rest ≡ Err e
    → front_at text ≡ Err e
unfolding front_at mark_at byte_at
len_stops text isa masked rest e is stops = ap front_at is ∙ rw (isa_again isa (mask_letter masked ∷ rest), mask_again masked rest, stops) refl

pub mark_stops_front : (text : List ℕ) (e : Stop) → mark_at text ≡ Err e → front_at text ≡ Err e
unfolding front_at
mark_stops_front text e h = rw h refl
