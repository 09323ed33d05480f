-- What is refused, both ways, and the laws of the two relations.
use Rattle.std.proofs.Common.{◌≡◌, ◌≢◌, ℕ, suc, ◌+◌, ◌-◌, ◌^◌, ◌<◌, ◌≤◌, Bool, true, false, ◌||◌, eqb, List, [], ◌∷◌, ◌++◌, length, map, take, drop, Option, Some, None, Result, Ok, Err, refl, sym, ap, subst, ◌∙◌, arith, inl, inr, ◌⊎◌, length-append, append_assoc, pos, negsuc}
use Rattle.std.specs.Char.{is_ascii_digit}
use Rattle.std.specs.Fmt.{decimal}
use Rattle.std.specs.List.{AllByRecursion, list_all, prefix_len}
use Rattle.std.specs.Str.Parse.{AllDigits}
use Rattle.std.proofs.lemmas.Bool.{cases_Bool, and_parts, and_from, ne_eqb, or_right, false≢true}
use Rattle.std.proofs.lemmas.List.{append_cancel_left, length-take-le, drop_at}
use Rattle.std.proofs.lemmas.List.Sums.{take_while-cons, prefix_len-le-length}
use Rattle.std.proofs.lemmas.Fmt.{digits_decimal}
use Rattle.vk_kinds.specs.declared.kinds.Isa.{Isa}
use Rattle.vk_kinds.specs.declared.kinds.Isa.TheVariants.{B, C, D, E, N, S}
use Rattle.vk_kinds.specs.declared.kinds.Len.{Len}
use Rattle.vk_kinds.specs.declared.kinds.Len.TheVariants.{Fixed, Scalable}
use Rattle.vk_kinds.specs.declared.kinds.Step.{Step}
use Rattle.vk_kinds.specs.declared.kinds.Step.TheVariants.{One, By, Arg}
use Rattle.vk_kinds.specs.declared.kinds.Kind.{Kind}
use Rattle.vk_kinds.specs.declared.kinds.Kind.TheVariants.{Vector, Uniform, Linear, Ref, Val, Uval}
use Rattle.vk_kinds.specs.declared.kinds.Length.{Length}
use Rattle.vk_kinds.specs.declared.kinds.Param.{Param}
use Rattle.vk_names.specs.declared.rules.NameRule.{NameRule}
use Rattle.vk_names.specs.declared.rules.NameRule.TheVariants.{N2, N3, N4, N5, N6, N7, N8, N9, N10, N11, N12}
use Rattle.vk_names.proofs.Reading.{Stop}
use Rattle.vk_names.specs.declared.names.NameHead.{NameHead}
use Rattle.vk_names.specs.Spelling.{Name, name_of, name_in, Written, mark, isa_letter, mask_letter, len_text, front_text, step_text, step_of, optional_step_text, kind_letter, kind_text, align_text, written_text, in_decimal, params_text, name_text, IsLen, IsFront, IsStep, IsOptionalStep, IsOptionalAlign, IsWritten, IsName, is_placed, is_name_byte, text_of, Spells}
use Rattle.vk_names.specs.Refusal.{Ends, has_step, is_kind_letter, Begins, AllPlaced, StandsAt, Refused, wrong_mark, wrong_isa, wrong_mask, wrong_len, wrong_x, stray, one_more, cut_off, wrong_step, wrong_negative, wrong_position, wrong_align, misplaced, wrong_scalar, long_scalar, NameRefused}
use Rattle.vk_names.proofs.Reading.{◌>>=◌, end_at, params_at, front_at, positions_at, scalar_at, name_at}
use Rattle.vk_names.proofs.Numbers.{own, cases_result, not_both, err_is, ok_is, bind_err, left_or, digit_of_value}
use Rattle.vk_names.proofs.Parameters.{bound_err, plain, negative, position, ParamRefused, a_step, an_align, param_refuses}
use Rattle.vk_names.proofs.Fronts.{Says, stop_at, front_refused, front_takes, mark_refuses, mark_stops_front, isa_stops, mask_stops, len_stops, x_refuses, fixed_refuses}
use Rattle.vk_names.proofs.Sequence.{kept, params_take, params_refused, letter_is, fits_in, told}
use Rattle.vk_names.proofs.Placement.{positions_refuse, positions_refused, place_of, all_placed_kept, ScalarRefused, a_start, an_end, scalar_refused, start_refuses, end_refuses}
use Rattle.vk_names.proofs.Whole.{name_from_front, reads_to, reads_params, reads_scalar, begins_none, all_passed, unit_is, name_takes, name_again}
use Rattle.vk_names.proofs.Loop.{stops, is_full, fails}

-- ---- what the reader refuses is refused

scalar_told : (text : List ℕ) (front : Length) (all : List Written) (scalar : List ℕ) (e : Stop) → Begins text front all (95 ∷ scalar) → AllPlaced all all → ScalarRefused scalar e
    → Refused text (length text - e.left) e.rule
scalar_told text front all scalar e b placed (a_start digit stop) =
    let inside = fits_in text (front_text front) (params_text all) (95 ∷ scalar) b.parts in
    told text N10 scalar e stop (omega (arith, inside)) (λ at place. wrong_scalar front all scalar at b placed digit place)
scalar_told text front all scalar e b placed (an_end c cs is first long stop) =
    let here : Begins text front all (95 ∷ c ∷ cs) = subst (λ (t : List ℕ). Begins text front all (95 ∷ t)) is b in
    let inside = fits_in text (front_text front) (params_text all) (95 ∷ c ∷ cs) here.parts in
    subst (λ (s : Stop). Refused text (length text - s.left) s.rule) (sym stop)
    (long_scalar front all c cs (length text - (length (c ∷ cs) - 1024)) here placed first long (omega (arith, inside, long)))

pub name_refused : (text : List ℕ) (e : Stop) → name_at text ≡ Err e → Refused text (length text - e.left) e.rule
unfolding name_at
name_refused text e h =
    left_or (bind_err (front_at text) (λ front. params_at 64 [] front.1 >>= λ params. positions_at params.0 front.1 >>= λ placed. scalar_at params.1 >>= λ scalar. Ok (record { front = front.0; params = params.0; scalar = scalar })) e h)
    (λ stop. front_refused text e stop)
    (λ a.
    let f = begins_none text a.0.0 a.0.1 (front_takes text a.0.0 a.0.1 a.1) in
    left_or (bind_err (params_at 64 [] a.0.1) (λ params. positions_at params.0 a.0.1 >>= λ placed. scalar_at params.1 >>= λ scalar. Ok (record { front = a.0.0; params = params.0; scalar = scalar })) e a.2)
    (λ stop. params_refused 64 text a.0.0 [] a.0.1 e f refl stop)
    (λ b.
    let p = params_take 64 text a.0.0 [] a.0.1 b.0.0 b.0.1 f refl b.1 in
    let rest_is : a.0.1 ≡ params_text p.all ++ (95 ∷ b.0.1) = same_rest (front_text a.0.0) a.0.1 (params_text p.all ++ (95 ∷ b.0.1)) (sym f.parts ∙ p.begins.parts) in
    let judged : positions_at (kept p.all) (params_text p.all ++ (95 ∷ b.0.1)) ≡ positions_at b.0.0 a.0.1 =
    ap (λ (ps : List Param). positions_at ps (params_text p.all ++ (95 ∷ b.0.1))) p.kept_are ∙ ap (λ (t : List ℕ). positions_at b.0.0 t) (sym rest_is) in
    left_or (bind_err (positions_at b.0.0 a.0.1) (λ placed. scalar_at b.0.1 >>= λ scalar. Ok (record { front = a.0.0; params = b.0.0; scalar = scalar })) e b.2)
    (λ stop. positions_refused text a.0.0 p.all b.0.1 e p.begins (judged ∙ stop))
    (λ c.
    let passed = all_passed b.0.0 a.0.1 (unit_is c.0 (positions_at b.0.0 a.0.1) c.1) in
    let placed : AllPlaced p.all p.all = sym (all_placed_kept p.all p.all p.begins.count) ∙ ap (λ (ps : List Param). list_all (is_placed ps) ps) p.kept_are ∙ passed in
    scalar_told text a.0.0 p.all b.0.1 e p.begins placed
    (scalar_refused b.0.1 e (bound_err (scalar_at b.0.1) (λ scalar. record { front = a.0.0; params = b.0.0; scalar = scalar }) e c.2)))))
  where
    same_rest : (front x y : List ℕ) → front ++ x ≡ front ++ y → x ≡ y
    same_rest front x y e = append_cancel_left front x y e

-- ---- what is refused, the reader refuses

-- the reader's refusal
abbrev pub Stops : List ℕ → ℕ → NameRule → Type 0
Stops text at rule = (e : Stop) × (name_at text ≡ Err e) × Says text at rule e

by : (text : List ℕ) (at : ℕ) (rule : NameRule) (rest : List ℕ) → StandsAt text at rest → name_at text ≡ Err (stop_at rule rest) → Stops text at rule
by text at rule rest place h = (stop_at rule rest, h, record { place = omega (arith, place); rule_is = refl })

lens : (text front rest : List ℕ) (n : ℕ) → text ≡ front ++ rest → length front ≡ n → n + length rest ≡ length text
lens text front rest n is len = omega (arith, ap (λ (t : List ℕ). length t) is, length-append front rest, len)

pub end_strays : (b : ℕ) (rest : List ℕ) → is_kind_letter b ≡ false → b ≢ 95 → end_at (b ∷ rest) ≡ Err (stop_at N5 (b ∷ rest))
unfolding end_at
end_strays b rest letter other = rw (ne_eqb b 95 other, letter) refl

pub end_cut : end_at [] ≡ Err (stop_at N9 [])
unfolding end_at
end_cut = refl

-- a letter that begins a parameter is not the `_`
not_underscore : (b : ℕ) → is_kind_letter b ≡ true → b ≢ 95
not_underscore b h is = false≢true (ap is_kind_letter (sym is) ∙ h)

letter_of_step : (b : ℕ) → has_step b ≡ true → is_kind_letter b ≡ true
letter_of_step b h = or_right (eqb b 118) (eqb b 117 || has_step b) (or_right (eqb b 117) (has_step b) h)

param_stops : (text : List ℕ) (front : Length) (ws : List Written) (bytes : List ℕ) (e : Stop) → Begins text front ws bytes → length ws < 64 → end_at bytes ≡ Ok None → ParamRefused bytes e
    → name_at text ≡ Err e
param_stops text front ws bytes e b small goes refused =
    reads_to text front ws bytes e b (fails (64 - length ws) (kept ws) bytes e (params_at (64 - length ws) (kept ws) bytes) goes (omega arith) (param_refuses bytes e refused) refl)

kind_begins : (k : Kind) (digits more : List ℕ) → end_at (kind_text k digits ++ more) ≡ Ok None
kind_begins k digits more = letter_is (kind_letter k) (optional_step_text (step_of k) digits ++ more) (is_letter k) (not_underscore (kind_letter k) (is_letter k))
  where
    is_letter : (k : Kind) → is_kind_letter (kind_letter k) ≡ true
    is_letter Vector = refl
    is_letter Uniform = refl
    is_letter (Linear s) = refl
    is_letter (Ref s) = refl
    is_letter (Val s) = refl
    is_letter (Uval s) = refl

pub name_refuses : (text : List ℕ) (at : ℕ) (rule : NameRule) → Refused text at rule → Stops text at rule
name_refuses text at rule (wrong_mark k small front here) =
    let m = mark_refuses text k small front here in
    (m.0, name_from_front text m.0 (mark_stops_front text m.0 m.1), m.2)
name_refuses text at rule (wrong_isa rest is none) =
    by text 4 N2 rest (lens text mark rest 4 is refl) (name_from_front text (stop_at N2 rest) (isa_stops text rest is none))
name_refuses text at rule (wrong_mask isa rest is none) =
    by text 5 N3 rest (lens text (mark ++ (isa_letter isa ∷ [])) rest 5 is refl) (name_from_front text (stop_at N3 rest) (mask_stops text isa rest is none))
name_refuses text at rule (wrong_len isa masked rest is none unread) =
    by text 6 N4 rest (lens text (mark ++ (isa_letter isa ∷ mask_letter masked ∷ [])) rest 6 is refl)
    (name_from_front text (stop_at N4 rest) (len_stops text isa masked rest (stop_at N4 rest) is (fixed_refuses isa masked rest none unread)))
name_refuses text at rule (wrong_x isa masked rest is none) =
    by text 6 N11 (120 ∷ rest) (lens text (mark ++ (isa_letter isa ∷ mask_letter masked ∷ [])) (120 ∷ rest) 6 is refl)
    (name_from_front text (stop_at N11 (120 ∷ rest)) (len_stops text isa masked (120 ∷ rest) (stop_at N11 (120 ∷ rest)) is (x_refuses isa masked rest none)))
name_refuses text at rule (stray front ws b rest k begins letter other place) =
    by text k N5 (b ∷ rest) place
    (reads_to text front ws (b ∷ rest) (stop_at N5 (b ∷ rest)) begins (stops (64 - length ws) (kept ws) (b ∷ rest) (stop_at N5 (b ∷ rest)) (params_at (64 - length ws) (kept ws) (b ∷ rest)) (end_strays b rest letter other) refl))
name_refuses text at rule (one_more front ws b rest k begins letter count place) =
    by text k N12 (b ∷ rest) place
    (reads_to text front ws (b ∷ rest) (stop_at N12 (b ∷ rest)) begins (is_full (64 - length ws) (kept ws) (b ∷ rest) (params_at (64 - length ws) (kept ws) (b ∷ rest)) (letter_is b rest letter (not_underscore b letter)) (omega (arith, count)) refl))
name_refuses text at rule (cut_off front ws begins) =
    by text (length text) N9 [] (omega arith)
    (reads_to text front ws [] (stop_at N9 []) begins (stops (64 - length ws) (kept ws) [] (stop_at N9 []) (params_at (64 - length ws) (kept ws) []) end_cut refl))
name_refuses text at rule (wrong_step front ws b rest k begins room letter digit none place) =
    by text k N6 rest place
    (param_stops text front ws (b ∷ rest) (stop_at N6 rest) begins room (letter_is b rest (letter_of_step b letter) (not_underscore b (letter_of_step b letter))) (a_step b rest refl letter (plain rest digit none)))
name_refuses text at rule (wrong_negative front ws b rest k begins room letter none place) =
    by text k N6 rest place
    (param_stops text front ws (b ∷ 110 ∷ rest) (stop_at N6 rest) begins room (letter_is b (110 ∷ rest) (letter_of_step b letter) (not_underscore b (letter_of_step b letter))) (a_step b (110 ∷ rest) refl letter (negative rest none)))
name_refuses text at rule (wrong_position front ws b rest k begins room letter none place) =
    by text k N6 rest place
    (param_stops text front ws (b ∷ 115 ∷ rest) (stop_at N6 rest) begins room (letter_is b (115 ∷ rest) (letter_of_step b letter) (not_underscore b (letter_of_step b letter))) (a_step b (115 ∷ rest) refl letter (position rest none)))
name_refuses text at rule (wrong_align front ws kind digits rest k begins room fits none place) =
    by text k N8 rest place
    (param_stops text front ws (kind_text kind digits ++ (97 ∷ rest)) (stop_at N8 rest) begins room (kind_begins kind digits (97 ∷ rest)) (an_align kind digits rest refl fits none refl))
name_refuses text at rule (misplaced front before w after rest begins placed wrong) =
    let stop : Stop = record { left = length (params_text (w ∷ after) ++ (95 ∷ rest)) - 2; rule = N7 } in (
      stop,
      reads_params text front (before ++ (w ∷ after)) rest begins
          ∙ ap (λ (r : Result (Unit {0}) Stop). r >>= λ p. scalar_at rest >>= λ s. Ok (record { front = front; params = kept (before ++ (w ∷ after)); scalar = s })) (positions_refuse text front before w after rest begins placed wrong),
      record { place = (place_of text front before w after rest begins.parts).at; rule_is = refl },
    )
name_refuses text at rule (wrong_scalar front ws scalar k begins placed digit place) =
    by text k N10 scalar place
    (reads_scalar text front ws scalar begins placed ∙ ap (λ (r : Result (List ℕ) Stop). r >>= λ s. Ok (record { front = front; params = kept ws; scalar = s })) (start_refuses scalar digit))
name_refuses text at rule (long_scalar front ws b scalar k begins placed first long place) =
    let stop : Stop = record { left = length (b ∷ scalar) - 1024; rule = N10 } in (
      stop,
      reads_scalar text front ws (b ∷ scalar) begins placed ∙ ap (λ (r : Result (List ℕ) Stop). r >>= λ s. Ok (record { front = front; params = kept ws; scalar = s })) (end_refuses b scalar first long),
      record { place = omega (arith, place, long, fits_in text (front_text front) (params_text ws) (95 ∷ b ∷ scalar) begins.parts); rule_is = refl },
    )

-- ---- the text of bytes

pub text_bytes : (bytes : List ℕ) → list_all is_name_byte (text_of bytes) ≡ true
text_bytes [] = refl
text_bytes (b ∷ bs) =
    left_or (cases_Bool (is_name_byte b))
    (λ yes.
    let is : text_of (b ∷ bs) ≡ b ∷ text_of bs = take_while-cons is_name_byte b bs ∙ rw yes refl in
    ap (λ (t : List ℕ). list_all is_name_byte t) is ∙ and_from (is_name_byte b) (list_all is_name_byte (text_of bs)) yes (text_bytes bs))
    (λ other.
    let is : text_of (b ∷ bs) ≡ [] = take_while-cons is_name_byte b bs ∙ rw other refl in
    ap (λ (t : List ℕ). list_all is_name_byte t) is)

pub text_again : (xs rest : List ℕ) → list_all is_name_byte xs ≡ true → Ends is_name_byte rest → text_of (xs ++ rest) ≡ xs
text_again [] [] all ends = refl
text_again [] (b ∷ bs) all ends = take_while-cons is_name_byte b bs ∙ rw ends refl
text_again (x ∷ xs) rest all ends =
    let p = and_parts (is_name_byte x) (list_all is_name_byte xs) all in
    take_while-cons is_name_byte x (xs ++ rest) ∙ rw (p.0, text_again xs rest p.1 ends) refl

-- ---- a name's text has letters, digits and underscores alone

abbrev AreNameBytes : List ℕ → Type 0
AreNameBytes bytes = list_all is_name_byte bytes ≡ true

both_parts : (xs ys : List ℕ) → AreNameBytes xs → AreNameBytes ys → AreNameBytes (xs ++ ys)
both_parts [] ys p q = q
both_parts (x ∷ xs) ys p q = let r = and_parts (is_name_byte x) (list_all is_name_byte xs) p in and_from (is_name_byte x) (list_all is_name_byte (xs ++ ys)) r.0 (both_parts xs ys r.1 q)

one_byte : (b : ℕ) (bs : List ℕ) → is_name_byte b ≡ true → AreNameBytes bs → AreNameBytes (b ∷ bs)
one_byte b bs p q = and_from (is_name_byte b) (list_all is_name_byte bs) p q

digit_is_name_byte : (b : ℕ) → is_ascii_digit b ≡ true → is_name_byte b ≡ true
digit_is_name_byte b h = rw h refl

digits_bytes : (ds : List ℕ) → AllDigits 10 ds → AreNameBytes ds
digits_bytes [] all = refl
digits_bytes (d ∷ ds) all = one_byte d ds (digit_is_name_byte d (digit_of_value d all.0)) (digits_bytes ds all.1)

decimal_bytes : (n : ℕ) → n < 2 ^ 64 → AreNameBytes (decimal n)
decimal_bytes n small = digits_bytes (decimal n) (digits_decimal own n small)

isa_byte : (i : Isa) → is_name_byte (isa_letter i) ≡ true
isa_byte B = refl
isa_byte C = refl
isa_byte D = refl
isa_byte E = refl
isa_byte N = refl
isa_byte S = refl

mask_byte : (m : Bool) → is_name_byte (mask_letter m) ≡ true
mask_byte true = refl
mask_byte false = refl

len_bytes : (i : Isa) (m : Bool) (len : Len) → IsLen i m len → AreNameBytes (len_text len)
len_bytes i m (Fixed n) fits = let high = fits.1 in decimal_bytes n (omega (arith, high))
len_bytes i m Scalable fits = refl

front_bytes : (f : Length) → IsFront f → AreNameBytes (front_text f)
unfolding front_text IsFront
front_bytes f fits =
    one_byte (isa_letter f.isa) (mask_letter f.masked ∷ len_text f.len) (isa_byte f.isa)
    (one_byte (mask_letter f.masked) (len_text f.len) (mask_byte f.masked) (len_bytes f.isa f.masked f.len fits))

step_bytes : (s : Step) (digits : List ℕ) → IsStep s digits → AreNameBytes (step_text s digits)
step_bytes One digits fits = refl
step_bytes (By (pos n)) digits fits = let high = fits.1 in decimal_bytes n (omega (arith, high))
step_bytes (By (negsuc n)) digits fits = decimal_bytes (suc n) (omega arith)
step_bytes (Arg at) digits fits = digits_bytes digits fits.0.all

optional_step_bytes : (s : Option Step) (digits : List ℕ) → IsOptionalStep s digits → AreNameBytes (optional_step_text s digits)
optional_step_bytes None digits fits = refl
optional_step_bytes (Some s) digits fits = step_bytes s digits fits

letter_byte : (k : Kind) → is_name_byte (kind_letter k) ≡ true
letter_byte Vector = refl
letter_byte Uniform = refl
letter_byte (Linear s) = refl
letter_byte (Ref s) = refl
letter_byte (Val s) = refl
letter_byte (Uval s) = refl

align_bytes : (a : Option ℕ) → IsOptionalAlign a → AreNameBytes (align_text a)
align_bytes None fits = refl
align_bytes (Some n) fits = let high = fits.high in decimal_bytes n (omega (arith, high))

written_bytes : (w : Written) → IsWritten w → AreNameBytes (written_text w)
unfolding written_text
written_bytes w fits =
    both_parts (kind_text w.param.kind w.digits) (align_text w.param.align)
    (one_byte (kind_letter w.param.kind) (optional_step_text (step_of w.param.kind) w.digits) (letter_byte w.param.kind) (optional_step_bytes (step_of w.param.kind) w.digits fits.step))
    (align_bytes w.param.align fits.align)

params_bytes : (ws : List Written) → AllByRecursion IsWritten ws → AreNameBytes (params_text ws)
params_bytes [] fits = refl
params_bytes (w ∷ ws) fits = both_parts (written_text w) (params_text ws) (written_bytes w fits.0) (params_bytes ws fits.1)

pub name_bytes : (n : Name) → IsName n → AreNameBytes (name_text n)
unfolding name_text
name_bytes n fits =
    both_parts (front_text n.front) (params_text (map in_decimal n.params) ++ (95 ∷ n.scalar)) (front_bytes n.front fits.front)
    (both_parts (params_text (map in_decimal n.params)) (95 ∷ n.scalar) (params_bytes (map in_decimal n.params) fits.params) fits.scalar.bytes)

-- ---- the laws

pub found : (bytes : List ℕ) (n : Name) → name_at (text_of bytes) ≡ Ok n → Spells n bytes
found bytes n h = let t = name_takes (text_of bytes) n (text_bytes bytes) h in record { fits = t.fits; text = t.is }

pub reads : (bytes : List ℕ) (n : Name) → Spells n bytes → name_at (text_of bytes) ≡ Ok n
reads bytes n s = ap name_at s.text ∙ name_again n s.fits

pub some_answer : (bytes : List ℕ) → ((n : Name) × Spells n bytes) ⊎ ((at : ℕ) × (rule : NameRule) × NameRefused bytes at rule)
some_answer bytes =
    left_or (cases_result (name_at (text_of bytes)))
    (λ yes. inl (yes.0, found bytes yes.0 yes.1))
    (λ stop. inr (length (text_of bytes) - stop.0.left, stop.0.rule, name_refused (text_of bytes) stop.0 stop.1))

pub one_name : (bytes : List ℕ) (m n : Name) → Spells m bytes → Spells n bytes → m ≡ n
one_name bytes m n p q = ok_is m n (sym (reads bytes m p) ∙ reads bytes n q)

pub spelled_or_refused : (bytes : List ℕ) (n : Name) (at : ℕ) (rule : NameRule) → Spells n bytes → NameRefused bytes at rule → ⊥
spelled_or_refused bytes n at rule s r =
    let e = name_refuses (text_of bytes) at rule r in
    not_both (name_at (text_of bytes)) n e.0 (reads bytes n s) e.1

pub one_refusal : (bytes : List ℕ) (at place : ℕ) (rule other : NameRule) → NameRefused bytes at rule → NameRefused bytes place other → (at ≡ place) × (rule ≡ other)
one_refusal bytes at place rule other r q =
    let e = name_refuses (text_of bytes) at rule r in
    let d = name_refuses (text_of bytes) place other q in
    let same : e.0 ≡ d.0 = err_is e.0 d.0 (sym e.1 ∙ d.1) in
    (sym e.2.place ∙ ap (λ (s : Stop). length (text_of bytes) - s.left) same ∙ d.2.place, sym e.2.rule_is ∙ ap (λ (s : Stop). s.rule) same ∙ d.2.rule_is)

-- the text of a name spells it, where no letter, digit or underscore follows
pub written_is_spelled : (n : Name) (rest : List ℕ) → IsName n → Ends is_name_byte rest → Spells n (name_text n ++ rest)
written_is_spelled n rest fits ends = record { fits = fits; text = text_again (name_text n) rest (name_bytes n fits) ends }

-- ---- the scalar name in the bytes

text_len : (bytes : List ℕ) → take (length (text_of bytes)) bytes ≡ text_of bytes
text_len bytes = ap (λ (k : ℕ). take k bytes) (length-take-le (prefix_len is_name_byte bytes) bytes (prefix_len-le-length is_name_byte bytes))

-- what stands before the scalar name
before_scalar : Name → List ℕ
before_scalar n = front_text n.front ++ (params_text (map in_decimal n.params) ++ (95 ∷ []))

regrouped : (n : Name) → name_text n ≡ before_scalar n ++ n.scalar
unfolding name_text before_scalar
regrouped n =
    ap (λ (t : List ℕ). front_text n.front ++ t) (sym (append_assoc (params_text (map in_decimal n.params)) (95 ∷ []) n.scalar))
    ∙ sym (append_assoc (front_text n.front) (params_text (map in_decimal n.params) ++ (95 ∷ [])) n.scalar)

pub scalar_len : (bytes : List ℕ) (n : Name) → Spells n bytes → (length n.scalar ≤ length (text_of bytes)) × (0 < length n.scalar)
scalar_len bytes n s =
    (omega (arith, ap (λ (t : List ℕ). length t) (s.text ∙ regrouped n), length-append (before_scalar n) n.scalar), s.fits.scalar.nonempty)

pub scalar_in : (bytes : List ℕ) (n : Name) → Spells n bytes → drop (length (text_of bytes) - length n.scalar) (take (length (text_of bytes)) bytes) ≡ n.scalar
scalar_in bytes n s =
    let is : text_of bytes ≡ before_scalar n ++ n.scalar = s.text ∙ regrouped n in
    let place : length (before_scalar n) ≡ length (text_of bytes) - length n.scalar = omega (arith, ap (λ (t : List ℕ). length t) is, length-append (before_scalar n) n.scalar) in
    ap (λ (t : List ℕ). drop (length (text_of bytes) - length n.scalar) t) (text_len bytes ∙ is)
    ∙ drop_at (before_scalar n) n.scalar (length (text_of bytes) - length n.scalar) place

-- ---- what the reader of the code answers

pub record Answers (bytes : List ℕ) (head : NameHead) (scalar : List ℕ) : Type 0 where
  pub spells : Spells (name_in head (length (text_of bytes) - length scalar) (length (text_of bytes)) bytes) bytes
  pub scalar_fits : length scalar ≤ length (text_of bytes)
  pub nonempty : 0 < length scalar

pub answers : (bytes : List ℕ) (head : NameHead) (scalar : List ℕ) → name_at (text_of bytes) ≡ Ok (name_of head scalar) → Answers bytes head scalar
answers bytes head scalar h =
    let s = found bytes (name_of head scalar) h in
    let len = scalar_len bytes (name_of head scalar) s in
    record {
      spells = subst (λ (t : List ℕ). Spells (name_of head t) bytes) (sym (scalar_in bytes (name_of head scalar) s)) s;
      scalar_fits = len.0;
      nonempty = len.1;
    }
