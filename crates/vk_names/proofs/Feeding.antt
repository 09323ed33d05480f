-- One more byte, and the end.
use Rattle.std.proofs.Common.{◌≡◌, ℕ, zero, suc, ◌+◌, ◌-◌, ◌<◌, ◌≤◌, Bool, true, false, ◌&&◌, cond, eqb, List, [], ◌∷◌, ◌++◌, length, take, drop, get_or, Result, Ok, Err, refl, sym, ap, subst, ◌∙◌, arith, inl, inr, ◌⊎◌, length-append, append_assoc}
use Rattle.std.specs.Char.{is_ascii_digit}
use Rattle.std.specs.List.{list_all}
use Rattle.std.proofs.lemmas.Bool.{cases_Bool, eqb-true, eqb-false, lt-ltb, and_parts, and_cases, or_left}
use Rattle.std.proofs.lemmas.List.{append-nil, take-append-le}
use Rattle.std.proofs.lemmas.List.Sums.{prefix_len-le-length}
use Rattle.std.proofs.lemmas.List.Folds.{length-prefix_len}
use Rattle.vk_kinds.specs.declared.kinds.Isa.{Isa}
use Rattle.vk_kinds.specs.declared.kinds.Len.TheVariants.{Fixed}
use Rattle.vk_kinds.specs.declared.kinds.Length.{Length}
use Rattle.vk_kinds.specs.declared.kinds.Param.{Param}
use Rattle.vk_names.specs.declared.rules.NameRule.{NameRule}
use Rattle.vk_names.specs.declared.rules.NameRule.TheVariants.{N1, N2, N3, N4, N9, N10}
use Rattle.vk_names.specs.declared.rules.NameFault.{NameFault}
use Rattle.vk_names.proofs.Reading.{Stop}
use Rattle.vk_names.specs.declared.steps.Run.{Run}
use Rattle.vk_names.specs.declared.steps.Item.{Item}
use Rattle.vk_names.specs.declared.states.Found.{Found}
use Rattle.vk_names.specs.declared.states.State.{State}
use Rattle.vk_names.specs.declared.states.State.TheVariants.{Mark, AtIsa, AtMask, AtLen, LenDigits, Next, Inside, Scalar, Done, Fault}
use Rattle.vk_names.specs.Spelling.{Name, mark, isa_letter, is_name_byte, text_of, Spells}
use Rattle.vk_names.specs.Refusal.{Refused}
use Rattle.vk_names.proofs.Reading.{digits_at, number_at, param_at, params_at, front_at, scalar_at, name_at, mark_at, byte_at, isa_at, mask_at, len_at}
use Rattle.vk_names.specs.Pieces.{told_at, is_ended, is_told}
use Rattle.vk_names.specs.Inner.Steps.{number_of, param_of, mark_on, isa_on, mask_on, len_on, digits_on, scalar_on, byte_on, cut_off_at, end_on, answered, state_on}
use Rattle.vk_names.proofs.Standing.{RunIs, ParamsAre, IsInside, IsInScalar, begins_with_digit, IsFound, IsFault, Reads, StateIs, reading, done, fault}
use Rattle.vk_names.specs.Inner.Feeds.{found_name}
use Rattle.vk_names.proofs.Numbers.{left_or}
use Rattle.vk_names.proofs.Fronts.{stop_at, isa_again}
use Rattle.vk_names.proofs.Placement.{scalar_again, end_refuses}
use Rattle.vk_names.proofs.Exact.{text_again, end_cut, found, scalar_in}
use Rattle.vk_names.proofs.Loop.{stops, fails, goes_on}
use Rattle.vk_names.proofs.Staying.{ended_stays, text_stays, due_stays, refusal_stays}
use Rattle.vk_names.proofs.Items.{ItemJudged, bare, aligned, refused, item_judged}
use Rattle.vk_names.proofs.Due.{own_text, more_text, name_stops, name_goes, stopped_fault, IsOpen, open_end, open_run}
use Rattle.vk_names.proofs.AtNext.{front_whole, front_more, next_is, inside_is, NoAlign, judged_param, ends_in, fault_is}
use Rattle.vk_names.proofs.AtFront.{letters, mark_is, isa_is, mask_is, len_is, digits_is, some_digit, front_read, front_stops, len_read}

-- ---- in the scalar name

first_more : (scalar : List ℕ) (b : ℕ) → begins_with_digit scalar ≡ false → (0 < length scalar) ⊎ (is_ascii_digit b ≡ false) → begins_with_digit (scalar ++ (b ∷ [])) ≡ false
first_more [] b first (inl some) = absurd (omega arith)
first_more [] b first (inr other) = other
first_more (c ∷ cs) b first either = first

long_refuses : (scalar : List ℕ) → begins_with_digit scalar ≡ false → 1024 < length scalar → scalar_at scalar ≡ Err (record { left = length scalar - 1024; rule = N10 })
long_refuses [] first long = absurd (omega arith)
long_refuses (b ∷ bs) first long = end_refuses b bs first long

digit_refuses : (scalar : List ℕ) (b : ℕ) → length scalar ≡ 0 → is_ascii_digit b ≡ true → scalar_at (scalar ++ (b ∷ [])) ≡ Err (record { left = 1; rule = N10 })
unfolding scalar_at
digit_refuses [] b none digit = rw digit refl
digit_refuses (c ∷ cs) b none digit = absurd (omega (arith, none))

name_is : Length → List Param → List ℕ → Result Name Stop
name_is front params s = Ok (record { front = front; params = params; scalar = s })

scalar_stops : (fed : List ℕ) (b left : ℕ) (found : Found) (params : List Param) → (i : IsInScalar found params fed) → scalar_at (i.scalar ++ (b ∷ [])) ≡ Err (record { left = left; rule = N10 })
    → name_at (fed ++ (b ∷ [])) ≡ Err (record { left = left; rule = N10 })
scalar_stops fed b left found params i h =
    name_goes (fed ++ (b ∷ [])) (i.after ++ (b ∷ [])) found.front params (i.scalar ++ (b ∷ [])) (front_whole found.front (i.after ++ (b ∷ [])) (fed ++ (b ∷ [])) (front_more found.front i.after fed b i.front_is)) (i.params_are (b ∷ [])) i.placed
    ∙ rw h refl

longer_is : (found : Found) (params : List Param) (fed : List ℕ) (b : ℕ) → list_all is_name_byte (fed ++ (b ∷ [])) ≡ true → (i : IsInScalar found params fed) → length i.scalar < 1024
    → (0 < length i.scalar) ⊎ (is_ascii_digit b ≡ false) → StateIs params (fed ++ (b ∷ [])) (Scalar (record { front = found.front; scalar_at = found.scalar_at; used = told_at (found.used + 1) }))
longer_is found params fed b all i short either =
    let used = i.used in
    let place = i.place in
    let low = i.low in
    let lens = length-append fed (b ∷ []) in
    let more = length-append i.scalar (b ∷ []) in
    reading (Scalar (record { front = found.front; scalar_at = found.scalar_at; used = told_at (found.used + 1) })) all (record {
      after = i.after ++ (b ∷ []);
      scalar = i.scalar ++ (b ∷ []);
      front_is = front_more found.front i.after fed b i.front_is;
      params_are = λ rest. ap (λ (t : List ℕ). params_at 64 [] t) (append_assoc i.after (b ∷ []) rest) ∙ i.params_are (b ∷ rest) ∙ ap (λ (t : List ℕ). Ok (params, t)) (sym (append_assoc i.scalar (b ∷ []) rest));
      placed = i.placed;
      used = omega (arith, used, place, low, short, lens);
      place = omega (arith, place, lens, more);
      low = i.low;
      short = omega (arith, short, more);
      first = first_more i.scalar b i.first either;
    })

scalar_is : (found : Found) (params : List Param) (fed : List ℕ) (b : ℕ) → list_all is_name_byte (fed ++ (b ∷ [])) ≡ true → IsInScalar found params fed → StateIs params (fed ++ (b ∷ [])) (scalar_on found b)
scalar_is found params fed b all i =
    let used = i.used in
    let place = i.place in
    let low = i.low in
    let short = i.short in
    let lens = length-append fed (b ∷ []) in
    let more = length-append i.scalar (b ∷ []) in
    left_or (cases_Bool (eqb found.used found.scalar_at && is_ascii_digit b))
    (λ yes.
    let both = and_parts (eqb found.used found.scalar_at) (is_ascii_digit b) yes in
    let start = eqb-true _ _ both.0 in
    rw yes (fault (record { at = found.scalar_at; rule = N10 })
    (stopped_fault (fed ++ (b ∷ [])) found.scalar_at 1 N10 all (scalar_stops fed b 1 found params i (digit_refuses i.scalar b (omega (arith, used, place, start)) both.1))
    (omega arith) (omega (arith, lens)) (omega (arith, lens, used, start, low)) refl)))
    (λ other.
    left_or (cases_Bool (eqb found.used (found.scalar_at + 1024)))
    (λ yes.
    let end = eqb-true _ _ yes in
    let first = first_more i.scalar b i.first (inl (omega (arith, used, place, end))) in
    let long = long_refuses (i.scalar ++ (b ∷ [])) first (omega (arith, used, place, end, more)) in
    let one : length (i.scalar ++ (b ∷ [])) - 1024 ≡ 1 = omega (arith, used, place, end, more) in
    rw (other, yes) (fault (record { at = found.used; rule = N10 })
    (stopped_fault (fed ++ (b ∷ [])) found.used 1 N10 all (scalar_stops fed b 1 found params i (long ∙ ap (λ (k : ℕ). Err (record { left = k; rule = N10 })) one))
    (omega arith) (omega (arith, lens)) (omega (arith, lens, used, end, low)) refl)))
    (λ room.
    let end = eqb-false _ _ room in
    rw (other, room) (longer_is found params fed b all i (omega (arith, used, place, end, short))
    (left_or (and_cases (eqb found.used found.scalar_at) (is_ascii_digit b) other)
    (λ past. let start = eqb-false _ _ past in inl (omega (arith, used, place, start)))
    (λ letter. inr letter)))))

-- ---- a letter, digit or underscore

-- where no parameter has come yet
moved : (next : List Param → State) (params : List Param) (fed here : List ℕ) (b : ℕ) → params ≡ [] → fed ≡ here → list_all is_name_byte (fed ++ (b ∷ [])) ≡ true
    → (list_all is_name_byte (here ++ (b ∷ [])) ≡ true → StateIs [] (here ++ (b ∷ [])) (next [])) → StateIs params (fed ++ (b ∷ [])) (next params)
moved next params fed here b none is all goes =
    subst (λ (ps : List Param). StateIs ps (fed ++ (b ∷ [])) (next ps)) (sym none)
    (subst (λ (t : List ℕ). list_all is_name_byte (t ++ (b ∷ [])) ≡ true → StateIs [] (t ++ (b ∷ [])) (next [])) (sym is) goes all)

byte_is : (state : State) (params : List Param) (fed : List ℕ) (b : ℕ) → list_all is_name_byte (fed ++ (b ∷ [])) ≡ true → Reads state params fed → StateIs (byte_on state params b).1 (fed ++ (b ∷ [])) (byte_on state params b).0
unfolding byte_on
byte_is (Mark n) params fed b all r = moved (λ ps. mark_on n b) params fed (take n mark) b r.2 r.1 all (mark_is n b r.0)
byte_is AtIsa params fed b all r = moved (λ ps. isa_on b) params fed mark b r.1 r.0 all (isa_is b)
byte_is (AtMask isa) params fed b all r = moved (λ ps. mask_on isa b) params fed (mark ++ (isa_letter isa ∷ [])) b r.1 r.0 all (mask_is isa b)
byte_is (AtLen isa masked) params fed b all r = moved (λ ps. len_on isa masked b) params fed (letters isa masked) b r.1 r.0 all (len_is isa masked b)
byte_is (LenDigits isa masked run) params fed b all r =
    moved (λ ps. digits_on isa masked run ps b) params fed (letters isa masked ++ r.0) b r.4 r.1 all (λ whole. digits_is isa masked run r.0 b whole r.2 r.3)
byte_is (Next front at) params fed b all r =
    next_is front params at b fed r.after all r.place (front_more front r.after fed b r.front_is) (λ rest. r.params_are (b ∷ rest)) r.few
byte_is (Inside front at item) params fed b all r = inside_is front at item params fed b all r
byte_is (Scalar found) params fed b all r = scalar_is found params fed b all r
byte_is (Done found) params fed b all r = absurd r
byte_is (Fault f) params fed b all r = absurd r

-- ---- the end

pub data EndIs (params : List Param) (fed : List ℕ) : Result Found NameFault → Type 0 where
  a_name : (found : Found) → IsFound found params fed → EndIs params fed (Ok found)
  a_fault : (f : NameFault) → IsOpen f fed → EndIs params fed (Err f)

mark_ends : (n : ℕ) → n < 4 → (name_at (take n mark) ≡ Err (record { left = 0; rule = N1 })) × (length (take n mark) ≡ n)
unfolding name_at front_at mark_at byte_at
mark_ends zero small = (refl, refl)
mark_ends (suc zero) small = (refl, refl)
mark_ends (suc (suc zero)) small = (refl, refl)
mark_ends (suc (suc (suc zero))) small = (refl, refl)
mark_ends (suc (suc (suc (suc n)))) small = absurd (omega arith)

isa_ends : name_at mark ≡ Err (record { left = 0; rule = N2 })
unfolding name_at front_at mark_at byte_at isa_at
isa_ends = refl

mask_ends : (i : Isa) → name_at (mark ++ (isa_letter i ∷ [])) ≡ Err (record { left = 0; rule = N3 })
unfolding name_at front_at mark_at byte_at mask_at
mask_ends i = rw (isa_again i []) refl

len_ends : (i : Isa) (m : Bool) → name_at (letters i m) ≡ Err (record { left = 0; rule = N4 })
unfolding name_at len_at number_at digits_at
len_ends i m = rw (len_read i m []) refl

-- the bytes end where no parameter has come yet
at_end : (fed here : List ℕ) (told : ℕ) (rule : NameRule) (params : List Param) → list_all is_name_byte fed ≡ true → fed ≡ here → name_at here ≡ Err (record { left = 0; rule = rule }) → told ≡ length here → told ≤ 6
    → EndIs params fed (Err (record { at = told; rule = rule }))
at_end fed here told rule params all is h place low =
    let lens = ap (λ (t : List ℕ). length t) is in
    a_fault (record { at = told; rule = rule }) (open_end fed told rule all (ap name_at is ∙ h) (omega (arith, place, low, lens)))

none_left : (front : Length) (params : List Param) (fed after : List ℕ) (at room : ℕ) → list_all is_name_byte fed ≡ true → front_at fed ≡ Ok (front, after) → params_at 64 [] after ≡ params_at room params [] → at ≡ told_at (length fed)
    → IsOpen (record { at = at; rule = N9 }) fed
none_left front params fed after at room all h p is =
    open_end fed at N9 all (name_stops fed after front (stop_at N9 []) h (stops room params [] (stop_at N9 []) (params_at 64 [] after) end_cut (sym p))) is

digits_end : (i : Isa) (m : Bool) (run : Run) (ds fed : List ℕ) (params : List Param) (r : Result ℕ NameFault) → list_all is_name_byte (letters i m ++ ds) ≡ true → RunIs run 6 ds → 0 < length ds → number_of 1 65535 N4 run ≡ r
    → EndIs params (letters i m ++ ds) (cut_off_at (told_at (run.len + 6)) r)
digits_end i m run ds fed params (Err f) all r some is =
    let numbered = some_digit i m ds [] r.digits some in
    let refusal = front_stops i m run ds [] f r tt numbered is in
    let stops = ap name_at (sym (append-nil (letters i m ++ ds))) ∙ refusal.stops in
    a_fault f (subst (λ (g : NameFault). IsOpen g (letters i m ++ ds)) (sym refusal.fault_is) (open_run (letters i m ++ ds) ds run.at 6 N4 all r.digits (letters i m, refl) (omega arith) r.place refl stops))
digits_end i m run ds fed params (Ok n) all r some is =
    let len = r.len in
    let numbered = some_digit i m ds [] r.digits some in
    let reads = ap front_at (sym (append-nil (letters i m ++ ds))) ∙ front_read i m run ds [] n r tt numbered is in
    a_fault (record { at = told_at (run.len + 6); rule = N9 }) (none_left (record { isa = i; masked = m; len = Fixed n }) [] (letters i m ++ ds) [] (told_at (run.len + 6)) 64 all reads refl (omega (arith, len)))

params_whole : (params : List Param) (last after : List ℕ) → ParamsAre params last after → params_at 64 [] after ≡ params_at (64 - length params) params (last ++ [])
params_whole params last after are = ap (λ (t : List ℕ). params_at 64 [] t) (sym (append-nil after)) ∙ are []

item_ends : (front : Length) (at : ℕ) (item : Item) (params : List Param) (fed : List ℕ) (r : Result Param NameFault) → list_all is_name_byte fed ≡ true → (i : IsInside front at item params fed)
    → ItemJudged (length fed) i.last [] r → EndIs params fed (cut_off_at at r)
unfolding NoAlign
item_ends front at item params fed (Ok p) all i judged =
    let few = i.few in
    let lens = length-append params (p ∷ []) in
    let read : param_at (i.last ++ []) ≡ Ok (p, []) = judged_param (length fed) i.last [] (Ok p) p judged refl tt in
    let next = goes_on (64 - length params) (64 - length (params ++ (p ∷ []))) params (i.last ++ []) p [] (params_at 64 [] i.after) (i.begins []) (omega (arith, few, lens)) read (sym (params_whole params i.last i.after i.params_are)) in
    a_fault (record { at = at; rule = N9 }) (none_left front (params ++ (p ∷ [])) fed i.after at (64 - length (params ++ (p ∷ []))) all (front_whole front i.after fed i.front_is) (sym next) i.place)
item_ends front at item params fed (Err f) all i judged = a_fault f (run_open (Err f) judged refl)
  where
    run_open : (r : Result Param NameFault) → ItemJudged (length fed) i.last [] r → r ≡ Err f → IsOpen f fed
    run_open r (bare kind h) is = absurd cc
    run_open r (aligned kind align h) is = absurd cc
    run_open r (refused told place ds rule told_is sum digits last judges stop h) is =
        let few = i.few in
        let stop_is : Stop = record { left = length (ds ++ []); rule = rule } in
        let reads : params_at 64 [] i.after ≡ Err stop_is =
        fails (64 - length params) params (i.last ++ []) stop_is (params_at 64 [] i.after) (i.begins []) (omega (arith, few)) h (sym (params_whole params i.last i.after i.params_are)) in
        subst (λ (g : NameFault). IsOpen g fed) (fault_is (record { at = told; rule = rule }) f is)
        (open_run fed ds told place rule all digits (ends_in ds i.last fed last i.last_is) sum told_is judges
        (name_stops fed i.after front stop_is (front_whole front i.after fed i.front_is) reads))

-- ---- the end in the scalar name

empty : (bytes : List ℕ) → length bytes ≡ 0 → bytes ≡ []
empty [] h = refl
empty (b ∷ bs) h = absurd (omega (arith, h))

first_is : (scalar : List ℕ) → begins_with_digit scalar ≡ false → 0 < length scalar → is_ascii_digit (get_or scalar 0 0) ≡ false
first_is [] first some = absurd (omega arith)
first_is (b ∷ bs) first some = first

scalar_ends : (f : Found) (params : List Param) (fed : List ℕ) → list_all is_name_byte fed ≡ true → IsInScalar f params fed
    → EndIs params fed (cond (eqb f.used f.scalar_at) (Err (record { at = f.scalar_at; rule = N10 })) (Ok f))
unfolding scalar_at
scalar_ends f params fed all i =
    let used = i.used in
    let place = i.place in
    let low = i.low in
    let after_is : params_at 64 [] i.after ≡ Ok (params, i.scalar) = ap (λ (t : List ℕ). params_at 64 [] t) (sym (append-nil i.after)) ∙ i.params_are [] ∙ ap (λ (t : List ℕ). Ok (params, t)) (append-nil i.scalar) in
    let goes = name_goes fed i.after f.front params i.scalar (front_whole f.front i.after fed i.front_is) after_is i.placed in
    left_or (cases_Bool (eqb f.used f.scalar_at))
    (λ yes.
    let start = eqb-true _ _ yes in
    let none = empty i.scalar (omega (arith, used, place, start)) in
    rw yes (a_fault (record { at = f.scalar_at; rule = N10 }) (open_end fed f.scalar_at N10 all (goes ∙ rw none refl) (omega (arith, used, start, low)))))
    (λ other.
    let start = eqb-false _ _ other in
    let some : 0 < length i.scalar = omega (arith, used, place, start) in
    let own = own_text fed all in
    let len : length (text_of fed) ≡ length fed = ap (λ (t : List ℕ). length t) own in
    let name : Name = record { front = f.front; params = params; scalar = i.scalar } in
    let reads : name_at (text_of fed) ≡ Ok name = ap name_at own ∙ goes ∙ rw (scalar_again i.scalar some (first_is i.scalar i.first some) i.short) refl in
    let spells = found fed name reads in
    let scalar_is : drop f.scalar_at (take f.used fed) ≡ i.scalar =
    ap (λ (k : ℕ). drop k (take f.used fed)) (omega (arith, used, place, len)) ∙ ap (λ (k : ℕ). drop (length (text_of fed) - length i.scalar) (take k fed)) (omega (arith, used, len)) ∙ scalar_in fed name spells in
    rw other (a_name f (record {
      spelled = subst (λ (s : List ℕ). Spells (record { front = f.front; params = params; scalar = s }) fed) (sym scalar_is) spells;
      scalar = omega (arith, used, place, some);
      used = omega (arith, used, len);
    })))

pub end_is : (state : State) (params : List Param) (fed : List ℕ) → list_all is_name_byte fed ≡ true → Reads state params fed → EndIs params fed (end_on state)
unfolding end_on
end_is (Mark n) params fed all r = let small = r.0 in let e = mark_ends n r.0 in at_end fed (take n mark) n N1 params all r.1 e.0 (sym e.1) (omega (arith, small))
end_is AtIsa params fed all r = at_end fed mark 4 N2 params all r.0 isa_ends refl (omega arith)
end_is (AtMask isa) params fed all r = at_end fed (mark ++ (isa_letter isa ∷ [])) 5 N3 params all r.0 (mask_ends isa) refl (omega arith)
end_is (AtLen isa masked) params fed all r = at_end fed (letters isa masked) 6 N4 params all r.0 (len_ends isa masked) refl (omega arith)
end_is (LenDigits isa masked run) params fed all r =
    subst (λ (t : List ℕ). list_all is_name_byte t ≡ true → EndIs params t (cut_off_at (told_at (run.len + 6)) (number_of 1 65535 N4 run))) (sym r.1)
    (λ whole. digits_end isa masked run r.0 fed params (number_of 1 65535 N4 run) whole r.2 r.3 refl) all
end_is (Next front at) params fed all r =
    a_fault (record { at = at; rule = N9 }) (none_left front params fed r.after at (64 - length params) all (front_whole front r.after fed r.front_is) (params_whole params [] r.after r.params_are) r.place)
end_is (Inside front at item) params fed all r = item_ends front at item params fed (param_of item) all r (item_judged item at (length fed) r.last [] r.item_is tt)
end_is (Scalar found) params fed all r = scalar_ends found params fed all r
end_is (Done found) params fed all r = absurd r
end_is (Fault f) params fed all r = absurd r

-- ---- any byte

-- a byte that ends the text
ends_text : (fed : List ℕ) (b : ℕ) → list_all is_name_byte fed ≡ true → is_name_byte b ≡ false → (text_of (fed ++ (b ∷ [])) ≡ fed) × (is_ended (fed ++ (b ∷ [])) ≡ true)
ends_text fed b all other =
    let is = text_again fed (b ∷ []) all other in
    (is, lt-ltb _ _ (omega (arith, ap (λ (t : List ℕ). length t) is, length-append fed (b ∷ []))))

same_name : (f : Found) (params : List Param) (fed more : List ℕ) → f.used ≡ length (text_of fed) → found_name f params (fed ++ more) ≡ found_name f params fed
same_name f params fed more used =
    ap (λ (t : List ℕ). record { front = f.front; params = params; scalar = drop f.scalar_at t }) (take-append-le f.used fed more (omega (arith, used, prefix_len-le-length is_name_byte fed, length-prefix_len is_name_byte fed)))

-- a name that was found stays one where the text does
found_stays : (f : Found) (params : List Param) (fed more : List ℕ) → text_of (fed ++ more) ≡ text_of fed → IsFound f params fed → IsFound f params (fed ++ more)
found_stays f params fed more same is = record {
  spelled = subst (λ (n : Name). Spells n (fed ++ more)) (sym (same_name f params fed more is.used)) (record { fits = is.spelled.fits; text = same ∙ is.spelled.text });
  scalar = is.scalar;
  used = is.used ∙ ap (λ (t : List ℕ). length t) (sym same);
}

closed_is : (params : List Param) (fed : List ℕ) (b : ℕ) (r : Result Found NameFault) → list_all is_name_byte fed ≡ true → is_name_byte b ≡ false → EndIs params fed r → StateIs params (fed ++ (b ∷ [])) (answered r)
closed_is params fed b r all other (a_name f is) =
    let e = ends_text fed b all other in
    done f e.1 (found_stays f params fed (b ∷ []) (e.0 ∙ sym (own_text fed all)) is)
closed_is params fed b r all other (a_fault f is) =
    let e = ends_text fed b all other in
    fault f (record {
      at = is.at;
      place = is.place;
      due = or_left (is_ended (fed ++ (b ∷ []))) (is_told (fed ++ (b ∷ [])) is.at f.rule) e.1;
      refused = subst (λ (t : List ℕ). Refused t is.at f.rule) (own_text fed all ∙ sym e.0) is.refused;
    })

fault_stays : (f : NameFault) (fed more : List ℕ) → IsFault f fed → IsFault f (fed ++ more)
fault_stays f fed more is = record { at = is.at; place = is.place; due = due_stays fed more is.at f.rule is.due; refused = refusal_stays fed more is.at f.rule is.due is.refused }

pub state_is : (state : State) (params : List Param) (fed : List ℕ) (b : ℕ) → StateIs params fed state → StateIs (state_on state params b).1 (fed ++ (b ∷ [])) (state_on state params b).0
unfolding byte_on end_on
state_is state params fed b (reading s all r) =
    left_or (cases_Bool (is_name_byte b))
    (λ yes. rw yes (byte_is s params fed b (more_text fed b all yes) r))
    (λ other. rw other (closed_is params fed b (end_on s) all other (end_is s params fed all r)))
state_is state params fed b (done f ended is) =
    let stays = done f (ended_stays fed (b ∷ []) ended) (found_stays f params fed (b ∷ []) (text_stays fed (b ∷ []) ended) is) in
    left_or (cases_Bool (is_name_byte b)) (λ yes. rw yes stays) (λ other. rw other stays)
state_is state params fed b (fault f is) =
    let stays = fault f (fault_stays f fed (b ∷ []) is) in
    left_or (cases_Bool (is_name_byte b)) (λ yes. rw yes stays) (λ other. rw other stays)

pub starts : StateIs [] [] (Mark 0)
starts = reading (Mark 0) refl (omega arith, refl, refl)
