-- The machine's call is the run of the code.
use Rattle.std.proofs.Common.{arith, rules, sym, ◌≡◌, ℕ, zero, suc, ◌+◌, ◌*◌, ◌==◌, ◌<◌, ◌≤◌, Bool, true, false, ◌&&◌, cond, List, [], ◌∷◌, length, take, drop, ℤ, ◌≤ℤ◌, int_le, refl, subst, ap, ap₂, ◌∙◌, replicate, ◌-◌, ◌++◌, is_some, is_none}
use Rattle.std.specs.Prelude.{nat_le}
use Rattle.std.specs.List.{list_all}
use Rattle.std.proofs.Math.Seq.{take-append_seam}
use Rattle.std.proofs.lemmas.Int.{ints}
use Rattle.std.proofs.lemmas.Bool.Decides.{nat_tests}
use Rattle.std.proofs.lemmas.List.{get_or-drop, length-drop}
use Rattle.vk_types.specs.declared.types.Ty.{Ty}
use Rattle.vk_types.specs.declared.types.Word.{Word}
use Rattle.vk_types.specs.Numbers.{IsCanonical, IsInRange, number_of}
use Rattle.vk_types.specs.Conversions.{greatest_of, least_of}
use Rattle.vk_kinds.specs.declared.heads.CType.{CType}
use Rattle.vk_kinds.specs.declared.heads.CType.TheVariants.{Int, Ptr, Void}
use Rattle.vk_kinds.specs.Types.{integer_of}
use Rattle.vk_ast.specs.declared.items.ParamDecl.{ParamDecl}
use Rattle.vk_rules_book.specs.Scopes.{types_of}
use Rattle.vk_meaning.specs.Lanes.{IsWord}
use Rattle.vk_meaning.specs.Types.{type_at}
use Rattle.vk_one_return.specs.Form.{is_integer}
use Rattle.vk_lanes.specs.declared.mask.LaneMask.{LaneMask}
use Rattle.vk_lanes.specs.Masks.{is_on, lane_count}
use Rattle.vk_lanes.specs.Words.{word_in}
use Rattle.vk_code.specs.Listing.{Listing}
use Rattle.vk_code.specs.Valid.{is_canonical}
use Rattle.vk_object.specs.Machine.{Given, first_memory, runs}
use Rattle.vk_object.specs.Tables.{Tables}
use Rattle.vk_lane.specs.Runs.{results_of}
use Rattle.vk_direct.specs.Calls.{given_words}
use Rattle.vk_direct.specs.Taking.{are_words_of, is_word_of}
use Rattle.vk_machine.specs.declared.machine.Machine.{Machine}
use Rattle.vk_machine.specs.Machines.{IsFresh, called, tables}
use Rattle.vk_arguments.specs.Arguments.{passed}
use Rattle.vk_flat_functions.specs.Returns.{HasParams}
use Rattle.vk_one_image.specs.Tables.{tables_of}
use Rattle.vk_unit_call.specs.Inner.Runs.{ran}

lower : (t : Ty) (z : ℤ) → IsInRange t z → least_of t ≤ℤ z
lower t z h = search rules

upper : (t : Ty) (z : ℤ) → IsInRange t z → z ≤ℤ greatest_of t
upper t z h = search rules

at_most : (x y : ℤ) → x ≤ℤ y → int_le x y ≡ true
at_most x y h = grind (arith, ints)

pub called_is : (m : Machine) (turns : ℕ) (mask : LaneMask) (args : List Word) (lanes : ℕ) (c : Listing) → tables m ≡ tables_of lanes c → lanes ≡ lane_count mask → IsFresh m →
    called m turns 0 mask args ≡ ran c turns (lane_count mask) (is_on mask) (passed (lane_count mask) args)
unfolding called ran
called_is m turns mask args lanes c is same fresh =
    ap₂ (λ (t : Tables) (w : ℕ → ℕ → ℕ). runs t turns 0 (is_on mask) (given_words (lane_count mask) args) (record { cells = w; log = [] }))
    (is ∙ ap (λ n. tables_of n c) same) (fresh.cells_first ∙ ap (λ t. (first_memory t).cells) is)

pub zero_words : (n i : ℕ) → word_in (replicate n (record { 0 = 0 })) i ≡ 0
zero_words zero i = refl
zero_words (suc n) zero = refl
zero_words (suc n) (suc i) = zero_words n i

pub given_word : (on : ℕ → Bool) (g h : Given) (n lane : ℕ) (old : List Word) → g ≡ h → old ≡ replicate n (record { 0 = 0 }) →
    cond (on lane && is_none (g.stop lane)) (g.value lane) (word_in old lane) ≡ results_of on (λ j. 0) h lane
given_word on g h n lane old same is =
    ap (λ (x : Given). cond (on lane && is_none (x.stop lane)) (x.value lane) (word_in old lane)) same
    ∙ ap (λ w. cond (on lane && is_none (h.stop lane)) (h.value lane) w) (ap (λ l. word_in l lane) is ∙ zero_words n lane)

both : (a b : Bool) → a ≡ true → b ≡ true → (a && b) ≡ true
both true b h i = i
both false b h i = h

least_is : (a b : ℕ) → a ≤ b → nat_le a b ≡ true
least_is a b h = grind (arith, nat_tests, h)

-- what a slice left is the vector
pub front_is : {A : Type 0} → (n : ℕ) (xs ys : List A) → n ≡ length xs → take n (xs ++ ys) ≡ xs
front_is n xs ys e = ap (λ k. take k (xs ++ ys)) e ∙ take-append_seam xs ys

-- ---- words of parameters

first : (a b : Bool) → (a && b) ≡ true → a ≡ true
first true b h = refl
first false b h = h

second : (a b : Bool) → (a && b) ≡ true → b ≡ true
second true b h = h
second false b h = cc

is_canonical_word : (t : Ty) (w : ℕ) → IsCanonical t w → is_canonical t w ≡ true
is_canonical_word t w h = both _ _ (at_most (least_of t) (number_of t w) (lower t (number_of t w) h.1)) (at_most (number_of t w) (greatest_of t) (upper t (number_of t w) h.1))

all_words : (t : Ty) (n : ℕ) (ws : List Word) → n ≤ length ws → ((j : ℕ) → j < n → IsCanonical t (word_in ws j)) → list_all (is_word_of (Int t)) (take n ws) ≡ true
all_words t zero ws le h = search rules
all_words t (suc n) [] le h = absurd (omega (arith, le))
all_words t (suc n) (w ∷ ws) le h = both (is_canonical t w.0) (list_all (is_word_of (Int t)) (take n ws)) (is_canonical_word t w.0 (h 0 (omega arith))) (all_words t n ws (omega (arith, le)) (λ j l. h (suc j) (omega (arith, l))))

-- for each parameter a canonical word for each lane
abbrev pub HaveWords : List ParamDecl → (lanes : ℕ) → List Word → Type 0
HaveWords ps lanes words = (p j : ℕ) → p < length (types_of ps) → j < lanes → IsWord (type_at (types_of ps) p) (passed lanes words p j)

own_words : (q : ParamDecl) (ps : List ParamDecl) (t : Ty) (lanes : ℕ) (words : List Word) → q.ctype ≡ Int t → HaveWords (q ∷ ps) lanes words → (j : ℕ) → j < lanes → IsCanonical t (word_in words j)
own_words q ps t lanes words is h j below = let e : 0 * lanes + j ≡ j = omega arith in
    subst (λ n. IsCanonical t (word_in words n)) e (subst (λ u. IsWord u (passed lanes words 0 j)) is (h 0 j (omega arith) below))

other_words : (q : ParamDecl) (ps : List ParamDecl) (lanes : ℕ) (words : List Word) → HaveWords (q ∷ ps) lanes words → HaveWords ps lanes (drop lanes words)
other_words q ps lanes words h p j pl jl =
    let e : lanes + (p * lanes + j) ≡ suc p * lanes + j = omega arith in
    subst (λ n. IsWord (type_at (types_of ps) p) n) (sym (dropped lanes words (p * lanes + j) ∙ ap (word_in words) e)) (h (suc p) j (omega (arith, pl)) jl)
  where
    dropped : (n : ℕ) (ws : List Word) (i : ℕ) → word_in (drop n ws) i ≡ word_in ws (n + i)
    dropped n ws i = ap (λ (w : Word). w.0) (get_or-drop n ws i (record { 0 = 0 }))

integer_type : (t : CType) → is_some (integer_of t) ≡ true → (s : Ty) × (t ≡ Int s)
integer_type Void h = cc
integer_type (Int s) h = (s, refl)
integer_type (Ptr to written) h = cc

pub words_fit : (ps : List ParamDecl) (lanes : ℕ) (words : List Word) → list_all is_integer ps ≡ true → length words ≡ length ps * lanes → HaveWords ps lanes words → are_words_of lanes (types_of ps) words ≡ true
words_fit [] lanes words ints count h = let none : length words ≡ 0 = omega (arith, count) in ap (λ n. n == 0) none
words_fit (q ∷ ps) lanes words ints count h = both _ _ (both _ _ (least_is lanes (length words) enough) (subst (λ t. list_all (is_word_of t) (take lanes words) ≡ true) (sym int.1) (all_words int.0 lanes words enough (own_words q ps int.0 lanes words int.1 h))))
    (words_fit ps lanes (drop lanes words) (second (is_integer q) (list_all is_integer ps) ints) (length-drop lanes words ∙ fewer) (other_words q ps lanes words h))
  where
    int : (t : Ty) × (q.ctype ≡ Int t)
    int = integer_type q.ctype (second (is_some q.name) (is_some (integer_of q.ctype)) (first (is_integer q) (list_all is_integer ps) ints))

    enough : lanes ≤ length words
    enough = omega (arith, count)

    fewer : length words - lanes ≡ length ps * lanes
    fewer = omega (arith, count)

pub front_words : (ps : List ParamDecl) (lanes : ℕ) (words : List Word) (c : Listing) → HasParams (types_of ps) c → list_all is_integer ps ≡ true → length words ≡ length ps * lanes → HaveWords ps lanes words →
    are_words_of lanes (take c.routine.params c.routine.regs) words ≡ true
front_words ps lanes words c h ints count fit = ap (λ ts. are_words_of lanes ts words) h.types_are ∙ words_fit ps lanes words ints count fit
