-- What words are where an entry may be called on them.
use Rattle.std.proofs.Common.{◌≡◌, ℕ, zero, suc, ◌+◌, ◌-◌, ◌*◌, ◌^◌, ◌<◌, ◌≤◌, ◌==◌, min, nat_le, nat_lt, Bool, true, false, ◌&&◌, List, [], ◌∷◌, length, take, drop, Option, Some, None, refl, ap, sym, subst, ◌∙◌, arith, length-drop, length-take, get_or-drop}
use Rattle.std.specs.Prelude.{slice_get}
use Rattle.std.specs.List.{list_all}
use Rattle.std.proofs.lemmas.Bool.{eqb-true, false≢true, leb-true, lt-leb, ltb-true}
use Rattle.std.proofs.lemmas.Option.{slice_get_within}
use Rattle.vk_types.specs.declared.types.Ty.{Ty}
use Rattle.vk_types.specs.declared.types.Word.{Word}
use Rattle.vk_types.specs.Formats.{type_number}
use Rattle.vk_kinds.specs.declared.heads.CType.{CType}
use Rattle.vk_kinds.specs.declared.heads.CType.TheVariants.{Void, Int, Ptr}
use Rattle.vk_kinds.specs.Types.{ctype_number}
use Rattle.vk_code.specs.Listing.{Listing, reg_type}
use Rattle.vk_code.specs.Tests.{holds}
use Rattle.vk_code.proofs.Faults.{and_left, and_right}
use Rattle.vk_object.specs.declared.image.Image.{Image}
use Rattle.vk_object.specs.Images.{code_of}
use Rattle.vk_object.specs.Tables.{EntryLists, Tables}
use Rattle.vk_frames.specs.Rows.{pattern_at}
use Rattle.vk_runs.specs.Words.{AreArguments, IsWordOf}
use Rattle.vk_runs.proofs.Reached.{holds_at}
use Rattle.vk_runs.proofs.Words.{at_number, no_integer}
use Rattle.vk_steps.specs.declared.place.Place.{Place}
use Rattle.vk_steps.specs.Places.{IsSound, entry, image_tables, listing, tables}
use Rattle.vk_direct.specs.Calls.{given_words}
use Rattle.vk_direct.specs.Taking.{are_words_of, is_word_of, takes_call, takes_words}

-- ---- one type

typed : (t : CType) (w : Word) → is_word_of t w ≡ true → IsWordOf (ctype_number t) w.0
typed Void w h = absurd (false≢true h)
typed (Int t) w h = at_number (type_number t) t w.0 refl h
typed (Ptr t written) w h = no_integer (ctype_number (Ptr t written)) w.0 (pointer t written)
  where
    pointer : (t : Ty) (b : Bool) → 8 ≤ ctype_number (Ptr t b)
    pointer t true = omega arith
    pointer t false = omega arith

all_words : (t : CType) (words : List Word) (n j : ℕ) → list_all (is_word_of t) (take n words) ≡ true → j < n → n ≤ length words → IsWordOf (ctype_number t) (pattern_at words j)
all_words t [] zero j h l m = absurd (omega (arith, l))
all_words t [] (suc n) j h l m = absurd (omega (arith, m))
all_words t (w ∷ words) zero j h l m = absurd (omega (arith, l))
all_words t (w ∷ words) (suc n) zero h l m = typed t w (and_left (is_word_of t w) (list_all (is_word_of t) (take n words)) h)
all_words t (w ∷ words) (suc n) (suc j) h l m = all_words t words n j (and_right (is_word_of t w) (list_all (is_word_of t) (take n words)) h) (omega (arith, l)) (omega (arith, m))

-- ---- all types

-- a type without words for all lanes
pub words_missing : (lanes : ℕ) (types : List CType) (rest : List Word) (i : ℕ) → i < length types → length rest < lanes → are_words_of lanes (drop i types) rest ≡ false
words_missing lanes [] rest i h l = absurd (omega (arith, h))
words_missing lanes (t ∷ ts) rest zero h l = ap (λ b. b && list_all (is_word_of t) (take lanes rest) && are_words_of lanes ts (drop lanes rest)) (lt-leb lanes (length rest) l)
words_missing lanes (t ∷ ts) rest (suc i) h l = words_missing lanes ts rest i (omega (arith, h)) l

pub words_length : (lanes : ℕ) (types : List CType) (words : List Word) → are_words_of lanes types words ≡ true → length words ≡ length types * lanes
words_length lanes [] words h = eqb-true (length words) 0 h ∙ none lanes
  where
    none : (lanes : ℕ) → 0 ≡ 0 * lanes
    none lanes = omega arith
words_length lanes (t ∷ ts) words h =
    let enough : lanes ≤ length words = leb-true lanes (length words) (and_left (nat_le lanes (length words)) (list_all (is_word_of t) (take lanes words)) (and_left (nat_le lanes (length words) && list_all (is_word_of t) (take lanes words)) (are_words_of lanes ts (drop lanes words)) h)) in
    let rest : length (drop lanes words) ≡ length ts * lanes = words_length lanes ts (drop lanes words) (and_right (nat_le lanes (length words) && list_all (is_word_of t) (take lanes words)) (are_words_of lanes ts (drop lanes words)) h) in
    more lanes (length words) (length ts) enough (sym (length-drop lanes words) ∙ rest)
  where
    more : (l n k : ℕ) → l ≤ n → n - l ≡ k * l → n ≡ suc k * l
    more l n k e r = grind arith

pub word_typed : (lanes : ℕ) (types : List CType) (words : List Word) → are_words_of lanes types words ≡ true → (p j : ℕ) → p < length types → j < lanes → IsWordOf (reg_type types p) (given_words lanes words p j)
word_typed lanes [] words h p j l m = absurd (omega (arith, l))
word_typed lanes (t ∷ ts) words h zero j l m =
    let both = and_left (nat_le lanes (length words) && list_all (is_word_of t) (take lanes words)) (are_words_of lanes ts (drop lanes words)) h in
    let enough : lanes ≤ length words = leb-true lanes (length words) (and_left (nat_le lanes (length words)) (list_all (is_word_of t) (take lanes words)) both) in
    subst (λ k. IsWordOf (ctype_number t) (pattern_at words k)) (first lanes j) (all_words t words lanes j (and_right (nat_le lanes (length words)) (list_all (is_word_of t) (take lanes words)) both) m enough)
  where
    first : (lanes j : ℕ) → j ≡ 0 * lanes + j
    first lanes j = omega arith
word_typed lanes (t ∷ ts) words h (suc p) j l m =
    subst (λ w. IsWordOf (reg_type ts p) w) (ap (λ (w : Word). w.0) (get_or-drop lanes words (p * lanes + j) (record { 0 = 0 })) ∙ ap (pattern_at words) (next lanes p j))
    (word_typed lanes ts (drop lanes words) (and_right (nat_le lanes (length words) && list_all (is_word_of t) (take lanes words)) (are_words_of lanes ts (drop lanes words)) h) p j (omega (arith, l)) m)
  where
    next : (lanes p j : ℕ) → lanes + (p * lanes + j) ≡ suc p * lanes + j
    next lanes p j = grind arith

-- ---- an entry that takes the words

pub record Takes (x : EntryLists) (c : Listing) (lanes : ℕ) (words : List Word) : Type 0 where
  pub lanes_are : lanes ≡ x.lanes
  pub count : length words ≡ c.routine.params * lanes
  pub words_typed : AreArguments x.lanes c (given_words lanes words)

taken_words : (x : EntryLists) (c : Listing) (lanes : ℕ) (words : List Word) → lanes ≡ x.lanes → takes_words lanes words c ≡ true → Takes x c lanes words
taken_words x c lanes words e h =
    let types : List CType = take c.routine.params c.routine.regs in
    let few : c.routine.params ≤ length c.routine.regs = leb-true c.routine.params (length c.routine.regs) (and_left (nat_le c.routine.params (length c.routine.regs)) (are_words_of lanes types words) h) in
    let all = and_right (nat_le c.routine.params (length c.routine.regs)) (are_words_of lanes types words) h in
    let many : length types ≡ c.routine.params = length-take c.routine.params c.routine.regs ∙ least c.routine.params (length c.routine.regs) few in
    record {
      lanes_are = e;
      count = words_length lanes types words all ∙ ap (λ n. n * lanes) many;
      words_typed = λ p j l m. subst (λ n. IsWordOf n (given_words lanes words p j)) (front c.routine.regs c.routine.params p l)
          (word_typed lanes types words all p j (subst (λ n. p < n) (sym many) l) (subst (λ n. j < n) (sym e) m));
    }
  where
    least : (m n : ℕ) → m ≤ n → min m n ≡ m
    least m n l = omega (arith, l)

    front : (regs : List CType) (n p : ℕ) → p < n → reg_type (take n regs) p ≡ reg_type regs p
    front [] zero p l = refl
    front [] (suc n) p l = refl
    front (r ∷ regs) zero p l = absurd (omega (arith, l))
    front (r ∷ regs) (suc n) zero l = refl
    front (r ∷ regs) (suc n) (suc p) l = front regs n p (omega (arith, l))

pub taken_call : (image : Tables) (e lanes : ℕ) (words : List Word) (x : EntryLists) (c : Listing) → takes_call image e lanes words ≡ true → slice_get image.entries e ≡ Some x → code_of image x ≡ Some c → Takes x c lanes words
taken_call image e lanes words x c h f g =
    let both = holds_at (λ (y : EntryLists). (lanes == y.lanes) && holds (takes_words lanes words) (code_of image y)) (slice_get image.entries e) x (and_right (nat_lt e (2 ^ 32)) (holds (λ (y : EntryLists). (lanes == y.lanes) && holds (takes_words lanes words) (code_of image y)) (slice_get image.entries e)) h) f in
    taken_words x c lanes words (eqb-true lanes x.lanes (and_left (lanes == x.lanes) (holds (takes_words lanes words) (code_of image x)) both))
    (holds_at (takes_words lanes words) (code_of image x) c (and_right (lanes == x.lanes) (holds (takes_words lanes words) (code_of image x)) both) g)

-- its number
pub taken_small : (image : Tables) (e lanes : ℕ) (words : List Word) → takes_call image e lanes words ≡ true → e < 2 ^ 32
taken_small image e lanes words h = ltb-true e (2 ^ 32) (and_left (nat_lt e (2 ^ 32)) (holds (λ (y : EntryLists). (lanes == y.lanes) && holds (takes_words lanes words) (code_of image y)) (slice_get image.entries e)) h)

pub taken_there : (image : Tables) (e lanes : ℕ) (words : List Word) → takes_call image e lanes words ≡ true → e < length image.entries
taken_there image e lanes words h = by (slice_get image.entries e) refl (and_right (nat_lt e (2 ^ 32)) (holds (λ (y : EntryLists). (lanes == y.lanes) && holds (takes_words lanes words) (code_of image y)) (slice_get image.entries e)) h)
  where
    by : (o : Option EntryLists) → slice_get image.entries e ≡ o → holds (λ (y : EntryLists). (lanes == y.lanes) && holds (takes_words lanes words) (code_of image y)) o ≡ true → e < length image.entries
    by None f g = absurd (false≢true g)
    by (Some x) f g = slice_get_within image.entries e x f

-- at a place of that entry
pub taken_at : (p : Place) (image : Image) (e lanes : ℕ) (words : List Word) → IsSound p → p.image.now ≡ image → p.number ≡ e → takes_call (image_tables image) e lanes words ≡ true → Takes (entry p) (listing p) lanes words
taken_at p image e lanes words s h n t = taken_call (tables p) p.number lanes words (entry p) (listing p) ((λ i. takes_call (image_tables (h i)) (n i) lanes words) ∙ t) s.placed s.coded
