-- What an image's conditions say of one entry, one code, one slot.
use Rattle.std.proofs.Common.{◌≡◌, ℕ, zero, suc, ◌+◌, ◌^◌, ◌<◌, ◌≤◌, ◌==◌, nat_le, nat_lt, Bool, true, false, ◌&&◌, ◌||◌, cond, List, [], ◌∷◌, ◌++◌, length, map, take, Option, Some, None, refl, ap, sym, subst, ◌∙◌, arith}
use Rattle.std.proofs.lemmas.Bool.{eqb-true, false≢true, leb-true}
use Rattle.std.proofs.lemmas.List.Folds.{list_all-append}
use Rattle.std.proofs.lemmas.Option.{none-some, same_Some}
use Rattle.std.specs.List.{list_all, range_with_len}
use Rattle.std.specs.Prelude.{slice_get}
use Rattle.vk_kinds.specs.declared.heads.CType.{CType}
use Rattle.vk_kinds.specs.Types.{ctype_number}
use Rattle.vk_code.specs.declared.code.SlotArg.{SlotArg}
use Rattle.vk_code.specs.Listing.{CallSite, Listing, reg_type}
use Rattle.vk_code.specs.Tests.{all_good, holds, pairs}
use Rattle.vk_code.specs.Valid.{body_verdicts, instr_verdicts, is_good_head, is_good_loop, is_good_slot, verdicts}
use Rattle.vk_code.proofs.Faults.{and_left, and_right}
use Rattle.vk_object.specs.declared.tables.EntryKind.{EntryKind}
use Rattle.vk_object.specs.Images.{array_before, cells_of, code_of, entry_before, entry_numbers, has_body, has_lanes, has_slot_types, is_array, is_call, is_chunk, is_code, is_entry, is_entry_byte, is_equal, is_image, is_letter, is_linked, is_loop, is_main, is_number_of, is_row, is_some_entry, is_variant, is_vl, is_within, may_call, names_of, suits}
use Rattle.vk_object.specs.Tables.{EntryLists, Tables}
use Rattle.vk_object.specs.Texts.{ascend, between}
use Rattle.vk_object.specs.Machine.{reg_of}
use Rattle.vk_runs.specs.Words.{IsWordOf}
use Rattle.vk_runs.proofs.Words.{no_integer}

-- ---- members of lists

pub all_at : {A : Type 0} (p : A → Bool) (xs : List A) → list_all p xs ≡ true → (n : ℕ) (x : A) → slice_get xs n ≡ Some x → p x ≡ true
all_at p [] h n x e = absurd (none-some x e)
all_at p (y ∷ ys) h zero x e = ap p (sym (same_Some y x e)) ∙ and_left (p y) (list_all p ys) h
all_at p (y ∷ ys) h (suc n) x e = all_at p ys (and_right (p y) (list_all p ys) h) n x e

pub pairs_at : {A B : Type 0} (p : A → B → Bool) (xs : List A) (ys : List B) → pairs p xs ys ≡ true → (n : ℕ) (x : A) (y : B) → slice_get xs n ≡ Some x → slice_get ys n ≡ Some y → p x y ≡ true
pairs_at p [] ys h n x y e f = absurd (none-some x e)
pairs_at p (a ∷ xs) [] h n x y e f = absurd (none-some y f)
pairs_at p (a ∷ xs) (b ∷ ys) h zero x y e f = ap (λ z. p z y) (sym (same_Some a x e)) ∙ (ap (p a) (sym (same_Some b y f)) ∙ and_left (p a b) (pairs p xs ys) h)
pairs_at p (a ∷ xs) (b ∷ ys) h (suc n) x y e f = pairs_at p xs ys (and_right (p a b) (pairs p xs ys) h) n x y e f

pub holds_at : {A : Type 0} (p : A → Bool) (o : Option A) (x : A) → holds p o ≡ true → o ≡ Some x → p x ≡ true
holds_at p o x h e = ap (holds p) (sym e) ∙ h

-- ---- the image

pub record Parts (rows codes links : Bool) : Type 0 where
  pub rows_good : rows ≡ true
  pub codes_good : codes ≡ true
  pub links_good : links ≡ true

parts : (a b c d e f g h i j k l : Bool) → (a && b && c && d && e && f && g && h && i && j && k && l) ≡ true → Parts e h i
parts a b c d e f g h i j k l t =
    let nine = and_left (a && b && c && d && e && f && g && h && i) j (and_left (a && b && c && d && e && f && g && h && i && j) k (and_left (a && b && c && d && e && f && g && h && i && j && k) l t)) in
    let eight = and_left (a && b && c && d && e && f && g && h) i nine in
    let five = and_left (a && b && c && d && e) f (and_left (a && b && c && d && e && f) g (and_left (a && b && c && d && e && f && g) h eight)) in
    record { rows_good = and_right (a && b && c && d) e five; codes_good = and_right (a && b && c && d && e && f && g) h eight; links_good = and_right (a && b && c && d && e && f && g && h) i nine }

pub image_parts : (image : Tables) → is_image image ≡ true → Parts (list_all (is_row image) image.entries) (list_all (is_code image) image.codes) (list_all (is_entry image) image.entries)
image_parts image h =
    parts (is_letter image.target image.isa) (is_vl image.isa image.vl) (list_all is_array image.arrays) (ascend array_before image.arrays) (list_all (is_row image) image.entries) (ascend entry_before image.entries)
    (is_some_entry image image.main) (list_all (is_code image) image.codes) (list_all (is_entry image) image.entries) (is_main image image.main) (list_all (is_within image 64) (entry_numbers image)) (nat_le (cells_of image) 33554432) h

few : (kind : EntryKind) (n : ℕ) → has_lanes kind n ≡ true → n ≤ 256
few kind n h = either (is_variant kind || is_chunk kind) h
  where
    either : (b : Bool) → cond b (between 2 256 n) (n == 1) ≡ true → n ≤ 256
    either true e = leb-true n 256 (and_right (nat_le 2 n) (nat_le n 256) e)
    either false e = omega (arith, eqb-true n 1 e)

pub row_lanes : (image : Tables) (x : EntryLists) (a b c d e f g : Bool) → (a && b && c && d && e && f && g) ≡ true → c ≡ true
row_lanes image x a b c d e f g h = and_right (a && b) c (and_left (a && b && c) d (and_left (a && b && c && d) e (and_left (a && b && c && d && e) f (and_left (a && b && c && d && e && f) g h))))

-- an entry has at most 256 lanes
pub lanes_few : (image : Tables) → is_image image ≡ true → (n : ℕ) (x : EntryLists) → slice_get image.entries n ≡ Some x → x.lanes ≤ 256
lanes_few image h n x e =
    few x.kind x.lanes (row_lanes image x (between 1 4096 (length x.text)) (list_all is_entry_byte x.text) (has_lanes x.kind x.lanes) (is_number_of image.codes x.code) _ _ _
    (all_at (is_row image) image.entries (image_parts image h).rows_good n x e))

-- the instructions of a code are good
pub code_good : (image : Tables) → is_image image ≡ true → (n : ℕ) (c : Listing) → slice_get image.codes n ≡ Some c → all_good (body_verdicts (names_of image) c.routine) ≡ true
code_good image h n c e =
    let env = names_of image in
    let slots : List Bool = map (is_good_slot env c.routine) c.routine.slots in
    let loops : List Bool = map (is_good_loop env c.routine) c.loops in
    let body : List Bool = body_verdicts env c.routine in
    let all : all_good (verdicts env c) ≡ true = and_right (list_all (has_body image) c.loops) (all_good (verdicts env c)) (all_at (is_code image) image.codes (image_parts image h).codes_good n c e) in
    let behind : all_good (slots ++ (loops ++ body)) ≡ true = and_right (is_good_head c.routine) (all_good (slots ++ (loops ++ body))) all in
    let later : all_good (loops ++ body) ≡ true = and_right (all_good slots) (all_good (loops ++ body)) (sym (list_all-append (λ b. b) slots (loops ++ body)) ∙ behind) in
    and_right (all_good loops) (all_good body) (sym (list_all-append (λ b. b) loops body) ∙ later)

-- each slot of an entry has its target
pub slots_linked : (image : Tables) → is_image image ≡ true → (n : ℕ) (x : EntryLists) (c : Listing) → slice_get image.entries n ≡ Some x → code_of image x ≡ Some c → pairs (is_call image x c) c.routine.slots x.targets ≡ true
slots_linked image h n x c e f =
    let linked : is_linked image x c ≡ true = holds_at (is_linked image x) (code_of image x) c (all_at (is_entry image) image.entries (image_parts image h).links_good n x e) f in
    and_right (suits x c) (pairs (is_call image x c) c.routine.slots x.targets) (and_left (suits x c && pairs (is_call image x c) c.routine.slots x.targets) (pairs (is_loop image c) c.loops x.loops) linked)

-- a target's code has the slot's types
pub record IsTarget (image : Tables) (c : Listing) (slot : CallSite) (target : EntryLists) : Type 0 where
  pub code : Listing
  pub found : code_of image target ≡ Some code
  pub types : has_slot_types c slot code ≡ true

pub target_types : (image : Tables) (x : EntryLists) (c : Listing) (slot : CallSite) (n : ℕ) (target : EntryLists) → is_call image x c slot n ≡ true → slice_get image.entries n ≡ Some target → IsTarget image c slot target
target_types image x c slot n target h e = with_code (code_of image target) refl (and_right (may_call x target) (holds (has_slot_types c slot) (code_of image target)) (holds_at (λ (t : EntryLists). may_call x t && holds (has_slot_types c slot) (code_of image t)) (slice_get image.entries n) target h e))
  where
    with_code : (o : Option Listing) → code_of image target ≡ o → holds (has_slot_types c slot) o ≡ true → IsTarget image c slot target
    with_code None f g = absurd (false≢true g)
    with_code (Some code) f g = record { code = code; found = f; types = g }

-- what is a word of an argument's type is one of the parameter's
pub carried : (from regs : List CType) (args : List SlotArg) (n : ℕ) → pairs is_equal (map (λ (a : SlotArg). reg_type from a.reg) args) (map ctype_number (take n regs)) ≡ true →
    (p : ℕ) → p < n → (w : ℕ) → IsWordOf (reg_type from (reg_of (slice_get args p))) w → IsWordOf (reg_type regs p) w
carried from [] args n h p l w k = no_integer 255 w (omega arith)
carried from (r ∷ regs) args zero h p l w k = absurd (omega (arith, l))
carried from (r ∷ regs) [] (suc n) h p l w k = absurd (false≢true h)
carried from (r ∷ regs) (a ∷ args) (suc n) h zero l w k = subst (λ x. IsWordOf x w) (eqb-true (reg_type from a.reg) (ctype_number r) (and_left (reg_type from a.reg == ctype_number r) (pairs is_equal (map (λ (a : SlotArg). reg_type from a.reg) args) (map ctype_number (take n regs))) h)) k
carried from (r ∷ regs) (a ∷ args) (suc n) h (suc p) l w k = carried from regs args n (and_right (reg_type from a.reg == ctype_number r) (pairs is_equal (map (λ (a : SlotArg). reg_type from a.reg) args) (map ctype_number (take n regs))) h) p (omega (arith, l)) w k
