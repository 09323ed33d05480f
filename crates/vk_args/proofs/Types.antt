-- What the types of a call say of its arguments.
use Rattle.std.proofs.Common.{◌≡◌, ℕ, zero, suc, ◌+◌, ◌<◌, ◌≤◌, ◌==◌, nat_le, nat_lt, Bool, true, false, not, ◌&&◌, ◌||◌, cond, ℤ, List, [], ◌∷◌, length, map, take, Option, Some, None, refl, ap, sym, subst, ◌∙◌, arith}
use Rattle.std.specs.Prelude.{slice_get}
use Rattle.std.specs.List.{list_all}
use Rattle.std.proofs.lemmas.Bool.{eqb-true, false≢true, leb-true, ltb-true}
use Rattle.vk_types.specs.Formats.{type_number}
use Rattle.vk_kinds.specs.declared.heads.CType.{CType}
use Rattle.vk_kinds.specs.declared.heads.CType.TheVariants.{Void, Int, Ptr}
use Rattle.vk_kinds.specs.declared.kinds.Kind.{Kind}
use Rattle.vk_kinds.specs.declared.kinds.Kind.TheVariants.{Vector, Uniform, Linear, Ref, Val, Uval}
use Rattle.vk_kinds.specs.declared.kinds.Step.TheVariants.{Arg}
use Rattle.vk_kinds.specs.declared.kinds.Param.{Param}
use Rattle.vk_kinds.specs.Types.{ctype_number}
use Rattle.vk_code.specs.declared.code.SlotArg.{SlotArg}
use Rattle.vk_code.specs.Listing.{CallSite, Listing, Routine, number_of_some, reg_type}
use Rattle.vk_code.specs.Tests.{holds, pairs}
use Rattle.vk_code.specs.Valid.{has_good_counts, has_good_registers, is_good_head, is_integer, is_result, result_type}
use Rattle.vk_code.proofs.Faults.{and_left, and_right}
use Rattle.vk_object.specs.Images.{are_entries, arg_types, code_of, has_lanes, has_slot_types, is_call, is_chunk, is_entry, is_entry_byte, is_equal, is_function_code, is_image, is_linked, is_loop, is_number_of, is_ordinary, is_rest, is_row, is_variant, param_types, result_of, suits}
use Rattle.vk_object.specs.Lane.{LaneState}
use Rattle.vk_object.specs.Machine.{first_lane, kind_in, moved_by, passed, reg_of}
use Rattle.vk_object.specs.Texts.{between}
use Rattle.vk_object.specs.Parameters.{are_kinds, are_typed, is_aligned_at, is_kind_at, is_param_at}
use Rattle.vk_object.specs.Tables.{EntryLists, Tables}
use Rattle.vk_runs.specs.Words.{AreArguments, HasWords, IsWordOf}
use Rattle.vk_runs.proofs.Reached.{all_at, holds_at, image_parts, pairs_at}
use Rattle.vk_runs.proofs.Words.{at_number, canonical_wrap, no_integer, zero_word}
use Rattle.vk_steps.specs.declared.place.Place.{Place}
use Rattle.vk_steps.specs.Places.{FitsPlace, IsSound, entry, listing, regs, tables}
use Rattle.vk_steps.proofs.Fitting.{fits_as}
use Rattle.vk_frames.specs.declared.frame.Frame.{Frame}
use Rattle.vk_frames.specs.Frames.{FitsAs, lanes_of}
use Rattle.vk_steps.proofs.Typed.{there}
use Rattle.vk_calls.proofs.Callees.{element, head_good, inside, pairs_length}
use Rattle.vk_args.specs.Readable.{HasSteps}

-- ---- the head of the code where it is called

abbrev pub HasTypes : List CType → Type 0
HasTypes types = list_all (λ t. nat_lt (ctype_number t) 24) types ≡ true

pub record Head (c : Routine) : Type 0 where
  pub masks : 0 < c.masks
  pub few : length c.regs + c.masks ≤ 8192
  pub params : c.params ≤ length c.regs
  pub result : is_result (length c.regs) c.result ≡ true
  pub types : HasTypes c.regs

pub head_of : (p : Place) → IsSound p → Head (listing p).routine
head_of p s =
    let c : Routine = (listing p).routine in
    let h : is_good_head c ≡ true = head_good (tables p) s.valid (entry p).code (listing p) s.coded in
    let first : has_good_registers c ≡ true = and_left (has_good_registers c) (has_good_counts c) (and_left (has_good_registers c && has_good_counts c) (list_all (λ t. nat_lt (ctype_number t) 24) c.regs) h) in
    let three = and_left (nat_le 1 c.masks && nat_le (length c.regs + c.masks) 8192 && nat_le c.params (length c.regs)) (is_result (length c.regs) c.result) first in
    let two = and_left (nat_le 1 c.masks && nat_le (length c.regs + c.masks) 8192) (nat_le c.params (length c.regs)) three in
    let one = leb-true 1 c.masks (and_left (nat_le 1 c.masks) (nat_le (length c.regs + c.masks) 8192) two) in
    record {
      masks = omega (arith, one);
      few = leb-true (length c.regs + c.masks) 8192 (and_right (nat_le 1 c.masks) (nat_le (length c.regs + c.masks) 8192) two);
      params = leb-true c.params (length c.regs) (and_right (nat_le 1 c.masks && nat_le (length c.regs + c.masks) 8192) (nat_le c.params (length c.regs)) three);
      result = and_right (nat_le 1 c.masks && nat_le (length c.regs + c.masks) 8192 && nat_le c.params (length c.regs)) (is_result (length c.regs) c.result) first;
      types = and_right (has_good_registers c && has_good_counts c) (list_all (λ t. nat_lt (ctype_number t) 24) c.regs) h;
    }

-- ---- arguments are registers

pub arg_there : (from : List CType) (args : List SlotArg) (types : List CType) (n : ℕ) → pairs is_equal (map (λ (a : SlotArg). reg_type from a.reg) args) (map ctype_number (take n types)) ≡ true → HasTypes types → n ≤ length types →
    (p : ℕ) → p < n → reg_of (slice_get args p) < length from
arg_there from args [] n h t l p b = absurd (omega (arith, l, b))
arg_there from args (r ∷ types) zero h t l p b = absurd (omega (arith, b))
arg_there from [] (r ∷ types) (suc n) h t l p b = absurd (false≢true h)
arg_there from (a ∷ args) (r ∷ types) (suc n) h t l zero b =
    let same = eqb-true (reg_type from a.reg) (ctype_number r) (and_left (reg_type from a.reg == ctype_number r) (pairs is_equal (map (λ (a : SlotArg). reg_type from a.reg) args) (map ctype_number (take n types))) h) in
    let small = ltb-true (ctype_number r) 24 (and_left (nat_lt (ctype_number r) 24) (list_all (λ t. nat_lt (ctype_number t) 24) types) t) in
    there from a.reg (omega (arith, same, small))
arg_there from (a ∷ args) (r ∷ types) (suc n) h t l (suc p) b =
    arg_there from args types n (and_right (reg_type from a.reg == ctype_number r) (pairs is_equal (map (λ (a : SlotArg). reg_type from a.reg) args) (map ctype_number (take n types))) h)
    (and_right (nat_lt (ctype_number r) 24) (list_all (λ t. nat_lt (ctype_number t) 24) types) t) (omega (arith, l)) p (omega (arith, b))

pub slot_pairs : (c : Listing) (s : CallSite) (callee : Listing) → has_slot_types c s callee ≡ true → pairs is_equal (arg_types c s) (param_types callee) ≡ true
slot_pairs c s callee h = and_left (pairs is_equal (arg_types c s) (param_types callee)) (result_type c.routine.regs s.result == result_of callee) h

pub slot_result : (c : Listing) (s : CallSite) (callee : Listing) → has_slot_types c s callee ≡ true → result_type c.routine.regs s.result ≡ result_of callee
slot_result c s callee h = eqb-true (result_type c.routine.regs s.result) (result_of callee) (and_right (pairs is_equal (arg_types c s) (param_types callee)) (result_type c.routine.regs s.result == result_of callee) h)

-- ---- step arguments are parameters

variant_of : (x : EntryLists) (c : Listing) → suits x c ≡ true → is_variant x.kind ≡ true → are_typed (param_types c) x.params ≡ true
variant_of x c h v = by (is_variant x.kind) v (and_right ((is_ordinary x.kind || c.routine.lane_code) && (is_chunk x.kind || is_rest x.kind || is_function_code c)) (not (is_variant x.kind) || are_typed (param_types c) x.params) h)
  where
    by : (b : Bool) → b ≡ true → (not b || are_typed (param_types c) x.params) ≡ true → are_typed (param_types c) x.params ≡ true
    by true e k = k
    by false e k = absurd (false≢true e)

suits_of : (image : Tables) → is_image image ≡ true → (n : ℕ) (x : EntryLists) (c : Listing) → slice_get image.entries n ≡ Some x → code_of image x ≡ Some c → suits x c ≡ true
suits_of image h n x c e f =
    let linked : is_linked image x c ≡ true = holds_at (is_linked image x) (code_of image x) c (all_at (is_entry image) image.entries (image_parts image h).links_good n x e) f in
    and_left (suits x c) (pairs (is_call image x c) c.routine.slots x.targets) (and_left (suits x c && pairs (is_call image x c) c.routine.slots x.targets) (pairs (is_loop image c) c.loops x.loops) linked)

-- the fifth condition of an entry's row: parameters stand with variants alone
row_params : (a b c d e f g : Bool) → (a && b && c && d && e && f && g) ≡ true → e ≡ true
row_params a b c d e f g h = and_right (a && b && c && d) e (and_left (a && b && c && d && e) f (and_left (a && b && c && d && e && f) g h))

params_stand : (image : Tables) → is_image image ≡ true → (n : ℕ) (x : EntryLists) → slice_get image.entries n ≡ Some x → cond (is_variant x.kind) (are_kinds x.params) (length x.params == 0) ≡ true
params_stand image h n x e = row_params (between 1 4096 (length x.text)) (list_all is_entry_byte x.text) (has_lanes x.kind x.lanes) (is_number_of image.codes x.code) (cond (is_variant x.kind) (are_kinds x.params) (length x.params == 0)) (list_all (is_number_of image.entries) x.targets) (list_all (are_entries image) x.loops) (all_at (is_row image) image.entries (image_parts image h).rows_good n x e)

param_types_few : (c : Listing) → length (param_types c) ≤ c.routine.params
param_types_few c = few c.routine.params c.routine.regs
  where
    few : (n : ℕ) (types : List CType) → length (map ctype_number (take n types)) ≤ n
    few zero [] = omega arith
    few (suc n) [] = omega arith
    few zero (t ∷ types) = omega arith
    few (suc n) (t ∷ types) = let l = few n types in omega (arith, l)

step_inside : (types : List ℕ) (t : ℕ) (x : Param) (kind : Kind) (q : ℕ) → is_param_at types t x ≡ true → x.kind ≡ kind → kind ≡ Linear (Arg q) → q < length types
step_inside types t x kind q h e f =
    let k : is_kind_at types t x.kind ≡ true = and_left (is_kind_at types t x.kind) (is_aligned_at t x.align) h in
    let s : holds is_integer (slice_get types q) ≡ true = subst (λ y. is_kind_at types t y ≡ true) (e ∙ f) k in
    some (slice_get types q) refl s
  where
    some : (o : Option ℕ) → slice_get types q ≡ o → holds is_integer o ≡ true → q < length types
    some None e h = absurd (false≢true h)
    some (Some n) e h = inside types q n e

vector_is_no_step : (q : ℕ) → Vector ≡ Linear (Arg q) → ⊥
vector_is_no_step q e = cc

pub steps_there : (p : Place) → IsSound p → HasSteps (entry p) (listing p).routine.params
steps_there p s n q e = at (slice_get (entry p).params n) refl e
  where
    at : (o : Option Param) → slice_get (entry p).params n ≡ o → kind_in o ≡ Linear (Arg q) → q < (listing p).routine.params
    at None f e = absurd (vector_is_no_step q e)
    at (Some x) f e = by (is_variant (entry p).kind) refl (params_stand (tables p) s.valid p.number (entry p) s.placed)
      where
        by : (b : Bool) → is_variant (entry p).kind ≡ b → cond b (are_kinds (entry p).params) (length (entry p).params == 0) ≡ true → q < (listing p).routine.params
        by false g h = let l = inside (entry p).params n x f in let z = eqb-true (length (entry p).params) 0 h in absurd (omega (arith, l, z))
        by true g h =
            let typed = variant_of (entry p) (listing p) (suits_of (tables p) s.valid p.number (entry p) (listing p) s.placed s.coded) g in
            let same = pairs_length (is_param_at (param_types (listing p))) (param_types (listing p)) (entry p).params typed in
            let l = inside (entry p).params n x f in
            let t = element (param_types (listing p)) n (omega (arith, same, l)) in
            let step = step_inside (param_types (listing p)) t.0 x x.kind q (pairs_at (is_param_at (param_types (listing p))) (param_types (listing p)) (entry p).params typed n t.0 x t.1 f) refl e in
            let few = param_types_few (listing p) in
            omega (arith, step, few)

-- ---- the words have their types

pub first_words : (lanes : ℕ) (c : Listing) (args : ℕ → ℕ → ℕ) (on : ℕ → Bool) → AreArguments lanes c args → (j : ℕ) → HasWords c.routine.regs (first_lane lanes c.routine.params args on j)
first_words lanes c args on h j r = either (nat_lt j lanes) (nat_lt r c.routine.params) (ltb-true j lanes) (ltb-true r c.routine.params)
  where
    either : (a b : Bool) → (a ≡ true → j < lanes) → (b ≡ true → r < c.routine.params) → IsWordOf (reg_type c.routine.regs r) (cond (a && b) (args r j) 0)
    either true true f g = h r j (g refl) (f refl)
    either true false f g = zero_word (reg_type c.routine.regs r)
    either false b f g = zero_word (reg_type c.routine.regs r)

moved_word : (o : Option CType) (w : ℕ) (z : ℤ) → IsWordOf (number_of_some o) w → IsWordOf (number_of_some o) (moved_by o w z)
moved_word None w z h = h
moved_word (Some Void) w z h = h
moved_word (Some (Int t)) w z h = at_number (type_number t) t _ refl (canonical_wrap t _)
moved_word (Some (Ptr t true)) w z h = no_integer (8 + type_number t) _ (omega arith)
moved_word (Some (Ptr t false)) w z h = no_integer (16 + type_number t) _ (omega arith)

pub passed_word : (o : Option CType) (number : ℕ → ℤ) (kind : Kind) (word : ℕ → ℕ) (k i : ℕ) → ((j : ℕ) → IsWordOf (number_of_some o) (word j)) → IsWordOf (number_of_some o) (passed o number kind word k i)
passed_word o number Vector word k i h = h i
passed_word o number Uniform word k i h = h k
passed_word o number (Linear step) word k i h = moved_word o (word k) _ (h k)
passed_word o number (Ref step) word k i h = h i
passed_word o number (Val step) word k i h = h i
passed_word o number (Uval step) word k i h = h i

-- a frame that is filled with words of the parameters' types
pub fits_filled : (q : Place) (a b : Frame) (args : ℕ → ℕ → ℕ) (on : ℕ → Bool) → FitsPlace q a → FitsAs a b → lanes_of b ≡ first_lane a.lanes (listing q).routine.params args on → AreArguments (entry q).lanes (listing q) args → FitsPlace q b
fits_filled q a b args on h f e w = record {
  shape = fits_as (length (regs q)) (listing q).routine.masks (entry q).lanes a b h.shape f;
  words = λ j. subst (λ (g : ℕ → LaneState). HasWords (regs q) (g j)) (sym (e ∙ ap (λ n. first_lane n (listing q).routine.params args on) h.shape.lanes_are)) (first_words (entry q).lanes (listing q) args on w j);
}
