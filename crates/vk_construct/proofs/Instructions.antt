-- Single instructions, as they are appended.
use Rattle.std.proofs.Common.{arith, sym, ◌≡◌, ℕ, ◌+◌, ◌<◌, ◌≤◌, ◌==◌, true, false, not, ◌&&◌, ◌||◌, List, [], ◌∷◌, Some, None, refl, subst, ℤ, Result, Ok}
use Rattle.vk_types.specs.declared.types.Ty.{Ty}
use Rattle.vk_types.specs.declared.types.Ty.TheVariants.{I32}
use Rattle.vk_types.specs.declared.types.Op1.{Op1}
use Rattle.vk_types.specs.declared.types.Op2.{Op2}
use Rattle.vk_types.specs.declared.types.Word.{Word}
use Rattle.vk_types.specs.declared.types.Stop.{Stop}
use Rattle.vk_types.specs.Numbers.{IsCanonical, IsInRange, number_of, word_of, wrap_number}
use Rattle.vk_types.specs.Operators.{op1_number, op2_number, result_type}
use Rattle.vk_kinds.specs.declared.heads.CType.{CType}
use Rattle.vk_kinds.specs.declared.heads.CType.TheVariants.{Int}
use Rattle.vk_numbers.proofs.Numbers.{number_of-word, op1_in_range, op2_in_range, wrap_in_range, wrap_keeps}
use Rattle.vk_meaning.specs.Lanes.{IsWord}
use Rattle.vk_code.specs.declared.instruction.Instr.{Instr}
use Rattle.vk_code.specs.declared.instruction.Operation.{Operation}
use Rattle.vk_code.specs.declared.instruction.Operation.TheVariants.{Const, Convert, Binary, Compare, Unary, MaskOf, MaskAnd, MaskOr, MaskBut}
use Rattle.vk_code.specs.Instruction.{block_in, operation_of}
use Rattle.vk_code.specs.Listing.{Routine}
use Rattle.vk_code.specs.Valid.{Environment, are_masks, is_shift, is_typed}
use Rattle.vk_object.specs.Lane.{is_live}
use Rattle.vk_lane.specs.Places.{Share, IsSound}
use Rattle.vk_lane.specs.Pieces.{Always, Does}
use Rattle.vk_lane.specs.Writes.{Masks, Writes, word_result}
use Rattle.vk_lane.specs.Entries.{LaneCall, place_of}
use Rattle.vk_lane.proofs.Rules.{does_weaken}
use Rattle.vk_lane.proofs.Writing.{IsWrite, does_mask_and, does_mask_but, does_mask_of, does_mask_or, does_write, write_binary, write_compare, write_const, write_convert, write_unary}
use Rattle.vk_construct.specs.Adds.{Adds, AddsNumber, Finishes, HasType, HasWritten, LeavesOut, Puts, Splits, TestsOn, Written}
use Rattle.vk_construct.specs.Applies.{Applies, IsResult, number_at, one, two}
use Rattle.vk_construct.proofs.Adding.{adds_nil, adds_put, adds_then, adds_weaken, free_integer, free_register, type_there}
use Rattle.vk_construct.proofs.Applying.{word_is_result, writes_apply}
use Rattle.vk_construct.proofs.Good.{IsPromoted, good_masks, typed_binary, typed_compare, typed_const, typed_convert, typed_mask_of, typed_unary}
use Rattle.vk_construct.proofs.Values.{idles_same, keeps_same}

-- ---- numbers

-- register d is one behind the parameters, and not below k
pub record IsTarget (w : Written) (t : Ty) (d k : ℕ) : Type 0 where
  pub typed : HasType w d t
  pub free : w.params ≤ d
  pub above : k ≤ d

adds_write : (a b : Written) (i : Instr) (types : List CType) (o : Operation) (result : Share → Result ℤ Stop) (res : ℕ → Share → Result ℕ Stop) (t : Ty) (d m k f : ℕ) →
    Puts a b i types → i.m ≡ m → m < b.masks → operation_of i ≡ Some o → block_in (Some o) ≡ None → IsTarget b t d k → ((e : Environment) (c : Routine) → Finishes c b → is_typed e c o ≡ true) →
    ((q : LaneCall) → HasWritten q b → IsWrite (place_of q) Always i.m d o res) → ((j : ℕ) (h : Share) → IsResult t (res j h) (result h)) → AddsNumber a b result t d m k f 1
adds_write a b i types o result res t d m k f p em lm is plain target ty w r = adds_put a b i types o _ p is plain (subst (λ n. n < b.masks) (sym em) lm) ty (λ q hw.
    does_weaken (place_of q) Always Always _ _ (i ∷ []) (does_write (place_of q) Always d i o res hw.place (free_register q b d hw target.free) is (w q hw)) (λ j h s u. tt)
    (λ j h h' s s' u z. writes_apply result res t d m k f j h h' target.above (r j h) (subst (λ n. Writes n d res j h h') em z.1)))

pub adds_const : (a b : Written) (i : Instr) (types : List CType) (value : Word) (z : ℤ) (t : Ty) (d m k f : ℕ) → Puts a b i types → i.m ≡ m → m < b.masks → operation_of i ≡ Some (Const t d value) → IsTarget b t d k →
    IsCanonical t value.0 → number_of t value.0 ≡ z → AddsNumber a b (λ h. Ok z) t d m k f 1
adds_const a b i types value z t d m k f p em lm is target can num = adds_write a b i types (Const t d value) (λ h. Ok z) (λ j h. Ok value.0) t d m k f p em lm is refl target
    (λ e c fin. typed_const e c b t d value fin target.typed can)
    (λ q hw. write_const (place_of q) Always i.m d t value (subst (λ u. IsWord u value.0) (sym (type_there q b d (Int t) hw target.typed)) can)) (λ j h. num)

pub adds_convert : (a b : Written) (i : Instr) (types : List CType) (s t : Ty) (r d m k f : ℕ) → Puts a b i types → i.m ≡ m → m < b.masks → operation_of i ≡ Some (Convert d r) → IsTarget b t d k → HasType b r s →
    AddsNumber a b (one (λ z. Ok (wrap_number t z)) s r) t d m k f 1
adds_convert a b i types s t r d m k f p em lm is target tr = adds_write a b i types (Convert d r) (one (λ z. Ok (wrap_number t z)) s r) (λ j h. Ok (word_of (wrap_number t (number_at s r h)))) t d m k f p em lm is refl target
    (λ e c fin. typed_convert e c b t s d r fin target.typed tr)
    (λ q hw. write_convert (place_of q) Always i.m d r t s (type_there q b d (Int t) hw target.typed) (type_there q b r (Int s) hw tr))
    (λ j h. number_of-word t _ (wrap_in_range t (number_at s r h)))

-- a conversion to the register's own type is none
pub adds_unconverted : (a : Written) (t : Ty) (r m k f : ℕ) → HasType a r t → AddsNumber a a (one (λ z. Ok (wrap_number t z)) t r) t r m k f 0
adds_unconverted a t r m k f tr = adds_weaken a a _ _ 0 0 0 (adds_nil a) (omega arith) (λ q hw j h h' s s' e.
    subst (λ x. Applies (one (λ z. Ok (wrap_number t z)) t r) t r m k f j h x) (sym e)
    (record { idles = idles_same m f h; runs = λ n o. (keeps_same k f h.world h n refl, sym (wrap_keeps t (number_at t r h) (in_range q hw j h s))) }))
  where
    in_range : (q : LaneCall) → HasWritten q a → (j : ℕ) (h : Share) → IsSound (place_of q) j h → IsInRange t (number_at t r h)
    in_range q hw j h s = (subst (λ u. IsWord u (h.lane.reg r)) (type_there q a r (Int t) hw tr) (s.typed r)).1

pub adds_unary : (a b : Written) (i : Instr) (types : List CType) (op : Op1) (t : Ty) (r d m k f : ℕ) → Puts a b i types → i.m ≡ m → m < b.masks → operation_of i ≡ Some (Unary op t d r) → IsTarget b t d k → HasType b r t → IsPromoted t →
    AddsNumber a b (one (λ z. Ok (op1_number op t z)) t r) t d m k f 1
adds_unary a b i types op t r d m k f p em lm is target tr pt = adds_write a b i types (Unary op t d r) (one (λ z. Ok (op1_number op t z)) t r) (λ j h. Ok (word_of (op1_number op t (number_at t r h)))) t d m k f p em lm is refl target
    (λ e c fin. typed_unary e c b op t d r fin pt target.typed tr)
    (λ q hw. write_unary (place_of q) Always op t i.m d r (type_there q b d (Int t) hw target.typed))
    (λ j h. number_of-word t _ (op1_in_range op t (number_at t r h)))

-- the right operand has the left one's type, but in a shift
pub adds_binary : (a b : Written) (i : Instr) (types : List CType) (op : Op2) (t u : Ty) (r r' d m k f : ℕ) → Puts a b i types → i.m ≡ m → m < b.masks → operation_of i ≡ Some (Binary op t d r r') → IsTarget b t d k → HasType b r t → HasType b r' u →
    IsPromoted t → (is_shift op ≡ false → u ≡ t) → result_type op t ≡ t → AddsNumber a b (two (op2_number op t) t r u r') t d m k f 1
adds_binary a b i types op t u r r' d m k f p em lm is target tr tr' pt right rt = adds_write a b i types (Binary op t d r r') (two (op2_number op t) t r u r') (λ j h. word_result (op2_number op t (number_at t r h) (number_at u r' h))) t d m k f p em lm is refl target
    (λ e c fin. typed_binary e c b op t u d r r' fin pt target.typed tr tr' right)
    (λ q hw. write_binary (place_of q) Always op t u i.m d r r' (type_there q b d (Int t) hw target.typed) (type_there q b r' (Int u) hw tr') rt)
    (λ j h. word_is_result t _ (λ z e. subst (λ v. IsInRange v z) rt (op2_in_range op t (number_at t r h) (number_at u r' h) z e)))

pub adds_compare : (a b : Written) (i : Instr) (types : List CType) (op : Op2) (t : Ty) (r r' d m k f : ℕ) → Puts a b i types → i.m ≡ m → m < b.masks → operation_of i ≡ Some (Compare op t d r r') → IsTarget b I32 d k → HasType b r t → HasType b r' t →
    IsPromoted t → result_type op t ≡ I32 → AddsNumber a b (two (op2_number op t) t r t r') I32 d m k f 1
adds_compare a b i types op t r r' d m k f p em lm is target tr tr' pt rt = adds_write a b i types (Compare op t d r r') (two (op2_number op t) t r t r') (λ j h. word_result (op2_number op t (number_at t r h) (number_at t r' h))) I32 d m k f p em lm is refl target
    (λ e c fin. typed_compare e c b op t d r r' fin pt target.typed tr tr')
    (λ q hw. write_compare (place_of q) Always op t i.m d r r' (type_there q b d (Int I32) hw target.typed) rt)
    (λ j h. word_is_result I32 _ (λ z e. subst (λ v. IsInRange v z) rt (op2_in_range op t (number_at t r h) (number_at t r' h) z e)))

-- ---- into a register that is there, as that of a variable

adds_into : (a b : Written) (i : Instr) (o : Operation) (res : ℕ → Share → Result ℕ Stop) (t : Ty) (d m : ℕ) → Puts a b i [] → i.m ≡ m → m < b.masks → operation_of i ≡ Some o → block_in (Some o) ≡ None → HasType b d t →
    ((e : Environment) (c : Routine) → Finishes c b → is_typed e c o ≡ true) → ((q : LaneCall) → HasWritten q b → IsWrite (place_of q) Always i.m d o res) → Adds a b (λ q. Writes m d res) 1 0
adds_into a b i o res t d m p em lm is plain td ty w = adds_put a b i [] o _ p is plain (subst (λ n. n < b.masks) (sym em) lm) ty (λ q hw.
    does_weaken (place_of q) Always Always _ _ (i ∷ []) (does_write (place_of q) Always d i o res hw.place (free_integer q b d t hw td) is (w q hw)) (λ j h s u. tt)
    (λ j h h' s s' u z. subst (λ n. Writes n d res j h h') em z.1))

pub adds_const_into : (a b : Written) (i : Instr) (value : Word) (t : Ty) (d m : ℕ) → Puts a b i [] → i.m ≡ m → m < b.masks → operation_of i ≡ Some (Const t d value) → HasType b d t → IsCanonical t value.0 → Adds a b (λ q. Writes m d (λ j h. Ok value.0)) 1 0
adds_const_into a b i value t d m p em lm is td can = adds_into a b i (Const t d value) (λ j h. Ok value.0) t d m p em lm is refl td
    (λ e c fin. typed_const e c b t d value fin td can)
    (λ q hw. write_const (place_of q) Always i.m d t value (subst (λ u. IsWord u value.0) (sym (type_there q b d (Int t) hw td)) can))

pub adds_convert_into : (a b : Written) (i : Instr) (s t : Ty) (r d m : ℕ) → Puts a b i [] → i.m ≡ m → m < b.masks → operation_of i ≡ Some (Convert d r) → HasType b d t → HasType b r s → Adds a b (λ q. Writes m d (λ j h. Ok (word_of (wrap_number t (number_at s r h))))) 1 0
adds_convert_into a b i s t r d m p em lm is td tr = adds_into a b i (Convert d r) (λ j h. Ok (word_of (wrap_number t (number_at s r h)))) t d m p em lm is refl td
    (λ e c fin. typed_convert e c b t s d r fin td tr)
    (λ q hw. write_convert (place_of q) Always i.m d r t s (type_there q b d (Int t) hw td) (type_there q b r (Int s) hw tr))

-- ---- masks

-- mask d may be written
pub record IsFreeMask (w : Written) (d : ℕ) : Type 0 where
  pub some : 0 < d
  pub there : d < w.masks

pub adds_mask_of : (a b : Written) (i : Instr) (t : Ty) (d r m : ℕ) → Puts a b i [] → i.m ≡ m → m < b.masks → operation_of i ≡ Some (MaskOf d r) → IsFreeMask b d → HasType b r t →
    Adds a b (TestsOn m d r) 1 0
adds_mask_of a b i t d r m p em lm is free tr = adds_put a b i [] (MaskOf d r) _ p is refl (subst (λ n. n < b.masks) (sym em) lm)
    (λ e c fin. let q = fin.masks in let l = free.there in typed_mask_of e c b t d r fin free.some (omega (arith, q, l)) tr)
    (λ q hw. subst (λ n. Does (place_of q) Always (i ∷ []) (Masks d (λ h. is_live n h.lane && not (h.lane.reg r == 0)))) em (does_mask_of (place_of q) d r i is))

-- masks from two others; these instructions have mask 0
module _ (a b : Written) (i : Instr) (d x y : ℕ) (p : Puts a b i []) (em : i.m ≡ 0) (free : IsFreeMask b d) (lx : x < b.masks) (ly : y < b.masks) where
  first_mask : i.m < b.masks
  first_mask = let q = free.some in let l = free.there in omega (arith, q, l, em)

  good : (c : Routine) → Finishes c b → are_masks c.masks d x y ≡ true
  good c fin = let q = fin.masks in let l = free.there in good_masks c d x y free.some (omega (arith, q, l)) (omega (arith, q, lx)) (omega (arith, q, ly))

  pub adds_mask_and : operation_of i ≡ Some (MaskAnd d x y) → Adds a b (λ q. Masks d (λ h. h.lane.on x && h.lane.on y)) 1 0
  adds_mask_and is = adds_put a b i [] (MaskAnd d x y) _ p is refl first_mask (λ e c fin. good c fin) (λ q hw. does_mask_and (place_of q) d x y i is)

  pub adds_mask_or : operation_of i ≡ Some (MaskOr d x y) → Adds a b (λ q. Masks d (λ h. h.lane.on x || h.lane.on y)) 1 0
  adds_mask_or is = adds_put a b i [] (MaskOr d x y) _ p is refl first_mask (λ e c fin. good c fin) (λ q hw. does_mask_or (place_of q) d x y i is)

  pub adds_mask_but : operation_of i ≡ Some (MaskBut d x y) → Adds a b (LeavesOut d x y) 1 0
  adds_mask_but is = adds_put a b i [] (MaskBut d x y) _ p is refl first_mask (λ e c fin. good c fin) (λ q hw. does_mask_but (place_of q) d x y i is)

-- the lanes of mask m, by a condition
pub adds_split : (a b c : Written) (m f r : ℕ) → Adds a b (TestsOn m f r) 1 0 → Adds b c (LeavesOut (f + 1) m f) 1 0 → Adds a c (Splits m f r) 2 0
adds_split a b c m f r p q = adds_weaken a c _ (Splits m f r) 2 2 0 (adds_then a b c _ _ 1 1 0 p q) (omega arith) (λ l hw j h h' s s' x. (x.0, x.1, x.2))
