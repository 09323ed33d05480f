-- An instruction that asks something of the code before it.
use Rattle.std.proofs.Common.{arith, rules, sym, true≢false, ◌≡◌, ℕ, ◌+◌, ◌<◌, ◌≤◌, ◌==◌, Bool, true, false, ◌||◌, List, [], ◌∷◌, ◌++◌, Some, None, refl, subst, ap, ap₂, ◌∙◌, append_assoc, length-append}
use Rattle.std.specs.Prelude.{slice_get}
use Rattle.vk_types.specs.declared.types.Ty.{Ty}
use Rattle.vk_types.specs.Formats.{type_number}
use Rattle.vk_kinds.specs.declared.heads.CType.{CType}
use Rattle.vk_kinds.specs.declared.heads.CType.TheVariants.{Int, Ptr}
use Rattle.vk_kinds.specs.Types.{ctype_number}
use Rattle.vk_code.specs.declared.instruction.Instr.{Instr}
use Rattle.vk_code.specs.declared.instruction.Operation.{Operation}
use Rattle.vk_code.specs.declared.instruction.Operation.TheVariants.{Load, PtrAdd, Store}
use Rattle.vk_code.specs.Instruction.{block_in, operation_of}
use Rattle.vk_code.specs.Listing.{Routine, reg_type}
use Rattle.vk_code.specs.Valid.{Environment, is_integer, is_load, is_pointer, is_store, is_typed}
use Rattle.vk_lane.specs.Places.{IsSound, Share}
use Rattle.vk_lane.specs.Pieces.{Always, Before, Change, Does}
use Rattle.vk_lane.specs.Entries.{LaneCall, place_of}
use Rattle.vk_lane.proofs.Rules.{does_append, does_weaken}
use Rattle.vk_construct.specs.Adds.{Adds, Finishes, HasType, HasWritten, Puts, Written}
use Rattle.vk_construct.proofs.Adding.{before as was_there}
use Rattle.vk_construct.proofs.Good.{both_good, finished_type, good_append, good_deeper, good_one, integer_is, same}
use Rattle.vk_construct_memory.specs.Pointers.{HasPointer}

-- the piece before gives what the instruction asks
pub adds_given : (a b c : Written) (i : Instr) (types : List CType) (o : Operation) (F : LaneCall → Change) (P : LaneCall → Before) (G : LaneCall → Change) (s depth : ℕ) → Adds a b F s depth → Puts b c i types → operation_of i ≡ Some o → block_in (Some o) ≡ None →
    i.m < c.masks → ((e : Environment) (r : Routine) → Finishes r c → is_typed e r o ≡ true) → ((q : LaneCall) → HasWritten q c → Does (place_of q) (P q) (i ∷ []) (G q)) →
    ((q : LaneCall) → HasWritten q c → (j : ℕ) (h h' : Share) → IsSound (place_of q) j h' → F q j h h' → P q j h') → Adds a c (λ q j h h'. (mid : Share) × F q j h mid × G q j mid h' × IsSound (place_of q) j mid) (s + 1) depth
adds_given a b c i types o F P G s depth one p is plain lm ty d gives = record {
  piece = one.piece ++ i ∷ [];
  types = one.types ++ types;
  calls = one.calls;
  instrs = joined a.instrs one.piece (i ∷ []) b.instrs c.instrs one.instrs p.instrs;
  regs = joined a.regs one.types types b.regs c.regs one.regs p.regs;
  slots = p.slots ∙ one.slots;
  masks = let x = one.masks in let y = p.masks in omega (arith, x, y);
  params = p.params ∙ one.params;
  good = λ e r f. good_append e r depth one.piece (i ∷ []) (one.good e r (less r f)) (good_deeper e r 0 depth (i ∷ []) (omega arith) (let y = f.masks in good_one e r i o is plain (omega (arith, lm, y)) (ty e r f)));
  does = λ q h. does_weaken (place_of q) Always Always _ _ (one.piece ++ i ∷ [])
      (does_append (place_of q) Always (P q) (λ j p p'. F q j p p' × IsSound (place_of q) j p') (G q) one.piece (i ∷ [])
      (does_weaken (place_of q) Always Always (F q) _ one.piece (one.does q (record { place = h.place; params = h.params ∙ p.params; types = h.types; code = less q.site.code.routine h.code })) (λ j p _ u. tt) (λ j p p' sp sp' _ f. (f, sp')))
      (d q h) (λ j p p' sp sp' _ f. gives q h j p p' sp' f.0))
      (λ j p _ u. tt) (λ j p p' sp sp' _ f. (f.0, f.1.0, f.2, f.1.1));
  short = let x = one.short in subst (λ n. n ≤ s + 1) (sym (length-append one.piece (i ∷ []))) (omega (arith, x));
}
  where
    joined : {A : Type 0} → (xs ys zs mid new : List A) → mid ≡ xs ++ ys → new ≡ mid ++ zs → new ≡ xs ++ (ys ++ zs)
    joined xs ys zs mid new e f = f ∙ (ap (λ l. l ++ zs) e ∙ append_assoc xs ys zs)

    before : {A : Type 0} → (xs ys : List A) (k : ℕ) (x : A) → slice_get xs k ≡ Some x → slice_get (xs ++ ys) k ≡ Some x
    before xs ys k x e = was_there xs ys k x e

    less : (r : Routine) → Finishes r c → Finishes r b
    less r f = record {
      regs = λ k t e. f.regs k t (subst (λ l. slice_get l k ≡ Some t) (sym p.regs) (before b.regs types k t e));
      masks = let x = p.masks in let y = f.masks in omega (arith, x, y);
      slots = λ k x e. f.slots k x (subst (λ l. slice_get l k ≡ Some x) (sym p.slots) e);
    }

-- ---- types of operands

pointer_number : (to : Ty) (written : Bool) → is_pointer (ctype_number (Ptr to written)) ≡ true
pointer_number to true = search rules
pointer_number to false = search rules

pub typed_step : (e : Environment) (c : Routine) (w : Written) (to s : Ty) (written : Bool) (d a b : ℕ) → Finishes c w → HasPointer w d to written → HasPointer w a to written → HasType w b s → is_typed e c (PtrAdd d a b) ≡ true
typed_step e c w to s written d a b f td ta tb =
    both_good _ _ (both_good _ _ (ap is_pointer (finished_type c w a (Ptr to written) f ta) ∙ pointer_number to written)
    (same (reg_type c.regs d) (reg_type c.regs a) (finished_type c w d (Ptr to written) f td ∙ sym (finished_type c w a (Ptr to written) f ta))))
    (ap is_integer (finished_type c w b (Int s) f tb) ∙ integer_is s)

either : (p q : Bool) → (p ≡ true) → (p || q) ≡ true
either true q e = refl
either false q e = absurd (true≢false (sym e))

or : (p q : Bool) → (q ≡ true) → (p || q) ≡ true
or true q e = refl
or false q e = e

pub typed_load : (e : Environment) (c : Routine) (w : Written) (to : Ty) (written : Bool) (d a : ℕ) → Finishes c w → HasType w d to → HasPointer w a to written → is_typed e c (Load d a) ≡ true
typed_load e c w to written d a f td ta = ap₂ is_load (finished_type c w d (Int to) f td) (finished_type c w a (Ptr to written) f ta) ∙ both_good _ _ (integer_is to) (by written)
  where
    by : (b : Bool) → ((ctype_number (Ptr to b) == type_number to + 8) || (ctype_number (Ptr to b) == type_number to + 16)) ≡ true
    by true = either _ _ (same (8 + type_number to) (type_number to + 8) (omega arith))
    by false = or _ _ (same (16 + type_number to) (type_number to + 16) (omega arith))

pub typed_store : (e : Environment) (c : Routine) (w : Written) (to : Ty) (a b : ℕ) → Finishes c w → HasPointer w a to true → HasType w b to → is_typed e c (Store a b) ≡ true
typed_store e c w to a b f ta tb = ap₂ is_store (finished_type c w a (Ptr to true) f ta) (finished_type c w b (Int to) f tb) ∙ both_good _ _ (integer_is to) (same (8 + type_number to) (type_number to + 8) (omega arith))

-- what was written before one instruction
pub put_less : (b c : Written) (i : Instr) (types : List CType) → Puts b c i types → (q : LaneCall) → HasWritten q c → HasWritten q b
put_less b c i types p q h = record {
  place = h.place;
  params = h.params ∙ p.params;
  types = h.types;
  code = record {
    regs = λ k t e. h.code.regs k t (subst (λ l. slice_get l k ≡ Some t) (sym p.regs) (was_there b.regs types k t e));
    masks = let x = p.masks in let y = h.code.masks in omega (arith, x, y);
    slots = λ k x e. h.code.slots k x (subst (λ l. slice_get l k ≡ Some x) (sym p.slots) e);
  };
}
