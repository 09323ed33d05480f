-- Rules for code that is appended.
use Rattle.std.proofs.Common.{arith, sym, ◌≡◌, ℕ, zero, suc, ◌+◌, ◌<◌, ◌≤◌, nat_lt, Bool, true, false, ◌&&◌, List, [], ◌∷◌, ◌++◌, length, Some, None, refl, subst, ap, ap₂, ◌∙◌, append_assoc, append-nil, length-append}
use Rattle.std.specs.Prelude.{slice_get}
use Rattle.vk_types.specs.declared.types.Ty.{Ty}
use Rattle.vk_kinds.specs.declared.heads.CType.{CType}
use Rattle.vk_kinds.specs.declared.heads.CType.TheVariants.{Int, Ptr}
use Rattle.vk_meaning.specs.Types.{is_pointer_type, type_at}
use Rattle.vk_code.specs.declared.instruction.Instr.{Instr}
use Rattle.vk_code.specs.declared.instruction.Operation.{Operation}
use Rattle.vk_code.specs.Instruction.{block_in, operation_of}
use Rattle.vk_code.specs.Listing.{Routine}
use Rattle.vk_code.specs.Valid.{Environment, is_typed}
use Rattle.vk_lane.specs.Places.{Share, IsSound, reg_type, type_in}
use Rattle.vk_lane.specs.Pieces.{Change, Always, Does}
use Rattle.vk_lane.specs.Entries.{LaneCall, Mode, on_lanes, alone, chunk, is_usable, place_of}
use Rattle.vk_lane.proofs.Rules.{does_append, does_nil, does_weaken}
use Rattle.vk_construct.specs.Computes.{Table, IsTable}
use Rattle.vk_construct.specs.Adds.{Adds, Finishes, HasType, HasWritten, IsTableOf, Puts, Written}
use Rattle.vk_construct.proofs.Good.{good_append, good_deeper, good_nil, good_one}

-- ---- what stays

pub before : {A : Type 0} → (xs ys : List A) (k : ℕ) (x : A) → slice_get xs k ≡ Some x → slice_get (xs ++ ys) k ≡ Some x
before [] ys k x e = cc
before (z ∷ xs) ys zero x e = e
before (z ∷ xs) ys (suc k) x e = before xs ys k x e

pub at_last : {A : Type 0} → (xs : List A) (y : A) → slice_get (xs ++ y ∷ []) (length xs) ≡ Some y
at_last [] y = refl
at_last (z ∷ xs) y = at_last xs y

pub is_inside : {A : Type 0} → (xs : List A) (k : ℕ) (x : A) → slice_get xs k ≡ Some x → k < length xs
is_inside [] k x e = cc
is_inside (z ∷ xs) zero x e = omega arith
is_inside (z ∷ xs) (suc k) x e = let h : k < length xs = is_inside xs k x e in omega (arith, h)

kept : {A : Type 0} → (xs ys new : List A) (k : ℕ) (x : A) → new ≡ xs ++ ys → slice_get xs k ≡ Some x → slice_get new k ≡ Some x
kept xs ys new k x e h = subst (λ l. slice_get l k ≡ Some x) (sym e) (before xs ys k x h)

pub finishes_less : (old new : Written) (F : LaneCall → Change) (s depth : ℕ) (c : Routine) → Adds old new F s depth → Finishes c new → Finishes c old
finishes_less old new F s depth c a f = record {
  regs = λ k t e. f.regs k t (kept old.regs a.types new.regs k t a.regs e);
  masks = let p = a.masks in let q = f.masks in omega (arith, p, q);
  slots = λ k x e. f.slots k x (kept old.slots a.calls new.slots k x a.slots e);
}

pub has_written_less : (old new : Written) (F : LaneCall → Change) (s depth : ℕ) (q : LaneCall) → Adds old new F s depth → HasWritten q new → HasWritten q old
has_written_less old new F s depth q a h = record { place = h.place; params = h.params ∙ a.params; types = h.types; code = finishes_less old new F s depth q.site.code.routine a h.code }

-- a register keeps its type, there are no fewer, and variables keep theirs
pub type_kept : (old new : Written) (F : LaneCall → Change) (s depth r : ℕ) (t : CType) → Adds old new F s depth → slice_get old.regs r ≡ Some t → slice_get new.regs r ≡ Some t
type_kept old new F s depth r t a e = kept old.regs a.types new.regs r t a.regs e

pub no_fewer : (old new : Written) (F : LaneCall → Change) (s depth : ℕ) → Adds old new F s depth → length old.regs ≤ length new.regs
no_fewer old new F s depth a = subst (λ l. length old.regs ≤ length l) (sym a.regs) (subst (λ n. length old.regs ≤ n) (sym (length-append old.regs a.types)) (omega arith))

pub table_kept : (old new : Written) (F : LaneCall → Change) (s depth : ℕ) (tb : Table) (k : ℕ) → Adds old new F s depth → IsTableOf old tb k → IsTableOf new tb k
table_kept old new F s depth tb k a t = record { typed = λ v l. type_kept old new F s depth (tb.reg v) (tb.ty v) a (t.typed v l); below = t.below; apart = t.apart }

pub table_more : (w : Written) (tb : Table) (k k' : ℕ) → k ≤ k' → IsTableOf w tb k → IsTableOf w tb k'
table_more w tb k k' le t = record { typed = t.typed; below = λ v l. let b = t.below v l in omega (arith, b, le); apart = t.apart }

-- a register's type, where the code runs
pub type_there : (q : LaneCall) (w : Written) (r : ℕ) (t : CType) → HasWritten q w → slice_get w.regs r ≡ Some t → reg_type (place_of q) r ≡ t
type_there q w r t h e = ap type_in (h.code.regs r t e)

pub table_there : (q : LaneCall) (w : Written) (tb : Table) (k : ℕ) → HasWritten q w → IsTableOf w tb k → IsTable (place_of q) tb k
table_there q w tb k h t = record { below = t.below; apart = t.apart; typed = λ v l. type_there q w (tb.reg v) (tb.ty v) h (t.typed v l) }

-- a register behind the parameters is free
pub free_register : (q : LaneCall) (w : Written) (d : ℕ) → HasWritten q w → w.params ≤ d → (place_of q).fixed d ≡ false
free_register q w d h le = ap (λ b. b && is_pointer_type (type_at q.types d)) (past d (length q.types) (subst (λ n. n ≤ d) (sym h.params) le))
  where
    past : (a b : ℕ) → b ≤ a → nat_lt a b ≡ false
    past a b l = grind (arith, l)

-- so is the register of an integer, also of a parameter
pub free_integer : (q : LaneCall) (w : Written) (d : ℕ) (t : Ty) → HasWritten q w → HasType w d t → (place_of q).fixed d ≡ false
free_integer q w d t h e = go (nat_lt d (length q.types)) refl
  where
    go : (b : Bool) → nat_lt d (length q.types) ≡ b → (b && is_pointer_type (type_at q.types d)) ≡ false
    go true l = ap is_pointer_type (sym (h.types d (grind (arith, l))) ∙ type_there q w d (Int t) h e)
    go false l = refl

-- a parameter that is a pointer may be used as it is, where its elements are only read
pub usable_read : (q : LaneCall) (w : Written) (r : ℕ) (to : Ty) → HasWritten q w → r < w.params → slice_get w.regs r ≡ Some (Ptr to false) → (place_of q).usable r ≡ true
usable_read q w r to h l e = ap₂ (λ a b. a && is_pointer_type b && is_usable q.mode b) (inside r (length q.types) (subst (λ n. r < n) (sym h.params) l)) type_is ∙ any q.mode
  where
    inside : (a b : ℕ) → a < b → nat_lt a b ≡ true
    inside a b k = grind (arith, k)

    type_is : type_at q.types r ≡ Ptr to false
    type_is = sym (h.types r (subst (λ n. r < n) (sym h.params) l)) ∙ type_there q w r (Ptr to false) h e

    any : (m : Mode) → (true && true && is_usable m (Ptr to false)) ≡ true
    any (on_lanes mask) = refl
    any alone = refl
    any (chunk stored first) = refl

-- ---- pieces

pub adds_nil : (w : Written) → Adds w w (λ q j h h'. h' ≡ h) 0 0
adds_nil w = record {
  piece = [];
  types = [];
  calls = [];
  instrs = sym (append-nil w.instrs);
  regs = sym (append-nil w.regs);
  slots = sym (append-nil w.slots);
  masks = omega arith;
  params = refl;
  good = λ e c f. good_nil e c 0;
  does = λ q h. does_nil (place_of q) Always;
  short = omega arith;
}

pub adds_weaken : (a b : Written) (F G : LaneCall → Change) (s t depth : ℕ) → Adds a b F s depth → s ≤ t → ((q : LaneCall) → HasWritten q b → (j : ℕ) (h h' : Share) → IsSound (place_of q) j h → IsSound (place_of q) j h' → F q j h h' → G q j h h') → Adds a b G t depth
adds_weaken a b F G s t depth one le f = record {
  piece = one.piece;
  types = one.types;
  calls = one.calls;
  instrs = one.instrs;
  regs = one.regs;
  slots = one.slots;
  masks = one.masks;
  params = one.params;
  good = one.good;
  does = λ q h. does_weaken (place_of q) Always Always (F q) (G q) one.piece (one.does q h) (λ j p _ u. tt) (λ j p p' sp sp' _ x. f q h j p p' sp sp' x);
  short = let p = one.short in omega (arith, p, le);
}

-- one piece after another; the share between them is sound
pub adds_then : (a b c : Written) (F G : LaneCall → Change) (s t depth : ℕ) → Adds a b F s depth → Adds b c G t depth → Adds a c (λ q j h h'. (mid : Share) × F q j h mid × G q j mid h' × IsSound (place_of q) j mid) (s + t) depth
adds_then a b c F G s t depth one two = record {
  piece = one.piece ++ two.piece;
  types = one.types ++ two.types;
  calls = one.calls ++ two.calls;
  instrs = joined a.instrs one.piece two.piece b.instrs c.instrs one.instrs two.instrs;
  regs = joined a.regs one.types two.types b.regs c.regs one.regs two.regs;
  slots = joined a.slots one.calls two.calls b.slots c.slots one.slots two.slots;
  masks = let p = one.masks in let q = two.masks in omega (arith, p, q);
  params = two.params ∙ one.params;
  good = λ e r f. good_append e r depth one.piece two.piece (one.good e r (finishes_less b c G t depth r two f)) (two.good e r f);
  does = λ q h. does_weaken (place_of q) Always Always _ _ (one.piece ++ two.piece)
      (does_append (place_of q) Always Always (λ j p p'. F q j p p' × IsSound (place_of q) j p') (G q) one.piece two.piece
      (does_weaken (place_of q) Always Always (F q) _ one.piece (one.does q (has_written_less b c G t depth q two h)) (λ j p _ u. tt) (λ j p p' sp sp' _ f. (f, sp'))) (two.does q h) (λ j p p' sp sp' _ f. tt))
      (λ j p _ u. tt) (λ j p p' sp sp' _ f. (f.0, f.1.0, f.2, f.1.1));
  short = let p = one.short in let q = two.short in subst (λ n. n ≤ s + t) (sym (length-append one.piece two.piece)) (omega (arith, p, q));
}
  where
    joined : {A : Type 0} → (xs ys zs mid new : List A) → mid ≡ xs ++ ys → new ≡ mid ++ zs → new ≡ xs ++ (ys ++ zs)
    joined xs ys zs mid new e f = f ∙ (ap (λ l. l ++ zs) e ∙ append_assoc xs ys zs)

pub adds_deeper : (a b : Written) (F : LaneCall → Change) (s depth depth' : ℕ) → depth ≤ depth' → Adds a b F s depth → Adds a b F s depth'
adds_deeper a b F s depth depth' le one = record {
  piece = one.piece;
  types = one.types;
  calls = one.calls;
  instrs = one.instrs;
  regs = one.regs;
  slots = one.slots;
  masks = one.masks;
  params = one.params;
  good = λ e c f. good_deeper e c depth depth' one.piece le (one.good e c f);
  does = one.does;
  short = one.short;
}

-- one instruction that is no loop
pub adds_put : (a b : Written) (i : Instr) (types : List CType) (o : Operation) (F : LaneCall → Change) → Puts a b i types → operation_of i ≡ Some o → block_in (Some o) ≡ None → i.m < b.masks →
    ((e : Environment) (c : Routine) → Finishes c b → is_typed e c o ≡ true) → ((q : LaneCall) → HasWritten q b → Does (place_of q) Always (i ∷ []) (F q)) → Adds a b F 1 0
adds_put a b i types o F p is plain lm ty d = record {
  piece = i ∷ [];
  types = types;
  calls = [];
  instrs = p.instrs;
  regs = p.regs;
  slots = p.slots ∙ sym (append-nil a.slots);
  masks = p.masks;
  params = p.params;
  good = λ e c f. let q = f.masks in good_one e c i o is plain (omega (arith, lm, q)) (ty e c f);
  does = d;
  short = omega arith;
}
