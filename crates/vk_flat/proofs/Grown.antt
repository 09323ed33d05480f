-- Registers, masks and instructions that come behind.
use Rattle.std.proofs.Common.{arith, sym, ◌≡◌, ℕ, ◌<◌, ◌≤◌, max, [], ◌∷◌, length, subst, ap, ◌∙◌, append_assoc, append-nil, Result, Ok, Err, IfOk, OnOk}
use Rattle.vk_types.specs.declared.types.Ty.{Ty}
use Rattle.vk_kinds.specs.declared.heads.CType.TheVariants.{Int}
use Rattle.vk_code.specs.declared.instruction.Operation.{Operation}
use Rattle.vk_lane.specs.Entries.{LaneCall}
use Rattle.vk_lane.specs.Pieces.{Change}
use Rattle.vk_construct.specs.Adds.{Adds, HasType, Puts, Written}
use Rattle.vk_construct.proofs.Adding.{at_last, before}
use Rattle.vk_flat.specs.declared.emitter.Place.{Place}
use Rattle.vk_flat.specs.Emitters.{HasPut, IsPlace, with_masks, with_register}

-- ---- results

pub on_ok : {A E : Type 0} {P Q : Type 0} → (r : Result A E) → (P → Q) → OnOk r P → OnOk r Q
on_ok (Ok a) f p = f p
on_ok (Err e) f p = p

pub if_ok_map : {A E : Type 0} {P Q : A → Type 0} → (r : Result A E) → ((a : A) → P a → Q a) → IfOk r P → IfOk r Q
if_ok_map (Ok a) f p = f a p
if_ok_map (Err e) f p = p

pub if_ok_both : {A E : Type 0} {P Q R : A → Type 0} → (r : Result A E) → ((a : A) → P a → Q a → R a) → IfOk r P → IfOk r Q → IfOk r R
if_ok_both (Ok a) f p q = f a p q
if_ok_both (Err e) f p q = p

-- ---- one instruction

module _ (a b : Written) (m : ℕ) (o : Operation) (h : HasPut a b m o) where
  pub put_piece : Puts a b h.instr []
  put_piece = record {
    instrs = ap (λ w. w.instrs) h.written;
    regs = ap (λ w. w.regs) h.written ∙ sym (append-nil a.regs);
    slots = ap (λ w. w.slots) h.written;
    masks = subst (λ n. a.masks ≤ n) (sym (ap (λ w. w.masks) h.written)) (omega arith);
    params = ap (λ w. w.params) h.written;
  }

  pub put_place : (d : Place) → IsPlace a d → IsPlace b d
  put_place d p = subst (λ l. HasType (record a { regs = l }) d.register d.ty) (sym (ap (λ w. w.regs) h.written)) p

  pub put_mask : (n : ℕ) → n < a.masks → n < b.masks
  put_mask n l = subst (λ k. n < k) (sym (ap (λ w. w.masks) h.written)) l

  pub put_free : (n : ℕ) → a.params ≤ n → b.params ≤ n
  put_free n l = subst (λ k. k ≤ n) (sym (ap (λ w. w.params) h.written)) l

-- ---- one register

register_then : (a b : Written) (t : Ty) (F : LaneCall → Change) (size depth : ℕ) → Adds (with_register a t) b F size depth → Adds a b F size depth
register_then a b t F size depth x = record {
  piece = x.piece;
  types = Int t ∷ x.types;
  calls = x.calls;
  instrs = x.instrs;
  regs = x.regs ∙ append_assoc a.regs (Int t ∷ []) x.types;
  slots = x.slots;
  masks = x.masks;
  params = x.params;
  good = x.good;
  does = x.does;
  short = x.short;
}

module _ (a b : Written) (t : Ty) (e : b ≡ with_register a t) where
  -- code behind a new register is code behind those before it
  pub fresh_then : (c : Written) (F : LaneCall → Change) (size depth : ℕ) → Adds b c F size depth → Adds a c F size depth
  fresh_then c F size depth x = register_then a c t F size depth (subst (λ w. Adds w c F size depth) e x)

  pub fresh_place : HasType b (length a.regs) t
  fresh_place = subst (λ w. HasType w (length a.regs) t) (sym e) (at_last a.regs (Int t))

  pub fresh_kept : (r : ℕ) (u : Ty) → HasType a r u → HasType b r u
  fresh_kept r u h = subst (λ w. HasType w r u) (sym e) (before a.regs (Int t ∷ []) r (Int u) h)

-- ---- masks

masks_below : (m n k : ℕ) → max m n ≤ k → m ≤ k
masks_below m n k h = grind (arith, h)

-- code behind more masks is code behind those before
pub masks_then : (a b c : Written) (n : ℕ) (F : LaneCall → Change) (size depth : ℕ) → b ≡ with_masks a n → Adds b c F size depth → Adds a c F size depth
masks_then a b c n F size depth e x = go (subst (λ w. Adds w c F size depth) e x)
  where
    go : Adds (with_masks a n) c F size depth → Adds a c F size depth
    go y = record {
      piece = y.piece;
      types = y.types;
      calls = y.calls;
      instrs = y.instrs;
      regs = y.regs;
      slots = y.slots;
      masks = masks_below a.masks n c.masks y.masks;
      params = y.params;
      good = y.good;
      does = y.does;
      short = y.short;
    }
