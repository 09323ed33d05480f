-- One instruction each.
use Rattle.std.proofs.Common.{arith, rules, ◌≡◌, ℕ, ◌+◌, ◌<◌, ◌≤◌, Ok, sym, subst}
use Rattle.vk_types.specs.declared.types.Ty.{Ty}
use Rattle.vk_types.specs.declared.types.Ty.TheVariants.{I8, U8, I16, U16, I32, U32, I64, U64}
use Rattle.vk_types.specs.declared.types.Word.{Word}
use Rattle.vk_types.specs.Numbers.{IsCanonical, word_of, wrap_number}
use Rattle.vk_code.specs.declared.instruction.Operation.TheVariants.{Const, Convert, MaskBut, MaskOr}
use Rattle.vk_lane.specs.Writes.{Writes}
use Rattle.vk_construct.specs.Adds.{Adds, LeavesOut, Written}
use Rattle.vk_construct.specs.Applies.{number_at}
use Rattle.vk_construct.proofs.Instructions.{adds_const_into, adds_convert_into, adds_mask_but, adds_mask_or}
use Rattle.vk_construct_statements.specs.Statements.{Unites}
use Rattle.vk_flat.specs.declared.emitter.Place.{Place}
use Rattle.vk_flat.specs.Emitters.{HasPut, IsPlace}
use Rattle.vk_flat.proofs.Grown.{put_mask, put_piece, put_place}

pub zero_canonical : (t : Ty) → IsCanonical t 0
zero_canonical I8 = search rules
zero_canonical U8 = search rules
zero_canonical I16 = search rules
zero_canonical U16 = search rules
zero_canonical I32 = search rules
zero_canonical U32 = search rules
zero_canonical I64 = search rules
zero_canonical U64 = search rules

pub clears : (a b : Written) (d : Place) (m : ℕ) (value : Word) → value.0 ≡ 0 → HasPut a b m (Const d.ty d.register value) → m < a.masks → IsPlace a d → Adds a b (λ q. Writes m d.register (λ j h. Ok 0)) 1 0
clears a b d m value zero h lm there = subst (λ n. Adds a b (λ q. Writes m d.register (λ j h. Ok n)) 1 0) zero
    (adds_const_into a b h.instr value d.ty d.register m (put_piece a b _ _ h) h.mask (put_mask a b _ _ h m lm) h.operation (put_place a b _ _ h d there) (subst (λ n. IsCanonical d.ty n) (sym zero) (zero_canonical d.ty)))

pub stores : (a b : Written) (r d : Place) (m : ℕ) → HasPut a b m (Convert d.register r.register) → m < a.masks → IsPlace a r → IsPlace a d →
    Adds a b (λ q. Writes m d.register (λ j h. Ok (word_of (wrap_number d.ty (number_at r.ty r.register h))))) 1 0
stores a b r d m h lm operand there = adds_convert_into a b h.instr r.ty d.ty r.register d.register m (put_piece a b _ _ h) h.mask (put_mask a b _ _ h m lm) h.operation (put_place a b _ _ h d there) (put_place a b _ _ h r operand)

pub leaves : (a b : Written) (from lanes : ℕ) → HasPut a b 0 (MaskBut from from lanes) → 0 < from → from < a.masks → lanes < a.masks → Adds a b (LeavesOut from from lanes) 1 0
leaves a b from lanes h some lf ll = adds_mask_but a b h.instr from from lanes (put_piece a b _ _ h) h.mask (record { some = some; there = put_mask a b _ _ h from lf }) (put_mask a b _ _ h from lf) (put_mask a b _ _ h lanes ll) h.operation

pub unites : (a b : Written) (r f : ℕ) → HasPut a b 0 (MaskOr r f (f + 1)) → 0 < r → r < f → f + 2 ≤ a.masks → Adds a b (Unites r f (f + 1)) 1 0
unites a b r f h some lr lm = adds_mask_or a b h.instr r f (f + 1) (put_piece a b _ _ h) h.mask (record { some = some; there = put_mask a b _ _ h r (omega (arith, lr, lm)) })
    (put_mask a b _ _ h f (omega (arith, lm))) (put_mask a b _ _ h (f + 1) (omega (arith, lm))) h.operation
