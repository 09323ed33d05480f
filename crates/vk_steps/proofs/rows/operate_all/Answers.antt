use Rattle.std.proofs.Common.{◌≡◌, ◌<◌, ap, sym, subst, ◌∙◌}
use Rattle.vk_types.specs.Formats.{type_number}
use Rattle.vk_types.specs.Numbers.{number_of}
use Rattle.vk_types.specs.Operators.{op2_number}
use Rattle.vk_lanes.specs.Kernels.{AreOperands}
use Rattle.vk_code.specs.Listing.{reg_type}
use Rattle.vk_object.specs.Lane.{with_reg}
use Rattle.vk_frames.specs.Each.{each}
use Rattle.vk_frames.specs.Frames.{lanes_of}
use Rattle.vk_steps.specs.Locals.{changed, live_as, with_number}
use Rattle.vk_object.specs.Images.{names_of}
use Rattle.vk_steps.specs.Places.{IsTyped, listing, regs, tables}
use Rattle.vk_steps.proofs.Typed.{address_typed, binary_operands, binary_typed, compare_typed, convert_typed, copy_typed, lane_typed, mask_of_typed, moved_typed, same_operands, unary_typed}
use Rattle.vk_steps.proofs.rows.operate_all.Goals as goal

pub copy-requires-clause-d : goal.copy-requires-clause-d
copy-requires-clause-d c = subst (λ n. c.in-Copy.d < n) (sym c.requires.fits.shape.registers_are) (copy_typed (names_of (tables c.args.place.now)) (listing c.args.place.now).routine c.in-Copy.d c.in-Copy.a (subst (IsTyped c.args.place.now) c.in-Copy.is c.requires.typed)).d_in

pub copy-requires-clause-a : goal.copy-requires-clause-a
copy-requires-clause-a c = subst (λ n. c.in-Copy.a < n) (sym c.requires.fits.shape.registers_are) (copy_typed (names_of (tables c.args.place.now)) (listing c.args.place.now).routine c.in-Copy.d c.in-Copy.a (subst (IsTyped c.args.place.now) c.in-Copy.is c.requires.typed)).a_in

pub convert_in-requires-clause-d : goal.convert_in-requires-clause-d
convert_in-requires-clause-d c = subst (λ n. c.in-Convert.d < n) (sym c.requires.fits.shape.registers_are) (convert_typed (names_of (tables c.args.place.now)) (listing c.args.place.now).routine c.in-Convert.d c.in-Convert.a (subst (IsTyped c.args.place.now) c.in-Convert.is c.requires.typed)).to.inside

pub convert_in-requires-clause-a : goal.convert_in-requires-clause-a
convert_in-requires-clause-a c = subst (λ n. c.in-Convert.a < n) (sym c.requires.fits.shape.registers_are) (convert_typed (names_of (tables c.args.place.now)) (listing c.args.place.now).routine c.in-Convert.d c.in-Convert.a (subst (IsTyped c.args.place.now) c.in-Convert.is c.requires.typed)).from.inside

pub binary-requires-clause-d : goal.binary-requires-clause-d
binary-requires-clause-d c = subst (λ n. c.in-Binary.d < n) (sym c.requires.fits.shape.registers_are) (binary_typed (names_of (tables c.args.place.now)) (listing c.args.place.now).routine c.in-Binary.op c.in-Binary.ty c.in-Binary.d c.in-Binary.a c.in-Binary.b (subst (IsTyped c.args.place.now) c.in-Binary.is c.requires.typed)).d_in

pub binary-requires-clause-a : goal.binary-requires-clause-a
binary-requires-clause-a c = subst (λ n. c.in-Binary.a < n) (sym c.requires.fits.shape.registers_are) (binary_typed (names_of (tables c.args.place.now)) (listing c.args.place.now).routine c.in-Binary.op c.in-Binary.ty c.in-Binary.d c.in-Binary.a c.in-Binary.b (subst (IsTyped c.args.place.now) c.in-Binary.is c.requires.typed)).a_in

pub binary-requires-clause-b : goal.binary-requires-clause-b
binary-requires-clause-b c = subst (λ n. c.in-Binary.b < n) (sym c.requires.fits.shape.registers_are) (binary_typed (names_of (tables c.args.place.now)) (listing c.args.place.now).routine c.in-Binary.op c.in-Binary.ty c.in-Binary.d c.in-Binary.a c.in-Binary.b (subst (IsTyped c.args.place.now) c.in-Binary.is c.requires.typed)).right.inside

pub binary-requires-clause-right : goal.binary-requires-clause-right
binary-requires-clause-right c = subst (λ t. reg_type (regs c.args.place.now) c.in-Binary.b ≡ type_number t) (sym c.ty_at.ensures) (binary_typed (names_of (tables c.args.place.now)) (listing c.args.place.now).routine c.in-Binary.op c.in-Binary.ty c.in-Binary.d c.in-Binary.a c.in-Binary.b (subst (IsTyped c.args.place.now) c.in-Binary.is c.requires.typed)).right.type

pub binary-requires-in-Compare-clause-d : goal.binary-requires-in-Compare-clause-d
binary-requires-in-Compare-clause-d c = subst (λ n. c.in-Compare.d < n) (sym c.requires.fits.shape.registers_are) (compare_typed (names_of (tables c.args.place.now)) (listing c.args.place.now).routine c.in-Compare.op c.in-Compare.ty c.in-Compare.d c.in-Compare.a c.in-Compare.b (subst (IsTyped c.args.place.now) c.in-Compare.is c.requires.typed)).d_in

pub binary-requires-in-Compare-clause-a : goal.binary-requires-in-Compare-clause-a
binary-requires-in-Compare-clause-a c = subst (λ n. c.in-Compare.a < n) (sym c.requires.fits.shape.registers_are) (compare_typed (names_of (tables c.args.place.now)) (listing c.args.place.now).routine c.in-Compare.op c.in-Compare.ty c.in-Compare.d c.in-Compare.a c.in-Compare.b (subst (IsTyped c.args.place.now) c.in-Compare.is c.requires.typed)).a_in

pub binary-requires-in-Compare-clause-b : goal.binary-requires-in-Compare-clause-b
binary-requires-in-Compare-clause-b c = subst (λ n. c.in-Compare.b < n) (sym c.requires.fits.shape.registers_are) (compare_typed (names_of (tables c.args.place.now)) (listing c.args.place.now).routine c.in-Compare.op c.in-Compare.ty c.in-Compare.d c.in-Compare.a c.in-Compare.b (subst (IsTyped c.args.place.now) c.in-Compare.is c.requires.typed)).b_in

pub unary-requires-clause-d : goal.unary-requires-clause-d
unary-requires-clause-d c = subst (λ n. c.in-Unary.d < n) (sym c.requires.fits.shape.registers_are) (unary_typed (names_of (tables c.args.place.now)) (listing c.args.place.now).routine c.in-Unary.op c.in-Unary.ty c.in-Unary.d c.in-Unary.a (subst (IsTyped c.args.place.now) c.in-Unary.is c.requires.typed)).d_in

pub unary-requires-clause-a : goal.unary-requires-clause-a
unary-requires-clause-a c = subst (λ n. c.in-Unary.a < n) (sym c.requires.fits.shape.registers_are) (unary_typed (names_of (tables c.args.place.now)) (listing c.args.place.now).routine c.in-Unary.op c.in-Unary.ty c.in-Unary.d c.in-Unary.a (subst (IsTyped c.args.place.now) c.in-Unary.is c.requires.typed)).a_in

pub offsets-requires-clause-d : goal.offsets-requires-clause-d
offsets-requires-clause-d c = subst (λ n. c.in-PtrAdd.d < n) (sym c.requires.fits.shape.registers_are) (moved_typed (names_of (tables c.args.place.now)) (listing c.args.place.now).routine c.in-PtrAdd.d c.in-PtrAdd.a c.in-PtrAdd.b (subst (IsTyped c.args.place.now) c.in-PtrAdd.is c.requires.typed)).d_in

pub offsets-requires-clause-a : goal.offsets-requires-clause-a
offsets-requires-clause-a c = subst (λ n. c.in-PtrAdd.a < n) (sym c.requires.fits.shape.registers_are) (moved_typed (names_of (tables c.args.place.now)) (listing c.args.place.now).routine c.in-PtrAdd.d c.in-PtrAdd.a c.in-PtrAdd.b (subst (IsTyped c.args.place.now) c.in-PtrAdd.is c.requires.typed)).a_in

pub offsets-requires-clause-b : goal.offsets-requires-clause-b
offsets-requires-clause-b c = subst (λ n. c.in-PtrAdd.b < n) (sym c.requires.fits.shape.registers_are) (moved_typed (names_of (tables c.args.place.now)) (listing c.args.place.now).routine c.in-PtrAdd.d c.in-PtrAdd.a c.in-PtrAdd.b (subst (IsTyped c.args.place.now) c.in-PtrAdd.is c.requires.typed)).right.inside

pub mask_of-requires-clause-a : goal.mask_of-requires-clause-a
mask_of-requires-clause-a c = subst (λ n. c.in-MaskOf.a < n) (sym c.requires.fits.shape.registers_are) (mask_of_typed (names_of (tables c.args.place.now)) (listing c.args.place.now).routine c.in-MaskOf.d c.in-MaskOf.a (subst (IsTyped c.args.place.now) c.in-MaskOf.is c.requires.typed)).a_in

pub number_lanes-requires-clause-d : goal.number_lanes-requires-clause-d
number_lanes-requires-clause-d c = subst (λ n. c.in-Lane.d < n) (sym c.requires.fits.shape.registers_are) (lane_typed (names_of (tables c.args.place.now)) (listing c.args.place.now).routine c.in-Lane.d (subst (IsTyped c.args.place.now) c.in-Lane.is c.requires.typed))

pub set-requires-in-Addr-clause-d : goal.set-requires-in-Addr-clause-d
set-requires-in-Addr-clause-d c = subst (λ n. c.in-Addr.d < n) (sym c.requires.fits.shape.registers_are) (address_typed (names_of (tables c.args.place.now)) (listing c.args.place.now).routine c.in-Addr.d c.in-Addr.object (subst (IsTyped c.args.place.now) c.in-Addr.is c.requires.typed))

pub binary-requires-clause-operands : goal.binary-requires-clause-operands
binary-requires-clause-operands c = subst (AreOperands c.in-Binary.op c.in-Binary.ty) (sym c.ty_at.ensures) (binary_operands (names_of (tables c.args.place.now)) (listing c.args.place.now).routine c.in-Binary.op c.in-Binary.ty c.in-Binary.d c.in-Binary.a c.in-Binary.b (subst (IsTyped c.args.place.now) c.in-Binary.is c.requires.typed))

pub binary-requires-in-Compare-clause-operands : goal.binary-requires-in-Compare-clause-operands
binary-requires-in-Compare-clause-operands c = same_operands c.in-Compare.op c.in-Compare.ty

pub returns-in-Const-clause-lanes : goal.returns-in-Const-clause-lanes
returns-in-Const-clause-lanes c = subst (λ o. lanes_of c.set.new.frame ≡ each c.args.frame.now.lanes (changed (regs c.args.place.now) c.args.m o) (lanes_of c.args.frame.now)) (sym c.in-Const.is) c.set.ensures.lanes

pub returns-in-Copy-clause-lanes : goal.returns-in-Copy-clause-lanes
returns-in-Copy-clause-lanes c = subst (λ o. lanes_of c.copy.new.frame ≡ each c.args.frame.now.lanes (changed (regs c.args.place.now) c.args.m o) (lanes_of c.args.frame.now)) (sym c.in-Copy.is) c.copy.ensures.lanes

pub returns-in-Convert-clause-lanes : goal.returns-in-Convert-clause-lanes
returns-in-Convert-clause-lanes c = subst (λ o. lanes_of c.convert_in.new.frame ≡ each c.args.frame.now.lanes (changed (regs c.args.place.now) c.args.m o) (lanes_of c.args.frame.now)) (sym c.in-Convert.is) c.convert_in.ensures.lanes

pub returns-in-Binary-clause-lanes : goal.returns-in-Binary-clause-lanes
returns-in-Binary-clause-lanes c = subst (λ o. lanes_of c.binary.new.frame ≡ each c.args.frame.now.lanes (changed (regs c.args.place.now) c.args.m o) (lanes_of c.args.frame.now)) (sym c.in-Binary.is) (c.binary.ensures.lanes
    ∙ ap (λ t. each c.args.frame.now.lanes (λ j l. live_as c.args.m l (with_number l c.in-Binary.d (op2_number c.in-Binary.op c.in-Binary.ty (number_of c.in-Binary.ty (l.reg c.in-Binary.a)) (number_of t (l.reg c.in-Binary.b))))) (lanes_of c.args.frame.now)) c.ty_at.ensures)

pub returns-in-Compare-clause-lanes : goal.returns-in-Compare-clause-lanes
returns-in-Compare-clause-lanes c = subst (λ o. lanes_of c.binary-in-Compare.new.frame ≡ each c.args.frame.now.lanes (changed (regs c.args.place.now) c.args.m o) (lanes_of c.args.frame.now)) (sym c.in-Compare.is) c.binary-in-Compare.ensures.lanes

pub returns-in-Unary-clause-lanes : goal.returns-in-Unary-clause-lanes
returns-in-Unary-clause-lanes c = subst (λ o. lanes_of c.unary.new.frame ≡ each c.args.frame.now.lanes (changed (regs c.args.place.now) c.args.m o) (lanes_of c.args.frame.now)) (sym c.in-Unary.is) c.unary.ensures.lanes

pub returns-in-Lane-clause-lanes : goal.returns-in-Lane-clause-lanes
returns-in-Lane-clause-lanes c = subst (λ o. lanes_of c.number_lanes.new.frame ≡ each c.args.frame.now.lanes (changed (regs c.args.place.now) c.args.m o) (lanes_of c.args.frame.now)) (sym c.in-Lane.is) c.number_lanes.ensures.lanes

pub returns-in-PtrAdd-clause-lanes : goal.returns-in-PtrAdd-clause-lanes
returns-in-PtrAdd-clause-lanes c = subst (λ o. lanes_of c.offsets.new.frame ≡ each c.args.frame.now.lanes (changed (regs c.args.place.now) c.args.m o) (lanes_of c.args.frame.now)) (sym c.in-PtrAdd.is) c.offsets.ensures.lanes

pub returns-in-Addr-clause-lanes : goal.returns-in-Addr-clause-lanes
returns-in-Addr-clause-lanes c = subst (λ o. lanes_of c.set-in-Addr.new.frame ≡ each c.args.frame.now.lanes (changed (regs c.args.place.now) c.args.m o) (lanes_of c.args.frame.now)) (sym c.in-Addr.is) (c.set-in-Addr.ensures.lanes
    ∙ ap (λ w. each c.args.frame.now.lanes (λ j l. live_as c.args.m l (with_reg l c.in-Addr.d w)) (lanes_of c.args.frame.now)) c.address.ensures)

pub returns-in-MaskOf-clause-lanes : goal.returns-in-MaskOf-clause-lanes
returns-in-MaskOf-clause-lanes c = subst (λ o. lanes_of c.mask_of.new.frame ≡ each c.args.frame.now.lanes (changed (regs c.args.place.now) c.args.m o) (lanes_of c.args.frame.now)) (sym c.in-MaskOf.is) c.mask_of.ensures.lanes

pub returns-in-MaskAnd-clause-lanes : goal.returns-in-MaskAnd-clause-lanes
returns-in-MaskAnd-clause-lanes c = subst (λ o. lanes_of c.mask_and.new.frame ≡ each c.args.frame.now.lanes (changed (regs c.args.place.now) c.args.m o) (lanes_of c.args.frame.now)) (sym c.in-MaskAnd.is) c.mask_and.ensures.lanes

pub returns-in-MaskOr-clause-lanes : goal.returns-in-MaskOr-clause-lanes
returns-in-MaskOr-clause-lanes c = subst (λ o. lanes_of c.mask_or.new.frame ≡ each c.args.frame.now.lanes (changed (regs c.args.place.now) c.args.m o) (lanes_of c.args.frame.now)) (sym c.in-MaskOr.is) c.mask_or.ensures.lanes

pub returns-in-MaskBut-clause-lanes : goal.returns-in-MaskBut-clause-lanes
returns-in-MaskBut-clause-lanes c = subst (λ o. lanes_of c.mask_but.new.frame ≡ each c.args.frame.now.lanes (changed (regs c.args.place.now) c.args.m o) (lanes_of c.args.frame.now)) (sym c.in-MaskBut.is) c.mask_but.ensures.lanes
