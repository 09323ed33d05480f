-- What comes behind where a pointer is moved.
use Rattle.std.proofs.Common.{arith, ◌≡◌, ◌≢◌, ◌<◌, subst, ◌∙◌, Ok}
use Rattle.vk_types.specs.declared.types.Ty.TheVariants.{I64, U64}
use Rattle.vk_types.specs.declared.types.Op1.TheVariants.{Neg}
use Rattle.vk_types.specs.Numbers.{wrap_number}
use Rattle.vk_types.specs.Operators.{op1_number}
use Rattle.vk_construct.specs.Adds.{Written}
use Rattle.vk_construct.specs.Applies.{one}
use Rattle.vk_flat.specs.declared.emitter.Place.{Place}
use Rattle.vk_flat.specs.declared.emitter.Under.{Under}
use Rattle.vk_flat.specs.Emitters.{Brings}
use Rattle.vk_flat.proofs.Joined.{brings_weaken, one_brings}
use Rattle.vk_flat_pointers.specs.Pieces.{HasTurned}
use Rattle.vk_flat_pointers.proofs.Turning.{narrow_turned}

pub has_turned : (a b c : Written) (n long d : Place) (u : Under) → n.ty ≢ U64 → u.mask < u.free → long.ty ≡ I64 → Brings a b (one (λ z. Ok (wrap_number I64 z)) n.ty n.register) long u 1 →
    Brings b c (one (λ z. Ok (op1_number Neg long.ty z)) long.ty long.register) d u 1 → d.ty ≡ long.ty → HasTurned a c n d u
has_turned a b c n long d u narrow lm e first second same = record {
  number = λ z. op1_number Neg I64 (wrap_number I64 z);
  turned = narrow_turned n.ty narrow;
  code = brings_weaken a c _ d u 3 7 (omega arith)
      (one_brings a b c (λ z. Ok (op1_number Neg I64 z)) I64 n long d u lm e first (subst (λ t. Brings b c (one (λ z. Ok (op1_number Neg t z)) t long.register) d u 1) e second));
  ty = same ∙ e;
}
