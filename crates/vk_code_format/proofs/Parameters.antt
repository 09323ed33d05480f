-- What is read of a parameter was written, and what is written is read.
use Rattle.std.proofs.Common.{refl, ap, Option}
use Rattle.vk_kinds.specs.declared.heads.CType.{CType}
use Rattle.vk_format.specs.declared.rules.ObjectRule.TheVariants.{O7}
use Rattle.vk_format.specs.Codec.{number, judged}
use Rattle.vk_format.proofs.Inverse.{IsCodec, number_law, field_law, judged_law, given_law}
use Rattle.vk_code_format.specs.Fields.{coded, optional}
use Rattle.vk_code_format.specs.Parameters.{align_fits, kind_fits, kind_number, param, param_kinds, value_fits}
use Rattle.vk_code_format.proofs.Fields.{coded_law, optional_law}

pub param_law : {R : Type 0} (t : Option CType) → IsCodec (param {R = R} t)
param_law t =
    field_law (λ p. p.kind) (judged O7 (kind_fits t) (coded O7 param_kinds kind_number)) _ (judged_law O7 _ _ (coded_law O7 param_kinds kind_number (refl, (refl, (refl, (refl, tt)))))) (λ kind.
    field_law (λ p. p.value) (judged O7 (value_fits t kind) (number 4)) _ (judged_law O7 _ (number 4) (number_law 4)) (λ value.
    field_law (λ p. p.align) (judged O7 (align_fits t) (optional 4 0)) _ (judged_law O7 _ (optional 4 0) (optional_law 4 0)) (λ align.
    given_law _) (λ align p f. ap (λ q. q.align) f)) (λ value p f. ap (λ q. q.value) f.1)) (λ kind p f. ap (λ q. q.kind) f.1.1)
