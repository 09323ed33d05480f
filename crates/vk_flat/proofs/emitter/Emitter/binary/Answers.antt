use Rattle.vk_flat.proofs.Grown.{if_ok_map}
use Rattle.vk_flat.proofs.Joined.{exchanged}
use Rattle.vk_flat.specs.Emitters.{written_of}
use Rattle.vk_types.specs.declared.types.Op2.TheVariants.{Le, Lt}
use Rattle.vk_flat.proofs.emitter.Emitter.binary.Goals as goal

pub returns-in-Add-clause-code : goal.returns-in-Add-clause-code
returns-in-Add-clause-code c = rw c.in-Add.is c.in_common.ensures.code

pub returns-in-Sub-clause-code : goal.returns-in-Sub-clause-code
returns-in-Sub-clause-code c = rw c.in-Sub.is c.in_common-in-Sub.ensures.code

pub returns-in-Mul-clause-code : goal.returns-in-Mul-clause-code
returns-in-Mul-clause-code c = rw c.in-Mul.is c.in_common-in-Mul.ensures.code

pub returns-in-Div-clause-code : goal.returns-in-Div-clause-code
returns-in-Div-clause-code c = rw c.in-Div.is c.in_common-in-Div.ensures.code

pub returns-in-Rem-clause-code : goal.returns-in-Rem-clause-code
returns-in-Rem-clause-code c = rw c.in-Rem.is c.in_common-in-Rem.ensures.code

pub returns-in-And-clause-code : goal.returns-in-And-clause-code
returns-in-And-clause-code c = rw c.in-And.is c.in_common-in-And.ensures.code

pub returns-in-Or-clause-code : goal.returns-in-Or-clause-code
returns-in-Or-clause-code c = rw c.in-Or.is c.in_common-in-Or.ensures.code

pub returns-in-Xor-clause-code : goal.returns-in-Xor-clause-code
returns-in-Xor-clause-code c = rw c.in-Xor.is c.in_common-in-Xor.ensures.code

pub returns-in-Shl-clause-code : goal.returns-in-Shl-clause-code
returns-in-Shl-clause-code c = rw c.in-Shl.is c.shift_promoted.ensures.code

pub returns-in-Shr-clause-code : goal.returns-in-Shr-clause-code
returns-in-Shr-clause-code c = rw c.in-Shr.is c.shift_promoted-in-Shr.ensures.code

pub returns-in-Eq-clause-code : goal.returns-in-Eq-clause-code
returns-in-Eq-clause-code c = rw c.in-Eq.is c.compare_in_common.ensures.code

pub returns-in-Ne-clause-code : goal.returns-in-Ne-clause-code
returns-in-Ne-clause-code c = rw c.in-Ne.is c.compare_in_common-in-Ne.ensures.code

pub returns-in-Lt-clause-code : goal.returns-in-Lt-clause-code
returns-in-Lt-clause-code c = rw c.in-Lt.is c.compare_in_common-in-Lt.ensures.code

pub returns-in-Le-clause-code : goal.returns-in-Le-clause-code
returns-in-Le-clause-code c = rw c.in-Le.is c.compare_in_common-in-Le.ensures.code

pub returns-in-Gt-clause-code : goal.returns-in-Gt-clause-code
returns-in-Gt-clause-code c = rw c.in-Gt.is (if_ok_map c.compare_in_common-in-Gt.result (λ d h. exchanged (written_of c.args.self.now) (written_of c.compare_in_common-in-Gt.new.self) Lt c.args.a c.args.b d c.args.under 3 h) c.compare_in_common-in-Gt.ensures.code)

pub returns-in-Ge-clause-code : goal.returns-in-Ge-clause-code
returns-in-Ge-clause-code c = rw c.in-Ge.is (if_ok_map c.compare_in_common-in-Ge.result (λ d h. exchanged (written_of c.args.self.now) (written_of c.compare_in_common-in-Ge.new.self) Le c.args.a c.args.b d c.args.under 3 h) c.compare_in_common-in-Ge.ensures.code)
