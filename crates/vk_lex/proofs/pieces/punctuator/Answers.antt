use Rattle.vk_lex.proofs.Fronts.{sign_token, fraction_fault, stray_fault}
use Rattle.vk_lex.proofs.pieces.punctuator.Goals as goal

pub returns-in-Some-clause-token : goal.returns-in-Some-clause-token
returns-in-Some-clause-token c = sign_token c.args.text.now c.in-Some.rest.now c.in-Some.mark c.requires.other c.requires.plain c.in-Some.ensures.mark c.in-Some.ensures.rest

pub returns-then-begins_fraction-clause-fault : goal.returns-then-begins_fraction-clause-fault
returns-then-begins_fraction-clause-fault c = fraction_fault c.args.text.now c.requires.other c.requires.plain c.in-None.ensures.mark c.if-begins_fraction.ensures

pub returns-else-begins_fraction-clause-fault : goal.returns-else-begins_fraction-clause-fault
returns-else-begins_fraction-clause-fault c = stray_fault c.args.text.now c.requires.other c.requires.plain c.in-None.ensures.mark c.if-begins_fraction.ensures
