use Rattle.std.proofs.Common.{Err, ap, subst, sym, ◌∙◌}
use Rattle.vk_lex.specs.Tokens.{AreIdentifiers}
use Rattle.vk_accept.specs.Units.{has_simd_line}
use Rattle.vk_accept.proofs.Said.{check_accepted, check_identifiers, check_refused, tree_refused, unit_read}
use Rattle.vk_accept.proofs.accepting.accepted_of.Goals as goal

pub returns-in-Err-parse-clause-refused : goal.returns-in-Err-parse-clause-refused
returns-in-Err-parse-clause-refused c = λ line directive rule is.
    tree_refused c.args.bytes.now c.args.target c.in-Ok.tokens.names c.in-Ok.tokens.list.items c.in-Ok.tokens.last c.in-Err-parse.fail _ c.in-Ok.ensures.tokens c.in-Ok.ensures.last
    (λ l r e. c.in-Err-parse.ensures.fault l r (ap Err e)) c.unread-in-Err-parse.ensures line directive rule cc

pub returns-in-Ok-check-clause-accepted : goal.returns-in-Ok-check-clause-accepted
returns-in-Ok-check-clause-accepted c =
    check_accepted c.args.bytes.now c.args.target c.in-Ok.tokens.list.items c.in-Ok-parse.unit c.in-Ok-check.checked c.in-Ok-check.ensures.same
    (unit_read c.args.bytes.now c.in-Ok.tokens.names c.in-Ok.tokens.list.items c.in-Ok-parse.unit c.in-Ok.ensures.tokens c.in-Ok-parse.ensures.found c.in-Ok-parse.ensures.names)
    (ap has_simd_line (sym c.deref.ensures.value) ∙ sym c.has_simd_line.ensures ∙ c.if-has_simd_line.false) c.in-Ok-check.ensures.accepted

pub returns-in-Ok-check-clause-identifiers : goal.returns-in-Ok-check-clause-identifiers
returns-in-Ok-check-clause-identifiers c =
    check_identifiers c.args.bytes.now c.args.target c.in-Ok.tokens.list.items c.in-Ok-parse.unit c.in-Ok-check.checked c.in-Ok-check.ensures.same
    (unit_read c.args.bytes.now c.in-Ok.tokens.names c.in-Ok.tokens.list.items c.in-Ok-parse.unit c.in-Ok.ensures.tokens c.in-Ok-parse.ensures.found c.in-Ok-parse.ensures.names)
    (subst AreIdentifiers (sym c.in-Ok-parse.ensures.names) (c.names_are_identifiers.ensures c.args.bytes.now c.in-Ok.tokens.names c.in-Ok.tokens.list.items c.in-Ok.ensures.tokens))

pub returns-clause-refused : goal.returns-clause-refused
returns-clause-refused c = λ line directive rule is.
    check_refused c.args.bytes.now c.args.target c.in-Ok.tokens.list.items c.in-Ok-parse.unit c.in-Err-check.fail _
    (unit_read c.args.bytes.now c.in-Ok.tokens.names c.in-Ok.tokens.list.items c.in-Ok-parse.unit c.in-Ok.ensures.tokens c.in-Ok-parse.ensures.found c.in-Ok-parse.ensures.names)
    (ap has_simd_line (sym c.deref.ensures.value) ∙ sym c.has_simd_line.ensures ∙ c.if-has_simd_line.false) (λ l d r e. c.in-Err-check.ensures.refused l d r (ap Err e)) c.unaccepted.ensures line directive rule cc
