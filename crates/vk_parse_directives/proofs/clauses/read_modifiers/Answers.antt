use Rattle.std.proofs.Common.{sym, ◌∙◌}
use Rattle.vk_parse_directives.proofs.Summing.{start, last_of, next_of}
use Rattle.vk_parse_directives.proofs.clauses.read_modifiers.Goals as goal

pub loop-part-init : goal.loop-part-init
loop-part-init c = start c.args.names.now c.args.syms.now

pub returns-in_default : goal.returns-in_default
returns-in_default c =
    last_of c.args.names.now c.args.syms.now c.loop-part.rest.now c.split_at.result.0.now c.split_at.result.1.now c.piece_len.result _
    c.loop-part.invariant c.split_at.ensures.front c.split_at.ensures.back c.piece_len.ensures.count c.in-Ok.ensures c.and-found.ensures c.in_default.len_below

pub loop-part-preserved : goal.loop-part-preserved
loop-part-preserved c =
    next_of c.args.names.now c.args.syms.now c.loop-part.rest.now c.split_at.result.0.now c.split_at.result.1.now c.piece_len.result _
    c.loop-part.invariant c.split_at.ensures.front c.split_at.ensures.back c.piece_len.ensures.count c.in-Ok.ensures c.and-found.ensures
    _ c.in-len1-up.len_at_least (sym c.is_comma.ensures ∙ c.if-not-is_comma.false)
