use Rattle.std.proofs.Common.{◌≡◌, ◌<◌, length, refl, sym, ap, ◌∙◌, arith, rules}
use Rattle.std.proofs.lemmas.List.{length-map}
use mir.Val.{bool_byte}
use Rattle.vk_parse_words.specs.Inner.Syms.{rows}
use Rattle.vk_parse_words.proofs.Split.{start, next}
use Rattle.vk_parse_words.proofs.Known.{syms_known, lines_known, syms_numbered}
use Rattle.vk_parse_words.proofs.lines.classify.Goals as goal

pub loop-at-init : goal.loop-at-init
loop-at-init c = rw (c.new.ensures.items, c.new-2.ensures.items) (start c.args.tokens.now.names c.args.tokens.now.list.items)

pub loop-at-preserved : goal.loop-at-preserved
loop-at-preserved c =
    let ts = c.args.tokens.now.list.items in
    let within : c.loop-at.at < length ts = omega arith in
    let all : c.deref-token-items.result.now ≡ ts = search rules in
    let long : c.len-begun.result ≡ length c.loop-at.syms.lines.items = search rules in
    let count : c.len-begun.result ≡ length (rows c.loop-at.syms.lines.items) = long ∙ sym (length-map c.loop-at.syms.lines.items (λ v. v.items)) in
    rw (c.in_ok-add.ensures.outside, c.in_ok-add.ensures.lines)
    (next c.args.tokens.now.names ts c.deref-token-items.result.now c.loop-at.at _ _ c.loop-at.syms.outside.items (rows c.loop-at.syms.lines.items) c.loop-at.ended
    c.len-begun.result c.sym_kind.result c.from.result c.from-ended.result c.loop-at.invariant within all refl count
    (c.from.ensures ∙ ap (λ b. bool_byte b) c.is_heading.ensures) c.sym_kind.ensures (c.from-ended.ensures ∙ ap (λ b. bool_byte b) c.is_line_end.ensures))

pub returns-clause-named : goal.returns-clause-named
returns-clause-named c = syms_known c.args.tokens.now.names c.args.tokens.now.list.items c.loop-at.at c.loop-at.invariant (omega arith) c.requires.named

pub returns-clause-named_clauses : goal.returns-clause-named_clauses
returns-clause-named_clauses c = λ n some within.
    lines_known c.args.tokens.now.names c.args.tokens.now.list.items c.loop-at.at c.loop-at.invariant (omega arith) c.requires.named n some
    (omega (arith, length-map c.loop-at.syms.lines.items (λ v. v.items)))

pub returns-clause-numbered : goal.returns-clause-numbered
returns-clause-numbered c =
    syms_numbered c.args.tokens.now.names c.args.tokens.now.list.items c.loop-at.at c.loop-at.invariant (omega arith) c.requires.named _ (length-map c.loop-at.syms.lines.items (λ v. v.items))
