use Rattle.std.proofs.Common.{◌≡◌, ◌<◌, ◌-◌, get_or, length, ap, ◌∙◌, arith, rules}
use Rattle.vk_lex.proofs.Places.{line_is}
use Rattle.vk_lex.proofs.reader.line_at.Goals as goal

pub returns-else-left-eq0 : goal.returns-else-left-eq0
returns-else-left-eq0 c = λ bytes lines last.
    let all = c.args.characters.now.lines.items in
    let line = c.index.result.now in
    let some : 0 < c.args.left = omega (arith, c.if-left-eq0.false) in
    let count : c.len.result ≡ length all = search rules in
    line_is bytes all c.args.left line lines c.requires some (c.index.ensures ∙ ap (λ n. get_or all (n - c.args.left) line) count)
