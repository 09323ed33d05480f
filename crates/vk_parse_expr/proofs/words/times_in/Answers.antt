use Rattle.std.proofs.Common.{◌≡◌, count_by, ◌∙◌, rules}
use Rattle.vk_grammar_expr.specs.declared.symbols.Sym.{Sym}
use Rattle.vk_parse_expr.specs.Inner.TypeRows.{is_word}
use Rattle.vk_parse_expr.proofs.Parts.{word_counted}
use Rattle.vk_parse_expr.proofs.words.times_in.Goals as goal

pub returns : goal.returns
returns c =
    let counted : c.count.result ≡ count_by (λ (t : Sym). is_word c.args.word t.kind) c.args.syms.now = search rules in
    counted ∙ word_counted c.args.word c.args.syms.now
