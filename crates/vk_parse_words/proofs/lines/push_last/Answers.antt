use Rattle.std.proofs.Common.{◌≡◌, length, arith, rules}
use Rattle.vk_parse_words.proofs.Split.{pushed_last}
use Rattle.vk_parse_words.proofs.lines.push_last.Goals as goal

pub returns-in_ok-push : goal.returns-in_ok-push
returns-in_ok-push c =
    let count : c.len-count.result ≡ length c.args.lines.now.items = search rules in
    pushed_last c.args.sym c.args.lines.now.items _ c.index_mut.result.now c.push.new.self (omega arith) (omega arith) c.index_mut.ensures.value (search rules)
