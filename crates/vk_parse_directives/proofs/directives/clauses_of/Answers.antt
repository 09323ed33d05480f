use Rattle.std.proofs.Common.{◌≤◌, sym, ◌∙◌, map}
use Rattle.std.proofs.lemmas.List.{map_push}
use Rattle.vk_ast.specs.Directives.{clause_of}
use Rattle.vk_parse_directives.proofs.Telling.{start, clause}
use Rattle.vk_parse_directives.proofs.directives.clauses_of.Goals as goal

pub loop-rest-init : goal.loop-rest-init
loop-rest-init c = rw c.new-list.ensures.items (start c.args.names.now c.args.line.now)

pub loop-rest-preserved : goal.loop-rest-preserved
loop-rest-preserved c =
    let one : 1 ≤ c.piece_len.result = c.piece_len.ensures.some c.in-len1-up.len_at_least in
    rw (c.in_ok-push.ensures.items, map_push)
    (clause c.args.names.now c.args.line.now c.loop-rest.rest.now c.split_at.result.0.now c.split_at.result.1.now c.piece_len.result
    (map clause_of c.loop-rest.list.items) _
    c.loop-rest.invariant c.in-len1-up.len_at_least (sym c.skips_comma.ensures ∙ c.if-skips_comma.false) c.split_at.ensures.front c.split_at.ensures.back c.piece_len.ensures.count one c.in_ok-read_clause.ensures)
