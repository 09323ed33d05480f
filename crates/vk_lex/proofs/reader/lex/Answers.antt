use Rattle.std.proofs.Common.{◌≡◌, ℕ, ◌<◌, length, List, [], subst, sym, ◌∙◌, arith}
use Rattle.std.specs.Option.{option_map}
use Rattle.vk_lex.specs.Characters.{line_of}
use Rattle.vk_lex.specs.Tokens.{found_kind, Tells}
use Rattle.vk_lex.specs.Lexing.{Refuses}
use Rattle.vk_lex.proofs.Lengths.{piece_length}
use Rattle.vk_lex.proofs.Loop.{Lexing, Lexed, turn, lexed, refused, no_length, lexes_only, lexes_or_refuses, refuses_only, text_length}
use Rattle.vk_lex.proofs.Places.{last_is}
use Rattle.std.proofs.lemmas.Bool.Decides.{nat_tests}
use Rattle.vk_lex.proofs.reader.lex.Goals as goal

refusal : (c : goal.After-drop-characters-in-Err) → Refuses c.args.bytes.now c.line_at-line.result c.in-Err.rule
refusal c =
    let bytes = c.args.bytes.now in
    let rest = c.loop-rest.rest.now in
    let line : c.line_at-line.result ≡ line_of bytes (length rest) = c.line_at-line.ensures bytes c.in_ok-characters.ensures.lines c.in_ok-characters.ensures.last in
    let some : 0 < length rest = grind (arith, nat_tests, c.loop-rest-test.ensures) in
    refused bytes c.loop-rest.names c.loop-rest.list.items c.loop-rest.mode rest c.line_at-line.result c.in-Err.rule c.loop-rest.invariant some line c.in-Err.ensures.fault

pub returns-in-Err-clause-fault : goal.returns-in-Err-clause-fault
returns-in-Err-clause-fault c = refusal c

pub returns-in-Err-clause-every : goal.returns-in-Err-clause-every
returns-in-Err-clause-every c = λ all reads. lexes_or_refuses c.args.bytes.now all c.line_at-line.result c.in-Err.rule reads (refusal c)

pub returns-in-Err-clause-every_fault : goal.returns-in-Err-clause-every_fault
returns-in-Err-clause-every_fault c = λ line rule refuses. refuses_only c.args.bytes.now c.line_at-line.result line c.in-Err.rule rule (refusal c) refuses

pub push_found-requires : goal.push_found-requires
push_found-requires c = omega (arith, c.loop-rest.invariant.few, c.loop-rest.invariant.count, text_length c.args.bytes.now, c.requires)

pub loop-rest-smaller : goal.loop-rest-smaller
loop-rest-smaller c = piece_length c.in-Ok.ensures.piece

pub loop-rest-preserved : goal.loop-rest-preserved
loop-rest-preserved c =
    let bytes = c.args.bytes.now in
    let rest = c.loop-rest.rest.now in
    let k = option_map found_kind c.in-Ok.piece.found in
    let line : c.line_at-line.result ≡ line_of bytes (length rest) = c.line_at-line.ensures bytes c.in_ok-characters.ensures.lines c.in_ok-characters.ensures.last in
    turn bytes c.loop-rest.names c.loop-rest.list.items c.loop-rest.mode rest c.loop-rest.invariant c.in-Ok.piece.mode c.in-Ok.piece.rest.now c.push_found.new.list.items c.push_found.new.names k
    c.in-Ok.ensures.piece (subst (λ (l : ℕ). Tells k l c.loop-rest.list.items c.push_found.new.list.items c.loop-rest.names c.push_found.new.names) line c.in_ok-push_found.ensures.tells)

pub push_found-requires-2 : goal.push_found-requires-2
push_found-requires-2 c = omega (arith, c.loop-rest.invariant.few, c.loop-rest.invariant.count, text_length c.args.bytes.now, c.requires)

whole : (c : goal.After-drop-characters-3) → Lexed c.args.bytes.now c.push_found-2.new.names c.push_found-2.new.list.items
whole c =
    let bytes = c.args.bytes.now in
    let k = option_map found_kind c.ended.result in
    let list = c.loop-rest.list.items in
    let nothing : c.loop-rest.rest.now ≡ [] = no_length c.loop-rest.rest.now (grind (arith, nat_tests, c.loop-rest-test.ensures)) in
    let old = subst (λ (t : List ℕ). Lexing bytes c.loop-rest.names list c.loop-rest.mode t) nothing c.loop-rest.invariant in
    let line = c.in_ok-characters.ensures.last ∙ last_is bytes in
    lexed bytes c.loop-rest.names list c.loop-rest.mode old c.push_found-2.new.list.items c.push_found-2.new.names k (sym c.ended.ensures)
    (subst (λ (l : ℕ). Tells k l list c.push_found-2.new.list.items c.loop-rest.names c.push_found-2.new.names) line c.in_ok-push_found-2.ensures.tells)

pub returns-clause-tokens : goal.returns-clause-tokens
returns-clause-tokens c =
    let all = whole c in
    record { lexes = all.lexes; named = all.named; distinct = c.len-count.ensures.distinct; order = all.order }

pub returns-clause-every : goal.returns-clause-every
returns-clause-every c = λ all reads. lexes_only c.args.bytes.now _ all (whole c).lexes reads

pub returns-clause-every_fault : goal.returns-clause-every_fault
returns-clause-every_fault c = λ line rule refuses. lexes_or_refuses c.args.bytes.now _ line rule (whole c).lexes refuses

pub returns-clause-count : goal.returns-clause-count
returns-clause-count c = (whole c).count

pub returns-clause-few : goal.returns-clause-few
returns-clause-few c = (whole c).few
