use Rattle.std.proofs.Common.{◌<◌, length, arith, refl, rules, subst}
use Rattle.std.proofs.lemmas.Option.{slice_get_read}
use Rattle.std.proofs.lemmas.List.{length-map}
use Rattle.vk_code.specs.Listing.{listing_of}
use Rattle.vk_object.specs.Tables.{entry_list_of}
use Rattle.vk_runs.proofs.Reached.{lanes_few}
use Rattle.vk_steps.specs.Places.{tables}
use Rattle.vk_calls.proofs.Callees.{code_there, does_enter, instrs_short, mapped, within_some}
use Rattle.vk_calls.proofs.found.callee.Goals as goal

pub index-requires : goal.index-requires
index-requires c =
    let p = c.args.place.now in
    let rows = p.image.now.entries.items in
    let inside : c.args.number < length rows = subst (λ k. c.args.number < k) (length-map rows entry_list_of) c.requires.called.there in
    let got = slice_get_read rows (length rows) c.args.number c.index-entry.result.now refl inside (search rules) in
    let below : c.index-entry.result.now.code < length p.image.now.codes.items = subst (λ k. c.index-entry.result.now.code < k) (length-map p.image.now.codes.items listing_of) (code_there (tables p) c.requires.sound.valid c.args.number (entry_list_of c.index-entry.result.now) (mapped entry_list_of rows c.args.number c.index-entry.result.now got)) in
    search rules

pub returns-clause-callee : goal.returns-clause-callee
returns-clause-callee c =
    let p = c.args.place.now in
    let rows = p.image.now.entries.items in
    let codes = p.image.now.codes.items in
    let row = c.index-entry.result.now in
    let inside : c.args.number < length rows = subst (λ k. c.args.number < k) (length-map rows entry_list_of) c.requires.called.there in
    let got = mapped entry_list_of rows c.args.number row (slice_get_read rows (length rows) c.args.number row refl inside (search rules)) in
    let below : row.code < length codes = subst (λ k. row.code < k) (length-map codes listing_of) (code_there (tables p) c.requires.sound.valid c.args.number (entry_list_of row) got) in
    let code = mapped listing_of codes row.code c.index.result.now (slice_get_read codes (length codes) row.code c.index.result.now refl below (search rules)) in
    let deep = within_some (tables p) p.depth c.args.number (entry_list_of row) c.requires.called.within got in
    record {
      sound = record {
        valid = c.requires.sound.valid;
        placed = got;
        coded = code;
        within = deep.1;
        few = lanes_few (tables p) c.requires.sound.valid c.args.number (entry_list_of row) got;
        short = instrs_short (tables p) c.requires.sound.valid row.code (listing_of c.index.result.now) code;
      };
      image = refl;
      turns = refl;
      deeper = omega (arith, deep.0);
      does = does_enter (tables p) p.turns p.depth c.args.number (entry_list_of row) (listing_of c.index.result.now) deep.0 got code;
    }
