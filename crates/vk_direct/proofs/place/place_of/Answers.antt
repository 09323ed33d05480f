use Rattle.std.proofs.Common.{◌<◌, length, refl, rules, subst, sym}
use Rattle.std.proofs.lemmas.Option.{slice_get_read}
use Rattle.std.proofs.lemmas.List.{length-map}
use Rattle.vk_code.specs.Listing.{listing_of}
use Rattle.vk_object.specs.Tables.{entry_list_of}
use Rattle.vk_runs.proofs.Reached.{lanes_few}
use Rattle.vk_steps.specs.Places.{image_tables}
use Rattle.vk_calls.proofs.Callees.{code_there, does_enter, instrs_short, mapped, within_some}
use Rattle.vk_direct.proofs.Outermost.{chain_is, chain_short}
use Rattle.vk_direct.proofs.place.place_of.Goals as goal

pub index-requires : goal.index-requires
index-requires c =
    let image = c.args.image.now in
    let rows = image.entries.items in
    let row = c.index-entry.result.now in
    let got = mapped entry_list_of rows c.args.number row (slice_get_read rows (length rows) c.args.number row refl c.requires (search rules)) in
    let below : row.code < length image.codes.items = subst (λ k. row.code < k) (length-map image.codes.items listing_of) (code_there (image_tables image) image.valid c.args.number (entry_list_of row) got) in
    search rules

pub returns-clause-outermost : goal.returns-clause-outermost
returns-clause-outermost c =
    let image = c.args.image.now in
    let rows = image.entries.items in
    let codes = image.codes.items in
    let row = c.index-entry.result.now in
    let code = c.index.result.now in
    let got = mapped entry_list_of rows c.args.number row (slice_get_read rows (length rows) c.args.number row refl c.requires (search rules)) in
    let below : row.code < length codes = subst (λ k. row.code < k) (length-map codes listing_of) (code_there (image_tables image) image.valid c.args.number (entry_list_of row) got) in
    let coded = mapped listing_of codes row.code code (slice_get_read codes (length codes) row.code code refl below (search rules)) in
    let there = subst (λ k. c.args.number < k) (sym (length-map rows entry_list_of)) c.requires in
    let deep = within_some (image_tables image) 64 c.args.number (entry_list_of row) (chain_short (image_tables image) image.valid c.args.number there) got in
    record {
      sound = record {
        valid = image.valid;
        placed = got;
        coded = coded;
        within = deep.1;
        few = lanes_few (image_tables image) image.valid c.args.number (entry_list_of row) got;
        short = instrs_short (image_tables image) image.valid row.code (listing_of code) coded;
      };
      does = does_enter (image_tables image) c.args.turns 64 c.args.number (entry_list_of row) (listing_of code) deep.0 got coded;
      cells = chain_is (image_tables image) c.args.number (entry_list_of row) (listing_of code) got coded;
    }
