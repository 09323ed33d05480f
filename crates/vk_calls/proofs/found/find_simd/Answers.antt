use Rattle.std.proofs.Common.{◌<◌, length, arith, refl, rules}
use Rattle.std.proofs.lemmas.Option.{slice_get_read}
use Rattle.std.proofs.lemmas.List.{length-map}
use Rattle.vk_code.specs.Listing.{simd_site_of}
use Rattle.vk_object.specs.Images.{is_within}
use Rattle.vk_steps.specs.Places.{entry, listing, tables}
use Rattle.vk_calls.proofs.Callees.{loop_at, loops_linked, loops_within, mapped, pairs_length, within_there}
use Rattle.vk_calls.proofs.found.find_simd.Goals as goal

pub index-targets-requires : goal.index-targets-requires
index-targets-requires c =
    let p = c.args.place.now in
    let sites = (Rattle.vk_code.specs.declared.code.Code.out-Code p.code.now).loops.items in
    let same = pairs_length _ (listing p).loops (entry p).loops (loops_linked (tables p) c.requires.sound.valid p.number (entry p) (listing p) c.requires.sound.placed c.requires.sound.coded) in
    let many = length-map sites simd_site_of in
    let inside : c.args.number < length (entry p).loops = omega (arith, same, many, c.requires.number) in
    search rules

pub callee-requires-clause-called : goal.callee-requires-clause-called
callee-requires-clause-called c =
    let p = c.args.place.now in
    let sites = (Rattle.vk_code.specs.declared.code.Code.out-Code p.code.now).loops.items in
    let same = pairs_length _ (listing p).loops (entry p).loops (loops_linked (tables p) c.requires.sound.valid p.number (entry p) (listing p) c.requires.sound.placed c.requires.sound.coded) in
    let many = length-map sites simd_site_of in
    let inside : c.args.number < length (entry p).loops = omega (arith, same, many, c.requires.number) in
    let got = slice_get_read (entry p).loops (length (entry p).loops) c.args.number c.index-targets.result.now refl inside (search rules) in
    let within = loops_within (is_within (tables p) p.depth) (entry p) c.args.number c.index-targets.result.now c.requires.sound.within got in
    record { there = within_there (tables p) p.depth c.index-targets.result.now.chunk within.0; within = within.0 }

pub callee-requires-2-clause-called : goal.callee-requires-2-clause-called
callee-requires-2-clause-called c =
    let p = c.args.place.now in
    let sites = (Rattle.vk_code.specs.declared.code.Code.out-Code p.code.now).loops.items in
    let same = pairs_length _ (listing p).loops (entry p).loops (loops_linked (tables p) c.requires.sound.valid p.number (entry p) (listing p) c.requires.sound.placed c.requires.sound.coded) in
    let many = length-map sites simd_site_of in
    let inside : c.args.number < length (entry p).loops = omega (arith, same, many, c.requires.number) in
    let got = slice_get_read (entry p).loops (length (entry p).loops) c.args.number c.index-targets.result.now refl inside (search rules) in
    let within = loops_within (is_within (tables p) p.depth) (entry p) c.args.number c.index-targets.result.now c.requires.sound.within got in
    record { there = within_there (tables p) p.depth c.index-targets.result.now.rest within.1; within = within.1 }

pub returns : goal.returns
returns c =
    let p = c.args.place.now in
    let sites = (Rattle.vk_code.specs.declared.code.Code.out-Code p.code.now).loops.items in
    let same = pairs_length _ (listing p).loops (entry p).loops (loops_linked (tables p) c.requires.sound.valid p.number (entry p) (listing p) c.requires.sound.placed c.requires.sound.coded) in
    let many = length-map sites simd_site_of in
    let inside : c.args.number < length (entry p).loops = omega (arith, same, many, c.requires.number) in
    let got = slice_get_read (entry p).loops (length (entry p).loops) c.args.number c.index-targets.result.now refl inside (search rules) in
    let within = loops_within (is_within (tables p) p.depth) (entry p) c.args.number c.index-targets.result.now c.requires.sound.within got in
    let site = mapped simd_site_of sites c.args.number c.index-site.result.now (slice_get_read sites (length sites) c.args.number c.index-site.result.now refl c.requires.number (search rules)) in
    let all = loop_at p c.callee.result c.callee-2.result c.args.number (simd_site_of c.index-site.result.now) c.index-targets.result.now c.requires.sound c.callee.ensures.callee c.callee-2.ensures.callee c.callee.ensures.number c.callee-2.ensures.number site got in
    record {
      simd = all.simd;
      same = refl;
      chunk = record { callee = c.callee.ensures.callee; types = all.chunk };
      rest = record { callee = c.callee-2.ensures.callee; types = all.rest };
      many = all.many;
      one = all.one;
    }
