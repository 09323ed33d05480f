use Rattle.std.proofs.Common.{inl, inr, refl, subst, sym, ◌≡◌, true}
use Rattle.vk_code.specs.Listing.{simd_site_of}
use Rattle.vk_code.specs.Valid.{is_good_loop}
use Rattle.vk_code.specs.declared.code.LoopSite.{LoopSite}
use Rattle.vk_object.specs.Images.{names_of}
use Rattle.vk_object.specs.Machine.{Simd}
use Rattle.vk_steps.specs.Places.{entry, listing, tables}
use Rattle.vk_entries.proofs.Targets.{loop_good, loop_room, simd_parts}
use Rattle.vk_entries.proofs.callees.find_loop.Goals as goal

pub returns : goal.returns
returns c =
    let p = c.args.place.now in
    let f = c.find_simd.result in
    let h = c.find_simd.ensures in
    let simd : Simd = record { site = simd_site_of f.chunk.site.now; chunk = f.chunk.place.number; rest = f.rest.place.number; lanes = (entry f.chunk.place).lanes } in
    let parts = simd_parts p c.args.number simd h.simd in
    let good = loop_good p c.requires.sound c.args.number simd.site parts.site_is in
    record {
      is = h;
      chunk = record {
        callee = h.chunk.callee;
        loop = record { sound = h.chunk.callee.sound; types = h.chunk.types; good = good };
        room = loop_room p f.chunk.place c.args.number f.chunk.place.number parts.targets h.chunk.callee refl parts.targets_are (inl parts.chunk);
      };
      rest = record {
        callee = h.rest.callee;
        loop = record { sound = h.rest.callee.sound; types = h.rest.types; good = subst (λ (l : LoopSite). is_good_loop (names_of (tables p)) (listing p).routine (simd_site_of l) ≡ true) (sym h.same) good };
        room = loop_room p f.rest.place c.args.number f.rest.place.number parts.targets h.rest.callee refl parts.targets_are (inr parts.rest);
      };
    }
