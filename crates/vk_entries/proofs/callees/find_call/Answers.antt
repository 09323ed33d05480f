use Rattle.std.proofs.Common.{refl}
use Rattle.vk_code.specs.Listing.{call_site_of}
use Rattle.vk_object.specs.Machine.{Target}
use Rattle.vk_steps.specs.Places.{entry}
use Rattle.vk_entries.proofs.Results.{result_inside}
use Rattle.vk_entries.proofs.Targets.{slot_lanes, slot_register, slot_room, target_parts}
use Rattle.vk_entries.proofs.callees.find_call.Goals as goal

pub returns : goal.returns
returns c =
    let p = c.args.place.now in
    let q = c.find.result.place in
    let h = c.find.ensures in
    let target : Target = record { slot = call_site_of c.find.result.slot.now; number = q.number; entry = entry q } in
    let parts = target_parts p c.args.slot target h.target in
    record {
      is = h;
      callable = record { sound = h.callee.sound; types = h.types };
      room = slot_room p q c.args.slot q.number h.callee refl parts.target;
      lanes = slot_lanes p q c.args.slot q.number target.slot c.requires.sound h.callee refl parts.slot parts.target;
      register = slot_register p c.requires.sound c.args.slot target.slot parts.slot;
      result_register = result_inside q h.callee.sound;
    }
