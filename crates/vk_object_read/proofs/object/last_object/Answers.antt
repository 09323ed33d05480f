use Rattle.std.proofs.Common.{ap, sym}
use Rattle.std.specs.Option.{option_map}
use Rattle.vk_object_format.specs.declared.rows.RawData.{RawData}
use Rattle.vk_object_read.proofs.Last.{last_is}
use Rattle.vk_object_read.proofs.object.last_object.Goals as goal

pub returns-in-len1-up : goal.returns-in-len1-up
returns-in-len1-up c =
    sym (ap (option_map (λ (d : RawData). d.symbol)) (last_is c.args.objects.now c.last-item.result c.in-len1-up.len_at_least c.last-item.is))
