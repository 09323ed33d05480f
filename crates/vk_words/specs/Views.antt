-- The requests of the code as what is asked.
use Rattle.std.specs.Prelude.{map, option_map}
use Rattle.vk_words.specs.declared.call.CallRequest.{CallRequest}
use Rattle.vk_words.specs.declared.run.RunRequest.{RunRequest}
use Rattle.vk_words.specs.declared.link.LinkRequest.{LinkRequest}
use Rattle.vk_words.specs.declared.mangle.MangleRequest.{MangleRequest}
use Rattle.vk_words.specs.Asked.{CallAsked, LinkAsked, MangleAsked, RunAsked}

abbrev pub call_asked : CallRequest → CallAsked
call_asked r = record {
  image = r.image.now;
  name = r.name.now;
  arguments = map (λ s. s.now) r.arguments.items;
  mask = option_map (λ s. s.now) r.mask;
  turns = r.turns;
}

abbrev pub run_asked : RunRequest → RunAsked
run_asked r = record { image = r.image.now; turns = r.turns; has_stats = r.has_stats }

abbrev pub link_asked : LinkRequest → LinkAsked
link_asked r = record { isa = r.isa; vl = r.vl; image = r.image.now; objects = map (λ s. s.now) r.objects.items }

abbrev pub mangle_asked : MangleRequest → MangleAsked
mangle_asked r = record { target = r.target; unit = r.unit.now }
