-- The requests of the code as what is asked.
use Rattle.std.specs.Prelude.{map}
use Rattle.vk_words_units.specs.declared.clone.CloneRequest.{CloneRequest}
use Rattle.vk_words_units.specs.declared.generator.GenRequest.{GenRequest}
use Rattle.vk_words_units.specs.declared.units.UnitsRequest.{UnitsRequest}
use Rattle.vk_words_units.specs.Asked.{CloneAsked, GenAsked, UnitsAsked}

abbrev pub clone_asked : CloneRequest → CloneAsked
clone_asked r = record { target = r.target; object = r.object.now; unit = r.unit.now }

abbrev pub units_asked : UnitsRequest → UnitsAsked
units_asked r = record { isa = r.isa; vl = r.vl; turns = r.turns; units = map (λ s. s.now) r.units.items }

abbrev pub gen_asked : GenRequest → GenAsked
gen_asked r = record { isa = r.isa; vl = r.vl; functions = r.functions }
