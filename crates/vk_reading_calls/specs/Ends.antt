-- What functions give.
use Rattle.vk_kinds.specs.declared.heads.CType.{CType}
use Rattle.vk_meaning.specs.Data.{Datum}
use Rattle.vk_meaning.specs.Meaning.{fallen}
use Rattle.vk_reading.specs.Held.{datum_of}
use Rattle.vk_reading_statements.specs.declared.flow.Flow.{Flow}
use Rattle.vk_reading_statements.specs.declared.flow.Flow.TheVariants.{Fell, Broke, Continued, Returned}

-- what a function of this result gives whose body ended so
abbrev pub given_by : CType → Flow → Datum
given_by t Fell = fallen t
given_by t Broke = fallen t
given_by t Continued = fallen t
given_by t (Returned h) = datum_of h
