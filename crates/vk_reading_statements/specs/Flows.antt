-- How statements end, as the code tells it.
use Rattle.std.specs.Prelude.{Bool, true, false, Result, Ok, Err}
use Rattle.vk_types.specs.declared.types.Stop.{Stop}
use Rattle.vk_meaning.specs.World.{World}
use Rattle.vk_meaning.specs.Expressions.{Variables}
use Rattle.vk_meaning.specs.Statements.{Effect, Outcome, fell, broke, continued, returned, stopped}
use Rattle.vk_reading.specs.Held.{datum_of, IsHeld}
use Rattle.vk_reading_statements.specs.declared.flow.Flow.{Flow}
use Rattle.vk_reading_statements.specs.declared.flow.Flow.TheVariants.{Fell, Broke, Continued, Returned}

-- the end in the meaning, with these variables and in this world
abbrev pub outcome_in : Result Flow Stop → Variables → World → Outcome
outcome_in (Ok Fell) vs w = fell (record { variables = vs; world = w })
outcome_in (Ok Broke) vs w = broke (record { variables = vs; world = w })
outcome_in (Ok Continued) vs w = continued (record { variables = vs; world = w })
outcome_in (Ok (Returned h)) vs w = returned (datum_of h) w
outcome_in (Err stop) vs w = stopped stop w

-- the next statement comes only where the one before it did not jump
abbrev pub is_jump : Flow → Bool
is_jump Fell = false
is_jump Broke = true
is_jump Continued = true
is_jump (Returned h) = true

-- what stands behind a loop's body in a turn comes after `continue` too
abbrev pub leaves_loop : Flow → Bool
leaves_loop Fell = false
leaves_loop Broke = true
leaves_loop Continued = false
leaves_loop (Returned h) = true

-- how a loop ends that its body left
abbrev pub left_by : Flow → Flow
left_by Fell = Fell
left_by Broke = Fell
left_by Continued = Fell
left_by (Returned h) = Returned h

-- what is left to be done behind a statement that ended so: the next one, or the jump goes on
abbrev pub behind_it : Flow → (next : Effect) → Effect
behind_it Fell next = next
behind_it Broke next = broke
behind_it Continued next = continued
behind_it (Returned h) next = λ s. returned (datum_of h) s.world

-- the same behind the body of a loop: the next turn
abbrev pub behind_turn : Flow → (next : Effect) → Effect
behind_turn Fell next = next
behind_turn Broke next = fell
behind_turn Continued next = next
behind_turn (Returned h) next = λ s. returned (datum_of h) s.world

-- the same behind the body of a `for`: its third part
abbrev pub behind_body : Flow → (third : Effect) → Effect
behind_body Fell third = third
behind_body Broke third = broke
behind_body Continued third = third
behind_body (Returned h) third = λ s. returned (datum_of h) s.world

-- a value that is given back has a word of its type
abbrev pub IsSound : Flow → Type 0
IsSound Fell = Unit {0}
IsSound Broke = Unit {0}
IsSound Continued = Unit {0}
IsSound (Returned h) = IsHeld h
