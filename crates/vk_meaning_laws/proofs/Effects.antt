-- What statements are made of ends alike in two related worlds.
use Rattle.std.proofs.Common.{ℕ, zero, suc, Bool, true, false, cond}
use Rattle.vk_types.specs.declared.types.Stop.{Stop}
use Rattle.vk_kinds.specs.declared.heads.CType.{CType}
use Rattle.vk_types.specs.declared.types.Stop.TheVariants.{Turns}
use Rattle.vk_numbers.specs.Operators.{is_on}
use Rattle.vk_meaning.specs.World.{World}
use Rattle.vk_meaning.specs.Data.{Datum, number_in, as_type, Value}
use Rattle.vk_meaning.specs.Points.{Variable}
use Rattle.vk_meaning.specs.Expressions.{Variables, with_datum}
use Rattle.vk_meaning.specs.Statements.{State, Outcome, fell, broke, continued, returned, stopped, Effect, Evaluation, on_value, with_evaluated, on_fell, then_do, on_turn, uncontinued, branch, turns, repeat, with_third, looped, with_variable, assign_variable, evaluate}
use Rattle.vk_meaning_terms.specs.Ranges.{IsNumberOf}
use Rattle.vk_meaning_laws.proofs.Sights.{Sight, AlikeValues, both_got, both_halt, Keeps, IsReadable}

-- what is known of what a function of this result gives: it may be read, and a number is one of the type
pub record IsReturned (v : Sight) (t : CType) (d : Datum) : Type 0 where
  pub readable : IsReadable v d
  pub ranged : IsNumberOf t d

-- the same ending in both runs, with the same variables, of which F holds
pub data AlikeOutcomes (v : Sight) (F : Variables → Type 0) (t : CType) : Outcome → Outcome → Type 0 where
  both_fell : (vs : Variables) (w w' : World) → F vs → v.Alike w w' → AlikeOutcomes v F t (fell (record { variables = vs; world = w })) (fell (record { variables = vs; world = w' }))
  both_broke : (vs : Variables) (w w' : World) → F vs → v.Alike w w' → AlikeOutcomes v F t (broke (record { variables = vs; world = w })) (broke (record { variables = vs; world = w' }))
  both_continued : (vs : Variables) (w w' : World) → F vs → v.Alike w w' → AlikeOutcomes v F t (continued (record { variables = vs; world = w })) (continued (record { variables = vs; world = w' }))
  both_returned : (d : Datum) (w w' : World) → IsReturned v t d → v.Alike w w' → AlikeOutcomes v F t (returned d w) (returned d w')
  both_stopped : (x : Stop) (w w' : World) → v.Alike w w' → AlikeOutcomes v F t (stopped x w) (stopped x w')

abbrev pub state_of : Variables → World → State
state_of vs w = record { variables = vs; world = w }

-- from the same variables, of which F holds, and related worlds it ends alike
pub record Goes (v : Sight) (F : Variables → Type 0) (t : CType) (effect : Effect) : Type 0 where
  pub from : (vs : Variables) (w w' : World) → F vs → v.Alike w w' → AlikeOutcomes v F t (effect (state_of vs w)) (effect (state_of vs w'))

-- an evaluation ends alike, with any variables of which F holds
abbrev pub Evaluates : Sight → (Variables → Type 0) → Evaluation → Type 0
Evaluates v F e = (vs : Variables) → F vs → Keeps v (IsReadable v) (e vs)

module _ {v : Sight} {F : Variables → Type 0} {t : CType} where
  pub on_alike : (x x' : Value) (next : Datum → World → Outcome) → AlikeValues v (IsReadable v) x x' →
      ((d : Datum) → IsReadable v d → (w w' : World) → v.Alike w w' → AlikeOutcomes v F t (next d w) (next d w')) → AlikeOutcomes v F t (on_value x next) (on_value x' next)
  on_alike x x' next (both_got d w w' q h) k = k d q w w' h
  on_alike x x' next (both_halt s w w' h) k = both_stopped s w w' h

  pub goes_fell : Goes v F t fell
  goes_fell = record { from = λ vs w w' f r. both_fell vs w w' f r }

  pub goes_broke : Goes v F t broke
  goes_broke = record { from = λ vs w w' f r. both_broke vs w w' f r }

  pub goes_continued : Goes v F t continued
  goes_continued = record { from = λ vs w w' f r. both_continued vs w w' f r }

  pub goes_evaluated : {next : Datum → Effect} (e : Evaluation) → Evaluates v F e → ((d : Datum) → IsReadable v d → Goes v F t (next d)) → Goes v F t (with_evaluated e next)
  goes_evaluated e h k = record { from = λ vs w w' f r. on_alike _ _ _ ((h vs f).from w w' r) (λ d q u u' s. (k d q).from vs u u' f s) }

  then_alike : (b : Effect) (o o' : Outcome) → Goes v F t b → AlikeOutcomes v F t o o' → AlikeOutcomes v F t (on_fell o b) (on_fell o' b)
  then_alike b o o' k (both_fell us u u' q s) = k.from us u u' q s
  then_alike b o o' k (both_broke us u u' q s) = both_broke us u u' q s
  then_alike b o o' k (both_continued us u u' q s) = both_continued us u u' q s
  then_alike b o o' k (both_returned d u u' q s) = both_returned d u u' q s
  then_alike b o o' k (both_stopped x u u' s) = both_stopped x u u' s

  pub goes_then : {a b : Effect} → Goes v F t a → Goes v F t b → Goes v F t (then_do a b)
  goes_then {b = b} h k = record { from = λ vs w w' f r. then_alike b _ _ k (h.from vs w w' f r) }

  goes_cond : {x y : Effect} (b : Bool) → Goes v F t x → Goes v F t y → Goes v F t (cond b x y)
  goes_cond true h k = h
  goes_cond false h k = k

  pub goes_branch : {x y : Effect} (test : Evaluation) → Evaluates v F test → Goes v F t x → Goes v F t y → Goes v F t (branch test x y)
  goes_branch test e h k = goes_evaluated test e (λ d q. goes_cond (is_on (number_in d)) h k)

  turn_alike : (next : Effect) (o o' : Outcome) → Goes v F t next → AlikeOutcomes v F t o o' → AlikeOutcomes v F t (on_turn o next) (on_turn o' next)
  turn_alike next o o' k (both_fell us u u' q s) = k.from us u u' q s
  turn_alike next o o' k (both_broke us u u' q s) = both_fell us u u' q s
  turn_alike next o o' k (both_continued us u u' q s) = k.from us u u' q s
  turn_alike next o o' k (both_returned d u u' q s) = both_returned d u u' q s
  turn_alike next o o' k (both_stopped x u u' s) = both_stopped x u u' s

  pub goes_turns : (n : ℕ) (test : Evaluation) (body : Effect) → Evaluates v F test → Goes v F t body → Goes v F t (turns n test body)
  goes_turns zero test body e h = record { from = λ vs w w' f r. both_stopped Turns w w' r }
  goes_turns (suc n) test body e h = record { from = λ vs w w' f r. turn_alike (branch test (turns n test body) fell) _ _ (goes_branch test e (goes_turns n test body e h) goes_fell) (h.from vs w w' f r) }

  pub goes_repeat : (n : ℕ) (test : Evaluation) (body : Effect) → Evaluates v F test → Goes v F t body → Goes v F t (repeat n test body)
  goes_repeat n test body e h = goes_branch test e (goes_turns n test body e h) goes_fell

  uncontinued_alike : (o o' : Outcome) → AlikeOutcomes v F t o o' → AlikeOutcomes v F t (uncontinued o) (uncontinued o')
  uncontinued_alike o o' (both_fell us u u' q s) = both_fell us u u' q s
  uncontinued_alike o o' (both_broke us u u' q s) = both_broke us u u' q s
  uncontinued_alike o o' (both_continued us u u' q s) = both_fell us u u' q s
  uncontinued_alike o o' (both_returned d u u' q s) = both_returned d u u' q s
  uncontinued_alike o o' (both_stopped x u u' s) = both_stopped x u u' s

  goes_third : (body third : Effect) → Goes v F t body → Goes v F t third → Goes v F t (with_third body third)
  goes_third body third h k = record { from = λ vs w w' f r. then_alike third _ _ k (uncontinued_alike _ _ (h.from vs w w' f r)) }

  pub goes_looped : (n : ℕ) (first : Effect) (test : Evaluation) (third body : Effect) → Goes v F t first → Evaluates v F test → Goes v F t third → Goes v F t body → Goes v F t (looped n first test third body)
  goes_looped n first test third body a e b h = goes_then a (goes_repeat n test (with_third body third) e (goes_third body third h b))

  pub goes_evaluate : (e : Evaluation) → Evaluates v F e → Goes v F t (evaluate e)
  goes_evaluate e h = goes_evaluated e h (λ d q. goes_fell)

  pub goes_assign : (x : Variable) (e : Evaluation) → ((vs : Variables) → F vs → (d : Datum) → IsReadable v d → F (with_datum vs x.number (as_type x.ctype d))) → Evaluates v F e → Goes v F t (assign_variable x e)
  goes_assign x e keep h = goes_evaluated {next = λ d s. fell (with_variable s x.number (as_type x.ctype d))} e h (λ d q. record { from = λ vs w w' f r. both_fell (with_datum vs x.number (as_type x.ctype d)) w w' (keep vs f d q) r })
