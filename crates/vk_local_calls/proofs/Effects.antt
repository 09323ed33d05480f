-- What statements are made of has no events, and returns what is fit for the result.
use Rattle.std.proofs.Common.{◌≡◌, ℕ, zero, suc, Bool, true, false, cond, List, pos, refl, sym, ap, subst, arith}
use Rattle.vk_types.specs.Numbers.{wrap_number, word_of}
use Rattle.vk_kinds.specs.declared.heads.CType.{CType}
use Rattle.vk_kinds.specs.declared.heads.CType.TheVariants.{Void, Int, Ptr}
use Rattle.vk_numbers.specs.Operators.{is_on}
use Rattle.vk_numbers.proofs.Numbers.{number_of-word, canonical_word, wrap_in_range}
use Rattle.vk_meaning_terms.proofs.Zero.{zero_in_range}
use Rattle.vk_meaning.specs.World.{Event, World}
use Rattle.vk_meaning.specs.Data.{Datum, number, nothing, number_in, as_type, Value, got, halts}
use Rattle.vk_meaning.specs.Lanes.{IsWord, datum_of}
use Rattle.vk_meaning.specs.Meaning.{ended, fallen}
use Rattle.vk_meaning.specs.Points.{Variable}
use Rattle.vk_meaning.specs.Statements.{State, Outcome, fell, broke, continued, returned, stopped, Effect, Evaluation, at_world, on_value, with_evaluated, on_fell, then_do, on_turn, uncontinued, branch, turns, repeat, with_third, looped, assign_variable, evaluate, with_variable}
use Rattle.vk_meaning.specs.Types.{is_pointer_type}
use Rattle.vk_lane.specs.Runs.{events_of}
use Rattle.vk_lane_calls.specs.Callable.{IsOfType}
use Rattle.vk_local_calls.proofs.Silence.{Hushes}

-- a word of the type stands for it
abbrev pub IsFit : CType → Datum → Type 0
IsFit t d = (word : ℕ) × (d ≡ datum_of t word) × IsWord t word

fit_void : IsFit Void nothing
fit_void = (0, refl, omega arith)

pub fit_nothing : (t : CType) → t ≡ Void → IsFit t nothing
fit_nothing t e = subst (λ (u : CType). IsFit u nothing) (sym e) fit_void

pub fit_as : (t : CType) → is_pointer_type t ≡ false → (d : Datum) → IsFit t (as_type t d)
fit_as Void e d = fit_void
fit_as (Int t) e d =
    let ranged = wrap_in_range t (number_in d) in
    (word_of (wrap_number t (number_in d)), ap number (sym (number_of-word t (wrap_number t (number_in d)) ranged)), canonical_word t (wrap_number t (number_in d)) ranged)
fit_as (Ptr to written) e d = cc

pub fit_fallen : (t : CType) → is_pointer_type t ≡ false → IsFit t (fallen t)
fit_fallen Void e = fit_void
fit_fallen (Int t) e = (word_of (pos 0), ap number (sym (number_of-word t (pos 0) (zero_in_range t))), canonical_word t (pos 0) (zero_in_range t))
fit_fallen (Ptr to written) e = cc

-- an ending with these events, and where it returns, with what is fit
abbrev pub IsQuietEnd : CType → List Event → Outcome → Type 0
IsQuietEnd t es (fell s) = s.world.events ≡ es
IsQuietEnd t es (broke s) = s.world.events ≡ es
IsQuietEnd t es (continued s) = s.world.events ≡ es
IsQuietEnd t es (returned d w) = (w.events ≡ es) × IsFit t d
IsQuietEnd t es (stopped x w) = w.events ≡ es

-- an effect without events
pub record Stays (t : CType) (effect : Effect) : Type 0 where
  pub from : (s : State) → IsQuietEnd t s.world.events (effect s)

-- an evaluation without events, whatever the variables have
abbrev pub HushesAll : Evaluation → Type 0
HushesAll e = (vs : ℕ → Datum) → Hushes (e vs)

pub on_hush : (t : CType) (es : List Event) (x : Value) (next : Datum → World → Outcome) → events_of x ≡ es → ((d : Datum) (w : World) → w.events ≡ es → IsQuietEnd t es (next d w)) → IsQuietEnd t es (on_value x next)
on_hush t es (got d w) next e k = k d w e
on_hush t es (halts z w) next e k = e

uncontinued_quiet : (t : CType) (es : List Event) (o : Outcome) → IsQuietEnd t es o → IsQuietEnd t es (uncontinued o)
uncontinued_quiet t es (fell s) q = q
uncontinued_quiet t es (broke s) q = q
uncontinued_quiet t es (continued s) q = q
uncontinued_quiet t es (returned d w) q = q
uncontinued_quiet t es (stopped x w) q = q

module _ {t : CType} where
  pub stay_fell : Stays t fell
  stay_fell = record { from = λ s. refl }

  pub stay_broke : Stays t broke
  stay_broke = record { from = λ s. refl }

  pub stay_continued : Stays t continued
  stay_continued = record { from = λ s. refl }

  later : (es : List Event) (effect : Effect) (s : State) → Stays t effect → s.world.events ≡ es → IsQuietEnd t es (effect s)
  later es effect s k e = subst (λ (fs : List Event). IsQuietEnd t fs (effect s)) e (k.from s)

  pub stay_evaluated : {next : Datum → Effect} (e : Evaluation) → HushesAll e → ((d : Datum) → Stays t (next d)) → Stays t (with_evaluated e next)
  stay_evaluated {next = next} e h k = record {
    from = λ s. on_hush t s.world.events (e s.variables s.world) (λ d w. next d (at_world s w)) ((h s.variables).silent s.world) (λ d w q. later s.world.events (next d) (at_world s w) (k d) q);
  }

  then_quiet : (es : List Event) (b : Effect) (o : Outcome) → Stays t b → IsQuietEnd t es o → IsQuietEnd t es (on_fell o b)
  then_quiet es b (fell s) k q = later es b s k q
  then_quiet es b (broke s) k q = q
  then_quiet es b (continued s) k q = q
  then_quiet es b (returned d w) k q = q
  then_quiet es b (stopped x w) k q = q

  pub stay_then : {a b : Effect} → Stays t a → Stays t b → Stays t (then_do a b)
  stay_then {a = a} {b = b} h k = record { from = λ s. then_quiet s.world.events b (a s) k (h.from s) }

  stay_cond : {x y : Effect} (b : Bool) → Stays t x → Stays t y → Stays t (cond b x y)
  stay_cond true h k = h
  stay_cond false h k = k

  pub stay_branch : {x y : Effect} (test : Evaluation) → HushesAll test → Stays t x → Stays t y → Stays t (branch test x y)
  stay_branch test e h k = stay_evaluated test e (λ d. stay_cond (is_on (number_in d)) h k)

  turn_quiet : (es : List Event) (next : Effect) (o : Outcome) → Stays t next → IsQuietEnd t es o → IsQuietEnd t es (on_turn o next)
  turn_quiet es next (fell s) k q = later es next s k q
  turn_quiet es next (broke s) k q = q
  turn_quiet es next (continued s) k q = later es next s k q
  turn_quiet es next (returned d w) k q = q
  turn_quiet es next (stopped x w) k q = q

  pub stay_turns : (n : ℕ) (test : Evaluation) (body : Effect) → HushesAll test → Stays t body → Stays t (turns n test body)
  stay_turns zero test body e h = record { from = λ s. refl }
  stay_turns (suc n) test body e h = record {
    from = λ s. turn_quiet s.world.events (branch test (turns n test body) fell) (body s) (stay_branch test e (stay_turns n test body e h) stay_fell) (h.from s);
  }

  pub stay_repeat : (n : ℕ) (test : Evaluation) (body : Effect) → HushesAll test → Stays t body → Stays t (repeat n test body)
  stay_repeat n test body e h = stay_branch test e (stay_turns n test body e h) stay_fell

  stay_third : (body third : Effect) → Stays t body → Stays t third → Stays t (with_third body third)
  stay_third body third h k = record { from = λ s. then_quiet s.world.events third (uncontinued (body s)) k (uncontinued_quiet t s.world.events (body s) (h.from s)) }

  pub stay_looped : (n : ℕ) (first : Effect) (test : Evaluation) (third body : Effect) → Stays t first → HushesAll test → Stays t third → Stays t body → Stays t (looped n first test third body)
  stay_looped n first test third body a e b h = stay_then a (stay_repeat n test (with_third body third) e (stay_third body third h b))

  pub stay_evaluate : (e : Evaluation) → HushesAll e → Stays t (evaluate e)
  stay_evaluate e h = stay_evaluated e h (λ d. stay_fell)

  pub stay_assign : (x : Variable) (e : Evaluation) → HushesAll e → Stays t (assign_variable x e)
  stay_assign x e h = stay_evaluated {next = λ d s. fell (with_variable s x.number (as_type x.ctype d))} e h (λ d. record { from = λ s. refl })

-- ---- a body's ending is the call's

pub ended_events : (t : CType) (es : List Event) (o : Outcome) → IsQuietEnd t es o → events_of (ended t o) ≡ es
ended_events t es (fell s) q = q
ended_events t es (broke s) q = q
ended_events t es (continued s) q = q
ended_events t es (returned d w) q = q.0
ended_events t es (stopped x w) q = q

pub ended_typed : (t : CType) (es : List Event) (o : Outcome) → is_pointer_type t ≡ false → IsQuietEnd t es o → IsOfType t (ended t o)
ended_typed t es (fell s) p q = fit_fallen t p
ended_typed t es (broke s) p q = fit_fallen t p
ended_typed t es (continued s) p q = fit_fallen t p
ended_typed t es (returned d w) p q = q.1
ended_typed t es (stopped x w) p q = tt
