-- Calls of tame functions are local.
use Rattle.std.proofs.Common.{◌≡◌, ℕ, ◌==◌, zero, suc, Bool, true, false, List, [], codes, Option, Some, None, refl, sym, ap, subst, ◌∙◌, arith}
use Rattle.std.proofs.lemmas.Slice.Eq.{bytes_eq-Decides}
use Rattle.vk_kinds.specs.declared.heads.CType.{CType}
use Rattle.vk_rules_book.specs.Rules.{Subject}
use Rattle.vk_rules_book.specs.Scopes.{is_print, text_of, types_of}
use Rattle.vk_meaning.specs.World.{Array, Memory, World}
use Rattle.vk_meaning.specs.Data.{Datum, nothing, Value, got, halts}
use Rattle.vk_meaning.specs.Lanes.{NamesCell, Words, arguments_of}
use Rattle.vk_meaning.specs.Meaning.{Calls, call_by, call_within, called_where_defined, context_of, first_variables, means, memory_of}
use Rattle.vk_meaning.specs.Programs.{Definition, arrays_of, definition_of, first_point}
use Rattle.vk_meaning.specs.Statements.{run}
use Rattle.vk_meaning_laws.specs.Reach.{AgreeOn, CoversReach, EndAlikeOn, IsIn}
use Rattle.vk_meaning_laws.specs.Tame.{IsLaneFunction, IsTameProgram}
use Rattle.vk_lane_calls.specs.Callable.{IsLocalCall, IsOfType, Reaches, by_absent, by_array, by_const, by_name}
use Rattle.vk_lane_calls.specs.Callees.{SameEnding}
use Rattle.vk_local_calls.specs.Returns.{HaveRightReturns}
use Rattle.vk_local_calls.proofs.Silence.{Hushes, hush_given}
use Rattle.vk_local_calls.proofs.Expressions.{CallsHush}
use Rattle.vk_local_calls.proofs.Effects.{IsQuietEnd, ended_events, ended_typed}
use Rattle.vk_local_calls.proofs.Statements.{stay_run}

-- ---- what it reaches

same_number : (a b : ℕ) → (a == b) ≡ true → a ≡ b
same_number a b e = grind arith

equal_number : (a b : ℕ) → a ≡ b → (a == b) ≡ true
equal_number a b e = grind arith

-- the cells in which two memories agree
abbrev agreeing : Memory → Memory → (a i : ℕ) → Bool
agreeing m n a i = m a i == n a i

module _ (ts : List CType) (arrays : List Array) (words : Words) (j : ℕ) (m n : Memory) (agree : (a i : ℕ) → Reaches ts arrays words j a i → m a i ≡ n a i) where
  reached : (a i : ℕ) → Reaches ts arrays words j a i → agreeing m n a i ≡ true
  reached a i r = equal_number (m a i) (n a i) (agree a i r)

  pub covers : CoversReach arrays ts (arguments_of ts words j) (IsIn (agreeing m n))
  covers = record {
    own = λ a i k. reached a i (by_name k);
    reads = λ a i k. reached a i (by_array k);
    consts = λ a i k. reached a i (by_const k);
    absent = λ a i k. reached a i (by_absent k);
  }

  pub ends_same : (x y : Value) → EndAlikeOn (IsIn (agreeing m n)) x y → SameEnding (Reaches ts arrays words j) x y
  ends_same (got d w) (got e u) h = (h.0, λ a i r. h.1.memory a i (reached a i r))
  ends_same (halts z w) (halts q u) h = (h.0, λ a i r. h.1.memory a i (reached a i r))
  ends_same (got d w) (halts q u) h = absurd h
  ends_same (halts z w) (got e u) h = absurd h

agree_there : (m n : Memory) → AgreeOn (IsIn (agreeing m n)) m n
agree_there m n a i h = same_number (m a i) (n a i) h

-- what the laws of the meaning say of one function
pub record StaysWithin (units : List Subject) (turns : ℕ) (text : List ℕ) (d : Definition) : Type 0 where
  pub reads : (ds : List Datum) (cells : ℕ → ℕ → Bool) → CoversReach (arrays_of units) (types_of d.function.params) ds (IsIn cells) → (m n : Memory) → AgreeOn (IsIn cells) m n →
      EndAlikeOn (IsIn cells) (means units turns text ds m) (means units turns text ds n)
  pub writes : (ds : List Datum) (m : Memory) (a i : ℕ) → (NamesCell (types_of d.function.params) (arrays_of units) ds a i → ⊥) → memory_of (means units turns text ds m) a i ≡ m a i

-- ---- calls

module _ (units : List Subject) (lane : List ℕ → Bool) (turns : ℕ) (program : IsTameProgram units lane) (no_print : lane (codes "print") ≡ false) (right : HaveRightReturns units lane) where
  -- the built-in function is not called
  hush_by : (calls : Calls) → ((text : List ℕ) → lane text ≡ true → (ds : List Datum) → Hushes (calls text ds)) → (d : Definition) → CallsHush (context_of units turns calls d) (λ id. lane (text_of d.unit.texts id))
  hush_by calls k d id l ds = go (is_print d.unit.texts id) refl
    where
      go : (b : Bool) → is_print d.unit.texts id ≡ b → Hushes (call_by calls b (text_of d.unit.texts id) ds)
      go true e =
          let same : text_of d.unit.texts id ≡ codes "print" = (bytes_eq-Decides (text_of d.unit.texts id) (codes "print")).0 e in
          let both : true ≡ false = sym l ∙ ap lane same ∙ no_print in
          cc
      go false e = k (text_of d.unit.texts id) l ds

  ends_quietly : (calls : Calls) → ((text : List ℕ) → lane text ≡ true → (ds : List Datum) → Hushes (calls text ds)) → (text : List ℕ) (d : Definition) → IsLaneFunction units lane text d → (ds : List Datum) (w : World) →
      IsQuietEnd d.function.result w.events (run (context_of units turns calls d) (first_point d) d.body (record { variables = first_variables ds; world = w }))
  ends_quietly calls k text d l ds w =
      (stay_run (context_of units turns calls d) (λ id. lane (text_of d.unit.texts id)) (hush_by calls k d) (right.no_pointer text d l) d.body (first_point d) (program.body text d l) (right.body text d l)).from
      (record { variables = first_variables ds; world = w })

  hush_defined : (calls : Calls) → ((text : List ℕ) → lane text ≡ true → (ds : List Datum) → Hushes (calls text ds)) → (text : List ℕ) → lane text ≡ true → (ds : List Datum) (o : Option Definition) → definition_of units text ≡ o → Hushes (called_where_defined units turns calls o ds)
  hush_defined calls k text l ds None e = hush_given nothing
  hush_defined calls k text l ds (Some d) e = record { silent = λ w. ended_events d.function.result w.events _ (ends_quietly calls k text d (record { lane_function = l; definition = e }) ds w) }

  hush_call : (depth : ℕ) (text : List ℕ) → lane text ≡ true → (ds : List Datum) → Hushes (call_within depth units turns text ds)
  hush_call zero text l ds = hush_given nothing
  hush_call (suc n) text l ds = hush_defined (call_within n units turns) (hush_call n) text l ds (definition_of units text) refl

  typed_call : (n : ℕ) (text : List ℕ) (d : Definition) → IsLaneFunction units lane text d → (ds : List Datum) (w : World) → IsOfType d.function.result (call_within (suc n) units turns text ds w)
  typed_call n text d l ds w =
      subst (λ (o : Option Definition). IsOfType d.function.result (called_where_defined units turns (call_within n units turns) o ds w)) (sym l.definition)
      (ended_typed d.function.result w.events _ (right.no_pointer text d l) (ends_quietly (call_within n units turns) (hush_call n) text d l ds w))

  pub call_is_local : (text : List ℕ) (d : Definition) → IsLaneFunction units lane text d → StaysWithin units turns text d →
      IsLocalCall (types_of d.function.params) d.function.result (arrays_of units) (means units turns text)
  call_is_local text d l within = record {
    same = λ words j m n h.
        let ts = types_of d.function.params in
        ends_same ts (arrays_of units) words j m n h _ _ (within.reads (arguments_of ts words j) (agreeing m n) (covers ts (arrays_of units) words j m n h) m n (agree_there m n));
    keeps = λ words j m a i h. within.writes (arguments_of (types_of d.function.params) words j) m a i h;
    silent = λ ds m. (hush_call 32 text l.lane_function ds).silent (record { memory = m; events = [] });
    typed = λ ds m. typed_call 31 text d l ds (record { memory = m; events = [] });
  }
