-- Declarations, assignments to variables, and the upper bounds of simd loops.
use Rattle.std.proofs.Common.{◌≡◌, ℕ, Bool, List, [], ◌∷◌, ◌++◌, Option, Some, None, Result, Ok, Err, refl, sym, ap, subst, ◌∙◌, append-nil}
use Rattle.std.proofs.lemmas.Option.{none-some, same_Some}
use Rattle.vk_types.specs.declared.types.Ty.{Ty}
use Rattle.vk_types.specs.declared.types.Stop.{Stop}
use Rattle.vk_types.specs.Numbers.{wrap_number}
use Rattle.vk_ast.specs.declared.expressions.BinOp.{BinOp}
use Rattle.vk_ast.specs.declared.expressions.BinOp.TheVariants.{Lt}
use Rattle.vk_ast.specs.Tree.{Tree, binary}
use Rattle.vk_ast.specs.Statements.{StmtTree, local}
use Rattle.vk_rules_book.specs.Scopes.{Scope}
use Rattle.vk_meaning.specs.World.{Array, World, Event, simd_loop, with_event}
use Rattle.vk_meaning.specs.Data.{Datum, number_in, Value, got, halts}
use Rattle.vk_meaning.specs.Points.{Variable, Point, branch_point}
use Rattle.vk_meaning.specs.Expressions.{Context, Variables, with_datum, value_of}
use Rattle.vk_meaning.specs.Guards.{guard_pairs, guard_holds}
use Rattle.vk_meaning.specs.Statements.{Effect, Outcome, fell, stopped, at_world, with_variable, on_value, assign_variable, assignment_to, iterations, told, told_by}
use Rattle.vk_reading.specs.declared.held.Held.{Held}
use Rattle.vk_reading.specs.declared.held.Halt.{Halt}
use Rattle.vk_reading.specs.declared.held.Halt.TheVariants.{Halted, Failed}
use Rattle.vk_reading_steps.specs.Runs.{Run, text_of, Stands, IsEnd, Does}
use Rattle.vk_reading_steps.specs.Settings.{variables_in}
use Rattle.vk_reading_statements.specs.declared.flow.Flow.{Flow}
use Rattle.vk_reading_statements.specs.declared.flow.Flow.TheVariants.{Fell}
use Rattle.vk_reading_statements.specs.Acts.{IsOutcome, Acts}
use Rattle.vk_reading_statements.specs.Assigned.{assigned_value}
use Rattle.vk_reading_statements.specs.Loops.{upper_bound}
use Rattle.vk_reading_statements.proofs.Fronts.{text_append, front_further, risen}
use Rattle.vk_reading_statements.proofs.Flowing.{state_in, acts_ended}

-- ---- variables

pub assigns : (c : Context) (scope : Scope) (v : Variable) (op : Option BinOp) (place e : Tree) → assign_variable v (assigned_value c scope v.number op place e) ≡ assignment_to c scope (Some v) op place e
assigns c scope v None place e = refl
assigns c scope v (Some op) place e = refl

-- behind a variable that was given a value
pub given_first : {arrays : List Array} {b n : Run} {old mid last : List Held} {effect : Effect} {r : Result Flow Halt} (k : ℕ) (d : Datum) → variables_in mid ≡ with_datum (variables_in old) k d
    → Acts arrays b mid effect n last r → Acts arrays b old (λ s. effect (with_variable s k d)) n last r
given_first {arrays = arrays} {n = n} {last = last} {effect = effect} {r = r} k d is a = record {
  ends = λ start w h. subst (λ (vs : Variables). IsOutcome arrays start (effect (record { variables = vs; world = w })) n last r) is (a.ends start w h);
  stays = a.stays;
  rise = a.rise;
}

-- ---- simd loops

no_text : (es : List Event) (f : List ℕ) (k n : ℕ) (apart : Bool) → text_of (es ++ simd_loop f k n apart ∷ []) ≡ text_of es
no_text es f k n apart = text_append es (simd_loop f k n apart ∷ []) ∙ append-nil (text_of es)

stands_on : {arrays : List Array} {start : List ℕ} {r : Run} {w : World} (f : List ℕ) (k n : ℕ) (apart : Bool) → Stands arrays start r w → Stands arrays start r (with_event w (simd_loop f k n apart))
stands_on {start = start} {w = w} f k n apart h = record { rows = h.rows; memory = h.memory; text = λ t. h.text t ∙ ap (λ (xs : List ℕ). start ++ xs) (sym (no_text w.events f k n apart)) }

module _ (c : Context) (vs : List Held) (p : Point) (t : Ty) (k : ℕ) (high : Tree) (body : StmtTree) where
  -- what is told behind the value of the bound
  abbrev telling : Value → World → Outcome
  telling v w = on_value v (λ d w'. fell (at_world (state_in vs w) (with_event w'
      (simd_loop c.text p.loops (iterations (number_in (variables_in vs k)) (wrap_number t (number_in d))) (guard_holds c (variables_in vs) (guard_pairs (branch_point p) body))))))

  told_ends : (arrays : List Array) (n : Run) (start : List ℕ) (w : World) (h : Held) (v : Value) → IsEnd arrays start v n (Ok h) → IsOutcome arrays start (telling v w) n vs (Ok Fell)
  told_ends arrays n start w h (got d w') e = record { is = refl; stands = stands_on _ _ _ _ e.1 }
  told_ends arrays n start w h (halts x w') e = absurd e

  told_fails : (arrays : List Array) (n : Run) (start : List ℕ) (w : World) (x : Halt) (v : Value) → IsEnd arrays start v n (Err x) → IsOutcome arrays start (telling v w) n vs (Err x)
  told_fails arrays n start w (Halted y) (got d w') e = absurd e
  told_fails arrays n start w (Halted y) (halts z w') e = record { is = ap (λ (q : Stop). stopped q w') e.0; stands = e.1 }
  told_fails arrays n start w (Failed f) (got d w') e = front_further e (record { rest = _ ∷ []; parts = refl })
  told_fails arrays n start w (Failed f) (halts z w') e = e

  told_done : {arrays : List Array} {b n : Run} {h : Held} → Does arrays b (value_of c p.scope (variables_in vs) high) n (Ok h) → Acts arrays b vs (told c p t k high body) n vs (Ok Fell)
  told_done {arrays = arrays} {n = n} {h = h} d = record { ends = λ start w s. told_ends arrays n start w h (value_of c p.scope (variables_in vs) high w) (d.ends start w s); stays = d.stays; rise = tt }

  told_halted : {arrays : List Array} {b n : Run} {x : Halt} → Does arrays b (value_of c p.scope (variables_in vs) high) n (Err x) → Acts arrays b vs (told c p t k high body) n vs (Err x)
  told_halted {arrays = arrays} {b = b} {n = n} {x = x} d = record { ends = λ start w s. told_fails arrays n start w x (value_of c p.scope (variables_in vs) high w) (d.ends start w s); stays = d.stays; rise = risen Flow b.out.faults n.out.faults x d.rise }

module _ {arrays : List Array} (c : Context) {b n : Run} (vs : List Held) (outside p : Point) (high : Tree) (body : StmtTree) where
  pub bound_done : {h : Held} (first : StmtTree) (test : Option Tree) → Some high ≡ upper_bound first test → Does arrays b (value_of c p.scope (variables_in vs) high) n (Ok h)
      → Acts arrays b vs (told_by c outside p first test body) n vs (Ok Fell)
  bound_done {h = h} (local l k t fixed id init) (Some (binary l1 k1 Lt left bound)) is d =
      told_done c vs p t _ bound body (subst (λ (e : Tree). Does arrays b (value_of c p.scope (variables_in vs) e) n (Ok h)) (same_Some _ _ is) d)
  bound_done first test is d = absurd (none-some high (sym is))

  pub bound_halted : {x : Halt} (first : StmtTree) (test : Option Tree) → Some high ≡ upper_bound first test → Does arrays b (value_of c p.scope (variables_in vs) high) n (Err x)
      → Acts arrays b vs (told_by c outside p first test body) n vs (Err x)
  bound_halted {x = x} (local l k t fixed id init) (Some (binary l1 k1 Lt left bound)) is d =
      told_halted c vs p t _ bound body (subst (λ (e : Tree). Does arrays b (value_of c p.scope (variables_in vs) e) n (Err x)) (same_Some _ _ is) d)
  bound_halted first test is d = absurd (none-some high (sym is))

pub no_bound : (c : Context) (outside p : Point) (body : StmtTree) (first : StmtTree) (test : Option Tree) → None ≡ upper_bound first test → told_by c outside p first test body ≡ fell
no_bound c outside p body (local l k t fixed id init) (Some (binary l1 k1 Lt left bound)) is = absurd (none-some bound is)
no_bound c outside p body first test is = refl

pub acts_fell : {arrays : List Array} (s : Run) (vs : List Held) (effect : Effect) → effect ≡ fell → Acts arrays s vs effect s vs (Ok Fell)
acts_fell {arrays = arrays} s vs effect is = subst (λ (e : Effect). Acts arrays s vs e s vs (Ok Fell)) (sym is) (acts_ended s vs fell Fell (λ w. refl))
