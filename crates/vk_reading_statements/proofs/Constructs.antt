-- What the code does for the parts of a statement it does for the statement.
use Rattle.std.proofs.Common.{◌≡◌, ℕ, zero, suc, ◌+◌, Bool, true, false, cond, List, Option, Some, Result, Ok, Err, refl, sym, ap, subst}
use Rattle.vk_types.specs.declared.types.Stop.TheVariants.{Turns}
use Rattle.vk_ast.specs.declared.names.NameId.{NameId}
use Rattle.vk_ast.specs.Tree.{Tree}
use Rattle.vk_ast.specs.Statements.{StmtTree, StmtTrees, if_only, if_else, for_loop, no_stmts, more_stmts}
use Rattle.vk_rules_book.specs.Scopes.{Scope, inside}
use Rattle.vk_rules_book.specs.Visits.{after}
use Rattle.vk_meaning.specs.World.{Array}
use Rattle.vk_meaning.specs.Data.{Datum}
use Rattle.vk_meaning.specs.Points.{Point, past, branch_point, head_point, behind, loops_in}
use Rattle.vk_meaning.specs.Expressions.{Context, Variables}
use Rattle.vk_meaning.specs.Statements.{Effect, Evaluation, fell, then_do, branch, turns, repeat, with_third, condition_of, told_by, run, run_simd, run_all}
use Rattle.vk_reading.specs.declared.held.Held.{Held}
use Rattle.vk_reading.specs.declared.held.Halt.{Halt}
use Rattle.vk_reading.specs.declared.held.Halt.TheVariants.{Halted}
use Rattle.vk_reading_steps.specs.Runs.{Run, Adds}
use Rattle.vk_reading_statements.specs.declared.flow.Flow.{Flow}
use Rattle.vk_reading_statements.specs.declared.flow.Flow.TheVariants.{Fell, Broke, Continued, Returned}
use Rattle.vk_reading_statements.specs.Flows.{is_jump, leaves_loop, left_by, behind_it}
use Rattle.vk_reading_statements.specs.Acts.{Acts, AddsTo, Leads, Decides}
use Rattle.vk_reading_statements.specs.Loops.{test_in, turn_of}
use Rattle.vk_reading_statements.proofs.AddsAll.{adds_fell, adds_branch, adds_turns, adds_repeat, adds_condition, adds_told_by, adds_run, adds_run_all, adds_turn}
use Rattle.vk_reading_statements.proofs.Flowing.{leads_then, acts_ended, then_leads, then_fails, turn_leads, turn_fails, body_leads, body_fails, jumps, goes_on, loop_left, turn_goes_on, body_left, third_goes_on, no_turns}

-- the same with values that are the same
pub same_values : {arrays : List Array} {b n : Run} {old last now : List Held} {effect : Effect} {r : Result Flow Halt} → now ≡ last → Acts arrays b old effect n last r → Acts arrays b old effect n now r
same_values {arrays = arrays} {b = b} {n = n} {old = old} {effect = effect} {r = r} e d = subst (λ (vs : List Held). Acts arrays b old effect n vs r) (sym e) d

pub same_flow : {arrays : List Array} {b n : Run} {old last : List Held} {effect : Effect} {one other : Flow} → one ≡ other → Acts arrays b old effect n last (Ok one) → Acts arrays b old effect n last (Ok other)
same_flow {arrays = arrays} {b = b} {n = n} {old = old} {last = last} {effect = effect} e d = subst (λ (f : Flow). Acts arrays b old effect n last (Ok f)) e d

-- the same for an effect that is the same
pub same_effect : {arrays : List Array} {b n : Run} {old last : List Held} {one other : Effect} {r : Result Flow Halt} → one ≡ other → Acts arrays b old one n last r → Acts arrays b old other n last r
same_effect {arrays = arrays} {b = b} {n = n} {old = old} {last = last} {r = r} e d = subst (λ (x : Effect). Acts arrays b old x n last r) e d

module _ {arrays : List Array} {b m n : Run} {vs last : List Held} where
  -- ---- conditions

  pub on_true : {e : Evaluation} {r : Result Flow Halt} (on : Bool) (first second : Effect) → Decides arrays b vs e m (Ok on) → on ≡ true → AddsTo first → AddsTo second
      → Acts arrays m vs first n last r → Acts arrays b vs (branch e first second) n last r
  on_true {e = e} {r = r} on first second d is p q k =
      (subst (λ (t : Bool). Leads arrays b vs (branch e first second) m vs (cond t first second)) is (d.chooses first second p q)).leads n last r k

  pub on_false : {e : Evaluation} {r : Result Flow Halt} (on : Bool) (first second : Effect) → Decides arrays b vs e m (Ok on) → on ≡ false → AddsTo first → AddsTo second
      → Acts arrays m vs second n last r → Acts arrays b vs (branch e first second) n last r
  on_false {e = e} {r = r} on first second d is p q k =
      (subst (λ (t : Bool). Leads arrays b vs (branch e first second) m vs (cond t first second)) is (d.chooses first second p q)).leads n last r k

module _ {arrays : List Array} {b m : Run} {vs : List Held} where
  pub on_halt : {e : Evaluation} {x : Halt} (first second : Effect) → Decides arrays b vs e m (Err x) → AddsTo first → AddsTo second → Acts arrays b vs (branch e first second) m vs (Err x)
  on_halt first second d p q = d.chooses first second p q

-- what is left behind a jump is the same whatever comes next
behind_same : (flow : Flow) (one other : Effect) → (flow ≡ Fell → one ≡ other) → behind_it flow one ≡ behind_it flow other
behind_same Fell one other k = k refl
behind_same Broke one other k = refl
behind_same Continued one other k = refl
behind_same (Returned h) one other k = refl

module _ (c : Context) (calls : (id : NameId) (ds : List Datum) → Adds (c.call id ds)) where
  adds_rest : (p : Point) (s : StmtTree) → AddsTo (turns c.turns (condition_of c p.scope (test_in s)) (turn_of c p s))
  adds_rest p s = adds_turns c.turns (adds_condition c calls p.scope (test_in s)) (adds_turn c calls p s)

  -- the turns, from the point behind the first part
  abbrev pub rounds_of : Point → StmtTree → Effect
  rounds_of q s = repeat c.turns (condition_of c q.scope (test_in s)) (turn_of c q s)

  adds_rounds : (q : Point) (s : StmtTree) → AddsTo (rounds_of q s)
  adds_rounds q s = adds_repeat c.turns (adds_condition c calls q.scope (test_in s)) (adds_turn c calls q s)

  -- the point behind the first part, where it did not jump
  behind_first : (p : Point) (first s : StmtTree) (scope : Scope) (flow : Flow) → (flow ≡ Fell → scope ≡ after true (inside p.scope) first)
      → behind_it flow (rounds_of (record { scope = scope; shares = false; loops = p.loops + loops_in first }) s) ≡ behind_it flow (rounds_of (behind (head_point p) first) s)
  behind_first p first s scope flow is = behind_same flow _ _ (λ e. ap (λ (t : Scope). rounds_of (record { scope = t; shares = false; loops = p.loops + loops_in first }) s) (is e))

  told_first : (p : Point) (first body : StmtTree) (test : Option Tree) (scope : Scope) (flow : Flow) → (flow ≡ Fell → scope ≡ after true (inside p.scope) first)
      → behind_it flow (told_by c p (record { scope = scope; shares = false; loops = p.loops + loops_in first }) first test body) ≡ behind_it flow (told_by c p (behind (head_point p) first) first test body)
  told_first p first body test scope flow is = behind_same flow _ _ (λ e. ap (λ (t : Scope). told_by c p (record { scope = t; shares = false; loops = p.loops + loops_in first }) first test body) (is e))

  abbrev head_of : (p : Point) (first body : StmtTree) (test : Option Tree) → Effect
  head_of p first body test = then_do (run c (head_point p) first) (told_by c p (behind (head_point p) first) first test body)

  module _ {arrays : List Array} where
    -- ---- branches

    module _ {b m n : Run} {vs last : List Held} {r : Result Flow Halt} (p : Point) (l k : ℕ) (test : Tree) (first second : StmtTree) (on : Bool) where
      pub only_taken : Decides arrays b vs (condition_of c p.scope (Some test)) m (Ok on) → on ≡ true → Acts arrays m vs (run c (branch_point p) first) n last r → Acts arrays b vs (run c p (if_only l k test first)) n last r
      only_taken d is a = on_true on (run c (branch_point p) first) fell d is (adds_run c calls (branch_point p) first) adds_fell a

      pub else_taken : Decides arrays b vs (condition_of c p.scope (Some test)) m (Ok on) → on ≡ true → Acts arrays m vs (run c (branch_point p) first) n last r → Acts arrays b vs (run c p (if_else l k test first second)) n last r
      else_taken d is a = on_true on (run c (branch_point p) first) (run c (branch_point (past (loops_in first) p)) second) d is (adds_run c calls (branch_point p) first) (adds_run c calls (branch_point (past (loops_in first) p)) second) a

      pub second_taken : Decides arrays b vs (condition_of c p.scope (Some test)) m (Ok on) → on ≡ false → Acts arrays m vs (run c (branch_point (past (loops_in first) p)) second) n last r
          → Acts arrays b vs (run c p (if_else l k test first second)) n last r
      second_taken d is a = on_false on (run c (branch_point p) first) (run c (branch_point (past (loops_in first) p)) second) d is (adds_run c calls (branch_point p) first) (adds_run c calls (branch_point (past (loops_in first) p)) second) a

    module _ {b m : Run} {vs : List Held} (p : Point) (l k : ℕ) (test : Tree) (first second : StmtTree) where
      pub none_taken : (on : Bool) → Decides arrays b vs (condition_of c p.scope (Some test)) m (Ok on) → on ≡ false → Acts arrays b vs (run c p (if_only l k test first)) m vs (Ok Fell)
      none_taken on d is = on_false on (run c (branch_point p) first) fell d is (adds_run c calls (branch_point p) first) adds_fell (acts_ended m vs fell Fell (λ w. refl))

      pub only_halted : {x : Halt} → Decides arrays b vs (condition_of c p.scope (Some test)) m (Err x) → Acts arrays b vs (run c p (if_only l k test first)) m vs (Err x)
      only_halted d = on_halt (run c (branch_point p) first) fell d (adds_run c calls (branch_point p) first) adds_fell

      pub else_halted : {x : Halt} → Decides arrays b vs (condition_of c p.scope (Some test)) m (Err x) → Acts arrays b vs (run c p (if_else l k test first second)) m vs (Err x)
      else_halted d = on_halt (run c (branch_point p) first) (run c (branch_point (past (loops_in first) p)) second) d (adds_run c calls (branch_point p) first) (adds_run c calls (branch_point (past (loops_in first) p)) second)

    -- ---- a loop whose condition comes first

    pub while_on : {b m n : Run} {vs last : List Held} {r : Result Flow Halt} (p : Point) (s : StmtTree) (on : Bool) → Decides arrays b vs (condition_of c p.scope (test_in s)) m (Ok on) → on ≡ true
        → Acts arrays m vs (turns c.turns (condition_of c p.scope (test_in s)) (turn_of c p s)) n last r → Acts arrays b vs (repeat c.turns (condition_of c p.scope (test_in s)) (turn_of c p s)) n last r
    while_on p s on d is a = on_true on (turns c.turns (condition_of c p.scope (test_in s)) (turn_of c p s)) fell d is (adds_rest p s) adds_fell a

    pub while_off : {b m : Run} {vs : List Held} (p : Point) (s : StmtTree) (on : Bool) → Decides arrays b vs (condition_of c p.scope (test_in s)) m (Ok on) → on ≡ false
        → Acts arrays b vs (repeat c.turns (condition_of c p.scope (test_in s)) (turn_of c p s)) m vs (Ok Fell)
    while_off {m = m} {vs = vs} p s on d is = on_false on (turns c.turns (condition_of c p.scope (test_in s)) (turn_of c p s)) fell d is (adds_rest p s) adds_fell (acts_ended m vs fell Fell (λ w. refl))

    pub while_halted : {b m : Run} {vs : List Held} {x : Halt} (p : Point) (s : StmtTree) → Decides arrays b vs (condition_of c p.scope (test_in s)) m (Err x)
        → Acts arrays b vs (repeat c.turns (condition_of c p.scope (test_in s)) (turn_of c p s)) m vs (Err x)
    while_halted p s d = on_halt (turns c.turns (condition_of c p.scope (test_in s)) (turn_of c p s)) fell d (adds_rest p s) adds_fell

    -- ---- a loop whose condition comes behind each turn

    module _ {b m k : Run} {vs us ws : List Held} {whole : Effect} (n : ℕ) (test : Evaluation) (body : Effect) (t : (xs : Variables) → Adds (test xs)) (p : AddsTo body) (so_far : Leads arrays b vs whole m us (turns (suc n) test body)) where
      pub turn_halted : {x : Halt} → Acts arrays m us body k ws (Err x) → Acts arrays b vs whole k ws (Err x)
      turn_halted {x = x} a = so_far.leads k ws (Err x) (turn_fails (branch test (turns n test body) fell) (adds_branch t (adds_turns n t p) adds_fell) a)

      pub turn_left : (flow : Flow) → Acts arrays m us body k ws (Ok flow) → leaves_loop flow ≡ true → Acts arrays b vs whole k ws (Ok (left_by flow))
      turn_left flow a is = so_far.leads k ws (Ok (left_by flow)) ((turn_leads (branch test (turns n test body) fell) flow a).leads k ws (Ok (left_by flow)) (loop_left k ws (branch test (turns n test body) fell) flow is))

      turned : (flow : Flow) → Acts arrays m us body k ws (Ok flow) → leaves_loop flow ≡ false → Leads arrays b vs whole k ws (branch test (turns n test body) fell)
      turned flow a is = leads_then so_far (subst (λ (e : Effect). Leads arrays m us (turns (suc n) test body) k ws e) (turn_goes_on (branch test (turns n test body) fell) flow is)
          (turn_leads (branch test (turns n test body) fell) flow a))

      module _ {j : Run} (flow : Flow) (a : Acts arrays m us body k ws (Ok flow)) (is : leaves_loop flow ≡ false) where
        pub test_halted : {x : Halt} → Decides arrays k ws test j (Err x) → Acts arrays b vs whole j ws (Err x)
        test_halted {x = x} d = (turned flow a is).leads j ws (Err x) (on_halt (turns n test body) fell d (adds_turns n t p) adds_fell)

        pub test_off : (on : Bool) → Decides arrays k ws test j (Ok on) → on ≡ false → Acts arrays b vs whole j ws (Ok Fell)
        test_off on d off = (turned flow a is).leads j ws (Ok Fell) (on_false on (turns n test body) fell d off (adds_turns n t p) adds_fell (acts_ended j ws fell Fell (λ w. refl)))

        pub test_on : (on : Bool) → Decides arrays k ws test j (Ok on) → on ≡ true → Leads arrays b vs whole j ws (turns n test body)
        test_on on d is_on = leads_then (turned flow a is) (record { leads = λ end last r x. on_true on (turns n test body) fell d is_on (adds_turns n t p) adds_fell x })

    pub turns_over : {b m : Run} {vs us : List Held} {whole : Effect} (last : List Held) (test : Evaluation) (body : Effect) → Leads arrays b vs whole m us (turns zero test body) → Acts arrays b vs whole m last (Err (Halted Turns))
    turns_over {m = m} {us = us} last test body h = h.leads m last (Err (Halted Turns)) (no_turns m us last test body)

    -- ---- turns of a `for`

    module _ {b m : Run} {vs us : List Held} (p : Point) (third body : StmtTree) where
      pub third_run : {n : Run} {last : List Held} {r : Result Flow Halt} (flow : Flow) → Acts arrays b vs (run c (branch_point p) body) m us (Ok flow) → leaves_loop flow ≡ false → Acts arrays m us (run c p third) n last r
          → Acts arrays b vs (with_third (run c (branch_point p) body) (run c p third)) n last r
      third_run {n = n} {last = last} {r = r} flow a is d = (body_leads (run c p third) flow a).leads n last r (same_effect (sym (third_goes_on (run c p third) flow is)) d)

      pub third_left : (flow : Flow) → Acts arrays b vs (run c (branch_point p) body) m us (Ok flow) → leaves_loop flow ≡ true → Acts arrays b vs (with_third (run c (branch_point p) body) (run c p third)) m us (Ok flow)
      third_left flow a is = (body_leads (run c p third) flow a).leads m us (Ok flow) (body_left m us (run c p third) flow is)

      pub body_halted : {x : Halt} → Acts arrays b vs (run c (branch_point p) body) m us (Err x) → Acts arrays b vs (with_third (run c (branch_point p) body) (run c p third)) m us (Err x)
      body_halted a = body_fails (run c p third) (adds_run c calls p third) a

    -- ---- `for`

    module _ {b m n : Run} {vs us last : List Held} {r : Result Flow Halt} (p : Point) (l k : ℕ) (first third body : StmtTree) (test : Option Tree) (scope : Scope) (flow : Flow) (is : flow ≡ Fell → scope ≡ after true (inside p.scope) first) where
      pub for_run : Acts arrays b vs (run c (head_point p) first) m us (Ok flow)
          → Acts arrays m us (behind_it flow (rounds_of (record { scope = scope; shares = false; loops = p.loops + loops_in first }) (for_loop l k first test third body))) n last r
          → Acts arrays b vs (run c p (for_loop l k first test third body)) n last r
      for_run a d = (then_leads (rounds_of (behind (head_point p) first) (for_loop l k first test third body)) flow a).leads n last r (same_effect (behind_first p first (for_loop l k first test third body) scope flow is) d)

    module _ {b m : Run} {vs us : List Held} {x : Halt} (p : Point) (l k : ℕ) (first third body : StmtTree) (test : Option Tree) where
      pub first_halted : Acts arrays b vs (run c (head_point p) first) m us (Err x) → Acts arrays b vs (run c p (for_loop l k first test third body)) m us (Err x)
      first_halted a = then_fails (rounds_of (behind (head_point p) first) (for_loop l k first test third body)) (adds_rounds (behind (head_point p) first) (for_loop l k first test third body)) a

    -- ---- simd loops

    module _ {b m k n : Run} {vs us ws last : List Held} {r : Result Flow Halt} (p : Point) (l t : ℕ) (first third body : StmtTree) (test : Option Tree) (scope : Scope) (flow end : Flow)
        (is : flow ≡ Fell → scope ≡ after true (inside p.scope) first) (ends : end ≡ Fell → flow ≡ Fell) where
      pub simd_run : Acts arrays b vs (run c (head_point p) first) m us (Ok flow)
          → Acts arrays m us (behind_it flow (told_by c p (record { scope = scope; shares = false; loops = p.loops + loops_in first }) first test body)) k ws (Ok end)
          → Acts arrays k ws (behind_it end (rounds_of (record { scope = scope; shares = false; loops = p.loops + loops_in first }) (for_loop l t first test third body))) n last r
          → Acts arrays b vs (run_simd c p (for_loop l t first test third body)) n last r
      simd_run a d e =
          let told : Acts arrays b vs (head_of p first body test) k ws (Ok end) =
          (then_leads (told_by c p (behind (head_point p) first) first test body) flow a).leads k ws (Ok end) (same_effect (told_first p first body test scope flow is) d) in
          (then_leads (rounds_of (behind (head_point p) first) (for_loop l t first test third body)) end told).leads n last r
          (same_effect (behind_first p first (for_loop l t first test third body) scope end (λ x. is (ends x))) e)

    module _ {b m : Run} {vs us : List Held} {x : Halt} (p : Point) (l t : ℕ) (first third body : StmtTree) (test : Option Tree) where
      pub simd_first_halted : Acts arrays b vs (run c (head_point p) first) m us (Err x) → Acts arrays b vs (run_simd c p (for_loop l t first test third body)) m us (Err x)
      simd_first_halted a = then_fails (rounds_of (behind (head_point p) first) (for_loop l t first test third body)) (adds_rounds (behind (head_point p) first) (for_loop l t first test third body))
          (then_fails (told_by c p (behind (head_point p) first) first test body) (adds_told_by c calls p (behind (head_point p) first) first test body) a)

      pub simd_bound_halted : {k : Run} {ws : List Held} (scope : Scope) (flow : Flow) → (flow ≡ Fell → scope ≡ after true (inside p.scope) first) → Acts arrays b vs (run c (head_point p) first) m us (Ok flow)
          → Acts arrays m us (behind_it flow (told_by c p (record { scope = scope; shares = false; loops = p.loops + loops_in first }) first test body)) k ws (Err x)
          → Acts arrays b vs (run_simd c p (for_loop l t first test third body)) k ws (Err x)
      simd_bound_halted {k = k} {ws = ws} scope flow is a d =
          let told : Acts arrays b vs (head_of p first body test) k ws (Err x) =
          (then_leads (told_by c p (behind (head_point p) first) first test body) flow a).leads k ws (Err x) (same_effect (told_first p first body test scope flow is) d) in
          then_fails (rounds_of (behind (head_point p) first) (for_loop l t first test third body)) (adds_rounds (behind (head_point p) first) (for_loop l t first test third body)) told

    -- ---- statements one after another

    module _ {b m k : Run} {vs us ws : List Held} {whole : Effect} (q : Point) (x : StmtTree) (xs : StmtTrees) (so_far : Leads arrays b vs whole m us (run_all c q (more_stmts x xs))) where
      pub all_halted : {h : Halt} → Acts arrays m us (run c q x) k ws (Err h) → Acts arrays b vs whole k ws (Err h)
      all_halted {h = h} a = so_far.leads k ws (Err h) (then_fails (run_all c (behind q x) xs) (adds_run_all c calls (behind q x) xs) a)

      pub all_jumped : (flow : Flow) → Acts arrays m us (run c q x) k ws (Ok flow) → is_jump flow ≡ true → Acts arrays b vs whole k ws (Ok flow)
      all_jumped flow a is = so_far.leads k ws (Ok flow) ((then_leads (run_all c (behind q x) xs) flow a).leads k ws (Ok flow) (jumps k ws (run_all c (behind q x) xs) flow is))

      pub all_fell : (flow : Flow) → Acts arrays m us (run c q x) k ws (Ok flow) → is_jump flow ≡ false → Leads arrays b vs whole k ws (run_all c (behind q x) xs)
      all_fell flow a is = leads_then so_far (subst (λ (e : Effect). Leads arrays m us (run_all c q (more_stmts x xs)) k ws e) (goes_on (run_all c (behind q x) xs) flow is) (then_leads (run_all c (behind q x) xs) flow a))

    pub all_over : {b m : Run} {vs us : List Held} {whole : Effect} (q : Point) → Leads arrays b vs whole m us (run_all c q no_stmts) → Acts arrays b vs whole m us (Ok Fell)
    all_over {m = m} {us = us} q h = h.leads m us (Ok Fell) (acts_ended m us fell Fell (λ w. refl))
