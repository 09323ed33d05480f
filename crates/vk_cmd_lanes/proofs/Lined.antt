-- A unit and a call have one text, or they are refused.
use Rattle.std.proofs.Common.{◌≡◌, ◌∙◌, ℕ, List, [], ◌∷◌, Option, None, Some, ap, sym, subst, arith}
use Rattle.std.specs.List.{flat_map, range_with_len}
use Rattle.vk_types.specs.declared.types.Stop.{Stop}
use Rattle.vk_ast.specs.Units.{FunctionTree, function}
use Rattle.vk_rules_book.specs.Rules.{Subject}
use Rattle.vk_arguments.specs.Arguments.{Called, IsRefused}
use Rattle.vk_arguments.specs.Integers.{integer_word}
use Rattle.vk_arguments.proofs.Unique.{taken_apart}
use Rattle.vk_ends.specs.Holds.{Agrees}
use Rattle.vk_ends.specs.declared.ends.CallRule.{CallRule}
use Rattle.vk_ends.specs.declared.ends.CallRule.TheVariants.{A1, A2, A3, A4, A5}
use Rattle.vk_ends.specs.declared.ends.Refusal.{Refusal}
use Rattle.vk_ends.specs.declared.ends.Refusal.TheVariants.{Size, Name as Unnamed, Unit as Unfit, NotYet, Call}
use Rattle.vk_cmd_lanes.specs.Lanes.{Asked, IsCallee, PrintsCall, PrintsLanes, RefusesCall, RefusesLanes, lane_line}
use Rattle.vk_cmd_lanes.proofs.Readings.{run_built, run_once, run_unrefused}
use Rattle.vk_cmd_lanes.proofs.Selected.{callee_once}

-- ---- one call

call_once : (unit : Subject) (f : FunctionTree) (r : Asked) (t u : List ℕ) → unit.items ≡ function f ∷ [] → PrintsCall unit f r t → PrintsCall unit f r u → t ≡ u
call_once unit f r t u one p q = p.text_is
    ∙ ap (λ (c : Called). flat_map (lane_line unit f r c) (range_with_len 0 c.lanes)) (callee_once unit f r p.callee q.callee one p.selects q.selects)
    ∙ sym q.text_is

taken_by_rules : (unit : Subject) (f : FunctionTree) (r : Asked) (t : List ℕ) (rule : CallRule) (first second : ℕ) → unit.items ≡ function f ∷ [] → PrintsCall unit f r t →
    (c : Called) → IsCallee unit f r c → IsRefused integer_word c r.given rule first second → ⊥
taken_by_rules unit f r t rule first second one p c is refused = taken_apart integer_word p.callee r.given rule first second p.taken
    (subst (λ (x : Called). IsRefused integer_word x r.given rule first second) (callee_once unit f r c p.callee one is p.selects) refused)

call_unrefused : (unit : Subject) (f : FunctionTree) (r : Asked) (t : List ℕ) (rule : CallRule) (first second : ℕ) → unit.items ≡ function f ∷ [] → PrintsCall unit f r t →
    RefusesCall unit f r rule first second → ⊥
call_unrefused unit f r t A1 first second one p h = h.0 p.selects.selected p.selects.selects
call_unrefused unit f r t A2 first second one p h = taken_by_rules unit f r t A2 first second one p h.0 h.1 h.2
call_unrefused unit f r t A3 first second one p h = h.2
call_unrefused unit f r t A4 first second one p h = taken_by_rules unit f r t A4 first second one p h.0 h.1 h.2
call_unrefused unit f r t A5 first second one p h = taken_by_rules unit f r t A5 first second one p h.0 h.1 h.2

-- ---- one file

one_text_of : (r : Asked) (bytes : List ℕ) (t u : List ℕ) (p q : Option Stop) → PrintsLanes r (Some bytes) t p → PrintsLanes r (Some bytes) u q → (t ≡ u) × (p ≡ q)
one_text_of r bytes t u p q a b =
    let same = run_once r bytes b.2 a.2 b.3 a.3 b.4 a.4 in
    (call_once a.2 a.3 r t u a.4.form.items a.5 (subst (λ (g : FunctionTree). PrintsCall a.2 g r u) same.1 (subst (λ (x : Subject). PrintsCall x b.3 r u) same.0 b.5)), a.1 ∙ sym b.1)

apart : (r : Asked) (bytes : List ℕ) (t : List ℕ) (p : Option Stop) (refusal : Refusal) → PrintsLanes r (Some bytes) t p → RefusesLanes r (Some bytes) refusal → ⊥
apart r bytes t p (Size input) a b = let fits = a.0 in let large = b.1 in omega arith
apart r bytes t p (Unnamed line at rule) a b = b
apart r bytes t p (Unfit input line directive rule) a b = run_unrefused r bytes a.2 a.3 line directive rule a.4 b.2
apart r bytes t p (NotYet input) a b = run_built r bytes a.2 a.3 a.4 b.2
apart r bytes t p (Call fault) a b =
    let same = run_once r bytes b.1 a.2 b.2 a.3 b.3 a.4 in
    call_unrefused a.2 a.3 r t fault.rule fault.first fault.second a.4.form.items a.5
    (subst (λ (g : FunctionTree). RefusesCall a.2 g r fault.rule fault.first fault.second) same.1
    (subst (λ (x : Subject). RefusesCall x b.2 r fault.rule fault.first fault.second) same.0 b.4))

pub one_text : (r : Asked) (contents : Option (List ℕ)) → Agrees (PrintsLanes r contents) (RefusesLanes r contents)
one_text r None = record { one = λ t u p q a b. absurd a; apart = λ t p refusal a b. a }
one_text r (Some bytes) = record { one = one_text_of r bytes; apart = apart r bytes }
