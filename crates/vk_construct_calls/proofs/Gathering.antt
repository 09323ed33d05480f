-- Arguments in order, and the call behind them.
use Rattle.std.proofs.Common.{arith, sym, ◌≡◌, ℕ, ◌<◌, ◌≤◌, Bool, true, false, cond, List, [], ◌∷◌, ◌++◌, Some, refl, subst, ap, ◌∙◌, inl, inr, append_assoc}
use Rattle.vk_kinds.specs.declared.heads.CType.{CType}
use Rattle.vk_ast.specs.Tree.{Tree, Trees, no_trees, more_trees}
use Rattle.vk_rules_book.specs.Scopes.{Scope}
use Rattle.vk_meaning.specs.World.{World}
use Rattle.vk_meaning.specs.Data.{Datum, Value, got, halts, with_value, Action, and_then, as_type, given}
use Rattle.vk_meaning.specs.Expressions.{Context, value_of, with_arguments}
use Rattle.vk_meaning.specs.Types.{next_type, next_types}
use Rattle.vk_meaning.specs.Statements.{State, at_world}
use Rattle.vk_meaning.specs.Lanes.{datum_of}
use Rattle.vk_object.specs.Lane.{is_live}
use Rattle.vk_lane.specs.Places.{Share, Place, IsFine}
use Rattle.vk_lane_calls.specs.Callees.{Takes, TakesIf}
use Rattle.vk_construct.specs.Computes.{Table, IsTable, Holds, Keeps, Has, Gives, Computes, Idles}
use Rattle.vk_lane.specs.Pieces.{Stays}
use Rattle.vk_lane.proofs.Rules.{same_yes, same_not}
use Rattle.vk_construct.proofs.Values.{keeps_same, keeps_then, holds_keeps, live_is, off_is, gone_is, idles_of, idles_same, idles_then}
use Rattle.vk_construct_calls.specs.Gathers.{Ends, Gathering, Gathers, HaveAll}

-- no argument, no code
pub gathers_none : (x : Place) (tb : Table) (c : Context) (scope : Scope) (ts : List CType) (before : List Datum) (m d f j : ℕ) (h : Share) →
    Gathers x tb (λ vs. with_arguments c scope vs ts no_trees before) ts [] before m d f j h h
gathers_none x tb c scope ts before m d f j h = record {
  idle = idles_same m f h;
  runs = λ s n o a. inl ([], s.world, (λ next. ap (λ ds. next ds s.world) (sym (nil before))), keeps_same d f s.world h n (sym a.world), tt);
}
  where
    nil : (l : List Datum) → l ++ [] ≡ l
    nil [] = refl
    nil (x ∷ l) = ap (λ r. x ∷ r) (nil l)

-- an argument in its register, and the others
pub gathers_more : (x : Place) (tb : Table) (c : Context) (scope : Scope) (ts : List CType) (e : Tree) (es : Trees) (before : List Datum) (r : ℕ) (rs : List ℕ) (m d dk f j : ℕ) (h mid h' : Share) → IsTable x tb d → m < f → d ≤ dk → r < dk →
    Computes x tb (λ vs. and_then (value_of c scope vs e) (λ dt. given (as_type (next_type ts) dt))) (next_type ts) r m d f j h mid →
    ((dt : Datum) → Gathers x tb (λ vs. with_arguments c scope vs (next_types ts) es (before ++ dt ∷ [])) (next_types ts) rs (before ++ dt ∷ []) m dk f j mid h') → Idles m f mid h' →
    Gathers x tb (λ vs. with_arguments c scope vs ts (more_trees e es) before) ts (r ∷ rs) before m d f j h h'
gathers_more x tb c scope ts e es before r rs m d dk f j h mid h' it lm ld lr cp rest i = record {
  idle = idles_then m f f h mid h' lm (omega arith) (idles_of x tb _ (next_type ts) r m d f j h mid cp) i;
  runs = λ s n o a. first s o a (value_of c scope s.variables e s.world) refl (cp.runs s n o a);
}
  where
    E : Gathering
    E vs = with_arguments c scope vs ts (more_trees e es) before

    second : (s : State) (dt : Datum) (w : World) → Keeps d f w h mid → Has x j (next_type ts) (as_type (next_type ts) dt) (mid.lane.reg r) → value_of c scope s.variables e s.world ≡ got dt w →
        Ends (λ vs. with_arguments c scope vs (next_types ts) es (before ++ as_type (next_type ts) dt ∷ [])) x j (next_types ts) rs dk f (before ++ as_type (next_type ts) dt ∷ []) mid h' (at_world s w) → Ends E x j ts (r ∷ rs) d f before h h' s
    second s dt w k hp ev (inl q) = inl (
      as_type (next_type ts) dt ∷ q.0,
      q.1,
      (λ next. ap (λ v. with_value v (λ y. with_arguments c scope s.variables (next_types ts) es (before ++ as_type (next_type ts) y ∷ []) next)) ev
          ∙ (q.2 next ∙ ap (λ l. next l q.1) (append_assoc before (as_type (next_type ts) dt ∷ []) q.0))),
      keeps_then d f dk f w q.1 h mid h' ld (omega arith) k q.3,
      (subst (Has x j (next_type ts) (as_type (next_type ts) dt)) (sym (q.3.regs r lr)) hp, q.4),
    )
    second s dt w k hp ev (inr q) = inr (q.0, q.1, (λ next. ap (λ v. with_value v (λ y. with_arguments c scope s.variables (next_types ts) es (before ++ as_type (next_type ts) y ∷ []) next)) ev ∙ q.2 next), q.3)

    first : (s : State) → h.lane.on m ≡ true → Holds tb s h → (v : Value) → value_of c scope s.variables e s.world ≡ v → Gives x j (next_type ts) r d f h mid (with_value v (λ dt. given (as_type (next_type ts) dt))) → Ends E x j ts (r ∷ rs) d f before h h' s
    first s o a (got dt w) ev g = second s dt w g.0 g.1 ev ((rest (as_type (next_type ts) dt)).runs (at_world s w) g.0.going (g.0.masks m lm ∙ o) (holds_keeps x tb d f d w s h mid it (omega arith) g.0 a))
    first s o a (halts z w) ev g = let k : Stays z mid.world h' = i.gone z g.stop in
        inr (z, w, (λ next. ap (λ v. with_value v (λ y. with_arguments c scope s.variables (next_types ts) es (before ++ as_type (next_type ts) y ∷ []) next)) ev), record { stop = k.stop; world = k.world ∙ g.world })

-- the call behind its arguments: `call` is what the scalar call does with them
pub then_call : (x : Place) (tb : Table) (E : Gathering) (call : List Datum → Action) (ts : List CType) (rs : List ℕ) (rt : CType) (rd m d f j : ℕ) (value : Share → Value) (h mid h' : Share) → m < f → d ≤ rd → ((dt : Datum) → IsFine x j rt dt) →
    Gathers x tb E ts rs [] m d f j h mid → TakesIf (is_live m mid.lane) rt (Some rd) mid h' (value mid) →
    ((ds : List Datum) (w : World) → HaveAll x j ts rs ds mid → mid.world ≡ w → value mid ≡ call ds w) →
    Computes x tb (λ vs. E vs call) rt rd m d f j h h'
then_call x tb E call ts rs rt rd m d f j value h mid h' lm ld fine g tk same = record {
  gone = idle.gone;
  off = idle.off;
  runs = λ s n o a. first s o (g.runs s n o a);
}
  where
    still : (b : Bool) → is_live m mid.lane ≡ b → TakesIf b rt (Some rd) mid h' (value mid)
    still b e = subst (λ q. TakesIf q rt (Some rd) mid h' (value mid)) e tk

    idle' : Idles m f mid h'
    idle' = record {
      gone = λ z s. subst (Stays z mid.world) (sym (still false (gone_is m mid.lane z s))) (record { stop = s; world = refl });
      off = λ n o dk. subst (Keeps dk f mid.world mid) (sym (still false (off_is m mid.lane o))) (keeps_same dk f mid.world mid n refl);
    }

    idle : Idles m f h h'
    idle = idles_then m f f h mid h' lm (omega arith) g.idle idle'

    taken : (w : World) → Keeps d f w h mid → (v : Value) → Takes rt (Some rd) mid h' v → Gives x j rt rd d f h h' v
    taken w k (got dt u) t = (
      record {
        going = ap (λ (y : Share). y.lane.stop) t.3 ∙ k.going;
        regs = λ q l. ap (λ (y : Share). y.lane.reg q) t.3 ∙ (ap (λ b. cond b t.0 (mid.lane.reg q)) (same_not q rd (λ z. absurd (omega (arith, l, ld, z)))) ∙ k.regs q l);
        masks = λ q l. ap (λ (y : Share). y.lane.on q) t.3 ∙ k.masks q l;
        world = ap (λ (y : Share). y.world) t.3;
      },
      record { is = t.1 ∙ ap (datum_of rt) (sym (ap (λ (y : Share). y.lane.reg rd) t.3 ∙ ap (λ b. cond b t.0 (mid.lane.reg rd)) (same_yes rd))); fine = fine dt },
    )
    taken w k (halts z u) t = record { stop = ap (λ (y : Share). y.lane.stop) t; world = ap (λ (y : Share). y.world) t }

    first : (s : State) → h.lane.on m ≡ true → Ends E x j ts rs d f [] h mid s → Gives x j rt rd d f h h' (E s.variables call s.world)
    first s o (inl q) = subst (Gives x j rt rd d f h h') (sym (q.2 call))
        (taken q.1 q.3 (call q.0 q.1) (subst (Takes rt (Some rd) mid h') (same q.0 q.1 q.4 q.3.world) (still true (live_is m mid.lane (q.3.masks m lm ∙ o) q.3.going))))
    first s o (inr q) = subst (Gives x j rt rd d f h h') (sym (q.2 call)) (let k : Stays q.0 mid.world h' = idle'.gone q.0 q.3.stop in record { stop = k.stop; world = k.world ∙ q.3.world })
