-- Loops, put together: the running lanes come into the loop's mask f, a block runs again and again while a lane is in it, and behind
-- it those that have not returned run on.
use Rattle.std.proofs.Common.{arith, sym, ◌≡◌, ℕ, ◌+◌, ◌<◌, ◌∷◌, ◌++◌, length, Some, subst, ap, ◌∙◌}
use Rattle.std.specs.Prelude.{slice_get}
use Rattle.vk_types.specs.declared.types.Ty.{Ty}
use Rattle.vk_kinds.specs.declared.heads.CType.TheVariants.{Int}
use Rattle.vk_meaning.specs.Statements.{repeat, turns, with_third}
use Rattle.vk_code.specs.declared.instruction.Instr.{Instr}
use Rattle.vk_code.specs.declared.instruction.Operation.TheVariants.{Loop}
use Rattle.vk_code.specs.Instruction.{operation_of}
use Rattle.vk_code.specs.Listing.{Routine}
use Rattle.vk_lane.specs.Pieces.{Change, Repeats}
use Rattle.vk_lane.specs.Entries.{LaneCall, place_of}
use Rattle.vk_lane.proofs.Rules.{does_loop}
use Rattle.vk_construct.specs.Computes.{Computes, Table}
use Rattle.vk_construct.specs.Adds.{Adds, Finishes, HasType, HasWritten, IsTableOf, TestsOn, Written}
use Rattle.vk_construct.proofs.Adding.{adds_then, adds_weaken, has_written_less, table_there, type_there}
use Rattle.vk_construct.proofs.Evaluating.{Expression}
use Rattle.vk_construct_statements.specs.Follows.{AreApart, Follows, Guards, IsTested, ReturnPlace, Turn, Works, inner}
use Rattle.vk_construct_statements.specs.Statements.{AddsStatement, Meets}
use Rattle.vk_construct_statements.proofs.Flow.{Statement, good_loop}
use Rattle.vk_construct_statements.proofs.Loops.{follows_do, follows_while, tests_on, turn_of, works_body, works_third}

-- ---- blocks

-- what has come behind does the same behind other code
pub adds_elsewhere : (a b c d : Written) (F : LaneCall → Change) (s depth : ℕ) → (p : Adds a b F s depth) → c.regs ≡ a.regs → d.regs ≡ b.regs → c.slots ≡ a.slots → d.slots ≡ b.slots → c.masks ≡ a.masks → d.masks ≡ b.masks → c.params ≡ a.params → d.params ≡ b.params →
    d.instrs ≡ c.instrs ++ p.piece → Adds c d F s depth
adds_elsewhere a b c d F s depth p er er' es es' em em' ep ep' ei = record {
  piece = p.piece;
  types = p.types;
  calls = p.calls;
  instrs = ei;
  regs = er' ∙ (p.regs ∙ ap (λ l. l ++ p.types) (sym er));
  slots = es' ∙ (p.slots ∙ ap (λ l. l ++ p.calls) (sym es));
  masks = let le = p.masks in omega (arith, le, em, em');
  params = ep' ∙ (p.params ∙ sym ep);
  good = λ e c' f. p.good e c' (finishes c' f);
  does = λ q h. p.does q (record { place = h.place; params = h.params ∙ ep'; types = h.types; code = finishes q.site.code.routine h.code });
  short = p.short;
}
  where
    finishes : (c' : Routine) → Finishes c' d → Finishes c' b
    finishes c' f = record {
      regs = λ k t e. f.regs k t (subst (λ l. slice_get l k ≡ Some t) (sym er') e);
      masks = let le = f.masks in omega (arith, le, em');
      slots = λ k x e. f.slots k x (subst (λ l. slice_get l k ≡ Some x) (sym es') e);
    }

-- a loop: its instruction stands before the block
pub adds_loop : (a b c : Written) (i : Instr) (F : LaneCall → Change) (s depth : ℕ) → (block : Adds a b F s depth) → operation_of i ≡ Some (Loop (length block.piece)) → i.m < b.masks → c.instrs ≡ a.instrs ++ i ∷ block.piece →
    c.regs ≡ b.regs → c.slots ≡ b.slots → c.masks ≡ b.masks → c.params ≡ b.params → Adds a c (λ q. Repeats i.m (F q) q.site.turns) (s + 1) (depth + 1)
adds_loop a b c i F s depth block is lm ei er es em ep = record {
  piece = i ∷ block.piece;
  types = block.types;
  calls = block.calls;
  instrs = ei;
  regs = er ∙ block.regs;
  slots = es ∙ block.slots;
  masks = let le = block.masks in omega (arith, le, em);
  params = ep ∙ block.params;
  good = λ e r f. let le = f.masks in good_loop e r i block.piece depth is (omega (arith, lm, le, em)) (block.good e r (finishes r f));
  does = λ q h. does_loop (place_of q) (F q) i block.piece h.place.cares is (block.does q (record { place = h.place; params = h.params ∙ ep; types = h.types; code = finishes q.site.code.routine h.code }));
  short = let le = block.short in omega (arith, le);
}
  where
    finishes : (r : Routine) → Finishes r c → Finishes r b
    finishes r f = record {
      regs = λ k t e. f.regs k t (subst (λ l. slice_get l k ≡ Some t) (sym er) e);
      masks = let le = f.masks in omega (arith, le, em);
      slots = λ k x e. f.slots k x (subst (λ l. slice_get l k ≡ Some x) (sym es) e);
    }

-- ---- turns

-- the condition, under the loop's mask f, which then has the lanes where it holds
pub flow_test : (a b c : Written) (tb : Table) (e : Expression) (t : Ty) (r k f staying n depth : ℕ) → staying < f → IsTableOf a tb k → HasType b r t → Adds a b (λ q. Computes (place_of q) tb (e q.context) (Int t) r f k (f + 1)) n depth → Adds b c (TestsOn f f r) 1 depth →
    Adds a c (λ q. IsTested (place_of q) tb (e q.context) f staying) (n + 1) depth
flow_test a b c tb e t r k f staying n depth l it tr p p' = adds_weaken a c _ _ (n + 1) (n + 1) depth (adds_then a b c _ _ n 1 depth p p') (omega arith)
    (λ q hw j h h' s s' x. let there : HasWritten q b = has_written_less b c _ 1 depth q p' hw in
    tests_on (place_of q) tb (e q.context) t r k f staying j h x.0 h' l (table_there q a tb k (has_written_less a b _ n depth q p there) it) (type_there q b r (Int t) there tr) x.3 x.1 x.2)

-- the running mask is that of the loop, and the body comes
pub flow_body : (a b c : Written) (v : ReturnPlace) (tb : Table) (body : Statement) (f staying n depth : ℕ) → staying < f → Adds a b (Meets (f + 1) f f) 1 depth → AddsStatement b c v tb tb body (inner f staying) n depth →
    Adds a c (λ q. Works (place_of q) v tb (body q.context) f staying) (1 + n) depth
flow_body a b c v tb body f staying n depth l p p' = adds_weaken a c _ _ (1 + n) (1 + n) depth (adds_then a b c _ _ 1 n depth p p') (omega arith)
    (λ q hw j h h' s s' x. works_body (place_of q) v tb (body q.context) f staying j h x.0 h' l x.1 x.2)

-- the third part of a `for` comes to lanes that ended the body by `continue` too
pub flow_third : (a b c d : Written) (v : ReturnPlace) (tb : Table) (body third : Statement) (f staying n1 n2 depth : ℕ) → staying < f → Adds a b (λ q. Works (place_of q) v tb (body q.context) f staying) n1 depth → Adds b c (Meets (f + 1) f staying) 1 depth →
    AddsStatement c d v tb tb third (inner f staying) n2 depth → Adds a d (λ q. Works (place_of q) v tb (with_third (body q.context) (third q.context)) f staying) (n1 + 1 + n2) depth
flow_third a b c d v tb body third f staying n1 n2 depth l p1 p2 p3 = adds_weaken a d _ _ (n1 + 1 + n2) (n1 + 1 + n2) depth (adds_then a c d _ _ (n1 + 1) n2 depth (adds_then a b c _ _ n1 1 depth p1 p2) p3) (omega arith)
    (λ q hw j h h' s s' x. let y = x.1 in works_third (place_of q) v tb (body q.context) (third q.context) f staying j h y.0 x.0 h' l y.1 y.2 x.2)

-- the work, the lanes that have not returned, the condition
pub flow_turn : (a b c d : Written) (v : ReturnPlace) (tb : Table) (e : Expression) (work : Statement) (f staying n1 n2 depth : ℕ) → staying < f → Adds a b (λ q. Works (place_of q) v tb (work q.context) f staying) n1 depth → Adds b c (Meets f f staying) 1 depth →
    Adds c d (λ q. IsTested (place_of q) tb (e q.context) f staying) n2 depth → Adds a d (λ q. Turn (place_of q) v tb (e q.context) (work q.context) f staying) (n1 + 1 + n2) depth
flow_turn a b c d v tb e work f staying n1 n2 depth l p1 p2 p3 = adds_weaken a d _ _ (n1 + 1 + n2) (n1 + 1 + n2) depth (adds_then a c d _ _ (n1 + 1) n2 depth (adds_then a b c _ _ n1 1 depth p1 p2) p3) (omega arith)
    (λ q hw j h h' s s' x. let y = x.1 in turn_of (place_of q) v tb (e q.context) (work q.context) f staying j h y.0 x.0 h' l y.1 y.2 x.2)

-- ---- loops

-- a `do`: its turns
pub flow_do : (a b c d : Written) (v : ReturnPlace) (tb : Table) (e : Expression) (work : Statement) (m : Guards) (i : Instr) (n depth : ℕ) → AreApart m → i.m ≡ m.free → Adds a b (Meets m.free m.running m.running) 1 depth →
    Adds b c (λ q. Repeats i.m (λ j h h'. Turn (place_of q) v tb (e q.context) (work q.context) m.free m.staying j h h') q.site.turns) n depth → Adds c d (Meets m.running m.running m.staying) 1 depth →
    AddsStatement a d v tb tb (λ c. turns c.turns (e c) (work c)) m (n + 2) depth
flow_do a b c d v tb e work m i n depth ap_ im p1 p2 p3 = adds_weaken a d _ _ (1 + n + 1) (n + 2) depth (adds_then a c d _ _ (1 + n) 1 depth (adds_then a b c _ _ 1 n depth p1 p2) p3) (omega arith)
    (λ q hw j h h' s s' x. let y = x.1 in
    subst (λ k. Follows (place_of q) v tb tb (turns k (e q.context) (work q.context)) m j h h') hw.place.turns
    (follows_do (place_of q) v tb (e q.context) (work q.context) q.site.turns m j h y.0 x.0 h' ap_ y.1 (subst (λ k. Repeats k (Turn (place_of q) v tb (e q.context) (work q.context) m.free m.staying) q.site.turns j y.0 x.0) im y.2) x.2))

-- a `while`, and a `for` behind its first part: the condition once before the turns
pub flow_while : (a b c d f : Written) (v : ReturnPlace) (tb : Table) (e : Expression) (work : Statement) (m : Guards) (i : Instr) (n1 n2 depth : ℕ) → AreApart m → i.m ≡ m.free → Adds a b (Meets m.free m.running m.running) 1 depth → Adds b c (λ q. IsTested (place_of q) tb (e q.context) m.free m.staying) n1 depth →
    Adds c d (λ q. Repeats i.m (λ j h h'. Turn (place_of q) v tb (e q.context) (work q.context) m.free m.staying j h h') q.site.turns) n2 depth → Adds d f (Meets m.running m.running m.staying) 1 depth →
    AddsStatement a f v tb tb (λ c. repeat c.turns (e c) (work c)) m (n1 + n2 + 2) depth
flow_while a b c d f v tb e work m i n1 n2 depth ap_ im p1 p2 p3 p4 = adds_weaken a f _ _ (1 + n1 + n2 + 1) (n1 + n2 + 2) depth (adds_then a d f _ _ (1 + n1 + n2) 1 depth (adds_then a c d _ _ (1 + n1) n2 depth (adds_then a b c _ _ 1 n1 depth p1 p2) p3) p4) (omega arith)
    (λ q hw j h h' s s' x. let y3 = x.1 in let y2 = y3.1 in
    subst (λ k. Follows (place_of q) v tb tb (repeat k (e q.context) (work q.context)) m j h h') hw.place.turns
    (follows_while (place_of q) v tb (e q.context) (work q.context) q.site.turns m j h y2.0 y3.0 x.0 h' ap_ y2.1 y2.2 (subst (λ k. Repeats k (Turn (place_of q) v tb (e q.context) (work q.context) m.free m.staying) q.site.turns j y3.0 x.0) im y3.2) x.2))
