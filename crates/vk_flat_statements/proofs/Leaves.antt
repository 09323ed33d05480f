-- Statements without statements in them.
use Rattle.std.proofs.Common.{arith, sym, ◌≡◌, ℕ, ◌+◌, ◌*◌, ◌<◌, Bool, List, [], ◌∷◌, ◌++◌, length, pos, subst, ap, ◌∙◌, Some, None, IsTrue, Ok}
use Rattle.vk_types.specs.Numbers.{word_of, wrap_number}
use Rattle.vk_kinds.specs.declared.heads.CType.{CType}
use Rattle.vk_kinds.specs.declared.heads.CType.TheVariants.{Int}
use Rattle.vk_ast.specs.declared.names.NameId.{NameId}
use Rattle.vk_ast.specs.Statements.{assign, local, value}
use Rattle.vk_ast.specs.Tree.{Tree, name, nodes_of}
use Rattle.vk_rules_book.specs.Scopes.{Scope}
use Rattle.vk_meaning.specs.Expressions.{value_of}
use Rattle.vk_meaning.specs.Statements.{assign_variable, assignment_to, fell, with_variable}
use Rattle.vk_meaning.specs.Data.{number}
use Rattle.vk_lane.specs.Writes.{Writes}
use Rattle.vk_construct.specs.Adds.{Adds, AddsValue, Written}
use Rattle.vk_construct.specs.Applies.{number_at}
use Rattle.vk_construct.specs.Computes.{Table}
use Rattle.vk_construct.proofs.Adding.{is_inside, type_kept}
use Rattle.vk_construct.proofs.Evaluating.{emits_same}
use Rattle.vk_construct_statements.specs.Follows.{AreApart, Guards, ReturnPlace, pushed}
use Rattle.vk_construct_statements.specs.Statements.{AddsStatement}
use Rattle.vk_construct_statements.proofs.Flow.{flow_assign, flow_declared, flow_value}
use Rattle.vk_construct_statements.proofs.Straight.{front_pushed, front_same}
use Rattle.vk_flat.specs.declared.emitter.Under.{Under}
use Rattle.vk_flat.specs.declared.emitter.Place.{Place}
use Rattle.vk_flat.specs.declared.locals.Local.{Local}
use Rattle.vk_flat.specs.Locals.{Emits, is_numeric, local_named}
use Rattle.vk_flat_statements.specs.Statements.{EmitsStatement, StandFor, returning}
use Rattle.vk_flat.specs.Emitters.{IsPlace, with_register}
use Rattle.vk_flat.proofs.Grown.{fresh_then}
use Rattle.vk_flat.proofs.Steps.{new_place}
use Rattle.vk_flat_statements.proofs.Declaring.{stands_more}
use Rattle.vk_flat_statements.proofs.Standing.{larger, numeric_same, stands_behind}

-- an expression's code, as a function of this result sees its value
pub emitted : (a b : Written) (locals : List Local) (e : Tree) (d : Place) (u : Under) (m : Guards) (t : CType) → u.mask ≡ m.running → u.free ≡ m.free → IsTrue (is_numeric locals e) → Emits a b locals e d u →
    (scope : Scope) (tb : Table) → StandFor a locals scope tb → AddsValue a b tb (λ c vs. value_of (returning t c) scope vs e) (Int d.ty) d.register m.running (length a.regs) m.free (8 * nodes_of e)
emitted a b locals e d u m t em ef num h scope tb st = subst (λ k. AddsValue a b tb (λ c vs. value_of (returning t c) scope vs e) (Int d.ty) d.register k (length a.regs) m.free (8 * nodes_of e)) em
    (subst (λ k. AddsValue a b tb (λ c vs. value_of (returning t c) scope vs e) (Int d.ty) d.register u.mask (length a.regs) k (8 * nodes_of e)) ef
    (emits_same a b tb _ _ (Int d.ty) d.register u.mask (length a.regs) u.free (8 * nodes_of e) (λ c vs w. ap (λ f. f w) (numeric_same locals scope tb st.names t c vs e num)) (h.code scope tb st.names st.registers)))

pub value_emits : (a b : Written) (locals : List Local) (l k : ℕ) (e : Tree) (d : Place) (u : Under) (m : Guards) (v : ReturnPlace) → u.mask ≡ m.running → u.free ≡ m.free → AreApart m → IsTrue (is_numeric locals e) → Emits a b locals e d u →
    EmitsStatement a b locals locals v (value l k e) m 0
value_emits a b locals l k e d u m v em ef ap_ num h = record {
  code = λ scope loops tb st. let p = emitted a b locals e d u m v.ty em ef num h scope tb st in record {
    table = tb;
    front = front_same tb;
    code = larger a b _ (8 * nodes_of e) (16 * (1 + nodes_of e)) 0 (omega arith) (flow_value a b v tb _ (Int d.ty) d.register (length a.regs) (8 * nodes_of e) m ap_ st.registers p);
    stand = stands_behind a b _ (8 * nodes_of e) 0 locals scope tb p st;
  };
  kept = h.kept;
}

module _ (a b c : Written) (locals : List Local) (l k l1 k1 : ℕ) (id : NameId) (x : Local) (e : Tree) (d : Place) (u : Under) (m : Guards) (v : ReturnPlace) (em : u.mask ≡ m.running) (ef : u.free ≡ m.free) (ap_ : AreApart m)
    (is : local_named locals id ≡ Some x) (num : IsTrue (is_numeric locals e)) (h : Emits a b locals e d u) (s : Adds b c (λ q. Writes m.running x.place.register (λ j g. Ok (word_of (wrap_number x.place.ty (number_at d.ty d.register g))))) 1 0) where
  plain : (scope : Scope) (tb : Table) (st : StandFor a locals scope tb) → AddsStatement a c v tb tb (λ z. assignment_to (returning v.ty z) scope (Some (st.names.each id x is).variable) None (name l1 k1 id) e) m (8 * nodes_of e + 1) 0
  plain scope tb st = let w = st.names.each id x is in let typed = st.names.variables.typed id w.variable w.named in
      subst (λ t. AddsStatement a c v tb tb (λ z. assign_variable (record { number = w.variable.number; ctype = t }) (λ vs. value_of (returning v.ty z) scope vs e)) m (8 * nodes_of e + 1) 0) typed
      (flow_assign a b c v tb (λ z vs. value_of (returning v.ty z) scope vs e) d.ty x.place.ty d.register w.variable.number (length a.regs) (8 * nodes_of e) m ap_ st.registers (st.names.variables.there id w.variable w.named) (typed ∙ w.ctype)
      (emitted a b locals e d u m v.ty em ef num h scope tb st)
      (subst (λ r. Adds b c (λ q. Writes m.running r (λ j g. Ok (word_of (wrap_number x.place.ty (number_at d.ty d.register g))))) 1 0) (sym w.register) s))

  pub plain_emits : EmitsStatement a c locals locals v (assign l k None (name l1 k1 id) e) m 0
  plain_emits = record {
    code = λ scope loops tb st. record {
      table = tb;
      front = front_same tb;
      code = larger a c _ (8 * nodes_of e + 1) (16 * (1 + 1 + nodes_of e)) 0 (omega arith)
          (subst (λ o. AddsStatement a c v tb tb (λ z. assignment_to (returning v.ty z) scope o None (name l1 k1 id) e) m (8 * nodes_of e + 1) 0) (sym (st.names.each id x is).named) (plain scope tb st));
      stand = stands_behind b c _ 1 0 locals scope tb s (stands_behind a b _ (8 * nodes_of e) 0 locals scope tb (emitted a b locals e d u m v.ty em ef num h scope tb st) st);
    };
    kept = λ y p. type_kept b c _ 1 0 y.register (Int y.ty) s (h.kept y p);
  }

-- a variable more, which is 0
pub declared_emits : (a f b : Written) (locals : List Local) (l k : ℕ) (fixed : Bool) (id : NameId) (d : Place) (m : Guards) (v : ReturnPlace) → AreApart m → f ≡ with_register a d.ty → d.register ≡ length a.regs →
    Adds f b (λ q. Writes m.running d.register (λ j h. Ok 0)) 1 0 → EmitsStatement a b locals (locals ++ record { name = id; place = d } ∷ []) v (local l k d.ty fixed id None) m 0
declared_emits a f b locals l k fixed id d m v ap_ e at p = record {
  code = λ scope loops tb st. record {
    table = pushed tb d.register (Int d.ty);
    front = front_pushed tb d.register (Int d.ty);
    code = larger a b _ 1 32 0 (omega arith) (subst (λ n. AddsStatement a b v tb (pushed tb d.register (Int d.ty)) (λ c s. fell (with_variable s n (number (pos 0)))) m 1 0) st.count
        (flow_declared a b v tb d.ty d.register m ap_ (λ x lx z. absurd (above (tb.reg x) (st.registers.below x lx) z)) whole));
    stand = stands_more a b locals scope tb id d fixed st (λ x t h. type_kept a b _ 1 0 x t whole h) here at (subst (λ n. n < length b.regs) at (is_inside b.regs d.register (Int d.ty) here));
  };
  kept = λ y h. type_kept a b _ 1 0 y.register (Int y.ty) whole h;
}
  where
    whole : Adds a b (λ q. Writes m.running d.register (λ j h. Ok 0)) 1 0
    whole = fresh_then a f d.ty e b _ 1 0 p

    here : IsPlace b d
    here = type_kept f b _ 1 0 d.register (Int d.ty) p (new_place a f d e at)

    above : (r : ℕ) → r < length a.regs → r ≡ d.register → ⊥
    above r lr z = omega (arith, lr, z, at)
