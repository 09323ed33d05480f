-- An assignment with an operator.
use Rattle.std.proofs.Common.{arith, sym, ◌≡◌, ℕ, ◌+◌, ◌*◌, ◌<◌, false, true, ◌&&◌, Bool, List, length, refl, subst, ap, ◌∙◌, Some, IsTrue, is_some, Ok, true≢false}
use Rattle.vk_types.specs.declared.types.Ty.{Ty}
use Rattle.vk_types.specs.Numbers.{word_of, wrap_number}
use Rattle.vk_kinds.specs.declared.heads.CType.{CType}
use Rattle.vk_kinds.specs.declared.heads.CType.TheVariants.{Int}
use Rattle.vk_ast.specs.declared.names.NameId.{NameId}
use Rattle.vk_ast.specs.declared.expressions.BinOp.{BinOp}
use Rattle.vk_ast.specs.declared.expressions.BinOp.TheVariants.{Add, Sub, Mul, Div, Rem, And, Or, Xor, Shl, Shr, Eq, Ne, Lt, Le, Gt, Ge, LogAnd, LogOr}
use Rattle.vk_ast.specs.Statements.{assign}
use Rattle.vk_ast.specs.Tree.{Tree, binary, name, nodes_of}
use Rattle.vk_numbers.specs.Laws.{is_logical}
use Rattle.vk_numbers.specs.Operators.{binary_number}
use Rattle.vk_numbers.specs.Types.{binary_type}
use Rattle.vk_rules_book.specs.Scopes.{Scope}
use Rattle.vk_rules_book.specs.Typings.{typing_of}
use Rattle.vk_meaning.specs.World.{World}
use Rattle.vk_meaning.specs.Data.{Action, got}
use Rattle.vk_meaning.specs.Points.{Variable, variable_named}
use Rattle.vk_meaning.specs.Expressions.{Context, Variables, answered, both, integer_type, integers_value, name_value, value_of}
use Rattle.vk_meaning.specs.Statements.{assign_variable, assignment_to, combined}
use Rattle.vk_lane.specs.Writes.{Writes}
use Rattle.vk_construct.specs.Adds.{Adds, AddsValue, Written}
use Rattle.vk_construct.specs.Applies.{number_at, two}
use Rattle.vk_construct.specs.Computes.{Table}
use Rattle.vk_construct.specs.Trees.{HasNumber}
use Rattle.vk_construct.proofs.Adding.{type_kept}
use Rattle.vk_construct.proofs.Evaluating.{emits_same}
use Rattle.vk_construct.proofs.Trees.{integer_is, numbers_value}
use Rattle.vk_construct_statements.specs.Follows.{AreApart, Guards, ReturnPlace}
use Rattle.vk_construct_statements.specs.Statements.{AddsStatement}
use Rattle.vk_construct_statements.proofs.Flow.{flow_assign}
use Rattle.vk_construct_statements.proofs.Straight.{front_same}
use Rattle.vk_flat.specs.declared.emitter.Under.{Under}
use Rattle.vk_flat.specs.declared.emitter.Place.{Place}
use Rattle.vk_flat.specs.declared.locals.Local.{Local}
use Rattle.vk_flat.specs.Emitters.{Brings}
use Rattle.vk_flat.specs.Locals.{ArePlaces, Emits, is_numeric, local_named}
use Rattle.vk_flat.proofs.Emitting.{binary_emits, name_emits, name_type}
use Rattle.vk_flat_statements.specs.Statements.{EmitsStatement, StandFor, returning}
use Rattle.vk_flat_statements.proofs.Leaves.{emitted}
use Rattle.vk_flat_statements.proofs.Standing.{larger, stands_behind}

evaluates_both : (op : BinOp) (s t : Ty) (left right : Action) (w : World) → is_logical op ≡ false → both left right (λ y z. answered (binary_number op s t y z)) w ≡ integers_value op s t left right w
evaluates_both Add s t left right w h = refl
evaluates_both Sub s t left right w h = refl
evaluates_both Mul s t left right w h = refl
evaluates_both Div s t left right w h = refl
evaluates_both Rem s t left right w h = refl
evaluates_both And s t left right w h = refl
evaluates_both Or s t left right w h = refl
evaluates_both Xor s t left right w h = refl
evaluates_both Shl s t left right w h = refl
evaluates_both Shr s t left right w h = refl
evaluates_both Eq s t left right w h = refl
evaluates_both Ne s t left right w h = refl
evaluates_both Lt s t left right w h = refl
evaluates_both Le s t left right w h = refl
evaluates_both Gt s t left right w h = refl
evaluates_both Ge s t left right w h = refl
evaluates_both LogAnd s t left right w h = absurd (true≢false h)
evaluates_both LogOr s t left right w h = absurd (true≢false h)

-- the value that is assigned is that of the operator's expression
combines : (c : Context) (scope : Scope) (vs : Variables) (w : World) (v : Variable) (id : NameId) (l1 k1 : ℕ) (op : BinOp) (s t : Ty) (e : Tree) → is_logical op ≡ false → variable_named scope id ≡ Some v → HasNumber scope (name l1 k1 id) s → HasNumber scope e t →
    value_of c scope vs (binary 0 0 op (name l1 k1 id) e) w ≡ combined op (integer_type (typing_of scope (name l1 k1 id))) (integer_type (typing_of scope e)) (got (vs v.number)) (value_of c scope vs e) w
combines c scope vs w v id l1 k1 op s t e plain named hs ht =
    sym (numbers_value c scope vs 0 0 op s t (name l1 k1 id) e w hs ht)
    ∙ (sym (evaluates_both op s t (value_of c scope vs (name l1 k1 id)) (value_of c scope vs e) w plain)
    ∙ (ap (λ o. both (name_value c scope vs o id) (value_of c scope vs e) (λ y z. answered (binary_number op s t y z)) w) named
    ∙ (ap (λ u. combined op u t (got (vs v.number)) (value_of c scope vs e) w) (sym (integer_is (typing_of scope (name l1 k1 id)) s hs))
    ∙ ap (λ u. combined op (integer_type (typing_of scope (name l1 k1 id))) u (got (vs v.number)) (value_of c scope vs e) w) (sym (integer_is (typing_of scope e) t ht)))))

both_true : (a b : Bool) → IsTrue a → IsTrue b → IsTrue (a && b)
both_true true b h k = k
both_true false b h k = h

module _ (a b c f : Written) (locals : List Local) (l k l1 k1 : ℕ) (id : NameId) (x : Local) (op : BinOp) (e : Tree) (y d : Place) (u : Under) (m : Guards) (v : ReturnPlace) (em : u.mask ≡ m.running) (ef : u.free ≡ m.free) (ap_ : AreApart m) (lm : u.mask < u.free)
    (logical : is_logical op ≡ false) (same : d.ty ≡ binary_type op x.place.ty y.ty) (places : ArePlaces a locals)
    (is : local_named locals id ≡ Some x) (num : IsTrue (is_numeric locals e)) (h : Emits a b locals e y u) (third : Brings b c (two (binary_number op x.place.ty y.ty) x.place.ty x.place.register y.ty y.register) d u 3)
    (s : Adds c f (λ q. Writes m.running x.place.register (λ j g. Ok (word_of (wrap_number x.place.ty (number_at d.ty d.register g))))) 1 0) where
  whole : Emits a c locals (binary 0 0 op (name l1 k1 id) e) d u
  whole = binary_emits a a b c locals 0 0 op (name l1 k1 id) e x.place y d u lm logical same (name_emits a locals l1 k1 id x u is places) h third

  code : (t : CType) (scope : Scope) (tb : Table) → StandFor a locals scope tb → AddsValue a c tb (λ z vs. value_of (returning t z) scope vs (binary 0 0 op (name l1 k1 id) e)) (Int d.ty) d.register m.running (length a.regs) m.free (8 * (1 + 1 + nodes_of e))
  code t scope tb st = emitted a c locals (binary 0 0 op (name l1 k1 id) e) d u m t em ef (both_true (is_some (local_named locals id)) (is_numeric locals e) (ap is_some is) num) whole scope tb st

  assigned_ : (scope : Scope) (tb : Table) (st : StandFor a locals scope tb) → AddsStatement a f v tb tb (λ z. assignment_to (returning v.ty z) scope (Some (st.names.each id x is).variable) (Some op) (name l1 k1 id) e) m (8 * (1 + 1 + nodes_of e) + 1) 0
  assigned_ scope tb st = let w = st.names.each id x is in let typed = st.names.variables.typed id w.variable w.named in
      subst (λ t. AddsStatement a f v tb tb (λ z. assign_variable (record { number = w.variable.number; ctype = t }) (λ vs. combined op (integer_type (typing_of scope (name l1 k1 id))) (integer_type (typing_of scope e)) (got (vs w.variable.number)) (value_of (returning v.ty z) scope vs e))) m (8 * (1 + 1 + nodes_of e) + 1) 0) typed
      (flow_assign a c f v tb (λ z vs. combined op (integer_type (typing_of scope (name l1 k1 id))) (integer_type (typing_of scope e)) (got (vs w.variable.number)) (value_of (returning v.ty z) scope vs e)) d.ty x.place.ty d.register w.variable.number (length a.regs) (8 * (1 + 1 + nodes_of e)) m ap_ st.registers (st.names.variables.there id w.variable w.named) (typed ∙ w.ctype)
      (emits_same a c tb _ _ (Int d.ty) d.register m.running (length a.regs) m.free (8 * (1 + 1 + nodes_of e))
      (λ z vs g. combines (returning v.ty z) scope vs g w.variable id l1 k1 op x.place.ty y.ty e logical w.named (name_type locals scope tb l1 k1 id x is st.names) (h.typed scope tb st.names)) (code v.ty scope tb st))
      (subst (λ r. Adds c f (λ q. Writes m.running r (λ j g. Ok (word_of (wrap_number x.place.ty (number_at d.ty d.register g))))) 1 0) (sym w.register) s))

  pub combined_emits : EmitsStatement a f locals locals v (assign l k (Some op) (name l1 k1 id) e) m 0
  combined_emits = record {
    code = λ scope loops tb st. record {
      table = tb;
      front = front_same tb;
      code = larger a f _ (8 * (1 + 1 + nodes_of e) + 1) (16 * (1 + 1 + nodes_of e)) 0 (omega arith)
          (subst (λ o. AddsStatement a f v tb tb (λ z. assignment_to (returning v.ty z) scope o (Some op) (name l1 k1 id) e) m (8 * (1 + 1 + nodes_of e) + 1) 0) (sym (st.names.each id x is).named) (assigned_ scope tb st));
      stand = stands_behind c f _ 1 0 locals scope tb s (stands_behind a c _ (8 * (1 + 1 + nodes_of e)) 0 locals scope tb (code v.ty scope tb st) st);
    };
    kept = λ z p. type_kept c f _ 1 0 z.register (Int z.ty) s (whole.kept z p);
  }
