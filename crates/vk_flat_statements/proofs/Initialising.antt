-- A declaration with an initialiser: the variable is 0 first.
use Rattle.std.proofs.Common.{arith, sym, ◌≡◌, ℕ, ◌+◌, ◌*◌, ◌<◌, ◌≤◌, Bool, cond, List, [], ◌∷◌, ◌++◌, length, subst, ap, ◌∙◌, Some, None, IsTrue, Ok}
use Rattle.std.specs.Option.{option_or}
use Rattle.vk_types.specs.declared.types.Ty.{Ty}
use Rattle.vk_types.specs.Numbers.{word_of, wrap_number}
use Rattle.vk_kinds.specs.declared.heads.CType.{CType}
use Rattle.vk_kinds.specs.declared.heads.CType.TheVariants.{Int}
use Rattle.vk_ast.specs.declared.names.NameId.{NameId}
use Rattle.vk_ast.specs.Statements.{local}
use Rattle.vk_ast.specs.Tree.{Tree, nodes_of}
use Rattle.vk_rules_book.specs.Scopes.{Scope, with_binding}
use Rattle.vk_meaning.specs.Points.{Variable, variable_among, variable_named}
use Rattle.vk_meaning.specs.Expressions.{value_of}
use Rattle.vk_meaning.specs.Statements.{assign_variable, run}
use Rattle.vk_lane.specs.Writes.{Writes}
use Rattle.vk_lane.proofs.Rules.{same_yes}
use Rattle.vk_construct.specs.Adds.{Adds, Written}
use Rattle.vk_construct.specs.Applies.{number_at}
use Rattle.vk_construct.specs.Computes.{Table}
use Rattle.vk_construct.proofs.Adding.{type_kept}
use Rattle.vk_construct_statements.specs.Follows.{AreApart, Guards, ReturnPlace}
use Rattle.vk_construct_statements.specs.Statements.{AddsStatement}
use Rattle.vk_construct_statements.proofs.Flow.{flow_assign, flow_then}
use Rattle.vk_flat.specs.declared.emitter.Place.{Place}
use Rattle.vk_flat.specs.declared.emitter.Under.{Under}
use Rattle.vk_flat.specs.declared.locals.Local.{Local}
use Rattle.vk_flat.specs.Locals.{Emits, IsVariable, is_numeric, local_named}
use Rattle.vk_flat_statements.specs.Statements.{EmitsStatement, StandFor, inner_point, returning}
use Rattle.vk_flat_statements.proofs.Alike.{some_nodes}
use Rattle.vk_flat_statements.proofs.Declaring.{local_more, variable_last}
use Rattle.vk_flat_statements.proofs.Leaves.{emitted}
use Rattle.vk_flat_statements.proofs.Standing.{larger, stands_behind}

abbrev with_place : List Local → NameId → Place → List Local
with_place locals id d = locals ++ record { name = id; place = d } ∷ []

named_last : (locals : List Local) (id : NameId) (d : Place) → local_named (with_place locals id d) id ≡ Some (record { name = id; place = d })
named_last locals id d = local_more locals (record { name = id; place = d }) id ∙ ap (λ s. option_or (cond s (Some (record { name = id; place = d })) None) (local_named locals id)) (same_yes id.0)

declared_last : (scope : Scope) (id : NameId) (t : CType) (fixed : Bool) → variable_named (with_binding scope id t fixed) id ≡ Some (record { number = length scope.inner; ctype = t })
declared_last scope id t fixed = variable_last scope.inner (record { name = id; ctype = t; fixed = fixed }) id
    ∙ ap (λ s. option_or (cond s (Some (record { number = length scope.inner; ctype = t })) None) (variable_among 0 scope.inner id)) (same_yes id.0)

variable_is : {v w : Variable} → Some v ≡ Some w → v ≡ w
variable_is e = cc

-- the new variable, among others
record IsLast (scope : Scope) (tb : Table) (t : Ty) (r : ℕ) : Type 0 where
  there : length scope.inner < tb.count
  typed : tb.ty (length scope.inner) ≡ Int t
  register : tb.reg (length scope.inner) ≡ r

last_is : (b : Written) (locals : List Local) (scope : Scope) (tb : Table) (id : NameId) (d : Place) (fixed : Bool) → StandFor b (with_place locals id d) (with_binding scope id (Int d.ty) fixed) tb → IsLast scope tb d.ty d.register
last_is b locals scope tb id d fixed st =
    let w : IsVariable (with_binding scope id (Int d.ty) fixed) tb id d = st.names.each id (record { name = id; place = d }) (named_last locals id d) in
    let named = declared_last scope id (Int d.ty) fixed in
    let same : w.variable ≡ record { number = length scope.inner; ctype = Int d.ty } = variable_is (sym w.named ∙ named) in
    record {
      there = st.names.variables.there id (record { number = length scope.inner; ctype = Int d.ty }) named;
      typed = st.names.variables.typed id (record { number = length scope.inner; ctype = Int d.ty }) named;
      register = ap (λ (v : Variable). tb.reg v.number) (sym same) ∙ w.register;
    }

fits : (n : ℕ) → 1 ≤ n → 32 + (8 * n + 1) ≤ 16 * (2 + n)
fits n h = omega (arith, h)

module _ (a b c e : Written) (locals : List Local) (l k : ℕ) (fixed : Bool) (id : NameId) (tree : Tree) (d x : Place) (u : Under) (m : Guards) (v : ReturnPlace) (em : u.mask ≡ m.running) (ef : u.free ≡ m.free) (ap_ : AreApart m)
    (num : IsTrue (is_numeric (with_place locals id d) tree)) (first : EmitsStatement a b locals (with_place locals id d) v (local l k d.ty fixed id None) m 0)
    (h : Emits b c (with_place locals id d) tree x u) (s : Adds c e (λ q. Writes m.running d.register (λ j g. Ok (word_of (wrap_number d.ty (number_at x.ty x.register g))))) 1 0) where
  second : (scope : Scope) (tb : Table) → StandFor b (with_place locals id d) (with_binding scope id (Int d.ty) fixed) tb →
      AddsStatement b e v tb tb (λ z. assign_variable (record { number = length scope.inner; ctype = Int d.ty }) (λ vs. value_of (returning v.ty z) (with_binding scope id (Int d.ty) fixed) vs tree)) m (8 * nodes_of tree + 1) 0
  second scope tb st = let w = last_is b locals scope tb id d fixed st in
      subst (λ t. AddsStatement b e v tb tb (λ z. assign_variable (record { number = length scope.inner; ctype = t }) (λ vs. value_of (returning v.ty z) (with_binding scope id (Int d.ty) fixed) vs tree)) m (8 * nodes_of tree + 1) 0) w.typed
      (flow_assign b c e v tb (λ z vs. value_of (returning v.ty z) (with_binding scope id (Int d.ty) fixed) vs tree) x.ty d.ty x.register (length scope.inner) (length b.regs) (8 * nodes_of tree) m ap_ st.registers w.there w.typed
      (emitted b c (with_place locals id d) tree x u m v.ty em ef num h (with_binding scope id (Int d.ty) fixed) tb st)
      (subst (λ r. Adds c e (λ q. Writes m.running r (λ j g. Ok (word_of (wrap_number d.ty (number_at x.ty x.register g))))) 1 0) (sym w.register) s))

  pub initialised_emits : EmitsStatement a e locals (with_place locals id d) v (local l k d.ty fixed id (Some tree)) m 0
  initialised_emits = record {
    code = λ scope loops tb st.
        let p = first.code scope loops tb st in record {
          table = p.table;
          front = p.front;
          code = larger a e _ (32 + (8 * nodes_of tree + 1)) (16 * (2 + nodes_of tree)) 0 (fits (nodes_of tree) (some_nodes tree))
              (flow_then a b e v tb p.table p.table (λ z. run (returning v.ty z) (inner_point scope loops) (local l k d.ty fixed id None))
              (λ z. assign_variable (record { number = length scope.inner; ctype = Int d.ty }) (λ vs. value_of (returning v.ty z) (with_binding scope id (Int d.ty) fixed) vs tree))
              m 32 (8 * nodes_of tree + 1) 0 ap_ p.front p.code (second scope p.table p.stand));
          stand = stands_behind c e _ 1 0 (with_place locals id d) (with_binding scope id (Int d.ty) fixed) p.table s
              (stands_behind b c _ (8 * nodes_of tree) 0 (with_place locals id d) (with_binding scope id (Int d.ty) fixed) p.table (emitted b c (with_place locals id d) tree x u m v.ty em ef num h (with_binding scope id (Int d.ty) fixed) p.table p.stand) p.stand);
        };
    kept = λ y q. type_kept c e _ 1 0 y.register (Int y.ty) s (h.kept y (first.kept y q));
  }

-- the same with the names as the code has them
pub initialised_named : (a b c e : Written) (xs ys zs : List Local) (l k : ℕ) (fixed : Bool) (id : NameId) (tree : Tree) (t : Ty) (d x : Place) (u : Under) (m : Guards) (v : ReturnPlace) → u.mask ≡ m.running → u.free ≡ m.free → AreApart m → d.ty ≡ t →
    ys ≡ xs ++ record { name = id; place = d } ∷ [] → zs ≡ ys → IsTrue (is_numeric zs tree) → EmitsStatement a b xs ys v (local l k t fixed id None) m 0 → Emits b c zs tree x u →
    Adds c e (λ q. Writes m.running d.register (λ j g. Ok (word_of (wrap_number d.ty (number_at x.ty x.register g))))) 1 0 → EmitsStatement a e xs ys v (local l k t fixed id (Some tree)) m 0
initialised_named a b c e xs ys zs l k fixed id tree t d x u m v em ef ap_ et ey ez num first h s =
    subst (λ q. EmitsStatement a e xs q v (local l k t fixed id (Some tree)) m 0) (sym ey)
    (subst (λ q. EmitsStatement a e xs (with_place xs id d) v (local l k q fixed id (Some tree)) m 0) et
    (initialised_emits a b c e xs l k fixed id tree d x u m v em ef ap_ (subst (λ q. IsTrue (is_numeric q tree)) (ez ∙ ey) num)
    (subst (λ q. EmitsStatement a b xs q v (local l k d.ty fixed id None) m 0) ey (subst (λ q. EmitsStatement a b xs ys v (local l k q fixed id None) m 0) (sym et) first))
    (subst (λ q. Emits b c q tree x u) (ez ∙ ey) h) s))
