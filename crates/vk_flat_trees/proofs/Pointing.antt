-- The code of pointers, places and what is loaded from there.
use Rattle.std.proofs.Common.{arith, sym, ◌≡◌, ℕ, ◌+◌, ◌*◌, ◌<◌, ◌≤◌, ◌==◌, Bool, true, false, List, [], ◌∷◌, length, cond, refl, subst, ap, ap₂, ◌∙◌, Option, Some, None}
use Rattle.std.specs.Option.{option_map, option_or}
use Rattle.std.specs.Prelude.{slice_get, unwrap_or}
use Rattle.vk_types.specs.declared.types.Ty.{Ty}
use Rattle.vk_kinds.specs.declared.heads.CType.{CType}
use Rattle.vk_kinds.specs.declared.heads.CType.TheVariants.{Void, Int, Ptr}
use Rattle.vk_ast.specs.declared.names.NameId.{NameId}
use Rattle.vk_ast.specs.declared.expressions.BinOp.{BinOp}
use Rattle.vk_ast.specs.declared.expressions.BinOp.TheVariants.{Add, Sub, Mul, Div, Rem, And, Or, Xor, Shl, Shr, Eq, Ne, Lt, Le, Gt, Ge, LogAnd, LogOr}
use Rattle.vk_ast.specs.Tree.{Tree, addr, binary, call, cast, choice, deref, index, int, name, nodes_of, unary}
use Rattle.vk_rules_book.specs.declared.contexts.Binding.{Binding}
use Rattle.vk_rules_book.specs.declared.typings.Typing.{Typing}
use Rattle.vk_rules_book.specs.declared.typings.Typing.TheVariants.{Number as ANumber, Cell, Pointer as PointerTo}
use Rattle.vk_rules_book.specs.Scopes.{Scope, a_variable, inner_or, last_binding, meaning_of, same_name}
use Rattle.vk_rules_book.specs.Typings.{binary_typing, element_typing, is_plus, name_typing, number_type, pointed_typing, then_number, typing_of, with_address}
use Rattle.vk_meaning.specs.Data.{and_then, loaded}
use Rattle.vk_meaning.specs.Points.{Variable, variable_among, variable_named}
use Rattle.vk_meaning.specs.Expressions.{address_of, name_value, pointed_type, value_of}
use Rattle.vk_code.specs.declared.instruction.Instr.{Instr}
use Rattle.vk_lane.specs.Entries.{place_of}
use Rattle.vk_construct.specs.Adds.{HasType, IsTableOf, Puts, Written}
use Rattle.vk_construct.specs.Computes.{Table}
use Rattle.vk_construct.specs.Trees.{AddsTree, HasNumber}
use Rattle.vk_construct.proofs.Adding.{before, is_inside, no_fewer}
use Rattle.vk_construct.proofs.Names.{number_name}
use Rattle.vk_construct.proofs.Evaluating.{emits_less, emits_same}
use Rattle.vk_construct_memory.specs.Pointers.{AddsPointerTree}
use Rattle.vk_construct_memory.proofs.Giving.{put_less}
use Rattle.vk_construct_memory.proofs.Loading.{emits_loaded, emits_pointer}
use Rattle.vk_construct_places.specs.Places.{AddsPlace, MayMove, Moves, part_nodes}
use Rattle.vk_construct_places.proofs.Nodes.{place_deref, place_first, place_index, pointer_address, sum_right}
use Rattle.vk_flat.specs.declared.emitter.Place.{Place}
use Rattle.vk_flat.specs.declared.emitter.Under.{Under}
use Rattle.vk_flat_pointers.specs.declared.homes.Home.TheVariants.{Number, Pointer as Pointing}
use Rattle.vk_flat_pointers.specs.declared.homes.Named.{Named}
use Rattle.vk_flat_pointers.specs.declared.homes.Pointer.{Pointer}
use Rattle.vk_flat_pointers.specs.Homes.{home_named}
use Rattle.vk_flat_pointers.specs.Pieces.{HasLoaded, HasMoved, IsPointerPlace, in_register}
use Rattle.vk_flat_trees.specs.Emits.{EmitsNumber, EmitsPlace, EmitsPointer, Grows, IsPointerTo}
use Rattle.vk_flat_trees.specs.Names.{AreHomes, AreNames, IsUsable, is_zero}
use Rattle.vk_flat_trees.proofs.Emitting.{grows_same, grows_then, table_then}

-- ---- the type of a pointer's name

abbrev ctype_of : Variable → CType
ctype_of x = x.ctype

abbrev type_bound : Binding → CType
type_bound b = b.ctype

-- the variable that a name means has the type of the declaration that it means
types_agree : (k : ℕ) (bs : List Binding) (id : NameId) → option_map ctype_of (variable_among k bs id) ≡ option_map type_bound (last_binding bs id)
unfolding last_binding
types_agree k [] id = refl
types_agree k (b ∷ bs) id = go (variable_among (k + 1) bs id) (last_binding bs id) (same_name b.name id) (types_agree (k + 1) bs id)
  where
    go : (x : Option Variable) (y : Option Binding) (same : Bool) → option_map ctype_of x ≡ option_map type_bound y →
        option_map ctype_of (option_or x (cond same (Some (record { number = k; ctype = b.ctype })) None)) ≡ option_map type_bound (option_or y (cond same (Some b) None))
    go None None true e = refl
    go None None false e = refl
    go (Some x) None same e = cc
    go None (Some y) same e = cc
    go (Some x) (Some y) same e = e

variable_meaning : (scope : Scope) (id : NameId) (x : Variable) → variable_named scope id ≡ Some x → (fixed : Bool) × (meaning_of scope id ≡ Some (a_variable x.ctype fixed))
unfolding meaning_of
variable_meaning scope id x e = go (last_binding scope.inner id) (sym (types_agree 0 scope.inner id) ∙ ap (option_map ctype_of) e)
  where
    go : (y : Option Binding) → option_map type_bound y ≡ Some x.ctype → (fixed : Bool) × (inner_or y (scope.file id) ≡ Some (a_variable x.ctype fixed))
    go None f = cc
    go (Some y) f = (y.fixed, ap (λ (t : Option CType). Some (a_variable (unwrap_or t Void) y.fixed)) f)

pub pointer_typing : (scope : Scope) (l k : ℕ) (id : NameId) (x : Variable) (to : Ty) (written : Bool) → variable_named scope id ≡ Some x → x.ctype ≡ Ptr to written → typing_of scope (name l k id) ≡ PointerTo to written
pointer_typing scope l k id x to written is ty =
    let m : (fixed : Bool) × (meaning_of scope id ≡ Some (a_variable x.ctype fixed)) = variable_meaning scope id x is in
    ap name_typing (m.1 ∙ ap (λ c. Some (a_variable c m.0)) ty)

-- ---- types of sums and places

pub sum_typing : (x y : Typing) (to s : Ty) (written : Bool) → x ≡ PointerTo to written → number_type y ≡ Some s → binary_typing Add x y ≡ PointerTo to written
sum_typing x y to s written e n = ap (λ t. binary_typing Add t y) e ∙ ap (λ o. then_number o (λ u. PointerTo to written)) n

pub plus_is : (op : BinOp) → is_plus op ≡ true → op ≡ Add
plus_is Add e = refl
plus_is Sub e = cc
plus_is Mul e = cc
plus_is Div e = cc
plus_is Rem e = cc
plus_is And e = cc
plus_is Or e = cc
plus_is Xor e = cc
plus_is Shl e = cc
plus_is Shr e = cc
plus_is Eq e = cc
plus_is Ne e = cc
plus_is Lt e = cc
plus_is Le e = cc
plus_is Gt e = cc
plus_is Ge e = cc
plus_is LogAnd e = cc
plus_is LogOr e = cc

pub cell_typing : (x y : Typing) (to s : Ty) (written : Bool) → x ≡ PointerTo to written → number_type y ≡ Some s → element_typing x y ≡ Cell to written
cell_typing x y to s written e n = ap (λ t. element_typing t y) e ∙ ap (λ o. then_number o (λ u. Cell to written)) n

-- ---- pointers

pub pointer_emits : (a : Written) (names : List Named) (l k : ℕ) (id : NameId) (p : Pointer) (u : Under) → home_named names id ≡ Some (Pointing p) → AreHomes a names → EmitsPointer a a names (name l k id) p u
pointer_emits a names l k id p u is homes = record {
  code = λ scope tb vars it. let v = vars.each id (Pointing p) is in
      subst (λ r. AddsPointerTree a a scope tb (name l k id) p.to p.written r u.mask u.free) v.register (at scope tb vars it v.variable v.named v.ctype v.register);
  typed = λ scope tb vars. let v = vars.each id (Pointing p) is in pointer_typing scope l k id v.variable p.to p.written v.named v.ctype;
  place = here.typed;
  moving = here.moving;
  grows = grows_same a;
}
  where
    here : IsUsable a p
    here = homes id (Pointing p) is

    at : (scope : Scope) (tb : Table) → AreNames names scope tb → IsTableOf a tb (length a.regs) → (v : Variable) → variable_named scope id ≡ Some v → v.ctype ≡ Ptr p.to p.written → tb.reg v.number ≡ p.register →
        AddsPointerTree a a scope tb (name l k id) p.to p.written (tb.reg v.number) u.mask u.free
    at scope tb vars it v named ty er =
        emits_less a a tb _ (Ptr p.to p.written) (tb.reg v.number) u.mask (length a.regs) u.free (length a.regs) u.free 0 8 (omega arith) (omega arith) (omega arith)
        (emits_same a a tb _ _ (Ptr p.to p.written) (tb.reg v.number) u.mask (length a.regs) u.free 0 (λ c vs w. ap (λ o. name_value c scope vs o id w) (sym named))
        (emits_pointer a tb v.number p.to p.written u.mask (length a.regs) u.free it (vars.variables.there id v named) (vars.variables.typed id v named ∙ ty)
        (λ q hw. subst (λ r. (place_of q).usable r ≡ true) (sym er) (here.usable q hw))))

pub address_emits : (a b : Written) (names : List Named) (l k : ℕ) (e : Tree) (p : Pointer) (u : Under) → EmitsPlace a b names e p u → EmitsPointer a b names (addr l k e) p u
address_emits a b names l k e p u x = record {
  code = λ scope tb vars it. pointer_address a b scope tb l k e p.to p.written p.register u.mask u.free (x.code scope tb vars it);
  typed = λ scope tb vars. ap with_address (x.typed scope tb vars);
  place = x.place;
  moving = x.moving;
  grows = x.grows;
}

-- a move is one behind any registers before
moves_from : (c d : Written) (p : Pointer) (n : Place) (r : Pointer) (u : Under) (k : ℕ) → k ≤ length c.regs → HasMoved c d p n r u → Moves c d p.to p.written n.ty p.register n.register r.register u.mask k
moves_from c d p n r u k le h = record {
  instr = h.instr;
  types = h.types;
  puts = h.puts;
  mask = h.mask;
  running = h.running;
  operation = h.operation;
  target = record { typed = h.target.typed; free = h.target.free; above = let x = h.target.above in omega (arith, le, x) };
  base = h.base;
  count = h.count;
}

-- one instruction, and registers
pub grows_put : (c d : Written) (i : Instr) (types : List CType) → Puts c d i types → Grows c d
grows_put c d i types p = record { kept = λ r t h. subst (λ l. slice_get l r ≡ Some t) (sym p.regs) (before c.regs types r t h); less = λ q hw. put_less c d i types p q hw }

grows_moved : (c d : Written) (p : Pointer) (n : Place) (r : Pointer) (u : Under) → HasMoved c d p n r u → Grows c d
grows_moved c d p n r u h = grows_put c d h.instr h.types h.puts

module _ (a b c d : Written) (names : List Named) (l k : ℕ) (base e : Tree) (p : Pointer) (n : Place) (r : Pointer) (u : Under) (lm : u.mask < u.free) (is : r ≡ in_register p (length c.regs)) (moves : p.moves ≡ true)
    (first : EmitsPointer a b names base p u) (second : EmitsNumber b c names e n u) (move : HasMoved c d p n r u) where
  to_is : r.to ≡ p.to
  to_is = ap (λ (x : Pointer). x.to) is

  written_is : r.written ≡ p.written
  written_is = ap (λ (x : Pointer). x.written) is

  grown : Grows a d
  grown = grows_then a c d (grows_then a b c first.grows second.grows) (grows_moved c d p n r u move)

  further : (scope : Scope) (tb : Table) → AreNames names scope tb → IsTableOf a tb (length a.regs) → Moves c d p.to p.written n.ty p.register n.register r.register u.mask (length a.regs)
  further scope tb vars it = let x = first.code scope tb vars it in let y = second.code scope tb vars (table_then a b _ _ 0 tb x it) in
      let f = no_fewer a b _ _ 0 x in let g = no_fewer b c _ _ 0 y in moves_from c d p n r u (length a.regs) (omega (arith, f, g)) move

  pub sum_emits : EmitsPointer a d names (binary l k Add base e) r u
  sum_emits = record {
    code = λ scope tb vars it. let x = first.code scope tb vars it in
        subst (λ t. AddsPointerTree a d scope tb (binary l k Add base e) t r.written r.register u.mask u.free) (sym to_is) (subst (λ w. AddsPointerTree a d scope tb (binary l k Add base e) p.to w r.register u.mask u.free) (sym written_is)
        (sum_right a b c d scope tb l k base e p.to n.ty p.written p.register n.register r.register u.mask u.free it lm (is_inside b.regs p.register (Ptr p.to p.written) first.place) (first.moving moves) (first.typed scope tb vars) x
        (second.code scope tb vars (table_then a b _ _ 0 tb x it)) (further scope tb vars it)));
    typed = λ scope tb vars. sum_typing (typing_of scope base) (typing_of scope e) p.to n.ty p.written (first.typed scope tb vars) (second.typed scope tb vars) ∙ sym (ap₂ PointerTo to_is written_is);
    place = subst (λ (x : Pointer). IsPointerPlace d x) (sym is) (subst (λ y. IsPointerPlace d (in_register p y)) (ap (λ (x : Pointer). x.register) is) move.target.typed);
    moving = λ z. subst (λ (x : Pointer). MayMove a x.to x.written) (sym is) (first.moving moves);
    grows = grown;
  }

  pub element_emits : EmitsPlace a d names (index l k base e) r u
  element_emits = record {
    code = λ scope tb vars it. let x = first.code scope tb vars it in
        subst (λ t. AddsPlace a d scope tb (index l k base e) t r.written r.register u.mask u.free) (sym to_is) (subst (λ w. AddsPlace a d scope tb (index l k base e) p.to w r.register u.mask u.free) (sym written_is)
        (place_index a b c d scope tb l k base e p.to n.ty p.written p.register n.register r.register u.mask u.free it lm (is_inside b.regs p.register (Ptr p.to p.written) first.place) (first.moving moves) x
        (second.code scope tb vars (table_then a b _ _ 0 tb x it)) (further scope tb vars it)));
    typed = λ scope tb vars. cell_typing (typing_of scope base) (typing_of scope e) p.to n.ty p.written (first.typed scope tb vars) (second.typed scope tb vars) ∙ sym (ap₂ Cell to_is written_is);
    value = λ scope tb vars c vs w. ap (λ t. and_then (address_of c scope vs (index l k base e)) (loaded c.arrays (pointed_type t)) w) (first.typed scope tb vars ∙ sym (ap₂ PointerTo to_is written_is));
    parts = omega arith;
    place = subst (λ (x : Pointer). IsPointerPlace d x) (sym is) (subst (λ y. IsPointerPlace d (in_register p y)) (ap (λ (x : Pointer). x.register) is) move.target.typed);
    moving = λ z. subst (λ (x : Pointer). MayMove a x.to x.written) (sym is) (first.moving moves);
    grows = grown;
  }

-- ---- places

pub deref_emits : (a b : Written) (names : List Named) (l k : ℕ) (e : Tree) (p : Pointer) (u : Under) → EmitsPointer a b names e p u → EmitsPlace a b names (deref l k e) p u
deref_emits a b names l k e p u x = record {
  code = λ scope tb vars it. place_deref a b scope tb l k e p.to p.written p.register u.mask u.free (x.code scope tb vars it);
  typed = λ scope tb vars. ap pointed_typing (x.typed scope tb vars);
  value = λ scope tb vars c vs w. ap (λ t. and_then (value_of c scope vs e) (loaded c.arrays (pointed_type t)) w) (x.typed scope tb vars);
  parts = omega arith;
  place = x.place;
  moving = x.moving;
  grows = x.grows;
}

-- the literal 0
record IsLiteral (e : Tree) : Type 0 where
  line : ℕ
  token : ℕ
  ty : Ty
  is : int line token ty 0 ≡ e

literal : (e : Tree) → is_zero e ≡ true → IsLiteral e
literal (int l k t n) zero = record { line = l; token = k; ty = t; is = ap (int l k t) (zero_is n zero) }
  where
    zero_is : (m : ℕ) → (m == 0) ≡ true → 0 ≡ m
    zero_is m e = grind (arith, e)
literal (name l k id) zero = cc
literal (index l k f g) zero = cc
literal (deref l k f) zero = cc
literal (addr l k f) zero = cc
literal (unary l k op f) zero = cc
literal (binary l k op f g) zero = cc
literal (choice l k f g h) zero = cc
literal (cast l k t f) zero = cc
literal (call l k id fs) zero = cc

zero_emits : (a b : Written) (names : List Named) (l k l' k' : ℕ) (t : Ty) (base : Tree) (p : Pointer) (u : Under) → EmitsPointer a b names base p u → EmitsPlace a b names (index l k base (int l' k' t 0)) p u
zero_emits a b names l k l' k' t base p u x = record {
  code = λ scope tb vars it. place_first a b scope tb l k l' k' base t p.to p.written p.register u.mask u.free (x.code scope tb vars it);
  typed = λ scope tb vars. cell_typing (typing_of scope base) (ANumber t) p.to t p.written (x.typed scope tb vars) refl;
  value = λ scope tb vars c vs w. ap (λ y. and_then (address_of c scope vs (index l k base (int l' k' t 0))) (loaded c.arrays (pointed_type y)) w) (x.typed scope tb vars);
  parts = omega arith;
  place = x.place;
  moving = x.moving;
  grows = x.grows;
}

-- the first element
pub first_emits : (a b : Written) (names : List Named) (l k : ℕ) (base e : Tree) (p : Pointer) (u : Under) → is_zero e ≡ true → EmitsPointer a b names base p u → EmitsPlace a b names (index l k base e) p u
first_emits a b names l k base e p u zero x = let z = literal e zero in
    subst (λ f. EmitsPlace a b names (index l k base f) p u) z.is (zero_emits a b names l k z.line z.token z.ty base p u x)

-- ---- loads

pub loaded_emits : (a b c : Written) (names : List Named) (e : Tree) (p : Pointer) (d : Place) (u : Under) → u.mask < u.free → d.ty ≡ p.to → EmitsPlace a b names e p u → HasLoaded b c p d u → EmitsNumber a c names e d u
loaded_emits a b c names e p d u lm ty x y = record {
  code = λ scope tb vars it. subst (λ t. AddsTree a c scope tb e t d.register u.mask u.free) (sym ty) (at scope tb vars it);
  typed = λ scope tb vars. ap number_type (x.typed scope tb vars) ∙ ap Some (sym ty);
  place = subst (λ t. HasType c d.register t) (sym ty) y.typed;
  grows = grows_then a b c x.grows (grows_put b c y.instr y.types y.puts);
}
  where
    at : (scope : Scope) (tb : Table) → AreNames names scope tb → IsTableOf a tb (length a.regs) → AddsTree a c scope tb e p.to d.register u.mask u.free
    at scope tb vars it =
        let z = x.code scope tb vars it in
        let more = no_fewer a b _ _ 0 z in
        let few = x.parts in
        let over = y.above in
        emits_less a c tb _ (Int p.to) d.register u.mask (length a.regs) u.free (length a.regs) u.free (8 * part_nodes e + 1 + 1) (8 * nodes_of e) (omega arith) (omega arith) (omega (arith, few))
        (emits_same a c tb _ _ (Int p.to) d.register u.mask (length a.regs) u.free (8 * part_nodes e + 1 + 1) (λ k vs w. sym (x.value scope tb vars k vs w))
        (emits_loaded a b c tb _ y.instr y.types p.to p.written p.register d.register u.mask (length a.regs) u.free (8 * part_nodes e + 1) it lm z y.puts y.mask y.running y.operation
        (record { typed = y.typed; free = y.free; above = omega (arith, more, over) }) y.base))

-- ---- types of names

pub number_type_of : (names : List Named) (scope : Scope) (tb : Table) (l k : ℕ) (id : NameId) (x : Place) → home_named names id ≡ Some (Number x) → AreNames names scope tb → HasNumber scope (name l k id) x.ty
number_type_of names scope tb l k id x is vars = let v = vars.each id (Number x) is in number_name scope l k id v.variable x.ty v.named v.ctype

pub pointer_type_of : (names : List Named) (scope : Scope) (tb : Table) (l k : ℕ) (id : NameId) (p : Pointer) → home_named names id ≡ Some (Pointing p) → AreNames names scope tb → IsPointerTo scope (name l k id) p.to
pointer_type_of names scope tb l k id p is vars = let v = vars.each id (Pointing p) is in record { written = p.written; is = pointer_typing scope l k id v.variable p.to p.written v.named v.ctype }
