-- A variable more.
use Rattle.std.proofs.Common.{arith, sym, ◌≡◌, ◌≢◌, ℕ, suc, ◌+◌, ◌<◌, ◌==◌, Bool, true, false, cond, List, [], ◌∷◌, ◌++◌, length, refl, subst, ap, ◌∙◌, Option, Some, None, slice_get}
use Rattle.std.specs.Option.{option_or}
use Rattle.vk_kinds.specs.declared.heads.CType.{CType}
use Rattle.vk_kinds.specs.declared.heads.CType.TheVariants.{Int}
use Rattle.vk_ast.specs.declared.names.NameId.{NameId}
use Rattle.vk_rules_book.specs.declared.contexts.Binding.{Binding}
use Rattle.vk_rules_book.specs.Scopes.{Scope, same_name, with_binding}
use Rattle.vk_meaning.specs.Points.{Variable, variable_among, variable_named}
use Rattle.vk_construct.specs.Adds.{IsTableOf, Written}
use Rattle.vk_construct.specs.Computes.{Table}
use Rattle.vk_construct_statements.specs.Follows.{pushed}
use Rattle.vk_flat.specs.declared.locals.Local.{Local}
use Rattle.vk_flat.specs.declared.emitter.Place.{Place}
use Rattle.vk_flat.specs.Emitters.{IsPlace}
use Rattle.vk_flat.specs.Locals.{IsVariable, local_named}
use Rattle.vk_lane.proofs.Rules.{same_not, same_number, same_yes}
use Rattle.vk_flat_statements.specs.Statements.{StandFor}

or_assoc : {A : Type 0} → (a b c : Option A) → option_or (option_or a b) c ≡ option_or a (option_or b c)
or_assoc (Some x) b c = refl
or_assoc None b c = refl

pub some_is : {A : Type 0} → {x y : A} → Some x ≡ Some y → x ≡ y
some_is e = cc

or_none : {A : Type 0} → (a : Option A) → a ≡ option_or a None
or_none (Some x) = refl
or_none None = refl

pub local_more : (xs : List Local) (x : Local) (i : NameId) → local_named (xs ++ x ∷ []) i ≡ option_or (cond (same_name x.name i) (Some x) None) (local_named xs i)
local_more [] x i = or_none (cond (same_name x.name i) (Some x) None)
local_more (y ∷ xs) x i = ap (λ o. option_or o (cond (same_name y.name i) (Some y) None)) (local_more xs x i) ∙ or_assoc (cond (same_name x.name i) (Some x) None) (local_named xs i) (cond (same_name y.name i) (Some y) None)

pub variable_more : (k : ℕ) (bs : List Binding) (b : Binding) (i : NameId) → variable_among k (bs ++ b ∷ []) i ≡ option_or (cond (same_name b.name i) (Some (record { number = k + length bs; ctype = b.ctype })) None) (variable_among k bs i)
variable_more k [] b i = ap (λ n. cond (same_name b.name i) (Some (record { number = n; ctype = b.ctype })) None) (at k) ∙ or_none (cond (same_name b.name i) (Some (record { number = k + 0; ctype = b.ctype })) None)
  where
    at : (n : ℕ) → n ≡ n + 0
    at n = omega arith
variable_more k (c ∷ bs) b i = ap (λ o. option_or o (cond (same_name c.name i) (Some (record { number = k; ctype = c.ctype })) None)) (variable_more (k + 1) bs b i)
    ∙ (or_assoc (cond (same_name b.name i) (Some (record { number = k + 1 + length bs; ctype = b.ctype })) None) (variable_among (k + 1) bs i) (cond (same_name c.name i) (Some (record { number = k; ctype = c.ctype })) None)
    ∙ ap (λ n. option_or (cond (same_name b.name i) (Some (record { number = n; ctype = b.ctype })) None) (variable_among k (c ∷ bs) i)) (at k (length bs)))
  where
    at : (n m : ℕ) → n + 1 + m ≡ n + suc m
    at n m = omega arith

pub variable_last : (bs : List Binding) (b : Binding) (i : NameId) → variable_among 0 (bs ++ b ∷ []) i ≡ option_or (cond (same_name b.name i) (Some (record { number = length bs; ctype = b.ctype })) None) (variable_among 0 bs i)
variable_last bs b i = variable_more 0 bs b i ∙ ap (λ n. option_or (cond (same_name b.name i) (Some (record { number = n; ctype = b.ctype })) None) (variable_among 0 bs i)) (plain (length bs))
  where
    plain : (n : ℕ) → 0 + n ≡ n
    plain n = omega arith

-- ---- what stands for variables, with one more

module _ (a b : Written) (locals : List Local) (scope : Scope) (tb : Table) (id : NameId) (d : Place) (fixed : Bool) (st : StandFor a locals scope tb) (kept : (x : ℕ) (t : CType) → slice_get a.regs x ≡ Some t → slice_get b.regs x ≡ Some t)
    (here : IsPlace b d) (at : d.register ≡ length a.regs) (more : length a.regs < length b.regs) where
  old_number : (n : ℕ) → n < tb.count → (n == tb.count) ≡ false
  old_number n l = same_not n tb.count (λ z. absurd (omega (arith, l, z)))

  new_number : (length scope.inner == tb.count) ≡ true
  new_number = subst (λ n. (n == tb.count) ≡ true) st.count (same_yes tb.count)

  each : (i : NameId) (y : Local) → local_named (locals ++ record { name = id; place = d } ∷ []) i ≡ Some y → IsVariable (with_binding scope id (Int d.ty) fixed) (pushed tb d.register (Int d.ty)) i y.place
  each i y is = go (same_name id i) refl
    where
      go : (s : Bool) → same_name id i ≡ s → IsVariable (with_binding scope id (Int d.ty) fixed) (pushed tb d.register (Int d.ty)) i y.place
      go true e = let same : record { name = id; place = d } ≡ y = some_is (sym (ap (λ q. option_or (cond q (Some (record { name = id; place = d })) None) (local_named locals i)) e) ∙ (sym (local_more locals (record { name = id; place = d }) i) ∙ is)) in record {
        variable = record { number = length scope.inner; ctype = Int d.ty };
        named = variable_last scope.inner (record { name = id; ctype = Int d.ty; fixed = fixed }) i ∙ ap (λ q. option_or (cond q (Some (record { number = length scope.inner; ctype = Int d.ty })) None) (variable_among 0 scope.inner i)) e;
        ctype = ap (λ (x : Local). Int x.place.ty) same;
        register = ap (λ q. cond q d.register (tb.reg (length scope.inner))) new_number ∙ ap (λ (x : Local). x.place.register) same;
      }
      go false e = let v = st.names.each i y (sym (ap (λ q. option_or (cond q (Some (record { name = id; place = d })) None) (local_named locals i)) e) ∙ (sym (local_more locals (record { name = id; place = d }) i) ∙ is)) in record {
        variable = v.variable;
        named = variable_last scope.inner (record { name = id; ctype = Int d.ty; fixed = fixed }) i ∙ (ap (λ q. option_or (cond q (Some (record { number = length scope.inner; ctype = Int d.ty })) None) (variable_among 0 scope.inner i)) e ∙ v.named);
        ctype = v.ctype;
        register = ap (λ q. cond q d.register (tb.reg v.variable.number)) (old_number v.variable.number (st.names.variables.there i v.variable v.named)) ∙ v.register;
      }

  pub registers_more : IsTableOf b (pushed tb d.register (Int d.ty)) (length b.regs)
  registers_more = record {
    typed = λ v l. typed v (v == tb.count) refl l;
    below = λ v l. below v (v == tb.count) refl l;
    apart = λ u v l k ne. apart u v (u == tb.count) (v == tb.count) refl refl l k ne;
  }
    where
      less : (v : ℕ) → (v == tb.count) ≡ false → v < tb.count + 1 → v < tb.count
      less v e l = grind (arith, e, l)

      typed : (v : ℕ) (q : Bool) → (v == tb.count) ≡ q → v < tb.count + 1 → slice_get b.regs (cond q d.register (tb.reg v)) ≡ Some (cond q (Int d.ty) (tb.ty v))
      typed v true e l = here
      typed v false e l = kept (tb.reg v) (tb.ty v) (st.registers.typed v (less v e l))

      below : (v : ℕ) (q : Bool) → (v == tb.count) ≡ q → v < tb.count + 1 → cond q d.register (tb.reg v) < length b.regs
      below v true e l = omega (arith, at, more)
      below v false e l = let p = st.registers.below v (less v e l) in omega (arith, p, more)

      apart : (u v : ℕ) (p q : Bool) → (u == tb.count) ≡ p → (v == tb.count) ≡ q → u < tb.count + 1 → v < tb.count + 1 → u ≢ v → cond p d.register (tb.reg u) ≢ cond q d.register (tb.reg v)
      apart u v true true e f l k ne = λ z. ne (same_number u tb.count e ∙ sym (same_number v tb.count f))
      apart u v true false e f l k ne = let p = st.registers.below v (less v f k) in λ z. absurd (omega (arith, p, at, z))
      apart u v false true e f l k ne = let p = st.registers.below u (less u e l) in λ z. absurd (omega (arith, p, at, z))
      apart u v false false e f l k ne = st.registers.apart u v (less u e l) (less v f k) ne

  there : (i : NameId) (v : Variable) → variable_named (with_binding scope id (Int d.ty) fixed) i ≡ Some v → (v.number < tb.count + 1) × (cond (v.number == tb.count) (Int d.ty) (tb.ty v.number) ≡ v.ctype)
  there i v is = go (same_name id i) refl
    where
      go : (s : Bool) → same_name id i ≡ s → (v.number < tb.count + 1) × (cond (v.number == tb.count) (Int d.ty) (tb.ty v.number) ≡ v.ctype)
      go true e = let same : record { number = length scope.inner; ctype = Int d.ty } ≡ v = some_is (sym (ap (λ q. option_or (cond q (Some (record { number = length scope.inner; ctype = Int d.ty })) None) (variable_among 0 scope.inner i)) e) ∙ (sym (variable_last scope.inner (record { name = id; ctype = Int d.ty; fixed = fixed }) i) ∙ is)) in
          subst (λ (w : Variable). (w.number < tb.count + 1) × (cond (w.number == tb.count) (Int d.ty) (tb.ty w.number) ≡ w.ctype)) same (last st.count, ap (λ q. cond q (Int d.ty) (tb.ty (length scope.inner))) new_number)
        where
          last : {n : ℕ} → tb.count ≡ n → n < tb.count + 1
          last h = omega (arith, h)
      go false e = let was = sym (ap (λ q. option_or (cond q (Some (record { number = length scope.inner; ctype = Int d.ty })) None) (variable_among 0 scope.inner i)) e) ∙ (sym (variable_last scope.inner (record { name = id; ctype = Int d.ty; fixed = fixed }) i) ∙ is) in
          let l = st.names.variables.there i v was in (omega (arith, l), ap (λ q. cond q (Int d.ty) (tb.ty v.number)) (old_number v.number l) ∙ st.names.variables.typed i v was)

  pub stands_more : StandFor b (locals ++ record { name = id; place = d } ∷ []) (with_binding scope id (Int d.ty) fixed) (pushed tb d.register (Int d.ty))
  stands_more = record {
    names = record { each = each; variables = record { there = λ i v is. (there i v is).0; typed = λ i v is. (there i v is).1 } };
    count = ap (λ n. n + 1) st.count ∙ sym (longer scope.inner (record { name = id; ctype = Int d.ty; fixed = fixed }));
    registers = registers_more;
  }
    where
      longer : (bs : List Binding) (x : Binding) → length (bs ++ x ∷ []) ≡ length bs + 1
      longer [] x = refl
      longer (y ∷ bs) x = ap suc (longer bs x) ∙ omega arith
