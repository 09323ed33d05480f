-- `return` in lanes.
use Rattle.std.proofs.Common.{arith, sym, ◌≡◌, ℕ, ◌+◌, ◌*◌, ◌<◌, List, length, refl, subst, ap, ◌∙◌, Some, None, IsTrue, Ok}
use Rattle.vk_types.specs.declared.types.Ty.{Ty}
use Rattle.vk_types.specs.Numbers.{number_of, word_of, wrap_number}
use Rattle.vk_kinds.specs.declared.heads.CType.{CType}
use Rattle.vk_kinds.specs.declared.heads.CType.TheVariants.{Int, Void}
use Rattle.vk_numbers.proofs.Numbers.{number_of-word, wrap_in_range}
use Rattle.vk_ast.specs.Statements.{return_value}
use Rattle.vk_ast.specs.Tree.{Tree, nodes_of}
use Rattle.vk_meaning.specs.Data.{Datum, Value, and_then, as_type, got, halts, nothing, number, number_in, with_value}
use Rattle.vk_meaning.specs.Expressions.{Context, value_of}
use Rattle.vk_meaning.specs.Statements.{Effect, State, on_value, returned}
use Rattle.vk_meaning.specs.Lanes.{datum_of}
use Rattle.vk_lane.specs.Entries.{place_of}
use Rattle.vk_lane.specs.Writes.{Writes}
use Rattle.vk_construct.specs.Adds.{Adds, AddsValue, LeavesOut, Written}
use Rattle.vk_construct.specs.Applies.{number_at}
use Rattle.vk_construct.specs.Computes.{Computes, Table}
use Rattle.vk_construct.proofs.Adding.{adds_nil, adds_then, adds_weaken, type_kept}
use Rattle.vk_construct.proofs.Evaluating.{Expression}
use Rattle.vk_construct.proofs.Values.{idles_same, keeps_same, then_write}
use Rattle.vk_construct_statements.specs.Follows.{AreApart, Guards, ReturnPlace}
use Rattle.vk_construct_statements.specs.Statements.{AddsStatement}
use Rattle.vk_construct_statements.proofs.Flow.{flow_return}
use Rattle.vk_construct_statements.proofs.Straight.{front_same}
use Rattle.vk_flat.specs.declared.emitter.Place.{Place}
use Rattle.vk_flat.specs.declared.emitter.Under.{Under}
use Rattle.vk_flat.specs.declared.locals.Local.{Local}
use Rattle.vk_flat.specs.Locals.{Emits, is_numeric}
use Rattle.vk_flat_statements.specs.Frames.{return_place}
use Rattle.vk_flat_statements.specs.Statements.{EmitsStatement, returning}
use Rattle.vk_flat_statements.proofs.Leaves.{emitted}
use Rattle.vk_flat_statements.proofs.Standing.{larger, stands_behind}

-- the value as one of the result's type
abbrev as_result : Ty → Expression → Expression
as_result t e c vs = and_then (e c vs) (λ d w. got (as_type (Int t) d) w)

-- into the result's register, which may stand before those of variables
converts : (a b c : Written) (tb : Table) (e : Expression) (s t : Ty) (r d m k f n : ℕ) → m < f → AddsValue a b tb e (Int s) r m k f n → Adds b c (λ q. Writes m d (λ j h. Ok (word_of (wrap_number t (number_at s r h))))) 1 0 →
    AddsValue a c tb (as_result t e) (Int t) d m 0 f (n + 1)
converts a b c tb e s t r d m k f n lm p p' = adds_weaken a c _ _ (n + 1) (n + 1) 0 (adds_then a b c _ _ n 1 0 p p') (omega arith)
    (λ q hw j h h' s1 s2 y. then_write (place_of q) tb (e q.context) (λ dt w. got (as_type (Int t) dt) w) (Int s) (Int t) r m 0 k f d j (λ i g. Ok (word_of (wrap_number t (number_at s r g)))) h y.0 h' (omega arith) (omega arith) lm y.1 y.2
    (λ dt w keeps has. (as_type (Int t) dt, refl, record { is = word dt (y.0).lane.reg has.is; fine = tt })))
  where
    word : (dt : Datum) (reg : ℕ → ℕ) → dt ≡ number (number_of s (reg r)) → as_type (Int t) dt ≡ datum_of (Int t) (word_of (wrap_number t (number_of s (reg r))))
    word dt reg e' = ap (λ d. number (wrap_number t (number_in d))) e' ∙ ap number (sym (number_of-word t _ (wrap_in_range t (number_of s (reg r)))))

same_return : (t : CType) (x : Value) → on_value (with_value x (λ d w. got (as_type t d) w)) returned ≡ on_value x (λ d w. returned (as_type t d) w)
same_return t (got d w) = refl
same_return t (halts z w) = refl

adds_effect : (a b : Written) (v : ReturnPlace) (tb : Table) (f g : Context → Effect) (m : Guards) (n : ℕ) → ((c : Context) (s : State) → f c s ≡ g c s) → AddsStatement a b v tb tb f m n 0 → AddsStatement a b v tb tb g m n 0
adds_effect a b v tb f g m n same p = subst (λ x. AddsStatement a b v tb tb x m n 0) (λ i c s. same c s i) p

module _ (a b c d e : Written) (locals : List Local) (l k : ℕ) (tree : Tree) (x to : Place) (u : Under) (m : Guards) (em : u.mask ≡ m.running) (ef : u.free ≡ m.free) (ap_ : AreApart m)
    (num : IsTrue (is_numeric locals tree)) (h : Emits a b locals tree x u) (s : Adds b c (λ q. Writes m.running to.register (λ j g. Ok (word_of (wrap_number to.ty (number_at x.ty x.register g))))) 1 0)
    (one_ : Adds c d (LeavesOut m.staying m.staying m.running) 1 0) (two_ : Adds d e (LeavesOut m.running m.running m.running) 1 0) where
  pub return_emits : EmitsStatement a e locals locals (return_place (Some to)) (return_value l k (Some tree)) m 0
  return_emits = record {
    code = λ scope loops tb st. let p = emitted a b locals tree x u m (Int to.ty) em ef num h scope tb st in record {
      table = tb;
      front = front_same tb;
      code = larger a e _ (8 * nodes_of tree + 1 + 2) (16 * (1 + nodes_of tree)) 0 (omega arith)
          (adds_effect a e (return_place (Some to)) tb _ _ m (8 * nodes_of tree + 1 + 2) (λ z y. same_return (Int to.ty) (value_of (returning (Int to.ty) z) scope y.variables tree y.world))
          (flow_return a c d e (return_place (Some to)) tb (as_result to.ty (λ z vs. value_of (returning (Int to.ty) z) scope vs tree)) 0 (8 * nodes_of tree + 1) m ap_
          (converts a b c tb _ x.ty to.ty x.register to.register m.running (length a.regs) m.free (8 * nodes_of tree) ap_.running_in p s) one_ two_));
      stand = stands_behind d e _ 1 0 locals scope tb two_ (stands_behind c d _ 1 0 locals scope tb one_ (stands_behind b c _ 1 0 locals scope tb s (stands_behind a b _ (8 * nodes_of tree) 0 locals scope tb p st)));
    };
    kept = λ y p. type_kept d e _ 1 0 y.register (Int y.ty) two_ (type_kept c d _ 1 0 y.register (Int y.ty) one_ (type_kept b c _ 1 0 y.register (Int y.ty) s (h.kept y p)));
  }

-- no value
gives_nothing : (a : Written) (tb : Table) (m k f : ℕ) → AddsValue a a tb (λ c vs w. got nothing w) Void 0 m k f 0
gives_nothing a tb m k f = adds_weaken a a _ _ 0 0 0 (adds_nil a) (omega arith) (λ q hw j h h' s1 s2 e. subst (Computes (place_of q) tb (λ vs w. got nothing w) Void 0 m k f j h) (sym e) (record {
  gone = (idles_same m f h).gone;
  off = (idles_same m f h).off;
  runs = λ s n o held. (keeps_same k f s.world h n (sym held.world), record { is = refl; fine = tt });
}))

pub end_emits : (a b c : Written) (locals : List Local) (l k : ℕ) (m : Guards) → AreApart m → Adds a b (LeavesOut m.staying m.staying m.running) 1 0 → Adds b c (LeavesOut m.running m.running m.running) 1 0 →
    EmitsStatement a c locals locals (return_place None) (return_value l k None) m 0
end_emits a b c locals l k m ap_ p q = record {
  code = λ scope loops tb st. record {
    table = tb;
    front = front_same tb;
    code = larger a c _ 2 16 0 (omega arith) (flow_return a a b c (return_place None) tb (λ z vs w. got nothing w) 0 0 m ap_ (gives_nothing a tb m.running 0 m.free) p q);
    stand = stands_behind b c _ 1 0 locals scope tb q (stands_behind a b _ 1 0 locals scope tb p st);
  };
  kept = λ y h. type_kept b c _ 1 0 y.register (Int y.ty) q (type_kept a b _ 1 0 y.register (Int y.ty) p h);
}
