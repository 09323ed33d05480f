-- `break`, `continue` and nothing.
use Rattle.std.proofs.Common.{arith, ℕ, List}
use Rattle.vk_kinds.specs.declared.heads.CType.TheVariants.{Int}
use Rattle.vk_ast.specs.Statements.{break_loop, continue_loop, empty}
use Rattle.vk_construct.specs.Adds.{Adds, LeavesOut, Written}
use Rattle.vk_construct.proofs.Adding.{type_kept}
use Rattle.vk_construct_statements.specs.Follows.{AreApart, Guards, ReturnPlace}
use Rattle.vk_construct_statements.proofs.Flow.{flow_break, flow_continue, flow_nothing}
use Rattle.vk_construct_statements.proofs.Straight.{front_same}
use Rattle.vk_flat.specs.declared.locals.Local.{Local}
use Rattle.vk_flat_statements.specs.Statements.{EmitsStatement}
use Rattle.vk_flat_statements.proofs.Standing.{larger, stands_behind}

pub empty_emits : (a : Written) (locals : List Local) (l k : ℕ) (v : ReturnPlace) (m : Guards) → AreApart m → EmitsStatement a a locals locals v (empty l k) m 0
empty_emits a locals l k v m ap_ = record {
  code = λ scope loops tb st. record { table = tb; front = front_same tb; code = larger a a _ 0 16 0 (omega arith) (flow_nothing a v tb m ap_); stand = st };
  kept = λ y h. h;
}

pub break_emits : (a b c : Written) (locals : List Local) (l k : ℕ) (v : ReturnPlace) (m : Guards) → AreApart m → Adds a b (LeavesOut m.looping m.looping m.running) 1 0 → Adds b c (LeavesOut m.running m.running m.running) 1 0 →
    EmitsStatement a c locals locals v (break_loop l k) m 0
break_emits a b c locals l k v m ap_ p q = record {
  code = λ scope loops tb st. record {
    table = tb;
    front = front_same tb;
    code = larger a c _ 2 16 0 (omega arith) (flow_break a b c v tb m ap_ p q);
    stand = stands_behind b c _ 1 0 locals scope tb q (stands_behind a b _ 1 0 locals scope tb p st);
  };
  kept = λ y h. type_kept b c _ 1 0 y.register (Int y.ty) q (type_kept a b _ 1 0 y.register (Int y.ty) p h);
}

pub continue_emits : (a b : Written) (locals : List Local) (l k : ℕ) (v : ReturnPlace) (m : Guards) → AreApart m → Adds a b (LeavesOut m.running m.running m.running) 1 0 → EmitsStatement a b locals locals v (continue_loop l k) m 0
continue_emits a b locals l k v m ap_ p = record {
  code = λ scope loops tb st. record {
    table = tb;
    front = front_same tb;
    code = larger a b _ 1 16 0 (omega arith) (flow_continue a b v tb m ap_ p);
    stand = stands_behind a b _ 1 0 locals scope tb p st;
  };
  kept = λ y h. type_kept a b _ 1 0 y.register (Int y.ty) p h;
}
