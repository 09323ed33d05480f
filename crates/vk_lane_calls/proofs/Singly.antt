-- Calls of an entry of one lane, made lane by lane.
use Rattle.std.proofs.Common.{sym, ◌≡◌, ℕ, ◌<◌, ◌==◌, Bool, true, false, cond, [], ◌∷◌, Some, None, refl, subst, ap, ◌∙◌}
use Rattle.vk_kinds.specs.declared.heads.CType.{CType}
use Rattle.vk_meaning.specs.World.{Memory as Cells}
use Rattle.vk_meaning.specs.Data.{Value}
use Rattle.vk_code.specs.declared.instruction.Instr.{Instr}
use Rattle.vk_code.specs.declared.instruction.Operation.TheVariants.{Call}
use Rattle.vk_code.specs.Instruction.{operation_of}
use Rattle.vk_object.specs.Memory.{Memory}
use Rattle.vk_object.specs.Lane.{is_live}
use Rattle.vk_object.specs.Machine.{Given, Target, arg_reg, takes, target_of, calls_target, call_all, call_one, sweep}
use Rattle.vk_lane.specs.Places.{Share, Shares, view_of, put_share, Place, lanes_of, IsSound, Agree}
use Rattle.vk_lane.specs.Pieces.{Before, Change, Does, StepsIn}
use Rattle.vk_lane_calls.specs.Callable.{IsResultRegister}
use Rattle.vk_lane_calls.specs.Callees.{world_behind, value_behind, Takes, TakesIf}
use Rattle.vk_lane.proofs.Rules.{does_one, put_same, put_other, same_number, other_number, same_yes}
use Rattle.vk_lane.proofs.Writing.{put_agree, live_going}
use Rattle.vk_lane_calls.proofs.Calling.{HaveCalled, agree_called, Answered, called_share, takes_of, answered_local, takes_sound}

-- lane j's own call, with the others as they are
pub record IsSingle (x : Place) (P : Before) (m : ℕ) (rt : CType) (owned : Share → ℕ → ℕ → ℕ → Type 0) (scalar : Share → ℕ → Cells → Value) (call : Share → Memory → Given) : Type 0 where
  pub does : (j : ℕ) → j < lanes_of x → (hs : Shares) (mem : Memory) → Agree x hs mem → IsSound x j (hs j) → P j (hs j) → is_live m (hs j).lane ≡ true →
      HaveCalled x (λ k. k == j) (λ k. owned (hs j) k) (λ k. scalar (hs j) k) mem (call (hs j) mem).mem
  pub answers : (j : ℕ) → j < lanes_of x → (hs : Shares) (mem : Memory) → Agree x hs mem → IsSound x j (hs j) → P j (hs j) → is_live m (hs j).lane ≡ true →
      Answered rt (scalar (hs j) j mem.cells) ((call (hs j) mem).value 0) ((call (hs j) mem).stop 0)

pub does_call_one : (x : Place) (P : Before) (i : Instr) (k : ℕ) (t : Target) (rt : CType) (owned : Share → ℕ → ℕ → ℕ → Type 0) (scalar : Share → ℕ → Cells → Value) → x.Cares None →
    operation_of i ≡ Some (Call k) → target_of x.site k ≡ Some t → (t.entry.lanes == 1) ≡ true → ((r : ℕ) → t.slot.result ≡ Some r → IsResultRegister x rt r) →
    IsSingle x P i.m rt owned scalar (λ h mem. x.site.calls t.number (λ q. q == 0) (λ p q. h.lane.reg (arg_reg t.slot p)) mem) →
    Does x P (i ∷ []) (λ j h h'. TakesIf (is_live i.m h.lane) rt t.slot.result h h' (value_behind h.world (scalar h j h.world.memory)))
does_call_one x P i k t rt owned scalar cares e te one ok callee =
    does_one x P F i (Call k) (call_one i.m t.slot (x.site.calls t.number)) e
    (record { plain = refl; is = λ w. ap (λ o. calls_target x.site i.m o w) te ∙ ap (λ b. cond b (sweep x.site.entry.lanes (call_one i.m t.slot (x.site.calls t.number)) w) (call_all x.site i.m t.slot t.entry (x.site.calls t.number) w)) one })
    (record { by = λ j l hs mem g s p. go j l hs mem g s p (is_live i.m (hs j).lane) refl })
  where
    F : Change
    F j h h' = TakesIf (is_live i.m h.lane) rt t.slot.result h h' (value_behind h.world (scalar h j h.world.memory))

    given : Share → Memory → Given
    given h mem = x.site.calls t.number (λ q. q == 0) (λ p q. h.lane.reg (arg_reg t.slot p)) mem

    go : (j : ℕ) → j < lanes_of x → (hs : Shares) (mem : Memory) → Agree x hs mem → IsSound x j (hs j) → P j (hs j) → (b : Bool) → is_live i.m (hs j).lane ≡ b → StepsIn x j F (call_one i.m t.slot (x.site.calls t.number) j) hs mem
    go j l hs mem g s p false b = record {
      share = hs j;
      mem = mem;
      is = ap (λ q. cond q (record { lane = takes t.slot.result (hs j).lane ((given (hs j) mem).value 0) ((given (hs j) mem).stop 0); mem = (given (hs j) mem).mem }) (view_of (hs j) mem)) b;
      agree = put_agree x hs mem j (hs j) refl (λ c. c) g;
      sound = s;
      does = subst (λ q. TakesIf q rt t.slot.result (hs j) (hs j) (value_behind (hs j).world (scalar (hs j) j (hs j).world.memory))) (sym b) refl;
    }
    go j l hs mem g s p true b = record {
      share = new;
      mem = (given (hs j) mem).mem;
      is = ap (λ q. cond q (record { lane = takes t.slot.result (hs j).lane ((given (hs j) mem).value 0) ((given (hs j) mem).stop 0); mem = (given (hs j) mem).mem }) (view_of (hs j) mem)) b;
      agree = agree_called x (λ q. q == j) (λ q. owned (hs j) q) (λ q. scalar (hs j) q) hs (put_share hs j new) mem (given (hs j) mem).mem cares g cd
          (λ q lq eq. in_ q (same_number q j eq)) (λ q lq eq. put_other hs j new q (other_number q j eq));
      sound = takes_sound x j rt t.slot.result (hs j) new v ok s made;
      does = subst (λ q. TakesIf q rt t.slot.result (hs j) new v) (sym b) made;
    }
      where
        v : Value
        v = value_behind (hs j).world (scalar (hs j) j (hs j).world.memory)

        new : Share
        new = called_share t.slot.result (hs j) ((given (hs j) mem).value 0) ((given (hs j) mem).stop 0) (world_behind (hs j).world (scalar (hs j) j (hs j).world.memory))

        cd : HaveCalled x (λ q. q == j) (λ q. owned (hs j) q) (λ q. scalar (hs j) q) mem (given (hs j) mem).mem
        cd = callee.does j l hs mem g s p b

        in_ : (q : ℕ) → q ≡ j → ((hs q).lane.stop ≡ None) × ((put_share hs j new q).world ≡ world_behind (hs q).world (scalar (hs j) q (hs q).world.memory))
        in_ q eq = subst (λ n. ((hs n).lane.stop ≡ None) × ((put_share hs j new n).world ≡ world_behind (hs n).world (scalar (hs j) n (hs n).world.memory))) (sym eq)
            (live_going i.m (hs j).lane b, ap (λ (y : Share). y.world) (put_same hs j new))

        made : Takes rt t.slot.result (hs j) new v
        made = takes_of rt t.slot.result (hs j) (hs j).world (scalar (hs j) j (hs j).world.memory) ((given (hs j) mem).value 0) ((given (hs j) mem).stop 0)
            (answered_local x j rt (scalar (hs j) j mem.cells) (scalar (hs j) j (hs j).world.memory) _ _
            ((cd.local j l (same_yes j)).same mem.cells (hs j).world.memory (g.cells j l (subst x.Cares (sym (live_going i.m (hs j).lane b)) cares))) (callee.answers j l hs mem g s p b))
