use Rattle.std.proofs.Common.{ap, refl, sym, ◌∙◌}
use Rattle.vk_object.specs.Lane.{LaneState, acts}
use Rattle.vk_object.specs.Machine.{World}
use Rattle.vk_frames.specs.Frames.{lanes_of}
use Rattle.vk_steps.specs.Locals.{changed}
use Rattle.vk_steps.specs.Places.{entry, regs}
use Rattle.vk_steps.proofs.Locals.{acts_local, local_sweep}
use Rattle.vk_access.specs.Outer.{world}
use Rattle.vk_access.specs.Stores.{extents}
use Rattle.vk_access.proofs.Leading.{leads_same, told_twice}
use Rattle.vk_perform.proofs.locals.change.Goals as goal

pub returns-clause-goes : goal.returns-clause-goes
returns-clause-goes g c =
    let p = c.args.place.now in
    leads_same World _ _ _ (λ e. told_twice _) (λ mem.
    local_sweep (entry p).lanes (λ j v. acts (extents p.image.now) (regs p) c.args.instr.m j c.args.operation v) (changed (regs p) c.args.instr.m c.args.operation)
    (λ j v. acts_local (extents p.image.now) (regs p) c.args.instr.m j c.args.operation v c.requires.local) (world (lanes_of c.args.frame.now) mem)
    ∙ ap (λ (f : Rattle.std.proofs.Common.ℕ → LaneState). world f mem) (sym c.operate.ensures.lanes))
