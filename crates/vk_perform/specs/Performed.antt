-- What an instruction at a place does.
use Rattle.std.specs.Prelude.{ℕ, zero, ◌+◌, drop}
use Rattle.vk_object.specs.Lane.{acts}
use Rattle.vk_object.specs.Machine.{World, again, calls_target, run, runs_simd, simd_of, sweep, target_of}
use Rattle.vk_steps.specs.declared.place.Place.{Place}
use Rattle.vk_steps.specs.Places.{entry, listing, regs, site}
use Rattle.vk_access.specs.Stores.{extents}
use Rattle.vk_calls.specs.declared.fetch.Fetched.{Fetched}
use Rattle.vk_calls.specs.declared.fetch.Fetched.TheVariants.{Block, Calls, Simd, Accesses, Locals}

-- how many instructions after it are its block
abbrev pub size_of : Fetched → ℕ
size_of (Block m size) = size
size_of (Calls i slot) = 0
size_of (Simd i number) = 0
size_of (Accesses i o) = 0
size_of (Locals i o) = 0

-- what it does, where it stands at place `at`
abbrev pub performed : Place → ℕ → Fetched → World → World
performed p at (Block m size) w = again (entry p).lanes m (λ v. run (site p) (drop (at + 1) (listing p).routine.instrs) zero size v) p.turns w
performed p at (Calls i slot) w = calls_target (site p) i.m (target_of (site p) slot) w
performed p at (Simd i number) w = runs_simd (site p) i.m (simd_of (site p) number) w
performed p at (Accesses i o) w = sweep (entry p).lanes (λ j v. acts (extents p.image.now) (regs p) i.m j o v) w
performed p at (Locals i o) w = sweep (entry p).lanes (λ j v. acts (extents p.image.now) (regs p) i.m j o v) w
