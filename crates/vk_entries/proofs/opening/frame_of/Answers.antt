use Rattle.std.proofs.Common.{◌≡◌, ◌+◌, ◌≤◌, length, ℕ, arith, rules, subst, sym}
use Rattle.vk_object.specs.Lane.{LaneState}
use Rattle.vk_code.specs.Listing.{reg_type}
use Rattle.vk_runs.specs.Words.{HasWords}
use Rattle.vk_runs.proofs.Words.{zero_word}
use Rattle.vk_steps.specs.Places.{regs}
use Rattle.vk_args.proofs.Types.{head_of}
use Rattle.vk_entries.proofs.opening.frame_of.Goals as goal

pub new-requires-clause-short : goal.new-requires-clause-short
new-requires-clause-short c =
    let code = Rattle.vk_code.specs.declared.code.Code.out-Code c.args.place.now.code.now in
    let small : length code.regs.items + code.masks ≤ 8192 = (head_of c.args.place.now c.requires.sound).few in
    let short : c.len.result ≡ length code.regs.items = search rules in
    omega (arith, small, short)

pub returns-clause-fits : goal.returns-clause-fits
returns-clause-fits c = record {
  shape = search rules;
  words = λ j. subst (λ (f : ℕ → LaneState). HasWords (regs c.args.place.now) (f j)) (sym c.new.ensures.empty) (λ r. zero_word (reg_type (regs c.args.place.now) r));
}
