use Rattle.vk_flat.specs.Emitters.{written_of}
use Rattle.vk_flat.proofs.Grown.{if_ok_both}
use Rattle.vk_flat_pointers.proofs.Pieces.{has_turned}
use Rattle.vk_flat_pointers.proofs.moving.turn.Goals as goal

pub returns-clause-code : goal.returns-clause-code
returns-clause-code c = if_ok_both c.apply.result (λ d second same. has_turned (written_of c.args.emitter.now) (written_of c.convert.new.self) (written_of c.apply.new.self) c.args.n c.in_ok-long.long d c.args.under c.requires.narrow c.requires.free
    c.in_ok-long.ensures.ty c.in_ok-long.ensures.code second same) c.apply.ensures.code c.apply.ensures.ty
