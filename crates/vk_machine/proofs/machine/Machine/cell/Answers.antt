use Rattle.std.proofs.Common.{◌<◌, subst, sym}
use Rattle.std.specs.declared.alloc.Global.{Global}
use Rattle.std.specs.declared.vec.Vec.{Vec}
use Rattle.std.proofs.Common.{List}
use Rattle.vk_types.specs.declared.types.Word.{Word}
use Rattle.vk_access.specs.Cells.{length_in}
use Rattle.vk_machine.proofs.Programs.{element_inside}
use Rattle.vk_machine.proofs.machine.Machine.cell.Goals as goal

pub word_at-requires : goal.word_at-requires
word_at-requires c =
    let m = c.args.self.now in
    subst (λ (rows : List (Vec Word Global)). c.args.index < length_in rows c.args.array) (sym c.deref.ensures.value) (element_inside m.image m.memory c.args.array c.args.index m.fits c.requires)
