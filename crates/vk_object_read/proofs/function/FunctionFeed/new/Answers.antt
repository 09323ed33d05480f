use Rattle.std.proofs.Common.{[], None}
use Rattle.vk_kinds.specs.declared.heads.CType.TheVariants.{Void}
use Rattle.vk_object_format.specs.declared.rows.RawFunction.{RawFunction}
use Rattle.vk_object_read.proofs.Steps.{function_begins}
use Rattle.vk_object_read.proofs.function.FunctionFeed.new.Goals as goal

pub returns : goal.returns
returns g c = λ before at next e.
    let f : RawFunction = record { symbol = 0; result = Void; params = []; directives = []; codes = None } in
    function_begins c.args.target c.args.symbols c.args.functions before c.args.last f at next e
