use Rattle.std.proofs.Common.{◌≡◌, ◌+◌, List, [], ◌∷◌, ◌++◌, length, ap, sym, ◌∙◌}
use Rattle.vk_format.specs.Codec.{read_after}
use Rattle.vk_object_format.specs.declared.rows.RawFunction.{RawFunction}
use Rattle.vk_object_format.specs.Object.{function}
use Rattle.vk_object_read.specs.declared.function.FunctionFeed.{FunctionFeed}
use Rattle.vk_object_read.specs.Inner.LeftFunction.{function_width}
use Rattle.vk_object_read.specs.Inner.LeftObject.{after_function, after_functions}
use Rattle.vk_object_read.proofs.Steps.{function_done}
use Rattle.vk_object_read.proofs.object.ObjectFields.function.Goals as goal

pub returns-in_ok-push : goal.returns-in_ok-push
returns-in_ok-push g c = λ next.
    let s = c.args.self.now in
    let o = s.object in
    let end = c.args.at + function_width s.function in
    let pushed = ap (λ (f : FunctionFeed). o.functions ++ f.function ∷ []) (sym c.replace-whole.ensures.value) ∙ sym c.in_ok-push.ensures.ok in
    function_done s c.args.left c.args.at c.args.field.now next c.step.new.self end _ c.requires.stage
    (c.in-Ok.ensures (after_function o s.functions c.args.left next)) c.in-Done.is
    (ap (λ (fs : List RawFunction). read_after (function o.target (length o.symbols) s.functions) c.args.left fs end (after_functions o next)) pushed
    ∙ sym (c.functions.ensures end next))
