use Rattle.std.proofs.Common.{◌≡◌, ℕ, ◌-◌, suc, List, ap, ◌∙◌, arith}
use Rattle.std.specs.Option.{option_map}
use Rattle.vk_code_format.specs.Fields.{last_of}
use Rattle.vk_object_format.specs.declared.rows.RawFunction.{RawFunction}
use Rattle.vk_object_read.specs.Inner.LeftObject.{after_function}
use Rattle.vk_object_read.proofs.Steps.{function_next}
use Rattle.vk_object_read.proofs.object.ObjectFields.functions.Goals as goal

pub returns : goal.returns
returns g c = λ at next.
    let s = c.args.self.now in
    let more : suc (c.args.left - 1) ≡ c.args.left = omega (arith, c.if-left-eq0.false) in
    let last : c.last_function-last.result ≡ option_map (λ (f : RawFunction). f.symbol) (last_of s.object.functions) =
    c.last_function-last.ensures ∙ ap (λ (fs : List RawFunction). option_map (λ (f : RawFunction). f.symbol) (last_of fs)) c.as_slice.ensures.items in
    c.new.ensures s.object.functions at (after_function s.object s.functions (c.args.left - 1) next) last
    ∙ function_next s.object s.functions (c.args.left - 1) c.len-symbols.result c.args.left at next c.len-symbols.ensures.length more
