-- The words of the parameters before the index.
use Rattle.std.proofs.Common.{◌≡◌, ◌++◌, string_bytes, take}
use Rattle.std.specs.List.{flat_map}
use Rattle.vk_cmd_demangle.specs.Lines.{param_words}
use Rattle.vk_cmd_demangle.proofs.describe.push_params.Given as goal

abbrev pub invariant-loop-param : goal.invariant-loop-param
invariant-loop-param l = string_bytes l.text ≡ string_bytes l.initial.text ++ flat_map param_words (take l.param-index l.params)
