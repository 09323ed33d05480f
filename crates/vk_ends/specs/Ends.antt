-- The status and the line on standard error of each end of a command.
use Rattle.std.specs.Prelude.{ℕ, List, [], ◌++◌, codes, slice_index_or}
use Rattle.std.specs.Fmt.{decimal}
use Rattle.vk_types.specs.declared.types.Stop.{Stop}
use Rattle.vk_types.specs.declared.types.Stop.TheVariants.{Divide, Bounds, Turns}
use Rattle.vk_names.specs.Labels.{label_of_name}
use Rattle.vk_unit_rules.specs.Labels.{label_of_unit}
use Rattle.vk_ends.specs.declared.ends.WordRule.{WordRule}
use Rattle.vk_ends.specs.declared.ends.WordRule.TheVariants.{P1, P2, P3, P4}
use Rattle.vk_ends.specs.declared.ends.CallRule.{CallRule}
use Rattle.vk_ends.specs.declared.ends.CallRule.TheVariants.{A1, A2, A3, A4, A5}
use Rattle.vk_ends.specs.declared.ends.Refusal.TheVariants.{Size, Name, Unit as Unfit, NotYet, Call}
use Rattle.vk_ends.specs.declared.ends.End.{End}
use Rattle.vk_ends.specs.declared.ends.End.TheVariants.{Done, Refused, Words, Stopped, ReadFault, WriteFault, Memory}

abbrev pub status_of : End → ℕ
status_of Done = 0
status_of (Refused refusal) = 1
status_of (Words fault) = 2
status_of (Stopped stop) = 3
status_of (ReadFault input) = 4
status_of WriteFault = 5
status_of Memory = 6

abbrev pub word_label : WordRule → List ℕ
word_label P1 = codes "P1"
word_label P2 = codes "P2"
word_label P3 = codes "P3"
word_label P4 = codes "P4"

abbrev pub call_label : CallRule → List ℕ
call_label A1 = codes "A1"
call_label A2 = codes "A2"
call_label A3 = codes "A3"
call_label A4 = codes "A4"
call_label A5 = codes "A5"

abbrev pub stop_word : Stop → List ℕ
stop_word Divide = codes "divide"
stop_word Bounds = codes "bounds"
stop_word Turns = codes "turns"

-- the input file of this number, and no text where there is none
abbrev pub file_at : List (List ℕ) → ℕ → List ℕ
file_at files input = slice_index_or files input []

-- the line of an end, which names an input file where that file is to blame
abbrev pub message_of : (files : List (List ℕ)) → End → List ℕ
message_of files Done = []
message_of files (Refused (Size input)) = codes "vfabi: " ++ (file_at files input ++ codes ": Z1\n")
message_of files (Refused (Name line at rule)) =
    codes "vfabi: line " ++ (decimal line ++ (codes ": " ++ (label_of_name rule ++ (codes " at " ++ (decimal at ++ codes "\n")))))
message_of files (Refused (Unfit input line directive rule)) =
    codes "vfabi: " ++ (file_at files input ++ (codes " line " ++ (decimal line ++ (codes " directive " ++ (decimal directive ++ (codes ": " ++ (label_of_unit rule ++ codes "\n")))))))
message_of files (Refused (NotYet input)) = codes "vfabi: " ++ (file_at files input ++ codes ": X1\n")
message_of files (Refused (Call fault)) =
    codes "vfabi: call: " ++ (call_label fault.rule ++ (codes " " ++ (decimal fault.first ++ (codes " " ++ (decimal fault.second ++ codes "\n")))))
message_of files (Words fault) = codes "vfabi: words: " ++ (word_label fault.rule ++ codes "\n")
message_of files (Stopped stop) = codes "vfabi: stop " ++ (stop_word stop ++ codes "\n")
message_of files (ReadFault input) = codes "vfabi: read fault: " ++ (file_at files input ++ codes "\n")
message_of files WriteFault = codes "vfabi: write fault\n"
message_of files Memory = codes "vfabi: no memory\n"
