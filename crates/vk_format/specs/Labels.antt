-- The labels of rules.
use Rattle.std.specs.Prelude.{ℕ, List, codes}
use Rattle.vk_format.specs.declared.rules.ObjectRule.{ObjectRule}
use Rattle.vk_format.specs.declared.rules.ObjectRule.TheVariants.{O1, O2, O3, O4, O5, O6, O7, O8, O9}

abbrev pub label_of_object : ObjectRule → List ℕ
label_of_object O1 = codes "O1"
label_of_object O2 = codes "O2"
label_of_object O3 = codes "O3"
label_of_object O4 = codes "O4"
label_of_object O5 = codes "O5"
label_of_object O6 = codes "O6"
label_of_object O7 = codes "O7"
label_of_object O8 = codes "O8"
label_of_object O9 = codes "O9"
