-- The labels of the rules, as messages have them.
use Rattle.std.specs.Prelude.{ℕ, List, codes}
use Rattle.vk_names.specs.declared.rules.NameRule.{NameRule}
use Rattle.vk_names.specs.declared.rules.NameRule.TheVariants.{N1, N2, N3, N4, N5, N6, N7, N8, N9, N10, N11, N12, N13}

abbrev pub label_of_name : NameRule → List ℕ
label_of_name N1 = codes "N1"
label_of_name N2 = codes "N2"
label_of_name N3 = codes "N3"
label_of_name N4 = codes "N4"
label_of_name N5 = codes "N5"
label_of_name N6 = codes "N6"
label_of_name N7 = codes "N7"
label_of_name N8 = codes "N8"
label_of_name N9 = codes "N9"
label_of_name N10 = codes "N10"
label_of_name N11 = codes "N11"
label_of_name N12 = codes "N12"
label_of_name N13 = codes "N13"
