-- An object, and lists that break one of its conditions each.
use Rattle.std.proofs.Common.{◌≡◌, ℕ, Bool, true, false, pos, List, [], ◌∷◌, Option, Some, None, refl}
use Rattle.std.specs.Prelude.{codes}
use Rattle.vk_types.specs.declared.types.Ty.TheVariants.{I32}
use Rattle.vk_types.specs.declared.types.Word.{Word}
use Rattle.vk_kinds.specs.declared.heads.CType.TheVariants.{Int, Ptr}
use Rattle.vk_kinds.specs.declared.kinds.Branch.TheVariants.{Both}
use Rattle.vk_kinds.specs.declared.kinds.Kind.{Kind}
use Rattle.vk_kinds.specs.declared.kinds.Kind.TheVariants.{Vector, Uniform, Linear}
use Rattle.vk_kinds.specs.declared.kinds.Step.TheVariants.{One, By, Arg}
use Rattle.vk_kinds.specs.declared.kinds.Target.TheVariants.{X86}
use Rattle.vk_kinds.specs.Sizes.{HeadTypes, SignatureTree}
use Rattle.vk_code.specs.declared.instruction.Instr.{Instr}
use Rattle.vk_code.specs.Listing.{Listing, Routine}
use Rattle.vk_object.specs.Objects.{CodeLists, DataLists, FunctionLists, is_object}

abbrev instr : ℕ → ℕ → ℕ → ℕ → ℕ → ℕ → Instr
instr op ty m d a imm = record { op = op; ty = ty; m = m; d = d; a = a; imm = imm }

-- reads through its parameter, a `const int *`
abbrev routine : Routine
routine = record { lane_code = true; params = 1; result = Some 1; regs = Ptr I32 false ∷ Int I32 ∷ []; masks = 1; slots = []; loops = 0; instrs = instr 7 0 0 1 0 0 ∷ [] }

abbrev plain : Routine → Listing
plain r = record { routine = r; loops = [] }

abbrev head : HeadTypes
head = record { result = Int I32; params = Ptr I32 false ∷ [] }

abbrev directive : Kind → Option ℕ → Option ℕ → SignatureTree
directive kind align simdlen = record { params = (record { kind = kind; align = align }) ∷ []; branch = Both; simdlen = simdlen }

abbrev function : SignatureTree → Option CodeLists → FunctionLists
function s codes = record { symbol = 1; head = head; directives = s ∷ []; codes = codes }

abbrev object : Bool → List Word → DataLists
object defined elements = record { symbol = 0; ty = I32; fixed = false; defined = defined; length = 4; elements = elements }

abbrev unit : List (List ℕ) → DataLists → FunctionLists → Bool
unit symbols d f = is_object (record { target = X86; symbols = symbols; objects = d ∷ []; functions = f ∷ [] })

abbrev names : List (List ℕ)
names = codes "a" ∷ codes "f" ∷ []

abbrev both : Option CodeLists
both = Some (record { scalar = plain routine; lanes = plain routine ∷ [] })

abbrev given : DataLists
given = object true ((record { 0 = 5 }) ∷ [])

accepted : unit names given (function (directive Vector None None) both) ≡ true
accepted = refl

declared_alone : unit names (object false []) (function (directive Vector None None) None) ≡ true
declared_alone = refl

-- ---- symbols

symbols_not_ascending : unit (codes "f" ∷ codes "a" ∷ []) given (function (directive Vector None None) both) ≡ false
symbols_not_ascending = refl

symbol_of_print : unit (codes "a" ∷ codes "print" ∷ []) given (function (directive Vector None None) both) ≡ false
symbol_of_print = refl

symbol_not_used : unit (codes "a" ∷ codes "f" ∷ codes "g" ∷ []) given (function (directive Vector None None) both) ≡ false
symbol_not_used = refl

symbol_missing : unit (codes "a" ∷ []) given (function (directive Vector None None) both) ≡ false
symbol_missing = refl

-- ---- objects

elements_of_a_declaration : unit names (object false ((record { 0 = 5 }) ∷ [])) (function (directive Vector None None) both) ≡ false
elements_of_a_declaration = refl

last_element_0 : unit names (object true ((record { 0 = 0 }) ∷ [])) (function (directive Vector None None) both) ≡ false
last_element_0 = refl

-- ---- directives

abbrev directed : SignatureTree → Bool
directed s = unit names given (function s both)

step_of_an_element : directed (directive (Linear (By (pos 4))) None None) ≡ true
step_of_an_element = refl

step_of_half_an_element : directed (directive (Linear (By (pos 2))) None None) ≡ false
step_of_half_an_element = refl

step_of_one_byte : directed (directive (Linear One) None None) ≡ false
step_of_one_byte = refl

step_by_no_parameter : directed (directive (Linear (Arg 1)) None None) ≡ false
step_by_no_parameter = refl

aligned_to_32 : directed (directive Uniform (Some 32) None) ≡ true
aligned_to_32 = refl

aligned_to_24 : directed (directive Uniform (Some 24) None) ≡ false
aligned_to_24 = refl

lanes_of_3 : directed (directive Vector None (Some 3)) ≡ false
lanes_of_3 = refl

-- ---- codes

code_missing : unit names given (function (directive Vector None None) (Some (record { scalar = plain routine; lanes = [] }))) ≡ false
code_missing = refl

scalar_code_of_ordinary_code : unit names given (function (directive Vector None None) (Some (record { scalar = plain (record routine { lane_code = false }); lanes = plain routine ∷ [] }))) ≡ false
scalar_code_of_ordinary_code = refl

code_of_another_result : unit names given (function (directive Vector None None) (Some (record { scalar = plain (record routine { result = None }); lanes = plain routine ∷ [] }))) ≡ false
code_of_another_result = refl

code_not_valid : unit names given (function (directive Vector None None) (Some (record { scalar = plain (record routine { masks = 0 }); lanes = plain routine ∷ [] }))) ≡ false
code_not_valid = refl
