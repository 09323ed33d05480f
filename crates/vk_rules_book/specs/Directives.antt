-- The rules on directives of functions: D1 to D14, D17 to D19, and C16 of names in clauses.
use Rattle.std.specs.Prelude.{ℕ, ◌==◌, Bool, true, false, cond, ◌&&◌, ◌||◌, not, List, [], ◌∷◌, ◌++◌, map, flat_map, length, nat_lt, nat_le, Option, Some, None, is_some, is_none, ℤ, pos, unsigned_abs}
use Rattle.std.specs.Ordering.{int_eq}
use Rattle.std.specs.List.{list_any, list_all}
use Rattle.vk_kinds.specs.declared.heads.CType.{CType}
use Rattle.vk_kinds.specs.declared.heads.CType.TheVariants.{Ptr}
use Rattle.vk_kinds.specs.declared.kinds.Target.{Target}
use Rattle.vk_kinds.specs.declared.kinds.Target.TheVariants.{X86, Arm}
use Rattle.vk_kinds.specs.Sizes.{HeadTypes, SignatureTree, wds}
use Rattle.vk_kinds.specs.Lengths.{has_sve_width}
use Rattle.vk_ast.specs.declared.names.NameId.{NameId}
use Rattle.vk_ast.specs.declared.items.ParamDecl.{ParamDecl}
use Rattle.vk_ast.specs.declared.directives.PlacedName.{PlacedName}
use Rattle.vk_ast.specs.declared.directives.Modifier.{Modifier}
use Rattle.vk_ast.specs.declared.directives.Modifier.TheVariants as modifier
use Rattle.vk_ast.specs.Tree.{Tree}
use Rattle.vk_ast.specs.Directives.{Says, simdlen, aligned, linear, inside, outside, other, ClauseTree, DirectiveTree}
use Rattle.vk_ast.specs.Units.{FunctionTree, ItemTree, function}
use Rattle.vk_unit_rules.specs.declared.rules.UnitRule.{UnitRule}
use Rattle.vk_unit_rules.specs.declared.rules.UnitRule.TheVariants.{C16, D1, D2, D3, D4, D5, D6, D7, D8, D9, D10, D11, D13, D14, D17, D18, D19}
use Rattle.vk_rules_book.specs.declared.faults.Fault.{Fault}
use Rattle.vk_rules_book.specs.declared.lists.Entry.{Entry}
use Rattle.vk_rules_book.specs.declared.lists.Listed.{Listed}
use Rattle.vk_rules_book.specs.declared.lists.Listed.TheVariants as listed
use Rattle.vk_rules_book.specs.Faults.{when, fault_at, directive_fault}
use Rattle.vk_numbers.specs.Constants.{constant_to}
use Rattle.vk_rules_book.specs.Scopes.{first_declaration, has_directives, is_long, same_name}
use Rattle.vk_rules_book.specs.Visits.{entries_of}
use Rattle.vk_rules_book.specs.Signatures.{param_of, pointee, pointee_of, StepTree, constant, by_parameter, no_step, step_of, scaled, signature_of, head_of, same_signatures, share_a_name}

-- ---- clauses

-- a power of two up to 65536
unfoldable pub powers : List ℕ
powers = 1 ∷ 2 ∷ 4 ∷ 8 ∷ 16 ∷ 32 ∷ 64 ∷ 128 ∷ 256 ∷ 512 ∷ 1024 ∷ 2048 ∷ 4096 ∷ 8192 ∷ 16384 ∷ 32768 ∷ 65536 ∷ []

abbrev pub is_power_from : (least : ℕ) → Option ℕ → Bool
is_power_from least None = false
is_power_from least (Some n) = nat_le least n && list_any (λ p. p == n) powers

-- D1: unknown, or not in its form
abbrev pub is_other : Says → Bool
is_other other = true
is_other _ = false

-- D4, D9: a second `simdlen`; one that is no constant power of two from 2 to 256
abbrev pub is_simdlen : Says → Bool
is_simdlen (simdlen e) = true
is_simdlen _ = false

abbrev pub is_wrong_simdlen : Says → Bool
is_wrong_simdlen (simdlen e) = not (is_power_from 2 (constant_to 256 e))
is_wrong_simdlen _ = false

-- D5: a second branch clause
abbrev pub is_branch : Says → Bool
is_branch inside = true
is_branch outside = true
is_branch _ = false

-- D6: a step that is none, or 0, or of a magnitude above 2147483647, in bytes for a pointer
abbrev pub is_too_great : ℤ → Bool
is_too_great z = nat_lt 2147483647 (unsigned_abs z)

abbrev pub is_wrong_step : List ParamDecl → List PlacedName → StepTree → Bool
is_wrong_step params names (constant z) =
    int_eq z (pos 0) || (is_too_great z || list_any (λ n. is_too_great (scaled (pointee_of params n.name) z)) names)
is_wrong_step params names (by_parameter n) = false
is_wrong_step params names no_step = true

abbrev pub has_wrong_step : FunctionTree → DirectiveTree → Says → Bool
has_wrong_step f d (linear names m e) = is_wrong_step f.params names (step_of f d e)
has_wrong_step f d _ = false

-- D7, D11: a modifier that is none of the three, or two of them, or two steps; `ref` and `uval`
abbrev pub has_modifier : (Modifier → Bool) → Says → Bool
has_modifier is (linear names None e) = false
has_modifier is (linear names (Some m) e) = is m
has_modifier is _ = false

abbrev pub is_unknown : Modifier → Bool
is_unknown modifier.Other = true
is_unknown _ = false

abbrev pub is_of_references : Modifier → Bool
is_of_references modifier.Ref = true
is_of_references modifier.Uval = true
is_of_references _ = false

-- D10: an alignment that is no constant power of two from 1 to 65536
abbrev pub is_wrong_alignment : Option Tree → Bool
is_wrong_alignment None = false
is_wrong_alignment (Some e) = not (is_power_from 1 (constant_to 65536 e))

abbrev pub has_wrong_alignment : Says → Bool
has_wrong_alignment (aligned names e) = is_wrong_alignment e
has_wrong_alignment _ = false

abbrev pub long_name_faults : List (List ℕ) → List PlacedName → List Fault
long_name_faults texts names = flat_map (λ n. when (is_long texts n.name) (fault_at n.line n.token C16)) names

abbrev pub names_in : ClauseTree → List PlacedName
names_in c = cond (is_other c.says) [] c.names

unfoldable pub said_faults : FunctionTree → DirectiveTree → (earlier : List ClauseTree) → ClauseTree → List Fault
said_faults f d earlier c =
    when (is_other c.says) (directive_fault d c.token D1)
    ++ (when (is_simdlen c.says && list_any (λ e. is_simdlen e.says) earlier) (directive_fault d c.token D4)
    ++ (when (is_branch c.says && list_any (λ e. is_branch e.says) earlier) (directive_fault d c.token D5)
    ++ (when (has_wrong_step f d c.says) (directive_fault d c.token D6)
    ++ (when (has_modifier is_unknown c.says) (directive_fault d c.token D7)
    ++ (when (is_wrong_simdlen c.says) (directive_fault d c.token D9)
    ++ (when (has_wrong_alignment c.says) (directive_fault d c.token D10)
    ++ when (has_modifier is_of_references c.says) (directive_fault d c.token D11)))))))

unfoldable pub clause_faults : List (List ℕ) → FunctionTree → DirectiveTree → (earlier : List ClauseTree) → ClauseTree → List Fault
clause_faults texts f d earlier c = said_faults f d earlier c ++ long_name_faults texts (names_in c)

-- ---- listed names

abbrev pub is_aligned : Listed → Bool
is_aligned listed.Aligned = true
is_aligned _ = false

abbrev pub is_uniform_list : Listed → Bool
is_uniform_list listed.Uniform = true
is_uniform_list _ = false

-- the name was listed before: by `aligned`, or by `uniform` and `linear`
abbrev pub is_listed : (by_aligned : Bool) → List Entry → NameId → Bool
is_listed by_aligned earlier id = list_any (λ e. same_name e.name id && cond by_aligned (is_aligned e.listed) (not (is_aligned e.listed))) earlier

abbrev pub is_pointer_param : Option ParamDecl → Bool
is_pointer_param None = false
is_pointer_param (Some p) = is_some (pointee p.ctype)

abbrev pub is_written_type : CType → Bool
is_written_type (Ptr to written) = written
is_written_type _ = false

abbrev pub is_written_param : Option ParamDecl → Bool
is_written_param None = false
is_written_param (Some p) = is_written_type p.ctype

-- D2: no parameter; D3, D13: a second time; D8: `aligned` of what is no pointer; D14: a uniform written pointer
unfoldable pub entry_faults : FunctionTree → DirectiveTree → (earlier : List Entry) → Entry → List Fault
entry_faults f d earlier e =
    when (is_none (param_of f.params e.name)) (directive_fault d e.token D2)
    ++ (when (not (is_aligned e.listed) && is_listed false earlier e.name) (directive_fault d e.token D3)
    ++ (when (is_aligned e.listed && (is_some (param_of f.params e.name) && not (is_pointer_param (param_of f.params e.name)))) (directive_fault d e.token D8)
    ++ (when (is_aligned e.listed && is_listed true earlier e.name) (directive_fault d e.token D13)
    ++ when (is_uniform_list e.listed && is_written_param (param_of f.params e.name)) (directive_fault d e.token D14))))

-- ---- whole directives

abbrev pub all_said_faults : FunctionTree → DirectiveTree → (earlier rest : List ClauseTree) → List Fault
all_said_faults f d earlier [] = []
all_said_faults f d earlier (c ∷ cs) = said_faults f d earlier c ++ all_said_faults f d (earlier ++ c ∷ []) cs

abbrev pub all_entry_faults : FunctionTree → DirectiveTree → (earlier rest : List Entry) → List Fault
all_entry_faults f d earlier [] = []
all_entry_faults f d earlier (e ∷ es) = entry_faults f d earlier e ++ all_entry_faults f d (earlier ++ e ∷ []) es

abbrev pub is_empty : List Fault → Bool
is_empty [] = true
is_empty (x ∷ xs) = false

-- A directive has a signature where it breaks none of D1 to D14 and its function has at most 64 parameters.
unfoldable pub has_signature : FunctionTree → DirectiveTree → Bool
has_signature f d = nat_le (length f.params) 64
    && (is_empty (all_said_faults f d [] d.clauses) && is_empty (all_entry_faults f d [] (entries_of d.clauses)))

-- D18: a `simdlen` with which SVE has no vector of 128 to 2048 bits
abbrev pub is_no_width : Target → HeadTypes → SignatureTree → Bool
is_no_width X86 h s = false
is_no_width Arm h s = not (has_sve_width s.simdlen (wds h s))

-- D19: it gives a name that an earlier one gives
unfoldable pub repeats_a_name : Target → FunctionTree → (earlier : List DirectiveTree) → DirectiveTree → Bool
repeats_a_name target f earlier d =
    list_any (λ e. has_signature f e && share_a_name target (head_of f) (signature_of f e) (signature_of f d)) earlier

unfoldable pub directive_faults : Target → FunctionTree → (earlier : List DirectiveTree) → DirectiveTree → List Fault
directive_faults target f earlier d =
    when (has_signature f d && is_no_width target (head_of f) (signature_of f d)) (directive_fault d d.token D18)
    ++ when (has_signature f d && repeats_a_name target f earlier d) (directive_fault d d.token D19)

-- ---- the directives of a function's declarations

abbrev pub signatures : FunctionTree → List SignatureTree
signatures f = map (signature_of f) f.directives

abbrev pub have_signatures : FunctionTree → Bool
have_signatures f = list_all (has_signature f) f.directives

-- D17: a later declaration's directives are not those of the first declaration (both lists break none of D1 to D14)
abbrev pub has_other_directives : Option ItemTree → FunctionTree → Bool
has_other_directives (Some (function first)) f = has_directives f.directives
    && ((have_signatures first && have_signatures f) && not (same_signatures (signatures first) (signatures f)))
has_other_directives _ f = false

-- told at the function's name, with the line and the number of its first directive
abbrev pub at_first : UnitRule → (token : ℕ) → List DirectiveTree → List Fault
at_first rule token [] = []
at_first rule token (d ∷ ds) = directive_fault d token rule ∷ []

unfoldable pub redeclaration_faults : (before : List ItemTree) → FunctionTree → List Fault
redeclaration_faults before f = cond (has_other_directives (first_declaration before f.name) f) (at_first D17 f.token f.directives) []
