-- What a directive says of each parameter of its function (OpenMP 5.2, 7.7), and the variants that it gives.
use Rattle.std.specs.Prelude.{ℕ, ◌+◌, ◌==◌, Bool, true, false, cond, ◌&&◌, not, List, [], ◌∷◌, map, Option, Some, None, unwrap_or, ℤ, pos, ◌*ℤ◌}
use Rattle.std.specs.Ordering.{int_eq}
use Rattle.std.specs.List.{list_any}
use Rattle.std.specs.Option.{option_or}
use denote.Enum.Bare.{sameb}
use Rattle.vk_types.specs.declared.types.Ty.{Ty}
use Rattle.vk_kinds.specs.declared.heads.CType.{CType}
use Rattle.vk_kinds.specs.declared.heads.CType.TheVariants.{Int, Ptr}
use Rattle.vk_kinds.specs.declared.kinds.Target.{Target}
use Rattle.vk_kinds.specs.contracts.kinds.Isa.{the_type}
use Rattle.vk_kinds.specs.declared.kinds.Branch.{Branch}
use Rattle.vk_kinds.specs.declared.kinds.Branch.TheVariants.{Both, Inside, Outside}
use Rattle.vk_kinds.specs.declared.kinds.Len.{Len}
use Rattle.vk_kinds.specs.declared.kinds.Len.TheVariants.{Fixed, Scalable}
use Rattle.vk_kinds.specs.declared.kinds.Step.{Step}
use Rattle.vk_kinds.specs.declared.kinds.Step.TheVariants.{One, By, Arg}
use Rattle.vk_kinds.specs.declared.kinds.Kind.{Kind}
use Rattle.vk_kinds.specs.declared.kinds.Kind.TheVariants.{Vector, Uniform, Linear}
use Rattle.vk_kinds.specs.declared.kinds.Param.{Param}
use Rattle.vk_kinds.specs.declared.kinds.Length.{Length}
use Rattle.vk_kinds.specs.Sizes.{HeadTypes, SignatureTree, bytes_of}
use Rattle.vk_kinds.specs.Lengths.{lengths}
use Rattle.vk_ast.specs.declared.directives.PlacedName.{PlacedName}
use Rattle.vk_ast.specs.declared.names.NameId.{NameId}
use Rattle.vk_ast.specs.declared.items.ParamDecl.{ParamDecl}
use Rattle.vk_ast.specs.Tree.{Tree, name}
use Rattle.vk_ast.specs.Directives.{Says, simdlen, uniform, aligned, linear, inside, outside, ClauseTree, DirectiveTree}
use Rattle.vk_ast.specs.Units.{FunctionTree}
use Rattle.vk_numbers.specs.Constants.{constant_of, constant_to}
use Rattle.vk_rules_book.specs.Scopes.{same_name, types_of}

-- ---- parameters

abbrev pub is_named : NameId → ParamDecl → Bool
is_named id p = is_some_name p.name
  where
    is_some_name : Option NameId → Bool
    is_some_name None = false
    is_some_name (Some own) = same_name own id

-- the first parameter with this name
unfoldable pub param_of : List ParamDecl → NameId → Option ParamDecl
param_of [] id = None
param_of (p ∷ ps) id = cond (is_named id p) (Some p) (param_of ps id)

-- its number
unfoldable pub number_of : List ParamDecl → NameId → ℕ
number_of [] id = 0
number_of (p ∷ ps) id = cond (is_named id p) 0 (1 + number_of ps id)

abbrev pub is_integer : Option ParamDecl → Bool
is_integer None = false
is_integer (Some p) = is_int p.ctype
  where
    is_int : CType → Bool
    is_int (Int t) = true
    is_int _ = false

-- the type that a pointer parameter points to
abbrev pub pointee : CType → Option Ty
pointee (Ptr to written) = Some to
pointee _ = None

-- that of the parameter with this name
abbrev pub pointee_of : List ParamDecl → NameId → Option Ty
pointee_of params id = of_param (param_of params id)
  where
    of_param : Option ParamDecl → Option Ty
    of_param None = None
    of_param (Some p) = pointee p.ctype

-- ---- clauses

abbrev pub lists : NameId → List PlacedName → Bool
lists id names = list_any (λ n. same_name n.name id) names

abbrev pub is_in_uniform : NameId → Says → Bool
is_in_uniform id (uniform names) = lists id names
is_in_uniform id _ = false

-- a parameter is uniform where a clause of the directive says so
unfoldable pub is_uniform : DirectiveTree → NameId → Bool
is_uniform d id = list_any (λ c. is_in_uniform id c.says) d.clauses

-- ---- steps

pub data StepTree : Type 0 where
  constant : ℤ → StepTree
  by_parameter : ℕ → StepTree
  no_step : StepTree

-- a constant, or the name of an integer parameter that is uniform on this directive; none written is 1
abbrev pub named_step : FunctionTree → DirectiveTree → Tree → StepTree
named_step f d (name l k id) = cond (is_integer (param_of f.params id) && is_uniform d id) (by_parameter (number_of f.params id)) no_step
named_step f d _ = no_step

abbrev pub constant_step : Option ℤ → StepTree → StepTree
constant_step None step = step
constant_step (Some z) step = constant z

unfoldable pub step_of : FunctionTree → DirectiveTree → Option Tree → StepTree
step_of f d None = constant (pos 1)
step_of f d (Some e) = constant_step (constant_of e) (named_step f d e)

-- a step of a pointer counts elements, and its signature bytes
abbrev pub scaled : Option Ty → ℤ → ℤ
scaled None z = z
scaled (Some to) z = z *ℤ pos (bytes_of to)

abbrev pub by_number : ℤ → Step
by_number z = cond (int_eq z (pos 1)) One (By z)

abbrev pub written_step : Option Ty → StepTree → Step
written_step to (constant z) = by_number (scaled to z)
written_step to (by_parameter n) = Arg n
written_step to no_step = One

-- ---- signatures

abbrev pub kind_said : FunctionTree → DirectiveTree → NameId → Says → Option Kind
kind_said f d id (uniform names) = cond (lists id names) (Some Uniform) None
kind_said f d id (linear names modifier e) = cond (lists id names) (Some (Linear (written_step (pointee_of f.params id) (step_of f d e)))) None
kind_said f d id _ = None

unfoldable pub kind_in : FunctionTree → DirectiveTree → NameId → List ClauseTree → Kind
kind_in f d id [] = Vector
kind_in f d id (c ∷ cs) = unwrap_or (kind_said f d id c.says) (kind_in f d id cs)

-- `aligned` without a number is 16
abbrev pub alignment : Option Tree → Option ℕ
alignment None = Some 16
alignment (Some e) = constant_to 65536 e

abbrev pub align_said : NameId → Says → Option ℕ
align_said id (aligned names e) = cond (lists id names) (alignment e) None
align_said id _ = None

unfoldable pub align_in : NameId → List ClauseTree → Option ℕ
align_in id [] = None
align_in id (c ∷ cs) = option_or (align_said id c.says) (align_in id cs)

abbrev pub param_signature : FunctionTree → DirectiveTree → Option NameId → Param
param_signature f d None = record { kind = Vector; align = None }
param_signature f d (Some id) = record { kind = kind_in f d id d.clauses; align = align_in id d.clauses }

abbrev pub branch_said : Says → Option Branch
branch_said inside = Some Inside
branch_said outside = Some Outside
branch_said _ = None

unfoldable pub branch_in : List ClauseTree → Branch
branch_in [] = Both
branch_in (c ∷ cs) = unwrap_or (branch_said c.says) (branch_in cs)

abbrev pub simdlen_said : Says → Option ℕ
simdlen_said (simdlen e) = constant_to 256 e
simdlen_said _ = None

unfoldable pub simdlen_in : List ClauseTree → Option ℕ
simdlen_in [] = None
simdlen_in (c ∷ cs) = option_or (simdlen_said c.says) (simdlen_in cs)

-- what a directive says that breaks none of D1 to D14
unfoldable pub signature_of : FunctionTree → DirectiveTree → SignatureTree
signature_of f d = record {
  params = map (λ p. param_signature f d p.name) f.params;
  branch = branch_in d.clauses;
  simdlen = simdlen_in d.clauses;
}

abbrev pub head_of : FunctionTree → HeadTypes
head_of f = record { result = f.result; params = types_of f.params }

-- ---- equal signatures

abbrev pub same_step : Step → Step → Bool
same_step One One = true
same_step (By z) (By y) = int_eq z y
same_step (Arg n) (Arg m) = n == m
same_step _ _ = false

-- a directive says of a parameter that it is one of these three kinds
abbrev pub same_kind : Kind → Kind → Bool
same_kind Vector Vector = true
same_kind Uniform Uniform = true
same_kind (Linear s) (Linear t) = same_step s t
same_kind _ _ = false

abbrev pub same_number : Option ℕ → Option ℕ → Bool
same_number None None = true
same_number (Some n) (Some m) = n == m
same_number _ _ = false

unfoldable pub same_params : List Param → List Param → Bool
same_params [] [] = true
same_params (p ∷ ps) (q ∷ qs) = (same_kind p.kind q.kind && same_number p.align q.align) && same_params ps qs
same_params _ _ = false

abbrev pub same_branch : Branch → Branch → Bool
same_branch Both Both = true
same_branch Inside Inside = true
same_branch Outside Outside = true
same_branch _ _ = false

abbrev pub same_signature : SignatureTree → SignatureTree → Bool
same_signature s t = same_params s.params t.params && (same_branch s.branch t.branch && same_number s.simdlen t.simdlen)

unfoldable pub same_signatures : List SignatureTree → List SignatureTree → Bool
same_signatures [] [] = true
same_signatures (s ∷ ss) (t ∷ ts) = same_signature s t && same_signatures ss ts
same_signatures _ _ = false

abbrev pub same_len : Len → Len → Bool
same_len (Fixed n) (Fixed m) = n == m
same_len Scalable Scalable = true
same_len _ _ = false

abbrev pub same_length : Length → Length → Bool
same_length a b = sameb the_type a.isa b.isa && (cond a.masked b.masked (not b.masked) && same_len a.len b.len)

-- Two directives of one function give the same name: one of letter, mask, length and parameters. (A name has one text.)
unfoldable pub share_a_name : Target → HeadTypes → SignatureTree → SignatureTree → Bool
share_a_name target h s t = same_params s.params t.params
    && list_any (λ a. list_any (λ b. same_length a b) (lengths target h t)) (lengths target h s)
