-- Constant steps by what tables say.
use Rattle.std.proofs.Common.{◌≡◌, ◌||◌, List, Option, Some, None, refl, ap, ◌∙◌, ℤ, pos}
use Rattle.std.specs.List.{list_any}
use Rattle.std.specs.Ordering.{int_eq}
use Rattle.std.specs.Option.{option_and_then, option_map}
use Rattle.vk_types.specs.declared.types.Ty.{Ty}
use Rattle.vk_kinds.specs.declared.heads.CType.{CType}
use Rattle.vk_ast.specs.declared.names.NameId.{NameId}
use Rattle.vk_ast.specs.declared.items.ParamDecl.{ParamDecl}
use Rattle.vk_ast.specs.declared.directives.PlacedName.{PlacedName}
use Rattle.vk_rules_book.specs.Directives.{is_too_great, is_wrong_step}
use Rattle.vk_rules_book.specs.Signatures.{constant, param_of, pointee, pointee_of, scaled}
use Rattle.vk_rules_directives.specs.Inner.Tables.{AreTypes}
use Rattle.vk_rules_directives.specs.Inner.Tests.{is_wrong_constant, pointee_at}

by_case : (params : List ParamDecl) (id : NameId) (p : Option ParamDecl) → param_of params id ≡ p → option_and_then pointee (option_map (λ (p : ParamDecl). p.ctype) p) ≡ pointee_of params id
by_case params id None e = rw e refl
by_case params id (Some p) e = rw e refl

by_table : (params : List ParamDecl) (types : List (Option CType)) → AreTypes types params → (id : NameId) → pointee_at types id ≡ pointee_of params id
by_table params types are id = ap (option_and_then pointee) (are id) ∙ by_case params id (param_of params id) refl

pub constant_by : (params : List ParamDecl) (types : List (Option CType)) (names : List PlacedName) (z : ℤ) → AreTypes types params
    → is_wrong_constant types names z ≡ is_wrong_step params names (constant z)
constant_by params types names z are =
    ap (λ (to : NameId → Option Ty). int_eq z (pos 0) || (is_too_great z || list_any (λ (n : PlacedName). is_too_great (scaled (to n.name) z)) names)) (λ i id. by_table params types are id i)
