-- Parameters as locals in registers.
use Rattle.std.specs.Prelude.{◌≡◌, ⊤, ℕ, ◌+◌, List, [], ◌∷◌, Some}
use Rattle.vk_kinds.specs.declared.heads.CType.TheVariants.{Int}
use Rattle.vk_ast.specs.declared.items.ParamDecl.{ParamDecl}
use Rattle.vk_flat.specs.declared.locals.Local.{Local}

-- a parameter, which has a name and an integer type, is in this register
pub record IsParam (register : ℕ) (p : ParamDecl) (x : Local) : Type 0 where
  pub name : p.name ≡ Some x.name
  pub ctype : p.ctype ≡ Int x.place.ty
  pub place : x.place.register ≡ register

-- the parameters are in the registers from this one on
abbrev pub AreParams : (register : ℕ) → List ParamDecl → List Local → Type 0
AreParams k [] [] = ⊤
AreParams k [] (x ∷ xs) = ⊥
AreParams k (p ∷ ps) [] = ⊥
AreParams k (p ∷ ps) (x ∷ xs) = IsParam k p x × AreParams (k + 1) ps xs
