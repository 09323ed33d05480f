-- Rows of directives that are signatures.
use Rattle.std.specs.Prelude.{◌≡◌, ◌==◌, Bool, true, ◌&&◌, length}
use Rattle.std.specs.List.{list_all}
use Rattle.vk_kinds.specs.Sizes.{HeadTypes, SignatureTree}
use Rattle.vk_object_format.specs.declared.rows.RawDirective.{RawDirective}
use Rattle.vk_object_format.specs.Values.{signature_of}
use Rattle.vk_object_fields.specs.Cut.{is_near}

-- one parameter for each of the function, and those that it names have numbers of one byte
abbrev pub is_ready : HeadTypes → RawDirective → Bool
is_ready h d = (length h.params == length d.params) && list_all is_near d.params

-- this is the signature
pub record IsSigned (h : HeadTypes) (d : RawDirective) (s : SignatureTree) : Type 0 where
  pub tree : s ≡ signature_of d
  pub ready : is_ready h d ≡ true
