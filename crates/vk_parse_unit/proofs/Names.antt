-- Lists of parameters and items, as the code and the grammar see them.
use Rattle.std.proofs.Common.{◌≡◌, ◌&&◌, List, [], ◌∷◌, ◌++◌, map, refl, ap, ◌∙◌}
use Rattle.std.proofs.lemmas.List.{map-append}
use Rattle.std.specs.List.{list_all}
use Rattle.vk_ast.specs.declared.directives.Directive.{Directive}
use Rattle.vk_ast.specs.declared.items.ParamDecl.{ParamDecl}
use Rattle.vk_ast.specs.declared.items.Item.{Item}
use Rattle.vk_ast.specs.declared.items.Item.TheVariants.{Lost}
use Rattle.vk_ast.specs.Directives.{directive_of}
use Rattle.vk_ast.specs.Units.{ItemTree, item_of}
use Rattle.vk_grammar_unit.specs.Items.{all_named, has_name, lost_lines}

pub each_named : (params : List ParamDecl) → list_all (λ (p : ParamDecl). has_name p.name) params ≡ all_named params
each_named [] = refl
each_named (p ∷ params) = ap (λ b. has_name p.name && b) (each_named params)

pub lost_alone : (lines : List Directive) → map item_of (map Lost lines) ≡ lost_lines (map directive_of lines)
lost_alone [] = refl
lost_alone (d ∷ lines) = ap (λ z. ItemTree.lost_line (directive_of d) ∷ z) (lost_alone lines)

pub lost_before : (lines : List Directive) (items : List Item) → map item_of (map Lost lines ++ items) ≡ lost_lines (map directive_of lines) ++ map item_of items
lost_before lines items = map-append item_of (map Lost lines) items ∙ ap (λ z. z ++ map item_of items) (lost_alone lines)
