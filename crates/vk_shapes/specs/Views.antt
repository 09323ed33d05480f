-- What the code knows of variables, as a view of `vk_sites`.
use Rattle.std.specs.Prelude.{◌≡◌, ℕ, ◌==◌, nat_lt, cond, Bool, false, get_or, Option, Some, None, pos}
use Rattle.vk_meaning.specs.Points.{Variable}
use Rattle.vk_code.specs.declared.code.Shape.TheVariants.{Vector, Uniform, By}
use Rattle.vk_sites.specs.Shapes.{View, is_number}
use Rattle.vk_shapes.specs.declared.view.View.{View as Held}
use Rattle.vk_shapes.specs.declared.view.View.TheVariants.{Directive, Loop}

abbrev pub view_of : Held → View
view_of (Directive shapes) = record { variable = λ n. get_or shapes.now n Vector; loop = None }
view_of (Loop own) = record { variable = λ n. cond (nat_lt n own) Uniform (cond (n == own) (By (pos 1)) Vector); loop = Some own }

abbrev pub number_of : Variable → ℕ
number_of x = x.number

-- the number of the loop's variable
abbrev pub is_loop_number : Option ℕ → Option ℕ → Bool
is_loop_number loop None = false
is_loop_number loop (Some n) = is_number loop n
