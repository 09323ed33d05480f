-- Kinds by their letters and steps, and variants by their names.
use Rattle.std.proofs.Common.{◌≡◌, ℕ, zero, suc, List, [], ◌∷◌, map, Some, length, refl, ap, arith, ◌∙◌, sym, slice_get}
use Rattle.std.proofs.lemmas.List.{length-map}
use Rattle.vk_kinds.specs.declared.kinds.Kind.{Kind}
use Rattle.vk_kinds.specs.declared.kinds.Kind.TheVariants.{Vector, Uniform, Linear, Ref, Val, Uval}
use Rattle.vk_kinds.specs.Sizes.{SignatureTree}
use Rattle.vk_names.specs.Spelling.{kind_letter, step_of}
use Rattle.vk_ast.specs.Directives.{DirectiveTree}
use Rattle.vk_ast.specs.Units.{FunctionTree}
use Rattle.vk_rules_book.specs.Signatures.{head_of, param_signature, signature_of}

pub kind_same : (k m : Kind) → kind_letter k ≡ kind_letter m → step_of k ≡ step_of m → k ≡ m
kind_same Vector Vector l e = refl
kind_same Vector Uniform l e = absurd (omega (arith, l))
kind_same Vector (Linear t) l e = absurd (omega (arith, l))
kind_same Vector (Ref t) l e = absurd (omega (arith, l))
kind_same Vector (Val t) l e = absurd (omega (arith, l))
kind_same Vector (Uval t) l e = absurd (omega (arith, l))
kind_same Uniform Vector l e = absurd (omega (arith, l))
kind_same Uniform Uniform l e = refl
kind_same Uniform (Linear t) l e = absurd (omega (arith, l))
kind_same Uniform (Ref t) l e = absurd (omega (arith, l))
kind_same Uniform (Val t) l e = absurd (omega (arith, l))
kind_same Uniform (Uval t) l e = absurd (omega (arith, l))
kind_same (Linear s) Vector l e = absurd (omega (arith, l))
kind_same (Linear s) Uniform l e = absurd (omega (arith, l))
kind_same (Linear s) (Linear t) l e = let same : s ≡ t = cc in ap Linear same
kind_same (Linear s) (Ref t) l e = absurd (omega (arith, l))
kind_same (Linear s) (Val t) l e = absurd (omega (arith, l))
kind_same (Linear s) (Uval t) l e = absurd (omega (arith, l))
kind_same (Ref s) Vector l e = absurd (omega (arith, l))
kind_same (Ref s) Uniform l e = absurd (omega (arith, l))
kind_same (Ref s) (Linear t) l e = absurd (omega (arith, l))
kind_same (Ref s) (Ref t) l e = let same : s ≡ t = cc in ap Ref same
kind_same (Ref s) (Val t) l e = absurd (omega (arith, l))
kind_same (Ref s) (Uval t) l e = absurd (omega (arith, l))
kind_same (Val s) Vector l e = absurd (omega (arith, l))
kind_same (Val s) Uniform l e = absurd (omega (arith, l))
kind_same (Val s) (Linear t) l e = absurd (omega (arith, l))
kind_same (Val s) (Ref t) l e = absurd (omega (arith, l))
kind_same (Val s) (Val t) l e = let same : s ≡ t = cc in ap Val same
kind_same (Val s) (Uval t) l e = absurd (omega (arith, l))
kind_same (Uval s) Vector l e = absurd (omega (arith, l))
kind_same (Uval s) Uniform l e = absurd (omega (arith, l))
kind_same (Uval s) (Linear t) l e = absurd (omega (arith, l))
kind_same (Uval s) (Ref t) l e = absurd (omega (arith, l))
kind_same (Uval s) (Val t) l e = absurd (omega (arith, l))
kind_same (Uval s) (Uval t) l e = let same : s ≡ t = cc in ap Uval same

-- a signature has a parameter for each type
counted : (g : FunctionTree) (x : DirectiveTree) → length (head_of g).params ≡ length (signature_of g x).params
unfolding signature_of
counted g x = length-map g.params (λ p. p.ctype) ∙ sym (length-map g.params (λ p. param_signature g x p.name))

pub same_count : (g : FunctionTree) (ds : List DirectiveTree) (d : ℕ) (s : SignatureTree) → slice_get (map (signature_of g) ds) d ≡ Some s → length (head_of g).params ≡ length s.params
same_count g [] d s at = cc
same_count g (x ∷ xs) zero s at = let same : signature_of g x ≡ s = cc in counted g x ∙ ap (λ (t : SignatureTree). length t.params) same
same_count g (x ∷ xs) (suc d) s at = same_count g xs d s at
