-- The directives of a later declaration against those of the first one.
use Rattle.std.proofs.Common.{◌≡◌, ℕ, suc, ◌+◌, ◌<◌, Bool, true, false, cond, ◌&&◌, not, List, [], ◌∷◌, map, length, Option, Some, None, is_some, refl, sym, ap, ap₂, ◌∙◌, arith}
use Rattle.std.specs.List.{list_all, position_from}
use Rattle.std.proofs.lemmas.Bool.{false≢true}
use Rattle.vk_kinds.specs.Sizes.{SignatureTree}
use Rattle.vk_ast.specs.Directives.{DirectiveTree}
use Rattle.vk_ast.specs.Units.{FunctionTree, function}
use Rattle.vk_rules_book.specs.Scopes.{has_directives}
use Rattle.vk_rules_book.specs.Signatures.{same_signature, same_signatures, signature_of}
use Rattle.vk_rules_book.specs.Directives.{has_other_directives, has_signature, have_signatures}
use Rattle.vk_rules_directives.specs.declared.signed.Signed.{Signed}
use Rattle.vk_rules_directives.specs.Inner.Signed.{AreSigned, all_signed, differs, is_nil, list_seen, same_lists, same_option, signed}

nil_of : (f : FunctionTree) (ds : List DirectiveTree) → not (is_nil (map (signed f) ds)) ≡ has_directives ds
nil_of f [] = refl
nil_of f (d ∷ ds) = refl

some_of : (b : Bool) (s : SignatureTree) → is_some (cond b (Some s) None) ≡ b
some_of true s = refl
some_of false s = refl

all_of : (f : FunctionTree) (ds : List DirectiveTree) → list_all is_some (map (signed f) ds) ≡ list_all (has_signature f) ds
all_of f [] = refl
all_of f (d ∷ ds) = ap₂ (λ (a b : Bool). a && b) (some_of (has_signature f d) (signature_of f d)) (all_of f ds)

same_nil : same_signatures [] [] ≡ true
unfolding same_signatures
same_nil = refl

same_short : (t : SignatureTree) (ts : List SignatureTree) → same_signatures [] (t ∷ ts) ≡ false
unfolding same_signatures
same_short t ts = refl

same_long : (s : SignatureTree) (ss : List SignatureTree) → same_signatures (s ∷ ss) [] ≡ false
unfolding same_signatures
same_long s ss = refl

same_cons : (s t : SignatureTree) (ss ts : List SignatureTree) → same_signatures (s ∷ ss) (t ∷ ts) ≡ (same_signature s t && same_signatures ss ts)
unfolding same_signatures
same_cons s t ss ts = refl

-- tests that matter only where both hold
both_so : (a b c x y : Bool) → (a ≡ true → b ≡ true → x ≡ y) → (c && ((a && b) && not x)) ≡ (c && ((a && b) && not y))
both_so true true c x y e = ap (λ z. c && not z) (e refl refl)
both_so true false c x y e = refl
both_so false b c x y e = refl

heads : (a b : Bool) (s t : SignatureTree) (x y : Bool) (c e : Bool) → (a && c) ≡ true → (b && e) ≡ true → (c ≡ true → e ≡ true → x ≡ y)
    → (same_option (cond a (Some s) None) (cond b (Some t) None) && x) ≡ (same_signature s t && y)
heads true true s t x y c e ea eb so = ap (λ z. same_signature s t && z) (so ea eb)
heads true false s t x y c e ea eb so = absurd (false≢true eb)
heads false b s t x y c e ea eb so = absurd (false≢true ea)

same_of : (g f : FunctionTree) (ds es : List DirectiveTree) → list_all (has_signature g) ds ≡ true → list_all (has_signature f) es ≡ true
    → same_lists (map (signed g) ds) (map (signed f) es) ≡ same_signatures (map (signature_of g) ds) (map (signature_of f) es)
same_of g f [] [] a b = sym same_nil
same_of g f [] (e ∷ es) a b = sym (same_short _ _)
same_of g f (d ∷ ds) [] a b = sym (same_long _ _)
same_of g f (d ∷ ds) (e ∷ es) a b =
    heads (has_signature g d) (has_signature f e) (signature_of g d) (signature_of f e) _ _ _ _ a b (same_of g f ds es)
    ∙ sym (same_cons (signature_of g d) (signature_of f e) (map (signature_of g) ds) (map (signature_of f) es))

others : (g f : FunctionTree) → differs (all_signed g) (all_signed f) ≡ has_other_directives (Some (function g)) f
others g f =
    ap (λ n. n && ((list_all is_some (all_signed g) && list_all is_some (all_signed f)) && not (same_lists (all_signed g) (all_signed f)))) (nil_of f f.directives)
    ∙ ap₂ (λ (a b : Bool). has_directives f.directives && ((a && b) && not (same_lists (all_signed g) (all_signed f)))) (all_of g g.directives) (all_of f f.directives)
    ∙ both_so (have_signatures g) (have_signatures f) (has_directives f.directives) _ _ (same_of g f g.directives f.directives)

pub others_by : (g f : FunctionTree) (s o : Signed) → AreSigned s g → AreSigned o f → differs (list_seen s) (list_seen o) ≡ has_other_directives (Some (function g)) f
others_by g f s o first own = ap₂ differs first.list own.list ∙ others g f

pub alone : (s : Signed) (f : FunctionTree) → AreSigned s f → s.all ≡ list_all is_some (list_seen s)
alone s f are = are.all ∙ ap (list_all is_some) (sym are.list)

-- ---- positions

pub position_below : {A : Type 0} (test : A → Bool) (k : ℕ) (xs : List A) (n : ℕ) → position_from test k xs ≡ Some n → n < k + length xs
position_below test k [] n e = cc
position_below test k (x ∷ xs) n e = here (test x) k (position_from test (k + 1) xs) n (length xs) e (λ rest. position_below test (k + 1) xs n rest)
  where
    here : (b : Bool) (k : ℕ) (rest : Option ℕ) (n m : ℕ) → cond b (Some k) rest ≡ Some n → (rest ≡ Some n → n < k + 1 + m) → n < k + suc m
    here true k rest n m e later = let same : k ≡ n = cc in omega (arith, same)
    here false k rest n m e later = omega (arith, later e)
