-- Tokens that are known by a test of the first one.
use Rattle.std.proofs.Common.{◌≡◌, ℕ, true, List, [], ◌∷◌, ◌++◌, Some, refl, sym, ap, subst, append_assoc, true≢false}
use denote.Enum.Bare.{same_true, true_same}
use Rattle.vk_tokens.specs.contracts.tokens.Mark.{the_type}
use Rattle.vk_tokens.specs.declared.tokens.Mark.{Mark}
use Rattle.vk_grammar_expr.specs.declared.symbols.Sym.{Sym}
use Rattle.vk_grammar_expr.specs.declared.symbols.SymKind.{SymKind}
use Rattle.vk_grammar_expr.specs.declared.symbols.SymKind.TheVariants as kind
use Rattle.vk_grammar_expr.specs.declared.symbols.Prefix.{Prefix}
use Rattle.vk_ast.specs.declared.expressions.BinOp.{BinOp}
use Rattle.vk_grammar_expr.specs.Symbols.{head, IsSign, is_sign, same_mark, prefix_at, IsPrefix, operator_at, IsOperator}
use Rattle.vk_grammar_expr.specs.Inner.Parser.{Parser, too_deep, ◌>>=◌, take, expect}
use Rattle.vk_grammar_expr.proofs.Steps.{Follows, Goes, goes, take_follows, token_follows, deep_follows, refuse_follows, choose_follows, bind_follows}

pub sign_kind : (m : Mark) (k : SymKind) → is_sign m (Some k) ≡ true → k ≡ kind.Sign m
unfolding is_sign same_mark
sign_kind m (kind.Sign found) e = ap kind.Sign (same_true the_type tt found m e)
sign_kind m _ e = absurd (true≢false (sym e))

pub sign_is : {m : Mark} {t : Sym} → IsSign m t → is_sign m (Some t.kind) ≡ true
unfolding is_sign same_mark
sign_is {m} {t} i = subst (λ k. is_sign m (Some k) ≡ true) (sym i.is) (true_same the_type m m refl)

-- ---- readers at a sign

pub take_sign_follows : {B : Type 0} {R : B → List Sym → Type 0} {c : List Sym} {f : Sym → Parser B} {m : Mark} {w : List Sym}
    → is_sign m (head w) ≡ true → ((t : Sym) (r : List Sym) → IsSign m t → Follows R (c ++ (t ∷ [])) (f t) r) → Follows R c (take >>= f) w
unfolding is_sign
take_sign_follows {w = []} e next = absurd (true≢false (sym e))
take_sign_follows {m = m} {w = t ∷ r} e next = take_follows (next t r (record { is = sign_kind m t.kind e }))

pub sign_deep_follows : {B : Type 0} {R : B → List Sym → Type 0} {c : List Sym} {m : Mark} {w : List Sym}
    → is_sign m (head w) ≡ true → ((t : Sym) → IsSign m t → Goes R (c ++ (t ∷ []))) → Follows R c too_deep w
unfolding is_sign
sign_deep_follows {w = []} e ends = absurd (true≢false (sym e))
sign_deep_follows {m = m} {w = t ∷ r} e ends = deep_follows (ends t (record { is = sign_kind m t.kind e }))

-- a token of this sign
abbrev pub sign_of : Mark → Sym
sign_of m = record { line = 0; at = 0; kind = kind.Sign m }

pub sign_of_is : {m : Mark} → IsSign m (sign_of m)
sign_of_is = record { is = refl }

record OneSign (m : Mark) (t : Sym) (u : List Sym) : Type 0 where
  same : u ≡ t ∷ []
  sign : IsSign m t

one_sign : (m : Mark) (w : List Sym) → is_sign m (head w) ≡ true → Follows (OneSign m) [] take w
unfolding is_sign
one_sign m [] e = absurd (true≢false (sym e))
one_sign m (t ∷ r) e = token_follows (record { same = refl; sign = record { is = sign_kind m t.kind e } })

expect_one : (m : Mark) (w : List Sym) → Follows (OneSign m) [] (expect m) w
expect_one m w = choose_follows (is_sign m) (one_sign m w) (λ e. refuse_follows (goes (sign_of m ∷ []) (sign_of m) (record { same = refl; sign = sign_of_is })))

pub expect_follows : {B : Type 0} {R : B → List Sym → Type 0} {c : List Sym} {f : Sym → Parser B} {m : Mark} {w : List Sym}
    → ((t : Sym) (r : List Sym) → IsSign m t → Follows R (c ++ (t ∷ [])) (f t) r) → ((t : Sym) → IsSign m t → Goes R (c ++ (t ∷ []))) → Follows R c (expect m >>= f) w
expect_follows {R} {c} {f} {m} {w} next ends = bind_follows {S = OneSign m} (expect_one m w)
    (λ t v r parts one. subst (λ z. Follows R (c ++ z) (f t) r) (sym one.same) (next t r one.sign))
    (λ t v one. subst (λ z. Goes R (c ++ z)) (sym one.same) (ends t one.sign))

-- something, and a sign behind it
pub then_expect_follows : {A B : Type 0} {S : A → List Sym → Type 0} {R : B → List Sym → Type 0} {c : List Sym} {p : Parser A} {f : A → Sym → Parser B} {m : Mark} {w : List Sym}
    → Follows S [] p w
    → ((a : A) (v : List Sym) (t : Sym) (r : List Sym) → S a v → IsSign m t → Follows R ((c ++ v) ++ (t ∷ [])) (f a t) r)
    → ((a : A) (v : List Sym) (t : Sym) → S a v → IsSign m t → Goes R ((c ++ v) ++ (t ∷ [])))
    → Follows R c (p >>= (λ a. expect m >>= f a)) w
then_expect_follows {R} {c} {m} h next ends = bind_follows h
    (λ a v r parts s. expect_follows (λ t r2 is. next a v t r2 s is) (λ t is. ends a v t s is))
    (λ a v s. let g : Goes R ((c ++ v) ++ (sign_of m ∷ [])) = ends a v (sign_of m) s sign_of_is in
    goes (sign_of m ∷ g.after) g.value (subst (R g.value) (append_assoc (c ++ v) (sign_of m ∷ []) g.after) g.is))

-- ---- operators before an operand

pub prefix_follows : {B : Type 0} {R : B → List Sym → Type 0} {c : List Sym} {f : Sym → Parser B} {p : Prefix} {w : List Sym}
    → prefix_at (head w) ≡ Some p → ((t : Sym) (r : List Sym) → IsPrefix p t → Follows R (c ++ (t ∷ [])) (f t) r) → Follows R c (take >>= f) w
unfolding prefix_at
prefix_follows {w = []} e next = absurd (cc)
prefix_follows {w = t ∷ r} e next = take_follows (next t r (record { is = e }))

pub prefix_deep_follows : {B : Type 0} {R : B → List Sym → Type 0} {c : List Sym} {p : Prefix} {w : List Sym}
    → prefix_at (head w) ≡ Some p → ((t : Sym) → IsPrefix p t → Goes R (c ++ (t ∷ []))) → Follows R c too_deep w
unfolding prefix_at
prefix_deep_follows {w = []} e ends = absurd (cc)
prefix_deep_follows {w = t ∷ r} e ends = deep_follows (ends t (record { is = e }))

-- ---- operators between operands

pub operator_follows : {B : Type 0} {R : B → List Sym → Type 0} {c : List Sym} {f : Sym → Parser B} {n : ℕ} {o : BinOp} {w : List Sym}
    → operator_at n (head w) ≡ Some o → ((t : Sym) (r : List Sym) → IsOperator n o t → Follows R (c ++ (t ∷ [])) (f t) r) → Follows R c (take >>= f) w
unfolding operator_at
operator_follows {w = []} e next = absurd (cc)
operator_follows {w = t ∷ r} e next = take_follows (next t r (record { is = e }))

pub operator_deep_follows : {B : Type 0} {R : B → List Sym → Type 0} {c : List Sym} {n : ℕ} {o : BinOp} {w : List Sym}
    → operator_at n (head w) ≡ Some o → ((t : Sym) → IsOperator n o t → Goes R (c ++ (t ∷ []))) → Follows R c too_deep w
unfolding operator_at
operator_deep_follows {w = []} e ends = absurd (cc)
operator_deep_follows {w = t ∷ r} e ends = deep_follows (ends t (record { is = e }))
