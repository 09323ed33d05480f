-- Parentheses match in the text of each expression.
use Rattle.std.proofs.Common.{◌≡◌, ℕ, ◌+◌, ◌-◌, true, false, nat_le, List, [], ◌∷◌, ◌++◌, length, Some, refl, sym, ap, ◌∙◌, subst, append_assoc, length-append, arith}
use Rattle.std.proofs.lemmas.Bool.{false_from_ne_true, false≢true}
use Rattle.std.proofs.lemmas.Bool.Decides.{nat_tests}
use Rattle.vk_ast.specs.declared.expressions.BinOp.{BinOp}
use Rattle.vk_ast.specs.Tree.{Tree}
use Rattle.vk_tokens.specs.declared.tokens.Mark.{Mark}
use Rattle.vk_tokens.specs.declared.tokens.Mark.TheVariants as mark
use Rattle.vk_grammar_expr.specs.declared.symbols.Sym.{Sym}
use Rattle.vk_grammar_expr.specs.declared.symbols.SymKind.{SymKind}
use Rattle.vk_grammar_expr.specs.declared.symbols.SymKind.TheVariants as kind
use Rattle.vk_grammar_expr.specs.declared.symbols.Prefix.{Prefix}
use Rattle.vk_grammar_expr.specs.Symbols.{Is, IsSign, IsPrefix, IsOperator, is_sign, same_mark, prefix_at, prefix_of, operator_at, operator_of, is_type_part}
use Rattle.vk_grammar_expr.specs.Types.{AreTypeParts, no_parts, a_part}
use Rattle.vk_grammar_expr.specs.Grammar.{Tall, Sort, Spells, a_prefix, a_cast, a_post, lower, a_binary, plain, a_choice, IsPost, an_int, a_name, a_call, a_group, an_index, AreArgs, no_args, some_args, AreMore, none_more, one_more}
use Rattle.vk_grammar_expr.proofs.Signs.{sign_kind, sign_is}
use Rattle.vk_parse_directives.specs.Cuts.{is_open, is_close, group_len}

-- a list at whose end as many parentheses are open as before it, and never fewer within
pub record IsEven (x : List Sym) : Type 0 where
  pub even : (d : ℕ) (rest : List Sym) → group_len (d + 1) (x ++ rest) ≡ length x + group_len (d + 1) rest

even_nil : IsEven []
even_nil = record { even = λ d rest. sym (omega arith) }

even_append : {x y : List Sym} → IsEven x → IsEven y → IsEven (x ++ y)
even_append {x} {y} a b = record {
  even = λ d rest. ap (group_len (d + 1)) (append_assoc x y rest) ∙ a.even d (y ++ rest) ∙ (let e = b.even d rest in omega (arith, e, length-append x y));
}

record IsPlain (t : Sym) : Type 0 where
  open_not : is_open t ≡ false
  close_not : is_close t ≡ false

even_one : {t : Sym} → IsPlain t → IsEven (t ∷ [])
even_one p = record { even = λ d rest. rw (p.open_not, p.close_not) refl }

even_cons : {t : Sym} {x : List Sym} → IsPlain t → IsEven x → IsEven (t ∷ x)
even_cons p a = even_append (even_one p) a

above_one : (d : ℕ) → nat_le (d + 1 + 1) 1 ≡ false
above_one d = grind (arith, nat_tests)

pub closing : (d : ℕ) (c : Sym) (rest : List Sym) → IsSign mark.CloseParen c → group_len (d + 1 + 1) (c ∷ rest) ≡ 1 + group_len (d + 1) rest
unfolding is_sign same_mark
closing d c rest i =
    let deep : nat_le (d + 1 + 1) 1 ≡ false = above_one d in
    let less : d + 1 + 1 - 1 ≡ d + 1 = omega arith in
    rw (i.is, deep, less) refl

last_close : (c : Sym) (rest : List Sym) → IsSign mark.CloseParen c → group_len 1 (c ∷ rest) ≡ 1
unfolding is_sign same_mark
last_close c rest i = rw i.is refl

opened : (d : ℕ) (o : Sym) (rest : List Sym) → IsSign mark.OpenParen o → group_len (d + 1) (o ∷ rest) ≡ 1 + group_len (d + 1 + 1) rest
opened d o rest i = rw (sign_is i) refl

even_group : {o c : Sym} {x : List Sym} → IsSign mark.OpenParen o → IsSign mark.CloseParen c → IsEven x → IsEven (o ∷ (x ++ (c ∷ [])))
even_group {o} {c} {x} i j a = record {
  even = λ d rest.
      let inner = ap (group_len (d + 1 + 1)) (append_assoc x (c ∷ []) rest) ∙ a.even (d + 1) (c ∷ rest) ∙ ap (λ n. length x + n) (closing d c rest j) in
      opened d o ((x ++ (c ∷ [])) ++ rest) i ∙ (let e : group_len (d + 1 + 1) ((x ++ (c ∷ [])) ++ rest) ≡ length x + (1 + group_len (d + 1) rest) = inner in omega (arith, e, length-append x (c ∷ [])));
}

-- the group of such a list goes to its last `)`
pub group_is : {o c : Sym} {x : List Sym} (rest : List Sym) → IsSign mark.OpenParen o → IsSign mark.CloseParen c → IsEven x
    → group_len 0 (o ∷ ((x ++ (c ∷ [])) ++ rest)) ≡ length (o ∷ (x ++ (c ∷ [])))
group_is {o} {c} {x} rest i j a =
    let inner : group_len 1 ((x ++ (c ∷ [])) ++ rest) ≡ length x + 1 =
    ap (group_len 1) (append_assoc x (c ∷ []) rest) ∙ a.even 0 (c ∷ rest) ∙ ap (λ n. length x + n) (last_close c rest j) in
    rw (sign_is i) (omega (arith, inner, length-append x (c ∷ [])))

-- ---- other tokens

not_sign : (m : Mark) (k : SymKind) → (k ≡ kind.Sign m → ⊥) → is_sign m (Some k) ≡ false
not_sign m k ne = false_from_ne_true (is_sign m (Some k)) (λ e. ne (sign_kind m k e))

plain_kind : (t : Sym) → (t.kind ≡ kind.Sign mark.OpenParen → ⊥) → (t.kind ≡ kind.Sign mark.CloseParen → ⊥) → IsPlain t
plain_kind t o c = record { open_not = not_sign mark.OpenParen t.kind o; close_not = not_sign mark.CloseParen t.kind c }

plain_name : {k : SymKind} {t : Sym} → Is k t → (k ≡ kind.Sign mark.OpenParen → ⊥) → (k ≡ kind.Sign mark.CloseParen → ⊥) → IsPlain t
plain_name {t = t} i o c = plain_kind t (λ e. o (sym i.is ∙ e)) (λ e. c (sym i.is ∙ e))

plain_prefix : {p : Prefix} {t : Sym} → IsPrefix p t → IsPlain t
unfolding prefix_at prefix_of
plain_prefix {p} {t} i = plain_kind t (λ e. let x = sym (ap (λ k. prefix_at (Some k)) e) ∙ i.is in cc) (λ e. let x = sym (ap (λ k. prefix_at (Some k)) e) ∙ i.is in cc)

plain_operator : {n : ℕ} {o : BinOp} {t : Sym} → IsOperator n o t → IsPlain t
unfolding operator_at operator_of
plain_operator {n} {o} {t} i = plain_kind t (λ e. let x = sym (ap (λ k. operator_at n (Some k)) e) ∙ i.is in cc) (λ e. let x = sym (ap (λ k. operator_at n (Some k)) e) ∙ i.is in cc)

plain_part : (t : Sym) → is_type_part (Some t.kind) ≡ true → IsPlain t
unfolding is_type_part
plain_part t i = plain_kind t (λ e. false≢true (sym (ap (λ k. is_type_part (Some k)) e) ∙ i)) (λ e. false≢true (sym (ap (λ k. is_type_part (Some k)) e) ∙ i))

even_parts : {c : List Sym} → AreTypeParts c → IsEven c
even_parts no_parts = even_nil
even_parts (a_part {t = t} i rest) = even_cons (plain_part t i) (even_parts rest)

mutual
  pub even_of : {s : Sort} {e : Tree} {h : ℕ} {x : List Sym} → Spells s e h x → IsEven x
  even_of (a_prefix p s) = even_cons (plain_prefix p) (even_of s)
  even_of (a_cast {u = u} {c = c} {v = v} {x = x} i ty j s) =
      subst IsEven (ap (λ (l : List Sym). u ∷ l) (append_assoc c (v ∷ []) x)) (even_append (even_group i j (even_parts ty.parts)) (even_of s))
  even_of (a_post p) = even_post p
  even_of (lower s) = even_of s
  even_of (a_binary a o b) = even_append (even_of a) (even_cons (plain_operator o) (even_of b))
  even_of (plain s) = even_of s
  even_of (a_choice c i a j b) =
      even_append (even_of c) (even_cons (plain_name i (λ e. cc) (λ e. cc)) (even_append (even_of a) (even_cons (plain_name j (λ e. cc) (λ e. cc)) (even_of b))))

  even_post : {e : Tree} {h : ℕ} {x : List Sym} → IsPost e h x → IsEven x
  even_post (an_int i) = even_one (plain_name i (λ e. cc) (λ e. cc))
  even_post (a_name i) = even_one (plain_name i (λ e. cc) (λ e. cc))
  even_post (a_call i o args c) = even_cons (plain_name i (λ e. cc) (λ e. cc)) (even_group o c (even_args args))
  even_post (a_group o s c) = even_group o c (even_of s)
  even_post (an_index b o s c) =
      even_append (even_post b) (even_cons (plain_name o (λ e. cc) (λ e. cc)) (even_append (even_of s) (even_one (plain_name c (λ e. cc) (λ e. cc)))))

  even_args : {list : List Tall} {x : List Sym} → AreArgs list x → IsEven x
  even_args no_args = even_nil
  even_args (some_args s more) = even_append (even_of s) (even_more more)

  even_more : {list : List Tall} {x : List Sym} → AreMore list x → IsEven x
  even_more none_more = even_nil
  even_more (one_more i s more) = even_append (even_cons (plain_name i (λ e. cc) (λ e. cc)) (even_of s)) (even_more more)
