-- Whole expressions, in which no words are no type.
use Rattle.std.proofs.Common.{◌≡◌, ◌≤◌, ◌<◌, ℕ, zero, suc, Bool, true, false, ◌||◌, cond, List, length, take, Option, Some, None, Result, Ok, Err, IfSome, is_some, refl, sym, ap, ◌∙◌, subst, inl, inr, drop_of_length-le, arith}
use Rattle.std.proofs.lemmas.Bool.{cases_lt, false≢true}
use Rattle.vk_ast.specs.Tree.{Tree}
use Rattle.vk_grammar_expr.specs.declared.symbols.Sym.{Sym}
use Rattle.vk_grammar_expr.specs.Grammar.{Tall, full, Spells}
use Rattle.vk_grammar_expr.specs.Inner.Parser.{Fault}
use Rattle.vk_grammar_expr.specs.Inner.Reading.{whole_expression}
use Rattle.vk_grammar_expr.proofs.Theorem as theorem
use Rattle.vk_parse_words.specs.Faults.{is_front_fault, is_fault, IsC7}
use Rattle.vk_parse_directives.specs.Clauses.{IsCond}
use Rattle.vk_parse_directives.specs.Inner.Reading.{any_fault, has_fault, cond_in, tree_in}

-- ---- words of types

none_of : (x : List Sym) (n : ℕ) → ((k : ℕ) → is_fault x k ≡ false) → any_fault n x ≡ false
none_of x zero none = refl
none_of x (suc n) none = rw (none n, none_of x n none) refl

neither : (a b : Bool) → a || b ≡ false → (a ≡ false) × (b ≡ false)
neither true b e = absurd (false≢true (sym e))
neither false b e = (refl, e)

below : (x : List Sym) (n : ℕ) → any_fault n x ≡ false → (k : ℕ) → k < n → is_fault x k ≡ false
below x zero e k under = absurd (omega arith)
below x (suc n) e k under =
    let both = neither (is_fault x n) (any_fault n x) e in
    elim (cases_lt k n) [
      | inl less ↦ below x n both.1 k less
      | inr past ↦ let same : k ≡ n = omega arith in ap (is_fault x) same ∙ both.0
    ]

one_of : (x : List Sym) (n k : ℕ) → k < n → is_fault x k ≡ true → any_fault n x ≡ true
one_of x zero k under e = absurd (omega arith)
one_of x (suc n) k under e = elim (cases_lt k n) [
  | inl less ↦ either (is_fault x n) (any_fault n x) (one_of x n k less e)
  | inr past ↦ let same : n ≡ k = omega arith in ap (λ (b : Bool). b || any_fault n x) (ap (is_fault x) same ∙ e)
]
  where
    either : (a b : Bool) → b ≡ true → a || b ≡ true
    either true b h = refl
    either false b h = h

typed_of : (x : List Sym) → has_fault x ≡ false → (k : ℕ) → is_fault x k ≡ false
unfolding has_fault
typed_of x e k = elim (cases_lt k (length x)) [ inl less ↦ below x (length x) e k less | inr past ↦ ap (is_front_fault (take k x)) (drop_of_length-le x past) ]

no_fault : {x : List Sym} → ((k : ℕ) → is_fault x k ≡ false) → has_fault x ≡ false
unfolding has_fault
no_fault {x = x} typed = none_of x (length x) typed

-- what the search for a fault tells
pub has_fault_is : (x : List Sym) (o : Option ℕ) → IfSome o (λ n. IsC7 x n) → (o ≡ None → (k : ℕ) → is_fault x k ≡ false) → is_some o ≡ has_fault x
unfolding has_fault
has_fault_is x (Some n) found none = sym (one_of x (length x) found.at found.within found.fault)
has_fault_is x None found none = sym (none_of x (length x) (none refl))

-- ---- expressions

pub cond_found : (x : List Sym) (e : Tree) (h : ℕ) → Spells full e h x → h ≤ 64 → has_fault x ≡ false → cond_in x ≡ Some e
unfolding cond_in
cond_found x e h s low typed = rw typed (ap tree_in (theorem.only (suc (length x)) 64 x e h s low (omega arith)))

pub cond_refused : (x : List Sym) → has_fault x ≡ true → cond_in x ≡ None
unfolding cond_in
cond_refused x fault = rw fault refl

by_read : (x : List Sym) (o : Result (Tall × List Sym) Fault) → ((k : ℕ) → is_fault x k ≡ false) → whole_expression (suc (length x)) 64 x ≡ o → (e : Tree) → tree_in o ≡ Some e → IsCond e x
by_read x (Ok read) typed is e found =
    let same : read.0.tree ≡ e = cc in
    subst (λ (t : Tree). IsCond t x) same (record {
      height = read.0.height;
      spells = theorem.found (suc (length x)) 64 x read.0 read.1 is;
      within = theorem.within (suc (length x)) 64 x read.0 read.1 is;
      typed = typed;
    })
by_read x (Err fault) typed is e found = absurd (cc)

by_words : (x : List Sym) (b : Bool) → has_fault x ≡ b → (e : Tree) → cond b None (tree_in (whole_expression (suc (length x)) 64 x)) ≡ Some e → IsCond e x
by_words x true is e found = absurd (cc)
by_words x false is e found = by_read x (whole_expression (suc (length x)) 64 x) (typed_of x is) refl e found

pub cond_only : (x : List Sym) (e : Tree) → cond_in x ≡ Some e → IsCond e x
unfolding cond_in
cond_only x e found = by_words x (has_fault x) refl e found

pub cond_of : {x : List Sym} {e : Tree} → IsCond e x → cond_in x ≡ Some e
cond_of {x = x} {e = e} c = cond_found x e c.height c.spells c.within (no_fault c.typed)

none_or : (o : Option Tree) → ((e : Tree) → o ≡ Some e → ⊥) → o ≡ None
none_or None no_tree = refl
none_or (Some e) no_tree = absurd (no_tree e refl)

pub cond_none : (x : List Sym) → ((e : Tree) (h : ℕ) → Spells full e h x → h ≤ 64 → ⊥) → cond_in x ≡ None
cond_none x no_tree = none_or (cond_in x) (λ e is. let c = cond_only x e is in no_tree e c.height c.spells c.within)
