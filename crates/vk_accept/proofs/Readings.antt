-- The bytes of a unit have one reading: one tree, or a fault.
use Rattle.std.proofs.Common.{◌≡◌, ℕ, Bool, true, false, inl, inr, length, List, [], Contains, ap, ap₂, refl, sym, ◌∙◌, subst, arith}
use Rattle.vk_kinds.specs.declared.kinds.Target.{Target}
use Rattle.vk_ast.specs.Units.{ItemTree}
use Rattle.vk_tokens.specs.declared.tokens.Token.{Token}
use Rattle.vk_unit_rules.specs.declared.rules.UnitRule.{UnitRule}
use Rattle.vk_lex.proofs.Tables.{one_list_of_tokens, one_table_of_names, tokens_or_fault}
use Rattle.vk_parse.specs.Parsing.{Parses, IsWithin, KeepsWords, IsFaultAt}
use Rattle.vk_parse.proofs.Facts.{one_items, not_both}
use Rattle.vk_rules_book.specs.declared.faults.Fault.{Fault}
use Rattle.vk_rules_book.specs.Rules.{Subject, faults_of}
use Rattle.vk_accept.specs.Units.{IsUnit, IsUnitFault, has_simd_line}
use Rattle.vk_accept.specs.Accepted.{HasSimdLine, IsAccepted, IsRejected, IsUnitRefused}

-- one table of names, one list of tokens, one list of items
units_names : (bytes : List ℕ) (s t : List Token) (m n : List (List ℕ)) (a b : List ItemTree) → IsUnit bytes s m a → IsUnit bytes t n b → m ≡ n
units_names bytes s t m n a b u v = one_table_of_names bytes m n s t u.are v.are

units_tokens : (bytes : List ℕ) (s t : List Token) (m n : List (List ℕ)) (a b : List ItemTree) → IsUnit bytes s m a → IsUnit bytes t n b → s ≡ t
units_tokens bytes s t m n a b u v = one_list_of_tokens bytes m n s t u.are v.are

same_items : (m n : List (List ℕ)) (s t : List Token) (a b : List ItemTree) (h k : ℕ) → m ≡ n → s ≡ t → Parses m s a h → Parses n t b k → a ≡ b
same_items m n s t a b h k names tokens p q =
    one_items n t a b h k (subst (λ l. Parses n l a h) tokens (subst (λ l. Parses l s a h) names p)) q

units_items : (bytes : List ℕ) (s t : List Token) (m n : List (List ℕ)) (a b : List ItemTree) → IsUnit bytes s m a → IsUnit bytes t n b → a ≡ b
units_items bytes s t m n a b u v =
    same_items m n s t a b u.height v.height (units_names bytes s t m n a b u v) (units_tokens bytes s t m n a b u v) u.parses v.parses

-- no unit breaks a rule of C1 to C7
tree_unfaulty : (m n : List (List ℕ)) (s t : List Token) (items : List ItemTree) (h : ℕ) (rule : UnitRule) (left : ℕ) → m ≡ n → s ≡ t →
    Parses m s items h → IsWithin m s items h → KeepsWords m s → IsFaultAt n t rule left → ⊥
tree_unfaulty m n s t items h rule left names tokens p w k fault =
    not_both m s items h rule left p w k (subst (λ l. IsFaultAt m l rule left) (sym tokens) (subst (λ l. IsFaultAt l t rule left) (sym names) fault))

pub unit_unfaulty : (bytes : List ℕ) (tokens : List Token) (names : List (List ℕ)) (items : List ItemTree) (line : ℕ) (rule : UnitRule) → IsUnit bytes tokens names items
    → IsUnitFault bytes line rule → ⊥
unit_unfaulty bytes tokens names items line rule u fault = elim fault [
  | inl refused ↦ tokens_or_fault bytes names tokens line rule u.are refused
  | inr tree ↦ tree_unfaulty names tree.names tokens tree.tokens items u.height rule tree.fault.left
      (one_table_of_names bytes names tree.names tokens tree.tokens u.are tree.are) (one_list_of_tokens bytes names tree.names tokens tree.tokens u.are tree.are)
      u.parses u.within u.words tree.fault.at
]

-- ---- accepted units

same_subject : (a b : Subject) → a.items ≡ b.items → a.texts ≡ b.texts → a.target ≡ b.target → a ≡ b
same_subject a b items texts target =
    ap (λ (l : List ItemTree). let s : Subject = record { items = l; texts = a.texts; target = a.target } in s) items
    ∙ ap₂ (λ (l : List (List ℕ)) (t : Target). let s : Subject = record { items = b.items; texts = l; target = t } in s) texts target

pub accepted_once : (bytes : List ℕ) (a b : Subject) → IsAccepted bytes a → IsAccepted bytes b → a.target ≡ b.target → a ≡ b
accepted_once bytes a b p q target =
    same_subject a b (units_items bytes p.tokens q.tokens a.texts b.texts a.items b.items p.is q.is) (units_names bytes p.tokens q.tokens a.texts b.texts a.items b.items p.is q.is) target

none_in : (x : Fault) (xs : List Fault) → xs ≡ [] → Contains xs x → ⊥
none_in x xs none in_it = let empty = ap length none in let below = in_it.1 in omega (arith, empty, below)

rejected_not : (bytes : List ℕ) (a : Subject) (line directive : ℕ) (rule : UnitRule) → IsAccepted bytes a → IsRejected bytes a.target line directive rule → ⊥
rejected_not bytes a line directive rule p r =
    let other : Subject = record { items = r.items; texts = r.names; target = a.target } in
    let same : a ≡ other = same_subject a other (units_items bytes p.tokens r.tokens a.texts r.names a.items r.items p.is r.is) (units_names bytes p.tokens r.tokens a.texts r.names a.items r.items p.is r.is) refl in
    none_in r.refused.fault (faults_of other) (sym (ap faults_of same) ∙ p.sound) r.refused.first.broken

pub accepted_unrefused : (bytes : List ℕ) (a : Subject) (line directive : ℕ) (rule : UnitRule) → IsAccepted bytes a → IsUnitRefused bytes a.target line directive rule → ⊥
accepted_unrefused bytes a line directive rule p refused = elim refused [
  | inl fault ↦ unit_unfaulty bytes p.tokens a.texts a.items line rule p.is fault.1
  | inr r ↦ rejected_not bytes a line directive rule p r
]

no_both : (b : Bool) → b ≡ false → b ≡ true → ⊥
no_both b f t = cc

pub accepted_plain : (bytes : List ℕ) (a : Subject) → IsAccepted bytes a → HasSimdLine bytes → ⊥
accepted_plain bytes a p h =
    no_both (has_simd_line h.tokens) (ap has_simd_line (sym (units_tokens bytes p.tokens h.tokens a.texts h.names a.items h.items p.is h.is)) ∙ p.plain) h.simd
