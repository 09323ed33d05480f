-- Where the definition of a function stands in a program.
use Rattle.std.proofs.Common.{◌≡◌, ◌⊎◌, inl, inr, ℕ, zero, suc, Bool, true, false, cond, List, [], ◌∷◌, ◌++◌, Contains, Option, Some, None, refl, sym, ap, subst, ◌∙◌, arith}
use Rattle.std.proofs.lemmas.List.{append-nil, append_assoc}
use Rattle.std.specs.List.{AllByRecursion}
use Rattle.std.specs.Option.{option_or}
use Rattle.std.specs.Str.{bytes_eq}
use Rattle.vk_ast.specs.declared.names.NameId.{NameId}
use Rattle.vk_ast.specs.Statements.{StmtTree}
use Rattle.vk_ast.specs.Units.{FunctionTree, ItemTree, function, object, lost_line}
use Rattle.vk_rules_book.specs.Rules.{Subject}
use Rattle.vk_rules_book.specs.Scopes.{declares, first_declaration, text_of}
use Rattle.vk_rules_book.specs.Visits.{Visit, along}
use Rattle.vk_rules_laws.proofs.Each.{back, front}
use Rattle.vk_meaning.specs.Programs.{Definition, defined_behind, defined_by, definition_of, with_body}

-- ---- options

pub some_is : {A : Type 0} (x y : A) → Some x ≡ Some y → x ≡ y
some_is x y e = cc

either_some : {A : Type 0} (a b : Option A) (x : A) → option_or a b ≡ Some x → (a ≡ Some x) ⊎ (b ≡ Some x)
either_some (Some y) b x e = inl e
either_some None b x e = inr e

-- ---- definitions

-- the definition of a function stands in a unit
pub record IsFound (text : List ℕ) (u : Subject) (d : Definition) : Type 0 where
  pub unit_is : u ≡ d.unit
  pub before : List ItemTree
  pub behind : List ItemTree
  pub items_are : d.items ≡ before ++ function d.function ∷ []
  pub split : u.items ≡ before ++ function d.function ∷ behind
  pub body_is : d.function.body ≡ Some d.body
  pub named : bytes_eq (text_of u.texts d.function.name) text ≡ true

module _ (text : List ℕ) (u : Subject) (d : Definition) where
  found_body : (before : List ItemTree) (f : FunctionTree) (behind : List ItemTree) (b : Option StmtTree) → u.items ≡ before ++ function f ∷ behind → f.body ≡ b
      → bytes_eq (text_of u.texts f.name) text ≡ true → with_body u (before ++ function f ∷ []) f b ≡ Some d → IsFound text u d
  found_body before f behind None split is named e = cc
  found_body before f behind (Some body) split is named e =
      subst (IsFound text u) (some_is _ d e)
      (record { unit_is = refl; before = before; behind = behind; items_are = refl; split = split; body_is = is; named = named })

  found_test : (b : Bool) (before : List ItemTree) (f : FunctionTree) (behind : List ItemTree) → bytes_eq (text_of u.texts f.name) text ≡ b → u.items ≡ before ++ function f ∷ behind
      → cond b (with_body u (before ++ function f ∷ []) f f.body) None ≡ Some d → IsFound text u d
  found_test true before f behind named split e = found_body before f behind f.body split refl named e
  found_test false before f behind named split e = cc

  found_by : (before : List ItemTree) (i : ItemTree) (behind : List ItemTree) → u.items ≡ before ++ i ∷ behind → defined_by text u (before ++ i ∷ []) i ≡ Some d → IsFound text u d
  found_by before (function f) behind split e = found_test (bytes_eq (text_of u.texts f.name) text) before f behind refl split e
  found_by before (object o) behind split e = cc
  found_by before (lost_line x) behind split e = cc

  found_behind : (before rest : List ItemTree) → u.items ≡ before ++ rest → defined_behind text u before rest ≡ Some d → IsFound text u d
  found_behind before [] split e = cc
  found_behind before (i ∷ rest) split e =
      elim (either_some (defined_by text u (before ++ i ∷ []) i) (defined_behind text u (before ++ i ∷ []) rest) d e) [
        | inl h ↦ found_by before i rest split h
        | inr h ↦ found_behind (before ++ i ∷ []) rest (split ∙ sym (append_assoc before (i ∷ []) rest)) h
      ]

pub record IsDefinition (units : List Subject) (text : List ℕ) (d : Definition) : Type 0 where
  pub unit_in : Contains units d.unit
  pub found : IsFound text d.unit d

pub definition_is : (units : List Subject) (text : List ℕ) (d : Definition) → definition_of units text ≡ Some d → IsDefinition units text d
definition_is [] text d e = cc
definition_is (u ∷ us) text d e =
    elim (either_some (defined_behind text u [] u.items) (definition_of us text) d e) [
      | inl h ↦ here (found_behind text u d [] u.items refl h)
      | inr h ↦ later (definition_is us text d h)
    ]
  where
    here : IsFound text u d → IsDefinition (u ∷ us) text d
    here f = record { unit_in = (zero, omega arith, f.unit_is); found = subst (λ (v : Subject). IsFound text v d) f.unit_is f }

    later : IsDefinition us text d → IsDefinition (u ∷ us) text d
    later h = record { unit_in = (suc h.unit_in.0, omega (arith, h.unit_in.1), h.unit_in.2); found = h.found }

-- ---- items

pub at_item : (P : Visit → Type 0) (part : List ItemTree → ItemTree → List Visit) (before xs : List ItemTree) (x : ItemTree) (ys : List ItemTree)
    → AllByRecursion P (along part before (xs ++ x ∷ ys)) → AllByRecursion P (part (before ++ xs) x)
at_item P part before [] x ys q =
    subst (λ (zs : List ItemTree). AllByRecursion P (part zs x)) (sym (append-nil before)) (front P (part before x) (along part (before ++ x ∷ []) ys) q)
at_item P part before (y ∷ xs) x ys q =
    subst (λ (zs : List ItemTree). AllByRecursion P (part zs x)) (append_assoc before (y ∷ []) xs)
    (at_item P part (before ++ y ∷ []) xs x ys (back P (part before y) (along part (before ++ y ∷ []) (xs ++ x ∷ ys)) q))

-- ---- first declarations

more_test : (b : Bool) (i : ItemTree) (rest more : Option ItemTree) (x : ItemTree) → (rest ≡ Some x → more ≡ Some x) → cond b (Some i) rest ≡ Some x → cond b (Some i) more ≡ Some x
more_test true i rest more x h e = e
more_test false i rest more x h e = h e

-- what is declared first among some items is so among more
pub first_more : (xs ys : List ItemTree) (id : NameId) (x : ItemTree) → first_declaration xs id ≡ Some x → first_declaration (xs ++ ys) id ≡ Some x
unfolding first_declaration
first_more [] ys id x e = cc
first_more (i ∷ xs) ys id x e = more_test (declares id i) i (first_declaration xs id) (first_declaration (xs ++ ys) id) x (first_more xs ys id x) e

in_test : (b : Bool) (i : ItemTree) (xs : List ItemTree) (rest : Option ItemTree) (x : ItemTree) → (rest ≡ Some x → Contains xs x) → cond b (Some i) rest ≡ Some x → Contains (i ∷ xs) x
in_test true i xs rest x h e = (zero, omega arith, some_is i x e)
in_test false i xs rest x h e = let k = h e in (suc k.0, omega (arith, k.1), k.2)

pub first_in : (xs : List ItemTree) (id : NameId) (x : ItemTree) → first_declaration xs id ≡ Some x → Contains xs x
unfolding first_declaration
first_in [] id x e = cc
first_in (i ∷ xs) id x e = in_test (declares id i) i xs (first_declaration xs id) x (first_in xs id x) e

last_test : (b : Bool) (i : ItemTree) (rest more : Option ItemTree) (x : ItemTree) → (rest ≡ None → more ≡ Some x) → cond b (Some i) rest ≡ None → cond b (Some i) more ≡ Some x
last_test true i rest more x h e = cc
last_test false i rest more x h e = h e

pub first_last : (xs : List ItemTree) (id : NameId) (x : ItemTree) → declares id x ≡ true → first_declaration xs id ≡ None → first_declaration (xs ++ x ∷ []) id ≡ Some x
unfolding first_declaration
first_last [] id x own e = ap (λ (b : Bool). cond b (Some x) None) own
first_last (i ∷ xs) id x own e = last_test (declares id i) i (first_declaration xs id) (first_declaration (xs ++ x ∷ []) id) x (first_last xs id x own) e
