-- The first declaration of a function by its name is the one that is found by its text.
use Rattle.std.proofs.Common.{◌≡◌, ℕ, Bool, true, false, cond, List, [], ◌∷◌, ◌++◌, Contains, Option, Some, None, bytes_eq, refl, sym, ap, subst, ◌∙◌}
use Rattle.std.specs.Option.{option_map, option_or}
use Rattle.std.proofs.lemmas.Bool.Decides.{Decides-eqb}
use Rattle.std.proofs.lemmas.List.Elements.{Contains-append_left}
use Rattle.std.proofs.lemmas.Slice.Eq.{bytes_eq-Decides}
use Rattle.vk_ast.specs.declared.names.NameId.{NameId}
use Rattle.vk_ast.specs.Units.{FunctionTree, ItemTree, function, object, lost_line}
use Rattle.vk_rules_book.specs.Rules.{Subject}
use Rattle.vk_rules_book.specs.Scopes.{declares, first_declaration, is_print, same_name, text_of, types_of}
use Rattle.vk_agree.specs.Units.{IsAccepted, first_of, function_in, function_named}
use Rattle.vk_joins.specs.Tables.{Declared, declared_as, declared_in_unit}
use Rattle.vk_joins_laws.proofs.Lists.{here, later}
use Rattle.vk_settings.proofs.Heads.{first_append}

-- what stands first among items declares the name
pub record IsDeclaration (xs : List ItemTree) (id : NameId) (g : FunctionTree) : Type 0 where
  pub among : Contains xs (function g)
  pub named : same_name g.name id ≡ true

declared_later : (i : ItemTree) (xs : List ItemTree) (id : NameId) (g : FunctionTree) → IsDeclaration xs id g → IsDeclaration (i ∷ xs) id g
declared_later i xs id g h = record { among = later i (function g) xs h.among; named = h.named }

pub declaration : (xs : List ItemTree) (id : NameId) (g : FunctionTree) → first_declaration xs id ≡ Some (function g) → IsDeclaration xs id g
unfolding first_declaration
declaration [] id g e = cc
declaration (i ∷ xs) id g e = at (declares id i) refl e (λ k. declaration xs id g k)
  where
    same_item : (a b : ItemTree) → Some a ≡ Some b → a ≡ b
    same_item a b k = cc

    at : (b : Bool) → declares id i ≡ b → cond b (Some i) (first_declaration xs id) ≡ Some (function g) → (first_declaration xs id ≡ Some (function g) → IsDeclaration xs id g) → IsDeclaration (i ∷ xs) id g
    at true k q next = record {
      among = subst (λ (j : ItemTree). Contains (i ∷ xs) j) (same_item i (function g) q) (here i xs);
      named = subst (λ (j : ItemTree). declares id j ≡ true) (same_item i (function g) q) k;
    }
    at false k q next = declared_later i xs id g (next q)

same_number : (a b : NameId) → same_name a b ≡ true → a ≡ b
same_number a b h = ap (λ (n : ℕ). record { 0 = n }) ((Decides-eqb a.0 b.0).0 h)

same_itself : (a : NameId) → same_name a a ≡ true
same_itself a = (Decides-eqb a.0 a.0).1 refl

module _ (v : Subject) (accepted : IsAccepted v) (id : NameId) (g : FunctionTree) (g_in : Contains v.items (function g)) (g_named : same_name g.name id ≡ true) where
  -- a function's name is this one exactly where its text is
  by_text : (h : FunctionTree) → Contains v.items (function h) → bytes_eq (text_of v.texts h.name) (text_of v.texts id) ≡ true → same_name h.name id ≡ true
  by_text h i e =
      subst (λ (b : NameId). same_name h.name b ≡ true) (same_number g.name id g_named)
      (accepted.one_name (function h) (function g) i g_in h.name g.name (same_itself h.name) (same_itself g.name)
      ((bytes_eq-Decides (text_of v.texts h.name) (text_of v.texts id)).0 e ∙ ap (text_of v.texts) (sym (same_number g.name id g_named))))

  by_name : (h : FunctionTree) → same_name h.name id ≡ true → bytes_eq (text_of v.texts h.name) (text_of v.texts id) ≡ true
  by_name h e = (bytes_eq-Decides (text_of v.texts h.name) (text_of v.texts id)).1 (ap (text_of v.texts) (same_number h.name id e))

  not_that : (b c : Bool) → (b ≡ true → c ≡ true) → c ≡ false → b ≡ false
  not_that true c h k = sym (h refl) ∙ k
  not_that false c h k = refl

  pub found_first : (xs : List ItemTree) → ((i : ItemTree) → Contains xs i → Contains v.items i) → first_declaration xs id ≡ Some (function g) → first_of (function_named (text_of v.texts id) v) xs ≡ Some g
  unfolding first_declaration
  found_first [] inside e = cc
  found_first (function h ∷ xs) inside e = at (same_name h.name id) refl e (λ k. found_first xs (λ i m. inside i (later (function h) i xs m)) k)
    where
      in_items : Contains v.items (function h)
      in_items = inside (function h) (here (function h) xs)

      same_function : (a b : FunctionTree) → Some (function a) ≡ Some (function b) → Some a ≡ Some b
      same_function a b k = cc

      at : (b : Bool) → same_name h.name id ≡ b → cond b (Some (function h)) (first_declaration xs id) ≡ Some (function g) →
          (first_declaration xs id ≡ Some (function g) → first_of (function_named (text_of v.texts id) v) xs ≡ Some g) →
          option_or (cond (bytes_eq (text_of v.texts h.name) (text_of v.texts id)) (Some h) None) (first_of (function_named (text_of v.texts id) v) xs) ≡ Some g
      at true k q next = ap (λ (c : Bool). option_or (cond c (Some h) None) (first_of (function_named (text_of v.texts id) v) xs)) (by_name h k) ∙ same_function h g q
      at false k q next =
          ap (λ (c : Bool). option_or (cond c (Some h) None) (first_of (function_named (text_of v.texts id) v) xs))
          (not_that (bytes_eq (text_of v.texts h.name) (text_of v.texts id)) (same_name h.name id) (by_text h in_items) k) ∙ next q
  found_first (object o ∷ xs) inside e = at (same_name o.name id) e (λ k. found_first xs (λ i m. inside i (later (object o) i xs m)) k)
    where
      at : (b : Bool) → cond b (Some (object o)) (first_declaration xs id) ≡ Some (function g) →
          (first_declaration xs id ≡ Some (function g) → first_of (function_named (text_of v.texts id) v) xs ≡ Some g) → first_of (function_named (text_of v.texts id) v) xs ≡ Some g
      at true q next = cc
      at false q next = next q
  found_first (lost_line l ∷ xs) inside e = found_first xs (λ i m. inside i (later (lost_line l) i xs m)) e

-- THE DECLARATION: what a unit declares of a function, where its items up to some place declare it first so
pub declared_so : (v : Subject) → IsAccepted v → (xs ys : List ItemTree) → v.items ≡ xs ++ ys → (id : NameId) (g : FunctionTree) → first_declaration xs id ≡ Some (function g) → is_print v.texts id ≡ false →
    option_map (λ (d : Declared). d.params) (declared_in_unit v (text_of v.texts id)) ≡ Some (types_of g.params)
declared_so v accepted xs ys split id g e own =
    (λ i. option_map (λ (d : Declared). d.params) (cond (own i) None (option_map (declared_as v (text_of v.texts id)) (found i))))
  where
    d : IsDeclaration xs id g
    d = declaration xs id g e

    inside : (i : ItemTree) → Contains xs i → Contains v.items i
    inside i h = subst (λ (zs : List ItemTree). Contains zs i) (sym split) (Contains-append_left xs ys i h)

    found : function_in (text_of v.texts id) v ≡ Some g
    found =
        ap (first_of (function_named (text_of v.texts id) v)) split ∙
        (first_append (function_named (text_of v.texts id) v) xs ys ∙
        ap (λ (o : Option FunctionTree). option_or o (first_of (function_named (text_of v.texts id) v) ys)) (found_first v accepted id g (inside (function g) d.among) d.named xs inside e))
