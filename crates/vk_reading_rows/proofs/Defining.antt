-- What is defined at the first place of a function is its definition.
use Rattle.std.proofs.Common.{◌≡◌, ℕ, zero, suc, ◌+◌, Bool, true, false, cond, List, [], ◌∷◌, ◌++◌, length, map, take, slice_get, unwrap_or, Option, Some, None, is_some, position, bytes_eq, refl, sym, ap, subst, ◌∙◌, append_assoc, length-append, arith}
use Rattle.std.specs.Option.{option_or, option_map}
use Rattle.vk_ast.specs.Statements.{StmtTree}
use Rattle.vk_ast.specs.Units.{FunctionTree, ItemTree, function, object, lost_line}
use Rattle.vk_rules_book.specs.Rules.{Subject}
use Rattle.vk_rules_book.specs.Scopes.{text_of}
use Rattle.vk_meaning.specs.Programs.{Definition, with_body, defined_by, defined_behind, definition_of}
use Rattle.vk_reading_rows.specs.declared.functions.FunctionPlace.{FunctionPlace}
use Rattle.vk_reading_rows.specs.Functions.{defined_as, defined_at, defined_in, defines, is_text, first_place, place_of}
use Rattle.vk_reading_rows.proofs.Positions.{position_first}

-- a place and what is defined there, or neither
abbrev IsDefinedBy : (ℕ → Option Definition) → Option ℕ → Option Definition → Type 0
IsDefinedBy at None None = Unit {0}
IsDefinedBy at (Some j) (Some d) = at j ≡ Some d
IsDefinedBy at None (Some d) = ⊥
IsDefinedBy at (Some j) None = ⊥

module _ (t : List ℕ) (u : Subject) where
  abbrev at_in : (before rest : List ItemTree) → ℕ → Option Definition
  at_in before rest j = defined_as u (before ++ take (j + 1) rest) (slice_get rest j)

  shifted : (at : ℕ → Option Definition) (o : Option ℕ) (d : Option Definition) → IsDefinedBy (λ j. at (suc j)) o d → IsDefinedBy at (option_map suc o) d
  shifted at None None h = tt
  shifted at (Some j) (Some d) h = h
  shifted at None (Some d) h = absurd h
  shifted at (Some j) None h = absurd h

  named : (at : ℕ → Option Definition) (b : Bool) (d : Definition) (o : Option ℕ) (rest : Option Definition) → at 0 ≡ Some d → IsDefinedBy (λ j. at (suc j)) o rest →
      IsDefinedBy at (cond b (Some 0) (option_map suc o)) (option_or (cond b (Some d) None) rest)
  named at true d o rest e h = e
  named at false d o rest e h = shifted at o rest h

  nothing_either : (b : Bool) (rest : Option Definition) → rest ≡ option_or (cond b None None) rest
  nothing_either true rest = refl
  nothing_either false rest = refl

  function_placed : (at : ℕ → Option Definition) (items : List ItemTree) (f : FunctionTree) (name : List ℕ) (body : Option StmtTree) (o : Option ℕ) (rest : Option Definition) →
      at 0 ≡ with_body u items f body → IsDefinedBy (λ j. at (suc j)) o rest →
      IsDefinedBy at (cond (is_text (cond (is_some body) (Some name) None) t) (Some 0) (option_map suc o)) (option_or (cond (bytes_eq name t) (with_body u items f body) None) rest)
  function_placed at items f name None o rest e h =
      subst (λ (d : Option Definition). IsDefinedBy at (option_map suc o) d) (nothing_either (bytes_eq name t) rest) (shifted at o rest h)
  function_placed at items f name (Some body) o rest e h = named at (bytes_eq name t) (record { unit = u; items = items; function = f; body = body }) o rest e h

  item_placed : (at : ℕ → Option Definition) (items : List ItemTree) (i : ItemTree) (o : Option ℕ) (rest : Option Definition) → at 0 ≡ defined_as u items (Some i) →
      IsDefinedBy (λ j. at (suc j)) o rest →
      IsDefinedBy at (cond (defines u.texts t i) (Some 0) (option_map suc o)) (option_or (defined_by t u items i) rest)
  item_placed at items (function f) o rest e h = function_placed at items f (text_of u.texts f.name) f.body o rest e h
  item_placed at items (object x) o rest e h = shifted at o rest h
  item_placed at items (lost_line d) o rest e h = shifted at o rest h

  next_at : (before : List ItemTree) (i : ItemTree) (rest : List ItemTree) (j : ℕ) → at_in (before ++ i ∷ []) rest j ≡ at_in before (i ∷ rest) (suc j)
  next_at before i rest j =
      let on : suc (j + 1) ≡ suc j + 1 = omega arith in
      ap (λ (xs : List ItemTree). defined_as u xs (slice_get rest j)) (append_assoc before (i ∷ []) (take (j + 1) rest) ∙ ap (λ (n : ℕ). before ++ take n (i ∷ rest)) on)

  items_placed : (before rest : List ItemTree) → IsDefinedBy (at_in before rest) (position (defines u.texts t) rest) (defined_behind t u before rest)
  items_placed before [] = tt
  items_placed before (i ∷ rest) =
      let all = defined_behind t u before (i ∷ rest) in
      let later = defined_behind t u (before ++ i ∷ []) rest in
      let same : at_in (before ++ i ∷ []) rest ≡ (λ j. at_in before (i ∷ rest) (suc j)) = λ k j. next_at before i rest j k in
      subst (λ (o : Option ℕ). IsDefinedBy (at_in before (i ∷ rest)) o all) (sym (position_first (defines u.texts t) i rest))
      (item_placed (at_in before (i ∷ rest)) (before ++ i ∷ []) i (position (defines u.texts t) rest) later refl
      (subst (λ (at : ℕ → Option Definition). IsDefinedBy at (position (defines u.texts t) rest) later) same (items_placed (before ++ i ∷ []) rest)))

  unit_placed : (all : List Subject) (k : ℕ) (o : Option ℕ) (d : Option Definition) (place : Option FunctionPlace) (rest : Option Definition) → slice_get all k ≡ Some u →
      IsDefinedBy (at_in [] u.items) o d → defined_at all place ≡ rest → defined_at all (option_or (option_map (λ j. record { unit = k; item = j }) o) place) ≡ option_or d rest
  unit_placed all k None None place rest is h e = e
  unit_placed all k (Some j) (Some d) place rest is h e = ap (λ (s : Option Subject). defined_in s j) is ∙ h
  unit_placed all k None (Some d) place rest is h e = absurd h
  unit_placed all k (Some j) None place rest is h e = absurd h

between : (front : List Subject) (u : Subject) (us : List Subject) → slice_get (front ++ u ∷ us) (length front) ≡ Some u
between [] u us = refl
between (x ∷ front) u us = between front u us

-- in all units, of which some stand in front
units_placed : (t : List ℕ) (front us : List Subject) → defined_at (front ++ us) (first_place (length front) us t) ≡ definition_of us t
units_placed t front [] = refl
units_placed t front (u ∷ us) =
    let count = length-append front (u ∷ []) in
    let number : length (front ++ u ∷ []) ≡ suc (length front) = omega (arith, count) in
    unit_placed t u (front ++ u ∷ us) (length front) (position (defines u.texts t) u.items) (defined_behind t u [] u.items) (first_place (suc (length front)) us t) (definition_of us t)
    (between front u us) (items_placed t u [] u.items)
    (ap (λ (all : List Subject). defined_at all (first_place (suc (length front)) us t)) (sym (append_assoc front (u ∷ []) us))
    ∙ ap (λ (n : ℕ). defined_at ((front ++ u ∷ []) ++ us) (first_place n us t)) (sym number)
    ∙ units_placed t (front ++ u ∷ []) us)

pub defined_first : (units : List Subject) (t : List ℕ) → defined_at units (place_of units t) ≡ definition_of units t
defined_first units t = units_placed t [] units

-- ---- tables

pub place_back : (o : Option FunctionPlace) → unwrap_or (option_map Some o) None ≡ o
place_back None = refl
place_back (Some place) = refl

pub places_are : (units : List Subject) (at : List ℕ → Option FunctionPlace) → ((t : List ℕ) → at t ≡ place_of units t) → (names : List (List ℕ)) → map at names ≡ map (place_of units) names
places_are units at are names = λ i. map (λ t. are t i) names
