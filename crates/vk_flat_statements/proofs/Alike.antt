-- What a statement has to do with names goes by the names alone.
use Rattle.std.proofs.Common.{arith, sym, ◌≡◌, ◌≤◌, Bool, true, false, ◌&&◌, cond, List, [], ◌∷◌, ◌++◌, refl, subst, ap, ap₂, ◌∙◌, Option, Some, None, is_some}
use Rattle.std.specs.Option.{option_or}
use Rattle.vk_types.specs.declared.types.Ty.{Ty}
use Rattle.vk_ast.specs.declared.names.NameId.{NameId}
use Rattle.vk_ast.specs.Statements.{StmtTree, StmtTrees, empty, block, local, assign, value, if_only, if_else, while_loop, do_loop, for_loop, break_loop, continue_loop, return_value, simd, lost, no_stmts, more_stmts}
use Rattle.vk_ast.specs.Tree.{Tree, binary, cast, choice, int, name, unary, index, deref, addr, call, nodes_of}
use Rattle.vk_rules_book.specs.Scopes.{same_name}
use Rattle.vk_construct.specs.Adds.{Written}
use Rattle.vk_flat.specs.declared.emitter.Place.{Place}
use Rattle.vk_flat.specs.declared.locals.Local.{Local}
use Rattle.vk_flat.specs.Emitters.{IsPlace}
use Rattle.vk_flat.specs.Locals.{ArePlaces, is_numeric, local_named}
use Rattle.vk_flat_statements.specs.Flat.{are_flat, is_assigning, is_flat, is_numeric_or_none, is_returned, is_variable, names_behind, with_name}
use Rattle.vk_flat_statements.specs.Frames.{AreBehind}
use Rattle.vk_flat_statements.proofs.Declaring.{local_more, some_is}

-- the same names
abbrev pub AreAlike : List Local → List Local → Type 0
AreAlike xs ys = (id : NameId) → is_some (local_named xs id) ≡ is_some (local_named ys id)

pub numeric_alike : (xs ys : List Local) → AreAlike xs ys → (e : Tree) → is_numeric xs e ≡ is_numeric ys e
numeric_alike xs ys h (int l k t n) = refl
numeric_alike xs ys h (name l k id) = h id
numeric_alike xs ys h (cast l k t e) = numeric_alike xs ys h e
numeric_alike xs ys h (unary l k op e) = numeric_alike xs ys h e
numeric_alike xs ys h (binary l k op a b) = ap₂ (λ p q. p && q) (numeric_alike xs ys h a) (numeric_alike xs ys h b)
numeric_alike xs ys h (choice l k c a b) = ap₂ (λ p q. p && q) (ap₂ (λ p q. p && q) (numeric_alike xs ys h c) (numeric_alike xs ys h a)) (numeric_alike xs ys h b)
numeric_alike xs ys h (index l k a b) = refl
numeric_alike xs ys h (deref l k a) = refl
numeric_alike xs ys h (addr l k a) = refl
numeric_alike xs ys h (call l k id es) = refl

either : (a : Option Local) (o : Option Local) (b : Option Local) (p : Option Local) → is_some a ≡ is_some b → is_some o ≡ is_some p → is_some (option_or o a) ≡ is_some (option_or p b)
either a (Some x) b (Some y) e f = refl
either a (Some x) b None e f = cc
either a None b (Some y) e f = cc
either a None b None e f = e

named_alike : (s : Bool) (x y : Local) → is_some (cond s (Some x) None) ≡ is_some (cond s (Some y) None)
named_alike true x y = refl
named_alike false x y = refl

-- one more on each side, with the same name
pub alike_more : (xs ys : List Local) (x y : Local) → x.name ≡ y.name → AreAlike xs ys → AreAlike (xs ++ x ∷ []) (ys ++ y ∷ [])
alike_more xs ys x y e h i = ap is_some (local_more xs x i) ∙ (go ∙ sym (ap is_some (local_more ys y i)))
  where
    go : is_some (option_or (cond (same_name x.name i) (Some x) None) (local_named xs i)) ≡ is_some (option_or (cond (same_name y.name i) (Some y) None) (local_named ys i))
    go = either (local_named xs i) (cond (same_name x.name i) (Some x) None) (local_named ys i) (cond (same_name y.name i) (Some y) None) (h i)
        (named_alike (same_name x.name i) x y ∙ ap (λ n. is_some (cond (same_name n i) (Some y) None)) e)

pub behind_alike : (xs ys : List Local) → AreAlike xs ys → (s : StmtTree) → AreAlike (names_behind xs s) (names_behind ys s)
behind_alike xs ys h (empty l k) = h
behind_alike xs ys h (block l k ss) = h
behind_alike xs ys h (local l k t fixed id init) = alike_more xs ys (record { name = id; place = record { register = 0; ty = t } }) (record { name = id; place = record { register = 0; ty = t } }) refl h
behind_alike xs ys h (assign l k op place e) = h
behind_alike xs ys h (value l k e) = h
behind_alike xs ys h (if_only l k c first) = h
behind_alike xs ys h (if_else l k c first second) = h
behind_alike xs ys h (while_loop l k c body) = h
behind_alike xs ys h (do_loop l k body c) = h
behind_alike xs ys h (for_loop l k first c third body) = h
behind_alike xs ys h (break_loop l k) = h
behind_alike xs ys h (continue_loop l k) = h
behind_alike xs ys h (return_value l k e) = h
behind_alike xs ys h (simd l k d body) = h
behind_alike xs ys h (lost l k d) = h

variable_alike : (xs ys : List Local) → AreAlike xs ys → (e : Tree) → is_variable xs e ≡ is_variable ys e
variable_alike xs ys h (int l k t n) = refl
variable_alike xs ys h (name l k id) = h id
variable_alike xs ys h (cast l k t e) = refl
variable_alike xs ys h (unary l k op e) = refl
variable_alike xs ys h (binary l k op a b) = refl
variable_alike xs ys h (choice l k c a b) = refl
variable_alike xs ys h (index l k a b) = refl
variable_alike xs ys h (deref l k a) = refl
variable_alike xs ys h (addr l k a) = refl
variable_alike xs ys h (call l k id es) = refl

initialiser_alike : (xs ys : List Local) → AreAlike xs ys → (e : Option Tree) → is_numeric_or_none xs e ≡ is_numeric_or_none ys e
initialiser_alike xs ys h None = refl
initialiser_alike xs ys h (Some e) = numeric_alike xs ys h e

returned_alike : (xs ys : List Local) → AreAlike xs ys → (valued : Bool) (e : Option Tree) → is_returned xs valued e ≡ is_returned ys valued e
returned_alike xs ys h valued None = refl
returned_alike xs ys h valued (Some e) = ap (λ p. valued && p) (numeric_alike xs ys h e)

mutual
  pub flat_alike : (valued : Bool) (xs ys : List Local) → AreAlike xs ys → (s : StmtTree) → is_flat valued xs s ≡ is_flat valued ys s
  flat_alike valued xs ys h (empty l k) = refl
  flat_alike valued xs ys h (block l k ss) = all_flat_alike valued xs ys h ss
  flat_alike valued xs ys h (local l k t fixed id init) = initialiser_alike (with_name xs id t) (with_name ys id t) (behind_alike xs ys h (local l k t fixed id init)) init
  flat_alike valued xs ys h (assign l k op place e) = ap₂ (λ p q. is_assigning op && p && q) (variable_alike xs ys h place) (numeric_alike xs ys h e)
  flat_alike valued xs ys h (value l k e) = numeric_alike xs ys h e
  flat_alike valued xs ys h (if_only l k c first) = ap₂ (λ p q. p && q) (numeric_alike xs ys h c) (flat_alike valued xs ys h first)
  flat_alike valued xs ys h (if_else l k c first second) = ap₂ (λ p q. p && q) (ap₂ (λ p q. p && q) (numeric_alike xs ys h c) (flat_alike valued xs ys h first)) (flat_alike valued xs ys h second)
  flat_alike valued xs ys h (while_loop l k c body) = refl
  flat_alike valued xs ys h (do_loop l k body c) = refl
  flat_alike valued xs ys h (for_loop l k first c third body) = refl
  flat_alike valued xs ys h (break_loop l k) = refl
  flat_alike valued xs ys h (continue_loop l k) = refl
  flat_alike valued xs ys h (return_value l k e) = returned_alike xs ys h valued e
  flat_alike valued xs ys h (simd l k d body) = refl
  flat_alike valued xs ys h (lost l k d) = refl

  pub all_flat_alike : (valued : Bool) (xs ys : List Local) → AreAlike xs ys → (ss : StmtTrees) → are_flat valued xs ss ≡ are_flat valued ys ss
  all_flat_alike valued xs ys h no_stmts = refl
  all_flat_alike valued xs ys h (more_stmts s ss) = ap₂ (λ p q. p && q) (flat_alike valued xs ys h s) (all_flat_alike valued (names_behind xs s) (names_behind ys s) (behind_alike xs ys h s) ss)

-- the names that the code has behind a declaration
pub alike_named : (xs ys : List Local) (id : NameId) (t : Ty) (d : Place) → ys ≡ xs ++ record { name = id; place = d } ∷ [] → AreAlike (with_name xs id t) ys
alike_named xs ys id t d e = subst (AreAlike (with_name xs id t)) (sym e) (alike_more xs xs (record { name = id; place = record { register = 0; ty = t } }) (record { name = id; place = d }) refl (λ i. refl))

-- and behind any statement
pub alike_behind : (xs ys : List Local) (s : StmtTree) → AreBehind xs s ys → AreAlike (names_behind xs s) ys
alike_behind xs ys (local l k t fixed id init) h = alike_named xs ys id t h.place h.names
alike_behind xs ys (empty l k) h = subst (AreAlike xs) (sym h) (λ i. refl)
alike_behind xs ys (block l k ss) h = subst (AreAlike xs) (sym h) (λ i. refl)
alike_behind xs ys (assign l k op place e) h = subst (AreAlike xs) (sym h) (λ i. refl)
alike_behind xs ys (value l k e) h = subst (AreAlike xs) (sym h) (λ i. refl)
alike_behind xs ys (if_only l k c first) h = subst (AreAlike xs) (sym h) (λ i. refl)
alike_behind xs ys (if_else l k c first second) h = subst (AreAlike xs) (sym h) (λ i. refl)
alike_behind xs ys (while_loop l k c body) h = subst (AreAlike xs) (sym h) (λ i. refl)
alike_behind xs ys (do_loop l k body c) h = subst (AreAlike xs) (sym h) (λ i. refl)
alike_behind xs ys (for_loop l k first c third body) h = subst (AreAlike xs) (sym h) (λ i. refl)
alike_behind xs ys (break_loop l k) h = subst (AreAlike xs) (sym h) (λ i. refl)
alike_behind xs ys (continue_loop l k) h = subst (AreAlike xs) (sym h) (λ i. refl)
alike_behind xs ys (return_value l k e) h = subst (AreAlike xs) (sym h) (λ i. refl)
alike_behind xs ys (simd l k d body) h = subst (AreAlike xs) (sym h) (λ i. refl)
alike_behind xs ys (lost l k d) h = subst (AreAlike xs) (sym h) (λ i. refl)

-- a register for each of them
pub places_more : (w : Written) (xs ys : List Local) (id : NameId) (d : Place) → ys ≡ xs ++ record { name = id; place = d } ∷ [] → ArePlaces w xs → IsPlace w d → ArePlaces w ys
places_more w xs ys id d e h here i y is = go (same_name id i) (local_more xs (record { name = id; place = d }) i) (sym (ap (λ l. local_named l i) e) ∙ is)
  where
    go : (s : Bool) → local_named (xs ++ record { name = id; place = d } ∷ []) i ≡ option_or (cond s (Some (record { name = id; place = d })) None) (local_named xs i) → local_named (xs ++ record { name = id; place = d } ∷ []) i ≡ Some y → IsPlace w y.place
    go true e f = subst (λ (z : Local). IsPlace w z.place) (some_is (sym e ∙ f)) here
    go false e f = h i y (sym e ∙ f)

pub some_nodes : (e : Tree) → 1 ≤ nodes_of e
some_nodes (int l k t n) = omega arith
some_nodes (name l k id) = omega arith
some_nodes (cast l k t a) = omega arith
some_nodes (unary l k op a) = omega arith
some_nodes (binary l k op a b) = omega arith
some_nodes (choice l k c a b) = omega arith
some_nodes (index l k a b) = omega arith
some_nodes (deref l k a) = omega arith
some_nodes (addr l k a) = omega arith
some_nodes (call l k id es) = omega arith
