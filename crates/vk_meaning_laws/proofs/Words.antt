-- A run leaves words of the arrays' types in all elements, and a program begins with such words.
use Rattle.std.proofs.Common.{◌≡◌, ℕ, ◌==◌, zero, suc, Bool, true, false, cond, ◌&&◌, List, [], ◌∷◌, ◌++◌, map, flat_map, filter_map, get_or, Some, None, unwrap_or, pos, refl, subst, sym, ap, arith, rules}
use Rattle.vk_types.specs.declared.types.Ty.{Ty}
use Rattle.vk_types.specs.declared.types.Ty.TheVariants.{U8}
use Rattle.vk_types.specs.Numbers.{IsCanonical, wrap_number, word_of}
use Rattle.std.specs.List.{cons_option}
use Rattle.std.specs.Ordering.{is_le, nat_cmp}
use Rattle.std.specs.Cmp.Lexicographic.{slice_cmp}
use Rattle.vk_ast.specs.Tree.{Tree}
use Rattle.vk_ast.specs.Units.{ItemTree, function, object, lost_line}
use Rattle.vk_numbers.proofs.Numbers.{wrap_in_range, canonical_word}
use Rattle.vk_rules_book.specs.Rules.{Subject}
use Rattle.vk_meaning.specs.World.{Array, array_at, no_array, first_memory, Memory, with_cell, World, in_memory, with_event}
use Rattle.vk_meaning.specs.Data.{Datum, Value, got, halts}
use Rattle.vk_meaning.specs.Programs.{Definition, definition_of, initial_number, array_of_object, array_defined, put_in, in_order, arrays_of}
use Rattle.vk_meaning.specs.Meaning.{means, memory_of}
use Rattle.vk_meaning_terms.specs.Ranges.{HasWords, IsNumberOf}
use Rattle.vk_meaning_laws.proofs.Sights.{Sight, AlikeValues, both_got, both_halt, IsReadable}
use Rattle.vk_meaning_terms.proofs.Zero.{zero_in_range}
use Rattle.vk_meaning_laws.proofs.Calls.{free_call, free_result}

-- the same world, which has words of the arrays' types
record AreSame (arrays : List Array) (w w' : World) : Type 0 where
  same : w ≡ w'
  words : HasWords arrays w.memory

same_number : (a b : ℕ) → (a == b) ≡ true → a ≡ b
same_number a b e = grind arith

has_stored : (arrays : List Array) (m : Memory) (a i x : ℕ) → IsCanonical (array_at arrays a).ty x → HasWords arrays m → HasWords arrays (with_cell m a i x)
has_stored arrays m a i x c h b k below = go (b == a) (k == i) refl
  where
    go : (p q : Bool) → (b == a) ≡ p → IsCanonical (array_at arrays b).ty (cond (p && q) x (m b k))
    go true true e = subst (λ (n : ℕ). IsCanonical (array_at arrays n).ty x) (sym (same_number b a e)) c
    go true false e = h b k below
    go false q e = h b k below

abbrev wordly : List Array → Sight
wordly arrays = record {
  Seen = λ a i. Unit {0};
  Own = λ a i. Unit {0};
  Word = λ a x. IsCanonical (array_at arrays a).ty x;
  Alike = AreSame arrays;
  own_seen = λ a i o. tt;
  reads = λ w w' h a i s. ap (λ (u : World). u.memory a i) h.same;
  writes = λ w w' h a i x o t. record { same = ap (λ (u : World). in_memory u (with_cell u.memory a i x)) h.same; words = has_stored arrays w.memory a i x t h.words };
  tells = λ w w' h e. record { same = ap (λ (u : World). with_event u e) h.same; words = h.words };
}

pub words_kept : (units : List Subject) (turns : ℕ) (text : List ℕ) (ds : List Datum) (m : Memory) → HasWords (arrays_of units) m → HasWords (arrays_of units) (memory_of (means units turns text ds m))
words_kept units turns text ds m h =
    go _ _ ((free_call {v = wordly (arrays_of units)} units turns (λ a z. canonical_word _ _ (wrap_in_range (array_at (arrays_of units) a).ty z)) (λ a i. tt) 32 text ds).from
    (record { memory = m; events = [] }) (record { memory = m; events = [] }) (record { same = refl; words = h }))
  where
    go : (x x' : Value) → AlikeValues (wordly (arrays_of units)) (IsReadable (wordly (arrays_of units))) x x' → HasWords (arrays_of units) (memory_of x)
    go x x' (both_got d u u' p r) = r.words
    go x x' (both_halt s u u' r) = r.words

abbrev plain : Sight
plain = record {
  Seen = λ a i. Unit {0};
  Own = λ a i. Unit {0};
  Word = λ a x. Unit {0};
  Alike = λ w w'. w ≡ w';
  own_seen = λ a i o. tt;
  reads = λ w w' h a i s. ap (λ (u : World). u.memory a i) h;
  writes = λ w w' h a i x o t. ap (λ (u : World). in_memory u (with_cell u.memory a i x)) h;
  tells = λ w w' h e. ap (λ (u : World). with_event u e) h;
}

-- a call of a defined function gives a number of its result's type
pub results_ranged : (units : List Subject) (turns : ℕ) (text : List ℕ) (d : Definition) → definition_of units text ≡ Some d → (ds : List Datum) (m : Memory) (x : Datum) (w : World) →
    means units turns text ds m ≡ got x w → IsNumberOf d.function.result x
results_ranged units turns text d e ds m x w f =
    go _ _ f ((free_result {v = plain} units turns (λ a z. tt) (λ a i. tt) 32 text d e ds).from (record { memory = m; events = [] }) (record { memory = m; events = [] }) refl)
  where
    datum : Value → Datum
    datum (got y u) = y
    datum (halts s u) = x

    go : (y y' : Value) → y ≡ got x w → AlikeValues plain (IsNumberOf d.function.result) y y' → IsNumberOf d.function.result x
    go y y' same (both_got z u u' p r) = subst (IsNumberOf d.function.result) (ap datum same) p
    go y y' same (both_halt s u u' r) = cc

-- ---- the first memory

zero_canonical : (t : Ty) → IsCanonical t 0
zero_canonical t = canonical_word t (pos 0) (zero_in_range t)

-- the first elements of an array have words of its type, and the others 0
abbrev IsCanonicalArray : Array → Type 0
IsCanonicalArray a = (i : ℕ) → IsCanonical a.ty (get_or a.given i 0)

given_canonical : (t : Ty) (es : List Tree) (i : ℕ) → IsCanonical t (get_or (map (λ e. word_of (wrap_number t (initial_number e))) es) i 0)
given_canonical t [] i = subst (IsCanonical t) (past i) (zero_canonical t)
  where
    past : (i : ℕ) → ◌≡◌ {A = ℕ} 0 (get_or [] i 0)
    past i = search rules
given_canonical t (e ∷ es) zero = canonical_word t _ (wrap_in_range t (initial_number e))
given_canonical t (e ∷ es) (suc i) = given_canonical t es i

abbrev AreCanonical : List Array → Type 0
AreCanonical [] = Unit {0}
AreCanonical (a ∷ rest) = IsCanonicalArray a × AreCanonical rest

canonical_append : (xs ys : List Array) → AreCanonical xs → AreCanonical ys → AreCanonical (xs ++ ys)
canonical_append [] ys h k = k
canonical_append (x ∷ xs) ys h k = (h.0, canonical_append xs ys h.1 k)

canonical_put : (a : Array) (xs : List Array) → IsCanonicalArray a → AreCanonical xs → AreCanonical (put_in a xs)
canonical_put a [] h k = (h, tt)
canonical_put a (b ∷ bs) h k = go (is_le (slice_cmp nat_cmp a.text b.text)) (canonical_put a bs h k.1)
  where
    go : (c : Bool) → AreCanonical (put_in a bs) → AreCanonical (cond c (a ∷ b ∷ bs) (b ∷ put_in a bs))
    go true n = (h, k)
    go false n = (k.0, n)

canonical_order : (xs : List Array) → AreCanonical xs → AreCanonical (in_order xs)
canonical_order [] h = tt
canonical_order (x ∷ xs) h = canonical_put x (in_order xs) h.0 (canonical_order xs h.1)

canonical_items : (u : Subject) (items : List ItemTree) → AreCanonical (filter_map (array_defined u) items)
canonical_items u [] = tt
canonical_items u (function f ∷ is) = canonical_items u is
canonical_items u (lost_line d ∷ is) = canonical_items u is
canonical_items u (object o ∷ is) = go o.outside (canonical_items u is)
  where
    go : (b : Bool) → AreCanonical (filter_map (array_defined u) is) → AreCanonical (cons_option (cond b None (Some (array_of_object u o))) (filter_map (array_defined u) is))
    go true rest = rest
    go false rest = (given_canonical o.ty (unwrap_or o.init []), rest)

canonical_units : (units : List Subject) → AreCanonical (flat_map (λ u. filter_map (array_defined u) u.items) units)
canonical_units [] = tt
canonical_units (u ∷ us) = canonical_append (filter_map (array_defined u) u.items) _ (canonical_items u u.items) (canonical_units us)

canonical_at : (xs : List Array) → AreCanonical xs → (a : ℕ) → IsCanonicalArray (array_at xs a)
canonical_at [] h a = subst IsCanonicalArray (past a) (λ i. given_canonical U8 [] i)
  where
    past : (a : ℕ) → no_array ≡ array_at [] a
    past a = search rules
canonical_at (x ∷ xs) h zero = h.0
canonical_at (x ∷ xs) h (suc a) = canonical_at xs h.1 a

pub first_words : (units : List Subject) → HasWords (arrays_of units) (first_memory (arrays_of units))
first_words units a i below = canonical_at (arrays_of units) (canonical_order _ (canonical_units units)) a i
