-- Two runs of one function, side by side, in worlds that are related. What a run may read and what it may write is a set of elements;
-- the relation lets both runs read the same there, and is kept by the same store in both.
use Rattle.std.proofs.lemmas.Int.{ints}
use Rattle.std.proofs.Common.{arith, sym, ◌≡◌, ℕ, Bool, true, false, cond, List, Option, Some, None, ℤ, pos, ◌+ℤ◌, Result, Ok, Err, refl, subst}
use Rattle.vk_types.specs.declared.types.Ty.{Ty}
use Rattle.vk_types.specs.declared.types.Stop.{Stop}
use Rattle.vk_types.specs.declared.types.Stop.TheVariants.{Bounds}
use Rattle.vk_types.specs.Numbers.{wrap_number, number_of, word_of}
use Rattle.vk_kinds.specs.declared.heads.CType.{CType}
use Rattle.vk_meaning.specs.World.{Array, array_at, with_cell, Event, World, with_event, in_memory}
use Rattle.vk_meaning.specs.Data.{Datum, number, pointer, nothing, number_in, Value, got, halts, with_value, Action, given, and_then, then_number, fits_offset, pointer_at, moved, named_element, array_of, at_element, loaded, stored}
use Rattle.vk_meaning.specs.Expressions.{answered}
use Rattle.vk_meaning.specs.Types.{is_written_type}

pub record Sight : Type 1 where
  -- the elements that may be read, and those that may be written
  pub Seen : ℕ → ℕ → Type 0
  pub Own : ℕ → ℕ → Type 0
  -- the words that may be stored in an array
  pub Word : (array word : ℕ) → Type 0
  pub Alike : World → World → Type 0
  pub own_seen : (a i : ℕ) → Own a i → Seen a i
  pub reads : (w w' : World) → Alike w w' → (a i : ℕ) → Seen a i → w.memory a i ≡ w'.memory a i
  pub writes : (w w' : World) → Alike w w' → (a i x : ℕ) → Own a i → Word a x → Alike (in_memory w (with_cell w.memory a i x)) (in_memory w' (with_cell w'.memory a i x))
  pub tells : (w w' : World) → Alike w w' → (e : Event) → Alike (with_event w e) (with_event w' e)

-- numbers of these arrays' types may be stored
abbrev pub TakesWords : Sight → List Array → Type 0
TakesWords v arrays = (a : ℕ) (z : ℤ) → v.Word a (word_of (wrap_number (array_at arrays a).ty z))

-- the same ending in both runs
pub data AlikeValues (v : Sight) (P : Datum → Type 0) : Value → Value → Type 0 where
  both_got : (d : Datum) (w w' : World) → P d → v.Alike w w' → AlikeValues v P (got d w) (got d w')
  both_halt : (x : Stop) (w w' : World) → v.Alike w w' → AlikeValues v P (halts x w) (halts x w')

-- an evaluation ends alike from related worlds, and P holds of what it gives
pub record Keeps (v : Sight) (P : Datum → Type 0) (action : Action) : Type 0 where
  pub from : (w w' : World) → v.Alike w w' → AlikeValues v P (action w) (action w')

-- a number, nothing, or a pointer whose array may be read
abbrev pub IsReadable : Sight → Datum → Type 0
IsReadable v (number z) = Unit {0}
IsReadable v (pointer array offset) = (i : ℕ) → v.Seen array i
IsReadable v nothing = Unit {0}

-- a pointer whose element may be written
abbrev pub IsOwned : Sight → List Array → Datum → Type 0
IsOwned v arrays d = (i : ℕ) → named_element arrays d ≡ Some i → v.Own (array_of d) i

-- what is known of a datum: of a pointer that may be written, and of others
abbrev pub IsKnown : Sight → List Array → (written : Bool) → Datum → Type 0
IsKnown v arrays true d = IsOwned v arrays d
IsKnown v arrays false d = IsReadable v d

-- what is known of a variable or an argument of the type
abbrev pub IsFine : Sight → List Array → CType → Datum → Type 0
IsFine v arrays t d = IsKnown v arrays (is_written_type t) d

readable_seen : (v : Sight) (arrays : List Array) (d : Datum) → IsReadable v d → (i : ℕ) → named_element arrays d ≡ Some i → v.Seen (array_of d) i
readable_seen v arrays (number z) p i e = cc
readable_seen v arrays (pointer a o) p i e = p i
readable_seen v arrays nothing p i e = cc

plus_zero : (o : ℤ) → o +ℤ pos 0 ≡ o
plus_zero o = omega (arith, ints)

module _ {v : Sight} where
  -- ---- values

  pub values_then : {P Q : Datum → Type 0} (x x' : Value) (f : Datum → Action) → AlikeValues v P x x' → ((d : Datum) → P d → Keeps v Q (f d)) →
      AlikeValues v Q (with_value x f) (with_value x' f)
  values_then x x' f (both_got d w w' p h) k = (k d p).from w w' h
  values_then x x' f (both_halt s w w' h) k = both_halt s w w' h

  pub keeps_then : {P Q : Datum → Type 0} {a : Action} {f : Datum → Action} → Keeps v P a → ((d : Datum) → P d → Keeps v Q (f d)) → Keeps v Q (and_then a f)
  keeps_then {a = a} {f = f} h k = record { from = λ w w' r. values_then (a w) (a w') f (h.from w w' r) k }

  pub keeps_number : {P Q : Datum → Type 0} {a : Action} {f : ℤ → Action} → Keeps v P a → ((z : ℤ) → Keeps v Q (f z)) → Keeps v Q (then_number a f)
  keeps_number h k = keeps_then h (λ d p. k (number_in d))

  pub values_weaken : {P Q : Datum → Type 0} (x x' : Value) → ((d : Datum) → P d → Q d) → AlikeValues v P x x' → AlikeValues v Q x x'
  values_weaken x x' k (both_got d u u' p q) = both_got d u u' (k d p) q
  values_weaken x x' k (both_halt s u u' q) = both_halt s u u' q

  pub keeps_weaken : {P Q : Datum → Type 0} {a : Action} → Keeps v P a → ((d : Datum) → P d → Q d) → Keeps v Q a
  keeps_weaken {a = a} h k = record { from = λ w w' r. values_weaken (a w) (a w') k (h.from w w' r) }

  pub keeps_given : {P : Datum → Type 0} (d : Datum) → P d → Keeps v P (given d)
  keeps_given d p = record { from = λ w w' r. both_got d w w' p r }

  pub keeps_cond : {P : Datum → Type 0} {a a' : Action} (b : Bool) → Keeps v P a → Keeps v P a' → Keeps v P (cond b a a')
  keeps_cond true h h' = h
  keeps_cond false h h' = h'

  pub keeps_answered : (r : Result ℤ Stop) → Keeps v (IsReadable v) (answered r)
  keeps_answered (Ok z) = record { from = λ w w' h. both_got (number z) w w' tt h }
  keeps_answered (Err s) = record { from = λ w w' h. both_halt s w w' h }

  -- ---- pointers

  keeps_pointer_at : (fits : Bool) (a : ℕ) (o : ℤ) → IsReadable v (pointer a o) → Keeps v (IsReadable v) (pointer_at fits a o)
  keeps_pointer_at true a o p = record { from = λ w w' h. both_got (pointer a o) w w' p h }
  keeps_pointer_at false a o p = record { from = λ w w' h. both_halt Bounds w w' h }

  halts_bounds : {P : Datum → Type 0} → Keeps v P (λ w. halts Bounds w)
  halts_bounds = record { from = λ w w' h. both_halt Bounds w w' h }

  -- a pointer that is moved may be read as before
  pub keeps_moved : (d : Datum) (n : ℤ) → IsReadable v d → Keeps v (IsReadable v) (moved d n)
  keeps_moved (number z) n p = halts_bounds
  keeps_moved (pointer a o) n p = keeps_pointer_at (fits_offset (o +ℤ n)) a (o +ℤ n) p
  keeps_moved nothing n p = halts_bounds

  -- a load of an element that may be read
  keeps_loaded : (arrays : List Array) (t : Ty) (d : Datum) → ((i : ℕ) → named_element arrays d ≡ Some i → v.Seen (array_of d) i) → Keeps v (IsReadable v) (loaded arrays t d)
  keeps_loaded arrays t d p = record { from = λ w w' h. go w w' h (named_element arrays d) refl }
    where
      load : ℕ → Action
      load i u = got (number (wrap_number t (number_of (array_at arrays (array_of d)).ty (u.memory (array_of d) i)))) u

      same : (w w' : World) → v.Alike w w' → (i : ℕ) → v.Seen (array_of d) i → AlikeValues v (IsReadable v) (load i w) (load i w')
      same w w' h i seen = subst (λ x. AlikeValues v (IsReadable v) (load i w) (got (number (wrap_number t (number_of (array_at arrays (array_of d)).ty x))) w'))
          (v.reads w w' h (array_of d) i seen) (both_got (number (wrap_number t (number_of (array_at arrays (array_of d)).ty (w.memory (array_of d) i)))) w w' tt h)

      go : (w w' : World) → v.Alike w w' → (e : Option ℕ) → named_element arrays d ≡ e → AlikeValues v (IsReadable v) (at_element e load w) (at_element e load w')
      go w w' h None e = both_halt Bounds w w' h
      go w w' h (Some i) e = same w w' h i (p i e)

  pub keeps_read : (arrays : List Array) (t : Ty) (d : Datum) → IsReadable v d → Keeps v (IsReadable v) (loaded arrays t d)
  keeps_read arrays t d p = keeps_loaded arrays t d (readable_seen v arrays d p)

  pub keeps_own : (arrays : List Array) (t : Ty) (d : Datum) → IsOwned v arrays d → Keeps v (IsReadable v) (loaded arrays t d)
  keeps_own arrays t d p = keeps_loaded arrays t d (λ i e. v.own_seen (array_of d) i (p i e))

  -- a store to an element that may be written
  pub keeps_stored : (arrays : List Array) → TakesWords v arrays → (d : Datum) (z : ℤ) → IsOwned v arrays d → Keeps v (IsReadable v) (stored arrays d z)
  keeps_stored arrays takes d z p = record { from = λ w w' h. go w w' h (named_element arrays d) refl }
    where
      store : ℕ → Action
      store i u = got nothing (in_memory u (with_cell u.memory (array_of d) i (word_of (wrap_number (array_at arrays (array_of d)).ty z))))

      go : (w w' : World) → v.Alike w w' → (e : Option ℕ) → named_element arrays d ≡ e → AlikeValues v (IsReadable v) (at_element e store w) (at_element e store w')
      go w w' h None e = both_halt Bounds w w' h
      go w w' h (Some i) e = both_got nothing _ _ tt (v.writes w w' h (array_of d) i _ (p i e) (takes (array_of d) z))

  keeps_here : (arrays : List Array) (fits : Bool) (a : ℕ) (o : ℤ) → IsOwned v arrays (pointer a o) → Keeps v (IsOwned v arrays) (pointer_at fits a o)
  keeps_here arrays true a o p = record { from = λ w w' h. both_got (pointer a o) w w' p h }
  keeps_here arrays false a o p = halts_bounds

  -- a pointer that is moved by 0 is the same
  pub keeps_still : (arrays : List Array) (d : Datum) → IsOwned v arrays d → Keeps v (IsOwned v arrays) (moved d (pos 0))
  keeps_still arrays (number z) p = halts_bounds
  keeps_still arrays (pointer a o) p =
      subst (λ x. Keeps v (IsOwned v arrays) (pointer_at (fits_offset x) a x)) (sym (plus_zero o)) (keeps_here arrays (fits_offset o) a o p)
  keeps_still arrays nothing p = halts_bounds
