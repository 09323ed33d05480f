-- What slots pass, and cells that are named.
use Rattle.std.proofs.Common.{arith, sym, ◌≡◌, ◌≢◌, ℕ, zero, suc, ◌<◌, ◌≤◌, ◌==◌, Bool, true, false, List, length, get_or, Option, Some, None, refl, subst, ap, ◌∙◌, ◌⊎◌, inl, inr, true≢false}
use Rattle.std.specs.Prelude.{slice_get}
use Rattle.vk_kinds.specs.declared.heads.CType.{CType}
use Rattle.vk_kinds.specs.declared.kinds.Kind.{Kind}
use Rattle.vk_kinds.specs.declared.kinds.Kind.TheVariants.{Vector}
use Rattle.vk_meaning.specs.World.{Array}
use Rattle.vk_meaning.specs.Data.{array_of, named_element}
use Rattle.vk_meaning.specs.Lanes.{arguments_of, Words, argument, IsWord, NamesCell, AreFitting, FitsFrom}
use Rattle.vk_meaning.specs.Types.{is_written_type, type_at}
use Rattle.vk_object.specs.Lane.{is_live, number_at}
use Rattle.vk_object.specs.Machine.{Target, arg_reg, kind_at, passed, first_live}
use Rattle.vk_lane.specs.Places.{Shares, Place, lanes_of, reg_type}
use Rattle.vk_lane.specs.Pieces.{EachSound}
use Rattle.vk_lane_calls.specs.Callable.{passed_words, own_words, Passes}

-- ---- a named cell is found

-- parameters from n on
LookFrom : (ts : List CType) (arrays : List Array) (words : Words) (j a i n : ℕ) → Type 0
LookFrom ts arrays words j a i n = (NamesCell ts arrays (arguments_of ts words j) a i) ⊎ ((p : ℕ) → n ≤ p → p < length ts → is_written_type (type_at ts p) ≡ true → array_of (argument ts words p j) ≡ a → named_element arrays (argument ts words p j) ≡ Some i → ⊥)

written_or : (t : CType) → (is_written_type t ≡ true) ⊎ ((is_written_type t ≡ true) → ⊥)
written_or t = by (is_written_type t)
  where
    by : (b : Bool) → (b ≡ true) ⊎ ((b ≡ true) → ⊥)
    by true = inl refl
    by false = inr (λ e. true≢false (sym e))

some_or : (o : Option ℕ) (i : ℕ) → (o ≡ Some i) ⊎ ((o ≡ Some i) → ⊥)
some_or None i = inr (λ e. none_some i e)
  where
    none_some : (i : ℕ) → None ≡ Some i → ⊥
    none_some i e = cc
some_or (Some k) i = go (k == i) refl
  where
    inj : Some k ≡ Some i → k ≡ i
    inj e = cc

    go : (b : Bool) → (k == i) ≡ b → (Some k ≡ Some i) ⊎ ((Some k ≡ Some i) → ⊥)
    go true e = inl (ap Some (grind (arith, e)))
    go false e = inr (λ q. absurd (true≢false (sym (same k i (inj q)) ∙ e)))
      where
        same : (k i : ℕ) → k ≡ i → (k == i) ≡ true
        same k i e = grind (arith, e)

eq_or : (a b : ℕ) → (a ≡ b) ⊎ (a ≢ b)
eq_or a b = go (a == b) refl
  where
    go : (q : Bool) → (a == b) ≡ q → (a ≡ b) ⊎ (a ≢ b)
    go true e = inl (grind (arith, e))
    go false e = inr (grind (arith, e))

look : (ts : List CType) (arrays : List Array) (words : Words) (j a i n : ℕ) → n ≤ length ts → LookFrom ts arrays words j a i 0 ⊎ ((p : ℕ) → p < n → is_written_type (type_at ts p) ≡ true → array_of (argument ts words p j) ≡ a → named_element arrays (argument ts words p j) ≡ Some i → ⊥)
unfolding LookFrom
look ts arrays words j a i zero l = inr (λ p lp. absurd (omega (arith, lp)))
look ts arrays words j a i (suc n) l = go (look ts arrays words j a i n (omega (arith, l)))
  where
    None_ : (p : ℕ) → Type 0
    None_ p = is_written_type (type_at ts p) ≡ true → array_of (argument ts words p j) ≡ a → named_element arrays (argument ts words p j) ≡ Some i → ⊥

    more : ((p : ℕ) → p < n → None_ p) → None_ n → (p : ℕ) → p < suc n → None_ p
    more f g p lp = at (p == n) refl
      where
        at : (b : Bool) → (p == n) ≡ b → None_ p
        at true e = subst None_ (sym (grind (arith, e))) g
        at false e = f p (grind (arith, lp, e))

    here : ((p : ℕ) → p < n → None_ p) → ((is_written_type (type_at ts n) ≡ true) ⊎ ((is_written_type (type_at ts n) ≡ true) → ⊥)) → ((array_of (argument ts words n j) ≡ a) ⊎ (array_of (argument ts words n j) ≢ a)) →
        ((named_element arrays (argument ts words n j) ≡ Some i) ⊎ ((named_element arrays (argument ts words n j) ≡ Some i) → ⊥)) → LookFrom ts arrays words j a i 0 ⊎ ((p : ℕ) → p < suc n → None_ p)
    here f (inl w) (inl s) (inl e) = inl (inl (record { parameter = n; below = omega (arith, l); written = w; same_array = s; element = e }))
    here f (inr w) s e = inr (more f (λ x y z. w x))
    here f (inl w) (inr s) e = inr (more f (λ x y z. s y))
    here f (inl w) (inl s) (inr e) = inr (more f (λ x y z. e z))

    go : (LookFrom ts arrays words j a i 0 ⊎ ((p : ℕ) → p < n → None_ p)) → LookFrom ts arrays words j a i 0 ⊎ ((p : ℕ) → p < suc n → None_ p)
    go (inl x) = inl x
    go (inr f) = here f (written_or (type_at ts n)) (eq_or (array_of (argument ts words n j)) a) (some_or (named_element arrays (argument ts words n j)) i)

pub names_or : (ts : List CType) (arrays : List Array) (words : Words) (j a i : ℕ) → NamesCell ts arrays (arguments_of ts words j) a i ⊎ (NamesCell ts arrays (arguments_of ts words j) a i → ⊥)
unfolding LookFrom
names_or ts arrays words j a i = go (look ts arrays words j a i (length ts) (omega arith))
  where
    go : (LookFrom ts arrays words j a i 0 ⊎ ((p : ℕ) → p < length ts → is_written_type (type_at ts p) ≡ true → array_of (argument ts words p j) ≡ a → named_element arrays (argument ts words p j) ≡ Some i → ⊥)) → NamesCell ts arrays (arguments_of ts words j) a i ⊎ (NamesCell ts arrays (arguments_of ts words j) a i → ⊥)
    go (inl (inl n)) = inl n
    go (inl (inr f)) = inr (λ n. f n.parameter (omega arith) n.below n.written n.same_array n.element)
    go (inr f) = inr (λ n. f n.parameter n.below n.written n.same_array n.element)

-- ---- arguments of the kind v

vector_fits : (ts : List CType) (kinds : List Kind) (lanes : ℕ) (words : Words) (mask : ℕ → Bool) → ((p : ℕ) → get_or kinds p Vector ≡ Vector) → AreFitting ts kinds lanes words mask
vector_fits ts kinds lanes words mask all k first p j lp lj mj = subst (λ q. FitsFrom q (type_at ts p) ts words p k j) (sym (all p)) tt

pub passes_vectors : (x : Place) (m : ℕ) (t : Target) (ts : List CType) (kinds : List Kind) (hs : Shares) → ((p : ℕ) → get_or kinds p Vector ≡ Vector) → ((p : ℕ) → p < length ts → kind_at t.entry p ≡ Vector) →
    ((p : ℕ) → p < length ts → (w : ℕ) → IsWord (reg_type x (arg_reg t.slot p)) w → IsWord (type_at ts p) w) → EachSound x hs → Passes x m t ts kinds hs
passes_vectors x m t ts kinds hs all is types s = record {
  same = λ p j lp lj live. same p j lp;
  typed = λ p j lp lj. subst (IsWord (type_at ts p)) (sym (same p j lp)) (types p lp _ ((s j lj).typed (arg_reg t.slot p)));
  fits = vector_fits ts kinds (lanes_of x) (passed_words x m t hs) (λ j. is_live m (hs j).lane) all;
}
  where
    same : (p j : ℕ) → p < length ts → passed_words x m t hs p j ≡ own_words t.slot (hs j) p j
    same p j lp = ap (λ k. passed (slice_get x.site.code.routine.regs (arg_reg t.slot p)) (λ q. number_at x.site.code.routine.regs ((hs (first m hs)).lane) (arg_reg t.slot q)) k (λ i. (hs i).lane.reg (arg_reg t.slot p)) (first m hs) j) (is p lp)
      where
        first : ℕ → Shares → ℕ
        first m hs = first_live (lanes_of x) m (λ k. (hs k).lane)
