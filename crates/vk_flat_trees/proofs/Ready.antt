-- What code before leaves for code behind it.
use Rattle.std.proofs.Common.{arith, sym, true≢false, ◌≡◌, ℕ, ◌+◌, ◌<◌, ◌≤◌, Bool, true, false, not, List, length, refl, subst, ◌∙◌, Option, Some, None, is_some}
use Rattle.std.specs.Prelude.{IsTrue}
use Rattle.vk_kinds.specs.declared.heads.CType.TheVariants.{Int, Ptr}
use Rattle.vk_ast.specs.Tree.{Tree, addr, binary, call, cast, choice, deref, index, int, name, unary}
use Rattle.vk_construct.specs.Adds.{Written}
use Rattle.vk_flat.specs.declared.emitter.Emitter.{Emitter}
use Rattle.vk_flat.specs.declared.emitter.Under.{Under}
use Rattle.vk_flat.specs.Emitters.{HasBase, written_of}
use Rattle.vk_flat_pointers.specs.declared.homes.Home.{Home}
use Rattle.vk_flat_pointers.specs.declared.homes.Home.TheVariants.{Number, Pointer as Pointing}
use Rattle.vk_flat_pointers.specs.declared.homes.Named.{Named}
use Rattle.vk_flat_trees.specs.Emits.{CanEmit, Grows, HasGrown}
use Rattle.vk_flat_trees.specs.Names.{AreHomes, IsHome, element, is_numeric, is_zero, summed}

-- ---- homes

home_kept : (a b : Written) → Grows a b → (h : Home) → IsHome a h → IsHome b h
home_kept a b g (Number x) p = g.kept x.register (Int x.ty) p
home_kept a b g (Pointing x) p = record {
  typed = g.kept x.register (Ptr x.to x.written) p.typed;
  usable = λ q hw. p.usable q (g.less q hw);
  moving = λ m q hw. p.moving m q (g.less q hw);
}

pub homes_then : (a b : Written) (names : List Named) → Grows a b → AreHomes a names → AreHomes b names
homes_then a b names g h id x is = home_kept a b g x (h id x is)

-- ---- what has grown

pub grown_same : (a : Emitter) (more : ℕ) → HasGrown a a more
grown_same a more = record { params = refl; slots = refl; masks = omega arith; registers = omega arith; count = omega arith }

pub grown_base : (a b : Emitter) (n more : ℕ) → n ≤ more → HasBase a b n → HasGrown a b more
grown_base a b n more le h = record {
  params = h.params;
  slots = h.slots;
  masks = let x = h.masks in omega (arith, x);
  registers = h.least;
  count = let x = h.masks in let y = h.most in omega (arith, x, y, le);
}

pub grown_then : (a b c : Emitter) (m n more : ℕ) → m + n ≤ more → HasGrown a b m → HasGrown b c n → HasGrown a c more
grown_then a b c m n more le x y = record {
  params = y.params ∙ x.params;
  slots = y.slots ∙ x.slots;
  masks = let p = x.masks in let q = y.masks in omega (arith, p, q);
  registers = let p = x.registers in let q = y.registers in omega (arith, p, q);
  count = let p = x.count in let q = y.count in omega (arith, p, q, le);
}

pub grown_after : (a b c : Emitter) (m n more : ℕ) → m + n ≤ more → HasGrown a b m → HasBase b c n → HasGrown a c more
grown_after a b c m n more le x y = grown_then a b c m n more le x (grown_base b c n n (omega arith) y)

pub grown_more : (a b : Emitter) (m more : ℕ) → m ≤ more → HasGrown a b m → HasGrown a b more
grown_more a b m more le x = grown_then a b b m 0 more (omega (arith, le)) x (grown_same b 0)

-- masks and a register for two cases
pub grown_cases : (a b : Emitter) → b.params ≡ a.params → (written_of b).slots ≡ (written_of a).slots → a.masks ≤ b.masks → length b.regs.items ≡ length a.regs.items + 1 → b.masks ≤ a.masks + 3 → HasGrown a b 4
grown_cases a b params slots masks registers count = record { params = params; slots = slots; masks = masks; registers = omega (arith, registers); count = omega (arith, registers, count) }

-- ---- what may come

pub ready_less : (a : Emitter) (names : List Named) (u : Under) (m n : ℕ) → n ≤ m → CanEmit a names u m → CanEmit a names u n
ready_less a names u m n le h = record { homes = h.homes; params = h.params; running = h.running; masks = h.masks; room = let x = h.room in omega (arith, x, le) }

pub ready_under : (a b : Emitter) (names : List Named) (u v : Under) (m n k : ℕ) → m + n ≤ k → CanEmit a names u k → Grows (written_of a) (written_of b) → HasGrown a b m → v.mask < v.free → v.free ≤ b.masks → CanEmit b names v n
ready_under a b names u v m n k le h g x runs fits = record {
  homes = homes_then (written_of a) (written_of b) names g h.homes;
  params = let p = h.params in let q = x.params in let r = x.registers in omega (arith, p, q, r);
  running = runs;
  masks = fits;
  room = let p = h.room in let q = x.count in omega (arith, p, q, le);
}

pub ready_after : (a b : Emitter) (names : List Named) (u : Under) (m n k : ℕ) → m + n ≤ k → CanEmit a names u k → Grows (written_of a) (written_of b) → HasGrown a b m → CanEmit b names u n
ready_after a b names u m n k le h g x = ready_under a b names u u m n k le h g x h.running (let p = h.masks in let q = x.masks in omega (arith, p, q))

-- ---- tests

zero_numeric : (names : List Named) (e : Tree) → is_zero e ≡ true → is_numeric names e ≡ true
zero_numeric names (int l k t n) z = refl
zero_numeric names (name l k id) z = cc
zero_numeric names (index l k f g) z = cc
zero_numeric names (deref l k f) z = cc
zero_numeric names (addr l k f) z = cc
zero_numeric names (unary l k op f) z = cc
zero_numeric names (binary l k op f g) z = cc
zero_numeric names (choice l k f g h) z = cc
zero_numeric names (cast l k t f) z = cc
zero_numeric names (call l k id fs) z = cc

is_true : (b : Bool) → b ≡ true → IsTrue b
is_true b e = cc

pub element_pointing : (m : Option Bool) (z n : Bool) → IsTrue (is_some (element m z n)) → IsTrue (is_some m)
element_pointing None z n h = h
element_pointing (Some b) z n h = refl

pub element_numeric : (names : List Named) (m : Option Bool) (e : Tree) → IsTrue (is_some (element m (is_zero e) (is_numeric names e))) → IsTrue (is_numeric names e)
element_numeric names m e h = go m (is_zero e) (is_numeric names e) (zero_numeric names e) h
  where
    go : (m : Option Bool) (z n : Bool) → (z ≡ true → n ≡ true) → IsTrue (is_some (element m z n)) → IsTrue n
    go m z true f h = refl
    go None z false f h = h
    go (Some true) z false f h = h
    go (Some false) true false f h = absurd (true≢false (sym (f refl)))
    go (Some false) false false f h = h

-- an element of a pointer that may not be moved
pub element_zero : (m : Option Bool) (b z n : Bool) → m ≡ Some b → b ≡ false → IsTrue (is_some (element m z n)) → z ≡ true
element_zero None b z n e f h = cc
element_zero (Some true) b z n e f h = cc
element_zero (Some false) b true n e f h = refl
element_zero (Some false) b false n e f h = cc

pub element_moves : (m : Option Bool) (b z n : Bool) → m ≡ Some b → IsTrue (is_some (element m z n)) → element m z n ≡ Some b
element_moves None b z n e h = cc
element_moves (Some true) b z true e h = cc
element_moves (Some true) b z false e h = cc
element_moves (Some false) b true n e h = cc
element_moves (Some false) b false n e h = cc

pub summed_plus : (p : Bool) (m : Option Bool) (n : Bool) → IsTrue (is_some (summed p m n)) → (p ≡ true) × (m ≡ Some true) × (n ≡ true)
summed_plus true None n h = cc
summed_plus true (Some true) true h = (refl, refl, refl)
summed_plus true (Some true) false h = cc
summed_plus true (Some false) n h = cc
summed_plus false m n h = cc

pub summed_numeric : (p : Bool) (m : Option Bool) (n : Bool) → IsTrue (is_some (summed p m n)) → IsTrue n
summed_numeric p m n h = is_true n (summed_plus p m n h).2

pub summed_pointing : (p : Bool) (m : Option Bool) (n : Bool) → IsTrue (is_some (summed p m n)) → IsTrue (is_some m)
summed_pointing p m n h = subst (λ o. IsTrue (is_some o)) (sym (summed_plus p m n h).1) refl

pub not_fixed : (b : Bool) → not b ≡ false → b ≡ true
not_fixed true e = refl
not_fixed false e = absurd (true≢false e)
