-- How many lanes a variant has at most.
use Rattle.std.proofs.Common.{◌≡◌, ℕ, zero, suc, ◌/◌, ◌<◌, ◌≤◌, ◌&&◌, eqb, Bool, true, false, cond, List, [], ◌∷◌, ◌++◌, map, length, get_or, Contains, Option, Some, None, slice_get, refl, sym, subst, arith, ℤ, pos, negsuc}
use Rattle.std.specs.Prelude.{int_le}
use Rattle.std.specs.List.{AllByRecursion, flat_map}
use Rattle.std.specs.Option.{option_and_then, option_or}
use Rattle.std.proofs.Math.Nat.{div-le_self}
use Rattle.std.proofs.lemmas.Bool.Decides.{nat_tests}
use Rattle.vk_kinds.specs.declared.kinds.Isa.{Isa}
use Rattle.vk_kinds.specs.declared.kinds.Isa.TheVariants.{B, C, D, E, N, S}
use Rattle.vk_kinds.specs.declared.kinds.Len.{Len}
use Rattle.vk_kinds.specs.declared.kinds.Len.TheVariants.{Fixed, Scalable}
use Rattle.vk_kinds.specs.declared.kinds.Length.{Length}
use Rattle.vk_kinds.specs.declared.kinds.Target.{Target}
use Rattle.vk_kinds.specs.Lengths.{lens_at, lens_with, letters_of, lengths, masks_at, variants_at, variants_with}
use Rattle.vk_kinds.specs.Sizes.{HeadTypes, SignatureTree, cdt, nds}
use Rattle.vk_numbers.specs.Constants.{constant_of, number_to}
use Rattle.vk_ast.specs.Directives.{ClauseTree, DirectiveTree, Says, simdlen, uniform, aligned, linear, inside, outside, other}
use Rattle.vk_ast.specs.Units.{FunctionTree}
use Rattle.vk_rules_book.specs.Signatures.{signature_of, simdlen_in, simdlen_said}

-- a length of at most 256 lanes, or a scalable one
abbrev pub IsShort : Len → Type 0
IsShort (Fixed n) = n ≤ 256
IsShort Scalable = Unit {0}

abbrev pub HasShort : Length → Type 0
HasShort front = IsShort front.len

part : (register size : ℕ) → register ≤ 64 → register / size ≤ 256
part register size h = let less : register / size ≤ register = div-le_self register size in omega arith

by_narrowest : (b : Bool) (n : ℕ) → AllByRecursion IsShort (cond b (Fixed 2 ∷ []) (Fixed (8 / n) ∷ Fixed (16 / n) ∷ []))
by_narrowest true n = (omega arith, tt)
by_narrowest false n = (part 8 n (omega arith), (part 16 n (omega arith), tt))

lens_short : (isa : Isa) (h : HeadTypes) (s : SignatureTree) → AllByRecursion IsShort (lens_at isa h s)
lens_short B h s = (part 16 (cdt h s) (omega arith), tt)
lens_short C h s = (part 16 (cdt h s) (omega arith), tt)
lens_short D h s = (part 32 (cdt h s) (omega arith), tt)
lens_short E h s = (part 64 (cdt h s) (omega arith), tt)
lens_short N h s = by_narrowest (eqb (nds h s) 8) (nds h s)
lens_short S h s = (tt, tt)

lens_with_short : (o : Option ℕ) (lens : List Len) → AllByRecursion IsShort lens → ((m : ℕ) → o ≡ Some m → m ≤ 256) → AllByRecursion IsShort (lens_with o lens)
lens_with_short None lens all few = all
lens_with_short (Some n) lens all few = (few n refl, tt)

-- ---- lists of them

all_append : {X : Type 0} (P : X → Type 0) (xs ys : List X) → AllByRecursion P xs → AllByRecursion P ys → AllByRecursion P (xs ++ ys)
all_append P [] ys all more_of = more_of
all_append P (x ∷ xs) ys all more_of = (all.0, all_append P xs ys all.1 more_of)

all_flat : {X Y : Type 0} (P : Y → Type 0) (Q : X → Type 0) (f : X → List Y) (xs : List X) → AllByRecursion Q xs → ((x : X) → Q x → AllByRecursion P (f x)) → AllByRecursion P (flat_map f xs)
all_flat P Q f [] all each = tt
all_flat P Q f (x ∷ xs) all each = all_append P (f x) (flat_map f xs) (each x all.0) (all_flat P Q f xs all.1 each)

each_flat : {X Y : Type 0} (P : Y → Type 0) (f : X → List Y) (xs : List X) → ((x : X) → AllByRecursion P (f x)) → AllByRecursion P (flat_map f xs)
each_flat P f [] each = tt
each_flat P f (x ∷ xs) each = all_append P (f x) (flat_map f xs) (each x) (each_flat P f xs each)

all_masks : (isa : Isa) (len : Len) (masks : List Bool) → IsShort len → AllByRecursion HasShort (map (λ masked. record { isa = isa; masked = masked; len = len }) masks)
all_masks isa len [] short = tt
all_masks isa len (m ∷ ms) short = (short, all_masks isa len ms short)

variants_short : (h : HeadTypes) (s : SignatureTree) (isa : Isa) → ((m : ℕ) → s.simdlen ≡ Some m → m ≤ 256) → AllByRecursion HasShort (variants_at h s isa)
variants_short h s isa few =
    all_flat HasShort IsShort (variants_with isa s.branch) (lens_with s.simdlen (lens_at isa h s)) (lens_with_short s.simdlen (lens_at isa h s) (lens_short isa h s) few)
    (λ len short. all_masks isa len (masks_at isa s.branch) short)

lengths_short : (target : Target) (h : HeadTypes) (s : SignatureTree) → ((m : ℕ) → s.simdlen ≡ Some m → m ≤ 256) → AllByRecursion HasShort (lengths target h s)
unfolding lengths
lengths_short target h s few = each_flat HasShort (variants_at h s) (letters_of target) (λ isa. variants_short h s isa few)

read_all : {X : Type 0} (P : X → Type 0) (xs : List X) (k : ℕ) (d : X) → AllByRecursion P xs → k < length xs → P (get_or xs k d)
read_all P [] k d all h = absurd (omega arith)
read_all P (x ∷ xs) zero d all h = all.0
read_all P (x ∷ xs) (suc k) d all h = read_all P xs k d all.1 (omega arith)

all_at : {X : Type 0} (P : X → Type 0) (xs : List X) (x : X) → AllByRecursion P xs → Contains xs x → P x
all_at P xs x all (k, lt, at) = subst P at (read_all P xs k x all lt)

-- ---- what a directive asks for

chosen_to : (b : Bool) (m n : ℕ) → (b ≡ true → m ≤ 256) → cond b (Some m) None ≡ Some n → n ≤ 256
chosen_to true m n h e = let same : m ≡ n = cc in let top = h refl in omega (arith, top, same)
chosen_to false m n h e = cc

right_of : (a b : Bool) → (a && b) ≡ true → b ≡ true
right_of true b e = e
right_of false b e = cc

number_most : (z : ℤ) (n : ℕ) → number_to 256 z ≡ Some n → n ≤ 256
number_most (pos m) n e = chosen_to (int_le (pos 1) (pos m) && int_le (pos m) (pos 256)) m n (λ h. let le = right_of (int_le (pos 1) (pos m)) (int_le (pos m) (pos 256)) h in grind (arith, nat_tests)) e
number_most (negsuc m) n e = cc

constant_most : (o : Option ℤ) (n : ℕ) → option_and_then (number_to 256) o ≡ Some n → n ≤ 256
constant_most None n e = cc
constant_most (Some z) n e = number_most z n e

said_most : (says : Says) (m : ℕ) → simdlen_said says ≡ Some m → m ≤ 256
said_most (simdlen e) m is = constant_most (constant_of e) m is
said_most (uniform names) m is = cc
said_most (aligned names e) m is = cc
said_most (linear names x e) m is = cc
said_most inside m is = cc
said_most outside m is = cc
said_most other m is = cc

or_most : (o p : Option ℕ) (m : ℕ) → ((n : ℕ) → o ≡ Some n → n ≤ 256) → ((n : ℕ) → p ≡ Some n → n ≤ 256) → option_or o p ≡ Some m → m ≤ 256
or_most None p m f g is = g m is
or_most (Some n) p m f g is = f m is

clauses_most : (cs : List ClauseTree) (m : ℕ) → simdlen_in cs ≡ Some m → m ≤ 256
unfolding simdlen_in
clauses_most [] m is = cc
clauses_most (c ∷ cs) m is = or_most (simdlen_said c.says) (simdlen_in cs) m (said_most c.says) (clauses_most cs) is

asked_most : (g : FunctionTree) (d : DirectiveTree) (m : ℕ) → (signature_of g d).simdlen ≡ Some m → m ≤ 256
unfolding signature_of
asked_most g d m is = clauses_most d.clauses m is

signature_most : (g : FunctionTree) (ds : List DirectiveTree) (k : ℕ) (s : SignatureTree) → slice_get (map (signature_of g) ds) k ≡ Some s → (m : ℕ) → s.simdlen ≡ Some m → m ≤ 256
signature_most g [] k s at m is = cc
signature_most g (d ∷ ds) zero s at m is = let same : signature_of g d ≡ s = cc in asked_most g d m (subst (λ (t : SignatureTree). t.simdlen ≡ Some m) (sym same) is)
signature_most g (d ∷ ds) (suc k) s at m is = signature_most g ds k s at m is

-- the variants of a directive are short
pub front_short : (target : Target) (h : HeadTypes) (g : FunctionTree) (k : ℕ) (s : SignatureTree) (front : Length) → slice_get (map (signature_of g) g.directives) k ≡ Some s →
    Contains (lengths target h s) front → IsShort front.len
front_short target h g k s front at given = all_at HasShort (lengths target h s) front (lengths_short target h s (signature_most g g.directives k s at)) given
