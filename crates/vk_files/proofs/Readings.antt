-- Laws of files that are read one after another.
use Rattle.std.proofs.Common.{◌≡◌, ◌∙◌, ℕ, ◌+◌, ◌<◌, ◌≤◌, List, [], ◌∷◌, ◌++◌, Bool, IsTrue, length, map, take, Option, None, Some, get_or, zero, suc, inl, inr, refl, sym, ap, subst, arith}
use Rattle.std.proofs.lemmas.Bool.{cases_lt}
use Rattle.std.proofs.lemmas.List.{get_or-map, get_or-take, length-map, length-take-le, map-append, take-take, take_all, take_more}
use Rattle.std.proofs.lemmas.List.Elements.{All-push}
use Rattle.vk_io.specs.Counts.{IsOneOf, Rose}
use Rattle.vk_io.specs.Store.{Reads, StoreState}
use Rattle.vk_io.specs.Whole.{IsTooLong}
use Rattle.vk_io.proofs.Counting.{Reads-more, Reads-none, Reads-then}
use Rattle.vk_ends.specs.Ends.{file_at}
use Rattle.vk_ends.specs.Inputs.{HasFailed}
use Rattle.vk_files.specs.Reading.{AreFiles, AreReadable, AreWithin, IsFirstTooLong}

-- ---- contents

some_same : (x y : List ℕ) → Some x ≡ Some y → x ≡ y
some_same x y e = cc

no_more : (y : Option (List ℕ)) (ys : List (Option (List ℕ))) → [] ≡ y ∷ ys → ⊥
no_more y ys e = cc

first_same : (x y : Option (List ℕ)) (xs ys : List (Option (List ℕ))) → x ∷ xs ≡ y ∷ ys → x ≡ y
first_same x y xs ys e = cc

rest_same : (x y : Option (List ℕ)) (xs ys : List (Option (List ℕ))) → x ∷ xs ≡ y ∷ ys → xs ≡ ys
rest_same x y xs ys e = cc

with_first : (x y : List ℕ) (xs ys : List (List ℕ)) → x ≡ y → xs ≡ ys → x ∷ xs ≡ y ∷ ys
with_first x y xs ys e f = cc

all_same : (xs ys : List (List ℕ)) → map Some xs ≡ map Some ys → xs ≡ ys
all_same [] [] e = refl
all_same [] (y ∷ ys) e = absurd (no_more _ _ e)
all_same (x ∷ xs) [] e = absurd (no_more _ _ (sym e))
all_same (x ∷ xs) (y ∷ ys) e =
    with_first x y xs ys (some_same x y (first_same (Some x) (Some y) (map Some xs) (map Some ys) e)) (all_same xs ys (rest_same (Some x) (Some y) (map Some xs) (map Some ys) e))

-- files have one list of contents
pub one_contents : (file : List ℕ → Option (List ℕ)) (names xs ys : List (List ℕ)) → AreFiles file names xs → AreFiles file names ys → xs ≡ ys
one_contents file names xs ys x y = all_same xs ys (sym x ∙ y)

-- there are as many as names
pub as_many : (file : List ℕ → Option (List ℕ)) (names contents : List (List ℕ)) → AreFiles file names contents → length contents ≡ length names
as_many file names contents h = sym (length-map contents Some) ∙ ap length (sym h) ∙ length-map names file

-- the file of each number has the contents of this number
pub contents_at : (file : List ℕ → Option (List ℕ)) (names contents : List (List ℕ)) (i : ℕ) → AreFiles file names contents → i < length names →
    file (file_at names i) ≡ Some (get_or contents i [])
contents_at file names contents i h inside =
    let size : length contents ≡ length names = as_many file names contents h in
    sym (get_or-map file names i [] None inside) ∙ ap (λ (os : List (Option (List ℕ))). get_or os i None) h ∙ get_or-map Some contents i [] None (omega arith)

-- ---- the first that is too long

not_both : (file : Option (List ℕ)) (limit : ℕ) (bytes : List ℕ) → file ≡ Some bytes → length bytes ≤ limit → IsTooLong file limit → ⊥
not_both file limit bytes is small (more, are, long) =
    let same : length bytes ≡ length more = ap length (some_same bytes more (sym is ∙ are)) in
    absurd (omega arith)

-- files that can be read have none that is too long
pub readable_not_long : (file : List ℕ → Option (List ℕ)) (limit : ℕ) (names : List (List ℕ)) (input : ℕ) →
    AreReadable file limit names → IsFirstTooLong file limit names input → ⊥
readable_not_long file limit names input (contents, are, within) first =
    let inside : input < length names = first.inside in
    let size : length contents ≡ length names = as_many file names contents are in
    not_both (file (file_at names input)) limit (get_or contents input []) (contents_at file names contents input are inside) (within input [] (omega arith)) first.long

not_later : (file : List ℕ → Option (List ℕ)) (limit : ℕ) (names : List (List ℕ)) (a b : ℕ) → IsFirstTooLong file limit names a → IsFirstTooLong file limit names b →
    a < b → ⊥
not_later file limit names a b x y below =
    let inside : b < length names = y.inside in
    let size : length (take b names) ≡ b = length-take-le b names (omega arith) in
    readable_not_long file limit (take b names) a y.before record {
      inside = omega arith;
      before = subst (AreReadable file limit) (sym (take-take a b names (omega arith))) x.before;
      long = subst (λ (name : List ℕ). IsTooLong (file name) limit) (sym (get_or-take b names a [] below)) x.long;
    }

-- one file is the first that is too long
pub one_first : (file : List ℕ → Option (List ℕ)) (limit : ℕ) (names : List (List ℕ)) (a b : ℕ) → IsFirstTooLong file limit names a → IsFirstTooLong file limit names b →
    a ≡ b
one_first file limit names a b x y =
    elim (cases_lt a b) [
      | inl below ↦ absurd (not_later file limit names a b x y below)
      | inr le ↦ elim (cases_lt b a) [ inl below ↦ absurd (not_later file limit names b a y x below) | inr back ↦ omega arith ]
    ]

-- ---- one file after another

-- the first n files of these names were read
pub record HasRead (limit : ℕ) (names : List (List ℕ)) (before now : StoreState) (n : ℕ) (contents : List (List ℕ)) : Type 0 where
  pub found : IsTrue before.tells → AreFiles before.file (take n names) contents
  pub within : AreWithin limit contents
  pub reads : Reads names before now

-- at the beginning nothing was read
pub HasRead-none : (limit : ℕ) (names : List (List ℕ)) (a : StoreState) (contents : List (List ℕ)) → contents ≡ [] → HasRead limit names a a 0 contents
HasRead-none limit names a contents none = record {
  found = λ told. ap (map Some) (sym none);
  within = subst (AreWithin limit) (sym none) (λ k d inside. absurd (omega arith));
  reads = Reads-none names a;
}

is_one : (names : List (List ℕ)) (i : ℕ) → i < length names → IsOneOf names (file_at names i)
is_one [] i inside = absurd (omega arith)
is_one (name ∷ names) zero inside = inl refl
is_one (name ∷ names) (suc i) inside = inr (is_one names i (omega arith))

-- reading one of the files is reading of these files
reads_one : (names : List (List ℕ)) (i : ℕ) (name : List ℕ) (b c : StoreState) → i < length names → name ≡ file_at names i → Reads (name ∷ []) b c → Reads names b c
reads_one names i name b c inside is reads =
    Reads-more (name ∷ []) names b c
    (λ q one. elim one [ inl same ↦ subst (IsOneOf names) (sym (same ∙ is)) (is_one names i inside) | inr none ↦ absurd none ]) reads

-- what was read with one more
pub reads_then : (limit : ℕ) (names : List (List ℕ)) (a b c : StoreState) (n : ℕ) (contents : List (List ℕ)) (name : List ℕ) →
    HasRead limit names a b n contents → n < length names → name ≡ file_at names n → Reads (name ∷ []) b c → Reads names a c
reads_then limit names a b c n contents name h inside is reads = Reads-then names a b c h.reads (reads_one names n name b c inside is reads)

still_told : (a b : StoreState) → b.tells ≡ a.tells → IsTrue a.tells → IsTrue b.tells
still_told a b same told = subst (λ (t : Bool). IsTrue t) (sym same) told

-- one more file was read
pub HasRead-more : (limit : ℕ) (names : List (List ℕ)) (a b c : StoreState) (n : ℕ) (contents more : List (List ℕ)) (name bytes : List ℕ) →
    HasRead limit names a b n contents → n < length names → name ≡ file_at names n → (IsTrue b.tells → b.file name ≡ Some bytes) → length bytes ≤ limit →
    Reads (name ∷ []) b c → more ≡ contents ++ bytes ∷ [] → HasRead limit names a c (n + 1) more
HasRead-more limit names a b c n contents more name bytes h inside is found small reads with = record {
  found = λ told.
      let here : a.file (file_at names n) ≡ Some bytes =
      ap a.file (sym is) ∙ sym (h.reads.file name) ∙ found (still_told a b h.reads.tells told) in
      ap (map a.file) (take_more names n [] inside) ∙ map-append a.file (take n names) (file_at names n ∷ [])
      ∙ ap (λ (os : List (Option (List ℕ))). os ++ a.file (file_at names n) ∷ []) (h.found told)
      ∙ ap (λ (o : Option (List ℕ)). map Some contents ++ o ∷ []) here ∙ sym (map-append Some contents (bytes ∷ [])) ∙ ap (map Some) (sym with);
  within = subst (AreWithin limit) (sym with) (All-push (λ (b : List ℕ). length b ≤ limit) contents bytes h.within small);
  reads = reads_then limit names a b c n contents name h inside is reads;
}

-- all files were read
pub HasRead-all : (limit : ℕ) (names : List (List ℕ)) (a b : StoreState) (n : ℕ) (contents : List (List ℕ)) → HasRead limit names a b n contents →
    length names ≤ n → IsTrue a.tells → AreFiles a.file names contents
HasRead-all limit names a b n contents h all told =
    subst (λ (ns : List (List ℕ)). AreFiles a.file ns contents) (take_all n names all) (h.found told)

-- the files before the next one can be read
pub HasRead-readable : (limit : ℕ) (names : List (List ℕ)) (a b : StoreState) (n : ℕ) (contents : List (List ℕ)) → HasRead limit names a b n contents →
    IsTrue a.tells → AreReadable a.file limit (take n names)
HasRead-readable limit names a b n contents h told = (contents, h.found told, h.within)

-- the next one is too long
pub HasRead-long : (limit : ℕ) (names : List (List ℕ)) (a b : StoreState) (n : ℕ) (contents : List (List ℕ)) (name : List ℕ) → HasRead limit names a b n contents →
    n < length names → name ≡ file_at names n → (IsTrue b.tells → IsTooLong (b.file name) limit) → IsTrue a.tells → IsFirstTooLong a.file limit names n
HasRead-long limit names a b n contents name h inside is long told = record {
  inside = inside;
  before = HasRead-readable limit names a b n contents h told;
  long = subst (λ (o : Option (List ℕ)). IsTooLong o limit) (h.reads.file name ∙ ap a.file is) (long (still_told a b h.reads.tells told));
}

-- the next one could not be read
pub HasRead-failed : (limit : ℕ) (names : List (List ℕ)) (a b c : StoreState) (n : ℕ) (contents : List (List ℕ)) (name : List ℕ) → HasRead limit names a b n contents →
    n < length names → name ≡ file_at names n → Rose (b.reads name) (c.reads name) → HasFailed names n a c
HasRead-failed limit names a b c n contents name h inside is rose =
    let later : a.reads name ≤ b.reads name = h.reads.reads.later name in
    (inside, subst (λ (q : List ℕ). Rose (a.reads q) (c.reads q)) is (omega arith))

-- ---- names that are given as another list

pub is_inside : {X : Type 0} (name : X → List ℕ) (files : List X) (i : ℕ) → i < length files → i < length (map name files)
is_inside name files i inside = let size : length (map name files) ≡ length files = length-map files name in omega arith

pub is_name : {X : Type 0} (name : X → List ℕ) (files : List X) (i : ℕ) (d : X) → i < length files → name (get_or files i d) ≡ file_at (map name files) i
is_name name files i d inside = sym (get_or-map name files i d [] inside)
