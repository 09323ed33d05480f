-- What is reached, by the definitions of cells that are named and arrays that are read.
use Rattle.std.proofs.Common.{◌≡◌, ℕ, zero, suc, ◌+◌, ◌<◌, ◌≤◌, ◌/◌, ◌%◌, ◌^◌, ◌==◌, Bool, true, false, ◌&&◌, List, [], ◌∷◌, length, get_or, Option, Some, None, ℤ, refl, sym, ap, subst, ◌∙◌, arith, inl, inr, eqb}
use Rattle.std.proofs.lemmas.Bool.{cases_lt}
use Rattle.std.proofs.lemmas.Bool.Decides.{nat_tests}
use Rattle.std.specs.Int.{w32, cast_signed}
use Rattle.vk_kinds.specs.declared.heads.CType.{CType}
use Rattle.vk_kinds.specs.declared.heads.CType.TheVariants.{Void, Int, Ptr}
use Rattle.vk_meaning.specs.World.{Array, array_at}
use Rattle.vk_meaning.specs.Data.{array_of, element_at, named_element, nothing, pointer}
use Rattle.vk_meaning.specs.Types.{is_written_type, type_at}
use Rattle.vk_meaning.specs.Lanes.{NamesCell, ReadsArray, Words, arguments_of, data_from, datum_of}
use Rattle.vk_apart.specs.declared.reach.Reach.{Reach}
use Rattle.vk_apart.specs.declared.reach.Reach.TheVariants.{Nothing, Cell, Whole}
use Rattle.vk_apart.specs.Inner.Reaches.{meet, reach, reach_element, reach_of}

-- ---- one argument

element_is : (b : ℕ) (o : Option ℕ) (a c : ℕ) → reach_element b o ≡ Cell a c → (b ≡ a) × (o ≡ Some c)
element_is b None a c e = cc
element_is b (Some d) a c e = (let same : b ≡ a = cc in same, let same : d ≡ c = cc in ap Some same)

cell_is : (arrays : List Array) (t : CType) (w a c : ℕ) → reach_of arrays t w ≡ Cell a c →
    (is_written_type t ≡ true) × (array_of (datum_of t w) ≡ a) × (named_element arrays (datum_of t w) ≡ Some c)
cell_is arrays Void w a c e = cc
cell_is arrays (Int t) w a c e = cc
cell_is arrays (Ptr to true) w a c e = let is = element_is (w / 2 ^ 32) (element_at (array_at arrays (w / 2 ^ 32)).length (cast_signed w32 (w % 2 ^ 32))) a c e in (refl, is.0, is.1)
cell_is arrays (Ptr to false) w a c e = cc

cell_from : (arrays : List Array) (t : CType) (w a c : ℕ) → is_written_type t ≡ true → array_of (datum_of t w) ≡ a → named_element arrays (datum_of t w) ≡ Some c →
    reach_of arrays t w ≡ Cell a c
cell_from arrays Void w a c written same named = cc
cell_from arrays (Int t) w a c written same named = cc
cell_from arrays (Ptr to true) w a c written same named = ap (reach_element (w / 2 ^ 32)) named ∙ ap (λ b. Cell b c) same
cell_from arrays (Ptr to false) w a c written same named = cc

whole_is : (arrays : List Array) (t : CType) (w a : ℕ) → reach_of arrays t w ≡ Whole a → (is_written_type t ≡ false) × (z : ℤ) × (datum_of t w ≡ pointer a z)
whole_is arrays Void w a e = cc
whole_is arrays (Int t) w a e = cc
whole_is arrays (Ptr to true) w a e = absurd (no_whole (w / 2 ^ 32) (element_at (array_at arrays (w / 2 ^ 32)).length (cast_signed w32 (w % 2 ^ 32))) e)
  where
    no_whole : (b : ℕ) (o : Option ℕ) → reach_element b o ≡ Whole a → ⊥
    no_whole b None h = cc
    no_whole b (Some d) h = cc
whole_is arrays (Ptr to false) w a e = let same : w / 2 ^ 32 ≡ a = cc in (refl, cast_signed w32 (w % 2 ^ 32), ap (λ b. pointer b (cast_signed w32 (w % 2 ^ 32))) same)

whole_from : (arrays : List Array) (t : CType) (w a : ℕ) (z : ℤ) → is_written_type t ≡ false → datum_of t w ≡ pointer a z → reach_of arrays t w ≡ Whole a
whole_from arrays Void w a z read is = cc
whole_from arrays (Int t) w a z read is = cc
whole_from arrays (Ptr to true) w a z read is = cc
whole_from arrays (Ptr to false) w a z read is = ap Whole (ap array_of is)

-- ---- the arguments of a lane

datum_at : (q : ℕ) (ts : List CType) (words : Words) (p j : ℕ) → p < length ts → get_or (data_from q ts words j) p nothing ≡ datum_of (type_at ts p) (words (q + p) j)
datum_at q [] words p j here = absurd (omega arith)
datum_at q (t ∷ ts) words zero j here = let same : q ≡ q + 0 = omega arith in ap (λ r. datum_of t (words r j)) same
datum_at q (t ∷ ts) words (suc p) j here =
    let same : (q + 1) + p ≡ q + suc p = omega arith in
    datum_at (q + 1) ts words p j (omega arith) ∙ ap (λ r. datum_of (type_at ts p) (words r j)) same

no_datum : (q : ℕ) (ts : List CType) (words : Words) (p j : ℕ) → length ts ≤ p → get_or (data_from q ts words j) p nothing ≡ nothing
no_datum q [] words p j past = refl
no_datum q (t ∷ ts) words zero j past = absurd (omega arith)
no_datum q (t ∷ ts) words (suc p) j past = no_datum (q + 1) ts words p j (omega arith)

datum_is : (ts : List CType) (words : Words) (p j : ℕ) → p < length ts → get_or (arguments_of ts words j) p nothing ≡ datum_of (type_at ts p) (words p j)
datum_is ts words p j here = let same : 0 + p ≡ p = omega arith in datum_at 0 ts words p j here ∙ ap (λ r. datum_of (type_at ts p) (words r j)) same

pub names : (ts : List CType) (arrays : List Array) (words : Words) (p j a c : ℕ) → p < length ts → reach ts arrays words p j ≡ Cell a c → NamesCell ts arrays (arguments_of ts words j) a c
names ts arrays words p j a c here e =
    let is = cell_is arrays (type_at ts p) (words p j) a c e in
    let datum = datum_is ts words p j here in record {
      parameter = p;
      below = here;
      written = is.0;
      same_array = ap array_of datum ∙ is.1;
      element = ap (named_element arrays) datum ∙ is.2;
    }

pub named : (ts : List CType) (arrays : List Array) (words : Words) (j a c : ℕ) (n : NamesCell ts arrays (arguments_of ts words j) a c) → reach ts arrays words n.parameter j ≡ Cell a c
named ts arrays words j a c n =
    let datum = datum_is ts words n.parameter j n.below in
    cell_from arrays (type_at ts n.parameter) (words n.parameter j) a c n.written (ap array_of (sym datum) ∙ n.same_array) (ap (named_element arrays) (sym datum) ∙ n.element)

pub reads : (ts : List CType) (arrays : List Array) (words : Words) (p j a : ℕ) → p < length ts → reach ts arrays words p j ≡ Whole a → ReadsArray ts (arguments_of ts words j) a
reads ts arrays words p j a here e = let is = whole_is arrays (type_at ts p) (words p j) a e in record {
  parameter = p;
  read = is.0;
  offset = is.1;
  points = datum_is ts words p j here ∙ is.2;
}

a_pointer_is_there : (a : ℕ) (z : ℤ) → nothing ≡ pointer a z → ⊥
a_pointer_is_there a z e = cc

pub read_below : (ts : List CType) (words : Words) (j a : ℕ) (r : ReadsArray ts (arguments_of ts words j) a) → r.parameter < length ts
read_below ts words j a r = elim (cases_lt r.parameter (length ts)) [
  | inl lt ↦ lt
  | inr ge ↦ absurd (a_pointer_is_there a r.offset (sym (no_datum 0 ts words r.parameter j ge) ∙ r.points))
]

pub read : (ts : List CType) (arrays : List Array) (words : Words) (j a : ℕ) (r : ReadsArray ts (arguments_of ts words j) a) → reach ts arrays words r.parameter j ≡ Whole a
read ts arrays words j a r =
    whole_from arrays (type_at ts r.parameter) (words r.parameter j) a r.offset r.read (sym (datum_is ts words r.parameter j (read_below ts words j a r)) ∙ r.points)

-- ---- two that meet

-- a cell and the same one, or a cell and its array
pub data Meeting : Reach → Reach → Type 0 where
  same_cell : (a c : ℕ) → Meeting (Cell a c) (Cell a c)
  read_by_other : (a c : ℕ) → Meeting (Cell a c) (Whole a)
  read_by_one : (a c : ℕ) → Meeting (Whole a) (Cell a c)

both : (x y : Bool) → (x && y) ≡ true → (x ≡ true) × (y ≡ true)
both true true e = (refl, refl)
both true false e = cc
both false y e = cc

is_eq : (a b : ℕ) → eqb a b ≡ true → a ≡ b
is_eq a b e = grind (arith, nat_tests)

eq_is : (a : ℕ) → eqb a a ≡ true
eq_is a = grind (arith, nat_tests)

pub meeting : (r s : Reach) → meet r s ≡ true → Meeting r s
meeting Nothing s e = cc
meeting (Cell a c) Nothing e = cc
meeting (Cell a c) (Cell b d) e =
    let parts = both (a == b) (c == d) e in
    subst (λ x. Meeting (Cell a c) (Cell x d)) (is_eq a b parts.0) (subst (λ x. Meeting (Cell a c) (Cell a x)) (is_eq c d parts.1) (same_cell a c))
meeting (Cell a c) (Whole b) e = subst (λ x. Meeting (Cell a c) (Whole x)) (is_eq a b e) (read_by_other a c)
meeting (Whole a) Nothing e = cc
meeting (Whole a) (Cell b d) e = subst (λ x. Meeting (Whole a) (Cell x d)) (is_eq a b e) (read_by_one a d)
meeting (Whole a) (Whole b) e = cc

and_of : (x y : Bool) → x ≡ true → y ≡ true → (x && y) ≡ true
and_of true y e f = f
and_of false y e f = cc

pub meet_cells : (a c : ℕ) → meet (Cell a c) (Cell a c) ≡ true
meet_cells a c = and_of (a == a) (c == c) (eq_is a) (eq_is c)

pub meet_other : (a c : ℕ) → meet (Cell a c) (Whole a) ≡ true
meet_other a c = eq_is a

pub meet_one : (a c : ℕ) → meet (Whole a) (Cell a c) ≡ true
meet_one a c = eq_is a
