-- A variant by its name.
use Rattle.std.proofs.Common.{◌≡◌, ℕ, Bool, true, List, Contains, Option, Some, None, IsNone, ap, sym, subst}
use Rattle.std.proofs.lemmas.Slice.Eq.{bytes_eq-Decides}
use Rattle.vk_kinds.specs.declared.kinds.Isa.{Isa}
use Rattle.vk_kinds.specs.declared.kinds.Length.{Length}
use Rattle.vk_kinds.specs.declared.kinds.Param.{Param}
use Rattle.vk_kinds.specs.Lengths.{lanes_at, lengths}
use Rattle.vk_kinds.specs.Sizes.{wds}
use Rattle.vk_kinds.specs.declared.kinds.Isa.TheVariants.{S}
use Rattle.vk_kinds.specs.declared.kinds.Len.{Len}
use Rattle.vk_kinds.specs.declared.kinds.Len.TheVariants.{Fixed, Scalable}
use Rattle.vk_names.specs.Spelling.{IsFront, IsLen, Name, Spells, text_of as word_of}
use Rattle.vk_variants.specs.Directives.{name_with}
use Rattle.vk_rules_book.specs.Scopes.{text_of}
use Rattle.vk_rules_book.specs.Signatures.{head_of}
use Rattle.vk_rules_book.specs.Rules.{Subject}
use Rattle.vk_selection.specs.Inner.{IsFound, IsPart, IsScalarOf, IsVectorOf}
use Rattle.vk_selection.specs.Letters.{uses}
use Rattle.vk_selection.specs.Selection.{IsSelected, IsVector, is_defined}
use Rattle.vk_selection.specs.declared.selection.Variant.{Variant}
use Rattle.vk_selection.specs.declared.selection.Selected.{Selected}
use Rattle.vk_selection.specs.declared.selection.Selected.TheVariants.{Vector, Scalar}

abbrev pub parts : List ℕ → List Param → Length → Name
parts scalar params front = record { front = front; params = params; scalar = scalar }

to_vector : (unit : Subject) (image : Isa) (vl : ℕ) (text scalar : List ℕ) (params : List Param) (front : Length) (v : Variant) (lanes : ℕ) → Spells (parts scalar params front) text →
    word_of text ≡ text → uses image front.isa ≡ true → IsPart unit scalar params front vl v lanes → IsVector unit image vl text v lanes
to_vector unit image vl text scalar params front v lanes spells whole used p =
    let name : text_of unit.texts p.tree.name ≡ scalar = (bytes_eq-Decides (text_of unit.texts p.tree.name) scalar).0 p.given.name in
    let s = p.given.signature in
    let first : Spells (name_with (text_of unit.texts p.tree.name) params front) text = subst (λ n. Spells (name_with n params front) text) (sym name) spells in
    let second : Spells (name_with (text_of unit.texts p.tree.name) s.params front) text = subst (λ ps. Spells (name_with (text_of unit.texts p.tree.name) ps front) text) (sym p.given.gives.same) first in
    record {
      named = record {
        tree = p.tree;
        signature = s;
        function_is = p.function_is;
        directive_is = p.given.directive_is;
        given = subst (Contains (lengths unit.target (head_of p.tree) s)) (sym p.front_is) p.given.gives.given;
        spelled = subst (λ f. Spells (name_with (text_of unit.texts p.tree.name) s.params f) text) (sym p.front_is) second;
        whole = whole;
        defined = subst (λ n. is_defined unit.texts unit.items n ≡ true) (sym name) p.defined;
      };
      used = subst (λ (f : Length). uses image f.isa ≡ true) (sym p.front_is) used;
      lanes_are = subst (λ (f : Length). lanes_at f.isa f.len (wds (head_of p.tree) s) vl ≡ Some lanes) (sym p.front_is) p.given.gives.lanes_are;
    }

from_vector : (unit : Subject) (image : Isa) (vl : ℕ) (text scalar : List ℕ) (params : List Param) (front : Length) (v : Variant) (lanes : ℕ) →
    ((n : Name) → Spells n text → parts scalar params front ≡ n) → IsVector unit image vl text v lanes → IsPart unit scalar params front vl v lanes
from_vector unit image vl text scalar params front v lanes every is =
    let n = is.named in
    let same = every (name_with (text_of unit.texts n.tree.name) n.signature.params v.front) n.spelled in
    let name : scalar ≡ text_of unit.texts n.tree.name = ap (λ (m : Name). m.scalar) same in
    let front_is : front ≡ v.front = ap (λ (m : Name). m.front) same in
    record {
      tree = n.tree;
      function_is = n.function_is;
      defined = subst (λ m. is_defined unit.texts unit.items m ≡ true) (sym name) n.defined;
      front_is = sym front_is;
      given = record {
        name = (bytes_eq-Decides (text_of unit.texts n.tree.name) scalar).1 (sym name);
        signature = n.signature;
        directive_is = n.directive_is;
        gives = record {
          same = sym (ap (λ (m : Name). m.params) same);
          given = subst (Contains (lengths unit.target (head_of n.tree) n.signature)) (sym front_is) n.given;
          lanes_are = subst (λ (f : Length). lanes_at f.isa f.len (wds (head_of n.tree) n.signature) vl ≡ Some lanes) (sym front_is) is.lanes_are;
        };
      };
    }

pub vector_found : (unit : Subject) (image : Isa) (vl : ℕ) (text scalar : List ℕ) (params : List Param) (front : Length) (r : Option (Variant × ℕ)) → Spells (parts scalar params front) text →
    word_of text ≡ text → uses image front.isa ≡ true → ((n : Name) → Spells n text → parts scalar params front ≡ n) → IsFound unit scalar params front vl r → IsVectorOf unit image vl text r
vector_found unit image vl text scalar params front None spells whole used every found = λ v lanes is. found v lanes (from_vector unit image vl text scalar params front v lanes every is)
vector_found unit image vl text scalar params front (Some (v, lanes)) spells whole used every found = to_vector unit image vl text scalar params front v lanes spells whole used found

-- where neither is selected, nothing is
pub none_selected : (unit : Subject) (image : Isa) (vl : ℕ) (text : List ℕ) (r : Option Selected) → IsNone r → IsScalarOf unit text r → ((v : Variant) (lanes : ℕ) → IsVector unit image vl text v lanes → ⊥) →
    (selected : Selected) → IsSelected unit image vl text selected → ⊥
none_selected unit image vl text (Some x) none scalar never selected is = cc
none_selected unit image vl text None none scalar never (Vector v lanes) is = never v lanes is
none_selected unit image vl text None none scalar never (Scalar n) is = scalar n is.0

-- a scalable length is of SVE
scalable_len : (isa : Isa) (masked : Bool) (len : Len) → IsLen isa masked len → len ≡ Scalable → isa ≡ S
scalable_len isa masked (Fixed n) h e = cc
scalable_len isa masked Scalable h e = h.0

pub scalable_front : (front : Length) → IsFront front → front.len ≡ Scalable → front.isa ≡ S
unfolding IsFront
scalable_front front h e = scalable_len front.isa front.masked front.len h e
