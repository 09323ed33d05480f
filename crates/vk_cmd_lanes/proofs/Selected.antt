-- What a name selects in a unit of one function.
use Rattle.std.proofs.Common.{◌≡◌, ◌∙◌, ℕ, zero, suc, ◌<◌, ◌≤◌, ◌||◌, Bool, true, false, List, [], ◌∷◌, ◌++◌, cond, length, Option, Some, is_some, slice_get, sym, ap, subst, arith}
use Rattle.std.proofs.lemmas.Option.{slice_get_within}
use Rattle.std.proofs.lemmas.List.{length-map}
use Rattle.std.specs.Option.{option_map_or}
use Rattle.vk_kinds.specs.declared.kinds.Isa.{Isa}
use Rattle.vk_kinds.specs.declared.kinds.Isa.TheVariants.{S}
use Rattle.vk_kinds.specs.declared.kinds.Param.{Param}
use Rattle.vk_kinds.specs.Lengths.{lanes_at}
use Rattle.vk_kinds.specs.Sizes.{HeadTypes, SignatureTree, greatest_of, lane_sizes, result_sizes, wds}
use Rattle.vk_names.specs.Spelling.{Name}
use Rattle.vk_names.proofs.Exact.{one_name}
use Rattle.vk_ast.specs.Units.{FunctionTree, ItemTree, function}
use Rattle.vk_rules_book.specs.Directives.{signatures}
use Rattle.vk_rules_book.specs.Rules.{Subject}
use Rattle.vk_rules_book.specs.Scopes.{first_declaration, is_print, text_of, types_of}
use Rattle.vk_rules_book.specs.Signatures.{head_of, signature_of}
use Rattle.vk_rules.specs.Functions.{directives_at, functions_from, functions_of}
use Rattle.vk_variants.specs.Directives.{name_with}
use Rattle.vk_selection.specs.Selection.{IsNamed, IsSelected, IsVector}
use Rattle.vk_selection.specs.declared.selection.Selected.{Selected}
use Rattle.vk_selection.specs.declared.selection.Selected.TheVariants.{Vector, Scalar}
use Rattle.vk_selection.specs.declared.selection.Variant.{Variant}
use Rattle.vk_selection.proofs.Fits.{vector_few, vector_some}
use Rattle.vk_arguments.specs.Arguments.{Called, kinds_of}
use Rattle.vk_cmd_lanes.specs.Inner.{IsListed, function_in}
use Rattle.vk_cmd_lanes.specs.Lanes.{Asked, IsCalledAs, IsCallee}

-- ---- the function

at_most : (b : Bool) (f g : FunctionTree) (n : ℕ) → slice_get (cond b [] (f ∷ []) ++ []) n ≡ Some g → g ≡ f
at_most true f g n e = cc
at_most false f g zero e = cc
at_most false f g (suc n) e = cc

alone_in : (texts : List (List ℕ)) (f g : FunctionTree) (n : ℕ) → slice_get (functions_from texts [] (function f ∷ [])) n ≡ Some g → g ≡ f
unfolding functions_from
alone_in texts f g n e = at_most (is_some (first_declaration [] f.name) || is_print texts f.name) f g n e

pub is_the_one : (unit : Subject) (f g : FunctionTree) (n : ℕ) → unit.items ≡ function f ∷ [] → slice_get (functions_of unit) n ≡ Some g → g ≡ f
is_the_one unit f g n one e = alone_in unit.texts f g n (subst (λ (is : List ItemTree). slice_get (functions_from unit.texts [] is) n ≡ Some g) one e)

directives_count : (unit : Subject) (n : ℕ) (g : FunctionTree) → slice_get (functions_of unit) n ≡ Some g → directives_at unit n ≡ length (signatures g)
directives_count unit n g at =
    ap (λ (o : Option FunctionTree). option_map_or (λ (h : FunctionTree). length h.directives) o 0) at ∙ sym (length-map g.directives (signature_of g))

pub listed : (unit : Subject) (image : Isa) (vl : ℕ) (text : List ℕ) (s : Selected) → IsSelected unit image vl text s → IsListed unit s
listed unit image vl text (Vector v lanes) h = let n = h.named in (
  slice_get_within (functions_of unit) v.function n.tree n.function_is,
  subst (λ k. v.directive < k) (sym (directives_count unit v.function n.tree n.function_is)) (slice_get_within (signatures n.tree) v.directive n.signature n.directive_is),
)
listed unit image vl text (Scalar number) h = slice_get_within (functions_of unit) number h.0.tree h.0.function_is

pub selected_at : (unit : Subject) (f : FunctionTree) (image : Isa) (vl : ℕ) (text : List ℕ) (s : Selected) → unit.items ≡ function f ∷ [] → IsSelected unit image vl text s →
    slice_get (functions_of unit) (function_in s) ≡ Some f
selected_at unit f image vl text (Vector v lanes) one h = let n = h.named in n.function_is ∙ ap Some (is_the_one unit f n.tree v.function one n.function_is)
selected_at unit f image vl text (Scalar number) one h = h.0.function_is ∙ ap Some (is_the_one unit f h.0.tree number one h.0.function_is)

-- ---- one callee

wds_same : (h : HeadTypes) (s s' : SignatureTree) → s.params ≡ s'.params → wds h s ≡ wds h s'
unfolding wds
wds_same h s s' e = ap (λ (ps : List Param). greatest_of (lane_sizes h.params ps ++ result_sizes h.result)) e

some_same : {A : Type 0} (o : Option A) (x y : A) → o ≡ Some x → o ≡ Some y → x ≡ y
some_same o x y p q = cc

-- the signature of a variant of the function
signature_at : (unit : Subject) (f : FunctionTree) (text : List ℕ) (v : Variant) (s : SignatureTree) → unit.items ≡ function f ∷ [] → (n : IsNamed unit text v) →
    slice_get (signatures f) v.directive ≡ Some s → n.signature ≡ s
signature_at unit f text v s one n e = some_same (slice_get (signatures f) v.directive) n.signature s
    (subst (λ (g : FunctionTree). slice_get (signatures g) v.directive ≡ Some n.signature) (is_the_one unit f n.tree v.function one n.function_is) n.directive_is) e

names_same : (unit : Subject) (text : List ℕ) (v v' : Variant) (n : IsNamed unit text v) (n' : IsNamed unit text v') →
    name_with (text_of unit.texts n.tree.name) n.signature.params v.front ≡ name_with (text_of unit.texts n'.tree.name) n'.signature.params v'.front
names_same unit text v v' n n' = one_name text _ _ n.spelled n'.spelled

lanes_same : (unit : Subject) (f : FunctionTree) (image : Isa) (vl : ℕ) (text : List ℕ) (v v' : Variant) (lanes lanes' : ℕ) → unit.items ≡ function f ∷ [] →
    IsVector unit image vl text v lanes → IsVector unit image vl text v' lanes' → lanes ≡ lanes'
lanes_same unit f image vl text v v' lanes lanes' one h h' =
    let n = h.named in let n' = h'.named in
    let same = names_same unit text v v' n n' in
    let widths : wds (head_of n.tree) n.signature ≡ wds (head_of n'.tree) n'.signature =
    ap (λ (g : FunctionTree). wds (head_of g) n.signature) (is_the_one unit f n.tree v.function one n.function_is ∙ sym (is_the_one unit f n'.tree v'.function one n'.function_is))
    ∙ wds_same (head_of n'.tree) n.signature n'.signature (ap (λ (x : Name). x.params) same) in
    some_same (lanes_at v.front.isa v.front.len (wds (head_of n.tree) n.signature) vl) lanes lanes' h.lanes_are
    (ap (λ (x : Name). lanes_at x.front.isa x.front.len (wds (head_of n.tree) n.signature) vl) same
    ∙ ap (λ k. lanes_at v'.front.isa v'.front.len k vl) widths ∙ h'.lanes_are)

variant_once : (unit : Subject) (f : FunctionTree) (image : Isa) (vl : ℕ) (text : List ℕ) (v v' : Variant) (lanes lanes' : ℕ) (c c' : Called) → unit.items ≡ function f ∷ [] →
    IsVector unit image vl text v lanes → IsVector unit image vl text v' lanes' → IsCalledAs f (Vector v lanes) c → IsCalledAs f (Vector v' lanes') c' → c ≡ c'
variant_once unit f image vl text v v' lanes lanes' c c' one h h' is is' =
    let n = h.named in let n' = h'.named in
    let same = names_same unit text v v' n n' in
    let params : is.0.params ≡ is'.0.params =
    ap (λ (s : SignatureTree). s.params) (sym (signature_at unit f text v is.0 one n is.1)) ∙ ap (λ (x : Name). x.params) same
    ∙ ap (λ (s : SignatureTree). s.params) (signature_at unit f text v' is'.0 one n' is'.1) in
    let few = lanes_same unit f image vl text v v' lanes lanes' one h h' in
    let masks : v.front.masked ≡ v'.front.masked = ap (λ (x : Name). x.front.masked) same in
    is.2 ∙ (λ i. record { types = types_of f.params; kinds = kinds_of (params i); lanes = few i; takes_mask = masks i }) ∙ sym is'.2

called_once : (unit : Subject) (f : FunctionTree) (image : Isa) (text : List ℕ) (s s' : Selected) (c c' : Called) → unit.items ≡ function f ∷ [] →
    IsSelected unit image 0 text s → IsSelected unit image 0 text s' → IsCalledAs f s c → IsCalledAs f s' c' → c ≡ c'
called_once unit f image text (Vector v lanes) (Vector v' lanes') c c' one h h' is is' = variant_once unit f image 0 text v v' lanes lanes' c c' one h h' is is'
called_once unit f image text (Vector v lanes) (Scalar n) c c' one h h' is is' = absurd (h'.1 v lanes h)
called_once unit f image text (Scalar n) (Vector v lanes) c c' one h h' is is' = absurd (h.1 v lanes h')
called_once unit f image text (Scalar n) (Scalar m) c c' one h h' is is' = is ∙ sym is'

-- how many lanes there are
pub lanes_some : (unit : Subject) (f : FunctionTree) (image : Isa) (text : List ℕ) (s : Selected) (c : Called) → (image ≡ S → ⊥) → IsSelected unit image 0 text s → IsCalledAs f s c → 0 < c.lanes
lanes_some unit f image text (Vector v lanes) c other h is = subst (λ (n : ℕ). 0 < n) (ap (λ (x : Called). x.lanes) (sym is.2)) (vector_some unit image 0 text v lanes other h)
lanes_some unit f image text (Scalar n) c other h is = subst (λ (k : ℕ). 0 < k) (ap (λ (x : Called). x.lanes) (sym is)) (omega arith)

pub lanes_few : (unit : Subject) (f : FunctionTree) (image : Isa) (text : List ℕ) (s : Selected) (c : Called) → (image ≡ S → ⊥) → IsSelected unit image 0 text s → IsCalledAs f s c → c.lanes ≤ 256
lanes_few unit f image text (Vector v lanes) c other h is = subst (λ (n : ℕ). n ≤ 256) (ap (λ (x : Called). x.lanes) (sym is.2)) (vector_few unit image 0 text v lanes other h)
lanes_few unit f image text (Scalar n) c other h is = subst (λ (k : ℕ). k ≤ 256) (ap (λ (x : Called). x.lanes) (sym is)) (omega arith)

pub callee_once : (unit : Subject) (f : FunctionTree) (r : Asked) (c c' : Called) → unit.items ≡ function f ∷ [] → IsCallee unit f r c → IsCallee unit f r c' → c ≡ c'
callee_once unit f r c c' one h h' = called_once unit f r.isa r.name h.selected h'.selected c c' one h.selects h'.selects h.called h'.called
