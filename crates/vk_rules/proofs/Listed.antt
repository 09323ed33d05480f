-- The entries of functions, one item after another.
use Rattle.std.proofs.Common.{◌≡◌, ℕ, zero, suc, ◌+◌, ◌<◌, Bool, true, false, cond, length, map, take, get_or, List, [], ◌∷◌, ◌++◌, Option, Some, is_some, slice_get, refl, sym, ap, ap₂, subst, ◌∙◌, arith}
use Rattle.std.specs.List.{list_all, position_from}
use Rattle.std.proofs.lemmas.List.{append-nil, append_assoc, map-append, take_more}
use Rattle.vk_kinds.specs.declared.kinds.Signature.{Signature}
use Rattle.vk_kinds.specs.Sizes.{SignatureTree, signature_tree}
use Rattle.vk_ast.specs.declared.directives.Directive.{Directive}
use Rattle.vk_ast.specs.declared.names.NameId.{NameId}
use Rattle.vk_ast.specs.declared.items.Item.{Item}
use Rattle.vk_ast.specs.Directives.{DirectiveTree, directive_of}
use Rattle.vk_ast.specs.Units.{FunctionTree, ItemTree, item_of}
use Rattle.vk_rules_book.specs.Scopes.{declares, first_declaration}
use Rattle.vk_rules_names.specs.Seen.{AreFirst, number_at}
use Rattle.vk_rules_names.proofs.Tables.{grown}
use Rattle.vk_rules.specs.declared.entries.Entry.{Entry}
use Rattle.vk_rules.specs.Entries.{AreEntries, IsEntry}
use Rattle.vk_rules.specs.Functions.{function_at, functions_from}
use Rattle.vk_rules.specs.Inner.Walk.{Knows}
use Rattle.vk_rules.proofs.Tests.{both_left, both_right}

pub functions_none : (texts : List (List ℕ)) (before : List ItemTree) → functions_from texts before [] ≡ []
unfolding functions_from
functions_none texts before = refl

pub functions_cons : (texts : List (List ℕ)) (before : List ItemTree) (i : ItemTree) (is : List ItemTree)
    → functions_from texts before (i ∷ is) ≡ function_at texts before i ++ functions_from texts (before ++ i ∷ []) is
unfolding functions_from
functions_cons texts before i is = refl

functions_push : (texts : List (List ℕ)) (before xs : List ItemTree) (x : ItemTree)
    → functions_from texts before (xs ++ x ∷ []) ≡ functions_from texts before xs ++ function_at texts (before ++ xs) x
functions_push texts before [] x =
    functions_cons texts before x [] ∙ ap (λ fs. function_at texts before x ++ fs) (functions_none texts (before ++ x ∷ [])) ∙ append-nil (function_at texts before x)
    ∙ ap (λ zs. function_at texts zs x) (sym (append-nil before))
    ∙ sym (ap (λ fs. fs ++ function_at texts (before ++ []) x) (functions_none texts before))
functions_push texts before (y ∷ xs) x =
    functions_cons texts before y (xs ++ x ∷ [])
    ∙ ap (λ fs. function_at texts before y ++ fs) (functions_push texts (before ++ y ∷ []) xs x)
    ∙ sym (append_assoc (function_at texts before y) (functions_from texts (before ++ y ∷ []) xs) _)
    ∙ ap (λ fs. fs ++ function_at texts ((before ++ y ∷ []) ++ xs) x) (sym (functions_cons texts before y xs))
    ∙ ap (λ zs. functions_from texts before (y ∷ xs) ++ function_at texts zs x) (append_assoc before (y ∷ []) xs)

-- one entry more
pub entries_push : (fs : List FunctionTree) (es : List Entry) (f : FunctionTree) (e : Entry) → AreEntries fs es → IsEntry f e → AreEntries (fs ++ f ∷ []) (es ++ e ∷ [])
entries_push [] [] f e are is = (is, tt)
entries_push [] (y ∷ es) f e are is = absurd are
entries_push (x ∷ fs) [] f e are is = absurd are
entries_push (x ∷ fs) (y ∷ es) f e are is = (are.0, entries_push fs es f e are.1 is)

-- an item that adds none
pub entries_same : (fs gs : List FunctionTree) (es : List Entry) → gs ≡ [] → AreEntries fs es → AreEntries (fs ++ gs) es
entries_same fs gs es none are = subst (λ xs. AreEntries xs es) (sym (ap (λ ys. fs ++ ys) none ∙ append-nil fs)) are

-- ---- which names are known

pick_some : (b : Bool) (i : ℕ) (x : ItemTree) (p : Option ℕ) (q : Option ItemTree) → is_some p ≡ is_some q → is_some (cond b (Some i) p) ≡ is_some (cond b (Some x) q)
pick_some true i x p q e = refl
pick_some false i x p q e = e

position_known : (id : NameId) (i : ℕ) (xs : List ItemTree) → is_some (position_from (declares id) i xs) ≡ is_some (first_declaration xs id)
unfolding first_declaration
position_known id i [] = refl
position_known id i (x ∷ xs) = pick_some (declares id x) i x (position_from (declares id) (i + 1) xs) (first_declaration xs id) (position_known id (i + 1) xs)

pub knows : (items : List Item) (first seen : List (Option ℕ)) (count : ℕ) → seen ≡ first → AreFirst items first count → Knows seen (map item_of (take count items))
knows items first seen count same are id =
    ap (λ (f : List (Option ℕ)). is_some (number_at f id)) same ∙ ap is_some (are id) ∙ position_known id 0 (map item_of (take count items))

-- ---- one item more

pub none_yet : (texts : List (List ℕ)) → AreEntries (functions_from texts [] []) []
none_yet texts = subst (λ fs. AreEntries fs []) (sym (functions_none texts [])) tt

pub one_more : (texts : List (List ℕ)) (items : List Item) (k : ℕ) (x : Item) (es : List Entry) → k < length items → x ≡ get_or items k x
    → AreEntries (functions_from texts [] (map item_of (take k items)) ++ function_at texts (map item_of (take k items)) (item_of x)) es
    → AreEntries (functions_from texts [] (map item_of (take (k + 1) items))) es
one_more texts items k x es lt is are =
    subst (λ fs. AreEntries fs es) (sym (ap (functions_from texts []) (grown items k x lt is) ∙ functions_push texts [] (map item_of (take k items)) (item_of x))) are

-- ---- one entry of all

pub entry_at : (fs : List FunctionTree) (es : List Entry) (k : ℕ) (e : Entry) → AreEntries fs es → slice_get es k ≡ Some e → (f : FunctionTree) × (slice_get fs k ≡ Some f) × IsEntry f e
entry_at [] [] k e are at = cc
entry_at [] (y ∷ es) k e are at = absurd are
entry_at (x ∷ fs) [] k e are at = absurd are
entry_at (x ∷ fs) (y ∷ es) zero e are at = let same : y ≡ e = cc in (x, refl, subst (IsEntry x) same are.0)
entry_at (x ∷ fs) (y ∷ es) (suc k) e are at = entry_at fs es k e are.1 at

pub same_count : (fs : List FunctionTree) (es : List Entry) → AreEntries fs es → length es ≡ length fs
same_count [] [] are = refl
same_count [] (y ∷ es) are = absurd are
same_count (x ∷ fs) [] are = absurd are
same_count (x ∷ fs) (y ∷ es) are = ap suc (same_count fs es are.1)

-- ---- signatures, one directive after another

signature_at : (p : DirectiveTree → Bool) (ds : List Directive) (k : ℕ) (x : Directive) → list_all p (map directive_of ds) ≡ true → k < length ds → x ≡ get_or ds k x → p (directive_of x) ≡ true
signature_at p [] k x all lt is = absurd (omega arith)
signature_at p (d ∷ ds) zero x all lt is = let here = both_left (p (directive_of d)) (list_all p (map directive_of ds)) all in ap (λ y. p (directive_of y)) is ∙ here
signature_at p (d ∷ ds) (suc k) x all lt is = signature_at p ds k x (both_right (p (directive_of d)) (list_all p (map directive_of ds)) all) (omega (arith, lt)) is

pub has_signature_at : (p : DirectiveTree → Bool) (ds own : List Directive) (k : ℕ) (x : Directive) → ds ≡ own → list_all p (map directive_of own) ≡ true → k < length ds → x ≡ get_or ds k x → p (directive_of x) ≡ true
has_signature_at p ds own k x same all lt is = signature_at p ds k x (ap (λ xs. list_all p (map directive_of xs)) same ∙ all) lt is

signed_next : (h : DirectiveTree → SignatureTree) (ds : List Directive) (k : ℕ) (x : Directive) (old new : List Signature) (s : Signature) → k < length ds → x ≡ get_or ds k x
    → map signature_tree old ≡ map h (map directive_of (take k ds)) → signature_tree s ≡ h (directive_of x) → new ≡ old ++ s ∷ []
    → map signature_tree new ≡ map h (map directive_of (take (k + 1) ds))
signed_next h ds k x old new s lt is before says more =
    ap (map signature_tree) more ∙ map-append signature_tree old (s ∷ [])
    ∙ ap₂ (λ (xs ys : List SignatureTree). xs ++ ys) before (ap (λ t. t ∷ []) says)
    ∙ sym (ap (λ xs. map h (map directive_of xs)) (take_more ds k x lt ∙ ap (λ y. take k ds ++ y ∷ []) (sym is))
    ∙ ap (map h) (map-append directive_of (take k ds) (x ∷ []))
    ∙ map-append h (map directive_of (take k ds)) (directive_of x ∷ []))

pub signed_more : (h : DirectiveTree → SignatureTree) (ds own : List Directive) (k : ℕ) (x : Directive) (old new : List Signature) (s : Signature) → ds ≡ own → k < length ds → x ≡ get_or ds k x
    → map signature_tree old ≡ map h (map directive_of (take k own)) → signature_tree s ≡ h (directive_of x) → new ≡ old ++ s ∷ []
    → map signature_tree new ≡ map h (map directive_of (take (k + 1) own))
signed_more h ds own k x old new s same lt is before says more =
    signed_next h ds k x old new s lt is (before ∙ ap (λ xs. map h (map directive_of (take k xs))) (sym same)) says more
    ∙ ap (λ xs. map h (map directive_of (take (k + 1) xs))) same

-- ---- functions

-- a function that is not known yet
pub added : (fs : List FunctionTree) (old new : List Entry) (f : FunctionTree) (e : Entry) (known : Bool) → known ≡ false → AreEntries fs old → IsEntry f e → new ≡ old ++ e ∷ []
    → AreEntries (fs ++ cond known [] (f ∷ [])) new
added fs old new f e true k are is more = cc
added fs old new f e false k are is more = subst (AreEntries (fs ++ f ∷ [])) (sym more) (entries_push fs old f e are is)

-- an item that is no function
pub nothing_added : (texts : List (List ℕ)) (before : List ItemTree) (i j : ItemTree) (fs : List FunctionTree) (es : List Entry) → i ≡ j → function_at texts before j ≡ [] → AreEntries fs es
    → AreEntries (fs ++ function_at texts before i) es
nothing_added texts before i j fs es same none are = entries_same fs (function_at texts before i) es (ap (function_at texts before) same ∙ none) are
