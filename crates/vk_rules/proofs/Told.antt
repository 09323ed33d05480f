-- What the entries tell of functions.
use Rattle.std.proofs.Common.{◌≡◌, ℕ, zero, suc, ◌<◌, length, get_or, List, [], ◌∷◌, Option, Some, None, IsSomeAnd, slice_get, refl, sym, ap, subst, ◌∙◌, arith}
use Rattle.std.specs.Option.{option_map, option_map_or}
use Rattle.std.proofs.lemmas.List.{length-map}
use Rattle.std.proofs.lemmas.Option.{slice_get-map, slice_get_read}
use Rattle.vk_kinds.specs.declared.kinds.Signature.{Signature}
use Rattle.vk_kinds.specs.Sizes.{head_types, signature_tree}
use Rattle.vk_ast.specs.Units.{FunctionTree}
use Rattle.vk_rules_book.specs.Directives.{signatures}
use Rattle.vk_rules_book.specs.Scopes.{text_of}
use Rattle.vk_rules_book.specs.Signatures.{head_of, signature_of}
use Rattle.vk_rules.specs.declared.accepted.Source.{Source}
use Rattle.vk_rules.specs.declared.entries.Entry.{Entry}
use Rattle.vk_rules.specs.Entries.{AreEntries, IsEntry}
use Rattle.vk_rules.specs.Functions.{functions_of}
use Rattle.vk_rules.specs.Verdicts.{judged}
use Rattle.vk_rules.proofs.Listed.{same_count}

some_as : (o : Option FunctionTree) (P Q : FunctionTree → Type 0) → ((f : FunctionTree) → P f → Q f) → IsSomeAnd o P → IsSomeAnd o Q
some_as None P Q h p = p
some_as (Some f) P Q h p = h f p

entry_is : (fs : List FunctionTree) (es : List Entry) (k : ℕ) (e : Entry) → AreEntries fs es → k < length es → e ≡ get_or es k e → IsSomeAnd (slice_get fs k) (λ g. IsEntry g e)
entry_is [] [] k e are lt is = absurd (omega arith)
entry_is [] (y ∷ es) k e are lt is = absurd are
entry_is (x ∷ fs) [] k e are lt is = absurd are
entry_is (x ∷ fs) (y ∷ es) zero e are lt is = subst (IsEntry x) (sym is) are.0
entry_is (x ∷ fs) (y ∷ es) (suc k) e are lt is = entry_is fs es k e are.1 (omega (arith, lt)) is

pub functions_count : (s t : Source) (es : List Entry) → s ≡ t → AreEntries (functions_of (judged s)) es → length es ≡ length (functions_of (judged t))
functions_count s t es same are = same_count (functions_of (judged s)) es are ∙ ap (λ (u : Source). length (functions_of (judged u))) same

pub entry_told : (s t : Source) (es : List Entry) (k : ℕ) (e : Entry) → s ≡ t → AreEntries (functions_of (judged s)) es → k < length (functions_of (judged t)) → e ≡ get_or es k e
    → IsSomeAnd (slice_get (functions_of (judged t)) k) (λ g. IsEntry g e)
entry_told s t es k e same are lt is =
    let count = functions_count s t es same are in
    let within : k < length es = omega (arith, lt, count) in
    subst (λ (u : Source). IsSomeAnd (slice_get (functions_of (judged u)) k) (λ g. IsEntry g e)) same (entry_is (functions_of (judged s)) es k e are within is)

-- ---- what an entry says

pub head_told : (o : Option FunctionTree) (e : Entry) → IsSomeAnd o (λ g. IsEntry g e) → IsSomeAnd o (λ g. head_types e.head ≡ head_of g)
head_told o e h = some_as o (λ g. IsEntry g e) (λ g. head_types e.head ≡ head_of g) (λ g is. is.head) h

pub name_told : (o : Option FunctionTree) (e : Entry) (texts : List (List ℕ)) (text : List ℕ) → text ≡ text_of texts e.name → IsSomeAnd o (λ g. IsEntry g e) → IsSomeAnd o (λ g. text ≡ text_of texts g.name)
name_told o e texts text read h = some_as o (λ g. IsEntry g e) (λ g. text ≡ text_of texts g.name) (λ g is. read ∙ ap (text_of texts) is.name) h

one_each : (g : FunctionTree) (e : Entry) → IsEntry g e → length e.signatures.items ≡ length g.directives
one_each g e is =
    sym (length-map e.signatures.items signature_tree) ∙ ap length is.signatures_are ∙ length-map g.directives (signature_of g)

pub count_told : (o : Option FunctionTree) (e : Entry) → IsSomeAnd o (λ g. IsEntry g e) → length e.signatures.items ≡ option_map_or (λ (g : FunctionTree). length g.directives) o 0
count_told None e h = absurd h
count_told (Some g) e h = one_each g e h

read_signature : (g : FunctionTree) (e : Entry) (d : ℕ) (s : Signature) → IsEntry g e → d < length e.signatures.items → s ≡ get_or e.signatures.items d s → slice_get (signatures g) d ≡ Some (signature_tree s)
read_signature g e d s is lt read =
    ap (λ ss. slice_get ss d) (sym is.signatures_are) ∙ slice_get-map signature_tree e.signatures.items d
    ∙ ap (option_map signature_tree) (slice_get_read e.signatures.items (length e.signatures.items) d s refl lt read)

pub signature_told : (o : Option FunctionTree) (e : Entry) (d : ℕ) (s : Signature) → IsSomeAnd o (λ g. IsEntry g e) → d < option_map_or (λ (g : FunctionTree). length g.directives) o 0
    → s ≡ get_or e.signatures.items d s → IsSomeAnd o (λ g. slice_get (signatures g) d ≡ Some (signature_tree s))
signature_told o e d s h lt read =
    let count = count_told o e h in
    let within : d < length e.signatures.items = omega (arith, lt, count) in
    some_as o (λ g. IsEntry g e) (λ g. slice_get (signatures g) d ≡ Some (signature_tree s)) (λ g is. read_signature g e d s is within read) h
