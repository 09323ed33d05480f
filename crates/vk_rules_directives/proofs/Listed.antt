-- Listed names by what tables say.
use Rattle.std.proofs.Common.{◌≡◌, ℕ, ◌+◌, ◌<◌, Bool, true, false, ◌&&◌, ◌||◌, not, map, List, [], ◌∷◌, ◌++◌, length, take, get_or, Option, Some, None, is_some, is_none, refl, sym, ap, ap₂, ◌∙◌}
use Rattle.std.specs.List.{list_any}
use Rattle.std.specs.Option.{option_map}
use Rattle.vk_kinds.specs.declared.heads.CType.{CType}
use Rattle.vk_ast.specs.declared.names.NameId.{NameId}
use Rattle.vk_ast.specs.declared.items.ParamDecl.{ParamDecl}
use Rattle.vk_ast.specs.Directives.{ClauseTree, DirectiveTree, Says, simdlen, uniform, aligned, linear, inside as inbranch, outside as notinbranch, other}
use Rattle.vk_ast.specs.Units.{FunctionTree}
use Rattle.vk_unit_rules.specs.declared.rules.UnitRule.TheVariants.{D2, D3, D8, D13, D14}
use Rattle.vk_rules_book.specs.declared.faults.Fault.{Fault}
use Rattle.vk_rules_book.specs.declared.lists.Entry.{Entry}
use Rattle.vk_rules_book.specs.Faults.{directive_fault, first_among, when}
use Rattle.vk_rules_book.specs.Noting.{found}
use Rattle.vk_rules_book.specs.Rules.{Subject}
use Rattle.vk_rules_book.specs.Visits.{entries_of, entries_said, entry, entry_visits}
use Rattle.vk_rules_book.specs.declared.lists.Listed.{Listed}
use Rattle.vk_rules_book.specs.declared.lists.Listed.TheVariants as listed
use Rattle.vk_rules_book.specs.Scopes.{same_name}
use Rattle.std.proofs.lemmas.List.Folds.{list_any-append}
use Rattle.vk_ast.specs.declared.directives.PlacedName.{PlacedName}
use Rattle.vk_rules_book.specs.Signatures.{is_in_uniform, is_uniform, lists, param_of}
use Rattle.vk_rules_book.specs.Directives.{all_entry_faults, entry_faults, is_aligned, is_empty, is_listed, is_pointer_param, is_uniform_list, is_written_param}
use Rattle.vk_rules_book.proofs.Noting.{found_append, found_one}
use Rattle.vk_rules_signatures.proofs.Sound.{and_left, and_right, empty_append}
use Rattle.vk_rules_directives.specs.declared.names.NameSet.{NameSet}
use Rattle.vk_rules_directives.specs.Inner.Tables.{AreTypes, Holds, entry_of, has, lists_as, lists_uniform, names_one, nothing, type_at}
use Rattle.vk_rules_directives.specs.Inner.Tests.{entry_faults_by}
use Rattle.vk_rules_directives.proofs.Pushes.{any_push, entry_push, listed_push, taken}

abbrev faults_of_param : Option ParamDecl → (by_shape by_aligned : Bool) → DirectiveTree → Entry → List Fault
faults_of_param p by_shape by_aligned d e =
    when (is_none p) (directive_fault d e.token D2)
    ++ (when (not (is_aligned e.listed) && by_shape) (directive_fault d e.token D3)
    ++ (when (is_aligned e.listed && (is_some p && not (is_pointer_param p))) (directive_fault d e.token D8)
    ++ (when (is_aligned e.listed && by_aligned) (directive_fault d e.token D13)
    ++ when (is_uniform_list e.listed && is_written_param p) (directive_fault d e.token D14))))

by_type : (p : Option ParamDecl) (s a : Bool) (d : DirectiveTree) (e : Entry) → faults_of_param p s a d e ≡ entry_faults_by (option_map (λ (p : ParamDecl). p.ctype) p) s a d e
by_type None s a d e = refl
by_type (Some p) s a d e = refl

by_param : (f : FunctionTree) (d : DirectiveTree) (earlier : List Entry) (e : Entry)
    → entry_faults f d earlier e ≡ faults_of_param (param_of f.params e.name) (is_listed false earlier e.name) (is_listed true earlier e.name) d e
unfolding entry_faults
by_param f d earlier e = refl

-- what a listed name breaks is what the tables tell
pub entry_by : (f : FunctionTree) (d : DirectiveTree) (earlier : List Entry) (e : Entry) (types : List (Option CType)) (shaped aligned : NameSet) → AreTypes types f.params
    → Holds shaped (is_listed false earlier) → Holds aligned (is_listed true earlier)
    → entry_faults f d earlier e ≡ entry_faults_by (type_at types e.name) (has shaped e.name) (has aligned e.name) d e
entry_by f d earlier e types shape align are by_shape by_aligned =
    by_param f d earlier e ∙ by_type (param_of f.params e.name) _ _ d e
    ∙ ap (λ t. entry_faults_by t (is_listed false earlier e.name) (is_listed true earlier e.name) d e) (sym (are e.name))
    ∙ ap₂ (λ (s a : Bool). entry_faults_by (type_at types e.name) s a d e) (sym (by_shape e.name)) (sym (by_aligned e.name))

-- ---- names out of the sets

left : (b n : Bool) → (b ≡ true → n ≡ true) → (b && not n) ≡ false
left true n e = ap not (e refl)
left false n e = refl

-- a set whose names were all taken out
pub cleared : (new old : NameSet) (test : NameId → Bool) (entries : List Entry) → Holds old test → ((id : NameId) → has new id ≡ (has old id && not (names_one entries id)))
    → ((id : NameId) → test id ≡ true → names_one entries id ≡ true) → Holds new nothing
cleared new old test entries holds out named id = out id ∙ ap (λ b. b && not (names_one entries id)) (holds id) ∙ left (test id) (names_one entries id) (named id)

either_so : (a b c d : Bool) → (a ≡ true → c ≡ true) → (b ≡ true → d ≡ true) → (a || b) ≡ true → (c || d) ≡ true
either_so true b c d e f so = ap (λ z. z || d) (e refl)
either_so false b true d e f so = refl
either_so false b false d e f so = f so

any_so : (p q : Entry → Bool) → ((e : Entry) → p e ≡ true → q e ≡ true) → (es : List Entry) → list_any p es ≡ true → list_any q es ≡ true
any_so p q so [] e = e
any_so p q so (x ∷ xs) e = either_so (p x) (list_any p xs) (q x) (list_any q xs) (so x) (any_so p q so xs) e

pub uniform_named : (entries : List Entry) (id : NameId) → lists_uniform entries id ≡ true → names_one entries id ≡ true
uniform_named entries id = any_so _ _ (λ e so. and_right (is_uniform_list e.listed) (same_name e.name id) so) entries

pub listed_named : (by_aligned : Bool) (entries : List Entry) (id : NameId) → is_listed by_aligned entries id ≡ true → names_one entries id ≡ true
listed_named by_aligned entries id = any_so _ _ (λ e so. and_left (same_name e.name id) _ so) entries

-- ---- names that are uniform

in_uniform : (id : NameId) (names : List PlacedName) → lists_uniform (map (entry_of listed.Uniform) names) id ≡ lists id names
in_uniform id [] = refl
in_uniform id (n ∷ ns) = ap (λ b. same_name n.name id || b) (in_uniform id ns)

not_uniform : (id : NameId) (by : Listed) → is_uniform_list by ≡ false → (names : List PlacedName) → lists_uniform (map (entry_of by) names) id ≡ false
not_uniform id by e [] = refl
not_uniform id by e (n ∷ ns) = ap₂ (λ (a b : Bool). (a && same_name n.name id) || b) e (not_uniform id by e ns)

said_uniform : (id : NameId) (s : Says) → lists_uniform (entries_said s) id ≡ is_in_uniform id s
said_uniform id (simdlen e) = refl
said_uniform id (uniform names) = in_uniform id names
said_uniform id (aligned names e) = not_uniform id listed.Aligned refl names
said_uniform id (linear names m e) = not_uniform id listed.Linear refl names
said_uniform id inbranch = refl
said_uniform id notinbranch = refl
said_uniform id other = refl

of_clauses : (id : NameId) (cs : List ClauseTree) → lists_uniform (entries_of cs) id ≡ list_any (λ (c : ClauseTree). is_in_uniform id c.says) cs
of_clauses id [] = refl
of_clauses id (c ∷ cs) =
    list_any-append (λ (e : Entry). is_uniform_list e.listed && same_name e.name id) (entries_said c.says) (entries_of cs)
    ∙ ap₂ (λ (a b : Bool). a || b) (said_uniform id c.says) (of_clauses id cs)

pub uniform_by : (d : DirectiveTree) (id : NameId) → lists_uniform (entries_of d.clauses) id ≡ is_uniform d id
unfolding is_uniform
uniform_by d id = of_clauses id d.clauses

-- ---- one name more

pub listed_more : (by_aligned : Bool) (entries : List Entry) (k : ℕ) (d : Entry) (old new : NameSet) → k < length entries → Holds old (is_listed by_aligned (take k entries))
    → ((id : NameId) → has new id ≡ (has old id || lists_as by_aligned (get_or entries k d) id)) → Holds new (is_listed by_aligned (take (k + 1) entries))
listed_more by_aligned entries k d old new lt holds added id =
    added id ∙ ap (λ b. b || lists_as by_aligned (get_or entries k d) id) (holds id)
    ∙ sym (ap (λ es. is_listed by_aligned es id) (taken entries k d (get_or entries k d) lt refl) ∙ any_push (λ e. lists_as by_aligned e id) (take k entries) (get_or entries k d))

pub entries_noted : (unit : Subject) (f : FunctionTree) (d : DirectiveTree) (entries : List Entry) (k : ℕ) (default : Entry) (faults : List Fault) (old before next : Option Fault)
    → k < length entries → entry_faults f d (take k entries) (get_or entries k default) ≡ faults
    → before ≡ found unit old (entry_visits f d [] (take k entries)) → next ≡ first_among before faults
    → next ≡ found unit old (entry_visits f d [] (take (k + 1) entries))
entries_noted unit f d entries k default faults old before next lt are told noted =
    let e = get_or entries k default in
    noted ∙ ap₂ (λ (o : Option Fault) (xs : List Fault). first_among o xs) told (sym are)
    ∙ sym (ap (λ es. found unit old (entry_visits f d [] es)) (taken entries k default e lt refl)
    ∙ ap (found unit old) (entry_push f d [] (take k entries) e)
    ∙ found_append unit old (entry_visits f d [] (take k entries)) _
    ∙ found_one unit _ (entry f d (take k entries) e))

pub entries_sound : (f : FunctionTree) (d : DirectiveTree) (entries : List Entry) (k : ℕ) (default : Entry) (faults : List Fault) (before : Bool)
    → k < length entries → entry_faults f d (take k entries) (get_or entries k default) ≡ faults
    → before ≡ is_empty (all_entry_faults f d [] (take k entries)) → (before && is_empty faults) ≡ is_empty (all_entry_faults f d [] (take (k + 1) entries))
entries_sound f d entries k default faults before lt are told =
    let e = get_or entries k default in
    ap₂ (λ (b : Bool) (xs : List Fault). b && is_empty xs) told (sym are)
    ∙ sym (ap (λ es. is_empty (all_entry_faults f d [] es)) (taken entries k default e lt refl)
    ∙ ap is_empty (listed_push f d [] (take k entries) e)
    ∙ empty_append (all_entry_faults f d [] (take k entries)) _)
