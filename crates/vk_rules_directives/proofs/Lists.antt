-- Directives one after another, and functions one after another.
use Rattle.std.proofs.Common.{◌≡◌, ◌≢◌, ℕ, zero, suc, ◌+◌, ◌<◌, ◌≤◌, Bool, true, false, ◌&&◌, List, [], ◌∷◌, ◌++◌, map, length, take, drop, get_or, slice_get, Option, Some, None, is_some, refl, sym, subst, ap, ap₂, ◌∙◌, arith}
use Rattle.std.specs.List.{list_all}
use Rattle.std.proofs.lemmas.List.{drop_more, drop_all, take_all, length-take-le}
use Rattle.vk_kinds.specs.declared.kinds.Signature.{Signature}
use Rattle.vk_kinds.specs.Sizes.{SignatureTree}
use Rattle.vk_ast.specs.declared.directives.Directive.{Directive}
use Rattle.vk_ast.specs.declared.items.Item.{Item}
use Rattle.vk_ast.specs.declared.names.NameId.{NameId}
use Rattle.vk_ast.specs.Directives.{DirectiveTree, directive_of}
use Rattle.vk_ast.specs.Units.{FunctionTree, ItemTree, item_of}
use Rattle.vk_rules_book.specs.declared.faults.Fault.{Fault}
use Rattle.vk_rules_book.specs.Faults.{first_among}
use Rattle.vk_rules_book.specs.Noting.{found}
use Rattle.vk_rules_book.specs.Rules.{Subject}
use Rattle.vk_rules_book.specs.Visits.{along, directive, directives, directives_part, directive_visits}
use Rattle.vk_rules_book.specs.Scopes.{declares, first_declaration}
use Rattle.vk_rules_book.specs.Directives.{at_first, redeclaration_faults}
use Rattle.vk_unit_rules.specs.declared.rules.UnitRule.{UnitRule}
use Rattle.std.proofs.lemmas.Option.{slice_get-get_or}
use Rattle.std.proofs.Math.ListN.{length-append}
use Rattle.vk_rules_book.specs.Signatures.{head_of}
use Rattle.vk_rules_book.proofs.Along.{along_push}
use Rattle.vk_rules_book.proofs.Noting.{among_none, found_append, found_first, found_none}
use Rattle.vk_rules_names.specs.Seen.{AreFirst, number_at}
use Rattle.vk_rules_directives.specs.declared.signed.Signed.{Signed}
use Rattle.vk_rules_directives.specs.Inner.Joins.{joined}
use Rattle.vk_rules_directives.specs.Inner.Marks.{form_visits, own_visits}
use Rattle.vk_rules_directives.specs.Inner.Signed.{Agrees, AreOwn, others_at, same_lists, same_option, seen, signed, whole_faults_by}
use Rattle.vk_rules_directives.proofs.Firsts.{found_joined}
use Rattle.vk_rules_directives.proofs.Givens.{whole_by}
use Rattle.vk_rules_directives.proofs.Pushes.{directive_push, grown}
use Rattle.vk_rules_directives.proofs.Redeclared.{position_below}

-- ---- one directive

pub directive_noted : (unit : Subject) (f : FunctionTree) (before : List DirectiveTree) (d : DirectiveTree) (earlier : List (Option SignatureTree)) (s : Option SignatureTree)
    (old middle part next : Option Fault) → next ≡ joined middle part → middle ≡ first_among old (whole_faults_by unit.target (head_of f) earlier s d)
    → part ≡ found unit None (form_visits f d) → earlier ≡ map (signed f) before → s ≡ signed f d → next ≡ found unit old (own_visits f before d)
directive_noted unit f before d earlier s old middle part next is noted form are own =
    is ∙ ap₂ joined (noted ∙ ap₂ (λ (es : List (Option SignatureTree)) (t : Option SignatureTree). first_among old (whole_faults_by unit.target (head_of f) es t d)) are own ∙ ap (first_among old) (sym (whole_by unit.target f before d))) form
    ∙ found_joined unit _ (form_visits f d) ∙ sym (found_first unit old (directive f before d) (form_visits f d))

-- ---- one directive more

pub list_noted : (unit : Subject) (f : FunctionTree) (ds : List Directive) (k : ℕ) (d : Directive) (old before next : Option Fault) → k < length ds → d ≡ get_or ds k d
    → before ≡ found unit old (directive_visits f [] (map directive_of (take k ds)))
    → next ≡ found unit before (own_visits f (map directive_of (take k ds)) (directive_of d))
    → next ≡ found unit old (directive_visits f [] (map directive_of (take (k + 1) ds)))
list_noted unit f ds k d old before next lt is told noted =
    noted ∙ ap (λ o. found unit o (own_visits f (map directive_of (take k ds)) (directive_of d))) told
    ∙ sym (ap (λ xs. found unit old (directive_visits f [] xs)) (grown directive_of ds k d lt is)
    ∙ ap (found unit old) (directive_push f [] (map directive_of (take k ds)) (directive_of d))
    ∙ found_append unit old (directive_visits f [] (map directive_of (take k ds))) _)

map_push : {A B : Type 0} (view : A → B) (xs : List A) (x : A) → map view (xs ++ x ∷ []) ≡ map view xs ++ view x ∷ []
map_push view [] x = refl
map_push view (y ∷ xs) x = ap (λ ys. view y ∷ ys) (map_push view xs x)

all_push : (xs : List (Option SignatureTree)) (x : Option SignatureTree) → list_all is_some (xs ++ x ∷ []) ≡ (list_all is_some xs && is_some x)
all_push [] x = and_true (is_some x)
  where
    and_true : (b : Bool) → (b && true) ≡ b
    and_true true = refl
    and_true false = refl
all_push (y ∷ xs) x = ap (λ b. is_some y && b) (all_push xs x) ∙ and_assoc (is_some y) (list_all is_some xs) (is_some x)
  where
    and_assoc : (a b c : Bool) → (a && (b && c)) ≡ ((a && b) && c)
    and_assoc true b c = refl
    and_assoc false b c = refl

signed_push : (f : FunctionTree) (ds : List Directive) (k : ℕ) (d : Directive) → k < length ds → d ≡ get_or ds k d
    → map (signed f) (map directive_of (take (k + 1) ds)) ≡ map (signed f) (map directive_of (take k ds)) ++ signed f (directive_of d) ∷ []
signed_push f ds k d lt is = ap (map (signed f)) (grown directive_of ds k d lt is) ∙ map_push (signed f) (map directive_of (take k ds)) (directive_of d)

pub list_more : (f : FunctionTree) (ds : List Directive) (k : ℕ) (d : Directive) (old new : List (Option Signature)) (s : Option Signature) → k < length ds → d ≡ get_or ds k d
    → map seen old ≡ map (signed f) (map directive_of (take k ds)) → seen s ≡ signed f (directive_of d) → new ≡ old ++ s ∷ []
    → map seen new ≡ map (signed f) (map directive_of (take (k + 1) ds))
list_more f ds k d old new s lt is are own more =
    ap (map seen) more ∙ map_push seen old s ∙ ap₂ (λ (xs : List (Option SignatureTree)) (x : Option SignatureTree). xs ++ x ∷ []) are own ∙ sym (signed_push f ds k d lt is)

pub all_more : (f : FunctionTree) (ds : List Directive) (k : ℕ) (d : Directive) (s : Option SignatureTree) (old new : Bool) → k < length ds → d ≡ get_or ds k d
    → old ≡ list_all is_some (map (signed f) (map directive_of (take k ds))) → s ≡ signed f (directive_of d) → new ≡ (old && is_some s)
    → new ≡ list_all is_some (map (signed f) (map directive_of (take (k + 1) ds)))
all_more f ds k d s old new lt is so_far own more =
    more ∙ ap₂ (λ (b : Bool) (x : Option SignatureTree). b && is_some x) so_far own
    ∙ sym (ap (list_all is_some) (signed_push f ds k d lt is) ∙ all_push (map (signed f) (map directive_of (take k ds))) (signed f (directive_of d)))

pub whole_list : {A : Type 0} (view : List Directive → A) (ds : List Directive) (k : ℕ) → length ds ≤ k → view (take k ds) ≡ view ds
whole_list view ds k past = ap view (take_all k ds past)

-- ---- lists that are alike

and_false : (b : Bool) → (b && false) ≡ false
and_false true = refl
and_false false = refl

pub lengths_differ : (xs ys : List (Option Signature)) → length xs ≢ length ys → false ≡ same_lists (map seen xs) (map seen ys)
lengths_differ [] [] other = absurd (other refl)
lengths_differ [] (y ∷ ys) other = refl
lengths_differ (x ∷ xs) [] other = refl
lengths_differ (x ∷ xs) (y ∷ ys) other =
    sym (ap (λ b. same_option (seen x) (seen y) && b) (sym (lengths_differ xs ys (λ e. other (ap suc e)))) ∙ and_false (same_option (seen x) (seen y)))

same_at : (xs ys : List (Option Signature)) (k : ℕ) (x y : Option Signature) → k < length xs → k < length ys → x ≡ get_or xs k x → y ≡ get_or ys k y
    → same_lists (map seen (drop k xs)) (map seen (drop k ys)) ≡ (same_option (seen x) (seen y) && same_lists (map seen (drop (k + 1) xs)) (map seen (drop (k + 1) ys)))
same_at xs ys k x y lt below is at =
    ap₂ (λ (ps qs : List (Option Signature)). same_lists (map seen ps) (map seen qs)) (drop_more xs k x lt ∙ ap (λ z. z ∷ drop (k + 1) xs) (sym is)) (drop_more ys k y below ∙ ap (λ z. z ∷ drop (k + 1) ys) (sym at))

pub same_on : (xs ys : List (Option Signature)) (k : ℕ) (x y : Option Signature) (b so : Bool) → k < length xs → k < length ys → x ≡ get_or xs k x → y ≡ get_or ys k y
    → so ≡ same_lists (map seen (drop k xs)) (map seen (drop k ys)) → b ≡ same_option (seen x) (seen y) → b ≡ true
    → so ≡ same_lists (map seen (drop (k + 1) xs)) (map seen (drop (k + 1) ys))
same_on xs ys k x y b so lt below is at told test fits = told ∙ same_at xs ys k x y lt below is at ∙ ap (λ b. b && same_lists (map seen (drop (k + 1) xs)) (map seen (drop (k + 1) ys))) (sym test ∙ fits)

pub same_not : (xs ys : List (Option Signature)) (k : ℕ) (x y : Option Signature) (b so : Bool) → k < length xs → k < length ys → x ≡ get_or xs k x → y ≡ get_or ys k y
    → so ≡ same_lists (map seen (drop k xs)) (map seen (drop k ys)) → b ≡ same_option (seen x) (seen y) → b ≡ false → false ≡ so
same_not xs ys k x y b so lt below is at told test fails =
    sym (told ∙ same_at xs ys k x y lt below is at ∙ ap (λ b. b && same_lists (map seen (drop (k + 1) xs)) (map seen (drop (k + 1) ys))) (sym test ∙ fails))

pub same_end : (xs ys : List (Option Signature)) (k : ℕ) (so : Bool) → length xs ≤ k → length ys ≤ k → so ≡ same_lists (map seen (drop k xs)) (map seen (drop k ys)) → true ≡ so
same_end xs ys k so past over told =
    sym (told ∙ ap₂ (λ (ps qs : List (Option Signature)). same_lists (map seen ps) (map seen qs)) (drop_all k xs past) (drop_all k ys over))

-- ---- items one after another

pub agrees_more : (ss : List Signed) (items : List Item) (s : Signed) (x : Item) → length ss < length items → x ≡ get_or items (length ss) x → Agrees ss items → AreOwn s x
    → Agrees (ss ++ s ∷ []) items
agrees_more [] [] s x lt is agrees own n t y e1 e2 = absurd (omega (arith, lt))
agrees_more [] (i ∷ items) s x lt is agrees own zero t y e1 e2 =
    let same : s ≡ t = cc in let at : x ≡ y = cc in subst (λ (z : Signed). AreOwn z y) same (subst (AreOwn s) at own)
agrees_more [] (i ∷ items) s x lt is agrees own (suc n) t y e1 e2 = cc
agrees_more (r ∷ ss) [] s x lt is agrees own n t y e1 e2 = absurd (omega (arith, lt))
agrees_more (r ∷ ss) (i ∷ items) s x lt is agrees own zero t y e1 e2 = agrees zero t y e1 e2
agrees_more (r ∷ ss) (i ∷ items) s x lt is agrees own (suc n) t y e1 e2 =
    agrees_more ss items s x (omega (arith, lt)) is (λ m u z a b. agrees (suc m) u z a b) own n t y e1 e2

pub agrees_next : (ss : List Signed) (items : List Item) (k : ℕ) (s : Signed) (x : Item) → length ss ≡ k → k < length items → x ≡ get_or items k x → Agrees ss items → AreOwn s x
    → Agrees (ss ++ s ∷ []) items
agrees_next ss items k s x same lt is agrees own = agrees_more ss items s x (omega (arith, same, lt)) (is ∙ ap (λ n. get_or items n x) (sym same)) agrees own

pub agrees_none : (ss : List Signed) (items : List Item) → ss ≡ [] → Agrees ss items
agrees_none ss items is = subst (λ (rs : List Signed). Agrees rs items) (sym is) (λ n s item e1 e2. cc)

pub count_next : (ss new : List Signed) (s : Signed) (k : ℕ) → length ss ≡ k → new ≡ ss ++ s ∷ [] → length new ≡ k + 1
count_next ss new s k same more = ap length more ∙ length-append ss (s ∷ []) ∙ ap (λ n. n + 1) same

pub item_is : (items : List Item) (n : ℕ) (x : Item) → n < length items → x ≡ get_or items n x → slice_get items n ≡ Some x
item_is items n x lt is = slice_get-get_or items n x lt ∙ ap (λ (y : Item). Some y) (sym is)

pub own_is : (ss : List Signed) (n : ℕ) (s : Signed) → n < length ss → s ≡ get_or ss n s → slice_get ss n ≡ Some s
own_is ss n s lt is = slice_get-get_or ss n s lt ∙ ap (λ (r : Signed). Some r) (sym is)

pub at_none : (rule : UnitRule) (token : ℕ) (ds : List Directive) (old : Option Fault) → length ds < 1 → old ≡ first_among old (at_first rule token (map directive_of ds))
at_none rule token [] old none = sym (among_none old)
at_none rule token (d ∷ ds) old none = absurd (omega (arith, none))

redeclared : (before : List ItemTree) (f : FunctionTree) → redeclaration_faults before f ≡ others_at (first_declaration before f.name) f
unfolding redeclaration_faults
redeclared before f = refl

pub function_noted : (unit : Subject) (f : FunctionTree) (before : List ItemTree) (first : Option ItemTree) (old middle part next : Option Fault) → next ≡ joined middle part
    → middle ≡ first_among old (others_at first f) → part ≡ found unit None (directive_visits f [] f.directives) → first ≡ first_declaration before f.name
    → next ≡ found unit old (directives before f ∷ directive_visits f [] f.directives)
function_noted unit f before first old middle part next is noted own same =
    is ∙ ap₂ joined (noted ∙ ap (λ i. first_among old (others_at i f)) same ∙ ap (first_among old) (sym (redeclared before f))) own
    ∙ found_joined unit _ (directive_visits f [] f.directives) ∙ sym (found_first unit old (directives before f) (directive_visits f [] f.directives))

pub nothing_noted : (unit : Subject) (before : List ItemTree) (x y : Item) (old : Option Fault) → x ≡ y → directives_part before (item_of y) ≡ []
    → old ≡ found unit old (directives_part before (item_of x))
nothing_noted unit before x y old is none = sym (ap (λ z. found unit old (directives_part before (item_of z))) is ∙ ap (found unit old) none ∙ found_none unit old)

map_length : (xs : List Item) → length (map item_of xs) ≡ length xs
map_length [] = refl
map_length (x ∷ xs) = ap suc (map_length xs)

pub below : (items : List Item) (first : List (Option ℕ)) (k count : ℕ) (id : NameId) (n : ℕ) → k ≤ length items → AreFirst items first k → count ≡ k → number_at first id ≡ Some n → n < count
below items first k count id n within are same e =
    let at : n < 0 + length (map item_of (take k items)) = position_below (declares id) 0 (map item_of (take k items)) n (sym (are id) ∙ e) in
    omega (arith, at, map_length (take k items), length-take-le k items within, same)

pub item_noted : (unit : Subject) (items : List Item) (k : ℕ) (x : Item) (old before next : Option Fault) → k < length items → x ≡ get_or items k x
    → before ≡ found unit old (along directives_part [] (map item_of (take k items)))
    → next ≡ found unit before (directives_part (map item_of (take k items)) (item_of x))
    → next ≡ found unit old (along directives_part [] (map item_of (take (k + 1) items)))
item_noted unit items k x old before next lt is told noted =
    noted ∙ ap (λ o. found unit o (directives_part (map item_of (take k items)) (item_of x))) told
    ∙ sym (ap (λ xs. found unit old (along directives_part [] xs)) (grown item_of items k x lt is)
    ∙ ap (found unit old) (along_push directives_part [] (map item_of (take k items)) (item_of x))
    ∙ found_append unit old (along directives_part [] (map item_of (take k items))) _)
