-- Clauses, names and directives one after another.
use Rattle.std.proofs.Common.{◌≡◌, ℕ, ◌+◌, ◌<◌, Bool, true, false, ◌||◌, List, [], ◌∷◌, ◌++◌, map, flat_map, length, take, get_or, refl, sym, ap, ◌∙◌, append_assoc}
use Rattle.std.specs.List.{list_any}
use Rattle.std.proofs.lemmas.List.{append-nil, take_more}
use Rattle.std.proofs.lemmas.Grind.{flat_map-append}
use Rattle.vk_ast.specs.Directives.{ClauseTree, DirectiveTree}
use Rattle.vk_ast.specs.Units.{FunctionTree}
use Rattle.vk_rules_book.specs.declared.lists.Entry.{Entry}
use Rattle.vk_rules_book.specs.Visits.{clause, clause_visits, directive, directive_visits, entry, entry_visits, entries_of}
use Rattle.vk_rules_directives.specs.Inner.Marks.{own_visits}
use Rattle.vk_rules_book.specs.Directives.{all_entry_faults, all_said_faults, entry_faults, said_faults}

-- one item more, of any list
pub grown : {A B : Type 0} (view : A → B) (xs : List A) (k : ℕ) (x : A) → k < length xs → x ≡ get_or xs k x → map view (take (k + 1) xs) ≡ map view (take k xs) ++ view x ∷ []
grown view xs k x lt is = ap (map view) (take_more xs k x lt ∙ ap (λ y. take k xs ++ y ∷ []) (sym is)) ∙ map_push view (take k xs) x
  where
    map_push : {A B : Type 0} (view : A → B) (xs : List A) (x : A) → map view (xs ++ x ∷ []) ≡ map view xs ++ view x ∷ []
    map_push view [] x = refl
    map_push view (y ∷ xs) x = ap (λ ys. view y ∷ ys) (map_push view xs x)

pub taken : {A : Type 0} (xs : List A) (k : ℕ) (d x : A) → k < length xs → x ≡ get_or xs k d → take (k + 1) xs ≡ take k xs ++ x ∷ []
taken xs k d x lt is = take_more xs k d lt ∙ ap (λ y. take k xs ++ y ∷ []) (sym is)

or_none : (b : Bool) → (b || false) ≡ b
or_none true = refl
or_none false = refl

or_assoc : (a b c : Bool) → (a || (b || c)) ≡ ((a || b) || c)
or_assoc true b c = refl
or_assoc false b c = refl

pub any_push : {A : Type 0} (p : A → Bool) (xs : List A) (x : A) → list_any p (xs ++ x ∷ []) ≡ (list_any p xs || p x)
any_push p [] x = or_none (p x)
any_push p (y ∷ xs) x = ap (λ b. p y || b) (any_push p xs x) ∙ or_assoc (p y) (list_any p xs) (p x)

-- a test on one item more
pub any_more : {A B : Type 0} (view : A → B) (test : B → Bool) (xs : List A) (k : ℕ) (x : A) (old new : Bool) → k < length xs → x ≡ get_or xs k x
    → old ≡ list_any test (map view (take k xs)) → new ≡ (old || test (view x)) → new ≡ list_any test (map view (take (k + 1) xs))
any_more view test xs k x old new lt is so_far more =
    more ∙ ap (λ b. b || test (view x)) so_far ∙ sym (ap (list_any test) (grown view xs k x lt is) ∙ any_push test (map view (take k xs)) (view x))

pub flat_push : {A B : Type 0} (f : A → List B) (xs : List A) (x : A) → flat_map f (xs ++ x ∷ []) ≡ flat_map f xs ++ f x
flat_push f xs x = flat_map-append f xs (x ∷ []) ∙ ap (λ ys. flat_map f xs ++ ys) (append-nil (f x))

module _ (f : FunctionTree) (d : DirectiveTree) where
  pub clause_push : (earlier cs : List ClauseTree) (c : ClauseTree) → clause_visits f d earlier (cs ++ c ∷ []) ≡ clause_visits f d earlier cs ++ clause f d (earlier ++ cs) c ∷ []
  clause_push earlier [] c = ap (λ es. clause f d es c ∷ []) (sym (append-nil earlier))
  clause_push earlier (b ∷ cs) c =
      ap (λ vs. clause f d earlier b ∷ vs) (clause_push (earlier ++ b ∷ []) cs c ∙ ap (λ es. clause_visits f d (earlier ++ b ∷ []) cs ++ clause f d es c ∷ []) (append_assoc earlier (b ∷ []) cs))

  pub said_push : (earlier cs : List ClauseTree) (c : ClauseTree) → all_said_faults f d earlier (cs ++ c ∷ []) ≡ all_said_faults f d earlier cs ++ said_faults f d (earlier ++ cs) c
  said_push earlier [] c = append-nil _ ∙ ap (λ es. said_faults f d es c) (sym (append-nil earlier))
  said_push earlier (b ∷ cs) c =
      ap (λ xs. said_faults f d earlier b ++ xs) (said_push (earlier ++ b ∷ []) cs c ∙ ap (λ es. all_said_faults f d (earlier ++ b ∷ []) cs ++ said_faults f d es c) (append_assoc earlier (b ∷ []) cs))
      ∙ sym (append_assoc (said_faults f d earlier b) _ _)

  pub entry_push : (earlier es : List Entry) (e : Entry) → entry_visits f d earlier (es ++ e ∷ []) ≡ entry_visits f d earlier es ++ entry f d (earlier ++ es) e ∷ []
  entry_push earlier [] e = ap (λ xs. entry f d xs e ∷ []) (sym (append-nil earlier))
  entry_push earlier (b ∷ es) e =
      ap (λ vs. entry f d earlier b ∷ vs) (entry_push (earlier ++ b ∷ []) es e ∙ ap (λ xs. entry_visits f d (earlier ++ b ∷ []) es ++ entry f d xs e ∷ []) (append_assoc earlier (b ∷ []) es))

  pub listed_push : (earlier es : List Entry) (e : Entry) → all_entry_faults f d earlier (es ++ e ∷ []) ≡ all_entry_faults f d earlier es ++ entry_faults f d (earlier ++ es) e
  listed_push earlier [] e = append-nil _ ∙ ap (λ xs. entry_faults f d xs e) (sym (append-nil earlier))
  listed_push earlier (b ∷ es) e =
      ap (λ xs. entry_faults f d earlier b ++ xs) (listed_push (earlier ++ b ∷ []) es e ∙ ap (λ xs. all_entry_faults f d (earlier ++ b ∷ []) es ++ entry_faults f d xs e) (append_assoc earlier (b ∷ []) es))
      ∙ sym (append_assoc (entry_faults f d earlier b) _ _)

pub directive_push : (f : FunctionTree) (earlier ds : List DirectiveTree) (d : DirectiveTree)
    → directive_visits f earlier (ds ++ d ∷ []) ≡ directive_visits f earlier ds ++ own_visits f (earlier ++ ds) d
directive_push f earlier [] d =
    ap (λ vs. directive f earlier d ∷ (clause_visits f d [] d.clauses ++ vs)) (append-nil _) ∙ ap (λ es. own_visits f es d) (sym (append-nil earlier))
directive_push f earlier (b ∷ ds) d =
    ap (λ vs. directive f earlier b ∷ (clause_visits f b [] b.clauses ++ (entry_visits f b [] (entries_of b.clauses) ++ vs)))
    (directive_push f (earlier ++ b ∷ []) ds d ∙ ap (λ es. directive_visits f (earlier ++ b ∷ []) ds ++ own_visits f es d) (append_assoc earlier (b ∷ []) ds))
    ∙ ap (λ vs. directive f earlier b ∷ (clause_visits f b [] b.clauses ++ vs)) (sym (append_assoc (entry_visits f b [] (entries_of b.clauses)) _ _))
    ∙ ap (λ vs. directive f earlier b ∷ vs) (sym (append_assoc (clause_visits f b [] b.clauses) _ _))
