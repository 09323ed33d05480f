-- Tables of the types of parameters.
use Rattle.std.proofs.Common.{◌≡◌, ◌≢◌, ℕ, ◌+◌, ◌<◌, ◌≤◌, ◌==◌, Bool, true, false, cond, ◌||◌, take, List, [], ◌∷◌, ◌++◌, length, get_or, slice_set, slice_get, unwrap_or, Option, Some, None, refl, sym, ap, ap₂, ◌∙◌, arith, get_or-set_other, get_or-set_same}
use Rattle.std.specs.Option.{option_or, option_map}
use Rattle.std.proofs.lemmas.Bool.Decides.{nat_tests}
use Rattle.std.proofs.lemmas.Option.{unwrap_or-slice_get}
use Rattle.vk_kinds.specs.declared.heads.CType.{CType}
use Rattle.vk_ast.specs.declared.names.NameId.{NameId}
use Rattle.vk_ast.specs.declared.items.ParamDecl.{ParamDecl}
use Rattle.vk_rules_book.specs.Scopes.{same_name}
use Rattle.vk_rules_book.specs.Signatures.{is_named, param_of}
use Rattle.std.specs.List.{list_any}
use Rattle.std.proofs.lemmas.List.{take_all}
use Rattle.vk_rules_directives.specs.Inner.Tables.{AreTypes, type_at, type_of_param}
use Rattle.vk_rules_directives.proofs.Pushes.{any_push, taken}

set_at : (xs : List (Option CType)) (k : ℕ) (v : Option CType) (n : ℕ) (b : Bool) → k < length xs → (k == n) ≡ b
    → unwrap_or (slice_get (slice_set xs k v) n) None ≡ cond b v (unwrap_or (slice_get xs n) None)
set_at xs k v n true within e =
    let same : n ≡ k = grind (arith, nat_tests) in
    unwrap_or-slice_get (slice_set xs k v) n None ∙ ap (λ i. get_or (slice_set xs k v) i None) same ∙ get_or-set_same xs k v None within
set_at xs k v n false within e =
    let other : n ≢ k = grind (arith, nat_tests) in
    unwrap_or-slice_get (slice_set xs k v) n None ∙ get_or-set_other xs k n v None other ∙ sym (unwrap_or-slice_get xs n None)

-- a place that is set, in a table that says what the old one said
pub set_type : (old xs : List (Option CType)) (id : NameId) (v : Option CType) → id.0 < length xs → ((other : NameId) → type_at xs other ≡ type_at old other)
    → (other : NameId) → type_at (slice_set xs id.0 v) other ≡ cond (same_name id other) v (type_at old other)
set_type old xs id v within same other =
    set_at xs id.0 v other.0 (same_name id other) within refl ∙ ap (cond (same_name id other) v) (same other)

same_is : (a b : NameId) → same_name a b ≡ true → a ≡ b
same_is a b e = let same : a.0 ≡ b.0 = grind (arith, nat_tests) in ap (λ (n : ℕ). record { 0 = n }) same

or_none : (x : Option CType) → x ≡ option_or x None
or_none None = refl
or_none (Some t) = refl

chosen : (old : List (Option CType)) (id other : NameId) (t : CType) (b : Bool) → same_name id other ≡ b
    → cond b (option_or (type_at old id) (Some t)) (type_at old other) ≡ option_or (type_at old other) (cond b (Some t) None)
chosen old id other t true e = ap (λ (i : NameId). option_or (type_at old i) (Some t)) (same_is id other e)
chosen old id other t false e = or_none (type_at old other)

-- a name keeps its first type
pub added : (old : List (Option CType)) (id : NameId) (t : CType) (other : NameId)
    → cond (same_name id other) (option_or (type_at old id) (Some t)) (type_at old other) ≡ option_or (type_at old other) (cond (same_name id other) (Some t) None)
added old id t other = chosen old id other t (same_name id other) refl

-- ---- parameters one after another

first_of : (x y : Option ParamDecl) → option_map (λ (p : ParamDecl). p.ctype) (option_or x y) ≡ option_or (option_map (λ (p : ParamDecl). p.ctype) x) (option_map (λ (p : ParamDecl). p.ctype) y)
first_of None y = refl
first_of (Some p) y = refl

or_in : (b : Bool) (p : ParamDecl) (x y : Option ParamDecl) → cond b (Some p) (option_or x y) ≡ option_or (cond b (Some p) x) y
or_in true p x y = refl
or_in false p x y = refl

of_push : (ps : List ParamDecl) (p : ParamDecl) (id : NameId) → param_of (ps ++ p ∷ []) id ≡ option_or (param_of ps id) (cond (is_named id p) (Some p) None)
unfolding param_of
of_push [] p id = refl
of_push (q ∷ ps) p id = ap (cond (is_named id q) (Some q)) (of_push ps p id) ∙ or_in (is_named id q) q (param_of ps id) _

of_cond : (b : Bool) (p : ParamDecl) → option_map (λ (p : ParamDecl). p.ctype) (cond b (Some p) None) ≡ cond b (Some p.ctype) None
of_cond true p = refl
of_cond false p = refl

pub none_typed : (id : NameId) → type_of_param [] id ≡ None
unfolding param_of
none_typed id = refl

pub type_push : (ps : List ParamDecl) (p : ParamDecl) (id : NameId) → type_of_param (ps ++ p ∷ []) id ≡ option_or (type_of_param ps id) (cond (is_named id p) (Some p.ctype) None)
type_push ps p id =
    ap (option_map (λ (p : ParamDecl). p.ctype)) (of_push ps p id) ∙ first_of (param_of ps id) _ ∙ ap (option_or (type_of_param ps id)) (of_cond (is_named id p) p)

pub learn_more : (params : List ParamDecl) (k : ℕ) (d p : ParamDecl) (old new : List (Option CType)) → k < length params → p ≡ get_or params k d → AreTypes old (take k params)
    → ((id : NameId) → type_at new id ≡ option_or (type_at old id) (cond (is_named id p) (Some p.ctype) None)) → AreTypes new (take (k + 1) params)
learn_more params k d p old new lt is are added id =
    added id ∙ ap (λ t. option_or t (cond (is_named id p) (Some p.ctype) None)) (are id)
    ∙ sym (ap (λ ps. type_of_param ps id) (taken params k d p lt is) ∙ type_push (take k params) p id)

cond_twice : (a b : Bool) (t : Option CType) → cond b None (cond a None t) ≡ cond (a || b) None t
cond_twice true true t = refl
cond_twice true false t = refl
cond_twice false b t = refl

pub unlearn_more : (params : List ParamDecl) (k : ℕ) (d p : ParamDecl) (base old new : List (Option CType)) → k < length params → p ≡ get_or params k d
    → ((id : NameId) → type_at old id ≡ cond (list_any (is_named id) (take k params)) None (type_at base id))
    → ((id : NameId) → type_at new id ≡ cond (is_named id p) None (type_at old id))
    → (id : NameId) → type_at new id ≡ cond (list_any (is_named id) (take (k + 1) params)) None (type_at base id)
unlearn_more params k d p base old new lt is so_far removed id =
    removed id ∙ ap (cond (is_named id p) None) (so_far id) ∙ cond_twice (list_any (is_named id) (take k params)) (is_named id p) (type_at base id)
    ∙ sym (ap (λ ps. cond (list_any (is_named id) ps) None (type_at base id)) (taken params k d p lt is) ∙ ap (λ b. cond b None (type_at base id)) (any_push (is_named id) (take k params) p))

head_forgot : (b rest : Bool) (p : ParamDecl) (o : Option ParamDecl) → cond rest None (option_map (λ (p : ParamDecl). p.ctype) o) ≡ None
    → cond (b || rest) None (option_map (λ (p : ParamDecl). p.ctype) (cond b (Some p) o)) ≡ None
head_forgot true rest p o e = refl
head_forgot false rest p o e = e

forgot : (ps : List ParamDecl) (id : NameId) → cond (list_any (is_named id) ps) None (type_of_param ps id) ≡ None
unfolding param_of
forgot [] id = refl
forgot (p ∷ ps) id = head_forgot (is_named id p) (list_any (is_named id) ps) p (param_of ps id) (forgot ps id)

-- the names of all parameters are out of the table
pub unlearned : (params : List ParamDecl) (k : ℕ) (base last : List (Option CType)) → length params ≤ k → AreTypes base params
    → ((id : NameId) → type_at last id ≡ cond (list_any (is_named id) (take k params)) None (type_at base id)) → (id : NameId) → type_at last id ≡ None
unlearned params k base last past are so_far id =
    so_far id ∙ ap₂ (λ (ps : List ParamDecl) (t : Option CType). cond (list_any (is_named id) ps) None t) (take_all k params past) (are id) ∙ forgot params id
