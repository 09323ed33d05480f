-- The entries of an image that joins objects: which code of which function each is made of.
use Rattle.std.proofs.Common.{◌≡◌, ℕ, zero, suc, ◌+◌, ◌==◌, Bool, true, false, cond, List, [], ◌∷◌, ◌++◌, flat_map, slice_get, is_some, Option, Some, None, Contains, refl, subst, sym, ap, arith, ◌∙◌, ◌⊎◌, inl, inr, bytes_eq}
use Rattle.std.specs.Option.{option_and_then, option_or}
use Rattle.std.proofs.lemmas.Bool.Decides.{Decides-eqb}
use Rattle.std.proofs.lemmas.List.Elements.{Contains-append_cases}
use Rattle.std.proofs.lemmas.Slice.Eq.{bytes_eq-Decides}
use Rattle.vk_meaning.specs.Programs.{Definition, definition_of}
use Rattle.vk_code.specs.Listing.{Listing, LoopBody, SimdSite, numbered, own}
use Rattle.vk_object.specs.declared.tables.EntryKind.{EntryKind}
use Rattle.vk_object.specs.declared.tables.EntryKind.TheVariants.{Ordinary, Scalar, N, M, Chunk, Rest}
use Rattle.vk_object.specs.Objects.{CodeLists, FunctionLists, ObjectLists}
use Rattle.vk_object.specs.Tables.{EntryLists, Tables}
use Rattle.vk_agree.specs.Agree.{IsEntry}
use Rattle.vk_agree.specs.Units.{definition_in, first_of}
use Rattle.vk_joins.specs.Carries.{AreAccepted, HaveTables, Pair, objects_of, units_of}
use Rattle.vk_joins.specs.Choice.{Candidate, Goal, variants_of}
use Rattle.vk_joins.specs.Joins.{IsPlannedEntry, Joins, Made, Part, Planned, body, function_of, goal_of, kind_of_scalar, kind_of_variant, lanes, made_bodies, made_body, made_codes, made_in, made_lanes, plan_variant, planned_of, scalar, variant_plan}
use Rattle.vk_joins.specs.Links.{codes_in}
use Rattle.vk_joins.specs.Tables.{HasOneRow, row_if_named, row_in, symbol_of}
use Rattle.vk_compose.proofs.Bridge.{both_defined}
use Rattle.vk_joins_laws.proofs.Lists.{From, here, later, one_of, unmap}

-- ---- lists

-- an element of a list has a place
pub record HasPlace {X : Type 0} (xs : List X) (x : X) : Type 0 where
  pub place : ℕ
  pub at : slice_get xs place ≡ Some x

pub place_of : {X : Type 0} (xs : List X) (x : X) → Contains xs x → HasPlace xs x
place_of [] x h = absurd (omega (h.1, arith))
place_of (y ∷ xs) x (zero, lt, at) = record { place = 0; at = ap Some at }
place_of (y ∷ xs) x (suc k, lt, at) = let r = place_of xs x (k, omega (arith, lt), at) in record { place = suc r.place; at = r.at }

pub among : {X : Type 0} (xs : List X) (k : ℕ) (x : X) → slice_get xs k ≡ Some x → Contains xs x
among [] zero x e = cc
among [] (suc k) x e = cc
among (y ∷ xs) zero x e = (0, omega arith, cc)
among (y ∷ xs) (suc k) x e = later y x xs (among xs k x e)

-- which element of a list gave an element of the lists that f makes
pub record InFlat {X Y : Type 0} (f : X → List Y) (xs : List X) (y : Y) : Type 0 where
  pub of : X
  pub among : Contains xs of
  pub inner : Contains (f of) y

pub in_flat : {X Y : Type 0} (f : X → List Y) (xs : List X) (y : Y) → Contains (flat_map f xs) y → InFlat f xs y
in_flat f [] y h = absurd (omega (h.1, arith))
in_flat f (x ∷ xs) y h = either (Contains-append_cases (f x) (flat_map f xs) y h) (λ k. in_flat f xs y k)
  where
    either : Contains (f x) y ⊎ Contains (flat_map f xs) y → (Contains (flat_map f xs) y → InFlat f xs y) → InFlat f (x ∷ xs) y
    either (inl a) next = record { of = x; among = here x xs; inner = a }
    either (inr a) next = let r = next a in record { of = r.of; among = later x r.of xs r.among; inner = r.inner }

-- ---- codes that objects give

-- which of the codes it is
abbrev pub IsPart : CodeLists → Part → Listing → Type 0
IsPart codes scalar c = c ≡ codes.scalar
IsPart codes (body k) c = Unit {0}
IsPart codes (lanes d) c = slice_get codes.lanes d ≡ Some c

pub record IsMadeCode (os : List ObjectLists) (m : Made) : Type 0 where
  pub object_in : Contains os m.object
  pub row_in : Contains m.object.functions m.row
  pub codes : CodeLists
  pub codes_are : m.row.codes ≡ Some codes
  pub part : IsPart codes m.part m.code

-- the same for one row
record IsRowCode (o : ObjectLists) (r : FunctionLists) (codes : CodeLists) (m : Made) : Type 0 where
  object_is : m.object ≡ o
  row_is : m.row ≡ r
  part_is : IsPart codes m.part m.code

of_body : (o : ObjectLists) (r : FunctionLists) (codes : CodeLists) (k : ℕ) (b : LoopBody) (m : Made) → Contains (made_body o r k b) m → IsRowCode o r codes m
of_body o r codes k (own c) m h = subst (IsRowCode o r codes) (one_of _ m h) (record { object_is = refl; row_is = refl; part_is = tt })
of_body o r codes k (numbered number) m h = absurd (omega (h.1, arith))

of_bodies : (o : ObjectLists) (r : FunctionLists) (codes : CodeLists) (k : ℕ) (ls : List SimdSite) (m : Made) → Contains (made_bodies o r k ls) m → IsRowCode o r codes m
of_bodies o r codes k [] m h = absurd (omega (h.1, arith))
of_bodies o r codes k (l ∷ ls) m h = either (Contains-append_cases (made_body o r k l.body) (made_bodies o r (k + 1) ls) m h) (λ q. of_bodies o r codes (k + 1) ls m q)
  where
    either : Contains (made_body o r k l.body) m ⊎ Contains (made_bodies o r (k + 1) ls) m → (Contains (made_bodies o r (k + 1) ls) m → IsRowCode o r codes m) → IsRowCode o r codes m
    either (inl a) next = of_body o r codes k l.body m a
    either (inr a) next = next a

-- the codes of directives from number d on
of_lanes : (o : ObjectLists) (r : FunctionLists) (codes : CodeLists) (d : ℕ) (cs : List Listing) → ((k : ℕ) (c : Listing) → slice_get cs k ≡ Some c → slice_get codes.lanes (d + k) ≡ Some c) →
    (m : Made) → Contains (made_lanes o r d cs) m → IsRowCode o r codes m
of_lanes o r codes d [] rest m h = absurd (omega (h.1, arith))
of_lanes o r codes d (c ∷ cs) rest m h =
    either (Contains-append_cases (record { object = o; row = r; part = lanes d; code = c } ∷ []) (made_lanes o r (d + 1) cs) m h)
    (λ q. of_lanes o r codes (d + 1) cs (λ k x e. subst (λ (n : ℕ). slice_get codes.lanes n ≡ Some x) (shifted d k) (rest (suc k) x e)) m q)
  where
    shifted : (a k : ℕ) → a + suc k ≡ a + 1 + k
    shifted a k = omega arith

    first : slice_get codes.lanes d ≡ Some c
    first = subst (λ (n : ℕ). slice_get codes.lanes n ≡ Some c) (plain d) (rest 0 c refl)
      where
        plain : (a : ℕ) → a + 0 ≡ a
        plain a = omega arith

    either : Contains (record { object = o; row = r; part = lanes d; code = c } ∷ []) m ⊎ Contains (made_lanes o r (d + 1) cs) m → (Contains (made_lanes o r (d + 1) cs) m → IsRowCode o r codes m) → IsRowCode o r codes m
    either (inl a) next = subst (IsRowCode o r codes) (one_of _ m a) (record { object_is = refl; row_is = refl; part_is = first })
    either (inr a) next = next a

of_codes : (o : ObjectLists) (r : FunctionLists) (codes : CodeLists) (m : Made) → Contains (made_codes o r (Some codes)) m → IsRowCode o r codes m
of_codes o r codes m h =
    either (Contains-append_cases (record { object = o; row = r; part = scalar; code = codes.scalar } ∷ []) (made_bodies o r 0 codes.scalar.loops ++ made_lanes o r 0 codes.lanes) m h)
  where
    after : Contains (made_bodies o r 0 codes.scalar.loops) m ⊎ Contains (made_lanes o r 0 codes.lanes) m → IsRowCode o r codes m
    after (inl a) = of_bodies o r codes 0 codes.scalar.loops m a
    after (inr a) = of_lanes o r codes 0 codes.lanes (λ k c e. subst (λ (n : ℕ). slice_get codes.lanes n ≡ Some c) (plain k) e) m a
      where
        plain : (a : ℕ) → a ≡ 0 + a
        plain a = omega arith

    either : Contains (record { object = o; row = r; part = scalar; code = codes.scalar } ∷ []) m ⊎ Contains (made_bodies o r 0 codes.scalar.loops ++ made_lanes o r 0 codes.lanes) m → IsRowCode o r codes m
    either (inl a) = subst (IsRowCode o r codes) (one_of _ m a) (record { object_is = refl; row_is = refl; part_is = refl })
    either (inr a) = after (Contains-append_cases (made_bodies o r 0 codes.scalar.loops) (made_lanes o r 0 codes.lanes) m a)

pub made_is : (os : List ObjectLists) (m : Made) → Contains (made_in os) m → IsMadeCode os m
made_is os m h =
    let a = in_flat (λ (o : ObjectLists). flat_map (λ (r : FunctionLists). made_codes o r r.codes) o.functions) os m h in
    let b = in_flat (λ (r : FunctionLists). made_codes a.of r r.codes) a.of.functions m a.inner in
    at a.of a.among b.of b.among b.of.codes refl b.inner
  where
    at : (o : ObjectLists) → Contains os o → (r : FunctionLists) → Contains o.functions r → (c : Option CodeLists) → r.codes ≡ c → Contains (made_codes o r c) m → IsMadeCode os m
    at o i r j None e k = absurd (omega (k.1, arith))
    at o i r j (Some codes) e k =
        let x = of_codes o r codes m k in
        record {
          object_in = subst (λ (y : ObjectLists). Contains os y) (sym x.object_is) i;
          row_in = subst (λ (y : ObjectLists). Contains y.functions m.row) (sym x.object_is) (subst (λ (y : FunctionLists). Contains o.functions y) (sym x.row_is) j);
          codes = codes;
          codes_are = ap (λ (y : FunctionLists). y.codes) x.row_is ∙ e;
          part = x.part_is;
        }

-- ---- plans

-- the variant that an entry is planned for
pub record IsVariantPlan (goal : Goal) (m : Made) (d : ℕ) (p : Planned) : Type 0 where
  pub candidate : Candidate
  pub among : Contains (variants_of goal m.object m.row) candidate
  pub directive : candidate.directive ≡ d
  pub is : p ≡ variant_plan m (function_of m) candidate

-- an entry for the code of a function, a body or a directive
abbrev pub IsPlanFor : Goal → Made → Part → Planned → Type 0
IsPlanFor goal m scalar p = (p.text ≡ function_of m) × (p.kind ≡ kind_of_scalar m.row.directives)
IsPlanFor goal m (body k) p = (p.kind ≡ Chunk) ⊎ (p.kind ≡ Rest)
IsPlanFor goal m (lanes d) p = IsVariantPlan goal m d p

variant_if : (m : Made) (text : List ℕ) (d : ℕ) (c : Candidate) (p : Planned) (b : Bool) → (c.directive == d) ≡ b → Contains (cond b (variant_plan m text c ∷ []) []) p → (c.directive ≡ d) × (p ≡ variant_plan m text c)
variant_if m text d c p true e h = ((Decides-eqb c.directive d).0 e, sym (one_of (variant_plan m text c) p h))
variant_if m text d c p false e h = absurd (omega (h.1, arith))

plan_for : (goal : Goal) (m : Made) (part : Part) (p : Planned) → Contains (planned_of goal m part) p → (p.made ≡ m) × IsPlanFor goal m part p
plan_for goal m scalar p h = subst (λ (q : Planned). (q.made ≡ m) × ((q.text ≡ function_of m) × (q.kind ≡ kind_of_scalar m.row.directives))) (one_of _ p h) (refl, (refl, refl))
plan_for goal m (body k) p (zero, lt, at) = (sym (ap (λ (q : Planned). q.made) at), inl (sym (ap (λ (q : Planned). q.kind) at)))
plan_for goal m (body k) p (suc zero, lt, at) = (sym (ap (λ (q : Planned). q.made) at), inr (sym (ap (λ (q : Planned). q.kind) at)))
plan_for goal m (body k) p (suc (suc n), lt, at) = absurd (omega (lt, arith))
plan_for goal m (lanes d) p h =
    let r = in_flat (plan_variant m (function_of m) d) (variants_of goal m.object m.row) p h in
    let v = variant_if m (function_of m) d r.of p (r.of.directive == d) refl r.inner in
    (ap (λ (q : Planned). q.made) v.1, record { candidate = r.of; among = r.among; directive = v.0; is = v.1 })

-- an ordinary or a scalar entry is of the scalar code of its function
scalar_kind : (k : EntryKind) → (k ≡ Ordinary) ⊎ (k ≡ Scalar) → (k ≡ Chunk) ⊎ (k ≡ Rest) → ⊥
scalar_kind k (inl a) (inl b) = no (sym a ∙ b)
  where
    no : Ordinary ≡ Chunk → ⊥
    no e = cc
scalar_kind k (inl a) (inr b) = no (sym a ∙ b)
  where
    no : Ordinary ≡ Rest → ⊥
    no e = cc
scalar_kind k (inr a) (inl b) = no (sym a ∙ b)
  where
    no : Scalar ≡ Chunk → ⊥
    no e = cc
scalar_kind k (inr a) (inr b) = no (sym a ∙ b)
  where
    no : Scalar ≡ Rest → ⊥
    no e = cc

not_variant : (k : EntryKind) (masked : Bool) → (k ≡ Ordinary) ⊎ (k ≡ Scalar) → k ≡ kind_of_variant masked → ⊥
not_variant k true (inl a) b = no (sym a ∙ b)
  where
    no : Ordinary ≡ M → ⊥
    no e = cc
not_variant k false (inl a) b = no (sym a ∙ b)
  where
    no : Ordinary ≡ N → ⊥
    no e = cc
not_variant k true (inr a) b = no (sym a ∙ b)
  where
    no : Scalar ≡ M → ⊥
    no e = cc
not_variant k false (inr a) b = no (sym a ∙ b)
  where
    no : Scalar ≡ N → ⊥
    no e = cc

-- what is known of an entry of an image that joins objects
pub record IsEntryFor (image : Tables) (os : List ObjectLists) (e : ℕ) (x : EntryLists) : Type 0 where
  pub plan : Planned
  pub planned : IsPlannedEntry os image e x plan
  pub made : IsMadeCode os plan.made
  pub for : IsPlanFor (goal_of image) plan.made plan.made.part plan

pub entry_for : (image : Tables) (os : List ObjectLists) → Joins image os → (e : ℕ) (x : EntryLists) → IsEntry image e x → IsEntryFor image os e x
entry_for image os joins e x is =
    let p = joins.only e x is in
    let r = in_flat (λ (m : Made). planned_of (goal_of image) m m.part) (made_in os) p.0 p.1.among in
    let f = plan_for (goal_of image) r.of r.of.part p.0 r.inner in
    record {
      plan = p.0;
      planned = p.1;
      made = subst (IsMadeCode os) (sym f.0) (made_is os r.of r.among);
      for = subst (λ (m : Made). IsPlanFor (goal_of image) m m.part p.0) (sym f.0) f.1;
    }

-- a scalar entry is of the scalar code of its function
pub record IsScalarPlan (m : Made) (p : Planned) : Type 0 where
  pub part : m.part ≡ scalar
  pub text : p.text ≡ function_of m
  pub kind : p.kind ≡ kind_of_scalar m.row.directives

scalar_plan : (goal : Goal) (m : Made) (part : Part) (p : Planned) → m.part ≡ part → (p.kind ≡ Ordinary) ⊎ (p.kind ≡ Scalar) → IsPlanFor goal m part p → IsScalarPlan m p
scalar_plan goal m scalar p e k h = record { part = e; text = h.0; kind = h.1 }
scalar_plan goal m (body n) p e k h = absurd (scalar_kind p.kind k h)
scalar_plan goal m (lanes d) p e k h = absurd (not_variant p.kind h.candidate.length.masked k (ap (λ (q : Planned). q.kind) h.is))

pub scalar_of : (image : Tables) (os : List ObjectLists) (e : ℕ) (x : EntryLists) → (f : IsEntryFor image os e x) → (x.kind ≡ Ordinary) ⊎ (x.kind ≡ Scalar) → IsScalarPlan f.plan.made f.plan
scalar_of image os e x f k = scalar_plan (goal_of image) f.plan.made f.plan.made.part f.plan refl (moved k) f.for
  where
    moved : (x.kind ≡ Ordinary) ⊎ (x.kind ≡ Scalar) → (f.plan.kind ≡ Ordinary) ⊎ (f.plan.kind ≡ Scalar)
    moved (inl a) = inl (sym f.planned.is.kind ∙ a)
    moved (inr a) = inr (sym f.planned.is.kind ∙ a)

-- ---- the unit that defines a function

-- a row is the one that is found by its name
first_row : (o : ObjectLists) (text : List ℕ) (rows : List FunctionLists) (k : ℕ) (r : FunctionLists) → slice_get rows k ≡ Some r → symbol_of o r.symbol ≡ text →
    ((i j : ℕ) (a b : FunctionLists) → slice_get rows i ≡ Some a → slice_get rows j ≡ Some b → symbol_of o a.symbol ≡ symbol_of o b.symbol → i ≡ j) → first_of (row_if_named text o) rows ≡ Some r
first_row o text [] zero r e n once = cc
first_row o text [] (suc k) r e n once = cc
first_row o text (x ∷ rows) zero r e n once =
    ap (λ (b : Bool). option_or (cond b (Some x) None) (first_of (row_if_named text o) rows)) (named (symbol_of o x.symbol) (ap (λ (y : FunctionLists). symbol_of o y.symbol) (same_row x r e) ∙ n)) ∙ e
  where
    same_row : (a b : FunctionLists) → Some a ≡ Some b → a ≡ b
    same_row a b k = cc

    named : (t : List ℕ) → t ≡ text → bytes_eq t text ≡ true
    named t q = (bytes_eq-Decides t text).1 q
first_row o text (x ∷ rows) (suc k) r e n once = at (bytes_eq (symbol_of o x.symbol) text) refl (first_row o text rows k r e n (λ i j a b c d q. less i j (once (suc i) (suc j) a b c d q)))
  where
    less : (i j : ℕ) → suc i ≡ suc j → i ≡ j
    less i j q = omega arith

    at : (b : Bool) → bytes_eq (symbol_of o x.symbol) text ≡ b → first_of (row_if_named text o) rows ≡ Some r → option_or (cond b (Some x) None) (first_of (row_if_named text o) rows) ≡ Some r
    at true q next = absurd (omega (arith, once 0 (suc k) x r refl e ((bytes_eq-Decides (symbol_of o x.symbol) text).0 q ∙ sym n)))
    at false q next = next

pub row_found : (o : ObjectLists) (r : FunctionLists) → HasOneRow o → Contains o.functions r → row_in o (symbol_of o r.symbol) ≡ Some r
row_found o r once h = let p = place_of o.functions r h in first_row o (symbol_of o r.symbol) o.functions p.place r p.at refl once

-- where some unit defines a function, the units do
pub some_definition : (ps : List Pair) (p : Pair) (text : List ℕ) → Contains ps p → is_some (definition_in text p.unit) ≡ true → is_some (definition_of (units_of ps) text) ≡ true
some_definition [] p text h d = absurd (omega (h.1, arith))
some_definition (q ∷ ps) p text (zero, lt, at) d = first (definition_in text q.unit) (definition_of (units_of ps) text) (ap (λ (x : Pair). is_some (definition_in text x.unit)) at ∙ d)
  where
    first : (a b : Option Definition) → is_some a ≡ true → is_some (option_or a b) ≡ true
    first (Some x) b k = refl
    first None b k = cc
some_definition (q ∷ ps) p text (suc k, lt, at) d = second (definition_in text q.unit) (definition_of (units_of ps) text) (some_definition ps p text (k, omega (arith, lt), at) d)
  where
    second : (a b : Option Definition) → is_some b ≡ true → is_some (option_or a b) ≡ true
    second (Some x) b k = refl
    second None b k = k

-- an object's pair
pub pair_of : (ps : List Pair) (o : ObjectLists) → Contains (objects_of ps) o → From (λ (p : Pair). p.object) ps o
pair_of ps o h = unmap (λ (p : Pair). p.object) ps o h

-- the function of a code is defined
pub made_defined : (ps : List Pair) → AreAccepted ps → HaveTables ps → (m : Made) → IsMadeCode (objects_of ps) m → is_some (definition_of (units_of ps) (function_of m)) ≡ true
made_defined ps accepted tables m made =
    let p = pair_of ps m.object made.object_in in
    some_definition ps p.of (function_of m) p.among
    (sym (both_defined p.of.object p.of.unit (function_of m) (accepted p.of p.among) (tables p.of p.among)) ∙
    ap (λ (o : ObjectLists). is_some (codes_in o (function_of m))) p.is ∙
    (ap (λ (r : Option FunctionLists). is_some (option_and_then (λ (x : FunctionLists). x.codes) r)) (row_found m.object m.row (subst HasOneRow p.is (tables p.of p.among).one_row) made.row_in) ∙ ap is_some made.codes_are))
