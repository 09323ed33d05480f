-- A target that an image gives a slot does what the call means, where the callee agrees with the image.
use Rattle.std.proofs.Common.{◌≡◌, ℕ, ◌+◌, ◌==◌, ◌&&◌, not, Bool, true, false, cond, List, [], ◌∷◌, map, filter_map, slice_get, Option, Some, None, subst, sym, ap, arith, ◌∙◌, ◌⊎◌, inl, inr, Contains}
use Rattle.std.proofs.lemmas.List.Elements.{Contains-append_cases}
use Rattle.std.proofs.lemmas.Bool.Decides.{Decides-eqb}
use Rattle.vk_kinds.specs.declared.heads.CType.{CType}
use Rattle.vk_kinds.specs.declared.kinds.Kind.{Kind}
use Rattle.vk_kinds.specs.declared.kinds.Length.{Length}
use Rattle.vk_kinds.specs.declared.kinds.Param.{Param}
use Rattle.vk_kinds.specs.declared.kinds.Target.{Target}
use Rattle.vk_kinds.specs.Lengths.{lanes_at, lengths}
use Rattle.vk_kinds.specs.Sizes.{HeadTypes, SignatureTree, wds}
use Rattle.vk_rules_book.specs.Rules.{Subject}
use Rattle.vk_rules_book.specs.Scopes.{text_of}
use Rattle.vk_meaning.specs.World.{Memory as Cells}
use Rattle.vk_meaning.specs.Data.{Datum, Value}
use Rattle.vk_meaning.specs.Meaning.{call_by, call_of, means}
use Rattle.vk_meaning.specs.Programs.{Definition, arrays_of}
use Rattle.vk_code.specs.declared.code.Shape.{Shape}
use Rattle.vk_code.specs.declared.code.SlotArg.{SlotArg}
use Rattle.vk_code.specs.Listing.{CallSite}
use Rattle.vk_object.specs.declared.tables.EntryKind.{EntryKind}
use Rattle.vk_object.specs.declared.tables.EntryKind.TheVariants.{Ordinary, Scalar}
use Rattle.vk_object.specs.Machine.{Called, Site, runs}
use Rattle.vk_object.specs.Objects.{FunctionLists, ObjectLists}
use Rattle.vk_object.specs.Tables.{EntryLists, Tables}
use Rattle.vk_lane.specs.Runs.{RunsAs, RunsOnLanes}
use Rattle.vk_sites.specs.Calls.{CallText}
use Rattle.vk_agree.specs.Agree.{IsVariant, IsVariantKind, bodies_of}
use Rattle.vk_agree.specs.Units.{kinds_of, param_types}
use Rattle.vk_joins.specs.Choice.{Candidate, Goal, all_match, candidates, candidates_of, is_allowed, is_fitting, is_usable, usable, usable_from, variants_of, with_lanes}
use Rattle.vk_joins.specs.Codes.{slot_shapes}
use Rattle.vk_joins.specs.Joins.{IsScalarEntry, IsSomeOf, IsTargetBy, IsVariantEntry, Made, choices, goal_of, is_whole, kind_of_variant}
use Rattle.vk_joins_laws.proofs.Levels.{deeper}
use Rattle.vk_joins_laws.proofs.Lists.{both_first, both_second, given, here, kept, later}
use Rattle.vk_promises.specs.Settings.{MayCall, MayCallVariant, Setting, kinds_in, scalar_call, types_called}
use Rattle.vk_promises.specs.Places.{IsLinkedCall, TellsOf, setting_of}

-- ---- a candidate is a variant of its function

pub record IsOf (o : ObjectLists) (r : FunctionLists) (ss : List SignatureTree) (c : Candidate) : Type 0 where
  pub signature : Contains ss c.signature
  pub length : Contains (lengths o.target r.head c.signature) c.length

with_lanes_is : (d : ℕ) (s : SignatureTree) (l : Length) (n : Option ℕ) (c : Candidate) → with_lanes d s l n ≡ Some c → (s ≡ c.signature) × (l ≡ c.length)
with_lanes_is d s l None c h = cc
with_lanes_is d s l (Some n) c h = (cc, cc)

usable_is : (d : ℕ) (s : SignatureTree) (l : Length) (n : Option ℕ) (c : Candidate) (b : Bool) → cond b (with_lanes d s l n) None ≡ Some c → (s ≡ c.signature) × (l ≡ c.length)
usable_is d s l n c true h = with_lanes_is d s l n c h
usable_is d s l n c false h = cc

is_of : (goal : Goal) (o : ObjectLists) (r : FunctionLists) (d : ℕ) (ss : List SignatureTree) (c : Candidate) → Contains (usable_from goal o r d ss) c → IsOf o r ss c
is_of goal o r d [] c h = absurd (omega (h.1, arith))
is_of goal o r d (s ∷ ss) c h =
    either (Contains-append_cases (filter_map (usable goal r d s) (lengths o.target r.head s)) (usable_from goal o r (d + 1) ss) c h) (λ k. is_of goal o r (d + 1) ss c k)
  where
    either : Contains (filter_map (usable goal r d s) (lengths o.target r.head s)) c ⊎ Contains (usable_from goal o r (d + 1) ss) c →
        (Contains (usable_from goal o r (d + 1) ss) c → IsOf o r ss c) → IsOf o r (s ∷ ss) c
    either (inr a) next = let k = next a in record { signature = later s c.signature ss k.signature; length = k.length }
    either (inl a) next =
        let g = given (usable goal r d s) (lengths o.target r.head s) c a in
        let e = usable_is d s g.of (lanes_at g.of.isa g.of.len (wds r.head s) goal.vl) c (is_usable goal.isa g.of.isa) g.is in
        record {
          signature = subst (λ (x : SignatureTree). Contains (s ∷ ss) x) e.0 (here s ss);
          length = subst (λ (x : SignatureTree). Contains (lengths o.target r.head x) c.length) e.0
              (subst (λ (l : Length). Contains (lengths o.target r.head s) l) e.1 g.among);
        }

-- what is known of a candidate of a slot at the running number of lanes
pub record IsCandidate (o : ObjectLists) (r : FunctionLists) (slot : CallSite) (n : ℕ) (c : Candidate) : Type 0 where
  pub of : IsOf o r r.directives c
  pub lanes : c.lanes ≡ n
  pub fitting : is_fitting r slot c ≡ true

is_candidate : (goal : Goal) (m : Made) (x : EntryLists) (slot : CallSite) (r : FunctionLists) (c : Candidate) → slice_get m.object.functions slot.function ≡ Some r →
    Contains (choices goal m x slot) c → IsCandidate m.object r slot x.lanes c
is_candidate goal m x slot r c e h =
    let k = kept (λ (c : Candidate). (c.lanes == x.lanes) && not (x.lanes == 1)) (candidates goal m.object (is_whole x.kind) slot) c h in
    let a = subst (λ (o : Option FunctionLists). Contains (candidates_of goal m.object (is_whole x.kind) slot o) c) e k.among in
    let q = kept (λ (c : Candidate). is_allowed (is_whole x.kind) slot c && is_fitting r slot c) (variants_of goal m.object r) c a in
    record {
      of = is_of goal m.object r 0 r.directives c q.among;
      lanes = (Decides-eqb c.lanes x.lanes).0 (both_first (c.lanes == x.lanes) (not (x.lanes == 1)) k.passes);
      fitting = both_second (is_allowed (is_whole x.kind) slot c) (is_fitting r slot c) q.passes;
    }

-- ---- the target

variant_kind : (b : Bool) (k : EntryKind) → k ≡ kind_of_variant b → IsVariantKind k
variant_kind true k e = subst IsVariantKind (sym e) tt
variant_kind false k e = subst IsVariantKind (sym e) tt

-- the candidate's entry is a variant of the callee
is_variant : (o : ObjectLists) (slot : CallSite) (text : List ℕ) (f : Definition) (n : ℕ) (c : Candidate) (y : EntryLists) → (t : TellsOf o slot text f) → IsCandidate o t.row slot n c → IsVariantEntry text c y → IsVariant text f c.signature y
is_variant o slot text f n c y t h v = record {
  length = c.length;
  among = subst (λ (x : HeadTypes). Contains (lengths f.unit.target x c.signature) c.length) t.head
      (subst (λ (x : Target). Contains (lengths x t.row.head c.signature) c.length) t.target h.of.length);
  kind = variant_kind c.length.masked y.kind v.kind;
  named = v.named;
}

may_variant : (t : Setting) (c : CallText) (slot : CallSite) (n : ℕ) (y : EntryLists) (b : Bool) → MayCallVariant t c slot n y → MayCall t c slot n y (kind_of_variant b)
may_variant t c slot n y true h = h
may_variant t c slot n y false h = h

-- THE TARGET: what the entry that an image gives a slot does is what the call means
module _ (units : List Subject) (image : Tables) (turns : ℕ) (d : Definition) (s : Site) (array : List ℕ → ℕ) (c : CallText) (m : Made) (slot linked : CallSite) (n : ℕ) (y : EntryLists) (f : Definition)
    (q : IsLinkedCall units image turns d s c m slot linked n y f) where
  abbrev text : List ℕ
  text = text_of d.unit.texts c.callee

  abbrev place : Setting
  place = setting_of units image turns d s array

  -- the name is not that of the built-in function
  means_it : means units turns text ≡ scalar_call place.context c.callee
  means_it = λ i ds cells. call_by (call_of units turns) (sym q.own i) text ds (record { memory = cells; events = [] })

  runs_here : runs image turns n ≡ s.calls n
  runs_here = sym (deeper image turns 63 64 n (omega arith) q.within) ∙ ap (λ (g : ℕ → Called). g n) (sym q.calls)

  runs_as : RunsAs (arrays_of units) (bodies_of image) (param_types f) (means units turns text) (runs image turns n) →
      RunsAs (arrays_of units) (bodies_of image) (types_called c) (scalar_call place.context c.callee) (s.calls n)
  runs_as h =
      subst (λ (ts : List CType). RunsAs (arrays_of units) (bodies_of image) ts (scalar_call place.context c.callee) (s.calls n)) (sym q.types)
      (subst (λ (g : List Datum → Cells → Value). RunsAs (arrays_of units) (bodies_of image) (param_types f) g (s.calls n)) means_it
      (subst (λ (g : Called). RunsAs (arrays_of units) (bodies_of image) (param_types f) (means units turns text) g) runs_here h))

  on_lanes : (ks : List Kind) (lanes : ℕ) → RunsOnLanes (arrays_of units) (bodies_of image) (param_types f) ks (means units turns text) lanes (runs image turns n) →
      RunsOnLanes (arrays_of units) (bodies_of image) (types_called c) ks (scalar_call place.context c.callee) lanes (s.calls n)
  on_lanes ks lanes h =
      subst (λ (ts : List CType). RunsOnLanes (arrays_of units) (bodies_of image) ts ks (scalar_call place.context c.callee) lanes (s.calls n)) (sym q.types)
      (subst (λ (g : List Datum → Cells → Value). RunsOnLanes (arrays_of units) (bodies_of image) (param_types f) ks g lanes (s.calls n)) means_it
      (subst (λ (g : Called). RunsOnLanes (arrays_of units) (bodies_of image) (param_types f) ks (means units turns text) lanes g) runs_here h))

  scalar_target : IsScalarEntry text y → MayCall place c linked n y y.kind
  scalar_target is = at is.kind
    where
      at : (y.kind ≡ Ordinary) ⊎ (y.kind ≡ Scalar) → MayCall place c linked n y y.kind
      at (inl e) = subst (λ (k : EntryKind). MayCall place c linked n y k) (sym e) (record {
        caller = q.caller e;
        lanes = q.lanes e;
        does = runs_as (q.agrees.ordinary turns q.limit n y q.entry e is.named);
      })
      at (inr e) = subst (λ (k : EntryKind). MayCall place c linked n y k) (sym e) (record {
        lanes = q.lane e;
        does = on_lanes [] 1 (q.agrees.scalar turns q.limit n y q.entry e is.named);
      })

  variant_target : (k : Candidate) → Contains (choices (goal_of image) m s.entry slot) k → IsVariantEntry text k y → MayCall place c linked n y y.kind
  variant_target k among is =
      subst (λ (q : EntryKind). MayCall place c linked n y q) (sym is.kind)
      (may_variant place c linked n y k.length.masked (record { lanes = is.lane_count ∙ x.lanes; fits = fits; does = does }))
    where
      x : IsCandidate m.object q.tells.row slot s.entry.lanes k
      x = is_candidate (goal_of image) m s.entry slot q.tells.row k q.tells.at among

      shapes : slot_shapes slot ≡ slot_shapes linked
      shapes = ap (map (λ (b : SlotArg). b.shape)) (sym q.slots.args)

      row_types : q.tells.row.head.params ≡ types_called c
      row_types = ap (λ (h : HeadTypes). h.params) q.tells.head ∙ sym q.types

      fits : all_match (slot_shapes linked) (types_called c) y.params (slot_shapes linked) ≡ true
      fits =
          subst (λ (ps : List Param). all_match (slot_shapes linked) (types_called c) ps (slot_shapes linked) ≡ true) (sym is.params)
          (subst (λ (ts : List CType). all_match (slot_shapes linked) ts k.signature.params (slot_shapes linked) ≡ true) row_types
          (subst (λ (ss : List Shape). all_match ss q.tells.row.head.params k.signature.params ss ≡ true) shapes x.fitting))

      does : RunsOnLanes (arrays_of units) (bodies_of image) (types_called c) (kinds_in y.params) (scalar_call place.context c.callee) y.lanes (s.calls n)
      does =
          subst (λ (ps : List Param). RunsOnLanes (arrays_of units) (bodies_of image) (types_called c) (kinds_in ps) (scalar_call place.context c.callee) y.lanes (s.calls n)) (sym is.params)
          (on_lanes (kinds_of k.signature) y.lanes
          (q.agrees.variants turns q.limit n y k.signature q.entry (q.tells.signatures k.signature x.of.signature) (is_variant m.object slot text f s.entry.lanes k y q.tells x is)))

  target_is_right : (by : Option Candidate) → IsSomeOf (choices (goal_of image) m s.entry slot) by → IsTargetBy text by y → MayCall place c linked n y y.kind
  target_is_right None among is = scalar_target is
  target_is_right (Some k) among is = variant_target k among is

  pub call_is_right : MayCall place c linked n y y.kind
  call_is_right = target_is_right q.target.by q.target.among (subst (λ (name : List ℕ). IsTargetBy name q.target.by y) q.callee q.target.is)
