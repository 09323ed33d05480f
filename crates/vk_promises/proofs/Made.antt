-- The codes that the makers promise are the codes of a function.
use Rattle.std.proofs.Common.{◌≡◌, ℕ, zero, suc, ◌==◌, ◌&&◌, Bool, true, false, List, [], ◌∷◌, map, flat_map, length, take, slice_get, is_none, Some, refl, subst, sym, ap, arith, ◌∙◌, ◌⊎◌, inl, inr, Contains}
use Rattle.std.proofs.lemmas.Bool.Decides.{Decides-eqb}
use Rattle.std.proofs.lemmas.List.Elements.{Contains-append_left, Contains-append_cases}
use Rattle.vk_kinds.specs.declared.heads.CType.{CType}
use Rattle.vk_kinds.specs.Sizes.{SignatureTree}
use Rattle.vk_kinds.specs.Types.{ctype_number}
use Rattle.vk_ast.specs.declared.names.NameId.{NameId}
use Rattle.vk_rules_book.specs.Rules.{Subject}
use Rattle.vk_rules_book.specs.Scopes.{text_of}
use Rattle.vk_meaning.specs.Programs.{Definition, first_point}
use Rattle.vk_code.specs.Listing.{Listing, LoopBody, Routine, SimdSite, reg_type}
use Rattle.vk_code.specs.Tests.{pairs}
use Rattle.vk_code.specs.Valid.{body_regs, has_params, is_good_body, is_good_routine, is_type_of}
use Rattle.vk_object.specs.Objects.{CodeLists}
use Rattle.vk_sites.specs.Bounds.{IsShort, function_size, own_loops}
use Rattle.vk_sites.specs.Loops.{LoopText}
use Rattle.vk_sites.specs.Objects.{objects_of}
use Rattle.vk_joins.specs.Codes.{AreBodiesOf, AreCodesOf, AreLaneCodesOf, AreSame, IsBodyOf, IsCodeOf, Symbols, calls_told, names_in_body, names_in_instrs, names_made, names_told, plain}
use Rattle.vk_compose.proofs.Chains.{Every}
use Rattle.vk_joins_laws.proofs.Lists.{contains_map, unmap}
use Rattle.vk_promises.specs.Codes.{AreGoodBodies, HasOpenSite, IsClosed, IsClosedSite, IsOpenSite, given_types}
use Rattle.vk_promises.specs.Makers.{AllBodies, AllLaneCodes, AreMade, IsBodyCode, IsScalarCode}
use Rattle.vk_promises.proofs.Within.{Within, inside_of}

-- ---- the bodies

every_at : (P : LoopText → Type 0) (ls : List LoopText) (k : ℕ) (l : LoopText) → Every P ls → slice_get ls k ≡ Some l → P l
every_at P [] zero l h e = cc
every_at P [] (suc k) l h e = cc
every_at P (x ∷ xs) zero l h e = subst P (same x l e) h.0
  where
    same : (a b : LoopText) → slice_get (a ∷ xs) 0 ≡ Some b → a ≡ b
    same a b q = cc
every_at P (x ∷ xs) (suc k) l h e = every_at P xs k l h.1 e

-- each loop of the text has its body among the code's loops
abbrev EachBody : Symbols → Subject → List LoopText → List SimdSite → Type 0
EachBody y u ls sites = (k : ℕ) (l : LoopText) (s : SimdSite) → slice_get ls k ≡ Some l → slice_get sites k ≡ Some s → IsBodyOf y u l s

bodies_of : (y : Symbols) (u : Subject) (ls : List LoopText) (sites : List SimdSite) → length ls ≡ length sites → EachBody y u ls sites → AreBodiesOf y u ls sites
bodies_of y u [] [] e h = tt
bodies_of y u [] (s ∷ sites) e h = absurd (omega (e, arith))
bodies_of y u (l ∷ ls) [] e h = absurd (omega (e, arith))
bodies_of y u (l ∷ ls) (s ∷ sites) e h = (h 0 l s refl refl, bodies_of y u ls sites (omega (e, arith)) (λ k m v a b. h (suc k) m v a b))

-- ---- a good body

both_true : (a b : Bool) → a ≡ true → b ≡ true → (a && b) ≡ true
both_true true b h k = k
both_true false b h k = cc

-- registers of the parameters' types
same_types : (c : Routine) (ts : List CType) (rs : List ℕ) → map ctype_number ts ≡ map (reg_type c.regs) rs → pairs (is_type_of c) ts rs ≡ true
same_types c [] [] e = refl
same_types c [] (r ∷ rs) e = cc
same_types c (t ∷ ts) [] e = cc
same_types c (t ∷ ts) (r ∷ rs) e = both_true (ctype_number t == reg_type c.regs r) (pairs (is_type_of c) ts rs) ((Decides-eqb (ctype_number t) (reg_type c.regs r)).1 cc) (same_types c ts rs cc)

good_body : (y : Symbols) (d : Definition) (l : LoopText) (c : Routine) (rs : List ℕ) (b : Routine) → IsBodyCode y d l b → map (reg_type c.regs) rs ≡ map ctype_number (given_types l) → is_good_body y.around c rs b ≡ true
good_body y d l c rs b f e =
    both_true (b.lane_code && is_none b.result && (b.loops == 0) && has_params c rs b) (is_good_routine y.around b)
    (both_true (b.lane_code && is_none b.result && (b.loops == 0)) (has_params c rs b)
    (both_true (b.lane_code && is_none b.result) (b.loops == 0)
    (both_true b.lane_code (is_none b.result) f.lane_code (ap is_none f.no_result)) ((Decides-eqb b.loops 0).1 f.no_loops))
    (same_types c (take b.params b.regs) rs (f.types ∙ sym e))) f.good

-- ---- the closed code of a function

closed_types : (c t : Routine) (l : LoopText) (s u : SimdSite) (body : Routine) → t ≡ c → IsClosedSite l s u body → IsOpenSite c l s → map (reg_type t.regs) (body_regs u) ≡ map ctype_number (given_types l)
closed_types c t l s u body h k o = (λ i. reg_type (h i).regs (k.low i) ∷ map (reg_type (h i).regs) (k.captures i)) ∙ o.types

module _ (y : Symbols) (d : Definition) (signatures : List SignatureTree) (c closed : Listing) (flat : IsScalarCode y d signatures c)
    (is : IsClosed (own_loops d) c closed) (bodies : AllBodies y d closed) where
  each_body : EachBody y d.unit (own_loops d) closed.loops
  each_body k l u a b =
      let x : HasOpenSite c l k u = is.loops k l u a b in
      let o : IsOpenSite c.routine l x.site = flat.sites k l x.site a x.at in
      let f : IsBodyCode y d l x.body = bodies k l u x.body a b x.closed.own_code in
      record { code = x.body; own_code = x.closed.own_code; simdlen = x.closed.simdlen ∙ o.simdlen; calls = f.calls; names = f.names; short = f.short }

  good_bodies : AreGoodBodies y (own_loops d) closed
  good_bodies k l u body a b e =
      let x : HasOpenSite c l k u = is.loops k l u a b in
      let o : IsOpenSite c.routine l x.site = flat.sites k l x.site a x.at in
      good_body y d l closed.routine (body_regs u) body (bodies k l u body a b e) (closed_types c.routine closed.routine l x.site u x.body is.routine x.closed o)

  all_bodies : AreBodiesOf y d.unit (own_loops d) closed.loops
  all_bodies = bodies_of y d.unit (own_loops d) closed.loops (sym flat.site_count ∙ sym is.count) each_body

-- the names in the bodies are the text's
body_names : (y : Symbols) (u : Subject) (xs : List NameId) (l : LoopText) (site : SimdSite) (text : List ℕ) → IsBodyOf y u l site → Within xs l → Contains (names_in_body y site.body) text → Contains (map (text_of u.texts) xs) text
body_names y u xs l site text b w h =
    let k : Contains (names_in_instrs y b.code.instrs) text = subst (λ (o : LoopBody). Contains (names_in_body y o) text) b.own_code h in
    let n = unmap (text_of u.texts) (objects_of l.inside l.body) text (b.names.there text k) in
    subst (λ (t : List ℕ). Contains (map (text_of u.texts) xs) t) n.is (contains_map (text_of u.texts) xs n.of (w n.of n.among))

all_names : (y : Symbols) (u : Subject) (xs : List NameId) (ls : List LoopText) (sites : List SimdSite) (text : List ℕ) → AreBodiesOf y u ls sites → Every (Within xs) ls →
    Contains (flat_map (λ (l : SimdSite). names_in_body y l.body) sites) text → Contains (map (text_of u.texts) xs) text
all_names y u xs [] [] text b w h = absurd (omega (h.1, arith))
all_names y u xs [] (s ∷ sites) text b w h = absurd b
all_names y u xs (l ∷ ls) [] text b w h = absurd b
all_names y u xs (l ∷ ls) (s ∷ sites) text b w h =
    either (Contains-append_cases (names_in_body y s.body) (flat_map (λ (v : SimdSite). names_in_body y v.body) sites) text h) (λ k. all_names y u xs ls sites text b.1 w.1 k)
  where
    either : Contains (names_in_body y s.body) text ⊎ Contains (flat_map (λ (v : SimdSite). names_in_body y v.body) sites) text →
        (Contains (flat_map (λ (v : SimdSite). names_in_body y v.body) sites) text → Contains (map (text_of u.texts) xs) text) → Contains (map (text_of u.texts) xs) text
    either (inl a) next = body_names y u xs l s text b.0 w.0 a
    either (inr a) next = next a

module _ (y : Symbols) (d : Definition) (signatures : List SignatureTree) (c closed : Listing) (flat : IsScalarCode y d signatures c)
    (is : IsClosed (own_loops d) c closed) (bodies : AllBodies y d closed) where
  closed_names : AreSame (names_told y closed) (names_made d.unit (first_point d) d.body)
  closed_names = record { there = there; back = back }
    where
      inner : List (List ℕ)
      inner = flat_map (λ (l : SimdSite). names_in_body y l.body) closed.loops

      either : (text : List ℕ) → Contains (names_in_instrs y closed.routine.instrs) text ⊎ Contains inner text → Contains (names_made d.unit (first_point d) d.body) text
      either text (inl a) = flat.names.there text (subst (λ (r : Routine). Contains (names_in_instrs y r.instrs) text) is.routine a)
      either text (inr a) =
          all_names y d.unit (objects_of (first_point d) d.body) (own_loops d) closed.loops text (all_bodies y d signatures c closed flat is bodies) (inside_of (first_point d) d.body) a

      there : (text : List ℕ) → Contains (names_told y closed) text → Contains (names_made d.unit (first_point d) d.body) text
      there text h = either text (Contains-append_cases (names_in_instrs y closed.routine.instrs) inner text h)

      back : (text : List ℕ) → Contains (names_made d.unit (first_point d) d.body) text → Contains (names_told y closed) text
      back text h = Contains-append_left (names_in_instrs y closed.routine.instrs) inner text (subst (λ (r : Routine). Contains (names_in_instrs y r.instrs) text) (sym is.routine) (flat.names.back text h))

  closed_code : IsCodeOf y d.unit plain (first_point d) d.body closed
  closed_code = record {
    valid = flat.valid closed is (good_bodies y d signatures c closed flat is bodies);
    calls = ap (calls_told y) is.routine ∙ flat.calls;
    names = closed_names;
  }

  closed_short : IsShort closed.routine (function_size d)
  closed_short = subst (λ (r : Routine). IsShort r (function_size d)) (sym is.routine) flat.short

lane_codes_are : (y : Symbols) (d : Definition) (ss : List SignatureTree) (cs : List Listing) → AllLaneCodes y d ss cs → AreLaneCodesOf y d ss cs
lane_codes_are y d [] [] h = tt
lane_codes_are y d [] (c ∷ cs) h = absurd h
lane_codes_are y d (s ∷ ss) [] h = absurd h
lane_codes_are y d (s ∷ ss) (c ∷ cs) h = (record { is = h.0.is; short = h.0.short }, lane_codes_are y d ss cs h.1)

-- THE CODES: what the makers promise makes the codes of a function
pub codes_are : (y : Symbols) (d : Definition) (signatures : List SignatureTree) (codes : CodeLists) → AreMade y d signatures codes → AreCodesOf y d signatures codes
codes_are y d signatures codes h = record {
  scalar = closed_code y d signatures h.open_code codes.scalar h.scalar h.closed h.bodies;
  bodies = all_bodies y d signatures h.open_code codes.scalar h.scalar h.closed h.bodies;
  scalar_short = closed_short y d signatures h.open_code codes.scalar h.scalar h.closed h.bodies;
  directives = lane_codes_are y d signatures codes.lanes h.directives;
}
