-- The masks of a body, and the body behind them.
use Rattle.std.proofs.Common.{arith, sym, ◌≡◌, ℕ, ◌+◌, ◌*◌, ◌≤◌, ◌<◌, List, [], ◌∷◌, ◌++◌, length, refl, subst, ap, ◌∙◌, Some, Ok}
use Rattle.vk_kinds.specs.declared.heads.CType.{CType}
use Rattle.vk_kinds.specs.declared.heads.CType.TheVariants.{Int}
use Rattle.vk_ast.specs.Statements.{StmtTrees, all_stmt_nodes}
use Rattle.vk_rules_book.specs.Scopes.{Scope}
use Rattle.vk_meaning.specs.Statements.{run_all}
use Rattle.vk_code.specs.declared.instruction.Operation.TheVariants.{MaskAnd}
use Rattle.vk_lane.specs.Writes.{Writes}
use Rattle.vk_construct.specs.Adds.{Adds, Written}
use Rattle.vk_construct.specs.Computes.{Table}
use Rattle.vk_construct.proofs.Adding.{before, table_more, type_kept}
use Rattle.vk_construct.proofs.Instructions.{adds_mask_and}
use Rattle.vk_construct_statements.specs.Follows.{body_masks}
use Rattle.vk_construct_statements.specs.Statements.{Meets}
use Rattle.vk_construct_statements.proofs.Bodies.{apart_body}
use Rattle.vk_construct_statements.proofs.Functions.{flow_function}
use Rattle.vk_flat.specs.declared.emitter.Emitter.{Emitter}
use Rattle.vk_flat.specs.declared.emitter.Place.{Place}
use Rattle.vk_flat.specs.declared.locals.Local.{Local}
use Rattle.vk_flat.specs.Emitters.{HasBase, HasPut, IsPlace, with_register, written_of}
use Rattle.vk_flat.specs.Locals.{ArePlaces}
use Rattle.vk_flat.proofs.Grown.{fresh_then, put_mask, put_piece}
use Rattle.vk_flat.proofs.Steps.{new_place, old_place}
use Rattle.vk_flat_statements.specs.Frames.{HasGrown, IsReady}
use Rattle.vk_flat_statements.specs.Statements.{StandFor, inner_point, returning}
use Rattle.vk_flat_statements.proofs.Standing.{stands_behind}
use Rattle.vk_flat_nested.specs.Nested.{CompilesAll}
use Rattle.vk_flat_bodies.specs.Bodies.{Begins, EmitsBody}

pub meets : (a b : Written) (d : ℕ) → HasPut a b 0 (MaskAnd d 0 0) → 0 < d → d < a.masks → Adds a b (Meets d 0 0) 1 0
meets a b d h some ld = adds_mask_and a b h.instr d 0 0 (put_piece a b _ _ h) h.mask (record { some = some; there = put_mask a b _ _ h d ld }) (put_mask a b _ _ h 0 (omega (arith, some, ld))) (put_mask a b _ _ h 0 (omega (arith, some, ld))) h.operation

-- what stands for variables does so with a register more
stands_with : (a b : Written) (locals : List Local) (scope : Scope) (tb : Table) (d : Place) → b ≡ with_register a d.ty → StandFor a locals scope tb → StandFor b locals scope tb
stands_with a b locals scope tb d e st = subst (λ w. StandFor w locals scope tb) (sym e) (record {
  names = st.names;
  count = st.count;
  registers = table_more (with_register a d.ty) tb (length a.regs) (length (a.regs ++ Int d.ty ∷ [])) (longer a.regs (Int d.ty)) (record {
    typed = λ v l. before a.regs (Int d.ty ∷ []) (tb.reg v) (tb.ty v) (st.registers.typed v l);
    below = st.registers.below;
    apart = st.registers.apart;
  });
})
  where
    longer : (ts : List CType) (t : CType) → length ts ≤ length (ts ++ t ∷ [])
    longer [] t = omega arith
    longer (u ∷ ts) t = omega (arith, longer ts t)

module _ (old mid : Emitter) (locals : List Local) (places : ArePlaces (written_of old) locals) (h : Begins old mid) where
  begun_kept : (x : Place) → IsPlace (written_of old) x → IsPlace (written_of mid) x
  begun_kept x p = type_kept h.two (written_of mid) _ 1 0 x.register (Int x.ty) h.third (type_kept h.one h.two _ 1 0 x.register (Int x.ty) h.second (type_kept (written_of old) h.one _ 1 0 x.register (Int x.ty) h.first p))

  begun_stands : (scope : Scope) (tb : Table) → StandFor (written_of old) locals scope tb → StandFor (written_of mid) locals scope tb
  begun_stands scope tb st = stands_behind h.two (written_of mid) _ 1 0 locals scope tb h.third (stands_behind h.one h.two _ 1 0 locals scope tb h.second (stands_behind (written_of old) h.one _ 1 0 locals scope tb h.first st))

  module _ (with_ : Emitter) (d : Place) (e : written_of with_ ≡ with_register (written_of mid) d.ty) (at : d.register ≡ length mid.regs.items) where
    one_longer : (ts : List CType) (t : CType) → length (ts ++ t ∷ []) ≡ length ts + 1
    one_longer [] t = refl
    one_longer (u ∷ ts) t = omega (arith, one_longer ts t)

    regs_more : length with_.regs.items ≡ length mid.regs.items + 1
    regs_more = ap (λ (w : Written). length w.regs) e ∙ one_longer mid.regs.items (Int d.ty)

    pub body_count : (all last : Emitter) (n : ℕ) → HasGrown with_ all n → HasBase all last 0 → length last.regs.items + last.masks ≤ length old.regs.items + old.masks + 4 * n + 4
    body_count all last n g b = count (length old.regs.items) old.masks (length mid.regs.items) mid.masks (length with_.regs.items) with_.masks (length all.regs.items) all.masks (length last.regs.items) last.masks n
        h.registers h.most regs_more (ap (λ (w : Written). w.masks) e) g.count b.most b.masks
      where
        count : (r m r1 m1 r2 m2 r3 m3 r4 m4 n : ℕ) → r1 ≤ r → m1 ≤ m + 3 → r2 ≡ r1 + 1 → m2 ≡ m1 → r3 + m3 ≤ r2 + m2 + 4 * n → r4 ≤ r3 + 0 → m4 ≡ m3 → r4 + m4 ≤ r + m + 4 * n + 4
        count r m r1 m1 r2 m2 r3 m3 r4 m4 n a c f i j k l = omega (arith, a, c, f, i, j, k, l)

    pub ready_body : (n : ℕ) → old.params ≤ length old.regs.items → length old.regs.items + old.masks + 4 * n + 4 < 65536 → IsReady with_ locals body_masks n
    ready_body n params room = record {
      places = λ id x is. old_place (written_of mid) (written_of with_) d x.place e (begun_kept x.place (places id x is));
      params = params_most old.params (length old.regs.items) mid.params (length mid.regs.items) with_.params (length with_.regs.items) params h.params h.fewer (ap (λ (w : Written). w.params) e) regs_more;
      apart = apart_body;
      some_run = omega arith;
      some_loop = omega arith;
      some_stay = omega arith;
      masks = masks_more mid.masks with_.masks (ap (λ (w : Written). w.masks) e) h.least;
      room = room_more (length old.regs.items) old.masks (length mid.regs.items) mid.masks (length with_.regs.items) with_.masks n room h.registers h.most regs_more (ap (λ (w : Written). w.masks) e);
    }
      where
        params_most : (p r p1 r1 p2 r2 : ℕ) → p ≤ r → p1 ≡ p → r ≤ r1 → p2 ≡ p1 → r2 ≡ r1 + 1 → p2 ≤ r2
        params_most p r p1 r1 p2 r2 a b c f g = omega (arith, a, b, c, f, g)

        masks_more : (m n : ℕ) → n ≡ m → 4 ≤ m → 4 ≤ n
        masks_more m n f g = omega (arith, f, g)

        room_more : (r m r1 m1 r2 m2 n : ℕ) → r + m + 4 * n + 4 < 65536 → r1 ≤ r → m1 ≤ m + 3 → r2 ≡ r1 + 1 → m2 ≡ m1 → r2 + m2 + 4 * n < 65536
        room_more r m r1 m1 r2 m2 n a b c f g = omega (arith, a, b, c, f, g)

    pub body_emits : (all last : Emitter) (behind : List Local) (ss : StmtTrees) → CompilesAll with_ all locals behind (Some d) ss body_masks → Adds (written_of all) (written_of last) (λ q. Writes 3 d.register (λ j g. Ok 0)) 1 0 →
        EmitsBody (written_of old) (written_of last) locals d ss
    body_emits all last behind ss c p = record {
      code = λ scope tb st. let l = c.code.code scope 0 tb (stands_with (written_of mid) (written_of with_) locals scope tb d e (begun_stands scope tb st)) in
          flow_function (written_of old) h.one h.two (written_of mid) (written_of all) (written_of last) d.ty d.register tb l.table (λ z. run_all (returning (Int d.ty) z) (inner_point scope 0) ss) (16 * all_stmt_nodes ss) 0
          there h.first h.second h.third (fresh_then (written_of mid) (written_of with_) d.ty e (written_of all) _ (16 * all_stmt_nodes ss) 0 l.code) p;
      place = there;
    }
      where
        there : IsPlace (written_of last) d
        there = type_kept (written_of all) (written_of last) _ 1 0 d.register (Int d.ty) p (c.code.kept d (new_place (written_of mid) (written_of with_) d e at))
