-- The tables of the image that tables stand for are these tables, where their fields fit.
use Rattle.std.proofs.Common.{◌≡◌, ℕ, ◌+◌, ◌-◌, ◌^◌, ◌<◌, ◌==◌, Bool, true, false, cond, eqb, ltb, List, [], ◌∷◌, ◌++◌, length, map, Option, Some, None, Ok, ℤ, pos, negsuc, refl, sym, ap, ap₂, ◌∙◌, arith}
use Rattle.std.specs.Prelude.{slice_get}
use Rattle.std.proofs.lemmas.Bool.{eqb-true}
use Rattle.vk_kinds.specs.declared.heads.CType.{CType}
use Rattle.vk_format.specs.Codec.{Codec, FitAfter}
use Rattle.vk_code_format.specs.declared.rows.ArgRow.{ArgRow}
use Rattle.vk_code_format.specs.declared.rows.BodyRow.{BodyRow}
use Rattle.vk_code_format.specs.declared.rows.BodyRow.TheVariants.{Inline, Number}
use Rattle.vk_code_format.specs.declared.rows.CodeRow.{CodeRow}
use Rattle.vk_code_format.specs.declared.rows.FrontRow.{FrontRow}
use Rattle.vk_code_format.specs.declared.rows.LoopRow.{LoopRow}
use Rattle.vk_code_format.specs.declared.rows.ParamKind.{ParamKind}
use Rattle.vk_code_format.specs.declared.rows.ParamKind.TheVariants as param_kind
use Rattle.vk_code_format.specs.declared.rows.ParamRow.{ParamRow}
use Rattle.vk_code_format.specs.declared.rows.RoutineRow.{RoutineRow}
use Rattle.vk_code_format.specs.declared.rows.ShapeKind.{ShapeKind}
use Rattle.vk_code_format.specs.declared.rows.ShapeKind.TheVariants.{Vector, Uniform, By, Along, Literal, Same}
use Rattle.vk_code_format.specs.declared.rows.SlotRow.{SlotRow}
use Rattle.vk_code_format.specs.Codes.{argument, body, code, front, has_value, image_slot, in_image, loop_site}
use Rattle.vk_code_format.specs.Parameters.{param, param_of, param_row, signed, signed_bits, step_by, step_row, value_fits}
use Rattle.vk_code_format.specs.Values.{arg_of, arg_row, body_of, body_row, call_of, code_row, listing_of, loop_row, routine_of, routine_row, site_of, slot_row}
use Rattle.vk_image_format.specs.declared.rows.RawArray.{RawArray}
use Rattle.vk_image_format.specs.declared.rows.RawEntry.{RawEntry}
use Rattle.vk_image_format.specs.declared.rows.RawImage.{RawImage}
use Rattle.vk_image_format.specs.Image.{entry, image_bytes, image_faults, image_format, image_table, params_of, table_bytes}
use Rattle.vk_image_format.specs.Values.{array_of, entry_of, raw_array, raw_entry, raw_image, tables_of}
use Rattle.vk_format.specs.Bytes.{IsBytes}
use Rattle.vk_format.specs.Format.{judge}
use Rattle.vk_format.proofs.Inverse.{whole_takes}
use Rattle.vk_image_format.proofs.Inverse.{image_law}
use Rattle.vk_object_laws.proofs.Lists.{passed}

-- members that fit are had again
all_again : {R A B : Type 0} (c : List A → Codec R A) (f : A → B) (g : B → A) → ((before : List A) (x : A) → (c before).fits x → g (f x) ≡ x)
    → (before xs : List A) → FitAfter c before xs → map g (map f xs) ≡ xs
all_again c f g each before [] h = refl
all_again c f g each before (x ∷ xs) h = ap₂ (λ y ys. y ∷ ys) (each before x h.0) (all_again c f g each (before ++ x ∷ []) xs h.1)

every_again : {A B : Type 0} (f : A → B) (g : B → A) → ((x : A) → g (f x) ≡ x) → (xs : List A) → map g (map f xs) ≡ xs
every_again f g each [] = refl
every_again f g each (x ∷ xs) = ap₂ (λ y ys. y ∷ ys) (each x) (every_again f g each xs)

-- ---- numbers in two's complement

bits_by : (n : ℕ) → n < 2 ^ 32 → (b : Bool) → ltb n (2 ^ 31) ≡ b → signed_bits (cond b (pos n) (negsuc (2 ^ 32 - 1 - n))) ≡ n
bits_by n h true e = refl
bits_by n h false e = omega (arith, h)

bits_again : (n : ℕ) → n < 2 ^ 32 → signed_bits (signed n) ≡ n
bits_again n h = bits_by n h (ltb n (2 ^ 31)) refl

-- ---- arguments of calls

no_value : (k : ShapeKind) (v : ℕ) → (v == 0) ≡ true → 0 ≡ v
no_value k v h = sym (eqb-true v 0 h)

arg_by : (reg : ℕ) (k : ShapeKind) (v : ℕ) → v < 2 ^ 32 → has_value k v ≡ true → arg_row (arg_of (record { reg = reg; kind = k; value = v })) ≡ record { reg = reg; kind = k; value = v }
arg_by reg Vector v h f = ap (λ n. record { reg = reg; kind = Vector; value = n }) (no_value Vector v f)
arg_by reg Uniform v h f = ap (λ n. record { reg = reg; kind = Uniform; value = n }) (no_value Uniform v f)
arg_by reg By v h f = ap (λ n. record { reg = reg; kind = By; value = n }) (bits_again v h)
arg_by reg Along v h f = refl
arg_by reg Literal v h f = ap (λ n. record { reg = reg; kind = Literal; value = n }) (bits_again v h)
arg_by reg Same v h f = refl

arg_again : (before : List ArgRow) (a : ArgRow) → (argument {R = RawImage}).fits a → arg_row (arg_of a) ≡ a
arg_again before a h = arg_by a.reg a.kind a.value h.1.1.0.0 (passed (has_value a.kind) a.value a.value h.1.1.0.1)

slot_again : (before : List SlotRow) (s : SlotRow) → (image_slot {R = RawImage}).fits s → slot_row (call_of s) ≡ s
slot_again before s h =
    ap (λ args. record { function = s.function; always = s.always; result = s.result; args = args })
    (all_again (λ (b : List ArgRow). argument {R = RawImage}) arg_of arg_row arg_again [] s.args h.1.1.1.0.0.1)

-- ---- code

slots_again : (codes : ℕ) (f : FrontRow) → (front {R = RawImage} (in_image codes)).fits f → map slot_row (map call_of f.slots) ≡ f.slots
slots_again codes f h = all_again (λ (b : List SlotRow). image_slot {R = RawImage}) call_of slot_row slot_again [] f.slots h.1.1.1.1.1.0.0.1.0.1

routine_again : (codes loops : ℕ) (r : RoutineRow) → (front {R = RawImage} (in_image codes)).fits r.front → routine_row (routine_of r loops) ≡ r
routine_again codes loops r h =
    ap (λ slots. record {
      front = record { lane_code = r.front.lane_code; result = r.front.result; params = r.front.params; regs = r.front.regs; masks = r.front.masks; slots = slots };
      instrs = r.instrs;
    }) (slots_again codes r.front h)

body_again : (codes captures : ℕ) (b : BodyRow) → (body {R = RawImage} (in_image codes) captures).fits b → body_row (body_of b) ≡ b
body_again codes captures (Number n) h = refl
body_again codes captures (Inline r) h = absurd (no_number r h.0.1)
  where
    no_number : (r : RoutineRow) → Number 0 ≡ Inline r → ⊥
    no_number r e = cc

loop_again : (codes : ℕ) (before : List LoopRow) (l : LoopRow) → (loop_site {R = RawImage} (in_image codes)).fits l → loop_row (site_of l) ≡ l
loop_again codes before l h =
    ap (λ b. record { simdlen = l.simdlen; low = l.low; high = l.high; captures = l.captures; guards = l.guards; body = b }) (body_again codes (length l.captures) l.body h.1.1.1.1.1.0)

code_again : (codes : ℕ) (before : List CodeRow) (c : CodeRow) → (code {R = RawImage} (in_image codes)).fits c → code_row (listing_of c) ≡ c
code_again codes before c h =
    ap₂ (λ (r : RoutineRow) (ls : List LoopRow). record { routine = r; loops = ls })
    (routine_again codes (length c.loops) c.routine h.0)
    (all_again (λ (b : List LoopRow). loop_site {R = RawImage} (in_image codes)) site_of loop_row (loop_again codes) [] c.loops h.1.0.0.1.0.1)

-- ---- parameters of entries

step_by_again : (v : ℕ) (align : Option ℕ) (n : ℕ) (b : Bool) → eqb n 1 ≡ b → signed v ≡ pos n → v < 2 ^ 32 → step_row (step_by (pos n)) align ≡ record { kind = param_kind.By; value = v; align = align }
step_by_again v align n true e s h =
    let one : n ≡ 1 = eqb-true n 1 e in
    let same : v ≡ n = sym (bits_again v h) ∙ ap signed_bits s in
    rw (one) (ap (λ k. record { kind = param_kind.By; value = k; align = align }) (sym (same ∙ one)))
step_by_again v align n false e s h =
    let same : v ≡ n = sym (bits_again v h) ∙ ap signed_bits s in
    rw e (ap (λ k. record { kind = param_kind.By; value = k; align = align }) (sym same))

step_again : (v : ℕ) (align : Option ℕ) (z : ℤ) → signed v ≡ z → v < 2 ^ 32 → step_row (step_by z) align ≡ record { kind = param_kind.By; value = v; align = align }
step_again v align (pos n) s h = step_by_again v align n (eqb n 1) refl s h
step_again v align (negsuc n) s h = ap (λ k. record { kind = param_kind.By; value = k; align = align }) (sym (ap signed_bits s) ∙ bits_again v h)

param_by : (t : Option CType) (k : ParamKind) (v : ℕ) (align : Option ℕ) → v < 2 ^ 32 → value_fits t k v ≡ true → param_row (param_of (record { kind = k; value = v; align = align })) ≡ record { kind = k; value = v; align = align }
param_by t param_kind.Vector v align h f = ap (λ n. record { kind = param_kind.Vector; value = n; align = align }) (sym (eqb-true v 0 f))
param_by t param_kind.Uniform v align h f = ap (λ n. record { kind = param_kind.Uniform; value = n; align = align }) (sym (eqb-true v 0 f))
param_by t param_kind.By v align h f = step_again v align (signed v) refl h
param_by t param_kind.Along v align h f = refl

param_again : (before : List ParamRow) (p : ParamRow) → (param {R = RawImage} None).fits p → param_row (param_of p) ≡ p
param_again before p h = param_by None p.kind p.value p.align h.1.0.0 (passed (value_fits None p.kind) p.value p.value h.1.0.1)

entry_again : (codes : List CodeRow) (entries : ℕ) (before : List RawEntry) (e : RawEntry) → (entry {R = RawImage} codes entries before).fits e → raw_entry (entry_of e) ≡ e
entry_again codes entries before e h =
    ap (λ ps. record { front = record { name = e.front.name; code = e.front.code; params = ps }; targets = e.targets; loops = e.loops })
    (all_again (λ (b : List ParamRow). param {R = RawImage} None) param_of param_row param_again [] e.front.params h.0.0.1.1.0.0.1)

-- ---- the tables

pub tables_again : (i : RawImage) → (image_table {R = RawImage}).fits i → raw_image (tables_of i) ≡ i
tables_again i h =
    let header = h.0.1.0.1 in
    ap₂ (λ (cs : List CodeRow) (es : List RawEntry). record { target = i.target; isa = i.isa; vl = i.vl; main = i.main; arrays = map raw_array (map array_of i.arrays); codes = cs; entries = es })
    (all_again (λ (b : List CodeRow). code {R = RawImage} (in_image (length i.codes))) listing_of code_row (code_again (length i.codes)) [] i.codes header.1.1.1.1.1.0.0.1.1)
    (all_again (entry {R = RawImage} i.codes (length i.entries)) entry_of raw_entry (entry_again i.codes (length i.entries)) [] i.entries header.1.1.1.1.1.1.0.0.1.1)
    ∙ ap (λ given. record { target = i.target; isa = i.isa; vl = i.vl; main = i.main; arrays = given; codes = i.codes; entries = i.entries }) (every_again array_of raw_array (λ (a : RawArray). refl) i.arrays)

-- they have one spelling
pub spelled_again : (i : RawImage) → (image_table {R = RawImage}).fits i → image_bytes (tables_of i) ≡ table_bytes i
spelled_again i h = ap table_bytes (tables_again i h)

-- bytes that are read are those that are written
pub bytes_again : (bytes : List ℕ) (i : RawImage) → IsBytes bytes → judge image_format 0 bytes ≡ Ok i → bytes ≡ image_bytes (tables_of i)
bytes_again bytes i are h = let took = whole_takes image_faults image_table image_law bytes i are h in took.1 ∙ sym (spelled_again i took.0.0)
