-- The tables of the object that tables stand for are these tables, where their fields fit.
use Rattle.std.proofs.Common.{◌≡◌, ℕ, ◌+◌, ◌-◌, ◌^◌, ◌<◌, ◌==◌, Bool, true, false, cond, eqb, ltb, List, [], ◌∷◌, ◌++◌, length, map, Option, Some, None, Ok, ℤ, pos, negsuc, refl, sym, ap, ap₂, ◌∙◌, arith}
use Rattle.std.specs.Prelude.{is_some, slice_get}
use Rattle.std.specs.Option.{option_map}
use Rattle.std.proofs.lemmas.Bool.{eqb-true}
use Rattle.vk_kinds.specs.declared.heads.CType.{CType}
use Rattle.vk_kinds.specs.Sizes.{HeadTypes}
use Rattle.vk_kinds.specs.declared.kinds.Target.{Target}
use Rattle.vk_format.specs.Codec.{Codec, FitAfter, only_if}
use Rattle.vk_code_format.specs.declared.rows.ArgRow.{ArgRow}
use Rattle.vk_code_format.specs.declared.rows.BodyRow.{BodyRow}
use Rattle.vk_code_format.specs.declared.rows.BodyRow.TheVariants.{Inline, Number}
use Rattle.vk_code_format.specs.declared.rows.CodeRow.{CodeRow}
use Rattle.vk_code_format.specs.declared.rows.FrontRow.{FrontRow}
use Rattle.vk_code_format.specs.declared.rows.LoopRow.{LoopRow}
use Rattle.vk_code_format.specs.declared.rows.ParamKind.{ParamKind}
use Rattle.vk_code_format.specs.declared.rows.ParamKind.TheVariants as param_kind
use Rattle.vk_code_format.specs.declared.rows.ParamRow.{ParamRow}
use Rattle.vk_code_format.specs.declared.rows.RoutineRow.{RoutineRow}
use Rattle.vk_code_format.specs.declared.rows.ShapeKind.{ShapeKind}
use Rattle.vk_code_format.specs.declared.rows.ShapeKind.TheVariants.{Vector, Uniform, By, Along, Literal, Same}
use Rattle.vk_code_format.specs.declared.rows.SlotRow.{SlotRow}
use Rattle.vk_code_format.specs.Codes.{argument, body, code, front, has_value, in_object, loop_site, object_slot}
use Rattle.vk_code_format.specs.Parameters.{param, param_of, param_row, signed, signed_bits, step_by, step_row, value_fits}
use Rattle.vk_code_format.specs.Values.{arg_of, arg_row, body_of, body_row, call_of, code_row, listing_of, loop_row, routine_of, routine_row, site_of, slot_row}
use Rattle.vk_object_format.specs.declared.rows.RawCodes.{RawCodes}
use Rattle.vk_object_format.specs.declared.rows.RawData.{RawData}
use Rattle.vk_object_format.specs.declared.rows.RawDirective.{RawDirective}
use Rattle.vk_object_format.specs.declared.rows.RawFunction.{RawFunction}
use Rattle.vk_object_format.specs.declared.rows.RawObject.{RawObject}
use Rattle.vk_object_format.specs.Object.{directive, function, function_codes, object_bytes, object_faults, object_format, object_table, table_bytes}
use Rattle.vk_object_format.specs.Values.{codes_of, data_of, function_of, object_of, raw_codes, raw_data, raw_directive, raw_function, raw_object, signature_of}
use Rattle.vk_format.specs.Bytes.{IsBytes}
use Rattle.vk_format.specs.Format.{judge}
use Rattle.vk_format.proofs.Inverse.{whole_takes}
use Rattle.vk_object_format.proofs.Inverse.{object_law}
use Rattle.vk_object_laws.proofs.Lists.{passed}

-- members that fit are had again
all_again : {R A B : Type 0} (c : List A → Codec R A) (f : A → B) (g : B → A) → ((before : List A) (x : A) → (c before).fits x → g (f x) ≡ x)
    → (before xs : List A) → FitAfter c before xs → map g (map f xs) ≡ xs
all_again c f g each before [] h = refl
all_again c f g each before (x ∷ xs) h = ap₂ (λ y ys. y ∷ ys) (each before x h.0) (all_again c f g each (before ++ x ∷ []) xs h.1)

every_again : {A B : Type 0} (f : A → B) (g : B → A) → ((x : A) → g (f x) ≡ x) → (xs : List A) → map g (map f xs) ≡ xs
every_again f g each [] = refl
every_again f g each (x ∷ xs) = ap₂ (λ y ys. y ∷ ys) (each x) (every_again f g each xs)

-- ---- numbers in two's complement

bits_by : (n : ℕ) → n < 2 ^ 32 → (b : Bool) → ltb n (2 ^ 31) ≡ b → signed_bits (cond b (pos n) (negsuc (2 ^ 32 - 1 - n))) ≡ n
bits_by n h true e = refl
bits_by n h false e = omega (arith, h)

bits_again : (n : ℕ) → n < 2 ^ 32 → signed_bits (signed n) ≡ n
bits_again n h = bits_by n h (ltb n (2 ^ 31)) refl

-- ---- arguments of calls

no_value : (k : ShapeKind) (v : ℕ) → (v == 0) ≡ true → 0 ≡ v
no_value k v h = sym (eqb-true v 0 h)

arg_by : (reg : ℕ) (k : ShapeKind) (v : ℕ) → v < 2 ^ 32 → has_value k v ≡ true → arg_row (arg_of (record { reg = reg; kind = k; value = v })) ≡ record { reg = reg; kind = k; value = v }
arg_by reg Vector v h f = ap (λ n. record { reg = reg; kind = Vector; value = n }) (no_value Vector v f)
arg_by reg Uniform v h f = ap (λ n. record { reg = reg; kind = Uniform; value = n }) (no_value Uniform v f)
arg_by reg By v h f = ap (λ n. record { reg = reg; kind = By; value = n }) (bits_again v h)
arg_by reg Along v h f = refl
arg_by reg Literal v h f = ap (λ n. record { reg = reg; kind = Literal; value = n }) (bits_again v h)
arg_by reg Same v h f = refl

arg_again : (before : List ArgRow) (a : ArgRow) → (argument {R = RawObject}).fits a → arg_row (arg_of a) ≡ a
arg_again before a h = arg_by a.reg a.kind a.value h.1.1.0.0 (passed (has_value a.kind) a.value a.value h.1.1.0.1)

slot_again : (functions : ℕ) (before : List SlotRow) (s : SlotRow) → (object_slot {R = RawObject} functions).fits s → slot_row (call_of s) ≡ s
slot_again functions before s h =
    ap (λ args. record { function = s.function; always = s.always; result = s.result; args = args })
    (all_again (λ (b : List ArgRow). argument {R = RawObject}) arg_of arg_row arg_again [] s.args h.1.1.1.1.0.0.1)

-- ---- code

slots_again : (functions params : ℕ) (f : FrontRow) → (front {R = RawObject} (in_object functions params)).fits f → map slot_row (map call_of f.slots) ≡ f.slots
slots_again functions params f h = all_again (λ (b : List SlotRow). object_slot {R = RawObject} functions) call_of slot_row (slot_again functions) [] f.slots h.1.1.1.1.1.0.0.1.0.1

routine_again : (functions params loops : ℕ) (r : RoutineRow) → (front {R = RawObject} (in_object functions params)).fits r.front → routine_row (routine_of r loops) ≡ r
routine_again functions params loops r h =
    ap (λ slots. record {
      front = record { lane_code = r.front.lane_code; result = r.front.result; params = r.front.params; regs = r.front.regs; masks = r.front.masks; slots = slots };
      instrs = r.instrs;
    }) (slots_again functions params r.front h)

body_again : (functions captures : ℕ) (b : BodyRow) → (body {R = RawObject} (in_object functions captures) captures).fits b → body_row (body_of b) ≡ b
body_again functions captures (Number n) h = refl
body_again functions captures (Inline r) h = ap Inline (routine_again functions (1 + captures) 0 r h.0.0.0)

loop_again : (functions params : ℕ) (before : List LoopRow) (l : LoopRow) → (loop_site {R = RawObject} (in_object functions params)).fits l → loop_row (site_of l) ≡ l
loop_again functions params before l h =
    ap (λ b. record { simdlen = l.simdlen; low = l.low; high = l.high; captures = l.captures; guards = l.guards; body = b }) (body_again functions (length l.captures) l.body h.1.1.1.1.1.0)

code_again : (functions params : ℕ) (before : List CodeRow) (c : CodeRow) → (code {R = RawObject} (in_object functions params)).fits c → code_row (listing_of c) ≡ c
code_again functions params before c h =
    ap₂ (λ (r : RoutineRow) (ls : List LoopRow). record { routine = r; loops = ls })
    (routine_again functions params (length c.loops) c.routine h.0)
    (all_again (λ (b : List LoopRow). loop_site {R = RawObject} (in_object functions params)) site_of loop_row (loop_again functions params) [] c.loops h.1.0.0.1.0.1)

-- ---- directives

step_by_again : (v : ℕ) (align : Option ℕ) (n : ℕ) (b : Bool) → eqb n 1 ≡ b → signed v ≡ pos n → v < 2 ^ 32 → step_row (step_by (pos n)) align ≡ record { kind = param_kind.By; value = v; align = align }
step_by_again v align n true e s h =
    let one : n ≡ 1 = eqb-true n 1 e in
    let same : v ≡ n = sym (bits_again v h) ∙ ap signed_bits s in
    rw (one) (ap (λ k. record { kind = param_kind.By; value = k; align = align }) (sym (same ∙ one)))
step_by_again v align n false e s h =
    let same : v ≡ n = sym (bits_again v h) ∙ ap signed_bits s in
    rw e (ap (λ k. record { kind = param_kind.By; value = k; align = align }) (sym same))

step_again : (v : ℕ) (align : Option ℕ) (z : ℤ) → signed v ≡ z → v < 2 ^ 32 → step_row (step_by z) align ≡ record { kind = param_kind.By; value = v; align = align }
step_again v align (pos n) s h = step_by_again v align n (eqb n 1) refl s h
step_again v align (negsuc n) s h = ap (λ k. record { kind = param_kind.By; value = k; align = align }) (sym (ap signed_bits s) ∙ bits_again v h)

param_by : (t : Option CType) (k : ParamKind) (v : ℕ) (align : Option ℕ) → v < 2 ^ 32 → value_fits t k v ≡ true → param_row (param_of (record { kind = k; value = v; align = align })) ≡ record { kind = k; value = v; align = align }
param_by t param_kind.Vector v align h f = ap (λ n. record { kind = param_kind.Vector; value = n; align = align }) (sym (eqb-true v 0 f))
param_by t param_kind.Uniform v align h f = ap (λ n. record { kind = param_kind.Uniform; value = n; align = align }) (sym (eqb-true v 0 f))
param_by t param_kind.By v align h f = step_again v align (signed v) refl h
param_by t param_kind.Along v align h f = refl

param_again : (t : Option CType) (p : ParamRow) → (param {R = RawObject} t).fits p → param_row (param_of p) ≡ p
param_again t p h = param_by t p.kind p.value p.align h.1.0.0 (passed (value_fits t p.kind) p.value p.value h.1.0.1)

directive_again : (target : Target) (head : HeadTypes) (before : List RawDirective) (d : RawDirective) → (directive {R = RawObject} target head before).fits d → raw_directive (signature_of d) ≡ d
directive_again target head before d h =
    ap (λ ps. record { branch = d.branch; simdlen = d.simdlen; params = ps })
    (all_again (λ params. param {R = RawObject} (slice_get head.params (length params))) param_of param_row (λ before p. param_again (slice_get head.params (length before)) p) [] d.params h.0.1.1.0.1)

-- ---- functions

codes_again : (functions params directives : ℕ) (c : Option RawCodes) → (only_if (is_some c) (function_codes {R = RawObject} (in_object functions params) directives)).fits c → option_map raw_codes (option_map codes_of c) ≡ c
codes_again functions params directives None h = refl
codes_again functions params directives (Some c) h =
    ap Some (ap₂ (λ (s : CodeRow) (ls : List CodeRow). record { scalar = s; lanes = ls }) (code_again functions params [] c.scalar h.0)
    (all_again (λ (b : List CodeRow). code {R = RawObject} (in_object functions params)) listing_of code_row (code_again functions params) [] c.lanes h.1.0.0.1))

function_again : (target : Target) (symbols functions : ℕ) (before : List RawFunction) (f : RawFunction) → (function {R = RawObject} target symbols functions before).fits f → raw_function (function_of f) ≡ f
function_again target symbols functions before f h =
    let head : HeadTypes = record { result = f.result; params = f.params } in
    ap₂ (λ (ds : List RawDirective) (cs : Option RawCodes). record { symbol = f.symbol; result = f.result; params = f.params; directives = ds; codes = cs })
    (all_again (directive {R = RawObject} target head) signature_of raw_directive (directive_again target head) [] f.directives h.1.1.1.0.0.1.1)
    (codes_again functions (length f.params) (length f.directives) f.codes h.1.1.1.1.1.0)

-- ---- the tables

pub tables_again : (o : RawObject) → (object_table {R = RawObject}).fits o → raw_object (object_of o) ≡ o
tables_again o h =
    let tables = h.0.1.0.1.1.0.1 in
    ap₂ (λ (ds : List RawData) (fs : List RawFunction). record { target = o.target; symbols = o.symbols; objects = ds; functions = fs })
    (every_again data_of raw_data (λ d. refl) o.objects)
    (all_again (function {R = RawObject} o.target (length o.symbols) (length o.functions)) function_of raw_function (function_again o.target (length o.symbols) (length o.functions)) [] o.functions tables.1.1.0.0.1.1)

-- they have one spelling
pub spelled_again : (o : RawObject) → (object_table {R = RawObject}).fits o → object_bytes (object_of o) ≡ table_bytes o
spelled_again o h = ap table_bytes (tables_again o h)

-- bytes that are read are those that are written
pub bytes_again : (bytes : List ℕ) (o : RawObject) → IsBytes bytes → judge object_format 0 bytes ≡ Ok o → bytes ≡ object_bytes (object_of o)
bytes_again bytes o are h = let took = whole_takes object_faults object_table object_law bytes o are h in took.1 ∙ sym (spelled_again o took.0.0)
