-- The tables are those of an image.
use Rattle.std.proofs.Common.{arith, rules, ◌≡◌, ℕ, zero, suc, ◌+◌, ◌*◌, ◌==◌, ◌<◌, ◌≤◌, max, Bool, true, false, ◌&&◌, ◌||◌, List, [], ◌∷◌, ◌++◌, length, map, take, None, refl, ap, ◌∙◌}
use Rattle.std.specs.Prelude.{nat_le, nat_lt}
use Rattle.std.specs.List.{list_all}
use Rattle.std.proofs.lemmas.Nat.{mul-le}
use Rattle.std.proofs.lemmas.Bool.Decides.{nat_tests}
use Rattle.std.proofs.lemmas.List.{length-map, length-take-le}
use Rattle.vk_types.specs.declared.types.Ty.{Ty}
use Rattle.vk_kinds.specs.declared.heads.CType.TheVariants.{Int}
use Rattle.vk_kinds.specs.declared.kinds.Param.{Param}
use Rattle.vk_kinds.specs.Types.{ctype_number}
use Rattle.vk_kinds.specs.declared.kinds.Isa.TheVariants.{B}
use Rattle.vk_kinds.specs.declared.kinds.Target.TheVariants.{X86}
use Rattle.vk_code.specs.declared.code.Code.{Code}
use Rattle.vk_code.specs.Listing.{Listing, listing_of}
use Rattle.vk_object.specs.declared.tables.ArrayRow.{ArrayRow}
use Rattle.vk_object.specs.declared.tables.Entry.{Entry}
use Rattle.vk_code.specs.Tests.{all_good, pairs}
use Rattle.vk_code.specs.Valid.{Environment, body_verdicts, has_good_counts, has_good_registers, is_good_head, is_good_loop, is_good_slot, is_integer, is_result, verdicts}
use Rattle.vk_construct.proofs.Adding.{is_inside}
use Rattle.vk_object.specs.Images.{cells_of, has_body, is_call, is_code, is_function_code, is_image, is_linked, is_loop, is_row, names_of, param_types, result_of, suits}
use Rattle.vk_object.specs.Parameters.{is_param, is_param_at}
use Rattle.vk_object.specs.Tables.{EntryLists, Tables, array_list_of, entry_list_of}
use Rattle.vk_flat_functions.specs.Returns.{IsLaneCode}
use Rattle.vk_one_image.specs.Tables.{entry_of, tables_of, vectors}

both : (a b : Bool) → a ≡ true → b ≡ true → (a && b) ≡ true
both true b h i = i
both false b h i = h

-- ---- parameters

pub one_more : (n : ℕ) → vectors (n + 1) ≡ vectors n ++ vectors 1
one_more zero = refl
one_more (suc n) = let e : suc n + 1 ≡ suc (n + 1) = omega arith in ap vectors e ∙ ap (λ ps. vectors 1 ++ ps) (one_more n)

all_kinds : (ps : List Param) (n : ℕ) → list_all (is_param ps) (vectors n) ≡ true
all_kinds ps zero = refl
all_kinds ps (suc n) = all_kinds ps n

all_typed : (types rest : List ℕ) (n : ℕ) → length rest ≡ n → pairs (is_param_at types) rest (vectors n) ≡ true
all_typed types [] zero e = refl
all_typed types [] (suc n) e = absurd (omega (arith, e))
all_typed types (t ∷ ts) zero e = absurd (omega (arith, e))
all_typed types (t ∷ ts) (suc n) e = all_typed types ts n (omega (arith, e))

-- ---- the code

least_is : (a b : ℕ) → a ≤ b → nat_le a b ≡ true
least_is a b h = grind (arith, nat_tests, h)

less_is : (a b : ℕ) → a < b → nat_lt a b ≡ true
less_is a b h = grind (arith, nat_tests, h)

int_number : (t : Ty) → is_integer (ctype_number (Int t)) ≡ true
int_number t = search rules

good_registers : (c : Listing) → IsLaneCode c → length c.routine.regs + c.routine.masks ≤ 8192 → has_good_registers c.routine ≡ true
good_registers c h few = both _ _ (both _ _ (both _ _ (least_is 1 c.routine.masks h.masks) (least_is (length c.routine.regs + c.routine.masks) 8192 few)) (least_is c.routine.params (length c.routine.regs) h.params)) result
  where
    result : is_result (length c.routine.regs) c.routine.result ≡ true
    result = ap (is_result (length c.routine.regs)) h.result.2 ∙ less_is h.result.0 (length c.routine.regs) (is_inside c.routine.regs h.result.0 (Int h.result.1) h.result.3)

good_counts : (c : Listing) → IsLaneCode c → length c.routine.instrs ≤ 4294967295 → has_good_counts c.routine ≡ true
good_counts c h few = both _ _ (both _ _ (ap (λ l. nat_le (length l) 65535) h.slots) (ap (λ n. nat_le n 65535) h.no_loops)) (least_is (length c.routine.instrs) 4294967295 few)

good_head : (c : Listing) → IsLaneCode c → length c.routine.regs + c.routine.masks ≤ 8192 → length c.routine.instrs ≤ 4294967295 → is_good_head c.routine ≡ true
good_head c h few short = both _ _ (both _ _ (good_registers c h few) (good_counts c h short)) h.values

valid : (e : Environment) (c : Listing) → IsLaneCode c → is_good_head c.routine ≡ true → all_good (verdicts e c) ≡ true
valid e c h head = both (is_good_head c.routine) _ head
    (ap (λ ss. all_good (map (is_good_slot e c.routine) ss ++ (map (is_good_loop e c.routine) c.loops ++ body_verdicts e c.routine))) h.slots
    ∙ (ap (λ ls. all_good (map (is_good_loop e c.routine) ls ++ body_verdicts e c.routine)) h.loops ∙ h.good e))

code_valid : (image : Tables) (c : Listing) → IsLaneCode c → is_good_head c.routine ≡ true → is_code image c ≡ true
code_valid image c h head = both _ _ (ap (list_all (has_body image)) h.loops) (valid (names_of image) c h head)

-- ---- the entry

function_code : (c : Listing) → IsLaneCode c → c.routine.params ≤ 64 → is_function_code c ≡ true
function_code c h few = both _ _ (least_is c.routine.params 64 few) (or (is_integer (result_of c)) _ number)
  where
    or : (a b : Bool) → a ≡ true → (a || b) ≡ true
    or true b e = refl
    or false b e = cc

    number : is_integer (result_of c) ≡ true
    number = rw h.result.2 (rw h.result.3 (int_number h.result.1))

type_count : (c : Listing) → c.routine.params ≤ length c.routine.regs → length (param_types c) ≡ c.routine.params
type_count c le = length-map (take c.routine.params c.routine.regs) ctype_number ∙ length-take-le c.routine.params c.routine.regs le

suited : (lanes : ℕ) (one : Bool) (c : Listing) → (lanes == 1) ≡ one → IsLaneCode c → c.routine.params ≤ 64 → suits (entry_of lanes c.routine.params) c ≡ true
suited lanes true c is h few = rw is (both _ _ (both _ _ h.lanes (function_code c h few)) refl)
suited lanes false c is h few = rw is (both _ _ (both _ _ h.lanes (function_code c h few)) (all_typed (param_types c) (param_types c) c.routine.params (type_count c h.params)))

linked : (image : Tables) (lanes : ℕ) (c : Listing) → IsLaneCode c → c.routine.params ≤ 64 → is_linked image (entry_of lanes c.routine.params) c ≡ true
linked image lanes c h few = both _ _ (both _ _ (suited lanes (lanes == 1) c refl h few) (ap (λ ss. pairs (is_call image (entry_of lanes c.routine.params) c) ss []) h.slots))
    (ap (λ ls. pairs (is_loop image c) ls []) h.loops)

row_is : (lanes : ℕ) (one : Bool) (c : Listing) → (lanes == 1) ≡ one → 1 ≤ lanes → lanes ≤ 256 → is_row (tables_of lanes c) (entry_of lanes c.routine.params) ≡ true
row_is lanes true c is least most = rw is refl
row_is lanes false c is least most = rw is (both _ _ (both _ _ (both _ _ (both _ _ (both _ _ (least_is 2 lanes (more lanes least is)) (least_is lanes 256 most)) refl) (all_kinds (vectors c.routine.params) c.routine.params)) refl) refl)
  where
    more : (n : ℕ) → 1 ≤ n → (n == 1) ≡ false → 2 ≤ n
    more n le e = grind (arith, nat_tests, le, e)

-- ---- cells

few_cells : (registers masks lanes : ℕ) → registers + masks ≤ 8192 → lanes ≤ 256 → (registers + masks) * lanes ≤ 33554432
few_cells registers masks lanes few most = let most_cells : (registers + masks) * lanes ≤ 8192 * 256 = mul-le (registers + masks) lanes 8192 256 few most in omega (arith, most_cells)

-- along the one chain, with no arrays
sum_cells : (n : ℕ) → n ≤ 33554432 → 0 + max (n + max 0 0) 0 ≤ 33554432
sum_cells n le = grind (arith, le)

-- ---- the image

pub one_valid : (lanes : ℕ) (c : Listing) → IsLaneCode c → c.routine.params ≤ 64 → length c.routine.regs + c.routine.masks ≤ 8192 → length c.routine.instrs ≤ 4294967295 → 1 ≤ lanes → lanes ≤ 256 →
    is_image (tables_of lanes c) ≡ true
one_valid lanes c h few registers short least most =
    both _ _
    (both _ _
    (both _ _
    (both _ _ (both _ _ (both _ _ (both _ _ (both _ _ row refl) refl) refl) (both _ _ (code_valid (tables_of lanes c) c h (good_head c h registers short)) refl))
    (both _ _ (linked (tables_of lanes c) lanes c h few) refl)) refl) refl) cells
  where
    row : is_row (tables_of lanes c) (entry_of lanes c.routine.params) ≡ true
    row = row_is lanes (lanes == 1) c refl least most

    cells : nat_le (cells_of (tables_of lanes c)) 33554432 ≡ true
    cells = least_is (cells_of (tables_of lanes c)) 33554432 (sum_cells ((length c.routine.regs + c.routine.masks) * lanes) (few_cells (length c.routine.regs) c.routine.masks lanes registers most))

-- the rows that are made are these tables
pub made : (arrays : List ArrayRow) (codes : List Code) (entries : List Entry) (lanes : ℕ) (code : Code) (entry : Entry) → arrays ≡ [] → codes ≡ code ∷ [] → entries ≡ entry ∷ [] →
    entry_list_of entry ≡ entry_of lanes (listing_of code).routine.params →
    record { target = X86; isa = B; vl = 0; main = None; arrays = map array_list_of arrays; codes = map listing_of codes; entries = map entry_list_of entries } ≡ tables_of lanes (listing_of code)
made arrays codes entries lanes code entry a c e is = rw a (rw c (rw e (ap (λ x. tables_with x (listing_of code)) is)))
  where
    tables_with : EntryLists → Listing → Tables
    tables_with x l = record { target = X86; isa = B; vl = 0; main = None; arrays = []; codes = l ∷ []; entries = x ∷ [] }

pub made_valid : (t : Tables) (lanes : ℕ) (c : Listing) → t ≡ tables_of lanes c → IsLaneCode c → c.routine.params ≤ 64 → length c.routine.regs + c.routine.masks ≤ 8192 → length c.routine.instrs ≤ 4294967295 → 1 ≤ lanes → lanes ≤ 256 →
    is_image t ≡ true
made_valid t lanes c is h few registers short least most = ap is_image is ∙ one_valid lanes c h few registers short least most
