-- The lines of a call are those of its lanes.
use Rattle.std.proofs.Common.{◌≡◌, ◌∙◌, ℕ, ◌+◌, ◌≤◌, ◌<◌, suc, zero, Bool, true, false, List, [], ◌∷◌, ◌++◌, cond, length, map, Option, Some, Result, Ok, Err, IfOk, refl, ap, arith}
use Rattle.std.specs.List.{concat, flat_map, range_with_len}
use Rattle.vk_types.specs.declared.types.Stop.{Stop}
use Rattle.vk_types.specs.declared.types.Ty.{Ty}
use Rattle.vk_types.specs.declared.types.Word.{Word}
use Rattle.vk_lanes.specs.Words.{word_in}
use Rattle.vk_kinds.specs.declared.heads.CType.{CType}
use Rattle.vk_io.specs.declared.lines.Lines.{Lines}
use Rattle.vk_memory.specs.declared.want.Memory.{Memory}
use Rattle.vk_ast.specs.Units.{FunctionTree}
use Rattle.vk_rules_book.specs.Rules.{Subject}
use Rattle.vk_rules_book.specs.Scopes.{text_of, types_of}
use Rattle.vk_meaning.specs.Lanes.{Words, data_from, datum_of}
use Rattle.vk_meaning.specs.Data.{Datum}
use Rattle.vk_lane_lines.specs.Lines.{ended, lane_lines, line, stops_in, told_by, told_of}
use Rattle.vk_lane_lines.specs.declared.lines.Told.{Told}
use Rattle.vk_lane_lines.specs.declared.lines.Told.TheVariants.{Off}
use Rattle.vk_meaning.specs.Meaning.{means}
use Rattle.vk_meaning.specs.Programs.{arrays_of}
use Rattle.vk_meaning.specs.World.{first_memory}
use Rattle.vk_cmd_lanes.specs.Inner.{lines_on}
use Rattle.vk_unit_call.specs.Values.{scalar_value}

-- ---- lists

-- a text for each
pub flat_map_is : {A : Type 0} (f : A → List ℕ) (xs : List A) → flat_map f xs ≡ concat (map f xs)
flat_map_is f [] = refl
flat_map_is f (x ∷ xs) = ap (λ t. f x ++ t) (flat_map_is f xs)

-- functions that agree on some numbers
pub map_same_from : {A : Type 0} (f g : ℕ → A) (a n : ℕ) → ((i : ℕ) → a ≤ i → i < a + n → f i ≡ g i) → map f (range_with_len a n) ≡ map g (range_with_len a n)
map_same_from f g a zero h = refl
map_same_from {A = A} f g a (suc n) h =
    let first : f a ≡ g a = h a (omega arith) (omega arith) in
    let rest : map f (range_with_len (a + 1) n) ≡ map g (range_with_len (a + 1) n) = map_same_from f g (a + 1) n (λ i low high. h i (omega (arith, low)) (omega (arith, high))) in
    λ i. first i ∷ rest i

pub map_same : {A : Type 0} (f g : ℕ → A) (n : ℕ) → ((i : ℕ) → i < n → f i ≡ g i) → map f (range_with_len 0 n) ≡ map g (range_with_len 0 n)
map_same f g n h = map_same_from f g 0 n (λ i low high. h i (omega (arith, high)))

-- ---- words

-- arguments are told by the words of their parameters
pub data_same : (ts : List CType) (v w : Words) (p lane : ℕ) → ((q : ℕ) → p ≤ q → q < p + length ts → v q lane ≡ w q lane) → data_from p ts v lane ≡ data_from p ts w lane
data_same [] v w p lane h = refl
data_same (t ∷ ts) v w p lane h = ap (λ (n : ℕ). datum_of t n ∷ data_from (p + 1) ts v lane) (h p (omega arith) (omega arith))
    ∙ ap (λ (ds : List Datum). datum_of t (w p lane) ∷ ds) (data_same ts v w (p + 1) lane (λ q low high. h q (omega (arith, low)) (omega (arith, high))))

-- and so is what a scalar call gives
pub value_same : (unit : Subject) (f : FunctionTree) (turns : ℕ) (v w : Words) (lane : ℕ) → ((q : ℕ) → q < length (types_of f.params) → v q lane ≡ w q lane) →
    scalar_value unit f turns v lane ≡ scalar_value unit f turns w lane
unfolding scalar_value
value_same unit f turns v w lane h = ap (λ (ds : List Datum). means (unit ∷ []) turns (text_of unit.texts f.name) ds (first_memory (arrays_of (unit ∷ []))))
    (data_same (types_of f.params) v w 0 lane (λ q low high. h q (omega (arith, high))))

-- ---- lanes

told_same : (t : Ty) (on : Bool) (word : ℕ) (stop : Option Stop) (told : Told) → (on ≡ true → ended (Some t) word stop ≡ told) → told_of (Some t) on word stop ≡ cond on told Off
told_same t true word stop told h = h refl
told_same t false word stop told h = refl

-- each active lane ended as its scalar call does
pub lines_are : (unit : Subject) (f : FunctionTree) (t : Ty) (turns n : ℕ) (mask : ℕ → Bool) (v : Words) (words : ℕ → ℕ) (stops : ℕ → Option Stop) →
    ((lane : ℕ) → lane < n → mask lane ≡ true → ended (Some t) (words lane) (stops lane) ≡ told_by (scalar_value unit f turns v lane)) →
    lane_lines (Some t) n mask words stops ≡ lines_on unit f turns n mask v
lines_are unit f t turns n mask v words stops h =
    map_same (λ lane. line lane (told_of (Some t) (mask lane) (words lane) (stops lane))) (λ lane. line lane (cond (mask lane) (told_by (scalar_value unit f turns v lane)) Off)) n
    (λ lane high. ap (line lane) (told_same t (mask lane) (words lane) (stops lane) (told_by (scalar_value unit f turns v lane)) (λ on. h lane high on)))

-- the same of the lines that were made, if they were
pub lines_told : (unit : Subject) (f : FunctionTree) (t : Ty) (turns n : ℕ) (mask : ℕ → Bool) (v : Words) (words : ℕ → ℕ) (stops : ℕ → Option Stop) (result : Result Lines Memory) →
    ((lane : ℕ) → lane < n → mask lane ≡ true → ended (Some t) (words lane) (stops lane) ≡ told_by (scalar_value unit f turns v lane)) →
    IfOk result (λ lines. lines ≡ lane_lines (Some t) n mask words stops) → IfOk result (λ lines. lines ≡ lines_on unit f turns n mask v)
lines_told unit f t turns n mask v words stops (Ok lines) h e = e ∙ lines_are unit f t turns n mask v words stops h
lines_told unit f t turns n mask v words stops (Err want) h e = tt

-- what a lane ended with, told of the words and stops as they are passed on
pub ended_so : (unit : Subject) (f : FunctionTree) (t : Ty) (turns lane : ℕ) (v : Words) (ws words : List Word) (ss stops : List (Option Stop)) → ws ≡ words → ss ≡ stops →
    ended (Some t) (word_in words lane) (stops_in stops lane)
    ≡ told_by (scalar_value unit f turns v lane) →
    ended (Some t) (word_in ws lane) (stops_in ss lane) ≡ told_by (scalar_value unit f turns v lane)
ended_so unit f t turns lane v ws words ss stops same alike h =
    ap (λ (xs : List Word). ended (Some t) (word_in xs lane) (stops_in ss lane)) same
    ∙ ap (λ (xs : List (Option Stop)). ended (Some t) (word_in words lane) (stops_in xs lane)) alike ∙ h
