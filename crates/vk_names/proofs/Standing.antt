-- What a state says of the bytes that it is of.
use Rattle.std.specs.Prelude.{◌≡◌, ℕ, ◌+◌, ◌-◌, ◌<◌, ◌≤◌, Bool, true, false, List, [], ◌∷◌, ◌++◌, length, take, None, Result, Ok}
use Rattle.std.specs.Char.{is_ascii_digit}
use Rattle.std.specs.List.{list_all}
use Rattle.vk_kinds.specs.declared.kinds.Step.{Step}
use Rattle.vk_kinds.specs.declared.kinds.Step.TheVariants.{One}
use Rattle.vk_kinds.specs.declared.kinds.Length.{Length}
use Rattle.vk_kinds.specs.declared.kinds.Param.{Param}
use Rattle.vk_names.specs.declared.rules.NameFault.{NameFault}
use Rattle.vk_names.proofs.Reading.{Stop}
use Rattle.vk_names.specs.declared.steps.Run.{Run}
use Rattle.vk_names.specs.declared.steps.Form.{Form}
use Rattle.vk_names.specs.declared.steps.Form.TheVariants.{Plain, Negative, Position}
use Rattle.vk_names.specs.declared.steps.Item.{Item}
use Rattle.vk_names.specs.declared.steps.Item.TheVariants.{Bare, Digits, Whole, Align}
use Rattle.vk_names.specs.declared.states.Found.{Found}
use Rattle.vk_names.specs.declared.states.State.{State}
use Rattle.vk_names.specs.declared.states.State.TheVariants.{Mark, AtIsa, AtMask, AtLen, LenDigits, Next, Inside, Scalar, Done, Fault}
use Rattle.vk_names.specs.Spelling.{mark, isa_letter, mask_letter, is_placed, is_name_byte, text_of, Spells}
use Rattle.vk_names.specs.Refusal.{NameRefused}
use Rattle.vk_names.specs.Pieces.{is_ended, is_due, told_at}
use Rattle.vk_names.specs.Inner.Steps.{with_step}
use Rattle.vk_names.specs.Inner.Feeds.{found_name}
use Rattle.vk_names.proofs.Reading.{◌>>=◌, digits_after, digits_at, has_zero, plain_at, negative_at, argument_at, step_at, kind_at, end_at, params_at, front_at}

-- the run is of these digits, of which the first stands at the place
pub record RunIs (run : Run) (at : ℕ) (ds : List ℕ) : Type 0 where
  pub place : run.at ≡ told_at at
  pub len : run.len ≡ told_at (length ds)
  pub zero : run.zero ≡ has_zero ds
  pub digits : list_all is_ascii_digit ds ≡ true
  pub value : (rest : List ℕ) → digits_at (ds ++ rest) ≡ digits_after run.value rest

abbrev pub form_at : Form → List ℕ → Result (Step × List ℕ) Stop
form_at Plain bytes = plain_at bytes
form_at Negative bytes = negative_at bytes
form_at Position bytes = argument_at bytes

abbrev pub EndsWith : List ℕ → List ℕ → Type 0
EndsWith last bytes = (before : List ℕ) × (bytes ≡ before ++ last)

-- the item is of the last bytes, up to the place
abbrev pub ItemIs : Item → ℕ → List ℕ → Type 0
ItemIs (Bare kind) place bytes = (with_step kind One ≡ kind) × ((rest : List ℕ) → kind_at (bytes ++ rest) ≡ (step_at rest >>= λ step. Ok (with_step kind step.0, step.1)))
ItemIs (Digits kind form run) place bytes = (at : ℕ) × (ds : List ℕ) × (at + length ds ≡ place) × RunIs run at ds × EndsWith ds bytes
    × ((rest : List ℕ) → kind_at (bytes ++ rest) ≡ (form_at form (ds ++ rest) >>= λ step. Ok (with_step kind step.0, step.1)))
ItemIs (Whole kind) place bytes = (rest : List ℕ) → kind_at (bytes ++ rest) ≡ Ok (kind, rest)
ItemIs (Align kind run) place bytes = (at : ℕ) × (ds : List ℕ) × (at + length ds ≡ place) × RunIs run at ds × EndsWith ds bytes
    × ((rest : List ℕ) → kind_at (bytes ++ rest) ≡ Ok (kind, 97 ∷ (ds ++ rest)))

-- reading goes on after the front with the rest of the bytes
abbrev pub FrontIs : Length → List ℕ → List ℕ → Type 0
FrontIs front after fed = (rest : List ℕ) → front_at (fed ++ rest) ≡ Ok (front, after ++ rest)

-- and after these parameters with the last bytes
abbrev pub ParamsAre : List Param → List ℕ → List ℕ → Type 0
ParamsAre params last after = (rest : List ℕ) → params_at 64 [] (after ++ rest) ≡ params_at (64 - length params) params (last ++ rest)

pub record IsNext (front : Length) (at : ℕ) (params : List Param) (fed : List ℕ) : Type 0 where
  pub after : List ℕ
  pub place : at ≡ told_at (length fed)
  pub front_is : FrontIs front after fed
  pub params_are : ParamsAre params [] after
  pub few : length params ≤ 64

pub record IsInside (front : Length) (at : ℕ) (item : Item) (params : List Param) (fed : List ℕ) : Type 0 where
  pub after : List ℕ
  pub last : List ℕ
  pub place : at ≡ told_at (length fed)
  pub front_is : FrontIs front after fed
  pub params_are : ParamsAre params last after
  pub few : length params < 64
  pub last_is : EndsWith last fed
  pub begins : (rest : List ℕ) → end_at (last ++ rest) ≡ Ok None
  pub item_is : ItemIs item (length fed) last

abbrev pub begins_with_digit : List ℕ → Bool
begins_with_digit [] = false
begins_with_digit (b ∷ bs) = is_ascii_digit b

pub record IsInScalar (found : Found) (params : List Param) (fed : List ℕ) : Type 0 where
  pub after : List ℕ
  pub scalar : List ℕ
  pub front_is : FrontIs found.front after fed
  pub params_are : (rest : List ℕ) → params_at 64 [] (after ++ rest) ≡ Ok (params, scalar ++ rest)
  pub placed : list_all (is_placed params) params ≡ true
  pub used : found.used ≡ length fed
  pub place : found.scalar_at + length scalar ≡ length fed
  pub low : found.scalar_at ≤ 1489
  pub short : length scalar ≤ 1024
  pub first : begins_with_digit scalar ≡ false

pub record IsFound (found : Found) (params : List Param) (fed : List ℕ) : Type 0 where
  pub spelled : Spells (found_name found params fed) fed
  pub scalar : found.scalar_at < found.used
  pub used : found.used ≡ length (text_of fed)

pub record IsFault (fault : NameFault) (fed : List ℕ) : Type 0 where
  pub at : ℕ
  pub place : fault.at ≡ told_at at
  pub due : is_due fed at fault.rule ≡ true
  pub refused : NameRefused fed at fault.rule

abbrev pub Reads : State → List Param → List ℕ → Type 0
Reads (Mark n) params fed = (n < 4) × (fed ≡ take n mark) × (params ≡ [])
Reads AtIsa params fed = (fed ≡ mark) × (params ≡ [])
Reads (AtMask isa) params fed = (fed ≡ mark ++ (isa_letter isa ∷ [])) × (params ≡ [])
Reads (AtLen isa masked) params fed = (fed ≡ mark ++ (isa_letter isa ∷ mask_letter masked ∷ [])) × (params ≡ [])
Reads (LenDigits isa masked run) params fed = (ds : List ℕ) × (fed ≡ mark ++ (isa_letter isa ∷ mask_letter masked ∷ ds)) × RunIs run 6 ds × (0 < length ds) × (params ≡ [])
Reads (Next front at) params fed = IsNext front at params fed
Reads (Inside front at item) params fed = IsInside front at item params fed
Reads (Scalar found) params fed = IsInScalar found params fed
Reads (Done found) params fed = ⊥
Reads (Fault fault) params fed = ⊥

-- the state is of these bytes
pub data StateIs (params : List Param) (fed : List ℕ) : State → Type 0 where
  reading : (state : State) → list_all is_name_byte fed ≡ true → Reads state params fed → StateIs params fed state
  done : (found : Found) → is_ended fed ≡ true → IsFound found params fed → StateIs params fed (Done found)
  fault : (f : NameFault) → IsFault f fed → StateIs params fed (Fault f)
