-- What a feed answers, by what it stands for.
use Rattle.std.proofs.Common.{◌≡◌, ℕ, ◌<◌, true, false, List, length, Result, Ok, Err, IfOk, IfErr, IsOkAnd, IsErrAnd, sym, ap, subst, ◌∙◌, arith}
use Rattle.std.specs.List.{list_all}
use Rattle.std.proofs.lemmas.Bool.{or_cases, false≢true}
use Rattle.vk_kinds.specs.declared.kinds.Param.{Param}
use Rattle.vk_names.specs.declared.rules.NameRule.{NameRule}
use Rattle.vk_names.specs.declared.rules.NameFault.{NameFault}
use Rattle.vk_names.specs.declared.names.ReadName.{ReadName}
use Rattle.vk_names.specs.declared.states.Found.{Found}
use Rattle.vk_names.specs.declared.feed.Progress.{Progress}
use Rattle.vk_names.specs.declared.feed.Progress.TheVariants.{More, Done, Fault}
use Rattle.vk_names.specs.Spelling.{Name, is_name_byte, text_of, name_in, Spells}
use Rattle.vk_names.specs.Refusal.{NameRefused}
use Rattle.vk_names.specs.Pieces.{told_at, is_ended, is_told, is_due, SaysRefused, IfMore, IfDone, IfFault, IsDoneAnd, IsFaultAnd}
use Rattle.vk_names.specs.Inner.Feeds.{found_name, IsRead, IsEnd}
use Rattle.vk_names.proofs.Standing.{IsFound, IsFault}
use Rattle.vk_names.proofs.Numbers.{left_or}
use Rattle.vk_names.proofs.Exact.{one_name, spelled_or_refused, one_refusal}
use Rattle.vk_names.proofs.Due.{not_ended}
use Rattle.vk_names.proofs.Feeding.{EndIs, a_name, a_fault}

-- ---- names and faults

-- the name that was read is the one that the bytes spell
read_spelled : (found : Found) (params : List Param) (bytes : List ℕ) (r : ReadName) → IsFound found params bytes → IsRead found params r → Spells (name_in r.head r.scalar_at r.used bytes) bytes
read_spelled found params bytes r is read = subst (λ (n : Name). Spells n bytes) (sym (read.name_is bytes)) is.spelled

read_scalar : (found : Found) (params : List Param) (bytes : List ℕ) (r : ReadName) → IsFound found params bytes → IsRead found params r → r.scalar_at < r.used
read_scalar found params bytes r is read = let below = is.scalar in omega (arith, below, read.scalar_at, read.used)

-- one refusal is told in one way
told_same : (bytes : List ℕ) (fault : NameFault) (place at : ℕ) (rule : NameRule) → fault.at ≡ told_at place → NameRefused bytes place fault.rule → NameRefused bytes at rule → (fault.at ≡ told_at at) × (fault.rule ≡ rule)
told_same bytes fault place at rule is here there =
    let one = one_refusal bytes place at fault.rule rule here there in
    (is ∙ ap told_at one.0, one.1)

-- ---- the answers of `feed`

pub record Answered (bytes : List ℕ) (answer : Progress) : Type 0 where
  pub more : IfMore answer (is_ended bytes ≡ false)
  pub ended : IfDone answer (λ r. is_ended bytes ≡ true)
  pub spelled : IfDone answer (λ r. Spells (name_in r.head r.scalar_at r.used bytes) bytes)
  pub scalar : IfDone answer (λ r. r.scalar_at < r.used)
  pub used : IfDone answer (λ r. r.used ≡ length (text_of bytes))
  pub refused : IfFault answer (λ fault. SaysRefused bytes fault)
  pub due : (at : ℕ) (rule : NameRule) → NameRefused bytes at rule → IfFault answer (λ fault. is_due bytes at rule ≡ true)
  pub every_name : (name : Name) → is_ended bytes ≡ true → Spells name bytes → IsDoneAnd answer (λ r. name_in r.head r.scalar_at r.used bytes ≡ name)
  pub every_fault : (at : ℕ) (rule : NameRule) → is_due bytes at rule ≡ true → NameRefused bytes at rule → IsFaultAnd answer (λ fault. (fault.at ≡ told_at at) × (fault.rule ≡ rule))

-- no refusal is due of bytes that may go on and that are refused, if at all, only where they end
not_due : (params : List Param) (bytes : List ℕ) (r : Result Found NameFault) (at : ℕ) (rule : NameRule) → EndIs params bytes r → is_ended bytes ≡ false → is_due bytes at rule ≡ true → NameRefused bytes at rule → ⊥
not_due params bytes r at rule (a_name found is) whole due refused = spelled_or_refused bytes (found_name found params bytes) at rule is.spelled refused
not_due params bytes r at rule (a_fault f is) whole due refused =
    let one = one_refusal bytes is.at at f.rule rule is.refused refused in
    let untold : is_told bytes at rule ≡ false = ap (λ (k : ℕ). is_told bytes k rule) (sym one.0) ∙ ap (λ (q : NameRule). is_told bytes is.at q) (sym one.1) ∙ is.untold in
    left_or (or_cases (is_ended bytes) (is_told bytes at rule) due) (λ ended. false≢true (sym whole ∙ ended)) (λ told. false≢true (sym untold ∙ told))

pub more_answered : (params : List Param) (bytes : List ℕ) (r : Result Found NameFault) → list_all is_name_byte bytes ≡ true → EndIs params bytes r → Answered bytes More
more_answered params bytes r all end =
    let whole = not_ended bytes all in
    record {
      more = whole;
      ended = tt;
      spelled = tt;
      scalar = tt;
      used = tt;
      refused = tt;
      due = λ at rule refused. tt;
      every_name = λ name ended spelled. absurd (false≢true (sym whole ∙ ended));
      every_fault = λ at rule due refused. absurd (not_due params bytes r at rule end whole due refused);
    }

pub done_answered : (found : Found) (params : List Param) (bytes : List ℕ) (answer : Progress) → is_ended bytes ≡ true → IsFound found params bytes → IsDoneAnd answer (λ name. IsRead found params name) → Answered bytes answer
done_answered found params bytes More ended is read = absurd read
done_answered found params bytes (Fault f) ended is read = absurd read
done_answered found params bytes (Done r) ended is read =
    let spells = read_spelled found params bytes r is read in
    record {
      more = tt;
      ended = ended;
      spelled = spells;
      scalar = read_scalar found params bytes r is read;
      used = read.used ∙ is.used;
      refused = tt;
      due = λ at rule refused. tt;
      every_name = λ name e spelled. one_name bytes _ name spells spelled;
      every_fault = λ at rule due refused. absurd (spelled_or_refused bytes _ at rule spells refused);
    }

pub fault_answered : (f : NameFault) (bytes : List ℕ) (answer : Progress) → IsFault f bytes → IsFaultAnd answer (λ told. told ≡ f) → Answered bytes answer
fault_answered f bytes More is told = absurd told
fault_answered f bytes (Done r) is told = absurd told
fault_answered f bytes (Fault g) is told = subst (λ (h : NameFault). Answered bytes (Fault h)) (sym told) (record {
  more = tt;
  ended = tt;
  spelled = tt;
  scalar = tt;
  used = tt;
  refused = (is.at, is.place, is.refused);
  due = λ at rule refused.
      let one = one_refusal bytes is.at at f.rule rule is.refused refused in
      ap (λ (k : ℕ). is_due bytes k rule) (sym one.0) ∙ ap (λ (q : NameRule). is_due bytes is.at q) (sym one.1) ∙ is.due;
  every_name = λ name e spelled. absurd (spelled_or_refused bytes name is.at f.rule spelled is.refused);
  every_fault = λ at rule due refused. told_same bytes f is.at at rule is.place is.refused refused;
})

-- ---- the answers of `end`

pub record Ended (bytes : List ℕ) (answer : Result ReadName NameFault) : Type 0 where
  pub spelled : IfOk answer (λ r. Spells (name_in r.head r.scalar_at r.used bytes) bytes)
  pub scalar : IfOk answer (λ r. r.scalar_at < r.used)
  pub used : IfOk answer (λ r. r.used ≡ length (text_of bytes))
  pub refused : IfErr answer (λ fault. SaysRefused bytes fault)
  pub every_name : (name : Name) → Spells name bytes → IsOkAnd answer (λ r. name_in r.head r.scalar_at r.used bytes ≡ name)
  pub every_fault : (at : ℕ) (rule : NameRule) → NameRefused bytes at rule → IsErrAnd answer (λ fault. (fault.at ≡ told_at at) × (fault.rule ≡ rule))

pub found_ended : (found : Found) (params : List Param) (bytes : List ℕ) (answer : Result ReadName NameFault) → IsFound found params bytes → IsOkAnd answer (λ name. IsRead found params name) → Ended bytes answer
found_ended found params bytes (Err f) is read = absurd read
found_ended found params bytes (Ok r) is read =
    let spells = read_spelled found params bytes r is read in
    record {
      spelled = spells;
      scalar = read_scalar found params bytes r is read;
      used = read.used ∙ is.used;
      refused = tt;
      every_name = λ name spelled. one_name bytes _ name spells spelled;
      every_fault = λ at rule refused. absurd (spelled_or_refused bytes _ at rule spells refused);
    }

pub fault_ended : (f : NameFault) (place : ℕ) (bytes : List ℕ) (answer : Result ReadName NameFault) → f.at ≡ told_at place → NameRefused bytes place f.rule → IsErrAnd answer (λ told. told ≡ f) → Ended bytes answer
fault_ended f place bytes (Ok r) is refused told = absurd told
fault_ended f place bytes (Err g) is here told = subst (λ (h : NameFault). Ended bytes (Err h)) (sym told) (record {
  spelled = tt;
  scalar = tt;
  used = tt;
  refused = (place, is, here);
  every_name = λ name spelled. absurd (spelled_or_refused bytes name place f.rule spelled here);
  every_fault = λ at rule refused. told_same bytes f place at rule is here refused;
})

pub open_ended : (params : List Param) (bytes : List ℕ) (r : Result Found NameFault) (answer : Result ReadName NameFault) → EndIs params bytes r → IsEnd params r answer → Ended bytes answer
open_ended params bytes r answer (a_name found is) end = found_ended found params bytes answer is end
open_ended params bytes r answer (a_fault f is) end = fault_ended f is.at bytes answer is.place is.refused end
