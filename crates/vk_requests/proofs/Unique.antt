-- Words ask one thing or break one rule.
use Rattle.std.proofs.Common.{◌≡◌, ◌∙◌, ◌==◌, ℕ, true, false, List, [], Option, Some, None, refl, sym, ap, subst, inl, inr, if◌then◌else◌, get_or, length, arith}
use Rattle.std.specs.Prelude.{codes}
use Rattle.std.proofs.lemmas.Fmt.{decimal_injective}
use Rattle.std.proofs.lemmas.Bool.{false≢true}
use Rattle.clap.specs.Words.{App, Text, takes}
use Rattle.vk_kinds.specs.declared.kinds.Target.{Target}
use Rattle.vk_kinds.specs.declared.kinds.Target.TheVariants.{X86, Arm}
use Rattle.vk_words.specs.Asked.{IsDemangle, IsIsa, IsMangle, IsTarget, IsTurns, MangleAsked, letter_text, target_text}
use Rattle.vk_words_units.specs.Lanes.{IsLanes, LanesAsked, lanes_table}
use Rattle.vk_words.specs.Reading.{value_at}
use Rattle.vk_kinds.specs.declared.kinds.Isa.{Isa}
use Rattle.vk_kinds.specs.declared.kinds.Isa.TheVariants.{B, C, D, E, N, S}
use Rattle.vk_requests.specs.Command.{Command, IsCommand, IsUnstated, IsWordFault, Picks, demangle, first_word, lanes, mangle, name_text, table_of}
use Rattle.vk_requests.specs.declared.request.Name.{Name}
use Rattle.vk_requests.specs.declared.request.Name.TheVariants.{Demangle as DemangleName, Lanes as LanesName, Mangle as MangleName}
use Rattle.vk_ends.specs.declared.ends.WordRule.{WordRule}
use Rattle.vk_ends.specs.declared.ends.WordRule.TheVariants.{P1, P2, P3, P4}

some_same : {X : Type 0} (o : Option X) (x y : X) → o ≡ Some x → o ≡ Some y → x ≡ y
some_same o x y a b = cc

-- ---- names

abbrev name_by : ℕ → Name
name_by x = if x == 100 then DemangleName else (if x == 108 then LanesName else MangleName)

name_of_text : (name : Name) → name_by (get_or (name_text name) 0 0) ≡ name
name_of_text DemangleName = refl
name_of_text LanesName = refl
name_of_text MangleName = refl

name_same : (words : List Text) (a b : Name) → Picks words a → Picks words b → a ≡ b
name_same words a b x y = sym (name_of_text a) ∙ ap (λ (t : Text). name_by (get_or t 0 0)) (some_same (first_word words) _ _ x y) ∙ name_of_text b

demangle_lanes : DemangleName ≡ LanesName → ⊥
demangle_lanes e = cc

demangle_mangle : DemangleName ≡ MangleName → ⊥
demangle_mangle e = cc

lanes_mangle : LanesName ≡ MangleName → ⊥
lanes_mangle e = cc

some_word : (words : List Text) (name : Name) → words ≡ [] → Picks words name → ⊥
some_word words name e p = let none : None ≡ Some (name_text name) = ap first_word (sym e) ∙ p in cc

-- ---- what is asked

demangle_same : (words : List Text) (r s : Text) → IsDemangle words r → IsDemangle words s → r ≡ s
demangle_same words r s a b = some_same _ _ _ a.file b.file

-- the first byte of a letter's text
abbrev letter_by : ℕ → Isa
letter_by x = if x == 98 then B else (if x == 99 then C else (if x == 100 then D else (if x == 101 then E else (if x == 110 then N else S))))

letter_of_text : (isa : Isa) → letter_by (get_or (letter_text isa) 0 0) ≡ isa
letter_of_text B = refl
letter_of_text C = refl
letter_of_text D = refl
letter_of_text E = refl
letter_of_text N = refl
letter_of_text S = refl

isa_same : (text : Option Text) (a b : Isa) → IsIsa text a → IsIsa text b → a ≡ b
isa_same text a b p q = sym (letter_of_text a) ∙ ap (λ (t : Text). letter_by (get_or t 0 0)) (some_same text _ _ p q) ∙ letter_of_text b

turns_same : (text : Option Text) (m n : ℕ) → IsTurns text m → IsTurns text n → m ≡ n
turns_same None m n p q = p ∙ sym q
turns_same (Some t) m n p q = let a = p.most in let b = q.most in decimal_injective m n (omega (arith, a)) (omega (arith, b)) (sym p.spelled ∙ q.spelled)

lanes_same : (words : List Text) (r s : LanesAsked) → IsLanes words r → IsLanes words s → r ≡ s
lanes_same words r s a b =
    let isa = isa_same _ r.isa s.isa a.isa b.isa in
    let unit = some_same _ _ _ a.unit b.unit in
    let name = some_same _ _ _ a.name b.name in
    let arguments = sym a.arguments ∙ b.arguments in
    let mask = sym a.mask ∙ b.mask in
    let turns = turns_same _ r.turns s.turns a.turns b.turns in
    λ i. record { isa = isa i; unit = unit i; name = name i; arguments = arguments i; mask = mask i; turns = turns i }

apart_targets : target_text X86 ≡ target_text Arm → ⊥
apart_targets e = let lengths = ap length e in omega (arith, lengths)

target_same : (text : Option Text) (s t : Target) → IsTarget text s → IsTarget text t → s ≡ t
target_same text X86 X86 a b = refl
target_same text X86 Arm a b = absurd (apart_targets (some_same text _ _ a b))
target_same text Arm X86 a b = absurd (apart_targets (some_same text _ _ b a))
target_same text Arm Arm a b = refl

mangle_same : (words : List Text) (r s : MangleAsked) → IsMangle words r → IsMangle words s → r ≡ s
mangle_same words r s a b =
    let target = target_same _ r.target s.target a.target b.target in
    let unit = some_same _ _ _ a.unit b.unit in
    λ i. record { target = target i; unit = unit i }

-- the words ask one thing
pub command_same : (words : List Text) (j k : Command) → IsCommand words j → IsCommand words k → j ≡ k
command_same words (demangle r) (demangle s) a b = ap demangle (demangle_same words r s a.1 b.1)
command_same words (demangle r) (lanes s) a b = absurd (demangle_lanes (name_same words _ _ a.0 b.0))
command_same words (demangle r) (mangle s) a b = absurd (demangle_mangle (name_same words _ _ a.0 b.0))
command_same words (lanes r) (demangle s) a b = absurd (demangle_lanes (name_same words _ _ b.0 a.0))
command_same words (lanes r) (lanes s) a b = ap lanes (lanes_same words r s a.1 b.1)
command_same words (lanes r) (mangle s) a b = absurd (lanes_mangle (name_same words _ _ a.0 b.0))
command_same words (mangle r) (demangle s) a b = absurd (demangle_mangle (name_same words _ _ b.0 a.0))
command_same words (mangle r) (lanes s) a b = absurd (lanes_mangle (name_same words _ _ b.0 a.0))
command_same words (mangle r) (mangle s) a b = ap mangle (mangle_same words r s a.1 b.1)

-- the command, and that its table takes the words
abbrev name_of : Command → Name
name_of (demangle r) = DemangleName
name_of (lanes r) = LanesName
name_of (mangle r) = MangleName

picked : (words : List Text) (k : Command) → IsCommand words k → Picks words (name_of k)
picked words (demangle r) a = a.0
picked words (lanes r) a = a.0
picked words (mangle r) a = a.0

taken : (words : List Text) (k : Command) → IsCommand words k → takes (table_of (name_of k)) words ≡ true
taken words (demangle r) a = a.1.taken
taken words (lanes r) a = a.1.taken
taken words (mangle r) a = a.1.taken

stated : (words : List Text) (k : Command) → IsCommand words k → IsUnstated (name_of k) words → ⊥
stated words (demangle r) a u = u
stated words (lanes r) a u = elim u.value [ inl letter ↦ a.1.fixed (letter r.isa a.1.isa) | inr none ↦ none r.turns a.1.turns ]
stated words (mangle r) a u = u.target r.target a.1.target

unstated_taken : (name : Name) (words : List Text) → IsUnstated name words → takes (table_of name) words ≡ true
unstated_taken DemangleName words u = absurd u
unstated_taken LanesName words u = u.taken
unstated_taken MangleName words u = u.taken

-- ---- rules

-- where they ask something, they break no rule
pub no_fault : (words : List Text) (k : Command) (rule : WordRule) → IsCommand words k → IsWordFault words rule → ⊥
no_fault words k P1 a f = some_word words (name_of k) f (picked words k a)
no_fault words k P2 a f = f.1 (name_of k) (picked words k a)
no_fault words k P3 a f =
    let same = name_same words f.0 (name_of k) f.1 (picked words k a) in
    false≢true (sym (subst (λ (n : Name). takes (table_of n) words ≡ false) same f.2) ∙ taken words k a)
no_fault words k P4 a f =
    let same = name_same words f.0 (name_of k) f.1 (picked words k a) in
    stated words k a (subst (λ (n : Name). IsUnstated n words) same f.2)

not_taken : (words : List Text) (a b : Name) → Picks words a → Picks words b → takes (table_of a) words ≡ false → IsUnstated b words → ⊥
not_taken words a b p q f u =
    false≢true (sym (subst (λ (n : Name). takes (table_of n) words ≡ false) (name_same words a b p q) f) ∙ unstated_taken b words u)

-- they break one rule
pub fault_same : (words : List Text) (a b : WordRule) → IsWordFault words a → IsWordFault words b → a ≡ b
fault_same words P1 P1 f g = refl
fault_same words P1 P2 f g = absurd (g.0 f)
fault_same words P1 P3 f g = absurd (some_word words g.0 f g.1)
fault_same words P1 P4 f g = absurd (some_word words g.0 f g.1)
fault_same words P2 P1 f g = absurd (f.0 g)
fault_same words P2 P2 f g = refl
fault_same words P2 P3 f g = absurd (f.1 g.0 g.1)
fault_same words P2 P4 f g = absurd (f.1 g.0 g.1)
fault_same words P3 P1 f g = absurd (some_word words f.0 g f.1)
fault_same words P3 P2 f g = absurd (g.1 f.0 f.1)
fault_same words P3 P3 f g = refl
fault_same words P3 P4 f g = absurd (not_taken words f.0 g.0 f.1 g.1 f.2 g.2)
fault_same words P4 P1 f g = absurd (some_word words f.0 g f.1)
fault_same words P4 P2 f g = absurd (g.1 f.0 f.1)
fault_same words P4 P3 f g = absurd (not_taken words g.0 f.0 g.1 f.1 g.2 f.2)
fault_same words P4 P4 f g = refl
