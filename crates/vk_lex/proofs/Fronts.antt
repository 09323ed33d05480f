-- What stands at the front of a text, by its first byte.
use Rattle.std.proofs.Common.{◌≡◌, ℕ, true, false, List, [], ◌∷◌, drop, length, Option, Some, None, Ok, Err, ◌≢◌, ◌==◌, ◌≤◌, sym, ap, ap₂, subst, ◌∙◌, arith}
use Rattle.std.proofs.lemmas.Bool.{false≢true, eqb-true, eqb-false}
use Rattle.std.specs.Char.{is_ascii_digit}
use Rattle.vk_types.specs.declared.types.Ty.{Ty}
use Rattle.vk_unit_rules.specs.declared.rules.UnitRule.{UnitRule}
use Rattle.vk_unit_rules.specs.declared.rules.UnitRule.TheVariants.{C1, C2, C4}
use Rattle.vk_lex.specs.Characters.{is_word_start, is_word_byte, run, after}
use Rattle.vk_lex.specs.Literals.{begins_floating, begins_fraction, literal}
use Rattle.vk_tokens.specs.declared.tokens.Mark.{Mark}
use Rattle.vk_lex.specs.Signs.{mark_text}
use Rattle.vk_lex.specs.Inner.Signs.{sign_at}
use Rattle.vk_lex.proofs.Marks.{longest, no_mark}
use Rattle.vk_lex.specs.Tokens.{Kind, word, integer, sign}
use Rattle.vk_lex.specs.Lexing.{begins_by, is_floating_word, is_number_byte, IsToken, a_name, a_number, a_sign, IsNoToken, floating_word, floating_number, no_literal, floating_fraction, stray_byte, BeginsOther, IsPlain, BeginsToken, ended, going, IsPiece, a_blank, a_newline, a_heading, a_token, an_idle_byte, IsFault, late_hash, no_heading, no_token}
use Rattle.vk_lex.specs.Comments.{begins_with, begins_blank}
use Rattle.vk_lex.specs.Headings.{Heading}
use Rattle.vk_lex.specs.declared.pieces.Mode.{Mode}
use Rattle.vk_lex.specs.declared.pieces.Mode.TheVariants.{Start, Idle}

pub name_token : (text w rest : List ℕ) → begins_by is_word_start text ≡ true → w ≡ run is_word_byte text → rest ≡ after is_word_byte text → is_floating_word w ≡ false
    → IsToken text (word w) rest
name_token [] w rest b e f g = absurd (false≢true b)
name_token (c ∷ cs) w rest b e f g =
    subst (λ (r : List ℕ). IsToken (c ∷ cs) (word w) r) (sym f)
    (subst (λ (u : List ℕ). IsToken (c ∷ cs) (word u) (after is_word_byte (c ∷ cs))) (sym e) (a_name b (sym (ap is_floating_word e) ∙ g)))

pub name_fault : (text w : List ℕ) → begins_by is_word_start text ≡ true → w ≡ run is_word_byte text → is_floating_word w ≡ true → IsNoToken text C2
name_fault [] w b e g = absurd (false≢true b)
name_fault (c ∷ cs) w b e g = floating_word b (sym (ap is_floating_word e) ∙ g)

pub number_token : (text u rest : List ℕ) (t : Ty) (n : ℕ) → begins_by is_ascii_digit text ≡ true → begins_floating text ≡ false → u ≡ run is_number_byte text
    → rest ≡ after is_number_byte text → literal u ≡ Ok (t, n) → IsToken text (integer t n) rest
number_token [] u rest t n b d e f g = absurd (false≢true b)
number_token (c ∷ cs) u rest t n b d e f g = subst (λ (r : List ℕ). IsToken (c ∷ cs) (integer t n) r) (sym f) (a_number b d (sym (ap literal e) ∙ g))

pub number_fault : (text u : List ℕ) (r : UnitRule) → begins_by is_ascii_digit text ≡ true → begins_floating text ≡ false → u ≡ run is_number_byte text
    → literal u ≡ Err r → IsNoToken text r
number_fault [] u r b d e g = absurd (false≢true b)
number_fault (c ∷ cs) u r b d e g = no_literal b d (sym (ap literal e) ∙ g)

pub floating_fault : (text : List ℕ) → begins_by is_ascii_digit text ≡ true → begins_floating text ≡ true → IsNoToken text C2
floating_fault [] b d = absurd (false≢true b)
floating_fault (c ∷ cs) b d = floating_number b d

pub sign_token : (text rest : List ℕ) (m : Mark) → BeginsOther text → IsPlain text → Some m ≡ sign_at text → rest ≡ drop (length (mark_text m)) text → IsToken text (sign m) rest
sign_token [] rest m b p e f = absurd b
sign_token (c ∷ cs) rest m b p e f = subst (λ (r : List ℕ). IsToken (c ∷ cs) (sign m) r) (sym f) (a_sign b p (longest (c ∷ cs) m (sym e)))

pub fraction_fault : (text : List ℕ) → BeginsOther text → IsPlain text → None ≡ sign_at text → true ≡ begins_fraction text → IsNoToken text C2
fraction_fault [] b p e f = absurd b
fraction_fault (c ∷ cs) b p e f = floating_fraction b p (no_mark (c ∷ cs) (sym e)) (sym f)

pub stray_fault : (text : List ℕ) → BeginsOther text → IsPlain text → None ≡ sign_at text → false ≡ begins_fraction text → IsNoToken text C1
stray_fault [] b p e f = absurd b
stray_fault (c ∷ cs) b p e f = stray_byte b p (no_mark (c ∷ cs) (sym e)) (sym f)

-- ---- pieces

pub newline_piece : (m : Mode) (text rest : List ℕ) (k : Option Kind) → true ≡ begins_with 10 text → k ≡ ended m → rest ≡ drop 1 text → IsPiece m text k Start rest
newline_piece m [] rest k b e f = absurd (false≢true (sym b))
newline_piece m (c ∷ cs) rest k b e f =
    let is : c ≡ 10 = eqb-true c 10 (sym b) in
    subst (λ (x : ℕ). IsPiece m (x ∷ cs) k Start rest) (sym is)
    (subst (λ (r : List ℕ). IsPiece m (10 ∷ cs) k Start r) (sym f) (subst (λ (o : Option Kind). IsPiece m (10 ∷ cs) o Start cs) (sym e) a_newline))

pub blank_piece : (m : Mode) (text rest : List ℕ) → true ≡ begins_blank text → rest ≡ drop 1 text → IsPiece m text None m rest
blank_piece m [] rest b f = absurd (false≢true (sym b))
blank_piece m (c ∷ cs) rest b f = subst (λ (r : List ℕ). IsPiece m (c ∷ cs) None m r) (sym f) (a_blank (sym b))

not_first : (b : ℕ) (c : ℕ) → false ≡ (c == b) → c ≢ b
not_first b c e is = eqb-false c b (sym e) is

pub idle_piece : (m : Mode) (text rest : List ℕ) → 1 ≤ length text → m ≡ Idle → false ≡ begins_with 10 text → IsPlain text → rest ≡ drop 1 text → IsPiece m text None Idle rest
idle_piece m [] rest some e b p f = absurd (omega arith)
idle_piece m (c ∷ cs) rest some e b p f =
    subst (λ (n : Mode). IsPiece n (c ∷ cs) None Idle rest) (sym e) (subst (λ (r : List ℕ). IsPiece Idle (c ∷ cs) None Idle r) (sym f) (an_idle_byte (not_first 10 c b) p))

pub hash_text : (text rest : List ℕ) → true ≡ begins_with 35 text → rest ≡ drop 1 text → 35 ∷ rest ≡ text
hash_text [] rest b f = absurd (false≢true (sym b))
hash_text (c ∷ cs) rest b f = ap₂ (λ (x : ℕ) (xs : List ℕ). x ∷ xs) (sym (eqb-true c 35 (sym b))) f

pub begins_token : (text : List ℕ) → 1 ≤ length text → false ≡ begins_blank text → false ≡ begins_with 10 text → false ≡ begins_with 35 text → BeginsToken text
begins_token [] some b d e = omega arith
begins_token (c ∷ cs) some b d e = (sym b, not_first 10 c d, not_first 35 c e)

pub late : (m : Mode) (cs : List ℕ) → m ≢ Start → m ≢ Idle → IsFault m (35 ∷ cs) C1
late m cs a b = late_hash a b

pub heads : (m : Mode) (cs rest : List ℕ) (k : Option Kind) (n : Mode) → m ≡ Start → Heading cs k n rest → IsPiece m (35 ∷ cs) k n rest
heads m cs rest k n e h = subst (λ (x : Mode). IsPiece x (35 ∷ cs) k n rest) (sym e) (a_heading h)

pub headless : (m : Mode) (cs : List ℕ) → m ≡ Start → ((k : Option Kind) (n : Mode) (rest : List ℕ) → Heading cs k n rest → ⊥) → IsFault m (35 ∷ cs) C4
headless m cs e none = subst (λ (x : Mode). IsFault x (35 ∷ cs) C4) (sym e) (no_heading none)

pub token_piece : (m n : Mode) (text rest : List ℕ) (k : Kind) → m ≢ Idle → n ≡ going m → IsToken text k rest → IsPiece m text (Some k) n rest
token_piece m n text rest k ne e t = subst (λ (x : Mode). IsPiece m text (Some k) x rest) (sym e) (a_token ne t)

pub token_fault : (m : Mode) (text : List ℕ) (r : UnitRule) → m ≢ Idle → IsNoToken text r → IsFault m text r
token_fault m text r ne t = no_token ne t
