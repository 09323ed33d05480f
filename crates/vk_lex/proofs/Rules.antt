-- The rules by which bytes have no tokens.
use Rattle.std.proofs.Common.{ℕ, List, Option, Some, None, Result, Ok, Err, subst}
use Rattle.vk_types.specs.declared.types.Ty.{Ty}
use Rattle.vk_unit_rules.specs.declared.rules.UnitRule.{UnitRule}
use Rattle.vk_lex.specs.declared.literals.Base.{Base}
use Rattle.vk_lex.specs.declared.literals.Suffix.{Suffix}
use Rattle.vk_lex.specs.declared.pieces.Mode.{Mode}
use Rattle.vk_lex.specs.Characters.{after, line_of}
use Rattle.vk_lex.specs.Literals.{typed, suffixed, suffix_of, is_digit_of, first_type, types_for, value_in, base_of, body_of, literal}
use Rattle.vk_lex.specs.Lexing.{IsNoToken, floating_word, floating_number, no_literal, floating_fraction, stray_byte, IsFault, open_comment, late_hash, no_heading, no_token, Fails, here, later, Refuses, IsTokenRule}

abbrev KeepsRule : Result (Ty × ℕ) UnitRule → Type 0
KeepsRule (Ok typed) = Unit {0}
KeepsRule (Err r) = IsTokenRule r

typed_rule : (t : Option Ty) (n : ℕ) → KeepsRule (typed t n)
typed_rule None n = tt
typed_rule (Some t) n = tt

suffixed_rule : (b : Base) (body : List ℕ) (s : Option Suffix) → KeepsRule (suffixed b body s)
suffixed_rule b body None = tt
suffixed_rule b body (Some s) = typed_rule (first_type (types_for b s) (value_in b body)) (value_in b body)

literal_rule : (text : List ℕ) → KeepsRule (literal text)
unfolding literal
literal_rule text = let b = base_of text in suffixed_rule b (body_of b text) (suffix_of (after (is_digit_of b) (body_of b text)))

no_token_rule : {text : List ℕ} {r : UnitRule} → IsNoToken text r → IsTokenRule r
no_token_rule (floating_word w f) = tt
no_token_rule (floating_number d f) = tt
no_token_rule (no_literal d f e) = subst KeepsRule e (literal_rule _)
no_token_rule (floating_fraction o p n f) = tt
no_token_rule (stray_byte o p n f) = tt

fault_rule : {m : Mode} {text : List ℕ} {r : UnitRule} → IsFault m text r → IsTokenRule r
fault_rule (open_comment e) = tt
fault_rule (late_hash a b) = tt
fault_rule (no_heading none) = tt
fault_rule (no_token ne t) = no_token_rule t

fails_rule : (line : ℕ → ℕ) {m : Mode} {text : List ℕ} {l : ℕ} {r : UnitRule} → Fails line m text l r → IsTokenRule r
fails_rule line (here f) = fault_rule f
fails_rule line (later p f) = fails_rule line f

pub token_rules : (bytes : List ℕ) (line : ℕ) (rule : UnitRule) → Refuses bytes line rule → IsTokenRule rule
token_rules bytes line rule f = fails_rule (line_of bytes) f
