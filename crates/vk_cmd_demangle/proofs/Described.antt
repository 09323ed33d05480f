-- The bytes of a name are text, and its parameters' words.
use Rattle.std.proofs.Common.{◌≡◌, ℕ, ◌+◌, ◌<◌, ◌≤◌, true, List, [], ◌∷◌, ◌++◌, length, get_or, take, arith, sym, ap, append_assoc, ◌∙◌, IsUtf8, inl, inr}
use Rattle.std.specs.List.{flat_map, list_all, prefix_len}
use Rattle.std.specs.Str.{IsAscii}
use Rattle.std.proofs.lemmas.Bool.Decides.{nat_tests}
use Rattle.std.proofs.lemmas.Bool.{cases_lt}
use Rattle.std.proofs.lemmas.List.{take_more, append-nil, get_or_past, take_all}
use Rattle.std.proofs.lemmas.List.Elements.{All-get_or}
use Rattle.std.proofs.lemmas.List.Folds.{length-prefix_len}
use Rattle.std.proofs.lemmas.List.Sums.{AllPass-from_list_all}
use Rattle.std.proofs.lemmas.Grind.{flat_map-append}
use Rattle.std.proofs.lemmas.Str.{IsUtf8-from_ascii}
use Rattle.vk_kinds.specs.declared.kinds.Param.{Param}
use Rattle.vk_names.specs.Spelling.{is_name_byte, text_of}
use Rattle.vk_cmd_demangle.specs.Lines.{param_words}

-- a letter, digit or underscore is one ASCII byte
name_byte_ascii : (b : ℕ) → is_name_byte b ≡ true → b < 128
name_byte_ascii b h = grind (arith, nat_tests)

name_bytes_ascii : (bs : List ℕ) → list_all is_name_byte bs ≡ true → IsAscii bs
name_bytes_ascii bs h i = elim (cases_lt i (length bs)) [
  | inl lt ↦ name_byte_ascii (get_or bs i 0) (All-get_or (λ b. is_name_byte b ≡ true) bs i 0 lt (AllPass-from_list_all is_name_byte bs h))
  | inr le ↦ omega (arith, get_or_past bs i 0 le)
]

pub name_bytes_text : (bs : List ℕ) → list_all is_name_byte bs ≡ true → IsUtf8 bs
name_bytes_text bs h = IsUtf8-from_ascii bs (name_bytes_ascii bs h)

-- one more parameter
pub params_more : (params : List Param) (i : ℕ) (p d : Param) (start old new : List ℕ) → i < length params → p ≡ get_or params i d →
    old ≡ start ++ flat_map param_words (take i params) → new ≡ old ++ param_words p →
    new ≡ start ++ flat_map param_words (take (i + 1) params)
params_more params i p d start old new h read before e =
    e ∙ ap (λ xs. xs ++ param_words p) before ∙ append_assoc start (flat_map param_words (take i params)) (param_words p)
    ∙ ap (λ xs. start ++ xs) (sym (ap (flat_map param_words) (take_more params i d h ∙ ap (λ q. take i params ++ (q ∷ [])) (sym read))
    ∙ flat_map-append param_words (take i params) (p ∷ []) ∙ ap (λ xs. flat_map param_words (take i params) ++ xs) (append-nil (param_words p))))

-- the text of a line that has no more bytes
pub text_whole : (line : List ℕ) → length line ≤ length (text_of line) → text_of line ≡ line
text_whole line h = take_all (prefix_len is_name_byte line) line (omega (arith, length-prefix_len is_name_byte line))
