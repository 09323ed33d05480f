-- What gaps are, step by step.
use Rattle.std.proofs.Common.{◌≡◌, ℕ, ◌==◌, ◌&&◌, true, false, List, [], ◌∷◌, ◌++◌, codes, drop, Option, Some, None, IfSome, refl, sym, ap, subst, ◌∙◌, Bor, arith, if◌then◌else◌}
use Rattle.std.proofs.lemmas.Bool.Decides.{nat_tests}
use Rattle.std.proofs.lemmas.Option.{none-some}
use Rattle.std.proofs.lemmas.Bool.{false≢true}
use Rattle.std.specs.Option.{option_map, unwrap_or}
use Rattle.vk_lex.specs.Comments.{Gap, a_blank, a_comment, no_gap, begins_blank, after_comment, after_close}
use Rattle.vk_lex.specs.Headings.{IsClear, IsFile, ends_line}
use Rattle.vk_lex.specs.Characters.{is_blank, is_not_newline, after}

pub blank_gap : (text rest : List ℕ) → begins_blank text ≡ true → Gap (drop 1 text) rest → Gap text rest
blank_gap [] rest b g = absurd (false≢true b)
blank_gap (c ∷ cs) rest b g = a_blank b g

pub comment_gap : (text : List ℕ) (r : Option (Bor (List ℕ))) → option_map (λ r. r.now) r ≡ after_comment text → IfSome r (λ m. (rest : List ℕ) → Gap m.now rest → Gap text rest)
comment_gap text None e = tt
comment_gap text (Some m) e = λ rest g. a_comment (sym e) g

pub no_more : (text : List ℕ) (r : Option (Bor (List ℕ))) → option_map (λ r. r.now) r ≡ after_comment text → false ≡ begins_blank text → r ≡ None → Gap text text
no_more text r e b n = no_gap (sym b) (sym e ∙ ap (option_map (λ r. r.now)) n)

-- ---- a text has one gap

not_slash : (c : ℕ) → is_blank c ≡ true → c == 47 ≡ false
not_slash c b = grind (arith, nat_tests)

pub blank_no_comment : (c : ℕ) (cs : List ℕ) → is_blank c ≡ true → after_comment (c ∷ cs) ≡ None
blank_no_comment c [] b = refl
blank_no_comment c (d ∷ cs) b = ap (λ t. if t && (d == 47) then Some (after is_not_newline cs) else if t && (d == 42) then after_close cs else None) (not_slash c b)

pub gap_only : {text r s : List ℕ} → Gap text r → Gap text s → r ≡ s
gap_only (a_blank b g) (a_blank d h) = gap_only g h
gap_only (a_blank {c = c} {cs = cs} b g) (a_comment e h) = absurd (none-some _ (sym (blank_no_comment c cs b) ∙ e))
gap_only (a_blank b g) (no_gap d e) = absurd (false≢true (sym d ∙ b))
gap_only (a_comment d g) (a_blank {c = c} {cs = cs} b h) = absurd (none-some _ (sym (blank_no_comment c cs b) ∙ d))
gap_only (a_comment d g) (a_comment {rest = rest} e h) = gap_only g (subst (λ (t : List ℕ). Gap t rest) (sym (ap (λ o. unwrap_or o []) (sym d ∙ e))) h)
gap_only (a_comment d g) (no_gap b e) = absurd (none-some _ (sym e ∙ d))
gap_only (no_gap b e) (a_blank d h) = absurd (false≢true (sym b ∙ d))
gap_only (no_gap b e) (a_comment d h) = absurd (none-some _ (sym e ∙ d))
gap_only (no_gap b e) (no_gap d f) = refl

-- ---- lines that are clear

pub not_clear : (text rest : List ℕ) → Gap text rest → ends_line rest ≡ false → IsClear text → ⊥
not_clear text rest g no_end clear = false≢true (sym no_end ∙ ap ends_line (gap_only g clear.gap) ∙ clear.ends)

-- ---- the file of an include line

pub no_file : (text at rest : List ℕ) → Gap text at → ((r : List ℕ) → at ≡ codes "<stdint.h>" ++ r → ⊥) → IsFile text rest → ⊥
no_file text at rest g none f = none rest (gap_only g f.gap ∙ f.file)

pub unclear_file : (text at more rest : List ℕ) → Gap text at → at ≡ codes "<stdint.h>" ++ more → (IsClear more → ⊥) → IsFile text rest → ⊥
unclear_file text at more rest g e none f = none (subst IsClear (sym (ap (drop 10) (sym e ∙ gap_only g f.gap ∙ f.file))) f.clear)
