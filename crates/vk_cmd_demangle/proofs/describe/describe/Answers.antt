-- The words in their order.
use Rattle.std.proofs.Common.{◌≡◌, ◌∙◌, ◌++◌, ◌∷◌, [], ℕ, List, ap, ap₂, append_assoc, string_bytes}
use Rattle.std.specs.List.{flat_map}
use Rattle.std.specs.Prelude.{OnOk, Ok, Err, Result, codes}
use Rattle.vk_cmd_demangle.specs.Lines.{len_words, mask_words, name_line, param_words}
use Rattle.vk_names.specs.Spelling.{isa_letter}
use Rattle.vk_cmd_demangle.proofs.describe.describe.Goals as goal

weaker : {T E : Type 0} (r : Result T E) (P Q : Type 0) → (P → Q) → OnOk r P → OnOk r Q
weaker (Ok x) P Q f h = f h
weaker (Err e) P Q f h = tt

-- four texts behind one another
joined : (old a b c d w x y z : List ℕ) → w ≡ old ++ a → x ≡ w ++ b → y ≡ x ++ c → z ≡ y ++ d → z ≡ old ++ (a ++ (b ++ (c ++ d)))
joined old a b c d w x y z p q r s =
    s ∙ ap (λ t. t ++ d) (r ∙ ap (λ t. t ++ c) (q ∙ ap (λ t. t ++ b) p))
    ∙ append_assoc ((old ++ a) ++ b) c d ∙ append_assoc (old ++ a) b (c ++ d) ∙ append_assoc old a (b ++ (c ++ d))

-- the front of the line
front : (s i m scalar mask rest : List ℕ) (letter : ℕ) → s ≡ scalar → i ≡ letter ∷ [] → m ≡ mask →
    (s ++ (codes " isa " ++ (i ++ m))) ++ rest ≡ scalar ++ (codes " isa " ++ (letter ∷ (mask ++ rest)))
front s i m scalar mask rest letter p q r =
    ap (λ t. t ++ rest) (ap₂ (λ x y. x ++ (codes " isa " ++ y)) p (ap₂ (λ x y. x ++ y) q r))
    ∙ append_assoc scalar (codes " isa " ++ (letter ∷ mask)) rest
    ∙ ap (λ t. scalar ++ t) (append_assoc (codes " isa ") (letter ∷ mask) rest)

pub returns : goal.returns
unfolding name_line
returns c = weaker c.end_line.result _ _
    (λ e. joined (string_bytes c.args.text.now) (c.scalar_text-scalar.result.now ++ (codes " isa " ++ (c.letter-isa.result.now ++ c.mask_text-mask.result.now)))
    (len_words c.args.head.now.len) (flat_map param_words c.as_slice.result.now) (10 ∷ [])
    (string_bytes c.write.new.self) (string_bytes c.push_len.new.text) (string_bytes c.push_params.new.text) (string_bytes c.end_line.new.text)
    c.in_ok-write.ensures.bytes c.in_ok-push_len.ensures c.in_ok-push_params.ensures e
    ∙ ap (λ (t : List ℕ). string_bytes c.args.text.now ++ t)
    (front c.scalar_text-scalar.result.now c.letter-isa.result.now c.mask_text-mask.result.now c.args.scalar.now (mask_words c.args.head.now.masked) _ (isa_letter c.args.head.now.isa)
    c.scalar_text-scalar.ensures c.letter-isa.ensures c.mask_text-mask.ensures
    ∙ ap (λ (ps : _). c.args.scalar.now ++ (codes " isa " ++ (isa_letter c.args.head.now.isa ∷ (mask_words c.args.head.now.masked ++ (len_words c.args.head.now.len ++ (flat_map param_words ps ++ (10 ∷ []))))))) c.as_slice.ensures.value))
    c.end_line.ensures
