-- What the reader of `linear` tells, against the relation.
use Rattle.std.proofs.Common.{◌≡◌, ℕ, zero, suc, ◌+◌, ◌<◌, Bool, true, false, ◌&&◌, cond, List, [], ◌∷◌, ◌++◌, length, take, drop, Option, Some, None, refl, sym, ap, ap₂, ◌∙◌, subst, inl, inr, ◌⊎◌, append-nil, length-append, drop_of_length-le, arith}
use Rattle.std.proofs.Math.Seq.{take-append_seam, drop-append_seam}
use Rattle.std.proofs.lemmas.List.{take_all, take-append-drop}
use Rattle.vk_ast.specs.declared.names.NameId.{NameId}
use Rattle.vk_ast.specs.declared.directives.PlacedName.{PlacedName}
use Rattle.vk_ast.specs.Tree.{Tree}
use Rattle.vk_ast.specs.Directives.{Says}
use Rattle.vk_tokens.specs.declared.tokens.Mark.TheVariants as mark
use Rattle.vk_grammar_expr.specs.declared.symbols.Sym.{Sym}
use Rattle.vk_grammar_expr.specs.declared.symbols.SymKind.{SymKind}
use Rattle.vk_grammar_expr.specs.declared.symbols.SymKind.TheVariants as kind
use Rattle.vk_grammar_expr.specs.Symbols.{Is, IsSign, is_sign, same_mark, head}
use Rattle.vk_grammar_expr.proofs.Signs.{sign_is}
use Rattle.vk_parse_directives.specs.declared.words.Word.{Word}
use Rattle.vk_parse_directives.specs.declared.words.Word.TheVariants as word
use Rattle.vk_parse_directives.specs.Words.{word_at}
use Rattle.vk_parse_directives.specs.Cuts.{is_any_word, is_comma, group_len, piece_len, before_colon, behind_colon, has_modifiers}
use Rattle.vk_parse_directives.specs.Clauses.{Part, worded, step, modifier_of, modifier_in, step_in, IsCond, Wraps, in_parens, AreIds, one_id, more_ids, IsPart, a_word, a_step, AreParts, last_part, more_parts, IsLinear, plain, with_step, with_modifiers, modified, modified_with_step}
use Rattle.vk_parse_directives.specs.Inner.Reading.{◌>>=◌, cond_in, name_in, ids_in, inside, step_part, part_in, later_parts, parts_step, parts_in, modifiers_in, behind_ids, behind_group, ids_linear, modified_linear, linear_in}
use Rattle.vk_parse_directives.proofs.Conds.{cond_only, cond_of}
use Rattle.vk_parse_directives.proofs.Even.{even_of, group_is}
use Rattle.vk_parse_directives.proofs.Forms.{some_is, gave, chose, a_name, name_of, comma_of, ids_found, ids_only, inside_of, wraps}
use Rattle.vk_parse_directives.proofs.Colons.{none_ids, none_group, before_plain, behind_plain, before_u, behind_u, cut, uncut}

-- which of two gave something
pub either : {A : Type 0} (b : Bool) (p q : Option A) {a : A} → cond b p q ≡ Some a → ((b ≡ true) × (p ≡ Some a)) ⊎ ((b ≡ false) × (q ≡ Some a))
either true p q e = inl (refl, e)
either false p q e = inr (refl, e)

-- a choice of nothing and something that gave something
refused : {A : Type 0} (b : Bool) (o : Option A) {a : A} → cond b None o ≡ Some a → (b ≡ false) × (o ≡ Some a)
refused true o e = absurd (cc)
refused false o e = (refl, e)

comma_not_open : {t : Sym} → IsSign mark.Comma t → is_sign mark.OpenParen (Some t.kind) ≡ false
unfolding is_sign same_mark
comma_not_open i = rw i.is refl

colon_not_open : {t : Sym} → IsSign mark.Colon t → is_sign mark.OpenParen (Some t.kind) ≡ false
unfolding is_sign same_mark
colon_not_open i = rw i.is refl

none_not_open : is_sign mark.OpenParen None ≡ false
unfolding is_sign
none_not_open = refl

module _ (names : List (List ℕ)) where
  word_is_any : (k : SymKind) {v : Word} → word_at names k ≡ Some v → is_any_word k ≡ true
  word_is_any (kind.Name id) e = refl
  word_is_any (kind.Int ty n) e = absurd (cc)
  word_is_any (kind.Sign m) e = absurd (cc)
  word_is_any (kind.Keyword k) e = absurd (cc)
  word_is_any (kind.TypeWord w) e = absurd (cc)
  word_is_any kind.LeftOut e = absurd (cc)
  word_is_any (kind.Simd n) e = absurd (cc)
  word_is_any (kind.Simdfn n) e = absurd (cc)

  -- ---- modifiers

  record StepIs (o : Option Word) (w : List Sym) (p : Part) : Type 0 where
    word_is : o ≡ Some word.Step
    text : List Sym
    tree : Tree
    in_group : Wraps text w
    is_cond : IsCond tree text
    part_is : step tree ≡ p

  step_found : (o : Option Word) (w : List Sym) {p : Part} → step_part names o w ≡ Some p → StepIs o w p
  step_found (Some word.Step) w e =
      let g = gave (inside w) (λ x. cond_in x >>= (λ t. Some (step t))) e in
      let h = gave (cond_in g.value) (λ t. Some (step t)) g.then_is in
      record { word_is = refl; text = g.value; tree = h.value; in_group = wraps w g.is; is_cond = cond_only g.value h.value h.is; part_is = some_is h.then_is }
  step_found _ w e = absurd (cc)

  part_found : (x : List Sym) {p : Part} → part_in names x ≡ Some p → IsPart names p x
  part_found [] e = absurd (cc)
  part_found (t ∷ []) e =
      let g = gave (name_in t) (λ _. Some (worded (modifier_of (word_at names t.kind)))) e in
      subst (λ (p : Part). IsPart names p (t ∷ [])) (some_is g.then_is) (a_word (a_name g.is).name)
  part_found (t ∷ u ∷ rest) e =
      let s = step_found (word_at names t.kind) (u ∷ rest) e in
      subst (λ (p : Part). IsPart names p (t ∷ u ∷ rest)) s.part_is (a_step s.word_is s.in_group s.is_cond)

  part_only : {p : Part} {x : List Sym} → IsPart names p x → part_in names x ≡ Some p
  part_only (a_word i) = rw (name_of i) refl
  part_only (a_step e (in_parens {o = o} {x = x} {c = c} i j) d) =
      ap (λ v. step_part names v (o ∷ (x ++ (c ∷ [])))) e ∙ ap (λ r. r >>= (λ y. cond_in y >>= (λ t. Some (step t)))) (inside_of (in_parens i j))
      ∙ ap (λ r. r >>= (λ t. Some (step t))) (cond_of d)

  piece_of : {p : Part} {x : List Sym} → IsPart names p x → (rest : List Sym) → is_sign mark.OpenParen (head rest) ≡ false → piece_len (x ++ rest) ≡ length x
  piece_of (a_word i) rest no_group = rw (i.is, no_group) refl
  piece_of (a_step {t = t} e (in_parens {o = o} {x = x} {c = c} i j) d) rest no_group =
      let len = group_is rest i j (even_of d.spells) in
      let group = group_len 0 (o ∷ ((x ++ (c ∷ [])) ++ rest)) in
      ap₂ (λ (a b : Bool). cond (a && b) (1 + group) 1) (word_is_any t.kind e) (sign_is i) ∙ omega (arith, len)

  later_found : (n : ℕ) (ih : (w : List Sym) (ps : List Part) → parts_in names n w ≡ Some ps → AreParts names ps w) {p : Part} {x w : List Sym} (b : List Sym) {qs : List Part}
      → x ++ b ≡ w → IsPart names p x → later_parts (parts_in names n) b ≡ Some qs → AreParts names (p ∷ qs) w
  later_found n ih {p} {x} {w} [] {qs} e i l =
      subst (λ (y : List Sym). AreParts names (p ∷ qs) y) (sym (append-nil x) ∙ e) (subst (λ (qs : List Part). AreParts names (p ∷ qs) x) (some_is l) (last_part i))
  later_found n ih {p} {x} {w} (u ∷ r) {qs} e i l =
      let c = chose (is_comma u) (parts_in names n r) l in
      subst (λ (y : List Sym). AreParts names (p ∷ qs) y) e (more_parts i (comma_of c.0) (ih r _ c.1))

  parts_found : (n : ℕ) (w : List Sym) (ps : List Part) → parts_in names n w ≡ Some ps → AreParts names ps w
  parts_found zero w ps e = absurd (cc)
  parts_found (suc n) w ps e =
      let k = piece_len w in
      let g = gave (part_in names (take k w)) (λ p. later_parts (parts_in names n) (drop k w) >>= (λ parts. Some (p ∷ parts))) e in
      let h = gave (later_parts (parts_in names n) (drop k w)) (λ parts. Some (g.value ∷ parts)) g.then_is in
      subst (λ (qs : List Part). AreParts names qs w) (some_is h.then_is)
      (later_found n (parts_found n) (drop k w) (take-append-drop k w) (part_found (take k w) g.is) h.is)

  step_of : (next : List Sym → Option (List Part)) (w x b : List Sym) {p : Part} {qs : List Part} → take (piece_len w) w ≡ x → drop (piece_len w) w ≡ b
      → part_in names x ≡ Some p → later_parts next b ≡ Some qs → parts_step names next w ≡ Some (p ∷ qs)
  step_of next w x b front back is later = rw (front, back, is, later) refl

  parts_only : {ps : List Part} {w : List Sym} → AreParts names ps w → (n : ℕ) → length w < n → parts_in names n w ≡ Some ps
  parts_only all zero room = absurd (omega arith)
  parts_only (last_part {x = x} i) (suc n) room =
      let len : piece_len x ≡ length x = ap piece_len (sym (append-nil x)) ∙ piece_of i [] none_not_open in
      step_of (parts_in names n) x x [] (take_all (piece_len x) x (omega (arith, len))) (drop_of_length-le x (omega (arith, len))) (part_only i) refl
  parts_only (more_parts {parts = parts} {x = x} {u = u} {y = y} i c more) (suc n) room =
      let len = piece_of i (u ∷ y) (comma_not_open c) in
      step_of (parts_in names n) (x ++ (u ∷ y)) x (u ∷ y)
      (ap (λ k. take k (x ++ (u ∷ y))) len ∙ take-append_seam x (u ∷ y)) (ap (λ k. drop k (x ++ (u ∷ y))) len ∙ drop-append_seam x (u ∷ y))
      (part_only i) (rw (sign_is c) (parts_only {ps = parts} more n (omega (arith, length-append x (u ∷ y)))))

  modifiers_found : (w : List Sym) {ps : List Part} → modifiers_in names w ≡ Some ps → AreParts names ps w
  unfolding modifiers_in
  modifiers_found w e = parts_found (suc (length w)) w _ e

  modifiers_only : {w : List Sym} {ps : List Part} → AreParts names ps w → modifiers_in names w ≡ Some ps
  unfolding modifiers_in
  modifiers_only {w} all = parts_only all (suc (length w)) (omega arith)

  -- ---- `linear`

  behind_found : {x : List Sym} {ids : List PlacedName} {s : Says} (o : Option (List Sym)) → behind_colon x ≡ o → AreIds ids (before_colon x) → behind_ids names ids o ≡ Some s → IsLinear names s x
  unfolding behind_ids
  behind_found {x} {ids} None is all e =
      subst (λ (s : Says). IsLinear names s x) (some_is e) (subst (IsLinear names (Says.linear ids None None)) (uncut x is) (plain all))
  behind_found {x} {ids} {s} (Some y) is all e =
      let c = cut x is in
      subst (IsLinear names s) (sym c.parts) (elim (either (has_modifiers names y) (modifiers_in names y >>= (λ parts. Some (Says.linear ids (modifier_in parts) (step_in parts)))) (cond_in y >>= (λ t. Some (Says.linear ids None (Some t)))) e) [
        | inl h ↦
            let g = gave (modifiers_in names y) (λ parts. Some (Says.linear ids (modifier_in parts) (step_in parts))) h.1 in
            subst (λ (s : Says). IsLinear names s (before_colon x ++ (c.colon ∷ y))) (some_is g.then_is) (with_modifiers all c.is h.0 (modifiers_found y g.is))
        | inr h ↦
            let g = gave (cond_in y) (λ t. Some (Says.linear ids None (Some t))) h.1 in
            subst (λ (s : Says). IsLinear names s (before_colon x ++ (c.colon ∷ y))) (some_is g.then_is) (with_step all c.is h.0 (cond_only y g.value g.is))
      ])

  ids_linear_found : (x : List Sym) {s : Says} → ids_linear names x ≡ Some s → IsLinear names s x
  unfolding ids_linear
  ids_linear_found x e =
      let g = gave (ids_in (before_colon x)) (λ ids. behind_ids names ids (behind_colon x)) e in
      behind_found (behind_colon x) refl (ids_found (before_colon x) g.is) g.then_is

  group_found : (t : Sym) (w : List Sym) {id : NameId} {x : List Sym} {ids : List PlacedName} {st : Option Tree} {s : Says} (o : Option (List Sym)) → behind_colon w ≡ o → Is (kind.Name id) t
      → Wraps x (before_colon w) → AreIds ids x → behind_group names o ≡ Some st → Says.linear ids (Some (modifier_of (word_at names t.kind))) st ≡ s → IsLinear names s (t ∷ w)
  unfolding behind_group
  group_found t w {x = x} {ids = ids} None is i wr all e same =
      let m = modifier_of (word_at names t.kind) in
      subst (λ (s : Says). IsLinear names s (t ∷ w)) (ap (Says.linear ids (Some m)) (some_is e) ∙ same)
      (modified i (subst (λ (l : List Sym). Wraps x l) (uncut w is) wr) all)
  group_found t w {ids = ids} (Some y) is i wr all e same =
      let m = modifier_of (word_at names t.kind) in
      let c = cut w is in
      let h = refused (has_modifiers names y) (cond_in y >>= (λ tr. Some (Some tr))) e in
      let g = gave (cond_in y) (λ tr. Some (Some tr)) h.1 in
      subst (λ (s : Says). IsLinear names s (t ∷ w)) (ap (Says.linear ids (Some m)) (some_is g.then_is) ∙ same)
      (subst (λ (l : List Sym). IsLinear names (Says.linear ids (Some m) (Some g.value)) (t ∷ l)) (sym c.parts) (modified_with_step i wr all c.is h.0 (cond_only y g.value g.is)))

  modified_found : (t : Sym) (w : List Sym) {s : Says} → modified_linear names t w ≡ Some s → IsLinear names s (t ∷ w)
  unfolding modified_linear
  modified_found t w {s} e =
      let m = modifier_of (word_at names t.kind) in
      let g = gave (name_in t) (λ _. inside (before_colon w) >>= (λ x. ids_in x >>= (λ ids. behind_group names (behind_colon w) >>= (λ st. Some (Says.linear ids (Some m) st))))) e in
      let h = gave (inside (before_colon w)) (λ x. ids_in x >>= (λ ids. behind_group names (behind_colon w) >>= (λ st. Some (Says.linear ids (Some m) st)))) g.then_is in
      let i = gave (ids_in h.value) (λ ids. behind_group names (behind_colon w) >>= (λ st. Some (Says.linear ids (Some m) st))) h.then_is in
      let j = gave (behind_group names (behind_colon w)) (λ st. Some (Says.linear i.value (Some m) st)) i.then_is in
      group_found t w (behind_colon w) refl (a_name g.is).name (wraps (before_colon w) h.is) (ids_found h.value i.is) j.is (some_is j.then_is)

  pub linear_found : (x : List Sym) {s : Says} → linear_in names x ≡ Some s → IsLinear names s x
  unfolding linear_in
  linear_found [] e = absurd (cc)
  linear_found (t ∷ rest) e = elim (either (is_sign mark.OpenParen (head rest)) (modified_linear names t rest) (ids_linear names (t ∷ rest)) e) [
    | inl h ↦ modified_found t rest h.1
    | inr h ↦ ids_linear_found (t ∷ rest) h.1
  ]

  no_group : {ids : List PlacedName} {x : List Sym} → AreIds ids x → (rest : List Sym) → is_sign mark.OpenParen (head rest) ≡ false → linear_in names (x ++ rest) ≡ ids_linear names (x ++ rest)
  unfolding linear_in
  no_group (one_id i) rest none = rw none refl
  no_group (more_ids i c later) rest none = rw (comma_not_open c) refl

  ids_then : {ids : List PlacedName} (w x : List Sym) (o : Option (List Sym)) → before_colon w ≡ x → behind_colon w ≡ o → AreIds ids x → ids_linear names w ≡ behind_ids names ids o
  unfolding ids_linear
  ids_then w x o before behind all = rw (before, behind, ids_only all) refl

  group_then : {id : NameId} {t : Sym} {ids : List PlacedName} {x : List Sym} (w v : List Sym) (o : Option (List Sym)) → Is (kind.Name id) t → before_colon w ≡ v → behind_colon w ≡ o → Wraps x v → AreIds ids x
      → modified_linear names t w ≡ (behind_group names o >>= (λ st. Some (Says.linear ids (Some (modifier_of (word_at names t.kind))) st)))
  unfolding modified_linear
  group_then {t = t} {ids = ids} {x = x} w v o i before behind wr all =
      let m = modifier_of (word_at names t.kind) in
      let rest = λ (g : Option (List Sym)). g >>= (λ y. ids_in y >>= (λ l. behind_group names o >>= (λ st. Some (Says.linear l (Some m) st)))) in
      let inner : inside v ≡ Some x = inside_of wr in
      rw (before, behind) (ap (λ n. n >>= (λ _. rest (inside v))) (name_of i) ∙ ap rest inner ∙ ap (λ r. r >>= (λ l. behind_group names o >>= (λ st. Some (Says.linear l (Some m) st)))) (ids_only all))

  at_group : (t : Sym) {x v : List Sym} (rest : List Sym) → Wraps x v → linear_in names (t ∷ (v ++ rest)) ≡ modified_linear names t (v ++ rest)
  unfolding linear_in
  at_group t rest (in_parens o c) = rw (sign_is o) refl

  pub linear_only : {s : Says} {x : List Sym} → IsLinear names s x → linear_in names x ≡ Some s
  unfolding behind_ids behind_group
  linear_only (plain {x = x} all) =
      let n = none_ids all in
      subst (λ (l : List Sym). linear_in names l ≡ ids_linear names l) (append-nil x) (no_group all [] none_not_open) ∙ ids_then x x None (before_plain n) (behind_plain n) all
  linear_only (with_step {ids = ids} {x = x} {u = u} {y = y} all i h d) =
      let n = none_ids all in
      no_group all (u ∷ y) (colon_not_open i) ∙ ids_then (x ++ (u ∷ y)) x (Some y) (before_u n i y) (behind_u n i y) all ∙ rw (h, cond_of d) refl
  linear_only (with_modifiers {ids = ids} {x = x} {u = u} {y = y} all i h parts) =
      let n = none_ids all in
      no_group all (u ∷ y) (colon_not_open i) ∙ ids_then (x ++ (u ∷ y)) x (Some y) (before_u n i y) (behind_u n i y) all ∙ rw (h, modifiers_only parts) refl
  linear_only (modified {t = t} {w = w} i wr all) =
      let n = none_group wr all in
      subst (λ (l : List Sym). linear_in names (t ∷ l) ≡ modified_linear names t l) (append-nil w) (at_group t [] wr) ∙ group_then w w None i (before_plain n) (behind_plain n) wr all
  linear_only (modified_with_step {t = t} {w = w} {u = u} {y = y} i wr all j h d) =
      let n = none_group wr all in
      at_group t (u ∷ y) wr ∙ group_then (w ++ (u ∷ y)) w (Some y) i (before_u n j y) (behind_u n j y) wr all ∙ rw (h, cond_of d) refl
