-- Names before a colon.
use Rattle.std.proofs.Common.{◌≡◌, suc, ◌+◌, ◌<◌, Bool, true, false, not, List, [], ◌∷◌, ◌++◌, length, take, drop, get_or, Some, None, refl, sym, ap, ◌∙◌, inl, inr, append-nil, append_assoc, length-append, drop-cons, drop_of_length-le, arith}
use Rattle.std.specs.List.{position_or_len}
use Rattle.std.proofs.Math.Seq.{take-append_seam, drop-append_seam}
use Rattle.std.proofs.lemmas.Bool.{cases_lt}
use Rattle.std.proofs.lemmas.List.{take_all, take-append-drop}
use Rattle.std.proofs.lemmas.List.Sums.{prefix_len_stops}
use Rattle.vk_ast.specs.declared.names.NameId.{NameId}
use Rattle.vk_ast.specs.declared.directives.PlacedName.{PlacedName}
use Rattle.vk_tokens.specs.declared.tokens.Mark.TheVariants as mark
use Rattle.vk_grammar_expr.specs.declared.symbols.Sym.{Sym}
use Rattle.vk_grammar_expr.specs.declared.symbols.SymKind.TheVariants as kind
use Rattle.vk_grammar_expr.specs.Symbols.{Is, IsSign, is_sign, same_mark}
use Rattle.vk_grammar_expr.proofs.Signs.{sign_kind, sign_is}
use Rattle.vk_parse_directives.specs.Cuts.{is_colon, before_colon, behind_colon, tail_of}
use Rattle.vk_parse_directives.specs.Clauses.{AreIds, one_id, more_ids, Wraps, in_parens}
use Rattle.vk_parse_directives.proofs.Forms.{some_is}

name_no_colon : {t : Sym} {id : NameId} → Is (kind.Name id) t → is_colon t ≡ false
unfolding is_sign
name_no_colon i = rw i.is refl

comma_no_colon : {t : Sym} → IsSign mark.Comma t → is_colon t ≡ false
unfolding is_sign same_mark
comma_no_colon i = rw i.is refl

open_no_colon : {t : Sym} → IsSign mark.OpenParen t → is_colon t ≡ false
unfolding is_sign same_mark
open_no_colon i = rw i.is refl

close_no_colon : {t : Sym} → IsSign mark.CloseParen t → is_colon t ≡ false
unfolding is_sign same_mark
close_no_colon i = rw i.is refl

-- no token of these is a colon
pub record HasNone (x : List Sym) : Type 0 where
  pub before : (rest : List Sym) → position_or_len is_colon (x ++ rest) ≡ length x + position_or_len is_colon rest

none_nil : HasNone []
none_nil = record { before = λ rest. sym (omega arith) }

none_cons : {t : Sym} {x : List Sym} → is_colon t ≡ false → HasNone x → HasNone (t ∷ x)
none_cons {x = x} e n = record { before = λ rest. rw e (let b = n.before rest in omega (arith, b)) }

none_push : {x : List Sym} (t : Sym) → HasNone x → is_colon t ≡ false → HasNone (x ++ t ∷ [])
none_push {x} t n e = record {
  before = λ rest. ap (position_or_len is_colon) (append_assoc x (t ∷ []) rest) ∙ n.before (t ∷ rest) ∙ rw e (omega (arith, length-append x (t ∷ [])));
}

pub none_ids : {ids : List PlacedName} {x : List Sym} → AreIds ids x → HasNone x
none_ids (one_id i) = none_cons (name_no_colon i) none_nil
none_ids (more_ids i c later) = none_cons (name_no_colon i) (none_cons (comma_no_colon c) (none_ids later))

pub none_group : {ids : List PlacedName} {x w : List Sym} → Wraps x w → AreIds ids x → HasNone w
none_group (in_parens o c) ids = none_cons (open_no_colon o) (none_push _ (none_ids ids) (close_no_colon c))

module _ {x : List Sym} (n : HasNone x) where
  at_end : position_or_len is_colon x ≡ length x
  at_end = sym (ap (position_or_len is_colon) (append-nil x)) ∙ n.before [] ∙ omega arith

  pub before_plain : before_colon x ≡ x
  unfolding before_colon
  before_plain = take_all (position_or_len is_colon x) x (omega (arith, at_end))

  pub behind_plain : behind_colon x ≡ None
  unfolding behind_colon
  behind_plain = ap tail_of (drop_of_length-le x (omega (arith, at_end)))

  module _ {u : Sym} (i : IsSign mark.Colon u) (y : List Sym) where
    at_u : position_or_len is_colon (x ++ (u ∷ y)) ≡ length x
    at_u = n.before (u ∷ y) ∙ rw (sign_is i) (omega arith)

    pub before_u : before_colon (x ++ (u ∷ y)) ≡ x
    unfolding before_colon
    before_u = ap (λ k. take k (x ++ (u ∷ y))) at_u ∙ take-append_seam x (u ∷ y)

    pub behind_u : behind_colon (x ++ (u ∷ y)) ≡ Some y
    unfolding behind_colon
    behind_u = ap (λ k. tail_of (drop k (x ++ (u ∷ y)))) at_u ∙ ap tail_of (drop-append_seam x (u ∷ y))

-- what a cut says of the list
pub record Cut (w y : List Sym) : Type 0 where
  pub colon : Sym
  pub is : IsSign mark.Colon colon
  pub parts : w ≡ before_colon w ++ (colon ∷ y)

not_false : (b : Bool) → not b ≡ false → b ≡ true
not_false true e = refl
not_false false e = sym e

pub cut : (w : List Sym) {y : List Sym} → behind_colon w ≡ Some y → Cut w y
unfolding behind_colon before_colon
cut w {y} e = elim (cases_lt (position_or_len is_colon w) (length w)) [
  | inl below ↦ at_place w below e
  | inr past ↦ let none = ap tail_of (drop_of_length-le w past) in absurd (cc)
]
  where
    at_place : (w : List Sym) → position_or_len is_colon w < length w → tail_of (drop (position_or_len is_colon w) w) ≡ Some y → Cut w y
    at_place [] below e = absurd (omega arith)
    at_place (t ∷ rest) below e =
        let w = t ∷ rest in
        let k = position_or_len is_colon w in
        let split = drop-cons w k t below in
        let tail : drop (suc k) w ≡ y = some_is (sym (ap tail_of split) ∙ e) in
        record {
          colon = get_or w k t;
          is = record { is = sign_kind mark.Colon (get_or w k t).kind (not_false _ (prefix_len_stops (λ x. not (is_colon x)) w t below)) };
          parts = sym (take-append-drop k w) ∙ ap (λ l. take k w ++ l) (split ∙ ap (λ l. get_or w k t ∷ l) tail);
        }

pub uncut : (w : List Sym) → behind_colon w ≡ None → before_colon w ≡ w
unfolding behind_colon before_colon
uncut w e = elim (cases_lt (position_or_len is_colon w) (length w)) [
  | inl below ↦ absurd (has_tail w below e)
  | inr past ↦ take_all (position_or_len is_colon w) w past
]
  where
    has_tail : (w : List Sym) → position_or_len is_colon w < length w → tail_of (drop (position_or_len is_colon w) w) ≡ None → ⊥
    has_tail [] below e = omega arith
    has_tail (t ∷ rest) below e = let split = ap tail_of (drop-cons (t ∷ rest) (position_or_len is_colon (t ∷ rest)) t below) in cc
