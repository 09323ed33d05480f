-- The loop over the modifiers of `linear`.
use Rattle.std.proofs.Common.{◌≡◌, ℕ, zero, suc, ◌-◌, ◌<◌, ◌≤◌, true, cond, List, [], ◌∷◌, ◌++◌, length, take, drop, get_or, Option, Some, None, refl, sym, ap, ◌∙◌, length-drop, arith}
use Rattle.vk_grammar_expr.specs.declared.symbols.Sym.{Sym}
use Rattle.vk_parse_directives.specs.declared.clauses.Modifiers.{Modifiers}
use Rattle.vk_parse_directives.specs.Cuts.{is_comma, piece_len}
use Rattle.vk_parse_directives.specs.Clauses.{Part}
use Rattle.vk_parse_directives.specs.Inner.Reading.{◌>>=◌, part_in, later_parts, parts_in, modifiers_in}
use Rattle.vk_parse_directives.specs.Inner.Parts.{IsSum, IsSumOf}
use Rattle.std.proofs.lemmas.List.{take_all}
use Rattle.vk_parse_directives.proofs.Lists.{all_of}

-- What was summed up and what is left are together the modifiers of `w`.
pub record Summing (names : List (List ℕ)) (w rest : List Sym) (m : Modifiers) : Type 0 where
  pub front : List Part
  pub sum : IsSum m front
  pub turns : ℕ
  pub room : length rest < turns
  pub goes : (parts_in names turns rest >>= (λ later. Some (front ++ later))) ≡ modifiers_in names w

same : {A : Type 0} (o : Option (List A)) → (o >>= (λ later. Some ([] ++ later))) ≡ o
same None = refl
same (Some l) = refl

pub start : (names : List (List ℕ)) (w : List Sym) → Summing names w w (record { word = None; step = None })
unfolding modifiers_in
start names w = record {
  front = [];
  sum = record { word = refl; step_is = refl };
  turns = suc (length w);
  room = omega arith;
  goes = same (parts_in names (suc (length w)) w);
}

module _ (names : List (List ℕ)) (w rest : List Sym) (p : Part) where
  private_step : (turns : ℕ) → length rest < turns → part_in names (take (piece_len rest) rest) ≡ Some p
      → (m : ℕ) × (length rest ≤ m) × (parts_in names turns rest ≡ (later_parts (parts_in names m) (drop (piece_len rest) rest) >>= (λ parts. Some (p ∷ parts))))
  private_step zero room is = absurd (omega arith)
  private_step (suc m) room is = (m, omega arith, rw is refl)

  pub last : {old new : Modifiers} → Summing names w rest old → part_in names (take (piece_len rest) rest) ≡ Some p → drop (piece_len rest) rest ≡ []
      → ((parts : List Part) → IsSum old parts → IsSum new (parts ++ p ∷ [])) → IsSumOf new (modifiers_in names w)
  last s is ends more =
      let go = private_step s.turns s.room is in
      let all : modifiers_in names w ≡ Some (s.front ++ p ∷ []) =
      sym s.goes ∙ ap (λ o. o >>= (λ later. Some (s.front ++ later))) (go.2 ∙ ap (λ b. later_parts (parts_in names go.0) b >>= (λ parts. Some (p ∷ parts))) ends) in
      rw all (more s.front s.sum)

  pub next : {old new : Modifiers} (u : Sym) (behind : List Sym) → Summing names w rest old → part_in names (take (piece_len rest) rest) ≡ Some p
      → drop (piece_len rest) rest ≡ u ∷ behind → is_comma u ≡ true
      → ((parts : List Part) → IsSum old parts → IsSum new (parts ++ p ∷ [])) → Summing names w behind new
  next u behind s is parts comma more =
      let go = private_step s.turns s.room is in
      let one : parts_in names s.turns rest ≡ (parts_in names go.0 behind >>= (λ list. Some (p ∷ list))) =
      go.2 ∙ ap (λ b. later_parts (parts_in names go.0) b >>= (λ list. Some (p ∷ list))) parts
      ∙ ap (λ b. cond b (parts_in names go.0 behind) None >>= (λ list. Some (p ∷ list))) comma in
      record {
        front = s.front ++ p ∷ [];
        sum = more s.front s.sum;
        turns = go.0;
        room = let shorter = ap length parts in omega (arith, go.1, length-drop (piece_len rest) rest);
        goes = all_of s.front p (parts_in names go.0 behind) ∙ ap (λ o. o >>= (λ later. Some (s.front ++ later))) (sym one) ∙ s.goes;
      }

-- the same by what the code has at hand
front_and_rest : (b : List Sym) (d : Sym) → 1 ≤ length b → b ≡ get_or b 0 d ∷ take (length b - 1) (drop 1 b)
front_and_rest [] d some = absurd (omega arith)
front_and_rest (t ∷ rest) d some = ap (λ (l : List Sym). t ∷ l) (sym (take_all (length (t ∷ rest) - 1) rest (omega arith)))

nothing_left : (b : List Sym) → length b < 1 → b ≡ []
nothing_left [] none = refl
nothing_left (t ∷ rest) none = absurd (omega arith)

module _ (names : List (List ℕ)) (w rest text behind : List Sym) (n : ℕ) (p : Part) {old new : Modifiers} (s : Summing names w rest old)
    (front : text ≡ take n rest) (back : behind ≡ drop n rest) (count : n ≡ piece_len rest) (is : part_in names text ≡ Some p)
    (more : (parts : List Part) → IsSum old parts → IsSum new (parts ++ p ∷ [])) where
  part_is : part_in names (take (piece_len rest) rest) ≡ Some p
  part_is = ap (part_in names) (ap (λ k. take k rest) (sym count) ∙ sym front) ∙ is

  back_is : drop (piece_len rest) rest ≡ behind
  back_is = ap (λ k. drop k rest) (sym count) ∙ sym back

  pub last_of : length behind < 1 → IsSumOf new (modifiers_in names w)
  last_of none = last names w rest p s part_is (back_is ∙ nothing_left behind none) more

  pub next_of : (d : Sym) → 1 ≤ length behind → is_comma (get_or behind 0 d) ≡ true → Summing names w (take (length behind - 1) (drop 1 behind)) new
  next_of d some comma = next names w rest p (get_or behind 0 d) (take (length behind - 1) (drop 1 behind)) s part_is (back_is ∙ front_and_rest behind d some) comma more
