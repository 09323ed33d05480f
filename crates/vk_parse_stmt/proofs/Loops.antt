-- Loops over items, each at the front of the tokens, against the reader `many`.
use Rattle.std.proofs.Common.{◌≡◌, ℕ, zero, suc, ◌+◌, ◌<◌, ◌≤◌, Bool, true, false, List, [], ◌∷◌, ◌++◌, length, Option, Result, Ok, Err, refl, sym, ap, ◌∙◌, arith}
use Rattle.std.proofs.lemmas.List.{append-nil, append_assoc}
use Rattle.vk_grammar_expr.specs.declared.symbols.Sym.{Sym}
use Rattle.vk_grammar_expr.specs.declared.symbols.SymKind.{SymKind}
use Rattle.vk_grammar_expr.specs.Symbols.{head}
use Rattle.vk_grammar_expr.specs.Inner.Parser.{Fault, Syntax, Deep, Parser, pure, then_do, many}
use Rattle.vk_parse_expr.specs.declared.fail.ReadFail.{ReadFail}
use Rattle.vk_parse_expr.specs.declared.fail.ReadFail.TheVariants as fails
use Rattle.vk_parse_expr.specs.Inner.Answers.{Fails}

-- what is read, behind items that were read before
abbrev pub behind : {A : Type 0} → List A → Result (List A × List Sym) Fault → Result (List A × List Sym) Fault
behind front read = then_do read (λ list. pure (front ++ list))

-- Behind the items `so_far`, `w` is left of all that `total` tells.
pub record Going {A : Type 0} (goes_on : Option SymKind → Bool) (item : Parser A) (so_far : List A) (w : List Sym) (total : Result (List A × List Sym) Fault) : Type 0 where
  pub left : ℕ
  pub enough : length w < left
  pub rest : behind so_far (many left goes_on item w) ≡ total

pub behind_none : {A : Type 0} (read : Result (List A × List Sym) Fault) → behind [] read ≡ read
behind_none (Ok x) = refl
behind_none (Err f) = refl

pub behind_both : {A : Type 0} (front : List A) (a : A) (read : Result (List A × List Sym) Fault) → behind front (then_do read (λ list. pure (a ∷ list))) ≡ behind (front ++ a ∷ []) read
behind_both front a (Ok x) = ap (λ list. Ok (list, x.1)) (sym (append_assoc front (a ∷ []) x.0))
behind_both front a (Err f) = refl

pub behind_all : {A : Type 0} (front list : List A) (read : Result (List A × List Sym) Fault) → behind front (behind list read) ≡ behind (front ++ list) read
behind_all front list (Ok x) = ap (λ list. Ok (list, x.1)) (sym (append_assoc front list x.0))
behind_all front list (Err f) = refl

module _ {A : Type 0} (goes_on : Option SymKind → Bool) (item : Parser A) where
  -- before the first item
  pub begun : (turns : ℕ) (w : List Sym) → length w < turns → Going goes_on item [] w (many turns goes_on item w)
  begun turns w l = record { left = turns; enough = l; rest = behind_none (many turns goes_on item w) }

  -- behind a first item that is read by a reader of its own
  pub behind_first : (turns : ℕ) (a : A) (r : List Sym) → length r < turns
      → Going goes_on item (a ∷ []) r (then_do (many turns goes_on item r) (λ rest. pure (a ∷ rest)))
  behind_first turns a r l = record { left = turns; enough = l; rest = refl }

  many_more : (n : ℕ) (so_far : List A) (a : A) (w r : List Sym) → goes_on (head w) ≡ true → item w ≡ Ok (a, r)
      → behind so_far (many (suc n) goes_on item w) ≡ behind (so_far ++ a ∷ []) (many n goes_on item r)
  unfolding many
  many_more n so_far a w r on is = rw (on, is) (behind_both so_far a (many n goes_on item r))

  many_fault : (n : ℕ) (so_far : List A) (f : Fault) (w : List Sym) → goes_on (head w) ≡ true → item w ≡ Err f → behind so_far (many (suc n) goes_on item w) ≡ Err f
  unfolding many
  many_fault n so_far f w on is = rw (on, is) refl

  many_none : (n : ℕ) (so_far : List A) (w : List Sym) → goes_on (head w) ≡ false → behind so_far (many (suc n) goes_on item w) ≡ Ok (so_far, w)
  unfolding many
  many_none n so_far w on = rw on (ap (λ list. Ok (list, w)) (append-nil so_far))

  -- one item more
  pub turned : (so_far : List A) (a : A) (w r : List Sym) (total : Result (List A × List Sym) Fault) → goes_on (head w) ≡ true → item w ≡ Ok (a, r) → length r + 1 ≤ length w
      → Going goes_on item so_far w total → Going goes_on item (so_far ++ a ∷ []) r total
  turned so_far a w r total on is shorter g = go g.left g.enough g.rest
    where
      go : (n : ℕ) → length w < n → behind so_far (many n goes_on item w) ≡ total → Going goes_on item (so_far ++ a ∷ []) r total
      go zero l rest = absurd (omega arith)
      go (suc n) l rest = record { left = n; enough = omega arith; rest = sym (many_more n so_far a w r on is) ∙ rest }

  fault_in : (so_far : List A) (f : Fault) (w : List Sym) (total : Result (List A × List Sym) Fault) → goes_on (head w) ≡ true → item w ≡ Err f → Going goes_on item so_far w total → total ≡ Err f
  fault_in so_far f w total on is g = go g.left g.enough g.rest
    where
      go : (n : ℕ) → length w < n → behind so_far (many n goes_on item w) ≡ total → total ≡ Err f
      go zero l rest = absurd (omega arith)
      go (suc n) l rest = sym rest ∙ many_fault n so_far f w on is

  -- a fault in an item
  pub stopped : (so_far : List A) (fail : ReadFail) (w : List Sym) (total : Result (List A × List Sym) Fault) → goes_on (head w) ≡ true → Fails fail (item w) → Going goes_on item so_far w total
      → Fails fail total
  stopped so_far (fails.Syntax n) w total on is g = fault_in so_far (Syntax n) w total on is g
  stopped so_far (fails.Deep n) w total on is g = fault_in so_far (Deep n) w total on is g
  stopped so_far fails.Memory w total on is g = tt

  -- the end of the items
  pub done : (so_far : List A) (w : List Sym) (total : Result (List A × List Sym) Fault) → goes_on (head w) ≡ false → Going goes_on item so_far w total → total ≡ Ok (so_far, w)
  done so_far w total on g = go g.left g.enough g.rest
    where
      go : (n : ℕ) → length w < n → behind so_far (many n goes_on item w) ≡ total → total ≡ Ok (so_far, w)
      go zero l rest = absurd (omega arith)
      go (suc n) l rest = sym rest ∙ many_none n so_far w on
