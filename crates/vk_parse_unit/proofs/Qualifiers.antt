-- Qualifiers of pointers, as the code counts them.
use Rattle.std.proofs.Common.{◌≡◌, ℕ, zero, suc, ◌+◌, ◌<◌, Bool, true, false, cond, List, [], ◌∷◌, length, take, drop, Some, Result, Ok, refl, ap, ◌∙◌, arith}
use Rattle.vk_grammar_expr.specs.declared.symbols.Sym.{Sym}
use Rattle.vk_grammar_expr.specs.Inner.Parser.{many, Fault, then_do, pick, pure, ◌>>=◌}
use Rattle.vk_grammar_expr.specs.Inner.Parser.{take as take_one}
use Rattle.vk_grammar_unit.specs.Items.{is_qualifier}
use Rattle.vk_parse_unit.specs.Inner.Answers.{qualifier_count}

-- the turns of the reader are enough
pub qualifiers_read : (turns : ℕ) (w : List Sym) → length w < turns
    → Path (Result (List Sym × List Sym) Fault) (many turns is_qualifier take_one w) (Ok (take (qualifier_count w) w, drop (qualifier_count w) w))
unfolding many is_qualifier
qualifiers_read zero w l = absurd (omega arith)
qualifiers_read (suc n) [] l = refl
qualifiers_read (suc n) (t ∷ w) l = by_test (is_qualifier (Some t.kind)) (qualifiers_read n w (omega arith))
  where
    by_test : (b : Bool) → Path (Result (List Sym × List Sym) Fault) (many n is_qualifier take_one w) (Ok (take (qualifier_count w) w, drop (qualifier_count w) w))
        → Path (Result (List Sym × List Sym) Fault) (pick b (take_one >>= (λ a. many n is_qualifier take_one >>= (λ list. pure (a ∷ list)))) (pure []) (t ∷ w))
        (Ok (take (cond b (1 + qualifier_count w) 0) (t ∷ w), drop (cond b (1 + qualifier_count w) 0) (t ∷ w)))
    by_test true e = let one : suc (qualifier_count w) ≡ 1 + qualifier_count w = omega arith in ap (λ read. then_do read (λ list. pure (t ∷ list))) e ∙ ap (λ (n : ℕ). Ok (take n (t ∷ w), drop n (t ∷ w))) one
    by_test false e = refl
