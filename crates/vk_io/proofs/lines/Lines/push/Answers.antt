use Rattle.std.proofs.Common.{◌≡◌, ◌∷◌, ◌++◌, [], List, ℕ, length, rules, subst, sym, ap, ap₂, ◌∙◌}
use Rattle.std.specs.Prelude.{OnOk, Ok, Err, Result}
use Rattle.vk_io.specs.Inner.Lines.{Fill, pieces}
use Rattle.vk_io.proofs.Pieces.{Fill-more, pieces-more}
use Rattle.vk_io.proofs.lines.Lines.push.Goals as goal

full : (ns new_ns bytes new_bytes more : List ℕ) (n : ℕ) → Fill ns bytes → new_bytes ≡ bytes ++ more → new_ns ≡ ns ++ (n ∷ []) → n ≡ length more → Fill new_ns new_bytes
full ns new_ns bytes new_bytes more n h b l len =
    subst (λ (xs : List ℕ). Fill xs new_bytes) (sym (l ∙ ap (λ k. ns ++ (k ∷ [])) len))
    (subst (λ (bs : List ℕ). Fill (ns ++ (length more ∷ [])) bs) (sym b) (Fill-more ns bytes more h))

viewed : (ns new_ns bytes new_bytes more : List ℕ) (n : ℕ) → Fill ns bytes → new_bytes ≡ bytes ++ more → new_ns ≡ ns ++ (n ∷ []) → n ≡ length more →
    pieces new_ns new_bytes ≡ pieces ns bytes ++ (more ∷ [])
viewed ns new_ns bytes new_bytes more n h b l len = ap₂ pieces (l ∙ ap (λ k. ns ++ (k ∷ [])) len) b ∙ pieces-more ns bytes more h

pub invariant_of-self-else-is_err : goal.invariant_of-self-else-is_err
invariant_of-self-else-is_err c =
    full c.self.inside.lengths.items c.push.new.self.items c.self.inside.bytes.items c.extend_from_slice.new.self.items c.args.line.now (length c.args.line.now) c.self.invariant (search rules) (search rules) (search rules)

pub returns-clause-ok : goal.returns-clause-ok
returns-clause-ok c =
    viewed c.self.inside.lengths.items c.push.new.self.items c.self.inside.bytes.items c.extend_from_slice.new.self.items c.args.line.now (length c.args.line.now) c.self.invariant (search rules) (search rules) (search rules)
    ∙ ap (λ (ls : List (List ℕ)). ls ++ (c.args.line.now ∷ [])) c.self.view_is
