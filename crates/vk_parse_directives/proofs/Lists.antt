-- Lists that are read item by item.
use Rattle.std.proofs.Common.{◌≡◌, ℕ, ◌-◌, ◌≤◌, true, List, [], ◌∷◌, ◌++◌, length, take, drop, get_or, slice_get, unwrap_or, Option, Some, None, refl, sym, ap, ◌∙◌, append_assoc, arith}
use Rattle.std.proofs.lemmas.List.{take_all}
use Rattle.std.proofs.lemmas.Option.{slice_get_past}
use Rattle.vk_ast.specs.declared.directives.PlacedName.{PlacedName}
use Rattle.vk_grammar_expr.specs.declared.symbols.Sym.{Sym}
use Rattle.vk_parse_directives.specs.Words.{word_of}
use Rattle.vk_parse_directives.specs.Cuts.{is_comma}
use Rattle.vk_parse_directives.specs.Inner.Reading.{◌>>=◌, name_in, ids_in}

no_text : None ≡ word_of []
unfolding word_of
no_text = refl

-- a name that is not in the table is no word
pub no_name : (names : List (List ℕ)) (id : ℕ) → length names ≤ id → None ≡ word_of (unwrap_or (slice_get names id) [])
no_name names id past = no_text ∙ ap (λ o. word_of (unwrap_or o [])) (sym (slice_get_past names id past))

-- what comes behind a front that was read
pub all_of : {A : Type 0} (front : List A) (a : A) (o : Option (List A))
    → (o >>= (λ later. Some ((front ++ a ∷ []) ++ later))) ≡ ((o >>= (λ list. Some (a ∷ list))) >>= (λ later. Some (front ++ later)))
all_of front a None = refl
all_of front a (Some later) = ap (λ l. Some l) (append_assoc front (a ∷ []) later)

pub ids_next : (w : List Sym) (front : List PlacedName) (d e : Sym) (id : PlacedName) → 2 ≤ length w → is_comma (get_or w 1 d) ≡ true → name_in (get_or w 0 e) ≡ Some id
    → (ids_in (take (length w - 2) (drop 2 w)) >>= (λ later. Some ((front ++ id ∷ []) ++ later))) ≡ (ids_in w >>= (λ later. Some (front ++ later)))
ids_next [] front d e id two comma name = absurd (omega arith)
ids_next (t ∷ []) front d e id two comma name = absurd (omega arith)
ids_next (t ∷ u ∷ rest) front d e id two comma name =
    let whole : take (length (t ∷ u ∷ rest) - 2) rest ≡ rest = take_all (length (t ∷ u ∷ rest) - 2) rest (omega arith) in
    rw (whole, comma, name) (all_of front id (ids_in rest))
