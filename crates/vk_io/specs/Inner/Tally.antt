-- What a tally holds.
use Rattle.std.specs.Prelude.{ℕ, List, Bool, unwrap_or, is_some}
use Rattle.std.specs.BTreeMap.{get_by_text}
use Rattle.vk_io.specs.declared.tally.Tally.{Tally}

-- the count of a name, 0 where it has no place
abbrev pub count_of : Tally → List ℕ → ℕ
count_of tally q = unwrap_or (get_by_text tally.counts q) 0

-- whether a name has a place
abbrev pub has_place : Tally → List ℕ → Bool
has_place tally q = is_some (get_by_text tally.counts q)
