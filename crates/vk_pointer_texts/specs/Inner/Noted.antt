-- What a table has under a name.
use Rattle.std.specs.Prelude.{ℕ, List, Option, bytes_eq}
use Rattle.std.specs.HashMap.{HashMap, get_by}
use denote.Ref.{Bor}

abbrev pub noted : {T S : Type 0} → HashMap (Bor (List ℕ)) T S → List ℕ → Option T
noted table text = get_by (λ k. bytes_eq text k.now) table
