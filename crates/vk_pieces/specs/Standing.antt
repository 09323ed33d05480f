-- What pieces stand for, and what is answered of them.
use Rattle.std.specs.Prelude.{◌≡◌, ℕ, ◌+◌, List, ◌++◌, length, Option, Some, None, Result, Ok, Err}
use Rattle.vk_format.specs.declared.rules.ObjectFail.{ObjectFail}
use Rattle.vk_format.specs.declared.rules.ObjectFail.TheVariants as fails
use Rattle.vk_format.specs.Format.{Format, Left, left, judge, advance, told}
use Rattle.vk_pieces.specs.declared.pieces.Pieces.{Pieces}

-- what is wanted now, and the bytes of the field that is not whole
abbrev pub left_now : {R : Type 0} → Format R → Pieces → Left R
left_now now p = left now p.at p.pending.items

-- what is wanted now goes on with these bytes
abbrev pub onward : {R : Type 0} → Format R → Pieces → List ℕ → Left R
onward now p bytes = advance now p.at (p.pending.items ++ bytes)

abbrev pub stands_by : {R : Type 0} → Option ObjectFail → Format R → Format R → Pieces → List ℕ → Type 0
stands_by None f now p bytes = advance f 0 bytes ≡ left_now now p
stands_by (Some (fails.Fault e)) f now p bytes = (more : List ℕ) → told (advance f 0 (bytes ++ more)) ≡ Some e
stands_by (Some fails.Memory) f now p bytes = Unit {0}

-- The pieces stand for these bytes of the format, and what is wanted now is what they leave of it; or the fault that was answered
-- is that of these bytes, whatever comes behind them.
unfoldable pub Stands : {R : Type 0} → Format R → Format R → Pieces → List ℕ → Type 0
Stands f now p bytes = stands_by p.failed f now p bytes

-- how many bytes came, if none was refused
abbrev pub fed : Pieces → ℕ
fed p = p.at + length p.pending.items

-- the answer is the fault that is told of these bytes before their end, if there is one, or want of memory
abbrev pub IsTold : {R T : Type 0} → Result T ObjectFail → Left R → Type 0
IsTold (Ok u) l = told l ≡ None
IsTold (Err (fails.Fault e)) l = told l ≡ Some e
IsTold (Err fails.Memory) l = Unit {0}

-- what does not go on tells why
abbrev pub TellsFail : {R : Type 0} → ObjectFail → Left R → Type 0
TellsFail (fails.Fault e) l = told l ≡ Some e
TellsFail fails.Memory l = Unit {0}

-- these bytes are the rows, or the answer is their first fault, or want of memory
abbrev pub IsEnded : {R T : Type 0} → Result T ObjectFail → Format R → R → List ℕ → Type 0
IsEnded (Ok u) f rows bytes = judge f 0 bytes ≡ Ok rows
IsEnded (Err (fails.Fault e)) f rows bytes = judge f 0 bytes ≡ Err e
IsEnded (Err fails.Memory) f rows bytes = Unit {0}
