-- Some bytes have come.
use Rattle.std.specs.Prelude.{ℕ, List}
use Rattle.vk_format.specs.Bytes.{IsBytes}
use Rattle.vk_format.specs.Format.{Format}
use Rattle.vk_image_format.specs.declared.rows.RawImage.{RawImage}
use Rattle.vk_pieces.specs.declared.pieces.Pieces.{Pieces}
use Rattle.vk_pieces.specs.Standing.{Stands as StandFor}
use Rattle.vk_image_codec.specs.Rows.{rows_format}

-- what is wanted now, and the pieces, stand for some bytes; which, is not told, so that no bytes are kept
abbrev pub Came : Format RawImage → Pieces → Type 0
Came now p = ((bytes : List ℕ) → IsBytes bytes → StandFor rows_format now p bytes → ⊥) → ⊥
