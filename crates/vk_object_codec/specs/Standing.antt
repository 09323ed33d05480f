-- What a feed stands for, and what it answers.
use Rattle.std.specs.Prelude.{ℕ, List}
use Rattle.vk_pieces.specs.Standing.{Stands as StandFor}
use Rattle.vk_object_codec.specs.declared.feed.ObjectFeed.{ObjectFeed}
use Rattle.vk_object_codec.specs.Rows.{rows_format, rows_left}

-- The feed stands for these bytes: it is what they make of a new one. `ObjectFeed::new` gives one that stands for no bytes, and
-- `ObjectFeed::feed` one that stands for the bytes before and then the piece.
unfoldable pub Stands : ObjectFeed → List ℕ → Type 0
Stands f bytes = StandFor rows_format (rows_left f.rows.fields f.pieces.at) f.pieces bytes
