-- What a feed stands for, and what it answers.
use Rattle.std.specs.Prelude.{ℕ, List}
use Rattle.vk_pieces.specs.Standing.{Stands as StandFor}
use Rattle.vk_image_codec.specs.declared.feed.ImageFeed.{ImageFeed}
use Rattle.vk_image_codec.specs.Rows.{rows_format, rows_left}

-- The feed stands for these bytes: it is what they make of a new one. `ImageFeed::new` gives one that stands for no bytes, and
-- `ImageFeed::feed` one that stands for the bytes before and then the piece.
unfoldable pub Stands : ImageFeed → List ℕ → Type 0
Stands f bytes = StandFor rows_format (rows_left f.rows.fields f.pieces.at) f.pieces bytes
