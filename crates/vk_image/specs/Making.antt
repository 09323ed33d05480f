-- An image with the tables that it is made of.
use Rattle.std.specs.Prelude.{◌≡◌}
use Rattle.vk_object.specs.declared.image.Image.{Image}
use Rattle.vk_object.specs.declared.tables.ImageTables.{ImageTables}

pub record HasTables (tables : ImageTables) (image : Image) : Type 0 where
  pub target : image.target ≡ tables.target
  pub isa : image.isa ≡ tables.isa
  pub vl : image.vl ≡ tables.vl
  pub main : image.main ≡ tables.main
  pub arrays : image.arrays ≡ tables.arrays
  pub codes : image.codes ≡ tables.codes
  pub entries : image.entries ≡ tables.entries
