-- The conditions of an image, one part after another.
use Rattle.std.proofs.Common.{◌≡◌, Bool, true, false, nat_le, ◌&&◌, refl, ap, sym, ◌∙◌}
use Rattle.std.specs.List.{list_all}
use Rattle.vk_object.specs.Images.{cells_of, entry_numbers, is_code, is_entry, is_image, is_main, is_within}
use Rattle.vk_object.specs.Tables.{Tables}
use Rattle.vk_image.specs.Inner.Parts.{are_all_linked, has_shape}

abbrev codes_good : Tables → Bool
codes_good image = list_all (is_code image) image.codes

abbrev chains_short : Tables → Bool
chains_short image = list_all (is_within image 64) (entry_numbers image)

abbrev cells_few : Tables → Bool
cells_few image = nat_le (cells_of image) 33554432

joined : (a b c d e f : Bool) → (a && b && c && d && e && f) ≡ (a && b && (c && d) && e && f)
joined true true true d e f = refl
joined true true false d e f = refl
joined true false c d e f = refl
joined false b c d e f = refl

by_parts : (image : Tables) → is_image image ≡ (has_shape image && codes_good image && are_all_linked image && chains_short image && cells_few image)
by_parts image = joined (has_shape image) (codes_good image) (list_all (is_entry image) image.entries) (is_main image image.main) (chains_short image) (cells_few image)

pub without_shape : (image : Tables) → has_shape image ≡ false → false ≡ is_image image
without_shape image h = sym (by_parts image ∙ ap (λ a. a && codes_good image && are_all_linked image && chains_short image && cells_few image) h)

second : (a b c d e : Bool) → b ≡ false → (a && b && c && d && e) ≡ false
second true true c d e h = ap (λ x. x && c && d && e) h
second true false c d e h = refl
second false b c d e h = refl

third : (a b c d e : Bool) → c ≡ false → (a && b && c && d && e) ≡ false
third true true c d e h = ap (λ x. x && d && e) h
third true false c d e h = refl
third false b c d e h = refl

fourth : (a b c d e : Bool) → d ≡ false → (a && b && c && d && e) ≡ false
fourth true true true d e h = ap (λ x. x && e) h
fourth true true false d e h = refl
fourth true false c d e h = refl
fourth false b c d e h = refl

all_but_last : (a b c d e : Bool) → a ≡ true → b ≡ true → c ≡ true → d ≡ true → e ≡ (a && b && c && d && e)
all_but_last a b c d e h k l m = sym (ap (λ x. x && b && c && d && e) h ∙ (ap (λ x. x && c && d && e) k ∙ (ap (λ x. x && d && e) l ∙ ap (λ x. x && e) m)))

pub without_codes : (image : Tables) → list_all (is_code image) image.codes ≡ false → false ≡ is_image image
without_codes image h = sym (by_parts image ∙ second (has_shape image) (codes_good image) (are_all_linked image) (chains_short image) (cells_few image) h)

pub without_links : (image : Tables) → are_all_linked image ≡ false → false ≡ is_image image
without_links image h = sym (by_parts image ∙ third (has_shape image) (codes_good image) (are_all_linked image) (chains_short image) (cells_few image) h)

pub without_chains : (image : Tables) → list_all (is_within image 64) (entry_numbers image) ≡ false → false ≡ is_image image
without_chains image h = sym (by_parts image ∙ fourth (has_shape image) (codes_good image) (are_all_linked image) (chains_short image) (cells_few image) h)

-- where all else is so, an image is what has few cells
pub with_cells : (image : Tables) → has_shape image ≡ true → list_all (is_code image) image.codes ≡ true → are_all_linked image ≡ true → list_all (is_within image 64) (entry_numbers image) ≡ true →
    nat_le (cells_of image) 33554432 ≡ is_image image
with_cells image h k l m = all_but_last (has_shape image) (codes_good image) (are_all_linked image) (chains_short image) (cells_few image) h k l m ∙ sym (by_parts image)
