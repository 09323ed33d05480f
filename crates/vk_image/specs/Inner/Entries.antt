-- Parts of the conditions on an entry.
use Rattle.std.specs.Prelude.{ℕ, ◌==◌, Bool, ◌&&◌, cond, List, length, slice_get}
use Rattle.std.specs.List.{list_all}
use Rattle.vk_kinds.specs.declared.kinds.Param.{Param}
use Rattle.vk_code.specs.Listing.{Listing, SimdSite, numbered_code}
use Rattle.vk_code.specs.Tests.{holds}
use Rattle.vk_object.specs.declared.tables.EntryKind.{EntryKind}
use Rattle.vk_object.specs.Images.{code_of, has_loop_types, is_entry_byte, is_equal, is_ordinary, is_variant, result_of}
use Rattle.vk_object.specs.Parameters.{are_kinds}
use Rattle.vk_object.specs.Tables.{EntryLists, Tables}
use Rattle.vk_object.specs.Texts.{between}

abbrev pub has_entry_text : List ℕ → Bool
has_entry_text text = between 1 4096 (length text) && list_all is_entry_byte text

abbrev pub has_params : EntryKind → List Param → Bool
has_params kind params = cond (is_variant kind) (are_kinds params) (length params == 0)

-- an entry has the code of the loop's body, with the loop's types
abbrev pub has_body_code : Tables → Listing → SimdSite → EntryLists → Bool
has_body_code image c l t = holds (is_equal t.code) (numbered_code l.body) && holds (has_loop_types c l) (code_of image t)

-- its code has no parameters, and an int as its result
abbrev pub has_main_code : Tables → EntryLists → Bool
has_main_code image e = holds (λ (c : Listing). (c.routine.params == 0) && (result_of c == 2)) (code_of image e)

abbrev pub is_main_entry : Tables → ℕ → Bool
is_main_entry image n = holds (λ (e : EntryLists). is_ordinary e.kind && has_main_code image e) (slice_get image.entries n)
