-- When the entries of a function in an image do what the function means.
use Rattle.std.specs.Prelude.{◌≡◌, ◌≤◌, ℕ, ◌/◌, ◌%◌, Bool, false, cond, ◌&&◌, ◌||◌, List, [], ◌++◌, slice_get, find, Option, Some, None, bytes_eq, codes, Contains}
use Rattle.std.specs.Fmt.{decimal}
use Rattle.vk_kinds.specs.declared.kinds.Length.{Length}
use Rattle.vk_kinds.specs.declared.kinds.Param.{Param}
use Rattle.vk_kinds.specs.Lengths.{lengths}
use Rattle.vk_kinds.specs.Sizes.{SignatureTree}
use Rattle.vk_names.specs.Spelling.{name_text}
use Rattle.vk_rules_book.specs.Rules.{Subject}
use Rattle.vk_rules_book.specs.Signatures.{head_of}
use Rattle.vk_meaning.specs.World.{Event, printed, simd_loop}
use Rattle.vk_meaning.specs.Programs.{Definition, arrays_of, definition_of}
use Rattle.vk_meaning.specs.Data.{Value}
use Rattle.vk_meaning.specs.Meaning.{means, printed_numbers, stop_of}
use Rattle.vk_object.specs.declared.tables.EntryKind.{EntryKind}
use Rattle.vk_object.specs.declared.tables.EntryKind.TheVariants.{Ordinary, Scalar, N, M, Chunk, Rest}
use Rattle.vk_object.specs.Images.{is_chunk, is_rest}
use Rattle.vk_object.specs.Machine.{Given, runs}
use Rattle.vk_object.specs.Memory.{printed as prints_of}
use Rattle.vk_object.specs.Tables.{EntryLists, Tables}
use Rattle.vk_lane.specs.Runs.{Bodies, RunsAs, RunsOnLanes, events_of}
use Rattle.vk_agree.specs.Units.{param_types, kinds_of, signatures_in}

-- loops may make 1 to 1000000000 turns
pub record IsTurnLimit (turns : ℕ) : Type 0 where
  pub some : 1 ≤ turns
  pub bounded : turns ≤ 1000000000

-- entry number e of the image
abbrev pub IsEntry : Tables → (e : ℕ) → EntryLists → Type 0
IsEntry image e x = slice_get image.entries e ≡ Some x

-- the name of a variant (the vector function ABIs)
abbrev pub variant_text : Length → List Param → (scalar : List ℕ) → List ℕ
variant_text l params scalar = name_text (record { front = l; params = params; scalar = scalar })

-- ---- the bodies of simd loops

-- the name of the body of a function's simd loop with this number, counted from 1
abbrev pub loop_text : (function : List ℕ) → (number : ℕ) → List ℕ
loop_text f k = f ++ (codes ".simd" ++ decimal k)

abbrev pub is_chunk_named : List ℕ → EntryLists → Bool
is_chunk_named text x = is_chunk x.kind && bytes_eq x.text text

abbrev pub lanes_of : Option EntryLists → ℕ
lanes_of None = 1
lanes_of (Some x) = x.lanes

-- the number of lanes of the chunk with this name
abbrev pub chunk_lanes : Tables → (text : List ℕ) → ℕ
chunk_lanes image text = lanes_of (find (is_chunk_named text) image.entries)

-- How often n iterations call a body: where the guard holds in chunks of so many lanes, and the remainder one by one; else all one by
-- one.
abbrev pub calls_by : EntryKind → (lanes n : ℕ) → (apart : Bool) → ℕ
calls_by Ordinary lanes n apart = 0
calls_by Scalar lanes n apart = 0
calls_by N lanes n apart = 0
calls_by M lanes n apart = 0
calls_by Chunk lanes n apart = cond apart (n / lanes) 0
calls_by Rest lanes n apart = cond apart (n % lanes) n

abbrev pub calls_for : Tables → Option EntryLists → Event → ℕ
calls_for image None e = 0
calls_for image (Some x) (printed z) = 0
calls_for image (Some x) (simd_loop f k n apart) = cond (bytes_eq x.text (loop_text f k)) (calls_by x.kind (chunk_lanes image x.text) n apart) 0

abbrev pub is_body : Option EntryLists → Bool
is_body None = false
is_body (Some x) = is_chunk x.kind || is_rest x.kind

-- the bodies of the image
abbrev pub bodies_of : Tables → Bodies
bodies_of image = record { is_body = λ n. is_body (slice_get image.entries n); calls = λ n. calls_for image (slice_get image.entries n) }

-- ---- one function

-- a variant has a mask or none
abbrev pub IsVariantKind : EntryKind → Type 0
IsVariantKind Ordinary = ⊥
IsVariantKind Scalar = ⊥
IsVariantKind N = Unit {0}
IsVariantKind M = Unit {0}
IsVariantKind Chunk = ⊥
IsVariantKind Rest = ⊥

-- the entry has the name of one of the directive's variants
pub record IsVariant (text : List ℕ) (d : Definition) (s : SignatureTree) (x : EntryLists) : Type 0 where
  pub length : Length
  pub among : Contains (lengths d.unit.target (head_of d.function) s) length
  pub kind : IsVariantKind x.kind
  pub named : x.text ≡ variant_text length s.params text

-- THE AGREEMENT of a defined function: whatever the limit of turns, its entries in the image do what it means. One without directives
-- has an ordinary entry. One with directives has a scalar entry, which is lane code for one lane, and its variants.
pub record Agrees (units : List Subject) (image : Tables) (text : List ℕ) (d : Definition) : Type 0 where
  pub ordinary : (turns : ℕ) → IsTurnLimit turns → (e : ℕ) (x : EntryLists) → IsEntry image e x → x.kind ≡ Ordinary → x.text ≡ text →
      RunsAs (arrays_of units) (bodies_of image) (param_types d) (means units turns text) (runs image turns e)
  pub scalar : (turns : ℕ) → IsTurnLimit turns → (e : ℕ) (x : EntryLists) → IsEntry image e x → x.kind ≡ Scalar → x.text ≡ text →
      RunsOnLanes (arrays_of units) (bodies_of image) (param_types d) [] (means units turns text) 1 (runs image turns e)
  pub variants : (turns : ℕ) → IsTurnLimit turns → (e : ℕ) (x : EntryLists) (s : SignatureTree) → IsEntry image e x →
      Contains (signatures_in text d.unit) s → IsVariant text d s x →
      RunsOnLanes (arrays_of units) (bodies_of image) (param_types d) (kinds_of s) (means units turns text) x.lanes (runs image turns e)

-- nothing is asked of a function that is not defined
abbrev pub AgreesWhereDefined : List Subject → Tables → (text : List ℕ) → Option Definition → Type 0
AgreesWhereDefined units image text None = Unit {0}
AgreesWhereDefined units image text (Some d) = Agrees units image text d

-- the function with this name agrees
abbrev pub AgreesIn : (text : List ℕ) → Tables → List Subject → Type 0
AgreesIn text image units = AgreesWhereDefined units image text (definition_of units text)

-- ---- programs

-- a call of `main` prints the numbers of a reading, and ends as it ends
pub record RunsAsRead (v : Value) (g : Given) : Type 0 where
  pub prints : prints_of g.mem.log ≡ printed_numbers (events_of v)
  pub ends : g.stop 0 ≡ stop_of v
