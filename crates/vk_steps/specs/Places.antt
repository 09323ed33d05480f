-- Where code runs.
use Rattle.std.specs.Prelude.{◌≡◌, ℕ, ◌^◌, ◌<◌, ◌≤◌, max, true, List, length, map, Some, slice_get}
use Rattle.vk_kinds.specs.declared.heads.CType.{CType}
use Rattle.vk_code.specs.declared.instruction.Operation.{Operation}
use Rattle.vk_code.specs.declared.instruction.Instr.{Instr}
use Rattle.vk_code.specs.Instruction.{operation_of}
use Rattle.vk_code.specs.Listing.{Listing, listing_of}
use Rattle.vk_code.specs.Valid.{is_typed}
use Rattle.vk_object.specs.declared.image.Image.{Image}
use Rattle.vk_object.specs.declared.tables.LoopTargets.{LoopTargets}
use Rattle.vk_object.specs.Images.{calls_within, chain_cells, code_of, greatest, is_image, is_within, names_of}
use Rattle.vk_object.specs.Machine.{Site, entry_at, site_at}
use Rattle.vk_object.specs.Tables.{EntryLists, Tables, array_list_of, entry_list_of}
use Rattle.vk_frames.specs.declared.frame.Frame.{Frame}
use Rattle.vk_frames.specs.Frames.{Fits, lanes_of}
use Rattle.vk_runs.specs.Words.{HasWords}
use Rattle.vk_steps.specs.declared.place.Place.{Place}

-- the tables of an image
abbrev pub image_tables : Image → Tables
image_tables image = record {
  target = image.target;
  isa = image.isa;
  vl = image.vl;
  main = image.main;
  arrays = map array_list_of image.arrays.items;
  codes = map listing_of image.codes.items;
  entries = map entry_list_of image.entries.items;
}

abbrev pub tables : Place → Tables
tables p = image_tables p.image.now

abbrev pub entry : Place → EntryLists
entry p = entry_list_of p.entry.now

abbrev pub listing : Place → Listing
listing p = listing_of p.code.now

-- the types of the registers
abbrev pub regs : Place → List CType
regs p = (listing p).routine.regs

-- the calls of the code go at most as deep as the place allows
abbrev pub site : Place → Site
site p = site_at (tables p) p.turns (entry_at (tables p) p.turns p.depth) (entry p) (listing p)

-- the cells that the calls of an entry need, where they go so deep
abbrev pub called_cells : Tables → ℕ → EntryLists → ℕ
called_cells image depth e =
    max (greatest (map (chain_cells image depth) e.targets)) (greatest (map (λ (t : LoopTargets). max (chain_cells image depth t.chunk) (chain_cells image depth t.rest)) e.loops))

-- the entry is one of the image, the code is the entry's, and its calls go at most so deep
pub record IsSound (p : Place) : Type 0 where
  pub valid : is_image (tables p) ≡ true
  pub placed : slice_get (tables p).entries p.number ≡ Some (entry p)
  pub coded : code_of (tables p) (entry p) ≡ Some (listing p)
  pub within : calls_within (is_within (tables p) p.depth) (entry p) ≡ true
  pub few : (entry p).lanes ≤ 256
  pub short : length (listing p).routine.instrs < 2 ^ 32

-- a frame for the code in the entry's lanes, whose registers have words of their types
pub record FitsPlace (p : Place) (frame : Frame) : Type 0 where
  pub shape : Fits (length (regs p)) (listing p).routine.masks (entry p).lanes frame
  pub words : (j : ℕ) → HasWords (regs p) (lanes_of frame j)

-- the operation has its types
abbrev pub IsTyped : Place → Operation → Type 0
IsTyped p o = is_typed (names_of (tables p)) (listing p).routine o ≡ true

-- the instruction stands for the operation, which has its types, under a mask that is there
pub record IsGood (p : Place) (i : Instr) (o : Operation) : Type 0 where
  pub is : operation_of i ≡ Some o
  pub mask : i.m < (listing p).routine.masks
  pub typed : IsTyped p o
