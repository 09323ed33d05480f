-- The tables of an image as lists, without pointers.
use Rattle.std.specs.Prelude.{ℕ, Bool, List, map, Option}
use Rattle.vk_types.specs.declared.types.Ty.{Ty}
use Rattle.vk_types.specs.declared.types.Word.{Word}
use Rattle.vk_kinds.specs.declared.kinds.Isa.{Isa}
use Rattle.vk_kinds.specs.declared.kinds.Param.{Param}
use Rattle.vk_kinds.specs.declared.kinds.Target.{Target}
use Rattle.vk_code.specs.Listing.{Listing, listing_of}
use Rattle.vk_object.specs.declared.tables.ArrayRow.{ArrayRow}
use Rattle.vk_object.specs.declared.tables.Entry.{Entry}
use Rattle.vk_object.specs.declared.tables.EntryKind.{EntryKind}
use Rattle.vk_object.specs.declared.tables.ImageTables.{ImageTables}
use Rattle.vk_object.specs.declared.tables.LoopTargets.{LoopTargets}

pub record ArrayLists : Type 0 where
  pub text : List ℕ
  pub ty : Ty
  pub fixed : Bool
  pub length : ℕ
  pub elements : List Word

pub record EntryLists : Type 0 where
  pub text : List ℕ
  pub kind : EntryKind
  pub lanes : ℕ
  pub code : ℕ
  pub params : List Param
  pub targets : List ℕ
  pub loops : List LoopTargets

pub record Tables : Type 0 where
  pub target : Target
  pub isa : Isa
  pub vl : ℕ
  pub main : Option ℕ
  pub arrays : List ArrayLists
  pub codes : List Listing
  pub entries : List EntryLists

abbrev pub array_list_of : ArrayRow → ArrayLists
array_list_of a = record { text = a.text.items; ty = a.ty; fixed = a.fixed; length = a.length; elements = a.elements.items }

abbrev pub entry_list_of : Entry → EntryLists
entry_list_of e = record { text = e.text.items; kind = e.kind; lanes = e.lanes; code = e.code; params = e.params.items; targets = e.targets.items; loops = e.loops.items }

abbrev pub tables_of : ImageTables → Tables
tables_of t = record {
  target = t.target;
  isa = t.isa;
  vl = t.vl;
  main = t.main;
  arrays = map array_list_of t.arrays.items;
  codes = map listing_of t.codes.items;
  entries = map entry_list_of t.entries.items;
}
