-- What is still wanted of an entry, by what has come.
use Rattle.std.specs.Prelude.{ℕ, ◌+◌, List, [], ◌∷◌, ◌++◌, length, map, None, slice_get}
use Rattle.vk_object.specs.declared.tables.LoopTargets.{LoopTargets}
use Rattle.vk_object.specs.Images.{has_lanes}
use Rattle.vk_object.specs.Parameters.{are_kinds}
use Rattle.vk_format.specs.declared.rules.ObjectRule.TheVariants.{O6, O7}
use Rattle.vk_format.specs.Format.{Format}
use Rattle.vk_format.specs.Codec.{number, judged, passing, repeated, some_bytes, wanted, read_after}
use Rattle.vk_code_format.specs.declared.rows.CodeRow.{CodeRow}
use Rattle.vk_code_format.specs.declared.rows.ParamKind.{ParamKind}
use Rattle.vk_code_format.specs.declared.rows.ParamRow.{ParamRow}
use Rattle.vk_code_format.specs.Fields.{below, coded, optional}
use Rattle.vk_code_format.specs.Parameters.{align_fits, kind_fits, kind_number as param_kind_number, param, param_kinds, param_of, value_fits}
use Rattle.vk_code_read.specs.Inner.Left.{Behind}
use Rattle.vk_image_fields.specs.Names.{last_name}
use Rattle.vk_image_format.specs.declared.rows.EntryName.{EntryName}
use Rattle.vk_image_format.specs.declared.rows.RawEntry.{RawEntry}
use Rattle.vk_image_format.specs.Image.{entry_kinds, is_entry_text, keeps_order, kind_number, loop_targets, loops_of, name_before, params_of, slots_of, where_some}
use Rattle.vk_image_read.specs.declared.entry.EntryFeed.{EntryFeed}
use Rattle.vk_image_read.specs.declared.entry.EntryStage.{EntryStage}
use Rattle.vk_image_read.specs.declared.entry.EntryStage.TheVariants.{TextLength, Text, Kind, Lanes, CodeOf, ParamKind as KindOf, Value, Align, Target, Chunk, Rest, Done}

-- where entries stand: behind these codes and entries, of so many
pub record Among : Type 0 where
  pub codes : List CodeRow
  pub entries : ℕ
  pub before : List RawEntry

abbrev pub among : List CodeRow → ℕ → List RawEntry → Among
among codes entries before = record { codes = codes; entries = entries; before = before }

-- ---- an entry so far, and one field more

abbrev pub with_name : RawEntry → EntryName → RawEntry
with_name e n = record e { front = record e.front { name = n } }

abbrev pub with_code : RawEntry → ℕ → RawEntry
with_code e c = record e { front = record e.front { code = c } }

-- ---- loops

abbrev pub after_loops : {R : Type 0} → RawEntry → Behind RawEntry R → Behind (List LoopTargets) R
after_loops e next ls at = next (record e { loops = ls }) at

abbrev pub from_loops : {R : Type 0} → Among → RawEntry → ℕ → Behind RawEntry R → Format R
from_loops a e at next = (repeated (loops_of (slice_get a.codes e.front.code)) (loop_targets a.entries)).read at (after_loops e next)

-- the targets of a loop, with so many after it
abbrev pub after_loop : {R : Type 0} → Among → RawEntry → ℕ → Behind RawEntry R → Behind LoopTargets R
after_loop a e left next t at = read_after (λ b. loop_targets a.entries) left (e.loops ++ t ∷ []) at (after_loops e next)

abbrev pub from_rest : {R : Type 0} → ℕ → ℕ → ℕ → Behind LoopTargets R → Format R
from_rest entries chunk at next = (below entries).read at (λ rest end. next (record { chunk = chunk; rest = rest }) end)

-- ---- targets of slots

abbrev pub after_targets : {R : Type 0} → Among → RawEntry → Behind RawEntry R → Behind (List ℕ) R
after_targets a e next ts at = from_loops a (record e { targets = ts }) at next

abbrev pub from_targets : {R : Type 0} → Among → RawEntry → ℕ → Behind RawEntry R → Format R
from_targets a e at next = (repeated (slots_of (slice_get a.codes e.front.code)) (below a.entries)).read at (after_targets a e next)

-- ---- parameters of an entry that begins at `start`

abbrev pub after_params : {R : Type 0} → Among → ℕ → RawEntry → Behind RawEntry R → Behind (List ParamRow) R
after_params a start e next ps at =
    wanted start O7 (passing (λ f. are_kinds (map param_of f.params)) (record e.front { params = ps }))
    (λ f. from_targets a (record e { front = f }) at next)

abbrev pub from_params : {R : Type 0} → Among → ℕ → RawEntry → ℕ → Behind RawEntry R → Format R
from_params a start e at next =
    (repeated (params_of e.front.name.kind (slice_get a.codes e.front.code)) (param None)).read at (after_params a start e next)

-- a parameter, with so many after it
abbrev pub after_param : {R : Type 0} → List ParamRow → ℕ → Behind (List ParamRow) R → Behind ParamRow R
after_param before left next p at = read_after (λ b. param None) left (before ++ p ∷ []) at next

abbrev pub from_align : {R : Type 0} → ParamKind → ℕ → ℕ → Behind ParamRow R → Format R
from_align kind value at next = (judged O7 (align_fits None) (optional 4 0)).read at (λ align end. next (record { kind = kind; value = value; align = align }) end)

abbrev pub from_value : {R : Type 0} → ParamKind → ℕ → Behind ParamRow R → Format R
from_value kind at next = (judged O7 (value_fits None kind) (number 4)).read at (λ value end. from_align kind value end next)

abbrev pub from_param : {R : Type 0} → ℕ → Behind ParamRow R → Format R
from_param at next = (judged O7 (kind_fits None) (coded O7 param_kinds param_kind_number)).read at (λ kind end. from_value kind end next)

-- ---- name and code

abbrev pub from_code : {R : Type 0} → Among → ℕ → RawEntry → ℕ → Behind RawEntry R → Format R
from_code a start e at next = (below (length a.codes)).read at (λ c end. from_params a start (with_code e c) end next)

abbrev pub after_name : {R : Type 0} → Among → ℕ → RawEntry → Behind RawEntry R → Behind EntryName R
after_name a start e next n at = wanted start O6 (passing (where_some name_before (last_name a.before)) n) (λ m. from_code a start (with_name e m) at next)

abbrev pub from_lanes : {R : Type 0} → Among → ℕ → RawEntry → ℕ → Behind RawEntry R → Format R
from_lanes a start e at next =
    (judged O7 (has_lanes e.front.name.kind) (number 2)).read at (λ l end. after_name a start e next (record e.front.name { lanes = l }) end)

abbrev pub from_kind : {R : Type 0} → Among → ℕ → RawEntry → ℕ → Behind RawEntry R → Format R
from_kind a start e at next =
    (coded O7 entry_kinds kind_number).read at (λ k end. from_lanes a start (with_name e (record e.front.name { kind = k })) end next)

abbrev pub after_text : {R : Type 0} → Among → ℕ → RawEntry → Behind RawEntry R → Behind (List ℕ) R
after_text a start e next bytes end =
    wanted start O7 (passing is_entry_text bytes)
    (λ t. wanted start O6 (passing (where_some keeps_order (last_name a.before)) t)
    (λ s. from_kind a start (with_name e (record e.front.name { text = s })) end next))

abbrev pub from_text : {R : Type 0} → Among → ℕ → ℕ → RawEntry → ℕ → Behind RawEntry R → Format R
from_text a start len e at next = some_bytes len (λ bytes. after_text a start e next bytes (at + len))

abbrev pub from_text_length : {R : Type 0} → Among → RawEntry → ℕ → Behind RawEntry R → Format R
from_text_length a e at next = (number 2).read at (λ len end. from_text a at len e end next)

-- ---- by the stage

-- what is wanted behind a parameter
abbrev pub param_next : {R : Type 0} → Among → EntryFeed → ℕ → Behind RawEntry R → Behind ParamRow R
param_next a s left next = after_param s.entry.front.params left (after_params a s.start s.entry next)

abbrev pub entry_left_at : {R : Type 0} → EntryStage → Among → EntryFeed → ℕ → Behind RawEntry R → Format R
entry_left_at TextLength a s at next = from_text_length a s.entry at next
entry_left_at (Text len) a s at next = from_text a s.start len s.entry at next
entry_left_at Kind a s at next = from_kind a s.start s.entry at next
entry_left_at Lanes a s at next = from_lanes a s.start s.entry at next
entry_left_at CodeOf a s at next = from_code a s.start s.entry at next
entry_left_at (KindOf left) a s at next = from_param at (param_next a s left next)
entry_left_at (Value left kind) a s at next = from_value kind at (param_next a s left next)
entry_left_at (Align left kind value) a s at next = from_align kind value at (param_next a s left next)
entry_left_at (Target left) a s at next =
    (below a.entries).read at (λ t end. read_after (λ b. below a.entries) left (s.entry.targets ++ t ∷ []) end (after_targets a s.entry next))
entry_left_at (Chunk left) a s at next = (loop_targets a.entries).read at (after_loop a s.entry left next)
entry_left_at (Rest left chunk) a s at next = from_rest a.entries chunk at (after_loop a s.entry left next)
entry_left_at Done a s at next = next s.entry at

abbrev pub entry_left : {R : Type 0} → Among → EntryFeed → ℕ → Behind RawEntry R → Format R
entry_left a s at next = entry_left_at s.stage a s at next

-- the bytes of the field that comes next
abbrev pub entry_width_at : EntryStage → ℕ
entry_width_at TextLength = 2
entry_width_at (Text len) = len
entry_width_at Kind = 1
entry_width_at Lanes = 2
entry_width_at CodeOf = 4
entry_width_at (KindOf left) = 1
entry_width_at (Value left kind) = 4
entry_width_at (Align left kind value) = 4
entry_width_at (Target left) = 4
entry_width_at (Chunk left) = 4
entry_width_at (Rest left chunk) = 4
entry_width_at Done = 0

abbrev pub entry_width : EntryFeed → ℕ
entry_width s = entry_width_at s.stage
