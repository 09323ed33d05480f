-- What is written of an object is read as it.
use Rattle.std.proofs.Common.{◌≡◌, true, Result, Ok, Err, sym, ap, ◌∙◌}
use Rattle.vk_format.specs.declared.rules.ObjectFail.TheVariants as fails
use Rattle.vk_format.specs.declared.rules.ObjectFault.{ObjectFault}
use Rattle.vk_format.specs.Format.{judge}
use Rattle.vk_object.specs.declared.object.Object.{Object}
use Rattle.vk_object_format.specs.declared.rows.RawObject.{RawObject}
use Rattle.vk_object_format.specs.Object.{object_bytes}
use Rattle.vk_object_format.specs.Values.{object_of, raw_object}
use Rattle.vk_object_laws.specs.Ranges.{is_in_range}
use Rattle.vk_object_laws.proofs.FitTables.{object_read, object_same}
use Rattle.vk_object_write.specs.Lists.{object_lists}
use Rattle.vk_object_codec.specs.Objects.{StandsFor}
use Rattle.vk_object_codec.specs.Reading.{IsRead}
use Rattle.vk_object_codec.specs.Rows.{rows_format}

written : (object : Object) → is_in_range (object_lists object) ≡ true → judge rows_format 0 (object_bytes (object_lists object)) ≡ Ok (raw_object (object_lists object))
unfolding rows_format
written object range = object_read (object_lists object) object.valid range

not_both : (r : Result RawObject ObjectFault) (o : RawObject) (e : ObjectFault) → r ≡ Ok o → r ≡ Err e → ⊥
not_both r o e h k = absurd cc

pub no_fault : (object : Object) (e : ObjectFault) → is_in_range (object_lists object) ≡ true → IsRead (Err (fails.Fault e)) (object_bytes (object_lists object)) → ⊥
no_fault object e range h = not_both (judge rows_format 0 (object_bytes (object_lists object))) (raw_object (object_lists object)) e (written object range) h

one_value : (r : Result RawObject ObjectFault) (o p : RawObject) → r ≡ Ok o → r ≡ Ok p → o ≡ p
one_value r o p h k = cc

stands_same : (tables : RawObject) (object again : Object) → is_in_range (object_lists object) ≡ true → tables ≡ raw_object (object_lists object) → StandsFor tables again → object_lists again ≡ object_lists object
unfolding StandsFor
stands_same tables object again range e h = sym h ∙ ap object_of e ∙ object_same (object_lists object) object.valid range

pub same_lists : (object again : Object) → is_in_range (object_lists object) ≡ true → IsRead (Ok again) (object_bytes (object_lists object)) → object_lists again ≡ object_lists object
same_lists object again range h =
    stands_same h.0 object again range (one_value (judge rows_format 0 (object_bytes (object_lists object))) h.0 (raw_object (object_lists object)) h.1 (written object range)) h.2
