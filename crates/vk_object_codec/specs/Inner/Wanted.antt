-- Where the next field has bytes it is wanted; where no field is left, it is what all fields say.
use Rattle.std.proofs.Common.{◌≡◌, ℕ, zero, suc, ◌<◌, true, Option, Some, None, is_none, refl, ap, ◌∙◌, arith}
use Rattle.std.proofs.lemmas.Bool.{false≢true}
use Rattle.vk_format.specs.declared.rules.ObjectFault.{ObjectFault}
use Rattle.vk_format.specs.Codec.{last}
use Rattle.vk_format.specs.Format.{Whole}
use Rattle.vk_code.proofs.Faults.{and_left, and_right}
use Rattle.vk_code_read.specs.Inner.Left.{Behind}
use Rattle.vk_object_format.specs.declared.rows.RawObject.{RawObject}
use Rattle.vk_object_read.specs.declared.object.ObjectFields.{ObjectFields}
use Rattle.vk_object_read.specs.declared.object.ObjectStage.{ObjectStage}
use Rattle.vk_object_read.specs.declared.object.ObjectStage.TheVariants as objects
use Rattle.vk_object_read.specs.Inner.LeftObject.{after_data, after_function, object_left_at, object_width_at}
use Rattle.vk_pieces.specs.Fields.{IsField}
use Rattle.vk_object_codec.specs.Rows.{faults_of, is_done, is_judged, judged, rows_left, rows_width}
use Rattle.vk_object_codec.specs.Inner.WantedData.{data_field}
use Rattle.vk_object_codec.specs.Inner.WantedFunction.{function_field}

field_at : {R : Type 0} (st : ObjectStage) (s : ObjectFields) (at : ℕ) (next : Behind RawObject R) → 0 < object_width_at st s → IsField (object_left_at st s at next) (object_width_at st s)
field_at objects.Magic s at next h = refl
field_at objects.Version s at next h = refl
field_at objects.TargetOf s at next h = refl
field_at objects.Zero s at next h = refl
field_at objects.SymbolCount s at next h = refl
field_at (objects.SymbolLength left) s at next h = refl
field_at (objects.SymbolText left zero) s at next h = absurd (omega (arith, h))
field_at (objects.SymbolText left (suc n)) s at next h = refl
field_at objects.DataCount s at next h = refl
field_at (objects.Data left) s at next h = data_field s.data.stage s.data at (after_data s.object left next) h
field_at objects.FunctionCount s at next h = refl
field_at (objects.Function left) s at next h = function_field s.function.stage s.function at (after_function s.object s.functions left next) h
field_at objects.Done s at next h = absurd (omega (arith, h))

pub field_wanted : (s : ObjectFields) (at : ℕ) → 0 < rows_width s → IsField (rows_left s at) (rows_width s)
unfolding rows_left rows_width
field_wanted s at h = field_at s.stage s at judged h

pub done_is : (st : ObjectStage) → is_done st ≡ true → st ≡ objects.Done
done_is objects.Magic h = absurd (false≢true h)
done_is objects.Version h = absurd (false≢true h)
done_is objects.TargetOf h = absurd (false≢true h)
done_is objects.Zero h = absurd (false≢true h)
done_is objects.SymbolCount h = absurd (false≢true h)
done_is (objects.SymbolLength left) h = absurd (false≢true h)
done_is (objects.SymbolText left len) h = absurd (false≢true h)
done_is objects.DataCount h = absurd (false≢true h)
done_is (objects.Data left) h = absurd (false≢true h)
done_is objects.FunctionCount h = absurd (false≢true h)
done_is (objects.Function left) h = absurd (false≢true h)
done_is objects.Done h = refl

-- where all fields have come the tables are judged
pub done_left : (s : ObjectFields) (at : ℕ) → is_done s.stage ≡ true → rows_left s at ≡ last (faults_of s.object) s.object
unfolding rows_left judged faults_of
done_left s at h = ap (λ st. object_left_at st s at judged) (done_is s.stage h)

done_width : (s : ObjectFields) → is_done s.stage ≡ true → rows_width s ≡ 0
unfolding rows_width
done_width s h = ap (λ st. object_width_at st s) (done_is s.stage h)

none_is : (o : Option ObjectFault) → is_none o ≡ true → o ≡ None
none_is None h = refl
none_is (Some e) h = absurd (false≢true h)

pub none_wanted : (s : ObjectFields) → is_judged s ≡ true → rows_width s ≡ 0
none_wanted s h = done_width s (and_left (is_done s.stage) (is_none (faults_of s.object)) h)

pub rows_whole : (s : ObjectFields) (at : ℕ) → is_judged s ≡ true → rows_left s at ≡ Whole s.object
rows_whole s at h =
    done_left s at (and_left (is_done s.stage) (is_none (faults_of s.object)) h)
    ∙ ap (λ o. last o s.object) (none_is (faults_of s.object) (and_right (is_done s.stage) (is_none (faults_of s.object)) h))
