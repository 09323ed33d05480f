-- Where a field of an object of file scope is wanted, it is one of so many bytes.
use Rattle.std.proofs.Common.{ℕ, ◌<◌, refl, arith}
use Rattle.vk_object_format.specs.declared.rows.RawData.{RawData}
use Rattle.vk_code_read.specs.Inner.Left.{Behind}
use Rattle.vk_object_read.specs.declared.data.DataFeed.{DataFeed}
use Rattle.vk_object_read.specs.declared.data.DataStage.{DataStage}
use Rattle.vk_object_read.specs.declared.data.DataStage.TheVariants as datas
use Rattle.vk_object_read.specs.Inner.LeftData.{data_left_at, data_width_at}
use Rattle.vk_pieces.specs.Fields.{IsField}

pub data_field : {R : Type 0} (st : DataStage) (s : DataFeed) (at : ℕ) (next : Behind RawData R) → 0 < data_width_at st s.data
    → IsField (data_left_at st s at next) (data_width_at st s.data)
data_field datas.Symbol s at next h = refl
data_field datas.TypeOf s at next h = refl
data_field datas.Flags s at next h = refl
data_field datas.Length s at next h = refl
data_field datas.Given s at next h = refl
data_field (datas.Element left) s at next h = refl
data_field datas.Done s at next h = absurd (omega (arith, h))
