-- Where a field of a function is wanted, it is one of so many bytes.
use Rattle.std.proofs.Common.{ℕ, ◌<◌, refl, arith}
use Rattle.vk_object_format.specs.declared.rows.RawFunction.{RawFunction}
use Rattle.vk_code_read.specs.Inner.Left.{Behind}
use Rattle.vk_object_read.specs.declared.function.FunctionFeed.{FunctionFeed}
use Rattle.vk_object_read.specs.declared.function.FunctionStage.{FunctionStage}
use Rattle.vk_object_read.specs.declared.function.FunctionStage.TheVariants as functions
use Rattle.vk_object_read.specs.Inner.LeftFunction.{after_lane, after_scalar, function_left_at, function_width_at}
use Rattle.vk_pieces.specs.Fields.{IsField}
use Rattle.vk_pieces.proofs.Codes.{code_field}

pub function_field : {R : Type 0} (st : FunctionStage) (s : FunctionFeed) (at : ℕ) (next : Behind RawFunction R) → 0 < function_width_at st s.code
    → IsField (function_left_at st s at next) (function_width_at st s.code)
function_field functions.Symbol s at next h = refl
function_field functions.ResultType s at next h = refl
function_field functions.ParamCount s at next h = refl
function_field (functions.Param left) s at next h = refl
function_field functions.DirectiveCount s at next h = refl
function_field (functions.Branch left) s at next h = refl
function_field (functions.Simdlen left) s at next h = refl
function_field (functions.Kind left params) s at next h = refl
function_field (functions.Value left params kind) s at next h = refl
function_field (functions.Align left params kind value) s at next h = refl
function_field functions.Defined s at next h = refl
function_field functions.Scalar s at next h = code_field s.code at (after_scalar s.functions s.function next) h
function_field (functions.Lane left) s at next h = code_field s.code at (after_lane s.functions s.function s.scalar s.lanes left next) h
function_field functions.Done s at next h = absurd (omega (arith, h))
