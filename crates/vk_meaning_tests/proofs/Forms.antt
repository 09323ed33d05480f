-- Short forms for trees and for what a run tells.
use Rattle.std.specs.Prelude.{ℕ, Bool, false, cond, List, [], ◌∷◌, filter_map, Option, Some, None, ℤ, Result, Ok, Err}
use Rattle.vk_types.specs.declared.types.Ty.{Ty}
use Rattle.vk_types.specs.declared.types.Stop.{Stop}
use Rattle.vk_kinds.specs.declared.heads.CType.{CType}
use Rattle.vk_kinds.specs.declared.kinds.Target.TheVariants.{X86}
use Rattle.vk_ast.specs.declared.names.NameId.{NameId}
use Rattle.vk_ast.specs.declared.items.ParamDecl.{ParamDecl}
use Rattle.vk_ast.specs.declared.expressions.UnOp.{UnOp}
use Rattle.vk_ast.specs.declared.expressions.BinOp.{BinOp}
use Rattle.vk_ast.specs.Tree as t
use Rattle.vk_ast.specs.Tree.{Tree, Trees}
use Rattle.vk_ast.specs.Statements as s
use Rattle.vk_ast.specs.Statements.{StmtTree, StmtTrees}
use Rattle.vk_ast.specs.Directives.{DirectiveTree}
use Rattle.vk_ast.specs.Units as i
use Rattle.vk_ast.specs.Units.{ItemTree}
use Rattle.vk_rules_book.specs.Rules.{Subject}
use Rattle.vk_meaning.specs.World.{Memory, Event, printed, simd_loop}
use Rattle.vk_meaning.specs.Data.{Datum, Value, got, halts}
use Rattle.vk_meaning.specs.Meaning.{printed_numbers, world_of}

abbrev pub id : ℕ → NameId
id n = record { 0 = n }

-- ---- expressions

abbrev pub lit : Ty → ℕ → Tree
lit ty n = t.int 0 0 ty n

abbrev pub var : NameId → Tree
var n = t.name 0 0 n

abbrev pub index : Tree → Tree → Tree
index base subscript = t.index 0 0 base subscript

abbrev pub deref : Tree → Tree
deref e = t.deref 0 0 e

abbrev pub addr : Tree → Tree
addr e = t.addr 0 0 e

abbrev pub one : UnOp → Tree → Tree
one op e = t.unary 0 0 op e

abbrev pub two : BinOp → Tree → Tree → Tree
two op left right = t.binary 0 0 op left right

abbrev pub choice : Tree → Tree → Tree → Tree
choice condition first second = t.choice 0 0 condition first second

abbrev pub cast : Ty → Tree → Tree
cast ty e = t.cast 0 0 ty e

abbrev pub arguments : List Tree → Trees
arguments [] = t.no_trees
arguments (e ∷ es) = t.more_trees e (arguments es)

abbrev pub call : NameId → List Tree → Tree
call f es = t.call 0 0 f (arguments es)

-- ---- statements

abbrev pub row : List StmtTree → StmtTrees
row [] = s.no_stmts
row (x ∷ xs) = s.more_stmts x (row xs)

abbrev pub empty : StmtTree
empty = s.empty 0 0

abbrev pub block : List StmtTree → StmtTree
block xs = s.block 0 0 (row xs)

abbrev pub local : Ty → NameId → Option Tree → StmtTree
local ty n init = s.local 0 0 ty false n init

abbrev pub assign : Option BinOp → Tree → Tree → StmtTree
assign op place e = s.assign 0 0 op place e

abbrev pub value : Tree → StmtTree
value e = s.value 0 0 e

abbrev pub if_only : Tree → StmtTree → StmtTree
if_only c x = s.if_only 0 0 c x

abbrev pub if_else : Tree → StmtTree → StmtTree → StmtTree
if_else c x y = s.if_else 0 0 c x y

abbrev pub while_loop : Tree → StmtTree → StmtTree
while_loop c x = s.while_loop 0 0 c x

abbrev pub do_loop : StmtTree → Tree → StmtTree
do_loop x c = s.do_loop 0 0 x c

abbrev pub for_loop : StmtTree → Option Tree → StmtTree → StmtTree → StmtTree
for_loop first c third body = s.for_loop 0 0 first c third body

abbrev pub break_loop : StmtTree
break_loop = s.break_loop 0 0

abbrev pub continue_loop : StmtTree
continue_loop = s.continue_loop 0 0

abbrev pub return_value : Option Tree → StmtTree
return_value e = s.return_value 0 0 e

abbrev pub a_line : DirectiveTree
a_line = record { line = 0; token = 0; number = 1; clauses = [] }

abbrev pub simd : StmtTree → StmtTree
simd x = s.simd 0 0 a_line x

-- ---- items

abbrev pub param : Option NameId → CType → ParamDecl
param name ctype = record { line = 0; token = 0; name = name; ctype = ctype; fixed = false }

abbrev pub function_of : NameId → (is_simd : Bool) → CType → List ParamDecl → Option StmtTree → ItemTree
function_of name is_simd result params body = i.function record {
  line = 0;
  token = 0;
  name = name;
  directives = cond is_simd (a_line ∷ []) [];
  result = result;
  params = params;
  body = body;
}

abbrev pub object_of : NameId → Ty → (fixed outside : Bool) → Option (Option Tree) → Option (List Tree) → (braced : Bool) → ItemTree
object_of name ty fixed outside array init braced = i.object record {
  line = 0;
  token = 0;
  name = name;
  ty = ty;
  fixed = fixed;
  outside = outside;
  array = array;
  init = init;
  braced = braced;
  init_line = 0;
  init_token = 0;
}

abbrev pub unit_of : List (List ℕ) → List ItemTree → Subject
unit_of texts items = record { items = items; texts = texts; target = X86 }

-- ---- what a run tells

-- a value or a stop
abbrev pub end_of : Value → Result Datum Stop
end_of (got d w) = Ok d
end_of (halts x w) = Err x

-- a simd loop's number, iterations and guard
pub record Loop : Type 0 where
  pub number : ℕ
  pub iterations : ℕ
  pub apart : Bool

abbrev pub loop_told : Event → Option Loop
loop_told (printed z) = None
loop_told (simd_loop function number iterations apart) = Some (record { number = number; iterations = iterations; apart = apart })

-- the printed numbers, the simd loops, and the stop
pub record Told : Type 0 where
  pub prints : List ℤ
  pub loops : List Loop
  pub stop : Option Stop

abbrev pub stopped_by : Result Datum Stop → Option Stop
stopped_by (Ok d) = None
stopped_by (Err x) = Some x

abbrev pub told : Value → Told
told v = record { prints = printed_numbers (world_of v).events; loops = filter_map loop_told (world_of v).events; stop = stopped_by (end_of v) }

abbrev pub tells : List ℤ → List Loop → Option Stop → Told
tells prints loops stop = record { prints = prints; loops = loops; stop = stop }

abbrev pub loop : ℕ → ℕ → Bool → Loop
loop number iterations apart = record { number = number; iterations = iterations; apart = apart }

-- a memory of zeros
abbrev pub zeros : Memory
zeros a i = 0
