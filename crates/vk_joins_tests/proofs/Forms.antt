-- Short forms for what the text of a unit tells.
use Rattle.std.specs.Prelude.{ℕ, List, [], ◌∷◌, Option, Some, None}
use Rattle.vk_kinds.specs.declared.kinds.Kind.{Kind}
use Rattle.vk_kinds.specs.declared.kinds.Param.{Param}
use Rattle.vk_ast.specs.declared.names.NameId.{NameId}
use Rattle.vk_ast.specs.Statements.{stmt_nodes}
use Rattle.vk_ast.specs.Directives.{DirectiveTree}
use Rattle.vk_rules_book.specs.Rules.{Subject}
use Rattle.vk_meaning.specs.Programs.{Definition, first_point}
use Rattle.vk_sites.specs.Bounds.{Size, function_size, own_loops}
use Rattle.vk_sites.specs.Captures.{captures_of}
use Rattle.vk_sites.specs.Loops.{LoopText}
use Rattle.vk_sites.specs.Shapes.{lane_view, loop_view}
use Rattle.vk_agree.specs.Units.{definition_in, param_types}
use Rattle.vk_joins.specs.Codes.{Call, calls_made, lanes, plain}

abbrev pub id : ℕ → NameId
id n = record { 0 = n }

-- a line `#pragma omp simd`
abbrev pub line : DirectiveTree
line = record { line = 0; token = 0; number = 0; clauses = [] }

abbrev pub param : Kind → Param
param k = record { kind = k; align = None }

abbrev pub with_definition : {X : Type 0} → X → (Definition → X) → Option Definition → X
with_definition x f None = x
with_definition x f (Some d) = f d

-- the calls of a function's scalar code, and of the code of a directive with these parameters
abbrev pub plain_calls : Subject → (text : List ℕ) → List Call
plain_calls u text = with_definition [] (λ d. calls_made u plain (first_point d) d.body) (definition_in text u)

abbrev pub lane_calls : Subject → (text : List ℕ) → List Param → List Call
lane_calls u text ps = with_definition [] (λ d. calls_made u (lanes (lane_view (param_types d) ps (first_point d) d.body)) (first_point d) d.body) (definition_in text u)

-- those of the bodies of its simd loops
abbrev pub each_body : Subject → List LoopText → List (List Call)
each_body u [] = []
each_body u (l ∷ ls) = calls_made u (lanes (loop_view l)) l.inside l.body ∷ each_body u ls

abbrev pub loop_calls : Subject → (text : List ℕ) → List (List Call)
loop_calls u text = with_definition [] (λ d. each_body u (own_loops d)) (definition_in text u)

-- the captures of its simd loops
abbrev pub each_captured : List LoopText → List (List ℕ)
each_captured [] = []
each_captured (l ∷ ls) = captures_of l ∷ each_captured ls

abbrev pub loop_captures : Subject → (text : List ℕ) → List (List ℕ)
loop_captures u text = with_definition [] (λ d. each_captured (own_loops d)) (definition_in text u)

abbrev pub inner_nodes : List LoopText → List ℕ
inner_nodes [] = []
inner_nodes (l ∷ ls) = stmt_nodes l.body ∷ inner_nodes ls

abbrev pub numbers_in : Size → List ℕ → List ℕ
numbers_in s ns = s.loops ∷ s.outer ∷ s.nodes ∷ s.bases ∷ ns

-- loops, nodes outside simd loops, nodes, bases, and the nodes of each simd loop's body
abbrev pub counts : Subject → (text : List ℕ) → List ℕ
counts u text = with_definition [] (λ d. numbers_in (function_size d) (inner_nodes (own_loops d))) (definition_in text u)
