-- What the code tells of clauses, in the words of the relation.
use Rattle.std.proofs.Common.{◌≡◌, ℕ, List, map, Result, Ok, Err, IfOk, sym, ◌∙◌, subst}
use Rattle.vk_ast.specs.declared.directives.Clause.{Clause}
use Rattle.vk_memory.specs.declared.want.Memory.{Memory}
use Rattle.vk_ast.specs.Directives.{ClauseTree, clause_of}
use Rattle.vk_grammar_expr.specs.declared.symbols.Sym.{Sym}
use Rattle.vk_parse_directives.specs.Clauses.{AreClauses}
use Rattle.vk_parse_directives.specs.Inner.Reading.{clauses_of}
use Rattle.vk_parse_directives.proofs.Known.{all_found, all_only}
use Rattle.std.specs.Global.{Vec as GlobalVec}

abbrev Told : (names : List (List ℕ)) (w : List Sym) → Result (GlobalVec Clause) Memory → Type 0
Told names w result = IfOk result (λ v. map clause_of v.items ≡ clauses_of names w)

pub found : (names : List (List ℕ)) (w : List Sym) (result : Result (GlobalVec Clause) Memory) → Told names w result → IfOk result (λ v. AreClauses names (map clause_of v.items) w)
found names w (Ok v) is = subst (λ (cs : List ClauseTree). AreClauses names cs w) (sym is) (all_found names w)
found names w (Err fail) is = tt

pub only : (names : List (List ℕ)) (w : List Sym) (result : Result (GlobalVec Clause) Memory) → Told names w result
    → (cs : List ClauseTree) → AreClauses names cs w → IfOk result (λ v. map clause_of v.items ≡ cs)
only names w (Ok v) is cs all = is ∙ sym (all_only names all)
only names w (Err fail) is cs all = tt
