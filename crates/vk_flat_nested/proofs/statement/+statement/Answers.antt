-- The code of each kind of statement.
use Rattle.std.proofs.Common.{rules, sym, subst, ap, ◌&&◌, ◌+◌, ◌-◌, IsTrue, is_some, ◌≡◌, List, OnOk, length, take, drop, arith}
use Rattle.vk_ast.specs.Statements.{all_stmt_nodes, block, list_stmts, more_stmts, stmt_nodes, stmt_of}
use Rattle.vk_ast.specs.Tree.{expr_of, nodes_of}
use Rattle.vk_construct_statements.specs.Follows.{Guards, first_branch, second_branch}
use Rattle.vk_flat.specs.declared.locals.Local.{Local}
use Rattle.vk_flat.specs.Locals.{is_numeric}
use Rattle.vk_flat.proofs.Cases.{first_of, middle_of, second_of}
use Rattle.vk_flat.proofs.Grown.{on_ok}
use Rattle.vk_flat_statements.specs.Flat.{are_flat, is_flat, names_behind}
use Rattle.vk_flat_statements.specs.Frames.{IsReady, guards_of}
use Rattle.vk_flat_statements.specs.Statements.{Compiles, Divides}
use Rattle.vk_flat_statements.proofs.Alike.{all_flat_alike, alike_behind}
use Rattle.vk_flat_statements.proofs.Compiling.{on_both}
use Rattle.vk_flat_nested.specs.Nested.{CompilesAll, CompilesBranch}
use Rattle.vk_flat_nested.proofs.Nesting.{all_more, all_none, block_falls, block_is, block_of, branch_of, if_else_of, if_of, names_cut, none_seen, rest_falls, rest_seen}
use Rattle.vk_flat_nested.proofs.Room.{divides_kept, place_kept, ready_first, ready_less, ready_rest, ready_second, some_stmt_nodes}
use Rattle.vk_flat_nested.proofs.statement.+statement.Goals as goal

pub emit_all-returns-in_default : goal.emit_all-returns-in_default
emit_all-returns-in_default t c = subst (λ ss. CompilesAll c.args.emitter.now c.args.emitter.now c.args.locals.now.items c.args.locals.now.items c.args.returned ss (guards_of c.args.guards)) (sym (none_seen c.args.statements.now c.in_default.len_below))
    (all_none c.args.emitter.now c.args.locals.now.items c.args.returned (guards_of c.args.guards) c.requires.ready.apart)

pub emit_all-emit_all-requires : goal.emit_all-emit_all-requires
emit_all-emit_all-requires t c =
    let old = c.args.emitter.now in
    let mid = c.emit_statement.new.emitter in
    let xs = c.args.locals.now.items in
    let ys = c.emit_statement.new.locals.items in
    let first = stmt_of c.first-item.result in
    let rest = list_stmts (take (length c.args.statements.now - 1) (drop 1 c.args.statements.now)) in
    let seen : list_stmts c.args.statements.now ≡ more_stmts first rest = rest_seen c.args.statements.now c.first-item.result c.in-len1-up.len_at_least c.first-item.is in
    let h : Compiles old mid xs ys c.args.returned first (guards_of c.args.guards) = c.in_ok-emit_statement.ensures in
    let flat : IsTrue (is_flat (is_some c.args.returned) xs first && are_flat (is_some c.args.returned) (names_behind xs first) rest) = subst (λ ss. IsTrue (are_flat (is_some c.args.returned) xs ss)) seen c.requires.flat in (
      rest_falls (all_stmt_nodes (list_stmts c.args.statements.now)) (stmt_nodes first) (all_stmt_nodes rest) t (ap all_stmt_nodes seen) (some_stmt_nodes first) (sym c.decreases),
      (
        subst IsTrue (all_flat_alike (is_some c.args.returned) (names_behind xs first) ys (alike_behind xs ys first h.names) rest)
            (second_of (is_flat (is_some c.args.returned) xs first) (are_flat (is_some c.args.returned) (names_behind xs first) rest) flat),
        (
          place_kept old mid c.args.returned h.code.kept c.requires.place,
          ready_rest old mid xs ys c.args.returned first (guards_of c.args.guards) (all_stmt_nodes rest) (subst (λ ss. IsReady old xs (guards_of c.args.guards) (all_stmt_nodes ss)) seen c.requires.ready) h,
        ),
      ),
    )

pub emit_all-returns : goal.emit_all-returns
emit_all-returns t c =
    let old = c.args.emitter.now in
    let mid = c.emit_statement.new.emitter in
    let xs = c.args.locals.now.items in
    let ys = c.emit_statement.new.locals.items in
    let first = stmt_of c.first-item.result in
    let rest = list_stmts (take (length c.args.statements.now - 1) (drop 1 c.args.statements.now)) in
    subst (λ ss. OnOk c.emit_all.result (CompilesAll old c.emit_all.new.emitter xs c.emit_all.new.locals.items c.args.returned ss (guards_of c.args.guards)))
    (sym (rest_seen c.args.statements.now c.first-item.result c.in-len1-up.len_at_least c.first-item.is))
    (on_ok c.emit_all.result (λ l. all_more old mid c.emit_all.new.emitter xs ys c.emit_all.new.locals.items c.args.returned first rest (guards_of c.args.guards) c.requires.ready.apart c.in_ok-emit_statement.ensures l) c.emit_all.ensures)

pub emit_branch-returns-clause-code : goal.emit_branch-returns-clause-code
emit_branch-returns-clause-code t c = branch_of c.args.emitter.now c.emit_statement.new.emitter c.args.locals.now.items c.emit_statement.new.locals.items c.args.returned (stmt_of c.args.s.now) (guards_of c.args.guards) c.in_ok-emit_statement.ensures

pub emit_if-emit_branch-requires : goal.emit_if-emit_branch-requires
emit_if-emit_branch-requires t c =
    let old = c.args.emitter.now in
    let mid = c.divide.new.emitter in
    let xs = c.args.locals.now.items in
    let test = expr_of c.args.test.now in
    let first = stmt_of c.args.first.now in
    let d : Divides old mid xs test (guards_of c.args.guards) = subst (λ (l : List Local). Divides old mid l test (guards_of c.args.guards)) c.deref.ensures.value c.in_ok-divide.ensures in (
      search rules,
      (
        second_of (is_numeric xs test) (is_flat (is_some c.args.returned) xs first) c.requires.flat,
        (
          place_kept old mid c.args.returned (divides_kept old mid xs test (guards_of c.args.guards) d) c.requires.place,
          subst (λ (g : Guards). IsReady mid xs g (stmt_nodes first)) (sym c.first_branch.ensures) (ready_first old mid xs test (guards_of c.args.guards) (stmt_nodes first) c.requires.ready d),
        ),
      ),
    )

pub emit_if-returns-clause-code : goal.emit_if-returns-clause-code
emit_if-returns-clause-code t c = λ line token.
    let old = c.args.emitter.now in
    let mid = c.divide.new.emitter in
    let one = c.emit_branch.new.emitter in
    let xs = c.args.locals.now.items in
    let test = expr_of c.args.test.now in
    let first = stmt_of c.args.first.now in
    let d : Divides old mid xs test (guards_of c.args.guards) = subst (λ (l : List Local). Divides old mid l test (guards_of c.args.guards)) c.deref.ensures.value c.in_ok-divide.ensures in
    on_both c.unite.result (λ u base. if_of old mid one xs c.args.returned test first (guards_of c.args.guards) line token c.requires.ready.apart c.requires.ready.places (first_of (is_numeric xs test) (is_flat (is_some c.args.returned) xs first) c.requires.flat)
    d (subst (λ (g : Guards). CompilesBranch mid one xs c.args.returned first g) c.first_branch.ensures c.in_ok-emit_branch.ensures.code) c.unite.new.emitter u base) c.unite.ensures.code c.unite.ensures.base

pub emit_if_else-emit_branch-requires : goal.emit_if_else-emit_branch-requires
emit_if_else-emit_branch-requires t c =
    let old = c.args.emitter.now in
    let mid = c.divide.new.emitter in
    let xs = c.args.locals.now.items in
    let test = expr_of c.args.test.now in
    let first = stmt_of c.args.first.now in
    let second = stmt_of c.args.second.now in
    let d : Divides old mid xs test (guards_of c.args.guards) = subst (λ (l : List Local). Divides old mid l test (guards_of c.args.guards)) c.deref.ensures.value c.in_ok-divide.ensures in (
      search rules,
      (
        middle_of (is_numeric xs test) (is_flat (is_some c.args.returned) xs first) (is_flat (is_some c.args.returned) xs second) c.requires.flat,
        (
          place_kept old mid c.args.returned (divides_kept old mid xs test (guards_of c.args.guards) d) c.requires.place,
          subst (λ (g : Guards). IsReady mid xs g (stmt_nodes first)) (sym c.first_branch.ensures)
              (ready_first old mid xs test (guards_of c.args.guards) (stmt_nodes first) (ready_less old xs (guards_of c.args.guards) (1 + nodes_of test + stmt_nodes first + stmt_nodes second) (1 + nodes_of test + stmt_nodes first) (omega arith) c.requires.ready) d),
        ),
      ),
    )

pub emit_if_else-emit_branch-requires-2 : goal.emit_if_else-emit_branch-requires-2
emit_if_else-emit_branch-requires-2 t c =
    let old = c.args.emitter.now in
    let mid = c.divide.new.emitter in
    let one = c.emit_branch.new.emitter in
    let xs = c.args.locals.now.items in
    let ys = c.emit_branch.new.locals.items in
    let test = expr_of c.args.test.now in
    let first = stmt_of c.args.first.now in
    let second = stmt_of c.args.second.now in
    let d : Divides old mid xs test (guards_of c.args.guards) = subst (λ (l : List Local). Divides old mid l test (guards_of c.args.guards)) c.deref.ensures.value c.in_ok-divide.ensures in
    let b : CompilesBranch mid one xs c.args.returned first (first_branch (guards_of c.args.guards)) = subst (λ (g : Guards). CompilesBranch mid one xs c.args.returned first g) c.first_branch.ensures c.in_ok-emit_branch.ensures.code in
    let same : xs ≡ ys = sym c.in_ok-emit_branch.ensures.same in (
      search rules,
      (
        subst (λ (l : List Local). IsTrue (is_flat (is_some c.args.returned) l second)) same (second_of (is_numeric xs test && is_flat (is_some c.args.returned) xs first) (is_flat (is_some c.args.returned) xs second) c.requires.flat),
        (
          place_kept mid one c.args.returned b.kept (place_kept old mid c.args.returned (divides_kept old mid xs test (guards_of c.args.guards) d) c.requires.place),
          subst (λ (g : Guards). IsReady one ys g (stmt_nodes second)) (sym c.second_branch.ensures)
              (subst (λ (l : List Local). IsReady one l (second_branch (guards_of c.args.guards)) (stmt_nodes second)) same
              (ready_second old mid one xs c.args.returned test first (guards_of c.args.guards) (stmt_nodes second) c.requires.ready d b)),
        ),
      ),
    )

pub emit_if_else-returns-clause-code : goal.emit_if_else-returns-clause-code
emit_if_else-returns-clause-code t c = λ line token.
    let old = c.args.emitter.now in
    let mid = c.divide.new.emitter in
    let one = c.emit_branch.new.emitter in
    let two = c.emit_branch-2.new.emitter in
    let xs = c.args.locals.now.items in
    let ys = c.emit_branch.new.locals.items in
    let test = expr_of c.args.test.now in
    let first = stmt_of c.args.first.now in
    let second = stmt_of c.args.second.now in
    let d : Divides old mid xs test (guards_of c.args.guards) = subst (λ (l : List Local). Divides old mid l test (guards_of c.args.guards)) c.deref.ensures.value c.in_ok-divide.ensures in
    let b : CompilesBranch mid one xs c.args.returned first (first_branch (guards_of c.args.guards)) = subst (λ (g : Guards). CompilesBranch mid one xs c.args.returned first g) c.first_branch.ensures c.in_ok-emit_branch.ensures.code in
    let e : CompilesBranch one two xs c.args.returned second (second_branch (guards_of c.args.guards)) = subst (λ (l : List Local). CompilesBranch one two l c.args.returned second (second_branch (guards_of c.args.guards))) c.in_ok-emit_branch.ensures.same
    (subst (λ (g : Guards). CompilesBranch one two ys c.args.returned second g) c.second_branch.ensures c.in_ok-emit_branch-2.ensures.code) in
    on_both c.unite.result (λ u base. if_else_of old mid one xs c.args.returned test first (guards_of c.args.guards) line token c.requires.ready.apart c.requires.ready.places
    (first_of (is_numeric xs test) (is_flat (is_some c.args.returned) xs first) (first_of (is_numeric xs test && is_flat (is_some c.args.returned) xs first) (is_flat (is_some c.args.returned) xs second) c.requires.flat))
    d b two c.unite.new.emitter second e u base) c.unite.ensures.code c.unite.ensures.base

pub emit_statement-emit_all-requires : goal.emit_statement-emit_all-requires
emit_statement-emit_all-requires t c =
    let xs = c.args.locals.now.items in
    let ss = list_stmts c.deref.result.now in
    let seen : stmt_of c.args.s.now ≡ block c.args.s.now.line c.args.s.now.token ss = block_is c.args.s.now c.in-Block.statements c.deref.result.now c.in-Block.is c.deref.ensures.value in (
      block_falls (stmt_nodes (stmt_of c.args.s.now)) (all_stmt_nodes ss) t (ap stmt_nodes seen) (sym c.decreases),
      (
        subst (λ x. IsTrue (is_flat (is_some c.args.returned) xs x)) seen c.requires.flat,
        (
          c.requires.place,
          ready_less c.args.emitter.now xs (guards_of c.args.guards) (1 + all_stmt_nodes ss) (all_stmt_nodes ss) (omega arith) (subst (λ x. IsReady c.args.emitter.now xs (guards_of c.args.guards) (stmt_nodes x)) seen c.requires.ready),
        ),
      ),
    )

pub emit_statement-returns-in_ok-emit_all-in-Block : goal.emit_statement-returns-in_ok-emit_all-in-Block
emit_statement-returns-in_ok-emit_all-in-Block t c =
    let old = c.args.emitter.now in
    let new = c.emit_all.new.emitter in
    let xs = c.args.locals.now.items in
    let ys = c.emit_all.new.locals.items in
    let ss = list_stmts c.deref.result.now in
    let count : c.len-count.result ≡ length xs = search rules in
    let h : CompilesAll old new xs ys c.args.returned ss (guards_of c.args.guards) = c.in_ok-emit_all-in-Block.ensures in
    subst (λ x. Compiles old new xs c.truncate.new.self.items c.args.returned x (guards_of c.args.guards)) (sym (block_is c.args.s.now c.in-Block.statements c.deref.result.now c.in-Block.is c.deref.ensures.value))
    (subst (λ l. Compiles old new xs l c.args.returned (block c.args.s.now.line c.args.s.now.token ss) (guards_of c.args.guards)) (sym (names_cut xs ys c.truncate.new.self.items h.more c.len-count.result h.front count c.truncate.ensures.items))
    (block_of old new xs ys c.args.returned c.args.s.now.line c.args.s.now.token ss (guards_of c.args.guards) c.requires.ready.places h))
