-- The code of statements that hold statements, from that of their parts.
use Rattle.std.proofs.Common.{arith, rules, sym, ◌≡◌, ℕ, ◌+◌, ◌*◌, ◌-◌, ◌≤◌, ◌<◌, false, List, [], ◌∷◌, ◌++◌, length, take, drop, get_or, refl, ap, ap₂, ◌∙◌, append_assoc, append-nil, Option, IsTrue}
use Rattle.vk_kinds.specs.declared.heads.CType.TheVariants.{Int}
use Rattle.std.specs.Global.{Vec}
use Rattle.vk_ast.proofs.Rows.{block_seen}
use Rattle.vk_ast.specs.declared.statements.Stmt.{Stmt}
use Rattle.vk_ast.specs.declared.statements.StmtKind.TheVariants.{Block}
use Rattle.vk_ast.specs.Statements.{list_stmts, stmt_kind_of, stmt_of, StmtTree, StmtTrees, all_stmt_nodes, stmt_nodes, empty, block, local, assign, value, if_only, if_else, while_loop, do_loop, for_loop, break_loop, continue_loop, return_value, simd, lost, more_stmts, no_stmts}
use Rattle.vk_ast.specs.Tree.{Tree, nodes_of}
use Rattle.vk_rules_book.specs.Scopes.{Scope, inside}
use Rattle.vk_rules_book.specs.Visits.{after}
use Rattle.vk_meaning.specs.Points.{loops_in}
use Rattle.vk_meaning.specs.Expressions.{value_of}
use Rattle.vk_meaning.specs.Statements.{fell, run, run_all}
use Rattle.vk_construct.specs.Adds.{Adds, AddsValue, Written}
use Rattle.vk_construct.specs.Computes.{Table}
use Rattle.vk_construct.proofs.Adding.{type_kept}
use Rattle.vk_construct_statements.specs.Follows.{AreApart, Guards, first_branch, second_branch}
use Rattle.vk_construct_statements.specs.Statements.{AddsStatement, Unites}
use Rattle.vk_construct_statements.proofs.Branches.{apart_second}
use Rattle.vk_construct_statements.proofs.Flow.{flow_block, flow_branch, flow_nothing, flow_then}
use Rattle.vk_construct_statements.proofs.Straight.{front_same, front_then}
use Rattle.vk_flat.specs.declared.emitter.Emitter.{Emitter}
use Rattle.vk_flat.specs.declared.emitter.Place.{Place}
use Rattle.vk_flat.specs.declared.emitter.Under.{Under}
use Rattle.vk_flat.specs.declared.locals.Local.{Local}
use Rattle.vk_flat.specs.Emitters.{HasBase, IsPlace, written_of}
use Rattle.vk_flat.specs.Locals.{ArePlaces, is_numeric}
use Rattle.vk_flat_statements.specs.Frames.{AreBehind, return_place}
use Rattle.vk_flat_statements.specs.Statements.{Compiles, Divides, StandFor, inner_point, returning}
use Rattle.vk_flat_statements.proofs.Leaves.{emitted}
use Rattle.vk_flat_statements.proofs.Standing.{larger, stands_behind}
use Rattle.vk_flat_nested.specs.Nested.{CompilesAll, CompilesBranch}
use Rattle.vk_flat_nested.proofs.Room.{divides_kept, grown_all, grown_block, grown_if, grown_if_else, grown_none}

-- ---- names

pub first_ones : {A : Type 0} → (xs ys : List A) → take (length xs) (xs ++ ys) ≡ xs
first_ones [] ys = search rules
first_ones (x ∷ xs) ys = ap (λ l. x ∷ l) (first_ones xs ys)

-- what comes behind the names before a statement
behind_front : (xs ys : List Local) (s : StmtTree) → AreBehind xs s ys → (more : List Local) × (ys ≡ xs ++ more)
behind_front xs ys (local l k t fixed id init) h = (record { name = id; place = h.place } ∷ [], h.names)
behind_front xs ys (empty l k) h = ([], h ∙ sym (append-nil xs))
behind_front xs ys (block l k ss) h = ([], h ∙ sym (append-nil xs))
behind_front xs ys (assign l k op place e) h = ([], h ∙ sym (append-nil xs))
behind_front xs ys (value l k e) h = ([], h ∙ sym (append-nil xs))
behind_front xs ys (if_only l k c first) h = ([], h ∙ sym (append-nil xs))
behind_front xs ys (if_else l k c first second) h = ([], h ∙ sym (append-nil xs))
behind_front xs ys (while_loop l k c body) h = ([], h ∙ sym (append-nil xs))
behind_front xs ys (do_loop l k body c) h = ([], h ∙ sym (append-nil xs))
behind_front xs ys (for_loop l k first c third body) h = ([], h ∙ sym (append-nil xs))
behind_front xs ys (break_loop l k) h = ([], h ∙ sym (append-nil xs))
behind_front xs ys (continue_loop l k) h = ([], h ∙ sym (append-nil xs))
behind_front xs ys (return_value l k e) h = ([], h ∙ sym (append-nil xs))
behind_front xs ys (simd l k d body) h = ([], h ∙ sym (append-nil xs))
behind_front xs ys (lost l k d) h = ([], h ∙ sym (append-nil xs))

-- the names before a statement, again
pub names_again : (xs ys zs : List Local) (s : StmtTree) (n : ℕ) → AreBehind xs s ys → n ≡ length xs → zs ≡ take n ys → zs ≡ xs
names_again xs ys zs s n h e is = let f = behind_front xs ys s h in is ∙ (ap (λ k. take k ys) e ∙ (ap (take (length xs)) f.1 ∙ first_ones xs f.0))

-- names mean the same inside a block
stands_inside : (w : Written) (locals : List Local) (scope : Scope) (tb : Table) → StandFor w locals scope tb → StandFor w locals (inside scope) tb
stands_inside w locals scope tb st = record {
  names = record {
    each = λ id x is. let v = st.names.each id x is in record { variable = v.variable; named = v.named; ctype = v.ctype; register = v.register };
    variables = record { there = λ id v is. st.names.variables.there id v is; typed = λ id v is. st.names.variables.typed id v is };
  };
  count = st.count;
  registers = st.registers;
}

-- ---- one after another

pub all_none : (e : Emitter) (xs : List Local) (returned : Option Place) (m : Guards) → AreApart m → CompilesAll e e xs xs returned no_stmts m
all_none e xs returned m ap_ = record {
  code = record {
    code = λ scope loops tb st. record { table = tb; front = front_same tb; code = flow_nothing (written_of e) (return_place returned) tb m ap_; stand = st };
    kept = λ x p. p;
  };
  more = [];
  front = sym (append-nil xs);
  grown = grown_none e;
}

both_sizes : (n k : ℕ) → 16 * n + 16 * k ≤ 16 * (n + k)
both_sizes n k = omega arith

pub all_more : (old mid new : Emitter) (xs ys zs : List Local) (returned : Option Place) (s : StmtTree) (ss : StmtTrees) (m : Guards) → AreApart m → Compiles old mid xs ys returned s m → CompilesAll mid new ys zs returned ss m →
    CompilesAll old new xs zs returned (more_stmts s ss) m
all_more old mid new xs ys zs returned s ss m ap_ h l =
    let f = behind_front xs ys s h.names in record {
      code = record {
        code = λ scope loops tb st.
            let p = h.code.code scope loops tb st in
            let q = l.code.code (after false scope s) (loops + loops_in s) p.table p.stand in record {
              table = q.table;
              front = front_then tb p.table q.table p.front q.front;
              code = larger (written_of old) (written_of new) _ (16 * stmt_nodes s + 16 * all_stmt_nodes ss) (16 * (stmt_nodes s + all_stmt_nodes ss)) 0 (both_sizes (stmt_nodes s) (all_stmt_nodes ss))
                  (flow_then (written_of old) (written_of mid) (written_of new) (return_place returned) tb p.table q.table (λ c. run (returning (return_place returned).ty c) (inner_point scope loops) s)
                  (λ c. run_all (returning (return_place returned).ty c) (inner_point (after false scope s) (loops + loops_in s)) ss) m (16 * stmt_nodes s) (16 * all_stmt_nodes ss) 0 ap_ p.front p.code q.code);
              stand = q.stand;
            };
        kept = λ x p. l.code.kept x (h.code.kept x p);
      };
      more = f.0 ++ l.more;
      front = l.front ∙ (ap (λ a. a ++ l.more) f.1 ∙ append_assoc xs f.0 l.more);
      grown = grown_all old mid new (stmt_nodes s) (all_stmt_nodes ss) h.grown l.grown;
    }

-- ---- inside

pub branch_of : (old new : Emitter) (xs ys : List Local) (returned : Option Place) (s : StmtTree) (m : Guards) → Compiles old new xs ys returned s m → CompilesBranch old new xs returned s m
branch_of old new xs ys returned s m h = record {
  code = λ scope loops tb st. let p = h.code.code (inside scope) loops tb (stands_inside (written_of old) xs scope tb st) in
      flow_block (written_of old) (written_of new) (return_place returned) tb p.table (λ c. run (returning (return_place returned).ty c) (inner_point (inside scope) loops) s) m (16 * stmt_nodes s) 0 p.front p.code;
  kept = h.code.kept;
  grown = h.grown;
}

block_size : (n : ℕ) → 16 * n ≤ 16 * (1 + n)
block_size n = omega arith

pub block_of : (old new : Emitter) (xs ys : List Local) (returned : Option Place) (l k : ℕ) (ss : StmtTrees) (m : Guards) → ArePlaces (written_of old) xs → CompilesAll old new xs ys returned ss m → Compiles old new xs xs returned (block l k ss) m
block_of old new xs ys returned l k ss m places h = record {
  code = record {
    code = λ scope loops tb st. let p = flowed scope loops tb st in record {
      table = tb;
      front = front_same tb;
      code = larger (written_of old) (written_of new) _ (16 * all_stmt_nodes ss) (16 * (1 + all_stmt_nodes ss)) 0 (block_size (all_stmt_nodes ss)) p;
      stand = stands_behind (written_of old) (written_of new) _ (16 * all_stmt_nodes ss) 0 xs scope tb p st;
    };
    kept = h.code.kept;
  };
  places = λ id x is. h.code.kept x.place (places id x is);
  names = refl;
  grown = grown_block old new (all_stmt_nodes ss) h.grown;
}
  where
    flowed : (scope : Scope) (loops : ℕ) (tb : Table) → StandFor (written_of old) xs scope tb →
        AddsStatement (written_of old) (written_of new) (return_place returned) tb tb (λ c. run_all (returning (return_place returned).ty c) (inner_point (inside scope) loops) ss) m (16 * all_stmt_nodes ss) 0
    flowed scope loops tb st = let p = h.code.code (inside scope) loops tb (stands_inside (written_of old) xs scope tb st) in
        flow_block (written_of old) (written_of new) (return_place returned) tb p.table (λ c. run_all (returning (return_place returned).ty c) (inner_point (inside scope) loops) ss) m (16 * all_stmt_nodes ss) 0 p.front p.code

-- ---- `if`

abbrev running_in : Guards → Under
running_in m = record { mask = m.running; free = m.free }

if_size : (t n : ℕ) → 8 * t + 16 * n + 0 + 3 ≤ 16 * (1 + t + n)
if_size t n = omega arith

if_else_size : (t n k : ℕ) → 8 * t + 16 * n + 16 * k + 3 ≤ 16 * (1 + t + n + k)
if_else_size t n k = omega arith

module _ (old mid one : Emitter) (xs : List Local) (returned : Option Place) (test : Tree) (s : StmtTree) (m : Guards) (l k : ℕ) (ap_ : AreApart m) (places : ArePlaces (written_of old) xs) (num : IsTrue (is_numeric xs test))
    (d : Divides old mid xs test m) (b : CompilesBranch mid one xs returned s (first_branch m)) where
  valued : (scope : Scope) (tb : Table) → StandFor (written_of old) xs scope tb →
      AddsValue (written_of old) d.between tb (λ c vs. value_of (returning (return_place returned).ty c) scope vs test) (Int d.place.ty) d.place.register m.running (length (written_of old).regs) m.free (8 * nodes_of test)
  valued scope tb st = emitted (written_of old) d.between xs test d.place (running_in m) m (return_place returned).ty refl refl num d.value scope tb st

  split_stands : (scope : Scope) (tb : Table) → StandFor (written_of old) xs scope tb → StandFor (written_of mid) xs scope tb
  split_stands scope tb st = stands_behind d.between (written_of mid) _ 2 0 xs scope tb d.split (stands_behind (written_of old) d.between _ (8 * nodes_of test) 0 xs scope tb (valued scope tb st) st)

  module _ (two : Emitter) (u : Adds (written_of one) (written_of two) (Unites m.running m.free (m.free + 1)) 1 0) (base : HasBase one two 0) where
    pub if_of : Compiles old two xs xs returned (if_only l k test s) m
    if_of = record {
      code = record {
        code = λ scope loops tb st. record {
          table = tb;
          front = front_same tb;
          code = larger (written_of old) (written_of two) _ (8 * nodes_of test + 16 * stmt_nodes s + 0 + 3) (16 * (1 + nodes_of test + stmt_nodes s)) 0 (if_size (nodes_of test) (stmt_nodes s))
              (flow_branch (written_of old) d.between (written_of mid) (written_of one) (written_of one) (written_of two) (return_place returned) tb (λ c vs. value_of (returning (return_place returned).ty c) scope vs test)
              (λ c. run (returning (return_place returned).ty c) (inner_point (inside scope) loops) s) (λ c. fell) d.place.ty d.place.register (length (written_of old).regs) m (8 * nodes_of test) (16 * stmt_nodes s) 0 0 ap_ st.registers d.value.place
              (valued scope tb st) d.split (b.code scope loops tb (split_stands scope tb st)) (flow_nothing (written_of one) (return_place returned) tb (second_branch m) (apart_second m ap_)) u);
          stand = stands_behind (written_of one) (written_of two) _ 1 0 xs scope tb u (stands_behind (written_of mid) (written_of one) _ (16 * stmt_nodes s) 0 xs scope tb (b.code scope loops tb (split_stands scope tb st)) (split_stands scope tb st));
        };
        kept = kept;
      };
      places = λ id x is. kept x.place (places id x is);
      names = refl;
      grown = grown_if old mid one two xs test m (stmt_nodes s) d b.grown base;
    }
      where
        kept : (x : Place) → IsPlace (written_of old) x → IsPlace (written_of two) x
        kept x p = type_kept (written_of one) (written_of two) _ 1 0 x.register (Int x.ty) u (b.kept x (divides_kept old mid xs test m d x p))

  module _ (two last : Emitter) (t : StmtTree) (c : CompilesBranch one two xs returned t (second_branch m)) (u : Adds (written_of two) (written_of last) (Unites m.running m.free (m.free + 1)) 1 0) (base : HasBase two last 0) where
    first_stands : (scope : Scope) (loops : ℕ) (tb : Table) → StandFor (written_of old) xs scope tb → StandFor (written_of one) xs scope tb
    first_stands scope loops tb st = stands_behind (written_of mid) (written_of one) _ (16 * stmt_nodes s) 0 xs scope tb (b.code scope loops tb (split_stands scope tb st)) (split_stands scope tb st)

    pub if_else_of : Compiles old last xs xs returned (if_else l k test s t) m
    if_else_of = record {
      code = record {
        code = λ scope loops tb st. record {
          table = tb;
          front = front_same tb;
          code = larger (written_of old) (written_of last) _ (8 * nodes_of test + 16 * stmt_nodes s + 16 * stmt_nodes t + 3) (16 * (1 + nodes_of test + stmt_nodes s + stmt_nodes t)) 0 (if_else_size (nodes_of test) (stmt_nodes s) (stmt_nodes t))
              (flow_branch (written_of old) d.between (written_of mid) (written_of one) (written_of two) (written_of last) (return_place returned) tb (λ c vs. value_of (returning (return_place returned).ty c) scope vs test)
              (λ c. run (returning (return_place returned).ty c) (inner_point (inside scope) loops) s) (λ c. run (returning (return_place returned).ty c) (inner_point (inside scope) (loops + loops_in s)) t) d.place.ty d.place.register (length (written_of old).regs) m
              (8 * nodes_of test) (16 * stmt_nodes s) (16 * stmt_nodes t) 0 ap_ st.registers d.value.place
              (valued scope tb st) d.split (b.code scope loops tb (split_stands scope tb st)) (c.code scope (loops + loops_in s) tb (first_stands scope loops tb st)) u);
          stand = stands_behind (written_of two) (written_of last) _ 1 0 xs scope tb u
              (stands_behind (written_of one) (written_of two) _ (16 * stmt_nodes t) 0 xs scope tb (c.code scope (loops + loops_in s) tb (first_stands scope loops tb st)) (first_stands scope loops tb st));
        };
        kept = kept;
      };
      places = λ id x is. kept x.place (places id x is);
      names = refl;
      grown = grown_if_else old mid one two last xs test m (stmt_nodes s) (stmt_nodes t) d b.grown c.grown base;
    }
      where
        kept : (x : Place) → IsPlace (written_of old) x → IsPlace (written_of last) x
        kept x p = type_kept (written_of two) (written_of last) _ 1 0 x.register (Int x.ty) u (c.kept x (b.kept x (divides_kept old mid xs test m d x p)))

-- ---- measures, and a block as it is seen

pub block_falls : (n k t : ℕ) → n ≡ 1 + k → t ≡ 3 * n → 3 * k + 1 < t
block_falls n k t e m = omega (arith, e, m)

pub rest_falls : (all n k t : ℕ) → all ≡ n + k → 1 ≤ n → t ≡ 3 * all + 1 → 3 * k + 1 < t
rest_falls all n k t e l m = omega (arith, e, l, m)

pub block_is : (s : Stmt) (ss : Vec Stmt) (xs : List Stmt) → s.kind ≡ Block ss → xs ≡ ss.items → stmt_of s ≡ block s.line s.token (list_stmts xs)
block_is s ss xs e f = ap (λ k. stmt_kind_of k s.line s.token) e ∙ (block_seen s.line s.token ss ∙ ap (λ l. block s.line s.token (list_stmts l)) (sym f))

-- the names before a block, again
pub names_cut : (xs ys zs more : List Local) (n : ℕ) → ys ≡ xs ++ more → n ≡ length xs → zs ≡ take n ys → zs ≡ xs
names_cut xs ys zs more n f e is = is ∙ (ap (λ k. take k ys) e ∙ (ap (take (length xs)) f ∙ first_ones xs more))

-- ---- statements one after another, as they are seen

pub none_seen : (xs : List Stmt) → length xs < 1 → list_stmts xs ≡ no_stmts
none_seen [] h = refl
none_seen (x ∷ xs) h = absurd (omega (arith, h))

pub rest_seen : (xs : List Stmt) (x : Stmt) → 1 ≤ length xs → x ≡ get_or xs 0 x → list_stmts xs ≡ more_stmts (stmt_of x) (list_stmts (take (length xs - 1) (drop 1 xs)))
rest_seen [] x h e = absurd (omega (arith, h))
rest_seen (y ∷ ys) x h e = ap₂ (λ z l. more_stmts (stmt_of z) (list_stmts l)) (sym e) (sym (ap (λ n. take n ys) one_less ∙ (ap (take (length ys)) (sym (append-nil ys)) ∙ first_ones ys [])))
  where
    one_less : length (y ∷ ys) - 1 ≡ length ys
    one_less = omega arith
