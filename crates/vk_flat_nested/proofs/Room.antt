-- Room for the code of parts.
use Rattle.std.proofs.Common.{arith, ◌≡◌, ℕ, ◌+◌, ◌*◌, ◌≤◌, ◌<◌, List, length, refl, ◌∙◌, Option}
use Rattle.vk_ast.specs.Statements.{StmtTree, stmt_nodes, empty, block, local, assign, value, if_only, if_else, while_loop, do_loop, for_loop, break_loop, continue_loop, return_value, simd, lost}
use Rattle.vk_ast.specs.Tree.{Tree, nodes_of}
use Rattle.vk_construct_statements.specs.Follows.{Guards, first_branch, second_branch}
use Rattle.vk_construct_statements.proofs.Branches.{apart_first, apart_second}
use Rattle.vk_construct.proofs.Adding.{type_kept}
use Rattle.vk_kinds.specs.declared.heads.CType.TheVariants.{Int}
use Rattle.vk_flat.specs.declared.emitter.Emitter.{Emitter}
use Rattle.vk_flat.specs.declared.emitter.Place.{Place}
use Rattle.vk_flat.specs.declared.locals.Local.{Local}
use Rattle.vk_flat.specs.Emitters.{HasBase, IsPlace, written_of}
use Rattle.vk_flat_statements.specs.Frames.{HasGrown, HasPlace, IsReady}
use Rattle.vk_flat_statements.specs.Statements.{Compiles, Divides}
use Rattle.vk_flat_nested.specs.Nested.{CompilesBranch}

pub some_stmt_nodes : (s : StmtTree) → 1 ≤ stmt_nodes s
some_stmt_nodes (empty l k) = omega arith
some_stmt_nodes (block l k ss) = omega arith
some_stmt_nodes (local l k t fixed id init) = omega arith
some_stmt_nodes (assign l k op place e) = omega arith
some_stmt_nodes (value l k e) = omega arith
some_stmt_nodes (if_only l k c first) = omega arith
some_stmt_nodes (if_else l k c first second) = omega arith
some_stmt_nodes (while_loop l k c body) = omega arith
some_stmt_nodes (do_loop l k body c) = omega arith
some_stmt_nodes (for_loop l k first c third body) = omega arith
some_stmt_nodes (break_loop l k) = omega arith
some_stmt_nodes (continue_loop l k) = omega arith
some_stmt_nodes (return_value l k e) = omega arith
some_stmt_nodes (simd l k d body) = omega arith
some_stmt_nodes (lost l k d) = omega arith

-- ---- numbers

few : (s n k : ℕ) → s + 4 * n < 65536 → k ≤ n → s + 4 * k < 65536
few s n k h l = omega (arith, h, l)

later : (s s1 n k : ℕ) → s + 4 * (n + k) < 65536 → s1 ≤ s + 4 * n → s1 + 4 * k < 65536
later s s1 n k h l = omega (arith, h, l)

divided : (s s1 t n : ℕ) → s + 4 * (1 + t + n) < 65536 → s1 ≤ s + 4 * t + 2 → s1 + 4 * n < 65536
divided s s1 t n h l = omega (arith, h, l)

divided_later : (s s1 s2 t n k : ℕ) → s + 4 * (1 + t + n + k) < 65536 → s1 ≤ s + 4 * t + 2 → s2 ≤ s1 + 4 * n → s2 + 4 * k < 65536
divided_later s s1 s2 t n k h l m = omega (arith, h, l, m)

params_most : (p r p1 r1 : ℕ) → p ≤ r → p1 ≡ p → r ≤ r1 → p1 ≤ r1
params_most p r p1 r1 h e l = omega (arith, h, e, l)

all_count : (s s1 s2 n k : ℕ) → s1 ≤ s + 4 * n → s2 ≤ s1 + 4 * k → s2 ≤ s + 4 * (n + k)
all_count s s1 s2 n k h l = omega (arith, h, l)

one_more_count : (s s1 n : ℕ) → s1 ≤ s + 4 * n → s1 ≤ s + 4 * (1 + n)
one_more_count s s1 n h = omega (arith, h)

if_count : (s s1 s2 r2 m2 r3 m3 t n : ℕ) → s1 ≤ s + 4 * t + 2 → s2 ≤ s1 + 4 * n → s2 ≡ r2 + m2 → r3 ≤ r2 + 0 → m3 ≡ m2 → r3 + m3 ≤ s + 4 * (1 + t + n)
if_count s s1 s2 r2 m2 r3 m3 t n h l e f g = omega (arith, h, l, e, f, g)

if_else_count : (s s1 s2 s3 r3 m3 r4 m4 t n k : ℕ) → s1 ≤ s + 4 * t + 2 → s2 ≤ s1 + 4 * n → s3 ≤ s2 + 4 * k → s3 ≡ r3 + m3 → r4 ≤ r3 + 0 → m4 ≡ m3 → r4 + m4 ≤ s + 4 * (1 + t + n + k)
if_else_count s s1 s2 s3 r3 m3 r4 m4 t n k h l i e f g = omega (arith, h, l, i, e, f, g)

most_two : (a b c : ℕ) → a ≤ b → b ≤ c → a ≤ c
most_two a b c h l = omega (arith, h, l)

most_same : (a b c : ℕ) → a ≤ b → c ≡ b → a ≤ c
most_same a b c h e = omega (arith, h, e)

-- ---- what may come

pub ready_less : (e : Emitter) (locals : List Local) (m : Guards) (n k : ℕ) → k ≤ n → IsReady e locals m n → IsReady e locals m k
ready_less e locals m n k l r = record { places = r.places; params = r.params; apart = r.apart; some_run = r.some_run; some_loop = r.some_loop; some_stay = r.some_stay; masks = r.masks; room = few (length e.regs.items + e.masks) n k r.room l }

pub ready_rest : (old new : Emitter) (xs ys : List Local) (returned : Option Place) (s : StmtTree) (m : Guards) (k : ℕ) → IsReady old xs m (stmt_nodes s + k) → Compiles old new xs ys returned s m → IsReady new ys m k
ready_rest old new xs ys returned s m k r h = record {
  places = h.places;
  params = params_most old.params (length old.regs.items) new.params (length new.regs.items) r.params h.grown.params h.grown.registers;
  apart = r.apart;
  some_run = r.some_run;
  some_loop = r.some_loop;
  some_stay = r.some_stay;
  masks = most_two m.free old.masks new.masks r.masks h.grown.masks;
  room = later (length old.regs.items + old.masks) (length new.regs.items + new.masks) (stmt_nodes s) k r.room h.grown.count;
}

pub place_kept : (old new : Emitter) (returned : Option Place) → ((x : Place) → IsPlace (written_of old) x → IsPlace (written_of new) x) → HasPlace old returned → HasPlace new returned
place_kept old new returned kept h d e = kept d (h d e)

pub divides_kept : (old new : Emitter) (locals : List Local) (e : Tree) (m : Guards) → Divides old new locals e m → (x : Place) → IsPlace (written_of old) x → IsPlace (written_of new) x
divides_kept old new locals e m h x p = type_kept h.between (written_of new) _ 2 0 x.register (Int x.ty) h.split (h.value.kept x p)

pub ready_first : (old new : Emitter) (locals : List Local) (e : Tree) (m : Guards) (n : ℕ) → IsReady old locals m (1 + nodes_of e + n) → Divides old new locals e m → IsReady new locals (first_branch m) n
ready_first old new locals e m n r h = record {
  places = λ id x is. divides_kept old new locals e m h x.place (r.places id x is);
  params = params_most old.params (length old.regs.items) new.params (length new.regs.items) r.params h.params h.registers;
  apart = apart_first m r.apart;
  some_run = some m.running m.free r.apart.running_in;
  some_loop = r.some_loop;
  some_stay = r.some_stay;
  masks = h.free;
  room = divided (length old.regs.items + old.masks) (length new.regs.items + new.masks) (nodes_of e) n r.room h.count;
}
  where
    some : (a b : ℕ) → a < b → 0 < b
    some a b l = omega (arith, l)

pub ready_second : (old new one : Emitter) (locals : List Local) (returned : Option Place) (e : Tree) (s : StmtTree) (m : Guards) (k : ℕ) → IsReady old locals m (1 + nodes_of e + stmt_nodes s + k) → Divides old new locals e m →
    CompilesBranch new one locals returned s (first_branch m) → IsReady one locals (second_branch m) k
ready_second old new one locals returned e s m k r h b = record {
  places = λ id x is. b.kept x.place (divides_kept old new locals e m h x.place (r.places id x is));
  params = params_most new.params (length new.regs.items) one.params (length one.regs.items) (params_most old.params (length old.regs.items) new.params (length new.regs.items) r.params h.params h.registers) b.grown.params b.grown.registers;
  apart = apart_second m r.apart;
  some_run = omega arith;
  some_loop = r.some_loop;
  some_stay = r.some_stay;
  masks = most_two (m.free + 2) new.masks one.masks h.free b.grown.masks;
  room = divided_later (length old.regs.items + old.masks) (length new.regs.items + new.masks) (length one.regs.items + one.masks) (nodes_of e) (stmt_nodes s) k r.room h.count b.grown.count;
}

-- ---- what has come

pub grown_all : (a b c : Emitter) (n k : ℕ) → HasGrown a b n → HasGrown b c k → HasGrown a c (n + k)
grown_all a b c n k h l = record {
  params = l.params ∙ h.params;
  slots = l.slots ∙ h.slots;
  masks = most_two a.masks b.masks c.masks h.masks l.masks;
  registers = most_two (length a.regs.items) (length b.regs.items) (length c.regs.items) h.registers l.registers;
  count = all_count (length a.regs.items + a.masks) (length b.regs.items + b.masks) (length c.regs.items + c.masks) n k h.count l.count;
}

pub grown_block : (a b : Emitter) (n : ℕ) → HasGrown a b n → HasGrown a b (1 + n)
grown_block a b n h = record { params = h.params; slots = h.slots; masks = h.masks; registers = h.registers; count = one_more_count (length a.regs.items + a.masks) (length b.regs.items + b.masks) n h.count }

pub grown_none : (e : Emitter) → HasGrown e e 0
grown_none e = record { params = refl; slots = refl; masks = omega arith; registers = omega arith; count = omega arith }

pub grown_if : (old new one two : Emitter) (locals : List Local) (e : Tree) (m : Guards) (n : ℕ) → Divides old new locals e m → HasGrown new one n → HasBase one two 0 → HasGrown old two (1 + nodes_of e + n)
grown_if old new one two locals e m n h b u = record {
  params = u.params ∙ (b.params ∙ h.params);
  slots = u.slots ∙ (b.slots ∙ h.slots);
  masks = most_same old.masks one.masks two.masks (most_two old.masks new.masks one.masks h.masks b.masks) u.masks;
  registers = most_two (length old.regs.items) (length one.regs.items) (length two.regs.items) (most_two (length old.regs.items) (length new.regs.items) (length one.regs.items) h.registers b.registers) u.least;
  count = if_count (length old.regs.items + old.masks) (length new.regs.items + new.masks) (length one.regs.items + one.masks) (length one.regs.items) one.masks (length two.regs.items) two.masks (nodes_of e) n h.count b.count refl u.most u.masks;
}

pub grown_if_else : (old new one two last : Emitter) (locals : List Local) (e : Tree) (m : Guards) (n k : ℕ) → Divides old new locals e m → HasGrown new one n → HasGrown one two k → HasBase two last 0 → HasGrown old last (1 + nodes_of e + n + k)
grown_if_else old new one two last locals e m n k h b c u = record {
  params = u.params ∙ (c.params ∙ (b.params ∙ h.params));
  slots = u.slots ∙ (c.slots ∙ (b.slots ∙ h.slots));
  masks = most_same old.masks two.masks last.masks (most_two old.masks one.masks two.masks (most_two old.masks new.masks one.masks h.masks b.masks) c.masks) u.masks;
  registers = most_two (length old.regs.items) (length two.regs.items) (length last.regs.items)
      (most_two (length old.regs.items) (length one.regs.items) (length two.regs.items) (most_two (length old.regs.items) (length new.regs.items) (length one.regs.items) h.registers b.registers) c.registers) u.least;
  count = if_else_count (length old.regs.items + old.masks) (length new.regs.items + new.masks) (length one.regs.items + one.masks) (length two.regs.items + two.masks) (length two.regs.items) two.masks (length last.regs.items) last.masks
      (nodes_of e) n k h.count b.count c.count refl u.most u.masks;
}
