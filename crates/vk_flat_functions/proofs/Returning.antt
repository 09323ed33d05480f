-- The code of an expression, converted to the result's type, is the function's.
use Rattle.std.proofs.Common.{arith, rules, sym, ◌≡◌, ℕ, ◌+◌, ◌*◌, ◌≤◌, true, List, [], ◌∷◌, ◌++◌, length, take, Option, Some, None, refl, subst, ap, ◌∙◌}
use Rattle.std.specs.List.{list_all}
use Rattle.std.specs.Option.{option_and_then}
use Rattle.std.proofs.lemmas.List.{length-map}
use Rattle.std.proofs.lemmas.Option.{none-some}
use Rattle.vk_types.specs.declared.types.Ty.{Ty}
use Rattle.vk_kinds.specs.declared.kinds.Target.TheVariants.{X86}
use Rattle.vk_kinds.specs.declared.heads.CType.{CType}
use Rattle.vk_kinds.specs.declared.heads.CType.TheVariants.{Int}
use Rattle.vk_ast.specs.Statements.{StmtTree, StmtTrees, all_stmt_nodes, block, empty, more_stmts, no_stmts, return_value, stmt_nodes}
use Rattle.vk_ast.specs.Tree.{Tree, binary, call, cast, choice, int, name, unary, index, deref, addr, nodes_of}
use Rattle.vk_ast.specs.Units.{FunctionTree, body_nodes}
use Rattle.vk_rules_book.specs.Scopes.{file_scope, types_of}
use Rattle.vk_meaning.specs.Programs.{Definition}
use Rattle.vk_code.specs.Listing.{Listing}
use Rattle.vk_construct.specs.Adds.{AddsValue, HasType, Written}
use Rattle.vk_construct.specs.Trees.{param_table}
use Rattle.vk_construct.proofs.Adding.{no_fewer}
use Rattle.vk_construct.proofs.Names.{params_table}
use Rattle.vk_construct_whole.specs.Wholes.{IsFinished, body_scope, param_types, returned_value, started}
use Rattle.vk_construct_whole.proofs.Definitions.{body_good, scope_types}
use Rattle.vk_one_return.specs.Form.{IsReturn, IsSmall, returned_alone, returned_by, returned_in}
use Rattle.vk_flat.specs.declared.emitter.Place.{Place}
use Rattle.vk_flat.specs.declared.emitter.Under.{Under}
use Rattle.vk_flat.specs.declared.locals.Local.{Local}
use Rattle.vk_flat.specs.Locals.{Emits}
use Rattle.vk_flat.specs.Values.{is_value}
use Rattle.vk_flat_functions.specs.Finished.{finished}
use Rattle.vk_flat_functions.specs.Params.{AreParams}
use Rattle.vk_flat_functions.specs.Returns.{HasParams, IsLaneCode, IsReturnCode, IsShort}
use Rattle.vk_flat_functions.proofs.Locals.{locals, named}

-- ---- sizes

some_nodes : (e : Tree) → 1 ≤ nodes_of e
some_nodes (int l k t n) = omega arith
some_nodes (name l k id) = omega arith
some_nodes (cast l k t a) = omega arith
some_nodes (unary l k op a) = omega arith
some_nodes (binary l k op a b) = omega arith
some_nodes (choice l k c a b) = omega arith
some_nodes (index l k a b) = omega arith
some_nodes (deref l k a) = omega arith
some_nodes (addr l k a) = omega arith
some_nodes (call l k id es) = omega arith

by_small : (s : StmtTree) (e : Tree) → returned_by s ≡ Some e → nodes_of e ≤ stmt_nodes s
by_small (return_value l k None) e h = absurd (none-some e h)
by_small (return_value l k (Some x)) e h = let same : x ≡ e = cc in omega (arith, ap nodes_of same)
by_small s e h = absurd (none-some e h)

alone_small : (ss : StmtTrees) (e : Tree) → returned_alone ss ≡ Some e → nodes_of e ≤ all_stmt_nodes ss
alone_small no_stmts e h = absurd (none-some e h)
alone_small (more_stmts s no_stmts) e h = omega (arith, by_small s e h)
alone_small (more_stmts s (more_stmts t ss)) e h = absurd (none-some e h)

in_small : (s : StmtTree) (e : Tree) → returned_in s ≡ Some e → nodes_of e ≤ stmt_nodes s
in_small (block l k ss) e h = omega (arith, alone_small ss e h)
in_small s e h = absurd (none-some e h)

body_small : (body : Option StmtTree) (e : Tree) → option_and_then returned_in body ≡ Some e → nodes_of e ≤ body_nodes body
body_small None e h = absurd (none-some e h)
body_small (Some s) e h = in_small s e h

-- the expression that a small function returns is small
pub value_small : (f : FunctionTree) (e : Tree) (t : Ty) → IsReturn f e t → IsSmall f → nodes_of e ≤ 2000
value_small f e t r s = omega (arith, body_small f.body e r.body, s.nodes)

-- registers and masks of the code are few
pub few_registers : (params nodes registers masks before : ℕ) → params ≤ 64 → registers + masks ≤ before + 1 + 4 * nodes + 1 → before ≡ params → registers + masks ≤ 192 + 4 * nodes
few_registers params nodes registers masks before few count is = omega (arith, few, count, is)

-- how many there are behind the parameters'
pub count_from : (w : Written) (ts : List CType) (count nodes : ℕ) → w ≡ started ts → count ≤ length w.regs + w.masks + 4 * nodes + 1 → count ≤ length ts + 1 + 4 * nodes + 1
count_from w ts count nodes is le = subst (λ (v : Written). count ≤ length v.regs + v.masks + 4 * nodes + 1) is le

-- ---- what the code is

abbrev pub in_call : Under
in_call = record { mask = 0; free = 1 }

-- what has been written behind a definition's parameters
adds : (f : FunctionTree) (e : Tree) (t : Ty) (xs : List Local) (w : Written) (p : Place) → AreParams 0 f.params xs → p.ty ≡ t → Emits (started (types_of f.params)) w xs (cast 0 0 t e) p in_call →
    (d : Definition) → d.function ≡ f → AddsValue (started (param_types d)) w (param_table (body_scope d)) (returned_value d e t) (Int t) p.register 0 (length (param_types d)) 1 (8 * nodes_of (cast 0 0 t e))
adds f e t xs w p h ty emits d same = subst (λ v. AddsValue (started (param_types d)) w (param_table (body_scope d)) (returned_value d e t) (Int v) p.register 0 (length (param_types d)) 1 (8 * nodes_of (cast 0 0 t e))) ty
    (here.code (body_scope d) (param_table (body_scope d)) (locals (file_scope d.unit.texts d.items) d.function.params xs refl there)
    (params_table (started (param_types d)) (body_scope d) (sym (scope_types d (named 0 d.function.params xs there)))))
  where
    there : AreParams 0 d.function.params xs
    there = subst (λ (g : FunctionTree). AreParams 0 g.params xs) (sym same) h

    here : Emits (started (param_types d)) w xs (cast 0 0 t e) p in_call
    here = subst (λ (g : FunctionTree). Emits (started (types_of g.params)) w xs (cast 0 0 t e) p in_call) (sym same) emits

typed : (w : Written) (e : Tree) (t : Ty) (xs : List Local) (ts : List CType) (p : Place) → p.ty ≡ t → Emits (started ts) w xs (cast 0 0 t e) p in_call → HasType w p.register t
typed w e t xs ts p ty emits = subst (λ v. HasType w p.register v) ty emits.place

whole : (w : Written) (r : ℕ) → IsFinished (finished w r).routine w (Some r)
whole w r = record { params = refl; regs = refl; masks = refl; slots = refl; instrs = refl; result = refl }

pub returns_code : (f : FunctionTree) (e : Tree) (t : Ty) (xs : List Local) (w : Written) (p : Place) (c : Listing) → c ≡ finished w p.register → AreParams 0 f.params xs → p.ty ≡ t →
    Emits (started (types_of f.params)) w xs (cast 0 0 t e) p in_call → IsReturnCode f e t c
returns_code f e t xs w p c is h ty emits = subst (IsReturnCode f e t) (sym is) (record {
  written = w;
  register = p.register;
  size = 8 * nodes_of (cast 0 0 t e);
  adds = adds f e t xs w p h ty emits;
  typed = typed w e t xs (types_of f.params) p ty emits;
  finished = whole w p.register;
})

-- ---- the code by itself

-- a definition of the function
abbrev some_definition : FunctionTree → Definition
some_definition f = record { unit = record { items = []; texts = []; target = X86 }; items = []; function = f; body = empty 0 0 }

first_ones : (xs ys : List CType) → take (length xs) (xs ++ ys) ≡ xs
first_ones [] ys = search rules
first_ones (x ∷ xs) ys = ap (λ l. x ∷ l) (first_ones xs ys)

pub lane_code : (f : FunctionTree) (e : Tree) (t : Ty) (xs : List Local) (w : Written) (p : Place) (c : Listing) → c ≡ finished w p.register → AreParams 0 f.params xs → p.ty ≡ t →
    Emits (started (types_of f.params)) w xs (cast 0 0 t e) p in_call → w.slots ≡ [] → list_all is_value w.regs ≡ true → IsLaneCode c
lane_code f e t xs w p c is h ty emits slots values = subst IsLaneCode (sym is) (record {
  lanes = refl;
  slots = slots;
  no_loops = refl;
  loops = refl;
  params = omega (arith, a.params, no_fewer (started (types_of f.params)) w _ (8 * nodes_of (cast 0 0 t e)) 0 a);
  values = values;
  masks = a.masks;
  result = (p.register, t, refl, typed w e t xs (types_of f.params) p ty emits);
  good = λ environment. body_good (types_of f.params) w _ (8 * nodes_of (cast 0 0 t e)) 0 environment (finished w p.register).routine (Some p.register) a (omega arith) (whole w p.register);
})
  where
    a : AddsValue (started (types_of f.params)) w (param_table (body_scope (some_definition f))) (returned_value (some_definition f) e t) (Int t) p.register 0 (length (types_of f.params)) 1 (8 * nodes_of (cast 0 0 t e))
    a = adds f e t xs w p h ty emits (some_definition f) refl

pub has_params : (f : FunctionTree) (e : Tree) (t : Ty) (xs : List Local) (w : Written) (p : Place) (c : Listing) → c ≡ finished w p.register → AreParams 0 f.params xs → p.ty ≡ t →
    Emits (started (types_of f.params)) w xs (cast 0 0 t e) p in_call → HasParams (types_of f.params) c
has_params f e t xs w p c is h ty emits = subst (HasParams (types_of f.params)) (sym is) (record {
  count = a.params;
  types_are = ap (λ n. take n w.regs) a.params ∙ (ap (take (length (types_of f.params))) a.regs ∙ first_ones (types_of f.params) a.types);
})
  where
    a : AddsValue (started (types_of f.params)) w (param_table (body_scope (some_definition f))) (returned_value (some_definition f) e t) (Int t) p.register 0 (length (types_of f.params)) 1 (8 * nodes_of (cast 0 0 t e))
    a = adds f e t xs w p h ty emits (some_definition f) refl

pub short_code : (f : FunctionTree) (e : Tree) (t : Ty) (xs : List Local) (w : Written) (p : Place) (c : Listing) → c ≡ finished w p.register → AreParams 0 f.params xs → p.ty ≡ t →
    Emits (started (types_of f.params)) w xs (cast 0 0 t e) p in_call → length f.params ≤ 64 → length w.regs + w.masks ≤ length (types_of f.params) + 1 + 4 * nodes_of e + 1 → IsShort (nodes_of e) c
short_code f e t xs w p c is h ty emits few count = subst (IsShort (nodes_of e)) (sym is) (record {
  registers = few_registers (length f.params) (nodes_of e) (length w.regs) w.masks (length (types_of f.params)) few count (length-map f.params (λ p. p.ctype));
  instrs = short_instrs (length w.instrs) (length a.piece) (nodes_of e) (ap length a.instrs) a.short (some_nodes e);
})
  where
    a : AddsValue (started (types_of f.params)) w (param_table (body_scope (some_definition f))) (returned_value (some_definition f) e t) (Int t) p.register 0 (length (types_of f.params)) 1 (8 * nodes_of (cast 0 0 t e))
    a = adds f e t xs w p h ty emits (some_definition f) refl

    short_instrs : (all piece nodes : ℕ) → all ≡ piece → piece ≤ 8 * (1 + nodes) → 1 ≤ nodes → all ≤ 16 * nodes
    short_instrs all piece nodes same le some = omega (arith, same, le, some)
