-- The forms of items with their texts grouped to the left, as they are read.
use Rattle.std.proofs.Common.{◌≡◌, ℕ, max, Bool, true, false, List, [], ◌∷◌, ◌++◌, Option, Some, refl, sym, ap, ◌∙◌, subst, append_assoc, append-nil}
use Rattle.vk_types.specs.declared.types.Ty.{Ty}
use Rattle.vk_kinds.specs.declared.heads.CType.{CType}
use Rattle.vk_kinds.specs.declared.heads.CType.TheVariants as ctype
use Rattle.vk_ast.specs.declared.items.ParamDecl.{ParamDecl}
use Rattle.vk_ast.specs.Tree.{Tree}
use Rattle.vk_ast.specs.Statements.{StmtTree}
use Rattle.vk_ast.specs.Directives.{DirectiveTree}
use Rattle.vk_ast.specs.Units.{ItemTree}
use Rattle.vk_tokens.specs.declared.tokens.Mark.TheVariants as mark
use Rattle.vk_grammar_expr.specs.declared.symbols.Sym.{Sym}
use Rattle.vk_grammar_expr.specs.declared.symbols.SymKind.TheVariants as kind
use Rattle.vk_grammar_expr.specs.declared.symbols.Keyword.TheVariants as keyword
use Rattle.vk_grammar_expr.specs.Symbols.{line_at, number_at, Is, IsSign}
use Rattle.vk_grammar_expr.specs.Types.{type_in}
use Rattle.vk_grammar_expr.specs.Grammar.{full, Spells}
use Rattle.vk_grammar_expr.proofs.Sound.{IsTypeText}
use Rattle.vk_grammar_stmt.specs.Words.{IsKeyword, has_const}
use Rattle.vk_grammar_stmt.specs.Trees.{Clauses, directive_at}
use Rattle.vk_grammar_stmt.specs.Grammar.{IsOptional}
use Rattle.vk_grammar_stmt.proofs.Signs.{as_text, Parted}
use Rattle.vk_grammar_stmt.proofs.Forms.{type_parted}
use Rattle.vk_grammar_unit.specs.Items.{Named, pointer_to, with_name, function_tree, ObjectType, Initial, lost_lines}
use Rattle.vk_grammar_unit.specs.Grammar.{IsName, IsExtern, AreLines, AreQualifiers, IsParamRest, an_array, IsParam, a_param, AreMoreParams, IsBody, IsFunction, a_function, AreParams, IsInitial, a_scalar, a_list, AreValues, IsObject, AreMoreObjects, AreObjects, objects, IsItem, void_function, int_function, some_objects, AreItems, next_item}

pub text_parted : {c v : List Sym} → IsTypeText c v → Parted v
text_parted {v = v} t = subst Parted (append-nil v) (type_parted [] t.type)

-- one line of a directive
pub data IsLine (clauses : Clauses) : DirectiveTree → List Sym → Type 0 where
  one_line : {n : ℕ} {t : Sym} → Is (kind.Simdfn n) t → IsLine clauses (directive_at clauses t n) (t ∷ [])

-- ---- parameters

pub record QualifierText (q u : List Sym) : Type 0 where
  pub same : q ≡ u
  pub are : AreQualifiers u

pub array_as : {l k : ℕ} {ty : Ty} {fixed : Bool} {n : Named} {x : List Sym} {u : Sym} {c : Option Tree} {h : ℕ} {y : List Sym} → IsName n x → IsSign mark.OpenBracket u → IsOptional mark.CloseBracket c h y
    → IsParamRest l k ty fixed (with_name n (pointer_to ty fixed) false) h ((x ++ (u ∷ [])) ++ y)
array_as {l} {k} {ty} {fixed} {x = x} {u = u} {y = y} n i o = as_text (IsParamRest l k ty fixed) (sym (append_assoc x (u ∷ []) y)) (an_array n i o)

pub param_as : {c v : List Sym} {p : ParamDecl} {h : ℕ} {x : List Sym} → IsTypeText c v → IsParamRest (line_at v) (number_at v) (type_in c) (has_const c) p h x → IsParam p h (v ++ x)
param_as {c} {v} {p} {h} {x} t d = a_param t.type (subst (λ q. IsParamRest (line_at v) (number_at v) (type_in q) (has_const q) p h x) t.same d)

-- a parameter behind a comma
pub data IsLaterParam : ParamDecl → ℕ → List Sym → Type 0 where
  later_param : {t : Sym} {p : ParamDecl} {h : ℕ} {x : List Sym} → IsSign mark.Comma t → IsParam p h x → IsLaterParam p h (t ∷ x)

pub param_joined : {p : ParamDecl} {h : ℕ} {list : List ParamDecl} {k : ℕ} {x y : List Sym} → IsLaterParam p h x → AreMoreParams list k y → AreMoreParams (p ∷ list) (max h k) (x ++ y)
param_joined (later_param i d) b = AreMoreParams.one_more i d b

-- ---- functions

pub function_as : {clauses : Clauses} {lines : List DirectiveTree} {result : CType} {n : Named} {u : Sym} {params : List ParamDecl} {h : ℕ} {x : List Sym} {v : Sym} {body : Option StmtTree} {k : ℕ} {y : List Sym}
    → IsSign mark.OpenParen u → AreParams params h x → IsSign mark.CloseParen v → IsBody clauses params body k y → IsFunction clauses lines result n (function_tree n lines result params body) (max h k) (u ∷ ((x ++ (v ∷ [])) ++ y))
function_as {clauses} {lines} {result} {n} {u} {x = x} {v = v} {y = y} i p j b = as_text (IsFunction clauses lines result n) (ap (λ z. u ∷ z) (sym (append_assoc x (v ∷ []) y))) (a_function i p j b)

-- a function as a list of items
pub data IsOneFunction (clauses : Clauses) (lines : List DirectiveTree) (result : CType) (n : Named) : List ItemTree → ℕ → List Sym → Type 0 where
  one_function : {i : ItemTree} {h : ℕ} {x : List Sym} → IsFunction clauses lines result n i h x → IsOneFunction clauses lines result n (i ∷ []) h x

-- ---- objects

pub data IsScalar : Initial → ℕ → List Sym → Type 0 where
  scalar : {e : Tree} {h : ℕ} {x : List Sym} → Spells full e h x → IsScalar (record { items = Some (e ∷ []); braced = false; line = line_at x; token = number_at x }) h x

pub data IsBraced : Initial → ℕ → List Sym → Type 0 where
  braced : {u : Sym} {list : List Tree} {h : ℕ} {x : List Sym} {v : Sym} → IsSign mark.OpenBrace u → AreValues list h x → IsSign mark.CloseBrace v
      → IsBraced (record { items = Some list; braced = true; line = u.line; token = u.at }) h (u ∷ (x ++ (v ∷ [])))

pub scalar_initial : {t : Sym} {i : Initial} {h : ℕ} {x : List Sym} → IsSign mark.Assign t → IsScalar i h x → IsInitial i h (t ∷ x)
scalar_initial i (scalar s) = a_scalar i s

pub braced_initial : {t : Sym} {i : Initial} {h : ℕ} {x : List Sym} → IsSign mark.Assign t → IsBraced i h x → IsInitial i h (t ∷ x)
braced_initial i (braced u d v) = a_list i u d v

pub data IsLaterObject (of : ObjectType) : ItemTree → ℕ → List Sym → Type 0 where
  later_object : {t : Sym} {n : Named} {x : List Sym} {i : ItemTree} {h : ℕ} {y : List Sym} → IsSign mark.Comma t → IsName n x → IsObject of n i h y → IsLaterObject of i h (t ∷ (x ++ y))

pub object_joined : {of : ObjectType} {i : ItemTree} {h : ℕ} {list : List ItemTree} {k : ℕ} {x y : List Sym} → IsLaterObject of i h x → AreMoreObjects of list k y → AreMoreObjects of (i ∷ list) (max h k) (x ++ y)
object_joined (later_object i n d) b = AreMoreObjects.one_more i n d b

pub objects_as : {of : ObjectType} {n : Named} {i : ItemTree} {h : ℕ} {x : List Sym} {list : List ItemTree} {k : ℕ} {y : List Sym} {v : Sym} → IsObject of n i h x → AreMoreObjects of list k y → IsSign mark.Semicolon v
    → AreObjects of n (i ∷ list) (max h k) ((x ++ y) ++ (v ∷ []))
objects_as {of} {n} {x = x} {y = y} {v = v} d b j = as_text (AreObjects of n) (sym (append_assoc x y (v ∷ []))) (objects d b j)

-- the lines before objects are items of their own
pub data AreLostObjects (lines : List DirectiveTree) (of : ObjectType) (n : Named) : List ItemTree → ℕ → List Sym → Type 0 where
  lost_objects : {list : List ItemTree} {h : ℕ} {x : List Sym} → AreObjects of n list h x → AreLostObjects lines of n (lost_lines lines ++ list) h x

-- ---- items

abbrev pub type_of_objects : List Sym → Bool → ObjectType
type_of_objects c outside = record { ty = type_in c; fixed = has_const c; outside = outside }

module _ {clauses : Clauses} {lines : List DirectiveTree} where
  pub void_as : {outside : Bool} {o : List Sym} {t : Sym} {n : Named} {x : List Sym} {list : List ItemTree} {h : ℕ} {y : List Sym} → IsExtern outside o → IsKeyword keyword.Void t → IsName n x
      → IsOneFunction clauses lines ctype.Void n list h y → IsItem clauses lines list h (((o ++ (t ∷ [])) ++ x) ++ y)
  void_as {o = o} {t = t} {x = x} {y = y} e i n (one_function f) = as_text (IsItem clauses lines) (sym (append_assoc (o ++ (t ∷ [])) x y ∙ append_assoc o (t ∷ []) (x ++ y))) (void_function e i n f)

  pub int_as : {outside : Bool} {o c v : List Sym} {n : Named} {x : List Sym} {list : List ItemTree} {h : ℕ} {y : List Sym} → IsExtern outside o → IsTypeText c v → IsName n x
      → IsOneFunction clauses lines (ctype.Int (type_in c)) n list h y → IsItem clauses lines list h (((o ++ v) ++ x) ++ y)
  int_as {outside} {o} {c} {v} {n} {x} {list} {h} {y} e t m d = go (subst (λ q. IsOneFunction clauses lines (ctype.Int (type_in q)) n list h y) t.same d)
    where
      go : {list : List ItemTree} {h : ℕ} {y : List Sym} → IsOneFunction clauses lines (ctype.Int (type_in v)) n list h y → IsItem clauses lines list h (((o ++ v) ++ x) ++ y)
      go (one_function {x = y} f) = as_text (IsItem clauses lines) (sym (append_assoc (o ++ v) x y ∙ append_assoc o v (x ++ y))) (int_function e t.type m f)

  pub objects_item : {outside : Bool} {o c v : List Sym} {n : Named} {x : List Sym} {list : List ItemTree} {h : ℕ} {y : List Sym} → IsExtern outside o → IsTypeText c v → IsName n x
      → AreLostObjects lines (type_of_objects c outside) n list h y → IsItem clauses lines list h (((o ++ v) ++ x) ++ y)
  objects_item {outside} {o} {c} {v} {n} {x} {list} {h} {y} e t m d = go (subst (λ q. AreLostObjects lines (type_of_objects q outside) n list h y) t.same d)
    where
      go : {list : List ItemTree} {h : ℕ} {y : List Sym} → AreLostObjects lines (type_of_objects v outside) n list h y → IsItem clauses lines list h (((o ++ v) ++ x) ++ y)
      go (lost_objects {x = y} f) = as_text (IsItem clauses lines) (sym (append_assoc (o ++ v) x y ∙ append_assoc o v (x ++ y))) (some_objects e t.type m f)

  pub items_as : {x : List Sym} {list : List ItemTree} {h : ℕ} {y : List Sym} {rest : List ItemTree} {k : ℕ} {z : List Sym} → AreLines clauses lines x → IsItem clauses lines list h y → AreItems clauses rest k z
      → AreItems clauses (list ++ rest) (max h k) ((x ++ y) ++ z)
  items_as {x} {y = y} {z = z} a b c = as_text (AreItems clauses) (sym (append_assoc x y z)) (next_item a b c)

-- ---- no item is empty

pub part_behind : (o : List Sym) {x : List Sym} → Parted x → Parted (o ++ x)
part_behind [] p = p
part_behind (t ∷ o) {x} p = record { first = t; others = o ++ x; parts = refl }

pub item_parted : {clauses : Clauses} {lines : List DirectiveTree} {list : List ItemTree} {h : ℕ} {x : List Sym} → IsItem clauses lines list h x → Parted x
item_parted (void_function {o = o} {t = t} {x = x} {y = y} e i n f) = part_behind o (record { first = t; others = x ++ y; parts = refl })
item_parted (int_function {o = o} {x = x} {y = y} e t n f) = part_behind o (type_parted (x ++ y) t)
item_parted (some_objects {o = o} {x = x} {y = y} e t n f) = part_behind o (type_parted (x ++ y) t)
