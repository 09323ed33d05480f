-- What has come behind, with all that is needed to go on.
use Rattle.std.proofs.Common.{arith, sym, ◌≡◌, ℕ, ◌+◌, Bool, not, List, [], ◌∷◌, ◌++◌, refl, subst, Option, Some, None, is_some, IsTrue, Result, Ok, Err, OnOk, true≢false}
use Rattle.vk_types.specs.declared.types.Ty.{Ty}
use Rattle.vk_ast.specs.declared.names.NameId.{NameId}
use Rattle.vk_ast.specs.Statements.{StmtTree, empty, local, optional_nodes, stmt_nodes}
use Rattle.vk_ast.specs.Tree.{Tree}
use Rattle.vk_construct_statements.specs.Follows.{Guards}
use Rattle.vk_flat.specs.declared.emitter.Emitter.{Emitter}
use Rattle.vk_flat.specs.declared.emitter.Place.{Place}
use Rattle.vk_flat.specs.declared.locals.Local.{Local}
use Rattle.vk_flat.specs.Emitters.{IsPlace, written_of}
use Rattle.vk_flat.specs.Locals.{ArePlaces}
use Rattle.vk_flat_statements.specs.Frames.{AreBehind, HasGrown, IsReady, return_place}
use Rattle.vk_flat_statements.specs.Statements.{Compiles, EmitsStatement}
use Rattle.vk_flat_statements.proofs.Alike.{places_more}
use Rattle.vk_flat_statements.proofs.Jumping.{empty_emits}

pub on_both : {A E : Type 0} {P Q R : Type 0} → (r : Result A E) → (P → Q → R) → OnOk r P → OnOk r Q → OnOk r R
on_both (Ok a) f p q = f p q
on_both (Err e) f p q = p

-- nothing is declared
pub compiled : (old new : Emitter) (xs locals : List Local) (returned : Option Place) (s : StmtTree) (m : Guards) → xs ≡ locals → AreBehind xs s xs → ArePlaces (written_of old) locals →
    EmitsStatement (written_of old) (written_of new) xs xs (return_place returned) s m 0 → HasGrown old new (stmt_nodes s) → Compiles old new locals locals returned s m
compiled old new xs locals returned s m e b p h g = subst (λ l. Compiles old new l l returned s m) e
    (record { code = h; places = λ id x is. h.kept x.place (subst (ArePlaces (written_of old)) (sym e) p id x is); names = b; grown = g })

pub compiled_local : (old new : Emitter) (xs ys : List Local) (returned : Option Place) (l k : ℕ) (t : Ty) (fixed : Bool) (id : NameId) (init : Option Tree) (m : Guards) (d : Place) → ys ≡ xs ++ record { name = id; place = d } ∷ [] → d.ty ≡ t →
    ArePlaces (written_of old) xs → IsPlace (written_of new) d → EmitsStatement (written_of old) (written_of new) xs ys (return_place returned) (local l k t fixed id init) m 0 → HasGrown old new (2 + optional_nodes init) →
    Compiles old new xs ys returned (local l k t fixed id init) m
compiled_local old new xs ys returned l k t fixed id init m d e et p here h g = record {
  code = h;
  places = places_more (written_of new) xs ys id d e (λ i x is. h.kept x.place (p i x is)) here;
  names = record { place = d; ty = et; names = e };
  grown = g;
}

pub compiled_empty : (e : Emitter) (locals : List Local) (returned : Option Place) (l k n : ℕ) (m : Guards) → IsReady e locals m n → Compiles e e locals locals returned (empty l k) m
compiled_empty e locals returned l k n m r = compiled e e locals locals returned (empty l k) m refl refl r.places (empty_emits (written_of e) locals l k (return_place returned) m r.apart)
    (record { params = refl; slots = refl; masks = omega arith; registers = omega arith; count = omega arith })

-- `return;` stands in functions that return nothing
pub none_returned : (o : Option Place) → IsTrue (not (is_some o)) → None ≡ o
none_returned None h = refl
none_returned (Some x) h = absurd (true≢false (sym h))
