-- What the caller's object tells of a called function is what its definition says.
use Rattle.std.proofs.Common.{◌≡◌, ◌⊎◌, inl, inr, ℕ, Bool, true, false, cond, List, [], Contains, Option, Some, None, is_some, bytes_eq, codes, slice_get, refl, sym, ap, subst, ◌∙◌, arith}
use Rattle.std.specs.Option.{option_map}
use Rattle.std.proofs.lemmas.Slice.Eq.{bytes_eq-Decides}
use Rattle.vk_kinds.specs.Sizes.{SignatureTree}
use Rattle.vk_rules_book.specs.Rules.{Subject}
use Rattle.vk_rules_book.specs.Signatures.{head_of}
use Rattle.vk_meaning.specs.Programs.{Definition, definition_of}
use Rattle.vk_code.specs.Listing.{CallSite}
use Rattle.vk_object.specs.Objects.{FunctionLists}
use Rattle.vk_agree.specs.Units.{IsAccepted, definition_in, function_in, signatures_in}
use Rattle.vk_joins.specs.Carries.{AreAccepted, HaveTables, Pair, units_of}
use Rattle.vk_joins.specs.Links.{Defines, DefinesFunction, DoUnitsLink, Table, callees_of, table_of_unit}
use Rattle.vk_joins.specs.Tables.{declared_as, declared_in_unit, declared_of_row, symbol_of}
use Rattle.vk_joins_laws.proofs.Accepted.{print_undefined}
use Rattle.vk_compose.proofs.Bridge.{defined_by, is_defined, unit_defined}
use Rattle.vk_compose.proofs.Compose.{definer, table_in, tables_of}
use Rattle.vk_joins_laws.proofs.Lists.{unmap}
use Rattle.vk_compose.proofs.Plans.{among, row_found, some_definition}
use Rattle.vk_promises.specs.Places.{TellsOf}
use Rattle.vk_settings.specs.Programs.{IsTold}
use Rattle.vk_settings.proofs.Heads.{HasHead, defined_in_unit, has_head}

-- what a unit that defines a function declares
pub declared_there : (v : Subject) → IsAccepted v → (g : List ℕ) (f : Definition) → definition_in g v ≡ Some f → (h : HasHead g v f) → declared_in_unit v g ≡ Some (declared_as v g h.first)
declared_there v accepted g f e h = at (bytes_eq g (codes "print")) refl
  where
    no : (o : Option Definition) → o ≡ None → o ≡ Some f → ⊥
    no None a b = cc
    no (Some x) a b = cc

    at : (b : Bool) → bytes_eq g (codes "print") ≡ b → cond b None (option_map (declared_as v g) (function_in g v)) ≡ Some (declared_as v g h.first)
    at true k = absurd (no (definition_in g v) (subst (λ (t : List ℕ). definition_in t v ≡ None) (sym ((bytes_eq-Decides g (codes "print")).0 k)) (print_undefined v accepted)) e)
    at false k = ap (option_map (declared_as v g)) h.is

module _ (ps : List Pair) (accepted : AreAccepted ps) (tables : HaveTables ps) (links : DoUnitsLink (units_of ps))
    (one_target : (p q : Pair) → Contains ps p → Contains ps q → p.object.target ≡ q.object.target) where
  module _ (p : Pair) (p_in : Contains ps p) (slot : CallSite) (row : FunctionLists) (at_slot : slice_get p.object.functions slot.function ≡ Some row) where
    abbrev g : List ℕ
    g = symbol_of p.object row.symbol

    -- the caller's unit declares it so
    pub declared_here : declared_in_unit p.unit g ≡ Some (declared_of_row row)
    declared_here =
        sym ((tables p p_in).functions g) ∙
        ap (option_map declared_of_row) (row_found p.object row (tables p p_in).one_row (among p.object.functions slot.function row at_slot))

    -- the definition's unit, which is one of the program
    tells_by : (f : Definition) (q : Pair) → Contains ps q → definition_in g q.unit ≡ Some f → TellsOf p.object slot g f
    tells_by f q q_in e = record {
      row = row;
      at = at_slot;
      target = one_target p q p_in q_in ∙ ((tables q q_in).target ∙ ap (λ (u : Subject). u.target) (sym (defined_in_unit g q.unit f e).unit_is));
      head = row_head ∙ sym h.head;
      signatures = signs;
    }
      where
        h : HasHead g q.unit f
        h = has_head g q.unit (accepted q q_in) f e

        defines : DefinesFunction (table_of_unit q.unit) g (declared_as q.unit g h.first)
        defines = (declared_there q.unit (accepted q q_in) g f e h, ap is_some e)

        row_head : row.head ≡ head_of h.first
        row_head =
            let same = links.functions (table_of_unit p.unit) (table_of_unit q.unit) (table_in ps p p_in) (table_in ps q q_in) g (declared_of_row row) (declared_as q.unit g h.first) declared_here defines in
            λ i. record { result = same.result i; params = same.params i }

        signs : (s : SignatureTree) → Contains row.directives s → Contains (signatures_in g f.unit) s
        signs s c =
            either (links.directives (table_of_unit p.unit) (table_of_unit q.unit) (table_in ps p p_in) (table_in ps q q_in) g (declared_of_row row) (declared_as q.unit g h.first) declared_here defines)
          where
            either : (row.directives ≡ []) ⊎ (row.directives ≡ signatures_in g q.unit) → Contains (signatures_in g f.unit) s
            either (inl k) = absurd (empty (subst (λ (ss : List SignatureTree). Contains ss s) k c))
              where
                empty : Contains [] s → ⊥
                empty n = omega (n.1, arith)
            either (inr k) =
                subst (λ (u : Subject). Contains (signatures_in g u) s) (sym (defined_in_unit g q.unit f e).unit_is) (subst (λ (ss : List SignatureTree). Contains ss s) k c)

    told_if : (o : Option Definition) → definition_of (units_of ps) g ≡ o → is_some o ≡ true → IsTold ps p slot g
    told_if None is k = cc
    told_if (Some f) is k = let x = definer ps g f is in record { definition = f; is = is; tells = tells_by f x.pair x.among x.defines }

    -- some unit defines the name, and as a function
    defined_somewhere : (t : Table) → Contains (tables_of ps) t → Defines t g → is_some (definition_of (units_of ps) g) ≡ true
    defined_somewhere t t_in (inr (e, defines)) = absurd (links.kinds (table_of_unit p.unit) t (table_in ps p p_in) t_in g (declared_of_row row) e declared_here defines)
    defined_somewhere t t_in (inl (e, defines)) =
        let a = unmap table_of_unit (units_of ps) t t_in in
        let b = unmap (λ (q : Pair). q.unit) ps a.of a.among in
        some_definition ps b.of g b.among
        (sym (unit_defined b.of.unit g (accepted b.of b.among)) ∙
        (ap (λ (u : Subject). is_defined (declared_in_unit u g)) b.is ∙ (ap (λ (x : Table). is_defined (x.function g)) a.is ∙ defined_by t g e defines)))

    -- THE CALLEE: where a function of the caller's unit calls this name
    pub callee_told : (text : List ℕ) (d : Definition) → definition_in text p.unit ≡ Some d → Contains (callees_of (Some d)) g → IsTold ps p slot g
    callee_told text d e c =
        let n = links.called (table_of_unit p.unit) (table_in ps p p_in) text g (subst (λ (o : Option Definition). Contains (callees_of o) g) (sym e) c) in
        told_if (definition_of (units_of ps) g) refl (defined_somewhere n.0 n.1 n.2)
