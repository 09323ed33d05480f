-- Expressions in the body of a function with directives are tame: the recursion over the trees.
use Rattle.std.proofs.Common.{◌≡◌, ◌⊎◌, inl, inr, Bool, true, false, ◌&&◌, not, ℕ, List, [], ◌∷◌, ◌++◌, Option, Some, None, refl, sym, ◌∙◌}
use Rattle.std.specs.List.{AllByRecursion}
use Rattle.vk_kinds.specs.declared.heads.CType.{CType}
use Rattle.vk_kinds.specs.declared.heads.CType.TheVariants.{Void, Int, Ptr}
use Rattle.vk_ast.specs.declared.names.NameId.{NameId}
use Rattle.vk_ast.specs.Tree.{Tree, Trees, int, name, index, deref, addr, unary, binary, choice, cast, call, no_trees, more_trees}
use Rattle.vk_numbers.specs.Types.{unary_type}
use Rattle.vk_rules_book.specs.declared.contexts.Around.{Around}
use Rattle.vk_rules_book.specs.declared.contexts.Role.{Role}
use Rattle.vk_rules_book.specs.declared.contexts.Role.TheVariants as role
use Rattle.vk_rules_book.specs.Expressions.{expression_faults, is_changing, is_free_pointer, is_plain_function, is_simd, is_written_parameter, lets_written, may_be_assigned, may_have_address}
use Rattle.vk_rules_book.specs.Rules.{Subject}
use Rattle.vk_rules_book.specs.Scopes.{Scope, meaning_of}
use Rattle.vk_rules_book.specs.Typings.{is_typed, left_role, number_type, right_role, typing_of, typings_of, wanted_types}
use Rattle.vk_rules_book.specs.Visits.{Visit, argument_visits, called, expression, is_zero, optional_visits, parts_of, visits_of, with_role}
use Rattle.vk_rules_laws.proofs.Each.{IsQuiet, back, front}
use Rattle.vk_rules_laws.proofs.Typed.{own_of, parts_typed, taken_by, typed_here}
use Rattle.vk_rules_laws.proofs.Visited.{name_quiet, object_quiet, place_quiet, plain_quiet}
use Rattle.vk_meaning.specs.Points.{Variable, variable_named}
use Rattle.vk_meaning.specs.Statements.{variable_of}
use Rattle.vk_meaning.specs.Types.{is_written_type}
use Rattle.vk_meaning_laws.specs.Tame.{AreTame, IsTame, IsTameArgument, IsTameOptional, IsTamePlace, IsTameTarget, is_written_name, is_written_variable}
use Rattle.vk_meaning_accepted.proofs.LaneScopes.{IsLaneScope, IsSeen, seen}
use Rattle.vk_meaning_accepted.proofs.Tame.{both_false, const_name, decide, held, is_written_cell, is_written_pointer, left_plain, name_cell, no_call, no_choice, no_element, no_number, no_pointed, no_target, not_both, right_plain, right_true, second_false, tame_callee, tame_name, written_address, written_argument, written_element, written_name, written_pointed, written_seen, written_sum, zero_is, cell_element, cell_pointed}

module _ (unit : Subject) (around : Around) (simd : is_simd around ≡ true) (lane : NameId → Bool) (scope : Scope) (l : IsLaneScope lane scope) where
  abbrev AreQuiet : List Visit → Type 0
  AreQuiet vs = AllByRecursion (IsQuiet unit) vs

  abbrev IsOwn : Role → Tree → Type 0
  IsOwn r e = expression_faults unit.texts around scope r e ≡ []

  -- ---- names

  still : (r : Role) (k n : ℕ) (id : NameId) → IsOwn r (name k n id) → is_changing (meaning_of scope id) ≡ false
  still r k n id own = second_false (is_simd around) (is_changing (meaning_of scope id)) simd (object_quiet unit.texts around scope r k n id own)

  free : (r : Role) (k n : ℕ) (id : NameId) → IsOwn r (name k n id) → is_free_pointer r (meaning_of scope id) ≡ false
  free r k n id own = second_false (is_simd around) (is_free_pointer r (meaning_of scope id)) simd (name_quiet unit.texts around scope r k n id own).1

  -- a written pointer stands only where it may
  lets : (r : Role) (e : Tree) → IsOwn r e → is_written_name scope e ≡ true → lets_written r ≡ true
  lets r (name k n id) own h =
      held (is_written_parameter (meaning_of scope id)) (lets_written r) (free r k n id own)
      (written_seen (lane id) (variable_named scope id) (meaning_of scope id) (seen lane scope id l) h)
  lets r (int k n t v) own h = cc
  lets r (index k n b s) own h = cc
  lets r (deref k n o) own h = cc
  lets r (addr k n o) own h = cc
  lets r (unary k n op o) own h = cc
  lets r (binary k n op a b) own h = cc
  lets r (choice k n c a b) own h = cc
  lets r (cast k n t o) own h = cc
  lets r (call k n id es) own h = cc

  plain_of : (b : Bool) → (b ≡ true → false ≡ true) → b ≡ false
  plain_of true h = sym (h refl)
  plain_of false h = refl

  plain : (r : Role) (e : Tree) → IsOwn r e → lets_written r ≡ false → is_written_name scope e ≡ false
  plain r e own shut = plain_of (is_written_name scope e) (λ h. sym shut ∙ lets r e own h)

  not_written : (r : Role) (e : Tree) → IsOwn r e → lets_written r ≡ false → is_written_name scope e ≡ true → ⊥
  not_written r e own shut h = not_both (is_written_name scope e) (plain r e own shut) h

  contradiction : {X : Type 0} (b : Bool) → b ≡ false → b ≡ true → X
  contradiction b h k = absurd (not_both b h k)

  -- ---- what is typed as a written pointer is the name of one

  mutual
    only_name : (addressed : Bool) (e : Tree) (r : Role) → AreQuiet (parts_of around scope addressed e) → IsOwn r e → is_written_pointer (typing_of scope e) ≡ true
        → is_written_name scope e ≡ true
    only_name addressed (int k n t v) r q own h = cc
    only_name addressed (name k n id) r q own h = written_name (lane id) (variable_named scope id) (meaning_of scope id) (seen lane scope id l) (still r k n id own) h
    only_name addressed (index k n b s) r q own h = contradiction (is_written_pointer (typing_of scope (index k n b s))) (no_element (typing_of scope b) (typing_of scope s)) h
    only_name addressed (deref k n o) r q own h = contradiction (is_written_pointer (typing_of scope (deref k n o))) (no_pointed (typing_of scope o)) h
    only_name addressed (addr k n o) r q own h =
        let parts = parts_of around scope true o in
        contradiction (is_written_cell (typing_of scope o)) (no_cell o (front (IsQuiet unit) parts (expression around scope role.Address o ∷ []) q) (own_of unit around scope l.fits role.Address o parts q))
        (written_address (typing_of scope o) h)
    only_name addressed (unary k n op o) r q own h =
        contradiction (is_written_pointer (typing_of scope (unary k n op o))) (no_number (number_type (typing_of scope o)) (λ t. unary_type op t)) h
    only_name addressed (binary k n op a b) r q own h =
        let in_a = parts_of around scope false a in
        let in_b = parts_of around scope false b in
        let ra = left_role op (typing_of scope a) (typing_of scope b) in
        let rb = right_role op (typing_of scope a) (typing_of scope b) in
        let two = expression around scope ra a ∷ (expression around scope rb b ∷ []) in
        let rest = back (IsQuiet unit) in_a (in_b ++ two) q in
        let qs = back (IsQuiet unit) in_b two rest in
        elim (written_sum op (typing_of scope a) (typing_of scope b) h) [
          | inl k ↦ absurd (not_written ra a qs.0 (left_plain op (typing_of scope a) (typing_of scope b)) (only_name false a ra (front (IsQuiet unit) in_a (in_b ++ two) q) qs.0 k))
          | inr k ↦ absurd (not_written rb b qs.1.0 (right_plain op (typing_of scope a) (typing_of scope b)) (only_name false b rb (front (IsQuiet unit) in_b two rest) qs.1.0 k))
        ]
    only_name addressed (choice k n c a b) r q own h =
        contradiction (is_written_pointer (typing_of scope (choice k n c a b))) (no_choice (typing_of scope c) (typing_of scope a) (typing_of scope b)) h
    only_name addressed (cast k n t o) r q own h =
        contradiction (is_written_pointer (typing_of scope (cast k n t o))) (no_number (number_type (typing_of scope o)) (λ s. t)) h
    only_name addressed (call k n id es) r q own h =
        contradiction (is_written_pointer (typing_of scope (call k n id es))) (no_call (meaning_of scope id) (typings_of scope es)) h

    -- what may have its address taken may not be written
    no_cell : (e : Tree) → AreQuiet (parts_of around scope true e) → IsOwn role.Address e → is_written_cell (typing_of scope e) ≡ false
    no_cell (name k n id) q own = name_cell (meaning_of scope id) (still role.Address k n id own)
    no_cell (index k n b s) q own =
        let in_b = parts_of around scope false b in
        let rb = role.Base false in
        let vb = with_role around scope rb b in_b in
        let qb = front (IsQuiet unit) vb (with_role around scope role.Value s (parts_of around scope false s)) q in
        let ob = own_of unit around scope l.fits rb b in_b qb in
        plain_of (is_written_cell (typing_of scope (index k n b s))) (λ h.
        absurd (not_written rb b ob refl
        (only_name false b rb (front (IsQuiet unit) in_b (expression around scope rb b ∷ []) qb) ob (written_element (typing_of scope b) (typing_of scope s) h))))
    no_cell (deref k n o) q own =
        let in_o = parts_of around scope false o in
        let ro = role.Base false in
        let oo = own_of unit around scope l.fits ro o in_o q in
        plain_of (is_written_cell (typing_of scope (deref k n o))) (λ h.
        absurd (not_written ro o oo refl (only_name false o ro (front (IsQuiet unit) in_o (expression around scope ro o ∷ []) q) oo (written_pointed (typing_of scope o) h))))
    no_cell (int k n t v) q own = refl
    no_cell (addr k n o) q own = cc (place_quiet unit.texts around scope role.Address (addr k n o) own)
    no_cell (unary k n op o) q own = cc (place_quiet unit.texts around scope role.Address (unary k n op o) own)
    no_cell (binary k n op a b) q own = cc (place_quiet unit.texts around scope role.Address (binary k n op a b) own)
    no_cell (choice k n c a b) q own = cc (place_quiet unit.texts around scope role.Address (choice k n c a b) own)
    no_cell (cast k n t o) q own = cc (place_quiet unit.texts around scope role.Address (cast k n t o) own)
    no_cell (call k n id es) q own = cc (place_quiet unit.texts around scope role.Address (call k n id es) own)

  -- ---- tame expressions

  typed : (addressed : Bool) (e : Tree) (r : Role) → AreQuiet (parts_of around scope addressed e) → IsOwn r e → is_typed (typing_of scope e) ≡ true
  typed addressed e r q own = typed_here unit around scope l.fits addressed e r q (parts_typed unit around scope l.fits addressed e q) own

  in_role : (r : Role) (addressed : Bool) (e : Tree) → lets_written r ≡ false
      → (AreQuiet (parts_of around scope addressed e) → IsOwn r e → is_written_name scope e ≡ false → IsTame lane scope e)
      → AreQuiet (with_role around scope r e (parts_of around scope addressed e)) → IsTame lane scope e
  in_role r addressed e shut tame q =
      let parts = parts_of around scope addressed e in
      let own = own_of unit around scope l.fits r e parts q in
      tame (front (IsQuiet unit) parts (expression around scope r e ∷ []) q) own (plain r e own shut)

  -- the base of a subscript or the operand of `*`
  base_is : (direct : Bool) (e : Tree) → (AreQuiet (parts_of around scope false e) → IsOwn (role.Base direct) e → is_written_name scope e ≡ false → IsTame lane scope e)
      → AreQuiet (with_role around scope (role.Base direct) e (parts_of around scope false e)) → ((is_written_name scope e ≡ true) × (direct ≡ true)) ⊎ IsTame lane scope e
  base_is direct e tame q =
      let parts = parts_of around scope false e in
      let own = own_of unit around scope l.fits (role.Base direct) e parts q in
      elim (decide (is_written_name scope e)) [
        | inl h ↦ inl (h, lets (role.Base direct) e own h)
        | inr h ↦ inr (tame (front (IsQuiet unit) parts (expression around scope (role.Base direct) e ∷ []) q) own h)
      ]

  argument_is : (w : CType) (e : Tree) → (AreQuiet (parts_of around scope false e) → IsOwn (role.Argument (Some w)) e → is_written_name scope e ≡ false → IsTame lane scope e)
      → AreQuiet (with_role around scope (role.Argument (Some w)) e (parts_of around scope false e)) → IsTameArgument (is_written_type w) (is_written_name scope e ≡ true) (IsTame lane scope e)
  argument_is Void e tame q = in_role (role.Argument (Some Void)) false e refl tame q
  argument_is (Int t) e tame q = in_role (role.Argument (Some (Int t))) false e refl tame q
  argument_is (Ptr to false) e tame q = in_role (role.Argument (Some (Ptr to false))) false e refl tame q
  argument_is (Ptr to true) e tame q =
      let r = role.Argument (Some (Ptr to true)) in
      let parts = parts_of around scope false e in
      let own = own_of unit around scope l.fits r e parts q in
      let qs = front (IsQuiet unit) parts (expression around scope r e ∷ []) q in
      only_name false e r qs own (written_argument to (typing_of scope e) (taken_by unit around scope l.fits r e own (typed false e r qs own)))

  mutual
    tame : (addressed : Bool) (e : Tree) (r : Role) → AreQuiet (parts_of around scope addressed e) → IsOwn r e → is_written_name scope e ≡ false → IsTame lane scope e
    tame addressed (int k n t v) r q own h = tt
    tame addressed (name k n id) r q own h = tame_name (lane id) (variable_named scope id) (meaning_of scope id) (seen lane scope id l) (still r k n id own) h
    tame addressed (index k n b s) r q own h =
        let direct = not addressed && is_zero s in
        let vb = with_role around scope (role.Base direct) b (parts_of around scope false b) in
        let vs = with_role around scope role.Value s (parts_of around scope false s) in
        let ts = in_role role.Value false s refl (tame false s role.Value) (back (IsQuiet unit) vb vs q) in
        elim (base_is direct b (tame false b (role.Base direct)) (front (IsQuiet unit) vb vs q)) [
          | inl w ↦ inl (w.0, zero_is s (right_true (not addressed) (is_zero s) w.1))
          | inr t ↦ inr (t, ts)
        ]
    tame addressed (deref k n o) r q own h =
        elim (base_is (not addressed) o (tame false o (role.Base (not addressed))) q) [ inl w ↦ inl w.0 | inr t ↦ inr t ]
    tame addressed (addr k n o) r q own h =
        let parts = parts_of around scope true o in
        tame_place o (front (IsQuiet unit) parts (expression around scope role.Address o ∷ []) q) (own_of unit around scope l.fits role.Address o parts q)
    tame addressed (unary k n op o) r q own h = in_role role.Value false o refl (tame false o role.Value) q
    tame addressed (binary k n op a b) r q own h =
        let in_a = parts_of around scope false a in
        let in_b = parts_of around scope false b in
        let ra = left_role op (typing_of scope a) (typing_of scope b) in
        let rb = right_role op (typing_of scope a) (typing_of scope b) in
        let two = expression around scope ra a ∷ (expression around scope rb b ∷ []) in
        let rest = back (IsQuiet unit) in_a (in_b ++ two) q in
        let qs = back (IsQuiet unit) in_b two rest in (
          tame false a ra (front (IsQuiet unit) in_a (in_b ++ two) q) qs.0 (plain ra a qs.0 (left_plain op (typing_of scope a) (typing_of scope b))),
          tame false b rb (front (IsQuiet unit) in_b two rest) qs.1.0 (plain rb b qs.1.0 (right_plain op (typing_of scope a) (typing_of scope b))),
        )
    tame addressed (choice k n c a b) r q own h =
        let vc = with_role around scope role.Value c (parts_of around scope false c) in
        let va = with_role around scope role.Value a (parts_of around scope false a) in
        let vb = with_role around scope role.Value b (parts_of around scope false b) in
        let rest = back (IsQuiet unit) vc (va ++ vb) q in (
          in_role role.Value false c refl (tame false c role.Value) (front (IsQuiet unit) vc (va ++ vb) q),
          in_role role.Value false a refl (tame false a role.Value) (front (IsQuiet unit) va vb rest),
          in_role role.Value false b refl (tame false b role.Value) (back (IsQuiet unit) va vb rest),
        )
    tame addressed (cast k n t o) r q own h = in_role role.Value false o refl (tame false o role.Value) q
    tame addressed (call k n id es) r q own h =
        let parts = argument_visits around scope (wanted_types (meaning_of scope id)) es in
        let last = called around scope k n id es ∷ [] in
        let quiet = (back (IsQuiet unit) parts last q).0 in
        let callee = tame_callee (lane id) (variable_named scope id) (meaning_of scope id) (typings_of scope es) (seen lane scope id l)
        (second_false (is_simd around) (is_plain_function (meaning_of scope id)) simd (plain_quiet unit.texts around scope k n id es quiet))
        (typed addressed (call k n id es) r q own) in
        (callee.0, callee.1, tame_arguments (wanted_types (meaning_of scope id)) es (front (IsQuiet unit) parts last q))

    tame_place : (e : Tree) → AreQuiet (parts_of around scope true e) → IsOwn role.Address e → IsTamePlace lane scope e
    tame_place (name k n id) q own =
        let form = both_false true (may_have_address (typing_of scope (name k n id))) (place_quiet unit.texts around scope role.Address (name k n id) own) in
        const_name (meaning_of scope id) (still role.Address k n id own) (typed true (name k n id) role.Address q own) form.1
    tame_place (index k n b s) q own =
        let vb = with_role around scope (role.Base false) b (parts_of around scope false b) in
        let vs = with_role around scope role.Value s (parts_of around scope false s) in (
          in_role (role.Base false) false b refl (tame false b (role.Base false)) (front (IsQuiet unit) vb vs q),
          in_role role.Value false s refl (tame false s role.Value) (back (IsQuiet unit) vb vs q),
        )
    tame_place (deref k n o) q own = in_role (role.Base false) false o refl (tame false o (role.Base false)) q
    tame_place (int k n t v) q own = tt
    tame_place (addr k n o) q own = tt
    tame_place (unary k n op o) q own = tt
    tame_place (binary k n op a b) q own = tt
    tame_place (choice k n c a b) q own = tt
    tame_place (cast k n t o) q own = tt
    tame_place (call k n id es) q own = tt

    tame_arguments : (wanted : List CType) (es : Trees) → AreQuiet (argument_visits around scope wanted es) → AreTame lane scope wanted es
    tame_arguments wanted no_trees q = tt
    tame_arguments [] (more_trees e es) q =
        let here = with_role around scope (role.Argument None) e (parts_of around scope false e) in
        let more = argument_visits around scope [] es in
        (in_role (role.Argument None) false e refl (tame false e (role.Argument None)) (front (IsQuiet unit) here more q), tame_arguments [] es (back (IsQuiet unit) here more q))
    tame_arguments (w ∷ ws) (more_trees e es) q =
        let here = with_role around scope (role.Argument (Some w)) e (parts_of around scope false e) in
        let more = argument_visits around scope ws es in
        (argument_is w e (tame false e (role.Argument (Some w))) (front (IsQuiet unit) here more q), tame_arguments ws es (back (IsQuiet unit) here more q))

  pub visits_tame : (r : Role) (e : Tree) → lets_written r ≡ false → AreQuiet (visits_of around scope r e) → IsTame lane scope e
  visits_tame r e shut q = in_role r false e shut (tame false e r) q

  pub optional_tame : (e : Option Tree) → AreQuiet (optional_visits around scope e) → IsTameOptional lane scope e
  optional_tame None q = tt
  optional_tame (Some e) q = visits_tame role.Value e refl q

  -- ---- what is assigned

  is_element : (direct : Bool) (b : Tree) → AreQuiet (with_role around scope (role.Base direct) b (parts_of around scope false b)) → is_written_pointer (typing_of scope b) ≡ true
      → (is_written_name scope b ≡ true) × (direct ≡ true)
  is_element direct b q h =
      let parts = parts_of around scope false b in
      let own = own_of unit around scope l.fits (role.Base direct) b parts q in
      let named = only_name false b (role.Base direct) (front (IsQuiet unit) parts (expression around scope (role.Base direct) b ∷ []) q) own h in
      (named, lets (role.Base direct) b own named)

  target : (e : Tree) → AreQuiet (parts_of around scope false e) → IsOwn role.Place e → IsTameTarget lane scope e (variable_of scope e)
  target (name k n id) q own =
      let form = both_false true (may_be_assigned (typing_of scope (name k n id))) (place_quiet unit.texts around scope role.Place (name k n id) own) in
      of_variable (variable_named scope id) (seen lane scope id l) form.1 (plain role.Place (name k n id) own refl)
    where
      of_variable : (v : Option Variable) → IsSeen (lane id) v (meaning_of scope id) → may_be_assigned (typing_of scope (name k n id)) ≡ true → is_written_variable v ≡ false
          → IsTameTarget lane scope (name k n id) v
      of_variable None s form named = no_target (lane id) (meaning_of scope id) s (still role.Place k n id own) (typed false (name k n id) role.Place q own) form
      of_variable (Some v) s form named = named
  target (index k n b s) q own =
      let form = both_false true (may_be_assigned (typing_of scope (index k n b s))) (place_quiet unit.texts around scope role.Place (index k n b s) own) in
      let vb = with_role around scope (role.Base (is_zero s)) b (parts_of around scope false b) in
      let w = is_element (is_zero s) b (front (IsQuiet unit) vb (with_role around scope role.Value s (parts_of around scope false s)) q)
      (written_element (typing_of scope b) (typing_of scope s) (cell_element (typing_of scope b) (typing_of scope s) (typed false (index k n b s) role.Place q own) form.1)) in
      (w.0, zero_is s w.1)
  target (deref k n o) q own =
      let form = both_false true (may_be_assigned (typing_of scope (deref k n o))) (place_quiet unit.texts around scope role.Place (deref k n o) own) in
      (is_element true o q (written_pointed (typing_of scope o) (cell_pointed (typing_of scope o) (typed false (deref k n o) role.Place q own) form.1))).0
  target (int k n t v) q own = cc (place_quiet unit.texts around scope role.Place (int k n t v) own)
  target (addr k n o) q own = cc (place_quiet unit.texts around scope role.Place (addr k n o) own)
  target (unary k n op o) q own = cc (place_quiet unit.texts around scope role.Place (unary k n op o) own)
  target (binary k n op a b) q own = cc (place_quiet unit.texts around scope role.Place (binary k n op a b) own)
  target (choice k n c a b) q own = cc (place_quiet unit.texts around scope role.Place (choice k n c a b) own)
  target (cast k n t o) q own = cc (place_quiet unit.texts around scope role.Place (cast k n t o) own)
  target (call k n id es) q own = cc (place_quiet unit.texts around scope role.Place (call k n id es) own)

  pub target_tame : (e : Tree) → AreQuiet (visits_of around scope role.Place e) → IsTameTarget lane scope e (variable_of scope e)
  target_tame e q =
      let parts = parts_of around scope false e in
      target e (front (IsQuiet unit) parts (expression around scope role.Place e ∷ []) q) (own_of unit around scope l.fits role.Place e parts q)
