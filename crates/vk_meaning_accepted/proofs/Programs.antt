-- Programs of accepted units that agree are tame.
use Rattle.std.proofs.Common.{◌≡◌, ◌≢◌, ℕ, zero, suc, ◌==◌, Bool, true, false, cond, ◌&&◌, not, List, [], ◌∷◌, ◌++◌, codes, Contains, Option, Some, None, is_none, is_some, refl, sym, ap, subst, ◌∙◌, arith}
use Rattle.std.proofs.lemmas.Bool.Decides.{nat_tests}
use Rattle.std.proofs.lemmas.List.{append_assoc}
use Rattle.std.proofs.lemmas.Slice.Eq.{bytes_eq-Decides}
use Rattle.std.specs.List.{AllByRecursion}
use Rattle.std.specs.Str.{bytes_eq}
use Rattle.vk_kinds.specs.declared.heads.CType.{CType}
use Rattle.vk_kinds.specs.declared.heads.CType.TheVariants.{Int, Void}
use Rattle.vk_types.specs.declared.types.Ty.TheVariants.{I64}
use Rattle.vk_ast.specs.declared.names.NameId.{NameId}
use Rattle.vk_ast.specs.declared.items.ParamDecl.{ParamDecl}
use Rattle.vk_ast.specs.Directives.{DirectiveTree}
use Rattle.vk_ast.specs.Statements.{StmtTree}
use Rattle.vk_ast.specs.Units.{FunctionTree, ItemTree, function, object, lost_line}
use Rattle.vk_rules_book.specs.Expressions.{is_simd}
use Rattle.vk_rules_book.specs.Items.{disagrees, is_plainly}
use Rattle.vk_rules_book.specs.Rules.{Subject, faults_of}
use Rattle.vk_rules_book.specs.Scopes.{Scope, Meaning, a_function, declared_meaning, file_meaning, file_scope, first_declaration, has_directives, is_print, printer, text_of, types_of, with_param, with_params}
use Rattle.vk_rules_book.specs.Typings.{wanted_types}
use Rattle.vk_rules_book.specs.Visits.{along, around_body, body_visits, directive_visits, first_number, item_visits, number_of_item, parameter_visits, stmt_visits}
use Rattle.vk_rules_laws.proofs.Each.{IsQuiet, at_all, back, front, unit_quiet}
use Rattle.vk_rules_laws.proofs.Fitting.{IsFittingItem, file_fits, items_fit, params_fit}
use Rattle.vk_rules_laws.proofs.Sizes.{IsQuietFunction, first_false, quiet_function}
use Rattle.vk_meaning.specs.World.{array_at}
use Rattle.vk_meaning.specs.Programs.{Definition, arrays_of, array_number, definition_of, first_point}
use Rattle.vk_meaning_laws.specs.Tame.{ConstsAreFixed, IsLaneFunction, IsTameProgram, IsTameStmt, are_named, is_const_object, is_function}
use Rattle.vk_meaning_accepted.specs.Linked.{AgreeOnConsts, AgreeOnFunctions, AreAccepted}
use Rattle.vk_meaning_accepted.proofs.Definitions.{at_item, definition_is, first_in, first_last, first_more}
use Rattle.vk_meaning_accepted.proofs.LaneScopes.{IsFileMeaning, IsLaneScope}
use Rattle.vk_meaning_accepted.proofs.Statements.{stmt_tame}

-- ---- a function of an accepted unit, behind other items

abbrev before_items : List ItemTree → FunctionTree → List ItemTree
before_items before f = before ++ function f ∷ []

module _ (unit : Subject) (quiet : faults_of unit ≡ []) (before : List ItemTree) (f : FunctionTree) (behind : List ItemTree) (split : unit.items ≡ before ++ function f ∷ behind) where
  item_quiet : AllByRecursion (IsQuiet unit) (item_visits unit.texts before (function f))
  item_quiet =
      at_item (IsQuiet unit) (item_visits unit.texts) [] before (function f) behind
      (subst (λ (items : List ItemTree). AllByRecursion (IsQuiet unit) (along (item_visits unit.texts) [] items)) split (unit_quiet unit quiet))

  pub own_quiet : IsQuietFunction unit before f
  own_quiet = quiet_function unit before f item_quiet.0

  pub body_quiet : (body : StmtTree) → f.body ≡ Some body
      → AllByRecursion (IsQuiet unit) (stmt_visits (around_body (before_items before f) f) (with_params (file_scope unit.texts (before_items before f)) f.params) true body)
  body_quiet body is =
      let scope = file_scope unit.texts (before_items before f) in
      let a = around_body (before_items before f) f in
      let v = directive_visits f [] f.directives in
      let ps = parameter_visits scope 0 f.params in
      let w = body_visits a (with_params scope f.params) f.body in
      subst (λ (b : Option StmtTree). AllByRecursion (IsQuiet unit) (body_visits a (with_params scope f.params) b)) is
      (back (IsQuiet unit) ps w (back (IsQuiet unit) v (ps ++ w) item_quiet.1.1))

  -- its first declaration is a function
  pub first_is : (g : FunctionTree) × (first_declaration (before_items before f) f.name ≡ Some (function g))
  first_is = of_first (first_declaration before f.name) refl (first_false (disagrees (first_declaration before f.name) (function f)) _ own_quiet.again)
    where
      same_number : (n : ℕ) → (n == n) ≡ true
      same_number n = grind (arith, nat_tests)

      of_first : (o : Option ItemTree) → first_declaration before f.name ≡ o → disagrees o (function f) ≡ false
          → (g : FunctionTree) × (first_declaration (before_items before f) f.name ≡ Some (function g))
      of_first None is agree = (f, first_last before f.name (function f) (same_number f.name.0) is)
      of_first (Some (function g)) is agree = (g, first_more before (function f ∷ []) f.name (function g) is)
      of_first (Some (object o)) is agree = cc
      of_first (Some (lost_line d)) is agree = cc

-- ---- directives

numbered : (ds : List DirectiveTree) → ((d : DirectiveTree) → Contains ds d → d.number ≢ 0) → has_directives ds ≡ true → not (first_number ds == 0) ≡ true
numbered [] h there = cc
numbered (d ∷ ds) h there = not_zero d.number (h d (zero, omega arith, refl))
  where
    not_zero : (n : ℕ) → n ≢ 0 → not (n == 0) ≡ true
    not_zero n h = grind (arith, nat_tests)

simd_around : (items : List ItemTree) (f g : FunctionTree) → first_declaration items f.name ≡ Some (function g) → ((d : DirectiveTree) → Contains g.directives d → d.number ≢ 0)
    → has_directives g.directives ≡ true → is_simd (around_body items f) ≡ true
simd_around items f g is h there =
    subst (λ (o : Option ItemTree). not (number_of_item o == 0) ≡ true) (sym is) (numbered g.directives h there)

-- ---- names at file scope

lane_function : (lane with_lines : Bool) (result : CType) (params : List CType) → (with_lines ≡ true → lane ≡ true) → IsFileMeaning lane (Some (a_function result params with_lines))
lane_function lane true result params h = h refl
lane_function lane false result params h = tt

of_first : (lane : Bool) (o : Option ItemTree) → ((g : FunctionTree) → o ≡ Some (function g) → has_directives g.directives ≡ true → lane ≡ true) → IsFileMeaning lane (declared_meaning o)
of_first lane None h = tt
of_first lane (Some (function g)) h = lane_function lane (has_directives g.directives) g.result (types_of g.params) (h g refl)
of_first lane (Some (object o)) h = tt
of_first lane (Some (lost_line d)) h = tt

of_print : (lane printing : Bool) (m : Option Meaning) → IsFileMeaning lane m → IsFileMeaning lane (cond printing (Some printer) m)
of_print lane true m h = tt
of_print lane false m h = h

param_file : (P : (NameId → Option Meaning) → Type 0) (scope : Scope) (name : Option NameId) (p : ParamDecl) → P scope.file → P (with_param scope name p).file
param_file P scope None p h = h
param_file P scope (Some id) p h = h

params_file : (P : (NameId → Option Meaning) → Type 0) (scope : Scope) (ps : List ParamDecl) → P scope.file → P (with_params scope ps).file
unfolding with_params
params_file P scope [] h = h
params_file P scope (p ∷ ps) h = params_file P (with_param scope p.name p) ps (param_file P scope p.name p h)

-- ---- parameters

all_names : (ps : List ParamDecl) → AllByRecursion (λ (p : ParamDecl). is_some p.name ≡ true) ps → are_named ps ≡ true
unfolding are_named
all_names [] h = refl
all_names (p ∷ ps) h = both_true (is_some p.name) (are_named ps) h.0 (all_names ps h.1)
  where
    both_true : (a b : Bool) → a ≡ true → b ≡ true → (a && b) ≡ true
    both_true true b h k = k
    both_true false b h k = h

-- ---- programs

module _ (units : List Subject) where
  -- what is declared in the items up to a definition is so in its unit
  in_unit : (text : List ℕ) (d : Definition) → definition_of units text ≡ Some d → (id : NameId) (i : ItemTree) → first_declaration d.items id ≡ Some i → first_declaration d.unit.items id ≡ Some i
  in_unit text d is id i e =
      let at = definition_is units text d is in
      subst (λ (xs : List ItemTree). first_declaration xs id ≡ Some i)
      (append_assoc at.found.before (function d.function ∷ []) at.found.behind ∙ sym at.found.split)
      (first_more (before_items at.found.before d.function) at.found.behind id i (subst (λ (xs : List ItemTree). first_declaration xs id ≡ Some i) at.found.items_are e))

  pub consts_fixed : (lane : List ℕ → Bool) → AgreeOnConsts units → ConstsAreFixed units lane
  consts_fixed lane consts text d l id h there = of_tests (is_print d.unit.texts id) (first_declaration d.items id) refl h
    where
      of_tests : (printing : Bool) (o : Option ItemTree) → first_declaration d.items id ≡ o → is_const_object (cond printing (Some printer) (declared_meaning o)) ≡ true
          → (array_at (arrays_of units) (array_number (arrays_of units) (text_of d.unit.texts id))).fixed ≡ true
      of_tests true o is h = cc
      of_tests false None is h = cc
      of_tests false (Some (function g)) is h = cc
      of_tests false (Some (object o)) is h = consts.fixed d.unit (definition_is units text d l.definition).unit_in id o (in_unit text d l.definition id (object o) is) h there
      of_tests false (Some (lost_line x)) is h = cc

module _ (units : List Subject) (lane : List ℕ → Bool) (accepted : AreAccepted units) where
  named_params : (text : List ℕ) (d : Definition) → IsLaneFunction units lane text d → are_named d.function.params ≡ true
  named_params text d l =
      let at = definition_is units text d l.definition in
      let there = in_items d.unit.items at.found.before d.function at.found.behind at.found.split in
      all_names d.function.params (at_all (λ (p : ParamDecl). is_some p.name ≡ true) d.function.params
      (λ p listed. (accepted.grammatical d.unit at.unit_in).names d.function there (has_body d.function.body d.body at.found.body_is) p listed))
    where
      has_body : (b : Option StmtTree) (body : StmtTree) → b ≡ Some body → is_some b ≡ true
      has_body None body e = cc
      has_body (Some x) body e = refl

      in_middle : (before : List ItemTree) (f : FunctionTree) (behind : List ItemTree) → Contains (before ++ function f ∷ behind) (function f)
      in_middle [] f behind = (zero, omega arith, refl)
      in_middle (i ∷ before) f behind = let k = in_middle before f behind in (suc k.0, omega (arith, k.1), k.2)

      in_items : (items before : List ItemTree) (f : FunctionTree) (behind : List ItemTree) → items ≡ before ++ function f ∷ behind → Contains items (function f)
      in_items items before f behind e = subst (λ (xs : List ItemTree). Contains xs (function f)) (sym e) (in_middle before f behind)

  -- `print` has no definition
  no_print : (text : List ℕ) (d : Definition) → definition_of units text ≡ Some d → bytes_eq text (codes "print") ≡ true → ⊥
  no_print text d is same =
      let at = definition_is units text d is in
      let own = own_quiet d.unit (accepted.sound d.unit at.unit_in) at.found.before d.function at.found.behind at.found.split in
      let text_is : text_of d.unit.texts d.function.name ≡ text = (bytes_eq-Decides (text_of d.unit.texts d.function.name) text).0 at.found.named in
      let printing : is_print d.unit.texts d.function.name ≡ true = ap (λ (t : List ℕ). bytes_eq t (codes "print")) text_is ∙ same in
      bodiless (is_print d.unit.texts d.function.name) (is_plainly Void (Int I64 ∷ []) d.function) d.function.body d.body printing own.print at.found.body_is
    where
      bodiless : (printing plainly : Bool) (b : Option StmtTree) (body : StmtTree) → printing ≡ true → (printing && not (plainly && is_none b)) ≡ false → b ≡ Some body → ⊥
      bodiless true true (Some x) body p e is = cc
      bodiless true false (Some x) body p e is = cc
      bodiless true plainly None body p e is = cc
      bodiless false plainly b body p e is = cc

  module _ (agree : AgreeOnFunctions units lane) where
    lane_scope : (d : Definition) (before behind : List ItemTree) → Contains units d.unit → d.unit.items ≡ before ++ function d.function ∷ behind
        → IsLaneScope (λ id. lane (text_of d.unit.texts id)) (with_params (file_scope d.unit.texts (before_items before d.function)) d.function.params)
    lane_scope d before behind unit_in split =
        let items = before_items before d.function in
        let whole : d.unit.items ≡ items ++ behind = split ∙ sym (append_assoc before (function d.function ∷ []) behind) in
        let all = subst (λ (xs : List ItemTree). AllByRecursion IsFittingItem xs) whole (items_fit d.unit.items (accepted.grammatical d.unit unit_in).types) in
        let fitting = front IsFittingItem items behind all in
        let own = (back IsFittingItem before (function d.function ∷ []) fitting).0 in
        record {
          fits = params_fit (file_scope d.unit.texts items) d.function.params (file_fits d.unit.texts items fitting) own.0;
          file = params_file (λ (file : NameId → Option Meaning). (id : NameId) → IsFileMeaning (lane (text_of d.unit.texts id)) (file id)) (file_scope d.unit.texts items) d.function.params
              (λ id. of_print (lane (text_of d.unit.texts id)) (is_print d.unit.texts id) (declared_meaning (first_declaration items id))
              (of_first (lane (text_of d.unit.texts id)) (first_declaration items id)
              (λ g is lines. agree.declared d.unit unit_in id g (subst (λ (xs : List ItemTree). first_declaration xs id ≡ Some (function g)) (sym whole) (first_more items behind id (function g) is)) lines)));
        }

    body_tame : (text : List ℕ) (d : Definition) → IsLaneFunction units lane text d → IsTameStmt (λ id. lane (text_of d.unit.texts id)) (first_point d) d.body
    body_tame text d l =
        let at = definition_is units text d l.definition in
        let before = at.found.before in
        let behind = at.found.behind in
        let items = before_items before d.function in
        let quiet = accepted.sound d.unit at.unit_in in
        let first = first_is d.unit quiet before d.function behind at.found.split in
        let whole : d.unit.items ≡ items ++ behind = at.found.split ∙ sym (append_assoc before (function d.function ∷ []) behind) in
        let first_there : first_declaration d.unit.items d.function.name ≡ Some (function first.0)
        = subst (λ (xs : List ItemTree). first_declaration xs d.function.name ≡ Some (function first.0)) (sym whole) (first_more items behind d.function.name (function first.0) first.1) in
        let lines = agree.defined text d l first.0 first_there in
        let simd = simd_around items d.function first.0 first.1 (λ e listed. (accepted.grammatical d.unit at.unit_in).numbers first.0 (first_in d.unit.items d.function.name (function first.0) first_there) e listed) lines in
        subst (λ (xs : List ItemTree). IsTameStmt (λ id. lane (text_of d.unit.texts id)) (record { scope = with_params (file_scope d.unit.texts xs) d.function.params; shares = true; loops = 0 }) d.body)
        (sym at.found.items_are)
        (stmt_tame d.unit (λ id. lane (text_of d.unit.texts id)) (around_body items d.function) simd
        (record { scope = with_params (file_scope d.unit.texts items) d.function.params; shares = true; loops = 0 }) d.body
        (lane_scope d before behind at.unit_in at.found.split) (body_quiet d.unit quiet before d.function behind at.found.split d.body at.found.body_is))

    called_types : (text : List ℕ) (d : Definition) → IsLaneFunction units lane text d → (id : NameId) → is_function (file_meaning d.unit.texts d.items id) ≡ true
        → (f : Definition) → IsLaneFunction units lane (text_of d.unit.texts id) f → wanted_types (file_meaning d.unit.texts d.items id) ≡ types_of f.function.params
    called_types text d l id there f m = of_tests (is_print d.unit.texts id) refl (first_declaration d.items id) refl there
      where
        of_tests : (printing : Bool) → is_print d.unit.texts id ≡ printing → (o : Option ItemTree) → first_declaration d.items id ≡ o
            → is_function (cond printing (Some printer) (declared_meaning o)) ≡ true → wanted_types (cond printing (Some printer) (declared_meaning o)) ≡ types_of f.function.params
        of_tests true p o is h = absurd (no_print (text_of d.unit.texts id) f m.definition p)
        of_tests false p None is h = cc
        of_tests false p (Some (function g)) is h =
            agree.types d.unit (definition_is units text d l.definition).unit_in id g (in_unit units text d l.definition id (function g) is) f m.definition
        of_tests false p (Some (object o)) is h = cc
        of_tests false p (Some (lost_line x)) is h = cc

    pub program_tame : IsTameProgram units lane
    program_tame = record { named = named_params; body = body_tame; declared = called_types }
