-- What a directive says that breaks no rule is within the ranges of vector names.
use Rattle.std.proofs.Common.{◌≡◌, ℕ, zero, suc, ◌+◌, ◌*◌, ◌^◌, ◌<◌, ◌≤◌, eqb, Bool, true, false, cond, ◌&&◌, ◌||◌, not, nat_le, length, get_or, List, [], ◌∷◌, ◌++◌, Option, Some, None, is_some, unwrap_or, ℤ, pos, negsuc, refl, sym, ap, subst, ◌∙◌, arith, rules, lit≤}
use Rattle.std.specs.Prelude.{unsigned_abs, int_le, decimal}
use Rattle.std.specs.Fmt.{digits}
use Rattle.std.specs.Int.{is_power_of_two}
use Rattle.std.specs.List.{AllByRecursion, list_any}
use Rattle.std.specs.Option.{option_and_then, option_or}
use Rattle.std.specs.Ordering.{int_eq}
use Rattle.std.proofs.lemmas.Bool.Decides.{nat_tests, Decides-int_eq}
use Rattle.std.proofs.lemmas.Fmt.{digits_decimal, digits_value-decimal, first_decimal}
use Rattle.std.proofs.lemmas.Int.{unsigned_abs-mul}
use Rattle.vk_types.specs.declared.types.Ty.{Ty}
use Rattle.vk_kinds.specs.declared.kinds.Kind.{Kind}
use Rattle.vk_kinds.specs.declared.kinds.Kind.TheVariants.{Uniform, Linear}
use Rattle.vk_kinds.specs.declared.kinds.Step.TheVariants.{One, By, Arg}
use Rattle.vk_kinds.specs.Sizes.{bytes_of}
use Rattle.vk_unit_rules.specs.declared.rules.UnitRule.{UnitRule}
use Rattle.vk_unit_rules.specs.declared.rules.UnitRule.TheVariants.{D1, D4, D5, D6, D7, D9, D10, D11}
use Rattle.vk_names.specs.Spelling.{IsOptionalAlign, IsOptionalStep, IsPosition, IsStep, position_in, step_of as step_in}
use Rattle.vk_names.proofs.Numbers.{own}
use Rattle.vk_variants.specs.Directives.{IsSimdlen}
use Rattle.vk_ast.specs.declared.directives.PlacedName.{PlacedName}
use Rattle.vk_ast.specs.declared.items.ParamDecl.{ParamDecl}
use Rattle.vk_ast.specs.declared.names.NameId.{NameId}
use Rattle.vk_ast.specs.Tree.{Tree}
use Rattle.vk_ast.specs.Directives.{ClauseTree, DirectiveTree, Says, simdlen, uniform, aligned, linear, inside, outside, other}
use Rattle.vk_ast.specs.Units.{FunctionTree}
use Rattle.vk_numbers.specs.Constants.{constant_of, constant_to, number_to}
use Rattle.vk_rules_book.specs.declared.faults.Fault.{Fault}
use Rattle.vk_rules_book.specs.Faults.{directive_fault, when}
use Rattle.vk_rules_book.specs.Scopes.{same_name}
use Rattle.vk_rules_book.specs.Directives.{all_said_faults, has_modifier, has_wrong_alignment, has_wrong_step, is_branch, is_of_references, is_other, is_power_from, is_simdlen, is_too_great, is_unknown, is_wrong_simdlen, is_wrong_step, powers, said_faults}
use Rattle.vk_rules_book.specs.Signatures.{StepTree, constant, by_parameter, no_step, align_in, align_said, alignment, constant_step, is_integer, is_named, is_uniform, kind_in, kind_said, lists, named_step, number_of, param_of, pointee_of, scaled, simdlen_in, simdlen_said, step_of, written_step}
use Rattle.vk_rules.proofs.Quiet.{quiet_left, quiet_right, when_not}
use Rattle.vk_rules.proofs.Tests.{both_left, both_right}

-- ---- tests

or_left : (a b : Bool) → (a || b) ≡ false → a ≡ false
or_left true b h = h
or_left false b h = refl

or_right : (a b : Bool) → (a || b) ≡ false → b ≡ false
or_right true b h = cc
or_right false b h = h

pub or_some : (a b : Bool) → a ≡ true → (a || b) ≡ true
or_some true b h = refl
or_some false b h = cc

pub or_other : (a b : Bool) → b ≡ true → (a || b) ≡ true
or_other true b h = refl
or_other false b h = h

not_false : (a : Bool) → not a ≡ false → a ≡ true
not_false true h = refl
not_false false h = cc

and_false : (a b : Bool) → (a && b) ≡ false → a ≡ true → b ≡ false
and_false true b h t = h
and_false false b h t = cc

pub never_both : (a : Bool) → a ≡ true → a ≡ false → ⊥
never_both a t f = cc

pub same_id : (a b : NameId) → same_name a b ≡ true → a ≡ b
same_id a b h = let e : a.0 ≡ b.0 = grind (arith, nat_tests) in ap (λ (n : ℕ). let id : NameId = record { 0 = n } in id) e

id_same : (a : NameId) → same_name a a ≡ true
id_same a = grind (arith, nat_tests)

-- ---- numbers

int_apart : (y z : ℤ) → int_eq y z ≡ false → y ≡ z → ⊥
int_apart y z apart e = let t = (Decides-int_eq y z).1 e in never_both (int_eq y z) t apart

size_of_type : (t : Ty) → 1 ≤ bytes_of t
size_of_type t = search rules

-- a step of this many bytes, which is neither 0 nor 1
by_fits : (y : ℤ) → (y ≡ pos 0 → ⊥) → int_eq y (pos 1) ≡ false → unsigned_abs y ≤ 2147483647 → (digits : List ℕ) → IsStep (By y) digits
by_fits (pos zero) zero_not one_not most digits = absurd (zero_not refl)
by_fits (pos (suc zero)) zero_not one_not most digits = absurd (int_apart (pos 1) (pos 1) one_not refl)
by_fits (pos (suc (suc n))) zero_not one_not most digits = (omega arith, most)
by_fits (negsuc n) zero_not one_not most digits = most

number_fits : (y : ℤ) (b : Bool) → int_eq y (pos 1) ≡ b → (y ≡ pos 0 → ⊥) → unsigned_abs y ≤ 2147483647 → (digits : List ℕ) → IsStep (cond b One (By y)) digits
number_fits y true is zero_not most digits = tt
number_fits y false is zero_not most digits = by_fits y zero_not is most digits

abs_zero : (y : ℤ) → unsigned_abs y ≡ 0 → y ≡ pos 0
abs_zero (pos zero) e = refl
abs_zero (pos (suc n)) e = cc
abs_zero (negsuc n) e = cc

zero_abs : (y : ℤ) → y ≡ pos 0 → unsigned_abs y ≡ 0
zero_abs y e = ap unsigned_abs e

product_zero : (a b : ℕ) → 1 ≤ b → a * b ≡ 0 → a ≡ 0
product_zero zero b one e = refl
product_zero (suc a) b one e = absurd (omega (arith, e))

scaled_zero : (to : Option Ty) (z : ℤ) → scaled to z ≡ pos 0 → z ≡ pos 0
scaled_zero None z e = e
scaled_zero (Some t) z e =
    abs_zero z (product_zero (unsigned_abs z) (bytes_of t) (size_of_type t) (sym (unsigned_abs-mul z (pos (bytes_of t))) ∙ zero_abs (scaled (Some t) z) e))

great_not : (y : ℤ) → is_too_great y ≡ false → unsigned_abs y ≤ 2147483647
great_not y h = grind (arith, nat_tests)

-- ---- positions

first_of_none : (ds : List ℕ) → 48 < get_or ds 0 0 → 0 < length ds
first_of_none [] h = absurd (omega arith)
first_of_none (d ∷ ds) h = omega arith

zero_text : decimal 0 ≡ 48 ∷ []
unfolding digits
zero_text = refl

position_of : (n : ℕ) → n < 64 → IsPosition (decimal n)
position_of zero small = record { all = digits_decimal own 0 (omega arith); nonempty = subst (λ (ds : List ℕ). 0 < length ds) (sym zero_text) (omega arith); plain = λ e. ap length zero_text }
position_of (suc n) small =
    let fits : suc n < 2 ^ 64 = omega arith in
    let first = first_decimal (suc n) (omega arith) fits in
    record { all = digits_decimal own (suc n) fits; nonempty = first_of_none (decimal (suc n)) first; plain = λ e. absurd (omega (arith, first, e)) }

position_fits : (n : ℕ) → n < 64 → IsStep (Arg n) (decimal n)
position_fits n small = let fits : n < 2 ^ 64 = omega arith in (position_of n small, digits_value-decimal own n fits)

-- ---- clauses that break no rule

-- a clause whose step, alignment and number of lanes are right
pub record IsRight (f : FunctionTree) (d : DirectiveTree) (says : Says) : Type 0 where
  pub step : has_wrong_step f d says ≡ false
  pub lanes : is_wrong_simdlen says ≡ false
  pub align : has_wrong_alignment says ≡ false

abbrev pub AreRight : FunctionTree → DirectiveTree → List ClauseTree → Type 0
AreRight f d cs = AllByRecursion (λ (c : ClauseTree). IsRight f d c.says) cs

right_of : (f : FunctionTree) (d : DirectiveTree) (earlier : List ClauseTree) (c : ClauseTree) → said_faults f d earlier c ≡ [] → IsRight f d c.says
unfolding said_faults
right_of f d earlier c e =
    let told : UnitRule → Fault = directive_fault d c.token in
    let references : List Fault = when (has_modifier is_of_references c.says) (told D11) in
    let alignment : List Fault = when (has_wrong_alignment c.says) (told D10) in
    let lanes : List Fault = when (is_wrong_simdlen c.says) (told D9) in
    let modifier : List Fault = when (has_modifier is_unknown c.says) (told D7) in
    let step : List Fault = when (has_wrong_step f d c.says) (told D6) in
    let branch : List Fault = when (is_branch c.says && list_any (λ (x : ClauseTree). is_branch x.says) earlier) (told D5) in
    let second : List Fault = when (is_simdlen c.says && list_any (λ (x : ClauseTree). is_simdlen x.says) earlier) (told D4) in
    let form : List Fault = when (is_other c.says) (told D1) in
    let from_lanes = lanes ++ (alignment ++ references) in
    let from_step = step ++ (modifier ++ from_lanes) in
    let at_step = quiet_right branch from_step (quiet_right second (branch ++ from_step) (quiet_right form (second ++ (branch ++ from_step)) e)) in
    let at_lanes = quiet_right modifier from_lanes (quiet_right step (modifier ++ from_lanes) at_step) in
    record {
      step = when_not (has_wrong_step f d c.says) (told D6) (quiet_left step (modifier ++ from_lanes) at_step);
      lanes = when_not (is_wrong_simdlen c.says) (told D9) (quiet_left lanes (alignment ++ references) at_lanes);
      align = when_not (has_wrong_alignment c.says) (told D10) (quiet_left alignment references (quiet_right lanes (alignment ++ references) at_lanes));
    }

pub all_right : (f : FunctionTree) (d : DirectiveTree) (earlier cs : List ClauseTree) → all_said_faults f d earlier cs ≡ [] → AreRight f d cs
all_right f d earlier [] e = tt
all_right f d earlier (c ∷ cs) e =
    (right_of f d earlier c (quiet_left (said_faults f d earlier c) _ e), all_right f d (earlier ++ c ∷ []) cs (quiet_right (said_faults f d earlier c) _ e))

-- ---- parameters by their names

below_at : (b : Bool) (o : Option ParamDecl) (p : ParamDecl) (n : ℕ) (ps : List ParamDecl) → (is_some o ≡ true → n < length ps) → is_some (cond b (Some p) o) ≡ true
    → cond b 0 (1 + n) < length (p ∷ ps)
below_at true o p n ps rest e = omega arith
below_at false o p n ps rest e = let behind = rest e in omega (arith, behind)

number_below : (ps : List ParamDecl) (id : NameId) → is_some (param_of ps id) ≡ true → number_of ps id < length ps
unfolding param_of number_of
number_below [] id e = cc
number_below (p ∷ ps) id e = below_at (is_named id p) (param_of ps id) p (number_of ps id) ps (λ h. number_below ps id h) e

pub integer_there : (o : Option ParamDecl) → is_integer o ≡ true → is_some o ≡ true
integer_there None e = cc
integer_there (Some p) e = refl

-- ---- steps

scaled_at : (params : List ParamDecl) (n : PlacedName) (id : NameId) (z : ℤ) (b more behind : Bool) → same_name n.name id ≡ b → (more ≡ true → is_too_great (scaled (pointee_of params id) z) ≡ false)
    → (b || more) ≡ true → (is_too_great (scaled (pointee_of params n.name) z) || behind) ≡ false → is_too_great (scaled (pointee_of params id) z) ≡ false
scaled_at params n id z true more behind same rest there none =
    ap (λ (i : NameId). is_too_great (scaled (pointee_of params i) z)) (sym (same_id n.name id same)) ∙ or_left (is_too_great (scaled (pointee_of params n.name) z)) behind none
scaled_at params n id z false more behind same rest there none = rest there

listed_scaled : (params : List ParamDecl) (names : List PlacedName) (id : NameId) (z : ℤ) → lists id names ≡ true → list_any (λ (n : PlacedName). is_too_great (scaled (pointee_of params n.name) z)) names ≡ false
    → is_too_great (scaled (pointee_of params id) z) ≡ false
listed_scaled params [] id z there none = cc
listed_scaled params (n ∷ names) id z there none =
    scaled_at params n id z (same_name n.name id) (lists id names) (list_any (λ (m : PlacedName). is_too_great (scaled (pointee_of params m.name) z)) names) refl
    (λ h. listed_scaled params names id z h (or_right (is_too_great (scaled (pointee_of params n.name) z)) _ none)) there none

-- a step that a clause of this function may name is below the number of parameters
abbrev IsNumbered : FunctionTree → StepTree → Type 0
IsNumbered f (constant z) = Unit {0}
IsNumbered f (by_parameter n) = n < length f.params
IsNumbered f no_step = Unit {0}

named_numbered : (f : FunctionTree) (d : DirectiveTree) (id : NameId) (b : Bool) → (is_integer (param_of f.params id) && is_uniform d id) ≡ b → IsNumbered f (cond b (by_parameter (number_of f.params id)) no_step)
named_numbered f d id true e = number_below f.params id (integer_there (param_of f.params id) (both_left (is_integer (param_of f.params id)) (is_uniform d id) e))
named_numbered f d id false e = tt

step_named : (f : FunctionTree) (d : DirectiveTree) (e : Tree) → IsNumbered f (named_step f d e)
step_named f d (Tree.int l k t n) = tt
step_named f d (Tree.name l k id) = named_numbered f d id (is_integer (param_of f.params id) && is_uniform d id) refl
step_named f d (Tree.index l k b s) = tt
step_named f d (Tree.deref l k e) = tt
step_named f d (Tree.addr l k e) = tt
step_named f d (Tree.unary l k op e) = tt
step_named f d (Tree.binary l k op a b) = tt
step_named f d (Tree.choice l k c a b) = tt
step_named f d (Tree.cast l k t e) = tt
step_named f d (Tree.call l k id es) = tt

step_constant : (f : FunctionTree) (o : Option ℤ) (s : StepTree) → IsNumbered f s → IsNumbered f (constant_step o s)
step_constant f None s h = h
step_constant f (Some z) s h = tt

step_numbered : (f : FunctionTree) (d : DirectiveTree) (e : Option Tree) → IsNumbered f (step_of f d e)
unfolding step_of
step_numbered f d None = tt
step_numbered f d (Some e) = step_constant f (constant_of e) (named_step f d e) (step_named f d e)

step_fits : (f : FunctionTree) (names : List PlacedName) (id : NameId) (s : StepTree) → length f.params ≤ 64 → lists id names ≡ true → is_wrong_step f.params names s ≡ false → IsNumbered f s
    → IsStep (written_step (pointee_of f.params id) s) (decimal (position_in (Some (written_step (pointee_of f.params id) s))))
step_fits f names id (constant z) few there right numbered =
    let y = scaled (pointee_of f.params id) z in
    number_fits y (int_eq y (pos 1)) refl
    (λ zero_is. int_apart z (pos 0) (or_left (int_eq z (pos 0)) _ right) (scaled_zero (pointee_of f.params id) z zero_is))
    (great_not y (listed_scaled f.params names id z there (or_right (is_too_great z) _ (or_right (int_eq z (pos 0)) _ right))))
    _
step_fits f names id (by_parameter n) few there right numbered = position_fits n (omega (arith, numbered, few))
step_fits f names id no_step few there right numbered = cc

-- ---- kinds

abbrev HasFittingStep : Kind → Type 0
HasFittingStep k = IsOptionalStep (step_in k) (decimal (position_in (step_in k)))

linear_fits : (f : FunctionTree) (d : DirectiveTree) (id : NameId) (names : List PlacedName) (e : Option Tree) (rest : Kind) (b : Bool) → lists id names ≡ b → length f.params ≤ 64
    → is_wrong_step f.params names (step_of f d e) ≡ false → HasFittingStep rest
    → HasFittingStep (unwrap_or (cond b (Some (Linear (written_step (pointee_of f.params id) (step_of f d e)))) None) rest)
linear_fits f d id names e rest true there few right h = step_fits f names id (step_of f d e) few there right (step_numbered f d e)
linear_fits f d id names e rest false there few right h = h

uniform_fits : (b : Bool) (rest : Kind) → HasFittingStep rest → HasFittingStep (unwrap_or (cond b (Some Uniform) None) rest)
uniform_fits true rest h = tt
uniform_fits false rest h = h

clause_fits : (f : FunctionTree) (d : DirectiveTree) (id : NameId) (says : Says) (rest : Kind) → length f.params ≤ 64 → IsRight f d says → HasFittingStep rest
    → HasFittingStep (unwrap_or (kind_said f d id says) rest)
clause_fits f d id (simdlen e) rest few right h = h
clause_fits f d id (uniform names) rest few right h = uniform_fits (lists id names) rest h
clause_fits f d id (aligned names e) rest few right h = h
clause_fits f d id (linear names m e) rest few right h = linear_fits f d id names e rest (lists id names) refl few right.step h
clause_fits f d id inside rest few right h = h
clause_fits f d id outside rest few right h = h
clause_fits f d id other rest few right h = h

pub kind_fits : (f : FunctionTree) (d : DirectiveTree) (id : NameId) (cs : List ClauseTree) → length f.params ≤ 64 → AreRight f d cs → HasFittingStep (kind_in f d id cs)
unfolding kind_in
kind_fits f d id [] few right = tt
kind_fits f d id (c ∷ cs) few right = clause_fits f d id c.says (kind_in f d id cs) few right.0 (kind_fits f d id cs few right.1)

-- ---- alignments and lanes

abbrev IsPower : ℕ → Type 0
IsPower n = (is_power_of_two n ≡ true) × (n ≤ 65536)

all_powers : AllByRecursion IsPower powers
unfolding powers lib.Count.ones
all_powers = ((refl, lit≤ tt), ((refl, lit≤ tt), ((refl, lit≤ tt), ((refl, lit≤ tt), ((refl, lit≤ tt), ((refl, lit≤ tt), ((refl, lit≤ tt), ((refl, lit≤ tt), ((refl, lit≤ tt), ((refl, lit≤ tt), ((refl, lit≤ tt), ((refl, lit≤ tt), ((refl, lit≤ tt), ((refl, lit≤ tt), ((refl, lit≤ tt), ((refl, lit≤ tt), ((refl, lit≤ tt), tt)))))))))))))))))

one_at : (x n : ℕ) (b behind : Bool) → eqb x n ≡ b → IsPower x → (behind ≡ true → IsPower n) → (b || behind) ≡ true → IsPower n
one_at x n true behind same here rest e = let is : x ≡ n = grind (arith, nat_tests) in subst IsPower is here
one_at x n false behind same here rest e = rest e

one_of : (xs : List ℕ) (n : ℕ) → list_any (λ p. eqb p n) xs ≡ true → AllByRecursion IsPower xs → IsPower n
one_of [] n e all = cc
one_of (x ∷ xs) n e all = one_at x n (eqb x n) (list_any (λ p. eqb p n) xs) refl all.0 (λ h. one_of xs n h all.1) e

power_of : (least n : ℕ) → is_power_from least (Some n) ≡ true → (least ≤ n) × IsPower n
power_of least n e =
    let low = both_left (nat_le least n) (list_any (λ p. eqb p n) powers) e in
    (grind (arith, nat_tests), one_of powers n (both_right (nat_le least n) (list_any (λ p. eqb p n) powers) e) all_powers)

align_power : (o : Option ℕ) → not (is_power_from 1 o) ≡ false → IsOptionalAlign o
align_power None e = tt
align_power (Some n) e = let h = power_of 1 n (not_false (is_power_from 1 (Some n)) e) in record { power = h.1.0; low = h.0; high = h.1.1 }

sixteen : is_power_of_two 16 ≡ true
unfolding lib.Count.ones
sixteen = refl

alignment_fits : (f : FunctionTree) (d : DirectiveTree) (names : List PlacedName) (e : Option Tree) → IsRight f d (aligned names e) → IsOptionalAlign (alignment e)
alignment_fits f d names None right = record { power = sixteen; low = lit≤ tt; high = lit≤ tt }
alignment_fits f d names (Some e) right = align_power (constant_to 65536 e) right.align

or_align : (o p : Option ℕ) → IsOptionalAlign o → IsOptionalAlign p → IsOptionalAlign (option_or o p)
or_align None p g h = h
or_align (Some n) p g h = g

cond_align : (b : Bool) (o : Option ℕ) → IsOptionalAlign o → IsOptionalAlign (cond b o None)
cond_align true o h = h
cond_align false o h = tt

align_said_fits : (f : FunctionTree) (d : DirectiveTree) (id : NameId) (says : Says) → IsRight f d says → IsOptionalAlign (align_said id says)
align_said_fits f d id (simdlen e) right = tt
align_said_fits f d id (uniform names) right = tt
align_said_fits f d id (aligned names e) right = cond_align (lists id names) (alignment e) (alignment_fits f d names e right)
align_said_fits f d id (linear names m e) right = tt
align_said_fits f d id inside right = tt
align_said_fits f d id outside right = tt
align_said_fits f d id other right = tt

pub align_fits : (f : FunctionTree) (d : DirectiveTree) (id : NameId) (cs : List ClauseTree) → AreRight f d cs → IsOptionalAlign (align_in id cs)
unfolding align_in
align_fits f d id [] right = tt
align_fits f d id (c ∷ cs) right = or_align (align_said id c.says) (align_in id cs) (align_said_fits f d id c.says right.0) (align_fits f d id cs right.1)

most_lanes : (o : Option ℕ) → ((n : ℕ) → o ≡ Some n → n ≤ 256) → not (is_power_from 2 o) ≡ false → IsSimdlen o
most_lanes None most e = tt
most_lanes (Some n) most e = let h = power_of 2 n (not_false (is_power_from 2 (Some n)) e) in let top = most n refl in (omega (arith, h.0), omega (arith, top))

chosen_to : (b : Bool) (m n : ℕ) → (b ≡ true → m ≤ 256) → cond b (Some m) None ≡ Some n → n ≤ 256
chosen_to true m n h e = let same : m ≡ n = cc in let top = h refl in omega (arith, top, same)
chosen_to false m n h e = cc

number_most : (z : ℤ) (n : ℕ) → number_to 256 z ≡ Some n → n ≤ 256
number_most (pos m) n e = chosen_to (int_le (pos 1) (pos m) && int_le (pos m) (pos 256)) m n (λ h. let le = both_right (int_le (pos 1) (pos m)) (int_le (pos m) (pos 256)) h in grind (arith, nat_tests)) e
number_most (negsuc m) n e = cc

constant_most : (o : Option ℤ) (n : ℕ) → option_and_then (number_to 256) o ≡ Some n → n ≤ 256
constant_most None n e = cc
constant_most (Some z) n e = number_most z n e

or_lanes : (o p : Option ℕ) → IsSimdlen o → IsSimdlen p → IsSimdlen (option_or o p)
or_lanes None p g h = h
or_lanes (Some n) p g h = g

lanes_said : (f : FunctionTree) (d : DirectiveTree) (says : Says) → IsRight f d says → IsSimdlen (simdlen_said says)
lanes_said f d (simdlen e) right = most_lanes (constant_to 256 e) (constant_most (constant_of e)) right.lanes
lanes_said f d (uniform names) right = tt
lanes_said f d (aligned names e) right = tt
lanes_said f d (linear names m e) right = tt
lanes_said f d inside right = tt
lanes_said f d outside right = tt
lanes_said f d other right = tt

pub lanes_fit : (f : FunctionTree) (d : DirectiveTree) (cs : List ClauseTree) → AreRight f d cs → IsSimdlen (simdlen_in cs)
unfolding simdlen_in
lanes_fit f d [] right = tt
lanes_fit f d (c ∷ cs) right = or_lanes (simdlen_said c.says) (simdlen_in cs) (lanes_said f d c.says right.0) (lanes_fit f d cs right.1)
