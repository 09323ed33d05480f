-- More turns and more levels change no answer but one that was cut short.
use Rattle.std.proofs.Common.{◌≤◌, ℕ, zero, suc, Bool, false, List, [], ◌∷◌, Some, arith}
use Rattle.vk_types.specs.declared.types.Ty.{Ty}
use Rattle.vk_kinds.specs.declared.heads.CType.{CType}
use Rattle.vk_kinds.specs.declared.heads.CType.TheVariants as ctype
use Rattle.vk_ast.specs.declared.items.ParamDecl.{ParamDecl}
use Rattle.vk_ast.specs.Tree.{Tree}
use Rattle.vk_ast.specs.Directives.{DirectiveTree}
use Rattle.vk_ast.specs.Units.{ItemTree}
use Rattle.vk_tokens.specs.declared.tokens.Mark.TheVariants as mark
use Rattle.vk_grammar_expr.specs.declared.symbols.Keyword.TheVariants as keyword
use Rattle.vk_grammar_expr.specs.Symbols.{is_sign}
use Rattle.vk_grammar_expr.specs.Types.{type_in}
use Rattle.vk_grammar_expr.specs.Inner.Parser.{Parser, pure, ◌>>=◌, take, expect}
use Rattle.vk_grammar_expr.proofs.Grown.{Grows, Room, same_grows, spent_grows, bind_grows, look_grows, here_grows, pick_grows, choose_grows, choose_some_grows, many_grows}
use Rattle.vk_grammar_stmt.specs.Words.{is_keyword, name_at, has_const}
use Rattle.vk_grammar_stmt.specs.Trees.{Clauses}
use Rattle.vk_grammar_stmt.specs.Inner.Reading.{cond, optional}
use Rattle.vk_grammar_stmt.proofs.Grown.{type_words_grow, cond_grows, optional_grows, body_grows}
use Rattle.vk_grammar_unit.specs.Items
use Rattle.vk_grammar_unit.specs.Items.{Named, is_qualifier, is_line, is_end, pointer_to, with_name, without_name, all_named, function_tree, ObjectType, Initial, no_initial, object_tree, lost_lines}
use Rattle.vk_grammar_unit.specs.Inner.Reading as read
use Rattle.vk_grammar_unit.specs.Inner.Reading.{named_by}

lines_grow : (clauses : Clauses) (deep : Bool) (turns more_turns : ℕ) → turns ≤ more_turns → Grows deep (read.lines clauses turns) (read.lines clauses more_turns)
unfolding read.lines
lines_grow clauses deep turns more_turns i = many_grows (λ k. is_line (Items.line_at k)) same_grows turns more_turns i

module _ (deep : Bool) (e f turns more_turns : ℕ) (heights : Room deep e f) (turns_le : turns ≤ more_turns) where
  cond_grow : Grows deep (cond e turns) (cond f more_turns)
  cond_grow = cond_grows deep e f turns more_turns heights turns_le

  bracket_grows : Grows deep (optional e turns mark.CloseBracket) (optional f more_turns mark.CloseBracket)
  bracket_grows = optional_grows deep e f turns more_turns heights turns_le mark.CloseBracket

  array_grows : (ty : Ty) (fixed : Bool) (n : Named) → Grows deep (read.array_param e turns ty fixed n) (read.array_param f more_turns ty fixed n)
  unfolding read.array_param
  array_grows ty fixed n = choose_grows (is_sign mark.OpenBracket) (bind_grows {p = take} same_grows (λ u. bind_grows bracket_grows (λ c. same_grows))) same_grows

  value_grows : (l k : ℕ) (ty : Ty) (fixed : Bool) → Grows deep (read.value_param e turns l k ty fixed) (read.value_param f more_turns l k ty fixed)
  unfolding read.value_param
  value_grows l k ty fixed = choose_some_grows name_at (λ id. bind_grows {p = take} same_grows (λ t. array_grows ty fixed (named_by t id))) same_grows

  name_grows : (l k : ℕ) (c : CType) (fixed : Bool) → Grows deep (read.pointer_name e turns l k c fixed) (read.pointer_name f more_turns l k c fixed)
  unfolding read.pointer_name
  name_grows l k c fixed = same_grows

  pointer_grows : (l k : ℕ) (ty : Ty) (fixed : Bool) → Grows deep (read.pointer_param e turns l k ty fixed) (read.pointer_param f more_turns l k ty fixed)
  unfolding read.pointer_param
  pointer_grows l k ty fixed = bind_grows {p = take} same_grows (λ u. bind_grows (many_grows is_qualifier same_grows turns more_turns turns_le) (λ q. name_grows l k (pointer_to ty fixed) (has_const q)))

  rest_grows : (l k : ℕ) (ty : Ty) (fixed : Bool) → Grows deep (read.param_rest e turns l k ty fixed) (read.param_rest f more_turns l k ty fixed)
  unfolding read.param_rest
  rest_grows l k ty fixed = choose_grows (is_sign mark.Star) (pointer_grows l k ty fixed) (value_grows l k ty fixed)

  param_grows : Grows deep (read.param e turns) (read.param f more_turns)
  unfolding read.param
  param_grows = here_grows (λ l k. bind_grows (type_words_grow turns more_turns turns_le) (λ c. rest_grows l k (type_in c) (has_const c)))

  later_param_grows : Grows deep (read.later_param e turns) (read.later_param f more_turns)
  unfolding read.later_param
  later_param_grows = bind_grows {p = take} same_grows (λ t. param_grows)

  some_params_grow : Grows deep (read.some_params e turns) (read.some_params f more_turns)
  unfolding read.some_params
  some_params_grow = bind_grows param_grows (λ first. bind_grows (many_grows (is_sign mark.Comma) later_param_grows turns more_turns turns_le) (λ rest. same_grows))

  params_grow : Grows deep (read.params e turns) (read.params f more_turns)
  unfolding read.params
  params_grow = look_grows (λ s. pick_grows {p = pure []} (is_sign mark.CloseParen s) same_grows (pick_grows {p = take >>= (λ _. pure [])} (is_keyword keyword.Void s) same_grows some_params_grow))

  length_grows : Grows deep (read.array_length e turns) (read.array_length f more_turns)
  unfolding read.array_length
  length_grows = choose_grows (is_sign mark.OpenBracket) (bind_grows {p = take} same_grows (λ u. bind_grows bracket_grows (λ c. same_grows))) same_grows

  value_behind_grows : (next other : Parser (List Tree)) → Grows deep next other → Grows deep (read.value_behind e turns next) (read.value_behind f more_turns other)
  unfolding read.value_behind
  value_behind_grows next other g = choose_grows (is_sign mark.CloseBrace) same_grows (bind_grows cond_grow (λ a. bind_grows g (λ rest. same_grows)))

  more_values_grow : (n m : ℕ) → n ≤ m → Grows deep (read.more_values e turns n) (read.more_values f more_turns m)
  unfolding read.more_values
  more_values_grow zero m i = spent_grows
  more_values_grow (suc n) zero i = absurd (omega (arith, i))
  more_values_grow (suc n) (suc m) i = choose_grows (is_sign mark.Comma) (bind_grows {p = take} same_grows (λ t. value_behind_grows (read.more_values e turns n) (read.more_values f more_turns m) (more_values_grow n m (omega (arith, i))))) same_grows

  values_grow : Grows deep (read.values e turns) (read.values f more_turns)
  unfolding read.values
  values_grow = choose_grows (is_sign mark.CloseBrace) same_grows (bind_grows cond_grow (λ a. bind_grows (more_values_grow turns more_turns turns_le) (λ rest. same_grows)))

  braced_grows : Grows deep (read.braced_initial e turns) (read.braced_initial f more_turns)
  unfolding read.braced_initial
  braced_grows = bind_grows {p = take} same_grows (λ u. bind_grows values_grow (λ list. same_grows))

  scalar_grows : Grows deep (read.scalar_initial e turns) (read.scalar_initial f more_turns)
  unfolding read.scalar_initial
  scalar_grows = here_grows (λ l k. bind_grows {f = λ a. pure (record { items = Some (a.tree ∷ []); braced = false; line = l; token = k })} cond_grow (λ a. same_grows))

  initial_grows : Grows deep (read.initial e turns) (read.initial f more_turns)
  unfolding read.initial
  initial_grows = choose_grows (is_sign mark.Assign) (bind_grows {p = take} same_grows (λ t. choose_grows (is_sign mark.OpenBrace) braced_grows scalar_grows)) same_grows

  object_grows : (of : ObjectType) (n : Named) → Grows deep (read.object e turns of n) (read.object f more_turns of n)
  unfolding read.object
  object_grows of n = bind_grows length_grows (λ array. bind_grows initial_grows (λ init. same_grows))

  later_object_grows : (of : ObjectType) → Grows deep (read.later_object e turns of) (read.later_object f more_turns of)
  unfolding read.later_object
  later_object_grows of = bind_grows {p = take} same_grows (λ t. bind_grows {p = read.name} same_grows (object_grows of))

  objects_grow : (of : ObjectType) (n : Named) → Grows deep (read.objects e turns of n) (read.objects f more_turns of n)
  unfolding read.objects
  objects_grow of n = bind_grows (object_grows of n) (λ first. bind_grows (many_grows (is_sign mark.Comma) (later_object_grows of) turns more_turns turns_le) (λ rest. same_grows))

module _ (clauses : Clauses) (deep : Bool) (e f turns more_turns : ℕ) (heights : Room deep e f) (turns_le : turns ≤ more_turns) (d g : ℕ) (room : Room deep d g) where
  definition_grows : (ps : List ParamDecl) → Grows deep (read.definition clauses e d turns ps) (read.definition clauses f g more_turns ps)
  unfolding read.definition
  definition_grows ps = pick_grows (all_named ps) (bind_grows (body_grows clauses deep e f turns more_turns heights turns_le d g room) (λ s. same_grows)) same_grows

  end_grows : (ps : List ParamDecl) → Grows deep (read.function_end clauses e d turns ps) (read.function_end clauses f g more_turns ps)
  unfolding read.function_end
  end_grows ps = choose_grows (is_sign mark.Semicolon) same_grows (definition_grows ps)

  function_grows : (ls : List DirectiveTree) (result : CType) (n : Named) → Grows deep (read.function clauses e d turns ls result n) (read.function clauses f g more_turns ls result n)
  unfolding read.function
  function_grows ls result n = bind_grows {p = expect mark.OpenParen} same_grows (λ u. bind_grows (params_grow deep e f turns more_turns heights turns_le) (λ ps. bind_grows {p = expect mark.CloseParen} same_grows (λ v. bind_grows (end_grows ps) (λ b. same_grows))))

  one_function_grows : (ls : List DirectiveTree) (result : CType) (n : Named) → Grows deep (read.one_function clauses e d turns ls result n) (read.one_function clauses f g more_turns ls result n)
  unfolding read.one_function
  one_function_grows ls result n = bind_grows (function_grows ls result n) (λ i. same_grows)

  void_grows : (ls : List DirectiveTree) → Grows deep (read.void_function clauses e d turns ls) (read.void_function clauses f g more_turns ls)
  unfolding read.void_function
  void_grows ls = bind_grows {p = take} same_grows (λ t. bind_grows {p = read.name} same_grows (one_function_grows ls ctype.Void))

  lost_grows : (ls : List DirectiveTree) (of : ObjectType) (n : Named) → Grows deep (read.lost_objects clauses e d turns ls of n) (read.lost_objects clauses f g more_turns ls of n)
  unfolding read.lost_objects
  lost_grows ls of n = bind_grows (objects_grow deep e f turns more_turns heights turns_le of n) (λ list. same_grows)

  typed_item_grows : (ls : List DirectiveTree) (of : ObjectType) (n : Named) → Grows deep (read.typed_item clauses e d turns ls of n) (read.typed_item clauses f g more_turns ls of n)
  unfolding read.typed_item
  typed_item_grows ls of n = choose_grows (is_sign mark.OpenParen) (one_function_grows ls (ctype.Int of.ty) n) (lost_grows ls of n)

  typed_grows : (ls : List DirectiveTree) (outside : Bool) → Grows deep (read.typed clauses e d turns ls outside) (read.typed clauses f g more_turns ls outside)
  unfolding read.typed
  typed_grows ls outside = bind_grows (type_words_grow turns more_turns turns_le) (λ c. bind_grows {p = read.name} same_grows (typed_item_grows ls (record { ty = type_in c; fixed = has_const c; outside = outside })))

  item_grows : (ls : List DirectiveTree) → Grows deep (read.item clauses e d turns ls) (read.item clauses f g more_turns ls)
  unfolding read.item
  item_grows ls = bind_grows {p = read.extern_word} same_grows (λ outside. choose_grows (is_keyword keyword.Void) (void_grows ls) (typed_grows ls outside))

  step_grows : (next other : Parser (List ItemTree)) → Grows deep next other → Grows deep (read.items_step clauses e d turns next) (read.items_step clauses f g more_turns other)
  unfolding read.items_step
  step_grows next other h = bind_grows (lines_grow clauses deep turns more_turns turns_le) (λ ls. choose_grows is_end same_grows (bind_grows (item_grows ls) (λ list. bind_grows h (λ rest. same_grows))))

  pub items_grow : (n m : ℕ) → n ≤ m → Grows deep (read.items clauses e d turns n) (read.items clauses f g more_turns m)
  unfolding read.items
  items_grow zero m i = spent_grows
  items_grow (suc n) zero i = absurd (omega (arith, i))
  items_grow (suc n) (suc m) i = step_grows (read.items clauses e d turns n) (read.items clauses f g more_turns m) (items_grow n m (omega (arith, i)))
