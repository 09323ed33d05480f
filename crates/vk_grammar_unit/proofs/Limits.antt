-- What the reader of units takes is within its limits, and its loops have turns enough.
use Rattle.std.proofs.Common.{◌≡◌, ◌≤◌, ◌<◌, ℕ, zero, suc, Bool, true, false, List, [], ◌∷◌, ◌++◌, length, Option, Some, refl, sym, ap, ◌∙◌, subst, length-append, arith, true≢false}
use Rattle.vk_types.specs.declared.types.Ty.{Ty}
use Rattle.vk_kinds.specs.declared.heads.CType.{CType}
use Rattle.vk_kinds.specs.declared.heads.CType.TheVariants as ctype
use Rattle.vk_ast.specs.declared.items.ParamDecl.{ParamDecl}
use Rattle.vk_ast.specs.Statements.{StmtTree}
use Rattle.vk_ast.specs.Directives.{DirectiveTree}
use Rattle.vk_ast.specs.Units.{ItemTree}
use Rattle.vk_tokens.specs.declared.tokens.Mark.TheVariants as mark
use Rattle.vk_grammar_expr.specs.declared.symbols.Sym.{Sym}
use Rattle.vk_grammar_expr.specs.declared.symbols.Keyword.TheVariants as keyword
use Rattle.vk_grammar_expr.specs.Symbols.{head, line_at, number_at, IsSign, is_sign}
use Rattle.vk_grammar_expr.specs.Types.{type_in}
use Rattle.vk_grammar_expr.specs.Grammar.{full}
use Rattle.vk_grammar_expr.specs.Inner.Parser.{pure, ◌>>=◌, take, pick, many}
use Rattle.vk_grammar_expr.proofs.Signs.{sign_kind}
use Rattle.vk_grammar_expr.proofs.Starts.{spelled_starts}
use Rattle.vk_grammar_expr.proofs.Sound.{IsTypeText}
use Rattle.vk_grammar_expr.proofs.Heights.{Any}
use Rattle.vk_grammar_stmt.specs.Words.{is_keyword, name_at, has_const}
use Rattle.vk_grammar_stmt.specs.Trees.{Clauses}
use Rattle.vk_grammar_stmt.specs.Grammar.{IsOptional, IsBlock}
use Rattle.vk_grammar_stmt.specs.Inner.Reading.{optional}
use Rattle.vk_grammar_stmt.proofs.Signs.{Parted}
use Rattle.vk_grammar_stmt.proofs.Forms.{starts_parted}
use Rattle.vk_grammar_stmt.proofs.Taken.{Takes, pure_takes, refuse_takes, pick_takes, look_takes, choose_takes, choose_some_takes, tail_takes, bind_takes, take_takes, token_takes, take_sign_takes, take_word_takes, take_name_takes, expect_takes, then_expect_takes, here_then_takes, many_takes}
use Rattle.vk_grammar_stmt.proofs.Limits.{Fits, fit, Short, At, cond_takes, optional_takes, type_words_take, body_takes}
use Rattle.vk_grammar_unit.specs.Items
use Rattle.vk_grammar_unit.specs.Items.{Named, is_qualifier, is_line, is_end, pointer_to, with_name, without_name, all_named, function_tree, ObjectType, Initial, object_tree, lost_lines, body_levels, item_levels, unit_levels}
use Rattle.vk_grammar_unit.specs.Grammar
use Rattle.vk_grammar_unit.specs.Grammar.{IsName, IsExtern, no_extern, an_extern, AreLines, no_lines, AreQualifiers, no_qualifiers, IsParamRest, value_unnamed, value_named, pointer_unnamed, pointer_named, IsParam, AreMoreParams, AreParams, no_params, void_params, some_params, IsBody, declared, defined, IsFunction, IsLength, no_array, a_length, AreMoreValues, last_value, last_comma, next_value, AreValues, no_values, some_values, IsInitial, not_initial, IsObject, an_object, AreMoreObjects, AreObjects, IsItem, AreItems, last_lines}
use Rattle.vk_grammar_unit.specs.Inner.Reading as read
use Rattle.vk_grammar_unit.specs.Inner.Reading.{named_by}
use Rattle.vk_grammar_unit.proofs.Forms
use Rattle.vk_grammar_unit.proofs.Sound.{line_kind, line_joined, qualifier_joined}

-- items of at most `d` levels of statements
abbrev pub UnitAt : ℕ → List ItemTree → Type 0
UnitAt d list = unit_levels list ≤ d

abbrev BodyAt : ℕ → Option StmtTree → Type 0
BodyAt d b = body_levels b ≤ d

abbrev ItemAt : ℕ → ItemTree → Type 0
ItemAt d i = item_levels i ≤ d

unit_joined : (d : ℕ) (a b : List ItemTree) → UnitAt d a → UnitAt d b → UnitAt d (a ++ b)
unit_joined d [] b i j = j
unit_joined d (s ∷ a) b i j = omega (arith, i, unit_joined d a b (omega (arith, i)) j)

lost_at : (d : ℕ) (ls : List DirectiveTree) → UnitAt d (lost_lines ls)
lost_at d [] = omega arith
lost_at d (l ∷ ls) = omega (arith, lost_at d ls)

module _ (turns : ℕ) where
  name_takes : (w : List Sym) → Takes turns IsName [] read.name w
  unfolding read.name
  name_takes w = choose_some_takes name_at (λ id i. take_name_takes i (λ t r is. pure_takes (Grammar.a_name is))) (λ i. refuse_takes)

  extern_takes : (w : List Sym) → Takes turns IsExtern [] read.extern_word w
  unfolding read.extern_word
  extern_takes w = choose_takes (is_keyword keyword.Extern) (λ i. take_word_takes i (λ t r is. pure_takes (an_extern is))) (λ i. pure_takes no_extern)

  line_takes : (clauses : Clauses) (w : List Sym) → is_line (Items.line_at (head w)) ≡ true → Takes turns (Forms.IsLine clauses) [] (read.line clauses) w
  unfolding read.line Items.line_at
  line_takes clauses [] e = absurd (true≢false (sym e))
  line_takes clauses (t ∷ r) e = choose_some_takes Items.line_at (λ n i. take_takes (pure_takes (Forms.one_line (record { is = line_kind t.kind n i })))) (λ i. absurd (true≢false (sym e ∙ ap is_line i)))

  line_parted : (clauses : Clauses) (l : DirectiveTree) (x : List Sym) → Forms.IsLine clauses l x → Parted x
  line_parted clauses l x (Forms.one_line {t = t} i) = record { first = t; others = []; parts = refl }

  lines_take : (clauses : Clauses) (w : List Sym) → Takes turns (AreLines clauses) [] (read.lines clauses turns) w
  unfolding read.lines
  lines_take clauses w = record { takes = λ l. (many_takes {S = Forms.IsLine clauses} {L = AreLines clauses} (λ k. is_line (Items.line_at k)) (read.line clauses) no_lines (line_joined clauses) (line_parted clauses) (line_takes clauses) turns w l).takes l }

module _ (e turns : ℕ) where
  bracket_takes : (w : List Sym) → Takes turns (Fits (IsOptional mark.CloseBracket) Any (suc e)) [] (optional e turns mark.CloseBracket) w
  bracket_takes w = optional_takes e turns mark.CloseBracket w

  -- ---- parameters

  array_takes : (l k : ℕ) (ty : Ty) (fixed : Bool) (n : Named) (x w : List Sym) → IsName n x → Takes turns (Fits (IsParamRest l k ty fixed) Any (suc e)) x (read.array_param e turns ty fixed n) w
  unfolding read.array_param
  array_takes l k ty fixed n x w name = choose_takes (is_sign mark.OpenBracket)
      (λ i. take_sign_takes i (λ u r is. bind_takes {S = Fits (IsOptional mark.CloseBracket) Any (suc e)} (bracket_takes r) (λ c y r2 parts o. pure_takes (fit _ (Forms.array_as name is o.is) o.most tt))))
      (λ i. pure_takes (fit _ (value_named name) (omega arith) tt))

  value_takes : (l k : ℕ) (ty : Ty) (fixed : Bool) (w : List Sym) → Takes turns (Fits (IsParamRest l k ty fixed) Any (suc e)) [] (read.value_param e turns l k ty fixed) w
  unfolding read.value_param
  value_takes l k ty fixed w = choose_some_takes name_at (λ id i. take_name_takes i (λ t r is. array_takes l k ty fixed (named_by t id) (t ∷ []) r (Grammar.a_name is))) (λ i. pure_takes (fit _ value_unnamed (omega arith) tt))

  pointer_name_takes : (l k : ℕ) (ty : Ty) (fixed : Bool) (u : Sym) (q x w : List Sym) → IsSign mark.Star u → Forms.QualifierText q x
      → Takes turns (Fits (IsParamRest l k ty fixed) Any (suc e)) (u ∷ x) (read.pointer_name e turns l k (pointer_to ty fixed) (has_const q)) w
  unfolding read.pointer_name
  pointer_name_takes l k ty fixed u q x w i text = subst (λ z. Takes turns (Fits (IsParamRest l k ty fixed) Any (suc e)) (u ∷ x) (read.pointer_name e turns l k (pointer_to ty fixed) (has_const z)) w) (sym text.same)
      (choose_some_takes name_at (λ id j. take_name_takes j (λ t r is. pure_takes (fit _ (pointer_named i text.are (Grammar.a_name is)) (omega arith) tt))) (λ j. pure_takes (fit _ (pointer_unnamed i text.are) (omega arith) tt)))

  abbrev OneQualifier : Sym → List Sym → Type 0
  OneQualifier t u = (u ≡ t ∷ []) × (is_qualifier (Some t.kind) ≡ true)

  qualifier_takes : (w : List Sym) → is_qualifier (head w) ≡ true → Takes turns OneQualifier [] take w
  unfolding is_qualifier
  qualifier_takes [] i = absurd (true≢false (sym i))
  qualifier_takes (t ∷ r) i = token_takes (refl, i)

  qualifiers_take : (w : List Sym) → Takes turns Forms.QualifierText [] (many turns is_qualifier take) w
  qualifiers_take w = record {
    takes = λ l. (many_takes {S = OneQualifier} {L = Forms.QualifierText} is_qualifier take (record { same = refl; are = no_qualifiers }) (qualifier_joined e turns)
        (λ t x s. record { first = t; others = []; parts = s.0 }) qualifier_takes turns w l).takes l;
  }

  rest_takes : (l k : ℕ) (ty : Ty) (fixed : Bool) (w : List Sym) → Takes turns (Fits (IsParamRest l k ty fixed) Any (suc e)) [] (read.param_rest e turns l k ty fixed) w
  unfolding read.param_rest read.pointer_param
  rest_takes l k ty fixed w = choose_takes (is_sign mark.Star)
      (λ i. take_sign_takes i (λ u r is. bind_takes {S = Forms.QualifierText} (qualifiers_take r) (λ q x r2 parts text. pointer_name_takes l k ty fixed u q x r2 is text)))
      (λ i. value_takes l k ty fixed w)

  param_takes : (w : List Sym) → Takes turns (Fits IsParam Any (suc e)) [] (read.param e turns) w
  unfolding read.param
  param_takes w = here_then_takes {S = λ c v. IsTypeText c v × Any c} (λ l k c. read.param_rest e turns l k (type_in c) (has_const c)) (type_words_take e turns w) (λ c v t. Forms.text_parted t.0)
      (λ c v r t. tail_takes {S = Fits (IsParamRest (line_at v) (number_at v) (type_in c) (has_const c)) Any (suc e)} (rest_takes (line_at v) (number_at v) (type_in c) (has_const c) r) (λ p x d. fit _ (Forms.param_as t.0 d.is) d.most tt))

  later_takes : (w : List Sym) → is_sign mark.Comma (head w) ≡ true → Takes turns (Fits Forms.IsLaterParam Any (suc e)) [] (read.later_param e turns) w
  unfolding read.later_param
  later_takes w i = take_sign_takes i (λ t r is. tail_takes {S = Fits IsParam Any (suc e)} (param_takes r) (λ p x d. fit _ (Forms.later_param is d.is) d.most tt))

  later_parted : {p : ParamDecl} {h : ℕ} {x : List Sym} → Forms.IsLaterParam p h x → Parted x
  later_parted (Forms.later_param {t = t} {x = x} i d) = record { first = t; others = x; parts = refl }

  more_params_take : (w : List Sym) → Takes turns (Fits AreMoreParams Any (suc e)) [] (many turns (is_sign mark.Comma) (read.later_param e turns)) w
  more_params_take w = record {
    takes = λ l. (many_takes {S = Fits Forms.IsLaterParam Any (suc e)} {L = Fits AreMoreParams Any (suc e)} (is_sign mark.Comma) (read.later_param e turns) (fit 0 Grammar.AreMoreParams.none_more (omega arith) tt)
        (λ q list y z a b. fit _ (Forms.param_joined a.is b.is) (omega (arith, a.most, b.most)) tt) (λ p x a. later_parted a.is) later_takes turns w l).takes l;
  }

  some_take : (w : List Sym) → Takes turns (Fits AreParams Any (suc e)) [] (read.some_params e turns) w
  unfolding read.some_params
  some_take w = bind_takes {S = Fits IsParam Any (suc e)} (param_takes w) (λ p x r parts d. bind_takes {S = Fits AreMoreParams Any (suc e)} (more_params_take r)
      (λ list y r2 parts2 b. pure_takes (fit _ (some_params d.is b.is) (omega (arith, d.most, b.most)) tt)))

  params_take : (w : List Sym) → Takes turns (Fits AreParams Any (suc e)) [] (read.params e turns) w
  unfolding read.params
  params_take w = look_takes (λ s. pick (is_sign mark.CloseParen s) (pure []) (pick (is_keyword keyword.Void s) (take >>= (λ _. pure [])) (read.some_params e turns)))
      (pick_takes (is_sign mark.CloseParen (head w)) (λ i. pure_takes (fit 0 no_params (omega arith) tt))
      (λ i. pick_takes (is_keyword keyword.Void (head w)) (λ j. take_word_takes j (λ t r is. pure_takes (fit 0 (void_params is) (omega arith) tt))) (λ j. some_take w)))

  -- ---- objects

  length_takes : (w : List Sym) → Takes turns (Fits IsLength Any (suc e)) [] (read.array_length e turns) w
  unfolding read.array_length
  length_takes w = choose_takes (is_sign mark.OpenBracket)
      (λ i. take_sign_takes i (λ u r is. bind_takes {S = Fits (IsOptional mark.CloseBracket) Any (suc e)} (bracket_takes r) (λ c x r2 parts o. pure_takes (fit _ (a_length is o.is) o.most tt))))
      (λ i. pure_takes (fit 0 no_array (omega arith) tt))

  more_values_take : (n : ℕ) (w : List Sym) → length w < n → Takes turns (Fits AreMoreValues Any (suc e)) [] (read.more_values e turns n) w
  unfolding read.more_values read.value_behind is_sign
  more_values_take zero w l = absurd (omega (arith, l))
  more_values_take (suc n) [] l = choose_takes (is_sign mark.Comma) (λ i. absurd (true≢false (sym i))) (λ i. pure_takes (fit 0 last_value (omega arith) tt))
  more_values_take (suc n) (u ∷ w) l = choose_takes (is_sign mark.Comma)
      (λ i. take_takes (choose_takes (is_sign mark.CloseBrace) (λ j. pure_takes (fit 0 (last_comma (record { is = sign_kind mark.Comma u.kind i })) (omega arith) tt))
      (λ j. bind_takes {S = Short full (suc e)} (cond_takes e turns w)
      (λ a x r2 parts s. bind_takes {S = Fits AreMoreValues Any (suc e)} (more_values_take n r2 (omega (arith, l, ap length parts, length-append x r2)))
      (λ list y r3 parts2 b. pure_takes (fit _ (next_value (record { is = sign_kind mark.Comma u.kind i }) s.is b.is) (omega (arith, s.inside.most, b.most)) tt))))))
      (λ i. pure_takes (fit 0 last_value (omega arith) tt))

  values_take : (w : List Sym) → Takes turns (Fits AreValues Any (suc e)) [] (read.values e turns) w
  unfolding read.values
  values_take w = choose_takes (is_sign mark.CloseBrace) (λ i. pure_takes (fit 0 no_values (omega arith) tt))
      (λ i. bind_takes {S = Short full (suc e)} (cond_takes e turns w)
      (λ a x r parts s. bind_takes {S = Fits AreMoreValues Any (suc e)} (more_here r) (λ list y r2 parts2 b. pure_takes (fit _ (some_values s.is b.is) (omega (arith, s.inside.most, b.most)) tt))))
    where
      more_here : (r : List Sym) → Takes turns (Fits AreMoreValues Any (suc e)) [] (read.more_values e turns turns) r
      more_here r = record { takes = λ l. (more_values_take turns r l).takes l }

  braced_takes : (w : List Sym) → is_sign mark.OpenBrace (head w) ≡ true → Takes turns (Fits Forms.IsBraced Any (suc e)) [] (read.braced_initial e turns) w
  unfolding read.braced_initial
  braced_takes w i = take_sign_takes i (λ u r is. then_expect_takes {S = Fits AreValues Any (suc e)} (values_take r) (λ list x v r2 a shuts. pure_takes (fit _ (Forms.braced is a.is shuts) a.most tt)))

  scalar_takes : (w : List Sym) → Takes turns (Fits Forms.IsScalar Any (suc e)) [] (read.scalar_initial e turns) w
  unfolding read.scalar_initial
  scalar_takes w = here_then_takes {S = Short full (suc e)} (λ l k a. pure (record { items = Some (a.tree ∷ []); braced = false; line = l; token = k })) (cond_takes e turns w) (λ a v s. starts_parted (spelled_starts s.is))
      (λ a v r s. pure_takes (fit _ (Forms.scalar s.is) s.inside.most tt))

  initial_takes : (w : List Sym) → Takes turns (Fits IsInitial Any (suc e)) [] (read.initial e turns) w
  unfolding read.initial
  initial_takes w = choose_takes (is_sign mark.Assign)
      (λ i. take_sign_takes i (λ t r is. choose_takes (is_sign mark.OpenBrace) (λ j. tail_takes {S = Fits Forms.IsBraced Any (suc e)} (braced_takes r j) (λ a x d. fit _ (Forms.braced_initial is d.is) d.most tt))
      (λ j. tail_takes {S = Fits Forms.IsScalar Any (suc e)} (scalar_takes r) (λ a x d. fit _ (Forms.scalar_initial is d.is) d.most tt))))
      (λ i. pure_takes (fit 0 not_initial (omega arith) tt))

  object_takes : (of : ObjectType) (n : Named) (w : List Sym) → Takes turns (Fits (IsObject of n) (ItemAt 0) (suc e)) [] (read.object e turns of n) w
  unfolding read.object
  object_takes of n w = bind_takes {S = Fits IsLength Any (suc e)} (length_takes w)
      (λ array x r parts a. bind_takes {S = Fits IsInitial Any (suc e)} (initial_takes r) (λ init y r2 parts2 b. pure_takes (fit _ (an_object a.is b.is) (omega (arith, a.most, b.most)) (omega arith))))

  later_object_takes : (of : ObjectType) (w : List Sym) → is_sign mark.Comma (head w) ≡ true → Takes turns (Fits (Forms.IsLaterObject of) (ItemAt 0) (suc e)) [] (read.later_object e turns of) w
  unfolding read.later_object
  later_object_takes of w i = take_sign_takes i (λ t r is. bind_takes {S = IsName} (name_takes turns r)
      (λ n x r2 parts name. tail_takes {S = Fits (IsObject of n) (ItemAt 0) (suc e)} (object_takes of n r2) (λ o y d. fit _ (Forms.later_object is name d.is) d.most d.fits)))

  later_object_parted : {of : ObjectType} {o : ItemTree} {h : ℕ} {x : List Sym} → Forms.IsLaterObject of o h x → Parted x
  later_object_parted (Forms.later_object {t = t} {x = x} {y = y} i n d) = record { first = t; others = x ++ y; parts = refl }

  more_objects_take : (of : ObjectType) (w : List Sym) → Takes turns (Fits (AreMoreObjects of) (UnitAt 0) (suc e)) [] (many turns (is_sign mark.Comma) (read.later_object e turns of)) w
  more_objects_take of w = record {
    takes = λ l. (many_takes {S = Fits (Forms.IsLaterObject of) (ItemAt 0) (suc e)} {L = Fits (AreMoreObjects of) (UnitAt 0) (suc e)} (is_sign mark.Comma) (read.later_object e turns of)
        (fit 0 Grammar.AreMoreObjects.none_more (omega arith) (omega arith))
        (λ a list y z p q. fit _ (Forms.object_joined p.is q.is) (omega (arith, p.most, q.most)) (omega (arith, p.fits, q.fits))) (λ a x p. later_object_parted p.is) (later_object_takes of) turns w l).takes l;
  }

  objects_take : (of : ObjectType) (n : Named) (w : List Sym) → Takes turns (Fits (AreObjects of n) (UnitAt 0) (suc e)) [] (read.objects e turns of n) w
  unfolding read.objects
  objects_take of n w = bind_takes {S = Fits (IsObject of n) (ItemAt 0) (suc e)} (object_takes of n w)
      (λ o x r parts d. then_expect_takes {S = Fits (AreMoreObjects of) (UnitAt 0) (suc e)} (more_objects_take of r)
      (λ list y v r2 b shuts. pure_takes (fit _ (Forms.objects_as d.is b.is shuts) (omega (arith, d.most, b.most)) (omega (arith, d.fits, b.fits)))))

module _ (clauses : Clauses) (e d turns : ℕ) where
  -- ---- functions

  definition_takes : (ps : List ParamDecl) (w : List Sym) → Takes turns (Fits (IsBody clauses ps) (BodyAt d) (suc e)) [] (read.definition clauses e d turns ps) w
  unfolding read.definition
  definition_takes ps w = pick_takes (all_named ps)
      (λ i. bind_takes {S = Fits (IsBlock clauses) (At d) (suc e)} (body_takes clauses e turns d w) (λ s x r parts b. pure_takes (fit _ (defined i b.is) b.most b.fits))) (λ i. refuse_takes)

  end_takes : (ps : List ParamDecl) (w : List Sym) → Takes turns (Fits (IsBody clauses ps) (BodyAt d) (suc e)) [] (read.function_end clauses e d turns ps) w
  unfolding read.function_end
  end_takes ps w = choose_takes (is_sign mark.Semicolon) (λ i. take_sign_takes i (λ t r is. pure_takes (fit 0 (declared is) (omega arith) (omega arith)))) (λ i. definition_takes ps w)

  function_takes : (ls : List DirectiveTree) (result : CType) (n : Named) (w : List Sym) → Takes turns (Fits (IsFunction clauses ls result n) (ItemAt d) (suc e)) [] (read.function clauses e d turns ls result n) w
  unfolding read.function
  function_takes ls result n w = expect_takes (λ u r opens. then_expect_takes {S = Fits AreParams Any (suc e)} (params_take e turns r)
      (λ ps x v r2 a shuts. bind_takes {S = Fits (IsBody clauses ps) (BodyAt d) (suc e)} (end_takes ps r2) (λ b y r3 parts c. pure_takes (fit _ (Forms.function_as opens a.is shuts c.is) (omega (arith, a.most, c.most)) c.fits))))

  one_function_takes : (ls : List DirectiveTree) (result : CType) (n : Named) (w : List Sym) → Takes turns (Fits (Forms.IsOneFunction clauses ls result n) (UnitAt d) (suc e)) [] (read.one_function clauses e d turns ls result n) w
  unfolding read.one_function
  one_function_takes ls result n w = bind_takes {S = Fits (IsFunction clauses ls result n) (ItemAt d) (suc e)} (function_takes ls result n w) (λ f x r parts a. pure_takes (fit _ (Forms.one_function a.is) a.most (omega (arith, a.fits))))

  lost_objects_take : (ls : List DirectiveTree) (of : ObjectType) (n : Named) (w : List Sym) → Takes turns (Fits (Forms.AreLostObjects ls of n) (UnitAt d) (suc e)) [] (read.lost_objects clauses e d turns ls of n) w
  unfolding read.lost_objects
  lost_objects_take ls of n w = bind_takes {S = Fits (AreObjects of n) (UnitAt 0) (suc e)} (objects_take e turns of n w)
      (λ list x r parts a. pure_takes (fit _ (Forms.lost_objects a.is) a.most (unit_joined d (lost_lines ls) list (lost_at d ls) (omega (arith, a.fits)))))

  -- ---- items

  void_takes : (ls : List DirectiveTree) (outside : Bool) (o w : List Sym) → IsExtern outside o → is_keyword keyword.Void (head w) ≡ true → Takes turns (Fits (IsItem clauses ls) (UnitAt d) (suc e)) o (read.void_function clauses e d turns ls) w
  unfolding read.void_function
  void_takes ls outside o w x i = take_word_takes i (λ t r is. bind_takes {S = IsName} (name_takes turns r)
      (λ n y r2 parts name. tail_takes {S = Fits (Forms.IsOneFunction clauses ls ctype.Void n) (UnitAt d) (suc e)} (one_function_takes ls ctype.Void n r2) (λ list z f. fit _ (Forms.void_as x is name f.is) f.most f.fits)))

  typed_item_takes : (ls : List DirectiveTree) (outside : Bool) (o c v : List Sym) (n : Named) (y w : List Sym) → IsExtern outside o → IsTypeText c v → IsName n y
      → Takes turns (Fits (IsItem clauses ls) (UnitAt d) (suc e)) ((o ++ v) ++ y) (read.typed_item clauses e d turns ls (Forms.type_of_objects c outside) n) w
  unfolding read.typed_item
  typed_item_takes ls outside o c v n y w x t name = choose_takes (is_sign mark.OpenParen)
      (λ i. tail_takes {S = Fits (Forms.IsOneFunction clauses ls (ctype.Int (type_in c)) n) (UnitAt d) (suc e)} (one_function_takes ls (ctype.Int (type_in c)) n w) (λ list z f. fit _ (Forms.int_as x t name f.is) f.most f.fits))
      (λ i. tail_takes {S = Fits (Forms.AreLostObjects ls (Forms.type_of_objects c outside) n) (UnitAt d) (suc e)} (lost_objects_take ls (Forms.type_of_objects c outside) n w) (λ list z f. fit _ (Forms.objects_item x t name f.is) f.most f.fits))

  typed_takes : (ls : List DirectiveTree) (outside : Bool) (o w : List Sym) → IsExtern outside o → Takes turns (Fits (IsItem clauses ls) (UnitAt d) (suc e)) o (read.typed clauses e d turns ls outside) w
  unfolding read.typed
  typed_takes ls outside o w x = bind_takes {S = λ c v. IsTypeText c v × Any c} (type_words_take e turns w)
      (λ c v r parts t. bind_takes {S = IsName} (name_takes turns r) (λ n y r2 parts2 name. typed_item_takes ls outside o c v n y r2 x t.0 name))

  item_takes : (ls : List DirectiveTree) (w : List Sym) → Takes turns (Fits (IsItem clauses ls) (UnitAt d) (suc e)) [] (read.item clauses e d turns ls) w
  unfolding read.item
  item_takes ls w = bind_takes {S = IsExtern} (extern_takes turns w)
      (λ outside o r parts x. choose_takes (is_keyword keyword.Void) (λ i. void_takes ls outside o r x i) (λ i. typed_takes ls outside o r x))

  items_take : (n : ℕ) (w : List Sym) → length w < n → Takes turns (Fits (AreItems clauses) (UnitAt d) (suc e)) [] (read.items clauses e d turns n) w
  unfolding read.items read.items_step
  items_take zero w l = absurd (omega (arith, l))
  items_take (suc n) w l = bind_takes {S = AreLines clauses} (lines_take turns clauses w)
      (λ ls x r parts a. choose_takes is_end (λ i. pure_takes (fit 0 (last_lines a) (omega arith) (lost_at d ls)))
      (λ i. bind_takes {S = Fits (IsItem clauses ls) (UnitAt d) (suc e)} (item_takes ls r)
      (λ list y r2 parts2 b. bind_takes {S = Fits (AreItems clauses) (UnitAt d) (suc e)} (items_take n r2 (shrinks x r y r2 parts parts2 b.is))
      (λ rest z r3 parts3 c. pure_takes (fit _ (Forms.items_as a b.is c.is) (omega (arith, b.most, c.most)) (unit_joined d list rest b.fits c.fits))))))
    where
      shrinks : {ls : List DirectiveTree} {list : List ItemTree} {h : ℕ} (x r y r2 : List Sym) → w ≡ x ++ r → r ≡ y ++ r2 → IsItem clauses ls list h y → length r2 < n
      shrinks x r y r2 p q b = let k = Forms.item_parted b in omega (arith, l, ap length p, length-append x r, ap length q, length-append y r2, ap length k.parts)

  pub unit_takes : (w : List Sym) → Takes turns (Fits (AreItems clauses) (UnitAt d) (suc e)) [] (read.items clauses e d turns turns) w
  unit_takes w = record { takes = λ l. (items_take turns w l).takes l }
