-- What the reader of units tells follows the grammar, function by function.
use Rattle.std.proofs.Common.{◌≡◌, ℕ, zero, suc, Bool, true, false, List, [], ◌∷◌, ◌++◌, Some, None, inl, refl, sym, ap, ◌∙◌, subst, append_assoc, append-nil, true≢false}
use Rattle.vk_types.specs.declared.types.Ty.{Ty}
use Rattle.vk_kinds.specs.declared.heads.CType.{CType}
use Rattle.vk_kinds.specs.declared.heads.CType.TheVariants as ctype
use Rattle.vk_ast.specs.declared.items.ParamDecl.{ParamDecl}
use Rattle.vk_ast.specs.Directives.{DirectiveTree}
use Rattle.vk_tokens.specs.declared.tokens.Mark.TheVariants as mark
use Rattle.vk_grammar_expr.specs.declared.symbols.Sym.{Sym}
use Rattle.vk_grammar_expr.specs.declared.symbols.SymKind.{SymKind}
use Rattle.vk_grammar_expr.specs.declared.symbols.SymKind.TheVariants as kind
use Rattle.vk_grammar_expr.specs.declared.symbols.Keyword.TheVariants as keyword
use Rattle.vk_grammar_expr.specs.Symbols.{head, line_at, number_at, IsSign, is_sign}
use Rattle.vk_grammar_expr.specs.Types.{type_in}
use Rattle.vk_grammar_expr.specs.Grammar.{full}
use Rattle.vk_grammar_expr.specs.Inner.Parser.{pure, ◌>>=◌, take, pick, many}
use Rattle.vk_grammar_expr.proofs.Steps.{Follows, goes, finished, pure_follows, refuse_follows, pick_follows, look_follows, choose_follows, choose_some_follows, bind_follows, take_follows, token_follows, tail_follows, many_follows}
use Rattle.vk_grammar_expr.proofs.Signs.{sign_of, sign_of_is, take_sign_follows, expect_follows, then_expect_follows}
use Rattle.vk_grammar_expr.proofs.Starts.{Spelled, spelled_starts}
use Rattle.vk_grammar_expr.proofs.Sound.{IsTypeText, type_words_follows}
use Rattle.vk_grammar_stmt.specs.Words.{is_keyword, name_at, has_const}
use Rattle.vk_grammar_stmt.specs.Trees.{Clauses}
use Rattle.vk_grammar_stmt.specs.Grammar.{IsOptional, IsBlock}
use Rattle.vk_grammar_stmt.proofs.Signs.{Has, has, take_word_follows, word_of, word_of_is, take_name_follows, here_then_follows}
use Rattle.vk_grammar_stmt.proofs.Starts.{no_name, name_sym, int_sym, semicolon}
use Rattle.vk_grammar_stmt.proofs.Forms.{starts_parted}
use Rattle.vk_grammar_stmt.proofs.Sound.{cond_follows, optional_follows, body_follows}
use Rattle.vk_grammar_unit.specs.Items
use Rattle.vk_grammar_unit.specs.Items.{Named, is_qualifier, is_line, is_end, pointer_to, with_name, without_name, all_named, function_tree, ObjectType, Initial, no_initial, object_tree, lost_lines}
use Rattle.vk_grammar_unit.specs.Grammar
use Rattle.vk_grammar_unit.specs.Grammar.{IsName, IsExtern, no_extern, an_extern, AreLines, no_lines, a_line, AreQualifiers, no_qualifiers, a_qualifier, IsParamRest, value_unnamed, value_named, pointer_unnamed, pointer_named, IsParam, AreMoreParams, AreParams, no_params, void_params, some_params, IsBody, declared, defined, IsFunction, IsLength, no_array, a_length, AreMoreValues, last_value, last_comma, next_value, AreValues, no_values, some_values, IsInitial, not_initial, IsObject, an_object, AreMoreObjects, AreObjects, IsItem, AreItems, last_lines}
use Rattle.vk_grammar_unit.specs.Inner.Reading as read
use Rattle.vk_grammar_unit.specs.Inner.Reading.{named_by}
use Rattle.vk_grammar_unit.proofs.Forms

abbrev zero_name : Named
zero_name = record { line = 0; token = 0; name = no_name }

zero_name_is : IsName zero_name (name_sym ∷ [])
zero_name_is = Grammar.a_name (record { is = refl })

pub name_follows : (w : List Sym) → Follows IsName [] read.name w
unfolding read.name
name_follows w = choose_some_follows name_at (λ id i. take_name_follows i (λ t r is. pure_follows (Grammar.a_name is))) (λ i. refuse_follows (goes (name_sym ∷ []) zero_name zero_name_is))

extern_follows : (w : List Sym) → Follows IsExtern [] read.extern_word w
unfolding read.extern_word
extern_follows w = choose_follows (is_keyword keyword.Extern) (λ i. take_word_follows i (λ t r is. pure_follows (an_extern is))) (λ i. pure_follows no_extern)

-- ---- lines of directives

pub line_kind : (k : SymKind) (n : ℕ) → Items.line_at (Some k) ≡ Some n → k ≡ kind.Simdfn n
unfolding Items.line_at
line_kind (kind.Simdfn m) n e = let same : m ≡ n = cc in ap kind.Simdfn same
line_kind _ n e = absurd (cc)

line_follows : (clauses : Clauses) (w : List Sym) → is_line (Items.line_at (head w)) ≡ true → Follows (Forms.IsLine clauses) [] (read.line clauses) w
unfolding read.line Items.line_at
line_follows clauses [] e = absurd (true≢false (sym e))
line_follows clauses (t ∷ r) e = choose_some_follows Items.line_at (λ n i. take_follows (pure_follows (Forms.one_line (record { is = line_kind t.kind n i })))) (λ i. absurd (true≢false (sym e ∙ ap is_line i)))

pub line_joined : (clauses : Clauses) (d : DirectiveTree) (list : List DirectiveTree) (x y : List Sym) → Forms.IsLine clauses d x → AreLines clauses list y → AreLines clauses (d ∷ list) (x ++ y)
line_joined clauses d list x y (Forms.one_line i) b = a_line i b

lines_follow : (clauses : Clauses) (turns : ℕ) (w : List Sym) → Follows (AreLines clauses) [] (read.lines clauses turns) w
unfolding read.lines
lines_follow clauses turns w = many_follows (λ k. is_line (Items.line_at k)) (read.line clauses) no_lines (line_joined clauses) (line_follows clauses) turns w

module _ (e turns : ℕ) where
  -- ---- parameters

  array_follows : (l k : ℕ) (ty : Ty) (fixed : Bool) (n : Named) (x w : List Sym) → IsName n x → Follows (Has (IsParamRest l k ty fixed)) x (read.array_param e turns ty fixed n) w
  unfolding read.array_param
  array_follows l k ty fixed n x w name = choose_follows (is_sign mark.OpenBracket)
      (λ i. take_sign_follows i (λ u r is. bind_follows {S = Has (IsOptional mark.CloseBracket)} (optional_follows e turns mark.CloseBracket r)
      (λ c y r2 parts o. pure_follows (has _ (Forms.array_as name is o.is))) (λ c y o. finished (with_name n (pointer_to ty fixed) false) (has _ (Forms.array_as name is o.is)))))
      (λ i. pure_follows (has _ (value_named name)))

  value_follows : (l k : ℕ) (ty : Ty) (fixed : Bool) (w : List Sym) → Follows (Has (IsParamRest l k ty fixed)) [] (read.value_param e turns l k ty fixed) w
  unfolding read.value_param
  value_follows l k ty fixed w = choose_some_follows name_at (λ id i. take_name_follows i (λ t r is. array_follows l k ty fixed (named_by t id) (t ∷ []) r (Grammar.a_name is))) (λ i. pure_follows (has _ value_unnamed))

  pointer_name_follows : (l k : ℕ) (ty : Ty) (fixed : Bool) (u : Sym) (q x w : List Sym) → IsSign mark.Star u → Forms.QualifierText q x
      → Follows (Has (IsParamRest l k ty fixed)) (u ∷ x) (read.pointer_name e turns l k (pointer_to ty fixed) (has_const q)) w
  unfolding read.pointer_name
  pointer_name_follows l k ty fixed u q x w i text = subst (λ z. Follows (Has (IsParamRest l k ty fixed)) (u ∷ x) (read.pointer_name e turns l k (pointer_to ty fixed) (has_const z)) w) (sym text.same)
      (choose_some_follows name_at (λ id j. take_name_follows j (λ t r is. pure_follows (has _ (pointer_named i text.are (Grammar.a_name is))))) (λ j. pure_follows (has _ (pointer_unnamed i text.are))))

  qualifier_follows : (w : List Sym) → is_qualifier (head w) ≡ true → Follows (λ t u. (u ≡ t ∷ []) × (is_qualifier (Some t.kind) ≡ true)) [] take w
  unfolding is_qualifier
  qualifier_follows [] i = absurd (true≢false (sym i))
  qualifier_follows (t ∷ r) i = token_follows (refl, i)

  pub qualifier_joined : (t : Sym) (q x y : List Sym) → (x ≡ t ∷ []) × (is_qualifier (Some t.kind) ≡ true) → Forms.QualifierText q y → Forms.QualifierText (t ∷ q) (x ++ y)
  qualifier_joined t q x y i b = subst (λ z. Forms.QualifierText (t ∷ q) (z ++ y)) (sym i.0) (record { same = ap (λ z. t ∷ z) b.same; are = a_qualifier i.1 b.are })

  qualifiers_follow : (w : List Sym) → Follows Forms.QualifierText [] (many turns is_qualifier take) w
  qualifiers_follow w = many_follows {S = λ t u. (u ≡ t ∷ []) × (is_qualifier (Some t.kind) ≡ true)} is_qualifier take (record { same = refl; are = no_qualifiers }) qualifier_joined qualifier_follows turns w

  rest_follows : (l k : ℕ) (ty : Ty) (fixed : Bool) (w : List Sym) → Follows (Has (IsParamRest l k ty fixed)) [] (read.param_rest e turns l k ty fixed) w
  unfolding read.param_rest read.pointer_param
  rest_follows l k ty fixed w = choose_follows (is_sign mark.Star)
      (λ i. take_sign_follows i (λ u r is. bind_follows {S = Forms.QualifierText} (qualifiers_follow r) (λ q x r2 parts text. pointer_name_follows l k ty fixed u q x r2 is text)
      (λ q x text. goes [] (without_name l k (pointer_to ty fixed) (has_const x)) (has _ (subst (IsParamRest l k ty fixed (without_name l k (pointer_to ty fixed) (has_const x)) 0) (sym (append-nil (u ∷ x))) (pointer_unnamed is text.are))))))
      (λ i. value_follows l k ty fixed w)

  pub param_follows : (w : List Sym) → Follows (Has IsParam) [] (read.param e turns) w
  unfolding read.param
  param_follows w = here_then_follows {S = IsTypeText} (λ l k c. read.param_rest e turns l k (type_in c) (has_const c)) (type_words_follows turns w) (λ c v t. Forms.text_parted t)
      (λ c v r t. tail_follows {S = Has (IsParamRest (line_at v) (number_at v) (type_in c) (has_const c))} (rest_follows (line_at v) (number_at v) (type_in c) (has_const c) r) (λ p x d. has _ (Forms.param_as t d.is)))
      (λ c v t. goes [] (without_name (line_at v) (number_at v) (ctype.Int (type_in c)) (has_const c)) (has _ (Forms.param_as t value_unnamed)))

  abbrev zero_param : ParamDecl
  zero_param = without_name 0 0 (ctype.Int (type_in (int_sym ∷ []))) false

  later_follows : (w : List Sym) → is_sign mark.Comma (head w) ≡ true → Follows (Has Forms.IsLaterParam) [] (read.later_param e turns) w
  unfolding read.later_param
  later_follows w i = take_sign_follows i (λ t r is. tail_follows {S = Has IsParam} (param_follows r) (λ p x d. has _ (Forms.later_param is d.is)))

  some_follow : (w : List Sym) → Follows (Has AreParams) [] (read.some_params e turns) w
  unfolding read.some_params
  some_follow w = bind_follows {S = Has IsParam} (param_follows w)
      (λ p x r parts d. bind_follows {S = Has AreMoreParams} (many_follows {S = Has Forms.IsLaterParam} (is_sign mark.Comma) (read.later_param e turns) (has _ Grammar.AreMoreParams.none_more)
      (λ q list y z a b. has _ (Forms.param_joined a.is b.is)) later_follows turns r)
      (λ list y r2 parts2 b. pure_follows (has _ (some_params d.is b.is))) (λ list y b. finished (p ∷ list) (has _ (some_params d.is b.is))))
      (λ p x d. goes [] (p ∷ []) (has _ (some_params d.is Grammar.AreMoreParams.none_more)))

  params_follow : (w : List Sym) → Follows (Has AreParams) [] (read.params e turns) w
  unfolding read.params
  params_follow w = look_follows (λ s. pick (is_sign mark.CloseParen s) (pure []) (pick (is_keyword keyword.Void s) (take >>= (λ _. pure [])) (read.some_params e turns)))
      (pick_follows (is_sign mark.CloseParen (head w)) (λ i. pure_follows (has _ no_params))
      (λ i. pick_follows (is_keyword keyword.Void (head w)) (λ j. take_word_follows j (λ t r is. pure_follows (has _ (void_params is)))) (λ j. some_follow w)))

  -- ---- objects

  length_follows : (w : List Sym) → Follows (Has IsLength) [] (read.array_length e turns) w
  unfolding read.array_length
  length_follows w = choose_follows (is_sign mark.OpenBracket)
      (λ i. take_sign_follows i (λ u r is. bind_follows {S = Has (IsOptional mark.CloseBracket)} (optional_follows e turns mark.CloseBracket r)
      (λ c x r2 parts o. pure_follows (has _ (a_length is o.is))) (λ c x o. finished (Some c) (has _ (a_length is o.is)))))
      (λ i. pure_follows (has _ no_array))

  more_values_follow : (n : ℕ) (w : List Sym) → Follows (Has AreMoreValues) [] (read.more_values e turns n) w
  unfolding read.more_values read.value_behind
  more_values_follow zero w = record { told = inl refl }
  more_values_follow (suc n) w = choose_follows (is_sign mark.Comma)
      (λ i. take_sign_follows i (λ t r is. choose_follows (is_sign mark.CloseBrace) (λ j. pure_follows (has _ (last_comma is)))
      (λ j. bind_follows {S = Spelled full} (cond_follows e turns r)
      (λ a x r2 parts s. bind_follows {S = Has AreMoreValues} (more_values_follow n r2) (λ list y r3 parts2 b. pure_follows (has _ (next_value is s b.is))) (λ list y b. finished (a.tree ∷ list) (has _ (next_value is s b.is))))
      (λ a x s. goes [] (a.tree ∷ []) (has _ (next_value is s last_value))))))
      (λ i. pure_follows (has _ last_value))

  values_follow : (w : List Sym) → Follows (Has AreValues) [] (read.values e turns) w
  unfolding read.values
  values_follow w = choose_follows (is_sign mark.CloseBrace) (λ i. pure_follows (has _ no_values))
      (λ i. bind_follows {S = Spelled full} (cond_follows e turns w)
      (λ a x r parts s. bind_follows {S = Has AreMoreValues} (more_values_follow turns r) (λ list y r2 parts2 b. pure_follows (has _ (some_values s b.is))) (λ list y b. finished (a.tree ∷ list) (has _ (some_values s b.is))))
      (λ a x s. goes [] (a.tree ∷ []) (has _ (some_values s last_value))))

  braced_follows : (w : List Sym) → is_sign mark.OpenBrace (head w) ≡ true → Follows (Has Forms.IsBraced) [] (read.braced_initial e turns) w
  unfolding read.braced_initial
  braced_follows w i = take_sign_follows i (λ u r is. then_expect_follows {S = Has AreValues} (values_follow r) (λ list x v r2 a shuts. pure_follows (has _ (Forms.braced is a.is shuts)))
      (λ list x v a shuts. finished (record { items = Some list; braced = true; line = u.line; token = u.at }) (has _ (Forms.braced is a.is shuts))))

  scalar_follows : (w : List Sym) → Follows (Has Forms.IsScalar) [] (read.scalar_initial e turns) w
  unfolding read.scalar_initial
  scalar_follows w = here_then_follows {S = Spelled full} (λ l k a. pure (record { items = Some (a.tree ∷ []); braced = false; line = l; token = k })) (cond_follows e turns w) (λ a v s. starts_parted (spelled_starts s))
      (λ a v r s. pure_follows (has _ (Forms.scalar s))) (λ a v s. finished (record { items = Some (a.tree ∷ []); braced = false; line = line_at v; token = number_at v }) (has _ (Forms.scalar s)))

  initial_follows : (w : List Sym) → Follows (Has IsInitial) [] (read.initial e turns) w
  unfolding read.initial
  initial_follows w = choose_follows (is_sign mark.Assign)
      (λ i. take_sign_follows i (λ t r is. choose_follows (is_sign mark.OpenBrace) (λ j. tail_follows {S = Has Forms.IsBraced} (braced_follows r j) (λ a x d. has _ (Forms.braced_initial is d.is)))
      (λ j. tail_follows {S = Has Forms.IsScalar} (scalar_follows r) (λ a x d. has _ (Forms.scalar_initial is d.is)))))
      (λ i. pure_follows (has _ not_initial))

  object_follows : (of : ObjectType) (n : Named) (w : List Sym) → Follows (Has (IsObject of n)) [] (read.object e turns of n) w
  unfolding read.object
  object_follows of n w = bind_follows {S = Has IsLength} (length_follows w)
      (λ array x r parts a. bind_follows {S = Has IsInitial} (initial_follows r) (λ init y r2 parts2 b. pure_follows (has _ (an_object a.is b.is))) (λ init y b. finished (object_tree of n array init) (has _ (an_object a.is b.is))))
      (λ array x a. goes [] (object_tree of n array no_initial) (has _ (an_object a.is not_initial)))

  bare_object : (of : ObjectType) (n : Named) → IsObject of n (object_tree of n None no_initial) 0 []
  bare_object of n = an_object no_array not_initial

  later_object_follows : (of : ObjectType) (w : List Sym) → is_sign mark.Comma (head w) ≡ true → Follows (Has (Forms.IsLaterObject of)) [] (read.later_object e turns of) w
  unfolding read.later_object
  later_object_follows of w i = take_sign_follows i (λ t r is. bind_follows {S = IsName} (name_follows r)
      (λ n x r2 parts name. tail_follows {S = Has (IsObject of n)} (object_follows of n r2) (λ o y d. has _ (Forms.later_object is name d.is)))
      (λ n x name. goes [] (object_tree of n None no_initial) (has _ (Forms.later_object is name (bare_object of n)))))

  objects_follow : (of : ObjectType) (n : Named) (w : List Sym) → Follows (Has (AreObjects of n)) [] (read.objects e turns of n) w
  unfolding read.objects
  objects_follow of n w = bind_follows {S = Has (IsObject of n)} (object_follows of n w)
      (λ o x r parts d. then_expect_follows {S = Has (AreMoreObjects of)} (many_follows {S = Has (Forms.IsLaterObject of)} (is_sign mark.Comma) (read.later_object e turns of) (has _ Grammar.AreMoreObjects.none_more)
      (λ a list y z p q. has _ (Forms.object_joined p.is q.is)) (later_object_follows of) turns r)
      (λ list y v r2 b shuts. pure_follows (has _ (Forms.objects_as d.is b.is shuts))) (λ list y v b shuts. finished (o ∷ list) (has _ (Forms.objects_as d.is b.is shuts))))
      (λ o x d. goes (semicolon ∷ []) (o ∷ []) (has _ (Grammar.AreObjects.objects d.is Grammar.AreMoreObjects.none_more sign_of_is)))

module _ (clauses : Clauses) (e d turns : ℕ) where
  -- ---- functions

  definition_follows : (ps : List ParamDecl) (w : List Sym) → Follows (Has (IsBody clauses ps)) [] (read.definition clauses e d turns ps) w
  unfolding read.definition
  definition_follows ps w = pick_follows (all_named ps)
      (λ i. bind_follows {S = Has (IsBlock clauses)} (body_follows clauses e turns d w) (λ s x r parts b. pure_follows (has _ (defined i b.is))) (λ s x b. finished (Some s) (has _ (defined i b.is))))
      (λ i. refuse_follows (goes (semicolon ∷ []) None (has _ (declared sign_of_is))))

  end_follows : (ps : List ParamDecl) (w : List Sym) → Follows (Has (IsBody clauses ps)) [] (read.function_end clauses e d turns ps) w
  unfolding read.function_end
  end_follows ps w = choose_follows (is_sign mark.Semicolon) (λ i. take_sign_follows i (λ t r is. pure_follows (has _ (declared is)))) (λ i. definition_follows ps w)

  function_follows : (ls : List DirectiveTree) (result : CType) (n : Named) (w : List Sym) → Follows (Has (IsFunction clauses ls result n)) [] (read.function clauses e d turns ls result n) w
  unfolding read.function
  function_follows ls result n w = expect_follows
      (λ u r opens. then_expect_follows {S = Has AreParams} (params_follow e turns r)
      (λ ps x v r2 a shuts. bind_follows {S = Has (IsBody clauses ps)} (end_follows ps r2) (λ b y r3 parts c. pure_follows (has _ (Forms.function_as opens a.is shuts c.is)))
      (λ b y c. finished (function_tree n ls result ps b) (has _ (Forms.function_as opens a.is shuts c.is))))
      (λ ps x v a shuts. goes (semicolon ∷ []) (function_tree n ls result ps None) (has _ (Forms.function_as opens a.is shuts (declared sign_of_is)))))
      (λ u opens. goes (sign_of mark.CloseParen ∷ (semicolon ∷ [])) (function_tree n ls result [] None) (has _ (Grammar.a_function opens no_params sign_of_is (declared sign_of_is))))

  one_function_follows : (ls : List DirectiveTree) (result : CType) (n : Named) (w : List Sym) → Follows (Has (Forms.IsOneFunction clauses ls result n)) [] (read.one_function clauses e d turns ls result n) w
  unfolding read.one_function
  one_function_follows ls result n w = bind_follows {S = Has (IsFunction clauses ls result n)} (function_follows ls result n w) (λ f x r parts a. pure_follows (has _ (Forms.one_function a.is))) (λ f x a. finished (f ∷ []) (has _ (Forms.one_function a.is)))

  -- `( ) ;`
  abbrev no_body : List Sym
  no_body = sign_of mark.OpenParen ∷ (sign_of mark.CloseParen ∷ (semicolon ∷ []))

  no_body_is : (ls : List DirectiveTree) (result : CType) (n : Named) → Forms.IsOneFunction clauses ls result n (function_tree n ls result [] None ∷ []) 0 no_body
  no_body_is ls result n = Forms.one_function (Grammar.a_function sign_of_is no_params sign_of_is (declared sign_of_is))

  lost_objects_follow : (ls : List DirectiveTree) (of : ObjectType) (n : Named) (w : List Sym) → Follows (Has (Forms.AreLostObjects ls of n)) [] (read.lost_objects clauses e d turns ls of n) w
  unfolding read.lost_objects
  lost_objects_follow ls of n w = bind_follows {S = Has (AreObjects of n)} (objects_follow e turns of n w) (λ list x r parts a. pure_follows (has _ (Forms.lost_objects a.is))) (λ list x a. finished (lost_lines ls ++ list) (has _ (Forms.lost_objects a.is)))

  -- ---- items

  void_follows : (ls : List DirectiveTree) (outside : Bool) (o w : List Sym) → IsExtern outside o → is_keyword keyword.Void (head w) ≡ true → Follows (Has (IsItem clauses ls)) o (read.void_function clauses e d turns ls) w
  unfolding read.void_function
  void_follows ls outside o w x i = take_word_follows i (λ t r is. bind_follows {S = IsName} (name_follows r)
      (λ n y r2 parts name. tail_follows {S = Has (Forms.IsOneFunction clauses ls ctype.Void n)} (one_function_follows ls ctype.Void n r2) (λ list z f. has _ (Forms.void_as x is name f.is)))
      (λ n y name. goes no_body (function_tree n ls ctype.Void [] None ∷ []) (has _ (Forms.void_as x is name (no_body_is ls ctype.Void n)))))

  typed_item_follows : (ls : List DirectiveTree) (outside : Bool) (o c v : List Sym) (n : Named) (y w : List Sym) → IsExtern outside o → IsTypeText c v → IsName n y
      → Follows (Has (IsItem clauses ls)) ((o ++ v) ++ y) (read.typed_item clauses e d turns ls (Forms.type_of_objects c outside) n) w
  unfolding read.typed_item
  typed_item_follows ls outside o c v n y w x t name = choose_follows (is_sign mark.OpenParen)
      (λ i. tail_follows {S = Has (Forms.IsOneFunction clauses ls (ctype.Int (type_in c)) n)} (one_function_follows ls (ctype.Int (type_in c)) n w) (λ list z f. has _ (Forms.int_as x t name f.is)))
      (λ i. tail_follows {S = Has (Forms.AreLostObjects ls (Forms.type_of_objects c outside) n)} (lost_objects_follow ls (Forms.type_of_objects c outside) n w) (λ list z f. has _ (Forms.objects_item x t name f.is)))

  typed_follows : (ls : List DirectiveTree) (outside : Bool) (o w : List Sym) → IsExtern outside o → Follows (Has (IsItem clauses ls)) o (read.typed clauses e d turns ls outside) w
  unfolding read.typed
  typed_follows ls outside o w x = bind_follows {S = IsTypeText} (type_words_follows turns w)
      (λ c v r parts t. bind_follows {S = IsName} (name_follows r) (λ n y r2 parts2 name. typed_item_follows ls outside o c v n y r2 x t name)
      (λ n y name. goes no_body (function_tree n ls (ctype.Int (type_in c)) [] None ∷ []) (has _ (Forms.int_as x t name (no_body_is ls (ctype.Int (type_in c)) n)))))
      (λ c v t. goes (name_sym ∷ no_body) (function_tree zero_name ls (ctype.Int (type_in c)) [] None ∷ [])
      (subst (Has (IsItem clauses ls) (function_tree zero_name ls (ctype.Int (type_in c)) [] None ∷ [])) (append_assoc (o ++ v) (name_sym ∷ []) no_body) (has _ (Forms.int_as x t zero_name_is (no_body_is ls (ctype.Int (type_in c)) zero_name)))))

  item_follows : (ls : List DirectiveTree) (w : List Sym) → Follows (Has (IsItem clauses ls)) [] (read.item clauses e d turns ls) w
  unfolding read.item
  item_follows ls w = bind_follows {S = IsExtern} (extern_follows w)
      (λ outside o r parts x. choose_follows (is_keyword keyword.Void) (λ i. void_follows ls outside o r x i) (λ i. typed_follows ls outside o r x))
      (λ outside o x. goes (word_of keyword.Void ∷ (name_sym ∷ no_body)) (function_tree zero_name ls ctype.Void [] None ∷ [])
      (subst (Has (IsItem clauses ls) (function_tree zero_name ls ctype.Void [] None ∷ [])) (append_assoc (o ++ (word_of keyword.Void ∷ [])) (name_sym ∷ []) no_body ∙ append_assoc o (word_of keyword.Void ∷ []) (name_sym ∷ no_body))
      (has _ (Forms.void_as x word_of_is zero_name_is (no_body_is ls ctype.Void zero_name)))))

  pub items_follow : (n : ℕ) (w : List Sym) → Follows (Has (AreItems clauses)) [] (read.items clauses e d turns n) w
  unfolding read.items read.items_step
  items_follow zero w = record { told = inl refl }
  items_follow (suc n) w = bind_follows {S = AreLines clauses} (lines_follow clauses turns w)
      (λ ls x r parts a. choose_follows is_end (λ i. pure_follows (has _ (last_lines a)))
      (λ i. bind_follows {S = Has (IsItem clauses ls)} (item_follows ls r)
      (λ list y r2 parts2 b. bind_follows {S = Has (AreItems clauses)} (items_follow n r2) (λ rest z r3 parts3 c. pure_follows (has _ (Forms.items_as a b.is c.is)))
      (λ rest z c. finished (list ++ rest) (has _ (Forms.items_as a b.is c.is))))
      (λ list y b. goes [] (list ++ []) (has _ (Forms.items_as a b.is (last_lines no_lines))))))
      (λ ls x a. finished (lost_lines ls) (has _ (last_lines a)))
