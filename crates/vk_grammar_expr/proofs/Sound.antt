-- What the reader of expressions tells follows the grammar: the laws of `Steps`, function by function.
use Rattle.std.proofs.Common.{◌≡◌, ℕ, zero, suc, max, true, nat_lt, nat_le, List, [], ◌∷◌, ◌++◌, Some, inl, refl, sym, ap, ◌∙◌, subst, append_assoc, true≢false}
use Rattle.vk_ast.specs.declared.names.NameId.{NameId}
use Rattle.vk_ast.specs.declared.expressions.BinOp.{BinOp}
use Rattle.vk_ast.specs.Tree.{Tree}
use Rattle.vk_tokens.specs.declared.tokens.Mark.TheVariants as mark
use Rattle.vk_grammar_expr.specs.declared.symbols.Sym.{Sym}
use Rattle.vk_grammar_expr.specs.declared.symbols.SymKind.{SymKind}
use Rattle.vk_grammar_expr.specs.declared.symbols.SymKind.TheVariants as kind
use Rattle.vk_grammar_expr.specs.declared.symbols.TypeWord.TheVariants as word
use Rattle.vk_grammar_expr.specs.declared.symbols.Prefix.{Prefix}
use Rattle.vk_grammar_expr.specs.Symbols.{head, line_at, number_at, Is, IsSign, is_sign, prefix_at, IsOperator, operator_at, is_type_part, is_start}
use Rattle.vk_grammar_expr.specs.Types.{words_of, word_before, has_words, AreTypeParts, no_parts, a_part, IsType, type_in}
use Rattle.vk_grammar_expr.specs.Grammar.{Tall, tall, Sort, level, full, Spells, IsPost, AreArgs, AreMore, prefixed, a_prefix, a_cast, a_post, lower, a_binary, plain, a_choice, an_int, a_name, a_call, a_group, an_index, no_args, some_args, none_more, one_more}
use Rattle.vk_grammar_expr.specs.Inner.Parser.{Parser, ◌>>=◌, take, here, pick, pick_some, many}
use Rattle.vk_grammar_expr.specs.Inner.Reading.{type_words, nothing, later_argument, some_arguments, arguments, call_of, named, atom_at, atom, subscript, subscript_step, subscripts, post, group, cast_of, behind_paren, paren, prefix_operand, prefix_sign, unaries, right_operand, operator_step, operators, levels, branches, choices, conditional, sorted, expression}
use Rattle.vk_grammar_expr.proofs.Steps.{Follows, Goes, goes, finished, pure_follows, refuse_follows, deep_follows, pick_follows, pick_some_follows, look_follows, choose_follows, choose_some_follows, here_follows, into_follows, bind_follows, seq_follows, take_follows, token_follows, tail_follows, many_follows}
use Rattle.vk_grammar_expr.proofs.Signs.{sign_of, sign_of_is, take_sign_follows, sign_deep_follows, then_expect_follows, prefix_follows, prefix_deep_follows, operator_follows, operator_deep_follows}
use Rattle.vk_grammar_expr.proofs.Starts.{Starts, spelled_starts, post_starts, zero_sym, zero_tree, zero_tall, zero_post, zero_spelled, Spelled, Posted, paren_goes, prefix_goes, start_goes}

-- ---- a left operand, and what goes on with it

-- `p` reads a text that is not empty, and `f` goes on with its line and number
pub here_bind_follows : {A B : Type 0} {S : A → List Sym → Type 0} {R : B → List Sym → Type 0} {p : Parser A} {w : List Sym} (f : ℕ → ℕ → A → Parser B)
    → Follows S [] p w → ((a : A) (v : List Sym) → S a v → Starts v) → ((a : A) (t : Sym) (x r : List Sym) → S a (t ∷ x) → Follows R (t ∷ x) (f t.line t.at a) r)
    → ((a : A) (v : List Sym) → S a v → Goes R v) → Follows R [] (here (λ l k. p >>= f l k)) w
here_bind_follows {A} {B} {S} {R} {p} {w} f h begins next ends = here_follows (λ l k. p >>= f l k) (bind_follows {S = S} h
    (λ a v r parts s. at_first a v r parts s (begins a v s)) ends)
  where
    at_first : (a : A) (v r : List Sym) → w ≡ v ++ r → S a v → Starts v → Follows R v (f (line_at w) (number_at w) a) r
    at_first a v r parts s b =
        let same : w ≡ b.first ∷ (b.others ++ r) = parts ∙ ap (λ z. z ++ r) b.parts in
        subst (λ z. Follows R z (f (line_at w) (number_at w) a) r) (sym b.parts)
        (subst (λ l. Follows R (b.first ∷ b.others) (f l (number_at w) a) r) (sym (ap line_at same))
        (subst (λ k. Follows R (b.first ∷ b.others) (f b.first.line k a) r) (sym (ap number_at same))
        (next a b.first b.others r (subst (S a) b.parts s))))

-- ---- types

pub record IsTypeText (c u : List Sym) : Type 0 where
  pub same : c ≡ u
  pub type : IsType u

record ArePartsText (c u : List Sym) : Type 0 where
  same : c ≡ u
  parts : AreTypeParts u

record IsPartText (t : Sym) (u : List Sym) : Type 0 where
  same : u ≡ t ∷ []
  part : is_type_part (Some t.kind) ≡ true

part_follows : (w : List Sym) → is_type_part (head w) ≡ true → Follows IsPartText [] take w
unfolding is_type_part
part_follows [] e = absurd (true≢false (sym e))
part_follows (t ∷ r) e = token_follows (record { same = refl; part = e })

parts_joined : (t : Sym) (c x y : List Sym) → IsPartText t x → ArePartsText c y → ArePartsText (t ∷ c) (x ++ y)
parts_joined t c x y p q = subst (λ z. ArePartsText (t ∷ c) (z ++ y)) (sym p.same) (record { same = ap (λ z. t ∷ z) q.same; parts = a_part p.part q.parts })

int_sym : Sym
int_sym = record { line = 0; at = 0; kind = kind.TypeWord word.Int }

with_int : {u : List Sym} → AreTypeParts u → AreTypeParts (u ++ (int_sym ∷ []))
unfolding int_sym is_type_part
with_int no_parts = a_part refl no_parts
with_int (a_part e d) = a_part e (with_int d)

kept_words : (k : SymKind) (words : _) → has_words words ≡ true → has_words (word_before k words) ≡ true
kept_words (kind.TypeWord w) words e = refl
kept_words _ words e = e

int_words : (u : List Sym) → has_words (words_of (u ++ (int_sym ∷ []))) ≡ true
unfolding int_sym words_of
int_words [] = refl
int_words (t ∷ u) = kept_words t.kind (words_of (u ++ (int_sym ∷ []))) (int_words u)

parts_go : (c u : List Sym) → ArePartsText c u → Goes IsTypeText u
parts_go c u p = goes (int_sym ∷ []) (u ++ (int_sym ∷ [])) (record { same = refl; type = record { parts = with_int p.parts; has = int_words u } })

pub type_words_follows : (turns : ℕ) (w : List Sym) → Follows IsTypeText [] (type_words turns) w
unfolding type_words
type_words_follows turns w = bind_follows {S = ArePartsText} (many_follows is_type_part take (record { same = refl; parts = no_parts }) parts_joined part_follows turns w)
    (λ c v r parts p. pick_follows (has_words (words_of c))
    (λ e. pure_follows (record { same = p.same; type = record { parts = p.parts; has = subst (λ z. has_words (words_of z) ≡ true) p.same e } }))
    (λ e. refuse_follows (parts_go c v p)))
    parts_go

-- ---- where no level may stand

nothing_follows : (s : Sort) (w : List Sym) → Follows (Spelled s) [] nothing w
unfolding nothing is_start
nothing_follows s [] = choose_follows is_start (λ e. absurd (true≢false (sym e))) (λ e. refuse_follows (goes (zero_sym ∷ []) zero_tall (zero_spelled s)))
nothing_follows s (t ∷ r) = choose_follows is_start (λ e. deep_follows (start_goes s t e)) (λ e. refuse_follows (goes (zero_sym ∷ []) zero_tall (zero_spelled s)))

-- ---- one function after the other

module _ (d turns : ℕ) (sub : Sort → Parser Tall) (subs : (s : Sort) (w : List Sym) → Follows (Spelled s) [] (sub s) w) where
  data IsLater : Tall → List Sym → Type 0 where
    later : {t : Sym} {e : Tree} {h : ℕ} {x : List Sym} → IsSign mark.Comma t → Spells full e h x → IsLater (tall e h) (t ∷ x)

  later_follows : (w : List Sym) → is_sign mark.Comma (head w) ≡ true → Follows IsLater [] (later_argument d turns sub) w
  unfolding later_argument
  later_follows w e = take_sign_follows e (λ t r is. tail_follows {S = Spelled full} (subs full r) (λ a v s. later is s))

  later_joined : (a : Tall) (list : List Tall) (x y : List Sym) → IsLater a x → AreMore list y → AreMore (a ∷ list) (x ++ y)
  later_joined a list x y (later is s) more_ = one_more is s more_

  more_follows : (w : List Sym) → Follows AreMore [] (many turns (is_sign mark.Comma) (later_argument d turns sub)) w
  unfolding later_follows later_joined
  more_follows w = many_follows (is_sign mark.Comma) (later_argument d turns sub) none_more later_joined later_follows turns w

  some_arguments_follows : (w : List Sym) → Follows AreArgs [] (some_arguments d turns sub) w
  unfolding some_arguments
  some_arguments_follows w = bind_follows {S = Spelled full} (subs full w)
      (λ a v r parts s. bind_follows {S = AreMore} (more_follows r) (λ list y r2 parts2 m. pure_follows (some_args s m)) (λ list y m. finished (a ∷ list) (some_args s m)))
      (λ a v s. goes [] (a ∷ []) (some_args s none_more))

  arguments_follows : (w : List Sym) → Follows AreArgs [] (arguments d turns sub) w
  unfolding arguments
  arguments_follows w = choose_follows (is_sign mark.CloseParen) (λ e. pure_follows no_args) (λ e. some_arguments_follows w)

  call_follows : (t : Sym) (id : NameId) (w : List Sym) → Is (kind.Name id) t → is_sign mark.OpenParen (head w) ≡ true
      → Follows Posted (t ∷ []) (call_of d turns sub t.line t.at id) w
  unfolding call_of
  call_follows t id w name e = take_sign_follows e (λ u r opens. then_expect_follows {S = AreArgs} (arguments_follows r)
      (λ list v z r2 args shuts. pure_follows (a_call name opens args shuts)) (λ list v z args shuts. finished _ (a_call name opens args shuts)))

  named_follows : (t : Sym) (id : NameId) (w : List Sym) → Is (kind.Name id) t → Follows Posted (t ∷ []) (named d turns sub id t) w
  unfolding named
  named_follows t id w name = choose_follows (is_sign mark.OpenParen) (call_follows t id w name) (λ e. pure_follows (a_name name))

  kind_follows : (t : Sym) (r : List Sym) (k : SymKind) → t.kind ≡ k → Follows Posted [] (atom_at d turns sub (Some k)) (t ∷ r)
  kind_follows t r (kind.Int ty n) e = take_follows (pure_follows (an_int (record { is = e })))
  kind_follows t r (kind.Name id) e = take_follows (named_follows t id r (record { is = e }))
  kind_follows t r _ e = refuse_follows (goes (zero_sym ∷ []) zero_tall zero_post)

  atom_follows : (w : List Sym) → Follows Posted [] (atom d turns sub) w
  unfolding atom
  atom_follows [] = look_follows (atom_at d turns sub) (refuse_follows (goes (zero_sym ∷ []) zero_tall zero_post))
  atom_follows (t ∷ r) = look_follows (atom_at d turns sub) (kind_follows t r t.kind refl)

  -- ---- subscripts

  indexed : {b i : Tree} {h k : ℕ} {t : Sym} {x : List Sym} {u : Sym} {y : List Sym} {v : Sym} → IsPost b h (t ∷ x) → IsSign mark.OpenBracket u → Spells full i k y
      → IsSign mark.CloseBracket v → IsPost (Tree.index t.line t.at b i) (suc (max h k)) (t ∷ (((x ++ (u ∷ [])) ++ y) ++ (v ∷ [])))
  indexed {b} {i} {h} {k} {t} {x} {u} {y} {v} d1 opens d2 shuts = subst (λ z. IsPost (Tree.index t.line t.at b i) (suc (max h k)) (t ∷ z))
      (sym (ap (λ z. z ++ (v ∷ [])) (append_assoc x (u ∷ []) y) ∙ append_assoc x (u ∷ y) (v ∷ []))) (an_index d1 opens d2 shuts)

  subscripts_follows : (m : ℕ) (t : Sym) (x : List Sym) (a : Tall) (w : List Sym) → IsPost a.tree a.height (t ∷ x)
      → Follows Posted (t ∷ x) (subscripts d turns sub m t.line t.at a) w
  unfolding subscripts subscript_step subscript
  subscripts_follows zero t x a w p = record { told = inl refl }
  subscripts_follows (suc m) t x a w p = choose_follows (is_sign mark.OpenBracket)
      (λ e. pick_follows (nat_le a.height d)
      (λ _. take_sign_follows e (λ u r opens. then_expect_follows {S = Spelled full} (subs full r)
      (λ i y v r2 s shuts. subscripts_follows m t (((x ++ (u ∷ [])) ++ y) ++ (v ∷ [])) (tall (Tree.index t.line t.at a.tree i.tree) (suc (max a.height i.height))) r2 (indexed p opens s shuts))
      (λ i y v s shuts. finished (tall (Tree.index t.line t.at a.tree i.tree) (suc (max a.height i.height))) (indexed p opens s shuts))))
      (λ _. sign_deep_follows e (λ u opens. goes (zero_sym ∷ (sign_of mark.CloseBracket ∷ [])) (tall (Tree.index t.line t.at a.tree zero_tree) (suc (max a.height 1)))
      (subst (Posted (tall (Tree.index t.line t.at a.tree zero_tree) (suc (max a.height 1)))) (append_assoc ((t ∷ x) ++ (u ∷ [])) (zero_sym ∷ []) (sign_of mark.CloseBracket ∷ []))
      (indexed p opens (zero_spelled full) sign_of_is)))))
      (λ e. pure_follows p)

  post_follows : (w : List Sym) → Follows Posted [] (post d turns sub) w
  unfolding post
  post_follows w = here_bind_follows {S = Posted} (subscripts d turns sub (suc d)) (atom_follows w) (λ a v p. post_starts p)
      (λ a t x r p. subscripts_follows (suc d) t x a r p) (λ a v p. finished a p)

  -- ---- parentheses and casts

  group_follows : (u : Sym) (w : List Sym) → IsSign mark.OpenParen u → Follows Posted (u ∷ []) (group d turns sub) w
  unfolding group
  group_follows u w opens = then_expect_follows {S = Spelled full} (subs full w)
      (λ e v z r s shuts. pure_follows (a_group opens s shuts)) (λ e v z s shuts. finished (tall e.tree (suc e.height)) (a_group opens s shuts))

  a_cast_of : {u : Sym} {c v : List Sym} {z : Sym} {e : Tree} {h : ℕ} {x : List Sym} → IsSign mark.OpenParen u → IsTypeText c v → IsSign mark.CloseParen z
      → Spells (level 0) e h x → Spells (level 0) (Tree.cast u.line u.at (type_in c) e) (suc h) (u ∷ ((v ++ (z ∷ [])) ++ x))
  a_cast_of {u} {c} {v} {z} {e} {h} {x} opens text shuts s = subst (λ q. Spells (level 0) (Tree.cast u.line u.at (type_in q) e) (suc h) (u ∷ ((v ++ (z ∷ [])) ++ x))) (sym text.same)
      (subst (λ q. Spells (level 0) (Tree.cast u.line u.at (type_in v) e) (suc h) (u ∷ q)) (sym (append_assoc v (z ∷ []) x)) (a_cast opens text.type shuts s))

  cast_follows : (u : Sym) (w : List Sym) → IsSign mark.OpenParen u → Follows (Spelled (level 0)) (u ∷ []) (cast_of d turns sub u.line u.at) w
  unfolding cast_of
  cast_follows u w opens = then_expect_follows {S = IsTypeText} (type_words_follows turns w)
      (λ c v z r text shuts. bind_follows {S = Spelled (level 0)} (subs (level 0) r)
      (λ e x r2 parts s. pure_follows (a_cast_of opens text shuts s)) (λ e x s. finished (tall (Tree.cast u.line u.at (type_in c) e.tree) (suc e.height)) (a_cast_of opens text shuts s)))
      (λ c v z text shuts. goes (zero_sym ∷ []) (tall (Tree.cast u.line u.at (type_in c) zero_tree) 2) (a_cast_of opens text shuts (zero_spelled (level 0))))

  behind_paren_follows : (u : Sym) (w : List Sym) → IsSign mark.OpenParen u → Follows (Spelled (level 0)) (u ∷ []) (behind_paren d turns sub u) w
  unfolding behind_paren
  behind_paren_follows u w opens = choose_follows is_type_part (λ e. cast_follows u w opens)
      (λ e. into_follows {S = Posted} (λ a v p. a_post p) (seq_follows {S = Posted} (group_follows u w opens)
      (λ a v r parts p. subscripts_follows (suc d) u v a r p) (λ a y p. finished a p)))

  paren_follows : (w : List Sym) → is_sign mark.OpenParen (head w) ≡ true → Follows (Spelled (level 0)) [] (paren d turns sub) w
  unfolding paren
  paren_follows w e = pick_follows (nat_lt 0 d) (λ _. take_sign_follows e (λ u r opens. behind_paren_follows u r opens)) (λ _. sign_deep_follows e paren_goes)

  -- ---- signs before an operand

  prefix_sign_follows : (p : Prefix) (w : List Sym) → prefix_at (head w) ≡ Some p → Follows (Spelled (level 0)) [] (prefix_sign d turns sub p) w
  unfolding prefix_sign prefix_operand
  prefix_sign_follows p w e = pick_follows (nat_lt 0 d)
      (λ _. prefix_follows e (λ t r is. bind_follows {S = Spelled (level 0)} (subs (level 0) r)
      (λ a x r2 parts s. pure_follows (a_prefix is s)) (λ a x s. finished (tall (prefixed p t.line t.at a.tree) (suc a.height)) (a_prefix is s))))
      (λ _. prefix_deep_follows e (λ t is. prefix_goes t p is))

  pub unaries_follows : (w : List Sym) → Follows (Spelled (level 0)) [] (unaries d turns sub) w
  unfolding unaries
  unaries_follows w = look_follows (λ k. pick_some (prefix_at k) (prefix_sign d turns sub) (pick (is_sign mark.OpenParen k) (paren d turns sub) (post d turns sub)))
      (pick_some_follows (prefix_at (head w)) (λ p e. prefix_sign_follows p w e)
      (λ _. pick_follows (is_sign mark.OpenParen (head w)) (λ e. paren_follows w e) (λ _. into_follows {S = Posted} (λ a v p. a_post p) (post_follows w))))

  -- ---- operators between operands

  joined_by : {n : ℕ} {o : BinOp} {a b : Tree} {h k : ℕ} {t : Sym} {x : List Sym} {u : Sym} {y : List Sym} → Spells (level (suc n)) a h (t ∷ x) → IsOperator (suc n) o u → Spells (level n) b k y
      → Spells (level (suc n)) (Tree.binary t.line t.at o a b) (suc (max h k)) (t ∷ ((x ++ (u ∷ [])) ++ y))
  joined_by {n} {o} {a} {b} {h} {k} {t} {x} {u} {y} s is s2 = subst (λ z. Spells (level (suc n)) (Tree.binary t.line t.at o a b) (suc (max h k)) (t ∷ z))
      (sym (append_assoc x (u ∷ []) y)) (a_binary s is s2)

  pub operators_follows : (m n : ℕ) (t : Sym) (x : List Sym) (a : Tall) (w : List Sym) → Spells (level (suc n)) a.tree a.height (t ∷ x)
      → Follows (Spelled (level (suc n))) (t ∷ x) (operators d turns sub m n t.line t.at a) w
  unfolding operators operator_step right_operand
  operators_follows zero n t x a w s = record { told = inl refl }
  operators_follows (suc m) n t x a w s = choose_some_follows (operator_at (suc n))
      (λ o e. pick_follows (nat_le a.height d)
      (λ _. operator_follows e (λ u r is. bind_follows {S = Spelled (level n)} (subs (level n) r)
      (λ b y r2 parts s2. operators_follows m n t ((x ++ (u ∷ [])) ++ y) (tall (Tree.binary t.line t.at o a.tree b.tree) (suc (max a.height b.height))) r2 (joined_by s is s2))
      (λ b y s2. finished (tall (Tree.binary t.line t.at o a.tree b.tree) (suc (max a.height b.height))) (joined_by s is s2))))
      (λ _. operator_deep_follows e (λ u is. goes (zero_sym ∷ []) (tall (Tree.binary t.line t.at o a.tree zero_tree) (suc (max a.height 1))) (joined_by s is (zero_spelled (level n))))))
      (λ _. pure_follows s)

  levels_follows : (n : ℕ) (w : List Sym) → Follows (Spelled (level n)) [] (levels d turns sub n) w
  unfolding levels
  levels_follows zero w = unaries_follows w
  levels_follows (suc n) w = here_bind_follows {S = Spelled (level n)} (operators d turns sub (suc d) n) (levels_follows n w) (λ a v s. spelled_starts s)
      (λ a t x r s. operators_follows (suc d) n t x a r (lower s)) (λ a v s. finished a (lower s))

  -- ---- the conditional operator

  chosen : {c a b : Tree} {h k m : ℕ} {t : Sym} {x : List Sym} {u : Sym} {y : List Sym} {v : Sym} {z : List Sym}
      → Spells (level 10) c h (t ∷ x) → IsSign mark.Question u → Spells full a k y → IsSign mark.Colon v → Spells full b m z
      → Spells full (Tree.choice t.line t.at c a b) (suc (max h (max k m))) (t ∷ ((((x ++ (u ∷ [])) ++ y) ++ (v ∷ [])) ++ z))
  chosen {c} {a} {b} {h} {k} {m} {t} {x} {u} {y} {v} {z} s1 i s2 j s3 = subst (λ q. Spells full (Tree.choice t.line t.at c a b) (suc (max h (max k m))) (t ∷ q))
      (sym (append_assoc ((x ++ (u ∷ [])) ++ y) (v ∷ []) z ∙ append_assoc (x ++ (u ∷ [])) y (v ∷ z) ∙ append_assoc x (u ∷ []) (y ++ (v ∷ z)))) (a_choice s1 i s2 j s3)

  pub choices_follows : (t : Sym) (x : List Sym) (c : Tall) (w : List Sym) → Spells (level 10) c.tree c.height (t ∷ x) → Follows (Spelled full) (t ∷ x) (choices d turns sub t.line t.at c) w
  unfolding choices branches
  choices_follows t x c w s = choose_follows (is_sign mark.Question)
      (λ e. pick_follows (nat_le c.height d)
      (λ _. take_sign_follows e (λ u r i. then_expect_follows {S = Spelled full} (subs full r)
      (λ a y v r2 s2 j. bind_follows {S = Spelled full} (subs full r2) (λ b z r3 parts s3. pure_follows (chosen s i s2 j s3))
      (λ b z s3. finished (tall (Tree.choice t.line t.at c.tree a.tree b.tree) (suc (max c.height (max a.height b.height)))) (chosen s i s2 j s3)))
      (λ a y v s2 j. goes (zero_sym ∷ []) (tall (Tree.choice t.line t.at c.tree a.tree zero_tree) (suc (max c.height (max a.height 1)))) (chosen s i s2 j (zero_spelled full)))))
      (λ _. sign_deep_follows e (λ u i. goes (zero_sym ∷ (sign_of mark.Colon ∷ (zero_sym ∷ []))) (tall (Tree.choice t.line t.at c.tree zero_tree zero_tree) (suc (max c.height (max 1 1))))
      (subst (λ q. Spells full (Tree.choice t.line t.at c.tree zero_tree zero_tree) (suc (max c.height 1)) (t ∷ q))
      (append_assoc ((x ++ (u ∷ [])) ++ (zero_sym ∷ [])) (sign_of mark.Colon ∷ []) (zero_sym ∷ []) ∙ append_assoc (x ++ (u ∷ [])) (zero_sym ∷ []) (sign_of mark.Colon ∷ (zero_sym ∷ [])))
      (chosen s i (zero_spelled full) sign_of_is (zero_spelled full))))))
      (λ _. pure_follows (plain s))

  conditional_follows : (w : List Sym) → Follows (Spelled full) [] (conditional d turns sub) w
  unfolding conditional
  conditional_follows w = here_bind_follows {S = Spelled (level 10)} (choices d turns sub) (levels_follows 10 w) (λ a v s. spelled_starts s)
      (λ a t x r s. choices_follows t x a r s) (λ a v s. finished a (plain s))

  sorted_follows : (s : Sort) (w : List Sym) → Follows (Spelled s) [] (sorted d turns sub s) w
  sorted_follows (level n) w = levels_follows n w
  sorted_follows full w = conditional_follows w

-- What the reader tells of an expression follows the grammar.
pub expression_follows : (turns d : ℕ) (s : Sort) (w : List Sym) → Follows (Spelled s) [] (expression turns d s) w
unfolding expression
expression_follows turns zero s w = nothing_follows s w
expression_follows turns (suc d) s w = sorted_follows d turns (expression turns d) (expression_follows turns d) s w
