-- Names are in the table, and lines have numbers.
use Rattle.std.proofs.Common.{◌≡◌, ℕ, ◌+◌, ◌<◌, ◌≤◌, ◌-◌, zero, suc, get_or, Bool, true, false, cond, List, [], ◌∷◌, ◌++◌, map, filter, length, slice_get, unwrap_or, Option, Some, None, refl, sym, ap, ◌∙◌, subst, append_assoc, arith}
use Rattle.std.specs.List.{All}
use Rattle.std.proofs.lemmas.List.Elements.{All-map, All-filter}
use Rattle.std.proofs.lemmas.List.Sums.{sum_by-append}
use Rattle.vk_ast.specs.declared.names.NameId.{NameId}
use Rattle.vk_tokens.specs.declared.tokens.Token.{Token}
use Rattle.vk_tokens.specs.declared.tokens.TokenKind.{TokenKind}
use Rattle.vk_tokens.specs.declared.tokens.TokenKind.TheVariants as token
use Rattle.vk_tokens.specs.Names.{IsNamed}
use Rattle.vk_grammar_expr.specs.declared.symbols.Keyword.{Keyword}
use Rattle.vk_grammar_expr.specs.declared.symbols.TypeWord.{TypeWord}
use Rattle.vk_grammar_expr.specs.declared.symbols.Sym.{Sym}
use Rattle.vk_parse_words.specs.Words.{keyword_of, type_word_of, is_left_out, rarer_kind, other_kind, kind_for}
use Rattle.vk_parse_words.specs.Lines.{is_heading, begun, Placed, place, placed, number, stands_outside, is_clause_of, sym_kind, sym_of, outside, clauses}
use Rattle.vk_parse_words.specs.Inner.Syms.{IsKnown, HasLine}
use Rattle.vk_parse_words.proofs.Split.{begun_push, Splitting, finished}

all_cons : {X : Type 0} (P : X → Type 0) (x : X) (xs : List X) → P x → All P xs → All P (x ∷ xs)
all_cons P x xs p ps zero d within = p
all_cons P x xs p ps (suc k) d within = ps k d (omega arith)

all_head : {X : Type 0} (P : X → Type 0) (x : X) (xs : List X) → All P (x ∷ xs) → P x
all_head P x xs ps = ps 0 x (omega arith)

all_tail : {X : Type 0} (P : X → Type 0) (x : X) (xs : List X) → All P (x ∷ xs) → All P xs
all_tail P x xs ps = λ k d within. ps (suc k) d (omega arith)

module _ (names : List (List ℕ)) where
  rarer_known : (left : Bool) (id : NameId) → id.0 < length names → IsKnown names (rarer_kind left id)
  rarer_known true id h = tt
  rarer_known false id h = h

  other_known : (w : Option TypeWord) (text : List ℕ) (id : NameId) → id.0 < length names → IsKnown names (other_kind w text id)
  other_known (Some w) text id h = tt
  other_known None text id h = rarer_known (is_left_out text) id h

  kind_known : (k : Option Keyword) (text : List ℕ) (id : NameId) → id.0 < length names → IsKnown names (kind_for k text id)
  kind_known (Some k) text id h = tt
  kind_known None text id h = other_known (type_word_of text) text id h

  sym_known : (n : ℕ) (k : TokenKind) → IsNamed names k → IsKnown names (sym_kind names n k)
  sym_known n (token.Name id) h = kind_known (keyword_of (unwrap_or (slice_get names id.0) [])) (unwrap_or (slice_get names id.0) []) id h
  sym_known n (token.Int t v) h = tt
  sym_known n (token.Sign m) h = tt
  sym_known n token.Simdfn h = tt
  sym_known n token.Simd h = tt
  sym_known n token.LineEnd h = tt

  placed_known : (before ts : List Token) → All (λ t. IsNamed names t.kind) ts → All (λ p. IsKnown names (sym_of names p).kind) (placed before ts)
  placed_known before [] all = λ k d within. absurd (omega arith)
  placed_known before (t ∷ ts) all =
      all_cons (λ p. IsKnown names (sym_of names p).kind) (place before t) (placed (before ++ t ∷ []) ts)
      (sym_known (number (place before t)) t.kind (all_head (λ t. IsNamed names t.kind) t ts all))
      (placed_known (before ++ t ∷ []) ts (all_tail (λ t. IsNamed names t.kind) t ts all))

  kept_known : (test : Placed → Bool) (ts : List Token) → All (λ t. IsNamed names t.kind) ts → All (λ s. IsKnown names s.kind) (map (sym_of names) (filter test (placed [] ts)))
  kept_known test ts all =
      All-map (λ s. IsKnown names s.kind) (sym_of names) (filter test (placed [] ts))
      (All-filter test (λ p. IsKnown names (sym_of names p).kind) (placed [] ts) (placed_known [] ts all))

  pub outside_known : (ts : List Token) → All (λ t. IsNamed names t.kind) ts → All (λ s. IsKnown names s.kind) (outside names ts)
  unfolding outside
  outside_known ts all = kept_known stands_outside ts all

  pub clauses_known : (ts : List Token) (n : ℕ) → All (λ t. IsNamed names t.kind) ts → All (λ s. IsKnown names s.kind) (clauses names ts n)
  unfolding clauses
  clauses_known ts n all = kept_known (is_clause_of n) ts all

  -- numbers of lines
  rarer_line : (count : ℕ) (left : Bool) (id : NameId) → HasLine count (rarer_kind left id)
  rarer_line count true id = tt
  rarer_line count false id = tt

  other_line : (count : ℕ) (w : Option TypeWord) (text : List ℕ) (id : NameId) → HasLine count (other_kind w text id)
  other_line count (Some w) text id = tt
  other_line count None text id = rarer_line count (is_left_out text) id

  name_line : (count : ℕ) (k : Option Keyword) (text : List ℕ) (id : NameId) → HasLine count (kind_for k text id)
  name_line count (Some k) text id = tt
  name_line count None text id = other_line count (type_word_of text) text id

  kind_line : (count n : ℕ) (k : TokenKind) → n ≤ count → (is_heading k ≡ true → 1 ≤ n) → HasLine count (sym_kind names n k)
  kind_line count n (token.Name id) below some = let text = unwrap_or (slice_get names id.0) [] in name_line count (keyword_of text) text id
  kind_line count n (token.Int t v) below some = tt
  kind_line count n (token.Sign m) below some = tt
  kind_line count n token.Simdfn below some = (some refl, below)
  kind_line count n token.Simd below some = (some refl, below)
  kind_line count n token.LineEnd below some = tt

  sym_line : (count : ℕ) (before : List Token) (t : Token) → begun (before ++ t ∷ []) ≤ count → HasLine count (sym_of names (place before t)).kind
  sym_line count before t below = kind_line count (begun (before ++ t ∷ [])) t.kind below (λ h. let more = begun_push names before t ∙ ap (λ b. cond b (begun before + 1) (begun before)) h in omega arith)

  placed_line : (count : ℕ) (before ts : List Token) → begun (before ++ ts) ≤ count → All (λ p. HasLine count (sym_of names p).kind) (placed before ts)
  placed_line count before [] below = λ k d within. absurd (omega arith)
  placed_line count before (t ∷ ts) below =
      let next : (before ++ t ∷ []) ++ ts ≡ before ++ t ∷ ts = append_assoc before (t ∷ []) ts in
      let later : begun ((before ++ t ∷ []) ++ ts) ≤ count = subst (λ (l : List Token). begun l ≤ count) (sym next) below in
      let parts : begun ((before ++ t ∷ []) ++ ts) ≡ begun (before ++ t ∷ []) + begun ts = sum_by-append (λ (x : Token). cond (is_heading x.kind) 1 0) (before ++ t ∷ []) ts in
      all_cons (λ p. HasLine count (sym_of names p).kind) (place before t) (placed (before ++ t ∷ []) ts) (sym_line count before t (omega arith)) (placed_line count (before ++ t ∷ []) ts later)

  pub outside_line : (ts : List Token) → All (λ s. HasLine (begun ts) s.kind) (outside names ts)
  unfolding outside
  outside_line ts =
      All-map (λ s. HasLine (begun ts) s.kind) (sym_of names) (filter stands_outside (placed [] ts))
      (All-filter stands_outside (λ p. HasLine (begun ts) (sym_of names p).kind) (placed [] ts) (placed_line (begun ts) [] ts (omega arith)))

-- what the loop leaves
module _ (names : List (List ℕ)) (ts : List Token) (at : ℕ) {syms : List Sym} {lines : List (List Sym)} {ends : ℕ} (l : Splitting names ts at syms lines ends) (over : length ts ≤ at)
    (all : All (λ t. IsNamed names t.kind) ts) where
  pub syms_known : All (λ s. IsKnown names s.kind) syms
  syms_known = subst (λ (x : List Sym). All (λ s. IsKnown names s.kind) x) (sym (finished names ts at l over).syms_are) (outside_known names ts all)

  pub lines_known : (n : ℕ) → 1 ≤ n → n ≤ length lines → All (λ s. IsKnown names s.kind) (get_or lines (n - 1) [])
  lines_known n some within =
      subst (λ (x : List Sym). All (λ s. IsKnown names s.kind) x) (sym ((finished names ts at l over).lines_are (n - 1) (omega arith))) (clauses_known names ts (suc (n - 1)) all)

  pub syms_numbered : (count : ℕ) → length lines ≡ count → All (λ s. HasLine count s.kind) syms
  syms_numbered count is =
      let split = finished names ts at l over in
      subst (λ (n : ℕ). All (λ s. HasLine n s.kind) syms) (sym split.count ∙ is)
      (subst (λ (x : List Sym). All (λ s. HasLine (begun ts) s.kind) x) (sym split.syms_are) (outside_line names ts))
