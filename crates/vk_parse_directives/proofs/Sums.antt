-- Modifiers of `linear`, one by one.
use Rattle.std.proofs.Common.{◌≡◌, suc, Bool, true, false, cond, nat_lt, List, [], ◌∷◌, ◌++◌, length, Option, Some, refl, ap, ◌∙◌, arith}
use Rattle.std.proofs.lemmas.Bool.{lt-ltb}
use Rattle.vk_ast.specs.declared.directives.Modifier.{Modifier}
use Rattle.vk_ast.specs.declared.directives.Modifier.TheVariants as modifier
use Rattle.vk_ast.specs.Tree.{Tree}
use Rattle.vk_parse_directives.specs.Clauses.{Part, worded, step, words_in, steps_in, only_one, modifier_in, first_of_steps, step_in}
use Rattle.vk_parse_directives.specs.Inner.Parts.{next_word, word_after, step_after}

words_push : (parts : List Part) (m : Modifier) → words_in (parts ++ worded m ∷ []) ≡ words_in parts ++ m ∷ []
words_push [] m = refl
words_push (worded n ∷ parts) m = ap (λ (l : List Modifier). n ∷ l) (words_push parts m)
words_push (step e ∷ parts) m = words_push parts m

words_same : (parts : List Part) (e : Tree) → words_in (parts ++ step e ∷ []) ≡ words_in parts
words_same [] e = refl
words_same (worded n ∷ parts) e = ap (λ (l : List Modifier). n ∷ l) (words_same parts e)
words_same (step d ∷ parts) e = words_same parts e

steps_push : (parts : List Part) (e : Tree) → steps_in (parts ++ step e ∷ []) ≡ steps_in parts ++ e ∷ []
steps_push [] e = refl
steps_push (worded n ∷ parts) e = steps_push parts e
steps_push (step d ∷ parts) e = ap (λ (l : List Tree). d ∷ l) (steps_push parts e)

steps_same : (parts : List Part) (m : Modifier) → steps_in (parts ++ worded m ∷ []) ≡ steps_in parts
steps_same [] m = refl
steps_same (worded n ∷ parts) m = steps_same parts m
steps_same (step d ∷ parts) m = ap (λ (l : List Tree). d ∷ l) (steps_same parts m)

one_more : (ws : List Modifier) (m : Modifier) → only_one (ws ++ m ∷ []) ≡ Some (next_word (only_one ws) m)
one_more [] m = refl
one_more (a ∷ []) m = refl
one_more (a ∷ b ∷ ws) m = refl

word_by : (many : Bool) (ws : List Modifier) (m : Modifier) → cond many (Some modifier.Other) (only_one (ws ++ m ∷ [])) ≡ Some (next_word (cond many (Some modifier.Other) (only_one ws)) m)
word_by true ws m = refl
word_by false ws m = one_more ws m

pub with_word : (parts : List Part) (m : Modifier) → modifier_in (parts ++ worded m ∷ []) ≡ Some (next_word (modifier_in parts) m)
with_word parts m = rw (steps_same parts m, words_push parts m) (word_by (nat_lt 1 (length (steps_in parts))) (words_in parts) m)

pub step_by_word : (parts : List Part) (m : Modifier) → step_in (parts ++ worded m ∷ []) ≡ step_in parts
step_by_word parts m = ap first_of_steps (steps_same parts m)

many_steps : (es : List Tree) (e : Tree) (o : Option Modifier) → cond (nat_lt 1 (length (es ++ e ∷ []))) (Some modifier.Other) o ≡ word_after (first_of_steps es) (cond (nat_lt 1 (length es)) (Some modifier.Other) o)
many_steps [] e o = refl
many_steps (a ∷ []) e o = refl
many_steps (a ∷ b ∷ es) e o = let many : nat_lt 1 (suc (suc (length (es ++ e ∷ [])))) ≡ true = lt-ltb _ _ (omega arith) in rw many refl

pub with_step : (parts : List Part) (e : Tree) → modifier_in (parts ++ step e ∷ []) ≡ word_after (step_in parts) (modifier_in parts)
with_step parts e = rw (steps_push parts e, words_same parts e) (many_steps (steps_in parts) e (only_one (words_in parts)))

first_more : (es : List Tree) (e : Tree) → first_of_steps (es ++ e ∷ []) ≡ step_after (first_of_steps es) e
first_more [] e = refl
first_more (a ∷ es) e = refl

pub step_by_step : (parts : List Part) (e : Tree) → step_in (parts ++ step e ∷ []) ≡ step_after (step_in parts) e
step_by_step parts e = ap first_of_steps (steps_push parts e) ∙ first_more (steps_in parts) e
