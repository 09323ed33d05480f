-- A call that was made prints its lines.
use Rattle.std.proofs.Common.{◌≡◌, ◌∙◌, ℕ, ◌<◌, ◌≤◌, ◌*◌, Bool, List, [], cond, length, map, Result, Err, sym, ap, subst, arith}
use Rattle.std.proofs.lemmas.List.{length-map}
use Rattle.std.specs.List.{concat, range_with_len}
use Rattle.vk_kinds.specs.declared.heads.CType.{CType}
use Rattle.vk_types.specs.declared.types.Word.{Word}
use Rattle.vk_ast.specs.declared.items.ParamDecl.{ParamDecl}
use Rattle.vk_ast.specs.Units.{FunctionTree}
use Rattle.vk_ends.specs.declared.ends.CallRule.{CallRule}
use Rattle.vk_ends.specs.declared.ends.CallRule.TheVariants.{A1, A2, A3, A4, A5}
use Rattle.vk_rules_book.specs.Rules.{Subject}
use Rattle.vk_rules_book.specs.Scopes.{types_of}
use Rattle.vk_meaning.specs.Data.{Value}
use Rattle.vk_meaning.specs.Lanes.{AreTyped, Words}
use Rattle.vk_selection.specs.declared.selection.Selected.{Selected}
use Rattle.vk_selection.specs.declared.selection.Selected.TheVariants.{Vector, Scalar}
use Rattle.vk_selection.specs.Selection.{IsSelected}
use Rattle.vk_arguments.specs.Arguments.{AreTaken, Called, IsRefused, passed, words_in}
use Rattle.vk_arguments.specs.declared.arguments.NoArguments.{NoArguments}
use Rattle.vk_io.specs.declared.lines.Lines.{Lines}
use Rattle.vk_arguments.specs.Integers.{integer_word}
use Rattle.vk_arguments.specs.Texts.{mask_of}
use Rattle.vk_lane_lines.specs.Lines.{line, told_by}
use Rattle.vk_lane_lines.specs.declared.lines.Told.TheVariants.{Off}
use Rattle.vk_unit_call.specs.Values.{scalar_value}
use Rattle.vk_cmd_lanes.specs.Inner.{lines_on}
use Rattle.vk_cmd_lanes.specs.Lanes.{Asked, IsCalledAs, PrintsCall, RefusesCall, lane_line}
use Rattle.vk_cmd_lanes.proofs.Lines.{flat_map_is, map_same, value_same}

pub types_are : (f : FunctionTree) (s : Selected) (c : Called) → IsCalledAs f s c → c.types ≡ types_of f.params
types_are f (Vector v lanes) c h = ap (λ (x : Called). x.types) h.2
types_are f (Scalar n) c h = ap (λ (x : Called). x.types) h

-- the words that were made are those that the texts stand for
pub lines_same : (unit : Subject) (f : FunctionTree) (r : Asked) (c : Called) (mask : ℕ → Bool) (words : Words) → c.types ≡ types_of f.params →
    mask ≡ mask_of c.lanes r.given.bits → ((p lane : ℕ) → p < length c.types → lane < c.lanes → words p lane ≡ words_in integer_word c.types r.given.texts p lane) →
    lines_on unit f r.turns c.lanes mask words ≡ map (lane_line unit f r c) (range_with_len 0 c.lanes)
lines_same unit f r c mask words types masks same =
    map_same (λ lane. line lane (cond (mask lane) (told_by (scalar_value unit f r.turns words lane)) Off)) (lane_line unit f r c) c.lanes
    (λ lane high. ap (λ (on : ℕ → Bool). line lane (cond (on lane) (told_by (scalar_value unit f r.turns words lane)) Off)) masks
    ∙ ap (λ (v : Value). line lane (cond (mask_of c.lanes r.given.bits lane) (told_by v) Off))
    (value_same unit f r.turns words (words_in integer_word c.types r.given.texts) lane
    (λ q below. same q lane (subst (λ (ts : List CType). q < length ts) (sym types) below) high)))

few_types : (f : FunctionTree) → length f.params ≤ 64 → length (types_of f.params) < 4294967296
few_types f few = let same = length-map f.params (λ (p : ParamDecl). p.ctype) in omega (arith, few, same)

pub few_parameters : (f : FunctionTree) (s : Selected) (c : Called) → length f.params ≤ 64 → IsCalledAs f s c → length c.types < 4294967296
few_parameters f s c few h = subst (λ (ts : List CType). length ts < 4294967296) (sym (types_are f s c h)) (few_types f few)

pub words_fit : (f : FunctionTree) (s : Selected) (c : Called) (k n : ℕ) → IsCalledAs f s c → n ≡ c.lanes → k ≡ length c.types * c.lanes → k ≡ length f.params * n
words_fit f s c k n h lanes size =
    size ∙ ap (λ (ts : List CType). length ts * c.lanes) (types_are f s c h) ∙ ap (λ (l : ℕ). length (types_of f.params) * l) (sym lanes)
    ∙ ap (λ (l : ℕ). l * n) (length-map f.params (λ (p : ParamDecl). p.ctype))

pub typed_call : (f : FunctionTree) (s : Selected) (c : Called) (n : ℕ) (words : List Word) (mask : ℕ → Bool) → IsCalledAs f s c → n ≡ c.lanes →
    AreTyped c.types [] c.lanes (passed c.lanes words) mask → AreTyped (types_of f.params) [] n (passed n words) mask
typed_call f s c n words mask h lanes typed =
    subst (λ (k : ℕ). AreTyped (types_of f.params) [] k (passed k words) mask) (sym lanes)
    (subst (λ (ts : List CType). AreTyped ts [] c.lanes (passed c.lanes words) mask) (types_are f s c h) typed)

pub prints_call : (unit : Subject) (f : FunctionTree) (r : Asked) (s : Selected) (c : Called) (n : ℕ) (mask : ℕ → Bool) (words : List Word) (lines : List (List ℕ)) →
    IsSelected unit r.isa 0 r.name s → IsCalledAs f s c → AreTaken integer_word c r.given → n ≡ c.lanes → mask ≡ mask_of c.lanes r.given.bits →
    ((p lane : ℕ) → p < length c.types → lane < c.lanes → passed c.lanes words p lane ≡ words_in integer_word c.types r.given.texts p lane) →
    lines ≡ lines_on unit f r.turns n mask (passed n words) → PrintsCall unit f r (concat lines)
prints_call unit f r s c n mask words lines selects h taken lanes masks same e = record {
  callee = c;
  selects = record { selected = s; selects = selects; called = h };
  taken = taken;
  text_is = ap concat (e ∙ ap (λ (k : ℕ). lines_on unit f r.turns k mask (passed k words)) lanes
      ∙ lines_same unit f r c mask (passed c.lanes words) (types_are f s c h) masks same) ∙ sym (flat_map_is (lane_line unit f r c) (range_with_len 0 c.lanes));
}

pub refuses_call : (unit : Subject) (f : FunctionTree) (r : Asked) (s : Selected) (c : Called) (rule : CallRule) (first second : ℕ) →
    IsSelected unit r.isa 0 r.name s → IsCalledAs f s c → IsRefused integer_word c r.given rule first second → RefusesCall unit f r rule first second
refuses_call unit f r s c A1 first second selects h refused = absurd refused
refuses_call unit f r s c A2 first second selects h refused = (c, record { selected = s; selects = selects; called = h }, refused)
refuses_call unit f r s c A3 first second selects h refused = (c, record { selected = s; selects = selects; called = h }, refused)
refuses_call unit f r s c A4 first second selects h refused = (c, record { selected = s; selects = selects; called = h }, refused)
refuses_call unit f r s c A5 first second selects h refused = (c, record { selected = s; selects = selects; called = h }, refused)

pub fault_is : (e x : NoArguments) → ◌≡◌ {A = Result Lines NoArguments} (Err e) (Err x) → e ≡ x
fault_is e x h = cc
