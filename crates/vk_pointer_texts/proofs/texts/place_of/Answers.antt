-- The place by what `split_once` finds.
use Rattle.std.proofs.Common.{arith, ◌∙◌, ap, sym}
use Rattle.std.proofs.lemmas.Str.Pattern.{split_parts}
use Rattle.vk_pointer_texts.proofs.Places.{minus, plain, plus}
use Rattle.vk_pointer_texts.proofs.texts.place_of.Goals as goal

pub returns-in-Some-clause-name : goal.returns-in-Some-clause-name
returns-in-Some-clause-name c =
    let whole = split_parts 43 c.args.text.now c.split_once.result c.split_once.ensures.cases (omega arith) in
    let cut = rw c.in-Some.is at whole in
    ap (λ p. p.name) (sym (plus c.args.text.now c.in-Some.name.now c.in-Some.digits.now cut))

pub returns-in-Some-clause-offset : goal.returns-in-Some-clause-offset
returns-in-Some-clause-offset c =
    let whole = split_parts 43 c.args.text.now c.split_once.result c.split_once.ensures.cases (omega arith) in
    let cut = rw c.in-Some.is at whole in
    c.steps_of.ensures.steps ∙ ap (λ p. p.offset) (sym (plus c.args.text.now c.in-Some.name.now c.in-Some.digits.now cut))

pub returns-in-Some-split_once-clause-name : goal.returns-in-Some-split_once-clause-name
returns-in-Some-split_once-clause-name c =
    let first = split_parts 43 c.args.text.now c.split_once.result c.split_once.ensures.cases (omega arith) in
    let none = rw c.in_default.is at first in
    let whole = split_parts 45 c.args.text.now c.split_once-2.result c.split_once-2.ensures.cases (omega arith) in
    let cut = rw c.in-Some-split_once.is at whole in
    ap (λ p. p.name) (sym (minus c.args.text.now c.in-Some-split_once.name.now c.in-Some-split_once.digits.now none cut))

pub returns-in-Some-split_once-clause-offset : goal.returns-in-Some-split_once-clause-offset
returns-in-Some-split_once-clause-offset c =
    let first = split_parts 43 c.args.text.now c.split_once.result c.split_once.ensures.cases (omega arith) in
    let none = rw c.in_default.is at first in
    let whole = split_parts 45 c.args.text.now c.split_once-2.result c.split_once-2.ensures.cases (omega arith) in
    let cut = rw c.in-Some-split_once.is at whole in
    c.steps_back.ensures ∙ ap (λ p. p.offset) (sym (minus c.args.text.now c.in-Some-split_once.name.now c.in-Some-split_once.digits.now none cut))

pub returns-in-None-clause-name : goal.returns-in-None-clause-name
returns-in-None-clause-name c =
    let first = split_parts 43 c.args.text.now c.split_once.result c.split_once.ensures.cases (omega arith) in
    let none = rw c.in_default.is at first in
    let second = split_parts 45 c.args.text.now c.split_once-2.result c.split_once-2.ensures.cases (omega arith) in
    let bare = rw c.in-None.is at second in
    ap (λ p. p.name) (sym (plain c.args.text.now none bare))

pub returns-in-None-clause-offset : goal.returns-in-None-clause-offset
returns-in-None-clause-offset c =
    let first = split_parts 43 c.args.text.now c.split_once.result c.split_once.ensures.cases (omega arith) in
    let none = rw c.in_default.is at first in
    let second = split_parts 45 c.args.text.now c.split_once-2.result c.split_once-2.ensures.cases (omega arith) in
    let bare = rw c.in-None.is at second in
    ap (λ p. p.offset) (sym (plain c.args.text.now none bare))
