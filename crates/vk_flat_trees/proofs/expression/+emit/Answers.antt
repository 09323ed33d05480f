-- The code of each kind of expression.
use Rattle.std.proofs.Common.{arith, rules, sym, ap, Some, ◌∙◌, ◌+◌, ◌*◌, ◌&&◌}
use Rattle.vk_kinds.specs.declared.heads.CType.TheVariants.{Ptr}
use Rattle.vk_ast.specs.Tree.{deref, expr_of, index, nodes_of}
use Rattle.vk_rules_book.specs.Typings.{is_plus}
use Rattle.vk_flat.specs.Emitters.{written_of}
use Rattle.vk_flat.proofs.Grown.{if_ok_both, if_ok_map}
use Rattle.vk_flat.proofs.Cases.{first_fits, first_of as left_of, first_runs, middle_of, second_fits, second_of, same_most, second_runs, still_most}
use Rattle.vk_flat_trees.specs.Names.{is_numeric, is_zero, pointing}
use Rattle.vk_flat_trees.proofs.Cases.{and_under, choice_under, grows_cases, or_under, plus_emits}
use Rattle.vk_flat_trees.proofs.Emitting.{binary_emits, cast_emits, grows_into, grows_then, int_emits, name_emits, place_kept, unary_emits}
use Rattle.vk_flat_trees.proofs.Pointing.{address_emits, deref_emits, element_emits, first_emits, loaded_emits, pointer_emits}
use Rattle.vk_flat_trees.proofs.Ready.{element_numeric, element_pointing, element_zero, not_fixed, grown_after, grown_cases, grown_then, ready_after, ready_less, ready_under, summed_numeric, summed_pointing}
use Rattle.vk_flat_trees.proofs.expression.+emit.Goals as goal

-- ---- nodes

pub emit-returns-in-Int-clause-code : goal.emit-returns-in-Int-clause-code
emit-returns-in-Int-clause-code n c = rw c.in-Int.is
    (if_ok_both c.constant.result (λ d h t. int_emits (written_of c.args.emitter.now) (written_of c.constant.new.self) c.args.names.now c.args.e.now.line c.args.e.now.token c.in-Int.value c.in-Int.ty d c.args.under t h) c.constant.ensures.code c.constant.ensures.ty)

pub emit-returns-in-Some-Number-clause-code : goal.emit-returns-in-Some-Number-clause-code
emit-returns-in-Some-Number-clause-code n c = rw c.in-Name.is
    (name_emits (written_of c.args.emitter.now) c.args.names.now c.args.e.now.line c.args.e.now.token c.in-Name.id c.in-Some-Number.place c.args.under (sym c.home_named.ensures ∙ (c.in-Some-Number.is ∙ ap Some (search rules))) c.requires.ready.homes)

pub emit-returns-in_ok-a-in-Cast-clause-code : goal.emit-returns-in_ok-a-in-Cast-clause-code
emit-returns-in_ok-a-in-Cast-clause-code n c =
    let first = rw c.deref.ensures at c.in_ok-a-in-Cast.ensures.code in
    rw c.in-Cast.is
    (if_ok_both c.convert.result (λ d h t. cast_emits (written_of c.args.emitter.now) (written_of c.emit.new.emitter) (written_of c.convert.new.self) c.args.names.now c.args.e.now.line c.args.e.now.token c.in-Cast.ty (expr_of c.in-Cast.operand.value) c.in_ok-a-in-Cast.a d c.args.under c.requires.ready.running t first h)
    c.convert.ensures.code c.convert.ensures.ty)

pub emit-returns-in_ok-a-in-Unary-clause-code : goal.emit-returns-in_ok-a-in-Unary-clause-code
emit-returns-in_ok-a-in-Unary-clause-code n c =
    let first = rw c.deref-in-Unary.ensures at c.in_ok-a-in-Unary.ensures.code in
    rw c.in-Unary.is
    (if_ok_both c.unary.result (λ d h t. unary_emits (written_of c.args.emitter.now) (written_of c.emit-in-Unary.new.emitter) (written_of c.unary.new.self) c.args.names.now c.args.e.now.line c.args.e.now.token c.in-Unary.op (expr_of c.in-Unary.operand.value) c.in_ok-a-in-Unary.a d c.args.under c.requires.ready.running t first h)
    c.unary.ensures.code c.unary.ensures.ty)

pub emit-load-requires-clause-pointer : goal.emit-load-requires-clause-pointer
emit-load-requires-clause-pointer n c = (c.in_ok-p-in-Index.ensures.code 0 0).place

pub emit-returns-in_ok-p-in-Index-clause-code : goal.emit-returns-in_ok-p-in-Index-clause-code
emit-returns-in_ok-p-in-Index-clause-code n c =
    let half = rw c.deref-in-Index.ensures at c.in_ok-p-in-Index.ensures.code in
    let first = rw c.deref-in-Index-2.ensures at half in
    rw c.in-Index.is
    (if_ok_both c.load.result (λ d h t. loaded_emits (written_of c.args.emitter.now) (written_of c.emit_element.new.emitter) (written_of c.load.new.emitter) c.args.names.now
    (index c.args.e.now.line c.args.e.now.token (expr_of c.in-Index.base.value) (expr_of c.in-Index.subscript.value)) c.in_ok-p-in-Index.p d c.args.under c.requires.ready.running t (first c.args.e.now.line c.args.e.now.token) h)
    c.load.ensures.code c.load.ensures.ty)

pub emit-returns-in_ok-p-in-Deref-clause-code : goal.emit-returns-in_ok-p-in-Deref-clause-code
emit-returns-in_ok-p-in-Deref-clause-code n c =
    let first = rw c.deref-in-Deref.ensures at c.in_ok-p-in-Deref.ensures.code in
    rw c.in-Deref.is
    (if_ok_both c.load-in-Deref.result (λ d h t. loaded_emits (written_of c.args.emitter.now) (written_of c.emit_pointer.new.emitter) (written_of c.load-in-Deref.new.emitter) c.args.names.now
    (deref c.args.e.now.line c.args.e.now.token (expr_of c.in-Deref.operand.value)) c.in_ok-p-in-Deref.p d c.args.under c.requires.ready.running t
    (deref_emits (written_of c.args.emitter.now) (written_of c.emit_pointer.new.emitter) c.args.names.now c.args.e.now.line c.args.e.now.token (expr_of c.in-Deref.operand.value) c.in_ok-p-in-Deref.p c.args.under first) h)
    c.load-in-Deref.ensures.code c.load-in-Deref.ensures.ty)

-- ---- two operands

pub emit_binary-emit-requires : goal.emit_binary-emit-requires
emit_binary-emit-requires n c =
    let left = expr_of c.args.left.now in
    let right = expr_of c.args.right.now in
    let names = c.args.names.now in
    (search rules, (left_of (is_numeric names left) (is_numeric names right) c.requires.numeric, ready_less c.args.emitter.now names c.args.under (4 * (1 + nodes_of left + nodes_of right)) (4 * nodes_of left) (omega arith) c.requires.ready))

pub emit_binary-emit-requires-2 : goal.emit_binary-emit-requires-2
emit_binary-emit-requires-2 n c =
    let left = expr_of c.args.left.now in
    let right = expr_of c.args.right.now in
    let names = c.args.names.now in (
      search rules,
      (
        second_of (is_numeric names left) (is_numeric names right) c.requires.numeric,
        ready_after c.args.emitter.now c.emit.new.emitter names c.args.under (4 * nodes_of left) (4 * nodes_of right) (4 * (1 + nodes_of left + nodes_of right)) (omega arith) c.requires.ready c.in_ok-a.ensures.code.grows c.in_ok-a.ensures.grown,
      ),
    )

pub emit_binary-binary-requires-clause-left : goal.emit_binary-binary-requires-clause-left
emit_binary-binary-requires-clause-left n c = place_kept (written_of c.emit.new.emitter) (written_of c.emit-2.new.emitter) c.in_ok-b.ensures.code.grows c.in_ok-a.a c.in_ok-a.ensures.code.place

pub emit_binary-returns-clause-code : goal.emit_binary-returns-clause-code
emit_binary-returns-clause-code n c = λ line token. if_ok_both c.binary.result (λ d h t. binary_emits (written_of c.args.emitter.now) (written_of c.emit.new.emitter) (written_of c.emit-2.new.emitter) (written_of c.binary.new.self) c.args.names.now line token c.args.op
    (expr_of c.args.left.now) (expr_of c.args.right.now) c.in_ok-a.a c.in_ok-b.b d c.args.under c.requires.ready.running c.requires.plain t c.in_ok-a.ensures.code c.in_ok-b.ensures.code h) c.binary.ensures.code c.binary.ensures.ty

-- ---- `&&`

pub emit_and-emit-requires : goal.emit_and-emit-requires
emit_and-emit-requires n c =
    let left = expr_of c.args.left.now in
    let right = expr_of c.args.right.now in
    let names = c.args.names.now in
    (search rules, (left_of (is_numeric names left) (is_numeric names right) c.requires.numeric, ready_less c.args.emitter.now names c.args.under (4 * (1 + nodes_of left + nodes_of right)) (4 * nodes_of left) (omega arith) c.requires.ready))

pub emit_and-emit-requires-2 : goal.emit_and-emit-requires-2
emit_and-emit-requires-2 n c =
    let old = c.args.emitter.now in
    let one = c.emit.new.emitter in
    let two = c.cases.new.self in
    let left = expr_of c.args.left.now in
    let right = expr_of c.args.right.now in
    let names = c.args.names.now in
    let a = c.in_ok-a.ensures in
    let d = c.in_ok-d.ensures in (
      search rules,
      (
        second_of (is_numeric names left) (is_numeric names right) c.requires.numeric,
        ready_under old two names c.args.under c.first_case.result (4 * nodes_of left + 4) (4 * nodes_of right) (4 * (1 + nodes_of left + nodes_of right)) (omega arith) c.requires.ready
            (grows_cases (written_of old) (written_of one) (written_of two) names left c.in_ok-a.a c.in_ok-d.d c.args.under a.code d.code)
            (grown_then old one two (4 * nodes_of left) 4 (4 * nodes_of left + 4) (omega arith) a.grown (grown_cases one two d.params d.slots d.masks d.registers d.count))
            (first_runs c.args.under c.first_case.result c.first_case.ensures) (first_fits c.args.under c.first_case.result two.masks c.first_case.ensures d.free),
      ),
    )

pub emit_and-constant_into-requires-clause-place : goal.emit_and-constant_into-requires-clause-place
emit_and-constant_into-requires-clause-place n c = place_kept (written_of c.cases.new.self) (written_of c.truth_into.new.self)
    (grows_then (written_of c.cases.new.self) (written_of c.emit-2.new.emitter) (written_of c.truth_into.new.self) c.in_ok-b.ensures.code.grows
    (grows_into (written_of c.emit-2.new.emitter) (written_of c.truth_into.new.self) _ c.in_ok-d.d c.first_case-2.result 3 c.in_ok-truth_into.ensures.code)) c.in_ok-d.d c.in_ok-d.ensures.code.place

pub emit_and-returns-clause-code : goal.emit_and-returns-clause-code
emit_and-returns-clause-code n c = λ line token. and_under (written_of c.args.emitter.now) (written_of c.emit.new.emitter) (written_of c.cases.new.self) (written_of c.truth_into.new.self) (written_of c.constant_into.new.self) (written_of c.emit-2.new.emitter)
    c.args.names.now line token (expr_of c.args.left.now) (expr_of c.args.right.now) c.in_ok-a.a c.in_ok-b.b c.in_ok-d.d c.args.under c.first_case.result c.first_case-2.result c.second_case.result
    c.requires.ready.running c.in_ok-d.ensures.ty c.in_ok-a.ensures.grown.registers c.in_ok-a.ensures.code c.in_ok-d.ensures.code
    c.first_case.ensures c.first_case-2.ensures c.second_case.ensures c.in_ok-b.ensures.code c.in_ok-truth_into.ensures.code c.in_ok-constant_into.ensures.code

-- ---- `||`

pub emit_or-emit-requires : goal.emit_or-emit-requires
emit_or-emit-requires n c =
    let left = expr_of c.args.left.now in
    let right = expr_of c.args.right.now in
    let names = c.args.names.now in
    (search rules, (left_of (is_numeric names left) (is_numeric names right) c.requires.numeric, ready_less c.args.emitter.now names c.args.under (4 * (1 + nodes_of left + nodes_of right)) (4 * nodes_of left) (omega arith) c.requires.ready))

pub emit_or-emit-requires-2 : goal.emit_or-emit-requires-2
emit_or-emit-requires-2 n c =
    let old = c.args.emitter.now in
    let one = c.emit.new.emitter in
    let two = c.cases.new.self in
    let three = c.constant_into.new.self in
    let left = expr_of c.args.left.now in
    let right = expr_of c.args.right.now in
    let names = c.args.names.now in
    let a = c.in_ok-a.ensures in
    let d = c.in_ok-d.ensures in
    let e = c.in_ok-constant_into.ensures in (
      search rules,
      (
        second_of (is_numeric names left) (is_numeric names right) c.requires.numeric,
        ready_under old three names c.args.under c.second_case.result (4 * nodes_of left + 4) (4 * nodes_of right) (4 * (1 + nodes_of left + nodes_of right)) (omega arith) c.requires.ready
            (grows_then (written_of old) (written_of two) (written_of three) (grows_cases (written_of old) (written_of one) (written_of two) names left c.in_ok-a.a c.in_ok-d.d c.args.under a.code d.code)
            (grows_into (written_of two) (written_of three) _ c.in_ok-d.d c.first_case.result 1 e.code))
            (grown_after old two three (4 * nodes_of left + 4) 0 (4 * nodes_of left + 4) (omega arith)
            (grown_then old one two (4 * nodes_of left) 4 (4 * nodes_of left + 4) (omega arith) a.grown (grown_cases one two d.params d.slots d.masks d.registers d.count)) e.base)
            (second_runs c.args.under c.second_case.result c.second_case.ensures) (second_fits c.args.under c.second_case.result two.masks three.masks c.second_case.ensures d.free (same_most two.masks three.masks e.base.masks)),
      ),
    )

pub emit_or-truth_into-requires-clause-place : goal.emit_or-truth_into-requires-clause-place
emit_or-truth_into-requires-clause-place n c = place_kept (written_of c.cases.new.self) (written_of c.emit-2.new.emitter)
    (grows_then (written_of c.cases.new.self) (written_of c.constant_into.new.self) (written_of c.emit-2.new.emitter)
    (grows_into (written_of c.cases.new.self) (written_of c.constant_into.new.self) _ c.in_ok-d.d c.first_case.result 1 c.in_ok-constant_into.ensures.code) c.in_ok-b.ensures.code.grows) c.in_ok-d.d c.in_ok-d.ensures.code.place

pub emit_or-returns-clause-code : goal.emit_or-returns-clause-code
emit_or-returns-clause-code n c = λ line token. or_under (written_of c.args.emitter.now) (written_of c.emit.new.emitter) (written_of c.cases.new.self) (written_of c.constant_into.new.self) (written_of c.truth_into.new.self) (written_of c.emit-2.new.emitter)
    c.args.names.now line token (expr_of c.args.left.now) (expr_of c.args.right.now) c.in_ok-a.a c.in_ok-b.b c.in_ok-d.d c.args.under c.first_case.result c.second_case.result c.second_case-2.result
    c.requires.ready.running c.in_ok-d.ensures.ty c.in_ok-a.ensures.grown.registers c.in_ok-a.ensures.code c.in_ok-d.ensures.code
    c.first_case.ensures c.second_case.ensures c.second_case-2.ensures c.in_ok-constant_into.ensures.code c.in_ok-b.ensures.code c.in_ok-truth_into.ensures.code

-- ---- `?:`

pub emit_choice-type_of-requires : goal.emit_choice-type_of-requires
emit_choice-type_of-requires n c = middle_of (is_numeric c.args.names.now (expr_of c.args.condition.now)) (is_numeric c.args.names.now (expr_of c.args.first.now)) (is_numeric c.args.names.now (expr_of c.args.second.now)) c.requires.numeric

pub emit_choice-type_of-requires-2 : goal.emit_choice-type_of-requires-2
emit_choice-type_of-requires-2 n c = second_of (is_numeric c.args.names.now (expr_of c.args.condition.now) && is_numeric c.args.names.now (expr_of c.args.first.now)) (is_numeric c.args.names.now (expr_of c.args.second.now)) c.requires.numeric

pub emit_choice-emit-requires : goal.emit_choice-emit-requires
emit_choice-emit-requires n c =
    let test = expr_of c.args.condition.now in
    let first = expr_of c.args.first.now in
    let second = expr_of c.args.second.now in
    let names = c.args.names.now in (
      search rules,
      (
        left_of (is_numeric names test) (is_numeric names first) (left_of (is_numeric names test && is_numeric names first) (is_numeric names second) c.requires.numeric),
        ready_less c.args.emitter.now names c.args.under (4 * (1 + nodes_of test + nodes_of first + nodes_of second)) (4 * nodes_of test) (omega arith) c.requires.ready,
      ),
    )

pub emit_choice-emit-requires-2 : goal.emit_choice-emit-requires-2
emit_choice-emit-requires-2 n c =
    let old = c.args.emitter.now in
    let one = c.emit.new.emitter in
    let two = c.cases.new.self in
    let test = expr_of c.args.condition.now in
    let first = expr_of c.args.first.now in
    let second = expr_of c.args.second.now in
    let names = c.args.names.now in
    let a = c.in_ok-a.ensures in
    let d = c.in_ok-d.ensures in (
      search rules,
      (
        middle_of (is_numeric names test) (is_numeric names first) (is_numeric names second) c.requires.numeric,
        ready_under old two names c.args.under c.first_case.result (4 * nodes_of test + 4) (4 * nodes_of first) (4 * (1 + nodes_of test + nodes_of first + nodes_of second)) (omega arith) c.requires.ready
            (grows_cases (written_of old) (written_of one) (written_of two) names test c.in_ok-a.a c.in_ok-d.d c.args.under a.code d.code)
            (grown_then old one two (4 * nodes_of test) 4 (4 * nodes_of test + 4) (omega arith) a.grown (grown_cases one two d.params d.slots d.masks d.registers d.count))
            (first_runs c.args.under c.first_case.result c.first_case.ensures) (first_fits c.args.under c.first_case.result two.masks c.first_case.ensures d.free),
      ),
    )

pub emit_choice-convert_into-requires-clause-place : goal.emit_choice-convert_into-requires-clause-place
emit_choice-convert_into-requires-clause-place n c = place_kept (written_of c.cases.new.self) (written_of c.emit-2.new.emitter) c.in_ok-b.ensures.code.grows c.in_ok-d.d c.in_ok-d.ensures.code.place

pub emit_choice-emit-requires-3 : goal.emit_choice-emit-requires-3
emit_choice-emit-requires-3 n c =
    let old = c.args.emitter.now in
    let one = c.emit.new.emitter in
    let two = c.cases.new.self in
    let three = c.emit-2.new.emitter in
    let four = c.convert_into.new.self in
    let test = expr_of c.args.condition.now in
    let first = expr_of c.args.first.now in
    let second = expr_of c.args.second.now in
    let names = c.args.names.now in
    let a = c.in_ok-a.ensures in
    let d = c.in_ok-d.ensures in
    let b = c.in_ok-b.ensures in
    let e = c.in_ok-convert_into.ensures in (
      search rules,
      (
        second_of (is_numeric names test && is_numeric names first) (is_numeric names second) c.requires.numeric,
        ready_under old four names c.args.under c.second_case.result (4 * nodes_of test + 4 + 4 * nodes_of first) (4 * nodes_of second) (4 * (1 + nodes_of test + nodes_of first + nodes_of second)) (omega arith) c.requires.ready
            (grows_then (written_of old) (written_of three) (written_of four) (grows_then (written_of old) (written_of two) (written_of three)
            (grows_cases (written_of old) (written_of one) (written_of two) names test c.in_ok-a.a c.in_ok-d.d c.args.under a.code d.code) b.code.grows)
            (grows_into (written_of three) (written_of four) _ c.in_ok-d.d c.first_case-2.result 1 e.code))
            (grown_after old three four (4 * nodes_of test + 4 + 4 * nodes_of first) 0 (4 * nodes_of test + 4 + 4 * nodes_of first) (omega arith)
            (grown_then old two three (4 * nodes_of test + 4) (4 * nodes_of first) (4 * nodes_of test + 4 + 4 * nodes_of first) (omega arith)
            (grown_then old one two (4 * nodes_of test) 4 (4 * nodes_of test + 4) (omega arith) a.grown (grown_cases one two d.params d.slots d.masks d.registers d.count)) b.grown) e.base)
            (second_runs c.args.under c.second_case.result c.second_case.ensures)
            (second_fits c.args.under c.second_case.result two.masks four.masks c.second_case.ensures d.free (still_most two.masks three.masks four.masks b.grown.masks e.base.masks)),
      ),
    )

pub emit_choice-convert_into-requires-2-clause-place : goal.emit_choice-convert_into-requires-2-clause-place
emit_choice-convert_into-requires-2-clause-place n c =
    let two = written_of c.cases.new.self in
    let three = written_of c.emit-2.new.emitter in
    let four = written_of c.convert_into.new.self in
    let five = written_of c.emit-3.new.emitter in
    place_kept two five (grows_then two three five c.in_ok-b.ensures.code.grows (grows_then three four five (grows_into three four _ c.in_ok-d.d c.first_case-2.result 1 c.in_ok-convert_into.ensures.code) c.in_ok-c.ensures.code.grows)) c.in_ok-d.d c.in_ok-d.ensures.code.place

pub emit_choice-returns-clause-code : goal.emit_choice-returns-clause-code
emit_choice-returns-clause-code n c = λ line token. choice_under (written_of c.args.emitter.now) (written_of c.emit.new.emitter) (written_of c.cases.new.self) (written_of c.emit-2.new.emitter) (written_of c.convert_into.new.self) (written_of c.emit-3.new.emitter) (written_of c.convert_into-2.new.self)
    c.args.names.now line token (expr_of c.args.condition.now) (expr_of c.args.first.now) (expr_of c.args.second.now) c.in_ok-a.a c.in_ok-b.b c.in_ok-c.c c.in_ok-d.d
    c.args.under c.first_case.result c.first_case-2.result c.second_case.result c.second_case-2.result c.type_of.result c.type_of-2.result
    c.requires.ready.running (c.in_ok-d.ensures.ty ∙ c.common-ty.ensures) c.in_ok-a.ensures.grown.registers c.type_of.ensures c.type_of-2.ensures c.in_ok-a.ensures.code c.in_ok-d.ensures.code
    c.first_case.ensures c.first_case-2.ensures c.second_case.ensures c.second_case-2.ensures c.in_ok-b.ensures.code c.in_ok-convert_into.ensures.code c.in_ok-c.ensures.code c.in_ok-convert_into-2.ensures.code

-- ---- pointers

pub emit_pointer-returns-in-Some-Pointer-clause-code : goal.emit_pointer-returns-in-Some-Pointer-clause-code
emit_pointer-returns-in-Some-Pointer-clause-code n c = rw c.in-Name.is
    (pointer_emits (written_of c.args.emitter.now) c.args.names.now c.args.e.now.line c.args.e.now.token c.in-Name.id c.in-Some-Pointer.pointer c.args.under (sym c.home_named.ensures ∙ (c.in-Some-Pointer.is ∙ ap Some (search rules))) c.requires.ready.homes)

pub emit_pointer-returns-in-Addr-clause-code : goal.emit_pointer-returns-in-Addr-clause-code
emit_pointer-returns-in-Addr-clause-code n c =
    let first = rw c.deref.ensures at c.emit_place.ensures.code in
    rw c.in-Addr.is
    (if_ok_map c.emit_place.result (λ p h. address_emits (written_of c.args.emitter.now) (written_of c.emit_place.new.emitter) c.args.names.now c.args.e.now.line c.args.e.now.token (expr_of c.in-Addr.place.value) p c.args.under h) first)

pub emit_pointer-emit_pointer-requires : goal.emit_pointer-emit_pointer-requires
emit_pointer-emit_pointer-requires n c =
    let base = expr_of c.in-Binary.base.value in
    let by = expr_of c.in-Binary.by.value in
    let ready = rw c.in-Binary.is at c.requires.ready in (
      search rules,
      (
        rw c.deref-in-Binary.ensures (summed_pointing (is_plus c.in-Binary.field-0) (pointing c.args.names.now base) (is_numeric c.args.names.now by) (rw c.in-Binary.is at c.requires.pointing)),
        rw c.deref-in-Binary.ensures (ready_less c.args.emitter.now c.args.names.now c.args.under (4 * (1 + nodes_of base + nodes_of by)) (4 * nodes_of base) (omega arith) ready),
      ),
    )

pub emit_pointer-emit-requires : goal.emit_pointer-emit-requires
emit_pointer-emit-requires n c =
    let base = expr_of c.in-Binary.base.value in
    let by = expr_of c.in-Binary.by.value in
    let ready = rw c.in-Binary.is at c.requires.ready in
    let first = rw c.deref-in-Binary.ensures at c.in_ok-p-in-Binary.ensures.code in
    let grown = rw c.deref-in-Binary.ensures at c.in_ok-p-in-Binary.ensures.grown in (
      search rules,
      (
        rw c.deref-in-Binary-2.ensures (summed_numeric (is_plus c.in-Binary.field-0) (pointing c.args.names.now base) (is_numeric c.args.names.now by) (rw c.in-Binary.is at c.requires.pointing)),
        rw c.deref-in-Binary-2.ensures (ready_after c.args.emitter.now c.emit_pointer.new.emitter c.args.names.now c.args.under (4 * nodes_of base) (4 * nodes_of by) (4 * (1 + nodes_of base + nodes_of by)) (omega arith) ready first.grows grown),
      ),
    )

pub emit_pointer-advance-requires-clause-base : goal.emit_pointer-advance-requires-clause-base
emit_pointer-advance-requires-clause-base n c = c.in_ok-n-in-Binary.ensures.code.grows.kept c.in_ok-p-in-Binary.p.register (Ptr c.in_ok-p-in-Binary.p.to c.in_ok-p-in-Binary.p.written) c.in_ok-p-in-Binary.ensures.code.place

pub emit_pointer-returns-in_ok-n-in-Binary-clause-code : goal.emit_pointer-returns-in_ok-n-in-Binary-clause-code
emit_pointer-returns-in_ok-n-in-Binary-clause-code n c =
    let base = expr_of c.in-Binary.base.value in
    let by = expr_of c.in-Binary.by.value in
    let first = rw c.deref-in-Binary.ensures at c.in_ok-p-in-Binary.ensures.code in
    let moves = rw c.deref-in-Binary.ensures at c.in_ok-p-in-Binary.ensures.moves in
    let second = rw c.deref-in-Binary-2.ensures at c.in_ok-n-in-Binary.ensures.code in
    let sum = rw c.in-Binary.is at c.requires.pointing in
    rw c.in-Binary.is
    (if_ok_both c.advance.result (λ r h is. plus_emits (written_of c.args.emitter.now) (written_of c.emit_pointer.new.emitter) (written_of c.emit.new.emitter) (written_of c.advance.new.emitter) c.args.names.now c.args.e.now.line c.args.e.now.token
    c.in-Binary.field-0 base by c.in_ok-p-in-Binary.p c.in_ok-n-in-Binary.n r c.args.under (pointing c.args.names.now base) (is_numeric c.args.names.now by) c.requires.ready.running is sum moves first second h)
    c.advance.ensures.code c.advance.ensures.pointer)

-- ---- places

pub emit_place-returns-in-Deref-clause-code : goal.emit_place-returns-in-Deref-clause-code
emit_place-returns-in-Deref-clause-code n c =
    let first = rw c.deref-in-Deref.ensures at c.emit_pointer.ensures.code in
    rw c.in-Deref.is
    (if_ok_map c.emit_pointer.result (λ p h. deref_emits (written_of c.args.emitter.now) (written_of c.emit_pointer.new.emitter) c.args.names.now c.args.e.now.line c.args.e.now.token (expr_of c.in-Deref.operand.value) p c.args.under h) first)

pub emit_element-emit_pointer-requires : goal.emit_element-emit_pointer-requires
emit_element-emit_pointer-requires n c =
    let base = expr_of c.args.base.now in
    let subscript = expr_of c.args.subscript.now in
    let names = c.args.names.now in (
      search rules,
      (
        element_pointing (pointing names base) (is_zero subscript) (is_numeric names subscript) c.requires.element,
        ready_less c.args.emitter.now names c.args.under (4 * (1 + nodes_of base + nodes_of subscript)) (4 * nodes_of base) (omega arith) c.requires.ready,
      ),
    )

pub emit_element-returns-then-not-p-clause-code : goal.emit_element-returns-then-not-p-clause-code
emit_element-returns-then-not-p-clause-code n c = λ line token.
    let base = expr_of c.args.base.now in
    let subscript = expr_of c.args.subscript.now in
    let names = c.args.names.now in
    first_emits (written_of c.args.emitter.now) (written_of c.emit_pointer.new.emitter) names line token base subscript c.in_ok-p.p c.args.under
    (element_zero (pointing names base) c.in_ok-p.p.moves (is_zero subscript) (is_numeric names subscript) c.in_ok-p.ensures.moves (search rules) c.requires.element) c.in_ok-p.ensures.code

pub emit_element-emit-requires : goal.emit_element-emit-requires
emit_element-emit-requires n c =
    let base = expr_of c.args.base.now in
    let subscript = expr_of c.args.subscript.now in
    let names = c.args.names.now in (
      search rules,
      (
        element_numeric names (pointing names base) subscript c.requires.element,
        ready_after c.args.emitter.now c.emit_pointer.new.emitter names c.args.under (4 * nodes_of base) (4 * nodes_of subscript) (4 * (1 + nodes_of base + nodes_of subscript)) (omega arith) c.requires.ready c.in_ok-p.ensures.code.grows c.in_ok-p.ensures.grown,
      ),
    )

pub emit_element-advance-requires-clause-base : goal.emit_element-advance-requires-clause-base
emit_element-advance-requires-clause-base n c = c.in_ok-n.ensures.code.grows.kept c.in_ok-p.p.register (Ptr c.in_ok-p.p.to c.in_ok-p.p.written) c.in_ok-p.ensures.code.place

pub emit_element-returns-clause-code : goal.emit_element-returns-clause-code
emit_element-returns-clause-code n c = λ line token. if_ok_both c.advance.result (λ r h is. element_emits (written_of c.args.emitter.now) (written_of c.emit_pointer.new.emitter) (written_of c.emit.new.emitter) (written_of c.advance.new.emitter) c.args.names.now line token
    (expr_of c.args.base.now) (expr_of c.args.subscript.now) c.in_ok-p.p c.in_ok-n.n r c.args.under c.requires.ready.running is (not_fixed c.in_ok-p.p.moves c.if-not-p.false) c.in_ok-p.ensures.code c.in_ok-n.ensures.code h) c.advance.ensures.code c.advance.ensures.pointer
