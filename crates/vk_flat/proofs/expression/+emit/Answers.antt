-- The code of each kind of expression.
use Rattle.std.proofs.Common.{rules, sym, ◌∙◌, ◌+◌, ◌&&◌, length}
use Rattle.vk_ast.specs.Tree.{expr_of, nodes_of}
use Rattle.vk_flat.specs.Emitters.{written_of}
use Rattle.vk_flat.specs.Locals.{is_numeric}
use Rattle.vk_flat.proofs.Grown.{if_ok_both, on_ok}
use Rattle.vk_flat.proofs.Emitting.{binary_emits, cast_emits, int_emits, name_emits, unary_emits}
use Rattle.vk_flat.proofs.Cases.{and_under, choice_under, count_after, first_fits, first_runs, kept_and, kept_choice, kept_or, masks_after, middle_of, or_under, params_first, params_next, places_cases, places_converted, places_emitted, places_zero, registers_after, room_first, room_kept, room_last, room_three, room_two, same_most, second_fits, second_of, second_runs, still_most}
use Rattle.vk_flat.proofs.expression.+emit.Goals as goal

pub emit-returns-in-Int-clause-code : goal.emit-returns-in-Int-clause-code
emit-returns-in-Int-clause-code n c = rw c.in-Int.is
    (if_ok_both c.constant.result (λ d h t. int_emits (written_of c.args.emitter.now) (written_of c.constant.new.self) c.args.locals.now c.args.e.now.line c.args.e.now.token c.in-Int.value c.in-Int.ty d c.args.under t h) c.constant.ensures.code c.constant.ensures.ty)

pub emit-returns-in-Some-clause-code : goal.emit-returns-in-Some-clause-code
emit-returns-in-Some-clause-code n c = rw c.in-Name.is
    (name_emits (written_of c.args.emitter.now) c.args.locals.now c.args.e.now.line c.args.e.now.token c.in-Name.id c.in-Some.local c.args.under (sym c.local_named.ensures ∙ c.in-Some.is) c.requires.places)

pub emit-returns-in_ok-a-in-Cast-clause-code : goal.emit-returns-in_ok-a-in-Cast-clause-code
emit-returns-in_ok-a-in-Cast-clause-code n c =
    let first = rw c.deref.ensures at c.in_ok-a-in-Cast.ensures.code in
    rw c.in-Cast.is
    (if_ok_both c.convert.result (λ d h t. cast_emits (written_of c.args.emitter.now) (written_of c.emit.new.emitter) (written_of c.convert.new.self) c.args.locals.now c.args.e.now.line c.args.e.now.token c.in-Cast.ty (expr_of c.in-Cast.operand.value) c.in_ok-a-in-Cast.a d c.args.under c.requires.running t first h)
    c.convert.ensures.code c.convert.ensures.ty)

pub emit-returns-in_ok-a-in-Unary-clause-code : goal.emit-returns-in_ok-a-in-Unary-clause-code
emit-returns-in_ok-a-in-Unary-clause-code n c =
    let first = rw c.deref-in-Unary.ensures at c.in_ok-a-in-Unary.ensures.code in
    rw c.in-Unary.is
    (if_ok_both c.unary.result (λ d h t. unary_emits (written_of c.args.emitter.now) (written_of c.emit-in-Unary.new.emitter) (written_of c.unary.new.self) c.args.locals.now c.args.e.now.line c.args.e.now.token c.in-Unary.op (expr_of c.in-Unary.operand.value) c.in_ok-a-in-Unary.a d c.args.under c.requires.running t first h)
    c.unary.ensures.code c.unary.ensures.ty)

pub emit-returns-in_ok-b-in-Binary : goal.emit-returns-in_ok-b-in-Binary
emit-returns-in_ok-b-in-Binary n c =
    let old = c.args.emitter.now in
    let one = c.emit-in-Binary.new.emitter in
    let two = c.emit-in-Binary-2.new.emitter in
    let three = c.binary.new.self in
    let left = expr_of c.in-Binary.left.value in
    let right = expr_of c.in-Binary.right.value in
    let first = rw c.deref-in-Binary.ensures at c.in_ok-a-in-Binary.ensures.code in
    let second = rw c.deref-in-Binary-2.ensures at c.in_ok-b-in-Binary.ensures.code in
    let few_first = rw c.deref-in-Binary.ensures at c.in_ok-a-in-Binary.ensures.count in
    let few_second = rw c.deref-in-Binary-2.ensures at c.in_ok-b-in-Binary.ensures.count in
    rw c.in-Binary.is
    record {
      code = if_ok_both c.binary.result (λ d h t. binary_emits (written_of old) (written_of one) (written_of two) (written_of three) c.args.locals.now c.args.e.now.line c.args.e.now.token c.in-Binary.op left right
          c.in_ok-a-in-Binary.a c.in_ok-b-in-Binary.b d c.args.under c.requires.running c.binary.ensures.plain t first second h) c.binary.ensures.code c.binary.ensures.ty;
      params = on_ok c.binary.result (λ h. h.params ∙ (c.in_ok-b-in-Binary.ensures.params ∙ c.in_ok-a-in-Binary.ensures.params)) c.binary.ensures.base;
      slots = on_ok c.binary.result (λ h. h.slots ∙ (c.in_ok-b-in-Binary.ensures.slots ∙ c.in_ok-a-in-Binary.ensures.slots)) c.binary.ensures.base;
      masks = on_ok c.binary.result (λ h. masks_after old.masks one.masks two.masks three.masks c.in_ok-a-in-Binary.ensures.masks c.in_ok-b-in-Binary.ensures.masks h.masks) c.binary.ensures.base;
      registers = on_ok c.binary.result (λ h. registers_after (length old.regs.items) (length one.regs.items) (length two.regs.items) (length three.regs.items) c.in_ok-a-in-Binary.ensures.registers c.in_ok-b-in-Binary.ensures.registers h.least) c.binary.ensures.base;
      count = on_ok c.binary.result (λ h. count_after (length old.regs.items) old.masks (length one.regs.items) one.masks (length two.regs.items) two.masks (length three.regs.items) three.masks (nodes_of left) (nodes_of right) few_first few_second h.most h.masks) c.binary.ensures.base;
    }

pub emit_and-emit-requires-2 : goal.emit_and-emit-requires-2
emit_and-emit-requires-2 n c =
    let old = c.args.emitter.now in
    let one = c.emit.new.emitter in
    let two = c.cases.new.self in
    let left = expr_of c.args.left.now in
    let right = expr_of c.args.right.now in
    let locals = c.args.locals.now in
    let a = c.in_ok-a.ensures in
    let d = c.in_ok-d.ensures in (
      search rules,
      (
        second_of (is_numeric locals left) (is_numeric locals right) c.requires.numeric,
        (
          places_cases (written_of old) (written_of one) (written_of two) locals left c.in_ok-a.a c.in_ok-d.d c.args.under a.code d.code c.requires.places,
          (
            params_first old.params (length old.regs.items) one.params (length one.regs.items) two.params (length two.regs.items) c.requires.params a.params a.registers d.params d.registers,
            (
              first_runs c.args.under c.first_case.result c.first_case.ensures,
              (
                first_fits c.args.under c.first_case.result two.masks c.first_case.ensures d.free,
                room_two (length old.regs.items) old.masks (length one.regs.items) one.masks (length two.regs.items) two.masks (nodes_of left) (nodes_of right) c.requires.room a.count d.registers d.count,
              ),
            ),
          ),
        ),
      ),
    )

pub emit_and-constant_into-requires-clause-place : goal.emit_and-constant_into-requires-clause-place
emit_and-constant_into-requires-clause-place n c = kept_and (written_of c.emit.new.emitter) (written_of c.cases.new.self) (written_of c.emit-2.new.emitter) (written_of c.truth_into.new.self) c.args.locals.now (expr_of c.args.right.now)
    c.in_ok-a.a c.in_ok-b.b c.in_ok-d.d c.args.under c.first_case.result c.first_case-2.result c.in_ok-d.ensures.code c.in_ok-b.ensures.code c.in_ok-truth_into.ensures.code

pub emit_and-returns-clause-code : goal.emit_and-returns-clause-code
emit_and-returns-clause-code n c = λ line token. and_under (written_of c.args.emitter.now) (written_of c.emit.new.emitter) (written_of c.cases.new.self) (written_of c.truth_into.new.self) (written_of c.constant_into.new.self) (written_of c.emit-2.new.emitter)
    c.args.locals.now line token (expr_of c.args.left.now) (expr_of c.args.right.now) c.in_ok-a.a c.in_ok-b.b c.in_ok-d.d c.args.under c.first_case.result c.first_case-2.result c.second_case.result
    c.requires.running c.in_ok-d.ensures.ty c.in_ok-a.ensures.registers c.in_ok-a.ensures.code c.in_ok-d.ensures.code
    c.first_case.ensures c.first_case-2.ensures c.second_case.ensures c.in_ok-b.ensures.code c.in_ok-truth_into.ensures.code c.in_ok-constant_into.ensures.code

pub emit_or-emit-requires-2 : goal.emit_or-emit-requires-2
emit_or-emit-requires-2 n c =
    let old = c.args.emitter.now in
    let one = c.emit.new.emitter in
    let two = c.cases.new.self in
    let three = c.constant_into.new.self in
    let left = expr_of c.args.left.now in
    let right = expr_of c.args.right.now in
    let locals = c.args.locals.now in
    let a = c.in_ok-a.ensures in
    let d = c.in_ok-d.ensures in
    let e = c.in_ok-constant_into.ensures in (
      search rules,
      (
        second_of (is_numeric locals left) (is_numeric locals right) c.requires.numeric,
        (
          places_zero (written_of two) (written_of three) locals 1 c.in_ok-d.d c.first_case.result e.code
              (places_cases (written_of old) (written_of one) (written_of two) locals left c.in_ok-a.a c.in_ok-d.d c.args.under a.code d.code c.requires.places),
          (
            params_next two.params (length two.regs.items) three.params (length three.regs.items)
                (params_first old.params (length old.regs.items) one.params (length one.regs.items) two.params (length two.regs.items) c.requires.params a.params a.registers d.params d.registers) e.base.params e.base.least,
            (
              second_runs c.args.under c.second_case.result c.second_case.ensures,
              (
                second_fits c.args.under c.second_case.result two.masks three.masks c.second_case.ensures d.free (same_most two.masks three.masks e.base.masks),
                room_kept (length two.regs.items) two.masks (length three.regs.items) three.masks (nodes_of right)
                    (room_two (length old.regs.items) old.masks (length one.regs.items) one.masks (length two.regs.items) two.masks (nodes_of left) (nodes_of right) c.requires.room a.count d.registers d.count) e.base.most e.base.masks,
              ),
            ),
          ),
        ),
      ),
    )

pub emit_or-truth_into-requires-clause-place : goal.emit_or-truth_into-requires-clause-place
emit_or-truth_into-requires-clause-place n c = kept_or (written_of c.emit.new.emitter) (written_of c.cases.new.self) (written_of c.constant_into.new.self) (written_of c.emit-2.new.emitter) c.args.locals.now (expr_of c.args.right.now)
    c.in_ok-a.a c.in_ok-b.b c.in_ok-d.d c.args.under c.first_case.result c.second_case.result c.in_ok-d.ensures.code c.in_ok-constant_into.ensures.code c.in_ok-b.ensures.code

pub emit_or-returns-clause-code : goal.emit_or-returns-clause-code
emit_or-returns-clause-code n c = λ line token. or_under (written_of c.args.emitter.now) (written_of c.emit.new.emitter) (written_of c.cases.new.self) (written_of c.constant_into.new.self) (written_of c.truth_into.new.self) (written_of c.emit-2.new.emitter)
    c.args.locals.now line token (expr_of c.args.left.now) (expr_of c.args.right.now) c.in_ok-a.a c.in_ok-b.b c.in_ok-d.d c.args.under c.first_case.result c.second_case.result c.second_case-2.result
    c.requires.running c.in_ok-d.ensures.ty c.in_ok-a.ensures.registers c.in_ok-a.ensures.code c.in_ok-d.ensures.code
    c.first_case.ensures c.second_case.ensures c.second_case-2.ensures c.in_ok-constant_into.ensures.code c.in_ok-b.ensures.code c.in_ok-truth_into.ensures.code

pub emit_choice-emit-requires-2 : goal.emit_choice-emit-requires-2
emit_choice-emit-requires-2 n c =
    let old = c.args.emitter.now in
    let one = c.emit.new.emitter in
    let two = c.cases.new.self in
    let test = expr_of c.args.condition.now in
    let first = expr_of c.args.first.now in
    let second = expr_of c.args.second.now in
    let locals = c.args.locals.now in
    let a = c.in_ok-a.ensures in
    let d = c.in_ok-d.ensures in (
      search rules,
      (
        middle_of (is_numeric locals test) (is_numeric locals first) (is_numeric locals second) c.requires.numeric,
        (
          places_cases (written_of old) (written_of one) (written_of two) locals test c.in_ok-a.a c.in_ok-d.d c.args.under a.code d.code c.requires.places,
          (
            params_first old.params (length old.regs.items) one.params (length one.regs.items) two.params (length two.regs.items) c.requires.params a.params a.registers d.params d.registers,
            (
              first_runs c.args.under c.first_case.result c.first_case.ensures,
              (
                first_fits c.args.under c.first_case.result two.masks c.first_case.ensures d.free,
                room_first (length two.regs.items + two.masks) (nodes_of first) (nodes_of second)
                    (room_three (length old.regs.items) old.masks (length one.regs.items) one.masks (length two.regs.items) two.masks (nodes_of test) (nodes_of first) (nodes_of second) c.requires.room a.count d.registers d.count),
              ),
            ),
          ),
        ),
      ),
    )

pub emit_choice-emit-requires-3 : goal.emit_choice-emit-requires-3
emit_choice-emit-requires-3 n c =
    let old = c.args.emitter.now in
    let one = c.emit.new.emitter in
    let two = c.cases.new.self in
    let three = c.emit-2.new.emitter in
    let four = c.convert_into.new.self in
    let test = expr_of c.args.condition.now in
    let first = expr_of c.args.first.now in
    let second = expr_of c.args.second.now in
    let locals = c.args.locals.now in
    let a = c.in_ok-a.ensures in
    let d = c.in_ok-d.ensures in
    let b = c.in_ok-b.ensures in
    let e = c.in_ok-convert_into.ensures in (
      search rules,
      (
        second_of (is_numeric locals test && is_numeric locals first) (is_numeric locals second) c.requires.numeric,
        (
          places_converted (written_of three) (written_of four) locals c.in_ok-b.b c.in_ok-d.d c.first_case-2.result e.code
              (places_emitted (written_of two) (written_of three) locals first c.in_ok-b.b c.first_case.result b.code
              (places_cases (written_of old) (written_of one) (written_of two) locals test c.in_ok-a.a c.in_ok-d.d c.args.under a.code d.code c.requires.places)),
          (
            params_next three.params (length three.regs.items) four.params (length four.regs.items)
                (params_next two.params (length two.regs.items) three.params (length three.regs.items)
                (params_first old.params (length old.regs.items) one.params (length one.regs.items) two.params (length two.regs.items) c.requires.params a.params a.registers d.params d.registers) b.params b.registers)
                e.base.params e.base.least,
            (
              second_runs c.args.under c.second_case.result c.second_case.ensures,
              (
                second_fits c.args.under c.second_case.result two.masks four.masks c.second_case.ensures d.free (still_most two.masks three.masks four.masks b.masks e.base.masks),
                room_kept (length three.regs.items) three.masks (length four.regs.items) four.masks (nodes_of second)
                    (room_last (length two.regs.items) two.masks (length three.regs.items) three.masks (nodes_of first) (nodes_of second)
                    (room_three (length old.regs.items) old.masks (length one.regs.items) one.masks (length two.regs.items) two.masks (nodes_of test) (nodes_of first) (nodes_of second) c.requires.room a.count d.registers d.count) b.count)
                    e.base.most e.base.masks,
              ),
            ),
          ),
        ),
      ),
    )

pub emit_choice-convert_into-requires-2-clause-place : goal.emit_choice-convert_into-requires-2-clause-place
emit_choice-convert_into-requires-2-clause-place n c = kept_choice (written_of c.emit.new.emitter) (written_of c.cases.new.self) (written_of c.emit-2.new.emitter) (written_of c.convert_into.new.self) (written_of c.emit-3.new.emitter)
    c.args.locals.now (expr_of c.args.first.now) (expr_of c.args.second.now) c.in_ok-a.a c.in_ok-b.b c.in_ok-c.c c.in_ok-d.d c.args.under c.first_case.result c.first_case-2.result c.second_case.result
    c.in_ok-d.ensures.code c.in_ok-b.ensures.code c.in_ok-convert_into.ensures.code c.in_ok-c.ensures.code

pub emit_choice-returns-clause-code : goal.emit_choice-returns-clause-code
emit_choice-returns-clause-code n c = λ line token. choice_under (written_of c.args.emitter.now) (written_of c.emit.new.emitter) (written_of c.cases.new.self) (written_of c.emit-2.new.emitter) (written_of c.convert_into.new.self) (written_of c.emit-3.new.emitter) (written_of c.convert_into-2.new.self)
    c.args.locals.now line token (expr_of c.args.condition.now) (expr_of c.args.first.now) (expr_of c.args.second.now) c.in_ok-a.a c.in_ok-b.b c.in_ok-c.c c.in_ok-d.d
    c.args.under c.first_case.result c.first_case-2.result c.second_case.result c.second_case-2.result c.type_of.result c.type_of-2.result
    c.requires.running (c.in_ok-d.ensures.ty ∙ c.common-ty.ensures) c.in_ok-a.ensures.registers c.type_of.ensures c.type_of-2.ensures c.in_ok-a.ensures.code c.in_ok-d.ensures.code
    c.first_case.ensures c.first_case-2.ensures c.second_case.ensures c.second_case-2.ensures c.in_ok-b.ensures.code c.in_ok-convert_into.ensures.code c.in_ok-c.ensures.code c.in_ok-convert_into-2.ensures.code
