use Rattle.std.proofs.Common.{◌≡◌, ◌+◌, ◌*◌, ◌≤◌, length, arith, rules}
use Rattle.std.proofs.Math.Nat.{mul-le-mul}
use Rattle.vk_args.proofs.Types.{head_of}
use Rattle.vk_entries.proofs.opening.frame_size.Goals as goal

pub overflow_mul-result : goal.overflow_mul-result
overflow_mul-result c =
    let few = (head_of c.args.place.now c.requires).few in
    let lanes = c.requires.few in
    let code = Rattle.vk_code.specs.declared.code.Code.out-Code c.args.place.now.code.now in
    let small : length code.regs.items + code.masks ≤ 8192 = few in
    let short : c.len.result ≡ length code.regs.items = search rules in
    let a : c.len.result + c.from.result ≤ 8192 = omega (arith, small, short, c.from.ensures) in
    let b : c.from-2.result ≤ 256 = omega (arith, lanes, c.from-2.ensures) in
    let l : (c.len.result + c.from.result) * c.from-2.result ≤ 8192 * 256 = mul-le-mul a b in
    search (rules, l)
