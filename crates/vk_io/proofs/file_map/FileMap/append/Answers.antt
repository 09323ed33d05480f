use Rattle.std.proofs.Common.{arith, ◌≡◌, ℕ, List}
use Rattle.std.proofs.lemmas.Map.Text.{text_keys}
use Rattle.std.specs.Prelude.{Result, Ok, Err, OnErr}
use Rattle.vk_io.specs.Inner.FileMap.{contents}
use Rattle.vk_io.proofs.file_map.FileMap.append.Goals as goal

-- what holds anyway holds where the result is an error
on_err : {T E : Type 0} (r : Result T E) (P : Type 0) → P → OnErr r P
on_err (Ok _) P p = tt
on_err (Err _) P p = p

pub returns-in_err-extend_from_slice-in-Some-clause-others :
    goal.returns-in_err-extend_from_slice-in-Some-clause-others
returns-in_err-extend_from_slice-in-Some-clause-others c = λ q ne. grind (arith, text_keys)

pub returns-in_err-extend_from_slice-in-Some-clause-err :
    goal.returns-in_err-extend_from_slice-in-Some-clause-err
returns-in_err-extend_from_slice-in-Some-clause-err c =
    let kept : (q : List ℕ) → contents (record c.args.self.now { files = c.get_mut.follows.lender c.extend_from_slice.new.self }) q ≡ contents c.args.self.now q = λ q. grind (arith, text_keys) in
    on_err _ _ kept

pub returns-in_ok-extend_from_slice-in-Some-clause-others :
    goal.returns-in_ok-extend_from_slice-in-Some-clause-others
returns-in_ok-extend_from_slice-in-Some-clause-others c = λ q ne. grind (arith, text_keys)
