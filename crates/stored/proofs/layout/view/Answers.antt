-- `view` meets its contract. Assumes nothing.
use native.Mathlib.Omega.{arith}
use Rattle.stored.proofs.Exact.{Shaped, shaped}
use Rattle.stored.proofs.layout.view.Goals as goal

pub bounds-numbers-1 : goal.bounds-numbers-1
bounds-numbers-1 c =
    let shape : Shaped c.args.numbers.now = shaped c.args.numbers.now c.requires in
    omega (arith, (shape).long)

pub overflow_cast-result : goal.overflow_cast-result
overflow_cast-result c =
    let shape : Shaped c.args.numbers.now = shaped c.args.numbers.now c.requires in
    omega (arith, (shape).x)

pub bounds-numbers-2 : goal.bounds-numbers-2
bounds-numbers-2 c =
    let shape : Shaped c.args.numbers.now = shaped c.args.numbers.now c.requires in
    omega (arith, (shape).long)

pub overflow_cast-result-2 : goal.overflow_cast-result-2
overflow_cast-result-2 c =
    let shape : Shaped c.args.numbers.now = shaped c.args.numbers.now c.requires in
    omega (arith, (shape).y)

pub bounds-numbers-3 : goal.bounds-numbers-3
bounds-numbers-3 c =
    let shape : Shaped c.args.numbers.now = shaped c.args.numbers.now c.requires in
    omega (arith, (shape).long)
