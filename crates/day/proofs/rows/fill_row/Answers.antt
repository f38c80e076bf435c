use Rattle.std.proofs.Common.{◌≡◌, ◌+◌, ◌*◌, ◌-◌, length, take, drop, replicate, ap, ◌∙◌, arith, length-take, length-drop}
use Rattle.day.proofs.rows.fill_row.Goals as goal
use Rattle.memory.proofs.Renewed.{row_put}

pub returns : goal.returns
returns g c =
    let xs = c.args.figures.now in
    let first = c.args.place * 100 in
    let k : first + c.args.count - first ≡ c.args.count = omega arith in
    let long : length (take (first + c.args.count - first) (drop first xs)) ≡ c.args.count = omega (arith, c.requires.room, length-take (first + c.args.count - first) (drop first xs), length-drop first xs) in
    let row = c.fill.ensures.after c.requires.alike ∙ ap (λ n. replicate n c.args.value) long in
    rw (row, k) (row_put c.args.place c.args.value xs c.args.count c.requires.room)
