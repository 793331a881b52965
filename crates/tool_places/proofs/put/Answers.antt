-- `put`: the bytes stand from the position on.
use Rattle.std.proofs.Common.{◌≡◌, ◌-◌, arith, length, drop, length-take, length-drop}
use Rattle.tool_laws.specs.TextLaws.{part_stored}
use Rattle.tool_places.proofs.put.Goals as goal

pub returns : goal.returns
returns c =
    let l = c.args.text.now in
    let all : c.copy-n.result ≡ length c.args.bytes.now
    = omega (arith, c.copy-n.ensures.count, length-take (length l - c.args.at) (drop c.args.at l), length-drop c.args.at l) in
    part_stored _ _ _ _ _ c.requires all (rw all at c.copy-n.ensures.stored)
