-- `busy_sound`: IN has two clauses, OUT five.
use Rattle.state_sound.specs.Clauses.{aligned}
use Rattle.std.proofs.lemmas.Bool.{eq-eqb, ne_eqb}
use mathlib.Core.Bool.{and-true}
use Rattle.state_sound.specs.Sound.{busy_clausesb}
use Rattle.state_sound.proofs.busy_sound.Goals as goal

pub returns-then-i-eq1 : goal.returns-then-i-eq1
unfolding busy_clausesb
returns-then-i-eq1 c =
    let x = c.args.x in
    rw (c.in_ram-inside.ensures, c.is_aligned-even.ensures, eq-eqb _ _ c.if-i-eq1.true, and-true (aligned x.transfer.address))

pub returns : goal.returns
unfolding busy_clausesb
returns c = rw (c.in_ram-inside.ensures, c.is_aligned-even.ensures, c.out_sound-out.ensures, c.slot_size.ensures, ne_eqb _ _ c.if-i-eq1.false)
