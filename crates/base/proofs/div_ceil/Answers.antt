-- One division, and none where there is nothing to divide.
use Rattle.std.proofs.Common.{arith}
use Rattle.base.specs.CeilLaws.{ceil_some, ceil_none, ceil_by_zero}
use Rattle.base.proofs.div_ceil.Goals as goal

pub returns-then-n-eq0 : goal.returns-then-n-eq0
returns-then-n-eq0 c = ceil_none c.args.n c.args.m c.if-n-eq0.true

pub returns-then-m-eq0 : goal.returns-then-m-eq0
returns-then-m-eq0 c = ceil_by_zero c.args.n c.args.m c.if-m-eq0.true

pub returns : goal.returns
returns c = ceil_some c.args.n c.args.m (omega arith) (omega arith)
