-- Each function has its place in the list.
use Rattle.std.specs.Prelude.{refl}
use Rattle.std.proofs.Common.{arith}
use Rattle.tool_refusals.specs.declared.Function.TheVariants as function
use Rattle.tool_refusals.proofs.functions.Goals as goal

pub returns-clause-every : goal.returns-clause-every
returns-clause-every c function.New = (0, omega arith, refl)
returns-clause-every c function.Allocate = (1, omega arith, refl)
returns-clause-every c function.Start = (2, omega arith, refl)
returns-clause-every c function.PowerOn = (3, omega arith, refl)
returns-clause-every c function.PowerOff = (4, omega arith, refl)
returns-clause-every c function.Wakeup = (5, omega arith, refl)
returns-clause-every c function.EndpointSetEnabled = (6, omega arith, refl)
returns-clause-every c function.EndpointSetStalled = (7, omega arith, refl)
returns-clause-every c function.IsEnabled = (8, omega arith, refl)
returns-clause-every c function.IsStalled = (9, omega arith, refl)
returns-clause-every c function.Raise = (10, omega arith, refl)
returns-clause-every c function.Poll = (11, omega arith, refl)
returns-clause-every c function.Begin = (12, omega arith, refl)
returns-clause-every c function.Take = (13, omega arith, refl)
returns-clause-every c function.Abandon = (14, omega arith, refl)
returns-clause-every c function.Send = (15, omega arith, refl)
returns-clause-every c function.Sent = (16, omega arith, refl)
returns-clause-every c function.Receive = (17, omega arith, refl)
returns-clause-every c function.Received = (18, omega arith, refl)
returns-clause-every c function.Setup = (19, omega arith, refl)
returns-clause-every c function.DataOut = (20, omega arith, refl)
returns-clause-every c function.DataIn = (21, omega arith, refl)
returns-clause-every c function.TakeOut = (22, omega arith, refl)
returns-clause-every c function.TakeIn = (23, omega arith, refl)
returns-clause-every c function.Accept = (24, omega arith, refl)
returns-clause-every c function.AcceptAddress = (25, omega arith, refl)
returns-clause-every c function.Reject = (26, omega arith, refl)
returns-clause-every c function.Interrupt = (27, omega arith, refl)
returns-clause-every c function.Answer = (28, omega arith, refl)
