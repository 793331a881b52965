-- Each refusal has its place in the list.
use Rattle.std.specs.Prelude.{refl}
use Rattle.std.proofs.Common.{arith}
use Rattle.state.specs.declared.Refusal.TheVariants as refusal
use Rattle.tool_refusals.proofs.numbered.Goals as goal

pub returns-clause-every : goal.returns-clause-every
returns-clause-every c refusal.MemoryOutsideRam = (0, omega arith, refl)
returns-clause-every c refusal.MemoryTooSmall = (1, omega arith, refl)
returns-clause-every c refusal.UnfitPacketSize = (2, omega arith, refl)
returns-clause-every c refusal.UnfitBurst = (3, omega arith, refl)
returns-clause-every c refusal.WrongDirection = (4, omega arith, refl)
returns-clause-every c refusal.ControlPacketSize = (5, omega arith, refl)
returns-clause-every c refusal.NoDataEndpoint = (6, omega arith, refl)
returns-clause-every c refusal.UnfitBuffer = (7, omega arith, refl)
returns-clause-every c refusal.TooLong = (8, omega arith, refl)
returns-clause-every c refusal.ListTooShort = (9, omega arith, refl)
returns-clause-every c refusal.OutOfRange = (10, omega arith, refl)
returns-clause-every c refusal.NoFreeEndpoint = (11, omega arith, refl)
returns-clause-every c refusal.NoRoom = (12, omega arith, refl)
returns-clause-every c refusal.Disabled = (13, omega arith, refl)
returns-clause-every c refusal.InHand = (14, omega arith, refl)
returns-clause-every c refusal.OutOfTurn = (15, omega arith, refl)
returns-clause-every c refusal.NotSuspended = (16, omega arith, refl)
returns-clause-every c refusal.Unsound = (17, omega arith, refl)
