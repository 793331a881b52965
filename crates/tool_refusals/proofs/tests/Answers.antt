-- Each function's list is the one that its call tests for.
use Rattle.tool_refusals.specs.TestedLaws.{tests_of}
use Rattle.tool_refusals.proofs.tests.Goals as goal

pub returns-in-New : goal.returns-in-New
returns-in-New c = tests_of c.in-New.is

pub returns-in-Allocate : goal.returns-in-Allocate
returns-in-Allocate c = tests_of c.in-Allocate.is

pub returns-in-Start : goal.returns-in-Start
returns-in-Start c = tests_of c.in-Start.is

pub returns-in-PowerOn : goal.returns-in-PowerOn
returns-in-PowerOn c = tests_of c.in-PowerOn.is

pub returns-in-PowerOff : goal.returns-in-PowerOff
returns-in-PowerOff c = tests_of c.in-PowerOff.is

pub returns-in-Wakeup : goal.returns-in-Wakeup
returns-in-Wakeup c = tests_of c.in-Wakeup.is

pub returns-in-EndpointSetEnabled : goal.returns-in-EndpointSetEnabled
returns-in-EndpointSetEnabled c = tests_of c.in-EndpointSetEnabled.is

pub returns-in-EndpointSetStalled : goal.returns-in-EndpointSetStalled
returns-in-EndpointSetStalled c = tests_of c.in-EndpointSetStalled.is

pub returns-in-IsEnabled : goal.returns-in-IsEnabled
returns-in-IsEnabled c = tests_of c.in-IsEnabled.is

pub returns-in-IsStalled : goal.returns-in-IsStalled
returns-in-IsStalled c = tests_of c.in-IsStalled.is

pub returns-in-Raise : goal.returns-in-Raise
returns-in-Raise c = tests_of c.in-Raise.is

pub returns-in-Poll : goal.returns-in-Poll
returns-in-Poll c = tests_of c.in-Poll.is

pub returns-in-Begin : goal.returns-in-Begin
returns-in-Begin c = tests_of c.in-Begin.is

pub returns-in-Take : goal.returns-in-Take
returns-in-Take c = tests_of c.in-Take.is

pub returns-in-Abandon : goal.returns-in-Abandon
returns-in-Abandon c = tests_of c.in-Abandon.is

pub returns-in-Send : goal.returns-in-Send
returns-in-Send c = tests_of c.in-Send.is

pub returns-in-Sent : goal.returns-in-Sent
returns-in-Sent c = tests_of c.in-Sent.is

pub returns-in-Receive : goal.returns-in-Receive
returns-in-Receive c = tests_of c.in-Receive.is

pub returns-in-Received : goal.returns-in-Received
returns-in-Received c = tests_of c.in-Received.is

pub returns-in-Setup : goal.returns-in-Setup
returns-in-Setup c = tests_of c.in-Setup.is

pub returns-in-DataOut : goal.returns-in-DataOut
returns-in-DataOut c = tests_of c.in-DataOut.is

pub returns-in-DataIn : goal.returns-in-DataIn
returns-in-DataIn c = tests_of c.in-DataIn.is

pub returns-in-TakeOut : goal.returns-in-TakeOut
returns-in-TakeOut c = tests_of c.in-TakeOut.is

pub returns-in-TakeIn : goal.returns-in-TakeIn
returns-in-TakeIn c = tests_of c.in-TakeIn.is

pub returns-in-Accept : goal.returns-in-Accept
returns-in-Accept c = tests_of c.in-Accept.is

pub returns-in-AcceptAddress : goal.returns-in-AcceptAddress
returns-in-AcceptAddress c = tests_of c.in-AcceptAddress.is

pub returns-in-Reject : goal.returns-in-Reject
returns-in-Reject c = tests_of c.in-Reject.is

pub returns-in-Interrupt : goal.returns-in-Interrupt
returns-in-Interrupt c = tests_of c.in-Interrupt.is

pub returns-in-Answer : goal.returns-in-Answer
returns-in-Answer c = tests_of c.in-Answer.is
