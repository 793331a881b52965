-- `report`, where its interrupt is accepted: the law of it.
use Rattle.tool_reports.proofs.PlainLaws.{plain}
use Rattle.tool_reports.proofs.report.Goals as goal

pub returns-clause-plain : goal.returns-clause-plain
returns-clause-plain c = λ q. plain _ _ _ _ _ q _ _ _ _
    (rw (c.chain.ensures.result, c.link-quiet.ensures.result, c.begin-begun.ensures.result))
    (rw (c.chain.ensures.list, c.link-quiet.ensures.list, c.link-quiet.ensures.result, c.begin-begun.ensures.list, c.begin-begun.ensures.result))
