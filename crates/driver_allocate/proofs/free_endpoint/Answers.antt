-- `free_endpoint`: the first that is available is the lowest.
use Rattle.std.proofs.Common.{◌≡◌, true, false, rules}
use Rattle.std.proofs.lemmas.Iterator.{first_from_Range}
use Rattle.driver_allocate.specs.Rules.{available}
use Rattle.driver_allocate.specs.RulesLaws.{found_lowest}
use Rattle.driver_allocate.proofs.free_endpoint.Goals as goal

pub returns : goal.returns
returns c =
    let a = c.args in
    let p = available a.driver.now a.incoming a.requested in
    found_lowest p 7 _
    (first_from_Range _ _ _ _ (λ i. p i ≡ true) (λ i. p i ≡ false) c.find.ensures.ran
    (λ x q k. search rules)
    (λ x q k. (search rules, search rules)))
