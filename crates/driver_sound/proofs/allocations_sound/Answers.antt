-- `allocations_sound`: each allocation by its number.
use Rattle.std.proofs.Common.{ℕ, rules, tests, ◌∙◌, Option, None}
use Rattle.std.proofs.lemmas.Iterator.{YieldsList-from_slice}
use Rattle.std.proofs.lemmas.Iterator.Consumers.{YieldsList-from_enumerate}
use Rattle.std.proofs.lemmas.Iterator.Search.{all_from_yields_List}
use Rattle.base.specs.EachLaws.{every_listed}
use Rattle.state.specs.declared.EndpointConfig.{EndpointConfig}
use Rattle.state_sound.specs.Sound.{configb, allocationsb}
use Rattle.driver_sound.proofs.allocations_sound.Goals as goal

pub returns : goal.returns
unfolding allocationsb
returns c =
    let l = c.args.driver.endpoints in
    all_from_yields_List (λ (e : ℕ × Option EndpointConfig). configb e.0 e.1) _ _ c.all.result c.all.ensures.ran (YieldsList-from_enumerate (YieldsList-from_slice l cc) (cc)) (λ x b q k. search (rules, tests))
    ∙ every_listed configb None l 16 (cc)
