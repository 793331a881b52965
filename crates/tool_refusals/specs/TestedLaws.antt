-- What each function tests for: its call's answer is the first that is due, the conditions name its refusals, and each is given.
-- Assumes nothing.
use Rattle.std.specs.Prelude.{◌≡◌}
use Rattle.std.proofs.Common.{subst, sym}
use Rattle.driver_new.specs.New.{new_conditions, new_result}
use Rattle.driver_allocate.specs.Allocate.{allocate_conditions, allocate_result}
use Rattle.usbss.specs.Step.{step}
use Rattle.tool_refusals.specs.declared.Function.{Function}
use Rattle.tool_refusals.specs.Tested.{conditions, named, TestedFor, Tests}
use Rattle.tool_refusals.specs.NamedLaws.{listed, one, each_named}
use Rattle.tool_refusals.specs.FirstLaws.{new_first, allocate_first, each_first}
use Rattle.tool_refusals.specs.GivenLaws.{each_given}

-- each function's list is what its call tests for
each_tests : (f : Function) → Tests f (listed f)
each_tests f =
    record {
      made =
          λ e address length.
          subst (λ g. TestedFor (new_result address length) (new_conditions address length) (listed g)) (sym e)
          (record { first = new_first address length; names = named one });
      allocated =
          λ e d incoming r.
          subst (λ g. TestedFor (allocate_result d incoming r).answer (allocate_conditions d incoming r) (listed g)) (sym e)
          (record { first = allocate_first d incoming r; names = named (named (named (named (named one)))) });
      called =
          λ w k c e.
          subst (λ g. TestedFor (step w c).answer (conditions w c) (listed g)) e
          (record { first = each_first w c; names = each_named w k c });
      given = each_given f;
    }

pub tests_of : {f g : Function} → f ≡ g → Tests f (listed g)
tests_of {f} {g} e = subst (λ h. Tests h (listed g)) (sym e) (each_tests g)
