-- A slot's configuration, where there is one.
-- Assumes nothing.
use Rattle.std.specs.Prelude.{ℕ, ◌≡◌, Bool, true, Option}
use Rattle.state.specs.declared.EndpointConfig.{EndpointConfig}
use Rattle.state.specs.declared.Slot.{Slot}
use Rattle.state_sound.specs.Sound.{configb, Configured}

-- a configuration is sound where it is one that is
pub config_of : (i : ℕ) (config known : Option EndpointConfig) (t : Bool) → config ≡ known → configb i known ≡ t → configb i config ≡ t
config_of i config known t e h = rw e h

-- a data slot that is configured has a sound one
pub config_fits : (i : ℕ) (x : Slot) → Configured i x → configb i x.config ≡ true
config_fits i x k = k.fits
