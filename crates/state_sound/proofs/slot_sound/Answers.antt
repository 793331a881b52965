-- `slot_sound`: out at the first fault, or where nothing is left to ask.
use Rattle.std.proofs.Common.{◌≡◌, true, sym, ◌∙◌, lt-ltb, le-ltb, le-leb}
use Rattle.std.proofs.lemmas.Bool.{lt-leb}
use Rattle.state_sound.specs.Sound.{configb, Configured}
use Rattle.state_sound.proofs.SoundLaws.{config_none, slot_misconfigured, slot_ep0, slot_over, slot_idle, slot_done, slot_busy, slot_unready, slot_unused}
use Rattle.state_sound.proofs.slot_sound.Goals as goal
use Rattle.state_sound.proofs.slot_sound.Goals.{Else-not-config_fits, Else-x}

pub returns-then-i-lt2 : goal.returns-then-i-lt2
returns-then-i-lt2 c = let none = c.in_default.is in slot_ep0 _ _ _ (rw none (sym (config_none _))) (lt-ltb _ _ c.if-i-lt2.true)

pub returns-in_default : goal.returns-in_default
returns-in_default c = let none = c.in_default.is in rw c.is_idle-idle.ensures (slot_unused _ _ _ (rw none) (le-ltb _ _ c.if-i-lt2.false))

pub returns-then-not-config_fits : goal.returns-then-not-config_fits
returns-then-not-config_fits c = let some = c.in-Some.is in slot_misconfigured _ _ _ (rw some (sym c.config_fits.ensures ∙ c.if-not-config_fits.true))

fits : (c : Else-not-config_fits) → configb c.args.i c.args.x.config ≡ true
fits c = let some = c.in-Some.is in rw some (sym c.config_fits.ensures ∙ c.if-not-config_fits.false)

pub returns-then-i-lt2-2 : goal.returns-then-i-lt2-2
returns-then-i-lt2-2 c = slot_ep0 _ _ _ (fits (goal.at.returns-then-i-lt2-2 c).Else-not-config_fits) (lt-ltb _ _ c.if-i-lt2-2.true)

pub returns-then-x : goal.returns-then-x
returns-then-x c = slot_over _ _ _ (le-ltb _ _ c.if-i-lt2-2.false) (lt-leb _ _ c.if-x.true)

-- what is known of a slot whose phase is asked
known : (c : Else-x) → Configured c.args.i c.args.x
known c =
    let some = c.in-Some.is in
    record { has = rw some; fits = rw some (sym c.config_fits.ensures ∙ c.if-not-config_fits.false); data_slot = le-ltb _ _ c.if-i-lt2-2.false; within = le-leb _ _ c.if-x.false }

pub returns-then-idle : goal.returns-then-idle
returns-then-idle c = slot_idle _ _ _ (known (goal.at.returns-then-idle c).Else-x) (sym c.is_idle-idle.ensures ∙ c.if-idle.true)

pub returns-then-is_busy : goal.returns-then-is_busy
returns-then-is_busy c = c.busy_sound.ensures ∙ slot_busy _ _ _ (known (goal.at.returns-then-is_busy c).Else-x) (sym c.is_busy.ensures ∙ c.if-is_busy.true) c.if-powered-x.true

pub returns-then-powered-x : goal.returns-then-powered-x
returns-then-powered-x c = slot_done _ _ _ (known (goal.at.returns-then-powered-x c).Else-x) (sym c.is_idle-idle.ensures ∙ c.if-idle.false) (sym c.is_busy.ensures ∙ c.if-is_busy.false) c.if-powered-x.true

pub returns : goal.returns
returns c = slot_unready _ _ _ (known (goal.at.returns c).Else-x) (sym c.is_idle-idle.ensures ∙ c.if-idle.false) c.if-powered-x.false
