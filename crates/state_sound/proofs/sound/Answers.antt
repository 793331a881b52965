-- `sound`: the slots and the rest.
use Rattle.std.proofs.Common.{ℕ, rules, tests, sym, ◌∙◌}
use Rattle.std.proofs.lemmas.Iterator.{YieldsList-from_slice}
use Rattle.std.proofs.lemmas.Iterator.Consumers.{YieldsList-from_enumerate}
use Rattle.std.proofs.lemmas.Iterator.Search.{all_from_yields_List}
use Rattle.base.specs.EachLaws.{every_listed}
use Rattle.state.specs.declared.Slot.{Slot}
use Rattle.state.specs.Fresh.{fresh_slot}
use Rattle.state_sound.specs.Sound.{slotb, slotsb}
use Rattle.state_sound.proofs.SoundLaws.{sound_slots, sound_bad_own}
use Rattle.state_sound.proofs.sound.Goals as goal

pub returns-then-own_sound : goal.returns-then-own_sound
unfolding slotsb
returns-then-own_sound c =
    let s = c.args.state in
    all_from_yields_List (λ (e : ℕ × Slot). slotb s.powered e.0 e.1) _ _ c.all.result c.all.ensures.ran (YieldsList-from_enumerate (YieldsList-from_slice s.endpoints cc) (cc)) (λ x b q k. search (rules, tests))
    ∙ every_listed (slotb s.powered) fresh_slot s.endpoints 16 (cc)
    ∙ sound_slots s c.args.events (sym c.own_sound.ensures ∙ c.if-own_sound.true)

pub returns-else-own_sound : goal.returns-else-own_sound
returns-else-own_sound c = c.if-own_sound.false ∙ sound_bad_own _ _ (sym c.own_sound.ensures ∙ c.if-own_sound.false)
