-- What the flags ask for behind each place is what the readings of the link lead to there.
-- Assumes nothing.
use Rattle.std.specs.Prelude.{ℕ, Bool, true, false, ◌&&◌, cond, List, [], ◌∷◌, ◌++◌, find, leb, ◌≡◌, refl, Some, None}
use Rattle.std.proofs.Common.{◌∙◌}
use Rattle.state.specs.declared.LinkFlags.{LinkFlags}
use Rattle.state.specs.declared.Awaiting.{Awaiting}
use Rattle.state.specs.declared.Awaiting.TheVariants as awaiting
use Rattle.interrupt_asks.specs.Asking.{behind_message, behind_sent, behind_change}
use Rattle.history_memory.specs.Sequence.{only_if, later, behind_place}

module _ (place : ℕ) where
  -- a reading that the flags may ask for is behind the place, or isn't
  to_come : (b : Bool) (k : Awaiting) (l : List Awaiting) → later place k ≡ true → find (later place) (only_if b k ++ l) ≡ cond b (Some k) (find (later place) l)
  to_come true k l h = rw h
  to_come false k l h = refl

  gone_by : (b : Bool) (k : Awaiting) (l : List Awaiting) → later place k ≡ false → find (later place) (only_if b k ++ l) ≡ find (later place) l
  gone_by true k l h = rw h
  gone_by false k l h = refl

  -- behind the messages, where neither reading has been
  ending : (timed_out warm : Bool) → later place awaiting.WarmResetStatus ≡ true → later place awaiting.TransferStatus ≡ true
      → find (later place) (cond timed_out [] (only_if warm awaiting.WarmResetStatus ++ (awaiting.TransferStatus ∷ [])))
      ≡ cond timed_out None (cond warm (Some awaiting.WarmResetStatus) (Some awaiting.TransferStatus))
  ending true warm h k = refl
  ending false true h k = rw h
  ending false false h k = rw k

module _ (revision : ℕ) (f : LinkFlags) where
  abbrev capable : Bool
  capable = leb 3 revision && f.link_if_rx_set_fc

  abbrev from_warm : List Awaiting
  from_warm = only_if f.link_if_warm_rst awaiting.WarmResetStatus ++ (awaiting.TransferStatus ∷ [])

  abbrev from_message : Bool → List Awaiting
  from_message timed_out = only_if f.link_if_rx_lmp awaiting.MessageWord ++ cond timed_out [] from_warm

  abbrev from_term : Bool → List Awaiting
  from_term timed_out = only_if f.link_if_term_pres awaiting.TermPresStatus ++ from_message timed_out

  -- the sequence from a place on, seen from one before it
  sent : (place : ℕ) → later place awaiting.MessageWord ≡ true → later place awaiting.WarmResetStatus ≡ true → later place awaiting.TransferStatus ≡ true
      → find (later place) (from_message f.link_if_rx_lmp_tout) ≡ behind_sent f
  sent place h k l = rw (to_come place f.link_if_rx_lmp awaiting.MessageWord (cond f.link_if_rx_lmp_tout [] from_warm) h, ending place f.link_if_rx_lmp_tout f.link_if_warm_rst k l)

  change : (place : ℕ) → later place awaiting.TermPresStatus ≡ true → later place awaiting.MessageWord ≡ true → later place awaiting.WarmResetStatus ≡ true
      → later place awaiting.TransferStatus ≡ true → find (later place) (from_term f.link_if_rx_lmp_tout) ≡ behind_change f
  change place h k l m = rw (to_come place f.link_if_term_pres awaiting.TermPresStatus (from_message f.link_if_rx_lmp_tout) h, sent place k l m)

  pub after_flags : behind_place revision f 1 ≡ Some awaiting.LinkStatus
  unfolding behind_place
  after_flags = refl

  pub after_status : behind_place revision f 2 ≡ cond capable (Some awaiting.PortCapability) (behind_change f)
  unfolding behind_place
  after_status = rw (to_come 2 capable awaiting.PortCapability (from_term f.link_if_rx_lmp_tout) refl, change 2 refl refl refl refl)

  pub after_capability : behind_place revision f 3 ≡ behind_change f
  unfolding behind_place
  after_capability = gone_by 3 capable awaiting.PortCapability (from_term f.link_if_rx_lmp_tout) refl ∙ change 3 refl refl refl refl

  pub after_term : behind_place revision f 4 ≡ behind_sent f
  unfolding behind_place
  after_term =
      gone_by 4 capable awaiting.PortCapability (from_term f.link_if_rx_lmp_tout) refl
      ∙ (gone_by 4 f.link_if_term_pres awaiting.TermPresStatus (from_message f.link_if_rx_lmp_tout) refl ∙ sent 4 refl refl refl)

  -- past the messages
  past : (place : ℕ) (timed_out : Bool) → later place awaiting.PortCapability ≡ false → later place awaiting.TermPresStatus ≡ false → later place awaiting.MessageWord ≡ false
      → find (later place) (only_if capable awaiting.PortCapability ++ from_term timed_out) ≡ find (later place) (cond timed_out [] from_warm)
  past place timed_out h k l =
      gone_by place capable awaiting.PortCapability (from_term timed_out) h
      ∙ (gone_by place f.link_if_term_pres awaiting.TermPresStatus (from_message timed_out) k
      ∙ gone_by place f.link_if_rx_lmp awaiting.MessageWord (cond timed_out [] from_warm) l)

  pub after_message : behind_place revision f 5 ≡ behind_message f
  unfolding behind_place
  after_message = past 5 f.link_if_rx_lmp_tout refl refl refl ∙ ending 5 f.link_if_rx_lmp_tout f.link_if_warm_rst refl refl

  pub after_warm : behind_place revision f 6 ≡ Some awaiting.TransferStatus
  unfolding behind_place
  after_warm = past 6 false refl refl refl ∙ gone_by 6 f.link_if_warm_rst awaiting.WarmResetStatus (awaiting.TransferStatus ∷ []) refl
