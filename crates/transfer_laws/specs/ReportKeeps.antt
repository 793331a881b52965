-- A chain report keeps the state sound and each slot's account right, and the next chain stays inside the transfer.
-- Assumes nothing.
use Rattle.std.specs.Prelude.{ℕ, ◌+◌, ◌*◌, ◌-◌, ◌≤◌, ◌<◌, Bool, true, false, ◌≡◌, refl, leb, ltb}
use Rattle.std.proofs.Common.{sym, ◌∙◌, mul-le-mul_right, arith, leb-true, ltb-true, le-ltb}
use Rattle.base.specs.EachLaws.{and_left, and_right, true_not_false}
use Rattle.state.specs.declared.Phase.{Phase}
use Rattle.state.specs.declared.Phase.TheVariants.{Idle, Busy, Done}
use Rattle.state.specs.declared.Transfer.{Transfer}
use Rattle.state.specs.declared.Slot.{Slot}
use Rattle.state.specs.declared.State.{State}
use Rattle.state.specs.declared.Events.{Events}
use Rattle.state.specs.Fresh.{slot_at}
use Rattle.state.specs.Setters.{with_slot, limit_of}
use Rattle.state_slots.specs.Slots.{idleb, busyb, slot_number, slot_of, slot_size, own_buffer, moved_slot}
use Rattle.state_slots.specs.Tally.{SameDifference}
use Rattle.state_laws.specs.TallyLaws.{unmoved_difference, stored_difference}
use Rattle.state_sound.specs.Clauses.{is_in}
use Rattle.state_sound.specs.Sound.{soundb, slotb}
use Rattle.state_sound.proofs.FactLaws.{OutFacts, BusyFacts, SlotFacts, slot_facts, Moves, changed_sound, in_slot, one_slot_kept}
use Rattle.state_laws.specs.SetterLaws.{wake_sound}
use Rattle.transfer_chain.specs.Chains.{chain_packets, left, place, slot_chain, next_chain, queued_slot, sent, reported, arrived, in_goes_on, out_goes_on}
use Rattle.transfer_laws.specs.TransferLaws.{packets_some, sent_within, last_has_rest, Whole, whole_of, whole_progress, report_fits, report_counted, still_whole, chain_moves, Inside, chain_inside}
use Rattle.transfer_report.specs.Report.{state_after, report_state}
use Rattle.transfer_step.specs.Step.{step_of, counted_transfer, counted_slot}

-- what is busy is in hand
busy_in_hand : (phase : Phase) → busyb phase ≡ true → idleb phase ≡ false
busy_in_hand Idle b = absurd (true_not_false (sym b))
busy_in_hand Busy b = refl
busy_in_hand Done b = absurd (true_not_false (sym b))

-- One busy slot after a report that gives it the transfer t, and u when it hands another chain over: it goes on or is done.
after_sound : (s : State) (v : Events) (i : ℕ) (incoming more : Bool) (t u : Transfer)
    → queued_slot (limit_of s) incoming (moved_slot (slot_at s i) (slot_at s i).phase t) ≡ moved_slot (slot_at s i) (slot_at s i).phase u → soundb s v ≡ true
    → (SlotFacts s.powered i (slot_at s i) → t.progress ≤ t.length)
    → (more ≡ true → SlotFacts s.powered i (slot_at s i) → Moves s.powered i (slot_at s i) (slot_at s i).phase u)
    → soundb (state_after s i incoming (step_of (busyb (slot_at s i).phase) more (moved_slot (slot_at s i) (slot_at s i).phase t))) v ≡ true
after_sound s v i incoming more t u queued h within goes = go (busyb (slot_at s i).phase) refl more refl
  where
    x : Slot
    x = slot_at s i

    go : (b : Bool) → busyb (slot_at s i).phase ≡ b → (m : Bool) → more ≡ m → soundb (state_after s i incoming (step_of b m (moved_slot (slot_at s i) (slot_at s i).phase t))) v ≡ true
    go false b m q = h
    go true b true q = rw queued (one_slot_kept s v i (moved_slot x x.phase u) h (λ k. changed_sound s.powered i x x.phase u x.tally k (λ d f. goes q f)))
    go true b false q =
        wake_sound (with_slot s i (moved_slot x Done t)) v _
        (one_slot_kept s v i (moved_slot x Done t) h
        (λ k. changed_sound s.powered i x Done t x.tally k
        (λ d f. record { ready = λ e. f.ready (busy_in_hand x.phase b); within = within f; busy = λ e. absurd (true_not_false (sym e)) })))

-- a busy transfer of OUT in whole packets
out_whole : (m : ℕ) (t : Transfer) → OutFacts m t → Whole m t
out_whole m t f = whole_of m t f.size f.whole f.come f.missing

-- where a report leaves an OUT transfer going on, it is again one of whole packets
goes_on : (limit m : ℕ) (t : Transfer) (packets last : ℕ) → OutFacts m t → out_goes_on m (arrived limit m t packets last) last ≡ true
    → OutFacts m (arrived limit m t packets last)
goes_on limit m t packets last f q =
    let a = arrived limit m t packets last in
    let missing : a.progress < t.length = ltb-true _ _ (and_right (leb m last) (ltb a.progress a.length) q) in
    let full : m ≤ last = leb-true _ _ (and_left (leb m last) (ltb a.progress a.length) q) in
    let W = still_whole m t (out_whole m t f) limit packets last full missing in
    record { size = f.size; whole = f.whole; come = whole_progress m a W; missing = missing }

received_moves : (limit : ℕ) (p : Bool) (i : ℕ) (x : Slot) (packets last : ℕ) → out_goes_on (slot_size x) (counted_transfer limit false packets last x) last ≡ true → SlotFacts p i x
    → Moves p i x x.phase (counted_transfer limit false packets last x)
received_moves limit p i x packets last q f =
    record {
      ready = f.ready;
      within = omega (arith, f.within);
      busy = λ b. record { ram = (f.busy b).ram; even = (f.busy b).even; out = λ o. goes_on limit (slot_size x) x.transfer packets last ((f.busy b).out o) q };
    }

-- the slot that hands over the chain after a report is sound
pub received_sound : (limit : ℕ) (p : Bool) (i : ℕ) (x : Slot) (packets last : ℕ) → slotb p i x ≡ true → out_goes_on (slot_size x) (counted_transfer limit false packets last x) last ≡ true
    → slotb p i (counted_slot limit false packets last x) ≡ true
received_sound limit p i x packets last h q =
    changed_sound p i x x.phase (counted_transfer limit false packets last x) x.tally h (λ d f. received_moves limit p i x packets last q f)

-- A report keeps what 26 doesn't refuse, whatever numbers it has.
pub report_keeps_sound : (s : State) (v : Events) (e : ℕ) (incoming : Bool) (packets last : ℕ) → soundb s v ≡ true → soundb (report_state s e incoming packets last) v ≡ true
unfolding report_state
report_keeps_sound s v e true packets last h =
    let i = slot_number e true in
    let x = slot_at s i in
    let t = x.transfer in
    after_sound s v i true (in_goes_on t) t (sent t (slot_chain (limit_of s) x)) refl h (λ f. f.within)
    (λ q f. record {
      ready = f.ready;
      within = sent_within (limit_of s) (slot_size x) (own_buffer x).address t f.within;
      busy = λ b. record { ram = (f.busy b).ram; even = (f.busy b).even; out = λ o. absurd (true_not_false (sym (in_slot e) ∙ o)) };
    })
report_keeps_sound s v e false packets last h =
    let i = slot_number e false in
    let x = slot_at s i in
    let t = counted_transfer (limit_of s) false packets last x in
    after_sound s v i false (out_goes_on (slot_size x) t last) t t refl h (λ f. omega (arith, f.within)) (received_moves (limit_of s) s.powered i x packets last)

-- The same of the account: no tally moves, and what was busy is busy or done.
after_difference : (s : State) (i : ℕ) (incoming more : Bool) (t u : Transfer)
    → queued_slot (limit_of s) incoming (moved_slot (slot_at s i) (slot_at s i).phase t) ≡ moved_slot (slot_at s i) (slot_at s i).phase u → (j : ℕ)
    → SameDifference (slot_at s j) (slot_at (state_after s i incoming (step_of (busyb (slot_at s i).phase) more (moved_slot (slot_at s i) (slot_at s i).phase t))) j)
after_difference s i incoming more t u queued j = go (busyb (slot_at s i).phase) refl more
  where
    x : Slot
    x = slot_at s i

    go : (b : Bool) → busyb (slot_at s i).phase ≡ b → (m : Bool)
        → SameDifference (slot_at s j) (slot_at (state_after s i incoming (step_of b m (moved_slot (slot_at s i) (slot_at s i).phase t))) j)
    go false b m = unmoved_difference (slot_at s j)
    go true b true = rw queued (stored_difference s i (moved_slot x x.phase u) (record { difference = refl }) j)
    go true b false = stored_difference s i (moved_slot x Done t) (record { difference = rw (busy_in_hand x.phase b) }) j

-- A report alters no slot's difference.
pub report_keeps_account : (s : State) (e : ℕ) (incoming : Bool) (packets last j : ℕ) → SameDifference (slot_at s j) (slot_at (report_state s e incoming packets last) j)
unfolding report_state
report_keeps_account s e true packets last j =
    let x = slot_of s e true in
    after_difference s (slot_number e true) true (in_goes_on x.transfer) x.transfer (sent x.transfer (slot_chain (limit_of s) x)) refl j
report_keeps_account s e false packets last j =
    let x = slot_of s e false in
    let t = counted_transfer (limit_of s) false packets last x in
    after_difference s (slot_number e false) false (out_goes_on (slot_size x) t last) t t refl j

-- a busy data slot that is sound
busy_slot : (p : Bool) (i : ℕ) (x : Slot) → 2 ≤ i → slotb p i x ≡ true → busyb x.phase ≡ true → (x.transfer.progress ≤ x.transfer.length) × BusyFacts i (slot_size x) x.transfer
busy_slot p i x d h b = let f = slot_facts p i x (le-ltb i 2 d) h in (f.within, f.busy b)

whole_slot : (p : Bool) (i : ℕ) (x : Slot) → 2 ≤ i → is_in i ≡ false → slotb p i x ≡ true → busyb x.phase ≡ true → Whole (slot_size x) x.transfer
whole_slot p i x d o h b = out_whole (slot_size x) x.transfer ((busy_slot p i x d h b).1.out o)

-- A report never tells of more bytes than are left, so all of them are counted.
pub report_within : (limit : ℕ) (p : Bool) (i : ℕ) (x : Slot) (packets last : ℕ) → 2 ≤ i → is_in i ≡ false → slotb p i x ≡ true → busyb x.phase ≡ true
    → (reported (slot_size x) (chain_packets limit (slot_size x) (left x.transfer)) packets last ≤ left x.transfer)
    × ((counted_transfer limit false packets last x).progress ≡ x.transfer.progress + reported (slot_size x) (chain_packets limit (slot_size x) (left x.transfer)) packets last)
report_within limit p i x packets last d o h b =
    let W = whole_slot p i x d o h b in
    (report_fits (slot_size x) x.transfer W limit packets last, report_counted (slot_size x) x.transfer W limit packets last)

-- The bytes of a busy slot's next chain lie inside its transfer, if it has any.
pub moves_within : (limit : ℕ) (p : Bool) (i : ℕ) (x : Slot) (incoming : Bool) → 2 ≤ i → is_in i ≡ incoming → slotb p i x ≡ true → busyb x.phase ≡ true
    → 0 < chain_moves incoming (slot_size x) (next_chain limit incoming x)
    → Inside (next_chain limit incoming x).dma (chain_moves incoming (slot_size x) (next_chain limit incoming x)) x.transfer
moves_within limit p i x incoming d o h b some =
    let f = busy_slot p i x d h b in
    chain_inside limit incoming x f.0 (omega (arith, f.1.ram.high)) (λ q. whole_slot p i x d (o ∙ q) h b) some

-- OUT's is never empty: the controller writes nowhere else.
pub chain_within : (limit : ℕ) → 0 < limit → (p : Bool) (i : ℕ) (x : Slot) → 2 ≤ i → is_in i ≡ false → slotb p i x ≡ true → busyb x.phase ≡ true
    → Inside (place x.transfer) (chain_packets limit (slot_size x) (left x.transfer) * slot_size x) x.transfer
chain_within limit some_limit p i x d o h b =
    let m = slot_size x in
    let some : 1 * m ≤ chain_packets limit m (left x.transfer) * m = mul-le-mul_right m (packets_some limit m (left x.transfer) some_limit) in
    moves_within limit p i x false d o h b (omega (arith, some, (whole_slot p i x d o h b).size))

-- IN sends just the bytes that it counts.
pub in_chain_within : (limit : ℕ) (p : Bool) (i : ℕ) (x : Slot) → 2 ≤ i → is_in i ≡ true → slotb p i x ≡ true → busyb x.phase ≡ true → 0 < (slot_chain limit x).bytes
    → (((slot_chain limit x).packets - 1) * slot_size x + (slot_chain limit x).last ≡ (slot_chain limit x).bytes)
    × Inside (slot_chain limit x).dma (slot_chain limit x).bytes x.transfer
in_chain_within limit p i x d o h b some =
    let sum = last_has_rest limit (slot_size x) (own_buffer x).address x.transfer in
    (sum, rw sum at (moves_within limit p i x true d o h b (rw sum some)))
