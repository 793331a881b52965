-- Begin keeps the state sound and each slot's account right.
-- Assumes nothing.
use Rattle.std.specs.Prelude.{ℕ, ◌%◌, ◌<◌, Bool, true, false, ◌&&◌, ◌||◌, not, ◌≡◌, refl, ltb, Err}
use Rattle.std.proofs.Common.{sym, ◌∙◌, arith, ltb-true, eqb-true}
use Rattle.std.proofs.Math.Nat.{zero-mod}
use Rattle.std.proofs.lemmas.Bool.{not-true, not-false}
use Rattle.base.specs.EachLaws.{and_left, and_right, true_not_false}
use Rattle.state.specs.declared.Phase.TheVariants.{Busy}
use Rattle.state.specs.declared.Slot.{Slot}
use Rattle.state.specs.declared.State.{State}
use Rattle.state.specs.declared.Events.{Events}
use Rattle.state.specs.Fresh.{slot_at}
use Rattle.state.specs.Setters.{limit_of}
use Rattle.state.specs.Refusals.{NoneDue}
use Rattle.state.specs.RefusalsLaws.{not_due}
use Rattle.state_slots.specs.Slots.{data_endpoint, idleb, slot_number, slot_of, slot_size, ready}
use Rattle.state_slots.specs.Tally.{SameDifference}
use Rattle.state_laws.specs.TallyLaws.{unmoved_difference, stored_difference}
use Rattle.state_sound.specs.Clauses.{in_ram, aligned, multiple, is_in}
use Rattle.state_sound.specs.Sound.{soundb, slotb}
use Rattle.state_sound.proofs.FactLaws.{in_ram_lem, Ready, OutFacts, BusyFacts, changed_sound, multiple_facts, in_slot, out_slot, one_slot_kept}
use Rattle.state_call.specs.OutcomeLaws.{keeps, passed}
use Rattle.transfer_chain.specs.Chains.{queued_slot, next_chain}
use Rattle.transfer_laws.specs.TransferLaws.{sent_within, whole_of, chain_moves, Inside, chain_inside}
use Rattle.transfer_begin.specs.Begin.{begin_conditions, begun_at, begin_call}
use Rattle.transfer_piece.specs.declared.Piece.{Piece}
use Rattle.transfer_piece.specs.Piece.{piece_fits, begin_own, begun_slot}

-- what a begin that is accepted has
pub record AcceptedBegin (s : State) (v : Events) (e : ℕ) (incoming : Bool) (p : Piece) : Type 0 where
  pub sound : soundb s v ≡ true
  pub endpoint : data_endpoint e ≡ true
  pub ready : Ready s.powered (slot_of s e incoming)
  pub idle : idleb (slot_of s e incoming).phase ≡ true
  pub fits : piece_fits incoming (slot_size (slot_of s e incoming)) p.address p.length ≡ true

neither : (a b : Bool) → (a || not b) ≡ false → b ≡ true
neither true b h = absurd (true_not_false h)
neither false b h = not-false b h

pub accepted_begin : (room : ℕ) (s : State) (v : Events) (e : ℕ) (incoming : Bool) (p : Piece) (long unfit : Bool) → NoneDue (begin_conditions room s v e incoming p long unfit)
    → AcceptedBegin s v e incoming p
accepted_begin room s v e incoming p long unfit n =
    let x = slot_of s e incoming in
    let k = passed room (soundb s v) s.awaited.next (begin_own s.powered e incoming p.address p.length long unfit x) n in
    let n1 = not_due k.1.1.1 in
    let n2 = not_due n1.1 in
    let n3 = not_due n2.1 in
    let n4 = not_due n3.1 in
    let n5 = not_due n4.1 in
    let all : ready s.powered x ≡ true = not-false _ n3.0 in
    let fit = and_left (s.powered && x.enabled) (not x.stalled) all in
    record {
      sound = k.1.0;
      endpoint = not-false _ n1.0;
      ready =
          record {
            on = and_left s.powered x.enabled fit;
            enabled = and_right s.powered x.enabled fit;
            free = not-true _ (and_right (s.powered && x.enabled) (not x.stalled) all);
          };
      idle = not-false _ n4.0;
      fits = neither unfit _ n5.0;
    }

-- where a piece that fits lies
pub piece_ram : (incoming : Bool) (m a l : ℕ) → piece_fits incoming m a l ≡ true → (in_ram a l && aligned a) ≡ true
piece_ram true m a l h = h
piece_ram false m a l h = and_left (in_ram a l && aligned a) (ltb 0 l && multiple l m) h

-- and of OUT it is whole packets
pub piece_whole : (m a l : ℕ) → piece_fits false m a l ≡ true → (0 < l) × ((0 < m) × (l % m ≡ 0))
piece_whole m a l h =
    let room = and_right (in_ram a l && aligned a) (ltb 0 l && multiple l m) h in
    let whole = multiple_facts l m (and_right (ltb 0 l) (multiple l m) room) in
    (ltb-true _ _ (and_left (ltb 0 l) (multiple l m) room), (whole.0, whole.1))

-- a piece that fits makes a busy transfer, wherever IN has come to and where OUT is at its start
pub piece_busy : (e : ℕ) (incoming : Bool) (m n : ℕ) (f : Bool) (p : Piece) → piece_fits incoming m p.address p.length ≡ true → (incoming ≡ false → n ≡ 0)
    → BusyFacts (slot_number e incoming) m (record { address = p.address; length = p.length; progress = n; zlp = f })
piece_busy e incoming m n f p h start =
    let place = piece_ram incoming m p.address p.length h in
    record {
      ram = in_ram_lem _ _ (and_left (in_ram p.address p.length) (aligned p.address) place);
      even = eqb-true _ _ (and_right (in_ram p.address p.length) (aligned p.address) place);
      out = λ q. out incoming h start q;
    }
  where
    out : (b : Bool) → piece_fits b m p.address p.length ≡ true → (b ≡ false → n ≡ 0) → is_in (slot_number e b) ≡ false
        → OutFacts m (record { address = p.address; length = p.length; progress = n; zlp = f })
    out true k z q = absurd (true_not_false (sym (in_slot e) ∙ q))
    out false k z q =
        let w = piece_whole m p.address p.length k in
        record { size = w.1.0; whole = w.1.1; come = rw (z refl) (zero-mod m); missing = rw (z refl) w.0 }

-- the begun slot is sound once its first chain is handed over
begun_sound : (s : State) (v : Events) (e : ℕ) (incoming : Bool) (p : Piece) → AcceptedBegin s v e incoming p → slotb s.powered (slot_number e incoming) (slot_of s e incoming) ≡ true
    → slotb s.powered (slot_number e incoming) (queued_slot (limit_of s) incoming (begun_at s e incoming p)) ≡ true
begun_sound s v e true p a h =
    changed_sound s.powered (slot_number e true) (slot_of s e true) Busy _ _ h
    (λ d f. record {
      ready = λ q. a.ready;
      within = sent_within (limit_of s) (slot_size (slot_of s e true)) 0 (begun_at s e true p).transfer (omega arith);
      busy = λ q. piece_busy e true _ _ _ p a.fits (λ k. absurd (true_not_false k));
    })
begun_sound s v e false p a h =
    changed_sound s.powered (slot_number e false) (slot_of s e false) Busy _ _ h
    (λ d f. record { ready = λ q. a.ready; within = omega arith; busy = λ q. piece_busy e false _ _ _ p a.fits (λ k. refl) })

-- A begin keeps what 26 doesn't refuse.
pub begin_keeps_sound : (room : ℕ) (s : State) (v : Events) (e : ℕ) (incoming : Bool) (p : Piece) (long unfit : Bool) → soundb s v ≡ true
    → soundb (begin_call room s v e incoming p long unfit).state (begin_call room s v e incoming p long unfit).events ≡ true
unfolding begin_call
begin_keeps_sound room s v e incoming p long unfit h =
    keeps (λ t u. soundb t u ≡ true) Err (begin_conditions room s v e incoming p long unfit) s v _ h
    (λ n. one_slot_kept s v (slot_number e incoming) (queued_slot (limit_of s) incoming (begun_at s e incoming p)) h
    (begun_sound s v e incoming p (accepted_begin room s v e incoming p long unfit n)))

-- one more begun, one more in hand
begun_difference : (limit : ℕ) (x : Slot) (p : Piece) (incoming : Bool) → idleb x.phase ≡ true → SameDifference x (queued_slot limit incoming (begun_slot x p))
begun_difference limit x p true e = record { difference = rw e (omega arith) }
begun_difference limit x p false e = record { difference = rw e (omega arith) }

-- A begin alters no slot's difference.
pub begin_keeps_account : (room : ℕ) (s : State) (v : Events) (e : ℕ) (incoming : Bool) (p : Piece) (long unfit : Bool) (j : ℕ)
    → SameDifference (slot_at s j) (slot_at (begin_call room s v e incoming p long unfit).state j)
unfolding begin_call
begin_keeps_account room s v e incoming p long unfit j =
    keeps (λ t u. SameDifference (slot_at s j) (slot_at t j)) Err (begin_conditions room s v e incoming p long unfit) s v _ (unmoved_difference (slot_at s j))
    (λ n. stored_difference s (slot_number e incoming) (queued_slot (limit_of s) incoming (begun_at s e incoming p))
    (begun_difference (limit_of s) (slot_of s e incoming) p incoming (accepted_begin room s v e incoming p long unfit n).idle) j)

-- What the first chain of a begun transfer moves lies inside its piece, the empty packet apart.
pub first_chain_within : (s : State) (v : Events) (e : ℕ) (incoming : Bool) (p : Piece) → AcceptedBegin s v e incoming p
    → 0 < chain_moves incoming (slot_size (begun_at s e incoming p)) (next_chain (limit_of s) incoming (begun_at s e incoming p))
    → Inside (next_chain (limit_of s) incoming (begun_at s e incoming p)).dma
    (chain_moves incoming (slot_size (begun_at s e incoming p)) (next_chain (limit_of s) incoming (begun_at s e incoming p))) (begun_at s e incoming p).transfer
first_chain_within s v e incoming p a some =
    let y = begun_at s e incoming p in
    let f = piece_busy e incoming (slot_size y) 0 p.zlp p a.fits (λ q. refl) in
    chain_inside (limit_of s) incoming y (omega arith) (omega (arith, f.ram.high))
    (λ q. let o = f.out (rw q (out_slot e)) in whole_of (slot_size y) y.transfer o.size o.whole o.come o.missing) some
