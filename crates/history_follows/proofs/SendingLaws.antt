-- A slot that sends goes as the transfer should.
-- Assumes nothing.
use Rattle.std.specs.Prelude.{ℕ, suc, ◌+◌, ◌*◌, ◌-◌, ◌%◌, ◌^◌, ◌<◌, ◌≤◌, min, max, Bool, true, false, not, cond, ◌&&◌, ◌||◌, nat_lt, nat_le, ◌≡◌, refl, eqb, List, [], ◌∷◌, length}
use Rattle.std.proofs.Common.{sym, ap, ◌∙◌, mul-le-mul_right, arith, leb-true, le-ltb, lt-ltb, ne_eqb}
use Rattle.std.proofs.Math.Bool.{and-false}
use Rattle.std.proofs.lemmas.Bool.{le-leb, lt-leb, or_parts}
use Rattle.base.specs.EachLaws.{true_not_false}
use Rattle.base.specs.Ceil.{div_ceil}
use Rattle.base.specs.CeilLaws.{ceil_above}
use Rattle.state.specs.declared.Phase.TheVariants.{Busy, Done}
use Rattle.state.specs.declared.Transfer.{Transfer}
use Rattle.state.specs.declared.Slot.{Slot}
use Rattle.state_slots.specs.Slots.{slot_size, own_buffer, moved_slot}
use Rattle.transfer_chain.specs.Chains.{chain_packets, chain_bytes, in_chain, sent, queued_slot, next_chain}
use Rattle.transfer_piece.specs.declared.Piece.{Piece}
use Rattle.transfer_piece.specs.Piece.{begun_slot}
use Rattle.transfer_step.specs.Step.{report_step, slot_after}
use Rattle.history_ideal.specs.Ideal.{Chain, Report, full, chain_count, data_chain, start_of, bytes_of, chain_in, ideal_in, ideal}
use Rattle.history_ideal.specs.Plan.{handed}
use Rattle.history_ideal.proofs.RoundingLaws.{split, ceil_within, ceil_covers}
use Rattle.history_ideal.proofs.CountLaws.{packets_some, packets_none, full_some, count_some, count_covers, count_none, count_flag, count_clear}
use Rattle.history_follows.specs.Follows.{Fits, BeginFollows, ReportFollows, as_recorded, handed_by, slot_ideal, flag_left, moving, slot_by}

module _ (lim : ℕ) (one : 0 < lim) (m : ℕ) (pos : 0 < m) where
  -- as many bytes as the packets hold, at most a full chain's
  bytes_are : (n : ℕ) → chain_bytes lim m n ≡ min n (full lim m)
  unfolding chain_bytes chain_packets full
  bytes_are n =
      split (div_ceil n m) lim
      (λ h.
      let e : min lim (max 1 (div_ceil n m)) ≡ max 1 (div_ceil n m) = omega (arith, h, one) in
      let q : div_ceil n m * m ≤ max 1 (div_ceil n m) * m = mul-le-mul_right m (omega arith) in
      rw e (omega (arith, ceil_covers n m pos, q, mul-le-mul_right m h)))
      (λ h. let e : min lim (max 1 (div_ceil n m)) ≡ lim = omega (arith, h) in rw e refl)

  -- the packets of a chain that has bytes
  packets_are : (n : ℕ) → 0 < n → chain_packets lim m n ≡ div_ceil (min n (full lim m)) m
  unfolding chain_packets
  packets_are n h = packets_some lim one m pos n h

  packets_are_none : chain_packets lim m 0 ≡ 1
  unfolding chain_packets
  packets_are_none = packets_none lim one m pos

  -- ---- a chain handed over

  module _ (own : ℕ) (p : Piece) (low : p.address + p.length < 2 ^ 32) where
    -- where k chains end
    ends : ℕ → ℕ
    ends k = min p.length (k * full lim m)

    -- the bytes and packets of the chain behind k others
    bytes_behind : (k : ℕ) → chain_bytes lim m (p.length - ends k) ≡ min (p.length - k * full lim m) (full lim m)
    unfolding ends
    bytes_behind k = bytes_are (p.length - ends k) ∙ omega arith

    packets_behind : (k : ℕ) → k * full lim m < p.length → chain_packets lim m (p.length - ends k) ≡ div_ceil (min (p.length - k * full lim m) (full lim m)) m
    unfolding ends
    packets_behind k h =
        let e : p.length - min p.length (k * full lim m) ≡ p.length - k * full lim m = omega (arith, h) in
        rw e (packets_are (p.length - k * full lim m) (omega (arith, h)))

    packets_past : (k : ℕ) → p.length ≤ k * full lim m → chain_packets lim m (p.length - ends k) ≡ 1
    unfolding ends
    packets_past k h = let e : p.length - min p.length (k * full lim m) ≡ 0 = omega (arith, h) in rw e packets_are_none

    sent_is : (k : ℕ) (z : Bool)
        → sent (moving p (ends k) z) (in_chain lim m own (moving p (ends k) z)) ≡ moving p (ends (suc k)) (z && nat_lt (k * full lim m) p.length)
    unfolding ends
    sent_is k z =
        split p.length (k * full lim m)
        (λ h.
        let b : chain_bytes lim m (p.length - min p.length (k * full lim m)) ≡ 0 = bytes_behind k ∙ omega (arith, h) in
        let e : min p.length (k * full lim m) + 0 ≡ min p.length (suc k * full lim m) = omega (arith, h) in
        rw (b, e, le-ltb (k * full lim m) p.length h) refl)
        (λ h.
        let b = bytes_behind k in
        let some : eqb (min (p.length - k * full lim m) (full lim m)) 0 ≡ false = ne_eqb _ 0 (λ q. omega (arith, q, h, full_some lim one m 0 pos)) in
        let e : min p.length (k * full lim m) + min (p.length - k * full lim m) (full lim m) ≡ min p.length (suc k * full lim m) = omega (arith, h) in
        rw (b, some, e, lt-ltb (k * full lim m) p.length h) refl)

    chain_is : (k : ℕ) (z : Bool) → as_recorded true (in_chain lim m own (moving p (ends k) z)) ≡ chain_in lim own m p.address p.length k
    unfolding ends chain_in data_chain start_of bytes_of
    chain_is k z =
        split p.length (k * full lim m)
        (λ h.
        let b : chain_bytes lim m (p.length - min p.length (k * full lim m)) ≡ 0 = bytes_behind k ∙ omega (arith, h) in
        let last : 0 - (1 - 1) * m ≡ 0 = omega arith in
        rw (b, packets_past k h, le-ltb (k * full lim m) p.length h, last) refl)
        (λ h.
        let b = bytes_behind k in
        let some : eqb (min (p.length - k * full lim m) (full lim m)) 0 ≡ false = ne_eqb _ 0 (λ q. omega (arith, q, h, full_some lim one m 0 pos)) in
        let here : (p.address + min p.length (k * full lim m)) % 2 ^ 32 ≡ p.address + k * full lim m = omega (arith, low, h) in
        rw (b, some, packets_behind k h, here, lt-ltb (k * full lim m) p.length h) refl)

-- ---- whether another chain follows

-- behind the last byte nothing is missing, and the flag is down
flag_down : (lim m l k : ℕ) (f : Bool) → l ≤ k * full lim m → (f && nat_lt (k * full lim m) l) ≡ false
flag_down lim m l k f h = rw (le-ltb (k * full lim m) l h) (and-false f)

-- the flag falls once
flag_falls : (lim m l k : ℕ) (f : Bool) → ((f && nat_lt (k * full lim m) l) && nat_lt (suc k * full lim m) l) ≡ (f && nat_lt (suc k * full lim m) l)
flag_falls lim m l k f =
    split l (suc k * full lim m) (λ h. rw (le-ltb (suc k * full lim m) l h) (and-false (f && nat_lt (k * full lim m) l) ∙ sym (and-false f)))
    (λ h. rw (lt-ltb (k * full lim m) l (omega (arith, h))) (and-true f h))
  where
    and-true : (g : Bool) → suc k * full lim m < l → ((g && true) && nat_lt (suc k * full lim m) l) ≡ (g && nat_lt (suc k * full lim m) l)
    and-true true h = refl
    and-true false h = refl

module _ (lim : ℕ) (one : 0 < lim) (m l : ℕ) (pos : 0 < m) where
  some_full : 0 < full lim m
  some_full = full_some lim one m l pos

  more_data : (f : Bool) (k : ℕ) → suc k * full lim m < l → suc k < chain_count lim m l f
  more_data f k h = split (chain_count lim m l f) (suc k) (λ g. absurd (omega (arith, h, count_covers lim one m l pos f (suc k) g))) (λ g. g)

  none_behind : (f : Bool) (k : ℕ) → l ≤ suc k * full lim m → (f ≡ true → l ≤ k * full lim m) → chain_count lim m l f ≤ suc k
  none_behind f k h g =
      split l 0 (λ z. rw (count_none lim one m l pos f z) (omega arith)) (λ z. go f g z)
    where
      go : (t : Bool) → (t ≡ true → l ≤ k * full lim m) → 0 < l → chain_count lim m l t ≤ suc k
      go true g z = rw (count_flag lim one m l pos z) (omega (arith, ceil_within l (full lim m) some_full k (g refl)))
      go false g z =
          rw (count_clear lim one m l pos z) (omega (arith, ceil_within l (full lim m) some_full (suc k) h, ceil_above l (full lim m) 0 some_full (omega (arith, z))))

  -- the empty packet is left
  one_behind : (k : ℕ) → k * full lim m < l → suc k < chain_count lim m l true
  one_behind k h = rw (count_flag lim one m l pos (omega (arith, h))) (omega (arith, ceil_above l (full lim m) k some_full h))

  goes_on : (f : Bool) (k : ℕ) → (nat_lt (min l (suc k * full lim m)) l || (f && nat_lt (k * full lim m) l)) ≡ not (nat_le (chain_count lim m l f) (suc k))
  goes_on f k =
      split l (suc k * full lim m) (λ h. rw (le-ltb (min l (suc k * full lim m)) l (omega (arith, h))) (flag f h))
      (λ h. rw (lt-ltb (min l (suc k * full lim m)) l (omega (arith, h)), lt-leb (chain_count lim m l f) (suc k) (more_data f k h)) refl)
    where
      flag : (g : Bool) → l ≤ suc k * full lim m → (g && nat_lt (k * full lim m) l) ≡ not (nat_le (chain_count lim m l g) (suc k))
      flag false h = rw (le-leb (chain_count lim m l false) (suc k) (none_behind false k h (λ q. absurd (true_not_false (sym q))))) refl
      flag true h =
          split l (k * full lim m)
          (λ g. rw (le-ltb (k * full lim m) l g, le-leb (chain_count lim m l true) (suc k) (none_behind true k h (λ q. g))) refl)
          (λ g. rw (lt-ltb (k * full lim m) l g, lt-leb (chain_count lim m l true) (suc k) (one_behind k g)) refl)

-- ---- the slot

module _ (lim : ℕ) (one : 0 < lim) (x : Slot) (p : Piece) (F : Fits true x p) where
  -- the transfer with k chains handed over
  come : ℕ → Bool → Transfer
  come k z = moving p (min p.length (k * full lim (slot_size x))) z

  handing : ℕ → Bool → Slot
  unfolding come
  handing k z = moved_slot (begun_slot x p) Busy (come k z)

  queued_is : (k : ℕ) (z : Bool) → queued_slot lim true (handing k z) ≡ handing (suc k) (z && nat_lt (k * full lim (slot_size x)) p.length)
  unfolding handing come ends
  queued_is k z = ap (moved_slot (begun_slot x p) Busy) (sent_is lim one (slot_size x) F.size (own_buffer x).address p F.low k z)

  recorded_is : (k : ℕ) (z : Bool) → as_recorded true (next_chain lim true (handing k z)) ≡ chain_in lim (own_buffer x).address (slot_size x) p.address p.length k
  unfolding handing come ends
  recorded_is k z = chain_is lim one (slot_size x) F.size (own_buffer x).address p F.low k z

  begun_is : begun_slot x p ≡ handing 0 p.zlp
  unfolding handing come
  begun_is = let e : min p.length (0 * full lim (slot_size x)) ≡ 0 = omega arith in rw e refl

  none_yet : nat_le (chain_count lim (slot_size x) p.length p.zlp) 0 ≡ false
  none_yet = lt-leb (chain_count lim (slot_size x) p.length p.zlp) 0 (count_some lim one (slot_size x) p.length F.size p.zlp)

  pub begin_sends : BeginFollows lim true x p
  unfolding slot_by slot_ideal ideal ideal_in flag_left handed handing come
  begin_sends =
      record {
        slot = ap (queued_slot lim true) begun_is ∙ queued_is 0 p.zlp ∙ rw none_yet refl;
        chain =
            ap (λ (y : Slot). as_recorded true (next_chain lim true y) ∷ []) begun_is ∙ ap (λ (c : Chain). c ∷ []) (recorded_is 0 p.zlp)
            ∙ rw none_yet refl;
      }

  -- all is sent after N reports
  all_sent : (k : ℕ) → nat_le (chain_count lim (slot_size x) p.length p.zlp) k ≡ true → p.length ≤ k * full lim (slot_size x)
  all_sent k h = count_covers lim one (slot_size x) p.length F.size p.zlp k (leb-true _ k h)

  -- then nothing changes any more
  same_after : (k : ℕ) → p.length ≤ suc k * full lim (slot_size x) → (p.zlp && nat_lt (k * full lim (slot_size x)) p.length) ≡ false
      → come (suc k) (p.zlp && nat_lt (k * full lim (slot_size x)) p.length) ≡ come (suc (suc k)) (p.zlp && nat_lt (suc k * full lim (slot_size x)) p.length)
  unfolding come
  same_after k h q =
      let e : min p.length (suc k * full lim (slot_size x)) ≡ min p.length (suc (suc k) * full lim (slot_size x)) = omega (arith, h) in
      rw (q, e, flag_down lim (slot_size x) p.length (suc k) p.zlp h) refl

  slot_k : Bool → ℕ → Slot
  unfolding come
  slot_k d k = moved_slot (begun_slot x p) (cond d Done Busy) (come (suc k) (p.zlp && nat_lt (k * full lim (slot_size x)) p.length))

  After : ℕ → ℕ → Slot → Bool → ℕ → Type 0
  After packets last y e k =
      (slot_after lim true y (report_step lim true packets last y) ≡ slot_k e (suc k))
      × (handed_by lim true (report_step lim true packets last y) ≡ cond e [] (chain_in lim (own_buffer x).address (slot_size x) p.address p.length (suc k) ∷ []))

  -- a report of a transfer that is done
  after_done : (packets last k : ℕ) → nat_le (chain_count lim (slot_size x) p.length p.zlp) k ≡ true → After packets last (slot_k true k) true k
  unfolding After slot_k come
  after_done packets last k h =
      let s = all_sent k h in
      (ap (moved_slot (begun_slot x p) Done) (same_after k (omega (arith, s)) (flag_down lim (slot_size x) p.length k p.zlp s)), refl)

  -- and of one that is busy
  after_busy : (packets last k : ℕ) (e : Bool) → nat_le (chain_count lim (slot_size x) p.length p.zlp) (suc k) ≡ e → After packets last (slot_k false k) e k
  unfolding After slot_k come handing
  after_busy packets last k true h =
      let s = all_sent (suc k) h in
      let stops = goes_on lim one (slot_size x) p.length F.size p.zlp k ∙ ap not h in
      let down = (or_parts (nat_lt (min p.length (suc k * full lim (slot_size x))) p.length) _ stops).1 in
      rw stops (ap (moved_slot (begun_slot x p) Done) (same_after k s down), refl)
  after_busy packets last k false h =
      let more = goes_on lim one (slot_size x) p.length F.size p.zlp k ∙ ap not h in
      let z = p.zlp && nat_lt (k * full lim (slot_size x)) p.length in
      rw more (
        queued_is (suc k) z ∙ ap (λ (t : Bool). moved_slot (begun_slot x p) Busy (come (suc (suc k)) t)) (flag_falls lim (slot_size x) p.length k p.zlp),
        ap (λ (c : Chain). c ∷ []) (recorded_is (suc k) z),
      )

  after : (packets last k : ℕ) (d e : Bool) → nat_le (chain_count lim (slot_size x) p.length p.zlp) k ≡ d
      → nat_le (chain_count lim (slot_size x) p.length p.zlp) (suc k) ≡ e
      → After packets last (slot_k d k) e k
  after packets last k true e h g =
      let later : e ≡ true = sym g ∙ le-leb _ (suc k) (omega (arith, leb-true (chain_count lim (slot_size x) p.length p.zlp) k h)) in
      rw later (after_done packets last k h)
  after packets last k false e h g = after_busy packets last k e g

  pub report_sends : (r : Report) (rs : List Report) → ReportFollows lim true x p r rs
  unfolding slot_by slot_ideal ideal ideal_in flag_left handed After slot_k come
  report_sends r rs =
      let f = after r.packets r.last (length rs) _ _ refl refl in
      record { slot = f.0; chain = f.1 }
