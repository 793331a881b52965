-- A slot that receives goes as the transfer should.
-- Assumes nothing.
use Rattle.std.specs.Prelude.{ℕ, ◌+◌, ◌-◌, ◌%◌, ◌^◌, ◌<◌, min, Bool, true, false, not, cond, ◌&&◌, ◌||◌, nat_lt, nat_le, ◌≡◌, refl, List, [], ◌∷◌}
use Rattle.std.proofs.Common.{ap, ◌∙◌, mul-le-mul_right, arith, le-ltb, lt-ltb}
use Rattle.std.proofs.lemmas.Bool.{le-leb, lt-leb}
use Rattle.state.specs.declared.Phase.TheVariants.{Busy, Done}
use Rattle.state.specs.declared.Transfer.{Transfer}
use Rattle.state.specs.declared.Slot.{Slot}
use Rattle.state_slots.specs.Slots.{slot_size, moved_slot}
use Rattle.transfer_chain.specs.Chains.{chain_packets, reported, arrived, next_chain}
use Rattle.transfer_piece.specs.declared.Piece.{Piece}
use Rattle.transfer_piece.specs.Piece.{begun_slot}
use Rattle.transfer_step.specs.Step.{report_step, slot_after, step_of}
use Rattle.history_ideal.specs.Ideal.{Chain, Receives, Report, Tally, packets_left, sum_with, tally_more, tally_next, tally, ideal_out, ideal}
use Rattle.history_ideal.specs.Plan.{handed}
use Rattle.history_ideal.proofs.RoundingLaws.{split, ceil_exact}
use Rattle.history_ideal.proofs.ReceivesLaws.{Partway, at_start, tally_open, tally_over, not_over, left_is, asked, brings, onward, still}
use Rattle.history_follows.specs.Follows.{Fits, BeginFollows, ReportFollows, as_recorded, handed_by, slot_ideal, flag_left, moving, slot_by}

-- another chain follows, or the report was the last
ends_or_goes : (m n g l : ℕ) → (nat_le m n && nat_lt g l) ≡ not (nat_lt n m || nat_le l g)
ends_or_goes m n g l =
    split m n (λ h. rw (le-leb m n h, le-ltb n m h) (split l g (λ k. rw (le-leb l g k, le-ltb g l k) refl) (λ k. rw (lt-leb l g k, lt-ltb g l k) refl)))
    (λ h. rw (lt-leb m n h, lt-ltb n m h) refl)

module _ (lim : ℕ) (x : Slot) (p : Piece) (F : Fits false x p) where
  -- as many packets are asked for as are missing, up to the most of a chain
  packets_are : (g : ℕ) → Partway (slot_size x) p.length g → chain_packets lim (slot_size x) (p.length - g) ≡ packets_left lim (slot_size x) p.length g
  unfolding chain_packets
  packets_are g W =
      let m = slot_size x in
      rw (left_is m p.length F.size g W, asked m p.length F.size g W lim, ceil_exact W.rest m F.size) (omega (arith, W.some))

  -- what a report brings
  arrived_is : (g : ℕ) → Partway (slot_size x) p.length g → (r : Report)
      → arrived lim (slot_size x) (moving p g p.zlp) r.packets r.last ≡ moving p (sum_with lim (slot_size x) p.length r g) p.zlp
  unfolding sum_with
  arrived_is g W r =
      let more = reported (slot_size x) (packets_left lim (slot_size x) p.length g) r.packets r.last in
      let e : min more (p.length - g) ≡ more = omega (arith, brings (slot_size x) p.length F.size g W lim r) in
      rw (packets_are g W, e) refl

  -- the next chain
  recorded_is : (g : ℕ) → Partway (slot_size x) p.length g
      → as_recorded false (next_chain lim false (moved_slot (begun_slot x p) Busy (moving p g p.zlp)))
      ≡ Receives (p.address + g) (packets_left lim (slot_size x) p.length g)
  recorded_is g W =
      let some = mul-le-mul_right (slot_size x) W.some in
      let here : (p.address + g) % 2 ^ 32 ≡ p.address + g = omega (arith, F.low, W.is_past, W.is_all, some) in
      rw (here, packets_are g W) refl

  slot_g : Tally → Slot
  slot_g t = moved_slot (begun_slot x p) (cond t.over Done Busy) (moving p t.sum p.zlp)

  After : ℕ → ℕ → Slot → Tally → Type 0
  After packets last y t =
      (slot_after lim false y (report_step lim false packets last y) ≡ slot_g t)
      × (handed_by lim false (report_step lim false packets last y)
      ≡ cond t.over [] (Receives (p.address + t.sum) (packets_left lim (slot_size x) p.length t.sum) ∷ []))

  -- a report that brings the sum to g
  after_more : (y : Slot) (last g : ℕ) (e : Bool) → (nat_lt last (slot_size x) || nat_le p.length g) ≡ e → (e ≡ false → Partway (slot_size x) p.length g)
      → (slot_after lim false y (step_of true (not e) (moved_slot (begun_slot x p) Busy (moving p g p.zlp))) ≡ slot_g (record { sum = g; over = e }))
      × (handed_by lim false (step_of true (not e) (moved_slot (begun_slot x p) Busy (moving p g p.zlp)))
      ≡ cond e [] (Receives (p.address + g) (packets_left lim (slot_size x) p.length g) ∷ []))
  unfolding slot_g
  after_more y last g true h W = (refl, refl)
  after_more y last g false h W = (refl, ap (λ (c : Chain). c ∷ []) (recorded_is g (W refl)))

  -- a report of a transfer that is busy, of which g bytes have come
  step_is : (g : ℕ) → Partway (slot_size x) p.length g → (r : Report)
      → report_step lim false r.packets r.last (moved_slot (begun_slot x p) Busy (moving p g p.zlp))
      ≡ step_of true (not (nat_lt r.last (slot_size x) || nat_le p.length (sum_with lim (slot_size x) p.length r g)))
      (moved_slot (begun_slot x p) Busy (moving p (sum_with lim (slot_size x) p.length r g) p.zlp))
  step_is g W r =
      let h = sum_with lim (slot_size x) p.length r g in
      ap (λ (u : Transfer). step_of true (nat_le (slot_size x) r.last && nat_lt u.progress u.length) (moved_slot (begun_slot x p) Busy u)) (arrived_is g W r)
      ∙ ap (λ (b : Bool). step_of true b (moved_slot (begun_slot x p) Busy (moving p h p.zlp))) (ends_or_goes (slot_size x) r.last h p.length)

  after_open : (r : Report) (t : Tally) → Partway (slot_size x) p.length t.sum → t.over ≡ false
      → After r.packets r.last (slot_g t) (tally_next lim (slot_size x) p.length r t)
  unfolding After slot_g tally_more
  after_open r t W q =
      let m = slot_size x in
      let l = p.length in
      let g = sum_with lim m l r t.sum in
      rw (tally_open lim m l r t q, q, step_is t.sum W r)
      (after_more (moved_slot (begun_slot x p) Busy (moving p t.sum p.zlp)) r.last g (nat_lt r.last m || nat_le l g) refl
      (λ e. let more = not_over m l r g e in onward m l F.size t.sum W lim r more.0 more.1))

  -- and of one that is done
  after_over : (r : Report) (t : Tally) → t.over ≡ true → After r.packets r.last (slot_g t) (tally_next lim (slot_size x) p.length r t)
  unfolding After slot_g
  after_over r t q = rw (tally_over lim (slot_size x) p.length r t q, q) (refl, refl)

  room : (0 < p.length) × (p.length % slot_size x ≡ 0)
  room = F.whole refl

  after : (r : Report) (rs : List Report) (b : Bool) → (tally lim (slot_size x) p.length rs).over ≡ b
      → After r.packets r.last (slot_g (tally lim (slot_size x) p.length rs)) (tally lim (slot_size x) p.length (r ∷ rs))
  unfolding tally
  after r rs true q = after_over r (tally lim (slot_size x) p.length rs) q
  after r rs false q =
      after_open r (tally lim (slot_size x) p.length rs) (still lim (slot_size x) p.length F.size room.0 room.1 rs q) q

  pub report_receives : (r : Report) (rs : List Report) → ReportFollows lim false x p r rs
  unfolding slot_by slot_ideal ideal ideal_out flag_left handed After slot_g
  report_receives r rs =
      let f = after r rs _ refl in
      record { slot = f.0; chain = f.1 }

  pub begin_receives : BeginFollows lim false x p
  unfolding slot_by slot_ideal ideal ideal_out flag_left handed tally
  begin_receives =
      record {
        slot = refl;
        chain = ap (λ (c : Chain). c ∷ []) (recorded_is 0 (at_start (slot_size x) p.length F.size room.0 room.1));
      }
