-- A transfer from the host that goes as it should stays in its buffer, counts what is reported, and ends by a short packet or when
-- the buffer is full.
-- Assumes nothing.
use Rattle.std.specs.Prelude.{ℕ, suc, ◌+◌, ◌*◌, ◌-◌, ◌/◌, ◌%◌, ◌<◌, ◌≤◌, min, max, Bool, true, false, ◌||◌, nat_lt, nat_le, ◌≡◌, refl, List, [], ◌∷◌, length}
use Rattle.std.proofs.Common.{sym, ap, ◌∙◌, mul-le-mul_right, div-add-mod', arith, ltb-false, lt-ltb}
use Rattle.std.proofs.Math.Nat.{mul-div_cancel}
use Rattle.std.proofs.lemmas.Bool.{leb-false, or_parts}
use Rattle.base.specs.EachLaws.{true_not_false}
use Rattle.history_ideal.specs.Ideal.{Receives, Report, Tally, packets_left, sum_with, tally_more, tally_next, tally, ideal_out}
use Rattle.history_ideal.specs.Plan.{FairReceive, packets_in, ReceivesWithin}
use Rattle.history_ideal.proofs.RoundingLaws.{split}

-- of l bytes g have come: whole packets, and whole packets are missing, one at least
pub record Partway (m l g : ℕ) : Type 0 where
  pub past : ℕ
  pub rest : ℕ
  pub is_past : g ≡ past * m
  pub is_all : l ≡ (past + rest) * m
  pub some : 0 < rest

module _ (lim m l : ℕ) where
  pub tally_open : (r : Report) (t : Tally) → t.over ≡ false → tally_next lim m l r t ≡ tally_more m l r (sum_with lim m l r t.sum)
  unfolding tally_next
  tally_open r t q = rw q refl

  pub tally_over : (r : Report) (t : Tally) → t.over ≡ true → tally_next lim m l r t ≡ t
  unfolding tally_next
  tally_over r t q = rw q refl

-- what isn't over had a full packet last, and bytes are missing
pub not_over : (m l : ℕ) (r : Report) (g : ℕ) → (tally_more m l r g).over ≡ false → (m ≤ r.last) × (g < l)
unfolding tally_more
not_over m l r g q = let parts = or_parts (nat_lt r.last m) (nat_le l g) q in (ltb-false r.last m parts.0, leb-false l g parts.1)

module _ (m l : ℕ) (pos : 0 < m) where
  -- nothing has come
  pub at_start : 0 < l → l % m ≡ 0 → Partway m l 0
  at_start some whole =
      let sum : l ≡ (0 + l / m) * m = omega (arith, div-add-mod' l m, whole) in
      record {
        past = 0;
        rest = l / m;
        is_past = omega arith;
        is_all = sum;
        some = split (l / m) 0 (λ k. absurd (omega (arith, mul-le-mul_right m k, sum, some))) (λ k. k);
      }

  module _ (g : ℕ) (W : Partway m l g) where
    pub left_is : l - g ≡ W.rest * m
    left_is = omega (arith, W.is_past, W.is_all)

    module _ (lim : ℕ) where
      -- as many packets are asked for as are missing, up to the most of a chain
      pub asked : packets_left lim m l g ≡ min lim W.rest
      unfolding packets_left
      asked = rw (left_is, mul-div_cancel W.rest pos) refl

      module _ (r : Report) where
        counted : ℕ
        counted = min (packets_left lim m l g) (max 1 r.packets) - 1

        counted_less : counted < W.rest
        unfolding counted
        counted_less = omega (arith, asked, W.some)

        -- a report never brings more than is missing,
        pub brings : sum_with lim m l r g ≤ l
        unfolding sum_with counted
        brings = omega (arith, W.is_past, W.is_all, mul-le-mul_right m counted_less)

        -- and where its last packet is full and the buffer isn't, whole packets are missing still
        pub onward : m ≤ r.last → sum_with lim m l r g < l → Partway m l (sum_with lim m l r g)
        unfolding sum_with counted
        onward last missing =
            let sum : W.past + suc counted + (W.rest - suc counted) ≡ W.past + W.rest = omega (arith, counted_less) in
            let come : sum_with lim m l r g ≡ (W.past + suc counted) * m = omega (arith, W.is_past, last) in
            record {
              past = W.past + suc counted;
              rest = W.rest - suc counted;
              is_past = come;
              is_all = rw sum W.is_all;
              some = split W.rest (suc counted) (λ k. absurd (omega (arith, mul-le-mul_right m k, W.is_past, W.is_all, missing, last))) (λ k. omega (arith, k));
            }

module _ (lim m l : ℕ) (pos : 0 < m) (some : 0 < l) (whole : l % m ≡ 0) where
  -- as long as it isn't over
  pub still : (rs : List Report) → (tally lim m l rs).over ≡ false → Partway m l (tally lim m l rs).sum
  unfolding tally tally_more
  still [] e = at_start m l pos some whole
  still (r ∷ rs) e = go (tally lim m l rs) (still rs) e
    where
      go : (t : Tally) → (t.over ≡ false → Partway m l t.sum) → (tally_next lim m l r t).over ≡ false → Partway m l (tally_next lim m l r t).sum
      go t k q = by t.over refl
        where
          by : (b : Bool) → t.over ≡ b → Partway m l (tally_next lim m l r t).sum
          by true e = absurd (true_not_false (sym e ∙ sym (ap (λ (u : Tally). u.over) (tally_over lim m l r t e)) ∙ q))
          by false e =
              let g = sum_with lim m l r t.sum in
              let next = tally_open lim m l r t e in
              let more = not_over m l r g (sym (ap (λ (u : Tally). u.over) next) ∙ q) in
              rw next (onward m l pos t.sum (k e) lim r more.0 more.1)

  more : (r : Report) (rs : List Report) → (tally lim m l rs).over ≡ false
      → tally lim m l (r ∷ rs) ≡ tally_more m l r (sum_with lim m l r (tally lim m l rs).sum)
  unfolding tally
  more r rs e = tally_open lim m l r (tally lim m l rs) e

  no_more : (rs : List Report) → (tally lim m l rs).sum ≤ l
  unfolding tally tally_more
  no_more [] = omega arith
  no_more (r ∷ rs) = go (no_more rs) (tally lim m l rs).over refl
    where
      go : (tally lim m l rs).sum ≤ l → (b : Bool) → (tally lim m l rs).over ≡ b → (tally_next lim m l r (tally lim m l rs)).sum ≤ l
      go before true e = rw (tally_over lim m l r (tally lim m l rs) e) before
      go before false e =
          rw (tally_open lim m l r (tally lim m l rs) e) (brings m l pos (tally lim m l rs).sum (still rs e) lim r)

  -- each report that isn't the last counts a packet at least
  counts_one : (r : Report) (g : ℕ) → m ≤ r.last → g + m ≤ sum_with lim m l r g
  unfolding sum_with
  counts_one r g h = omega (arith, h)

  packet_each : (rs : List Report) → (tally lim m l rs).over ≡ false → length rs * m ≤ (tally lim m l rs).sum
  unfolding tally tally_more
  packet_each [] e = omega arith
  packet_each (r ∷ rs) e = go (packet_each rs) (tally lim m l rs).over refl
    where
      go : ((tally lim m l rs).over ≡ false → length rs * m ≤ (tally lim m l rs).sum) → (b : Bool) → (tally lim m l rs).over ≡ b
          → suc (length rs) * m ≤ (tally_next lim m l r (tally lim m l rs)).sum
      go before true q = absurd (true_not_false (sym q ∙ sym (ap (λ (u : Tally). u.over) (tally_over lim m l r (tally lim m l rs) q)) ∙ e))
      go before false q =
          let next = tally_open lim m l r (tally lim m l rs) q in
          let more = not_over m l r (sum_with lim m l r (tally lim m l rs).sum) (sym (ap (λ (u : Tally). u.over) next) ∙ e) in
          rw next (omega (arith, before q, counts_one r (tally lim m l rs).sum more.0))

  at_latest : (rs : List Report) → l / m ≤ length rs → (b : Bool) → (tally lim m l rs).over ≡ b → b ≡ true
  at_latest rs h true q = refl
  at_latest rs h false q =
      let W = still rs q in
      absurd (omega (arith, packet_each rs q, mul-le-mul_right m h, div-add-mod' l m, whole, W.is_past, W.is_all, mul-le-mul_right m W.some, pos))

  inside : (a : ℕ) → 0 < lim → (rs : List Report) → (tally lim m l rs).over ≡ false
      → FairReceive lim m a l (Receives (a + (tally lim m l rs).sum) (packets_left lim m l (tally lim m l rs).sum))
  unfolding FairReceive
  inside a one rs e =
      let W = still rs e in
      let g = (tally lim m l rs).sum in
      let q : packets_left lim m l g ≡ min lim W.rest = asked m l pos g W lim in
      let u : min lim W.rest * m ≤ W.rest * m = mul-le-mul_right m (omega arith) in
      rw q (omega (arith, W.some, one), omega arith, omega arith, omega (arith, u, W.is_past, W.is_all))

  closed : (r : Report) (rs : List Report) → r.last < m → (b : Bool) → (tally lim m l rs).over ≡ b → (tally lim m l (r ∷ rs)).over ≡ true
  unfolding tally tally_more
  closed r rs h true e = ap (λ (u : Tally). u.over) (tally_over lim m l r (tally lim m l rs) e) ∙ e
  closed r rs h false e = ap (λ (u : Tally). u.over) (tally_open lim m l r (tally lim m l rs) e) ∙ rw (lt-ltb r.last m h) refl

  pub receives_within : (a : ℕ) → 0 < lim → ReceivesWithin lim m a l (ideal_out lim m a l)
  unfolding ideal_out tally tally_more packets_left packets_in sum_with
  receives_within a one =
      record {
        at_first = (refl, refl);
        next = λ rs e. refl;
        inside = inside a one;
        exactly = λ r rs e.
            let next = more r rs e in
            ap (λ (u : Tally). u.over) next ∙ ap (λ (g : ℕ). nat_lt r.last m || nat_le l g) (sym (ap (λ (u : Tally). u.sum) next));
        stays = λ r rs e.
            let same = tally_over lim m l r (tally lim m l rs) e in
            (ap (λ (u : Tally). u.over) same ∙ e, ap (λ (u : Tally). u.sum) same);
        adds = λ r rs e. ap (λ (u : Tally). u.sum) (more r rs e);
        closed = λ r rs h. closed r rs h (tally lim m l rs).over refl;
        at_latest = λ rs h. at_latest rs h (tally lim m l rs).over refl;
        no_more = no_more;
        progress = λ rs. refl;
      }
