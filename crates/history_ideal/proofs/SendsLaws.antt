-- A transfer to the host that goes as it should sends its bytes, each once and in order, in fair chains, and is closed as USB has it.
-- Assumes nothing.
use Rattle.std.specs.Prelude.{ℕ, zero, suc, ◌+◌, ◌*◌, ◌-◌, ◌/◌, ◌%◌, ◌<◌, ◌≤◌, min, max, Bool, true, false, not, cond, ◌==◌, ◌≡◌, refl, eqb, List, [], ◌∷◌, ◌++◌, length, replicate}
use Rattle.std.proofs.Common.{sym, ap, ◌∙◌, mul-le-mul_right, div-add-mod', arith, leb-true, eqb-true, le-ltb, lt-ltb, ne_eqb, eq-eqb}
use Rattle.std.proofs.Math.Nat.{mul_assoc, add-mod_right, mul-mod_left}
use Rattle.std.proofs.lemmas.Bool.{le-leb, lt-leb}
use Rattle.std.proofs.lemmas.List.{append-nil, flat_map_more, replicate_more, replicate-append-replicate, append_assoc, length-append}
use Rattle.std.proofs.lemmas.List.Sums.{sum_by-append}
use Rattle.std.proofs.lemmas.Nat.{div-mul-add, mod-mul-add}
use Rattle.base.specs.Ceil.{div_ceil}
use Rattle.base.specs.CeilLaws.{below_ceil, ceil_above}
use Rattle.history_ideal.specs.Ideal.{Chain, Sends, Report, full, chain_count, data_chain, start_of, bytes_of, chain_in, ideal_in}
use Rattle.history_ideal.specs.Plan.{handed, chains_of, begins_at, packets_in, before, span, read_by, read_all, packets_of, packet_lengths, data_lengths, all_lengths, FairSend, Closed, short_end, closed_once, SendsAll}
use Rattle.history_ideal.proofs.RoundingLaws.{split, ceil_within, ceil_covers}
use Rattle.history_ideal.proofs.CountLaws.{packets_some, packets_none, full_some, count_some, count_covers, count_none, count_flag, count_clear, count_zeros}
use Rattle.history_ideal.proofs.PacketsLaws.{span_add, span_none, zeros, before_last, last_within, data_read, data_fair, data_packets, data_zeros, whole_packets, none_read, none_fair, none_packets, none_zeros}

module _ (lim : ℕ) (one : 0 < lim) (m l : ℕ) (pos : 0 < m) (own a : ℕ) where
  some_full : 0 < full lim m
  some_full = full_some lim one m l pos

  -- ---- the chain behind k others

  chain_data : (k : ℕ) → k * full lim m < l → chain_in lim own m a l k ≡ data_chain m (start_of lim m a k) (bytes_of lim m l k)
  unfolding chain_in
  chain_data k h = rw (lt-ltb (k * full lim m) l h) refl

  chain_none : (k : ℕ) → l ≤ k * full lim m → chain_in lim own m a l k ≡ Sends own 1 0
  unfolding chain_in
  chain_none k h = rw (le-ltb (k * full lim m) l h) refl

  bytes_some : (k : ℕ) → k * full lim m < l → (0 < bytes_of lim m l k) × (bytes_of lim m l k ≤ full lim m)
  unfolding bytes_of
  bytes_some k h = (omega (arith, some_full, h), omega arith)

  -- how far k chains come
  ends : ℕ → ℕ
  ends k = min l (k * full lim m)

  chain_read : (k : ℕ) → read_by m (chain_in lim own m a l k) ≡ span (a + ends k) (ends (suc k) - ends k)
  unfolding ends start_of bytes_of
  chain_read k =
      split l (k * full lim m)
      (λ h.
      let e : min l (suc k * full lim m) - min l (k * full lim m) ≡ 0 = omega (arith, h) in
      rw (chain_none k h, e) (none_read lim one own m pos ∙ sym (span_none _)))
      (λ h.
      let e1 : min l (k * full lim m) ≡ k * full lim m = omega (arith, h) in
      let e2 : min l (suc k * full lim m) - k * full lim m ≡ min (l - k * full lim m) (full lim m) = omega (arith, h) in
      let some = bytes_some k h in
      rw (chain_data k h, e1, e2) (data_read lim m pos _ _ some.0 some.1))

  chain_fair : (k : ℕ) → FairSend lim m (chain_in lim own m a l k)
  chain_fair k =
      split l (k * full lim m) (λ h. rw (chain_none k h) (none_fair lim one own m pos))
      (λ h. let some = bytes_some k h in rw (chain_data k h) (data_fair lim m pos _ _ some.0 some.1))

  -- what k chains leave
  bytes_left : (k : ℕ) → bytes_of lim m l k ≡ min (l - ends k) (full lim m)
  unfolding bytes_of ends
  bytes_left k = omega arith

  chain_place : (k : ℕ) → ends k < l → begins_at (chain_in lim own m a l k) ≡ a + ends k
  unfolding begins_at data_chain start_of ends
  chain_place k h =
      let g : k * full lim m < l = omega (arith, h) in
      let e : min l (k * full lim m) ≡ k * full lim m = omega (arith, h) in
      rw (chain_data k g, e) refl

  chain_packets : (k : ℕ) → packets_in (chain_in lim own m a l k) ≡ min lim (max 1 (div_ceil (l - ends k) m))
  unfolding packets_in data_chain ends
  chain_packets k =
      split l (k * full lim m)
      (λ h. let e : l - min l (k * full lim m) ≡ 0 = omega (arith, h) in rw (chain_none k h, e) (sym (packets_none lim one m pos)))
      (λ h. rw (chain_data k h, bytes_left k) (sym (packets_some lim one m pos (l - min l (k * full lim m)) (omega (arith, h)))))

  chain_zeros : (k : ℕ) → zeros (packets_of m (chain_in lim own m a l k)) ≡ suc k - max k (div_ceil l (full lim m))
  chain_zeros k =
      split l (k * full lim m) (λ h. rw (chain_none k h) (none_zeros lim one own m pos ∙ omega (arith, ceil_within l (full lim m) some_full k h)))
      (λ h. let some = bytes_some k h in rw (chain_data k h) (data_zeros lim m pos _ _ some.0 some.1 ∙ omega (arith, ceil_above l (full lim m) k some_full h)))

  -- a chain that is full, and one of a buffer of whole packets
  IsWhole : ℕ → Type 0
  IsWhole k = (q : ℕ) × (packets_of m (chain_in lim own m a l k) ≡ replicate q m)

  full_packets : (k : ℕ) → suc k * full lim m ≤ l → packets_of m (chain_in lim own m a l k) ≡ replicate lim m
  unfolding full bytes_of
  full_packets k h =
      let e : bytes_of lim m l k ≡ lim * m = omega (arith, some_full) in
      ap (packets_of m) (chain_data k (omega (arith, some_full))) ∙ rw e (whole_packets lim m pos _ lim one)

  full_whole : (k : ℕ) → suc k * full lim m ≤ l → IsWhole k
  unfolding IsWhole
  full_whole k h = (lim, full_packets k h)

  rest_whole : (k : ℕ) → l % m ≡ 0 → k * full lim m < l → l ≤ suc k * full lim m → IsWhole k
  unfolding IsWhole full bytes_of
  rest_whole k d h g =
      let q = l / m - k * lim in
      let sum : l ≡ l / m * m = omega (arith, div-add-mod' l m) in
      let past : k * lim * m ≡ k * (lim * m) = mul_assoc k lim m in
      let more : k * lim < l / m = split (l / m) (k * lim) (λ t. absurd (omega (arith, mul-le-mul_right m t, sum, past))) (λ t. t) in
      let parts : (k * lim + q) * m ≡ l / m * m = ap (λ (n : ℕ). n * m) (omega arith) in
      let e : bytes_of lim m l k ≡ q * m = omega (arith, sum, past, parts) in
      (q, ap (packets_of m) (chain_data k h) ∙ rw e (whole_packets lim m pos _ q (omega arith)))

  -- how the last chain ends
  EndsBy : Bool → ℕ → Type 0
  EndsBy short k = (d : ℕ) × (x : ℕ) × (packets_of m (chain_in lim own m a l k) ≡ replicate d m ++ x ∷ []) × cond short (x < m) (x ≡ m)

  ends_empty : (k : ℕ) → l ≤ k * full lim m → EndsBy true k
  unfolding EndsBy
  ends_empty k h = (0, 0, ap (packets_of m) (chain_none k h) ∙ none_packets lim one own m pos, pos)

  ends_data : (k : ℕ) → k * full lim m < l → l ≤ suc k * full lim m → EndsBy (not (l % m == 0)) k
  unfolding EndsBy full bytes_of
  ends_data k h g =
      let b = start_of lim m a k in
      let x = bytes_of lim m l k in
      let c = div_ceil x m in
      let y = x - (c - 1) * m in
      let some = bytes_some k h in
      let before = before_last lim m pos b x some.0 some.1 in
      let last = last_within lim m pos b x some.0 some.1 in
      let past : k * lim * m ≡ k * (lim * m) = mul_assoc k lim m in
      let sum : l ≡ (k * lim + (c - 1)) * m + y = omega (arith, past, before, h, g) in
      let n = k * lim + (c - 1) in
      let end : cond (not (l % m == 0)) (y < m) (y ≡ m) =
      split m y (λ t. whole n y sum (omega (arith, t, last))) (λ t. short n y sum (omega (arith, before)) t) in
      (c - 1, y, ap (packets_of m) (chain_data k h) ∙ data_packets lim m pos b x some.0 some.1, end)
    where
      whole : (n y : ℕ) → l ≡ n * m + y → y ≡ m → cond (not (l % m == 0)) (y < m) (y ≡ m)
      whole n y sum e =
          let z : l % m ≡ 0 = rw (sum, e) (add-mod_right (n * m) m ∙ mul-mod_left n m) in
          rw z e

      short : (n y : ℕ) → l ≡ n * m + y → 0 < y → y < m → cond (not (l % m == 0)) (y < m) (y ≡ m)
      short n y sum some e =
          let z : l % m ≡ y = rw sum (mod-mul-add n m y e) in
          let t : eqb y 0 ≡ false = ne_eqb y 0 (λ q. omega (arith, q, some)) in
          rw (z, t) e

  -- ---- the first n chains

  chains_to : ℕ → List Chain
  chains_to zero = []
  chains_to (suc n) = chains_to n ++ chain_in lim own m a l n ∷ []

  length_to : (n : ℕ) → length (chains_to n) ≡ n
  unfolding chains_to
  length_to zero = refl
  length_to (suc n) = length-append (chains_to n) _ ∙ omega (arith, length_to n)

  read_to : (n : ℕ) → read_all m (chains_to n) ≡ span a (ends n)
  unfolding chains_to ends
  read_to zero = let e : min l (0 * full lim m) ≡ 0 = omega arith in rw e (sym (span_none a))
  read_to (suc n) =
      let e : ends n + (ends (suc n) - ends n) ≡ ends (suc n) = omega arith in
      sym (flat_map_more (read_by m) [] (chains_to n) _) ∙ rw (read_to n, chain_read n) (span_add a (ends n) (ends (suc n) - ends n) ∙ ap (span a) e)

  zeros_to : (n : ℕ) → zeros (packet_lengths m (chains_to n)) ≡ n - div_ceil l (full lim m)
  unfolding chains_to
  zeros_to zero = omega arith
  zeros_to (suc n) =
      ap zeros (sym (flat_map_more (packets_of m) [] (chains_to n) _)) ∙ sum_by-append (λ (k : ℕ). cond (k == 0) 1 0) (packet_lengths m (chains_to n)) _
      ∙ rw (zeros_to n, chain_zeros n) (omega arith)

  whole_to : (n : ℕ) → ((k : ℕ) → k < n → IsWhole k) → (q : ℕ) × (packet_lengths m (chains_to n) ≡ replicate q m)
  unfolding chains_to IsWhole
  whole_to zero h = (0, refl)
  whole_to (suc n) h =
      let before = whole_to n (λ k b. h k (omega arith)) in
      let this = h n (omega arith) in
      (before.0 + this.0, sym (flat_map_more (packets_of m) [] (chains_to n) _) ∙ rw (before.1, this.1) (replicate-append-replicate before.0 this.0 m))

  joined : (short : Bool) (n : ℕ) → ((k : ℕ) → k < n → IsWhole k) → EndsBy short n → Closed m short (packet_lengths m (chains_to (suc n)))
  unfolding chains_to EndsBy
  joined short n h g =
      let before = whole_to n h in
      record {
        whole = before.0 + g.0;
        last = g.1;
        are =
            sym (flat_map_more (packets_of m) [] (chains_to n) _)
            ∙ rw (before.1, g.2, sym (append_assoc (replicate before.0 m) (replicate g.0 m) (g.1 ∷ [])), replicate-append-replicate before.0 g.0 m) refl;
        ends = g.3;
      }

  -- ---- all of the chains

  closed_flag : 0 < l → l % m ≡ 0 → Closed m true (packet_lengths m (chains_to (suc (div_ceil l (full lim m)))))
  closed_flag h d =
      joined true (div_ceil l (full lim m)) (λ k b. each k (below_ceil l (full lim m) k some_full b))
      (ends_empty (div_ceil l (full lim m)) (ceil_covers l (full lim m) some_full))
    where
      each : (k : ℕ) → k * full lim m < l → IsWhole k
      each k b = split (suc k * full lim m) l (λ g. full_whole k g) (λ g. rest_whole k d b (omega (arith, g)))

  closed_clear : 0 < l → Closed m (not (l % m == 0)) (packet_lengths m (chains_to (suc (div_ceil l (full lim m) - 1))))
  closed_clear h =
      let some = ceil_above l (full lim m) 0 some_full (omega (arith, h)) in
      let last : suc (div_ceil l (full lim m) - 1) ≡ div_ceil l (full lim m) = omega (arith, some) in
      joined (not (l % m == 0)) (div_ceil l (full lim m) - 1) (λ k b. full_whole k (omega (arith, below_ceil l (full lim m) (suc k) some_full (omega (arith, b)))))
      (ends_data (div_ceil l (full lim m) - 1) (below_ceil l (full lim m) _ some_full (omega (arith, some))) (rw last (ceil_covers l (full lim m) some_full)))

  closed_to : (f : Bool) → closed_once m l f ≡ true → Closed m (short_end m l f) (packet_lengths m (chains_to (chain_count lim m l f)))
  closed_to f q = split l 0 (none f) (some f q)
    where
      none : (g : Bool) → l ≤ 0 → Closed m (short_end m l g) (packet_lengths m (chains_to (chain_count lim m l g)))
      none true h = rw (count_none lim one m l pos true h) (joined true 0 (λ k b. absurd (omega (arith, b))) (ends_empty 0 (omega (arith, h))))
      none false h =
          rw (count_none lim one m l pos false h, eq-eqb l 0 (omega (arith, h)))
          (joined true 0 (λ k b. absurd (omega (arith, b))) (ends_empty 0 (omega (arith, h))))

      some : (g : Bool) → closed_once m l g ≡ true → 0 < l → Closed m (short_end m l g) (packet_lengths m (chains_to (chain_count lim m l g)))
      some true q h = rw (count_flag lim one m l pos h) (closed_flag h (eqb-true (l % m) 0 q))
      some false q h = rw (count_clear lim one m l pos h, ne_eqb l 0 (λ e. omega (arith, e, h))) (closed_clear h)

  -- ---- the packets, one by one

  full_to : (n : ℕ) → n * full lim m ≤ l → packet_lengths m (chains_to n) ≡ replicate (n * lim) m
  unfolding chains_to
  full_to zero h = let e : 0 * lim ≡ 0 = omega arith in rw e refl
  full_to (suc n) h =
      let e : n * lim + lim ≡ suc n * lim = omega arith in
      sym (flat_map_more (packets_of m) [] (chains_to n) _)
      ∙ rw (full_to n (omega (arith, h)), full_packets n h) (replicate-append-replicate (n * lim) lim m ∙ ap (λ (q : ℕ). replicate q m) e)

  -- n whole packets and one of y bytes, which may be whole as well
  whole_and_rest : (n y : ℕ) → l ≡ n * m + y → 0 < y → y ≤ m → replicate n m ++ y ∷ [] ≡ data_lengths m l
  whole_and_rest n y sum some most =
      split m y
      (λ t.
      let e : y ≡ m = omega (arith, t, most) in
      let total : l ≡ suc n * m + 0 = omega (arith, sum, e) in
      let q : l / m ≡ suc n = rw total (div-mul-add (suc n) m 0 pos) in
      let z : l % m ≡ 0 = rw total (mod-mul-add (suc n) m 0 pos) in
      let more : n + 1 ≡ suc n = omega arith in
      rw (e, q, z) (replicate_more n m ∙ ap (λ (k : ℕ). replicate k m) more ∙ sym (append-nil (replicate (suc n) m))))
      (λ t.
      let q : l / m ≡ n = rw sum (div-mul-add n m y t) in
      let z : l % m ≡ y = rw sum (mod-mul-add n m y t) in
      let b : eqb y 0 ≡ false = ne_eqb y 0 (λ g. omega (arith, g, some)) in
      rw (q, z, b) refl)

  last_data : (k : ℕ) → k * full lim m < l → l ≤ suc k * full lim m → packet_lengths m (chains_to (suc k)) ≡ data_lengths m l
  unfolding chains_to full bytes_of
  last_data k h g =
      let b = start_of lim m a k in
      let x = bytes_of lim m l k in
      let c = div_ceil x m in
      let y = x - (c - 1) * m in
      let some = bytes_some k h in
      let before = before_last lim m pos b x some.0 some.1 in
      let past : k * lim * m ≡ k * (lim * m) = mul_assoc k lim m in
      let sum : l ≡ (k * lim + (c - 1)) * m + y = omega (arith, past, before, h, g) in
      let lengths : packets_of m (chain_in lim own m a l k) ≡ replicate (c - 1) m ++ y ∷ [] =
      ap (packets_of m) (chain_data k h) ∙ data_packets lim m pos b x some.0 some.1 in
      sym (flat_map_more (packets_of m) [] (chains_to k) _)
      ∙ rw (full_to k (omega (arith, h)), lengths, sym (append_assoc (replicate (k * lim) m) (replicate (c - 1) m) (y ∷ [])), replicate-append-replicate (k * lim) (c - 1) m)
      (whole_and_rest (k * lim + (c - 1)) y sum (omega (arith, before)) (last_within lim m pos b x some.0 some.1))

  data_to : 0 < l → packet_lengths m (chains_to (suc (div_ceil l (full lim m) - 1))) ≡ data_lengths m l
  data_to h =
      let some = ceil_above l (full lim m) 0 some_full (omega (arith, h)) in
      let last : suc (div_ceil l (full lim m) - 1) ≡ div_ceil l (full lim m) = omega (arith, some) in
      last_data (div_ceil l (full lim m) - 1) (below_ceil l (full lim m) _ some_full (omega (arith, some))) (rw last (ceil_covers l (full lim m) some_full))

  -- an empty packet behind n chains
  empty_to : (n : ℕ) → l ≤ n * full lim m → packet_lengths m (chains_to (suc n)) ≡ packet_lengths m (chains_to n) ++ 0 ∷ []
  unfolding chains_to
  empty_to n h =
      let lengths : packets_of m (chain_in lim own m a l n) ≡ 0 ∷ [] = ap (packets_of m) (chain_none n h) ∙ none_packets lim one own m pos in
      sym (flat_map_more (packets_of m) [] (chains_to n) _) ∙ rw lengths refl

  lengths_to : (f : Bool) → packet_lengths m (chains_to (chain_count lim m l f)) ≡ all_lengths m l f
  unfolding chains_to
  lengths_to f = split l 0 (λ h. rw (count_none lim one m l pos f h) (nothing f (omega (arith, h)))) (some f)
    where
      nothing : (g : Bool) → l ≡ 0 → packet_lengths m (chains_to (suc 0)) ≡ all_lengths m l g
      nothing g e =
          let total : l ≡ 0 * m + 0 = omega (arith, e) in
          let q : l / m ≡ 0 = rw total (div-mul-add 0 m 0 pos) in
          let z : l % m ≡ 0 = rw total (mod-mul-add 0 m 0 pos) in
          empty_to 0 (omega (arith, e)) ∙ rw (q, z, eq-eqb l 0 e) refl

      some : (g : Bool) → 0 < l → packet_lengths m (chains_to (chain_count lim m l g)) ≡ all_lengths m l g
      some true h =
          let least = ceil_above l (full lim m) 0 some_full (omega (arith, h)) in
          let last : suc (div_ceil l (full lim m) - 1) ≡ div_ceil l (full lim m) = omega (arith, least) in
          rw (count_flag lim one m l pos h, ne_eqb l 0 (λ e. omega (arith, e, h)))
          (empty_to (div_ceil l (full lim m)) (ceil_covers l (full lim m) some_full)
          ∙ ap (λ (n : ℕ). packet_lengths m (chains_to n) ++ 0 ∷ []) (sym last) ∙ ap (λ (t : List ℕ). t ++ 0 ∷ []) (data_to h))
      some false h =
          rw (count_clear lim one m l pos h, ne_eqb l 0 (λ e. omega (arith, e, h))) (data_to h ∙ sym (append-nil (data_lengths m l)))

  module _ (f : Bool) where
    all_of : (rs : List Report) → chains_of (ideal_in lim own m a l f) rs ≡ chains_to (min (suc (length rs)) (chain_count lim m l f))
    unfolding chains_of handed ideal_in chains_to
    all_of [] =
        let e : min (suc 0) (chain_count lim m l f) ≡ suc 0 = omega (arith, count_some lim one m l pos f) in
        rw (e, lt-leb (chain_count lim m l f) 0 (count_some lim one m l pos f)) refl
    all_of (r ∷ rs) =
        split (chain_count lim m l f) (suc (length rs))
        (λ h.
        let e1 : min (suc (length rs)) (chain_count lim m l f) ≡ chain_count lim m l f = omega (arith, h) in
        let e2 : min (suc (suc (length rs))) (chain_count lim m l f) ≡ chain_count lim m l f = omega (arith, h) in
        rw (all_of rs, e1, e2, le-leb (chain_count lim m l f) (suc (length rs)) h) (append-nil (chains_to (chain_count lim m l f))))
        (λ h.
        let e1 : min (suc (length rs)) (chain_count lim m l f) ≡ suc (length rs) = omega (arith, h) in
        let e2 : min (suc (suc (length rs))) (chain_count lim m l f) ≡ suc (suc (length rs)) = omega (arith, h) in
        rw (all_of rs, e1, e2, lt-leb (chain_count lim m l f) (suc (length rs)) h) refl)

    -- done is at the N-th report
    done_at : (rs : List Report) → (ideal_in lim own m a l f).done rs ≡ true → chain_count lim m l f ≤ length rs
    unfolding ideal_in
    done_at rs h = leb-true (chain_count lim m l f) (length rs) h

    done_of : (rs : List Report) → (ideal_in lim own m a l f).done rs ≡ true → chains_of (ideal_in lim own m a l f) rs ≡ chains_to (chain_count lim m l f)
    done_of rs h =
        let e : min (suc (length rs)) (chain_count lim m l f) ≡ chain_count lim m l f = omega (arith, done_at rs h) in
        rw (all_of rs, e) refl

    reads_of : (rs : List Report) → read_all m (chains_of (ideal_in lim own m a l f) rs) ≡ span a (min l (suc (length rs) * full lim m))
    unfolding ends
    reads_of rs =
        ap (read_all m) (all_of rs) ∙ read_to (min (suc (length rs)) (chain_count lim m l f))
        ∙ ap (span a)
        (split (chain_count lim m l f) (suc (length rs))
        (λ h.
        let e : min (suc (length rs)) (chain_count lim m l f) ≡ chain_count lim m l f = omega (arith, h) in
        rw e (omega (arith, count_covers lim one m l pos f (chain_count lim m l f) (omega arith), count_covers lim one m l pos f (suc (length rs)) h)))
        (λ h. let e : min (suc (length rs)) (chain_count lim m l f) ≡ suc (length rs) = omega (arith, h) in rw e refl))

    before_is : (rs : List Report) → before (ideal_in lim own m a l f) rs ≡ ends (length rs)
    unfolding before ideal_in ends
    before_is [] = omega arith
    before_is (r ∷ rs) = refl

    pub sends_all : SendsAll lim m a l f (ideal_in lim own m a l f)
    unfolding ideal_in
    sends_all =
        record {
          at_first = lt-leb (chain_count lim m l f) 0 (count_some lim one m l pos f);
          reads = reads_of;
          within = λ rs. omega arith;
          all = λ rs h. (omega (arith, count_covers lim one m l pos f (length rs) (done_at rs h)), refl);
          place = λ rs h g. rw (before_is rs) (chain_place (length rs) (rw (before_is rs) at g));
          next = λ rs h. rw (before_is rs) (chain_packets (length rs));
          fair = λ rs h. chain_fair (length rs);
          many = λ rs h. rw (done_of rs h) (length_to (chain_count lim m l f));
          exactly = λ rs. refl;
          packets = λ rs h. rw (done_of rs h) (lengths_to f);
          one_empty = λ rs h. rw (done_of rs h) (zeros_to (chain_count lim m l f) ∙ count_zeros lim one m l pos f);
          closed = λ rs h q. rw (done_of rs h) (closed_to f q);
        }
